use Rattle.std.proofs.Common.{◌≡◌, ◌∙◌, List, Option, Some, map, sym, ap}
use Rattle.std.specs.Prelude.{is_some}
use Rattle.std.specs.Option.{option_copied}
use Rattle.axi_beats.specs.declared.beat.WBeat.{WBeat}
use Rattle.node_core.specs.Rows.{put_of, take_of}
use Rattle.plain_lists.proofs.PlaceLemmas.{map-has}
use Rattle.up_node.proofs.EntryLemmas.{data-moves, left-at, noted-at_first, passing-at}
use Rattle.up_node.specs.UpBeats.{beat_shift, beat_widened}
use Rattle.up_node.specs.UpInside.{waiting_of}
use Rattle.up_node.specs.UpTable.{data_moved, entries_after_data}
use Rattle.up_node.specs.declared.passing.Passing.{Passing}
use Rattle.up_node.proofs.rows.pass_data.Goals as goal

pub put_data-requires-clause-entry : goal.put_data-requires-clause-entry
put_data-requires-clause-entry c = passing-at c.args.shape.now.narrow c.args.entries.now 0 c.get.result.now c.requires.entries c.get.ensures

pub note_beat-requires-clause-left : goal.note_beat-requires-clause-left
note_beat-requires-clause-left c = left-at c.args.shape.now.narrow c.args.entries.now 0 c.get.result.now c.requires.entries c.get.ensures

moves : (c : goal.After-note_beat) → data_moved c.args.shape.now c.args.room (option_copied c.args.head) (map waiting_of c.args.entries.now)
    ≡ Some (beat_widened c.args.shape.now (beat_shift c.args.shape.now c.get.result.now.request c.get.result.now.passed) c.in-Some.beat.now)
moves c =
    data-moves c.args.shape.now c.args.room (option_copied c.args.head) (map waiting_of c.args.entries.now) c.in-Some.beat.now (waiting_of c.get.result.now) c.if-room.true
    (ap option_copied c.in-Some.is) (map-has waiting_of c.args.entries.now 0 c.get.result.now c.get.ensures)

pub returns-in-Some-clause-take : goal.returns-in-Some-clause-take
returns-in-Some-clause-take c = c.set_take.ensures ∙ sym (ap (λ (o : Option WBeat). take_of c.args.shape.now.upper (is_some o)) (moves c))

pub returns-in-Some-clause-put : goal.returns-in-Some-clause-put
returns-in-Some-clause-put c = c.put_data.ensures ∙ sym (ap (put_of c.args.shape.now.lower) (moves c))

pub returns-in-Some-clause-entries : goal.returns-in-Some-clause-entries
returns-in-Some-clause-entries c =
    ap (λ (es : List Passing). map waiting_of es) c.note_beat.ensures
    ∙ noted-at_first c.args.entries.now c.get.result.now c.get.ensures
    ∙ sym (ap (λ (o : Option WBeat). entries_after_data o (map waiting_of c.args.entries.now)) (moves c))
