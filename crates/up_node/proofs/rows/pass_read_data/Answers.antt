use Rattle.std.proofs.Common.{◌≡◌, ◌∙◌, List, Option, Some, None, map, sym, ap}
use Rattle.std.specs.Prelude.{is_some}
use Rattle.std.specs.Option.{option_copied}
use Rattle.axi_beats.specs.declared.beat.RBeat.{RBeat}
use Rattle.node_core.specs.Rows.{put_of, take_of}
use Rattle.up_node.proofs.EntryLemmas.{left-at, noted-oldest, oldest-at, oldest-none, passing-at, read_data-moves, read_data-stays_early, read_data-stays_full, read_data-stays_none}
use Rattle.up_node.specs.UpBeats.{beat_narrowed, beat_shift}
use Rattle.up_node.specs.UpInside.{waiting_of}
use Rattle.up_node.specs.UpTable.{entries_after_read_data, read_data_moved}
use Rattle.up_node.specs.declared.passing.Passing.{Passing}
use Rattle.up_node.proofs.rows.pass_read_data.Goals.{in-Some+in-Some-oldest+else-room, in-Some+in_default-oldest, in_default}
use Rattle.up_node.proofs.rows.pass_read_data.Goals as goal

pub put_read_data-requires-clause-entry : goal.put_read_data-requires-clause-entry
put_read_data-requires-clause-entry c = passing-at c.args.shape.now.narrow c.args.entries.now c.in-Some-oldest.place c.get.result.now c.requires.entries c.get.ensures

pub note_beat-requires-clause-left : goal.note_beat-requires-clause-left
note_beat-requires-clause-left c = left-at c.args.shape.now.narrow c.args.entries.now c.in-Some-oldest.place c.get.result.now c.requires.entries c.get.ensures

moves : (c : goal.After-note_beat) → read_data_moved c.args.shape.now c.args.room (option_copied c.args.head) (map waiting_of c.args.entries.now)
    ≡ Some (beat_narrowed c.args.shape.now (beat_shift c.args.shape.now c.get.result.now.request c.get.result.now.passed) c.in-Some.beat.now)
moves c =
    read_data-moves c.args.shape.now c.args.room (option_copied c.args.head) (map waiting_of c.args.entries.now) c.in-Some.beat.now (waiting_of c.get.result.now) c.if-room.true
    (ap option_copied c.in-Some.is) (oldest-at c.in-Some.beat.now.id c.args.entries.now c.in-Some-oldest.place c.get.result.now (sym c.oldest.ensures.oldest ∙ c.in-Some-oldest.is) c.get.ensures)

pub returns-then-room-clause-take : goal.returns-then-room-clause-take
returns-then-room-clause-take c = c.set_take.ensures ∙ sym (ap (λ (o : Option RBeat). take_of c.args.shape.now.lower (is_some o)) (moves c))

pub returns-then-room-clause-put : goal.returns-then-room-clause-put
returns-then-room-clause-put c = c.put_read_data.ensures ∙ sym (ap (put_of c.args.shape.now.upper) (moves c))

pub returns-then-room-clause-entries : goal.returns-then-room-clause-entries
returns-then-room-clause-entries c =
    ap (λ (es : List Passing). map waiting_of es) c.note_beat.ensures
    ∙ noted-oldest c.in-Some.beat.now.id c.args.entries.now c.in-Some-oldest.place (sym c.oldest.ensures.oldest ∙ c.in-Some-oldest.is)
    ∙ sym (ap (λ (o : Option RBeat). entries_after_read_data o (map waiting_of c.args.entries.now)) (moves c))

stays : (c : goal.After-set_put) → read_data_moved c.args.shape.now c.args.room (option_copied c.args.head) (map waiting_of c.args.entries.now) ≡ None
stays c = elim c.match-head.branch [
  | in-Some+in-Some-oldest+else-room w ↦ read_data-stays_full c.args.shape.now c.args.room (option_copied c.args.head) (map waiting_of c.args.entries.now) w.if-room.false
  | in-Some+in_default-oldest w ↦
      read_data-stays_early c.args.shape.now c.args.room (option_copied c.args.head) (map waiting_of c.args.entries.now) w.in-Some.beat.now (ap option_copied w.in-Some.is)
      (oldest-none w.in-Some.beat.now.id c.args.entries.now (sym w.oldest.ensures.oldest ∙ w.in_default-oldest.is))
  | in_default w ↦ read_data-stays_none c.args.shape.now c.args.room (option_copied c.args.head) (map waiting_of c.args.entries.now) (ap option_copied w.in_default.is)
]

pub returns-clause-take : goal.returns-clause-take
returns-clause-take c = c.set_take-2.ensures ∙ sym (ap (λ (o : Option RBeat). take_of c.args.shape.now.lower (is_some o)) (stays c))

pub returns-clause-put : goal.returns-clause-put
returns-clause-put c = c.set_put.ensures ∙ sym (ap (put_of c.args.shape.now.upper) (stays c))

pub returns-clause-entries : goal.returns-clause-entries
returns-clause-entries c = sym (ap (λ (o : Option RBeat). entries_after_read_data o (map waiting_of c.args.entries.now)) (stays c))
