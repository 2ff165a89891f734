use Rattle.std.proofs.Common.{◌∙◌, ap, lit<}
use Rattle.std.specs.Option.{option_map}
use Rattle.std.proofs.lemmas.Option.{slice_get-map}
use Rattle.up_node.proofs.EntryLemmas.{id_of_passing, noted-leaves, noted-stays}
use Rattle.up_node.proofs.rows.note_beat.Goals as goal

pub returns-then-entry : goal.returns-then-entry
returns-then-entry c = c.take.ensures.rest ∙ noted-leaves c.args.place c.args.entries.now c.get-entry.result.now c.get-entry.ensures c.if-entry.true

pub set-requires : goal.set-requires
set-requires c = (lit< tt, (c.requires.within, slice_get-map id_of_passing c.args.entries.now c.args.place ∙ ap (option_map id_of_passing) c.get-entry.ensures))

pub returns : goal.returns
returns c = c.set.ensures.entry ∙ noted-stays c.args.place c.args.entries.now c.get-entry.result.now c.get-entry.ensures c.if-entry.false
