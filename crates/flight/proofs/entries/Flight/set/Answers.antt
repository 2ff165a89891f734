use Rattle.std.proofs.Common.{map, ap, ◌∙◌, slice_set}
use Rattle.flight.proofs.EntryFacts.{map-set_same, refill-set}
use Rattle.flight.proofs.entries.Flight.set.Goals as goal

pub returns-clause-keys : goal.returns-clause-keys
returns-clause-keys g c =
    ap (map g.T.Filed.key_of) (refill-set c.self.inside.entries.items c.as_mut_slice.result.now c.args.place c.args.entry c.as_mut_slice.ensures.value
    ∙ ap (λ xs. slice_set xs c.args.place c.args.entry) c.self.view_is)
    ∙ map-set_same g.T.Filed.key_of c.args.self.now c.args.place c.args.entry c.requires.key
