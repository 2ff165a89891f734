use Rattle.std.specs.Prelude.{◌≡◌, ◌==◌, None, find, take}
use Rattle.remap_node.specs.declared.pair.IdPair.{IdPair}
use Rattle.remap_node.proofs.rows.output_in_flight.Given as goal

-- none of the pairs so far has the ID above
abbrev pub invariant-loop-place : goal.invariant-loop-place
invariant-loop-place l = find (λ (p : IdPair). p.input == l.id) (take l.place l.pairs) ≡ None
