use Rattle.std.proofs.Common.{take}
use Rattle.topology.specs.Links.{HasLinks}
use Rattle.topology.proofs.kinds_of_links.kinds_of_links.Given as goal

abbrev pub invariant-loop-place : goal.invariant-loop-place
invariant-loop-place l = HasLinks l.nodes l.links.items (take l.place-index l.place-items)
