use Rattle.std.proofs.Common.{◌≡◌, take}
use Rattle.demux_node.proofs.shape.Shape.new.Given as goal

abbrev pub invariant-loop-link : goal.invariant-loop-link
invariant-loop-link l = l.lowers.items ≡ take l.link-index l.lower
