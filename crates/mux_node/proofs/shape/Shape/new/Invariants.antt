use Rattle.std.proofs.Common.{◌≡◌, take}
use Rattle.mux_node.proofs.shape.Shape.new.Given as goal

-- the links so far are there
abbrev pub invariant-loop-link : goal.invariant-loop-link
invariant-loop-link l = l.uppers.items ≡ take l.link-index l.fn.upper
