use Rattle.std.proofs.Common.{◌<◌, length, take}
use Rattle.std.specs.Prelude.{All}
use Rattle.demux_node.proofs.shape.Shape.fits_on.Given as goal

-- the links so far are there
abbrev pub invariant-loop-lower : goal.invariant-loop-lower
invariant-loop-lower l = All (λ link. link < length l.links) (take l.lower-index l.lower-items)
