use Rattle.std.proofs.Common.{◌<◌, length, take}
use Rattle.std.specs.Prelude.{All, IfSome}
use Rattle.axi_link.specs.LinkWords.{head_of, link_of}
use Rattle.mux_node.specs.MuxTable.{ids_of}
use Rattle.mux_node.proofs.shape.Shape.fits_on.Given as goal

-- the links so far are there, with narrow IDs
abbrev pub invariant-loop-upper : goal.invariant-loop-upper
invariant-loop-upper l =
    All (λ link. (link < length l.links) × IfSome (head_of (link_of l.links link).aw) (λ a. a.id < ids_of l.self) × IfSome (head_of (link_of l.links link).ar) (λ a. a.id < ids_of l.self)) (take l.upper-index l.upper-items)
