use Rattle.std.proofs.Common.{◌==◌, ◌∙◌}
use Rattle.std.specs.Prelude.{not}
use Rattle.topology.specs.Document.{LinkKind}
use Rattle.topology.proofs.LinkLemmas.{any_known}
use Rattle.topology.proofs.fits.is_other_bus.Goals as goal

pub returns : goal.returns
returns c = c.has_other_bus.ensures ∙ any_known (λ (other : LinkKind). not (other.bus == c.args.bus)) c.args.links.now c.args.uppers.now
