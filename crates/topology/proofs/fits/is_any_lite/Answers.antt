use Rattle.std.proofs.Common.{◌∙◌}
use Rattle.topology.specs.Document.{LinkKind}
use Rattle.topology.proofs.LinkLemmas.{any_known}
use Rattle.topology.proofs.fits.is_any_lite.Goals as goal

pub returns : goal.returns
returns c = c.has_lite.ensures ∙ any_known (λ (other : LinkKind). other.lite) c.args.links.now c.args.uppers.now
