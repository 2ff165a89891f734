use Rattle.std.proofs.Common.{◌∙◌, ap, Some, option_map}
use Rattle.topology_text.specs.Shape.{node_of}
use Rattle.topology_text.proofs.ValueLemmas.{node-viewed}
use Rattle.topology_text.proofs.read.node_of.Goals as goal

pub returns-in_ok-new-in-Some : goal.returns-in_ok-new-in-Some
returns-in_ok-new-in-Some c = ap Some (c.in_ok-new-in-Some.ensures ∙ node-viewed c.in-Some.row) ∙ ap (option_map node_of) c.in-Some.ensures
