use Rattle.std.proofs.Common.{refl}
use Rattle.std.specs.Fmt.{digits}
use Rattle.node_graph.specs.Graph.{handed_in, has_way, numbers}
use Rattle.plan_text.specs.PlanText.{bound_line, plan_link_line, plan_node_line, plan_text}
use Rattle.plan_text.proofs.known.known_plan_texts.Goals as goal

pub returns : goal.returns
unfolding handed_in has_way numbers digits bound_line plan_link_line plan_node_line plan_text
returns c = record { page_text = refl; small_nodes = refl; small_links = refl; no_bound = refl }
