-- The text of a plan, one piece after the other.
use Rattle.std.proofs.Common.{ℕ, List}
use Rattle.elaborate.specs.Plan.{plan_link_at, plan_node_at}
use Rattle.plain_lists.specs.Rounds.{over}
use Rattle.plan_text.specs.PlanText.{plan_link_line, plan_node_line}
use Rattle.topology_text.specs.Document.{DocumentNode}

module _ (nodes : List DocumentNode) where
  -- the line of the node of this number, and those of all before it
  abbrev pub plan_node_text : ℕ → List ℕ
  plan_node_text number = plan_node_line number (plan_node_at nodes number)

  abbrev pub nodes_before : ℕ → List ℕ
  nodes_before number = over plan_node_text number

  -- the line of the link of this number, and those of all before it
  abbrev pub plan_link_text : ℕ → List ℕ
  plan_link_text number = plan_link_line number (plan_link_at nodes number)

  abbrev pub links_before : ℕ → List ℕ
  links_before number = over plan_link_text number
