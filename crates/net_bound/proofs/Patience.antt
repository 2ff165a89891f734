-- No node of a plan's network has more patience than one round more than the longest delay of all nodes.
use Rattle.std.proofs.Common.{◌≤◌, ◌+◌, ℕ, zero, suc, List, [], ◌∷◌, length, Option, inl, inr, sym, subst, arith}
use Rattle.std.proofs.lemmas.Bool.{cases_lt}
use Rattle.std.specs.Option.{option_map_or}
use Rattle.std.specs.Prelude.{slice_index_or}
use Rattle.elaborate.specs.Plan.{plan_node_at, plan_nodes}
use Rattle.elaborate.specs.declared.part.Part.{Part}
use Rattle.elaborate.specs.declared.part.Part.TheVariants as part
use Rattle.net_kinds.specs.NodeKind.{NodeState, node_kind}
use Rattle.net_opening.specs.Opening.{opening, state_at, state_by_part}
use Rattle.net_plan.proofs.OpeningWired.{node-is, node-past}
use Rattle.net_progress.specs.Moving.{IsPatient}
use Rattle.node_core.specs.Acted.{Acted}
use Rattle.plan_traffic.specs.Bound.{delay_of_node, delay_of_nodes}
use Rattle.plan_traffic.specs.Traffic.{TrafficItem}
use Rattle.topology.specs.Document.{DocumentNode, node_at, node_of_kind}
use Rattle.topology_text.specs.declared.kind.Kind.TheVariants as kind

delay-at : (nodes : List DocumentNode) (place : ℕ) → delay_of_node (slice_index_or nodes place (node_of_kind [] kind.Slice)) ≤ delay_of_nodes nodes
delay-at [] place = omega arith
delay-at (node ∷ more) zero = omega arith
delay-at (node ∷ more) (suc place) = omega (arith, delay-at more place)

module _ (nodes : List DocumentNode) (items : List TrafficItem) where
  patience-by : (number : ℕ) (p : Part) → node_kind.patience (state_by_part nodes items number p) ≤ 1 + delay_of_node (node_at nodes (plan_node_at nodes number).document)
  patience-by number part.Manager = omega arith
  patience-by number part.Memory = omega arith
  patience-by number part.Error = omega arith
  patience-by number part.Mux = omega arith
  patience-by number part.Demux = omega arith
  patience-by number part.Slice = omega arith
  patience-by number part.LiteMemory = omega arith
  patience-by number part.Remap = omega arith
  patience-by number part.Split = omega arith
  patience-by number part.Up = omega arith
  patience-by number part.Down = omega arith
  patience-by number part.Lite = omega arith

  patience-at : (number : ℕ) → node_kind.patience (state_at nodes items number) ≤ 1 + delay_of_nodes nodes
  patience-at number =
      omega (arith, patience-by number (plan_node_at nodes number).part, delay-at nodes (plan_node_at nodes number).document)

  abbrev Patient : Option (Acted NodeState) → Type 0
  Patient o = option_map_or (λ (a : Acted NodeState). node_kind.patience a.state) o 0 ≤ 1 + delay_of_nodes nodes

  pub is-patient : IsPatient node_kind (opening nodes items) (1 + delay_of_nodes nodes)
  is-patient number = elim (cases_lt number (length (plan_nodes nodes))) [
    | inl less ↦ subst Patient (sym (node-is nodes items number less)) (patience-at number)
    | inr past ↦ subst Patient (sym (node-past nodes items number past)) (omega arith)
  ]
