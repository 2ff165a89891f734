-- The nodes of a network over its rounds, and the managers of its document among them.
use Rattle.std.proofs.Common.{◌≡◌, ◌<◌, ◌+◌, ℕ, suc, Bool, List, Some, ap, arith, cond, false, length, refl, true, ◌∙◌}
use Rattle.std.proofs.lemmas.Bool.{false≢true}
use Rattle.std.proofs.lemmas.Option.{get_or_from_slice_get}
use Rattle.elaborate.proofs.Forms.{at-part, get-own, own_part}
use Rattle.elaborate.proofs.Lists.{get-mapped}
use Rattle.elaborate.proofs.PathFacts.{manager-at}
use Rattle.elaborate.specs.Plan.{PlanNode, first_part, itself, plan_node_at, plan_nodes}
use Rattle.elaborate.specs.declared.part.Part.{Part}
use Rattle.elaborate.specs.declared.part.Part.TheVariants as part
use Rattle.manager_node.specs.ManagerState.{ManagerState}
use Rattle.net_build.specs.NetRun.{NetRun, network_of_run}
use Rattle.net_history.proofs.ManagerRuns.{IsManagerAt}
use Rattle.net_kinds.specs.NodeKind.{node_kind}
use Rattle.net_model.specs.Network.{after_commit, after_decide, after_rounds}
use Rattle.net_opening.specs.Opening.{opening, state_at, state_by_part}
use Rattle.net_opening.specs.States.{manager_at as manager_state}
use Rattle.net_runs.specs.Run.{nodes_after}
use Rattle.node_core.specs.Acted.{no_moves, opened}
use Rattle.node_graph.specs.Graph.{numbers}
use Rattle.plan_traffic.specs.Scripts.{script_of}
use Rattle.plan_traffic.specs.Traffic.{TrafficItem}
use Rattle.topology.specs.Document.{DocumentNode, is_manager, node_at}
use Rattle.topology_text.specs.declared.kind.Kind.{Kind}
use Rattle.topology_text.specs.declared.kind.Kind.TheVariants as kind

-- how many times the nodes have decided
abbrev pub turns : NetRun → ℕ
turns run = cond run.decided (suc run.rounds) run.rounds

-- what the nodes are once they have decided, they are after the round too
pub nodes-are : (run : NetRun) → (network_of_run run).nodes ≡ nodes_after node_kind (opening run.nodes run.items) (turns run)
unfolding after_commit
nodes-are run = by run.decided
  where
    next : run.rounds + 1 ≡ suc run.rounds
    next = omega arith

    by : (decided : Bool) → (network_of_run (record run { decided = decided })).nodes ≡ nodes_after node_kind (opening run.nodes run.items) (turns (record run { decided = decided }))
    by true = ap (λ (n : ℕ). (after_decide node_kind n (after_rounds node_kind run.rounds (opening run.nodes run.items))).nodes) next
    by false = refl

-- ---- the plan node of a manager

manager-kind : (k : Kind) → is_manager k ≡ true → own_part k ≡ Some part.Manager
manager-kind kind.Manager same = refl
manager-kind other same = absurd (false≢true same)

module _ (nodes : List DocumentNode) (items : List TrafficItem) (manager : ℕ) (less : manager < length nodes) (is : is_manager (node_at nodes manager).kind ≡ true) where
  pub first-within : first_part nodes manager < length (plan_nodes nodes)
  first-within = manager-at nodes manager (node_at nodes manager).kind less refl is

  first-node : plan_node_at nodes (first_part nodes manager) ≡ itself nodes manager part.Manager
  first-node =
      get_or_from_slice_get (plan_nodes nodes) (first_part nodes manager) (itself nodes manager part.Manager) _
      (at-part nodes manager 0 (first_part nodes manager) (itself nodes manager part.Manager) less
      (get-own nodes manager part.Manager (node_at nodes manager).kind (manager-kind (node_at nodes manager).kind is)) (omega arith))

  -- it begins as a manager
  abbrev pub its_state : ManagerState
  its_state = manager_state nodes (first_part nodes manager) items

  -- with its transactions
  pub its-script : its_state.script ≡ script_of items manager
  its-script = ap (λ (n : PlanNode). script_of items n.document) first-node

  pub begins-there : IsManagerAt (opening nodes items) (first_part nodes manager) its_state
  unfolding numbers
  begins-there = record {
    out = no_moves;
    at =
        get-mapped (λ (n : ℕ). opened (state_at nodes items n)) 0 (length (plan_nodes nodes)) (first_part nodes manager) first-within
        ∙ ap (λ (n : ℕ). Some (opened (state_at nodes items n))) (omega arith)
        ∙ ap (λ (p : Part). Some (opened (state_by_part nodes items (first_part nodes manager) p))) (ap (λ (n : PlanNode). n.part) first-node);
  }
