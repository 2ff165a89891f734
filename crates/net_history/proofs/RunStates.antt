-- The nodes of a run: each is of one kind, and its state goes by the kind's table.
use Rattle.std.proofs.Common.{◌≡◌, ℕ, zero, suc, Some, ap, ◌∙◌}
use Rattle.std.specs.Prelude.{slice_get}
use Rattle.std.specs.Option.{option_map}
use Rattle.axi_link.specs.declared.out.Out.{Out}
use Rattle.net_kinds.specs.NodeKind.{KindName, NodeState, StateOf, kind_by_name, node_kind}
use Rattle.net_model.specs.Network.{Network, node_next}
use Rattle.net_runs.proofs.ContractFacts.{at-some}
use Rattle.net_runs.proofs.RoundLemmas.{node-after}
use Rattle.net_runs.specs.Run.{HoldsAt, nodes_after, queues_after}
use Rattle.node_core.specs.Acted.{Acted}
use Rattle.node_shape.specs.Kind.{next_of, out_of}

-- a node of a kind, which made these moves
abbrev pub acted_as : (name : KindName) → StateOf name → Out → Acted NodeState
acted_as name s out = record { state = record { kind = name; state = s }; out = out }

module _ (net : Network NodeState) where
  -- the state of a node after so many rounds, where it is this one before the first round
  abbrev pub run_state : (name : KindName) → StateOf name → ℕ → StateOf name
  run_state name s zero = s
  run_state name s (suc n) = next_of (kind_by_name name) (suc n) (queues_after node_kind net n) (run_state name s n)

  -- a node stands there as its kind's table says
  pub record StandsAt (node : ℕ) (name : KindName) (s : StateOf name) (n : ℕ) : Type 0 where
    pub out : Out
    pub at : slice_get (nodes_after node_kind net n) node ≡ Some (acted_as name (run_state name s n) out)

  pub stands-at : (node : ℕ) (name : KindName) (s : StateOf name) (out : Out) → slice_get net.nodes node ≡ Some (acted_as name s out) → (n : ℕ) → StandsAt node name s n
  stands-at node name s out at zero = record { out = out; at = at }
  stands-at node name s out at (suc n) =
      let before = stands-at node name s out at n in
      record {
        out = out_of (kind_by_name name) (suc n) (queues_after node_kind net n) (run_state name s n);
        at = node-after node_kind net n node ∙ ap (option_map (node_next node_kind (suc n) (queues_after node_kind net n))) before.at;
      }

  -- what holds of the nodes holds of it
  pub holds-at : (P : NodeState → Type 0) (node : ℕ) (name : KindName) (s : StateOf name) (out : Out) → slice_get net.nodes node ≡ Some (acted_as name s out) → (n : ℕ) →
      HoldsAt node_kind net P node n → P (record { kind = name; state = run_state name s n })
  holds-at P node name s out at n holds =
      let there = stands-at node name s out at n in
      at-some (λ (a : Acted NodeState). P a.state) (slice_get (nodes_after node_kind net n) node) (acted_as name (run_state name s n) there.out) there.at holds
