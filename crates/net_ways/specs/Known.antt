-- What is known of the transactions of a network after so many rounds: what its nodes know.
use Rattle.std.specs.Prelude.{[], ℕ, List, false, flat_map, length, slice_get}
use Rattle.std.specs.List.{list_any, range_with_len}
use Rattle.std.specs.Option.{option_map_or}
use Rattle.axi_trail.specs.Schedule.{Progress, Schedule}
use Rattle.net_model.specs.Network.{Network}
use Rattle.net_runs.specs.Run.{nodes_after, passed_by}
use Rattle.node_core.specs.Acted.{Acted}
use Rattle.node_shape.specs.Kind.{Kind}

abbrev pub nothing_known : Progress
nothing_known = record { issued = λ number. false; written = λ number. false; filled = λ number. [] }

module _ {S E : Type 0} (kind : Kind S E) (net : Network S) (schedules : ℕ → Schedule) (n : ℕ) where
  -- what the node of a number knows
  abbrev pub known_at : ℕ → Progress
  known_at node =
      option_map_or (λ (a : Acted S). kind.knows schedules a.state (passed_by kind net node n)) (slice_get (nodes_after kind net n) node) nothing_known

  abbrev pub node_numbers : List ℕ
  node_numbers = range_with_len 0 (length net.nodes)

  -- what some node knows, and the bytes that all of them have read for a transaction, one node after the other
  abbrev pub known_by_nodes : Progress
  known_by_nodes = record {
    issued = λ number. list_any (λ node. (known_at node).issued number) node_numbers;
    written = λ number. list_any (λ node. (known_at node).written number) node_numbers;
    filled = λ number. flat_map (λ node. (known_at node).filled number) node_numbers;
  }
