-- The network of a plan before its first round.
use Rattle.std.specs.Prelude.{ℕ, List, length, map}
use Rattle.elaborate.specs.Plan.{plan_links, plan_node_at, plan_nodes}
use Rattle.elaborate.specs.declared.part.Part.{Part}
use Rattle.elaborate.specs.declared.part.Part.TheVariants as part
use Rattle.net_kinds.specs.NodeKind.{ADemux, ALite, ALiteMemory, AManager, AMemory, AMux, ARemap, ASlice, ASplit, AnError, AnUp, NodeState}
use Rattle.net_model.specs.Network.{Network}
use Rattle.net_opening.specs.PlanLinks.{net_link_of, queue_of}
use Rattle.net_opening.specs.States.{demux_at, error_at, lite_at, lite_memory_at, manager_at, memory_at, mux_at, remap_at, slice_at, split_at, up_at}
use Rattle.node_core.specs.Acted.{opened}
use Rattle.node_graph.specs.Graph.{numbers}
use Rattle.topology.specs.Document.{DocumentNode}
use Rattle.plan_traffic.specs.Traffic.{TrafficItem}

module _ (nodes : List DocumentNode) (items : List TrafficItem) where
  -- A plan node as its kind begins, by its number. A down converter, which can't be run yet, stands as a slice; no document
  -- with one is run.
  abbrev pub state_by_part : ℕ → Part → NodeState
  state_by_part number part.Manager = record { kind = AManager; state = manager_at nodes number items }
  state_by_part number part.Mux = record { kind = AMux; state = mux_at nodes number }
  state_by_part number part.Error = record { kind = AnError; state = error_at nodes number }
  state_by_part number part.Demux = record { kind = ADemux; state = demux_at nodes number }
  state_by_part number part.Remap = record { kind = ARemap; state = remap_at nodes number }
  state_by_part number part.Up = record { kind = AnUp; state = up_at nodes number }
  state_by_part number part.Split = record { kind = ASplit; state = split_at nodes number }
  state_by_part number part.Lite = record { kind = ALite; state = lite_at nodes number }
  state_by_part number part.Memory = record { kind = AMemory; state = memory_at nodes number items }
  state_by_part number part.LiteMemory = record { kind = ALiteMemory; state = lite_memory_at nodes number items }
  state_by_part number other = record { kind = ASlice; state = slice_at nodes number }

  abbrev pub state_at : ℕ → NodeState
  state_at number = state_by_part number (plan_node_at nodes number).part

  -- no node has decided yet, and nothing waits on any link
  abbrev pub opening : Network NodeState
  opening = record {
    nodes = map (λ number. opened (state_at number)) (numbers (length (plan_nodes nodes)));
    links = map net_link_of (plan_links nodes);
    queues = map queue_of (plan_links nodes);
  }
