use Rattle.std.proofs.Common.{◌≡◌, map}
use Rattle.std.specs.List.{range_with_len}
use Rattle.net_kinds.specs.NodeKind.{node_view}
use Rattle.net_opening.specs.Opening.{state_at}
use Rattle.node_core.specs.Acted.{opened}
use Rattle.net_build.proofs.nodes.net_nodes.Given as goal

abbrev pub invariant-loop-number : goal.invariant-loop-number
invariant-loop-number l = map node_view l.nodes.items ≡ map (λ number. opened (state_at l.source.plan.now l.source.traffic.now number)) (range_with_len 0 l.number)
