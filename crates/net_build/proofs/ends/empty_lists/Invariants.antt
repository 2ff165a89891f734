use Rattle.std.proofs.Common.{◌≡◌, ℕ, [], length, get_or}
use Rattle.node_graph.specs.Simple.{lists_in}
use Rattle.net_build.proofs.ends.empty_lists.Given as goal

abbrev pub invariant-loop-node : goal.invariant-loop-node
invariant-loop-node l = record {
  long : length (lists_in l.lists.items) ≡ l._node;
  empty : (node : ℕ) → get_or (lists_in l.lists.items) node [] ≡ [];
}
