-- How many nodes wait for answers.
use Rattle.std.specs.Prelude.{◌+◌, [], ◌∷◌, ℕ, Bool, List, if◌then◌else◌}
use Rattle.net_kinds.specs.NodeTable.{node_done}
use Rattle.net_kinds.specs.declared.node.Node.{Node}

abbrev pub one_unless : Bool → ℕ
one_unless done = if done then 0 else 1

abbrev pub unfinished_in : List Node → ℕ
unfinished_in [] = 0
unfinished_in (node ∷ nodes) = one_unless (node_done node) + unfinished_in nodes
