use Rattle.std.proofs.Common.{◌≡◌, ◌<◌, ◌+◌, ap, arith, length, map, take, ◌∙◌}
use Rattle.net_kinds.specs.NodeTable.{node_done}
use Rattle.net_kinds.specs.declared.node.Node.{Node}
use Rattle.net_steps.proofs.PhaseLemmas.{as-itself, one-small, unfinished-all, unfinished-few, unfinished-more}
use Rattle.net_steps.proofs.phase.count_unfinished.Goals as goal
use Rattle.net_steps.specs.Unfinished.{unfinished_in}

pub overflow_add-unfinished : goal.overflow_add-unfinished
overflow_add-unfinished c =
    let few = unfinished-few (λ (n : Node). n) c.loop-node.node-index c.args.nodes.now in
    let small = one-small (node_done c.node-item.result) in
    omega (arith, c.requires, c.loop-node.invariant, c.one_unless_done-unfinished.ensures, few, small)

pub loop-node-preserved : goal.loop-node-preserved
loop-node-preserved c =
    let i = c.loop-node.node-index in
    let within : i < length c.args.nodes.now = omega arith in
    let more = unfinished-more (λ (n : Node). n) c.args.nodes.now i c.node-item.result _ within c.node-item.is in
    let counted : c.loop-node.unfinished + c.one_unless_done-unfinished.result ≡ unfinished_in (map (λ (n : Node). n) (take (i + 1) c.args.nodes.now)) =
    omega (arith, c.loop-node.invariant, c.one_unless_done-unfinished.ensures, more) in
    counted

pub returns : goal.returns
returns c =
    let end : length c.args.nodes.now ≡ c.loop-node.node-index = omega arith in
    c.loop-node.invariant ∙ unfinished-all (λ (n : Node). n) c.args.nodes.now c.loop-node.node-index end ∙ ap unfinished_in (as-itself c.args.nodes.now)
