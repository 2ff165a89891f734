use Rattle.std.proofs.Common.{subst, arith}
use Rattle.std.proofs.lemmas.List.Elements.{All-get_or}
use Rattle.plan_traffic.specs.Accepted.{Suits}
use Rattle.plan_traffic.specs.Inside.{traffic_item}
use Rattle.plan_traffic.specs.Traffic.{TrafficItem}
use Rattle.plan_traffic.proofs.BoundLemmas.{item-at, moves-few, moves-next}
use Rattle.plan_traffic.proofs.bound.all_moves.Goals as goal

pub most_moves-moves-requires : goal.most_moves-moves-requires
most_moves-moves-requires c =
    let at = item-at c.items-item-items.result.now c.args.traffic.now c.loop-item.item-index c.item-item.result c.items-item-items.ensures c.loop-item-test.true c.item-item.is in
    subst (λ (item : TrafficItem). Suits c.args.plan.now item) at.1
    (All-get_or (Suits c.args.plan.now) c.args.traffic.now c.loop-item.item-index (traffic_item c.item-item.result) at.0 c.requires.suit)

pub overflow_add-moves : goal.overflow_add-moves
overflow_add-moves c =
    let few = moves-few c.args.plan.now c.args.traffic.now c.loop-item.item-index c.loop-item.moves c.requires.beats c.loop-item.invariant in
    omega (arith, few, c.most_moves-moves.ensures.small)

pub loop-item-preserved : goal.loop-item-preserved
loop-item-preserved c =
    let at = item-at c.items-item-items.result.now c.args.traffic.now c.loop-item.item-index c.item-item.result c.items-item-items.ensures c.loop-item-test.true c.item-item.is in
    moves-next c.args.plan.now c.args.traffic.now c.loop-item.item-index c.loop-item.moves c.most_moves-moves.result (traffic_item c.item-item.result) at.0 at.1
    c.most_moves-moves.ensures.moves c.most_moves-moves.ensures.few c.loop-item.invariant

pub returns-clause-small : goal.returns-clause-small
returns-clause-small c = moves-few c.args.plan.now c.args.traffic.now c.loop-item.item-index c.loop-item.moves c.requires.beats c.loop-item.invariant
