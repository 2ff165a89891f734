use Rattle.std.proofs.Common.{ap, arith, length}
use Rattle.elaborate.proofs.Kept.{document-at}
use Rattle.elaborate.proofs.Sizes.{parts-few}
use Rattle.elaborate.proofs.links.plan_links.Goals as goal

pub overflow_cast-number : goal.overflow_cast-number
overflow_cast-number c = omega (arith, c.loop-number-test.true, ap length c.requires.nodes, parts-few c.args.wiring.now c.requires.accepted)

pub push_links-requires : goal.push_links-requires
push_links-requires c =
    document-at c.args.wiring.now c.args.nodes.now c.loop-number.number c.index-nodes-number.result c.requires.nodes c.loop-number-test.true c.index-nodes-number.is
