use Rattle.std.proofs.Common.{ap, arith, length}
use Rattle.elaborate.proofs.Sizes.{small}
use Rattle.elaborate.proofs.counts.target_count.Goals as goal

pub overflow_cast-result : goal.overflow_cast-result
overflow_cast-result c = omega (arith, ap length c.targets.ensures, (small c.args.wiring.now c.requires.accepted c.args.place c.requires.inside).targets)

pub returns-clause-few : goal.returns-clause-few
returns-clause-few c = omega (arith, ap length c.targets.ensures, (small c.args.wiring.now c.requires.accepted c.args.place c.requires.inside).targets)
