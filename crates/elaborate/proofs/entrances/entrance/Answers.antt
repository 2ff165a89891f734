use Rattle.std.proofs.Common.{ap, arith, length}
use Rattle.elaborate.proofs.Sizes.{small}
use Rattle.elaborate.proofs.entrances.entrance.Goals as goal

pub place_in-requires : goal.place_in-requires
place_in-requires c = omega (arith, ap length c.uppers.ensures, (small c.args.wiring.now c.requires.firsts.accepted c.args.place c.requires.inside).inputs)
