use Rattle.std.proofs.Common.{◌≡◌, arith, get_or}
use Rattle.elaborate.specs.Plan.{first_part}
use Rattle.elaborate.proofs.Sizes.{first-at, first-small, firsts-long}
use Rattle.elaborate.proofs.counts.first_of.Goals as goal

pub bounds-firsts-place : goal.bounds-firsts-place
bounds-firsts-place c = omega (arith, c.requires.inside, firsts-long c.args.wiring.now c.args.firsts.now c.requires.firsts.firsts_are)

pub returns-clause-first : goal.returns-clause-first
returns-clause-first c = first-at c.args.wiring.now c.args.firsts.now c.args.place c.requires.firsts.firsts_are c.requires.inside

pub returns-clause-small : goal.returns-clause-small
returns-clause-small c =
    let is : get_or c.args.firsts.now c.args.place 0 ≡ first_part c.args.wiring.now c.args.place =
    first-at c.args.wiring.now c.args.firsts.now c.args.place c.requires.firsts.firsts_are c.requires.inside in
    omega (arith, is, first-small c.args.wiring.now c.requires.firsts.accepted c.args.place c.requires.inside)
