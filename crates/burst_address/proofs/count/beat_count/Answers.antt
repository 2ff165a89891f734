use Rattle.std.proofs.Common.{arith, refl}
use Rattle.burst_address.proofs.Beats.{beat-count}
use Rattle.burst_address.proofs.count.beat_count.Goals as goal

pub overflow_sub-high : goal.overflow_sub-high
overflow_sub-high c =
    let count = beat-count c.args.a.now 128 c.args.n refl c.requires.legal in
    omega (arith, c.lanes-low.ensures.lower, c.lanes-low.ensures.upper, count.0, count.1)

pub returns-clause-value : goal.returns-clause-value
returns-clause-value c =
    let count = beat-count c.args.a.now 128 c.args.n refl c.requires.legal in
    omega (arith, c.from.ensures, c.lanes-low.ensures.lower, c.lanes-low.ensures.upper, count.0, count.1)
