use Rattle.std.proofs.Common.{◌∙◌, sym, arith}
use Rattle.address_map.specs.Regions.{is_bad_region}
use Rattle.address_map.proofs.RegionLemmas.{first-place, no-place, none-bad}
use Rattle.address_map.proofs.map.first_bad.Goals as goal

pub returns-then-is_bad-clause-first : goal.returns-then-is_bad-clause-first
returns-then-is_bad-clause-first c = first-place is_bad_region c.args.regions.now c.loop-number.number c.loop-number-test.true c.loop-number.invariant (sym c.is_bad.ensures ∙ c.if-is_bad.true)

pub returns-clause-first : goal.returns-clause-first
returns-clause-first c = no-place is_bad_region c.args.regions.now (λ k lt. c.loop-number.invariant k (omega (arith, c.loop-number-test.false)))

pub returns-clause-none : goal.returns-clause-none
returns-clause-none c = none-bad is_bad_region c.args.regions.now (λ k lt. c.loop-number.invariant k (omega (arith, c.loop-number-test.false)))
