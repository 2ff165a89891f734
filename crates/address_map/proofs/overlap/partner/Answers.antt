use Rattle.std.proofs.Common.{◌∙◌, sym, arith}
use Rattle.address_map.specs.Regions.{share_address}
use Rattle.address_map.proofs.RegionLemmas.{first-place, no-place}
use Rattle.address_map.proofs.overlap.partner.Goals as goal

pub returns-then-shares : goal.returns-then-shares
returns-then-shares c =
    first-place (share_address c.args.region.now) c.args.others.now c.loop-place.place c.loop-place-test.true c.loop-place.invariant (sym c.shares.ensures ∙ c.if-shares.true)

pub returns : goal.returns
returns c = no-place (share_address c.args.region.now) c.args.others.now (λ k lt. c.loop-place.invariant k (omega (arith, c.loop-place-test.false)))
