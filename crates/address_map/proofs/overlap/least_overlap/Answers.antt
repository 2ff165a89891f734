use Rattle.std.proofs.Common.{◌∙◌, ap, sym, arith, ◌+◌}
use Rattle.std.specs.Prelude.{position}
use Rattle.address_map.specs.Regions.{region_at, share_address}
use Rattle.address_map.proofs.PairLemmas.{all-after, partner-least, no_partner-none, no_pair-apart, overlap-within}
use Rattle.address_map.proofs.overlap.least_overlap.Goals as goal

pub returns-in-Some-clause-pair : goal.returns-in-Some-clause-pair
returns-in-Some-clause-pair c =
    partner-least c.args.regions.now c.loop-first.first c.in-Some.gap c.loop-first.invariant
    (ap (λ xs. position (share_address (region_at c.args.regions.now c.loop-first.first)) xs) (sym (all-after c.args.regions.now (c.loop-first.first + 1))) ∙ sym c.partner.ensures ∙ c.in-Some.is)

pub loop-first-preserved : goal.loop-first-preserved
loop-first-preserved c =
    no_partner-none c.args.regions.now c.loop-first.first c.loop-first.invariant
    (ap (λ xs. position (share_address (region_at c.args.regions.now c.loop-first.first)) xs) (sym (all-after c.args.regions.now (c.loop-first.first + 1))) ∙ sym c.partner.ensures ∙ c.in_default.is)

pub returns-clause-apart : goal.returns-clause-apart
returns-clause-apart c =
    no_pair-apart c.args.regions.now (λ i j o. c.loop-first.invariant i j (omega (arith, c.loop-first-test.false, overlap-within c.args.regions.now i j o)) o)
