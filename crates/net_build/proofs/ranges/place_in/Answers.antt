use Rattle.std.proofs.Common.{◌==◌, ℕ, arith, length, sym}
use Rattle.std.proofs.lemmas.Bool.{eq-eqb}
use Rattle.std.proofs.lemmas.List.Sums.{position_or_len_is}
use Rattle.net_build.proofs.ranges.place_in.Goals as goal

pub returns-then-other-number : goal.returns-then-other-number
returns-then-other-number c =
    sym (position_or_len_is (λ (other : ℕ). other == c.args.number) c.args.list.now c.loop-place.place 0 (omega (arith, c.loop-place-test.true)) c.loop-place.invariant
    (λ _. eq-eqb _ _ c.if-other-number.true))

pub returns : goal.returns
returns c =
    sym (position_or_len_is (λ (other : ℕ). other == c.args.number) c.args.list.now (length c.args.list.now) 0 (omega arith)
    (λ k less. c.loop-place.invariant k (omega (arith, less, c.loop-place-test.false))) (λ less. absurd (omega (arith, less))))
