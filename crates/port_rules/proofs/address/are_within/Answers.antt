-- The two shifts ask what the definition asks by division.
use Rattle.std.proofs.Common.{◌≡◌, ◌≤◌, ◌<◌, ◌/◌, ◌*◌, ◌%◌, ◌^◌, ◌==◌, ◌&&◌, leb, Bool, true, sym, ap, ◌∙◌, arith}
use Rattle.std.proofs.Math.Nat.{div-mul-le_self, mod-eq_of_lt}
use Rattle.std.proofs.lemmas.Bool.{eq-eqb}
use Rattle.port_rules.proofs.StrobeLemmas.{within}
use Rattle.port_rules.proofs.address.are_within.Goals as goal

pub returns-then-strobe-lower : goal.returns-then-strobe-lower
returns-then-strobe-lower c =
    let s = c.args.strobe in
    let shifted = s / 2 ^ c.args.lower * 2 ^ c.args.lower in
    let small : shifted ≤ s = div-mul-le_self s (2 ^ c.args.lower) in
    let fits : shifted < 340282366920938463463374607431768211456 = omega (arith, c.ranges.strobe.fits) in
    let whole : shifted % 340282366920938463463374607431768211456 ≡ shifted = mod-eq_of_lt fits in
    let back : shifted ≡ s = sym whole ∙ c.if-strobe-lower.true in
    let test : (shifted == s) ≡ true = eq-eqb shifted s back in
    ap (λ (b : Bool). b && leb (s / 2 ^ c.args.upper) 1) (sym test) ∙ within c.args.lower c.args.upper s
