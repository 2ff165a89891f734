-- A beat of a legal burst is a legal burst.
use Rattle.std.proofs.Common.{◌≡◌, ◌<◌, ◌+◌, ◌-◌, ◌*◌, ◌/◌, ◌^◌, ℕ, Bool, true, cond, Some, None, sym, ◌∙◌, ap, arith, eq-eqb}
use Rattle.std.specs.Prelude.{not}
use Rattle.std.proofs.lemmas.Bool.{le-ltb}
use Rattle.std.proofs.lemmas.Nat.{pow_pos}
use Rattle.axi_beats.specs.declared.beat.Burst.TheVariants.{Incr}
use Rattle.burst_address.proofs.Beats.{beat-limit, beat-page, bus-most}
use Rattle.burst_address.proofs.Legality.{legal-size}
use Rattle.burst_address.proofs.Numbers.{aligned-le, aligned-near, coarser, exponent_below, same_block}
use Rattle.burst_address.specs.Formulas.{aligned, beat_at}
use Rattle.burst_address.specs.Legal.{is_in_page}
use Rattle.burst_address.specs.declared.rule.BurstRule.TheVariants.{Page, Size}
use Rattle.burst_cuts.specs.PartLaws.{PartsAreInPage, PartsAreLegal, PartsAreSmall}

-- one beat stays in its page
one-page : (s start : ℕ) → s < 8 → is_in_page Incr (2 ^ s) 1 start ≡ true
one-page s start small =
    let some : 0 < 2 ^ s = pow_pos s in
    let near = aligned-near (2 ^ s) start some in
    let below = aligned-le (2 ^ s) start in
    let last = aligned (2 ^ s) start + 2 ^ s - 1 in
    let block : last / 2 ^ s ≡ start / 2 ^ s = same_block (2 ^ s) start last some (omega arith) (omega (arith, some)) in
    let pages : last / 2 ^ 12 ≡ start / 2 ^ 12 = coarser s 12 start last (omega arith) block in
    let one : aligned (2 ^ s) start + 1 * 2 ^ s - 1 ≡ last = omega arith in
    eq-eqb (start / 4096) ((aligned (2 ^ s) start + 1 * 2 ^ s - 1) / 4096) (sym (ap (λ (x : ℕ). x / 4096) one ∙ pages))

pub part-legal : PartsAreLegal
part-legal a bus n width legal =
    let size = legal-size a bus legal in
    let most = bus-most bus width in
    let small : a.size < 8 = exponent_below a.size (omega (arith, size, most)) in
    ap (λ (b : Bool). cond b (Some Size) (cond (not (is_in_page Incr (2 ^ a.size) 1 (beat_at a n))) (Some Page) None)) (le-ltb bus (2 ^ a.size) size)
    ∙ ap (λ (b : Bool). cond (not b) (Some Page) None) (one-page a.size (beat_at a n) small)

pub part-small : PartsAreSmall
part-small a bus n width legal within small = beat-limit a bus n (bus-most bus width) legal within small

pub part-page : PartsAreInPage
part-page a bus n width legal within = beat-page a bus n (bus-most bus width) legal within
