-- The worst status of a beat whose whole word has one status.
use Rattle.std.proofs.Common.{◌≡◌, ◌≢◌, ◌≤◌, ℕ, ◌+◌, ◌/◌, ◌%◌, ◌^◌, ◌<◌, ◌==◌, suc, zero, Bool, true, false, cond, List, [], ◌∷◌, map, refl, sym, ◌∙◌, ap, ap₂, arith, eq-eqb, true≢false, inl, inr}
use Rattle.std.specs.Prelude.{filter}
use Rattle.std.specs.Int.{bit_at}
use Rattle.std.specs.List.{AllByRecursion, range_with_len}
use Rattle.std.proofs.lemmas.Bool.{cases_eq}
use Rattle.std.proofs.lemmas.Nat.Bits.{bit_at-suc, bit_at-zero, bit_at_lowest}
use Rattle.axi_beats.specs.Bus.{IsBusWidth}
use Rattle.axi_beats.specs.Response.{worst_of}
use Rattle.axi_beats.specs.declared.beat.Addr.{Addr}
use Rattle.axi_beats.specs.declared.beat.WBeat.{WBeat}
use Rattle.axi_beats.specs.declared.response.Resp.{Resp}
use Rattle.axi_beats.specs.declared.response.Resp.TheVariants.{Okay, SlvErr, DecErr}
use Rattle.burst_address.specs.LaneLaws.{NoneStrobed, OneStatusOfStrobed, OneStatusOfValid}
use Rattle.burst_address.specs.Lanes.{first_lane, is_strobed, lane_address, lane_count, strobed_lanes}
use Rattle.burst_address.specs.Status.{worst_among, worst_of_strobed, worst_of_valid}
use Rattle.burst_address.proofs.LaneBytes.{lanes-on_bus}
use Rattle.burst_address.proofs.Statuses.{worst-okay}

-- ---- the numbers of a range that pass a test

filter-none : (p : ℕ → Bool) (a n : ℕ) → ((k : ℕ) → p k ≡ false) → filter p (range_with_len a n) ≡ []
filter-none p a zero none = refl
filter-none p a (suc n) none =
    ap (λ c. cond c (a ∷ filter p (range_with_len (a + 1) n)) (filter p (range_with_len (a + 1) n))) (none a)
    ∙ filter-none p (a + 1) n none

-- where none of a range passes, each fails
filter-empty : (p : ℕ → Bool) (a n : ℕ) → filter p (range_with_len a n) ≡ [] → (k : ℕ) → a ≤ k → k < a + n → p k ≡ false
filter-empty p a zero e k le lt = absurd (omega arith)
filter-empty p a (suc n) e k le lt =
    let rest : List ℕ = filter p (range_with_len (a + 1) n) in
    let go : (c : Bool) → p a ≡ c → cond c (a ∷ rest) rest ≡ [] → p k ≡ false =
    λ c is e. elim c as (λ c. p a ≡ c → cond c (a ∷ rest) rest ≡ [] → p k ≡ false) [
      | true ↦ λ is e. absurd (cc)
      | false ↦ λ is e. elim (cases_eq k a) [
        | inl same ↦ ap p same ∙ is
        | inr other ↦ filter-empty p (a + 1) n e k (omega arith) (omega arith)
      ]
    ] is e
    in go (p a) refl e

-- the numbers of a range that pass are below its end
filter-below : (p : ℕ → Bool) (a n end : ℕ) → a + n ≤ end → AllByRecursion (λ k. k < end) (filter p (range_with_len a n))
filter-below p a zero end le = tt
filter-below p a (suc n) end le =
    let rest : AllByRecursion (λ k. k < end) (filter p (range_with_len (a + 1) n)) = filter-below p (a + 1) n end (omega arith) in
    elim (p a) as (λ c. AllByRecursion (λ k. k < end) (cond c (a ∷ filter p (range_with_len (a + 1) n)) (filter p (range_with_len (a + 1) n)))) [
      | true ↦ (omega arith, rest)
      | false ↦ rest
    ]

range-below : (a n end : ℕ) → a + n ≤ end → AllByRecursion (λ k. k < end) (range_with_len a n)
range-below a zero end le = tt
range-below a (suc n) end le = (omega arith, range-below (a + 1) n end (omega arith))

-- a number below 2 ^ k without a bit below k is 0
no_bits : (k n : ℕ) → n < 2 ^ k → ((i : ℕ) → i < k → bit_at n i ≢ 1) → n ≡ 0
no_bits zero n lt none = omega arith
no_bits (suc k) n lt none =
    let lowest : n % 2 ≢ 1 = λ e. none 0 (omega arith) (bit_at_lowest n ∙ e) in
    let half : n / 2 ≡ 0 = no_bits k (n / 2) (omega arith) (λ i less e. none (suc i) (omega arith) (bit_at-suc n i ∙ e)) in
    omega arith

-- ---- the worst of equal responses

worst-twice : (r : Resp) → worst_of r r ≡ r
worst-twice Okay = refl
worst-twice SlvErr = refl
worst-twice DecErr = refl

module _ (status_at : ℕ → Resp) (one : Resp) (a : Addr) (n bus : ℕ) (same : (lane : ℕ) → lane < bus → status_at (lane_address a n bus lane) ≡ one) where
  abbrev status_on : ℕ → Resp
  status_on lane = status_at (lane_address a n bus lane)

  worst-same : (k : ℕ) (ks : List ℕ) → AllByRecursion (λ lane. lane < bus) (k ∷ ks) → worst_among (map status_on (k ∷ ks)) ≡ one
  worst-same k [] below = ap (λ r. worst_of r Okay) (same k below.0) ∙ worst-okay one
  worst-same k (j ∷ ks) below = ap₂ worst_of (same k below.0) (worst-same j ks below.1) ∙ worst-twice one

  pub one-valid : IsBusWidth bus → worst_of_valid status_at a n bus ≡ one
  one-valid is =
      let bounds = lanes-on_bus a n bus is in
      let go : (low count : ℕ) → 0 < count → low + count ≤ bus → worst_among (map status_on (range_with_len low count)) ≡ one =
      λ low. elim [
        | zero ↦ λ lt le. absurd (omega arith)
        | suc m ↦ λ lt le. worst-same low (range_with_len (low + 1) m) (range-below low (suc m) bus le)
      ]
      in go (first_lane a n bus) (lane_count a n bus) bounds.0 bounds.1

  pub one-strobed : (w : WBeat) → w.strobe ≢ 0 → w.strobe < 2 ^ bus → worst_of_strobed status_at a n bus w ≡ one
  one-strobed w some lt =
      let go : (lanes : List ℕ) → strobed_lanes bus w ≡ lanes → AllByRecursion (λ k. k < bus) lanes → worst_among (map status_on lanes) ≡ one =
      elim [
        | [] ↦ λ e below. absurd (some (no_bits bus w.strobe lt (λ i less bit.
            let fails : is_strobed w i ≡ false = filter-empty (is_strobed w) 0 bus e i (omega arith) (omega arith) in
            true≢false (sym (eq-eqb (bit_at w.strobe i) 1 bit) ∙ fails))))
        | k ∷ ks ↦ λ e below. worst-same k ks below
      ]
      in go (strobed_lanes bus w) refl (filter-below (is_strobed w) 0 bus bus (omega arith))

pub one-status_of_valid : OneStatusOfValid
one-status_of_valid status_at one a n bus is same = one-valid status_at one a n bus same is

pub one-status_of_strobed : OneStatusOfStrobed
one-status_of_strobed status_at one a n bus w same some lt = one-strobed status_at one a n bus same w some lt

pub none-strobed : NoneStrobed
none-strobed status_at a n bus w none =
    let fails : (k : ℕ) → is_strobed w k ≡ false = λ k. ap (λ n. bit_at n k == 1) none ∙ ap (λ n. n == 1) (bit_at-zero k) in
    ap (λ lanes. worst_among (map (λ lane. status_at (lane_address a n bus lane)) lanes)) (filter-none (is_strobed w) 0 bus fails)
