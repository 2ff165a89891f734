-- The request for a whole word, and what it has of the request that it stands for.
use Rattle.std.proofs.Common.{◌≡◌, ◌<◌, ◌≤◌, ◌+◌, ◌-◌, ◌*◌, ◌/◌, ◌%◌, ◌^◌, ◌==◌, ℕ, zero, suc, Bool, cond, not, List, [], ◌∷◌, ◌++◌, None, Some, IsTrue, get_or, inl, inr, refl, sym, ◌∙◌, ap, subst, arith, eq-eqb, pow_mono}
use Rattle.std.specs.Prelude.{nat_lt}
use Rattle.std.specs.Int.{bit_at}
use Rattle.std.specs.Int.Count.{count_trailing_zeros}
use Rattle.std.proofs.Math.Nat.{mul-mod_left}
use Rattle.std.proofs.Math.Pow.{mod-mod-pow}
use Rattle.std.proofs.lemmas.Bool.{and_from, and_parts, cases_lt, eqb-true, le-leb, lt-ltb, ltb-true}
use Rattle.std.proofs.lemmas.Nat.{mod-pow-add, pow_pos}
use Rattle.std.proofs.lemmas.Nat.Bits.{bit_at_above}
use Rattle.axi_beats.specs.Bus.{IsBusWidth}
use Rattle.axi_beats.specs.declared.beat.Addr.{Addr}
use Rattle.axi_beats.specs.declared.beat.Burst.{Burst}
use Rattle.axi_beats.specs.declared.beat.Burst.TheVariants.{Incr}
use Rattle.axi_beats.specs.declared.beat.WBeat.{WBeat}
use Rattle.axi_history.specs.PortRules.{strobes_within}
use Rattle.burst_address.specs.Bytes.{Byte, beat_written, burst_bytes, written_bytes}
use Rattle.burst_address.specs.Formulas.{address_by_kind, aligned, beats_of, size_of}
use Rattle.burst_address.specs.LaneLaws.{StrobesValidLanes}
use Rattle.burst_address.specs.Lanes.{first_lane, lane_bytes, last_lane, strobed_lanes, word_address}
use Rattle.burst_address.specs.Legal.{IsLegal, page}
use Rattle.burst_address.specs.declared.rule.BurstRule.TheVariants.{Page}
use Rattle.burst_address.proofs.LaneBytes.{lanes-are_on_bus}
use Rattle.burst_address.proofs.Numbers.{aligned-le, aligned-multiple}
use Rattle.burst_address.proofs.Strobes.{strobed-are_written}
use Rattle.burst_address.proofs.Widths.{width-bounds, width-cases}
use Rattle.burst_address.proofs.Written.{written-more, written-past}
use Rattle.lite_node.specs.LiteTable.{full_size, word_request}
use Rattle.node_shape.specs.LegalSchedule.{IsDataOf}
use Rattle.node_shape.specs.LinkForm.{IsWordRequest}

-- AxSIZE of a whole word is that of the bus
pub full-size : (bus : ℕ) → IsBusWidth bus → 2 ^ full_size bus ≡ bus
unfolding count_trailing_zeros
full-size bus is = width-cases (λ n. 2 ^ full_size n ≡ n) bus is refl refl refl refl refl refl

page-part : (from to : ℕ) → from ≡ to → cond (not (from == to)) (Some Page) None ≡ None
page-part from to same = ap (λ (b : Bool). cond (not b) (Some Page) None) (eq-eqb from to same)

-- a whole word is a legal burst
pub word-legal : (bus : ℕ) (a : Addr) → IsBusWidth bus → IsLegal (word_request bus a) bus
unfolding count_trailing_zeros
word-legal bus a is =
    width-cases (λ n. IsLegal (word_request n a) n) bus is
    (page-part (a.addr / 4 * 4 / 4096) ((a.addr / 4 * 4 / 4 * 4 + 4 - 1) / 4096) (omega arith))
    (page-part (a.addr / 8 * 8 / 4096) ((a.addr / 8 * 8 / 8 * 8 + 8 - 1) / 4096) (omega arith))
    (page-part (a.addr / 16 * 16 / 4096) ((a.addr / 16 * 16 / 16 * 16 + 16 - 1) / 4096) (omega arith))
    (page-part (a.addr / 32 * 32 / 4096) ((a.addr / 32 * 32 / 32 * 32 + 32 - 1) / 4096) (omega arith))
    (page-part (a.addr / 64 * 64 / 4096) ((a.addr / 64 * 64 / 64 * 64 + 64 - 1) / 4096) (omega arith))
    (page-part (a.addr / 128 * 128 / 4096) ((a.addr / 128 * 128 / 128 * 128 + 128 - 1) / 4096) (omega arith))

-- it lies where the request does
pub word-small : (bus : ℕ) (a : Addr) (limit : ℕ) → a.addr < limit → (word_request bus a).addr < limit
word-small bus a limit small = let le = aligned-le bus a.addr in omega (arith, le, small)

pub word-page : (bus : ℕ) (a : Addr) → IsBusWidth bus → page (word_request bus a).addr ≡ page a.addr
word-page bus a is =
    width-cases (λ n. a.addr / n * n / 4096 ≡ a.addr / 4096) bus is (omega arith) (omega arith) (omega arith) (omega arith) (omega arith) (omega arith)

-- it is a request of AXI4-Lite
pub word-is_word : (bus : ℕ) (a : Addr) → IsBusWidth bus → IsLegal a bus → IsWordRequest bus (word_request bus a)
word-is_word bus a is legal =
    let lanes = lanes-are_on_bus a 0 bus is legal in
    record { size = full-size bus is; aligned = mul-mod_left (a.addr / bus) bus; low = lanes.0; high = lanes.1 }

-- all lanes of the bus are valid for it
first-of_word : (bus : ℕ) (a : Addr) → first_lane (word_request bus a) 0 bus ≡ 0
first-of_word bus a = mul-mod_left (a.addr / bus) bus

last-of_word : (bus : ℕ) (a : Addr) → IsBusWidth bus → last_lane (word_request bus a) 0 bus + 1 ≡ bus
unfolding count_trailing_zeros
last-of_word bus a is =
    width-cases (λ n. last_lane (word_request n a) 0 n + 1 ≡ n) bus is
    (let e : (a.addr / 4 * 4 / 4 * 4 + 4 - 1) % 4 + 1 ≡ 4 = omega arith in e)
    (let e : (a.addr / 8 * 8 / 8 * 8 + 8 - 1) % 8 + 1 ≡ 8 = omega arith in e)
    (let e : (a.addr / 16 * 16 / 16 * 16 + 16 - 1) % 16 + 1 ≡ 16 = omega arith in e)
    (let e : (a.addr / 32 * 32 / 32 * 32 + 32 - 1) % 32 + 1 ≡ 32 = omega arith in e)
    (let e : (a.addr / 64 * 64 / 64 * 64 + 64 - 1) % 64 + 1 ≡ 64 = omega arith in e)
    (let e : (a.addr / 128 * 128 / 128 * 128 + 128 - 1) % 128 + 1 ≡ 128 = omega arith in e)

-- so the strobes of its data may stand wherever they may stand for the request
strobes-widen : (low high strobe bus : ℕ) → high < bus → IsTrue (strobes_within low high strobe) → (first last : ℕ) → first ≡ 0 → last + 1 ≡ bus → IsTrue (strobes_within first last strobe)
strobes-widen low high strobe bus on_bus within first last from to =
    let parts = and_parts (strobe % 2 ^ low == 0) (nat_lt strobe (2 ^ (high + 1))) within in
    let below : strobe < 2 ^ (high + 1) = ltb-true strobe (2 ^ (high + 1)) parts.1 in
    let power : 2 ^ (high + 1) ≤ 2 ^ (last + 1) = pow_mono (omega (arith, on_bus, to)) in
    let none : strobe % 2 ^ first ≡ 0 = subst (λ (k : ℕ). strobe % 2 ^ k ≡ 0) (sym from) (omega arith) in
    and_from (strobe % 2 ^ first == 0) (nat_lt strobe (2 ^ (last + 1))) (eq-eqb (strobe % 2 ^ first) 0 none) (lt-ltb strobe (2 ^ (last + 1)) (omega (arith, below, power)))

pub word-data : (bus : ℕ) (a : Addr) (beats : List WBeat) → IsBusWidth bus → IsLegal a bus → a.len ≡ 0 → IsDataOf bus a beats → IsDataOf bus (word_request bus a) beats
word-data bus a beats is legal single sent =
    let lanes = lanes-are_on_bus a 0 bus is legal in
    record {
      whole = sent.whole ∙ ap (λ (n : ℕ). n + 1) single;
      strobes = λ n past within.
          let first : n ≡ 0 = omega (arith, within, sent.whole, single) in
          let Within : Addr → ℕ → Type 0 = λ x k. IsTrue (strobes_within (first_lane x k bus) (last_lane x k bus) (get_or beats n past).strobe) in
          subst (Within (word_request bus a)) (sym first)
          (strobes-widen (first_lane a 0 bus) (last_lane a 0 bus) (get_or beats n past).strobe bus lanes.1 (subst (Within a) first (sent.strobes n past within))
          (first_lane (word_request bus a) 0 bus) (last_lane (word_request bus a) 0 bus) (first-of_word bus a) (last-of_word bus a is));
      lasts = λ n past within. sent.lasts n past within ∙ ap (λ (len : ℕ). n == len) single;
    }

-- the bytes of a request with one beat lie in its word
pub word-same : (bus : ℕ) (a : Addr) → IsBusWidth bus → a.burst ≡ Incr → word_address (word_request bus a) 0 bus ≡ word_address a 0 bus
word-same bus a is incr =
    aligned-multiple bus (a.addr / bus) (aligned bus a.addr) (width-bounds bus is).0 refl
    ∙ sym (ap (λ (b : Burst). aligned bus (address_by_kind b (size_of a) (beats_of a) a.addr 0)) incr)

-- a lane that is strobed is within the strobes' lanes
no-low_bit : (strobe low lane : ℕ) → strobe % 2 ^ low ≡ 0 → lane < low → bit_at strobe lane ≡ 0
no-low_bit strobe low lane none lt =
    let rest : ℕ = low - lane in
    let sum : rest + lane ≡ low = omega (arith, lt) in
    let whole : strobe % 2 ^ (rest + lane) ≡ 0 = ap (λ (k : ℕ). strobe % 2 ^ k) sum ∙ none in
    let split : (strobe / 2 ^ lane % 2 ^ rest) * 2 ^ lane + strobe % 2 ^ lane ≡ 0 = sym (mod-pow-add strobe rest lane) ∙ whole in
    let high : strobe / 2 ^ lane % 2 ^ rest ≡ 0 = zero-factor (strobe / 2 ^ lane % 2 ^ rest) (2 ^ lane) (strobe % 2 ^ lane) (pow_pos lane) split in
    let one : rest - 1 + 1 ≡ rest = omega (arith, lt) in
    sym (mod-mod-pow (strobe / 2 ^ lane) (rest - 1) 1) ∙ ap (λ (k : ℕ). strobe / 2 ^ lane % 2 ^ k % 2 ^ 1) one ∙ ap (λ (k : ℕ). k % 2 ^ 1) high
  where
    zero-factor : (x y z : ℕ) → 0 < y → x * y + z ≡ 0 → x ≡ 0
    zero-factor zero y z some e = refl
    zero-factor (suc x) y z some e = absurd (omega (arith, some, e))

within-valid : (bus : ℕ) (a : Addr) (w : WBeat) → first_lane a 0 bus ≤ last_lane a 0 bus → IsTrue (strobes_within (first_lane a 0 bus) (last_lane a 0 bus) w.strobe) → StrobesValidLanes bus a 0 w
within-valid bus a w order within lane below strobed =
    let low : ℕ = first_lane a 0 bus in
    let high : ℕ = last_lane a 0 bus in
    let parts = and_parts (w.strobe % 2 ^ low == 0) (nat_lt w.strobe (2 ^ (high + 1))) within in
    let set : bit_at w.strobe lane ≡ 1 = eqb-true (bit_at w.strobe lane) 1 strobed in
    let from : low ≤ lane = elim (cases_lt lane low) [
      | inl lt ↦ absurd (one-zero (sym set ∙ no-low_bit w.strobe low lane (eqb-true (w.strobe % 2 ^ low) 0 parts.0) lt))
      | inr ge ↦ ge
    ] in
    let to : lane ≤ high = elim (cases_lt high lane) [
      | inl lt ↦ absurd (one-zero (sym set ∙ bit_at_above w.strobe (high + 1) lane (ltb-true w.strobe (2 ^ (high + 1)) parts.1) (omega (arith, lt))))
      | inr ge ↦ ge
    ] in
    and_from _ _ (le-leb low lane from) (lt-ltb lane (low + (high - low + 1)) (omega (arith, order, to)))
  where
    one-zero : ◌≡◌ {A = ℕ} 1 0 → ⊥
    one-zero e = absurd (omega (arith, e))

-- what one beat writes
one-written : (bus : ℕ) (a : Addr) (w : WBeat) → IsBusWidth bus → IsLegal a bus → IsDataOf bus a (w ∷ []) → written_bytes bus a (w ∷ []) ≡ lane_bytes (word_address a 0 bus) w (strobed_lanes bus w)
one-written bus a w is legal sent =
    let lanes = lanes-are_on_bus a 0 bus is legal in
    written-more bus a [] w (omega arith) ∙ ap (λ (bytes : List Byte). bytes ++ beat_written bus a 0 w) (written-past (burst_bytes a))
    ∙ sym (strobed-are_written bus a 0 w is legal (within-valid bus a w lanes.0 (sent.strobes 0 w (omega arith))))

-- the data of a single beat writes the same for the word
pub word-written : (bus : ℕ) (a : Addr) (beats : List WBeat) → IsBusWidth bus → IsLegal a bus → a.len ≡ 0 → a.burst ≡ Incr → IsDataOf bus a beats →
    written_bytes bus (word_request bus a) beats ≡ written_bytes bus a beats
word-written bus a [] is legal single incr sent = absurd (omega (arith, sent.whole))
word-written bus a (w ∷ x ∷ beats) is legal single incr sent = absurd (omega (arith, sent.whole, single))
word-written bus a (w ∷ []) is legal single incr sent =
    one-written bus (word_request bus a) w is (word-legal bus a is) (word-data bus a (w ∷ []) is legal single sent)
    ∙ ap (λ (word : ℕ). lane_bytes word w (strobed_lanes bus w)) (word-same bus a is incr)
    ∙ sym (one-written bus a w is legal sent)
