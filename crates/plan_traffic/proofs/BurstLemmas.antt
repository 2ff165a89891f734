-- How many bytes a legal burst has.
use Rattle.std.proofs.Common.{◌≡◌, ℕ, Bool, true, false, cond, Option, Some, None, nat_lt, ◌^◌, ◌+◌, ◌-◌, ◌*◌, ◌/◌, ◌%◌, ◌<◌, ◌≤◌, zero, suc, ◌++◌, length, refl, sym, ◌∙◌, ap, arith}
use Rattle.std.specs.List.{range_with_len}
use Rattle.std.proofs.lemmas.Bool.{eqb-true, le-ltb, true≢false}
use Rattle.std.proofs.lemmas.List.{length-append}
use Rattle.std.proofs.lemmas.List.FromFn.{length-range_with_len}
use Rattle.std.proofs.lemmas.Nat.{pow_pos, div-add-mod', mod_below}
use Rattle.std.proofs.Math.Nat.{mul-le-mul_right, pow-le-pow_right}
use Rattle.axi_beats.specs.declared.beat.Addr.{Addr}
use Rattle.axi_beats.specs.declared.beat.Burst.{Burst}
use Rattle.axi_beats.specs.declared.beat.Burst.TheVariants.{Fixed, Incr, Wrap}
use Rattle.burst_address.specs.Bytes.{beat_bytes, burst_bytes, bytes_before, valid_bytes}
use Rattle.burst_address.specs.Formulas.{address_by_kind, aligned, beats_of, size_of, wrap_boundary}
use Rattle.burst_address.specs.declared.rule.BurstRule.{BurstRule}
use Rattle.burst_address.specs.declared.rule.BurstRule.TheVariants.{Size}
use Rattle.burst_address.specs.Legal.{is_start_of, IsLegal}
use Rattle.burst_address.proofs.Beats.{incr-bytes, wrap-bytes}
use Rattle.burst_address.proofs.Legality.{legal-size, legal-start}
use Rattle.burst_address.proofs.Numbers.{aligned-le, aligned-near, exponent_below}

-- the valid bytes of the first beat, and of each other one
abbrev pub first_of : Addr → ℕ
first_of a = size_of a - a.addr % size_of a

abbrev pub other_by : Burst → Addr → ℕ
other_by Fixed a = first_of a
other_by Incr a = size_of a
other_by Wrap a = size_of a

-- from an address to the end of its block
block-rest : (size x : ℕ) → 0 < size → (aligned size x + size - x ≡ size - x % size) × (x % size < size)
block-rest size x some =
    let sum : x / size * size + x % size ≡ x = div-add-mod' x size in
    let below : x % size < size = mod_below x size some in
    (omega arith, below)

fixed-before : (a : Addr) (n : ℕ) → a.burst ≡ Fixed → length (bytes_before a n) ≡ n * first_of a
fixed-before a zero e = let none : 0 ≡ 0 * first_of a = omega arith in none
fixed-before a (suc n) e =
    let rest : length (bytes_before a n) ≡ n * first_of a = fixed-before a n e in
    let beat : length (beat_bytes a n) ≡ first_of a =
    ap (λ b. length (valid_bytes (size_of a) (address_by_kind b (size_of a) (beats_of a) a.addr n))) e
    ∙ length-range_with_len a.addr (aligned (size_of a) a.addr + size_of a - a.addr)
    ∙ (block-rest (size_of a) a.addr (pow_pos a.size)).0 in
    let sum : length (bytes_before a n ++ beat_bytes a n) ≡ length (bytes_before a n) + length (beat_bytes a n) = length-append (bytes_before a n) (beat_bytes a n) in
    let more : suc n * first_of a ≡ n * first_of a + first_of a = omega arith in
    omega arith

incr-length : (a : Addr) → a.burst ≡ Incr → length (burst_bytes a) ≡ first_of a + a.len * size_of a
incr-length a e =
    let pos : 0 < size_of a = pow_pos a.size in
    let rest = block-rest (size_of a) a.addr pos in
    let start : aligned (size_of a) a.addr ≤ a.addr = aligned-le (size_of a) a.addr in
    let near : a.addr < aligned (size_of a) a.addr + size_of a = aligned-near (size_of a) a.addr pos in
    let all : beats_of a * size_of a ≡ a.len * size_of a + size_of a = omega arith in
    let first : aligned (size_of a) a.addr + size_of a - a.addr ≡ first_of a = rest.0 in
    ap length (incr-bytes a e) ∙ length-range_with_len a.addr (aligned (size_of a) a.addr + beats_of a * size_of a - a.addr) ∙ omega arith

wrap-length : (a : Addr) (bus : ℕ) → IsLegal a bus → a.burst ≡ Wrap → length (burst_bytes a) ≡ first_of a + a.len * size_of a
wrap-length a bus legal e =
    let pos : 0 < size_of a = pow_pos a.size in
    let whole : a.addr % size_of a ≡ 0 = eqb-true (a.addr % size_of a) 0 (sym (ap (λ b. is_start_of b (size_of a) a.addr) e) ∙ legal-start a bus legal) in
    let all : size_of a * beats_of a ≡ a.len * size_of a + size_of a = omega arith in
    let some : 1 * size_of a ≤ beats_of a * size_of a = mul-le-mul_right (size_of a) (omega arith) in
    let low : wrap_boundary (size_of a) (beats_of a) a.addr ≤ a.addr = aligned-le (size_of a * beats_of a) a.addr in
    let near : a.addr < wrap_boundary (size_of a) (beats_of a) a.addr + size_of a * beats_of a = aligned-near (size_of a * beats_of a) a.addr (omega arith) in
    let upper : length (range_with_len a.addr (wrap_boundary (size_of a) (beats_of a) a.addr + size_of a * beats_of a - a.addr)) ≡ wrap_boundary (size_of a) (beats_of a) a.addr + size_of a * beats_of a - a.addr =
    length-range_with_len a.addr (wrap_boundary (size_of a) (beats_of a) a.addr + size_of a * beats_of a - a.addr) in
    let lower : length (range_with_len (wrap_boundary (size_of a) (beats_of a) a.addr) (a.addr - wrap_boundary (size_of a) (beats_of a) a.addr)) ≡ a.addr - wrap_boundary (size_of a) (beats_of a) a.addr =
    length-range_with_len (wrap_boundary (size_of a) (beats_of a) a.addr) (a.addr - wrap_boundary (size_of a) (beats_of a) a.addr) in
    ap length (wrap-bytes a bus legal e)
    ∙ length-append (range_with_len a.addr (wrap_boundary (size_of a) (beats_of a) a.addr + size_of a * beats_of a - a.addr)) (range_with_len (wrap_boundary (size_of a) (beats_of a) a.addr) (a.addr - wrap_boundary (size_of a) (beats_of a) a.addr))
    ∙ omega arith

fixed-length : (a : Addr) → a.burst ≡ Fixed → length (burst_bytes a) ≡ first_of a + a.len * first_of a
fixed-length a e = fixed-before a (beats_of a) e ∙ omega arith

pub burst-length : (a : Addr) (bus : ℕ) → IsLegal a bus → length (burst_bytes a) ≡ first_of a + a.len * other_by a.burst a
burst-length a bus legal = by a.burst refl
  where
    by : (burst : Burst) → a.burst ≡ burst → length (burst_bytes a) ≡ first_of a + a.len * other_by burst a
    by Fixed e = fixed-length a e
    by Incr e = incr-length a e
    by Wrap e = wrap-length a bus legal e

-- A burst whose beats have at most 128 bytes is legal on the widest bus, where it is legal on some bus.
pub legal-widest : (a : Addr) (bus : ℕ) → a.size ≤ 7 → IsLegal a bus → IsLegal a 128
legal-widest a bus small legal =
    let most : size_of a ≤ 2 ^ 7 = pow-le-pow_right {n = 2} (omega arith) small in
    either_way (nat_lt bus (size_of a)) (nat_lt 128 (size_of a)) _ (le-ltb bus (size_of a) (legal-size a bus legal)) (le-ltb 128 (size_of a) most) legal
  where
    either_way : (one other : Bool) (rest : Option BurstRule) → one ≡ false → other ≡ false → cond one (Some Size) rest ≡ None → cond other (Some Size) rest ≡ None
    either_way false false rest here there e = e
    either_way true other rest here there e = absurd (true≢false here)
    either_way false true rest here there e = absurd (true≢false there)

pub legal-exponent : (a : Addr) → IsLegal a 128 → a.size ≤ 7
legal-exponent a legal = let below : a.size < 8 = exponent_below a.size (legal-size a 128 legal) in omega arith
