-- Where the beats of a burst lie, and their bytes.
use Rattle.std.proofs.Common.{◌≡◌, ◌≤◌, ℕ, ◌+◌, ◌-◌, ◌*◌, ◌/◌, ◌%◌, ◌^◌, ◌<◌, suc, zero, true, false, cond, nat_lt, ◌++◌, length, get_or, inl, inr, refl, sym, ◌∙◌, ap, subst, arith, append_assoc}
use Rattle.std.specs.Prelude.{All}
use Rattle.std.specs.List.{range_with_len}
use Rattle.std.proofs.Math.Nat.{mul-le-mul_right, pow-le-pow_right, div-div-eq-div-mul}
use Rattle.std.proofs.lemmas.Nat.{pow_pos, pow-add, div-add-mod', mod_below}
use Rattle.std.proofs.lemmas.Bool.{eqb-true, lt-ltb, le-ltb, cases_lt}
use Rattle.std.proofs.lemmas.List.{append-nil}
use Rattle.std.proofs.lemmas.List.FromFn.{length-range_with_len}
use Rattle.std.proofs.lemmas.List.Elements.{All-append}
use Rattle.std.specs.Int.{bit_at}
use Rattle.std.proofs.lemmas.Nat.Bits.{bit_at-lt}
use Rattle.axi_beats.specs.Bus.{IsBusWidth}
use Rattle.axi_beats.specs.declared.beat.Addr.{Addr}
use Rattle.axi_beats.specs.declared.beat.Burst.{Burst}
use Rattle.axi_beats.specs.declared.beat.Burst.TheVariants.{Fixed, Incr, Wrap}
use Rattle.burst_address.specs.Formulas.{aligned, incr_address, wrap_boundary, wrap_address, address_by_kind, size_of, beats_of, beat_at, lower_lane, upper_lane}
use Rattle.burst_address.specs.Legal.{is_length_of, is_start_of, is_in_page, IsLegal, page}
use Rattle.burst_address.specs.Bytes.{valid_bytes, beat_bytes, bytes_before, burst_bytes}
use Rattle.burst_address.proofs.Numbers.{aligned-le, aligned-near, same_block, coarser, mod-add, exponent_below, exponents, bus_power, below_from_bits}
use Rattle.burst_address.proofs.Runs.{run-append, All-run, valid_bytes-whole}
use Rattle.burst_address.proofs.Legality.{legal-size, legal-length, legal-start, legal-page, wrap_length}

-- ---- INCR

-- the bytes of the first beats of an INCR burst
incr-before : (a : Addr) (n : ℕ) → a.burst ≡ Incr → bytes_before a (suc n) ≡ range_with_len a.addr (aligned (size_of a) a.addr + suc n * size_of a - a.addr)
incr-before a zero e =
    ap (λ b. valid_bytes (size_of a) (address_by_kind b (size_of a) (beats_of a) a.addr 0)) e
    ∙ ap (λ t. range_with_len a.addr t) (omega arith)
incr-before a (suc n) e =
    let pos : 0 < size_of a = pow_pos a.size in
    let near : a.addr < aligned (size_of a) a.addr + size_of a = aligned-near (size_of a) a.addr pos in
    let room : 1 * size_of a ≤ suc n * size_of a = mul-le-mul_right (size_of a) (omega arith) in
    let beat : beat_bytes a (suc n) ≡ range_with_len (aligned (size_of a) a.addr + suc n * size_of a) (size_of a) =
    ap (λ b. valid_bytes (size_of a) (address_by_kind b (size_of a) (beats_of a) a.addr (suc n))) e
    ∙ valid_bytes-whole (size_of a) (a.addr / size_of a + suc n) (aligned (size_of a) a.addr + suc n * size_of a) pos (omega arith) in
    ap (λ t. t ++ beat_bytes a (suc n)) (incr-before a n e)
    ∙ ap (λ t. range_with_len a.addr (aligned (size_of a) a.addr + suc n * size_of a - a.addr) ++ t) beat
    ∙ run-append a.addr (aligned (size_of a) a.addr + suc n * size_of a - a.addr) (aligned (size_of a) a.addr + suc n * size_of a) (size_of a) (omega arith)
    ∙ ap (λ t. range_with_len a.addr t) (omega arith)

pub incr-bytes : (a : Addr) → a.burst ≡ Incr → burst_bytes a ≡ range_with_len a.addr (aligned (size_of a) a.addr + beats_of a * size_of a - a.addr)
incr-bytes a e =
    let more : beats_of a ≡ suc a.len = omega arith in
    ap (λ n. bytes_before a n) more ∙ incr-before a a.len e
    ∙ ap (λ n. range_with_len a.addr (aligned (size_of a) a.addr + n * size_of a - a.addr)) (sym more)

-- ---- WRAP

-- the start of a WRAP burst stands some beats above its boundary
record Start (size beats start : ℕ) : Type 0 where
  above : ℕ
  within : above < beats
  is : start ≡ wrap_boundary size beats start + above * size
  -- the boundary is a multiple of the size
  blocks : ℕ
  low : wrap_boundary size beats start ≡ blocks * size

wrap-start : (size beats start : ℕ) → 0 < size → 0 < beats → start % size ≡ 0 → Start size beats start
wrap-start size beats start some any whole =
    let sum : start / size * size + start % size ≡ start = div-add-mod' start size in
    let parts : start / size / beats * beats + start / size % beats ≡ start / size = div-add-mod' (start / size) beats in
    let block : start / size / beats ≡ start / (size * beats) = div-div-eq-div-mul start size beats in
    let low : wrap_boundary size beats start ≡ start / size / beats * beats * size = ap (λ q. q * (size * beats)) (sym block) ∙ omega arith in
    let scaled : (start / size / beats * beats + start / size % beats) * size ≡ start / size * size = ap (λ q. q * size) parts in
    record {
      above = start / size % beats;
      within = mod_below (start / size) beats any;
      is = omega arith;
      blocks = start / size / beats * beats;
      low = low;
    }

incr-aligned : (size start n : ℕ) → 0 < size → start % size ≡ 0 → incr_address size start n ≡ start + n * size
incr-aligned size start zero some whole = omega arith
incr-aligned size start (suc n) some whole =
    let sum : start / size * size + start % size ≡ start = div-add-mod' start size in omega arith

-- a beat below the upper end
wrap-below : (size beats start n : ℕ) (s : Start size beats start) → 0 < size → start % size ≡ 0 → s.above + n < beats → wrap_address size beats start n ≡ start + n * size
wrap-below size beats start n s some whole lt =
    let up : incr_address size start n ≡ start + n * size = incr-aligned size start n some whole in
    let room : (s.above + n + 1) * size ≤ beats * size = mul-le-mul_right size (omega arith) in
    let at : start ≡ wrap_boundary size beats start + s.above * size = s.is in
    let test : nat_lt (incr_address size start n) (wrap_boundary size beats start + size * beats) ≡ true = lt-ltb (incr_address size start n) (wrap_boundary size beats start + size * beats) (omega arith) in
    ap (λ b. cond b (incr_address size start n) (incr_address size start n - size * beats)) test ∙ up

-- a beat that went back to the boundary
wrap-above : (size beats start n i : ℕ) (s : Start size beats start) → 0 < size → start % size ≡ 0 → s.above + n ≡ beats + i → wrap_address size beats start n ≡ wrap_boundary size beats start + i * size
wrap-above size beats start n i s some whole e =
    let up : incr_address size start n ≡ start + n * size = incr-aligned size start n some whole in
    let room : (s.above + n) * size ≡ (beats + i) * size = ap (λ t. t * size) e in
    let at : start ≡ wrap_boundary size beats start + s.above * size = s.is in
    let test : nat_lt (incr_address size start n) (wrap_boundary size beats start + size * beats) ≡ false = le-ltb (incr_address size start n) (wrap_boundary size beats start + size * beats) (omega arith) in
    ap (λ b. cond b (incr_address size start n) (incr_address size start n - size * beats)) test ∙ omega arith

wrap-whole : (a : Addr) (bus : ℕ) → IsLegal a bus → a.burst ≡ Wrap → a.addr % size_of a ≡ 0
wrap-whole a bus legal e =
    eqb-true (a.addr % size_of a) 0 (sym (ap (λ b. is_start_of b (size_of a) a.addr) e) ∙ legal-start a bus legal)

-- the bytes of the first beats, up to the upper end
wrap-before : (a : Addr) (s : Start (size_of a) (beats_of a) a.addr) → a.burst ≡ Wrap → a.addr % size_of a ≡ 0 → (n : ℕ) → s.above + n ≤ beats_of a → bytes_before a n ≡ range_with_len a.addr (n * size_of a)
wrap-before a s e whole zero le = let none : 0 ≡ 0 * size_of a = omega arith in ap (λ t. range_with_len a.addr t) none
wrap-before a s e whole (suc n) le =
    let pos : 0 < size_of a = pow_pos a.size in
    let sum : a.addr / size_of a * size_of a + a.addr % size_of a ≡ a.addr = div-add-mod' a.addr (size_of a) in
    let beat : beat_bytes a n ≡ range_with_len (a.addr + n * size_of a) (size_of a) =
    ap (λ b. valid_bytes (size_of a) (address_by_kind b (size_of a) (beats_of a) a.addr n)) e
    ∙ ap (λ t. valid_bytes (size_of a) t) (wrap-below (size_of a) (beats_of a) a.addr n s pos whole (omega arith))
    ∙ valid_bytes-whole (size_of a) (a.addr / size_of a + n) (a.addr + n * size_of a) pos (omega arith) in
    let more : n * size_of a + size_of a ≡ suc n * size_of a = omega arith in
    ap (λ t. t ++ beat_bytes a n) (wrap-before a s e whole n (omega arith))
    ∙ ap (λ t. range_with_len a.addr (n * size_of a) ++ t) beat
    ∙ run-append a.addr (n * size_of a) (a.addr + n * size_of a) (size_of a) refl
    ∙ ap (λ t. range_with_len a.addr t) more

-- and those of the beats that follow
wrap-then : (a : Addr) (s : Start (size_of a) (beats_of a) a.addr) → a.burst ≡ Wrap → a.addr % size_of a ≡ 0 → (m i : ℕ) → s.above + m ≡ beats_of a → bytes_before a (m + i) ≡ range_with_len a.addr (m * size_of a) ++ range_with_len (wrap_boundary (size_of a) (beats_of a) a.addr) (i * size_of a)
wrap-then a s e whole m zero all =
    let none : m + 0 ≡ m = omega arith in
    let empty : 0 ≡ 0 * size_of a = omega arith in
    ap (λ n. bytes_before a n) none ∙ wrap-before a s e whole m (omega arith)
    ∙ sym (append-nil (range_with_len a.addr (m * size_of a)))
    ∙ ap (λ t. range_with_len a.addr (m * size_of a) ++ range_with_len (wrap_boundary (size_of a) (beats_of a) a.addr) t) empty
wrap-then a s e whole m (suc i) all =
    let pos : 0 < size_of a = pow_pos a.size in
    let next : m + suc i ≡ suc (m + i) = omega arith in
    let low : wrap_boundary (size_of a) (beats_of a) a.addr ≡ s.blocks * size_of a = s.low in
    let beat : beat_bytes a (m + i) ≡ range_with_len (wrap_boundary (size_of a) (beats_of a) a.addr + i * size_of a) (size_of a) =
    ap (λ b. valid_bytes (size_of a) (address_by_kind b (size_of a) (beats_of a) a.addr (m + i))) e
    ∙ ap (λ t. valid_bytes (size_of a) t) (wrap-above (size_of a) (beats_of a) a.addr (m + i) i s pos whole (omega arith))
    ∙ valid_bytes-whole (size_of a) (s.blocks + i) (wrap_boundary (size_of a) (beats_of a) a.addr + i * size_of a) pos (omega arith) in
    let more : i * size_of a + size_of a ≡ suc i * size_of a = omega arith in
    ap (λ n. bytes_before a n) next
    ∙ ap (λ t. t ++ beat_bytes a (m + i)) (wrap-then a s e whole m i all)
    ∙ ap (λ t. (range_with_len a.addr (m * size_of a) ++ range_with_len (wrap_boundary (size_of a) (beats_of a) a.addr) (i * size_of a)) ++ t) beat
    ∙ append_assoc (range_with_len a.addr (m * size_of a)) (range_with_len (wrap_boundary (size_of a) (beats_of a) a.addr) (i * size_of a)) (range_with_len (wrap_boundary (size_of a) (beats_of a) a.addr + i * size_of a) (size_of a))
    ∙ ap (λ t. range_with_len a.addr (m * size_of a) ++ t) (run-append (wrap_boundary (size_of a) (beats_of a) a.addr) (i * size_of a) (wrap_boundary (size_of a) (beats_of a) a.addr + i * size_of a) (size_of a) refl)
    ∙ ap (λ t. range_with_len a.addr (m * size_of a) ++ range_with_len (wrap_boundary (size_of a) (beats_of a) a.addr) t) more

wrap-all : (a : Addr) (s : Start (size_of a) (beats_of a) a.addr) → a.burst ≡ Wrap → a.addr % size_of a ≡ 0 → (m : ℕ) → s.above + m ≡ beats_of a → burst_bytes a ≡ range_with_len a.addr (wrap_boundary (size_of a) (beats_of a) a.addr + size_of a * beats_of a - a.addr) ++ range_with_len (wrap_boundary (size_of a) (beats_of a) a.addr) (a.addr - wrap_boundary (size_of a) (beats_of a) a.addr)
wrap-all a s e whole m all =
    let at : a.addr ≡ wrap_boundary (size_of a) (beats_of a) a.addr + s.above * size_of a = s.is in
    let count : beats_of a ≡ m + s.above = omega arith in
    let scaled : (s.above + m) * size_of a ≡ beats_of a * size_of a = ap (λ t. t * size_of a) all in
    let first : m * size_of a ≡ wrap_boundary (size_of a) (beats_of a) a.addr + size_of a * beats_of a - a.addr = omega arith in
    let rest : s.above * size_of a ≡ a.addr - wrap_boundary (size_of a) (beats_of a) a.addr = omega arith in
    ap (λ n. bytes_before a n) count ∙ wrap-then a s e whole m s.above all
    ∙ ap (λ t. range_with_len a.addr t ++ range_with_len (wrap_boundary (size_of a) (beats_of a) a.addr) (s.above * size_of a)) first
    ∙ ap (λ t. range_with_len a.addr (wrap_boundary (size_of a) (beats_of a) a.addr + size_of a * beats_of a - a.addr) ++ range_with_len (wrap_boundary (size_of a) (beats_of a) a.addr) t) rest

pub wrap-bytes : (a : Addr) (bus : ℕ) → IsLegal a bus → a.burst ≡ Wrap → burst_bytes a ≡ range_with_len a.addr (wrap_boundary (size_of a) (beats_of a) a.addr + size_of a * beats_of a - a.addr) ++ range_with_len (wrap_boundary (size_of a) (beats_of a) a.addr) (a.addr - wrap_boundary (size_of a) (beats_of a) a.addr)
wrap-bytes a bus legal e =
    let whole : a.addr % size_of a ≡ 0 = wrap-whole a bus legal e in
    let start : Start (size_of a) (beats_of a) a.addr = wrap-start (size_of a) (beats_of a) a.addr (pow_pos a.size) (omega arith) whole in
    let within : start.above < beats_of a = start.within in
    wrap-all a start e whole (beats_of a - start.above) (omega arith)

-- ---- the page of a beat

incr-page : (size beats start n : ℕ) → 0 < size → start / 4096 ≡ (aligned size start + beats * size - 1) / 4096 → n < beats → incr_address size start n / 4096 ≡ start / 4096
incr-page size beats start zero some one lt = refl
incr-page size beats start (suc n) some one lt =
    let near : start < aligned size start + size = aligned-near size start some in
    let room : (suc n + 1) * size ≤ beats * size = mul-le-mul_right size (omega arith) in
    let least : 1 * size ≤ suc n * size = mul-le-mul_right size (omega arith) in
    omega arith

-- a WRAP burst's beats lie in its block
wrap-block : (size beats start n : ℕ) (s : Start size beats start) → 0 < size → start % size ≡ 0 → n < beats → wrap_address size beats start n / (size * beats) ≡ start / (size * beats)
wrap-block size beats start n s some whole lt =
    let at : start ≡ wrap_boundary size beats start + s.above * size = s.is in
    let above : (s.above + 1) * size ≤ beats * size = mul-le-mul_right size (let one : s.above < beats = s.within in omega arith) in
    elim (cases_lt (s.above + n) beats) [
      | inl below ↦
          let room : (s.above + n + 1) * size ≤ beats * size = mul-le-mul_right size (omega arith) in
          ap (λ t. t / (size * beats)) (wrap-below size beats start n s some whole below)
          ∙ same_block (size * beats) start (start + n * size) (omega arith) (omega arith) (omega arith)
      | inr back ↦
          let room : (s.above + n - beats + 1) * size ≤ beats * size = mul-le-mul_right size (let one : s.above < beats = s.within in omega arith) in
          ap (λ t. t / (size * beats)) (wrap-above size beats start n (s.above + n - beats) s some whole (omega arith))
          ∙ same_block (size * beats) start (wrap_boundary size beats start + (s.above + n - beats) * size) (omega arith) (omega arith) (omega arith)
    ]

wrap-page : (s beats start n : ℕ) → s ≤ 7 → is_length_of Wrap beats ≡ true → start % 2 ^ s ≡ 0 → n < beats → wrap_address (2 ^ s) beats start n / 4096 ≡ start / 4096
wrap-page s beats start n small is whole lt =
    let power : (j : ℕ) × (beats ≡ 2 ^ j) × (j ≤ 4) = wrap_length beats is in
    let block : 2 ^ (s + power.0) ≡ 2 ^ s * beats = pow-add 2 s power.0 ∙ ap (λ t. 2 ^ s * t) (sym power.1) in
    let start_of : Start (2 ^ s) beats start = wrap-start (2 ^ s) beats start (pow_pos s) (omega arith) whole in
    let bound : power.0 ≤ 4 = power.2 in
    coarser (s + power.0) 12 start (wrap_address (2 ^ s) beats start n) (omega arith)
    (subst (λ (b : ℕ). wrap_address (2 ^ s) beats start n / b ≡ start / b) (sym block) (wrap-block (2 ^ s) beats start n start_of (pow_pos s) whole lt))

address-page : (kind : Burst) (s beats start n : ℕ) → s ≤ 7 → is_length_of kind beats ≡ true → is_start_of kind (2 ^ s) start ≡ true → is_in_page kind (2 ^ s) beats start ≡ true → n < beats → address_by_kind kind (2 ^ s) beats start n / 4096 ≡ start / 4096
address-page Fixed s beats start n small long whole one lt = refl
address-page Incr s beats start n small long whole one lt = incr-page (2 ^ s) beats start n (pow_pos s) (eqb-true (start / 4096) ((aligned (2 ^ s) start + beats * 2 ^ s - 1) / 4096) one) lt
address-page Wrap s beats start n small long whole one lt = wrap-page s beats start n small long (eqb-true (start % 2 ^ s) 0 whole) lt

-- the exponent of a size that fits a bus
legal-exponent : (a : Addr) (bus : ℕ) → bus ≤ 128 → IsLegal a bus → a.size ≤ 7
legal-exponent a bus le legal =
    let size : size_of a ≤ bus = legal-size a bus legal in
    let below : a.size < 8 = exponent_below a.size (omega arith) in omega arith

pub beat-page : (a : Addr) (bus n : ℕ) → bus ≤ 128 → IsLegal a bus → n < beats_of a → page (beat_at a n) ≡ page a.addr
beat-page a bus n le legal lt = address-page a.burst a.size (beats_of a) a.addr n (legal-exponent a bus le legal) (legal-length a bus legal) (legal-start a bus legal) (legal-page a bus legal) lt

-- a beat below a limit that ends a page
pub beat-limit : (a : Addr) (bus n : ℕ) → bus ≤ 128 → IsLegal a bus → n < beats_of a → a.addr < 2 ^ 63 → beat_at a n < 2 ^ 63
beat-limit a bus n le legal lt low =
    let same : page (beat_at a n) ≡ page a.addr = beat-page a bus n le legal lt in omega arith

-- ---- the bytes of a beat

-- a valid byte lies in each block of a power of two, from the size on, that the beat's address lies in
valid-block : (s m x byte : ℕ) → s ≤ m → x ≤ byte → byte < x + (aligned (2 ^ s) x + 2 ^ s - x) → byte / 2 ^ m ≡ x / 2 ^ m
valid-block s m x byte le from to =
    let pos : 0 < 2 ^ s = pow_pos s in
    let start : aligned (2 ^ s) x ≤ x = aligned-le (2 ^ s) x in
    let end : x < aligned (2 ^ s) x + 2 ^ s = aligned-near (2 ^ s) x pos in
    coarser s m x byte le (same_block (2 ^ s) x byte pos (omega arith) (omega arith))

pub All-valid : (P : ℕ → Type 0) (s x : ℕ) → ((byte : ℕ) → x ≤ byte → byte < x + (aligned (2 ^ s) x + 2 ^ s - x) → P byte) → All P (valid_bytes (2 ^ s) x)
All-valid P s x each = All-run P x (aligned (2 ^ s) x + 2 ^ s - x) each

bytes-page : (a : Addr) (bus n : ℕ) → bus ≤ 128 → IsLegal a bus → n ≤ beats_of a → All (λ byte. page byte ≡ page a.addr) (bytes_before a n)
bytes-page a bus zero le legal within = λ k d lt. absurd (omega arith)
bytes-page a bus (suc n) le legal within =
    All-append (λ byte. page byte ≡ page a.addr) (bytes_before a n) (beat_bytes a n)
    (bytes-page a bus n le legal (omega arith))
    (All-valid (λ byte. page byte ≡ page a.addr) a.size (beat_at a n)
    (λ byte from to. valid-block a.size 12 (beat_at a n) byte (let small : a.size ≤ 7 = legal-exponent a bus le legal in omega arith) from to ∙ beat-page a bus n le legal (omega arith)))

pub bus-most : (bus : ℕ) → IsBusWidth bus → bus ≤ 128
bus-most bus is =
    let power : (w : ℕ) × (bus ≡ 2 ^ w) × (w ≤ 7) = bus_power bus is in
    let most : 2 ^ power.0 ≤ 2 ^ 7 = pow-le-pow_right {n = 2} (omega arith) power.2 in
    omega arith

pub burst-page : (a : Addr) (bus : ℕ) → IsBusWidth bus → IsLegal a bus → All (λ byte. page byte ≡ page a.addr) (burst_bytes a)
burst-page a bus is legal = bytes-page a bus (beats_of a) (bus-most bus is) legal (omega arith)

pub burst-limit : (a : Addr) (bus : ℕ) → IsBusWidth bus → IsLegal a bus → a.addr < 2 ^ 63 → All (λ byte. byte < 2 ^ 63) (burst_bytes a)
burst-limit a bus is legal low = λ k d lt.
    let same : page (get_or (burst_bytes a) k d) ≡ page a.addr = burst-page a bus is legal k d lt in omega arith

pub beat-line : (a : Addr) (bus n : ℕ) → IsBusWidth bus → IsLegal a bus → All (λ byte. (byte / 128 ≡ beat_at a n / 128) × (byte / bus ≡ beat_at a n / bus)) (beat_bytes a n)
beat-line a bus n is legal =
    let power : (w : ℕ) × (bus ≡ 2 ^ w) × (w ≤ 7) = bus_power bus is in
    let fits : size_of a ≤ bus = legal-size a bus legal in
    let size : a.size ≤ power.0 = exponents a.size power.0 (omega arith) in
    All-valid (λ byte. (byte / 128 ≡ beat_at a n / 128) × (byte / bus ≡ beat_at a n / bus)) a.size (beat_at a n)
    (λ byte from to. (valid-block a.size 7 (beat_at a n) byte (omega arith) from to, subst (λ (b : ℕ). byte / b ≡ beat_at a n / b) (sym power.1) (valid-block a.size power.0 (beat_at a n) byte size from to)))

-- ---- lanes

follow : (a : Addr) (bus n k : ℕ) → IsBusWidth bus → IsLegal a bus → k < aligned (size_of a) (beat_at a n) + size_of a - beat_at a n → (beat_at a n + k) % bus ≡ beat_at a n % bus + k
follow a bus n k is legal lt =
    let power : (w : ℕ) × (bus ≡ 2 ^ w) × (w ≤ 7) = bus_power bus is in
    let fits : size_of a ≤ bus = legal-size a bus legal in
    let size : a.size ≤ power.0 = exponents a.size power.0 (omega arith) in
    mod-add bus (beat_at a n) k (subst (λ (b : ℕ). (beat_at a n + k) / b ≡ beat_at a n / b) (sym power.1) (valid-block a.size power.0 (beat_at a n) (beat_at a n + k) size (omega arith) (omega arith)))

pub beat-follow : (a : Addr) (bus n k : ℕ) → IsBusWidth bus → IsLegal a bus → k < length (beat_bytes a n) → (beat_at a n + k) % bus ≡ lower_lane bus (beat_at a n) + k
beat-follow a bus n k is legal lt =
    let long : length (beat_bytes a n) ≡ aligned (size_of a) (beat_at a n) + size_of a - beat_at a n = length-range_with_len (beat_at a n) (aligned (size_of a) (beat_at a n) + size_of a - beat_at a n) in
    follow a bus n k is legal (omega arith)

bus-some : (bus : ℕ) → IsBusWidth bus → 0 < bus
bus-some bus is = let power : (w : ℕ) × (bus ≡ 2 ^ w) × (w ≤ 7) = bus_power bus is in subst (λ (b : ℕ). 0 < b) (sym power.1) (pow_pos power.0)

pub upper-below : (size bus x : ℕ) → IsBusWidth bus → upper_lane size bus x < bus
upper-below size bus x is = mod_below (aligned size x + size - 1) bus (bus-some bus is)

pub beat-count : (a : Addr) (bus n : ℕ) → IsBusWidth bus → IsLegal a bus →
    (length (beat_bytes a n) + lower_lane bus (beat_at a n) ≡ upper_lane (size_of a) bus (beat_at a n) + 1) × (0 < length (beat_bytes a n)) × (length (beat_bytes a n) ≤ size_of a) × (upper_lane (size_of a) bus (beat_at a n) < bus)
beat-count a bus n is legal =
    let long : length (beat_bytes a n) ≡ aligned (size_of a) (beat_at a n) + size_of a - beat_at a n = length-range_with_len (beat_at a n) (aligned (size_of a) (beat_at a n) + size_of a - beat_at a n) in
    let pos : 0 < size_of a = pow_pos a.size in
    let start : aligned (size_of a) (beat_at a n) ≤ beat_at a n = aligned-le (size_of a) (beat_at a n) in
    let end : beat_at a n < aligned (size_of a) (beat_at a n) + size_of a = aligned-near (size_of a) (beat_at a n) pos in
    let last : beat_at a n + (aligned (size_of a) (beat_at a n) + size_of a - beat_at a n - 1) ≡ aligned (size_of a) (beat_at a n) + size_of a - 1 = omega arith in
    let upper : (aligned (size_of a) (beat_at a n) + size_of a - 1) % bus ≡ beat_at a n % bus + (aligned (size_of a) (beat_at a n) + size_of a - beat_at a n - 1) =
    ap (λ t. t % bus) (sym last) ∙ follow a bus n (aligned (size_of a) (beat_at a n) + size_of a - beat_at a n - 1) is legal (omega arith) in
    (omega arith, omega arith, omega arith, upper-below (size_of a) bus (beat_at a n) is)

pub strobes-below : (a : Addr) (bus n strobe : ℕ) → IsBusWidth bus → ((lane : ℕ) → bit_at strobe lane ≡ 1 → lane ≤ upper_lane (size_of a) bus (beat_at a n)) → strobe < 2 ^ bus
strobes-below a bus n strobe is within =
    below_from_bits strobe bus (λ i above.
    let upper : upper_lane (size_of a) bus (beat_at a n) < bus = upper-below (size_of a) bus (beat_at a n) is in
    let bit : bit_at strobe i < 2 = bit_at-lt strobe i in
    elim (cases_lt (bit_at strobe i) 1) [
      | inl none ↦ omega arith
      | inr one ↦ let reached : i ≤ upper_lane (size_of a) bus (beat_at a n) = within i (omega arith) in absurd (omega arith)
    ])
