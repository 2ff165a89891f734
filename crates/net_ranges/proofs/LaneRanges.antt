-- Lists of a beat's 128 lanes: each a byte, and 0 from the bus upwards.
use Rattle.std.proofs.Common.{◌≡◌, ◌<◌, ◌≤◌, ◌+◌, ◌-◌, ◌∷◌, ◌++◌, ℕ, zero, suc, List, length, drop, replicate, map, refl, sym, ap, ap₂, ◌∙◌, arith, append_assoc}
use Rattle.std.specs.Prelude.{All}
use Rattle.std.specs.List.{range_with_len}
use Rattle.std.proofs.Math.Seq.{drop-append-add}
use Rattle.std.proofs.lemmas.List.{drop-replicate, length-append, length-replicate}
use Rattle.std.proofs.lemmas.List.Elements.{All-append, All-replicate, recursion_from_All}
use Rattle.std.proofs.lemmas.List.FromFn.{length-map-range_with_len}
use Rattle.plain_text.specs.ExactLaws.{AreBytes}
use Rattle.trace_text.specs.Ranges.{IsOnBus}

-- ---- lanes that are a function of their number

zeros-from : (f : ℕ → ℕ) (a n : ℕ) → ((k : ℕ) → a ≤ k → f k ≡ 0) → map f (range_with_len a n) ≡ replicate n 0
zeros-from f a zero none = refl
zeros-from f a (suc n) none = ap₂ (λ (x : ℕ) (xs : List ℕ). x ∷ xs) (none a (omega arith)) (zeros-from f (a + 1) n (λ k le. none k (omega (arith, le))))

mapped-after : (f : ℕ → ℕ) (a n m all : ℕ) → all ≡ n + m → drop n (map f (range_with_len a all)) ≡ map f (range_with_len (a + n) m)
mapped-after f a zero m all are =
    let here : a ≡ a + 0 = omega arith in
    let rest : all ≡ m = omega (arith, are) in
    ap₂ (λ (b k : ℕ). map f (range_with_len b k)) here rest
mapped-after f a (suc n) m zero are = absurd (omega (arith, are))
mapped-after f a (suc n) m (suc all) are =
    let next : (a + 1) + n ≡ a + suc n = omega arith in
    mapped-after f (a + 1) n m all (omega (arith, are)) ∙ ap (λ (b : ℕ). map f (range_with_len b m)) next

bytes-mapped : (f : ℕ → ℕ) (a n : ℕ) → ((k : ℕ) → f k < 256) → AreBytes (map f (range_with_len a n))
bytes-mapped f a zero each = tt
bytes-mapped f a (suc n) each = (each a, bytes-mapped f (a + 1) n each)

pub mapped-on_bus : (f : ℕ → ℕ) (bus all : ℕ) → all ≡ 128 → bus ≤ 128 → ((k : ℕ) → f k < 256) → ((k : ℕ) → bus ≤ k → f k ≡ 0) → IsOnBus bus (map f (range_with_len 0 all))
mapped-on_bus f bus all is few each none = record {
  lanes_128 = length-map-range_with_len f 0 all ∙ is;
  bytes = bytes-mapped f 0 all each;
  above =
      let start : 0 + bus ≡ bus = omega arith in
      mapped-after f 0 bus (128 - bus) all (omega (arith, is, few)) ∙ zeros-from f (0 + bus) (128 - bus) (λ k le. none k (omega (arith, le)));
}

-- ---- lanes with some bytes from a lane on

zeros-past : (front : List ℕ) (bus gap count : ℕ) → bus ≡ length front + gap → drop bus (front ++ replicate count 0) ≡ replicate (count - gap) 0
zeros-past front bus gap count past =
    ap (λ (n : ℕ). drop n (front ++ replicate count 0)) past ∙ drop-append-add front (replicate count 0) gap ∙ drop-replicate gap count 0

pub placed-on_bus : (low bus : ℕ) (bytes : List ℕ) → All (λ (byte : ℕ). byte < 256) bytes → low + length bytes ≤ bus → bus ≤ 128 → IsOnBus bus (replicate low 0 ++ (bytes ++ replicate (128 - low - length bytes) 0))
placed-on_bus low bus bytes all fit few =
    let Is : ℕ → Type 0 = λ byte. byte < 256 in
    let before : List ℕ = replicate low 0 in
    let rest : List ℕ = replicate (128 - low - length bytes) 0 in
    let front = length-append before (bytes ++ rest) in
    let back = length-append bytes rest in
    let zeros : length before ≡ low = length-replicate low 0 in
    let more : length rest ≡ 128 - low - length bytes = length-replicate (128 - low - length bytes) 0 in
    let both = length-append before bytes in
    let gap = bus - low - length bytes in
    let past : bus ≡ length (before ++ bytes) + gap = omega (arith, both, zeros, fit) in
    let left : 128 - low - length bytes - gap ≡ 128 - bus = omega (arith, fit, few) in
    record {
      lanes_128 = omega (arith, front, back, zeros, more, fit, few);
      bytes = recursion_from_All Is _ (All-append Is before (bytes ++ rest) (All-replicate Is low 0 (omega arith)) (All-append Is bytes rest all (All-replicate Is (128 - low - length bytes) 0 (omega arith))));
      above =
          ap (drop bus) (sym (append_assoc before bytes rest)) ∙ zeros-past (before ++ bytes) bus gap (128 - low - length bytes) past ∙ ap (λ (n : ℕ). replicate n 0) left;
    }
