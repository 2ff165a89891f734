-- What the beats of a write write.
use Rattle.std.proofs.Common.{◌≡◌, ◌≤◌, ℕ, ◌+◌, ◌-◌, ◌<◌, suc, zero, List, [], ◌∷◌, ◌++◌, Option, Some, None, length, map, refl, sym, ◌∙◌, ap, arith, append_assoc, length-append}
use Rattle.std.proofs.lemmas.List.{append-nil}
use Rattle.std.proofs.lemmas.List.{length-map}
use Rattle.axi_beats.specs.declared.beat.Addr.{Addr}
use Rattle.axi_beats.specs.declared.beat.WBeat.{WBeat}
use Rattle.burst_address.specs.Formulas.{beats_of}
use Rattle.burst_address.specs.Bytes.{Byte, beat_bytes, bytes_before, strobed_byte, strobed_values, bytes_with, beat_written, written_bytes}

-- what is written at two lists of addresses, one after the other
pub written-append : (xs ys : List ℕ) (us vs : List (Option ℕ)) → length us ≡ length xs → bytes_with (xs ++ ys) (us ++ vs) ≡ bytes_with xs us ++ bytes_with ys vs
written-append [] ys [] vs e = refl
written-append [] ys (u ∷ us) vs e = absurd (omega arith)
written-append (x ∷ xs) ys [] vs e = absurd (omega arith)
written-append (x ∷ xs) ys (None ∷ us) vs e = written-append xs ys us vs (omega arith)
written-append (x ∷ xs) ys (Some u ∷ us) vs e = ap (λ (t : List Byte). record { address = x; value = u } ∷ t) (written-append xs ys us vs (omega arith))

-- addresses past the values are not written
pub written-past : (ys : List ℕ) → bytes_with ys [] ≡ []
written-past [] = refl
written-past (y ∷ ys) = refl

written-first : (xs ys : List ℕ) (us : List (Option ℕ)) → length us ≡ length xs → bytes_with (xs ++ ys) us ≡ bytes_with xs us
written-first xs ys us e =
    ap (bytes_with (xs ++ ys)) (sym (append-nil us)) ∙ written-append xs ys us [] e
    ∙ ap (λ t. bytes_with xs us ++ t) (written-past ys) ∙ append-nil (bytes_with xs us)

-- the values of one beat more
strobed-more : (bus : ℕ) (a : Addr) (n : ℕ) (ws : List WBeat) (w : WBeat) → strobed_values bus a n (ws ++ w ∷ []) ≡ strobed_values bus a n ws ++ map (strobed_byte bus w) (beat_bytes a (n + length ws))
strobed-more bus a n [] w =
    let same : n ≡ n + 0 = omega arith in
    append-nil (map (strobed_byte bus w) (beat_bytes a n)) ∙ ap (λ t. map (strobed_byte bus w) (beat_bytes a t)) same
strobed-more bus a n (x ∷ ws) w =
    let next : suc n + length ws ≡ n + suc (length ws) = omega arith in
    ap (λ t. map (strobed_byte bus x) (beat_bytes a n) ++ t) (strobed-more bus a (suc n) ws w ∙ ap (λ t. strobed_values bus a (suc n) ws ++ map (strobed_byte bus w) (beat_bytes a t)) next)
    ∙ sym (append_assoc (map (strobed_byte bus x) (beat_bytes a n)) (strobed_values bus a (suc n) ws) (map (strobed_byte bus w) (beat_bytes a (n + suc (length ws)))))

-- a value for each valid byte of the beats
strobed-length : (bus : ℕ) (a : Addr) (n : ℕ) (ws : List WBeat) → length (bytes_before a n) + length (strobed_values bus a n ws) ≡ length (bytes_before a (n + length ws))
strobed-length bus a n [] = let same : n + 0 ≡ n = omega arith in omega (arith, ap (λ t. length (bytes_before a t)) same)
strobed-length bus a n (w ∷ ws) =
    let next : suc n + length ws ≡ n + suc (length ws) = omega arith in
    omega (
      arith,
      ap (λ t. length (bytes_before a t)) next,
      strobed-length bus a (suc n) ws,
      length-append (bytes_before a n) (beat_bytes a n),
      length-append (map (strobed_byte bus w) (beat_bytes a n)) (strobed_values bus a (suc n) ws),
      length-map (beat_bytes a n) (strobed_byte bus w),
    )

-- the bytes of the first beats, and then the others
before-split : (a : Addr) (m k : ℕ) → (rest : List ℕ) × (bytes_before a (m + k) ≡ bytes_before a m ++ rest)
before-split a m zero = ([], let same : m + 0 ≡ m = omega arith in ap (λ t. bytes_before a t) same ∙ sym (append-nil (bytes_before a m)))
before-split a m (suc k) =
    let first : (rest : List ℕ) × (bytes_before a (m + k) ≡ bytes_before a m ++ rest) = before-split a m k in
    let next : m + suc k ≡ suc (m + k) = omega arith in (
      first.0 ++ beat_bytes a (m + k),
      ap (λ t. bytes_before a t) next ∙ ap (λ t. t ++ beat_bytes a (m + k)) first.1 ∙ append_assoc (bytes_before a m) first.0 (beat_bytes a (m + k)),
    )

written-before : (bus : ℕ) (a : Addr) (ws : List WBeat) → length ws ≤ beats_of a → written_bytes bus a ws ≡ bytes_with (bytes_before a (length ws)) (strobed_values bus a 0 ws)
written-before bus a ws le =
    let split : (rest : List ℕ) × (bytes_before a (length ws + (beats_of a - length ws)) ≡ bytes_before a (length ws) ++ rest) = before-split a (length ws) (beats_of a - length ws) in
    let all : beats_of a ≡ length ws + (beats_of a - length ws) = omega arith in
    let none : 0 + length ws ≡ length ws = omega arith in
    let long : length (strobed_values bus a 0 ws) ≡ length (bytes_before a (length ws)) = omega (arith, strobed-length bus a 0 ws, ap (λ t. length (bytes_before a t)) none) in
    ap (λ t. bytes_with t (strobed_values bus a 0 ws)) (ap (λ t. bytes_before a t) all ∙ split.1)
    ∙ written-first (bytes_before a (length ws)) split.0 (strobed_values bus a 0 ws) long

-- one more W beat writes its own bytes after those of the beats before it
pub written-more : (bus : ℕ) (a : Addr) (ws : List WBeat) (w : WBeat) → length ws < beats_of a → written_bytes bus a (ws ++ w ∷ []) ≡ written_bytes bus a ws ++ beat_written bus a (length ws) w
written-more bus a ws w lt =
    let one : length (ws ++ w ∷ []) ≡ suc (length ws) = omega (arith, length-append ws (w ∷ [])) in
    let none : 0 + length ws ≡ length ws = omega arith in
    let long : length (strobed_values bus a 0 ws) ≡ length (bytes_before a (length ws)) = omega (arith, strobed-length bus a 0 ws, ap (λ t. length (bytes_before a t)) none) in
    written-before bus a (ws ++ w ∷ []) (omega arith)
    ∙ ap (λ t. bytes_with (bytes_before a t) (strobed_values bus a 0 (ws ++ w ∷ []))) one
    ∙ ap (λ t. bytes_with (bytes_before a (suc (length ws))) t) (strobed-more bus a 0 ws w ∙ ap (λ t. strobed_values bus a 0 ws ++ map (strobed_byte bus w) (beat_bytes a t)) none)
    ∙ written-append (bytes_before a (length ws)) (beat_bytes a (length ws)) (strobed_values bus a 0 ws) (map (strobed_byte bus w) (beat_bytes a (length ws))) long
    ∙ ap (λ t. t ++ beat_written bus a (length ws) w) (sym (written-before bus a ws (omega arith)))
