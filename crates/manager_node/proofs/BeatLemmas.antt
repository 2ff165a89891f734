-- Lanes and strobes, byte by byte.
use Rattle.std.proofs.Common.{◌≡◌, ℕ, ◌+◌, ◌-◌, ◌*◌, ◌^◌, ◌<◌, ◌≤◌, ◌%◌, zero, suc, Bool, true, false, cond, List, [], ◌∷◌, ◌++◌, length, map, set, take, get_or, refl, sym, ◌∙◌, ap, subst, arith, append_assoc, length-append, length-take}
use Rattle.std.specs.Prelude.{replicate, bit_or}
use Rattle.std.proofs.Math.Nat.{mod-eq_of_lt, mul-lt-mul_of_pos_right, pow-le-pow_right, pow-suc, zero-mul}
use Rattle.std.proofs.lemmas.List.{length-map, map-append, take_more}
use Rattle.std.proofs.lemmas.Nat.{one_shl, or_comm, or_shifted, pow-add, pow_pos}
use mir.Val.{bool_byte}
use Rattle.manager_node.specs.Beats.{lane_of, lanes_from, strobe_of}
use Rattle.manager_node.specs.declared.script.WriteByte.{WriteByte}

-- one more byte on the next lane
set-next : (ys : List ℕ) (m v : ℕ) → set (ys ++ replicate (suc m) 0) (length ys) v ≡ ys ++ (v ∷ replicate m 0)
set-next [] m v = refl
set-next (y ∷ ys) m v = ap (λ (zs : List ℕ). y ∷ zs) (set-next ys m v)

set-after : (k n m v : ℕ) (ys : List ℕ) → n ≡ length ys → set (replicate k 0 ++ (ys ++ replicate (suc m) 0)) (k + n) v ≡ replicate k 0 ++ (ys ++ (v ∷ replicate m 0))
set-after zero n m v ys long = ap (λ (k : ℕ). set (ys ++ replicate (suc m) 0) k v) (omega arith) ∙ set-next ys m v
set-after (suc k) n m v ys long =
    let next : suc k + n ≡ suc (k + n) = omega arith
    in ap (λ (i : ℕ). set (0 ∷ (replicate k 0 ++ (ys ++ replicate (suc m) 0))) i v) next ∙ ap (λ (zs : List ℕ). 0 ∷ zs) (set-after k n m v ys long)

pub lanes-more : (low : ℕ) (bytes : List WriteByte) (byte : WriteByte) → low + length bytes < 128 → set (lanes_from low bytes) (low + length bytes) (lane_of byte) ≡ lanes_from low (bytes ++ byte ∷ [])
lanes-more low bytes byte few =
    let m : ℕ = 128 - low - length (bytes ++ byte ∷ [])
    in let left : 128 - low - length bytes ≡ suc m = omega (arith, length-append bytes (byte ∷ []))
    in ap (λ (k : ℕ). set (replicate low 0 ++ (map lane_of bytes ++ replicate k 0)) (low + length bytes) (lane_of byte)) left
    ∙ set-after low (length bytes) m (lane_of byte) (map lane_of bytes) (sym (length-map bytes lane_of))
    ∙ ap (λ (back : List ℕ). replicate low 0 ++ back) (sym (append_assoc (map lane_of bytes) (lane_of byte ∷ []) (replicate m 0)) ∙ ap (λ (front : List ℕ). front ++ replicate m 0) (sym (map-append lane_of bytes (byte ∷ []))))

-- no byte is there yet
pub lanes-first : (low : ℕ) → low ≤ 128 → replicate 128 0 ≡ lanes_from low []
lanes-first low le =
    let sum : 128 ≡ low + (128 - low - 0) = omega arith
    in ap (λ (n : ℕ). replicate {A = ℕ} n 0) sum ∙ zeros low (128 - low - 0)
  where
    zeros : (k m : ℕ) → replicate {A = ℕ} (k + m) 0 ≡ replicate k 0 ++ replicate m 0
    zeros zero m = let same : zero + m ≡ m = omega arith in ap (λ (n : ℕ). replicate {A = ℕ} n 0) same
    zeros (suc k) m = let next : suc k + m ≡ suc (k + m) = omega arith in ap (λ (n : ℕ). replicate {A = ℕ} n 0) next ∙ ap (λ (zs : List ℕ). 0 ∷ zs) (zeros k m)

abbrev bit : Bool → ℕ
bit b = cond b 1 0

double : (k : ℕ) → 2 ^ suc k ≡ 2 * 2 ^ k
double k = let e = pow-suc 2 k in omega arith

-- one more strobe
pub strobe-more : (bytes : List WriteByte) (byte : WriteByte) → strobe_of (bytes ++ byte ∷ []) ≡ strobe_of bytes + bit byte.strobed * 2 ^ length bytes
strobe-more [] byte =
    let go : (b : Bool) → bit b + 2 * 0 ≡ 0 + bit b * 2 ^ 0 = elim [ true ↦ refl | false ↦ refl ]
    in go byte.strobed
strobe-more (x ∷ xs) byte =
    let more = strobe-more xs byte
    in let go : (b : Bool) → strobe_of (xs ++ byte ∷ []) ≡ strobe_of xs + bit b * 2 ^ length xs → bit x.strobed + 2 * strobe_of (xs ++ byte ∷ []) ≡ (bit x.strobed + 2 * strobe_of xs) + bit b * 2 ^ suc (length xs) =
    elim [
      | true ↦ λ e. let d = double (length xs) in omega arith
      | false ↦ λ e. omega arith
    ]
    in go byte.strobed more

-- the strobes of so many bytes are so many bits
pub strobe-small : (bytes : List WriteByte) → strobe_of bytes < 2 ^ length bytes
strobe-small [] = omega arith
strobe-small (x ∷ xs) =
    let go : (b : Bool) → bit b + 2 * strobe_of xs < 2 ^ suc (length xs) =
    let less = strobe-small xs
    in let d = double (length xs)
    in elim [ true ↦ omega arith | false ↦ omega arith ]
    in go x.strobed

module _ (low : ℕ) (bytes : List WriteByte) (n : ℕ) (byte : WriteByte) (more : n < length bytes) (few : low + length bytes ≤ 128) where
  length-front : length (take n bytes) ≡ n
  length-front = omega (arith, length-take n bytes)

  -- the next byte on its lane
  pub lanes-step : (lanes : List ℕ) → lanes ≡ lanes_from low (take n bytes) → set lanes (low + n) (lane_of (get_or bytes n byte)) ≡ lanes_from low (take (n + 1) bytes)
  lanes-step lanes is =
      ap (λ (ls : List ℕ). set ls (low + n) (lane_of (get_or bytes n byte))) is
      ∙ ap (λ (k : ℕ). set (lanes_from low (take n bytes)) (low + k) (lane_of (get_or bytes n byte))) (sym length-front)
      ∙ lanes-more low (take n bytes) (get_or bytes n byte) (omega (arith, length-front))
      ∙ ap (lanes_from low) (sym (take_more bytes n byte more))

  -- the next byte's strobe
  pub strobe-step : (strobe : ℕ) → strobe ≡ strobe_of (take n bytes) → bit_or strobe (bool_byte (get_or bytes n byte).strobed * 2 ^ n % 2 ^ 128) ≡ strobe_of (take (n + 1) bytes)
  strobe-step strobe is =
      let small : strobe < 2 ^ n = subst (λ (k : ℕ). strobe < 2 ^ k) length-front (subst (λ (s : ℕ). s < 2 ^ length (take n bytes)) (sym is) (strobe-small (take n bytes)))
      in let go : (b : Bool) → bit_or strobe (bool_byte b * 2 ^ n % 2 ^ 128) ≡ strobe + bit b * 2 ^ n =
      elim [
        | true ↦ ap (bit_or strobe) (one_shl n 128 (omega arith)) ∙ or_comm strobe (2 ^ n) ∙ ap (λ (k : ℕ). bit_or k strobe) (omega arith) ∙ or_shifted 1 n strobe small ∙ omega arith
        | false ↦ ap (λ (k : ℕ). bit_or strobe (k % 2 ^ 128)) (zero-mul (2 ^ n)) ∙ or_comm strobe 0 ∙ ap (λ (k : ℕ). bit_or k strobe) (sym (zero-mul (2 ^ n))) ∙ or_shifted 0 n strobe small ∙ omega arith
      ]
      in go (get_or bytes n byte).strobed
      ∙ ap (λ (s : ℕ). s + bit (get_or bytes n byte).strobed * 2 ^ n) is
      ∙ ap (λ (k : ℕ). strobe_of (take n bytes) + bit (get_or bytes n byte).strobed * 2 ^ k) (sym length-front)
      ∙ sym (strobe-more (take n bytes) (get_or bytes n byte))
      ∙ ap strobe_of (sym (take_more bytes n byte more))

-- the strobes from a lane upwards
pub strobe-shifted : (low : ℕ) (bytes : List WriteByte) (strobe : ℕ) → low + length bytes ≤ 128 → strobe ≡ strobe_of bytes → strobe * 2 ^ low % 2 ^ 128 ≡ strobe_of bytes * 2 ^ low
strobe-shifted low bytes strobe few is =
    let small = strobe-small bytes
    in let shifted : strobe_of bytes * 2 ^ low < 2 ^ length bytes * 2 ^ low = mul-lt-mul_of_pos_right {k = 2 ^ low} small (pow_pos low)
    in let power : 2 ^ (length bytes + low) ≡ 2 ^ length bytes * 2 ^ low = pow-add 2 (length bytes) low
    in let most = pow-le-pow_right {n = 2} (omega arith) {i = length bytes + low} {j = 128} (omega arith)
    in ap (λ (s : ℕ). s * 2 ^ low % 2 ^ 128) is ∙ mod-eq_of_lt {n = strobe_of bytes * 2 ^ low} {m = 2 ^ 128} (omega (arith, shifted, power, most))
