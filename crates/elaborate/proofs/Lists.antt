-- Lists that are made of others, and what stands at their places.
use Rattle.std.proofs.Common.{◌≡◌, ◌<◌, ◌+◌, ◌-◌, ◌*◌, ◌++◌, ℕ, zero, suc, true, List, [], ◌∷◌, length, map, Some, None, refl, sym, ◌∙◌, ap, inl, inr, arith}
use Rattle.std.specs.Prelude.{flat_map, is_some, slice_get, slice_index_or, sum}
use Rattle.std.specs.List.{range_with_len}
use Rattle.std.proofs.lemmas.Bool.{cases_lt, false≢true, true≢false}
use Rattle.std.proofs.lemmas.Grind.{flat_map-append}
use Rattle.std.proofs.lemmas.List.{append-nil, length-append}
use Rattle.std.proofs.lemmas.Option.{slice_get_within}
use Rattle.std.proofs.lemmas.List.Sums.{sum_by-cons}
use Rattle.node_graph.specs.Graph.{is_in}
use Rattle.node_graph.proofs.Members.{in-cases, in-first, in-rest}

pub None-Some : {X : Type 0} (x : X) → None ≡ Some x → ⊥
None-Some x e = true≢false (sym (ap is_some e))

pub Some-same : {X : Type 0} (x y : X) → Some x ≡ Some y → x ≡ y
Some-same x y e = cc

-- ---- two lists in a row

pub get-front : {X : Type 0} (xs ys : List X) (place : ℕ) → place < length xs → slice_get (xs ++ ys) place ≡ slice_get xs place
get-front [] ys place less = absurd (omega (arith, less))
get-front (x ∷ xs) ys zero less = refl
get-front (x ∷ xs) ys (suc place) less = get-front xs ys place (omega (arith, less))

pub get-back : {X : Type 0} (xs ys : List X) (place number : ℕ) → number ≡ length xs + place → slice_get (xs ++ ys) number ≡ slice_get ys place
get-back [] ys place number same = ap (slice_get ys) (omega (arith, same))
get-back (x ∷ xs) ys place zero same = absurd (omega (arith, same))
get-back (x ∷ xs) ys place (suc number) same = get-back xs ys place number (omega (arith, same))

-- ---- the elements of a range, each made into one, two or many

pub get-mapped : {X : Type 0} (f : ℕ → X) (from count place : ℕ) → place < count → slice_get (map f (range_with_len from count)) place ≡ Some (f (from + place))
get-mapped f from zero place less = absurd (omega (arith, less))
get-mapped f from (suc count) zero less = ap (λ (k : ℕ). Some (f k)) (omega arith)
get-mapped f from (suc count) (suc place) less = get-mapped f (from + 1) count place (omega (arith, less)) ∙ ap (λ (k : ℕ). Some (f k)) (omega arith)

-- where an element of a flat list comes from
pub record Spot {X : Type 0} (f : ℕ → List X) (from count number : ℕ) (x : X) : Type 0 where
  pub place : ℕ
  pub inner : ℕ
  pub within : place < count
  pub sum : number ≡ sum (map (λ n. length (f n)) (range_with_len from place)) + inner
  pub at : slice_get (f (from + place)) inner ≡ Some x

sum-next : {X : Type 0} (f : ℕ → List X) (from place : ℕ) → sum (map (λ n. length (f n)) (range_with_len from (suc place))) ≡ length (f from) + sum (map (λ n. length (f n)) (range_with_len (from + 1) place))
sum-next f from place = sum_by-cons (λ x. x) (length (f from)) (map (λ n. length (f n)) (range_with_len (from + 1) place))

pub spot-of : {X : Type 0} (f : ℕ → List X) (from count number : ℕ) (x : X) → slice_get (flat_map f (range_with_len from count)) number ≡ Some x → Spot f from count number x
spot-of f from zero number x e = absurd (None-Some x e)
spot-of f from (suc count) number x e =
    elim (cases_lt number (length (f from))) [
      | inl here ↦ record {
        place = 0;
        inner = number;
        within = omega arith;
        sum = omega arith;
        at = ap (λ k. slice_get (f k) number) (omega arith) ∙ sym (get-front (f from) (flat_map f (range_with_len (from + 1) count)) number here) ∙ e;
      }
      | inr later ↦
          let gap : number ≡ length (f from) + (number - length (f from)) = omega arith in
          let more : Spot f (from + 1) count (number - length (f from)) x =
          spot-of f (from + 1) count (number - length (f from)) x
          (sym (get-back (f from) (flat_map f (range_with_len (from + 1) count)) (number - length (f from)) number gap) ∙ e) in
          record {
            place = suc more.place;
            inner = more.inner;
            within = omega (arith, more.within);
            sum = omega (arith, gap, more.sum, sum-next f from more.place);
            at = ap (λ k. slice_get (f k) more.inner) (omega arith) ∙ more.at;
          }
    ]

pub get-flat : {X : Type 0} (f : ℕ → List X) (from count place inner number : ℕ) (x : X) → place < count → number ≡ sum (map (λ n. length (f n)) (range_with_len from place)) + inner → slice_get (f (from + place)) inner ≡ Some x →
    slice_get (flat_map f (range_with_len from count)) number ≡ Some x
get-flat f from zero place inner number x within sum at = absurd (omega (arith, within))
get-flat f from (suc count) zero inner number x within sum at =
    let here : slice_get (f from) number ≡ Some x = ap (λ k. slice_get (f from) k) (omega (arith, sum)) ∙ ap (λ k. slice_get (f k) inner) (omega arith) ∙ at in
    get-front (f from) (flat_map f (range_with_len (from + 1) count)) number (slice_get_within (f from) number x here) ∙ here
get-flat f from (suc count) (suc place) inner number x within sum at =
    get-back (f from) (flat_map f (range_with_len (from + 1) count)) (number - length (f from)) number (omega (arith, sum, sum-next f from place))
    ∙ get-flat f (from + 1) count place inner (number - length (f from)) x (omega (arith, within)) (omega (arith, sum, sum-next f from place))
    (ap (λ k. slice_get (f k) inner) (omega arith) ∙ at)

pub pairs-long : {X : Type 0} (f : ℕ → List X) → ((n : ℕ) → length (f n) ≡ 2) → (from count : ℕ) → sum (map (λ n. length (f n)) (range_with_len from count)) ≡ 2 * count
pairs-long f two from zero = omega arith
pairs-long f two from (suc count) = omega (arith, sum-next f from count, two from, pairs-long f two (from + 1) count)

pub flat-long : {X : Type 0} (f : ℕ → List X) (from count : ℕ) → length (flat_map f (range_with_len from count)) ≡ sum (map (λ n. length (f n)) (range_with_len from count))
flat-long f from zero = refl
flat-long f from (suc count) =
    omega (arith, length-append (f from) (flat_map f (range_with_len (from + 1) count)), flat-long f (from + 1) count, sum-next f from count)

-- ---- numbers in lists

pub in-mapped : (f : ℕ → ℕ) (xs : List ℕ) (y : ℕ) → is_in (map f xs) y ≡ true → (x : ℕ) × (is_in xs x ≡ true) × (f x ≡ y)
in-mapped f [] y e = absurd (false≢true e)
in-mapped f (x ∷ xs) y e =
    elim (in-cases (f x) (map f xs) y e) [
      | inl here ↦ (x, in-first x xs x refl, here)
      | inr there ↦ let found : (z : ℕ) × (is_in xs z ≡ true) × (f z ≡ y) = in-mapped f xs y there in (found.0, in-rest x xs found.0 found.1, found.2)
    ]

pub mapped-in : (f : ℕ → ℕ) (xs : List ℕ) (x : ℕ) → is_in xs x ≡ true → is_in (map f xs) (f x) ≡ true
mapped-in f [] x e = absurd (false≢true e)
mapped-in f (y ∷ ys) x e =
    elim (in-cases y ys x e) [
      | inl here ↦ in-first (f y) (map f ys) (f x) (ap f here)
      | inr there ↦ in-rest (f y) (map f ys) (f x) (mapped-in f ys x there)
    ]

pub in-one : (x y : ℕ) → is_in (x ∷ []) y ≡ true → x ≡ y
in-one x y e = elim (in-cases x [] y e) [ inl here ↦ here | inr there ↦ absurd (false≢true there) ]

pub get-in : (xs : List ℕ) (place x : ℕ) → slice_get xs place ≡ Some x → is_in xs x ≡ true
get-in [] place x e = absurd (None-Some x e)
get-in (y ∷ ys) zero x e = in-first y ys x (Some-same y x e)
get-in (y ∷ ys) (suc place) x e = in-rest y ys x (get-in ys place x e)

pub nth-in : (xs : List ℕ) (place : ℕ) → place < length xs → is_in xs (slice_index_or xs place 0) ≡ true
nth-in [] place less = absurd (omega (arith, less))
nth-in (x ∷ xs) zero less = in-first x xs x refl
nth-in (x ∷ xs) (suc place) less = in-rest x xs (slice_index_or xs place 0) (nth-in xs place (omega (arith, less)))

-- ---- one more of a range

range-more : (from count : ℕ) → range_with_len from (suc count) ≡ range_with_len from count ++ (from + count) ∷ []
range-more from zero = ap (λ (n : ℕ). n ∷ []) (omega arith)
range-more from (suc count) =
    let one : (from + 1) + count ≡ from + suc count = omega arith in
    ap (λ ns. from ∷ ns) (range-more (from + 1) count ∙ ap (λ n. range_with_len (from + 1) count ++ n ∷ []) one)

pub flat-more : {X : Type 0} (f : ℕ → List X) (count : ℕ) → flat_map f (range_with_len 0 (count + 1)) ≡ flat_map f (range_with_len 0 count) ++ f count
flat-more f count =
    let one : count + 1 ≡ suc count = omega arith in
    let last : 0 + count ≡ count = omega arith in
    ap (λ n. flat_map f (range_with_len 0 n)) one
    ∙ ap (flat_map f) (range-more 0 count ∙ ap (λ n. range_with_len 0 count ++ n ∷ []) last)
    ∙ flat_map-append f (range_with_len 0 count) (count ∷ [])
    ∙ ap (λ ys. flat_map f (range_with_len 0 count) ++ ys) (append-nil (f count))
