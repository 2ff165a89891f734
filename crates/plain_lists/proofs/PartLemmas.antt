-- The first elements of lists, what follows them, and what stands in the middle.
use Rattle.std.proofs.Common.{◌≡◌, ℕ, ◌+◌, ◌<◌, ◌≤◌, suc, zero, List, [], ◌∷◌, ◌++◌, Some, length, take, drop, refl, sym, ◌∙◌, ap, subst, arith, inl, inr, ◌⊎◌, append_assoc, append-nil, length-append, All}
use Rattle.std.specs.Prelude.{flat_map, slice_get, zip}
use Rattle.std.proofs.lemmas.List.{drop_at, get_or-append-add, take_at}
use Rattle.std.proofs.lemmas.List.Concat.{flat_map-append}
use Rattle.std.proofs.lemmas.List.Elements.{All-cons, All-nil}
use Rattle.plain_lists.specs.Prefixes.{IsPrefix}

module _ {X : Type 0} where
  -- one more of the first elements is the next one
  pub drop_next : (n : ℕ) (xs : List X) (x : X) (rest : List X) → drop n xs ≡ x ∷ rest → take (suc n) xs ≡ take n xs ++ x ∷ []
  drop_next n [] x rest e = absurd (nothing n e)
    where
      nothing : (n : ℕ) → drop n [] ≡ x ∷ rest → ⊥
      nothing zero e = cc
      nothing (suc n) e = cc
  drop_next zero (y ∷ xs) x rest e = ap (λ (z : X). z ∷ []) (let head : y ≡ x = cc in head)
  drop_next (suc n) (y ∷ xs) x rest e = ap (λ t. y ∷ t) (drop_next n xs x rest e)

  pub drop_rest : (n : ℕ) (xs : List X) (x : X) (rest : List X) → drop n xs ≡ x ∷ rest → drop (suc n) xs ≡ rest
  drop_rest n [] x rest e = absurd (nothing n e)
    where
      nothing : (n : ℕ) → drop n [] ≡ x ∷ rest → ⊥
      nothing zero e = cc
      nothing (suc n) e = cc
  drop_rest zero (y ∷ xs) x rest e = (let tail : xs ≡ rest = cc in tail)
  drop_rest (suc n) (y ∷ xs) x rest e = drop_rest n xs x rest e

  pub take_within : (n : ℕ) (xs : List X) → length (take n xs) ≤ length xs
  take_within zero xs = omega arith
  take_within (suc n) [] = omega arith
  take_within (suc n) (x ∷ xs) = omega (arith, take_within n xs)

  -- the elements after a beginning
  pub drop_prefix : (n : ℕ) (xs : List X) (x : X) (ys : List X) → IsPrefix (xs ++ x ∷ []) ys → length xs ≡ n → (rest : List X) × (drop n ys ≡ x ∷ rest)
  drop_prefix n xs x ys p e = (p.rest, ap (drop n) (p.whole ∙ append_assoc xs (x ∷ []) p.rest) ∙ drop_at xs (x ∷ p.rest) n e)

  -- a place in two lists in a row is in one of them
  pub split_append : (xs ys before : List X) (x : X) (after : List X) → xs ++ ys ≡ before ++ x ∷ after →
      ((mid : List X) × (xs ≡ before ++ x ∷ mid) × (after ≡ mid ++ ys)) ⊎ ((mid : List X) × (ys ≡ mid ++ x ∷ after) × (before ≡ xs ++ mid))
  split_append [] ys before x after e = inr (before, e, refl)
  split_append (y ∷ xs) ys [] x after e =
      let head : y ≡ x = cc in
      let tail : xs ++ ys ≡ after = cc in
      inl (xs, ap (λ (z : X). z ∷ xs) head, sym tail)
  split_append (y ∷ xs) ys (b ∷ before) x after e =
      let head : y ≡ b = cc in
      let tail : xs ++ ys ≡ before ++ x ∷ after = cc in
      elim (split_append xs ys before x after tail) [
        | inl found ↦ inl (found.0, ap (λ t. y ∷ t) found.1 ∙ ap (λ (z : X). z ∷ (before ++ x ∷ found.0)) head, found.2)
        | inr found ↦ inr (found.0, found.1, ap (λ (z : X). z ∷ before) (sym head) ∙ ap (λ t. y ∷ t) found.2)
      ]

-- pairs of what follows the first elements
pub drop_zip : {X Y : Type 0} (n : ℕ) (xs : List X) (ys : List Y) (x : X) (y : Y) (more : List X) (others : List Y) → drop n xs ≡ x ∷ more → drop n ys ≡ y ∷ others →
    drop n (zip xs ys) ≡ (x, y) ∷ zip more others
drop_zip zero [] ys x y more others e f = absurd (cc)
drop_zip zero (a ∷ xs) [] x y more others e f = absurd (cc)
drop_zip {X} {Y} zero (a ∷ xs) (b ∷ ys) x y more others e f =
    ap (λ (t : List X). zip t (b ∷ ys)) e ∙ ap (λ (t : List Y). zip (x ∷ more) t) f
drop_zip (suc n) [] ys x y more others e f = absurd (cc)
drop_zip (suc n) (a ∷ xs) [] x y more others e f = absurd (cc)
drop_zip (suc n) (a ∷ xs) (b ∷ ys) x y more others e f = drop_zip n xs ys x y more others e f

-- one more of the first elements, in lists of lists
pub flat_map_next : {X Y : Type 0} (f : X → List Y) (n : ℕ) (xs : List X) (x : X) (rest : List X) → drop n xs ≡ x ∷ rest → flat_map f (take (suc n) xs) ≡ flat_map f (take n xs) ++ f x
flat_map_next f n xs x rest e = ap (flat_map f) (drop_next n xs x rest e) ∙ flat_map-append f (take n xs) (x ∷ []) ∙ ap (λ t. flat_map f (take n xs) ++ t) (append-nil (f x))

-- pairs
pub zip-take : {X Y : Type 0} (xs : List X) (ys : List Y) → take (length xs) (zip xs ys) ≡ zip xs ys
zip-take [] ys = refl
zip-take (x ∷ xs) [] = refl
zip-take (x ∷ xs) (y ∷ ys) = ap (λ t. (x, y) ∷ t) (zip-take xs ys)

pub zip-append : {X Y : Type 0} (xs more : List X) (ys others : List Y) → length ys ≡ length xs → zip (xs ++ more) (ys ++ others) ≡ zip xs ys ++ zip more others
zip-append [] more [] others e = refl
zip-append [] more (y ∷ ys) others e = absurd (omega arith)
zip-append (x ∷ xs) more [] others e = absurd (omega arith)
zip-append (x ∷ xs) more (y ∷ ys) others e = ap (λ t. (x, y) ∷ t) (zip-append xs more ys others (omega arith))

-- of the first elements there are no more than that
pub length-take_le : {X : Type 0} (n : ℕ) (xs : List X) → length (take n xs) ≤ n
length-take_le zero xs = omega arith
length-take_le (suc n) [] = omega arith
length-take_le (suc n) (x ∷ xs) = omega (arith, length-take_le n xs)

-- a list that was lent whole and is given back
pub taken-back : {X : Type 0} (now before : List X) (count : ℕ) → length now ≡ count → take count (now ++ drop (length now) before) ≡ now
taken-back now before count long = take_at now (drop (length now) before) count long

module _ {X : Type 0} where
  -- what holds of all holds of those behind
  pub All-behind : (P : X → Type 0) (front : List X) (x : X) (back : List X) → All P (front ++ x ∷ back) → All P back
  All-behind P front x back all k d lt =
      let long = length-append front (x ∷ back) in
      subst P (get_or-append-add front (x ∷ back) (suc k) d) (all (length front + suc k) d (omega arith))

  pub All-middle : (P : X → Type 0) (front : List X) (x : X) (back : List X) → All P (front ++ x ∷ back) → P x
  All-middle P front x back all =
      let long = length-append front (x ∷ back) in
      subst P (get_or-append-add front (x ∷ back) 0 x) (all (length front + 0) x (omega arith))

  -- what holds of the first places holds of the first elements
  pub All-first : (P : X → Type 0) (n : ℕ) (xs : List X) → ((place : ℕ) (x : X) → place < n → slice_get xs place ≡ Some x → P x) → All P (take n xs)
  All-first P zero xs each = All-nil P
  All-first P (suc n) [] each = All-nil P
  All-first P (suc n) (x ∷ xs) each = All-cons P x (take n xs) (each 0 x (omega arith) refl) (All-first P n xs (λ place y lt at. each (suc place) y (omega arith) at))

-- nothing is left of nothing
pub drop_nothing : {X : Type 0} (n : ℕ) → drop {A = X} n [] ≡ []
drop_nothing zero = refl
drop_nothing (suc n) = refl
