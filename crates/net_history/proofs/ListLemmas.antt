-- Of lists that are made of other lists, one after the other.
use Rattle.std.proofs.Common.{◌≡◌, ◌<◌, ◌∷◌, [], ◌++◌, ℕ, zero, suc, List, Some, refl, sym, subst, arith}
use Rattle.std.specs.Prelude.{All, AllPairs, Any, flat_map, get_or, slice_get}
use Rattle.std.proofs.lemmas.List.Concat.{flat_map-cons}
use Rattle.std.proofs.lemmas.List.Elements.{All-append, All-nil}
use Rattle.std.proofs.lemmas.List.Kept.{AllPairs-cons}

module _ {X : Type 0} (P : X → Type 0) where
  pub Any-later : (y : X) (xs : List X) → Any P xs → Any P (y ∷ xs)
  Any-later y xs a = (suc a.0, a.1, omega (arith, a.2), a.3, a.4)

  pub Any-first : (x : X) (xs : List X) → P x → Any P (x ∷ xs)
  Any-first x xs has = (0, x, omega arith, refl, has)

  pub Any-left : (xs ys : List X) → Any P xs → Any P (xs ++ ys)
  Any-left [] ys a = absurd (omega (arith, a.2))
  Any-left (x ∷ xs) ys (zero, d, lt, is, has) = (0, d, omega arith, is, has)
  Any-left (x ∷ xs) ys (suc k, d, lt, is, has) = Any-later x (xs ++ ys) (Any-left xs ys (k, d, omega (arith, lt), is, has))

  pub Any-right : (xs ys : List X) → Any P ys → Any P (xs ++ ys)
  Any-right [] ys a = a
  Any-right (x ∷ xs) ys a = Any-later x (xs ++ ys) (Any-right xs ys a)

  module _ {Y : Type 0} (f : Y → List X) where
    -- what holds of all that is made of each holds of all
    pub All-flat : (ys : List Y) → ((k : ℕ) (y : Y) → slice_get ys k ≡ Some y → All P (f y)) → All P (flat_map f ys)
    All-flat [] each = All-nil P
    All-flat (y ∷ ys) each =
        subst (All P) (sym (flat_map-cons f y ys)) (All-append P (f y) (flat_map f ys) (each 0 y refl) (All-flat ys (λ k z at. each (suc k) z at)))

    -- and what is made of one is there
    pub Any-flat : (ys : List Y) (k : ℕ) (y : Y) → slice_get ys k ≡ Some y → Any P (f y) → Any P (flat_map f ys)
    Any-flat [] k y at has = absurd (cc)
    Any-flat (z ∷ ys) zero y at has =
        let same : z ≡ y = cc in
        subst (Any P) (sym (flat_map-cons f z ys)) (Any-left (f z) (flat_map f ys) (subst (λ (w : Y). Any P (f w)) (sym same) has))
    Any-flat (z ∷ ys) (suc k) y at has = subst (Any P) (sym (flat_map-cons f z ys)) (Any-right (f z) (flat_map f ys) (Any-flat ys k y at has))

module _ {X : Type 0} (R : X → X → Type 0) where
  -- each two elements of two lists in a row
  pub AllPairs-append : (xs ys : List X) → AllPairs R xs → AllPairs R ys → All (λ x. All (R x) ys) xs → AllPairs R (xs ++ ys)
  AllPairs-append [] ys first second cross = second
  AllPairs-append (x ∷ xs) ys first second cross =
      AllPairs-cons R x (xs ++ ys)
      (All-append (R x) xs ys (λ k d lt. first 0 (suc k) d (omega arith) (omega arith)) (cross 0 x (omega arith)))
      (AllPairs-append xs ys (λ i j d less within. first (suc i) (suc j) d (omega arith) (omega arith)) second (λ k d lt. cross (suc k) d (omega arith)))

  -- and of all lists in a row
  pub AllPairs-flat : {Y : Type 0} (f : Y → List X) (ys : List Y) → ((k : ℕ) (y : Y) → slice_get ys k ≡ Some y → AllPairs R (f y)) →
      ((j k : ℕ) (y z : Y) → j < k → slice_get ys j ≡ Some y → slice_get ys k ≡ Some z → All (λ x. All (R x) (f z)) (f y)) → AllPairs R (flat_map f ys)
  AllPairs-flat f [] each cross = λ i j d less within. absurd (omega arith)
  AllPairs-flat f (y ∷ ys) each cross =
      subst (AllPairs R) (sym (flat_map-cons f y ys))
      (AllPairs-append (f y) (flat_map f ys) (each 0 y refl)
      (AllPairs-flat f ys (λ k z at. each (suc k) z at) (λ j k a b less at_a at_b. cross (suc j) (suc k) a b (omega arith) at_a at_b))
      (λ k d lt. All-flat (R (get_or (f y) k d)) f ys (λ m z at. cross 0 (suc m) y z (omega arith) refl at k d lt)))
