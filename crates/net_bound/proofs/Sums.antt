-- Sums over lists: of two lists in either order, of those that pass a test, and where one number alone counts.
use Rattle.std.proofs.Common.{◌≡◌, ◌<◌, ◌≤◌, ◌+◌, ◌*◌, ℕ, zero, suc, Bool, true, false, cond, List, [], ◌∷◌, length, map, Some, inl, inr, refl, sym, ◌∙◌, ap, arith}
use Rattle.std.proofs.lemmas.Bool.{cases_eq, false≢true}
use Rattle.std.proofs.lemmas.List.Concat.{flat_map-cons}
use Rattle.std.proofs.lemmas.List.Sums.{sum_by-append, sum_by-cons}
use Rattle.std.specs.List.{range_with_len}
use Rattle.std.specs.Prelude.{Contains, filter, flat_map, slice_get, sum_by, if◌then◌else◌}
use Rattle.elaborate.proofs.Lists.{None-Some, Some-same}

module _ {X : Type 0} where
  pub sum-none : (xs : List X) → sum_by (λ (x : X). 0) xs ≡ 0
  sum-none [] = refl
  sum-none (x ∷ xs) = omega (arith, sum_by-cons (λ (x : X). 0) x xs, sum-none xs)

  pub sum-same : (f g : X → ℕ) (xs : List X) → ((x : X) → f x ≡ g x) → sum_by f xs ≡ sum_by g xs
  sum-same f g [] same = refl
  sum-same f g (x ∷ xs) same = omega (arith, sum_by-cons f x xs, sum_by-cons g x xs, same x, sum-same f g xs same)

  pub sum-plus : (f g : X → ℕ) (xs : List X) → sum_by (λ (x : X). f x + g x) xs ≡ sum_by f xs + sum_by g xs
  sum-plus f g [] = refl
  sum-plus f g (x ∷ xs) = omega (arith, sum_by-cons f x xs, sum_by-cons g x xs, sum_by-cons (λ (x : X). f x + g x) x xs, sum-plus f g xs)

  pub sum-twice : (f : X → ℕ) (xs : List X) → sum_by (λ (x : X). 2 * f x) xs ≡ 2 * sum_by f xs
  sum-twice f [] = refl
  sum-twice f (x ∷ xs) = omega (arith, sum_by-cons f x xs, sum_by-cons (λ (x : X). 2 * f x) x xs, sum-twice f xs)

  pub sum-most : (f g : X → ℕ) (xs : List X) → ((x : X) → f x ≤ g x) → sum_by f xs ≤ sum_by g xs
  sum-most f g [] most = omega arith
  sum-most f g (x ∷ xs) most = omega (arith, sum_by-cons f x xs, sum_by-cons g x xs, most x, sum-most f g xs most)

  -- where those that pass a test count, and the others don't
  abbrev pub if_passing : (X → Bool) → (X → ℕ) → X → ℕ
  if_passing p f x = if p x then f x else 0

  pub sum-passing : (p : X → Bool) (f g : X → ℕ) (xs : List X) → ((place : ℕ) (x : X) → slice_get xs place ≡ Some x → p x ≡ true → f x ≤ g x) →
      sum_by f (filter p xs) ≤ sum_by (if_passing p g) xs
  sum-passing p f g [] most = omega arith
  sum-passing p f g (x ∷ xs) most = go (sum-passing p f g xs (λ place y at passes. most (suc place) y at passes)) (p x) refl
    where
      go : sum_by f (filter p xs) ≤ sum_by (if_passing p g) xs → (b : Bool) → p x ≡ b → sum_by f (cond b (x ∷ filter p xs) (filter p xs)) ≤ sum_by (if_passing p g) (x ∷ xs)
      go rest true is =
          omega (arith, most 0 x refl is, rest, sum_by-cons f x (filter p xs), sum_by-cons (if_passing p g) x xs, ap (λ (b : Bool). if b then g x else 0) is)
      go rest false is = omega (arith, rest, sum_by-cons (if_passing p g) x xs)

pub sum-made : {X Y : Type 0} (f : Y → ℕ) (g : X → Y) (xs : List X) → sum_by f (map g xs) ≡ sum_by (λ (x : X). f (g x)) xs
sum-made f g [] = refl
sum-made f g (x ∷ xs) = omega (arith, sum_by-cons f (g x) (map g xs), sum_by-cons (λ x. f (g x)) x xs, sum-made f g xs)

pub sum-flat : {X Y : Type 0} (f : Y → ℕ) (g : X → List Y) (xs : List X) → sum_by f (flat_map g xs) ≡ sum_by (λ (x : X). sum_by f (g x)) xs
sum-flat f g [] = refl
sum-flat f g (x ∷ xs) =
    ap (sum_by f) (flat_map-cons g x xs) ∙ sum_by-append f (g x) (flat_map g xs) ∙ ap (λ (n : ℕ). sum_by f (g x) + n) (sum-flat f g xs)
    ∙ sym (sum_by-cons (λ x. sum_by f (g x)) x xs)

pub sum-swap : {X Y : Type 0} (f : X → Y → ℕ) (xs : List X) (ys : List Y) → sum_by (λ (x : X). sum_by (f x) ys) xs ≡ sum_by (λ (y : Y). sum_by (λ (x : X). f x y) xs) ys
sum-swap f [] ys = sym (sum-none ys)
sum-swap f (x ∷ xs) ys =
    sum_by-cons (λ x. sum_by (f x) ys) x xs ∙ ap (λ (n : ℕ). sum_by (f x) ys + n) (sum-swap f xs ys)
    ∙ sym (sum-plus (f x) (λ y. sum_by (λ x. f x y) xs) ys)
    ∙ sum-same (λ y. f x y + sum_by (λ x. f x y) xs) (λ y. sum_by (λ x. f x y) (x ∷ xs)) ys (λ y. sym (sum_by-cons (λ x. f x y) x xs))

-- so many times the same
pub sum-each : {X : Type 0} (count : ℕ) (xs : List X) → sum_by (λ (x : X). count) xs ≡ count * length xs
sum-each count [] = omega arith
sum-each count (x ∷ xs) = omega (arith, sum_by-cons (λ (y : _). count) x xs, sum-each count xs)

-- one that passes a test is among those that pass
pub among-passing : {X : Type 0} (p : X → Bool) (xs : List X) (place : ℕ) (x : X) → slice_get xs place ≡ Some x → p x ≡ true → Contains (filter p xs) x
among-passing p [] place x at passes = absurd (None-Some x at)
among-passing p (y ∷ ys) zero x at passes = go (p y) (ap p (Some-same y x at) ∙ passes)
  where
    go : (b : Bool) → b ≡ true → Contains (cond b (y ∷ filter p ys) (filter p ys)) x
    go true is = (0, omega arith, Some-same y x at)
    go false is = absurd (false≢true is)
among-passing p (y ∷ ys) (suc place) x at passes = go (among-passing p ys place x at passes) (p y)
  where
    go : Contains (filter p ys) x → (b : Bool) → Contains (cond b (y ∷ filter p ys) (filter p ys)) x
    go more true = (suc more.0, omega (arith, more.1), more.2)
    go more false = more

-- ---- a range of which one number alone counts

module _ (f : ℕ → ℕ) (one : ℕ) where
  past-one : (a n : ℕ) → one < a → ((x : ℕ) → x < a + n → ¬ (x ≡ one) → f x ≡ 0) → sum_by f (range_with_len a n) ≡ 0
  past-one a zero past none = refl
  past-one a (suc n) past none =
      omega (
        arith,
        sum_by-cons f a (range_with_len (a + 1) n),
        none a (omega arith) (λ same. absurd (omega (arith, past, same))),
        past-one (a + 1) n (omega (arith, past)) (λ x less. none x (omega (arith, less))),
      )

  pub sum-one : (most a n : ℕ) → f one ≤ most → ((x : ℕ) → x < a + n → ¬ (x ≡ one) → f x ≡ 0) → sum_by f (range_with_len a n) ≤ most
  sum-one most a zero few none = omega arith
  sum-one most a (suc n) few none = elim (cases_eq a one) [
    | inl same ↦
        let here : f a ≡ f one = ap f same in
        omega (arith, few, here, sum_by-cons f a (range_with_len (a + 1) n), past-one (a + 1) n (omega (arith, same)) (λ x less. none x (omega (arith, less))))
    | inr other ↦ omega (arith, sum_by-cons f a (range_with_len (a + 1) n), none a (omega arith) other, sum-one most (a + 1) n few (λ x less. none x (omega (arith, less))))
  ]
