-- Lists of numbers of which none repeats, and ranges of numbers that pass a test.
use Rattle.std.proofs.Common.{◌≡◌, ◌<◌, ◌≤◌, ◌+◌, ℕ, zero, suc, Bool, true, false, cond, List, [], ◌∷◌, length, map, Some, refl, sym, ◌∙◌, ap, inl, inr, arith}
use Rattle.std.specs.Prelude.{All, Contains, filter, option_map, slice_get, slice_index_or}
use Rattle.std.specs.List.{range_with_len}
use Rattle.std.proofs.lemmas.Bool.{false≢true, or_parts, true≢false}
use Rattle.std.proofs.lemmas.Option.{slice_get-map}
use Rattle.elaborate.proofs.Lists.{None-Some, Some-same, get-in}
use Rattle.node_graph.specs.Graph.{is_in}
use Rattle.node_graph.specs.Order.{repeats}
use Rattle.node_graph.proofs.Members.{in-cases, in-first, in-rest}
use Rattle.node_shape.specs.WaysAround.{AreApart}

pub some-at : {X : Type 0} (xs : List X) (place : ℕ) (d : X) → place < length xs → slice_get xs place ≡ Some (slice_index_or xs place d)
some-at [] place d less = absurd (omega (arith, less))
some-at (x ∷ xs) zero d less = refl
some-at (x ∷ xs) (suc place) d less = some-at xs place d (omega (arith, less))

pub at-some : {X : Type 0} (xs : List X) (place : ℕ) (x d : X) → slice_get xs place ≡ Some x → slice_index_or xs place d ≡ x
at-some [] place x d e = absurd (None-Some x e)
at-some (y ∷ ys) zero x d e = Some-same y x e
at-some (y ∷ ys) (suc place) x d e = at-some ys place x d e

-- an element of a list that another one was made into
pub made-from : {X Y : Type 0} (f : X → Y) (xs : List X) (place : ℕ) (y : Y) → slice_get (map f xs) place ≡ Some y → (x : X) × (slice_get xs place ≡ Some x) × (y ≡ f x)
made-from f [] place y e = absurd (None-Some y e)
made-from f (x ∷ xs) zero y e = (x, refl, sym (Some-same (f x) y e))
made-from f (x ∷ xs) (suc place) y e = made-from f xs place y e

pub made-into : {X Y : Type 0} (f : X → Y) (xs : List X) (place : ℕ) (x : X) → slice_get xs place ≡ Some x → slice_get (map f xs) place ≡ Some (f x)
made-into f xs place x e = slice_get-map f xs place ∙ ap (option_map f) e

-- the place of a number in a list
pub place-of : (xs : List ℕ) (x : ℕ) → is_in xs x ≡ true → (place : ℕ) × (slice_get xs place ≡ Some x)
place-of [] x e = absurd (false≢true e)
place-of (y ∷ ys) x e =
    elim (in-cases y ys x e) [
      | inl here ↦ (0, ap (λ (k : ℕ). Some k) here)
      | inr there ↦ let more : (place : ℕ) × (slice_get ys place ≡ Some x) = place-of ys x there in (suc more.0, more.1)
    ]

pub all-of : (P : ℕ → Type 0) (xs : List ℕ) → ((x : ℕ) → is_in xs x ≡ true → P x) → All P xs
all-of P xs each = λ place d less. each (slice_index_or xs place d) (go xs place d less)
  where
    go : (xs : List ℕ) (place d : ℕ) → place < length xs → is_in xs (slice_index_or xs place d) ≡ true
    go [] place d less = absurd (omega (arith, less))
    go (x ∷ xs) zero d less = in-first x xs x refl
    go (x ∷ xs) (suc place) d less = in-rest x xs (slice_index_or xs place d) (go xs place d (omega (arith, less)))

pub contains-in : (xs : List ℕ) (x : ℕ) → is_in xs x ≡ true → Contains xs x
contains-in [] x e = absurd (false≢true e)
contains-in (y ∷ ys) x e =
    elim (in-cases y ys x e) [
      | inl here ↦ (0, omega arith, here)
      | inr there ↦ let more = contains-in ys x there in (suc more.0, omega (arith, more.1), more.2)
    ]

-- a number that doesn't repeat has one place
pub apart : (xs : List ℕ) → repeats xs ≡ false → AreApart xs
unfolding repeats
apart [] once i j x a b = absurd (None-Some x a)
apart (y ∷ ys) once zero zero x a b = refl
apart (y ∷ ys) once zero (suc j) x a b =
    absurd (true≢false (sym (get-in ys j x b) ∙ ap (is_in ys) (sym (Some-same y x a)) ∙ (or_parts (is_in ys y) (repeats ys) once).0))
apart (y ∷ ys) once (suc i) zero x a b =
    absurd (true≢false (sym (get-in ys i x a) ∙ ap (is_in ys) (sym (Some-same y x b)) ∙ (or_parts (is_in ys y) (repeats ys) once).0))
apart (y ∷ ys) once (suc i) (suc j) x a b = ap suc (apart ys (or_parts (is_in ys y) (repeats ys) once).1 i j x a b)

-- a list of one number alone
pub only-one : (xs : List ℕ) (x : ℕ) → is_in xs x ≡ true → ((y : ℕ) → is_in xs y ≡ true → y ≡ x) → repeats xs ≡ false → xs ≡ x ∷ []
unfolding repeats
only-one [] x there each once = absurd (false≢true there)
only-one (y ∷ []) x there each once = ap (λ (k : ℕ). k ∷ []) (each y (in-first y [] y refl))
only-one (y ∷ z ∷ more) x there each once =
    let same : z ≡ y = each z (in-rest y (z ∷ more) z (in-first z more z refl)) ∙ sym (each y (in-first y (z ∷ more) y refl)) in
    absurd (true≢false (sym (in-first z more y same) ∙ (or_parts (is_in (z ∷ more) y) (repeats (z ∷ more)) once).0))

pub none-in : (xs : List ℕ) → ((x : ℕ) → is_in xs x ≡ true → ⊥) → xs ≡ []
none-in [] each = refl
none-in (x ∷ xs) each = absurd (each x (in-first x xs x refl))

pub first-alone : (xs : List ℕ) → length xs ≡ 1 → slice_index_or xs 0 0 ∷ [] ≡ xs
first-alone [] e = absurd (omega (arith, e))
first-alone (x ∷ []) e = refl
first-alone (x ∷ y ∷ more) e = absurd (omega (arith, e))

-- ---- ranges

passing : (b : Bool) (x : ℕ) (xs : List ℕ) → b ≡ true → cond b (x ∷ xs) xs ≡ x ∷ xs
passing true x xs e = refl
passing false x xs e = absurd (false≢true e)

failing : (b : Bool) (x : ℕ) (xs : List ℕ) → b ≡ false → cond b (x ∷ xs) xs ≡ xs
failing true x xs e = absurd (true≢false e)
failing false x xs e = refl

-- Of a range, so many numbers fail, then so many pass, and the rest fails.
pub part-passes : (p : ℕ → Bool) (from low some high : ℕ) → ((k : ℕ) → from ≤ k → k < from + low → p k ≡ false) → ((k : ℕ) → from + low ≤ k → k < from + low + some → p k ≡ true) →
    ((k : ℕ) → from + low + some ≤ k → k < from + low + some + high → p k ≡ false) → filter p (range_with_len from (low + some + high)) ≡ range_with_len (from + low) some
part-passes p from (suc low) some high before here after =
    let long : suc low + some + high ≡ suc (low + some + high) = omega arith in
    let first : (from + 1) + low ≡ from + suc low = omega arith in
    ap (λ n. filter p (range_with_len from n)) long
    ∙ failing (p from) from (filter p (range_with_len (from + 1) (low + some + high))) (before from (omega arith) (omega arith))
    ∙ part-passes p (from + 1) low some high (λ k a b. before k (omega (arith, a)) (omega (arith, b))) (λ k a b. here k (omega (arith, a)) (omega (arith, b)))
    (λ k a b. after k (omega (arith, a)) (omega (arith, b)))
    ∙ ap (λ n. range_with_len n some) first
part-passes p from zero (suc some) high before here after =
    let long : 0 + suc some + high ≡ suc (0 + some + high) = omega arith in
    let first : from ≡ from + 0 = omega arith in
    let next : (from + 1) + 0 ≡ from + 0 + 1 = omega arith in
    ap (λ n. filter p (range_with_len from n)) long
    ∙ passing (p from) from (filter p (range_with_len (from + 1) (0 + some + high))) (here from (omega arith) (omega arith))
    ∙ ap (λ ns. from ∷ ns)
    (part-passes p (from + 1) 0 some high (λ k a b. absurd (omega (arith, a, b))) (λ k a b. here k (omega (arith, a)) (omega (arith, b))) (λ k a b. after k (omega (arith, a)) (omega (arith, b)))
    ∙ ap (λ n. range_with_len n some) next)
    ∙ ap (λ n. n ∷ range_with_len (from + 0 + 1) some) first
part-passes p from zero zero high before here after =
    let long : 0 + 0 + high ≡ high = omega arith in
    ap (λ n. filter p (range_with_len from n)) long ∙ rest from high (λ k a b. after k (omega (arith, a)) (omega (arith, b)))
  where
    rest : (from high : ℕ) → ((k : ℕ) → from ≤ k → k < from + high → p k ≡ false) → filter p (range_with_len from high) ≡ []
    rest from zero after = refl
    rest from (suc high) after =
        failing (p from) from (filter p (range_with_len (from + 1) high)) (after from (omega arith) (omega arith)) ∙ rest (from + 1) high (λ k a b. after k (omega (arith, a)) (omega (arith, b)))

pub range-at : (from count place : ℕ) → place < count → slice_get (range_with_len from count) place ≡ Some (from + place)
range-at from zero place less = absurd (omega (arith, less))
range-at from (suc count) zero less = ap (λ (k : ℕ). Some k) (omega arith)
range-at from (suc count) (suc place) less = range-at (from + 1) count place (omega (arith, less)) ∙ ap (λ (k : ℕ). Some k) (omega arith)
