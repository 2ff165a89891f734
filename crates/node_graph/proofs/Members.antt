-- Numbers that stand in a list.
use Rattle.std.proofs.Common.{◌≡◌, ◌<◌, ◌≤◌, ◌+◌, ◌==◌, ℕ, zero, suc, Bool, true, false, cond, not, List, [], ◌∷◌, length, map, refl, sym, ◌∙◌, ap, inl, inr, arith, eqb}
use Rattle.std.specs.Prelude.{◌⊎◌, filter}
use Rattle.std.specs.List.{AllByRecursion, IsDistinct, list_all, list_any, range_with_len}
use Rattle.std.proofs.lemmas.Bool.{and_cases, and_parts, cases_eq, eq-eqb, eqb-true, false_from_ne_true, false≢true, ne_eqb, or_cases, or_from, or_left, or_parts, or_right, true≢false}
use Rattle.std.proofs.lemmas.Map.Steps.{length-le_from_distinct_below}
use Rattle.node_graph.specs.Graph.{each_once, is_in, numbers}
use Rattle.node_graph.specs.Order.{repeats}

pub in-cases : (y : ℕ) (ys : List ℕ) (x : ℕ) → is_in (y ∷ ys) x ≡ true → (y ≡ x) ⊎ (is_in ys x ≡ true)
in-cases y ys x e = elim (or_cases (y == x) (is_in ys x) e) [ inl same ↦ inl (eqb-true y x same) | inr there ↦ inr there ]

pub in-first : (y : ℕ) (ys : List ℕ) (x : ℕ) → y ≡ x → is_in (y ∷ ys) x ≡ true
in-first y ys x e = or_left (y == x) (is_in ys x) (eq-eqb y x e)

pub in-rest : (y : ℕ) (ys : List ℕ) (x : ℕ) → is_in ys x ≡ true → is_in (y ∷ ys) x ≡ true
in-rest y ys x e = or_right (y == x) (is_in ys x) e

-- ---- tests of some and of all

pub record Passes (p : ℕ → Bool) (xs : List ℕ) (b : Bool) : Type 0 where
  pub number : ℕ
  pub there : is_in xs number ≡ true
  pub passes : p number ≡ b

pub some-passes : (p : ℕ → Bool) (xs : List ℕ) → list_any p xs ≡ true → Passes p xs true
some-passes p [] e = absurd (false≢true e)
some-passes p (y ∷ ys) e =
    elim (or_cases (p y) (list_any p ys) e) [
      | inl here ↦ record { number = y; there = in-first y ys y refl; passes = here }
      | inr more ↦ let found : Passes p ys true = some-passes p ys more in record { number = found.number; there = in-rest y ys found.number found.there; passes = found.passes }
    ]

pub passes-some : (p : ℕ → Bool) (xs : List ℕ) (x : ℕ) → is_in xs x ≡ true → p x ≡ true → list_any p xs ≡ true
passes-some p [] x e passes = absurd (false≢true e)
passes-some p (y ∷ ys) x e passes =
    elim (in-cases y ys x e) [
      | inl here ↦ or_left (p y) (list_any p ys) (ap p here ∙ passes)
      | inr there ↦ or_right (p y) (list_any p ys) (passes-some p ys x there passes)
    ]

pub all-pass : (p : ℕ → Bool) (xs : List ℕ) (x : ℕ) → list_all p xs ≡ true → is_in xs x ≡ true → p x ≡ true
all-pass p [] x all e = absurd (false≢true e)
all-pass p (y ∷ ys) x all e =
    elim (in-cases y ys x e) [
      | inl here ↦ ap p (sym here) ∙ (and_parts (p y) (list_all p ys) all).0
      | inr there ↦ all-pass p ys x (and_parts (p y) (list_all p ys) all).1 there
    ]

pub one-fails : (p : ℕ → Bool) (xs : List ℕ) → list_all p xs ≡ false → Passes p xs false
one-fails p [] e = absurd (true≢false e)
one-fails p (y ∷ ys) e =
    elim (and_cases (p y) (list_all p ys) e) [
      | inl here ↦ record { number = y; there = in-first y ys y refl; passes = here }
      | inr more ↦ let found : Passes p ys false = one-fails p ys more in record { number = found.number; there = in-rest y ys found.number found.there; passes = found.passes }
    ]

-- ---- filters

kept-cases : (b : Bool) (y : ℕ) (ys : List ℕ) (x : ℕ) → is_in (cond b (y ∷ ys) ys) x ≡ true → ((b ≡ true) × (y ≡ x)) ⊎ (is_in ys x ≡ true)
kept-cases true y ys x e = elim (in-cases y ys x e) [ inl here ↦ inl (refl, here) | inr there ↦ inr there ]
kept-cases false y ys x e = inr e

kept-rest : (b : Bool) (y : ℕ) (ys : List ℕ) (x : ℕ) → is_in ys x ≡ true → is_in (cond b (y ∷ ys) ys) x ≡ true
kept-rest true y ys x e = in-rest y ys x e
kept-rest false y ys x e = e

kept-first : (b : Bool) (y : ℕ) (ys : List ℕ) (x : ℕ) → b ≡ true → y ≡ x → is_in (cond b (y ∷ ys) ys) x ≡ true
kept-first true y ys x is e = in-first y ys x e
kept-first false y ys x is e = absurd (false≢true is)

pub in-filter : (p : ℕ → Bool) (xs : List ℕ) (x : ℕ) → is_in (filter p xs) x ≡ true → (is_in xs x ≡ true) × (p x ≡ true)
in-filter p [] x e = absurd (false≢true e)
in-filter p (y ∷ ys) x e =
    elim (kept-cases (p y) y (filter p ys) x e) [
      | inl here ↦ (in-first y ys x here.1, ap p (sym here.1) ∙ here.0)
      | inr there ↦ (in-rest y ys x (in-filter p ys x there).0, (in-filter p ys x there).1)
    ]

pub filter-in : (p : ℕ → Bool) (xs : List ℕ) (x : ℕ) → is_in xs x ≡ true → p x ≡ true → is_in (filter p xs) x ≡ true
filter-in p [] x e passes = absurd (false≢true e)
filter-in p (y ∷ ys) x e passes =
    elim (in-cases y ys x e) [
      | inl here ↦ kept-first (p y) y (filter p ys) x (ap p here ∙ passes) here
      | inr there ↦ kept-rest (p y) y (filter p ys) x (filter-in p ys x there passes)
    ]

-- ---- the numbers below a count

pub in-range : (from count x : ℕ) → is_in (range_with_len from count) x ≡ true → (from ≤ x) × (x < from + count)
in-range from zero x e = absurd (false≢true e)
in-range from (suc count) x e =
    elim (in-cases from (range_with_len (from + 1) count) x e) [
      | inl here ↦ (omega (arith, here), omega (arith, here))
      | inr there ↦ let more : (from + 1 ≤ x) × (x < from + 1 + count) = in-range (from + 1) count x there in (omega (arith, more.0), omega (arith, more.1))
    ]

pub range-in : (from count x : ℕ) → from ≤ x → x < from + count → is_in (range_with_len from count) x ≡ true
range-in from zero x low high = absurd (omega (arith, low, high))
range-in from (suc count) x low high =
    elim (cases_eq from x) [
      | inl here ↦ in-first from (range_with_len (from + 1) count) x here
      | inr other ↦ in-rest from (range_with_len (from + 1) count) x (range-in (from + 1) count x (omega (arith, low, other)) (omega (arith, high)))
    ]

pub in-numbers : (count x : ℕ) → is_in (numbers count) x ≡ true → x < count
unfolding numbers
in-numbers count x e = let within : (0 ≤ x) × (x < 0 + count) = in-range 0 count x e in omega (arith, within.1)

pub numbers-in : (count x : ℕ) → x < count → is_in (numbers count) x ≡ true
unfolding numbers
numbers-in count x less = range-in 0 count x (omega arith) (omega (arith, less))

same-cons : {X : Type 0} (a b : X) (more rest : List X) → a ≡ b → more ≡ rest → (a ∷ more) ≡ (b ∷ rest)
same-cons a b more rest e es = cc

pub map-same : {X : Type 0} (f g : ℕ → X) (xs : List ℕ) → ((x : ℕ) → is_in xs x ≡ true → f x ≡ g x) → map f xs ≡ map g xs
map-same f g [] same = refl
map-same f g (x ∷ xs) same = same-cons (f x) (g x) (map f xs) (map g xs) (same x (in-first x xs x refl)) (map-same f g xs (λ y there. same y (in-rest x xs y there)))

-- ---- numbers of which none repeats

flip-eqb : (a b : ℕ) → (a == b) ≡ (b == a)
flip-eqb a b =
    elim (cases_eq a b) [
      | inl same ↦ eq-eqb a b same ∙ sym (eq-eqb b a (sym same))
      | inr differ ↦ ne_eqb a b differ ∙ sym (ne_eqb b a (λ e. differ (sym e)))
    ]

not_in-differs : (x : ℕ) (xs : List ℕ) → is_in xs x ≡ false → AllByRecursion (λ y. eqb x y ≡ false) xs
not_in-differs x [] e = tt
not_in-differs x (y ∷ ys) e =
    let parts : ((y == x) ≡ false) × (is_in ys x ≡ false) = or_parts (y == x) (is_in ys x) e in
    (flip-eqb x y ∙ parts.0, not_in-differs x ys parts.1)

in-any : (q : ℕ) (xs : List ℕ) → list_any (eqb q) xs ≡ true → is_in xs q ≡ true
in-any q [] e = e
in-any q (y ∷ ys) e =
    elim (or_cases (q == y) (list_any (eqb q) ys) e) [
      | inl here ↦ in-first y ys q (sym (eqb-true q y here))
      | inr there ↦ in-rest y ys q (in-any q ys there)
    ]

distinct : (xs : List ℕ) → repeats xs ≡ false → IsDistinct eqb xs
unfolding repeats IsDistinct
distinct [] e = tt
distinct (x ∷ xs) e =
    let parts : (is_in xs x ≡ false) × (repeats xs ≡ false) = or_parts (is_in xs x) (repeats xs) e in
    (not_in-differs x xs parts.0, distinct xs parts.1)

-- as many differ as there are numbers to take, and no more
pub few-differ : (n : ℕ) (xs : List ℕ) → ((x : ℕ) → is_in xs x ≡ true → x < n) → repeats xs ≡ false → length xs ≤ n
few-differ n xs less e = length-le_from_distinct_below xs n (distinct xs e) (λ q there. less q (in-any q xs there))

not_in-filter : (p : ℕ → Bool) (xs : List ℕ) (x : ℕ) → is_in xs x ≡ false → is_in (filter p xs) x ≡ false
not_in-filter p xs x e = false_from_ne_true (is_in (filter p xs) x) (λ there. true≢false (sym (in-filter p xs x there).0 ∙ e))

repeats-kept : (b : Bool) (x : ℕ) (xs : List ℕ) → is_in xs x ≡ false → repeats xs ≡ false → repeats (cond b (x ∷ xs) xs) ≡ false
unfolding repeats
repeats-kept true x xs none e = or_from (is_in xs x) (repeats xs) none e
repeats-kept false x xs none e = e

pub repeats-filter : (p : ℕ → Bool) (xs : List ℕ) → repeats xs ≡ false → repeats (filter p xs) ≡ false
unfolding repeats
repeats-filter p [] e = refl
repeats-filter p (x ∷ xs) e =
    let parts : (is_in xs x ≡ false) × (repeats xs ≡ false) = or_parts (is_in xs x) (repeats xs) e in
    repeats-kept (p x) x (filter p xs) (not_in-filter p xs x parts.0) (repeats-filter p xs parts.1)

pub repeats-range : (from count : ℕ) → repeats (range_with_len from count) ≡ false
unfolding repeats
repeats-range from zero = refl
repeats-range from (suc count) =
    or_from (is_in (range_with_len (from + 1) count) from) (repeats (range_with_len (from + 1) count))
    (false_from_ne_true (is_in (range_with_len (from + 1) count) from) (λ there. let within : (from + 1 ≤ from) × (from < from + 1 + count) = in-range (from + 1) count from there in omega (arith, within.0)))
    (repeats-range (from + 1) count)

pub repeats-each_once : (xs : List ℕ) → repeats (each_once xs) ≡ false
unfolding repeats
repeats-each_once [] = refl
repeats-each_once (x ∷ xs) =
    or_from (is_in (filter (λ y. not (y == x)) (each_once xs)) x) (repeats (filter (λ y. not (y == x)) (each_once xs)))
    (false_from_ne_true (is_in (filter (λ y. not (y == x)) (each_once xs)) x) (λ there. true≢false (sym (in-filter (λ y. not (y == x)) (each_once xs) x there).1 ∙ ap not (eq-eqb x x refl))))
    (repeats-filter (λ y. not (y == x)) (each_once xs) (repeats-each_once xs))

pub in-each_once : (xs : List ℕ) (x : ℕ) → is_in (each_once xs) x ≡ true → is_in xs x ≡ true
in-each_once [] x e = e
in-each_once (y ∷ ys) x e =
    elim (in-cases y (filter (λ z. not (z == y)) (each_once ys)) x e) [
      | inl here ↦ in-first y ys x here
      | inr there ↦ in-rest y ys x (in-each_once ys x (in-filter (λ z. not (z == y)) (each_once ys) x there).0)
    ]
