-- Ranges of numbers, what passes a test of them, and folds over that.
use Rattle.std.proofs.Common.{◌≡◌, ◌≢◌, ℕ, ◌+◌, ◌<◌, ◌≤◌, suc, zero, Bool, true, false, cond, List, [], ◌∷◌, ◌++◌, map, replicate, refl, sym, ◌∙◌, ap, arith, add-one, inl, inr, subst, append-nil}
use Rattle.std.specs.Prelude.{AllPairs, Contains, filter, fold, slice_set}
use Rattle.std.specs.List.{range_with_len, AllByRecursion}
use Rattle.std.proofs.lemmas.Bool.{cases_eq}
use Rattle.std.proofs.lemmas.List.Elements.{filter-append}
use Rattle.std.proofs.lemmas.List.Sums.{fold-append}
use Rattle.std.proofs.lemmas.List.FromFn.{get_or-range_with_len, length-range_with_len}

-- one number more
pub range-more : (a n : ℕ) → range_with_len a (n + 1) ≡ range_with_len a n ++ (a + n) ∷ []
range-more a zero = ap (range_with_len a) (let e : 0 + 1 ≡ 1 = refl in e) ∙ ap (λ k. k ∷ []) (let e : a ≡ a + 0 = omega arith in e)
range-more a (suc n) =
    let shift : (a + 1) + n ≡ a + suc n = omega arith in
    ap (range_with_len a) (add-one (suc n)) ∙ ap (λ t. a ∷ t) (ap (range_with_len (a + 1)) (sym (add-one n)) ∙ range-more (a + 1) n ∙ ap (λ k. range_with_len (a + 1) n ++ k ∷ []) shift)

pub filter-range-more : (p : ℕ → Bool) (n : ℕ) → filter p (range_with_len 0 (n + 1)) ≡ filter p (range_with_len 0 n) ++ cond (p n) (n ∷ []) []
filter-range-more p n =
    ap (filter p) (range-more 0 n)
    ∙ filter-append p (range_with_len 0 n) ((0 + n) ∷ [])
    ∙ ap (λ k. filter p (range_with_len 0 n) ++ filter p (k ∷ [])) (let e : 0 + n ≡ n = omega arith in e)

-- a fold over the numbers that pass, with one number more that passes or doesn't
pub fold-range-more_passing : {B : Type 0} (f : B → ℕ → B) (b : B) (p : ℕ → Bool) (n : ℕ) → p n ≡ true → fold f b (filter p (range_with_len 0 (n + 1))) ≡ f (fold f b (filter p (range_with_len 0 n))) n
fold-range-more_passing f b p n e =
    ap (fold f b) (filter-range-more p n ∙ ap (λ c. filter p (range_with_len 0 n) ++ cond c (n ∷ []) []) e)
    ∙ fold-append f b (filter p (range_with_len 0 n)) (n ∷ [])

pub fold-range-more_failing : {B : Type 0} (f : B → ℕ → B) (b : B) (p : ℕ → Bool) (n : ℕ) → p n ≡ false → fold f b (filter p (range_with_len 0 (n + 1))) ≡ fold f b (filter p (range_with_len 0 n))
fold-range-more_failing f b p n e =
    ap (fold f b) (filter-range-more p n ∙ ap (λ c. filter p (range_with_len 0 n) ++ cond c (n ∷ []) []) e ∙ append-nil (filter p (range_with_len 0 n)))

-- the numbers of a range that pass are below its end
pub filter-range-below : (p : ℕ → Bool) (a n end : ℕ) → a + n ≤ end → AllByRecursion (λ k. k < end) (filter p (range_with_len a n))
filter-range-below p a zero end le = tt
filter-range-below p a (suc n) end le =
    let rest : AllByRecursion (λ k. k < end) (filter p (range_with_len (a + 1) n)) = filter-range-below p (a + 1) n end (omega arith) in
    elim (p a) as (λ c. AllByRecursion (λ k. k < end) (cond c (a ∷ filter p (range_with_len (a + 1) n)) (filter p (range_with_len (a + 1) n)))) [
      | true ↦ (omega arith, rest)
      | false ↦ rest
    ]

-- a range ascends, and has each number from its first one on
pub range-ascends : (a n : ℕ) → AllPairs (λ i j. i < j) (range_with_len a n)
range-ascends a n i j d before within =
    let long = length-range_with_len a n in
    let low = get_or-range_with_len a n i d (omega arith) in
    let high = get_or-range_with_len a n j d (omega arith) in
    omega arith

pub range-contains : (a n x : ℕ) → x < n → Contains (range_with_len a n) (a + x)
range-contains a n x within = (x, subst (λ (m : ℕ). x < m) (sym (length-range_with_len a n)) within, get_or-range_with_len a n x (a + x) within)

-- functions that agree on a range
pub map-range-agree : (f g : ℕ → ℕ) (a n : ℕ) → ((k : ℕ) → a ≤ k → k < a + n → f k ≡ g k) → map f (range_with_len a n) ≡ map g (range_with_len a n)
map-range-agree f g a zero agree = refl
map-range-agree f g a (suc n) agree =
    ap (λ y. y ∷ map f (range_with_len (a + 1) n)) (agree a (omega arith) (omega arith))
    ∙ ap (λ t. g a ∷ t) (map-range-agree f g (a + 1) n (λ k le lt. agree k (omega arith) (omega arith)))

-- a range in two parts
pub range-split : (a m r : ℕ) → range_with_len a (m + r) ≡ range_with_len a m ++ range_with_len (a + m) r
range-split a zero r =
    let none : 0 + r ≡ r = omega arith in
    let same : a ≡ a + 0 = omega arith in
    ap (range_with_len a) none ∙ ap (λ b. range_with_len b r) same
range-split a (suc m) r =
    let more : suc m + r ≡ suc (m + r) = omega arith in
    let shift : a + 1 + m ≡ a + suc m = omega arith in
    ap (range_with_len a) more
    ∙ ap (λ t. a ∷ t) (range-split (a + 1) m r ∙ ap (λ b. range_with_len (a + 1) m ++ range_with_len b r) shift)

pub map-range-constant : (a n b : ℕ) → map (λ k. b) (range_with_len a n) ≡ replicate n b
map-range-constant a zero b = refl
map-range-constant a (suc n) b = ap (λ t. b ∷ t) (map-range-constant (a + 1) n b)

-- no number passes
pub filter-none : (p : ℕ → Bool) (a n : ℕ) → ((k : ℕ) → p k ≡ false) → filter p (range_with_len a n) ≡ []
filter-none p a zero none = refl
filter-none p a (suc n) none =
    ap (λ c. cond c (a ∷ filter p (range_with_len (a + 1) n)) (filter p (range_with_len (a + 1) n))) (none a)
    ∙ filter-none p (a + 1) n none

-- where none of a range passes, each fails
pub filter-empty : (p : ℕ → Bool) (a n : ℕ) → filter p (range_with_len a n) ≡ [] → (k : ℕ) → a ≤ k → k < a + n → p k ≡ false
filter-empty p a zero e k le lt = absurd (omega arith)
filter-empty p a (suc n) e k le lt =
    let rest : List ℕ = filter p (range_with_len (a + 1) n) in
    let go : (c : Bool) → p a ≡ c → cond c (a ∷ rest) rest ≡ [] → p k ≡ false =
    λ c is e. elim c as (λ c. p a ≡ c → cond c (a ∷ rest) rest ≡ [] → p k ≡ false) [
      | true ↦ λ is e. absurd (cc)
      | false ↦ λ is e. elim (cases_eq k a) [
        | inl same ↦ ap p same ∙ is
        | inr other ↦ filter-empty p (a + 1) n e k (omega arith) (omega arith)
      ]
    ] is e
    in go (p a) refl e

-- the numbers of a range are below its end
pub range-below : (a n end : ℕ) → a + n ≤ end → AllByRecursion (λ k. k < end) (range_with_len a n)
range-below a zero end le = tt
range-below a (suc n) end le = (omega arith, range-below (a + 1) n end (omega arith))

-- one value of a function over a range is set
pub map-range-set : (f g : ℕ → ℕ) (a n i b : ℕ) → i < n → g (a + i) ≡ b → ((k : ℕ) → a ≤ k → k < a + n → k ≢ a + i → f k ≡ g k) → slice_set (map f (range_with_len a n)) i b ≡ map g (range_with_len a n)
map-range-set f g a zero i b lt at agree = absurd (omega arith)
map-range-set f g a (suc n) zero b lt at agree =
    let here : a + 0 ≡ a = omega arith in
    ap (λ y. y ∷ map f (range_with_len (a + 1) n)) (sym at ∙ ap g here)
    ∙ ap (λ t. g a ∷ t) (map-range-agree f g (a + 1) n (λ k le less. agree k (omega arith) (omega arith) (λ e. absurd (omega arith))))
map-range-set f g a (suc n) (suc i) b lt at agree =
    let shift : a + suc i ≡ a + 1 + i = omega arith in
    ap (λ y. y ∷ slice_set (map f (range_with_len (a + 1) n)) i b) (agree a (omega arith) (omega arith) (λ e. absurd (omega arith)))
    ∙ ap (λ t. g a ∷ t) (map-range-set f g (a + 1) n i b (omega arith) (ap g (sym shift) ∙ at) (λ k le less other. agree k (omega arith) (omega arith) (λ e. other (e ∙ shift))))
