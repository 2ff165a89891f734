-- Sums over the numbers of a list, and over the first numbers.
use Rattle.std.proofs.Common.{◌≡◌, ◌⊎◌, ◌<◌, ◌≤◌, ◌+◌, ◌==◌, ℕ, zero, suc, Bool, true, false, cond, List, [], ◌∷◌, length, inl, inr, refl, sym, ap, subst, arith}
use Rattle.std.proofs.lemmas.List.Sums.{sum_by-cons}
use Rattle.std.specs.List.{range_with_len}
use Rattle.std.specs.Prelude.{Contains, sum_by}
use Rattle.plain_lists.proofs.KeyLemmas.{of_key-cons}
use Rattle.plain_lists.specs.Keys.{of_key}

pub sum-le : (f g : ℕ → ℕ) (ts : List ℕ) → ((t : ℕ) → f t ≤ g t) → sum_by f ts ≤ sum_by g ts
sum-le f g [] le = omega arith
sum-le f g (t ∷ ts) le = omega (arith, le t, sum-le f g ts le, sum_by-cons f t ts, sum_by-cons g t ts)

pub sum-add : (f g : ℕ → ℕ) (ts : List ℕ) → sum_by (λ t. f t + g t) ts ≡ sum_by f ts + sum_by g ts
sum-add f g [] = refl
sum-add f g (t ∷ ts) = omega (arith, sum-add f g ts, sum_by-cons f t ts, sum_by-cons g t ts, sum_by-cons (λ t. f t + g t) t ts)

-- one more of one number
pub sum-more : (f g : ℕ → ℕ) (ts : List ℕ) (t : ℕ) → Contains ts t → ((u : ℕ) → f u ≤ g u) → f t < g t → sum_by f ts < sum_by g ts
sum-more f g [] t among le less = absurd (omega (arith, among.1))
sum-more f g (u ∷ ts) t (zero, within, is) le less =
    let same : u ≡ t = is in
    let here : f u < g u = subst (λ (k : ℕ). f k < g k) (sym same) less in
    omega (arith, here, sum-le f g ts le, sum_by-cons f u ts, sum_by-cons g u ts)
sum-more f g (u ∷ ts) t (suc k, within, is) le less =
    omega (arith, le u, sum-more f g ts t (k, omega (arith, within), is) le less, sum_by-cons f u ts, sum_by-cons g u ts)

-- the same over a range, where only its numbers count
range-le : (f g : ℕ → ℕ) (a n : ℕ) → ((l : ℕ) → l < a + n → f l ≤ g l) → sum_by f (range_with_len a n) ≤ sum_by g (range_with_len a n)
range-le f g a zero le = omega arith
range-le f g a (suc n) le =
    let rest = range-le f g (a + 1) n (λ l less. le l (omega (arith, less))) in
    omega (arith, le a (omega arith), rest, sum_by-cons f a (range_with_len (a + 1) n), sum_by-cons g a (range_with_len (a + 1) n))

range-less :
    (f g : ℕ → ℕ) (a n : ℕ) → ((l : ℕ) → l < a + n → f l ≤ g l) → (i : ℕ) → i < n → f (a + i) < g (a + i) →
    sum_by f (range_with_len a n) < sum_by g (range_with_len a n)
range-less f g a zero le i within less = absurd (omega (arith, within))
range-less f g a (suc n) le zero within less =
    let rest = range-le f g (a + 1) n (λ l below. le l (omega (arith, below))) in
    let here : a + 0 ≡ a = omega arith in
    let now : f a < g a = subst (λ (k : ℕ). f k < g k) here less in
    omega (arith, now, rest, sum_by-cons f a (range_with_len (a + 1) n), sum_by-cons g a (range_with_len (a + 1) n))
range-less f g a (suc n) le (suc i) within less =
    let index : a + suc i ≡ (a + 1) + i = omega arith in
    let rest = range-less f g (a + 1) n (λ l below. le l (omega (arith, below))) i (omega (arith, within)) (subst (λ (k : ℕ). f k < g k) index less) in
    omega (arith, le a (omega arith), rest, sum_by-cons f a (range_with_len (a + 1) n), sum_by-cons g a (range_with_len (a + 1) n))

pub first-le : (f g : ℕ → ℕ) (n : ℕ) → ((l : ℕ) → l < n → f l ≤ g l) → sum_by f (range_with_len 0 n) ≤ sum_by g (range_with_len 0 n)
first-le f g n le = range-le f g 0 n (λ l less. le l (omega (arith, less)))

pub first-less : (f g : ℕ → ℕ) (n : ℕ) → ((l : ℕ) → l < n → f l ≤ g l) → (i : ℕ) → i < n → f i < g i → sum_by f (range_with_len 0 n) < sum_by g (range_with_len 0 n)
first-less f g n le i within less =
    let here : i ≡ 0 + i = omega arith in
    range-less f g 0 n (λ l below. le l (omega (arith, below))) i within (subst (λ (k : ℕ). f k < g k) here less)

module _ {X : Type 0} (key : X → ℕ) where
  more-of : (x : X) (xs : List X) (t : ℕ) → length (of_key key t xs) ≤ length (of_key key t (x ∷ xs))
  more-of x xs t =
      let go : (b : Bool) → length (of_key key t xs) ≤ length (cond b (x ∷ of_key key t xs) (of_key key t xs)) = elim [ true ↦ omega arith | false ↦ omega arith ] in
      go (key x == t)

  -- where each element has one of these keys, they are no more than those of the keys
  pub keys-cover : (ts : List ℕ) (xs : List X) → ((t : ℕ) → Contains ts t ⊎ (length (of_key key t xs) ≡ 0)) → length xs ≤ sum_by (λ t. length (of_key key t xs)) ts
  keys-cover ts [] known = omega arith
  keys-cover ts (x ∷ xs) known =
      let own : length (of_key key (key x) (x ∷ xs)) ≡ suc (length (of_key key (key x) xs)) = ap length (of_key-cons key (key x) x xs refl) in
      let here : Contains ts (key x) = elim (known (key x)) [ inl among ↦ among | inr none ↦ absurd (omega (arith, own, none)) ] in
      let rest : length xs ≤ sum_by (λ t. length (of_key key t xs)) ts =
      keys-cover ts xs (λ t. elim (known t) [ inl among ↦ inl among | inr none ↦ inr (omega (arith, none, more-of x xs t)) ]) in
      let more : sum_by (λ t. length (of_key key t xs)) ts < sum_by (λ t. length (of_key key t (x ∷ xs))) ts =
      sum-more (λ t. length (of_key key t xs)) (λ t. length (of_key key t (x ∷ xs))) ts (key x) here (more-of x xs) (omega (arith, own)) in
      omega (arith, rest, more)
