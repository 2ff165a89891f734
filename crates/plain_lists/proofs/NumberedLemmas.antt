-- Numbered lists, one element after the other.
use Rattle.std.proofs.Common.{◌≡◌, ◌<◌, ◌+◌, ℕ, zero, suc, List, [], ◌∷◌, ◌++◌, length, take, drop, get_or, set, refl, ap, ◌∙◌, subst, arith}
use Rattle.plain_lists.specs.Numbered.{numbered, AllNumbered}

module _ {X : Type 0} where
  -- one more element of a list that is changed from the front
  pub numbered-more :
      (f : ℕ → X → X) (first : ℕ) (xs : List X) (i : ℕ) (x : X) → i < length xs →
      set (numbered f first (take i xs) ++ drop i xs) i (f (first + i) (get_or xs i x)) ≡ numbered f first (take (i + 1) xs) ++ drop (i + 1) xs
  numbered-more f first [] i x lt = absurd (omega arith)
  numbered-more f first (y ∷ xs) zero x lt =
      let here : first + 0 ≡ first = omega arith in
      ap (λ n. f n y ∷ xs) here
  numbered-more f first (y ∷ xs) (suc i) x lt =
      let index : first + suc i ≡ (first + 1) + i = omega arith in
      let next : suc (i + 1) ≡ suc i + 1 = omega arith in
      let step = numbered-more f (first + 1) xs i x (omega arith) in
      let moved : f first y ∷ set (numbered f (first + 1) (take i xs) ++ drop i xs) i (f (first + suc i) (get_or xs i x)) ≡ numbered f first (take (suc (i + 1)) (y ∷ xs)) ++ drop (suc (i + 1)) (y ∷ xs) =
      ap (λ n. f first y ∷ set (numbered f (first + 1) (take i xs) ++ drop i xs) i (f n (get_or xs i x))) index ∙ ap (λ ys. f first y ∷ ys) step
      in subst (λ (n : ℕ). f first y ∷ set (numbered f (first + 1) (take i xs) ++ drop i xs) i (f (first + suc i) (get_or xs i x)) ≡ numbered f first (take n (y ∷ xs)) ++ drop n (y ∷ xs)) next moved

  -- the element that comes next is as it was
  numbered-next : (f : ℕ → X → X) (first : ℕ) (xs : List X) (i : ℕ) (d : X) → i < length xs → get_or (numbered f first (take i xs) ++ drop i xs) i d ≡ get_or xs i d
  numbered-next f first [] i d lt = absurd (omega arith)
  numbered-next f first (y ∷ xs) zero d lt = refl
  numbered-next f first (y ∷ xs) (suc i) d lt = numbered-next f (first + 1) xs i d (omega arith)

  pub next_as_it_was :
      (f : ℕ → X → X) (first : ℕ) (xs ys : List X) (i : ℕ) (d : X) → i < length xs → ys ≡ numbered f first (take i xs) ++ drop i xs → get_or ys i d ≡ get_or xs i d
  next_as_it_was f first xs ys i d lt so_far = ap (λ zs. get_or zs i d) so_far ∙ numbered-next f first xs i d lt

  -- the same in a loop: ys is the list so far, of which x is the element at i
  pub numbered_over_more :
      (f : ℕ → X → X) (first : ℕ) (xs ys : List X) (i : ℕ) (x d : X) → i < length xs → ys ≡ numbered f first (take i xs) ++ drop i xs → x ≡ get_or ys i d →
      set ys i (f (first + i) x) ≡ numbered f first (take (i + 1) xs) ++ drop (i + 1) xs
  numbered_over_more f first xs ys i x d lt so_far is =
      ap (λ zs. set zs i (f (first + i) x)) so_far
      ∙ ap (λ z. set (numbered f first (take i xs) ++ drop i xs) i (f (first + i) z)) (is ∙ next_as_it_was f first xs ys i d lt so_far)
      ∙ numbered-more f first xs i d lt

  pub all_numbered-at : (P : ℕ → X → Type 0) (first : ℕ) (xs : List X) (i : ℕ) (x : X) → i < length xs → AllNumbered P first xs → P (first + i) (get_or xs i x)
  all_numbered-at P first [] i x lt all = absurd (omega arith)
  all_numbered-at P first (y ∷ xs) zero x lt all =
      let here : first ≡ first + 0 = omega arith in
      subst (λ (n : ℕ). P n y) here all.0
  all_numbered-at P first (y ∷ xs) (suc i) x lt all =
      let index : (first + 1) + i ≡ first + suc i = omega arith in
      subst (λ (n : ℕ). P n (get_or xs i x)) index (all_numbered-at P (first + 1) xs i x (omega arith) all.1)
