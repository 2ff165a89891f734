-- Numbers that rise are told by which they are.
use Rattle.std.proofs.Common.{◌≡◌, ◌<◌, ◌≤◌, ◌+◌, ◌==◌, ℕ, suc, Bool, true, false, List, [], ◌∷◌, length, refl, sym, ◌∙◌, ap, subst, inl, inr, arith, eqb}
use Rattle.std.specs.Prelude.{◌||◌, AllPairs, fold, nat_lt, slice_index_or}
use Rattle.std.specs.List.{dedup, dedup_from}
use Rattle.std.specs.List.Sorted.{IsPermutation, IsSorted}
use Rattle.std.specs.Ordering.{nat_cmp}
use Rattle.std.proofs.lemmas.Bool.{cases_Bool, cases_lt, eq-eqb, eqb-true, false≢true, ltb-false, ltb-true, ne_eqb, true≢false}
use Rattle.std.proofs.lemmas.List.Kept.{AllPairs-from_increasing}
use Rattle.std.proofs.lemmas.List.Sorted.{list_any-IsPermutation}
use Rattle.std.proofs.lemmas.Map.Keys.{IsStrictlyIncreasing-dedup}
use Rattle.net_opening.specs.Touched.{among, upwards}
use Rattle.node_graph.proofs.Members.{in-first}
use Rattle.node_graph.specs.Graph.{is_in}

-- they rise from a least one on
abbrev Rises : ℕ → List ℕ → Type 0
Rises least [] = Unit {0}
Rises least (x ∷ xs) = (least ≤ x) × Rises (x + 1) xs

or-twice : (a b : Bool) → (a || b) ≡ (a || (a || b))
or-twice true b = refl
or-twice false b = refl

or-swap : (a b c : Bool) → (a || (b || c)) ≡ (b || (a || c))
or-swap true true c = refl
or-swap true false c = refl
or-swap false b c = refl

or-next : (a b c : Bool) → ((a || b) || c) ≡ (b || (a || c))
or-next true true c = refl
or-next true false c = refl
or-next false b c = refl

-- ---- which numbers they are

below-none : (least : ℕ) (xs : List ℕ) (n : ℕ) → Rises least xs → n < least → is_in xs n ≡ false
below-none least [] n rises less = refl
below-none least (x ∷ xs) n rises less =
    ap (λ b. b || is_in xs n) (ne_eqb x n (λ same. omega (arith, same, less, rises.0))) ∙ below-none (x + 1) xs n rises.1 (omega (arith, less, rises.0))

same-numbers : (least : ℕ) (xs ys : List ℕ) → Rises least xs → Rises least ys → ((n : ℕ) → is_in xs n ≡ is_in ys n) → xs ≡ ys
same-numbers least [] [] a b same = refl
same-numbers least [] (y ∷ ys) a b same = absurd (false≢true (same y ∙ in-first y ys y refl))
same-numbers least (x ∷ xs) [] a b same = absurd (true≢false (sym (in-first x xs x refl) ∙ same x))
same-numbers least (x ∷ xs) (y ∷ ys) a b same =
    let up : x < y → ⊥ = λ less. true≢false (sym (in-first x xs x refl) ∙ same x ∙ below-none y (y ∷ ys) x (omega arith, b.1) less) in
    let down : y < x → ⊥ = λ less. true≢false (sym (in-first y ys y refl) ∙ sym (same y) ∙ below-none x (x ∷ xs) y (omega arith, a.1) less) in
    let heads : x ≡ y = elim (cases_lt x y) [ inl less ↦ absurd (up less) | inr most ↦ elim (cases_lt y x) [ inl less ↦ absurd (down less) | inr other ↦ omega (arith, most, other) ] ] in
    let tails : (n : ℕ) → is_in xs n ≡ is_in ys n =
    λ n. elim (cases_lt n (x + 1)) [
      | inl less ↦ below-none (x + 1) xs n a.1 less ∙ sym (below-none (y + 1) ys n b.1 (omega (arith, less, heads)))
      | inr above ↦
          sym (ap (λ b. b || is_in xs n) (ne_eqb x n (λ e. omega (arith, e, above)))) ∙ same n
          ∙ ap (λ b. b || is_in ys n) (ne_eqb y n (λ e. omega (arith, e, above, heads)))
    ]
    in
    ap (λ h. h ∷ xs) heads ∙ ap (λ t. y ∷ t) (same-numbers (x + 1) xs ys a.1 (subst (λ k. Rises (k + 1) ys) (sym heads) b.1) tails)

-- ---- one more among them

in-among : (xs : List ℕ) (number n : ℕ) → is_in (among xs number) n ≡ (number == n || is_in xs n)
in-among [] number n = refl
in-among (least ∷ more) number n = elim (cases_Bool (number == least)) [
  | inl same ↦ rw same
      (subst (λ k. (least == n || is_in more n) ≡ (k == n || (least == n || is_in more n))) (sym (eqb-true number least same)) (or-twice (least == n) (is_in more n)))
  | inr other ↦ rw other (elim (cases_Bool (nat_lt number least)) [
    | inl lower ↦ rw lower refl
    | inr higher ↦ rw higher (ap (λ b. least == n || b) (in-among more number n) ∙ or-swap (least == n) (number == n) (is_in more n))
  ])
]

rises-among : (xs : List ℕ) (least number : ℕ) → least ≤ number → Rises least xs → Rises least (among xs number)
rises-among [] least number above rises = (above, tt)
rises-among (x ∷ xs) least number above rises = elim (cases_Bool (number == x)) [
  | inl same ↦ rw same rises
  | inr other ↦ rw other (elim (cases_Bool (nat_lt number x)) [
    | inl lower ↦ rw lower (above, (omega (arith, ltb-true number x lower), rises.1))
    | inr higher ↦ rw higher (rises.0, rises-among xs (x + 1) number (rises-past number x other higher) rises.1)
  ])
]
  where
    rises-past : (number x : ℕ) → (number == x) ≡ false → nat_lt number x ≡ false → x + 1 ≤ number
    rises-past number x other higher = elim (cases_lt x number) [
      | inl less ↦ omega (arith, less)
      | inr most ↦ absurd (true≢false (sym (eq-eqb number x (omega (arith, most, ltb-false number x higher))) ∙ other))
    ]

in-all : (xs so_far : List ℕ) (n : ℕ) → is_in (fold among so_far xs) n ≡ (is_in so_far n || is_in xs n)
in-all [] so_far n = sym (or-false (is_in so_far n))
  where
    or-false : (b : Bool) → (b || false) ≡ b
    or-false true = refl
    or-false false = refl
in-all (x ∷ xs) so_far n =
    in-all xs (among so_far x) n ∙ ap (λ b. b || is_in xs n) (in-among so_far x n) ∙ or-next (x == n) (is_in so_far n) (is_in xs n)

rises-all : (xs so_far : List ℕ) → Rises 0 so_far → Rises 0 (fold among so_far xs)
rises-all [] so_far rises = rises
rises-all (x ∷ xs) so_far rises = rises-all xs (among so_far x) (rises-among so_far 0 x (omega arith) rises)

-- ---- after a sort, without those that repeat

in-deduped : (k : ℕ) (xs : List ℕ) (n : ℕ) → is_in (dedup_from eqb k xs) n ≡ (k == n || is_in xs n)
in-deduped k [] n = refl
in-deduped k (x ∷ xs) n = elim (cases_Bool (eqb x k)) [
  | inl same ↦ rw same
      (in-deduped k xs n ∙ subst (λ y. (k == n || is_in xs n) ≡ (k == n || (y == n || is_in xs n))) (sym (eqb-true x k same)) (or-twice (k == n) (is_in xs n)))
  | inr other ↦ rw other (ap (λ b. k == n || b) (in-deduped x xs n))
]

in-dedup : (xs : List ℕ) (n : ℕ) → is_in (dedup eqb xs) n ≡ is_in xs n
in-dedup [] n = refl
in-dedup (x ∷ xs) n = in-deduped x xs n

rises-from : (least : ℕ) (xs : List ℕ) → ((i : ℕ) → i < length xs → least ≤ slice_index_or xs i 0) → AllPairs (λ x y. x < y) xs → Rises least xs
rises-from least [] low pairs = tt
rises-from least (x ∷ xs) low pairs = (
  low 0 (omega arith),
  rises-from (x + 1) xs
      (λ i less. let above : x < slice_index_or xs i 0 = pairs 0 (suc i) 0 (omega arith) (omega (arith, less)) in omega (arith, above))
      (λ i j d before less. pairs (suc i) (suc j) d (omega (arith, before)) (omega (arith, less))),
)

pub upwards-sorted : (given sorted : List ℕ) → IsPermutation given sorted → IsSorted nat_cmp sorted → dedup eqb sorted ≡ upwards given
upwards-sorted given sorted moved order =
    same-numbers 0 (dedup eqb sorted) (upwards given)
    (rises-from 0 (dedup eqb sorted) (λ i less. omega arith) (AllPairs-from_increasing (dedup eqb sorted) (IsStrictlyIncreasing-dedup sorted order)))
    (rises-all given [] tt)
    (λ n. in-dedup sorted n ∙ sym (list_any-IsPermutation (λ other. other == n) given sorted moved) ∙ sym (in-all given [] n))
