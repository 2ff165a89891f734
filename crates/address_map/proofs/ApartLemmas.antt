-- Regions that share no address: each address is in at most one of them, and in order they follow each other.
use Rattle.std.proofs.Common.{◌≡◌, ◌<◌, ◌≤◌, ◌+◌, ℕ, suc, Bool, true, false, cond, List, [], ◌∷◌, max, min, refl, sym, ◌∙◌, ap, arith, inl, inr, nat_le, not}
use Rattle.std.specs.Prelude.{count_by, IsPermutation}
use Rattle.std.specs.List.{list_any}
use Rattle.std.specs.List.Sorted.{IsNonDecreasingBy}
use Rattle.std.proofs.lemmas.Bool.{and_cases, and_parts, cases_Bool, false_from_ne_true, false≢true, leb-false, leb-true, le-ltb, lt-ltb, or_cases, or_from, or_left, or_parts, or_right, true≢false}
use Rattle.std.proofs.lemmas.List.Sums.{sum_by-cons}
use Rattle.std.proofs.lemmas.List.Sorted.{sum_by-IsPermutation, IsPermutation-sym}
use Rattle.address_map.specs.Order.{follows}
use Rattle.address_map.specs.Regions.{end_of, has_address, has_overlap, is_bad_region, share_address}
use Rattle.address_map.specs.declared.region.Region.{Region}
use Rattle.address_map.proofs.RegionLemmas.{IsGood, good, in_both-shared, shared-in_first, shared-in_second, no_region}

-- how many regions have the address
abbrev holders : ℕ → List Region → ℕ
holders address xs = count_by (λ region. has_address region address) xs

holders-cons : (address : ℕ) (x : Region) (xs : List Region) → holders address (x ∷ xs) ≡ cond (has_address x address) 1 0 + holders address xs
holders-cons address x xs = sum_by-cons (λ region. cond (has_address region address) 1 0) x xs

more : (address : ℕ) (x : Region) (xs : List Region) (b : Bool) → has_address x address ≡ b → holders address (x ∷ xs) ≡ cond b 1 0 + holders address xs
more address x xs b e = holders-cons address x xs ∙ ap (λ b. cond b 1 0 + holders address xs) e

none-holds : (x : Region) (address : ℕ) (xs : List Region) → has_address x address ≡ true → list_any (share_address x) xs ≡ false → holders address xs ≡ 0
none-holds x address [] here e = refl
none-holds x address (y ∷ ys) here e =
    let parts : (share_address x y ≡ false) × (list_any (share_address x) ys ≡ false) = or_parts (share_address x y) (list_any (share_address x) ys) e in
    let other : has_address y address ≡ false = false_from_ne_true (has_address y address) (λ there. true≢false (sym (in_both-shared x y address here there) ∙ parts.0)) in
    omega (arith, more address y ys false other, none-holds x address ys here parts.1)

pub at_most_one : (xs : List Region) (address : ℕ) → has_overlap xs ≡ false → count_by (λ region. has_address region address) xs ≤ 1
at_most_one [] address e = omega arith
at_most_one (x ∷ xs) address e =
    let parts : (list_any (share_address x) xs ≡ false) × (has_overlap xs ≡ false) = or_parts (list_any (share_address x) xs) (has_overlap xs) e in
    elim (cases_Bool (has_address x address)) [
      | inl here ↦ omega (arith, more address x xs true here, none-holds x address xs here parts.0)
      | inr there ↦ omega (arith, more address x xs false there, at_most_one xs address parts.1)
    ]

-- an address that a region shares with one of a list
record IsShared (x : Region) (xs : List Region) : Type 0 where
  address : ℕ
  here : has_address x address ≡ true
  there : 1 ≤ holders address xs

shared-address : (x : Region) (xs : List Region) → list_any (share_address x) xs ≡ true → IsShared x xs
shared-address x [] e = absurd (false≢true e)
shared-address x (y ∷ ys) e =
    elim (or_cases (share_address x y) (list_any (share_address x) ys) e) [
      | inl one ↦ record { address = max x.base y.base; here = shared-in_first x y one; there = omega (arith, more (max x.base y.base) y ys true (shared-in_second x y one)) }
      | inr many ↦
          let found : IsShared x ys = shared-address x ys many in
          record { address = found.address; here = found.here; there = omega (arith, found.there, holders-cons found.address y ys) }
    ]

pub apart-of_one : (xs : List Region) → ((address : ℕ) → count_by (λ region. has_address region address) xs ≤ 1) → has_overlap xs ≡ false
apart-of_one [] one = refl
apart-of_one (x ∷ xs) one =
    or_from (list_any (share_address x) xs) (has_overlap xs)
    (false_from_ne_true (list_any (share_address x) xs) (λ e. let found : IsShared x xs = shared-address x xs e in omega (arith, one found.address, more found.address x xs true found.here, found.there)))
    (apart-of_one xs (λ address. omega (arith, one address, holders-cons address x xs)))

apart-other_order : (xs ys : List Region) → IsPermutation xs ys → has_overlap xs ≡ false → has_overlap ys ≡ false
apart-other_order xs ys p e =
    apart-of_one ys (λ address. omega (arith, sum_by-IsPermutation (λ region. cond (has_address region address) 1 0) xs ys p, at_most_one xs address e))

pub overlap-other_order : (xs ys : List Region) → IsPermutation xs ys → has_overlap ys ≡ has_overlap xs
overlap-other_order xs ys p =
    elim (cases_Bool (has_overlap xs)) [
      | inl shared ↦ elim (cases_Bool (has_overlap ys)) [
        | inl too ↦ too ∙ sym shared
        | inr apart ↦ absurd (true≢false (sym shared ∙ apart-other_order ys xs (IsPermutation-sym xs ys p) apart))
      ]
      | inr apart ↦ apart-other_order xs ys p apart ∙ sym apart
    ]

-- regions that follow an address share nothing with one that ends there
follow-apart : (x : Region) (address : ℕ) (xs : List Region) → end_of x ≤ address → follows address xs ≡ true → list_any (share_address x) xs ≡ false
follow-apart x address [] le e = refl
follow-apart x address (y ∷ ys) le e =
    let parts : (nat_le address y.base ≡ true) × (follows (end_of y) ys ≡ true) = and_parts (nat_le address y.base) (follows (end_of y) ys) e in
    let above : address ≤ y.base = leb-true address y.base parts.0 in
    or_from (share_address x y) (list_any (share_address x) ys) (le-ltb (max x.base y.base) (min (end_of x) (end_of y)) (omega arith)) (follow-apart x (end_of y) ys (omega arith) parts.1)

pub following-are_apart : (address : ℕ) (xs : List Region) → follows address xs ≡ true → has_overlap xs ≡ false
following-are_apart address [] e = refl
following-are_apart address (x ∷ xs) e =
    let parts : (nat_le address x.base ≡ true) × (follows (end_of x) xs ≡ true) = and_parts (nat_le address x.base) (follows (end_of x) xs) e in
    or_from (list_any (share_address x) xs) (has_overlap xs) (follow-apart x (end_of x) xs (omega arith) parts.1) (following-are_apart (end_of x) xs parts.1)

-- sorted regions that don't follow each other share an address: one with the next
crowded-overlap : (x : Region) (xs : List Region) → IsNonDecreasingBy (λ (r : Region). r.base) (x ∷ xs) → list_any is_bad_region (x ∷ xs) ≡ false → follows (end_of x) xs ≡ false → has_overlap (x ∷ xs) ≡ true
crowded-overlap x [] up fine e = absurd (true≢false e)
crowded-overlap x (y ∷ ys) up fine e =
    let parts : (is_bad_region x ≡ false) × (list_any is_bad_region (y ∷ ys) ≡ false) = or_parts (is_bad_region x) (list_any is_bad_region (y ∷ ys)) fine in
    let others : (is_bad_region y ≡ false) × (list_any is_bad_region ys ≡ false) = or_parts (is_bad_region y) (list_any is_bad_region ys) parts.1 in
    let sized : IsGood y = good y others.0 in
    let sized_x : IsGood x = good x parts.0 in
    let rising : x.base ≤ y.base = up 0 1 no_region (omega arith) (omega arith) in
    elim (and_cases (nat_le (end_of x) y.base) (follows (end_of y) ys) e) [
      | inl close ↦
          let below : y.base < end_of x = leb-false (end_of x) y.base close in
          or_left (list_any (share_address x) (y ∷ ys)) (has_overlap (y ∷ ys))
          (or_left (share_address x y) (list_any (share_address x) ys) (lt-ltb (max x.base y.base) (min (end_of x) (end_of y)) (omega (arith, sized.sized, sized_x.sized))))
      | inr later ↦
          or_right (list_any (share_address x) (y ∷ ys)) (has_overlap (y ∷ ys))
          (crowded-overlap y ys (λ i j d le lt. up (suc i) (suc j) d (omega arith) (omega arith)) parts.1 later)
    ]

pub follow-each_other : (xs : List Region) → IsNonDecreasingBy (λ (r : Region). r.base) xs → list_any is_bad_region xs ≡ false → follows 0 xs ≡ not (has_overlap xs)
follow-each_other [] up fine = refl
follow-each_other (x ∷ xs) up fine =
    elim (cases_Bool (follows 0 (x ∷ xs))) [
      | inl yes_ ↦ yes_ ∙ ap not (sym (following-are_apart 0 (x ∷ xs) yes_))
      | inr other ↦ other ∙ ap not (sym (crowded x xs up fine other))
    ]
  where
    crowded : (x : Region) (xs : List Region) → IsNonDecreasingBy (λ (r : Region). r.base) (x ∷ xs) → list_any is_bad_region (x ∷ xs) ≡ false → follows 0 (x ∷ xs) ≡ false → has_overlap (x ∷ xs) ≡ true
    crowded x xs up fine e =
        elim (and_cases (nat_le 0 x.base) (follows (end_of x) xs) e) [
          | inl below ↦ absurd (omega (arith, leb-false 0 x.base below))
          | inr close ↦ crowded-overlap x xs up fine close
        ]
