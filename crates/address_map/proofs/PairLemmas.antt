-- Pairs of regions that share an address.
use Rattle.std.proofs.Common.{◌≡◌, ◌<◌, ◌≤◌, ◌+◌, ◌-◌, ℕ, zero, suc, Bool, true, false, List, [], ◌∷◌, Some, None, drop, take, length, max, min, refl, sym, ◌∙◌, ap, arith, inl, inr, nat_lt, not, cond, is_some, ◌≢◌}
use Rattle.std.specs.Prelude.{position}
use Rattle.std.specs.List.{list_any, position_or_len}
use Rattle.std.proofs.lemmas.Bool.{cases_Bool, cases_lt, cases_order, ltb-false, not-true, false_from_ne_true, false≢true, le-ltb, or_from, or_left, or_right, true≢false}
use Rattle.std.proofs.Math.Seq.{take-length}
use Rattle.std.proofs.lemmas.List.{length-drop}
use Rattle.std.proofs.lemmas.List.Folds.{list_any_at}
use Rattle.std.proofs.lemmas.List.Quantifiers.{position-Some}
use Rattle.std.proofs.lemmas.List.Sums.{prefix_len_passes}
use Rattle.address_map.specs.Regions.{end_of, has_overlap, region_at, share_address, IsOverlap, IsLeastOverlap}
use Rattle.address_map.specs.declared.region.Region.{Region}
use Rattle.address_map.proofs.RegionLemmas.{no_region, none-bad}

-- the region past the end shares nothing
pub past-shares : (one : Region) → share_address one no_region ≡ false
past-shares one = le-ltb (max one.base 0) (min (end_of one) 0) (omega arith)

pub region-past : (xs : List Region) (i : ℕ) → length xs ≤ i → region_at xs i ≡ no_region
region-past [] i le = refl
region-past (x ∷ xs) zero le = absurd (omega arith)
region-past (x ∷ xs) (suc i) le = region-past xs i (omega arith)

pub overlap-of_pair : (xs : List Region) (i j : ℕ) → i < j → share_address (region_at xs i) (region_at xs j) ≡ true → has_overlap xs ≡ true
overlap-of_pair [] i j lt e = absurd (false≢true e)
overlap-of_pair (x ∷ xs) i zero lt e = absurd (omega arith)
overlap-of_pair (x ∷ xs) zero (suc j) lt e =
    elim (cases_lt j (length xs)) [
      | inl within ↦ or_left (list_any (share_address x) xs) (has_overlap xs) (list_any_at (share_address x) xs j no_region within e)
      | inr past ↦ absurd (false≢true (sym (past-shares x) ∙ ap (share_address x) (sym (region-past xs j past)) ∙ e))
    ]
overlap-of_pair (x ∷ xs) (suc i) (suc j) lt e = or_right (list_any (share_address x) xs) (has_overlap xs) (overlap-of_pair xs i j (omega arith) e)

pub no_pair-apart : (xs : List Region) → ((i j : ℕ) → IsOverlap xs i j → ⊥) → has_overlap xs ≡ false
no_pair-apart [] none = refl
no_pair-apart (x ∷ xs) none =
    or_from (list_any (share_address x) xs) (has_overlap xs)
    (none-bad (share_address x) xs (λ k lt. false_from_ne_true (share_address x (region_at xs k)) (λ e. none 0 (suc k) (record { ordered = omega arith; shared = e }))))
    (no_pair-apart xs (λ i j o. none (suc i) (suc j) (record { ordered = omega (arith, o.ordered); shared = o.shared })))

-- the regions after one, by their own numbers
pub region-after : (xs : List Region) (n k j : ℕ) → j ≡ n + k → region_at (drop n xs) k ≡ region_at xs j
region-after xs zero k j e = ap (region_at xs) (omega arith)
region-after [] (suc n) k j e = refl
region-after (x ∷ xs) (suc n) k zero e = absurd (omega arith)
region-after (x ∷ xs) (suc n) k (suc j) e = region-after xs n k j (omega arith)

pub no_place-none : (p : Region → Bool) (xs : List Region) → position p xs ≡ None → (k : ℕ) → k < length xs → p (region_at xs k) ≡ false
no_place-none p xs e k lt =
    elim (cases_Bool (nat_lt (position_or_len p xs) (length xs))) [
      | inl less ↦ absurd (Some≢None (position_or_len p xs) (sym (ap (λ b. cond b (Some (position_or_len p xs)) None) less) ∙ e))
      | inr all ↦
          let at_end : length xs ≤ position_or_len p xs = ltb-false (position_or_len p xs) (length xs) all in
          not-true (p (region_at xs k)) (prefix_len_passes (λ x. not (p x)) xs k no_region (omega arith))
    ]
  where
    Some≢None : (n : ℕ) → Some n ≢ None
    Some≢None n e = true≢false (ap is_some e)

-- what a region's first partner among the later ones is
pub partner-least : (xs : List Region) (first gap : ℕ) → ((one other : ℕ) → one < first → IsOverlap xs one other → ⊥) → position (share_address (region_at xs first)) (drop (first + 1) xs) ≡ Some gap → IsLeastOverlap xs first (first + 1 + gap)
partner-least xs first gap before e =
    let found : (gap < length (drop (first + 1) xs)) × (share_address (region_at xs first) (region_at (drop (first + 1) xs) gap) ≡ true) × ((k : ℕ) → k < gap → share_address (region_at xs first) (region_at (drop (first + 1) xs) k) ≡ false) =
    position-Some (share_address (region_at xs first)) (drop (first + 1) xs) gap no_region e in
    record {
      overlap = record { ordered = omega arith; shared = ap (share_address (region_at xs first)) (sym (region-after xs (first + 1) gap (first + 1 + gap) refl)) ∙ found.1 };
      least = λ one other o. elim (cases_order first one) [
        | inl same ↦ elim (cases_lt other (first + 1 + gap)) [
          | inl earlier ↦ absurd (true≢false (sym o.shared ∙ ap (λ n. share_address (region_at xs n) (region_at xs other)) (sym same) ∙ ap (share_address (region_at xs first)) (sym (region-after xs (first + 1) (other - (first + 1)) other (omega (arith, o.ordered)))) ∙ found.2 (other - (first + 1)) (omega (arith, o.ordered))))
          | inr later ↦ inr (same, later)
        ]
        | inr differ ↦ elim differ [ inl after ↦ inl after | inr sooner ↦ absurd (before one other sooner o) ]
      ];
    }

pub no_partner-none : (xs : List Region) (first : ℕ) → ((one other : ℕ) → one < first → IsOverlap xs one other → ⊥) → position (share_address (region_at xs first)) (drop (first + 1) xs) ≡ None → (one other : ℕ) → one < first + 1 → IsOverlap xs one other → ⊥
no_partner-none xs first before e one other lt o =
    elim (cases_order first one) [
      | inl same ↦
          let at : region_at (drop (first + 1) xs) (other - (first + 1)) ≡ region_at xs other = region-after xs (first + 1) (other - (first + 1)) other (omega (arith, o.ordered)) in
          let shared : share_address (region_at xs first) (region_at (drop (first + 1) xs) (other - (first + 1))) ≡ true = ap (share_address (region_at xs first)) at ∙ ap (λ n. share_address (region_at xs n) (region_at xs other)) same ∙ o.shared in
          elim (cases_lt (other - (first + 1)) (length (drop (first + 1) xs))) [
            | inl within ↦ true≢false (sym shared ∙ no_place-none (share_address (region_at xs first)) (drop (first + 1) xs) e (other - (first + 1)) within)
            | inr past ↦ true≢false (sym shared ∙ ap (share_address (region_at xs first)) (region-past (drop (first + 1) xs) (other - (first + 1)) past) ∙ past-shares (region_at xs first))
          ]
      | inr differ ↦ elim differ [ inl after ↦ absurd (omega arith) | inr sooner ↦ before one other sooner o ]
    ]

-- the regions after one, as a slice of the list
pub all-after : (xs : List Region) (n : ℕ) → take (length xs - n) (drop n xs) ≡ drop n xs
all-after xs n = rw (sym (length-drop n xs)) (take-length (drop n xs))

pub overlap-within : (xs : List Region) (i j : ℕ) → IsOverlap xs i j → i < length xs
overlap-within xs i j o =
    elim (cases_lt i (length xs)) [
      | inl within ↦ within
      | inr past ↦ absurd (false≢true (sym (past-shares_first (region_at xs j)) ∙ ap (λ r. share_address r (region_at xs j)) (sym (region-past xs i past)) ∙ o.shared))
    ]
  where
    past-shares_first : (other : Region) → share_address no_region other ≡ false
    past-shares_first other = le-ltb (max 0 other.base) (min 0 (end_of other)) (omega arith)
