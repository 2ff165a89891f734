-- Lanes that are moved.
use Rattle.std.proofs.Common.{◌≡◌, ◌+◌, ◌-◌, ◌<◌, ◌≤◌, ◌&&◌, ℕ, zero, suc, Bool, true, false, cond, leb, ltb, List, [], ◌∷◌, length, map, take, drop, replicate, refl, sym, ◌∙◌, ap, ap₂, arith, inl, inr}
use Rattle.std.specs.Prelude.{slice_index, slice_range, slice_set}
use Rattle.std.specs.List.{range_with_len}
use Rattle.std.proofs.lemmas.Bool.{cases_lt, le-leb, le-ltb, lt-leb, lt-ltb}
use Rattle.std.proofs.lemmas.List.FromFn.{get_or-map-range_with_len, length-map-range_with_len, take-map-range_with_len}
use Rattle.plain_lists.proofs.RangeLemmas.{map-range-agree, map-range-constant, map-range-set}
use Rattle.up_node.specs.UpBeats.{moved_lanes}

module _ (from to : ℕ) (lanes : List ℕ) where
  -- what stands on a lane where so many were moved
  abbrev pub lane_at : ℕ → ℕ → ℕ
  lane_at count k = cond (leb to k && ltb k (to + count)) (slice_index lanes (from + (k - to))) 0

  at-before : (count k : ℕ) → k < to → lane_at count k ≡ 0
  at-before count k lt = ap (λ b. cond (b && ltb k (to + count)) (slice_index lanes (from + (k - to))) 0) (lt-leb to k lt)

  at-past : (count k : ℕ) → to + count ≤ k → lane_at count k ≡ 0
  at-past count k le =
      let none : (b : Bool) (x : ℕ) → cond (b && false) x 0 ≡ 0 = elim [ true ↦ λ x. refl | false ↦ λ x. refl ] in
      ap (λ b. cond (leb to k && b) (slice_index lanes (from + (k - to))) 0) (le-ltb k (to + count) le) ∙ none (leb to k) (slice_index lanes (from + (k - to)))

  pub at-within : (count k : ℕ) → to ≤ k → k < to + count → lane_at count k ≡ slice_index lanes (from + (k - to))
  at-within count k le lt =
      ap (λ b. cond (b && ltb k (to + count)) (slice_index lanes (from + (k - to))) 0) (le-leb to k le)
      ∙ ap (λ b. cond b (slice_index lanes (from + (k - to))) 0) (lt-ltb k (to + count) lt)

  pub moved-none : moved_lanes 0 from to lanes ≡ replicate 128 0
  moved-none =
      map-range-agree (lane_at 0) (λ k. 0) 0 128
      (λ k low below. elim (cases_lt k to) [ inl lt ↦ at-before 0 k lt | inr le ↦ at-past 0 k (omega arith) ])
      ∙ map-range-constant 0 128 0

  pub moved-more : (count lane b : ℕ) → lane ≡ to + count → lane < 128 → b ≡ slice_index lanes (from + count) → slice_set (moved_lanes count from to lanes) lane b ≡ moved_lanes (count + 1) from to lanes
  moved-more count lane b at lt is =
      let place : from + ((0 + lane) - to) ≡ from + count = omega (arith, at) in
      let own : lane_at (count + 1) (0 + lane) ≡ b = at-within (count + 1) (0 + lane) (omega (arith, at)) (omega (arith, at)) ∙ ap (slice_index lanes) place ∙ sym is in
      map-range-set (lane_at count) (lane_at (count + 1)) 0 128 lane b lt own
      (λ k low below other. elim (cases_lt k to) [
        | inl before ↦ at-before count k before ∙ sym (at-before (count + 1) k before)
        | inr after ↦ elim (cases_lt k (to + count)) [
          | inl within ↦ at-within count k after within ∙ sym (at-within (count + 1) k after (omega (arith, within)))
          | inr past ↦ elim (cases_lt k (to + (count + 1))) [
            | inl same ↦ absurd (other (omega (arith, same, past, at)))
            | inr beyond ↦ at-past count k past ∙ sym (at-past (count + 1) k beyond)
          ]
        ]
      ])

pub moved-long : (count from to : ℕ) (lanes : List ℕ) → length (moved_lanes count from to lanes) ≡ 128
moved-long count from to lanes = length-map-range_with_len (lane_at from to lanes count) 0 128

-- two ranges of as many numbers
ranges-agree : (f g : ℕ → ℕ) (a b n : ℕ) → ((i : ℕ) → i < n → f (a + i) ≡ g (b + i)) → map f (range_with_len a n) ≡ map g (range_with_len b n)
ranges-agree f g a b zero same = refl
ranges-agree f g a b (suc n) same =
    let here : f a ≡ g b = ap f (let left : a ≡ a + 0 = omega arith in left) ∙ same 0 (omega arith) ∙ ap g (let right : b + 0 ≡ b = omega arith in right) in
    ap₂ (λ (x : ℕ) (xs : List ℕ). x ∷ xs) here
    (ranges-agree f g (a + 1) (b + 1) n (λ i lt.
    let left : a + 1 + i ≡ a + suc i = omega arith in
    let right : b + suc i ≡ b + 1 + i = omega arith in
    ap f left ∙ same (suc i) (omega (arith, lt)) ∙ ap g right))

drop-range : (f : ℕ → ℕ) (a n k m : ℕ) → n ≡ k + m → drop k (map f (range_with_len a n)) ≡ map f (range_with_len (a + k) m)
drop-range f a n zero m sum = ap₂ (λ b c. map f (range_with_len b c)) (let same : a ≡ a + 0 = omega arith in same) (let same : n ≡ m = omega (arith, sum) in same)
drop-range f a zero (suc k) m sum = absurd (omega (arith, sum))
drop-range f a (suc n) (suc k) m sum =
    drop-range f (a + 1) n k m (omega (arith, sum)) ∙ ap (λ b. map f (range_with_len b m)) (let same : a + 1 + k ≡ a + suc k = omega arith in same)

take_none : (xs : List ℕ) (n : ℕ) → n ≡ 0 → take n xs ≡ []
take_none xs n is = ap (λ k. take k xs) is

-- a part of a mapped range
range-part : (f : ℕ → ℕ) (n low end : ℕ) → end ≤ n → slice_range (map f (range_with_len 0 n)) low end ≡ map f (range_with_len low (end - low))
range-part f n low end le = elim (cases_lt end low) [
  | inl past ↦
      let none : end - low ≡ 0 = omega (arith, past) in
      take_none (drop low (map f (range_with_len 0 n))) (end - low) none ∙ sym (ap (λ k. map f (range_with_len low k)) none)
  | inr ordered ↦
      ap (take (end - low)) (drop-range f 0 n low (n - low) (omega (arith, ordered, le)) ∙ ap (λ a. map f (range_with_len a (n - low))) (let same : 0 + low ≡ low = omega arith in same))
      ∙ take-map-range_with_len f low (n - low) (end - low) (omega (arith, ordered, le))
]

-- a list by the places of its elements
by-places : (xs : List ℕ) → map (slice_index xs) (range_with_len 0 (length xs)) ≡ xs
by-places xs = go xs 0 (slice_index xs) (λ i lt. ap (slice_index xs) (let same : 0 + i ≡ i = omega arith in same))
  where
    go : (ys : List ℕ) (a : ℕ) (f : ℕ → ℕ) → ((i : ℕ) → i < length ys → f (a + i) ≡ slice_index ys i) → map f (range_with_len a (length ys)) ≡ ys
    go [] a f same = refl
    go (y ∷ ys) a f same =
        let here : f a ≡ y = ap f (let left : a ≡ a + 0 = omega arith in left) ∙ same 0 (omega arith) in
        ap₂ (λ (x : ℕ) (xs : List ℕ). x ∷ xs) here
        (go ys (a + 1) f (λ i lt. ap f (let left : a + 1 + i ≡ a + suc i = omega arith in left) ∙ same (suc i) (omega (arith, lt))))

-- so many lanes of a list of 128, as a range
part-by_places : (xs : List ℕ) (low end : ℕ) → length xs ≡ 128 → end ≤ 128 → slice_range xs low end ≡ map (slice_index xs) (range_with_len low (end - low))
part-by_places xs low end long le =
    ap (λ ys. slice_range ys low end) (sym (by-places xs)) ∙ ap (λ n. slice_range (map (slice_index xs) (range_with_len 0 n)) low end) long
    ∙ range-part (slice_index xs) 128 low end le

-- The bytes on lanes are where they were moved to: down from a shift, and up by a shift.
pub moved-back : (count shift low high : ℕ) (lanes : List ℕ) → length lanes ≡ 128 → shift + count ≤ 128 → high < count →
    slice_range (moved_lanes count shift 0 lanes) low (high + 1) ≡ slice_range lanes (low + shift) (high + shift + 1)
moved-back count shift low high lanes long within on =
    let many : high + shift + 1 - (low + shift) ≡ high + 1 - low = omega arith in
    range-part (lane_at shift 0 lanes count) 128 low (high + 1) (omega (arith, within, on))
    ∙ ranges-agree (lane_at shift 0 lanes count) (slice_index lanes) low (low + shift) (high + 1 - low)
    (λ i lt.
    let place : shift + (low + i - 0) ≡ low + shift + i = omega arith in
    at-within shift 0 lanes count (low + i) (omega arith) (omega (arith, lt, on)) ∙ ap (slice_index lanes) place)
    ∙ sym (part-by_places lanes (low + shift) (high + shift + 1) long (omega (arith, within, on)) ∙ ap (λ n. map (slice_index lanes) (range_with_len (low + shift) n)) many)

-- the byte on a lane that was moved up
pub moved-index : (count shift lane : ℕ) (lanes : List ℕ) → shift + count ≤ 128 → lane < count → slice_index (moved_lanes count 0 shift lanes) (lane + shift) ≡ slice_index lanes lane
moved-index count shift lane lanes within on =
    let place : 0 + (lane + shift - shift) ≡ lane = omega arith in
    get_or-map-range_with_len (lane_at 0 shift lanes count) 0 128 (lane + shift) (lane + shift) _ (omega (arith, within, on)) (omega arith)
    ∙ at-within 0 shift lanes count (lane + shift) (omega arith) (omega (arith, on)) ∙ ap (slice_index lanes) place
