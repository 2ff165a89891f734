-- Regions, their addresses and their ports.
use Rattle.std.proofs.Common.{◌≡◌, ◌<◌, ◌≤◌, ◌+◌, ◌%◌, ◌==◌, ◌&&◌, ◌||◌, ℕ, zero, suc, Bool, true, false, cond, List, [], ◌∷◌, Some, None, add-one, drop, length, ◌^◌, max, min, refl, inl, inr, not, sym, ap, arith, nat_le, nat_lt, option_map}
use Rattle.std.specs.Prelude.{find, position, Option}
use Rattle.std.specs.List.{list_any, position_or_len}
use Rattle.std.proofs.Math.Seq.{drop-cons}
use Rattle.std.proofs.lemmas.Bool.{and_from, and_parts, cases_lt, eqb-true, eqb-false, ltb-false, or_from, leb-true, le-leb, le-ltb, lt-ltb, ltb-true, not-false, or_parts}
use Rattle.std.proofs.lemmas.List.Sums.{position_or_len_is}
use Rattle.address_map.specs.Order.{follows}
use Rattle.address_map.specs.Regions.{end_of, has_address, is_bad_region, serving_port, region_at, share_address}
use Rattle.address_map.specs.declared.region.Region.{Region}

abbrev pub no_region : Region
no_region = record { base = 0; size = 0; port = 0 }

-- an address that two regions share is in both, and the other way round
pub shared-in_first : (one other : Region) → share_address one other ≡ true → has_address one (max one.base other.base) ≡ true
shared-in_first one other e =
    let below : max one.base other.base < min (end_of one) (end_of other) = ltb-true (max one.base other.base) (min (end_of one) (end_of other)) e in
    and_from (nat_le one.base (max one.base other.base)) (nat_lt (max one.base other.base) (end_of one)) (le-leb one.base (max one.base other.base) (omega arith)) (lt-ltb (max one.base other.base) (end_of one) (omega arith))

pub shared-in_second : (one other : Region) → share_address one other ≡ true → has_address other (max one.base other.base) ≡ true
shared-in_second one other e =
    let below : max one.base other.base < min (end_of one) (end_of other) = ltb-true (max one.base other.base) (min (end_of one) (end_of other)) e in
    and_from (nat_le other.base (max one.base other.base)) (nat_lt (max one.base other.base) (end_of other)) (le-leb other.base (max one.base other.base) (omega arith)) (lt-ltb (max one.base other.base) (end_of other) (omega arith))

pub in_both-shared : (one other : Region) (address : ℕ) → has_address one address ≡ true → has_address other address ≡ true → share_address one other ≡ true
in_both-shared one other address a b =
    let first : (nat_le one.base address ≡ true) × (nat_lt address (end_of one) ≡ true) = and_parts (nat_le one.base address) (nat_lt address (end_of one)) a in
    let second : (nat_le other.base address ≡ true) × (nat_lt address (end_of other) ≡ true) = and_parts (nat_le other.base address) (nat_lt address (end_of other)) b in
    let low : one.base ≤ address = leb-true one.base address first.0 in
    let high : address < end_of one = ltb-true address (end_of one) first.1 in
    let low_too : other.base ≤ address = leb-true other.base address second.0 in
    let high_too : address < end_of other = ltb-true address (end_of other) second.1 in
    lt-ltb (max one.base other.base) (min (end_of one) (end_of other)) (omega arith)

-- the first place at which a test holds
pub first-place : (p : Region → Bool) (xs : List Region) (i : ℕ) → i < length xs → ((k : ℕ) → k < i → p (region_at xs k) ≡ false) → p (region_at xs i) ≡ true → Some i ≡ position p xs
first-place p xs i within before here =
    let at : position_or_len p xs ≡ i = position_or_len_is p xs i no_region (omega arith) before (λ _. here) in
    sym (rw at (ap (λ b. cond b (Some i) None) (lt-ltb i (length xs) within)))

pub no-place : (p : Region → Bool) (xs : List Region) → ((k : ℕ) → k < length xs → p (region_at xs k) ≡ false) → None ≡ position p xs
no-place p xs none =
    let at : position_or_len p xs ≡ length xs = position_or_len_is p xs (length xs) no_region (omega arith) none (λ lt. absurd (omega arith)) in
    sym (rw at (ap (λ b. cond b (Some (length xs)) None) (le-ltb (length xs) (length xs) (omega arith))))

-- the port of an address, from a place on
pub found_from : (xs : List Region) (i address : ℕ) → i < length xs → serving_port (drop i xs) address ≡ cond (has_address (region_at xs i) address) (Some (region_at xs i).port) (serving_port (drop (i + 1) xs) address)
found_from xs i address within =
    rw (drop-cons xs i no_region within, add-one) (go (has_address (region_at xs i) address) (find (λ region. has_address region address) (drop (suc i) xs)))
  where
    go : (b : Bool) (rest : Option Region) → option_map (λ (region : Region). region.port) (cond b (Some (region_at xs i)) rest) ≡ cond b (Some (region_at xs i).port) (option_map (λ (region : Region). region.port) rest)
    go true rest = refl
    go false rest = refl

-- the regions of a list are as good as its own
pub follows_from : (xs : List Region) (i end : ℕ) → i < length xs → follows end (drop i xs) ≡ (nat_le end (region_at xs i).base && follows (end_of (region_at xs i)) (drop (i + 1) xs))
follows_from xs i end within = rw (drop-cons xs i no_region within, add-one) refl

pub not_bad-at : (xs : List Region) (i : ℕ) → list_any is_bad_region xs ≡ false → i < length xs → is_bad_region (region_at xs i) ≡ false
not_bad-at [] i e within = absurd (omega arith)
not_bad-at (x ∷ xs) zero e within = (or_parts (is_bad_region x) (list_any is_bad_region xs) e).0
not_bad-at (x ∷ xs) (suc i) e within = not_bad-at xs i (or_parts (is_bad_region x) (list_any is_bad_region xs) e).1 (omega arith)

pub none-bad : (p : Region → Bool) (xs : List Region) → ((k : ℕ) → k < length xs → p (region_at xs k) ≡ false) → list_any p xs ≡ false
none-bad p [] none = refl
none-bad p (x ∷ xs) none = or_from (p x) (list_any p xs) (none 0 (omega arith)) (none-bad p xs (λ k lt. none (suc k) (omega arith)))

-- a region that isn't bad is made of whole pages, at least one, below the limit
pub record IsGood (region : Region) : Type 0 where
  pub sized : 0 < region.size
  pub based : region.base % 4096 ≡ 0
  pub paged : region.size % 4096 ≡ 0
  pub within : end_of region ≤ 2 ^ 63

pub good : (region : Region) → is_bad_region region ≡ false → IsGood region
good region e =
    let three : ((region.size == 0 || not (region.base % 4096 == 0) || not (region.size % 4096 == 0)) ≡ false) × (nat_lt (2 ^ 63) (region.base + region.size) ≡ false) =
    or_parts (region.size == 0 || not (region.base % 4096 == 0) || not (region.size % 4096 == 0)) (nat_lt (2 ^ 63) (region.base + region.size)) e in
    let two : ((region.size == 0 || not (region.base % 4096 == 0)) ≡ false) × (not (region.size % 4096 == 0) ≡ false) =
    or_parts (region.size == 0 || not (region.base % 4096 == 0)) (not (region.size % 4096 == 0)) three.0 in
    let one : ((region.size == 0) ≡ false) × (not (region.base % 4096 == 0) ≡ false) = or_parts (region.size == 0) (not (region.base % 4096 == 0)) two.0 in
    record {
      sized = elim (cases_lt 0 region.size) [ inl lt ↦ lt | inr le ↦ absurd (eqb-false region.size 0 one.0 (omega arith)) ];
      based = eqb-true (region.base % 4096) 0 (not-false (region.base % 4096 == 0) one.1);
      paged = eqb-true (region.size % 4096) 0 (not-false (region.size % 4096 == 0) two.1);
      within = ltb-false (2 ^ 63) (region.base + region.size) three.1;
    }
