-- The port of an address.
use Rattle.std.proofs.Common.{◌≡◌, ◌<◌, ◌≤◌, ◌/◌, ℕ, zero, suc, Bool, true, false, cond, List, [], ◌∷◌, Some, refl, sym, ◌∙◌, ap, arith, nat_le, nat_lt, option_map}
use Rattle.std.specs.Prelude.{find, slice_get, Option}
use Rattle.std.specs.List.{list_any}
use Rattle.std.proofs.lemmas.Bool.{and_from, and_parts, false_from_ne_true, le-leb, leb-true, lt-ltb, ltb-true, or_parts, true≢false}
use Rattle.std.proofs.lemmas.List.Folds.{list_any_at}
use Rattle.std.proofs.lemmas.Option.{get_or_from_slice_get, slice_get_within}
use Rattle.address_map.specs.Regions.{end_of, has_address, has_overlap, is_bad_region, serving_port, share_address}
use Rattle.address_map.specs.declared.region.Region.{Region}
use Rattle.address_map.proofs.RegionLemmas.{IsGood, good, in_both-shared, no_region}

port-first : (x : Region) (xs : List Region) (address : ℕ) (b : Bool) → has_address x address ≡ b → serving_port (x ∷ xs) address ≡ cond b (Some x.port) (serving_port xs address)
port-first x xs address b e = ap (λ b. option_map (λ (region : Region). region.port) (cond b (Some x) (find (λ region. has_address region address) xs))) e ∙ go b (find (λ region. has_address region address) xs)
  where
    go : (b : Bool) (rest : Option Region) → option_map (λ (region : Region). region.port) (cond b (Some x) rest) ≡ cond b (Some x.port) (option_map (λ (region : Region). region.port) rest)
    go true rest = refl
    go false rest = refl

-- a region of the list that has the address
any-shares : (x : Region) (xs : List Region) (n : ℕ) (region : Region) (address : ℕ) → slice_get xs n ≡ Some region → has_address x address ≡ true → has_address region address ≡ true → list_any (share_address x) xs ≡ true
any-shares x xs n region address at here there =
    list_any_at (share_address x) xs n no_region (slice_get_within xs n region at)
    (ap (share_address x) (get_or_from_slice_get xs n region no_region at) ∙ in_both-shared x region address here there)

pub port-of_holder : (xs : List Region) (n : ℕ) (region : Region) (address : ℕ) → has_overlap xs ≡ false → slice_get xs n ≡ Some region → has_address region address ≡ true → serving_port xs address ≡ Some region.port
port-of_holder [] n region address apart at here = absurd (omega (arith, slice_get_within [] n region at))
port-of_holder (x ∷ xs) zero region address apart at here =
    let same : x ≡ region = get_or_from_slice_get (x ∷ xs) 0 region no_region at in
    port-first x xs address true (ap (λ r. has_address r address) same ∙ here) ∙ ap (λ (r : Region). Some r.port) same
port-of_holder (x ∷ xs) (suc n) region address apart at here =
    let parts : (list_any (share_address x) xs ≡ false) × (has_overlap xs ≡ false) = or_parts (list_any (share_address x) xs) (has_overlap xs) apart in
    let other : has_address x address ≡ false =
    false_from_ne_true (has_address x address) (λ held. true≢false (sym (any-shares x xs n region address at held here) ∙ parts.0)) in
    port-first x xs address false other ∙ port-of_holder xs n region address parts.1 at here

-- two addresses of one page are in the same good regions
same-test : (a b : Bool) → (a ≡ true → b ≡ true) → (b ≡ true → a ≡ true) → a ≡ b
same-test true b to from = sym (to refl)
same-test false true to from = from refl
same-test false false to from = refl

page-held : (x : Region) (one other : ℕ) → IsGood x → one / 4096 ≡ other / 4096 → has_address x one ≡ true → has_address x other ≡ true
page-held x one other fine same e =
    let parts : (nat_le x.base one ≡ true) × (nat_lt one (end_of x) ≡ true) = and_parts (nat_le x.base one) (nat_lt one (end_of x)) e in
    let low : x.base ≤ one = leb-true x.base one parts.0 in
    let high : one < end_of x = ltb-true one (end_of x) parts.1 in
    and_from (nat_le x.base other) (nat_lt other (end_of x)) (le-leb x.base other (omega (arith, fine.based))) (lt-ltb other (end_of x) (omega (arith, fine.based, fine.paged)))

pub page-port : (xs : List Region) (one other : ℕ) → list_any is_bad_region xs ≡ false → one / 4096 ≡ other / 4096 → serving_port xs one ≡ serving_port xs other
page-port [] one other fine same = refl
page-port (x ∷ xs) one other fine same =
    let parts : (is_bad_region x ≡ false) × (list_any is_bad_region xs ≡ false) = or_parts (is_bad_region x) (list_any is_bad_region xs) fine in
    let tested : has_address x one ≡ has_address x other =
    same-test (has_address x one) (has_address x other) (page-held x one other (good x parts.0) same) (page-held x other one (good x parts.0) (sym same)) in
    port-first x xs one (has_address x other) tested ∙ ap (λ rest. cond (has_address x other) (Some x.port) rest) (page-port xs one other parts.1 same)
    ∙ sym (port-first x xs other (has_address x other) refl)
