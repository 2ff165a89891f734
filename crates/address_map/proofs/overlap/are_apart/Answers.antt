use Rattle.std.proofs.Common.{◌≡◌, List, false, not, rules, ◌∙◌, ap, sym}
use Rattle.std.specs.Prelude.{IsPermutation}
use Rattle.std.specs.List.{list_any}
use Rattle.std.specs.List.Sorted.{IsNonDecreasingBy}
use Rattle.std.proofs.lemmas.List.Sorted.{IsNonDecreasingBy-from_sort_by_key, list_any-IsPermutation}
use Rattle.address_map.specs.Order.{follows}
use Rattle.address_map.specs.Regions.{is_bad_region, has_overlap}
use Rattle.address_map.specs.declared.region.Region.{Region}
use Rattle.address_map.proofs.ApartLemmas.{follow-each_other, overlap-other_order}
use Rattle.address_map.proofs.overlap.are_apart.Goals as goal

good-sorted : (xs ys : List Region) → IsPermutation xs ys → list_any is_bad_region xs ≡ false → list_any is_bad_region ys ≡ false
good-sorted xs ys p e = sym (list_any-IsPermutation is_bad_region xs ys p) ∙ e

apart-sorted : (xs ys : List Region) → IsPermutation xs ys → IsNonDecreasingBy (λ (r : Region). r.base) ys → list_any is_bad_region xs ≡ false → follows 0 ys ≡ not (has_overlap xs)
apart-sorted xs ys p up e = follow-each_other ys up (good-sorted xs ys p e) ∙ ap not (overlap-other_order xs ys p)

pub follow_each_other-requires : goal.follow_each_other-requires
follow_each_other-requires c =
    record { good = ap (list_any is_bad_region) c.deref.ensures.value ∙ good-sorted c.in_ok-sorted.sorted.items c.sort_by_key.new.self.items c.sort_by_key.ensures.permutation (ap (list_any is_bad_region) c.in_ok-sorted.ensures.items ∙ c.requires.good) }

pub returns : goal.returns
returns c =
    let sorted : IsNonDecreasingBy (λ (r : Region). r.base) c.sort_by_key.new.self.items =
    IsNonDecreasingBy-from_sort_by_key (λ (r : Region). r.base) _ c.in_ok-sort_by_key.ensures.sorted (λ a r q k. search rules) in
    c.follow_each_other.ensures ∙ ap (follows 0) c.deref.ensures.value
    ∙ apart-sorted c.in_ok-sorted.sorted.items c.sort_by_key.new.self.items c.sort_by_key.ensures.permutation sorted (ap (list_any is_bad_region) c.in_ok-sorted.ensures.items ∙ c.requires.good)
    ∙ ap (λ xs. not (has_overlap xs)) c.in_ok-sorted.ensures.items
