-- The worst response of each group.
use Rattle.std.proofs.Common.{◌≡◌, ◌<◌, ◌≤◌, ℕ, zero, suc, cond, List, [], ◌∷◌, ◌++◌, length, map, take, drop, refl, sym, ◌∙◌, ap, ap₂, inl, inr, arith, length-append, length-drop}
use Rattle.std.proofs.lemmas.Bool.{cases_lt, lt-ltb, le-ltb}
use Rattle.std.proofs.lemmas.List.{take_all}
use Rattle.std.proofs.lemmas.List.FromFn.{length-map-range_with_len}
use Rattle.axi_beats.specs.Response.{worst_of}
use Rattle.axi_beats.specs.declared.beat.Addr.{Addr}
use Rattle.axi_beats.specs.declared.response.Resp.{Resp}
use Rattle.burst_address.proofs.Statuses.{worst-append, worst-okay}
use Rattle.burst_address.specs.Status.{worst_among}
use Rattle.burst_cuts.proofs.ShownLemmas.{cut_all}
use Rattle.burst_cuts.specs.PartLaws.{ClosedGroup, FirstGroups, OpenGroup}
use Rattle.burst_cuts.specs.Parts.{len_of_burst, part_of, parts_of, responses_due, worst_of_groups}
use Rattle.plain_lists.proofs.PrefixLemmas.{prefix_cons, prefix_nil, prefix_of_same, prefix_same}
use Rattle.plain_lists.specs.Prefixes.{IsPrefix}

-- one response more
pub worst-push : (rs : List Resp) (r : Resp) → worst_among (rs ++ r ∷ []) ≡ worst_of (worst_among rs) r
worst-push rs r = sym (worst-append rs (r ∷ [])) ∙ ap (worst_of (worst_among rs)) (worst-okay r)

pub groups-whole : (len : ℕ) (lens : List ℕ) (rs : List Resp) → len < length rs → worst_of_groups (len ∷ lens) rs ≡ worst_among (take (suc len) rs) ∷ worst_of_groups lens (drop (suc len) rs)
groups-whole len lens rs lt = ap (λ b. cond b (worst_among (take (suc len) rs) ∷ worst_of_groups lens (drop (suc len) rs)) []) (lt-ltb len (length rs) lt)

pub groups-none : (len : ℕ) (lens : List ℕ) (rs : List Resp) → length rs ≤ len → worst_of_groups (len ∷ lens) rs ≡ []
groups-none len lens rs le = ap (λ b. cond b (worst_among (take (suc len) rs) ∷ worst_of_groups lens (drop (suc len) rs)) []) (le-ltb len (length rs) le)

pub take-front : (n : ℕ) (xs more : List Resp) → n ≤ length xs → take n (xs ++ more) ≡ take n xs
take-front zero xs more le = refl
take-front (suc n) [] more le = absurd (omega arith)
take-front (suc n) (x ∷ xs) more le = ap (λ (t : List Resp). x ∷ t) (take-front n xs more (omega arith))

pub drop-front : (n : ℕ) (xs more : List Resp) → n ≤ length xs → drop n (xs ++ more) ≡ drop n xs ++ more
drop-front zero xs more le = refl
drop-front (suc n) [] more le = absurd (omega arith)
drop-front (suc n) (x ∷ xs) more le = drop-front n xs more (omega arith)

-- of the first responses, the first groups
pub groups-front : (lens : List ℕ) (rs more : List Resp) → IsPrefix (worst_of_groups lens rs) (worst_of_groups lens (rs ++ more))
groups-front [] rs more = prefix_nil []
groups-front (len ∷ lens) rs more = elim (cases_lt len (length rs)) [
  | inr none ↦ prefix_same (groups-none len lens rs none) (prefix_nil (worst_of_groups (len ∷ lens) (rs ++ more)))
  | inl lt ↦
      let here = take-front (suc len) rs more (omega arith) in
      let later = drop-front (suc len) rs more (omega arith) in
      prefix_same (groups-whole len lens rs lt)
      (prefix_of_same (prefix_cons (worst_among (take (suc len) rs)) (groups-front lens (drop (suc len) rs) more))
      (ap₂ (λ (r : Resp) (l : List Resp). r ∷ l) (ap worst_among (sym here)) (ap (worst_of_groups lens) (sym later))
      ∙ sym (groups-whole len lens (rs ++ more) (omega (arith, lt, length-append rs more)))))
]

pub groups-prefix : FirstGroups
groups-prefix lens rs all front = prefix_of_same (groups-front lens rs front.rest) (ap (worst_of_groups lens) (sym front.whole))

-- as many groups as there are lengths: all responses are there
pub groups-all : (lens : List ℕ) (rs : List Resp) → length lens ≤ length (worst_of_groups lens rs) → responses_due lens ≤ length rs
groups-all [] rs enough = omega arith
groups-all (len ∷ lens) rs enough = elim (cases_lt len (length rs)) [
  | inr none ↦ absurd (omega (arith, enough, ap length (groups-none len lens rs none)))
  | inl lt ↦ omega (arith, lt, enough, ap length (groups-whole len lens rs lt), length-drop (suc len) rs, groups-all lens (drop (suc len) rs) (omega (arith, enough, ap length (groups-whole len lens rs lt))))
]

pub responses-due_to_parts : (parts : List Addr) → length (cut_all parts) ≡ responses_due (map len_of_burst parts)
responses-due_to_parts [] = refl
responses-due_to_parts (a ∷ parts) = omega (arith, length-append (parts_of a) (cut_all parts), length-map-range_with_len (part_of a) 0 (suc a.len), responses-due_to_parts parts)

-- a group that isn't whole gives nothing
pub groups-open : OpenGroup
groups-open [] len more [] own counted few = groups-none len more own few
groups-open [] len more (r ∷ front) own counted few = absurd (omega (arith, counted))
groups-open (f ∷ firsts) len more front own counted few =
    let past : f < length front = omega (arith, counted) in
    groups-whole f (firsts ++ len ∷ more) (front ++ own) (omega (arith, past, length-append front own))
    ∙ ap₂ (λ (x : Resp) (xs : List Resp). x ∷ xs) (ap worst_among (take-front (suc f) front own (omega arith)))
    (ap (worst_of_groups (firsts ++ len ∷ more)) (drop-front (suc f) front own (omega arith)) ∙ groups-open firsts len more (drop (suc f) front) own (omega (arith, counted, length-drop (suc f) front)) few)
    ∙ sym (groups-whole f firsts front past)

pub groups-nil : (lens : List ℕ) → worst_of_groups lens [] ≡ []
groups-nil [] = refl
groups-nil (len ∷ lens) = groups-none len lens [] (omega arith)

drop-whole : (n : ℕ) (xs : List Resp) → length xs ≡ n → drop n xs ≡ []
drop-whole zero [] e = refl
drop-whole zero (x ∷ xs) e = absurd (omega arith)
drop-whole (suc n) [] e = absurd (omega arith)
drop-whole (suc n) (x ∷ xs) e = drop-whole n xs (omega arith)

-- one that is whole gives its worst
pub groups-closed : ClosedGroup
groups-closed [] len more [] own counted whole =
    groups-whole len more own (omega (arith, whole))
    ∙ ap₂ (λ (x y : List Resp). worst_among x ∷ y) (take_all (suc len) own (omega (arith, whole))) (ap (worst_of_groups more) (drop-whole (suc len) own whole) ∙ groups-nil more)
groups-closed [] len more (r ∷ front) own counted whole = absurd (omega (arith, counted))
groups-closed (f ∷ firsts) len more front own counted whole =
    let past : f < length front = omega (arith, counted) in
    groups-whole f (firsts ++ len ∷ more) (front ++ own) (omega (arith, past, length-append front own))
    ∙ ap₂ (λ (x : Resp) (xs : List Resp). x ∷ xs) (ap worst_among (take-front (suc f) front own (omega arith)))
    (ap (worst_of_groups (firsts ++ len ∷ more)) (drop-front (suc f) front own (omega arith)) ∙ groups-closed firsts len more (drop (suc f) front) own (omega (arith, counted, length-drop (suc f) front)) whole)
    ∙ ap (λ (l : List Resp). l ++ worst_among own ∷ []) (sym (groups-whole f firsts front past))
