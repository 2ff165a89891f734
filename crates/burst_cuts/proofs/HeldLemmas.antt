-- Requests whose beats are requests of their own: which are held.
use Rattle.std.proofs.Common.{◌≡◌, ◌≢◌, ◌≤◌, ◌-◌, ◌==◌, ℕ, zero, suc, List, [], ◌∷◌, ◌++◌, map, replicate, refl, sym, ◌∙◌, ap, ap₂, subst, inl, inr, arith}
use Rattle.std.specs.Prelude.{All, flat_map}
use Rattle.std.proofs.lemmas.Bool.{cases_eq}
use Rattle.std.proofs.lemmas.List.Elements.{All-cons, All-filter, All-head, All-nil, All-tail}
use Rattle.plain_lists.specs.Keys.{of_key}
use Rattle.plain_lists.proofs.KeyLemmas.{of_key-append, of_key-cons, of_key-skip}
use Rattle.axi_trail.proofs.HeldFacts.{once-other, once-own}
use Rattle.plain_lists.proofs.PrefixLemmas.{prefix_map, prefix_of_key, prefix_append, prefix_trans}
use Rattle.axi_trail.proofs.StepFacts.{answer_keeps_order, later_requests_are_held, next_answer}
use Rattle.axi_trail.proofs.WaitingFacts.{advanced-last, advanced-more}
use Rattle.axi_trail.specs.Waiting.{Waiting, answered_by, answered_once, fresh, held}
use Rattle.axi_trail.specs.Words.{Asked, InOrderOfId, Reply, held_asked, id_of_asked, id_of_reply, id_of_waiting, len_of_asked, mark_of_reply, next_reply}
use Rattle.burst_cuts.proofs.CutLemmas.{cut}
use Rattle.burst_cuts.specs.CutLaws.{HeldOfCut, PartIsOfOldest, left_parts, single, single_reply}

-- a request that isn't finished lacks a beat
abbrev pub IsWithin : Waiting Asked → Type 0
IsWithin w = w.done ≤ w.request.len

abbrev once : ℕ → List (Waiting Asked) → List (Waiting Asked)
once id ws = answered_once len_of_asked id_of_asked id ws

once-within : (id : ℕ) (ws : List (Waiting Asked)) → All IsWithin ws → All IsWithin (once id ws)
once-within id [] all = all
once-within id (w ∷ ws) all =
    let rest = All-tail IsWithin w ws all in
    let here : w.done ≤ w.request.len = All-head IsWithin w ws all in
    elim (cases_eq w.request.id id) [
      | inl own ↦
          subst (λ (l : List (Waiting Asked)). All IsWithin l) (sym (once-own len_of_asked id_of_asked id w ws own)) (elim (cases_eq w.done w.request.len) [
            | inl last ↦ subst (λ (l : List (Waiting Asked)). All IsWithin l) (sym (advanced-last len_of_asked w ws last)) rest
            | inr more ↦ subst (λ (l : List (Waiting Asked)). All IsWithin l) (sym (advanced-more len_of_asked w ws more)) (All-cons IsWithin (record { request = w.request; done = suc w.done }) ws (omega (arith, here, more)) rest)
          ])
      | inr other ↦ subst (λ (l : List (Waiting Asked)). All IsWithin l) (sym (once-other len_of_asked id_of_asked id w ws other)) (All-cons IsWithin w (once id ws) here (once-within id ws rest))
    ]

-- an answer of another ID passes parts by
once-past : (id n : ℕ) (a : Asked) (ws : List (Waiting Asked)) → a.id ≢ id → once id (replicate n (fresh (single a)) ++ ws) ≡ replicate n (fresh (single a)) ++ once id ws
once-past id zero a ws other = refl
once-past id (suc n) a ws other =
    once-other len_of_asked id_of_asked id (fresh (single a)) (replicate n (fresh (single a)) ++ ws) other ∙ ap (λ (l : List (Waiting Asked)). fresh (single a) ∷ l) (once-past id n a ws other)

-- what a request lacks: one part, and the others
one-part : (w : Waiting Asked) → w.done ≤ w.request.len → left_parts w ≡ fresh (single w.request) ∷ replicate (w.request.len - w.done) (fresh (single w.request))
one-part w within = let more : suc w.request.len - w.done ≡ suc (w.request.len - w.done) = omega arith in ap (λ (n : ℕ). replicate n (fresh (single w.request))) more

once-of_cut : (id : ℕ) (ws : List (Waiting Asked)) → All IsWithin ws → once id (flat_map left_parts ws) ≡ flat_map left_parts (once id ws)
once-of_cut id [] all = refl
once-of_cut id (w ∷ ws) all =
    let here : w.done ≤ w.request.len = All-head IsWithin w ws all in
    let rest = flat_map left_parts ws in
    let part = fresh (single w.request) in
    elim (cases_eq w.request.id id) [
      | inl own ↦
          ap (λ (l : List (Waiting Asked)). once id (l ++ rest)) (one-part w here)
          ∙ once-own len_of_asked id_of_asked id part (replicate (w.request.len - w.done) part ++ rest) own
          ∙ advanced-last len_of_asked part (replicate (w.request.len - w.done) part ++ rest) refl
          ∙ elim (cases_eq w.done w.request.len) [
            | inl last ↦
                let none : w.request.len - w.done ≡ 0 = omega arith in
                ap (λ (n : ℕ). replicate n part ++ rest) none ∙ ap (flat_map left_parts) (sym (once-own len_of_asked id_of_asked id w ws own ∙ advanced-last len_of_asked w ws last))
            | inr more ↦
                let fewer : w.request.len - w.done ≡ suc w.request.len - suc w.done = omega arith in
                ap (λ (n : ℕ). replicate n part ++ rest) fewer ∙ ap (flat_map left_parts) (sym (once-own len_of_asked id_of_asked id w ws own ∙ advanced-more len_of_asked w ws more))
          ]
      | inr other ↦
          once-past id (suc w.request.len - w.done) w.request rest other
          ∙ ap (λ (l : List (Waiting Asked)). left_parts w ++ l) (once-of_cut id ws (All-tail IsWithin w ws all))
          ∙ ap (flat_map left_parts) (sym (once-other len_of_asked id_of_asked id w ws other))
    ]

answered-of_cut : (ids : List ℕ) (ws : List (Waiting Asked)) → All IsWithin ws → answered_by len_of_asked id_of_asked (flat_map left_parts ws) ids ≡ flat_map left_parts (answered_by len_of_asked id_of_asked ws ids)
answered-of_cut [] ws all = refl
answered-of_cut (id ∷ ids) ws all = ap (λ (l : List (Waiting Asked)). answered_by len_of_asked id_of_asked l ids) (once-of_cut id ws all) ∙ answered-of_cut ids (once id ws) (once-within id ws all)

all-fresh : (asked : List Asked) → All IsWithin (map fresh asked)
all-fresh [] = All-nil IsWithin
all-fresh (a ∷ asked) = All-cons IsWithin (fresh a) (map fresh asked) (omega arith) (all-fresh asked)

answered-within : (ids : List ℕ) (ws : List (Waiting Asked)) → All IsWithin ws → All IsWithin (answered_by len_of_asked id_of_asked ws ids)
answered-within [] ws all = all
answered-within (id ∷ ids) ws all = answered-within ids (once id ws) (once-within id ws all)

pub held-within : (asked : List Asked) (ids : List ℕ) → All IsWithin (held len_of_asked id_of_asked asked ids)
held-within asked ids = answered-within ids (map fresh asked) (all-fresh asked)

fresh-parts : (n : ℕ) (a : Asked) (more : List Asked) → map fresh (replicate n (single a) ++ more) ≡ replicate n (fresh (single a)) ++ map fresh more
fresh-parts zero a more = refl
fresh-parts (suc n) a more = ap (λ (l : List (Waiting Asked)). fresh (single a) ∷ l) (fresh-parts n a more)

fresh-of_cut : (asked : List Asked) → map fresh (cut asked) ≡ flat_map left_parts (map fresh asked)
fresh-of_cut [] = refl
fresh-of_cut (a ∷ asked) =
    let all : suc a.len ≡ suc a.len - 0 = omega arith in
    fresh-parts (suc a.len) a (cut asked) ∙ ap₂ (λ (n : ℕ) (l : List (Waiting Asked)). replicate n (fresh (single a)) ++ l) all (fresh-of_cut asked)

pub held-of_cut_ids : (asked : List Asked) (ids : List ℕ) → held len_of_asked id_of_asked (cut asked) ids ≡ flat_map left_parts (held len_of_asked id_of_asked asked ids)
held-of_cut_ids asked ids = ap (λ (l : List (Waiting Asked)). answered_by len_of_asked id_of_asked l ids) (fresh-of_cut asked) ∙ answered-of_cut ids (map fresh asked) (all-fresh asked)

pub held-of_cut : HeldOfCut
held-of_cut asked replies = held-of_cut_ids asked (map id_of_reply replies)

-- the parts of an ID

parts-own : (id n : ℕ) (a : Asked) (ws : List (Waiting Asked)) → a.id ≡ id → of_key id_of_waiting id (replicate n (fresh (single a)) ++ ws) ≡ replicate n (fresh (single a)) ++ of_key id_of_waiting id ws
parts-own id zero a ws own = refl
parts-own id (suc n) a ws own = of_key-cons id_of_waiting id (fresh (single a)) (replicate n (fresh (single a)) ++ ws) own ∙ ap (λ (l : List (Waiting Asked)). fresh (single a) ∷ l) (parts-own id n a ws own)

parts-other : (id n : ℕ) (a : Asked) (ws : List (Waiting Asked)) → a.id ≢ id → of_key id_of_waiting id (replicate n (fresh (single a)) ++ ws) ≡ of_key id_of_waiting id ws
parts-other id zero a ws other = refl
parts-other id (suc n) a ws other = of_key-skip id_of_waiting id (fresh (single a)) (replicate n (fresh (single a)) ++ ws) other ∙ parts-other id n a ws other

parts-of_id : (id : ℕ) (ws : List (Waiting Asked)) → of_key id_of_waiting id (flat_map left_parts ws) ≡ flat_map left_parts (of_key id_of_waiting id ws)
parts-of_id id [] = refl
parts-of_id id (w ∷ ws) = elim (cases_eq w.request.id id) [
  | inl own ↦
      parts-own id (suc w.request.len - w.done) w.request (flat_map left_parts ws) own
      ∙ ap (λ (l : List (Waiting Asked)). left_parts w ++ l) (parts-of_id id ws)
      ∙ ap (flat_map left_parts) (sym (of_key-cons id_of_waiting id w ws own))
  | inr other ↦
      parts-other id (suc w.request.len - w.done) w.request (flat_map left_parts ws) other
      ∙ parts-of_id id ws
      ∙ ap (flat_map left_parts) (sym (of_key-skip id_of_waiting id w ws other))
]

-- the first part is one of the first request
record IsFirstOf (ws : List (Waiting Asked)) (part : Waiting Asked) : Type 0 where
  first : Waiting Asked
  others : List (Waiting Asked)
  whole : ws ≡ first ∷ others
  is : part ≡ fresh (single first.request)

first-part : (ws : List (Waiting Asked)) (part : Waiting Asked) (more : List (Waiting Asked)) → All IsWithin ws → flat_map left_parts ws ≡ part ∷ more → IsFirstOf ws part
first-part [] part more all same = absurd (cc)
first-part (w ∷ ws) part more all same =
    let begin : fresh (single w.request) ∷ (replicate (w.request.len - w.done) (fresh (single w.request)) ++ flat_map left_parts ws) ≡ part ∷ more =
    ap (λ (l : List (Waiting Asked)). l ++ flat_map left_parts ws) (sym (one-part w (All-head IsWithin w ws all))) ∙ same in
    let head : fresh (single w.request) ≡ part = cc in
    record { first = w; others = ws; whole = refl; is = sym head }

same-ids : (beats : List Reply) → map id_of_reply (map single_reply beats) ≡ map id_of_reply beats
same-ids [] = refl
same-ids (p ∷ beats) = ap (λ (l : List ℕ). p.id ∷ l) (same-ids beats)

pub part-is_of_oldest : PartIsOfOldest
part-is_of_oldest asked put rest beats p whole order parts_order =
    let below = map single_reply beats in
    let before : InOrderOfId put below = λ id. prefix_trans (prefix_map mark_of_reply (prefix_of_key id_of_reply id (prefix_append below (p ∷ [])))) (parts_order id) in
    let next = next_answer put below p parts_order in
    let id = p.id in
    -- the parts that are held, with those that aren't put yet
    let held_all : held_asked (cut asked) below ≡ held_asked put below ++ map fresh rest = ap (λ (l : List Asked). held_asked l below) whole ∙ later_requests_are_held put rest below before in
    let of_id : flat_map left_parts (of_key id_of_waiting id (held_asked asked beats)) ≡ next.0 ∷ (next.1 ++ of_key id_of_waiting id (map fresh rest)) =
    sym (parts-of_id id (held_asked asked beats))
    ∙ ap (of_key id_of_waiting id) (sym (held-of_cut asked beats) ∙ ap (held len_of_asked id_of_asked (cut asked)) (sym (same-ids beats)) ∙ held_all)
    ∙ of_key-append id_of_waiting id (held_asked put below) (map fresh rest)
    ∙ ap (λ (l : List (Waiting Asked)). l ++ of_key id_of_waiting id (map fresh rest)) next.2 in
    let within : All IsWithin (of_key id_of_waiting id (held_asked asked beats)) = All-filter (λ (w : Waiting Asked). id_of_waiting w == id) IsWithin (held_asked asked beats) (held-within asked (map id_of_reply beats)) in
    let first = first-part (of_key id_of_waiting id (held_asked asked beats)) next.0 (next.1 ++ of_key id_of_waiting id (map fresh rest)) within of_id in
    record {
      waiting = first.first;
      others = first.others;
      oldest = first.whole;
      is = next.3 ∙ ap next_reply first.is;
      order = answer_keeps_order asked beats id first.first first.others order first.whole;
    }
