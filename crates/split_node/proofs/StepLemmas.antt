-- A round of a splitter, in one direction.
use Rattle.std.proofs.Common.{◌≡◌, ◌≢◌, ◌<◌, ◌≤◌, ◌+◌, ◌-◌, ◌==◌, ℕ, zero, suc, Bool, true, false, cond, List, [], ◌∷◌, ◌++◌, Option, Some, None, length, map, refl, sym, ◌∙◌, ap, ap₂, subst, inl, inr, arith, append_assoc, append-nil, eq-eqb}
use Rattle.std.specs.Prelude.{All, IfSome, flat_map, is_some, nat_lt}
use Rattle.std.specs.List.{range_with_len}
use Rattle.std.proofs.lemmas.Bool.{cases_eq, cases_lt, le-ltb, lt-ltb, ne_eqb}
use Rattle.std.proofs.lemmas.List.Concat.{flat_map-append}
use Rattle.std.proofs.lemmas.List.Elements.{All-head, All-tail}
use Rattle.axi_beats.specs.Response.{worst_of}
use Rattle.axi_beats.specs.declared.beat.Addr.{Addr}
use Rattle.axi_beats.specs.declared.response.Resp.{Resp}
use Rattle.axi_link.specs.Moves.{appended, takes_from}
use Rattle.axi_link.specs.LinkWords.{head_of}
use Rattle.node_core.specs.Rows.{put_of, take_of}
use Rattle.plain_lists.proofs.KeyLemmas.{of_key-cons, of_key-map, of_key-skip}
use Rattle.axi_trail.proofs.HeldFacts.{count_of-replies, held-answer, held-request, once-other, once-own}
use Rattle.plain_lists.proofs.PrefixLemmas.{prefix_flat_map, prefix_of_key, prefix_append, prefix_trans}
use Rattle.axi_trail.proofs.StepFacts.{answers_within}
use Rattle.axi_trail.proofs.WaitingFacts.{advanced-last, advanced-more}
use Rattle.plain_lists.specs.Prefixes.{IsPrefix}
use Rattle.axi_trail.specs.Trail.{beat_taken}
use Rattle.axi_trail.specs.Waiting.{Waiting, advanced, answered_once, fresh, held}
use Rattle.axi_trail.specs.Words.{Asked, InOrderOfId, Reply, burst_asked, held_asked, id_of_asked, id_of_reply, id_of_waiting, len_of_asked, marks_of, next_reply}
use Rattle.plain_lists.specs.Keys.{of_key}
use Rattle.burst_cuts.proofs.ShownLemmas.{asked-of_cut, cut_all, same-asked}
use Rattle.burst_cuts.proofs.CutLemmas.{map-append}
use Rattle.burst_cuts.proofs.HeldLemmas.{IsWithin, held-within, part-is_of_oldest}
use Rattle.burst_cuts.specs.CutLaws.{IsPartOfOldest, single_parts, single_reply}
use Rattle.burst_cuts.specs.Parts.{part_of, parts_of}
use Rattle.split_node.specs.SplitTable.{AddressRow, added, address_row, oldest_entry, less, misses_more, new_entry, one_less, work_after}
use Rattle.split_node.specs.SplitState.{IsInWork}
use Rattle.split_node.specs.declared.burst.InWork.{InWork}
use Rattle.split_node.specs.declared.burst.SplitEntry.{SplitEntry}
use Rattle.split_node.specs.SplitTrail.{Missing, SplitsRequests, missing_entry, left_of_work, missing_request}

-- what moves as a list
abbrev pub listed : {X : Type 0} → Option X → List X
listed None = []
listed (Some x) = x ∷ []

pub put-listed : {X : Type 0} (link : ℕ) (o : Option X) → appended link (put_of link o) ≡ listed o
put-listed link None = refl
put-listed {X} link (Some x) = ap (λ (b : Bool). cond b (x ∷ []) []) (eq-eqb link link refl)

-- Addresses.

-- what is left of a burst after one more part
left-after : (a : Addr) (n : ℕ) → n ≤ a.len → map (part_of a) (range_with_len n (suc a.len - n)) ≡ part_of a n ∷ left_of_work (work_after a n)
left-after a n within = elim (cases_lt n a.len) [
  | inr last ↦
      let one : suc a.len - n ≡ 1 = omega (arith, within, last) in
      ap (λ (k : ℕ). map (part_of a) (range_with_len n k)) one ∙ ap (λ (w : Option InWork). part_of a n ∷ left_of_work w) (sym (ap (λ (b : Bool). cond b (Some (record { request = a; next = suc n })) None) (le-ltb n a.len last)))
  | inl more ↦
      let some : suc a.len - n ≡ suc (suc a.len - suc n) = omega (arith, more) in
      let next : n + 1 ≡ suc n = omega arith in
      ap (λ (k : ℕ). map (part_of a) (range_with_len n k)) some ∙ ap (λ (k : ℕ). part_of a n ∷ map (part_of a) (range_with_len k (suc a.len - suc n))) next
      ∙ ap (λ (w : Option InWork). part_of a n ∷ left_of_work w) (sym (ap (λ (b : Bool). cond b (Some (record { request = a; next = suc n })) None) (lt-ltb n a.len more)))
]

pub parts-step : (upper lower : List Addr) (room more : Bool) (head : Option Addr) (work : Option InWork) → IfSome work IsInWork → cut_all upper ≡ lower ++ left_of_work work →
    cut_all (upper ++ listed (address_row room more head work).taken) ≡ (lower ++ listed (address_row room more head work).put) ++ left_of_work (address_row room more head work).work
parts-step upper lower false more head work in_work cuts = ap cut_all (append-nil upper) ∙ cuts ∙ ap (λ (l : List Addr). l ++ left_of_work work) (sym (append-nil lower))
parts-step upper lower true more head (Some w) in_work cuts =
    ap cut_all (append-nil upper) ∙ cuts ∙ ap (λ (l : List Addr). lower ++ l) (left-after w.request w.next in_work.next)
    ∙ sym (append_assoc lower (part_of w.request w.next ∷ []) (left_of_work (work_after w.request w.next)))
parts-step upper lower true false head None in_work cuts = ap cut_all (append-nil upper) ∙ cuts ∙ ap (λ (l : List Addr). l ++ []) (sym (append-nil lower))
parts-step upper lower true true None None in_work cuts = ap cut_all (append-nil upper) ∙ cuts ∙ ap (λ (l : List Addr). l ++ []) (sym (append-nil lower))
parts-step upper lower true true (Some a) None in_work cuts =
    let all : suc a.len ≡ suc a.len - 0 = omega arith in
    flat_map-append parts_of upper (a ∷ [])
    ∙ ap₂ (λ (x y : List Addr). x ++ y) (cuts ∙ append-nil lower) (append-nil (parts_of a) ∙ ap (λ (k : ℕ). map (part_of a) (range_with_len 0 k)) all ∙ left-after a 0 (omega arith))
    ∙ sym (append_assoc lower (part_of a 0 ∷ []) (left_of_work (work_after a 0)))

-- one more request
pub order-more : (asked more : List Asked) (beats : List Reply) → InOrderOfId asked beats → InOrderOfId (asked ++ more) beats
order-more asked more beats order id = prefix_trans (order id) (prefix_flat_map marks_of (prefix_of_key id_of_asked id (prefix_append asked more)))

pub held-more : (upper : List Addr) (taken : Option Addr) (entries : List SplitEntry) (beats : List Reply) → InOrderOfId (map burst_asked upper) beats →
    map missing_entry entries ≡ map missing_request (held_asked (map burst_asked upper) beats) →
    map missing_entry (entries ++ added taken) ≡ map missing_request (held_asked (map burst_asked (upper ++ listed taken)) beats)
held-more upper None entries beats order same = ap (map missing_entry) (append-nil entries) ∙ same ∙ ap (λ (l : List Addr). map missing_request (held_asked (map burst_asked l) beats)) (sym (append-nil upper))
held-more upper (Some a) entries beats order same =
    let asked = map burst_asked upper in
    let one : held_asked (asked ++ burst_asked a ∷ []) beats ≡ held_asked asked beats ++ fresh (burst_asked a) ∷ [] =
    held-request len_of_asked id_of_asked asked (map id_of_reply beats) (burst_asked a) (answers_within asked beats order a.id) in
    let all : suc a.len ≡ suc a.len - 0 = omega arith in
    map-append missing_entry entries (new_entry a ∷ [])
    ∙ ap₂ (λ (x y : List Missing). x ++ y) same (ap (λ (n : ℕ). record { id = a.id; missing = n } ∷ []) all)
    ∙ sym (map-append missing_request (held_asked asked beats) (fresh (burst_asked a) ∷ []))
    ∙ ap (map missing_request) (sym one)
    ∙ ap (λ (l : List Asked). map missing_request (held_asked l beats)) (sym (map-append burst_asked upper (a ∷ [])))

-- Answers.

pub same-view : (e : SplitEntry) (es : List SplitEntry) (w : Waiting Asked) (ws : List (Waiting Asked)) → missing_entry e ∷ map missing_entry es ≡ missing_request w ∷ map missing_request ws →
    (e.id ≡ w.request.id) × (e.missing ≡ suc w.request.len - w.done) × (map missing_entry es ≡ map missing_request ws)
same-view e es w ws same =
    let head : missing_entry e ≡ missing_request w = cc in
    let tail : map missing_entry es ≡ map missing_request ws = cc in
    (ap (λ (v : Missing). v.id) head, ap (λ (v : Missing). v.missing) head, tail)

-- an entry less, as a request is advanced
abbrev either : Bool → Bool → ℕ → Resp → SplitEntry → List SplitEntry → List SplitEntry
either own more id response e es = cond own (cond more (less e response ∷ es) es) (e ∷ one_less id response es)

pub one-less-other : (id : ℕ) (response : Resp) (e : SplitEntry) (es : List SplitEntry) → e.id ≢ id → one_less id response (e ∷ es) ≡ e ∷ one_less id response es
one-less-other id response e es other = ap (λ (b : Bool). either b (misses_more e) id response e es) (ne_eqb e.id id other)

pub one-less-last : (id : ℕ) (response : Resp) (e : SplitEntry) (es : List SplitEntry) → e.id ≡ id → e.missing ≤ 1 → one_less id response (e ∷ es) ≡ es
one-less-last id response e es own last =
    ap (λ (b : Bool). either b (misses_more e) id response e es) (eq-eqb e.id id own) ∙ ap (λ (b : Bool). either true b id response e es) (le-ltb 1 e.missing last)

pub one-less-more : (id : ℕ) (response : Resp) (e : SplitEntry) (es : List SplitEntry) → e.id ≡ id → 1 < e.missing → one_less id response (e ∷ es) ≡ less e response ∷ es
one-less-more id response e es own more =
    ap (λ (b : Bool). either b (misses_more e) id response e es) (eq-eqb e.id id own) ∙ ap (λ (b : Bool). either true b id response e es) (lt-ltb 1 e.missing more)

abbrev pub once : ℕ → List (Waiting Asked) → List (Waiting Asked)
once id ws = answered_once len_of_asked id_of_asked id ws

pub views-once : (id : ℕ) (resp : Resp) (entries : List SplitEntry) (ws : List (Waiting Asked)) → All IsWithin ws → map missing_entry entries ≡ map missing_request ws →
    map missing_entry (one_less id resp entries) ≡ map missing_request (once id ws)
views-once id resp [] [] within same = refl
views-once id resp [] (w ∷ ws) within same = absurd (cc)
views-once id resp (e ∷ es) [] within same = absurd (cc)
views-once id resp (e ∷ es) (w ∷ ws) within same =
    let both = same-view e es w ws same in
    let here : w.done ≤ w.request.len = All-head IsWithin w ws within in
    elim (cases_eq e.id id) [
      | inr other ↦
          let apart : w.request.id ≢ id = λ is. other (both.0 ∙ is) in
          ap (map missing_entry) (one-less-other id resp e es other)
          ∙ ap₂ (λ (v : Missing) (l : List Missing). v ∷ l) (ap₂ (λ (i m : ℕ). record { id = i; missing = m }) both.0 both.1) (views-once id resp es ws (All-tail IsWithin w ws within) both.2)
          ∙ ap (map missing_request) (sym (once-other len_of_asked id_of_asked id w ws apart))
      | inl own ↦
          let mine : w.request.id ≡ id = sym both.0 ∙ own in
          elim (cases_lt 1 e.missing) [
            | inr last ↦
                let done : w.done ≡ w.request.len = omega (arith, here, both.1, last) in
                ap (map missing_entry) (one-less-last id resp e es own last) ∙ both.2 ∙ ap (map missing_request) (sym (once-own len_of_asked id_of_asked id w ws mine ∙ advanced-last len_of_asked w ws done))
            | inl more ↦
                let open_ : w.done ≢ w.request.len = λ done. absurd (omega (arith, both.1, done, more)) in
                let fewer : e.missing - 1 ≡ suc w.request.len - suc w.done = omega (arith, both.1) in
                ap (map missing_entry) (one-less-more id resp e es own more)
                ∙ ap₂ (λ (v : Missing) (l : List Missing). v ∷ l) (ap₂ (λ (i m : ℕ). record { id = i; missing = m }) both.0 fewer) both.2
                ∙ ap (map missing_request) (sym (once-own len_of_asked id_of_asked id w ws mine ∙ advanced-more len_of_asked w ws open_))
          ]
    ]

-- the oldest entry of an ID is that of the oldest request
pub record HasEntry (id : ℕ) (entries : List SplitEntry) (w : Waiting Asked) : Type 0 where
  pub entry : SplitEntry
  pub found : oldest_entry id entries ≡ Some entry
  pub missing : entry.missing ≡ suc w.request.len - w.done

pub entry-found : (id : ℕ) (entries : List SplitEntry) (ws : List (Waiting Asked)) (w : Waiting Asked) (others : List (Waiting Asked)) → map missing_entry entries ≡ map missing_request ws →
    of_key id_of_waiting id ws ≡ w ∷ others → HasEntry id entries w
entry-found id [] [] w others same first = absurd (cc)
entry-found id [] (v ∷ vs) w others same first = absurd (cc)
entry-found id (e ∷ es) [] w others same first = absurd (cc)
entry-found id (e ∷ es) (v ∷ vs) w others same first =
    let both = same-view e es v vs same in
    elim (cases_eq e.id id) [
      | inl own ↦
          let heads : v ∷ of_key id_of_waiting id vs ≡ w ∷ others = sym (of_key-cons id_of_waiting id v vs (sym both.0 ∙ own)) ∙ first in
          let is : v ≡ w = cc in
          record { entry = e; found = ap (λ (b : Bool). cond b (Some e) (oldest_entry id es)) (eq-eqb e.id id own); missing = both.1 ∙ ap (λ (x : Waiting Asked). suc x.request.len - x.done) is }
      | inr other ↦
          let rest = entry-found id es vs w others both.2 (sym (of_key-skip id_of_waiting id v vs (λ is. other (both.0 ∙ is))) ∙ first) in
          record { entry = rest.entry; found = ap (λ (b : Bool). cond b (Some e) (oldest_entry id es)) (ne_eqb e.id id other) ∙ rest.found; missing = rest.missing }
    ]

-- an answer to a part
pub record StepsAnswer (work : Option InWork) (entries : List SplitEntry) (upper lower : List Addr) (beats : List Reply) (p : Reply) : Type 0 where
  pub oldest : IsPartOfOldest (map burst_asked upper) beats p
  pub has : HasEntry p.id entries oldest.waiting
  pub keeps : (resp : Resp) → SplitsRequests work (one_less p.id resp entries) upper lower (beats ++ next_reply oldest.waiting ∷ [])

pub answer-step : (work : Option InWork) (entries : List SplitEntry) (upper lower : List Addr) (beats : List Reply) (p : Reply) → SplitsRequests work entries upper lower beats →
    InOrderOfId (map burst_asked lower) (map single_reply beats ++ p ∷ []) → StepsAnswer work entries upper lower beats p
answer-step work entries upper lower beats p keeps order =
    let asked = map burst_asked upper in
    let cuts : flat_map single_parts asked ≡ map burst_asked lower ++ map burst_asked (left_of_work work) =
    sym (asked-of_cut upper) ∙ ap (map burst_asked) keeps.parts ∙ map-append burst_asked lower (left_of_work work) in
    let oldest = part-is_of_oldest asked (map burst_asked lower) (map burst_asked (left_of_work work)) beats p cuts keeps.order order in
    let same_id : p.id ≡ (next_reply oldest.waiting).id = ap id_of_reply oldest.is in
    let held_next : held_asked asked (beats ++ next_reply oldest.waiting ∷ []) ≡ once p.id (held_asked asked beats) =
    ap (held len_of_asked id_of_asked asked) (map-append id_of_reply beats (next_reply oldest.waiting ∷ []))
    ∙ held-answer len_of_asked id_of_asked asked (map id_of_reply beats) oldest.waiting.request.id ∙ ap (λ (i : ℕ). once i (held_asked asked beats)) (sym same_id) in
    record {
      oldest = oldest;
      has = entry-found p.id entries (held_asked asked beats) oldest.waiting oldest.others keeps.held oldest.oldest;
      keeps = λ resp. record {
        parts = keeps.parts;
        order = oldest.order;
        held = views-once p.id resp entries (held_asked asked beats) (held-within asked (map id_of_reply beats)) keeps.held ∙ ap (map missing_request) (sym held_next);
      };
    }

-- and an address
pub address-step : (room more : Bool) (head : Option Addr) (work : Option InWork) (entries : List SplitEntry) (upper lower : List Addr) (beats : List Reply) → IfSome work IsInWork →
    SplitsRequests work entries upper lower beats →
    SplitsRequests (address_row room more head work).work (entries ++ added (address_row room more head work).taken) (upper ++ listed (address_row room more head work).taken)
    (lower ++ listed (address_row room more head work).put) beats
address-step room more head work entries upper lower beats in_work keeps =
    let row = address_row room more head work in
    record {
      parts = parts-step upper lower room more head work in_work keeps.parts;
      order = subst (λ (asked : List Asked). InOrderOfId asked beats) (sym (map-append burst_asked upper (listed row.taken))) (order-more (map burst_asked upper) (map burst_asked (listed row.taken)) beats keeps.order);
      held = held-more upper row.taken entries beats keeps.order keeps.held;
    }
