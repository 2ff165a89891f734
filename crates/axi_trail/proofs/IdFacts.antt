-- The IDs of requests and of their answers.
use Rattle.std.proofs.Common.{◌≡◌, ◌+◌, ◌-◌, ◌==◌, ℕ, zero, suc, Bool, true, false, cond, List, [], ◌∷◌, ◌++◌, length, map, take, refl, sym, ◌∙◌, ap, ap₂, subst, inl, inr, arith, eq-eqb, All, Contains}
use Rattle.std.proofs.lemmas.Bool.{cases_eq, cases_lt, ne_eqb}
use Rattle.std.proofs.lemmas.List.{length-map, map-append}
use Rattle.std.proofs.lemmas.List.Elements.{All-append, All-cons, All-contains_itself, All-filter, All-head, All-map, All-nil, All-tail}
use Rattle.std.proofs.lemmas.Simd.{map-map}
use Rattle.axi_beats.specs.declared.beat.Addr.{Addr}
use Rattle.axi_trail.specs.IdLaws.{AnsweredOfOtherIds, AnswersHaveRequests, HeldOfOneId, HeldOfOtherIds, KeepsApart, NoneHeldByCount, OrderIsOrderOfId, OrderOfOtherIds, asked_as, reply_as, response_due}
use Rattle.axi_trail.specs.Waiting.{Waiting, advanced, answered_by, answered_once, fresh, held, pending, waiting_shown}
use Rattle.axi_trail.specs.Words.{Asked, InOrderOfId, Mark, Reply, beats_due, burst_marks, held_asked, id_of_asked, id_of_reply, id_of_waiting, len_of_asked, mark_of_reply, marks, marks_of, pending_asked, write_asked}
use Rattle.axi_trail.proofs.HeldFacts.{held-of_key, once-own}
use Rattle.axi_trail.proofs.SlackFacts.{in_order_goes_up}
use Rattle.axi_trail.proofs.StepFacts.{held-shown}
use Rattle.axi_trail.proofs.WaitingFacts.{pending-beat, pending-none, pending-past, pending-within, pending-zero}
use Rattle.plain_lists.specs.Keys.{of_key}
use Rattle.plain_lists.specs.Prefixes.{IsPrefix}
use Rattle.plain_lists.proofs.CutLemmas.{all-unmap}
use Rattle.plain_lists.proofs.KeyLemmas.{find_key, of_key-cons, of_key-map}
use Rattle.plain_lists.proofs.PrefixLemmas.{All_front, prefix_first, prefix_itself, prefix_map, prefix_nil, prefix_of_same, prefix_same}
use Rattle.plain_lists.proofs.SelectedLemmas.{all-by_way, of_key-has}

-- ---- an answer that comes in order has its request

module _ (asked : List Asked) (id : ℕ) where
  -- a mark of one of the requests of this ID
  abbrev Has : Mark → Type 0
  Has m = (a : Asked) × Contains asked a × (a.id ≡ id) × (a.number ≡ m.number)

  abbrev IsOne : Asked → Type 0
  IsOne a = Contains asked a × (a.id ≡ id)

  of-id : All IsOne (of_key id_of_asked id asked)
  of-id = λ k d within. (All-filter _ (Contains asked) asked (All-contains_itself asked) k d within, of_key-has id_of_asked id asked k d within)

  burst-has : (a : Asked) → IsOne a → (len : ℕ) → All Has (burst_marks a.number len)
  burst-has a is zero = All-cons Has (record { number = a.number; last = true }) [] (a, is.0, is.1, refl) (All-nil Has)
  burst-has a is (suc len) = All-cons Has (record { number = a.number; last = false }) (burst_marks a.number len) (a, is.0, is.1, refl) (burst-has a is len)

  marks-have : (xs : List Asked) → All IsOne xs → All Has (marks xs)
  marks-have [] all = All-nil Has
  marks-have (x ∷ xs) all = All-append Has (marks_of x) (marks xs) (burst-has x (All-head IsOne x xs all) x.len) (marks-have xs (All-tail IsOne x xs all))

  own-have : (replies : List Reply) → InOrderOfId asked replies → All (λ (p : Reply). Has (mark_of_reply p)) (of_key id_of_reply id replies)
  own-have replies order = all-unmap Has mark_of_reply (of_key id_of_reply id replies) (All_front Has (order id) (marks-have (of_key id_of_asked id asked) of-id))

pub answers_have_requests : AnswersHaveRequests
answers_have_requests asked replies order =
    all-by_way (λ (p : Reply). (a : Asked) × Contains asked a × (a.id ≡ p.id) × (a.number ≡ p.number)) id_of_reply (λ id. id) replies (λ id k d within.
    let has = own-have asked id replies order k d within in
    (has.0, has.1, has.2 ∙ sym (of_key-has id_of_reply id replies k d within), has.3))

never-none : {X : Type 0} (x : X) (xs : List X) → x ∷ xs ≡ [] → ⊥
never-none x xs e = absurd (cc)

pub none_held_by_count : NoneHeldByCount
none_held_by_count asked replies all = go (held_asked asked replies) refl
  where
    go : (ws : List (Waiting Asked)) → held_asked asked replies ≡ ws → held_asked asked replies ≡ []
    go [] is = is
    go (w ∷ ws) is =
        let id = w.request.id in
        let counted : length (of_key (λ k. k) w.request.id (map id_of_reply replies)) ≡ length (of_key id_of_reply w.request.id replies) =
        ap length (of_key-map (λ k. k) id_of_reply w.request.id replies) ∙ length-map (of_key id_of_reply w.request.id replies) id_of_reply in
        let none : of_key id_of_waiting w.request.id (held_asked asked replies) ≡ [] =
        held-of_key len_of_asked id_of_asked asked (map id_of_reply replies) w.request.id
        ∙ pending-none len_of_asked (length (of_key (λ k. k) w.request.id (map id_of_reply replies))) (of_key id_of_asked w.request.id asked) (omega (arith, all w.request.id, counted)) in
        absurd (never-none w (of_key id_of_waiting w.request.id ws) (sym (of_key-cons id_of_waiting w.request.id w ws refl) ∙ ap (of_key id_of_waiting w.request.id) (sym is) ∙ none))

-- ---- one ID

module _ {X : Type 0} (len_of id_of : X → ℕ) (id : ℕ) where
  -- what holds of all requests holds of those that are pending
  pending-all : (P : X → Type 0) (count : ℕ) (xs : List X) → All P xs → All (λ (w : Waiting X). P w.request) (pending len_of count xs)
  pending-all P count [] all = All-nil (λ (w : Waiting X). P w.request)
  pending-all P count (x ∷ xs) all = elim (cases_lt (len_of x) count) [
    | inl lt ↦ subst (λ (ws : List (Waiting X)). All (λ w. P w.request) ws) (sym (pending-past len_of count x xs lt)) (pending-all P (count - suc (len_of x)) xs (All-tail P x xs all))
    | inr ge ↦ subst (λ (ws : List (Waiting X)). All (λ w. P w.request) ws) (sym (pending-within len_of count x xs ge))
        (All-cons (λ (w : Waiting X). P w.request) (record { request = x; done = count }) (pending len_of 0 xs) (All-head P x xs all) (pending-all P 0 xs (All-tail P x xs all)))
  ]

  once-all : (ws : List (Waiting X)) → All (λ (w : Waiting X). id_of w.request ≡ id) ws → answered_once len_of id_of id ws ≡ advanced len_of ws
  once-all [] all = refl
  once-all (w ∷ ws) all = once-own len_of id_of id w ws (All-head (λ (v : Waiting X). id_of v.request ≡ id) w ws all)

  pub held-one : (xs : List X) → All (λ x. id_of x ≡ id) xs → (count : ℕ) (ids : List ℕ) → All (λ i. i ≡ id) ids →
      answered_by len_of id_of (pending len_of count xs) ids ≡ pending len_of (count + length ids) xs
  held-one xs all count [] own = ap (λ n. pending len_of n xs) (omega arith)
  held-one xs all count (i ∷ ids) own =
      let first : i ≡ id = All-head (λ (j : ℕ). j ≡ id) i ids own in
      let next : answered_once len_of id_of i (pending len_of count xs) ≡ pending len_of (suc count) xs =
      ap (λ (j : ℕ). answered_once len_of id_of j (pending len_of count xs)) first ∙ once-all (pending len_of count xs) (pending-all (λ x. id_of x ≡ id) count xs all)
      ∙ sym (pending-beat len_of count xs) in
      ap (λ (ws : List (Waiting X)). answered_by len_of id_of ws ids) next ∙ held-one xs all (suc count) ids (All-tail (λ (j : ℕ). j ≡ id) i ids own)
      ∙ ap (λ n. pending len_of n xs) (omega arith)

pub held_of_one_id : HeldOfOneId
held_of_one_id id asked replies all own =
    ap (λ (ws : List (Waiting Asked)). answered_by len_of_asked id_of_asked ws (map id_of_reply replies)) (sym (pending-zero len_of_asked asked))
    ∙ held-one len_of_asked id_of_asked id asked all 0 (map id_of_reply replies) (All-map (λ (i : ℕ). i ≡ id) id_of_reply replies own)
    ∙ ap (λ n. pending_asked n asked) (omega (arith, length-map replies id_of_reply))

marks-due : (xs : List Addr) → map mark_of_reply (map response_due xs) ≡ marks (map write_asked xs)
marks-due [] = refl
marks-due (x ∷ xs) = ap (λ t. record { number = x.tag.txn; last = true } ∷ t) (marks-due xs)

all-answered : (xs : List Addr) → InOrderOfId (map write_asked xs) (map response_due xs)
all-answered xs id =
    let same : map mark_of_reply (of_key id_of_reply id (map response_due xs)) ≡ marks (of_key id_of_asked id (map write_asked xs)) =
    ap (map mark_of_reply) (of_key-map id_of_reply response_due id xs) ∙ marks-due (of_key (λ (a : Addr). a.id) id xs) ∙ sym (ap marks (of_key-map id_of_asked write_asked id xs)) in
    prefix_of_same (prefix_itself (map mark_of_reply (of_key id_of_reply id (map response_due xs)))) same

pub order_is_order_of_id : OrderIsOrderOfId
order_is_order_of_id n addresses =
    in_order_goes_up (prefix_map write_asked (prefix_first n addresses)) (prefix_itself (map response_due (take n addresses))) (all-answered (take n addresses))

-- ---- other IDs

module _ (id_as : ℕ → ℕ) (apart : KeepsApart id_as) where
  same-test : (x y : ℕ) → (id_as x == id_as y) ≡ (x == y)
  same-test x y = elim (cases_eq x y) [
    | inl same ↦ eq-eqb (id_as x) (id_as y) (ap id_as same) ∙ sym (eq-eqb x y same)
    | inr other ↦ ne_eqb (id_as x) (id_as y) (λ same. other (apart x y same)) ∙ sym (ne_eqb x y other)
  ]

  -- the entries of an ID
  key-as : {X : Type 0} (id_of : X → ℕ) (id : ℕ) (xs : List X) → of_key (λ x. id_as (id_of x)) (id_as id) xs ≡ of_key id_of id xs
  key-as id_of id [] = refl
  key-as {X} id_of id (x ∷ xs) = ap₂ (λ (b : Bool) (ys : List X). cond b (x ∷ ys) ys) (same-test (id_of x) id) (key-as id_of id xs)

  asked-as : (id : ℕ) (asked : List Asked) → of_key id_of_asked (id_as id) (map (asked_as id_as) asked) ≡ map (asked_as id_as) (of_key id_of_asked id asked)
  asked-as id asked = of_key-map id_of_asked (asked_as id_as) (id_as id) asked ∙ ap (map (asked_as id_as)) (key-as id_of_asked id asked)

  replies-as : (id : ℕ) (replies : List Reply) → of_key id_of_reply (id_as id) (map (reply_as id_as) replies) ≡ map (reply_as id_as) (of_key id_of_reply id replies)
  replies-as id replies = of_key-map id_of_reply (reply_as id_as) (id_as id) replies ∙ ap (map (reply_as id_as)) (key-as id_of_reply id replies)

  -- marks and beats don't tell the ID
  marks-as : (xs : List Asked) → marks (map (asked_as id_as) xs) ≡ marks xs
  marks-as [] = refl
  marks-as (x ∷ xs) = ap (λ (ms : List Mark). marks_of x ++ ms) (marks-as xs)

  beats-as : (xs : List Asked) → beats_due (map (asked_as id_as) xs) ≡ beats_due xs
  beats-as [] = refl
  beats-as (x ∷ xs) = ap (λ n. suc x.len + n) (beats-as xs)

  marks-asked_as : (id : ℕ) (asked : List Asked) → marks (of_key id_of_asked (id_as id) (map (asked_as id_as) asked)) ≡ marks (of_key id_of_asked id asked)
  marks-asked_as id asked = ap marks (asked-as id asked) ∙ marks-as (of_key id_of_asked id asked)

  marks-replied_as : (id : ℕ) (replies : List Reply) → map mark_of_reply (of_key id_of_reply (id_as id) (map (reply_as id_as) replies)) ≡ map mark_of_reply (of_key id_of_reply id replies)
  marks-replied_as id replies = ap (map mark_of_reply) (replies-as id replies) ∙ map-map mark_of_reply (reply_as id_as) (of_key id_of_reply id replies)

  order-there : (asked : List Asked) (replies : List Reply) → InOrderOfId asked replies → InOrderOfId (map (asked_as id_as) asked) (map (reply_as id_as) replies)
  order-there asked replies order other = elim (find_key (λ (p : Reply). id_as p.id) other replies) [
    | inl none ↦ prefix_same (ap (map mark_of_reply) (of_key-map id_of_reply (reply_as id_as) other replies ∙ ap (map (reply_as id_as)) none)) (prefix_nil (marks (of_key id_of_asked other (map (asked_as id_as) asked))))
    | inr found ↦
        let p : Reply = found.1 in
        let own : id_as p.id ≡ other = found.4 in
        subst (λ (i : ℕ). IsPrefix (map mark_of_reply (of_key id_of_reply i (map (reply_as id_as) replies))) (marks (of_key id_of_asked i (map (asked_as id_as) asked)))) own
        (prefix_of_same (prefix_same (marks-replied_as p.id replies) (order p.id)) (sym (marks-asked_as p.id asked)))
  ]

  order-here : (asked : List Asked) (replies : List Reply) → InOrderOfId (map (asked_as id_as) asked) (map (reply_as id_as) replies) → InOrderOfId asked replies
  order-here asked replies order id = prefix_of_same (prefix_same (sym (marks-replied_as id replies)) (order (id_as id))) (marks-asked_as id asked)

  due-as : (before : List Asked) (a : Asked) → beats_due (of_key id_of_asked (id_as a.id) (map (asked_as id_as) before ++ asked_as id_as a ∷ [])) ≡ beats_due (of_key id_of_asked a.id (before ++ a ∷ []))
  due-as before a =
      ap (λ (xs : List Asked). beats_due (of_key id_of_asked (id_as a.id) xs)) (sym (map-append (asked_as id_as) before (a ∷ []))) ∙ ap beats_due (asked-as a.id (before ++ a ∷ []))
      ∙ beats-as (of_key id_of_asked a.id (before ++ a ∷ []))

  came-as : (id : ℕ) (replies : List Reply) → length (of_key id_of_reply (id_as id) (map (reply_as id_as) replies)) ≡ length (of_key id_of_reply id replies)
  came-as id replies = ap length (replies-as id replies) ∙ length-map (of_key id_of_reply id replies) (reply_as id_as)

  -- held requests
  once-as : (id : ℕ) (ws : List (Waiting Asked)) → answered_once len_of_asked (λ (a : Asked). id_as a.id) (id_as id) ws ≡ answered_once len_of_asked id_of_asked id ws
  once-as id [] = refl
  once-as id (w ∷ ws) = ap₂ (λ (b : Bool) (t : List (Waiting Asked)). cond b (advanced len_of_asked (w ∷ ws)) (w ∷ t)) (same-test w.request.id id) (once-as id ws)

  by-as : (ids : List ℕ) (ws : List (Waiting Asked)) → answered_by len_of_asked (λ (a : Asked). id_as a.id) ws (map id_as ids) ≡ answered_by len_of_asked id_of_asked ws ids
  by-as [] ws = refl
  by-as (id ∷ ids) ws =
      ap (λ (t : List (Waiting Asked)). answered_by len_of_asked (λ (a : Asked). id_as a.id) t (map id_as ids)) (once-as id ws) ∙ by-as ids (answered_once len_of_asked id_of_asked id ws)

  held-as : (asked : List Asked) (replies : List Reply) → held_asked (map (asked_as id_as) asked) (map (reply_as id_as) replies) ≡ map (waiting_shown (asked_as id_as)) (held_asked asked replies)
  held-as asked replies =
      let ids : map id_of_reply (map (reply_as id_as) replies) ≡ map id_as (map id_of_reply replies) = map-map id_of_reply (reply_as id_as) replies ∙ sym (map-map id_as id_of_reply replies) in
      ap (held len_of_asked id_of_asked (map (asked_as id_as) asked)) ids
      ∙ held-shown (asked_as id_as) len_of_asked id_of_asked asked (map id_as (map id_of_reply replies))
      ∙ ap (map (waiting_shown (asked_as id_as))) (by-as (map id_of_reply replies) (map fresh asked))

pub order_of_other_ids : OrderOfOtherIds
order_of_other_ids id_as apart asked replies = (order-there id_as apart asked replies, order-here id_as apart asked replies)

pub answered_of_other_ids : AnsweredOfOtherIds
answered_of_other_ids id_as apart before a replies =
    let due : beats_due (of_key id_of_asked (id_as a.id) (map (asked_as id_as) before ++ asked_as id_as a ∷ [])) ≡ beats_due (of_key id_of_asked a.id (before ++ a ∷ [])) = due-as id_as apart before a in
    let came : length (of_key id_of_reply (id_as a.id) (map (reply_as id_as) replies)) ≡ length (of_key id_of_reply a.id replies) = came-as id_as apart a.id replies in
    ((λ answered. omega (arith, answered, due, came)), (λ answered. omega (arith, answered, due, came)))

pub held_of_other_ids : HeldOfOtherIds
held_of_other_ids id_as apart asked replies = held-as id_as apart asked replies
