-- The issued transactions of a direction that are held.
use Rattle.std.proofs.Common.{◌≡◌, ℕ, ◌+◌, ◌≤◌, ◌==◌, suc, Bool, true, false, cond, List, [], ◌∷◌, ◌++◌, Some, All, map, refl, sym, ◌∙◌, ap, subst, arith}
use Rattle.std.specs.Prelude.{find}
use Rattle.std.proofs.lemmas.List.{map-append}
use Rattle.std.proofs.lemmas.List.Elements.{All-cons, All-filter, All-head, All-map, All-tail}
use Rattle.std.proofs.lemmas.Option.{same_Some}
use Rattle.axi_beats.specs.declared.beat.Addr.{Addr}
use Rattle.axi_trail.specs.Waiting.{Waiting, fresh, waiting_request, waiting_shown, beats_by, advanced, answered_once, answered_by, held}
use Rattle.axi_trail.specs.Words.{Asked, Reply, InOrderOfId, held_asked, beats_due, id_of_asked, id_of_reply, id_of_waiting, len_of_asked, next_reply}
use Rattle.axi_trail.proofs.HeldFacts.{held-answer, held-request}
use Rattle.axi_trail.proofs.StepFacts.{answer_keeps_order, answers_within, held-shown, later_requests_are_held, next_answer}
use Rattle.manager_node.specs.Beats.{item_request}
use Rattle.manager_node.specs.ManagerState.{entry_of}
use Rattle.manager_node.specs.Script.{ScriptItem}
use Rattle.manager_node.specs.declared.entry.Entry.{Entry}
use Rattle.plain_lists.specs.Keys.{of_key, count_of, without_oldest}
use Rattle.plain_lists.proofs.KeyLemmas.{of_key-append, of_key-map}

abbrev pub id_of_item : ℕ × ScriptItem → ℕ
id_of_item p = p.1.txn.request.id

abbrev pub id_held : Waiting (ℕ × ScriptItem) → ℕ
id_held w = id_of_item w.request

-- the entries of those that are held
abbrev pub entries_held : List (Waiting (ℕ × ScriptItem)) → List Entry
entries_held ws = map entry_of (map waiting_request ws)

-- an entry that is found is that of the first held one of its ID
pub find-held : (id : ℕ) (ws : List (Waiting (ℕ × ScriptItem))) (e : Entry) → find (λ (entry : Entry). entry.id == id) (entries_held ws) ≡ Some e → (w : Waiting (ℕ × ScriptItem)) × (others : List (Waiting (ℕ × ScriptItem))) × (of_key id_held id ws ≡ w ∷ others) × (entry_of w.request ≡ e)
find-held id [] e found = absurd (cc)
find-held id (v ∷ vs) e found =
    let go : (b : Bool) → cond b (Some (entry_of v.request)) (find (λ (entry : Entry). entry.id == id) (entries_held vs)) ≡ Some e →
    (w : Waiting (ℕ × ScriptItem)) × (others : List (Waiting (ℕ × ScriptItem))) × (cond b (v ∷ of_key id_held id vs) (of_key id_held id vs) ≡ w ∷ others) × (entry_of w.request ≡ e) =
    elim [
      | true ↦ λ here. (v, of_key id_held id vs, refl, same_Some (entry_of v.request) e here)
      | false ↦ λ there. find-held id vs e there
    ]
    in go (id_held v == id) found

module _ (len_of : Addr → ℕ) where
  -- one direction: how many answer beats come after the first one
  abbrev pub asked_by : ℕ × ScriptItem → Asked
  asked_by p = record { number = p.1.txn.number; id = p.1.txn.request.id; len = len_of (item_request p.1) }

  abbrev pub single_len : ℕ × ScriptItem → ℕ
  single_len p = len_of (item_request p.1)

  -- those that are held
  abbrev pub holding : List (ℕ × ScriptItem) → List ℕ → List (Waiting (ℕ × ScriptItem))
  holding items ids = held single_len id_of_item items ids

  -- after an answer the oldest one of its ID leaves, if it was the last one
  once-entries : (id : ℕ) (ws : List (Waiting (ℕ × ScriptItem))) (w : Waiting (ℕ × ScriptItem)) (others : List (Waiting (ℕ × ScriptItem))) → of_key id_held id ws ≡ w ∷ others →
      entries_held (answered_once single_len id_of_item id ws) ≡ cond (w.done == single_len w.request) (without_oldest (λ (entry : Entry). entry.id) id (entries_held ws)) (entries_held ws)
  once-entries id [] w others first = absurd (cc)
  once-entries id (v ∷ vs) w others first =
      let one : (c : Bool) → entries_held (cond c vs (record { request = v.request; done = suc v.done } ∷ vs)) ≡ cond c (entries_held vs) (entry_of v.request ∷ entries_held vs) = elim [ true ↦ refl | false ↦ refl ]
      in let rest : (c : Bool) → entry_of v.request ∷ cond c (without_oldest (λ (entry : Entry). entry.id) id (entries_held vs)) (entries_held vs) ≡ cond c (entry_of v.request ∷ without_oldest (λ (entry : Entry). entry.id) id (entries_held vs)) (entry_of v.request ∷ entries_held vs) =
      elim [ true ↦ refl | false ↦ refl ]
      in let go : (b : Bool) → cond b (v ∷ of_key id_held id vs) (of_key id_held id vs) ≡ w ∷ others →
      entries_held (cond b (advanced single_len (v ∷ vs)) (v ∷ answered_once single_len id_of_item id vs)) ≡ cond (w.done == single_len w.request) (cond b (entries_held vs) (entry_of v.request ∷ without_oldest (λ (entry : Entry). entry.id) id (entries_held vs))) (entry_of v.request ∷ entries_held vs) =
      elim [
        | true ↦ λ here.
            let same : v ≡ w = cc
            in one (v.done == single_len v.request) ∙ ap (λ (x : Waiting (ℕ × ScriptItem)). cond (x.done == single_len x.request) (entries_held vs) (entry_of v.request ∷ entries_held vs)) same
        | false ↦ λ there. ap (λ (es : List Entry). entry_of v.request ∷ es) (once-entries id vs w others there) ∙ rest (w.done == single_len w.request)
      ]
      in go (id_held v == id) first

  pub held-entries : (items : List (ℕ × ScriptItem)) (ids : List ℕ) (id : ℕ) (w : Waiting (ℕ × ScriptItem)) (others : List (Waiting (ℕ × ScriptItem))) → of_key id_held id (holding items ids) ≡ w ∷ others →
      entries_held (holding items (ids ++ id ∷ [])) ≡ cond (w.done == single_len w.request) (without_oldest (λ (entry : Entry). entry.id) id (entries_held (holding items ids))) (entries_held (holding items ids))
  held-entries items ids id w others first = ap entries_held (held-answer single_len id_of_item items ids id) ∙ once-entries id (holding items ids) w others first

  -- one more request
  pub held-more : (items : List (ℕ × ScriptItem)) (ids : List ℕ) (p : ℕ × ScriptItem) → count_of (id_of_item p) ids ≤ beats_by single_len (of_key id_of_item (id_of_item p) items) → entries_held (holding (items ++ p ∷ []) ids) ≡ entries_held (holding items ids) ++ entry_of p ∷ []
  held-more items ids p few =
      ap entries_held (held-request single_len id_of_item items ids p few)
      ∙ ap (map entry_of) (map-append waiting_request (holding items ids) (fresh p ∷ []))
      ∙ map-append entry_of (map waiting_request (holding items ids)) (p ∷ [])

  -- what holds of all requests holds of those that are held
  module _ (P : ℕ × ScriptItem → Type 0) where
    advanced-has : (ws : List (Waiting (ℕ × ScriptItem))) → All (λ (w : Waiting (ℕ × ScriptItem)). P w.request) ws → All (λ (w : Waiting (ℕ × ScriptItem)). P w.request) (advanced single_len ws)
    advanced-has [] all = all
    advanced-has (w ∷ ws) all =
        let go : (b : Bool) → All (λ (v : Waiting (ℕ × ScriptItem)). P v.request) (cond b ws (record { request = w.request; done = suc w.done } ∷ ws)) =
        elim [
          | true ↦ All-tail (λ (v : Waiting (ℕ × ScriptItem)). P v.request) w ws all
          | false ↦ All-cons (λ (v : Waiting (ℕ × ScriptItem)). P v.request) (record { request = w.request; done = suc w.done }) ws (All-head (λ (v : Waiting (ℕ × ScriptItem)). P v.request) w ws all) (All-tail (λ (v : Waiting (ℕ × ScriptItem)). P v.request) w ws all)
        ]
        in go (w.done == single_len w.request)

    once-has : (id : ℕ) (ws : List (Waiting (ℕ × ScriptItem))) → All (λ (w : Waiting (ℕ × ScriptItem)). P w.request) ws → All (λ (w : Waiting (ℕ × ScriptItem)). P w.request) (answered_once single_len id_of_item id ws)
    once-has id [] all = all
    once-has id (w ∷ ws) all =
        let go : (b : Bool) → All (λ (v : Waiting (ℕ × ScriptItem)). P v.request) (cond b (advanced single_len (w ∷ ws)) (w ∷ answered_once single_len id_of_item id ws)) =
        elim [
          | true ↦ advanced-has (w ∷ ws) all
          | false ↦ All-cons (λ (v : Waiting (ℕ × ScriptItem)). P v.request) w _ (All-head (λ (v : Waiting (ℕ × ScriptItem)). P v.request) w ws all) (once-has id ws (All-tail (λ (v : Waiting (ℕ × ScriptItem)). P v.request) w ws all))
        ]
        in go (id_of_item w.request == id)

    answered-has : (ws : List (Waiting (ℕ × ScriptItem))) (ids : List ℕ) → All (λ (w : Waiting (ℕ × ScriptItem)). P w.request) ws → All (λ (w : Waiting (ℕ × ScriptItem)). P w.request) (answered_by single_len id_of_item ws ids)
    answered-has ws [] all = all
    answered-has ws (id ∷ ids) all = answered-has (answered_once single_len id_of_item id ws) ids (once-has id ws all)

    pub holding-has : (items : List (ℕ × ScriptItem)) (ids : List ℕ) (id : ℕ) (w : Waiting (ℕ × ScriptItem)) (others : List (Waiting (ℕ × ScriptItem))) → All P items → of_key id_held id (holding items ids) ≡ w ∷ others → P w.request
    holding-has items ids id w others all first =
        let each = answered-has (map fresh items) ids (All-map (λ (v : Waiting (ℕ × ScriptItem)). P v.request) fresh items all)
        in let own = All-filter (λ (v : Waiting (ℕ × ScriptItem)). id_held v == id) (λ (v : Waiting (ℕ × ScriptItem)). P v.request) (holding items ids) each
        in All-head (λ (v : Waiting (ℕ × ScriptItem)). P v.request) w others (subst (All (λ (v : Waiting (ℕ × ScriptItem)). P v.request)) first own)

  module _ (items : List (ℕ × ScriptItem)) (replies : List Reply) where
    -- the held requests of an ID, as the words of the link have them
    pub held-shows : (id : ℕ) → of_key id_of_waiting id (held_asked (map asked_by items) replies) ≡ map (waiting_shown asked_by) (of_key id_held id (holding items (map id_of_reply replies)))
    held-shows id =
        ap (of_key id_of_waiting id) (held-shown asked_by len_of_asked id_of_asked items (map id_of_reply replies))
        ∙ of_key-map id_of_waiting (waiting_shown asked_by) id (holding items (map id_of_reply replies))

    -- an answer that is taken is that of its entry's transaction
    pub taken-next : (more : List (ℕ × ScriptItem)) (r : Reply) (w : Waiting (ℕ × ScriptItem)) (others : List (Waiting (ℕ × ScriptItem))) → InOrderOfId (map asked_by items) replies → InOrderOfId (map asked_by (items ++ more)) (replies ++ r ∷ []) →
        of_key id_held r.id (holding items (map id_of_reply replies)) ≡ w ∷ others → (r.number ≡ w.request.1.txn.number) × InOrderOfId (map asked_by items) (replies ++ r ∷ [])
    taken-next more r w others order order_after first =
        let own : of_key id_of_waiting r.id (held_asked (map asked_by items) replies) ≡ waiting_shown asked_by w ∷ map (waiting_shown asked_by) others = held-shows r.id ∙ ap (map (waiting_shown asked_by)) first
        in let after : InOrderOfId (map asked_by items ++ map asked_by more) (replies ++ r ∷ []) = subst (λ (asked : List Asked). InOrderOfId asked (replies ++ r ∷ [])) (map-append asked_by items more) order_after
        in let next : (v : Waiting Asked) × (rest : List (Waiting Asked)) × (of_key id_of_waiting r.id (held_asked (map asked_by items ++ map asked_by more) replies) ≡ v ∷ rest) × (r ≡ next_reply v) = next_answer (map asked_by items ++ map asked_by more) replies r after
        in let longer : of_key id_of_waiting r.id (held_asked (map asked_by items ++ map asked_by more) replies) ≡ waiting_shown asked_by w ∷ (map (waiting_shown asked_by) others ++ of_key id_of_waiting r.id (map fresh (map asked_by more))) =
        ap (of_key id_of_waiting r.id) (later_requests_are_held (map asked_by items) (map asked_by more) replies order)
        ∙ of_key-append id_of_waiting r.id (held_asked (map asked_by items) replies) (map fresh (map asked_by more))
        ∙ ap (λ (ws : List (Waiting Asked)). ws ++ of_key id_of_waiting r.id (map fresh (map asked_by more))) own
        in let heads : waiting_shown asked_by w ≡ next.0 = head-same (waiting_shown asked_by w) next.0 _ _ (sym longer ∙ next.2)
        in let reply : r ≡ next_reply (waiting_shown asked_by w) = next.3 ∙ ap next_reply (sym heads)
        in let kept = answer_keeps_order (map asked_by items) replies r.id (waiting_shown asked_by w) (map (waiting_shown asked_by) others) order own
        in (ap (λ (q : Reply). q.number) reply, subst (λ (q : Reply). InOrderOfId (map asked_by items) (replies ++ q ∷ [])) (sym reply) kept)
      where
        head-same : (a b : Waiting Asked) (ws vs : List (Waiting Asked)) → a ∷ ws ≡ b ∷ vs → a ≡ b
        head-same a b ws vs same = cc

    beats-same : (ps : List (ℕ × ScriptItem)) → beats_due (map asked_by ps) ≡ beats_by single_len ps
    beats-same [] = refl
    beats-same (p ∷ ps) = ap (λ (n : ℕ). suc (single_len p) + n) (beats-same ps)

    -- no ID has more answers than its issued transactions ask for
    pub answers-few : InOrderOfId (map asked_by items) replies → (id : ℕ) → count_of id (map id_of_reply replies) ≤ beats_by single_len (of_key id_of_item id items)
    answers-few order id =
        let most = answers_within (map asked_by items) replies order id
        in let same : beats_due (of_key id_of_asked id (map asked_by items)) ≡ beats_by single_len (of_key id_of_item id items) = ap beats_due (of_key-map id_of_asked asked_by id items) ∙ beats-same (of_key id_of_item id items)
        in omega arith
