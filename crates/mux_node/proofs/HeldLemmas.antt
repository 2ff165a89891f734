-- Nothing is stuck in a mux.
-- ---- an answer has an input
use Rattle.std.proofs.Common.{[], ◌*◌, ◌++◌, ◌+◌, ◌/◌, ◌<◌, ◌∙◌, ◌∷◌, ◌≡◌, ◌≢◌, ◌≤◌, List, None, Option, Some, ap, arith, eq-eqb, inl, inr, length, map, refl, subst, sym, take, ℕ}
use Rattle.std.specs.Option.{option_map_or}
use Rattle.std.specs.Prelude.{All, Contains, slice_get}
use Rattle.std.proofs.lemmas.Bool.{cases_lt}
use Rattle.std.proofs.lemmas.List.{length-map, map-append, take_at}
use Rattle.std.proofs.lemmas.List.Elements.{All-contains, All-head, All-map, All-nil, All-tail, All-weaker}
use Rattle.std.proofs.lemmas.Nat.{div-mul-add}
use Rattle.std.proofs.lemmas.Option.{none-some, same_Some}
use Rattle.axi_beats.specs.declared.beat.Addr.{Addr}
use Rattle.axi_beats.specs.declared.beat.BBeat.{BBeat}
use Rattle.axi_beats.specs.declared.beat.RBeat.{RBeat}
use Rattle.axi_link.specs.LinkView.{LinkView}
use Rattle.axi_link.specs.LinkWords.{head_of}
use Rattle.axi_trail.proofs.FilterFacts.{length-marks}
use Rattle.axi_trail.proofs.IdFacts.{answers_have_requests}
use Rattle.axi_trail.proofs.MarkFacts.{pending_of_selected}
use Rattle.axi_trail.proofs.StepFacts.{own_pending}
use Rattle.axi_trail.proofs.WaitingFacts.{none-pending, pending-none}
use Rattle.axi_trail.specs.LinkContracts.{Answers}
use Rattle.axi_trail.specs.Schedule.{Progress, Schedule}
use Rattle.axi_trail.specs.SelectionLaws.{goes_way}
use Rattle.axi_trail.specs.Trail.{Beats, Trail, seen_above}
use Rattle.axi_trail.specs.Waiting.{Waiting}
use Rattle.axi_trail.specs.Words.{Asked, InOrderOfId, Mark, Reply, beats_due, burst_asked, held_asked, id_of_asked, id_of_reply, id_of_waiting, len_of_asked, mark_of_data, mark_of_reply, marks, number_of_address, number_of_asked, number_of_data, number_of_mark, number_of_waiting, pending_asked, read_replies, read_reply, reads_asked, write_asked, write_replies, write_reply, writes_asked}
use Rattle.mux_node.proofs.AnswerLemmas.{shown-wider}
use Rattle.mux_node.proofs.AskLemmas.{shown-b, shown-r}
use Rattle.mux_node.proofs.MergeLemmas.{all-by_input, sel-id}
use Rattle.mux_node.proofs.OrderLemmas.{first-of_images}
use Rattle.mux_node.proofs.ReplyLemmas.{marks-wider, merged-inputs, narrowed_reply, of_room, parted, widened_asked}
use Rattle.mux_node.proofs.StepLemmas.{marks-widened}
use Rattle.mux_node.specs.MuxState.{MuxState}
use Rattle.mux_node.specs.MuxTable.{ids_of, widened}
use Rattle.mux_node.specs.MuxTrail.{AreMerged, MuxKeeps, at_input}
use Rattle.plain_lists.proofs.KeyLemmas.{filter_cons, filter_map, of_key-cons, of_key-skip}
use Rattle.plain_lists.specs.Keys.{of_key, selected}

all-last : {X : Type 0} (P : X → Type 0) (xs : List X) (x : X) → All P (xs ++ x ∷ []) → P x
all-last P [] x all = All-head P x [] all
all-last P (y ∷ xs) x all = all-last P xs x (All-tail P y (xs ++ x ∷ []) all)

first-of : {X : Type 0} (queue : List X) (x : X) → head_of queue ≡ Some x → take 1 queue ≡ x ∷ []
first-of [] x is = absurd (none-some x is)
first-of (y ∷ queue) x is = ap (λ z. z ∷ []) (same_Some y x is)

module _ (uppers : List ℕ) (ids : ℕ) where
  abbrev HasLink : ℕ → Type 0
  HasLink id = (link : ℕ) × (slice_get uppers (id / ids) ≡ Some link)

  linked : (route : ℕ → ℕ) (merged : List Addr) (of : ℕ → List Addr) → AreMerged route ids merged (at_input uppers of) → All (λ (a : Addr). HasLink a.id) merged
  linked route merged of is =
      all-by_input (λ (a : Addr). HasLink a.id) number_of_address route merged
      (λ j. subst (λ (xs : List Addr). All (λ (a : Addr). HasLink a.id) xs) (sym (is.parts j)) (All-map (λ (a : Addr). HasLink a.id) (widened ids j) (at_input uppers of j) (go j (slice_get uppers j) refl (is.small j))))
    where
      go : (j : ℕ) (o : Option ℕ) → slice_get uppers j ≡ o → All (λ (a : Addr). a.id < ids) (option_map_or of o []) → All (λ (a : Addr). HasLink (j * ids + a.id)) (option_map_or of o [])
      go j None at small = All-nil (λ (a : Addr). HasLink (j * ids + a.id))
      go j (Some link) at small =
          All-weaker (λ (a : Addr). a.id < ids) (λ (a : Addr). HasLink (j * ids + a.id)) (λ a lt. (link, ap (slice_get uppers) (div-mul-add j ids a.id lt) ∙ at)) (of link) small

  reply-linked : (asked : List Asked) (replies : List Reply) (p : Reply) → All (λ (a : Asked). HasLink a.id) asked → InOrderOfId asked (replies ++ p ∷ []) → HasLink p.id
  reply-linked asked replies p all order =
      let has = all-last (λ (q : Reply). (a : Asked) × Contains asked a × (a.id ≡ q.id) × (a.number ≡ q.number)) replies p (answers_have_requests asked (replies ++ p ∷ []) order) in
      subst HasLink has.2 (All-contains (λ (a : Asked). HasLink a.id) asked has.0 all has.1)

pub mux-responses_fit : (schedules : ℕ → Schedule) (now : Progress) (s : MuxState) (uppers : Trail) (lower : Beats) (below : LinkView) → MuxKeeps schedules s uppers lower → Answers (schedules s.shape.lower) now (seen_above lower below) →
    (b : BBeat) → head_of below.b ≡ Some b → (link : ℕ) × (slice_get s.shape.uppers (b.id / ids_of s.shape) ≡ Some link)
mux-responses_fit schedules now s uppers lower below keeps answers b head =
    let ids = ids_of s.shape in
    reply-linked s.shape.uppers ids (writes_asked lower) (write_replies lower) (write_reply b)
    (All-map (λ (a : Asked). HasLink s.shape.uppers ids a.id) write_asked lower.aw (linked s.shape.uppers ids keeps.suits.write_route lower.aw (λ link. (uppers link).aw) keeps.aw))
    (subst (λ (ps : List Reply). InOrderOfId (writes_asked lower) ps) (ap (λ (bs : List BBeat). map write_reply (lower.b ++ bs)) (first-of below.b b head) ∙ map-append write_reply lower.b (b ∷ [])) answers.answers_in_order_of_id)

pub mux-read_data_fits : (schedules : ℕ → Schedule) (now : Progress) (s : MuxState) (uppers : Trail) (lower : Beats) (below : LinkView) → MuxKeeps schedules s uppers lower → Answers (schedules s.shape.lower) now (seen_above lower below) →
    (r : RBeat) → head_of below.r ≡ Some r → (link : ℕ) × (slice_get s.shape.uppers (r.id / ids_of s.shape) ≡ Some link)
mux-read_data_fits schedules now s uppers lower below keeps answers r head =
    let ids = ids_of s.shape in
    reply-linked s.shape.uppers ids (reads_asked lower) (read_replies lower) (read_reply r)
    (All-map (λ (a : Asked). HasLink s.shape.uppers ids a.id) burst_asked lower.ar (linked s.shape.uppers ids keeps.suits.read_route lower.ar (λ link. (uppers link).ar) keeps.ar))
    (subst (λ (ps : List Reply). InOrderOfId (reads_asked lower) ps) (ap (λ (rs : List RBeat). map read_reply (lower.r ++ rs)) (first-of below.r r head) ∙ map-append read_reply lower.r (r ∷ [])) answers.reads_in_order_of_id)

-- ---- what isn't held below isn't held above

no_share-waits : (ws : List (Waiting Asked)) → ((id : ℕ) → of_key id_of_waiting id ws ≡ []) → ws ≡ []
no_share-waits [] none = refl
no_share-waits (w ∷ ws) none = absurd (cons-nil w (of_key id_of_waiting w.request.id ws) (sym (of_key-cons id_of_waiting w.request.id w ws refl) ∙ none w.request.id))
  where
    cons-nil : (x : Waiting Asked) (xs : List (Waiting Asked)) → x ∷ xs ≡ [] → ⊥
    cons-nil x xs e = absurd (cc)

none-of : (id ids : ℕ) (xs : List Asked) → ids ≤ id → All (λ (a : Asked). a.id < ids) xs → of_key id_of_asked id xs ≡ []
none-of id ids [] big small = refl
none-of id ids (x ∷ xs) big small =
    of_key-skip id_of_asked id x xs (λ e. absurd (omega (arith, e, big, All-head (λ (a : Asked). a.id < ids) x xs small))) ∙ none-of id ids xs big (All-tail (λ (a : Asked). a.id < ids) x xs small)

none-held : (ids j : ℕ) (route : ℕ → ℕ) (asked mine : List Asked) (replies : List Reply) → All (λ (a : Asked). a.id / ids ≡ route a.number) asked → All (λ (a : Asked). a.id < ids) mine →
    selected number_of_asked (goes_way route j) asked ≡ map (widened_asked ids j) mine → held_asked asked replies ≡ [] → held_asked mine (map (narrowed_reply ids) (of_room ids j replies)) ≡ []
none-held ids j route asked mine replies have small parts none = no_share-waits (held_asked mine own) each
  where
    own : List Reply
    own = map (narrowed_reply ids) (of_room ids j replies)

    each : (id : ℕ) → of_key id_of_waiting id (held_asked mine (map (narrowed_reply ids) (of_room ids j replies))) ≡ []
    each id = own_pending mine (map (narrowed_reply ids) (of_room ids j replies)) id ∙ elim (cases_lt id ids) [
      | inl lt ↦
          let only : All (λ (x : Asked). x.id ≡ j * ids + id → route x.number ≡ j) asked =
          All-weaker (λ (a : Asked). a.id / ids ≡ route a.number) (λ (x : Asked). x.id ≡ j * ids + id → route x.number ≡ j)
          (λ x h same. sym h ∙ ap (λ (i : ℕ). i / ids) same ∙ div-mul-add j ids id lt) asked have in
          let marks_same : marks (of_key id_of_asked (j * ids + id) asked) ≡ marks (of_key id_of_asked id mine) =
          ap marks (sel-id route j (j * ids + id) asked only ∙ ap (of_key id_of_asked (j * ids + id)) parts) ∙ marks-wider ids j id mine in
          let below : beats_due (of_key id_of_asked (j * ids + id) asked) ≤ length (map mark_of_reply (of_key id_of_reply (j * ids + id) replies)) =
          none-pending len_of_asked (length (map mark_of_reply (of_key id_of_reply (j * ids + id) replies))) (of_key id_of_asked (j * ids + id) asked)
          (sym (own_pending asked replies (j * ids + id)) ∙ ap (of_key id_of_waiting (j * ids + id)) none) in
          pending-none len_of_asked (length (map mark_of_reply (of_key id_of_reply id (map (narrowed_reply ids) (of_room ids j replies))))) (of_key id_of_asked id mine)
          (omega (arith, below, ap length (parted ids j id lt replies), ap length marks_same, length-marks (of_key id_of_asked (j * ids + id) asked), length-marks (of_key id_of_asked id mine)))
      | inr big ↦ ap (pending_asked (length (map mark_of_reply (of_key id_of_reply id (map (narrowed_reply ids) (of_room ids j replies)))))) (none-of id ids mine big small)
    ]

module _ (s : MuxState) (input link : ℕ) (at : slice_get s.shape.uppers input ≡ Some link) where
  there : {X : Type 0} (of : ℕ → List X) → at_input s.shape.uppers of input ≡ of link
  there of = ap (λ (o : Option ℕ). option_map_or of o []) at

pub mux-holds_no_write : (schedules : ℕ → Schedule) (s : MuxState) (uppers : Trail) (lower : Beats) → MuxKeeps schedules s uppers lower → held_asked (writes_asked lower) (write_replies lower) ≡ [] →
    (input link : ℕ) → slice_get s.shape.uppers input ≡ Some link → held_asked (writes_asked (uppers link)) (write_replies (uppers link)) ≡ []
mux-holds_no_write schedules s uppers lower keeps none input link at =
    let ids = ids_of s.shape in
    let route = keeps.suits.write_route in
    let u = uppers link in
    let asked : selected number_of_asked (goes_way route input) (writes_asked lower) ≡ map (widened_asked ids input) (writes_asked u) =
    filter_map (λ (a : Asked). goes_way route input a.number) write_asked lower.aw ∙ ap (map write_asked) (keeps.aw.parts input ∙ ap (map (widened ids input)) (there s input link at (λ l. (uppers l).aw)))
    ∙ shown-wider write_asked ids input (λ a. refl) u.aw in
    let small : All (λ (a : Addr). a.id < ids) u.aw = subst (λ (xs : List Addr). All (λ (a : Addr). a.id < ids) xs) (there s input link at (λ l. (uppers l).aw)) (keeps.aw.small input) in
    let replies : write_replies u ≡ map (narrowed_reply ids) (of_room ids input (write_replies lower)) = ap (map write_reply) (sym (there s input link at (λ l. (uppers l).b)) ∙ keeps.b input) ∙ shown-b ids input lower.b in
    ap (held_asked (writes_asked u)) replies
    ∙ none-held ids input route (writes_asked lower) (writes_asked u) (write_replies lower)
    (All-map (λ (a : Asked). a.id / ids ≡ route a.number) write_asked lower.aw (merged-inputs route ids lower.aw (at_input s.shape.uppers (λ l. (uppers l).aw)) keeps.aw))
    (All-map (λ (a : Asked). a.id < ids) write_asked u.aw small) asked none

pub mux-holds_no_read : (schedules : ℕ → Schedule) (s : MuxState) (uppers : Trail) (lower : Beats) → MuxKeeps schedules s uppers lower → held_asked (reads_asked lower) (read_replies lower) ≡ [] →
    (input link : ℕ) → slice_get s.shape.uppers input ≡ Some link → held_asked (reads_asked (uppers link)) (read_replies (uppers link)) ≡ []
mux-holds_no_read schedules s uppers lower keeps none input link at =
    let ids = ids_of s.shape in
    let route = keeps.suits.read_route in
    let u = uppers link in
    let asked : selected number_of_asked (goes_way route input) (reads_asked lower) ≡ map (widened_asked ids input) (reads_asked u) =
    filter_map (λ (a : Asked). goes_way route input a.number) burst_asked lower.ar ∙ ap (map burst_asked) (keeps.ar.parts input ∙ ap (map (widened ids input)) (there s input link at (λ l. (uppers l).ar)))
    ∙ shown-wider burst_asked ids input (λ a. refl) u.ar in
    let small : All (λ (a : Addr). a.id < ids) u.ar = subst (λ (xs : List Addr). All (λ (a : Addr). a.id < ids) xs) (there s input link at (λ l. (uppers l).ar)) (keeps.ar.small input) in
    let replies : read_replies u ≡ map (narrowed_reply ids) (of_room ids input (read_replies lower)) = ap (map read_reply) (sym (there s input link at (λ l. (uppers l).r)) ∙ keeps.r input) ∙ shown-r ids input lower.r in
    ap (held_asked (reads_asked u)) replies
    ∙ none-held ids input route (reads_asked lower) (reads_asked u) (read_replies lower)
    (All-map (λ (a : Asked). a.id / ids ≡ route a.number) burst_asked lower.ar (merged-inputs route ids lower.ar (at_input s.shape.uppers (λ l. (uppers l).ar)) keeps.ar))
    (All-map (λ (a : Asked). a.id < ids) burst_asked u.ar small) asked none

-- ---- the first granted input has data to send

pub mux-awaits : (schedules : ℕ → Schedule) (s : MuxState) (uppers : Trail) (lower : Beats) → MuxKeeps schedules s uppers lower → (input : ℕ) (rest : List ℕ) → s.granted ≡ input ∷ rest →
    (link : ℕ) × (slice_get s.shape.uppers input ≡ Some link) × (length (uppers link).w < beats_due (map burst_asked (uppers link).aw))
mux-awaits schedules s uppers lower keeps input rest granted = go (slice_get s.shape.uppers input) refl
  where
    taken-is : take (length lower.w) (marks (map burst_asked lower.aw)) ≡ map mark_of_data lower.w
    taken-is =
        ap (take (length lower.w)) keeps.order.in_order.whole ∙ take_at (map mark_of_data lower.w) keeps.order.in_order.rest (length lower.w) (length-map lower.w mark_of_data)

    -- what is pending of this input
    own : selected number_of_waiting (goes_way keeps.suits.write_route input) (pending_asked (length lower.w) (map burst_asked lower.aw))
        ≡ pending_asked (length (at_input s.shape.uppers (λ l. (uppers l).w) input)) (map burst_asked (map (widened (ids_of s.shape) input) (at_input s.shape.uppers (λ l. (uppers l).aw) input)))
    own =
        pending_of_selected (goes_way keeps.suits.write_route input) (length lower.w) (map burst_asked lower.aw)
        ∙ ap (λ (ms : List Mark). pending_asked (length (selected number_of_mark (goes_way keeps.suits.write_route input) ms)) (selected number_of_asked (goes_way keeps.suits.write_route input) (map burst_asked lower.aw))) taken-is
        ∙ ap (λ (n : ℕ). pending_asked n (selected number_of_asked (goes_way keeps.suits.write_route input) (map burst_asked lower.aw)))
        (ap (λ (ms : List Mark). length ms) (filter_map (λ (m : Mark). goes_way keeps.suits.write_route input m.number) mark_of_data lower.w) ∙ length-map (selected number_of_data (goes_way keeps.suits.write_route input) lower.w) mark_of_data
        ∙ ap length (keeps.w input))
        ∙ ap (pending_asked (length (at_input s.shape.uppers (λ l. (uppers l).w) input)))
        (filter_map (λ (a : Asked). goes_way keeps.suits.write_route input a.number) burst_asked lower.aw ∙ ap (map burst_asked) (keeps.aw.parts input))

    cons-nil : (x : Waiting Asked) (xs : List (Waiting Asked)) → x ∷ xs ≡ [] → ⊥
    cons-nil x xs e = absurd (cc)

    -- there is some
    some : selected number_of_waiting (goes_way keeps.suits.write_route input) (pending_asked (length lower.w) (map burst_asked lower.aw)) ≢ []
    some none =
        let has = first-of_images (λ p. keeps.suits.write_route (number_of_waiting p)) (pending_asked (length lower.w) (map burst_asked lower.aw)) input rest (sym granted ∙ keeps.order.waiting) in
        cons-nil has.first (selected number_of_waiting (goes_way keeps.suits.write_route input) has.rest)
        (sym (ap (selected number_of_waiting (goes_way keeps.suits.write_route input)) has.is
        ∙ filter_cons (λ (p : Waiting Asked). goes_way keeps.suits.write_route input (number_of_waiting p)) has.first has.rest (eq-eqb (keeps.suits.write_route has.first.request.number) input (sym has.shows)))
        ∙ none)

    go : (o : Option ℕ) → slice_get s.shape.uppers input ≡ o → (link : ℕ) × (slice_get s.shape.uppers input ≡ Some link) × (length (uppers link).w < beats_due (map burst_asked (uppers link).aw))
    go None at =
        absurd (some (own ∙ ap (λ (o : Option ℕ). pending_asked (length (at_input s.shape.uppers (λ l. (uppers l).w) input)) (map burst_asked (map (widened (ids_of s.shape) input) (option_map_or (λ l. (uppers l).aw) o [])))) at))
    go (Some link) at =
        let u = uppers link in
        let wide : List Asked = map burst_asked (map (widened (ids_of s.shape) input) u.aw) in
        let here : pending_asked (length (at_input s.shape.uppers (λ l. (uppers l).w) input)) (map burst_asked (map (widened (ids_of s.shape) input) (at_input s.shape.uppers (λ l. (uppers l).aw) input))) ≡ pending_asked (length u.w) wide =
        ap (λ (o : Option ℕ). pending_asked (length (option_map_or (λ l. (uppers l).w) o [])) (map burst_asked (map (widened (ids_of s.shape) input) (option_map_or (λ l. (uppers l).aw) o [])))) at in
        let lengths : beats_due wide ≡ beats_due (map burst_asked u.aw) = sym (length-marks wide) ∙ ap length (marks-widened (ids_of s.shape) input u.aw) ∙ length-marks (map burst_asked u.aw) in
        elim (cases_lt (length u.w) (beats_due (map burst_asked u.aw))) [
          | inl less ↦ (link, at, less)
          | inr all ↦ absurd (some (own ∙ here ∙ pending-none len_of_asked (length u.w) wide (omega (arith, all, lengths))))
        ]
