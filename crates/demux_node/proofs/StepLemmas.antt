-- One more round, channel by channel, over plain lists.
use Rattle.std.proofs.Common.{◌≡◌, ◌<◌, ◌==◌, ℕ, Bool, true, cond, List, [], ◌∷◌, ◌++◌, length, map, take, refl, sym, ◌∙◌, ap, ap₂, subst, inl, inr, arith, append-nil, eq-eqb, Contains}
use Rattle.std.specs.Prelude.{All, Option, Some, None, find, is_some}
use Rattle.std.proofs.lemmas.Bool.{cases_eq, ne_eqb}
use Rattle.std.proofs.lemmas.List.{length-map, map-append, take_at}
use Rattle.std.proofs.lemmas.List.Elements.{All-contains_itself, All-head, All-weaker, Contains-append_right, filter-append}
use Rattle.axi_beats.specs.declared.beat.Addr.{Addr}
use Rattle.axi_beats.specs.declared.beat.WBeat.{WBeat}
use Rattle.axi_beats.specs.declared.beat.BBeat.{BBeat}
use Rattle.axi_beats.specs.declared.beat.RBeat.{RBeat}
use Rattle.axi_link.specs.LinkView.{LinkView}
use Rattle.axi_link.specs.LinkWords.{link_of}
use Rattle.axi_link.specs.Moves.{appended, takes_from}
use Rattle.axi_trail.proofs.FilterFacts.{marks-selected}
use Rattle.axi_trail.proofs.MarkFacts.{pending_of_selected}
use Rattle.axi_trail.proofs.SlackFacts.{completed_front, in_order_goes_up}
use Rattle.axi_trail.proofs.WholeFacts.{oldest_has_its_data}
use Rattle.axi_trail.specs.LinkContracts.{OneIdAtATime, Requests, without_id}
use Rattle.axi_trail.specs.Schedule.{Schedule, Share}
use Rattle.axi_trail.specs.SelectionLaws.{goes_way}
use Rattle.axi_trail.specs.Trail.{Beats, Trail, beat_taken}
use Rattle.axi_trail.specs.Waiting.{Waiting}
use Rattle.axi_trail.specs.Words.{Asked, InOrderOfId, Mark, Reply, burst_asked, completed, held_asked, id_of_waiting, mark_of_data, marks, number_of_address, number_of_asked, number_of_data, number_of_mark, number_of_read_data, number_of_reply, number_of_response, number_of_waiting, pending_asked, read_reply, write_asked, write_reply}
use Rattle.demux_node.proofs.HeldLemmas.{answer-goes, answer-held, entry-here, held-same, request-held}
use Rattle.demux_node.proofs.OpenLemmas.{address-goes, beat-number, data-goes, first-open, response-goes}
use Rattle.demux_node.proofs.RowLemmas.{KeepToPort}
use Rattle.demux_node.specs.DemuxState.{DemuxShape, HaveOnePort, lower_of, port_for, route_of}
use Rattle.demux_node.specs.DemuxTable.{id_of_route, id_of_write, is_open_write, put_above, put_below, reads_after_ar, reads_after_r, take_below, writes_after_aw, writes_after_b, writes_after_w}
use Rattle.demux_node.specs.DemuxTrail.{GoByPort, OpenArePending, RoutesAreHeld, closed_write, open_write, port_of_parts, read_lower, read_port, route_of_held, write_lower, write_port}
use Rattle.demux_node.specs.declared.route.Route.{Route}
use Rattle.demux_node.specs.declared.route.WriteRoute.{WriteRoute}
use Rattle.node_core.specs.Rows.{take_of}
use Rattle.plain_lists.proofs.CutLemmas.{all-right, all-unmap, contains-map, without-map}
use Rattle.plain_lists.proofs.KeyLemmas.{filter_map, of_key-push}
use Rattle.plain_lists.proofs.PrefixLemmas.{All_front, prefix_append, prefix_filter, prefix_itself, prefix_map, prefix_of_same, prefix_same}
use Rattle.plain_lists.proofs.SelectedLemmas.{of_key-selected}
use Rattle.plain_lists.specs.Keys.{of_key, selected, without_oldest}
use Rattle.plain_lists.specs.Prefixes.{Agree, IsPrefix}

-- the beat of a row
abbrev pub row_beats : {X : Type 0} → Option (ℕ × X) → List X
row_beats None = []
row_beats (Some x) = x.1 ∷ []

-- what a row takes above is its beat
pub taken-above : {X : Type 0} (upper : ℕ) (queue : List X) (row : Option (ℕ × X)) → ((x : ℕ × X) → row ≡ Some x → (rest : List X) × (queue ≡ x.1 ∷ rest)) →
    beat_taken (takes_from upper (take_of upper (is_some row))) queue ≡ row_beats row
taken-above upper queue None is = refl
taken-above {X} upper queue (Some x) is =
    let q = is x refl in
    ap (λ (b : Bool). beat_taken b queue) (eq-eqb upper upper refl) ∙ ap (take 1) q.1

-- and so is what it puts above
pub put-above : {X : Type 0} (shape : DemuxShape) (row : Option (ℕ × X)) → appended shape.upper (put_above shape row) ≡ row_beats row
put-above shape None = refl
put-above shape (Some x) = ap (λ (b : Bool). cond b (x.1 ∷ []) []) (eq-eqb shape.upper shape.upper refl)

-- what it takes below is its beat, at its link
pub taken-below : {X : Type 0} (queue_of : LinkView → List X) (links : List LinkView) (shape : DemuxShape) (l : ℕ) (row : Option (ℕ × X)) →
    ((x : ℕ × X) → row ≡ Some x → (rest : List X) × (queue_of (link_of links (lower_of shape x.0)) ≡ x.1 ∷ rest)) →
    beat_taken (takes_from l (take_below shape row)) (queue_of (link_of links l)) ≡ appended l (put_below shape row)
taken-below queue_of links shape l None is = refl
taken-below {X} queue_of links shape l (Some x) is = elim (cases_eq (lower_of shape x.0) l) [
  | inr other ↦
      ap (λ (b : Bool). beat_taken b (queue_of (link_of links l))) (ne_eqb (lower_of shape x.0) l other) ∙ sym (ap (λ (b : Bool). cond b (x.1 ∷ []) []) (ne_eqb (lower_of shape x.0) l other))
  | inl own ↦
      let q = is x refl in
      ap (λ (b : Bool). beat_taken b (queue_of (link_of links l))) (eq-eqb (lower_of shape x.0) l own)
      ∙ ap (λ (k : ℕ). take 1 (queue_of (link_of links k))) (sym own) ∙ ap (take 1) q.1
      ∙ sym (ap (λ (b : Bool). cond b (x.1 ∷ []) []) (eq-eqb (lower_of shape x.0) l own))
]

-- what has passed on a link is what goes by it
pub sent-on : {X : Type 0} (number_of : X → ℕ) (way : ℕ → ℕ) (shape : DemuxShape) (row : Option (ℕ × X)) → ((x : ℕ × X) → row ≡ Some x → way (number_of x.1) ≡ lower_of shape x.0) →
    (l : ℕ) (xs here : List X) → here ≡ selected number_of (goes_way way l) xs → here ++ appended l (put_below shape row) ≡ selected number_of (goes_way way l) (xs ++ row_beats row)
sent-on number_of way shape None goes l xs here is = append-nil here ∙ is ∙ ap (selected number_of (goes_way way l)) (sym (append-nil xs))
sent-on {X} number_of way shape (Some x) goes l xs here is =
    ap (λ (t : List X). t ++ appended l (put_below shape (Some x))) is
    ∙ ap (λ (k : ℕ). selected number_of (goes_way way l) xs ++ cond (k == l) (x.1 ∷ []) []) (sym (goes x refl))
    ∙ sym (filter-append (λ (y : X). goes_way way l (number_of y)) xs (x.1 ∷ []))

-- a request goes to the port of its address
pub port-is : (shape : DemuxShape) (above : ℕ → Share) (below : ℕ → ℕ → Share) (width : ℕ) (issued : ℕ → Bool) (shown : Addr → Asked) (addresses : List Addr) (a : Addr) (replies : List Reply) →
    GoByPort shape above below → Requests above width issued shown (addresses ++ a ∷ []) replies → port_for shape a.addr ≡ port_of_parts shape (above a.tag.txn).parts
port-is shape above below width issued shown addresses a replies go asks =
    let t = a.tag.txn in
    let P : Addr → Type 0 = λ x. port_for shape x.addr ≡ port_of_parts shape (above t).parts in
    let all : All P (map without_id (of_key number_of_address t (addresses ++ a ∷ []))) = All_front P (asks.asks_only_its_parts t) (go.to t) in
    let each = all-unmap P without_id (of_key number_of_address t (addresses ++ a ∷ [])) all in
    let last = subst (λ (xs : List Addr). All (λ (x : Addr). P (without_id x)) xs) (of_key-push number_of_address t addresses a refl) each in
    All-head (λ (x : Addr). P (without_id x)) a [] (all-right (λ (x : Addr). P (without_id x)) (of_key number_of_address t addresses) (a ∷ []) last)

module _ (shape : DemuxShape) (above : Schedule) (upper : Beats) (lowers : Trail) where
  abbrev port : ℕ → ℕ
  port = write_port shape above

  abbrev way : ℕ → ℕ
  way = write_lower shape above

  -- W
  pub w-step : (row : Option (ℕ × WBeat)) (writes : List WriteRoute) → OpenArePending port upper.aw upper.w writes →
      Agree (map mark_of_data (upper.w ++ row_beats row)) (marks (map burst_asked upper.aw)) →
      ((x : ℕ × WBeat) → row ≡ Some x → (e : WriteRoute) × (find is_open_write writes ≡ Some e) × (x.0 ≡ e.port)) →
      OpenArePending port upper.aw (upper.w ++ row_beats row) (writes_after_w row writes) × ((x : ℕ × WBeat) → row ≡ Some x → way x.1.tag.txn ≡ lower_of shape x.0)
  w-step None writes has agree is = (subst (λ (ws : List WBeat). OpenArePending port upper.aw ws writes) (sym (append-nil upper.w)) has, λ x e. absurd (cc))
  w-step (Some x) writes has agree is =
      let found = is x refl in
      let first = first-open port has.closed (pending_asked (length upper.w) (map burst_asked upper.aw)) found.0 (ap (find is_open_write) (sym has.entries) ∙ found.1) in
      let number = beat-number port upper.aw upper.w writes has x.1 agree first.0 first.1 first.2 in (
        data-goes port upper.aw upper.w writes has x.1 agree first.0 first.1 first.2 x.1.last refl,
        λ y e. let same : x ≡ y = cc in
            subst (λ (z : ℕ × WBeat). way z.1.tag.txn ≡ lower_of shape z.0) same
            (ap way number ∙ ap (lower_of shape) (ap (λ (e : WriteRoute). e.port) (sym first.3) ∙ sym found.2)),
      )

  -- B, where some data has come
  module _ (x : ℕ × BBeat) (w : List WBeat) (writes : List WriteRoute) (front : IsPrefix upper.w w) (has : OpenArePending port upper.aw w writes)
      (filed : RoutesAreHeld above.writes port (lower_of shape) (map write_asked upper.aw) (map write_reply upper.b) (map route_of writes)) (one_port : HaveOnePort (map route_of writes))
      (aw_is : (l : ℕ) → (lowers l).aw ≡ selected number_of_address (goes_way way l) upper.aw) (w_is : (l : ℕ) → (lowers l).w ≡ selected number_of_data (goes_way way l) upper.w)
      (b_is : (l : ℕ) → (lowers l).b ≡ selected number_of_response (goes_way way l) upper.b)
      (order : InOrderOfId (map write_asked (lowers (lower_of shape x.0)).aw) (map write_reply ((lowers (lower_of shape x.0)).b ++ x.1 ∷ [])))
      (whole : InOrderOfId (map write_asked (completed (lowers (lower_of shape x.0)).aw (map mark_of_data (lowers (lower_of shape x.0)).w))) (map write_reply ((lowers (lower_of shape x.0)).b ++ x.1 ∷ []))) where
    abbrev l : ℕ
    l = lower_of shape x.0

    abbrev selects : ℕ → Bool
    selects = goes_way way (lower_of shape x.0)

    abbrev asked : List Asked
    asked = map write_asked upper.aw

    abbrev replies : List Reply
    replies = map write_reply upper.b

    abbrev replies_here : List Reply
    replies_here = map write_reply (lowers (lower_of shape x.0)).b

    order-here : InOrderOfId (map write_asked (lowers (lower_of shape x.0)).aw) (replies_here ++ write_reply x.1 ∷ [])
    order-here = subst (λ (ps : List Reply). InOrderOfId (map write_asked (lowers l).aw) ps) (map-append write_reply (lowers l).b (x.1 ∷ [])) order

    asked-is : map write_asked (lowers (lower_of shape x.0)).aw ≡ selected number_of_asked selects asked
    asked-is = ap (map write_asked) (aw_is l) ∙ sym (filter_map (λ (y : Asked). selects (number_of_asked y)) write_asked upper.aw)

    bursts-are : map burst_asked (lowers (lower_of shape x.0)).aw ≡ selected number_of_asked selects (map burst_asked upper.aw)
    bursts-are = ap (map burst_asked) (aw_is l) ∙ sym (filter_map (λ (y : Asked). selects (number_of_asked y)) burst_asked upper.aw)

    replies-are : replies_here ≡ selected number_of_reply selects replies
    replies-are = ap (map write_reply) (b_is l) ∙ sym (filter_map (λ (y : Reply). selects (number_of_reply y)) write_reply upper.b)

    -- with all data that has come there
    abbrev w_here : List WBeat
    w_here = selected number_of_data (goes_way way (lower_of shape x.0)) w

    marks-are : map mark_of_data w_here ≡ selected number_of_mark selects (map mark_of_data w)
    marks-are = sym (filter_map (λ (y : Mark). selects (number_of_mark y)) mark_of_data w)

    front-here : IsPrefix (map mark_of_data w_here) (marks (map burst_asked (lowers (lower_of shape x.0)).aw))
    front-here =
        prefix_of_same (prefix_same marks-are (prefix_filter (λ (y : Mark). selects (number_of_mark y)) has.in_order))
        (marks-selected selects (map burst_asked upper.aw) ∙ ap marks (sym bursts-are))

    whole-here : InOrderOfId (map write_asked (completed (lowers (lower_of shape x.0)).aw (map mark_of_data w_here))) (map write_reply ((lowers (lower_of shape x.0)).b ++ x.1 ∷ []))
    whole-here =
        let w_front : IsPrefix (lowers l).w w_here = prefix_same (w_is l) (prefix_filter (λ (y : WBeat). selects (number_of_data y)) front) in
        in_order_goes_up (prefix_map write_asked (completed_front (prefix_itself (lowers l).aw) (prefix_map mark_of_data w_front))) (prefix_itself (map write_reply ((lowers l).b ++ x.1 ∷ []))) whole

    before-here : InOrderOfId (map write_asked (lowers (lower_of shape x.0)).aw) replies_here
    before-here = in_order_goes_up (prefix_itself (map write_asked (lowers l).aw)) (prefix_map write_reply (prefix_append (lowers l).b (x.1 ∷ []))) order

    abbrev pending_ones : List (Waiting Asked)
    pending_ones = pending_asked (length w) (map burst_asked upper.aw)

    pending-entry : (y : Waiting Asked) → Contains pending_ones y → Contains (map route_of writes) (route_of_held port y)
    pending-entry y in_y =
        contains-map route_of writes (open_write port y) (subst (λ (es : List WriteRoute). Contains es (open_write port y)) (sym has.entries)
        (Contains-append_right (map closed_write has.closed) (map (open_write port) pending_ones) (open_write port y) (contains-map (open_write port) pending_ones y in_y)))

    pending-here : All (λ (y : Waiting Asked). y.request.id ≡ x.1.id → selects y.request.number ≡ true) pending_ones
    pending-here =
        All-weaker (Contains pending_ones) (λ (y : Waiting Asked). y.request.id ≡ x.1.id → selects y.request.number ≡ true)
        (λ y in_y own. eq-eqb (way y.request.number) l
        (entry-here above.writes port (lower_of shape) asked replies (map route_of writes) filed one_port l (map write_asked (lowers l).aw) replies_here (write_reply x.1) asked-is replies-are order-here
        (route_of_held port y) (pending-entry y in_y) own)) pending_ones (All-contains_itself pending_ones)

    pending-same : of_key id_of_waiting x.1.id pending_ones ≡ of_key id_of_waiting x.1.id (pending_asked (length w_here) (map burst_asked (lowers (lower_of shape x.0)).aw))
    pending-same =
        let first : take (length w) (marks (map burst_asked upper.aw)) ≡ map mark_of_data w =
        ap (take (length w)) has.in_order.whole ∙ take_at (map mark_of_data w) has.in_order.rest (length w) (length-map w mark_of_data) in
        let count : length (selected number_of_mark selects (take (length w) (marks (map burst_asked upper.aw)))) ≡ length w_here =
        ap (λ (ms : List Mark). length (selected number_of_mark selects ms)) first ∙ ap (λ (ms : List Mark). length ms) (sym marks-are) ∙ length-map w_here mark_of_data in
        sym (ap (of_key id_of_waiting x.1.id) (sym (pending_of_selected selects (length w) (map burst_asked upper.aw)
        ∙ ap₂ (λ (n : ℕ) (xs : List Asked). pending_asked n xs) count (sym bursts-are)))
        ∙ of_key-selected id_of_waiting number_of_waiting selects x.1.id pending_ones pending-here)

    less : length (of_key id_of_waiting x.1.id pending_ones) < length (of_key id_of_waiting x.1.id (held_asked asked replies))
    less =
        let here = oldest_has_its_data (lowers l).aw w_here (lowers l).b x.1 front-here before-here whole-here in
        let same = held-same above.writes port (lower_of shape) asked replies (map route_of writes) filed one_port l (map write_asked (lowers l).aw) replies_here (write_reply x.1) asked-is replies-are order-here in
        omega (arith, here, ap (λ (xs : List (Waiting Asked)). length xs) same, ap (λ (xs : List (Waiting Asked)). length xs) pending-same)

    pub response-open : OpenArePending port upper.aw w (without_oldest id_of_write x.1.id writes)
    response-open = response-goes port upper.aw w writes has (held_asked asked replies) x.1.id filed.entries less

    pub response-held : RoutesAreHeld above.writes port (lower_of shape) (map write_asked upper.aw) (map write_reply (upper.b ++ x.1 ∷ [])) (map route_of (without_oldest id_of_write x.1.id writes))
    response-held =
        let files = answer-held above.writes port (lower_of shape) asked replies (map route_of writes) filed one_port l (map write_asked (lowers l).aw) replies_here (write_reply x.1) asked-is replies-are order-here in
        subst (λ (ps : List Reply). RoutesAreHeld above.writes port (lower_of shape) asked ps (map route_of (without_oldest id_of_write x.1.id writes))) (sym (map-append write_reply upper.b (x.1 ∷ [])))
        (subst (λ (es : List Route). RoutesAreHeld above.writes port (lower_of shape) asked (replies ++ write_reply x.1 ∷ []) es) (without-map route_of id_of_route x.1.id writes) files)

    pub response-way : way x.1.tag.txn ≡ lower_of shape x.0
    response-way = answer-goes above.writes port (lower_of shape) asked replies (map route_of writes) filed one_port l (map write_asked (lowers l).aw) replies_here (write_reply x.1) asked-is replies-are order-here

  pub b-step : (row : Option (ℕ × BBeat)) (w : List WBeat) (writes : List WriteRoute) → IsPrefix upper.w w → OpenArePending port upper.aw w writes →
      RoutesAreHeld above.writes port (lower_of shape) (map write_asked upper.aw) (map write_reply upper.b) (map route_of writes) → HaveOnePort (map route_of writes) →
      ((l : ℕ) → (lowers l).aw ≡ selected number_of_address (goes_way way l) upper.aw) → ((l : ℕ) → (lowers l).w ≡ selected number_of_data (goes_way way l) upper.w) →
      ((l : ℕ) → (lowers l).b ≡ selected number_of_response (goes_way way l) upper.b) →
      ((x : ℕ × BBeat) → row ≡ Some x → InOrderOfId (map write_asked (lowers (lower_of shape x.0)).aw) (map write_reply ((lowers (lower_of shape x.0)).b ++ x.1 ∷ []))
      × InOrderOfId (map write_asked (completed (lowers (lower_of shape x.0)).aw (map mark_of_data (lowers (lower_of shape x.0)).w))) (map write_reply ((lowers (lower_of shape x.0)).b ++ x.1 ∷ []))) →
      OpenArePending port upper.aw w (writes_after_b row writes)
      × RoutesAreHeld above.writes port (lower_of shape) (map write_asked upper.aw) (map write_reply (upper.b ++ row_beats row)) (map route_of (writes_after_b row writes))
      × ((x : ℕ × BBeat) → row ≡ Some x → way x.1.tag.txn ≡ lower_of shape x.0)
  b-step None w writes front has filed one_port aw_is w_is b_is orders = (
    has,
    subst (λ (bs : List BBeat). RoutesAreHeld above.writes port (lower_of shape) (map write_asked upper.aw) (map write_reply bs) (map route_of writes)) (sym (append-nil upper.b)) filed,
    λ x e. absurd (cc),
  )
  b-step (Some x) w writes front has filed one_port aw_is w_is b_is orders =
      let order = orders x refl in (
        response-open x w writes front has filed one_port aw_is w_is b_is order.0 order.1,
        response-held x w writes front has filed one_port aw_is w_is b_is order.0 order.1,
        λ y e. let same : x ≡ y = cc in subst (λ (z : ℕ × BBeat). way z.1.tag.txn ≡ lower_of shape z.0) same (response-way x w writes front has filed one_port aw_is w_is b_is order.0 order.1),
      )

  -- AW
  pub aw-step : (row : Option (ℕ × Addr)) (w : List WBeat) (b : List BBeat) (writes : List WriteRoute) → OpenArePending port upper.aw w writes →
      RoutesAreHeld above.writes port (lower_of shape) (map write_asked upper.aw) (map write_reply b) (map route_of writes) → HaveOnePort (map route_of writes) →
      ((x : ℕ × Addr) → row ≡ Some x → KeepToPort x.1.id x.0 (map route_of writes)) →
      ((x : ℕ × Addr) → row ≡ Some x → x.0 ≡ port x.1.tag.txn) → OneIdAtATime above.writes (map write_asked (upper.aw ++ row_beats row)) (map write_reply b) →
      OpenArePending port (upper.aw ++ row_beats row) w (writes_after_aw row writes)
      × RoutesAreHeld above.writes port (lower_of shape) (map write_asked (upper.aw ++ row_beats row)) (map write_reply b) (map route_of (writes_after_aw row writes))
  aw-step None w b writes has filed one_port keep to one = (
    subst (λ (xs : List Addr). OpenArePending port xs w writes) (sym (append-nil upper.aw)) has,
    subst (λ (xs : List Addr). RoutesAreHeld above.writes port (lower_of shape) (map write_asked xs) (map write_reply b) (map route_of writes)) (sym (append-nil upper.aw)) filed,
  )
  aw-step (Some x) w b writes has filed one_port keep to one =
      let a = x.1 in
      let is : x.0 ≡ port a.tag.txn = to x refl in
      let more : map write_asked (upper.aw ++ a ∷ []) ≡ map write_asked upper.aw ++ write_asked a ∷ [] = map-append write_asked upper.aw (a ∷ []) in
      let write : ℕ → WriteRoute = λ p. record { id = a.id; port = p; is_open = true } in
      let opened = address-goes port upper.aw w writes has a in
      let files = request-held above.writes port (lower_of shape) (map write_asked upper.aw) (map write_reply b) (map route_of writes) filed one_port (write_asked a)
      (subst (λ (xs : List Asked). OneIdAtATime above.writes xs (map write_reply b)) more one) (subst (λ (p : ℕ). KeepToPort a.id p (map route_of writes)) is (keep x refl)) in (
        subst (λ (p : ℕ). OpenArePending port (upper.aw ++ a ∷ []) w (writes ++ write p ∷ [])) (sym is) opened,
        subst (λ (p : ℕ). RoutesAreHeld above.writes port (lower_of shape) (map write_asked (upper.aw ++ a ∷ [])) (map write_reply b) (map route_of (writes ++ write p ∷ []))) (sym is)
            (subst (λ (xs : List Asked). RoutesAreHeld above.writes port (lower_of shape) xs (map write_reply b) (map route_of (writes ++ write (port a.tag.txn) ∷ []))) (sym more)
            (subst (λ (es : List Route). RoutesAreHeld above.writes port (lower_of shape) (map write_asked upper.aw ++ write_asked a ∷ []) (map write_reply b) es)
            (sym (map-append route_of writes (write (port a.tag.txn) ∷ []))) files)),
      )

  -- R
  abbrev port_r : ℕ → ℕ
  port_r = read_port shape above

  abbrev way_r : ℕ → ℕ
  way_r = read_lower shape above

  pub r-step : (row : Option (ℕ × RBeat)) (reads : List Route) → RoutesAreHeld above.reads port_r (lower_of shape) (map burst_asked upper.ar) (map read_reply upper.r) reads → HaveOnePort reads →
      ((l : ℕ) → (lowers l).ar ≡ selected number_of_address (goes_way way_r l) upper.ar) → ((l : ℕ) → (lowers l).r ≡ selected number_of_read_data (goes_way way_r l) upper.r) →
      ((x : ℕ × RBeat) → row ≡ Some x → InOrderOfId (map burst_asked (lowers (lower_of shape x.0)).ar) (map read_reply ((lowers (lower_of shape x.0)).r ++ x.1 ∷ []))) →
      RoutesAreHeld above.reads port_r (lower_of shape) (map burst_asked upper.ar) (map read_reply (upper.r ++ row_beats row)) (reads_after_r row reads)
      × ((x : ℕ × RBeat) → row ≡ Some x → way_r x.1.tag.txn ≡ lower_of shape x.0)
  r-step None reads filed one_port ar_is r_is orders =
      (subst (λ (rs : List RBeat). RoutesAreHeld above.reads port_r (lower_of shape) (map burst_asked upper.ar) (map read_reply rs) reads) (sym (append-nil upper.r)) filed, λ x e. absurd (cc))
  r-step (Some x) reads filed one_port ar_is r_is orders =
      let l = lower_of shape x.0 in
      let selects = goes_way way_r l in
      let asked = map burst_asked upper.ar in
      let replies = map read_reply upper.r in
      let replies_here = map read_reply (lowers l).r in
      let order_here : InOrderOfId (map burst_asked (lowers l).ar) (replies_here ++ read_reply x.1 ∷ []) =
      subst (λ (ps : List Reply). InOrderOfId (map burst_asked (lowers l).ar) ps) (map-append read_reply (lowers l).r (x.1 ∷ [])) (orders x refl) in
      let asked_is : map burst_asked (lowers l).ar ≡ selected number_of_asked selects asked = ap (map burst_asked) (ar_is l) ∙ sym (filter_map (λ (y : Asked). selects (number_of_asked y)) burst_asked upper.ar) in
      let replies_are : replies_here ≡ selected number_of_reply selects replies = ap (map read_reply) (r_is l) ∙ sym (filter_map (λ (y : Reply). selects (number_of_reply y)) read_reply upper.r) in
      let files = answer-held above.reads port_r (lower_of shape) asked replies reads filed one_port l (map burst_asked (lowers l).ar) replies_here (read_reply x.1) asked_is replies_are order_here in
      let goes = answer-goes above.reads port_r (lower_of shape) asked replies reads filed one_port l (map burst_asked (lowers l).ar) replies_here (read_reply x.1) asked_is replies_are order_here in (
        subst (λ (ps : List Reply). RoutesAreHeld above.reads port_r (lower_of shape) asked ps (cond x.1.last (without_oldest id_of_route x.1.id reads) reads)) (sym (map-append read_reply upper.r (x.1 ∷ []))) files,
        λ y e. let same : x ≡ y = cc in subst (λ (z : ℕ × RBeat). way_r z.1.tag.txn ≡ lower_of shape z.0) same goes,
      )

  -- AR
  pub ar-step : (row : Option (ℕ × Addr)) (r : List RBeat) (reads : List Route) → RoutesAreHeld above.reads port_r (lower_of shape) (map burst_asked upper.ar) (map read_reply r) reads → HaveOnePort reads →
      ((x : ℕ × Addr) → row ≡ Some x → KeepToPort x.1.id x.0 reads) → ((x : ℕ × Addr) → row ≡ Some x → x.0 ≡ port_r x.1.tag.txn) →
      OneIdAtATime above.reads (map burst_asked (upper.ar ++ row_beats row)) (map read_reply r) →
      RoutesAreHeld above.reads port_r (lower_of shape) (map burst_asked (upper.ar ++ row_beats row)) (map read_reply r) (reads_after_ar row reads)
  ar-step None r reads filed one_port keep to one =
      subst (λ (xs : List Addr). RoutesAreHeld above.reads port_r (lower_of shape) (map burst_asked xs) (map read_reply r) reads) (sym (append-nil upper.ar)) filed
  ar-step (Some x) r reads filed one_port keep to one =
      let a = x.1 in
      let is : x.0 ≡ port_r a.tag.txn = to x refl in
      let more : map burst_asked (upper.ar ++ a ∷ []) ≡ map burst_asked upper.ar ++ burst_asked a ∷ [] = map-append burst_asked upper.ar (a ∷ []) in
      let route : ℕ → Route = λ p. record { id = a.id; port = p } in
      let files = request-held above.reads port_r (lower_of shape) (map burst_asked upper.ar) (map read_reply r) reads filed one_port (burst_asked a)
      (subst (λ (xs : List Asked). OneIdAtATime above.reads xs (map read_reply r)) more one) (subst (λ (p : ℕ). KeepToPort a.id p reads) is (keep x refl)) in
      subst (λ (p : ℕ). RoutesAreHeld above.reads port_r (lower_of shape) (map burst_asked (upper.ar ++ a ∷ [])) (map read_reply r) (reads ++ route p ∷ [])) (sym is)
      (subst (λ (xs : List Asked). RoutesAreHeld above.reads port_r (lower_of shape) xs (map read_reply r) (reads ++ route (port_r a.tag.txn) ∷ [])) (sym more) files)
