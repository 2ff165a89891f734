-- A demux that does nothing holds nothing back.
use Rattle.std.proofs.Common.{◌≡◌, ◌<◌, ◌≤◌, ℕ, Bool, true, List, [], ◌∷◌, ◌++◌, Option, Some, None, length, map, take, refl, sym, ◌∙◌, ap, ap₂, subst, arith}
use Rattle.std.specs.Prelude.{All, Contains, find, is_some, slice_get}
use Rattle.std.proofs.lemmas.Bool.{eqb-true, lt-ltb}
use Rattle.std.proofs.lemmas.List.{length-map, map-append, take_at}
use Rattle.std.proofs.lemmas.List.Elements.{All-contains, All-contains_itself, All-head, Contains-append_right}
use Rattle.std.proofs.lemmas.Option.{slice_get-get_or}
use Rattle.axi_beats.specs.declared.beat.Addr.{Addr}
use Rattle.axi_beats.specs.declared.beat.BBeat.{BBeat}
use Rattle.axi_beats.specs.declared.beat.RBeat.{RBeat}
use Rattle.axi_beats.specs.declared.beat.WBeat.{WBeat}
use Rattle.axi_link.specs.LinkView.{LinkView}
use Rattle.axi_link.specs.LinkWords.{has_room, head_of, link_of}
use Rattle.axi_link.specs.declared.out.Out.{Out}
use Rattle.axi_trail.proofs.MarkFacts.{pending_of_selected}
use Rattle.axi_trail.proofs.SelectionFacts.{all_lack_data, none_held_any_way}
use Rattle.axi_trail.proofs.WaitingFacts.{none-pending}
use Rattle.axi_trail.specs.LinkContracts.{Answers}
use Rattle.axi_trail.specs.Schedule.{Progress, Schedule}
use Rattle.axi_trail.specs.SelectionLaws.{goes_way}
use Rattle.axi_trail.specs.Trail.{Beats, Trail, seen_above}
use Rattle.axi_trail.specs.Waiting.{Waiting}
use Rattle.axi_trail.specs.Words.{Asked, InOrderOfId, Mark, Reply, beats_due, burst_asked, held_asked, len_of_asked, mark_of_data, marks, number_of_asked, number_of_mark, number_of_reply, number_of_waiting, pending_asked, read_replies, read_reply, reads_asked, write_asked, write_replies, write_reply, writes_asked}
use Rattle.demux_node.proofs.AnswerLemmas.{lower-among, lower-at, port_of_parts-within}
use Rattle.demux_node.proofs.AskLemmas.{each-lower}
use Rattle.demux_node.proofs.HeldLemmas.{all-filter, held-entry, is-next}
use Rattle.demux_node.proofs.OpenLemmas.{opens-first}
use Rattle.demux_node.proofs.PortLemmas.{port-within}
use Rattle.demux_node.proofs.TakeLemmas.{at-is, data-moves, has_place, ids-of_routes, read-moves, read_data-moves, response-moves, write-moves}
use Rattle.demux_node.specs.DemuxState.{DemuxState, IsDemux, lower_of, port_for, route_of}
use Rattle.demux_node.specs.DemuxTable.{at_port, demux_out, id_of_write, is_open_write, take_below}
use Rattle.demux_node.specs.DemuxTrail.{DemuxKeeps, closed_write, demux_kind, open_write, read_lower, read_port, route_of_held, write_lower, write_port}
use Rattle.demux_node.specs.declared.route.WriteRoute.{WriteRoute}
use Rattle.flight.specs.Entries.{place_of}
use Rattle.node_core.specs.Acted.{no_moves}
use Rattle.node_core.specs.Rows.{take_of}
use Rattle.node_shape.proofs.OneLinkLemmas.{all-one, of-one, one-has}
use Rattle.node_shape.specs.KindLaws.{IdleHoldsNothing}
use Rattle.node_shape.specs.Quiet.{AreDeep, HasNoRead, HasNoWrite, HoldsNothingBack, LacksData}
use Rattle.plain_lists.proofs.CutLemmas.{contains-map}
use Rattle.plain_lists.proofs.KeyLemmas.{filter_map}
use Rattle.plain_lists.proofs.PrefixLemmas.{prefix_agree}
use Rattle.plain_lists.proofs.SelectedLemmas.{selected-passes}
use Rattle.plain_lists.specs.Keys.{selected}

none-is : {X : Type 0} (o : Option X) (x : X) → o ≡ None → o ≡ Some x → ⊥
none-is o x none some = absurd (let no : None ≡ Some x = sym none ∙ some in cc)

no-head : {X : Type 0} (queue : List X) → ((x : X) (rest : List X) → queue ≡ x ∷ rest → ⊥) → length queue ≡ 0
no-head [] never = refl
no-head (x ∷ queue) never = absurd (never x queue refl)

no-routes : (writes : List WriteRoute) → map route_of writes ≡ [] → writes ≡ []
no-routes [] is = refl
no-routes (w ∷ writes) is = absurd (cc)

module _ (schedules : ℕ → Schedule) (now : Progress) (links : List LinkView) (s : DemuxState) (uppers lowers : Trail) (fact : IsDemux s) (keeps : DemuxKeeps schedules s (uppers s.shape.upper) lowers)
    (seen : All (λ l. Answers (schedules l) now (seen_above (lowers l) (link_of links l))) s.shape.lowers) (deep : AreDeep (link_of links) s.shape.lowers) (quiet : demux_out links s ≡ no_moves) where
  abbrev u : ℕ
  u = s.shape.upper

  abbrev top : Beats
  top = uppers s.shape.upper

  abbrev plan : Schedule
  plan = schedules s.shape.upper

  abbrev queues : ℕ → LinkView
  queues l = link_of links l

  abbrev write_way : ℕ → ℕ
  write_way = write_lower s.shape (schedules s.shape.upper)

  abbrev read_way : ℕ → ℕ
  read_way = read_lower s.shape (schedules s.shape.upper)

  asked-w : (l : ℕ) → writes_asked (lowers l) ≡ selected number_of_asked (goes_way write_way l) (writes_asked top)
  asked-w l = ap (map write_asked) (keeps.passed l).aw ∙ sym (filter_map (λ (x : Asked). goes_way write_way l (number_of_asked x)) write_asked top.aw)

  replies-w : (l : ℕ) → write_replies (lowers l) ≡ selected number_of_reply (goes_way write_way l) (write_replies top)
  replies-w l = ap (map write_reply) (keeps.passed l).b ∙ sym (filter_map (λ (x : Reply). goes_way write_way l (number_of_reply x)) write_reply top.b)

  asked-r : (l : ℕ) → reads_asked (lowers l) ≡ selected number_of_asked (goes_way read_way l) (reads_asked top)
  asked-r l = ap (map burst_asked) (keeps.passed l).ar ∙ sym (filter_map (λ (x : Asked). goes_way read_way l (number_of_asked x)) burst_asked top.ar)

  replies-r : (l : ℕ) → read_replies (lowers l) ≡ selected number_of_reply (goes_way read_way l) (read_replies top)
  replies-r l = ap (map read_reply) (keeps.passed l).r ∙ sym (filter_map (λ (x : Reply). goes_way read_way l (number_of_reply x)) read_reply top.r)

  answers-seen : (l : ℕ) → Contains s.shape.lowers l → Answers (schedules l) now (seen_above (lowers l) (link_of links l))
  answers-seen l among = All-contains (λ (l : ℕ). Answers (schedules l) now (seen_above (lowers l) (link_of links l))) s.shape.lowers l seen among

  deep-at : (l : ℕ) → Contains s.shape.lowers l → 0 < (link_of links l).depth
  deep-at l among = All-contains (λ (l : ℕ). 0 < (link_of links l).depth) s.shape.lowers l deep among

  -- the port of a link below
  port-at : (l : ℕ) (among : Contains s.shape.lowers l) → slice_get s.shape.lowers among.0 ≡ Some l
  port-at l among = slice_get-get_or s.shape.lowers among.0 l among.1 ∙ ap (λ (n : ℕ). Some n) among.2

  no-response : length (queues u).b < (queues u).depth → (l : ℕ) → Contains s.shape.lowers l → length (queues l).b ≡ 0
  no-response room l among = no-head (queues l).b (λ x rest queue.
      let order : InOrderOfId (writes_asked (lowers l)) (write_replies (lowers l) ++ write_reply x ∷ []) =
      subst (λ (ps : List Reply). InOrderOfId (writes_asked (lowers l)) ps) (ap (λ (bs : List BBeat). map write_reply ((lowers l).b ++ take 1 bs)) queue ∙ map-append write_reply (lowers l).b (x ∷ []))
      (answers-seen l among).answers_in_order_of_id in
      let port = write_port s.shape plan in
      let next = is-next plan.writes port (lower_of s.shape) (writes_asked top) (write_replies top) (map route_of s.writes) keeps.writes fact.writes l (writes_asked (lowers l)) (write_replies (lowers l)) (write_reply x)
      (asked-w l) (replies-w l) order in
      let entry = held-entry plan.writes port (lower_of s.shape) (writes_asked top) (write_replies top) (map route_of s.writes) keeps.writes fact.writes next.w next.held in
      let placed : is_some (place_of x.id (map id_of_write s.writes)) ≡ true =
      ap (λ (ids : List ℕ). is_some (place_of x.id ids)) (sym (ids-of_routes s.writes)) ∙ has_place x.id (map route_of s.writes) (route_of_held port next.w) entry next.own in
      let moves = response-moves links s fact among.0 l x (port-at l among) among.1 (ap (λ (q : List BBeat). head_of q) queue) placed (lt-ltb (length (queues u).b) (queues u).depth room) in
      none-is (demux_out links s).b_take (lower_of s.shape moves.0.0) (ap (λ (o : Out). o.b_take) quiet) (ap (take_below s.shape) moves.1))

  no-read_data : length (queues u).r < (queues u).depth → (l : ℕ) → Contains s.shape.lowers l → length (queues l).r ≡ 0
  no-read_data room l among = no-head (queues l).r (λ x rest queue.
      let order : InOrderOfId (reads_asked (lowers l)) (read_replies (lowers l) ++ read_reply x ∷ []) =
      subst (λ (ps : List Reply). InOrderOfId (reads_asked (lowers l)) ps) (ap (λ (rs : List RBeat). map read_reply ((lowers l).r ++ take 1 rs)) queue ∙ map-append read_reply (lowers l).r (x ∷ []))
      (answers-seen l among).reads_in_order_of_id in
      let port = read_port s.shape plan in
      let next = is-next plan.reads port (lower_of s.shape) (reads_asked top) (read_replies top) s.reads keeps.reads fact.reads l (reads_asked (lowers l)) (read_replies (lowers l)) (read_reply x)
      (asked-r l) (replies-r l) order in
      let entry = held-entry plan.reads port (lower_of s.shape) (reads_asked top) (read_replies top) s.reads keeps.reads fact.reads next.w next.held in
      let moves = read_data-moves links s fact among.0 l x (port-at l among) among.1 (ap (λ (q : List RBeat). head_of q) queue) (has_place x.id s.reads (route_of_held port next.w) entry next.own)
      (lt-ltb (length (queues u).r) (queues u).depth room) in
      none-is (demux_out links s).r_take (lower_of s.shape moves.0.0) (ap (λ (o : Out). o.r_take) quiet) (ap (take_below s.shape) moves.1))

  -- a port has its link, and where nothing waits there, room
  at-port : (port : ℕ) → port < length s.shape.lowers → at_port links s.shape port ≡ link_of links (lower_of s.shape port)
  at-port port within = at-is links s.shape port (lower_of s.shape port) (lower-at s.shape port within)

  roomy : {X : Type 0} (queue_of : LinkView → List X) (port : ℕ) → port < length s.shape.lowers → length (queue_of (link_of links (lower_of s.shape port))) ≡ 0 →
      has_room (at_port links s.shape port).depth (queue_of (at_port links s.shape port)) ≡ true
  roomy queue_of port within none =
      ap (λ (k : LinkView). has_room k.depth (queue_of k)) (at-port port within)
      ∙ lt-ltb (length (queue_of (link_of links (lower_of s.shape port)))) (link_of links (lower_of s.shape port)).depth (omega (arith, none, deep-at (lower_of s.shape port) (lower-among s.shape port within)))

  no-read : All (λ l. HasNoRead (queues l) (lowers l)) s.shape.lowers → HasNoRead (queues u) top
  no-read done =
      let at : (l : ℕ) → Contains s.shape.lowers l → HasNoRead (queues l) (lowers l) = λ l among. All-contains (λ l. HasNoRead (queues l) (lowers l)) s.shape.lowers l done among in
      let none : held_asked (reads_asked top) (read_replies top) ≡ [] =
      none_held_any_way read_way (reads_asked top) (read_replies top) keeps.reads.in_order
      (λ t. ap₂ held_asked (sym (asked-r (read_way t))) (sym (replies-r (read_way t)))
      ∙ (at (read_way t) (lower-among s.shape (read_port s.shape plan t) (port_of_parts-within s.shape fact.shape (plan.reads t).parts))).none_held) in
      let empty : s.reads ≡ [] = keeps.reads.entries ∙ ap (map (route_of_held (read_port s.shape plan))) none in
      record {
        none_waits = no-head (queues u).ar (λ a rest queue.
            let within = port-within s.shape fact.shape a.addr in
            let room = roomy (λ k. k.ar) (port_for s.shape a.addr) within (at (lower_of s.shape (port_for s.shape a.addr)) (lower-among s.shape (port_for s.shape a.addr) within)).none_waits in
            let moves = read-moves links s fact a empty (ap (λ (q : List Addr). head_of q) queue) room in
            none-is (demux_out links s).ar_take u (ap (λ (o : Out). o.ar_take) quiet) (ap (λ (o : Option (ℕ × Addr)). take_of u (is_some o)) moves));
        none_held = none;
      }

  no-write : All (λ l. HasNoWrite (queues l) (lowers l)) s.shape.lowers → HasNoWrite (queues u) top
  no-write done =
      let at : (l : ℕ) → Contains s.shape.lowers l → HasNoWrite (queues l) (lowers l) = λ l among. All-contains (λ l. HasNoWrite (queues l) (lowers l)) s.shape.lowers l done among in
      let none : held_asked (writes_asked top) (write_replies top) ≡ [] =
      none_held_any_way write_way (writes_asked top) (write_replies top) keeps.writes.in_order
      (λ t. ap₂ held_asked (sym (asked-w (write_way t))) (sym (replies-w (write_way t)))
      ∙ (at (write_way t) (lower-among s.shape (write_port s.shape plan t) (port_of_parts-within s.shape fact.shape (plan.writes t).parts))).none_held) in
      let empty : s.writes ≡ [] = no-routes s.writes (keeps.writes.entries ∙ ap (map (route_of_held (write_port s.shape plan))) none) in
      record {
        none_waits = no-head (queues u).aw (λ a rest queue.
            let within = port-within s.shape fact.shape a.addr in
            let room = roomy (λ k. k.aw) (port_for s.shape a.addr) within (at (lower_of s.shape (port_for s.shape a.addr)) (lower-among s.shape (port_for s.shape a.addr) within)).none_waits in
            let moves = write-moves links s fact a empty (ap (λ (q : List Addr). head_of q) queue) room in
            none-is (demux_out links s).aw_take u (ap (λ (o : Out). o.aw_take) quiet) (ap (λ (o : Option (ℕ × Addr)). take_of u (is_some o)) moves));
        none_held = none;
      }

  -- Where a link below lacks data, the link above does.
  module _ (l : ℕ) (among : Contains s.shape.lowers l) (lacking : LacksData (queues l) (lowers l)) where
    abbrev selects : ℕ → Bool
    selects = goes_way write_way l

    abbrev bursts : List Asked
    bursts = map burst_asked top.aw

    abbrev waiting : List (Waiting Asked)
    waiting = pending_asked (length top.w) (map burst_asked top.aw)

    bursts-are : map burst_asked (lowers l).aw ≡ selected number_of_asked selects bursts
    bursts-are = ap (map burst_asked) (keeps.passed l).aw ∙ sym (filter_map (λ (x : Asked). selects (number_of_asked x)) burst_asked top.aw)

    marks-are : map mark_of_data (lowers l).w ≡ selected number_of_mark selects (map mark_of_data top.w)
    marks-are = ap (map mark_of_data) (keeps.passed l).w ∙ sym (filter_map (λ (x : Mark). selects (number_of_mark x)) mark_of_data top.w)

    long : length (selected number_of_mark selects (map mark_of_data top.w)) ≡ length (lowers l).w
    long = ap (λ (ms : List Mark). length ms) (sym marks-are) ∙ length-map (lowers l).w mark_of_data

    lacks-above : length top.w < beats_due bursts
    lacks-above =
        let all = all_lack_data selects bursts (map mark_of_data top.w) (prefix_agree keeps.open_ones.in_order) (omega (arith, long, lacking.lacks, ap beats_due bursts-are)) in
        omega (arith, all, length-map top.w mark_of_data)

    -- what is pending there
    own : selected number_of_waiting selects waiting ≡ pending_asked (length (lowers l).w) (map burst_asked (lowers l).aw)
    own =
        let taken : take (length top.w) (marks bursts) ≡ map mark_of_data top.w =
        ap (take (length top.w)) keeps.open_ones.in_order.whole ∙ take_at (map mark_of_data top.w) keeps.open_ones.in_order.rest (length top.w) (length-map top.w mark_of_data) in
        pending_of_selected selects (length top.w) bursts
        ∙ ap (λ (ms : List Mark). pending_asked (length (selected number_of_mark selects ms)) (selected number_of_asked selects bursts)) taken
        ∙ ap₂ (λ (n : ℕ) (xs : List Asked). pending_asked n xs) long (sym bursts-are)

    -- all pending ones have one port
    open-entry : (x : Waiting Asked) → Contains waiting x → Contains s.writes (open_write (write_port s.shape plan) x)
    open-entry x in_x =
        subst (λ (es : List WriteRoute). Contains es (open_write (write_port s.shape plan) x)) (sym keeps.open_ones.entries)
        (Contains-append_right (map closed_write keeps.open_ones.closed) (map (open_write (write_port s.shape plan)) waiting) (open_write (write_port s.shape plan) x)
        (contains-map (open_write (write_port s.shape plan)) waiting x in_x))

    -- so the oldest one goes there
    first-goes : (x : Waiting Asked) → Contains waiting x → write_way x.request.number ≡ l
    first-goes x in_x = go (selected number_of_waiting selects waiting) refl
      where
        go : (ws : List (Waiting Asked)) → selected number_of_waiting selects waiting ≡ ws → write_way x.request.number ≡ l
        go [] none =
            absurd (let all : beats_due (map burst_asked (lowers l).aw) ≤ length (lowers l).w = none-pending len_of_asked (length (lowers l).w) (map burst_asked (lowers l).aw) (sym own ∙ none) in
            omega (arith, all, lacking.lacks))
        go (y ∷ more) some =
            let in_y : Contains waiting y = All-head (Contains waiting) y more (subst (λ (ws : List (Waiting Asked)). All (Contains waiting) ws) some
            (all-filter (Contains waiting) (λ (w : Waiting Asked). selects (number_of_waiting w)) waiting (All-contains_itself waiting))) in
            let goes : write_way y.request.number ≡ l = eqb-true (write_way y.request.number) l (All-head (λ (w : Waiting Asked). selects (number_of_waiting w) ≡ true) y more
            (subst (λ (ws : List (Waiting Asked)). All (λ (w : Waiting Asked). selects (number_of_waiting w) ≡ true) ws) some (selected-passes number_of_waiting selects waiting))) in
            ap (lower_of s.shape) (fact.open_ones (open_write (write_port s.shape plan) x) (open_write (write_port s.shape plan) y) (open-entry x in_x) (open-entry y in_y) refl refl) ∙ goes

    stalls : (beat : WBeat) (rest : List WBeat) → (queues u).w ≡ beat ∷ rest → (ws : List (Waiting Asked)) → waiting ≡ ws → ⊥
    stalls beat rest queue [] is = absurd (let all : beats_due bursts ≤ length top.w = none-pending len_of_asked (length top.w) bursts is in omega (arith, all, lacks-above))
    stalls beat rest queue (x ∷ others) is =
        let port = write_port s.shape plan x.request.number in
        let in_x : Contains waiting x = subst (λ (ws : List (Waiting Asked)). Contains ws x) (sym is) (0, omega arith, refl) in
        let found = ap (λ (es : List WriteRoute). find is_open_write es) (keeps.open_ones.entries ∙ ap (λ (ws : List (Waiting Asked)). map closed_write keeps.open_ones.closed ++ map (open_write (write_port s.shape plan)) ws) is)
        ∙ opens-first (write_port s.shape plan) keeps.open_ones.closed x others in
        let room = roomy (λ k. k.w) port (port_of_parts-within s.shape fact.shape (plan.writes x.request.number).parts) (ap (λ (k : ℕ). length (queues k).w) (first-goes x in_x) ∙ lacking.none_waits) in
        let moves = data-moves links s fact (open_write (write_port s.shape plan) x) beat found (ap (λ (q : List WBeat). head_of q) queue) room in
        none-is (demux_out links s).w_take u (ap (λ (o : Out). o.w_take) quiet) (ap (λ (o : Option (ℕ × WBeat)). take_of u (is_some o)) moves)

    data-lacks_above : (v : ℕ) × Contains (u ∷ []) v × LacksData (queues v) (uppers v)
    data-lacks_above = (u, one-has u, record { none_waits = no-head (queues u).w (λ beat rest queue. stalls beat rest queue waiting refl); lacks = lacks-above })

  pub holds-nothing : HoldsNothingBack (link_of links) uppers lowers (s.shape.upper ∷ []) s.shape.lowers true
  holds-nothing = record {
    responses = λ room. each-lower (λ l. length (queues l).b ≡ 0) s.shape.lowers (no-response (of-one (λ l. length (queues l).b < (queues l).depth) s.shape.upper room));
    read_data = λ room. each-lower (λ l. length (queues l).r ≡ 0) s.shape.lowers (no-read_data (of-one (λ l. length (queues l).r < (queues l).depth) s.shape.upper room));
    reads = λ room none done. all-one (λ l. HasNoRead (queues l) (uppers l)) s.shape.upper (no-read done);
    data_lacks = λ l among lacking. data-lacks_above l among lacking;
    writes = λ room none fed done. all-one (λ l. HasNoWrite (queues l) (uppers l)) s.shape.upper (no-write done);
    ends = λ none_b none_r reads writes. refl;
  }

module _ (E : Type 0) where
  pub demux-holds_nothing : IdleHoldsNothing (demux_kind {E = E})
  demux-holds_nothing schedules now rounds links s passed fact keeps around above below idle =
      holds-nothing schedules now links s passed.uppers passed.lowers fact keeps around.answered_seen below (idle 0 (omega arith))
