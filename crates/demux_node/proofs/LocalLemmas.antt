-- What a demux does wherever it can.
use Rattle.std.proofs.Common.{◌≡◌, ◌<◌, ◌≤◌, ℕ, Bool, true, false, cond, List, [], ◌∷◌, ◌++◌, Option, None, Some, length, map, take, refl, sym, ◌∙◌, ap, subst, arith, append-nil}
use Rattle.std.specs.Prelude.{All, Contains, IfSome, IsSome, IsTrue, find, flat_map, is_some, slice_get}
use Rattle.std.specs.Option.{option_and_then, option_map, option_map_or}
use Rattle.std.proofs.lemmas.Bool.{lt-ltb}
use Rattle.std.proofs.lemmas.List.{length-map, map-append}
use Rattle.std.proofs.lemmas.List.Elements.{All-contains, All-head, All-tail}
use Rattle.std.proofs.lemmas.Option.{slice_get-get_or, slice_get_within}
use Rattle.axi_beats.specs.declared.beat.Addr.{Addr}
use Rattle.axi_beats.specs.declared.beat.BBeat.{BBeat}
use Rattle.axi_beats.specs.declared.beat.RBeat.{RBeat}
use Rattle.axi_beats.specs.declared.beat.WBeat.{WBeat}
use Rattle.axi_link.specs.LinkView.{LinkView}
use Rattle.axi_link.specs.LinkWords.{has_room, head_of, link_of}
use Rattle.axi_trail.proofs.SelectionFacts.{all_lack_data}
use Rattle.axi_trail.proofs.WaitingFacts.{none-pending}
use Rattle.axi_trail.specs.SelectionLaws.{goes_way}
use Rattle.axi_trail.specs.Schedule.{Schedule}
use Rattle.axi_trail.specs.Trail.{Beats, Trail}
use Rattle.axi_trail.specs.Waiting.{Waiting}
use Rattle.axi_trail.specs.Words.{Asked, Mark, beats_due, burst_asked, len_of_asked, mark_of_data, number_of_asked, number_of_mark, pending_asked}
use Rattle.demux_node.proofs.AnswerLemmas.{lower-among, lower-at}
use Rattle.demux_node.proofs.MoveLemmas.{no_oldest}
use Rattle.demux_node.proofs.OpenLemmas.{opens-first}
use Rattle.demux_node.proofs.PortLemmas.{port-within}
use Rattle.demux_node.proofs.RowLemmas.{ar-is, aw-is, w-is}
use Rattle.demux_node.proofs.TableLemmas.{routes-after_w}
use Rattle.demux_node.proofs.TakeLemmas.{at-is, data-moves, ids-of_routes, read-moves, read_data-moves, response-moves, write-moves}
use Rattle.demux_node.specs.DemuxLaws.{demux_inside, read_entries, write_entries}
use Rattle.demux_node.specs.DemuxState.{DemuxShape, DemuxState, lower_of, port_for, route_of}
use Rattle.demux_node.specs.DemuxTable.{at_port, demux_ar, demux_aw, demux_b, demux_r, demux_w, id_of_route, id_of_write, is_open_write, put_below, reads_after_ar, reads_after_r, take_below, writes_after_aw, writes_after_b, writes_after_w}
use Rattle.demux_node.specs.DemuxTrail.{DemuxKeeps, closed_write, demux_kind, open_write, write_lower, write_port}
use Rattle.demux_node.specs.declared.route.Route.{Route}
use Rattle.demux_node.specs.declared.route.WriteRoute.{WriteRoute}
use Rattle.flight.proofs.EntryFacts.{place_of-found, remove-first_place}
use Rattle.flight.specs.Entries.{place_of}
use Rattle.node_core.specs.Rows.{take_of}
use Rattle.node_shape.proofs.OneLinkLemmas.{is-one, of-one, one-has}
use Rattle.node_shape.specs.LocalLaws.{AddressesTaken, AnswersTaken, AwaitedGoesOn, DataAwaited, EntriesStay, NoOtherGoesOn, SomeIsAwaited, head_taken, left}
use Rattle.plain_lists.proofs.CutLemmas.{without-map}
use Rattle.plain_lists.proofs.KeyLemmas.{filter_map}
use Rattle.plain_lists.proofs.PrefixLemmas.{prefix_agree}
use Rattle.plain_lists.specs.Keys.{selected, without_oldest}

port-at : (lowers : List ℕ) (l : ℕ) (among : Contains lowers l) → slice_get lowers among.0 ≡ Some l
port-at lowers l among = slice_get-get_or lowers among.0 l among.1 ∙ ap (λ (n : ℕ). Some n) among.2

no-routes : (writes : List WriteRoute) → map route_of writes ≡ [] → writes ≡ []
no-routes [] is = refl
no-routes (w ∷ writes) is = absurd (cc)

-- there is room at a port, where each link below has some
roomy : {X : Type 0} (queue_of : LinkView → List X) (links : List LinkView) (shape : DemuxShape) (port : ℕ) → port < length shape.lowers →
    All (λ l. length (queue_of (link_of links l)) < (link_of links l).depth) shape.lowers → has_room (at_port links shape port).depth (queue_of (at_port links shape port)) ≡ true
roomy queue_of links shape port within all =
    let l = lower_of shape port in
    ap (λ (k : LinkView). has_room k.depth (queue_of k)) (at-is links shape port l (lower-at shape port within))
    ∙ lt-ltb (length (queue_of (link_of links l))) (link_of links l).depth (All-contains (λ l. length (queue_of (link_of links l)) < (link_of links l).depth) shape.lowers l all (lower-among shape port within))

-- a row that moves takes and puts
takes-below : {X : Type 0} (shape : DemuxShape) (row : Option (ℕ × X)) (x : ℕ × X) → row ≡ Some x → IsSome (take_below shape row)
takes-below {X} shape row x is = ap (λ (o : Option (ℕ × X)). is_some (take_below shape o)) is

takes-above : {X : Type 0} (upper : ℕ) (row : Option (ℕ × X)) (x : ℕ × X) → row ≡ Some x → take_of upper (is_some row) ≡ Some upper
takes-above {X} upper row x is = ap (λ (o : Option (ℕ × X)). take_of upper (is_some o)) is

-- the head of the one link above
its-head : {X : Type 0} (queue_of : LinkView → List X) (links : List LinkView) (upper u : ℕ) (x : X) → Contains (upper ∷ []) u → head_of (queue_of (link_of links u)) ≡ Some x →
    head_of (queue_of (link_of links upper)) ≡ Some x
its-head queue_of links upper u x among is = subst (λ (n : ℕ). head_of (queue_of (link_of links n)) ≡ Some x) (is-one upper u among) is

module _ (E : Type 0) where
  pub demux-takes_answers : AnswersTaken (demux_kind {E = E}) demux_inside
  demux-takes_answers = (
    λ round links s fact can l b among head places room.
        let moves = response-moves links s fact among.0 l b (port-at s.shape.lowers l among) among.1 head places
        (lt-ltb (length (link_of links s.shape.upper).b) (link_of links s.shape.upper).depth (of-one (λ k. length (link_of links k).b < (link_of links k).depth) s.shape.upper room)) in
        takes-below s.shape (demux_b links s) moves.0 moves.1,
    λ round links s fact can l r among head places room.
        let moves = read_data-moves links s fact among.0 l r (port-at s.shape.lowers l among) among.1 head places
        (lt-ltb (length (link_of links s.shape.upper).r) (link_of links s.shape.upper).depth (of-one (λ k. length (link_of links k).r < (link_of links k).depth) s.shape.upper room)) in
        takes-below s.shape (demux_r links s) moves.0 moves.1,
  )

  pub demux-takes_addresses : AddressesTaken (demux_kind {E = E}) demux_inside
  demux-takes_addresses = (
    λ round links s fact can u a none idle among head room.
        ap (λ o. is_some o) (takes-above s.shape.upper (demux_aw links s) (port_for s.shape a.addr, a)
        (write-moves links s fact a (no-routes s.writes none) (its-head (λ k. k.aw) links s.shape.upper u a among head)
        (roomy (λ k. k.aw) links s.shape (port_for s.shape a.addr) (port-within s.shape fact.shape a.addr) room))),
    λ round links s fact can u a none idle among head room.
        ap (λ o. is_some o) (takes-above s.shape.upper (demux_ar links s) (port_for s.shape a.addr, a)
        (read-moves links s fact a none (its-head (λ k. k.ar) links s.shape.upper u a among head)
        (roomy (λ k. k.ar) links s.shape (port_for s.shape a.addr) (port-within s.shape fact.shape a.addr) room))),
  )

-- Write data.

found-has : (P : WriteRoute → Type 0) (writes : List WriteRoute) (write : WriteRoute) → All P writes → find is_open_write writes ≡ Some write → P write
found-has P [] write all is = absurd (cc)
found-has P (w ∷ writes) write all is = go w.is_open is (found-has P writes write (All-tail P w writes all))
  where
    go : (b : Bool) → cond b (Some w) (find is_open_write writes) ≡ Some write → (find is_open_write writes ≡ Some write → P write) → P write
    go true is later = let same : w ≡ write = cc in subst P same (All-head P w writes all)
    go false is later = later is

-- where a link below lacks data, the link above does
pub lacks-above : (schedules : ℕ → Schedule) (s : DemuxState) (upper : Beats) (lowers : Trail) → DemuxKeeps schedules s upper lowers → (l : ℕ) →
    length (lowers l).w < beats_due (map burst_asked (lowers l).aw) → length upper.w < beats_due (map burst_asked upper.aw)
lacks-above schedules s upper lowers keeps l lacks =
    let selects = goes_way (write_lower s.shape (schedules s.shape.upper)) l in
    let bursts_are : map burst_asked (lowers l).aw ≡ selected number_of_asked selects (map burst_asked upper.aw) =
    ap (map burst_asked) (keeps.passed l).aw ∙ sym (filter_map (λ (x : Asked). selects (number_of_asked x)) burst_asked upper.aw) in
    let marks_are : map mark_of_data (lowers l).w ≡ selected number_of_mark selects (map mark_of_data upper.w) =
    ap (map mark_of_data) (keeps.passed l).w ∙ sym (filter_map (λ (x : Mark). selects (number_of_mark x)) mark_of_data upper.w) in
    let long : length (selected number_of_mark selects (map mark_of_data upper.w)) ≡ length (lowers l).w =
    ap (λ (ms : List Mark). length ms) (sym marks_are) ∙ length-map (lowers l).w mark_of_data in
    let all = all_lack_data selects (map burst_asked upper.aw) (map mark_of_data upper.w) (prefix_agree keeps.open_ones.in_order) (omega (arith, long, lacks, ap beats_due bursts_are)) in
    omega (arith, all, length-map upper.w mark_of_data)

module _ (E : Type 0) where
  demux-goes_on : AwaitedGoesOn (demux_kind {E = E}) demux_inside
  demux-goes_on round links s fact can u w awaited head room = go (find is_open_write s.writes) refl awaited room
    where
      go : (o : Option WriteRoute) → find is_open_write s.writes ≡ o → option_map (λ (write : WriteRoute). s.shape.upper) o ≡ Some u →
          length (link_of links (option_map_or (λ (write : WriteRoute). lower_of s.shape write.port) o 0)).w < (link_of links (option_map_or (λ (write : WriteRoute). lower_of s.shape write.port) o 0)).depth →
          IsSome (put_below s.shape (demux_w links s)) × (IsTrue true → take_of s.shape.upper (is_some (demux_w links s)) ≡ Some u)
      go None found awaited room = absurd (cc)
      go (Some write) found awaited room =
          let upper : s.shape.upper ≡ u = cc in
          let within : write.port < length s.shape.lowers = found-has (λ v. v.port < length s.shape.lowers) s.writes write fact.ports found in
          let here : head_of (link_of links s.shape.upper).w ≡ Some w = subst (λ (n : ℕ). head_of (link_of links n).w ≡ Some w) (sym upper) head in
          let free : has_room (at_port links s.shape write.port).depth (at_port links s.shape write.port).w ≡ true =
          ap (λ (k : LinkView). has_room k.depth k.w) (at-is links s.shape write.port (lower_of s.shape write.port) (lower-at s.shape write.port within))
          ∙ lt-ltb (length (link_of links (lower_of s.shape write.port)).w) (link_of links (lower_of s.shape write.port)).depth room in
          let moves = data-moves links s fact write w found here free in
          (ap (λ o. is_some (put_below s.shape o)) moves, λ whole. takes-above s.shape.upper (demux_w links s) (write.port, w) moves ∙ ap (λ (n : ℕ). Some n) upper)

  demux-no_other : NoOtherGoesOn (demux_kind {E = E}) demux_inside
  demux-no_other round links s fact can = go (demux_w links s) refl
    where
      go : (row : Option (ℕ × WBeat)) → demux_w links s ≡ row →
          IfSome (take_of s.shape.upper (is_some row)) (λ u. option_map (λ (write : WriteRoute). s.shape.upper) (find is_open_write s.writes) ≡ Some u)
          × IfSome (put_below s.shape row) (λ put. put.0 ≡ option_map_or (λ (write : WriteRoute). lower_of s.shape write.port) (find is_open_write s.writes) 0)
      go None is = (tt, tt)
      go (Some x) is =
          let row = w-is links s x is in (
            ap (option_map (λ (write : WriteRoute). s.shape.upper)) row.found,
            ap (lower_of s.shape) row.port_is ∙ sym (ap (λ (o : Option WriteRoute). option_map_or (λ (write : WriteRoute). lower_of s.shape write.port) o 0) row.found),
          )

  demux-some_awaited : SomeIsAwaited (demux_kind {E = E}) demux_inside
  demux-some_awaited schedules rounds s passed keeps l among lacks = go (pending_asked (length (passed.uppers s.shape.upper).w) (map burst_asked (passed.uppers s.shape.upper).aw)) refl
    where
      go : (ws : List (Waiting Asked)) → pending_asked (length (passed.uppers s.shape.upper).w) (map burst_asked (passed.uppers s.shape.upper).aw) ≡ ws →
          (u : ℕ) × (option_map (λ (write : WriteRoute). s.shape.upper) (find is_open_write s.writes) ≡ Some u) × Contains (s.shape.upper ∷ []) u
      go [] is =
          let top = passed.uppers s.shape.upper in
          let all : beats_due (map burst_asked top.aw) ≤ length top.w = none-pending len_of_asked (length top.w) (map burst_asked top.aw) is in
          let some : length top.w < beats_due (map burst_asked top.aw) = lacks-above schedules s top passed.lowers keeps l lacks in
          absurd (omega (arith, all, some))
      go (x ∷ others) is =
          let port = write_port s.shape (schedules s.shape.upper) in
          let found = ap (λ (es : List WriteRoute). find is_open_write es) (keeps.open_ones.entries ∙ ap (λ (ws : List (Waiting Asked)). map closed_write keeps.open_ones.closed ++ map (open_write port) ws) is)
          ∙ opens-first port keeps.open_ones.closed x others in
          (s.shape.upper, ap (option_map (λ (write : WriteRoute). s.shape.upper)) found, one-has s.shape.upper)

  pub demux-awaits_data : DataAwaited (demux_kind {E = E}) demux_inside
  demux-awaits_data = (demux-goes_on, demux-no_other, demux-some_awaited)

-- Entries.

-- the oldest route of an ID leaves from its place
route-leaves : (id : ℕ) (routes : List Route) → left (place_of id (map id_of_route routes)) routes ≡ without_oldest id_of_route id routes
route-leaves id routes = go (place_of id (map id_of_route routes)) refl
  where
    go : (o : Option ℕ) → place_of id (map id_of_route routes) ≡ o → left o routes ≡ without_oldest id_of_route id routes
    go None is = sym (no_oldest id_of_route id routes is)
    go (Some place) is = remove-first_place id_of_route id routes place is

route-within : (id : ℕ) (routes : List Route) (place : ℕ) → place_of id (map id_of_route routes) ≡ Some place → place < length routes
route-within id routes place is =
    let within = slice_get_within (map id_of_route routes) place id (place_of-found id (map id_of_route routes) place is) in
    omega (arith, within, length-map routes id_of_route)

-- the route that an address adds
abbrev added : Option (ℕ × Addr) → List Route
added None = []
added (Some x) = record { id = x.1.id; port = x.0 } ∷ []

-- the writes after a round
writes-stay : (aw : Option (ℕ × Addr)) (w : Option (ℕ × WBeat)) (b : Option (ℕ × BBeat)) (writes : List WriteRoute) →
    map route_of (writes_after_aw aw (writes_after_b b (writes_after_w w writes))) ≡ left (option_and_then (λ (x : ℕ × BBeat). place_of x.1.id (map id_of_write writes)) b) (map route_of writes) ++ added aw
writes-stay aw w b writes = adds aw ∙ ap (λ (rs : List Route). rs ++ added aw) (leaves b)
  where
    adds : (aw : Option (ℕ × Addr)) → map route_of (writes_after_aw aw (writes_after_b b (writes_after_w w writes))) ≡ map route_of (writes_after_b b (writes_after_w w writes)) ++ added aw
    adds None = sym (append-nil (map route_of (writes_after_b b (writes_after_w w writes))))
    adds (Some x) = map-append route_of (writes_after_b b (writes_after_w w writes)) (record { id = x.1.id; port = x.0; is_open = true } ∷ [])

    leaves : (b : Option (ℕ × BBeat)) → map route_of (writes_after_b b (writes_after_w w writes)) ≡ left (option_and_then (λ (x : ℕ × BBeat). place_of x.1.id (map id_of_write writes)) b) (map route_of writes)
    leaves None = routes-after_w w writes
    leaves (Some x) =
        sym (without-map route_of id_of_route x.1.id (writes_after_w w writes)) ∙ ap (without_oldest id_of_route x.1.id) (routes-after_w w writes) ∙ sym (route-leaves x.1.id (map route_of writes))
        ∙ ap (λ (ids : List ℕ). left (place_of x.1.id ids) (map route_of writes)) (ids-of_routes writes)

writes-leave : (shape : DemuxShape) (b : Option (ℕ × BBeat)) (writes : List WriteRoute) →
    IfSome (option_and_then (λ (x : ℕ × BBeat). place_of x.1.id (map id_of_write writes)) b) (λ place. (place < length (map route_of writes)) × IsSome (take_below shape b))
writes-leave shape None writes = tt
writes-leave shape (Some x) writes = go (place_of x.1.id (map id_of_write writes)) refl
  where
    go : (o : Option ℕ) → place_of x.1.id (map id_of_write writes) ≡ o → IfSome o (λ place. (place < length (map route_of writes)) × IsSome (Some (lower_of shape x.0)))
    go None is = tt
    go (Some place) is = (route-within x.1.id (map route_of writes) place (ap (place_of x.1.id) (ids-of_routes writes) ∙ is), refl)

-- and the reads
reads-stay : (ar : Option (ℕ × Addr)) (r : Option (ℕ × RBeat)) (reads : List Route) →
    reads_after_ar ar (reads_after_r r reads) ≡ left (option_and_then (λ (x : ℕ × RBeat). cond x.1.last (place_of x.1.id (map id_of_route reads)) None) r) reads ++ added ar
reads-stay ar r reads = adds ar ∙ ap (λ (rs : List Route). rs ++ added ar) (leaves r)
  where
    adds : (ar : Option (ℕ × Addr)) → reads_after_ar ar (reads_after_r r reads) ≡ reads_after_r r reads ++ added ar
    adds None = sym (append-nil (reads_after_r r reads))
    adds (Some x) = refl

    leaves : (r : Option (ℕ × RBeat)) → reads_after_r r reads ≡ left (option_and_then (λ (x : ℕ × RBeat). cond x.1.last (place_of x.1.id (map id_of_route reads)) None) r) reads
    leaves None = refl
    leaves (Some x) =
        let go : (last : Bool) → cond last (without_oldest id_of_route x.1.id reads) reads ≡ left (cond last (place_of x.1.id (map id_of_route reads)) None) reads =
        elim [ true ↦ sym (route-leaves x.1.id reads) | false ↦ refl ]
        in go x.1.last

reads-leave : (shape : DemuxShape) (r : Option (ℕ × RBeat)) (reads : List Route) →
    IfSome (option_and_then (λ (x : ℕ × RBeat). cond x.1.last (place_of x.1.id (map id_of_route reads)) None) r) (λ place. (place < length reads) × IsSome (take_below shape r))
reads-leave shape None reads = tt
reads-leave shape (Some x) reads = go x.1.last (place_of x.1.id (map id_of_route reads)) refl
  where
    go : (last : Bool) (o : Option ℕ) → place_of x.1.id (map id_of_route reads) ≡ o → IfSome (cond last o None) (λ place. (place < length reads) × IsSome (Some (lower_of shape x.0)))
    go false o is = tt
    go true None is = tt
    go true (Some place) is = (route-within x.1.id reads place is, refl)

-- the address that is taken adds its route
adds-head : (queue_of : LinkView → List Addr) (links : List LinkView) (s : DemuxState) (row : Option (ℕ × Addr)) →
    ((x : ℕ × Addr) → row ≡ Some x → (rest : List Addr) × (queue_of (link_of links s.shape.upper) ≡ x.1 ∷ rest) × (x.0 ≡ port_for s.shape x.1.addr)) →
    added row ≡ flat_map (write_entries.entry_of s) (head_taken queue_of links (take_of s.shape.upper (is_some row)))
adds-head queue_of links s None is = refl
adds-head queue_of links s (Some x) is =
    let row = is x refl in
    ap (λ (p : ℕ). record { id = x.1.id; port = p } ∷ []) row.2
    ∙ sym (ap (λ (queue : List Addr). flat_map (write_entries.entry_of s) (map (λ head. (s.shape.upper, head)) (take 1 queue))) row.1)

module _ (E : Type 0) where
  pub demux-entries_stay : EntriesStay (demux_kind {E = E}) demux_inside
  demux-entries_stay round links s fact can = (
    record {
      stay = writes-stay (demux_aw links s) (demux_w links s) (demux_b links s) s.writes
          ∙ ap (λ (rs : List Route). left (write_entries.leaving links s) (map route_of s.writes) ++ rs)
          (adds-head (λ l. l.aw) links s (demux_aw links s) (λ x e. let row = aw-is links s x e in (row.rest, row.queue_is, row.port_is)));
      leaves = writes-leave s.shape (demux_b links s) s.writes;
    },
    record {
      stay = reads-stay (demux_ar links s) (demux_r links s) s.reads
          ∙ ap (λ (rs : List Route). left (read_entries.leaving links s) s.reads ++ rs)
          (adds-head (λ l. l.ar) links s (demux_ar links s) (λ x e. let row = ar-is links s x e in (row.rest, row.queue_is, row.port_is)));
      leaves = reads-leave s.shape (demux_r links s) s.reads;
    },
  )
