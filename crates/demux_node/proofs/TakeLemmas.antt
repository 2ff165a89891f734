-- Where a row of a demux can be done, it is done.
use Rattle.std.proofs.Common.{◌≡◌, ◌<◌, ◌==◌, ℕ, zero, suc, Bool, true, false, cond, List, [], ◌∷◌, Option, None, Some, length, map, refl, sym, ◌∙◌, ap, ap₂, arith, eq-eqb}
use Rattle.std.specs.Prelude.{◌&&◌, Contains, find, is_some, slice_get}
use Rattle.std.specs.Option.{option_and_then, option_map, option_map_or}
use Rattle.axi_beats.specs.declared.beat.Addr.{Addr}
use Rattle.axi_beats.specs.declared.beat.WBeat.{WBeat}
use Rattle.axi_beats.specs.declared.beat.BBeat.{BBeat}
use Rattle.axi_beats.specs.declared.beat.RBeat.{RBeat}
use Rattle.axi_link.specs.LinkView.{LinkView, empty_link}
use Rattle.axi_link.specs.LinkWords.{has_room, head_of, link_of}
use Rattle.demux_node.specs.DemuxState.{DemuxShape, DemuxState, IsDemux, port_for, route_of}
use Rattle.demux_node.specs.DemuxTable.{at_port, by_port, demux_above, demux_ar, demux_aw, demux_b, demux_r, demux_w, id_of_route, id_of_write, is_open_write, offers_b, offers_r, open_port, takes_read, takes_write}
use Rattle.demux_node.specs.declared.route.Route.{Route}
use Rattle.demux_node.specs.declared.route.WriteRoute.{WriteRoute}
use Rattle.flight.specs.Entries.{place_of}
use Rattle.node_core.proofs.TurnLemmas.{picked-is_ready, ready-is_picked}
use Rattle.node_core.specs.Rows.{beat_where}
use Rattle.node_core.specs.Turn.{IsTurn, TurnState, first_in_turn}

-- an entry of an ID has a place
pub has_place : (id : ℕ) (routes : List Route) (route : Route) → Contains routes route → route.id ≡ id → is_some (place_of id (map id_of_route routes)) ≡ true
has_place id [] route (k, within, is) own = absurd (omega (arith, within))
has_place id (r ∷ routes) route (zero, within, is) own =
    ap (λ (b : Bool). is_some (cond b (Some 0) (option_map suc (place_of id (map id_of_route routes))))) (eq-eqb r.id id (ap id_of_route is ∙ own))
has_place id (r ∷ routes) route (suc k, within, is) own =
    let rest = has_place id routes route (k, omega (arith, within), is) own in
    go (r.id == id) (place_of id (map id_of_route routes)) rest
  where
    go : (b : Bool) (o : Option ℕ) → is_some o ≡ true → is_some (cond b (Some 0) (option_map suc o)) ≡ true
    go true o some = refl
    go false (Some n) some = refl
    go false None some = absurd (cc)

pub ids-of_routes : (writes : List WriteRoute) → map id_of_route (map route_of writes) ≡ map id_of_write writes
ids-of_routes [] = refl
ids-of_routes (w ∷ writes) = ap (λ (ids : List ℕ). w.id ∷ ids) (ids-of_routes writes)

-- a port among those that offer is picked, and its head moves
module _ {X : Type 0} (offers : ℕ → Bool) (head_at : ℕ → Option X) (has : (port : ℕ) → offers port ≡ true → (x : X) × (head_at port ≡ Some x)) (t : TurnState) (turn : IsTurn t) (port : ℕ) (within : port < t.ports)
    (ready : offers port ≡ true) where
  pub answer-moves : (room : Bool) → room ≡ true → (x : ℕ × X) × (by_port (beat_where room (first_in_turn offers t)) (option_and_then head_at (beat_where room (first_in_turn offers t))) ≡ Some x)
  answer-moves false roomy = absurd (cc)
  answer-moves true roomy = go (first_in_turn offers t) refl
    where
      go : (o : Option ℕ) → first_in_turn offers t ≡ o → (x : ℕ × X) × (by_port (first_in_turn offers t) (option_and_then head_at (first_in_turn offers t)) ≡ Some x)
      go None is = absurd (let some : is_some (first_in_turn offers t) ≡ true = ready-is_picked offers t port turn within ready in let none : is_some (first_in_turn offers t) ≡ false = ap is_some is in let no : true ≡ false = sym some ∙ none in cc)
      go (Some q) is =
          let head = has q (picked-is_ready offers t q turn is).1 in
          ((q, head.0), ap (λ (o : Option ℕ). by_port o (option_and_then head_at o)) is ∙ ap (λ (h : Option X). by_port (Some q) h) head.1)

offers-head : {X : Type 0} (test : X → Bool) (head : Option X) → option_map_or test head false ≡ true → (x : X) × (head ≡ Some x)
offers-head test None is = absurd (cc)
offers-head test (Some x) is = (x, refl)

-- the link of a port that is there
pub at-is : (links : List LinkView) (shape : DemuxShape) (port l : ℕ) → slice_get shape.lowers port ≡ Some l → at_port links shape port ≡ link_of links l
at-is links shape port l is = ap (λ (o : Option ℕ). option_map_or (link_of links) o (empty_link 0)) is

module _ (links : List LinkView) (s : DemuxState) (fact : IsDemux s) where
  pub response-moves : (port : ℕ) (l : ℕ) (b : BBeat) → slice_get s.shape.lowers port ≡ Some l → port < length s.shape.lowers → head_of (link_of links l).b ≡ Some b →
      is_some (place_of b.id (map id_of_write s.writes)) ≡ true → has_room (demux_above links s.shape).depth (demux_above links s.shape).b ≡ true → (x : ℕ × BBeat) × (demux_b links s ≡ Some x)
  response-moves port l b at within head placed room =
      let test : BBeat → Bool = λ b. is_some (place_of b.id (map id_of_write s.writes)) in
      answer-moves (offers_b links s.shape s.writes) (λ p. head_of (at_port links s.shape p).b) (λ p is. offers-head test (head_of (at_port links s.shape p).b) is) s.turn_b fact.turn_b.turn
      port (omega (arith, within, fact.turn_b.ports))
      (ap (λ (k : LinkView). option_map_or test (head_of k.b) false) (at-is links s.shape port l at) ∙ ap (λ (o : Option BBeat). option_map_or test o false) head ∙ placed)
      (has_room (demux_above links s.shape).depth (demux_above links s.shape).b) room

  pub read_data-moves : (port : ℕ) (l : ℕ) (r : RBeat) → slice_get s.shape.lowers port ≡ Some l → port < length s.shape.lowers → head_of (link_of links l).r ≡ Some r →
      is_some (place_of r.id (map id_of_route s.reads)) ≡ true → has_room (demux_above links s.shape).depth (demux_above links s.shape).r ≡ true → (x : ℕ × RBeat) × (demux_r links s ≡ Some x)
  read_data-moves port l r at within head placed room =
      let test : RBeat → Bool = λ r. is_some (place_of r.id (map id_of_route s.reads)) in
      answer-moves (offers_r links s.shape s.reads) (λ p. head_of (at_port links s.shape p).r) (λ p is. offers-head test (head_of (at_port links s.shape p).r) is) s.turn_r fact.turn_r.turn
      port (omega (arith, within, fact.turn_r.ports))
      (ap (λ (k : LinkView). option_map_or test (head_of k.r) false) (at-is links s.shape port l at) ∙ ap (λ (o : Option RBeat). option_map_or test o false) head ∙ placed)
      (has_room (demux_above links s.shape).depth (demux_above links s.shape).r) room

  -- without entries an address goes on where there is room at its port
  pub write-moves : (a : Addr) → s.writes ≡ [] → head_of (demux_above links s.shape).aw ≡ Some a →
      has_room (at_port links s.shape (port_for s.shape a.addr)).depth (at_port links s.shape (port_for s.shape a.addr)).aw ≡ true → demux_aw links s ≡ Some (port_for s.shape a.addr, a)
  write-moves a none head room =
      let q = port_for s.shape a.addr in
      let takes : takes_write links s.shape s.writes a ≡ true =
      ap (λ (ws : List WriteRoute). takes_write links s.shape ws a) none ∙ ap (λ (b : Bool). b && true) room in
      ap₂ (λ (o : Option ℕ) (h : Option Addr). by_port o h)
      (ap (option_and_then (λ (x : Addr). beat_where (takes_write links s.shape s.writes x) (Some (port_for s.shape x.addr)))) head ∙ ap (λ (b : Bool). beat_where b (Some q)) takes) head

  pub read-moves : (a : Addr) → s.reads ≡ [] → head_of (demux_above links s.shape).ar ≡ Some a →
      has_room (at_port links s.shape (port_for s.shape a.addr)).depth (at_port links s.shape (port_for s.shape a.addr)).ar ≡ true → demux_ar links s ≡ Some (port_for s.shape a.addr, a)
  read-moves a none head room =
      let q = port_for s.shape a.addr in
      let takes : takes_read links s.shape s.reads a ≡ true =
      ap (λ (rs : List Route). takes_read links s.shape rs a) none ∙ ap (λ (b : Bool). b && true) room in
      ap₂ (λ (o : Option ℕ) (h : Option Addr). by_port o h)
      (ap (option_and_then (λ (x : Addr). beat_where (takes_read links s.shape s.reads x) (Some (port_for s.shape x.addr)))) head ∙ ap (λ (b : Bool). beat_where b (Some q)) takes) head

  -- data goes on where there is room at the port of the oldest write that lacks some
  pub data-moves : (write : WriteRoute) (w : WBeat) → find is_open_write s.writes ≡ Some write → head_of (demux_above links s.shape).w ≡ Some w →
      has_room (at_port links s.shape write.port).depth (at_port links s.shape write.port).w ≡ true → demux_w links s ≡ Some (write.port, w)
  data-moves write w found head room =
      let opened : open_port s.writes ≡ Some write.port = ap (option_map (λ (x : WriteRoute). x.port)) found in
      ap₂ (λ (o : Option ℕ) (h : Option WBeat). by_port o h)
      (ap (option_and_then (λ p. beat_where (has_room (at_port links s.shape p).depth (at_port links s.shape p).w) (Some p))) opened ∙ ap (λ (b : Bool). beat_where b (Some write.port)) room) head
