-- A demux's table, of every state and all links.
use Rattle.std.proofs.Common.{◌≡◌, ◌<◌, ◌≤◌, ◌==◌, ◌-◌, ℕ, Bool, true, false, cond, List, [], ◌∷◌, ◌++◌, Option, None, Some, length, map, refl, sym, ◌∙◌, ap, subst, arith, inl, inr, length-append}
use Rattle.std.specs.Prelude.{◌||◌, All, Contains, IfSome, IsTrue, is_some}
use Rattle.std.proofs.lemmas.Bool.{ltb-true}
use Rattle.std.proofs.lemmas.List.{length-map, map-append}
use Rattle.std.proofs.lemmas.List.Elements.{All-cons, All-contains, All-contains_itself, All-head, All-nil, All-tail, All-weaker, Contains-push_cases}
use Rattle.axi_beats.specs.declared.beat.Addr.{Addr}
use Rattle.axi_beats.specs.declared.beat.WBeat.{WBeat}
use Rattle.axi_beats.specs.declared.beat.BBeat.{BBeat}
use Rattle.axi_beats.specs.declared.beat.RBeat.{RBeat}
use Rattle.axi_link.specs.LinkView.{LinkView, empty_link}
use Rattle.axi_link.specs.LinkWords.{has_room, link_of}
use Rattle.demux_node.proofs.PortLemmas.{port-within}
use Rattle.demux_node.proofs.RowLemmas.{KeepToPort, OpenKeepToPort, all-map, ar-is, aw-is, b-is, b-turn, r-is, r-turn, room-there, w-is, waits-there}
use Rattle.demux_node.specs.DemuxState.{DemuxShape, DemuxState, HaveOnePort, IsDemux, IsDemuxShape, IsPortTurn, OpenHaveOnePort, lower_of, new_demux, route_of}
use Rattle.demux_node.specs.DemuxTable.{at_port, close_oldest, demux_ar, demux_aw, demux_b, demux_next, demux_out, demux_r, demux_w, id_of_route, id_of_write, offers_b, offers_r, put_above, put_below, reads_after_ar, reads_after_r, take_below, turn_after, writes_after_aw, writes_after_b, writes_after_w}
use Rattle.demux_node.specs.DemuxTrail.{demux_kind}
use Rattle.demux_node.specs.declared.route.Route.{Route}
use Rattle.demux_node.specs.declared.route.WriteRoute.{WriteRoute}
use Rattle.node_core.proofs.TurnLemmas.{picked-is_ready}
use Rattle.node_core.specs.Acted.{opened}
use Rattle.node_core.specs.Fits.{MovesFit, PutFits, TakeFits}
use Rattle.node_core.specs.Rows.{take_of}
use Rattle.node_core.specs.Turn.{TurnState, first_in_turn}
use Rattle.node_shape.proofs.OneLinkLemmas.{one-has, takes-own}
use Rattle.node_shape.specs.KindLaws.{Begins, Fit, Own, Rests, Stays, Steady}
use Rattle.plain_lists.proofs.CutLemmas.{all-unmap, all-without}
use Rattle.plain_lists.specs.Keys.{without_oldest}

-- Its moves can be made, on its own links.
module _ {X : Type 0} (queue_of : LinkView → List X) (links : List LinkView) (shape : DemuxShape) where
  takes-above : (row : Option (ℕ × X)) → ((x : ℕ × X) → row ≡ Some x → (rest : List X) × (queue_of (link_of links shape.upper) ≡ x.1 ∷ rest)) →
      TakeFits queue_of links (take_of shape.upper (is_some row))
  takes-above None is = tt
  takes-above (Some x) is = let q = is x refl in subst (λ (xs : List X). 0 < length xs) (sym q.1) (omega arith)

  puts-below : (row : Option (ℕ × X)) → ((x : ℕ × X) → row ≡ Some x → has_room (link_of links (lower_of shape x.0)).depth (queue_of (link_of links (lower_of shape x.0))) ≡ true) →
      PutFits queue_of links (put_below shape row)
  puts-below None is = tt
  puts-below (Some x) is = ltb-true (length (queue_of (link_of links (lower_of shape x.0)))) (link_of links (lower_of shape x.0)).depth (is x refl)

  takes-below : (row : Option (ℕ × X)) → ((x : ℕ × X) → row ≡ Some x → (rest : List X) × (queue_of (link_of links (lower_of shape x.0)) ≡ x.1 ∷ rest)) →
      TakeFits queue_of links (take_below shape row)
  takes-below None is = tt
  takes-below (Some x) is = let q = is x refl in subst (λ (xs : List X). 0 < length xs) (sym q.1) (omega arith)

  puts-above : (row : Option (ℕ × X)) → ((x : ℕ × X) → row ≡ Some x → has_room (link_of links shape.upper).depth (queue_of (link_of links shape.upper)) ≡ true) →
      PutFits queue_of links (put_above shape row)
  puts-above None is = tt
  puts-above (Some x) is = ltb-true (length (queue_of (link_of links shape.upper))) (link_of links shape.upper).depth (is x refl)

module _ {X : Type 0} (shape : DemuxShape) where
  own-put_below : (row : Option (ℕ × X)) → ((x : ℕ × X) → row ≡ Some x → Contains shape.lowers (lower_of shape x.0)) → IfSome (put_below shape row) (λ put. Contains shape.lowers put.0)
  own-put_below None is = tt
  own-put_below (Some x) is = is x refl

  own-take_below : (row : Option (ℕ × X)) → ((x : ℕ × X) → row ≡ Some x → Contains shape.lowers (lower_of shape x.0)) → IfSome (take_below shape row) (Contains shape.lowers)
  own-take_below None is = tt
  own-take_below (Some x) is = is x refl

  own-put_above : (row : Option (ℕ × X)) → IfSome (put_above shape row) (λ put. Contains (shape.upper ∷ []) put.0)
  own-put_above None = tt
  own-put_above (Some x) = one-has shape.upper

-- what a row finds at its port, and the room there
module _ {X : Type 0} (queue_of : LinkView → List X) (links : List LinkView) (shape : DemuxShape) (none : queue_of (empty_link 0) ≡ []) where
  pub found-there : (port : ℕ) (x : X) (rest : List X) → queue_of (at_port links shape port) ≡ x ∷ rest → (more : List X) × (queue_of (link_of links (lower_of shape port)) ≡ x ∷ more)
  found-there port x rest is = (rest, ap queue_of (sym (waits-there links shape port queue_of none x rest is).1) ∙ is)

  roomy-there : (port : ℕ) → has_room (at_port links shape port).depth (queue_of (at_port links shape port)) ≡ true →
      has_room (link_of links (lower_of shape port)).depth (queue_of (link_of links (lower_of shape port))) ≡ true
  roomy-there port is = ap (λ (l : LinkView). has_room l.depth (queue_of l)) (sym (room-there links shape port queue_of is).1) ∙ is

pub demux_fits : (links : List LinkView) (s : DemuxState) → MovesFit links (demux_out links s)
demux_fits links s = record {
  aw_take = takes-above (λ k. k.aw) links s.shape (demux_aw links s) (λ x e. let is = aw-is links s x e in (is.rest, is.queue_is));
  aw_put = puts-below (λ k. k.aw) links s.shape (demux_aw links s) (λ x e. roomy-there (λ k. k.aw) links s.shape refl x.0 (aw-is links s x e).room);
  w_take = takes-above (λ k. k.w) links s.shape (demux_w links s) (λ x e. let is = w-is links s x e in (is.rest, is.queue_is));
  w_put = puts-below (λ k. k.w) links s.shape (demux_w links s) (λ x e. roomy-there (λ k. k.w) links s.shape refl x.0 (w-is links s x e).room);
  b_take = takes-below (λ k. k.b) links s.shape (demux_b links s) (λ x e. let is = b-is links s x e in found-there (λ k. k.b) links s.shape refl x.0 x.1 is.rest is.queue_is);
  b_put = puts-above (λ k. k.b) links s.shape (demux_b links s) (λ x e. (b-is links s x e).room);
  ar_take = takes-above (λ k. k.ar) links s.shape (demux_ar links s) (λ x e. let is = ar-is links s x e in (is.rest, is.queue_is));
  ar_put = puts-below (λ k. k.ar) links s.shape (demux_ar links s) (λ x e. roomy-there (λ k. k.ar) links s.shape refl x.0 (ar-is links s x e).room);
  r_take = takes-below (λ k. k.r) links s.shape (demux_r links s) (λ x e. let is = r-is links s x e in found-there (λ k. k.r) links s.shape refl x.0 x.1 is.rest is.queue_is);
  r_put = puts-above (λ k. k.r) links s.shape (demux_r links s) (λ x e. (r-is links s x e).room);
}

-- What holds of it is kept.

-- entries after the rows that close one, or let one leave, are earlier entries
close-routes : (writes : List WriteRoute) → map route_of (close_oldest writes) ≡ map route_of writes
close-routes [] = refl
close-routes (w ∷ writes) =
    let go : (b : Bool) → map route_of (cond b (record { id = w.id; port = w.port; is_open = false } ∷ writes) (w ∷ close_oldest writes)) ≡ route_of w ∷ map route_of writes =
    elim [ true ↦ refl | false ↦ ap (λ (rs : List Route). route_of w ∷ rs) (close-routes writes) ]
    in go w.is_open

pub routes-after_w : (row : Option (ℕ × WBeat)) (writes : List WriteRoute) → map route_of (writes_after_w row writes) ≡ map route_of writes
routes-after_w None writes = refl
routes-after_w (Some x) writes =
    let go : (b : Bool) → map route_of (cond b (close_oldest writes) writes) ≡ map route_of writes = elim [ true ↦ close-routes writes | false ↦ refl ]
    in go x.1.last

-- what holds of all entries whatever they lack
abbrev IsOfRoute : (Route → Type 0) → WriteRoute → Type 0
IsOfRoute P write = P (route_of write)

-- an open entry stays as it is, or is closed
close-all : (P : WriteRoute → Type 0) → ((w : WriteRoute) → P w → P (record { id = w.id; port = w.port; is_open = false })) → (writes : List WriteRoute) → All P writes → All P (close_oldest writes)
close-all P closed [] all = all
close-all P closed (w ∷ writes) all =
    let go : (b : Bool) → All P (cond b (record { id = w.id; port = w.port; is_open = false } ∷ writes) (w ∷ close_oldest writes)) =
    elim [
      | true ↦ All-cons P (record { id = w.id; port = w.port; is_open = false }) writes (closed w (All-head P w writes all)) (All-tail P w writes all)
      | false ↦ All-cons P w (close_oldest writes) (All-head P w writes all) (close-all P closed writes (All-tail P w writes all))
    ]
    in go w.is_open

pub all-after_w : (P : WriteRoute → Type 0) → ((w : WriteRoute) → P w → P (record { id = w.id; port = w.port; is_open = false })) → (row : Option (ℕ × WBeat)) (writes : List WriteRoute) →
    All P writes → All P (writes_after_w row writes)
all-after_w P closed None writes all = all
all-after_w P closed (Some x) writes all =
    let go : (b : Bool) → All P (cond b (close_oldest writes) writes) = elim [ true ↦ close-all P closed writes all | false ↦ all ]
    in go x.1.last

pub all-after_b : (P : WriteRoute → Type 0) (row : Option (ℕ × BBeat)) (writes : List WriteRoute) → All P writes → All P (writes_after_b row writes)
all-after_b P None writes all = all
all-after_b P (Some x) writes all = all-without P id_of_write x.1.id writes all

pub all-after_r : (P : Route → Type 0) (row : Option (ℕ × RBeat)) (reads : List Route) → All P reads → All P (reads_after_r row reads)
all-after_r P None reads all = all
all-after_r P (Some x) reads all =
    let go : (b : Bool) → All P (cond b (without_oldest id_of_route x.1.id reads) reads) = elim [ true ↦ all-without P id_of_route x.1.id reads all | false ↦ all ]
    in go x.1.last

length-without : {X : Type 0} (key_of : X → ℕ) (key : ℕ) (xs : List X) → length (without_oldest key_of key xs) ≤ length xs
length-without key_of key [] = omega arith
length-without key_of key (x ∷ xs) =
    let go : (b : Bool) → length (cond b xs (x ∷ without_oldest key_of key xs)) ≤ length (x ∷ xs) = elim [ true ↦ omega arith | false ↦ omega (arith, length-without key_of key xs) ]
    in go (key_of x == key)

pub length-after_w : (row : Option (ℕ × WBeat)) (writes : List WriteRoute) → length (writes_after_w row writes) ≡ length writes
length-after_w row writes =
    sym (length-map (writes_after_w row writes) route_of) ∙ ap (λ (rs : List Route). length rs) (routes-after_w row writes) ∙ length-map writes route_of

pub length-after_b : (row : Option (ℕ × BBeat)) (writes : List WriteRoute) → length (writes_after_b row writes) ≤ length writes
length-after_b None writes = omega arith
length-after_b (Some x) writes = length-without id_of_write x.1.id writes

pub length-after_r : (row : Option (ℕ × RBeat)) (reads : List Route) → length (reads_after_r row reads) ≤ length reads
length-after_r None reads = omega arith
length-after_r (Some x) reads =
    let go : (b : Bool) → length (cond b (without_oldest id_of_route x.1.id reads) reads) ≤ length reads = elim [ true ↦ length-without id_of_route x.1.id reads | false ↦ omega arith ]
    in go x.1.last

-- fewer routes have one port for an ID, too
one-port_fewer : (routes fewer : List Route) → HaveOnePort routes → All (Contains routes) fewer → HaveOnePort fewer
one-port_fewer routes fewer one among x y in_x in_y same = one x y (All-contains (Contains routes) fewer x among in_x) (All-contains (Contains routes) fewer y among in_y) same

open-port_fewer : (writes fewer : List WriteRoute) → OpenHaveOnePort writes → All (λ (w : WriteRoute). IsTrue w.is_open → Contains writes w) fewer → OpenHaveOnePort fewer
open-port_fewer writes fewer one among x y in_x in_y open_x open_y =
    one x y (All-contains (λ (w : WriteRoute). IsTrue w.is_open → Contains writes w) fewer x among in_x open_x)
    (All-contains (λ (w : WriteRoute). IsTrue w.is_open → Contains writes w) fewer y among in_y open_y) open_x open_y

-- and one more with the port of those of its ID
one-port_more : (routes : List Route) (route : Route) → HaveOnePort routes → KeepToPort route.id route.port routes → HaveOnePort (routes ++ route ∷ [])
one-port_more routes route one keep x y in_x in_y same = elim (Contains-push_cases routes route x in_x) [
  | inl old_x ↦ elim (Contains-push_cases routes route y in_y) [
    | inl old_y ↦ one x y old_x old_y same
    | inr new_y ↦ At x old_x (same ∙ ap id_of_route (sym new_y)) ∙ ap (λ (r : Route). r.port) new_y
  ]
  | inr new_x ↦ elim (Contains-push_cases routes route y in_y) [
    | inl old_y ↦ ap (λ (r : Route). r.port) (sym new_x) ∙ sym (At y old_y (sym same ∙ ap id_of_route (sym new_x)))
    | inr new_y ↦ ap (λ (r : Route). r.port) (sym new_x ∙ new_y)
  ]
]
  where
    At : (r : Route) → Contains routes r → r.id ≡ route.id → r.port ≡ route.port
    At r has own = All-contains (λ (r : Route). r.id ≡ route.id → r.port ≡ route.port) routes r keep has own

open-port_more : (writes : List WriteRoute) (write : WriteRoute) → OpenHaveOnePort writes → OpenKeepToPort write.port writes → OpenHaveOnePort (writes ++ write ∷ [])
open-port_more writes write one keep x y in_x in_y open_x open_y = elim (Contains-push_cases writes write x in_x) [
  | inl old_x ↦ elim (Contains-push_cases writes write y in_y) [
    | inl old_y ↦ one x y old_x old_y open_x open_y
    | inr new_y ↦ At x old_x open_x ∙ ap (λ (w : WriteRoute). w.port) new_y
  ]
  | inr new_x ↦ elim (Contains-push_cases writes write y in_y) [
    | inl old_y ↦ ap (λ (w : WriteRoute). w.port) (sym new_x) ∙ sym (At y old_y open_y)
    | inr new_y ↦ ap (λ (w : WriteRoute). w.port) (sym new_x ∙ new_y)
  ]
]
  where
    At : (w : WriteRoute) → Contains writes w → w.is_open ≡ true → w.port ≡ write.port
    At w has lacks = All-contains (λ (w : WriteRoute). w.is_open ≡ true → w.port ≡ write.port) writes w keep has lacks

all-push : {X : Type 0} (P : X → Type 0) (xs : List X) (x : X) → All P xs → P x → All P (xs ++ x ∷ [])
all-push P [] x all is = All-cons P x [] is all
all-push P (y ∷ xs) x all is = All-cons P y (xs ++ x ∷ []) (All-head P y xs all) (all-push P xs x (All-tail P y xs all) is)

turn-stays : {X : Type 0} (shape : DemuxShape) (offers : ℕ → Bool) (t : TurnState) (row : Option (ℕ × X)) → ((x : ℕ × X) → row ≡ Some x → first_in_turn offers t ≡ Some x.0) →
    IsPortTurn shape t → IsPortTurn shape (turn_after row t)
turn-stays shape offers t None picked is = is
turn-stays shape offers t (Some x) picked is =
    record { ports = is.ports; turn = record { most = is.turn.most; last = (picked-is_ready offers t x.0 is.turn (picked x refl)).0 } }

-- the writes before AW
pub record AreWrites (shape : DemuxShape) (writes : List WriteRoute) : Type 0 where
  pub few : length writes ≤ 16
  pub ports : All (λ (write : WriteRoute). write.port < length shape.lowers) writes
  pub routes : HaveOnePort (map route_of writes)
  pub open_ones : OpenHaveOnePort writes

module _ (links : List LinkView) (s : DemuxState) (is : IsDemux s) where
  abbrev earlier : List WriteRoute
  earlier = writes_after_b (demux_b links s) (writes_after_w (demux_w links s) s.writes)

  pub earlier-writes : AreWrites s.shape earlier
  earlier-writes = record {
    few = omega (arith, is.few_writes, length-after_w (demux_w links s) s.writes, length-after_b (demux_b links s) (writes_after_w (demux_w links s) s.writes));
    ports = all-after_b (λ w. w.port < length s.shape.lowers) (demux_b links s) (writes_after_w (demux_w links s) s.writes)
        (all-after_w (λ w. w.port < length s.shape.lowers) (λ w less. less) (demux_w links s) s.writes is.ports);
    routes = one-port_fewer (map route_of s.writes) (map route_of earlier) is.writes
        (all-map (Contains (map route_of s.writes)) route_of earlier
        (all-after_b (λ w. Contains (map route_of s.writes) (route_of w)) (demux_b links s) (writes_after_w (demux_w links s) s.writes)
        (all-after_w (λ w. Contains (map route_of s.writes) (route_of w)) (λ w has. has) (demux_w links s) s.writes
        (all-unmap (Contains (map route_of s.writes)) route_of s.writes (All-contains_itself (map route_of s.writes))))));
    open_ones = open-port_fewer s.writes earlier is.open_ones
        (all-after_b (λ w. IsTrue w.is_open → Contains s.writes w) (demux_b links s) (writes_after_w (demux_w links s) s.writes)
        (all-after_w (λ w. IsTrue w.is_open → Contains s.writes w) (λ w has lacks. absurd (cc)) (demux_w links s) s.writes
        (All-weaker (Contains s.writes) (λ w. IsTrue w.is_open → Contains s.writes w) (λ w has lacks. has) s.writes (All-contains_itself s.writes))));
  }

  pub keep-earlier : (id port : ℕ) → KeepToPort id port (map route_of s.writes) → KeepToPort id port (map route_of earlier)
  keep-earlier id port keep =
      all-map (λ (r : Route). r.id ≡ id → r.port ≡ port) route_of earlier
      (all-after_b (λ w. w.id ≡ id → w.port ≡ port) (demux_b links s) (writes_after_w (demux_w links s) s.writes)
      (all-after_w (λ w. w.id ≡ id → w.port ≡ port) (λ w to. to) (demux_w links s) s.writes
      (all-unmap (λ (r : Route). r.id ≡ id → r.port ≡ port) route_of s.writes keep)))

  pub open-earlier : (port : ℕ) → OpenKeepToPort port s.writes → OpenKeepToPort port earlier
  open-earlier port keep =
      all-after_b (λ w. w.is_open ≡ true → w.port ≡ port) (demux_b links s) (writes_after_w (demux_w links s) s.writes)
      (all-after_w (λ w. w.is_open ≡ true → w.port ≡ port) (λ w to lacks. absurd (cc)) (demux_w links s) s.writes keep)

  after-aw : (row : Option (ℕ × Addr)) → demux_aw links s ≡ row → AreWrites s.shape (writes_after_aw row earlier)
  after-aw None e = earlier-writes
  after-aw (Some x) e =
      let row = aw-is links s x e in
      let before = earlier-writes in
      let write : WriteRoute = record { id = x.1.id; port = x.0; is_open = true } in
      let shorter : length earlier ≤ length s.writes = omega (arith, length-after_w (demux_w links s) s.writes, length-after_b (demux_b links s) (writes_after_w (demux_w links s) s.writes)) in
      record {
        few = omega (arith, row.few, shorter, length-append earlier (write ∷ []));
        ports = all-push (λ (w : WriteRoute). w.port < length s.shape.lowers) earlier write before.ports
            (subst (λ (p : ℕ). p < length s.shape.lowers) (sym row.port_is) (port-within s.shape is.shape x.1.addr));
        routes = subst HaveOnePort (sym (map-append route_of earlier (write ∷ []))) (one-port_more (map route_of earlier) (route_of write) before.routes (keep-earlier x.1.id x.0 row.own_port));
        open_ones = open-port_more earlier write before.open_ones (open-earlier x.0 row.open_port);
      }

  pub earlier_reads : HaveOnePort (reads_after_r (demux_r links s) s.reads)
  earlier_reads = one-port_fewer s.reads (reads_after_r (demux_r links s) s.reads) is.reads (all-after_r (Contains s.reads) (demux_r links s) s.reads (All-contains_itself s.reads))

  after-ar : (row : Option (ℕ × Addr)) → demux_ar links s ≡ row →
      (length (reads_after_ar row (reads_after_r (demux_r links s) s.reads)) ≤ 16) × HaveOnePort (reads_after_ar row (reads_after_r (demux_r links s) s.reads))
  after-ar None e = (omega (arith, is.few_reads, length-after_r (demux_r links s) s.reads), earlier_reads)
  after-ar (Some x) e =
      let row = ar-is links s x e in
      let before = reads_after_r (demux_r links s) s.reads in
      let route : Route = record { id = x.1.id; port = x.0 } in (
        omega (arith, row.few, length-after_r (demux_r links s) s.reads, length-append before (route ∷ [])),
        one-port_more before route earlier_reads (all-after_r (λ (r : Route). r.id ≡ x.1.id → r.port ≡ x.0) (demux_r links s) s.reads row.own_port),
      )

  pub demux_stays : IsDemux (demux_next links s)
  demux_stays =
      let writes = after-aw (demux_aw links s) refl in
      let reads = after-ar (demux_ar links s) refl in
      record {
        shape = is.shape;
        turn_b = turn-stays s.shape (offers_b links s.shape s.writes) s.turn_b (demux_b links s) (b-turn links s) is.turn_b;
        turn_r = turn-stays s.shape (offers_r links s.shape s.reads) s.turn_r (demux_r links s) (r-turn links s) is.turn_r;
        few_writes = writes.few;
        few_reads = reads.0;
        ports = writes.ports;
        writes = writes.routes;
        reads = reads.1;
        open_ones = writes.open_ones;
      }

no-route : (route : Route) → Contains [] route → ⊥
no-route route has = All-contains (λ (r : Route). ⊥) [] route (All-nil (λ (r : Route). ⊥)) has

no-write : (write : WriteRoute) → Contains [] write → ⊥
no-write write has = All-contains (λ (w : WriteRoute). ⊥) [] write (All-nil (λ (w : WriteRoute). ⊥)) has

pub new_is_demux : (shape : DemuxShape) → IsDemuxShape shape → IsDemux (new_demux shape)
new_is_demux shape is =
    let turn : IsPortTurn shape (record { ports = length shape.lowers; last = length shape.lowers - 1 }) = record { ports = refl; turn = record { most = is.most; last = omega (arith, is.some) } } in
    record {
      shape = is;
      turn_b = turn;
      turn_r = turn;
      few_writes = omega arith;
      few_reads = omega arith;
      ports = All-nil (λ (write : WriteRoute). write.port < length shape.lowers);
      writes = λ x y in_x in_y same. absurd (no-route x in_x);
      reads = λ x y in_x in_y same. absurd (no-route x in_x);
      open_ones = λ x y in_x in_y open_x open_y. absurd (no-write x in_x);
    }

module _ (E : Type 0) where
  pub demux-always_fits : Fit (demux_kind {E = E})
  demux-always_fits round links s = demux_fits links s

  pub demux-moves_own : Own (demux_kind {E = E})
  demux-moves_own round links s = record {
    aw_take = takes-own (s.shape.upper ∷ []) s.shape.upper _ (one-has s.shape.upper);
    aw_put = own-put_below s.shape (demux_aw links s) (λ x e. (room-there links s.shape x.0 (λ k. k.aw) (aw-is links s x e).room).0);
    w_take = takes-own (s.shape.upper ∷ []) s.shape.upper _ (one-has s.shape.upper);
    w_put = own-put_below s.shape (demux_w links s) (λ x e. (room-there links s.shape x.0 (λ k. k.w) (w-is links s x e).room).0);
    b_take = own-take_below s.shape (demux_b links s) (λ x e. let is = b-is links s x e in (waits-there links s.shape x.0 (λ k. k.b) refl x.1 is.rest is.queue_is).0);
    b_put = own-put_above s.shape (demux_b links s);
    ar_take = takes-own (s.shape.upper ∷ []) s.shape.upper _ (one-has s.shape.upper);
    ar_put = own-put_below s.shape (demux_ar links s) (λ x e. (room-there links s.shape x.0 (λ k. k.ar) (ar-is links s x e).room).0);
    r_take = own-take_below s.shape (demux_r links s) (λ x e. let is = r-is links s x e in (waits-there links s.shape x.0 (λ k. k.r) refl x.1 is.rest is.queue_is).0);
    r_put = own-put_above s.shape (demux_r links s);
  }

  pub demux-is_steady : Steady (demux_kind {E = E})
  demux-is_steady round links s = record { uppers = refl; lowers = refl; patience = refl; suits = λ schedules suits. suits }

  pub demux-begins : Begins (demux_kind {E = E})
  demux-begins s new = subst IsDemux (sym new.new) (new_is_demux s.shape new.shape)

  pub demux-stays : Stays (demux_kind {E = E})
  demux-stays round links s fact can = demux_stays links s fact

-- without a beat to pass on nothing moves, and nothing changes
still : (s : DemuxState) (aw : Option (ℕ × Addr)) (w : Option (ℕ × WBeat)) (b : Option (ℕ × BBeat)) (ar : Option (ℕ × Addr)) (r : Option (ℕ × RBeat)) →
    (is_some aw || is_some w || is_some b || is_some ar || is_some r) ≡ false →
    record {
      state = record {
        shape = s.shape;
        writes = writes_after_aw aw (writes_after_b b (writes_after_w w s.writes));
        reads = reads_after_ar ar (reads_after_r r s.reads);
        turn_b = turn_after b s.turn_b;
        turn_r = turn_after r s.turn_r;
      };
      out = record {
        aw_take = take_of s.shape.upper (is_some aw);
        aw_put = put_below s.shape aw;
        w_take = take_of s.shape.upper (is_some w);
        w_put = put_below s.shape w;
        b_take = take_below s.shape b;
        b_put = put_above s.shape b;
        ar_take = take_of s.shape.upper (is_some ar);
        ar_put = put_below s.shape ar;
        r_take = take_below s.shape r;
        r_put = put_above s.shape r;
      };
    } ≡ opened s
still s None None None None None quiet = refl
still s (Some x) w b ar r quiet = absurd (cc)
still s None (Some x) b ar r quiet = absurd (cc)
still s None None (Some x) ar r quiet = absurd (cc)
still s None None None (Some x) r quiet = absurd (cc)
still s None None None None (Some x) quiet = absurd (cc)

module _ (E : Type 0) where
  pub demux-rests : Rests (demux_kind {E = E})
  demux-rests round links s quiet = still s (demux_aw links s) (demux_w links s) (demux_b links s) (demux_ar links s) (demux_r links s) quiet
