-- What the rows of a demux tell.
use Rattle.std.proofs.Common.{◌≡◌, ◌<◌, ◌==◌, ℕ, suc, Bool, true, false, List, [], ◌∷◌, Option, None, Some, length, map, refl, sym, ◌∙◌, ap, subst, arith, eq-eqb}
use Rattle.std.specs.Prelude.{◌&&◌, All, Contains, find, not, slice_get, unwrap_or, option_map}
use Rattle.std.specs.List.{list_any}
use Rattle.std.specs.Option.{option_and_then, option_map_or}
use Rattle.std.proofs.lemmas.Bool.{and_parts, eqb-true, ltb-true, or_parts}
use Rattle.std.proofs.lemmas.List.Elements.{All-cons, All-nil, All-weaker}
use Rattle.std.proofs.lemmas.Option.{get_or_from_slice_get, slice_get_within}
use Rattle.axi_beats.specs.declared.beat.Addr.{Addr}
use Rattle.axi_beats.specs.declared.beat.WBeat.{WBeat}
use Rattle.axi_beats.specs.declared.beat.BBeat.{BBeat}
use Rattle.axi_beats.specs.declared.beat.RBeat.{RBeat}
use Rattle.axi_link.specs.LinkView.{LinkView, empty_link}
use Rattle.axi_link.specs.LinkWords.{has_room, head_of, link_of}
use Rattle.demux_node.specs.DemuxState.{DemuxShape, DemuxState, lower_of, port_for, route_of}
use Rattle.demux_node.specs.DemuxTable.{ar_port, at_port, aw_port, b_port, by_port, demux_above, demux_ar, demux_aw, demux_b, demux_r, demux_w, is_elsewhere, is_open_elsewhere, is_open_write, is_write_elsewhere, offered_b, offered_r, offers_b, offers_r, open_port, r_port, takes_read, takes_write, w_port}
use Rattle.demux_node.specs.declared.route.Route.{Route}
use Rattle.demux_node.specs.declared.route.WriteRoute.{WriteRoute}
use Rattle.node_core.specs.Rows.{beat_where, fits}
use Rattle.node_core.specs.Turn.{first_in_turn}

-- a head is the first of its queue
pub first-of : {X : Type 0} (queue : List X) (x : X) → head_of queue ≡ Some x → (rest : List X) × (queue ≡ x ∷ rest)
first-of [] x is = absurd (cc)
first-of {X} (y ∷ rest) x is = let same : y ≡ x = cc in (rest, ap (λ (z : X). z ∷ rest) same)

-- a head that moves by a port
pub by-port : {X : Type 0} (port : Option ℕ) (head : Option X) (x : ℕ × X) → by_port port head ≡ Some x → (port ≡ Some x.0) × (head ≡ Some x.1)
by-port None head x is = absurd (cc)
by-port (Some port) None x is = absurd (cc)
by-port {X} (Some port) (Some beat) x is =
    let same : (port, beat) ≡ x = cc in
    (ap (λ (z : ℕ × X). Some z.0) same, ap (λ (z : ℕ × X). Some z.1) same)

where-some : {X : Type 0} (condition : Bool) (o : Option X) (x : X) → beat_where condition o ≡ Some x → (condition ≡ true) × (o ≡ Some x)
where-some true o x is = (refl, is)
where-some false o x is = absurd (cc)

then-some : {X Y : Type 0} (f : X → Option Y) (o : Option X) (y : Y) → option_and_then f o ≡ Some y → (x : X) × (o ≡ Some x) × (f x ≡ Some y)
then-some f None y is = absurd (cc)
then-some f (Some x) y is = (x, refl, is)

not-true : (b : Bool) → not b ≡ true → b ≡ false
not-true true is = absurd (cc)
not-true false is = refl

any-none : {X : Type 0} (test : X → Bool) (xs : List X) → list_any test xs ≡ false → All (λ x. test x ≡ false) xs
any-none test [] is = All-nil (λ x. test x ≡ false)
any-none test (x ∷ xs) is =
    let parts = or_parts (test x) (list_any test xs) is in
    All-cons (λ x. test x ≡ false) x xs parts.0 (any-none test xs parts.1)

same-port : (own other : Bool) → (own && not other) ≡ false → own ≡ true → other ≡ true
same-port true true is own = refl
same-port true false is own = absurd (cc)
same-port false other is own = absurd (cc)

not-elsewhere : (id port : ℕ) (route : Route) → is_elsewhere id port route ≡ false → route.id ≡ id → route.port ≡ port
not-elsewhere id port route is own = eqb-true route.port port (same-port (route.id == id) (route.port == port) is (eq-eqb route.id id own))

not-open_elsewhere : (port : ℕ) (write : WriteRoute) → is_open_elsewhere port write ≡ false → write.is_open ≡ true → write.port ≡ port
not-open_elsewhere port write is own = eqb-true write.port port (same-port write.is_open (write.port == port) is own)

-- of these routes, those of an ID have a port
abbrev pub KeepToPort : ℕ → ℕ → List Route → Type 0
KeepToPort id port routes = All (λ (route : Route). route.id ≡ id → route.port ≡ port) routes

abbrev pub OpenKeepToPort : ℕ → List WriteRoute → Type 0
OpenKeepToPort port writes = All (λ (write : WriteRoute). write.is_open ≡ true → write.port ≡ port) writes

pub all-map : {X Y : Type 0} (P : Y → Type 0) (f : X → Y) (xs : List X) → All (λ x. P (f x)) xs → All P (map f xs)
all-map P f [] all = All-nil P
all-map P f (x ∷ xs) all = All-cons P (f x) (map f xs) (all 0 x (omega arith)) (all-map P f xs (λ k d less. all (suc k) d (omega (arith, less))))

module _ (links : List LinkView) (s : DemuxState) where
  pub record TakesWrite (x : ℕ × Addr) : Type 0 where
    pub rest : List Addr
    pub queue_is : (demux_above links s.shape).aw ≡ x.1 ∷ rest
    pub port_is : x.0 ≡ port_for s.shape x.1.addr
    pub few : length s.writes < 16
    pub room : has_room (at_port links s.shape x.0).depth (at_port links s.shape x.0).aw ≡ true
    pub own_port : KeepToPort x.1.id x.0 (map route_of s.writes)
    pub open_port : OpenKeepToPort x.0 s.writes

  pub aw-is : (x : ℕ × Addr) → demux_aw links s ≡ Some x → TakesWrite x
  aw-is x is =
      let both = by-port (aw_port links s.shape s.writes) (head_of (demux_above links s.shape).aw) x is in
      let first = first-of (demux_above links s.shape).aw x.1 both.1 in
      let chosen : beat_where (takes_write links s.shape s.writes x.1) (Some (port_for s.shape x.1.addr)) ≡ Some x.0 =
      sym (ap (option_and_then (λ (a : Addr). beat_where (takes_write links s.shape s.writes a) (Some (port_for s.shape a.addr)))) both.1) ∙ both.0 in
      let found = where-some (takes_write links s.shape s.writes x.1) (Some (port_for s.shape x.1.addr)) x.0 chosen in
      let to : port_for s.shape x.1.addr ≡ x.0 = let e : Some (port_for s.shape x.1.addr) ≡ Some x.0 = found.1 in cc in
      let q = port_for s.shape x.1.addr in
      let one = and_parts (fits s.writes) _ found.0 in
      let two = and_parts (has_room (at_port links s.shape q).depth (at_port links s.shape q).aw) _ one.1 in
      let three = and_parts (not (list_any (is_write_elsewhere x.1.id q) s.writes)) (not (list_any (is_open_elsewhere q) s.writes)) two.1 in
      record {
        rest = first.0;
        queue_is = first.1;
        port_is = sym to;
        few = ltb-true (length s.writes) 16 one.0;
        room = ap (λ (p : ℕ). has_room (at_port links s.shape p).depth (at_port links s.shape p).aw) (sym to) ∙ two.0;
        own_port = subst (λ (p : ℕ). KeepToPort x.1.id p (map route_of s.writes)) to
            (all-map (λ (route : Route). route.id ≡ x.1.id → route.port ≡ q) route_of s.writes
            (All-weaker (λ (write : WriteRoute). is_write_elsewhere x.1.id q write ≡ false) (λ (write : WriteRoute). write.id ≡ x.1.id → write.port ≡ q)
            (λ write is own. not-elsewhere x.1.id q (route_of write) is own) s.writes
            (any-none (is_write_elsewhere x.1.id q) s.writes (not-true (list_any (is_write_elsewhere x.1.id q) s.writes) three.0))));
        open_port = subst (λ (p : ℕ). OpenKeepToPort p s.writes) to
            (All-weaker (λ (write : WriteRoute). is_open_elsewhere q write ≡ false) (λ (write : WriteRoute). write.is_open ≡ true → write.port ≡ q)
            (λ write is own. not-open_elsewhere q write is own) s.writes
            (any-none (is_open_elsewhere q) s.writes (not-true (list_any (is_open_elsewhere q) s.writes) three.1)));
      }

  pub record TakesRead (x : ℕ × Addr) : Type 0 where
    pub rest : List Addr
    pub queue_is : (demux_above links s.shape).ar ≡ x.1 ∷ rest
    pub port_is : x.0 ≡ port_for s.shape x.1.addr
    pub few : length s.reads < 16
    pub room : has_room (at_port links s.shape x.0).depth (at_port links s.shape x.0).ar ≡ true
    pub own_port : KeepToPort x.1.id x.0 s.reads

  pub ar-is : (x : ℕ × Addr) → demux_ar links s ≡ Some x → TakesRead x
  ar-is x is =
      let both = by-port (ar_port links s.shape s.reads) (head_of (demux_above links s.shape).ar) x is in
      let first = first-of (demux_above links s.shape).ar x.1 both.1 in
      let chosen : beat_where (takes_read links s.shape s.reads x.1) (Some (port_for s.shape x.1.addr)) ≡ Some x.0 =
      sym (ap (option_and_then (λ (a : Addr). beat_where (takes_read links s.shape s.reads a) (Some (port_for s.shape a.addr)))) both.1) ∙ both.0 in
      let found = where-some (takes_read links s.shape s.reads x.1) (Some (port_for s.shape x.1.addr)) x.0 chosen in
      let to : port_for s.shape x.1.addr ≡ x.0 = let e : Some (port_for s.shape x.1.addr) ≡ Some x.0 = found.1 in cc in
      let q = port_for s.shape x.1.addr in
      let one = and_parts (fits s.reads) _ found.0 in
      let two = and_parts (has_room (at_port links s.shape q).depth (at_port links s.shape q).ar) (not (list_any (is_elsewhere x.1.id q) s.reads)) one.1 in
      record {
        rest = first.0;
        queue_is = first.1;
        port_is = sym to;
        few = ltb-true (length s.reads) 16 one.0;
        room = ap (λ (p : ℕ). has_room (at_port links s.shape p).depth (at_port links s.shape p).ar) (sym to) ∙ two.0;
        own_port = subst (λ (p : ℕ). KeepToPort x.1.id p s.reads) to
            (All-weaker (λ (route : Route). is_elsewhere x.1.id q route ≡ false) (λ (route : Route). route.id ≡ x.1.id → route.port ≡ q)
            (λ route is own. not-elsewhere x.1.id q route is own) s.reads
            (any-none (is_elsewhere x.1.id q) s.reads (not-true (list_any (is_elsewhere x.1.id q) s.reads) two.1)));
      }

  pub record TakesData (x : ℕ × WBeat) : Type 0 where
    pub rest : List WBeat
    pub queue_is : (demux_above links s.shape).w ≡ x.1 ∷ rest
    pub write : WriteRoute
    pub found : find is_open_write s.writes ≡ Some write
    pub port_is : x.0 ≡ write.port
    pub room : has_room (at_port links s.shape x.0).depth (at_port links s.shape x.0).w ≡ true

  mapped-some : {X Y : Type 0} (f : X → Y) (o : Option X) (y : Y) → option_map f o ≡ Some y → (x : X) × (o ≡ Some x) × (f x ≡ y)
  mapped-some f None y is = absurd (cc)
  mapped-some f (Some x) y is = let same : f x ≡ y = cc in (x, refl, same)

  pub w-is : (x : ℕ × WBeat) → demux_w links s ≡ Some x → TakesData x
  w-is x is =
      let both = by-port (w_port links s.shape s.writes) (head_of (demux_above links s.shape).w) x is in
      let first = first-of (demux_above links s.shape).w x.1 both.1 in
      let opened = then-some (λ port. beat_where (has_room (at_port links s.shape port).depth (at_port links s.shape port).w) (Some port)) (open_port s.writes) x.0 both.0 in
      let found = where-some (has_room (at_port links s.shape opened.0).depth (at_port links s.shape opened.0).w) (Some opened.0) x.0 opened.2 in
      let to : opened.0 ≡ x.0 = let e : Some opened.0 ≡ Some x.0 = found.1 in cc in
      let write = mapped-some (λ (w : WriteRoute). w.port) (find is_open_write s.writes) opened.0 opened.1 in
      record {
        rest = first.0;
        queue_is = first.1;
        write = write.0;
        found = write.1;
        port_is = sym to ∙ sym write.2;
        room = ap (λ (p : ℕ). has_room (at_port links s.shape p).depth (at_port links s.shape p).w) (sym to) ∙ found.0;
      }

  pub record TakesAnswer {X : Type 0} (queue_of : LinkView → List X) (x : ℕ × X) : Type 0 where
    pub rest : List X
    pub queue_is : queue_of (at_port links s.shape x.0) ≡ x.1 ∷ rest
    pub room : has_room (demux_above links s.shape).depth (queue_of (demux_above links s.shape)) ≡ true

  pub b-is : (x : ℕ × BBeat) → demux_b links s ≡ Some x → TakesAnswer (λ l. l.b) x
  b-is x is =
      let both = by-port (b_port links s.shape s.writes s.turn_b) (offered_b links s.shape (b_port links s.shape s.writes s.turn_b)) x is in
      let head : head_of (at_port links s.shape x.0).b ≡ Some x.1 = ap (offered_b links s.shape) (sym both.0) ∙ both.1 in
      let first = first-of (at_port links s.shape x.0).b x.1 head in
      let found = where-some (has_room (demux_above links s.shape).depth (demux_above links s.shape).b) (first_in_turn (offers_b links s.shape s.writes) s.turn_b) x.0 both.0 in
      record { rest = first.0; queue_is = first.1; room = found.0 }

  pub r-is : (x : ℕ × RBeat) → demux_r links s ≡ Some x → TakesAnswer (λ l. l.r) x
  r-is x is =
      let both = by-port (r_port links s.shape s.reads s.turn_r) (offered_r links s.shape (r_port links s.shape s.reads s.turn_r)) x is in
      let head : head_of (at_port links s.shape x.0).r ≡ Some x.1 = ap (offered_r links s.shape) (sym both.0) ∙ both.1 in
      let first = first-of (at_port links s.shape x.0).r x.1 head in
      let found = where-some (has_room (demux_above links s.shape).depth (demux_above links s.shape).r) (first_in_turn (offers_r links s.shape s.reads) s.turn_r) x.0 both.0 in
      record { rest = first.0; queue_is = first.1; room = found.0 }

  -- and that an answer's port is picked in turn
  pub b-turn : (x : ℕ × BBeat) → demux_b links s ≡ Some x → first_in_turn (offers_b links s.shape s.writes) s.turn_b ≡ Some x.0
  b-turn x is =
      (where-some (has_room (demux_above links s.shape).depth (demux_above links s.shape).b) (first_in_turn (offers_b links s.shape s.writes) s.turn_b) x.0
      (by-port (b_port links s.shape s.writes s.turn_b) (offered_b links s.shape (b_port links s.shape s.writes s.turn_b)) x is).0).1

  pub r-turn : (x : ℕ × RBeat) → demux_r links s ≡ Some x → first_in_turn (offers_r links s.shape s.reads) s.turn_r ≡ Some x.0
  r-turn x is =
      (where-some (has_room (demux_above links s.shape).depth (demux_above links s.shape).r) (first_in_turn (offers_r links s.shape s.reads) s.turn_r) x.0
      (by-port (r_port links s.shape s.reads s.turn_r) (offered_r links s.shape (r_port links s.shape s.reads s.turn_r)) x is).0).1

-- what stands at a port is among the links below
contains-get : (xs : List ℕ) (n x : ℕ) → slice_get xs n ≡ Some x → Contains xs x
contains-get xs n x is = (n, slice_get_within xs n x is, get_or_from_slice_get xs n x x is)

-- a port at which something waits, or where there is room, is there
module _ (links : List LinkView) (shape : DemuxShape) (port : ℕ) where
  pub waits-there : {X : Type 0} (queue_of : LinkView → List X) → queue_of (empty_link 0) ≡ [] → (x : X) (rest : List X) → queue_of (at_port links shape port) ≡ x ∷ rest →
      Contains shape.lowers (lower_of shape port) × (at_port links shape port ≡ link_of links (lower_of shape port))
  waits-there {X} queue_of none x rest is = go (slice_get shape.lowers port) refl is
    where
      go : (o : Option ℕ) → slice_get shape.lowers port ≡ o → queue_of (option_map_or (link_of links) o (empty_link 0)) ≡ x ∷ rest →
          Contains shape.lowers (unwrap_or o 0) × (option_map_or (link_of links) o (empty_link 0) ≡ link_of links (unwrap_or o 0))
      go None found has = absurd (let no : [] ≡ x ∷ rest = sym none ∙ has in cc)
      go (Some l) found has = (contains-get shape.lowers port l found, refl)

  pub room-there : {X : Type 0} (queue_of : LinkView → List X) → has_room (at_port links shape port).depth (queue_of (at_port links shape port)) ≡ true →
      Contains shape.lowers (lower_of shape port) × (at_port links shape port ≡ link_of links (lower_of shape port))
  room-there {X} queue_of is = go (slice_get shape.lowers port) refl is
    where
      go : (o : Option ℕ) → slice_get shape.lowers port ≡ o → has_room (option_map_or (link_of links) o (empty_link 0)).depth (queue_of (option_map_or (link_of links) o (empty_link 0))) ≡ true →
          Contains shape.lowers (unwrap_or o 0) × (option_map_or (link_of links) o (empty_link 0) ≡ link_of links (unwrap_or o 0))
      go None found has = absurd (let no : length (queue_of (empty_link 0)) < 0 = ltb-true (length (queue_of (empty_link 0))) 0 has in omega (arith, no))
      go (Some l) found has = (contains-get shape.lowers port l found, refl)
