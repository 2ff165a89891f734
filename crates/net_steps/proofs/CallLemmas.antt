-- A node that isn't called stays as it is, and so does a link on which neither of its nodes moves.
use Rattle.std.proofs.Common.{◌≡◌, ◌<◌, ◌+◌, ◌++◌, ℕ, zero, suc, Bool, true, false, List, [], ◌∷◌, Option, Some, None, length, map, get_or, set, take, drop, refl, sym, ap, subst, ◌∙◌, inl, inr, arith}
use Rattle.std.specs.Prelude.{◌||◌, ◌⊎◌, All, is_some, not, slice_get}
use Rattle.std.specs.Option.{option_and_then, option_map, option_map_or}
use Rattle.std.proofs.lemmas.Bool.{cases_lt}
use Rattle.std.proofs.lemmas.List.{get_or-map, get_or-set_same, length-map, length-set, map-set}
use Rattle.std.proofs.lemmas.Option.{slice_get-get_or, slice_get-map}
use Rattle.axi_link.specs.LinkView.{LinkView, empty_link}
use Rattle.axi_link.specs.LinkWords.{head_of, link_of}
use Rattle.axi_link.specs.Moves.{link_after}
use Rattle.axi_link.specs.declared.out.Out.{Out}
use Rattle.demux_node.proofs.DemuxHolds.{demux-holds}
use Rattle.demux_node.specs.DemuxState.{DemuxState}
use Rattle.demux_node.specs.DemuxTable.{ar_port, at_port, aw_port, b_port, by_port, demux_ar, demux_aw, demux_b, demux_r, demux_w, demux_wants, r_port, w_port}
use Rattle.memory_node.specs.Events.{Access}
use Rattle.mux_node.proofs.MuxHolds.{mux-holds}
use Rattle.mux_node.specs.MuxState.{MuxState}
use Rattle.mux_node.specs.MuxTable.{ids_of, input_offer, mux_ar, mux_aw, mux_b, mux_r, mux_w, mux_wants, offered_in_turn, sent_back}
use Rattle.net_kinds.proofs.DoLemmas.{nodes-do}
use Rattle.net_kinds.specs.NodeKind.{NodeState, node_kind, node_view}
use Rattle.net_kinds.specs.NodeTable.{node_done, node_out, node_table}
use Rattle.net_kinds.specs.declared.node.Node.{Node}
use Rattle.net_kinds.specs.declared.node.Node.TheVariants.{Demux, Error, Lite, LiteMemory, Manager, Memory, Mux, Remap, Slice, Split, Up}
use Rattle.net_model.specs.Network.{lower_node, moves_at, net_link, queue_moved, upper_node}
use Rattle.net_model.specs.declared.net_link.NetLink.{NetLink}
use Rattle.net_steps.proofs.PhaseLemmas.{next-is}
use Rattle.net_steps.specs.Calls.{AreSeen, UncalledStay, acts, makes_moves, is_called, is_noted, noted_too, offers_answer, offers_at, offers_of, offers_request, only_passes, seen_too}
use Rattle.net_steps.specs.declared.calls.Offers.{Offers}
use Rattle.net_steps.specs.NetView.{AreJoined, NetView}
use Rattle.node_core.specs.Acted.{Acted, no_moves}
use Rattle.node_core.specs.Rows.{beat_where}
use Rattle.node_core.specs.Turn.{TurnState}
use Rattle.plain_lists.proofs.PlaceLemmas.{at-all}
use Rattle.slice_node.proofs.SliceHolds.{slice-holds}
use Rattle.slice_node.specs.SliceState.{SliceState}
use Rattle.slice_node.specs.SliceTable.{slice_ar, slice_aw, slice_b, slice_r, slice_w, slice_wants}

-- Options and what is made of them.

three-none : {X Y Z : Type 0} (a : Option X) (b : Option Y) (c : Option Z) → (is_some a || is_some b || is_some c) ≡ false → (a ≡ None) × (b ≡ None) × (c ≡ None)
three-none None None None is = (refl, refl, refl)
three-none (Some x) b c is = absurd (cc)
three-none None (Some x) c is = absurd (cc)
three-none None None (Some x) is = absurd (cc)

two-none : {X Y : Type 0} (a : Option X) (b : Option Y) → (is_some a || is_some b) ≡ false → (a ≡ None) × (b ≡ None)
two-none None None is = (refl, refl)
two-none (Some x) b is = absurd (cc)
two-none None (Some x) is = absurd (cc)

where-none : {X : Type 0} (b : Bool) (o : Option X) → o ≡ None → beat_where b o ≡ None
where-none true o is = is
where-none false o is = refl

then-none : {X Y : Type 0} (f : X → Option Y) (o : Option X) → ((x : X) → o ≡ Some x → f x ≡ None) → option_and_then f o ≡ None
then-none f None none = refl
then-none f (Some x) none = none x refl

no-row : {A B C D E : Type 0} (aw : Option A) (w : Option B) (b : Option C) (ar : Option D) (r : Option E) → aw ≡ None → w ≡ None → b ≡ None → ar ≡ None → r ≡ None →
    (is_some aw || is_some w || is_some b || is_some ar || is_some r) ≡ false
no-row None None None None None aw_is w_is b_is ar_is r_is = refl
no-row (Some x) w b ar r aw_is w_is b_is ar_is r_is = absurd (cc)
no-row None (Some x) b ar r aw_is w_is b_is ar_is r_is = absurd (cc)
no-row None None (Some x) ar r aw_is w_is b_is ar_is r_is = absurd (cc)
no-row None None None (Some x) r aw_is w_is b_is ar_is r_is = absurd (cc)
no-row None None None None (Some x) aw_is w_is b_is ar_is r_is = absurd (cc)

-- Links that offer nothing.

record NoRequests (link : LinkView) : Type 0 where
  pub aw : head_of link.aw ≡ None
  pub w : head_of link.w ≡ None
  pub ar : head_of link.ar ≡ None

record NoAnswers (link : LinkView) : Type 0 where
  pub b : head_of link.b ≡ None
  pub r : head_of link.r ≡ None

no-requests : (link : LinkView) → offers_request link ≡ false → NoRequests link
no-requests link is =
    let all = three-none (head_of link.aw) (head_of link.w) (head_of link.ar) is in
    record { aw = all.0; w = all.1; ar = all.2 }

no-answers : (link : LinkView) → offers_answer link ≡ false → NoAnswers link
no-answers link is =
    let all = two-none (head_of link.b) (head_of link.r) is in
    record { b = all.0; r = all.1 }

record IsQuiet (links : List LinkView) (uppers lowers : List ℕ) : Type 0 where
  pub requests : (k link : ℕ) → slice_get uppers k ≡ Some link → NoRequests (link_of links link)
  pub answers : (k link : ℕ) → slice_get lowers k ≡ Some link → NoAnswers (link_of links link)

-- Nodes between links that offer nothing.

slice-quiet : (links : List LinkView) (s : SliceState) → IsQuiet links (s.upper ∷ []) (s.lower ∷ []) → slice_wants links s ≡ false
slice-quiet links s quiet =
    let above = quiet.requests 0 s.upper refl in
    let below = quiet.answers 0 s.lower refl in
    no-row (slice_aw links s) (slice_w links s) (slice_b links s) (slice_ar links s) (slice_r links s) (where-none _ _ above.aw) (where-none _ _ above.w) (where-none _ _ below.b)
    (where-none _ _ above.ar) (where-none _ _ below.r)

module _ (links : List LinkView) (s : MuxState) (quiet : IsQuiet links s.shape.uppers (s.shape.lower ∷ [])) where
  no-offer : {X : Type 0} (queue_of : LinkView → List X) → ((k link : ℕ) → slice_get s.shape.uppers k ≡ Some link → head_of (queue_of (link_of links link)) ≡ None) → (input : ℕ) →
      input_offer queue_of links s.shape.uppers input ≡ None
  no-offer queue_of none input = then-none _ (slice_get s.shape.uppers input) (λ link at. ap (option_map _) (none input link at))

  no-turn : {X : Type 0} (queue_of : LinkView → List X) → ((k link : ℕ) → slice_get s.shape.uppers k ≡ Some link → head_of (queue_of (link_of links link)) ≡ None) → (turn : TurnState) →
      offered_in_turn queue_of links s.shape.uppers turn ≡ None
  no-turn queue_of none turn = then-none (input_offer queue_of links s.shape.uppers) _ (λ input at. no-offer queue_of none input)

  mux-quiet : mux_wants links s ≡ false
  mux-quiet =
      let below = quiet.answers 0 s.shape.lower refl in
      no-row (mux_aw links s) (mux_w links s) (mux_b links s) (mux_ar links s) (mux_r links s)
      (where-none _ _ (no-turn (λ l. l.aw) (λ k link at. (quiet.requests k link at).aw) s.turn_aw))
      (where-none _ _ (then-none (input_offer (λ l. l.w) links s.shape.uppers) (head_of s.granted) (λ input at. no-offer (λ l. l.w) (λ k link at. (quiet.requests k link at).w) input)))
      (ap (option_and_then (sent_back (λ l. l.b) (λ b. b.id) links s.shape.uppers s.shape.lower (ids_of s.shape))) below.b)
      (where-none _ _ (no-turn (λ l. l.ar) (λ k link at. (quiet.requests k link at).ar) s.turn_ar))
      (ap (option_and_then (sent_back (λ l. l.r) (λ r. r.id) links s.shape.uppers s.shape.lower (ids_of s.shape))) below.r)

port-none : {X : Type 0} (port : Option ℕ) (head : Option X) → head ≡ None → by_port port head ≡ None
port-none None head is = refl
port-none (Some p) None is = refl
port-none (Some p) (Some x) is = absurd (cc)

module _ (links : List LinkView) (s : DemuxState) (quiet : IsQuiet links (s.shape.upper ∷ []) s.shape.lowers) where
  no-head : {X : Type 0} (queue_of : LinkView → List X) → ((k link : ℕ) → slice_get s.shape.lowers k ≡ Some link → head_of (queue_of (link_of links link)) ≡ None) →
      head_of (queue_of (empty_link 0)) ≡ None → (port : ℕ) → head_of (queue_of (at_port links s.shape port)) ≡ None
  no-head queue_of none empty port = go (slice_get s.shape.lowers port) refl
    where
      go : (o : Option ℕ) → slice_get s.shape.lowers port ≡ o → head_of (queue_of (option_map_or (link_of links) o (empty_link 0))) ≡ None
      go None at = empty
      go (Some link) at = none port link at

  demux-quiet : demux_wants links s ≡ false
  demux-quiet =
      let above = quiet.requests 0 s.shape.upper refl in
      no-row (demux_aw links s) (demux_w links s) (demux_b links s) (demux_ar links s) (demux_r links s)
      (port-none (aw_port links s.shape s.writes) _ above.aw)
      (port-none (w_port links s.shape s.writes) _ above.w)
      (port-none (b_port links s.shape s.writes s.turn_b) _ (then-none _ (b_port links s.shape s.writes s.turn_b) (λ p at. no-head (λ l. l.b) (λ k link at. (quiet.answers k link at).b) refl p)))
      (port-none (ar_port links s.shape s.reads) _ above.ar)
      (port-none (r_port links s.shape s.reads s.turn_r) _ (then-none _ (r_port links s.shape s.reads s.turn_r) (λ p at. no-head (λ l. l.r) (λ k link at. (quiet.answers k link at).r) refl p)))

-- without moves
none-of : {A W B R : Type 0} (aw_take : Option ℕ) (aw_put : Option (ℕ × A)) (w_take : Option ℕ) (w_put : Option (ℕ × W)) (b_take : Option ℕ) (b_put : Option (ℕ × B)) (ar_take : Option ℕ)
    (ar_put : Option (ℕ × A)) (r_take : Option ℕ) (r_put : Option (ℕ × R)) →
    (is_some aw_take || is_some aw_put || is_some w_take || is_some w_put || is_some b_take || is_some b_put || is_some ar_take || is_some ar_put || is_some r_take || is_some r_put) ≡ false →
    (aw_take ≡ None) × (aw_put ≡ None) × (w_take ≡ None) × (w_put ≡ None) × (b_take ≡ None) × (b_put ≡ None) × (ar_take ≡ None) × (ar_put ≡ None) × (r_take ≡ None) × (r_put ≡ None)
none-of None None None None None None None None None None is = (refl, refl, refl, refl, refl, refl, refl, refl, refl, refl)
none-of (Some x) b c d e f g h i j is = absurd (cc)
none-of None (Some x) c d e f g h i j is = absurd (cc)
none-of None None (Some x) d e f g h i j is = absurd (cc)
none-of None None None (Some x) e f g h i j is = absurd (cc)
none-of None None None None (Some x) f g h i j is = absurd (cc)
none-of None None None None None (Some x) g h i j is = absurd (cc)
none-of None None None None None None (Some x) h i j is = absurd (cc)
none-of None None None None None None None (Some x) i j is = absurd (cc)
none-of None None None None None None None None (Some x) j is = absurd (cc)
none-of None None None None None None None None None (Some x) is = absurd (cc)

moves-none : (out : Out) → makes_moves out ≡ false → out ≡ no_moves
moves-none out is =
    let all = none-of out.aw_take out.aw_put out.w_take out.w_put out.b_take out.b_put out.ar_take out.ar_put out.r_take out.r_put is in
    ap (λ take. record out { aw_take = take }) all.0
    ∙ ap (λ put. record out { aw_take = None; aw_put = put }) all.1
    ∙ ap (λ take. record out { aw_take = None; aw_put = None; w_take = take }) all.2
    ∙ ap (λ put. record out { aw_take = None; aw_put = None; w_take = None; w_put = put }) all.3
    ∙ ap (λ take. record out { aw_take = None; aw_put = None; w_take = None; w_put = None; b_take = take }) all.4
    ∙ ap (λ put. record out { aw_take = None; aw_put = None; w_take = None; w_put = None; b_take = None; b_put = put }) all.5
    ∙ ap (λ take. record out { aw_take = None; aw_put = None; w_take = None; w_put = None; b_take = None; b_put = None; ar_take = take }) all.6
    ∙ ap (λ put. record out { aw_take = None; aw_put = None; w_take = None; w_put = None; b_take = None; b_put = None; ar_take = None; ar_put = put }) all.7
    ∙ ap (λ take. record out { aw_take = None; aw_put = None; w_take = None; w_put = None; b_take = None; b_put = None; ar_take = None; ar_put = None; r_take = take }) all.8
    ∙ ap (λ put. record out { aw_take = None; aw_put = None; w_take = None; w_put = None; b_take = None; b_put = None; ar_take = None; ar_put = None; r_take = None; r_put = put }) all.9

-- a node that only passes beats on, between links that offer nothing, and that chose no move
passing-rests : (round : ℕ) (links : List LinkView) (node : Node) → only_passes node ≡ true →
    IsQuiet links (node_kind.uppers (node_view node).state) (node_kind.lowers (node_view node).state) → node_out node ≡ no_moves → node_table round links node ≡ node
passing-rests round links (Slice n) passes quiet still =
    ap (λ (a : Acted SliceState). Slice a)
    ((slice-holds Access).rests round links n.state (slice-quiet links n.state quiet) ∙ ap (λ (out : Out). record { state = n.state; out = out }) (sym still))
passing-rests round links (Mux n) passes quiet still =
    ap (λ (a : Acted MuxState). Mux a)
    ((mux-holds Access).rests round links n.state (mux-quiet links n.state quiet) ∙ ap (λ (out : Out). record { state = n.state; out = out }) (sym still))
passing-rests round links (Demux n) passes quiet still =
    ap (λ (a : Acted DemuxState). Demux (record n { value = a }))
    ((demux-holds Access).rests round links n.value.state (demux-quiet links n.value.state quiet) ∙ ap (λ (out : Out). record { state = n.value.state; out = out }) (sym still))
passing-rests round links (Memory n) passes quiet still = absurd (cc)
passing-rests round links (Manager n) passes quiet still = absurd (cc)
passing-rests round links (Error n) passes quiet still = absurd (cc)
passing-rests round links (Remap n) passes quiet still = absurd (cc)
passing-rests round links (Up n) passes quiet still = absurd (cc)
passing-rests round links (Split n) passes quiet still = absurd (cc)
passing-rests round links (Lite n) passes quiet still = absurd (cc)
passing-rests round links (LiteMemory n) passes quiet still = absurd (cc)

uncalled : (a b c : Bool) → (a || b || not c) ≡ false → (a ≡ false) × (b ≡ false) × (c ≡ true)
uncalled false false true is = (refl, refl, refl)
uncalled true b c is = absurd (cc)
uncalled false true c is = absurd (cc)
uncalled false false false is = absurd (cc)

-- what a node that isn't called is
not-called : (seen : List Bool) (number : ℕ) (node : Node) → is_called seen number node ≡ false → (is_noted seen number ≡ false) × (acts node ≡ false) × (only_passes node ≡ true)
not-called seen number node is = uncalled (is_noted seen number) (acts node) (only_passes node) is

passing-done : (node : Node) → only_passes node ≡ true → node_done node ≡ true
passing-done (Slice n) is = refl
passing-done (Mux n) is = refl
passing-done (Demux n) is = refl
passing-done (Memory n) is = refl
passing-done (Error n) is = refl
passing-done (Manager n) is = absurd (cc)
passing-done (Remap n) is = absurd (cc)
passing-done (Up n) is = absurd (cc)
passing-done (Split n) is = refl
passing-done (Lite n) is = refl
passing-done (LiteMemory n) is = refl

unless : (b : Bool) → (b ≡ true → ⊥) → b ≡ false
unless true not_so = absurd (not_so refl)
unless false not_so = refl

-- what a link offers, as it is kept
offers-at : (queues : List LinkView) (link : ℕ) → offers_at (map offers_of queues) link ≡ offers_of (link_of queues link)
offers-at [] link = refl
offers-at (queue ∷ queues) zero = refl
offers-at (queue ∷ queues) (suc link) = offers-at queues link

others-stay : (net : NetView) → AreJoined net → (round : ℕ) (seen : List Bool) → AreSeen net.links (map offers_of net.queues) (length (map offers_of net.queues)) seen →
    UncalledStay round net.queues seen net.nodes
others-stay net joined round seen are number node at is =
    let parts = not-called seen number node is in
    let here : slice_get (map node_view net.nodes) number ≡ Some (node_view node) = slice_get-map node_view net.nodes number ∙ ap (option_map node_view) at in
    let uppers : All (λ link. (link < length net.links) × (lower_node net.links link ≡ number)) (node_kind.uppers (node_view node).state) =
    subst (λ (o : Option (Acted NodeState)). All (λ link. (link < length net.links) × (lower_node net.links link ≡ number)) (option_map_or (λ (a : Acted NodeState). node_kind.uppers a.state) o [])) here (joined.uppers number) in
    let lowers : All (λ link. (link < length net.links) × (upper_node net.links link ≡ number)) (node_kind.lowers (node_view node).state) =
    subst (λ (o : Option (Acted NodeState)). All (λ link. (link < length net.links) × (upper_node net.links link ≡ number)) (option_map_or (λ (a : Acted NodeState). node_kind.lowers a.state) o [])) here (joined.lowers number) in
    let known : (link : ℕ) → link < length net.links → link < length (map offers_of net.queues) = λ link within. omega (arith, within, joined.long, length-map net.queues offers_of) in
    passing-rests round net.queues node parts.2
    (record {
      requests = λ k link at_k.
          let own = at-all (λ l. (l < length net.links) × (lower_node net.links l ≡ number)) (node_kind.uppers (node_view node).state) k link uppers at_k in
          no-requests (link_of net.queues link)
          (unless _ (λ offers. absurd (clash (is_noted seen number) (subst (λ (n : ℕ). is_noted seen n ≡ true) own.1 (are.requests link (known link own.0) (ap (λ (o : Offers). o.request) (offers-at net.queues link) ∙ offers))) parts.0)));
      answers = λ k link at_k.
          let own = at-all (λ l. (l < length net.links) × (upper_node net.links l ≡ number)) (node_kind.lowers (node_view node).state) k link lowers at_k in
          no-answers (link_of net.queues link)
          (unless _ (λ offers. absurd (clash (is_noted seen number) (subst (λ (n : ℕ). is_noted seen n ≡ true) own.1 (are.answers link (known link own.0) (ap (λ (o : Offers). o.answer) (offers-at net.queues link) ∙ offers))) parts.0)));
    })
    (moves-none (node_out node) parts.1)
  where
    clash : (b : Bool) → b ≡ true → b ≡ false → ⊥
    clash true is not_so = absurd (cc)
    clash false is not_so = absurd (cc)

-- the same of what is lent
pub others-by :
    (net : NetView) → AreJoined net → (round : ℕ) (seen noted : List Bool) (links : List NetLink) (lent : List Offers) (queues : List LinkView) (nodes : List Node) →
    links ≡ net.links → lent ≡ map offers_of net.queues → queues ≡ net.queues → nodes ≡ net.nodes → seen ≡ noted → AreSeen links lent (length lent) noted → UncalledStay round queues seen nodes
others-by net joined round seen noted links lent queues nodes links_are lent_are queues_are nodes_are seen_is are =
    subst (λ (ns : List Node). UncalledStay round queues seen ns) (sym nodes_are)
    (subst (λ (qs : List LinkView). UncalledStay round qs seen net.nodes) (sym queues_are)
    (subst (λ (s : List Bool). UncalledStay round net.queues s net.nodes) (sym seen_is)
    (others-stay net joined round noted
    (subst (λ (all : List Offers). AreSeen net.links all (length all) noted) lent_are (subst (λ (ls : List NetLink). AreSeen ls lent (length lent) noted) links_are are)))))

-- a link on which neither node moves
link-stays : (number : ℕ) (queue : LinkView) (above below : Out) → above ≡ no_moves → below ≡ no_moves → link_after number queue above below ≡ queue
link-stays number queue above below above_is below_is = ap (λ (out : Out). link_after number queue out below) above_is ∙ ap (λ (out : Out). link_after number queue no_moves out) below_is ∙ same
  where
    end : {X : Type 0} (xs : List X) → xs ++ [] ≡ xs
    end [] = refl
    end (x ∷ xs) = ap (λ ys. x ∷ ys) (end xs)

    same : link_after number queue no_moves no_moves ≡ queue
    same =
        ap (λ xs. record { aw = xs; w = queue.w ++ []; b = queue.b ++ []; ar = queue.ar ++ []; r = queue.r ++ []; depth = queue.depth }) (end queue.aw)
        ∙ ap (λ xs. record { aw = queue.aw; w = xs; b = queue.b ++ []; ar = queue.ar ++ []; r = queue.r ++ []; depth = queue.depth }) (end queue.w)
        ∙ ap (λ xs. record { aw = queue.aw; w = queue.w; b = xs; ar = queue.ar ++ []; r = queue.r ++ []; depth = queue.depth }) (end queue.b)
        ∙ ap (λ xs. record { aw = queue.aw; w = queue.w; b = queue.b; ar = xs; r = queue.r ++ []; depth = queue.depth }) (end queue.ar)
        ∙ ap (λ xs. record { aw = queue.aw; w = queue.w; b = queue.b; ar = queue.ar; r = xs; depth = queue.depth }) (end queue.r)

pub moved-is : (links : List NetLink) (nodes : List (Acted NodeState)) (number : ℕ) (queue : LinkView) →
    link_after number queue (moves_at nodes (upper_node links number)) (moves_at nodes (lower_node links number)) ≡ queue_moved links nodes number queue
unfolding queue_moved
moved-is links nodes number queue = refl

-- a node that doesn't act
no-moves-at : (nodes : List Node) (acting : List Bool) (number : ℕ) (d : Bool) → acting ≡ map acts nodes → number < length (map node_view nodes) → get_or acting number d ≡ false →
    moves_at (map node_view nodes) number ≡ no_moves
no-moves-at [] acting number d are within is = absurd (omega (arith, within))
no-moves-at (node ∷ nodes) acting zero d are within is = (nodes-do 0 [] node).out ∙ moves-none (node_out node) (sym (ap (λ (flags : List Bool). get_or flags 0 d) are) ∙ is)
no-moves-at (node ∷ nodes) acting (suc n) d are within is =
    no-moves-at nodes (map acts nodes) n d refl (omega (arith, within)) (sym (ap (λ (flags : List Bool). get_or flags (suc n) d) are) ∙ is)

pub others-moved : (links : List NetLink) (nodes : List Node) (acting : List Bool) (number : ℕ) (queue : LinkView) (d e : Bool) → acting ≡ map acts nodes →
    upper_node links number < length (map node_view nodes) → lower_node links number < length (map node_view nodes) → get_or acting (upper_node links number) d ≡ false →
    get_or acting (lower_node links number) e ≡ false → queue ≡ queue_moved links (map node_view nodes) number queue
others-moved links nodes acting number queue d e are upper lower above below =
    sym (link-stays number queue (moves_at (map node_view nodes) (upper_node links number)) (moves_at (map node_view nodes) (lower_node links number))
    (no-moves-at nodes acting (upper_node links number) d are upper above) (no-moves-at nodes acting (lower_node links number) e are lower below))
    ∙ moved-is links (map node_view nodes) number queue

-- what is noted stays noted
noted-stays : (b : Bool) (place : ℕ) (flags : List Bool) (node : ℕ) → is_noted flags node ≡ true → is_noted (noted_too b place flags) node ≡ true
noted-stays false place flags node is = is
noted-stays true place flags node is = go flags place node is
  where
    go : (flags : List Bool) (place node : ℕ) → get_or flags node true ≡ true → get_or (set flags place true) node true ≡ true
    go [] place node is = is
    go (f ∷ flags) zero zero is = refl
    go (f ∷ flags) zero (suc node) is = is
    go (f ∷ flags) (suc place) zero is = is
    go (f ∷ flags) (suc place) (suc node) is = go flags place node is

now-noted : (b : Bool) (place : ℕ) (flags : List Bool) → place < length flags → b ≡ true → is_noted (noted_too b place flags) place ≡ true
now-noted true place flags within is = get_or-set_same flags place true true within
now-noted false place flags within is = absurd (cc)

noted-long : (b : Bool) (place : ℕ) (flags : List Bool) → length (noted_too b place flags) ≡ length flags
noted-long true place flags = length-set flags place true
noted-long false place flags = refl

pub seen-long : (link : NetLink) (offers : Offers) (seen : List Bool) → length (seen_too link offers seen) ≡ length seen
seen-long link offers seen = noted-long offers.answer link.upper (noted_too offers.request link.lower seen) ∙ noted-long offers.request link.lower seen

-- one link more is seen
pub seen-more : (links : List NetLink) (kept : List Offers) (count : ℕ) (seen : List Bool) (link : NetLink) (own : Offers) → net_link links count ≡ link → offers_at kept count ≡ own →
    link.upper < length seen → link.lower < length seen → AreSeen links kept count seen → AreSeen links kept (count + 1) (seen_too link own seen)
seen-more links kept count seen link own link_is own_is upper lower are = record { requests = requests; answers = answers }
  where
    first : List Bool
    first = noted_too own.request link.lower seen

    last-or : (n : ℕ) → n < count + 1 → (n < count) ⊎ (n ≡ count)
    last-or n less = elim (cases_lt n count) [ inl before ↦ inl before | inr not_before ↦ inr (omega (arith, less, not_before)) ]

    requests : (n : ℕ) → n < count + 1 → (offers_at kept n).request ≡ true → is_noted (seen_too link own seen) (lower_node links n) ≡ true
    requests n less offers = elim (last-or n less) [
      | inl before ↦ noted-stays own.answer link.upper first (lower_node links n) (noted-stays own.request link.lower seen (lower_node links n) (are.requests n before offers))
      | inr here ↦
          noted-stays own.answer link.upper first (lower_node links n)
          (subst (λ (node : ℕ). is_noted first node ≡ true) (sym (ap (lower_node links) here ∙ ap (λ (l : NetLink). l.lower) link_is))
          (now-noted own.request link.lower seen lower (sym (ap (λ (o : Offers). o.request) (ap (offers_at kept) here ∙ own_is)) ∙ offers)))
    ]

    answers : (n : ℕ) → n < count + 1 → (offers_at kept n).answer ≡ true → is_noted (seen_too link own seen) (upper_node links n) ≡ true
    answers n less offers = elim (last-or n less) [
      | inl before ↦ noted-stays own.answer link.upper first (upper_node links n) (noted-stays own.request link.lower seen (upper_node links n) (are.answers n before offers))
      | inr here ↦
          subst (λ (node : ℕ). is_noted (seen_too link own seen) node ≡ true) (sym (ap (upper_node links) here ∙ ap (λ (l : NetLink). l.upper) link_is))
          (now-noted own.answer link.upper first (subst (λ (n : ℕ). link.upper < n) (sym (noted-long own.request link.lower seen)) upper)
          (sym (ap (λ (o : Offers). o.answer) (ap (offers_at kept) here ∙ own_is)) ∙ offers))
    ]

-- an item that is there is the same by any default
pub at-any : {X : Type 0} (xs : List X) (i : ℕ) (d e : X) → i < length xs → get_or xs i d ≡ get_or xs i e
at-any [] i d e within = absurd (omega (arith, within))
at-any (x ∷ xs) zero d e within = refl
at-any (x ∷ xs) (suc i) d e within = at-any xs i d e (omega (arith, within))

-- a node is called as its flags say
called-as : (seen acting : List Bool) (nodes : List Node) (place i : ℕ) (node dn : Node) (ds da called : Bool) → i < length seen → i < length nodes → place ≡ i → acting ≡ map acts nodes →
    node ≡ get_or nodes i dn → called ≡ (get_or seen place ds || get_or acting place da || not (only_passes node)) → called ≡ is_called seen i node
called-as seen acting nodes place i node dn ds da called few within same are is calls =
    calls
    ∙ ap (λ (n : ℕ). get_or seen n ds || get_or acting n da || not (only_passes node)) same
    ∙ ap (λ (b : Bool). b || get_or acting i da || not (only_passes node)) (at-any seen i ds true few)
    ∙ ap (λ (b : Bool). is_noted seen i || b || not (only_passes node)) (ap (λ (flags : List Bool). get_or flags i da) are ∙ get_or-map acts nodes i dn da within ∙ ap acts (sym is))

-- of each link it is kept what it offers
pub offers-set : (queues : List LinkView) (kept : List Offers) (place i : ℕ) (queue : LinkView) (own : Offers) → kept ≡ map offers_of queues → place ≡ i → own ≡ offers_of queue →
    set kept place own ≡ map offers_of (set queues i queue)
offers-set queues kept place i queue own are same is =
    ap (λ (all : List Offers). set all place own) are ∙ ap (λ (n : ℕ). set (map offers_of queues) n own) same ∙ ap (λ (o : Offers). set (map offers_of queues) i o) is ∙ sym (map-set offers_of queues i queue)

pub offers-get : (queues : List LinkView) (kept : List Offers) (place i : ℕ) (queue : LinkView) (d : Offers) → i < length queues → kept ≡ map offers_of queues → place ≡ i →
    get_or kept place d ≡ offers_of (get_or queues i queue)
offers-get queues kept place i queue d within are same =
    ap (λ (all : List Offers). get_or all place d) are ∙ ap (λ (n : ℕ). get_or (map offers_of queues) n d) same ∙ get_or-map offers_of queues i queue d within

-- of each node it is noted whether it acts
pub acting-set : (nodes : List Node) (acting : List Bool) (place i : ℕ) (node : Node) (flag : Bool) → acting ≡ map acts nodes → place ≡ i → flag ≡ acts node →
    set acting place flag ≡ map acts (set nodes i node)
acting-set nodes acting place i node flag are same is =
    ap (λ (flags : List Bool). set flags place flag) are ∙ ap (λ (n : ℕ). set (map acts nodes) n flag) same ∙ ap (λ (f : Bool). set (map acts nodes) i f) is ∙ sym (map-set acts nodes i node)

-- what a node is that the loop over the nodes doesn't call
pub record IsPassedOver (round : ℕ) (queues : List LinkView) (node : Node) : Type 0 where
  pub stays : node_table round queues node ≡ node
  pub still : acts node ≡ false
  pub done : node_done node ≡ true

pub passed-over :
    (round : ℕ) (queues : List LinkView) (seen acting : List Bool) (before nodes : List Node) (place i : ℕ) (node : Node) (called : Bool) → length seen ≡ length before →
    length nodes ≡ length before → i < length before → nodes ≡ map (node_table round queues) (take i before) ++ drop i before → place ≡ i → acting ≡ map acts nodes → node ≡ get_or nodes i node →
    called ≡ (get_or seen place false || get_or acting place false || not (only_passes (get_or nodes i node))) → UncalledStay round queues seen before → called ≡ false → IsPassedOver round queues node
passed-over round queues seen acting before nodes place i node called few many within so_far same are is calls others uncalled_is =
    let here : i < length nodes = omega (arith, within, many) in
    let noted : i < length seen = omega (arith, within, few) in
    let no : is_called seen i node ≡ false =
    sym (called-as seen acting nodes place i node node false false called noted here same are is
    (calls ∙ ap (λ (n : Node). get_or seen place false || get_or acting place false || not (only_passes n)) (sym is))) ∙ uncalled_is in
    let parts = not-called seen i node no in
    let own : node ≡ get_or before i node = is ∙ next-is (node_table round queues) before nodes i node within so_far in
    record {
      stays = others i node (slice_get-get_or before i node within ∙ ap (λ (n : Node). Some n) (sym own)) no;
      still = parts.1;
      done = passing-done node parts.2;
    }
