-- What is kept of links, and what links are.
use Rattle.std.proofs.Common.{◌≡◌, ◌≢◌, ◌==◌, ◌<◌, ◌≤◌, ◌+◌, ◌-◌, ◌||◌, ◌⊎◌, ◌/◌, cond, ℕ, zero, suc, Bool, true, false, List, [], ◌∷◌, get_or, length, map, max, min, nat_le, not, set, take, refl, ap, ap₂, sym, subst, ◌∙◌, inl, inr, arith}
use Rattle.std.specs.List.{list_any}
use Rattle.std.proofs.lemmas.Bool.{cases_lt, eqb-true}
use Rattle.std.proofs.lemmas.List.{get_or-set_other, get_or-set_same, length-map, length-set}
use Rattle.std.proofs.lemmas.Simd.{map-map}
use Rattle.node_graph.proofs.Members.{in-filter, in-first, in-rest, in-numbers, map-same}
use Rattle.node_graph.proofs.Uppers.{in-more-other}
use Rattle.node_graph.proofs.Visited.{get-any, taken-whole}
use Rattle.node_graph.proofs.Ways.{handed-local}
use Rattle.node_graph.specs.Graph.{Graph, is_in, nodes_above, nodes_below, numbers}
use Rattle.node_graph.specs.Laws.{IsAcyclic}
use Rattle.node_graph.specs.Simple.{LeadsDown}
use Rattle.topology.specs.Document.{DocumentNode, LinkKind, digits_up_to, first_link, graph_of, input_digits, inputs_of, link_below, link_kind_of, no_link, node_at, uppers_of, widest}
use Rattle.topology.specs.Fits.{any_lite_of, bus_differs_at, protocol_differs_at}
use Rattle.topology.specs.Links.{AreLinks, HasLinks, capped, known_link}
use Rattle.topology.specs.Refused.{has_lite_mismatch, has_width_mismatch}
use Rattle.topology_text.specs.declared.kind.Kind.{Kind}
use Rattle.topology_text.specs.declared.kind.Kind.TheVariants.{Manager, Memory, LiteMemory, Slice, Mux, Demux, Crossbar, Remap, Up, Down, Lite}
use Rattle.topology.proofs.AcceptedFacts.{graph-long}

-- a test of the links of some numbers is one of these links
pub any_known : (test : LinkKind → Bool) (links : List LinkKind) (uppers : List ℕ) → list_any (λ upper. test (known_link links upper)) uppers ≡ list_any test (map (known_link links) uppers)
any_known test links [] = refl
any_known test links (upper ∷ uppers) = ap (λ (rest : Bool). test (known_link links upper) || rest) (any_known test links uppers)

first-capped : (links : List LinkKind) → first_link (map capped links) ≡ capped (first_link links)
first-capped [] = refl
first-capped (link ∷ links) = refl

widest-capped : (links : List LinkKind) → widest (map capped links) ≡ min (widest links) 255
widest-capped [] = refl
widest-capped (link ∷ links) = ap (λ (w : ℕ). max (min link.id_width 255) w) (widest-capped links) ∙ over link.id_width (widest links)
  where
    over : (a b : ℕ) → max (min a 255) (min b 255) ≡ min (max a b) 255
    over a b = omega arith

merged-capped : (links : List LinkKind) → min (widest (map capped links) + input_digits (length (map capped links))) 255 ≡ min (widest links + input_digits (length links)) 255
merged-capped links =
    ap₂ (λ (w n : ℕ). min (w + input_digits n) 255) (widest-capped links) (length-map links capped) ∙ over (widest links) (input_digits (length links))
  where
    over : (a d : ℕ) → min (min a 255 + d) 255 ≡ min (a + d) 255
    over a d = omega arith

twice : (n : ℕ) → min (min n 255) 255 ≡ min n 255
twice n = omega arith

-- the link below a node is the same, up to its cap, where those above are told up to theirs
pub below-capped : (kind : Kind) (node : DocumentNode) (links : List LinkKind) → capped (link_below kind node (map capped links)) ≡ capped (link_below kind node links)
below-capped Manager node links = refl
below-capped Memory node links = ap capped (first-capped links) ∙ ap (λ (n : ℕ). record (first_link links) { id_width = n }) (twice (first_link links).id_width)
below-capped LiteMemory node links = ap capped (first-capped links) ∙ ap (λ (n : ℕ). record (first_link links) { id_width = n }) (twice (first_link links).id_width)
below-capped Slice node links = ap capped (first-capped links) ∙ ap (λ (n : ℕ). record (first_link links) { id_width = n }) (twice (first_link links).id_width)
below-capped Demux node links = ap capped (first-capped links) ∙ ap (λ (n : ℕ). record (first_link links) { id_width = n }) (twice (first_link links).id_width)
below-capped Mux node links = ap₂ (λ (first : LinkKind) (n : ℕ). record first { id_width = n }) (first-capped links) (merged-capped links)
below-capped Crossbar node links = ap₂ (λ (first : LinkKind) (n : ℕ). record first { id_width = n }) (first-capped links) (merged-capped links)
below-capped Remap node links = ap (λ (first : LinkKind). record first { id_width = min node.id_width 255 }) (first-capped links)
below-capped Up node links = ap (λ (first : LinkKind). capped (record first { bus = node.bus })) (first-capped links) ∙ ap (λ (n : ℕ). record (first_link links) { id_width = n; bus = node.bus }) (twice (first_link links).id_width)
below-capped Down node links = ap (λ (first : LinkKind). capped (record first { bus = node.bus })) (first-capped links) ∙ ap (λ (n : ℕ). record (first_link links) { id_width = n; bus = node.bus }) (twice (first_link links).id_width)
below-capped Lite node links = ap (λ (first : LinkKind). record { lite = true; bus = first.bus; id_width = 0 }) (first-capped links)

-- ---- what fits

buses-capped : (bus : ℕ) (links : List LinkKind) → list_any (λ (other : LinkKind). not (other.bus == bus)) (map capped links) ≡ list_any (λ (other : LinkKind). not (other.bus == bus)) links
buses-capped bus [] = refl
buses-capped bus (link ∷ links) = ap (λ (rest : Bool). not (link.bus == bus) || rest) (buses-capped bus links)

any-capped : (links : List LinkKind) → any_lite_of (map capped links) ≡ any_lite_of links
any-capped [] = refl
any-capped (link ∷ links) = ap (λ (rest : Bool). link.lite || rest) (any-capped links)

same-buses : (links : List LinkKind) →
    list_any (λ (other : LinkKind). not (other.bus == (first_link (map capped links)).bus)) (map capped links) ≡ list_any (λ (other : LinkKind). not (other.bus == (first_link links).bus)) links
same-buses links = ap (λ (first : LinkKind). list_any (λ (other : LinkKind). not (other.bus == first.bus)) (map capped links)) (first-capped links) ∙ buses-capped (first_link links).bus links

differs-capped : (node : DocumentNode) (links : List LinkKind) (kind : Kind) → bus_differs_at node (map capped links) kind ≡ bus_differs_at node links kind
differs-capped node links Manager = refl
differs-capped node links Memory = ap (λ (first : LinkKind). not (node.bus == first.bus)) (first-capped links)
differs-capped node links LiteMemory = refl
differs-capped node links Slice = refl
differs-capped node links Mux = same-buses links
differs-capped node links Demux = refl
differs-capped node links Crossbar = same-buses links
differs-capped node links Remap = refl
differs-capped node links Up = ap (λ (first : LinkKind). nat_le node.bus first.bus) (first-capped links)
differs-capped node links Down = ap (λ (first : LinkKind). nat_le first.bus node.bus) (first-capped links)
differs-capped node links Lite = refl

protocol-capped : (links : List LinkKind) (kind : Kind) → protocol_differs_at (map capped links) kind ≡ protocol_differs_at links kind
protocol-capped links Manager = any-capped links
protocol-capped links Memory = any-capped links
protocol-capped links LiteMemory = ap (λ (first : LinkKind). not first.lite) (first-capped links)
protocol-capped links Slice = refl
protocol-capped links Mux = any-capped links
protocol-capped links Demux = any-capped links
protocol-capped links Crossbar = any-capped links
protocol-capped links Remap = any-capped links
protocol-capped links Up = any-capped links
protocol-capped links Down = any-capped links
protocol-capped links Lite = ap₂ (λ (b : Bool) (first : LinkKind). b || not (first.bus == 4 || first.bus == 8)) (any-capped links) (first-capped links)

upper-inside : (nodes : List DocumentNode) (place upper : ℕ) → is_in (uppers_of nodes place) upper ≡ true → upper < length nodes
upper-inside nodes place upper there =
    let known : upper < length (graph_of nodes) = in-numbers (length (graph_of nodes)) upper (in-filter (λ other. is_in (nodes_below (graph_of nodes) other) place) (numbers (length (graph_of nodes))) upper there).0 in
    subst (λ (n : ℕ). upper < n) (graph-long nodes) known

-- what is known of the links above a node
pub inputs-known : (nodes : List DocumentNode) (links : List LinkKind) (place : ℕ) → AreLinks nodes links → map (known_link links) (uppers_of nodes place) ≡ map capped (inputs_of nodes place)
inputs-known nodes links place are =
    map-same (known_link links) (λ upper. capped (link_kind_of nodes upper)) (uppers_of nodes place) (λ upper there. are.each upper (upper-inside nodes place upper there))
    ∙ sym (map-map capped (link_kind_of nodes) (uppers_of nodes place))

module _ (nodes : List DocumentNode) (graph : Graph) (links : List LinkKind) (place : ℕ) (uppers : List ℕ) (are : AreLinks nodes links) (joined : graph ≡ graph_of nodes) (above : uppers ≡ nodes_above graph place) where
  known : map (known_link links) uppers ≡ map capped (inputs_of nodes place)
  known = ap (map (known_link links)) (above ∙ ap (λ (g : Graph). nodes_above g place) joined) ∙ inputs-known nodes links place are

  pub width-known : (node : DocumentNode) (b : Bool) → node ≡ node_at nodes place → b ≡ bus_differs_at node (map (known_link links) uppers) node.kind → b ≡ has_width_mismatch nodes place
  width-known node b same e =
      e ∙ ap₂ (λ (n : DocumentNode) (xs : List LinkKind). bus_differs_at n xs n.kind) same known ∙ differs-capped (node_at nodes place) (inputs_of nodes place) (node_at nodes place).kind

  pub protocol-known : (kind : Kind) (b : Bool) → kind ≡ (node_at nodes place).kind → b ≡ protocol_differs_at (map (known_link links) uppers) kind → b ≡ has_lite_mismatch nodes place
  protocol-known kind b same e =
      e ∙ ap₂ (λ (k : Kind) (xs : List LinkKind). protocol_differs_at xs k) same known ∙ protocol-capped (inputs_of nodes place) (node_at nodes place).kind

-- ---- links, one after the other

links-more : (nodes : List DocumentNode) (links : List LinkKind) (order : List ℕ) (place node : ℕ) (link : LinkKind) → IsAcyclic (graph_of nodes) → place < length order → get_or order place 0 ≡ node →
    node < length nodes → ((upper : ℕ) → is_in (uppers_of nodes node) upper ≡ true → is_in (take place order) upper ≡ true) → HasLinks nodes links (take place order) →
    link ≡ capped (link_below (node_at nodes node).kind (node_at nodes node) (map (known_link links) (uppers_of nodes node))) → HasLinks nodes (set links node link) (take (place + 1) order)
links-more nodes links order place node link acyclic less at inside below has e = record {
  long = length-set links node link ∙ has.long;
  each = λ other there. elim (eq-cases other node) [
    | inl same ↦ subst (λ (k : ℕ). known_link (set links node link) k ≡ capped (link_kind_of nodes k)) (sym same) (get_or-set_same links node link no_link (subst (λ (n : ℕ). node < n) (sym has.long) inside) ∙ value)
    | inr differ ↦ get_or-set_other links node other link no_link differ ∙ has.each other (sym (in-more-other order place other less (λ (f : get_or order place 0 ≡ other). differ (sym (sym at ∙ f)))) ∙ there)
  ];
}
  where
    eq-cases : (a b : ℕ) → (a ≡ b) ⊎ (a ≢ b)
    eq-cases a b = elim (cases_lt a b) [
      | inl less ↦ inr (λ same. absurd (omega (arith, less, same)))
      | inr more ↦ elim (cases_lt b a) [
        | inl less ↦ inr (λ same. absurd (omega (arith, less, same)))
        | inr both ↦ inl (omega (arith, more, both))
      ]
    ]

    kind : Kind
    kind = (node_at nodes node).kind

    uppers : List ℕ
    uppers = uppers_of nodes node

    value : link ≡ capped (link_kind_of nodes node)
    value =
        e ∙ ap (λ (xs : List LinkKind). capped (link_below kind (node_at nodes node) xs))
        (map-same (known_link links) (λ upper. capped (link_kind_of nodes upper)) uppers (λ upper there. has.each upper (below upper there)) ∙ sym (map-map capped (link_kind_of nodes) uppers))
        ∙ below-capped kind (node_at nodes node) (map (link_kind_of nodes) uppers)
        ∙ ap capped (sym (handed-local (graph_of nodes) (λ place links. link_below (node_at nodes place).kind (node_at nodes place) links) no_link acyclic node (subst (λ (n : ℕ). node < n) (sym (graph-long nodes)) inside)))

get-in : (xs : List ℕ) (place : ℕ) → place < length xs → is_in xs (get_or xs place 0) ≡ true
get-in [] place less = absurd (omega (arith, less))
get-in (x ∷ xs) zero less = in-first x xs x refl
get-in (x ∷ xs) (suc place) less = in-rest x xs (get_or xs place 0) (get-in xs place (omega (arith, less)))

pub links-next : (nodes : List DocumentNode) (graph : Graph) (links : List LinkKind) (order : List ℕ) (place node : ℕ) (link : LinkKind) (document : DocumentNode) (uppers : List ℕ) →
    graph ≡ graph_of nodes → length graph ≡ length nodes → IsAcyclic graph → LeadsDown graph order → place < length order → node ≡ get_or order place node → document ≡ node_at nodes node → uppers ≡ nodes_above graph node →
    HasLinks nodes links (take place order) → link ≡ capped (link_below document.kind document (map (known_link links) uppers)) → HasLinks nodes (set links node link) (take (place + 1) order)
links-next nodes graph links order place node link document uppers joined long acyclic leads less at same above has e =
    let at_0 : get_or order place 0 ≡ node = sym (at ∙ get-any order place node less) in
    let inside : node < length graph = leads.known node (subst (λ (k : ℕ). is_in order k ≡ true) at_0 (get-in order place less)) in
    links-more nodes links order place node link (subst (λ (g : Graph). IsAcyclic g) joined acyclic) less at_0 (omega (arith, inside, long))
    (λ upper there. leads.down place upper less (subst (λ (k : ℕ). is_in (nodes_above graph k) upper ≡ true) (sym at_0) (subst (λ (g : Graph). is_in (nodes_above g node) upper ≡ true) (sym joined) there)))
    has (e ∙ ap₂ (λ (d : DocumentNode) (us : List ℕ). capped (link_below d.kind d (map (known_link links) us))) same (above ∙ ap (λ (g : Graph). nodes_above g node) joined))

pub links-all : (nodes : List DocumentNode) (graph : Graph) (links : List LinkKind) (order : List ℕ) (count : ℕ) → length graph ≡ length nodes → LeadsDown graph order → length order ≤ count → HasLinks nodes links (take count order) → AreLinks nodes links
links-all nodes graph links order count long leads past has = record {
  long = has.long;
  each = λ place less. has.each place (subst (λ (xs : List ℕ). is_in xs place ≡ true) (sym (taken-whole count order past)) (leads.whole place (omega (arith, less, long))));
}

-- ---- digits

no_digits : (most : ℕ) → digits_up_to most 0 ≡ 0
no_digits zero = refl
no_digits (suc most) = refl

pub digits-next : (place digits rest digit total : ℕ) → place < 32 → digit ≡ cond (not (rest == 0)) 1 0 → (digits ≤ place) × (digits + digits_up_to (32 - place) rest ≡ total) →
    (digits + digit ≤ place + 1) × (digits + digit + digits_up_to (32 - (place + 1)) (rest / 2) ≡ total)
digits-next place digits rest digit total less e has = by (rest == 0) refl
  where
    left : 32 - place ≡ suc (32 - (place + 1))
    left = omega (arith, less)

    now : digits + cond (rest == 0) 0 (suc (digits_up_to (32 - (place + 1)) (rest / 2))) ≡ total
    now = sym (ap (λ (k : ℕ). digits + digits_up_to k rest) left) ∙ has.1

    by : (b : Bool) → (rest == 0) ≡ b → (digits + digit ≤ place + 1) × (digits + digit + digits_up_to (32 - (place + 1)) (rest / 2) ≡ total)
    by true f =
        let none : digit ≡ 0 = e ∙ ap (λ (b : Bool). cond (not b) 1 0) f in
        let here : digits + 0 ≡ total = sym (ap (λ (b : Bool). digits + cond b 0 (suc (digits_up_to (32 - (place + 1)) (rest / 2)))) f) ∙ now in
        let half : rest / 2 ≡ 0 = omega (arith, eqb-true rest 0 f) in
        let over : digits_up_to (32 - (place + 1)) (rest / 2) ≡ 0 = ap (digits_up_to (32 - (place + 1))) half ∙ no_digits (32 - (place + 1)) in
        (omega (arith, none, has.0), omega (arith, none, here, over))
    by false f =
        let one : digit ≡ 1 = e ∙ ap (λ (b : Bool). cond (not b) 1 0) f in
        let here : digits + suc (digits_up_to (32 - (place + 1)) (rest / 2)) ≡ total = sym (ap (λ (b : Bool). digits + cond b 0 (suc (digits_up_to (32 - (place + 1)) (rest / 2)))) f) ∙ now in
        (omega (arith, one, has.0), omega (arith, one, here))

-- the node at a place of an order is there
pub order-known : (graph : Graph) (order : List ℕ) (place : ℕ) → LeadsDown graph order → place < length order → get_or order place 0 < length graph
order-known graph order place leads less = leads.known (get_or order place 0) (get-in order place less)
