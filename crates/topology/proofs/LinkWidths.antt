-- No link of an accepted document has IDs of more than 16 bits, so that the links that are kept are what links are.
use Rattle.std.proofs.Common.{◌≡◌, ◌<◌, ◌≤◌, ◌&&◌, ℕ, zero, suc, true, false, List, [], ◌∷◌, length, map, min, nat_lt, refl, ap, sym, subst, ◌∙◌, arith}
use Rattle.std.proofs.lemmas.Bool.{ltb-false}
use Rattle.std.proofs.lemmas.List.Elements.{All-get_or}
use Rattle.std.proofs.lemmas.List.FromFn.{fill_by_all}
use Rattle.node_graph.proofs.Members.{in-first}
use Rattle.node_graph.proofs.Ways.{above-below, handed-local, links-lead_deeper, upper-known}
use Rattle.node_graph.specs.Graph.{depth_of, is_in, nodes_below, numbers}
use Rattle.node_graph.specs.Laws.{IsAcyclic}
use Rattle.topology.specs.Accepted.{LinksAreNarrow}
use Rattle.topology.specs.Document.{DocumentNode, LinkKind, first_link, graph_of, inputs_of, joins_links, link_below, link_kind_of, no_link, node_at, node_of_kind, uppers_of}
use Rattle.topology.specs.Links.{AreLinks, capped}
use Rattle.topology.specs.Refused.{IsAccepted, has_id_overflow}
use Rattle.topology_text.specs.Form.{table_form}
use Rattle.topology_text.specs.Formed.{AreFormed, IsFormed, IsNumberAt}
use Rattle.topology_text.specs.Shape.{id_width_limits}
use Rattle.topology_text.specs.declared.kind.Kind.{Kind}
use Rattle.topology_text.specs.declared.kind.Kind.TheVariants.{Manager, Memory, LiteMemory, Slice, Mux, Demux, Crossbar, Remap, Up, Down, Lite}
use Rattle.topology.proofs.AcceptedFacts.{accepted-is_acyclic, accepted-is_clean, graph-long}

-- the first of some links, where each has IDs of at most 16 bits
first-narrow : (f : ℕ → LinkKind) (xs : List ℕ) → ((x : ℕ) → is_in xs x ≡ true → (f x).id_width ≤ 16) → (first_link (map f xs)).id_width ≤ 16
first-narrow f [] each = omega arith
first-narrow f (x ∷ xs) each = each x (in-first x xs x refl)

-- what is below a node, where its key and the first link above it have at most 16 bits, and it has no more where it joins links
narrow-below : (kind : Kind) (node : DocumentNode) (links : List LinkKind) → IsNumberAt (table_form kind).id_width id_width_limits node.id_width → (first_link links).id_width ≤ 16 →
    (joins_links kind && nat_lt 16 (link_below kind node links).id_width) ≡ false → (link_below kind node links).id_width ≤ 16
unfolding table_form
narrow-below Manager node links own first fits = own.1
narrow-below Memory node links own first fits = first
narrow-below LiteMemory node links own first fits = first
narrow-below Slice node links own first fits = first
narrow-below Mux node links own first fits = ltb-false 16 (link_below Mux node links).id_width fits
narrow-below Demux node links own first fits = first
narrow-below Crossbar node links own first fits = ltb-false 16 (link_below Crossbar node links).id_width fits
narrow-below Remap node links own first fits = own.1
narrow-below Up node links own first fits = first
narrow-below Down node links own first fits = first
narrow-below Lite node links own first fits = omega arith

module _ (nodes : List DocumentNode) (acyclic : IsAcyclic (graph_of nodes)) (formed : AreFormed nodes) (fits : (place : ℕ) → place < length nodes → has_id_overflow nodes place ≡ false) where
  -- of a node, where the links above it have at most 16 bits
  narrow-next : (place : ℕ) → place < length nodes → ((upper : ℕ) → is_in (uppers_of nodes place) upper ≡ true → (link_kind_of nodes upper).id_width ≤ 16) → (link_kind_of nodes place).id_width ≤ 16
  narrow-next place less above =
      subst (λ (link : LinkKind). link.id_width ≤ 16) (sym local)
      (
      narrow-below node.kind node (inputs_of nodes place) here.id_width (first-narrow (link_kind_of nodes) (uppers_of nodes place) above)
      (subst (λ (link : LinkKind). (joins_links node.kind && nat_lt 16 link.id_width) ≡ false) local (fits place less))
      )
    where
      node : DocumentNode
      node = node_at nodes place

      here : IsFormed node
      here = All-get_or IsFormed nodes place (node_of_kind [] Slice) less formed

      local : link_kind_of nodes place ≡ link_below node.kind node (inputs_of nodes place)
      local = handed-local (graph_of nodes) (λ number links. link_below (node_at nodes number).kind (node_at nodes number) links) no_link acyclic place (omega (arith, less, graph-long nodes))

  -- of the nodes that are less deep than this
  narrow-above : (depth place : ℕ) → depth_of (graph_of nodes) place < depth → place < length nodes → (link_kind_of nodes place).id_width ≤ 16
  narrow-above zero place shallow less = absurd (omega (arith, shallow))
  narrow-above (suc depth) place shallow less =
      narrow-next place less
      (
      λ upper there.
      let link : is_in (nodes_below (graph_of nodes) upper) place ≡ true = above-below (graph_of nodes) place upper there in
      let deeper : depth_of (graph_of nodes) upper < depth_of (graph_of nodes) place = links-lead_deeper (graph_of nodes) acyclic upper place (omega (arith, less, graph-long nodes)) link in
      narrow-above depth upper (omega (arith, deeper, shallow)) (omega (arith, upper-known (graph_of nodes) upper place link, graph-long nodes))
      )

  -- each link has IDs of at most 16 bits
  pub links-are_narrow : (place : ℕ) → place < length nodes → (link_kind_of nodes place).id_width ≤ 16
  links-are_narrow place less = narrow-above (suc (depth_of (graph_of nodes) place)) place (omega arith) less

  -- so that the links that are kept are what links are
  pub links-are_exact : (links : List LinkKind) → AreLinks nodes links → links ≡ map (link_kind_of nodes) (numbers (length nodes))
  unfolding numbers
  links-are_exact links are = fill_by_all (link_kind_of nodes) links (length nodes) no_link are.long (λ place less. are.each place less ∙ uncapped (link_kind_of nodes place) (links-are_narrow place less))
    where
      uncapped : (link : LinkKind) → link.id_width ≤ 16 → capped link ≡ link
      uncapped link narrow = ap (λ (n : ℕ). record link { id_width = n }) (below link.id_width narrow)
        where
          below : (n : ℕ) → n ≤ 16 → min n 255 ≡ n
          below n small = omega (arith, small)

-- ---- of an accepted document

pub accepted-are_narrow : LinksAreNarrow
accepted-are_narrow nodes accepted formed = links-are_narrow nodes (accepted-is_acyclic nodes accepted) formed (λ place less. (accepted-is_clean nodes accepted place less).ids_fit)

pub accepted-are_exact : (nodes : List DocumentNode) (links : List LinkKind) → IsAccepted nodes → AreFormed nodes → AreLinks nodes links → links ≡ map (link_kind_of nodes) (numbers (length nodes))
accepted-are_exact nodes links accepted formed are =
    links-are_exact nodes (accepted-is_acyclic nodes accepted) formed (λ place less. (accepted-is_clean nodes accepted place less).ids_fit) links are
