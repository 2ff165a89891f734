-- No link of a plan has a bus of more than 128 bytes.
use Rattle.std.proofs.Common.{◌≡◌, ◌<◌, ◌≤◌, ℕ, zero, suc, true, List, [], ◌∷◌, length, map, arith, refl, subst, sym}
use Rattle.std.specs.Prelude.{slice_index_or}
use Rattle.std.proofs.lemmas.List.Elements.{All-get_or}
use Rattle.elaborate.proofs.Forms.{Form, Part_at, part-at}
use Rattle.elaborate.proofs.Forms.Form.{Behind, Demux, DemuxError, Input, InputError, Own, Split, Target}
use Rattle.elaborate.specs.declared.link.PlanLink.{PlanLink}
use Rattle.elaborate.specs.Plan.{PlanNode, plan_link_at, plan_links}
use Rattle.net_plan.proofs.LinkPlaces.{LinkFacts, link-facts}
use Rattle.node_graph.proofs.Members.{in-first, in-rest}
use Rattle.node_graph.proofs.Ways.{above-below, handed-local, links-lead_deeper, upper-known}
use Rattle.node_graph.specs.Graph.{depth_of, is_in, nodes_below}
use Rattle.node_graph.specs.Laws.{IsAcyclic}
use Rattle.topology.proofs.AcceptedFacts.{accepted-is_acyclic, graph-long}
use Rattle.topology.specs.Document.{DocumentNode, first_link, graph_of, inputs_of, link_below, link_kind_of, no_link, node_at, node_of_kind, uppers_of}
use Rattle.topology.specs.Refused.{IsAccepted}
use Rattle.topology.specs.declared.link.LinkKind.{LinkKind}
use Rattle.topology_text.specs.Form.{table_form}
use Rattle.topology_text.specs.Formed.{AreFormed, IsFormed, IsNumberAt}
use Rattle.topology_text.specs.Shape.{bus_limits}
use Rattle.topology_text.specs.declared.kind.Kind.{Kind}
use Rattle.topology_text.specs.declared.kind.Kind.TheVariants as kind

-- one of some links of which none is wider
one-within : (f : ℕ → LinkKind) (xs : List ℕ) (place : ℕ) → ((x : ℕ) → is_in xs x ≡ true → (f x).bus ≤ 128) → (slice_index_or (map f xs) place no_link).bus ≤ 128
one-within f [] place each = omega arith
one-within f (x ∷ xs) zero each = each x (in-first x xs x refl)
one-within f (x ∷ xs) (suc place) each = one-within f xs place (λ y there. each y (in-rest x xs y there))

-- what is below a node, where its key and the first link above it are no wider
below-within : (k : Kind) (node : DocumentNode) (links : List LinkKind) → IsNumberAt (table_form k).bus bus_limits node.bus → (first_link links).bus ≤ 128 → (link_below k node links).bus ≤ 128
unfolding table_form
below-within kind.Manager node links own first = own.1
below-within kind.Memory node links own first = first
below-within kind.LiteMemory node links own first = first
below-within kind.Slice node links own first = first
below-within kind.Mux node links own first = first
below-within kind.Demux node links own first = first
below-within kind.Crossbar node links own first = first
below-within kind.Remap node links own first = first
below-within kind.Up node links own first = own.1
below-within kind.Down node links own first = own.1
below-within kind.Lite node links own first = first

module _ (nodes : List DocumentNode) (acyclic : IsAcyclic (graph_of nodes)) (formed : AreFormed nodes) where
  -- of a node, where the links above it are no wider
  next-within : (place : ℕ) → place < length nodes → ((upper : ℕ) → is_in (uppers_of nodes place) upper ≡ true → (link_kind_of nodes upper).bus ≤ 128) → (link_kind_of nodes place).bus ≤ 128
  next-within place less above =
      let node : DocumentNode = node_at nodes place in
      let here : IsFormed node = All-get_or IsFormed nodes place (node_of_kind [] kind.Slice) less formed in
      let local : link_kind_of nodes place ≡ link_below node.kind node (inputs_of nodes place) =
      handed-local (graph_of nodes) (λ number links. link_below (node_at nodes number).kind (node_at nodes number) links) no_link acyclic place (omega (arith, less, graph-long nodes)) in
      subst (λ (link : LinkKind). link.bus ≤ 128) (sym local)
      (below-within node.kind node (inputs_of nodes place) here.bus (one-within (link_kind_of nodes) (uppers_of nodes place) 0 above))

  -- of the nodes that are less deep than this
  above-within : (depth place : ℕ) → depth_of (graph_of nodes) place < depth → place < length nodes → (upper : ℕ) → is_in (uppers_of nodes place) upper ≡ true → (link_kind_of nodes upper).bus ≤ 128
  above-within zero place shallow less upper there = absurd (omega (arith, shallow))
  above-within (suc depth) place shallow less upper there =
      let link : is_in (nodes_below (graph_of nodes) upper) place ≡ true = above-below (graph_of nodes) place upper there in
      let deeper : depth_of (graph_of nodes) upper < depth_of (graph_of nodes) place = links-lead_deeper (graph_of nodes) acyclic upper place (omega (arith, less, graph-long nodes)) link in
      let known : upper < length nodes = omega (arith, upper-known (graph_of nodes) upper place link, graph-long nodes) in
      next-within upper known (above-within depth upper (omega (arith, deeper, shallow)) known)

  inputs-within : (place : ℕ) → place < length nodes → (upper : ℕ) → is_in (uppers_of nodes place) upper ≡ true → (link_kind_of nodes upper).bus ≤ 128
  inputs-within place less = above-within (suc (depth_of (graph_of nodes) place)) place (omega arith) less

  kind-within : (place : ℕ) → place < length nodes → (link_kind_of nodes place).bus ≤ 128
  kind-within place less = next-within place less (inputs-within place less)

  -- ---- the links below a plan node

  node-within : (place inner : ℕ) (node : PlanNode) (k : Kind) → place < length nodes → Form nodes place inner node k → node.link.bus ≤ 128
  node-within place inner node k less (Own p own first is) = subst (λ (n : PlanNode). n.link.bus ≤ 128) (sym is) (kind-within place less)
  node-within place inner node k less (Split p split first is) =
      subst (λ (n : PlanNode). n.link.bus ≤ 128) (sym is) (one-within (link_kind_of nodes) (uppers_of nodes place) 0 (inputs-within place less))
  node-within place inner node k less (Behind p split first is) = subst (λ (n : PlanNode). n.link.bus ≤ 128) (sym is) (kind-within place less)
  node-within place inner node k less (Demux own first is) = subst (λ (n : PlanNode). n.link.bus ≤ 128) (sym is) (kind-within place less)
  node-within place inner node k less (DemuxError own first is) = subst (λ (n : PlanNode). n.link.bus ≤ 128) (sym is) (omega arith)
  node-within place inner node k less (Input i own within first is) =
      subst (λ (n : PlanNode). n.link.bus ≤ 128) (sym is) (one-within (link_kind_of nodes) (uppers_of nodes place) i (inputs-within place less))
  node-within place inner node k less (InputError i own within first is) = subst (λ (n : PlanNode). n.link.bus ≤ 128) (sym is) (omega arith)
  node-within place inner node k less (Target j own within first is) = subst (λ (n : PlanNode). n.link.bus ≤ 128) (sym is) (kind-within place less)

pub link-within : (nodes : List DocumentNode) → IsAccepted nodes → AreFormed nodes → (link : ℕ) → link < length (plan_links nodes) → (plan_link_at nodes link).link.bus ≤ 128
link-within nodes accepted formed link less =
    let facts : LinkFacts nodes link = link-facts nodes link less in
    let spot : Part_at nodes (plan_link_at nodes link).upper facts.node = part-at nodes (plan_link_at nodes link).upper facts.node facts.at in
    subst (λ (l : PlanLink). l.link.bus ≤ 128) (sym facts.is)
    (node-within nodes (accepted-is_acyclic nodes accepted) formed spot.place spot.inner facts.node (node_at nodes spot.place).kind spot.within spot.form)
