-- The network of a plan is wired.
use Rattle.std.proofs.Common.{◌≡◌, ◌<◌, ◌≤◌, ◌+◌, ℕ, zero, suc, true, false, List, [], ◌∷◌, length, map, Option, Some, None, refl, sym, ◌∙◌, ap, subst, inl, inr, arith}
use Rattle.std.specs.Prelude.{All, Contains, slice_get, slice_index_or}
use Rattle.std.specs.Option.{option_map_or}
use Rattle.std.proofs.lemmas.Bool.{cases_lt}
use Rattle.std.proofs.lemmas.List.{length-map}
use Rattle.std.proofs.lemmas.List.FromFn.{length-map-range_with_len}
use Rattle.std.proofs.lemmas.Option.{slice_get_past, slice_get_within}
use Rattle.axi_link.specs.LinkView.{empty_link}
use Rattle.axi_link.specs.LinkWords.{link_of}
use Rattle.elaborate.proofs.Lists.{get-mapped}
use Rattle.elaborate.proofs.PlanFacts.{lowers-are_nodes, plan-is_acyclic}
use Rattle.elaborate.specs.Laws.{is_first, is_mux}
use Rattle.elaborate.specs.Plan.{PlanNode, plan_graph, plan_link_at, plan_links, plan_node_at, plan_nodes}
use Rattle.elaborate.specs.declared.link.PlanLink.{PlanLink}
use Rattle.elaborate.specs.declared.part.Part.{Part}
use Rattle.elaborate.specs.declared.part.Part.TheVariants as part
use Rattle.net_kinds.specs.NodeKind.{NodeState, node_kind}
use Rattle.net_model.specs.Network.{lower_node, net_link, upper_node}
use Rattle.net_model.specs.Wired.{IsWired, lowers_at, uppers_at}
use Rattle.net_model.specs.declared.net_link.NetLink.{NetLink}
use Rattle.net_opening.specs.Opening.{opening, state_at, state_by_part}
use Rattle.net_opening.specs.PlanLinks.{form_of_link, link_into, link_out_of, links_into, links_out_of, net_link_of, queue_of}
use Rattle.net_plan.proofs.LinkLists.{all-of, apart, contains-in, none-in, some-at}
use Rattle.net_plan.proofs.LinkPlaces.{LinkFacts, link-facts}
use Rattle.net_plan.proofs.NodeLinks.{into-is, into-once, is-into, is-out, leads-down, none-into, none-out, one-into, one-out, out-is, out-once}
use Rattle.net_plan.proofs.PartLemmas.{LowersSuit, deep, lowers-suit}
use Rattle.net_plan.specs.PlanLaws.{CanRun, FormsAreOfLinks, OpeningsAreWired}
use Rattle.net_ways.specs.Sound.{IsFormOf}
use Rattle.node_core.specs.Acted.{Acted, opened}
use Rattle.node_graph.proofs.Ways.{links-lead_deeper}
use Rattle.node_graph.specs.Graph.{Graph, depth_of, handed_in, nodes_above, numbers, one_more}
use Rattle.node_shape.specs.WaysAround.{AreApart}
use Rattle.plan_traffic.specs.Traffic.{TrafficItem}
use Rattle.topology.specs.Document.{DocumentNode, no_link}

-- ---- depths

one_more-most : (f : ℕ → ℕ) (xs : List ℕ) (most : ℕ) → ((x : ℕ) → f x ≤ most) → one_more (map f xs) ≤ suc most
one_more-most f [] most each = omega arith
one_more-most f (y ∷ ys) most each = omega (arith, each y, one_more-most f ys most each)

depth-most : (graph : Graph) (steps node : ℕ) → handed_in (λ number depths. one_more depths) 0 graph steps node ≤ steps
unfolding handed_in
depth-most graph zero node = omega arith
depth-most graph (suc steps) node = one_more-most (handed_in (λ number depths. one_more depths) 0 graph steps) (nodes_above graph node) steps (depth-most graph steps)

get-made : {X Y : Type 0} (f : X → Y) (xs : List X) (place : ℕ) (d : X) → slice_index_or (map f xs) place (f d) ≡ f (slice_index_or xs place d)
get-made f [] place d = refl
get-made f (x ∷ xs) zero d = refl
get-made f (x ∷ xs) (suc place) d = get-made f xs place d

module _ (nodes : List DocumentNode) (items : List TrafficItem) where
  -- ---- links

  pub link-is : (link : ℕ) → net_link (opening nodes items).links link ≡ net_link_of (plan_link_at nodes link)
  link-is link = get-made net_link_of (plan_links nodes) link (record { upper = 0; lower = 0; link = no_link; depth = 0 })

  pub links-long : length (opening nodes items).links ≡ length (plan_links nodes)
  links-long = length-map (plan_links nodes) net_link_of

  pub within : (link : ℕ) → link < length (opening nodes items).links → link < length (plan_links nodes)
  within link less = omega (arith, links-long, less)

  upper-is : (link : ℕ) → upper_node (opening nodes items).links link ≡ (plan_link_at nodes link).upper
  upper-is link = ap (λ (l : NetLink). l.upper) (link-is link)

  lower-is : (link : ℕ) → lower_node (opening nodes items).links link ≡ (plan_link_at nodes link).lower
  lower-is link = ap (λ (l : NetLink). l.lower) (link-is link)

  pub form-is : (link : ℕ) → IsFormOf (net_link (opening nodes items).links link) (form_of_link nodes link)
  form-is link = record { lite = sym (ap (λ (l : NetLink). l.lite) (link-is link)); bus = sym (ap (λ (l : NetLink). l.bus) (link-is link)); id_width = sym (ap (λ (l : NetLink). l.id_width) (link-is link)) }

  -- ---- nodes

  pub node-at : (number : ℕ) → number < length (plan_nodes nodes) → slice_get (plan_nodes nodes) number ≡ Some (plan_node_at nodes number)
  node-at number less = some-at (plan_nodes nodes) number (record { part = part.Slice; document = 0; name = []; lower = []; link = no_link }) less

  pub nodes-long : length (opening nodes items).nodes ≡ length (plan_nodes nodes)
  unfolding numbers
  nodes-long = length-map-range_with_len (λ number. opened (state_at nodes items number)) 0 (length (plan_nodes nodes))

  pub node-is : (number : ℕ) → number < length (plan_nodes nodes) → slice_get (opening nodes items).nodes number ≡ Some (opened (state_at nodes items number))
  unfolding numbers
  node-is number less =
      let zeroth : 0 + number ≡ number = omega arith in
      get-mapped (λ number. opened (state_at nodes items number)) 0 (length (plan_nodes nodes)) number less ∙ ap (λ (k : ℕ). Some (opened (state_at nodes items k))) zeroth

  pub node-past : (number : ℕ) → length (plan_nodes nodes) ≤ number → slice_get (opening nodes items).nodes number ≡ None
  node-past number past = slice_get_past (opening nodes items).nodes number (omega (arith, nodes-long, past))

  -- ---- the links that a node names are those of its plan node

  uppers-by_part : (number : ℕ) (p : Part) → (is_first p ≡ true → links_into nodes number ≡ []) → (is_first p ≡ false → is_mux p ≡ false → link_into nodes number ∷ [] ≡ links_into nodes number) →
      node_kind.uppers (state_by_part nodes items number p) ≡ links_into nodes number
  uppers-by_part number part.Manager none one = sym (none refl)
  uppers-by_part number part.Mux none one = refl
  uppers-by_part number part.Error none one = one refl refl
  uppers-by_part number part.Demux none one = one refl refl
  uppers-by_part number part.Memory none one = one refl refl
  uppers-by_part number part.LiteMemory none one = one refl refl
  uppers-by_part number part.Slice none one = one refl refl
  uppers-by_part number part.Remap none one = one refl refl
  uppers-by_part number part.Split none one = one refl refl
  uppers-by_part number part.Up none one = one refl refl
  uppers-by_part number part.Down none one = one refl refl
  uppers-by_part number part.Lite none one = one refl refl

  lowers-by_part : (number : ℕ) (p : Part) (lower : List ℕ) → LowersSuit p lower → (length lower ≡ 1 → link_out_of nodes number ∷ [] ≡ links_out_of nodes number) → (length lower ≡ 0 → links_out_of nodes number ≡ []) →
      node_kind.lowers (state_by_part nodes items number p) ≡ links_out_of nodes number
  lowers-by_part number part.Manager lower suits one none = one suits
  lowers-by_part number part.Mux lower suits one none = one suits
  lowers-by_part number part.Slice lower suits one none = one suits
  lowers-by_part number part.Demux lower suits one none = refl
  lowers-by_part number part.Memory lower suits one none = sym (none suits)
  lowers-by_part number part.Error lower suits one none = sym (none suits)
  lowers-by_part number part.LiteMemory lower suits one none = sym (none suits)
  lowers-by_part number part.Remap lower suits one none = one suits
  lowers-by_part number part.Split lower suits one none = one suits
  lowers-by_part number part.Up lower suits one none = one suits
  lowers-by_part number part.Down lower suits one none = absurd suits
  lowers-by_part number part.Lite lower suits one none = one suits

  module _ (run : CanRun nodes) where
    lower-known : (link : ℕ) → link < length (plan_links nodes) → (plan_link_at nodes link).lower < length (plan_nodes nodes)
    lower-known link less = lowers-are_nodes nodes (plan_link_at nodes link).upper (plan_link_at nodes link).lower (leads-down nodes link less)

    upper-known : (link : ℕ) → link < length (plan_links nodes) → (plan_link_at nodes link).upper < length (plan_nodes nodes)
    upper-known link less = let facts : LinkFacts nodes link = link-facts nodes link less in slice_get_within (plan_nodes nodes) (plan_link_at nodes link).upper facts.node facts.at

    pub uppers-are : (number : ℕ) → uppers_at node_kind (opening nodes items).nodes number ≡ links_into nodes number
    uppers-are number =
        elim (cases_lt number (length (plan_nodes nodes))) [
          | inl less ↦
              ap (λ (o : Option (Acted NodeState)). option_map_or (λ (n : Acted NodeState). node_kind.uppers n.state) o []) (node-is number less)
              ∙ uppers-by_part number (plan_node_at nodes number).part
              (none-into nodes run.accepted number (plan_node_at nodes number) (node-at number less))
              (one-into nodes run.accepted number (plan_node_at nodes number) (node-at number less))
          | inr past ↦
              ap (λ (o : Option (Acted NodeState)). option_map_or (λ (n : Acted NodeState). node_kind.uppers n.state) o []) (node-past number past)
              ∙ sym (none-in (links_into nodes number) (λ link there. let is = into-is nodes number link there in omega (arith, lower-known link is.0, is.1, past)))
        ]

    pub lowers-are : (number : ℕ) → lowers_at node_kind (opening nodes items).nodes number ≡ links_out_of nodes number
    lowers-are number =
        elim (cases_lt number (length (plan_nodes nodes))) [
          | inl less ↦
              ap (λ (o : Option (Acted NodeState)). option_map_or (λ (n : Acted NodeState). node_kind.lowers n.state) o []) (node-is number less)
              ∙ lowers-by_part number (plan_node_at nodes number).part (plan_node_at nodes number).lower (lowers-suit nodes run number (plan_node_at nodes number) (node-at number less))
              (one-out nodes run.accepted number (plan_node_at nodes number) (node-at number less))
              (none-out nodes run.accepted number (plan_node_at nodes number) (node-at number less))
          | inr past ↦
              ap (λ (o : Option (Acted NodeState)). option_map_or (λ (n : Acted NodeState). node_kind.lowers n.state) o []) (node-past number past)
              ∙ sym (none-in (links_out_of nodes number) (λ link there. let is = out-is nodes number link there in omega (arith, upper-known link is.0, is.1, past)))
        ]

    graph-long : length (plan_graph nodes) ≡ length (plan_nodes nodes)
    graph-long = length-map (plan_nodes nodes) (λ (node : PlanNode). node.lower)

    uppers : (node : ℕ) → All (λ link. (link < length (opening nodes items).links) × (lower_node (opening nodes items).links link ≡ node)) (uppers_at node_kind (opening nodes items).nodes node)
    uppers node =
        subst (λ (ls : List ℕ). All (λ link. (link < length (opening nodes items).links) × (lower_node (opening nodes items).links link ≡ node)) ls) (sym (uppers-are node))
        (all-of (λ link. (link < length (opening nodes items).links) × (lower_node (opening nodes items).links link ≡ node)) (links_into nodes node)
        (λ link there. let is = into-is nodes node link there in (omega (arith, links-long, is.0), lower-is link ∙ is.1)))

    lowers : (node : ℕ) → All (λ link. (link < length (opening nodes items).links) × (upper_node (opening nodes items).links link ≡ node)) (lowers_at node_kind (opening nodes items).nodes node)
    lowers node =
        subst (λ (ls : List ℕ). All (λ link. (link < length (opening nodes items).links) × (upper_node (opening nodes items).links link ≡ node)) ls) (sym (lowers-are node))
        (all-of (λ link. (link < length (opening nodes items).links) × (upper_node (opening nodes items).links link ≡ node)) (links_out_of nodes node)
        (λ link there. let is = out-is nodes node link there in (omega (arith, links-long, is.0), upper-is link ∙ is.1)))

    above : (link : ℕ) → link < length (opening nodes items).links → Contains (lowers_at node_kind (opening nodes items).nodes (upper_node (opening nodes items).links link)) link
    above link less =
        subst (λ (ls : List ℕ). Contains ls link) (sym (lowers-are (upper_node (opening nodes items).links link)))
        (contains-in (links_out_of nodes (upper_node (opening nodes items).links link)) link
        (is-out nodes (upper_node (opening nodes items).links link) link (within link less) (sym (upper-is link))))

    below : (link : ℕ) → link < length (opening nodes items).links → Contains (uppers_at node_kind (opening nodes items).nodes (lower_node (opening nodes items).links link)) link
    below link less =
        subst (λ (ls : List ℕ). Contains ls link) (sym (uppers-are (lower_node (opening nodes items).links link)))
        (contains-in (links_into nodes (lower_node (opening nodes items).links link)) link
        (is-into nodes (lower_node (opening nodes items).links link) link (within link less) (sym (lower-is link))))

    falls : (link : ℕ) → link < length (opening nodes items).links →
        depth_of (plan_graph nodes) (upper_node (opening nodes items).links link) < depth_of (plan_graph nodes) (lower_node (opening nodes items).links link)
    falls link less =
        let deeper = links-lead_deeper (plan_graph nodes) (plan-is_acyclic nodes run.accepted) (plan_link_at nodes link).upper (plan_link_at nodes link).lower
        (omega (arith, graph-long, lower-known link (within link less))) (leads-down nodes link (within link less)) in
        omega (arith, deeper, ap (depth_of (plan_graph nodes)) (upper-is link), ap (depth_of (plan_graph nodes)) (lower-is link))

    empty : (link : ℕ) → link < length (opening nodes items).links → link_of (opening nodes items).queues link ≡ empty_link (net_link (opening nodes items).links link).depth
    empty link less =
        get-made queue_of (plan_links nodes) link (record { upper = 0; lower = 0; link = no_link; depth = 0 }) ∙ sym (ap (λ (l : NetLink). empty_link l.depth) (link-is link))

    rooms : (link : ℕ) → link < length (opening nodes items).links → 0 < (net_link (opening nodes items).links link).depth
    rooms link less =
        let facts : LinkFacts nodes link = link-facts nodes link (within link less) in
        let some : facts.port < length facts.node.lower = slice_get_within facts.node.lower facts.port (plan_link_at nodes link).lower facts.at_port in
        let depth = deep nodes run (plan_link_at nodes link).upper facts.node facts.at (omega (arith, some)) in
        omega (arith, depth, ap (λ (l : NetLink). l.depth) (link-is link), ap (λ (l : PlanLink). l.depth) facts.is)

    pub wired : IsWired node_kind (opening nodes items)
    wired = record {
      rank = depth_of (plan_graph nodes);
      ranked = λ node. omega (arith, depth-most (plan_graph nodes) (length (plan_graph nodes)) node, graph-long, nodes-long);
      long = length-map (plan_links nodes) queue_of ∙ sym links-long;
      uppers = uppers;
      lowers = lowers;
      above = above;
      below = below;
      uppers_apart = λ node. subst AreApart (sym (uppers-are node)) (apart (links_into nodes node) (into-once nodes node));
      lowers_apart = λ node. subst AreApart (sym (lowers-are node)) (apart (links_out_of nodes node) (out-once nodes node));
      falls = falls;
      empty = empty;
      deep = rooms;
    }

pub openings-are_wired : OpeningsAreWired
openings-are_wired nodes items run = wired nodes items run

pub forms-are_of_links : FormsAreOfLinks
forms-are_of_links nodes items link less = form-is nodes items link
