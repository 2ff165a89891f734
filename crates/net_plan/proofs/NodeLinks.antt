-- The links above a plan node, and those below it, by what the node is.
use Rattle.std.proofs.Common.{◌≡◌, ◌<◌, ◌+◌, ◌==◌, ℕ, zero, suc, true, false, List, [], ◌∷◌, length, map, Some, refl, sym, ◌∙◌, ap}
use Rattle.std.specs.Prelude.{slice_get, slice_index_or}
use Rattle.std.specs.List.{range_with_len}
use Rattle.std.proofs.lemmas.Bool.{eq-eqb, eqb-true, false≢true, true≢false}
use Rattle.std.proofs.lemmas.List.FromFn.{length-range_with_len}
use Rattle.std.proofs.lemmas.Option.{slice_get_within}
use Rattle.elaborate.proofs.Lists.{None-Some, Some-same, get-in}
use Rattle.elaborate.proofs.Once.{none-is_twice_below}
use Rattle.elaborate.proofs.PlanFacts.{one-is_above}
use Rattle.elaborate.proofs.Uppers.{node-below, none-is_above, some-is_above}
use Rattle.elaborate.specs.Laws.{is_first, is_mux}
use Rattle.elaborate.specs.declared.link.PlanLink.{PlanLink}
use Rattle.elaborate.specs.Plan.{PlanNode, plan_graph, plan_link_at, plan_links, plan_nodes}
use Rattle.net_opening.specs.PlanLinks.{link_into, link_out_of, links_into, links_out_of}
use Rattle.net_plan.proofs.LinkLists.{apart, first-alone, none-in, only-one, place-of}
use Rattle.net_plan.proofs.LinkPlaces.{LinkFacts, link-by_port, link-facts, link-there, link_down, links-out, links_before}
use Rattle.node_graph.proofs.Members.{filter-in, in-filter, in-numbers, numbers-in, repeats-filter, repeats-range}
use Rattle.node_graph.specs.Graph.{is_in, nodes_below, numbers}
use Rattle.node_graph.specs.Order.{repeats}
use Rattle.topology.specs.Document.{DocumentNode}
use Rattle.topology.specs.Refused.{IsAccepted}

-- ---- a plan node, and those below it

pub node-here : (plan : List PlanNode) (upper lower : ℕ) → is_in (slice_index_or (map (λ (node : PlanNode). node.lower) plan) upper []) lower ≡ true →
    (node : PlanNode) × (slice_get plan upper ≡ Some node) × (is_in node.lower lower ≡ true)
node-here [] upper lower e = absurd (false≢true e)
node-here (x ∷ xs) zero lower e = (x, refl, e)
node-here (x ∷ xs) (suc upper) lower e = node-here xs upper lower e

below-are : (plan : List PlanNode) (upper : ℕ) (node : PlanNode) → slice_get plan upper ≡ Some node → slice_index_or (map (λ (node : PlanNode). node.lower) plan) upper [] ≡ node.lower
below-are [] upper node at = absurd (None-Some node at)
below-are (x ∷ xs) zero node at = ap (λ (n : PlanNode). n.lower) (Some-same x node at)
below-are (x ∷ xs) (suc upper) node at = below-are xs upper node at

module _ (nodes : List DocumentNode) where
  pub lowers-once : (upper : ℕ) (node : PlanNode) → slice_get (plan_nodes nodes) upper ≡ Some node → repeats node.lower ≡ false
  lowers-once upper node at = ap repeats (sym (below-are (plan_nodes nodes) upper node at)) ∙ none-is_twice_below nodes upper

  -- ---- membership

  repeats-numbers : (count : ℕ) → repeats (numbers count) ≡ false
  unfolding numbers
  repeats-numbers count = repeats-range 0 count

  pub into-once : (number : ℕ) → repeats (links_into nodes number) ≡ false
  into-once number = repeats-filter (λ link. (plan_link_at nodes link).lower == number) (numbers (length (plan_links nodes))) (repeats-numbers (length (plan_links nodes)))

  pub out-once : (number : ℕ) → repeats (links_out_of nodes number) ≡ false
  out-once number = repeats-filter (λ link. (plan_link_at nodes link).upper == number) (numbers (length (plan_links nodes))) (repeats-numbers (length (plan_links nodes)))

  pub into-is : (number link : ℕ) → is_in (links_into nodes number) link ≡ true → (link < length (plan_links nodes)) × ((plan_link_at nodes link).lower ≡ number)
  into-is number link e =
      let found = in-filter (λ link. (plan_link_at nodes link).lower == number) (numbers (length (plan_links nodes))) link e in
      (in-numbers (length (plan_links nodes)) link found.0, eqb-true (plan_link_at nodes link).lower number found.1)

  pub out-is : (number link : ℕ) → is_in (links_out_of nodes number) link ≡ true → (link < length (plan_links nodes)) × ((plan_link_at nodes link).upper ≡ number)
  out-is number link e =
      let found = in-filter (λ link. (plan_link_at nodes link).upper == number) (numbers (length (plan_links nodes))) link e in
      (in-numbers (length (plan_links nodes)) link found.0, eqb-true (plan_link_at nodes link).upper number found.1)

  pub is-into : (number link : ℕ) → link < length (plan_links nodes) → (plan_link_at nodes link).lower ≡ number → is_in (links_into nodes number) link ≡ true
  is-into number link less same =
      filter-in (λ link. (plan_link_at nodes link).lower == number) (numbers (length (plan_links nodes))) link (numbers-in (length (plan_links nodes)) link less)
      (eq-eqb (plan_link_at nodes link).lower number same)

  pub is-out : (number link : ℕ) → link < length (plan_links nodes) → (plan_link_at nodes link).upper ≡ number → is_in (links_out_of nodes number) link ≡ true
  is-out number link less same =
      filter-in (λ link. (plan_link_at nodes link).upper == number) (numbers (length (plan_links nodes))) link (numbers-in (length (plan_links nodes)) link less)
      (eq-eqb (plan_link_at nodes link).upper number same)

  -- a link leads down in the plan's graph
  pub leads-down : (link : ℕ) → link < length (plan_links nodes) → is_in (nodes_below (plan_graph nodes) (plan_link_at nodes link).upper) (plan_link_at nodes link).lower ≡ true
  leads-down link less =
      let facts : LinkFacts nodes link = link-facts nodes link less in
      node-below nodes (plan_link_at nodes link).upper (plan_link_at nodes link).lower facts.node facts.at (get-in facts.node.lower facts.port (plan_link_at nodes link).lower facts.at_port)

  -- two links between the same nodes are one
  pub same-link : (one other : ℕ) → one < length (plan_links nodes) → other < length (plan_links nodes) → (plan_link_at nodes one).upper ≡ (plan_link_at nodes other).upper →
      (plan_link_at nodes one).lower ≡ (plan_link_at nodes other).lower → one ≡ other
  same-link one other less_one less_other uppers lowers =
      let first : LinkFacts nodes one = link-facts nodes one less_one in
      let second : LinkFacts nodes other = link-facts nodes other less_other in
      let same : first.node ≡ second.node = Some-same first.node second.node (sym first.at ∙ ap (slice_get (plan_nodes nodes)) uppers ∙ second.at) in
      let there : slice_get second.node.lower first.port ≡ Some (plan_link_at nodes other).lower =
      ap (λ (n : PlanNode). slice_get n.lower first.port) (sym same) ∙ first.at_port ∙ ap (λ (k : ℕ). Some k) lowers in
      let port : first.port ≡ second.port =
      apart second.node.lower (lowers-once (plan_link_at nodes other).upper second.node second.at) first.port second.port (plan_link_at nodes other).lower there second.at_port in
      first.sum ∙ ap (λ (k : ℕ). links_before (plan_nodes nodes) k + first.port) uppers ∙ ap (λ (k : ℕ). links_before (plan_nodes nodes) (plan_link_at nodes other).upper + k) port
      ∙ sym second.sum

  -- ---- how many there are

  module _ (accepted : IsAccepted nodes) (number : ℕ) (node : PlanNode) (at : slice_get (plan_nodes nodes) number ≡ Some node) where
    -- none above a manager
    pub none-into : is_first node.part ≡ true → links_into nodes number ≡ []
    none-into first =
        none-in (links_into nodes number) (λ link there.
        let is = into-is number link there in
        true≢false (sym (leads-down link is.0) ∙ ap (is_in (nodes_below (plan_graph nodes) (plan_link_at nodes link).upper)) is.1 ∙ none-is_above nodes accepted number node at first (plan_link_at nodes link).upper))

    -- at least one above all others
    pub some-into : is_first node.part ≡ false → (link : ℕ) × (is_in (links_into nodes number) link ≡ true)
    some-into other =
        let above = some-is_above nodes accepted number node at other in
        let found = node-here (plan_nodes nodes) above.0 number above.1 in
        let port = place-of found.0.lower number found.2 in
        let there = link-there nodes above.0 port.0 number found.0 found.1 port.1 in
        let is = link-by_port nodes above.0 port.0 number found.0 found.1 port.1 in (
          links_before (plan_nodes nodes) above.0 + port.0,
          is-into number (links_before (plan_nodes nodes) above.0 + port.0)
              (slice_get_within (plan_links nodes) (links_before (plan_nodes nodes) above.0 + port.0) (link_down nodes above.0 found.0 number) there) (ap (λ (l : PlanLink). l.lower) is),
        )

    -- and no more than one above one that isn't a mux
    pub one-into : is_first node.part ≡ false → is_mux node.part ≡ false → link_into nodes number ∷ [] ≡ links_into nodes number
    one-into other single =
        let one = some-into other in
        let is = into-is number one.0 one.1 in
        let alone : links_into nodes number ≡ one.0 ∷ [] =
        only-one (links_into nodes number) one.0 one.1
        (λ link there.
        let more = into-is number link there in
        same-link link one.0 more.0 is.0
        (one-is_above nodes accepted number node at single (plan_link_at nodes link).upper (plan_link_at nodes one.0).upper
        (ap (is_in (nodes_below (plan_graph nodes) (plan_link_at nodes link).upper)) (sym more.1) ∙ leads-down link more.0)
        (ap (is_in (nodes_below (plan_graph nodes) (plan_link_at nodes one.0).upper)) (sym is.1) ∙ leads-down one.0 is.0))
        (more.1 ∙ sym is.1))
        (into-once number) in
        first-alone (links_into nodes number) (ap length alone)

    pub out-long : length (links_out_of nodes number) ≡ length node.lower
    out-long = ap length (links-out nodes number node at) ∙ length-range_with_len (links_before (plan_nodes nodes) number) (length node.lower)

    pub one-out : length node.lower ≡ 1 → link_out_of nodes number ∷ [] ≡ links_out_of nodes number
    one-out e = first-alone (links_out_of nodes number) (out-long ∙ e)

    pub none-out : length node.lower ≡ 0 → links_out_of nodes number ≡ []
    none-out e = links-out nodes number node at ∙ ap (range_with_len (links_before (plan_nodes nodes) number)) e
