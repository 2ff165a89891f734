-- Where the links of a plan stand: those below a plan node stand in a row, in order of port.
use Rattle.std.proofs.Common.{◌≡◌, ◌<◌, ◌≤◌, ◌+◌, ◌-◌, ◌++◌, ◌==◌, ℕ, zero, suc, List, [], ◌∷◌, length, Some, refl, sym, ◌∙◌, ap, inl, inr, arith}
use Rattle.std.specs.Prelude.{filter, slice_get, slice_index_or}
use Rattle.std.specs.List.{range_with_len}
use Rattle.std.proofs.lemmas.Bool.{cases_lt, eq-eqb, eqb-true, false_from_ne_true}
use Rattle.std.proofs.lemmas.List.{length-append, length-map}
use Rattle.std.proofs.lemmas.Option.{slice_get_within}
use Rattle.elaborate.proofs.Lists.{None-Some, Some-same, get-back, get-front}
use Rattle.elaborate.specs.declared.link.PlanLink.{PlanLink}
use Rattle.elaborate.specs.Plan.{PlanNode, links_below, links_from, plan_link_at, plan_links, plan_nodes}
use Rattle.net_opening.specs.PlanLinks.{links_out_of}
use Rattle.net_plan.proofs.LinkLists.{at-some, made-from, made-into, part-passes, some-at}
use Rattle.node_graph.specs.Graph.{numbers}
use Rattle.topology.specs.Document.{DocumentNode, no_link, node_at}

-- the link from a plan node of a number to another one
abbrev pub link_down : List DocumentNode → ℕ → PlanNode → ℕ → PlanLink
link_down nodes upper node lower = record { upper = upper; lower = lower; link = node.link; depth = (node_at nodes node.document).depth }

-- how many links stand below the first plan nodes
pub links_before : List PlanNode → ℕ → ℕ
links_before [] place = 0
links_before (node ∷ more) zero = 0
links_before (node ∷ more) (suc place) = length node.lower + links_before more place

-- the upper node of a link of this number, and its port there
pub record IsLinkAt (nodes : List DocumentNode) (first : ℕ) (plan : List PlanNode) (number : ℕ) (link : PlanLink) : Type 0 where
  pub place : ℕ
  pub port : ℕ
  pub node : PlanNode
  pub lower : ℕ
  pub at : slice_get plan place ≡ Some node
  pub sum : number ≡ links_before plan place + port
  pub at_port : slice_get node.lower port ≡ Some lower
  pub is : link ≡ link_down nodes (first + place) node lower

below-long : (nodes : List DocumentNode) (first : ℕ) (node : PlanNode) → length (links_below nodes first node) ≡ length node.lower
below-long nodes first node = length-map node.lower (link_down nodes first node)

link-at : (nodes : List DocumentNode) (first : ℕ) (plan : List PlanNode) (number : ℕ) (link : PlanLink) → slice_get (links_from nodes first plan) number ≡ Some link → IsLinkAt nodes first plan number link
unfolding links_before
link-at nodes first [] number link e = absurd (None-Some link e)
link-at nodes first (node ∷ more) number link e =
    elim (cases_lt number (length node.lower)) [
      | inl here ↦
          let less : number < length (links_below nodes first node) = omega (arith, here, below-long nodes first node) in
          let found : (lower : ℕ) × (slice_get node.lower number ≡ Some lower) × (link ≡ link_down nodes first node lower) =
          made-from (link_down nodes first node) node.lower number link (sym (get-front (links_below nodes first node) (links_from nodes (suc first) more) number less) ∙ e) in
          let same : first ≡ first + 0 = omega arith in
          record {
            place = 0;
            port = number;
            node = node;
            lower = found.0;
            at = refl;
            sum = omega arith;
            at_port = found.1;
            is = found.2 ∙ ap (λ (k : ℕ). link_down nodes k node found.0) same;
          }
      | inr later ↦
          let gap : number ≡ length (links_below nodes first node) + (number - length node.lower) = omega (arith, later, below-long nodes first node) in
          let next : IsLinkAt nodes (suc first) more (number - length node.lower) link =
          link-at nodes (suc first) more (number - length node.lower) link
          (sym (get-back (links_below nodes first node) (links_from nodes (suc first) more) (number - length node.lower) number gap) ∙ e) in
          let same : suc first + next.place ≡ first + suc next.place = omega arith in
          record {
            place = suc next.place;
            port = next.port;
            node = next.node;
            lower = next.lower;
            at = next.at;
            sum = omega (arith, later, next.sum);
            at_port = next.at_port;
            is = next.is ∙ ap (λ (k : ℕ). link_down nodes k next.node next.lower) same;
          }
    ]

at-link : (nodes : List DocumentNode) (first : ℕ) (plan : List PlanNode) (place port lower : ℕ) (node : PlanNode) → slice_get plan place ≡ Some node → slice_get node.lower port ≡ Some lower →
    slice_get (links_from nodes first plan) (links_before plan place + port) ≡ Some (link_down nodes (first + place) node lower)
unfolding links_before
at-link nodes first [] place port lower node at there = absurd (None-Some node at)
at-link nodes first (x ∷ more) zero port lower node at there =
    let same : x ≡ node = Some-same x node at in
    let there_x : slice_get x.lower port ≡ Some lower = ap (λ (n : PlanNode). slice_get n.lower port) same ∙ there in
    let less : port < length (links_below nodes first x) = omega (arith, slice_get_within x.lower port lower there_x, below-long nodes first x) in
    let number : 0 + port ≡ port = omega arith in
    let upper : first ≡ first + 0 = omega arith in
    ap (slice_get (links_below nodes first x ++ links_from nodes (suc first) more)) number
    ∙ get-front (links_below nodes first x) (links_from nodes (suc first) more) port less
    ∙ made-into (link_down nodes first x) x.lower port lower there_x
    ∙ ap (λ (n : PlanNode). Some (link_down nodes first n lower)) same
    ∙ ap (λ (k : ℕ). Some (link_down nodes k node lower)) upper
at-link nodes first (x ∷ more) (suc place) port lower node at there =
    let gap : length x.lower + links_before more place + port ≡ length (links_below nodes first x) + (links_before more place + port) = omega (arith, below-long nodes first x) in
    let upper : suc first + place ≡ first + suc place = omega arith in
    get-back (links_below nodes first x) (links_from nodes (suc first) more) (links_before more place + port) (length x.lower + links_before more place + port) gap
    ∙ at-link nodes (suc first) more place port lower node at there
    ∙ ap (λ (k : ℕ). Some (link_down nodes k node lower)) upper

links-long : (nodes : List DocumentNode) (first : ℕ) (plan : List PlanNode) (place : ℕ) (node : PlanNode) → slice_get plan place ≡ Some node → links_before plan place + length node.lower ≤ length (links_from nodes first plan)
unfolding links_before
links-long nodes first [] place node at = absurd (None-Some node at)
links-long nodes first (x ∷ more) zero node at =
    let long : length x.lower ≡ length node.lower = ap (λ (n : PlanNode). length n.lower) (Some-same x node at) in
    omega (arith, long, length-append (links_below nodes first x) (links_from nodes (suc first) more), below-long nodes first x)
links-long nodes first (x ∷ more) (suc place) node at =
    omega (arith, length-append (links_below nodes first x) (links_from nodes (suc first) more), below-long nodes first x, links-long nodes (suc first) more place node at)

-- ---- the links of a plan

module _ (nodes : List DocumentNode) where
  -- a link of the plan, with its upper node
  pub record LinkFacts (link : ℕ) : Type 0 where
    pub port : ℕ
    pub node : PlanNode
    pub at : slice_get (plan_nodes nodes) (plan_link_at nodes link).upper ≡ Some node
    pub sum : link ≡ links_before (plan_nodes nodes) (plan_link_at nodes link).upper + port
    pub at_port : slice_get node.lower port ≡ Some (plan_link_at nodes link).lower
    pub is : plan_link_at nodes link ≡ link_down nodes (plan_link_at nodes link).upper node (plan_link_at nodes link).lower

  pub link-facts : (link : ℕ) → link < length (plan_links nodes) → LinkFacts link
  link-facts link less =
      let found : IsLinkAt nodes 0 (plan_nodes nodes) link (plan_link_at nodes link) =
      link-at nodes 0 (plan_nodes nodes) link (plan_link_at nodes link) (some-at (plan_links nodes) link (record { upper = 0; lower = 0; link = no_link; depth = 0 }) less) in
      let upper : found.place ≡ (plan_link_at nodes link).upper = omega (arith, ap (λ (l : PlanLink). l.upper) found.is) in
      let lower : found.lower ≡ (plan_link_at nodes link).lower = sym (ap (λ (l : PlanLink). l.lower) found.is) in
      let zeroth : 0 + found.place ≡ (plan_link_at nodes link).upper = omega (arith, upper) in
      record {
        port = found.port;
        node = found.node;
        at = ap (slice_get (plan_nodes nodes)) (sym upper) ∙ found.at;
        sum = found.sum ∙ ap (λ (k : ℕ). links_before (plan_nodes nodes) k + found.port) upper;
        at_port = found.at_port ∙ ap (λ (k : ℕ). Some k) lower;
        is = found.is ∙ ap (λ (k : ℕ). link_down nodes k found.node found.lower) zeroth ∙ ap (link_down nodes (plan_link_at nodes link).upper found.node) lower;
      }

  -- a port of a plan node has its link
  pub link-there : (upper port lower : ℕ) (node : PlanNode) → slice_get (plan_nodes nodes) upper ≡ Some node → slice_get node.lower port ≡ Some lower →
      slice_get (plan_links nodes) (links_before (plan_nodes nodes) upper + port) ≡ Some (link_down nodes upper node lower)
  link-there upper port lower node at there =
      let zeroth : 0 + upper ≡ upper = omega arith in
      at-link nodes 0 (plan_nodes nodes) upper port lower node at there ∙ ap (λ (k : ℕ). Some (link_down nodes k node lower)) zeroth

  -- the port of a link below a plan node
  pub port-of : (upper : ℕ) (node : PlanNode) → slice_get (plan_nodes nodes) upper ≡ Some node → (link : ℕ) → link < length (plan_links nodes) → (plan_link_at nodes link).upper ≡ upper →
      (port : ℕ) × (port < length node.lower) × (link ≡ links_before (plan_nodes nodes) upper + port)
  port-of upper node at link less same =
      let facts : LinkFacts link = link-facts link less in
      let is_node : facts.node ≡ node = Some-same facts.node node (sym facts.at ∙ ap (slice_get (plan_nodes nodes)) same ∙ at) in
      let within : facts.port < length facts.node.lower = slice_get_within facts.node.lower facts.port (plan_link_at nodes link).lower facts.at_port in (
        facts.port,
        omega (arith, within, ap (λ (n : PlanNode). length n.lower) is_node),
        facts.sum ∙ ap (λ (k : ℕ). links_before (plan_nodes nodes) k + facts.port) same,
      )

  -- the link of a port
  pub link-by_port : (upper port lower : ℕ) (node : PlanNode) → slice_get (plan_nodes nodes) upper ≡ Some node → slice_get node.lower port ≡ Some lower →
      plan_link_at nodes (links_before (plan_nodes nodes) upper + port) ≡ link_down nodes upper node lower
  link-by_port upper port lower node at there =
      at-some (plan_links nodes) (links_before (plan_nodes nodes) upper + port) (link_down nodes upper node lower) (record { upper = 0; lower = 0; link = no_link; depth = 0 })
      (link-there upper port lower node at there)

  -- the links below a plan node
  pub links-out : (upper : ℕ) (node : PlanNode) → slice_get (plan_nodes nodes) upper ≡ Some node →
      links_out_of nodes upper ≡ range_with_len (links_before (plan_nodes nodes) upper) (length node.lower)
  unfolding numbers
  links-out upper node at =
      let few : links_before (plan_nodes nodes) upper + length node.lower ≤ length (plan_links nodes) = links-long nodes 0 (plan_nodes nodes) upper node at in
      let whole : length (plan_links nodes) ≡ links_before (plan_nodes nodes) upper + length node.lower + (length (plan_links nodes) - (links_before (plan_nodes nodes) upper + length node.lower)) =
      omega (arith, few) in
      let from : 0 + links_before (plan_nodes nodes) upper ≡ links_before (plan_nodes nodes) upper = omega arith in
      ap (λ n. filter (λ link. (plan_link_at nodes link).upper == upper) (range_with_len 0 n)) whole
      ∙ part-passes (λ link. (plan_link_at nodes link).upper == upper) 0 (links_before (plan_nodes nodes) upper) (length node.lower)
      (length (plan_links nodes) - (links_before (plan_nodes nodes) upper + length node.lower))
      (λ k low high.
      false_from_ne_true ((plan_link_at nodes k).upper == upper) (λ e.
      let found = port-of upper node at k (omega (arith, high, few)) (eqb-true (plan_link_at nodes k).upper upper e) in absurd (omega (arith, found.2, high))))
      (λ k low high.
      let port : ℕ = k - links_before (plan_nodes nodes) upper in
      let within : k - links_before (plan_nodes nodes) upper < length node.lower = omega (arith, low, high) in
      let number : links_before (plan_nodes nodes) upper + (k - links_before (plan_nodes nodes) upper) ≡ k = omega (arith, low) in
      let is = link-by_port upper (k - links_before (plan_nodes nodes) upper) (slice_index_or node.lower (k - links_before (plan_nodes nodes) upper) 0) node at
      (some-at node.lower (k - links_before (plan_nodes nodes) upper) 0 within) in
      eq-eqb (plan_link_at nodes k).upper upper (ap (λ (n : ℕ). (plan_link_at nodes n).upper) (sym number) ∙ ap (λ (l : PlanLink). l.upper) is))
      (λ k low high.
      false_from_ne_true ((plan_link_at nodes k).upper == upper) (λ e.
      let found = port-of upper node at k (omega (arith, high, few)) (eqb-true (plan_link_at nodes k).upper upper e) in absurd (omega (arith, found.1, found.2, low))))
      ∙ ap (λ n. range_with_len n (length node.lower)) from
