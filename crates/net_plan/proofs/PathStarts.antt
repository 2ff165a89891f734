-- The path of a transaction begins at its manager's plan node, and goes on from the node below the manager's link.
use Rattle.std.proofs.Common.{◌≡◌, ◌<◌, ◌≤◌, ◌+◌, ◌-◌, ℕ, suc, List, [], ◌∷◌, length, Some, true, refl, sym, ◌∙◌, ap, subst, arith}
use Rattle.std.specs.Prelude.{slice_get}
use Rattle.elaborate.proofs.PathFacts.{onward, path-goes_on}
use Rattle.elaborate.specs.Path.{next_by_part, path_from, path_of}
use Rattle.elaborate.specs.Plan.{first_part, plan_link_at, plan_links, plan_node_at, plan_nodes}
use Rattle.elaborate.specs.declared.part.Part.{Part}
use Rattle.elaborate.specs.declared.part.Part.TheVariants as part
use Rattle.net_opening.specs.PlanLinks.{link_out_of, links_out_of}
use Rattle.net_plan.proofs.NodeLinks.{leads-down, one-out, out-is}
use Rattle.net_plan.proofs.OpeningWired.{node-at}
use Rattle.net_plan.proofs.PartLemmas.{LowersSuit, lowers-suit}
use Rattle.net_plan.proofs.WayEnds.{deeper, depth_at, first-leads, lower-known, onward-is, shallow}
use Rattle.net_plan.specs.PlanLaws.{CanRun}
use Rattle.node_graph.proofs.Members.{in-first}
use Rattle.node_graph.specs.Graph.{is_in}
use Rattle.plan_traffic.specs.Traffic.{TrafficItem}
use Rattle.topology.specs.Document.{DocumentNode}

module _ (nodes : List DocumentNode) (items : List TrafficItem) (run : CanRun nodes) (number : ℕ) (less : number < length (plan_nodes nodes)) (manager : (plan_node_at nodes number).part ≡ part.Manager) where
  at : slice_get (plan_nodes nodes) number ≡ Some (plan_node_at nodes number)
  at = node-at nodes items number less

  suits : length (plan_node_at nodes number).lower ≡ 1
  suits = subst (λ (p : Part). LowersSuit p (plan_node_at nodes number).lower) manager (lowers-suit nodes run number (plan_node_at nodes number) at)

  out : is_in (links_out_of nodes number) (link_out_of nodes number) ≡ true
  out =
      ap (λ xs. is_in xs (link_out_of nodes number)) (sym (one-out nodes run.accepted number (plan_node_at nodes number) at suits))
      ∙ in-first (link_out_of nodes number) [] (link_out_of nodes number) refl

  -- the link below the manager, and the node below that link
  pub start-known : link_out_of nodes number < length (plan_links nodes)
  start-known = (out-is nodes number (link_out_of nodes number) out).0

  abbrev pub below_start : ℕ
  below_start = (plan_link_at nodes (link_out_of nodes number)).lower

  on : (address : ℕ) → onward nodes address number ≡ Some below_start
  on address =
      onward-is nodes items run address number (plan_node_at nodes number) at
      ∙ ap (next_by_part nodes address (plan_node_at nodes number)) manager
      ∙ (first-leads nodes items run number (link_out_of nodes number) (plan_node_at nodes number) at suits refl).0

  small : depth_at nodes items run below_start < length (plan_nodes nodes)
  small = shallow nodes items run below_start (lower-known nodes items run (link_out_of nodes number) start-known)

  -- the rest of the plan is enough for the path from there
  pub start-deep : length (plan_nodes nodes) ≤ depth_at nodes items run below_start + (length (plan_nodes nodes) - 1)
  start-deep =
      omega (
        arith,
        deeper nodes items run (plan_link_at nodes (link_out_of nodes number)).upper below_start (lower-known nodes items run (link_out_of nodes number) start-known)
            (leads-down nodes (link_out_of nodes number) start-known),
        small,
      )

  pub start-rest : 0 < length (plan_nodes nodes) - 1
  start-rest = omega (arith, start-deep, small)

  pub path-starts : (document address : ℕ) → first_part nodes document ≡ number → path_of nodes document address ≡ number ∷ path_from nodes (plan_nodes nodes) address (length (plan_nodes nodes) - 1) below_start
  path-starts document address first =
      let count : length (plan_nodes nodes) ≡ suc (length (plan_nodes nodes) - 1) = omega (arith, small) in
      ap (path_from nodes (plan_nodes nodes) address (length (plan_nodes nodes))) first
      ∙ ap (λ (n : ℕ). path_from nodes (plan_nodes nodes) address n number) count
      ∙ path-goes_on nodes address (length (plan_nodes nodes) - 1) number below_start (on address)
