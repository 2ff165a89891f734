-- The numbers of a plan's network fit trace lines: its links are few and narrow, its traffic is small.
use Rattle.std.proofs.Common.{◌≡◌, ◌<◌, [], ℕ, List, Option, length, sym, subst, inl, inr, arith}
use Rattle.std.specs.Prelude.{All, IfSome, slice_get}
use Rattle.std.proofs.lemmas.Bool.{cases_lt}
use Rattle.std.proofs.lemmas.List.{length-map}
use Rattle.std.proofs.lemmas.List.Elements.{All-map}
use Rattle.elaborate.proofs.Forms.{Part_at, part-at}
use Rattle.elaborate.proofs.PlanFacts.{form-document}
use Rattle.elaborate.proofs.Sizes.{links-few}
use Rattle.elaborate.specs.Plan.{plan_links, plan_node_at, plan_nodes}
use Rattle.elaborate.specs.declared.part.Part.{Part}
use Rattle.elaborate.specs.declared.part.Part.TheVariants as part
use Rattle.net_kinds.specs.NodeKind.{NodeState}
use Rattle.net_opening.specs.Opening.{opening, state_by_part}
use Rattle.net_opening.specs.PlanLinks.{form_of_link, net_link_of}
use Rattle.net_plan.proofs.NodeBegins.{number-at}
use Rattle.net_plan.proofs.NodeSound.{of-manager}
use Rattle.net_plan.proofs.OpeningSound.{openings-are_sound}
use Rattle.net_plan.proofs.OpeningWired.{node-at, node-is, node-past}
use Rattle.net_plan.proofs.PartLemmas.{formed-at}
use Rattle.net_plan.proofs.LinkProtocols.{lite-forms}
use Rattle.net_plan.specs.PlanLaws.{CanRun}
use Rattle.net_ranges.proofs.PortLemmas.{runs-show_lines}
use Rattle.net_ranges.specs.TraceLines.{FitsItsBeats, FitsLanes, FitsTraces, IsTraceLink, PlansShowTraceLines}
use Rattle.node_core.specs.Acted.{Acted}
use Rattle.plan_traffic.specs.Accepted.{IsTraffic, items_of_manager}
use Rattle.plan_traffic.specs.Scripts.{script_item, script_of}
use Rattle.plan_traffic.specs.Traffic.{TrafficItem}
use Rattle.topology.specs.Document.{DocumentNode, node_at}
use Rattle.topology_text.specs.Form.{table_form}
use Rattle.topology_text.specs.Formed.{IsFormed, IsNumberAt}
use Rattle.topology_text.specs.Shape.{fill_limits}
use Rattle.topology_text.specs.declared.kind.Kind.{Kind}
use Rattle.topology_text.specs.declared.kind.Kind.TheVariants as kind

-- ---- links

module _ (nodes : List DocumentNode) (run : CanRun nodes) where
  -- a link of the plan has a trace
  trace-link : (link : ℕ) → link < length (plan_links nodes) → IsTraceLink (form_of_link nodes link)
  trace-link link less =
      let form = lite-forms nodes run link less in
      record { width = form.width; short = form.narrow; narrow = omega (arith, form.ids) }

-- ---- nodes

fill-small : (k : Kind) (fill : ℕ) → IsNumberAt (table_form k).fill fill_limits fill → fill < 256
unfolding table_form
fill-small kind.Manager fill is = omega (arith, is)
fill-small kind.Memory fill is = omega (arith, is.1)
fill-small kind.LiteMemory fill is = omega (arith, is.1)
fill-small kind.Slice fill is = omega (arith, is)
fill-small kind.Mux fill is = omega (arith, is)
fill-small kind.Demux fill is = omega (arith, is)
fill-small kind.Crossbar fill is = omega (arith, is)
fill-small kind.Remap fill is = omega (arith, is)
fill-small kind.Up fill is = omega (arith, is)
fill-small kind.Down fill is = omega (arith, is)
fill-small kind.Lite fill is = omega (arith, is)

module _ (nodes : List DocumentNode) (items : List TrafficItem) (run : CanRun nodes) (traffic : IsTraffic nodes items) where
  abbrev FitsItem : TrafficItem → Type 0
  FitsItem item = FitsItsBeats (script_item item)

  items-fit : All FitsItem items
  items-fit i d within =
      let suits = traffic.suit i d within in
      record { number = omega (arith, number-at [] items traffic.in_order i d within, within, traffic.transactions); bytes = suits.values }

  script-fits : (place : ℕ) → All FitsItsBeats (script_of items place)
  script-fits place = All-map FitsItsBeats script_item (items_of_manager place items) (of-manager FitsItem FitsItem place items items-fit (λ item fits same. fits))

  part-fits : (number : ℕ) (p : Part) → (plan_node_at nodes number).document < length nodes → FitsLanes (state_by_part nodes items number p).kind (state_by_part nodes items number p).state
  part-fits number part.Manager within = script-fits (plan_node_at nodes number).document
  part-fits number part.Memory within =
      let formed : IsFormed (node_at nodes (plan_node_at nodes number).document) = formed-at nodes run (plan_node_at nodes number).document within in
      fill-small (node_at nodes (plan_node_at nodes number).document).kind (node_at nodes (plan_node_at nodes number).document).fill formed.fill
  part-fits number part.LiteMemory within =
      let formed : IsFormed (node_at nodes (plan_node_at nodes number).document) = formed-at nodes run (plan_node_at nodes number).document within in
      fill-small (node_at nodes (plan_node_at nodes number).document).kind (node_at nodes (plan_node_at nodes number).document).fill formed.fill
  part-fits number part.Mux within = tt
  part-fits number part.Error within = tt
  part-fits number part.Demux within = tt
  part-fits number part.Slice within = tt
  part-fits number part.Remap within = tt
  part-fits number part.Split within = tt
  part-fits number part.Up within = tt
  part-fits number part.Down within = tt
  part-fits number part.Lite within = tt

  nodes-fit : (number : ℕ) → IfSome (slice_get (opening nodes items).nodes number) (λ (a : Acted NodeState). FitsLanes a.state.kind a.state.state)
  nodes-fit number =
      let Fit : Acted NodeState → Type 0 = λ a. FitsLanes a.state.kind a.state.state in
      elim (cases_lt number (length (plan_nodes nodes))) [
        | inl less ↦
            let at = node-at nodes items number less in
            let spot : Part_at nodes number (plan_node_at nodes number) = part-at nodes number (plan_node_at nodes number) at in
            let document = form-document nodes spot.place spot.inner (plan_node_at nodes number) (node_at nodes spot.place).kind spot.form in
            subst (λ (o : Option (Acted NodeState)). IfSome o Fit) (sym (node-is nodes items number less))
            (part-fits number (plan_node_at nodes number).part (omega (arith, document, spot.within)))
        | inr past ↦ subst (λ (o : Option (Acted NodeState)). IfSome o Fit) (sym (node-past nodes items number past)) tt
      ]

  links-long : length (opening nodes items).links ≡ length (plan_links nodes)
  links-long = length-map (plan_links nodes) net_link_of

  pub plan-fits : FitsTraces (opening nodes items) (form_of_link nodes)
  plan-fits = record {
    few_links = omega (arith, links-long, links-few nodes run.accepted);
    links = λ link less. trace-link nodes run link (omega (arith, less, links-long));
    nodes = nodes-fit;
  }

pub plans-show_lines : PlansShowTraceLines
plans-show_lines nodes items run traffic rounds counted =
    runs-show_lines (opening nodes items) (form_of_link nodes) (openings-are_sound nodes items run traffic) (plan-fits nodes items run traffic) rounds counted
