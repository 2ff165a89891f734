-- The network of a plan can be run.
use Rattle.std.proofs.Common.{ℕ, List, length, Option, refl, sym, subst, inl, inr}
use Rattle.std.specs.Prelude.{IfSome, slice_get}
use Rattle.std.proofs.lemmas.Bool.{cases_lt}
use Rattle.elaborate.proofs.Forms.{Part_at, part-at}
use Rattle.elaborate.proofs.PlanFacts.{form-document}
use Rattle.elaborate.specs.Plan.{plan_node_at, plan_nodes}
use Rattle.net_kinds.specs.NodeKind.{NodeState, node_kind}
use Rattle.net_opening.specs.Opening.{opening}
use Rattle.net_opening.specs.PlanLinks.{form_of_link}
use Rattle.net_plan.proofs.LineLemmas.{keeps-lines}
use Rattle.net_plan.proofs.NodeBegins.{begins-by}
use Rattle.net_plan.proofs.NodeSound.{sound-by}
use Rattle.net_plan.proofs.OnceLemmas.{once}
use Rattle.net_plan.proofs.OpeningWired.{form-is, node-at, node-is, node-past, wired}
use Rattle.net_plan.specs.PlanLaws.{CanRun, OpeningsAreSound}
use Rattle.net_ways.specs.Ways.{schedules_of}
use Rattle.node_core.specs.Acted.{Acted}
use Rattle.plan_traffic.specs.Accepted.{IsTraffic}
use Rattle.plan_traffic.specs.Traffic.{TrafficItem}
use Rattle.topology.specs.Document.{DocumentNode, node_at}

module _ (nodes : List DocumentNode) (items : List TrafficItem) (run : CanRun nodes) (traffic : IsTraffic nodes items) where
  begins : (number : ℕ) → IfSome (slice_get (opening nodes items).nodes number) (λ (a : Acted NodeState). node_kind.begins a.state)
  begins number =
      elim (cases_lt number (length (plan_nodes nodes))) [
        | inl less ↦
            let at = node-at nodes items number less in
            let spot : Part_at nodes number (plan_node_at nodes number) = part-at nodes number (plan_node_at nodes number) at in
            subst (λ (o : Option (Acted NodeState)). IfSome o (λ (a : Acted NodeState). node_kind.begins a.state)) (sym (node-is nodes items number less))
            (begins-by nodes items run traffic number spot.place spot.inner (plan_node_at nodes number) at
            (form-document nodes spot.place spot.inner (plan_node_at nodes number) (node_at nodes spot.place).kind spot.form) refl spot.within spot.form)
        | inr past ↦ subst (λ (o : Option (Acted NodeState)). IfSome o (λ (a : Acted NodeState). node_kind.begins a.state)) (sym (node-past nodes items number past)) tt
      ]

  each : (number : ℕ) →
      IfSome (slice_get (opening nodes items).nodes number) (λ (a : Acted NodeState). node_kind.is_sound (form_of_link nodes) (schedules_of node_kind (opening nodes items) (form_of_link nodes)) a.state)
  each number =
      elim (cases_lt number (length (plan_nodes nodes))) [
        | inl less ↦
            let at = node-at nodes items number less in
            let spot : Part_at nodes number (plan_node_at nodes number) = part-at nodes number (plan_node_at nodes number) at in
            subst (λ (o : Option (Acted NodeState)). IfSome o (λ (a : Acted NodeState). node_kind.is_sound (form_of_link nodes) (schedules_of node_kind (opening nodes items) (form_of_link nodes)) a.state))
            (sym (node-is nodes items number less))
            (sound-by nodes items run traffic (schedules_of node_kind (opening nodes items) (form_of_link nodes)) number spot.place spot.inner (plan_node_at nodes number) at
            (form-document nodes spot.place spot.inner (plan_node_at nodes number) (node_at nodes spot.place).kind spot.form) refl spot.within spot.sum spot.form (keeps-lines nodes items run traffic number less))
        | inr past ↦
            subst (λ (o : Option (Acted NodeState)). IfSome o (λ (a : Acted NodeState). node_kind.is_sound (form_of_link nodes) (schedules_of node_kind (opening nodes items) (form_of_link nodes)) a.state))
            (sym (node-past nodes items number past)) tt
      ]

pub openings-are_sound : OpeningsAreSound
openings-are_sound nodes items run traffic = record {
  wired = wired nodes items run;
  formed = λ link less. form-is nodes items link;
  begins = begins nodes items run traffic;
  nodes = each nodes items run traffic;
  once = once nodes items run traffic;
}
