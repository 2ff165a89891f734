-- The document node of an error subordinate has no fill byte.
use Rattle.std.proofs.Common.{◌≡◌, ◌<◌, ℕ, Bool, true, false, List, length, Some, sym, ◌∙◌, ap}
use Rattle.std.proofs.lemmas.Bool.{false≢true}
use Rattle.elaborate.proofs.Forms.{Form, Part_at, own_part, part-at, split_kind}
use Rattle.elaborate.proofs.Forms.Form.{Behind, Demux, DemuxError, Input, InputError, Own, Split, Target}
use Rattle.elaborate.proofs.Lists.{None-Some, Some-same}
use Rattle.elaborate.proofs.PlanFacts.{form-document}
use Rattle.elaborate.specs.Plan.{PlanNode, plan_node_at, plan_nodes}
use Rattle.elaborate.specs.declared.part.Part.{Part}
use Rattle.elaborate.specs.declared.part.Part.TheVariants as part
use Rattle.net_plan.proofs.OpeningWired.{node-at}
use Rattle.net_plan.proofs.PartLemmas.{formed-at}
use Rattle.net_plan.specs.PlanLaws.{CanRun}
use Rattle.plan_traffic.specs.Traffic.{TrafficItem}
use Rattle.topology.specs.Document.{DocumentNode, node_at}
use Rattle.topology_text.specs.Form.{table_form}
use Rattle.topology_text.specs.Formed.{IsNumberAt}
use Rattle.topology_text.specs.Shape.{fill_limits}
use Rattle.topology_text.specs.declared.kind.Kind.{Kind}
use Rattle.topology_text.specs.declared.kind.Kind.TheVariants as kind

abbrev is_error : Part → Bool
is_error part.Error = true
is_error other = false

own-error : (k : Kind) (p : Part) → own_part k ≡ Some p → is_error p ≡ true → ⊥
own-error kind.Manager p own is = false≢true (ap is_error (Some-same part.Manager p own) ∙ is)
own-error kind.Memory p own is = false≢true (ap is_error (Some-same part.Memory p own) ∙ is)
own-error kind.LiteMemory p own is = false≢true (ap is_error (Some-same part.LiteMemory p own) ∙ is)
own-error kind.Slice p own is = false≢true (ap is_error (Some-same part.Slice p own) ∙ is)
own-error kind.Mux p own is = false≢true (ap is_error (Some-same part.Mux p own) ∙ is)
own-error kind.Remap p own is = false≢true (ap is_error (Some-same part.Remap p own) ∙ is)
own-error kind.Up p own is = false≢true (ap is_error (Some-same part.Up p own) ∙ is)
own-error other p own is = None-Some p own

split-error : (k : Kind) (p : Part) → split_kind k ≡ Some p → is_error p ≡ true → ⊥
split-error kind.Down p split is = false≢true (ap is_error (Some-same part.Down p split) ∙ is)
split-error kind.Lite p split is = false≢true (ap is_error (Some-same part.Lite p split) ∙ is)
split-error other p split is = None-Some p split

demux-fill : (k : Kind) (fill : ℕ) → k ≡ kind.Demux → IsNumberAt (table_form k).fill fill_limits fill → fill ≡ 0
unfolding table_form
demux-fill kind.Demux fill is formed = formed
demux-fill other fill is formed = absurd (cc)

crossbar-fill : (k : Kind) (fill : ℕ) → k ≡ kind.Crossbar → IsNumberAt (table_form k).fill fill_limits fill → fill ≡ 0
unfolding table_form
crossbar-fill kind.Crossbar fill is formed = formed
crossbar-fill other fill is formed = absurd (cc)

module _ (nodes : List DocumentNode) (items : List TrafficItem) (run : CanRun nodes) where
  fill-by : (place inner : ℕ) (node : PlanNode) → place < length nodes → Form nodes place inner node (node_at nodes place).kind → is_error node.part ≡ true → (node_at nodes place).fill ≡ 0
  fill-by place inner node less (Own p own first is) error = absurd (own-error (node_at nodes place).kind p own (sym (ap (λ (n : PlanNode). is_error n.part) is) ∙ error))
  fill-by place inner node less (Split p split first is) error = absurd (false≢true (sym (ap (λ (n : PlanNode). is_error n.part) is) ∙ error))
  fill-by place inner node less (Behind p split first is) error = absurd (split-error (node_at nodes place).kind p split (sym (ap (λ (n : PlanNode). is_error n.part) is) ∙ error))
  fill-by place inner node less (Demux own first is) error = absurd (false≢true (sym (ap (λ (n : PlanNode). is_error n.part) is) ∙ error))
  fill-by place inner node less (DemuxError own first is) error = demux-fill (node_at nodes place).kind (node_at nodes place).fill own (formed-at nodes run place less).fill
  fill-by place inner node less (Input i own within first is) error = absurd (false≢true (sym (ap (λ (n : PlanNode). is_error n.part) is) ∙ error))
  fill-by place inner node less (InputError i own within first is) error = crossbar-fill (node_at nodes place).kind (node_at nodes place).fill own (formed-at nodes run place less).fill
  fill-by place inner node less (Target j own within first is) error = absurd (false≢true (sym (ap (λ (n : PlanNode). is_error n.part) is) ∙ error))

  pub error-fill : (number : ℕ) → number < length (plan_nodes nodes) → (plan_node_at nodes number).part ≡ part.Error → (node_at nodes (plan_node_at nodes number).document).fill ≡ 0
  error-fill number less is =
      let spot : Part_at nodes number (plan_node_at nodes number) = part-at nodes number (plan_node_at nodes number) (node-at nodes items number less) in
      ap (λ (k : ℕ). (node_at nodes k).fill) (form-document nodes spot.place spot.inner (plan_node_at nodes number) (node_at nodes spot.place).kind spot.form)
      ∙ fill-by spot.place spot.inner (plan_node_at nodes number) spot.within spot.form (ap is_error is)
