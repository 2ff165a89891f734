-- What is known of the plan nodes of a source.
use Rattle.std.proofs.Common.{◌≡◌, ◌<◌, ◌≤◌, ◌==◌, ℕ, suc, Bool, false, List, Option, Some, None, arith, ap, get_or, length, map, refl, subst, sym, ◌∙◌}
use Rattle.std.specs.Prelude.{◌||◌, All, AllPairs, IfSome, nat_lt, slice_get, sum}
use Rattle.std.specs.List.{range_with_len}
use Rattle.std.proofs.lemmas.Bool.{ltb-false, or_parts}
use Rattle.std.proofs.lemmas.List.Elements.{All-from_get_or, All-get_or}
use Rattle.std.proofs.lemmas.Option.{slice_get-get_or}
use Rattle.demux_node.specs.DemuxTrail.{IsNewDemux}
use Rattle.elaborate.proofs.Forms.{Behind, Demux, DemuxError, Form, Input, InputError, Own, Part_at, Split, Target, own_part, part-at, split_kind}
use Rattle.elaborate.proofs.Kept.{document-known}
use Rattle.elaborate.proofs.Lists.{None-Some, Some-same, get-mapped}
use Rattle.elaborate.specs.Plan.{PlanNode, plan_node_at, plan_nodes}
use Rattle.elaborate.specs.declared.part.Part.{Part}
use Rattle.elaborate.specs.declared.part.Part.TheVariants as part
use Rattle.lite_node.specs.LiteState.{IsNewLite}
use Rattle.manager_node.specs.ManagerTrail.{IsNewManager}
use Rattle.memory_node.specs.MemoryState.{MemoryState}
use Rattle.memory_node.specs.MemoryTrail.{BeginsMemory}
use Rattle.mux_node.specs.MuxState.{IsNewMux}
use Rattle.net_build.specs.Source.{IsSource, memory_on}
use Rattle.net_kinds.specs.NodeKind.{NodeState, node_kind}
use Rattle.net_opening.specs.Opening.{state_at, state_by_part}
use Rattle.net_opening.specs.States.{demux_at, document_node_of, lite_at, lite_memory_at, manager_at, memory_at, mux_at, remap_at, up_at}
use Rattle.net_opening.specs.Touched.{lines_touched}
use Rattle.node_core.specs.Acted.{Acted, opened}
use Rattle.node_graph.specs.Graph.{numbers}
use Rattle.plan_traffic.specs.Traffic.{TrafficItem}
use Rattle.topology.proofs.AcceptedFacts.{accepted-is_clean}
use Rattle.topology.specs.Document.{DocumentNode, node_at, plan_links_at, plan_nodes_at, targets_of, uppers_of}
use Rattle.topology.specs.Refused.{IsAccepted}
use Rattle.remap_node.specs.RemapState.{IsNewRemap}
use Rattle.topology_text.specs.Form.{table_form}
use Rattle.topology_text.specs.Formed.{AreDelays, AreDelaysAt, IsFormed}
use Rattle.topology_text.specs.declared.kind.Kind.{Kind}
use Rattle.topology_text.specs.declared.kind.Kind.TheVariants as kind
use Rattle.up_node.specs.UpTrail.{IsNewUp}

-- ---- a plan node begins as its kind begins

pub begins-at : (nodes : List DocumentNode) (items : List TrafficItem) (targets : List ℕ) (number : ℕ) → IsSource nodes items targets → number < length (plan_nodes nodes) →
    node_kind.begins (state_at nodes items number)
unfolding numbers
begins-at nodes items targets number source less =
    let at : slice_get (map (λ (n : ℕ). opened (state_at nodes items n)) (range_with_len 0 (length (plan_nodes nodes)))) number ≡ Some (opened (state_at nodes items number)) =
    get-mapped (λ (n : ℕ). opened (state_at nodes items n)) 0 (length (plan_nodes nodes)) number less ∙ ap (λ (n : ℕ). Some (opened (state_at nodes items n))) (omega arith) in
    subst (λ (o : Option (Acted NodeState)). IfSome o (λ (a : Acted NodeState). node_kind.begins a.state)) at (source.sound.begins number)

pub begins-by : (nodes : List DocumentNode) (items : List TrafficItem) (targets : List ℕ) (number : ℕ) (p : Part) → IsSource nodes items targets →
    number < length (plan_nodes nodes) → (plan_node_at nodes number).part ≡ p → node_kind.begins (state_by_part nodes items number p)
begins-by nodes items targets number p source less same =
    subst (λ (q : Part). node_kind.begins (state_by_part nodes items number q)) same (begins-at nodes items targets number source less)

-- ---- managers and memories come from nodes of their kinds

abbrev pub own_kind : Part → Option Kind
own_kind part.Manager = Some kind.Manager
own_kind part.Memory = Some kind.Memory
own_kind part.LiteMemory = Some kind.LiteMemory
own_kind other = None

own-kind : (k : Kind) (p : Part) (wanted : Kind) → own_part k ≡ Some p → own_kind p ≡ Some wanted → k ≡ wanted
own-kind kind.Manager p wanted own e = Some-same kind.Manager wanted (subst (λ (q : Part). own_kind q ≡ Some wanted) (sym (Some-same part.Manager p own)) e)
own-kind kind.Memory p wanted own e = Some-same kind.Memory wanted (subst (λ (q : Part). own_kind q ≡ Some wanted) (sym (Some-same part.Memory p own)) e)
own-kind kind.LiteMemory p wanted own e = Some-same kind.LiteMemory wanted (subst (λ (q : Part). own_kind q ≡ Some wanted) (sym (Some-same part.LiteMemory p own)) e)
own-kind kind.Slice p wanted own e = absurd (None-Some wanted (subst (λ (q : Part). own_kind q ≡ Some wanted) (sym (Some-same part.Slice p own)) e))
own-kind kind.Mux p wanted own e = absurd (None-Some wanted (subst (λ (q : Part). own_kind q ≡ Some wanted) (sym (Some-same part.Mux p own)) e))
own-kind kind.Remap p wanted own e = absurd (None-Some wanted (subst (λ (q : Part). own_kind q ≡ Some wanted) (sym (Some-same part.Remap p own)) e))
own-kind kind.Up p wanted own e = absurd (None-Some wanted (subst (λ (q : Part). own_kind q ≡ Some wanted) (sym (Some-same part.Up p own)) e))
own-kind kind.Down p wanted own e = absurd (None-Some p own)
own-kind kind.Lite p wanted own e = absurd (None-Some p own)
own-kind kind.Demux p wanted own e = absurd (None-Some p own)
own-kind kind.Crossbar p wanted own e = absurd (None-Some p own)

behind-none : (k : Kind) (p : Part) (wanted : Kind) → split_kind k ≡ Some p → own_kind p ≡ Some wanted → ⊥
behind-none kind.Down p wanted split e = None-Some wanted (subst (λ (q : Part). own_kind q ≡ Some wanted) (sym (Some-same part.Down p split)) e)
behind-none kind.Lite p wanted split e = None-Some wanted (subst (λ (q : Part). own_kind q ≡ Some wanted) (sym (Some-same part.Lite p split)) e)
behind-none other p wanted split e = None-Some p split

form-kind : (nodes : List DocumentNode) (place inner : ℕ) (node : PlanNode) (k wanted : Kind) → Form nodes place inner node k → own_kind node.part ≡ Some wanted →
    (node.document ≡ place) × (k ≡ wanted)
form-kind nodes place inner node k wanted form e = elim form [
  | Own p own zero is ↦ (ap (λ (n : PlanNode). n.document) is, own-kind k p wanted own (subst (λ (n : PlanNode). own_kind n.part ≡ Some wanted) is e))
  | Split p split zero is ↦ absurd (None-Some wanted (subst (λ (n : PlanNode). own_kind n.part ≡ Some wanted) is e))
  | Behind p split one is ↦ absurd (behind-none k p wanted split (subst (λ (n : PlanNode). own_kind n.part ≡ Some wanted) is e))
  | Demux same zero is ↦ absurd (None-Some wanted (subst (λ (n : PlanNode). own_kind n.part ≡ Some wanted) is e))
  | DemuxError same one is ↦ absurd (None-Some wanted (subst (λ (n : PlanNode). own_kind n.part ≡ Some wanted) is e))
  | Input i same less two is ↦ absurd (None-Some wanted (subst (λ (n : PlanNode). own_kind n.part ≡ Some wanted) is e))
  | InputError i same less two is ↦ absurd (None-Some wanted (subst (λ (n : PlanNode). own_kind n.part ≡ Some wanted) is e))
  | Target j same less two is ↦ absurd (None-Some wanted (subst (λ (n : PlanNode). own_kind n.part ≡ Some wanted) is e))
]

pub kind-at : (nodes : List DocumentNode) (number : ℕ) (p : Part) (wanted : Kind) → number < length (plan_nodes nodes) → (plan_node_at nodes number).part ≡ p → own_kind p ≡ Some wanted →
    (node_at nodes (plan_node_at nodes number).document).kind ≡ wanted
kind-at nodes number p wanted less same own =
    let at : slice_get (plan_nodes nodes) number ≡ Some (plan_node_at nodes number) = slice_get-get_or (plan_nodes nodes) number _ less in
    let spot : Part_at nodes number (plan_node_at nodes number) = part-at nodes number (plan_node_at nodes number) at in
    let both : ((plan_node_at nodes number).document ≡ spot.place) × ((node_at nodes spot.place).kind ≡ wanted) =
    form-kind nodes spot.place spot.inner (plan_node_at nodes number) (node_at nodes spot.place).kind wanted spot.form (ap own_kind same ∙ own) in
    ap (λ (place : ℕ). (node_at nodes place).kind) both.0 ∙ both.1

-- ---- their keys

short : (delays : List ℕ) → All (λ delay. delay ≤ 63) delays → All (λ delay. delay < 64) delays
short delays all =
    All-from_get_or (λ (delay : ℕ). delay < 64) delays 0
    (λ i less. let most : get_or delays i 0 ≤ 63 = All-get_or (λ (delay : ℕ). delay ≤ 63) delays i 0 less all in omega (arith, most))

pub record AreShort (delays : List ℕ) : Type 0 where
  pub some : 0 < length delays
  pub most : length delays ≤ 64
  pub short : All (λ delay. delay < 64) delays

are-short : (delays : List ℕ) → AreDelays delays → AreShort delays
are-short delays are = record { some = omega (arith, are.some); most = are.few; short = short delays are.short }

-- a manager or a memory has lists of delays
pub record HasDelays (node : DocumentNode) : Type 0 where
  pub accept : AreDelays node.accept
  pub give : AreDelays node.give

delays-by : (node : DocumentNode) (k : Kind) → (AreDelaysAt (table_form k).accept node.accept → AreDelays node.accept) → (AreDelaysAt (table_form k).give node.give → AreDelays node.give) →
    IsFormed node → node.kind ≡ k → HasDelays node
delays-by node k accept give formed same = record {
  accept = accept (subst (λ (k : Kind). AreDelaysAt (table_form k).accept node.accept) same formed.accept);
  give = give (subst (λ (k : Kind). AreDelaysAt (table_form k).give node.give) same formed.give);
}

pub manager-delays : (node : DocumentNode) → IsFormed node → node.kind ≡ kind.Manager → HasDelays node
unfolding table_form
manager-delays node formed same = delays-by node kind.Manager (λ are. are) (λ are. are) formed same

pub memory-delays : (node : DocumentNode) → IsFormed node → node.kind ≡ kind.Memory → HasDelays node
unfolding table_form
memory-delays node formed same = delays-by node kind.Memory (λ are. are) (λ are. are) formed same

pub lite_memory-delays : (node : DocumentNode) → IsFormed node → node.kind ≡ kind.LiteMemory → HasDelays node
unfolding table_form
lite_memory-delays node formed same = delays-by node kind.LiteMemory (λ are. are) (λ are. are) formed same

pub formed-at : (nodes : List DocumentNode) (document : ℕ) → All IsFormed nodes → document < length nodes → IsFormed (node_at nodes document)
formed-at nodes document formed less = All-get_or IsFormed nodes document _ less formed

-- ---- what the parts want of their nodes

module _ {nodes : List DocumentNode} {items : List TrafficItem} {targets : List ℕ} (number : ℕ) (source : IsSource nodes items targets) (less : number < length (plan_nodes nodes)) where
  pub mux-begins : (plan_node_at nodes number).part ≡ part.Mux → IsNewMux (mux_at nodes number)
  mux-begins same = begins-by nodes items targets number part.Mux source less same

  pub remap-begins : (plan_node_at nodes number).part ≡ part.Remap → IsNewRemap (remap_at nodes number)
  remap-begins same = begins-by nodes items targets number part.Remap source less same

  pub up-begins : (plan_node_at nodes number).part ≡ part.Up → IsNewUp (up_at nodes number)
  up-begins same = begins-by nodes items targets number part.Up source less same

  pub lite-begins : (plan_node_at nodes number).part ≡ part.Lite → IsNewLite (lite_at nodes number)
  lite-begins same = begins-by nodes items targets number part.Lite source less same

  pub demux-begins : (plan_node_at nodes number).part ≡ part.Demux → IsNewDemux (demux_at nodes number)
  demux-begins same = begins-by nodes items targets number part.Demux source less same

  pub manager-begins : (plan_node_at nodes number).part ≡ part.Manager → IsNewManager (manager_at nodes number items)
  manager-begins same = begins-by nodes items targets number part.Manager source less same

  pub memory-begins : (plan_node_at nodes number).part ≡ part.Memory → BeginsMemory (memory_at nodes number items)
  memory-begins same = begins-by nodes items targets number part.Memory source less same

  pub lite_memory-begins : (plan_node_at nodes number).part ≡ part.LiteMemory → BeginsMemory (lite_memory_at nodes number items)
  lite_memory-begins same = begins-by nodes items targets number part.LiteMemory source less same

  document-less : (plan_node_at nodes number).document < length nodes
  document-less = document-known nodes number less

  pub manager-has_delays : (plan_node_at nodes number).part ≡ part.Manager → HasDelays (document_node_of nodes number)
  manager-has_delays same =
      manager-delays (document_node_of nodes number) (formed-at nodes (plan_node_at nodes number).document source.formed document-less)
      (kind-at nodes number part.Manager kind.Manager less same refl)

  pub memory-has_delays : (plan_node_at nodes number).part ≡ part.Memory → HasDelays (document_node_of nodes number)
  memory-has_delays same =
      memory-delays (document_node_of nodes number) (formed-at nodes (plan_node_at nodes number).document source.formed document-less)
      (kind-at nodes number part.Memory kind.Memory less same refl)

  pub lite_memory-has_delays : (plan_node_at nodes number).part ≡ part.LiteMemory → HasDelays (document_node_of nodes number)
  lite_memory-has_delays same =
      lite_memory-delays (document_node_of nodes number) (formed-at nodes (plan_node_at nodes number).document source.formed document-less)
      (kind-at nodes number part.LiteMemory kind.LiteMemory less same refl)

-- the lines that a memory keeps rise
pub lines-rise : (nodes : List DocumentNode) (items : List TrafficItem) (number bus : ℕ) → BeginsMemory (memory_on nodes items number bus) →
    AllPairs (λ a b. a < b) (lines_touched nodes items number)
lines-rise nodes items number bus begins =
    subst (λ (lines : List ℕ). AllPairs (λ a b. a < b) lines) (sym (ap (λ (s : MemoryState). s.inner.kept.lines) begins.is_new)) begins.ascending

-- ---- the document node of a plan node, as it was looked up

module _ {nodes wiring : List DocumentNode} {document : ℕ} (number : ℕ) (same : wiring ≡ nodes) (is : document ≡ (plan_node_at nodes number).document) where
  pub own-node : node_at wiring document ≡ document_node_of nodes number
  own-node = ap (λ (all : List DocumentNode). node_at all document) same ∙ ap (node_at nodes) is

  pub accepts : (delays : List ℕ) → delays ≡ (node_at wiring document).accept → HasDelays (document_node_of nodes number) → AreShort delays
  accepts delays are has = subst AreShort (sym (are ∙ ap (λ (node : DocumentNode). node.accept) own-node)) (are-short (document_node_of nodes number).accept has.accept)

  pub gives : (delays : List ℕ) → delays ≡ (node_at wiring document).give → HasDelays (document_node_of nodes number) → AreShort delays
  gives delays are has = subst AreShort (sym (are ∙ ap (λ (node : DocumentNode). node.give) own-node)) (are-short (document_node_of nodes number).give has.give)

-- ---- the regions of a document node are few

fourth : (a b c d e f g h : Bool) → (a || b || c || d || e || f || g || h) ≡ false → d ≡ false
fourth a b c d e f g h all =
    let seven : (a || b || c || d || e || f || g) ≡ false = (or_parts (a || b || c || d || e || f || g) h all).0 in
    let six : (a || b || c || d || e || f) ≡ false = (or_parts (a || b || c || d || e || f) g seven).0 in
    let five : (a || b || c || d || e) ≡ false = (or_parts (a || b || c || d || e) f six).0 in
    let four : (a || b || c || d) ≡ false = (or_parts (a || b || c || d) e five).0 in
    (or_parts (a || b || c) d four).1

pub regions-few : (nodes : List DocumentNode) (place : ℕ) → IsAccepted nodes → place < length nodes → length (node_at nodes place).region ≤ 64
regions-few nodes place accepted less =
    ltb-false 64 (length (node_at nodes place).region)
    (fourth (place == 256) (nat_lt 16 (length (uppers_of nodes place))) (nat_lt 16 (length (targets_of nodes (node_at nodes place))))
    (nat_lt 64 (length (node_at nodes place).region)) (nat_lt 64 (length (node_at nodes place).read_only)) (nat_lt 64 (length (node_at nodes place).hole))
    (nat_lt 1024 (sum (map (plan_nodes_at nodes) (numbers (suc place))))) (nat_lt 4096 (sum (map (plan_links_at nodes) (numbers (suc place)))))
    (accepted-is_clean nodes accepted place less).small)
