-- The links of a plan: their numbers, and how many beats their queues have room for.
use Rattle.std.proofs.Common.{◌≡◌, ◌<◌, ◌≤◌, ◌==◌, ℕ, suc, List, [], ◌∷◌, Some, ap, arith, false, inl, inr, length, map, subst, sym}
use Rattle.std.specs.Prelude.{All, slice_get}
use Rattle.std.specs.List.{range_with_len}
use Rattle.std.proofs.Math.ListN.{get_or-eq_default}
use Rattle.std.proofs.lemmas.Bool.{cases_lt}
use Rattle.std.proofs.lemmas.List.Elements.{All-append, All-filter, All-from_get_or, All-get_or, All-head, All-map, All-nil}
use Rattle.std.proofs.lemmas.List.FromFn.{length-map-range_with_len}
use Rattle.std.proofs.lemmas.Option.{slice_get-get_or}
use Rattle.burst_address.proofs.Runs.{All-run}
use Rattle.elaborate.specs.Laws.{is_first, is_mux}
use Rattle.elaborate.specs.Plan.{PlanNode, links_below, links_from, plan_link_at, plan_links, plan_node_at, plan_nodes}
use Rattle.elaborate.specs.declared.link.PlanLink.{PlanLink}
use Rattle.net_kinds.specs.NodeKind.{node_kind}
use Rattle.net_model.specs.Network.{net_link}
use Rattle.net_model.specs.Wired.{IsWired}
use Rattle.net_model.specs.declared.net_link.NetLink.{NetLink}
use Rattle.net_opening.specs.Opening.{opening, state_at}
use Rattle.net_opening.specs.PlanLinks.{link_into, links_into, net_link_of}
use Rattle.net_plan.proofs.NodeLinks.{one-into}
use Rattle.net_steps.specs.NetView.{HasDepth}
use Rattle.node_core.specs.Acted.{opened}
use Rattle.node_graph.specs.Graph.{numbers}
use Rattle.plan_traffic.specs.Traffic.{TrafficItem}
use Rattle.topology.specs.Document.{DocumentNode, node_at, node_of_kind}
use Rattle.topology.specs.Refused.{IsAccepted}
use Rattle.topology_text.specs.Form.{table_form}
use Rattle.topology_text.specs.Formed.{AreFormed, IsFormed, IsNumberAt}
use Rattle.topology_text.specs.Shape.{depth_limits}
use Rattle.topology_text.specs.declared.kind.Kind.{Kind}
use Rattle.topology_text.specs.declared.kind.Kind.TheVariants as kind

-- the links above a plan node are links of the plan
pub into-known : (nodes : List DocumentNode) (number : ℕ) → All (λ link. link < length (plan_links nodes)) (links_into nodes number)
unfolding numbers
into-known nodes number =
    All-filter (λ link. (plan_link_at nodes link).lower == number) (λ link. link < length (plan_links nodes)) (range_with_len 0 (length (plan_links nodes)))
    (All-run (λ link. link < length (plan_links nodes)) 0 (length (plan_links nodes)) (λ x from below. omega (arith, below)))

-- and so is the one above a part that has one
pub above-known : (nodes : List DocumentNode) → IsAccepted nodes → (number : ℕ) → number < length (plan_nodes nodes) → is_first (plan_node_at nodes number).part ≡ false →
    is_mux (plan_node_at nodes number).part ≡ false → link_into nodes number < length (plan_links nodes)
above-known nodes accepted number less other single =
    let IsKnown : ℕ → Type 0 = λ link. link < length (plan_links nodes) in
    let at : slice_get (plan_nodes nodes) number ≡ Some (plan_node_at nodes number) = slice_get-get_or (plan_nodes nodes) number _ less in
    All-head IsKnown (link_into nodes number) []
    (subst (All IsKnown) (sym (one-into nodes accepted number (plan_node_at nodes number) at other single)) (into-known nodes number))

-- ---- depths

within-limits : (k : Kind) (depth : ℕ) → IsNumberAt (table_form k).depth depth_limits depth → depth ≤ 16
unfolding table_form
within-limits kind.Manager depth within = omega (arith, within.1)
within-limits kind.Slice depth within = omega (arith, within.1)
within-limits kind.Mux depth within = omega (arith, within.1)
within-limits kind.Demux depth within = omega (arith, within.1)
within-limits kind.Crossbar depth within = omega (arith, within.1)
within-limits kind.Remap depth within = omega (arith, within.1)
within-limits kind.Up depth within = omega (arith, within.1)
within-limits kind.Down depth within = omega (arith, within.1)
within-limits kind.Lite depth within = omega (arith, within.1)
within-limits kind.Memory depth none = omega (arith, none)
within-limits kind.LiteMemory depth none = omega (arith, none)

depth-most : (nodes : List DocumentNode) → AreFormed nodes → (place : ℕ) → (node_at nodes place).depth ≤ 16
depth-most nodes formed place =
    elim (cases_lt place (length nodes)) [
      | inl less ↦
          let own : IsFormed (node_at nodes place) = All-get_or IsFormed nodes place (node_of_kind [] kind.Slice) less formed in
          within-limits (node_at nodes place).kind (node_at nodes place).depth own.depth
      | inr beyond ↦
          let none : node_at nodes place ≡ node_of_kind [] kind.Slice = get_or-eq_default nodes (node_of_kind [] kind.Slice) beyond in
          omega (arith, ap (λ (node : DocumentNode). node.depth) none)
    ]

abbrev link_down : List DocumentNode → ℕ → PlanNode → ℕ → PlanLink
link_down nodes upper node lower = record { upper = upper; lower = lower; link = node.link; depth = (node_at nodes node.document).depth }

IsShallow : PlanLink → Type 0
IsShallow link = link.depth ≤ 16

links-shallow : (nodes : List DocumentNode) → AreFormed nodes → (number : ℕ) (plan : List PlanNode) → All IsShallow (links_from nodes number plan)
unfolding IsShallow
links-shallow nodes formed number [] = All-nil IsShallow
links-shallow nodes formed number (node ∷ more) =
    All-append IsShallow (links_below nodes number node) (links_from nodes (suc number) more)
    (All-map IsShallow (link_down nodes number node) node.lower (λ i d less. depth-most nodes formed node.document)) (links-shallow nodes formed (suc number) more)

-- each has room for some beats, and for few
pub have-depths : (nodes : List DocumentNode) (items : List TrafficItem) → AreFormed nodes → IsWired node_kind (opening nodes items) → All HasDepth (map net_link_of (plan_links nodes))
unfolding IsShallow
have-depths nodes items formed wired =
    All-from_get_or HasDepth (map net_link_of (plan_links nodes)) (record { upper = 0; lower = 0; lite = false; bus = 0; id_width = 0; depth = 0 })
    (λ i less. record { some = wired.deep i less; few = few i less })
  where
    few : (i : ℕ) → i < length (map net_link_of (plan_links nodes)) → (net_link (map net_link_of (plan_links nodes)) i).depth ≤ 16
    few i less =
        All-get_or (λ (link : NetLink). link.depth ≤ 16) (map net_link_of (plan_links nodes)) i (record { upper = 0; lower = 0; lite = false; bus = 0; id_width = 0; depth = 0 }) less
        (All-map (λ (link : NetLink). link.depth ≤ 16) net_link_of (plan_links nodes) (links-shallow nodes formed 0 (plan_nodes nodes)))

-- ---- the nodes of the network before its first round are those of the plan

pub opening-long : (nodes : List DocumentNode) (items : List TrafficItem) → length (opening nodes items).nodes ≡ length (plan_nodes nodes)
unfolding numbers
opening-long nodes items = length-map-range_with_len (λ (number : ℕ). opened (state_at nodes items number)) 0 (length (plan_nodes nodes))
