-- Causes of refusals, ruled out in order of code.
use Rattle.std.proofs.Common.{◌≡◌, ◌<◌, ◌+◌, ◌-◌, ◌^◌, ℕ, Bool, true, false, cond, List, [], ◌∷◌, Option, Some, None, length, ap, ap₂, sym, ◌∙◌, subst, arith, min}
use Rattle.std.specs.Prelude.{find, unwrap_or}
use Rattle.node_graph.proofs.Members.{in-first, in-numbers, in-rest, numbers-in}
use Rattle.node_graph.specs.Graph.{Graph, is_in, is_on_cycle, numbers}
use Rattle.node_graph.specs.Laws.{IsAcyclic}
use Rattle.refusals.specs.Refusal.{refused_at}
use Rattle.refusals.specs.declared.cause.Cause.{Cause}
use Rattle.refusals.specs.declared.refusal.DocFault.{DocFault}
use Rattle.refusals.specs.declared.refusal.DocFault.TheVariants.{Refused}
use Rattle.topology.specs.Document.{DocumentNode, graph_of}
use Rattle.topology.specs.Read.{IsTopologyFault, accepted_nodes, or_refused}
use Rattle.topology.specs.Refused.{fault_of, first_cause, is_cyclic, or_cause}
use Rattle.topology.proofs.AcceptedFacts.{find-none}

-- what is found is in the list
find-in : (p : ℕ → Bool) (xs : List ℕ) (x : ℕ) → find p xs ≡ Some x → is_in xs x ≡ true
find-in p [] x e = absurd cc
find-in p (y ∷ ys) x e = by (p y) (find-in p ys x) e
  where
    by : (b : Bool) → (find p ys ≡ Some x → is_in ys x ≡ true) → cond b (Some y) (find p ys) ≡ Some x → is_in (y ∷ ys) x ≡ true
    by true more f = in-first y ys x (ap (λ (o : Option ℕ). unwrap_or o y) f)
    by false more f = in-rest y ys x (more f)

module _ (nodes : List DocumentNode) (cause : Cause) (holds : List DocumentNode → ℕ → Bool) (more : List (Cause × (List DocumentNode → ℕ → Bool))) where
  -- the next cause holds of no node
  pub past-next : fault_of nodes ≡ first_cause nodes ((cause, holds) ∷ more) → find (holds nodes) (numbers (length nodes)) ≡ None → fault_of nodes ≡ first_cause nodes more
  past-next past none = past ∙ ap (λ (o : Option ℕ). or_cause cause o (first_cause nodes more)) none

  -- the next cause holds of this node
  pub refused-here : (place : ℕ) (fault : DocFault) → length nodes < 2 ^ 32 → fault_of nodes ≡ first_cause nodes ((cause, holds) ∷ more) → find (holds nodes) (numbers (length nodes)) ≡ Some place →
      fault ≡ Refused (refused_at cause (min (place + 1) (2 ^ 32 - 1))) → IsTopologyFault (accepted_nodes nodes) fault
  refused-here place fault few past found e =
      let is : fault_of nodes ≡ Some (cause, place) = past ∙ ap (λ (o : Option ℕ). or_cause cause o (first_cause nodes more)) found in
      let inside : place < length nodes = in-numbers (length nodes) place (find-in (holds nodes) (numbers (length nodes)) place found) in
      let small : min (place + 1) (2 ^ 32 - 1) ≡ place + 1 = omega (arith, inside, few) in
      subst (IsTopologyFault (accepted_nodes nodes)) (sym (e ∙ ap (λ (k : ℕ). Refused (refused_at cause k)) small)) (ap (or_refused nodes) is)

-- ---- cycles

pub cyclic-first : (nodes : List DocumentNode) (graph : Graph) → graph ≡ graph_of nodes → length graph ≡ length nodes → find (is_on_cycle graph) (numbers (length graph)) ≡ find (is_cyclic nodes) (numbers (length nodes))
cyclic-first nodes graph joined long = ap₂ (λ (g : Graph) (k : ℕ). find (is_on_cycle g) (numbers k)) joined long

pub none-acyclic : (graph : Graph) → find (is_on_cycle graph) (numbers (length graph)) ≡ None → IsAcyclic graph
none-acyclic graph none node less = find-none (is_on_cycle graph) (numbers (length graph)) none node (numbers-in (length graph) node less)
