-- What is planned of an input, beside what is run of it.
use Rattle.std.proofs.Common.{◌≡◌, ℕ, List, Option, Some, None, Ok, Err, ap, refl, subst, sym}
use Rattle.std.specs.Prelude.{Result}
use Rattle.document.proofs.RunnableLemmas.{same-asked}
use Rattle.document.specs.Document.{Asked, NetworkText, Planned, asked_with, bound_on, network_in, planned_with, traffic_on}
use Rattle.document.specs.PlanLaws.{PlansFollowDocuments}
use Rattle.plan_traffic.specs.Bound.{round_bound}
use Rattle.plan_traffic.specs.Traffic.{traffic_of, traffic_refusal}
use Rattle.refusals.specs.declared.refusal.Refusal.{Refusal}
use Rattle.topology_text.specs.Document.{DocumentNode}

abbrev planned_as : Planned → Result Planned Refusal
planned_as planned = Ok planned

same-planned : (a b : Planned) → planned_as a ≡ planned_as b → a ≡ b
same-planned a b e = cc

abbrev not_planned : Refusal → Result Planned Refusal
not_planned refusal = Err refusal

same-refusal : (a b : Refusal) → not_planned a ≡ not_planned b → a ≡ b
same-refusal a b e = cc

abbrev not_asked : Refusal → Result Asked Refusal
not_asked refusal = Err refusal

abbrev planned_at : List DocumentNode → Option ℕ → Planned
planned_at nodes bound = record { nodes = nodes; bound = bound }

abbrev bounded : Asked → Planned
bounded asked = planned_at asked.nodes (Some (round_bound asked.nodes asked.items))

-- ---- what is accepted

with-bound :
    (nodes : List DocumentNode) (behind : List (List ℕ)) (refusal : Option Refusal) (asked : Asked) → traffic_on nodes behind refusal ≡ Ok asked →
    planned_at nodes (bound_on nodes behind refusal) ≡ bounded asked
with-bound nodes behind (Some refusal) asked e = absurd cc
with-bound nodes behind None asked e =
    subst (λ (a : Asked). planned_at nodes (Some (round_bound nodes (traffic_of nodes behind))) ≡ bounded a) (same-asked (record { nodes = nodes; items = traffic_of nodes behind }) asked e) refl

accepted-by : (read : Result NetworkText Refusal) (asked : Asked) → asked_with read ≡ Ok asked → planned_with read ≡ planned_as (bounded asked)
accepted-by (Err refusal) asked e = absurd cc
accepted-by (Ok text) asked e = ap planned_as (with-bound text.nodes text.lines (traffic_refusal text.nodes text.lines) asked e)

-- ---- what has no bound

abbrev IsUnbounded : List DocumentNode → Result Asked Refusal → Type 0
IsUnbounded nodes read = (lines : List (List ℕ)) × (refusal : Refusal) × (traffic_refusal nodes lines ≡ Some refusal) × (read ≡ Err refusal)

without-bound :
    (nodes : List DocumentNode) (behind : List (List ℕ)) (refusal : Option Refusal) → traffic_refusal nodes behind ≡ refusal → bound_on nodes behind refusal ≡ None →
    IsUnbounded nodes (traffic_on nodes behind refusal)
without-bound nodes behind (Some refusal) is e = (behind, refusal, is, refl)
without-bound nodes behind None is e = absurd cc

unbounded-by : (read : Result NetworkText Refusal) (nodes : List DocumentNode) → planned_with read ≡ planned_as (planned_at nodes None) → IsUnbounded nodes (asked_with read)
unbounded-by (Err refusal) nodes e = absurd cc
unbounded-by (Ok text) nodes e =
    let bound = bound_on text.nodes text.lines (traffic_refusal text.nodes text.lines) in
    let same : planned_at text.nodes bound ≡ planned_at nodes None = same-planned (planned_at text.nodes bound) (planned_at nodes None) e in
    subst (λ (of : List DocumentNode). IsUnbounded of (asked_with (Ok text))) (ap (λ (p : Planned). p.nodes) same)
    (without-bound text.nodes text.lines (traffic_refusal text.nodes text.lines) refl (ap (λ (p : Planned). p.bound) same))

-- ---- what is refused

refused-by : (read : Result NetworkText Refusal) (refusal : Refusal) → planned_with read ≡ Err refusal → asked_with read ≡ Err refusal
refused-by (Err other) refusal e = ap not_asked (same-refusal other refusal e)
refused-by (Ok text) refusal e = absurd cc

pub plans-follow_documents : PlansFollowDocuments
plans-follow_documents = record {
  accepted = λ input asked e. accepted-by (network_in input) asked e;
  unbounded = λ input nodes e. unbounded-by (network_in input) nodes e;
  refused = λ input refusal e. refused-by (network_in input) refusal e;
}
