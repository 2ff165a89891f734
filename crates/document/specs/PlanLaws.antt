-- What is planned of an input, beside what is run of it.
use Rattle.std.specs.Prelude.{◌≡◌, ℕ, List, Err, None, Ok, Some}
use Rattle.document.specs.Document.{Asked, document_of, planned_of}
use Rattle.plan_traffic.specs.Bound.{round_bound}
use Rattle.plan_traffic.specs.Traffic.{traffic_refusal}
use Rattle.refusals.specs.declared.refusal.Refusal.{Refusal}
use Rattle.topology_text.specs.Document.{DocumentNode}

pub record PlansFollowDocuments : Type 0 where
  -- a document that is accepted is planned with the bound of its run
  pub accepted :
      (input : List ℕ) (asked : Asked) → document_of input ≡ Ok asked →
      planned_of input ≡ Ok (record { nodes = asked.nodes; bound = Some (round_bound asked.nodes asked.items) })
  -- one that is planned without a bound is refused for its traffic
  pub unbounded :
      (input : List ℕ) (nodes : List DocumentNode) → planned_of input ≡ Ok (record { nodes = nodes; bound = None }) →
      (lines : List (List ℕ)) × (refusal : Refusal) × (traffic_refusal nodes lines ≡ Some refusal) × (document_of input ≡ Err refusal)
  -- and one that isn't planned is refused for the same cause
  pub refused : (input : List ℕ) (refusal : Refusal) → planned_of input ≡ Err refusal → document_of input ≡ Err refusal
