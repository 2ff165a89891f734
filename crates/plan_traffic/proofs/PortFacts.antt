-- The managers of a document that is formed.
use Rattle.std.proofs.Common.{◌≡◌, ◌<◌, ◌≤◌, ◌==◌, ◌||◌, ℕ, ◌+◌, Bool, true, false, List, [], inl, inr, length, refl, ◌∙◌, ap, subst, arith}
use Rattle.std.proofs.lemmas.Bool.{cases_lt, false≢true, ne_eqb}
use Rattle.std.proofs.lemmas.List.Elements.{All-get_or}
use Rattle.axi_beats.specs.Bus.{IsBusWidth, is_bus_width}
use Rattle.topology.specs.Document.{is_manager, node_at}
use Rattle.topology_text.specs.Document.{DocumentNode, node_of_kind}
use Rattle.topology_text.specs.Form.{table_form}
use Rattle.topology_text.specs.Formed.{AreFormed, IsFormed, IsNumberAt}
use Rattle.topology_text.specs.Shape.{bus_limits, id_width_limits}
use Rattle.topology_text.specs.declared.kind.Kind.{Kind}
use Rattle.topology_text.specs.declared.kind.Kind.TheVariants.{Manager, Slice}
use Rattle.plan_traffic.specs.Ports.{IsPort}

bus-width : (bus : ℕ) → 4 ≤ bus → (bus == 0 || is_bus_width bus) ≡ true → IsBusWidth bus
bus-width bus some e = subst (λ (b : Bool). (b || is_bus_width bus) ≡ true) (ne_eqb bus 0 (λ none. omega (arith, some, none))) e

port-of : (node : DocumentNode) (k : Kind) → node.kind ≡ k → is_manager k ≡ true → IsFormed node → IsPort node
unfolding table_form
port-of node Manager is manager formed =
    let bus : (4 ≤ node.bus) × (node.bus ≤ 128) = subst (λ (k : Kind). IsNumberAt (table_form k).bus bus_limits node.bus) is formed.bus in
    let id : (0 ≤ node.id_width) × (node.id_width ≤ 16) = subst (λ (k : Kind). IsNumberAt (table_form k).id_width id_width_limits node.id_width) is formed.id_width in
    record { bus = bus-width node.bus bus.0 formed.bus_is_width; id = omega (arith, id.1) }
port-of node other is manager formed = absurd (false≢true manager)

pub port-at : (nodes : List DocumentNode) → AreFormed nodes → (number : ℕ) → number < length nodes → is_manager (node_at nodes number).kind ≡ true → IsPort (node_at nodes number)
port-at nodes formed number less manager =
    port-of (node_at nodes number) (node_at nodes number).kind refl manager (All-get_or IsFormed nodes number (node_of_kind [] Slice) less formed)

-- Among one more, too, none is a node of which a test holds.
pub none-more : (test : DocumentNode → Bool) (nodes : List DocumentNode) (count : ℕ) → ((place : ℕ) → place < count → test (node_at nodes place) ≡ false) → test (node_at nodes count) ≡ false
    → (place : ℕ) → place < count + 1 → test (node_at nodes place) ≡ false
none-more test nodes count none here place less =
    elim (cases_lt place count) [
      | inl before ↦ none place before
      | inr past ↦ let same : place ≡ count = omega (arith, less, past) in ap (λ n. test (node_at nodes n)) same ∙ here
    ]
