-- The status of a byte is the same by the keys of a document node and by the bytes that a memory has.
use Rattle.std.proofs.Common.{◌≡◌, ◌||◌, ◌∷◌, [], ℕ, Bool, List, refl, ap, ap₂, ◌∙◌}
use Rattle.std.specs.Prelude.{map}
use Rattle.std.specs.List.{list_any}
use Rattle.axi_beats.specs.declared.response.Resp.{Resp}
use Rattle.axi_beats.specs.declared.response.Resp.TheVariants.{DecErr, Okay, SlvErr}
use Rattle.memory_node.specs.MemoryArea.{is_in_range}
use Rattle.memory_node.specs.Status.{is_okay, may_read, may_write, read_status, status_but_in, write_status}
use Rattle.memory_node.specs.declared.config.Range.{Range}
use Rattle.net_opening.specs.States.{area_on, memory_range}
use Rattle.plan_traffic.specs.Due.{is_accessed, is_spanned, status_by}
use Rattle.topology.specs.Document.{DocumentNode}
use Rattle.topology_text.specs.declared.kind.Span.{Span}

pub map-same : {X Y : Type 0} (f g : X → Y) → ((x : X) → f x ≡ g x) → (xs : List X) → map f xs ≡ map g xs
map-same f g same [] = refl
map-same f g same (x ∷ xs) = ap₂ (λ y ys. y ∷ ys) (same x) (map-same f g same xs)

ranges-same : (address : ℕ) (ranges : List Span) →
    list_any (λ (range : Range). is_in_range range address) (map memory_range ranges) ≡ list_any (λ (range : Span). is_spanned range.base range.size address) ranges
ranges-same address [] = refl
ranges-same address (range ∷ ranges) = ap (λ (b : Bool). is_spanned range.base range.size address || b) (ranges-same address ranges)

okay-accessed : (status : Resp) → is_okay status ≡ is_accessed status
okay-accessed Okay = refl
okay-accessed SlvErr = refl
okay-accessed DecErr = refl

-- of a memory on any bus, of AXI4 or AXI4-Lite
module _ (bus : ℕ) (node : DocumentNode) (address : ℕ) where
  pub written-same : write_status (area_on bus node) address ≡ status_by node node.read_only address
  written-same = ap (status_but_in (is_spanned node.base node.size address)) (ranges-same address node.read_only)

  pub given-same : read_status (area_on bus node) address ≡ status_by node node.hole address
  given-same = ap (status_but_in (is_spanned node.base node.size address)) (ranges-same address node.hole)

  pub may-write : may_write (area_on bus node) address ≡ is_accessed (status_by node node.read_only address)
  may-write = okay-accessed (write_status (area_on bus node) address) ∙ ap is_accessed written-same

  pub may-read : may_read (area_on bus node) address ≡ is_accessed (status_by node node.hole address)
  may-read = okay-accessed (read_status (area_on bus node) address) ∙ ap is_accessed given-same
