-- Whether links fit the node below them, from the links themselves.
use Rattle.std.specs.Prelude.{◌==◌, ◌||◌, List, Bool, false, nat_le, not}
use Rattle.std.specs.List.{list_any}
use Rattle.topology.specs.Document.{DocumentNode, LinkKind, first_link}
use Rattle.topology_text.specs.declared.kind.Kind.{Kind}
use Rattle.topology_text.specs.declared.kind.Kind.TheVariants.{Memory, LiteMemory, Slice, Mux, Crossbar, Up, Down, Lite}

module _ (node : DocumentNode) (inputs : List LinkKind) where
  -- its inputs have buses that differ, its bus isn't its input's, or it widens or narrows none
  abbrev pub bus_differs_at : Kind → Bool
  bus_differs_at Mux = list_any (λ (other : LinkKind). not (other.bus == (first_link inputs).bus)) inputs
  bus_differs_at Crossbar = list_any (λ (other : LinkKind). not (other.bus == (first_link inputs).bus)) inputs
  bus_differs_at Memory = not (node.bus == (first_link inputs).bus)
  bus_differs_at Up = nat_le node.bus (first_link inputs).bus
  bus_differs_at Down = nat_le (first_link inputs).bus node.bus
  bus_differs_at other = false

module _ (inputs : List LinkKind) where
  abbrev pub any_lite_of : Bool
  any_lite_of = list_any (λ (other : LinkKind). other.lite) inputs

  -- It leads to AXI4-Lite from a bus that AXI4-Lite doesn't have, it speaks AXI4-Lite and its input doesn't, or it speaks
  -- AXI4 and an input doesn't.
  abbrev pub protocol_differs_at : Kind → Bool
  protocol_differs_at Lite = any_lite_of || not ((first_link inputs).bus == 4 || (first_link inputs).bus == 8)
  protocol_differs_at LiteMemory = not (first_link inputs).lite
  protocol_differs_at Slice = false
  protocol_differs_at other = any_lite_of
