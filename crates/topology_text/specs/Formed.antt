-- What a node of a document is: each of its keys is there as its kind has it, and within its limits.
use Rattle.std.specs.Prelude.{◌≡◌, ◌≤◌, ◌==◌, ◌||◌, ⊤, ℕ, List, [], true, All, length}
use Rattle.axi_beats.specs.Bus.{is_bus_width}
use Rattle.topology_text.specs.Document.{DocumentNode}
use Rattle.topology_text.specs.Form.{table_form}
use Rattle.topology_text.specs.Shape.{any_number, bus_limits, depth_limits, fill_limits, id_width_limits, is_name}
use Rattle.topology_text.specs.declared.form.Presence.{Presence}
use Rattle.topology_text.specs.declared.form.Presence.TheVariants.{Never, Optional, Required}
use Rattle.topology_text.specs.declared.value.Limits.{Limits}

-- a number is 0 where the kind doesn't have its key, and else within limits
abbrev pub IsNumberAt : Presence → Limits → ℕ → Type 0
IsNumberAt Never limits number = number ≡ 0
IsNumberAt presence limits number = (limits.least ≤ number) × (number ≤ limits.most)

-- a list is empty where the kind doesn't have its key, and has so many elements at least where it requires it
abbrev pub IsListAt : {X : Type 0} → Presence → ℕ → List X → Type 0
IsListAt Never least elements = elements ≡ []
IsListAt Optional least elements = ⊤
IsListAt Required least elements = least ≤ length elements

-- one to 64 delays of at most 63 rounds
pub record AreDelays (delays : List ℕ) : Type 0 where
  pub some : 1 ≤ length delays
  pub few : length delays ≤ 64
  pub short : All (λ delay. delay ≤ 63) delays

abbrev pub AreDelaysAt : Presence → List ℕ → Type 0
AreDelaysAt Never delays = delays ≡ []
AreDelaysAt presence delays = AreDelays delays

pub record IsFormed (node : DocumentNode) : Type 0 where
  pub name : is_name node.name ≡ true
  pub to : IsListAt (table_form node.kind).to 0 node.to
  pub region : IsListAt (table_form node.kind).region 1 node.region
  pub bus : IsNumberAt (table_form node.kind).bus bus_limits node.bus
  pub bus_is_width : (node.bus == 0 || is_bus_width node.bus) ≡ true
  pub id_width : IsNumberAt (table_form node.kind).id_width id_width_limits node.id_width
  pub depth : IsNumberAt (table_form node.kind).depth depth_limits node.depth
  pub base : IsNumberAt (table_form node.kind).base any_number node.base
  pub size : IsNumberAt (table_form node.kind).size any_number node.size
  pub fill : IsNumberAt (table_form node.kind).fill fill_limits node.fill
  pub read_only : IsListAt (table_form node.kind).read_only 0 node.read_only
  pub hole : IsListAt (table_form node.kind).hole 0 node.hole
  pub accept : AreDelaysAt (table_form node.kind).accept node.accept
  pub give : AreDelaysAt (table_form node.kind).give node.give

abbrev pub AreFormed : List DocumentNode → Type 0
AreFormed nodes = All IsFormed nodes
