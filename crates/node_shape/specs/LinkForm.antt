-- The form of a link, and what of a transaction fits it.
use Rattle.std.specs.Prelude.{◌≡◌, ◌<◌, ◌≤◌, ◌+◌, ◌-◌, ◌%◌, ◌^◌, [], ◌∷◌, ℕ, List, Bool, true, false, All, flat_map, map, zip, if◌then◌else◌}
use Rattle.std.specs.List.{AllZip, range_with_len}
use Rattle.axi_beats.specs.Bus.{IsBusWidth}
use Rattle.axi_beats.specs.Lanes.{Span}
use Rattle.axi_beats.specs.declared.beat.Addr.{Addr}
use Rattle.axi_beats.specs.declared.beat.Burst.TheVariants.{Incr}
use Rattle.axi_beats.specs.declared.beat.WBeat.{WBeat}
use Rattle.axi_trail.specs.Schedule.{Share}
use Rattle.burst_address.specs.Bytes.{Byte, written_bytes}
use Rattle.burst_address.specs.Formulas.{beats_of, size_of}
use Rattle.burst_address.specs.Lanes.{valid_span, word_address}
use Rattle.burst_address.specs.Legal.{IsLegal, page}
use Rattle.node_shape.specs.LegalSchedule.{IsDataOf}

-- AXI4-Lite or AXI4, the width of the data bus in bytes and that of the IDs in bits, and whether each burst has one beat:
-- on AXI4-Lite, and below a node that cuts bursts into single beats
pub record LinkForm : Type 0 where
  pub lite : Bool
  pub bus : ℕ
  pub id_width : ℕ
  pub single : Bool

-- the form of an AXI4-Lite link: each burst has one beat, and there are no IDs
pub record IsWordForm (form : LinkForm) : Type 0 where
  pub single : form.single ≡ true
  pub no_ids : form.id_width ≡ 0

-- two forms but for the width of the IDs
pub record IsAlike (form other : LinkForm) : Type 0 where
  pub lite : other.lite ≡ form.lite
  pub bus : other.bus ≡ form.bus
  pub single : other.single ≡ form.single

-- a burst of one beat, which is as it were INCR
pub record IsSingle (request : Addr) : Type 0 where
  pub len : request.len ≡ 0
  pub burst : request.burst ≡ Incr

-- a request on AXI4-Lite: for a whole word of the bus, with the wanted lanes in its tag
pub record IsWordRequest (bus : ℕ) (request : Addr) : Type 0 where
  pub size : size_of request ≡ bus
  pub aligned : request.addr % bus ≡ 0
  pub low : request.tag.low ≤ request.tag.high
  pub high : request.tag.high < bus

-- the wanted lanes of a beat of read data: the valid ones, and on an AXI4-Lite link those that the request's tag names
abbrev pub wanted_span : LinkForm → Addr → ℕ → Span
wanted_span form request beat = if form.lite then record { low = request.tag.low; high = request.tag.high } else valid_span request beat form.bus

-- those of all beats of a burst
abbrev pub wanted_lanes : LinkForm → Addr → List Span
wanted_lanes form request = map (wanted_span form request) (range_with_len 0 (beats_of request))

-- how many lanes they are
abbrev pub lanes_wanted : List Span → ℕ
lanes_wanted [] = 0
lanes_wanted (span ∷ lanes) = span.high + 1 - span.low + lanes_wanted lanes

-- the addresses of the bytes on them, upwards and beat by beat
abbrev pub bytes_within : ℕ → Span → List ℕ
bytes_within word span = range_with_len (word + span.low) (span.high + 1 - span.low)

abbrev pub wanted_bytes : LinkForm → Addr → List ℕ
wanted_bytes form request = flat_map (λ beat. bytes_within (word_address request beat form.bus) (wanted_span form request beat)) (range_with_len 0 (beats_of request))

-- the bytes that the data of a write writes, part by part in burst order
abbrev pub parts_written : LinkForm → Share → List Byte
parts_written form share = flat_map (λ (p : Addr × List WBeat). written_bytes form.bus p.0 p.1) (zip share.parts share.write_data)

-- What a link carries of a transaction of a direction is legal on its bus.
pub record FitsLink (form : LinkForm) (write : Bool) (share : Share) : Type 0 where
  pub width : IsBusWidth form.bus
  pub legal : All (λ (part : Addr). IsLegal part form.bus) share.parts
  pub small : All (λ (part : Addr). part.addr < 2 ^ 63) share.parts
  pub single : form.single ≡ true → All IsSingle share.parts
  pub words : form.lite ≡ true → All (IsWordRequest form.bus) share.parts
  -- each part of a write has its data, with strobes on its valid lanes alone
  pub write_data : write ≡ true → AllZip (IsDataOf form.bus) share.parts share.write_data
  pub strobes : write ≡ true → All (λ (w : WBeat). w.strobe < 2 ^ form.bus) (flat_map (λ beats. beats) share.write_data)
  -- a read has no data, and a write wants no lanes
  pub no_data : write ≡ false → share.write_data ≡ []
  pub lanes : share.lanes ≡ (if write then [] else flat_map (wanted_lanes form) share.parts)

-- all parts lie in one page
abbrev pub ArePartsOf : ℕ → List Addr → Type 0
ArePartsOf number parts = All (λ (part : Addr). page part.addr ≡ number) parts
