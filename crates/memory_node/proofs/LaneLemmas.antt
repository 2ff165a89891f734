-- What is known of the lanes of a beat: that they lie on the bus, and that they don't depend on the request's ID.
use Rattle.std.proofs.Common.{◌≡◌, ℕ, ◌+◌, ◌<◌, ◌≤◌, Bool, true, false, cond, length, map, refl, ap, arith}
use Rattle.std.specs.Prelude.{filter}
use Rattle.std.proofs.lemmas.List.FromFn.{length-map-range_with_len}
use Rattle.axi_beats.specs.Bus.{IsBusWidth}
use Rattle.axi_beats.specs.declared.beat.Addr.{Addr}
use Rattle.axi_beats.specs.declared.beat.WBeat.{WBeat}
use Rattle.axi_trail.specs.LinkContracts.{without_id}
use Rattle.burst_address.proofs.LaneBytes.{lanes-on_bus}
use Rattle.burst_address.proofs.Widths.{width-bounds, word-in_line}
use Rattle.burst_address.specs.Formulas.{beat_at}
use Rattle.burst_address.specs.Lanes.{first_lane, is_valid, lane_address, lane_count, last_lane, word_address}
use Rattle.memory_node.specs.WantedReads.{lanes_of_span, wanted_addresses, wanted_allowed}
use Rattle.axi_beats.specs.Lanes.{Span}
use Rattle.subordinate.specs.Parts.{BeatOf}
use Rattle.memory_node.specs.Beats.{answered_byte, answered_lanes, stored_bytes, strobed_status}
use Rattle.memory_node.specs.Store.{Store}
use Rattle.memory_node.specs.MemoryArea.{IsMemoryArea, MemoryArea, is_inside}
use Rattle.memory_node.specs.Status.{is_okay, may_read, status_but_in}
use Rattle.memory_node.proofs.BeatLemmas.{is_inside-lane}

-- what a beat is doesn't depend on the ID of its request
pub written-without_id : (area : MemoryArea) (a : Addr) (n : ℕ) (w : WBeat) → stored_bytes area (without_id a) n w ≡ stored_bytes area a n w
written-without_id area a n w = refl

pub strobed-without_id : (area : MemoryArea) (a : Addr) (n : ℕ) (w : WBeat) → strobed_status area (without_id a) n w ≡ strobed_status area a n w
strobed-without_id area a n w = refl

-- nor on the ID where its wanted lanes don't
module _ (area : MemoryArea) (wanted : BeatOf → Span) (a : Addr) (n : ℕ) (same : wanted (record { request = without_id a; beat = n }) ≡ wanted (record { request = a; beat = n })) where
  pub reads-without_id : wanted_addresses area wanted (record { request = without_id a; beat = n }) ≡ wanted_addresses area wanted (record { request = a; beat = n })
  reads-without_id = ap (λ (s : Span). map (λ lane. lane_address a n area.bus lane) (filter (λ lane. may_read area (lane_address a n area.bus lane)) (lanes_of_span s))) same

  pub allowed-without_id : wanted_allowed area wanted (record { request = without_id a; beat = n }) ≡ wanted_allowed area wanted (record { request = a; beat = n })
  allowed-without_id = ap (λ (s : Span). map (λ lane. may_read area (lane_address a n area.bus lane)) (lanes_of_span s)) same

-- a lane is wanted, and all that are are valid
pub record AreWithin (bus : ℕ) (wanted : Span) (b : BeatOf) : Type 0 where
  pub from : first_lane b.request b.beat bus ≤ wanted.low
  pub some : wanted.low ≤ wanted.high
  pub to : wanted.high ≤ last_lane b.request b.beat bus

-- a beat has a valid lane, and its valid lanes are lanes of the bus
pub lanes-within : (a : Addr) (n bus : ℕ) → IsBusWidth bus → (0 < lane_count a n bus) × (first_lane a n bus + lane_count a n bus ≤ bus) × (bus ≤ 128)
lanes-within a n bus is =
    let lanes : (0 < lane_count a n bus) × (first_lane a n bus + lane_count a n bus ≤ bus) = lanes-on_bus a n bus is in
    (lanes.0, lanes.1, (width-bounds bus is).1)

-- the byte on a lane of the bus lies in the memory exactly where the beat's word does
pub inside-of_lane : (area : MemoryArea) (a : Addr) (n lane : ℕ) → IsMemoryArea area → lane < area.bus → is_inside area (lane_address a n area.bus lane) ≡ is_inside area (word_address a n area.bus)
inside-of_lane area a n lane is lt = is_inside-lane area (word_address a n area.bus) lane is (omega (arith, word-in_line (beat_at a n) area.bus is.bus))

-- a byte that may be written or read lies in the memory
pub okay-inside : (inside refused : Bool) → is_okay (status_but_in inside refused) ≡ true → inside ≡ true
okay-inside true refused is = refl
okay-inside false refused is = absurd (cc)

-- an R beat has all its lanes
pub lanes-long : (area : MemoryArea) (store : Store) (request : Addr) (beat : ℕ) → length (answered_lanes area store request beat) ≡ 128
lanes-long area store request beat =
    length-map-range_with_len (λ lane. cond (is_valid request beat area.bus lane) (answered_byte area store (lane_address request beat area.bus lane)) 0) 0 128
