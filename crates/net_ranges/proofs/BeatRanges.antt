-- What nodes put on their links is within the ranges of a trace line.
use Rattle.std.proofs.Common.{◌≡◌, ◌<◌, ◌≤◌, ◌+◌, ◌-◌, ◌^◌, ◌++◌, ◌&&◌, ℕ, List, Bool, true, false, cond, length, drop, map, replicate, refl, ap, ◌∙◌, subst, arith}
use Rattle.std.specs.Prelude.{All, IsTrue, nat_le, nat_lt}
use Rattle.std.proofs.Math.Nat.{mod-le, pow-le-pow_right}
use Rattle.std.proofs.lemmas.Bool.{cond_both, le-ltb, ltb-true}
use Rattle.std.proofs.lemmas.List.{drop-replicate, length-map, length-replicate, length-take}
use Rattle.std.proofs.lemmas.List.Elements.{All-drop, All-map, All-replicate, All-take, All-weaker, recursion_from_All}
use Rattle.axi_beats.specs.Bus.{IsBusWidth}
use Rattle.axi_beats.specs.Codes.{burst_code, response_code}
use Rattle.axi_beats.specs.declared.beat.Addr.{Addr}
use Rattle.axi_beats.specs.declared.beat.BBeat.{BBeat}
use Rattle.axi_beats.specs.declared.beat.Burst.{Burst}
use Rattle.axi_beats.specs.declared.beat.Burst.TheVariants.{Fixed, Incr, Wrap}
use Rattle.axi_beats.specs.declared.beat.RBeat.{RBeat}
use Rattle.axi_beats.specs.declared.response.Resp.{Resp}
use Rattle.axi_beats.specs.declared.response.Resp.TheVariants.{Okay, SlvErr, DecErr}
use Rattle.burst_address.proofs.Beats.{beat-count, bus-most}
use Rattle.burst_address.proofs.Legality.{legal-length, legal-size, wrap_length}
use Rattle.burst_address.proofs.Numbers.{exponent_below}
use Rattle.burst_address.specs.Bytes.{beat_bytes, bytes_before}
use Rattle.burst_address.specs.Formulas.{beats_of}
use Rattle.burst_address.specs.Lanes.{first_lane, is_valid, lane_address, lane_count}
use Rattle.burst_address.specs.Legal.{IsLegal, is_length_of}
use Rattle.link_ports.specs.PortView.{seen_address, seen_read_beat, seen_response}
use Rattle.manager_node.specs.Beats.{beat_data, data_beat, lane_of}
use Rattle.manager_node.specs.Script.{ScriptItem}
use Rattle.manager_node.specs.declared.script.WriteByte.{WriteByte}
use Rattle.memory_node.proofs.LaneLemmas.{lanes-within}
use Rattle.memory_node.specs.Beats.{answered_byte, answered_lanes}
use Rattle.memory_node.specs.MemoryArea.{MemoryArea}
use Rattle.memory_node.specs.Status.{may_read}
use Rattle.memory_node.specs.Store.{Store, byte_at}
use Rattle.mux_node.specs.MuxTable.{narrowed_b, narrowed_r}
use Rattle.net_ranges.proofs.LaneRanges.{mapped-on_bus, placed-on_bus}
use Rattle.net_ranges.specs.TraceLines.{FitsItsBeats}
use Rattle.subordinate.specs.Service.{Service}
use Rattle.subordinate.specs.SubordinateTable.{answer_to, next_beat}
use Rattle.subordinate.specs.declared.entry.ReadEntry.{ReadEntry}
use Rattle.subordinate.specs.declared.entry.WriteEntry.{WriteEntry}
use Rattle.trace_text.specs.Ranges.{IsOnBus, IsTraceAddress, IsTraceReadData, IsTraceResponse, IsTraceTag, IsTraceWriteData}

-- ---- codes

burst-code : (b : Burst) → burst_code b ≤ 3
burst-code Fixed = omega arith
burst-code Incr = omega arith
burst-code Wrap = omega arith

pub response-code : (r : Resp) → response_code r ≤ 3
response-code Okay = omega arith
response-code SlvErr = omega arith
response-code DecErr = omega arith

-- ---- addresses

-- an address as it is seen on a port
abbrev pub IsAddressInRange : Addr → Type 0
IsAddressInRange a = IsTraceAddress (seen_address a)

-- a burst has at most 256 beats
most-beats : (b : Burst) (beats : ℕ) → is_length_of b beats ≡ true → beats ≤ 256
most-beats Fixed beats is = omega (arith, ltb-true beats 17 is)
most-beats Incr beats is = omega (arith, ltb-true beats 257 is)
most-beats Wrap beats is =
    let j = wrap_length beats is in
    let most = pow-le-pow_right {n = 2} (omega arith) {i = j.0} {j = 4} j.2 in
    omega (arith, j.1, most)

-- a legal request, whatever its ID is
pub record IsPartInRange (bus : ℕ) (a : Addr) : Type 0 where
  pub legal : IsLegal a bus
  pub start : a.addr < 2 ^ 63
  pub tag : IsTraceTag a.tag

pub request-in_range : (a : Addr) (bus : ℕ) → IsBusWidth bus → IsLegal a bus → a.addr < 2 ^ 63 → IsTraceTag a.tag → a.id < 2 ^ 32 → IsAddressInRange a
request-in_range a bus wide legal start tag id =
    let beats = most-beats a.burst (beats_of a) (legal-length a bus legal) in
    let few = bus-most bus wide in
    let size = legal-size a bus legal in
    let exponent : a.size < 8 = exponent_below a.size (omega (arith, few, size)) in
    record { id = id; addr = start; len = omega (arith, beats); size = omega (arith, exponent); burst = burst-code a.burst; tag = tag }

-- ---- write data

-- the bytes of a beat are those of its transaction
lane-bytes : (bytes : List WriteByte) → All (λ (byte : WriteByte). byte.value < 256) bytes → All (λ (value : ℕ). value < 256) (map lane_of bytes)
lane-bytes bytes all =
    All-map (λ (value : ℕ). value < 256) lane_of bytes (All-weaker (λ (byte : WriteByte). byte.value < 256) (λ (byte : WriteByte). lane_of byte < 256)
    (λ byte less. cond_both byte.strobed byte.value 0 (λ (value : ℕ). value < 256) (λ _. less) (λ _. omega arith)) bytes all)

pub data-in_range : (item : ScriptItem) (bus n : ℕ) → IsBusWidth bus → IsLegal item.txn.request bus → FitsItsBeats item → (data_beat item bus n).strobe < 2 ^ bus → IsTraceWriteData bus (data_beat item bus n)
data-in_range item bus n wide legal fits strobe =
    let request = item.txn.request in
    let Is : WriteByte → Type 0 = λ byte. byte.value < 256 in
    let low = first_lane request n bus in
    let sent = beat_data item n in
    let count = beat-count request bus n wide legal in
    let few = bus-most bus wide in
    let long : length sent ≤ length (beat_bytes request n) = omega (arith, length-take (length (beat_bytes request n)) (drop (length (bytes_before request n)) item.bytes)) in
    let lanes = length-map sent lane_of in
    let all : All Is sent = All-take Is (length (beat_bytes request n)) (drop (length (bytes_before request n)) item.bytes) (All-drop Is (length (bytes_before request n)) item.bytes fits.bytes) in
    let on = placed-on_bus low bus (map lane_of sent) (lane-bytes sent all) (omega (arith, lanes, long, count.0, count.3)) few in
    record {
      lanes = subst (λ (rest : ℕ). IsOnBus bus (replicate low 0 ++ (map lane_of sent ++ replicate (128 - low - rest) 0))) lanes on;
      strobe = strobe;
      tag = record { txn = fits.number; low = omega arith; high = omega arith };
    }

-- ---- answers

-- a response, and a beat of read data, as they are seen on a port
abbrev pub IsResponseInRange : BBeat → Type 0
IsResponseInRange b = IsTraceResponse (seen_response b)

abbrev pub IsReadDataInRange : ℕ → RBeat → Type 0
IsReadDataInRange bus r = IsTraceReadData bus (seen_read_beat r)

-- of an input of a mux
pub narrowed-response : (ids : ℕ) (b : BBeat) → IsResponseInRange b → IsResponseInRange (narrowed_b ids b)
narrowed-response ids b is = record { id = omega (arith, is.id, mod-le b.id ids); resp = is.resp; tag = is.tag }

pub narrowed-read_data : (bus ids : ℕ) (r : RBeat) → IsReadDataInRange bus r → IsReadDataInRange bus (narrowed_r ids r)
narrowed-read_data bus ids r is = record { id = omega (arith, is.id, mod-le r.id ids); lanes = is.lanes; resp = is.resp; tag = is.tag }

-- of a subordinate
pub response-in_range : (entry : WriteEntry) → IsAddressInRange entry.request → IsResponseInRange (answer_to entry)
response-in_range entry is = record { id = is.id; resp = response-code entry.worst; tag = is.tag }

module _ {D : Type 0} (service : Service D) (kept : D) (bus : ℕ) where
  pub read_data-in_range : (entry : ReadEntry) → IsAddressInRange entry.request → IsOnBus bus (service.beat_lanes kept entry.request entry.put) → IsReadDataInRange bus (next_beat service kept entry)
  read_data-in_range entry is lanes = record { id = is.id; lanes = lanes; resp = response-code (service.beat_status entry.request entry.put); tag = is.tag }

-- zeros
pub zeros-on_bus : (bus all : ℕ) → all ≡ 128 → IsOnBus bus (replicate all 0)
zeros-on_bus bus all is = record {
  lanes_128 = length-replicate all 0 ∙ is;
  bytes = recursion_from_All (λ (byte : ℕ). byte < 256) (replicate all 0) (All-replicate (λ (byte : ℕ). byte < 256) all 0 (omega arith));
  above = drop-replicate bus all 0 ∙ ap (λ (n : ℕ). replicate (n - bus) 0) is;
}

-- what a memory reads
module _ (area : MemoryArea) (wide : IsBusWidth area.bus) (store : Store) (bytes : (address : ℕ) → IsTrue (may_read area address) → byte_at store address < 256) where
  answered : Addr → ℕ → ℕ → ℕ
  answered request n lane = cond (is_valid request n area.bus lane) (answered_byte area store (lane_address request n area.bus lane)) 0

  answered-byte : (request : Addr) (n lane : ℕ) → answered request n lane < 256
  unfolding answered
  answered-byte request n lane =
      let address = lane_address request n area.bus lane in
      cond_both (is_valid request n area.bus lane) (answered_byte area store address) 0 (λ (byte : ℕ). byte < 256)
      (λ _. cond_both (may_read area address) (byte_at store address) 0 (λ (byte : ℕ). byte < 256) (λ may. bytes address may) (λ _. omega arith)) (λ _. omega arith)

  above-valid : (first end lane : ℕ) (x : ℕ) → end ≤ lane → cond (nat_le first lane && nat_lt lane end) x 0 ≡ 0
  above-valid first end lane x le = ap (λ (b : Bool). cond (nat_le first lane && b) x 0) (le-ltb lane end le) ∙ none (nat_le first lane)
    where
      none : (b : Bool) → cond (b && false) x 0 ≡ 0
      none true = refl
      none false = refl

  answered-above : (request : Addr) (n lane : ℕ) → area.bus ≤ lane → answered request n lane ≡ 0
  unfolding answered
  answered-above request n lane le =
      let within = lanes-within request n area.bus wide in
      above-valid (first_lane request n area.bus) (first_lane request n area.bus + lane_count request n area.bus) lane (answered_byte area store (lane_address request n area.bus lane)) (omega (arith, within.1, le))

  pub read-on_bus : (request : Addr) (n : ℕ) → IsOnBus area.bus (answered_lanes area store request n)
  unfolding answered
  read-on_bus request n = mapped-on_bus (answered request n) area.bus 128 refl (bus-most area.bus wide) (answered-byte request n) (answered-above request n)
