-- The responses of the node where a transaction ends are those by the status of its bytes.
use Rattle.std.proofs.Common.{◌≡◌, ◌<◌, ◌+◌, ◌-◌, ◌++◌, ◌∷◌, [], ℕ, zero, suc, Bool, true, false, cond, List, length, map, refl, sym, ap, ap₂, ◌∙◌, arith}
use Rattle.std.specs.Prelude.{All, zip}
use Rattle.std.specs.List.{AllZip, range_with_len}
use Rattle.std.proofs.lemmas.List.{length-map}
use Rattle.std.proofs.lemmas.List.Elements.{All-head, All-tail}
use Rattle.std.proofs.lemmas.List.FromFn.{length-range_with_len}
use Rattle.axi_beats.specs.Bus.{IsBusWidth}
use Rattle.axi_beats.specs.Lanes.{Span}
use Rattle.axi_beats.specs.Response.{worst_of}
use Rattle.axi_beats.specs.declared.beat.Addr.{Addr}
use Rattle.axi_beats.specs.declared.beat.WBeat.{WBeat}
use Rattle.axi_beats.specs.declared.response.Resp.{Resp}
use Rattle.axi_beats.specs.declared.response.Resp.TheVariants.{DecErr, Okay, SlvErr}
use Rattle.axi_trail.specs.Schedule.{Share}
use Rattle.burst_address.proofs.LaneBytes.{lanes-are_bytes, lanes-on_bus}
use Rattle.burst_address.proofs.Statuses.{data-status, valid-status}
use Rattle.burst_address.specs.Bytes.{Byte, beat_bytes, written_bytes}
use Rattle.burst_address.specs.Formulas.{beat_at, beats_of}
use Rattle.burst_address.specs.Lanes.{first_lane, lane_address, lane_count, valid_lanes, valid_span, word_address}
use Rattle.burst_address.specs.Legal.{IsLegal}
use Rattle.burst_address.specs.Status.{worst_among, worst_of_data, worst_of_valid}
use Rattle.burst_cuts.proofs.CutLemmas.{map-append}
use Rattle.error_node.specs.ErrorTable.{error_service}
use Rattle.memory_node.proofs.BeatLemmas.{one-status, valid-beat}
use Rattle.memory_node.specs.MemoryArea.{IsMemoryArea, MemoryArea}
use Rattle.memory_node.specs.MemoryTable.{memory_service}
use Rattle.memory_node.specs.Status.{read_status, write_status}
use Rattle.net_due.proofs.CarriedBytes.{valid-of}
use Rattle.net_kinds.proofs.StatusLemmas.{wanted-on_full}
use Rattle.net_kinds.specs.NodeCuts.{bytes_of_beat, responses_by, worst_from}
use Rattle.node_shape.specs.LegalSchedule.{IsDataOf}
use Rattle.node_shape.specs.LinkForm.{FitsLink, IsWordRequest, LinkForm, bytes_within, wanted_span}
use Rattle.subordinate.specs.Parts.{BeatOf, beats_of_parts}
use Rattle.subordinate.specs.Service.{worst_of_beats}
use Rattle.subordinate.specs.Tracks.{ends_with}

-- what is said of each beat of each part
module _ {X : Type 0} (f g : BeatOf → X) (P : Addr → Type 0) (each : (a : Addr) (n : ℕ) → P a → f (record { request = a; beat = n }) ≡ g (record { request = a; beat = n })) where
  of-beats : (a : Addr) → P a → (ns : List ℕ) → map f (map (λ n. record { request = a; beat = n }) ns) ≡ map g (map (λ n. record { request = a; beat = n }) ns)
  of-beats a is [] = refl
  of-beats a is (n ∷ ns) = ap₂ (λ (x : X) (xs : List X). x ∷ xs) (each a n is) (of-beats a is ns)

  of-parts : (parts : List Addr) → All P parts → map f (beats_of_parts parts) ≡ map g (beats_of_parts parts)
  of-parts [] all = refl
  of-parts (a ∷ parts) all =
      let own : List BeatOf = map (λ n. record { request = a; beat = n }) (range_with_len 0 (beats_of a)) in
      map-append f own (beats_of_parts parts)
      ∙ ap₂ (λ (xs ys : List X). xs ++ ys) (of-beats a (All-head P a parts all) (range_with_len 0 (beats_of a))) (of-parts parts (All-tail P a parts all))
      ∙ sym (map-append g own (beats_of_parts parts))

-- ---- a memory

module _ (area : MemoryArea) (form : LinkForm) (same : area.bus ≡ form.bus) (width : IsBusWidth form.bus) where
  beats-worst : (a : Addr) (n : ℕ) (ws : List WBeat) → worst_of_beats (memory_service area) a n ws ≡ worst_of_data (write_status area) a n area.bus ws
  beats-worst a n [] = refl
  beats-worst a n (w ∷ ws) = ap (worst_of ((memory_service area).data_status a n w)) (beats-worst a (suc n) ws)

  -- its response to a write is the worst status of what is written
  part-written : (a : Addr) → IsLegal a form.bus → (ws : List WBeat) → IsDataOf form.bus a ws →
      worst_of_beats (memory_service area) a 0 ws ≡ worst_among (map (λ (byte : Byte). write_status area byte.address) (written_bytes form.bus a ws))
  part-written a legal ws is =
      beats-worst a 0 ws ∙ ap (λ (b : ℕ). worst_of_data (write_status area) a 0 b ws) same
      ∙ data-status (write_status area) form.bus a ws width legal (let whole = is.whole in omega (arith, whole)) (valid-of form.bus a ws width legal is)

  memory-writes : (parts : List Addr) (ws : List (List WBeat)) → All (λ (part : Addr). IsLegal part form.bus) parts → AllZip (IsDataOf form.bus) parts ws →
      map (λ (p : Addr × List WBeat). worst_of_beats (memory_service area) p.0 0 p.1) (zip parts ws)
      ≡ map (λ (p : Addr × List WBeat). worst_from Okay (λ (byte : Byte). write_status area byte.address) (written_bytes form.bus p.0 p.1)) (zip parts ws)
  memory-writes [] ws legal all = refl
  memory-writes (a ∷ parts) [] legal all = refl
  memory-writes (a ∷ parts) (w ∷ ws) legal all =
      let L : Addr → Type 0 = λ part. IsLegal part form.bus in
      ap₂ (λ (x : Resp) (xs : List Resp). x ∷ xs) (part-written a (All-head L a parts legal) w all.0) (memory-writes parts ws (All-tail L a parts legal) all.1)

  -- and to a beat of a read that of the beat's bytes
  full-read : form.lite ≡ false → (a : Addr) (n : ℕ) → IsLegal a form.bus → (memory_service area).beat_status a n ≡ worst_from Okay (read_status area) (bytes_of_beat form (record { request = a; beat = n }))
  full-read full a n legal =
      ap (λ (b : ℕ). worst_of_valid (read_status area) a n b) same ∙ valid-status (read_status area) a n form.bus width legal
      ∙ ap (λ (bytes : List ℕ). worst_among (map (read_status area) bytes)) (sym (wanted-on_full form (record { request = a; beat = n }) full width legal))

  -- where some bytes have one status, it is theirs
  one-worst : (status : ℕ → Resp) (one : Resp) (from count : ℕ) → ((k : ℕ) → k < suc count → status (from + k) ≡ one) → worst_among (map status (range_with_len from (suc count))) ≡ one
  one-worst status one from zero each =
      let here : from + 0 ≡ from = omega arith in
      alone (status from) ∙ ap status (sym here) ∙ each 0 (omega arith)
    where
      alone : (r : Resp) → worst_of r Okay ≡ r
      alone Okay = refl
      alone SlvErr = refl
      alone DecErr = refl
  one-worst status one from (suc count) each =
      let here : from + 0 ≡ from = omega arith in
      ap₂ worst_of (ap status (sym here) ∙ each 0 (omega arith))
      (one-worst status one (from + 1) count (λ k less. let next : (from + 1) + k ≡ from + suc k = omega arith in ap status next ∙ each (suc k) (omega (arith, less))))
      ∙ twice one
    where
      twice : (r : Resp) → worst_of r r ≡ r
      twice Okay = refl
      twice SlvErr = refl
      twice DecErr = refl

  -- all bytes of a word have one status, which so is that of the wanted ones
  word-read : IsMemoryArea area → form.lite ≡ true → (a : Addr) (n : ℕ) → IsWordRequest form.bus a → (memory_service area).beat_status a n ≡ worst_from Okay (read_status area) (bytes_of_beat form (record { request = a; beat = n }))
  word-read is lite a n word =
      let low = a.tag.low in
      let high = a.tag.high in
      let status = read_status area in
      let one = read_status area (beat_at a n) in
      let start = word_address a n form.bus in
      let order = word.low in
      let most = word.high in
      let count : high + 1 - low ≡ suc (high - low) = omega (arith, order) in
      let each : (k : ℕ) → k < suc (high - low) → status ((start + low) + k) ≡ one = λ k less.
      let lane : (start + low) + k ≡ start + (low + k) = omega arith in
      let within : low + k < area.bus = omega (arith, less, order, most, same) in
      ap status lane ∙ ap (λ (bus : ℕ). status (word_address a n bus + (low + k))) (sym same)
      ∙ one-status area area.hole is is.hole a n (low + k) within in
      valid-beat area a n is
      ∙ sym (ap (λ (span : Span). worst_among (map status (bytes_within start span))) (span-lite lite a n)
      ∙ ap (λ (m : ℕ). worst_among (map status (range_with_len (start + low) m))) count
      ∙ one-worst status one (start + low) (high - low) each)
    where
      span-lite : form.lite ≡ true → (a : Addr) (n : ℕ) → wanted_span form a n ≡ record { low = a.tag.low; high = a.tag.high }
      span-lite lite a n = ap (λ (b : Bool). cond b (record { low = a.tag.low; high = a.tag.high }) (valid_span a n form.bus)) lite

  abbrev status_of : Bool → ℕ → Resp
  status_of write address = cond write (write_status area address) (read_status area address)

  memory-reads : IsMemoryArea area → (lite : Bool) → form.lite ≡ lite → (share : Share) → FitsLink form false share →
      map (λ (b : BeatOf). (memory_service area).beat_status b.request b.beat) (beats_of_parts share.parts)
      ≡ map (λ (b : BeatOf). worst_from Okay (read_status area) (bytes_of_beat form b)) (beats_of_parts share.parts)
  memory-reads is true protocol share fits = of-parts _ _ (IsWordRequest form.bus) (λ a n word. word-read is protocol a n word) share.parts (fits.words protocol)
  memory-reads is false protocol share fits = of-parts _ _ (λ (a : Addr). IsLegal a form.bus) (λ a n legal. full-read protocol a n legal) share.parts fits.legal

  -- so it is of all its responses, also of those to whole words
  pub memory-ends : IsMemoryArea area → (write : Bool) (share : Share) → FitsLink form write share → ends_with (memory_service area) write share ≡ responses_by Okay (status_of write) form write share
  memory-ends is true share fits = memory-writes share.parts share.write_data fits.legal (fits.write_data refl)
  memory-ends is false share fits = memory-reads is form.lite refl share fits

-- ---- an error subordinate

error-written : (a : Addr) (bus : ℕ) (ws : List WBeat) → IsDataOf bus a ws → worst_of_beats error_service a 0 ws ≡ DecErr
error-written a bus [] is = absurd (let whole = is.whole in omega (arith, whole))
error-written a bus (w ∷ ws) is = refl

error-writes : (form : LinkForm) (parts : List Addr) (ws : List (List WBeat)) → AllZip (IsDataOf form.bus) parts ws →
    map (λ (p : Addr × List WBeat). worst_of_beats error_service p.0 0 p.1) (zip parts ws) ≡ map (λ (p : Addr × List WBeat). DecErr) (zip parts ws)
error-writes form [] ws all = refl
error-writes form (a ∷ parts) [] all = refl
error-writes form (a ∷ parts) (w ∷ ws) all = ap₂ (λ (x : Resp) (xs : List Resp). x ∷ xs) (error-written a form.bus w all.0) (error-writes form parts ws all.1)

abbrev pub refused : ℕ → Resp
refused address = DecErr

-- all that it answers is DECERR
pub error-ends : (form : LinkForm) (write : Bool) (share : Share) → FitsLink form write share → ends_with error_service write share ≡ responses_by DecErr refused form write share
error-ends form true share fits = error-writes form share.parts share.write_data (fits.write_data refl)
error-ends form false share fits = refl

-- the worst status of the bytes of a beat at an error subordinate: a beat has a byte
bytes-some : (bus : ℕ) → IsBusWidth bus → (a : Addr) → IsLegal a bus → (n : ℕ) → 0 < length (beat_bytes a n)
bytes-some bus width a legal n =
    let bounds = lanes-on_bus a n bus width in
    let long = ap (λ (bytes : List ℕ). length bytes) (lanes-are_bytes a n bus width legal) in
    omega (arith, bounds.0, long, length-map (valid_lanes a n bus) (lane_address a n bus), length-range_with_len (first_lane a n bus) (lane_count a n bus))

some-refused : (bytes : List ℕ) → 0 < length bytes → worst_among (map refused bytes) ≡ DecErr
some-refused [] some = absurd (omega (arith, some))
some-refused (byte ∷ bytes) some = refl

pub all-refused : (bus : ℕ) → IsBusWidth bus → (a : Addr) → IsLegal a bus → (n : ℕ) → worst_among (map refused (beat_bytes a n)) ≡ DecErr
all-refused bus width a legal n = some-refused (beat_bytes a n) (bytes-some bus width a legal n)
