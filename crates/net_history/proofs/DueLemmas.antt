-- What is due of a transaction at a memory, as its beats access it.
use Rattle.std.proofs.Common.{◌≡◌, ◌≤◌, ◌+◌, ◌-◌, [], ◌∷◌, ◌++◌, ℕ, zero, suc, Bool, true, false, List, Option, Some, None, refl, sym, ap, ap₂, ◌∙◌, arith}
use Rattle.std.specs.Prelude.{All, filter, flat_map, map, slice_index}
use Rattle.std.specs.List.{range_with_len}
use Rattle.std.proofs.lemmas.List.{map-append}
use Rattle.std.proofs.lemmas.List.Concat.{flat_map-cons}
use Rattle.std.proofs.lemmas.List.Elements.{All-head, All-tail, filter-append}
use Rattle.std.proofs.lemmas.Simd.{map-map}
use Rattle.axi_beats.specs.Lanes.{Span}
use Rattle.axi_beats.specs.declared.beat.WBeat.{WBeat}
use Rattle.axi_history.specs.Delivered.{access_due}
use Rattle.axi_history.specs.Records.{NamedByte}
use Rattle.axi_trail.specs.Schedule.{Share}
use Rattle.burst_address.specs.Bytes.{Byte}
use Rattle.burst_address.specs.Lanes.{lane_address, strobed_lanes, word_address}
use Rattle.memory_node.specs.Beats.{stored_bytes}
use Rattle.memory_node.specs.MemoryArea.{MemoryArea}
use Rattle.memory_node.specs.Status.{may_read, may_write}
use Rattle.memory_node.specs.WantedReads.{lanes_of_span, lanes_read, wanted_addresses, wanted_allowed}
use Rattle.net_history.proofs.ShownLemmas.{shown_read, shown_write}
use Rattle.net_history.specs.Due.{byte_named, bytes_carried, strobed_of_beat, wanted_of_beat}
use Rattle.node_shape.specs.LinkForm.{LinkForm, bytes_within, wanted_span}
use Rattle.plain_lists.proofs.KeyLemmas.{filter_map}
use Rattle.subordinate.specs.Parts.{BeatOf, beats_of_parts, beats_with_data}

abbrev pub is_allowed : NamedByte → Bool
is_allowed b = b.allowed

-- the bytes of a list of beats, of which some are allowed and shown
module _ {X Y : Type 0} (named : X → List NamedByte) (done : X → List Y) (shown : Y → ℕ × Option ℕ)
    (each : (x : X) → map access_due (filter is_allowed (named x)) ≡ map shown (done x)) where
  all-beats : (xs : List X) → map access_due (filter is_allowed (flat_map named xs)) ≡ map shown (flat_map done xs)
  all-beats [] = refl
  all-beats (x ∷ xs) =
      ap (λ (bytes : List NamedByte). map access_due (filter is_allowed bytes)) (flat_map-cons named x xs)
      ∙ ap (map access_due) (filter-append is_allowed (named x) (flat_map named xs))
      ∙ map-append access_due (filter is_allowed (named x)) (filter is_allowed (flat_map named xs))
      ∙ ap₂ (λ (front back : List (ℕ × Option ℕ)). front ++ back) (each x) (all-beats xs)
      ∙ sym (map-append shown (done x) (flat_map done xs))
      ∙ sym (ap (map shown) (flat_map-cons done x xs))

-- ---- writes

module _ (area : MemoryArea) where
  strobed-beat : (b : BeatOf × WBeat) → map access_due (filter is_allowed (strobed_of_beat area.bus (may_write area) b)) ≡ map shown_write (stored_bytes area b.0.request b.0.beat b.1)
  strobed-beat b =
      let name : ℕ → NamedByte = λ lane. byte_named (may_write area) (Some (slice_index b.1.lanes lane)) (lane_address b.0.request b.0.beat area.bus lane) in
      let byte : ℕ → Byte = λ lane. record { address = word_address b.0.request b.0.beat area.bus + lane; value = slice_index b.1.lanes lane } in
      let lanes = filter (λ lane. may_write area (lane_address b.0.request b.0.beat area.bus lane)) (strobed_lanes area.bus b.1) in
      ap (map access_due) (filter_map is_allowed name (strobed_lanes area.bus b.1)) ∙ map-map access_due name lanes ∙ sym (map-map shown_write byte lanes)

  pub writes-due : (bs : List (BeatOf × WBeat)) →
      map access_due (filter is_allowed (flat_map (strobed_of_beat area.bus (may_write area)) bs)) ≡ map shown_write (flat_map (λ (b : BeatOf × WBeat). stored_bytes area b.0.request b.0.beat b.1) bs)
  writes-due bs = all-beats (strobed_of_beat area.bus (may_write area)) (λ (b : BeatOf × WBeat). stored_bytes area b.0.request b.0.beat b.1) shown_write strobed-beat bs

-- ---- reads

shifted : (word a n : ℕ) → range_with_len (word + a) n ≡ map (λ k. word + k) (range_with_len a n)
shifted word a zero = refl
shifted word a (suc n) =
    let next : (word + a) + 1 ≡ word + (a + 1) = omega arith in
    ap (λ (rest : List ℕ). (word + a) ∷ rest) (ap (λ (from : ℕ). range_with_len from n) next ∙ shifted word (a + 1) n)

-- the wanted lanes of a beat are in order
abbrev pub HasLanes : (BeatOf → Span) → BeatOf → Type 0
HasLanes wanted b = (wanted b).low ≤ (wanted b).high

-- at a memory of which these lanes are wanted
module _ (area : MemoryArea) (wanted : BeatOf → Span) (form : LinkForm) (spans : (b : BeatOf) → wanted_span form b.request b.beat ≡ wanted b) (same : form.bus ≡ area.bus) where
  abbrev name : BeatOf → ℕ → NamedByte
  name b lane = byte_named (may_read area) None (lane_address b.request b.beat area.bus lane)

  wanted-is : (b : BeatOf) → HasLanes wanted b → wanted_of_beat form (may_read area) b ≡ map (name b) (lanes_of_span (wanted b))
  wanted-is b order =
      let word = word_address b.request b.beat area.bus in
      let first = (wanted b).low in
      let last = (wanted b).high in
      let count : last + 1 - first ≡ last - first + 1 = omega (arith, order) in
      ap (λ (span : Span). map (byte_named (may_read area) None) (bytes_within (word_address b.request b.beat form.bus) span)) (spans b)
      ∙ ap (λ (bus : ℕ). map (byte_named (may_read area) None) (bytes_within (word_address b.request b.beat bus) (wanted b))) same
      ∙ ap (λ (n : ℕ). map (byte_named (may_read area) None) (range_with_len (word + first) n)) count
      ∙ ap (map (byte_named (may_read area) None)) (shifted word first (last - first + 1))
      ∙ map-map (byte_named (may_read area) None) (λ k. word + k) (range_with_len first (last - first + 1))

  wanted-beat : (b : BeatOf) → HasLanes wanted b → map access_due (filter is_allowed (wanted_of_beat form (may_read area) b)) ≡ map shown_read (wanted_addresses area wanted b)
  wanted-beat b order =
      let lanes = lanes_read area wanted b in
      ap (λ (bytes : List NamedByte). map access_due (filter is_allowed bytes)) (wanted-is b order)
      ∙ ap (map access_due) (filter_map is_allowed (name b) (lanes_of_span (wanted b))) ∙ map-map access_due (name b) lanes
      ∙ sym (map-map shown_read (λ lane. lane_address b.request b.beat area.bus lane) lanes)

  allowed-beat : (b : BeatOf) → HasLanes wanted b → map is_allowed (wanted_of_beat form (may_read area) b) ≡ wanted_allowed area wanted b
  allowed-beat b order = ap (map is_allowed) (wanted-is b order) ∙ map-map is_allowed (name b) (lanes_of_span (wanted b))

  pub reads-due : (bs : List BeatOf) → All (HasLanes wanted) bs →
      map access_due (filter is_allowed (flat_map (wanted_of_beat form (may_read area)) bs)) ≡ map shown_read (flat_map (wanted_addresses area wanted) bs)
  reads-due [] order = refl
  reads-due (b ∷ bs) order =
      let named = wanted_of_beat form (may_read area) in
      ap (λ (bytes : List NamedByte). map access_due (filter is_allowed bytes)) (flat_map-cons named b bs)
      ∙ ap (map access_due) (filter-append is_allowed (named b) (flat_map named bs))
      ∙ map-append access_due (filter is_allowed (named b)) (filter is_allowed (flat_map named bs))
      ∙ ap₂ (λ (front back : List (ℕ × Option ℕ)). front ++ back) (wanted-beat b (All-head (HasLanes wanted) b bs order)) (reads-due bs (All-tail (HasLanes wanted) b bs order))
      ∙ sym (map-append shown_read (wanted_addresses area wanted b) (flat_map (wanted_addresses area wanted) bs))
      ∙ sym (ap (map shown_read) (flat_map-cons (wanted_addresses area wanted) b bs))

  pub reads-allowed : (bs : List BeatOf) → All (HasLanes wanted) bs → map is_allowed (flat_map (wanted_of_beat form (may_read area)) bs) ≡ flat_map (wanted_allowed area wanted) bs
  reads-allowed [] order = refl
  reads-allowed (b ∷ bs) order =
      let named = wanted_of_beat form (may_read area) in
      ap (map is_allowed) (flat_map-cons named b bs) ∙ map-append is_allowed (named b) (flat_map named bs)
      ∙ ap₂ (λ (front back : List Bool). front ++ back) (allowed-beat b (All-head (HasLanes wanted) b bs order)) (reads-allowed bs (All-tail (HasLanes wanted) b bs order))
      ∙ sym (flat_map-cons (wanted_allowed area wanted) b bs)

-- where nothing may be accessed, nothing is due
pub none-allowed : (form : LinkForm) (write : Bool) (share : Share) → filter is_allowed (bytes_carried form (λ address. false) write share) ≡ []
none-allowed form true share = none-of (strobed_of_beat form.bus (λ address. false)) (λ b. none-named (λ lane. Some (slice_index b.1.lanes lane)) (λ lane. lane_address b.0.request b.0.beat form.bus lane) (strobed_lanes form.bus b.1)) (beats_with_data share)
  where
    none-named : (value : ℕ → Option ℕ) (address : ℕ → ℕ) (lanes : List ℕ) → filter is_allowed (map (λ lane. byte_named (λ address. false) (value lane) (address lane)) lanes) ≡ []
    none-named value address [] = refl
    none-named value address (lane ∷ lanes) = none-named value address lanes

    none-of : (named : BeatOf × WBeat → List NamedByte) → ((b : BeatOf × WBeat) → filter is_allowed (named b) ≡ []) → (bs : List (BeatOf × WBeat)) → filter is_allowed (flat_map named bs) ≡ []
    none-of named each [] = refl
    none-of named each (b ∷ bs) =
        ap (filter is_allowed) (flat_map-cons named b bs) ∙ filter-append is_allowed (named b) (flat_map named bs)
        ∙ ap₂ (λ (front back : List NamedByte). front ++ back) (each b) (none-of named each bs)
none-allowed form false share = none-of (wanted_of_beat form (λ address. false)) (λ b. none-named (bytes_within (word_address b.request b.beat form.bus) (wanted_span form b.request b.beat))) (beats_of_parts share.parts)
  where
    none-named : (addresses : List ℕ) → filter is_allowed (map (byte_named (λ address. false) None) addresses) ≡ []
    none-named [] = refl
    none-named (address ∷ addresses) = none-named addresses

    none-of : (named : BeatOf → List NamedByte) → ((b : BeatOf) → filter is_allowed (named b) ≡ []) → (bs : List BeatOf) → filter is_allowed (flat_map named bs) ≡ []
    none-of named each [] = refl
    none-of named each (b ∷ bs) =
        ap (filter is_allowed) (flat_map-cons named b bs) ∙ filter-append is_allowed (named b) (flat_map named bs)
        ∙ ap₂ (λ (front back : List NamedByte). front ++ back) (each b) (none-of named each bs)
