-- What a link carries of a transaction, byte by byte, is what its request and its script say.
use Rattle.std.proofs.Common.{◌≡◌, ◌≤◌, ◌+◌, ◌-◌, ◌*◌, ◌/◌, ◌%◌, ◌^◌, ◌==◌, ◌&&◌, inl, inr, ◌∷◌, [], ◌++◌, ℕ, zero, suc, Bool, false, List, Some, None, append-nil, append_assoc, length, length-append, refl, sym, ap, ap₂, ◌∙◌, subst, arith, add-one}
use Rattle.std.specs.Prelude.{All, IsTrue, flat_map, map, nat_le, nat_lt, slice_index, slice_index_or, zip}
use Rattle.std.specs.Int.{bit_at}
use Rattle.std.specs.List.{AllZip, range_with_len}
use Rattle.std.proofs.Math.Nat.{div-mul-le_self, mod-eq-sub-div-mul}
use Rattle.std.proofs.lemmas.Bool.{and_from, and_parts, cases_lt, eqb-true, le-leb, lt-ltb, ltb-true}
use Rattle.std.proofs.lemmas.Nat.Bits.{bit_at_above}
use Rattle.std.proofs.lemmas.List.{length-map, map-append}
use Rattle.std.proofs.lemmas.List.Elements.{All-head, All-tail}
use Rattle.std.proofs.lemmas.List.FromFn.{length-range_with_len}
use Rattle.std.proofs.lemmas.List.Concat.{flat_map-append}
use Rattle.std.proofs.lemmas.Option.{get_or_from_slice_get, slice_get_within}
use Rattle.std.proofs.lemmas.Simd.{map-map}
use Rattle.axi_beats.specs.Bus.{IsBusWidth}
use Rattle.axi_beats.specs.declared.beat.Addr.{Addr}
use Rattle.axi_beats.specs.declared.beat.WBeat.{WBeat}
use Rattle.axi_history.specs.PortRules.{strobes_within}
use Rattle.axi_history.specs.Records.{NamedByte}
use Rattle.axi_trail.specs.LinkContracts.{without_id}
use Rattle.burst_address.proofs.Alone.{burst-alone, written-alone}
use Rattle.burst_address.proofs.LaneBytes.{lanes-ordered}
use Rattle.burst_address.proofs.Strobes.{strobed-are_written}
use Rattle.burst_address.proofs.Written.{written-more, written-past}
use Rattle.burst_address.specs.Bytes.{Byte, beat_written, burst_bytes, bytes_before, bytes_with, written_bytes}
use Rattle.burst_address.specs.Formulas.{beats_of}
use Rattle.burst_address.specs.LaneLaws.{AllStrobeValidLanes, StrobesValidLanes}
use Rattle.burst_address.specs.Lanes.{first_lane, is_valid, last_lane, strobed_lanes, word_address}
use Rattle.burst_address.specs.Legal.{IsLegal}
use Rattle.manager_node.proofs.DataLaws.{data-writes_its_bytes}
use Rattle.manager_node.proofs.StrobeLemmas.{shifted-below}
use Rattle.manager_node.specs.Beats.{data_beats, item_request, strobed_value}
use Rattle.manager_node.specs.BurstLaws.{SendsItsBytes}
use Rattle.manager_node.specs.Script.{ScriptItem}
use Rattle.net_kinds.proofs.GroupStatuses.{zip-append}
use Rattle.net_kinds.proofs.StatusLemmas.{wanted-on_full}
use Rattle.net_history.specs.Due.{byte_named, strobed_of_beat, wanted_of_beat}
use Rattle.node_shape.specs.LegalSchedule.{IsDataOf}
use Rattle.node_shape.specs.LinkForm.{LinkForm, bytes_within, wanted_bytes, wanted_span}
use Rattle.plain_lists.proofs.RangeLemmas.{range-more}
use Rattle.subordinate.specs.Parts.{BeatOf, beats_of_parts}

-- ---- the bytes of a burst on a bus, of which `may` tells which may be accessed

module _ (bus : ℕ) (width : IsBusWidth bus) (a : Addr) (legal : IsLegal a bus) (may : ℕ → Bool) where
  abbrev beat : ℕ → BeatOf
  beat n = record { request = a; beat = n }

  -- a byte that is written
  abbrev pub named : Byte → NamedByte
  named byte = byte_named may (Some byte.value) byte.address

  strobed-named : (n : ℕ) (w : WBeat) → StrobesValidLanes bus a n w → strobed_of_beat bus may (beat n, w) ≡ map named (beat_written bus a n w)
  strobed-named n w valid =
      let on : ℕ → Byte = λ lane. record { address = word_address a n bus + lane; value = slice_index w.lanes lane } in
      sym (map-map named on (strobed_lanes bus w)) ∙ ap (map named) (strobed-are_written bus a n w width legal valid)

  valid-rest : (n : ℕ) (w : WBeat) (ws : List WBeat) → AllStrobeValidLanes bus a n (w ∷ ws) → AllStrobeValidLanes bus a (suc n) ws
  valid-rest n w ws valid k x at = let next : n + suc k ≡ suc n + k = omega arith in subst (λ m. StrobesValidLanes bus a m x) next (valid (suc k) x at)

  -- the bytes of the beats from one on
  abbrev rest_from : ℕ → List WBeat → List NamedByte
  rest_from n ws = flat_map (strobed_of_beat bus may) (zip (map beat (range_with_len n (length ws))) ws)

  named-rest : (front ws : List WBeat) → length front + length ws ≤ beats_of a → AllStrobeValidLanes bus a (length front) ws →
      map named (written_bytes bus a front) ++ rest_from (length front) ws ≡ map named (written_bytes bus a (front ++ ws))
  named-rest front [] few valid = append-nil (map named (written_bytes bus a front)) ∙ ap (λ (ws : List WBeat). map named (written_bytes bus a ws)) (sym (append-nil front))
  named-rest front (w ∷ ws) few valid =
      let before = map named (written_bytes bus a front) in
      let own = beat_written bus a (length front) w in
      let none : length front + 0 ≡ length front = omega arith in
      let one : length front + 1 ≡ length (front ++ w ∷ []) = omega (arith, length-append front (w ∷ [])) in
      let next : suc (length front) ≡ length (front ++ w ∷ []) = omega (arith, length-append front (w ∷ [])) in
      ap (λ (bytes : List NamedByte). before ++ (bytes ++ rest_from (length front + 1) ws))
      (strobed-named (length front) w (subst (λ m. StrobesValidLanes bus a m w) none (valid 0 w refl)))
      ∙ sym (append_assoc before (map named own) (rest_from (length front + 1) ws))
      ∙ ap (λ (bytes : List NamedByte). bytes ++ rest_from (length front + 1) ws)
      (sym (map-append named (written_bytes bus a front) own) ∙ ap (map named) (sym (written-more bus a front w (omega (arith, few)))))
      ∙ ap (λ (n : ℕ). map named (written_bytes bus a (front ++ w ∷ [])) ++ rest_from n ws) one
      ∙ named-rest (front ++ w ∷ []) ws (omega (arith, few, next)) (subst (λ n. AllStrobeValidLanes bus a n ws) next (valid-rest (length front) w ws valid))
      ∙ ap (λ (ws : List WBeat). map named (written_bytes bus a ws)) (append_assoc front (w ∷ []) ws)

  -- what all its data strobes is what it writes
  pub strobed-are : (ws : List WBeat) → length ws ≡ beats_of a → AllStrobeValidLanes bus a 0 ws →
      flat_map (strobed_of_beat bus may) (zip (map beat (range_with_len 0 (beats_of a))) ws) ≡ map named (written_bytes bus a ws)
  strobed-are ws all valid =
      ap (λ (n : ℕ). flat_map (strobed_of_beat bus may) (zip (map beat (range_with_len 0 n)) ws)) (sym all)
      ∙ ap (λ (bytes : List Byte). map named bytes ++ rest_from 0 ws) (sym (written-past (burst_bytes a)))
      ∙ named-rest [] ws (omega (arith, all)) valid

-- ---- strobes

-- strobes from a lane on, and up to another one, stand on these lanes
within-lanes : (low high strobe lane : ℕ) → low ≤ high → IsTrue (strobes_within low high strobe) → bit_at strobe lane ≡ 1 → IsTrue (nat_le low lane && nat_lt lane (low + (high - low + 1)))
within-lanes low high strobe lane order within set =
    let ends = and_parts (strobe % 2 ^ low == 0) (nat_lt strobe (2 ^ (high + 1))) within in
    let from : low ≤ lane = elim (cases_lt lane low) [
      | inl below ↦
          let whole : strobe ≡ strobe / 2 ^ low * 2 ^ low =
          omega (arith, div-mul-le_self strobe (2 ^ low), mod-eq-sub-div-mul strobe (2 ^ low), eqb-true (strobe % 2 ^ low) 0 ends.0) in
          let clear : bit_at strobe lane ≡ 0 = ap (λ (n : ℕ). bit_at n lane) whole ∙ shifted-below (strobe / 2 ^ low) low lane below in
          absurd (omega (arith, set, clear))
      | inr past ↦ past
    ] in
    let to : lane ≤ high = elim (cases_lt high lane) [
      | inl above ↦
          let clear = bit_at_above strobe (high + 1) lane (ltb-true strobe (2 ^ (high + 1)) ends.1) (omega (arith, above)) in
          absurd (omega (arith, set, clear))
      | inr below ↦ below
    ] in
    and_from (nat_le low lane) (nat_lt lane (low + (high - low + 1))) (le-leb low lane from) (lt-ltb lane (low + (high - low + 1)) (omega (arith, to, order)))

-- the data of a burst strobes valid lanes alone
pub valid-of : (bus : ℕ) (a : Addr) (ws : List WBeat) → IsBusWidth bus → IsLegal a bus → IsDataOf bus a ws → AllStrobeValidLanes bus a 0 ws
valid-of bus a ws width legal is k w at lane within strobed =
    let same : k ≡ 0 + k = omega arith in
    let there : slice_index_or ws k w ≡ w = get_or_from_slice_get ws k w w at in
    let strobes = subst (λ (b : WBeat). IsTrue (strobes_within (first_lane a k bus) (last_lane a k bus) b.strobe)) there (is.strobes k w (slice_get_within ws k w at)) in
    subst (λ (n : ℕ). IsTrue (is_valid a n bus lane)) same
    (within-lanes (first_lane a k bus) (last_lane a k bus) w.strobe lane (lanes-ordered a k bus width legal) strobes (eqb-true (bit_at w.strobe lane) 1 strobed))

-- ---- the bytes of what a link carries

module _ (form : LinkForm) (may : ℕ → Bool) where
  -- the wanted bytes of its beats are those of its parts
  wanted-beats : (a : Addr) (ns : List ℕ) →
      flat_map (wanted_of_beat form may) (map (λ n. record { request = a; beat = n }) ns)
      ≡ map (byte_named may None) (flat_map (λ n. bytes_within (word_address a n form.bus) (wanted_span form a n)) ns)
  wanted-beats a [] = refl
  wanted-beats a (n ∷ ns) =
      let bytes : ℕ → List ℕ = λ k. bytes_within (word_address a k form.bus) (wanted_span form a k) in
      ap (λ (more : List NamedByte). map (byte_named may None) (bytes n) ++ more) (wanted-beats a ns) ∙ sym (map-append (byte_named may None) (bytes n) (flat_map bytes ns))

  pub wanted-are : (parts : List Addr) → flat_map (wanted_of_beat form may) (beats_of_parts parts) ≡ map (byte_named may None) (flat_map (wanted_bytes form) parts)
  wanted-are [] = refl
  wanted-are (a ∷ parts) =
      let own : List BeatOf = map (λ n. record { request = a; beat = n }) (range_with_len 0 (beats_of a)) in
      flat_map-append (wanted_of_beat form may) own (beats_of_parts parts)
      ∙ ap₂ (λ (front more : List NamedByte). front ++ more) (wanted-beats a (range_with_len 0 (beats_of a))) (wanted-are parts)
      ∙ sym (map-append (byte_named may None) (wanted_bytes form a) (flat_map (wanted_bytes form) parts))

  -- a byte that is written
  abbrev pub named_byte : Byte → NamedByte
  named_byte byte = byte_named may (Some byte.value) byte.address

  -- and the strobed bytes of its data are those that the parts write
  pub written-are : IsBusWidth form.bus → (parts : List Addr) (ws : List (List WBeat)) → All (λ (part : Addr). IsLegal part form.bus) parts → AllZip (IsDataOf form.bus) parts ws →
      flat_map (strobed_of_beat form.bus may) (zip (beats_of_parts parts) (flat_map (λ beats. beats) ws)) ≡ map named_byte (flat_map (λ (p : Addr × List WBeat). written_bytes form.bus p.0 p.1) (zip parts ws))
  written-are width [] [] legal all = refl
  written-are width [] (w ∷ ws) legal all = absurd all
  written-are width (a ∷ parts) [] legal all = absurd all
  written-are width (a ∷ parts) (w ∷ ws) legal all =
      let L : Addr → Type 0 = λ part. IsLegal part form.bus in
      let own : List BeatOf = map (λ n. record { request = a; beat = n }) (range_with_len 0 (beats_of a)) in
      let more : List WBeat = flat_map (λ beats. beats) ws in
      let many : length own ≡ length w = length-map (range_with_len 0 (beats_of a)) (λ n. record { request = a; beat = n }) ∙ length-range_with_len 0 (beats_of a) ∙ sym all.0.whole in
      let here = All-head L a parts legal in
      ap (flat_map (strobed_of_beat form.bus may)) (zip-append own (beats_of_parts parts) w more many)
      ∙ flat_map-append (strobed_of_beat form.bus may) (zip own w) (zip (beats_of_parts parts) more)
      ∙ ap₂ (λ (front rest : List NamedByte). front ++ rest) (strobed-are form.bus width a here may w all.0.whole (valid-of form.bus a w width here all.0)) (written-are width parts ws (All-tail L a parts legal) all.1)
      ∙ sym (map-append named_byte (written_bytes form.bus a w) (flat_map (λ (p : Addr × List WBeat). written_bytes form.bus p.0 p.1) (zip parts ws)))

-- the wanted bytes of a burst on an AXI4 link are its bytes
module _ (form : LinkForm) (full : form.lite ≡ false) (width : IsBusWidth form.bus) (a : Addr) (legal : IsLegal a form.bus) where
  first-wanted : (count : ℕ) → flat_map (λ n. bytes_within (word_address a n form.bus) (wanted_span form a n)) (range_with_len 0 count) ≡ bytes_before a count
  first-wanted zero = refl
  first-wanted (suc k) =
      let bytes : ℕ → List ℕ = λ n. bytes_within (word_address a n form.bus) (wanted_span form a n) in
      let here : 0 + k ≡ k = omega arith in
      ap (λ n. flat_map bytes (range_with_len 0 n)) (sym (add-one k))
      ∙ ap (flat_map bytes) (range-more 0 k)
      ∙ flat_map-append bytes (range_with_len 0 k) ((0 + k) ∷ [])
      ∙ ap₂ (λ (front own : List ℕ). front ++ own) (first-wanted k)
      (append-nil (bytes (0 + k)) ∙ ap bytes here ∙ wanted-on_full form (record { request = a; beat = k }) full width legal)

  pub burst-wanted : wanted_bytes form a ≡ burst_bytes a
  burst-wanted = first-wanted (beats_of a)

-- ---- the data of a write

-- the one part of a transaction
abbrev pub part_of : ScriptItem → Addr
part_of item = without_id (item_request item)

module _ (bus : ℕ) (item : ScriptItem) (sends : SendsItsBytes bus item) where
  -- what they write is what the script strobes
  pub data-written : written_bytes bus (part_of item) (data_beats item bus) ≡ bytes_with (burst_bytes item.txn.request) (map strobed_value item.bytes)
  data-written = written-alone bus item.txn.request (part_of item).id (part_of item).tag (data_beats item bus) ∙ data-writes_its_bytes item bus sends

pub part-bytes : (item : ScriptItem) → burst_bytes (part_of item) ≡ burst_bytes item.txn.request
part-bytes item = burst-alone item.txn.request (part_of item).id (part_of item).tag
