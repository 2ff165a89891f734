-- Where all beats of a read have come, all its bytes were read, and they are what came.
use Rattle.std.proofs.Common.{◌≡◌, ◌<◌, ◌≤◌, ◌+◌, ◌-◌, ℕ, Bool, true, false, cond, List, [], ◌∷◌, Some, length, map, drop, refl, sym, ◌∙◌, ap, ap₂, subst, inl, inr, arith, length-append}
use Rattle.std.specs.Prelude.{All, flat_map, get_or, slice_get, slice_range}
use Rattle.std.specs.List.{range_with_len}
use Rattle.std.proofs.lemmas.Bool.{cases_Bool}
use Rattle.std.proofs.lemmas.List.{length-drop, length-map, length-take}
use Rattle.std.proofs.lemmas.List.Concat.{flat_map-cons}
use Rattle.std.proofs.lemmas.List.Elements.{All-head, All-map, All-tail}
use Rattle.std.proofs.lemmas.List.FromFn.{length-range_with_len}
use Rattle.axi_beats.specs.Bus.{IsBusWidth}
use Rattle.axi_beats.specs.Lanes.{Span}
use Rattle.axi_beats.specs.declared.beat.Addr.{Addr}
use Rattle.axi_beats.specs.declared.beat.RBeat.{RBeat}
use Rattle.axi_trail.specs.Schedule.{Share, bytes_on}
use Rattle.burst_address.proofs.LaneBytes.{lanes-ordered}
use Rattle.burst_address.proofs.Widths.{width-bounds}
use Rattle.burst_address.specs.Accesses.{answered_bytes}
use Rattle.burst_address.specs.Formulas.{beats_of}
use Rattle.burst_address.specs.Lanes.{valid_span}
use Rattle.burst_address.specs.Legal.{IsLegal}
use Rattle.memory_node.proofs.FillLemmas.{count-reads, count_allowed}
use Rattle.memory_node.proofs.LaneLemmas.{lanes-within}
use Rattle.memory_node.specs.MemoryArea.{MemoryArea}
use Rattle.memory_node.specs.WantedReads.{lanes_of_span, wanted_addresses, wanted_allowed}
use Rattle.net_history.proofs.DueLemmas.{HasLanes}
use Rattle.net_history.proofs.ListLemmas.{All-flat}
use Rattle.node_shape.specs.LinkForm.{FitsLink, IsWordRequest, LinkForm, lanes_wanted, wanted_lanes, wanted_span}
use Rattle.plain_lists.proofs.PlaceLemmas.{at-all}
use Rattle.plain_lists.proofs.PrefixLemmas.{prefix_whole}
use Rattle.plain_lists.specs.Prefixes.{IsPrefix}
use Rattle.subordinate.specs.Parts.{BeatOf, beats_of_parts}

filled-short : (allowed : List Bool) (values : List ℕ) → length (answered_bytes allowed values) ≤ length allowed
filled-short [] values = omega arith
filled-short (false ∷ more) values = omega (arith, filled-short more values)
filled-short (true ∷ more) [] = omega arith
filled-short (true ∷ more) (v ∷ values) = omega (arith, filled-short more values)

filled-all : (allowed : List Bool) (values : List ℕ) → length allowed ≤ length (answered_bytes allowed values) → count_allowed allowed ≤ length values
filled-all [] values le = omega arith
filled-all (false ∷ more) values le = filled-all more values (omega (arith, le))
filled-all (true ∷ more) [] le = absurd (omega (arith, le))
filled-all (true ∷ more) (v ∷ values) le = omega (arith, filled-all more values (omega (arith, le)))

-- ---- the bytes on lanes

-- a span of lanes of the widest bus
abbrev pub IsSpan : Span → Type 0
IsSpan span = (span.low ≤ span.high) × (span.high < 128)

-- beats that stand on as many spans have as many bytes there as lanes are wanted
pub on-long : (spans : List Span) (beats : List RBeat) → All IsSpan spans → All (λ (r : RBeat). length r.lanes ≡ 128) beats → length spans ≤ length beats → length (bytes_on beats spans) ≡ lanes_wanted spans
on-long [] [] within whole le = refl
on-long [] (r ∷ beats) within whole le = refl
on-long (span ∷ spans) [] within whole le = absurd (omega (arith, le))
on-long (span ∷ spans) (r ∷ beats) within whole le =
    let here = All-head IsSpan span spans within in
    let long = All-head (λ (r : RBeat). length r.lanes ≡ 128) r beats whole in
    let one : length (slice_range r.lanes span.low (span.high + 1)) ≡ span.high + 1 - span.low =
    omega (arith, length-take (span.high + 1 - span.low) (drop span.low r.lanes), length-drop span.low r.lanes, long, here.0, here.1) in
    length-append (slice_range r.lanes span.low (span.high + 1)) (bytes_on beats spans)
    ∙ ap₂ (λ (x y : ℕ). x + y) one (on-long spans beats (All-tail IsSpan span spans within) (All-tail (λ (r : RBeat). length r.lanes ≡ 128) r beats whole) (omega (arith, le)))

-- the valid lanes of a beat of a legal burst
pub valid-within : (bus : ℕ) → IsBusWidth bus → (request : Addr) → IsLegal request bus → (beat : ℕ) → IsSpan (valid_span request beat bus)
valid-within bus width request legal beat =
    let bounds = lanes-within request beat bus width in
    let order = lanes-ordered request beat bus width legal in
    (order, omega (arith, bounds.1, bounds.2, order))

-- what a link wants of a transaction stands on lanes of its bus
module _ (form : LinkForm) (write : Bool) (share : Share) (fits : FitsLink form write share) where
  span-within : (k : ℕ) (part : Addr) → slice_get share.parts k ≡ Some part → (beat : ℕ) → IsSpan (wanted_span form part beat)
  span-within k part at beat = elim (cases_Bool form.lite) [
    | inl lite ↦
        let word = at-all (IsWordRequest form.bus) share.parts k part (fits.words lite) at in
        let most = (width-bounds form.bus fits.width).1 in
        subst (λ (b : Bool). IsSpan (cond b (record { low = part.tag.low; high = part.tag.high }) (valid_span part beat form.bus))) (sym lite) (word.low, omega (arith, word.high, most))
    | inr full ↦
        subst (λ (b : Bool). IsSpan (cond b (record { low = part.tag.low; high = part.tag.high }) (valid_span part beat form.bus))) (sym full)
        (valid-within form.bus fits.width part (at-all (λ (a : Addr). IsLegal a form.bus) share.parts k part fits.legal at) beat)
  ]

  pub spans-within : All IsSpan (flat_map (wanted_lanes form) share.parts)
  spans-within =
      All-flat IsSpan (wanted_lanes form) share.parts (λ k part at.
      All-map IsSpan (wanted_span form part) (range_with_len 0 (beats_of part)) (λ i d lt. span-within k part at (get_or (range_with_len 0 (beats_of part)) i d)))

  -- of each of its beats the first one isn't behind the last one
  pub beats-ordered : (wanted : BeatOf → Span) → ((b : BeatOf) → wanted_span form b.request b.beat ≡ wanted b) → All (HasLanes wanted) (beats_of_parts share.parts)
  beats-ordered wanted spans =
      All-flat (HasLanes wanted) (λ part. map (λ n. record { request = part; beat = n }) (range_with_len 0 (beats_of part))) share.parts (λ k part at.
      All-map (HasLanes wanted) (λ n. record { request = part; beat = n }) (range_with_len 0 (beats_of part))
      (λ i d lt.
      let b : BeatOf = record { request = part; beat = get_or (range_with_len 0 (beats_of part)) i d } in
      subst (λ (span : Span). span.low ≤ span.high) (spans b) (span-within k part at b.beat).0))

-- a span for each beat
pub lanes-count : (form : LinkForm) (parts : List Addr) → length (flat_map (wanted_lanes form) parts) ≡ length (beats_of_parts parts)
lanes-count form [] = refl
lanes-count form (part ∷ parts) =
    let beats : Addr → List BeatOf = λ p. map (λ n. record { request = p; beat = n }) (range_with_len 0 (beats_of p)) in
    ap length (flat_map-cons (wanted_lanes form) part parts) ∙ length-append (wanted_lanes form part) (flat_map (wanted_lanes form) parts)
    ∙ ap₂ (λ (x y : ℕ). x + y)
    (length-map (range_with_len 0 (beats_of part)) (wanted_span form part) ∙ sym (length-map (range_with_len 0 (beats_of part)) (λ n. record { request = part; beat = n })))
    (lanes-count form parts)
    ∙ sym (length-append (beats part) (beats_of_parts parts)) ∙ sym (ap length (flat_map-cons beats part parts))

-- at a memory of which these lanes are wanted
module _ (area : MemoryArea) (wanted : BeatOf → Span) where
  allowed-long : (b : BeatOf) → length (wanted_allowed area wanted b) ≡ (wanted b).high - (wanted b).low + 1
  allowed-long b =
      length-map (lanes_of_span (wanted b)) _ ∙ length-range_with_len (wanted b).low ((wanted b).high - (wanted b).low + 1)

  -- it has a byte for each lane that is wanted of it
  pub allowed-lanes : (due : List BeatOf) → All (HasLanes wanted) due → length (flat_map (wanted_allowed area wanted) due) ≡ lanes_wanted (map wanted due)
  allowed-lanes [] order = refl
  allowed-lanes (b ∷ due) order =
      let ordered : (wanted b).low ≤ (wanted b).high = All-head (HasLanes wanted) b due order in
      let one : length (wanted_allowed area wanted b) ≡ (wanted b).high + 1 - (wanted b).low = omega (arith, allowed-long b, ordered) in
      ap length (flat_map-cons (wanted_allowed area wanted) b due) ∙ length-append (wanted_allowed area wanted b) (flat_map (wanted_allowed area wanted) due)
      ∙ ap₂ (λ (m n : ℕ). m + n) one (allowed-lanes due (All-tail (HasLanes wanted) b due order))

  -- as many addresses are read as bytes may be read
  pub reads-counted : (due : List BeatOf) → length (flat_map (wanted_addresses area wanted) due) ≡ count_allowed (flat_map (wanted_allowed area wanted) due)
  reads-counted due = sym (count-reads area wanted due)

  -- bytes that have come, one for each byte at the memory
  pub reads-whole : (due : List BeatOf) (bytes values : List ℕ) → length bytes ≡ length (flat_map (wanted_allowed area wanted) due) → IsPrefix bytes (answered_bytes (flat_map (wanted_allowed area wanted) due) values) →
      (bytes ≡ answered_bytes (flat_map (wanted_allowed area wanted) due) values) × (length (flat_map (wanted_addresses area wanted) due) ≤ length values)
  reads-whole due bytes values long front =
      let allowed = flat_map (wanted_allowed area wanted) due in
      let short = filled-short allowed values in
      let same : answered_bytes allowed values ≡ bytes =
      prefix_whole bytes (answered_bytes allowed values) front (omega (arith, long, short)) in
      let all = filled-all allowed values (omega (arith, long, ap (λ (bytes : List ℕ). length bytes) same)) in
      (sym same, omega (arith, all, reads-counted due))
