-- How transactions end at a memory.
use Rattle.std.proofs.Common.{◌≡◌, ◌<◌, ◌^◌, ℕ, Bool, true, false, List, [], ◌∷◌, ◌++◌, map, Option, Some, None, refl, sym, ◌∙◌, ap, subst, arith}
use Rattle.std.specs.Prelude.{All, Contains, flat_map, unwrap_or}
use Rattle.std.specs.List.{range_with_len}
use Rattle.std.proofs.lemmas.List.{map-append}
use Rattle.std.proofs.lemmas.List.Elements.{All-nil}
use Rattle.std.proofs.lemmas.Simd.{map-map}
use Rattle.axi_beats.specs.Lanes.{Span}
use Rattle.axi_beats.specs.declared.beat.Addr.{Addr}
use Rattle.axi_beats.specs.declared.beat.WBeat.{WBeat}
use Rattle.axi_trail.specs.Schedule.{Share, no_share}
use Rattle.burst_address.specs.Formulas.{beats_of}
use Rattle.burst_address.specs.Lanes.{valid_span}
use Rattle.burst_address.specs.Legal.{IsLegal}
use Rattle.memory_node.specs.Accesses.{beat_span}
use Rattle.memory_node.specs.MemoryArea.{MemoryArea}
use Rattle.memory_node.specs.MemoryState.{IsRequest}
use Rattle.memory_node.specs.MemoryTable.{memory_service}
use Rattle.memory_node.specs.MemoryTrail.{memory_kind}
use Rattle.node_shape.specs.LinkForm.{FitsLink, LinkForm, wanted_lanes}
use Rattle.node_shape.specs.WayLaws.{CutsFit, GoesBelow, HasWay, OriginsFit, WaysSuit}
use Rattle.node_shape.specs.WaysAround.{IsCarried}
use Rattle.node_shape.proofs.OneLinkLemmas.{one-has}
use Rattle.subordinate.specs.Parts.{BeatOf, beats_of_parts}
use Rattle.subordinate.proofs.WayLemmas.{ends-has_way, service-suits}

pub memory-has_way : HasWay memory_kind
memory-has_way s = ends-has_way (memory_service s.area)

pub memory-goes_below : GoesBelow memory_kind
memory-goes_below s share link goes = absurd (cc)

pub memory-origins_fit : OriginsFit memory_kind
memory-origins_fit forms schedules s new sound origin among = absurd (omega (arith, among.1))

pub memory-cuts_fit : CutsFit memory_kind
memory-cuts_fit forms schedules s new sound write link next share among carried goes = absurd (cc)

-- an AXI4 form of this bus
abbrev plain_form : Bool → ℕ → LinkForm
plain_form lite bus = record { lite = lite; bus = bus; id_width = 0; single = false }

abbrev beat_of : Addr → ℕ → BeatOf
beat_of part n = record { request = part; beat = n }

-- the wanted lanes of parts are those of their beats
spans-of : (bus : ℕ) (parts : List Addr) → flat_map (wanted_lanes (plain_form false bus)) parts ≡ map (λ (b : BeatOf). valid_span b.request b.beat bus) (beats_of_parts parts)
spans-of bus [] = refl
spans-of bus (p ∷ parts) =
    let span : BeatOf → Span = λ b. valid_span b.request b.beat bus in
    ap (λ xs. wanted_lanes (plain_form false bus) p ++ xs) (spans-of bus parts)
    ∙ ap (λ xs. xs ++ map span (beats_of_parts parts)) (sym (map-map span (beat_of p) (range_with_len 0 (beats_of p))))
    ∙ sym (map-append span (map (beat_of p) (range_with_len 0 (beats_of p))) (beats_of_parts parts))

module _ (area : MemoryArea) (form : LinkForm) (bus : form.bus ≡ area.bus) (link : ℕ) where
  pub requests : (parts : List Addr) → All (λ (part : Addr). IsLegal part form.bus) parts → All (λ (part : Addr). part.addr < 2 ^ 63) parts → All (IsRequest area.bus) parts
  requests parts legal small = subst (λ (n : ℕ). All (IsRequest n) parts) bus (λ k d lt. record { legal = legal k d lt; small = small k d lt })

  -- what the link carries of a write suits the memory
  pub record WriteSuits (share : Share) : Type 0 where
    pub requests : All (IsRequest area.bus) share.parts
    pub strobes : All (λ (w : WBeat). w.strobe < 2 ^ area.bus) (flat_map (λ beats. beats) share.write_data)

  pub write-suits : (o : Option Share) → ((share : Share) → o ≡ Some share → IsCarried form true link share) → WriteSuits (unwrap_or o no_share)
  write-suits None carried = record { requests = All-nil (IsRequest area.bus); strobes = All-nil (λ (w : WBeat). w.strobe < 2 ^ area.bus) }
  write-suits (Some share) carried =
      let fits : FitsLink form true share = (carried share refl).fits in
      record {
        requests = requests share.parts fits.legal fits.small;
        strobes = subst (λ (n : ℕ). All (λ (w : WBeat). w.strobe < 2 ^ n) (flat_map (λ beats. beats) share.write_data)) bus (fits.strobes refl);
      }

-- and so does what it carries of a read
module _ (area : MemoryArea) (form : LinkForm) (full : form.lite ≡ false) (bus : form.bus ≡ area.bus) (link : ℕ) where
  lanes-whole : (parts : List Addr) → flat_map (wanted_lanes form) parts ≡ map (beat_span area) (beats_of_parts parts)
  lanes-whole parts =
      ap (λ (b : Bool). flat_map (wanted_lanes (plain_form b form.bus)) parts) full
      ∙ ap (λ (n : ℕ). flat_map (wanted_lanes (plain_form false n)) parts) bus
      ∙ spans-of area.bus parts

  record ReadSuits (share : Share) : Type 0 where
    requests : All (IsRequest area.bus) share.parts
    lanes : share.lanes ≡ map (beat_span area) (beats_of_parts share.parts)

  read-suits : (o : Option Share) → ((share : Share) → o ≡ Some share → IsCarried form false link share) → ReadSuits (unwrap_or o no_share)
  read-suits None carried = record { requests = All-nil (IsRequest area.bus); lanes = refl }
  read-suits (Some share) carried =
      let fits : FitsLink form false share = (carried share refl).fits in
      record { requests = requests area form bus link share.parts fits.legal fits.small; lanes = fits.lanes ∙ lanes-whole share.parts }

pub memory-ways_suit : WaysSuit memory_kind
memory-ways_suit forms schedules s new sound ways =
    let u : ℕ = s.inner.upper in
    let among : Contains (u ∷ []) u = one-has u in
    let write : (t : ℕ) → WriteSuits s.area (forms u) sound.bus u ((schedules u).writes t) = λ t.
    subst (λ (x : Share). WriteSuits s.area (forms u) sound.bus u x) (sym (ways.writes_are u t))
    (write-suits s.area (forms u) sound.bus u (ways.carried_writes u t) (λ share is. ways.writes.above u t share among is)) in
    let read : (t : ℕ) → ReadSuits s.area (forms u) sound.full sound.bus u ((schedules u).reads t) = λ t.
    subst (λ (x : Share). ReadSuits s.area (forms u) sound.full sound.bus u x) (sym (ways.reads_are u t))
    (read-suits s.area (forms u) sound.full sound.bus u (ways.carried_reads u t) (λ share is. ways.reads.above u t share among is)) in
    record {
      service = service-suits (memory_service s.area) u forms schedules ways;
      lanes = λ t. (read t).lanes;
      writes = λ t. (write t).requests;
      lines_kept = sound.lines;
      reads = λ t. (read t).requests;
      strobes = λ t. (write t).strobes;
    }
