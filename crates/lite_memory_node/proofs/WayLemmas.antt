-- How transactions end at a Lite memory.
use Rattle.std.proofs.Common.{◌≡◌, ℕ, Bool, true, false, List, [], ◌∷◌, ◌++◌, map, Option, Some, None, refl, sym, ◌∙◌, ap, subst, arith}
use Rattle.std.specs.Prelude.{All, Contains, flat_map, unwrap_or}
use Rattle.std.specs.List.{range_with_len}
use Rattle.std.proofs.lemmas.List.{map-append}
use Rattle.std.proofs.lemmas.List.Elements.{All-nil}
use Rattle.std.proofs.lemmas.Simd.{map-map}
use Rattle.axi_beats.specs.declared.beat.Addr.{Addr}
use Rattle.axi_trail.specs.Schedule.{Share, no_share}
use Rattle.burst_address.specs.Formulas.{beats_of}
use Rattle.lite_memory_node.specs.LiteMemoryTable.{tag_span}
use Rattle.lite_memory_node.specs.LiteMemoryTrail.{lite_memory_kind}
use Rattle.memory_node.specs.MemoryArea.{MemoryArea}
use Rattle.memory_node.specs.MemoryState.{IsRequest}
use Rattle.memory_node.specs.MemoryTable.{memory_service}
use Rattle.memory_node.proofs.WayLemmas.{WriteSuits, requests, write-suits}
use Rattle.node_shape.specs.LinkForm.{FitsLink, IsSingle, IsWordRequest, LinkForm, wanted_lanes}
use Rattle.node_shape.specs.WayLaws.{CutsFit, GoesBelow, HasWay, OriginsFit, WaysSuit}
use Rattle.node_shape.specs.WaysAround.{IsCarried}
use Rattle.node_shape.proofs.OneLinkLemmas.{one-has}
use Rattle.subordinate.specs.Parts.{BeatOf, beats_of_parts}
use Rattle.subordinate.proofs.WayLemmas.{ends-has_way, service-suits}

pub lite_memory-has_way : HasWay lite_memory_kind
lite_memory-has_way s = ends-has_way (memory_service s.area)

pub lite_memory-goes_below : GoesBelow lite_memory_kind
lite_memory-goes_below s share link goes = absurd (cc)

pub lite_memory-origins_fit : OriginsFit lite_memory_kind
lite_memory-origins_fit forms schedules s new sound origin among = absurd (omega (arith, among.1))

pub lite_memory-cuts_fit : CutsFit lite_memory_kind
lite_memory-cuts_fit forms schedules s new sound write link next share among carried goes = absurd (cc)

-- an AXI4-Lite form of this bus
abbrev lite_form : Bool → ℕ → LinkForm
lite_form lite bus = record { lite = lite; bus = bus; id_width = 0; single = true }

abbrev beat_of : Addr → ℕ → BeatOf
beat_of part n = record { request = part; beat = n }

-- the wanted lanes of parts are those that the tags of their beats name
spans-of : (bus : ℕ) (parts : List Addr) → flat_map (wanted_lanes (lite_form true bus)) parts ≡ map tag_span (beats_of_parts parts)
spans-of bus [] = refl
spans-of bus (p ∷ parts) =
    ap (λ xs. wanted_lanes (lite_form true bus) p ++ xs) (spans-of bus parts)
    ∙ ap (λ xs. xs ++ map tag_span (beats_of_parts parts)) (sym (map-map tag_span (beat_of p) (range_with_len 0 (beats_of p))))
    ∙ sym (map-append tag_span (map (beat_of p) (range_with_len 0 (beats_of p))) (beats_of_parts parts))

module _ (area : MemoryArea) (form : LinkForm) (lite : form.lite ≡ true) (alone : form.single ≡ true) (bus : form.bus ≡ area.bus) (link : ℕ) where
  lanes-named : (parts : List Addr) → flat_map (wanted_lanes form) parts ≡ map tag_span (beats_of_parts parts)
  lanes-named parts = ap (λ (b : Bool). flat_map (wanted_lanes (lite_form b form.bus)) parts) lite ∙ spans-of form.bus parts

  -- what the link carries of a read suits the memory
  record ReadSuits (share : Share) : Type 0 where
    requests : All (IsRequest area.bus) share.parts
    lanes : share.lanes ≡ map tag_span (beats_of_parts share.parts)
    words : All (IsWordRequest area.bus) share.parts
    single : All IsSingle share.parts

  read-suits : (o : Option Share) → ((share : Share) → o ≡ Some share → IsCarried form false link share) → ReadSuits (unwrap_or o no_share)
  read-suits None carried = record { requests = All-nil (IsRequest area.bus); lanes = refl; words = All-nil (IsWordRequest area.bus); single = All-nil IsSingle }
  read-suits (Some share) carried =
      let fits : FitsLink form false share = (carried share refl).fits in
      record {
        requests = requests area form bus link share.parts fits.legal fits.small;
        lanes = fits.lanes ∙ lanes-named share.parts;
        words = subst (λ (n : ℕ). All (IsWordRequest n) share.parts) bus (fits.words lite);
        single = fits.single alone;
      }

pub lite_memory-ways_suit : WaysSuit lite_memory_kind
lite_memory-ways_suit forms schedules s new sound ways =
    let u : ℕ = s.inner.upper in
    let among : Contains (u ∷ []) u = one-has u in
    let write : (t : ℕ) → WriteSuits s.area (forms u) sound.bus u ((schedules u).writes t) = λ t.
    subst (λ (x : Share). WriteSuits s.area (forms u) sound.bus u x) (sym (ways.writes_are u t))
    (write-suits s.area (forms u) sound.bus u (ways.carried_writes u t) (λ share is. ways.writes.above u t share among is)) in
    let read : (t : ℕ) → ReadSuits s.area (forms u) sound.lite sound.single sound.bus u ((schedules u).reads t) = λ t.
    subst (λ (x : Share). ReadSuits s.area (forms u) sound.lite sound.single sound.bus u x) (sym (ways.reads_are u t))
    (read-suits s.area (forms u) sound.lite sound.single sound.bus u (ways.carried_reads u t) (λ share is. ways.reads.above u t share among is)) in
    record {
      service = service-suits (memory_service s.area) u forms schedules ways;
      lanes = λ t. (read t).lanes;
      words = λ t. (read t).words;
      single = λ t. (read t).single;
      writes = λ t. (write t).requests;
      lines_kept = sound.lines;
      reads = λ t. (read t).requests;
      strobes = λ t. (write t).strobes;
    }
