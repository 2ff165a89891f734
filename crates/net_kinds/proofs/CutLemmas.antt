-- What nodes make of transactions that they cut: some part goes on, and no more responses come back than there are parts and
-- beats.
use Rattle.std.proofs.Common.{◌≡◌, ◌<◌, ◌≤◌, ◌+◌, ◌++◌, ℕ, zero, suc, Bool, true, false, List, [], ◌∷◌, length, map, refl, sym, ◌∙◌, ap, ap₂, inl, inr, arith, length-append}
use Rattle.std.specs.Prelude.{drop, zip}
use Rattle.std.specs.List.{range_with_len}
use Rattle.std.proofs.lemmas.Bool.{cases_lt}
use Rattle.std.proofs.lemmas.List.{length-map}
use Rattle.std.proofs.lemmas.List.Concat.{flat_map-append}
use Rattle.std.proofs.lemmas.List.FromFn.{length-range_with_len}
use Rattle.std.proofs.lemmas.Slice.Zip.{length-zip}
use Rattle.axi_beats.specs.declared.beat.Addr.{Addr}
use Rattle.axi_beats.specs.declared.beat.WBeat.{WBeat}
use Rattle.axi_beats.specs.declared.response.Resp.{Resp}
use Rattle.axi_trail.specs.Schedule.{Share}
use Rattle.burst_address.specs.Formulas.{beats_of}
use Rattle.burst_cuts.proofs.CutLemmas.{map-append}
use Rattle.burst_cuts.proofs.GroupLemmas.{groups-none, groups-whole}
use Rattle.burst_cuts.proofs.ShownLemmas.{cut_all}
use Rattle.burst_cuts.specs.Parts.{len_of_burst, part_of, parts_of, worst_of_groups}
use Rattle.error_node.specs.ErrorTable.{error_service}
use Rattle.lite_node.specs.LiteTable.{word_request}
use Rattle.memory_node.specs.MemoryTable.{memory_service}
use Rattle.net_kinds.specs.NodeCuts.{FewResponsesEnd, FewResponsesMerge, SomePartGoesOn, most_responses}
use Rattle.net_kinds.specs.NodeKind.{KindName, StateOf, kind_by_name}
use Rattle.net_kinds.specs.NodeKind.KindName.{ADemux, ALite, ALiteMemory, AManager, AMemory, AMux, ARemap, ASlice, ASplit, AnError, AnUp}
use Rattle.subordinate.specs.Parts.{BeatOf, beats_of_parts}
use Rattle.subordinate.specs.Service.{Service, worst_of_beats}
use Rattle.subordinate.specs.Tracks.{ends_with}

-- ---- the beats of parts

abbrev beats_in : Addr → List BeatOf
beats_in a = map (λ n. record { request = a; beat = n }) (range_with_len 0 (beats_of a))

-- what is said of each beat of a burst is said of the one beat of each part
module _ {X : Type 0} (f : BeatOf → X) (same : (a : Addr) (n : ℕ) → f (record { request = part_of a n; beat = 0 }) ≡ f (record { request = a; beat = n })) where
  beats-range : (a : Addr) (from n : ℕ) → map f (beats_of_parts (map (part_of a) (range_with_len from n))) ≡ map f (map (λ k. record { request = a; beat = k }) (range_with_len from n))
  beats-range a from zero = refl
  beats-range a from (suc n) = ap₂ (λ (x : X) (xs : List X). x ∷ xs) (same a from) (beats-range a (from + 1) n)

  pub beats-cut : (parts : List Addr) → map f (beats_of_parts (cut_all parts)) ≡ map f (beats_of_parts parts)
  beats-cut [] = refl
  beats-cut (a ∷ parts) =
      let beats : Addr → List BeatOf = λ p. map (λ n. record { request = p; beat = n }) (range_with_len 0 (beats_of p)) in
      let all : suc a.len ≡ beats_of a = omega arith in
      ap (map f) (flat_map-append beats (parts_of a) (cut_all parts))
      ∙ map-append f (beats_of_parts (parts_of a)) (beats_of_parts (cut_all parts))
      ∙ ap₂ (λ (xs ys : List X). xs ++ ys)
      (beats-range a 0 (suc a.len) ∙ ap (λ (n : ℕ). map f (map (λ k. record { request = a; beat = k }) (range_with_len 0 n))) all) (beats-cut parts)
      ∙ sym (map-append f (beats a) (beats_of_parts parts))

-- so parts have as many beats as their bursts
pub many-beats : (parts : List Addr) → length (beats_of_parts (cut_all parts)) ≡ length (beats_of_parts parts)
many-beats parts =
    let one : BeatOf → ℕ = λ b. 0 in
    sym (length-map (beats_of_parts (cut_all parts)) one) ∙ ap length (beats-cut one (λ a n. refl) parts) ∙ length-map (beats_of_parts parts) one

-- ---- some part goes on

some-cut : (parts : List Addr) → 0 < length parts → 0 < length (cut_all parts)
some-cut [] some = absurd (omega (arith, some))
some-cut (a ∷ parts) some = omega (arith, length-append (parts_of a) (cut_all parts))

some-by : (name : KindName) (s : StateOf name) (share : Share) → 0 < length share.parts → 0 < length (((kind_by_name name).way s).cut share).parts
some-by ASlice s share some = some
some-by AMemory s share some = some
some-by AManager s share some = some
some-by AMux s share some = some
some-by AnError s share some = some
some-by ADemux s share some = some
some-by ARemap s share some = some
some-by AnUp s share some = some
some-by ASplit s share some = some-cut share.parts some
some-by ALite s share some = omega (arith, some, length-map share.parts (word_request s.shape.bus))
some-by ALiteMemory s share some = some

pub some-part_goes_on : SomePartGoesOn
some-part_goes_on s share some = some-by s.kind s.state share some

-- ---- responses are few

groups-few : (lens : List ℕ) (rs : List Resp) → length (worst_of_groups lens rs) ≤ length lens
groups-few [] rs = omega arith
groups-few (len ∷ lens) rs = elim (cases_lt len (length rs)) [
  | inl lt ↦ omega (arith, ap length (groups-whole len lens rs lt), groups-few lens (drop (suc len) rs))
  | inr none ↦ omega (arith, ap length (groups-none len lens rs none))
]

service-few : {D : Type 0} (service : Service D) (write : Bool) (share : Share) → length (ends_with service write share) ≤ most_responses write share
service-few service true share =
    let answer : Addr × List WBeat → Resp = λ p. worst_of_beats service p.0 0 p.1 in
    omega (arith, length-map (zip share.parts share.write_data) answer, length-zip share.parts share.write_data)
service-few service false share =
    let status : BeatOf → Resp = λ b. service.beat_status b.request b.beat in
    omega (arith, length-map (beats_of_parts share.parts) status)

end-by : (name : KindName) (s : StateOf name) (write : Bool) (share : Share) → length (((kind_by_name name).way s).ends write share) ≤ most_responses write share
end-by ASlice s write share = omega arith
end-by AMemory s write share = service-few (memory_service s.area) write share
end-by AManager s write share = omega arith
end-by AMux s write share = omega arith
end-by AnError s write share = service-few error_service write share
end-by ADemux s write share = omega arith
end-by ARemap s write share = omega arith
end-by AnUp s write share = omega arith
end-by ASplit s write share = omega arith
end-by ALite s write share = omega arith
end-by ALiteMemory s write share = service-few (memory_service s.area) write share

pub few-responses_end : FewResponsesEnd
few-responses_end s write share = end-by s.kind s.state write share

-- as many beats come up as parts of them go down, and to each burst of a write one response
merge-split : (s : StateOf ASplit) (write : Bool) (share : Share) (below : List Resp) → length below ≤ most_responses write (((kind_by_name ASplit).way s).cut share) →
    length (((kind_by_name ASplit).way s).merged write share below) ≤ most_responses write share
merge-split s true share below few = omega (arith, groups-few (map len_of_burst share.parts) below, length-map share.parts len_of_burst)
merge-split s false share below few = omega (arith, few, many-beats share.parts)

words-many : (bus : ℕ) (parts : List Addr) → length (beats_of_parts (map (word_request bus) parts)) ≤ length (beats_of_parts parts)
words-many bus [] = omega arith
words-many bus (a ∷ parts) =
    let own : List BeatOf = beats_in a in
    let count : length own ≡ suc a.len = length-map (range_with_len 0 (beats_of a)) (λ n. record { request = a; beat = n }) ∙ length-range_with_len 0 (beats_of a) ∙ omega arith in
    omega (arith, words-many bus parts, count, length-append own (beats_of_parts parts))

merge-lite : (s : StateOf ALite) (write : Bool) (share : Share) (below : List Resp) → length below ≤ most_responses write (((kind_by_name ALite).way s).cut share) →
    length (((kind_by_name ALite).way s).merged write share below) ≤ most_responses write share
merge-lite s true share below few = omega (arith, few, length-map share.parts (word_request s.shape.bus))
merge-lite s false share below few = omega (arith, few, words-many s.shape.bus share.parts)

merge-by : (name : KindName) (s : StateOf name) (write : Bool) (share : Share) (below : List Resp) → length below ≤ most_responses write (((kind_by_name name).way s).cut share) →
    length (((kind_by_name name).way s).merged write share below) ≤ most_responses write share
merge-by ASlice s write share below few = few
merge-by AMemory s write share below few = few
merge-by AManager s write share below few = few
merge-by AMux s write share below few = few
merge-by AnError s write share below few = few
merge-by ADemux s write share below few = few
merge-by ARemap s write share below few = few
merge-by AnUp s write share below few = few
merge-by ASplit s write share below few = merge-split s write share below few
merge-by ALite s write share below few = merge-lite s write share below few
merge-by ALiteMemory s write share below few = few

pub few-responses_merge : FewResponsesMerge
few-responses_merge s write share below few = merge-by s.kind s.state write share below few
