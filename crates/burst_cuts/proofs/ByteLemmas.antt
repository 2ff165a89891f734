-- The parts of a burst have its bytes.
use Rattle.std.proofs.Common.{◌≡◌, ◌+◌, ◌≤◌, ℕ, zero, suc, List, [], ◌∷◌, ◌++◌, length, map, refl, sym, ◌∙◌, ap, ap₂, arith, append-nil, append_assoc, length-append}
use Rattle.std.specs.Prelude.{flat_map, zip}
use Rattle.std.specs.List.{range_with_len}
use Rattle.std.proofs.lemmas.List.Concat.{flat_map-append}
use Rattle.std.proofs.lemmas.List.FromFn.{map-range_with_len_more}
use Rattle.axi_beats.specs.declared.beat.Addr.{Addr}
use Rattle.axi_beats.specs.declared.beat.WBeat.{WBeat}
use Rattle.burst_address.proofs.Written.{written-more}
use Rattle.burst_address.specs.Bytes.{Byte, beat_bytes, beat_written, burst_bytes, bytes_before, bytes_with, strobed_byte, written_bytes}
use Rattle.burst_address.specs.Formulas.{beats_of}
use Rattle.burst_cuts.proofs.ShownLemmas.{cut_all, length-cut}
use Rattle.burst_cuts.specs.PartLaws.{PartsAreAsManyAsBeats, PartsHaveItsBytes, PartsHaveItsLanes, PartsWriteItsBytes}
use Rattle.burst_cuts.specs.Parts.{data_of_part, part_of, parts_of}

bytes-of_parts : (a : Addr) (n : ℕ) → flat_map burst_bytes (map (part_of a) (range_with_len 0 n)) ≡ bytes_before a n
bytes-of_parts a zero = refl
bytes-of_parts a (suc n) =
    let more : suc n ≡ n + 1 = omega arith in
    let here : 0 + n ≡ n = omega arith in
    ap (λ (k : ℕ). flat_map burst_bytes (map (part_of a) (range_with_len 0 k))) more
    ∙ ap (flat_map burst_bytes) (map-range_with_len_more (part_of a) 0 n n here)
    ∙ flat_map-append burst_bytes (map (part_of a) (range_with_len 0 n)) (part_of a n ∷ [])
    ∙ ap₂ (λ (x y : List ℕ). x ++ y) (bytes-of_parts a n) (append-nil (burst_bytes (part_of a n)))

pub parts-have_its_bytes : PartsHaveItsBytes
parts-have_its_bytes [] = refl
parts-have_its_bytes (a ∷ parts) =
    let all : suc a.len ≡ beats_of a = omega arith in
    flat_map-append burst_bytes (parts_of a) (cut_all parts) ∙ ap₂ (λ (x y : List ℕ). x ++ y) (bytes-of_parts a (suc a.len) ∙ ap (bytes_before a) all) (parts-have_its_bytes parts)

pub parts-are_as_many_as_beats : PartsAreAsManyAsBeats
parts-are_as_many_as_beats parts = length-cut parts

pub parts-have_its_lanes : PartsHaveItsLanes
parts-have_its_lanes a bus n = refl

-- what is written

abbrev written_of : ℕ → Addr × List WBeat → List Byte
written_of bus p = written_bytes bus p.0 p.1

one-written : (bus : ℕ) (a : Addr) (n : ℕ) (w : WBeat) → written_bytes bus (part_of a n) (data_of_part w) ≡ beat_written bus a n w
one-written bus a n w = ap (bytes_with (beat_bytes a n)) (append-nil (map (strobed_byte bus w) (beat_bytes a n)))

-- the data from a beat on, after the beats before it
rest-written : (bus : ℕ) (a : Addr) (front ws : List WBeat) → length front + length ws ≤ beats_of a →
    written_bytes bus a front ++ flat_map (written_of bus) (zip (map (part_of a) (range_with_len (length front) (length ws))) (map data_of_part ws)) ≡ written_bytes bus a (front ++ ws)
rest-written bus a front [] few = append-nil (written_bytes bus a front) ∙ ap (written_bytes bus a) (sym (append-nil front))
rest-written bus a front (w ∷ ws) few =
    let next = front ++ w ∷ [] in
    let long : length next ≡ length front + 1 = length-append front (w ∷ []) in
    let later = flat_map (written_of bus) (zip (map (part_of a) (range_with_len (length front + 1) (length ws))) (map data_of_part ws)) in
    ap (λ (l : List Byte). written_bytes bus a front ++ (l ++ later)) (one-written bus a (length front) w)
    ∙ sym (append_assoc (written_bytes bus a front) (beat_written bus a (length front) w) later)
    ∙ ap (λ (l : List Byte). l ++ later) (sym (written-more bus a front w (omega (arith, few))))
    ∙ ap (λ (n : ℕ). written_bytes bus a next ++ flat_map (written_of bus) (zip (map (part_of a) (range_with_len n (length ws))) (map data_of_part ws))) (sym long)
    ∙ rest-written bus a next ws (omega (arith, few, long))
    ∙ ap (written_bytes bus a) (append_assoc front (w ∷ []) ws)

none-written : (addresses : List ℕ) → bytes_with addresses [] ≡ []
none-written [] = refl
none-written (address ∷ addresses) = refl

pub parts-write_its_bytes : PartsWriteItsBytes
parts-write_its_bytes bus a ws whole =
    let many : suc a.len ≡ length ws = omega (arith, whole) in
    ap (λ (n : ℕ). flat_map (written_of bus) (zip (map (part_of a) (range_with_len 0 n)) (map data_of_part ws))) many
    ∙ ap (λ (l : List Byte). l ++ flat_map (written_of bus) (zip (map (part_of a) (range_with_len 0 (length ws))) (map data_of_part ws))) (sym (none-written (burst_bytes a)))
    ∙ rest-written bus a [] ws (omega (arith, whole))
