-- What is due at a memory, part by part.
use Rattle.std.proofs.Common.{◌≡◌, ℕ, ◌+◌, suc, zero, List, [], ◌∷◌, ◌++◌, length, map, refl, sym, ◌∙◌, ap, arith, add-one, append-nil}
use Rattle.std.specs.Prelude.{All, filter, flat_map, zip}
use Rattle.std.specs.List.{range_with_len}
use Rattle.std.proofs.lemmas.Grind.{flat_map-append}
use Rattle.std.proofs.lemmas.List.{length-map, map-append, take_all}
use Rattle.std.proofs.lemmas.List.Elements.{filter-append}
use Rattle.std.proofs.lemmas.List.FromFn.{length-range_with_len}
use Rattle.axi_beats.specs.declared.beat.Addr.{Addr}
use Rattle.axi_beats.specs.declared.beat.WBeat.{WBeat}
use Rattle.burst_address.specs.Bytes.{beat_bytes, burst_bytes, bytes_before, Byte}
use Rattle.burst_address.specs.Formulas.{beats_of}
use Rattle.burst_address.specs.Legal.{IsLegal}
use Rattle.subordinate.specs.Parts.{BeatOf, beats_of_parts}
use Rattle.memory_node.specs.Accesses.{read_addresses}
use Rattle.memory_node.specs.Beats.{stored_bytes}
use Rattle.memory_node.specs.BurstBytes.{DueReadsAreOfParts, DueWritesAreOfParts, all_stored_bytes}
use Rattle.memory_node.specs.MemoryArea.{IsMemoryArea, MemoryArea}
use Rattle.memory_node.specs.Status.{may_read}
use Rattle.memory_node.proofs.BurstLemmas.{reads-burst_bytes}
use Rattle.plain_lists.proofs.RangeLemmas.{range-more}
use Rattle.plain_lists.proofs.PartLemmas.{zip-append, zip-take}

-- a beat of a part
abbrev beat_of : Addr → ℕ → BeatOf
beat_of part n = record { request = part; beat = n }

module _ (area : MemoryArea) (is : IsMemoryArea area) where
  abbrev readable : List ℕ → List ℕ
  readable bytes = filter (may_read area) bytes

  -- the first beats of a part read its first bytes
  part-reads : (a : Addr) (k : ℕ) → IsLegal a area.bus → flat_map (read_addresses area) (map (beat_of a) (range_with_len 0 k)) ≡ readable (bytes_before a k)
  part-reads a zero legal = refl
  part-reads a (suc k) legal =
      let reads : List BeatOf → List ℕ = flat_map (read_addresses area) in
      let last : 0 + k ≡ k = omega arith in
      ap (λ n. reads (map (beat_of a) (range_with_len 0 n))) (sym (add-one k))
      ∙ ap (λ ns. reads (map (beat_of a) ns)) (range-more 0 k)
      ∙ ap reads (map-append (beat_of a) (range_with_len 0 k) ((0 + k) ∷ []))
      ∙ flat_map-append (read_addresses area) (map (beat_of a) (range_with_len 0 k)) (beat_of a (0 + k) ∷ [])
      ∙ ap (λ t. t ++ reads (beat_of a (0 + k) ∷ [])) (part-reads a k legal)
      ∙ ap (λ t. readable (bytes_before a k) ++ t) (append-nil (read_addresses area (beat_of a (0 + k))) ∙ ap (λ n. read_addresses area (beat_of a n)) last ∙ reads-burst_bytes area a k is legal)
      ∙ sym (filter-append (may_read area) (bytes_before a k) (beat_bytes a k))

  parts-read : (parts : List Addr) → All (λ part. IsLegal part area.bus) parts → flat_map (read_addresses area) (beats_of_parts parts) ≡ flat_map (λ part. readable (burst_bytes part)) parts
  parts-read [] legal = refl
  parts-read (a ∷ parts) legal =
      flat_map-append (read_addresses area) (map (beat_of a) (range_with_len 0 (beats_of a))) (beats_of_parts parts)
      ∙ ap (λ t. t ++ flat_map (read_addresses area) (beats_of_parts parts)) (part-reads a (beats_of a) (legal 0 a (omega arith)))
      ∙ ap (λ t. readable (burst_bytes a) ++ t) (parts-read parts (λ k d lt. legal (suc k) d (omega arith)))

pub due-reads : DueReadsAreOfParts
due-reads area share is legal =
    ap (flat_map (read_addresses area)) (take_all (length (beats_of_parts share.parts)) (beats_of_parts share.parts) (omega arith))
    ∙ parts-read area is share.parts legal

module _ (area : MemoryArea) where
  abbrev writes_of : BeatOf × WBeat → List Byte
  writes_of b = stored_bytes area b.0.request b.0.beat b.1

  part-writes : (a : Addr) (n k : ℕ) (ws : List WBeat) → length ws ≡ k → flat_map writes_of (zip (map (beat_of a) (range_with_len n k)) ws) ≡ all_stored_bytes area a n ws
  part-writes a n zero [] e = refl
  part-writes a n zero (w ∷ ws) e = absurd (omega arith)
  part-writes a n (suc k) [] e = absurd (omega arith)
  part-writes a n (suc k) (w ∷ ws) e =
      ap (λ t. stored_bytes area a n w ++ t) (part-writes a (n + 1) k ws (omega arith) ∙ ap (λ m. all_stored_bytes area a m ws) (add-one n))

  parts-write : (parts : List Addr) (sent : List (List WBeat)) → map (λ (ws : List WBeat). length ws) sent ≡ map beats_of parts →
      flat_map writes_of (zip (beats_of_parts parts) (flat_map (λ (ws : List WBeat). ws) sent)) ≡ flat_map (λ (p : Addr × List WBeat). all_stored_bytes area p.0 0 p.1) (zip parts sent)
  parts-write [] [] e = refl
  parts-write [] (ws ∷ sent) e = absurd (cc)
  parts-write (a ∷ parts) [] e = absurd (cc)
  parts-write (a ∷ parts) (ws ∷ sent) e =
      let own : length ws ≡ beats_of a = cc in
      let rest : map (λ (ws : List WBeat). length ws) sent ≡ map beats_of parts = cc in
      let beats : List BeatOf = map (beat_of a) (range_with_len 0 (beats_of a)) in
      let later : List WBeat = flat_map (λ (ws : List WBeat). ws) sent in
      let long : length ws ≡ length (map (beat_of a) (range_with_len 0 (beats_of a))) = own ∙ sym (length-map (range_with_len 0 (beats_of a)) (beat_of a) ∙ length-range_with_len 0 (beats_of a)) in
      ap (flat_map writes_of) (zip-append beats (beats_of_parts parts) ws later long)
      ∙ flat_map-append writes_of (zip beats ws) (zip (beats_of_parts parts) later)
      ∙ ap (λ t. t ++ flat_map writes_of (zip (beats_of_parts parts) later)) (part-writes a 0 (beats_of a) ws own)
      ∙ ap (λ t. all_stored_bytes area a 0 ws ++ t) (parts-write parts sent rest)

pub due-writes : DueWritesAreOfParts
due-writes area share e =
    ap (flat_map (writes_of area)) (zip-take (beats_of_parts share.parts) (flat_map (λ (ws : List WBeat). ws) share.write_data))
    ∙ parts-write area share.parts share.write_data e
