-- Where the next beat of a transaction stands among the beats of its parts.
use Rattle.std.proofs.Common.{◌≡◌, ℕ, ◌+◌, ◌-◌, ◌≤◌, suc, List, [], ◌∷◌, ◌++◌, length, map, drop, refl, sym, ◌∙◌, ap, arith, append_assoc, length-append}
use Rattle.std.specs.List.{range_with_len}
use Rattle.std.proofs.lemmas.List.{length-map, map-append, drop_at}
use Rattle.std.proofs.Math.Seq.{drop-append-add}
use Rattle.std.proofs.lemmas.List.FromFn.{length-range_with_len}
use Rattle.axi_beats.specs.declared.beat.Addr.{Addr}
use Rattle.axi_trail.specs.LinkContracts.{without_id}
use Rattle.axi_trail.specs.Waiting.{Waiting, beats_by, pending}
use Rattle.axi_trail.proofs.WaitingFacts.{pending-place}
use Rattle.plain_lists.proofs.RangeLemmas.{range-split}
use Rattle.plain_lists.specs.Prefixes.{IsPrefix}
use Rattle.subordinate.specs.Parts.{BeatOf, beats_of_parts}
use Rattle.subordinate.specs.Tracks.{len_of_address}

abbrev beat_of : Addr → ℕ → BeatOf
beat_of part n = record { request = part; beat = n }

abbrev part_beats : Addr → List BeatOf
part_beats part = map (beat_of part) (range_with_len 0 (part.len + 1))

-- the beats of a part from one of them on
part-from : (p : Addr) (done : ℕ) → done ≤ p.len → (rest : List BeatOf) × (part_beats p ≡ map (beat_of p) (range_with_len 0 done) ++ beat_of p done ∷ rest)
part-from p done le =
    let whole : p.len + 1 ≡ done + suc (p.len - done) = omega arith in
    let none : 0 + done ≡ done = omega arith in (
      map (beat_of p) (range_with_len (done + 1) (p.len - done)),
      ap (λ n. map (beat_of p) (range_with_len 0 n)) whole
          ∙ ap (map (beat_of p)) (range-split 0 done (suc (p.len - done)))
          ∙ map-append (beat_of p) (range_with_len 0 done) (range_with_len (0 + done) (suc (p.len - done)))
          ∙ ap (λ n. map (beat_of p) (range_with_len 0 done) ++ map (beat_of p) (range_with_len n (suc (p.len - done)))) none,
    )

length-part : (p : Addr) → length (part_beats p) ≡ suc p.len
length-part p = length-map (range_with_len 0 (p.len + 1)) (beat_of p) ∙ length-range_with_len 0 (p.len + 1) ∙ (let e : p.len + 1 ≡ suc p.len = omega arith in e)

-- the beats of parts from a beat of one of them on
pub parts-from : (front : List Addr) (p : Addr) (more : List Addr) (done : ℕ) → done ≤ p.len →
    (rest : List BeatOf) × (drop (beats_by len_of_address front + done) (beats_of_parts (map without_id front ++ p ∷ more)) ≡ beat_of p done ∷ rest)
parts-from [] p more done le =
    let own = part-from p done le in
    let none : 0 + done ≡ done = omega arith in (
      own.0 ++ beats_of_parts more,
      ap (λ n. drop n (part_beats p ++ beats_of_parts more)) none
          ∙ ap (λ t. drop done (t ++ beats_of_parts more)) own.1
          ∙ ap (drop done) (append_assoc (map (beat_of p) (range_with_len 0 done)) (beat_of p done ∷ own.0) (beats_of_parts more))
          ∙ drop_at (map (beat_of p) (range_with_len 0 done)) (beat_of p done ∷ (own.0 ++ beats_of_parts more)) done (length-map (range_with_len 0 done) (beat_of p) ∙ length-range_with_len 0 done),
    )
parts-from (a ∷ front) p more done le =
    let rest = parts-from front p more done le in
    let counted : (suc a.len + beats_by len_of_address front) + done ≡ length (part_beats (without_id a)) + (beats_by len_of_address front + done) = omega (arith, length-part (without_id a)) in (
      rest.0,
      ap (λ n. drop n (part_beats (without_id a) ++ beats_of_parts (map without_id front ++ p ∷ more))) counted
          ∙ drop-append-add (part_beats (without_id a)) (beats_of_parts (map without_id front ++ p ∷ more)) (beats_by len_of_address front + done)
          ∙ rest.1,
    )

-- `own` are the transaction's requests so far, and `count` beats of them have passed
pub next-part : (parts own : List Addr) (count : ℕ) (v : Waiting Addr) (others : List (Waiting Addr)) → IsPrefix (map without_id own) parts →
    pending len_of_address count own ≡ v ∷ others → (rest : List BeatOf) × (drop count (beats_of_parts parts) ≡ record { request = without_id v.request; beat = v.done } ∷ rest)
next-part parts own count v others asked waits =
    let place = pending-place len_of_address count own v others waits in
    let whole : parts ≡ map without_id place.0 ++ without_id v.request ∷ (map without_id place.1 ++ asked.rest) =
    asked.whole
    ∙ ap (λ ys. map without_id ys ++ asked.rest) place.2
    ∙ ap (λ ys. ys ++ asked.rest) (map-append without_id place.0 (v.request ∷ place.1))
    ∙ append_assoc (map without_id place.0) (without_id v.request ∷ map without_id place.1) asked.rest in
    let found = parts-from place.0 (without_id v.request) (map without_id place.1 ++ asked.rest) v.done place.4 in
    (found.0, ap (λ n. drop n (beats_of_parts parts)) (sym place.3) ∙ ap (λ ys. drop (beats_by len_of_address place.0 + v.done) (beats_of_parts ys)) whole ∙ found.1)

pub length-parts : (parts : List Addr) → length (beats_of_parts parts) ≡ beats_by len_of_address parts
length-parts [] = refl
length-parts (p ∷ parts) = omega (arith, length-append (part_beats p) (beats_of_parts parts), length-part p, length-parts parts)

pub beats-without_id : (xs : List Addr) → beats_by len_of_address (map without_id xs) ≡ beats_by len_of_address xs
beats-without_id [] = refl
beats-without_id (x ∷ xs) = ap (λ n. suc x.len + n) (beats-without_id xs)
