-- A memory's beats in the terms of bursts.
use Rattle.std.proofs.Common.{◌≡◌, ℕ, ◌+◌, ◌*◌, ◌%◌, ◌<◌, ◌≤◌, suc, zero, Bool, true, false, cond, List, [], ◌∷◌, ◌++◌, length, map, get_or, refl, sym, ◌∙◌, ap, subst, arith, inl, inr, IsTrue, append-nil, append_assoc, length-append}
use Rattle.std.specs.Prelude.{All, Contains, filter, slice_index}
use Rattle.std.proofs.lemmas.Bool.{cases_lt}
use Rattle.std.proofs.lemmas.List.Elements.{All-append, filter-append}
use Rattle.std.proofs.lemmas.Nat.{div-add-mod', mod_below}
use Rattle.axi_beats.specs.declared.beat.Addr.{Addr}
use Rattle.axi_beats.specs.declared.beat.WBeat.{WBeat}
use Rattle.burst_address.proofs.Beats.{beat-count, beat-line}
use Rattle.burst_address.proofs.Written.{written-more, written-past}
use Rattle.burst_address.specs.Bytes.{beat_bytes, beat_written, burst_bytes, bytes_before, written_bytes as burst_written, Byte}
use Rattle.burst_address.specs.Formulas.{beat_at, beats_of}
use Rattle.burst_address.specs.Legal.{IsLegal}
use Rattle.memory_node.specs.Beats.{stored_bytes}
use Rattle.memory_node.specs.BurstBytes.{LinesAreOfBurst, ReadsBurstBytes, WritesBeatBytes, WritesBurstBytes, writable_of, all_stored_bytes}
use Rattle.memory_node.specs.MemoryState.{AreLinesAmong}
use Rattle.memory_node.specs.Status.{may_read, may_write}
use Rattle.memory_node.specs.Store.{line_number}
use Rattle.memory_node.specs.MemoryArea.{IsMemoryArea, MemoryArea, is_inside}
use Rattle.memory_node.proofs.BeatLemmas.{is_inside-lane}
use Rattle.burst_address.proofs.LaneBytes.{beats-in_lines, lanes-are_bytes}
use Rattle.burst_address.proofs.Strobes.{strobed-are_written}
use Rattle.burst_address.proofs.Widths.{width-bounds, word-in_line}
use Rattle.burst_address.specs.Lanes.{lane_address, strobed_lanes, valid_lanes, word_address}
use Rattle.burst_address.specs.LaneLaws.{AllStrobeValidLanes, StrobesValidLanes}

module _ (area : MemoryArea) (lines : List ℕ) (a : Addr) (is : IsMemoryArea area) (legal : IsLegal a area.bus) where
  -- what is asked of a byte's line
  abbrev IsKept : ℕ → Type 0
  IsKept byte = IsTrue (is_inside area byte) → Contains lines (line_number byte)

  -- a beat's bytes are in the memory where its word is
  inside-byte : (n k d : ℕ) → k < length (beat_bytes a n) → is_inside area (get_or (beat_bytes a n) k d) ≡ is_inside area (word_address a n area.bus)
  inside-byte n k d lt =
      let byte : ℕ = get_or (beat_bytes a n) k d in
      let word : ℕ = word_address a n area.bus in
      let fits : word_address a n area.bus % 128 + area.bus ≤ 128 = word-in_line (beat_at a n) area.bus is.bus in
      let lane : get_or (beat_bytes a n) k d % area.bus < area.bus = mod_below byte area.bus (width-bounds area.bus is.bus).0 in
      let sum : byte ≡ word + byte % area.bus = sym (div-add-mod' byte area.bus) ∙ ap (λ q. q * area.bus + byte % area.bus) ((beat-line a area.bus n is.bus legal k d lt).1) in
      ap (is_inside area) sum ∙ is_inside-lane area word (byte % area.bus) is (omega (arith, fits, lane))

  beat-kept : (n : ℕ) → AreLinesAmong area lines a → n ≤ a.len → All IsKept (beat_bytes a n)
  beat-kept n among le k d lt inside =
      subst (λ (line : ℕ). Contains lines line) (sym (beats-in_lines a n area.bus is.bus legal k d lt))
      (among n le (sym (inside-byte n k d lt) ∙ inside))

  before-kept : (n : ℕ) → AreLinesAmong area lines a → n ≤ beats_of a → All IsKept (bytes_before a n)
  before-kept zero among le = λ k d lt. absurd (omega arith)
  before-kept (suc n) among le = All-append IsKept (bytes_before a n) (beat_bytes a n) (before-kept n among (omega arith)) (beat-kept n among (omega arith))

  -- the first byte of a beat stands among those of the burst
  among-before : (n m : ℕ) → n < m → All IsKept (bytes_before a m) → All IsKept (beat_bytes a n)
  among-before n zero lt all = absurd (omega arith)
  among-before n (suc m) lt all = elim (cases_lt n m) [
    | inl less ↦ among-before n m less (front-all (bytes_before a m) (beat_bytes a m) all)
    | inr more ↦ let same : m ≡ n = omega arith in subst (λ (k : ℕ). All IsKept (beat_bytes a k)) same (back-all (bytes_before a m) (beat_bytes a m) all)
  ]
    where
      back-all : (xs ys : List ℕ) → All IsKept (xs ++ ys) → All IsKept ys
      back-all [] ys all = all
      back-all (x ∷ xs) ys all = back-all xs ys (λ k d lt. all (suc k) d (omega arith))

      front-all : (xs ys : List ℕ) → All IsKept (xs ++ ys) → All IsKept xs
      front-all [] ys all k d lt = absurd (omega arith)
      front-all (x ∷ xs) ys all zero d lt = all 0 d (omega arith)
      front-all (x ∷ xs) ys all (suc k) d lt = front-all xs ys (λ k d lt. all (suc k) d (omega arith)) k d (omega arith)

  burst-lines : All IsKept (burst_bytes a) → AreLinesAmong area lines a
  burst-lines all n le inside =
      let some = (beat-count a area.bus n is.bus legal).1 in
      let kept : All IsKept (beat_bytes a n) = among-before n (beats_of a) (omega arith) all in
      subst (λ (line : ℕ). Contains lines line) (beats-in_lines a n area.bus is.bus legal 0 0 some)
      (kept 0 0 some (inside-byte n 0 0 some ∙ inside))

pub lines-of_burst : LinesAreOfBurst
lines-of_burst area lines a is legal = (λ among. before-kept area lines a is legal (beats_of a) among (omega arith), burst-lines area lines a is legal)

-- ---- reads

-- those of some values that pass a test, told before or after a map
filter-shown : {X Y : Type 0} (test : Y → Bool) (shown : X → Y) (xs : List X) → map shown (filter (λ x. test (shown x)) xs) ≡ filter test (map shown xs)
filter-shown test shown [] = refl
filter-shown test shown (x ∷ xs) =
    let go : (b : Bool) → map shown (cond b (x ∷ filter (λ x. test (shown x)) xs) (filter (λ x. test (shown x)) xs)) ≡ cond b (shown x ∷ filter test (map shown xs)) (filter test (map shown xs)) =
    elim [ true ↦ ap (λ t. shown x ∷ t) (filter-shown test shown xs) | false ↦ filter-shown test shown xs ]
    in go (test (shown x))

pub reads-burst_bytes : ReadsBurstBytes
reads-burst_bytes area a n is legal =
    filter-shown (may_read area) (λ lane. lane_address a n area.bus lane) (valid_lanes a n area.bus)
    ∙ ap (filter (may_read area)) (lanes-are_bytes a n area.bus is.bus legal)

-- ---- writes

pub writes-beat_bytes : WritesBeatBytes
writes-beat_bytes area a n w is legal valid =
    filter-shown (λ (byte : Byte). may_write area byte.address) (λ lane. record { address = word_address a n area.bus + lane; value = slice_index w.lanes lane }) (strobed_lanes area.bus w)
    ∙ ap (writable_of area) (strobed-are_written area.bus a n w is.bus legal valid)

module _ (area : MemoryArea) (a : Addr) (is : IsMemoryArea area) (legal : IsLegal a area.bus) where
  -- the beats after some first ones
  rest-writes : (front ws : List WBeat) → length front + length ws ≤ beats_of a → AllStrobeValidLanes area.bus a (length front) ws →
      writable_of area (burst_written area.bus a front) ++ all_stored_bytes area a (length front) ws
      ≡ writable_of area (burst_written area.bus a (front ++ ws))
  rest-writes front [] le valid =
      append-nil (writable_of area (burst_written area.bus a front))
      ∙ ap (λ ws. writable_of area (burst_written area.bus a ws)) (sym (append-nil front))
  rest-writes front (w ∷ ws) le valid =
      let n : ℕ = length front in
      let shown : List Byte → List Byte = writable_of area in
      let before : List Byte = burst_written area.bus a front in
      let own : List Byte = beat_written area.bus a (length front) w in
      let none : length front + 0 ≡ length front = omega arith in
      let one : length (front ++ w ∷ []) ≡ suc (length front) = omega (arith, length-append front (w ∷ [])) in
      let here : stored_bytes area a n w ≡ shown own =
      writes-beat_bytes area a n w is legal (subst (λ (k : ℕ). StrobesValidLanes area.bus a k w) none (valid 0 w refl)) in
      let later : AllStrobeValidLanes area.bus a (length (front ++ w ∷ [])) ws = λ k x at.
      let shift : length front + suc k ≡ length (front ++ w ∷ []) + k = omega (arith, one) in
      subst (λ (m : ℕ). StrobesValidLanes area.bus a m x) shift (valid (suc k) x at) in
      let more : shown before ++ stored_bytes area a n w ≡ shown (burst_written area.bus a (front ++ w ∷ [])) =
      ap (λ t. shown before ++ t) here
      ∙ sym (filter-append (λ (byte : Byte). may_write area byte.address) before own)
      ∙ ap shown (sym (written-more area.bus a front w (omega arith))) in
      sym (append_assoc (shown before) (stored_bytes area a n w) (all_stored_bytes area a (suc n) ws))
      ∙ ap (λ t. t ++ all_stored_bytes area a (suc n) ws) more
      ∙ ap (λ k. shown (burst_written area.bus a (front ++ w ∷ [])) ++ all_stored_bytes area a k ws) (sym one)
      ∙ rest-writes (front ++ w ∷ []) ws (omega (arith, one)) later
      ∙ ap (λ t. shown (burst_written area.bus a t)) (append_assoc front (w ∷ []) ws)

pub writes-burst_bytes : WritesBurstBytes
writes-burst_bytes area a ws is legal le valid =
    ap (λ t. writable_of area t ++ all_stored_bytes area a 0 ws) (sym (written-past (burst_bytes a)))
    ∙ rest-writes area a is legal [] ws (omega (arith, le)) valid
