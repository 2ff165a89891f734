-- The bytes of an answer, and those that were read for it.
use Rattle.std.proofs.Common.{◌≡◌, ℕ, ◌+◌, ◌-◌, ◌<◌, ◌≤◌, ◌&&◌, suc, Bool, true, false, cond, List, [], ◌∷◌, ◌++◌, length, map, take, drop, refl, sym, ◌∙◌, ap, arith, leb, ltb, length-append, append_assoc}
use Rattle.std.specs.Prelude.{filter, flat_map, slice_range}
use Rattle.std.specs.List.{range_with_len}
use Rattle.std.proofs.lemmas.Bool.{le-leb, lt-ltb}
use Rattle.std.proofs.lemmas.List.{length-map, map-append, drop_at, take_at}
use Rattle.std.proofs.lemmas.Simd.{map-map}
use Rattle.std.proofs.lemmas.List.FromFn.{length-range_with_len}
use Rattle.axi_beats.specs.declared.beat.RBeat.{RBeat}
use Rattle.axi_trail.specs.Schedule.{bytes_on}
use Rattle.subordinate.specs.Parts.{BeatOf}
use Rattle.memory_node.specs.WantedReads.{lanes_of_span, lanes_read, wanted_addresses, wanted_allowed, wanted_reads}
use Rattle.memory_node.specs.Beats.{answered_byte, answered_lanes}
use Rattle.memory_node.specs.Status.{may_read}
use Rattle.memory_node.specs.Store.{Store, byte_at}
use Rattle.memory_node.specs.MemoryArea.{IsMemoryArea, MemoryArea}
use Rattle.memory_node.proofs.LaneLemmas.{AreWithin, lanes-within}
use Rattle.plain_lists.specs.Prefixes.{IsPrefix}
use Rattle.plain_lists.proofs.PrefixLemmas.{prefix_cons, prefix_itself, prefix_nil}
use Rattle.plain_lists.proofs.RangeLemmas.{map-range-agree, range-split}
use Rattle.axi_beats.specs.Lanes.{Span}
use Rattle.burst_address.specs.Accesses.{answered_bytes}
use Rattle.burst_address.specs.Bytes.{Byte}
use Rattle.burst_address.specs.Lanes.{first_lane, lane_address, lane_count, last_lane}
use Rattle.burst_address.proofs.LaneBytes.{lanes-ordered}
use Rattle.burst_address.specs.Legal.{IsLegal}

-- how many are allowed
abbrev pub count_allowed : List Bool → ℕ
count_allowed allowed = length (filter (λ b. b) allowed)

-- bytes of more beats, where those of the first ones have all been read
pub filled-append : (allowed more : List Bool) (values others : List ℕ) → length values ≡ count_allowed allowed → answered_bytes (allowed ++ more) (values ++ others) ≡ answered_bytes allowed values ++ answered_bytes more others
filled-append [] more [] others e = refl
filled-append [] more (v ∷ values) others e = absurd (omega arith)
filled-append (false ∷ allowed) more values others e = ap (λ t. 0 ∷ t) (filled-append allowed more values others e)
filled-append (true ∷ allowed) more [] others e = absurd (omega arith)
filled-append (true ∷ allowed) more (v ∷ values) others e = ap (λ t. v ∷ t) (filled-append allowed more values others (omega arith))

-- the bytes of fewer beats are the first ones
pub filled-front : (allowed more : List Bool) (values : List ℕ) → IsPrefix (answered_bytes allowed values) (answered_bytes (allowed ++ more) values)
filled-front [] more values = prefix_nil (answered_bytes more values)
filled-front (false ∷ allowed) more values = prefix_cons 0 (filled-front allowed more values)
filled-front (true ∷ allowed) more [] = prefix_itself []
filled-front (true ∷ allowed) more (v ∷ values) = prefix_cons v (filled-front allowed more values)

-- the bytes of one beat: those that pass a test are read
filled-tested : (test : ℕ → Bool) (value : ℕ → ℕ) (lanes : List ℕ) → answered_bytes (map test lanes) (map value (filter test lanes)) ≡ map (λ lane. cond (test lane) (value lane) 0) lanes
filled-tested test value [] = refl
filled-tested test value (k ∷ lanes) =
    let go : (b : Bool) → answered_bytes (b ∷ map test lanes) (map value (cond b (k ∷ filter test lanes) (filter test lanes))) ≡ cond b (value k) 0 ∷ map (λ lane. cond (test lane) (value lane) 0) lanes =
    elim [ true ↦ ap (λ t. value k ∷ t) (filled-tested test value lanes) | false ↦ ap (λ t. 0 ∷ t) (filled-tested test value lanes) ]
    in go (test k)

count-tested : (test : ℕ → Bool) (lanes : List ℕ) → count_allowed (map test lanes) ≡ length (filter test lanes)
count-tested test [] = refl
count-tested test (k ∷ lanes) =
    let go : (b : Bool) → length (cond b (b ∷ filter (λ b. b) (map test lanes)) (filter (λ b. b) (map test lanes))) ≡ length (cond b (k ∷ filter test lanes) (filter test lanes)) =
    elim [ true ↦ ap suc (count-tested test lanes) | false ↦ count-tested test lanes ]
    in go (test k)

count-append : (xs ys : List Bool) → count_allowed (xs ++ ys) ≡ count_allowed xs + count_allowed ys
count-append [] ys = omega arith
count-append (true ∷ xs) ys = omega (arith, count-append xs ys)
count-append (false ∷ xs) ys = count-append xs ys

-- as many addresses are read as bytes may be read
pub count-reads : (area : MemoryArea) (wanted : BeatOf → Span) (beats : List BeatOf) → count_allowed (flat_map (wanted_allowed area wanted) beats) ≡ length (flat_map (wanted_addresses area wanted) beats)
count-reads area wanted [] = refl
count-reads area wanted (b ∷ beats) =
    let own : count_allowed (wanted_allowed area wanted b) ≡ length (wanted_addresses area wanted b) =
    count-tested (λ lane. may_read area (lane_address b.request b.beat area.bus lane)) (lanes_of_span (wanted b))
    ∙ sym (length-map (lanes_read area wanted b) (λ lane. lane_address b.request b.beat area.bus lane)) in
    omega (
      arith,
      count-append (wanted_allowed area wanted b) (flat_map (wanted_allowed area wanted) beats),
      length-append (wanted_addresses area wanted b) (flat_map (wanted_addresses area wanted) beats),
      count-reads area wanted beats,
    )

-- the bytes of one beat more
pub bytes_on-more : (beats : List RBeat) (r : RBeat) (lanes : List Span) (span : Span) (rest : List Span) → drop (length beats) lanes ≡ span ∷ rest → bytes_on (beats ++ r ∷ []) lanes ≡ bytes_on beats lanes ++ slice_range r.lanes span.low (span.high + 1)
bytes_on-more [] r [] span rest e = absurd (cc)
bytes_on-more [] r (s ∷ lanes) span rest e =
    let head : s ≡ span = cc in
    ap (λ (t : Span). slice_range r.lanes t.low (t.high + 1) ++ []) head ∙ nothing (slice_range r.lanes span.low (span.high + 1))
  where
    nothing : (xs : List ℕ) → xs ++ [] ≡ [] ++ xs
    nothing [] = refl
    nothing (x ∷ xs) = ap (λ t. x ∷ t) (nothing xs)
bytes_on-more (b ∷ beats) r [] span rest e = absurd (cc)
bytes_on-more (b ∷ beats) r (s ∷ lanes) span rest e =
    ap (λ t. slice_range b.lanes s.low (s.high + 1) ++ t) (bytes_on-more beats r lanes span rest e)
    ∙ sym (append_assoc (slice_range b.lanes s.low (s.high + 1)) (bytes_on beats lanes) (slice_range r.lanes span.low (span.high + 1)))

-- a part of a list that tells each lane
slice-range : (g : ℕ → ℕ) (end low count : ℕ) → low + count ≤ end → slice_range (map g (range_with_len 0 end)) low (low + count) ≡ map g (range_with_len low count)
slice-range g end low count le =
    let whole : end ≡ low + (count + (end - (low + count))) = omega arith in
    let first : 0 + low ≡ low = omega arith in
    let size : low + count - low ≡ count = omega arith in
    ap (λ n. slice_range (map g (range_with_len 0 n)) low (low + count)) whole
    ∙ ap (λ t. slice_range (map g t) low (low + count)) (range-split 0 low (count + (end - (low + count))))
    ∙ ap (λ t. slice_range t low (low + count)) (map-append g (range_with_len 0 low) (range_with_len (0 + low) (count + (end - (low + count)))))
    ∙ ap (take (low + count - low)) (drop_at (map g (range_with_len 0 low)) (map g (range_with_len (0 + low) (count + (end - (low + count))))) low (length-map (range_with_len 0 low) g ∙ length-range_with_len 0 low))
    ∙ ap (λ n. take n (map g (range_with_len (0 + low) (count + (end - (low + count)))))) size
    ∙ ap (λ n. take count (map g (range_with_len n (count + (end - (low + count)))))) first
    ∙ ap (λ t. take count (map g t)) (range-split low count (end - (low + count)))
    ∙ ap (take count) (map-append g (range_with_len low count) (range_with_len (low + count) (end - (low + count))))
    ∙ take_at (map g (range_with_len low count)) (map g (range_with_len (low + count) (end - (low + count)))) count (length-map (range_with_len low count) g ∙ length-range_with_len low count)

-- the lanes of an answer beat that are wanted have the bytes that were read for it
pub filled-beat : (area : MemoryArea) (wanted : BeatOf → Span) (store : Store) (b : BeatOf) → IsMemoryArea area → IsLegal b.request area.bus → AreWithin area.bus (wanted b) b →
    slice_range (answered_lanes area store b.request b.beat) (wanted b).low ((wanted b).high + 1)
    ≡ answered_bytes (wanted_allowed area wanted b) (map (λ (byte : Byte). byte.value) (wanted_reads area wanted store b))
filled-beat area wanted store b is legal within =
    let first : ℕ = first_lane b.request b.beat area.bus in
    let many : ℕ = lane_count b.request b.beat area.bus in
    let bounds : (0 < many) × (first + many ≤ area.bus) × (area.bus ≤ 128) = lanes-within b.request b.beat area.bus is.bus in
    let order = lanes-ordered b.request b.beat area.bus is.bus legal in
    let end : (wanted b).high + 1 ≡ (wanted b).low + ((wanted b).high - (wanted b).low + 1) = omega (arith, within.some) in
    let last : last_lane b.request b.beat area.bus + 1 ≡ first + many = omega (arith, order) in
    let inner : (wanted b).low + ((wanted b).high - (wanted b).low + 1) ≤ first + many = omega (arith, within.some, within.to, last) in
    ap (slice_range (answered_lanes area store b.request b.beat) (wanted b).low) end
    ∙ of_lanes first many (wanted b).low ((wanted b).high - (wanted b).low + 1) (λ lane. lane_address b.request b.beat area.bus lane) within.from inner (omega (arith, bounds.1, bounds.2, inner))
  where
    of_lanes : (first many low count : ℕ) (address : ℕ → ℕ) → first ≤ low → low + count ≤ first + many → low + count ≤ 128 →
        slice_range (map (λ lane. cond (leb first lane && ltb lane (first + many)) (answered_byte area store (address lane)) 0) (range_with_len 0 128)) low (low + count)
        ≡ answered_bytes (map (λ lane. may_read area (address lane)) (range_with_len low count))
        (map (λ (byte : Byte). byte.value) (map (λ lane. record { address = address lane; value = byte_at store (address lane) }) (filter (λ lane. may_read area (address lane)) (range_with_len low count))))
    of_lanes first many low count address from to le =
        slice-range (λ lane. cond (leb first lane && ltb lane (first + many)) (answered_byte area store (address lane)) 0) 128 low count le
        ∙ map-range-agree (λ lane. cond (leb first lane && ltb lane (first + many)) (answered_byte area store (address lane)) 0) (λ lane. answered_byte area store (address lane)) low count
        (λ k above below. ap (λ c. cond (c && ltb k (first + many)) (answered_byte area store (address k)) 0) (le-leb first k (omega (arith, from, above)))
        ∙ ap (λ c. cond (true && c) (answered_byte area store (address k)) 0) (lt-ltb k (first + many) (omega (arith, to, below))))
        ∙ sym (filled-tested (λ lane. may_read area (address lane)) (λ lane. byte_at store (address lane)) (range_with_len low count))
        ∙ ap (answered_bytes (map (λ lane. may_read area (address lane)) (range_with_len low count)))
        (sym (map-map (λ (byte : Byte). byte.value) (λ lane. record { address = address lane; value = byte_at store (address lane) }) (filter (λ lane. may_read area (address lane)) (range_with_len low count))))
