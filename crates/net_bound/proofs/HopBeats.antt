-- The way of a transaction has no more hops than its path has plan nodes, and each link of it carries no more parts, beats of
-- data and responses than its burst has beats, whole or cut.
use Rattle.std.proofs.Common.{◌≡◌, ◌<◌, ◌≤◌, ◌+◌, ℕ, zero, suc, Bool, true, false, List, [], ◌∷◌, ◌++◌, length, map, Option, Some, None, refl, sym, ap, subst, arith}
use Rattle.std.proofs.lemmas.List.{length-append, length-map}
use Rattle.std.proofs.lemmas.List.FromFn.{length-map-range_with_len, length-range_with_len}
use Rattle.std.proofs.lemmas.List.Sums.{sum_by-cons}
use Rattle.std.specs.List.{range_with_len}
use Rattle.std.specs.Option.{option_and_then, option_map_or}
use Rattle.std.specs.Prelude.{drop, flat_map, nat_lt, slice_get, sum_by, take, zip, if◌then◌else◌}
use Rattle.axi_beats.specs.declared.beat.Addr.{Addr}
use Rattle.axi_beats.specs.declared.beat.WBeat.{WBeat}
use Rattle.axi_beats.specs.declared.response.Resp.{Resp}
use Rattle.axi_trail.specs.Schedule.{Share}
use Rattle.burst_address.specs.Formulas.{beats_of}
use Rattle.burst_address.specs.Status.{worst_among}
use Rattle.burst_cuts.specs.Parts.{data_of_part, len_of_burst, part_of, parts_of, worst_of_groups}
use Rattle.elaborate.proofs.PathFacts.{onward-below, path-goes_on}
use Rattle.elaborate.specs.Path.{next_part, path_from}
use Rattle.elaborate.specs.Plan.{plan_link_at, plan_links, plan_node_at, plan_nodes}
use Rattle.elaborate.specs.declared.part.Part.{Part}
use Rattle.elaborate.specs.declared.part.Part.TheVariants as part
use Rattle.error_node.specs.ErrorTable.{error_service}
use Rattle.lite_node.specs.LiteTable.{word_request}
use Rattle.memory_node.specs.MemoryTable.{memory_service}
use Rattle.net_kinds.specs.NodeKind.{node_kind}
use Rattle.net_opening.specs.Opening.{opening, state_by_part}
use Rattle.net_opening.specs.States.{lite_at, lite_memory_at, memory_at, up_at}
use Rattle.net_plan.proofs.BurstParts.{AreOfBurst}
use Rattle.net_plan.proofs.WayEnds.{below, below-is, cut-of_burst, deeper, depth_at, from-ends, from-next, lower-known, shallow, step}
use Rattle.net_plan.specs.PlanLaws.{CanRun}
use Rattle.net_progress.specs.Transfers.{share_beats}
use Rattle.net_ways.specs.Ways.{Hop, hop_at_end, hop_before, responses_from, way_from}
use Rattle.node_shape.specs.Way.{Way, onto}
use Rattle.plan_traffic.specs.Traffic.{TrafficItem}
use Rattle.split_node.specs.SplitTrail.{joined_responses}
use Rattle.subordinate.specs.Parts.{BeatOf, beats_of_parts}
use Rattle.subordinate.specs.Service.{Service, worst_of_beats}
use Rattle.subordinate.specs.Tracks.{ends_with}
use Rattle.topology.specs.Document.{DocumentNode}
use Rattle.up_node.specs.UpBeats.{beat_widened}
use Rattle.up_node.specs.UpCut.{beat_shifts, data_widened, moved_each}
use Rattle.up_node.specs.declared.shape.UpShape.{UpShape}

-- ---- the beats of parts

-- the beats of all parts of a transaction
abbrev pub part_beats : List Addr → ℕ
part_beats [] = 0
part_beats (part ∷ parts) = beats_of part + part_beats parts

-- each part has a beat
parts-few : (parts : List Addr) → length parts ≤ part_beats parts
parts-few [] = omega arith
parts-few (part ∷ parts) = omega (arith, parts-few parts)

part_beats-append : (xs ys : List Addr) → part_beats (xs ++ ys) ≡ part_beats xs + part_beats ys
part_beats-append [] ys = omega arith
part_beats-append (x ∷ xs) ys = omega (arith, part_beats-append xs ys)

-- of single beats there are as many as beats
singles-beats : (part : Addr) (places : List ℕ) → part_beats (map (part_of part) places) ≡ length places
singles-beats part [] = refl
singles-beats part (n ∷ places) = omega (arith, singles-beats part places)

split-beats : (parts : List Addr) → part_beats (flat_map parts_of parts) ≡ part_beats parts
split-beats [] = refl
split-beats (part ∷ parts) =
    omega (
      arith,
      part_beats-append (parts_of part) (flat_map parts_of parts),
      singles-beats part (range_with_len 0 (suc part.len)),
      length-range_with_len 0 (suc part.len),
      split-beats parts,
    )

words-beats : (bus : ℕ) (parts : List Addr) → part_beats (map (word_request bus) parts) ≡ length parts
words-beats bus [] = refl
words-beats bus (part ∷ parts) = omega (arith, words-beats bus parts)

-- ---- the responses where a transaction ends

each-write : {D : Type 0} (service : Service D) (parts : List Addr) (write_data : List (List WBeat)) →
    length (map (λ (p : Addr × List WBeat). worst_of_beats service p.0 0 p.1) (zip parts write_data)) ≤ length parts
each-write service [] write_data = omega arith
each-write service (part ∷ parts) [] = omega arith
each-write service (part ∷ parts) (beats ∷ more) = omega (arith, each-write service parts more)

beats-long : (parts : List Addr) → length (beats_of_parts parts) ≡ part_beats parts
beats-long [] = refl
beats-long (part ∷ parts) =
    let beats : List BeatOf = map (λ n. record { request = part; beat = n }) (range_with_len 0 (beats_of part)) in
    let made : ℕ → BeatOf = λ n. record { request = part; beat = n } in
    omega (arith, length-append beats (beats_of_parts parts), length-map-range_with_len made 0 (beats_of part), beats-long parts)

-- a subordinate has no more responses than the parts have beats
few-end : {D : Type 0} (service : Service D) (write : Bool) (share : Share) → length (ends_with service write share) ≤ part_beats share.parts
few-end service true share = omega (arith, each-write service share.parts share.write_data, parts-few share.parts)
few-end service false share =
    omega (arith, length-map (beats_of_parts share.parts) (λ (b : BeatOf). service.beat_status b.request b.beat), beats-long share.parts)

-- ---- the responses of bursts that were cut

groups-few : (lens : List ℕ) (responses : List Resp) → length (worst_of_groups lens responses) ≤ length lens
groups-few [] responses = omega arith
groups-few (len ∷ lens) responses = go (nat_lt len (length responses)) (groups-few lens (drop (suc len) responses))
  where
    go : (b : Bool) → length (worst_of_groups lens (drop (suc len) responses)) ≤ length lens →
        length (if b then worst_among (take (suc len) responses) ∷ worst_of_groups lens (drop (suc len) responses) else []) ≤ suc (length lens)
    go true few = omega (arith, few)
    go false few = omega arith

-- a splitter has no more responses than the parts above it have beats
joined-few : (write : Bool) (share : Share) (responses : List Resp) → length responses ≤ part_beats share.parts → length (joined_responses write share responses) ≤ part_beats share.parts
joined-few true share responses few =
    omega (arith, groups-few (map len_of_burst share.parts) responses, length-map share.parts len_of_burst, parts-few share.parts)
joined-few false share responses few = few

-- ---- hops

abbrev pub hop_beats : Hop → ℕ
hop_beats hop = share_beats hop.share

-- the beats of all write data
abbrev pub data_count : List (List WBeat) → ℕ
data_count write_data = length (flat_map (λ beats. beats) write_data)

-- a share of so many beats at most, with so many beats of data at most and as many responses at most as beats
share-few : (most : ℕ) (parts : List Addr) (one other : List (List WBeat)) (responses : List Resp) → part_beats parts ≤ most → data_count one ≤ data_count other →
    length responses ≤ part_beats parts → length parts + length (flat_map (λ beats. beats) one) + length responses ≤ most + data_count other + most
share-few most parts one other responses few_parts few_data few = omega (arith, few_parts, few_data, few, parts-few parts)

-- each beat alone is as many beats
alone-few : (beats : List WBeat) → data_count (map data_of_part beats) ≡ length beats
alone-few [] = refl
alone-few (beat ∷ beats) = omega (arith, alone-few beats)

-- beats that are moved are no more
moved-few : {X : Type 0} (moved : ℕ → X → X) (shifts : List ℕ) (xs : List X) → length (moved_each moved shifts xs) ≤ length xs
moved-few moved [] xs = omega arith
moved-few moved (k ∷ shifts) [] = omega arith
moved-few moved (k ∷ shifts) (x ∷ xs) = omega (arith, moved-few moved shifts xs)

widened-few : (shape : UpShape) (parts : List Addr) (data_of : List (List WBeat)) → data_count (data_widened shape parts data_of) ≤ data_count data_of
widened-few shape [] data_of = omega arith
widened-few shape (part ∷ parts) [] = omega arith
widened-few shape (part ∷ parts) (beats ∷ data_of) =
    let rest : List WBeat = flat_map (λ beats. beats) (data_widened shape parts data_of) in
    omega (
      arith,
      moved-few (beat_widened shape) (beat_shifts shape part) beats,
      widened-few shape parts data_of,
      length-append (moved_each (beat_widened shape) (beat_shifts shape part) beats) rest,
      length-append beats (flat_map (λ beats. beats) data_of),
    )

module _ (nodes : List DocumentNode) (items : List TrafficItem) (run : CanRun nodes) where
  ends-by : (write : Bool) (share : Share) (number : ℕ) (p : Part) → length ((node_kind.way (state_by_part nodes items number p)).ends write share) ≤ part_beats share.parts
  ends-by write share number part.Manager = omega arith
  ends-by write share number part.Memory = few-end (memory_service (memory_at nodes number items).area) write share
  ends-by write share number part.Error = few-end error_service write share
  ends-by write share number part.Mux = omega arith
  ends-by write share number part.Demux = omega arith
  ends-by write share number part.Slice = omega arith
  ends-by write share number part.LiteMemory = few-end (memory_service (lite_memory_at nodes number items).area) write share
  ends-by write share number part.Remap = omega arith
  ends-by write share number part.Split = omega arith
  ends-by write share number part.Up = omega arith
  ends-by write share number part.Down = omega arith
  ends-by write share number part.Lite = omega arith

  -- no kind sends on more beats of data than come to it
  cut-by : (share : Share) (number : ℕ) (p : Part) → data_count ((node_kind.way (state_by_part nodes items number p)).cut share).write_data ≤ data_count share.write_data
  cut-by share number part.Manager = omega arith
  cut-by share number part.Memory = omega arith
  cut-by share number part.Error = omega arith
  cut-by share number part.Mux = omega arith
  cut-by share number part.Demux = omega arith
  cut-by share number part.Slice = omega arith
  cut-by share number part.LiteMemory = omega arith
  cut-by share number part.Remap = omega arith
  cut-by share number part.Split = omega (arith, alone-few (flat_map (λ beats. beats) share.write_data))
  cut-by share number part.Up = widened-few (up_at nodes number).shape share.parts share.write_data
  cut-by share number part.Down = omega arith
  cut-by share number part.Lite = omega arith

  -- nor more beats of parts
  parts-by : (share : Share) (number : ℕ) (p : Part) → part_beats ((node_kind.way (state_by_part nodes items number p)).cut share).parts ≤ part_beats share.parts
  parts-by share number part.Manager = omega arith
  parts-by share number part.Memory = omega arith
  parts-by share number part.Error = omega arith
  parts-by share number part.Mux = omega arith
  parts-by share number part.Demux = omega arith
  parts-by share number part.Slice = omega arith
  parts-by share number part.LiteMemory = omega arith
  parts-by share number part.Remap = omega arith
  parts-by share number part.Split = omega (arith, split-beats share.parts)
  parts-by share number part.Up = omega arith
  parts-by share number part.Down = omega arith
  parts-by share number part.Lite = omega (arith, words-beats (lite_at nodes number).shape.bus share.parts, parts-few share.parts)

  -- nor sends up more responses than the parts above it have beats
  merged-by : (write : Bool) (share : Share) (responses : List Resp) (number : ℕ) (p : Part) → length responses ≤ part_beats share.parts →
      length ((node_kind.way (state_by_part nodes items number p)).merged write share responses) ≤ part_beats share.parts
  merged-by write share responses number part.Manager few = few
  merged-by write share responses number part.Memory few = few
  merged-by write share responses number part.Error few = few
  merged-by write share responses number part.Mux few = few
  merged-by write share responses number part.Demux few = few
  merged-by write share responses number part.Slice few = few
  merged-by write share responses number part.LiteMemory few = few
  merged-by write share responses number part.Remap few = few
  merged-by write share responses number part.Split few = joined-few write share responses few
  merged-by write share responses number part.Up few = few
  merged-by write share responses number part.Down few = few
  merged-by write share responses number part.Lite few = few

  ends-few : (write : Bool) (link : ℕ) (share : Share) → link < length (plan_links nodes) → length ((below nodes items run link).ends write share) ≤ part_beats share.parts
  ends-few write link share less =
      subst (λ (w : Way). length (w.ends write share) ≤ part_beats share.parts) (sym (below-is nodes items run link (lower-known nodes items run link less)))
      (ends-by write share (plan_link_at nodes link).lower (plan_node_at nodes (plan_link_at nodes link).lower).part)

  cut-few : (link : ℕ) (share : Share) → link < length (plan_links nodes) → data_count ((below nodes items run link).cut share).write_data ≤ data_count share.write_data
  cut-few link share less =
      subst (λ (w : Way). data_count (w.cut share).write_data ≤ data_count share.write_data) (sym (below-is nodes items run link (lower-known nodes items run link less)))
      (cut-by share (plan_link_at nodes link).lower (plan_node_at nodes (plan_link_at nodes link).lower).part)

  part_beats-few : (link : ℕ) (share : Share) → link < length (plan_links nodes) → part_beats ((below nodes items run link).cut share).parts ≤ part_beats share.parts
  part_beats-few link share less =
      subst (λ (w : Way). part_beats (w.cut share).parts ≤ part_beats share.parts) (sym (below-is nodes items run link (lower-known nodes items run link less)))
      (parts-by share (plan_link_at nodes link).lower (plan_node_at nodes (plan_link_at nodes link).lower).part)

  merged-few : (write : Bool) (link : ℕ) (share : Share) (responses : List Resp) → link < length (plan_links nodes) → length responses ≤ part_beats share.parts →
      length ((below nodes items run link).merged write share responses) ≤ part_beats share.parts
  merged-few write link share responses less few =
      subst (λ (w : Way). length (w.merged write share responses) ≤ part_beats share.parts) (sym (below-is nodes items run link (lower-known nodes items run link less)))
      (merged-by write share responses (plan_link_at nodes link).lower (plan_node_at nodes (plan_link_at nodes link).lower).part few)

  module _ (write : Bool) (request : Addr) (write_data : List (List WBeat)) where
    -- what one link carries of it at most, and so the links of a path
    abbrev pub most_beats : ℕ
    most_beats = beats_of request + data_count write_data + beats_of request

    abbrev pub path_beats : ℕ → ℕ → ℕ
    path_beats most number = sum_by (λ (k : ℕ). most_beats) (path_from nodes (plan_nodes nodes) request.addr most number)

    abbrev from : ℕ → ℕ → Share → List Hop
    from left link share = way_from node_kind (opening nodes items) write left link share

    -- the hops of a way that begins with a link, along the path from the node below it
    abbrev pub FewFrom : ℕ → Type 0
    FewFrom left =
        (link most : ℕ) (share : Share) → link < length (plan_links nodes) → AreOfBurst request share.parts → part_beats share.parts ≤ beats_of request →
        data_count share.write_data ≤ data_count write_data → length (plan_nodes nodes) ≤ depth_at nodes items run (plan_link_at nodes link).lower + most →
        (sum_by hop_beats (from left link share) ≤ path_beats most (plan_link_at nodes link).lower) × (length (responses_from (from left link share)) ≤ part_beats share.parts)

    path-first : (most number : ℕ) → most_beats ≤ path_beats (suc most) number
    unfolding path_from
    path-first most number =
        omega (
          arith,
          sum_by-cons (λ (k : ℕ). most_beats) number
              (option_map_or (path_from nodes (plan_nodes nodes) request.addr most) (option_and_then (next_part nodes request.addr) (slice_get (plan_nodes nodes) number)) []),
        )

    few-none : FewFrom 0
    unfolding way_from
    few-none link most share less are few sent enough = (omega arith, omega arith)

    few-more : (left : ℕ) → FewFrom left → FewFrom (suc left)
    few-more left again link zero share less are few sent enough =
        absurd (omega (arith, enough, shallow nodes items run (plan_link_at nodes link).lower (lower-known nodes items run link less)))
    few-more left again link (suc most) share less are few sent enough = go ((below nodes items run link).goes_on share) refl
      where
        go : (o : Option ℕ) → (below nodes items run link).goes_on share ≡ o →
            (sum_by hop_beats (from (suc left) link share) ≤ path_beats (suc most) (plan_link_at nodes link).lower) × (length (responses_from (from (suc left) link share)) ≤ part_beats share.parts)
        go None stops =
            let hops : from (suc left) link share ≡ hop_at_end (below nodes items run link) write link share ∷ [] = from-ends nodes items run write left link share stops in
            let ends = ends-few write link share less in
            let beats = share-few (beats_of request) share.parts share.write_data write_data ((below nodes items run link).ends write share) few sent ends in (
              omega (
                arith,
                ap (λ (hops : List Hop). sum_by hop_beats hops) hops,
                sum_by-cons hop_beats (hop_at_end (below nodes items run link) write link share) [],
                beats,
                path-first most (plan_link_at nodes link).lower,
              ),
              subst (λ (hops : List Hop). length (responses_from hops) ≤ part_beats share.parts) (sym hops) ends,
            )
        go (Some next) goes =
            let on = step nodes items run link next share request less are goes in
            let rest : List Hop = from left next (onto next ((below nodes items run link).cut share)) in
            let down = deeper nodes items run (plan_link_at nodes link).lower (plan_link_at nodes next).lower (lower-known nodes items run next on.1)
            (onward-below nodes request.addr (plan_link_at nodes link).lower (plan_link_at nodes next).lower on.0) in
            let fewer = part_beats-few link share less in
            let further = again next most (onto next ((below nodes items run link).cut share)) on.1
            (cut-of_burst nodes items run link share request less are) (omega (arith, fewer, few)) (omega (arith, cut-few link share less, sent))
            (omega (arith, enough, down)) in
            let merged = merged-few write link share (responses_from rest) less (omega (arith, further.1, fewer)) in
            let hops = from-next nodes items run write left link next share goes in
            let beats = share-few (beats_of request) share.parts share.write_data write_data ((below nodes items run link).merged write share (responses_from rest)) few sent merged in (
              omega (
                arith,
                ap (λ (hops : List Hop). sum_by hop_beats hops) hops,
                sum_by-cons hop_beats (hop_before (below nodes items run link) write link share rest) rest,
                beats,
                further.0,
                ap (λ (path : List ℕ). sum_by (λ (k : ℕ). most_beats) path) (path-goes_on nodes request.addr most (plan_link_at nodes link).lower (plan_link_at nodes next).lower on.0),
                sum_by-cons (λ (k : ℕ). most_beats) (plan_link_at nodes link).lower (path_from nodes (plan_nodes nodes) request.addr most (plan_link_at nodes next).lower),
              ),
              subst (λ (hops : List Hop). length (responses_from hops) ≤ part_beats share.parts) (sym hops) merged,
            )

    pub few-from : (left : ℕ) → FewFrom left
    few-from zero = few-none
    few-from (suc left) = few-more left (few-from left)
