-- What a splitter answers above, of what is answered below.
use Rattle.std.proofs.Common.{◌≡◌, ◌<◌, ◌≤◌, ◌+◌, ◌-◌, ◌==◌, ℕ, zero, suc, Bool, true, false, cond, List, [], ◌∷◌, ◌++◌, length, map, take, drop, refl, sym, ◌∙◌, ap, ap₂, subst, inl, inr, arith, length-append, length-drop}
use Rattle.std.specs.Prelude.{All, IsTrue, filter, flat_map, nat_lt, slice_range}
use Rattle.std.proofs.lemmas.Bool.{cases_lt, lt-ltb, le-ltb}
use Rattle.std.proofs.lemmas.List.{length-map, take_all}
use Rattle.std.proofs.lemmas.List.Elements.{All-cons, All-head, All-nil, All-tail, All-take}
use Rattle.std.proofs.lemmas.List.FromFn.{length-map-range_with_len}
use Rattle.axi_beats.specs.declared.beat.Addr.{Addr}
use Rattle.axi_beats.specs.declared.beat.BBeat.{BBeat}
use Rattle.axi_beats.specs.declared.beat.RBeat.{RBeat}
use Rattle.axi_beats.specs.declared.beat.WBeat.{WBeat}
use Rattle.axi_beats.specs.declared.response.Resp.{Resp}
use Rattle.axi_beats.specs.declared.response.Resp.TheVariants.{Okay}
use Rattle.plain_lists.proofs.KeyLemmas.{filter_cons, of_key-map}
use Rattle.plain_lists.proofs.PrefixLemmas.{agree_prefix, All_front, prefix_cons, prefix_filter, prefix_flat_map, prefix_length, prefix_map, prefix_of_same, prefix_of_key, prefix_same, prefix_take, prefix_nil, prefix_trans}
use Rattle.axi_trail.proofs.MarkFacts.{completed_are_complete}
use Rattle.axi_trail.specs.LinkContracts.{Answers, Asks}
use Rattle.axi_trail.specs.Schedule.{Progress, Schedule, Share, bytes_on}
use Rattle.axi_beats.specs.Lanes.{Span}
use Rattle.plain_lists.specs.Prefixes.{Agree, IsPrefix}
use Rattle.axi_trail.specs.Trail.{Beats}
use Rattle.axi_trail.specs.Waiting.{complete}
use Rattle.axi_trail.specs.Words.{Asked, InOrderOfId, Mark, Reply, burst_asked, completed, data_marks, id_of_asked, len_of_asked, mark_of_data, marks, marks_of, number_of_address, number_of_data, number_of_read_data, number_of_response, read_reply, write_asked, write_reply}
use Rattle.plain_lists.specs.Keys.{of_key}
use Rattle.split_node.proofs.AskLemmas.{agree-sym}
use Rattle.burst_cuts.proofs.GroupLemmas.{groups-all, groups-prefix, responses-due_to_parts}
use Rattle.burst_cuts.proofs.ShownLemmas.{all-single, asked-of_cut, cut_all, same-asked, singles-asked}
use Rattle.burst_cuts.proofs.CutLemmas.{completed-of_cut, cut, ends-of_marks, is_end, length-singles, map-append, whole-groups_in_order}
use Rattle.burst_cuts.specs.CutLaws.{ends, single, single_reply}
use Rattle.burst_cuts.specs.Parts.{as_last, len_of_burst, part_of, parts_of, responses_due, worst_of_groups}
use Rattle.split_node.specs.SplitTrail.{joined_responses, SplitKeeps, left_of_work, as_last_read}
use Rattle.burst_address.specs.Status.{worst_among}
use Rattle.split_node.specs.SplitState.{SplitState}

map-take : {X Y : Type 0} (f : X → Y) (n : ℕ) (xs : List X) → map f (take n xs) ≡ take n (map f xs)
map-take f zero xs = refl
map-take f (suc n) [] = refl
map-take {X} {Y} f (suc n) (x ∷ xs) = ap (λ (t : List Y). f x ∷ t) (map-take f n xs)

-- read data but for `last`

bytes-as_last : (rs : List RBeat) (lanes : List Span) → bytes_on (map as_last_read rs) lanes ≡ bytes_on rs lanes
bytes-as_last [] lanes = refl
bytes-as_last (r ∷ rs) [] = refl
bytes-as_last (r ∷ rs) (span ∷ lanes) = ap (λ (bytes : List ℕ). slice_range r.lanes span.low (span.high + 1) ++ bytes) (bytes-as_last rs lanes)

responses-as_last : (rs : List RBeat) → map (λ (r : RBeat). r.resp) (map as_last_read rs) ≡ map (λ (r : RBeat). r.resp) rs
responses-as_last [] = refl
responses-as_last (r ∷ rs) = ap (λ (l : List Resp). r.resp ∷ l) (responses-as_last rs)

lanes-as_last : (rs : List RBeat) → All (λ (r : RBeat). length r.lanes ≡ 128) (map as_last_read rs) → All (λ (r : RBeat). length r.lanes ≡ 128) rs
lanes-as_last [] all = All-nil (λ (r : RBeat). length r.lanes ≡ 128)
lanes-as_last (r ∷ rs) all =
    All-cons (λ (r : RBeat). length r.lanes ≡ 128) r rs (All-head (λ (r : RBeat). length r.lanes ≡ 128) (as_last_read r) (map as_last_read rs) all)
    (lanes-as_last rs (All-tail (λ (r : RBeat). length r.lanes ≡ 128) (as_last_read r) (map as_last_read rs) all))

-- whole writes

module _ (above below : Schedule) (now : Progress) (s : SplitState) (upper lower : Beats) (keeps : SplitKeeps above below s upper lower) (asks : Asks above now upper) (answers : Answers below now lower) where
  abbrev asked : List Asked
  asked = map burst_asked upper.aw

  abbrev count : ℕ
  count = length upper.w

  -- all data below has `last`
  all-last : (ws : List WBeat) → length (filter is_end (map mark_of_data (map as_last ws))) ≡ length ws
  all-last [] = refl
  all-last (w ∷ ws) = ap suc (all-last ws)

  parts-order : InOrderOfId (take count (cut asked)) (map single_reply keeps.write_beats)
  parts-order =
      let n : length (filter is_end (map mark_of_data lower.w)) ≡ count = ap (λ (ws : List WBeat). length (filter is_end (map mark_of_data ws))) keeps.w ∙ all-last upper.w in
      let first = take count lower.aw in
      let below_order : InOrderOfId (map write_asked first) (map single_reply keeps.write_beats) =
      subst (λ (replies : List Reply). InOrderOfId (map write_asked first) replies) keeps.b_below
      (subst (λ (k : ℕ). InOrderOfId (map write_asked (take k lower.aw)) (map write_reply lower.b)) n answers.answered_after_its_data) in
      let all : All (λ (a : Addr). a.len ≡ 0) lower.aw = All_front (λ (a : Addr). a.len ≡ 0) (record { rest = left_of_work s.write_work; whole = keeps.writes.parts }) (all-single upper.aw) in
      let same : map write_asked first ≡ take count (map burst_asked lower.aw) = sym (same-asked first (All-take (λ (a : Addr). a.len ≡ 0) count lower.aw all)) ∙ map-take burst_asked count lower.aw in
      let whole : cut asked ≡ map burst_asked lower.aw ++ map burst_asked (left_of_work s.write_work) =
      sym (asked-of_cut upper.aw) ∙ ap (map burst_asked) keeps.writes.parts ∙ map-append burst_asked lower.aw (left_of_work s.write_work) in
      let front : IsPrefix (map write_asked first) (take count (cut asked)) =
      prefix_same same (prefix_of_same (prefix_take count count (map burst_asked lower.aw) (map burst_asked (left_of_work s.write_work)) (omega arith)) (ap (take count) (sym whole))) in
      λ id. prefix_trans (below_order id) (prefix_flat_map marks_of (prefix_of_key id_of_asked id front))

  whole-order : InOrderOfId (map single (completed asked (data_marks upper))) (ends keeps.write_beats)
  whole-order = elim (cases_lt (length (marks asked)) (length (data_marks upper))) [
    | inr le ↦
        let n : length (data_marks upper) ≡ count = length-map upper.w mark_of_data in
        subst (λ (xs : List Asked). InOrderOfId (map single xs) (ends keeps.write_beats))
        (ap (λ (k : ℕ). complete len_of_asked k asked) (sym n) ∙ sym (completed_are_complete asked (data_marks upper) (agree_prefix (data_marks upper) (marks asked) asks.data_follows_addresses le)))
        (completed-of_cut asked keeps.write_beats count keeps.writes.order parts-order)
    | inl lt ↦
        let front : IsPrefix (marks asked) (data_marks upper) = agree_prefix (marks asked) (data_marks upper) (agree-sym (data_marks upper) (marks asked) asks.data_follows_addresses) (omega arith) in
        let enough : length asked ≤ length (filter is_end (data_marks upper)) = omega (arith, prefix_length (prefix_filter is_end front), ap length (ends-of_marks asked), length-singles asked) in
        subst (λ (xs : List Asked). InOrderOfId (map single xs) (ends keeps.write_beats)) (sym (take_all (length (filter is_end (data_marks upper))) asked enough)) (whole-groups_in_order asked keeps.write_beats keeps.writes.order)
  ]

  after-data : InOrderOfId (map write_asked (completed upper.aw (data_marks upper))) (map write_reply upper.b)
  after-data =
      let k = length (filter is_end (data_marks upper)) in
      let same : map write_asked (take k upper.aw) ≡ map single (take k asked) = singles-asked (take k upper.aw) ∙ ap (map single) (map-take burst_asked k upper.aw) in
      subst (λ (xs : List Asked). InOrderOfId xs (map write_reply upper.b)) (sym same) (subst (λ (replies : List Reply). InOrderOfId (map single (take k asked)) replies) (sym keeps.b_above) whole-order)

pub split-answers : (above below : Schedule) (now : Progress) (s : SplitState) (upper lower : Beats) → SplitKeeps above below s upper lower → Asks above now upper → Asks below now lower →
    Answers below now lower → Answers above now upper
split-answers above below now s upper lower keeps asks asks_below answers =
    let splits = keeps.splits in
    let bursts = map burst_asked upper.aw in
    let beats = keeps.write_beats in
    let own_reads = λ (t : ℕ). ap (of_key number_of_read_data t) keeps.r ∙ of_key-map number_of_read_data as_last_read t upper.r in
    record {
      answers_in_order_of_id =
          subst (λ (asked : List Asked). InOrderOfId asked (map write_reply upper.b)) (sym (singles-asked upper.aw))
          (subst (λ (replies : List Reply). InOrderOfId (map single bursts) replies) (sym keeps.b_above) (whole-groups_in_order bursts beats keeps.writes.order));
      reads_in_order_of_id = keeps.reads.order;
      responses_are_the_schedules = λ t.
          prefix_same (keeps.worst t) (prefix_of_same
          (groups-prefix (map len_of_burst (above.writes t).parts) (map (λ (b : BBeat). b.resp) (of_key number_of_response t lower.b)) (below.writes t).responses (answers.responses_are_the_schedules t))
          (sym (splits.writes t).responses));
      read_responses_are_the_schedules = λ t.
          let same : map (λ (r : RBeat). r.resp) (of_key number_of_read_data t lower.r) ≡ map (λ (r : RBeat). r.resp) (of_key number_of_read_data t upper.r) =
          ap (map (λ (r : RBeat). r.resp)) (own_reads t) ∙ responses-as_last (of_key number_of_read_data t upper.r) in
          prefix_same (sym same) (prefix_of_same (answers.read_responses_are_the_schedules t) (sym (splits.reads t).responses));
      answered_after_its_data = after-data above below now s upper lower keeps asks answers;
      done_when_answered = λ t some enough.
          let groups : length (worst_of_groups (map len_of_burst (above.writes t).parts) (map (λ (b : BBeat). b.resp) (of_key number_of_response t lower.b))) ≡ length (of_key number_of_response t upper.b) =
          ap length (sym (keeps.worst t)) ∙ length-map (of_key number_of_response t upper.b) (λ (b : BBeat). b.resp) in
          let all = groups-all (map len_of_burst (above.writes t).parts) (map (λ (b : BBeat). b.resp) (of_key number_of_response t lower.b)) (omega (arith, enough, groups, length-map (above.writes t).parts len_of_burst)) in
          let many : length (below.writes t).parts ≡ responses_due (map len_of_burst (above.writes t).parts) = ap length (splits.writes t).parts ∙ responses-due_to_parts (above.writes t).parts in
          answers.done_when_answered t (omega (arith, many, some-beats (above.writes t).parts some))
          (omega (arith, all, many, length-map (of_key number_of_response t lower.b) (λ (b : BBeat). b.resp)));
      lanes_are_whole = lanes-as_last upper.r (subst (λ (rs : List RBeat). All (λ (r : RBeat). length r.lanes ≡ 128) rs) keeps.r answers.lanes_are_whole);
      bytes_are_filled = λ t.
          let same : bytes_on (of_key number_of_read_data t lower.r) (below.reads t).lanes ≡ bytes_on (of_key number_of_read_data t upper.r) (above.reads t).lanes =
          ap₂ (λ (rs : List RBeat) (lanes : List Span). bytes_on rs lanes) (own_reads t) (splits.reads t).lanes ∙ bytes-as_last (of_key number_of_read_data t upper.r) (above.reads t).lanes in
          prefix_same (sym same) (answers.bytes_are_filled t);
    }
  where
    some-beats : (parts : List Addr) → 0 < length parts → 0 < responses_due (map len_of_burst parts)
    some-beats [] some = absurd (omega arith)
    some-beats (a ∷ parts) some = omega arith
