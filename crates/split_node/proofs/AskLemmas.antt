-- What a splitter asks below, of what is asked above.
use Rattle.std.proofs.Common.{◌≡◌, ◌≢◌, ◌<◌, ◌≤◌, ◌+◌, ◌-◌, ◌^◌, ◌==◌, ℕ, zero, suc, Bool, true, List, [], ◌∷◌, ◌++◌, length, map, replicate, refl, sym, ◌∙◌, ap, ap₂, subst, inl, inr, arith, append_assoc, append-nil, length-append}
use Rattle.std.specs.Prelude.{All, IsTrue, flat_map}
use Rattle.std.specs.List.{range_with_len}
use Rattle.std.proofs.lemmas.Bool.{cases_eq, cases_lt}
use Rattle.std.proofs.lemmas.List.{length-map, length-replicate}
use Rattle.std.proofs.lemmas.List.Elements.{All-append, All-cons, All-head, All-nil, All-tail}
use Rattle.std.proofs.lemmas.List.FromFn.{length-map-range_with_len}
use Rattle.axi_beats.specs.declared.beat.Addr.{Addr}
use Rattle.axi_beats.specs.declared.beat.BBeat.{BBeat}
use Rattle.axi_beats.specs.declared.beat.RBeat.{RBeat}
use Rattle.axi_beats.specs.declared.beat.WBeat.{WBeat}
use Rattle.axi_trail.proofs.FilterFacts.{beats_due-append}
use Rattle.plain_lists.proofs.KeyLemmas.{of_key-append, of_key-cons, of_key-map, of_key-skip}
use Rattle.plain_lists.proofs.PrefixLemmas.{agree_prefix, prefix_agree, Agree_fronts, All_front, prefix_flat_map, prefix_length, prefix_map, prefix_of_key, prefix_of_same, prefix_same, prefix_itself, prefix_trans, prefix_whole}
use Rattle.axi_trail.specs.LinkContracts.{Asks, OneIdAtATime, Requests, WholeBeforeTheNext, without_id}
use Rattle.axi_trail.specs.Schedule.{ComesBefore, Progress, SameChain, Schedule, Share}
use Rattle.plain_lists.specs.Prefixes.{Agree, IsPrefix}
use Rattle.axi_trail.specs.Trail.{Beats}
use Rattle.axi_trail.specs.Words.{Asked, InOrderOfId, Mark, Reply, beats_due, burst_asked, mark_of_data, marks, marks_of, number_of_address, number_of_asked, number_of_data, read_reply, write_asked, write_reply}
use Rattle.plain_lists.specs.Keys.{of_key}
use Rattle.burst_cuts.proofs.CutLemmas.{cut, map-append, marks-of_cut, one-id_of_whole}
use Rattle.burst_cuts.proofs.OneIdLemmas.{IsPartAt, one-id_of_cut, part-at}
use Rattle.burst_cuts.proofs.ShownLemmas.{all-of_cut, all-single, asked-of_cut, count-of_cut, cut_all, flat-ones, length-cut, length-parts, number-of_cut, other-singles, same-asked, same-beats, singles-asked, without_id-of_cut}
use Rattle.burst_cuts.specs.CutLaws.{ends, single, single_mark, single_parts, single_reply}
use Rattle.burst_cuts.specs.Parts.{as_last, data_of_part, part_of, parts_of}
use Rattle.split_node.specs.SplitTrail.{split_share, SplitKeeps, left_of_work, as_last_read}
use Rattle.split_node.specs.SplitState.{SplitState}

-- one direction

module _ (above below : ℕ → Share) (issued : ℕ → Bool) (upper lower left : List Addr) (beats : List Reply)
    (same_parts : (t : ℕ) → (below t).parts ≡ cut_all (above t).parts) (chains : (t u : ℕ) → SameChain below t u → SameChain above t u) (cuts : cut_all upper ≡ lower ++ left)
    (its_parts : (t : ℕ) → IsPrefix (map without_id (of_key number_of_address t upper)) (above t).parts) where
  lower-front : IsPrefix lower (cut_all upper)
  lower-front = record { rest = left; whole = cuts }

  abbrev asked : List Asked
  asked = map burst_asked upper

  pub cuts-asked : cut asked ≡ map burst_asked lower ++ map burst_asked left
  cuts-asked = sym (asked-of_cut upper) ∙ ap (map burst_asked) cuts ∙ map-append burst_asked lower left

  parts-below : (t : ℕ) → IsPrefix (map without_id (of_key number_of_address t lower)) (below t).parts
  parts-below t =
      prefix_trans (prefix_map without_id (prefix_of_key number_of_address t lower-front))
      (prefix_same (ap (map without_id) (number-of_cut t upper) ∙ without_id-of_cut (of_key number_of_address t upper)) (prefix_of_same (prefix_flat_map parts_of (its_parts t)) (sym (same_parts t))))

  own-beats : (t : ℕ) → beats_due (of_key number_of_asked t asked) ≡ beats_due (map burst_asked (of_key number_of_address t upper))
  own-beats t = ap beats_due (of_key-map number_of_asked burst_asked t upper)

  -- the requests of a whole transaction have as many beats as its parts below are
  whole-beats : (t : ℕ) → length (of_key number_of_asked t asked) ≡ length (above t).parts → beats_due (of_key number_of_asked t asked) ≡ length (below t).parts
  whole-beats t many =
      let counted : length (of_key number_of_asked t asked) ≡ length (map without_id (of_key number_of_address t upper)) =
      ap length (of_key-map number_of_asked burst_asked t upper) ∙ length-map (of_key number_of_address t upper) burst_asked ∙ sym (length-map (of_key number_of_address t upper) without_id) in
      let all : (above t).parts ≡ map without_id (of_key number_of_address t upper) = prefix_whole (map without_id (of_key number_of_address t upper)) (above t).parts (its_parts t) (omega (arith, many, counted)) in
      own-beats t ∙ sym (same-beats (of_key number_of_address t upper)) ∙ ap (λ (ps : List Addr). beats_due (map burst_asked ps)) (sym all) ∙ sym (length-cut (above t).parts) ∙ ap length (sym (same_parts t))

  whole-below : WholeBeforeTheNext above asked → WholeBeforeTheNext below (map burst_asked lower)
  whole-below whole before x after t put_is (earlier, chain) =
      let at_x : cut asked ≡ before ++ x ∷ (after ++ map burst_asked left) = cuts-asked ∙ ap (λ (l : List Asked). l ++ map burst_asked left) put_is ∙ append_assoc before (x ∷ after) (map burst_asked left) in
      from (part-at asked before x (after ++ map burst_asked left) at_x)
    where
      from : (place : IsPartAt asked before x (after ++ map burst_asked left)) → length (of_key number_of_asked t before) ≡ length (below t).parts
      from place =
          let number : x.number ≡ place.request.number = ap number_of_asked place.is in
          let other : place.request.number ≢ t = λ same. absurd (omega (arith, same, number, earlier)) in
          let many : length (of_key number_of_asked t place.before) ≡ length (above t).parts =
          whole place.before place.request place.after t place.whole (omega (arith, earlier, number), chains t place.request.number (subst (λ (n : ℕ). SameChain below t n) number chain)) in
          -- there are no more of it
          let front : IsPrefix (of_key number_of_asked t place.before) (of_key number_of_asked t asked) = prefix_of_key number_of_asked t (record { rest = place.request ∷ place.after; whole = place.whole }) in
          let counted : length (of_key number_of_asked t asked) ≡ length (map without_id (of_key number_of_address t upper)) =
          ap length (of_key-map number_of_asked burst_asked t upper) ∙ length-map (of_key number_of_address t upper) burst_asked ∙ sym (length-map (of_key number_of_address t upper) without_id) in
          let all : of_key number_of_asked t asked ≡ of_key number_of_asked t place.before =
          prefix_whole (of_key number_of_asked t place.before) (of_key number_of_asked t asked) front (omega (arith, many, counted, prefix_length (its_parts t))) in
          let beats_are : beats_due (of_key number_of_asked t place.before) ≡ length (below t).parts = ap beats_due (sym all) ∙ whole-beats t (ap length all ∙ many) in
          let before_is : length (of_key number_of_asked t before) ≡ length (of_key number_of_asked t (cut place.before)) + length (of_key number_of_asked t (replicate place.count (single place.request))) =
          ap (λ (l : List Asked). length (of_key number_of_asked t l)) place.earlier ∙ length-parts t (cut place.before) (replicate place.count (single place.request)) in
          omega (arith, beats_are, before_is, count-of_cut t place.before, other-singles t place.count place.request other)

  pub requests-below : (width width_below : ℕ) → width_below ≡ width → All (λ (a : Addr). a.id < 2 ^ width) upper → All (λ (a : Addr). IsTrue (issued a.tag.txn)) upper → WholeBeforeTheNext above asked → OneIdAtATime above asked beats →
      Requests below width_below issued burst_asked lower (map single_reply beats)
  requests-below width width_below same fit was whole one = record {
    asks_only_its_parts = parts-below;
    ids_fit = subst (λ (w : ℕ). All (λ (a : Addr). a.id < 2 ^ w) lower) (sym same) (All_front (λ (a : Addr). a.id < 2 ^ width) lower-front (all-of_cut (λ (a : Addr). a.id < 2 ^ width) (λ a n fits. fits) upper fit));
    whole_before_the_next = whole-below whole;
    one_id_at_a_time = one-id_of_cut above below asked (map burst_asked lower) (map burst_asked left) beats chains cuts-asked one;
    was_issued = All_front (λ (a : Addr). IsTrue (issued a.tag.txn)) lower-front (all-of_cut (λ (a : Addr). IsTrue (issued a.tag.txn)) (λ a n is. is) upper was);
  }

-- of single requests

whole-of_singles : (shares : ℕ → Share) (asked : List Asked) → WholeBeforeTheNext shares (map single asked) → WholeBeforeTheNext shares asked
whole-of_singles shares asked whole before a after t place comes =
    sym (length-map (of_key number_of_asked t before) single) ∙ ap length (sym (of_key-map number_of_asked single t before))
    ∙ whole (map single before) (single a) (map single after) t (ap (map single) place ∙ map-append single before (a ∷ after)) comes

-- data

marks-as_last : (ws : List WBeat) → map mark_of_data (map as_last ws) ≡ map single_mark (map mark_of_data ws)
marks-as_last [] = refl
marks-as_last (w ∷ ws) = ap (λ (l : List Mark). single_mark (mark_of_data w) ∷ l) (marks-as_last ws)

pub agree-sym : {X : Type 0} (xs ys : List X) → Agree xs ys → Agree ys xs
agree-sym xs ys agree = record { same = λ place past in_ys in_xs. sym (agree.same place past in_xs in_ys) }

agree-map : {X Y : Type 0} (f : X → Y) (xs ys : List X) → Agree xs ys → Agree (map f xs) (map f ys)
agree-map f xs ys agree = elim (cases_lt (length ys) (length xs)) [
  | inr le ↦ prefix_agree (prefix_map f (agree_prefix xs ys agree le))
  | inl lt ↦ agree-sym (map f ys) (map f xs) (prefix_agree (prefix_map f (agree_prefix ys xs (agree-sym xs ys agree) (omega arith))))
]

pub r-replies : (rs : List RBeat) → map read_reply (map as_last_read rs) ≡ map single_reply (map read_reply rs)
r-replies [] = refl
r-replies (r ∷ rs) = ap (λ (l : List Reply). single_reply (read_reply r) ∷ l) (r-replies rs)

pub split-asks : (above below : Schedule) (now : Progress) (s : SplitState) (upper lower : Beats) → SplitKeeps above below s upper lower → Asks above now upper → Asks below now lower
split-asks above below now s upper lower keeps asks =
    let splits = keeps.splits in
    let bursts = map burst_asked upper.aw in
    let lower_single : All (λ (a : Addr). a.len ≡ 0) lower.aw = All_front (λ (a : Addr). a.len ≡ 0) (record { rest = left_of_work s.write_work; whole = keeps.writes.parts }) (all-single upper.aw) in
    let one_above : OneIdAtATime above.writes (map single bursts) (ends keeps.write_beats) =
    subst (λ (asked : List Asked). OneIdAtATime above.writes asked (ends keeps.write_beats)) (singles-asked upper.aw)
    (subst (λ (replies : List Reply). OneIdAtATime above.writes (map write_asked upper.aw) replies) keeps.b_above asks.writes.one_id_at_a_time) in
    let whole_above : WholeBeforeTheNext above.writes bursts = whole-of_singles above.writes bursts (subst (λ (asked : List Asked). WholeBeforeTheNext above.writes asked) (singles-asked upper.aw) asks.writes.whole_before_the_next) in
    let writes : Requests below.writes below.id_width now.issued burst_asked lower.aw (map single_reply keeps.write_beats) =
    requests-below above.writes below.writes now.issued upper.aw lower.aw (left_of_work s.write_work) keeps.write_beats (λ t. (splits.writes t).parts) splits.write_chains keeps.writes.parts asks.writes.asks_only_its_parts
    above.id_width below.id_width splits.id_width asks.writes.ids_fit asks.writes.was_issued whole_above (one-id_of_whole above.writes bursts keeps.write_beats keeps.writes.order one_above) in
    let reads : Requests below.reads below.id_width now.issued burst_asked lower.ar (map single_reply (map read_reply upper.r)) =
    requests-below above.reads below.reads now.issued upper.ar lower.ar (left_of_work s.read_work) (map read_reply upper.r) (λ t. (splits.reads t).parts) splits.read_chains keeps.reads.parts asks.reads.asks_only_its_parts
    above.id_width below.id_width splits.id_width asks.reads.ids_fit asks.reads.was_issued asks.reads.whole_before_the_next asks.reads.one_id_at_a_time in
    let read_replies_are : map read_reply lower.r ≡ map single_reply (map read_reply upper.r) = ap (map read_reply) keeps.r ∙ r-replies upper.r in
    record {
      writes = as-writes (subst (λ (replies : List Reply). Requests below.writes below.id_width now.issued burst_asked lower.aw replies) (sym keeps.b_below) writes) (same-asked lower.aw lower_single);
      reads = subst (λ (replies : List Reply). Requests below.reads below.id_width now.issued burst_asked lower.ar replies) (sym read_replies_are) reads;
      data_is_the_schedules = λ t.
          let own : of_key number_of_data t lower.w ≡ map as_last (of_key number_of_data t upper.w) = ap (of_key number_of_data t) keeps.w ∙ of_key-map number_of_data as_last t upper.w in
          let due : flat_map (λ (beats : List WBeat). beats) (below.writes t).write_data ≡ map as_last (flat_map (λ (beats : List WBeat). beats) (above.writes t).write_data) =
          ap (flat_map (λ (beats : List WBeat). beats)) (splits.writes t).write_data ∙ flat-ones (flat_map (λ (beats : List WBeat). beats) (above.writes t).write_data) in
          prefix_same own (prefix_of_same (prefix_map as_last (asks.data_is_the_schedules t)) (sym due));
      data_follows_addresses =
          let own_marks : map mark_of_data lower.w ≡ map single_mark (map mark_of_data upper.w) = ap (map mark_of_data) keeps.w ∙ marks-as_last upper.w in
          let asked : cut bursts ≡ map burst_asked lower.aw ++ map burst_asked (left_of_work s.write_work) = sym (asked-of_cut upper.aw) ∙ ap (map burst_asked) keeps.writes.parts ∙ map-append burst_asked lower.aw (left_of_work s.write_work) in
          let announced : IsPrefix (marks (map burst_asked lower.aw)) (map single_mark (marks bursts)) =
          prefix_of_same (prefix_flat_map marks_of (record { rest = map burst_asked (left_of_work s.write_work); whole = asked })) (marks-of_cut bursts) in
          Agree_fronts (prefix_same own_marks (prefix_itself (map single_mark (map mark_of_data upper.w)))) announced (agree-map single_mark (map mark_of_data upper.w) (marks bursts) asks.data_follows_addresses);
    }
  where
    as-writes : {replies : List Reply} → Requests below.writes below.id_width now.issued burst_asked lower.aw replies → map burst_asked lower.aw ≡ map write_asked lower.aw → Requests below.writes below.id_width now.issued write_asked lower.aw replies
    as-writes {replies} is same = record {
      asks_only_its_parts = is.asks_only_its_parts;
      ids_fit = is.ids_fit;
      whole_before_the_next = subst (λ (asked : List Asked). WholeBeforeTheNext below.writes asked) same is.whole_before_the_next;
      one_id_at_a_time = subst (λ (asked : List Asked). OneIdAtATime below.writes asked replies) same is.one_id_at_a_time;
      was_issued = is.was_issued;
    }
