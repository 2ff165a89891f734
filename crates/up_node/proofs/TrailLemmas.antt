-- What an up converter has passed on its two links.
use Rattle.std.proofs.Common.{◌≡◌, ◌<◌, ◌^◌, ◌==◌, ◌&&◌, ℕ, suc, Bool, List, [], ◌∷◌, ◌++◌, Option, None, Some, length, map, refl, sym, ◌∙◌, ap, ap₂, subst, arith, inl, inr, append-nil}
use Rattle.std.specs.Prelude.{◌⊎◌, All, IfSome, flat_map, is_some, take}
use Rattle.std.specs.Option.{option_and_then}
use Rattle.std.proofs.lemmas.List.{map-append}
use Rattle.std.proofs.lemmas.List.Elements.{All-filter, All-nil}
use Rattle.std.proofs.lemmas.Simd.{map-map}
use Rattle.axi_beats.specs.declared.beat.Addr.{Addr}
use Rattle.axi_beats.specs.declared.beat.BBeat.{BBeat}
use Rattle.axi_beats.specs.declared.beat.RBeat.{RBeat}
use Rattle.axi_beats.specs.declared.beat.WBeat.{WBeat}
use Rattle.axi_link.specs.LinkWords.{has_room, head_of, link_of}
use Rattle.axi_link.specs.Moves.{appended, takes_from}
use Rattle.axi_trail.specs.LinkContracts.{Answers, Asks, OneIdAtATime, Requests, without_id}
use Rattle.axi_trail.specs.Schedule.{Progress, SameChain, Schedule, Share, bytes_on}
use Rattle.axi_trail.specs.Trail.{Beats, beat_taken, no_beats, seen_above, seen_below}
use Rattle.axi_trail.specs.Waiting.{Waiting, advanced}
use Rattle.axi_trail.specs.Words.{Asked, InOrderOfId, Mark, Reply, announced_marks, burst_asked, completed, data_marks, mark_of_data, marks, marks_of, number_of_address, number_of_read_data, number_of_response, read_replies, read_reply, write_asked, write_replies, write_reply}
use Rattle.burst_cuts.specs.Parts.{len_of_burst}
use Rattle.node_core.specs.Rows.{fits, put_of, take_of}
use Rattle.node_shape.specs.Kind.{passed_after}
use Rattle.node_shape.specs.KindLaws.{AnswersAbove, AsksBelow, Lasts, MayDecide, Opens}
use Rattle.node_shape.specs.WayLaws.{FillsAtEnds}
use Rattle.node_shape.proofs.OneLinkLemmas.{all-one, of-one}
use Rattle.plain_lists.proofs.KeyLemmas.{of_key-map, of_key-push}
use Rattle.plain_lists.proofs.PartLemmas.{All-middle}
use Rattle.plain_lists.proofs.PrefixLemmas.{Agree_fronts, All_front, prefix_append, prefix_flat_map, prefix_itself, prefix_map, prefix_nil, prefix_of_same, prefix_same}
use Rattle.plain_lists.specs.Keys.{of_key}
use Rattle.plain_lists.specs.Prefixes.{Agree, IsPrefix}
use Rattle.up_node.proofs.ByteLemmas.{bytes-moved, shifts-within}
use Rattle.up_node.proofs.DataSteps.{DataKeeps, data-address, data-beat}
use Rattle.up_node.proofs.MovedLemmas.{data-flat, moved-nil, moved-prefix}
use Rattle.up_node.proofs.ReadSteps.{ReadKeeps, read-address, read-beat, replies-same}
use Rattle.up_node.proofs.StepLemmas.{MovesFor, first-entry, one_of, put-one, row-cases, taken-head, taken-none, taken-one}
use Rattle.up_node.specs.UpBeats.{beat_narrowed, beat_shift, beat_widened}
use Rattle.up_node.specs.UpCut.{all_shifts}
use Rattle.up_node.specs.UpState.{IsBurstOn, IsUpShape, UpState, new_up}
use Rattle.up_node.specs.UpTable.{data_moved, entries_after_address, entries_after_data, entries_after_read_data, oldest_of_id, read_data_moved, up_above, up_ar, up_aw, up_b, up_below}
use Rattle.up_node.specs.UpTrail.{IsWidened, UpKeeps, Widens, up_kind, without_lanes}
use Rattle.up_node.specs.declared.shape.UpShape.{UpShape}

-- Nothing has passed at the start.
opens : (above below : Schedule) (shape : UpShape) → Widens shape above below → UpKeeps above below (new_up shape) no_beats no_beats
opens above below shape widens = record {
  widens = widens;
  aw = refl;
  ar = refl;
  b = refl;
  marks = refl;
  answers = refl;
  moved_data = λ t. sym (moved-nil (beat_widened shape) (all_shifts shape (above.writes t).parts));
  moved_read_data = λ t. sym (moved-nil (beat_narrowed shape) (all_shifts shape (above.reads t).parts));
  lanes_are_whole = All-nil (λ (r : RBeat). length r.lanes ≡ 128);
  in_order = prefix_nil (announced_marks no_beats);
  pending_writes = refl;
  held_reads = refl;
}

-- The parts of what is asked, so far, are for bursts on the bus.
head-burst : (bus : ℕ) (parts_of : ℕ → List Addr) (addresses queue : List Addr) → ((t : ℕ) → IsPrefix (map without_id (of_key number_of_address t (addresses ++ take 1 queue))) (parts_of t)) →
    ((t : ℕ) → All (IsBurstOn bus) (parts_of t)) → IfSome (head_of queue) (IsBurstOn bus)
head-burst bus parts_of addresses [] asked bursts = tt
head-burst bus parts_of addresses (a ∷ queue) asked bursts =
    let t = a.tag.txn in
    let all : All (IsBurstOn bus) (map without_id (of_key number_of_address t (addresses ++ a ∷ []))) = All_front (IsBurstOn bus) (asked t) (bursts t) in
    let own : map without_id (of_key number_of_address t (addresses ++ a ∷ [])) ≡ map without_id (of_key number_of_address t addresses) ++ without_id a ∷ [] =
    ap (map without_id) (of_key-push number_of_address t addresses a refl) ∙ map-append without_id (of_key number_of_address t addresses) (a ∷ []) in
    let is : IsBurstOn bus (without_id a) = All-middle (IsBurstOn bus) (map without_id (of_key number_of_address t addresses)) (without_id a) [] (subst (All (IsBurstOn bus)) own all) in
    record { legal = is.legal; small = is.small }

-- One round of write data: first the beat, then the address.
module _ (shape : UpShape) (parts_of : ℕ → List Addr) (room : Bool) (queue : List WBeat) (entries : List (Waiting Addr)) (aw : List Addr) (upper lower : List WBeat)
    (keeps : DataKeeps shape parts_of entries aw upper lower) (asked : (t : ℕ) → IsPrefix (map without_id (of_key number_of_address t aw)) (parts_of t)) where
  abbrev data_row : Option WBeat
  data_row = data_moved shape room (head_of queue) entries

  abbrev data_taken : List WBeat
  data_taken = beat_taken (takes_from shape.upper (take_of shape.upper (is_some data_row))) queue

  abbrev data_put : List WBeat
  data_put = appended shape.lower (put_of shape.lower data_row)

  data-step : Agree (map mark_of_data (upper ++ data_taken)) (marks (map burst_asked aw)) → DataKeeps shape parts_of (entries_after_data data_row entries) aw (upper ++ data_taken) (lower ++ data_put)
  data-step agree = go (row-cases shape (beat_widened shape) room queue (head_of entries))
    where
      go : (data_row ≡ None) ⊎ MovesFor shape (beat_widened shape) queue (head_of entries) data_row → DataKeeps shape parts_of (entries_after_data data_row entries) aw (upper ++ data_taken) (lower ++ data_put)
      go (inl none) =
          subst (λ (us : List WBeat). DataKeeps shape parts_of (entries_after_data data_row entries) aw (upper ++ us) (lower ++ data_put)) (sym (taken-none shape.upper data_row queue none))
          (subst (λ (o : Option WBeat). DataKeeps shape parts_of (entries_after_data o entries) aw (upper ++ []) (lower ++ appended shape.lower (put_of shape.lower o))) (sym none)
          (subst (λ (us : List WBeat). DataKeeps shape parts_of entries aw us (lower ++ [])) (sym (append-nil upper))
          (subst (λ (ls : List WBeat). DataKeeps shape parts_of entries aw upper ls) (sym (append-nil lower)) keeps)))
      go (inr m) =
          let first = first-entry entries m.its m.entry_is in
          let taken : data_taken ≡ m.beat ∷ [] = taken-head shape.upper data_row _ queue m.beat m.rest m.row_is m.queue_is in
          let put : data_put ≡ beat_widened shape (beat_shift shape m.its.request m.its.done) m.beat ∷ [] = put-one shape.lower data_row ∙ ap one_of m.row_is in
          let here : DataKeeps shape parts_of (m.its ∷ first.0) aw upper lower = subst (λ (es : List (Waiting Addr)). DataKeeps shape parts_of es aw upper lower) first.1 keeps in
          let after = data-beat shape parts_of m.its first.0 aw upper lower here asked m.beat (subst (λ (us : List WBeat). Agree (map mark_of_data (upper ++ us)) (marks (map burst_asked aw))) taken agree) in
          subst (λ (us : List WBeat). DataKeeps shape parts_of (entries_after_data data_row entries) aw (upper ++ us) (lower ++ data_put)) (sym taken)
          (subst (λ (ls : List WBeat). DataKeeps shape parts_of (entries_after_data data_row entries) aw (upper ++ m.beat ∷ []) (lower ++ ls)) (sym put)
          (subst (λ (es : List (Waiting Addr)). DataKeeps shape parts_of es aw (upper ++ m.beat ∷ []) (lower ++ beat_widened shape (beat_shift shape m.its.request m.its.done) m.beat ∷ []))
          (ap (λ (es : List (Waiting Addr)). advanced len_of_burst es) (sym first.1) ∙ sym (ap (λ (o : Option WBeat). entries_after_data o entries) m.row_is)) after))

data-addressed : (shape : UpShape) (parts_of : ℕ → List Addr) (row : Option Addr) (more : List Addr) → more ≡ one_of row → (entries : List (Waiting Addr)) (aw : List Addr) (upper lower : List WBeat) →
    DataKeeps shape parts_of entries aw upper lower → DataKeeps shape parts_of (entries_after_address row entries) (aw ++ more) upper lower
data-addressed shape parts_of row more is entries aw upper lower keeps = subst (λ (xs : List Addr). DataKeeps shape parts_of (entries_after_address row entries) (aw ++ xs) upper lower) (sym is) (go row)
  where
    go : (row : Option Addr) → DataKeeps shape parts_of (entries_after_address row entries) (aw ++ one_of row) upper lower
    go None = subst (λ (xs : List Addr). DataKeeps shape parts_of entries xs upper lower) (sym (append-nil aw)) keeps
    go (Some a) = data-address shape parts_of entries aw upper lower keeps a

-- One round of read data.
module _ (shape : UpShape) (shares : ℕ → Share) (room : Bool) (queue : List RBeat) (entries : List (Waiting Addr)) (ar : List Addr) (upper lower : List RBeat)
    (keeps : ReadKeeps shape shares entries ar upper lower) (one : OneIdAtATime shares (map burst_asked ar) (map read_reply upper)) (order : InOrderOfId (map burst_asked ar) (map read_reply upper))
    (parts : (t : ℕ) → IsPrefix (map without_id (of_key number_of_address t ar)) (shares t).parts)
    (seen : InOrderOfId (map burst_asked ar) (map read_reply (lower ++ take 1 queue))) where
  abbrev read_row : Option RBeat
  read_row = read_data_moved shape room (head_of queue) entries

  abbrev read_taken : List RBeat
  read_taken = beat_taken (takes_from shape.lower (take_of shape.lower (is_some read_row))) queue

  abbrev read_put : List RBeat
  read_put = appended shape.upper (put_of shape.upper read_row)

  -- what a round leaves, in order
  pub record ReadAfter (us ls : List RBeat) : Type 0 where
    pub kept : ReadKeeps shape shares (entries_after_read_data read_row entries) ar us ls
    pub in_order : InOrderOfId (map burst_asked ar) (map read_reply us)

  read-step : ReadAfter (upper ++ read_put) (lower ++ read_taken)
  read-step = go (row-cases shape (beat_narrowed shape) room queue (option_and_then (λ (r : RBeat). oldest_of_id r.id entries) (head_of queue)))
    where
      go : (read_row ≡ None) ⊎ MovesFor shape (beat_narrowed shape) queue (option_and_then (λ (r : RBeat). oldest_of_id r.id entries) (head_of queue)) read_row → ReadAfter (upper ++ read_put) (lower ++ read_taken)
      go (inl none) =
          let put : upper ++ read_put ≡ upper = ap (λ (o : Option RBeat). upper ++ appended shape.upper (put_of shape.upper o)) none ∙ append-nil upper in
          let taken : lower ++ read_taken ≡ lower = ap (λ (ls : List RBeat). lower ++ ls) (taken-none shape.lower read_row queue none) ∙ append-nil lower in
          subst (λ (us : List RBeat). ReadAfter us (lower ++ read_taken)) (sym put) (subst (λ (ls : List RBeat). ReadAfter upper ls) (sym taken) (record {
            kept = subst (λ (o : Option RBeat). ReadKeeps shape shares (entries_after_read_data o entries) ar upper lower) (sym none) keeps;
            in_order = order;
          }))
      go (inr m) =
          let taken : read_taken ≡ m.beat ∷ [] = taken-head shape.lower read_row _ queue m.beat m.rest m.row_is m.queue_is in
          let put : read_put ≡ beat_narrowed shape (beat_shift shape m.its.request m.its.done) m.beat ∷ [] = put-one shape.upper read_row ∙ ap one_of m.row_is in
          let oldest : oldest_of_id m.beat.id entries ≡ Some m.its = ap (λ (q : List RBeat). option_and_then (λ (r : RBeat). oldest_of_id r.id entries) (head_of q)) (sym m.queue_is) ∙ m.entry_is in
          let next : InOrderOfId (map burst_asked ar) (map read_reply lower ++ read_reply m.beat ∷ []) =
          subst (λ (ps : List Reply). InOrderOfId (map burst_asked ar) ps) (ap (λ (q : List RBeat). map read_reply (lower ++ take 1 q)) m.queue_is ∙ map-append read_reply lower (m.beat ∷ [])) seen in
          let moved : RBeat = beat_narrowed shape (beat_shift shape m.its.request m.its.done) m.beat in
          let after = read-beat shape shares entries ar upper lower keeps one order parts m.beat m.its oldest next in
          let ordered : InOrderOfId (map burst_asked ar) (map read_reply (upper ++ moved ∷ [])) =
          subst (λ (ps : List Reply). InOrderOfId (map burst_asked ar) ps) (ap (λ (ps : List Reply). ps ++ read_reply m.beat ∷ []) (sym (replies-same shape shares entries ar upper lower keeps)) ∙ sym (map-append read_reply upper (moved ∷ []))) next in
          subst (λ (us : List RBeat). ReadAfter (upper ++ us) (lower ++ read_taken)) (sym put) (subst (λ (ls : List RBeat). ReadAfter (upper ++ moved ∷ []) (lower ++ ls)) (sym taken) (record {
            kept = subst (λ (o : Option RBeat). ReadKeeps shape shares (entries_after_read_data o entries) ar (upper ++ moved ∷ []) (lower ++ m.beat ∷ [])) (sym m.row_is) after;
            in_order = ordered;
          }))

read-addressed : (shape : UpShape) (shares : ℕ → Share) (row : Option Addr) (more : List Addr) → more ≡ one_of row → (entries : List (Waiting Addr)) (ar : List Addr) (upper lower : List RBeat) →
    ReadKeeps shape shares entries ar upper lower → InOrderOfId (map burst_asked ar) (map read_reply upper) → ReadKeeps shape shares (entries_after_address row entries) (ar ++ more) upper lower
read-addressed shape shares row more is entries ar upper lower keeps order = subst (λ (xs : List Addr). ReadKeeps shape shares (entries_after_address row entries) (ar ++ xs) upper lower) (sym is) (go row)
  where
    go : (row : Option Addr) → ReadKeeps shape shares (entries_after_address row entries) (ar ++ one_of row) upper lower
    go None = subst (λ (xs : List Addr). ReadKeeps shape shares entries xs upper lower) (sym (append-nil ar)) keeps
    go (Some a) = read-address shape shares entries ar upper lower keeps order a

-- What is told of answers is told of them without their bytes.
pub replies-alike : (upper lower : List RBeat) → map without_lanes upper ≡ map without_lanes lower → map read_reply upper ≡ map read_reply lower
replies-alike upper lower same = sym (map-map read_reply without_lanes upper) ∙ ap (map read_reply) same ∙ map-map read_reply without_lanes lower

resps-alike : (t : ℕ) (upper lower : List RBeat) → map without_lanes upper ≡ map without_lanes lower →
    map (λ (r : RBeat). r.resp) (of_key number_of_read_data t upper) ≡ map (λ (r : RBeat). r.resp) (of_key number_of_read_data t lower)
resps-alike t upper lower same = bare upper ∙ ap (λ (rs : List RBeat). map (λ (r : RBeat). r.resp) (of_key number_of_read_data t rs)) same ∙ sym (bare lower)
  where
    bare : (rs : List RBeat) → map (λ (r : RBeat). r.resp) (of_key number_of_read_data t rs) ≡ map (λ (r : RBeat). r.resp) (of_key number_of_read_data t (map without_lanes rs))
    bare rs =
        sym (map-map (λ (r : RBeat). r.resp) without_lanes (of_key number_of_read_data t rs))
        ∙ sym (ap (map (λ (r : RBeat). r.resp)) (of_key-map number_of_read_data without_lanes t rs))

-- What it asks below.
requests-below : (shape : UpShape) (above below : ℕ → Share) (wide narrow : ℕ) (issued : ℕ → Bool) (shown : Addr → Asked) (xs ys : List Addr) (ps qs : List Reply) →
    narrow ≡ wide → ((t : ℕ) → IsWidened shape (above t) (below t)) → ((t u : ℕ) → SameChain below t u → SameChain above t u) → ys ≡ xs → qs ≡ ps →
    Requests above wide issued shown xs ps → Requests below narrow issued shown ys qs
requests-below shape above below wide narrow issued shown xs ys ps qs width same chains addresses replies asks =
    subst (λ (l : List Addr). Requests below narrow issued shown l qs) (sym addresses)
    (subst (λ (l : List Reply). Requests below narrow issued shown xs l) (sym replies) (record {
      asks_only_its_parts = λ t. prefix_of_same (asks.asks_only_its_parts t) (sym (same t).parts);
      ids_fit = subst (λ (w : ℕ). All (λ (a : Addr). a.id < 2 ^ w) xs) (sym width) asks.ids_fit;
      whole_before_the_next = λ before a after t split earlier.
          asks.whole_before_the_next before a after t split (earlier.0, chains t a.number earlier.1) ∙ ap length (sym (same t).parts);
      one_id_at_a_time = λ before a between next after split one differ. asks.one_id_at_a_time before a between next after split (chains a.number next.number one) differ;
      was_issued = asks.was_issued;
    }))

asks-below : (above below : Schedule) (now : Progress) (s : UpState) (upper lower : Beats) → UpKeeps above below s upper lower → Asks above now upper → Asks below now lower
asks-below above below now s upper lower keeps asks =
    let widens = keeps.widens in
    record {
      writes = requests-below s.shape above.writes below.writes above.id_width below.id_width now.issued write_asked upper.aw lower.aw (write_replies upper) (write_replies lower)
          widens.id_width widens.writes widens.write_chains keeps.aw (ap (map write_reply) (sym keeps.b)) asks.writes;
      reads = requests-below s.shape above.reads below.reads above.id_width below.id_width now.issued burst_asked upper.ar lower.ar (read_replies upper) (read_replies lower)
          widens.id_width widens.reads widens.read_chains keeps.ar (sym (replies-alike upper.r lower.r keeps.answers)) asks.reads;
      data_is_the_schedules = λ t.
          prefix_of_same
          (prefix_same (keeps.moved_data t) (moved-prefix (beat_widened s.shape) (all_shifts s.shape (above.writes t).parts) (asks.data_is_the_schedules t)))
          (sym (data-flat s.shape (above.writes t).parts (above.writes t).write_data (widens.whole t))
          ∙ sym (ap (λ (d : List (List WBeat)). flat_map (λ (beats : List WBeat). beats) d) (widens.writes t).write_data));
      data_follows_addresses =
          subst (λ (l : List Addr). Agree (data_marks lower) (marks (map burst_asked l))) (sym keeps.aw)
          (subst (λ (ms : List Mark). Agree ms (announced_marks upper)) (sym keeps.marks) asks.data_follows_addresses);
    }

-- What it answers above.
in-order : {xs ys : List Asked} {ps qs : List Reply} → xs ≡ ys → ps ≡ qs → InOrderOfId xs ps → InOrderOfId ys qs
in-order {xs} {ys} {ps} {qs} asked replies order = subst (λ (l : List Asked). InOrderOfId l qs) asked (subst (λ (l : List Reply). InOrderOfId xs l) replies order)

bytes-above : (above below : Schedule) (s : UpState) (upper lower : Beats) → IsUpShape s.shape → UpKeeps above below s upper lower → All (λ (r : RBeat). length r.lanes ≡ 128) lower.r → (t : ℕ) →
    bytes_on (of_key number_of_read_data t upper.r) (above.reads t).lanes ≡ bytes_on (of_key number_of_read_data t lower.r) (below.reads t).lanes
bytes-above above below s upper lower is keeps whole t =
    let shifts = all_shifts s.shape (above.reads t).parts in
    ap (λ (rs : List RBeat). bytes_on rs (above.reads t).lanes) (keeps.moved_read_data t)
    ∙ bytes-moved s.shape shifts (of_key number_of_read_data t lower.r) (above.reads t).lanes (shifts-within s.shape is (above.reads t).parts)
    (All-filter (λ (r : RBeat). number_of_read_data r == t) (λ (r : RBeat). length r.lanes ≡ 128) lower.r whole) (keeps.widens.reads t).on_bus
    ∙ ap (bytes_on (of_key number_of_read_data t lower.r)) (sym (keeps.widens.reads t).lanes)

answers-above : (above below : Schedule) (now : Progress) (s : UpState) (upper lower : Beats) → IsUpShape s.shape → UpKeeps above below s upper lower → Answers below now lower → Answers above now upper
answers-above above below now s upper lower is keeps answers =
    let widens = keeps.widens in
    let writes_are : map write_asked lower.aw ≡ map write_asked upper.aw = ap (map write_asked) keeps.aw in
    let replies_are : write_replies lower ≡ write_replies upper = ap (map write_reply) (sym keeps.b) in
    let completed_are : map write_asked (completed lower.aw (data_marks lower)) ≡ map write_asked (completed upper.aw (data_marks upper)) =
    ap (λ (l : List Addr). map write_asked (completed l (data_marks lower))) keeps.aw ∙ ap (λ (ms : List Mark). map write_asked (completed upper.aw ms)) keeps.marks in
    record {
      answers_in_order_of_id = in-order writes_are replies_are answers.answers_in_order_of_id;
      reads_in_order_of_id = in-order (ap (map burst_asked) keeps.ar) (sym (replies-alike upper.r lower.r keeps.answers)) answers.reads_in_order_of_id;
      responses_are_the_schedules = λ t.
          prefix_same (ap (λ (l : List BBeat). map (λ (b : BBeat). b.resp) (of_key number_of_response t l)) keeps.b)
          (prefix_of_same (answers.responses_are_the_schedules t) (widens.writes t).responses);
      read_responses_are_the_schedules = λ t. prefix_same (resps-alike t upper.r lower.r keeps.answers) (prefix_of_same (answers.read_responses_are_the_schedules t) (widens.reads t).responses);
      answered_after_its_data = in-order completed_are replies_are answers.answered_after_its_data;
      done_when_answered = λ t some all.
          let many : length (below.writes t).parts ≡ length (above.writes t).parts = ap length (widens.writes t).parts in
          let answered : length (of_key number_of_response t upper.b) ≡ length (of_key number_of_response t lower.b) = ap (λ (l : List BBeat). length (of_key number_of_response t l)) keeps.b in
          answers.done_when_answered t (omega (arith, many, some)) (omega (arith, many, all, answered));
      lanes_are_whole = keeps.lanes_are_whole;
      bytes_are_filled = λ t. prefix_same (bytes-above above below s upper lower is keeps answers.lanes_are_whole t) (answers.bytes_are_filled t);
    }

module _ (E : Type 0) where
  pub up-opens : Opens (up_kind {E = E})
  up-opens schedules s new widens =
      subst (λ (t : UpState). UpKeeps (schedules s.shape.upper) (schedules s.shape.lower) t no_beats no_beats) (sym new.new) (opens (schedules s.shape.upper) (schedules s.shape.lower) s.shape widens)

  pub up-may_decide : MayDecide (up_kind {E = E})
  up-may_decide schedules now rounds links s passed fact suits uppers lowers asked =
      let seen = of-one (λ l. Asks (schedules l) now (seen_below (passed.uppers l) (link_of links l))) s.shape.upper asked in
      let trail = passed.uppers s.shape.upper in
      record {
        upper = of-one (λ l. l < length links) s.shape.upper uppers;
        lower = of-one (λ l. l < length links) s.shape.lower lowers;
        aw = head-burst s.shape.narrow (λ t. ((schedules s.shape.upper).writes t).parts) trail.aw (up_above links s).aw seen.writes.asks_only_its_parts (λ t. (suits.writes t).bursts);
        ar = head-burst s.shape.narrow (λ t. ((schedules s.shape.upper).reads t).parts) trail.ar (up_above links s).ar seen.reads.asks_only_its_parts (λ t. (suits.reads t).bursts);
      }

  pub up-lasts : Lasts (up_kind {E = E})
  up-lasts schedules now rounds links s passed fact keeps can around =
      let upper = s.shape.upper in
      let lower = s.shape.lower in
      let above = up_above links s in
      let below = up_below links s in
      let schedule = schedules upper in
      let u = passed.uppers upper in
      let l = passed.lowers lower in
      let asks = of-one (λ k. Asks (schedules k) now (passed.uppers k)) upper around.asked in
      let later = of-one (λ k. Asks (schedules k) now ((passed_after (up_kind {E = E}) (suc rounds) links s passed).uppers k)) upper around.asked_next in
      let answers = of-one (λ k. Answers (schedules k) now (passed.uppers k)) upper around.answers in
      let seen = of-one (λ k. Answers (schedules k) now (seen_above (passed.lowers k) (link_of links k))) lower around.answered_seen in
      let aw_taken = taken-one upper (fits s.writes && has_room below.depth below.aw) above.aw in
      let ar_taken = taken-one upper (fits s.reads && has_room below.depth below.ar) above.ar in
      let agree = Agree_fronts (prefix_itself _) (prefix_flat_map marks_of (prefix_map burst_asked (prefix_append u.aw _))) later.data_follows_addresses in
      let data_before : DataKeeps s.shape (λ t. (schedule.writes t).parts) s.writes u.aw u.w l.w = record { same = keeps.marks; moved = keeps.moved_data; in_order = keeps.in_order; waits = keeps.pending_writes } in
      let data_after = data-addressed s.shape (λ t. (schedule.writes t).parts) (up_aw links s) _ aw_taken _ u.aw _ _
      (data-step s.shape (λ t. (schedule.writes t).parts) (has_room below.depth below.w) above.w s.writes u.aw u.w l.w data_before asks.writes.asks_only_its_parts agree) in
      let read_before : ReadKeeps s.shape schedule.reads s.reads u.ar u.r l.r = record { same = keeps.answers; moved = keeps.moved_read_data; whole = keeps.lanes_are_whole; waits = keeps.held_reads } in
      let shown : InOrderOfId (map burst_asked u.ar) (map read_reply (l.r ++ take 1 below.r)) = in-order (ap (map burst_asked) keeps.ar) refl seen.reads_in_order_of_id in
      let step = read-step s.shape schedule.reads (has_room above.depth above.r) below.r s.reads u.ar u.r l.r read_before asks.reads.one_id_at_a_time answers.reads_in_order_of_id asks.reads.asks_only_its_parts shown in
      let read = read-addressed s.shape schedule.reads (up_ar links s) _ ar_taken _ u.ar _ _ step.kept step.in_order in
      record {
        widens = keeps.widens;
        aw = ap₂ (λ (xs ys : List Addr). xs ++ ys) keeps.aw (put-one lower (up_aw links s) ∙ sym aw_taken);
        ar = ap₂ (λ (xs ys : List Addr). xs ++ ys) keeps.ar (put-one lower (up_ar links s) ∙ sym ar_taken);
        b = ap₂ (λ (xs ys : List BBeat). xs ++ ys) keeps.b (put-one upper (up_b links s) ∙ sym (taken-one lower (has_room above.depth above.b) below.b));
        marks = data_after.same;
        answers = read.same;
        moved_data = data_after.moved;
        moved_read_data = read.moved;
        lanes_are_whole = read.whole;
        in_order = data_after.in_order;
        pending_writes = data_after.waits;
        held_reads = read.waits;
      }

  pub up-asks : AsksBelow (up_kind {E = E})
  up-asks schedules now rounds s passed fact keeps known asked =
      all-one (λ l. Asks (schedules l) now (passed.lowers l)) s.shape.lower
      (asks-below (schedules s.shape.upper) (schedules s.shape.lower) now s (passed.uppers s.shape.upper) (passed.lowers s.shape.lower) keeps
      (of-one (λ l. Asks (schedules l) now (passed.uppers l)) s.shape.upper asked))

  pub up-answers : AnswersAbove (up_kind {E = E})
  up-answers schedules now rounds s passed fact keeps known asked asks answered =
      all-one (λ l. Answers (schedules l) now (passed.uppers l)) s.shape.upper
      (answers-above (schedules s.shape.upper) (schedules s.shape.lower) now s (passed.uppers s.shape.upper) (passed.lowers s.shape.lower) fact.shape keeps
      (of-one (λ l. Answers (schedules l) now (passed.lowers l)) s.shape.lower answered))

  pub up-fills_nothing : FillsAtEnds (up_kind {E = E})
  up-fills_nothing schedules rounds s passed keeps number some = absurd (omega (arith, some))
