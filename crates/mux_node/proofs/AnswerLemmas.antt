-- What a mux is answered below, it answers at each input.
use Rattle.std.proofs.Common.{[], ◌++◌, ◌+◌, ◌/◌, ◌<◌, ◌∙◌, ◌∷◌, ◌≡◌, ◌≢◌, ◌≤◌, IsTrue, List, Option, Some, ap, arith, get_or, inl, inr, length, map, refl, subst, suc, sym, zero, ℕ}
use Rattle.std.specs.Option.{option_map_or}
use Rattle.std.specs.Prelude.{All, slice_get, slice_range}
use Rattle.std.proofs.lemmas.Bool.{cases_eq}
use Rattle.std.proofs.lemmas.List.{length-map}
use Rattle.std.proofs.lemmas.List.Elements.{All-filter, All-map, All-take}
use Rattle.std.proofs.lemmas.Nat.{pow_pos}
use Rattle.axi_beats.specs.Lanes.{Span}
use Rattle.axi_beats.specs.declared.beat.Addr.{Addr}
use Rattle.axi_beats.specs.declared.beat.BBeat.{BBeat}
use Rattle.axi_beats.specs.declared.beat.RBeat.{RBeat}
use Rattle.axi_trail.specs.LinkContracts.{Answers}
use Rattle.axi_trail.specs.Schedule.{Progress, Schedule, Share, bytes_on}
use Rattle.axi_trail.specs.SelectionLaws.{goes_way}
use Rattle.axi_trail.specs.Trail.{Beats, Trail}
use Rattle.axi_trail.specs.Words.{Asked, InOrderOfId, Mark, Reply, burst_asked, completed, data_marks, mark_of_data, number_of_address, number_of_asked, number_of_mark, number_of_read_data, number_of_response, read_replies, read_reply, reads_asked, write_asked, write_replies, write_reply, writes_asked}
use Rattle.mux_node.proofs.AskLemmas.{shown-b, shown-r}
use Rattle.mux_node.proofs.MergeLemmas.{map-map}
use Rattle.mux_node.proofs.ReplyLemmas.{KnowsInput, completed-mapped, completed-of_input, merged-inputs, other-number, own-number, reply-inputs, up-order, widened_asked}
use Rattle.mux_node.proofs.StepLemmas.{empty-share, share-there}
use Rattle.mux_node.proofs.WayLemmas.{route}
use Rattle.mux_node.specs.MuxState.{MuxState}
use Rattle.mux_node.specs.MuxTable.{ids_of, narrowed_b, narrowed_r, widened}
use Rattle.mux_node.specs.MuxTrail.{MuxKeeps, at_input, share_at_input}
use Rattle.node_shape.specs.Carries.{IsSameShare}
use Rattle.plain_lists.proofs.KeyLemmas.{filter_map, of_key-map}
use Rattle.plain_lists.proofs.PrefixLemmas.{prefix_nil, prefix_of_same, prefix_same}
use Rattle.plain_lists.specs.Keys.{of_key, selected}
use Rattle.plain_lists.specs.Prefixes.{IsPrefix}

-- the bytes of a beat don't depend on its ID
bytes-narrowed : (ids : ℕ) (rs : List RBeat) (lanes : List Span) → bytes_on (map (narrowed_r ids) rs) lanes ≡ bytes_on rs lanes
bytes-narrowed ids [] lanes = refl
bytes-narrowed ids (r ∷ rs) [] = refl
bytes-narrowed ids (r ∷ rs) (span ∷ lanes) = ap (λ (bytes : List ℕ). slice_range r.lanes span.low (span.high + 1) ++ bytes) (bytes-narrowed ids rs lanes)

-- requests as they show
pub shown-wider : (shown : Addr → Asked) (ids j : ℕ) → ((a : Addr) → shown (widened ids j a) ≡ widened_asked ids j (shown a)) → (xs : List Addr) → map shown (map (widened ids j) xs) ≡ map (widened_asked ids j) (map shown xs)
shown-wider shown ids j same [] = refl
shown-wider shown ids j same (x ∷ xs) = ap (λ (a : Asked). a ∷ map shown (map (widened ids j) xs)) (same x) ∙ ap (λ (ys : List Asked). widened_asked ids j (shown x) ∷ ys) (shown-wider shown ids j same xs)

module _ (schedules : ℕ → Schedule) (now : Progress) (s : MuxState) (uppers : Trail) (lower : Beats) (keeps : MuxKeeps schedules s uppers lower) (answers : Answers (schedules s.shape.lower) now lower) where
  abbrev ids : ℕ
  ids = ids_of s.shape

  some : 0 < ids_of s.shape
  some = pow_pos s.shape.width

  abbrev wr : ℕ → ℕ
  wr = keeps.suits.write_route

  abbrev rr : ℕ → ℕ
  rr = keeps.suits.read_route

  abbrev Has : (ℕ → ℕ) → Asked → Type 0
  Has route a = a.id / ids ≡ route a.number

  aw-has : All (λ (a : Addr). a.id / ids ≡ wr a.tag.txn) lower.aw
  aw-has = merged-inputs wr ids lower.aw (at_input s.shape.uppers (λ link. (uppers link).aw)) keeps.aw

  ar-has : All (λ (a : Addr). a.id / ids ≡ rr a.tag.txn) lower.ar
  ar-has = merged-inputs rr ids lower.ar (at_input s.shape.uppers (λ link. (uppers link).ar)) keeps.ar

  b-has : All (KnowsInput number_of_response (λ b. b.id / ids) wr) lower.b
  b-has = λ k d within.
      go lower.b k d within (reply-inputs wr ids (writes_asked lower) (write_replies lower) (All-map (Has wr) write_asked lower.aw aw-has) answers.answers_in_order_of_id)
    where
      go : (bs : List BBeat) (k : ℕ) (d : BBeat) → k < length bs → All (λ (p : Reply). p.id / ids ≡ wr p.number) (map write_reply bs) → KnowsInput number_of_response (λ b. b.id / ids) wr (get_or bs k d)
      go [] k d within all = absurd (omega (arith, within))
      go (b ∷ bs) zero d within all = all 0 (write_reply b) (omega arith)
      go (b ∷ bs) (suc k) d within all = go bs k d (omega (arith, within)) (λ i e inside. all (suc i) e (omega (arith, inside)))

  r-has : All (KnowsInput number_of_read_data (λ r. r.id / ids) rr) lower.r
  r-has = λ k d within. go lower.r k d within (reply-inputs rr ids (reads_asked lower) (read_replies lower) (All-map (Has rr) burst_asked lower.ar ar-has) answers.reads_in_order_of_id)
    where
      go : (rs : List RBeat) (k : ℕ) (d : RBeat) → k < length rs → All (λ (p : Reply). p.id / ids ≡ rr p.number) (map read_reply rs) → KnowsInput number_of_read_data (λ r. r.id / ids) rr (get_or rs k d)
      go [] k d within all = absurd (omega (arith, within))
      go (r ∷ rs) zero d within all = all 0 (read_reply r) (omega arith)
      go (r ∷ rs) (suc k) d within all = go rs k d (omega (arith, within)) (λ i e inside. all (suc i) e (omega (arith, inside)))

  -- at one input
  module _ (j link : ℕ) (at : slice_get s.shape.uppers j ≡ Some link) where
    abbrev u : Beats
    u = uppers link

    there : {X : Type 0} (of : ℕ → List X) → at_input s.shape.uppers of j ≡ of link
    there of = ap (λ (o : Option ℕ). option_map_or of o []) at

    b-is : u.b ≡ map (narrowed_b ids) (of_key (λ b. b.id / ids) j lower.b)
    b-is = sym (there (λ l. (uppers l).b)) ∙ keeps.b j

    r-is : u.r ≡ map (narrowed_r ids) (of_key (λ r. r.id / ids) j lower.r)
    r-is = sym (there (λ l. (uppers l).r)) ∙ keeps.r j

    aw-is : selected number_of_address (goes_way wr j) lower.aw ≡ map (widened ids j) u.aw
    aw-is = keeps.aw.parts j ∙ ap (map (widened ids j)) (there (λ l. (uppers l).aw))

    ar-is : selected number_of_address (goes_way rr j) lower.ar ≡ map (widened ids j) u.ar
    ar-is = keeps.ar.parts j ∙ ap (map (widened ids j)) (there (λ l. (uppers l).ar))

    asked-w : (merged mine : List Addr) → selected number_of_address (goes_way wr j) merged ≡ map (widened ids j) mine → selected number_of_asked (goes_way wr j) (map write_asked merged) ≡ map (widened_asked ids j) (map write_asked mine)
    asked-w merged mine is = filter_map (λ (a : Asked). goes_way wr j a.number) write_asked merged ∙ ap (map write_asked) is ∙ shown-wider write_asked ids j (λ a. refl) mine

    asked-r : (merged mine : List Addr) → selected number_of_address (goes_way rr j) merged ≡ map (widened ids j) mine → selected number_of_asked (goes_way rr j) (map burst_asked merged) ≡ map (widened_asked ids j) (map burst_asked mine)
    asked-r merged mine is = filter_map (λ (a : Asked). goes_way rr j a.number) burst_asked merged ∙ ap (map burst_asked) is ∙ shown-wider burst_asked ids j (λ a. refl) mine

    -- order of answers
    b-order : InOrderOfId (writes_asked u) (write_replies u)
    b-order =
        subst (λ (ps : List Reply). InOrderOfId (writes_asked u) ps) (sym (ap (map write_reply) b-is ∙ shown-b ids j lower.b))
        (up-order ids j wr (writes_asked lower) (writes_asked u) (write_replies lower) some (All-map (Has wr) write_asked lower.aw aw-has) (asked-w lower.aw u.aw aw-is) answers.answers_in_order_of_id)

    r-order : InOrderOfId (reads_asked u) (read_replies u)
    r-order =
        subst (λ (ps : List Reply). InOrderOfId (reads_asked u) ps) (sym (ap (map read_reply) r-is ∙ shown-r ids j lower.r))
        (up-order ids j rr (reads_asked lower) (reads_asked u) (read_replies lower) some (All-map (Has rr) burst_asked lower.ar ar-has) (asked-r lower.ar u.ar ar-is) answers.reads_in_order_of_id)

    -- and of the completed writes
    whole-is : selected number_of_address (goes_way wr j) (completed lower.aw (data_marks lower)) ≡ map (widened ids j) (completed u.aw (data_marks u))
    whole-is =
        completed-of_input (goes_way wr j) lower.aw (data_marks lower) keeps.order.in_order
        ∙ ap (λ (xs : List Addr). completed xs (selected number_of_mark (goes_way wr j) (data_marks lower))) aw-is
        ∙ ap (completed (map (widened ids j) u.aw)) (filter_map (λ (m : Mark). goes_way wr j m.number) mark_of_data lower.w ∙ ap (map mark_of_data) (keeps.w j ∙ there (λ l. (uppers l).w)))
        ∙ completed-mapped (widened ids j) u.aw (data_marks u)

    whole-order : InOrderOfId (map write_asked (completed u.aw (data_marks u))) (write_replies u)
    whole-order =
        subst (λ (ps : List Reply). InOrderOfId (map write_asked (completed u.aw (data_marks u))) ps) (sym (ap (map write_reply) b-is ∙ shown-b ids j lower.b))
        (up-order ids j wr (map write_asked (completed lower.aw (data_marks lower))) (map write_asked (completed u.aw (data_marks u))) (write_replies lower) some
        (All-map (Has wr) write_asked (completed lower.aw (data_marks lower)) (All-take (λ (a : Addr). a.id / ids ≡ wr a.tag.txn) _ lower.aw aw-has))
        (asked-w (completed lower.aw (data_marks lower)) (completed u.aw (data_marks u)) whole-is) answers.answered_after_its_data)

    -- the beats of a number are those below, where it comes by this input
    b-own : (t : ℕ) → wr t ≡ j → of_key number_of_response t u.b ≡ map (narrowed_b ids) (of_key number_of_response t lower.b)
    b-own t by =
        ap (of_key number_of_response t) b-is ∙ of_key-map number_of_response (narrowed_b ids) t (of_key (λ (b : BBeat). b.id / ids) j lower.b)
        ∙ ap (map (narrowed_b ids)) (own-number number_of_response (λ b. b.id / ids) wr j t by lower.b b-has)

    b-other : (t : ℕ) → wr t ≢ j → of_key number_of_response t u.b ≡ []
    b-other t far =
        ap (of_key number_of_response t) b-is ∙ of_key-map number_of_response (narrowed_b ids) t (of_key (λ (b : BBeat). b.id / ids) j lower.b)
        ∙ ap (map (narrowed_b ids)) (other-number number_of_response (λ b. b.id / ids) wr j t far lower.b b-has)

    r-own : (t : ℕ) → rr t ≡ j → of_key number_of_read_data t u.r ≡ map (narrowed_r ids) (of_key number_of_read_data t lower.r)
    r-own t by =
        ap (of_key number_of_read_data t) r-is ∙ of_key-map number_of_read_data (narrowed_r ids) t (of_key (λ (r : RBeat). r.id / ids) j lower.r)
        ∙ ap (map (narrowed_r ids)) (own-number number_of_read_data (λ r. r.id / ids) rr j t by lower.r r-has)

    r-other : (t : ℕ) → rr t ≢ j → of_key number_of_read_data t u.r ≡ []
    r-other t far =
        ap (of_key number_of_read_data t) r-is ∙ of_key-map number_of_read_data (narrowed_r ids) t (of_key (λ (r : RBeat). r.id / ids) j lower.r)
        ∙ ap (map (narrowed_r ids)) (other-number number_of_read_data (λ r. r.id / ids) rr j t far lower.r r-has)

    write-share : (t : ℕ) → wr t ≡ j → IsSameShare ((schedules link).writes t) ((schedules s.shape.lower).writes t)
    write-share t by =
        subst (λ (x : Share). IsSameShare x ((schedules s.shape.lower).writes t))
        (ap (λ (i : ℕ). share_at_input s.shape.uppers (λ l. (schedules l).writes) i t) by ∙ share-there s.shape.uppers (λ l. (schedules l).writes) j link t at) (keeps.suits.writes.same t)

    read-share : (t : ℕ) → rr t ≡ j → IsSameShare ((schedules link).reads t) ((schedules s.shape.lower).reads t)
    read-share t by =
        subst (λ (x : Share). IsSameShare x ((schedules s.shape.lower).reads t))
        (ap (λ (i : ℕ). share_at_input s.shape.uppers (λ l. (schedules l).reads) i t) by ∙ share-there s.shape.uppers (λ l. (schedules l).reads) j link t at) (keeps.suits.reads.same t)

    b-responses : (t : ℕ) → IsPrefix (map (λ (b : BBeat). b.resp) (of_key number_of_response t u.b)) ((schedules link).writes t).responses
    b-responses t = elim (cases_eq (wr t) j) [
      | inl by ↦
          prefix_of_same
          (prefix_same (ap (map (λ (b : BBeat). b.resp)) (b-own t by) ∙ map-map (λ (b : BBeat). b.resp) (narrowed_b ids) (of_key number_of_response t lower.b)) (answers.responses_are_the_schedules t))
          (write-share t by).responses
      | inr far ↦ prefix_same (ap (map (λ (b : BBeat). b.resp)) (b-other t far)) (prefix_nil ((schedules link).writes t).responses)
    ]

    r-responses : (t : ℕ) → IsPrefix (map (λ (r : RBeat). r.resp) (of_key number_of_read_data t u.r)) ((schedules link).reads t).responses
    r-responses t = elim (cases_eq (rr t) j) [
      | inl by ↦
          prefix_of_same
          (prefix_same (ap (map (λ (r : RBeat). r.resp)) (r-own t by) ∙ map-map (λ (r : RBeat). r.resp) (narrowed_r ids) (of_key number_of_read_data t lower.r)) (answers.read_responses_are_the_schedules t))
          (read-share t by).responses
      | inr far ↦ prefix_same (ap (map (λ (r : RBeat). r.resp)) (r-other t far)) (prefix_nil ((schedules link).reads t).responses)
    ]

    is-done : (t : ℕ) → 0 < length ((schedules link).writes t).parts → length ((schedules link).writes t).parts ≤ length (of_key number_of_response t u.b) → IsTrue (now.written t)
    is-done t has all = elim (cases_eq (wr t) j) [
      | inl by ↦
          let parts : length ((schedules s.shape.lower).writes t).parts ≡ length ((schedules link).writes t).parts = ap length (write-share t by).parts in
          let many : length (of_key number_of_response t u.b) ≡ length (of_key number_of_response t lower.b) = ap length (b-own t by) ∙ length-map (of_key number_of_response t lower.b) (narrowed_b ids) in
          answers.done_when_answered t (omega (arith, parts, has)) (omega (arith, parts, many, all))
      | inr far ↦
          let none : length ((schedules link).writes t).parts ≡ 0 = ap (λ (x : Share). length x.parts) (empty-share wr s.shape.uppers (λ l. (schedules l).writes) (schedules s.shape.lower).writes keeps.suits.writes j link at t far) in
          absurd (omega (arith, none, has))
    ]

    r-lanes : All (λ (r : RBeat). length r.lanes ≡ 128) u.r
    r-lanes =
        subst (λ (rs : List RBeat). All (λ (r : RBeat). length r.lanes ≡ 128) rs) (sym r-is)
        (All-map (λ (r : RBeat). length r.lanes ≡ 128) (narrowed_r ids) (of_key (λ (r : RBeat). r.id / ids) j lower.r) (All-filter _ (λ (r : RBeat). length r.lanes ≡ 128) lower.r answers.lanes_are_whole))

    r-bytes : (t : ℕ) → IsPrefix (bytes_on (of_key number_of_read_data t u.r) ((schedules link).reads t).lanes) (now.filled t)
    r-bytes t = elim (cases_eq (rr t) j) [
      | inl by ↦
          prefix_same
          (ap (λ (rs : List RBeat). bytes_on rs ((schedules link).reads t).lanes) (r-own t by) ∙ bytes-narrowed ids (of_key number_of_read_data t lower.r) ((schedules link).reads t).lanes
          ∙ ap (bytes_on (of_key number_of_read_data t lower.r)) (sym (read-share t by).lanes))
          (answers.bytes_are_filled t)
      | inr far ↦ prefix_same (ap (λ (rs : List RBeat). bytes_on rs ((schedules link).reads t).lanes) (r-other t far)) (prefix_nil (now.filled t))
    ]

    pub answers-at : Answers (schedules link) now (uppers link)
    answers-at = record {
      answers_in_order_of_id = b-order;
      reads_in_order_of_id = r-order;
      responses_are_the_schedules = b-responses;
      read_responses_are_the_schedules = r-responses;
      answered_after_its_data = whole-order;
      done_when_answered = is-done;
      lanes_are_whole = r-lanes;
      bytes_are_filled = r-bytes;
    }
