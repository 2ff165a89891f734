-- What a remapper has passed on its two links.
use Rattle.std.proofs.Common.{◌≡◌, ◌<◌, ℕ, Bool, true, false, cond, List, [], ◌∷◌, ◌++◌, Option, None, Some, length, map, take, refl, sym, ◌∙◌, ap, ap₂, subst, arith, eq-eqb, append-nil, length-append}
use Rattle.std.specs.Option.{option_to_list}
use Rattle.std.specs.Prelude.{is_some}
use Rattle.std.proofs.lemmas.List.{map-append}
use Rattle.std.proofs.lemmas.List.Elements.{All-nil}
use Rattle.std.proofs.lemmas.Simd.{map-map}
use Rattle.axi_beats.specs.declared.beat.Addr.{Addr}
use Rattle.axi_beats.specs.declared.beat.BBeat.{BBeat}
use Rattle.axi_beats.specs.declared.beat.RBeat.{RBeat}
use Rattle.axi_beats.specs.declared.beat.WBeat.{WBeat}
use Rattle.axi_link.specs.LinkView.{LinkView}
use Rattle.axi_link.specs.LinkWords.{has_room, head_of, link_of}
use Rattle.axi_link.specs.Moves.{appended, takes_from}
use Rattle.axi_trail.specs.LinkContracts.{Answers, Asks}
use Rattle.axi_trail.specs.Schedule.{Progress, Schedule}
use Rattle.axi_trail.specs.Trail.{Beats, beat_taken, joined, moved_above, moved_below, seen_above}
use Rattle.axi_trail.specs.Words.{Asked, InOrderOfId, Reply, burst_asked, read_reply, write_asked, write_reply}
use Rattle.node_core.specs.Rows.{beat_where, put_of, take_of}
use Rattle.node_shape.proofs.OneLinkLemmas.{all-one, of-one}
use Rattle.node_shape.specs.KindLaws.{AnswersAbove, AsksBelow, Lasts, MayDecide, Opens}
use Rattle.node_shape.specs.WayLaws.{FillsAtEnds}
use Rattle.plain_lists.proofs.PrefixLemmas.{prefix_nil}
use Rattle.plain_lists.specs.Keys.{without_oldest}
use Rattle.remap_node.proofs.AnswerLemmas.{answers-above}
use Rattle.remap_node.proofs.AskLemmas.{asks-below}
use Rattle.remap_node.proofs.PairLemmas.{StandsFor, output_for-is}
use Rattle.remap_node.proofs.RowLemmas.{put-is, renamed-more, taken-is}
use Rattle.remap_node.proofs.StepLemmas.{answered, requested}
use Rattle.remap_node.proofs.TableLemmas.{ar-is, aw-is, b-is, r-is, read_data-stands, response-stands}
use Rattle.remap_node.specs.RemapState.{AreOneToOne, IsRemap, RemapState, ids_below}
use Rattle.remap_node.specs.RemapTable.{Renamed, address_as, input_in_flight, output_of_pair, pairs_after_read_data, pairs_after_request, pairs_after_response, read_data_as, remap_above, remap_ar, remap_aw, remap_b, remap_below, remap_next, remap_out, remap_r, response_as}
use Rattle.remap_node.specs.RemapTrail.{AreRenamed, PairsAreHeld, RemapKeeps, burst_later, held_above, held_below, none_later, old_beat, remap_kind, shown_below}
use Rattle.remap_node.specs.declared.pair.IdPair.{IdPair}

-- Nothing has passed.
none-held : (later : ℕ → ℕ) (ids : ℕ) → PairsAreHeld later ids [] [] [] []
none-held later ids = record {
  small = All-nil (λ (m : Renamed Addr). m.id < ids);
  entries = refl;
  same = same;
  one_output = λ front a between next after e one_id two_ids. absurd (omega (arith, ap length e, length-append (front ++ a ∷ between) (next ∷ after)));
  order_above = λ id. prefix_nil [];
  order_below = λ id. prefix_nil [];
}
  where
    same : (front back : List (Renamed Addr)) → [] ≡ front ++ back → held_above later front [] ≡ held_below later front []
    same [] back e = refl
    same (m ∷ front) back e = absurd (omega (arith, ap length e))

nothing-renamed : {X : Type 0} (new_beat : Renamed X → X) → AreRenamed new_beat [] [] []
nothing-renamed new_beat = record { from_is = refl; to_is = refl }

-- Answers: one channel.
module _ {X : Type 0} (later : ℕ → ℕ) (reply_of : X → Reply) (new_beat : Renamed X → X)
    (as_new : (m : Renamed X) → reply_of (new_beat m) ≡ record { number = (reply_of m.beat).number; id = m.id; last = (reply_of m.beat).last })
    (after : Option (Renamed X) → List IdPair → List IdPair) (none : (pairs : List IdPair) → after None pairs ≡ pairs)
    (some : (m : Renamed X) (pairs : List IdPair) → after (Some m) pairs ≡ cond (reply_of m.beat).last (without_oldest output_of_pair (reply_of m.beat).id pairs) pairs) where
  after-answer : (ids : ℕ) (moved : List (Renamed Addr)) (pairs : List IdPair) (above below : List X) (row : Option (Renamed X)) → AreOneToOne pairs →
      ((m : Renamed X) → row ≡ Some m → (input_in_flight pairs (reply_of m.beat).id ≡ Some m.id) × InOrderOfId (map (shown_below later) moved) (map reply_of (below ++ m.beat ∷ []))) →
      PairsAreHeld later ids moved pairs (map reply_of above) (map reply_of below) →
      PairsAreHeld later ids moved (after row pairs) (map reply_of (above ++ map new_beat (option_to_list row))) (map reply_of (below ++ map old_beat (option_to_list row)))
  after-answer ids moved pairs above below None one is has =
      subst (λ (ps : List IdPair). PairsAreHeld later ids moved ps (map reply_of (above ++ [])) (map reply_of (below ++ []))) (sym (none pairs))
      (subst (λ (xs : List X). PairsAreHeld later ids moved pairs (map reply_of xs) (map reply_of (below ++ []))) (sym (append-nil above))
      (subst (λ (xs : List X). PairsAreHeld later ids moved pairs (map reply_of above) (map reply_of xs)) (sym (append-nil below)) has))
  after-answer ids moved pairs above below (Some m) one is has =
      let facts = is m refl in
      let p = reply_of m.beat in
      let left : List IdPair = cond p.last (without_oldest output_of_pair p.id pairs) pairs in
      let downs : map reply_of (below ++ m.beat ∷ []) ≡ map reply_of below ++ p ∷ [] = map-append reply_of below (m.beat ∷ []) in
      let ups : map reply_of (above ++ new_beat m ∷ []) ≡ map reply_of above ++ record { number = p.number; id = m.id; last = p.last } ∷ [] =
      map-append reply_of above (new_beat m ∷ []) ∙ ap (λ (r : Reply). map reply_of above ++ r ∷ []) (as_new m) in
      subst (λ (ps : List IdPair). PairsAreHeld later ids moved ps (map reply_of (above ++ new_beat m ∷ [])) (map reply_of (below ++ m.beat ∷ []))) (sym (some m pairs))
      (subst (λ (rs : List Reply). PairsAreHeld later ids moved left rs (map reply_of (below ++ m.beat ∷ []))) (sym ups)
      (subst (λ (rs : List Reply). PairsAreHeld later ids moved left (map reply_of above ++ record { number = p.number; id = m.id; last = p.last } ∷ []) rs) (sym downs)
      (answered later ids moved pairs (map reply_of above) (map reply_of below) has one p m.id facts.0
      (subst (λ (rs : List Reply). InOrderOfId (map (shown_below later) moved) rs) downs facts.1))))

-- Requests: one channel.
after-request : (later : ℕ → ℕ) (ids : ℕ) (moved : List (Renamed Addr)) (pairs : List IdPair) (above below : List Reply) (row : Option (Renamed Addr)) →
    ((m : Renamed Addr) → row ≡ Some m → (m.id < ids) × StandsFor pairs m.beat.id m.id) → PairsAreHeld later ids moved pairs above below →
    PairsAreHeld later ids (moved ++ option_to_list row) (pairs_after_request row pairs) above below
after-request later ids moved pairs above below None is has = subst (λ (ms : List (Renamed Addr)). PairsAreHeld later ids ms pairs above below) (sym (append-nil moved)) has
after-request later ids moved pairs above below (Some m) is has = let facts = is m refl in requested later ids moved pairs above below has m facts.0 facts.1

-- what is taken of one link is what is put on the other
passes-on : {X : Type 0} (room : Bool) (queue : List X) (from to : ℕ) →
    appended to (put_of to (beat_where room (head_of queue))) ≡ beat_taken (takes_from from (take_of from (is_some (beat_where room (head_of queue))))) queue
passes-on false queue from to = refl
passes-on true [] from to = refl
passes-on {X} true (x ∷ queue) from to =
    ap (λ (b : Bool). cond b (x ∷ []) []) (eq-eqb to to refl) ∙ ap (λ (b : Bool). beat_taken b (x ∷ queue)) (sym (eq-eqb from from refl))

-- the answers with the head that is taken come in order of the requests
seen-order : {X : Type 0} (later : ℕ → ℕ) (asked_of : Addr → Asked) (reply_of : X → Reply) (moved : List (Renamed Addr)) (below : List X) (addresses : List Addr) (queue rest : List X) (x : X) →
    map asked_of addresses ≡ map (shown_below later) moved → queue ≡ x ∷ rest → InOrderOfId (map asked_of addresses) (map reply_of (below ++ take 1 queue)) →
    InOrderOfId (map (shown_below later) moved) (map reply_of (below ++ x ∷ []))
seen-order {X} later asked_of reply_of moved below addresses queue rest x shows queue_is order =
    subst (λ (ps : List Asked). InOrderOfId ps (map reply_of (below ++ x ∷ []))) shows
    (subst (λ (xs : List X). InOrderOfId (map asked_of addresses) (map reply_of (below ++ xs))) (ap (take 1) queue_is) order)

module _ (schedules : ℕ → Schedule) (now : Progress) (links : List LinkView) (s : RemapState) (upper lower : Beats) (fact : IsRemap s) (keeps : RemapKeeps schedules s upper lower)
    (answers : Answers (schedules s.shape.lower) now (seen_above lower (link_of links s.shape.lower))) where
  abbrev aw : Option (Renamed Addr)
  aw = remap_aw links s

  abbrev ar : Option (Renamed Addr)
  ar = remap_ar links s

  abbrev b : Option (Renamed BBeat)
  b = remap_b links s

  abbrev r : Option (Renamed RBeat)
  r = remap_r links s

  abbrev ids : ℕ
  ids = ids_below s.shape

  response-facts : (m : Renamed BBeat) → b ≡ Some m → (input_in_flight s.writes m.beat.id ≡ Some m.id) × InOrderOfId (map (shown_below none_later) keeps.writes) (map write_reply (lower.b ++ m.beat ∷ []))
  response-facts m e =
      let row = b-is links s m e in (
        row.input,
        seen-order none_later write_asked write_reply keeps.writes lower.b lower.aw (remap_below links s).b row.rest m.beat (ap (map write_asked) keeps.aw.to_is ∙ map-map write_asked address_as keeps.writes)
            row.queue_is answers.answers_in_order_of_id,
      )

  read_data-facts : (m : Renamed RBeat) → r ≡ Some m → (input_in_flight s.reads m.beat.id ≡ Some m.id) × InOrderOfId (map (shown_below burst_later) keeps.reads) (map read_reply (lower.r ++ m.beat ∷ []))
  read_data-facts m e =
      let row = r-is links s m e in (
        row.input,
        seen-order burst_later burst_asked read_reply keeps.reads lower.r lower.ar (remap_below links s).r row.rest m.beat (ap (map burst_asked) keeps.ar.to_is ∙ map-map burst_asked address_as keeps.reads)
            row.queue_is answers.reads_in_order_of_id,
      )

  write-facts : (m : Renamed Addr) → aw ≡ Some m → (m.id < ids) × StandsFor (pairs_after_response b s.writes) m.beat.id m.id
  write-facts m e =
      let chosen = output_for-is s.shape s.writes m.beat.id m.id fact.writes (aw-is links s m e).output in
      (chosen.0, response-stands b s.writes m.beat.id m.id chosen.1)

  read-facts : (m : Renamed Addr) → ar ≡ Some m → (m.id < ids) × StandsFor (pairs_after_read_data r s.reads) m.beat.id m.id
  read-facts m e =
      let chosen = output_for-is s.shape s.reads m.beat.id m.id fact.reads (ar-is links s m e).output in
      (chosen.0, read_data-stands r s.reads m.beat.id m.id chosen.1)

  aw-taken : beat_taken (takes_from s.shape.upper (take_of s.shape.upper (is_some aw))) (remap_above links s).aw ≡ map old_beat (option_to_list aw)
  aw-taken = taken-is s.shape.upper (remap_above links s).aw aw (λ m e. let row = aw-is links s m e in (row.rest, row.queue_is))

  ar-taken : beat_taken (takes_from s.shape.upper (take_of s.shape.upper (is_some ar))) (remap_above links s).ar ≡ map old_beat (option_to_list ar)
  ar-taken = taken-is s.shape.upper (remap_above links s).ar ar (λ m e. let row = ar-is links s m e in (row.rest, row.queue_is))

  b-taken : beat_taken (takes_from s.shape.lower (take_of s.shape.lower (is_some b))) (remap_below links s).b ≡ map old_beat (option_to_list b)
  b-taken = taken-is s.shape.lower (remap_below links s).b b (λ m e. let row = b-is links s m e in (row.rest, row.queue_is))

  r-taken : beat_taken (takes_from s.shape.lower (take_of s.shape.lower (is_some r))) (remap_below links s).r ≡ map old_beat (option_to_list r)
  r-taken = taken-is s.shape.lower (remap_below links s).r r (λ m e. let row = r-is links s m e in (row.rest, row.queue_is))

  abbrev upper_next : Beats
  upper_next = joined upper (moved_below (remap_out links s) links s.shape.upper)

  abbrev lower_next : Beats
  lower_next = joined lower (moved_above (remap_out links s) links s.shape.lower)

  writes-held : PairsAreHeld none_later ids (keeps.writes ++ option_to_list aw) (remap_next links s).writes (map write_reply upper_next.b) (map write_reply lower_next.b)
  writes-held =
      let moved : List (Renamed Addr) = keeps.writes ++ option_to_list aw in
      let pairs : List IdPair = (remap_next links s).writes in
      subst (λ (xs : List BBeat). PairsAreHeld none_later ids moved pairs (map write_reply (upper.b ++ xs)) (map write_reply lower_next.b)) (sym (put-is s.shape.upper response_as b))
      (subst (λ (xs : List BBeat). PairsAreHeld none_later ids moved pairs (map write_reply (upper.b ++ map response_as (option_to_list b))) (map write_reply (lower.b ++ xs))) (sym b-taken)
      (after-request none_later ids keeps.writes (pairs_after_response b s.writes) _ _ aw write-facts
      (after-answer none_later write_reply response_as (λ m. refl) pairs_after_response (λ ps. refl) (λ m ps. refl) ids keeps.writes s.writes upper.b lower.b b fact.writes.one_to_one response-facts keeps.write_ids)))

  reads-held : PairsAreHeld burst_later ids (keeps.reads ++ option_to_list ar) (remap_next links s).reads (map read_reply upper_next.r) (map read_reply lower_next.r)
  reads-held =
      let moved : List (Renamed Addr) = keeps.reads ++ option_to_list ar in
      let pairs : List IdPair = (remap_next links s).reads in
      subst (λ (xs : List RBeat). PairsAreHeld burst_later ids moved pairs (map read_reply (upper.r ++ xs)) (map read_reply lower_next.r)) (sym (put-is s.shape.upper read_data_as r))
      (subst (λ (xs : List RBeat). PairsAreHeld burst_later ids moved pairs (map read_reply (upper.r ++ map read_data_as (option_to_list r))) (map read_reply (lower.r ++ xs))) (sym r-taken)
      (after-request burst_later ids keeps.reads (pairs_after_read_data r s.reads) _ _ ar read-facts
      (after-answer burst_later read_reply read_data_as (λ m. refl) pairs_after_read_data (λ ps. refl) (λ m ps. refl) ids keeps.reads s.reads upper.r lower.r r fact.reads.one_to_one read_data-facts keeps.read_ids)))

  keeps-on : RemapKeeps schedules (remap_next links s) upper_next lower_next
  keeps-on = record {
    suits = keeps.suits;
    writes = keeps.writes ++ option_to_list aw;
    aw = renamed-more address_as keeps.writes (option_to_list aw) upper.aw lower.aw _ _ keeps.aw aw-taken (put-is s.shape.lower address_as aw);
    w = ap₂ (λ (xs ys : List WBeat). xs ++ ys) keeps.w (passes-on (has_room (remap_below links s).depth (remap_below links s).w) (remap_above links s).w s.shape.upper s.shape.lower);
    responses = keeps.responses ++ option_to_list b;
    b = renamed-more response_as keeps.responses (option_to_list b) lower.b upper.b _ _ keeps.b b-taken (put-is s.shape.upper response_as b);
    reads = keeps.reads ++ option_to_list ar;
    ar = renamed-more address_as keeps.reads (option_to_list ar) upper.ar lower.ar _ _ keeps.ar ar-taken (put-is s.shape.lower address_as ar);
    read_data = keeps.read_data ++ option_to_list r;
    r = renamed-more read_data_as keeps.read_data (option_to_list r) lower.r upper.r _ _ keeps.r r-taken (put-is s.shape.upper read_data_as r);
    write_ids = writes-held;
    read_ids = reads-held;
  }

module _ (E : Type 0) where
  pub remap-opens : Opens (remap_kind {E = E})
  remap-opens schedules s new suits = record {
    suits = suits;
    writes = [];
    aw = nothing-renamed address_as;
    w = refl;
    responses = [];
    b = nothing-renamed response_as;
    reads = [];
    ar = nothing-renamed address_as;
    read_data = [];
    r = nothing-renamed read_data_as;
    write_ids = subst (λ (pairs : List IdPair). PairsAreHeld none_later (ids_below s.shape) [] pairs [] []) (sym (ap (λ (x : RemapState). x.writes) new.new)) (none-held none_later (ids_below s.shape));
    read_ids = subst (λ (pairs : List IdPair). PairsAreHeld burst_later (ids_below s.shape) [] pairs [] []) (sym (ap (λ (x : RemapState). x.reads) new.new)) (none-held burst_later (ids_below s.shape));
  }

  pub remap-may_decide : MayDecide (remap_kind {E = E})
  remap-may_decide schedules now rounds links s passed fact suits uppers lowers asked = record {
    upper = of-one (λ l. l < length links) s.shape.upper uppers;
    lower = of-one (λ l. l < length links) s.shape.lower lowers;
  }

  pub remap-lasts : Lasts (remap_kind {E = E})
  remap-lasts schedules now rounds links s passed fact keeps can around =
      keeps-on schedules now links s (passed.uppers s.shape.upper) (passed.lowers s.shape.lower) fact keeps
      (of-one (λ l. Answers (schedules l) now (seen_above (passed.lowers l) (link_of links l))) s.shape.lower around.answered_seen)

  pub remap-asks : AsksBelow (remap_kind {E = E})
  remap-asks schedules now rounds s passed fact keeps known asked =
      all-one (λ l. Asks (schedules l) now (passed.lowers l)) s.shape.lower
      (asks-below schedules now s (passed.uppers s.shape.upper) (passed.lowers s.shape.lower) keeps (of-one (λ l. Asks (schedules l) now (passed.uppers l)) s.shape.upper asked))

  pub remap-answers : AnswersAbove (remap_kind {E = E})
  remap-answers schedules now rounds s passed fact keeps known asked asks answered =
      all-one (λ l. Answers (schedules l) now (passed.uppers l)) s.shape.upper
      (answers-above schedules now s (passed.uppers s.shape.upper) (passed.lowers s.shape.lower) keeps (of-one (λ l. Answers (schedules l) now (passed.lowers l)) s.shape.lower answered))

  pub remap-fills_nothing : FillsAtEnds (remap_kind {E = E})
  remap-fills_nothing schedules rounds s passed keeps number some = absurd (omega (arith, some))
