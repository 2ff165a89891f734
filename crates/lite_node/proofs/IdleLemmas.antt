-- A Lite bridge that does nothing holds nothing back.
use Rattle.std.proofs.Common.{◌≡◌, ◌<◌, ◌≤◌, ◌-◌, ℕ, Bool, true, false, List, [], ◌∷◌, ◌++◌, None, length, length-append, map, take, drop, refl, sym, ◌∙◌, ap, ap₂, subst, arith}
use Rattle.std.specs.Prelude.{◌&&◌, Contains, is_some}
use Rattle.std.proofs.Math.Seq.{take-length}
use Rattle.std.proofs.lemmas.Bool.{lt-ltb}
use Rattle.std.proofs.lemmas.List.{length-drop, length-map}
use Rattle.std.proofs.lemmas.List.Elements.{All-contains}
use Rattle.axi_beats.specs.declared.beat.Addr.{Addr}
use Rattle.axi_beats.specs.declared.beat.BBeat.{BBeat}
use Rattle.axi_beats.specs.declared.beat.RBeat.{RBeat}
use Rattle.axi_link.specs.LinkView.{LinkView}
use Rattle.axi_link.specs.LinkWords.{has_room, head_of, link_of}
use Rattle.axi_link.specs.declared.out.Out.{Out}
use Rattle.axi_trail.specs.IdLaws.{response_due}
use Rattle.axi_trail.specs.LinkContracts.{Answers, Asks}
use Rattle.axi_trail.specs.Trail.{Beats, seen_above}
use Rattle.axi_trail.specs.Words.{Asked, InOrderOfId, Reply, beats_due, burst_asked, held_asked, id_of_address, id_of_asked, id_of_reply, len_of_asked, read_reply, write_asked, write_reply}
use Rattle.axi_trail.proofs.DataFacts.{beats_due-writes}
use Rattle.axi_trail.proofs.IdFacts.{held_of_one_id, none_held_by_count}
use Rattle.axi_trail.proofs.WaitingFacts.{none-pending}
use Rattle.lite_node.specs.LiteTable.{lite_above, lite_below, lite_out, returned_b, returned_r, returned_to, word_request}
use Rattle.lite_node.specs.LiteTrail.{AsksForWords, lite_kind, returned_in_order}
use Rattle.lite_node.proofs.AnswerLemmas.{single-asked}
use Rattle.lite_node.proofs.AskLemmas.{requests-have}
use Rattle.lite_node.proofs.OrderLemmas.{replies-few, replies-front, replies-zero, returned-due, words-asked, words-zero}
use Rattle.node_core.specs.Acted.{no_moves}
use Rattle.node_core.specs.Rows.{beat_where, fits, take_of}
use Rattle.node_shape.specs.KindLaws.{IdleHoldsNothing}
use Rattle.node_shape.specs.Quiet.{HasNoRead, HasNoWrite, LacksData}
use Rattle.node_shape.proofs.OneLinkLemmas.{all-one, of-one, one-has}
use Rattle.plain_lists.specs.Keys.{of_key}
use Rattle.plain_lists.proofs.KeyLemmas.{of_key-map}

-- what isn't taken isn't there, where there is room
not-taken : {X : Type 0} (room : Bool) (queue : List X) (from : ℕ) → take_of from (is_some (beat_where room (head_of queue))) ≡ None → room ≡ true → length queue ≡ 0
not-taken false queue from quiet roomy = absurd (cc)
not-taken true [] from quiet roomy = refl
not-taken true (x ∷ queue) from quiet roomy = absurd (cc)

-- an answer neither, where a request waits for it
not-answered : {X : Type 0} (returned : ℕ → X → X) (ids : List ℕ) (room : Bool) (queue : List X) (from : ℕ) →
    take_of from (is_some (returned_to returned ids (beat_where room (head_of queue)))) ≡ None → room ≡ true → (0 < length queue → 0 < length ids) → length queue ≡ 0
not-answered returned ids false queue from quiet roomy waits = absurd (cc)
not-answered returned ids true [] from quiet roomy waits = refl
not-answered returned [] true (x ∷ queue) from quiet roomy waits = let none : 0 < 0 = waits (omega arith) in absurd (omega (arith, none))
not-answered returned (id ∷ ids) true (x ∷ queue) from quiet roomy waits = absurd (cc)

roomy : {X : Type 0} (xs : List X) (depth : ℕ) → length xs ≡ 0 → 0 < depth → has_room depth xs ≡ true
roomy xs depth empty deep = lt-ltb (length xs) depth (omega (arith, empty, deep))

both-true : (room : Bool) (ids : List ℕ) → room ≡ true → ids ≡ [] → room && fits ids ≡ true
both-true room ids is none = ap₂ (λ (b : Bool) (xs : List ℕ). b && fits xs) is none

-- ---- one direction

module _ (bus : ℕ) {X : Type 0} (reply : X → Reply) (returned : ℕ → X → X) (keeps_reply : (id : ℕ) (x : X) → reply (returned id x) ≡ record { number = (reply x).number; id = id; last = (reply x).last })
    (ids : List ℕ) (above below : List Addr) (down : List X) (asks : AsksForWords bus ids (length down) above below) where
  abbrev words : List Asked
  words = map write_asked (map (word_request bus) above)

  ids-many : length ids ≡ length above - length down
  ids-many = ap length asks.waiting ∙ length-map (drop (length down) above) id_of_address ∙ length-drop (length down) above

  -- a request waits for an answer that stands below
  pub waits : (queue : List X) → InOrderOfId words (map reply (down ++ take 1 queue)) → 0 < length queue → 0 < length ids
  waits [] order some = absurd (omega (arith, some))
  waits (x ∷ queue) order some =
      let few = replies-few bus above (map reply (down ++ x ∷ [])) order in
      omega (arith, few, length-map (down ++ x ∷ []) reply, length-append down (x ∷ []), ids-many)

  -- where below none is held, all are answered
  pub all-answered : InOrderOfId words (map reply down) → held_asked words (map reply down) ≡ [] → length down ≡ length above
  all-answered order none =
      let held = held_of_one_id 0 words (map reply down) (words-zero bus above) (replies-zero bus above (map reply down) order) in
      let due = none-pending len_of_asked (length (map reply down)) words (sym held ∙ none) in
      let many : beats_due words ≡ length above = beats_due-writes (map (word_request bus) above) ∙ length-map above (word_request bus) in
      omega (arith, due, many, length-map down reply, asks.few)

  -- and none is held above
  pub none-above : InOrderOfId words (map reply down) → length down ≡ length above → held_asked (map write_asked above) (map reply (returned_in_order returned above down)) ≡ []
  none-above order all =
      let given : map reply (returned_in_order returned above down) ≡ map response_due above =
      returned-due returned reply keeps_reply above down (replies-front bus above (map reply down) order)
      ∙ ap (map response_due) (ap (λ (n : ℕ). take n above) all ∙ take-length above) in
      ap (held_asked (map write_asked above)) given ∙ none_held_by_count (map write_asked above) (map response_due above) counted
    where
      counted : (id : ℕ) → beats_due (of_key id_of_asked id (map write_asked above)) ≤ length (of_key id_of_reply id (map response_due above))
      counted id =
          let asked : beats_due (of_key id_of_asked id (map write_asked above)) ≡ length (of_key id_of_address id above) =
          ap beats_due (of_key-map id_of_asked write_asked id above) ∙ beats_due-writes (of_key id_of_address id above) in
          let came : length (of_key id_of_reply id (map response_due above)) ≡ length (of_key id_of_address id above) =
          ap length (of_key-map id_of_reply response_due id above) ∙ length-map (of_key id_of_address id above) response_due in
          omega (arith, asked, came)

  -- and no ID waits
  pub none-waits : length down ≡ length above → ids ≡ []
  none-waits all = empty ids (omega (arith, ids-many, all))
    where
      empty : (xs : List ℕ) → length xs ≡ 0 → xs ≡ []
      empty [] e = refl
      empty (x ∷ xs) e = absurd (omega (arith, e))

-- the same number of beats is due at least where bursts have one beat each
due-least : (bus : ℕ) (above : List Addr) → beats_due (map burst_asked (map (word_request bus) above)) ≤ beats_due (map burst_asked above)
due-least bus [] = omega arith
due-least bus (a ∷ above) = let rest = due-least bus above in omega (arith, rest)

module _ (E : Type 0) where
  pub lite-holds_nothing : IdleHoldsNothing (lite_kind {E = E})
  lite-holds_nothing schedules now rounds links s passed fact keeps around above_deep below_deep idle =
      let u : ℕ = s.shape.upper in
      let d : ℕ = s.shape.lower in
      let bus : ℕ = s.shape.bus in
      let above : LinkView = lite_above links s in
      let below : LinkView = lite_below links s in
      let upper : Beats = passed.uppers u in
      let lower : Beats = passed.lowers d in
      let quiet : lite_out links s ≡ no_moves = idle 0 (omega arith) in
      let depth : 0 < below.depth = of-one (λ k. 0 < (link_of links k).depth) d below_deep in
      let asked = of-one (λ l. Asks (schedules l) now (passed.uppers l)) u around.asked in
      let answered = of-one (λ l. Answers (schedules l) now (passed.lowers l)) d around.answered in
      let seen = of-one (λ l. Answers (schedules l) now (seen_above (passed.lowers l) (link_of links l))) d around.answered_seen in
      let order_b : InOrderOfId (map write_asked (map (word_request bus) upper.aw)) (map write_reply lower.b) =
      subst (λ (xs : List Addr). InOrderOfId (map write_asked xs) (map write_reply lower.b)) keeps.writes.asked answered.answers_in_order_of_id in
      let seen_b : InOrderOfId (map write_asked (map (word_request bus) upper.aw)) (map write_reply (lower.b ++ take 1 below.b)) =
      subst (λ (xs : List Addr). InOrderOfId (map write_asked xs) (map write_reply (lower.b ++ take 1 below.b))) keeps.writes.asked seen.answers_in_order_of_id in
      let read_words : map burst_asked lower.ar ≡ map write_asked (map (word_request bus) upper.ar) = ap (map burst_asked) keeps.reads.asked ∙ words-asked bus upper.ar in
      let order_r : InOrderOfId (map write_asked (map (word_request bus) upper.ar)) (map read_reply lower.r) =
      subst (λ (xs : List Asked). InOrderOfId xs (map read_reply lower.r)) read_words answered.reads_in_order_of_id in
      let seen_r : InOrderOfId (map write_asked (map (word_request bus) upper.ar)) (map read_reply (lower.r ++ take 1 below.r)) =
      subst (λ (xs : List Asked). InOrderOfId xs (map read_reply (lower.r ++ take 1 below.r))) read_words seen.reads_in_order_of_id in
      let singles = requests-have bus (schedules u).reads upper.ar (λ t. (keeps.carries.reads t).beats) asked.reads.asks_only_its_parts in
      record {
        responses = λ room. all-one (λ k. length (link_of links k).b ≡ 0) d
            (not-answered returned_b s.writes (has_room above.depth above.b) below.b d (ap (λ (o : Out). o.b_take) quiet)
            (lt-ltb (length above.b) above.depth (of-one (λ k. length (link_of links k).b < (link_of links k).depth) u room))
            (waits bus write_reply returned_b (λ id x. refl) s.writes upper.aw lower.aw lower.b keeps.writes below.b seen_b));
        read_data = λ room. all-one (λ k. length (link_of links k).r ≡ 0) d
            (not-answered returned_r s.reads (has_room above.depth above.r) below.r d (ap (λ (o : Out). o.r_take) quiet)
            (lt-ltb (length above.r) above.depth (of-one (λ k. length (link_of links k).r < (link_of links k).depth) u room))
            (waits bus read_reply returned_r (λ id x. refl) s.reads upper.ar lower.ar lower.r keeps.reads below.r seen_r));
        reads = λ room none quiet_below.
            let has : HasNoRead below lower = of-one (λ k. HasNoRead (link_of links k) (passed.lowers k)) d quiet_below in
            let held : held_asked (map write_asked (map (word_request bus) upper.ar)) (map read_reply lower.r) ≡ [] = ap (λ (xs : List Asked). held_asked xs (map read_reply lower.r)) (sym read_words) ∙ has.none_held in
            let all = all-answered bus read_reply returned_r (λ id x. refl) s.reads upper.ar lower.ar lower.r keeps.reads order_r held in
            all-one (λ k. HasNoRead (link_of links k) (passed.uppers k)) u (record {
              none_waits = not-taken (has_room below.depth below.ar && fits s.reads) above.ar u (ap (λ (o : Out). o.ar_take) quiet)
                  (both-true (has_room below.depth below.ar) s.reads (roomy below.ar below.depth has.none_waits depth)
                  (none-waits bus read_reply returned_r (λ id x. refl) s.reads upper.ar lower.ar lower.r keeps.reads all));
              none_held = ap₂ (λ (xs : List Asked) (rs : List RBeat). held_asked xs (map read_reply rs)) (single-asked bus upper.ar singles) keeps.r
                  ∙ none-above bus read_reply returned_r (λ id x. refl) s.reads upper.ar lower.ar lower.r keeps.reads order_r all;
            });
        data_lacks = λ k among.
            All-contains (λ k. LacksData (link_of links k) (passed.lowers k) → (v : ℕ) × Contains (u ∷ []) v × LacksData (link_of links v) (passed.uppers v)) (d ∷ []) k
            (all-one (λ k. LacksData (link_of links k) (passed.lowers k) → (v : ℕ) × Contains (u ∷ []) v × LacksData (link_of links v) (passed.uppers v)) d
            (λ lacking.
            let long : length lower.w ≡ length upper.w = ap length keeps.w in
            let due : beats_due (map burst_asked lower.aw) ≡ beats_due (map burst_asked (map (word_request bus) upper.aw)) = ap (λ (xs : List Addr). beats_due (map burst_asked xs)) keeps.writes.asked in
            let least = due-least bus upper.aw in (
              u,
              one-has u,
              record {
                none_waits = not-taken (has_room below.depth below.w) above.w u (ap (λ (o : Out). o.w_take) quiet) (roomy below.w below.depth lacking.none_waits depth);
                lacks = omega (arith, long, due, least, lacking.lacks);
              },
            )))
            among;
        writes = λ room none fed quiet_below.
            let has : HasNoWrite below lower = of-one (λ k. HasNoWrite (link_of links k) (passed.lowers k)) d quiet_below in
            let held : held_asked (map write_asked (map (word_request bus) upper.aw)) (map write_reply lower.b) ≡ [] =
            ap (λ (xs : List Addr). held_asked (map write_asked xs) (map write_reply lower.b)) (sym keeps.writes.asked) ∙ has.none_held in
            let all = all-answered bus write_reply returned_b (λ id x. refl) s.writes upper.aw lower.aw lower.b keeps.writes order_b held in
            all-one (λ k. HasNoWrite (link_of links k) (passed.uppers k)) u (record {
              none_waits = not-taken (has_room below.depth below.aw && fits s.writes) above.aw u (ap (λ (o : Out). o.aw_take) quiet)
                  (both-true (has_room below.depth below.aw) s.writes (roomy below.aw below.depth has.none_waits depth)
                  (none-waits bus write_reply returned_b (λ id x. refl) s.writes upper.aw lower.aw lower.b keeps.writes all));
              none_held = ap (λ (bs : List BBeat). held_asked (map write_asked upper.aw) (map write_reply bs)) keeps.b
                  ∙ none-above bus write_reply returned_b (λ id x. refl) s.writes upper.aw lower.aw lower.b keeps.writes order_b all;
            });
        ends = λ none_b none_r reads writes. refl;
      }
