-- An up converter that does nothing holds nothing back.
use Rattle.std.proofs.Common.{◌≡◌, ◌<◌, ◌&&◌, ◌==◌, ◌++◌, ℕ, Bool, true, false, cond, List, [], ◌∷◌, Option, None, Some, length, map, take, refl, sym, ◌∙◌, ap, ap₂, subst, arith}
use Rattle.std.specs.Prelude.{Contains, is_some}
use Rattle.std.proofs.lemmas.Bool.{lt-ltb}
use Rattle.std.proofs.lemmas.List.{map-append}
use Rattle.std.proofs.lemmas.List.Elements.{All-contains}
use Rattle.axi_beats.specs.declared.beat.Addr.{Addr}
use Rattle.axi_beats.specs.declared.beat.RBeat.{RBeat}
use Rattle.axi_beats.specs.declared.beat.WBeat.{WBeat}
use Rattle.axi_link.specs.LinkView.{LinkView}
use Rattle.axi_link.specs.LinkWords.{has_room, head_of, link_of}
use Rattle.axi_link.specs.declared.out.Out.{Out}
use Rattle.axi_trail.proofs.StepFacts.{held-shown, next_answer, pending-shown}
use Rattle.axi_trail.proofs.WholeFacts.{none_lacks_data}
use Rattle.axi_trail.specs.LinkContracts.{Answers}
use Rattle.axi_trail.specs.Schedule.{Schedule}
use Rattle.axi_trail.specs.Trail.{Beats, seen_above}
use Rattle.axi_trail.specs.Waiting.{Waiting, held, waiting_shown}
use Rattle.axi_trail.specs.Words.{Asked, InOrderOfId, Reply, burst_asked, completed, data_marks, held_asked, id_of_asked, id_of_waiting, len_of_asked, read_replies, read_reply, reads_asked, write_asked, write_replies, write_reply, writes_asked}
use Rattle.node_core.specs.Acted.{no_moves}
use Rattle.node_core.specs.Rows.{beat_where, fits, take_of}
use Rattle.node_shape.specs.KindLaws.{IdleHoldsNothing}
use Rattle.node_shape.specs.Quiet.{HasNoRead, HasNoWrite, LacksData}
use Rattle.node_shape.proofs.OneLinkLemmas.{all-one, of-one, one-has}
use Rattle.plain_lists.proofs.KeyLemmas.{of_key-map}
use Rattle.plain_lists.specs.Keys.{of_key}
use Rattle.up_node.proofs.EntryLemmas.{data-moves, read_data-moves}
use Rattle.up_node.proofs.LocalLemmas.{some-lacks}
use Rattle.up_node.proofs.ReadSteps.{id_of_read_data, ids-shown}
use Rattle.up_node.proofs.TrailLemmas.{replies-alike}
use Rattle.up_node.specs.UpState.{UpState}
use Rattle.up_node.specs.UpTable.{oldest_of_id, up_above, up_below, up_out, up_r, up_w}
use Rattle.up_node.specs.UpTrail.{UpKeeps, up_kind}

-- what isn't taken isn't there, where the row's condition holds
not-taken : {X : Type 0} (holds : Bool) (queue : List X) (from : ℕ) → take_of from (is_some (beat_where holds (head_of queue))) ≡ None → holds ≡ true → length queue ≡ 0
not-taken false queue from quiet holding = absurd (cc)
not-taken true [] from quiet holding = refl
not-taken true (x ∷ queue) from quiet holding = absurd (cc)

-- a row that takes nothing moves nothing
never-moved : {X : Type 0} (from : ℕ) (row : Option X) (x : X) → take_of from (is_some row) ≡ None → row ≡ Some x → ⊥
never-moved {X} from row x quiet moves = let some : take_of from true ≡ None = sym (ap (λ (o : Option X). take_of from (is_some o)) moves) ∙ quiet in none some
  where
    none : Some from ≡ None → ⊥
    none e = absurd (cc)

roomy : {X : Type 0} (xs : List X) (depth : ℕ) → length xs ≡ 0 → 0 < depth → has_room depth xs ≡ true
roomy xs depth empty deep = lt-ltb (length xs) depth (omega (arith, empty, deep))

fits-and : (entries : List (Waiting Addr)) (room : Bool) → entries ≡ [] → room ≡ true → (fits entries && room) ≡ true
fits-and entries room none roomy = ap (λ (es : List (Waiting Addr)). fits es && room) none ∙ roomy

none-shown : (entries : List (Waiting Addr)) → map (waiting_shown burst_asked) entries ≡ [] → entries ≡ []
none-shown [] is = refl
none-shown (e ∷ es) is = absurd (cc)

none-found : (id : ℕ) (entries : List (Waiting Addr)) → oldest_of_id id entries ≡ None → of_key (λ (e : Waiting Addr). e.request.id) id entries ≡ []
none-found id [] is = refl
none-found id (e ∷ es) is = go (e.request.id == id) is (none-found id es)
  where
    go : (b : Bool) → cond b (Some e) (oldest_of_id id es) ≡ None → (oldest_of_id id es ≡ None → of_key (λ (e : Waiting Addr). e.request.id) id es ≡ []) →
        cond b (e ∷ of_key (λ (e : Waiting Addr). e.request.id) id es) (of_key (λ (e : Waiting Addr). e.request.id) id es) ≡ []
    go true is later = absurd (cc)
    go false is later = later is

module _ (above below : Schedule) (s : UpState) (upper lower : Beats) (keeps : UpKeeps above below s upper lower) where
  -- the reads that are held are the entries, at both ends
  held-upper : held_asked (reads_asked upper) (read_replies upper) ≡ map (waiting_shown burst_asked) s.reads
  held-upper =
      ap (held len_of_asked id_of_asked (reads_asked upper)) (ids-shown upper.r) ∙ held-shown burst_asked len_of_asked id_of_asked upper.ar (map id_of_read_data upper.r)
      ∙ ap (map (waiting_shown burst_asked)) (sym keeps.held_reads)

  held-lower : held_asked (reads_asked lower) (read_replies lower) ≡ held_asked (reads_asked upper) (read_replies upper)
  held-lower = ap₂ held_asked (ap (map burst_asked) keeps.ar) (sym (replies-alike upper.r lower.r keeps.answers))

  writes-lower : held_asked (writes_asked lower) (write_replies lower) ≡ held_asked (writes_asked upper) (write_replies upper)
  writes-lower = ap₂ held_asked (ap (map write_asked) keeps.aw) (ap (map write_reply) (sym keeps.b))

  -- an answer that comes in order has its read
  answer-entry : (r : RBeat) → InOrderOfId (reads_asked lower) (map read_reply (lower.r ++ r ∷ [])) → (e : Waiting Addr) × (oldest_of_id r.id s.reads ≡ Some e)
  answer-entry r order = go (oldest_of_id r.id s.reads) refl
    where
      next : (w : Waiting Asked) × (others : List (Waiting Asked)) × (of_key id_of_waiting r.id (held_asked (reads_asked lower) (read_replies lower)) ≡ w ∷ others)
      next =
          let answer = next_answer (reads_asked lower) (read_replies lower) (read_reply r) (subst (λ (ps : List Reply). InOrderOfId (reads_asked lower) ps) (map-append read_reply lower.r (r ∷ [])) order) in
          (answer.0, answer.1, answer.2)

      never : (w : Waiting Asked) (ws : List (Waiting Asked)) → [] ≡ w ∷ ws → ⊥
      never w ws e = absurd (cc)

      go : (o : Option (Waiting Addr)) → oldest_of_id r.id s.reads ≡ o → (e : Waiting Addr) × (oldest_of_id r.id s.reads ≡ Some e)
      go (Some e) is = (e, is)
      go None is =
          let none : of_key id_of_waiting r.id (held_asked (reads_asked lower) (read_replies lower)) ≡ [] =
          ap (of_key id_of_waiting r.id) (held-lower ∙ held-upper) ∙ of_key-map id_of_waiting (waiting_shown burst_asked) r.id s.reads ∙ ap (map (waiting_shown burst_asked)) (none-found r.id s.reads is) in
          absurd (never next.0 next.1 (sym none ∙ next.2))

  -- where no write lacks a response, none lacks data
  none-lacks : InOrderOfId (map write_asked (completed upper.aw (data_marks upper))) (write_replies upper) → held_asked (writes_asked upper) (write_replies upper) ≡ [] → s.writes ≡ []
  none-lacks after none =
      none-shown s.writes
      (ap (map (waiting_shown burst_asked)) keeps.pending_writes ∙ sym (pending-shown burst_asked len_of_asked (length upper.w) upper.aw)
      ∙ none_lacks_data upper.aw upper.w (write_replies upper) keeps.in_order after none)

  module _ (links : List LinkView) (quiet : up_out links s ≡ no_moves) where
    abbrev u : LinkView
    u = up_above links s

    abbrev l : LinkView
    l = up_below links s

    no-read_data : has_room u.depth u.r ≡ true → InOrderOfId (reads_asked lower) (map read_reply (lower.r ++ take 1 l.r)) → length l.r ≡ 0
    no-read_data room order = go l.r refl
      where
        go : (queue : List RBeat) → l.r ≡ queue → length l.r ≡ 0
        go [] is = ap (λ (q : List RBeat). length q) is
        go (r ∷ queue) is =
            let entry = answer-entry r (subst (λ (q : List RBeat). InOrderOfId (reads_asked lower) (map read_reply (lower.r ++ take 1 q))) is order) in
            absurd (never-moved s.shape.lower (up_r links s) _ (ap (λ (o : Out). o.r_take) quiet) (read_data-moves s.shape _ _ s.reads r entry.0 room (ap head_of is) entry.1))

    no-data : (e : Waiting Addr) (es : List (Waiting Addr)) → s.writes ≡ e ∷ es → has_room l.depth l.w ≡ true → length u.w ≡ 0
    no-data e es is room = go u.w refl
      where
        go : (queue : List WBeat) → u.w ≡ queue → length u.w ≡ 0
        go [] none = ap (λ (q : List WBeat). length q) none
        go (w ∷ queue) some =
            absurd (never-moved s.shape.upper (up_w links s) _ (ap (λ (o : Out). o.w_take) quiet) (data-moves s.shape _ _ s.writes w e room (ap head_of some) (ap head_of is)))

module _ (E : Type 0) where
  pub up-holds_nothing : IdleHoldsNothing (up_kind {E = E})
  up-holds_nothing schedules now rounds links s passed fact keeps around above below idle =
      let upper = s.shape.upper in
      let lower = s.shape.lower in
      let quiet = idle 0 (omega arith) in
      let u = up_above links s in
      let l = up_below links s in
      let up = passed.uppers upper in
      let down = passed.lowers lower in
      let depth : 0 < l.depth = of-one (λ k. 0 < (link_of links k).depth) lower below in
      let seen = of-one (λ k. Answers (schedules k) now (seen_above (passed.lowers k) (link_of links k))) lower around.answered_seen in
      let answers = of-one (λ k. Answers (schedules k) now (passed.uppers k)) upper around.answers in
      record {
        responses = λ room. all-one (λ k. length (link_of links k).b ≡ 0) lower
            (not-taken (has_room u.depth u.b) l.b lower (ap (λ (o : Out). o.b_take) quiet) (lt-ltb (length u.b) u.depth (of-one (λ k. length (link_of links k).b < (link_of links k).depth) upper room)));
        read_data = λ room. all-one (λ k. length (link_of links k).r ≡ 0) lower
            (no-read_data (schedules upper) (schedules lower) s up down keeps links quiet (lt-ltb (length u.r) u.depth (of-one (λ k. length (link_of links k).r < (link_of links k).depth) upper room)) seen.reads_in_order_of_id);
        reads = λ room none quiet_below.
            let no_read : HasNoRead l down = of-one (λ k. HasNoRead (link_of links k) (passed.lowers k)) lower quiet_below in
            let held_none : held_asked (reads_asked up) (read_replies up) ≡ [] = sym (held-lower (schedules upper) (schedules lower) s up down keeps) ∙ no_read.none_held in
            let entries : s.reads ≡ [] = none-shown s.reads (sym (held-upper (schedules upper) (schedules lower) s up down keeps) ∙ held_none) in
            all-one (λ k. HasNoRead (link_of links k) (passed.uppers k)) upper (record {
              none_waits = not-taken (fits s.reads && has_room l.depth l.ar) u.ar upper (ap (λ (o : Out). o.ar_take) quiet) (fits-and s.reads _ entries (roomy l.ar l.depth no_read.none_waits depth));
              none_held = held_none;
            });
        data_lacks = λ k among.
            All-contains (λ k. LacksData (link_of links k) (passed.lowers k) → (v : ℕ) × Contains (upper ∷ []) v × LacksData (link_of links v) (passed.uppers v)) (lower ∷ []) k
            (all-one (λ k. LacksData (link_of links k) (passed.lowers k) → (v : ℕ) × Contains (upper ∷ []) v × LacksData (link_of links v) (passed.uppers v)) lower
            (λ lacking.
            let some = some-lacks (schedules upper) (schedules lower) s up down keeps lacking.lacks in (
              upper,
              one-has upper,
              record {
                none_waits = no-data (schedules upper) (schedules lower) s up down keeps links quiet some.0 some.1 some.2 (roomy l.w l.depth lacking.none_waits depth);
                lacks = some.3;
              },
            )))
            among;
        writes = λ room none fed quiet_below.
            let no_write : HasNoWrite l down = of-one (λ k. HasNoWrite (link_of links k) (passed.lowers k)) lower quiet_below in
            let held_none : held_asked (writes_asked up) (write_replies up) ≡ [] = sym (writes-lower (schedules upper) (schedules lower) s up down keeps) ∙ no_write.none_held in
            let entries : s.writes ≡ [] = none-lacks (schedules upper) (schedules lower) s up down keeps answers.answered_after_its_data held_none in
            all-one (λ k. HasNoWrite (link_of links k) (passed.uppers k)) upper (record {
              none_waits = not-taken (fits s.writes && has_room l.depth l.aw) u.aw upper (ap (λ (o : Out). o.aw_take) quiet) (fits-and s.writes _ entries (roomy l.aw l.depth no_write.none_waits depth));
              none_held = held_none;
            });
        ends = λ none_b none_r reads writes. refl;
      }
