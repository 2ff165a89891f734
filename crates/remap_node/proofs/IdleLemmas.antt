-- A remapper that does nothing holds nothing back.
use Rattle.std.proofs.Common.{◌≡◌, ◌≢◌, ◌<◌, ◌==◌, ℕ, Bool, true, false, List, [], ◌∷◌, ◌++◌, Option, None, Some, length, map, take, refl, sym, ◌∙◌, ap, subst, arith}
use Rattle.std.specs.Prelude.{All, Contains, is_some}
use Rattle.std.proofs.lemmas.Bool.{lt-ltb}
use Rattle.std.proofs.lemmas.List.{map-append}
use Rattle.std.proofs.lemmas.List.Elements.{All-contains, All-filter, All-head}
use Rattle.std.proofs.lemmas.Simd.{map-map}
use Rattle.axi_beats.specs.declared.beat.Addr.{Addr}
use Rattle.axi_beats.specs.declared.beat.BBeat.{BBeat}
use Rattle.axi_beats.specs.declared.beat.RBeat.{RBeat}
use Rattle.axi_link.specs.LinkView.{LinkView}
use Rattle.axi_link.specs.LinkWords.{has_room, head_of, link_of}
use Rattle.axi_link.specs.declared.out.Out.{Out}
use Rattle.axi_trail.proofs.FilterFacts.{length-marks}
use Rattle.axi_trail.specs.LinkContracts.{Answers}
use Rattle.axi_trail.specs.Schedule.{Progress, Schedule}
use Rattle.axi_trail.specs.Trail.{Trail, seen_above}
use Rattle.axi_trail.specs.Waiting.{Waiting, waiting_shown}
use Rattle.axi_trail.specs.Words.{Asked, InOrderOfId, Mark, Reply, burst_asked, held_asked, id_of_reply, read_replies, read_reply, reads_asked, write_asked, write_replies, write_reply, writes_asked}
use Rattle.node_core.specs.Acted.{no_moves}
use Rattle.node_core.specs.Rows.{beat_where, take_of}
use Rattle.node_shape.proofs.OneLinkLemmas.{all-one, of-one, one-has}
use Rattle.node_shape.specs.KindLaws.{IdleHoldsNothing}
use Rattle.node_shape.specs.Quiet.{HasNoRead, HasNoWrite, HoldsNothingBack, LacksData}
use Rattle.plain_lists.proofs.CutLemmas.{all-unmap}
use Rattle.remap_node.proofs.AskLemmas.{announced-same}
use Rattle.remap_node.proofs.LocalLemmas.{empty-moves, placed-moves, row-takes}
use Rattle.remap_node.proofs.PairLemmas.{input-none}
use Rattle.remap_node.proofs.StepLemmas.{is-of, shown-held_above, shown-held_below}
use Rattle.remap_node.specs.RemapState.{RemapState, ids_below}
use Rattle.remap_node.specs.RemapTable.{Renamed, address_as, ids_of_request, input_in_flight, remap_above, remap_ar, remap_aw, remap_b, remap_below, remap_out, remap_r}
use Rattle.remap_node.specs.RemapTrail.{PairsAreHeld, RemapKeeps, burst_later, held_below, none_later, old_beat, remap_kind, shown_above, shown_below}
use Rattle.remap_node.specs.declared.pair.IdPair.{IdPair}

none-is : {X : Type 0} (o : Option X) (x : X) → o ≡ None → o ≡ Some x → ⊥
none-is o x none some = absurd (let no : None ≡ Some x = sym none ∙ some in cc)

no-head : {X : Type 0} (queue : List X) → ((x : X) (rest : List X) → queue ≡ x ∷ rest → ⊥) → length queue ≡ 0
no-head [] never = refl
no-head (x ∷ queue) never = absurd (never x queue refl)

no-images : {X Y : Type 0} (f : X → Y) (xs : List X) → map f xs ≡ [] → xs ≡ []
no-images f [] none = refl
no-images f (x ∷ xs) none = absurd (cc)

-- what isn't taken isn't there, where there is room
not-taken : {X : Type 0} (room : Bool) (queue : List X) (from : ℕ) → take_of from (is_some (beat_where room (head_of queue))) ≡ None → room ≡ true → length queue ≡ 0
not-taken false queue from quiet roomy = absurd (cc)
not-taken true [] from quiet roomy = refl
not-taken true (x ∷ queue) from quiet roomy = absurd (cc)

module _ (later : ℕ → ℕ) (ids : ℕ) (moved : List (Renamed Addr)) (pairs : List IdPair) (up down : List Reply) (has : PairsAreHeld later ids moved pairs up down) where
  -- an answer that comes in order has its request in flight
  is-placed : (p : Reply) → InOrderOfId (map (shown_below later) moved) (down ++ p ∷ []) → is_some (input_in_flight pairs p.id) ≡ true
  is-placed p order = go (input_in_flight pairs p.id) refl
    where
      go : (o : Option ℕ) → input_in_flight pairs p.id ≡ o → is_some o ≡ true
      go (Some input) is = refl
      go None is =
          let of = is-of later ids moved pairs up down has p order in
          let none : All (λ (w : Waiting (Renamed Addr)). w.request.id ≢ p.id) (held_below later moved (map id_of_reply down)) =
          all-unmap (λ (q : IdPair). q.output ≢ p.id) (λ (w : Waiting (Renamed Addr)). ids_of_request w.request) (held_below later moved (map id_of_reply down))
          (subst (λ (ps : List IdPair). All (λ (q : IdPair). q.output ≢ p.id) ps) has.entries (input-none pairs p.id is)) in
          let own : All (λ (w : Waiting (Renamed Addr)). w.request.id ≢ p.id) (of.waits ∷ of.others) =
          subst (λ (ws : List (Waiting (Renamed Addr))). All (λ (w : Waiting (Renamed Addr)). w.request.id ≢ p.id) ws) of.first
          (All-filter (λ (w : Waiting (Renamed Addr)). w.request.id == p.id) (λ (w : Waiting (Renamed Addr)). w.request.id ≢ p.id) (held_below later moved (map id_of_reply down)) none) in
          absurd (All-head (λ (w : Waiting (Renamed Addr)). w.request.id ≢ p.id) of.waits of.others own (sym (ap id_of_reply of.next)))

  -- where none is held below, none is held above, and no pair is left
  pub record NoneHeld : Type 0 where
    pub pairs_none : pairs ≡ []
    pub above_none : held_asked (map (shown_above later) moved) up ≡ []

  none-held : held_asked (map (shown_below later) moved) down ≡ [] → NoneHeld
  none-held none =
      let empty : held_below later moved (map id_of_reply down) ≡ [] = no-images (waiting_shown (shown_below later)) _ (sym (shown-held_below later ids moved pairs up down has) ∙ none) in
      record {
        pairs_none = has.entries ∙ ap (map (λ (w : Waiting (Renamed Addr)). ids_of_request w.request)) empty;
        above_none = shown-held_above later ids moved pairs up down has ∙ ap (map (waiting_shown (shown_above later))) empty;
      }

module _ (schedules : ℕ → Schedule) (now : Progress) (links : List LinkView) (s : RemapState) (uppers lowers : Trail) (keeps : RemapKeeps schedules s (uppers s.shape.upper) (lowers s.shape.lower))
    (seen : Answers (schedules s.shape.lower) now (seen_above (lowers s.shape.lower) (link_of links s.shape.lower))) (deep : 0 < (link_of links s.shape.lower).depth) (quiet : remap_out links s ≡ no_moves) where
  abbrev u : ℕ
  u = s.shape.upper

  abbrev d : ℕ
  d = s.shape.lower

  writes-below : writes_asked (lowers s.shape.lower) ≡ map (shown_below none_later) keeps.writes
  writes-below = ap (map write_asked) keeps.aw.to_is ∙ map-map write_asked address_as keeps.writes

  writes-above : writes_asked (uppers s.shape.upper) ≡ map (shown_above none_later) keeps.writes
  writes-above = ap (map write_asked) keeps.aw.from_is ∙ map-map write_asked old_beat keeps.writes

  reads-below : reads_asked (lowers s.shape.lower) ≡ map (shown_below burst_later) keeps.reads
  reads-below = ap (map burst_asked) keeps.ar.to_is ∙ map-map burst_asked address_as keeps.reads

  reads-above : reads_asked (uppers s.shape.upper) ≡ map (shown_above burst_later) keeps.reads
  reads-above = ap (map burst_asked) keeps.ar.from_is ∙ map-map burst_asked old_beat keeps.reads

  room-below : {X : Type 0} (queue : List X) → length queue ≡ 0 → has_room (remap_below links s).depth queue ≡ true
  room-below queue none = lt-ltb (length queue) (remap_below links s).depth (omega (arith, none, deep))

  no-response : length (remap_above links s).b < (remap_above links s).depth → length (remap_below links s).b ≡ 0
  no-response room = no-head (remap_below links s).b (λ x rest queue.
      let order : InOrderOfId (map (shown_below none_later) keeps.writes) (write_replies (lowers s.shape.lower) ++ write_reply x ∷ []) =
      subst (λ (asked : List Asked). InOrderOfId asked (write_replies (lowers s.shape.lower) ++ write_reply x ∷ [])) writes-below
      (subst (λ (ps : List Reply). InOrderOfId (writes_asked (lowers s.shape.lower)) ps)
      (ap (λ (bs : List BBeat). map write_reply ((lowers s.shape.lower).b ++ take 1 bs)) queue ∙ map-append write_reply (lowers s.shape.lower).b (x ∷ [])) seen.answers_in_order_of_id) in
      let moves = placed-moves (λ (b : BBeat). b.id) s.writes (has_room (remap_above links s).depth (remap_above links s).b) (remap_below links s).b x (ap (λ (q : List BBeat). head_of q) queue)
      (lt-ltb (length (remap_above links s).b) (remap_above links s).depth room)
      (is-placed none_later (ids_below s.shape) keeps.writes s.writes (write_replies (uppers s.shape.upper)) (write_replies (lowers s.shape.lower)) keeps.write_ids (write_reply x) order) in
      none-is (remap_out links s).b_take d (ap (λ (o : Out). o.b_take) quiet) (row-takes d (remap_b links s) moves.0 moves.1))

  no-read_data : length (remap_above links s).r < (remap_above links s).depth → length (remap_below links s).r ≡ 0
  no-read_data room = no-head (remap_below links s).r (λ x rest queue.
      let order : InOrderOfId (map (shown_below burst_later) keeps.reads) (read_replies (lowers s.shape.lower) ++ read_reply x ∷ []) =
      subst (λ (asked : List Asked). InOrderOfId asked (read_replies (lowers s.shape.lower) ++ read_reply x ∷ [])) reads-below
      (subst (λ (ps : List Reply). InOrderOfId (reads_asked (lowers s.shape.lower)) ps)
      (ap (λ (rs : List RBeat). map read_reply ((lowers s.shape.lower).r ++ take 1 rs)) queue ∙ map-append read_reply (lowers s.shape.lower).r (x ∷ [])) seen.reads_in_order_of_id) in
      let moves = placed-moves (λ (r : RBeat). r.id) s.reads (has_room (remap_above links s).depth (remap_above links s).r) (remap_below links s).r x (ap (λ (q : List RBeat). head_of q) queue)
      (lt-ltb (length (remap_above links s).r) (remap_above links s).depth room)
      (is-placed burst_later (ids_below s.shape) keeps.reads s.reads (read_replies (uppers s.shape.upper)) (read_replies (lowers s.shape.lower)) keeps.read_ids (read_reply x) order) in
      none-is (remap_out links s).r_take d (ap (λ (o : Out). o.r_take) quiet) (row-takes d (remap_r links s) moves.0 moves.1))

  no-write : HasNoWrite (remap_below links s) (lowers s.shape.lower) → HasNoWrite (remap_above links s) (uppers s.shape.upper)
  no-write below =
      let none = none-held none_later (ids_below s.shape) keeps.writes s.writes (write_replies (uppers s.shape.upper)) (write_replies (lowers s.shape.lower)) keeps.write_ids
      (ap (λ (asked : List Asked). held_asked asked (write_replies (lowers s.shape.lower))) (sym writes-below) ∙ below.none_held) in
      record {
        none_waits = no-head (remap_above links s).aw (λ a rest queue.
            none-is (remap_out links s).aw_take u (ap (λ (o : Out). o.aw_take) quiet) (row-takes u (remap_aw links s) (record { beat = a; id = 0 })
            (empty-moves s.writes s.shape.width (has_room (remap_below links s).depth (remap_below links s).aw) (remap_above links s).aw a none.pairs_none (ap (λ (q : List Addr). head_of q) queue)
            (room-below (remap_below links s).aw below.none_waits))));
        none_held = ap (λ (asked : List Asked). held_asked asked (write_replies (uppers s.shape.upper))) writes-above ∙ none.above_none;
      }

  no-read : HasNoRead (remap_below links s) (lowers s.shape.lower) → HasNoRead (remap_above links s) (uppers s.shape.upper)
  no-read below =
      let none = none-held burst_later (ids_below s.shape) keeps.reads s.reads (read_replies (uppers s.shape.upper)) (read_replies (lowers s.shape.lower)) keeps.read_ids
      (ap (λ (asked : List Asked). held_asked asked (read_replies (lowers s.shape.lower))) (sym reads-below) ∙ below.none_held) in
      record {
        none_waits = no-head (remap_above links s).ar (λ a rest queue.
            none-is (remap_out links s).ar_take u (ap (λ (o : Out). o.ar_take) quiet) (row-takes u (remap_ar links s) (record { beat = a; id = 0 })
            (empty-moves s.reads s.shape.width (has_room (remap_below links s).depth (remap_below links s).ar) (remap_above links s).ar a none.pairs_none (ap (λ (q : List Addr). head_of q) queue)
            (room-below (remap_below links s).ar below.none_waits))));
        none_held = ap (λ (asked : List Asked). held_asked asked (read_replies (uppers s.shape.upper))) reads-above ∙ none.above_none;
      }

  data-lacks : LacksData (remap_below links s) (lowers s.shape.lower) → LacksData (remap_above links s) (uppers s.shape.upper)
  data-lacks lacking =
      let same = announced-same keeps.writes (uppers s.shape.upper).aw (lowers s.shape.lower).aw keeps.aw in
      record {
        none_waits = not-taken (has_room (remap_below links s).depth (remap_below links s).w) (remap_above links s).w u (ap (λ (o : Out). o.w_take) quiet) (room-below (remap_below links s).w lacking.none_waits);
        lacks = omega (
          arith,
          lacking.lacks,
          ap length keeps.w,
          ap (λ (ms : List Mark). length ms) same,
          length-marks (map burst_asked (uppers s.shape.upper).aw),
          length-marks (map burst_asked (lowers s.shape.lower).aw),
        );
      }

  holds-nothing : HoldsNothingBack (link_of links) uppers lowers (s.shape.upper ∷ []) (s.shape.lower ∷ []) true
  holds-nothing = record {
    responses = λ room. all-one (λ k. length (link_of links k).b ≡ 0) d (no-response (of-one (λ k. length (link_of links k).b < (link_of links k).depth) u room));
    read_data = λ room. all-one (λ k. length (link_of links k).r ≡ 0) d (no-read_data (of-one (λ k. length (link_of links k).r < (link_of links k).depth) u room));
    reads = λ room none quiet_below. all-one (λ k. HasNoRead (link_of links k) (uppers k)) u (no-read (of-one (λ k. HasNoRead (link_of links k) (lowers k)) d quiet_below));
    data_lacks = λ k among.
        All-contains (λ k. LacksData (link_of links k) (lowers k) → (v : ℕ) × Contains (u ∷ []) v × LacksData (link_of links v) (uppers v)) (d ∷ []) k
        (all-one (λ k. LacksData (link_of links k) (lowers k) → (v : ℕ) × Contains (u ∷ []) v × LacksData (link_of links v) (uppers v)) d (λ lacking. (u, one-has u, data-lacks lacking)))
        among;
    writes = λ room none fed quiet_below. all-one (λ k. HasNoWrite (link_of links k) (uppers k)) u (no-write (of-one (λ k. HasNoWrite (link_of links k) (lowers k)) d quiet_below));
    ends = λ none_b none_r reads writes. refl;
  }

module _ (E : Type 0) where
  pub remap-holds_nothing : IdleHoldsNothing (remap_kind {E = E})
  remap-holds_nothing schedules now rounds links s passed fact keeps around above below idle =
      holds-nothing schedules now links s passed.uppers passed.lowers keeps
      (of-one (λ l. Answers (schedules l) now (seen_above (passed.lowers l) (link_of links l))) s.shape.lower around.answered_seen)
      (of-one (λ k. 0 < (link_of links k).depth) s.shape.lower below) (idle 0 (omega arith))
