-- A Lite bridge's table, of every state and all links.
use Rattle.std.proofs.Common.{◌≡◌, ◌<◌, ◌≤◌, ℕ, Bool, true, false, List, [], ◌∷◌, Option, None, Some, length, length-append, refl, sym, subst, arith}
use Rattle.std.specs.Prelude.{◌&&◌, ◌||◌, is_some, option_map}
use Rattle.std.proofs.lemmas.Bool.{and_parts, ltb-true}
use Rattle.axi_beats.specs.declared.beat.Addr.{Addr}
use Rattle.axi_beats.specs.declared.beat.WBeat.{WBeat}
use Rattle.axi_beats.specs.declared.beat.BBeat.{BBeat}
use Rattle.axi_beats.specs.declared.beat.RBeat.{RBeat}
use Rattle.axi_link.specs.LinkView.{LinkView}
use Rattle.axi_link.specs.LinkWords.{has_room, head_of, link_of}
use Rattle.lite_node.specs.LiteState.{IsLite, LiteState}
use Rattle.lite_node.specs.LiteTable.{ids_left, ids_more, lite_above, lite_ar, lite_aw, lite_b, lite_below, lite_next, lite_out, lite_r, lite_w, returned_b, returned_r, returned_to, word_request}
use Rattle.lite_node.specs.LiteTrail.{lite_kind}
use Rattle.node_core.specs.Acted.{Acted, opened}
use Rattle.node_core.specs.Fits.{MovesFit, PutFits, TakeFits}
use Rattle.node_core.specs.Rows.{beat_where, fits, put_of, take_of}
use Rattle.node_core.proofs.FitLemmas.{put-fits, take-fits}
use Rattle.node_shape.specs.KindLaws.{Begins, Fit, Own, Rests, Stays, Steady}
use Rattle.node_shape.proofs.OneLinkLemmas.{one-has, puts-own, takes-own}

module _ {X : Type 0} (queue_of : LinkView → List X) (links : List LinkView) where
  -- an address is put as another one, where there is room and one more request fits
  word-fits : (number : ℕ) (changed : X → X) (more : Bool) (o : Option X) →
      PutFits queue_of links (put_of number (option_map changed (beat_where (has_room (link_of links number).depth (queue_of (link_of links number)) && more) o)))
  word-fits number changed more o =
      let go : (may : Bool) (o : Option X) → (may ≡ true → length (queue_of (link_of links number)) < (link_of links number).depth) → PutFits queue_of links (put_of number (option_map changed (beat_where may o))) =
      elim [
        | true ↦ elim [
          | None ↦ λ has. tt
          | Some beat ↦ λ has. has refl
        ]
        | false ↦ λ o has. tt
      ]
      in go (has_room (link_of links number).depth (queue_of (link_of links number)) && more) o
      (λ may. ltb-true (length (queue_of (link_of links number))) (link_of links number).depth (and_parts (has_room (link_of links number).depth (queue_of (link_of links number))) more may).0)

  module _ (returned : ℕ → X → X) (from to : ℕ) where
    -- an answer that goes up is taken
    answer-take-fits : (ids : List ℕ) (may : Bool) → TakeFits queue_of links (take_of from (is_some (returned_to returned ids (beat_where may (head_of (queue_of (link_of links from)))))))
    answer-take-fits [] may = tt
    answer-take-fits (id ∷ ids) may =
        subst (λ (b : Bool). TakeFits queue_of links (take_of from b)) (same (beat_where may (head_of (queue_of (link_of links from))))) (take-fits queue_of links from may)
      where
        same : (o : Option X) → is_some o ≡ is_some (option_map (returned id) o)
        same None = refl
        same (Some x) = refl

    -- and put where there is room
    answer-put-fits : (ids : List ℕ) (o : Option X) → PutFits queue_of links (put_of to (returned_to returned ids (beat_where (has_room (link_of links to).depth (queue_of (link_of links to))) o)))
    answer-put-fits [] o = tt
    answer-put-fits (id ∷ ids) o =
        let go : (may : Bool) (o : Option X) → (may ≡ true → length (queue_of (link_of links to)) < (link_of links to).depth) → PutFits queue_of links (put_of to (option_map (returned id) (beat_where may o))) =
        elim [
          | true ↦ elim [
            | None ↦ λ has. tt
            | Some beat ↦ λ has. has refl
          ]
          | false ↦ λ o has. tt
        ]
        in go (has_room (link_of links to).depth (queue_of (link_of links to))) o (ltb-true (length (queue_of (link_of links to))) (link_of links to).depth)

pub lite_fits : (links : List LinkView) (s : LiteState) → MovesFit links (lite_out links s)
lite_fits links s =
    let u = s.shape.upper in
    let d = s.shape.lower in
    let above = lite_above links s in
    let below = lite_below links s in
    let word = word_request s.shape.bus in
    record {
      aw_take = take-fits (λ l. l.aw) links u (has_room below.depth below.aw && fits s.writes);
      aw_put = word-fits (λ l. l.aw) links d word (fits s.writes) (head_of above.aw);
      w_take = take-fits (λ l. l.w) links u (has_room below.depth below.w);
      w_put = put-fits (λ l. l.w) links d (head_of above.w);
      b_take = answer-take-fits (λ l. l.b) links returned_b d u s.writes (has_room above.depth above.b);
      b_put = answer-put-fits (λ l. l.b) links returned_b d u s.writes (head_of below.b);
      ar_take = take-fits (λ l. l.ar) links u (has_room below.depth below.ar && fits s.reads);
      ar_put = word-fits (λ l. l.ar) links d word (fits s.reads) (head_of above.ar);
      r_take = answer-take-fits (λ l. l.r) links returned_r d u s.reads (has_room above.depth above.r);
      r_put = answer-put-fits (λ l. l.r) links returned_r d u s.reads (head_of below.r);
    }

-- the IDs are few still
left-few : (answered : Bool) (ids : List ℕ) → length (ids_left answered ids) ≤ length ids
left-few true [] = omega arith
left-few true (id ∷ ids) = omega arith
left-few false ids = omega arith

more-few : (room : Bool) (before ids : List ℕ) (o : Option Addr) → length ids ≤ length before → length before ≤ 16 →
    length (ids_more (beat_where (room && fits before) o) ids) ≤ 16
more-few room before ids o less few = go (room && fits before) o (λ may. ltb-true (length before) 16 (and_parts room (fits before) may).1)
  where
    go : (may : Bool) (o : Option Addr) → (may ≡ true → length before < 16) → length (ids_more (beat_where may o) ids) ≤ 16
    go false o has = omega (arith, less, few)
    go true None has = omega (arith, less, few)
    go true (Some a) has = let free : length before < 16 = has refl in omega (arith, less, free, length-append ids (a.id ∷ []))

pub lite_stays : (links : List LinkView) (s : LiteState) → IsLite s → IsLite (lite_next links s)
lite_stays links s is = record {
  bus = is.bus;
  few_writes = more-few (has_room (lite_below links s).depth (lite_below links s).aw) s.writes (ids_left (is_some (lite_b links s)) s.writes) (head_of (lite_above links s).aw)
      (left-few (is_some (lite_b links s)) s.writes) is.few_writes;
  few_reads = more-few (has_room (lite_below links s).depth (lite_below links s).ar) s.reads (ids_left (is_some (lite_r links s)) s.reads) (head_of (lite_above links s).ar)
      (left-few (is_some (lite_r links s)) s.reads) is.few_reads;
}

-- what a bridge does of the beats that move
abbrev acts : LiteState → Option Addr → Option WBeat → Option BBeat → Option Addr → Option RBeat → Acted LiteState
acts s aw w b ar r = record {
  state = record { shape = s.shape; writes = ids_more aw (ids_left (is_some b) s.writes); reads = ids_more ar (ids_left (is_some r) s.reads) };
  out = record {
    aw_take = take_of s.shape.upper (is_some aw);
    aw_put = put_of s.shape.lower (option_map (word_request s.shape.bus) aw);
    w_take = take_of s.shape.upper (is_some w);
    w_put = put_of s.shape.lower w;
    b_take = take_of s.shape.lower (is_some b);
    b_put = put_of s.shape.upper b;
    ar_take = take_of s.shape.upper (is_some ar);
    ar_put = put_of s.shape.lower (option_map (word_request s.shape.bus) ar);
    r_take = take_of s.shape.lower (is_some r);
    r_put = put_of s.shape.upper r;
  };
}

-- without a beat that moves nothing happens
still : (s : LiteState) (aw : Option Addr) (w : Option WBeat) (b : Option BBeat) (ar : Option Addr) (r : Option RBeat) →
    (is_some aw || is_some w || is_some b || is_some ar || is_some r) ≡ false → acts s aw w b ar r ≡ opened s
still s None None None None None quiet = refl
still s (Some x) w b ar r quiet = absurd (cc)
still s None (Some x) b ar r quiet = absurd (cc)
still s None None (Some x) ar r quiet = absurd (cc)
still s None None None (Some x) r quiet = absurd (cc)
still s None None None None (Some x) quiet = absurd (cc)

module _ (E : Type 0) where
  pub lite-always_fits : Fit (lite_kind {E = E})
  lite-always_fits round links s = lite_fits links s

  pub lite-moves_own : Own (lite_kind {E = E})
  lite-moves_own round links s =
      let u = s.shape.upper in
      let d = s.shape.lower in
      record {
        aw_take = takes-own (u ∷ []) u _ (one-has u);
        aw_put = puts-own (d ∷ []) d _ (one-has d);
        w_take = takes-own (u ∷ []) u _ (one-has u);
        w_put = puts-own (d ∷ []) d _ (one-has d);
        b_take = takes-own (d ∷ []) d _ (one-has d);
        b_put = puts-own (u ∷ []) u _ (one-has u);
        ar_take = takes-own (u ∷ []) u _ (one-has u);
        ar_put = puts-own (d ∷ []) d _ (one-has d);
        r_take = takes-own (d ∷ []) d _ (one-has d);
        r_put = puts-own (u ∷ []) u _ (one-has u);
      }

  pub lite-is_steady : Steady (lite_kind {E = E})
  lite-is_steady round links s = record { uppers = refl; lowers = refl; patience = refl; suits = λ schedules suits. suits }

  pub lite-begins : Begins (lite_kind {E = E})
  lite-begins s new = subst IsLite (sym new.new) (record { bus = new.bus; few_writes = omega arith; few_reads = omega arith })

  pub lite-stays : Stays (lite_kind {E = E})
  lite-stays round links s fact can = lite_stays links s fact

  pub lite-rests : Rests (lite_kind {E = E})
  lite-rests round links s quiet = still s (lite_aw links s) (lite_w links s) (lite_b links s) (lite_ar links s) (lite_r links s) quiet
