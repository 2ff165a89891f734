-- What a Lite bridge has passed on its two links.
use Rattle.std.proofs.Common.{◌≡◌, ◌<◌, ◌≤◌, ◌-◌, ◌^◌, ℕ, suc, Bool, true, false, cond, List, [], ◌∷◌, ◌++◌, Option, None, Some, length, length-append, map, take, drop, refl, sym, ◌∙◌, ap, ap₂, subst, eq-eqb, arith}
use Rattle.std.specs.Prelude.{◌&&◌, All, IfSome, is_some, option_map}
use Rattle.std.proofs.lemmas.List.{append-nil, drop-append-le, length-drop, length-take-le, map-append, take-append-drop}
use Rattle.axi_beats.specs.declared.beat.Addr.{Addr}
use Rattle.axi_beats.specs.declared.beat.WBeat.{WBeat}
use Rattle.axi_link.specs.LinkView.{LinkView}
use Rattle.axi_link.specs.LinkWords.{has_room, head_of, link_of}
use Rattle.axi_link.specs.Moves.{appended, takes_from}
use Rattle.axi_trail.specs.LinkContracts.{Asks}
use Rattle.axi_trail.specs.Trail.{Beats, beat_taken, no_beats, seen_below}
use Rattle.axi_trail.specs.Words.{id_of_address}
use Rattle.burst_address.specs.Legal.{IsLegal}
use Rattle.lite_node.specs.LiteState.{LiteState}
use Rattle.lite_node.specs.LiteTable.{ids_left, ids_more, lite_above, lite_below, returned_b, returned_r, returned_to, word_request}
use Rattle.lite_node.specs.LiteTrail.{AsksForWords, IsWordBeat, LiteKeeps, lite_kind, returned_in_order}
use Rattle.lite_node.proofs.AskLemmas.{asked-in_words, requests-have}
use Rattle.lite_node.proofs.OrderLemmas.{heads, returned-more, returned-push, tails}
use Rattle.node_core.specs.Rows.{beat_where, fits, put_of, take_of}
use Rattle.node_shape.specs.KindLaws.{AsksBelow, Lasts, MayDecide, Opens}
use Rattle.node_shape.specs.WayLaws.{FillsAtEnds}
use Rattle.node_shape.proofs.OneLinkLemmas.{all-one, of-one}
use Rattle.plain_lists.proofs.CutLemmas.{all-cut}
use Rattle.plain_lists.proofs.PartLemmas.{drop_rest}

-- ---- what moves in a round

abbrev listed : {X : Type 0} → Option X → List X
listed None = []
listed (Some x) = x ∷ []

-- a head that is taken
taken-list : {X : Type 0} (number : ℕ) (may : Bool) (queue : List X) → beat_taken (takes_from number (take_of number (is_some (beat_where may (head_of queue))))) queue ≡ listed (beat_where may (head_of queue))
taken-list number false queue = refl
taken-list number true [] = refl
taken-list {X} number true (x ∷ queue) = ap (λ (b : Bool). beat_taken b (x ∷ queue)) (eq-eqb number number refl)

-- a beat that is put
put-list : {X : Type 0} (number : ℕ) (o : Option X) → appended number (put_of number o) ≡ listed o
put-list number None = refl
put-list {X} number (Some x) = ap (λ (b : Bool). cond b (x ∷ []) []) (eq-eqb number number refl)

-- an answer that goes up, as it came from below
abbrev going_up : {X : Type 0} → List ℕ → Option X → Option X
going_up [] o = None
going_up (id ∷ ids) o = o

up-list : {X : Type 0} (returned : ℕ → X → X) (number : ℕ) (ids : List ℕ) (may : Bool) (queue : List X) →
    beat_taken (takes_from number (take_of number (is_some (returned_to returned ids (beat_where may (head_of queue)))))) queue ≡ listed (going_up ids (beat_where may (head_of queue)))
up-list returned number [] may queue = refl
up-list returned number (id ∷ ids) false queue = refl
up-list returned number (id ∷ ids) true [] = refl
up-list {X} returned number (id ∷ ids) true (x ∷ queue) = ap (λ (b : Bool). beat_taken b (x ∷ queue)) (eq-eqb number number refl)

-- ---- one direction

module _ (bus : ℕ) {X : Type 0} (returned : ℕ → X → X) where
  abbrev word : Addr → Addr
  word = word_request bus

  -- what has passed of a direction: requests above and below, answers below and above, and the IDs that wait
  pub record Passing (ids : List ℕ) (above below : List Addr) (down up : List X) : Type 0 where
    pub asks : AsksForWords bus ids (length down) above below
    pub back : up ≡ returned_in_order returned above down

  -- an answer goes up
  answer-step : (ids : List ℕ) (above below : List Addr) (down up : List X) (o : Option X) → Passing ids above below down up →
      Passing (ids_left (is_some (returned_to returned ids o)) ids) above below (down ++ listed (going_up ids o)) (up ++ listed (returned_to returned ids o))
  answer-step [] above below down up o is = record {
    asks = subst (λ (n : ℕ). AsksForWords bus [] n above below) (ap length (sym (append-nil down))) is.asks;
    back = append-nil up ∙ is.back ∙ ap (returned_in_order returned above) (sym (append-nil down));
  }
  answer-step (id ∷ ids) above below down up None is = record {
    asks = subst (λ (n : ℕ). AsksForWords bus (id ∷ ids) n above below) (ap length (sym (append-nil down))) is.asks;
    back = append-nil up ∙ is.back ∙ ap (returned_in_order returned above) (sym (append-nil down));
  }
  answer-step (id ∷ ids) above below down up (Some x) is = go (drop (length down) above) refl
    where
      go : (rest : List Addr) → drop (length down) above ≡ rest → Passing ids above below (down ++ x ∷ []) (up ++ returned id x ∷ [])
      go [] none = absurd (never (is.asks.waiting ∙ ap (map id_of_address) none))
        where
          never : id ∷ ids ≡ [] → ⊥
          never e = absurd (cc)
      go (a ∷ more) some =
          let listed_ids : id ∷ ids ≡ a.id ∷ map id_of_address more = is.asks.waiting ∙ ap (map id_of_address) some in
          let own : id ≡ a.id = heads id a.id ids (map id_of_address more) listed_ids in
          let whole : above ≡ take (length down) above ++ a ∷ more = sym (take-append-drop (length down) above) ∙ ap (λ (t : List Addr). take (length down) above ++ t) some in
          let many : length (drop (length down) above) ≡ suc (length more) = ap length some in
          let long : length (drop (length down) above) ≡ length above - length down = length-drop (length down) above in
          let size : length (take (length down) above) ≡ length down = length-take-le (length down) above is.asks.few in
          let next : length (down ++ x ∷ []) ≡ suc (length down) = omega (arith, length-append down (x ∷ [])) in
          record {
            asks = record {
              asked = is.asks.asked;
              waiting = tails id a.id ids (map id_of_address more) listed_ids ∙ ap (map id_of_address) (sym (ap (λ (n : ℕ). drop n above) next ∙ drop_rest (length down) above a more some));
              few = omega (arith, next, many, long, is.asks.few);
            };
            back = ap (λ (t : List X). t ++ returned id x ∷ []) (is.back ∙ ap (λ (t : List Addr). returned_in_order returned t down) whole)
                ∙ ap (λ (n : ℕ). returned_in_order returned (take (length down) above ++ a ∷ more) down ++ returned n x ∷ []) own
                ∙ sym (returned-push returned (take (length down) above) a more down x (sym size))
                ∙ ap (λ (t : List Addr). returned_in_order returned t (down ++ x ∷ [])) (sym whole);
          }

  -- an address goes down
  address-step : (ids : List ℕ) (above below : List Addr) (down up : List X) (o : Option Addr) → Passing ids above below down up →
      Passing (ids_more o ids) (above ++ listed o) (below ++ listed (option_map word o)) down up
  address-step ids above below down up None is = record {
    asks = record {
      asked = append-nil below ∙ is.asks.asked ∙ ap (map word) (sym (append-nil above));
      waiting = is.asks.waiting ∙ ap (λ (t : List Addr). map id_of_address (drop (length down) t)) (sym (append-nil above));
      few = subst (λ (n : ℕ). length down ≤ n) (ap length (sym (append-nil above))) is.asks.few;
    };
    back = is.back ∙ ap (λ (t : List Addr). returned_in_order returned t down) (sym (append-nil above));
  }
  address-step ids above below down up (Some a) is = record {
    asks = record {
      asked = ap (λ (t : List Addr). t ++ word a ∷ []) is.asks.asked ∙ sym (map-append word above (a ∷ []));
      waiting = ap (λ (t : List ℕ). t ++ a.id ∷ []) is.asks.waiting ∙ sym (map-append id_of_address (drop (length down) above) (a ∷ []))
          ∙ ap (map id_of_address) (sym (drop-append-le (length down) above (a ∷ []) is.asks.few));
      few = omega (arith, length-append above (a ∷ []), is.asks.few);
    };
    back = is.back ∙ sym (returned-more returned above (a ∷ []) down is.asks.few);
  }

  -- a round: an answer goes up, and an address goes down
  round-step : (u d : ℕ) (ids : List ℕ) (above below : List Addr) (down up : List X) (may room : Bool) (addresses : List Addr) (answers : List X) → Passing ids above below down up →
      let aw = beat_where may (head_of addresses) in
      let b = returned_to returned ids (beat_where room (head_of answers)) in
      Passing (ids_more aw (ids_left (is_some b) ids))
      (above ++ beat_taken (takes_from u (take_of u (is_some aw))) addresses) (below ++ appended d (put_of d (option_map word aw)))
      (down ++ beat_taken (takes_from d (take_of d (is_some b))) answers) (up ++ appended u (put_of u b))
  round-step u d ids above below down up may room addresses answers is =
      let aw = beat_where may (head_of addresses) in
      let o = beat_where room (head_of answers) in
      let b = returned_to returned ids o in
      let after = address-step (ids_left (is_some b) ids) above below (down ++ listed (going_up ids o)) (up ++ listed b) aw (answer-step ids above below down up o is) in
      subst (λ (t : List X). Passing (ids_more aw (ids_left (is_some b) ids))
      (above ++ beat_taken (takes_from u (take_of u (is_some aw))) addresses) (below ++ appended d (put_of d (option_map word aw)))
      (down ++ beat_taken (takes_from d (take_of d (is_some b))) answers) (up ++ t)) (sym (put-list u b))
      (subst (λ (t : List X). Passing (ids_more aw (ids_left (is_some b) ids))
      (above ++ beat_taken (takes_from u (take_of u (is_some aw))) addresses) (below ++ appended d (put_of d (option_map word aw)))
      (down ++ t) (up ++ listed b)) (sym (up-list returned d ids room answers))
      (subst (λ (t : List Addr). Passing (ids_more aw (ids_left (is_some b) ids))
      (above ++ beat_taken (takes_from u (take_of u (is_some aw))) addresses) (below ++ t)
      (down ++ listed (going_up ids o)) (up ++ listed b)) (sym (put-list d (option_map word aw)))
      (subst (λ (t : List Addr). Passing (ids_more aw (ids_left (is_some b) ids)) (above ++ t) (below ++ listed (option_map word aw))
      (down ++ listed (going_up ids o)) (up ++ listed b)) (sym (taken-list u may addresses)) after)))

-- ---- the trails

data-moves : (may : Bool) (queue : List WBeat) (from to : ℕ) →
    appended to (put_of to (beat_where may (head_of queue))) ≡ beat_taken (takes_from from (take_of from (is_some (beat_where may (head_of queue))))) queue
data-moves may queue from to = put-list to (beat_where may (head_of queue)) ∙ sym (taken-list from may queue)

-- a head that is seen is one of the trail
seen-head : {X : Type 0} (P : X → Type 0) (front queue : List X) → All P (front ++ take 1 queue) → IfSome (head_of queue) P
seen-head P front [] all = tt
seen-head P front (x ∷ queue) all = all-cut P front x [] all

-- what follows from what holds of a head
head-map : {X : Type 0} (P Q : X → Type 0) → ((x : X) → P x → Q x) → (o : Option X) → IfSome o P → IfSome o Q
head-map P Q follows None is = tt
head-map P Q follows (Some x) is = follows x is

module _ (E : Type 0) where
  pub lite-opens : Opens (lite_kind {E = E})
  lite-opens schedules s new carries =
      subst (λ (n : LiteState). LiteKeeps (schedules n.shape.upper) (schedules n.shape.lower) n no_beats no_beats) (sym new.new) (record {
        carries = carries;
        writes = record { asked = refl; waiting = refl; few = omega arith };
        reads = record { asked = refl; waiting = refl; few = omega arith };
        w = refl;
        b = refl;
        r = refl;
      })

  pub lite-may_decide : MayDecide (lite_kind {E = E})
  lite-may_decide schedules now rounds links s passed fact suits uppers lowers asked =
      let u : ℕ = s.shape.upper in
      let asks : Asks (schedules u) now (seen_below (passed.uppers u) (link_of links u)) = of-one (λ l. Asks (schedules l) now (seen_below (passed.uppers l) (link_of links l))) u asked in
      let writes = requests-have s.shape.bus (schedules u).writes _ (λ t. (suits.writes t).beats) asks.writes.asks_only_its_parts in
      let reads = requests-have s.shape.bus (schedules u).reads _ (λ t. (suits.reads t).beats) asks.reads.asks_only_its_parts in
      let aw = seen-head (IsWordBeat s.shape.bus) (passed.uppers u).aw (link_of links u).aw writes in
      let ar = seen-head (IsWordBeat s.shape.bus) (passed.uppers u).ar (link_of links u).ar reads in
      record {
        upper = of-one (λ l. l < length links) u uppers;
        lower = of-one (λ l. l < length links) s.shape.lower lowers;
        aw_legal = head-map (IsWordBeat s.shape.bus) (λ a. IsLegal a s.shape.bus) (λ a is. is.legal) (head_of (link_of links u).aw) aw;
        aw_small = head-map (IsWordBeat s.shape.bus) (λ a. a.addr < 2 ^ 63) (λ a is. is.small) (head_of (link_of links u).aw) aw;
        ar_legal = head-map (IsWordBeat s.shape.bus) (λ a. IsLegal a s.shape.bus) (λ a is. is.legal) (head_of (link_of links u).ar) ar;
        ar_small = head-map (IsWordBeat s.shape.bus) (λ a. a.addr < 2 ^ 63) (λ a is. is.small) (head_of (link_of links u).ar) ar;
      }

  pub lite-lasts : Lasts (lite_kind {E = E})
  lite-lasts schedules now rounds links s passed fact keeps can around =
      let u : ℕ = s.shape.upper in
      let d : ℕ = s.shape.lower in
      let upper : Beats = passed.uppers u in
      let lower : Beats = passed.lowers d in
      let above : LinkView = lite_above links s in
      let below : LinkView = lite_below links s in
      let writes = round-step s.shape.bus returned_b u d s.writes upper.aw lower.aw lower.b upper.b (has_room below.depth below.aw && fits s.writes) (has_room above.depth above.b) above.aw below.b
      (record { asks = keeps.writes; back = keeps.b }) in
      let reads = round-step s.shape.bus returned_r u d s.reads upper.ar lower.ar lower.r upper.r (has_room below.depth below.ar && fits s.reads) (has_room above.depth above.r) above.ar below.r
      (record { asks = keeps.reads; back = keeps.r }) in
      record {
        carries = keeps.carries;
        writes = writes.asks;
        reads = reads.asks;
        w = ap₂ (λ (xs ys : List WBeat). xs ++ ys) keeps.w (data-moves (has_room below.depth below.w) above.w u d);
        b = writes.back;
        r = reads.back;
      }

  pub lite-asks : AsksBelow (lite_kind {E = E})
  lite-asks schedules now rounds s passed fact keeps known asked =
      let u : ℕ = s.shape.upper in
      let d : ℕ = s.shape.lower in
      all-one (λ l. Asks (schedules l) now (passed.lowers l)) d
      (asked-in_words s.shape.bus (schedules u) (schedules d) now (passed.uppers u) (passed.lowers d) keeps.carries keeps.writes.asked keeps.reads.asked keeps.w
      (of-one (λ l. Asks (schedules l) now (passed.uppers l)) u asked))

  pub lite-fills_nothing : FillsAtEnds (lite_kind {E = E})
  lite-fills_nothing schedules rounds s passed keeps number some = absurd (omega (arith, some))
