-- A mux's table, of every state and all links.
use Rattle.std.proofs.Common.{[], ◌&&◌, ◌<◌, ◌||◌, ◌∷◌, ◌≡◌, ◌≤◌, Bool, List, None, Option, Some, arith, false, length, length-append, refl, subst, sym, true, ℕ}
use Rattle.std.specs.Option.{option_and_then}
use Rattle.std.specs.Prelude.{All, Contains, IfSome, is_some, slice_get}
use Rattle.std.proofs.lemmas.Bool.{and_parts, ltb-true}
use Rattle.std.proofs.lemmas.List.{length-drop}
use Rattle.std.proofs.lemmas.List.Elements.{All-drop, All-nil, All-push}
use Rattle.std.proofs.lemmas.Option.{none-some, slice_get_within}
use Rattle.axi_beats.specs.declared.beat.Addr.{Addr}
use Rattle.axi_beats.specs.declared.beat.BBeat.{BBeat}
use Rattle.axi_beats.specs.declared.beat.RBeat.{RBeat}
use Rattle.axi_beats.specs.declared.beat.WBeat.{WBeat}
use Rattle.axi_link.specs.LinkView.{LinkView}
use Rattle.axi_link.specs.LinkWords.{has_room, head_of, link_of}
use Rattle.mux_node.proofs.RowLemmas.{IsAnswer, IsOffered, and_then-has, answered-is, in_turn-is, offered-is}
use Rattle.mux_node.specs.MuxState.{IsInputTurn, IsMux, IsMuxShape, MuxShape, MuxState, new_mux}
use Rattle.mux_node.specs.MuxTable.{Moved, ends_burst, granted_left, granted_more, ids_of, input_moved, mux_ar, mux_aw, mux_b, mux_next, mux_out, mux_r, mux_w, narrowed_b, narrowed_r, input_offer, offered_in_turn, put_on_input, put_on_lower, take_of_input, take_of_lower, turn_behind, unchanged, widened}
use Rattle.mux_node.specs.MuxTrail.{mux_kind}
use Rattle.node_core.proofs.RowLemmas.{beat_where-has}
use Rattle.node_core.specs.Acted.{opened}
use Rattle.node_core.specs.Fits.{MovesFit, PutFits, TakeFits}
use Rattle.node_core.specs.Rows.{beat_where, fits}
use Rattle.node_core.specs.Turn.{TurnState, new_turn}
use Rattle.node_shape.proofs.OneLinkLemmas.{one-has, takes-own}
use Rattle.node_shape.specs.KindLaws.{Begins, Fit, Own, Rests, Stays, Steady}
use Rattle.node_shape.specs.Quiet.{MovesOwn}
use Rattle.plain_lists.proofs.PlaceLemmas.{contains-at}

some-head : {X : Type 0} (queue : List X) (x : X) → head_of queue ≡ Some x → 0 < length queue
some-head [] x is = absurd (none-some x is)
some-head (y ∷ queue) x is = omega arith

module _ {X : Type 0} (queue_of : LinkView → List X) (links : List LinkView) (uppers : List ℕ) (lower : ℕ) where
  take-fits : (row : Option (Moved X)) → IfSome row (IsOffered queue_of links uppers) → TakeFits queue_of links (take_of_input row)
  take-fits None is = tt
  take-fits (Some m) is = some-head (queue_of (link_of links m.link)) m.beat is.head

  put-fits : (changed : ℕ → X → X) (may : Bool) (row : Option (Moved X)) → (may ≡ true → length (queue_of (link_of links lower)) < (link_of links lower).depth) →
      PutFits queue_of links (put_on_lower changed lower (beat_where may row))
  put-fits changed false row has = tt
  put-fits changed true None has = tt
  put-fits changed true (Some m) has = has refl

  module _ (id_of : X → ℕ) (ids : ℕ) (changed : X → X) where
    answer-take-fits : (row : Option (Moved X)) → IfSome row (IsAnswer queue_of id_of links uppers lower ids) → TakeFits queue_of links (take_of_lower lower row)
    answer-take-fits None is = tt
    answer-take-fits (Some m) is = some-head (queue_of (link_of links lower)) m.beat is.head

    answer-put-fits : (row : Option (Moved X)) → IfSome row (IsAnswer queue_of id_of links uppers lower ids) → PutFits queue_of links (put_on_input changed row)
    answer-put-fits None is = tt
    answer-put-fits (Some m) is = is.room_there

-- what is known of each row
module _ (links : List LinkView) (s : MuxState) where
  abbrev us : List ℕ
  us = s.shape.uppers

  pub aw-is : IfSome (mux_aw links s) (IsOffered (λ l. l.aw) links s.shape.uppers)
  aw-is = beat_where-has (IsOffered (λ l. l.aw) links us) _ (offered_in_turn (λ l. l.aw) links us s.turn_aw) (in_turn-is (λ l. l.aw) links us s.turn_aw)

  pub ar-is : IfSome (mux_ar links s) (IsOffered (λ l. l.ar) links s.shape.uppers)
  ar-is = beat_where-has (IsOffered (λ l. l.ar) links us) _ (offered_in_turn (λ l. l.ar) links us s.turn_ar) (in_turn-is (λ l. l.ar) links us s.turn_ar)

  pub w-is : IfSome (mux_w links s) (IsOffered (λ l. l.w) links s.shape.uppers)
  w-is =
      beat_where-has (IsOffered (λ l. l.w) links us) _ (option_and_then (input_offer (λ l. l.w) links us) (head_of s.granted))
      (and_then-has (IsOffered (λ l. l.w) links us) (input_offer (λ l. l.w) links us) (λ input. only input (input_offer (λ l. l.w) links us input) (offered-is (λ l. l.w) links us input)) (head_of s.granted))
    where
      only : (input : ℕ) (o : Option (Moved WBeat)) → IfSome o (λ m. IsOffered (λ l. l.w) links s.shape.uppers m × (m.input ≡ input)) → IfSome o (IsOffered (λ l. l.w) links s.shape.uppers)
      only input None is = tt
      only input (Some m) is = is.0

  pub b-is : IfSome (mux_b links s) (IsAnswer (λ l. l.b) (λ b. b.id) links s.shape.uppers s.shape.lower (ids_of s.shape))
  b-is = answered-is (λ l. l.b) (λ b. b.id) links us s.shape.lower (ids_of s.shape)

  pub r-is : IfSome (mux_r links s) (IsAnswer (λ l. l.r) (λ r. r.id) links s.shape.uppers s.shape.lower (ids_of s.shape))
  r-is = answered-is (λ l. l.r) (λ r. r.id) links us s.shape.lower (ids_of s.shape)

pub mux_fits : (links : List LinkView) (s : MuxState) → MovesFit links (mux_out links s)
mux_fits links s =
    let d = link_of links s.shape.lower in
    let us = s.shape.uppers in
    let l = s.shape.lower in
    let ids = ids_of s.shape in
    record {
      aw_take = take-fits (λ l. l.aw) links us l (mux_aw links s) (aw-is links s);
      aw_put = put-fits (λ l. l.aw) links us l (widened ids) (has_room d.depth d.aw && fits s.granted) (offered_in_turn (λ l. l.aw) links us s.turn_aw)
          (λ is. ltb-true (length d.aw) d.depth (and_parts (has_room d.depth d.aw) (fits s.granted) is).0);
      w_take = take-fits (λ l. l.w) links us l (mux_w links s) (w-is links s);
      w_put = put-fits (λ l. l.w) links us l unchanged (has_room d.depth d.w) (option_and_then (input_offer (λ l. l.w) links us) (head_of s.granted)) (ltb-true (length d.w) d.depth);
      b_take = answer-take-fits (λ l. l.b) links us l (λ b. b.id) ids (narrowed_b ids) (mux_b links s) (b-is links s);
      b_put = answer-put-fits (λ l. l.b) links us l (λ b. b.id) ids (narrowed_b ids) (mux_b links s) (b-is links s);
      ar_take = take-fits (λ l. l.ar) links us l (mux_ar links s) (ar-is links s);
      ar_put = put-fits (λ l. l.ar) links us l (widened ids) (has_room d.depth d.ar) (offered_in_turn (λ l. l.ar) links us s.turn_ar) (ltb-true (length d.ar) d.depth);
      r_take = answer-take-fits (λ l. l.r) links us l (λ r. r.id) ids (narrowed_r ids) (mux_r links s) (r-is links s);
      r_put = answer-put-fits (λ l. l.r) links us l (λ r. r.id) ids (narrowed_r ids) (mux_r links s) (r-is links s);
    }

-- its moves are on its own links
module _ {X : Type 0} (us : List ℕ) where
  among : (P : Moved X → Type 0) → ((m : Moved X) → P m → slice_get us m.input ≡ Some m.link) → (row : Option (Moved X)) → IfSome row P → IfSome row (λ m. Contains us m.link)
  among P at None is = tt
  among P at (Some m) is = contains-at us m.input m.link (at m is)

  take-among : (row : Option (Moved X)) → IfSome row (λ m. Contains us m.link) → IfSome (take_of_input row) (Contains us)
  take-among None is = tt
  take-among (Some m) is = is

  put-among : (changed : X → X) (row : Option (Moved X)) → IfSome row (λ m. Contains us m.link) → IfSome (put_on_input changed row) (λ put. Contains us put.0)
  put-among changed None is = tt
  put-among changed (Some m) is = is

put-low : {X : Type 0} (changed : ℕ → X → X) (l : ℕ) (row : Option (Moved X)) → IfSome (put_on_lower changed l row) (λ put. Contains (l ∷ []) put.0)
put-low changed l None = tt
put-low changed l (Some m) = one-has l

mux-own : (links : List LinkView) (s : MuxState) → MovesOwn s.shape.uppers (s.shape.lower ∷ []) (mux_out links s)
mux-own links s =
    let us = s.shape.uppers in
    let l = s.shape.lower in
    let ids = ids_of s.shape in
    record {
      aw_take = take-among us (mux_aw links s) (among us (IsOffered (λ l. l.aw) links us) (λ m is. is.link) (mux_aw links s) (aw-is links s));
      aw_put = put-low (widened ids) l (mux_aw links s);
      w_take = take-among us (mux_w links s) (among us (IsOffered (λ l. l.w) links us) (λ m is. is.link) (mux_w links s) (w-is links s));
      w_put = put-low unchanged l (mux_w links s);
      b_take = takes-own (l ∷ []) l _ (one-has l);
      b_put = put-among us (narrowed_b ids) (mux_b links s) (among us (IsAnswer (λ l. l.b) (λ b. b.id) links us l ids) (λ m is. is.link) (mux_b links s) (b-is links s));
      ar_take = take-among us (mux_ar links s) (among us (IsOffered (λ l. l.ar) links us) (λ m is. is.link) (mux_ar links s) (ar-is links s));
      ar_put = put-low (widened ids) l (mux_ar links s);
      r_take = takes-own (l ∷ []) l _ (one-has l);
      r_put = put-among us (narrowed_r ids) (mux_r links s) (among us (IsAnswer (λ l. l.r) (λ r. r.id) links us l ids) (λ m is. is.link) (mux_r links s) (r-is links s));
    }

-- ---- between rounds

turn-stays : {X : Type 0} (queue_of : LinkView → List X) (links : List LinkView) (shape : MuxShape) (turn : TurnState) (row : Option (Moved X)) →
    IfSome row (IsOffered queue_of links shape.uppers) → IsInputTurn shape turn → IsInputTurn shape (turn_behind turn (input_moved row))
turn-stays queue_of links shape turn None is t = t
turn-stays queue_of links shape turn (Some m) is t = record {
  ports = t.ports;
  turn = record { most = t.turn.most; last = let within = slice_get_within shape.uppers m.input m.link is.link in omega (arith, within, t.ports) };
}

abbrev Among : List ℕ → ℕ → Type 0
Among uppers input = input < length uppers

left-few : (ends : Bool) (granted : List ℕ) → length (granted_left ends granted) ≤ length granted
left-few true granted = omega (arith, length-drop 1 granted)
left-few false granted = omega arith

left-among : (uppers : List ℕ) (ends : Bool) (granted : List ℕ) → All (Among uppers) granted → All (Among uppers) (granted_left ends granted)
left-among uppers true granted all = All-drop (Among uppers) 1 granted all
left-among uppers false granted all = all

-- an address moves only where the list has room
more-few : (free : Bool) (row : Option (Moved Addr)) (granted rest : List ℕ) → length rest ≤ length granted → length granted ≤ 16 →
    length (granted_more (input_moved (beat_where (free && fits granted) row)) rest) ≤ 16
more-few free row granted rest less few = go (free && fits granted) refl row
  where
    go : (b : Bool) → (free && fits granted) ≡ b → (row : Option (Moved Addr)) → length (granted_more (input_moved (beat_where b row)) rest) ≤ 16
    go false is row = omega (arith, less, few)
    go true is None = omega (arith, less, few)
    go true is (Some m) = omega (arith, less, length-append rest (m.input ∷ []), ltb-true (length granted) 16 (and_parts free (fits granted) is).1)

more-among : (links : List LinkView) (uppers : List ℕ) (row : Option (Moved Addr)) (rest : List ℕ) → IfSome row (IsOffered (λ l. l.aw) links uppers) → All (Among uppers) rest →
    All (Among uppers) (granted_more (input_moved row) rest)
more-among links uppers None rest is all = all
more-among links uppers (Some m) rest is all = All-push (Among uppers) rest m.input all (slice_get_within uppers m.input m.link is.link)

pub mux_stays : (links : List LinkView) (s : MuxState) → IsMux s → IsMux (mux_next links s)
mux_stays links s is =
    let d = link_of links s.shape.lower in
    let rest = granted_left (ends_burst (mux_w links s)) s.granted in
    record {
      shape = is.shape;
      turn_aw = turn-stays (λ l. l.aw) links s.shape s.turn_aw (mux_aw links s) (aw-is links s) is.turn_aw;
      turn_ar = turn-stays (λ l. l.ar) links s.shape s.turn_ar (mux_ar links s) (ar-is links s) is.turn_ar;
      few = more-few (has_room d.depth d.aw) (offered_in_turn (λ l. l.aw) links s.shape.uppers s.turn_aw) s.granted rest (left-few (ends_burst (mux_w links s)) s.granted) is.few;
      inputs = more-among links s.shape.uppers (mux_aw links s) rest (aw-is links s) (left-among s.shape.uppers (ends_burst (mux_w links s)) s.granted is.inputs);
    }

new-turn_is : (shape : MuxShape) → IsMuxShape shape → IsInputTurn shape (new_turn (length shape.uppers))
new-turn_is shape is = record { ports = refl; turn = record { most = omega (arith, is.most); last = omega (arith, is.some) } }

pub new_mux_is : (shape : MuxShape) → IsMuxShape shape → IsMux (new_mux shape)
new_mux_is shape is = record {
  shape = is;
  turn_aw = new-turn_is shape is;
  turn_ar = new-turn_is shape is;
  few = omega arith;
  inputs = All-nil (λ input. input < length shape.uppers);
}

-- ---- without a beat to move nothing happens

still : (s : MuxState) (aw : Option (Moved Addr)) (w : Option (Moved WBeat)) (b : Option (Moved BBeat)) (ar : Option (Moved Addr)) (r : Option (Moved RBeat)) →
    (is_some aw || is_some w || is_some b || is_some ar || is_some r) ≡ false →
    record {
      state = record {
        shape = s.shape;
        turn_aw = turn_behind s.turn_aw (input_moved aw);
        turn_ar = turn_behind s.turn_ar (input_moved ar);
        granted = granted_more (input_moved aw) (granted_left (ends_burst w) s.granted);
      };
      out = record {
        aw_take = take_of_input aw;
        aw_put = put_on_lower (widened (ids_of s.shape)) s.shape.lower aw;
        w_take = take_of_input w;
        w_put = put_on_lower unchanged s.shape.lower w;
        b_take = take_of_lower s.shape.lower b;
        b_put = put_on_input (narrowed_b (ids_of s.shape)) b;
        ar_take = take_of_input ar;
        ar_put = put_on_lower (widened (ids_of s.shape)) s.shape.lower ar;
        r_take = take_of_lower s.shape.lower r;
        r_put = put_on_input (narrowed_r (ids_of s.shape)) r;
      };
    } ≡ opened s
still s None None None None None quiet = refl
still s (Some x) w b ar r quiet = absurd (cc)
still s None (Some x) b ar r quiet = absurd (cc)
still s None None (Some x) ar r quiet = absurd (cc)
still s None None None (Some x) r quiet = absurd (cc)
still s None None None None (Some x) quiet = absurd (cc)

module _ (E : Type 0) where
  pub mux-always_fits : Fit (mux_kind {E = E})
  mux-always_fits round links s = mux_fits links s

  pub mux-moves_own : Own (mux_kind {E = E})
  mux-moves_own round links s = mux-own links s

  pub mux-is_steady : Steady (mux_kind {E = E})
  mux-is_steady round links s = record { uppers = refl; lowers = refl; patience = refl; suits = λ schedules suits. suits }

  pub mux-begins : Begins (mux_kind {E = E})
  mux-begins s begun = subst IsMux (sym begun.new) (new_mux_is s.shape begun.shape)

  pub mux-stays : Stays (mux_kind {E = E})
  mux-stays round links s fact can = mux_stays links s fact

  pub mux-rests : Rests (mux_kind {E = E})
  mux-rests round links s quiet = still s (mux_aw links s) (mux_w links s) (mux_b links s) (mux_ar links s) (mux_r links s) quiet
