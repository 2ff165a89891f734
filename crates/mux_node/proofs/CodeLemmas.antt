-- What the code of a mux finds is what its table names.
use Rattle.std.proofs.Common.{◌&&◌, ◌+◌, ◌<◌, ◌==◌, ◌||◌, ◌∙◌, ◌≡◌, ◌≤◌, Bool, List, None, Option, Some, ap, ap₂, arith, eq-eqb, false, inl, inr, length, refl, subst, suc, sym, take, true, ℕ}
use Rattle.std.specs.Borrow.{Bor}
use Rattle.std.specs.Option.{option_and_then, option_copied, option_map}
use Rattle.std.specs.Prelude.{All, IfSome, is_some, nat_lt, slice_index_or}
use Rattle.std.proofs.lemmas.Bool.{cases_eq, cases_lt, le-ltb, lt-ltb, ne_eqb}
use Rattle.std.proofs.lemmas.List.Elements.{All-push}
use Rattle.std.proofs.lemmas.Option.{slice_get-get_or, slice_get_past, slice_get_within}
use Rattle.axi_beats.specs.declared.beat.Addr.{Addr}
use Rattle.axi_beats.specs.declared.beat.BBeat.{BBeat}
use Rattle.axi_beats.specs.declared.beat.RBeat.{RBeat}
use Rattle.axi_beats.specs.declared.beat.WBeat.{WBeat}
use Rattle.axi_link.specs.LinkView.{LinkView}
use Rattle.axi_link.specs.LinkWords.{has_room, head_of, link_of}
use Rattle.axi_link.specs.declared.out.Out.{Out}
use Rattle.mux_node.proofs.RowLemmas.{IsOffered, offered-is}
use Rattle.mux_node.specs.MuxState.{MuxShape, MuxState}
use Rattle.mux_node.specs.MuxTable.{Moved, ends_burst, granted_left, granted_more, ids_of, input_moved, mux_ar, mux_aw, mux_b, mux_next, mux_out, mux_r, mux_table, mux_w, narrowed_b, narrowed_r, input_offer, offered_in_turn, put_on_input, put_on_lower, take_of_input, take_of_lower, turn_behind, unchanged, widened}
use Rattle.node_core.specs.Rows.{beat_where, fits}
use Rattle.node_core.specs.Turn.{TurnState, first_in_turn, tried}
use Rattle.plain_lists.proofs.PlaceLemmas.{all-at, at-all, find-has, take-has, take-one}

-- what an input offers, by its link
abbrev the_moved : {X : Type 0} → (LinkView → List X) → List LinkView → ℕ → Option ℕ → Option (Moved X)
the_moved queue_of links input o = option_and_then (λ link. option_map (λ beat. record { input = input; link = link; beat = beat }) (head_of (queue_of (link_of links link)))) o

-- past the last input nothing is offered
pub none-past : {X : Type 0} (queue_of : LinkView → List X) (links : List LinkView) (uppers : List ℕ) (input : ℕ) → length uppers ≤ input → is_some (input_offer queue_of links uppers input) ≡ false
none-past queue_of links uppers input past =
    ap (λ (o : Option ℕ). is_some (the_moved queue_of links input o))
    (slice_get_past uppers input past)

abbrev the_offer : {X : Type 0} → ℕ → ℕ → Option X → Option (Moved X)
the_offer input link head = option_map (λ beat. record { input = input; link = link; beat = beat }) head

offer-some : {X : Type 0} (input link : ℕ) (head : Option X) → is_some (the_offer input link head) ≡ is_some head
offer-some input link None = refl
offer-some input link (Some x) = refl

-- what an input offers, where it has a link
pub offers-at : {X : Type 0} (queue_of : LinkView → List X) (links : List LinkView) (uppers : List ℕ) (input : ℕ) → input < length uppers →
    is_some (input_offer queue_of links uppers input) ≡ is_some (head_of (queue_of (link_of links (slice_index_or uppers input 0))))
offers-at {X} queue_of links uppers input within =
    ap (λ (o : Option ℕ). is_some (the_moved queue_of links input o)) (slice_get-get_or uppers input 0 within)
    ∙ offer-some input (slice_index_or uppers input 0) (head_of (queue_of (link_of links (slice_index_or uppers input 0))))

-- the input that is picked offers a beat
pub picked-input : {X : Type 0} (queue_of : LinkView → List X) (links : List LinkView) (uppers : List ℕ) (turn : TurnState) →
    input_moved (offered_in_turn queue_of links uppers turn) ≡ first_in_turn (λ input. is_some (input_offer queue_of links uppers input)) turn
picked-input {X} queue_of links uppers turn = go (first_in_turn (λ input. is_some (input_offer queue_of links uppers input)) turn) refl
  where
    has : (port : ℕ) (o : Option (Moved X)) → IfSome o (λ m. IsOffered queue_of links uppers m × (m.input ≡ port)) → is_some o ≡ true → input_moved o ≡ Some port
    has port None is ready = absurd (cc)
    has port (Some m) is ready = ap Some is.1

    go : (o : Option ℕ) → first_in_turn (λ input. is_some (input_offer queue_of links uppers input)) turn ≡ o → input_moved (option_and_then (input_offer queue_of links uppers) o) ≡ o
    go None is = refl
    go (Some port) is =
        has port (input_offer queue_of links uppers port) (offered-is queue_of links uppers port) (find-has (λ input. is_some (input_offer queue_of links uppers input)) (tried turn) port is).0

-- one more input is marked, where it offers a beat
one-same : (b q : Bool) → b ≡ q → ((false && q) || (b && true)) ≡ (true && q)
one-same true true is = refl
one-same false false is = refl
one-same true false is = absurd (cc)
one-same false true is = absurd (cc)

one-other : (x b q : Bool) → ((x && q) || (b && false)) ≡ (x && q)
one-other true true true = refl
one-other true true false = refl
one-other true false true = refl
one-other true false false = refl
one-other false true q = refl
one-other false false q = refl

pub one-more_marked : (offers : ℕ → Bool) (other input : ℕ) (b : Bool) → b ≡ offers input → ((nat_lt other input && offers other) || (b && (other == input))) ≡ (nat_lt other (input + 1) && offers other)
one-more_marked offers other input b is = elim (cases_eq other input) [
  | inl same ↦
      ap (λ (x : Bool). (x && offers other) || (b && (other == input))) (le-ltb other input (omega (arith, same)))
      ∙ ap (λ (y : Bool). (false && offers other) || (b && y)) (eq-eqb other input same)
      ∙ one-same b (offers other) (is ∙ ap offers (sym same))
      ∙ ap (λ (z : Bool). z && offers other) (sym (lt-ltb other (input + 1) (omega (arith, same))))
  | inr differ ↦
      ap (λ (y : Bool). (nat_lt other input && offers other) || (b && y)) (ne_eqb other input differ)
      ∙ one-other (nat_lt other input) b (offers other)
      ∙ ap (λ (z : Bool). z && offers other) (elim (cases_lt other input) [
        | inl less ↦ lt-ltb other input less ∙ sym (lt-ltb other (input + 1) (omega (arith, less)))
        | inr more ↦ le-ltb other input more ∙ sym (le-ltb other (input + 1) (omega (arith, more, differ)))
      ])
]

-- with all inputs marked
pub all-marked : {X : Type 0} (queue_of : LinkView → List X) (links : List LinkView) (uppers : List ℕ) (count input : ℕ) → length uppers ≤ count →
    (nat_lt input count && is_some (input_offer queue_of links uppers input)) ≡ is_some (input_offer queue_of links uppers input)
all-marked queue_of links uppers count input all = elim (cases_lt input count) [
  | inl less ↦ ap (λ (b : Bool). b && is_some (input_offer queue_of links uppers input)) (lt-ltb input count less)
  | inr more ↦
      ap (λ (b : Bool). b && is_some (input_offer queue_of links uppers input)) (le-ltb input count more) ∙ sym (none-past queue_of links uppers input (omega (arith, all, more)))
]

pub copied-some : {X : Type 0} (o : Option (Bor X)) → is_some (option_copied o) ≡ is_some o
copied-some None = refl
copied-some (Some x) = refl

-- what a mux did is its table, where all its parts are
outs-are : (x y : Out) → x.aw_take ≡ y.aw_take → x.aw_put ≡ y.aw_put → x.w_take ≡ y.w_take → x.w_put ≡ y.w_put → x.b_take ≡ y.b_take → x.b_put ≡ y.b_put → x.ar_take ≡ y.ar_take →
    x.ar_put ≡ y.ar_put → x.r_take ≡ y.r_take → x.r_put ≡ y.r_put → x ≡ y
outs-are x y aw_take aw_put w_take w_put b_take b_put ar_take ar_put r_take r_put =
    ap (λ (t : Option ℕ). record x { aw_take = t }) aw_take
    ∙ ap (λ (p : Option (ℕ × Addr)). record x { aw_take = y.aw_take; aw_put = p }) aw_put
    ∙ ap (λ (t : Option ℕ). record x { aw_take = y.aw_take; aw_put = y.aw_put; w_take = t }) w_take
    ∙ ap (λ (p : Option (ℕ × WBeat)). record x { aw_take = y.aw_take; aw_put = y.aw_put; w_take = y.w_take; w_put = p }) w_put
    ∙ ap (λ (t : Option ℕ). record x { aw_take = y.aw_take; aw_put = y.aw_put; w_take = y.w_take; w_put = y.w_put; b_take = t }) b_take
    ∙ ap (λ (p : Option (ℕ × BBeat)). record y { b_put = p; ar_take = x.ar_take; ar_put = x.ar_put; r_take = x.r_take; r_put = x.r_put }) b_put
    ∙ ap (λ (t : Option ℕ). record y { ar_take = t; ar_put = x.ar_put; r_take = x.r_take; r_put = x.r_put }) ar_take
    ∙ ap (λ (p : Option (ℕ × Addr)). record y { ar_put = p; r_take = x.r_take; r_put = x.r_put }) ar_put
    ∙ ap (λ (t : Option ℕ). record y { r_take = t; r_put = x.r_put }) r_take
    ∙ ap (λ (p : Option (ℕ × RBeat)). record y { r_put = p }) r_put

-- the parts of a mux after it acted, by what it picked
pub record HasActed (links : List LinkView) (s : MuxState) (write read first : Option ℕ) (may_write may_read ends : Bool) (after : MuxState) (out : Out) : Type 0 where
  pub shape : after.shape ≡ s.shape
  pub may_write_is : may_write ≡ (has_room (link_of links s.shape.lower).depth (link_of links s.shape.lower).aw && fits s.granted)
  pub may_read_is : may_read ≡ has_room (link_of links s.shape.lower).depth (link_of links s.shape.lower).ar
  pub write_is : write ≡ input_moved (beat_where may_write (offered_in_turn (λ l. l.aw) links s.shape.uppers s.turn_aw))
  pub write_row : option_and_then (input_offer (λ l. l.aw) links s.shape.uppers) write ≡ beat_where may_write (offered_in_turn (λ l. l.aw) links s.shape.uppers s.turn_aw)
  pub read_is : read ≡ input_moved (beat_where may_read (offered_in_turn (λ l. l.ar) links s.shape.uppers s.turn_ar))
  pub read_row : option_and_then (input_offer (λ l. l.ar) links s.shape.uppers) read ≡ beat_where may_read (offered_in_turn (λ l. l.ar) links s.shape.uppers s.turn_ar)
  pub first_is : first ≡ head_of s.granted
  pub ends_is : ends ≡ ends_burst (beat_where (has_room (link_of links s.shape.lower).depth (link_of links s.shape.lower).w) (option_and_then (input_offer (λ l. l.w) links s.shape.uppers) first))
  pub turn_aw : after.turn_aw ≡ turn_behind s.turn_aw write
  pub turn_ar : after.turn_ar ≡ turn_behind s.turn_ar read
  pub granted : after.granted ≡ granted_more write (granted_left ends s.granted)
  pub aw_take : out.aw_take ≡ take_of_input (option_and_then (input_offer (λ l. l.aw) links s.shape.uppers) write)
  pub aw_put : out.aw_put ≡ put_on_lower (widened (ids_of s.shape)) s.shape.lower (option_and_then (input_offer (λ l. l.aw) links s.shape.uppers) write)
  pub w_take : out.w_take ≡ take_of_input (beat_where (has_room (link_of links s.shape.lower).depth (link_of links s.shape.lower).w) (option_and_then (input_offer (λ l. l.w) links s.shape.uppers) first))
  pub w_put : out.w_put ≡ put_on_lower unchanged s.shape.lower (beat_where (has_room (link_of links s.shape.lower).depth (link_of links s.shape.lower).w) (option_and_then (input_offer (λ l. l.w) links s.shape.uppers) first))
  pub b_take : out.b_take ≡ take_of_lower s.shape.lower (mux_b links s)
  pub b_put : out.b_put ≡ put_on_input (narrowed_b (ids_of s.shape)) (mux_b links s)
  pub ar_take : out.ar_take ≡ take_of_input (option_and_then (input_offer (λ l. l.ar) links s.shape.uppers) read)
  pub ar_put : out.ar_put ≡ put_on_lower (widened (ids_of s.shape)) s.shape.lower (option_and_then (input_offer (λ l. l.ar) links s.shape.uppers) read)
  pub r_take : out.r_take ≡ take_of_lower s.shape.lower (mux_r links s)
  pub r_put : out.r_put ≡ put_on_input (narrowed_r (ids_of s.shape)) (mux_r links s)

pub has-acted : (links : List LinkView) (s : MuxState) (write read first : Option ℕ) (may_write may_read ends : Bool) (after : MuxState) (out : Out) →
    HasActed links s write read first may_write may_read ends after out → record { state = after; out = out } ≡ mux_table links s
has-acted links s write read first may_write may_read ends after out is =
    let aw : option_and_then (input_offer (λ l. l.aw) links s.shape.uppers) write ≡ mux_aw links s = is.write_row ∙ ap (λ (b : Bool). beat_where b (offered_in_turn (λ l. l.aw) links s.shape.uppers s.turn_aw)) is.may_write_is in
    let ar : option_and_then (input_offer (λ l. l.ar) links s.shape.uppers) read ≡ mux_ar links s = is.read_row ∙ ap (λ (b : Bool). beat_where b (offered_in_turn (λ l. l.ar) links s.shape.uppers s.turn_ar)) is.may_read_is in
    let w : beat_where (has_room (link_of links s.shape.lower).depth (link_of links s.shape.lower).w) (option_and_then (input_offer (λ l. l.w) links s.shape.uppers) first) ≡ mux_w links s =
    ap (λ (o : Option ℕ). beat_where (has_room (link_of links s.shape.lower).depth (link_of links s.shape.lower).w) (option_and_then (input_offer (λ l. l.w) links s.shape.uppers) o)) is.first_is in
    let write_is : write ≡ input_moved (mux_aw links s) = is.write_is ∙ ap (λ (b : Bool). input_moved (beat_where b (offered_in_turn (λ l. l.aw) links s.shape.uppers s.turn_aw))) is.may_write_is in
    let read_is : read ≡ input_moved (mux_ar links s) = is.read_is ∙ ap (λ (b : Bool). input_moved (beat_where b (offered_in_turn (λ l. l.ar) links s.shape.uppers s.turn_ar))) is.may_read_is in
    let granted : after.granted ≡ granted_more (input_moved (mux_aw links s)) (granted_left (ends_burst (mux_w links s)) s.granted) =
    is.granted ∙ ap₂ (λ (o : Option ℕ) (b : Bool). granted_more o (granted_left b s.granted)) write_is (is.ends_is ∙ ap ends_burst w) in
    let outs = outs-are out (mux_out links s)
    (is.aw_take ∙ ap take_of_input aw)
    (is.aw_put ∙ ap (put_on_lower (widened (ids_of s.shape)) s.shape.lower) aw)
    (is.w_take ∙ ap take_of_input w)
    (is.w_put ∙ ap (put_on_lower unchanged s.shape.lower) w)
    is.b_take is.b_put
    (is.ar_take ∙ ap take_of_input ar)
    (is.ar_put ∙ ap (put_on_lower (widened (ids_of s.shape)) s.shape.lower) ar)
    is.r_take is.r_put in
    ap (λ (x : MuxShape). record { state = record { shape = x; turn_aw = after.turn_aw; turn_ar = after.turn_ar; granted = after.granted }; out = out }) is.shape
    ∙ ap (λ (t : TurnState). record { state = record { shape = s.shape; turn_aw = t; turn_ar = after.turn_ar; granted = after.granted }; out = out }) (is.turn_aw ∙ ap (turn_behind s.turn_aw) write_is)
    ∙ ap (λ (t : TurnState). record { state = record { shape = s.shape; turn_aw = (mux_next links s).turn_aw; turn_ar = t; granted = after.granted }; out = out }) (is.turn_ar ∙ ap (turn_behind s.turn_ar) read_is)
    ∙ ap (λ (g : List ℕ). record { state = record { shape = s.shape; turn_aw = (mux_next links s).turn_aw; turn_ar = (mux_next links s).turn_ar; granted = g }; out = out }) granted
    ∙ ap (λ (o : Out). record { state = mux_next links s; out = o }) outs

-- what holds of the first ones and of the next one holds of one more
pub all-next : (P : ℕ → Type 0) (xs : List ℕ) (i d : ℕ) → i < length xs → All P (take i xs) → P (slice_index_or xs i d) → All P (take (i + 1) xs)
all-next P xs i d within all is =
    let one : suc i ≡ i + 1 = omega arith in
    subst (λ (n : ℕ). All P (take n xs)) one
    (subst (λ (ys : List ℕ). All P ys) (sym (take-one i xs (slice_index_or xs i d) (slice_get-get_or xs i d within))) (All-push P (take i xs) (slice_index_or xs i d) all is))

-- and what holds of all that were taken holds of all
pub all-taken : (P : ℕ → Type 0) (xs : List ℕ) (n : ℕ) → length xs ≤ n → All P (take n xs) → All P xs
all-taken P xs n long all = all-at P xs (λ k x at. let within = slice_get_within xs k x at in at-all P (take n xs) k x all (take-has n xs k x (omega (arith, within, long)) at))
