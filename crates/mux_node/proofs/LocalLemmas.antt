-- What a mux does wherever it can.
use Rattle.std.proofs.Common.{[], ◌&&◌, ◌++◌, ◌/◌, ◌<◌, ◌∙◌, ◌∷◌, ◌≡◌, Bool, IsTrue, List, None, Option, Some, ap, append-nil, arith, cond, drop, false, length, map, refl, subst, sym, take, true, ℕ}
use Rattle.std.specs.Option.{option_and_then}
use Rattle.std.specs.Prelude.{All, Contains, IfSome, IsSome, flat_map, is_some, option_map, remove, slice_get}
use Rattle.std.proofs.lemmas.Bool.{and_from, lt-ltb}
use Rattle.std.proofs.lemmas.List.{map-append}
use Rattle.std.proofs.lemmas.Option.{slice_get_within}
use Rattle.axi_beats.specs.declared.beat.Addr.{Addr}
use Rattle.axi_beats.specs.declared.beat.WBeat.{WBeat}
use Rattle.axi_link.specs.LinkView.{LinkView}
use Rattle.axi_link.specs.LinkWords.{has_room, head_of, link_of}
use Rattle.axi_trail.proofs.WaitingFacts.{none-pending}
use Rattle.axi_trail.specs.Words.{beats_due, burst_asked, len_of_asked, number_of_waiting, pending_asked}
use Rattle.mux_node.proofs.HeldLemmas.{mux-awaits}
use Rattle.mux_node.proofs.RowLemmas.{IsOffered, offered-is}
use Rattle.mux_node.proofs.TableLemmas.{aw-is}
use Rattle.mux_node.specs.MuxLaws.{mux_inside}
use Rattle.mux_node.specs.MuxState.{IsInputTurn, IsMux, MuxShape, MuxState}
use Rattle.mux_node.specs.MuxTable.{Moved, answered, ends_burst, granted_left, granted_more, ids_of, input_moved, mux_aw, mux_out, mux_w, input_offer, offered_in_turn, put_on_lower, sent_back, take_of_input, take_of_lower, unchanged}
use Rattle.mux_node.specs.MuxTrail.{mux_kind}
use Rattle.node_core.proofs.RowLemmas.{beat_where-has}
use Rattle.node_core.proofs.TurnLemmas.{picked-is_ready, ready-is_picked}
use Rattle.node_core.specs.Rows.{beat_where, fits}
use Rattle.node_core.specs.Turn.{TurnState, first_in_turn}
use Rattle.node_shape.proofs.OneLinkLemmas.{is-one, of-one}
use Rattle.node_shape.specs.LocalLaws.{AddressesTaken, AnswersTaken, AwaitedGoesOn, DataAwaited, EntriesStay, NoOtherGoesOn, SomeIsAwaited, head_taken, left}
use Rattle.plain_lists.proofs.PlaceLemmas.{at-all, at-contains, contains-at}

pub takes-answer : {X : Type 0} (queue_of : LinkView → List X) (id_of : X → ℕ) (links : List LinkView) (uppers : List ℕ) (lower ids : ℕ) (x : X) (link : ℕ) →
    head_of (queue_of (link_of links lower)) ≡ Some x → slice_get uppers (id_of x / ids) ≡ Some link → length (queue_of (link_of links link)) < (link_of links link).depth →
    take_of_lower lower (answered queue_of id_of links uppers lower ids) ≡ Some lower
takes-answer {X} queue_of id_of links uppers lower ids x link head at there =
    let moved : Moved X = record { input = id_of x / ids; link = link; beat = x } in
    ap (λ (o : Option X). take_of_lower lower (option_and_then (sent_back queue_of id_of links uppers lower ids) o)) head
    ∙ ap (λ (o : Option ℕ). take_of_lower lower (option_and_then (λ l. beat_where (has_room (link_of links l).depth (queue_of (link_of links l))) (Some (record { input = id_of x / ids; link = l; beat = x }))) o)) at
    ∙ ap (λ (b : Bool). take_of_lower lower (beat_where b (Some moved))) (lt-ltb (length (queue_of (link_of links link))) (link_of links link).depth there)

-- what an input offers
offered-at : {X : Type 0} (queue_of : LinkView → List X) (links : List LinkView) (uppers : List ℕ) (input link : ℕ) (x : X) → slice_get uppers input ≡ Some link →
    head_of (queue_of (link_of links link)) ≡ Some x → input_offer queue_of links uppers input ≡ Some (record { input = input; link = link; beat = x })
offered-at queue_of links uppers input link x at head =
    ap (λ (o : Option ℕ). option_and_then (λ l. option_map (λ beat. record { input = input; link = l; beat = beat }) (head_of (queue_of (link_of links l)))) o) at
    ∙ ap (λ o. option_map (λ beat. record { input = input; link = link; beat = beat }) o) head

some-of : {X : Type 0} (o : Option X) → is_some o ≡ true → (x : X) × (o ≡ Some x)
some-of None is = absurd (cc)
some-of (Some x) is = (x, refl)

in_turn-some : {X : Type 0} (queue_of : LinkView → List X) (links : List LinkView) (shape : MuxShape) (turn : TurnState) → IsInputTurn shape turn → (input link : ℕ) (x : X) →
    slice_get shape.uppers input ≡ Some link → head_of (queue_of (link_of links link)) ≡ Some x → (m : Moved X) × (offered_in_turn queue_of links shape.uppers turn ≡ Some m)
in_turn-some queue_of links shape turn is input link x at head =
    let uppers = shape.uppers in
    let ready : ℕ → Bool = λ i. is_some (input_offer queue_of links uppers i) in
    let within : input < length uppers = slice_get_within uppers input link at in
    let found = some-of (first_in_turn ready turn) (ready-is_picked ready turn input is.turn (omega (arith, within, is.ports)) (ap is_some (offered-at queue_of links uppers input link x at head))) in
    let has = some-of (input_offer queue_of links uppers found.0) (picked-is_ready ready turn found.0 is.turn found.1).1 in
    (has.0, ap (option_and_then (input_offer queue_of links uppers)) found.1 ∙ has.1)

pub takes-write_address : (links : List LinkView) (s : MuxState) → IsMux s → (input link : ℕ) (a : Addr) → slice_get s.shape.uppers input ≡ Some link → head_of (link_of links link).aw ≡ Some a →
    length s.granted < 16 → length (link_of links s.shape.lower).aw < (link_of links s.shape.lower).depth → (from : ℕ) × ((mux_out links s).aw_take ≡ Some from)
takes-write_address links s is input link a at head few there =
    let d = link_of links s.shape.lower in
    let some = in_turn-some (λ l. l.aw) links s.shape s.turn_aw is.turn_aw input link a at head in
    let open_row : (has_room d.depth d.aw && fits s.granted) ≡ true =
    and_from (has_room d.depth d.aw) (fits s.granted) (lt-ltb (length d.aw) d.depth there) (lt-ltb (length s.granted) 16 few) in (
      some.0.link,
      ap (λ (b : Bool). take_of_input (beat_where b (offered_in_turn (λ l. l.aw) links s.shape.uppers s.turn_aw))) open_row ∙ ap take_of_input some.1,
    )

pub takes-read_address : (links : List LinkView) (s : MuxState) → IsMux s → (input link : ℕ) (a : Addr) → slice_get s.shape.uppers input ≡ Some link → head_of (link_of links link).ar ≡ Some a →
    length (link_of links s.shape.lower).ar < (link_of links s.shape.lower).depth → (from : ℕ) × ((mux_out links s).ar_take ≡ Some from)
takes-read_address links s is input link a at head there =
    let d = link_of links s.shape.lower in
    let some = in_turn-some (λ l. l.ar) links s.shape s.turn_ar is.turn_ar input link a at head in (
      some.0.link,
      ap (λ (b : Bool). take_of_input (beat_where b (offered_in_turn (λ l. l.ar) links s.shape.uppers s.turn_ar))) (lt-ltb (length d.ar) d.depth there) ∙ ap take_of_input some.1,
    )

-- data of the first granted input moves where there is room below
first-data : (links : List LinkView) (s : MuxState) (input link : ℕ) (w : WBeat) → head_of s.granted ≡ Some input → slice_get s.shape.uppers input ≡ Some link → head_of (link_of links link).w ≡ Some w →
    length (link_of links s.shape.lower).w < (link_of links s.shape.lower).depth → mux_w links s ≡ Some (record { input = input; link = link; beat = w })
first-data links s input link w first at head there =
    let d = link_of links s.shape.lower in
    ap (λ (b : Bool). beat_where b (option_and_then (input_offer (λ l. l.w) links s.shape.uppers) (head_of s.granted))) (lt-ltb (length d.w) d.depth there)
    ∙ ap (λ (o : Option ℕ). option_and_then (input_offer (λ l. l.w) links s.shape.uppers) o) first
    ∙ offered-at (λ l. l.w) links s.shape.uppers input link w at head

pub takes-first_data : (links : List LinkView) (s : MuxState) (input link : ℕ) (rest : List ℕ) (w : WBeat) → s.granted ≡ input ∷ rest → slice_get s.shape.uppers input ≡ Some link →
    head_of (link_of links link).w ≡ Some w → length (link_of links s.shape.lower).w < (link_of links s.shape.lower).depth → (mux_out links s).w_take ≡ Some link
takes-first_data links s input link rest w granted at head there = ap take_of_input (first-data links s input link w (ap head_of granted) at head there)

-- what is known of data that moves
pub record IsFirstData (links : List LinkView) (s : MuxState) (m : Moved WBeat) : Type 0 where
  pub link : slice_get s.shape.uppers m.input ≡ Some m.link
  pub first : head_of s.granted ≡ Some m.input

pub w-first : (links : List LinkView) (s : MuxState) → IfSome (mux_w links s) (IsFirstData links s)
w-first links s = beat_where-has (IsFirstData links s) _ (option_and_then (input_offer (λ l. l.w) links s.shape.uppers) (head_of s.granted)) (go (head_of s.granted) refl)
  where
    one : (input : ℕ) → head_of s.granted ≡ Some input → (r : Option (Moved WBeat)) → IfSome r (λ m. IsOffered (λ l. l.w) links s.shape.uppers m × (m.input ≡ input)) → IfSome r (IsFirstData links s)
    one input first None is = tt
    one input first (Some m) is = record { link = is.0.link; first = first ∙ ap Some (sym is.1) }

    go : (o : Option ℕ) → head_of s.granted ≡ o → IfSome (option_and_then (input_offer (λ l. l.w) links s.shape.uppers) o) (IsFirstData links s)
    go None first = tt
    go (Some input) first = one input first (input_offer (λ l. l.w) links s.shape.uppers input) (offered-is (λ l. l.w) links s.shape.uppers input)

is-taken : (number : ℕ) (take : Option ℕ) → take ≡ Some number → IsSome take
is-taken number take is = ap is_some is

-- the head of the one link below
its-head : {X : Type 0} (queue_of : LinkView → List X) (links : List LinkView) (k l : ℕ) (x : X) → Contains (k ∷ []) l → head_of (queue_of (link_of links l)) ≡ Some x →
    head_of (queue_of (link_of links k)) ≡ Some x
its-head queue_of links k l x among is = subst (λ (n : ℕ). head_of (queue_of (link_of links n)) ≡ Some x) (is-one k l among) is

-- an answer that can be placed is taken, where all inputs have room
places-answer : {X : Type 0} (queue_of : LinkView → List X) (id_of : X → ℕ) (links : List LinkView) (uppers : List ℕ) (lower ids : ℕ) (x : X) → head_of (queue_of (link_of links lower)) ≡ Some x →
    is_some (slice_get uppers (id_of x / ids)) ≡ true → All (λ l. length (queue_of (link_of links l)) < (link_of links l).depth) uppers →
    IsSome (take_of_lower lower (answered queue_of id_of links uppers lower ids))
places-answer queue_of id_of links uppers lower ids x head places roomy =
    let to = some-of (slice_get uppers (id_of x / ids)) places in
    is-taken lower _ (takes-answer queue_of id_of links uppers lower ids x to.0 head to.1 (at-all (λ l. length (queue_of (link_of links l)) < (link_of links l).depth) uppers (id_of x / ids) to.0 roomy to.1))

no-images : {X Y : Type 0} (f : X → Y) (xs : List X) → map f xs ≡ [] → xs ≡ []
no-images f [] is = refl
no-images f (x ∷ xs) is = absurd (cc)

put-names : {X : Type 0} (changed : ℕ → X → X) (lower : ℕ) (row : Option (Moved X)) → IfSome (put_on_lower changed lower row) (λ put. put.0 ≡ lower)
put-names changed lower None = tt
put-names changed lower (Some m) = refl

-- entries
first-leaves : {X : Type 0} (xs : List X) → remove xs 0 ≡ drop 1 xs
first-leaves [] = refl
first-leaves (x ∷ xs) = refl

abbrev links_of : MuxState → List ℕ → List (Option ℕ)
links_of s granted = map (slice_get s.shape.uppers) granted

left-links : (s : MuxState) (ends : Bool) (granted : List ℕ) → links_of s (granted_left ends granted) ≡ left (cond ends (Some 0) None) (links_of s granted)
left-links s true [] = refl
left-links s true (g ∷ granted) = refl
left-links s false granted = refl

more-links : (links : List LinkView) (s : MuxState) (row : Option (Moved Addr)) → IfSome row (IsOffered (λ l. l.aw) links s.shape.uppers) → (granted : List ℕ) →
    links_of s (granted_more (input_moved row) granted) ≡ links_of s granted ++ flat_map (λ (taken : ℕ × Addr). Some taken.0 ∷ []) (head_taken (λ l. l.aw) links (take_of_input row))
more-links links s None is granted = sym (append-nil (links_of s granted))
more-links links s (Some m) is granted = map-append (slice_get s.shape.uppers) granted (m.input ∷ []) ∙ ap (λ (xs : List (Option ℕ)). links_of s granted ++ xs) (go (link_of links m.link).aw is.head)
  where
    go : (queue : List Addr) → head_of queue ≡ Some m.beat →
        map (slice_get s.shape.uppers) (m.input ∷ []) ≡ flat_map (λ (taken : ℕ × Addr). Some taken.0 ∷ []) (map (λ head. (m.link, head)) (take 1 queue))
    go [] head = absurd (cc)
    go (x ∷ queue) head = ap (λ (o : Option ℕ). o ∷ []) is.link

adds-none : {X Y : Type 0} (xs : List X) → flat_map {A = Y} (λ x. []) xs ≡ []
adds-none [] = refl
adds-none (x ∷ xs) = adds-none xs

module _ (E : Type 0) where
  pub mux-takes_answers : AnswersTaken (mux_kind {E = E}) mux_inside
  mux-takes_answers = (
    λ round links s fact can l b among head places roomy.
        places-answer (λ k. k.b) (λ b. b.id) links s.shape.uppers s.shape.lower (ids_of s.shape) b (its-head (λ k. k.b) links s.shape.lower l b among head) places roomy,
    λ round links s fact can l r among head places roomy.
        places-answer (λ k. k.r) (λ r. r.id) links s.shape.uppers s.shape.lower (ids_of s.shape) r (its-head (λ k. k.r) links s.shape.lower l r among head) places roomy,
  )

  pub mux-takes_addresses : AddressesTaken (mux_kind {E = E}) mux_inside
  mux-takes_addresses = (
    λ round links s fact can u a none idle among head roomy.
        let at = at-contains s.shape.uppers u among in
        let free : length s.granted ≡ 0 = ap length (no-images (slice_get s.shape.uppers) s.granted none) in
        let takes = takes-write_address links s fact at.0 u a at.1 head (omega (arith, free)) (of-one (λ l. length (link_of links l).aw < (link_of links l).depth) s.shape.lower roomy) in
        is-taken takes.0 _ takes.1,
    λ round links s fact can u a none idle among head roomy.
        let at = at-contains s.shape.uppers u among in
        let takes = takes-read_address links s fact at.0 u a at.1 head (of-one (λ l. length (link_of links l).ar < (link_of links l).depth) s.shape.lower roomy) in
        is-taken takes.0 _ takes.1,
  )

  mux-goes_on : AwaitedGoesOn (mux_kind {E = E}) mux_inside
  mux-goes_on round links s fact can u w awaited head roomy = go (head_of s.granted) refl awaited
    where
      go : (o : Option ℕ) → head_of s.granted ≡ o → option_and_then (slice_get s.shape.uppers) o ≡ Some u →
          IsSome (mux_out links s).w_put × (IsTrue true → (mux_out links s).w_take ≡ Some u)
      go None first at = absurd (cc)
      go (Some input) first at =
          let moves = first-data links s input u w first at head roomy in (
            ap (λ (row : Option (Moved WBeat)). is_some (put_on_lower unchanged s.shape.lower row)) moves,
            λ whole. ap take_of_input moves,
          )

  mux-no_other : NoOtherGoesOn (mux_kind {E = E}) mux_inside
  mux-no_other round links s fact can = (go (mux_w links s) (w-first links s), put-names unchanged s.shape.lower (mux_w links s))
    where
      go : (row : Option (Moved WBeat)) → IfSome row (IsFirstData links s) → IfSome (take_of_input row) (λ u. option_and_then (slice_get s.shape.uppers) (head_of s.granted) ≡ Some u)
      go None is = tt
      go (Some m) is = ap (option_and_then (slice_get s.shape.uppers)) is.first ∙ is.link

  mux-some_awaited : SomeIsAwaited (mux_kind {E = E}) mux_inside
  mux-some_awaited schedules rounds s passed keeps l among lacks = go s.granted refl
    where
      below : length (passed.lowers s.shape.lower).w < beats_due (map burst_asked (passed.lowers s.shape.lower).aw)
      below = subst (λ (n : ℕ). length (passed.lowers n).w < beats_due (map burst_asked (passed.lowers n).aw)) (is-one s.shape.lower l among) lacks

      go : (granted : List ℕ) → s.granted ≡ granted → (u : ℕ) × (option_and_then (slice_get s.shape.uppers) (head_of s.granted) ≡ Some u) × Contains s.shape.uppers u
      go [] is =
          let t = passed.lowers s.shape.lower in
          let none : pending_asked (length t.w) (map burst_asked t.aw) ≡ [] =
          no-images (λ p. keeps.suits.write_route (number_of_waiting p)) (pending_asked (length t.w) (map burst_asked t.aw)) (sym keeps.order.waiting ∙ is) in
          absurd (omega (arith, below, none-pending len_of_asked (length t.w) (map burst_asked t.aw) none))
      go (input ∷ rest) is =
          let to = mux-awaits schedules s passed.uppers (passed.lowers s.shape.lower) keeps input rest is in
          (to.0, ap (λ (g : List ℕ). option_and_then (slice_get s.shape.uppers) (head_of g)) is ∙ to.1, contains-at s.shape.uppers input to.0 to.1)

  pub mux-awaits_data : DataAwaited (mux_kind {E = E}) mux_inside
  mux-awaits_data = (mux-goes_on, mux-no_other, mux-some_awaited)

  pub mux-entries_stay : EntriesStay (mux_kind {E = E}) mux_inside
  mux-entries_stay round links s fact can = (
    record {
      stay =
          more-links links s (mux_aw links s) (aw-is links s) (granted_left (ends_burst (mux_w links s)) s.granted)
          ∙ ap (λ (xs : List (Option ℕ)). xs ++ flat_map (λ (taken : ℕ × Addr). Some taken.0 ∷ []) (head_taken (λ l. l.aw) links (mux_out links s).aw_take)) (left-links s (ends_burst (mux_w links s)) s.granted);
      leaves = go (mux_w links s) (w-first links s);
    },
    record { stay = sym (adds-none (head_taken (λ l. l.ar) links (mux_out links s).ar_take)); leaves = tt },
  )
    where
      some-first : (granted : List ℕ) (input : ℕ) → head_of granted ≡ Some input → 0 < length (links_of s granted)
      some-first [] input is = absurd (cc)
      some-first (g ∷ granted) input is = omega arith

      ended : (m : Moved WBeat) → IsFirstData links s m → (b : Bool) → IfSome (cond b (Some 0) None) (λ place. (place < length (links_of s s.granted)) × IsSome (take_of_input (Some m)))
      ended m is true = (some-first s.granted m.input is.first, refl)
      ended m is false = tt

      go : (row : Option (Moved WBeat)) → IfSome row (IsFirstData links s) →
          IfSome (cond (ends_burst row) (Some 0) None) (λ place. (place < length (links_of s s.granted)) × IsSome (take_of_input row))
      go None is = tt
      go (Some m) is = ended m is m.beat.last
