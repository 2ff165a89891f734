-- What a remapper does wherever it can.
use Rattle.std.proofs.Common.{◌≡◌, ◌<◌, ◌^◌, ℕ, zero, suc, Bool, true, false, cond, List, [], ◌∷◌, ◌++◌, Option, None, Some, length, map, take, refl, sym, ◌∙◌, ap, subst, arith, append-nil}
use Rattle.std.specs.Option.{option_and_then}
use Rattle.std.specs.Prelude.{All, Contains, IfSome, IsSome, flat_map, is_some, unwrap_or}
use Rattle.std.proofs.lemmas.Bool.{lt-ltb}
use Rattle.std.proofs.lemmas.List.{length-map}
use Rattle.std.proofs.lemmas.Nat.{pow_pos}
use Rattle.std.proofs.lemmas.Option.{slice_get_within}
use Rattle.axi_beats.specs.declared.beat.Addr.{Addr}
use Rattle.axi_beats.specs.declared.beat.BBeat.{BBeat}
use Rattle.axi_beats.specs.declared.beat.RBeat.{RBeat}
use Rattle.axi_link.specs.LinkView.{LinkView}
use Rattle.axi_link.specs.LinkWords.{has_room, head_of, link_of}
use Rattle.flight.proofs.EntryFacts.{place_of-found, remove-first_place}
use Rattle.flight.specs.Entries.{place_of}
use Rattle.node_core.specs.Rows.{beat_where, put_of, take_of}
use Rattle.node_shape.proofs.OneLinkLemmas.{is-one, of-one, one-has}
use Rattle.node_shape.specs.LocalLaws.{AddressesTaken, AnswersTaken, AwaitedGoesOn, DataAwaited, EntriesStay, head_taken, left}
use Rattle.plain_lists.specs.Keys.{without_oldest}
use Rattle.remap_node.proofs.CodeLemmas.{no-oldest}
use Rattle.remap_node.proofs.RowLemmas.{answer-moves, request-moves}
use Rattle.remap_node.proofs.TableLemmas.{ar-is, aw-is}
use Rattle.remap_node.specs.RemapLaws.{pairs_of_reads, pairs_of_writes, remap_inside}
use Rattle.remap_node.specs.RemapState.{ids_below}
use Rattle.remap_node.specs.RemapTable.{Renamed, answer_row, ids_of_request, input_in_flight, least_free, output_for, output_of_pair, pairs_after_read_data, pairs_after_request, pairs_after_response, remap_above, remap_ar, remap_aw, remap_b, remap_below, remap_r, request_row}
use Rattle.remap_node.specs.RemapTrail.{remap_kind}
use Rattle.remap_node.specs.declared.pair.IdPair.{IdPair}

-- there is room on the one link of a side
roomy : {X : Type 0} (queue_of : LinkView → List X) (links : List LinkView) (l : ℕ) → All (λ k. length (queue_of (link_of links k)) < (link_of links k).depth) (l ∷ []) →
    has_room (link_of links l).depth (queue_of (link_of links l)) ≡ true
roomy queue_of links l all = lt-ltb (length (queue_of (link_of links l))) (link_of links l).depth (of-one (λ k. length (queue_of (link_of links k)) < (link_of links k).depth) l all)

-- the head of the one link of a side
its-head : {X : Type 0} (queue_of : LinkView → List X) (links : List LinkView) (k l : ℕ) (x : X) → Contains (k ∷ []) l → head_of (queue_of (link_of links l)) ≡ Some x →
    head_of (queue_of (link_of links k)) ≡ Some x
its-head queue_of links k l x among is = subst (λ (n : ℕ). head_of (queue_of (link_of links n)) ≡ Some x) (is-one k l among) is

-- a row that moves takes
pub row-takes : {X : Type 0} (number : ℕ) (row : Option X) (x : X) → row ≡ Some x → take_of number (is_some row) ≡ Some number
row-takes {X} number row x is = ap (λ (o : Option X). take_of number (is_some o)) is

-- an answer that has its request in flight moves where there is room
pub placed-moves : {X : Type 0} (id_of : X → ℕ) (pairs : List IdPair) (room : Bool) (queue : List X) (x : X) → head_of queue ≡ Some x → room ≡ true → is_some (input_in_flight pairs (id_of x)) ≡ true →
    (m : Renamed X) × (answer_row id_of pairs room (head_of queue) ≡ Some m)
placed-moves {X} id_of pairs room queue x head there placed = go (input_in_flight pairs (id_of x)) refl placed
  where
    go : (o : Option ℕ) → input_in_flight pairs (id_of x) ≡ o → is_some o ≡ true → (m : Renamed X) × (answer_row id_of pairs room (head_of queue) ≡ Some m)
    go None is placed = absurd (cc)
    go (Some input) is placed = (record { beat = x; id = input }, answer-moves id_of pairs room queue x input head there is)

-- where nothing is in flight, a request moves where there is room
first-free : (ids : ℕ) → 0 < ids → least_free [] ids ≡ Some 0
first-free zero some = absurd (omega (arith, some))
first-free (suc ids) some = refl

pub empty-moves : (pairs : List IdPair) (width : ℕ) (room : Bool) (queue : List Addr) (a : Addr) → pairs ≡ [] → head_of queue ≡ Some a → room ≡ true →
    request_row pairs (2 ^ width) room (head_of queue) ≡ Some (record { beat = a; id = 0 })
empty-moves pairs width room queue a none head there =
    subst (λ (ps : List IdPair). request_row ps (2 ^ width) room (head_of queue) ≡ Some (record { beat = a; id = 0 })) (sym none)
    (request-moves [] (2 ^ width) room queue a 0 head there (first-free (2 ^ width) (pow_pos width)))

module _ (E : Type 0) where
  pub remap-takes_answers : AnswersTaken (remap_kind {E = E}) remap_inside
  remap-takes_answers = (
    λ round links s fact can l b among head places room.
        let moves = placed-moves (λ (x : BBeat). x.id) s.writes (has_room (remap_above links s).depth (remap_above links s).b) (remap_below links s).b b (its-head (λ k. k.b) links s.shape.lower l b among head)
        (roomy (λ k. k.b) links s.shape.upper room) places in
        ap (λ o. is_some o) (row-takes s.shape.lower (remap_b links s) moves.0 moves.1),
    λ round links s fact can l r among head places room.
        let moves = placed-moves (λ (x : RBeat). x.id) s.reads (has_room (remap_above links s).depth (remap_above links s).r) (remap_below links s).r r (its-head (λ k. k.r) links s.shape.lower l r among head)
        (roomy (λ k. k.r) links s.shape.upper room) places in
        ap (λ o. is_some o) (row-takes s.shape.lower (remap_r links s) moves.0 moves.1),
  )

  pub remap-takes_addresses : AddressesTaken (remap_kind {E = E}) remap_inside
  remap-takes_addresses = (
    λ round links s fact can u a none idle among head room.
        ap (λ o. is_some o) (row-takes s.shape.upper (remap_aw links s) (record { beat = a; id = 0 })
        (empty-moves s.writes s.shape.width (has_room (remap_below links s).depth (remap_below links s).aw) (remap_above links s).aw a none (its-head (λ k. k.aw) links s.shape.upper u a among head)
        (roomy (λ k. k.aw) links s.shape.lower room))),
    λ round links s fact can u a none idle among head room.
        ap (λ o. is_some o) (row-takes s.shape.upper (remap_ar links s) (record { beat = a; id = 0 })
        (empty-moves s.reads s.shape.width (has_room (remap_below links s).depth (remap_below links s).ar) (remap_above links s).ar a none (its-head (λ k. k.ar) links s.shape.upper u a among head)
        (roomy (λ k. k.ar) links s.shape.lower room))),
  )

-- Write data: a head goes on where there is room.
module _ {X : Type 0} (number : ℕ) where
  takes-head : (room : Bool) (head : Option X) (x : X) → room ≡ true → head ≡ Some x → take_of number (is_some (beat_where room head)) ≡ Some number
  takes-head true (Some y) x roomy is = refl
  takes-head true None x roomy is = absurd (cc)
  takes-head false head x roomy is = absurd (cc)

  puts-head : (room : Bool) (head : Option X) (x : X) → room ≡ true → head ≡ Some x → IsSome (put_of number (beat_where room head))
  puts-head true (Some y) x roomy is = refl
  puts-head true None x roomy is = absurd (cc)
  puts-head false head x roomy is = absurd (cc)

-- a take from it names it, and so does a put
names-take : (number : ℕ) (taken : Bool) → IfSome (take_of number taken) (λ u. Some number ≡ Some u)
names-take number true = refl
names-take number false = tt

names-put : {X : Type 0} (number : ℕ) (beat : Option X) → IfSome (put_of number beat) (λ put. put.0 ≡ number)
names-put number (Some x) = refl
names-put number None = tt

some-same : (m n : ℕ) → Some m ≡ Some n → m ≡ n
some-same m n is = ap (λ (o : Option ℕ). unwrap_or o 0) is

module _ (E : Type 0) where
  remap-goes_on : AwaitedGoesOn (remap_kind {E = E}) remap_inside
  remap-goes_on round links s fact can u w awaited head room =
      let same : s.shape.upper ≡ u = some-same s.shape.upper u awaited in
      let here : head_of (remap_above links s).w ≡ Some w = subst (λ (n : ℕ). head_of (link_of links n).w ≡ Some w) (sym same) head in
      let free : has_room (remap_below links s).depth (remap_below links s).w ≡ true = lt-ltb (length (remap_below links s).w) (remap_below links s).depth room in
      (puts-head s.shape.lower _ _ w free here, λ whole. takes-head s.shape.upper _ _ w free here ∙ awaited)

  pub remap-awaits_data : DataAwaited (remap_kind {E = E}) remap_inside
  remap-awaits_data = (
    remap-goes_on,
    (λ round links s fact can. (names-take s.shape.upper _, names-put s.shape.lower _)),
    λ schedules rounds s passed keeps l among lacks. (s.shape.upper, refl, one-has s.shape.upper),
  )

-- Entries: the oldest pair of an ID leaves from its place.
pair-leaves : (id : ℕ) (pairs : List IdPair) → without_oldest output_of_pair id pairs ≡ left (place_of id (map output_of_pair pairs)) pairs
pair-leaves id pairs = go (place_of id (map output_of_pair pairs)) refl
  where
    go : (o : Option ℕ) → place_of id (map output_of_pair pairs) ≡ o → without_oldest output_of_pair id pairs ≡ left o pairs
    go None is = no-oldest output_of_pair id pairs is
    go (Some place) is = sym (remove-first_place output_of_pair id pairs place is)

pair-within : (id : ℕ) (pairs : List IdPair) (place : ℕ) → place_of id (map output_of_pair pairs) ≡ Some place → place < length pairs
pair-within id pairs place is =
    let within = slice_get_within (map output_of_pair pairs) place id (place_of-found id (map output_of_pair pairs) place is) in
    omega (arith, within, length-map pairs output_of_pair)

-- the pair that a request adds
abbrev added : Option (Renamed Addr) → List IdPair
added None = []
added (Some m) = ids_of_request m ∷ []

request-adds : (row : Option (Renamed Addr)) (pairs : List IdPair) → pairs_after_request row pairs ≡ pairs ++ added row
request-adds None pairs = sym (append-nil pairs)
request-adds (Some m) pairs = refl

response-leaves : (row : Option (Renamed BBeat)) (pairs : List IdPair) → pairs_after_response row pairs ≡ left (option_and_then (λ (m : Renamed BBeat). place_of m.beat.id (map output_of_pair pairs)) row) pairs
response-leaves None pairs = refl
response-leaves (Some m) pairs = pair-leaves m.beat.id pairs

read_data-leaves : (row : Option (Renamed RBeat)) (pairs : List IdPair) →
    pairs_after_read_data row pairs ≡ left (option_and_then (λ (m : Renamed RBeat). cond m.beat.last (place_of m.beat.id (map output_of_pair pairs)) None) row) pairs
read_data-leaves None pairs = refl
read_data-leaves (Some m) pairs =
    let go : (last : Bool) → cond last (without_oldest output_of_pair m.beat.id pairs) pairs ≡ left (cond last (place_of m.beat.id (map output_of_pair pairs)) None) pairs =
    elim [ true ↦ pair-leaves m.beat.id pairs | false ↦ refl ]
    in go m.beat.last

response-from : (number : ℕ) (row : Option (Renamed BBeat)) (pairs : List IdPair) →
    IfSome (option_and_then (λ (m : Renamed BBeat). place_of m.beat.id (map output_of_pair pairs)) row) (λ place. (place < length pairs) × IsSome (take_of number (is_some row)))
response-from number None pairs = tt
response-from number (Some m) pairs = go (place_of m.beat.id (map output_of_pair pairs)) refl
  where
    go : (o : Option ℕ) → place_of m.beat.id (map output_of_pair pairs) ≡ o → IfSome o (λ place. (place < length pairs) × IsSome (Some number))
    go None is = tt
    go (Some place) is = (pair-within m.beat.id pairs place is, refl)

read_data-from : (number : ℕ) (row : Option (Renamed RBeat)) (pairs : List IdPair) →
    IfSome (option_and_then (λ (m : Renamed RBeat). cond m.beat.last (place_of m.beat.id (map output_of_pair pairs)) None) row) (λ place. (place < length pairs) × IsSome (take_of number (is_some row)))
read_data-from number None pairs = tt
read_data-from number (Some m) pairs = go m.beat.last (place_of m.beat.id (map output_of_pair pairs)) refl
  where
    go : (last : Bool) (o : Option ℕ) → place_of m.beat.id (map output_of_pair pairs) ≡ o → IfSome (cond last o None) (λ place. (place < length pairs) × IsSome (Some number))
    go false o is = tt
    go true None is = tt
    go true (Some place) is = (pair-within m.beat.id pairs place is, refl)

-- the address that is taken adds its pair
adds-head : (queue_of : LinkView → List Addr) (links : List LinkView) (upper ids : ℕ) (pairs : List IdPair) (row : Option (Renamed Addr)) →
    ((m : Renamed Addr) → row ≡ Some m → (rest : List Addr) × (queue_of (link_of links upper) ≡ m.beat ∷ rest) × (output_for pairs ids m.beat.id ≡ Some m.id)) →
    added row ≡ flat_map (λ (taken : ℕ × Addr). record { input = taken.1.id; output = unwrap_or (output_for pairs ids taken.1.id) 0 } ∷ []) (head_taken queue_of links (take_of upper (is_some row)))
adds-head queue_of links upper ids pairs None is = refl
adds-head queue_of links upper ids pairs (Some m) is =
    let row = is m refl in
    ap (λ (o : Option ℕ). record { input = m.beat.id; output = unwrap_or o 0 } ∷ []) (sym row.2)
    ∙ sym (ap (λ (queue : List Addr). flat_map (λ (taken : ℕ × Addr). record { input = taken.1.id; output = unwrap_or (output_for pairs ids taken.1.id) 0 } ∷ []) (map (λ head. (upper, head)) (take 1 queue))) row.1)

module _ (E : Type 0) where
  pub remap-entries_stay : EntriesStay (remap_kind {E = E}) remap_inside
  remap-entries_stay round links s fact can = (
    record {
      stay = request-adds (remap_aw links s) (pairs_after_response (remap_b links s) s.writes) ∙ ap (λ (ps : List IdPair). ps ++ added (remap_aw links s)) (response-leaves (remap_b links s) s.writes)
          ∙ ap (λ (ps : List IdPair). left (pairs_of_writes.leaving links s) s.writes ++ ps)
          (adds-head (λ l. l.aw) links s.shape.upper (ids_below s.shape) s.writes (remap_aw links s) (λ m e. let row = aw-is links s m e in (row.rest, row.queue_is, row.output)));
      leaves = response-from s.shape.lower (remap_b links s) s.writes;
    },
    record {
      stay = request-adds (remap_ar links s) (pairs_after_read_data (remap_r links s) s.reads) ∙ ap (λ (ps : List IdPair). ps ++ added (remap_ar links s)) (read_data-leaves (remap_r links s) s.reads)
          ∙ ap (λ (ps : List IdPair). left (pairs_of_reads.leaving links s) s.reads ++ ps)
          (adds-head (λ l. l.ar) links s.shape.upper (ids_below s.shape) s.reads (remap_ar links s) (λ m e. let row = ar-is links s m e in (row.rest, row.queue_is, row.output)));
      leaves = read_data-from s.shape.lower (remap_r links s) s.reads;
    },
  )
