-- What the rows of a remapper tell.
use Rattle.std.proofs.Common.{◌≡◌, ◌<◌, ◌&&◌, ℕ, Bool, true, false, cond, List, [], ◌∷◌, ◌++◌, Option, None, Some, length, map, refl, sym, ◌∙◌, ap, ap₂, eq-eqb}
use Rattle.std.specs.Option.{option_map, option_to_list}
use Rattle.std.specs.Prelude.{is_some}
use Rattle.std.proofs.lemmas.Bool.{and_parts, ltb-true}
use Rattle.std.proofs.lemmas.List.{map-append}
use Rattle.axi_beats.specs.declared.beat.Addr.{Addr}
use Rattle.axi_link.specs.LinkWords.{head_of}
use Rattle.axi_link.specs.Moves.{appended, takes_from}
use Rattle.axi_trail.specs.Trail.{beat_taken}
use Rattle.node_core.specs.Rows.{beat_where, fits, put_of, take_of}
use Rattle.remap_node.specs.RemapTable.{Renamed, answer_id, answer_row, input_in_flight, output_for, renamed, request_id, request_row}
use Rattle.remap_node.specs.RemapTrail.{AreRenamed, old_beat}
use Rattle.remap_node.specs.declared.pair.IdPair.{IdPair}

-- a head is the first of its queue
first-of : {X : Type 0} (queue : List X) (x : X) → head_of queue ≡ Some x → (rest : List X) × (queue ≡ x ∷ rest)
first-of [] x is = absurd (cc)
first-of {X} (y ∷ rest) x is = let same : y ≡ x = cc in (rest, ap (λ (z : X). z ∷ rest) same)

-- a head that moves has its ID on the other link
is-renamed : {X : Type 0} (id : Option ℕ) (head : Option X) (m : Renamed X) → renamed id head ≡ Some m → (id ≡ Some m.id) × (head ≡ Some m.beat)
is-renamed None head m is = absurd (cc)
is-renamed (Some id) None m is = absurd (cc)
is-renamed {X} (Some id) (Some beat) m is =
    let same : record { beat = beat; id = id } ≡ m = cc in
    (ap (λ (z : Renamed X). Some z.id) same, ap (λ (z : Renamed X). Some z.beat) same)

where-some : {X : Type 0} (condition : Bool) (o : Option X) (x : X) → beat_where condition o ≡ Some x → (condition ≡ true) × (o ≡ Some x)
where-some true o x is = (refl, is)
where-some false o x is = absurd (cc)

pub record TakesRequest (pairs : List IdPair) (ids : ℕ) (room : Bool) (queue : List Addr) (m : Renamed Addr) : Type 0 where
  pub rest : List Addr
  pub queue_is : queue ≡ m.beat ∷ rest
  pub few : length pairs < 16
  pub there : room ≡ true
  pub output : output_for pairs ids m.beat.id ≡ Some m.id

pub request-is : (pairs : List IdPair) (ids : ℕ) (room : Bool) (queue : List Addr) (m : Renamed Addr) → request_row pairs ids room (head_of queue) ≡ Some m → TakesRequest pairs ids room queue m
request-is pairs ids room queue m is =
    let both = is-renamed (request_id pairs ids room (head_of queue)) (head_of queue) m is in
    let first = first-of queue m.beat both.1 in
    let chosen : beat_where (fits pairs && room) (output_for pairs ids m.beat.id) ≡ Some m.id = sym (ap (request_id pairs ids room) both.1) ∙ both.0 in
    let found = where-some (fits pairs && room) (output_for pairs ids m.beat.id) m.id chosen in
    let may = and_parts (fits pairs) room found.0 in
    record { rest = first.0; queue_is = first.1; few = ltb-true (length pairs) 16 may.0; there = may.1; output = found.1 }

pub record TakesAnswer {X : Type 0} (id_of : X → ℕ) (pairs : List IdPair) (room : Bool) (queue : List X) (m : Renamed X) : Type 0 where
  pub rest : List X
  pub queue_is : queue ≡ m.beat ∷ rest
  pub there : room ≡ true
  pub input : input_in_flight pairs (id_of m.beat) ≡ Some m.id

pub answer-is : {X : Type 0} (id_of : X → ℕ) (pairs : List IdPair) (room : Bool) (queue : List X) (m : Renamed X) → answer_row id_of pairs room (head_of queue) ≡ Some m → TakesAnswer id_of pairs room queue m
answer-is id_of pairs room queue m is =
    let both = is-renamed (answer_id id_of pairs room (head_of queue)) (head_of queue) m is in
    let first = first-of queue m.beat both.1 in
    let chosen : beat_where room (input_in_flight pairs (id_of m.beat)) ≡ Some m.id = sym (ap (answer_id id_of pairs room) both.1) ∙ both.0 in
    let found = where-some room (input_in_flight pairs (id_of m.beat)) m.id chosen in
    record { rest = first.0; queue_is = first.1; there = found.0; input = found.1 }

-- where its condition holds, a row moves
pub request-moves : (pairs : List IdPair) (ids : ℕ) (room : Bool) (queue : List Addr) (a : Addr) (output : ℕ) → head_of queue ≡ Some a → (fits pairs && room) ≡ true → output_for pairs ids a.id ≡ Some output →
    request_row pairs ids room (head_of queue) ≡ Some (record { beat = a; id = output })
request-moves pairs ids room queue a output head may is =
    ap (request_row pairs ids room) head
    ∙ ap (λ (o : Option ℕ). renamed o (Some a)) (ap₂ (λ (b : Bool) (o : Option ℕ). beat_where b o) may is)

pub answer-moves : {X : Type 0} (id_of : X → ℕ) (pairs : List IdPair) (room : Bool) (queue : List X) (x : X) (input : ℕ) → head_of queue ≡ Some x → room ≡ true → input_in_flight pairs (id_of x) ≡ Some input →
    answer_row id_of pairs room (head_of queue) ≡ Some (record { beat = x; id = input })
answer-moves id_of pairs room queue x input head there is =
    ap (answer_row id_of pairs room) head
    ∙ ap (λ (o : Option ℕ). renamed o (Some x)) (ap₂ (λ (b : Bool) (o : Option ℕ). beat_where b o) there is)

-- What is taken and put, as lists.
module _ {X : Type 0} (number : ℕ) where
  pub taken-is : (queue : List X) (row : Option (Renamed X)) → ((m : Renamed X) → row ≡ Some m → (rest : List X) × (queue ≡ m.beat ∷ rest)) →
      beat_taken (takes_from number (take_of number (is_some row))) queue ≡ map old_beat (option_to_list row)
  taken-is queue None is = refl
  taken-is queue (Some m) is =
      let first = is m refl in
      ap (λ (b : Bool). beat_taken b queue) (eq-eqb number number refl) ∙ ap (beat_taken true) first.1

  pub put-is : (new_beat : Renamed X → X) (row : Option (Renamed X)) → appended number (put_of number (option_map new_beat row)) ≡ map new_beat (option_to_list row)
  put-is new_beat None = refl
  put-is new_beat (Some m) = ap (λ (b : Bool). cond b (new_beat m ∷ []) []) (eq-eqb number number refl)

-- so the beats stay the same but for their IDs
pub renamed-more : {X : Type 0} (new_beat : Renamed X → X) (moved more : List (Renamed X)) (from to taken put : List X) → AreRenamed new_beat moved from to →
    taken ≡ map old_beat more → put ≡ map new_beat more → AreRenamed new_beat (moved ++ more) (from ++ taken) (to ++ put)
renamed-more {X} new_beat moved more from to taken put are taken_is put_is = record {
  from_is = ap₂ (λ (xs ys : List X). xs ++ ys) are.from_is taken_is ∙ sym (map-append old_beat moved more);
  to_is = ap₂ (λ (xs ys : List X). xs ++ ys) are.to_is put_is ∙ sym (map-append new_beat moved more);
}
