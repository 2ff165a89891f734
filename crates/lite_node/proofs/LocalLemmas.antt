-- What a Lite bridge does wherever it can.
use Rattle.std.proofs.Common.{◌≡◌, ◌<◌, ℕ, Bool, false, true, List, [], ◌∷◌, ◌++◌, Option, None, Some, length, map, refl, sym, ◌∙◌, ap, ap₂, subst, cond, arith}
use Rattle.std.specs.Prelude.{◌&&◌, All, Contains, IfSome, IsSome, IsTrue, flat_map, is_some, take, unwrap_or}
use Rattle.std.proofs.lemmas.Bool.{lt-ltb}
use Rattle.std.proofs.lemmas.List.{append-nil}
use Rattle.axi_beats.specs.declared.beat.Addr.{Addr}
use Rattle.axi_link.specs.LinkView.{LinkView}
use Rattle.axi_link.specs.LinkWords.{has_room, head_of, link_of}
use Rattle.lite_node.specs.LiteLaws.{lite_inside}
use Rattle.lite_node.specs.LiteTable.{ids_left, ids_more, lite_above, lite_ar, lite_aw, lite_b, lite_below, lite_r, returned_b, returned_r, returned_to}
use Rattle.lite_node.specs.LiteTrail.{lite_kind}
use Rattle.node_core.specs.Rows.{beat_where, fits, put_of, take_of}
use Rattle.node_shape.specs.LocalLaws.{AddressesTaken, AnswersTaken, AwaitedGoesOn, DataAwaited, EntriesStay, head_taken, left}
use Rattle.node_shape.proofs.OneLinkLemmas.{is-one, of-one, one-has}

-- a head goes on where there is room
module _ {X : Type 0} (number : ℕ) where
  takes-head : (room : Bool) (head : Option X) (x : X) → room ≡ true → head ≡ Some x → take_of number (is_some (beat_where room head)) ≡ Some number
  takes-head true (Some y) x roomy is = refl
  takes-head true None x roomy is = absurd (cc)
  takes-head false head x roomy is = absurd (cc)

  puts-head : (room : Bool) (head : Option X) (x : X) → room ≡ true → head ≡ Some x → IsSome (put_of number (beat_where room head))
  puts-head true (Some y) x roomy is = refl
  puts-head true None x roomy is = absurd (cc)
  puts-head false head x roomy is = absurd (cc)

  -- and an answer where a request waits
  takes-answer : (returned : ℕ → X → X) (ids : List ℕ) (room : Bool) (head : Option X) (x : X) → IsTrue (is_some (head_of ids)) → room ≡ true → head ≡ Some x →
      take_of number (is_some (returned_to returned ids (beat_where room head))) ≡ Some number
  takes-answer returned [] room head x some roomy is = absurd (cc)
  takes-answer returned (id ∷ ids) true (Some y) x some roomy is = refl
  takes-answer returned (id ∷ ids) true None x some roomy is = absurd (cc)
  takes-answer returned (id ∷ ids) false head x some roomy is = absurd (cc)

-- a take from it names it, and so does a put
names-take : (number : ℕ) (taken : Bool) → IfSome (take_of number taken) (λ u. Some number ≡ Some u)
names-take number true = refl
names-take number false = tt

names-put : {X : Type 0} (number : ℕ) (beat : Option X) → IfSome (put_of number beat) (λ put. put.0 ≡ number)
names-put number (Some x) = refl
names-put number None = tt

-- there is room on the one link of a side
roomy : {X : Type 0} (queue_of : LinkView → List X) (links : List LinkView) (l : ℕ) → All (λ k. length (queue_of (link_of links k)) < (link_of links k).depth) (l ∷ []) →
    has_room (link_of links l).depth (queue_of (link_of links l)) ≡ true
roomy queue_of links l all = lt-ltb (length (queue_of (link_of links l))) (link_of links l).depth (of-one (λ k. length (queue_of (link_of links k)) < (link_of links k).depth) l all)

-- and one more request fits where none waits
both-true : (room : Bool) (ids : List ℕ) → room ≡ true → ids ≡ [] → room && fits ids ≡ true
both-true room ids is none = ap₂ (λ (b : Bool) (xs : List ℕ). b && fits xs) is none

-- the head of the one link of a side
its-head : {X : Type 0} (queue_of : LinkView → List X) (links : List LinkView) (k l : ℕ) (x : X) → Contains (k ∷ []) l → head_of (queue_of (link_of links l)) ≡ Some x →
    head_of (queue_of (link_of links k)) ≡ Some x
its-head queue_of links k l x among is = subst (λ (n : ℕ). head_of (queue_of (link_of links n)) ≡ Some x) (is-one k l among) is

some-same : (m n : ℕ) → Some m ≡ Some n → m ≡ n
some-same m n is = ap (λ (o : Option ℕ). unwrap_or o 0) is

is-taken : (number : ℕ) (take : Option ℕ) → take ≡ Some number → IsSome take
is-taken number take is = ap is_some is

-- ---- entries

-- the oldest ID leaves, and that of an address joins
module _ (queue_of : LinkView → List Addr) (links : List LinkView) (number : ℕ) where
  joins : (may : Bool) (queue : List Addr) → queue_of (link_of links number) ≡ queue → (ids : List ℕ) →
      ids_more (beat_where may (head_of queue)) ids ≡ ids ++ flat_map (λ (taken : ℕ × Addr). taken.1.id ∷ []) (head_taken queue_of links (take_of number (is_some (beat_where may (head_of queue)))))
  joins false queue is ids = sym (append-nil ids)
  joins true [] is ids = sym (append-nil ids)
  joins true (a ∷ queue) is ids =
      ap (λ (xs : List Addr). ids ++ flat_map (λ (taken : ℕ × Addr). taken.1.id ∷ []) (map (λ head. (number, head)) (take 1 xs))) (sym is)

leaves-first : (answered : Bool) (ids : List ℕ) → (answered ≡ true → 0 < length ids) → ids_left answered ids ≡ left (cond answered (Some 0) None) ids
leaves-first false ids some = refl
leaves-first true [] some = absurd (omega (arith, some refl))
leaves-first true (id ∷ ids) some = refl

-- an answer goes up only where a request waits
some-waits : {X : Type 0} (returned : ℕ → X → X) (ids : List ℕ) (o : Option X) → is_some (returned_to returned ids o) ≡ true → 0 < length ids
some-waits returned [] o is = absurd (cc)
some-waits returned (id ∷ ids) o is = omega arith

leaves-with : (number : ℕ) (answered : Bool) (ids : List ℕ) → (answered ≡ true → 0 < length ids) → IfSome (cond answered (Some 0) None) (λ place. (place < length ids) × IsSome (take_of number answered))
leaves-with number false ids some = tt
leaves-with number true ids some = (some refl, refl)

module _ (E : Type 0) where
  pub lite-takes_answers : AnswersTaken (lite_kind {E = E}) lite_inside
  lite-takes_answers = (
    λ round links s fact can l b among head places room.
        is-taken s.shape.lower _ (takes-answer s.shape.lower returned_b s.writes _ _ b places (roomy (λ k. k.b) links s.shape.upper room) (its-head (λ k. k.b) links s.shape.lower l b among head)),
    λ round links s fact can l r among head places room.
        is-taken s.shape.lower _ (takes-answer s.shape.lower returned_r s.reads _ _ r places (roomy (λ k. k.r) links s.shape.upper room) (its-head (λ k. k.r) links s.shape.lower l r among head)),
  )

  pub lite-takes_addresses : AddressesTaken (lite_kind {E = E}) lite_inside
  lite-takes_addresses = (
    λ round links s fact can u a none idle among head room.
        is-taken s.shape.upper _ (takes-head s.shape.upper _ _ a (both-true _ s.writes (roomy (λ k. k.aw) links s.shape.lower room) none) (its-head (λ k. k.aw) links s.shape.upper u a among head)),
    λ round links s fact can u a none idle among head room.
        is-taken s.shape.upper _ (takes-head s.shape.upper _ _ a (both-true _ s.reads (roomy (λ k. k.ar) links s.shape.lower room) none) (its-head (λ k. k.ar) links s.shape.upper u a among head)),
  )

  lite-goes_on : AwaitedGoesOn (lite_kind {E = E}) lite_inside
  lite-goes_on round links s fact can u w awaited head room =
      let same : s.shape.upper ≡ u = some-same s.shape.upper u awaited in
      let here : head_of (lite_above links s).w ≡ Some w = subst (λ (n : ℕ). head_of (link_of links n).w ≡ Some w) (sym same) head in
      let free : has_room (lite_below links s).depth (lite_below links s).w ≡ true = lt-ltb (length (lite_below links s).w) (lite_below links s).depth room in
      (puts-head s.shape.lower _ _ w free here, λ whole. takes-head s.shape.upper _ _ w free here ∙ awaited)

  pub lite-awaits_data : DataAwaited (lite_kind {E = E}) lite_inside
  lite-awaits_data = (
    lite-goes_on,
    (λ round links s fact can. (names-take s.shape.upper _, names-put s.shape.lower _)),
    λ schedules rounds s passed keeps l among lacks. (s.shape.upper, refl, one-has s.shape.upper),
  )

  pub lite-entries_stay : EntriesStay (lite_kind {E = E}) lite_inside
  lite-entries_stay round links s fact can =
      let above = lite_above links s in
      let below = lite_below links s in
      let waits_b : is_some (lite_b links s) ≡ true → 0 < length s.writes = some-waits returned_b s.writes (beat_where (has_room above.depth above.b) (head_of below.b)) in
      let waits_r : is_some (lite_r links s) ≡ true → 0 < length s.reads = some-waits returned_r s.reads (beat_where (has_room above.depth above.r) (head_of below.r)) in (
        record {
          stay = joins (λ l. l.aw) links s.shape.upper (has_room below.depth below.aw && fits s.writes) above.aw refl (ids_left (is_some (lite_b links s)) s.writes)
              ∙ ap (λ (xs : List ℕ). xs ++ flat_map (λ (taken : ℕ × Addr). taken.1.id ∷ []) (head_taken (λ l. l.aw) links (take_of s.shape.upper (is_some (lite_aw links s)))))
              (leaves-first (is_some (lite_b links s)) s.writes waits_b);
          leaves = leaves-with s.shape.lower (is_some (lite_b links s)) s.writes waits_b;
        },
        record {
          stay = joins (λ l. l.ar) links s.shape.upper (has_room below.depth below.ar && fits s.reads) above.ar refl (ids_left (is_some (lite_r links s)) s.reads)
              ∙ ap (λ (xs : List ℕ). xs ++ flat_map (λ (taken : ℕ × Addr). taken.1.id ∷ []) (head_taken (λ l. l.ar) links (take_of s.shape.upper (is_some (lite_ar links s)))))
              (leaves-first (is_some (lite_r links s)) s.reads waits_r);
          leaves = leaves-with s.shape.lower (is_some (lite_r links s)) s.reads waits_r;
        },
      )
