-- What a slice does wherever it can.
use Rattle.std.proofs.Common.{◌≡◌, ◌<◌, ℕ, Bool, false, true, List, [], ◌∷◌, Option, None, Some, length, refl, sym, ◌∙◌, ap, subst}
use Rattle.std.specs.Prelude.{All, Contains, IfSome, IsSome, flat_map, is_some, unwrap_or}
use Rattle.std.proofs.lemmas.Bool.{lt-ltb}
use Rattle.axi_link.specs.LinkView.{LinkView}
use Rattle.axi_link.specs.LinkWords.{has_room, head_of, link_of}
use Rattle.node_core.specs.Rows.{beat_where, put_of, take_of}
use Rattle.node_shape.specs.LocalLaws.{AddressesTaken, AnswersTaken, AwaitedGoesOn, DataAwaited, EntriesStay, head_taken}
use Rattle.node_shape.proofs.OneLinkLemmas.{is-one, of-one, one-has}
use Rattle.slice_node.specs.SliceLaws.{slice_inside}
use Rattle.slice_node.specs.SliceTable.{slice_above, slice_ar, slice_aw, slice_below}
use Rattle.slice_node.specs.SliceTrail.{slice_kind}

-- a head goes on where there is room
module _ {X : Type 0} (number : ℕ) where
  takes-head : (room : Bool) (head : Option X) (x : X) → room ≡ true → head ≡ Some x → take_of number (is_some (beat_where room head)) ≡ Some number
  takes-head true (Some y) x roomy is = refl
  takes-head true None x roomy is = absurd (cc)
  takes-head false head x roomy is = absurd (cc)

  puts-head : (room : Bool) (head : Option X) (x : X) → room ≡ true → head ≡ Some x → IsSome (put_of number (beat_where room head))
  puts-head true (Some y) x roomy is = refl
  puts-head true None x roomy is = absurd (cc)
  puts-head false head x roomy is = absurd (cc)

-- a take from it names it, and so does a put
names-take : (number : ℕ) (taken : Bool) → IfSome (take_of number taken) (λ u. Some number ≡ Some u)
names-take number true = refl
names-take number false = tt

names-put : {X : Type 0} (number : ℕ) (beat : Option X) → IfSome (put_of number beat) (λ put. put.0 ≡ number)
names-put number (Some x) = refl
names-put number None = tt

-- there is room on the one link of a side
roomy : {X : Type 0} (queue_of : LinkView → List X) (links : List LinkView) (l : ℕ) → All (λ k. length (queue_of (link_of links k)) < (link_of links k).depth) (l ∷ []) →
    has_room (link_of links l).depth (queue_of (link_of links l)) ≡ true
roomy queue_of links l all = lt-ltb (length (queue_of (link_of links l))) (link_of links l).depth (of-one (λ k. length (queue_of (link_of links k)) < (link_of links k).depth) l all)

-- the head of the one link of a side
its-head : {X : Type 0} (queue_of : LinkView → List X) (links : List LinkView) (k l : ℕ) (x : X) → Contains (k ∷ []) l → head_of (queue_of (link_of links l)) ≡ Some x →
    head_of (queue_of (link_of links k)) ≡ Some x
its-head queue_of links k l x among is = subst (λ (n : ℕ). head_of (queue_of (link_of links n)) ≡ Some x) (is-one k l among) is

adds-none : {X Y : Type 0} (xs : List X) → flat_map {A = Y} (λ x. []) xs ≡ []
adds-none [] = refl
adds-none (x ∷ xs) = adds-none xs

some-same : (m n : ℕ) → Some m ≡ Some n → m ≡ n
some-same m n is = ap (λ (o : Option ℕ). unwrap_or o 0) is

is-taken : (number : ℕ) (take : Option ℕ) → take ≡ Some number → IsSome take
is-taken number take is = ap is_some is

module _ (E : Type 0) where
  pub slice-takes_answers : AnswersTaken (slice_kind {E = E}) slice_inside
  slice-takes_answers = (
    λ round links s fact can l b among head places room.
        is-taken s.lower _ (takes-head s.lower _ _ b (roomy (λ k. k.b) links s.upper room) (its-head (λ k. k.b) links s.lower l b among head)),
    λ round links s fact can l r among head places room.
        is-taken s.lower _ (takes-head s.lower _ _ r (roomy (λ k. k.r) links s.upper room) (its-head (λ k. k.r) links s.lower l r among head)),
  )

  pub slice-takes_addresses : AddressesTaken (slice_kind {E = E}) slice_inside
  slice-takes_addresses = (
    λ round links s fact can u a none idle among head room.
        is-taken s.upper _ (takes-head s.upper _ _ a (roomy (λ k. k.aw) links s.lower room) (its-head (λ k. k.aw) links s.upper u a among head)),
    λ round links s fact can u a none idle among head room.
        is-taken s.upper _ (takes-head s.upper _ _ a (roomy (λ k. k.ar) links s.lower room) (its-head (λ k. k.ar) links s.upper u a among head)),
  )

  slice-goes_on : AwaitedGoesOn (slice_kind {E = E}) slice_inside
  slice-goes_on round links s fact can u w awaited head room =
      let same : s.upper ≡ u = some-same s.upper u awaited in
      let here : head_of (slice_above links s).w ≡ Some w = subst (λ (n : ℕ). head_of (link_of links n).w ≡ Some w) (sym same) head in
      let free : has_room (slice_below links s).depth (slice_below links s).w ≡ true = lt-ltb (length (slice_below links s).w) (slice_below links s).depth room in
      (puts-head s.lower _ _ w free here, λ whole. takes-head s.upper _ _ w free here ∙ awaited)

  pub slice-awaits_data : DataAwaited (slice_kind {E = E}) slice_inside
  slice-awaits_data = (
    slice-goes_on,
    (λ round links s fact can. (names-take s.upper _, names-put s.lower _)),
    λ schedules rounds s passed keeps l among lacks. (s.upper, refl, one-has s.upper),
  )

  pub slice-entries_stay : EntriesStay (slice_kind {E = E}) slice_inside
  slice-entries_stay round links s fact can = (
    record { stay = sym (adds-none (head_taken (λ l. l.aw) links (take_of s.upper (is_some (slice_aw links s))))); leaves = tt },
    record { stay = sym (adds-none (head_taken (λ l. l.ar) links (take_of s.upper (is_some (slice_ar links s))))); leaves = tt },
  )
