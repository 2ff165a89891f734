-- What the code of a remapper finds and does is what its table names.
use Rattle.std.proofs.Common.{◌≡◌, ◌<◌, ◌≤◌, ◌==◌, ◌&&◌, ◌+◌, ◌-◌, ℕ, zero, suc, Bool, true, false, cond, List, [], ◌∷◌, Option, None, Some, length, map, take, drop, refl, sym, ◌∙◌, ap, arith}
use Rattle.std.specs.List.{range_with_len}
use Rattle.std.specs.Option.{option_map, option_or}
use Rattle.std.specs.Prelude.{find, is_some, slice_get, unwrap_or}
use Rattle.std.proofs.lemmas.Bool.{ltb-true}
use Rattle.std.proofs.lemmas.List.{take-append-drop}
use Rattle.std.proofs.lemmas.List.Folds.{find-append}
use Rattle.axi_beats.specs.declared.beat.Addr.{Addr}
use Rattle.flight.proofs.EntryFacts.{none-shift}
use Rattle.flight.specs.Entries.{place_of}
use Rattle.node_core.specs.Rows.{beat_where, fits, put_of, take_of}
use Rattle.plain_lists.proofs.PlaceLemmas.{take-one}
use Rattle.plain_lists.specs.Keys.{without_oldest}
use Rattle.remap_node.specs.RemapTable.{Renamed, output_for, renamed, request_id}
use Rattle.remap_node.specs.declared.pair.IdPair.{IdPair}

module _ {X : Type 0} where
  -- a head that moves under another ID
  pub taken_as : (from : ℕ) (id : Option ℕ) (head : Option X) → take_of from (is_some (beat_where (is_some id) head)) ≡ take_of from (is_some (renamed id head))
  taken_as from None head = refl
  taken_as from (Some id) None = refl
  taken_as from (Some id) (Some x) = refl

  pub put_as : (with_id : ℕ → X → X) (to : ℕ) (id : Option ℕ) (head : Option X) →
      option_map (λ (p : ℕ × X). (p.0, with_id (unwrap_or id 0) p.1)) (put_of to (beat_where (is_some id) head)) ≡ put_of to (option_map (λ (m : Renamed X). with_id m.id m.beat) (renamed id head))
  put_as with_id to None head = refl
  put_as with_id to (Some id) None = refl
  put_as with_id to (Some id) (Some x) = refl

  -- What stands at the first place of a key is found by it.
  place-step : (b : Bool) (y : X) (ys : List X) (o : Option ℕ) (found : Option X) (place : ℕ) (x : X) → ((p : ℕ) → o ≡ Some p → slice_get ys p ≡ Some x → found ≡ Some x) →
      cond b (Some 0) (option_map suc o) ≡ Some place → slice_get (y ∷ ys) place ≡ Some x → cond b (Some y) found ≡ Some x
  place-step true y ys o found zero x rest at is = is
  place-step true y ys o found (suc place) x rest at is = absurd (cc)
  place-step false y ys None found place x rest at is = absurd (cc)
  place-step false y ys (Some p) found zero x rest at is = absurd (cc)
  place-step false y ys (Some p) found (suc place) x rest at is = rest place (cc) is

  pub place-finds : (key_of : X → ℕ) (key : ℕ) (xs : List X) (place : ℕ) (x : X) → place_of key (map key_of xs) ≡ Some place → slice_get xs place ≡ Some x → find (λ x. key_of x == key) xs ≡ Some x
  place-finds key_of key [] place x at is = absurd (cc)
  place-finds key_of key (y ∷ ys) place x at is =
      place-step (key_of y == key) y ys (place_of key (map key_of ys)) (find (λ x. key_of x == key) ys) place x (λ p at is. place-finds key_of key ys p x at is) at is

  pub no-place : (key_of : X → ℕ) (key : ℕ) (xs : List X) → place_of key (map key_of xs) ≡ None → find (λ x. key_of x == key) xs ≡ None
  no-place key_of key [] none = refl
  no-place key_of key (y ∷ ys) none =
      let go : (b : Bool) → cond b (Some 0) (option_map suc (place_of key (map key_of ys))) ≡ None → cond b (Some y) (find (λ x. key_of x == key) ys) ≡ None =
      elim [ true ↦ λ is. absurd (cc) | false ↦ λ is. no-place key_of key ys (none-shift (place_of key (map key_of ys)) is) ]
      in go (key_of y == key) none

  -- without a place, none is the oldest of the key
  pub no-oldest : (key_of : X → ℕ) (key : ℕ) (xs : List X) → place_of key (map key_of xs) ≡ None → without_oldest key_of key xs ≡ xs
  no-oldest key_of key [] none = refl
  no-oldest key_of key (y ∷ ys) none =
      let go : (b : Bool) → cond b (Some 0) (option_map suc (place_of key (map key_of ys))) ≡ None → cond b ys (y ∷ without_oldest key_of key ys) ≡ y ∷ ys =
      elim [ true ↦ λ is. absurd (cc) | false ↦ λ is. ap (λ (zs : List X). y ∷ zs) (no-oldest key_of key ys (none-shift (place_of key (map key_of ys)) is)) ]
      in go (key_of y == key) none

  -- The loop over the places: one that fails is passed over, and the first one that passes is found.
  module _ (test : X → Bool) (xs : List X) (i : ℕ) (x : X) (at : slice_get xs i ≡ Some x) (before : find test (take i xs) ≡ None) where
    next-is : find test (take (suc i) xs) ≡ cond (test x) (Some x) None
    next-is = ap (find test) (take-one i xs x at) ∙ find-append test (take i xs) (x ∷ []) ∙ ap (λ (o : Option X). option_or o (cond (test x) (Some x) None)) before

    pub find-past : test x ≡ false → find test (take (suc i) xs) ≡ None
    find-past fails = next-is ∙ ap (λ (b : Bool). cond b (Some x) None) fails

    pub find-here : test x ≡ true → find test xs ≡ Some x
    find-here passes =
        ap (find test) (sym (take-append-drop (suc i) xs)) ∙ find-append test (take (suc i) xs) (drop (suc i) xs)
        ∙ ap (λ (o : Option X). option_or o (find test (drop (suc i) xs))) (next-is ∙ ap (λ (b : Bool). cond b (Some x) None) passes)

-- The loop over the numbers below a bound.
module _ (test : ℕ → Bool) (bound i : ℕ) where
  one-less : i < bound → find test (range_with_len i (bound - i)) ≡ cond (test i) (Some i) (find test (range_with_len (i + 1) (bound - (i + 1))))
  one-less less =
      let one : bound - i ≡ suc (bound - (i + 1)) = omega (arith, less) in
      ap (λ (n : ℕ). find test (range_with_len i n)) one

  pub number-past : i < bound → test i ≡ false → find test (range_with_len i (bound - i)) ≡ find test (range_with_len (i + 1) (bound - (i + 1)))
  number-past less fails = one-less less ∙ ap (λ (b : Bool). cond b (Some i) (find test (range_with_len (i + 1) (bound - (i + 1))))) fails

  pub number-here : i < bound → test i ≡ true → find test (range_with_len i (bound - i)) ≡ Some i
  number-here less passes = one-less less ∙ ap (λ (b : Bool). cond b (Some i) (find test (range_with_len (i + 1) (bound - (i + 1))))) passes

  pub number-none : bound ≤ i → find test (range_with_len i (bound - i)) ≡ None
  number-none over =
      let none : bound - i ≡ 0 = omega (arith, over) in
      ap (λ (n : ℕ). find test (range_with_len i n)) none

-- a request that has an ID fits
pub request-fits : (pairs : List IdPair) (ids : ℕ) (room : Bool) (head : Option Addr) (id : Option ℕ) → id ≡ request_id pairs ids room head → is_some id ≡ true → length pairs < 16
request-fits pairs ids room head id is some = go head (sym (ap is_some is) ∙ some)
  where
    may : (a : Addr) (b : Bool) → fits pairs ≡ b → is_some (beat_where (b && room) (output_for pairs ids a.id)) ≡ true → length pairs < 16
    may a true holds some = ltb-true (length pairs) 16 holds
    may a false holds some = absurd (cc)

    go : (head : Option Addr) → is_some (request_id pairs ids room head) ≡ true → length pairs < 16
    go None some = absurd (cc)
    go (Some a) some = may a (fits pairs) refl some
