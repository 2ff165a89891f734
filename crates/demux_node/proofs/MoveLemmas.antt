-- What a row does with a head by a port, and what becomes of the entries.
use Rattle.std.proofs.Common.{◌≡◌, ◌==◌, ◌+◌, ℕ, zero, suc, Bool, true, false, cond, List, [], ◌∷◌, Option, None, Some, refl, sym, ◌∙◌, ap, ap₂, subst, take}
use Rattle.std.specs.List.{list_any}
use Rattle.std.specs.Prelude.{◌||◌, find, is_some, map, slice_get, slice_set}
use Rattle.std.specs.Option.{option_map, option_map_or}
use Rattle.std.proofs.lemmas.List.Folds.{list_any_at, list_any_more}
use Rattle.std.proofs.lemmas.Option.{get_or_from_slice_get, slice_get_within}
use Rattle.demux_node.specs.DemuxState.{DemuxShape, lower_of}
use Rattle.demux_node.specs.DemuxTable.{by_port, close_oldest, is_open_write, open_place, open_port, put_above, put_below, take_below}
use Rattle.demux_node.specs.declared.route.WriteRoute.{WriteRoute}
use Rattle.flight.proofs.EntryFacts.{none-shift, shift-none, some-inner}
use Rattle.flight.specs.Entries.{place_of}
use Rattle.node_core.specs.Rows.{beat_where, put_of, take_of}
use Rattle.plain_lists.specs.Keys.{without_oldest}

module _ {X : Type 0} (shape : DemuxShape) where
  pub down_take : (port : Option ℕ) (head : Option X) → take_of shape.upper (is_some (beat_where (is_some port) head)) ≡ take_of shape.upper (is_some (by_port port head))
  down_take None head = refl
  down_take (Some port) None = refl
  down_take (Some port) (Some x) = refl

  pub down_put : (port : Option ℕ) (head : Option X) → put_of (option_map_or (lower_of shape) port 0) (beat_where (is_some port) head) ≡ put_below shape (by_port port head)
  down_put None head = refl
  down_put (Some port) None = refl
  down_put (Some port) (Some x) = refl

  pub up_take : (port : Option ℕ) (head : Option X) → take_of (option_map_or (lower_of shape) port 0) (is_some (beat_where (is_some port) head)) ≡ take_below shape (by_port port head)
  up_take None head = refl
  up_take (Some port) None = refl
  up_take (Some port) (Some x) = refl

  pub up_put : (port : Option ℕ) (head : Option X) → put_of shape.upper (beat_where (is_some port) head) ≡ put_above shape (by_port port head)
  up_put None head = refl
  up_put (Some port) None = refl
  up_put (Some port) (Some x) = refl

-- without a place, none is the oldest of the key
pub no_oldest : {X : Type 0} (key_of : X → ℕ) (key : ℕ) (xs : List X) → place_of key (map key_of xs) ≡ None → without_oldest key_of key xs ≡ xs
no_oldest key_of key [] none = refl
no_oldest {X} key_of key (x ∷ xs) none = go (key_of x == key) (place_of key (map key_of xs)) none (no_oldest key_of key xs)
  where
    go : (b : Bool) (o : Option ℕ) → cond b (Some 0) (option_map suc o) ≡ None → (o ≡ None → without_oldest key_of key xs ≡ xs) → cond b xs (x ∷ without_oldest key_of key xs) ≡ x ∷ xs
    go true o is rest = absurd (cc)
    go false None is rest = ap (λ (ys : List X). x ∷ ys) (rest refl)
    go false (Some n) is rest = absurd (cc)

-- The oldest write that lacks data is that at its place, and is closed there.
module _ (write : WriteRoute) where
  pub record IsOldestOpen (writes : List WriteRoute) (place : ℕ) : Type 0 where
    pub first : find is_open_write writes ≡ Some write
    pub closed : slice_set writes place (record { id = write.id; port = write.port; is_open = false }) ≡ close_oldest writes

  place-shift : (o : Option ℕ) (place : ℕ) → option_map suc o ≡ Some place → (p : ℕ) × (o ≡ Some p) × (place ≡ suc p)
  place-shift None place is = absurd (cc)
  place-shift (Some p) place is = (p, refl, sym (some-inner (suc p) place is))

  pub oldest_open_at : (writes : List WriteRoute) (place : ℕ) → open_place writes ≡ Some place → slice_get writes place ≡ Some write → IsOldestOpen writes place
  oldest_open_at [] place at is = absurd (cc)
  oldest_open_at (w ∷ writes) place at is = go w.is_open refl at (oldest_open_at writes)
    where
      go : (b : Bool) → w.is_open ≡ b → cond b (Some 0) (option_map suc (open_place writes)) ≡ Some place →
          ((p : ℕ) → open_place writes ≡ Some p → slice_get writes p ≡ Some write → IsOldestOpen writes p) → IsOldestOpen (w ∷ writes) place
      go true lacks at later =
          let none : place ≡ 0 = sym (some-inner 0 place at) in
          let same : w ≡ write = let here : slice_get (w ∷ writes) 0 ≡ Some write = subst (λ (n : ℕ). slice_get (w ∷ writes) n ≡ Some write) none is in cc in
          subst (λ (n : ℕ). IsOldestOpen (w ∷ writes) n) (sym none) (record {
            first = ap (λ (b : Bool). cond b (Some w) (find is_open_write writes)) lacks ∙ ap (λ (x : WriteRoute). Some x) same;
            closed = ap (λ (x : WriteRoute). record { id = x.id; port = x.port; is_open = false } ∷ writes) (sym same)
                ∙ sym (ap (λ (b : Bool). cond b (record { id = w.id; port = w.port; is_open = false } ∷ writes) (w ∷ close_oldest writes)) lacks);
          })
      go false lacks at later =
          let shifted = place-shift (open_place writes) place at in
          let there : slice_get writes shifted.0 ≡ Some write = subst (λ (n : ℕ). slice_get (w ∷ writes) n ≡ Some write) shifted.2 is in
          let rest = later shifted.0 shifted.1 there in
          subst (λ (n : ℕ). IsOldestOpen (w ∷ writes) n) (sym shifted.2) (record {
            first = ap (λ (b : Bool). cond b (Some w) (find is_open_write writes)) lacks ∙ rest.first;
            closed = ap (λ (ys : List WriteRoute). w ∷ ys) rest.closed
                ∙ sym (ap (λ (b : Bool). cond b (record { id = w.id; port = w.port; is_open = false } ∷ writes) (w ∷ close_oldest writes)) lacks);
          })

-- without a place none lacks data
pub record NoneIsOpen (writes : List WriteRoute) : Type 0 where
  pub first : find is_open_write writes ≡ None
  pub closed : close_oldest writes ≡ writes

pub none_open : (writes : List WriteRoute) → open_place writes ≡ None → NoneIsOpen writes
none_open [] none = record { first = refl; closed = refl }
none_open (w ∷ writes) none = go w.is_open refl none (none_open writes)
  where
    go : (b : Bool) → w.is_open ≡ b → cond b (Some 0) (option_map suc (open_place writes)) ≡ None → (open_place writes ≡ None → NoneIsOpen writes) → NoneIsOpen (w ∷ writes)
    go true lacks none later = absurd (cc)
    go false lacks none later =
        let rest = later (none-shift (open_place writes) none) in
        record {
          first = ap (λ (b : Bool). cond b (Some w) (find is_open_write writes)) lacks ∙ rest.first;
          closed = ap (λ (b : Bool). cond b (record { id = w.id; port = w.port; is_open = false } ∷ writes) (w ∷ close_oldest writes)) lacks ∙ ap (λ (ys : List WriteRoute). w ∷ ys) rest.closed;
        }

-- its port
pub open_port_at : (write : WriteRoute) (writes : List WriteRoute) (place : ℕ) → open_place writes ≡ Some place → slice_get writes place ≡ Some write → open_port writes ≡ Some write.port
open_port_at write writes place at is = ap (option_map (λ (w : WriteRoute). w.port)) (oldest_open_at write writes place at is).first

pub no_open_port : (writes : List WriteRoute) → open_place writes ≡ None → open_port writes ≡ None
no_open_port writes none = ap (option_map (λ (w : WriteRoute). w.port)) (none_open writes none).first

-- The loop over the places: one that doesn't lack data is passed over, and the first one that does is found.
pub open_past : (writes : List WriteRoute) (i : ℕ) (write : WriteRoute) → slice_get writes i ≡ Some write → is_open_write write ≡ false → open_place (take i writes) ≡ None →
    open_place (take (suc i) writes) ≡ None
open_past [] i write at whole none = refl
open_past (w ∷ ws) zero write at whole none = ap (λ (b : Bool). cond b (Some 0) None) (ap is_open_write (let same : w ≡ write = cc in same) ∙ whole)
open_past (w ∷ ws) (suc i) write at whole none =
    let go : (b : Bool) → cond b (Some 0) (option_map suc (open_place (take i ws))) ≡ None → cond b (Some 0) (option_map suc (open_place (take (suc i) ws))) ≡ None =
    elim [ true ↦ λ h. absurd (cc) | false ↦ λ h. shift-none (open_place (take (suc i) ws)) (open_past ws i write at whole (none-shift (open_place (take i ws)) h)) ]
    in go w.is_open none

pub open_found : (writes : List WriteRoute) (i : ℕ) (write : WriteRoute) → slice_get writes i ≡ Some write → is_open_write write ≡ true → open_place (take i writes) ≡ None → open_place writes ≡ Some i
open_found [] i write at lacks none = absurd (cc)
open_found (w ∷ ws) zero write at lacks none = ap (λ (b : Bool). cond b (Some 0) (option_map suc (open_place ws))) (ap is_open_write (let same : w ≡ write = cc in same) ∙ lacks)
open_found (w ∷ ws) (suc i) write at lacks none =
    let go : (b : Bool) → cond b (Some 0) (option_map suc (open_place (take i ws))) ≡ None → cond b (Some 0) (option_map suc (open_place ws)) ≡ Some (suc i) =
    elim [ true ↦ λ h. absurd (cc) | false ↦ λ h. ap (option_map suc) (open_found ws i write at lacks (none-shift (open_place (take i ws)) h)) ]
    in go w.is_open none

-- The same where any element that passes a test is looked for.
module _ {X : Type 0} (test : X → Bool) (xs : List X) (i : ℕ) (x : X) (at : slice_get xs i ≡ Some x) where
  pub any_here : test x ≡ true → list_any test xs ≡ true
  any_here is = list_any_at test xs i x (slice_get_within xs i x at) (ap test (get_or_from_slice_get xs i x x at) ∙ is)

  pub any_past : list_any test (take i xs) ≡ false → test x ≡ false → list_any test (take (i + 1) xs) ≡ false
  any_past before is =
      list_any_more test xs i x (slice_get_within xs i x at)
      ∙ ap₂ (λ (b c : Bool). b || c) before (ap test (get_or_from_slice_get xs i x x at) ∙ is)
