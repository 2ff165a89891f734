-- Facts on scripts as lists.
use Rattle.std.proofs.Common.{◌≡◌, ℕ, ◌-◌, ◌^◌, ◌<◌, zero, suc, List, [], ◌∷◌, ◌++◌, Option, Some, length, take, refl, sym, subst, arith, length-take, get_or, ap, ◌∙◌, Bool, true, false, cond, map}
use Rattle.std.specs.Option.{option_map}
use Rattle.std.specs.Prelude.{IfSome, slice_get}
use Rattle.manager_node.specs.declared.script.WriteByte.{WriteByte}
use Rattle.manager_node.specs.Script.{ScriptItem, CanPush, IsScript, sent_bytes}
use Rattle.manager_node.specs.declared.script.Item.{Item}
use Rattle.manager_node.specs.ScriptInside.{item_view}
use Rattle.std.proofs.lemmas.List.{map-append}
use Rattle.std.proofs.lemmas.Option.{slice_get-get_or, slice_get_read, slice_get-map}

IfSome-at : {X : Type 0} (P : X → Type 0) (o : Option X) (x : X) → o ≡ Some x → IfSome o P → P x
IfSome-at P o x e p = subst (λ (q : Option _). IfSome q P) e p

-- the places of a script, and the number of its transactions, fit 32 bits
pub script-short : (script : List ScriptItem) → IsScript script → length script < 2 ^ 32
script-short [] is = omega arith
script-short (item ∷ items) is =
    let last = IfSome-at (λ (i : ScriptItem). CanPush (take (length items) (item ∷ items)) i.txn i.bytes) (slice_get (item ∷ items) (length items)) _ (slice_get-get_or (item ∷ items) (length items) item (omega arith)) (is (length items))
    in let short : length (take (length items) (item ∷ items)) < 2 ^ 32 - 1 = last.short
    in omega (arith, short, length-take (length items) (item ∷ items))

module _ {X : Type 0} where
  -- what holds of each item after those before it holds of a longer list where it holds of its last one
  pub kept-push : (P : List X → X → Type 0) (xs : List X) (x : X) → ((n : ℕ) → IfSome (slice_get xs n) (P (take n xs))) → P xs x → (n : ℕ) → IfSome (slice_get (xs ++ x ∷ []) n) (P (take n (xs ++ x ∷ [])))
  kept-push P [] x all here zero = here
  kept-push P [] x all here (suc n) = tt
  kept-push P (y ∷ ys) x all here zero = all 0
  kept-push P (y ∷ ys) x all here (suc n) = kept-push (λ (front : List X). P (y ∷ front)) ys x (λ k. all (suc k)) here n

-- the script after a push, where there was memory and where there was none
pub IsScript-push : (before after : List Item) (item : Item) (ok : Bool) → after ≡ cond ok (before ++ item ∷ []) before → IsScript (map item_view before) → CanPush (map item_view before) item.txn item.bytes.items → IsScript (map item_view after)
IsScript-push before after item true is all can = subst (λ (items : List Item). IsScript (map item_view items)) (sym is) (subst IsScript (sym (map-append item_view before (item ∷ []))) (kept-push (λ front (i : ScriptItem). CanPush front i.txn i.bytes) (map item_view before) (item_view item) all can))
IsScript-push before after item false is all can = subst (λ (items : List Item). IsScript (map item_view items)) (sym is) all

-- a transaction of a script could follow those before it
pub script-item : (script : List ScriptItem) (n : ℕ) (item : ScriptItem) → IsScript script → slice_get script n ≡ Some item → CanPush (take n script) item.txn item.bytes
script-item script n item is at = IfSome-at (λ (i : ScriptItem). CanPush (take n script) i.txn i.bytes) (slice_get script n) item at (is n)

-- a transaction that was pushed could follow those before it
pub item-can : (items : List Item) (n : ℕ) (x : Item) → IsScript (map item_view items) → n < length items → x ≡ get_or items n x → CanPush (take n (map item_view items)) x.txn x.bytes.items
item-can items n x is within at =
    let here : slice_get items n ≡ Some x = slice_get_read items (length items) n x refl within at
    in let seen : slice_get (map item_view items) n ≡ Some (item_view x) = slice_get-map item_view items n ∙ ap (option_map item_view) here
    in script-item (map item_view items) n (item_view x) is seen

-- and has as many bytes as it sends
pub item-count : (items : List Item) (n : ℕ) (x : Item) (bytes : List WriteByte) → IsScript (map item_view items) → n < length items → x ≡ get_or items n x → bytes ≡ x.bytes.items →
    option_map (λ (item : ScriptItem). sent_bytes item.txn) (slice_get (map item_view items) n) ≡ Some (length bytes)
item-count items n x bytes is within at same =
    let here : slice_get items n ≡ Some x = slice_get_read items (length items) n x refl within at
    in let seen : slice_get (map item_view items) n ≡ Some (item_view x) = slice_get-map item_view items n ∙ ap (option_map item_view) here
    in let can = item-can items n x is within at
    in ap (option_map (λ (item : ScriptItem). sent_bytes item.txn)) seen ∙ ap (λ (k : ℕ). Some k) (sym can.bytes_sent ∙ ap length (sym same))
