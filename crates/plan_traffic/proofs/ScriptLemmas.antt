-- The transactions of a manager, as its script.
use Rattle.std.proofs.Common.{◌≡◌, ◌+◌, ◌-◌, ◌<◌, ◌≤◌, ◌==◌, ◌||◌, ◌++◌, ℕ, zero, suc, Bool, true, false, cond, List, [], ◌∷◌, get_or, length, map, take, inl, inr, refl, sym, ◌∙◌, ap, subst, append_assoc, arith}
use Rattle.std.specs.Prelude.{◌⊎◌, IsTrue, slice_get}
use Rattle.std.proofs.lemmas.Bool.{eq-eqb, or_left, or_right}
use Rattle.std.proofs.lemmas.List.{append-nil, length-map, length-take, map-append, take_more}
use Rattle.std.proofs.lemmas.List.Elements.{All-get_or}
use Rattle.manager_node.specs.Script.{CanPush, awaited}
use Rattle.plan_traffic.specs.Accepted.{AreInOrder, Follows, SuitSome, Suits, items_of_manager, last_after}
use Rattle.plan_traffic.specs.Scripts.{script_item, script_of}
use Rattle.plan_traffic.specs.Traffic.{TrafficItem}
use Rattle.plan_traffic.proofs.KnownLemmas.{mine-push}

-- a transaction comes after those before it
follows-at : (before items : List TrafficItem) (place : ℕ) (item : TrafficItem) → AreInOrder before items → place < length items → get_or items place item ≡ item → Follows (before ++ take place items) item
follows-at before [] place item order less at = absurd (omega (arith, less))
follows-at before (first ∷ more) zero item order less at =
    subst (λ (xs : List TrafficItem). Follows xs item) (sym (append-nil before)) (subst (λ (i : TrafficItem). Follows before i) at order.0)
follows-at before (first ∷ more) (suc place) item order less at =
    subst (λ (xs : List TrafficItem). Follows xs item) (append_assoc before (first ∷ []) (take place more))
    (follows-at (before ++ first ∷ []) more place item order.1 (omega (arith, less)) at)

-- how many answers the last transaction waits for
last-at : (first : TrafficItem) (more : List TrafficItem) → awaited (slice_get (map script_item (first ∷ more)) (length more)) ≡ last_after (first ∷ more)
last-at first [] = refl
last-at first (next ∷ more) = last-at next more

awaited-last : (items : List TrafficItem) → awaited (slice_get (map script_item items) (length (map script_item items) - 1)) ≡ last_after items
awaited-last [] = refl
awaited-last (first ∷ more) =
    let last : length (map script_item (first ∷ more)) - 1 ≡ length more = omega (arith, length-map more script_item) in
    ap (λ n. awaited (slice_get (map script_item (first ∷ more)) n)) last ∙ last-at first more

-- the script of one transaction more
pub script-step : (items : List TrafficItem) (place manager : ℕ) (item : TrafficItem) → place < length items → get_or items place item ≡ item
    → script_of (take (place + 1) items) manager ≡ cond (item.manager == manager) (script_of (take place items) manager ++ script_item item ∷ []) (script_of (take place items) manager)
script-step items place manager item less at =
    ap (λ (xs : List TrafficItem). script_of xs manager) (take_more items place item less ∙ ap (λ (i : TrafficItem). take place items ++ i ∷ []) at)
    ∙ ap (map script_item) (mine-push manager (take place items) item)
    ∙ by (item.manager == manager) (items_of_manager manager (take place items))
  where
    by : (b : Bool) (xs : List TrafficItem) → map script_item (cond b (xs ++ item ∷ []) xs) ≡ cond b (map script_item xs ++ script_item item ∷ []) (map script_item xs)
    by true xs = map-append script_item xs (item ∷ [])
    by false xs = refl

-- a manager has no more transactions than there are
fewer : (manager : ℕ) (items : List TrafficItem) → length (items_of_manager manager items) ≤ length items
fewer manager [] = omega arith
fewer manager (item ∷ more) =
    let rest : length (items_of_manager manager more) ≤ length more = fewer manager more in
    elim (item.manager == manager) as (λ b. length (cond b (item ∷ items_of_manager manager more) (items_of_manager manager more)) ≤ suc (length more)) [
      | true ↦ omega (arith, rest)
      | false ↦ omega (arith, rest)
    ]

-- what a manager waits for, as its script has it
waits : (after : ℕ) (items : List TrafficItem) → (after ≡ length items) ⊎ (after ≡ last_after items)
    → IsTrue (after == length (map script_item items) || after == awaited (slice_get (map script_item items) (length (map script_item items) - 1)))
waits after items known =
    elim known [
      | inl all ↦ or_left (after == length (map script_item items)) _ (eq-eqb after (length (map script_item items)) (all ∙ sym (length-map items script_item)))
      | inr last ↦
          or_right (after == length (map script_item items)) (after == awaited (slice_get (map script_item items) (length (map script_item items) - 1)))
          (eq-eqb after (awaited (slice_get (map script_item items) (length (map script_item items) - 1))) (last ∙ sym (awaited-last items)))
    ]

-- the next transaction of a manager can be pushed
pub can-push : (items : List TrafficItem) (place manager : ℕ) (item : TrafficItem) → SuitSome items → place < length items → get_or items place item ≡ item → item.manager ≡ manager
    → CanPush (script_of (take place items) manager) item.txn item.bytes
can-push items place manager item known less at here =
    let suits : Suits known.0 item = subst (λ (i : TrafficItem). Suits known.0 i) at (All-get_or (Suits known.0) items place item less known.1.suit) in
    let follows : Follows (take place items) item = follows-at [] items place item known.1.in_order less at in
    let after : (item.txn.after ≡ length (items_of_manager manager (take place items))) ⊎ (item.txn.after ≡ last_after (items_of_manager manager (take place items))) =
    subst (λ (m : ℕ). (item.txn.after ≡ length (items_of_manager m (take place items))) ⊎ (item.txn.after ≡ last_after (items_of_manager m (take place items)))) here follows.after in
    let few : length (items_of_manager manager (take place items)) ≤ length (take place items) = fewer manager (take place items) in
    let some : length (take place items) ≤ length items = omega (arith, length-take place items) in
    let most : length items ≤ 16384 = known.1.transactions in
    record {
      start = suits.addr;
      legal = suits.legal_on_widest;
      bytes_sent = suits.bytes;
      after = waits item.txn.after (items_of_manager manager (take place items)) after;
      short = omega (arith, few, some, most, length-map (items_of_manager manager (take place items)) script_item);
    }
