-- What a manager's requests keep.
use Rattle.std.proofs.Common.{◌≡◌, ◌≢◌, ◌⊎◌, ℕ, ◌<◌, ◌==◌, ◌^◌, suc, Bool, List, [], ◌∷◌, ◌++◌, Some, All, length, map, take, refl, sym, ◌∙◌, ap, subst, inl, inr, arith, append_assoc}
use Rattle.std.specs.Prelude.{slice_get}
use Rattle.std.proofs.lemmas.Bool.{cases_eq, eq-eqb}
use Rattle.std.proofs.lemmas.List.{length-map, take_at, take-map}
use Rattle.std.proofs.lemmas.Option.{same_Some}
use Rattle.axi_beats.specs.declared.beat.Addr.{Addr}
use Rattle.axi_trail.specs.LinkContracts.{OneIdAtATime, WholeBeforeTheNext, without_id}
use Rattle.axi_trail.specs.Schedule.{SameChain, Schedule}
use Rattle.axi_trail.specs.Words.{Asked, Reply, number_of_address, number_of_asked}
use Rattle.manager_node.specs.Beats.{item_request}
use Rattle.manager_node.specs.ManagerState.{of_direction}
use Rattle.manager_node.specs.ManagerTrail.{HasItem, IsItsOwn, IsScheduleOf, shares_of}
use Rattle.manager_node.specs.Script.{ScriptItem}
use Rattle.manager_node.proofs.HeldLemmas.{asked_by}
use Rattle.manager_node.proofs.NumberLemmas.{number-before, number-once, number_of_item}
use Rattle.manager_node.proofs.PlaceLemmas.{direction-at, direction-before, direction-of, direction-once}
use Rattle.plain_lists.specs.Keys.{of_key}
use Rattle.plain_lists.proofs.KeyLemmas.{of_key-cons, of_key-map, of_key-skip}
use Rattle.plain_lists.proofs.PrefixLemmas.{prefix_same, prefix_of_same, prefix_itself, prefix_nil}
use Rattle.plain_lists.specs.Prefixes.{IsPrefix}
use Rattle.plain_lists.proofs.PlaceLemmas.{map-from, take-from, take-has, all-at, at-all, at-contains, filter-has, middle}

-- a key stands at one place
abbrev pub IsLone : {X : Type 0} → (X → ℕ) → List X → Type 0
IsLone {X} key_of xs = (j k : ℕ) (x y : X) → slice_get xs j ≡ Some x → slice_get xs k ≡ Some y → key_of x ≡ key_of y → j ≡ k

module _ {X : Type 0} (key_of : X → ℕ) (key : ℕ) where
  pub none-of_key : (xs : List X) → ((k : ℕ) (x : X) → slice_get xs k ≡ Some x → key_of x ≢ key) → of_key key_of key xs ≡ []
  none-of_key [] none = refl
  none-of_key (x ∷ xs) none = of_key-skip key_of key x xs (none 0 x refl) ∙ none-of_key xs (λ k y at. none (suc k) y at)

  -- so at most one item has it
  pub lone-of_key : (xs : List X) → IsLone key_of xs → (of_key key_of key xs ≡ []) ⊎ ((k : ℕ) × (x : X) × (slice_get xs k ≡ Some x) × (key_of x ≡ key) × (of_key key_of key xs ≡ x ∷ []))
  lone-of_key [] lone = inl refl
  lone-of_key (x ∷ xs) lone = elim (cases_eq (key_of x) key) [
    | inl own ↦
        let others : of_key key_of key xs ≡ [] = none-of_key xs (λ k y at same. let one = lone 0 (suc k) x y refl at (own ∙ sym same) in absurd (omega arith))
        in inr (0, x, refl, own, of_key-cons key_of key x xs own ∙ ap (λ ys. x ∷ ys) others)
    | inr other ↦ elim (lone-of_key xs (λ j k y z at_y at_z same. let one = lone (suc j) (suc k) y z at_y at_z same in omega arith)) [
      | inl none ↦ inl (of_key-skip key_of key x xs other ∙ none)
      | inr one ↦ inr (suc one.0, one.1, one.2, one.3, of_key-skip key_of key x xs other ∙ one.4)
    ]
  ]

  -- and exactly one, where one has it
  one-of_key : (xs : List X) → IsLone key_of xs → (k : ℕ) (x : X) → slice_get xs k ≡ Some x → key_of x ≡ key → length (of_key key_of key xs) ≡ 1
  one-of_key xs lone k x at own = elim (lone-of_key xs lone) [
    | inl none ↦
        let has : (n : ℕ) × (slice_get (of_key key_of key xs) n ≡ Some x) = filter-has (λ y. key_of y == key) xs k x at (eq-eqb (key_of x) key own)
        in absurd (nothing has.0 x (ap (λ ys. slice_get ys has.0) (sym none) ∙ has.1))
    | inr one ↦ ap length one.4
  ]
    where
      nothing : (n : ℕ) (x : X) → slice_get [] n ≡ Some x → ⊥
      nothing n x at = cc

pub lone-take : {X : Type 0} (key_of : X → ℕ) (n : ℕ) (xs : List X) → IsLone key_of xs → IsLone key_of (take n xs)
lone-take key_of n xs lone j k x y at_x at_y same = lone j k x y (take-from n xs j x at_x).1 (take-from n xs k y at_y).1 same

module _ (schedule : Schedule) (bus : ℕ) (script : List ScriptItem) (scheduled : IsScheduleOf schedule bus script) (write : Bool) where
  pub lone-numbers : IsLone number_of_item (of_direction write script)
  lone-numbers j k p q at_p at_q same =
      let place = number-once script scheduled.numbered p.0 q.0 p.1 q.1 (direction-at write script j p at_p).0 (direction-at write script k q at_q).0 same
      in direction-once write script j k p q at_p at_q place

  -- the schedule has a transaction of the direction
  part-of : (k : ℕ) (p : ℕ × ScriptItem) → slice_get (of_direction write script) k ≡ Some p → (shares_of schedule write p.1.txn.number).parts ≡ without_id (item_request p.1) ∷ []
  part-of k p at =
      let place = direction-at write script k p at
      in subst (λ (way : Bool). (shares_of schedule way p.1.txn.number).parts ≡ without_id (item_request p.1) ∷ []) place.1 (at-all (HasItem schedule bus) script p.0 p.1 scheduled.items place.0).parts

  -- its chain has the others of its ID
  own-of : (k : ℕ) (p : ℕ × ScriptItem) (t : ℕ) → slice_get (of_direction write script) k ≡ Some p → SameChain (shares_of schedule write) t p.1.txn.number → IsItsOwn script write p.1.txn.request.id t
  own-of k p t at chain =
      let place = direction-at write script k p at
      in let own = at-all (λ (item : ScriptItem). (number : ℕ) → SameChain (shares_of schedule item.txn.write) number item.txn.number → IsItsOwn script item.txn.write item.txn.request.id number) script p.0 p.1 scheduled.chains place.0
      in subst (λ (way : Bool). SameChain (shares_of schedule way) t p.1.txn.number → IsItsOwn script way p.1.txn.request.id t) place.1 (own t) chain

  module _ (n : ℕ) where
    pub parts-asked : (t : ℕ) → IsPrefix (map without_id (of_key number_of_address t (map (λ (p : ℕ × ScriptItem). item_request p.1) (take n (of_direction write script))))) (shares_of schedule write t).parts
    parts-asked t =
        let own : of_key number_of_address t (map (λ (p : ℕ × ScriptItem). item_request p.1) (take n (of_direction write script))) ≡ map (λ (p : ℕ × ScriptItem). item_request p.1) (of_key number_of_item t (take n (of_direction write script))) =
        of_key-map number_of_address (λ (p : ℕ × ScriptItem). item_request p.1) t (take n (of_direction write script))
        in elim (lone-of_key number_of_item t (take n (of_direction write script)) (lone-take number_of_item n (of_direction write script) lone-numbers)) [
          | inl none ↦ prefix_same (ap (map without_id) (own ∙ ap (map (λ (p : ℕ × ScriptItem). item_request p.1)) none)) (prefix_nil (shares_of schedule write t).parts)
          | inr one ↦
              let parts : (shares_of schedule write t).parts ≡ without_id (item_request one.1.1) ∷ [] =
              ap (λ (k : ℕ). (shares_of schedule write k).parts) (sym one.3) ∙ part-of one.0 one.1 (take-from n (of_direction write script) one.0 one.1 one.2).1
              in prefix_same (ap (map without_id) (own ∙ ap (map (λ (p : ℕ × ScriptItem). item_request p.1)) one.4)) (prefix_of_same (prefix_itself (without_id (item_request one.1.1) ∷ [])) (sym parts))
        ]

    pub ids-asked : All (λ (a : Addr). a.id < 2 ^ schedule.id_width) (map (λ (p : ℕ × ScriptItem). item_request p.1) (take n (of_direction write script)))
    ids-asked = all-at (λ (a : Addr). a.id < 2 ^ schedule.id_width) (map (λ (p : ℕ × ScriptItem). item_request p.1) (take n (of_direction write script))) (λ k a at.
        let from : (p : ℕ × ScriptItem) × (slice_get (take n (of_direction write script)) k ≡ Some p) × (item_request p.1 ≡ a) = map-from (λ (p : ℕ × ScriptItem). item_request p.1) (take n (of_direction write script)) k a at
        in let place = direction-at write script k from.0 (take-from n (of_direction write script) k from.0 from.1).1
        in subst (λ (b : Addr). b.id < 2 ^ schedule.id_width) from.2 (at-all (HasItem schedule bus) script from.0.0 from.0.1 scheduled.items place.0).id_fits)

    module _ (len_of : Addr → ℕ) where
      -- the item behind a request
      item-at : (k : ℕ) (a : Asked) → slice_get (map (asked_by len_of) (take n (of_direction write script))) k ≡ Some a →
          (p : ℕ × ScriptItem) × (slice_get (take n (of_direction write script)) k ≡ Some p) × (asked_by len_of p ≡ a) × (slice_get (of_direction write script) k ≡ Some p)
      item-at k a at =
          let from : (p : ℕ × ScriptItem) × (slice_get (take n (of_direction write script)) k ≡ Some p) × (asked_by len_of p ≡ a) = map-from (asked_by len_of) (take n (of_direction write script)) k a at
          in (from.0, from.1, from.2, (take-from n (of_direction write script) k from.0 from.1).1)

      pub whole-asked : WholeBeforeTheNext (shares_of schedule write) (map (asked_by len_of) (take n (of_direction write script)))
      whole-asked before a after t split comes =
          let here = item-at (length before) a (ap (λ (xs : List Asked). slice_get xs (length before)) split ∙ middle before a after)
          in let number : here.0.1.txn.number ≡ a.number = ap (λ (x : Asked). x.number) here.2
          in let own = own-of (length before) here.0 t here.3 (comes.1 ∙ ap (λ (k : ℕ). (shares_of schedule write k).chain) (sym number))
          in let own_at = at-contains script own.item own.among
          in let own_way : (i : ℕ) × (slice_get (of_direction write script) i ≡ Some (own_at.0, own.item)) = direction-of write script own_at.0 own.item own_at.1 own.direction
          in let place = direction-at write script (length before) here.0 here.3
          in let earlier : own_at.0 < here.0.0 = number-before script scheduled.numbered own_at.0 here.0.0 own.item here.0.1 own_at.1 place.0 (omega (arith, own.same_number, number, comes.0))
          in let less : own_way.0 < length before = direction-before write script own_way.0 (length before) (own_at.0, own.item) here.0 own_way.1 here.3 earlier
          in let front : before ≡ map (asked_by len_of) (take (length before) (take n (of_direction write script))) =
          sym (take_at before (a ∷ after) (length before) refl) ∙ ap (take (length before)) (sym split) ∙ take-map (asked_by len_of) (length before) (take n (of_direction write script))
          in let within : own_way.0 < n = let first = take-from n (of_direction write script) (length before) here.0 here.1 in omega (arith, first.0)
          in let inside : slice_get (take (length before) (take n (of_direction write script))) own_way.0 ≡ Some (own_at.0, own.item) =
          take-has (length before) (take n (of_direction write script)) own_way.0 (own_at.0, own.item) less (take-has n (of_direction write script) own_way.0 (own_at.0, own.item) within own_way.1)
          in let lone = lone-take number_of_item (length before) (take n (of_direction write script)) (lone-take number_of_item n (of_direction write script) lone-numbers)
          in ap (λ (xs : List Asked). length (of_key number_of_asked t xs)) front
          ∙ ap length (of_key-map number_of_asked (asked_by len_of) t (take (length before) (take n (of_direction write script))))
          ∙ length-map (of_key number_of_item t (take (length before) (take n (of_direction write script)))) (asked_by len_of)
          ∙ one-of_key number_of_item t (take (length before) (take n (of_direction write script))) lone own_way.0 (own_at.0, own.item) inside own.same_number
          ∙ sym (ap length (ap (λ (k : ℕ). (shares_of schedule write k).parts) (sym own.same_number) ∙ part-of own_way.0 (own_at.0, own.item) own_way.1))

      pub one-asked : (replies : List Reply) → OneIdAtATime (shares_of schedule write) (map (asked_by len_of) (take n (of_direction write script))) replies
      one-asked replies before a between next after split chain apart =
          let there = item-at (length (before ++ a ∷ between)) next (ap (λ (xs : List Asked). slice_get xs (length (before ++ a ∷ between))) split ∙ middle (before ++ a ∷ between) next after)
          in let here = item-at (length before) a (ap (λ (xs : List Asked). slice_get xs (length before)) (split ∙ append_assoc before (a ∷ between) (next ∷ after)) ∙ middle before a (between ++ next ∷ after))
          in let own = own-of (length (before ++ a ∷ between)) there.0 a.number there.3 (chain ∙ ap (λ (k : ℕ). (shares_of schedule write k).chain) (sym (ap (λ (x : Asked). x.number) there.2)))
          in let own_at = at-contains script own.item own.among
          in let place = direction-at write script (length before) here.0 here.3
          in let same : here.0.0 ≡ own_at.0 = number-once script scheduled.numbered here.0.0 own_at.0 here.0.1 own.item place.0 own_at.1 (ap (λ (x : Asked). x.number) here.2 ∙ sym own.same_number)
          in let one : here.0.1 ≡ own.item = same_Some here.0.1 own.item (sym place.0 ∙ ap (slice_get script) same ∙ own_at.1)
          in absurd (apart (ap (λ (x : Asked). x.id) (sym here.2) ∙ ap (λ (i : ScriptItem). i.txn.request.id) one ∙ own.same_id ∙ ap (λ (x : Asked). x.id) there.2))
