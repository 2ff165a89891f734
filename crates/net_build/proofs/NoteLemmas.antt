-- Where the answers to transactions are noted.
use Rattle.std.proofs.Common.{◌≡◌, ◌≢◌, ◌<◌, ◌≤◌, ◌+◌, ◌++◌, ◌==◌, ℕ, List, [], ◌∷◌, ap, ap₂, arith, drop, get_or, length, map, refl, set, sym, take, ◌∙◌, inl, inr}
use Rattle.std.specs.Prelude.{replicate}
use Rattle.std.specs.List.{range_with_len}
use Rattle.std.specs.Option.{option_map_or}
use Rattle.std.proofs.lemmas.Bool.{cases_Bool, eq-eqb, eqb-true, false≢true, ne_eqb}
use Rattle.std.proofs.lemmas.List.{append-nil, get_or-replicate, get_or_default, get_or-set_other, get_or-set_same, length-append, length-replicate, length-set, length-take, take-append-drop}
use Rattle.std.proofs.lemmas.List.Elements.{filter-append}
use Rattle.std.proofs.lemmas.List.FromFn.{map-range_with_len_more}
use Rattle.elaborate.specs.Plan.{first_part}
use Rattle.net_build.proofs.ItemLemmas.{item-more, item-there, item_at}
use Rattle.net_build.specs.Noted.{manager_of_place, script_place}
use Rattle.net_build.specs.Notes.{note_of}
use Rattle.net_build.specs.declared.notes.Note.{Note}
use Rattle.plain_lists.proofs.PrefixLemmas.{length-filter_le}
use Rattle.plan_traffic.specs.Accepted.{items_of_manager}
use Rattle.plan_traffic.specs.Traffic.{TrafficItem}
use Rattle.topology.specs.Document.{DocumentNode}

pub manager-there : (items : List TrafficItem) (place : ℕ) → place < length items → manager_of_place items place ≡ (item_at items place).manager
manager-there items place less = ap (λ o. option_map_or (λ (item : TrafficItem). item.manager) o 0) (item-there items place less)

-- ---- a manager's transactions among the first ones

own : (items : List TrafficItem) (place manager : ℕ) → place < length items → (item_at items place).manager ≡ manager →
    length (items_of_manager manager (take (place + 1) items)) ≡ length (items_of_manager manager (take place items)) + 1
own items place manager less same =
    let one : items_of_manager manager (item_at items place ∷ []) ≡ item_at items place ∷ [] = rw (eq-eqb (item_at items place).manager manager same) refl in
    ap (λ (xs : List TrafficItem). length (items_of_manager manager xs)) (item-more items place less)
    ∙ ap length (filter-append (λ (item : TrafficItem). item.manager == manager) (take place items) (item_at items place ∷ []))
    ∙ length-append (items_of_manager manager (take place items)) (items_of_manager manager (item_at items place ∷ []))
    ∙ ap (λ (xs : List TrafficItem). length (items_of_manager manager (take place items)) + length xs) one

not-own : (items : List TrafficItem) (place manager : ℕ) → place < length items → (item_at items place).manager ≢ manager →
    length (items_of_manager manager (take (place + 1) items)) ≡ length (items_of_manager manager (take place items))
not-own items place manager less other =
    let none : items_of_manager manager (item_at items place ∷ []) ≡ [] = rw (ne_eqb (item_at items place).manager manager other) refl in
    ap (λ (xs : List TrafficItem). length (items_of_manager manager xs)) (item-more items place less)
    ∙ ap length (filter-append (λ (item : TrafficItem). item.manager == manager) (take place items) (item_at items place ∷ []))
    ∙ ap (λ (xs : List TrafficItem). length (items_of_manager manager (take place items) ++ xs)) none
    ∙ ap length (append-nil (items_of_manager manager (take place items)))

-- the place in the script is one of the script
pub place-within : (items : List TrafficItem) (place : ℕ) → place < length items → script_place items place < length (items_of_manager (manager_of_place items place) items)
place-within items place less =
    let m : ℕ = manager_of_place items place in
    let one : length (items_of_manager m (take (place + 1) items)) ≡ length (items_of_manager m (take place items)) + 1 =
    own items place m less (sym (manager-there items place less)) in
    let whole : length (items_of_manager m items) ≡ length (items_of_manager m (take (place + 1) items)) + length (items_of_manager m (drop (place + 1) items)) =
    ap (λ (xs : List TrafficItem). length (items_of_manager m xs)) (sym (take-append-drop (place + 1) items))
    ∙ ap length (filter-append (λ (item : TrafficItem). item.manager == m) (take (place + 1) items) (drop (place + 1) items))
    ∙ length-append (items_of_manager m (take (place + 1) items)) (items_of_manager m (drop (place + 1) items)) in
    omega (arith, one, whole)

-- ---- notes and counts

abbrev pub note : ℕ → ℕ → Note
note node place = record { node = node; place = place }

-- the notes of the first transactions, and how many of them each manager has
pub record AreNotes (nodes : List DocumentNode) (items : List TrafficItem) (notes : List Note) (counts : List ℕ) (place : ℕ) : Type 0 where
  pub notes_are : notes ≡ map (note_of nodes items) (range_with_len 0 place)
  pub long : length counts ≡ length nodes
  pub counted : (m : ℕ) → m < length nodes → get_or counts m 0 ≡ length (items_of_manager m (take place items))

pub notes-first : (nodes : List DocumentNode) (items : List TrafficItem) (notes : List Note) (counts : List ℕ) → notes ≡ [] → counts ≡ replicate (length nodes) 0 →
    AreNotes nodes items notes counts 0
notes-first nodes items notes counts none is = record {
  notes_are = none;
  long = ap length is ∙ length-replicate (length nodes) 0;
  counted = λ m less. ap (λ (cs : List ℕ). get_or cs m 0) is ∙ get_or-replicate (length nodes) m 0 0 less;
}

pub notes-more : (nodes : List DocumentNode) (items : List TrafficItem) (notes : List Note) (counts : List ℕ) (place manager : ℕ) → AreNotes nodes items notes counts place →
    place < length items → (item_at items place).manager ≡ manager → manager < length nodes →
    AreNotes nodes items (notes ++ note (first_part nodes manager) (get_or counts manager 0) ∷ []) (set counts manager (get_or counts manager 0 + 1)) (place + 1)
notes-more nodes items notes counts place manager are less same known =
    let here : manager_of_place items place ≡ manager = manager-there items place less ∙ same in
    let last : note_of nodes items place ≡ note (first_part nodes manager) (get_or counts manager 0) =
    ap₂ note (ap (first_part nodes) here) (ap (λ (m : ℕ). length (items_of_manager m (take place items))) here ∙ sym (are.counted manager known)) in
    record {
      notes_are =
          ap₂ (λ (xs : List Note) (x : Note). xs ++ x ∷ []) are.notes_are (sym last) ∙ sym (map-range_with_len_more (note_of nodes items) 0 place place (omega arith));
      long = length-set counts manager (get_or counts manager 0 + 1) ∙ are.long;
      counted = λ m inside. elim (cases_Bool (m == manager)) [
        | inl here_too ↦
            let is : m ≡ manager = eqb-true m manager here_too in
            ap (λ (k : ℕ). get_or (set counts manager (get_or counts manager 0 + 1)) k 0) is
            ∙ get_or-set_same counts manager (get_or counts manager 0 + 1) 0 (omega (arith, known, are.long))
            ∙ ap (λ (k : ℕ). k + 1) (are.counted manager known) ∙ sym (own items place manager less same)
            ∙ ap (λ (k : ℕ). length (items_of_manager k (take (place + 1) items))) (sym is)
        | inr elsewhere ↦
            let other : m ≢ manager = λ is. false≢true (sym elsewhere ∙ eq-eqb m manager is) in
            get_or-set_other counts manager m (get_or counts manager 0 + 1) 0 other ∙ are.counted m inside
            ∙ sym (not-own items place m less (λ is. other (sym is ∙ same)))
      ];
    }

-- a count that is read
module _ (nodes : List DocumentNode) (items : List TrafficItem) (notes : List Note) (counts : List ℕ) (place manager n : ℕ) (are : AreNotes nodes items notes counts place) (known : manager < length nodes)
    (read : n ≡ get_or counts manager n) where
  pub read-count : n ≡ get_or counts manager 0
  read-count = read ∙ get_or_default counts manager n 0 (omega (arith, known, are.long))

  pub count-few : n ≤ length items
  count-few =
      omega (arith, read-count, are.counted manager known, length-filter_le (λ (item : TrafficItem). item.manager == manager) (take place items), length-take place items)
