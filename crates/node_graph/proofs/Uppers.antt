-- What is above each node, as it is gathered node by node.
use Rattle.std.proofs.Common.{◌≡◌, ◌≢◌, ◌<◌, ◌≤◌, ◌+◌, ◌++◌, ◌||◌, ◌==◌, ℕ, zero, suc, Bool, true, false, cond, List, [], ◌∷◌, length, map, take, drop, get_or, refl, sym, ◌∙◌, ap, ap₂, subst, inl, inr, arith}
use Rattle.std.specs.Prelude.{Vec, filter, vec_items}
use Rattle.std.specs.declared.alloc.Global.{Global}
use Rattle.std.proofs.Math.ListN.{set, length-set}
use Rattle.std.proofs.lemmas.Bool.{cases_eq, eq-eqb, ne_eqb, or_left, or_parts, true≢false}
use Rattle.std.proofs.lemmas.List.{append-nil, get_or-set_same, get_or-set_other, map-set, take_more}
use Rattle.std.specs.List.{range_with_len}
use Rattle.std.proofs.lemmas.List.FromFn.{filter_of_map_range_with_len_more, length-range_with_len}
use Rattle.std.proofs.lemmas.List.Folds.{list_any-append}
use Rattle.node_graph.specs.Graph.{Graph, is_in, nodes_above, nodes_below, numbers}
use Rattle.node_graph.specs.Inside.{AddsUpper, HasAbove}
use Rattle.node_graph.specs.Order.{repeats}
use Rattle.node_graph.specs.Simple.{lists_in}
use Rattle.node_graph.proofs.Members.{in-first, in-rest}

or-none : (a b : Bool) → b ≡ false → (a || b) ≡ a
or-none true b e = refl
or-none false b e = e

or-some : (a b : Bool) → b ≡ true → (a || b) ≡ true
or-some true b e = refl
or-some false b e = e

-- one more of a list
pub in-more : (xs : List ℕ) (i x : ℕ) → i < length xs → is_in (take (i + 1) xs) x ≡ (is_in (take i xs) x || (get_or xs i 0 == x))
in-more xs i x less =
    ap (λ (ys : List ℕ). is_in ys x) (take_more xs i 0 less)
    ∙ list_any-append (λ other. other == x) (take i xs) (get_or xs i 0 ∷ [])
    ∙ ap (λ (b : Bool). is_in (take i xs) x || b) (or-none (get_or xs i 0 == x) false refl)

pub in-more-same : (xs : List ℕ) (i x : ℕ) → i < length xs → get_or xs i 0 ≡ x → is_in (take (i + 1) xs) x ≡ true
in-more-same xs i x less same = in-more xs i x less ∙ or-some (is_in (take i xs) x) (get_or xs i 0 == x) (eq-eqb (get_or xs i 0) x same)

pub in-more-other : (xs : List ℕ) (i x : ℕ) → i < length xs → get_or xs i 0 ≢ x → is_in (take (i + 1) xs) x ≡ is_in (take i xs) x
in-more-other xs i x less other = in-more xs i x less ∙ or-none (is_in (take i xs) x) (get_or xs i 0 == x) (ne_eqb (get_or xs i 0) x other)

pub in-longer : (xs : List ℕ) (i x : ℕ) → i < length xs → is_in (take i xs) x ≡ true → is_in (take (i + 1) xs) x ≡ true
in-longer xs i x less there = in-more xs i x less ∙ or_left (is_in (take i xs) x) (get_or xs i 0 == x) there

pub get-in : (xs : List ℕ) (i : ℕ) → i < length xs → is_in xs (get_or xs i 0) ≡ true
get-in [] i less = absurd (omega (arith, less))
get-in (x ∷ xs) zero less = in-first x xs x refl
get-in (x ∷ xs) (suc i) less = in-rest x xs (get_or xs i 0) (get-in xs i (omega (arith, less)))

-- a number isn't among those before it
pub once-before : (xs : List ℕ) (i : ℕ) → i < length xs → repeats xs ≡ false → is_in (take i xs) (get_or xs i 0) ≡ false
unfolding repeats
once-before [] i less e = absurd (omega (arith, less))
once-before (x ∷ xs) zero less e = refl
once-before (x ∷ xs) (suc i) less e =
    let parts : (is_in xs x ≡ false) × (repeats xs ≡ false) = or_parts (is_in xs x) (repeats xs) e in
    let inside : i < length xs = omega (arith, less) in
    let differ : x ≢ get_or xs i 0 = λ same. true≢false (sym (get-in xs i inside) ∙ ap (is_in xs) (sym same) ∙ parts.0) in
    ap₂ (λ (a b : Bool). a || b) (ne_eqb x (get_or xs i 0) differ) (once-before xs i inside parts.1)

pub adds-none : (upper : ℕ) (before : List (List ℕ)) → AddsUpper [] upper before before
adds-none upper before = record { long = refl; each = λ node less. sym (append-nil (get_or before node [])) }

pub adds-more : (lowers : List ℕ) (upper i : ℕ) (before now after : List (List ℕ)) → i < length lowers → repeats lowers ≡ false → get_or lowers i 0 < length before
    → AddsUpper (take i lowers) upper before now → after ≡ set now (get_or lowers i 0) (get_or now (get_or lowers i 0) [] ++ upper ∷ [])
    → AddsUpper (take (i + 1) lowers) upper before after
adds-more lowers upper i before now after less once known adds is = record {
  long = ap length is ∙ length-set now x (get_or now x [] ++ upper ∷ []) ∙ adds.long;
  each = λ node inside. elim (cases_eq x node) [
    | inl same ↦
        subst (λ (k : ℕ). get_or after k [] ≡ get_or before k [] ++ (cond (is_in (take (i + 1) lowers) k) (upper ∷ []) [])) same here
    | inr other ↦
        ap (λ (lists : List (List ℕ)). get_or lists node []) is
        ∙ get_or-set_other now x node (get_or now x [] ++ upper ∷ []) [] (λ e. other (sym e))
        ∙ adds.each node inside
        ∙ ap (λ (b : Bool). get_or before node [] ++ (cond b (upper ∷ []) [])) (sym (in-more-other lowers i node less other))
  ];
}
  where
    x : ℕ
    x = get_or lowers i 0

    here : get_or after x [] ≡ get_or before x [] ++ (cond (is_in (take (i + 1) lowers) x) (upper ∷ []) [])
    here =
        let inside : x < length now = omega (arith, known, adds.long) in
        ap (λ (lists : List (List ℕ)). get_or lists x []) is
        ∙ get_or-set_same now x (get_or now x [] ++ upper ∷ []) [] inside
        ∙ ap (λ (list : List ℕ). list ++ upper ∷ []) (adds.each x known ∙ ap (λ (b : Bool). get_or before x [] ++ (cond b (upper ∷ []) [])) (once-before lowers i less once) ∙ append-nil (get_or before x []))
        ∙ ap (λ (b : Bool). get_or before x [] ++ (cond b (upper ∷ []) [])) (sym (in-more-same lowers i x less refl))

-- the list of a vector
pub list-at : (vectors : List (Vec ℕ Global)) (i : ℕ) (v : Vec ℕ Global) → i < length vectors → v ≡ get_or vectors i v → get_or (lists_in vectors) i [] ≡ vec_items v
list-at [] i v less is = absurd (omega (arith, less))
list-at (w ∷ vectors) zero v less is = ap vec_items (sym is)
list-at (w ∷ vectors) (suc i) v less is = list-at vectors i v (omega (arith, less)) is

-- a vector gets one more number at its end
pub pushed-at : (vectors : List (Vec ℕ Global)) (i upper : ℕ) (old new : Vec ℕ Global) → i < length vectors → old ≡ get_or vectors i old → vec_items new ≡ vec_items old ++ upper ∷ []
    → lists_in (set vectors i new) ≡ set (lists_in vectors) i (get_or (lists_in vectors) i [] ++ upper ∷ [])
pushed-at vectors i upper old new less is grown =
    map-set vec_items vectors i new
    ∙ ap (λ (list : List ℕ). set (lists_in vectors) i list) (grown ∙ ap (λ (list : List ℕ). list ++ upper ∷ []) (sym (list-at vectors i old less is)))

map-same : (xs : List ℕ) → map (λ (x : ℕ). x) xs ≡ xs
map-same [] = refl
map-same (x ∷ xs) = ap (λ (ys : List ℕ). x ∷ ys) (map-same xs)

pub filter_of_range : (p : ℕ → Bool) (count : ℕ) → filter p (range_with_len 0 (count + 1)) ≡ filter p (range_with_len 0 count) ++ (cond (p count) (count ∷ []) [])
filter_of_range p count =
    ap (filter p) (sym (map-same (range_with_len 0 (count + 1))))
    ∙ filter_of_map_range_with_len_more p (λ (x : ℕ). x) 0 count count (omega arith)
    ∙ ap (λ (xs : List ℕ). filter p xs ++ (cond (p count) (count ∷ []) [])) (map-same (range_with_len 0 count))

-- so many nodes have been gone through, and now one more
pub above-none : (graph : Graph) (lists : List (List ℕ)) → length lists ≡ length graph → ((node : ℕ) → get_or lists node [] ≡ []) → HasAbove graph 0 lists
unfolding numbers
above-none graph lists long empty = record { long = long; each = λ node less. empty node }

pub above-more : (graph : Graph) (upper : ℕ) (before after : List (List ℕ)) → HasAbove graph upper before → AddsUpper (nodes_below graph upper) upper before after → HasAbove graph (upper + 1) after
unfolding numbers
above-more graph upper before after has adds = record {
  long = adds.long ∙ has.long;
  each = λ node less.
      let inside : node < length before = omega (arith, less, has.long) in
      adds.each node inside
      ∙ ap (λ (list : List ℕ). list ++ (cond (is_in (nodes_below graph upper) node) (upper ∷ []) [])) (has.each node less)
      ∙ sym (filter_of_range (λ other. is_in (nodes_below graph other) node) upper);
}

-- what was lent to a call comes back whole
dropped : {X : Type 0} (new old : List X) → length new ≡ length old → drop (length new) old ≡ []
dropped [] [] same = refl
dropped [] (y ∷ old) same = absurd (omega (arith, same))
dropped (x ∷ new) [] same = absurd (omega (arith, same))
dropped (x ∷ new) (y ∷ old) same = dropped new old (omega (arith, same))

taken : {X : Type 0} (xs : List X) → take (length xs) xs ≡ xs
taken [] = refl
taken (x ∷ xs) = ap (λ ys. x ∷ ys) (taken xs)

pub taken-back : {X : Type 0} (n : ℕ) (new old : List X) → length new ≡ length old → n ≡ length new → take n (new ++ drop (length new) old) ≡ new
taken-back n new old same is =
    ap (λ rest. take n (new ++ rest)) (dropped new old same) ∙ ap (take n) (append-nil new) ∙ ap (λ k. take k new) is ∙ taken new

pub length-lists : (vectors : List (Vec ℕ Global)) → length (lists_in vectors) ≡ length vectors
length-lists [] = refl
length-lists (v ∷ vectors) = ap suc (length-lists vectors)

-- no more nodes are above one than there are
filter-few : (p : ℕ → Bool) (xs : List ℕ) → length (filter p xs) ≤ length xs
filter-few p [] = omega arith
filter-few p (x ∷ xs) = kept (p x) (filter-few p xs)
  where
    kept : (b : Bool) → length (filter p xs) ≤ length xs → length (cond b (x ∷ filter p xs) (filter p xs)) ≤ length (x ∷ xs)
    kept true few = omega (arith, few)
    kept false few = omega (arith, few)

pub above-few : (graph : Graph) (node : ℕ) → length (nodes_above graph node) ≤ length graph
unfolding numbers
above-few graph node =
    omega (arith, filter-few (λ other. is_in (nodes_below graph other) node) (range_with_len 0 (length graph)), length-range_with_len 0 (length graph))
