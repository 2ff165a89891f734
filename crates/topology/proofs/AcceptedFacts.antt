-- What an accepted document is.
use Rattle.std.proofs.Common.{◌≡◌, ◌<◌, ℕ, zero, suc, Bool, true, false, cond, List, [], ◌∷◌, length, map, Option, Some, None, refl, sym, ap, subst, inl, inr, arith}
use Rattle.std.specs.Prelude.{◌⊎◌, bytes_eq, filter_map, find, is_some, slice_index_or}
use Rattle.std.specs.List.{cons_option}
use Rattle.std.proofs.lemmas.Bool.{false≢true, true≢false}
use Rattle.std.proofs.lemmas.List.{length-map}
use Rattle.std.proofs.lemmas.List.Quantifiers.{position-Some}
use Rattle.node_graph.proofs.Members.{in-cases, in-each_once, numbers-in}
use Rattle.node_graph.proofs.Ways.{handed-local}
use Rattle.node_graph.specs.Graph.{is_in, nodes_below, numbers}
use Rattle.refusals.specs.declared.cause.Cause.{Cause}
use Rattle.topology.specs.Accepted.{AcceptedIsAcyclic, AcceptedIsClean, LinksAreHandedDown}
use Rattle.topology.specs.Document.{DocumentNode, graph_of, link_below, named, names_of, no_link, node_at, node_of_kind, targets_of}
use Rattle.topology.specs.Refused.{checks, first_cause, has_bad_region, has_fan_in, has_id_overflow, has_lite_mismatch, has_width_mismatch, is_cyclic, is_duplicate, is_loose, is_too_large, names_unknown, or_cause, regions_overlap}
use Rattle.topology_text.specs.declared.kind.Kind.TheVariants.{Slice}

-- ---- no check holds of a node

Some-None : {X : Type 0} (x : X) → Some x ≡ None → ⊥
Some-None x e = true≢false (ap is_some e)

or_else-none : (cause : Cause) (o : Option ℕ) (later : Option (Cause × ℕ)) → or_cause cause o later ≡ None → (o ≡ None) × (later ≡ None)
or_else-none cause None later e = (refl, e)
or_else-none cause (Some place) later e = absurd (Some-None (cause, place) e)

-- none of these checks finds a node
NoneFinds : List DocumentNode → List (Cause × (List DocumentNode → ℕ → Bool)) → Type 0
NoneFinds nodes [] = Unit {0}
NoneFinds nodes (check ∷ more) = (find (check.1 nodes) (numbers (length nodes)) ≡ None) × NoneFinds nodes more

none-finds : (nodes : List DocumentNode) (list : List (Cause × (List DocumentNode → ℕ → Bool))) → first_cause nodes list ≡ None → NoneFinds nodes list
unfolding NoneFinds
none-finds nodes [] e = tt
none-finds nodes (check ∷ more) e =
    let parts : (find (check.1 nodes) (numbers (length nodes)) ≡ None) × (first_cause nodes more ≡ None) =
    or_else-none check.0 (find (check.1 nodes) (numbers (length nodes))) (first_cause nodes more) e in
    (parts.0, none-finds nodes more parts.1)

cond-none : (b : Bool) (y : ℕ) (o : Option ℕ) → cond b (Some y) o ≡ None → (b ≡ false) × (o ≡ None)
cond-none true y o e = absurd (Some-None y e)
cond-none false y o e = (refl, e)

pub find-none : (p : ℕ → Bool) (xs : List ℕ) → find p xs ≡ None → (x : ℕ) → is_in xs x ≡ true → p x ≡ false
find-none p [] e x there = absurd (false≢true there)
find-none p (y ∷ ys) e x there =
    let parts : (p y ≡ false) × (find p ys ≡ None) = cond-none (p y) y (find p ys) e in
    elim (in-cases y ys x there) [
      | inl here ↦ subst (λ (k : ℕ). p k ≡ false) here parts.0
      | inr more ↦ find-none p ys parts.1 x more
    ]

pub accepted-is_clean : AcceptedIsClean
unfolding NoneFinds
accepted-is_clean nodes accepted place less =
    let none : NoneFinds nodes checks = none-finds nodes checks accepted in
    let known : is_in (numbers (length nodes)) place ≡ true = numbers-in (length nodes) place less in
    record {
      name_is_own = find-none (is_duplicate nodes) (numbers (length nodes)) none.0 place known;
      names_are_known = find-none (names_unknown nodes) (numbers (length nodes)) none.1.0 place known;
      uppers_are_few = find-none (has_fan_in nodes) (numbers (length nodes)) none.1.1.0 place known;
      upper_is_there = find-none (is_loose nodes) (numbers (length nodes)) none.1.1.1.0 place known;
      no_cycle = find-none (is_cyclic nodes) (numbers (length nodes)) none.1.1.1.1.0 place known;
      regions_are_good = find-none (has_bad_region nodes) (numbers (length nodes)) none.1.1.1.1.1.0 place known;
      regions_are_apart = find-none (regions_overlap nodes) (numbers (length nodes)) none.1.1.1.1.1.1.0 place known;
      widths_fit = find-none (has_width_mismatch nodes) (numbers (length nodes)) none.1.1.1.1.1.1.1.0 place known;
      ids_fit = find-none (has_id_overflow nodes) (numbers (length nodes)) none.1.1.1.1.1.1.1.1.0 place known;
      protocols_fit = find-none (has_lite_mismatch nodes) (numbers (length nodes)) none.1.1.1.1.1.1.1.1.1.0 place known;
      small = find-none (is_too_large nodes) (numbers (length nodes)) none.1.1.1.1.1.1.1.1.1.1.0 place known;
    }

-- ---- its graph

pub graph-long : (nodes : List DocumentNode) → length (graph_of nodes) ≡ length nodes
graph-long nodes = length-map nodes (targets_of nodes)

pub accepted-is_acyclic : AcceptedIsAcyclic
accepted-is_acyclic nodes accepted place less = (accepted-is_clean nodes accepted place (subst (λ (n : ℕ). place < n) (graph-long nodes) less)).no_cycle

pub links-are_handed_down : LinksAreHandedDown
links-are_handed_down nodes accepted place less =
    handed-local (graph_of nodes) (λ place links. link_below (node_at nodes place).kind (node_at nodes place) links) no_link (accepted-is_acyclic nodes accepted) place
    (subst (λ (n : ℕ). place < n) (sym (graph-long nodes)) less)

-- ---- targets are nodes

option-cases : (o : Option ℕ) (rest : List ℕ) (t : ℕ) → is_in (cons_option o rest) t ≡ true → (o ≡ Some t) ⊎ (is_in rest t ≡ true)
option-cases None rest t e = inr e
option-cases (Some x) rest t e = elim (in-cases x rest t e) [ inl here ↦ inl (ap (λ (k : ℕ). Some k) here) | inr there ↦ inr there ]

record Source {X : Type 0} (f : X → Option ℕ) (t : ℕ) : Type 0 where
  item : X
  gives : f item ≡ Some t

source-of : {X : Type 0} (f : X → Option ℕ) (xs : List X) (t : ℕ) → is_in (filter_map f xs) t ≡ true → Source f t
source-of f [] t e = absurd (false≢true e)
source-of f (x ∷ xs) t e =
    elim (option-cases (f x) (filter_map f xs) t e) [
      | inl here ↦ record { item = x; gives = here }
      | inr there ↦ source-of f xs t there
    ]

pub target-known : (nodes : List DocumentNode) (node : DocumentNode) (t : ℕ) → is_in (targets_of nodes node) t ≡ true → t < length nodes
target-known nodes node t e =
    let found : Source (named nodes) t = source-of (named nodes) (names_of node) t (in-each_once (filter_map (named nodes) (names_of node)) t e) in
    (position-Some (λ (other : DocumentNode). bytes_eq other.name found.item) nodes t (node_of_kind [] Slice) found.gives).0

-- the nodes below a node in the graph are its targets
pub below-targets : (nodes : List DocumentNode) (place : ℕ) → place < length nodes → nodes_below (graph_of nodes) place ≡ targets_of nodes (node_at nodes place)
below-targets nodes place less = at nodes place less
  where
    at : (some : List DocumentNode) (place : ℕ) → place < length some → slice_index_or (map (targets_of nodes) some) place [] ≡ targets_of nodes (slice_index_or some place (node_of_kind [] Slice))
    at [] place less = absurd (omega arith)
    at (x ∷ xs) zero less = refl
    at (x ∷ xs) (suc place) less = at xs place (omega arith)
