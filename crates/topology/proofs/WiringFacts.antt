-- What a wiring keeps.
use Rattle.std.proofs.Common.{◌≡◌, ◌<◌, ◌≤◌, ℕ, zero, suc, Bool, true, false, cond, Some, None, List, [], ◌∷◌, get_or, length, map, refl, sym, ◌∙◌, ap, arith, inl, inr}
use Rattle.std.specs.Prelude.{Vec, position, vec_items}
use Rattle.std.specs.List.{position_or_len}
use Rattle.std.specs.declared.alloc.Global.{Global}
use Rattle.std.proofs.lemmas.Bool.{cases_lt, le-ltb, lt-ltb, true≢false}
use Rattle.std.proofs.lemmas.List.{length-map}
use Rattle.std.proofs.lemmas.List.FromFn.{get_or-map-range_with_len, length-map-range_with_len}
use Rattle.std.proofs.lemmas.List.Sums.{position_or_len_is}
use Rattle.address_map.specs.declared.region.Region.{Region}
use Rattle.node_graph.specs.Graph.{numbers}
use Rattle.topology.specs.Document.{DocumentNode, LinkKind, link_kind_of, node_at, node_of_kind}
use Rattle.topology.specs.Refused.{IsAccepted}
use Rattle.topology.specs.Wiring.{regions_of}
use Rattle.topology_text.specs.declared.kind.Kind.TheVariants.{Slice}
use Rattle.topology.proofs.AcceptedFacts.{accepted-is_clean}

pub few-nodes : (nodes : List DocumentNode) → IsAccepted nodes → length nodes ≤ 256
few-nodes nodes accepted =
    elim (cases_lt 256 (length nodes)) [
      | inl more ↦ absurd (true≢false (accepted-is_clean nodes accepted 256 more).small)
      | inr few ↦ few
    ]

-- the links and the regions of a node
pub link-at : (nodes : List DocumentNode) (links : List LinkKind) (place : ℕ) (x : LinkKind) → links ≡ map (link_kind_of nodes) (numbers (length nodes)) → place < length nodes → x ≡ get_or links place x → x ≡ link_kind_of nodes place
unfolding numbers
link-at nodes links place x are less e =
    e ∙ ap (λ (xs : List LinkKind). get_or xs place x) are ∙ get_or-map-range_with_len (link_kind_of nodes) 0 (length nodes) place place x less (omega arith)

pub links-long : (nodes : List DocumentNode) (links : List LinkKind) → links ≡ map (link_kind_of nodes) (numbers (length nodes)) → length links ≡ length nodes
unfolding numbers
links-long nodes links are = ap length are ∙ length-map-range_with_len (link_kind_of nodes) 0 (length nodes)

pub regions-at : (nodes : List DocumentNode) (regions : List (Vec Region Global)) (place : ℕ) (x : Vec Region Global) → map vec_items regions ≡ map (regions_of nodes) nodes → place < length nodes → x ≡ get_or regions place x → vec_items x ≡ regions_of nodes (node_at nodes place)
regions-at nodes regions place x are less e =
    ap vec_items e ∙ mapped (vec_items) regions place x (omega (arith, less, sym (length-map regions vec_items) ∙ ap length are ∙ length-map nodes (regions_of nodes))) ∙ ap (λ xs. get_or xs place (vec_items x)) are
    ∙ sym (other nodes place (vec_items x) less)
  where
    mapped : {X Y : Type 0} (f : X → Y) (xs : List X) (place : ℕ) (x : X) → place < length xs → f (get_or xs place x) ≡ get_or (map f xs) place (f x)
    mapped f [] place x less = refl
    mapped f (y ∷ ys) zero x less = refl
    mapped f (y ∷ ys) (suc place) x less = mapped f ys place x (omega (arith, less))

    other : (some : List DocumentNode) (place : ℕ) (d : List Region) → place < length some → regions_of nodes (node_at some place) ≡ get_or (map (regions_of nodes) some) place d
    other [] place d less = absurd (omega (arith, less))
    other (y ∷ ys) zero d less = refl
    other (y ∷ ys) (suc place) d less = other ys place d (omega (arith, less))

-- the first node of which a test holds
pub first-node : (p : DocumentNode → Bool) (nodes : List DocumentNode) (place : ℕ) → place < length nodes → ((k : ℕ) → k < place → p (node_at nodes k) ≡ false) → p (node_at nodes place) ≡ true → Some place ≡ position p nodes
first-node p nodes place less before here =
    let at : position_or_len p nodes ≡ place = position_or_len_is p nodes place (node_of_kind [] Slice) (omega (arith, less)) before (λ _. here) in
    sym (rw at (ap (λ b. cond b (Some place) None) (lt-ltb place (length nodes) less)))

pub no-node : (p : DocumentNode → Bool) (nodes : List DocumentNode) → ((k : ℕ) → k < length nodes → p (node_at nodes k) ≡ false) → None ≡ position p nodes
no-node p nodes none =
    let at : position_or_len p nodes ≡ length nodes = position_or_len_is p nodes (length nodes) (node_of_kind [] Slice) (omega arith) none (λ lt. absurd (omega arith)) in
    sym (rw at (ap (λ b. cond b (Some (length nodes)) None) (le-ltb (length nodes) (length nodes) (omega arith))))
