-- The size of the plan of the first nodes.
use Rattle.std.proofs.Common.{◌≡◌, ◌+◌, ◌||◌, ℕ, suc, Bool, true, false, List, map, refl, ap₂, sym, ◌∙◌, arith}
use Rattle.std.specs.Prelude.{nat_lt, sum}
use Rattle.std.proofs.lemmas.Bool.{ltb-false}
use Rattle.std.proofs.lemmas.List.FromFn.{sum_by-map-range_with_len_more}
use Rattle.node_graph.specs.Graph.{numbers}
use Rattle.topology.specs.Document.{DocumentNode, plan_links_at, plan_nodes_at}
use Rattle.topology.specs.Refused.{has_too_many, is_too_large}
use Rattle.topology.specs.Sizes.{IsSizeOf}
use Rattle.topology.specs.declared.size.PlanSize.{PlanSize}

sum-next : (f : ℕ → ℕ) (count : ℕ) → sum (map f (numbers (count + 1))) ≡ sum (map f (numbers count)) + f count
unfolding numbers
sum-next f count = sum_by-map-range_with_len_more (λ (x : ℕ). x) f 0 count count (omega arith)

pub no_size : (nodes : List DocumentNode) → IsSizeOf nodes 0 (record { nodes = 0; links = 0 })
unfolding numbers
no_size nodes = record { nodes_are = refl; links_are = refl; few_nodes = omega arith; few_links = omega arith }

module _ (nodes : List DocumentNode) (place : ℕ) (size : PlanSize) (a b : ℕ) (is : IsSizeOf nodes place size) (more_nodes : a ≡ plan_nodes_at nodes place) (more_links : b ≡ plan_links_at nodes place) where
  nodes-next : size.nodes + a ≡ sum (map (plan_nodes_at nodes) (numbers (place + 1)))
  nodes-next = ap₂ (λ (x y : ℕ). x + y) is.nodes_are more_nodes ∙ sym (sum-next (plan_nodes_at nodes) place)

  links-next : size.links + b ≡ sum (map (plan_links_at nodes) (numbers (place + 1)))
  links-next = ap₂ (λ (x y : ℕ). x + y) is.links_are more_links ∙ sym (sum-next (plan_links_at nodes) place)

  pub too_large-is : has_too_many nodes place ≡ false → is_too_large nodes place ≡ (nat_lt 1024 (size.nodes + a) || nat_lt 4096 (size.links + b))
  too_large-is few =
      let later : suc place ≡ place + 1 = omega arith in
      ap₂ (λ (h : Bool) (k : ℕ). h || nat_lt 1024 (sum (map (plan_nodes_at nodes) (numbers k))) || nat_lt 4096 (sum (map (plan_links_at nodes) (numbers k)))) few later
      ∙ ap₂ (λ (x y : ℕ). nat_lt 1024 x || nat_lt 4096 y) (sym nodes-next) (sym links-next)

  pub size-next : (nat_lt 1024 (size.nodes + a) || nat_lt 4096 (size.links + b)) ≡ false → IsSizeOf nodes (place + 1) (record { nodes = size.nodes + a; links = size.links + b })
  size-next e = record {
    nodes_are = nodes-next;
    links_are = links-next;
    few_nodes = ltb-false 1024 (size.nodes + a) (neither (nat_lt 1024 (size.nodes + a)) (nat_lt 4096 (size.links + b)) e).0;
    few_links = ltb-false 4096 (size.links + b) (neither (nat_lt 1024 (size.nodes + a)) (nat_lt 4096 (size.links + b)) e).1;
  }
    where
      neither : (x y : Bool) → (x || y) ≡ false → (x ≡ false) × (y ≡ false)
      neither true y f = absurd cc
      neither false y f = (refl, f)
