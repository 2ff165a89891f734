-- The links of each node, as they are listed link by link.
use Rattle.std.proofs.Common.{◌≡◌, ◌<◌, ◌+◌, ◌++◌, ◌==◌, ℕ, Bool, true, false, cond, List, [], ◌∷◌, length, get_or, refl, sym, ◌∙◌, ap, subst, inl, inr, arith}
use Rattle.std.specs.Prelude.{Vec, filter, vec_items}
use Rattle.std.specs.declared.alloc.Global.{Global}
use Rattle.std.specs.List.{range_with_len}
use Rattle.std.proofs.Math.ListN.{set, length-set}
use Rattle.std.proofs.lemmas.Bool.{cases_eq, eq-eqb, ne_eqb}
use Rattle.std.proofs.lemmas.List.{append-nil, get_or-set_same, get_or-set_other}
use Rattle.std.proofs.lemmas.Option.{slice_get_within}
use Rattle.elaborate.proofs.PlanFacts.{lowers-are_nodes}
use Rattle.elaborate.specs.Plan.{plan_link_at, plan_links, plan_nodes}
use Rattle.net_build.specs.Linked.{AreListed}
use Rattle.net_plan.proofs.LinkPlaces.{LinkFacts, link-facts}
use Rattle.net_plan.proofs.NodeLinks.{leads-down}
use Rattle.node_graph.proofs.Uppers.{filter_of_range, length-lists, list-at}
use Rattle.node_graph.specs.Graph.{numbers}
use Rattle.node_graph.specs.Simple.{lists_in}
use Rattle.topology.specs.Document.{DocumentNode}

-- ---- both ends of a link are plan nodes

pub upper-known : (nodes : List DocumentNode) (link : ℕ) → link < length (plan_links nodes) → (plan_link_at nodes link).upper < length (plan_nodes nodes)
upper-known nodes link less = let facts : LinkFacts nodes link = link-facts nodes link less in slice_get_within (plan_nodes nodes) (plan_link_at nodes link).upper facts.node facts.at

pub lower-known : (nodes : List DocumentNode) (link : ℕ) → link < length (plan_links nodes) → (plan_link_at nodes link).lower < length (plan_nodes nodes)
lower-known nodes link less = lowers-are_nodes nodes (plan_link_at nodes link).upper (plan_link_at nodes link).lower (leads-down nodes link less)

-- ---- so many links are listed, and now one more

module _ (end : ℕ → ℕ) (nodes : ℕ) where
  pub listed-none : (lists : List (List ℕ)) → length lists ≡ nodes → ((node : ℕ) → get_or lists node [] ≡ []) → AreListed end nodes 0 lists
  unfolding numbers
  listed-none lists long empty = record { long = long; each = λ node less. empty node }

  listed : ℕ → ℕ → List ℕ
  listed node links = filter (λ link. end link == node) (range_with_len 0 links)

  one-listed : (node link : ℕ) (b : Bool) → (end link == node) ≡ b → listed node link ++ (cond b (link ∷ []) []) ≡ listed node (link + 1)
  unfolding listed
  one-listed node link b is =
      ap (λ (c : Bool). listed node link ++ (cond c (link ∷ []) [])) (sym is) ∙ sym (filter_of_range (λ l. end l == node) link)

  pub listed-more : (link : ℕ) (before after : List (List ℕ)) → end link < nodes → AreListed end nodes link before →
      after ≡ set before (end link) (get_or before (end link) [] ++ link ∷ []) → AreListed end nodes (link + 1) after
  unfolding numbers listed
  listed-more link before after known lists is = record {
    long = ap length is ∙ length-set before (end link) (get_or before (end link) [] ++ link ∷ []) ∙ lists.long;
    each = λ node less. elim (cases_eq (end link) node) [
      | inl same ↦ subst (λ (k : ℕ). get_or after k [] ≡ listed k (link + 1)) same here
      | inr other ↦
          ap (λ (all : List (List ℕ)). get_or all node []) is
          ∙ get_or-set_other before (end link) node (get_or before (end link) [] ++ link ∷ []) [] (λ e. other (sym e))
          ∙ lists.each node less
          ∙ sym (append-nil (listed node link))
          ∙ one-listed node link false (ne_eqb (end link) node other)
    ];
  }
    where
      here : get_or after (end link) [] ≡ listed (end link) (link + 1)
      here =
          ap (λ (all : List (List ℕ)). get_or all (end link) []) is
          ∙ get_or-set_same before (end link) (get_or before (end link) [] ++ link ∷ []) [] (omega (arith, known, lists.long))
          ∙ ap (λ (list : List ℕ). list ++ link ∷ []) (lists.each (end link) known)
          ∙ one-listed (end link) link true (eq-eqb (end link) (end link) refl)

-- the links that are listed at a node
pub listed-at : (end : ℕ → ℕ) (nodes links : ℕ) (vectors : List (Vec ℕ Global)) (node : ℕ) (v : Vec ℕ Global) → node < nodes → AreListed end nodes links (lists_in vectors) → v ≡ get_or vectors node v →
    vec_items v ≡ filter (λ link. end link == node) (numbers links)
listed-at end nodes links vectors node v less lists is = sym (list-at vectors node v (omega (arith, less, lists.long, length-lists vectors)) is) ∙ lists.each node less
