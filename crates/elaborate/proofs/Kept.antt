-- What a plan keeps.
use Rattle.std.proofs.Common.{◌≡◌, ◌<◌, ◌≤◌, ◌+◌, ◌==◌, ℕ, zero, suc, Bool, true, false, cond, not, List, [], ◌∷◌, length, map, get_or, Some, refl, sym, ◌∙◌, ap, inl, inr, arith}
use Rattle.std.specs.Prelude.{◌⊎◌, filter, slice_get}
use Rattle.std.specs.List.{range_with_len}
use Rattle.std.proofs.lemmas.Bool.{cases_eq, eq-eqb, false≢true, ne_eqb, or_parts, true≢false}
use Rattle.std.proofs.lemmas.List.FromFn.{length-range_with_len}
use Rattle.std.proofs.lemmas.Option.{slice_get-get_or}
use Rattle.node_graph.specs.Graph.{is_in}
use Rattle.node_graph.specs.Laws.{OrderIsWhole}
use Rattle.node_graph.specs.Order.{repeats}
use Rattle.node_graph.specs.Simple.{IsSimple}
use Rattle.node_graph.proofs.Members.{few-differ, filter-in, in-cases, in-first, in-range, in-rest, repeats-range}
use Rattle.topology.specs.Document.{DocumentNode, no_link, node_at}
use Rattle.topology.specs.Refused.{IsAccepted}
use Rattle.elaborate.specs.Path.{plan_order}
use Rattle.elaborate.specs.Plan.{PlanLink, PlanNode, plan_graph, plan_link_at, plan_links, plan_node_at, plan_nodes}
use Rattle.elaborate.specs.declared.part.Part.TheVariants as part
use Rattle.elaborate.proofs.Forms.{Part_at, part-at}
use Rattle.elaborate.proofs.Lists.{nth-in}
use Rattle.elaborate.proofs.Orders.{plan-long, plan-order_is_whole}
use Rattle.elaborate.proofs.Once.{none-is_twice_below}
use Rattle.elaborate.proofs.PlanFacts.{form-document, lowers-are_nodes}

-- the default of a look-up doesn't matter inside a list
pub get-same : {X : Type 0} (xs : List X) (place : ℕ) (d e : X) → place < length xs → get_or xs place d ≡ get_or xs place e
get-same [] place d e less = absurd (omega (arith, less))
get-same (x ∷ xs) zero d e less = refl
get-same (x ∷ xs) (suc place) d e less = get-same xs place d e (omega (arith, less))

pub link-kept : (nodes : List DocumentNode) (links : List PlanLink) (place : ℕ) (x : PlanLink) → links ≡ plan_links nodes → place < length (plan_links nodes) → x ≡ get_or links place x → x ≡ plan_link_at nodes place
link-kept nodes links place x are less e =
    e ∙ ap (λ xs. get_or xs place x) are ∙ get-same (plan_links nodes) place x (record { upper = 0; lower = 0; link = no_link; depth = 0 }) less

-- the document node that a plan node comes from is there
pub document-known : (nodes : List DocumentNode) (number : ℕ) → number < length (plan_nodes nodes) → (plan_node_at nodes number).document < length nodes
document-known nodes number less =
    let at : slice_get (plan_nodes nodes) number ≡ Some (plan_node_at nodes number) =
    slice_get-get_or (plan_nodes nodes) number (record { part = part.Slice; document = 0; name = []; lower = []; link = no_link }) less in
    let spot : Part_at nodes number (plan_node_at nodes number) = part-at nodes number (plan_node_at nodes number) at in
    omega (arith, spot.within, form-document nodes spot.place spot.inner (plan_node_at nodes number) (node_at nodes spot.place).kind spot.form)

pub document-at : (nodes : List DocumentNode) (parts : List PlanNode) (number : ℕ) (node : PlanNode) → parts ≡ plan_nodes nodes → number < length parts → node ≡ get_or parts number node → node.document < length nodes
document-at nodes parts number node are less is =
    let long : length parts ≡ length (plan_nodes nodes) = ap length are in
    let same : node ≡ plan_node_at nodes number =
    is ∙ ap (λ xs. get_or xs number node) are
    ∙ get-same (plan_nodes nodes) number node (record { part = part.Slice; document = 0; name = []; lower = []; link = no_link }) (omega (arith, less, long)) in
    omega (arith, ap (λ (x : PlanNode). x.document) same, document-known nodes number (omega (arith, less, long)))

-- ---- how long the order is

shorter : (xs : List ℕ) (x : ℕ) → is_in xs x ≡ true → length (filter (λ y. not (y == x)) xs) < length xs
shorter [] x there = absurd (false≢true there)
shorter (y ∷ ys) x there =
    elim (cases_eq y x) [
      | inl same ↦ gone (y == x) (filter (λ z. not (z == x)) ys) (length ys) (eq-eqb y x same) (most (λ z. not (z == x)) ys)
      | inr differ ↦ stays (y == x) (filter (λ z. not (z == x)) ys) (length ys) (ne_eqb y x differ) (shorter ys x (later (in-cases y ys x there) differ))
    ]
  where
    most : (p : ℕ → Bool) (xs : List ℕ) → length (filter p xs) ≤ length xs
    most p [] = omega arith
    most p (x ∷ xs) = go (p x) (most p xs)
      where
        go : (b : Bool) → length (filter p xs) ≤ length xs → length (cond b (x ∷ filter p xs) (filter p xs)) ≤ suc (length xs)
        go true le = omega (arith, le)
        go false le = omega (arith, le)

    gone : (b : Bool) (rest : List ℕ) (n : ℕ) → b ≡ true → length rest ≤ n → length (cond (not b) (y ∷ rest) rest) < suc n
    gone true rest n e le = omega (arith, le)
    gone false rest n e le = absurd (false≢true e)

    stays : (b : Bool) (rest : List ℕ) (n : ℕ) → b ≡ false → length rest < n → length (cond (not b) (y ∷ rest) rest) < suc n
    stays true rest n e le = absurd (true≢false e)
    stays false rest n e le = omega (arith, le)

    later : (y ≡ x) ⊎ (is_in ys x ≡ true) → (y ≡ x → ⊥) → is_in ys x ≡ true
    later (inl same) differ = absurd (differ same)
    later (inr there) differ = there

-- numbers that differ and are all in a list are no more than it has
within-long : (xs ys : List ℕ) → repeats xs ≡ false → ((x : ℕ) → is_in xs x ≡ true → is_in ys x ≡ true) → length xs ≤ length ys
unfolding repeats
within-long [] ys once there = omega arith
within-long (x ∷ xs) ys once there =
    let parts : (is_in xs x ≡ false) × (repeats xs ≡ false) = or_parts (is_in xs x) (repeats xs) once in
    let fewer : length (filter (λ y. not (y == x)) ys) < length ys = shorter ys x (there x (in-first x xs x refl)) in
    let rest : length xs ≤ length (filter (λ y. not (y == x)) ys) =
    within-long xs (filter (λ y. not (y == x)) ys) parts.1
    (λ y y_in. filter-in (λ z. not (z == x)) ys y (there y (in-rest x xs y y_in))
    (differs y (λ same. true≢false (sym y_in ∙ ap (is_in xs) same ∙ parts.0)))) in
    omega (arith, fewer, rest)
  where
    differs : (y : ℕ) → (y ≡ x → ⊥) → not (y == x) ≡ true
    differs y e = ap not (ne_eqb y x e)

pub order-long : (nodes : List DocumentNode) → IsAccepted nodes → length (plan_order nodes) ≡ length (plan_nodes nodes)
order-long nodes accepted =
    let whole : OrderIsWhole (plan_graph nodes) = plan-order_is_whole nodes accepted in
    let most : length (plan_order nodes) ≤ length (plan_graph nodes) = few-differ (length (plan_graph nodes)) (plan_order nodes) whole.others whole.once in
    let least : length (range_with_len 0 (length (plan_graph nodes))) ≤ length (plan_order nodes) =
    within-long (range_with_len 0 (length (plan_graph nodes))) (plan_order nodes) (repeats-range 0 (length (plan_graph nodes)))
    (λ x there. whole.all x (omega (arith, (in-range 0 (length (plan_graph nodes)) x there).1))) in
    omega (arith, most, least, length-range_with_len 0 (length (plan_graph nodes)), plan-long nodes)

pub order-known : (nodes : List DocumentNode) → IsAccepted nodes → (place : ℕ) → place < length (plan_nodes nodes) → get_or (plan_order nodes) place 0 < length (plan_nodes nodes)
order-known nodes accepted place less =
    omega (
      arith,
      (plan-order_is_whole nodes accepted).others (get_or (plan_order nodes) place 0) (nth-in (plan_order nodes) place (omega (arith, less, order-long nodes accepted))),
      plan-long nodes,
    )

pub plan-simple : (nodes : List DocumentNode) → IsSimple (plan_graph nodes)
plan-simple nodes = record {
  known = λ upper lower there. omega (arith, lowers-are_nodes nodes upper lower there, plan-long nodes);
  once = none-is_twice_below nodes;
}

pub order-kept : (nodes : List DocumentNode) (order : List ℕ) (place x : ℕ) → IsAccepted nodes → order ≡ plan_order nodes → place < length (plan_nodes nodes) → x ≡ get_or order place x → x ≡ get_or (plan_order nodes) place 0
order-kept nodes order place x accepted are less is =
    is ∙ ap (λ xs. get_or xs place x) are ∙ get-same (plan_order nodes) place x 0 (omega (arith, less, order-long nodes accepted))
