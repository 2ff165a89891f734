-- How a visit of all nodes begins and ends.
use Rattle.std.proofs.Common.{◌≡◌, ◌≢◌, ◌<◌, ◌≤◌, ◌+◌, ◌&&◌, ◌==◌, ℕ, zero, suc, Bool, true, false, not, List, [], ◌∷◌, length, get_or, refl, sym, ◌∙◌, ap, subst, inl, inr, arith}
use Rattle.std.specs.Prelude.{◌⊎◌, filter}
use Rattle.std.specs.List.{list_all, range_with_len}
use Rattle.std.proofs.lemmas.Bool.{and_parts, cases_Bool, cases_eq, eq-eqb, eqb-true, true≢false}
use Rattle.node_graph.specs.Graph.{Graph, depth_of, is_in, nodes_above}
use Rattle.node_graph.specs.Laws.{IsAcyclic}
use Rattle.node_graph.specs.Order.{repeats}
use Rattle.node_graph.specs.Simple.{HasCycle, LeadsDown}
use Rattle.node_graph.specs.Visits.{AreVisited, IsPassingOn, unvisited_above}
use Rattle.node_graph.proofs.Members.{few-differ, filter-in, in-filter, in-first, in-range, range-in, repeats-filter, repeats-range}
use Rattle.node_graph.proofs.Uppers.{get-in}
use Rattle.node_graph.proofs.Visited.{in-some, taken-whole}
use Rattle.node_graph.proofs.Ways.{above-below, links-lead_deeper, upper-known}

-- ---- tests of all

pub all-zero : (xs : List ℕ) → list_all (λ count. count == 0) xs ≡ true → (i : ℕ) → i < length xs → get_or xs i 0 ≡ 0
all-zero [] e i less = absurd (omega (arith, less))
all-zero (x ∷ xs) e zero less = eqb-true x 0 (and_parts (x == 0) (list_all (λ count. count == 0) xs) e).0
all-zero (x ∷ xs) e (suc i) less = all-zero xs (and_parts (x == 0) (list_all (λ count. count == 0) xs) e).1 i (omega (arith, less))

pub record IsLeft (xs : List ℕ) : Type 0 where
  pub place : ℕ
  pub inside : place < length xs
  pub some : get_or xs place 0 ≢ 0

pub is-left : (xs : List ℕ) → list_all (λ count. count == 0) xs ≡ false → IsLeft xs
is-left [] e = absurd (true≢false e)
is-left (x ∷ xs) e = by (cases_eq x 0) (is-left xs)
  where
    by : (x ≡ 0) ⊎ (x ≢ 0) → (list_all (λ count. count == 0) xs ≡ false → IsLeft xs) → IsLeft (x ∷ xs)
    by (inl none) rest =
        let more : IsLeft xs = rest (sym (ap (λ (b : Bool). b && list_all (λ count. count == 0) xs) (eq-eqb x 0 none)) ∙ e) in
        record { place = suc more.place; inside = omega (arith, more.inside); some = more.some }
    by (inr some) rest = record { place = 0; inside = omega arith; some = some }

-- ---- the beginning

filter-all : (xs : List ℕ) → filter (λ x. not (is_in [] x)) xs ≡ xs
filter-all [] = refl
filter-all (x ∷ xs) = ap (λ (ys : List ℕ). x ∷ ys) (filter-all xs)

empty-none : (xs : List ℕ) (x : ℕ) → length xs ≡ 0 → is_in xs x ≡ true → ⊥
empty-none xs x none there = omega (arith, none, in-some xs x there)

pub visits-begin : (graph : Graph) (count : ℕ) (waiting queue : List ℕ) → count ≡ length graph → length waiting ≡ length graph
    → ((node : ℕ) → node < length graph → get_or waiting node 0 ≡ length (nodes_above graph node))
    → queue ≡ filter (λ node. get_or waiting node 0 == 0) (range_with_len 0 count) → AreVisited graph 0 waiting queue
visits-begin graph count waiting queue same long each is = record {
  long = long;
  counts = λ node less. let count = each node less in let all = ap length (filter-all (nodes_above graph node)) in omega (arith, count, all);
  ready = ready;
  queued = record {
    known = known;
    once = ap repeats is ∙ repeats-filter p (range_with_len 0 count) (repeats-range 0 count);
    down = λ place upper inside there.
        let node : ℕ = get_or queue place 0 in
        let here : is_in queue (get_or queue place 0) ≡ true = get-in queue place inside in
        let zero_here : get_or waiting (get_or queue place 0) 0 ≡ 0 = eqb-true (get_or waiting (get_or queue place 0) 0) 0 (free (get_or queue place 0) here) in
        absurd (empty-none (nodes_above graph (get_or queue place 0)) upper (sym (each (get_or queue place 0) (known (get_or queue place 0) here)) ∙ zero_here) there);
  };
}
  where
    p : ℕ → Bool
    p node = get_or waiting node 0 == 0

    free : (node : ℕ) → is_in queue node ≡ true → p node ≡ true
    free node there = (in-filter p (range_with_len 0 count) node (ap (λ (list : List ℕ). is_in list node) (sym is) ∙ there)).1

    known : (node : ℕ) → is_in queue node ≡ true → node < length graph
    known node there =
        let within : (0 ≤ node) × (node < 0 + count) =
        in-range 0 count node (in-filter p (range_with_len 0 count) node (ap (λ (list : List ℕ). is_in list node) (sym is) ∙ there)).0 in
        omega (arith, within.1, same)

    ready : (node : ℕ) → node < length graph → is_in queue node ≡ (get_or waiting node 0 == 0)
    ready node less = by (cases_Bool (p node))
      where
        by : (p node ≡ true) ⊎ (p node ≡ false) → is_in queue node ≡ p node
        by (inl e) =
            ap (λ (list : List ℕ). is_in list node) is
            ∙ filter-in p (range_with_len 0 count) node (range-in 0 count node (omega arith) (omega (arith, less, same))) e ∙ sym e
        by (inr e) = none (cases_Bool (is_in queue node)) ∙ sym e
          where
            none : (is_in queue node ≡ true) ⊎ (is_in queue node ≡ false) → is_in queue node ≡ false
            none (inl there) = absurd (true≢false (sym (free node there) ∙ e))
            none (inr absent) = absent

-- ---- the end

pub visits-end : (graph : Graph) (count : ℕ) (waiting queue : List ℕ) → length graph ≤ count → AreVisited graph count waiting queue → IsPassingOn graph queue [] waiting queue
visits-end graph count waiting queue all is =
    let few : length queue ≤ length graph = few-differ (length graph) queue is.queued.known is.queued.once in
    subst (λ (visited : List ℕ). IsPassingOn graph visited [] waiting queue) (taken-whole count queue (omega (arith, few, all))) is

pub leads-down : (graph : Graph) (waiting queue : List ℕ) → IsPassingOn graph queue [] waiting queue → list_all (λ count. count == 0) waiting ≡ true → LeadsDown graph queue
leads-down graph waiting queue is all = record {
  known = is.queued.known;
  whole = λ node less. is.ready node less ∙ eq-eqb (get_or waiting node 0) 0 (all-zero waiting all node (omega (arith, less, is.long)));
  once = is.queued.once;
  down = is.queued.down;
}

one-in : (xs : List ℕ) → length xs ≢ 0 → (x : ℕ) × (is_in xs x ≡ true)
one-in [] some = absurd (some refl)
one-in (x ∷ xs) some = (x, in-first x xs x refl)

-- without a cycle each node comes into the queue, the less deep ones first
all-come : (graph : Graph) (waiting queue : List ℕ) → IsPassingOn graph queue [] waiting queue → IsAcyclic graph → (depth node : ℕ) → node < length graph → depth_of graph node < depth → is_in queue node ≡ true
all-come graph waiting queue is acyclic zero node less low = absurd (omega (arith, low))
all-come graph waiting queue is acyclic (suc depth) node less low = by (cases_Bool (is_in queue node)) (all-come graph waiting queue is acyclic depth)
  where
    by : (is_in queue node ≡ true) ⊎ (is_in queue node ≡ false) → ((other : ℕ) → other < length graph → depth_of graph other < depth → is_in queue other ≡ true) → is_in queue node ≡ true
    by (inl there) rest = there
    by (inr absent) rest =
        let waits : get_or waiting node 0 ≢ 0 = λ none. true≢false (sym (is.ready node less ∙ eq-eqb (get_or waiting node 0) 0 none) ∙ absent) in
        let left : length (unvisited_above graph queue node) ≢ 0 = λ none. waits (omega (arith, none, is.counts node less)) in
        let upper = one-in (unvisited_above graph queue node) left in
        let parts = in-filter (λ other. not (is_in queue other)) (nodes_above graph node) upper.0 upper.1 in
        let link = above-below graph node upper.0 parts.0 in
        let known : upper.0 < length graph = upper-known graph upper.0 node link in
        let deeper : depth_of graph upper.0 < depth_of graph node = links-lead_deeper graph acyclic upper.0 node less link in
        absurd (true≢false (sym parts.1 ∙ ap not (rest upper.0 known (omega (arith, deeper, low)))))

pub has-cycle : (graph : Graph) (waiting queue : List ℕ) → IsPassingOn graph queue [] waiting queue → list_all (λ count. count == 0) waiting ≡ false → HasCycle graph
has-cycle graph waiting queue is some acyclic =
    let left : IsLeft waiting = is-left waiting some in
    let less : left.place < length graph = omega (arith, left.inside, is.long) in
    left.some (eqb-true (get_or waiting left.place 0) 0 (sym (is.ready left.place less) ∙ all-come graph waiting queue is acyclic (suc (depth_of graph left.place)) left.place less (omega arith)))

-- where the queue has no node at a place, none is visited there
pub no-more : (graph : Graph) (place : ℕ) (waiting queue : List ℕ) → length queue ≤ place → AreVisited graph place waiting queue → AreVisited graph (place + 1) waiting queue
no-more graph place waiting queue past is =
    subst (λ (visited : List ℕ). IsPassingOn graph visited [] waiting queue) (taken-whole place queue past ∙ sym (taken-whole (place + 1) queue (omega (arith, past)))) is
