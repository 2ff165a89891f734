-- Ways over the links of a graph, and what is handed down where none of them comes back.
use Rattle.std.proofs.Common.{◌≡◌, ◌<◌, ◌≤◌, ◌+◌, ◌-◌, ◌||◌, ◌==◌, ℕ, zero, suc, Bool, true, false, List, [], ◌∷◌, length, map, refl, sym, ◌∙◌, ap, subst, inl, inr, arith}
use Rattle.std.specs.Prelude.{◌⊎◌}
use Rattle.std.specs.List.{list_all}
use Rattle.std.proofs.lemmas.Bool.{cases_Bool, eq-eqb, eqb-true, false≢true, or_cases, or_left, or_right, true≢false}
use Rattle.node_graph.specs.Graph.{Graph, depth_of, handed_down, handed_in, has_way, is_in, nodes_above, nodes_below, numbers, one_more}
use Rattle.node_graph.specs.Laws.{DepthsAreSmall, IsAcyclic, LinksLeadDeeper}
use Rattle.node_graph.specs.Order.{repeats}
use Rattle.node_graph.proofs.Members.{Passes, all-pass, few-differ, filter-in, in-cases, in-filter, in-first, in-rest, map-same, numbers-in, one-fails, passes-some, some-passes}

pub upper-known : (graph : Graph) (upper lower : ℕ) → is_in (nodes_below graph upper) lower ≡ true → upper < length graph
upper-known [] upper lower e = absurd (false≢true e)
upper-known (x ∷ xs) zero lower e = omega arith
upper-known (x ∷ xs) (suc upper) lower e = omega (arith, upper-known xs upper lower e)

module _ (graph : Graph) where
  -- ---- above and below

  pub above-below : (node upper : ℕ) → is_in (nodes_above graph node) upper ≡ true → is_in (nodes_below graph upper) node ≡ true
  above-below node upper e = (in-filter (λ other. is_in (nodes_below graph other) node) (numbers (length graph)) upper e).1

  pub below-above : (node upper : ℕ) → is_in (nodes_below graph upper) node ≡ true → is_in (nodes_above graph node) upper ≡ true
  below-above node upper e =
      filter-in (λ other. is_in (nodes_below graph other) node) (numbers (length graph)) upper (numbers-in (length graph) upper (upper-known graph upper node e)) e

  -- ---- ways down

  pub link-way : (links from to : ℕ) → is_in (nodes_below graph from) to ≡ true → has_way graph (suc links) from to ≡ true
  unfolding has_way
  link-way links from to e =
      passes-some (λ next. next == to || has_way graph links next to) (nodes_below graph from) to e (or_left (to == to) (has_way graph links to to) (eq-eqb to to refl))

  -- a way begins with a link, which is all of it, or before the rest
  pub record Begins (links from to : ℕ) : Type 0 where
    pub next : ℕ
    pub link : is_in (nodes_below graph from) next ≡ true
    pub rest : (next ≡ to) ⊎ (has_way graph links next to ≡ true)

  pub begins : (links from to : ℕ) → has_way graph (suc links) from to ≡ true → Begins links from to
  unfolding has_way
  begins links from to e =
      let found : Passes (λ next. next == to || has_way graph links next to) (nodes_below graph from) true =
      some-passes (λ next. next == to || has_way graph links next to) (nodes_below graph from) e in
      record {
        next = found.number;
        link = found.there;
        rest = elim (or_cases (found.number == to) (has_way graph links found.number to) found.passes) [
          | inl same ↦ inl (eqb-true found.number to same)
          | inr there ↦ inr there
        ];
      }

  more-way : (links from next to : ℕ) → is_in (nodes_below graph from) next ≡ true → has_way graph links next to ≡ true → has_way graph (suc links) from to ≡ true
  unfolding has_way
  more-way links from next to link e =
      passes-some (λ other. other == to || has_way graph links other to) (nodes_below graph from) next link (or_right (next == to) (has_way graph links next to) e)

  pub way-more : (links from to next : ℕ) → has_way graph links from to ≡ true → is_in (nodes_below graph to) next ≡ true → has_way graph (suc links) from next ≡ true
  unfolding has_way
  way-more zero from to next e link = absurd (false≢true e)
  way-more (suc links) from to next e link =
      let first : Begins links from to = begins links from to e in
      more-way (suc links) from first.next next first.link (elim first.rest [
        | inl same ↦ link-way links first.next next (subst (λ (k : ℕ). is_in (nodes_below graph k) next ≡ true) (sym same) link)
        | inr there ↦ way-more links first.next to next there link
      ])

  way-longer : (links from to : ℕ) → has_way graph links from to ≡ true → has_way graph (suc links) from to ≡ true
  unfolding has_way
  way-longer zero from to e = absurd (false≢true e)
  way-longer (suc links) from to e =
      let first : Begins links from to = begins links from to e in
      elim first.rest [
        | inl same ↦ link-way (suc links) from to (subst (λ (k : ℕ). is_in (nodes_below graph from) k ≡ true) same first.link)
        | inr there ↦ more-way (suc links) from first.next to first.link (way-longer links first.next to there)
      ]

  pub way-within : (links gap most from to : ℕ) → most ≡ gap + links → has_way graph links from to ≡ true → has_way graph most from to ≡ true
  way-within links zero most from to sum e = subst (λ (k : ℕ). has_way graph k from to ≡ true) (omega arith) e
  way-within links (suc gap) zero from to sum e = absurd (omega arith)
  way-within links (suc gap) (suc most) from to sum e = way-longer most from to (way-within links gap most from to (omega arith) e)

  -- ---- ways up

  -- no way up from a node has so many links
  ends : ℕ → ℕ → Bool
  ends zero node = false
  ends (suc links) node = list_all (ends links) (nodes_above graph node)

  -- each node of a list but the last is below the next one
  Climbs : List ℕ → Type 0
  Climbs [] = Unit {0}
  Climbs (x ∷ []) = Unit {0}
  Climbs (x ∷ y ∷ more) = (is_in (nodes_below graph y) x ≡ true) × Climbs (y ∷ more)

  record Climb (links node : ℕ) : Type 0 where
    rest : List ℕ
    long : length rest ≡ links
    climbs : Climbs (node ∷ rest)

  climb-of : (links node : ℕ) → ends links node ≡ false → Climb links node
  unfolding ends Climbs
  climb-of zero node e = record { rest = []; long = refl; climbs = tt }
  climb-of (suc links) node e =
      let found : Passes (ends links) (nodes_above graph node) false = one-fails (ends links) (nodes_above graph node) e in
      let more : Climb links found.number = climb-of links found.number found.passes in
      record { rest = found.number ∷ more.rest; long = ap suc more.long; climbs = (above-below node found.number found.there, more.climbs) }

  climb-known : (node : ℕ) (rest : List ℕ) → node < length graph → Climbs (node ∷ rest) → (x : ℕ) → is_in (node ∷ rest) x ≡ true → x < length graph
  unfolding Climbs
  climb-known node [] less climbs x e = elim (in-cases node [] x e) [ inl same ↦ omega (arith, same, less) | inr there ↦ absurd (false≢true there) ]
  climb-known node (y ∷ more) less climbs x e =
      elim (in-cases node (y ∷ more) x e) [
        | inl same ↦ omega (arith, same, less)
        | inr there ↦ climb-known y more (upper-known graph y node climbs.0) climbs.1 x there
      ]

  -- a way down from one node to another, of at most so many links
  record Down (most from to : ℕ) : Type 0 where
    links : ℕ
    few : links ≤ most
    way : has_way graph links from to ≡ true

  climb-down : (x : ℕ) (more : List ℕ) (z : ℕ) → Climbs (x ∷ more) → is_in more z ≡ true → Down (length more) z x
  unfolding Climbs
  climb-down x [] z climbs e = absurd (false≢true e)
  climb-down x (y ∷ more) z climbs e =
      elim (in-cases y more z e) [
        | inl here ↦ record { links = 1; few = omega arith; way = link-way 0 z x (subst (λ (k : ℕ). is_in (nodes_below graph k) x ≡ true) here climbs.0) }
        | inr there ↦
            let down : Down (length more) z y = climb-down y more z climbs.1 there in
            record { links = suc down.links; few = omega (arith, down.few); way = way-more down.links z y x down.way climbs.0 }
      ]

  record Loop (most : ℕ) : Type 0 where
    node : ℕ
    known : node < length graph
    down : Down most node node

  loop-in : (x : ℕ) (rest : List ℕ) (most : ℕ) → length rest ≤ most → x < length graph → Climbs (x ∷ rest) → repeats (x ∷ rest) ≡ true → Loop most
  unfolding Climbs repeats
  loop-in x [] most long less climbs e = absurd (false≢true e)
  loop-in x (y ∷ more) most long less climbs e =
      elim (or_cases (is_in (y ∷ more) x) (repeats (y ∷ more)) e) [
        | inl here ↦
            let down : Down (length (y ∷ more)) x x = climb-down x (y ∷ more) x climbs here in
            record { node = x; known = less; down = record { links = down.links; few = omega (arith, down.few, long); way = down.way } }
        | inr there ↦ loop-in y more most (omega (arith, long)) (upper-known graph y x climbs.0) climbs.1 there
      ]

  module _ (acyclic : IsAcyclic graph) where
    no-loop : Loop (length graph) → ⊥
    no-loop loop =
        true≢false
        (
        sym (way-within loop.down.links (length graph - loop.down.links) (length graph) loop.node loop.node (omega (arith, loop.down.few)) loop.down.way)
        ∙ acyclic loop.node loop.known
        )

    all-end : (node : ℕ) → node < length graph → ends (length graph) node ≡ true
    all-end node less =
        elim (cases_Bool (ends (length graph) node)) [
          | inl e ↦ e
          | inr e ↦
              let climb : Climb (length graph) node = climb-of (length graph) node e in
              elim (cases_Bool (repeats (node ∷ climb.rest))) [
                | inl twice ↦ absurd (no-loop (loop-in node climb.rest (length graph) (omega (arith, climb.long)) less climb.climbs twice))
                | inr once ↦ absurd (omega (arith, few-differ (length graph) (node ∷ climb.rest) (climb-known node climb.rest less climb.climbs) once, climb.long))
              ]
        ]

  -- ---- what is handed down

  module _ {X : Type 0} (give : ℕ → List X → X) (nothing : X) where
    settled : (links node : ℕ) → ends links node ≡ true → handed_in give nothing graph links node ≡ handed_in give nothing graph (suc links) node
    unfolding ends handed_in
    settled zero node e = absurd (false≢true e)
    settled (suc links) node e =
        ap
        (give node)
        (
        map-same (handed_in give nothing graph links) (handed_in give nothing graph (suc links)) (nodes_above graph node)
        (λ upper there. settled links upper (all-pass (ends links) (nodes_above graph node) upper e there))
        )

    -- in a graph without a cycle a node has what is made of what the nodes above it have
    pub handed-local : IsAcyclic graph → (node : ℕ) → node < length graph → handed_down give nothing graph node ≡ give node (map (handed_down give nothing graph) (nodes_above graph node))
    unfolding handed_in
    handed-local acyclic node less = settled (length graph) node (all-end acyclic node less)

-- ---- depths

one_more-above : (f : ℕ → ℕ) (xs : List ℕ) (x : ℕ) → is_in xs x ≡ true → f x < one_more (map f xs)
one_more-above f [] x e = absurd (false≢true e)
one_more-above f (y ∷ ys) x e =
    elim (in-cases y ys x e) [
      | inl here ↦ let same : f y ≡ f x = ap f here in omega (arith, same)
      | inr there ↦ omega (arith, one_more-above f ys x there)
    ]

one_more-within : (f : ℕ → ℕ) (xs : List ℕ) (most : ℕ) → ((x : ℕ) → is_in xs x ≡ true → f x < most) → one_more (map f xs) ≤ most
one_more-within f [] most less = omega arith
one_more-within f (y ∷ ys) most less = omega (arith, less y (in-first y ys y refl), one_more-within f ys most (λ x there. less x (in-rest y ys x there)))

-- the depth that so many steps hand down
abbrev depth_in : Graph → ℕ → ℕ → ℕ
depth_in graph = handed_in (λ number depths. one_more depths) 0 graph

shallow : (graph : Graph) (links node : ℕ) → ends graph links node ≡ true → depth_in graph links node < links
unfolding ends handed_in
shallow graph zero node e = absurd (false≢true e)
shallow graph (suc links) node e =
    omega (
      arith,
      one_more-within (depth_in graph links) (nodes_above graph node) links
          (λ upper there. shallow graph links upper (all-pass (ends graph links) (nodes_above graph node) upper e there)),
    )

pub depths-are_small : DepthsAreSmall
depths-are_small graph acyclic node less = shallow graph (length graph) node (all-end graph acyclic node less)

pub links-lead_deeper : LinksLeadDeeper
links-lead_deeper graph acyclic upper lower less link =
    let local : depth_of graph lower ≡ one_more (map (depth_of graph) (nodes_above graph lower)) = handed-local graph (λ number depths. one_more depths) 0 acyclic lower less in
    omega (arith, local, one_more-above (depth_of graph) (nodes_above graph lower) upper (below-above graph lower upper link))

-- ---- a rank that each link raises

risen : (graph : Graph) (rank : ℕ → ℕ) → ((upper lower : ℕ) → is_in (nodes_below graph upper) lower ≡ true → rank upper < rank lower) → (links from to : ℕ) → has_way graph links from to ≡ true → rank from < rank to
unfolding has_way
risen graph rank rises zero from to e = absurd (false≢true e)
risen graph rank rises (suc links) from to e =
    let first : Begins graph links from to = begins graph links from to e in
    elim first.rest [
      | inl same ↦ let is : rank first.next ≡ rank to = ap rank same in omega (arith, is, rises from first.next first.link)
      | inr there ↦ omega (arith, rises from first.next first.link, risen graph rank rises links first.next to there)
    ]

pub ranked-acyclic : (graph : Graph) (rank : ℕ → ℕ) → ((upper lower : ℕ) → is_in (nodes_below graph upper) lower ≡ true → rank upper < rank lower) → IsAcyclic graph
ranked-acyclic graph rank rises node less =
    elim (cases_Bool (has_way graph (length graph) node node)) [
      | inl e ↦ absurd (omega (arith, risen graph rank rises (length graph) node node e))
      | inr e ↦ e
    ]
