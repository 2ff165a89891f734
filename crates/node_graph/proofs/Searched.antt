-- What is known while nodes are searched downwards.
use Rattle.std.proofs.Common.{◌≡◌, ◌≢◌, ◌<◌, ◌≤◌, ◌+◌, ◌-◌, ◌++◌, ℕ, zero, suc, Bool, true, false, cond, List, [], ◌∷◌, length, replicate, take, get_or, refl, sym, ◌∙◌, ap, subst, inl, inr, arith}
use Rattle.std.specs.Prelude.{◌⊎◌}
use Rattle.std.proofs.Math.ListN.{set, length-set}
use Rattle.std.proofs.lemmas.Bool.{cases_Bool, cases_eq, cases_lt, false_from_ne_true, false≢true, true≢false}
use Rattle.std.proofs.lemmas.List.{append-nil, get_or-set_same, get_or-set_other, length-append, take-append-le, take_more}
use Rattle.node_graph.specs.Graph.{Graph, has_way, is_in, is_on_cycle, nodes_below}
use Rattle.node_graph.specs.Order.{repeats}
use Rattle.node_graph.specs.Search.{HasFound, IsSearch, NotesFound, PassesNode, PassesSome}
use Rattle.node_graph.specs.declared.cycle.Search.{Search}
use Rattle.node_graph.proofs.Levels.{in-append, in-back, in-front}
use Rattle.node_graph.proofs.Members.{few-differ, in-cases, in-first, in-rest}
use Rattle.node_graph.proofs.Uppers.{in-longer, in-more-other, in-more-same}
use Rattle.node_graph.proofs.Visited.{get-any, get-front, get-seam, in-place, once-more, taken-whole}
use Rattle.node_graph.proofs.Ways.{Begins, begins, link-way, way-more, way-within}

-- a node to which there is a way comes to the end of the queue, where it wasn't found before
found-more : (graph : Graph) (start node : ℕ) (passed : List ℕ) (found : List Bool) (queue : List ℕ) → HasFound graph start passed found queue → node < length graph
    → has_way graph (length queue + 1) start node ≡ true → get_or found node false ≡ false → HasFound graph start passed (set found node true) (queue ++ node ∷ [])
found-more graph start node passed found queue is less way new = record {
  long = length-set found node true ∙ is.long;
  marks = λ other inside. elim (cases_eq node other) [
    | inl same ↦
        subst (λ (k : ℕ). get_or (set found node true) k false ≡ is_in (queue ++ node ∷ []) k) same
        (get_or-set_same found node true false (omega (arith, less, is.long)) ∙ sym (in-back queue (node ∷ []) node (in-first node [] node refl)))
    | inr differ ↦
        get_or-set_other found node other true false (λ e. differ (sym e)) ∙ is.marks other inside ∙ sym (front-only other differ (cases_Bool (is_in queue other)))
  ];
  known = λ other there. elim (in-append queue (node ∷ []) other there) [
    | inl before ↦ is.known other before
    | inr last ↦ elim (in-cases node [] other last) [ inl same ↦ omega (arith, less, same) | inr none ↦ absurd (false≢true none) ]
  ];
  once = once-more queue node is.once (sym (is.marks node less) ∙ new);
  ways = λ place inside. elim (cases_lt place (length queue)) [
    | inl before ↦ subst (λ (k : ℕ). has_way graph (place + 1) start k ≡ true) (sym (get-front queue (node ∷ []) place before)) (is.ways place before)
    | inr last ↦
        let at : place ≡ length queue = omega (arith, last, inside, length-append queue (node ∷ [])) in
        subst (λ (k : ℕ). has_way graph (k + 1) start (get_or (queue ++ node ∷ []) k 0) ≡ true) (sym at)
        (subst (λ (k : ℕ). has_way graph (length queue + 1) start k ≡ true) (sym (get-seam queue node)) way)
  ];
  closed = λ upper lower there link. in-front queue (node ∷ []) lower (is.closed upper lower there link);
}
  where
    front-only : (other : ℕ) → node ≢ other → (is_in queue other ≡ true) ⊎ (is_in queue other ≡ false) → is_in (queue ++ node ∷ []) other ≡ is_in queue other
    front-only other differ (inl e) = in-front queue (node ∷ []) other e ∙ sym e
    front-only other differ (inr e) =
        false_from_ne_true (is_in (queue ++ node ∷ []) other) (λ there. elim (in-append queue (node ∷ []) other there) [
          | inl before ↦ true≢false (sym before ∙ e)
          | inr last ↦ elim (in-cases node [] other last) [ inl same ↦ differ same | inr none ↦ false≢true none ]
        ])
        ∙ sym e

-- and where it was found before, nothing changes
pub search-more : (graph : Graph) (start node : ℕ) (passed : List ℕ) (found : List Bool) (queue : List ℕ) → HasFound graph start passed found queue → node < length graph
    → has_way graph (length queue + 1) start node ≡ true
    → HasFound graph start passed (set found node true) (queue ++ (cond (get_or found node false) [] (node ∷ [])))
search-more graph start node passed found queue is less way = by (cases_Bool (get_or found node false))
  where
    by : (get_or found node false ≡ true) ⊎ (get_or found node false ≡ false) → HasFound graph start passed (set found node true) (queue ++ (cond (get_or found node false) [] (node ∷ [])))
    by (inl old) =
        subst (λ (list : List ℕ). HasFound graph start passed (set found node true) list) (sym (append-nil queue) ∙ ap (λ (b : Bool). queue ++ (cond b [] (node ∷ []))) (sym old)) (record {
          long = length-set found node true ∙ is.long;
          marks = λ other inside. elim (cases_eq node other) [
            | inl same ↦
                subst (λ (k : ℕ). get_or (set found node true) k false ≡ is_in queue k) same
                (get_or-set_same found node true false (omega (arith, less, is.long)) ∙ sym old ∙ is.marks node less)
            | inr differ ↦ get_or-set_other found node other true false (λ e. differ (sym e)) ∙ is.marks other inside
          ];
          known = is.known;
          once = is.once;
          ways = is.ways;
          closed = is.closed;
        })
    by (inr new) =
        subst (λ (list : List ℕ). HasFound graph start passed (set found node true) list) (ap (λ (b : Bool). queue ++ (cond b [] (node ∷ []))) (sym new))
        (found-more graph start node passed found queue is less way new)

-- a node that is passed now
pub search-passed : (graph : Graph) (start upper : ℕ) (passed : List ℕ) (found : List Bool) (queue : List ℕ) → HasFound graph start passed found queue
    → ((lower : ℕ) → is_in (nodes_below graph upper) lower ≡ true → is_in queue lower ≡ true) → HasFound graph start (upper ∷ passed) found queue
search-passed graph start upper passed found queue is all = record {
  long = is.long;
  marks = is.marks;
  known = is.known;
  once = is.once;
  ways = is.ways;
  closed = λ other lower there link. elim (in-cases upper passed other there) [
    | inl same ↦ all lower (subst (λ (k : ℕ). is_in (nodes_below graph k) lower ≡ true) (sym same) link)
    | inr before ↦ is.closed other lower before link
  ];
}

-- a way from a node that is passed leads to a node that is found, where all that are found are passed
pub ways-found : (graph : Graph) (start : ℕ) (passed : List ℕ) (found : List Bool) (queue : List ℕ) → HasFound graph start passed found queue
    → ((node : ℕ) → is_in queue node ≡ true → is_in passed node ≡ true) → (links from to : ℕ) → is_in passed from ≡ true → has_way graph links from to ≡ true → is_in queue to ≡ true
unfolding has_way
ways-found graph start passed found queue is whole zero from to there way = absurd (false≢true way)
ways-found graph start passed found queue is whole (suc links) from to there way =
    let first : Begins graph links from to = begins graph links from to way in
    let next : is_in queue first.next ≡ true = is.closed from first.next there first.link in
    elim first.rest [
      | inl same ↦ ap (is_in queue) (sym same) ∙ next
      | inr rest ↦ ways-found graph start passed found queue is whole links first.next to (whole first.next next) rest
    ]

-- so that the start is found exactly where it stands on a cycle
pub found-cycle : (graph : Graph) (start : ℕ) (passed : List ℕ) (found : List Bool) (queue : List ℕ) → HasFound graph start passed found queue → start < length graph
    → is_in passed start ≡ true → ((node : ℕ) → is_in queue node ≡ true → is_in passed node ≡ true) → get_or found start false ≡ is_on_cycle graph start
found-cycle graph start passed found queue is less began whole = is.marks start less ∙ by (cases_Bool (is_in queue start))
  where
    by : (is_in queue start ≡ true) ⊎ (is_in queue start ≡ false) → is_in queue start ≡ is_on_cycle graph start
    by (inl e) =
        let few : length queue ≤ length graph = few-differ (length graph) queue is.known is.once in
        let at = in-place queue start e in
        let way : has_way graph (at.0 + 1) start start ≡ true = subst (λ (k : ℕ). has_way graph (at.0 + 1) start k ≡ true) at.2 (is.ways at.0 at.1) in
        e ∙ sym (way-within graph (at.0 + 1) (length graph - (at.0 + 1)) (length graph) start start (omega (arith, few, at.1)) way)
    by (inr e) = e ∙ sym (false_from_ne_true (is_on_cycle graph start) (λ way. true≢false (sym (ways-found graph start passed found queue is whole (length graph) start start began way) ∙ e)))

-- ---- the nodes below one, one after the other

pub some-begin : (graph : Graph) (search : Search) → PassesSome graph [] search search
some-begin graph search = record {
  start = refl;
  long = refl;
  grown = omega arith;
  front = λ count within. refl;
  found = λ passed is ways. (is, λ lower there. absurd (false≢true there));
}

grown-by : (xs ys : List ℕ) → length xs ≤ length (xs ++ ys)
grown-by xs ys = omega (arith, length-append xs ys)

noted-there : (found : List Bool) (queue : List ℕ) (node : ℕ) → get_or found node false ≡ is_in queue node → is_in (queue ++ (cond (get_or found node false) [] (node ∷ []))) node ≡ true
noted-there found queue node mark = by (cases_Bool (get_or found node false))
  where
    by : (get_or found node false ≡ true) ⊎ (get_or found node false ≡ false) → is_in (queue ++ (cond (get_or found node false) [] (node ∷ []))) node ≡ true
    by (inl e) = in-front queue (cond (get_or found node false) [] (node ∷ [])) node (sym mark ∙ e)
    by (inr e) = ap (λ (b : Bool). is_in (queue ++ (cond b [] (node ∷ []))) node) e ∙ in-back queue (node ∷ []) node (in-first node [] node refl)

pub some-more : (graph : Graph) (lowers : List ℕ) (i : ℕ) (before now after : Search) → i < length lowers → PassesSome graph (take i lowers) before now → NotesFound (get_or lowers i 0) now after
    → PassesSome graph (take (i + 1) lowers) before after
some-more graph lowers i before now after less is notes = record {
  start = notes.start ∙ is.start;
  long = ap length notes.found ∙ length-set now.found.items x true ∙ is.long;
  grown = omega (arith, is.grown, ap length notes.queue, grown-by now.queue.items more);
  front = λ count within.
      ap (take count) notes.queue ∙ take-append-le count now.queue.items more (omega (arith, within, is.grown)) ∙ is.front count within;
  found = λ passed was ways.
      let earlier = is.found passed was (λ lower there. ways lower (in-longer lowers i lower less there)) in
      let here = ways x (in-more-same lowers i x less refl) in
      let way : has_way graph (length now.queue.items + 1) before.start x ≡ true =
      way-within graph (length before.queue.items + 1) (length now.queue.items - length before.queue.items) (length now.queue.items + 1) before.start x (omega (arith, is.grown)) here.1 in
      let after_found = search-more graph before.start x passed now.found.items now.queue.items earlier.0 here.0 way in (
        subst (λ (found : List Bool). HasFound graph before.start passed found after.queue.items) (sym notes.found)
            (subst (λ (queue : List ℕ). HasFound graph before.start passed (set now.found.items x true) queue) (sym notes.queue) after_found),
        λ lower there. ap (λ (queue : List ℕ). is_in queue lower) notes.queue ∙ elim (cases_eq x lower) [
          | inl same ↦ subst (λ (k : ℕ). is_in (now.queue.items ++ more) k ≡ true) same (noted-there now.found.items now.queue.items x (earlier.0.marks x here.0))
          | inr other ↦ in-front now.queue.items more lower (earlier.1 lower (sym (in-more-other lowers i lower less other) ∙ there))
        ],
      );
}
  where
    x : ℕ
    x = get_or lowers i 0

    more : List ℕ
    more = cond (get_or now.found.items (get_or lowers i 0) false) [] (get_or lowers i 0 ∷ [])

pub some-done : (graph : Graph) (node : ℕ) (lowers : List ℕ) (before after : Search) → lowers ≡ nodes_below graph node → ((lower : ℕ) → is_in lowers lower ≡ true → lower < length graph)
    → PassesSome graph lowers before after → PassesNode graph node before after
some-done graph node lowers before after same known is = record {
  start = is.start;
  front = is.front;
  found = λ passed was ways.
      let all = is.found passed was (λ lower there. (known lower there, ways lower (subst (λ (list : List ℕ). is_in list lower ≡ true) same there))) in
      search-passed graph before.start node passed after.found.items after.queue.items all.0 (λ lower there. all.1 lower (subst (λ (list : List ℕ). is_in list lower ≡ true) (sym same) there));
}

-- ---- a search, node by node

passed-as : (graph : Graph) (start : ℕ) (passed other : List ℕ) (found : List Bool) (queue : List ℕ) → HasFound graph start passed found queue
    → ((x : ℕ) → is_in other x ≡ true → is_in passed x ≡ true) → HasFound graph start other found queue
passed-as graph start passed other found queue is all = record {
  long = is.long;
  marks = is.marks;
  known = is.known;
  once = is.once;
  ways = is.ways;
  closed = λ upper lower there link. is.closed upper lower (all upper there) link;
}

get-replicate : (n i : ℕ) → get_or (replicate {A = Bool} n false) i false ≡ false
get-replicate zero i = refl
get-replicate (suc n) zero = refl
get-replicate (suc n) (suc i) = get-replicate n i

length-replicated : (n : ℕ) → length (replicate {A = Bool} n false) ≡ n
length-replicated zero = refl
length-replicated (suc n) = ap suc (length-replicated n)

pub search-begin : (graph : Graph) (start : ℕ) (found : List Bool) (queue : List ℕ) → found ≡ replicate (length graph) false → queue ≡ [] → HasFound graph start [] found queue
unfolding repeats
search-begin graph start found queue marks empty =
    subst (λ (list : List Bool). HasFound graph start [] list queue) (sym marks)
    (subst (λ (list : List ℕ). HasFound graph start [] (replicate (length graph) false) list) (sym empty) (record {
      long = length-replicated (length graph);
      marks = λ node less. get-replicate (length graph) node;
      known = λ node there. absurd (false≢true there);
      once = refl;
      ways = λ place less. absurd (omega (arith, less));
      closed = λ upper lower there link. absurd (false≢true there);
    }))

-- the start is passed
pub search-started : (graph : Graph) (before after : Search) → HasFound graph before.start [] before.found.items before.queue.items → before.queue.items ≡ [] → PassesNode graph before.start before after
    → IsSearch graph 0 after
search-started graph before after is empty passes =
    subst (λ (start : ℕ). HasFound graph start (start ∷ []) after.found.items after.queue.items) (sym passes.start)
    (passes.found [] is (λ lower link. subst (λ (list : List ℕ). has_way graph (length list + 1) before.start lower ≡ true) (sym empty) (link-way graph 0 before.start lower link)))

-- and then the node at a place of the queue
pub search-next : (graph : Graph) (place node : ℕ) (before after : Search) → IsSearch graph place before → place < length before.queue.items → node ≡ get_or before.queue.items place node
    → PassesNode graph node before after → IsSearch graph (place + 1) after
search-next graph place node before after is less at passes =
    let here : node ≡ get_or before.queue.items place 0 = at ∙ get-any before.queue.items place node less in
    let way : has_way graph (place + 1) before.start node ≡ true = subst (λ (k : ℕ). has_way graph (place + 1) before.start k ≡ true) (sym here) (is.ways place less) in
    let more = passes.found (before.start ∷ take place before.queue.items) is
    (λ lower link.
    let longer : has_way graph (suc (place + 1)) before.start lower ≡ true = way-more graph (place + 1) before.start node lower way link in
    way-within graph (suc (place + 1)) (length before.queue.items - (place + 1)) (length before.queue.items + 1) before.start lower (omega (arith, less)) longer) in
    let taken : take (place + 1) after.queue.items ≡ take place before.queue.items ++ node ∷ [] =
    passes.front (place + 1) (omega (arith, less)) ∙ take_more before.queue.items place 0 less ∙ ap (λ (k : ℕ). take place before.queue.items ++ k ∷ []) (sym here) in
    subst (λ (start : ℕ). HasFound graph start (start ∷ take (place + 1) after.queue.items) after.found.items after.queue.items) (sym passes.start)
    (passed-as graph before.start (node ∷ before.start ∷ take place before.queue.items) (before.start ∷ take (place + 1) after.queue.items) after.found.items after.queue.items more
    (λ x there. elim (in-cases before.start (take (place + 1) after.queue.items) x there) [
      | inl same ↦ in-rest node (before.start ∷ take place before.queue.items) x (in-first before.start (take place before.queue.items) x same)
      | inr later ↦ elim (in-append (take place before.queue.items) (node ∷ []) x (ap (λ (list : List ℕ). is_in list x) (sym taken) ∙ later)) [
        | inl earlier ↦ in-rest node (before.start ∷ take place before.queue.items) x (in-rest before.start (take place before.queue.items) x earlier)
        | inr last ↦ elim (in-cases node [] x last) [ inl same ↦ in-first node (before.start ∷ take place before.queue.items) x same | inr none ↦ absurd (false≢true none) ]
      ]
    ]))

-- past the end of the queue nothing changes
pub search-over : (graph : Graph) (place : ℕ) (search : Search) → length search.queue.items ≤ place → IsSearch graph place search → IsSearch graph (place + 1) search
search-over graph place search past is =
    subst (λ (list : List ℕ). HasFound graph search.start (search.start ∷ list) search.found.items search.queue.items)
    (taken-whole place search.queue.items past ∙ sym (taken-whole (place + 1) search.queue.items (omega (arith, past)))) is

pub search-ended : (graph : Graph) (place : ℕ) (search : Search) → length graph ≤ place → search.start < length graph → IsSearch graph place search
    → get_or search.found.items search.start false ≡ is_on_cycle graph search.start
search-ended graph place search all less is =
    let few : length search.queue.items ≤ length graph = few-differ (length graph) search.queue.items is.known is.once in
    found-cycle graph search.start (search.start ∷ take place search.queue.items) search.found.items search.queue.items is less
    (in-first search.start (take place search.queue.items) search.start refl)
    (λ node there. in-rest search.start (take place search.queue.items) node
    (ap (λ (list : List ℕ). is_in list node) (taken-whole place search.queue.items (omega (arith, few, all))) ∙ there))

pub get-mark : (xs : List Bool) (i : ℕ) (d : Bool) → i < length xs → get_or xs i d ≡ get_or xs i false
get-mark [] i d less = absurd (omega (arith, less))
get-mark (x ∷ xs) zero d less = refl
get-mark (x ∷ xs) (suc i) d less = get-mark xs i d (omega (arith, less))
