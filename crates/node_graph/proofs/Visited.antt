-- What is known while nodes are visited downwards.
use Rattle.std.proofs.Common.{◌≡◌, ◌≢◌, ◌<◌, ◌≤◌, ◌+◌, ◌-◌, ◌++◌, ◌==◌, ℕ, zero, suc, Bool, true, false, cond, not, List, [], ◌∷◌, length, take, get_or, refl, sym, ◌∙◌, ap, ap₂, subst, inl, inr, arith}
use Rattle.std.specs.Prelude.{◌⊎◌, filter}
use Rattle.std.proofs.Math.ListN.{set, length-set}
use Rattle.std.proofs.lemmas.Bool.{cases_Bool, cases_eq, cases_lt, eq-eqb, false≢true, ne_eqb, or_parts, true≢false}
use Rattle.std.proofs.lemmas.List.{append-nil, get_or-set_same, get_or-set_other, length-append, take-append-le, take_more}
use Rattle.node_graph.specs.Graph.{Graph, is_in, nodes_above, nodes_below, numbers}
use Rattle.node_graph.specs.Order.{repeats}
use Rattle.node_graph.specs.Visits.{IsPassingOn, IsQueue, unvisited_above}
use Rattle.node_graph.proofs.Levels.{in-append, in-front, in-back, repeats-append}
use Rattle.node_graph.proofs.Members.{filter-in, in-cases, in-first, in-rest, repeats-filter, repeats-range}
use Rattle.node_graph.proofs.Uppers.{get-in, in-more-other, in-more-same, once-before}
use Rattle.node_graph.proofs.Ways.{above-below, below-above}

-- ---- tests that agree

same-test : (a b : Bool) → (a ≡ true → b ≡ true) → (b ≡ true → a ≡ true) → a ≡ b
same-test true b f g = sym (f refl)
same-test false true f g = g refl
same-test false false f g = refl

-- ---- lists of numbers

-- a list with a number isn't empty, and one of length 1 has one number alone
pub in-some : (xs : List ℕ) (x : ℕ) → is_in xs x ≡ true → 0 < length xs
in-some [] x e = absurd (false≢true e)
in-some (y ∷ ys) x e = omega arith

one-alone : (xs : List ℕ) (x y : ℕ) → length xs ≡ 1 → is_in xs x ≡ true → is_in xs y ≡ true → x ≡ y
one-alone [] x y one e f = absurd (false≢true e)
one-alone (z ∷ []) x y one e f = sym (only (in-cases z [] x e)) ∙ only (in-cases z [] y f)
  where
    only : {w : ℕ} → (z ≡ w) ⊎ (is_in [] w ≡ true) → z ≡ w
    only (inl here) = here
    only (inr there) = absurd (false≢true there)
one-alone (z ∷ u ∷ us) x y one e f = absurd (omega (arith, one))

in-take : (n : ℕ) (xs : List ℕ) (x : ℕ) → is_in (take n xs) x ≡ true → is_in xs x ≡ true
in-take zero xs x e = absurd (false≢true e)
in-take (suc n) [] x e = e
in-take (suc n) (y ∷ ys) x e = elim (in-cases y (take n ys) x e) [ inl here ↦ in-first y ys x here | inr there ↦ in-rest y ys x (in-take n ys x there) ]

pub get-front : (xs ys : List ℕ) (i : ℕ) → i < length xs → get_or (xs ++ ys) i 0 ≡ get_or xs i 0
get-front [] ys i less = absurd (omega (arith, less))
get-front (x ∷ xs) ys zero less = refl
get-front (x ∷ xs) ys (suc i) less = get-front xs ys i (omega (arith, less))

pub get-seam : (xs : List ℕ) (y : ℕ) → get_or (xs ++ y ∷ []) (length xs) 0 ≡ y
get-seam [] y = refl
get-seam (x ∷ xs) y = get-seam xs y

take-seam : (xs ys : List ℕ) → take (length xs) (xs ++ ys) ≡ xs
take-seam [] ys = refl
take-seam (x ∷ xs) ys = ap (λ (zs : List ℕ). x ∷ zs) (take-seam xs ys)

-- the place of a number that is in a list
pub in-place : (xs : List ℕ) (x : ℕ) → is_in xs x ≡ true → (i : ℕ) × (i < length xs) × (get_or xs i 0 ≡ x)
in-place [] x e = absurd (false≢true e)
in-place (y ∷ ys) x e = elim (in-cases y ys x e) [
  | inl here ↦ (0, omega arith, here)
  | inr there ↦ let more : (i : ℕ) × (i < length ys) × (get_or ys i 0 ≡ x) = in-place ys x there in (suc more.0, omega (arith, more.1), more.2)
]

-- one more number visited, which wasn't visited before
kept-length : (b : Bool) (x : ℕ) (xs : List ℕ) → length (cond b (x ∷ xs) xs) ≡ (cond b 1 0) + length xs
kept-length true x xs = omega arith
kept-length false x xs = omega arith

step-same : (p q m n : Bool) (x : ℕ) (ps qs : List ℕ) → p ≡ true → q ≡ false → m ≡ true → n ≡ false → length ps ≡ length qs + (cond n 1 0)
    → length (cond p (x ∷ ps) ps) ≡ length (cond q (x ∷ qs) qs) + (cond m 1 0)
step-same p q m n x ps qs ep eq em en rest = let more = rw en at rest in rw (ep, eq, em) (omega (arith, more))

step-other : (p q m n : Bool) (x : ℕ) (ps qs : List ℕ) → p ≡ q → m ≡ n → length ps ≡ length qs + (cond n 1 0)
    → length (cond p (x ∷ ps) ps) ≡ length (cond q (x ∷ qs) qs) + (cond m 1 0)
step-other p q m n x ps qs ep em rest = rw (ep, em) (omega (arith, kept-length q x ps, kept-length q x qs, rest))

one-less : (xs visited : List ℕ) (v : ℕ) → repeats xs ≡ false → is_in visited v ≡ false →
    length (filter (λ x. not (is_in visited x)) xs) ≡ length (filter (λ x. not (is_in (visited ++ v ∷ []) x)) xs) + (cond (is_in xs v) 1 0)
unfolding repeats
one-less [] visited v once new = refl
one-less (x ∷ xs) visited v once new =
    let parts : (is_in xs x ≡ false) × (repeats xs ≡ false) = or_parts (is_in xs x) (repeats xs) once in
    let rest : length (filter (λ x. not (is_in visited x)) xs) ≡ length (filter (λ x. not (is_in (visited ++ v ∷ []) x)) xs) + (cond (is_in xs v) 1 0) = one-less xs visited v parts.1 new in
    elim (cases_eq x v) [
      | inl same ↦
          step-same (not (is_in visited x)) (not (is_in (visited ++ v ∷ []) x)) (is_in (x ∷ xs) v) (is_in xs v) x
          (filter (λ x. not (is_in visited x)) xs) (filter (λ x. not (is_in (visited ++ v ∷ []) x)) xs)
          (ap (λ (k : ℕ). not (is_in visited k)) same ∙ ap not new)
          (ap not (in-back visited (v ∷ []) x (in-first v [] x (sym same))))
          (in-first x xs v same)
          (ap (is_in xs) (sym same) ∙ parts.0)
          rest
      | inr other ↦
          step-other (not (is_in visited x)) (not (is_in (visited ++ v ∷ []) x)) (is_in (x ∷ xs) v) (is_in xs v) x
          (filter (λ x. not (is_in visited x)) xs) (filter (λ x. not (is_in (visited ++ v ∷ []) x)) xs)
          (ap not (same-test (is_in visited x) (is_in (visited ++ v ∷ []) x) (in-front visited (v ∷ []) x) (λ e. elim (in-append visited (v ∷ []) x e) [
            | inl there ↦ there
            | inr there ↦ elim (in-cases v [] x there) [ inl here ↦ absurd (other (sym here)) | inr none ↦ absurd (false≢true none) ]
          ])))
          (same-test (is_in (x ∷ xs) v) (is_in xs v) (λ e. elim (in-cases x xs v e) [ inl here ↦ absurd (other here) | inr there ↦ there ]) (in-rest x xs v))
          rest
    ]

-- ---- a step

-- one more number at the end of a list of which none repeats
pub once-more : (xs : List ℕ) (x : ℕ) → repeats xs ≡ false → is_in xs x ≡ false → repeats (xs ++ x ∷ []) ≡ false
unfolding repeats
once-more xs x once new = repeats-append xs (x ∷ []) once refl (λ y there here. elim (in-cases x [] y here) [
  | inl same ↦ true≢false (sym there ∙ ap (is_in xs) (sym same) ∙ new)
  | inr none ↦ false≢true none
])

-- a node that may be visited, since all nodes above it are in the queue, comes to its end
pub queue-more : (graph : Graph) (queue : List ℕ) (node : ℕ) → IsQueue graph queue → node < length graph → is_in queue node ≡ false
    → ((upper : ℕ) → is_in (nodes_above graph node) upper ≡ true → is_in queue upper ≡ true) → IsQueue graph (queue ++ node ∷ [])
queue-more graph queue node is less new above = record {
  known = λ other there. elim (in-append queue (node ∷ []) other there) [
    | inl before ↦ is.known other before
    | inr last ↦ elim (in-cases node [] other last) [ inl same ↦ omega (arith, less, same) | inr none ↦ absurd (false≢true none) ]
  ];
  once = once-more queue node is.once new;
  down = λ place upper inside there. elim (cases_lt place (length queue)) [
    | inl before ↦
        ap (λ (list : List ℕ). is_in list upper) (take-append-le place queue (node ∷ []) (omega (arith, before)))
        ∙ is.down place upper before (subst (λ (k : ℕ). is_in (nodes_above graph k) upper ≡ true) (get-front queue (node ∷ []) place before) there)
    | inr last ↦
        let at : place ≡ length queue = omega (arith, last, inside, length-append queue (node ∷ [])) in
        ap (λ (list : List ℕ). is_in list upper) (ap (λ (k : ℕ). take k (queue ++ node ∷ [])) at ∙ take-seam queue (node ∷ []))
        ∙ above upper (subst (λ (k : ℕ). is_in (nodes_above graph k) upper ≡ true) (ap (λ (k : ℕ). get_or (queue ++ node ∷ []) k 0) at ∙ get-seam queue node) there)
  ];
}

-- what waits for a node that is visited now
module _ (graph : Graph) (visited lowers : List ℕ) (v : ℕ) (is : lowers ≡ nodes_below graph v) (once : repeats lowers ≡ false) (new : is_in visited v ≡ false) where
  waits-in : (node : ℕ) → is_in lowers node ≡ true → is_in (unvisited_above graph visited node) v ≡ true
  waits-in node e =
      filter-in (λ upper. not (is_in visited upper)) (nodes_above graph node) v
      (below-above graph node v (subst (λ (list : List ℕ). is_in list node ≡ true) is e)) (ap not new)

  above-once : (node : ℕ) → repeats (nodes_above graph node) ≡ false
  unfolding numbers
  above-once node = repeats-filter (λ other. is_in (nodes_below graph other) node) (numbers (length graph)) (repeats-range 0 (length graph))

  pub waits : (i : ℕ) (waiting queue : List ℕ) → i < length lowers → get_or lowers i 0 < length graph → IsPassingOn graph visited (take i lowers) waiting queue
      → get_or waiting (get_or lowers i 0) 0 ≡ length (unvisited_above graph visited (get_or lowers i 0))
  waits i waiting queue less known passing =
      let none : is_in (take i lowers) (get_or lowers i 0) ≡ false = once-before lowers i less once in
      let count = passing.counts (get_or lowers i 0) known in
      omega (arith, rw none at count)

  pub waits-some : (i : ℕ) (waiting queue : List ℕ) → i < length lowers → get_or lowers i 0 < length graph → IsPassingOn graph visited (take i lowers) waiting queue
      → 0 < get_or waiting (get_or lowers i 0) 0
  waits-some i waiting queue less known passing =
      omega (arith, waits i waiting queue less known passing, in-some (unvisited_above graph visited (get_or lowers i 0)) v (waits-in (get_or lowers i 0) (get-in lowers i less)))

  -- one more of the nodes below it waits for one less
  pub passing-more : (i : ℕ) (waiting queue : List ℕ) → i < length lowers → get_or lowers i 0 < length graph → IsPassingOn graph visited (take i lowers) waiting queue
      → is_in queue v ≡ true → ((x : ℕ) → is_in visited x ≡ true → is_in queue x ≡ true)
      → IsPassingOn graph visited (take (i + 1) lowers) (set waiting (get_or lowers i 0) (get_or waiting (get_or lowers i 0) 0 - 1))
      (queue ++ (cond (get_or waiting (get_or lowers i 0) 0 == 1) (get_or lowers i 0 ∷ []) []))
  passing-more i waiting queue less known passing there front = record {
    long = length-set waiting x (w - 1) ∙ passing.long;
    counts = λ node inside. elim (cases_eq x node) [
      | inl same ↦ subst (λ (k : ℕ). get_or (set waiting x (w - 1)) k 0 + (cond (is_in (take (i + 1) lowers) k) 1 0) ≡ length (unvisited_above graph visited k)) same count-here
      | inr other ↦
          ap₂ (λ (k : ℕ) (b : Bool). k + (cond b 1 0)) (get_or-set_other waiting x node (w - 1) 0 (λ e. other (sym e))) (in-more-other lowers i node less other) ∙ passing.counts node inside
    ];
    ready = λ node inside. elim (cases_eq x node) [
      | inl same ↦ subst (λ (k : ℕ). is_in next k ≡ (get_or (set waiting x (w - 1)) k 0 == 0)) same (ready-here (cases_eq w 1))
      | inr other ↦ ready-other node inside other (w == 1)
    ];
    queued = queued-by (cases_eq w 1);
  }
    where
      x : ℕ
      x = get_or lowers i 0

      w : ℕ
      w = get_or waiting x 0

      next : List ℕ
      next = queue ++ (cond (w == 1) (x ∷ []) [])

      here : get_or (set waiting x (w - 1)) x 0 ≡ w - 1
      here = get_or-set_same waiting x (w - 1) 0 (omega (arith, known, passing.long))

      some : 0 < w
      some = waits-some i waiting queue less known passing

      count-here : get_or (set waiting x (w - 1)) x 0 + (cond (is_in (take (i + 1) lowers) x) 1 0) ≡ length (unvisited_above graph visited x)
      count-here = rw (in-more-same lowers i x less refl, here) (omega (arith, some, waits i waiting queue less known passing))

      absent : is_in queue x ≡ false
      absent = passing.ready x known ∙ ne_eqb w 0 (λ e. omega (arith, e, some))

      pushed : w ≡ 1 → next ≡ queue ++ x ∷ []
      pushed one = ap (λ (b : Bool). queue ++ (cond b (x ∷ []) [])) (eq-eqb w 1 one)

      kept : w ≢ 1 → next ≡ queue
      kept more = ap (λ (b : Bool). queue ++ (cond b (x ∷ []) [])) (ne_eqb w 1 more) ∙ append-nil queue

      ready-here : (w ≡ 1) ⊎ (w ≢ 1) → is_in next x ≡ (get_or (set waiting x (w - 1)) x 0 == 0)
      ready-here (inl one) =
          ap (λ (list : List ℕ). is_in list x) (pushed one) ∙ in-back queue (x ∷ []) x (in-first x [] x refl)
          ∙ sym (eq-eqb (get_or (set waiting x (w - 1)) x 0) 0 (omega (arith, here, one)))
      ready-here (inr more) =
          ap (λ (list : List ℕ). is_in list x) (kept more) ∙ absent ∙ sym (ne_eqb (get_or (set waiting x (w - 1)) x 0) 0 (λ e. more (omega (arith, here, e, some))))

      ready-other : (node : ℕ) → node < length graph → x ≢ node → (b : Bool) → is_in (queue ++ (cond b (x ∷ []) [])) node ≡ (get_or (set waiting x (w - 1)) node 0 == 0)
      ready-other node inside other b =
          same-test (is_in (queue ++ (cond b (x ∷ []) [])) node) (is_in queue node) (λ e. elim (in-append queue (cond b (x ∷ []) []) node e) [
            | inl before ↦ before
            | inr last ↦ absurd (not-last b last)
          ]) (in-front queue (cond b (x ∷ []) []) node)
          ∙ passing.ready node inside ∙ ap (λ (k : ℕ). k == 0) (sym (get_or-set_other waiting x node (w - 1) 0 (λ e. other (sym e))))
        where
          not-last : (b : Bool) → is_in (cond b (x ∷ []) []) node ≡ true → ⊥
          not-last true e = elim (in-cases x [] node e) [ inl same ↦ other same | inr none ↦ false≢true none ]
          not-last false e = false≢true e

      queued-by : (w ≡ 1) ⊎ (w ≢ 1) → IsQueue graph next
      queued-by (inl one) = subst (λ (list : List ℕ). IsQueue graph list) (sym (pushed one)) (queue-more graph queue x passing.queued known absent above)
        where
          above : (upper : ℕ) → is_in (nodes_above graph x) upper ≡ true → is_in queue upper ≡ true
          above upper e = elim (cases_Bool (is_in visited upper)) [
            | inl before ↦ front upper before
            | inr unseen ↦
                let alone : upper ≡ v = one-alone (unvisited_above graph visited x) upper v (omega (arith, one, waits i waiting queue less known passing))
                (filter-in (λ upper. not (is_in visited upper)) (nodes_above graph x) upper e (ap not unseen)) (waits-in x (get-in lowers i less)) in
                ap (is_in queue) alone ∙ there
          ]
      queued-by (inr more) = subst (λ (list : List ℕ). IsQueue graph list) (sym (kept more)) passing.queued

  -- when it has gone through all of them it is visited
  pub passing-done : (waiting queue : List ℕ) → IsPassingOn graph visited lowers waiting queue → IsPassingOn graph (visited ++ v ∷ []) [] waiting queue
  passing-done waiting queue passing = record {
    long = passing.long;
    counts = λ node inside.
        let less = one-less (nodes_above graph node) visited v (above-once node) new in
        let same : is_in (nodes_above graph node) v ≡ is_in lowers node =
        same-test (is_in (nodes_above graph node) v) (is_in lowers node)
        (λ e. subst (λ (list : List ℕ). is_in list node ≡ true) (sym is) (above-below graph node v e)) (λ e. below-above graph node v (subst (λ (list : List ℕ). is_in list node ≡ true) is e)) in
        omega (arith, passing.counts node inside, rw same at less);
    ready = passing.ready;
    queued = passing.queued;
  }

-- ---- a visit

pub get-any : (xs : List ℕ) (i d : ℕ) → i < length xs → get_or xs i d ≡ get_or xs i 0
get-any [] i d less = absurd (omega (arith, less))
get-any (x ∷ xs) zero d less = refl
get-any (x ∷ xs) (suc i) d less = get-any xs i d (omega (arith, less))

-- the node at a place of the queue
pub record IsNext (graph : Graph) (place : ℕ) (queue : List ℕ) (v : ℕ) : Type 0 where
  pub known : v < length graph
  pub there : is_in queue v ≡ true
  pub new : is_in (take place queue) v ≡ false
  pub taken : take (place + 1) queue ≡ take place queue ++ v ∷ []

pub is-next : (graph : Graph) (place : ℕ) (queue : List ℕ) (v : ℕ) → IsQueue graph queue → place < length queue → v ≡ get_or queue place v → IsNext graph place queue v
is-next graph place queue v is less at =
    let same : v ≡ get_or queue place 0 = at ∙ get-any queue place v less in
    let there : is_in queue v ≡ true = ap (is_in queue) same ∙ get-in queue place less in
    record {
      known = is.known v there;
      there = there;
      new = ap (is_in (take place queue)) same ∙ once-before queue place less is.once;
      taken = take_more queue place 0 less ∙ ap (λ (k : ℕ). take place queue ++ k ∷ []) (sym same);
    }

-- what stands at the front of a queue stands there when it has grown at its end
pub front-there : (place : ℕ) (before after visited : List ℕ) (v : ℕ) → take (place + 1) before ≡ visited ++ v ∷ [] → take (place + 1) after ≡ take (place + 1) before → is_in after v ≡ true
front-there place before after visited v taken same =
    in-take (place + 1) after v (ap (λ (list : List ℕ). is_in list v) (same ∙ taken) ∙ in-back visited (v ∷ []) v (in-first v [] v refl))

pub front-kept : (place : ℕ) (before after visited : List ℕ) (v x : ℕ) → take (place + 1) before ≡ visited ++ v ∷ [] → take (place + 1) after ≡ take (place + 1) before → is_in visited x ≡ true → is_in after x ≡ true
front-kept place before after visited v x taken same there =
    in-take (place + 1) after x (ap (λ (list : List ℕ). is_in list x) (same ∙ taken) ∙ in-front visited (v ∷ []) x there)

-- the front stays where more is added
pub front-more : (count : ℕ) (queue more before : List ℕ) → count ≤ length queue → take count queue ≡ take count before → take count (queue ++ more) ≡ take count before
front-more count queue more before within same = take-append-le count queue more within ∙ same

length-taken : (count : ℕ) (xs ys : List ℕ) → take count xs ≡ take count ys → count ≤ length ys → count ≤ length xs
length-taken zero xs ys same less = omega arith
length-taken (suc count) xs [] same less = absurd (omega (arith, less))
length-taken (suc count) [] (y ∷ ys) same less = absurd (omega (arith, ap length same))
length-taken (suc count) (x ∷ xs) (y ∷ ys) same less =
    let rest : take count xs ≡ take count ys = cc in
    omega (arith, length-taken count xs ys rest (omega (arith, less)))

pub front-within : (place : ℕ) (before after : List ℕ) → place < length before → take (place + 1) after ≡ take (place + 1) before → place + 1 ≤ length after
front-within place before after less same = length-taken (place + 1) after before same (omega (arith, less))

-- the whole of a list
pub taken-whole : (n : ℕ) (xs : List ℕ) → length xs ≤ n → take n xs ≡ xs
taken-whole zero [] within = refl
taken-whole zero (x ∷ xs) within = absurd (omega (arith, within))
taken-whole (suc n) [] within = refl
taken-whole (suc n) (x ∷ xs) within = ap (λ (ys : List ℕ). x ∷ ys) (taken-whole n xs (omega (arith, within)))
