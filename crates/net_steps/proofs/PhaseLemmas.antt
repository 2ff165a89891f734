-- The phases of a round, in the words of networks.
use Rattle.std.proofs.Common.{◌≡◌, ◌<◌, ◌+◌, ℕ, zero, suc, Bool, true, false, List, [], ◌∷◌, ◌++◌, ◌==◌, ◌&&◌, length, map, take, drop, get_or, Option, Some, refl, sym, ◌∙◌, ap, ap₂, subst, arith}
use Rattle.std.specs.Option.{option_map, option_map_or}
use Rattle.std.specs.List.{list_all}
use Rattle.std.specs.Prelude.{All, slice_get}
use Rattle.std.proofs.lemmas.Bool.{ne_eqb}
use Rattle.std.proofs.lemmas.List.{length-map}
use Rattle.std.proofs.lemmas.Option.{slice_get-get_or, slice_get-map}
use Rattle.axi_link.specs.LinkView.{LinkView, empty_link}
use Rattle.axi_link.specs.Moves.{link_after}
use Rattle.axi_link.specs.declared.out.Out.{Out}
use Rattle.net_kinds.proofs.DoLemmas.{nodes-do}
use Rattle.net_kinds.specs.NodeKind.{NodeState, node_kind, node_view}
use Rattle.net_kinds.specs.NodeTable.{CanNode, node_done, node_out, node_table}
use Rattle.net_kinds.specs.declared.node.Node.{Node}
use Rattle.net_model.specs.Network.{Network, after_commit, after_decide, moves_at, net_link, node_next, queue_moved}
use Rattle.net_model.specs.declared.net_link.NetLink.{NetLink}
use Rattle.net_steps.specs.Unfinished.{one_unless, unfinished_in}
use Rattle.node_core.specs.Acted.{Acted, no_moves}
use Rattle.plain_lists.specs.Numbered.{numbered}

-- a node that was looked up by its number
pub node-at : (nodes : List Node) (number : ℕ) (node d : Node) → number < length nodes → node ≡ get_or nodes number d → slice_get (map node_view nodes) number ≡ Some (node_view node)
node-at nodes number node d known is =
    slice_get-map node_view nodes number ∙ ap (option_map node_view) (slice_get-get_or nodes number d known) ∙ ap (λ (n : Node). Some (node_view n)) (sym is)

-- its moves
pub moves-at : (nodes : List Node) (number : ℕ) (node d : Node) → number < length (map node_view nodes) → node ≡ get_or nodes number d → moves_at (map node_view nodes) number ≡ node_out node
moves-at nodes number node d known is =
    let within : number < length nodes = subst (λ (n : ℕ). number < n) (length-map nodes node_view) known in
    ap (λ (o : Option (Acted NodeState)). option_map_or (λ (n : Acted NodeState). n.out) o no_moves) (node-at nodes number node d within is) ∙ (nodes-do 0 [] node).out

-- what a link's queue is after the moves of its two nodes
pub moved-by : (links : List NetLink) (nodes : List (Acted NodeState)) (number : ℕ) (queue : LinkView) (link : NetLink) (above below : Out) → net_link links number ≡ link →
    moves_at nodes link.upper ≡ above → moves_at nodes link.lower ≡ below → link_after number queue above below ≡ queue_moved links nodes number queue
unfolding queue_moved
moved-by links nodes number queue link above below is above_is below_is =
    ap₂ (λ (a b : Out). link_after number queue a b) (sym above_is ∙ ap (λ (l : NetLink). moves_at nodes l.upper) (sym is)) (sym below_is ∙ ap (λ (l : NetLink). moves_at nodes l.lower) (sym is))

-- each node may decide where its kind says so
pub nodes-can : (round : ℕ) (queues : List LinkView) (nodes : List Node) → All (λ (a : Acted NodeState). node_kind.can round queues a.state) (map node_view nodes) → All (CanNode round queues) nodes
nodes-can round queues nodes all = λ i d within.
    (nodes-do round queues (get_or nodes i d)).can
    (subst (λ (a : Acted NodeState). node_kind.can round queues a.state) (get_or-map nodes i d within) (all i (node_view d) (subst (λ (n : ℕ). i < n) (sym (length-mapped nodes)) within)))
  where
    length-mapped : (nodes : List Node) → length (map node_view nodes) ≡ length nodes
    length-mapped [] = refl
    length-mapped (node ∷ nodes) = ap suc (length-mapped nodes)

    get_or-map : (nodes : List Node) (i : ℕ) (d : Node) → i < length nodes → get_or (map node_view nodes) i (node_view d) ≡ node_view (get_or nodes i d)
    get_or-map [] i d within = absurd (omega (arith, within))
    get_or-map (node ∷ nodes) zero d within = refl
    get_or-map (node ∷ nodes) (suc i) d within = get_or-map nodes i d (omega (arith, within))

-- nodes that decided, as their kinds do
pub nodes-decided : (round : ℕ) (queues : List LinkView) (nodes : List Node) → map node_view (map (node_table round queues) nodes) ≡ map (node_next node_kind round queues) (map node_view nodes)
nodes-decided round queues [] = refl
nodes-decided round queues (node ∷ nodes) =
    ap₂ (λ (a : Acted NodeState) (rest : List (Acted NodeState)). a ∷ rest) (nodes-do round queues node).table (nodes-decided round queues nodes)

-- the network after phase one
pub network-decided : (net : Network NodeState) (round : ℕ) (nodes : List (Acted NodeState)) → nodes ≡ map (node_next node_kind round net.queues) net.nodes →
    record { nodes = nodes; links = net.links; queues = net.queues } ≡ after_decide node_kind round net
unfolding after_decide
network-decided net round nodes decided = ap (λ (ns : List (Acted NodeState)). record { nodes = ns; links = net.links; queues = net.queues }) decided

-- and after phase two
pub network-committed : (net : Network NodeState) (queues : List LinkView) → queues ≡ numbered (queue_moved net.links net.nodes) 0 net.queues →
    record { nodes = net.nodes; links = net.links; queues = queues } ≡ after_commit net
unfolding after_commit
network-committed net queues moved = ap (λ (qs : List LinkView). record { nodes = net.nodes; links = net.links; queues = qs }) moved

-- one node more is counted
pub unfinished-more : (f : Node → Node) (xs : List Node) (i : ℕ) (x d : Node) → i < length xs → x ≡ get_or xs i d →
    unfinished_in (map f (take (i + 1) xs)) ≡ unfinished_in (map f (take i xs)) + one_unless (node_done (f x))
unfinished-more f [] i x d within is = absurd (omega (arith, within))
unfinished-more f (y ∷ ys) zero x d within is = let same : one_unless (node_done (f y)) ≡ one_unless (node_done (f x)) = ap (λ (n : Node). one_unless (node_done (f n))) (sym is) in omega (arith, same)
unfinished-more f (y ∷ ys) (suc i) x d within is =
    let index : suc (i + 1) ≡ suc i + 1 = omega arith in
    let rest = unfinished-more f ys i x d (omega (arith, within)) is in
    subst (λ (n : ℕ). unfinished_in (map f (take n (y ∷ ys))) ≡ unfinished_in (map f (take (suc i) (y ∷ ys))) + one_unless (node_done (f x))) index (omega (arith, rest))

pub unfinished-few : (f : Node → Node) (i : ℕ) (xs : List Node) → unfinished_in (map f (take i xs)) < i + 1
unfinished-few f zero xs = omega arith
unfinished-few f (suc i) [] = omega arith
unfinished-few f (suc i) (y ∷ ys) =
    let rest = unfinished-few f i ys in
    let go : (b : Bool) → one_unless b + unfinished_in (map f (take i ys)) < suc i + 1 = elim [ true ↦ omega (arith, rest) | false ↦ omega (arith, rest) ] in
    go (node_done (f y))

pub one-small : (b : Bool) → one_unless b < 2
one-small true = omega arith
one-small false = omega arith

-- the node that comes next hasn't decided
pub next-is : (f : Node → Node) (xs ys : List Node) (i : ℕ) (d : Node) → i < length xs → ys ≡ map f (take i xs) ++ drop i xs → get_or ys i d ≡ get_or xs i d
next-is f xs ys i d within so_far = ap (λ (zs : List Node). get_or zs i d) so_far ∙ go xs i within
  where
    go : (xs : List Node) (i : ℕ) → i < length xs → get_or (map f (take i xs) ++ drop i xs) i d ≡ get_or xs i d
    go [] i within = absurd (omega (arith, within))
    go (x ∷ xs) zero within = refl
    go (x ∷ xs) (suc i) within = go xs i (omega (arith, within))

map-all : (f : Node → Node) (xs : List Node) (n : ℕ) → length xs ≡ n → map f (take n xs) ≡ map f xs
map-all f [] zero same = refl
map-all f [] (suc n) same = absurd (omega (arith, same))
map-all f (x ∷ xs) zero same = absurd (omega (arith, same))
map-all f (x ∷ xs) (suc n) same = ap (λ (ys : List Node). f x ∷ ys) (map-all f xs n (omega (arith, same)))

pub unfinished-all : (f : Node → Node) (xs : List Node) (n : ℕ) → length xs ≡ n → unfinished_in (map f (take n xs)) ≡ unfinished_in (map f xs)
unfinished-all f xs n same = ap unfinished_in (map-all f xs n same)

pub as-itself : (xs : List Node) → map (λ (x : Node). x) xs ≡ xs
as-itself [] = refl
as-itself (x ∷ xs) = ap (λ (ys : List Node). x ∷ ys) (as-itself xs)

none-more : (b : Bool) (n : ℕ) (all : Bool) → (n == 0) ≡ all → (one_unless b + n == 0) ≡ (b && all)
none-more true n all is = let plain : 0 + n ≡ n = omega arith in ap (λ (m : ℕ). m == 0) plain ∙ is
none-more false n all is = ne_eqb (1 + n) 0 (λ same. absurd (omega (arith, same)))

-- none waits for an answer where none is counted
pub none-unfinished : (nodes : List Node) → (unfinished_in nodes == 0) ≡ list_all (λ (a : Acted NodeState). node_kind.is_done a.state) (map node_view nodes)
none-unfinished [] = refl
none-unfinished (node ∷ nodes) =
    none-more (node_done node) (unfinished_in nodes) (list_all (λ (a : Acted NodeState). node_kind.is_done a.state) (map node_view nodes)) (none-unfinished nodes)
    ∙ ap (λ (b : Bool). b && list_all (λ (a : Acted NodeState). node_kind.is_done a.state) (map node_view nodes)) (sym (nodes-do 0 [] node).done)

-- one queue more
pub queue-more : (links : List NetLink) (i : ℕ) (link d : NetLink) → i < length links → link ≡ get_or links i d →
    map (λ (l : NetLink). empty_link l.depth) (take i links) ++ empty_link link.depth ∷ [] ≡ map (λ (l : NetLink). empty_link l.depth) (take (i + 1) links)
queue-more [] i link d within is = absurd (omega (arith, within))
queue-more (l ∷ links) zero link d within is = ap (λ (m : NetLink). empty_link m.depth ∷ []) is
queue-more (l ∷ links) (suc i) link d within is =
    let index : suc (i + 1) ≡ suc i + 1 = omega arith in
    ap (λ (qs : List LinkView). empty_link l.depth ∷ qs) (queue-more links i link d (omega (arith, within)) is)
    ∙ ap (λ (n : ℕ). map (λ (l : NetLink). empty_link l.depth) (take n (l ∷ links))) index

pub all-queues : (links : List NetLink) (n : ℕ) → length links ≡ n → map (λ (l : NetLink). empty_link l.depth) (take n links) ≡ map (λ (l : NetLink). empty_link l.depth) links
all-queues [] zero same = refl
all-queues [] (suc n) same = absurd (omega (arith, same))
all-queues (l ∷ links) zero same = absurd (omega (arith, same))
all-queues (l ∷ links) (suc n) same = ap (λ (qs : List LinkView). empty_link l.depth ∷ qs) (all-queues links n (omega (arith, same)))

-- what phase one leaves, in terms of what was lent to it
pub decided-by : (round : ℕ) (now lent nodes : List Node) (seen queues : List LinkView) → now ≡ map (node_table round seen) lent → seen ≡ queues → lent ≡ nodes → now ≡ map (node_table round queues) nodes
decided-by round now lent nodes seen queues decided queues_are nodes_are = decided ∙ ap₂ (λ (qs : List LinkView) (ns : List Node). map (node_table round qs) ns) queues_are nodes_are

-- and phase two
pub committed-by : (now lent queues : List LinkView) (seen_links links : List NetLink) (seen_nodes nodes : List Node) → now ≡ numbered (queue_moved seen_links (map node_view seen_nodes)) 0 lent →
    seen_links ≡ links → seen_nodes ≡ nodes → lent ≡ queues → now ≡ numbered (queue_moved links (map node_view nodes)) 0 queues
committed-by now lent queues seen_links links seen_nodes nodes moved links_are nodes_are queues_are =
    moved ∙ ap (λ (qs : List LinkView). numbered (queue_moved seen_links (map node_view seen_nodes)) 0 qs) queues_are
    ∙ ap₂ (λ (ls : List NetLink) (ns : List Node). numbered (queue_moved ls (map node_view ns)) 0 queues) links_are nodes_are
