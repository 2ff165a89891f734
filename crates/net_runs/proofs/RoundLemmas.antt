-- A run, round by round: each link is moved by its two nodes, and what no table changes stays.
use Rattle.std.proofs.Common.{◌≡◌, ◌<◌, ◌+◌, ℕ, zero, suc, List, [], ◌∷◌, length, map, get_or, Option, Some, None, refl, ◌∙◌, ap, arith}
use Rattle.std.specs.Option.{option_map, option_map_or}
use Rattle.std.specs.Prelude.{slice_get}
use Rattle.axi_link.specs.LinkView.{LinkView, empty_link}
use Rattle.axi_link.specs.LinkWords.{link_of}
use Rattle.axi_link.specs.Moves.{link_after}
use Rattle.node_shape.specs.KindHolds.{KindHolds}
use Rattle.net_model.specs.Network.{Network, after_commit, after_decide, after_rounds, lower_node, moves_at, net_link, node_next, queue_moved, upper_node}
use Rattle.net_model.specs.Wired.{lowers_at, uppers_at}
use Rattle.net_model.specs.declared.net_link.NetLink.{NetLink}
use Rattle.net_runs.specs.Run.{LinksRun, nodes_after, queues_after}
use Rattle.node_core.specs.Acted.{Acted}
use Rattle.node_shape.specs.Kind.{Kind}
use Rattle.plain_lists.specs.Numbered.{numbered}

numbered-length : {X : Type 0} (f : ℕ → X → X) (first : ℕ) (xs : List X) → length (numbered f first xs) ≡ length xs
numbered-length f first [] = refl
numbered-length f first (x ∷ xs) = ap suc (numbered-length f (first + 1) xs)

numbered-at : {X : Type 0} (f : ℕ → X → X) (first : ℕ) (xs : List X) (i : ℕ) (d : X) → i < length xs → get_or (numbered f first xs) i d ≡ f (first + i) (get_or xs i d)
numbered-at f first [] i d lt = absurd (omega (arith, lt))
numbered-at f first (x ∷ xs) zero d lt = let here : first ≡ first + 0 = omega arith in ap (λ n. f n x) here
numbered-at f first (x ∷ xs) (suc i) d lt =
    let index : (first + 1) + i ≡ first + suc i = omega arith in
    numbered-at f (first + 1) xs i d (omega (arith, lt)) ∙ ap (λ n. f n (get_or xs i d)) index

module _ {S E : Type 0} (kind : Kind S E) where
  -- what a round leaves
  nodes-next : (net : Network S) (round : ℕ) → (after_commit (after_decide kind round net)).nodes ≡ map (node_next kind round net.queues) net.nodes
  unfolding after_commit after_decide
  nodes-next net round = refl

  pub queues-next : (net : Network S) (round : ℕ) → (after_commit (after_decide kind round net)).queues ≡ numbered (queue_moved net.links (map (node_next kind round net.queues) net.nodes)) 0 net.queues
  unfolding after_commit after_decide
  queues-next net round = refl

  links-next : (net : Network S) (round : ℕ) → (after_commit (after_decide kind round net)).links ≡ net.links
  unfolding after_commit after_decide
  links-next net round = refl

  pub queue-moved : (net : Network S) (nodes : List (Acted S)) (number : ℕ) (queue : LinkView) →
      queue_moved net.links nodes number queue ≡ link_after number queue (moves_at nodes (upper_node net.links number)) (moves_at nodes (lower_node net.links number))
  unfolding queue_moved
  queue-moved net nodes number queue = refl

  module _ (net : Network S) where
    pub links-stay : (n : ℕ) → (after_rounds kind n net).links ≡ net.links
    links-stay zero = refl
    links-stay (suc n) = links-next (after_rounds kind n net) (suc n) ∙ links-stay n

    pub nodes-after : (n : ℕ) → nodes_after kind net (suc n) ≡ map (node_next kind (suc n) (queues_after kind net n)) (nodes_after kind net n)
    nodes-after n = nodes-next (after_rounds kind n net) (suc n)

    pub queues-long : (n : ℕ) → length (queues_after kind net n) ≡ length net.queues
    queues-long zero = refl
    queues-long (suc n) =
        ap length (queues-next (after_rounds kind n net) (suc n))
        ∙ numbered-length (queue_moved (after_rounds kind n net).links (map (node_next kind (suc n) (queues_after kind net n)) (nodes_after kind net n))) 0 (queues_after kind net n)
        ∙ queues-long n

    -- the node of a number, in the next round
    pub node-after : (n k : ℕ) → slice_get (nodes_after kind net (suc n)) k ≡ option_map (node_next kind (suc n) (queues_after kind net n)) (slice_get (nodes_after kind net n) k)
    node-after n k = ap (λ (nodes : List (Acted S)). slice_get nodes k) (nodes-after n) ∙ mapped (node_next kind (suc n) (queues_after kind net n)) (nodes_after kind net n) k
      where
        mapped : (f : Acted S → Acted S) (nodes : List (Acted S)) (k : ℕ) → slice_get (map f nodes) k ≡ option_map f (slice_get nodes k)
        mapped f [] k = refl
        mapped f (node ∷ nodes) zero = refl
        mapped f (node ∷ nodes) (suc k) = mapped f nodes k

  -- what stays of each state stays at each number
  module _ {X : Type 0} (of : S → X) (none : X) (stays : (round : ℕ) (queues : List LinkView) (s : S) → of (kind.table round queues s).state ≡ of s) where
    abbrev of_node : Acted S → X
    of_node node = of node.state

    stays-in : (round : ℕ) (queues : List LinkView) (o : Option (Acted S)) → option_map_or of_node (option_map (node_next kind round queues) o) none ≡ option_map_or of_node o none
    stays-in round queues None = refl
    stays-in round queues (Some node) = stays round queues node.state

    pub at-stays : (net : Network S) (n k : ℕ) → option_map_or of_node (slice_get (nodes_after kind net n) k) none ≡ option_map_or of_node (slice_get net.nodes k) none
    at-stays net zero k = refl
    at-stays net (suc n) k =
        ap (λ (o : Option (Acted S)). option_map_or of_node o none) (node-after net n k) ∙ stays-in (suc n) (queues_after kind net n) (slice_get (nodes_after kind net n) k)
        ∙ at-stays net n k

  module _ (holds : KindHolds kind) where
    pub uppers-stay : (net : Network S) (n k : ℕ) → uppers_at kind (nodes_after kind net n) k ≡ uppers_at kind net.nodes k
    uppers-stay net n k = at-stays kind.uppers [] (λ round queues s. (holds.steady round queues s).uppers) net n k

    pub lowers-stay : (net : Network S) (n k : ℕ) → lowers_at kind (nodes_after kind net n) k ≡ lowers_at kind net.nodes k
    lowers-stay net n k = at-stays kind.lowers [] (λ round queues s. (holds.steady round queues s).lowers) net n k

  pub links-run : LinksRun kind
  links-run net wired link known = record {
    depth = (net_link net.links link).depth;
    opens = wired.empty link known;
    moves = λ n.
        let nodes = map (node_next kind (suc n) (queues_after kind net n)) (nodes_after kind net n) in
        let here : link < length (queues_after kind net n) = omega (arith, known, queues-long net n, wired.long) in
        let same : 0 + link ≡ link = omega arith in
        ap (λ (queues : List LinkView). link_of queues link) (queues-next (after_rounds kind n net) (suc n))
        ∙ ap (λ (links : List NetLink). link_of (numbered (queue_moved links nodes) 0 (queues_after kind net n)) link) (links-stay net n)
        ∙ numbered-at (queue_moved net.links nodes) 0 (queues_after kind net n) link (empty_link 0) here
        ∙ ap (λ (k : ℕ). queue_moved net.links nodes k (link_of (queues_after kind net n) link)) same
        ∙ queue-moved net nodes link (link_of (queues_after kind net n) link);
  }
