-- The events of a run, node by node: those of a node are what it has noted.
use Rattle.std.proofs.Common.{◌≡◌, ◌≢◌, ◌<◌, ◌+◌, ◌∷◌, [], ◌++◌, ℕ, zero, suc, List, Option, Some, append-nil, refl, sym, ap, ap₂, ◌∙◌, subst, arith}
use Rattle.std.specs.Prelude.{All, map, slice_get}
use Rattle.std.specs.Option.{option_map_or}
use Rattle.std.proofs.lemmas.List.{map-append}
use Rattle.std.proofs.lemmas.List.Elements.{All-append, All-map, All-nil}
use Rattle.axi_history.specs.Records.{Event}
use Rattle.axi_link.specs.LinkView.{LinkView}
use Rattle.memory_node.specs.Events.{Access}
use Rattle.net_history.proofs.ShownLemmas.{access_of_event}
use Rattle.net_history.specs.History.{event_of, events_after, nodes_events}
use Rattle.net_kinds.specs.NodeKind.{NodeState, node_kind}
use Rattle.net_model.specs.Network.{Network}
use Rattle.net_runs.specs.Run.{nodes_after, noted_by, noted_in, queues_after}
use Rattle.node_core.specs.Acted.{Acted}
use Rattle.plain_lists.proofs.KeyLemmas.{of_key-append, of_key-cons, of_key-skip}
use Rattle.plain_lists.specs.Keys.{of_key}

abbrev pub node_of_event : Event → ℕ
node_of_event e = e.node

-- ---- the accesses of one node in a round

own-node : (round node : ℕ) (accesses : List Access) → of_key node_of_event node (map (event_of round node) accesses) ≡ map (event_of round node) accesses
own-node round node [] = refl
own-node round node (a ∷ accesses) =
    of_key-cons node_of_event node (event_of round node a) (map (event_of round node) accesses) refl ∙ ap (λ (rest : List Event). event_of round node a ∷ rest) (own-node round node accesses)

other-node : (round node other : ℕ) (accesses : List Access) → node ≢ other → of_key node_of_event other (map (event_of round node) accesses) ≡ []
other-node round node other [] apart = refl
other-node round node other (a ∷ accesses) apart =
    of_key-skip node_of_event other (event_of round node a) (map (event_of round node) accesses) apart ∙ other-node round node other accesses apart

none-before : (round : ℕ) (queues : List LinkView) (first other : ℕ) (nodes : List (Acted NodeState)) → other < first → of_key node_of_event other (nodes_events round queues first nodes) ≡ []
none-before round queues first other [] less = refl
none-before round queues first other (a ∷ more) less =
    of_key-append node_of_event other (map (event_of round first) (node_kind.notes queues a.state)) (nodes_events round queues (suc first) more)
    ∙ ap₂ (λ (front back : List Event). front ++ back) (other-node round first other (node_kind.notes queues a.state) (λ same. omega arith)) (none-before round queues (suc first) other more (omega arith))

abbrev notes_of : List LinkView → Option (Acted NodeState) → List Access
notes_of queues o = option_map_or (λ (a : Acted NodeState). node_kind.notes queues a.state) o []

by-node : (round : ℕ) (queues : List LinkView) (first : ℕ) (nodes : List (Acted NodeState)) (k : ℕ) →
    of_key node_of_event (first + k) (nodes_events round queues first nodes) ≡ map (event_of round (first + k)) (notes_of queues (slice_get nodes k))
by-node round queues first [] k = refl
by-node round queues first (a ∷ more) zero =
    let number : first + 0 ≡ first = omega arith in
    subst (λ (m : ℕ). of_key node_of_event m (nodes_events round queues first (a ∷ more)) ≡ map (event_of round m) (node_kind.notes queues a.state)) (sym number)
    (of_key-append node_of_event first (map (event_of round first) (node_kind.notes queues a.state)) (nodes_events round queues (suc first) more)
    ∙ ap₂ (λ (front back : List Event). front ++ back) (own-node round first (node_kind.notes queues a.state)) (none-before round queues (suc first) first more (omega arith))
    ∙ append-nil (map (event_of round first) (node_kind.notes queues a.state)))
by-node round queues first (a ∷ more) (suc k) =
    let number : first + suc k ≡ suc first + k = omega arith in
    of_key-append node_of_event (first + suc k) (map (event_of round first) (node_kind.notes queues a.state)) (nodes_events round queues (suc first) more)
    ∙ ap (λ (front : List Event). front ++ of_key node_of_event (first + suc k) (nodes_events round queues (suc first) more)) (other-node round first (first + suc k) (node_kind.notes queues a.state) (λ same. omega arith))
    ∙ subst (λ (m : ℕ). of_key node_of_event m (nodes_events round queues (suc first) more) ≡ map (event_of round m) (notes_of queues (slice_get more k))) (sym number) (by-node round queues (suc first) more k)

without-round : (round node : ℕ) (all : List Access) → map access_of_event (map (event_of round node) all) ≡ all
without-round round node [] = refl
without-round round node (a ∷ all) = ap (λ (rest : List Access). a ∷ rest) (without-round round node all)

module _ (net : Network NodeState) where
  -- the events of a node
  abbrev pub events_at : ℕ → ℕ → List Event
  events_at node n = of_key node_of_event node (events_after n net)

  pub events-at_next : (node n : ℕ) → events_at node (suc n) ≡ events_at node n ++ map (event_of (suc n) node) (noted_in node_kind net node n)
  events-at_next node n =
      let queues = queues_after node_kind net n in
      let number : 0 + node ≡ node = omega arith in
      of_key-append node_of_event node (events_after n net) (nodes_events (suc n) queues 0 (nodes_after node_kind net n))
      ∙ ap (λ (new : List Event). events_at node n ++ new)
      (subst (λ (m : ℕ). of_key node_of_event m (nodes_events (suc n) queues 0 (nodes_after node_kind net n)) ≡ map (event_of (suc n) m) (noted_in node_kind net node n)) number
      (by-node (suc n) queues 0 (nodes_after node_kind net n) node))

  -- are what it has noted
  pub events-noted : (node n : ℕ) → map access_of_event (events_at node n) ≡ noted_by node_kind net node n
  events-noted node zero = refl
  events-noted node (suc n) =
      ap (map access_of_event) (events-at_next node n)
      ∙ map-append access_of_event (events_at node n) (map (event_of (suc n) node) (noted_in node_kind net node n))
      ∙ ap₂ (λ (before now : List Access). before ++ now) (events-noted node n) (without-round (suc n) node (noted_in node_kind net node n))

  -- ---- what holds of each access in its round and at its node holds of each event

  module _ (P : Event → Type 0) where
    pub all-nodes : (round : ℕ) (queues : List LinkView) (first : ℕ) (nodes : List (Acted NodeState)) →
        ((k : ℕ) (a : Acted NodeState) → slice_get nodes k ≡ Some a → All (λ (x : Access). P (event_of round (first + k) x)) (node_kind.notes queues a.state)) → All P (nodes_events round queues first nodes)
    all-nodes round queues first [] each = All-nil P
    all-nodes round queues first (a ∷ more) each =
        let number : first + 0 ≡ first = omega arith in
        All-append P (map (event_of round first) (node_kind.notes queues a.state)) (nodes_events round queues (suc first) more)
        (All-map P (event_of round first) (node_kind.notes queues a.state) (subst (λ (m : ℕ). All (λ (x : Access). P (event_of round m x)) (node_kind.notes queues a.state)) number (each 0 a refl)))
        (all-nodes round queues (suc first) more (λ k b at.
        let next : first + suc k ≡ suc first + k = omega arith in
        subst (λ (m : ℕ). All (λ (x : Access). P (event_of round m x)) (node_kind.notes queues b.state)) next (each (suc k) b at)))

    -- of the first rounds
    pub all-events : (n : ℕ) → ((m : ℕ) → m < n → (node : ℕ) → All (λ (x : Access). P (event_of (suc m) node x)) (noted_in node_kind net node m)) → All P (events_after n net)
    all-events zero each = All-nil P
    all-events (suc n) each =
        All-append P (events_after n net) (nodes_events (suc n) (queues_after node_kind net n) 0 (nodes_after node_kind net n))
        (all-events n (λ m less node. each m (omega arith) node))
        (all-nodes (suc n) (queues_after node_kind net n) 0 (nodes_after node_kind net n) (λ k a at.
        let number : k ≡ 0 + k = omega arith in
        subst (λ (m : ℕ). All (λ (x : Access). P (event_of (suc n) m x)) (node_kind.notes (queues_after node_kind net n) a.state)) number
        (subst (λ (o : Option (Acted NodeState)). All (λ (x : Access). P (event_of (suc n) k x)) (notes_of (queues_after node_kind net n) o)) at (each n (omega arith) k))))
