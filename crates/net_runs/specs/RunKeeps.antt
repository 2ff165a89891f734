-- What every network keeps over its rounds.
use Rattle.std.specs.Prelude.{◌<◌, ℕ, suc, All, length, map}
use Rattle.axi_trail.specs.LinkContracts.{Answers, Asks}
use Rattle.axi_trail.specs.Schedule.{Progress, Schedule}
use Rattle.net_model.specs.Network.{CanMoveQueue, Network, node_next}
use Rattle.net_model.specs.Wired.{IsWired}
use Rattle.net_runs.specs.Run.{HoldsAt, lower_end, nodes_after, passed_by, queues_after, upper_end}
use Rattle.node_core.specs.Acted.{Acted}
use Rattle.node_shape.specs.Kind.{IsKnown, Kind}
use Rattle.plain_lists.specs.Numbered.{AllNumbered}

module _ {S E : Type 0} (kind : Kind S E) where
  -- What a run is told against: what each link has to carry, and what is known of each transaction after so many rounds.
  -- Every node is a new one, its links suit it, and as long as all keep what their kinds keep, what is known agrees with what
  -- they have done.
  pub record IsScheduled (net : Network S) (schedules : ℕ → Schedule) (now : ℕ → Progress) : Type 0 where
    pub begins : (node : ℕ) → HoldsAt kind net kind.begins node 0
    pub suits : (node : ℕ) → HoldsAt kind net (kind.suits schedules) node 0
    pub known :
        (n : ℕ) → ((node : ℕ) → HoldsAt kind net (λ s. kind.keeps schedules n s (passed_by kind net node n)) node n) → (node : ℕ) →
        HoldsAt kind net (λ s. IsKnown kind schedules (now n) s (passed_by kind net node n)) node n

  -- each node keeps what its kind keeps, and each link asks and answers as it should
  pub record RunKeeps (net : Network S) (schedules : ℕ → Schedule) (now : ℕ → Progress) (n : ℕ) : Type 0 where
    pub facts : (node : ℕ) → HoldsAt kind net kind.fact node n
    pub nodes : (node : ℕ) → HoldsAt kind net (λ s. kind.keeps schedules n s (passed_by kind net node n)) node n
    pub asked : (link : ℕ) → link < length net.links → Asks (schedules link) (now n) (upper_end kind net link n)
    pub answered : (link : ℕ) → link < length net.links → Answers (schedules link) (now n) (lower_end kind net link n)

  -- so it is after any number of rounds
  abbrev pub RunsKeep : Type 0
  RunsKeep =
      (net : Network S) (schedules : ℕ → Schedule) (now : ℕ → Progress) → IsWired kind net → IsScheduled net schedules now → (n : ℕ) →
      RunKeeps net schedules now n

  -- in the next round every node may decide, and then every link can make its nodes' moves
  pub record CanGoOn (net : Network S) (n : ℕ) : Type 0 where
    pub decide : All (λ (a : Acted S). kind.can (suc n) (queues_after kind net n) a.state) (nodes_after kind net n)
    pub commit :
        AllNumbered (CanMoveQueue net.links (map (node_next kind (suc n) (queues_after kind net n)) (nodes_after kind net n))) 0
        (queues_after kind net n)

  abbrev pub RunsGoOn : Type 0
  RunsGoOn =
      (net : Network S) (schedules : ℕ → Schedule) (now : ℕ → Progress) → IsWired kind net → IsScheduled net schedules now → (n : ℕ) → CanGoOn net n
