-- What holds of every network that can be run.
use Rattle.std.specs.Prelude.{◌≡◌, ◌<◌, ◌≤◌, ◌+◌, ◌*◌, ℕ, All, Contains, IfSome, None, false, flat_map, length, map, slice_get, true}
use Rattle.lite_rules.specs.PortFaults.{history_fault}
use Rattle.net_model.specs.Network.{Network, after_rounds, is_finished, net_link}
use Rattle.net_progress.specs.Moving.{IsPatient, is_moving}
use Rattle.net_progress.specs.Transfers.{most_transfers}
use Rattle.net_runs.specs.Ports.{history_of, port_kind}
use Rattle.net_runs.specs.RunKeeps.{CanGoOn, RunKeeps}
use Rattle.net_ways.specs.Known.{known_by_nodes}
use Rattle.net_ways.specs.Sound.{IsSound}
use Rattle.net_ways.specs.Ways.{Hop, origins_in, schedules_of, way_of}
use Rattle.node_core.specs.Acted.{Acted}
use Rattle.node_shape.specs.Kind.{Kind}
use Rattle.node_shape.specs.LinkForm.{IsWordForm, LinkForm, lanes_wanted, parts_written, wanted_bytes}
use Rattle.node_shape.specs.Way.{Origin}
use Rattle.node_shape.specs.WaysAround.{WaysAround}

module _ {S E : Type 0} (kind : Kind S E) where
  -- what the links around each node carry has its way through the node
  abbrev pub WaysAreAround : Type 0
  WaysAreAround =
      (net : Network S) (forms : ℕ → LinkForm) → IsSound kind net forms → (node : ℕ) →
      IfSome (slice_get net.nodes node)
      (λ (a : Acted S). WaysAround (kind.way a.state) (kind.uppers a.state) (kind.lowers a.state) forms (schedules_of kind net forms))

  -- a link of a way carries the bytes with which the transaction started, writes the same, and wants as many lanes
  pub record KeepsBytes (forms : ℕ → LinkForm) (origin : Origin) (hop : Hop) : Type 0 where
    pub bytes : flat_map (wanted_bytes (forms hop.link)) hop.share.parts ≡ flat_map (wanted_bytes (forms origin.link)) origin.share.parts
    pub lanes : lanes_wanted hop.share.lanes ≡ lanes_wanted origin.share.lanes
    pub written : origin.write ≡ true → parts_written (forms hop.link) hop.share ≡ parts_written (forms origin.link) origin.share

  abbrev pub WaysKeepBytes : Type 0
  WaysKeepBytes =
      (net : Network S) (forms : ℕ → LinkForm) → IsSound kind net forms → (origin : Origin) → Contains (origins_in kind net.nodes) origin →
      All (KeepsBytes forms origin) (way_of kind net origin)

  -- after any number of rounds every node keeps what its kind keeps, and every link asks and answers as it should
  abbrev pub SoundRunsKeep : Type 0
  SoundRunsKeep =
      (net : Network S) (forms : ℕ → LinkForm) → IsSound kind net forms → (n : ℕ) →
      RunKeeps kind net (schedules_of kind net forms) (known_by_nodes kind net (schedules_of kind net forms)) n

  -- in the next round every node may decide, and every link can make its nodes' moves
  abbrev pub SoundRunsGoOn : Type 0
  SoundRunsGoOn = (net : Network S) (forms : ℕ → LinkForm) → IsSound kind net forms → (n : ℕ) → CanGoOn kind net n

  -- every port breaks none of the rules of its kind, where AXI4-Lite links have the form of one
  abbrev pub SoundPortsAreLegal : Type 0
  SoundPortsAreLegal =
      (net : Network S) (forms : ℕ → LinkForm) → IsSound kind net forms → (link : ℕ) → link < length net.links →
      ((forms link).lite ≡ true → IsWordForm (forms link)) →
      (rounds : ℕ) → history_fault (port_kind (net_link net.links link)) (history_of kind rounds net link) ≡ None

  -- in one of so many rounds from each unfinished state on, some node takes or puts a beat
  abbrev pub SoundNeverStuck : Type 0
  SoundNeverStuck =
      (net : Network S) (forms : ℕ → LinkForm) → IsSound kind net forms → (most : ℕ) → IsPatient kind net most →
      (n : ℕ) → is_finished kind (after_rounds kind n net) ≡ false → (i : ℕ) × (i < most) × (is_moving kind net (n + i) ≡ true)

  -- a run is finished after so many rounds at most: what its links have to carry, times the patience of its nodes
  abbrev pub SoundFinishesInTime : Type 0
  SoundFinishesInTime =
      (net : Network S) (forms : ℕ → LinkForm) → IsSound kind net forms → (most : ℕ) → IsPatient kind net most →
      (n : ℕ) × (n ≤ most * most_transfers kind net (schedules_of kind net forms) (map (λ (origin : Origin). origin.number) (origins_in kind net.nodes)))
      × (is_finished kind (after_rounds kind n net) ≡ true)
