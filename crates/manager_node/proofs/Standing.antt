-- All that holds of a manager with its trail, and what is proved of it over a round.
use Rattle.std.specs.Prelude.{◌<◌, ℕ, suc, List, All, IsTrue}
use Rattle.axi_beats.specs.Bus.{IsBusWidth}
use Rattle.axi_link.specs.LinkView.{LinkView}
use Rattle.axi_trail.specs.LinkContracts.{Answers, Asks}
use Rattle.axi_trail.specs.Schedule.{Progress, Schedule}
use Rattle.axi_trail.specs.Trail.{Beats, joined, moved_above, no_beats}
use Rattle.burst_address.specs.Legal.{IsLegal}
use Rattle.manager_node.specs.ManagerOrder.{AreInOrder, IsAt, note_at}
use Rattle.manager_node.specs.ManagerState.{IsManager, ManagerState, new_manager}
use Rattle.manager_node.specs.ManagerTable.{manager_next, manager_out}
use Rattle.manager_node.specs.ManagerTrail.{HasPassed, IsScheduleOf}
use Rattle.manager_node.specs.Script.{IsScript, ScriptItem}
use Rattle.node_core.specs.declared.paces.Paces.{Paces}

pub record Standing (schedule : Schedule) (rounds : ℕ) (s : ManagerState) (trail : Beats) : Type 0 where
  pub is_manager : IsManager s
  pub scheduled : IsScheduleOf schedule s.bus s.script
  pub in_order : AreInOrder rounds s
  pub passed : HasPassed schedule s trail

-- it holds of a manager that has issued nothing
abbrev pub StandingOpens : Type 0
StandingOpens =
    (schedule : Schedule) (script : List ScriptItem) (lower bus : ℕ) (paces : Paces) → IsScript script → IsBusWidth bus → All (λ (item : ScriptItem). IsLegal item.txn.request bus) script →
    IsScheduleOf schedule bus script → Standing schedule 0 (new_manager script lower bus paces) no_beats

-- the trail after a round
abbrev pub manager_trail : List LinkView → ManagerState → Beats → Beats
manager_trail links s trail = joined trail (moved_above (manager_out links s) links s.lower)

-- it holds after one more round, where the link answers as it should
abbrev pub StandingLasts : Type 0
StandingLasts =
    (schedule : Schedule) (now : Progress) (rounds : ℕ) (links : List LinkView) (s : ManagerState) (trail : Beats) → Standing schedule rounds s trail →
    Answers schedule now (manager_trail links s trail) →
    Standing schedule (suc rounds) (manager_next (suc rounds) links s) (manager_trail links s trail)

-- it asks as it should, where the issued transactions are known to be issued
abbrev pub StandingAsks : Type 0
StandingAsks =
    (schedule : Schedule) (now : Progress) (rounds : ℕ) (s : ManagerState) (trail : Beats) → Standing schedule rounds s trail →
    ((place : ℕ) (item : ScriptItem) → IsAt s place item → 0 < (note_at s place).issued → IsTrue (now.issued item.txn.number)) →
    Asks schedule now trail
