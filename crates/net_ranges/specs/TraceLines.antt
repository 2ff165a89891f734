-- What the ports of a network show fits a trace line: each field is within its range (Arm IHI 0022, channel signals).
use Rattle.std.specs.Prelude.{◌≡◌, ◌<◌, ◌≤◌, ◌^◌, ℕ, List, All, IfSome, length, slice_get, true}
use Rattle.axi_beats.specs.Bus.{IsBusWidth}
use Rattle.manager_node.specs.Script.{ScriptItem}
use Rattle.manager_node.specs.declared.script.WriteByte.{WriteByte}
use Rattle.net_kinds.specs.NodeKind.{ADemux, ALite, ALiteMemory, AManager, AMemory, AMux, ARemap, ASlice, ASplit, AnError, AnUp, KindName, NodeState, StateOf, node_kind}
use Rattle.net_model.specs.Network.{Network}
use Rattle.net_opening.specs.Opening.{opening}
use Rattle.net_plan.specs.PlanLaws.{CanRun}
use Rattle.net_runs.specs.Ports.{history_of}
use Rattle.net_ways.specs.Sound.{IsSound}
use Rattle.node_core.specs.Acted.{Acted}
use Rattle.node_shape.specs.LinkForm.{LinkForm}
use Rattle.plan_traffic.specs.Accepted.{IsTraffic}
use Rattle.plan_traffic.specs.Traffic.{TrafficItem}
use Rattle.topology.specs.Document.{DocumentNode}
use Rattle.trace_text.specs.Ranges.{IsTraceRound}

-- what each port shows in each of the first rounds of a run has a trace line
abbrev pub ShowsTraceLines : Network NodeState → ℕ → Type 0
ShowsTraceLines net rounds = (link : ℕ) → link < length net.links → All IsTraceRound (history_of node_kind rounds net link)

-- the numbers of a transaction fit the fields of a beat: its own its tag, and each byte that is written a lane
pub record FitsItsBeats (item : ScriptItem) : Type 0 where
  pub number : item.txn.number < 2 ^ 32
  pub bytes : All (λ (byte : WriteByte). byte.value < 256) item.bytes

-- those of a node fit: of a manager's transactions, and of the bytes of a memory where nothing was written
abbrev pub FitsLanes : (name : KindName) → StateOf name → Type 0
FitsLanes AManager s = All FitsItsBeats s.script
FitsLanes AMemory s = s.area.fill < 256
FitsLanes ALiteMemory s = s.area.fill < 256
FitsLanes ASlice s = Unit {0}
FitsLanes AMux s = Unit {0}
FitsLanes AnError s = Unit {0}
FitsLanes ADemux s = Unit {0}
FitsLanes ARemap s = Unit {0}
FitsLanes AnUp s = Unit {0}
FitsLanes ASplit s = Unit {0}
FitsLanes ALite s = Unit {0}

-- a link with a bus that there is, on AXI4-Lite of 8 bytes at most, and IDs of at most 32 bits
pub record IsTraceLink (form : LinkForm) : Type 0 where
  pub width : IsBusWidth form.bus
  pub short : form.lite ≡ true → form.bus ≤ 8
  pub narrow : form.id_width ≤ 32

-- few such links, and nodes whose numbers fit
pub record FitsTraces (net : Network NodeState) (forms : ℕ → LinkForm) : Type 0 where
  pub few_links : length net.links ≤ 4096
  pub links : (link : ℕ) → link < length net.links → IsTraceLink (forms link)
  pub nodes : (node : ℕ) → IfSome (slice_get net.nodes node) (λ (a : Acted NodeState). FitsLanes a.state.kind a.state.state)

-- so it is in every network that can be run, after as many rounds as have numbers
abbrev pub RunsShowTraceLines : Type 0
RunsShowTraceLines =
    (net : Network NodeState) (forms : ℕ → LinkForm) → IsSound node_kind net forms → FitsTraces net forms → (rounds : ℕ) → rounds < 2 ^ 63 →
    ShowsTraceLines net rounds

-- and in that of every plan whose traffic suits it
abbrev pub PlansShowTraceLines : Type 0
PlansShowTraceLines =
    (nodes : List DocumentNode) (items : List TrafficItem) → CanRun nodes → IsTraffic nodes items → (rounds : ℕ) → rounds < 2 ^ 63 →
    ShowsTraceLines (opening nodes items) rounds
