-- What a network has noted of a transaction, and the bytes that its memories have.
use Rattle.std.specs.Prelude.{◌≡◌, ◌<◌, ◌≤◌, ◌+◌, ◌-◌, ⊤, ℕ, List, Option, None, Some, length, slice_get, take}
use Rattle.std.specs.Option.{option_and_then, option_map_or}
use Rattle.elaborate.specs.Plan.{first_part}
use Rattle.manager_node.specs.Answer.{AnswerView}
use Rattle.manager_node.specs.ManagerState.{answer_of}
use Rattle.memory_node.specs.MemoryState.{memory_byte}
use Rattle.net_build.specs.NetRun.{NetRun, network_of_run}
use Rattle.net_kinds.specs.NodeKind.{ALiteMemory, AManager, AMemory, KindName, NodeState, StateOf}
use Rattle.node_core.specs.Acted.{Acted}
use Rattle.plan_traffic.specs.Accepted.{Suits, items_of_manager}
use Rattle.plan_traffic.specs.Traffic.{TrafficItem}

-- ---- answers

-- the answer to the transaction at a place of the script of a node, where the node is a manager and the answer has come
abbrev pub answer_by : (name : KindName) → StateOf name → ℕ → Option AnswerView
answer_by AManager s place = answer_of s place
answer_by other s place = None

-- such a place of the script is there, where the node is a manager
abbrev pub HasPlace : (name : KindName) → StateOf name → ℕ → Type 0
HasPlace AManager s place = place < length s.script
HasPlace other s place = ⊤

-- of the transaction at a place, counted from 0, its manager as a document node, and its place in the manager's script
abbrev pub manager_of_place : List TrafficItem → ℕ → ℕ
manager_of_place items place = option_map_or (λ (item : TrafficItem). item.manager) (slice_get items place) 0

abbrev pub script_place : List TrafficItem → ℕ → ℕ
script_place items place = length (items_of_manager (manager_of_place items place) (take place items))

-- the answer to it, as its manager noted it; None where it isn't answered
abbrev pub noted_at : NetRun → ℕ → Option AnswerView
noted_at run place =
    option_and_then (λ (a : Acted NodeState). answer_by a.state.kind a.state.state (script_place run.items place))
    (slice_get (network_of_run run).nodes (first_part run.nodes (manager_of_place run.items place)))

-- the answer to a transaction by its number, from 1
abbrev pub answer_of_number : NetRun → ℕ → Option AnswerView
answer_of_number run number = noted_at run (number - 1)

-- What is known of the answer to a transaction by its number: the transaction suits its manager, and no more came for it
-- than a response for each beat of its burst and the bytes of a page.
pub record IsAnswerTo (run : NetRun) (number : ℕ) (answer : AnswerView) : Type 0 where
  pub item : TrafficItem
  pub at : slice_get run.items (number - 1) ≡ Some item
  pub suits : Suits run.nodes item
  pub beats : length answer.resps ≤ item.txn.request.len + 1
  pub bytes : length answer.bytes ≤ 4096

-- ---- bytes

-- the byte of an address, where the node is a memory and has the address
abbrev pub byte_by : (name : KindName) → StateOf name → ℕ → Option ℕ
byte_by AMemory s address = memory_byte s address
byte_by ALiteMemory s address = memory_byte s address
byte_by other s address = None

-- the byte of an address at a plan node
abbrev pub byte_noted : NetRun → ℕ → ℕ → Option ℕ
byte_noted run number address =
    option_and_then (λ (a : Acted NodeState). byte_by a.state.kind a.state.state address) (slice_get (network_of_run run).nodes number)
