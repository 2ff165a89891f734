-- What happened in the first rounds of a run: the accesses of its memories, and what its managers noted.
use Rattle.std.specs.Prelude.{◌++◌, ◌∷◌, [], ℕ, zero, suc, List, Option, Some, None, flat_map, map, nat_lt, zip, if◌then◌else◌}
use Rattle.std.specs.List.{filter_map}
use Rattle.std.specs.Option.{option_map_or}
use Rattle.axi_history.specs.Records.{Answer, Event, Issue}
use Rattle.axi_link.specs.LinkView.{LinkView}
use Rattle.manager_node.specs.Answer.{AnswerView}
use Rattle.manager_node.specs.ManagerState.{ManagerState, is_answered}
use Rattle.manager_node.specs.Script.{ScriptItem}
use Rattle.memory_node.specs.Events.{Access}
use Rattle.net_kinds.specs.NodeKind.{ADemux, ALite, ALiteMemory, AManager, AMemory, AMux, ARemap, ASlice, ASplit, AnError, AnUp, KindName, NodeState, StateOf, node_kind}
use Rattle.net_model.specs.Network.{Network, after_rounds}
use Rattle.node_core.specs.Acted.{Acted}

-- an access, in its round and at its node
abbrev pub event_of : ℕ → ℕ → Access → Event
event_of round node a = record {
  round = round;
  node = node;
  number = a.number;
  address = a.byte.address;
  value = a.byte.value;
  write = a.write;
}

-- the accesses of nodes in a round on the links as they stand: by node, of which the first has this number, and those of a
-- node in its order
abbrev pub nodes_events : ℕ → List LinkView → ℕ → List (Acted NodeState) → List Event
nodes_events round queues first [] = []
nodes_events round queues first (node ∷ more) =
    map (event_of round first) (node_kind.notes queues node.state) ++ nodes_events round queues (suc first) more

-- the accesses of the first rounds: by round, and then by node
abbrev pub events_after : ℕ → Network NodeState → List Event
events_after zero net = []
events_after (suc n) net =
    events_after n net ++ nodes_events (suc n) (after_rounds node_kind n net).queues 0 (after_rounds node_kind n net).nodes

-- the issue that a manager noted of a transaction, and its answer
abbrev pub issue_noted : ScriptItem × AnswerView → Option Issue
issue_noted p = if nat_lt 0 p.1.issued then Some (record { number = p.0.txn.number; round = p.1.issued }) else None

abbrev pub answer_noted : ScriptItem × AnswerView → Option Answer
answer_noted p =
    if is_answered p.1 then Some (record { number = p.0.txn.number; round = p.1.answered; responses = p.1.resps; bytes = p.1.bytes })
    else None

-- the manager that a node is; none where it is of another kind
abbrev pub manager_by : (name : KindName) → StateOf name → Option ManagerState
manager_by AManager s = Some s
manager_by ASlice s = None
manager_by AMemory s = None
manager_by ALiteMemory s = None
manager_by AMux s = None
manager_by AnError s = None
manager_by ADemux s = None
manager_by ARemap s = None
manager_by AnUp s = None
manager_by ASplit s = None
manager_by ALite s = None

abbrev pub manager_of : NodeState → Option ManagerState
manager_of node = manager_by node.kind node.state

-- what managers noted, in order of their scripts
abbrev pub issues_by : ManagerState → List Issue
issues_by s = filter_map issue_noted (zip s.script s.answers)

abbrev pub answers_by : ManagerState → List Answer
answers_by s = filter_map answer_noted (zip s.script s.answers)

-- and what all managers of a network noted, one after the other
abbrev pub issues_of : Network NodeState → List Issue
issues_of net = flat_map (λ (node : Acted NodeState). option_map_or issues_by (manager_of node.state) []) net.nodes

abbrev pub answers_of : Network NodeState → List Answer
answers_of net = flat_map (λ (node : Acted NodeState). option_map_or answers_by (manager_of node.state) []) net.nodes

-- the issues and the answers that are noted after so many rounds
abbrev pub issues_after : ℕ → Network NodeState → List Issue
issues_after rounds net = issues_of (after_rounds node_kind rounds net)

abbrev pub answers_after : ℕ → Network NodeState → List Answer
answers_after rounds net = answers_of (after_rounds node_kind rounds net)
