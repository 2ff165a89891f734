-- What is due of the transactions of a network: where each ends, its bytes, and its responses (Arm IHI 0022, data read and
-- write structure, read and write response structure).
use Rattle.std.specs.Prelude.{◌++◌, ◌∷◌, [], ℕ, suc, Bool, false, List, None, Option, Some, flat_map, map, slice_get, slice_index}
use Rattle.std.specs.Prelude.{if◌then◌else◌}
use Rattle.std.specs.Option.{option_map_or}
use Rattle.axi_beats.specs.declared.beat.WBeat.{WBeat}
use Rattle.axi_history.specs.Records.{NamedByte, Transaction}
use Rattle.axi_trail.specs.Schedule.{Share}
use Rattle.burst_address.specs.Lanes.{lane_address, strobed_lanes, word_address}
use Rattle.manager_node.specs.ManagerState.{ManagerState}
use Rattle.manager_node.specs.ManagerTrail.{item_origin}
use Rattle.manager_node.specs.Script.{ScriptItem}
use Rattle.memory_node.specs.Status.{may_read, may_write}
use Rattle.net_history.specs.History.{manager_of}
use Rattle.net_kinds.specs.NodeKind.{ADemux, ALite, ALiteMemory, AManager, AMemory, AMux, ARemap, ASlice, ASplit, AnError, AnUp, KindName, NodeState, StateOf, node_kind}
use Rattle.net_model.specs.Network.{Network, lower_node}
use Rattle.net_ways.specs.Ways.{Hop, responses_from, way_of}
use Rattle.node_core.specs.Acted.{Acted}
use Rattle.node_shape.specs.LinkForm.{LinkForm, bytes_within, wanted_span}
use Rattle.node_shape.specs.Way.{Origin}
use Rattle.subordinate.specs.Parts.{BeatOf, beats_of_parts, beats_with_data}

-- ---- the bytes of a transaction

-- the byte of an address may be written, or read: none but a memory has any
abbrev pub may_access : (name : KindName) → StateOf name → Bool → ℕ → Bool
may_access AMemory s write address = if write then may_write s.area address else may_read s.area address
may_access ALiteMemory s write address = if write then may_write s.area address else may_read s.area address
may_access ASlice s write address = false
may_access AManager s write address = false
may_access AMux s write address = false
may_access AnError s write address = false
may_access ADemux s write address = false
may_access ARemap s write address = false
may_access AnUp s write address = false
may_access ASplit s write address = false
may_access ALite s write address = false

-- the byte that an address of a node holds where nothing was written
abbrev pub fill_of : (name : KindName) → StateOf name → ℕ
fill_of AMemory s = s.area.fill
fill_of ALiteMemory s = s.area.fill
fill_of ASlice s = 0
fill_of AManager s = 0
fill_of AMux s = 0
fill_of AnError s = 0
fill_of ADemux s = 0
fill_of ARemap s = 0
fill_of AnUp s = 0
fill_of ASplit s = 0
fill_of ALite s = 0

-- the byte of an address, with the value that is to be written there
abbrev pub byte_named : (ℕ → Bool) → Option ℕ → ℕ → NamedByte
byte_named may value address = record { address = address; value = value; allowed = may address }

-- the bytes that a W beat strobes, lanes upwards
abbrev pub strobed_of_beat : ℕ → (ℕ → Bool) → BeatOf × WBeat → List NamedByte
strobed_of_beat bus may b =
    map (λ lane. byte_named may (Some (slice_index b.1.lanes lane)) (lane_address b.0.request b.0.beat bus lane)) (strobed_lanes bus b.1)

-- the bytes that are wanted of a beat of read data, upwards
abbrev pub wanted_of_beat : LinkForm → (ℕ → Bool) → BeatOf → List NamedByte
wanted_of_beat form may b = map (byte_named may None) (bytes_within (word_address b.request b.beat form.bus) (wanted_span form b.request b.beat))

-- The bytes of a transaction, by what a link of this form carries of it: the strobed ones of a write, the wanted ones of a
-- read. `may` tells which addresses may be accessed.
abbrev pub bytes_carried : LinkForm → (ℕ → Bool) → Bool → Share → List NamedByte
bytes_carried form may write share =
    if write then flat_map (strobed_of_beat form.bus may) (beats_with_data share) else flat_map (wanted_of_beat form may) (beats_of_parts share.parts)

-- ---- where a transaction ends

-- the last of some hops of which the first is this one
abbrev pub last_hop : Hop → List Hop → Hop
last_hop hop [] = hop
last_hop hop (next ∷ more) = last_hop next more

module _ (net : Network NodeState) (forms : ℕ → LinkForm) where
  -- the last link of a way, and what it carries
  abbrev pub way_end : Origin → Hop
  way_end origin = last_hop (record { link = origin.link; share = origin.share }) (way_of node_kind net origin)

  -- the node below it
  abbrev pub way_target : Origin → ℕ
  way_target origin = lower_node net.links (way_end origin).link

  -- something of that node, and else this
  abbrev pub of_target : {Y : Type 0} → Y → ((name : KindName) → StateOf name → Y) → Origin → Y
  of_target other of_node origin =
      option_map_or (λ (node : Acted NodeState). of_node node.state.kind node.state.state) (slice_get net.nodes (way_target origin)) other

  -- an address of it may be accessed
  abbrev pub may_at_target : Bool → Origin → ℕ → Bool
  may_at_target write origin = of_target (λ address. false) (λ name s. may_access name s write) origin

  -- ---- the transactions

  -- a transaction that starts at a node
  abbrev pub transaction_from : ℕ → Origin → ScriptItem → Transaction
  transaction_from node origin item = record {
    number = item.txn.number;
    manager = node;
    id = item.txn.request.id;
    write = item.txn.write;
    after = item.txn.after;
    target = way_target origin;
    fill = of_target 0 fill_of origin;
    bytes = bytes_carried (forms (way_end origin).link) (may_at_target item.txn.write origin) item.txn.write (way_end origin).share;
    response = responses_from (way_of node_kind net origin);
  }

  -- those of a manager
  abbrev pub own_transactions : ℕ → ManagerState → List Transaction
  own_transactions node s = map (λ (item : ScriptItem). transaction_from node (item_origin s.bus s.lower item) item) s.script

  -- and those of nodes of which the first has this number
  abbrev pub transactions_from : ℕ → List (Acted NodeState) → List Transaction
  transactions_from first [] = []
  transactions_from first (node ∷ more) = option_map_or (own_transactions first) (manager_of node.state) [] ++ transactions_from (suc first) more

  -- the transactions of a network, manager by manager and in order of its script
  abbrev pub transactions_of : List Transaction
  transactions_of = transactions_from 0 net.nodes
