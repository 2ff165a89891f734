-- What is due of each transaction of a plan: the subordinate that its address names, its bytes, and its responses
-- (Arm IHI 0022, data read and write structure, read and write response structure).
use Rattle.std.specs.Prelude.{◌+◌, ◌&&◌, ◌∷◌, [], ℕ, List, Bool, true, false, Option, Some, None, map, nat_le, nat_lt, if◌then◌else◌}
use Rattle.std.specs.List.{list_any, range_with_len}
use Rattle.axi_beats.specs.declared.response.Resp.{Resp}
use Rattle.axi_beats.specs.declared.response.Resp.TheVariants.{Okay, SlvErr, DecErr}
use Rattle.axi_history.specs.Records.{NamedByte, Transaction}
use Rattle.burst_address.specs.Bytes.{Byte, beat_bytes, burst_bytes, bytes_with}
use Rattle.burst_address.specs.Formulas.{beats_of}
use Rattle.burst_address.specs.Status.{worst_among}
use Rattle.elaborate.specs.Path.{target_of}
use Rattle.elaborate.specs.Plan.{PlanNode, first_part, plan_node_at}
use Rattle.elaborate.specs.declared.part.Part.{Part}
use Rattle.elaborate.specs.declared.part.Part.TheVariants as part
use Rattle.manager_node.specs.declared.script.WriteByte.{WriteByte}
use Rattle.plan_traffic.specs.Traffic.{TrafficItem}
use Rattle.topology.specs.Document.{DocumentNode, node_at}
use Rattle.topology_text.specs.declared.kind.Span.{Span}

-- ---- the status of a byte

-- an address is one of a span
abbrev pub is_spanned : ℕ → ℕ → ℕ → Bool
is_spanned base size address = nat_le base address && nat_lt address (base + size)

-- outside a memory there is no byte; a byte of one of these ranges isn't given or isn't taken
abbrev pub status_by : DocumentNode → List Span → ℕ → Resp
status_by memory ranges address =
    if is_spanned memory.base memory.size address then (if list_any (λ (range : Span). is_spanned range.base range.size address) ranges then SlvErr else Okay)
    else DecErr

-- the status of a byte that is written, and of one that is read: an error subordinate has none of either
abbrev pub written_status : DocumentNode → Part → ℕ → Resp
written_status memory part.Error address = DecErr
written_status memory other address = status_by memory memory.read_only address

abbrev pub given_status : DocumentNode → Part → ℕ → Resp
given_status memory part.Error address = DecErr
given_status memory other address = status_by memory memory.hole address

-- a byte of this status is accessed
abbrev pub is_accessed : Resp → Bool
is_accessed Okay = true
is_accessed SlvErr = false
is_accessed DecErr = false

-- ---- the bytes and the responses of a transaction

-- what a byte of a write sends, where its strobe is set
abbrev pub value_sent : WriteByte → Option ℕ
value_sent byte = if byte.strobed then Some byte.value else None

-- the bytes that a write strobes, in burst order, each with its address
abbrev pub bytes_strobed : TrafficItem → List Byte
bytes_strobed item = bytes_with (burst_bytes item.txn.request) (map value_sent item.bytes)

module _ (memory : DocumentNode) (kind : Part) (item : TrafficItem) where
  -- the bytes of a transaction at a subordinate: the strobed ones of a write, the valid ones of a read
  abbrev pub bytes_at : List NamedByte
  bytes_at =
      if item.txn.write
      then map (λ (byte : Byte). record { address = byte.address; value = Some byte.value; allowed = is_accessed (written_status memory kind byte.address) }) (bytes_strobed item)
      else map (λ (address : ℕ). record { address = address; value = None; allowed = is_accessed (given_status memory kind address) }) (burst_bytes item.txn.request)

  -- its response: the worst status of the strobed bytes of a write, and of the valid bytes of each beat of a read. At an error
  -- subordinate each response is DECERR, also that of a write without a strobed byte.
  abbrev pub response_of_write : Part → Resp
  response_of_write part.Error = DecErr
  response_of_write other = worst_among (map (λ (byte : Byte). written_status memory kind byte.address) (bytes_strobed item))

  abbrev pub response_at : List Resp
  response_at =
      if item.txn.write then response_of_write kind ∷ []
      else map (λ (n : ℕ). worst_among (map (given_status memory kind) (beat_bytes item.txn.request n))) (range_with_len 0 (beats_of item.txn.request))

-- ---- the transactions of a plan

module _ (nodes : List DocumentNode) where
  -- the plan node where a transaction ends
  abbrev pub target_number : TrafficItem → ℕ
  target_number item = target_of nodes item.manager item.txn.request.addr

  abbrev pub target_node : TrafficItem → PlanNode
  target_node item = plan_node_at nodes (target_number item)

  -- a transaction with what is due of it
  abbrev pub transaction_due : TrafficItem → Transaction
  transaction_due item = record {
    number = item.txn.number;
    manager = first_part nodes item.manager;
    id = item.txn.request.id;
    write = item.txn.write;
    after = item.txn.after;
    target = target_number item;
    fill = (node_at nodes (target_node item).document).fill;
    bytes = bytes_at (node_at nodes (target_node item).document) (target_node item).part item;
    response = response_at (node_at nodes (target_node item).document) (target_node item).part item;
  }

  abbrev pub transactions_due : List TrafficItem → List Transaction
  transactions_due items = map transaction_due items
