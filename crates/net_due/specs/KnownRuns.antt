-- A small network whose run is known: two managers, two memories and a slice, what is due of its three transactions, a
-- history that delivers and answers them, and this history with one change in it, in seven ways, each of which is refused.
use Rattle.std.specs.Prelude.{◌≡◌, ◌∷◌, [], ℕ, List, true, false, codes, insert, remove, set}
use Rattle.axi_beats.specs.declared.beat.Addr.{Addr}
use Rattle.axi_beats.specs.declared.beat.Burst.{Burst}
use Rattle.axi_beats.specs.declared.beat.Burst.TheVariants.{Fixed, Incr}
use Rattle.axi_beats.specs.declared.response.Resp.TheVariants.{Okay}
use Rattle.axi_history.specs.Answered.{Answered}
use Rattle.axi_history.specs.Delivered.{Delivered}
use Rattle.axi_history.specs.KnownHistories.{answer, byte_read, byte_to_read, byte_to_write, byte_written, issue}
use Rattle.axi_history.specs.Records.{Answer, Event, Issue, Transaction}
use Rattle.net_kinds.specs.NodeKind.{node_kind}
use Rattle.net_opening.specs.Opening.{opening}
use Rattle.net_opening.specs.PlanLinks.{form_of_link}
use Rattle.net_ways.specs.Sound.{IsSound}
use Rattle.plan_traffic.specs.Due.{transactions_due}
use Rattle.plan_traffic.specs.Traffic.{TrafficItem}
use Rattle.topology.specs.Document.{DocumentNode, node_of_kind}
use Rattle.topology_text.specs.declared.kind.Kind.TheVariants.{Manager, Memory, Slice}

-- ---- the document and its traffic

-- Manager a stands above a slice and memory p, and manager b above memory q. So the plan nodes are a, b, the slice, p and q,
-- with numbers 0 to 4.
abbrev pub two_ways : List DocumentNode
two_ways =
    record (node_of_kind (codes "a") Manager) { to = codes "s"; bus = 4; id_width = 2; depth = 2; accept = 0 ∷ []; give = 0 ∷ [] }
    ∷ record (node_of_kind (codes "b") Manager) { to = codes "q"; bus = 8; id_width = 1; depth = 2; accept = 0 ∷ []; give = 0 ∷ [] }
    ∷ record (node_of_kind (codes "s") Slice) { to = codes "p"; depth = 2 }
    ∷ record (node_of_kind (codes "p") Memory) { bus = 4; base = 0; size = 4096; fill = 9; accept = 0 ∷ []; give = 0 ∷ [] }
    ∷ record (node_of_kind (codes "q") Memory) { bus = 8; base = 4096; size = 4096; fill = 4; accept = 0 ∷ []; give = 0 ∷ [] }
    ∷ []

-- a burst of so many beats of 2 ^ size bytes
abbrev a_request : ℕ → ℕ → ℕ → ℕ → Burst → Addr
a_request id address len size burst = record { id = id; addr = address; len = len; size = size; burst = burst; tag = record { txn = 0; low = 0; high = 0 } }

-- manager a writes 7 and then 8 to address 16 with one FIXED burst
abbrev pub two_writes : TrafficItem
two_writes = record {
  manager = 0;
  txn = record { number = 1; write = true; request = a_request 3 16 1 0 Fixed; after = 0 };
  bytes = record { value = 7; strobed = true } ∷ record { value = 8; strobed = true } ∷ [];
}

-- once that is answered, it reads the byte
abbrev pub read_back : TrafficItem
read_back = record { manager = 0; txn = record { number = 2; write = false; request = a_request 3 16 0 0 Incr; after = 1 }; bytes = [] }

-- manager b reads two bytes of the other memory
abbrev pub other_burst : TrafficItem
other_burst = record { manager = 1; txn = record { number = 3; write = false; request = a_request 1 4112 0 1 Incr; after = 0 }; bytes = [] }

abbrev pub three_bursts : List TrafficItem
three_bursts = two_writes ∷ read_back ∷ other_burst ∷ []

-- ---- what is due

abbrev pub its_write : Transaction
its_write = record {
  number = 1;
  manager = 0;
  id = 3;
  write = true;
  after = 0;
  target = 3;
  fill = 9;
  bytes = byte_to_write 16 7 ∷ byte_to_write 16 8 ∷ [];
  response = Okay ∷ [];
}

abbrev pub its_read : Transaction
its_read = record { number = 2; manager = 0; id = 3; write = false; after = 1; target = 3; fill = 9; bytes = byte_to_read 16 ∷ []; response = Okay ∷ [] }

abbrev pub read_of_other : Transaction
read_of_other = record {
  number = 3;
  manager = 1;
  id = 1;
  write = false;
  after = 0;
  target = 4;
  fill = 4;
  bytes = byte_to_read 4112 ∷ byte_to_read 4113 ∷ [];
  response = Okay ∷ [];
}

abbrev pub three_transactions : List Transaction
three_transactions = its_write ∷ its_read ∷ read_of_other ∷ []

-- ---- a history

abbrev pub issues_made : List Issue
issues_made = issue 1 1 ∷ issue 3 1 ∷ issue 2 7 ∷ []

abbrev pub events_made : List Event
events_made =
    byte_read 3 3 4 4112 4
    ∷ byte_read 3 3 4 4113 4
    ∷ byte_written 1 4 3 16 7
    ∷ byte_written 1 5 3 16 8
    ∷ byte_read 2 10 3 16 8
    ∷ []

abbrev pub answers_made : List Answer
answers_made = answer 3 4 Okay (4 ∷ 4 ∷ []) ∷ answer 1 6 Okay [] ∷ answer 2 12 Okay (8 ∷ []) ∷ []

-- the history with some of its lists changed isn't delivered, or isn't answered
abbrev pub IsUndelivered : List Event → Type 0
IsUndelivered events = Delivered three_transactions events answers_made → ⊥

abbrev pub IsUnanswered : List Issue → List Event → List Answer → Type 0
IsUnanswered issues events answers = Answered three_transactions issues events answers → ⊥

pub record RunIsKnown : Type 0 where
  -- the network can be run
  pub sound : IsSound node_kind (opening two_ways three_bursts) (form_of_link two_ways)
  -- this is due of its transactions
  pub due : transactions_due two_ways three_bursts ≡ three_transactions
  -- and was delivered and answered
  pub delivered : Delivered three_transactions events_made answers_made
  pub answered : Answered three_transactions issues_made events_made answers_made
  -- a byte is read at the other memory
  pub misrouted : IsUndelivered (set events_made 1 (byte_read 3 3 3 4113 4))
  -- a byte is written once more than is due
  pub written_again : IsUndelivered (insert events_made 4 (byte_written 1 6 3 16 8))
  -- a read doesn't see the latest write
  pub stale : IsUndelivered (set events_made 4 (byte_read 2 10 3 16 7))
  -- a byte of an answered write was not written
  pub unwritten : IsUndelivered (remove events_made 3)
  -- a read is issued in the round of the answer that it waits for
  pub too_early : IsUnanswered (set issues_made 2 (issue 2 6)) events_made answers_made
  -- a byte that was read is told as another one
  pub told_otherwise : IsUnanswered issues_made events_made (set answers_made 2 (answer 2 12 Okay (7 ∷ [])))
  -- an answer in the round of the access
  pub answered_at_its_access : IsUnanswered issues_made events_made (set answers_made 2 (answer 2 10 Okay (8 ∷ [])))
