-- What is known of every traffic that is accepted.
use Rattle.std.specs.Prelude.{◌≡◌, ℕ, ◌+◌, ◌^◌, ◌<◌, ◌≤◌, ◌==◌, ◌⊎◌, List, [], ◌∷◌, ◌++◌, All, filter, length, Some, None, true, if◌then◌else◌}
use Rattle.std.specs.List.{slice_get}
use Rattle.burst_address.specs.Bytes.{burst_bytes}
use Rattle.burst_address.specs.Formulas.{beats_of}
use Rattle.burst_address.specs.Legal.{IsLegal}
use Rattle.manager_node.specs.declared.script.WriteByte.{WriteByte}
use Rattle.plan_traffic.specs.Orders.{most_beats, most_transactions}
use Rattle.plan_traffic.specs.Traffic.{TrafficItem, traffic_of, traffic_refusal}
use Rattle.topology.specs.Document.{is_manager}
use Rattle.topology_text.specs.Document.{DocumentNode}

-- A transaction suits its manager, which is a node of that kind: its ID has no more bits than the manager's, and its burst is legal on the manager's
-- bus, as on the widest one. A write has a byte, that is a number below 256, for each valid byte of its burst, and a read has none.
pub record Suits (nodes : List DocumentNode) (item : TrafficItem) : Type 0 where
  pub node : DocumentNode
  pub is_node : slice_get nodes item.manager ≡ Some node
  pub manager : is_manager node.kind ≡ true
  pub id : item.txn.request.id < 2 ^ node.id_width
  pub legal : IsLegal item.txn.request node.bus
  pub legal_on_widest : IsLegal item.txn.request 128
  pub addr : item.txn.request.addr < 2 ^ 63
  pub untagged : item.txn.request.tag ≡ record { txn = 0; low = 0; high = 0 }
  pub bytes : length item.bytes ≡ (if item.txn.write then length (burst_bytes item.txn.request) else 0)
  pub values : All (λ (byte : WriteByte). byte.value < 256) item.bytes

-- the transactions of the manager at this place
abbrev pub items_of_manager : ℕ → List TrafficItem → List TrafficItem
items_of_manager place items = filter (λ item. item.manager == place) items

-- how many transactions the last one waits for; none where there is no transaction
abbrev pub last_after : List TrafficItem → ℕ
last_after [] = 0
last_after (item ∷ []) = item.txn.after
last_after (item ∷ next ∷ more) = last_after (next ∷ more)

-- A transaction comes after these: it has the next number, and it waits for some of its manager's first transactions,
-- for all of them or for as many as the manager's last one.
pub record Follows (before : List TrafficItem) (item : TrafficItem) : Type 0 where
  pub number : item.txn.number ≡ length before + 1
  pub within : item.txn.after ≤ length (items_of_manager item.manager before)
  pub after : (item.txn.after ≡ length (items_of_manager item.manager before)) ⊎ (item.txn.after ≡ last_after (items_of_manager item.manager before))

-- each transaction comes after those before it
abbrev pub AreInOrder : List TrafficItem → List TrafficItem → Type 0
AreInOrder before [] = Unit {0}
AreInOrder before (item ∷ more) = Follows before item × AreInOrder (before ++ item ∷ []) more

-- the beats of all bursts
abbrev pub beats_in : List TrafficItem → ℕ
beats_in [] = 0
beats_in (item ∷ more) = beats_of item.txn.request + beats_in more

-- the transactions suit their managers, stand in order, and are no more than a traffic can have
pub record IsTraffic (nodes : List DocumentNode) (items : List TrafficItem) : Type 0 where
  pub suit : All (Suits nodes) items
  pub in_order : AreInOrder [] items
  pub transactions : length items ≤ most_transactions
  pub beats : beats_in items ≤ most_beats

-- the same, whatever the nodes are
abbrev pub SuitSome : List TrafficItem → Type 0
SuitSome items = (nodes : List DocumentNode) × IsTraffic nodes items

-- the transactions of lines that aren't refused
abbrev pub AcceptedSuits : Type 0
AcceptedSuits =
    (nodes : List DocumentNode) (lines : List (List ℕ)) → traffic_refusal nodes lines ≡ None →
    IsTraffic nodes (traffic_of nodes lines)
