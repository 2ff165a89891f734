-- The transactions that the lines ask for, and what a text comes to.
use Rattle.std.specs.Prelude.{◌≡◌, ℕ, ◌+◌, ◌==◌, List, [], ◌∷◌, ◌++◌, fold, length, Option, None, Some, if◌then◌else◌}
use Rattle.std.specs.Option.{option_or}
use Rattle.manager_node.specs.declared.script.Txn.{Txn}
use Rattle.manager_node.specs.declared.script.WriteByte.{WriteByte}
use Rattle.refusals.specs.Refusal.{refused_for}
use Rattle.refusals.specs.declared.cause.Cause.TheVariants.{TooMuchTraffic}
use Rattle.refusals.specs.declared.refusal.DocFault.{DocFault}
use Rattle.refusals.specs.declared.refusal.DocFault.TheVariants.{NoMemory, Refused}
use Rattle.refusals.specs.declared.refusal.Refusal.{Refusal}
use Rattle.plan_traffic.specs.LineRefusals.{least_refusal, request_said}
use Rattle.plan_traffic.specs.Line.{Access}
use Rattle.plan_traffic.specs.declared.build.Count.{Count}
use Rattle.plan_traffic.specs.Orders.{Order, Holds, Issues, is_too_much, issued, orders_of}
use Rattle.topology_text.specs.Document.{DocumentNode}

-- Of a manager it is after_order how many transactions it has, and how many of them stand before its latest `wait` line.
abbrev pub none_yet : Count
none_yet = record { all = 0; awaited = 0 }

-- after a `wait` line all are awaited
abbrev pub after_wait : Count → Count
after_wait count = record { all = count.all; awaited = count.all }

-- after one more transaction
abbrev pub after_issue : Count → Count
after_issue count = record { all = count.all + 1; awaited = count.awaited }

-- after one more order, which is for the manager at this place or for another one
abbrev pub after_order : ℕ → Count → Order → Count
after_order place count (Holds other) = if other == place then after_wait count else count
after_order place count (Issues other access) = if other == place then after_issue count else count

-- the count of the manager at this place after all orders
abbrev pub count_after : ℕ → List Order → Count
count_after place orders = fold (after_order place) none_yet orders

-- a transaction, the place of its manager, and the bytes that a write names, one for each valid lane
pub record TrafficItem : Type 0 where
  pub manager : ℕ
  pub txn : Txn
  pub bytes : List WriteByte

-- a burst that the manager at this place issues after these orders: all bursts are numbered from 1
abbrev pub item_after : List Order → ℕ → Access → TrafficItem
item_after before place access = record {
  manager = place;
  txn = record { number = length (issued before) + 1; write = access.write; request = request_said access; after = (count_after place before).awaited };
  bytes = access.bytes;
}

-- the transactions of further orders
abbrev pub items_after : List Order → List Order → List TrafficItem
items_after before [] = []
items_after before (Holds place ∷ more) = items_after (before ++ Holds place ∷ []) more
items_after before (Issues place access ∷ more) = item_after before place access ∷ items_after (before ++ Issues place access ∷ []) more

-- the transactions of all lines
abbrev pub traffic_of : List DocumentNode → List (List ℕ) → List TrafficItem
traffic_of nodes lines = items_after [] (orders_of nodes lines)

-- why the lines are refused: for one of them, or, where none is refused, because they ask for too much
abbrev pub traffic_refusal : List DocumentNode → List (List ℕ) → Option Refusal
traffic_refusal nodes lines =
    option_or (least_refusal nodes 1 lines) (if is_too_much (issued (orders_of nodes lines)) then Some (refused_for TooMuchTraffic) else None)

-- a refusal is why lines are refused; memory is wanting only where they aren't
abbrev pub IsRefusal : Option Refusal → DocFault → Type 0
IsRefusal why (Refused refusal) = why ≡ Some refusal
IsRefusal why NoMemory = why ≡ None
