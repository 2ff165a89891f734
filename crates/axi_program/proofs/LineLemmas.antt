-- The line of a transaction by its number.
use Rattle.std.proofs.Common.{◌≡◌, ◌≤◌, ◌<◌, ◌+◌, ◌-◌, ◌∷◌, [], ℕ, List, Option, Some, None, All, length, refl, sym, ap, ap₂, subst, ◌∙◌, arith}
use Rattle.std.specs.Prelude.{◌&&◌, nat_le, slice_get, true}
use Rattle.std.specs.List.{list_all}
use Rattle.std.specs.Option.{option_map, option_map_or}
use Rattle.std.proofs.lemmas.Bool.{and_parts, leb-true}
use Rattle.std.proofs.lemmas.List.Elements.{All-get_or}
use Rattle.std.proofs.lemmas.Option.{get_or_from_slice_get, none-some, same_Some, slice_get_past, slice_get_within}
use Rattle.manager_node.specs.Answer.{AnswerView}
use Rattle.manager_node.specs.declared.script.Txn.{Txn}
use Rattle.net_build.specs.NetRun.{NetRun}
use Rattle.net_build.specs.Noted.{answer_of_number, manager_of_place}
use Rattle.net_plan.proofs.NodeBegins.{number-at}
use Rattle.plan_traffic.specs.Accepted.{IsTraffic, Suits}
use Rattle.plan_traffic.specs.Traffic.{TrafficItem}
use Rattle.topology_text.specs.Document.{DocumentNode, node_at}
use Rattle.topology_text.specs.Formed.{AreFormed, IsFormed}
use Rattle.topology_text.specs.Shape.{is_name, is_name_code, is_small_letter}
use Rattle.trace_text.specs.AnswerLine.{answer_line}
use Rattle.axi_program.specs.Text.{item_line, line_of_number}

-- what is found at a place
found : {X : Type 0} (f : TrafficItem → X) (items : List TrafficItem) (place : ℕ) (item : TrafficItem) (x : X) →
    slice_get items place ≡ Some item → option_map f (slice_get items place) ≡ Some x → f item ≡ x
found f items place item x at is = same_Some (f item) x (sym (ap (option_map f) at) ∙ is)

module _ (items : List TrafficItem) (place manager : ℕ) (is : option_map (λ (item : TrafficItem). item.manager) (slice_get items place) ≡ Some manager) where
  -- the manager of the transaction at a place,
  pub manager-is : manager_of_place items place ≡ manager
  manager-is = go (slice_get items place) is
    where
      go : (o : Option TrafficItem) → option_map (λ (item : TrafficItem). item.manager) o ≡ Some manager → option_map_or (λ (item : TrafficItem). item.manager) o 0 ≡ manager
      go None e = absurd (none-some manager e)
      go (Some item) e = same_Some item.manager manager e

  -- which is a node
  pub manager-known : (nodes : List DocumentNode) → All (Suits nodes) items → manager < length nodes
  manager-known nodes suit = go (slice_get items place) refl is
    where
      go : (o : Option TrafficItem) → slice_get items place ≡ o → option_map (λ (item : TrafficItem). item.manager) o ≡ Some manager → manager < length nodes
      go None at e = absurd (none-some manager e)
      go (Some item) at e =
          let suits : Suits nodes item =
          subst (Suits nodes) (get_or_from_slice_get items place item item at) (All-get_or (Suits nodes) items place item (slice_get_within items place item at) suit)
          in subst (λ n. n < length nodes) (same_Some item.manager manager e) (slice_get_within nodes item.manager suits.node suits.is_node)

-- the transaction of a number has that number
number-is : (run : NetRun) (number : ℕ) (item : TrafficItem) → IsTraffic run.nodes run.items → 0 < number → slice_get run.items (number - 1) ≡ Some item → item.txn.number ≡ number
number-is run number item traffic positive at =
    let within = slice_get_within run.items (number - 1) item at in
    let its = ap (λ (i : TrafficItem). i.txn.number) (get_or_from_slice_get run.items (number - 1) item item at) in
    let counted = number-at [] run.items traffic.in_order (number - 1) item within in
    omega (arith, positive, its, counted)

-- its line is that of its answer
line-is :
    (run : NetRun) (number : ℕ) (item : TrafficItem) → IsTraffic run.nodes run.items → 0 < number → slice_get run.items (number - 1) ≡ Some item →
    line_of_number run number ≡ option_map_or (answer_line (node_at run.nodes item.manager).name item.txn) (answer_of_number run number) []
line-is run number item traffic positive at =
    ap (λ (o : Option TrafficItem). option_map_or (item_line run) o []) at
    ∙ ap (λ (n : ℕ). option_map_or (answer_line (node_at run.nodes item.manager).name item.txn) (answer_of_number run n) []) (number-is run number item traffic positive at)

-- and there is none where it isn't answered
pub unanswered-line : (run : NetRun) (number : ℕ) → IsTraffic run.nodes run.items → 0 < number → None ≡ answer_of_number run number → line_of_number run number ≡ []
unanswered-line run number traffic positive noted = go (slice_get run.items (number - 1)) refl
  where
    go : (o : Option TrafficItem) → slice_get run.items (number - 1) ≡ o → line_of_number run number ≡ []
    go None at = ap (λ (o : Option TrafficItem). option_map_or (item_line run) o []) at
    go (Some item) at =
        line-is run number item traffic positive at
        ∙ ap (λ (o : Option AnswerView). option_map_or (answer_line (node_at run.nodes item.manager).name item.txn) o []) (sym noted)

pub answered-line :
    (run : NetRun) (number : ℕ) (item : TrafficItem) (name : List ℕ) (txn : Txn) (answer : AnswerView) → IsTraffic run.nodes run.items → 0 < number →
    slice_get run.items (number - 1) ≡ Some item → name ≡ (node_at run.nodes (manager_of_place run.items (number - 1))).name →
    option_map (λ (i : TrafficItem). i.txn) (slice_get run.items (number - 1)) ≡ Some txn → Some answer ≡ answer_of_number run number →
    answer_line name txn answer ≡ line_of_number run number
answered-line run number item name txn answer traffic positive at named its noted =
    let manager : manager_of_place run.items (number - 1) ≡ item.manager = ap (λ (o : Option TrafficItem). option_map_or (λ (i : TrafficItem). i.manager) o 0) at in
    let here : name ≡ (node_at run.nodes item.manager).name = named ∙ ap (λ (n : ℕ). (node_at run.nodes n).name) manager in
    ap₂ (λ (bytes : List ℕ) (t : Txn). answer_line bytes t answer) here (sym (found (λ (i : TrafficItem). i.txn) run.items (number - 1) item txn at its))
    ∙ ap (λ (o : Option AnswerView). option_map_or (answer_line (node_at run.nodes item.manager).name item.txn) o []) noted
    ∙ sym (line-is run number item traffic positive at)

-- ---- names

-- a name is short
name-short : (name : List ℕ) → is_name name ≡ true → length name ≤ 32
name-short [] is = omega arith
name-short (first ∷ more) is =
    let front : (is_small_letter first && nat_le (length more) 31) ≡ true = (and_parts (is_small_letter first && nat_le (length more) 31) (list_all is_name_code more) is).0 in
    let short : length more ≤ 31 = leb-true (length more) 31 (and_parts (is_small_letter first) (nat_le (length more) 31) front).1 in
    omega (arith, short)

-- and so is that of every node
pub node_name-short : (nodes : List DocumentNode) (place : ℕ) → AreFormed nodes → place < length nodes → length (node_at nodes place).name ≤ 32
node_name-short nodes place formed within = name-short (node_at nodes place).name (All-get_or IsFormed nodes place _ within formed).name
