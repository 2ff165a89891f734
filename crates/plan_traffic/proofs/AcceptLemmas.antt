-- Lines that aren't refused.
use Rattle.std.proofs.Common.{◌≡◌, ℕ, ◌+◌, ◌^◌, ◌<◌, Bool, true, false, cond, List, [], ◌∷◌, Option, Some, None, length, nat_lt, refl, sym, ◌∙◌, ap, ◌&&◌}
use Rattle.std.specs.Prelude.{IfSome, bytes_eq}
use Rattle.std.specs.List.{AllByRecursion, cons_option, slice_get}
use Rattle.std.specs.Option.{option_map}
use Rattle.std.proofs.lemmas.Bool.{ltb-true}
use Rattle.std.proofs.lemmas.List.Quantifiers.{position-Some}
use Rattle.std.proofs.lemmas.Option.{get_or_from_slice_get, slice_get-get_or}
use Rattle.burst_address.specs.Legal.{IsLegal, broken_rule}
use Rattle.burst_address.specs.declared.rule.BurstRule.{BurstRule}
use Rattle.plan_traffic.specs.LineRefusals.{burst_refusal, refusal_by, lesser_of, least_refusal, line_refusal, request_said, rule_number}
use Rattle.plan_traffic.specs.Line.{Access, Line, Passed, Waits, Asks, line_said}
use Rattle.plan_traffic.specs.Orders.{Order, Holds, Issues, order_by, order_said, orders_of}
use Rattle.plan_traffic.specs.Ports.{named_manager}
use Rattle.topology.specs.Document.{is_manager, node_at}
use Rattle.topology.specs.Wiring.{manager_named}
use Rattle.refusals.specs.declared.refusal.Refusal.{Refusal}
use Rattle.refusals.specs.Refusal.{refused_at, refused_burst}
use Rattle.refusals.specs.declared.cause.Cause.TheVariants.{BadId}
use Rattle.topology_text.specs.Document.{DocumentNode, node_of_kind}
use Rattle.topology_text.specs.declared.kind.Kind.TheVariants.{Slice}
use Rattle.plan_traffic.proofs.FormLemmas.{IsForm, IsFormLine, line-form}

-- a burst that a manager may issue
pub record IsAccepted (nodes : List DocumentNode) (place : ℕ) (access : Access) : Type 0 where
  pub node : DocumentNode
  pub is_node : slice_get nodes place ≡ Some node
  pub manager : is_manager node.kind ≡ true
  pub id : access.start.id < 2 ^ node.id_width
  pub legal : IsLegal (request_said access) node.bus
  pub form : IsForm access

abbrev pub IsAllowed : List DocumentNode → Order → Type 0
IsAllowed nodes (Holds place) = place < length nodes
IsAllowed nodes (Issues place access) = IsAccepted nodes place access

abbrev is_named : List ℕ → DocumentNode → Bool
is_named name node = is_manager node.kind && bytes_eq node.name name

place-inside : (nodes : List DocumentNode) (name : List ℕ) (place : ℕ) → manager_named nodes name ≡ Some place → place < length nodes
place-inside [] name place e = absurd (cc)
place-inside (manager ∷ more) name place e = (position-Some (is_named name) (manager ∷ more) place manager e).0

-- what stands there is a manager
place-manager : (nodes : List DocumentNode) (name : List ℕ) (place : ℕ) (node : DocumentNode) → manager_named nodes name ≡ Some place → slice_get nodes place ≡ Some node → is_manager node.kind ≡ true
place-manager nodes name place node e at =
    left_of (is_manager node.kind) (bytes_eq node.name name)
    (ap (is_named name) (sym (get_or_from_slice_get nodes place node node at)) ∙ (position-Some (is_named name) nodes place node e).1)
  where
    left_of : (a b : Bool) → (a && b) ≡ true → a ≡ true
    left_of true b e = refl
    left_of false b e = e

-- the manager at the place of a name
port-at : (nodes : List DocumentNode) (name : List ℕ) (place : ℕ) → manager_named nodes name ≡ Some place → named_manager nodes name ≡ slice_get nodes place
port-at nodes name place e =
    ap (option_map (node_at nodes)) e ∙ sym (slice_get-get_or nodes place (node_of_kind [] Slice) (place-inside nodes name place e))

-- what a burst keeps that isn't refused
kept : (number : ℕ) (access : Access) (node : DocumentNode) → burst_refusal number access (Some node) ≡ None → (access.start.id < 2 ^ node.id_width) × IsLegal (request_said access) node.bus
kept number access node e = by (nat_lt access.start.id (2 ^ node.id_width)) refl (broken_rule (request_said access) node.bus) refl e
  where
    by : (small : Bool) → nat_lt access.start.id (2 ^ node.id_width) ≡ small → (rule : Option BurstRule) → broken_rule (request_said access) node.bus ≡ rule
        → cond small (option_map (λ r. refused_burst number (rule_number r)) rule) (Some (refused_at BadId number)) ≡ None → (access.start.id < 2 ^ node.id_width) × IsLegal (request_said access) node.bus
    by true is None legal e = (ltb-true access.start.id (2 ^ node.id_width) is, legal)
    by true is (Some rule) broken e = absurd (cc)
    by false is rule broken e = absurd (cc)

waits-allowed : (nodes : List DocumentNode) (name : List ℕ) (o : Option ℕ) → manager_named nodes name ≡ o → IfSome (option_map Holds o) (IsAllowed nodes)
waits-allowed nodes name None e = tt
waits-allowed nodes name (Some place) e = place-inside nodes name place e

asks-allowed : (nodes : List DocumentNode) (number : ℕ) (access : Access) → IsForm access → (o : Option ℕ) → manager_named nodes access.start.manager ≡ o
    → (found : Option DocumentNode) → named_manager nodes access.start.manager ≡ found → burst_refusal number access found ≡ None
    → IfSome (option_map (λ place. Issues place access) o) (IsAllowed nodes)
asks-allowed nodes number access form None at found node e = tt
asks-allowed nodes number access form (Some place) at None node e = absurd (cc)
asks-allowed nodes number access form (Some place) at (Some found) node e =
    let both = kept number access found e in
    let there : slice_get nodes place ≡ Some found = sym (port-at nodes access.start.manager place at) ∙ node in
    record {
      node = found;
      is_node = there;
      manager = place-manager nodes access.start.manager place found at there;
      id = both.0;
      legal = both.1;
      form = form;
    }

said-allowed : (nodes : List DocumentNode) (number : ℕ) (said : Option Line) → IfSome said IsFormLine → refusal_by nodes number said ≡ None → IfSome (order_by nodes said) (IsAllowed nodes)
said-allowed nodes number None form e = tt
said-allowed nodes number (Some Passed) form e = tt
said-allowed nodes number (Some (Waits name)) form e = waits-allowed nodes name (manager_named nodes name) refl
said-allowed nodes number (Some (Asks access)) form e = asks-allowed nodes number access form (manager_named nodes access.start.manager) refl (named_manager nodes access.start.manager) refl e

line-allowed : (nodes : List DocumentNode) (number : ℕ) (line : List ℕ) → line_refusal nodes number line ≡ None → IfSome (order_said nodes line) (IsAllowed nodes)
unfolding order_said
line-allowed nodes number line e = said-allowed nodes number (line_said line) (line-form line) e

-- where the least of two refusals is none, neither is one
pub least-none : (a b : Option Refusal) → lesser_of a b ≡ None → (a ≡ None) × (b ≡ None)
least-none None b e = (refl, e)
least-none (Some a) None e = absurd (cc)
least-none (Some a) (Some b) e = absurd (cc)

head-allowed : (nodes : List DocumentNode) (o : Option Order) (more : List Order) → IfSome o (IsAllowed nodes) → AllByRecursion (IsAllowed nodes) more → AllByRecursion (IsAllowed nodes) (cons_option o more)
head-allowed nodes None more here rest = rest
head-allowed nodes (Some order) more here rest = (here, rest)

-- all that lines ask for that aren't refused
pub lines-allowed : (nodes : List DocumentNode) (number : ℕ) (lines : List (List ℕ)) → least_refusal nodes number lines ≡ None → AllByRecursion (IsAllowed nodes) (orders_of nodes lines)
lines-allowed nodes number [] e = tt
lines-allowed nodes number (line ∷ more) e =
    let both = least-none (line_refusal nodes number line) (least_refusal nodes (number + 1) more) e in
    head-allowed nodes (order_said nodes line) (orders_of nodes more) (line-allowed nodes number line both.0) (lines-allowed nodes (number + 1) more both.1)
