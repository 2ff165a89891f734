-- The transactions of each manager of a plan's network are those that are due by the plan.
use Rattle.std.proofs.Common.{◌≡◌, ◌≢◌, ◌<◌, ◌==◌, ◌∷◌, [], ℕ, suc, Bool, true, false, cond, List, Some, length, refl, sym, ap, ap₂, ◌∙◌, subst, inl, inr, arith}
use Rattle.std.specs.Prelude.{All, filter, map, slice_get}
use Rattle.std.specs.Option.{option_map}
use Rattle.std.proofs.lemmas.Bool.{cases_Bool, cases_eq, cases_lt, eq-eqb, eqb-true, false≢true, ne_eqb, true≢false}
use Rattle.std.proofs.lemmas.Option.{slice_get-map, slice_get_within}
use Rattle.std.proofs.lemmas.Simd.{map-map}
use Rattle.axi_history.specs.Answered.{transactions_by}
use Rattle.axi_history.specs.Records.{Transaction}
use Rattle.elaborate.proofs.LinkForms.{at-kind}
use Rattle.elaborate.proofs.Lists.{None-Some, Some-same}
use Rattle.elaborate.specs.Laws.{is_first}
use Rattle.elaborate.specs.Plan.{PlanNode, first_part, itself, plan_node_at, plan_nodes}
use Rattle.elaborate.specs.declared.part.Part.{Part}
use Rattle.elaborate.specs.declared.part.Part.TheVariants as part
use Rattle.manager_node.specs.ManagerState.{ManagerState}
use Rattle.manager_node.specs.ManagerTrail.{item_origin}
use Rattle.manager_node.specs.Script.{ScriptItem}
use Rattle.net_due.proofs.DueItems.{due-is}
use Rattle.net_due.proofs.Targets.{IsPlanned}
use Rattle.net_due.specs.DueLaws.{TransactionsAreDue}
use Rattle.net_history.proofs.ManagerRuns.{IsManagerAt}
use Rattle.net_history.proofs.NetTransactions.{all-transactions, of-manager}
use Rattle.net_history.proofs.RunStates.{acted_as}
use Rattle.net_history.specs.Due.{transaction_from, transactions_of}
use Rattle.net_kinds.specs.NodeKind.{KindName, NodeState}
use Rattle.net_kinds.specs.NodeKind.KindName.{AManager}
use Rattle.net_model.specs.Network.{Network}
use Rattle.net_opening.specs.Opening.{opening, state_at, state_by_part}
use Rattle.net_opening.specs.PlanLinks.{form_of_link}
use Rattle.net_opening.specs.States.{manager_at}
use Rattle.net_plan.proofs.LinkLists.{some-at}
use Rattle.net_plan.proofs.OnceLemmas.{manager-first}
use Rattle.net_plan.proofs.OpeningWired.{node-at, node-is, node-past}
use Rattle.net_plan.specs.PlanLaws.{CanRun}
use Rattle.node_core.specs.Acted.{Acted, opened}
use Rattle.node_shape.specs.LinkForm.{LinkForm}
use Rattle.plain_lists.proofs.KeyLemmas.{filter_map}
use Rattle.plain_lists.proofs.PlaceLemmas.{at-all, filter-from, filter-same}
use Rattle.plan_traffic.specs.Accepted.{IsTraffic, Suits, items_of_manager}
use Rattle.plan_traffic.specs.Due.{transaction_due, transactions_due}
use Rattle.plan_traffic.specs.Scripts.{script_item}
use Rattle.plan_traffic.specs.Traffic.{TrafficItem}
use Rattle.topology.specs.Document.{DocumentNode, is_manager, node_at}
use Rattle.topology_text.specs.declared.kind.Kind.{Kind}
use Rattle.topology_text.specs.declared.kind.Kind.TheVariants as kind

filter-nothing : {X : Type 0} (p : X → Bool) (xs : List X) → ((k : ℕ) (x : X) → slice_get xs k ≡ Some x → p x ≡ false) → filter p xs ≡ []
filter-nothing p [] none = refl
filter-nothing p (x ∷ xs) none =
    ap (λ (b : Bool). cond b (x ∷ filter p xs) (filter p xs)) (none 0 x refl) ∙ filter-nothing p xs (λ k y at. none (suc k) y at)

map-same_at : {X Y : Type 0} (f g : X → Y) (xs : List X) → ((k : ℕ) (x : X) → slice_get xs k ≡ Some x → f x ≡ g x) → map f xs ≡ map g xs
map-same_at f g [] same = refl
map-same_at f g (x ∷ xs) same = ap₂ (λ y ys. y ∷ ys) (same 0 x refl) (map-same_at f g xs (λ k y at. same (suc k) y at))

manager-kind : (k : Kind) → is_manager k ≡ true → k ≡ kind.Manager
manager-kind kind.Manager is = refl
manager-kind other is = absurd (false≢true is)

manager-part : (p : Part) → is_first p ≡ true → p ≡ part.Manager
manager-part part.Manager is = refl
manager-part other is = absurd (false≢true is)

abbrev is_named_manager : KindName → Bool
is_named_manager AManager = true
is_named_manager other = false

module _ (nodes : List DocumentNode) (items : List TrafficItem) (run : CanRun nodes) (traffic : IsTraffic nodes items) where
  abbrev net : Network NodeState
  net = opening nodes items

  abbrev forms : ℕ → LinkForm
  forms = form_of_link nodes

  -- the manager of a transaction is a plan node
  its-manager : (k : ℕ) (item : TrafficItem) → slice_get items k ≡ Some item → slice_get (plan_nodes nodes) (first_part nodes item.manager) ≡ Some (itself nodes item.manager part.Manager)
  its-manager k item at =
      let within = slice_get_within items k item at in
      let suits : Suits nodes item = subst (Suits nodes) (Some-same _ _ (sym (some-at items k item within) ∙ at)) (traffic.suit k item within) in
      let less : item.manager < length nodes = slice_get_within nodes item.manager suits.node suits.is_node in
      let same : node_at nodes item.manager ≡ suits.node = Some-same _ _ (sym (some-at nodes item.manager _ less) ∙ suits.is_node) in
      let is : (node_at nodes item.manager).kind ≡ kind.Manager = manager-kind (node_at nodes item.manager).kind (ap (λ (n : DocumentNode). is_manager n.kind) same ∙ suits.manager) in
      at-kind nodes item.manager 0 (first_part nodes item.manager) (itself nodes item.manager part.Manager) kind.Manager less is refl (omega arith)

  by-plan : (manager : ℕ) → transactions_by manager (transactions_due nodes items) ≡ map (transaction_due nodes) (filter (λ (item : TrafficItem). first_part nodes item.manager == manager) items)
  by-plan manager = filter_map (λ (t : Transaction). t.manager == manager) (transaction_due nodes) items

  -- ---- a plan node that is no manager

  module _ (manager : ℕ) (other : (node : PlanNode) → slice_get (plan_nodes nodes) manager ≡ Some node → is_first node.part ≡ false) where
    kind-first : (p : Part) → is_named_manager (state_by_part nodes items manager p).kind ≡ true → is_first p ≡ true
    kind-first part.Manager is = refl
    kind-first part.Mux is = absurd (false≢true is)
    kind-first part.Error is = absurd (false≢true is)
    kind-first part.Demux is = absurd (false≢true is)
    kind-first part.Memory is = absurd (false≢true is)
    kind-first part.Slice is = absurd (false≢true is)
    kind-first part.LiteMemory is = absurd (false≢true is)
    kind-first part.Remap is = absurd (false≢true is)
    kind-first part.Split is = absurd (false≢true is)
    kind-first part.Up is = absurd (false≢true is)
    kind-first part.Down is = absurd (false≢true is)
    kind-first part.Lite is = absurd (false≢true is)

    none-there : (s : ManagerState) → IsManagerAt net manager s → ⊥
    none-there s is =
        elim (cases_lt manager (length (plan_nodes nodes))) [
          | inl less ↦
              let same : opened (state_at nodes items manager) ≡ acted_as AManager s is.out = Some-same _ _ (sym (node-is nodes items manager less) ∙ is.at) in
              let first = kind-first (plan_node_at nodes manager).part (ap (λ (a : Acted NodeState). is_named_manager a.state.kind) same) in
              true≢false (sym first ∙ other (plan_node_at nodes manager) (node-at nodes items manager less))
          | inr past ↦ None-Some (acted_as AManager s is.out) (sym (node-past nodes items manager past) ∙ is.at)
        ]

    of-no_manager : transactions_by manager (transactions_of net forms) ≡ transactions_by manager (transactions_due nodes items)
    of-no_manager =
        let others : All (λ (t : Transaction). t.manager ≢ manager) (transactions_of net forms) =
        all-transactions net forms (λ (t : Transaction). t.manager ≢ manager) (λ node s is place item at same. none-there s (subst (λ (k : ℕ). IsManagerAt net k s) same is)) in
        let left : transactions_by manager (transactions_of net forms) ≡ [] =
        filter-nothing (λ (t : Transaction). t.manager == manager) (transactions_of net forms)
        (λ k t at. ne_eqb t.manager manager (at-all (λ (t : Transaction). t.manager ≢ manager) (transactions_of net forms) k t others at)) in
        let right : filter (λ (item : TrafficItem). first_part nodes item.manager == manager) items ≡ [] =
        filter-nothing (λ (item : TrafficItem). first_part nodes item.manager == manager) items
        (λ k item at. ne_eqb (first_part nodes item.manager) manager
        (λ same. true≢false (other (itself nodes item.manager part.Manager) (ap (slice_get (plan_nodes nodes)) (sym same) ∙ its-manager k item at)))) in
        left ∙ sym (by-plan manager ∙ ap (map (transaction_due nodes)) right)

  -- ---- a manager

  module _ (manager : ℕ) (less : manager < length (plan_nodes nodes)) (first : is_first (plan_node_at nodes manager).part ≡ true) where
    abbrev s : ManagerState
    s = manager_at nodes manager items

    abbrev document : ℕ
    document = (plan_node_at nodes manager).document

    abbrev kept : List TrafficItem
    kept = items_of_manager document items

    own : IsManagerAt net manager s
    own = record {
      out = (opened (state_by_part nodes items manager part.Manager)).out;
      at = node-is nodes items manager less ∙ ap (λ (p : Part). Some (opened (state_by_part nodes items manager p))) (manager-part (plan_node_at nodes manager).part first);
    }

    each-due : (k : ℕ) (item : TrafficItem) → slice_get kept k ≡ Some item →
        transaction_from net forms manager (item_origin s.bus s.lower (script_item item)) (script_item item) ≡ transaction_due nodes item
    each-due k item at =
        let from = filter-from (λ (i : TrafficItem). i.manager == document) items k item at in
        let planned : IsPlanned nodes items manager k item = record {
          less = less;
          first = first;
          place = from.1;
          at = from.2;
          manager = eqb-true item.manager document from.0;
          own = record { is = own; at = slice_get-map script_item kept k ∙ ap (option_map script_item) at };
        } in
        due-is nodes items run traffic manager k item planned

    -- its transactions are those of its document node
    same-manager : (k : ℕ) (item : TrafficItem) → slice_get items k ≡ Some item → (first_part nodes item.manager == manager) ≡ (item.manager == document)
    same-manager k item at = elim (cases_eq item.manager document) [
      | inl same ↦
          eq-eqb (first_part nodes item.manager) manager (ap (first_part nodes) same ∙ sym (manager-first nodes items run manager less first))
          ∙ sym (eq-eqb item.manager document same)
      | inr differs ↦
          ne_eqb (first_part nodes item.manager) manager
          (λ there. differs (ap (λ (n : PlanNode). n.document)
          (Some-same (itself nodes item.manager part.Manager) (plan_node_at nodes manager) (sym (its-manager k item at) ∙ ap (slice_get (plan_nodes nodes)) there ∙ node-at nodes items manager less))))
          ∙ sym (ne_eqb item.manager document differs)
    ]

    of-its_manager : transactions_by manager (transactions_of net forms) ≡ transactions_by manager (transactions_due nodes items)
    of-its_manager =
        let due : ScriptItem → Transaction = λ item. transaction_from net forms manager (item_origin s.bus s.lower item) item in
        of-manager net forms manager s own
        ∙ map-map due script_item kept
        ∙ map-same_at (λ (item : TrafficItem). due (script_item item)) (transaction_due nodes) kept each-due
        ∙ ap (map (transaction_due nodes))
        (sym (filter-same (λ (item : TrafficItem). first_part nodes item.manager == manager) (λ (item : TrafficItem). item.manager == document) items same-manager))
        ∙ sym (by-plan manager)

  by-manager : (manager : ℕ) → transactions_by manager (transactions_of net forms) ≡ transactions_by manager (transactions_due nodes items)
  by-manager manager =
      elim (cases_lt manager (length (plan_nodes nodes))) [
        | inl less ↦ elim (cases_Bool (is_first (plan_node_at nodes manager).part)) [
          | inl first ↦ of-its_manager manager less first
          | inr other ↦
              of-no_manager manager (λ node at. ap (λ (n : PlanNode). is_first n.part) (Some-same node (plan_node_at nodes manager) (sym at ∙ node-at nodes items manager less)) ∙ other)
        ]
        | inr past ↦ of-no_manager manager (λ node at. absurd (omega (arith, past, slice_get_within (plan_nodes nodes) manager node at)))
      ]

pub transactions-are_due : TransactionsAreDue
transactions-are_due nodes items run traffic manager = by-manager nodes items run traffic manager
