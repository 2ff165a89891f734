-- The transactions of a network, by the managers that they are of.
use Rattle.std.proofs.Common.{◌≡◌, ◌≢◌, ◌<◌, ◌+◌, ◌==◌, [], ◌∷◌, ◌++◌, ℕ, zero, suc, List, Some, Bool, append-nil, refl, sym, ap, ap₂, ◌∙◌, subst, arith}
use Rattle.std.specs.Prelude.{All, Any, filter, map, option_map, slice_get}
use Rattle.std.specs.Option.{option_map_or}
use Rattle.std.proofs.lemmas.List.Elements.{All-append, All-map, All-nil, filter-append}
use Rattle.std.proofs.lemmas.Option.{get_or_from_slice_get, same_Some, slice_get-map, slice_get_within}
use Rattle.axi_history.specs.Answered.{transactions_by}
use Rattle.axi_history.specs.Records.{Transaction}
use Rattle.axi_link.specs.declared.out.Out.{Out}
use Rattle.manager_node.specs.ManagerState.{ManagerState}
use Rattle.manager_node.specs.ManagerTrail.{item_origin}
use Rattle.manager_node.specs.Script.{ScriptItem}
use Rattle.net_history.proofs.ListLemmas.{Any-left, Any-right}
use Rattle.net_history.proofs.ManagerRuns.{IsManagerAt}
use Rattle.net_history.proofs.RunStates.{acted_as}
use Rattle.net_history.specs.Due.{own_transactions, transaction_from, transactions_from, transactions_of}
use Rattle.net_history.specs.History.{manager_of}
use Rattle.net_kinds.specs.NodeKind.{KindName, NodeState, StateOf}
use Rattle.net_kinds.specs.NodeKind.KindName.{ADemux, ALite, ALiteMemory, AManager, AMemory, AMux, ARemap, ASlice, ASplit, AnError, AnUp}
use Rattle.net_model.specs.Network.{Network}
use Rattle.node_core.specs.Acted.{Acted}
use Rattle.node_shape.specs.LinkForm.{LinkForm}
use Rattle.plain_lists.proofs.KeyLemmas.{of_key-cons, of_key-skip}
use Rattle.plain_lists.proofs.PlaceLemmas.{all-at}

module _ (net : Network NodeState) (forms : ℕ → LinkForm) where
  -- a transaction of a manager at a node
  abbrev pub due_of : ℕ → ManagerState → ScriptItem → Transaction
  due_of node s item = transaction_from net forms node (item_origin s.bus s.lower item) item

  -- those of one node
  abbrev here : ℕ → Acted NodeState → List Transaction
  here node a = option_map_or (own_transactions net forms node) (manager_of a.state) []

  own-all : (P : Transaction → Type 0) (node : ℕ) (s : ManagerState) → ((place : ℕ) (item : ScriptItem) → slice_get s.script place ≡ Some item → P (due_of node s item)) →
      All P (own_transactions net forms node s)
  own-all P node s each = All-map P (due_of node s) s.script (all-at (λ (item : ScriptItem). P (due_of node s item)) s.script each)

  own-any : (P : Transaction → Type 0) (node : ℕ) (s : ManagerState) (place : ℕ) (item : ScriptItem) → slice_get s.script place ≡ Some item → P (due_of node s item) → Any P (own_transactions net forms node s)
  own-any P node s place item at has =
      let there = slice_get-map (due_of node s) s.script place ∙ ap (option_map (due_of node s)) at in
      (place, due_of node s item, slice_get_within (own_transactions net forms node s) place (due_of node s item) there, get_or_from_slice_get (own_transactions net forms node s) place (due_of node s item) (due_of node s item) there, has)

  -- nodes of which the first has a number are those of the network from there on
  abbrev ArePart : ℕ → List (Acted NodeState) → Type 0
  ArePart first nodes = (k : ℕ) → slice_get net.nodes (first + k) ≡ slice_get nodes k

  next-part : (first : ℕ) (a : Acted NodeState) (more : List (Acted NodeState)) → ArePart first (a ∷ more) → ArePart (suc first) more
  next-part first a more part k = let same : suc first + k ≡ first + suc k = omega arith in ap (slice_get net.nodes) same ∙ part (suc k)

  first-part : (first : ℕ) (a : Acted NodeState) (more : List (Acted NodeState)) → ArePart first (a ∷ more) → slice_get net.nodes first ≡ Some a
  first-part first a more part = let same : first ≡ first + 0 = omega arith in ap (slice_get net.nodes) same ∙ part 0

  module _ (P : Transaction → Type 0) (each : (node : ℕ) (s : ManagerState) → IsManagerAt net node s → (place : ℕ) (item : ScriptItem) → slice_get s.script place ≡ Some item → P (due_of node s item)) where
    all-here : (node : ℕ) (name : KindName) (s : StateOf name) (out : Out) → slice_get net.nodes node ≡ Some (acted_as name s out) → All P (here node (acted_as name s out))
    all-here node AManager s out at = own-all P node s (each node s (record { out = out; at = at }))
    all-here node ASlice s out at = All-nil P
    all-here node AMemory s out at = All-nil P
    all-here node ALiteMemory s out at = All-nil P
    all-here node AMux s out at = All-nil P
    all-here node AnError s out at = All-nil P
    all-here node ADemux s out at = All-nil P
    all-here node ARemap s out at = All-nil P
    all-here node AnUp s out at = All-nil P
    all-here node ASplit s out at = All-nil P
    all-here node ALite s out at = All-nil P

    all-from : (first : ℕ) (nodes : List (Acted NodeState)) → ArePart first nodes → All P (transactions_from net forms first nodes)
    all-from first [] part = All-nil P
    all-from first (a ∷ more) part =
        All-append P (here first a) (transactions_from net forms (suc first) more) (all-here first a.state.kind a.state.state a.out (first-part first a more part))
        (all-from (suc first) more (next-part first a more part))

    -- what holds of the transactions of each manager holds of all
    pub all-transactions : All P (transactions_of net forms)
    all-transactions = all-from 0 net.nodes (λ k. let same : 0 + k ≡ k = omega arith in ap (slice_get net.nodes) same)

  any-from : (P : Transaction → Type 0) (first : ℕ) (nodes : List (Acted NodeState)) (k : ℕ) (s : ManagerState) (out : Out) → slice_get nodes k ≡ Some (acted_as AManager s out) →
      Any P (own_transactions net forms (first + k) s) → Any P (transactions_from net forms first nodes)
  any-from P first [] k s out at has = absurd (cc)
  any-from P first (a ∷ more) zero s out at has =
      let same = same_Some a (acted_as AManager s out) at in
      let number : first + 0 ≡ first = omega arith in
      Any-left P (here first a) (transactions_from net forms (suc first) more)
      (subst (λ (b : Acted NodeState). Any P (here first b)) (sym same) (subst (λ (m : ℕ). Any P (own_transactions net forms m s)) number has))
  any-from P first (a ∷ more) (suc k) s out at has =
      let number : first + suc k ≡ suc first + k = omega arith in
      Any-right P (here first a) (transactions_from net forms (suc first) more)
      (any-from P (suc first) more k s out at (subst (λ (m : ℕ). Any P (own_transactions net forms m s)) number has))

  -- each transaction of a manager is there
  pub any-transaction : (P : Transaction → Type 0) (node : ℕ) (s : ManagerState) → IsManagerAt net node s → (place : ℕ) (item : ScriptItem) → slice_get s.script place ≡ Some item → P (due_of node s item) → Any P (transactions_of net forms)
  any-transaction P node s is place item at has =
      let number : node ≡ 0 + node = omega arith in
      any-from P 0 net.nodes node s is.out is.at (subst (λ (m : ℕ). Any P (own_transactions net forms m s)) number (own-any P node s place item at has))

  -- ---- those of one manager

  abbrev manager_of_due : Transaction → ℕ
  manager_of_due t = t.manager

  abbrev is_by : ℕ → Transaction → Bool
  is_by manager t = t.manager == manager

  own-are : (node : ℕ) (s : ManagerState) (script : List ScriptItem) → filter (is_by node) (map (due_of node s) script) ≡ map (due_of node s) script
  own-are node s [] = refl
  own-are node s (item ∷ script) =
      of_key-cons manager_of_due node (due_of node s item) (map (due_of node s) script) refl ∙ ap (λ (rest : List Transaction). due_of node s item ∷ rest) (own-are node s script)

  none-are : (node other : ℕ) (s : ManagerState) (script : List ScriptItem) → node ≢ other → filter (is_by other) (map (due_of node s) script) ≡ []
  none-are node other s [] apart = refl
  none-are node other s (item ∷ script) apart =
      of_key-skip manager_of_due other (due_of node s item) (map (due_of node s) script) apart ∙ none-are node other s script apart

  none-here : (node other : ℕ) (name : KindName) (s : StateOf name) (out : Out) → node ≢ other → filter (is_by other) (here node (acted_as name s out)) ≡ []
  none-here node other AManager s out apart = none-are node other s s.script apart
  none-here node other ASlice s out apart = refl
  none-here node other AMemory s out apart = refl
  none-here node other ALiteMemory s out apart = refl
  none-here node other AMux s out apart = refl
  none-here node other AnError s out apart = refl
  none-here node other ADemux s out apart = refl
  none-here node other ARemap s out apart = refl
  none-here node other AnUp s out apart = refl
  none-here node other ASplit s out apart = refl
  none-here node other ALite s out apart = refl

  none-from : (first other : ℕ) (nodes : List (Acted NodeState)) → other < first → filter (is_by other) (transactions_from net forms first nodes) ≡ []
  none-from first other [] less = refl
  none-from first other (a ∷ more) less =
      filter-append (is_by other) (here first a) (transactions_from net forms (suc first) more)
      ∙ ap₂ (λ (front back : List Transaction). front ++ back) (none-here first other a.state.kind a.state.state a.out (λ same. omega arith)) (none-from (suc first) other more (omega arith))

  by-from : (first : ℕ) (nodes : List (Acted NodeState)) (k : ℕ) (s : ManagerState) (out : Out) → slice_get nodes k ≡ Some (acted_as AManager s out) →
      filter (is_by (first + k)) (transactions_from net forms first nodes) ≡ own_transactions net forms (first + k) s
  by-from first [] k s out at = absurd (cc)
  by-from first (a ∷ more) zero s out at =
      let same = same_Some a (acted_as AManager s out) at in
      let number : first + 0 ≡ first = omega arith in
      subst (λ (m : ℕ). filter (is_by m) (transactions_from net forms first (a ∷ more)) ≡ own_transactions net forms m s) (sym number)
      (filter-append (is_by first) (here first a) (transactions_from net forms (suc first) more)
      ∙ ap₂ (λ (front back : List Transaction). front ++ back) (ap (λ (b : Acted NodeState). filter (is_by first) (here first b)) same ∙ own-are first s s.script)
      (none-from (suc first) first more (omega arith))
      ∙ append-nil (own_transactions net forms first s))
  by-from first (a ∷ more) (suc k) s out at =
      let number : first + suc k ≡ suc first + k = omega arith in
      filter-append (is_by (first + suc k)) (here first a) (transactions_from net forms (suc first) more)
      ∙ ap (λ (front : List Transaction). front ++ filter (is_by (first + suc k)) (transactions_from net forms (suc first) more)) (none-here first (first + suc k) a.state.kind a.state.state a.out (λ same. omega arith))
      ∙ subst (λ (m : ℕ). filter (is_by m) (transactions_from net forms (suc first) more) ≡ own_transactions net forms m s) (sym number) (by-from (suc first) more k s out at)

  pub of-manager : (node : ℕ) (s : ManagerState) → IsManagerAt net node s → transactions_by node (transactions_of net forms) ≡ own_transactions net forms node s
  of-manager node s is =
      let number : 0 + node ≡ node = omega arith in
      subst (λ (m : ℕ). transactions_by m (transactions_of net forms) ≡ own_transactions net forms m s) number (by-from 0 net.nodes node s is.out is.at)
