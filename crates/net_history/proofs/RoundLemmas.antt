-- The rounds that the managers of a network note are right.
use Rattle.std.proofs.Common.{◌≡◌, ◌≢◌, ◌<◌, ℕ, List, Some, Bool, true, false, length, refl, sym, ap, ◌∙◌, subst, inl, inr, arith}
use Rattle.std.specs.Prelude.{All, AllPairs, Any, slice_get, take}
use Rattle.std.specs.List.{list_all}
use Rattle.std.proofs.lemmas.Bool.{cases_Bool, eqb-true, ltb-true}
use Rattle.std.proofs.lemmas.List.Folds.{list_all_at}
use Rattle.std.proofs.lemmas.List.{take-map}
use Rattle.std.proofs.lemmas.List.Elements.{All-map}
use Rattle.std.proofs.lemmas.Option.{get_or_from_slice_get, same_Some, slice_get_within}
use Rattle.axi_history.specs.Answered.{AreAnsweredInOrder, AreInOrder, AreIssuedInOrder, IsAnsweredBefore, IsIssuedBefore, OfEachTwo, WaitsForAnswers, transactions_by}
use Rattle.axi_history.specs.Delivered.{HasAnswer}
use Rattle.axi_history.specs.Records.{Answer, Issue, Transaction}
use Rattle.manager_node.proofs.NumberLemmas.{number-before, number-once}
use Rattle.manager_node.specs.Answer.{AnswerView, unanswered}
use Rattle.manager_node.specs.ManagerOrder.{AreOfDirection, AreOfId}
use Rattle.manager_node.specs.ManagerState.{ManagerState, is_answered, is_done}
use Rattle.manager_node.specs.Script.{ScriptItem}
use Rattle.net_history.proofs.ManagerRuns.{IsManagerAt, all-managers, answered-in, any-manager, at-run, begins, issued-in, manager-fact, manager-keeps, manager_run, note-within, note_after, one-node, one-state, pairs-managers, script-is}
use Rattle.net_history.proofs.NetTransactions.{all-transactions, any-transaction, due_of, of-manager}
use Rattle.net_history.proofs.NotedLists.{all-answers, all-issues, answer_at, answers-rise, any-answer, any-issue, issue_at, issues-rise}
use Rattle.net_history.proofs.RunStates.{acted_as, stands-at}
use Rattle.net_history.specs.Due.{transactions_of}
use Rattle.net_history.specs.History.{answers_after, answers_by, issues_after, issues_by}
use Rattle.net_history.specs.Right.{IsNotedAnswer, IsNotedIssue, AllAreAnswered}
use Rattle.net_kinds.specs.NodeKind.{NodeState, node_kind}
use Rattle.net_kinds.specs.NodeKind.KindName.{AManager}
use Rattle.net_model.specs.Network.{Network, after_rounds, is_finished}
use Rattle.net_runs.specs.Run.{nodes_after}
use Rattle.net_ways.specs.Sound.{IsSound}
use Rattle.node_core.specs.Acted.{Acted}
use Rattle.node_shape.specs.LinkForm.{LinkForm}
use Rattle.plain_lists.proofs.PartLemmas.{All-first}
use Rattle.plain_lists.proofs.PlaceLemmas.{all-counted, contains-at, item-there}

-- elements in a strict order are all different
apart : {X : Type 0} (f : X → ℕ) (xs : List X) → AllPairs (λ x y. f x < f y) xs → AllPairs (λ x y. f x ≢ f y) xs
apart f xs rising i j d less within same = let below = rising i j d less within in omega (arith, below, same)

-- each one passes where all do
all-pass : {X : Type 0} (p : X → Bool) (xs : List X) → list_all p xs ≡ true → (k : ℕ) (x : X) → slice_get xs k ≡ Some x → p x ≡ true
all-pass p xs all k x at = elim (cases_Bool (p x)) [
  | inl passes ↦ passes
  | inr fails ↦
      let none : list_all p xs ≡ false = list_all_at p xs k x (slice_get_within xs k x at) (ap p (get_or_from_slice_get xs k x x at) ∙ fails) in
      let never : true ≡ false = sym all ∙ none in
      absurd (cc)
]

-- a transaction of a manager of the network, by its place
pub record IsItem (net : Network NodeState) (node : ℕ) (s : ManagerState) (place : ℕ) (item : ScriptItem) : Type 0 where
  pub is : IsManagerAt net node s
  pub at : slice_get s.script place ≡ Some item

module _ (net : Network NodeState) (forms : ℕ → LinkForm) (sound : IsSound node_kind net forms) (n : ℕ) where
  abbrev note : ManagerState → ℕ → AnswerView
  note s place = note_after net s n place

  at-first : (node : ℕ) (s : ManagerState) → IsManagerAt net node s → (place : ℕ) (item : ScriptItem) → slice_get (manager_run net s n).script place ≡ Some item → slice_get s.script place ≡ Some item
  at-first node s is place item at = ap (λ (items : List ScriptItem). slice_get items place) (sym (script-is net forms sound node s is n)) ∙ at

  -- ---- all issues and answers are of transactions of managers, and those of each are there

  pub all-issued : (P : Issue → Type 0) → ((node : ℕ) (s : ManagerState) (place : ℕ) (item : ScriptItem) → IsItem net node s place item → 0 < (note s place).issued → P (issue_at item (note s place))) → All P (issues_after n net)
  all-issued P each =
      all-managers net issues_by n P (λ node s is.
      all-issues (manager_run net s n).script (manager_run net s n).answers P (λ place item at issued. each node s place item (record { is = is; at = at-first node s is place item at }) issued))

  pub any-issued : (P : Issue → Type 0) (node : ℕ) (s : ManagerState) (place : ℕ) (item : ScriptItem) → IsItem net node s place item → 0 < (note s place).issued → P (issue_at item (note s place)) → Any P (issues_after n net)
  any-issued P node s place item own issued has =
      any-manager net issues_by n P node s own.is
      (any-issue (manager_run net s n).script (manager_run net s n).answers P place item (at-run net forms sound node s own.is n place item own.at) (note-within net forms sound node s own.is n place item own.at) issued has)

  pub all-answered : (P : Answer → Type 0) → ((node : ℕ) (s : ManagerState) (place : ℕ) (item : ScriptItem) → IsItem net node s place item → 0 < (note s place).answered → P (answer_at item (note s place))) → All P (answers_after n net)
  all-answered P each =
      all-managers net answers_by n P (λ node s is.
      all-answers (manager_run net s n).script (manager_run net s n).answers P (λ place item at answered. each node s place item (record { is = is; at = at-first node s is place item at }) answered))

  pub any-answered : (P : Answer → Type 0) (node : ℕ) (s : ManagerState) (place : ℕ) (item : ScriptItem) → IsItem net node s place item → 0 < (note s place).answered → P (answer_at item (note s place)) → Any P (answers_after n net)
  any-answered P node s place item own answered has =
      any-manager net answers_by n P node s own.is
      (any-answer (manager_run net s n).script (manager_run net s n).answers P place item (at-run net forms sound node s own.is n place item own.at) (note-within net forms sound node s own.is n place item own.at) answered has)

  -- ---- each once

  run-numbered : (node : ℕ) (s : ManagerState) → IsManagerAt net node s → AllPairs (λ (a b : ScriptItem). a.txn.number < b.txn.number) (manager_run net s n).script
  run-numbered node s is = subst (AllPairs (λ (a b : ScriptItem). a.txn.number < b.txn.number)) (sym (script-is net forms sound node s is n)) (begins net forms sound node s is).numbered

  -- transactions of two managers have different numbers
  other-number : (j k : ℕ) (s t : ManagerState) (p q : ℕ) (item mine : ScriptItem) → j < k → IsItem net j s p item → IsItem net k t q mine → item.txn.number ≢ mine.txn.number
  other-number j k s t p q item mine less own other same =
      let one = one-node net forms sound j k s t own.is other.is item mine (contains-at s.script p item own.at) (contains-at t.script q mine other.at) same in
      omega (arith, less, one)

  pub issued-once : AllPairs (λ (i j : Issue). i.number ≢ j.number) (issues_after n net)
  issued-once =
      pairs-managers net issues_by n (λ (i j : Issue). i.number ≢ j.number)
      (λ node s is. apart (λ (i : Issue). i.number) (issues_by (manager_run net s n)) (issues-rise (manager_run net s n).script (manager_run net s n).answers (run-numbered node s is)))
      (λ j k s t less is has.
      all-issues (manager_run net s n).script (manager_run net s n).answers (λ (i : Issue). All (λ (o : Issue). i.number ≢ o.number) (issues_by (manager_run net t n))) (λ p item at issued.
      all-issues (manager_run net t n).script (manager_run net t n).answers (λ (o : Issue). item.txn.number ≢ o.number) (λ q mine there noted.
      other-number j k s t p q item mine less (record { is = is; at = at-first j s is p item at }) (record { is = has; at = at-first k t has q mine there }))))

  pub answered-once : AllPairs (λ (a b : Answer). a.number ≢ b.number) (answers_after n net)
  answered-once =
      pairs-managers net answers_by n (λ (a b : Answer). a.number ≢ b.number)
      (λ node s is. apart (λ (a : Answer). a.number) (answers_by (manager_run net s n)) (answers-rise (manager_run net s n).script (manager_run net s n).answers (run-numbered node s is)))
      (λ j k s t less is has.
      all-answers (manager_run net s n).script (manager_run net s n).answers (λ (a : Answer). All (λ (o : Answer). a.number ≢ o.number) (answers_by (manager_run net t n))) (λ p item at issued.
      all-answers (manager_run net t n).script (manager_run net t n).answers (λ (o : Answer). item.txn.number ≢ o.number) (λ q mine there noted.
      other-number j k s t p q item mine less (record { is = is; at = at-first j s is p item at }) (record { is = has; at = at-first k t has q mine there }))))

  pub issues-belong : All (λ (i : Issue). Any (λ (t : Transaction). t.number ≡ i.number) (transactions_of net forms)) (issues_after n net)
  issues-belong =
      all-issued (λ (i : Issue). Any (λ (t : Transaction). t.number ≡ i.number) (transactions_of net forms)) (λ node s place item own issued.
      any-transaction net forms (λ (t : Transaction). t.number ≡ item.txn.number) node s own.is place item own.at refl)

  pub issue-before_answer : All (λ (a : Answer). IsIssuedBefore (issues_after n net) a.number a.round) (answers_after n net)
  issue-before_answer =
      all-answered (λ (a : Answer). IsIssuedBefore (issues_after n net) a.number a.round) (λ node s place item own answered.
      let first = (manager-keeps net forms sound node s own.is n).in_order.issue_first place answered in
      any-issued (λ (i : Issue). (i.number ≡ item.txn.number) × (i.round < (note s place).answered)) node s place item own first.0 (refl, first.1))

  -- ---- in order

  -- two transactions by their places, and a third one of the later one's number: it is the later one
  module _ (j k l : ℕ) (s z y : ManagerState) (p q r : ℕ) (t u v : ScriptItem) (own : IsItem net j s p t) (other : IsItem net k z q u) (third : IsItem net l y r v)
      (order : AreInOrder (due_of net forms j s t) (due_of net forms k z u)) (same : v.txn.number ≡ u.txn.number) where
    -- all three are of one manager
    manager-is : l ≡ j
    manager-is = one-node net forms sound l k y z third.is other.is v u (contains-at y.script r v third.at) (contains-at z.script q u other.at) same ∙ sym order.manager

    third-own : IsManagerAt net j y
    third-own = subst (λ (m : ℕ). IsManagerAt net m y) manager-is third.is

    other-own : IsManagerAt net j z
    other-own = subst (λ (m : ℕ). IsManagerAt net m z) (sym order.manager) other.is

    third-item : IsItem net j s r v
    third-item = record { is = own.is; at = ap (λ (m : ManagerState). slice_get m.script r) (one-state net forms sound j s y own.is third-own) ∙ third.at }

    other-item : IsItem net j s q u
    other-item = record { is = own.is; at = ap (λ (m : ManagerState). slice_get m.script q) (one-state net forms sound j s z own.is other-own) ∙ other.at }

    place-is : r ≡ q
    place-is = number-once s.script (begins net forms sound j s own.is).numbered r q v u third-item.at other-item.at same

    item-is : v ≡ u
    item-is = same_Some v u (sym third-item.at ∙ ap (slice_get s.script) place-is ∙ other-item.at)

    note-is : note y r ≡ note s r
    note-is = ap (λ (m : ManagerState). note m r) (sym (one-state net forms sound j s y own.is third-own))

    of-direction : AreOfDirection (manager_run net s n) p r
    of-direction = record {
      first = t;
      second = v;
      at_earlier = at-run net forms sound j s own.is n p t own.at;
      at_later = at-run net forms sound j s own.is n r v third-item.at;
      order = number-before s.script (begins net forms sound j s own.is).numbered p r t v own.at third-item.at (let less : t.txn.number < v.txn.number = omega (arith, order.number, same) in less);
      direction = order.direction ∙ ap (λ (i : ScriptItem). i.txn.write) (sym item-is);
    }

    of-id : AreOfId (manager_run net s n) p r
    unfolding of-direction
    of-id = record { of_direction = of-direction; id = order.id ∙ ap (λ (i : ScriptItem). i.txn.request.id) (sym item-is) }

    issued-earlier : 0 < (note y r).issued → IsIssuedBefore (issues_after n net) t.txn.number (note y r).issued
    issued-earlier issued =
        let earlier = (manager-keeps net forms sound j s own.is n).in_order.issues p r of-direction (subst (λ (a : AnswerView). 0 < a.issued) note-is issued) in
        subst (λ (a : AnswerView). IsIssuedBefore (issues_after n net) t.txn.number a.issued) (sym note-is)
        (any-issued (λ (i : Issue). (i.number ≡ t.txn.number) × (i.round < (note s r).issued)) j s p t own earlier.0 (refl, earlier.1))

    answered-earlier : 0 < (note y r).answered → IsAnsweredBefore (answers_after n net) t.txn.number (note y r).answered
    answered-earlier answered =
        let earlier = (manager-keeps net forms sound j s own.is n).in_order.answers p r of-id (subst (λ (a : AnswerView). 0 < a.answered) note-is answered) in
        subst (λ (a : AnswerView). IsAnsweredBefore (answers_after n net) t.txn.number a.answered) (sym note-is)
        (any-answered (λ (a : Answer). (a.number ≡ t.txn.number) × (a.round < (note s r).answered)) j s p t own earlier.0 (refl, earlier.1))

  -- what holds of each two transactions by their managers and places holds of each two
  pub of-each_two : (Sentence : Transaction → Transaction → Type 0) →
      ((j k : ℕ) (s z : ManagerState) (p q : ℕ) (t u : ScriptItem) → IsItem net j s p t → IsItem net k z q u → Sentence (due_of net forms j s t) (due_of net forms k z u)) → OfEachTwo (transactions_of net forms) Sentence
  of-each_two Sentence each =
      all-transactions net forms (λ (t : Transaction). All (λ (u : Transaction). Sentence t u) (transactions_of net forms)) (λ j s is p t at.
      all-transactions net forms (Sentence (due_of net forms j s t)) (λ k z has q u there. each j k s z p q t u (record { is = is; at = at }) (record { is = has; at = there })))

  pub issues-in_order : OfEachTwo (transactions_of net forms) (AreIssuedInOrder (issues_after n net))
  issues-in_order =
      of-each_two (AreIssuedInOrder (issues_after n net)) (λ j k s z p q t u own other order.
      all-issued (λ (i : Issue). i.number ≡ u.txn.number → IsIssuedBefore (issues_after n net) t.txn.number i.round)
      (λ l y r v third issued same. issued-earlier j k l s z y p q r t u v own other third order same issued))

  pub answers-in_order : OfEachTwo (transactions_of net forms) (AreAnsweredInOrder (answers_after n net))
  answers-in_order =
      of-each_two (AreAnsweredInOrder (answers_after n net)) (λ j k s z p q t u own other order.
      all-answered (λ (a : Answer). a.number ≡ u.txn.number → IsAnsweredBefore (answers_after n net) t.txn.number a.round)
      (λ l y r v third answered same. answered-earlier j k l s z y p q r t u v own other third order same answered))

  -- ---- what a transaction waits for

  waits-for : (node : ℕ) (s : ManagerState) (r : ℕ) (v : ScriptItem) → IsItem net node s r v → 0 < (note s r).issued →
      All (λ (u : Transaction). IsAnsweredBefore (answers_after n net) u.number (note s r).issued) (take v.txn.after (transactions_by node (transactions_of net forms)))
  waits-for node s r v own issued =
      let Before : Transaction → Type 0 = λ u. IsAnsweredBefore (answers_after n net) u.number (note s r).issued in
      subst (All Before) (sym (ap (take v.txn.after) (of-manager net forms node s own.is) ∙ take-map (due_of net forms node s) v.txn.after s.script))
      (All-map Before (due_of net forms node s) (take v.txn.after s.script)
      (All-first (λ (u : ScriptItem). Before (due_of net forms node s u)) v.txn.after s.script (λ q u below at.
      let answered = (manager-keeps net forms sound node s own.is n).in_order.waits q r v (at-run net forms sound node s own.is n r v own.at) below issued in
      any-answered (λ (a : Answer). (a.number ≡ u.txn.number) × (a.round < (note s r).issued)) node s q u (record { is = own.is; at = at }) answered.0 (refl, answered.1))))

  pub waits : All (WaitsForAnswers (transactions_of net forms) (issues_after n net) (answers_after n net)) (transactions_of net forms)
  waits =
      all-transactions net forms (WaitsForAnswers (transactions_of net forms) (issues_after n net) (answers_after n net)) (λ node s is p t at.
      all-issued (λ (i : Issue). i.number ≡ t.txn.number → All (λ (u : Transaction). IsAnsweredBefore (answers_after n net) u.number i.round) (take t.txn.after (transactions_by node (transactions_of net forms))))
      (λ k z r v own issued same.
      let manager = one-node net forms sound k node z s own.is is v t (contains-at z.script r v own.at) (contains-at s.script p t at) same in
      let there : IsManagerAt net node z = subst (λ (m : ℕ). IsManagerAt net m z) manager own.is in
      let mine : slice_get s.script r ≡ Some v = ap (λ (m : ManagerState). slice_get m.script r) (one-state net forms sound node s z is there) ∙ own.at in
      let one : v ≡ t = same_Some v t (sym mine ∙ ap (slice_get s.script) (number-once s.script (begins net forms sound node s is).numbered r p v t mine at same) ∙ at) in
      subst (λ (i : ScriptItem). All (λ (u : Transaction). IsAnsweredBefore (answers_after n net) u.number (note z r).issued) (take i.txn.after (transactions_by node (transactions_of net forms)))) one
      (subst (λ (m : ℕ). All (λ (u : Transaction). IsAnsweredBefore (answers_after n net) u.number (note z r).issued) (take v.txn.after (transactions_by m (transactions_of net forms)))) manager (waits-for k z r v own issued))))

module _ (net : Network NodeState) (forms : ℕ → LinkForm) (sound : IsSound node_kind net forms) (n : ℕ) where
  -- ---- issues and answers name the rounds in which they are noted

  pub issues-noted : All (IsNotedIssue net n) (issues_after n net)
  issues-noted =
      all-issued net forms sound n (IsNotedIssue net n) (λ node s place item own issued.
      let round = (note_after net s n place).issued in
      let noted = issued-in net forms sound node s own.is place n round refl issued in
      (noted.0, any-issued net forms sound round (λ (j : Issue). (j.number ≡ item.txn.number) × (j.round ≡ round)) node s place item own (omega (arith, noted.1, issued)) (refl, noted.1)))

  pub answers-noted : All (IsNotedAnswer net n) (answers_after n net)
  answers-noted =
      all-answered net forms sound n (IsNotedAnswer net n) (λ node s place item own answered.
      let round = (note_after net s n place).answered in
      let noted = answered-in net forms sound node s own.is place n round refl answered in
      (noted.0, any-answered net forms sound round (λ (b : Answer). (b.number ≡ item.txn.number) × (b.round ≡ round)) node s place item own (omega (arith, noted.1, answered)) (refl, noted.1)))

  -- ---- once the network is finished, all is answered

  done-then : is_finished node_kind (after_rounds node_kind n net) ≡ true → (node : ℕ) (s : ManagerState) → IsManagerAt net node s → is_done (manager_run net s n) ≡ true
  done-then finished node s is =
      let there = stands-at net node AManager s is.out is.at n in
      all-pass (λ (a : Acted NodeState). node_kind.is_done a.state) (nodes_after node_kind net n) finished node (acted_as AManager (manager_run net s n) there.out) there.at

  pub is-whole : AllAreAnswered net forms n
  is-whole finished =
      all-transactions net forms (λ (t : Transaction). HasAnswer t (answers_after n net)) (λ node s is place item at.
      let fact = manager-fact net forms sound node s is n in
      let done = eqb-true (manager_run net s n).answered (length (manager_run net s n).script) (done-then finished node s is) in
      let there = item-there (manager_run net s n).answers place (note-within net forms sound node s is n place item at) in
      let all = all-counted is_answered (manager_run net s n).answers place there.0 (sym fact.counted ∙ done ∙ sym fact.one_each) there.1 in
      let noted : note_after net s n place ≡ there.0 = get_or_from_slice_get (manager_run net s n).answers place there.0 (unanswered 0) there.1 in
      any-answered net forms sound n (λ (a : Answer). a.number ≡ item.txn.number) node s place item (record { is = is; at = at })
      (ltb-true 0 (note_after net s n place).answered (ap is_answered noted ∙ all)) refl)
