-- Delivery, and what the answers carry.
use Rattle.std.proofs.Common.{◌≡◌, ◌<◌, ◌∷◌, [], ◌++◌, ℕ, zero, suc, Bool, false, cond, List, Some, refl, sym, ap, ◌∙◌, subst, inl, inr, arith}
use Rattle.std.specs.Prelude.{All, Any, map, slice_get}
use Rattle.std.proofs.lemmas.Bool.{cases_Bool}
use Rattle.std.proofs.lemmas.List.Elements.{All-contains}
use Rattle.axi_history.specs.Answered.{HasItsBytes, values_of}
use Rattle.axi_history.specs.Delivered.{Delivered, HasAnswer, access_due, access_made, is_write_at}
use Rattle.axi_history.specs.Records.{Answer, Event, NamedByte, Transaction, bytes_due, events_of}
use Rattle.manager_node.proofs.NumberLemmas.{number-once}
use Rattle.manager_node.specs.Answer.{AnswerView}
use Rattle.manager_node.specs.ManagerState.{ManagerState}
use Rattle.manager_node.specs.Script.{ScriptItem}
use Rattle.net_history.proofs.BelongLemmas.{belongs}
use Rattle.net_history.proofs.ByteLemmas.{bytes-noted}
use Rattle.net_history.proofs.DoneLemmas.{all-early, answers-there, done-from}
use Rattle.net_history.proofs.ItemLemmas.{responses-noted, write-note}
use Rattle.net_history.proofs.ManagerRuns.{IsManagerAt, answered-in, begins, note_after, one-node, one-state}
use Rattle.net_history.proofs.NetTransactions.{all-transactions, any-transaction, due_of}
use Rattle.net_history.proofs.RoundLemmas.{IsItem, all-answered}
use Rattle.net_history.proofs.TargetLemmas.{item-begins, item-latest}
use Rattle.net_history.specs.Due.{transactions_of}
use Rattle.net_history.specs.History.{answers_after, events_after}
use Rattle.net_kinds.specs.NodeKind.{NodeState, node_kind}
use Rattle.net_model.specs.Network.{Network}
use Rattle.net_ways.specs.Sound.{IsSound}
use Rattle.node_shape.specs.LinkForm.{LinkForm}
use Rattle.burst_address.specs.Accesses.{answered_bytes, value_after}
use Rattle.plain_lists.proofs.PlaceLemmas.{contains-at}
use Rattle.plain_lists.specs.Prefixes.{IsPrefix}

module _ (net : Network NodeState) (forms : ℕ → LinkForm) (sound : IsSound node_kind net forms) (n : ℕ) where
  -- two transactions of one number are one, and have one note
  pub same-note : (j l : ℕ) (s y : ManagerState) (p r : ℕ) (t v : ScriptItem) → IsItem net j s p t → IsItem net l y r v → v.txn.number ≡ t.txn.number → note_after net y n r ≡ note_after net s n p
  same-note j l s y p r t v own other same =
      let manager = one-node net forms sound l j y s other.is own.is v t (contains-at y.script r v other.at) (contains-at s.script p t own.at) same in
      let there : IsManagerAt net j y = subst (λ (m : ℕ). IsManagerAt net m y) manager other.is in
      let one : s ≡ y = one-state net forms sound j s y own.is there in
      let at : slice_get s.script r ≡ Some v = ap (λ (m : ManagerState). slice_get m.script r) one ∙ other.at in
      ap (λ (m : ManagerState). note_after net m n r) (sym one)
      ∙ ap (note_after net s n) (number-once s.script (begins net forms sound j s own.is).numbered r p v t at own.at same)

  -- an answer was noted in a round, after the rounds before it
  module _ (node : ℕ) (s : ManagerState) (place : ℕ) (item : ScriptItem) (own : IsItem net node s place item) where
    done-by : 0 < (note_after net s n place).answered → map access_made (events_of item.txn.number (events_after n net)) ≡ map access_due (bytes_due (due_of net forms node s item))
    done-by answered = by (note_after net s n place).answered refl answered
      where
        by : (r : ℕ) → (note_after net s n place).answered ≡ r → 0 < r → map access_made (events_of item.txn.number (events_after n net)) ≡ map access_due (bytes_due (due_of net forms node s item))
        by zero is some = absurd (omega (arith, some))
        by (suc m) is some =
            let noted = answered-in net forms sound node s own.is place n (suc m) is some in
            done-from net forms sound node s place item own m (answers-there net forms sound node s place item own m (omega (arith, noted.1))) n (omega (arith, noted.0))

    early-by : 0 < (note_after net s n place).answered → All (λ (e : Event). e.number ≡ item.txn.number → e.round < (note_after net s n place).answered) (events_after n net)
    early-by answered = by (note_after net s n place).answered refl answered
      where
        by : (r : ℕ) → (note_after net s n place).answered ≡ r → 0 < r → All (λ (e : Event). e.number ≡ item.txn.number → e.round < (note_after net s n place).answered) (events_after n net)
        by zero is some = absurd (omega (arith, some))
        by (suc m) is some =
            let noted = answered-in net forms sound node s own.is place n (suc m) is some in
            subst (λ (r : ℕ). All (λ (e : Event). e.number ≡ item.txn.number → e.round < r) (events_after n net)) (sym is) (all-early net forms sound node s place item own m (answers-there net forms sound node s place item own m (omega (arith, noted.1))) n)

    whole-by : HasAnswer (due_of net forms node s item) (answers_after n net) → map access_made (events_of item.txn.number (events_after n net)) ≡ map access_due (bytes_due (due_of net forms node s item))
    whole-by answer =
        let Whole : Type 0 = map access_made (events_of item.txn.number (events_after n net)) ≡ map access_due (bytes_due (due_of net forms node s item)) in
        let each : All (λ (a : Answer). a.number ≡ item.txn.number → Whole) (answers_after n net) =
        all-answered net forms sound n (λ (a : Answer). a.number ≡ item.txn.number → Whole)
        (λ l y r v other answered same. done-by (subst (λ (a : AnswerView). 0 < a.answered) (same-note node l s y place r item v own other same) answered)) in
        All-contains (λ (a : Answer). a.number ≡ item.txn.number → Whole) (answers_after n net) answer.1 each (answer.0, answer.2, answer.3) answer.4

  abbrev Begins : Transaction → Type 0
  Begins t = IsPrefix (map access_made (events_of t.number (events_after n net))) (map access_due (bytes_due t))

  abbrev IsDone : Transaction → Type 0
  IsDone t = HasAnswer t (answers_after n net) → map access_made (events_of t.number (events_after n net)) ≡ map access_due (bytes_due t)

  abbrev SeesLatest : Transaction → Type 0
  SeesLatest t =
      (earlier later : List Event) (e : Event) → events_after n net ≡ earlier ++ e ∷ later → e.number ≡ t.number → e.write ≡ false →
      e.value ≡ value_after (is_write_at e.node e.address) (λ (x : Event). x.value) t.fill earlier

  pub delivered : Delivered (transactions_of net forms) (events_after n net) (answers_after n net)
  delivered = record {
    belongs = belongs net forms sound n;
    in_burst_order = all-transactions net forms Begins (λ node s is place item at. item-begins net forms sound node s place item (record { is = is; at = at }) n);
    whole = all-transactions net forms IsDone (λ node s is place item at. whole-by node s place item (record { is = is; at = at }));
    reads_latest = all-transactions net forms SeesLatest (λ node s is place item at. item-latest net forms sound node s place item (record { is = is; at = at }) n);
  }

  pub has-response : All (λ (a : Answer). Any (λ (t : Transaction). (t.number ≡ a.number) × (a.responses ≡ t.response)) (transactions_of net forms)) (answers_after n net)
  has-response =
      all-answered net forms sound n (λ (a : Answer). Any (λ (t : Transaction). (t.number ≡ a.number) × (a.responses ≡ t.response)) (transactions_of net forms))
      (λ node s place item own answered.
      any-transaction net forms (λ (t : Transaction). (t.number ≡ item.txn.number) × ((note_after net s n place).resps ≡ t.response)) node s own.is place item own.at (refl, responses-noted net forms sound node s place item own n answered))

  pub event-before_answer : All (λ (a : Answer). All (λ (e : Event). e.number ≡ a.number → e.round < a.round) (events_after n net)) (answers_after n net)
  event-before_answer =
      all-answered net forms sound n (λ (a : Answer). All (λ (e : Event). e.number ≡ a.number → e.round < a.round) (events_after n net))
      (λ node s place item own answered. early-by node s place item own answered)

  -- an answer has the bytes that were read
  pub has-bytes : All (λ (t : Transaction). All (HasItsBytes (events_after n net) t) (answers_after n net)) (transactions_of net forms)
  has-bytes =
      all-transactions net forms (λ (t : Transaction). All (HasItsBytes (events_after n net) t) (answers_after n net)) (λ node s is place item at.
      all-answered net forms sound n (HasItsBytes (events_after n net) (due_of net forms node s item)) (λ l y r v other answered same.
      let own : IsItem net node s place item = record { is = is; at = at } in
      let one = same-note node l s y place r item v own other same in
      let noted : 0 < (note_after net s n place).answered = subst (λ (a : AnswerView). 0 < a.answered) one answered in
      ap (λ (a : AnswerView). a.bytes) one
      ∙ elim (cases_Bool item.txn.write) [
        | inl writes ↦
            (write-note net forms sound node s place item own n writes).bytes
            ∙ sym (ap (λ (b : Bool). cond b [] (answered_bytes (map (λ (x : NamedByte). x.allowed) (due_of net forms node s item).bytes) (values_of item.txn.number (events_after n net)))) writes)
        | inr reads ↦
            bytes-noted net forms sound node s place item own reads n noted
            ∙ sym (ap (λ (b : Bool). cond b [] (answered_bytes (map (λ (x : NamedByte). x.allowed) (due_of net forms node s item).bytes) (values_of item.txn.number (events_after n net)))) reads)
      ]))
