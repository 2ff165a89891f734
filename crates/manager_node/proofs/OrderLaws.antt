-- The rounds that a manager notes are in order.
use Rattle.std.proofs.Common.{◌≡◌, ◌⊎◌, ◌+◌, ◌<◌, ◌≤◌, ℕ, suc, Bool, true, false, cond, List, [], Some, length, take, drop, get_or, refl, sym, ◌∙◌, ap, subst, inl, inr, arith, length-take, length-drop, get_or-drop, get_or-take}
use Rattle.std.specs.Prelude.{count_by, slice_get}
use Rattle.std.proofs.lemmas.Bool.{cases_lt}
use Rattle.std.proofs.lemmas.List.Sums.{count_by-le-length, sum_by-take-drop}
use Rattle.std.proofs.lemmas.Option.{get_or_from_slice_get, same_Some, slice_get-get_or, slice_get_within}
use Rattle.axi_beats.specs.declared.response.Resp.{Resp}
use Rattle.axi_link.specs.LinkView.{LinkView}
use Rattle.node_core.specs.declared.paces.Paces.{Paces}
use Rattle.manager_node.specs.Answer.{AnswerView, answered_in, is_last, unanswered}
use Rattle.manager_node.specs.ManagerOrder.{AreInOrder, AreOfDirection, AreOfId, IsAt, Notes, NotesStay, note_at}
use Rattle.manager_node.specs.ManagerState.{ManagerState, IsManager, is_answered, issued_of, new_manager}
use Rattle.manager_node.specs.ManagerTable.{manager_next}
use Rattle.manager_node.specs.Script.{ScriptItem}
use Rattle.manager_node.specs.declared.entry.Entry.{Entry}
use Rattle.manager_node.proofs.AfterLemmas.{after-holds}
use Rattle.manager_node.proofs.DueLemmas.{last-answers, more-answers}
use Rattle.manager_node.proofs.EntryLemmas.{answered-none, entries-stay, some-answered, taken-is, taken-first}
use Rattle.manager_node.proofs.IssueLemmas.{new-note}
use Rattle.manager_node.proofs.NoteLemmas.{Kept, Wrote, Read, Issued, change-of, b-taken, r-taken, next_of, next-after, next-found, next-waits, taken_of, taken-waits}
use Rattle.manager_node.proofs.PlaceLemmas.{direction-at, direction-before, direction-of}
use Rattle.manager_node.proofs.TurnLemmas.{Same, Came, Went, leaving-taken, leaving_of, turn-of}
use Rattle.plain_lists.proofs.PlaceLemmas.{all-counted, item-there, some-counted}

-- the next transaction isn't noted as issued
pub next-unissued : (links : List LinkView) (s : ManagerState) → IsManager s → (write : Bool) (p : ℕ × ScriptItem) → next_of links s write ≡ Some p → (note_at s p.0).issued ≡ 0
next-unissued links s is write p next =
    let noted = (is.issues write (issued_of write s) p (next-found links s write p next)).0
    in elim (cases_lt 0 (note_at s p.0).issued) [ inl some ↦ let less = noted some in absurd (omega arith) | inr none ↦ omega arith ]

pub notes-stay : NotesStay
notes-stay round links s counts is place =
    let open_still : (write : Bool) (e : Entry) → taken_of links s write ≡ Some e → place ≡ e.place → (note_at s place).answered ≡ 0 = λ write e taken here. ap (λ (q : ℕ). (note_at s q).answered) here ∙ (taken-waits links s is write e taken).answered
    in elim (change-of links s round place is) [
      | Kept e ↦ record { issued = inl (ap (λ a. a.issued) e); answered = inl (ap (λ a. a.answered) e); stays = λ some. e }
      | Wrote x at here e ↦
          let none = open_still true x.0 (b-taken links s is x at) here
          in record { issued = inl (ap (λ a. a.issued) e); answered = noted-answer round x.1.resp [] (note_at s place) (note_at (manager_next round links s) place) none e; stays = λ some. absurd (omega arith) }
      | Read x at here item item_at e ↦
          let none = open_still false x.0 (r-taken links s is x at) here
          in record { issued = inl (ap (λ a. a.issued) e); answered = noted-answer round x.1.resp _ (note_at s place) (note_at (manager_next round links s) place) none e; stays = λ some. absurd (omega arith) }
      | Issued write p next here e ↦
          let unissued : (note_at s place).issued ≡ 0 = ap (λ (q : ℕ). (note_at s q).issued) here ∙ next-unissued links s is write p next
          in let none : (note_at s place).answered ≡ 0 = ap (λ (q : ℕ). (note_at s q).answered) here ∙ (next-waits links s is write p next).answered
          in record { issued = inr (unissued, ap (λ a. a.issued) e); answered = inl (ap (λ a. a.answered) e); stays = λ some. absurd (omega arith) }
    ]
  where
    -- an answer is the last one, or not
    noted-answer : (round : ℕ) (resp : Resp) (bytes : List ℕ) (before after : AnswerView) → before.answered ≡ 0 → after ≡ answered_in round resp bytes before → (after.answered ≡ before.answered) ⊎ ((before.answered ≡ 0) × (after.answered ≡ round))
    noted-answer round resp bytes before after none e =
        let go : (b : Bool) → is_last before ≡ b → (after.answered ≡ before.answered) ⊎ ((before.answered ≡ 0) × (after.answered ≡ round)) =
        elim [
          | true ↦ λ last. inr (none, ap (λ (a : AnswerView). a.answered) e ∙ last-answers round resp bytes before last)
          | false ↦ λ some. inl (ap (λ (a : AnswerView). a.answered) e ∙ more-answers round resp bytes before some)
        ]
        in go (is_last before) refl

-- a manager that has issued nothing
pub order-begins : (script : List ScriptItem) (lower bus : ℕ) (paces : Paces) → AreInOrder 0 (new_manager script lower bus paces)
order-begins script lower bus paces =
    let unissued : (place : ℕ) → (note_at (new_manager script lower bus paces) place).issued ≡ 0 = λ place. new-note (λ a. a.issued ≡ 0) script place (λ resps bytes. refl)
    in let none : (place : ℕ) → (note_at (new_manager script lower bus paces) place).answered ≡ 0 = λ place. new-note (λ a. a.answered ≡ 0) script place (λ resps bytes. refl)
    in record {
      issues_past = λ place. omega (arith, unissued place);
      answers_past = λ place. omega (arith, none place);
      issue_first = λ place some. absurd (omega (arith, none place));
      issues = λ earlier later pair some. absurd (omega (arith, unissued later));
      answers = λ earlier later pair some. absurd (omega (arith, none later));
      waiting = elim [ true ↦ refl | false ↦ refl ];
      waits = λ before place item at less some. absurd (omega (arith, unissued place));
    }

-- as many as a transaction waits for are answered: then all before it are that it waits for
module _ (s : ManagerState) (is : IsManager s) (rounds : ℕ) (order : AreInOrder rounds s) where
  item-of : (q : ℕ) → q < length s.answers → (item : ScriptItem) × (IsAt s q item)
  item-of q within = item-there s.script q (subst (λ (size : ℕ). q < size) is.one_each within)

  pub all-before : (place : ℕ) (item : ScriptItem) → IsAt s place item → item.txn.after ≤ s.answered → (before : ℕ) → before < item.txn.after → 0 < (note_at s before).answered
  all-before place item at enough before less =
      let counts = sum_by-take-drop (λ (a : AnswerView). cond (is_answered a) 1 0) s.answers item.txn.after
      in let most = count_by-le-length is_answered (take item.txn.after s.answers)
      in elim (cases_lt 0 (count_by is_answered (drop item.txn.after s.answers))) [
        | inl some ↦
            let found : (n : ℕ) × (a : AnswerView) × (slice_get (drop item.txn.after s.answers) n ≡ Some a) × (is_answered a ≡ true) = some-counted is_answered (drop item.txn.after s.answers) some
            in let here : get_or s.answers (item.txn.after + found.0) (unanswered 0) ≡ found.1 =
            sym (get_or-drop item.txn.after s.answers found.0 (unanswered 0)) ∙ get_or_from_slice_get (drop item.txn.after s.answers) found.0 found.1 (unanswered 0) found.2
            in let within : item.txn.after + found.0 < length s.answers = let inside = slice_get_within (drop item.txn.after s.answers) found.0 found.1 found.2 in omega (arith, length-drop item.txn.after s.answers)
            in let other = item-of (item.txn.after + found.0) within
            in let came : 0 < (note_at s (item.txn.after + found.0)).answered = some-answered (note_at s (item.txn.after + found.0)) (ap is_answered here ∙ found.3)
            in let issued = (order.issue_first (item.txn.after + found.0) came).0
            in let holds = after-holds s.script is.is_script place item (item.txn.after + found.0) other.0 at other.1 (omega arith)
            in (order.waits before (item.txn.after + found.0) other.0 other.1 (omega arith) issued).0
        | inr none ↦
            let whole : count_by is_answered (take item.txn.after s.answers) ≡ length (take item.txn.after s.answers) = omega (arith, length-take item.txn.after s.answers, is.counted)
            in let within : before < length (take item.txn.after s.answers) = omega (arith, length-take item.txn.after s.answers, is.counted)
            in let each = all-counted is_answered (take item.txn.after s.answers) before (get_or (take item.txn.after s.answers) before (unanswered 0)) whole (slice_get-get_or (take item.txn.after s.answers) before (unanswered 0) within)
            in some-answered (note_at s before) (ap is_answered (sym (get_or-take item.txn.after s.answers before (unanswered 0) less)) ∙ each)
      ]

module _ (rounds : ℕ) (links : List LinkView) (s : ManagerState) (is : IsManager s) (order : AreInOrder rounds s) where
  notes : (q : ℕ) → Notes (suc rounds) (note_at s q) (note_at (manager_next (suc rounds) links s) q)
  notes q = notes-stay (suc rounds) links s (omega arith) is q

  -- a round that is noted stays
  issue-kept : (q : ℕ) → 0 < (note_at s q).issued → (note_at (manager_next (suc rounds) links s) q).issued ≡ (note_at s q).issued
  issue-kept q some = elim (notes q).issued [ inl same ↦ same | inr new ↦ absurd (omega (arith, new.0)) ]

  answer-kept : (q : ℕ) → 0 < (note_at s q).answered → (note_at (manager_next (suc rounds) links s) q).answered ≡ (note_at s q).answered
  answer-kept q some = ap (λ a. a.answered) ((notes q).stays some)

  past-issue : (q : ℕ) → (note_at (manager_next (suc rounds) links s) q).issued ≤ suc rounds
  past-issue q = elim (notes q).issued [ inl same ↦ omega (arith, order.issues_past q) | inr new ↦ omega (arith, new.1) ]

  past-answer : (q : ℕ) → (note_at (manager_next (suc rounds) links s) q).answered ≤ suc rounds
  past-answer q = elim (notes q).answered [ inl same ↦ omega (arith, order.answers_past q) | inr new ↦ omega (arith, new.1) ]

  -- an entry whose answer is taken was issued
  taken-issued : (write : Bool) (e : Entry) → leaving_of links s write ≡ Some e → 0 < (note_at s e.place).issued
  taken-issued write e taken =
      let from = taken-is links s is order.waiting write e (leaving-taken links s is write e taken).0
      in subst (λ (entry : Entry). 0 < (note_at s entry.place).issued) from.4 ((is.issues write from.0 from.1 from.2).1 from.3)

  first-issued : (q : ℕ) → 0 < (note_at (manager_next (suc rounds) links s) q).answered → (0 < (note_at (manager_next (suc rounds) links s) q).issued) × ((note_at (manager_next (suc rounds) links s) q).issued < (note_at (manager_next (suc rounds) links s) q).answered)
  first-issued q some = elim (turn-of links s (suc rounds) q is) [
    | Same answered issued ↦ let before = order.issue_first q (omega arith) in (omega (arith, before.0), omega (arith, before.1))
    | Came write e taken here answered issued ↦
        let was : 0 < (note_at s q).issued = subst (λ (place : ℕ). 0 < (note_at s place).issued) (sym here) (taken-issued write e taken)
        in let past = order.issues_past q
        in (omega arith, omega arith)
    | Went write p next here issued answered ↦
        let none : (note_at s q).answered ≡ 0 = ap (λ (place : ℕ). (note_at s place).answered) here ∙ (next-waits links s is write p next).answered
        in absurd (omega arith)
  ]

  -- of one direction, an issue was noted before
  issue-before : (earlier later : ℕ) → 0 < (note_at s earlier).issued → (note_at s earlier).issued < (note_at (manager_next (suc rounds) links s) later).issued →
      (0 < (note_at (manager_next (suc rounds) links s) earlier).issued) × ((note_at (manager_next (suc rounds) links s) earlier).issued < (note_at (manager_next (suc rounds) links s) later).issued)
  issue-before earlier later some less = let kept = issue-kept earlier some in (omega arith, omega arith)

  issues-in-order : (earlier later : ℕ) → AreOfDirection s earlier later → 0 < (note_at (manager_next (suc rounds) links s) later).issued →
      (0 < (note_at (manager_next (suc rounds) links s) earlier).issued) × ((note_at (manager_next (suc rounds) links s) earlier).issued < (note_at (manager_next (suc rounds) links s) later).issued)
  issues-in-order earlier later pair some =
      let kept : (note_at (manager_next (suc rounds) links s) later).issued ≡ (note_at s later).issued → (0 < (note_at (manager_next (suc rounds) links s) earlier).issued) × ((note_at (manager_next (suc rounds) links s) earlier).issued < (note_at (manager_next (suc rounds) links s) later).issued) =
      λ same. let before = order.issues earlier later pair (omega arith) in issue-before earlier later before.0 (omega (arith, before.1))
      in elim (turn-of links s (suc rounds) later is) [
        | Same answered issued ↦ kept issued
        | Came write e taken here answered issued ↦ kept issued
        | Went write p next here issued answered ↦
            let at_p = direction-at write s.script (issued_of write s) p (next-found links s write p next)
            in let one : pair.second ≡ p.1 = same_Some pair.second p.1 (sym pair.at_later ∙ ap (slice_get s.script) here ∙ at_p.0)
            in let way : pair.first.txn.write ≡ write = pair.direction ∙ ap (λ (i : ScriptItem). i.txn.write) one ∙ at_p.1
            in let first = direction-of write s.script earlier pair.first pair.at_earlier way
            in let less = direction-before write s.script first.0 (issued_of write s) (earlier, pair.first) p first.1 (next-found links s write p next) (subst (λ (q : ℕ). earlier < q) here pair.order)
            in let was : 0 < (note_at s earlier).issued = (is.issues write first.0 (earlier, pair.first) first.1).1 less
            in issue-before earlier later was (omega (arith, order.issues_past earlier))
      ]

  answer-before : (earlier later : ℕ) → 0 < (note_at s earlier).answered → (note_at s earlier).answered < (note_at (manager_next (suc rounds) links s) later).answered →
      (0 < (note_at (manager_next (suc rounds) links s) earlier).answered) × ((note_at (manager_next (suc rounds) links s) earlier).answered < (note_at (manager_next (suc rounds) links s) later).answered)
  answer-before earlier later some less = let kept = answer-kept earlier some in (omega arith, omega arith)

  answers-in-order : (earlier later : ℕ) → AreOfId s earlier later → 0 < (note_at (manager_next (suc rounds) links s) later).answered →
      (0 < (note_at (manager_next (suc rounds) links s) earlier).answered) × ((note_at (manager_next (suc rounds) links s) earlier).answered < (note_at (manager_next (suc rounds) links s) later).answered)
  answers-in-order earlier later pair some =
      let kept : (note_at (manager_next (suc rounds) links s) later).answered ≡ (note_at s later).answered → (0 < (note_at (manager_next (suc rounds) links s) earlier).answered) × ((note_at (manager_next (suc rounds) links s) earlier).answered < (note_at (manager_next (suc rounds) links s) later).answered) =
      λ same. let before = order.answers earlier later pair (omega arith) in answer-before earlier later before.0 (omega (arith, before.1))
      in elim (turn-of links s (suc rounds) later is) [
        | Same answered issued ↦ kept answered
        | Went write p next here issued answered ↦ kept answered
        | Came write e taken here answered issued ↦
            elim (cases_lt 0 (note_at s earlier).answered) [
              | inl was ↦ answer-before earlier later was (omega (arith, order.answers_past earlier))
              | inr none ↦ absurd (overtaken earlier later pair write e taken here (omega arith))
            ]
      ]
    where
      -- an earlier one of the ID that isn't answered would have been taken
      overtaken : (earlier later : ℕ) → (pair : AreOfId s earlier later) → (write : Bool) (e : Entry) → leaving_of links s write ≡ Some e → later ≡ e.place → (note_at s earlier).answered ≡ 0 → ⊥
      overtaken earlier later pair write e taken here none =
          let from = taken-is links s is order.waiting write e (leaving-taken links s is write e taken).0
          in let at_p = direction-at write s.script from.0 from.1 from.2
          in let place : from.1.0 ≡ e.place = ap (λ (entry : Entry). entry.place) from.4
          in let one : pair.of_direction.second ≡ from.1.1 = same_Some pair.of_direction.second from.1.1 (sym pair.of_direction.at_later ∙ ap (slice_get s.script) (here ∙ sym place) ∙ at_p.0)
          in let way : pair.of_direction.first.txn.write ≡ write = pair.of_direction.direction ∙ ap (λ (i : ScriptItem). i.txn.write) one ∙ at_p.1
          in let id : pair.of_direction.first.txn.request.id ≡ e.id = pair.id ∙ ap (λ (i : ScriptItem). i.txn.request.id) one ∙ ap (λ (entry : Entry). entry.id) from.4
          in let was : 0 < (note_at s later).issued = subst (λ (q : ℕ). 0 < (note_at s q).issued) (sym here) (taken-issued write e taken)
          in let issued = (order.issues earlier later pair.of_direction was).0
          in let first = direction-of write s.script earlier pair.of_direction.first pair.of_direction.at_earlier way
          in let less = (is.issues write first.0 (earlier, pair.of_direction.first) first.1).0 issued
          in let least = taken-first links s is order.waiting write e (leaving-taken links s is write e taken).0 first.0 (earlier, pair.of_direction.first) first.1 less (answered-none (note_at s earlier) none) id
          in let before = pair.of_direction.order
          in omega arith

  waits-in-order : (before place : ℕ) (item : ScriptItem) → IsAt s place item → before < item.txn.after → 0 < (note_at (manager_next (suc rounds) links s) place).issued →
      (0 < (note_at (manager_next (suc rounds) links s) before).answered) × ((note_at (manager_next (suc rounds) links s) before).answered < (note_at (manager_next (suc rounds) links s) place).issued)
  waits-in-order before place item at less some =
      let since : 0 < (note_at s before).answered → (note_at s before).answered < (note_at (manager_next (suc rounds) links s) place).issued → (0 < (note_at (manager_next (suc rounds) links s) before).answered) × ((note_at (manager_next (suc rounds) links s) before).answered < (note_at (manager_next (suc rounds) links s) place).issued) =
      λ came early. let kept = answer-kept before came in (omega arith, omega arith)
      in let old : (note_at (manager_next (suc rounds) links s) place).issued ≡ (note_at s place).issued → (0 < (note_at (manager_next (suc rounds) links s) before).answered) × ((note_at (manager_next (suc rounds) links s) before).answered < (note_at (manager_next (suc rounds) links s) place).issued) =
      λ same. let was = order.waits before place item at less (omega arith) in since was.0 (omega (arith, was.1))
      in elim (turn-of links s (suc rounds) place is) [
        | Same answered issued ↦ old issued
        | Came write e taken here answered issued ↦ old issued
        | Went write p next here issued answered ↦
            let at_p = direction-at write s.script (issued_of write s) p (next-found links s write p next)
            in let one : p.1 ≡ item = same_Some p.1 item (sym at_p.0 ∙ ap (slice_get s.script) (sym here) ∙ at)
            in let enough : item.txn.after ≤ s.answered = subst (λ (i : ScriptItem). i.txn.after ≤ s.answered) one (next-after links s write p next)
            in since (all-before s is rounds order place item at enough before less) (omega (arith, order.answers_past before))
      ]

  -- the rounds that are noted are in order after a round
  pub order-stays : AreInOrder (suc rounds) (manager_next (suc rounds) links s)
  order-stays = record {
    issues_past = past-issue;
    answers_past = past-answer;
    issue_first = first-issued;
    issues = λ earlier later pair. issues-in-order earlier later (record { first = pair.first; second = pair.second; at_earlier = pair.at_earlier; at_later = pair.at_later; order = pair.order; direction = pair.direction });
    answers = λ earlier later pair. answers-in-order earlier later (record {
      of_direction = record { first = pair.of_direction.first; second = pair.of_direction.second; at_earlier = pair.of_direction.at_earlier; at_later = pair.of_direction.at_later; order = pair.of_direction.order; direction = pair.of_direction.direction };
      id = pair.id;
    });
    waiting = entries-stay links s is order.waiting (suc rounds) (omega arith);
    waits = waits-in-order;
  }
