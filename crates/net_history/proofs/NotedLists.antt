-- The issues and answers of a manager's notes: each is of one place of the script, and the notes of all places are there.
use Rattle.std.proofs.Common.{◌≡◌, ◌<◌, ◌∷◌, [], ℕ, zero, suc, List, Option, Some, None, Bool, true, false, cond, length, refl, sym, ap, ◌∙◌, subst, arith}
use Rattle.std.specs.Prelude.{All, AllPairs, Any, IfSome, nat_lt, slice_get, slice_index_or, zip}
use Rattle.std.specs.List.{cons_option, filter_map}
use Rattle.std.proofs.lemmas.Bool.{ltb-true, lt-ltb}
use Rattle.std.proofs.lemmas.List.Elements.{All-cons, All-nil}
use Rattle.std.proofs.lemmas.List.Kept.{AllPairs-cons}
use Rattle.axi_history.specs.Records.{Answer, Issue}
use Rattle.manager_node.specs.Answer.{AnswerView, unanswered}
use Rattle.manager_node.specs.ManagerState.{is_answered}
use Rattle.manager_node.specs.Script.{ScriptItem}
use Rattle.net_history.proofs.ListLemmas.{Any-first, Any-later}
use Rattle.net_history.specs.History.{answer_noted, issue_noted}
use Rattle.plain_lists.proofs.PlaceLemmas.{at-all}

-- what is made of each transaction and its note, where something is
module _ {Y : Type 0} (made : ScriptItem × AnswerView → Option Y) where
  all-kept : (P : Y → Type 0) (o : Option Y) (ys : List Y) → IfSome o P → All P ys → All P (cons_option o ys)
  all-kept P None ys has all = all
  all-kept P (Some y) ys has all = All-cons P y ys has all

  any-kept : (P : Y → Type 0) (o : Option Y) (ys : List Y) → Any P ys → Any P (cons_option o ys)
  any-kept P None ys found = found
  any-kept P (Some y) ys found = Any-later P y ys found

  -- what holds of each place holds of all that is made
  pub all-made :
      (P : Y → Type 0) (script : List ScriptItem) (answers : List AnswerView) →
      ((place : ℕ) (item : ScriptItem) → slice_get script place ≡ Some item → IfSome (made (item, slice_index_or answers place (unanswered 0))) P) →
      All P (filter_map made (zip script answers))
  all-made P [] answers each = All-nil P
  all-made P (item ∷ script) [] each = All-nil P
  all-made P (item ∷ script) (answer ∷ answers) each =
      all-kept P (made (item, answer)) (filter_map made (zip script answers)) (each 0 item refl) (all-made P script answers (λ place other at. each (suc place) other at))

  -- what is made of a place is there
  pub any-made :
      (P : Y → Type 0) (script : List ScriptItem) (answers : List AnswerView) (place : ℕ) (item : ScriptItem) (y : Y) → slice_get script place ≡ Some item → place < length answers →
      made (item, slice_index_or answers place (unanswered 0)) ≡ Some y → P y → Any P (filter_map made (zip script answers))
  any-made P [] answers place item y at within is has = absurd (cc)
  any-made P (first ∷ script) [] place item y at within is has = absurd (omega arith)
  any-made P (first ∷ script) (answer ∷ answers) zero item y at within is has =
      let same : first ≡ item = cc in
      let here : made (first, answer) ≡ Some y = ap (λ (i : ScriptItem). made (i, answer)) same ∙ is in
      subst (λ (o : Option Y). Any P (cons_option o (filter_map made (zip script answers)))) (sym here) (Any-first P y (filter_map made (zip script answers)) has)
  any-made P (first ∷ script) (answer ∷ answers) (suc place) item y at within is has =
      any-kept P (made (first, answer)) (filter_map made (zip script answers)) (any-made P script answers place item y at (omega arith) is has)

  -- what is made of transactions in order of number is in order of number
  module _ (number_of : Y → ℕ) (own : (p : ScriptItem × AnswerView) → IfSome (made p) (λ y. number_of y ≡ p.0.txn.number)) where
    pairs-kept : (o : Option Y) (ys : List Y) → IfSome o (λ y. All (λ z. number_of y < number_of z) ys) → AllPairs (λ y z. number_of y < number_of z) ys → AllPairs (λ y z. number_of y < number_of z) (cons_option o ys)
    pairs-kept None ys above rising = rising
    pairs-kept (Some y) ys above rising = AllPairs-cons (λ y z. number_of y < number_of z) y ys above rising

    above-all : (n : ℕ) (o : Option Y) (ys : List Y) → IfSome o (λ y. number_of y ≡ n) → All (λ z. n < number_of z) ys → IfSome o (λ y. All (λ z. number_of y < number_of z) ys)
    above-all n None ys is all = tt
    above-all n (Some y) ys is all = subst (λ (m : ℕ). All (λ z. m < number_of z) ys) (sym is) all

    numbered-above : (n : ℕ) (p : ScriptItem × AnswerView) → n < p.0.txn.number → IfSome (made p) (λ z. n < number_of z)
    numbered-above n p less = by (made p) (own p)
      where
        by : (o : Option Y) → IfSome o (λ y. number_of y ≡ p.0.txn.number) → IfSome o (λ z. n < number_of z)
        by None is = tt
        by (Some y) is = subst (λ (m : ℕ). n < m) (sym is) less

    pub made-rise : (script : List ScriptItem) (answers : List AnswerView) → AllPairs (λ (a b : ScriptItem). a.txn.number < b.txn.number) script → AllPairs (λ y z. number_of y < number_of z) (filter_map made (zip script answers))
    made-rise [] answers numbered = λ i j d less within. absurd (omega arith)
    made-rise (item ∷ script) [] numbered = λ i j d less within. absurd (omega arith)
    made-rise (item ∷ script) (answer ∷ answers) numbered =
        let later : All (λ (other : ScriptItem). item.txn.number < other.txn.number) script = λ k d lt. numbered 0 (suc k) d (omega arith) (omega arith) in
        let rest = filter_map made (zip script answers) in
        let all : All (λ z. item.txn.number < number_of z) rest =
        all-made (λ z. item.txn.number < number_of z) script answers (λ place other at. numbered-above item.txn.number (other, slice_index_or answers place (unanswered 0)) (at-all (λ (other : ScriptItem). item.txn.number < other.txn.number) script place other later at)) in
        pairs-kept (made (item, answer)) rest (above-all item.txn.number (made (item, answer)) rest (own (item, answer)) all)
        (made-rise script answers (λ i j d less within. numbered (suc i) (suc j) d (omega arith) (omega arith)))

-- an issue and its round
abbrev pub issue_at : ScriptItem → AnswerView → Issue
issue_at item note = record { number = item.txn.number; round = note.issued }

-- an answer, its round and what came
abbrev pub answer_at : ScriptItem → AnswerView → Answer
answer_at item note = record { number = item.txn.number; round = note.answered; responses = note.resps; bytes = note.bytes }

chosen-one : {X : Type 0} (P : X → Type 0) (b : Bool) (x : X) → (b ≡ true → P x) → IfSome (cond b (Some x) None) P
chosen-one P true x has = has refl
chosen-one P false x has = tt

chosen-is : {X : Type 0} (b : Bool) (x : X) → b ≡ true → cond b (Some x) None ≡ Some x
chosen-is true x is = refl
chosen-is false x is = absurd (cc)

module _ (script : List ScriptItem) (answers : List AnswerView) where
  pub all-issues :
      (P : Issue → Type 0) → ((place : ℕ) (item : ScriptItem) → slice_get script place ≡ Some item → 0 < (slice_index_or answers place (unanswered 0)).issued → P (issue_at item (slice_index_or answers place (unanswered 0)))) →
      All P (filter_map issue_noted (zip script answers))
  all-issues P each =
      all-made issue_noted P script answers (λ place item at.
      let note = slice_index_or answers place (unanswered 0) in
      chosen-one P (nat_lt 0 note.issued) (issue_at item note) (λ is. each place item at (ltb-true 0 note.issued is)))

  pub any-issue :
      (P : Issue → Type 0) (place : ℕ) (item : ScriptItem) → slice_get script place ≡ Some item → place < length answers → 0 < (slice_index_or answers place (unanswered 0)).issued →
      P (issue_at item (slice_index_or answers place (unanswered 0))) → Any P (filter_map issue_noted (zip script answers))
  any-issue P place item at within issued has =
      let note = slice_index_or answers place (unanswered 0) in
      any-made issue_noted P script answers place item (issue_at item note) at within (chosen-is (nat_lt 0 note.issued) (issue_at item note) (lt-ltb 0 note.issued issued)) has

  pub all-answers :
      (P : Answer → Type 0) → ((place : ℕ) (item : ScriptItem) → slice_get script place ≡ Some item → 0 < (slice_index_or answers place (unanswered 0)).answered → P (answer_at item (slice_index_or answers place (unanswered 0)))) →
      All P (filter_map answer_noted (zip script answers))
  all-answers P each =
      all-made answer_noted P script answers (λ place item at.
      let note = slice_index_or answers place (unanswered 0) in
      chosen-one P (is_answered note) (answer_at item note) (λ is. each place item at (ltb-true 0 note.answered is)))

  pub any-answer :
      (P : Answer → Type 0) (place : ℕ) (item : ScriptItem) → slice_get script place ≡ Some item → place < length answers → 0 < (slice_index_or answers place (unanswered 0)).answered →
      P (answer_at item (slice_index_or answers place (unanswered 0))) → Any P (filter_map answer_noted (zip script answers))
  any-answer P place item at within answered has =
      let note = slice_index_or answers place (unanswered 0) in
      any-made answer_noted P script answers place item (answer_at item note) at within (chosen-is (is_answered note) (answer_at item note) (lt-ltb 0 note.answered answered)) has

  -- the answers are in order of their numbers
  pub answers-rise : AllPairs (λ (a b : ScriptItem). a.txn.number < b.txn.number) script → AllPairs (λ (a b : Answer). a.number < b.number) (filter_map answer_noted (zip script answers))
  answers-rise numbered = made-rise answer_noted (λ (a : Answer). a.number) (λ p. chosen-one (λ (a : Answer). a.number ≡ p.0.txn.number) (is_answered p.1) (answer_at p.0 p.1) (λ is. refl)) script answers numbered

  -- and so are the issues
  pub issues-rise : AllPairs (λ (a b : ScriptItem). a.txn.number < b.txn.number) script → AllPairs (λ (i j : Issue). i.number < j.number) (filter_map issue_noted (zip script answers))
  issues-rise numbered = made-rise issue_noted (λ (i : Issue). i.number) (λ p. chosen-one (λ (i : Issue). i.number ≡ p.0.txn.number) (nat_lt 0 p.1.issued) (issue_at p.0 p.1) (λ is. refl)) script answers numbered
