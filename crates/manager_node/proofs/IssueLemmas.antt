-- The issues that a manager has noted.
use Rattle.std.proofs.Common.{◌≡◌, ℕ, ◌+◌, ◌<◌, zero, suc, Bool, true, false, List, [], ◌∷◌, Option, Some, None, map, get_or, refl, sym, ◌∙◌, ap, subst, inl, inr, arith}
use Rattle.std.specs.Prelude.{is_some, slice_get}
use Rattle.std.proofs.lemmas.Bool.{cases_lt}
use Rattle.std.proofs.lemmas.Option.{same_Some}
use Rattle.axi_link.specs.LinkView.{LinkView}
use Rattle.node_core.specs.declared.paces.Paces.{Paces}
use Rattle.manager_node.specs.Answer.{AnswerView, awaited_of, unanswered, issued_in}
use Rattle.manager_node.specs.ManagerOrder.{note_at}
use Rattle.manager_node.specs.ManagerState.{ManagerState, IsManager, NotesIssues, due_bytes, due_resps, issued_of, new_manager, of_direction}
use Rattle.manager_node.specs.ManagerTable.{manager_next, more}
use Rattle.manager_node.specs.Script.{ScriptItem}
use Rattle.manager_node.proofs.NoteLemmas.{Kept, Wrote, Read, Issued, change-of, aw-noted, ar-noted, next_of, next-found}
use Rattle.manager_node.proofs.PlaceLemmas.{direction-at, direction-once}

-- what is noted of each transaction of a new manager
pub new-note : (P : AnswerView → Type 0) (script : List ScriptItem) (place : ℕ) → ((resps bytes : ℕ) → P (awaited_of resps bytes)) → P (get_or (map (λ (item : ScriptItem). awaited_of (due_resps item.txn) (due_bytes item.txn)) script) place (unanswered 0))
new-note P [] place all = all 1 0
new-note P (item ∷ items) zero all = all (due_resps item.txn) (due_bytes item.txn)
new-note P (item ∷ items) (suc place) all = new-note P items place all

none-issued : (write : Bool) (script : List ScriptItem) (lower bus : ℕ) (paces : Paces) → issued_of write (new_manager script lower bus paces) ≡ 0
none-issued true script lower bus paces = refl
none-issued false script lower bus paces = refl

pub issues-begin : (script : List ScriptItem) (lower bus : ℕ) (paces : Paces) → NotesIssues (new_manager script lower bus paces)
issues-begin script lower bus paces write n p at =
    let none : (note_at (new_manager script lower bus paces) p.0).issued ≡ 0 = new-note (λ a. a.issued ≡ 0) script p.0 (λ resps bytes. refl)
    in let zero_issued = none-issued write script lower bus paces
    in (λ some. absurd (omega arith), λ less. absurd (omega arith))

module _ (links : List LinkView) (s : ManagerState) where
  -- how many of a direction are issued after a round
  pub issued-next : (round : ℕ) (write : Bool) → issued_of write (manager_next round links s) ≡ issued_of write s + more (is_some (next_of links s write))
  issued-next round true = refl
  issued-next round false = refl

  -- transactions at one place are one, and of one direction
  pub one-place : (write other : Bool) (n m : ℕ) (p q : ℕ × ScriptItem) → slice_get (of_direction write s.script) n ≡ Some p → slice_get (of_direction other s.script) m ≡ Some q → p.0 ≡ q.0 → (write ≡ other) × (p.1 ≡ q.1)
  one-place write other n m p q at_p at_q same =
      let p_at = direction-at write s.script n p at_p
      in let q_at = direction-at other s.script m q at_q
      in let one : p.1 ≡ q.1 = same_Some p.1 q.1 (sym p_at.0 ∙ ap (slice_get s.script) same ∙ q_at.0)
      in (sym p_at.1 ∙ ap (λ (item : ScriptItem). item.txn.write) one ∙ q_at.1, one)

  module _ (round : ℕ) (counts : 0 < round) (is : IsManager s) where
    -- the note of a transaction that is issued
    pub next-noted : (write : Bool) (p : ℕ × ScriptItem) → next_of links s write ≡ Some p → note_at (manager_next round links s) p.0 ≡ issued_in round (note_at s p.0)
    next-noted true p next = aw-noted links s is round p next
    next-noted false p next = ar-noted links s is round p next

    -- a noted issue stays
    pub issue-stays : (q : ℕ) → 0 < (note_at s q).issued → 0 < (note_at (manager_next round links s) q).issued
    issue-stays q some = elim (change-of links s round q is) [
      | Kept e ↦ subst (λ (a : AnswerView). 0 < a.issued) (sym e) some
      | Wrote x at here e ↦ subst (λ (a : AnswerView). 0 < a.issued) (sym e) some
      | Read x at here item at_item e ↦ subst (λ (a : AnswerView). 0 < a.issued) (sym e) some
      | Issued write p next here e ↦ subst (λ (a : AnswerView). 0 < a.issued) (sym e) counts
    ]

    more-issued : (write : Bool) (o : Option (ℕ × ScriptItem)) (p : ℕ × ScriptItem) → next_of links s write ≡ o → o ≡ Some p → issued_of write (manager_next round links s) ≡ issued_of write s + 1
    more-issued write o p at some = issued-next round write ∙ ap (λ (next : Option (ℕ × ScriptItem)). issued_of write s + more (is_some next)) (at ∙ some)

    noted-issued : (write : Bool) (n : ℕ) (p : ℕ × ScriptItem) → slice_get (of_direction write s.script) n ≡ Some p → 0 < (note_at (manager_next round links s) p.0).issued → n < issued_of write (manager_next round links s)
    noted-issued write n p at some =
        let before : 0 < (note_at s p.0).issued → n < issued_of write (manager_next round links s) = λ was. let less = (is.issues write n p at).0 was in omega (arith, issued-next round write)
        in elim (change-of links s round p.0 is) [
          | Kept e ↦ before (subst (λ (a : AnswerView). 0 < a.issued) e some)
          | Wrote x taken here e ↦ before (subst (λ (a : AnswerView). 0 < a.issued) e some)
          | Read x taken here item at_item e ↦ before (subst (λ (a : AnswerView). 0 < a.issued) e some)
          | Issued other q next here e ↦
              let ways = one-place write other n (issued_of other s) p q at (next-found links s other q next) here
              in let nexts : next_of links s write ≡ Some q = ap (next_of links s) ways.0 ∙ next
              in let number : n ≡ issued_of write s = direction-once write s.script n (issued_of write s) p q at (next-found links s write q nexts) here
              in let one = more-issued write (Some q) q nexts refl
              in omega arith
        ]

    issued-noted : (write : Bool) (n : ℕ) (p : ℕ × ScriptItem) → slice_get (of_direction write s.script) n ≡ Some p → n < issued_of write (manager_next round links s) → 0 < (note_at (manager_next round links s) p.0).issued
    issued-noted write n p at less =
        elim (cases_lt n (issued_of write s)) [
          | inl before ↦ issue-stays p.0 ((is.issues write n p at).1 before)
          | inr after ↦
              let go : (o : Option (ℕ × ScriptItem)) → next_of links s write ≡ o → 0 < (note_at (manager_next round links s) p.0).issued =
              elim [
                | None ↦ λ none. let same : issued_of write (manager_next round links s) ≡ issued_of write s + 0 = issued-next round write ∙ ap (λ (next : Option (ℕ × ScriptItem)). issued_of write s + more (is_some next)) none in absurd (omega arith)
                | Some q ↦ λ some.
                    let one = more-issued write (Some q) q some refl
                    in let number : n ≡ issued_of write s = omega arith
                    in let same : q ≡ p = same_Some q p (sym (next-found links s write q some) ∙ ap (slice_get (of_direction write s.script)) (sym number) ∙ at)
                    in subst (λ (r : ℕ × ScriptItem). 0 < (note_at (manager_next round links s) r.0).issued) same (subst (λ (a : AnswerView). 0 < a.issued) (sym (next-noted write q some)) counts)
              ]
              in go (next_of links s write) refl
        ]

    -- the noted issues after a round
    pub issues-stay : NotesIssues (manager_next round links s)
    issues-stay write n p at = (noted-issued write n p at, issued-noted write n p at)
