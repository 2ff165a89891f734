-- What a round does to the rounds that are noted of each transaction, and which entries leave.
use Rattle.std.proofs.Common.{◌≡◌, ℕ, Bool, true, false, List, [], Option, Some, None, refl, sym, ◌∙◌, ap, subst}
use Rattle.std.specs.Option.{option_map}
use Rattle.axi_beats.specs.declared.beat.RBeat.{RBeat}
use Rattle.axi_link.specs.LinkView.{LinkView}
use Rattle.node_core.specs.Rows.{beat_where}
use Rattle.manager_node.specs.Answer.{is_last}
use Rattle.manager_node.specs.ManagerOrder.{note_at}
use Rattle.manager_node.specs.ManagerState.{ManagerState, IsManager}
use Rattle.manager_node.specs.ManagerTable.{ending, manager_b, manager_r, manager_r_last, manager_next}
use Rattle.manager_node.specs.Script.{ScriptItem}
use Rattle.manager_node.specs.declared.entry.Entry.{Entry}
use Rattle.manager_node.proofs.DueLemmas.{last-answers, more-answers, write-last}
use Rattle.manager_node.proofs.NoteLemmas.{Kept, Wrote, Read, Issued, change-of, b-taken, mapped, next_of, taken_of, taken-waits}
use Rattle.manager_node.proofs.RowLemmas.{beat_where-some}

module _ (links : List LinkView) (s : ManagerState) where
  -- the entry whose last answer is taken
  abbrev pub leaving_of : Bool → Option Entry
  leaving_of true = option_map (λ answer. answer.0) (manager_b links s)
  leaving_of false = option_map (λ answer. answer.0) (manager_r_last links s)

  -- an answer that ends is one that is taken
  pub ending-taken : (o : Option (Entry × RBeat)) (x : Entry × RBeat) → ending s.answers o ≡ Some x → (o ≡ Some x) × (is_last (note_at s x.0.place) ≡ true)
  ending-taken None x is = absurd (cc)
  ending-taken (Some y) x is =
      let both = beat_where-some (is_last (note_at s y.0.place)) (Some y) x is
      in (both.1, let same : y ≡ x = cc in subst (λ (z : Entry × RBeat). is_last (note_at s z.0.place) ≡ true) same both.0)

  pub taken-ending : (o : Option (Entry × RBeat)) (x : Entry × RBeat) → o ≡ Some x → is_last (note_at s x.0.place) ≡ true → ending s.answers o ≡ Some x
  taken-ending o x is last = ap (ending s.answers) is ∙ ap (λ (b : Bool). beat_where b (Some x)) last

  module _ (is : IsManager s) where
    -- an entry that leaves has its answer taken, and this is the last one
    pub leaving-taken : (write : Bool) (e : Entry) → leaving_of write ≡ Some e → (taken_of links s write ≡ Some e) × (is_last (note_at s e.place) ≡ true)
    leaving-taken true e leaves = (leaves, write-last s.script e.place (note_at s e.place) (taken-waits links s is true e leaves))
    leaving-taken false e leaves =
        let x : (x : Entry × RBeat) × (manager_r_last links s ≡ Some x) × (x.0 ≡ e) = mapped links s (manager_r_last links s) e leaves
        in let both = ending-taken (manager_r links s) x.0 x.1
        in (ap (option_map (λ (answer : Entry × RBeat). answer.0)) both.0 ∙ ap (λ (entry : Entry). Some entry) x.2, subst (λ (entry : Entry). is_last (note_at s entry.place) ≡ true) x.2 both.1)

    -- and the other way round
    pub r-leaving : (x : Entry × RBeat) → manager_r links s ≡ Some x → is_last (note_at s x.0.place) ≡ true → leaving_of false ≡ Some x.0
    r-leaving x taken last = ap (option_map (λ (answer : Entry × RBeat). answer.0)) (taken-ending (manager_r links s) x taken last)

-- What a round does to the rounds that are noted of a transaction.
pub data Turn (links : List LinkView) (s : ManagerState) (round q : ℕ) : Type 0 where
  Same : (note_at (manager_next round links s) q).answered ≡ (note_at s q).answered → (note_at (manager_next round links s) q).issued ≡ (note_at s q).issued → Turn links s round q
  Came : (write : Bool) (e : Entry) → leaving_of links s write ≡ Some e → q ≡ e.place → (note_at (manager_next round links s) q).answered ≡ round → (note_at (manager_next round links s) q).issued ≡ (note_at s q).issued → Turn links s round q
  Went : (write : Bool) (p : ℕ × ScriptItem) → next_of links s write ≡ Some p → q ≡ p.0 → (note_at (manager_next round links s) q).issued ≡ round → (note_at (manager_next round links s) q).answered ≡ (note_at s q).answered → Turn links s round q

pub turn-of : (links : List LinkView) (s : ManagerState) (round q : ℕ) → IsManager s → Turn links s round q
turn-of links s round q is = elim (change-of links s round q is) [
  | Kept e ↦ Same (ap (λ a. a.answered) e) (ap (λ a. a.issued) e)
  | Wrote x at here e ↦
      let last : is_last (note_at s q) ≡ true = subst (λ (p : ℕ). is_last (note_at s p) ≡ true) (sym here) (write-last s.script x.0.place (note_at s x.0.place) (taken-waits links s is true x.0 (b-taken links s is x at)))
      in Came true x.0 (b-taken links s is x at) here (ap (λ a. a.answered) e ∙ last-answers round x.1.resp [] (note_at s q) last) (ap (λ a. a.issued) e)
  | Read x at here item item_at e ↦
      let go : (b : Bool) → is_last (note_at s q) ≡ b → Turn links s round q =
      elim [
        | true ↦ λ last. Came false x.0 (r-leaving links s is x at (subst (λ (p : ℕ). is_last (note_at s p) ≡ true) here last)) here (ap (λ a. a.answered) e ∙ last-answers round x.1.resp [] (note_at s q) last) (ap (λ a. a.issued) e)
        | false ↦ λ some. Same (ap (λ a. a.answered) e ∙ more-answers round x.1.resp [] (note_at s q) some) (ap (λ a. a.issued) e)
      ]
      in go (is_last (note_at s q)) refl
  | Issued write p next here e ↦ Went write p next here (ap (λ a. a.issued) e) (ap (λ a. a.answered) e)
]
