-- In an idle stretch no row that waits by its pace alone is wanted.
use Rattle.std.proofs.Common.{◌≡◌, ◌<◌, ◌≤◌, ◌+◌, ℕ, zero, suc, Bool, true, false, List, refl, sym, ◌∙◌, ap, arith, inl, inr}
use Rattle.std.proofs.lemmas.Bool.{cases_Bool}
use Rattle.axi_link.specs.LinkView.{LinkView}
use Rattle.node_core.specs.Acted.{no_moves}
use Rattle.node_core.specs.Pace.{asked_for, current_delay, is_let, is_over, pace_after}
use Rattle.node_core.proofs.PaceLemmas.{paces-let}
use Rattle.node_shape.specs.Kind.{Kind, next_of, out_of}
use Rattle.node_shape.specs.KindLaws.{IsIdle, later}
use Rattle.node_shape.specs.Paced.{IsPaced, PacedRow}

-- A row that is done as its pace lets it, whose condition stays in a round without a move, and which is not done in one.
module _ {S E : Type 0} (kind : Kind S E) (row : PacedRow S) (paced : (round : ℕ) (links : List LinkView) (s : S) → IsPaced kind round links s row)
    (stays : (round : ℕ) (links : List LinkView) (s : S) → out_of kind round links s ≡ no_moves → row.wanted links (next_of kind round links s) ≡ row.wanted links s)
    (undone : row.is_done no_moves ≡ false) (rounds : ℕ) (links : List LinkView) (count : ℕ) (s : S) (idle : IsIdle kind rounds links count s) where
  -- while it is wanted its pace waits
  waits : row.wanted links s ≡ true → (i : ℕ) → i ≤ count → (row.wanted links (later kind rounds links i s) ≡ true) × (row.pace (later kind rounds links i s) ≡ asked_for i (row.pace s))
  waits wanted zero le = (wanted, refl)
  waits wanted (suc i) le =
      let so_far = waits wanted i (omega arith) in
      let here : S = later kind rounds links i s in
      let round : ℕ = suc (rounds + i) in (
        stays round links here (idle i (omega arith)) ∙ so_far.0,
        (paced round links here).paced
            ∙ ap (λ (b : Bool). pace_after b (row.pace here)) so_far.0
            ∙ ap (λ p. pace_after true p) so_far.1,
      )

  pub idle-unwanted : current_delay (row.pace s) < count → row.wanted links s ≡ false
  idle-unwanted short = elim (cases_Bool (row.wanted links s)) [
    | inr unwanted ↦ unwanted
    | inl wanted ↦ absurd (paces-let (row.pace s) (current_delay (row.pace s)) (omega arith) (λ i lt.
        let so_far = waits wanted i (omega arith) in
        let here : S = later kind rounds links i s in
        let round : ℕ = suc (rounds + i) in
        let held : is_let (row.wanted links here) (row.pace here) ≡ false =
        sym (paced round links here).done ∙ ap row.is_done (idle i (omega arith)) ∙ undone in
        ap is_over (sym so_far.1) ∙ sym (ap (λ (b : Bool). is_let b (row.pace here)) so_far.0) ∙ held))
  ]
