-- An error subordinate's table, of every state and all links.
use Rattle.std.proofs.Common.{ℕ, suc, List, refl, sym, ap, subst}
use Rattle.std.proofs.lemmas.List.Elements.{All-nil}
use Rattle.axi_link.specs.LinkView.{LinkView}
use Rattle.error_node.specs.ErrorState.{ErrorState, IsError, new_error}
use Rattle.error_node.specs.ErrorTable.{error_out, error_service}
use Rattle.error_node.specs.ErrorTrail.{error_kind}
use Rattle.node_core.specs.Fits.{MovesFit}
use Rattle.node_shape.specs.KindLaws.{Begins, Fit, Own, Rests, Stays, Steady}
use Rattle.node_shape.specs.Paced.{ArePaced}
use Rattle.subordinate.specs.PacedRows.{paced_rows}
use Rattle.subordinate.specs.SubordinateState.{HasABeat, HasItsData}
use Rattle.subordinate.specs.SubordinateTable.{its_wishes}
use Rattle.subordinate.proofs.IdleLemmas.{are-paced}
use Rattle.subordinate.proofs.TableLemmas.{patience-stays, serves-fit, serves-own, serves-rests}
use Rattle.error_node.proofs.StayLemmas.{error-stays}

pub error_fits : (links : List LinkView) (s : ErrorState) → MovesFit links (error_out links s)
error_fits links s = serves-fit error_service links s

new-is_error : (upper : ℕ) → IsError (new_error upper)
new-is_error upper = record { writes = All-nil HasItsData; reads = All-nil HasABeat }

module _ (E : Type 0) where
  pub error-always_fits : Fit (error_kind {E = E})
  error-always_fits round links s = error_fits links s

  pub error-moves_own : Own (error_kind {E = E})
  error-moves_own round links s = serves-own error_service links s

  pub error-is_steady : Steady (error_kind {E = E})
  error-is_steady round links s = record { uppers = refl; lowers = refl; patience = ap suc (patience-stays (its_wishes error_service links s) s.paces); suits = λ schedules suits. suits }

  pub error-begins : Begins (error_kind {E = E})
  error-begins s new = subst (λ (e : ErrorState). IsError e) (sym new) (new-is_error s.upper)

  pub error-stays_error : Stays (error_kind {E = E})
  error-stays_error round links s fact can = error-stays links s fact

  pub error-rests : Rests (error_kind {E = E})
  error-rests round links s quiet = serves-rests error_service links s quiet

  pub error-is_paced : ArePaced (error_kind {E = E}) (paced_rows (λ (s : ErrorState). s))
  error-is_paced = are-paced (error_kind {E = E}) (λ s. error_service) (λ s. s) (λ round links s. refl) (λ round links s. refl)
