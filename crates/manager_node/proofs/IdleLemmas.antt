-- A manager that does nothing for as long as its patience holds nothing back.
use Rattle.std.proofs.Common.{◌≡◌, ◌<◌, ◌≤◌, ℕ, zero, suc, Bool, false, List, [], ◌∷◌, refl, ◌∙◌, ap, arith}
use Rattle.std.specs.Prelude.{is_some, slice_index_or}
use Rattle.axi_link.specs.LinkView.{LinkView}
use Rattle.axi_link.specs.LinkWords.{link_of}
use Rattle.axi_link.specs.declared.out.Out.{Out}
use Rattle.axi_trail.specs.LinkContracts.{Answers}
use Rattle.axi_trail.specs.Trail.{seen_above}
use Rattle.manager_node.specs.ManagerLaws.{manager_row, rows_wished}
use Rattle.manager_node.specs.ManagerState.{ManagerState}
use Rattle.manager_node.specs.ManagerTrail.{manager_kind}
use Rattle.manager_node.proofs.KindLemmas.{standing}
use Rattle.manager_node.proofs.QuietLemmas.{holds-nothing}
use Rattle.manager_node.proofs.TableLemmas.{ar-paced, aw-paced, b-paced, no_row, r-paced, w-paced, wishes-stay}
use Rattle.node_core.specs.Acted.{no_moves}
use Rattle.node_core.specs.Pace.{PaceState}
use Rattle.node_core.specs.Paces.{longest, longest_delay}
use Rattle.node_core.specs.declared.paces.EachRow.{EachRow}
use Rattle.node_core.specs.declared.paces.Paces.{Paces}
use Rattle.node_shape.specs.KindLaws.{IdleHoldsNothing, IsIdle}
use Rattle.node_shape.specs.Paced.{IsPaced}
use Rattle.node_shape.proofs.OneLinkLemmas.{of-one}
use Rattle.node_shape.proofs.PacedLemmas.{idle-unwanted}

-- a delay is at most the longest
at-most : (delays : List ℕ) (place : ℕ) → slice_index_or delays place 0 ≤ longest delays
at-most [] place = omega arith
at-most (d ∷ delays) zero = omega arith
at-most (d ∷ delays) (suc place) = omega (arith, at-most delays place)

-- in an idle stretch no row is wanted
module _ (E : Type 0) (rounds : ℕ) (links : List LinkView) (s : ManagerState) (idle : IsIdle (manager_kind {E = E}) rounds links (suc (longest_delay s.paces)) s) where
  unwanted : (wanted : EachRow → Bool) (pace : Paces → PaceState) (is_done : Out → Bool) →
      ((round : ℕ) (links : List LinkView) (s : ManagerState) → IsPaced (manager_kind {E = E}) round links s (manager_row wanted pace is_done)) → is_done no_moves ≡ false →
      longest (pace s.paces).delays ≤ longest_delay s.paces → wanted (rows_wished links s) ≡ false
  unwanted wanted pace is_done paced undone short =
      idle-unwanted (manager_kind {E = E}) (manager_row wanted pace is_done) paced (λ round links s quiet. ap wanted (wishes-stay round links s quiet)) undone rounds links
      (suc (longest_delay s.paces)) s idle (omega (arith, short, at-most (pace s.paces).delays (pace s.paces).place))

  none-wished : rows_wished links s ≡ no_row
  none-wished =
      let aw = unwanted (λ rows. rows.aw) (λ paces. paces.aw) (λ out. is_some out.aw_put) (aw-paced E) refl (omega arith) in
      let w = unwanted (λ rows. rows.w) (λ paces. paces.w) (λ out. is_some out.w_put) (w-paced E) refl (omega arith) in
      let b = unwanted (λ rows. rows.b) (λ paces. paces.b) (λ out. is_some out.b_take) (b-paced E) refl (omega arith) in
      let ar = unwanted (λ rows. rows.ar) (λ paces. paces.ar) (λ out. is_some out.ar_put) (ar-paced E) refl (omega arith) in
      let r = unwanted (λ rows. rows.r) (λ paces. paces.r) (λ out. is_some out.r_take) (r-paced E) refl (omega arith) in
      all-false (rows_wished links s) aw w b ar r
    where
      all-false : (rows : EachRow) → rows.aw ≡ false → rows.w ≡ false → rows.b ≡ false → rows.ar ≡ false → rows.r ≡ false → rows ≡ no_row
      all-false rows aw w b ar r =
          ap (λ (x : Bool). record { aw = x; w = rows.w; b = rows.b; ar = rows.ar; r = rows.r }) aw
          ∙ ap (λ (x : Bool). record { aw = false; w = x; b = rows.b; ar = rows.ar; r = rows.r }) w
          ∙ ap (λ (x : Bool). record { aw = false; w = false; b = x; ar = rows.ar; r = rows.r }) b
          ∙ ap (λ (x : Bool). record { aw = false; w = false; b = false; ar = x; r = rows.r }) ar
          ∙ ap (λ (x : Bool). record { aw = false; w = false; b = false; ar = false; r = x }) r

module _ (E : Type 0) where
  pub manager-holds_nothing : IdleHoldsNothing (manager_kind {E = E})
  manager-holds_nothing schedules now rounds links s passed fact keeps around above below idle =
      holds-nothing (schedules s.lower) now rounds links s passed.uppers passed.lowers (standing (schedules s.lower) rounds s (passed.lowers s.lower) fact keeps)
      (of-one (λ l. Answers (schedules l) now (seen_above (passed.lowers l) (link_of links l))) s.lower around.answered_seen)
      (of-one (λ l. 0 < (link_of links l).depth) s.lower below)
      (none-wished E rounds links s idle)
