-- An error subordinate that does nothing for as long as its patience holds nothing back.
use Rattle.std.proofs.Common.{refl}
use Rattle.error_node.specs.ErrorTable.{error_service}
use Rattle.error_node.specs.ErrorTrail.{error_kind}
use Rattle.node_shape.specs.KindLaws.{IdleHoldsNothing}
use Rattle.subordinate.proofs.IdleLemmas.{holds-nothing, no-ar, no-aw, no-b, no-r, no-w}

module _ (E : Type 0) where
  pub error-idle_holds_nothing : IdleHoldsNothing (error_kind {E = E})
  error-idle_holds_nothing schedules now rounds links s passed fact keeps around deep_above deep_below idle =
      holds-nothing error_service (schedules s.upper) links s passed.uppers passed.lowers keeps.order
      (no-aw (error_kind {E = E}) (λ s. error_service) (λ s. s) (λ round links s. refl) (λ round links s. refl) rounds links s idle)
      (no-w (error_kind {E = E}) (λ s. error_service) (λ s. s) (λ round links s. refl) (λ round links s. refl) rounds links s idle)
      (no-b (error_kind {E = E}) (λ s. error_service) (λ s. s) (λ round links s. refl) (λ round links s. refl) rounds links s idle)
      (no-ar (error_kind {E = E}) (λ s. error_service) (λ s. s) (λ round links s. refl) (λ round links s. refl) rounds links s idle)
      (no-r (error_kind {E = E}) (λ s. error_service) (λ s. s) (λ round links s. refl) (λ round links s. refl) rounds links s idle)
