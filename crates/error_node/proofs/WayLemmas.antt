-- How transactions end at an error subordinate.
use Rattle.std.proofs.Common.{arith}
use Rattle.error_node.specs.ErrorTable.{error_service}
use Rattle.error_node.specs.ErrorTrail.{error_kind}
use Rattle.node_shape.specs.WayLaws.{CutsFit, GoesBelow, HasWay, OriginsFit, WaysSuit}
use Rattle.subordinate.proofs.WayLemmas.{ends-has_way, service-suits}

module _ (E : Type 0) where
  pub error-has_way : HasWay (error_kind {E = E})
  error-has_way s = ends-has_way error_service

  pub error-goes_below : GoesBelow (error_kind {E = E})
  error-goes_below s share link goes = absurd (cc)

  pub error-origins_fit : OriginsFit (error_kind {E = E})
  error-origins_fit forms schedules s new sound origin among = absurd (omega (arith, among.1))

  pub error-cuts_fit : CutsFit (error_kind {E = E})
  error-cuts_fit forms schedules s new sound write link next share among carried goes = absurd (cc)

  pub error-ways_suit : WaysSuit (error_kind {E = E})
  error-ways_suit forms schedules s new sound ways = service-suits error_service s.upper forms schedules ways
