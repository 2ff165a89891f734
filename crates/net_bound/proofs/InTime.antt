-- The run of a plan is finished in time.
use Rattle.std.proofs.Common.{◌+◌, sym, ◌∙◌, inl, inr, arith}
use Rattle.std.proofs.Math.Nat.{mul-le-mul_left}
use Rattle.std.proofs.lemmas.Bool.{cases_lt, true≢false}
use Rattle.net_bound.proofs.ItemMoves.{transfers-most}
use Rattle.net_bound.proofs.Patience.{is-patient}
use Rattle.net_bound.specs.BoundLaws.{RunsEndInTime, UnfinishedBeforeBound}
use Rattle.net_kinds.specs.NodeHolds.{node_holds}
use Rattle.net_kinds.specs.NodeKind.{node_kind}
use Rattle.net_opening.specs.Opening.{opening}
use Rattle.net_opening.specs.PlanLinks.{form_of_link}
use Rattle.net_plan.proofs.OpeningSound.{openings-are_sound}
use Rattle.net_ways.proofs.SoundLemmas.{sound-finishes_in_time}
use Rattle.plan_traffic.specs.Bound.{delay_of_nodes, round_bound}

pub runs-end_in_time : RunsEndInTime
runs-end_in_time nodes items run traffic =
    let end = sound-finishes_in_time node_kind node_holds (opening nodes items) (form_of_link nodes) (openings-are_sound nodes items run traffic) (1 + delay_of_nodes nodes) (is-patient nodes items) in
    (end.0, omega (arith, end.1, mul-le-mul_left (1 + delay_of_nodes nodes) (transfers-most nodes items run traffic)), end.2)

pub unfinished-before_bound : UnfinishedBeforeBound
unfinished-before_bound nodes items run traffic rounds unfinished = elim (cases_lt rounds (round_bound nodes items)) [
  | inl less ↦ less
  | inr reached ↦
      let end = runs-end_in_time nodes items run traffic in
      absurd (true≢false (sym end.2 ∙ unfinished end.0 (omega (arith, end.1, reached))))
]
