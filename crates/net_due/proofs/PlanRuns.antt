-- What holds of every network's runs, said of documents.
use Rattle.axi_history.specs.Delivered.{HasAnswer}
use Rattle.axi_history.specs.Records.{Transaction}
use Rattle.net_due.proofs.DueLists.{transactions-are_due}
use Rattle.net_due.proofs.SameTransactions.{all-same, answered-same, delivered-same}
use Rattle.net_due.specs.DueLaws.{PlanRunsAreRight}
use Rattle.net_history.proofs.RunLemmas.{runs-are_right}
use Rattle.net_history.specs.Due.{transactions_of}
use Rattle.net_history.specs.History.{answers_after, events_after, issues_after}
use Rattle.net_opening.specs.Opening.{opening}
use Rattle.net_opening.specs.PlanLinks.{form_of_link}
use Rattle.net_plan.proofs.OpeningSound.{openings-are_sound}
use Rattle.plan_traffic.specs.Due.{transactions_due}

pub plan-runs_are_right : PlanRunsAreRight
plan-runs_are_right nodes items run traffic rounds =
    let net = opening nodes items in
    let ours = transactions_of (opening nodes items) (form_of_link nodes) in
    let its = transactions_due nodes items in
    let same = transactions-are_due nodes items run traffic in
    let is = runs-are_right (opening nodes items) (form_of_link nodes) (openings-are_sound nodes items run traffic) rounds in
    record {
      delivered = delivered-same ours its same (events_after rounds net) (answers_after rounds net) is.delivered;
      answered = answered-same ours its same (issues_after rounds net) (events_after rounds net) (answers_after rounds net) is.answered;
      issues_noted = is.issues_noted;
      answers_noted = is.answers_noted;
      whole = λ finished. all-same ours its same (λ (t : Transaction). HasAnswer t (answers_after rounds net)) (is.whole finished);
    }
