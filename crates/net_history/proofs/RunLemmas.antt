-- The history of every network that can be run.
use Rattle.net_history.proofs.AnswerLemmas.{delivered, event-before_answer, has-bytes, has-response}
use Rattle.net_history.proofs.BelongLemmas.{issue-before_event}
use Rattle.net_history.proofs.OrderLemmas.{events-in_order}
use Rattle.net_history.proofs.RoundLemmas.{answered-once, answers-in_order, answers-noted, is-whole, issue-before_answer, issued-once, issues-belong, issues-in_order, issues-noted, waits}
use Rattle.net_history.specs.HistoryLaws.{RunsAreRight}

pub runs-are_right : RunsAreRight
runs-are_right net forms sound n = record {
  delivered = delivered net forms sound n;
  answered = record {
    issues_belong = issues-belong net forms sound n;
    issued_once = issued-once net forms sound n;
    answered_once = answered-once net forms sound n;
    response = has-response net forms sound n;
    bytes = has-bytes net forms sound n;
    issue_before_event = issue-before_event net forms sound n;
    event_before_answer = event-before_answer net forms sound n;
    issue_before_answer = issue-before_answer net forms sound n;
    issues_in_order = issues-in_order net forms sound n;
    answers_in_order = answers-in_order net forms sound n;
    events_in_order = events-in_order net forms sound n;
    waits = waits net forms sound n;
  };
  issues_noted = issues-noted net forms sound n;
  answers_noted = answers-noted net forms sound n;
  whole = is-whole net forms sound n;
}
