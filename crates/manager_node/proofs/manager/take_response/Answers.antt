use Rattle.std.proofs.Common.{◌<◌, true, ap, sym, ◌∙◌, length, get_or}
use Rattle.std.specs.Option.{option_copied}
use Rattle.manager_node.specs.Answer.{unanswered}
use Rattle.manager_node.specs.ManagerState.{IsDue}
use Rattle.manager_node.specs.ManagerTable.{answering, left_waiting}
use Rattle.manager_node.proofs.WaitingLemmas.{at-place, left-head, direction-same}
use Rattle.manager_node.proofs.manager.take_response.Goals as goal

pub returns-in_default-close-clause-writes : goal.returns-in_default-close-clause-writes
returns-in_default-close-clause-writes c =
    direction-same c.close.new.self c.args.writes.now _ c.close.ensures.places c.close.ensures.issued
    (c.close.ensures.entries ∙ sym (left-head (λ beat. beat.id) c.args.writes.now.entries c.in-Some.beat.now) ∙ ap (λ head. left_waiting (answering (λ beat. beat.id) c.args.writes.now.entries (option_copied head)) c.args.writes.now.entries) (sym c.in-Some.is))

pub note_write-requires-clause-within : goal.note_write-requires-clause-within
note_write-requires-clause-within c = at-place (λ place. place < length c.args.answers.now) c.in-Some.beat.now.id c.args.writes.now.entries _ c.requires.within (sym c.close.ensures.place ∙ c.in-Some-close.is)

pub note_write-requires-clause-due : goal.note_write-requires-clause-due
note_write-requires-clause-due c = at-place (λ place. IsDue c.args.script.now true place (get_or c.args.answers.now place (unanswered 0))) c.in-Some.beat.now.id c.args.writes.now.entries _ c.requires.due (sym c.close.ensures.place ∙ c.in-Some-close.is)

pub returns-clause-writes : goal.returns-clause-writes
returns-clause-writes c =
    direction-same c.close.new.self c.args.writes.now _ c.close.ensures.places c.close.ensures.issued
    (c.close.ensures.entries ∙ sym (left-head (λ beat. beat.id) c.args.writes.now.entries c.in-Some.beat.now) ∙ ap (λ head. left_waiting (answering (λ beat. beat.id) c.args.writes.now.entries (option_copied head)) c.args.writes.now.entries) (sym c.in-Some.is))
