use Rattle.std.proofs.Common.{◌<◌, false, ap, sym, ◌∙◌, length, get_or}
use Rattle.std.specs.Option.{option_copied}
use Rattle.manager_node.specs.Answer.{unanswered}
use Rattle.manager_node.specs.ManagerState.{IsDue}
use Rattle.manager_node.specs.ManagerTable.{answering, ending, left_waiting}
use Rattle.manager_node.proofs.WaitingLemmas.{at-place, direction-same, left-ending}
use Rattle.manager_node.proofs.manager.take_data.Goals as goal

pub note_read-last-requires-clause-within : goal.note_read-last-requires-clause-within
note_read-last-requires-clause-within c = at-place (λ place. place < length c.args.answers.now) c.in-Some.beat.now.id c.args.reads.now.entries _ c.requires.within (sym c.oldest.ensures ∙ c.in-Some-oldest.is)

pub note_read-last-requires-clause-due : goal.note_read-last-requires-clause-due
note_read-last-requires-clause-due c = at-place (λ place. IsDue c.args.script.now false place (get_or c.args.answers.now place (unanswered 0))) c.in-Some.beat.now.id c.args.reads.now.entries _ c.requires.due (sym c.oldest.ensures ∙ c.in-Some-oldest.is)

pub returns-then-last-clause-reads : goal.returns-then-last-clause-reads
returns-then-last-clause-reads c =
    direction-same c.close.new.self c.args.reads.now _ c.close.ensures.places c.close.ensures.issued
    (c.close.ensures.entries
    ∙ sym (left-ending c.args.answers.now c.args.reads.now.entries c.in-Some.beat.now c.in-Some-oldest.place (sym c.oldest.ensures ∙ c.in-Some-oldest.is) (sym c.note_read-last.ensures.last ∙ c.if-last.true))
    ∙ ap (λ head. left_waiting (ending c.args.answers.now (answering (λ beat. beat.id) c.args.reads.now.entries (option_copied head))) c.args.reads.now.entries) (sym c.in-Some.is))
