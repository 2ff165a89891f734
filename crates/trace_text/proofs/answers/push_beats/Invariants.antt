-- What is written, and what the beats that are left add to it.
use Rattle.trace_text.proofs.AnswerLemmas.{IsWrittenTo}
use Rattle.trace_text.proofs.answers.push_beats.Given as goal

abbrev pub invariant-loop-beat : goal.invariant-loop-beat
invariant-loop-beat l = IsWrittenTo l.request l.answer.resps l.answer.bytes l.initial.line l.line l.beat l.bytes
