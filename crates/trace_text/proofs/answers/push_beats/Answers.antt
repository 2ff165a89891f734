use Rattle.trace_text.proofs.AnswerLemmas.{written-more}
use Rattle.trace_text.proofs.answers.push_beats.Goals as goal

pub loop-beat-preserved : goal.loop-beat-preserved
loop-beat-preserved c =
    written-more c.args.request.now c.args.answer.now.resps c.args.answer.now.bytes c.args.line.now c.loop-beat.line c.loop-beat.beat c.loop-beat.bytes.now c.beat_count.result c.resp.result c.push_beat.new.line _ _
    c.loop-beat.invariant c.beat_count.ensures.value c.resp.ensures c.split_front.ensures.front c.split_front.ensures.rest c.push_beat.ensures.text c.push_beat.ensures.room
