use Rattle.std.proofs.Common.{rules}
use Rattle.plain_text.proofs.CutSteps.{passed_none, passed_more, passed_found, passed_all}
use Rattle.plain_text.proofs.separator.cut_at_separator.Goals as goal

pub loop-rest-init : goal.loop-rest-init
loop-rest-init c = passed_none c.args.text.now

pub loop-rest-preserved : goal.loop-rest-preserved
loop-rest-preserved c = passed_more c.args.text.now c.loop-rest.rest.now c.next_line.result.0.now c.next_line.result.1.now c.loop-rest.invariant (search rules) c.next_line.ensures.lines c.next_line.ensures.rest c.next_line.ensures.shorter (search rules)

pub returns-then-is_separator : goal.returns-then-is_separator
returns-then-is_separator c = passed_found c.args.text.now c.loop-rest.rest.now c.next_line.result.0.now c.next_line.result.1.now c.loop-rest.invariant (search rules) c.next_line.ensures.lines c.next_line.ensures.rest (search rules)

pub returns : goal.returns
returns c = passed_all c.args.text.now c.loop-rest.rest.now c.loop-rest.invariant (search rules)
