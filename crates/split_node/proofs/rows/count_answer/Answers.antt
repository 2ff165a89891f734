use Rattle.std.proofs.Common.{◌∙◌}
use Rattle.split_node.proofs.RowLemmas.{counts-last, counts-more}
use Rattle.split_node.proofs.rows.count_answer.Goals as goal

pub returns-then-entry-gt1-clause-entries : goal.returns-then-entry-gt1-clause-entries
returns-then-entry-gt1-clause-entries c =
    c.set.ensures.entry
    ∙ counts-more c.args.id c.args.response c.worst.result c.get-entry.result.now c.args.entries.now c.args.place c.requires.place c.get-entry.ensures c.if-entry-gt1.true c.worst.ensures

pub returns-else-entry-gt1-clause-entries : goal.returns-else-entry-gt1-clause-entries
returns-else-entry-gt1-clause-entries c =
    c.take.ensures.rest ∙ counts-last c.args.id c.args.response c.get-entry.result.now c.args.entries.now c.args.place c.requires.place c.get-entry.ensures c.if-entry-gt1.false
