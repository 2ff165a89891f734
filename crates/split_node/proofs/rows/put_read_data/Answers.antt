use Rattle.std.proofs.Common.{◌∙◌, List, Option, ap, sym}
use Rattle.std.specs.Option.{option_copied}
use Rattle.axi_beats.specs.declared.beat.RBeat.{RBeat}
use Rattle.node_core.specs.Rows.{put_of}
use Rattle.split_node.proofs.RowLemmas.{passed-by, r-none, r-some}
use Rattle.split_node.specs.SplitTable.{AnswerRow}
use Rattle.split_node.specs.declared.burst.SplitEntry.{SplitEntry}
use Rattle.split_node.proofs.rows.put_read_data.Goals as goal

pub returns-in_default-oldest-clause-put : goal.returns-in_default-oldest-clause-put
returns-in_default-oldest-clause-put c =
    let row = r-none c.args.room (option_copied c.args.head) c.in-Some.beat.now c.args.reads.now (sym c.passed.ensures ∙ ap option_copied c.in-Some.is) (sym c.oldest.ensures.oldest ∙ c.in_default-oldest.is) in
    c.set_put-in_default-oldest.ensures ∙ ap (λ (x : AnswerRow RBeat). put_of c.args.upper x.put) (sym row)

pub returns-in_default-oldest-clause-entries : goal.returns-in_default-oldest-clause-entries
returns-in_default-oldest-clause-entries c =
    let row = r-none c.args.room (option_copied c.args.head) c.in-Some.beat.now c.args.reads.now (sym c.passed.ensures ∙ ap option_copied c.in-Some.is) (sym c.oldest.ensures.oldest ∙ c.in_default-oldest.is) in
    ap (λ (x : AnswerRow RBeat). x.entries) (sym row)

pub returns-in_default-oldest-clause-taken : goal.returns-in_default-oldest-clause-taken
returns-in_default-oldest-clause-taken c =
    let row = r-none c.args.room (option_copied c.args.head) c.in-Some.beat.now c.args.reads.now (sym c.passed.ensures ∙ ap option_copied c.in-Some.is) (sym c.oldest.ensures.oldest ∙ c.in_default-oldest.is) in
    ap (λ (x : AnswerRow RBeat). x.taken) (sym row)

pub returns-clause-put : goal.returns-clause-put
returns-clause-put c =
    let row = r-some c.args.room (option_copied c.args.head) c.in-Some.beat.now c.args.reads.now (sym c.passed.ensures ∙ ap option_copied c.in-Some.is) c.in-Some-oldest.place c.get.result.now
    (sym c.oldest.ensures.oldest ∙ c.in-Some-oldest.is) c.get.ensures in
    c.put_with_last.ensures ∙ ap (λ (x : AnswerRow RBeat). put_of c.args.upper x.put) (sym row)

pub returns-clause-entries : goal.returns-clause-entries
returns-clause-entries c =
    let row = r-some c.args.room (option_copied c.args.head) c.in-Some.beat.now c.args.reads.now (sym c.passed.ensures ∙ ap option_copied c.in-Some.is) c.in-Some-oldest.place c.get.result.now
    (sym c.oldest.ensures.oldest ∙ c.in-Some-oldest.is) c.get.ensures in
    c.count_answer.ensures.entries ∙ ap (λ (x : AnswerRow RBeat). x.entries) (sym row)

pub returns-clause-taken : goal.returns-clause-taken
returns-clause-taken c =
    let row = r-some c.args.room (option_copied c.args.head) c.in-Some.beat.now c.args.reads.now (sym c.passed.ensures ∙ ap option_copied c.in-Some.is) c.in-Some-oldest.place c.get.result.now
    (sym c.oldest.ensures.oldest ∙ c.in-Some-oldest.is) c.get.ensures in
    (passed-by c.args.room (option_copied c.args.head) c.in-Some.beat.now (sym c.passed.ensures ∙ ap option_copied c.in-Some.is)).1 ∙ ap (λ (x : AnswerRow RBeat). x.taken) (sym row)
