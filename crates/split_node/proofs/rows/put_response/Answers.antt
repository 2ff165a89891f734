use Rattle.std.proofs.Common.{◌∙◌, ap, sym}
use Rattle.std.specs.Option.{option_copied}
use Rattle.axi_beats.specs.declared.beat.BBeat.{BBeat}
use Rattle.node_core.specs.Rows.{put_of}
use Rattle.split_node.proofs.RowLemmas.{b-last, b-more, b-none, b-waits}
use Rattle.split_node.specs.SplitTable.{AnswerRow}
use Rattle.split_node.proofs.rows.put_response.Goals as goal

pub returns-in_default-oldest-clause-put : goal.returns-in_default-oldest-clause-put
returns-in_default-oldest-clause-put c =
    c.set_put.ensures ∙ ap (λ (x : AnswerRow BBeat). put_of c.args.upper x.put) (sym (b-none c.args.room (option_copied c.args.head) c.in-Some.beat.now c.args.writes.now (ap option_copied c.in-Some.is) (sym c.oldest.ensures.oldest ∙ c.in_default-oldest.is)))

pub returns-in_default-oldest-clause-entries : goal.returns-in_default-oldest-clause-entries
returns-in_default-oldest-clause-entries c =
    ap (λ (x : AnswerRow BBeat). x.entries) (sym (b-none c.args.room (option_copied c.args.head) c.in-Some.beat.now c.args.writes.now (ap option_copied c.in-Some.is) (sym c.oldest.ensures.oldest ∙ c.in_default-oldest.is)))

pub returns-in_default-oldest-clause-taken : goal.returns-in_default-oldest-clause-taken
returns-in_default-oldest-clause-taken c =
    ap (λ (x : AnswerRow BBeat). x.taken) (sym (b-none c.args.room (option_copied c.args.head) c.in-Some.beat.now c.args.writes.now (ap option_copied c.in-Some.is) (sym c.oldest.ensures.oldest ∙ c.in_default-oldest.is)))

pub returns-then-write-gt1-clause-put : goal.returns-then-write-gt1-clause-put
returns-then-write-gt1-clause-put c =
    c.set_put.ensures ∙ ap (λ (x : AnswerRow BBeat). put_of c.args.upper x.put) (sym (b-more c.args.room (option_copied c.args.head) c.in-Some.beat.now c.args.writes.now (ap option_copied c.in-Some.is) c.in-Some-oldest.place c.get-write.result.now (sym c.oldest.ensures.oldest ∙ c.in-Some-oldest.is) c.get-write.ensures c.if-write-gt1.true))

pub returns-then-write-gt1-clause-entries : goal.returns-then-write-gt1-clause-entries
returns-then-write-gt1-clause-entries c =
    c.count_answer.ensures.entries ∙ ap (λ (x : AnswerRow BBeat). x.entries) (sym (b-more c.args.room (option_copied c.args.head) c.in-Some.beat.now c.args.writes.now (ap option_copied c.in-Some.is) c.in-Some-oldest.place c.get-write.result.now (sym c.oldest.ensures.oldest ∙ c.in-Some-oldest.is) c.get-write.ensures c.if-write-gt1.true))

pub returns-then-write-gt1-clause-taken : goal.returns-then-write-gt1-clause-taken
returns-then-write-gt1-clause-taken c =
    ap option_copied c.in-Some.is ∙ ap (λ (x : AnswerRow BBeat). x.taken) (sym (b-more c.args.room (option_copied c.args.head) c.in-Some.beat.now c.args.writes.now (ap option_copied c.in-Some.is) c.in-Some-oldest.place c.get-write.result.now (sym c.oldest.ensures.oldest ∙ c.in-Some-oldest.is) c.get-write.ensures c.if-write-gt1.true))

pub returns-then-not-room-clause-entries : goal.returns-then-not-room-clause-entries
returns-then-not-room-clause-entries c =
    ap (λ (x : AnswerRow BBeat). x.entries) (sym (b-waits c.args.room (option_copied c.args.head) c.in-Some.beat.now c.args.writes.now (ap option_copied c.in-Some.is) c.in-Some-oldest.place c.get-write.result.now (sym c.oldest.ensures.oldest ∙ c.in-Some-oldest.is) c.get-write.ensures c.if-write-gt1.false c.if-not-room.true))

pub returns-then-not-room-clause-taken : goal.returns-then-not-room-clause-taken
returns-then-not-room-clause-taken c =
    ap (λ (x : AnswerRow BBeat). x.taken) (sym (b-waits c.args.room (option_copied c.args.head) c.in-Some.beat.now c.args.writes.now (ap option_copied c.in-Some.is) c.in-Some-oldest.place c.get-write.result.now (sym c.oldest.ensures.oldest ∙ c.in-Some-oldest.is) c.get-write.ensures c.if-write-gt1.false c.if-not-room.true))

pub returns-clause-put : goal.returns-clause-put
returns-clause-put c =
    c.set_put-2.ensures ∙ ap (λ (x : AnswerRow BBeat). put_of c.args.upper x.put) (sym (b-last c.args.room (option_copied c.args.head) c.in-Some.beat.now c.args.writes.now (ap option_copied c.in-Some.is) c.in-Some-oldest.place c.get-write.result.now (sym c.oldest.ensures.oldest ∙ c.in-Some-oldest.is) c.get-write.ensures c.worst-resp.result c.if-write-gt1.false c.if-not-room.false c.worst-resp.ensures))

pub returns-clause-entries : goal.returns-clause-entries
returns-clause-entries c =
    c.count_answer-2.ensures.entries ∙ ap (λ (x : AnswerRow BBeat). x.entries) (sym (b-last c.args.room (option_copied c.args.head) c.in-Some.beat.now c.args.writes.now (ap option_copied c.in-Some.is) c.in-Some-oldest.place c.get-write.result.now (sym c.oldest.ensures.oldest ∙ c.in-Some-oldest.is) c.get-write.ensures c.worst-resp.result c.if-write-gt1.false c.if-not-room.false c.worst-resp.ensures))

pub returns-clause-taken : goal.returns-clause-taken
returns-clause-taken c =
    ap option_copied c.in-Some.is ∙ ap (λ (x : AnswerRow BBeat). x.taken) (sym (b-last c.args.room (option_copied c.args.head) c.in-Some.beat.now c.args.writes.now (ap option_copied c.in-Some.is) c.in-Some-oldest.place c.get-write.result.now (sym c.oldest.ensures.oldest ∙ c.in-Some-oldest.is) c.get-write.ensures c.worst-resp.result c.if-write-gt1.false c.if-not-room.false c.worst-resp.ensures))
