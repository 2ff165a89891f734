-- The lines after the first are those of the text behind its line feed.
use Rattle.std.proofs.Common.{sym}
use Rattle.std.proofs.lemmas.List.{take_rest}
use Rattle.std.proofs.Math.Seq.{drop-length}
use Rattle.plain_text.proofs.LineLaws.{lines_at_feed, lines_whole}
use Rattle.plain_text.proofs.lines.next_line.Goals as goal

pub returns-in-Some-clause-lines : goal.returns-in-Some-clause-lines
returns-in-Some-clause-lines c =
    rw (take_rest, c.without_carriage_return.ensures) (lines_at_feed c.args.text.now c.in-Some.end (sym c.in-Some.ensures))

pub returns-in-None-clause-lines : goal.returns-in-None-clause-lines
returns-in-None-clause-lines c =
    rw (take_rest, drop-length) (lines_whole c.args.text.now (sym c.in-None.ensures) c.requires)
