use Rattle.plain_text.specs.Lines.{is_feed}
use Rattle.plain_text.proofs.Parts.{first_is_position}
use Rattle.plain_text.proofs.lines.first_feed.Goals as goal

pub returns : goal.returns
returns c = first_is_position is_feed c.args.text.now c.memchr.result c.memchr.ensures
