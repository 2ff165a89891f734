use Rattle.plain_text.proofs.CutLaws.{cuts_by_lines}
use Rattle.plain_text.proofs.separator.cut_is_by_lines.Goals as goal

pub returns : goal.returns
returns c = cuts_by_lines
