use Rattle.plain_text.proofs.HexadecimalLaws.{pairs_is_exact}
use Rattle.plain_text.proofs.spelling.pairs_are_exact.Goals as goal

pub returns : goal.returns
returns c = pairs_is_exact
