use Rattle.plain_text.proofs.SpellingLaws.{decimal_is_exact}
use Rattle.plain_text.proofs.spelling.decimals_are_exact.Goals as goal

pub returns : goal.returns
returns c = decimal_is_exact
