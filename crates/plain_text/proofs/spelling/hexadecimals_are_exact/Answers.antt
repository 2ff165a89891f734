use Rattle.plain_text.proofs.HexadecimalLaws.{hexadecimal_is_exact}
use Rattle.plain_text.proofs.spelling.hexadecimals_are_exact.Goals as goal

pub returns : goal.returns
returns c = hexadecimal_is_exact
