use Rattle.std.proofs.Common.{arith, sym, ◌∙◌}
use Rattle.plain_text.proofs.SpellingLaws.{no_pair, pair_word}
use Rattle.plain_text.proofs.numbers.read_byte_pair.Goals as goal

pub returns-in-len2 : goal.returns-in-len2
returns-in-len2 c = c.byte_of_pair.ensures ∙ sym (pair_word c.args.pair.now (omega (arith, c.in-len2.len_at_least, c.in-len2.len_below)))

pub returns-in_default : goal.returns-in_default
returns-in_default c = sym (no_pair c.args.pair.now (λ is. omega (arith, c.in_default.len_below)))

pub returns-in_default-2 : goal.returns-in_default-2
returns-in_default-2 c = sym (no_pair c.args.pair.now (λ is. omega (arith, c.in_default.len_at_least)))
