-- The words begin at the first byte that is no blank.
use Rattle.std.proofs.Common.{ap, sym, ◌∙◌}
use Rattle.std.proofs.lemmas.List.{take_rest}
use Rattle.plain_text.specs.Words.{next_word}
use Rattle.plain_text.proofs.WordLaws.{words_none, words_from, filled_from}
use Rattle.plain_text.proofs.words.next_word.Goals as goal

pub first_word-requires-clause-filled : goal.first_word-requires-clause-filled
first_word-requires-clause-filled c = rw take_rest (filled_from c.args.text.now c.in-Some.start (sym c.in-Some.ensures)).1

pub returns-in-Some : goal.returns-in-Some
returns-in-Some c =
    ap next_word (sym (words_from c.args.text.now c.in-Some.start (sym c.in-Some.ensures) ∙ (rw take_rest at c.first_word.ensures)))

pub returns-in-None : goal.returns-in-None
returns-in-None c = rw (words_none c.args.text.now (sym c.in-None.ensures))
