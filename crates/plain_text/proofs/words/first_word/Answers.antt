-- The word ends at the first blank, or at the end of the text.
use Rattle.std.proofs.Common.{sym}
use Rattle.std.proofs.Math.Seq.{drop-length}
use Rattle.std.proofs.lemmas.List.{take_rest}
use Rattle.plain_text.specs.Words.{words}
use Rattle.plain_text.proofs.WordLaws.{words_at_blank, words_whole}
use Rattle.plain_text.proofs.words.first_word.Goals as goal

pub returns-in-Some : goal.returns-in-Some
returns-in-Some c = rw take_rest (words_at_blank c.args.text.now c.in-Some.end (sym c.in-Some.ensures) c.requires.filled)

pub returns-in-None : goal.returns-in-None
unfolding words
returns-in-None c = rw (take_rest, drop-length) (words_whole c.args.text.now (sym c.in-None.ensures) c.requires.some)
