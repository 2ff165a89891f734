-- A text has few words.
use Rattle.std.proofs.Common.{◌≤◌, ◌+◌, List, ℕ, length, arith}
use Rattle.std.proofs.lemmas.List.Splits.{length-slice_split}
use Rattle.std.proofs.lemmas.List.Sums.{length-filter, count_by-le-length}
use Rattle.plain_text.specs.Words.{is_blank, words}

pub words_short : (text : List ℕ) → length (words text) ≤ length text + 1
unfolding words
words_short text =
    omega (arith, length-filter {X = List ℕ}, count_by-le-length {X = List ℕ}, length-slice_split is_blank text, count_by-le-length is_blank text)
