-- The words that are left decide, and are still to be counted.
use Rattle.std.proofs.Common.{◌≡◌, ◌+◌, length}
use Rattle.std.specs.List.{list_all}
use Rattle.plain_text.specs.Words.{words}
use Rattle.plan_traffic.specs.Data.{is_data_word}
use Rattle.plan_traffic.proofs.data.count_words_of.Given as goal

abbrev pub invariant-loop-word : goal.invariant-loop-word
invariant-loop-word l = (list_all (is_data_word l.pairs) (words l.rest) ≡ list_all (is_data_word l.pairs) (words l.line)) × (l.count + length (words l.rest) ≡ length (words l.line))

abbrev pub decreases-loop-word : goal.decreases-loop-word
decreases-loop-word l = length (words l.rest)
