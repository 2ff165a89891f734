-- The words that are left decide, and are still to be counted and added.
use Rattle.std.proofs.Common.{◌≡◌, ◌+◌, ◌++◌, length}
use Rattle.std.specs.List.{list_all}
use Rattle.plain_text.specs.Words.{words}
use Rattle.plan_traffic.specs.Data.{data_bytes, is_data_word}
use Rattle.plan_traffic.proofs.data.take_words.Given as goal

abbrev pub invariant-loop-word : goal.invariant-loop-word
invariant-loop-word l =
    (list_all (is_data_word l.pairs) (words l.rest) ≡ list_all (is_data_word l.pairs) (words l.line))
    × (l.count + length (words l.rest) ≡ length (words l.line))
    × (l.bytes.items ++ data_bytes (words l.rest) ≡ l.fn.bytes.items ++ data_bytes (words l.line))

abbrev pub decreases-loop-word : goal.decreases-loop-word
decreases-loop-word l = length (words l.rest)
