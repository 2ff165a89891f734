use Rattle.lite_memory_node.proofs.WordLemmas.{answers-whole_word, answers-word_status}
use Rattle.lite_memory_node.proofs.lite_memory_laws.laws_of_words.Goals as goal

pub returns : goal.returns
returns c = record { lanes = answers-whole_word; status = answers-word_status }
