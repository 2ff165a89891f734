-- The data words of a write: a pair of characters for each valid lane of a beat. (Arm IHI 0022, write strobes.)
use Rattle.std.specs.Prelude.{ℕ, ◌*◌, ◌==◌, ◌&&◌, ◌||◌, Bool, true, false, List, [], ◌∷◌, length, Option, None, Some, is_some}
use Rattle.std.specs.List.{flat_map, list_all}
use Rattle.manager_node.specs.declared.script.WriteByte.{WriteByte}
use Rattle.plain_text.specs.Numbers.{read_byte_pair}

-- two dashes (45), or two hexadecimal digits in either case
unfoldable pub is_pair : ℕ → ℕ → Bool
is_pair high low = (high == 45 && low == 45) || is_some (read_byte_pair (high ∷ low ∷ []))

-- a lane that two digits stand for is strobed, and one that two dashes stand for isn't
abbrev pub lane_byte : Option ℕ → WriteByte
lane_byte None = record { value = 0; strobed = false }
lane_byte (Some value) = record { value = value; strobed = true }

-- what a pair says of its lane
unfoldable pub pair_byte : ℕ → ℕ → WriteByte
pair_byte high low = lane_byte (read_byte_pair (high ∷ low ∷ []))

-- the characters are pairs
abbrev pub are_pairs : List ℕ → Bool
are_pairs [] = true
are_pairs (single ∷ []) = false
are_pairs (high ∷ low ∷ more) = is_pair high low && are_pairs more

-- what the pairs of a word say
abbrev pub word_bytes : List ℕ → List WriteByte
word_bytes [] = []
word_bytes (single ∷ []) = []
word_bytes (high ∷ low ∷ more) = pair_byte high low ∷ word_bytes more

-- so many pairs, and nothing else
abbrev pub is_data_word : ℕ → List ℕ → Bool
is_data_word pairs word = length word == 2 * pairs && are_pairs word

-- one data word or more: so many pairs in the first one, and so many in each other one
abbrev pub are_data_words : ℕ → ℕ → List (List ℕ) → Bool
are_data_words first other [] = false
are_data_words first other (word ∷ more) = is_data_word first word && list_all (is_data_word other) more

-- what all words say, in the order of the burst
abbrev pub data_bytes : List (List ℕ) → List WriteByte
data_bytes words = flat_map word_bytes words
