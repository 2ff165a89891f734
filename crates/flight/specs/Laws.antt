-- What holds of the first place of a key. Plain numbers stand for the entries, under any key.
use Rattle.std.specs.Prelude.{◌≡◌, ℕ, List, [], Some, None, map, remove}
use Rattle.flight.specs.Entries.{place_of}
use Rattle.plain_lists.specs.Keys.{of_key, without_oldest}

-- to remove the entry at the first place of a key is to remove the oldest of the key
abbrev pub FirstPlaceIsOldest : Type 0
FirstPlaceIsOldest =
    (key_of : ℕ → ℕ) (key : ℕ) (entries : List ℕ) (place : ℕ) → place_of key (map key_of entries) ≡ Some place →
    remove entries place ≡ without_oldest key_of key entries

-- a key that has no place is the key of no entry
abbrev pub NoPlaceIsNoEntry : Type 0
NoPlaceIsNoEntry =
    (key_of : ℕ → ℕ) (key : ℕ) (entries : List ℕ) → place_of key (map key_of entries) ≡ None →
    of_key key_of key entries ≡ []
