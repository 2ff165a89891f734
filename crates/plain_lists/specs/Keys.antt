-- Lists of entries, each of which stands under a key.
use Rattle.std.specs.Prelude.{ℕ, ◌==◌, if◌then◌else◌, List, Bool, [], ◌∷◌, length, filter}

-- the entries with this key, in their order
abbrev pub of_key : {X : Type 0} → (X → ℕ) → ℕ → List X → List X
of_key key_of key entries = filter (λ entry. key_of entry == key) entries

-- the entries whose key is selected
abbrev pub selected : {X : Type 0} → (X → ℕ) → (ℕ → Bool) → List X → List X
selected key_of selects entries = filter (λ entry. selects (key_of entry)) entries

-- of pairs of a key and an entry, the entries whose key is selected
abbrev pub picked : {X : Type 0} → (ℕ → Bool) → List (ℕ × X) → List X
picked selects [] = []
picked selects (pair ∷ pairs) = if selects pair.0 then pair.1 ∷ picked selects pairs else picked selects pairs

-- how many of the keys are this one
abbrev pub count_of : ℕ → List ℕ → ℕ
count_of key keys = length (of_key (λ k. k) key keys)

-- the entries without the oldest one of this key
abbrev pub without_oldest : {X : Type 0} → (X → ℕ) → ℕ → List X → List X
without_oldest key_of key [] = []
without_oldest key_of key (entry ∷ entries) =
    if key_of entry == key then entries else entry ∷ without_oldest key_of key entries

-- the entries that are left after answers with these keys, each of which takes the oldest entry of its key
abbrev pub left_after : {X : Type 0} → (X → ℕ) → List X → List ℕ → List X
left_after key_of entries [] = entries
left_after key_of entries (key ∷ answers) = left_after key_of (without_oldest key_of key entries) answers
