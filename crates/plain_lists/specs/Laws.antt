-- What holds of lists whatever their elements are; it is stated here of lists of numbers, or of pairs of them.
use Rattle.std.specs.Prelude.{◌≡◌, ◌≢◌, ℕ, Bool, ◌≤◌, ◌++◌, ◌∷◌, [], List, length, drop}
use Rattle.plain_lists.specs.Keys.{of_key, picked, without_oldest}
use Rattle.plain_lists.specs.Prefixes.{IsPrefix, Agree}
use Rattle.plain_lists.specs.Rounds.{over}

-- one more entry of the key is the last one of the key, and one of another key is none of it
abbrev pub OneMoreOfKey : Type 0
OneMoreOfKey =
    (key_of : ℕ → ℕ) (key : ℕ) (xs : List ℕ) (x : ℕ) →
    (key_of x ≡ key → of_key key_of key (xs ++ x ∷ []) ≡ of_key key_of key xs ++ x ∷ [])
    × (key_of x ≢ key → of_key key_of key (xs ++ x ∷ []) ≡ of_key key_of key xs)

-- the entries of a key in the beginning of a list are the beginning of those in the list
abbrev pub BeginningOfKey : Type 0
BeginningOfKey = (key_of : ℕ → ℕ) (key : ℕ) (xs ys : List ℕ) → IsPrefix xs ys → IsPrefix (of_key key_of key xs) (of_key key_of key ys)

-- it is all the same whether entries are told apart by one key first or by another one
abbrev pub KeysInEitherOrder : Type 0
KeysInEitherOrder = (id_of number_of : ℕ → ℕ) (id number : ℕ) (xs : List ℕ) → of_key id_of id (of_key number_of number xs) ≡ of_key number_of number (of_key id_of id xs)

-- without the oldest of a key, the first of its entries is gone
abbrev pub OldestLeaves : Type 0
OldestLeaves =
    (key_of : ℕ → ℕ) (key : ℕ) (entries : List ℕ) →
    of_key key_of key (without_oldest key_of key entries) ≡ drop 1 (of_key key_of key entries)

-- without the oldest of a key, the entries of another key are as they were
abbrev pub OthersStay : Type 0
OthersStay =
    (key_of : ℕ → ℕ) (key other : ℕ) (entries : List ℕ) → other ≢ key →
    of_key key_of other (without_oldest key_of key entries) ≡ of_key key_of other entries

-- what is picked of two lists of pairs is what is picked of the first one, and then of the second one
abbrev pub PickedOfMore : Type 0
PickedOfMore = (selects : ℕ → Bool) (pairs more : List (ℕ × ℕ)) → picked selects (pairs ++ more) ≡ picked selects pairs ++ picked selects more

-- of two lists that agree, the shorter is the beginning of the longer
abbrev pub AgreeingIsBeginning : Type 0
AgreeingIsBeginning = (xs ys : List ℕ) → Agree xs ys → length xs ≤ length ys → IsPrefix xs ys

-- a beginning agrees with its list, and so does each beginning of either
abbrev pub BeginningsAgree : Type 0
BeginningsAgree =
    (xs ys us vs : List ℕ) →
    (IsPrefix xs ys → Agree xs ys) × (IsPrefix us xs → IsPrefix vs ys → Agree xs ys → Agree us vs)

-- what goes through a list entry by entry, done to all rounds together, gives what it gives of each round, in order
abbrev pub RoundsOneByOne : Type 0
RoundsOneByOne =
    (f : List ℕ → List ℕ) → f [] ≡ [] → ((xs ys : List ℕ) → f (xs ++ ys) ≡ f xs ++ f ys) →
    (added given : ℕ → List ℕ) → ((n : ℕ) → f (added n) ≡ given n) → (n : ℕ) → f (over added n) ≡ over given n
