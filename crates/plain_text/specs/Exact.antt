-- Reading and writing that undo each other.
use Rattle.std.specs.Prelude.{◌≡◌, ℕ, List, ◌∷◌, ◌++◌, Option, Some, option_and_then}
use Rattle.plain_text.specs.Fields.{field_before}

-- a step that is taken where the one before it gave a value; `do` blocks are made of such steps
infixl 10 ◌>>=◌
abbrev pub ◌>>=◌ : {A B : Type 0} → Option A → (A → Option B) → Option B
o >>= f = option_and_then f o

-- the texts that are read are exactly those that are written of the values that fit
pub record IsExact {A : Type 0} (read : List ℕ → Option A) (write : A → List ℕ) (Fits : A → Type 0) : Type 0 where
  -- what is read fits, and is written as it stood
  pub sound : (text : List ℕ) (value : A) → read text ≡ Some value → Fits value × (text ≡ write value)
  -- what fits and is written is read as itself
  pub complete : (value : A) → Fits value → read (write value) ≡ Some value

-- the same of a value at the front of a text, read with the text behind it
pub record IsExactBefore {A : Type 0} (read : List ℕ → Option (A × List ℕ)) (write : A → List ℕ → List ℕ) (Fits : A → Type 0) : Type 0 where
  pub sound : (text : List ℕ) (found : A × List ℕ) → read text ≡ Some found → Fits found.0 × (text ≡ write found.0 found.1)
  pub complete : (value : A) (rest : List ℕ) → Fits value → read (write value rest) ≡ Some (value, rest)

-- a value whose text ends before a byte, and what follows that byte
abbrev pub read_before : {A : Type 0} → ℕ → (List ℕ → Option A) → List ℕ → Option (A × List ℕ)
read_before end read text = do
  parts ← field_before end text
  value ← read parts.0
  Some (value, parts.1)

-- the text of a value, the byte that ends it, and what follows that byte
abbrev pub write_before : {A : Type 0} → ℕ → (A → List ℕ) → A → List ℕ → List ℕ
write_before end write value rest = write value ++ end ∷ rest
