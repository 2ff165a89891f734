-- What is known of bytes after several reads or writes, where a source or a sink tells them.
use Rattle.std.specs.Prelude.{◌≡◌, ℕ, ◌<◌, List, [], length, take, Option, None, Some, IfSome}
use Rattle.std.specs.Io.KnownBytes.{Consumes, Appends}

-- the text is all that was left, and nothing is left now
abbrev pub IsWhole : Option (List ℕ) → Option (List ℕ) → List ℕ → Type 0
IsWhole None now text = Unit {0}
IsWhole (Some all) now text = (text ≡ all) × (now ≡ Some [])

-- more bytes than the limit were left
abbrev pub IsOver : ℕ → Option (List ℕ) → Type 0
IsOver limit before = IfSome before (λ all. limit < length all)

-- the bytes that are left now are the end of those that were left before
pub record IsRest (before now : Option (List ℕ)) : Type 0 where
  pub moved : List ℕ
  pub consumes : Consumes before now moved

-- only a part of the piece was written: its first bytes, and not its last one
pub record AppendsPrefix (before now : Option (List ℕ)) (piece : List ℕ) : Type 0 where
  pub count : ℕ
  pub proper : count < length piece
  pub appends : Appends before now (take count piece)
