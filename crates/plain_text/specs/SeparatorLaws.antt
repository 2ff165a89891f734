-- The cut of a text in terms of its bytes and of its lines.
use Rattle.std.specs.Prelude.{◌≡◌, ℕ, Bool, false, List, [], ◌∷◌, ◌++◌, Option, None, Some, IfSome, is_some, ◌==◌, length, ◌⊎◌, codes}
use Rattle.plain_text.specs.Lines.{lines}
use Rattle.plain_text.specs.Separator.{separator, cut, has_separator, begins_with_separator}

-- the separator's line as it stands in the text before what follows it: with the end of the line,
-- which may be missing where nothing follows
abbrev pub IsSeparatorLine : List ℕ → List ℕ → Type 0
IsSeparatorLine bytes after = ((bytes ≡ separator) × (after ≡ [])) ⊎ ((bytes ≡ codes "%%\n") ⊎ (bytes ≡ codes "%%\r\n"))

-- the text has been cut in two, and nothing stood before the separator
abbrev pub is_cut_at_front : Option (List ℕ × List ℕ) → Bool
is_cut_at_front None = false
is_cut_at_front (Some texts) = length texts.0 == 0

pub record IsCutByLines (text : List ℕ) : Type 0 where
  -- a text is cut exactly where one of its lines is the separator
  pub found : is_some (cut text) ≡ has_separator (lines text)
  -- nothing stands before the separator exactly where it is the first line
  pub front : is_cut_at_front (cut text) ≡ begins_with_separator (lines text)
  -- the lines of the text are those before the separator, the separator, and those after it
  pub lines_are : IfSome (cut text) (λ texts. lines text ≡ lines texts.0 ++ separator ∷ lines texts.1)
  -- none of the lines before it is the separator
  pub first : IfSome (cut text) (λ texts. has_separator (lines texts.0) ≡ false)
  -- the bytes of the text are those before the separator's line, that line, and those after it
  pub bytes_are : IfSome (cut text) (λ texts. (bytes : List ℕ) × IsSeparatorLine bytes texts.1 × (text ≡ texts.0 ++ (bytes ++ texts.1)))

-- every text is cut at its first line `%%`
abbrev pub CutsByLines : Type 0
CutsByLines = (text : List ℕ) → IsCutByLines text
