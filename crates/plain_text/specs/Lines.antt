-- The lines of a text.
use Rattle.std.specs.Prelude.{ℕ, Bool, List, ◌==◌}
use Rattle.std.specs.List.{after_first}
pub use Rattle.std.specs.Str.Lines.{lines, strip_carriage_return}

-- the byte ends a line: it is a line feed
abbrev pub is_feed : ℕ → Bool
is_feed byte = byte == 10

-- what follows the first line and its line feed
abbrev pub after_first_line : List ℕ → List ℕ
after_first_line text = after_first is_feed text
