-- Which lines of a text are judged, and which of them are refused. Lines are numbered from 1.
use Rattle.std.specs.Prelude.{ℕ, ◌+◌, ◌==◌, ◌&&◌, ◌||◌, ◌++◌, ◌∷◌, [], List, Bool, true, not, Option, Some, None, Result, Ok, Err, length, nat_lt, if◌then◌else◌}
use Rattle.std.specs.Bool.{beq}
use Rattle.std.specs.List.{last_or, list_all}
use Rattle.plain_text.specs.Lines.{lines}
use Rattle.plain_text.specs.Separator.{is_separator}
use Rattle.axi_history.specs.declared.port.PortKind.{PortKind}
use Rattle.axi_history.specs.declared.port.PortRound.{PortRound}
use Rattle.trace_text.specs.Reading.{trace_round_of}

-- the lines before the first line `%%`, and all lines where there is none
abbrev pub before_separator : List (List ℕ) → List (List ℕ)
before_separator [] = []
before_separator (line ∷ more) = if is_separator line then [] else line ∷ before_separator more

abbrev pub judged_lines : List ℕ → List (List ℕ)
judged_lines text = before_separator (lines text)

-- an earlier round, or an earlier link of the same round
abbrev pub is_before : PortRound → PortRound → Bool
is_before r s = nat_lt r.round s.round || (r.round == s.round && nat_lt r.link s.link)

-- a line comes after the line before it
abbrev pub comes_after : Option PortRound → PortRound → Bool
comes_after None r = true
comes_after (Some before) r = is_before before r

-- the same kind of port, with the same bus
abbrev pub is_same_port : PortKind → PortKind → Bool
is_same_port a b = beq a.lite b.lite && a.bus == b.bus

-- a line that is not of the same link, or shows the same port
abbrev pub agrees_with : PortRound → PortRound → Bool
agrees_with r earlier = not (earlier.link == r.link) || is_same_port earlier.kind r.kind

-- what a line shows may follow what the lines before it show: it comes after the last of them, and shows the same port
-- as each of its link
abbrev pub may_follow : List PortRound → PortRound → Bool
may_follow earlier r = comes_after (last_or None earlier) r && list_all (agrees_with r) earlier

-- what a line shows after earlier ones; none where the line is refused
abbrev pub taken_after : List PortRound → Option PortRound → Option PortRound
taken_after earlier None = None
taken_after earlier (Some r) = if may_follow earlier r then Some r else None

-- What the lines show, after what earlier lines show, where none of them is refused; else the number of the first that
-- is.
abbrev pub shown_after : List PortRound → List (List ℕ) → Result (List PortRound) ℕ
shown_after earlier [] = Ok earlier
shown_after earlier (line ∷ more) =
    elim (taken_after earlier (trace_round_of line)) [ None ↦ Err (length earlier + 1) | Some r ↦ shown_after (earlier ++ r ∷ []) more ]

abbrev pub shown_by : List (List ℕ) → Result (List PortRound) ℕ
shown_by lines = shown_after [] lines
