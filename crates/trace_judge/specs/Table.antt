-- What is kept of a trace: a table of its links, and the place of its last line.
use Rattle.std.specs.Prelude.{◌≡◌, ◌≤◌, ◌++◌, ◌∷◌, [], ℕ, Bool, true, false, List, Option, Some, None, length, slice_index_or}
use Rattle.std.specs.List.{last_or}
use Rattle.std.specs.Option.{option_map}
use Rattle.axi_history.specs.declared.port.PortRound.{PortRound}
use Rattle.trace_judge.specs.Entries.{EntryStands}
use Rattle.trace_judge.specs.Histories.{greatest_round, link_count}
use Rattle.trace_judge.specs.declared.link_state.LinkState.{LinkState}
use Rattle.trace_judge.specs.declared.table.TraceTable.{TraceTable}

-- the round and the link of a line
abbrev pub line_place : PortRound → ℕ × ℕ
line_place r = (r.round, r.link)

abbrev pub round_of : Option (ℕ × ℕ) → ℕ
round_of None = 0
round_of (Some place) = place.0

-- what is kept at the place of a link
abbrev pub link_entry : List (Option LinkState) → ℕ → Option LinkState
link_entry links link = slice_index_or links link None

pub record TableStands (table : TraceTable) (lines : List PortRound) : Type 0 where
  pub count : table.lines ≡ length lines
  pub last : table.last ≡ option_map line_place (last_or None lines)
  pub greatest : round_of table.last ≡ greatest_round lines
  pub size : length table.links.items ≡ link_count lines
  pub few : length table.links.items ≤ 4096
  pub links : (link : ℕ) → EntryStands (link_entry table.links.items link) lines link

-- What a table answers for a line: whether it was taken. `shown` is what the line shows, if it isn't refused.
abbrev pub TakesLine : Bool → TraceTable → List PortRound → Option PortRound → Type 0
TakesLine true table lines shown = (r : PortRound) × (shown ≡ Some r) × TableStands table (lines ++ r ∷ [])
TakesLine false table lines shown = shown ≡ None
