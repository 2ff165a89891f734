-- The paces of an endpoint, one for the row of each channel.
use Rattle.std.specs.Prelude.{◌||◌, [], ◌∷◌, ℕ, List, Bool, max}
use Rattle.node_core.specs.Pace.{is_let, new_pace, pace_after}
use Rattle.node_core.specs.declared.paces.EachRow.{EachRow}
use Rattle.node_core.specs.declared.paces.Paces.{Paces}

-- one list of delays for requests, which go down, and one for answers, which come up
abbrev pub new_paces : List ℕ → List ℕ → Paces
new_paces down up = record { aw = new_pace down; w = new_pace down; b = new_pace up; ar = new_pace down; r = new_pace up }

-- the rows that are done, of those whose condition holds
abbrev pub rows_let : EachRow → Paces → EachRow
rows_let possible p = record {
  aw = is_let possible.aw p.aw;
  w = is_let possible.w p.w;
  b = is_let possible.b p.b;
  ar = is_let possible.ar p.ar;
  r = is_let possible.r p.r;
}

-- after a round
abbrev pub paces_after : EachRow → Paces → Paces
paces_after possible p = record {
  aw = pace_after possible.aw p.aw;
  w = pace_after possible.w p.w;
  b = pace_after possible.b p.b;
  ar = pace_after possible.ar p.ar;
  r = pace_after possible.r p.r;
}

-- the row of some channel
abbrev pub any_row : EachRow → Bool
any_row rows = rows.aw || rows.w || rows.b || rows.ar || rows.r

abbrev pub longest : List ℕ → ℕ
longest [] = 0
longest (delay ∷ delays) = max delay (longest delays)

-- the longest delay of all rows
abbrev pub longest_delay : Paces → ℕ
longest_delay p = max (longest p.aw.delays) (max (longest p.w.delays) (max (longest p.b.delays) (max (longest p.ar.delays) (longest p.r.delays))))
