-- What the laws of all kinds read of an up converter.
use Rattle.std.specs.Prelude.{◌==◌, ◌∷◌, [], ℕ, Bool, None, Some, false, true, is_some, map, if◌then◌else◌}
use Rattle.std.specs.Option.{option_and_then, option_map, option_map_or}
use Rattle.axi_beats.specs.declared.beat.Addr.{Addr}
use Rattle.axi_beats.specs.declared.beat.RBeat.{RBeat}
use Rattle.axi_beats.specs.declared.beat.WBeat.{WBeat}
use Rattle.axi_link.specs.LinkWords.{head_of}
use Rattle.axi_trail.specs.Waiting.{Waiting, waiting_request}
use Rattle.flight.specs.Entries.{place_of}
use Rattle.node_shape.specs.Kind.{Kind}
use Rattle.node_shape.specs.LocalLaws.{Entries, Inside}
use Rattle.up_node.specs.UpState.{UpState}
use Rattle.up_node.specs.UpTable.{oldest_of_id, up_r, up_w}
use Rattle.up_node.specs.UpTrail.{up_kind}

-- the kind by itself, which notes nothing
abbrev pub up_alone : Kind UpState (Unit {0})
up_alone = up_kind

abbrev pub id_of_entry : Waiting Addr → ℕ
id_of_entry entry = entry.request.id

-- the next beat of the entry is its last one
abbrev pub is_last_of : Waiting Addr → Bool
is_last_of entry = entry.done == entry.request.len

-- a write leaves with its last beat of data, and a read with its last beat, the oldest one of the ID
abbrev pub passing_writes : Entries UpState Addr
passing_writes = record {
  entries = λ s. map waiting_request s.writes;
  entry_of = λ s taken. taken.1 ∷ [];
  leaving = λ links s. option_and_then (λ (w : WBeat). if option_map_or is_last_of (head_of s.writes) false then Some 0 else None) (up_w links s);
  leaves_with = λ out. out.w_take;
  in_work = λ s. false;
}

abbrev pub passing_reads : Entries UpState Addr
passing_reads = record {
  entries = λ s. map waiting_request s.reads;
  entry_of = λ s taken. taken.1 ∷ [];
  leaving = λ links s.
      option_and_then (λ (r : RBeat). if option_map_or is_last_of (oldest_of_id r.id s.reads) false then place_of r.id (map id_of_entry s.reads) else None) (up_r links s);
  leaves_with = λ out. out.r_take;
  in_work = λ s. false;
}

-- it places read data by its ID, awaits data of its one upper link where a write lacks some, and puts it on its one lower
-- link beat for beat
abbrev pub up_inside : Inside UpState Addr
up_inside = record {
  writes = passing_writes;
  reads = passing_reads;
  places_response = λ s b. true;
  places_read_data = λ s r. is_some (oldest_of_id r.id s.reads);
  awaited = λ s. option_map (λ (entry : Waiting Addr). s.shape.upper) (head_of s.writes);
  data_to = λ s. s.shape.lower;
  whole = λ s. true;
}
