-- What the laws of all kinds read of a mux.
use Rattle.std.specs.Prelude.{◌/◌, ◌∷◌, [], ℕ, Option, None, Some, false, true, is_some, map, slice_get, if◌then◌else◌}
use Rattle.std.specs.Option.{option_and_then}
use Rattle.axi_link.specs.LinkWords.{head_of}
use Rattle.mux_node.specs.MuxState.{MuxState}
use Rattle.mux_node.specs.MuxTable.{ends_burst, ids_of, mux_w}
use Rattle.mux_node.specs.MuxTrail.{mux_kind}
use Rattle.node_shape.specs.Kind.{Kind}
use Rattle.node_shape.specs.LocalLaws.{Entries, Inside}

-- the kind by itself, which notes nothing
abbrev pub mux_alone : Kind MuxState (Unit {0})
mux_alone = mux_kind

-- the links whose data is still awaited, one for each write below that lacks data; the first leaves with its last beat
abbrev pub granted_links : Entries MuxState (Option ℕ)
granted_links = record {
  entries = λ s. map (slice_get s.shape.uppers) s.granted;
  entry_of = λ s taken. Some taken.0 ∷ [];
  leaving = λ links s. if ends_burst (mux_w links s) then Some 0 else None;
  leaves_with = λ out. out.w_take;
  in_work = λ s. false;
}

-- reads leave nothing behind
abbrev pub no_reads : Entries MuxState (Option ℕ)
no_reads = record { entries = λ s. []; entry_of = λ s taken. []; leaving = λ links s. None; leaves_with = λ out. None; in_work = λ s. false }

-- it can place an answer with an input in its ID, awaits the data of the first granted input, and puts it on its one lower
-- link beat for beat
abbrev pub mux_inside : Inside MuxState (Option ℕ)
mux_inside = record {
  writes = granted_links;
  reads = no_reads;
  places_response = λ s b. is_some (slice_get s.shape.uppers (b.id / ids_of s.shape));
  places_read_data = λ s r. is_some (slice_get s.shape.uppers (r.id / ids_of s.shape));
  awaited = λ s. option_and_then (slice_get s.shape.uppers) (head_of s.granted);
  data_to = λ s. s.shape.lower;
  whole = λ s. true;
}
