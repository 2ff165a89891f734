-- What the laws of all kinds read of a slice.
use Rattle.std.specs.Prelude.{[], None, Some, false, true}
use Rattle.node_shape.specs.Kind.{Kind}
use Rattle.node_shape.specs.LocalLaws.{Entries, Inside}
use Rattle.slice_node.specs.SliceState.{SliceState}
use Rattle.slice_node.specs.SliceTrail.{slice_kind}

-- the kind by itself, which notes nothing
abbrev pub slice_alone : Kind SliceState (Unit {0})
slice_alone = slice_kind

-- it keeps no entry
abbrev pub no_entries : Entries SliceState (Unit {0})
no_entries = record { entries = λ s. []; entry_of = λ s a. []; leaving = λ links s. None; leaves_with = λ out. None; in_work = λ s. false }

-- it can place each answer, awaits the data of its one upper link, and puts it on its one lower link beat for beat
abbrev pub slice_inside : Inside SliceState (Unit {0})
slice_inside = record {
  writes = no_entries;
  reads = no_entries;
  places_response = λ s b. true;
  places_read_data = λ s r. true;
  awaited = λ s. Some s.upper;
  data_to = λ s. s.lower;
  whole = λ s. true;
}
