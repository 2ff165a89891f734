-- What the laws of all kinds read of a remapper.
use Rattle.std.specs.Prelude.{◌∷◌, [], None, Some, false, is_some, map, true, unwrap_or, if◌then◌else◌}
use Rattle.std.specs.Option.{option_and_then}
use Rattle.axi_beats.specs.declared.beat.BBeat.{BBeat}
use Rattle.axi_beats.specs.declared.beat.RBeat.{RBeat}
use Rattle.flight.specs.Entries.{place_of}
use Rattle.node_shape.specs.Kind.{Kind}
use Rattle.node_shape.specs.LocalLaws.{Entries, Inside}
use Rattle.remap_node.specs.RemapState.{RemapState, ids_below}
use Rattle.remap_node.specs.RemapTable.{Renamed, input_in_flight, output_for, output_of_pair, remap_b, remap_r}
use Rattle.remap_node.specs.RemapTrail.{remap_kind}
use Rattle.remap_node.specs.declared.pair.IdPair.{IdPair}

-- the kind by itself, which notes nothing
abbrev pub remap_alone : Kind RemapState (Unit {0})
remap_alone = remap_kind

-- a write leaves with its response, and a read with its last beat: the oldest one with its ID below
abbrev pub pairs_of_writes : Entries RemapState IdPair
pairs_of_writes = record {
  entries = λ s. s.writes;
  entry_of = λ s taken. record { input = taken.1.id; output = unwrap_or (output_for s.writes (ids_below s.shape) taken.1.id) 0 } ∷ [];
  leaving = λ links s. option_and_then (λ (m : Renamed BBeat). place_of m.beat.id (map output_of_pair s.writes)) (remap_b links s);
  leaves_with = λ out. out.b_take;
  in_work = λ s. false;
}

abbrev pub pairs_of_reads : Entries RemapState IdPair
pairs_of_reads = record {
  entries = λ s. s.reads;
  entry_of = λ s taken. record { input = taken.1.id; output = unwrap_or (output_for s.reads (ids_below s.shape) taken.1.id) 0 } ∷ [];
  leaving = λ links s. option_and_then (λ (m : Renamed RBeat). if m.beat.last then place_of m.beat.id (map output_of_pair s.reads) else None) (remap_r links s);
  leaves_with = λ out. out.r_take;
  in_work = λ s. false;
}

-- it places answers by their IDs, awaits the data of its one upper link, and puts it on its one lower link beat for beat
abbrev pub remap_inside : Inside RemapState IdPair
remap_inside = record {
  writes = pairs_of_writes;
  reads = pairs_of_reads;
  places_response = λ s b. is_some (input_in_flight s.writes b.id);
  places_read_data = λ s r. is_some (input_in_flight s.reads r.id);
  awaited = λ s. Some s.shape.upper;
  data_to = λ s. s.shape.lower;
  whole = λ s. true;
}
