-- What the laws of all kinds read of a demux.
use Rattle.std.specs.Prelude.{◌∷◌, [], ℕ, true, false, None, find, is_some, map, if◌then◌else◌}
use Rattle.std.specs.Option.{option_and_then, option_map, option_map_or}
use Rattle.axi_beats.specs.declared.beat.RBeat.{RBeat}
use Rattle.axi_beats.specs.declared.beat.BBeat.{BBeat}
use Rattle.demux_node.specs.DemuxState.{DemuxState, lower_of, port_for, route_of}
use Rattle.demux_node.specs.DemuxTable.{demux_b, demux_r, id_of_route, id_of_write, is_open_write}
use Rattle.demux_node.specs.DemuxTrail.{demux_kind}
use Rattle.demux_node.specs.declared.route.Route.{Route}
use Rattle.demux_node.specs.declared.route.WriteRoute.{WriteRoute}
use Rattle.flight.specs.Entries.{place_of}
use Rattle.node_shape.specs.Kind.{Kind}
use Rattle.node_shape.specs.LocalLaws.{Entries, Inside}

-- the kind by itself, which notes nothing
abbrev pub demux_alone : Kind DemuxState (Unit {0})
demux_alone = demux_kind

-- a write leaves with its response, and a read with its last beat: the oldest one of the ID
abbrev pub write_entries : Entries DemuxState Route
write_entries = record {
  entries = λ s. map route_of s.writes;
  entry_of = λ s taken. record { id = taken.1.id; port = port_for s.shape taken.1.addr } ∷ [];
  leaving = λ links s. option_and_then (λ (x : ℕ × BBeat). place_of x.1.id (map id_of_write s.writes)) (demux_b links s);
  leaves_with = λ out. out.b_take;
  in_work = λ s. false;
}

abbrev pub read_entries : Entries DemuxState Route
read_entries = record {
  entries = λ s. s.reads;
  entry_of = λ s taken. record { id = taken.1.id; port = port_for s.shape taken.1.addr } ∷ [];
  leaving = λ links s. option_and_then (λ (x : ℕ × RBeat). if x.1.last then place_of x.1.id (map id_of_route s.reads) else None) (demux_r links s);
  leaves_with = λ out. out.r_take;
  in_work = λ s. false;
}

-- it places answers by their IDs, and write data goes to the link of the oldest write that lacks some
abbrev pub demux_inside : Inside DemuxState Route
demux_inside = record {
  writes = write_entries;
  reads = read_entries;
  places_response = λ s b. is_some (place_of b.id (map id_of_write s.writes));
  places_read_data = λ s r. is_some (place_of r.id (map id_of_route s.reads));
  awaited = λ s. option_map (λ (write : WriteRoute). s.shape.upper) (find is_open_write s.writes);
  data_to = λ s. option_map_or (λ (write : WriteRoute). lower_of s.shape write.port) (find is_open_write s.writes) 0;
  whole = λ s. true;
}
