-- What the laws of all kinds read of a Lite bridge.
use Rattle.std.specs.Prelude.{◌∷◌, [], ℕ, None, Some, false, true, is_some, if◌then◌else◌}
use Rattle.axi_link.specs.LinkWords.{head_of}
use Rattle.lite_node.specs.LiteState.{LiteState}
use Rattle.lite_node.specs.LiteTable.{lite_b, lite_r}
use Rattle.lite_node.specs.LiteTrail.{lite_kind}
use Rattle.node_shape.specs.Kind.{Kind}
use Rattle.node_shape.specs.LocalLaws.{Entries, Inside}

-- the kind by itself, which notes nothing
abbrev pub lite_alone : Kind LiteState (Unit {0})
lite_alone = lite_kind

-- the IDs of the requests that wait; the oldest one leaves with its answer
abbrev pub waiting_writes : Entries LiteState ℕ
waiting_writes = record {
  entries = λ s. s.writes;
  entry_of = λ s taken. taken.1.id ∷ [];
  leaving = λ links s. if is_some (lite_b links s) then Some 0 else None;
  leaves_with = λ out. out.b_take;
  in_work = λ s. false;
}

abbrev pub waiting_reads : Entries LiteState ℕ
waiting_reads = record {
  entries = λ s. s.reads;
  entry_of = λ s taken. taken.1.id ∷ [];
  leaving = λ links s. if is_some (lite_r links s) then Some 0 else None;
  leaves_with = λ out. out.r_take;
  in_work = λ s. false;
}

-- it can place an answer while a request waits, awaits the data of its one upper link, and puts it on its one lower link
-- beat for beat
abbrev pub lite_inside : Inside LiteState ℕ
lite_inside = record {
  writes = waiting_writes;
  reads = waiting_reads;
  places_response = λ s b. is_some (head_of s.writes);
  places_read_data = λ s r. is_some (head_of s.reads);
  awaited = λ s. Some s.shape.upper;
  data_to = λ s. s.shape.lower;
  whole = λ s. true;
}
