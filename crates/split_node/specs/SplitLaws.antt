-- What the laws of all kinds read of a splitter, and what a splitter alone shows.
use Rattle.std.specs.Prelude.{◌≡◌, ◌<◌, ◌∷◌, [], ℕ, true, List, Option, Some, None, is_some, length, map, if◌then◌else◌}
use Rattle.std.specs.Option.{option_and_then}
use Rattle.axi_beats.specs.declared.beat.Addr.{Addr}
use Rattle.axi_beats.specs.declared.beat.BBeat.{BBeat}
use Rattle.axi_beats.specs.declared.beat.RBeat.{RBeat}
use Rattle.axi_link.specs.LinkView.{LinkView}
use Rattle.axi_link.specs.LinkWords.{link_of}
use Rattle.burst_cuts.specs.Parts.{part_of}
use Rattle.flight.specs.Entries.{place_of}
use Rattle.node_shape.specs.Kind.{Kind}
use Rattle.node_shape.specs.LocalLaws.{Entries, Inside}
use Rattle.split_node.specs.SplitState.{SplitState}
use Rattle.split_node.specs.SplitTable.{oldest_entry, split_b, split_out, split_r}
use Rattle.split_node.specs.SplitTrail.{split_kind}
use Rattle.split_node.specs.declared.burst.InWork.{InWork}
use Rattle.split_node.specs.declared.burst.SplitEntry.{SplitEntry}

-- the kind by itself, which notes nothing
abbrev pub split_alone : Kind SplitState (Unit {0})
split_alone = split_kind

abbrev pub id_of_split : SplitEntry → ℕ
id_of_split e = e.id

-- the place of the oldest entry of an answer's ID, where the answer that goes up is the burst's last beat
abbrev pub leaving_write : List LinkView → SplitState → Option ℕ
leaving_write links s = option_and_then (λ (b : BBeat). place_of b.id (map id_of_split s.writes)) (split_b links s).put

abbrev pub leaving_read : List LinkView → SplitState → Option ℕ
leaving_read links s = option_and_then (λ (r : RBeat). if r.last then place_of r.id (map id_of_split s.reads) else None) (split_r links s).put

-- a write leaves with the response that goes up, and a read with the last beat that does: the oldest one of the ID
abbrev pub held_writes : Entries SplitState ℕ
held_writes = record {
  entries = λ s. map id_of_split s.writes;
  entry_of = λ s taken. taken.1.id ∷ [];
  leaving = leaving_write;
  leaves_with = λ out. out.b_take;
  in_work = λ s. is_some s.write_work;
}

abbrev pub held_reads : Entries SplitState ℕ
held_reads = record {
  entries = λ s. map id_of_split s.reads;
  entry_of = λ s taken. taken.1.id ∷ [];
  leaving = leaving_read;
  leaves_with = λ out. out.r_take;
  in_work = λ s. is_some s.read_work;
}

-- it places answers by their IDs, awaits the data of its one upper link, and puts it on its one lower link beat for beat
abbrev pub split_inside : Inside SplitState ℕ
split_inside = record {
  writes = held_writes;
  reads = held_reads;
  places_response = λ s b. is_some (oldest_entry b.id s.writes);
  places_read_data = λ s r. is_some (oldest_entry r.id s.reads);
  awaited = λ s. Some s.upper;
  data_to = λ s. s.lower;
  whole = λ s. true;
}

-- With room below, the part that is put next is the next beat of the burst in work.
abbrev pub NextPartGoesOn : Type 0
NextPartGoesOn =
    (links : List LinkView) (s : SplitState) (work : InWork) →
    (s.write_work ≡ Some work → length (link_of links s.lower).aw < (link_of links s.lower).depth →
    (split_out links s).aw_put ≡ Some (s.lower, part_of work.request work.next))
    × (s.read_work ≡ Some work → length (link_of links s.lower).ar < (link_of links s.lower).depth →
    (split_out links s).ar_put ≡ Some (s.lower, part_of work.request work.next))
