-- Documents whose openings are known.
use Rattle.std.specs.Prelude.{◌≡◌, [], ◌∷◌, ℕ, List, Bool, true, false, length}
use Rattle.axi_beats.specs.declared.beat.Burst.TheVariants.{Incr}
use Rattle.elaborate.specs.KnownPlans.{one_page, small, three_by_two}
use Rattle.net_opening.specs.Opening.{opening}
use Rattle.net_opening.specs.PlanLinks.{links_into, links_out_of}
use Rattle.net_opening.specs.States.{lite_memory_at}
use Rattle.net_opening.specs.Touched.{lines_touched}
use Rattle.plan_traffic.specs.Traffic.{TrafficItem}

-- a burst of so many beats of 4 bytes, from the manager of the first document node
abbrev pub a_burst : ℕ → Bool → ℕ → ℕ → TrafficItem
a_burst number write address beats = record {
  manager = 0;
  txn = record {
    number = number;
    write = write;
    request = record { id = 0; addr = address; len = beats; size = 2; burst = Incr; tag = record { txn = 0; low = 0; high = 0 } };
    after = 0;
  };
  bytes = [];
}

-- two writes, of which one lies on two lines, one to no memory, and a read
abbrev pub some_traffic : List TrafficItem
some_traffic = a_burst 1 true 0x1fc 1 ∷ a_burst 2 true 0x80 0 ∷ a_burst 3 true 0x9000 0 ∷ a_burst 4 false 0x300 0 ∷ a_burst 5 true 0x84 0 ∷ []

pub record OpeningsAreKnown : Type 0 where
  -- at the mux of a crossbar the demuxes of its three inputs, at a demux the muxes and its error subordinate
  pub inputs : links_into three_by_two 9 ≡ 3 ∷ 6 ∷ 9 ∷ []
  pub ports : links_out_of three_by_two 5 ≡ 6 ∷ 7 ∷ 8 ∷ []
  -- of the small system, nothing stands above the manager, and the bridge's splitter makes single beats
  pub first : links_into small 0 ≡ []
  pub touched : lines_touched one_page some_traffic 3 ≡ 1 ∷ 3 ∷ 4 ∷ []
  pub touched_nowhere : lines_touched one_page some_traffic 2 ≡ 288 ∷ []
  pub nodes : length (opening small some_traffic).nodes ≡ 14
  -- its Lite memory names no bus, and has that of its link
  pub lite_bus : (lite_memory_at small 13 some_traffic).area.bus ≡ 8
