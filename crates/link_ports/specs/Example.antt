-- A write through one link, as it is seen at its port, on a bus of 4 bytes.
use Rattle.std.specs.Prelude.{◌≡◌, ℕ, zero, suc, ◌∷◌, [], List, true, false, Some, None}
use Rattle.axi_history.specs.declared.port.PortKind.{PortKind}
use Rattle.axi_history.specs.declared.port.PortRound.{PortRound}
use Rattle.axi_history.specs.PortRules.{axi4_history_fault}
use Rattle.node_core.specs.Acted.{no_moves}
use Rattle.axi_link.specs.LinkView.{LinkView, empty_link}
use Rattle.axi_link.specs.Moves.{link_after}
use Rattle.axi_link.specs.declared.out.Out.{Out}
use Rattle.axi_trail.specs.Example.{write_address, write_data_beat, write_response, example_schedule, example_progress}
use Rattle.axi_trail.specs.LinkContracts.{Asks, Answers}
use Rattle.axi_trail.specs.Schedule.{Schedule, no_share}
use Rattle.axi_trail.specs.Trail.{IsLinkRun, trail_above, trail_below}
use Rattle.lite_rules.specs.PortFaults.{history_fault}
use Rattle.node_shape.specs.LegalSchedule.{IsLegalSchedule}
use Rattle.link_ports.specs.PortView.{seen_address, seen_response, port_history}
use Rattle.link_ports.specs.WordSchedule.{IsWordSchedule}

abbrev pub bus_of_four : PortKind
bus_of_four = record { lite = false; bus = 4 }

-- the manager puts the address and the data in its first round, and takes the response in its fifth
abbrev pub manager_moves : ℕ → Out
manager_moves zero = record no_moves { aw_put = Some (0, write_address); w_put = Some (0, write_data_beat) }
manager_moves (suc zero) = no_moves
manager_moves (suc (suc zero)) = no_moves
manager_moves (suc (suc (suc zero))) = no_moves
manager_moves (suc (suc (suc (suc zero)))) = record no_moves { b_take = Some 0 }
manager_moves (suc (suc (suc (suc (suc n))))) = no_moves

-- the memory takes the data, then the address, and then responds
abbrev pub memory_moves : ℕ → Out
memory_moves zero = no_moves
memory_moves (suc zero) = record no_moves { w_take = Some 0 }
memory_moves (suc (suc zero)) = record no_moves { aw_take = Some 0 }
memory_moves (suc (suc (suc zero))) = record no_moves { b_put = Some (0, write_response) }
memory_moves (suc (suc (suc (suc n)))) = no_moves

-- a memory that responds at once
abbrev pub hasty_moves : ℕ → Out
hasty_moves zero = record no_moves { b_put = Some (0, write_response) }
hasty_moves (suc n) = no_moves

-- the one link between the manager and a memory, with the number 0
module _ (memory : ℕ → Out) where
  abbrev pub link_between : ℕ → LinkView
  link_between zero = empty_link 2
  link_between (suc n) = link_after 0 (link_between n) (manager_moves n) (memory n)

  abbrev pub links_between : ℕ → List LinkView
  links_between n = link_between n ∷ []

-- a round in which nothing is offered
abbrev pub quiet_port : ℕ → PortRound
quiet_port round = record { round = round; link = 0; kind = bus_of_four; aw = None; w = None; b = None; ar = None; r = None }

-- Nothing is offered in the round of a put. The address waits for a round, the data and the response don't, and no
-- rule is broken.
abbrev pub ExamplePort : Type 0
ExamplePort =
    IsLinkRun 0 (links_between memory_moves) manager_moves memory_moves
    × (port_history 0 bus_of_four (links_between memory_moves) manager_moves memory_moves 5
    ≡ quiet_port 1
    ∷ record (quiet_port 2) { aw = Some (record { beat = seen_address write_address; taken = false }); w = Some (record { beat = write_data_beat; taken = true }) }
    ∷ record (quiet_port 3) { aw = Some (record { beat = seen_address write_address; taken = true }) }
    ∷ quiet_port 4
    ∷ record (quiet_port 5) { b = Some (record { beat = seen_response write_response; taken = true }) }
    ∷ [])
    × (axi4_history_fault 4 (port_history 0 bus_of_four (links_between memory_moves) manager_moves memory_moves 5) ≡ None)

-- With the memory that responds at once, rule 11 is broken on B: so a history isn't legal by the way that it is made.
abbrev pub HastyPort : Type 0
HastyPort = axi4_history_fault 4 (port_history 0 bus_of_four (links_between hasty_moves) manager_moves hasty_moves 2) ≡ Some (3, 11)

-- The run keeps all that is asked of a link for its port to be legal: what it has to carry is legal on its bus, and both
-- nodes keep their contracts after any number of rounds.
abbrev pub PortExampleKeepsContracts : Type 0
PortExampleKeepsContracts =
    IsLegalSchedule 4 example_schedule
    × ((n : ℕ) → Asks example_schedule example_progress (trail_above manager_moves (links_between memory_moves) n 0))
    × ((n : ℕ) → Answers example_schedule example_progress (trail_below memory_moves (links_between memory_moves) n 0))

-- Seen as a port of AXI4-Lite the same history breaks rule 3 on AW: its address has an ID.
abbrev pub PortWithIds : Type 0
PortWithIds =
    history_fault (record bus_of_four { lite = true }) (port_history 0 bus_of_four (links_between memory_moves) manager_moves memory_moves 2) ≡ Some (1, 3)

-- the write alone, on a link without IDs
abbrev pub word_schedule : Schedule
word_schedule = record example_schedule { id_width = 0; reads = λ t. no_share }

-- That is what an AXI4-Lite link can have to carry.
abbrev pub WordScheduleIsLegal : Type 0
WordScheduleIsLegal = IsLegalSchedule 4 word_schedule × IsWordSchedule 4 word_schedule
