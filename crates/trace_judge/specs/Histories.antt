-- The histories of the ports of a trace, from what its lines show, and the first rule that one of them breaks.
use Rattle.std.specs.Prelude.{ℕ, ◌+◌, ◌==◌, ◌&&◌, ◌++◌, ◌∷◌, [], List, Bool, Option, Some, None, max, if◌then◌else◌}
use Rattle.std.specs.List.{find}
use Rattle.std.specs.Option.{option_map, unwrap_or}
use Rattle.std.proofs.Common.{suc, zero}
use Rattle.axi_history.specs.declared.port.PortKind.{PortKind}
use Rattle.axi_history.specs.declared.port.PortRound.{PortRound}
use Rattle.axi_history.specs.PortRules.{or_else}
use Rattle.lite_rules.specs.PortFaults.{history_fault}
use Rattle.trace_judge.specs.declared.verdict.TraceFault.{TraceFault}

-- ---- What a link shows

-- the line of a round and a link
abbrev pub is_line_of : ℕ → ℕ → PortRound → Bool
is_line_of round link r = r.round == round && r.link == link

abbrev pub is_of_link : ℕ → PortRound → Bool
is_of_link link r = r.link == link

-- the port of a link, as its first line shows it; none where no line is of the link
abbrev pub port_of_link : List PortRound → ℕ → Option PortKind
port_of_link lines link = option_map (λ (r : PortRound). r.kind) (find (is_of_link link) lines)

-- a round in which nothing is offered
abbrev pub quiet_round : PortKind → ℕ → ℕ → PortRound
quiet_round port link round = record { round = round; link = link; kind = port; aw = None; w = None; b = None; ar = None; r = None }

-- what a link shows in a round: its line of that round, and nothing where there is none
abbrev pub shown_in : List PortRound → PortKind → ℕ → ℕ → PortRound
shown_in lines port link round = unwrap_or (find (is_line_of round link) lines) (quiet_round port link round)

-- the rounds from 1 to n
abbrev pub history : (ℕ → PortRound) → ℕ → List PortRound
history shown zero = []
history shown (suc n) = history shown n ++ shown (suc n) ∷ []

-- ---- What is broken

-- The channel and the rule that a link breaks first in the rounds from 1 to `round`. None where no line is of the link.
abbrev pub fault_of_port : List PortRound → ℕ → ℕ → Option PortKind → Option (ℕ × ℕ)
fault_of_port lines link round None = None
fault_of_port lines link round (Some port) = history_fault port (history (shown_in lines port link) round)

abbrev pub fault_of_link : List PortRound → ℕ → ℕ → Option (ℕ × ℕ)
fault_of_link lines round link = fault_of_port lines link round (port_of_link lines link)

-- the number of the first line with a property, from 1
abbrev pub first_line_with : (PortRound → Bool) → List PortRound → Option ℕ
first_line_with property [] = None
first_line_with property (r ∷ more) = if property r then Some 1 else option_map (λ n. n + 1) (first_line_with property more)

-- the number of the line of a round and a link, or 0 where there is none
abbrev pub line_number_at : List PortRound → ℕ → ℕ → ℕ
line_number_at lines link round = unwrap_or (first_line_with (is_line_of round link) lines) 0

-- what a link breaks first in the rounds from 1 to this one, with the line, the round and the link
abbrev pub broken_at : List PortRound → ℕ → ℕ → Option TraceFault
broken_at lines round link =
    option_map (λ fault. record { line = line_number_at lines link round; round = round; link = link; channel = fault.0; rule = fault.1 }) (fault_of_link lines round link)

module _ {A : Type 0} where
  -- what is answered at the least number below n at which something is
  abbrev pub first_answer : (ℕ → Option A) → ℕ → Option A
  first_answer answer zero = None
  first_answer answer (suc n) = or_else (first_answer answer n) (answer n)

-- the greatest round of a line, and one more than the greatest link
abbrev pub greatest_round : List PortRound → ℕ
greatest_round [] = 0
greatest_round (r ∷ more) = max r.round (greatest_round more)

abbrev pub link_count : List PortRound → ℕ
link_count [] = 0
link_count (r ∷ more) = max (r.link + 1) (link_count more)

-- what is broken in a round, on the least link
abbrev pub broken_in : List PortRound → ℕ → Option TraceFault
broken_in lines round = first_answer (broken_at lines round) (link_count lines)

-- what is broken in the first round in which something is. The rounds are those up to the greatest of a line, for each
-- link; round 0 has no history.
abbrev pub first_broken : List PortRound → Option TraceFault
first_broken lines = first_answer (broken_in lines) (greatest_round lines + 1)
