-- How many requests of a history are unanswered.
use Rattle.std.specs.Prelude.{ℕ, ◌-◌, ◌++◌, ◌∷◌, [], List, Option, is_none, length, count_by, if◌then◌else◌}
use Rattle.axi_history.specs.declared.port.PortKind.{PortKind}
use Rattle.axi_history.specs.declared.port.PortRound.{PortRound}
use Rattle.axi_history.specs.declared.port.RawR.{RawR}
use Rattle.axi_history.specs.PortHistory.{transferred, on_aw, on_b, on_ar, on_r}
use Rattle.lite_rules.specs.PortFaults.{round_fault}

-- of rounds that follow earlier ones, those before the first one in which `fault` finds something;
-- all where it finds nothing
abbrev pub before_fault :
    (List PortRound → PortRound → Option (ℕ × ℕ)) → List PortRound → List PortRound → List PortRound
before_fault fault earlier [] = []
before_fault fault earlier (now ∷ rounds) =
    if is_none (fault earlier now) then now ∷ before_fault fault (earlier ++ now ∷ []) rounds else []

-- the longest beginning of the history of a port that breaks no rule
abbrev pub legal_beginning : PortKind → List PortRound → List PortRound
legal_beginning port history = before_fault (round_fault port) [] history

-- the transfers that make and that end a request: AW and B, AR and the beat of R with `last`
abbrev pub write_requests : List PortRound → ℕ
write_requests rounds = length (transferred on_aw rounds)

abbrev pub write_answers : List PortRound → ℕ
write_answers rounds = length (transferred on_b rounds)

abbrev pub read_requests : List PortRound → ℕ
read_requests rounds = length (transferred on_ar rounds)

abbrev pub read_answers : List PortRound → ℕ
read_answers rounds = count_by (λ (beat : RawR). beat.last) (transferred on_r rounds)

-- The requests less their answers, in the rounds before the first one that breaks a rule. By rule 11, on AXI4-Lite by
-- rule 6, there are no more answers than requests there.
abbrev pub unanswered_writes : PortKind → List PortRound → ℕ
unanswered_writes port history =
    let rounds = legal_beginning port history in write_requests rounds - write_answers rounds

abbrev pub unanswered_reads : PortKind → List PortRound → ℕ
unanswered_reads port history =
    let rounds = legal_beginning port history in read_requests rounds - read_answers rounds
