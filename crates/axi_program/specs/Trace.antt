-- The trace of a run: what its links show, round by round.
use Rattle.std.specs.Prelude.{ℕ, ◌+◌, ◌++◌, [], List, length, if◌then◌else◌, codes}
use Rattle.axi_history.specs.declared.port.PortRound.{PortRound}
use Rattle.net_build.specs.Shown.{is_shown}
use Rattle.net_kinds.specs.NodeKind.{NodeState, node_kind}
use Rattle.net_model.specs.Network.{Network, after_decide, after_rounds}
use Rattle.net_runs.specs.Ports.{port_at}
use Rattle.trace_text.specs.Form.{line_text}
use Rattle.plain_lists.specs.Rounds.{over}

-- the line of a port in a round, where some channel offers a beat
unfoldable pub port_line : PortRound → List ℕ
port_line r = if is_shown r then line_text r ++ codes "\n" else []

-- the line of a link in a round in which the nodes have decided
abbrev pub link_line : ℕ → Network NodeState → ℕ → List ℕ
link_line round net number = port_line (port_at round net number)

-- and the lines of all links, link by link
unfoldable pub round_lines : ℕ → Network NodeState → List ℕ
round_lines round net = over (link_line round net) (length net.links)

-- the lines of the round after n rounds
abbrev pub lines_after : Network NodeState → ℕ → List ℕ
lines_after net n = round_lines (n + 1) (after_decide node_kind (n + 1) (after_rounds node_kind n net))

-- the lines of the first rounds
abbrev pub trace_lines : ℕ → Network NodeState → List ℕ
trace_lines n net = over (lines_after net) n
