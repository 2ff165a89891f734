use Rattle.node_core.proofs.MovesLemmas.{fitting_moves}
use Rattle.node_core.proofs.PaceLemmas.{paces-let}
use Rattle.node_core.proofs.TurnLemmas.{picked-is_ready, ready-is_picked, turns-go_on}
use Rattle.node_core.proofs.core_laws.laws.Goals as goal

pub returns : goal.returns
returns c = record { moves = fitting_moves; picked = picked-is_ready; ready = ready-is_picked; turns = turns-go_on; paces = paces-let }
