-- A network before its first round.
use Rattle.std.specs.Prelude.{◌≡◌, false}
use Rattle.document.specs.Document.{Asked}
use Rattle.net_build.specs.NetRun.{NetRun}

-- what the document of a network asks for
abbrev pub asked_by : NetRun → Asked
asked_by net = record { nodes = net.nodes; items = net.items }

-- no round was made, and none has begun
pub record IsOpening (net : NetRun) : Type 0 where
  pub rounds : net.rounds ≡ 0
  pub undecided : net.decided ≡ false
