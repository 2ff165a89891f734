use Rattle.net_ways.proofs.SoundLemmas.{sound-ports_are_legal, sound-runs_go_on, sound-runs_keep}
use Rattle.net_ways.proofs.sound_laws.laws_of_runs.Goals as goal

pub returns : goal.returns
returns g c = record {
  keep = sound-runs_keep g.K.AnyKind.kind g.K.AnyKind.holds;
  go_on = sound-runs_go_on g.K.AnyKind.kind g.K.AnyKind.holds;
  ports = sound-ports_are_legal g.K.AnyKind.kind g.K.AnyKind.holds;
}
