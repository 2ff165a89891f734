use Rattle.net_ways.proofs.SoundLemmas.{sound-finishes_in_time, sound-never_stuck}
use Rattle.net_ways.proofs.sound_laws.laws_of_progress.Goals as goal

pub returns : goal.returns
returns g c = record {
  never_stuck = sound-never_stuck g.K.AnyKind.kind g.K.AnyKind.holds;
  finished = sound-finishes_in_time g.K.AnyKind.kind g.K.AnyKind.holds;
}
