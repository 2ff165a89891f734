use Rattle.axi_program.proofs.RightLaws.{sound-opening}
use Rattle.axi_program.proofs.preparation.work_of_run.Goals as goal

pub build-requires-clause-sound : goal.build-requires-clause-sound
build-requires-clause-sound c = sound-opening _ c.requires
