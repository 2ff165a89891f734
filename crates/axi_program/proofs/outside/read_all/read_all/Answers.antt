use Rattle.axi_program.proofs.TransferLemmas.{IsRest-more}
use Rattle.axi_program.proofs.outside.read_all.read_all.Goals as goal

pub returns-then-limit-len-clause-rest : goal.returns-then-limit-len-clause-rest
returns-then-limit-len-clause-rest g c = IsRest-more _ _ _ _ _ c.loop-count.invariant.read c.in-Ok.ensures.bytes.0

pub returns-then-is_err-clause-rest : goal.returns-then-is_err-clause-rest
returns-then-is_err-clause-rest g c = IsRest-more _ _ _ _ _ c.loop-count.invariant.read c.in-Ok.ensures.bytes.0
