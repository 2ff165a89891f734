-- The cut of the text is that of the rest, with all that was passed before it.
use Rattle.std.proofs.Common.{length}
use Rattle.plain_text.proofs.CutSteps.{IsPassed}
use Rattle.plain_text.proofs.separator.cut_at_separator.Given as goal

abbrev pub invariant-loop-rest : goal.invariant-loop-rest
invariant-loop-rest l = IsPassed l.text l.rest

abbrev pub decreases-loop-rest : goal.decreases-loop-rest
decreases-loop-rest l = length l.rest
