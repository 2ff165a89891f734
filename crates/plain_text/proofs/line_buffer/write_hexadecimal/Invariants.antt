-- The digits of what is left, followed by those that were written, are the digits of the number.
use Rattle.plain_text.proofs.HexadecimalSteps.{IsWriting}
use Rattle.plain_text.proofs.line_buffer.write_hexadecimal.Given as goal

abbrev pub invariant-loop-rest : goal.invariant-loop-rest
invariant-loop-rest l = IsWriting l.number l.rest l.start l.digits

abbrev pub decreases-loop-rest : goal.decreases-loop-rest
decreases-loop-rest l = l.start
