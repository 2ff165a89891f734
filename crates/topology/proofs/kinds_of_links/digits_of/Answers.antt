use Rattle.std.proofs.Common.{arith}
use Rattle.topology.specs.Document.{digits_up_to}
use Rattle.topology.proofs.LinkLemmas.{digits-next}
use Rattle.topology.proofs.kinds_of_links.digits_of.Goals as goal

pub loop-digit-preserved : goal.loop-digit-preserved
loop-digit-preserved c =
    digits-next c.loop-digit._digit c.loop-digit.digits c.loop-digit.rest c.one_where-digits.result (digits_up_to 32 c.args.number) (omega (arith, c.loop-digit-test.true)) c.one_where-digits.ensures c.loop-digit.invariant
