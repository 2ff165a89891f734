use Rattle.std.proofs.Common.{ap, arith, length, sym}
use Rattle.document.proofs.TextLemmas.{cut-short}
use Rattle.document.proofs.document.read_network.Goals as goal

pub read_parts-requires : goal.read_parts-requires
read_parts-requires c =
    omega (arith, cut-short c.in-Ok.text.now (c.in-Some.topology.now, c.in-Some.traffic.now) (sym c.in-Some.ensures), ap length c.in-Ok.ensures.text, c.if-input-gt-INPUT_LIMIT.false)
