use Rattle.std.proofs.Common.{arith}
use Rattle.axi_program.proofs.TransferLemmas.{Appends-rest}
use Rattle.axi_program.proofs.outside.write_all.write_piece.Goals as goal

pub loop-done-preserved : goal.loop-done-preserved
loop-done-preserved g c = record {
  within = grind arith;
  later = omega arith;
  written = Appends-rest _ _ _ c.args.piece.now c.loop-done.done c.in_ok-done.field-0 c.loop-done.invariant.written (c.in_ok-done.ensures).bytes;
}
