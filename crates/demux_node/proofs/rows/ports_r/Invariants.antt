use Rattle.std.specs.Prelude.{◌≡◌, ◌==◌, ◌&&◌, ℕ, nat_lt}
use Rattle.std.specs.Int.{bit_at}
use Rattle.demux_node.specs.DemuxTable.{offers_r}
use Rattle.demux_node.proofs.rows.ports_r.Given as goal

abbrev pub invariant-loop-port : goal.invariant-loop-port
invariant-loop-port l = (port : ℕ) → (bit_at l.ready port == 1) ≡ (nat_lt port l.port && offers_r l.links l.shape l.reads port)
