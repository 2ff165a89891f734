use Rattle.std.specs.Prelude.{◌≡◌, ◌==◌, ◌&&◌, ℕ, nat_lt}
use Rattle.std.specs.Int.{bit_at}
use Rattle.demux_node.specs.DemuxTable.{offers_b}
use Rattle.demux_node.proofs.rows.ports_b.Given as goal

abbrev pub invariant-loop-port : goal.invariant-loop-port
invariant-loop-port l = (port : ℕ) → (bit_at l.ready port == 1) ≡ (nat_lt port l.port && offers_b l.links l.shape l.writes port)
