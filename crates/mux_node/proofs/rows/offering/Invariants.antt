use Rattle.std.proofs.Common.{◌≡◌, ◌&&◌, ◌==◌, ℕ}
use Rattle.std.specs.Int.{bit_at}
use Rattle.std.specs.Prelude.{is_some, nat_lt}
use Rattle.mux_node.specs.MuxTable.{addresses, input_offer}
use Rattle.mux_node.proofs.rows.offering.Given as goal

-- the inputs so far are marked
abbrev pub invariant-loop-input : goal.invariant-loop-input
invariant-loop-input l = (other : ℕ) → (bit_at l.ready other == 1) ≡ (nat_lt other l.input && is_some (input_offer (addresses l.fn.direction) l.fn.links l.fn.shape.uppers other))
