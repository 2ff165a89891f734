use Rattle.std.proofs.Common.{◌≡◌, ◌≤◌, ◌*◌, length}
use Rattle.burst_address.specs.Bytes.{bytes_before}
use Rattle.burst_address.proofs.count.burst_count.Given as goal

abbrev pub invariant-loop-n : goal.invariant-loop-n
invariant-loop-n l = record {
  bytes : l.count ≡ length (bytes_before l.a l.n);
  most : l.count ≤ l.n * 128;
}
