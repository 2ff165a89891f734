use Rattle.std.proofs.Common.{◌≤◌, arith}
use Rattle.burst_address.specs.Formulas.{aligned, size_of}
use Rattle.burst_address.proofs.Numbers.{aligned-le}
use Rattle.burst_address.proofs.address.lanes.Goals as goal

pub overflow_add-last : goal.overflow_add-last
overflow_add-last c =
    let below : aligned (size_of c.args.a.now) c.beat_address-address.result ≤ c.beat_address-address.result = aligned-le (size_of c.args.a.now) c.beat_address-address.result in
    omega (arith, c.beat_address-address.ensures.limit, c.aligned_address.ensures, c.beat_size.ensures.bound)
