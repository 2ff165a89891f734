use Rattle.std.specs.Prelude.{◌≡◌, ◌+◌, fold, filter, slice_index, slice_set}
use Rattle.std.specs.List.{range_with_len}
use Rattle.burst_address.specs.Lanes.{is_strobed}
use Rattle.memory_node.proofs.store.write_lanes.Given as goal

abbrev pub invariant-loop-lane : goal.invariant-loop-lane
invariant-loop-lane l =
    l.bytes ≡ fold (λ written lane. slice_set written (l.first + lane) (slice_index l.beat.lanes lane)) l.initial.bytes (filter (is_strobed l.beat) (range_with_len 0 l.lane))
