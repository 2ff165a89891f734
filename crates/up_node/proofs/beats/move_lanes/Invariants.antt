use Rattle.std.specs.Prelude.{◌≡◌, ◌-◌}
use Rattle.up_node.specs.UpBeats.{moved_lanes}
use Rattle.up_node.proofs.beats.move_lanes.Given as goal

abbrev pub invariant-loop-lane : goal.invariant-loop-lane
invariant-loop-lane l = l.to ≡ moved_lanes (l.lane - l.target) l.source l.target l.from
