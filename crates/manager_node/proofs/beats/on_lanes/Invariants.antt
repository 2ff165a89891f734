use Rattle.std.proofs.Common.{◌≡◌, take}
use Rattle.manager_node.specs.Beats.{lanes_from, strobe_of}
use Rattle.manager_node.proofs.beats.on_lanes.Given as goal

abbrev pub invariant-loop-n : goal.invariant-loop-n
invariant-loop-n l = record {
  lanes : l.lanes ≡ lanes_from l.low (take l.n l.bytes);
  strobe : l.strobe ≡ strobe_of (take l.n l.bytes);
}
