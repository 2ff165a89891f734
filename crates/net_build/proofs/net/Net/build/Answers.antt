use Rattle.std.proofs.Common.{subst}
use Rattle.net_build.proofs.net.Net.build.Goals as goal
use Rattle.topology.specs.Refused.{IsAccepted}
use Rattle.topology_text.specs.Formed.{AreFormed}

pub invariant_of-result : goal.invariant_of-result
invariant_of-result c = record {
  accepted = subst IsAccepted c.wiring.ensures c.count.ensures.accepted;
  formed = subst AreFormed c.wiring.ensures c.count.ensures.formed;
  traffic = c.requires.traffic;
  sound = c.requires.sound;
  stands_at = c.in_ok-net.ensures.stands_at;
  notes = c.in_ok-notes.ensures;
  bound = c.round_bound-bound.ensures.bound;
  small = c.round_bound-bound.ensures.small;
}
