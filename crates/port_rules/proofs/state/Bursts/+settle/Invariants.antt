-- Each call takes one of the beats that have no address, so that the calls end.
use Rattle.std.specs.VecDeque.{deque_len}
use Rattle.port_rules.proofs.state.Bursts.+settle.Given as goal

abbrev pub decreases-settle : goal.decreases-settle
decreases-settle l = deque_len l.self.now.beats
