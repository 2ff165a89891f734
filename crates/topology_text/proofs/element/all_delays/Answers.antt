use Rattle.std.specs.Prelude.{true, false}
use Rattle.topology_text.specs.Shape.{delay_of}
use Rattle.topology_text.proofs.ValueLemmas.{read-when}
use Rattle.topology_text.proofs.element.all_delays.Goals as goal

pub returns-then-are_delays : goal.returns-then-are_delays
returns-then-are_delays c = read-when delay_of c.args.values.now c.are_delays.result true c.are_delays.ensures c.if-are_delays.true

pub returns-else-are_delays : goal.returns-else-are_delays
returns-else-are_delays c = read-when delay_of c.args.values.now c.are_delays.result false c.are_delays.ensures c.if-are_delays.false
