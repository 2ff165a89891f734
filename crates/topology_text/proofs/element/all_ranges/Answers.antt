use Rattle.std.specs.Prelude.{true, false}
use Rattle.topology_text.specs.Shape.{range_of}
use Rattle.topology_text.proofs.ValueLemmas.{read-when}
use Rattle.topology_text.proofs.element.all_ranges.Goals as goal

pub returns-then-are_ranges : goal.returns-then-are_ranges
returns-then-are_ranges c = read-when range_of c.args.values.now c.are_ranges.result true c.are_ranges.ensures c.if-are_ranges.true

pub returns-else-are_ranges : goal.returns-else-are_ranges
returns-else-are_ranges c = read-when range_of c.args.values.now c.are_ranges.result false c.are_ranges.ensures c.if-are_ranges.false
