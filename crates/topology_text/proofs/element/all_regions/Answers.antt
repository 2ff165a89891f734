use Rattle.std.specs.Prelude.{true, false}
use Rattle.topology_text.specs.Shape.{region_of}
use Rattle.topology_text.proofs.ValueLemmas.{read-when}
use Rattle.topology_text.proofs.element.all_regions.Goals as goal

pub returns-then-are_regions : goal.returns-then-are_regions
returns-then-are_regions c = read-when region_of c.args.values.now c.are_regions.result true c.are_regions.ensures c.if-are_regions.true

pub returns-else-are_regions : goal.returns-else-are_regions
returns-else-are_regions c = read-when region_of c.args.values.now c.are_regions.result false c.are_regions.ensures c.if-are_regions.false
