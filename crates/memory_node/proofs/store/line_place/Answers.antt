use Rattle.std.proofs.Common.{◌∙◌}
use Rattle.memory_node.proofs.StoreLemmas.{place_of-searched}
use Rattle.memory_node.proofs.store.line_place.Goals as goal

pub returns-clause-place : goal.returns-clause-place
returns-clause-place c = c.ok.ensures.value ∙ place_of-searched c.args.lines.now c.args.line c.binary_search.result c.requires c.binary_search.ensures.position
