use Rattle.std.proofs.Common.{eqb, ◌∙◌}
use Rattle.std.proofs.lemmas.List.Filters.{dedup_is}
use Rattle.net_opening.proofs.RisingLemmas.{upwards-sorted}
use Rattle.net_opening.proofs.lines.upwards.Goals as goal

pub returns : goal.returns
returns c = dedup_is eqb _ _ c.dedup.ensures.filtered ∙ upwards-sorted _ _ c.sort_unstable.ensures.permutation c.sort_unstable.ensures.sorted
