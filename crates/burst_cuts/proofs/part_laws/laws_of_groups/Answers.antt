use Rattle.burst_cuts.proofs.GroupLemmas.{groups-closed, groups-open, groups-prefix}
use Rattle.burst_cuts.proofs.part_laws.laws_of_groups.Goals as goal

pub returns : goal.returns
returns c = record { first = groups-prefix; unanswered = groups-open; closed = groups-closed }
