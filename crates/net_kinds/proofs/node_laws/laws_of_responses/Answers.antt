use Rattle.net_kinds.proofs.CutLemmas.{few-responses_end, few-responses_merge, some-part_goes_on}
use Rattle.net_kinds.proofs.StatusLemmas.{statuses-merge}
use Rattle.net_kinds.proofs.node_laws.laws_of_responses.Goals as goal

pub returns : goal.returns
returns c = record { some = some-part_goes_on; few_end = few-responses_end; few_merge = few-responses_merge; statuses = statuses-merge }
