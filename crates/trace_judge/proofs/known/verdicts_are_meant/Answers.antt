use Rattle.trace_judge.proofs.VerdictLemmas.{broken_means, legal_means}
use Rattle.trace_judge.proofs.known.verdicts_are_meant.Goals as goal

pub returns-clause-legal : goal.returns-clause-legal
returns-clause-legal c = legal_means

pub returns-clause-broken : goal.returns-clause-broken
returns-clause-broken c = broken_means
