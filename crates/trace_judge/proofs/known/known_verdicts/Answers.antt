use Rattle.trace_judge.proofs.KnownVerdictsLemmas.{refused, broken, legal}
use Rattle.trace_judge.proofs.known.known_verdicts.Goals as goal

pub returns-clause-refused : goal.returns-clause-refused
returns-clause-refused c = refused

pub returns-clause-broken : goal.returns-clause-broken
returns-clause-broken c = broken

pub returns-clause-legal : goal.returns-clause-legal
returns-clause-legal c = legal
