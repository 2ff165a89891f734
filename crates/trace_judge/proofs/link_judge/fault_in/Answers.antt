-- A round that breaks a rule is added too.
use Rattle.trace_judge.proofs.link_judge.fault_in.Goals as goal

pub returns-in-Err-Broken-clause-added : goal.returns-in-Err-Broken-clause-added
returns-in-Err-Broken-clause-added c = λ h stands. c.in-Err-Broken.ensures.added (λ e. absurd cc) h stands
