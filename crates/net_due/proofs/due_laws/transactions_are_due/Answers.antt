use Rattle.net_due.proofs.DueLists.{transactions-are_due}
use Rattle.net_due.proofs.due_laws.transactions_are_due.Goals as goal

pub returns : goal.returns
returns c = transactions-are_due
