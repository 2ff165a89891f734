use Rattle.axi_history.proofs.GoodHistory.{good_history}
use Rattle.axi_history.proofs.RefusedHistories.{not_answered, not_delivered}
use Rattle.axi_history.proofs.known.known_histories.Goals as goal

pub returns-clause-good : goal.returns-clause-good
returns-clause-good c = good_history

pub returns-clause-not_delivered : goal.returns-clause-not_delivered
returns-clause-not_delivered c = not_delivered

pub returns-clause-not_answered : goal.returns-clause-not_answered
returns-clause-not_answered c = not_answered
