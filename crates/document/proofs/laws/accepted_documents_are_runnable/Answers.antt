use Rattle.document.proofs.RunnableLemmas.{accepted-are_runnable}
use Rattle.document.proofs.laws.accepted_documents_are_runnable.Goals as goal

pub returns : goal.returns
returns c = accepted-are_runnable
