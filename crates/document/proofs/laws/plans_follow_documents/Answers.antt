use Rattle.document.proofs.PlanLemmas.{plans-follow_documents}
use Rattle.document.proofs.laws.plans_follow_documents.Goals as goal

pub returns : goal.returns
returns c = plans-follow_documents
