use Rattle.std.proofs.Common.{IsTrue}
use Rattle.axi_trail.proofs.InductionFacts.{keeps_always, asked_always, answered_always}
use Rattle.axi_trail.proofs.network_laws.law_of_rounds.Goals as goal

pub returns : goal.returns
returns c = λ keeps asked answered depth height holds n. (
  keeps_always (λ node m. IsTrue (keeps node m)) (λ link m. IsTrue (asked link m)) (λ link m. IsTrue (answered link m)) depth height holds.opens holds.down holds.up holds.steps n,
  asked_always (λ node m. IsTrue (keeps node m)) (λ link m. IsTrue (asked link m)) (λ link m. IsTrue (answered link m)) depth height holds.opens holds.down holds.up holds.steps n,
  answered_always (λ node m. IsTrue (keeps node m)) (λ link m. IsTrue (asked link m)) (λ link m. IsTrue (answered link m)) depth height holds.opens holds.down holds.up holds.steps n,
)
