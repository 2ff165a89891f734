use Rattle.std.proofs.Common.{◌≡◌, ◌∙◌, ◌<◌, ℕ, List, length, subst, sym}
use Rattle.topology.specs.Document.{DocumentNode}
use Rattle.elaborate.specs.Plan.{first_part}
use Rattle.elaborate.proofs.plan.Plan.first.Goals as goal

pub first_of-requires-clause-firsts : goal.first_of-requires-clause-firsts
first_of-requires-clause-firsts c = record { accepted = c.self.invariant.accepted; firsts_are = c.deref.ensures.value ∙ c.self.invariant.firsts_are }

pub first_of-requires-clause-inside : goal.first_of-requires-clause-inside
first_of-requires-clause-inside c = subst (λ (nodes : List DocumentNode). c.args.document < length nodes) (sym c.self.view_is) c.requires

pub returns : goal.returns
returns c = subst (λ (nodes : List DocumentNode). c.first_of.result ≡ first_part nodes c.args.document) c.self.view_is c.first_of.ensures.first
