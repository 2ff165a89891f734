use Rattle.std.proofs.Common.{ap, sym, ◌∙◌}
use Rattle.std.specs.Option.{option_map}
use Rattle.flight.proofs.EntryFacts.{remove-first_place}
use Rattle.manager_node.specs.declared.entry.Entry.{Entry}
use Rattle.manager_node.proofs.WaitingLemmas.{oldest-at, oldest-none}
use Rattle.manager_node.proofs.direction.Direction.close.Goals as goal

pub returns-in-Some-clause-place : goal.returns-in-Some-clause-place
returns-in-Some-clause-place c = ap (option_map (λ (entry : Entry). entry.place)) (sym c.take.ensures.entry ∙ oldest-at c.args.id c.args.self.now.entries _ (sym c.oldest.ensures.oldest ∙ c.in-Some.is))

pub returns-in-Some-clause-entries : goal.returns-in-Some-clause-entries
returns-in-Some-clause-entries c = c.take.ensures.rest ∙ remove-first_place (λ (entry : Entry). entry.id) c.args.id c.args.self.now.entries _ (sym c.oldest.ensures.oldest ∙ c.in-Some.is)

pub returns-in-None-clause-place : goal.returns-in-None-clause-place
returns-in-None-clause-place c = sym (ap (option_map (λ (entry : Entry). entry.place)) (oldest-none c.args.id c.args.self.now.entries (sym c.oldest.ensures.oldest ∙ c.in-None.is)).0)

pub returns-in-None-clause-entries : goal.returns-in-None-clause-entries
returns-in-None-clause-entries c = sym (oldest-none c.args.id c.args.self.now.entries (sym c.oldest.ensures.oldest ∙ c.in-None.is)).1
