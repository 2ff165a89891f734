use Rattle.std.proofs.Common.{ap, sym, ◌∙◌}
use Rattle.std.specs.Option.{option_map}
use Rattle.manager_node.specs.declared.entry.Entry.{Entry}
use Rattle.manager_node.proofs.WaitingLemmas.{oldest-at, oldest-none}
use Rattle.manager_node.proofs.direction.Direction.oldest.Goals as goal

pub returns-in-Some : goal.returns-in-Some
returns-in-Some c = ap (option_map (λ (entry : Entry). entry.place)) (sym c.get.ensures ∙ oldest-at c.args.id c.args.self.now.entries _ (sym c.oldest.ensures.oldest ∙ c.in-Some.is))

pub returns-in-None : goal.returns-in-None
returns-in-None c = sym (ap (option_map (λ (entry : Entry). entry.place)) (oldest-none c.args.id c.args.self.now.entries (sym c.oldest.ensures.oldest ∙ c.in-None.is)).0)
