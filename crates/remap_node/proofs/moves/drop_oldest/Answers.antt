use Rattle.std.proofs.Common.{◌∙◌, sym}
use Rattle.flight.proofs.EntryFacts.{remove-first_place}
use Rattle.remap_node.proofs.CodeLemmas.{no-oldest}
use Rattle.remap_node.specs.RemapTable.{output_of_pair}
use Rattle.remap_node.proofs.moves.drop_oldest.Goals as goal

pub returns-in-Some : goal.returns-in-Some
returns-in-Some c =
    c.take.ensures.rest ∙ remove-first_place output_of_pair c.args.output c.args.pairs.now c.in-Some.place (sym c.oldest.ensures.oldest ∙ c.in-Some.is)

pub returns-in_default : goal.returns-in_default
returns-in_default c = sym (no-oldest output_of_pair c.args.output c.args.pairs.now (sym c.oldest.ensures.oldest ∙ c.in_default.is))
