use Rattle.std.proofs.Common.{◌∙◌, ap, sym}
use Rattle.std.specs.Option.{option_map}
use Rattle.remap_node.proofs.CodeLemmas.{no-place, place-finds}
use Rattle.remap_node.specs.RemapTable.{output_of_pair}
use Rattle.remap_node.specs.declared.pair.IdPair.{IdPair}
use Rattle.remap_node.proofs.rows.input_in_flight.Goals as goal

pub returns-in-Some : goal.returns-in-Some
returns-in-Some c =
    sym (ap (option_map (λ (p : IdPair). p.input))
    (place-finds output_of_pair c.args.id c.args.pairs.now c.in-Some.place c.get.result.now (sym c.oldest.ensures.oldest ∙ c.in-Some.is) c.get.ensures))

pub returns-in-None : goal.returns-in-None
returns-in-None c = sym (ap (option_map (λ (p : IdPair). p.input)) (no-place output_of_pair c.args.id c.args.pairs.now (sym c.oldest.ensures.oldest ∙ c.in-None.is)))
