use Rattle.std.proofs.Common.{◌==◌, ◌∙◌, add-one, ap, eq-eqb, sym, take}
use Rattle.std.specs.Option.{option_map}
use Rattle.std.specs.Prelude.{find}
use Rattle.std.proofs.lemmas.Bool.{ne_eqb}
use Rattle.remap_node.proofs.CodeLemmas.{find-here, find-past}
use Rattle.remap_node.specs.RemapTable.{output_of_pair}
use Rattle.remap_node.specs.declared.pair.IdPair.{IdPair}
use Rattle.remap_node.proofs.rows.output_in_flight.Goals as goal

pub returns-then-pair-id : goal.returns-then-pair-id
returns-then-pair-id c =
    sym (ap (option_map output_of_pair)
    (find-here (λ (p : IdPair). p.input == c.args.id) c.args.pairs.now c.loop-place.place c.get-pair.result.now c.get-pair.ensures c.loop-place.invariant (eq-eqb c.get-pair.result.now.input c.args.id c.if-pair-id.true)))

pub loop-place-preserved : goal.loop-place-preserved
loop-place-preserved c =
    ap (λ n. find (λ (p : IdPair). p.input == c.args.id) (take n c.args.pairs.now)) (add-one c.loop-place.place)
    ∙ find-past (λ (p : IdPair). p.input == c.args.id) c.args.pairs.now c.loop-place.place c.get-pair.result.now c.get-pair.ensures c.loop-place.invariant (ne_eqb c.get-pair.result.now.input c.args.id c.if-pair-id.false)
