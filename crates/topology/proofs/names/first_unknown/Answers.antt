use Rattle.std.proofs.Common.{◌≡◌, ◌<◌, ◌-◌, ◌∙◌, ℕ, false, ap, length, sym, arith, rules}
use Rattle.std.specs.Prelude.{find}
use Rattle.std.specs.List.{range_with_len}
use Rattle.node_graph.specs.Graph.{numbers}
use Rattle.node_graph.proofs.Finds.{find-next}
use Rattle.topology.specs.Refused.{names_unknown}
use Rattle.topology.proofs.names.first_unknown.Goals as goal

pub loop-place-init : goal.loop-place-init
unfolding numbers
loop-place-init c =
    let whole : length c.args.nodes.now - 0 ≡ length c.args.nodes.now = omega arith in
    ap (λ (k : ℕ). find (names_unknown c.args.nodes.now) (range_with_len 0 k)) whole

pub loop-place-preserved : goal.loop-place-preserved
loop-place-preserved c =
    let less : c.loop-place.place < length c.args.nodes.now = omega (arith, c.loop-place-test.true, c.requires.few) in
    let not_so : names_unknown c.args.nodes.now c.loop-place.place ≡ false = search rules in
    sym (find-next (names_unknown c.args.nodes.now) (length c.args.nodes.now) c.loop-place.place less not_so) ∙ c.loop-place.invariant
