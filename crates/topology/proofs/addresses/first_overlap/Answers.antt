use Rattle.std.proofs.Common.{◌≡◌, ◌<◌, ◌-◌, ◌∙◌, ℕ, false, ap, length, sym, arith, rules}
use Rattle.std.specs.Prelude.{find}
use Rattle.std.specs.List.{range_with_len}
use Rattle.node_graph.specs.Graph.{numbers}
use Rattle.node_graph.proofs.Finds.{find-next}
use Rattle.topology.specs.Refused.{regions_overlap}
use Rattle.topology.proofs.addresses.first_overlap.Goals as goal

pub loop-place-init : goal.loop-place-init
unfolding numbers
loop-place-init c =
    let whole : length c.args.nodes.now - 0 ≡ length c.args.nodes.now = omega arith in
    ap (λ (k : ℕ). find (regions_overlap c.args.nodes.now) (range_with_len 0 k)) whole

pub loop-place-preserved : goal.loop-place-preserved
loop-place-preserved c =
    let less : c.loop-place.place < length c.args.nodes.now = omega (arith, c.loop-place-test.true, c.requires.few) in
    let not_so : regions_overlap c.args.nodes.now c.loop-place.place ≡ false = search rules in
    sym (find-next (regions_overlap c.args.nodes.now) (length c.args.nodes.now) c.loop-place.place less not_so) ∙ c.loop-place.invariant
