use Rattle.std.proofs.Common.{◌≡◌, ◌<◌, ◌-◌, ◌∙◌, ℕ, false, ap, length, sym, arith, rules}
use Rattle.std.specs.Prelude.{find}
use Rattle.std.specs.List.{range_with_len}
use Rattle.node_graph.specs.Graph.{numbers}
use Rattle.node_graph.proofs.Finds.{find-next}
use Rattle.topology.specs.Refused.{has_fan_in}
use Rattle.topology.proofs.uppers.first_fan_in.Goals as goal

pub loop-place-init : goal.loop-place-init
unfolding numbers
loop-place-init c =
    let whole : length c.args.nodes.now - 0 ≡ length c.args.nodes.now = omega arith in
    ap (λ (k : ℕ). find (has_fan_in c.args.nodes.now) (range_with_len 0 k)) whole

pub loop-place-preserved : goal.loop-place-preserved
loop-place-preserved c =
    let less : c.loop-place.place < length c.args.nodes.now = omega (arith, c.loop-place-test.true, c.requires.few) in
    let not_so : has_fan_in c.args.nodes.now c.loop-place.place ≡ false = search rules in
    sym (find-next (has_fan_in c.args.nodes.now) (length c.args.nodes.now) c.loop-place.place less not_so) ∙ c.loop-place.invariant
