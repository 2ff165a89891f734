use Rattle.std.proofs.Common.{◌<◌, ◌∙◌, ap, arith, length}
use Rattle.std.specs.Prelude.{vec_items}
use Rattle.node_graph.specs.Simple.{lists_in}
use Rattle.topology.specs.Document.{targets_of}
use Rattle.topology.proofs.JoinedLemmas.{lists-next}
use Rattle.topology.proofs.joined.targets_of_nodes.Goals as goal

pub loop-place-preserved : goal.loop-place-preserved
loop-place-preserved c =
    let less : c.loop-place.place < length c.args.nodes.now = omega (arith, c.loop-place-test.true, c.requires.few) in
    ap lists_in c.in_ok-push.ensures.items
    ∙ lists-next vec_items (targets_of c.args.nodes.now) c.args.nodes.now c.loop-place.place c.loop-place.below.items c.in_ok-targets_at.field-0 less c.loop-place.invariant c.in_ok-targets_at.ensures
