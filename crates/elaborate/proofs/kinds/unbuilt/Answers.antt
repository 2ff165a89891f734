use Rattle.std.proofs.Common.{◌≡◌, ◌∙◌, true, ap, arith, sym}
use Rattle.topology.specs.Document.{DocumentNode, node_at}
use Rattle.topology.proofs.WiringFacts.{first-node, no-node}
use Rattle.elaborate.specs.Unbuilt.{is_unbuilt}
use Rattle.elaborate.proofs.kinds.unbuilt.Goals as goal

pub returns-then-is_unbuilt : goal.returns-then-is_unbuilt
returns-then-is_unbuilt c =
    let here : is_unbuilt (node_at c.args.wiring.now c.loop-node.node).kind ≡ true = ap is_unbuilt (sym c.kind.ensures) ∙ sym c.is_unbuilt.ensures ∙ c.if-is_unbuilt.true in
    first-node (λ (node : DocumentNode). is_unbuilt node.kind) c.args.wiring.now c.loop-node.node (omega (arith, c.loop-node-test.true, c.count-node-end.ensures.count)) c.loop-node.invariant here

pub returns : goal.returns
returns c =
    no-node (λ (node : DocumentNode). is_unbuilt node.kind) c.args.wiring.now
    (λ k less. c.loop-node.invariant k (omega (arith, less, c.loop-node-test.false, c.count-node-end.ensures.count)))
