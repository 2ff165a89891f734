use Rattle.std.proofs.Common.{◌≡◌, ◌&&◌, true, arith, rules}
use Rattle.std.specs.Prelude.{bytes_eq}
use Rattle.topology.specs.Document.{DocumentNode, is_manager, node_at}
use Rattle.topology.proofs.WiringFacts.{first-node, no-node}
use Rattle.topology.proofs.wiring.Wiring.manager.Goals as goal

pub returns-then-eq-2 : goal.returns-then-eq-2
returns-then-eq-2 c =
    let here : (is_manager (node_at c.args.self.now c.loop-node.node).kind && bytes_eq (node_at c.args.self.now c.loop-node.node).name c.args.name.now) ≡ true = search rules in
    first-node (λ (node : DocumentNode). is_manager node.kind && bytes_eq node.name c.args.name.now) c.args.self.now c.loop-node.node (omega (arith, c.loop-node-test.true, c.len-node-end.ensures)) c.loop-node.invariant here

pub returns : goal.returns
returns c =
    no-node (λ (node : DocumentNode). is_manager node.kind && bytes_eq node.name c.args.name.now) c.args.self.now
    (λ k less. c.loop-node.invariant k (omega (arith, less, c.loop-node-test.false, c.len-node-end.ensures)))
