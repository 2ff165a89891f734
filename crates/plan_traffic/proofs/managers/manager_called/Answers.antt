use Rattle.std.proofs.Common.{◌≡◌, ◌&&◌, true, false, arith, rules}
use Rattle.std.specs.Prelude.{bytes_eq}
use Rattle.topology.specs.Document.{DocumentNode, is_manager, node_at}
use Rattle.topology.proofs.WiringFacts.{first-node, no-node}
use Rattle.plan_traffic.proofs.PortFacts.{none-more, port-at}
use Rattle.plan_traffic.proofs.managers.manager_called.Goals.{else-eq-via-then-eq+else-is_word, else-eq-via-else-eq}
use Rattle.plan_traffic.proofs.managers.manager_called.Goals as goal

pub returns-then-is_word-clause-number : goal.returns-then-is_word-clause-number
returns-then-is_word-clause-number c =
    let here : (is_manager (node_at c.args.nodes.now c.loop-number.number).kind && bytes_eq (node_at c.args.nodes.now c.loop-number.number).name c.args.name.now) ≡ true = search rules in
    first-node (λ (node : DocumentNode). is_manager node.kind && bytes_eq node.name c.args.name.now) c.args.nodes.now c.loop-number.number
    (omega (arith, c.loop-number-test.true, c.count-number-end.ensures.count)) c.loop-number.invariant here

pub returns-then-is_word-clause-port : goal.returns-then-is_word-clause-port
returns-then-is_word-clause-port c =
    let manager : is_manager (node_at c.args.nodes.now c.loop-number.number).kind ≡ true = search rules in
    port-at c.args.nodes.now c.count-number-end.ensures.formed c.loop-number.number (omega (arith, c.loop-number-test.true, c.count-number-end.ensures.count)) manager

pub loop-number-preserved : goal.loop-number-preserved
loop-number-preserved c =
    let here : (is_manager (node_at c.args.nodes.now c.loop-number.number).kind && bytes_eq (node_at c.args.nodes.now c.loop-number.number).name c.args.name.now) ≡ false =
    elim c.else-eq.branch [
      | else-eq-via-then-eq+else-is_word w ↦ search rules
      | else-eq-via-else-eq w ↦ search rules
    ] in
    none-more (λ (node : DocumentNode). is_manager node.kind && bytes_eq node.name c.args.name.now) c.args.nodes.now c.loop-number.number c.loop-number.invariant here

pub returns-clause-number : goal.returns-clause-number
returns-clause-number c =
    no-node (λ (node : DocumentNode). is_manager node.kind && bytes_eq node.name c.args.name.now) c.args.nodes.now
    (λ k less. c.loop-number.invariant k (omega (arith, less, c.loop-number-test.false, c.count-number-end.ensures.count)))
