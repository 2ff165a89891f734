use Rattle.std.proofs.Common.{◌≡◌, rules, sym, ◌∙◌, ap, ap₂, arith, ℕ}
use Rattle.std.specs.Prelude.{max}
use Rattle.node_core.specs.Paces.{longest}
use Rattle.plan_traffic.proofs.BoundLemmas.{delay-next}
use Rattle.plan_traffic.proofs.bound.longest_delay.Goals as goal

pub loop-node-preserved : goal.loop-node-preserved
loop-node-preserved c =
    let most : c.max-most.result ≡ max c.loop-node.most c.max-delay.result = search rules in
    let delay : c.max-delay.result ≡ max c.longest.result c.longest-in-loop-node.result = search rules in
    most
    ∙ ap₂ (λ (a b : ℕ). max a b) c.loop-node.invariant
    (delay ∙ ap₂ (λ (a b : ℕ). max a b) (c.longest.ensures ∙ ap longest c.accept.ensures) (c.longest-in-loop-node.ensures ∙ ap longest c.give.ensures))
    ∙ sym (delay-next c.args.nodes.now c.loop-node.node (omega (arith, c.loop-node-test.true, c.count-node-end.ensures.count)))
