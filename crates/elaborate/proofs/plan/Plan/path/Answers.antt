use Rattle.std.proofs.Common.{◌≡◌, ◌∙◌, ◌<◌, ◌+◌, ℕ, List, Some, None, ap, ap₂, arith, length, refl, subst, sym}
use Rattle.topology.specs.Document.{DocumentNode, node_at}
use Rattle.elaborate.specs.Plan.{first_part, plan_nodes}
use Rattle.elaborate.proofs.PathFacts.{manager-at, onward}
use Rattle.elaborate.proofs.PathSteps.{IsEndOfPath, IsOnPath, path-begun, path-next, path-over, path-stopped}
use Rattle.elaborate.proofs.plan.Plan.path.Goals as goal

pub first_of-node-requires-clause-firsts : goal.first_of-node-requires-clause-firsts
first_of-node-requires-clause-firsts c = record { accepted = c.self.invariant.accepted; firsts_are = c.deref.ensures.value ∙ c.self.invariant.firsts_are }

pub first_of-node-requires-clause-inside : goal.first_of-node-requires-clause-inside
first_of-node-requires-clause-inside c = subst (λ (nodes : List DocumentNode). c.args.manager < length nodes) (sym c.self.view_is) c.requires.inside

pub loop-step-init : goal.loop-step-init
loop-step-init c =
    let first : c.first_of-node.result ≡ first_part c.args.self.now c.args.manager =
    subst (λ (nodes : List DocumentNode). c.first_of-node.result ≡ first_part nodes c.args.manager) c.self.view_is c.first_of-node.ensures.first in
    let less : first_part c.args.self.now c.args.manager < length (plan_nodes c.args.self.now) =
    manager-at c.args.self.now c.args.manager (node_at c.args.self.now c.args.manager).kind c.requires.inside refl c.requires.manager in
    record {
      on = subst (λ (node : ℕ). IsOnPath c.args.self.now c.args.manager c.args.addr node 1) (sym first) (path-begun c.args.self.now c.args.manager c.args.addr less);
      passed = refl;
      few = omega (arith, less);
    }

pub returns-in-None-clause-path : goal.returns-in-None-clause-path
returns-in-None-clause-path c =
    let stops : onward c.args.self.now c.args.addr c.loop-step.node ≡ None = sym c.next.ensures.next ∙ c.in-None.is in
    let end : IsEndOfPath c.args.self.now c.args.manager c.args.addr c.loop-step.node c.loop-step._step =
    path-stopped c.args.self.now c.args.manager c.args.addr c.loop-step.node c.loop-step._step c.loop-step.invariant.on c.loop-step.invariant.few stops in
    ap₂ (λ (node passed : ℕ). (node, passed)) end.end (c.loop-step.invariant.passed ∙ end.count)

pub loop-step-preserved : goal.loop-step-preserved
loop-step-preserved c =
    let goes : onward c.args.self.now c.args.addr c.loop-step.node ≡ Some c.in-Some.next = sym c.next.ensures.next ∙ c.in-Some.is in
    let less : c.loop-step._step < length (plan_nodes c.args.self.now) = omega (arith, c.loop-step-test.true, c.nodes-step-end.ensures.count) in
    record {
      on = path-next c.args.self.now c.args.manager c.args.addr c.loop-step.node c.loop-step._step c.in-Some.next c.loop-step.invariant.on less goes c.in-Some.ensures.known;
      passed = omega (arith, c.loop-step.invariant.passed);
      few = omega (arith, less);
    }

pub returns-clause-path : goal.returns-clause-path
returns-clause-path c =
    let over : c.loop-step._step ≡ length (plan_nodes c.args.self.now) =
    omega (arith, c.loop-step-test.false, c.nodes-step-end.ensures.count, c.loop-step.invariant.few) in
    let end : IsEndOfPath c.args.self.now c.args.manager c.args.addr c.loop-step.node c.loop-step._step =
    path-over c.args.self.now c.args.manager c.args.addr c.loop-step.node c.loop-step._step c.loop-step.invariant.on over in
    ap₂ (λ (node passed : ℕ). (node, passed)) end.end (c.loop-step.invariant.passed ∙ end.count)
