use Rattle.std.proofs.Common.{◌≤◌, ◌+◌, ◌-◌, ◌∙◌, ℕ, List, [], ◌∷◌, ap, cond, get_or, length, refl, subst, sym, take, arith}
use Rattle.std.specs.Prelude.{◌==◌}
use Rattle.std.proofs.Math.ListN.{set}
use Rattle.node_graph.specs.Visits.{IsPassingOn}
use Rattle.node_graph.proofs.Uppers.{get-in}
use Rattle.node_graph.proofs.Visited.{IsNext, front-kept, front-more, front-there, front-within, is-next, passing-done, passing-more, taken-whole, waits-some}
use Rattle.node_graph.proofs.graph.NodeGraph.visit.Goals as goal

pub below-lower-items-requires : goal.below-lower-items-requires
below-lower-items-requires c =
    (is-next c.args.self.now c.args.place c.args.queue.now.items c.index.result.now c.requires.visited.queued c.requires.there c.index.ensures).known

pub loop-lower-init : goal.loop-lower-init
loop-lower-init c = record { passing = c.requires.visited; front = refl }

pub release-requires-clause-inside : goal.release-requires-clause-inside
release-requires-clause-inside c =
    omega (
      arith,
      c.below-lower-items.ensures.known (get_or c.below-lower-items.result.now c.loop-lower.lower-index 0) (get-in c.below-lower-items.result.now c.loop-lower.lower-index c.loop-lower-test.true),
      c.loop-lower.invariant.passing.long,
    )

pub release-requires-clause-waits : goal.release-requires-clause-waits
release-requires-clause-waits c =
    let next : IsNext c.args.self.now c.args.place c.args.queue.now.items c.index.result.now =
    is-next c.args.self.now c.args.place c.args.queue.now.items c.index.result.now c.requires.visited.queued c.requires.there c.index.ensures in
    waits-some c.args.self.now (take c.args.place c.args.queue.now.items) c.below-lower-items.result.now c.index.result.now c.below-lower-items.ensures.nodes
    c.below-lower-items.ensures.once next.new c.loop-lower.lower-index c.loop-lower.waiting c.loop-lower.queue.items c.loop-lower-test.true
    (c.below-lower-items.ensures.known (get_or c.below-lower-items.result.now c.loop-lower.lower-index 0) (get-in c.below-lower-items.result.now c.loop-lower.lower-index c.loop-lower-test.true))
    c.loop-lower.invariant.passing

pub loop-lower-preserved : goal.loop-lower-preserved
loop-lower-preserved c =
    let next : IsNext c.args.self.now c.args.place c.args.queue.now.items c.index.result.now =
    is-next c.args.self.now c.args.place c.args.queue.now.items c.index.result.now c.requires.visited.queued c.requires.there c.index.ensures in
    let x : ℕ = get_or c.below-lower-items.result.now c.loop-lower.lower-index 0 in
    let front : c.args.place + 1 ≤ length c.loop-lower.queue.items = front-within c.args.place c.args.queue.now.items c.loop-lower.queue.items c.requires.there c.loop-lower.invariant.front in
    record {
      passing =
          subst (λ (waiting : List ℕ). IsPassingOn c.args.self.now (take c.args.place c.args.queue.now.items) (take (c.loop-lower.lower-index + 1) c.below-lower-items.result.now) waiting c.release.new.queue.items)
          (sym c.in_ok-release.ensures.waiting)
          (subst (λ (queue : List ℕ). IsPassingOn c.args.self.now (take c.args.place c.args.queue.now.items) (take (c.loop-lower.lower-index + 1) c.below-lower-items.result.now)
          (set c.loop-lower.waiting (get_or c.below-lower-items.result.now c.loop-lower.lower-index 0) (get_or c.loop-lower.waiting (get_or c.below-lower-items.result.now c.loop-lower.lower-index 0) 0 - 1)) queue)
          (sym c.in_ok-release.ensures.queue)
          (passing-more c.args.self.now (take c.args.place c.args.queue.now.items) c.below-lower-items.result.now c.index.result.now c.below-lower-items.ensures.nodes
          c.below-lower-items.ensures.once next.new c.loop-lower.lower-index c.loop-lower.waiting c.loop-lower.queue.items c.loop-lower-test.true
          (c.below-lower-items.ensures.known x (get-in c.below-lower-items.result.now c.loop-lower.lower-index c.loop-lower-test.true))
          c.loop-lower.invariant.passing
          (front-there c.args.place c.args.queue.now.items c.loop-lower.queue.items (take c.args.place c.args.queue.now.items) c.index.result.now next.taken c.loop-lower.invariant.front)
          (λ y there. front-kept c.args.place c.args.queue.now.items c.loop-lower.queue.items (take c.args.place c.args.queue.now.items) c.index.result.now y next.taken c.loop-lower.invariant.front there)));
      front =
          ap (take (c.args.place + 1)) c.in_ok-release.ensures.queue
          ∙ front-more (c.args.place + 1) c.loop-lower.queue.items (cond (get_or c.loop-lower.waiting x 0 == 1) (x ∷ []) []) c.args.queue.now.items front c.loop-lower.invariant.front;
    }

pub returns : goal.returns
returns c =
    let next : IsNext c.args.self.now c.args.place c.args.queue.now.items c.index.result.now =
    is-next c.args.self.now c.args.place c.args.queue.now.items c.index.result.now c.requires.visited.queued c.requires.there c.index.ensures in
    subst (λ (visited : List ℕ). IsPassingOn c.args.self.now visited [] c.loop-lower.waiting c.loop-lower.queue.items) (sym (c.loop-lower.invariant.front ∙ next.taken))
    (passing-done c.args.self.now (take c.args.place c.args.queue.now.items) c.below-lower-items.result.now c.index.result.now c.below-lower-items.ensures.nodes
    c.below-lower-items.ensures.once next.new c.loop-lower.waiting c.loop-lower.queue.items
    (subst (λ (lowers : List ℕ). IsPassingOn c.args.self.now (take c.args.place c.args.queue.now.items) lowers c.loop-lower.waiting c.loop-lower.queue.items)
    (taken-whole c.loop-lower.lower-index c.below-lower-items.result.now (omega (arith, c.loop-lower-test.false))) c.loop-lower.invariant.passing))
