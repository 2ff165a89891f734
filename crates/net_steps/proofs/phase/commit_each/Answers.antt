use Rattle.std.proofs.lemmas.List.{length-map}
use Rattle.std.proofs.Common.{◌≡◌, ◌<◌, ◌+◌, ℕ, get_or, length, map, refl, set, sym, ap, subst, ◌∙◌, arith}
use Rattle.axi_link.specs.LinkView.{LinkView}
use Rattle.net_kinds.specs.NodeKind.{node_view}
use Rattle.net_model.specs.Network.{CanMoveQueue, queue_moved}
use Rattle.net_steps.proofs.CallLemmas.{offers-get, offers-set}
use Rattle.net_steps.proofs.phase.commit_each.Goals as goal
use Rattle.net_steps.specs.Calls.{offers_of}
use Rattle.plain_lists.proofs.NumberedLemmas.{all_numbered-at, next_as_it_was, numbered_over_more}

pub commit_one-requires-clause-ready : goal.commit_one-requires-clause-ready
commit_one-requires-clause-ready c =
    let can = CanMoveQueue c.args.links.now (map node_view c.args.nodes.now) in
    let i = c.loop-queue.queue-index in
    let item = c.queue-item.result in
    let within : i < length c.args.queues.now = omega arith in
    let ready : can (c.args.first + i) (get_or c.args.queues.now i item) = all_numbered-at can c.args.first c.args.queues.now i item within c.requires.ready in
    let same = next_as_it_was (queue_moved c.args.links.now (map node_view c.args.nodes.now)) c.args.first c.args.queues.now c.loop-queue.queues i item within c.loop-queue.invariant.0 in
    subst (λ (number : ℕ). can number (get_or c.loop-queue.queues i item)) (sym c.loop-queue.invariant.1)
    (subst (λ (queue : LinkView). can (c.args.first + i) queue) (sym same) ready)

pub loop-queue-preserved : goal.loop-queue-preserved
loop-queue-preserved c =
    let f = queue_moved c.args.links.now (map node_view c.args.nodes.now) in
    let i = c.loop-queue.queue-index in
    let item = c.queue-item.result in
    let within : i < length c.args.queues.now = omega arith in
    let moved = c.commit_one.ensures.queue ∙ ap (λ (number : ℕ). f number (get_or c.loop-queue.queues i item)) c.loop-queue.invariant.1 in
    let number : c.loop-queue.number ≡ c.args.first + i = c.loop-queue.invariant.1 in (
      ap (λ (l : LinkView). set c.loop-queue.queues i l) moved
          ∙ numbered_over_more f c.args.first c.args.queues.now c.loop-queue.queues i (get_or c.loop-queue.queues i item) item within c.loop-queue.invariant.0 refl,
      omega arith,
      omega (arith, c.loop-queue.invariant.2),
      offers-set c.loop-queue.queues c.loop-queue.offers c.loop-queue.place i c.commit_one.new.queue c.commit_one.new.offers c.loop-queue.invariant.3 c.loop-queue.invariant.2 c.commit_one.ensures.offers,
    )

pub bounds-offers-place : goal.bounds-offers-place
bounds-offers-place c = omega (arith, c.loop-queue.invariant.2, ap length c.loop-queue.invariant.3, length-map c.loop-queue.queues offers_of)

pub commit_one-requires-clause-offers : goal.commit_one-requires-clause-offers
commit_one-requires-clause-offers c =
    let within : c.loop-queue.queue-index < length c.loop-queue.queues = omega arith in
    offers-get c.loop-queue.queues c.loop-queue.offers c.loop-queue.place c.loop-queue.queue-index c.queue-item.result _ within c.loop-queue.invariant.3 c.loop-queue.invariant.2
