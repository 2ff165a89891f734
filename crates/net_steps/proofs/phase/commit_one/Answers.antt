use Rattle.std.proofs.Common.{◌<◌, ◌∙◌, map, subst}
use Rattle.std.proofs.lemmas.List.{length-map}
use Rattle.net_kinds.specs.NodeKind.{node_view}
use Rattle.net_model.specs.Network.{lower_node, upper_node}
use Rattle.net_steps.proofs.CallLemmas.{moved-is, others-moved}
use Rattle.net_steps.proofs.phase.commit_one.Goals as goal

pub move_on-requires : goal.move_on-requires
move_on-requires c = record {
  upper = subst (λ n. upper_node c.args.links.now c.args.number < n) (length-map c.args.nodes.now node_view) c.requires.ready.upper;
  lower = subst (λ n. lower_node c.args.links.now c.args.number < n) (length-map c.args.nodes.now node_view) c.requires.ready.lower;
  ready = c.requires.ready.moves;
}

pub returns-then-acting-link-clause-queue : goal.returns-then-acting-link-clause-queue
returns-then-acting-link-clause-queue c = c.move_on.ensures ∙ moved-is c.args.links.now (map node_view c.args.nodes.now) c.args.number c.args.queue.now

pub returns-else-acting-link-2-clause-queue : goal.returns-else-acting-link-2-clause-queue
returns-else-acting-link-2-clause-queue c =
    others-moved c.args.links.now c.args.nodes.now c.args.acting.now c.args.number c.args.queue.now _ _ c.requires.acting c.requires.ready.upper c.requires.ready.lower c.if-acting-link.false
    c.if-acting-link-2.false
