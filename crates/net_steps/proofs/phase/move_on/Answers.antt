use Rattle.std.proofs.Common.{◌≡◌, ◌<◌, ℕ, length, map, subst, sym, ap₂, ◌∙◌}
use Rattle.std.proofs.lemmas.List.{length-map}
use Rattle.axi_link.specs.Moves.{CanMove, link_after}
use Rattle.axi_link.specs.declared.out.Out.{Out}
use Rattle.net_kinds.specs.NodeKind.{node_view}
use Rattle.net_model.specs.Network.{moves_at}
use Rattle.net_steps.proofs.PhaseLemmas.{moves-at}
use Rattle.net_steps.proofs.phase.move_on.Goals as goal

pub commit-requires : goal.commit-requires
commit-requires c =
    let nodes = c.args.nodes.now in
    let number = c.args.number in
    let known : (n : ℕ) → n < length nodes → n < length (map node_view nodes) = λ n within. subst (λ (k : ℕ). n < k) (sym (length-map nodes node_view)) within in
    let above : moves_at (map node_view nodes) c.args.link.now.upper ≡ c.out.result.now =
    moves-at nodes c.args.link.now.upper c.index-nodes-link.result _ (known _ c.requires.upper) c.index-nodes-link.is ∙ sym c.out.ensures in
    let below : moves_at (map node_view nodes) c.args.link.now.lower ≡ c.out-2.result.now =
    moves-at nodes c.args.link.now.lower c.index-nodes-link-2.result _ (known _ c.requires.lower) c.index-nodes-link-2.is ∙ sym c.out-2.ensures in
    subst (λ (out : Out). CanMove number c.args.queue.now c.out.result.now out) below
    (subst (λ (out : Out). CanMove number c.args.queue.now out (moves_at (map node_view nodes) c.args.link.now.lower)) above c.requires.ready)

pub returns : goal.returns
returns c =
    let nodes = c.args.nodes.now in
    let known : (n : ℕ) → n < length nodes → n < length (map node_view nodes) = λ n within. subst (λ (k : ℕ). n < k) (sym (length-map nodes node_view)) within in
    c.commit.ensures
    ∙ ap₂ (λ (above below : Out). link_after c.args.number c.args.queue.now above below)
    (sym (moves-at nodes c.args.link.now.upper c.index-nodes-link.result _ (known _ c.requires.upper) c.index-nodes-link.is ∙ sym c.out.ensures))
    (sym (moves-at nodes c.args.link.now.lower c.index-nodes-link-2.result _ (known _ c.requires.lower) c.index-nodes-link-2.is ∙ sym c.out-2.ensures))
