use Rattle.std.proofs.Common.{◌<◌, ◌∙◌, ℕ, ap, length, subst, sym}
use Rattle.axi_beats.specs.Bus.{IsBusWidth}
use Rattle.axi_history.specs.declared.port.PortKind.{PortKind}
use Rattle.elaborate.specs.Laws.{is_first, is_mux}
use Rattle.elaborate.specs.Plan.{plan_link_at, plan_links}
use Rattle.net_build.proofs.LinkLemmas.{above-known}
use Rattle.net_build.proofs.MadeLemmas.{as_node, lite-made}
use Rattle.net_build.proofs.SourceLemmas.{lite-begins}
use Rattle.net_build.proofs.parts.lite_node.Goals as goal
use Rattle.net_kinds.specs.NodeKind.{ALite}

pub kind-above-requires : goal.kind-above-requires
kind-above-requires c =
    subst (λ (link : ℕ). link < length (plan_links c.args.source.now.plan.now)) (sym c.link_into-upper.ensures)
    (above-known c.args.source.now.plan.now c.requires.source.accepted c.args.number c.requires.known (ap is_first c.requires.lite) (ap is_mux c.requires.lite))

pub new-node-requires : goal.new-node-requires
new-node-requires c =
    subst IsBusWidth
    (sym (ap (λ (kind : PortKind). kind.bus) c.kind-above.ensures ∙ ap (λ (link : ℕ). (plan_link_at c.args.source.now.plan.now link).link.bus) c.link_into-upper.ensures))
    (lite-begins c.args.number c.requires.source c.requires.known c.requires.lite).bus

pub returns : goal.returns
returns c =
    ap (as_node ALite)
    (c.in_ok-boxed.ensures
    ∙ lite-made c.args.source.now.plan.now c.args.source.now.traffic.now c.args.number c.link_into-upper.result c.link_out_of-lower.result c.kind-above.result.bus c.new-node.result
    c.link_into-upper.ensures c.link_out_of-lower.ensures (ap (λ (kind : PortKind). kind.bus) c.kind-above.ensures) c.new-node.ensures)
