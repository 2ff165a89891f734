use Rattle.std.proofs.Common.{◌<◌, ◌∙◌, ℕ, ap, length, subst, sym}
use Rattle.axi_history.specs.declared.port.PortKind.{PortKind}
use Rattle.elaborate.specs.Laws.{is_first, is_mux}
use Rattle.elaborate.specs.Plan.{plan_link_at, plan_links}
use Rattle.memory_node.specs.MemoryTrail.{BeginsMemory}
use Rattle.net_build.proofs.LinkLemmas.{above-known}
use Rattle.net_build.proofs.MadeLemmas.{as_node, bus-above}
use Rattle.net_build.proofs.SourceLemmas.{lite_memory-begins, lite_memory-has_delays}
use Rattle.net_build.proofs.parts.lite_memory_node.Goals as goal
use Rattle.net_build.specs.Source.{memory_on}
use Rattle.net_kinds.specs.NodeKind.{ALiteMemory}

pub kind-above-requires : goal.kind-above-requires
kind-above-requires c =
    subst (λ (link : ℕ). link < length (plan_links c.args.source.now.plan.now)) (sym c.link_into-upper.ensures)
    (above-known c.args.source.now.plan.now c.requires.source.accepted c.args.number c.requires.known (ap is_first c.requires.memory) (ap is_mux c.requires.memory))

pub memory_on-requires-clause-begins : goal.memory_on-requires-clause-begins
memory_on-requires-clause-begins c =
    subst (λ (bus : ℕ). BeginsMemory (memory_on c.args.source.now.plan.now c.args.source.now.traffic.now c.args.number bus))
    (sym (ap (λ (kind : PortKind). kind.bus) c.kind-above.ensures ∙ ap (λ (link : ℕ). (plan_link_at c.args.source.now.plan.now link).link.bus) c.link_into-upper.ensures))
    (lite_memory-begins c.args.number c.requires.source c.requires.known c.requires.memory)

pub memory_on-requires-clause-accept : goal.memory_on-requires-clause-accept
memory_on-requires-clause-accept c = (lite_memory-has_delays c.args.number c.requires.source c.requires.known c.requires.memory).accept

pub memory_on-requires-clause-give : goal.memory_on-requires-clause-give
memory_on-requires-clause-give c = (lite_memory-has_delays c.args.number c.requires.source c.requires.known c.requires.memory).give

pub returns : goal.returns
returns c =
    ap (as_node ALiteMemory)
    (c.in_ok-boxed.ensures ∙ c.new-node.ensures
    ∙ bus-above c.args.source.now.plan.now c.args.source.now.traffic.now c.args.number c.kind-above.result.bus c.in_ok-memory.memory
    (ap (λ (kind : PortKind). kind.bus) c.kind-above.ensures ∙ ap (λ (link : ℕ). (plan_link_at c.args.source.now.plan.now link).link.bus) c.link_into-upper.ensures) c.in_ok-memory.ensures)
