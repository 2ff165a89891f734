use Rattle.std.proofs.Common.{◌<◌, ◌∙◌, ℕ, List, ap, length, subst, sym}
use Rattle.memory_node.specs.MemoryTrail.{BeginsMemory}
use Rattle.net_build.proofs.MadeLemmas.{as_node, bus-named}
use Rattle.net_build.proofs.SourceLemmas.{memory-begins, memory-has_delays, own-node}
use Rattle.net_build.proofs.parts.memory_node.Goals as goal
use Rattle.net_build.specs.Source.{memory_on}
use Rattle.net_kinds.specs.NodeKind.{AMemory}
use Rattle.topology.specs.Document.{DocumentNode}

pub bus-bus-requires : goal.bus-bus-requires
bus-bus-requires c = subst (λ (nodes : List DocumentNode). c.document-document.result < length nodes) (sym c.wiring.ensures) c.document-document.ensures.known

pub memory_on-requires-clause-begins : goal.memory_on-requires-clause-begins
memory_on-requires-clause-begins c =
    subst (λ (bus : ℕ). BeginsMemory (memory_on c.args.source.now.plan.now c.args.source.now.traffic.now c.args.number bus))
    (sym (c.bus-bus.ensures ∙ ap (λ (node : DocumentNode). node.bus) (own-node c.args.number c.wiring.ensures c.document-document.ensures.document)))
    (memory-begins c.args.number c.requires.source c.requires.known c.requires.memory)

pub memory_on-requires-clause-accept : goal.memory_on-requires-clause-accept
memory_on-requires-clause-accept c = (memory-has_delays c.args.number c.requires.source c.requires.known c.requires.memory).accept

pub memory_on-requires-clause-give : goal.memory_on-requires-clause-give
memory_on-requires-clause-give c = (memory-has_delays c.args.number c.requires.source c.requires.known c.requires.memory).give

pub returns : goal.returns
returns c =
    ap (as_node AMemory)
    (c.in_ok-boxed.ensures
    ∙ bus-named c.args.source.now.plan.now c.args.source.now.traffic.now c.args.number c.bus-bus.result c.in_ok-memory.memory
    (c.bus-bus.ensures ∙ ap (λ (node : DocumentNode). node.bus) (own-node c.args.number c.wiring.ensures c.document-document.ensures.document)) c.in_ok-memory.ensures)
