use Rattle.std.proofs.Common.{◌≡◌, ◌<◌, ◌∙◌, List, ap, length, map, subst, sym}
use Rattle.std.specs.Prelude.{AllPairs}
use Rattle.std.proofs.lemmas.Result.{IfOk-weaker}
use Rattle.memory_node.specs.MemoryArea.{IsMemoryArea, area_of}
use Rattle.memory_node.specs.MemoryState.{MemoryState, new_memory}
use Rattle.net_build.proofs.MadeLemmas.{area-made, memory-made}
use Rattle.net_build.proofs.SourceLemmas.{accepts, gives, lines-rise, own-node}
use Rattle.net_build.proofs.memories.memory_on.Goals as goal
use Rattle.net_build.specs.Source.{memory_on}
use Rattle.net_opening.specs.States.{document_node_of, memory_range}
use Rattle.node_core.specs.Acted.{Acted, opened}
use Rattle.topology.specs.Document.{DocumentNode, node_at}

pub read_only-requires : goal.read_only-requires
read_only-requires c = subst (λ (nodes : List DocumentNode). c.document-document.result < length nodes) (sym c.wiring-wiring.ensures) c.document-document.ensures.known

pub hole-requires : goal.hole-requires
hole-requires c = subst (λ (nodes : List DocumentNode). c.document-document.result < length nodes) (sym c.wiring-wiring.ensures) c.document-document.ensures.known

pub memory_config-requires : goal.memory_config-requires
memory_config-requires c = subst (λ (nodes : List DocumentNode). c.document-document.result < length nodes) (sym c.wiring-wiring.ensures) c.document-document.ensures.known

pub accept-requires : goal.accept-requires
accept-requires c = subst (λ (nodes : List DocumentNode). c.document-document.result < length nodes) (sym c.wiring-wiring.ensures) c.document-document.ensures.known

pub give-requires : goal.give-requires
give-requires c = subst (λ (nodes : List DocumentNode). c.document-document.result < length nodes) (sym c.wiring-wiring.ensures) c.document-document.ensures.known

pub new-requires-clause-area : goal.new-requires-clause-area
new-requires-clause-area c =
    subst IsMemoryArea
    (sym (area-made (node_at c.wiring-wiring.result.now c.document-document.result) (document_node_of c.args.source.now.plan.now c.args.number) c.args.bus c.memory_config.result
    c.deref.result.now c.deref-2.result.now (own-node c.args.number c.wiring-wiring.ensures c.document-document.ensures.document) c.memory_config.ensures
    (c.deref.ensures.value ∙ c.in_ok-read_only.ensures ∙ ap (map memory_range) c.read_only.ensures)
    (c.deref-2.ensures.value ∙ c.in_ok-hole.ensures ∙ ap (map memory_range) c.hole.ensures)))
    c.requires.begins.area

pub new-requires-clause-some_accept : goal.new-requires-clause-some_accept
new-requires-clause-some_accept c =
    (accepts c.args.number c.wiring-wiring.ensures c.document-document.ensures.document c.accept.result.now c.accept.ensures (record { accept = c.requires.accept; give = c.requires.give })).some

pub new-requires-clause-most_accept : goal.new-requires-clause-most_accept
new-requires-clause-most_accept c =
    (accepts c.args.number c.wiring-wiring.ensures c.document-document.ensures.document c.accept.result.now c.accept.ensures (record { accept = c.requires.accept; give = c.requires.give })).most

pub new-requires-clause-short_accept : goal.new-requires-clause-short_accept
new-requires-clause-short_accept c =
    (accepts c.args.number c.wiring-wiring.ensures c.document-document.ensures.document c.accept.result.now c.accept.ensures (record { accept = c.requires.accept; give = c.requires.give })).short

pub new-requires-clause-some_give : goal.new-requires-clause-some_give
new-requires-clause-some_give c =
    (gives c.args.number c.wiring-wiring.ensures c.document-document.ensures.document c.give.result.now c.give.ensures (record { accept = c.requires.accept; give = c.requires.give })).some

pub new-requires-clause-most_give : goal.new-requires-clause-most_give
new-requires-clause-most_give c =
    (gives c.args.number c.wiring-wiring.ensures c.document-document.ensures.document c.give.result.now c.give.ensures (record { accept = c.requires.accept; give = c.requires.give })).most

pub new-requires-clause-short_give : goal.new-requires-clause-short_give
new-requires-clause-short_give c =
    (gives c.args.number c.wiring-wiring.ensures c.document-document.ensures.document c.give.result.now c.give.ensures (record { accept = c.requires.accept; give = c.requires.give })).short

pub new-requires-clause-touched : goal.new-requires-clause-touched
new-requires-clause-touched c =
    subst (AllPairs (λ a b. a < b)) (sym (c.deref-3.ensures.value ∙ c.in_ok-touched.ensures))
    (lines-rise c.args.source.now.plan.now c.args.source.now.traffic.now c.args.number c.args.bus c.requires.begins)

pub returns : goal.returns
returns c =
    IfOk-weaker c.new.result
    (λ (memory : Acted MemoryState). memory ≡ opened (new_memory (area_of c.memory_config.result c.deref.result.now c.deref-2.result.now) c.accept.result.now c.give.result.now
    c.link_into-upper.result c.deref-3.result.now))
    (λ (memory : Acted MemoryState). memory ≡ opened (memory_on c.args.source.now.plan.now c.args.source.now.traffic.now c.args.number c.args.bus))
    (λ memory made.
    memory-made c.args.source.now.plan.now c.args.source.now.traffic.now c.args.number c.args.bus
    (area_of c.memory_config.result c.deref.result.now c.deref-2.result.now) c.accept.result.now c.give.result.now c.link_into-upper.result c.deref-3.result.now memory
    (area-made (node_at c.wiring-wiring.result.now c.document-document.result) (document_node_of c.args.source.now.plan.now c.args.number) c.args.bus c.memory_config.result
    c.deref.result.now c.deref-2.result.now (own-node c.args.number c.wiring-wiring.ensures c.document-document.ensures.document) c.memory_config.ensures
    (c.deref.ensures.value ∙ c.in_ok-read_only.ensures ∙ ap (map memory_range) c.read_only.ensures)
    (c.deref-2.ensures.value ∙ c.in_ok-hole.ensures ∙ ap (map memory_range) c.hole.ensures))
    (c.accept.ensures ∙ ap (λ (node : DocumentNode). node.accept) (own-node c.args.number c.wiring-wiring.ensures c.document-document.ensures.document))
    (c.give.ensures ∙ ap (λ (node : DocumentNode). node.give) (own-node c.args.number c.wiring-wiring.ensures c.document-document.ensures.document))
    c.link_into-upper.ensures (c.deref-3.ensures.value ∙ c.in_ok-touched.ensures) made)
    c.new.ensures
