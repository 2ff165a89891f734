use Rattle.std.proofs.Common.{◌<◌, ◌∙◌, ap, length, map, drop, sym, arith, ◌+◌, List}
use Rattle.toml.specs.View.{view}
use Rattle.topology_text.specs.Document.{DocumentNode}
use Rattle.topology_text.specs.Shape.{read_tables, with_front}
use Rattle.topology_text.proofs.ReadLemmas.{read-more}
use Rattle.topology_text.proofs.read.read_nodes.Goals as goal

pub loop-place-preserved : goal.loop-place-preserved
loop-place-preserved c =
    let there : c.loop-place.place < length c.args.tables.now = omega (arith, c.loop-place-test.true) in
    ap (λ (nodes : List DocumentNode). with_front nodes (read_tables (c.loop-place.place + 1 + 1) (map view (drop (c.loop-place.place + 1) c.args.tables.now)))) c.in_ok-push-in-Some.ensures.items
    ∙ read-more c.loop-place.nodes.items c.args.tables.now c.loop-place.place c.index-tables-place.result c.in-Some.node there c.index-tables-place.is (sym c.in-Some.is ∙ c.in_ok-node.ensures)
    ∙ c.loop-place.invariant
