use Rattle.std.proofs.Common.{◌≡◌, ◌+◌, drop, map}
use Rattle.toml.specs.View.{view}
use Rattle.topology_text.specs.Shape.{read_tables, with_front}
use Rattle.topology_text.proofs.read.read_nodes.Given as goal

abbrev pub invariant-loop-place : goal.invariant-loop-place
invariant-loop-place l = with_front l.nodes.items (read_tables (l.place + 1) (map view (drop l.place l.tables))) ≡ read_tables 1 (map view l.tables)
