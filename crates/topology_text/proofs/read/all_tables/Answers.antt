use Rattle.std.specs.Prelude.{true, false}
use Rattle.toml.specs.Data.{as_table}
use Rattle.topology_text.proofs.ValueLemmas.{read-when}
use Rattle.topology_text.proofs.read.all_tables.Goals as goal

pub returns-then-are_tables : goal.returns-then-are_tables
returns-then-are_tables c = read-when as_table c.args.values.now c.are_tables.result true c.are_tables.ensures c.if-are_tables.true

pub returns-else-are_tables : goal.returns-else-are_tables
returns-else-are_tables c = read-when as_table c.args.values.now c.are_tables.result false c.are_tables.ensures c.if-are_tables.false
