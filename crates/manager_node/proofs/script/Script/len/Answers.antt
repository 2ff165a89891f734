use Rattle.std.proofs.Common.{arith}
use Rattle.std.proofs.lemmas.List.{length-map}
use Rattle.manager_node.specs.ScriptInside.{item_view, script_view}
use Rattle.manager_node.proofs.ScriptLemmas.{script-short}
use Rattle.manager_node.proofs.script.Script.len.Goals as goal

pub overflow_cast-result : goal.overflow_cast-result
overflow_cast-result c = grind (arith, script-short (script_view c.self.inside) c.self.invariant, length-map c.self.inside.items.items item_view)
