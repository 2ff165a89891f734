use Rattle.std.proofs.Common.{◌<◌, arith, length}
use Rattle.std.proofs.lemmas.List.{length-map}
use Rattle.manager_node.specs.ScriptInside.{item_view}
use Rattle.manager_node.proofs.ScriptLemmas.{item-can}
use Rattle.manager_node.proofs.script.Script.request.Goals as goal

pub returns-clause-start : goal.returns-clause-start
returns-clause-start c =
    let within : c.args.n < length c.self.inside.items.items = grind (arith, length-map c.self.inside.items.items item_view)
    in (item-can c.self.inside.items.items c.args.n c.index.result.now c.self.invariant within c.index.ensures).start

pub returns-clause-legal : goal.returns-clause-legal
returns-clause-legal c =
    let within : c.args.n < length c.self.inside.items.items = grind (arith, length-map c.self.inside.items.items item_view)
    in (item-can c.self.inside.items.items c.args.n c.index.result.now c.self.invariant within c.index.ensures).legal
