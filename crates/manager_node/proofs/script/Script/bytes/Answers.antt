use Rattle.std.proofs.Common.{◌≡◌, ◌<◌, List, Some, arith, length, subst}
use Rattle.std.specs.Option.{option_map}
use Rattle.std.specs.Prelude.{slice_get}
use Rattle.std.proofs.lemmas.List.{length-map}
use Rattle.manager_node.specs.Script.{ScriptItem, sent_bytes}
use Rattle.manager_node.specs.ScriptInside.{item_view}
use Rattle.manager_node.proofs.ScriptLemmas.{item-count}
use Rattle.manager_node.proofs.script.Script.bytes.Goals as goal

pub returns-clause-count : goal.returns-clause-count
returns-clause-count c =
    let within : c.args.n < length c.self.inside.items.items = grind (arith, length-map c.self.inside.items.items item_view)
    in subst (λ (script : List ScriptItem). option_map (λ (item : ScriptItem). sent_bytes item.txn) (slice_get script c.args.n) ≡ Some (length c.as_slice.result.now)) c.self.view_is (item-count c.self.inside.items.items c.args.n c.index.result.now c.as_slice.result.now c.self.invariant within c.index.ensures c.as_slice.ensures.value)
