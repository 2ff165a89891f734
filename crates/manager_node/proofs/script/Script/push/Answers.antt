use Rattle.std.proofs.Common.{List, is_ok, subst, sym}
use Rattle.manager_node.specs.Script.{ScriptItem, CanPush}
use Rattle.manager_node.specs.declared.script.WriteByte.{WriteByte}
use Rattle.manager_node.specs.ScriptInside.{script_view}
use Rattle.manager_node.proofs.ScriptLemmas.{IsScript-push}
use Rattle.manager_node.proofs.script.Script.push.Goals as goal

pub invariant_of-self : goal.invariant_of-self
invariant_of-self c =
    let can : CanPush (script_view c.self.inside) c.args.txn c.args.bytes.now = subst (λ (script : List ScriptItem). CanPush script c.args.txn c.args.bytes.now) (sym c.self.view_is) c.requires
    in let bytes_can : CanPush (script_view c.self.inside) c.args.txn c.in_ok-bytes.bytes.items = subst (λ (bytes : List WriteByte). CanPush (script_view c.self.inside) c.args.txn bytes) (sym c.in_ok-bytes.ensures.items) can
    in IsScript-push c.self.inside.items.items c.push.new.self.items _ (is_ok c.push.result) c.push.ensures.items c.self.invariant bytes_can
