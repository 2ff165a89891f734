use Rattle.std.proofs.Common.{◌++◌, ◌∷◌, [], Bool, List, cond, take, sym, ◌∙◌, ap, ap₂, subst}
use Rattle.std.proofs.lemmas.Bool.{eq-eqb, ne_eqb}
use Rattle.manager_node.specs.Script.{CanPush, ScriptItem}
use Rattle.manager_node.specs.declared.script.WriteByte.{WriteByte}
use Rattle.plan_traffic.specs.Accepted.{SuitSome}
use Rattle.plan_traffic.specs.Inside.{traffic_item, traffic_items}
use Rattle.plan_traffic.specs.Scripts.{script_item, script_of}
use Rattle.plan_traffic.proofs.BoundLemmas.{item-at}
use Rattle.plan_traffic.proofs.ScriptLemmas.{can-push, script-step}
use Rattle.plan_traffic.proofs.transactions.Traffic.script.Goals.{then-item-manager+in_ok-push, else-item-manager}
use Rattle.plan_traffic.proofs.transactions.Traffic.script.Goals as goal

pub push-requires : goal.push-requires
push-requires c =
    let at = item-at c.deref-item-items.result.now c.args.self.now c.loop-item.item-index c.item-item.result (ap traffic_items c.deref-item-items.ensures.value ∙ c.self.view_is) c.loop-item-test.true c.item-item.is in
    let known : SuitSome c.args.self.now = subst SuitSome c.self.view_is c.self.invariant in
    subst (λ (script : List ScriptItem). CanPush script c.item-item.result.txn c.as_slice.result.now) (sym c.loop-item.invariant)
    (subst (λ (bytes : List WriteByte). CanPush (script_of (take c.loop-item.item-index c.args.self.now) c.args.manager) c.item-item.result.txn bytes) (sym c.as_slice.ensures.value)
    (can-push c.args.self.now c.loop-item.item-index c.args.manager (traffic_item c.item-item.result) known at.0 at.1 c.if-item-manager.true))

pub loop-item-preserved : goal.loop-item-preserved
loop-item-preserved c =
    let at = item-at c.deref-item-items.result.now c.args.self.now c.loop-item.item-index c.item-item.result (ap traffic_items c.deref-item-items.ensures.value ∙ c.self.view_is) c.loop-item-test.true c.item-item.is in
    let before : List ScriptItem = script_of (take c.loop-item.item-index c.args.self.now) c.args.manager in
    let step = script-step c.args.self.now c.loop-item.item-index c.args.manager (traffic_item c.item-item.result) at.0 at.1 in
    elim c.if-item-manager.branch [
      | then-item-manager+in_ok-push w ↦
          w.script-is
          ∙ w.in_ok-push.ensures.ok
          ∙ ap₂ (λ (script : List ScriptItem) (bytes : List WriteByte). script ++ record { txn = c.item-item.result.txn; bytes = bytes } ∷ []) c.loop-item.invariant w.as_slice.ensures.value
          ∙ sym (step ∙ ap (λ (b : Bool). cond b (before ++ script_item (traffic_item c.item-item.result) ∷ []) before) (eq-eqb c.item-item.result.manager c.args.manager w.if-item-manager.true))
      | else-item-manager w ↦
          w.script-is
          ∙ c.loop-item.invariant
          ∙ sym (step ∙ ap (λ (b : Bool). cond b (before ++ script_item (traffic_item c.item-item.result) ∷ []) before) (ne_eqb c.item-item.result.manager c.args.manager w.if-item-manager.false))
    ]
