use Rattle.std.proofs.Common.{◌≡◌, cond, length, rules, true, is_ok, ap, sym, ◌∙◌, Some}
use Rattle.std.specs.Prelude.{slice_get}
use Rattle.std.specs.Option.{option_map}
use Rattle.axi_beats.specs.declared.beat.Addr.{Addr}
use Rattle.burst_address.specs.Bytes.{burst_bytes}
use Rattle.manager_node.specs.Answer.{AnswerView, awaited_of}
use Rattle.manager_node.specs.ManagerState.{due_bytes, due_resps}
use Rattle.manager_node.specs.Script.{ScriptItem}
use Rattle.manager_node.specs.declared.script.Txn.{Txn}
use Rattle.manager_node.proofs.DirectionLemmas.{pushed-more, option_map-txn}
use Rattle.manager_node.proofs.SendingLemmas.{request-is}
use Rattle.manager_node.proofs.answers.Answers.new.Goals as goal

pub loop-n-preserved : goal.loop-n-preserved
loop-n-preserved c =
    let same : c.txn-txn.result.now.request ≡ c.request.result.now = request-is c.args.script.now c.loop-n.n c.txn-txn.result.now c.request.result.now c.txn-txn.ensures c.request.ensures.value
    in let bytes : due_bytes c.txn-txn.result.now ≡ c.due_bytes.result = ap (λ (a : Addr). cond c.txn-txn.result.now.write 0 (length (burst_bytes a))) same ∙ sym c.due_bytes.ensures
    in let made : option_map (λ (item : ScriptItem). awaited_of (due_resps item.txn) (due_bytes item.txn)) (slice_get c.args.script.now c.loop-n.n) ≡ Some c.in_ok-answer.answer =
    option_map-txn AnswerView (λ (txn : Txn). awaited_of (due_resps txn) (due_bytes txn)) (slice_get c.args.script.now c.loop-n.n) c.txn-txn.result.now c.txn-txn.ensures
    ∙ ap (λ resps. Some (awaited_of resps (due_bytes c.txn-txn.result.now))) (sym c.due_resps.ensures.value) ∙ ap (λ due. Some (awaited_of c.due_resps.result due)) bytes ∙ ap Some (sym c.in_ok-answer.ensures)
    in let pushed : is_ok c.push.result ≡ true = search rules
    in pushed-more AnswerView _ c.args.script.now c.loop-n.n c.in_ok-answer.answer (is_ok c.push.result) c.loop-n.items.items c.push.new.self.items pushed c.push.ensures.items c.loop-n.invariant made
