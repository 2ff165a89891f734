use Rattle.std.proofs.Common.{◌≡◌, ◌+◌, ◌-◌, ◌++◌, ◌∙◌, ap, arith, sym}
use Rattle.manager_node.specs.declared.script.Txn.{Txn}
use Rattle.net_build.proofs.ItemLemmas.{item_at, lines-more, lines-same, read-to, to-other, told, write-to}
use Rattle.net_build.proofs.lines.push_written.Goals as goal
use Rattle.net_build.proofs.lines.push_written.Goals.{else-txn-via-then-txn+else-source-place, else-txn-via-else-txn}
use Rattle.net_opening.specs.Touched.{lines_of_burst}
use Rattle.plan_traffic.specs.Traffic.{TrafficItem}

pub returns-in_ok-push_lines : goal.returns-in_ok-push_lines
returns-in_ok-push_lines c =
    let same : (item_at c.args.source.now.traffic.now c.args.place).txn ≡ c.txn-txn.result.now =
    told (λ (item : TrafficItem). item.txn) c.args.source.now.traffic.now c.args.place (c.args.place + 1 - 1) c.txn-txn.result.now c.requires.known (omega arith) c.txn-txn.ensures in
    c.in_ok-push_lines.ensures ∙ ap (λ (txn : Txn). c.args.lines.now.items ++ lines_of_burst txn.request) (sym same)
    ∙ lines-more c.args.source.now.plan.now c.args.node c.args.source.now.traffic.now c.args.place c.args.lines.now.items c.requires.known
    (write-to c.args.source.now.plan.now c.args.source.now.traffic.now c.args.source.now.targets.now c.args.node c.args.place c.requires.known c.requires.source.ends
    (ap (λ (txn : Txn). txn.write) same ∙ c.if-txn.true) c.if-source-place.true)
    c.requires.so_far

pub returns-else-txn : goal.returns-else-txn
returns-else-txn c =
    let same : (item_at c.args.source.now.traffic.now c.args.place).txn ≡ c.txn-txn.result.now =
    told (λ (item : TrafficItem). item.txn) c.args.source.now.traffic.now c.args.place (c.args.place + 1 - 1) c.txn-txn.result.now c.requires.known (omega arith) c.txn-txn.ensures in
    lines-same c.args.source.now.plan.now c.args.node c.args.source.now.traffic.now c.args.place c.args.lines.now.items c.requires.known
    (elim c.else-txn.branch [
      | else-txn-via-then-txn+else-source-place w ↦
          to-other c.args.source.now.plan.now c.args.source.now.traffic.now c.args.source.now.targets.now c.args.node c.args.place c.requires.known c.requires.source.ends w.if-source-place.false
      | else-txn-via-else-txn w ↦
          read-to c.args.source.now.plan.now c.args.source.now.traffic.now c.args.source.now.targets.now c.args.node c.args.place c.requires.known c.requires.source.ends
          (ap (λ (txn : Txn). txn.write) same ∙ w.if-txn.false)
    ])
    c.requires.so_far
