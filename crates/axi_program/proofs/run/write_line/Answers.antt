use Rattle.std.proofs.Common.{◌≡◌, ◌-◌, [], ℕ, List, Some, sym, ap, subst, ◌∙◌}
use Rattle.std.specs.Prelude.{OnErr, OnOk, slice_get}
use Rattle.std.specs.Option.{option_map}
use Rattle.std.specs.Io.KnownBytes.{Appends}
use Rattle.manager_node.specs.declared.script.Txn.{Txn}
use Rattle.plan_traffic.specs.Traffic.{TrafficItem}
use Rattle.axi_program.proofs.LineLemmas.{answered-line, unanswered-line}
use Rattle.axi_program.proofs.TraceLaws.{appends-nothing}
use Rattle.axi_program.specs.DeviceBytes.{AppendsPrefix}
use Rattle.axi_program.specs.Text.{line_of_number}
use Rattle.axi_program.proofs.run.write_line.Goals as goal

-- the transaction as it is found in the traffic of the network
txn-in : (items own : List TrafficItem) (place : ℕ) (txn : Txn) → own ≡ items → option_map (λ (item : TrafficItem). item.txn) (slice_get own place) ≡ Some txn →
    option_map (λ (item : TrafficItem). item.txn) (slice_get items place) ≡ Some txn
txn-in items own place txn same is = ap (λ (xs : List TrafficItem). option_map (λ (item : TrafficItem). item.txn) (slice_get xs place)) (sym same) ∙ is

pub returns-in-None-clause-ok : goal.returns-in-None-clause-ok
returns-in-None-clause-ok g c =
    subst (λ (text : List ℕ). Appends (g.K.Sink.written c.args.sink.now) (g.K.Sink.written c.args.sink.now) text)
    (sym (unanswered-line c.args.net.now c.args.number c.traffic-traffic.ensures.suits c.requires.from c.in-None.ensures.answer))
    (appends-nothing (g.K.Sink.written c.args.sink.now))

pub returns-in-Some-clause-ok : goal.returns-in-Some-clause-ok
returns-in-Some-clause-ok g c =
    let run = c.args.net.now in
    let known = c.in-Some.ensures.known in
    let its = txn-in run.items c.traffic-traffic.result.now (c.args.number - 1) c.txn.result.now c.traffic-traffic.ensures.items c.txn.ensures in
    let piece = c.bytes.ensures ∙ c.render_answers.ensures
    ∙ answered-line run c.args.number known.item c.manager_name.result.now c.txn.result.now c.in-Some.answer.now c.traffic-traffic.ensures.suits c.requires.from known.at c.manager_name.ensures.name its c.in-Some.ensures.answer
    in subst (λ (bytes : List ℕ). OnOk c.write_piece.result (Appends (g.K.Sink.written c.args.sink.now) (g.K.Sink.written c.write_piece.new.sink) bytes)) piece c.write_piece.ensures.ok

pub returns-in-Some-clause-err : goal.returns-in-Some-clause-err
returns-in-Some-clause-err g c =
    let run = c.args.net.now in
    let known = c.in-Some.ensures.known in
    let its = txn-in run.items c.traffic-traffic.result.now (c.args.number - 1) c.txn.result.now c.traffic-traffic.ensures.items c.txn.ensures in
    let piece = c.bytes.ensures ∙ c.render_answers.ensures
    ∙ answered-line run c.args.number known.item c.manager_name.result.now c.txn.result.now c.in-Some.answer.now c.traffic-traffic.ensures.suits c.requires.from known.at c.manager_name.ensures.name its c.in-Some.ensures.answer
    in subst (λ (bytes : List ℕ). OnErr c.write_piece.result (AppendsPrefix (g.K.Sink.written c.args.sink.now) (g.K.Sink.written c.write_piece.new.sink) bytes)) piece c.write_piece.ensures.err
