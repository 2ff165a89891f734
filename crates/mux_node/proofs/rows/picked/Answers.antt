use Rattle.std.proofs.Common.{◌==◌, ◌∙◌, Bool, ap, sym}
use Rattle.std.specs.Int.{bit_at}
use Rattle.std.specs.Option.{option_and_then}
use Rattle.std.specs.Prelude.{is_some}
use Rattle.mux_node.proofs.CodeLemmas.{picked-input}
use Rattle.mux_node.specs.MuxTable.{addresses, input_moved, input_offer, offered_in_turn}
use Rattle.node_core.proofs.ReadyLemmas.{turn-same}
use Rattle.node_core.specs.Rows.{beat_where}
use Rattle.mux_node.proofs.rows.picked.Goals as goal

-- src/rows.rt:50:1
pub returns-then-may-clause-input : goal.returns-then-may-clause-input
returns-then-may-clause-input c =
    let queue_of = addresses c.args.direction in
    let uppers = c.args.shape.now.uppers in
    let turn = c.args.turn.now in
    c.first.ensures.port ∙ turn-same (λ port. bit_at c.offering.result port == 1) (λ port. is_some (input_offer queue_of c.args.links.now uppers port)) c.offering.ensures turn
    ∙ sym (picked-input queue_of c.args.links.now uppers turn)
    ∙ ap (λ (b : Bool). input_moved (beat_where b (offered_in_turn queue_of c.args.links.now uppers turn))) (sym c.if-may.true)

-- src/rows.rt:50:1
pub returns-then-may-clause-row : goal.returns-then-may-clause-row
returns-then-may-clause-row c =
    let queue_of = addresses c.args.direction in
    let uppers = c.args.shape.now.uppers in
    let turn = c.args.turn.now in
    ap (option_and_then (input_offer queue_of c.args.links.now uppers))
    (c.first.ensures.port ∙ turn-same (λ port. bit_at c.offering.result port == 1) (λ port. is_some (input_offer queue_of c.args.links.now uppers port)) c.offering.ensures turn)
    ∙ ap (λ (b : Bool). beat_where b (offered_in_turn queue_of c.args.links.now uppers turn)) (sym c.if-may.true)
