use Rattle.std.proofs.Common.{◌==◌, ◌∙◌, Bool, ap, sym, ℕ}
use Rattle.std.specs.Int.{bit_at}
use Rattle.axi_link.specs.LinkView.{LinkView}
use Rattle.axi_link.specs.LinkWords.{has_room}
use Rattle.demux_node.specs.DemuxTable.{offers_b}
use Rattle.node_core.proofs.ReadyLemmas.{turn-same}
use Rattle.node_core.specs.Rows.{beat_where}
use Rattle.node_core.specs.Turn.{first_in_turn}
use Rattle.demux_node.proofs.rows.b_port.Goals as goal

pub returns-then-room_b-clause-port : goal.returns-then-room_b-clause-port
returns-then-room_b-clause-port c =
    let offers : ℕ → Bool = offers_b c.args.links.now c.args.shape.now c.args.writes.now in
    c.first.ensures.port ∙ turn-same (λ port. bit_at c.ports_b.result port == 1) offers c.ports_b.ensures c.args.turn.now
    ∙ ap (λ (b : Bool). beat_where b (first_in_turn offers c.args.turn.now)) (sym (ap (λ (link : LinkView). has_room link.depth link.b) (sym c.above.ensures) ∙ sym c.room_b.ensures ∙ c.if-room_b.true))
