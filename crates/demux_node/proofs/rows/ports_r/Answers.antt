use Rattle.std.proofs.Common.{◌≡◌, ◌&&◌, ◌==◌, ◌∙◌, Bool, arith, ap, false, map, ℕ}
use Rattle.std.specs.Option.{option_map_or}
use Rattle.std.specs.Prelude.{◌||◌, is_some}
use Rattle.axi_beats.specs.declared.beat.RBeat.{RBeat}
use Rattle.axi_link.specs.LinkView.{LinkView}
use Rattle.axi_link.specs.LinkWords.{head_of}
use Rattle.demux_node.specs.DemuxTable.{id_of_route, offers_r}
use Rattle.flight.specs.Entries.{place_of}
use Rattle.demux_node.proofs.ReadyLemmas.{all_marked_r, marks-one_more}
use Rattle.demux_node.proofs.rows.ports_r.Goals as goal

pub loop-port-preserved : goal.loop-port-preserved
loop-port-preserved c =
    let offers : ℕ → Bool = offers_r c.args.links.now c.args.shape.now c.args.reads.now in
    let port = c.loop-port.port in
    let here : c.offers_r.result ≡ offers port =
    c.offers_r.ensures ∙ ap (λ (link : LinkView). option_map_or (λ (beat : RBeat). is_some (place_of beat.id (map id_of_route c.args.reads.now))) (head_of link.r) false) c.at.ensures in
    λ other.
    c.mark_ready-ready.ensures other
    ∙ ap (λ (b : Bool). b || (c.offers_r.result && (other == port))) (c.loop-port.invariant other)
    ∙ marks-one_more offers other port c.offers_r.result here

pub returns : goal.returns
returns c = λ port.
    c.loop-port.invariant port ∙ all_marked_r c.args.links.now c.args.shape.now c.args.reads.now c.loop-port.port port (omega (arith, c.loop-port-test.false, c.ports-port-end.ensures.count))
