use Rattle.std.proofs.Common.{◌≡◌, ◌&&◌, ◌||◌, ◌==◌, ◌∙◌, Bool, Option, arith, ap, sym, ℕ}
use Rattle.std.specs.Prelude.{is_some}
use Rattle.axi_beats.specs.declared.beat.Addr.{Addr}
use Rattle.axi_link.specs.LinkView.{LinkView}
use Rattle.axi_link.specs.LinkWords.{head_of}
use Rattle.mux_node.proofs.CodeLemmas.{all-marked, copied-some, offers-at, one-more_marked}
use Rattle.mux_node.specs.MuxTable.{addresses, input_offer}
use Rattle.mux_node.proofs.rows.offering.Goals as goal

-- src/rows.rt:42:5
pub loop-input-preserved : goal.loop-input-preserved
loop-input-preserved c =
    let queue_of = addresses c.args.direction in
    let uppers = c.args.shape.now.uppers in
    let input = c.loop-input.input in
    let offers : ℕ → Bool = λ other. is_some (input_offer queue_of c.args.links.now uppers other) in
    let here : c.is_some-offers.result ≡ offers input =
    c.is_some-offers.ensures ∙ sym (copied-some c.address.result) ∙ ap (λ (o : Option Addr). is_some o) c.address.ensures
    ∙ ap (λ (link : LinkView). is_some (head_of (queue_of link))) c.above.ensures
    ∙ sym (offers-at queue_of c.args.links.now uppers input (omega (arith, c.loop-input-test.true, c.inputs-input-end.ensures.count))) in
    λ other.
    c.mark_ready-ready.ensures other
    ∙ ap (λ (b : Bool). b || (c.is_some-offers.result && (other == input))) (c.loop-input.invariant other)
    ∙ one-more_marked offers other input c.is_some-offers.result here

-- src/rows.rt:37:1
pub returns : goal.returns
returns c = λ input.
    c.loop-input.invariant input
    ∙ all-marked (addresses c.args.direction) c.args.links.now c.args.shape.now.uppers c.loop-input.input input (omega (arith, c.loop-input-test.false, c.inputs-input-end.ensures.count))
