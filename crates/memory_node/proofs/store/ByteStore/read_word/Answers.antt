use Rattle.std.proofs.Common.{◌≡◌, ◌+◌, ◌∙◌, ℕ, sym, ap, arith}
use Rattle.std.specs.Prelude.{slice_set}
use Rattle.memory_node.specs.Store.{byte_at, lanes_between}
use Rattle.memory_node.proofs.BetweenLemmas.{between-more, between-none}
use Rattle.memory_node.proofs.store.ByteStore.read_word.Goals as goal

pub loop-lane-init : goal.loop-lane-init
loop-lane-init c = c.zero.ensures ∙ sym (between-none c.args.self.now c.args.word c.args.low)

pub loop-lane-preserved : goal.loop-lane-preserved
loop-lane-preserved c =
    let n : ℕ = c.loop-lane.lane in
    let byte : c.byte_in.result ≡ byte_at c.args.self.now (c.args.word + c.loop-lane.lane) =
    c.byte_in.ensures ∙ ap (λ lane. byte_at c.args.self.now (c.args.word + lane)) c.from.ensures in
    c.set.ensures.byte
    ∙ ap (λ lanes. slice_set lanes n c.byte_in.result) c.loop-lane.invariant
    ∙ between-more c.args.self.now c.args.word c.args.low n c.byte_in.result c.loop-lane.auto.lane (omega (arith, c.requires.line, c.loop-lane-test.true)) byte

pub returns : goal.returns
returns c =
    let end : c.loop-lane.lane ≡ c.args.high + 1 = omega (arith, c.loop-lane-test.false, c.loop-lane.auto.lane-end) in
    c.loop-lane.invariant ∙ ap (lanes_between c.args.self.now c.args.word c.args.low) end
