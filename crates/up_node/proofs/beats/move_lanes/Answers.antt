use Rattle.std.proofs.Common.{◌≡◌, ◌+◌, ◌-◌, ◌∙◌, ℕ, sym, ap, arith}
use Rattle.std.specs.Prelude.{slice_set}
use Rattle.up_node.specs.UpBeats.{moved_lanes}
use Rattle.up_node.proofs.LaneLemmas.{moved-more, moved-none}
use Rattle.up_node.proofs.beats.move_lanes.Goals as goal

pub loop-lane-init : goal.loop-lane-init
loop-lane-init c =
    let none : c.args.target - c.args.target ≡ 0 = omega arith in
    c.zero.ensures ∙ sym (ap (λ n. moved_lanes n c.args.source c.args.target c.args.from.now) none ∙ moved-none c.args.source c.args.target c.args.from.now)

pub loop-lane-preserved : goal.loop-lane-preserved
loop-lane-preserved c =
    let lane : ℕ = c.loop-lane.lane in
    let count : ℕ = lane - c.args.target in
    let more : count + 1 ≡ (lane + 1) - c.args.target = omega (arith, c.loop-lane.auto.lane) in
    c.set.ensures.byte
    ∙ ap (λ lanes. slice_set lanes lane c.get.result) c.loop-lane.invariant
    ∙ moved-more c.args.source c.args.target c.args.from.now count lane c.get.result (omega (arith, c.loop-lane.auto.lane)) (omega (arith, c.requires.target, c.loop-lane-test.true)) c.get.ensures.byte
    ∙ ap (λ n. moved_lanes n c.args.source c.args.target c.args.from.now) more

pub returns : goal.returns
returns c =
    let end : c.loop-lane.lane - c.args.target ≡ c.args.count = omega (arith, c.loop-lane-test.false, c.loop-lane.auto.lane-end) in
    c.loop-lane.invariant ∙ ap (λ n. moved_lanes n c.args.source c.args.target c.args.from.now) end
