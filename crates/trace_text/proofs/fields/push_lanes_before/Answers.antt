use Rattle.std.proofs.Common.{ℕ, List, ◌<◌, ◌∷◌, ◌++◌, [], length, take, ap, ◌∙◌, arith}
use Rattle.plain_text.specs.Printing.{pairs}
use Rattle.trace_text.proofs.WritingLaws.{pairs-none, pairs-more}
use Rattle.trace_text.proofs.fields.push_lanes_before.Goals as goal

pub loop-lane-init : goal.loop-lane-init
loop-lane-init c = (pairs-none c.args.line.now, omega arith)

pub loop-lane-preserved : goal.loop-lane-preserved
loop-lane-preserved c =
    let inside : c.loop-lane.lane < length c.args.lanes.now = omega (arith, c.get.ensures.lanes) in
    (c.push_pairs.ensures.text ∙ ap (λ (t : List ℕ). t ++ pairs (c.get.result ∷ [])) c.loop-lane.invariant.0 ∙ ap (λ (b : ℕ). (c.args.line.now ++ pairs (take c.loop-lane.lane c.args.lanes.now)) ++ pairs (b ∷ [])) c.get.ensures.byte ∙ pairs-more c.args.line.now c.args.lanes.now c.loop-lane.lane inside, omega (arith, c.push_pairs.ensures.room, c.loop-lane.invariant.1))
