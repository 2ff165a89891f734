use Rattle.std.proofs.Common.{◌≤◌, ◌∙◌, ap, arith, length}
use Rattle.std.proofs.lemmas.List.{take_all}
use Rattle.net_build.specs.Source.{lines_written}
use Rattle.net_build.proofs.lines.lines_touched.Goals as goal
use Rattle.net_opening.specs.Touched.{upwards}

pub push_written-requires-clause-known : goal.push_written-requires-clause-known
push_written-requires-clause-known c = omega (arith, c.loop-place-test.true, c.count-place-end.ensures.count)

pub returns : goal.returns
returns c =
    let most : length c.args.source.now.traffic.now ≤ c.loop-place.place = omega (arith, c.loop-place-test.false, c.count-place-end.ensures.count) in
    c.upwards.ensures
    ∙ ap upwards (c.loop-place.invariant ∙ ap (lines_written c.args.source.now.plan.now c.args.node) (take_all c.loop-place.place c.args.source.now.traffic.now most))
