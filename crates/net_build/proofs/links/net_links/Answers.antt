use Rattle.std.proofs.Common.{◌<◌, ◌≤◌, ◌++◌, ◌∙◌, List, [], ◌∷◌, ap, ap₂, arith, length, map, sym}
use Rattle.std.proofs.lemmas.List.{map_more, take_all}
use Rattle.elaborate.specs.Plan.{plan_links}
use Rattle.net_build.proofs.links.net_links.Goals as goal
use Rattle.net_model.specs.declared.net_link.NetLink.{NetLink}
use Rattle.net_opening.specs.PlanLinks.{net_link_of}

pub loop-number-preserved : goal.loop-number-preserved
loop-number-preserved c =
    let less : c.loop-number.number < length (plan_links c.args.plan.now) = omega (arith, c.loop-number-test.true, c.links-number-end.ensures.count) in
    c.in_ok-push.ensures.items
    ∙ ap₂ (λ (xs : List NetLink) (x : NetLink). xs ++ x ∷ []) c.loop-number.invariant c.net_link.ensures
    ∙ sym (map_more net_link_of (plan_links c.args.plan.now) c.loop-number.number _ less)

pub returns : goal.returns
returns c =
    let most : length (plan_links c.args.plan.now) ≤ c.loop-number.number = omega (arith, c.loop-number-test.false, c.links-number-end.ensures.count) in
    c.loop-number.invariant ∙ ap (map net_link_of) (take_all c.loop-number.number (plan_links c.args.plan.now) most)
