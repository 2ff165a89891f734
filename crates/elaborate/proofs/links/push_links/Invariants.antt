use Rattle.std.proofs.Common.{◌≡◌, ◌++◌, drop, map}
use Rattle.elaborate.specs.Plan.{PlanLink}
use Rattle.elaborate.proofs.links.push_links.Given as goal

abbrev pub invariant-loop-lower : goal.invariant-loop-lower
invariant-loop-lower l =
    l.links.items ++ map (λ lower. record { upper = l.number; lower = lower; link = l.link; depth = l.depth }) (drop l.lower-index l.lowers)
    ≡ l.fn.links.items ++ map (λ lower. record { upper = l.number; lower = lower; link = l.link; depth = l.depth }) l.lowers
