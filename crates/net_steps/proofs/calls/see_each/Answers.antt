use Rattle.std.proofs.Common.{◌≡◌, ◌<◌, ◌+◌, Bool, List, ap, arith, length, refl, subst, sym, ◌∙◌}
use Rattle.net_model.specs.Network.{lower_node, net_link, upper_node}
use Rattle.net_steps.proofs.CallLemmas.{seen-long, seen-more}
use Rattle.net_steps.proofs.calls.see_each.Goals as goal
use Rattle.net_steps.specs.Calls.{AreSeen, offers_at}

pub loop-number-preserved : goal.loop-number-preserved
loop-number-preserved c =
    let links = c.args.links.now in
    let number = c.loop-number.number in
    let within : number < length c.args.offers.now = c.loop-number-test.true in
    let ends = c.requires.ends number within in
    let long : length c.loop-number.seen ≡ length c.args.seen.now = c.loop-number.invariant.0 ∙ c.forget.ensures in
    let upper : upper_node links number < length c.loop-number.seen = omega (arith, ends.upper, long) in
    let lower : lower_node links number < length c.loop-number.seen = omega (arith, ends.lower, long) in (
      ap length c.see.ensures ∙ seen-long (net_link links number) (offers_at c.args.offers.now number) c.loop-number.seen ∙ c.loop-number.invariant.0,
      subst (λ (seen : List Bool). AreSeen links c.args.offers.now (number + 1) seen) (sym c.see.ensures)
          (seen-more links c.args.offers.now number c.loop-number.seen (net_link links number) (offers_at c.args.offers.now number) refl refl upper lower c.loop-number.invariant.1),
    )
