use Rattle.std.proofs.Common.{◌≡◌, ◌∙◌, ℕ, ap₂, arith, rules, sym}
use Rattle.std.specs.Prelude.{max}
use Rattle.elaborate.specs.Plan.{plan_link_at}
use Rattle.net_build.proofs.WidestLemmas.{widest-more}
use Rattle.net_build.proofs.parts.widest.Goals as goal

pub loop-link-preserved : goal.loop-link-preserved
loop-link-preserved c =
    let most : c.max-most.result ≡ max c.loop-link.most c.id_width.result = search rules in
    most ∙ ap₂ (λ (a b : ℕ). max a b) c.loop-link.invariant c.id_width.ensures
    ∙ sym (widest-more (λ link. (plan_link_at c.args.plan.now link).link) c.args.links.now c.loop-link.link-index (omega (arith, c.loop-link-test.true)))
