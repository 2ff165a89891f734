use Rattle.std.proofs.Common.{◌<◌, ◌++◌, ◌∙◌, ℕ, List, [], ◌∷◌, ap₂, arith, length, refl, sym}
use Rattle.std.proofs.lemmas.List.{map_more}
use Rattle.net_build.proofs.ItemLemmas.{no_item, told}
use Rattle.net_build.proofs.targets.targets_of.Goals as goal
use Rattle.plan_traffic.specs.Due.{target_number}

pub loop-place-preserved : goal.loop-place-preserved
loop-place-preserved c =
    let less : c.loop-place.place < length c.args.traffic.now = omega (arith, c.loop-place-test.true, c.count-place-end.ensures.count) in
    c.in_ok-push.ensures.items
    ∙ ap₂ (λ (xs : List ℕ) (x : ℕ). xs ++ x ∷ []) c.loop-place.invariant
    (sym (told (target_number c.args.plan.now) c.args.traffic.now c.loop-place.place c.loop-place.place c.target_at.result less refl c.target_at.ensures))
    ∙ sym (map_more (target_number c.args.plan.now) c.args.traffic.now c.loop-place.place no_item less)
