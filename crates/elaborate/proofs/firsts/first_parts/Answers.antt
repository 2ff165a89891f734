use Rattle.std.proofs.Common.{◌≡◌, ◌+◌, ◌++◌, ◌∷◌, [], ℕ, List, ◌∙◌, ap₂, arith, sym}
use Rattle.std.specs.List.{range_with_len}
use Rattle.std.proofs.lemmas.List.FromFn.{map-range_with_len_more}
use Rattle.elaborate.specs.Plan.{first_part}
use Rattle.elaborate.proofs.Sizes.{first-more, first-small}
use Rattle.elaborate.proofs.firsts.first_parts.Goals as goal

pub overflow_add-first : goal.overflow_add-first
overflow_add-first c =
    omega (
      arith,
      c.loop-place.invariant.next,
      first-small c.args.wiring.now c.count-place-end.ensures.accepted c.loop-place.place (omega (arith, c.loop-place-test.true, c.count-place-end.ensures.count)),
      c.plan_nodes_at-first.ensures.few,
    )

pub loop-place-preserved : goal.loop-place-preserved
loop-place-preserved c = record {
  all =
      c.in_ok-push.ensures.items
      ∙ ap₂ (λ (xs : List ℕ) (x : ℕ). xs ++ x ∷ []) c.loop-place.invariant.all c.loop-place.invariant.next
      ∙ sym (map-range_with_len_more (first_part c.args.wiring.now) 0 c.loop-place.place c.loop-place.place (omega arith));
  next = omega (arith, c.loop-place.invariant.next, c.plan_nodes_at-first.ensures.count, first-more c.args.wiring.now c.loop-place.place);
}
