use Rattle.std.proofs.Common.{◌+◌, ◌∙◌, sym, ap, ℕ, List}
use Rattle.std.specs.Prelude.{slice_index, slice_set}
use Rattle.memory_node.proofs.store.write_lanes.Goals.{then-is_strobed, else-is_strobed}
use Rattle.plain_lists.proofs.RangeLemmas.{fold-range-more_passing, fold-range-more_failing}
use Rattle.burst_address.specs.Lanes.{is_strobed}
use Rattle.memory_node.proofs.store.write_lanes.Goals as goal

pub loop-lane-preserved : goal.loop-lane-preserved
loop-lane-preserved c =
    let step : List ℕ → ℕ → List ℕ = λ written lane. slice_set written (c.args.first + lane) (slice_index c.args.beat.now.lanes lane) in
    elim c.if-is_strobed.branch [
      | then-is_strobed w ↦
          w.bytes-is
          ∙ ap (λ k. slice_set c.loop-lane.bytes (c.args.first + k) w.get.result) w.from.ensures
          ∙ ap (slice_set c.loop-lane.bytes (c.args.first + c.loop-lane.lane)) w.get.ensures.byte
          ∙ ap (λ bytes. step bytes c.loop-lane.lane) c.loop-lane.invariant
          ∙ sym (fold-range-more_passing step c.args.bytes.now (is_strobed c.args.beat.now) c.loop-lane.lane (sym c.is_strobed.ensures ∙ w.if-is_strobed.true))
      | else-is_strobed w ↦
          w.bytes-is ∙ c.loop-lane.invariant
          ∙ sym (fold-range-more_failing step c.args.bytes.now (is_strobed c.args.beat.now) c.loop-lane.lane (sym c.is_strobed.ensures ∙ w.if-is_strobed.false))
    ]
