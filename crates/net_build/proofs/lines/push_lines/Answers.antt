use Rattle.std.proofs.Common.{◌++◌, ◌∙◌, ◌/◌, ℕ, List, [], ◌∷◌, ap, ap₂, append_assoc, arith, map, sym}
use Rattle.std.specs.List.{range_with_len}
use Rattle.std.proofs.lemmas.List.FromFn.{map-range_with_len_more}
use Rattle.burst_address.specs.Formulas.{beat_at}
use Rattle.memory_node.specs.Store.{line_number}
use Rattle.net_build.proofs.lines.push_lines.Goals as goal

pub loop-beat-preserved : goal.loop-beat-preserved
loop-beat-preserved c =
    let of : ℕ → ℕ = λ beat. line_number (beat_at c.args.request.now beat) in
    c.in_ok-push.ensures.items
    ∙ ap₂ (λ (xs : List ℕ) (address : ℕ). xs ++ address / 128 ∷ []) c.loop-beat.invariant c.beat_address.ensures.address
    ∙ append_assoc c.args.lines.now.items (map of (range_with_len 0 c.loop-beat.beat)) (of c.loop-beat.beat ∷ [])
    ∙ ap (λ (xs : List ℕ). c.args.lines.now.items ++ xs) (sym (map-range_with_len_more of 0 c.loop-beat.beat c.loop-beat.beat (omega arith)))
