use Rattle.std.proofs.Common.{◌≡◌, ℕ, arith, inl, inr, refl, subst}
use Rattle.std.specs.Prelude.{Contains, IsTrue}
use Rattle.std.proofs.lemmas.Bool.{cases_lt}
use Rattle.burst_address.specs.Lanes.{word_address}
use Rattle.memory_node.specs.MemoryArea.{is_inside}
use Rattle.memory_node.specs.Store.{line_number}
use Rattle.memory_node.proofs.offers.keeps_lines.Goals as goal

pub loop-beat-preserved : goal.loop-beat-preserved
loop-beat-preserved c = λ beat lt.
    let word : ℕ → ℕ = λ n. word_address c.args.request.now n c.args.area.now.bus in
    let Kept : ℕ → Type 0 = λ n. IsTrue (is_inside c.args.area.now (word n)) → Contains c.args.store.now.lines (line_number (word n)) in
    elim (cases_lt beat c.loop-beat.beat) [
      | inl less ↦ c.loop-beat.invariant beat less
      | inr more ↦ let same : c.loop-beat.beat ≡ beat = omega (arith, lt, more) in subst Kept same (c.if-not-keeps_line.ensures refl)
    ]
