use Rattle.std.proofs.Common.{◌≡◌, ◌-◌, ◌∙◌, ap, arith, sym, ℕ}
use Rattle.std.specs.List.{range_with_len}
use Rattle.std.specs.Prelude.{find}
use Rattle.remap_node.proofs.CodeLemmas.{number-here, number-none, number-past}
use Rattle.remap_node.specs.RemapTable.{is_free}
use Rattle.remap_node.proofs.rows.least_free.Goals as goal

pub loop-id-init : goal.loop-id-init
loop-id-init c =
    let whole : c.args.ids ≡ c.args.ids - 0 = omega arith in
    ap (λ (n : ℕ). find (is_free c.args.pairs.now) (range_with_len 0 n)) whole

pub returns-then-is_free : goal.returns-then-is_free
returns-then-is_free c =
    sym (c.loop-id.invariant ∙ number-here (is_free c.args.pairs.now) c.args.ids c.loop-id.id (omega (arith, c.loop-id-test.true)) (sym c.is_free.ensures ∙ c.if-is_free.true))

pub loop-id-preserved : goal.loop-id-preserved
loop-id-preserved c =
    c.loop-id.invariant ∙ number-past (is_free c.args.pairs.now) c.args.ids c.loop-id.id (omega (arith, c.loop-id-test.true)) (sym c.is_free.ensures ∙ c.if-is_free.false)

pub returns : goal.returns
returns c = sym (c.loop-id.invariant ∙ number-none (is_free c.args.pairs.now) c.args.ids c.loop-id.id (omega (arith, c.loop-id-test.false)))
