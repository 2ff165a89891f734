-- The places of the cut stand before and behind ASCII bytes.
use Rattle.std.proofs.Common.{sym}
use Rattle.plain_text.proofs.CutLaws.{cut_place}
use Rattle.plain_text.proofs.separator.cut_text.Goals as goal

pub range-requires-clause-end_boundary : goal.range-requires-clause-end_boundary
range-requires-clause-end_boundary c =
    let at = cut_place c.args.text.now c.in_ok-before.before.now c.in_ok-before.after.now (sym (rw c.as_bytes.ensures.value at c.in_ok-before.ensures)) in
    at.before_boundary

pub overflow_sub-text : goal.overflow_sub-text
overflow_sub-text c =
    let at = cut_place c.args.text.now c.in_ok-before.before.now c.in_ok-before.after.now (sym (rw c.as_bytes.ensures.value at c.in_ok-before.ensures)) in
    at.after_within

pub range_from-requires : goal.range_from-requires
range_from-requires c =
    let at = cut_place c.args.text.now c.in_ok-before.before.now c.in_ok-before.after.now (sym (rw c.as_bytes.ensures.value at c.in_ok-before.ensures)) in
    λ some. at.after_boundary c.utf8.text

pub returns : goal.returns
returns c =
    let at = cut_place c.args.text.now c.in_ok-before.before.now c.in_ok-before.after.now (sym (rw c.as_bytes.ensures.value at c.in_ok-before.ensures)) in
    rw (c.range.ensures.value, c.range_from.ensures.value, at.before_is, at.after_is) (rw c.as_bytes.ensures.value at c.in_ok-before.ensures)
