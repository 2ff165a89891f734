use Rattle.std.proofs.Common.{◌+◌, ◌*◌, Some, rules, ap₂, sym, ◌∙◌}
use Rattle.plain_text.proofs.SpellingLaws.{pair_is, pair_without_high, pair_without_low}
use Rattle.plain_text.proofs.numbers.byte_of_pair.Goals as goal

pub returns-in_err-upper : goal.returns-in_err-upper
returns-in_err-upper c = search (rules, sym (pair_without_high c.args.high c.args.low c.in_err-upper.ensures.value))

pub returns-in_err-lower : goal.returns-in_err-lower
returns-in_err-lower c = search (rules, sym (pair_without_low c.args.high c.args.low c.in_ok-upper.ensures.value.0 c.in_err-lower.ensures.value))

pub returns : goal.returns
returns c =
    let upper = c.in_ok-upper.ensures.value in
    let lower = c.in_ok-lower.ensures.value in
    ap₂ (λ high low. Some (16 * high + low)) upper.1 lower.1 ∙ sym (pair_is c.args.high c.args.low upper.0 lower.0)
