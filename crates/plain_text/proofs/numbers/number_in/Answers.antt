use Rattle.std.proofs.Common.{◌≡◌, ◌≤◌, ◌+◌, ◌*◌, None, rules, arith, sym, ◌∙◌}
use Rattle.plain_text.specs.Numbers.{number_in}
use Rattle.plain_text.proofs.NumberLaws.{number_in_empty, number_in_from_zero, number_after_exceeds}
use Rattle.plain_text.proofs.numbers.number_in.Goals as goal

pub returns-then-is_empty-clause-number : goal.returns-then-is_empty-clause-number
returns-then-is_empty-clause-number c = sym (number_in_empty c.args.digits.now c.args.base c.args.limit (search rules))

pub loop-byte-init : goal.loop-byte-init
loop-byte-init c = (number_in_from_zero c.args.digits.now c.args.base c.args.limit (search rules), search rules)

pub returns-in_err-value-clause-number : goal.returns-in_err-value-clause-number
returns-in_err-value-clause-number c =
    let digit = c.in_ok-digit.ensures.value in
    let over : c.args.limit ≤ c.loop-byte.value * c.args.base + c.in_ok-digit.digit = omega (arith, c.in_err-value.ensures) in
    let none : number_in c.args.digits.now c.args.base c.args.limit ≡ None = c.loop-byte.invariant.0 ∙ number_after_exceeds c.args.digits.now c.loop-byte.byte-index c.loop-byte.value c.args.base c.args.limit c.in_ok-digit.digit (omega arith) digit.0 digit.1 over in
    search (rules, sym none)
