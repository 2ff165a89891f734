use Rattle.std.proofs.Common.{◌++◌, List, ℕ, ap, sym, ◌∙◌}
use Rattle.std.proofs.lemmas.Fmt.{decimal_digit}
use Rattle.plain_text.proofs.line_buffer.LineBuffer.push_decimal.Goals as goal

pub returns-then-number-lt10-clause-text : goal.returns-then-number-lt10-clause-text
returns-then-number-lt10-clause-text c =
    c.push.ensures.text ∙ ap (λ (digits : List ℕ). c.args.self.now ++ digits) (sym (decimal_digit c.args.number c.if-number-lt10.true))
