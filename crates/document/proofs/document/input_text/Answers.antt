use Rattle.std.proofs.lemmas.Str.{is_utf8-from_IsUtf8}
use Rattle.document.proofs.TextLemmas.{no-text}
use Rattle.document.proofs.document.input_text.Goals as goal

pub returns-in-Ok-clause-utf8 : goal.returns-in-Ok-clause-utf8
returns-in-Ok-clause-utf8 c = is_utf8-from_IsUtf8 c.args.input.now c.in-Ok.ensures.cases.1

pub returns-in-Err-clause-other : goal.returns-in-Err-clause-other
returns-in-Err-clause-other c = no-text c.args.input.now c.in-Err.ensures.cases.0
