use Rattle.std.proofs.Common.{sym}
use Rattle.std.proofs.lemmas.List.{take_rest}
use Rattle.plain_text.proofs.FieldLaws.{field_before_at, field_before_missing}
use Rattle.plain_text.proofs.fields.field_before.Goals as goal

pub returns-in-Some : goal.returns-in-Some
returns-in-Some c = rw take_rest (sym (field_before_at c.args.end c.args.text.now c.in-Some.place (sym c.in-Some.ensures)))

pub returns-in-None : goal.returns-in-None
returns-in-None c = sym (field_before_missing c.args.end c.args.text.now (sym c.in-None.ensures))
