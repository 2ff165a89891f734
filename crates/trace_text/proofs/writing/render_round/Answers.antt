use Rattle.std.proofs.Common.{append_assoc, refl}
use Rattle.trace_text.specs.Form.{line_text}
use Rattle.trace_text.proofs.writing.render_round.Goals as goal

pub returns-clause-text : goal.returns-clause-text
unfolding line_text
returns-clause-text c =
    rw (c.push.ensures.text, c.push_channels.ensures.text, c.push_kind.ensures.text, c.push_place.ensures.text, c.clear.ensures) (simp append_assoc)

pub returns-clause-line : goal.returns-clause-line
returns-clause-line c = λ fits. (line_text c.args.r.now, record { ranges = fits; text_is = refl }, returns-clause-text c)
