use Rattle.std.proofs.Common.{rules}
use Rattle.plain_text.proofs.HexadecimalSteps.{writing_none, writing_more, writing_last}
use Rattle.plain_text.proofs.line_buffer.write_hexadecimal.Goals as goal

pub loop-rest-init : goal.loop-rest-init
loop-rest-init c = writing_none c.args.number c.args.digits.now (search rules) c.ranges.number.fits

pub returns-then-rest-eq0-clause-text : goal.returns-then-rest-eq0-clause-text
returns-then-rest-eq0-clause-text c = writing_last c.args.number c.loop-rest.rest c.loop-rest.start c.loop-rest.digits c.glyph.result c.loop-rest.invariant c.glyph.ensures c.if-rest-eq0.true

pub loop-rest-preserved : goal.loop-rest-preserved
loop-rest-preserved c = writing_more c.args.number c.loop-rest.rest c.loop-rest.start c.loop-rest.digits c.glyph.result c.loop-rest.invariant c.glyph.ensures c.if-rest-eq0.false
