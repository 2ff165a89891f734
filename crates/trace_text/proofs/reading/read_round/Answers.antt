-- What was taken over is what the definition of reading gives, which is sound.
use Rattle.std.proofs.Common.{◌≡◌, Some, None, rules}
use Rattle.std.specs.Prelude.{if◌then◌else◌}
use Rattle.trace_text.specs.Reading.{trace_round_of}
use Rattle.trace_text.proofs.LineForms.{line_into}
use Rattle.trace_text.proofs.reading.read_round.Goals as goal

pub returns-clause-found : goal.returns-clause-found
returns-clause-found c = λ is.
    let read : trace_round_of c.args.line.now ≡ (if c.is_some.result then Some c.read_words.new.r else None) = search rules in
    line_into c.args.line.now c.read_words.new.r c.is_some.result read is
