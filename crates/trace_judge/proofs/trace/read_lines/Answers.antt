-- The lines come one by one.
use Rattle.std.proofs.Common.{◌≡◌, ◌<◌, ◌≤◌, ◌+◌, ◌∙◌, ◌∷◌, [], ◌++◌, ℕ, List, length, sym, ap, arith, true, false}
use Rattle.std.specs.Prelude.{if◌then◌else◌, Result, Err}
use Rattle.std.proofs.lemmas.Iterator.Splits.{YieldsList-from_lines}
use Rattle.std.proofs.lemmas.Iterator.Consumers.{YieldsList-turn, YieldsList-end}
use Rattle.std.proofs.lemmas.List.{length_push}
use Rattle.std.specs.Str.Iter.{lines_rest}
use Rattle.std.specs.Str.Lines.{lines}
use Rattle.plain_text.specs.Separator.{is_separator}
use Rattle.axi_history.specs.declared.port.PortRound.{PortRound}
use Rattle.trace_text.specs.Reading.{trace_round_of}
use Rattle.trace_judge.specs.Lines.{taken_after}
use Rattle.trace_judge.proofs.ReadLemmas.{shown_separator, shown_refused, shown_taken, shown_end, shown_from, was_taken, was_refused, few_lines}
use Rattle.trace_judge.proofs.trace.read_lines.Goals as goal

pub returns-then-is_separator-clause-read : goal.returns-then-is_separator-clause-read
returns-then-is_separator-clause-read c =
    let t = YieldsList-turn (YieldsList-from_lines c.args.text.now (ap lines_rest c.into_iter-line-iterator.ensures.into_iter_gives ∙ c.lines-line-items.ensures.rest)) c.loop-line.yielded c.loop-line.line-iterator c.loop-line.yielded_by c.next.result c.next.new.self c.in-Some.line c.in-Some.is c.next.ensures.steps in
    let s = c.loop-line.invariant.shown in
    let is : is_separator c.in-Some.line.now ≡ true = ap is_separator (sym c.as_bytes.ensures.value) ∙ sym c.if-is_separator.ensures in
    (s.0, sym s.2 ∙ shown_separator s.0 (lines c.args.text.now) (length c.loop-line.yielded) c.in-Some.line.now t is, s.1)

pub returns-then-not-branch-clause-read : goal.returns-then-not-branch-clause-read
returns-then-not-branch-clause-read c =
    let t = YieldsList-turn (YieldsList-from_lines c.args.text.now (ap lines_rest c.into_iter-line-iterator.ensures.into_iter_gives ∙ c.lines-line-items.ensures.rest)) c.loop-line.yielded c.loop-line.line-iterator c.loop-line.yielded_by c.next.result c.next.new.self c.in-Some.line c.in-Some.is c.next.ensures.steps in
    let s = c.loop-line.invariant.shown in
    let is : is_separator c.in-Some.line.now ≡ false = ap is_separator (sym c.as_bytes.ensures.value) ∙ sym c.if-is_separator.ensures in
    let refused = was_refused c.in_ok-take_line.field-0 c.take_line.new.self s.0 (taken_after s.0 (trace_round_of c.in-Some.line.now)) c.if-not-branch.true (c.in_ok-take_line.ensures.taken s.0 s.1) in
    let same : c.take_line.new.self.lines ≡ c.loop-line.table.lines + 0 = c.in_ok-take_line.ensures.lines ∙ ap (λ b. c.loop-line.table.lines + (if b then 1 else 0)) c.if-not-branch.true in
    let number : length s.0 + 1 ≡ c.take_line.new.self.lines + 1 = omega (arith, s.1.count) in
    sym s.2 ∙ shown_refused s.0 (lines c.args.text.now) (length c.loop-line.yielded) c.in-Some.line.now t is refused ∙ ap (λ (n : ℕ). let r : Result (List PortRound) ℕ = Err n in r) number

pub loop-line-preserved : goal.loop-line-preserved
loop-line-preserved c =
    let t = YieldsList-turn (YieldsList-from_lines c.args.text.now (ap lines_rest c.into_iter-line-iterator.ensures.into_iter_gives ∙ c.lines-line-items.ensures.rest)) c.loop-line.yielded c.loop-line.line-iterator c.loop-line.yielded_by c.next.result c.next.new.self c.in-Some.line c.in-Some.is c.next.ensures.steps in
    let s = c.loop-line.invariant.shown in
    let is : is_separator c.in-Some.line.now ≡ false = ap is_separator (sym c.as_bytes.ensures.value) ∙ sym c.if-is_separator.ensures in
    let took = was_taken c.in_ok-take_line.field-0 c.take_line.new.self s.0 (taken_after s.0 (trace_round_of c.in-Some.line.now)) c.if-not-branch.false (c.in_ok-take_line.ensures.taken s.0 s.1) in
    let more : c.take_line.new.self.lines ≡ c.loop-line.table.lines + 1 = c.in_ok-take_line.ensures.lines ∙ ap (λ b. c.loop-line.table.lines + (if b then 1 else 0)) c.if-not-branch.false in
    let longer : length (c.loop-line.yielded ++ c.in-Some.line ∷ []) ≡ length c.loop-line.yielded + 1 = length_push c.loop-line.yielded c.in-Some.line in
    let few : c.loop-line.table.lines ≤ length c.loop-line.yielded = c.loop-line.invariant.few in
    let within : length c.loop-line.yielded < length (lines c.args.text.now) = t.0 in
    let short : length c.args.text.now ≤ 16777216 = c.requires.short in
    let all : length (lines c.args.text.now) ≤ length c.args.text.now + 1 = few_lines c.args.text.now in
    record {
      can = tt;
      finite = tt;
      few = omega arith;
      small = omega arith;
      shown = (
        s.0 ++ took.0 ∷ [],
        took.2,
        ap (shown_from (s.0 ++ took.0 ∷ []) (lines c.args.text.now)) longer
            ∙ sym (shown_taken s.0 (lines c.args.text.now) (length c.loop-line.yielded) c.in-Some.line.now took.0 t is took.1)
            ∙ s.2,
      );
    }

pub returns-clause-read : goal.returns-clause-read
returns-clause-read c =
    let t = YieldsList-end (YieldsList-from_lines c.args.text.now (ap lines_rest c.into_iter-line-iterator.ensures.into_iter_gives ∙ c.lines-line-items.ensures.rest)) c.loop-line.yielded c.loop-line.line-iterator c.loop-line.yielded_by c.next.result c.next.new.self c.in-None.is c.next.ensures.steps in
    let s = c.loop-line.invariant.shown in
    let all : length (lines c.args.text.now) ≤ length c.loop-line.yielded = omega (arith, t.1) in
    (s.0, sym s.2 ∙ shown_end s.0 (lines c.args.text.now) (length c.loop-line.yielded) all, s.1)
