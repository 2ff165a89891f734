use Rattle.std.proofs.Common.{◌∙◌, ◌≤◌, sym, ap, length, take, add-one, arith}
use Rattle.std.proofs.lemmas.List.{take_all}
use Rattle.std.specs.Prelude.{is_some}
use Rattle.subordinate.specs.Places.{lacking_place}
use Rattle.subordinate.proofs.EntryLemmas.{lacking_place-at, lacking_place-none_more, some-lacking}
use Rattle.subordinate.proofs.rows.lacking.Goals as goal

pub returns-then-is_lacking-clause-place : goal.returns-then-is_lacking-clause-place
returns-then-is_lacking-clause-place c =
    sym (lacking_place-at c.args.entries.now c.loop-place.place c.get.result.now c.get.ensures (sym c.is_lacking.ensures ∙ c.if-is_lacking.true) c.loop-place.invariant)

pub loop-place-preserved : goal.loop-place-preserved
loop-place-preserved c =
    ap (λ n. lacking_place (take n c.args.entries.now)) (add-one c.loop-place.place)
    ∙ lacking_place-none_more c.args.entries.now c.loop-place.place c.get.result.now c.get.ensures (sym c.is_lacking.ensures ∙ c.if-is_lacking.false) c.loop-place.invariant

pub returns-then-is_lacking-clause-some : goal.returns-then-is_lacking-clause-some
returns-then-is_lacking-clause-some c =
    ap is_some (sym (lacking_place-at c.args.entries.now c.loop-place.place c.get.result.now c.get.ensures (sym c.is_lacking.ensures ∙ c.if-is_lacking.true) c.loop-place.invariant))
    ∙ some-lacking c.args.entries.now

pub returns-clause-some : goal.returns-clause-some
returns-clause-some c =
    let all : length c.args.entries.now ≤ c.loop-place.place = omega (arith, c.loop-place-test.false, c.len-place-end.ensures.value) in
    ap is_some (sym c.loop-place.invariant ∙ ap lacking_place (take_all c.loop-place.place c.args.entries.now all))
    ∙ some-lacking c.args.entries.now
