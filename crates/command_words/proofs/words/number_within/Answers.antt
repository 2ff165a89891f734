use Rattle.std.proofs.Common.{rules, ◌≡◌, ◌≤◌, Some, ap, refl, inl, inr, true, false}
use Rattle.std.proofs.lemmas.Bool.{cases_Bool}
use Rattle.clap.proofs.ValueTestLemmas.{Accepts-accepts, accepts-Accepts}
use Rattle.clap.specs.ValueTests.{is_unsigned_in}
use Rattle.clap.specs.declared.builder.value_parser.ValueParser.TheVariants.{Unsigned}
use Rattle.command_words.proofs.words.number_within.Goals as goal

pub returns-in-Ok-clause-number : goal.returns-in-Ok-clause-number
returns-in-Ok-clause-number c =
    let number = c.in-Ok.ensures.value.0 in
    let low : c.args.low ≤ c.in-Ok.number = search rules in
    let high : c.in-Ok.number ≤ c.args.high = search rules in
    let taken : is_unsigned_in c.args.low c.args.high c.args.text.now ≡ true =
    Accepts-accepts false (Unsigned c.args.low c.args.high) c.args.text.now (number.0.0, number.0.1, rw (← number.1) low, rw (← number.1) high) in
    rw (taken) (ap Some number.1)

pub returns-in_default-3-clause-number : goal.returns-in_default-3-clause-number
returns-in_default-3-clause-number c =
    elim (cases_Bool (is_unsigned_in c.args.low c.args.high c.args.text.now)) [
      | inl within ↦
          let is = accepts-Accepts false (Unsigned c.args.low c.args.high) c.args.text.now within in
          absurd (c.in_default.ensures.value.0 (is.0, is.1))
      | inr without ↦ rw (without) refl
    ]
