-- A refusal: the code of its cause, and the place and the rule that it names.
use Rattle.std.specs.Prelude.{◌≡◌, ℕ, Some}
use Rattle.refusals.specs.Cause.{cause_code, cause_of_code}
use Rattle.refusals.specs.declared.cause.Cause.{Cause}
use Rattle.refusals.specs.declared.cause.Cause.TheVariants.{IllegalBurst}
use Rattle.refusals.specs.declared.refusal.Refusal.{Refusal}

-- the whole input is refused for this cause
abbrev pub refused_for : Cause → Refusal
refused_for cause = record { code = cause_code cause; place = 0; rule = 0 }

-- the input is refused for what stands at this place
abbrev pub refused_at : Cause → ℕ → Refusal
refused_at cause place = record { code = cause_code cause; place = place; rule = 0 }

-- the line of traffic asks for a burst that breaks this rule
abbrev pub refused_burst : ℕ → ℕ → Refusal
refused_burst line rule = record { code = cause_code IllegalBurst; place = line; rule = rule }

-- a code is that of one cause alone
abbrev pub CodesTellCauses : Type 0
CodesTellCauses = (cause : Cause) → cause_of_code (cause_code cause) ≡ Some cause
