-- Counts of faults, by which a failure shows that it had a cause outside.
use Rattle.std.specs.Prelude.{ℕ, ◌+◌, ◌-◌, ◌^◌, ◌≤◌, min, OnErr, Result}

-- one more, where a count stands still at the largest `u64`
abbrev pub next_count : ℕ → ℕ
next_count count = min (count + 1) (2 ^ 64 - 1)

-- a count of faults rose; one that stands at the largest `u64` is taken to rise in every call
abbrev pub Rose : ℕ → ℕ → Type 0
Rose before now = next_count before ≤ now

-- a count of faults didn't fall, and it rose where the call failed
pub record HasCause {X E : Type 0} (before now : ℕ) (result : Result X E) : Type 0 where
  pub stays : before ≤ now
  pub failed : OnErr result (Rose before now)
