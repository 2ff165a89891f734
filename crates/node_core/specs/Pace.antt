-- How long a row of an endpoint's table waits.
use Rattle.std.specs.Prelude.{ℕ, zero, suc, ◌≡◌, ◌<◌, ◌≤◌, ◌==◌, ◌&&◌, List, Bool, All, false, length, nat_lt, not, slice_index_or, if◌then◌else◌}

-- the delays, the place of the one that holds, and how many rounds were waited
pub record PaceState : Type 0 where
  pub delays : List ℕ
  pub place : ℕ
  pub waited : ℕ

abbrev pub new_pace : List ℕ → PaceState
new_pace delays = record { delays = delays; place = 0; waited = 0 }

-- the delay that holds
abbrev pub current_delay : PaceState → ℕ
current_delay p = slice_index_or p.delays p.place 0

-- so many rounds were waited as the delay says
abbrev pub is_over : PaceState → Bool
is_over p = not (nat_lt p.waited (current_delay p))

-- whether the row is done, where its condition is `possible`
abbrev pub is_let : Bool → PaceState → Bool
is_let possible p = possible && is_over p

-- the place behind this one; behind the last one comes the first one
abbrev pub next_place : PaceState → ℕ
next_place p = if suc p.place == length p.delays then 0 else suc p.place

-- after a round in which the condition holds: the next delay holds where the row was done, else one round more is waited
abbrev pub pace_onwards : PaceState → PaceState
pace_onwards p =
    if is_over p
    then record { delays = p.delays; place = next_place p; waited = 0 }
    else record { delays = p.delays; place = p.place; waited = suc p.waited }

-- after a round
abbrev pub pace_after : Bool → PaceState → PaceState
pace_after possible p = if possible then pace_onwards p else p

-- some delay holds, and each is short
pub record IsPace (p : PaceState) : Type 0 where
  pub place : p.place < length p.delays
  pub most : length p.delays ≤ 64
  pub short : All (λ delay. delay < 64) p.delays

-- after so many rounds in which the condition holds
abbrev pub asked_for : ℕ → PaceState → PaceState
asked_for zero p = p
asked_for (suc i) p = pace_onwards (asked_for i p)

-- A row isn't held back in one round more than the longest delay, if its condition holds in all of them.
abbrev pub PacesLet : Type 0
PacesLet = (p : PaceState) (most : ℕ) → current_delay p ≤ most → ¬ ((i : ℕ) → i < suc most → is_over (asked_for i p) ≡ false)
