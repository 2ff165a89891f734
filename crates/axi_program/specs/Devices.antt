-- A source and a sink that lie in memory and fail at the calls that they were told.
use Rattle.std.specs.Prelude.{ℕ, ◌+◌, ◌-◌, ◌<◌, ◌≤◌, ◌==◌, ◌^◌, ◌||◌, ◌&&◌, Bool, nat_lt, nat_le, min, List, ◌++◌, length, take, drop, if◌then◌else◌}
use Rattle.std.specs.List.{list_any}
use Rattle.axi_program.specs.Faults.{next_count}

-- the numbers of the calls that are to fail, the first call being number 1, how many were made, and how many failed;
-- both counts stand still at the largest `u64`
pub record CallFaultsView : Type 0 where
  pub failing : List ℕ
  pub calls : ℕ
  pub faults : ℕ

-- no call was made
abbrev pub new_call_faults : List ℕ → CallFaultsView
new_call_faults failing = record { failing = failing; calls = 0; faults = 0 }

-- the next call is one that is to fail; a call past the largest `u64` has a number that nothing names
abbrev pub is_due : CallFaultsView → Bool
is_due call_faults = nat_lt call_faults.calls (2 ^ 64 - 1) && list_any (λ number. number == call_faults.calls + 1) call_faults.failing

-- one more call, and whether it failed
abbrev pub after_call : CallFaultsView → Bool → CallFaultsView
after_call call_faults fails = record {
  failing = call_faults.failing;
  calls = next_count call_faults.calls;
  faults = if fails then next_count call_faults.faults else call_faults.faults;
}

-- the bytes still to come, the most that one read moves, and the calls
pub record Input : Type 0 where
  pub left : List ℕ
  pub most : ℕ
  pub call_faults : CallFaultsView

-- how many bytes a read that doesn't fail moves into a buffer of so many bytes
abbrev pub read_count : Input → ℕ → ℕ
read_count input room = min (min input.most room) (length input.left)

-- the input after a read into a buffer of so many bytes
abbrev pub after_read : Input → ℕ → Input
after_read input room = record {
  left = if is_due input.call_faults then input.left else drop (read_count input room) input.left;
  most = input.most;
  call_faults = after_call input.call_faults (is_due input.call_faults);
}

-- one read moves at least a byte, and the next one is not past the end
pub record IsWithin (most next count : ℕ) : Type 0 where
  pub some : 0 < most
  pub within : next ≤ count

-- the bytes that were written, how many may be, the most that one write takes, and the calls
pub record Output : Type 0 where
  pub written : List ℕ
  pub capacity : ℕ
  pub most : ℕ
  pub call_faults : CallFaultsView

-- one write takes at least a byte, and memory was set aside for the whole capacity
pub record IsReserved (most written capacity reserved : ℕ) : Type 0 where
  pub some : 0 < most
  pub within : written ≤ capacity
  pub there : capacity ≤ reserved

-- the next write fails: it is one that is to fail, or no byte is free
abbrev pub write_fails : Output → Bool
write_fails output = is_due output.call_faults || nat_le output.capacity (length output.written)

-- how many bytes a write that doesn't fail takes of a piece of so many bytes
abbrev pub write_count : Output → ℕ → ℕ
write_count output offered = min (min output.most offered) (output.capacity - length output.written)

-- the output after a write of a piece
abbrev pub after_write : Output → List ℕ → Output
after_write output piece = record {
  written = if write_fails output then output.written else output.written ++ take (write_count output (length piece)) piece;
  capacity = output.capacity;
  most = output.most;
  call_faults = after_call output.call_faults (write_fails output);
}
