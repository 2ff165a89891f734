-- The bytes of a memory. Lines of 128 bytes that a run may write are kept; every other byte has one fill value.
use Rattle.std.specs.Prelude.{◌≡◌, ◌≢◌, ◌<◌, ◌+◌, ◌*◌, ◌/◌, ◌%◌, ◌&&◌, ℕ, List, Option, Some, None, length, map, nat_le, nat_lt, replicate}
use Rattle.std.specs.Prelude.{slice_get, slice_set, unwrap_or, option_map, option_and_then, AllPairs, Contains, if◌then◌else◌}
use Rattle.std.specs.List.{range_with_len}
use Rattle.flight.specs.Entries.{place_of}

-- the numbers of the kept lines, ascending; their bytes, 128 for each line in this order; the value of all others
pub record Store : Type 0 where
  pub lines : List ℕ
  pub bytes : List ℕ
  pub fill : ℕ

-- the lines ascend, and each has its 128 bytes
pub record IsStore (store : Store) : Type 0 where
  pub ascending : AllPairs (λ a b. a < b) store.lines
  pub whole : length store.bytes ≡ 128 * length store.lines

-- no byte of these lines is written yet
abbrev pub new_store : List ℕ → ℕ → Store
new_store lines fill = record { lines = lines; bytes = replicate (128 * length lines) fill; fill = fill }

-- the line of an address
abbrev pub line_number : ℕ → ℕ
line_number address = address / 128

-- where the byte of an address is kept, if its line is
abbrev pub byte_place : Store → ℕ → Option ℕ
byte_place store address = option_map (λ place. 128 * place + address % 128) (place_of (line_number address) store.lines)

-- the byte of an address
abbrev pub byte_at : Store → ℕ → ℕ
byte_at store address = unwrap_or (option_and_then (slice_get store.bytes) (byte_place store address)) store.fill

-- 128 lanes: those from a low one on, before an end, have the bytes of the word at an address, and all others 0
abbrev pub lanes_between : Store → ℕ → ℕ → ℕ → List ℕ
lanes_between store word low end =
    map (λ lane. if nat_le low lane && nat_lt lane end then byte_at store (word + lane) else 0) (range_with_len 0 128)

-- the store with a byte written at a place
abbrev pub with_byte_at : Store → Option ℕ → ℕ → Store
with_byte_at store None value = store
with_byte_at store (Some place) value = record { lines = store.lines; bytes = slice_set store.bytes place value; fill = store.fill }

-- the store with the byte of an address written, where its line is kept
abbrev pub with_byte : Store → ℕ → ℕ → Store
with_byte store address value = with_byte_at store (byte_place store address) value

-- what is written at an address whose line is kept is read there
abbrev pub ReadsWritten : Type 0
ReadsWritten =
    (store : Store) (address value : ℕ) → IsStore store → Contains store.lines (line_number address) →
    byte_at (with_byte store address value) address ≡ value

-- what is written at an address changes no other one
abbrev pub ReadsOthers : Type 0
ReadsOthers =
    (store : Store) (address other value : ℕ) → IsStore store → other ≢ address →
    byte_at (with_byte store address value) other ≡ byte_at store other
