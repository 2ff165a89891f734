-- What a line of traffic says. (Arm IHI 0022, burst length, burst size and burst type.)
use Rattle.std.specs.Prelude.{ℕ, ◌-◌, ◌^◌, ◌%◌, ◌==◌, nat_eq, Bool, true, false, List, [], ◌∷◌, length, Option, None, Some, if◌then◌else◌, codes}
use Rattle.std.specs.List.{starts_with}
use Rattle.std.specs.Str.{bytes_eq}
use Rattle.axi_beats.specs.declared.beat.Burst.{Burst}
use Rattle.axi_beats.specs.declared.beat.Burst.TheVariants.{Fixed, Incr, Wrap}
use Rattle.manager_node.specs.declared.script.WriteByte.{WriteByte}
use Rattle.plain_text.specs.Exact.{◌>>=◌}
use Rattle.plain_text.specs.Numbers.{read_decimal, read_hexadecimal}
use Rattle.plain_text.specs.Words.{words, next_word, has_no_word}
use Rattle.plan_traffic.specs.Data.{are_data_words, data_bytes}

-- ---- the words one by one

-- the bytes per beat, as a power of two
unfoldable pub size_named : List ℕ → Option ℕ
size_named word =
    if bytes_eq word (codes "1") then Some 0
    else if bytes_eq word (codes "2") then Some 1
    else if bytes_eq word (codes "4") then Some 2
    else if bytes_eq word (codes "8") then Some 3
    else if bytes_eq word (codes "16") then Some 4
    else if bytes_eq word (codes "32") then Some 5
    else if bytes_eq word (codes "64") then Some 6
    else if bytes_eq word (codes "128") then Some 7
    else None

-- the kind of burst
unfoldable pub burst_named : List ℕ → Option Burst
burst_named word =
    if bytes_eq word (codes "fixed") then Some Fixed
    else if bytes_eq word (codes "incr") then Some Incr
    else if bytes_eq word (codes "wrap") then Some Wrap
    else None

-- a number of beats, which is at least one
unfoldable pub beats_named : List ℕ → Option ℕ
beats_named word = do
  count ← read_decimal word (2 ^ 32)
  if count == 0 then None else Some count

-- ---- the parts of a line

-- who asks, under which ID, and how the burst starts
pub record Start : Type 0 where
  pub manager : List ℕ
  pub id : ℕ
  pub addr : ℕ
  pub size : ℕ
  pub burst : Burst

-- the manager, the ID, the address, the bytes per beat and the kind of burst, and the words after these five
unfoldable pub start_of : List (List ℕ) → Option (Start × List (List ℕ))
start_of line = do
  manager ← next_word line
  id_word ← next_word manager.1
  id ← read_decimal id_word.0 (2 ^ 32)
  addr_word ← next_word id_word.1
  addr ← read_hexadecimal addr_word.0 (2 ^ 63)
  size_word ← next_word addr_word.1
  size ← size_named size_word.0
  burst_word ← next_word size_word.1
  burst ← burst_named burst_word.0
  Some (record { manager = manager.0; id = id; addr = addr; size = size; burst = burst }, burst_word.1)

-- the valid lanes of the first beat: from the address to the end of its aligned block
abbrev pub first_pairs : Start → ℕ
first_pairs start = 2 ^ start.size - start.addr % 2 ^ start.size

-- the valid lanes of each other beat; each beat of a FIXED burst has those of the first one
abbrev pub other_pairs_of : Burst → Start → ℕ
other_pairs_of Fixed start = first_pairs start
other_pairs_of Incr start = 2 ^ start.size
other_pairs_of Wrap start = 2 ^ start.size

abbrev pub other_pairs : Start → ℕ
other_pairs start = other_pairs_of start.burst start

-- a burst that is asked for; a write has its bytes, one for each valid lane, in the order of the burst
pub record Access : Type 0 where
  pub start : Start
  pub write : Bool
  pub beats : ℕ
  pub bytes : List WriteByte

-- what a line says: nothing; that a manager waits; or that it issues a burst
pub data Line : Type 0 where
  Passed : Line
  Waits : List ℕ → Line
  Asks : Access → Line

-- ---- the forms of a line, given as its words

-- a write that starts so, with these data words, one for each beat
abbrev pub write_with : Start → List (List ℕ) → Option Line
write_with start lanes =
    if are_data_words (first_pairs start) (other_pairs start) lanes
    then Some (Asks (record { start = start; write = true; beats = length lanes; bytes = data_bytes lanes }))
    else None

-- the words after `write`
unfoldable pub write_said : List (List ℕ) → Option Line
write_said line = do
  start ← start_of line
  write_with start.0 start.1

-- what was said, where no word is left over
abbrev pub at_end : Line → List (List ℕ) → Option Line
at_end said line = if has_no_word line then Some said else None

-- the words after `read`: the number of beats
unfoldable pub read_said : List (List ℕ) → Option Line
read_said line = do
  start ← start_of line
  count_word ← next_word start.1
  beats ← beats_named count_word.0
  at_end (Asks (record { start = start.0; write = false; beats = beats; bytes = [] })) count_word.1

-- the words after `wait`: the manager
unfoldable pub wait_said : List (List ℕ) → Option Line
wait_said line = do
  manager ← next_word line
  at_end (Waits manager.0) manager.1

-- what the first word says of the words after it
abbrev pub form_by : List ℕ → List (List ℕ) → Option Line
form_by verb line =
    if bytes_eq verb (codes "write") then write_said line
    else if bytes_eq verb (codes "read") then read_said line
    else if bytes_eq verb (codes "wait") then wait_said line
    else None

unfoldable pub form_said : List (List ℕ) → Option Line
form_said line = do
  verb ← next_word line
  form_by verb.0 verb.1

-- a line without a word, and a line whose first word begins with `#`, are passed over
abbrev pub is_passed : List (List ℕ) → Bool
is_passed [] = true
is_passed (word ∷ more) = starts_with nat_eq word (codes "#")

-- what the words of a line say, where they are of one of the forms
unfoldable pub said_by : List (List ℕ) → Option Line
said_by line = if is_passed line then Some Passed else form_said line

-- what a line says
abbrev pub line_said : List ℕ → Option Line
line_said line = said_by (words line)
