-- What addresses, write data and answers show to the rules of order (Arm IHI 0022, ordering model).
use Rattle.std.specs.Prelude.{◌≡◌, ℕ, ◌-◌, zero, suc, ◌≤◌, ◌++◌, ◌∷◌, [], List, Bool, true, false, length, map, take, filter, flat_map, ◌==◌}
use Rattle.axi_beats.specs.declared.beat.Addr.{Addr}
use Rattle.axi_beats.specs.declared.beat.WBeat.{WBeat}
use Rattle.axi_beats.specs.declared.beat.BBeat.{BBeat}
use Rattle.axi_beats.specs.declared.beat.RBeat.{RBeat}
use Rattle.axi_trail.specs.Trail.{Beats}
use Rattle.axi_trail.specs.Waiting.{Waiting, beats_by, held, pending}
use Rattle.plain_lists.specs.Keys.{of_key}
use Rattle.plain_lists.specs.Prefixes.{IsPrefix}

-- the mark of a beat of a burst: the number of its transaction, and whether it is the last beat of its burst
pub record Mark : Type 0 where
  pub number : ℕ
  pub last : Bool

-- a request: the number of its transaction, its ID, and how many beats come after the first one
pub record Asked : Type 0 where
  pub number : ℕ
  pub id : ℕ
  pub len : ℕ

-- a beat of an answer: the number of its transaction, its ID, and whether it is the last beat of the answer
pub record Reply : Type 0 where
  pub number : ℕ
  pub id : ℕ
  pub last : Bool

-- the numbers and IDs by which beats are told apart
abbrev pub number_of_address : Addr → ℕ
number_of_address a = a.tag.txn

abbrev pub id_of_address : Addr → ℕ
id_of_address a = a.id

abbrev pub number_of_data : WBeat → ℕ
number_of_data w = w.tag.txn

abbrev pub number_of_response : BBeat → ℕ
number_of_response b = b.tag.txn

abbrev pub number_of_read_data : RBeat → ℕ
number_of_read_data r = r.tag.txn

abbrev pub number_of_mark : Mark → ℕ
number_of_mark m = m.number

abbrev pub number_of_asked : Asked → ℕ
number_of_asked a = a.number

abbrev pub id_of_asked : Asked → ℕ
id_of_asked a = a.id

abbrev pub len_of_asked : Asked → ℕ
len_of_asked a = a.len

abbrev pub number_of_reply : Reply → ℕ
number_of_reply p = p.number

abbrev pub id_of_reply : Reply → ℕ
id_of_reply p = p.id

-- a write address asks for one response, whatever the length of its burst
abbrev pub write_asked : Addr → Asked
write_asked a = record { number = a.tag.txn; id = a.id; len = 0 }

-- a read address asks for its burst, and a write address announces one
abbrev pub burst_asked : Addr → Asked
burst_asked a = record { number = a.tag.txn; id = a.id; len = a.len }

abbrev pub write_reply : BBeat → Reply
write_reply b = record { number = b.tag.txn; id = b.id; last = true }

abbrev pub read_reply : RBeat → Reply
read_reply r = record { number = r.tag.txn; id = r.id; last = r.last }

abbrev pub mark_of_data : WBeat → Mark
mark_of_data w = record { number = w.tag.txn; last = w.last }

abbrev pub mark_of_reply : Reply → Mark
mark_of_reply p = record { number = p.number; last = p.last }

-- the marks of a burst with `len` beats after the first one: its last beat alone has `last`
abbrev pub burst_marks : ℕ → ℕ → List Mark
burst_marks number zero = record { number = number; last = true } ∷ []
burst_marks number (suc len) = record { number = number; last = false } ∷ burst_marks number len

abbrev pub marks_of : Asked → List Mark
marks_of a = burst_marks a.number a.len

-- the marks of all beats that the requests ask for, in order of the requests
abbrev pub marks : List Asked → List Mark
marks asked = flat_map marks_of asked

-- how many beats these requests ask for
abbrev pub beats_due : List Asked → ℕ
beats_due asked = beats_by len_of_asked asked

-- a burst: its last beat has `last`, and no other one
abbrev pub EndsAtLast : List Mark → Type 0
EndsAtLast [] = ⊥
EndsAtLast (m ∷ rest) = (m.last ≡ true → rest ≡ []) × (m.last ≡ false → EndsAtLast rest)

-- the marks of the beats that a request still lacks
abbrev pub owed_marks : Waiting Asked → List Mark
owed_marks w = burst_marks w.request.number (w.request.len - w.done)

-- the mark of the next beat of a request
abbrev pub next_mark : Waiting Asked → Mark
next_mark w = record { number = w.request.number; last = w.done == w.request.len }

-- the next beat of the answer to a request
abbrev pub next_reply : Waiting Asked → Reply
next_reply w = record { number = w.request.number; id = w.request.id; last = w.done == w.request.len }

-- the number of a request that waits, and its ID
abbrev pub number_of_waiting : Waiting Asked → ℕ
number_of_waiting w = w.request.number

abbrev pub id_of_waiting : Waiting Asked → ℕ
id_of_waiting w = w.request.id

-- the requests that lack answers
abbrev pub held_asked : List Asked → List Reply → List (Waiting Asked)
held_asked asked replies = held len_of_asked id_of_asked asked (map id_of_reply replies)

-- the requests that lack beats, where so many have come
abbrev pub pending_asked : ℕ → List Asked → List (Waiting Asked)
pending_asked count asked = pending len_of_asked count asked

-- the first requests, as many as beats with `last` have passed: those whose data is whole, where it comes in order
module _ {X : Type 0} where
  abbrev pub completed : List X → List Mark → List X
  completed asked passed = take (length (filter (λ m. m.last) passed)) asked

-- The request after these ones is answered: the answers of an ID come in order of its requests, so this request's
-- last beat is there where the answers of its ID are as many as the requests of its ID, up to this one, ask for.
abbrev pub IsAnswered : List Asked → Asked → List Reply → Type 0
IsAnswered before a replies = beats_due (of_key id_of_asked a.id (before ++ a ∷ [])) ≤ length (of_key id_of_reply a.id replies)

-- the answers of each ID are the first of those that its requests ask for, in order of the requests
abbrev pub InOrderOfId : List Asked → List Reply → Type 0
InOrderOfId asked replies = (id : ℕ) → IsPrefix (map mark_of_reply (of_key id_of_reply id replies)) (marks (of_key id_of_asked id asked))

-- the requests and the answers of a trail, in each direction
abbrev pub writes_asked : Beats → List Asked
writes_asked trail = map write_asked trail.aw

abbrev pub write_replies : Beats → List Reply
write_replies trail = map write_reply trail.b

abbrev pub reads_asked : Beats → List Asked
reads_asked trail = map burst_asked trail.ar

abbrev pub read_replies : Beats → List Reply
read_replies trail = map read_reply trail.r

-- the marks of the write data that has passed, and those that the write addresses announce
abbrev pub data_marks : Beats → List Mark
data_marks trail = map mark_of_data trail.w

abbrev pub announced_marks : Beats → List Mark
announced_marks trail = marks (map burst_asked trail.aw)
