-- Requests whose beats are requests of their own: their marks, and what is held, answered and in order of them.
use Rattle.std.specs.Prelude.{◌≡◌, ◌≤◌, ◌-◌, ◌++◌, ◌∷◌, [], ℕ, suc, List, true, filter, flat_map, map, replicate, take}
use Rattle.plain_lists.specs.Keys.{of_key}
use Rattle.axi_trail.specs.LinkContracts.{OneIdAtATime}
use Rattle.axi_trail.specs.Schedule.{Share, SameChain}
use Rattle.axi_trail.specs.Waiting.{Waiting, complete, fresh}
use Rattle.axi_trail.specs.Words.{Asked, InOrderOfId, IsAnswered, Mark, Reply, held_asked, id_of_waiting, len_of_asked, marks, next_reply}

-- a request as one of a single beat
abbrev pub single : Asked → Asked
single a = record { number = a.number; id = a.id; len = 0 }

abbrev pub single_parts : Asked → List Asked
single_parts a = replicate (suc a.len) (single a)

abbrev pub single_mark : Mark → Mark
single_mark m = record { number = m.number; last = true }

abbrev pub single_reply : Reply → Reply
single_reply p = record { number = p.number; id = p.id; last = true }

-- the parts of a request that lack their answers
abbrev pub left_parts : Waiting Asked → List (Waiting Asked)
left_parts w = replicate (suc w.request.len - w.done) (fresh (single w.request))

abbrev pub ends : List Reply → List Reply
ends beats = filter (λ (p : Reply). p.last) beats

abbrev pub MarksOfCut : Type 0
MarksOfCut = (asked : List Asked) → marks (flat_map single_parts asked) ≡ map single_mark (marks asked)

-- the parts that are held are those that the held requests lack
abbrev pub HeldOfCut : Type 0
HeldOfCut = (asked : List Asked) (replies : List Reply) → held_asked (flat_map single_parts asked) replies ≡ flat_map left_parts (held_asked asked replies)

-- where a request is answered, each of its parts is
abbrev pub AnsweredOfCut : Type 0
AnsweredOfCut =
    (before : List Asked) (a : Asked) (count : ℕ) (replies : List Reply) → count ≤ a.len → IsAnswered before a replies →
    IsAnswered (flat_map single_parts before ++ replicate count (single a)) (single a) replies

-- one answer for each whole group: answers to the requests as single ones
abbrev pub WholeGroupsInOrder : Type 0
WholeGroupsInOrder = (asked : List Asked) (beats : List Reply) → InOrderOfId asked beats → InOrderOfId (map single asked) (ends beats)

-- and what they leave held is what the beats leave held
abbrev pub WholeGroupsHeld : Type 0
WholeGroupsHeld =
    (asked : List Asked) (beats : List Reply) → InOrderOfId asked beats → held_asked (map single asked) (ends beats) ≡ map (λ (w : Waiting Asked). fresh (single w.request)) (held_asked asked beats)

-- where the first parts alone are answered, the requests that are whole among them alone are answered
abbrev pub CompletedOfCut : Type 0
CompletedOfCut =
    (asked : List Asked) (beats : List Reply) (count : ℕ) → InOrderOfId asked beats → InOrderOfId (take count (flat_map single_parts asked)) (map single_reply beats) →
    InOrderOfId (map single (complete len_of_asked count asked)) (ends beats)

-- an answer to a part is the next beat of the oldest held request of its ID
pub record IsPartOfOldest (asked : List Asked) (beats : List Reply) (p : Reply) : Type 0 where
  pub waiting : Waiting Asked
  pub others : List (Waiting Asked)
  pub oldest : of_key id_of_waiting p.id (held_asked asked beats) ≡ waiting ∷ others
  pub is : p ≡ single_reply (next_reply waiting)
  pub order : InOrderOfId asked (beats ++ next_reply waiting ∷ [])

abbrev pub PartIsOfOldest : Type 0
PartIsOfOldest =
    (asked put rest : List Asked) (beats : List Reply) (p : Reply) → flat_map single_parts asked ≡ put ++ rest → InOrderOfId asked beats →
    InOrderOfId put (map single_reply beats ++ p ∷ []) → IsPartOfOldest asked beats p

-- parts of one chain that are outstanding have one ID, where it is so of the requests
abbrev pub OneIdOfCut : Type 0
OneIdOfCut =
    (above below : ℕ → Share) (asked put rest : List Asked) (beats : List Reply) → ((t u : ℕ) → SameChain below t u → SameChain above t u) → flat_map single_parts asked ≡ put ++ rest →
    OneIdAtATime above asked beats → OneIdAtATime below put (map single_reply beats)

-- a request that is answered once is answered in all its beats
abbrev pub OneIdOfWhole : Type 0
OneIdOfWhole = (shares : ℕ → Share) (asked : List Asked) (beats : List Reply) → InOrderOfId asked beats → OneIdAtATime shares (map single asked) (ends beats) → OneIdAtATime shares asked beats
