-- What is seen of a port, round by round: the words that the rules of a port are said in. A history is a plain
-- list of rounds, the earliest first. (Arm IHI 0022, basic read and write transactions.)
use Rattle.std.specs.Prelude.{ℕ, ◌+◌, ◌-◌, ◌==◌, ◌++◌, ◌∷◌, [], List, Bool, false, Option, Some, None, filter_map, count_by, take, nat_lt, if◌then◌else◌}
use Rattle.std.specs.Option.{option_to_list}
use Rattle.axi_beats.specs.declared.beat.WBeat.{WBeat}
use Rattle.axi_history.specs.declared.port.PortRound.{PortRound}
use Rattle.axi_history.specs.declared.port.RawAddr.{RawAddr}
use Rattle.axi_history.specs.declared.port.RawB.{RawB}
use Rattle.axi_history.specs.declared.port.RawR.{RawR}
use Rattle.axi_history.specs.declared.port.Seen.{Seen}

module _ {X : Type 0} where
  -- the beat that a channel offers in a round: VALID is high
  abbrev pub offer_of : Option (Seen X) → Option X
  offer_of None = None
  offer_of (Some seen) = Some seen.beat

  -- the beat that a channel transfers in a round: VALID and READY are high
  abbrev pub transfer_of : Option (Seen X) → Option X
  transfer_of None = None
  transfer_of (Some seen) = if seen.taken then Some seen.beat else None

  -- the beat that a channel offers in a round without a transfer: VALID is high and READY is low
  abbrev pub wait_of : Option (Seen X) → Option X
  wait_of None = None
  wait_of (Some seen) = if seen.taken then None else Some seen.beat

  -- the beats that a channel has transferred, in order
  abbrev pub transferred : (PortRound → Option (Seen X)) → List PortRound → List X
  transferred channel history = filter_map (λ r. transfer_of (channel r)) history

  -- the beat that was offered in the last round and waits to be taken
  abbrev pub waiting : (PortRound → Option (Seen X)) → List PortRound → Option X
  waiting channel [] = None
  waiting channel (r ∷ []) = wait_of (channel r)
  waiting channel (r ∷ s ∷ more) = waiting channel (s ∷ more)

  -- the beats that a channel has offered, in order: those that it has transferred, and the one that waits
  abbrev pub offered : (PortRound → Option (Seen X)) → List PortRound → List X
  offered channel history = transferred channel history ++ option_to_list (waiting channel history)

-- the five channels of a port
abbrev pub on_aw : PortRound → Option (Seen RawAddr)
on_aw r = r.aw

abbrev pub on_w : PortRound → Option (Seen WBeat)
on_w r = r.w

abbrev pub on_b : PortRound → Option (Seen RawB)
on_b r = r.b

abbrev pub on_ar : PortRound → Option (Seen RawAddr)
on_ar r = r.ar

abbrev pub on_r : PortRound → Option (Seen RawR)
on_r r = r.r

-- the number of beats that an address asks for
abbrev pub beats_asked : RawAddr → ℕ
beats_asked a = a.len + 1

-- the first burst goes on with this beat at its front
abbrev pub joined_to_first : WBeat → List (List WBeat) → List (List WBeat)
joined_to_first w [] = (w ∷ []) ∷ []
joined_to_first w (burst ∷ more) = (w ∷ burst) ∷ more

-- W beats, parted into bursts: a burst ends with the beat that has `last`, and the last burst may be unfinished
abbrev pub bursts : List WBeat → List (List WBeat)
bursts [] = []
bursts (w ∷ more) = if w.last then (w ∷ []) ∷ bursts more else joined_to_first w (bursts more)

-- the writes whose address and whose last W beat have been transferred: the n-th burst is the data of the n-th
-- address
abbrev pub whole_writes : List PortRound → List RawAddr
whole_writes history = take (count_by (λ (w : WBeat). w.last) (transferred on_w history)) (transferred on_aw history)

-- Requests with these numbers of beats are answered one after the other. Whether beat n of the answers, counted
-- from 0, is the last one of its request.
abbrev pub ends_a_request : List ℕ → ℕ → Bool
ends_a_request [] n = false
ends_a_request (beats ∷ more) n = if nat_lt n beats then n + 1 == beats else ends_a_request more (n - beats)
