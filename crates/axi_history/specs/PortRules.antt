-- The twelve rules of an AXI4 port (Arm IHI 0022, handshake process, transaction structure, exclusive accesses and
-- transaction identifiers). Each rule is asked of a round and all the rounds before it. The channels are numbered
-- 1 AW, 2 W, 3 B, 4 AR and 5 R.
use Rattle.std.specs.Prelude.{ℕ, ◌+◌, ◌^◌, ◌%◌, ◌==◌, ◌&&◌, ◌||◌, ◌++◌, ◌∷◌, [], List, Bool, true, false, not, Option, Some, None, is_none, is_some, unwrap_or, length, map, sum, zip, nat_lt, nat_le, if◌then◌else◌}
use Rattle.std.specs.Option.{option_map}
use Rattle.std.specs.Bool.{beq}
use Rattle.std.proofs.Common.{suc}
use Rattle.axi_beats.specs.Codes.{burst_of_code}
use Rattle.axi_beats.specs.declared.beat.Addr.{Addr}
use Rattle.axi_beats.specs.declared.beat.Burst.{Burst}
use Rattle.axi_beats.specs.declared.beat.Burst.TheVariants.{Wrap}
use Rattle.axi_beats.specs.declared.beat.Tag.{Tag}
use Rattle.axi_beats.specs.declared.beat.WBeat.{WBeat}
use Rattle.burst_address.specs.Formulas.{beats_of, size_of}
use Rattle.burst_address.specs.Lanes.{first_lane, last_lane}
use Rattle.burst_address.specs.Legal.{is_in_page, is_length_of, is_start_of, is_too_wide}
use Rattle.plain_lists.specs.Keys.{of_key}
use Rattle.axi_history.specs.declared.port.PortRound.{PortRound}
use Rattle.axi_history.specs.declared.port.RawAddr.{RawAddr}
use Rattle.axi_history.specs.declared.port.RawB.{RawB}
use Rattle.axi_history.specs.declared.port.RawR.{RawR}
use Rattle.axi_history.specs.PortHistory.{offer_of, transferred, waiting, offered, on_aw, on_w, on_b, on_ar, on_r, beats_asked, bursts, whole_writes, ends_a_request}

-- ---- The same beat in two rounds: equal in every field

abbrev pub same_tag : Tag → Tag → Bool
same_tag a b = a.txn == b.txn && a.low == b.low && a.high == b.high

abbrev pub same_address : RawAddr → RawAddr → Bool
same_address a b =
    a.id == b.id && a.addr == b.addr && a.len == b.len && a.size == b.size && a.burst == b.burst && beq a.lock b.lock && same_tag a.tag b.tag

abbrev pub same_bytes : List ℕ → List ℕ → Bool
same_bytes [] [] = true
same_bytes [] (y ∷ ys) = false
same_bytes (x ∷ xs) [] = false
same_bytes (x ∷ xs) (y ∷ ys) = x == y && same_bytes xs ys

abbrev pub same_data : WBeat → WBeat → Bool
same_data a b = same_bytes a.lanes b.lanes && a.strobe == b.strobe && beq a.last b.last && same_tag a.tag b.tag

abbrev pub same_response : RawB → RawB → Bool
same_response a b = a.id == b.id && a.resp == b.resp && same_tag a.tag b.tag

abbrev pub same_read : RawR → RawR → Bool
same_read a b =
    a.id == b.id && same_bytes a.lanes b.lanes && a.resp == b.resp && beq a.last b.last && same_tag a.tag b.tag

-- ---- Rules 1 and 2, of every channel

module _ {X : Type 0} where
  -- a question about the beat that a channel offers; where none is offered, nothing is asked
  abbrev pub asked_of : Option X → (X → Bool) → Bool
  asked_of None question = true
  asked_of (Some beat) question = question beat

  -- 1: what was offered and not taken is offered again in the next round
  abbrev pub offer_stays : Option X → Option X → Bool
  offer_stays waits offer = is_none waits || is_some offer

  -- 2: and is then the same
  abbrev pub payload_stays : (X → X → Bool) → Option X → Option X → Bool
  payload_stays same waits offer = asked_of waits (λ before. asked_of offer (same before))

  -- each rule with its number, and whether it is kept
  abbrev pub handshake_rules : (X → X → Bool) → Option X → Option X → List (ℕ × Bool)
  handshake_rules same waits offer = (1, offer_stays waits offer) ∷ (2, payload_stays same waits offer) ∷ []

-- ---- Rules 3 to 8, of an address

-- the kind of a burst by its AxBURST; a code that has none breaks rule 3, so that the kind given here doesn't count
abbrev pub kind_of : ℕ → Burst
kind_of code = unwrap_or (burst_of_code code) Wrap

-- the request that an address makes
abbrev pub request_of : RawAddr → Addr
request_of a = record { id = a.id; addr = a.addr; len = a.len; size = a.size; burst = kind_of a.burst; tag = a.tag }

-- 3: the burst code has a kind: it is not the reserved one
abbrev pub burst_code_is_known : RawAddr → Bool
burst_code_is_known a = is_some (burst_of_code a.burst)

-- 4: a beat is not wider than the bus
abbrev pub beat_fits_the_bus : ℕ → RawAddr → Bool
beat_fits_the_bus bus a = not (is_too_wide (request_of a) bus)

-- 5: the number of beats is allowed for the kind: FIXED 1 to 16, INCR 1 to 256, WRAP 2, 4, 8 or 16
abbrev pub burst_length_is_allowed : RawAddr → Bool
burst_length_is_allowed a = is_length_of (kind_of a.burst) (beats_of (request_of a))

-- 6: a WRAP burst starts at a multiple of its beats' size
abbrev pub wrap_start_is_aligned : RawAddr → Bool
wrap_start_is_aligned a = is_start_of (kind_of a.burst) (size_of (request_of a)) a.addr

-- 7: an INCR burst stays in one page of 4096 bytes
abbrev pub incr_stays_in_its_page : RawAddr → Bool
incr_stays_in_its_page a = is_in_page (kind_of a.burst) (size_of (request_of a)) (beats_of (request_of a)) a.addr

-- 8: there are no exclusive accesses: AxLOCK is low, and no response is EXOKAY
abbrev pub is_not_exclusive : RawAddr → Bool
is_not_exclusive a = not a.lock

abbrev pub is_not_exokay : ℕ → Bool
is_not_exokay resp = not (resp == 1)

abbrev pub address_rules : ℕ → RawAddr → List (ℕ × Bool)
address_rules bus a =
    (3, burst_code_is_known a)
    ∷ (4, beat_fits_the_bus bus a)
    ∷ (5, burst_length_is_allowed a)
    ∷ (6, wrap_start_is_aligned a)
    ∷ (7, incr_stays_in_its_page a)
    ∷ (8, is_not_exclusive a)
    ∷ []

-- the least rule that is not kept
abbrev pub least_broken : List (ℕ × Bool) → Option ℕ
least_broken [] = None
least_broken (r ∷ rules) = if r.1 then least_broken rules else Some r.0

-- an address keeps rules 3 to 8
abbrev pub keeps_address_rules : ℕ → RawAddr → Bool
keeps_address_rules bus a = is_none (least_broken (address_rules bus a))

-- ---- Rules 9 and 10, of W beats and the address that they belong to

-- the write bursts whose address has been offered, each with that address: the n-th burst with the n-th address
abbrev pub addressed_bursts : List PortRound → List (RawAddr × List WBeat)
addressed_bursts history = zip (offered on_aw history) (bursts (offered on_w history))

-- a question about each beat of a burst, of which the first one is beat n
abbrev pub each_beat : (ℕ → WBeat → Bool) → ℕ → List WBeat → Bool
each_beat question n [] = true
each_beat question n (w ∷ more) = question n w && each_beat question (suc n) more

-- A question about each beat whose address has been offered. It is asked only where the address keeps rules 3
-- to 8.
abbrev pub each_addressed_beat : ℕ → (RawAddr → ℕ → WBeat → Bool) → List (RawAddr × List WBeat) → Bool
each_addressed_beat bus question [] = true
each_addressed_beat bus question (pair ∷ more) =
    (not (keeps_address_rules bus pair.0) || each_beat (question pair.0) 0 pair.1)
    && each_addressed_beat bus question more

-- 9: `last` stands on beat AxLEN and on no other, and there is no beat beyond AxLEN
abbrev pub has_last_where_due : RawAddr → ℕ → WBeat → Bool
has_last_where_due a n w = nat_le n a.len && beq w.last (n == a.len)

abbrev pub last_is_on_the_last_beat : ℕ → List PortRound → Bool
last_is_on_the_last_beat bus history = each_addressed_beat bus has_last_where_due (addressed_bursts history)

-- no strobe stands below the lower lane, and none above the upper one; strobe n is bit n of the number
abbrev pub strobes_within : ℕ → ℕ → ℕ → Bool
strobes_within lower upper strobe = strobe % 2 ^ lower == 0 && nat_lt strobe (2 ^ (upper + 1))

-- 10: the strobes of a beat stand on its valid lanes alone. It is not asked of a beat beyond AxLEN.
abbrev pub has_strobes_on_valid_lanes : ℕ → RawAddr → ℕ → WBeat → Bool
has_strobes_on_valid_lanes bus a n w =
    nat_lt a.len n
    || strobes_within (first_lane (request_of a) n bus) (last_lane (request_of a) n bus) w.strobe

abbrev pub strobes_are_on_valid_lanes : ℕ → List PortRound → Bool
strobes_are_on_valid_lanes bus history =
    each_addressed_beat bus (has_strobes_on_valid_lanes bus) (addressed_bursts history)

-- ---- Rules 11 and 12, of answers

-- the writes, the responses and the read beats of an ID, in order
abbrev pub writes_of : ℕ → List RawAddr → List RawAddr
writes_of id writes = of_key (λ (a : RawAddr). a.id) id writes

abbrev pub responses_of : ℕ → List RawB → List RawB
responses_of id responses = of_key (λ (b : RawB). b.id) id responses

abbrev pub read_beats_of : ℕ → List RawR → List RawR
read_beats_of id beats = of_key (λ (r : RawR). r.id) id beats

-- the numbers of beats of the reads of an ID, in order
abbrev pub reads_of : ℕ → List RawAddr → List ℕ
reads_of id reads = map beats_asked (of_key (λ (a : RawAddr). a.id) id reads)

-- 11: a write response of an ID is offered only where earlier rounds have transferred fewer responses of that ID
-- than addresses of it whose last W beat they have transferred too
abbrev pub response_follows_write : List PortRound → RawB → Bool
response_follows_write earlier b =
    nat_lt (length (responses_of b.id (transferred on_b earlier))) (length (writes_of b.id (whole_writes earlier)))

-- 11: a read beat of an ID is offered only where earlier rounds have transferred fewer read beats of that ID than
-- its addresses ask for that they have transferred
abbrev pub read_beat_follows_address : List PortRound → RawR → Bool
read_beat_follows_address earlier r =
    nat_lt (length (read_beats_of r.id (transferred on_r earlier))) (sum (reads_of r.id (transferred on_ar earlier)))

-- 12: a read beat has `last` exactly where it is the last beat of its request. The requests of an ID are answered
-- in their order. It is asked where rule 11 is kept.
abbrev pub read_last_is_on_the_last_beat : List PortRound → RawR → Bool
read_last_is_on_the_last_beat earlier r =
    beq r.last (ends_a_request (reads_of r.id (transferred on_ar earlier)) (length (read_beats_of r.id (transferred on_r earlier))))

-- ---- The rules of each channel, with their numbers, and whether a round after earlier ones keeps them

-- the rules of the beat that a channel offers; where none is offered, there are none
abbrev pub rules_of_offer : {X : Type 0} → Option X → (X → List (ℕ × Bool)) → List (ℕ × Bool)
rules_of_offer None rules = []
rules_of_offer (Some beat) rules = rules beat

abbrev pub write_address_rules : ℕ → List PortRound → PortRound → List (ℕ × Bool)
write_address_rules bus earlier now =
    handshake_rules same_address (waiting on_aw earlier) (offer_of now.aw) ++ rules_of_offer (offer_of now.aw) (address_rules bus)

abbrev pub write_data_rules : ℕ → List PortRound → PortRound → List (ℕ × Bool)
write_data_rules bus earlier now =
    handshake_rules same_data (waiting on_w earlier) (offer_of now.w)
    ++ (9, last_is_on_the_last_beat bus (earlier ++ now ∷ []))
    ∷ (10, strobes_are_on_valid_lanes bus (earlier ++ now ∷ []))
    ∷ []

abbrev pub response_rules : List PortRound → RawB → List (ℕ × Bool)
response_rules earlier b = (8, is_not_exokay b.resp) ∷ (11, response_follows_write earlier b) ∷ []

abbrev pub write_response_rules : List PortRound → PortRound → List (ℕ × Bool)
write_response_rules earlier now =
    handshake_rules same_response (waiting on_b earlier) (offer_of now.b) ++ rules_of_offer (offer_of now.b) (response_rules earlier)

abbrev pub read_address_rules : ℕ → List PortRound → PortRound → List (ℕ × Bool)
read_address_rules bus earlier now =
    handshake_rules same_address (waiting on_ar earlier) (offer_of now.ar) ++ rules_of_offer (offer_of now.ar) (address_rules bus)

abbrev pub read_beat_rules : List PortRound → RawR → List (ℕ × Bool)
read_beat_rules earlier r =
    (8, is_not_exokay r.resp)
    ∷ (11, read_beat_follows_address earlier r)
    ∷ (12, read_last_is_on_the_last_beat earlier r)
    ∷ []

abbrev pub read_data_rules : List PortRound → PortRound → List (ℕ × Bool)
read_data_rules earlier now =
    handshake_rules same_read (waiting on_r earlier) (offer_of now.r) ++ rules_of_offer (offer_of now.r) (read_beat_rules earlier)

-- ---- What a round breaks, and what a history breaks first

module _ {X : Type 0} where
  -- the first of two answers where there is one, else the second
  abbrev pub or_else : Option X → Option X → Option X
  or_else None other = other
  or_else (Some x) other = Some x

-- a channel with the least rule that is broken on it
abbrev pub on_channel : ℕ → List (ℕ × Bool) → Option (ℕ × ℕ)
on_channel channel rules = option_map (λ rule. (channel, rule)) (least_broken rules)

-- the least channel on which a round breaks a rule of AXI4, and the least such rule
abbrev pub axi4_fault : ℕ → List PortRound → PortRound → Option (ℕ × ℕ)
axi4_fault bus earlier now =
    or_else (on_channel 1 (write_address_rules bus earlier now))
    (or_else (on_channel 2 (write_data_rules bus earlier now))
    (or_else (on_channel 3 (write_response_rules earlier now))
    (or_else (on_channel 4 (read_address_rules bus earlier now))
    (on_channel 5 (read_data_rules earlier now)))))

-- The channel and the rule that are broken first in rounds that follow earlier ones, where `fault` judges a round
-- and those before it. None where all rules are kept.
abbrev pub first_fault : (List PortRound → PortRound → Option (ℕ × ℕ)) → List PortRound → List PortRound → Option (ℕ × ℕ)
first_fault fault earlier [] = None
first_fault fault earlier (now ∷ rounds) = or_else (fault earlier now) (first_fault fault (earlier ++ now ∷ []) rounds)

-- What the history of an AXI4 port breaks first. A port of AXI4-Lite is judged by rules of its own, which take the
-- place of `axi4_fault` here; they are not written yet.
abbrev pub axi4_history_fault : ℕ → List PortRound → Option (ℕ × ℕ)
axi4_history_fault bus history = first_fault (axi4_fault bus) [] history
