-- Accesses as events: those of one transaction, and what they leave behind.
use Rattle.std.proofs.Common.{◌≡◌, ◌==◌, ◌&&◌, ◌∷◌, [], ℕ, List, Option, Some, None, Bool, true, false, cond, refl, sym, ap, ◌∙◌, eq-eqb}
use Rattle.std.specs.Prelude.{All, filter, map, not}
use Rattle.std.specs.Bool.{beq}
use Rattle.std.proofs.lemmas.Bool.{and_parts}
use Rattle.std.proofs.lemmas.List.Elements.{All-head, All-tail, All-weaker, filter_passes}
use Rattle.std.proofs.lemmas.Simd.{map-map}
use Rattle.axi_history.specs.Answered.{values_of}
use Rattle.axi_history.specs.Delivered.{is_write_at, access_made}
use Rattle.axi_history.specs.Records.{Event, events_of}
use Rattle.memory_node.specs.Accesses.{accesses_of, writes_at}
use Rattle.memory_node.specs.Events.{Access}
use Rattle.burst_address.specs.Bytes.{Byte}
use Rattle.plain_lists.proofs.KeyLemmas.{filter_map}
use Rattle.burst_address.specs.Accesses.{value_after}

-- an event without its round and node
abbrev pub access_of_event : Event → Access
access_of_event e = record { number = e.number; byte = record { address = e.address; value = e.value }; write = e.write }

-- the byte of a write, and the address of a read, as what is due
abbrev pub shown_write : Byte → ℕ × Option ℕ
shown_write byte = (byte.address, Some byte.value)

abbrev pub shown_read : ℕ → ℕ × Option ℕ
shown_read address = (address, None)

pub beq-itself : (b : Bool) → beq b b ≡ true
beq-itself true = refl
beq-itself false = refl

pub beq-true : (a b : Bool) → beq a b ≡ true → a ≡ b
beq-true true true same = refl
beq-true true false same = absurd (cc)
beq-true false true same = absurd (cc)
beq-true false false same = refl

-- an access, as the byte that it does
abbrev pub shown_access : Access → ℕ × Option ℕ
shown_access a = (a.byte.address, cond a.write (Some a.byte.value) None)

abbrev of_number : ℕ → List Access → List Access
of_number number all = filter (λ (a : Access). a.number == number) all

-- where a transaction has no accesses in the other direction, its accesses are those of its own
one-access :
    (write own here : Bool) (a : Access) (turned all mine : List Access) → (turned ≡ [] → all ≡ mine) →
    cond (beq own (not write) && here) (a ∷ turned) turned ≡ [] → cond here (a ∷ all) all ≡ cond (beq own write && here) (a ∷ mine) mine
one-access true true false a turned all mine rest none = rest none
one-access true false false a turned all mine rest none = rest none
one-access false true false a turned all mine rest none = rest none
one-access false false false a turned all mine rest none = rest none
one-access true true true a turned all mine rest none = ap (λ xs. a ∷ xs) (rest none)
one-access true false true a turned all mine rest none = absurd (cc)
one-access false true true a turned all mine rest none = absurd (cc)
one-access false false true a turned all mine rest none = ap (λ xs. a ∷ xs) (rest none)

pub one-direction : (write : Bool) (number : ℕ) (all : List Access) → accesses_of (not write) number all ≡ [] → of_number number all ≡ accesses_of write number all
one-direction write number [] none = refl
one-direction write number (a ∷ all) none =
    one-access write a.write (a.number == number) a (accesses_of (not write) number all) (of_number number all) (accesses_of write number all) (one-direction write number all) none

-- accesses of a direction, as the bytes that they do
shown-writes : (all : List Access) → All (λ (a : Access). a.write ≡ true) all → map shown_access all ≡ map shown_write (map (λ (a : Access). a.byte) all)
shown-writes [] each = refl
shown-writes (a ∷ all) each =
    let here : a.write ≡ true = All-head (λ (a : Access). a.write ≡ true) a all each in
    ap (λ b. (a.byte.address, cond b (Some a.byte.value) None) ∷ map shown_access all) here
    ∙ ap (λ rest. shown_write a.byte ∷ rest) (shown-writes all (All-tail (λ (a : Access). a.write ≡ true) a all each))

shown-reads : (all : List Access) → All (λ (a : Access). a.write ≡ false) all → map shown_access all ≡ map shown_read (map (λ (a : Access). a.byte.address) all)
shown-reads [] each = refl
shown-reads (a ∷ all) each =
    let here : a.write ≡ false = All-head (λ (a : Access). a.write ≡ false) a all each in
    ap (λ b. (a.byte.address, cond b (Some a.byte.value) None) ∷ map shown_access all) here
    ∙ ap (λ rest. shown_read a.byte.address ∷ rest) (shown-reads all (All-tail (λ (a : Access). a.write ≡ false) a all each))

of-direction : (write : Bool) (number : ℕ) (all : List Access) → All (λ (a : Access). a.write ≡ write) (accesses_of write number all)
of-direction write number all =
    All-weaker (λ (a : Access). (beq a.write write && a.number == number) ≡ true) (λ (a : Access). a.write ≡ write)
    (λ a passes. beq-true a.write write (and_parts (beq a.write write) (a.number == number) passes).0) (accesses_of write number all)
    (filter_passes (λ (a : Access). beq a.write write && a.number == number) all)

-- the events of a transaction, as the bytes that they do
shown-events : (number : ℕ) (events : List Event) → map access_made (events_of number events) ≡ map shown_access (of_number number (map access_of_event events))
shown-events number events =
    sym (map-map shown_access access_of_event (events_of number events)) ∙ sym (ap (map shown_access) (filter_map (λ (a : Access). a.number == number) access_of_event events))

pub events-written :
    (number : ℕ) (events : List Event) → accesses_of false number (map access_of_event events) ≡ [] →
    map access_made (events_of number events) ≡ map shown_write (map (λ (a : Access). a.byte) (accesses_of true number (map access_of_event events)))
events-written number events none =
    let all = map access_of_event events in
    shown-events number events ∙ ap (map shown_access) (one-direction true number all none) ∙ shown-writes (accesses_of true number all) (of-direction true number all)

pub events-read :
    (number : ℕ) (events : List Event) → accesses_of true number (map access_of_event events) ≡ [] →
    map access_made (events_of number events) ≡ map shown_read (map (λ (a : Access). a.byte.address) (accesses_of false number (map access_of_event events)))
events-read number events none =
    let all = map access_of_event events in
    shown-events number events ∙ ap (map shown_access) (one-direction false number all none) ∙ shown-reads (accesses_of false number all) (of-direction false number all)

-- and the values of a read's
pub events-values :
    (number : ℕ) (events : List Event) → accesses_of true number (map access_of_event events) ≡ [] →
    values_of number events ≡ map (λ (a : Access). a.byte.value) (accesses_of false number (map access_of_event events))
events-values number events none =
    let value : Access → ℕ = λ a. a.byte.value in
    sym (map-map value access_of_event (events_of number events))
    ∙ sym (ap (map value) (filter_map (λ (a : Access). a.number == number) access_of_event events))
    ∙ ap (map value) (one-direction false number (map access_of_event events) none)

here-or-not : (writes there : Bool) → (writes && true && there) ≡ (writes && there)
here-or-not true there = refl
here-or-not false there = refl

-- what events at one node leave at an address is what their accesses leave there
abbrev pub event_value : Event → ℕ
event_value e = e.value

pub held-left : (node address before : ℕ) (events : List Event) → All (λ (e : Event). e.node ≡ node) events → value_after (is_write_at node address) event_value before events ≡ value_after (writes_at address) (λ (a : Access). a.byte.value) before (map access_of_event events)
held-left node address before [] each = refl
held-left node address before (e ∷ events) each =
    let here : e.node ≡ node = All-head (λ (e : Event). e.node ≡ node) e events each in
    let test : is_write_at node address e ≡ (e.write && e.address == address) =
    ap (λ b. e.write && b && (e.address == address)) (eq-eqb e.node node here) ∙ here-or-not e.write (e.address == address) in
    ap (λ b. value_after (is_write_at node address) event_value (cond b e.value before) events) test
    ∙ held-left node address (cond (e.write && e.address == address) e.value before) events (All-tail (λ (e : Event). e.node ≡ node) e events each)
