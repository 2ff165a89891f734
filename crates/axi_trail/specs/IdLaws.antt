-- What holds of the IDs of requests and of their answers (Arm IHI 0022, transaction identifiers).
use Rattle.std.specs.Prelude.{◌≡◌, ◌↔◌, ◌≤◌, [], ℕ, List, All, Contains, length, map, take, true}
use Rattle.axi_beats.specs.declared.beat.Addr.{Addr}
use Rattle.axi_trail.specs.Waiting.{waiting_shown}
use Rattle.axi_trail.specs.Words.{Asked, Reply, IsAnswered, InOrderOfId, held_asked, pending_asked, beats_due, id_of_asked, id_of_reply, write_asked}
use Rattle.plain_lists.specs.Keys.{of_key}

-- a request and an answer under another ID
abbrev pub asked_as : (ℕ → ℕ) → Asked → Asked
asked_as id_as a = record { number = a.number; id = id_as a.id; len = a.len }

abbrev pub reply_as : (ℕ → ℕ) → Reply → Reply
reply_as id_as p = record { number = p.number; id = id_as p.id; last = p.last }

-- the response to a write
abbrev pub response_due : Addr → Reply
response_due a = record { number = a.tag.txn; id = a.id; last = true }

-- an answer that comes in order is that of a request of its ID and transaction
abbrev pub AnswersHaveRequests : Type 0
AnswersHaveRequests =
    (asked : List Asked) (replies : List Reply) → InOrderOfId asked replies →
    All (λ (p : Reply). (a : Asked) × Contains asked a × (a.id ≡ p.id) × (a.number ≡ p.number)) replies

-- no request is held where as many answer beats of each ID have come as its requests ask for
abbrev pub NoneHeldByCount : Type 0
NoneHeldByCount =
    (asked : List Asked) (replies : List Reply) → ((id : ℕ) → beats_due (of_key id_of_asked id asked) ≤ length (of_key id_of_reply id replies)) → held_asked asked replies ≡ []

-- of requests with one ID, the held ones are those that the answers leave pending
abbrev pub HeldOfOneId : Type 0
HeldOfOneId =
    (id : ℕ) (asked : List Asked) (replies : List Reply) → All (λ a. a.id ≡ id) asked → All (λ p. p.id ≡ id) replies →
    held_asked asked replies ≡ pending_asked (length replies) asked

-- responses in order of all write addresses come in order of each ID
abbrev pub OrderIsOrderOfId : Type 0
OrderIsOrderOfId = (n : ℕ) (addresses : List Addr) → InOrderOfId (map write_asked addresses) (map response_due (take n addresses))

-- Other IDs, by a function that keeps different IDs apart: order, answered requests and held ones stay as they are.
abbrev pub KeepsApart : (ℕ → ℕ) → Type 0
KeepsApart id_as = (i j : ℕ) → id_as i ≡ id_as j → i ≡ j

abbrev pub OrderOfOtherIds : Type 0
OrderOfOtherIds =
    (id_as : ℕ → ℕ) → KeepsApart id_as → (asked : List Asked) (replies : List Reply) →
    InOrderOfId asked replies ↔ InOrderOfId (map (asked_as id_as) asked) (map (reply_as id_as) replies)

abbrev pub AnsweredOfOtherIds : Type 0
AnsweredOfOtherIds =
    (id_as : ℕ → ℕ) → KeepsApart id_as → (before : List Asked) (a : Asked) (replies : List Reply) →
    IsAnswered before a replies ↔ IsAnswered (map (asked_as id_as) before) (asked_as id_as a) (map (reply_as id_as) replies)

abbrev pub HeldOfOtherIds : Type 0
HeldOfOtherIds =
    (id_as : ℕ → ℕ) → KeepsApart id_as → (asked : List Asked) (replies : List Reply) →
    held_asked (map (asked_as id_as) asked) (map (reply_as id_as) replies) ≡ map (waiting_shown (asked_as id_as)) (held_asked asked replies)
