-- What holds of requests, their write data and their answers, whatever a node does. Laws of lists of any type are
-- stated here for lists of one type, such as numbers or addresses.
use Rattle.std.specs.Prelude.{◌≡◌, ℕ, Bool, true, suc, ◌+◌, ◌≤◌, ◌++◌, ◌∷◌, [], List, Contains, length, map, take, drop, flat_map}
use Rattle.axi_beats.specs.declared.beat.Addr.{Addr}
use Rattle.axi_trail.specs.Waiting.{Waiting, fresh, waiting_request, waiting_shown, beats_by, pending, complete, advanced, answered_once, held}
use Rattle.axi_trail.specs.Words.{Mark, Asked, Reply, IsAnswered, InOrderOfId, EndsAtLast, owed_marks, next_mark, next_reply, held_asked, pending_asked, beats_due, marks, marks_of, completed, number_of_mark, number_of_asked, number_of_reply, number_of_waiting, id_of_waiting, id_of_asked, len_of_asked}
use Rattle.plain_lists.specs.Keys.{of_key, count_of, left_after, selected}
use Rattle.plain_lists.specs.Prefixes.{IsPrefix, Agree}

-- Marks.

-- one more request asks for its marks after all others
abbrev pub OneMoreBurst : Type 0
OneMoreBurst = (asked : List Asked) (a : Asked) → marks (asked ++ a ∷ []) ≡ marks asked ++ marks_of a

-- the first requests ask for the first marks
abbrev pub BeginningOfMarks : Type 0
BeginningOfMarks = (asked more : List Asked) → IsPrefix asked more → IsPrefix (marks asked) (marks more)

-- the marks of selected transactions are those of their requests
abbrev pub MarksOfSelected : Type 0
MarksOfSelected = (selects : ℕ → Bool) (asked : List Asked) → selected number_of_mark selects (marks asked) ≡ marks (selected number_of_asked selects asked)

-- a burst has one beat more than its length says, and `last` on the last one alone
abbrev pub BurstsEndAtLast : Type 0
BurstsEndAtLast = (a : Asked) → (length (marks_of a) ≡ suc a.len) × EndsAtLast (marks_of a)

-- Requests that lack write data, where data comes in order of the requests.

-- one more beat is one of the first pending request, which is finished with its last beat
abbrev pub BeatOfFirstPending : Type 0
BeatOfFirstPending = (len_of : Addr → ℕ) (count : ℕ) (xs : List Addr) → pending len_of (suc count) xs ≡ advanced len_of (pending len_of count xs)

-- one more request is the last pending one, where no data has come before it
abbrev pub RequestIsPending : Type 0
RequestIsPending =
    (len_of : Addr → ℕ) (count : ℕ) (xs : List Addr) (x : Addr) → count ≤ beats_by len_of xs →
    pending len_of count (xs ++ x ∷ []) ≡ pending len_of count xs ++ fresh x ∷ []

-- the first requests are complete, and the last ones are pending
abbrev pub PendingAreLast : Type 0
PendingAreLast = (len_of : Addr → ℕ) (count : ℕ) (xs : List Addr) → complete len_of count xs ++ map waiting_request (pending len_of count xs) ≡ xs

-- no request is pending exactly where all beats have come
abbrev pub NonePending : Type 0
NonePending =
    (len_of : Addr → ℕ) (count : ℕ) (xs : List Addr) →
    (beats_by len_of xs ≤ count → pending len_of count xs ≡ []) × (pending len_of count xs ≡ [] → beats_by len_of xs ≤ count)

-- the marks that haven't passed are those that the pending requests lack
abbrev pub PendingOweTheRest : Type 0
PendingOweTheRest = (count : ℕ) (asked : List Asked) → drop count (marks asked) ≡ flat_map owed_marks (pending_asked count asked)

-- the pending requests of selected transactions are those that the beats of these transactions leave pending
abbrev pub PendingOfSelected : Type 0
PendingOfSelected =
    (selects : ℕ → Bool) (count : ℕ) (asked : List Asked) →
    selected number_of_waiting selects (pending_asked count asked)
    ≡ pending_asked (length (selected number_of_mark selects (take count (marks asked)))) (selected number_of_asked selects asked)

-- as many requests are complete as beats with `last` have come
abbrev pub CompletedAreComplete : Type 0
CompletedAreComplete = (asked : List Asked) (passed : List Mark) → IsPrefix passed (marks asked) → completed asked passed ≡ complete len_of_asked (length passed) asked

-- which requests are pending depends on their lengths alone, so that it may be asked of what is shown of them
abbrev pub PendingOfShown : Type 0
PendingOfShown =
    (shown : Addr → Asked) (count : ℕ) (xs : List Addr) →
    pending_asked count (map shown xs) ≡ map (waiting_shown shown) (pending (λ a. (shown a).len) count xs)

-- a beat that goes on in order is the next one of the first pending request
abbrev pub NextBeat : Type 0
NextBeat =
    (asked : List Asked) (passed : List Mark) (m : Mark) (w : Waiting Asked) (others : List (Waiting Asked)) → Agree (passed ++ m ∷ []) (marks asked) →
    pending_asked (length passed) asked ≡ w ∷ others → m ≡ next_mark w

-- it is enough that the beat goes on in order among those of selected transactions, if the first pending request is of
-- one of them
abbrev pub NextBeatOfSelected : Type 0
NextBeatOfSelected =
    (selects : ℕ → Bool) (asked : List Asked) (passed : List Mark) (m : Mark) (w : Waiting Asked) (others : List (Waiting Asked)) → IsPrefix passed (marks asked) →
    pending_asked (length passed) asked ≡ w ∷ others → selects w.request.number ≡ true →
    Agree (selected number_of_mark selects passed ++ m ∷ []) (marks (selected number_of_asked selects asked)) → m ≡ next_mark w

-- the next beat of the first pending request goes on in order
abbrev pub BeatKeepsOrder : Type 0
BeatKeepsOrder =
    (asked : List Asked) (passed : List Mark) (w : Waiting Asked) (others : List (Waiting Asked)) → IsPrefix passed (marks asked) →
    pending_asked (length passed) asked ≡ w ∷ others → IsPrefix (passed ++ next_mark w ∷ []) (marks asked)

-- The first pending request stands behind complete ones, and of those behind it no beat has passed. Its next beat is the
-- next one of its transaction, too.
abbrev pub FirstPendingIsNextOfItsOwn : Type 0
FirstPendingIsNextOfItsOwn =
    (asked : List Asked) (passed : List Mark) (w : Waiting Asked) (others : List (Waiting Asked)) → IsPrefix passed (marks asked) →
    pending_asked (length passed) asked ≡ w ∷ others →
    (before : List Asked) × (after : List Asked) × (asked ≡ before ++ w.request ∷ after) × (others ≡ map fresh after) × (length passed ≡ beats_due before + w.done)
    × (length (of_key number_of_mark w.request.number passed) ≡ beats_due (of_key number_of_asked w.request.number before) + w.done)

-- Requests that lack answers, where the answers of each ID come in order of its requests.

-- one more answer beat is one of the oldest held request of its ID, which leaves with its last beat
abbrev pub AnswerOfOldestHeld : Type 0
AnswerOfOldestHeld = (len_of id_of : Addr → ℕ) (xs : List Addr) (ids : List ℕ) (id : ℕ) → held len_of id_of xs (ids ++ id ∷ []) ≡ answered_once len_of id_of id (held len_of id_of xs ids)

-- one more request is the last held one, where its ID has no more answers than requests
abbrev pub RequestIsHeld : Type 0
RequestIsHeld =
    (len_of id_of : Addr → ℕ) (xs : List Addr) (ids : List ℕ) (x : Addr) → count_of (id_of x) ids ≤ beats_by len_of (of_key id_of (id_of x) xs) →
    held len_of id_of (xs ++ x ∷ []) ids ≡ held len_of id_of xs ids ++ fresh x ∷ []

-- the held requests of an ID are those that its own answers leave pending
abbrev pub HeldOfId : Type 0
HeldOfId = (len_of id_of : Addr → ℕ) (xs : List Addr) (ids : List ℕ) (id : ℕ) → of_key (λ w. id_of w.request) id (held len_of id_of xs ids) ≡ pending len_of (count_of id ids) (of_key id_of id xs)

-- where each request has one answer, the held ones are those that the answers leave
abbrev pub HeldOfSingles : Type 0
HeldOfSingles = (id_of : Addr → ℕ) (xs : List Addr) (ids : List ℕ) → held (λ a. 0) id_of xs ids ≡ map fresh (left_after id_of xs ids)

-- which requests are held depends on their lengths and IDs alone, so that it may be asked of what is shown of them
abbrev pub HeldOfShown : Type 0
HeldOfShown =
    (shown : Addr → Asked) (xs : List Addr) (ids : List ℕ) →
    held len_of_asked id_of_asked (map shown xs) ids ≡ map (waiting_shown shown) (held (λ a. (shown a).len) (λ a. (shown a).id) xs ids)

-- the held requests of selected transactions are those that the answers to these transactions leave held
abbrev pub HeldOfSelected : Type 0
HeldOfSelected =
    (selects : ℕ → Bool) (asked : List Asked) (replies : List Reply) → InOrderOfId asked replies →
    selected number_of_waiting selects (held_asked asked replies) ≡ held_asked (selected number_of_asked selects asked) (selected number_of_reply selects replies)

-- requests that come after answered ones are held behind all others
abbrev pub LaterRequestsAreHeld : Type 0
LaterRequestsAreHeld =
    (asked more : List Asked) (replies : List Reply) → InOrderOfId asked replies → held_asked (asked ++ more) replies ≡ held_asked asked replies ++ map fresh more

-- an answer beat that comes in order is the next one of the oldest held request of its ID, so there is one
abbrev pub NextAnswer : Type 0
NextAnswer =
    (asked : List Asked) (replies : List Reply) (p : Reply) → InOrderOfId asked (replies ++ p ∷ []) →
    (w : Waiting Asked) × (others : List (Waiting Asked)) × (of_key id_of_waiting p.id (held_asked asked replies) ≡ w ∷ others) × (p ≡ next_reply w)

-- the next answer beat of the oldest held request of an ID comes in order
abbrev pub AnswerKeepsOrder : Type 0
AnswerKeepsOrder =
    (asked : List Asked) (replies : List Reply) (id : ℕ) (w : Waiting Asked) (others : List (Waiting Asked)) → InOrderOfId asked replies →
    of_key id_of_waiting id (held_asked asked replies) ≡ w ∷ others → InOrderOfId asked (replies ++ next_reply w ∷ [])

-- a request that isn't answered is held
abbrev pub UnansweredIsHeld : Type 0
UnansweredIsHeld =
    (asked : List Asked) (replies : List Reply) (before : List Asked) (a : Asked) (after : List Asked) → asked ≡ before ++ a ∷ after → ¬ IsAnswered before a replies →
    (done : ℕ) × Contains (held_asked asked replies) (record { request = a; done = done })

-- where no request of an ID is held, all requests of the ID are answered
abbrev pub NoneHeldIsAnswered : Type 0
NoneHeldIsAnswered =
    (asked : List Asked) (replies : List Reply) (before : List Asked) (a : Asked) (after : List Asked) → asked ≡ before ++ a ∷ after →
    of_key id_of_waiting a.id (held_asked asked replies) ≡ [] → IsAnswered before a replies
