-- What holds of every link that keeps the two contracts.
use Rattle.std.specs.Prelude.{◌≡◌, ◌+◌, ◌≤◌, ◌↔◌, ◌++◌, ◌∷◌, [], ℕ, suc, List, length, map, take}
use Rattle.axi_link.specs.LinkView.{LinkView}
use Rattle.axi_link.specs.declared.out.Out.{Out}
use Rattle.axi_trail.specs.LinkContracts.{Asks, Answers, OneIdAtATime}
use Rattle.axi_trail.specs.Schedule.{Share, Schedule, Progress, Grows, SameChain}
use Rattle.axi_trail.specs.Trail.{Beats, IsBehind, IsLinkRun, trail_above, trail_below, seen_above, seen_below}
use Rattle.axi_trail.specs.Waiting.{Waiting}
use Rattle.axi_trail.specs.Words.{Asked, Reply, IsAnswered, InOrderOfId, held_asked, beats_due, burst_asked, number_of_asked, number_of_reply, number_of_response, number_of_data, id_of_waiting}
use Rattle.plain_lists.specs.Keys.{of_key}
use Rattle.axi_link.specs.LinkWords.{link_of}

-- what is asked at the upper end is asked at the lower end, which has taken less and answered more
abbrev pub AskingGoesDown : Type 0
AskingGoesDown =
    (schedule : Schedule) (early late : Progress) (lower upper : Beats) → Grows early late → IsBehind lower upper →
    Asks schedule early upper → Asks schedule late lower

-- what is answered at the lower end is answered at the upper end, which has put more and taken fewer answers
abbrev pub AnsweringGoesUp : Type 0
AnsweringGoesUp =
    (schedule : Schedule) (early late : Progress) (lower upper : Beats) → Grows early late → IsBehind lower upper →
    Answers schedule early lower → Answers schedule late upper

-- what is asked at the upper end after n rounds is asked at the lower end: after n rounds, with the heads that the node
-- there looks at, and after one more round
abbrev pub AskedThroughLink : Type 0
AskedThroughLink =
    (schedule : Schedule) (early late : Progress) (number : ℕ) (links : ℕ → List LinkView) (uppers lowers : ℕ → Out) → Grows early late → IsLinkRun number links uppers lowers → (n : ℕ) →
    Asks schedule early (trail_above uppers links n number) →
    Asks schedule late (trail_below lowers links n number)
    × Asks schedule late (seen_below (trail_below lowers links n number) (link_of (links n) number))
    × Asks schedule late (trail_below lowers links (suc n) number)

-- and what is answered at the lower end is answered at the upper end
abbrev pub AnsweredThroughLink : Type 0
AnsweredThroughLink =
    (schedule : Schedule) (early late : Progress) (number : ℕ) (links : ℕ → List LinkView) (uppers lowers : ℕ → Out) → Grows early late → IsLinkRun number links uppers lowers → (n : ℕ) →
    Answers schedule early (trail_below lowers links n number) →
    Answers schedule late (trail_above uppers links n number)
    × Answers schedule late (seen_above (trail_above uppers links n number) (link_of (links n) number))
    × Answers schedule late (trail_above uppers links (suc n) number)

-- the requests of a transaction are answered in their order: a request is answered exactly where the answers to
-- its transaction are as many as the transaction's requests, up to this one, ask for
abbrev pub OwnRequestsInOrder : Type 0
OwnRequestsInOrder =
    (shares : ℕ → Share) (asked : List Asked) (replies : List Reply) → OneIdAtATime shares asked replies → InOrderOfId asked replies →
    (before : List Asked) (a : Asked) (after : List Asked) → asked ≡ before ++ a ∷ after →
    IsAnswered before a replies ↔ (beats_due (of_key number_of_asked a.number (before ++ a ∷ [])) ≤ length (of_key number_of_reply a.number replies))

-- where a request isn't answered, the later ones of its chain have its ID
abbrev pub HeldHaveOneId : Type 0
HeldHaveOneId =
    (shares : ℕ → Share) (asked : List Asked) (replies : List Reply) → OneIdAtATime shares asked replies →
    (before : List Asked) (a : Asked) (between : List Asked) (next : Asked) (after : List Asked) → asked ≡ (before ++ a ∷ between) ++ next ∷ after →
    SameChain shares a.number next.number → ¬ IsAnswered before a replies → a.id ≡ next.id

-- the next answer beat of the oldest held request of an ID is the next one of its transaction, too: all beats of the
-- transaction's earlier requests have come, and of later ones none
abbrev pub OldestHeldIsNextOfItsOwn : Type 0
OldestHeldIsNextOfItsOwn =
    (shares : ℕ → Share) (asked : List Asked) (replies : List Reply) → OneIdAtATime shares asked replies → InOrderOfId asked replies →
    (id : ℕ) (w : Waiting Asked) (others : List (Waiting Asked)) → of_key id_of_waiting id (held_asked asked replies) ≡ w ∷ others →
    (before : List Asked) × (after : List Asked) × (asked ≡ before ++ w.request ∷ after)
    × (length (of_key number_of_reply w.request.number replies) ≡ beats_due (of_key number_of_asked w.request.number before) + w.done)

-- a transaction's write data is there, as far as its answers go: the beats of its first requests, one for each answer
abbrev pub AnsweredHaveTheirData : Type 0
AnsweredHaveTheirData =
    (schedule : Schedule) (now : Progress) (trail : Beats) → Asks schedule now trail → Answers schedule now trail → (t : ℕ) →
    beats_due (take (length (of_key number_of_response t trail.b)) (of_key number_of_asked t (map burst_asked trail.aw))) ≤ length (of_key number_of_data t trail.w)
