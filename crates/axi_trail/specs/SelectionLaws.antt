-- What holds of selected transactions, such as those that go by one of several links of a node.
use Rattle.std.specs.Prelude.{◌≡◌, ◌==◌, ◌↔◌, ◌<◌, ◌++◌, ◌∷◌, [], ℕ, List, Bool, true, length}
use Rattle.axi_trail.specs.Waiting.{Waiting}
use Rattle.axi_trail.specs.Words.{Mark, Asked, Reply, IsAnswered, InOrderOfId, completed, held_asked, pending_asked, beats_due, marks, number_of_mark, number_of_asked, number_of_reply}
use Rattle.plain_lists.specs.Keys.{of_key, selected}
use Rattle.plain_lists.specs.Prefixes.{IsPrefix, Agree}

-- whether a transaction goes this way, where `way_of` tells which way each one goes
abbrev pub goes_way : (ℕ → ℕ) → ℕ → ℕ → Bool
goes_way way_of way number = way_of number == way

-- the requests of a selected transaction are all among the selected ones
abbrev pub NumberOfSelected : Type 0
NumberOfSelected =
    (selects : ℕ → Bool) (number : ℕ) (asked : List Asked) → selects number ≡ true →
    of_key number_of_asked number (selected number_of_asked selects asked) ≡ of_key number_of_asked number asked

-- Answers.

-- selected answers come in order of the selected requests
abbrev pub OrderOfSelected : Type 0
OrderOfSelected =
    (selects : ℕ → Bool) (asked : List Asked) (replies : List Reply) → InOrderOfId asked replies →
    InOrderOfId (selected number_of_asked selects asked) (selected number_of_reply selects replies)

-- a selected request is answered where it is answered among the selected ones
abbrev pub AnsweredOfSelected : Type 0
AnsweredOfSelected =
    (selects : ℕ → Bool) (asked : List Asked) (replies : List Reply) → InOrderOfId asked replies →
    (before : List Asked) (a : Asked) (after : List Asked) → asked ≡ before ++ a ∷ after → selects a.number ≡ true →
    IsAnswered before a replies ↔ IsAnswered (selected number_of_asked selects before) a (selected number_of_reply selects replies)

-- where no request is held of those that go any one way, none is held
abbrev pub NoneHeldAnyWay : Type 0
NoneHeldAnyWay =
    (way_of : ℕ → ℕ) (asked : List Asked) (replies : List Reply) → InOrderOfId asked replies →
    ((t : ℕ) → held_asked (selected number_of_asked (goes_way way_of (way_of t)) asked) (selected number_of_reply (goes_way way_of (way_of t)) replies) ≡ []) →
    held_asked asked replies ≡ []

-- Write data.

-- the selected ones of the completed requests are those that the selected data completes
abbrev pub CompletedOfSelected : Type 0
CompletedOfSelected =
    (selects : ℕ → Bool) (asked : List Asked) (passed : List Mark) → IsPrefix passed (marks asked) →
    selected number_of_asked selects (completed asked passed) ≡ completed (selected number_of_asked selects asked) (selected number_of_mark selects passed)

-- where the selected requests lack data, all of them do
abbrev pub AllLackData : Type 0
AllLackData =
    (selects : ℕ → Bool) (asked : List Asked) (passed : List Mark) → Agree passed (marks asked) →
    length (selected number_of_mark selects passed) < beats_due (selected number_of_asked selects asked) → length passed < beats_due asked

-- where the first request that lacks data is selected, the selected requests lack data
abbrev pub FirstLacksData : Type 0
FirstLacksData =
    (selects : ℕ → Bool) (asked : List Asked) (passed : List Mark) (w : Waiting Asked) (others : List (Waiting Asked)) → IsPrefix passed (marks asked) →
    pending_asked (length passed) asked ≡ w ∷ others → selects w.request.number ≡ true →
    length (selected number_of_mark selects passed) < beats_due (selected number_of_asked selects asked)
