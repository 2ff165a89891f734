-- What a kind of node is: its links, its table, and what its state has to do with all that has passed on its links.
use Rattle.std.specs.Prelude.{◌++◌, [], ℕ, List, Bool, true, false, All}
use Rattle.axi_link.specs.LinkView.{LinkView}
use Rattle.axi_link.specs.LinkWords.{link_of}
use Rattle.axi_link.specs.declared.out.Out.{Out}
use Rattle.axi_trail.specs.LinkContracts.{Answers, Asks}
use Rattle.axi_trail.specs.Schedule.{Grows, Progress, Schedule}
use Rattle.axi_trail.specs.Trail.{Trail, joined, moved_above, moved_below, no_beats, seen_above, seen_below}
use Rattle.node_core.specs.Acted.{Acted}
use Rattle.node_shape.specs.Way.{Way}
use Rattle.node_shape.specs.LinkForm.{LinkForm}

-- What a node has passed, by the numbers of its links: at the links above it and at those below it. `noted` is what it
-- tells of its rounds beside its beats: a memory its accesses, all other kinds nothing.
pub record Passed (E : Type 0) : Type 0 where
  pub uppers : Trail
  pub lowers : Trail
  pub noted : List E

abbrev pub nothing_passed : {E : Type 0} → Passed E
nothing_passed = record { uppers = λ link. no_beats; lowers = λ link. no_beats; noted = [] }

-- One kind of node. `S` is its state, and `E` what it notes.
pub record Kind (S E : Type 0) : Type 1 where
  -- the numbers of the links above it and below it
  pub uppers : S → List ℕ
  pub lowers : S → List ℕ
  -- how a node of the kind stands before the first round
  pub begins : S → Type 0
  -- what holds of the state alone between rounds
  pub fact : S → Type 0
  -- when it may decide: in this round, on these links
  pub can : ℕ → List LinkView → S → Type 0
  -- its table: the state and the moves after this round on these links
  pub table : ℕ → List LinkView → S → Acted S
  -- some row's condition holds
  pub wants : List LinkView → S → Bool
  -- what it notes in a round
  pub notes : List LinkView → S → List E
  -- where transactions start, go on and end here
  pub way : S → Way
  -- the links around it, which have these forms and carry this, are as the kind wants them
  pub is_sound : (ℕ → LinkForm) → (ℕ → Schedule) → S → Type 0
  -- what its links have to carry, by their numbers, suits it and one another
  pub suits : (ℕ → Schedule) → S → Type 0
  -- what the state after so many rounds has to do with what has passed
  pub keeps : (ℕ → Schedule) → ℕ → S → Passed E → Type 0
  -- what it knows of transactions by what it has done for them
  pub knows : (ℕ → Schedule) → S → Passed E → Progress
  -- it waits for no answer
  pub is_done : S → Bool
  -- in so many rounds without a move on the same links it shows that it holds nothing back
  pub patience : S → ℕ

-- What most kinds have there: only an endpoint knows anything of transactions or notes anything, only a manager waits for
-- answers of its own, and only an endpoint's rows have delays.
abbrev pub knows_nothing : {S E : Type 0} → (ℕ → Schedule) → S → Passed E → Progress
knows_nothing schedules s passed = record { issued = λ number. false; written = λ number. false; filled = λ number. [] }

abbrev pub notes_nothing : {S E : Type 0} → List LinkView → S → List E
notes_nothing links s = []

abbrev pub always_done : {S : Type 0} → S → Bool
always_done s = true

abbrev pub without_delays : {S : Type 0} → S → ℕ
without_delays s = 1

module _ {S E : Type 0} (kind : Kind S E) where
  abbrev pub next_of : ℕ → List LinkView → S → S
  next_of round links s = (kind.table round links s).state

  abbrev pub out_of : ℕ → List LinkView → S → Out
  out_of round links s = (kind.table round links s).out

  -- what has passed after one more round
  abbrev pub passed_after : ℕ → List LinkView → S → Passed E → Passed E
  passed_after round links s passed = record {
    uppers = λ link. joined (passed.uppers link) (moved_below (out_of round links s) links link);
    lowers = λ link. joined (passed.lowers link) (moved_above (out_of round links s) links link);
    noted = passed.noted ++ kind.notes links s;
  }

-- each of these links asks, or answers, as its contract says
module _ (schedules : ℕ → Schedule) (now : Progress) where
  abbrev pub AskedAt : Trail → List ℕ → Type 0
  AskedAt trail links = All (λ link. Asks (schedules link) now (trail link)) links

  abbrev pub AnsweredAt : Trail → List ℕ → Type 0
  AnsweredAt trail links = All (λ link. Answers (schedules link) now (trail link)) links

-- what is known agrees with what a node has done: all that the node knows is known
abbrev pub IsKnown : {S E : Type 0} → Kind S E → (ℕ → Schedule) → Progress → S → Passed E → Type 0
IsKnown kind schedules now s passed = Grows (kind.knows schedules s passed) now

-- What a node may rely on in a round. It is asked as it should be at its upper links and asks so at its lower ones, and
-- is answered as it should be at its lower links and answers so at its upper ones: all of it as the round starts. Of its
-- neighbours it holds also with the heads that the node sees in the round, and after the round.
pub record AroundLinks {E : Type 0} (schedules : ℕ → Schedule) (now : Progress) (links : List LinkView) (uppers lowers : List ℕ) (passed next : Passed E) : Type 0 where
  pub asked : AskedAt schedules now passed.uppers uppers
  pub asked_seen : AskedAt schedules now (λ link. seen_below (passed.uppers link) (link_of links link)) uppers
  pub asked_next : AskedAt schedules now next.uppers uppers
  pub asks : AskedAt schedules now passed.lowers lowers
  pub answers : AnsweredAt schedules now passed.uppers uppers
  pub answered : AnsweredAt schedules now passed.lowers lowers
  pub answered_seen : AnsweredAt schedules now (λ link. seen_above (passed.lowers link) (link_of links link)) lowers
  pub answered_next : AnsweredAt schedules now next.lowers lowers

-- in this round
abbrev pub Around : {S E : Type 0} → Kind S E → (ℕ → Schedule) → Progress → ℕ → List LinkView → S → Passed E → Type 0
Around kind schedules now round links s passed = AroundLinks schedules now links (kind.uppers s) (kind.lowers s) passed (passed_after kind round links s passed)
