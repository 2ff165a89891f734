-- What every kind of node has to show.
use Rattle.std.specs.Prelude.{◌≡◌, ◌<◌, ◌+◌, ℕ, zero, suc, List, All, false, length}
use Rattle.axi_link.specs.LinkView.{LinkView}
use Rattle.axi_link.specs.LinkWords.{link_of}
use Rattle.axi_trail.specs.Schedule.{Progress, Schedule}
use Rattle.axi_trail.specs.Trail.{seen_below}
use Rattle.node_core.specs.Acted.{no_moves, opened}
use Rattle.node_core.specs.Fits.{MovesFit}
use Rattle.node_shape.specs.Kind.{AnsweredAt, Around, AskedAt, Kind, Passed, IsKnown, next_of, nothing_passed, out_of, passed_after}
use Rattle.node_shape.specs.Quiet.{AreDeep, HoldsNothingBack, MovesOwn}

module _ {S E : Type 0} (kind : Kind S E) where
  -- Its table, of every state and all links.

  -- each take has its head and each put its room
  abbrev pub Fit : Type 0
  Fit = (round : ℕ) (links : List LinkView) (s : S) → MovesFit links (out_of kind round links s)

  -- it moves on its own links alone
  abbrev pub Own : Type 0
  Own = (round : ℕ) (links : List LinkView) (s : S) → MovesOwn (kind.uppers s) (kind.lowers s) (out_of kind round links s)

  -- its links and its patience stay, and so does that its links suit it
  pub record IsSteady (round : ℕ) (links : List LinkView) (s : S) : Type 0 where
    pub uppers : kind.uppers (next_of kind round links s) ≡ kind.uppers s
    pub lowers : kind.lowers (next_of kind round links s) ≡ kind.lowers s
    pub patience : kind.patience (next_of kind round links s) ≡ kind.patience s
    pub suits : (schedules : ℕ → Schedule) → kind.suits schedules s → kind.suits schedules (next_of kind round links s)

  abbrev pub Steady : Type 0
  Steady = (round : ℕ) (links : List LinkView) (s : S) → IsSteady round links s

  -- its fact holds at the start
  abbrev pub Begins : Type 0
  Begins = (s : S) → kind.begins s → kind.fact s

  -- and is kept
  abbrev pub Stays : Type 0
  Stays = (round : ℕ) (links : List LinkView) (s : S) → kind.fact s → kind.can round links s → kind.fact (next_of kind round links s)

  -- where no row's condition holds, nothing is moved and nothing changes
  abbrev pub Rests : Type 0
  Rests = (round : ℕ) (links : List LinkView) (s : S) → kind.wants links s ≡ false → kind.table round links s ≡ opened s

  -- What has passed on its links. `schedules` tells of each link what it has to carry, and `now` what is known of the
  -- transactions.

  -- nothing has passed at the start
  abbrev pub Opens : Type 0
  Opens = (schedules : ℕ → Schedule) (s : S) → kind.begins s → kind.suits schedules s → kind.keeps schedules 0 s nothing_passed

  -- it may decide, where it was asked as it should be for all that it sees
  abbrev pub MayDecide : Type 0
  MayDecide =
      (schedules : ℕ → Schedule) (now : Progress) (rounds : ℕ) (links : List LinkView) (s : S) (passed : Passed E) → kind.fact s → kind.suits schedules s →
      All (λ link. link < length links) (kind.uppers s) → All (λ link. link < length links) (kind.lowers s) →
      AskedAt schedules now (λ link. seen_below (passed.uppers link) (link_of links link)) (kind.uppers s) → kind.can (suc rounds) links s

  -- it lasts: a round between links that ask and answer as they should keeps what the state has to do with what has passed
  abbrev pub Lasts : Type 0
  Lasts =
      (schedules : ℕ → Schedule) (now : Progress) (rounds : ℕ) (links : List LinkView) (s : S) (passed : Passed E) → kind.fact s →
      kind.keeps schedules rounds s passed → kind.can (suc rounds) links s →
      Around kind schedules now (suc rounds) links s passed →
      kind.keeps schedules (suc rounds) (next_of kind (suc rounds) links s) (passed_after kind (suc rounds) links s passed)

  -- down: where it is asked as it should be above, it asks so below
  abbrev pub AsksBelow : Type 0
  AsksBelow =
      (schedules : ℕ → Schedule) (now : Progress) (rounds : ℕ) (s : S) (passed : Passed E) → kind.fact s → kind.keeps schedules rounds s passed →
      IsKnown kind schedules now s passed →
      AskedAt schedules now passed.uppers (kind.uppers s) → AskedAt schedules now passed.lowers (kind.lowers s)

  -- up: where it is answered as it should be below, it answers so above
  abbrev pub AnswersAbove : Type 0
  AnswersAbove =
      (schedules : ℕ → Schedule) (now : Progress) (rounds : ℕ) (s : S) (passed : Passed E) → kind.fact s → kind.keeps schedules rounds s passed →
      IsKnown kind schedules now s passed →
      AskedAt schedules now passed.uppers (kind.uppers s) → AskedAt schedules now passed.lowers (kind.lowers s) →
      AnsweredAt schedules now passed.lowers (kind.lowers s) →
      AnsweredAt schedules now passed.uppers (kind.uppers s)

  -- Progress. A row of an endpoint may wait, so one round without a move tells little: the links stay as they are for as
  -- many rounds as the kind's patience.

  -- the state after so many rounds more on the same links
  abbrev pub later : ℕ → List LinkView → ℕ → S → S
  later rounds links zero s = s
  later rounds links (suc i) s = next_of kind (suc (rounds + i)) links (later rounds links i s)

  -- it does nothing in so many rounds on the same links
  abbrev pub IsIdle : ℕ → List LinkView → ℕ → S → Type 0
  IsIdle rounds links count s = (i : ℕ) → i < count → out_of kind (suc (rounds + i)) links (later rounds links i s) ≡ no_moves

  -- a node that does nothing for as long as its patience holds nothing back
  abbrev pub IdleHoldsNothing : Type 0
  IdleHoldsNothing =
      (schedules : ℕ → Schedule) (now : Progress) (rounds : ℕ) (links : List LinkView) (s : S) (passed : Passed E) → kind.fact s →
      kind.keeps schedules rounds s passed →
      Around kind schedules now (suc rounds) links s passed → AreDeep (link_of links) (kind.uppers s) → AreDeep (link_of links) (kind.lowers s) →
      IsIdle rounds links (kind.patience s) s →
      HoldsNothingBack (link_of links) passed.uppers passed.lowers (kind.uppers s) (kind.lowers s) (kind.is_done s)
