-- What every kind shows of the ways of transactions through its nodes.
use Rattle.std.specs.Prelude.{◌≡◌, ◌<◌, [], ℕ, Bool, Contains, Some, flat_map, length, true}
use Rattle.axi_trail.specs.Schedule.{Schedule, Share}
use Rattle.node_shape.specs.Kind.{Kind, Passed}
use Rattle.node_shape.specs.LinkForm.{LinkForm, lanes_wanted, parts_written, wanted_bytes}
use Rattle.node_shape.specs.Way.{IsWay, Origin, onto}
use Rattle.node_shape.specs.WaysAround.{IsCarried, WaysAround}

module _ {S E : Type 0} (kind : Kind S E) where
  -- the responses have no say
  abbrev pub HasWay : Type 0
  HasWay = (s : S) → IsWay (kind.way s)

  -- what goes on goes on by a link below
  abbrev pub GoesBelow : Type 0
  GoesBelow = (s : S) (share : Share) (link : ℕ) → (kind.way s).goes_on share ≡ Some link → Contains (kind.lowers s) link

  -- what starts here is legal on the link below by which it leaves, and has no responses yet
  pub record IsOrigin (forms : ℕ → LinkForm) (s : S) (origin : Origin) : Type 0 where
    pub below : Contains (kind.lowers s) origin.link
    pub is : IsCarried (forms origin.link) origin.write origin.link origin.share
    pub no_responses : origin.share.responses ≡ []

  abbrev pub OriginsFit : Type 0
  OriginsFit =
      (forms : ℕ → LinkForm) (schedules : ℕ → Schedule) (s : S) → kind.begins s → kind.is_sound forms schedules s → (origin : Origin) →
      Contains (kind.way s).origins origin → IsOrigin forms s origin

  -- What goes on is legal on its next link, has the same bytes, writes the same, wants as many lanes, and stays in its page.
  pub record IsSentOnWhole (forms : ℕ → LinkForm) (s : S) (write : Bool) (link next : ℕ) (share : Share) : Type 0 where
    pub is : IsCarried (forms next) write next (onto next ((kind.way s).cut share))
    pub bytes : flat_map (wanted_bytes (forms next)) ((kind.way s).cut share).parts ≡ flat_map (wanted_bytes (forms link)) share.parts
    pub lanes : lanes_wanted ((kind.way s).cut share).lanes ≡ lanes_wanted share.lanes
    pub written : write ≡ true → parts_written (forms next) ((kind.way s).cut share) ≡ parts_written (forms link) share

  abbrev pub CutsFit : Type 0
  CutsFit =
      (forms : ℕ → LinkForm) (schedules : ℕ → Schedule) (s : S) → kind.begins s → kind.is_sound forms schedules s →
      (write : Bool) (link next : ℕ) (share : Share) → Contains (kind.uppers s) link →
      IsCarried (forms link) write link share → (kind.way s).goes_on share ≡ Some next → IsSentOnWhole forms s write link next share

  -- so what the links of a new node carry suits it
  abbrev pub WaysSuit : Type 0
  WaysSuit =
      (forms : ℕ → LinkForm) (schedules : ℕ → Schedule) (s : S) → kind.begins s → kind.is_sound forms schedules s →
      WaysAround (kind.way s) (kind.uppers s) (kind.lowers s) forms schedules → kind.suits schedules s

  -- Only where a read ends are bytes read for it.
  pub record IsFilledHere (schedules : ℕ → Schedule) (s : S) (number : ℕ) : Type 0 where
    pub none_below : kind.lowers s ≡ []
    pub link : ℕ
    pub among : Contains (kind.uppers s) link
    pub comes : 0 < length ((schedules link).reads number).parts

  abbrev pub FillsAtEnds : Type 0
  FillsAtEnds =
      (schedules : ℕ → Schedule) (rounds : ℕ) (s : S) (passed : Passed E) → kind.keeps schedules rounds s passed → (number : ℕ) →
      0 < length ((kind.knows schedules s passed).filled number) →
      IsFilledHere schedules s number
