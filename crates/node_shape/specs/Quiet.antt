-- A node that does nothing: what it shows then of its own links and of what it has passed there.
use Rattle.std.specs.Prelude.{◌≡◌, ◌<◌, [], ℕ, List, Bool, All, Contains, IfSome, IsTrue, length, map}
use Rattle.axi_link.specs.LinkView.{LinkView}
use Rattle.axi_link.specs.declared.out.Out.{Out}
use Rattle.axi_trail.specs.Trail.{Beats, Trail}
use Rattle.axi_trail.specs.Words.{beats_due, burst_asked, held_asked, read_replies, reads_asked, write_replies, writes_asked}

-- at this end of a link every read is answered, and no further one waits on the link
pub record HasNoRead (link : LinkView) (trail : Beats) : Type 0 where
  pub none_waits : length link.ar ≡ 0
  pub none_held : held_asked (reads_asked trail) (read_replies trail) ≡ []

-- at this end of a link every write is answered, and no further one waits on the link
pub record HasNoWrite (link : LinkView) (trail : Beats) : Type 0 where
  pub none_waits : length link.aw ≡ 0
  pub none_held : held_asked (writes_asked trail) (write_replies trail) ≡ []

-- at this end of a link some address lacks data, and none waits on the link
pub record LacksData (link : LinkView) (trail : Beats) : Type 0 where
  pub none_waits : length link.w ≡ 0
  pub lacks : length trail.w < beats_due (map burst_asked trail.aw)

module _ (queues : ℕ → LinkView) where
  -- each of these links could hold a beat
  abbrev pub AreDeep : List ℕ → Type 0
  AreDeep links = All (λ l. 0 < (queues l).depth) links

  -- one more answer of this channel has room on each of these links
  abbrev pub HaveRoomB : List ℕ → Type 0
  HaveRoomB links = All (λ l. length (queues l).b < (queues l).depth) links

  abbrev pub HaveRoomR : List ℕ → Type 0
  HaveRoomR links = All (λ l. length (queues l).r < (queues l).depth) links

  -- no answer of this channel waits on any of these links
  abbrev pub HaveNoB : List ℕ → Type 0
  HaveNoB links = All (λ l. length (queues l).b ≡ 0) links

  abbrev pub HaveNoR : List ℕ → Type 0
  HaveNoR links = All (λ l. length (queues l).r ≡ 0) links

  abbrev pub HaveNoRead : Trail → List ℕ → Type 0
  HaveNoRead trail links = All (λ l. HasNoRead (queues l) (trail l)) links

  abbrev pub HaveNoWrite : Trail → List ℕ → Type 0
  HaveNoWrite trail links = All (λ l. HasNoWrite (queues l) (trail l)) links

  -- A node between the links `above` and `below`, which has passed `uppers` and `lowers` there, holds nothing back: where
  -- it does nothing, the cause stands on its links. `done` tells that it waits for no answer.
  pub record HoldsNothingBack (uppers lowers : Trail) (above below : List ℕ) (done : Bool) : Type 0 where
    -- it leaves an answer where it is only for want of room above
    pub responses : HaveRoomB above → HaveNoB below
    pub read_data : HaveRoomR above → HaveNoR below
    -- a read is open above only where one is open below, or where its answer waits
    pub reads : HaveRoomR above → HaveNoR below → HaveNoRead lowers below → HaveNoRead uppers above
    -- a link below lacks data only where a link above does
    pub data_lacks : (l : ℕ) → Contains below l → LacksData (queues l) (lowers l) → (u : ℕ) × Contains above u × LacksData (queues u) (uppers u)
    -- a write is open above only where one is open below, where its answer waits, or where its data lacks above
    pub writes : HaveRoomB above → HaveNoB below → All (λ l. ¬ LacksData (queues l) (uppers l)) above → HaveNoWrite lowers below → HaveNoWrite uppers above
    -- it waits for an answer only where one is open below
    pub ends : HaveNoB below → HaveNoR below → HaveNoRead lowers below → HaveNoWrite lowers below → IsTrue done

-- a node moves on its own links alone: it takes requests from those above and puts them on those below, and takes answers
-- from those below and puts them on those above
pub record MovesOwn (above below : List ℕ) (out : Out) : Type 0 where
  pub aw_take : IfSome out.aw_take (Contains above)
  pub aw_put : IfSome out.aw_put (λ put. Contains below put.0)
  pub w_take : IfSome out.w_take (Contains above)
  pub w_put : IfSome out.w_put (λ put. Contains below put.0)
  pub b_take : IfSome out.b_take (Contains below)
  pub b_put : IfSome out.b_put (λ put. Contains above put.0)
  pub ar_take : IfSome out.ar_take (Contains above)
  pub ar_put : IfSome out.ar_put (λ put. Contains below put.0)
  pub r_take : IfSome out.r_take (Contains below)
  pub r_put : IfSome out.r_put (λ put. Contains above put.0)
