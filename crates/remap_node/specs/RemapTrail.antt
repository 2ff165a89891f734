-- What a remapper has passed on its two links, what its pairs have to do with it, and the remapper as a kind of node.
use Rattle.std.specs.Prelude.{◌≡◌, ◌≢◌, ◌<◌, ◌≤◌, ◌++◌, ◌∷◌, [], ℕ, List, All, Some, map}
use Rattle.axi_beats.specs.declared.beat.Addr.{Addr}
use Rattle.axi_beats.specs.declared.beat.BBeat.{BBeat}
use Rattle.axi_beats.specs.declared.beat.RBeat.{RBeat}
use Rattle.axi_trail.specs.Schedule.{Schedule}
use Rattle.axi_trail.specs.Trail.{Beats}
use Rattle.axi_trail.specs.Waiting.{Waiting, beats_by, held}
use Rattle.axi_trail.specs.Words.{Asked, InOrderOfId, Reply, id_of_reply, read_replies, write_replies}
use Rattle.node_shape.specs.Carries.{Carries}
use Rattle.node_shape.specs.Kind.{Kind, always_done, knows_nothing, notes_nothing, without_delays}
use Rattle.node_shape.specs.LinkForm.{IsAlike, LinkForm}
use Rattle.node_shape.specs.Way.{go_on_by}
use Rattle.plain_lists.specs.Keys.{count_of, of_key}
use Rattle.remap_node.specs.RemapState.{IsNewRemap, IsRemap, RemapShape, RemapState, ids_below}
use Rattle.remap_node.specs.RemapTable.{CanRemap, Renamed, address_as, ids_of_request, read_data_as, remap_table, remap_wants, response_as}
use Rattle.remap_node.specs.declared.pair.IdPair.{IdPair}

-- the same beats on both links but for their IDs: `moved` tells them with both
abbrev pub old_beat : {X : Type 0} → Renamed X → X
old_beat m = m.beat

pub record AreRenamed {X : Type 0} (new_beat : Renamed X → X) (moved : List (Renamed X)) (from to : List X) : Type 0 where
  pub from_is : from ≡ map old_beat moved
  pub to_is : to ≡ map new_beat moved

-- the IDs of a request above and below
abbrev pub id_above : Renamed Addr → ℕ
id_above m = m.beat.id

abbrev pub id_below : Renamed Addr → ℕ
id_below m = m.id

-- One direction. `later` tells of AxLEN how many answer beats of a request come after its first one.
module _ (later : ℕ → ℕ) where
  abbrev pub later_of : Renamed Addr → ℕ
  later_of m = later m.beat.len

  -- what a request shows above and below
  abbrev pub asked_later : Addr → Asked
  asked_later a = record { number = a.tag.txn; id = a.id; len = later a.len }

  abbrev pub shown_above : Renamed Addr → Asked
  shown_above m = asked_later m.beat

  abbrev pub shown_below : Renamed Addr → Asked
  shown_below m = asked_later (address_as m)

  -- the requests that lack answers, where answers with these IDs have come: by the IDs above, and by those below
  abbrev pub held_above : List (Renamed Addr) → List ℕ → List (Waiting (Renamed Addr))
  held_above moved ids = held later_of id_above moved ids

  abbrev pub held_below : List (Renamed Addr) → List ℕ → List (Waiting (Renamed Addr))
  held_below moved ids = held later_of id_below moved ids

  -- a request that went on after these ones is answered below
  abbrev pub IsAnsweredBelow : List (Renamed Addr) → Renamed Addr → List ℕ → Type 0
  IsAnsweredBelow before m ids = beats_by later_of (of_key id_below m.id (before ++ m ∷ [])) ≤ count_of m.id ids

  -- What the pairs of a direction have to do with the requests that went on and with their answers above and below.
  pub record PairsAreHeld (ids : ℕ) (moved : List (Renamed Addr)) (pairs : List IdPair) (above below : List Reply) : Type 0 where
    pub small : All (λ (m : Renamed Addr). m.id < ids) moved
    pub entries : pairs ≡ map (λ (w : Waiting (Renamed Addr)). ids_of_request w.request) (held_below moved (map id_of_reply below))
    -- of the first requests, however many, the same lack answers above and below, and as many beats
    pub same : (front back : List (Renamed Addr)) → moved ≡ front ++ back → held_above front (map id_of_reply above) ≡ held_below front (map id_of_reply below)
    -- of two requests with one ID above and two IDs below, the earlier one is answered
    pub one_output : (before : List (Renamed Addr)) (m : Renamed Addr) (between : List (Renamed Addr)) (next : Renamed Addr) (after : List (Renamed Addr)) →
        moved ≡ (before ++ m ∷ between) ++ next ∷ after → m.beat.id ≡ next.beat.id → m.id ≢ next.id → IsAnsweredBelow before m (map id_of_reply below)
    pub order_above : InOrderOfId (map shown_above moved) above
    pub order_below : InOrderOfId (map shown_below moved) below

-- a write has one answer, and a read one for each of its beats
abbrev pub none_later : ℕ → ℕ
none_later len = 0

abbrev pub burst_later : ℕ → ℕ
burst_later len = len

-- the link below carries all that the one above does, with IDs of its own
abbrev pub SuitRemap : RemapShape → (ℕ → Schedule) → Type 0
SuitRemap shape schedules = Carries (record (schedules shape.upper) { id_width = shape.width }) (schedules shape.lower)

-- What holds of a remapper.
pub record RemapKeeps (schedules : ℕ → Schedule) (s : RemapState) (upper lower : Beats) : Type 0 where
  pub suits : SuitRemap s.shape schedules
  pub writes : List (Renamed Addr)
  pub aw : AreRenamed address_as writes upper.aw lower.aw
  pub w : lower.w ≡ upper.w
  pub responses : List (Renamed BBeat)
  pub b : AreRenamed response_as responses lower.b upper.b
  pub reads : List (Renamed Addr)
  pub ar : AreRenamed address_as reads upper.ar lower.ar
  pub read_data : List (Renamed RBeat)
  pub r : AreRenamed read_data_as read_data lower.r upper.r
  pub write_ids : PairsAreHeld none_later (ids_below s.shape) writes s.writes (write_replies upper) (write_replies lower)
  pub read_ids : PairsAreHeld burst_later (ids_below s.shape) reads s.reads (read_replies upper) (read_replies lower)

-- the links are alike, but that IDs below have their own width
pub record IsSoundRemap (forms : ℕ → LinkForm) (shape : RemapShape) : Type 0 where
  pub alike : IsAlike (forms shape.upper) (forms shape.lower)
  pub width : (forms shape.lower).id_width ≡ shape.width

-- a remapper; `E` is what other kinds note of their rounds
abbrev pub remap_kind : {E : Type 0} → Kind RemapState E
remap_kind = record {
  uppers = λ s. s.shape.upper ∷ [];
  lowers = λ s. s.shape.lower ∷ [];
  begins = IsNewRemap;
  fact = IsRemap;
  can = λ round links s. CanRemap links s.shape;
  table = λ round links s. remap_table links s;
  wants = remap_wants;
  notes = notes_nothing;
  way = λ s. go_on_by (λ share. Some s.shape.lower);
  is_sound = λ forms schedules s. IsSoundRemap forms s.shape;
  suits = λ schedules s. SuitRemap s.shape schedules;
  keeps = λ schedules rounds s passed. RemapKeeps schedules s (passed.uppers s.shape.upper) (passed.lowers s.shape.lower);
  knows = knows_nothing;
  is_done = always_done;
  patience = without_delays;
}
