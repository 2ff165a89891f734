-- What a kind in the middle of a network does wherever it can, of every state and all links.
use Rattle.std.specs.Prelude.{◌≡◌, ◌<◌, ◌++◌, [], ℕ, List, Bool, All, Contains, IfSome, IsSome, IsTrue, Option, None, Some, false, flat_map, length, map, remove, take}
use Rattle.axi_beats.specs.declared.beat.Addr.{Addr}
use Rattle.axi_beats.specs.declared.beat.BBeat.{BBeat}
use Rattle.axi_beats.specs.declared.beat.RBeat.{RBeat}
use Rattle.axi_beats.specs.declared.beat.WBeat.{WBeat}
use Rattle.axi_link.specs.LinkView.{LinkView}
use Rattle.axi_link.specs.LinkWords.{head_of, link_of}
use Rattle.axi_link.specs.declared.out.Out.{Out}
use Rattle.axi_trail.specs.Schedule.{Schedule}
use Rattle.axi_trail.specs.Words.{beats_due, burst_asked}
use Rattle.node_shape.specs.Kind.{Kind, Passed, next_of, out_of}
use Rattle.node_shape.specs.Quiet.{HaveRoomB, HaveRoomR}

-- The entries of one direction, oldest first. `K` is what of an entry never changes.
pub record Entries (S K : Type 0) : Type 0 where
  pub entries : S → List K
  -- the entry that an address adds which is taken from this link; none where the table adds none
  pub entry_of : S → ℕ × Addr → List K
  -- the place of the entry that leaves in a round on these links
  pub leaving : List LinkView → S → Option ℕ
  -- the take with which entries leave
  pub leaves_with : Out → Option ℕ
  -- some parts of a taken burst aren't put yet
  pub in_work : S → Bool

-- What the local laws read of a kind.
pub record Inside (S K : Type 0) : Type 0 where
  pub writes : Entries S K
  pub reads : Entries S K
  -- the table can place this answer
  pub places_response : S → BBeat → Bool
  pub places_read_data : S → RBeat → Bool
  -- the link above whose write data goes on next, the link below on which it goes, and whether a head goes wholly with
  -- the next beat that is put
  pub awaited : S → Option ℕ
  pub data_to : S → ℕ
  pub whole : S → Bool

module _ {X : Type 0} (queue_of : LinkView → List X) (links : List LinkView) where
  -- the head that is taken, with the link that it is taken from, where one is
  abbrev pub head_taken : Option ℕ → List (ℕ × X)
  head_taken None = []
  head_taken (Some link) = map (λ head. (link, head)) (take 1 (queue_of (link_of links link)))

  -- each of these links has room on this channel
  abbrev pub HaveRoom : List ℕ → Type 0
  HaveRoom numbers = All (λ l. length (queue_of (link_of links l)) < (link_of links l).depth) numbers

-- the entries without the one that leaves
abbrev pub left : {K : Type 0} → Option ℕ → List K → List K
left None entries = entries
left (Some place) entries = remove entries place

module _ {S E K : Type 0} (kind : Kind S E) (inside : Inside S K) where
  -- Where some link below offers an answer that the table can place, and all links above have room for one, an answer is
  -- taken.
  abbrev pub ResponsesTaken : Type 0
  ResponsesTaken =
      (round : ℕ) (links : List LinkView) (s : S) → kind.fact s → kind.can round links s → (l : ℕ) (b : BBeat) → Contains (kind.lowers s) l →
      head_of (link_of links l).b ≡ Some b →
      IsTrue (inside.places_response s b) → HaveRoomB (link_of links) (kind.uppers s) → IsSome (out_of kind round links s).b_take

  abbrev pub ReadDataTaken : Type 0
  ReadDataTaken =
      (round : ℕ) (links : List LinkView) (s : S) → kind.fact s → kind.can round links s → (l : ℕ) (r : RBeat) → Contains (kind.lowers s) l →
      head_of (link_of links l).r ≡ Some r →
      IsTrue (inside.places_read_data s r) → HaveRoomR (link_of links) (kind.uppers s) → IsSome (out_of kind round links s).r_take

  abbrev pub AnswersTaken : Type 0
  AnswersTaken = ResponsesTaken × ReadDataTaken

  -- Without entries of a direction and without a burst of it in work, an address is taken where some link above offers one
  -- and all links below have room, whatever write data stands above.
  abbrev pub TakesAddresses : Entries S K → (LinkView → List Addr) → (Out → Option ℕ) → Type 0
  TakesAddresses direction queue_of take_of_out =
      (round : ℕ) (links : List LinkView) (s : S) → kind.fact s → kind.can round links s → (u : ℕ) (a : Addr) → direction.entries s ≡ [] →
      direction.in_work s ≡ false →
      Contains (kind.uppers s) u → head_of (queue_of (link_of links u)) ≡ Some a → HaveRoom queue_of links (kind.lowers s) →
      IsSome (take_of_out (out_of kind round links s))

  abbrev pub AddressesTaken : Type 0
  AddressesTaken = TakesAddresses inside.writes (λ l. l.aw) (λ out. out.aw_take) × TakesAddresses inside.reads (λ l. l.ar) (λ out. out.ar_take)

  -- Write data is taken from the awaited link alone, and goes to the link below that its address went to. A head of the
  -- awaited link goes on where there is room there. Where an address that was put below lacks data, a link above is
  -- awaited.
  abbrev pub AwaitedGoesOn : Type 0
  AwaitedGoesOn =
      (round : ℕ) (links : List LinkView) (s : S) → kind.fact s → kind.can round links s → (u : ℕ) (w : WBeat) → inside.awaited s ≡ Some u →
      head_of (link_of links u).w ≡ Some w →
      length (link_of links (inside.data_to s)).w < (link_of links (inside.data_to s)).depth →
      IsSome (out_of kind round links s).w_put × (IsTrue (inside.whole s) → (out_of kind round links s).w_take ≡ Some u)

  abbrev pub NoOtherGoesOn : Type 0
  NoOtherGoesOn =
      (round : ℕ) (links : List LinkView) (s : S) → kind.fact s → kind.can round links s →
      IfSome (out_of kind round links s).w_take (λ u. inside.awaited s ≡ Some u) × IfSome (out_of kind round links s).w_put (λ put. put.0 ≡ inside.data_to s)

  abbrev pub SomeIsAwaited : Type 0
  SomeIsAwaited =
      (schedules : ℕ → Schedule) (rounds : ℕ) (s : S) (passed : Passed E) → kind.keeps schedules rounds s passed → (l : ℕ) → Contains (kind.lowers s) l →
      length (passed.lowers l).w < beats_due (map burst_asked (passed.lowers l).aw) → (u : ℕ) × (inside.awaited s ≡ Some u) × Contains (kind.uppers s) u

  abbrev pub DataAwaited : Type 0
  DataAwaited = AwaitedGoesOn × NoOtherGoesOn × SomeIsAwaited

  -- An address that is taken adds the last entry, where the table adds one. An entry leaves with the beat that the table
  -- names, and with no other. All other entries stay, in their order.
  pub record EntriesStayIn (round : ℕ) (links : List LinkView) (s : S) (direction : Entries S K) (addresses : List (ℕ × Addr)) : Type 0 where
    pub stay : direction.entries (next_of kind round links s) ≡ left (direction.leaving links s) (direction.entries s) ++ flat_map (direction.entry_of s) addresses
    pub leaves : IfSome (direction.leaving links s) (λ place. (place < length (direction.entries s)) × IsSome (direction.leaves_with (out_of kind round links s)))

  abbrev pub EntriesStay : Type 0
  EntriesStay =
      (round : ℕ) (links : List LinkView) (s : S) → kind.fact s → kind.can round links s →
      EntriesStayIn round links s inside.writes (head_taken (λ l. l.aw) links (out_of kind round links s).aw_take)
      × EntriesStayIn round links s inside.reads (head_taken (λ l. l.ar) links (out_of kind round links s).ar_take)
