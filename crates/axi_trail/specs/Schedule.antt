-- What one link has to carry for each transaction, as it follows from the network and the traffic alone.
use Rattle.std.specs.Prelude.{◌≡◌, ◌<◌, ◌+◌, ◌++◌, ◌∷◌, [], ℕ, List, Bool, IsTrue, slice_range}
use Rattle.axi_beats.specs.declared.beat.Addr.{Addr}
use Rattle.axi_beats.specs.declared.beat.WBeat.{WBeat}
use Rattle.axi_beats.specs.declared.beat.RBeat.{RBeat}
use Rattle.axi_beats.specs.declared.response.Resp.{Resp}
use Rattle.plain_lists.specs.Prefixes.{IsPrefix}
use Rattle.axi_beats.specs.Lanes.{Span}

-- One transaction on one link, in one direction; all lists are empty where it doesn't come by.
pub record Share : Type 0 where
  -- the requests that it is cut into, in order, each with ID 0
  pub parts : List Addr
  -- the write data of each part
  pub write_data : List (List WBeat)
  -- the wanted lanes of each beat of read data
  pub lanes : List Span
  -- the response to each part of a write, and of each beat of a read
  pub responses : List Resp
  -- its chain: who issued it, with which ID and in which direction, and by which links it came here
  pub chain : List ℕ

-- a transaction that doesn't come by
abbrev pub no_share : Share
no_share = record { parts = []; write_data = []; lanes = []; responses = []; chain = [] }

-- one link: the width of its IDs in bits, and the shares of each transaction, by number
pub record Schedule : Type 0 where
  pub id_width : ℕ
  pub writes : ℕ → Share
  pub reads : ℕ → Share

-- of one manager, ID and direction, and come by one way
abbrev pub SameChain : (ℕ → Share) → ℕ → ℕ → Type 0
SameChain shares t u = (shares t).chain ≡ (shares u).chain

-- earlier in its chain
abbrev pub ComesBefore : (ℕ → Share) → ℕ → ℕ → Type 0
ComesBefore shares t u = (t < u) × SameChain shares t u

-- what is known of each transaction, by number, at some time of a run
pub record Progress : Type 0 where
  -- its request has left its manager
  pub issued : ℕ → Bool
  -- its write data has come to its subordinate
  pub written : ℕ → Bool
  -- the bytes that its subordinate has read for it, in order of the beats and of the lanes
  pub filled : ℕ → List ℕ

-- nothing of it is lost at a later time
pub record Grows (early late : Progress) : Type 0 where
  pub issued : (t : ℕ) → IsTrue (early.issued t) → IsTrue (late.issued t)
  pub written : (t : ℕ) → IsTrue (early.written t) → IsTrue (late.written t)
  pub filled : (t : ℕ) → IsPrefix (early.filled t) (late.filled t)

-- the bytes of beats of read data on their wanted lanes
abbrev pub bytes_on : List RBeat → List Span → List ℕ
bytes_on [] lanes = []
bytes_on (r ∷ beats) [] = []
bytes_on (r ∷ beats) (span ∷ lanes) = slice_range r.lanes span.low (span.high + 1) ++ bytes_on beats lanes
