-- What a node sees of a link (Arm IHI 0022, handshake process).
use Rattle.std.specs.Prelude.{ℕ, List, Bool, Option, length, nat_lt, slice_get, slice_index_or}
use Rattle.axi_link.specs.LinkView.{LinkView, empty_link}

-- The link of a number; where there is none, one without beats and without room, so that nothing can be moved on
-- it.
abbrev pub link_of : List LinkView → ℕ → LinkView
link_of links number = slice_index_or links number (empty_link 0)

module _ {X : Type 0} where
  -- the beat that a channel offers
  abbrev pub head_of : List X → Option X
  head_of xs = slice_get xs 0

  -- fewer beats wait than may wait
  abbrev pub has_room : ℕ → List X → Bool
  has_room depth xs = nat_lt (length xs) depth
