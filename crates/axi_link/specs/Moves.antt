-- The moves of a round on one link (Arm IHI 0022, handshake process).
use Rattle.std.specs.Prelude.{◌==◌, ◌<◌, ◌++◌, ◌∷◌, [], ℕ, List, Bool, true, false, Option, Some, None, IsTrue, length, drop, if◌then◌else◌}
use Rattle.axi_link.specs.LinkView.{LinkView}
use Rattle.axi_link.specs.declared.out.Out.{Out}

-- whether the head is taken from this link
abbrev pub takes_from : ℕ → Option ℕ → Bool
takes_from number None = false
takes_from number (Some link) = link == number

module _ {X : Type 0} where
  -- the beats that are put on this link: one, or none
  abbrev pub appended : ℕ → Option (ℕ × X) → List X
  appended number None = []
  appended number (Some put) = if put.0 == number then put.1 ∷ [] else []

  -- the beats without the oldest one where it is taken, else all of them
  abbrev pub without_head : Bool → List X → List X
  without_head true xs = drop 1 xs
  without_head false xs = xs

  -- the beats of a channel of this link that a round's take leaves
  abbrev pub left_of : ℕ → Option ℕ → List X → List X
  left_of number take xs = without_head (takes_from number take) xs

  -- a take from this link has a head, and a put on it has room at the round's start: a head that leaves in the
  -- round makes none
  pub record CanAdvance (number depth : ℕ) (xs : List X) (take : Option ℕ) (put : Option (ℕ × X)) : Type 0 where
    pub head : IsTrue (takes_from number take) → 0 < length xs
    pub room : 0 < length (appended number put) → length xs < depth

-- the link after a round: each channel without its taken head, and with what is put on it
abbrev pub link_after : ℕ → LinkView → Out → Out → LinkView
link_after number l upper lower = record {
  aw = left_of number lower.aw_take l.aw ++ appended number upper.aw_put;
  w = left_of number lower.w_take l.w ++ appended number upper.w_put;
  b = left_of number upper.b_take l.b ++ appended number lower.b_put;
  ar = left_of number lower.ar_take l.ar ++ appended number upper.ar_put;
  r = left_of number upper.r_take l.r ++ appended number lower.r_put;
  depth = l.depth;
}

-- every take of the round has its head on this link, and every put its room
pub record CanMove (number : ℕ) (l : LinkView) (upper lower : Out) : Type 0 where
  pub aw : CanAdvance number l.depth l.aw lower.aw_take upper.aw_put
  pub w : CanAdvance number l.depth l.w lower.w_take upper.w_put
  pub b : CanAdvance number l.depth l.b upper.b_take lower.b_put
  pub ar : CanAdvance number l.depth l.ar lower.ar_take upper.ar_put
  pub r : CanAdvance number l.depth l.r upper.r_take lower.r_put
