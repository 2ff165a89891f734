-- Histories and rounds that the rules of a port don't tell apart.
use Rattle.std.specs.Prelude.{◌≡◌, List, None}
use Rattle.axi_history.specs.declared.port.PortRound.{PortRound}
use Rattle.axi_history.specs.PortHistory.{transferred, waiting, on_aw, on_w, on_b, on_ar, on_r}

-- on each channel the same beat waits, and the same beats have been transferred
pub record Alike (h g : List PortRound) : Type 0 where
  pub aw_waits : waiting on_aw h ≡ waiting on_aw g
  pub w_waits : waiting on_w h ≡ waiting on_w g
  pub b_waits : waiting on_b h ≡ waiting on_b g
  pub ar_waits : waiting on_ar h ≡ waiting on_ar g
  pub r_waits : waiting on_r h ≡ waiting on_r g
  pub aw_moved : transferred on_aw h ≡ transferred on_aw g
  pub w_moved : transferred on_w h ≡ transferred on_w g
  pub b_moved : transferred on_b h ≡ transferred on_b g
  pub ar_moved : transferred on_ar h ≡ transferred on_ar g
  pub r_moved : transferred on_r h ≡ transferred on_r g

-- the same is offered and taken on each channel; the number of the round, the link and the kind of port don't count
pub record SameOffers (one other : PortRound) : Type 0 where
  pub aw : one.aw ≡ other.aw
  pub w : one.w ≡ other.w
  pub b : one.b ≡ other.b
  pub ar : one.ar ≡ other.ar
  pub r : one.r ≡ other.r

-- nothing is offered
pub record IsQuiet (round : PortRound) : Type 0 where
  pub aw : round.aw ≡ None
  pub w : round.w ≡ None
  pub b : round.b ≡ None
  pub ar : round.ar ≡ None
  pub r : round.r ≡ None
