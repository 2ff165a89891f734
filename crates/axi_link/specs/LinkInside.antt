-- How a link keeps its five lists: each queue has room for as many beats as the link is deep.
use Rattle.std.specs.Prelude.{◌≡◌}
use Rattle.axi_link.specs.LinkView.{LinkView}
use Rattle.axi_link.specs.declared.link.Link.TheInside.{Inside}

-- a link as contracts see it: the beats of its queues, and its depth
abbrev pub link_view : Inside → LinkView
link_view l = record { aw = l.aw.items; w = l.w.items; b = l.b.items; ar = l.ar.items; r = l.r.items; depth = l.depth }

-- the capacity of each queue is the link's depth, so that none holds more beats
pub record IsLink (l : Inside) : Type 0 where
  pub aw_capacity : l.aw.capacity ≡ l.depth
  pub w_capacity : l.w.capacity ≡ l.depth
  pub b_capacity : l.b.capacity ≡ l.depth
  pub ar_capacity : l.ar.capacity ≡ l.depth
  pub r_capacity : l.r.capacity ≡ l.depth
