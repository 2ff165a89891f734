-- What a kind of node shows, all together.
use Rattle.node_shape.specs.Kind.{Kind}
use Rattle.node_shape.specs.KindLaws.{AnswersAbove, AsksBelow, Begins, Fit, IdleHoldsNothing, Lasts, MayDecide, Opens, Own, Rests, Stays, Steady}
use Rattle.node_shape.specs.WayLaws.{CutsFit, FillsAtEnds, GoesBelow, HasWay, OriginsFit, WaysSuit}

pub record KindHolds {S E : Type 0} (kind : Kind S E) : Type 0 where
  -- of its table
  pub fit : Fit kind
  pub own : Own kind
  pub steady : Steady kind
  pub begins : Begins kind
  pub stays : Stays kind
  pub rests : Rests kind
  -- of the ways of transactions
  pub has_way : HasWay kind
  pub goes_below : GoesBelow kind
  pub origins_fit : OriginsFit kind
  pub cuts_fit : CutsFit kind
  pub ways_suit : WaysSuit kind
  -- of what has passed on its links
  pub opens : Opens kind
  pub may_decide : MayDecide kind
  pub lasts : Lasts kind
  pub asks_below : AsksBelow kind
  pub answers_above : AnswersAbove kind
  pub fills_at_ends : FillsAtEnds kind
  pub idle_holds_nothing : IdleHoldsNothing kind
