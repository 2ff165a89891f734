-- What holds of a head holds of what a row passes on of it.
use Rattle.std.proofs.Common.{Option, Bool, true, false}
use Rattle.std.specs.Prelude.{IfSome}
use Rattle.node_core.specs.Rows.{beat_where}

pub beat_where-has : {X : Type 0} (P : X → Type 0) (holds : Bool) (o : Option X) → IfSome o P → IfSome (beat_where holds o) P
beat_where-has P true o has = has
beat_where-has P false o has = tt
