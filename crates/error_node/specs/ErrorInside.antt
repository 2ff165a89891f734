-- How an error subordinate is kept: what contracts see of its fields, and what holds of them.
use Rattle.std.specs.Prelude.{◌≡◌, None}
use Rattle.error_node.specs.ErrorState.{ErrorState, IsError}
use Rattle.error_node.specs.declared.error.ErrorNode.TheInside.{Inside}
use Rattle.node_core.specs.Acted.{Acted}

-- the state that contracts see
abbrev pub error_state : Inside → ErrorState
error_state e = record { upper = e.upper; paces = e.paces; writes = e.writes; reads = e.reads; kept = tt }

-- and with it the moves of the round
abbrev pub error_view : Inside → Acted ErrorState
error_view e = record { state = error_state e; out = e.out }

-- it puts no request and no write data, and takes no answer
pub record IsErrorInside (e : Inside) : Type 0 where
  pub state : IsError (error_state e)
  pub aw_put : e.out.aw_put ≡ None
  pub w_put : e.out.w_put ≡ None
  pub b_take : e.out.b_take ≡ None
  pub ar_put : e.out.ar_put ≡ None
  pub r_take : e.out.r_take ≡ None
