-- What an error subordinate does in a round (Arm IHI 0022, read and write response structure): what all subordinates do.
use Rattle.std.specs.Prelude.{◌<◌, List, Bool, length, replicate}
use Rattle.axi_beats.specs.declared.response.Resp.TheVariants.{DecErr}
use Rattle.axi_link.specs.LinkView.{LinkView}
use Rattle.axi_link.specs.declared.out.Out.{Out}
use Rattle.error_node.specs.ErrorState.{ErrorState}
use Rattle.node_core.specs.Acted.{Acted}
use Rattle.node_core.specs.Paces.{any_row}
use Rattle.subordinate.specs.Service.{Service}
use Rattle.subordinate.specs.SubordinateTable.{its_wishes, served, serves}

-- it writes nothing, answers each beat with DECERR, and puts zeros
abbrev pub error_service : Service (Unit {0})
error_service = record {
  data_status = λ request beat w. DecErr;
  data_kept = λ request beat w kept. kept;
  beat_status = λ request beat. DecErr;
  beat_lanes = λ kept request beat. replicate 128 0;
}

module _ (links : List LinkView) (s : ErrorState) where
  -- the takes and puts of the round
  abbrev pub error_out : Out
  error_out = serves error_service links s

  -- what it does in a round
  abbrev pub error_table : Acted ErrorState
  error_table = record { state = served error_service links s; out = error_out }

  -- some row's condition holds
  abbrev pub error_wants : Bool
  error_wants = any_row (its_wishes error_service links s)

-- its link is there
pub record CanError (links : List LinkView) (s : ErrorState) : Type 0 where
  pub upper : s.upper < length links
