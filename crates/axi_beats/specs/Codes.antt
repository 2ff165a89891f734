-- The numbers that stand for the kinds of bursts and for the responses (Arm IHI 0022, burst type, read and write response
-- structure).
use Rattle.std.specs.Prelude.{◌≡◌, ◌↔◌, ◌==◌, ℕ, Option, Some, None, if◌then◌else◌}
use Rattle.axi_beats.specs.declared.beat.Burst.{Burst}
use Rattle.axi_beats.specs.declared.beat.Burst.TheVariants.{Fixed, Incr, Wrap}
use Rattle.axi_beats.specs.declared.response.Resp.{Resp}
use Rattle.axi_beats.specs.declared.response.Resp.TheVariants.{Okay, SlvErr, DecErr}

-- AxBURST of a kind of burst
abbrev pub burst_code : Burst → ℕ
burst_code Fixed = 0
burst_code Incr = 1
burst_code Wrap = 2

-- the kind of burst with a code; 3 is reserved
abbrev pub burst_of_code : ℕ → Option Burst
burst_of_code code =
    if code == 0 then Some Fixed
    else if code == 1 then Some Incr
    else if code == 2 then Some Wrap
    else None

-- BRESP or RRESP of a response
abbrev pub response_code : Resp → ℕ
response_code Okay = 0
response_code SlvErr = 2
response_code DecErr = 3

-- the response with a code; 1 is EXOKAY, which answers exclusive accesses alone
abbrev pub response_of_code : ℕ → Option Resp
response_of_code code =
    if code == 0 then Some Okay
    else if code == 2 then Some SlvErr
    else if code == 3 then Some DecErr
    else None

-- a kind has a code exactly where the code has the kind, and so too with the responses
abbrev pub BurstCodesAreInverse : Type 0
BurstCodesAreInverse = (code : ℕ) (burst : Burst) → burst_of_code code ≡ Some burst ↔ code ≡ burst_code burst

abbrev pub ResponseCodesAreInverse : Type 0
ResponseCodesAreInverse = (code : ℕ) (response : Resp) → response_of_code code ≡ Some response ↔ code ≡ response_code response
