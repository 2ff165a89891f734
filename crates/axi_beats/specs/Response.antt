-- Responses (Arm IHI 0022, read and write response structure).
use Rattle.axi_beats.specs.declared.response.Resp.{Resp}
use Rattle.axi_beats.specs.declared.response.Resp.TheVariants.{Okay, SlvErr, DecErr}

-- the worse of two responses: DECERR over SLVERR over OKAY
abbrev pub worst_of : Resp → Resp → Resp
worst_of Okay b = b
worst_of SlvErr Okay = SlvErr
worst_of SlvErr SlvErr = SlvErr
worst_of SlvErr DecErr = DecErr
worst_of DecErr b = DecErr
