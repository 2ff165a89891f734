-- The line of a transaction and its answer (Arm IHI 0022, read and write response structure).
use Rattle.std.specs.Prelude.{ℕ, suc, Bool, List, [], ◌∷◌, ◌++◌, length, take, drop, if◌then◌else◌, codes}
use Rattle.std.specs.Fmt.{decimal}
use Rattle.axi_beats.specs.declared.beat.Addr.{Addr}
use Rattle.axi_beats.specs.declared.response.Resp.{Resp}
use Rattle.axi_beats.specs.declared.response.Resp.TheVariants.{Okay, SlvErr, DecErr}
use Rattle.burst_address.specs.Bytes.{beat_bytes}
use Rattle.manager_node.specs.Answer.{AnswerView}
use Rattle.manager_node.specs.declared.script.Txn.{Txn}
use Rattle.plain_text.specs.Printing.{pairs}

-- how a response is written
abbrev pub response_name : Resp → List ℕ
response_name Okay = codes "okay"
response_name SlvErr = codes "slverr"
response_name DecErr = codes "decerr"

-- the one response to a write, or nothing where there is none
abbrev pub write_outcome : List Resp → List ℕ
write_outcome [] = []
write_outcome (resp ∷ more) = codes " " ++ response_name resp

-- one beat of a read: its response and its bytes
abbrev pub beat_text : Resp → List ℕ → List ℕ
beat_text resp bytes = codes " " ++ response_name resp ++ codes ":" ++ pairs bytes

-- the beats of a read, of which the first one is beat n: each has as many bytes as it has valid ones
abbrev pub read_outcome : Addr → ℕ → List Resp → List ℕ → List ℕ
read_outcome request n [] bytes = []
read_outcome request n (resp ∷ more) bytes =
    beat_text resp (take (length (beat_bytes request n)) bytes) ++ read_outcome request (suc n) more (drop (length (beat_bytes request n)) bytes)

-- what came for a transaction
abbrev pub outcome : Txn → AnswerView → List ℕ
outcome txn answer =
    if txn.write then write_outcome answer.resps
    else read_outcome txn.request 0 answer.resps answer.bytes

-- whether it wrote or read, between spaces
abbrev pub direction : Bool → List ℕ
direction write = if write then codes " write " else codes " read "

-- `<number> write|read <manager> <issued> <answered>`, and what came
unfoldable pub answer_line : List ℕ → Txn → AnswerView → List ℕ
answer_line manager txn answer =
    decimal txn.number ++ direction txn.write ++ manager ++ codes " " ++ decimal answer.issued ++ codes " " ++ decimal answer.answered ++ outcome txn answer ++ codes "\n"
