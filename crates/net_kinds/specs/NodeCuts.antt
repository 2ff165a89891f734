-- What nodes make of transactions that they cut, and of the responses that come back: some part goes on, and of the responses
-- below come no more than there are parts and beats above, each the worst of its bytes' (Arm IHI 0022, read and write response
-- structure).
use Rattle.std.specs.Prelude.{◌≡◌, ◌<◌, ◌≤◌, ℕ, Bool, List, Contains, Some, length, map, zip, if◌then◌else◌}
use Rattle.axi_beats.specs.Response.{worst_of}
use Rattle.axi_beats.specs.declared.beat.Addr.{Addr}
use Rattle.axi_beats.specs.declared.beat.WBeat.{WBeat}
use Rattle.axi_beats.specs.declared.response.Resp.{Resp}
use Rattle.axi_trail.specs.Schedule.{Schedule, Share}
use Rattle.burst_address.specs.Bytes.{Byte, written_bytes}
use Rattle.burst_address.specs.Lanes.{word_address}
use Rattle.burst_address.specs.Status.{worst_among}
use Rattle.net_kinds.specs.NodeKind.{NodeState, node_kind}
use Rattle.node_shape.specs.LinkForm.{LinkForm, bytes_within, wanted_span}
use Rattle.node_shape.specs.WaysAround.{IsCarried}
use Rattle.subordinate.specs.Parts.{BeatOf, beats_of_parts}

-- what goes on has a part where what comes has one
abbrev pub SomePartGoesOn : Type 0
SomePartGoesOn = (s : NodeState) (share : Share) → 0 < length share.parts → 0 < length ((node_kind.way s).cut share).parts

-- a transaction has one response to each part of a write at most, and to each beat of a read
abbrev pub most_responses : Bool → Share → ℕ
most_responses write share = if write then length share.parts else length (beats_of_parts share.parts)

-- so it is where it ends
abbrev pub FewResponsesEnd : Type 0
FewResponsesEnd = (s : NodeState) (write : Bool) (share : Share) → length ((node_kind.way s).ends write share) ≤ most_responses write share

-- and above a node where it is so below
abbrev pub FewResponsesMerge : Type 0
FewResponsesMerge =
    (s : NodeState) (write : Bool) (share : Share) (below : List Resp) → length below ≤ most_responses write ((node_kind.way s).cut share) →
    length ((node_kind.way s).merged write share below) ≤ most_responses write share

-- the bytes that are wanted of a beat of read data
abbrev pub bytes_of_beat : LinkForm → BeatOf → List ℕ
bytes_of_beat form b = bytes_within (word_address b.request b.beat form.bus) (wanted_span form b.request b.beat)

-- the worst status of some bytes, but no better one than `least`
abbrev pub worst_from : {X : Type 0} → Resp → (X → Resp) → List X → Resp
worst_from least status bytes = worst_of least (worst_among (map status bytes))

-- The responses to a transaction, by what a link of this form carries of it, where each address has a status: of each part of
-- a write that of the bytes that it writes, and of each beat of a read that of its wanted bytes.
abbrev pub responses_by : Resp → (ℕ → Resp) → LinkForm → Bool → Share → List Resp
responses_by least status form write share =
    if write
    then map (λ (p : Addr × List WBeat). worst_from least (λ (byte : Byte). status byte.address) (written_bytes form.bus p.0 p.1)) (zip share.parts share.write_data)
    else map (λ (b : BeatOf). worst_from least status (bytes_of_beat form b)) (beats_of_parts share.parts)

-- a node makes them of those to what it sends on
abbrev pub StatusesMerge : Type 0
StatusesMerge =
    (forms : ℕ → LinkForm) (schedules : ℕ → Schedule) (s : NodeState) → node_kind.begins s → node_kind.is_sound forms schedules s →
    (write : Bool) (link next : ℕ) (share : Share) → Contains (node_kind.uppers s) link → IsCarried (forms link) write link share →
    (node_kind.way s).goes_on share ≡ Some next → (least : Resp) (status : ℕ → Resp) →
    (node_kind.way s).merged write share (responses_by least status (forms next) write ((node_kind.way s).cut share)) ≡ responses_by least status (forms link) write share
