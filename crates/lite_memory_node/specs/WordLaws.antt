-- What a memory answers to a request for a whole word of its bus (Arm IHI 0022, AXI4-Lite).
use Rattle.std.specs.Prelude.{◌≡◌, ◌+◌, ℕ, List, map, nat_lt, if◌then◌else◌}
use Rattle.std.specs.List.{range_with_len}
use Rattle.axi_beats.specs.declared.beat.Addr.{Addr}
use Rattle.axi_beats.specs.declared.response.Resp.{Resp}
use Rattle.burst_address.specs.Status.{worst_among}
use Rattle.memory_node.specs.Beats.{answered_byte, answered_lanes, valid_status}
use Rattle.memory_node.specs.MemoryArea.{IsMemoryArea, MemoryArea}
use Rattle.memory_node.specs.Status.{read_status}
use Rattle.memory_node.specs.Store.{Store}
use Rattle.node_shape.specs.LinkForm.{IsSingle, IsWordRequest}

-- the 128 lanes of the answer: the bytes of the word on all lanes of the bus, 0 where a byte can't be read and above
abbrev pub word_lanes : MemoryArea → Store → Addr → List ℕ
word_lanes area store request = map (λ lane. if nat_lt lane area.bus then answered_byte area store (request.addr + lane) else 0) (range_with_len 0 128)

-- the worst status of the bytes of the word
abbrev pub word_status : MemoryArea → Addr → Resp
word_status area request = worst_among (map (λ lane. read_status area (request.addr + lane)) (range_with_len 0 area.bus))

abbrev pub AnswersWholeWord : Type 0
AnswersWholeWord =
    (area : MemoryArea) (store : Store) (request : Addr) → IsMemoryArea area → IsWordRequest area.bus request → IsSingle request →
    answered_lanes area store request 0 ≡ word_lanes area store request

abbrev pub AnswersWordStatus : Type 0
AnswersWordStatus =
    (area : MemoryArea) (request : Addr) → IsMemoryArea area → IsWordRequest area.bus request → IsSingle request → valid_status area request 0 ≡ word_status area request
