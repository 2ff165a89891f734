-- What holds of data: writes that lack theirs, writes that lack their response, and the bytes of reads.
use Rattle.std.specs.Prelude.{◌≡◌, ◌+◌, ◌<◌, ◌≤◌, ◌++◌, ◌∷◌, [], ℕ, List, Some, length, map, slice_get, slice_range}
use Rattle.axi_beats.specs.declared.beat.Addr.{Addr}
use Rattle.axi_beats.specs.declared.beat.BBeat.{BBeat}
use Rattle.axi_beats.specs.declared.beat.RBeat.{RBeat}
use Rattle.axi_beats.specs.declared.beat.WBeat.{WBeat}
use Rattle.axi_beats.specs.Lanes.{Span}
use Rattle.axi_trail.specs.Schedule.{bytes_on}
use Rattle.axi_trail.specs.Words.{InOrderOfId, Reply, completed, held_asked, pending_asked, burst_asked, id_of_waiting, mark_of_data, marks, write_asked, write_reply}
use Rattle.plain_lists.specs.Keys.{of_key}
use Rattle.plain_lists.specs.Prefixes.{IsPrefix}

-- where a further response comes in order and after its data, more writes of its ID lack a response than lack data: the
-- oldest of them has its data
abbrev pub OldestHasItsData : Type 0
OldestHasItsData =
    (aw : List Addr) (w : List WBeat) (b : List BBeat) (next : BBeat) → IsPrefix (map mark_of_data w) (marks (map burst_asked aw)) →
    InOrderOfId (map write_asked aw) (map write_reply b) → InOrderOfId (map write_asked (completed aw (map mark_of_data w))) (map write_reply (b ++ next ∷ [])) →
    length (of_key id_of_waiting next.id (pending_asked (length w) (map burst_asked aw)))
    < length (of_key id_of_waiting next.id (held_asked (map write_asked aw) (map write_reply b)))

-- the other way round: where of each ID at least as many writes lack a response as lack data, all responses come after
-- their data
abbrev pub AnsweredAfterData : Type 0
AnsweredAfterData =
    (aw : List Addr) (w : List WBeat) (b : List BBeat) → IsPrefix (map mark_of_data w) (marks (map burst_asked aw)) → InOrderOfId (map write_asked aw) (map write_reply b) →
    ((id : ℕ) →
    length (of_key id_of_waiting id (pending_asked (length w) (map burst_asked aw)))
    ≤ length (of_key id_of_waiting id (held_asked (map write_asked aw) (map write_reply b)))) →
    InOrderOfId (map write_asked (completed aw (map mark_of_data w))) (map write_reply b)

-- where no write lacks a response, and responses come after their data, none lacks data
abbrev pub NoneLacksData : Type 0
NoneLacksData =
    (aw : List Addr) (w : List WBeat) (replies : List Reply) → IsPrefix (map mark_of_data w) (marks (map burst_asked aw)) →
    InOrderOfId (map write_asked (completed aw (map mark_of_data w))) replies → held_asked (map write_asked aw) replies ≡ [] →
    pending_asked (length w) (map burst_asked aw) ≡ []

-- Read data.

-- one more beat adds its bytes on the lanes that are wanted of it
abbrev pub BytesOfOneMore : Type 0
BytesOfOneMore =
    (beats : List RBeat) (lanes : List Span) (r : RBeat) (span : Span) → slice_get lanes (length beats) ≡ Some span →
    bytes_on (beats ++ r ∷ []) lanes ≡ bytes_on beats lanes ++ slice_range r.lanes span.low (span.high + 1)
