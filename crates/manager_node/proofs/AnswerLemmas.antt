-- What is noted of a beat of a read.
use Rattle.std.proofs.Common.{◌≡◌, ℕ, ◌+◌, ◌-◌, ◌≤◌, ◌<◌, List, subst, [], ◌++◌, length, take, sym, ◌∙◌, ap, arith, append-nil, length-take}
use Rattle.std.specs.Prelude.{drop, slice_range}
use Rattle.axi_beats.specs.Bus.{IsBusWidth}
use Rattle.axi_beats.specs.declared.beat.Addr.{Addr}
use Rattle.axi_beats.specs.declared.response.Resp.{Resp}
use Rattle.burst_address.specs.Bytes.{burst_bytes, bytes_before}
use Rattle.burst_address.specs.Legal.{IsLegal}
use Rattle.manager_node.specs.Answer.{AnswerView, answered_in}
use Rattle.manager_node.specs.AnswerInside.{IsAnswer, answer_view}
use Rattle.burst_address.specs.Lanes.{last_lane, first_lane}
use Rattle.manager_node.specs.declared.answer.Answer.TheInside.{Inside}
use Rattle.manager_node.proofs.BurstLemmas.{beat-within, lane-count}

-- how many responses and bytes came
pub came-is : (a : Inside) (view : AnswerView) → answer_view a ≡ view → IsAnswer a → length view.resps ≡ a.came
came-is a view same is = ap (λ (v : AnswerView). length v.resps) (sym same) ∙ omega (arith, length-take a.came a.resps.items, is.came)

pub read-is : (a : Inside) (view : AnswerView) → answer_view a ≡ view → IsAnswer a → length view.bytes ≡ a.read
read-is a view same is = ap (λ (v : AnswerView). length v.bytes) (sym same) ∙ omega (arith, length-take a.read a.bytes.items, is.read)

-- two views that differ in their bytes
view-same : (i a : ℕ) (rs : List Resp) (bs cs : List ℕ) (dr db dc : ℕ) → bs ≡ cs → db ≡ dc →
    ◌≡◌ {A = AnswerView} (record { issued = i; answered = a; resps = rs; bytes = bs; due_resps = dr; due_bytes = db }) (record { issued = i; answered = a; resps = rs; bytes = cs; due_resps = dr; due_bytes = dc })
view-same i a rs bs cs dr db dc same long = cc

-- the bytes of a beat were written, and then its response is noted
pub noted-after : (round : ℕ) (resp : Resp) (a : Inside) (view : AnswerView) (bytes lanes : List ℕ) (low high count n end : ℕ) → answer_view a ≡ view →
    count ≡ high - low → low ≤ high → n ≡ low → end ≡ a.read + count + 1 →
    take end bytes ≡ take a.read a.bytes.items ++ take (end - a.read) (drop n lanes) → length bytes ≡ length a.bytes.items →
    answered_in round resp [] (record { issued = a.issued; answered = a.answered; resps = take a.came a.resps.items; bytes = take end bytes; due_resps = length a.resps.items; due_bytes = length bytes })
    ≡ answered_in round resp (slice_range lanes low (high + 1)) view
noted-after round resp a view bytes lanes low high count n end same counts order first ends put long =
    let some : end - a.read ≡ high + 1 - low = omega arith
    in let put_at : take end bytes ≡ take a.read a.bytes.items ++ slice_range lanes low (high + 1) =
    put ∙ ap (λ (k : ℕ). take a.read a.bytes.items ++ take (end - a.read) (drop k lanes)) first ∙ ap (λ (k : ℕ). take a.read a.bytes.items ++ take k (drop low lanes)) some
    in ap (answered_in round resp []) (view-same a.issued a.answered (take a.came a.resps.items) (take end bytes) (take a.read a.bytes.items ++ slice_range lanes low (high + 1)) (length a.resps.items) (length bytes) (length a.bytes.items) put_at long)
    ∙ ap (λ (bs : List ℕ). record (answered_in round resp [] (answer_view a)) { bytes = bs }) (append-nil (take a.read a.bytes.items ++ slice_range lanes low (high + 1)))
    ∙ ap (answered_in round resp (slice_range lanes low (high + 1))) same

-- there is room for the bytes of the next beat
pub beat-fits : (a : Inside) (view : AnswerView) (request : Addr) (bus low high count : ℕ) → answer_view a ≡ view → IsAnswer a → length view.resps < view.due_resps → view.due_resps ≡ request.len + 1 →
    length view.bytes ≤ length (bytes_before request (length view.resps)) → view.due_bytes ≡ length (burst_bytes request) → IsBusWidth bus → IsLegal request bus →
    low ≡ first_lane request a.came bus → high ≡ last_lane request a.came bus → count ≡ high - low → a.read + count + 1 ≤ length a.bytes.items
beat-fits a view request bus low high count same is more resps had bytes wide legal lows highs counts =
    let came = came-is a view same is
    in let read = read-is a view same is
    in let room : length a.bytes.items ≡ view.due_bytes = ap (λ (v : AnswerView). v.due_bytes) same
    in let within = beat-within request a.came (omega (arith, more, resps, came))
    in let has = subst (λ (k : ℕ). length view.bytes ≤ length (bytes_before request k)) came had
    in let each = lane-count request bus a.came wide legal
    in omega (arith, counts, lows, highs, has, within, read, room, each, bytes)
