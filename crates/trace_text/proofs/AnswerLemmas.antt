-- The beats of a read, written one after the other.
use Rattle.std.proofs.Common.{◌≡◌, ℕ, suc, ◌+◌, ◌-◌, ◌*◌, ◌≤◌, List, ◌∷◌, ◌++◌, length, take, drop, Some, sym, ap, ◌∙◌, arith, append_assoc}
use Rattle.std.specs.Prelude.{slice_get, min}
use Rattle.std.proofs.lemmas.List.{length-take, length-drop, drop_more}
use Rattle.std.proofs.lemmas.Option.{slice_get_within, get_or_from_slice_get}
use Rattle.axi_beats.specs.declared.beat.Addr.{Addr}
use Rattle.axi_beats.specs.declared.response.Resp.{Resp}
use Rattle.burst_address.specs.Bytes.{beat_bytes}
use Rattle.trace_text.specs.AnswerLine.{beat_text, read_outcome}

-- the beats before this one are written behind the first text, and these bytes are left
pub record IsWrittenTo (request : Addr) (resps : List Resp) (bytes first line : List ℕ) (beat : ℕ) (left : List ℕ) : Type 0 where
  pub text : line ++ read_outcome request beat (drop beat resps) left ≡ first ++ read_outcome request 0 resps bytes
  pub room : length line + 2 * length left ≤ length first + 8 * beat + 2 * length bytes
  pub fewer : length left ≤ length bytes

-- the beats that are left begin with the one at this place
drop-at : (resps : List Resp) (beat : ℕ) (resp : Resp) → slice_get resps beat ≡ Some resp → drop beat resps ≡ resp ∷ drop (beat + 1) resps
drop-at resps beat resp is =
    drop_more resps beat resp (slice_get_within resps beat resp is) ∙ ap (λ (r : Resp). r ∷ drop (beat + 1) resps) (get_or_from_slice_get resps beat resp resp is)

-- the text of the beats that are left begins with that of the first one
read-first : (request : Addr) (beat : ℕ) (resp : Resp) (more : List Resp) (left : List ℕ)
    → read_outcome request beat (resp ∷ more) left
    ≡ beat_text resp (take (length (beat_bytes request beat)) left) ++ read_outcome request (beat + 1) more (drop (length (beat_bytes request beat)) left)
read-first request beat resp more left =
    let next : suc beat ≡ beat + 1 = omega arith in
    ap (λ (n : ℕ). beat_text resp (take (length (beat_bytes request beat)) left) ++ read_outcome request n more (drop (length (beat_bytes request beat)) left)) next

-- the text of the beats that are left, where the first one has so many bytes
read-next : (request : Addr) (resps : List Resp) (beat count : ℕ) (resp : Resp) (left : List ℕ) → count ≡ length (beat_bytes request beat) → slice_get resps beat ≡ Some resp
    → read_outcome request beat (drop beat resps) left ≡ beat_text resp (take count left) ++ read_outcome request (beat + 1) (drop (beat + 1) resps) (drop count left)
read-next request resps beat count resp left count_is is =
    ap (λ (rs : List Resp). read_outcome request beat rs left) (drop-at resps beat resp is)
    ∙ read-first request beat resp (drop (beat + 1) resps) left
    ∙ ap (λ (n : ℕ). beat_text resp (take n left) ++ read_outcome request (beat + 1) (drop (beat + 1) resps) (drop n left)) (sym count_is)

-- one more beat, with its count of bytes
pub written-more : (request : Addr) (resps : List Resp) (bytes first line : List ℕ) (beat : ℕ) (left : List ℕ) (count : ℕ) (resp : Resp) (next front rest : List ℕ)
    → IsWrittenTo request resps bytes first line beat left → count ≡ length (beat_bytes request beat) → slice_get resps beat ≡ Some resp → front ≡ take count left
    → rest ≡ drop count left → next ≡ line ++ beat_text resp front → length next ≤ length line + 8 + 2 * length front → IsWrittenTo request resps bytes first next (beat + 1) rest
written-more request resps bytes first line beat left count resp next front rest written count_is is front_is rest_is text room =
    let taken : length front ≡ min count (length left) = ap length front_is ∙ length-take count left in
    let dropped : length rest ≡ length left - count = ap length rest_is ∙ length-drop count left in
    record {
      text =
          ap (λ (l : List ℕ). l ++ read_outcome request (beat + 1) (drop (beat + 1) resps) rest) (text ∙ ap (λ (f : List ℕ). line ++ beat_text resp f) front_is)
          ∙ ap (λ (r : List ℕ). (line ++ beat_text resp (take count left)) ++ read_outcome request (beat + 1) (drop (beat + 1) resps) r) rest_is
          ∙ append_assoc line (beat_text resp (take count left)) (read_outcome request (beat + 1) (drop (beat + 1) resps) (drop count left))
          ∙ ap (λ (l : List ℕ). line ++ l) (sym (read-next request resps beat count resp left count_is is))
          ∙ written.text;
      room = omega (arith, taken, dropped, room, written.room);
      fewer = omega (arith, dropped, written.fewer);
    }
