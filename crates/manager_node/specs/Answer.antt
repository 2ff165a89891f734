-- What a manager notes of a transaction (Arm IHI 0022, read and write response structure).
use Rattle.std.specs.Prelude.{◌+◌, ◌==◌, ◌++◌, ◌∷◌, [], ℕ, List, Bool, length, slice_set, slice_index_or, if◌then◌else◌}
use Rattle.axi_beats.specs.declared.response.Resp.{Resp}

-- The rounds in which a transaction was issued and answered, where rounds count from 1 and 0 says 'not yet'; the
-- responses and the bytes that came; and how many of each are due.
pub record AnswerView : Type 0 where
  pub issued : ℕ
  pub answered : ℕ
  pub resps : List Resp
  pub bytes : List ℕ
  pub due_resps : ℕ
  pub due_bytes : ℕ

-- nothing came yet of so many responses and bytes
abbrev pub awaited_of : ℕ → ℕ → AnswerView
awaited_of resps bytes = record { issued = 0; answered = 0; resps = []; bytes = []; due_resps = resps; due_bytes = bytes }

-- nothing came yet of one response and so many bytes
abbrev pub unanswered : ℕ → AnswerView
unanswered bytes = awaited_of 1 bytes

-- the request was put in this round
abbrev pub issued_in : ℕ → AnswerView → AnswerView
issued_in round a = record a { issued = round }

-- the next response is the last one that is due
abbrev pub is_last : AnswerView → Bool
is_last a = length a.resps + 1 == a.due_resps

-- a response came in this round, with these bytes; the last one that is due answers the transaction
abbrev pub answered_in : ℕ → Resp → List ℕ → AnswerView → AnswerView
answered_in round resp bytes a = record a {
  answered = if is_last a then round else a.answered;
  resps = a.resps ++ resp ∷ [];
  bytes = a.bytes ++ bytes;
}

-- the answers with what is noted of the transaction at this place
abbrev pub noted : ℕ → (AnswerView → AnswerView) → List AnswerView → List AnswerView
noted place change answers = slice_set answers place (change (slice_index_or answers place (unanswered 0)))
