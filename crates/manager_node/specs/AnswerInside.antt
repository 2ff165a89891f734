-- How an answer is kept: in lists as long as what is due, of which the first elements have come.
use Rattle.std.specs.Prelude.{◌≤◌, ◌<◌, ◌^◌, length, take}
use Rattle.manager_node.specs.Answer.{AnswerView}
use Rattle.manager_node.specs.declared.answer.Answer.TheInside.{Inside}

-- what contracts see of it
abbrev pub answer_view : Inside → AnswerView
answer_view a = record {
  issued = a.issued;
  answered = a.answered;
  resps = take a.came a.resps.items;
  bytes = take a.read a.bytes.items;
  due_resps = length a.resps.items;
  due_bytes = length a.bytes.items;
}

-- no more has come than is due, and the responses can be counted in 32 bits
pub record IsAnswer (a : Inside) : Type 0 where
  pub came : a.came ≤ length a.resps.items
  pub read : a.read ≤ length a.bytes.items
  pub counted : length a.resps.items < 2 ^ 32
