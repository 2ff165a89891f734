-- A history of two managers and two memories that is delivered and answered as it should be; and this history with one
-- change in it, in twenty ways, each of which is refused. Nodes 0 and 1 are the managers, nodes 2 and 3 the memories.
use Rattle.std.specs.Prelude.{◌∷◌, [], ℕ, List, true, false, Some, None, insert, remove, set}
use Rattle.axi_beats.specs.declared.response.Resp.{Resp}
use Rattle.axi_beats.specs.declared.response.Resp.TheVariants.{Okay, DecErr}
use Rattle.axi_history.specs.Answered.{Answered}
use Rattle.axi_history.specs.Delivered.{Delivered}
use Rattle.axi_history.specs.Records.{Answer, NamedByte, Event, Issue, Transaction}

-- ---- The transactions

-- a byte to be written, one to be read, and one where there is none
abbrev pub byte_to_write : ℕ → ℕ → NamedByte
byte_to_write address value = record { address = address; value = Some value; allowed = true }

abbrev pub byte_to_read : ℕ → NamedByte
byte_to_read address = record { address = address; value = None; allowed = true }

abbrev pub byte_outside : ℕ → NamedByte
byte_outside address = record { address = address; value = None; allowed = false }

-- manager 0 writes 7 and then 8 to address 16 of memory 2, with one FIXED burst
abbrev pub fixed_write : Transaction
fixed_write = record {
  number = 1;
  manager = 0;
  id = 3;
  write = true;
  after = 0;
  target = 2;
  fill = 9;
  bytes = byte_to_write 16 7 ∷ byte_to_write 16 8 ∷ [];
  response = Okay ∷ [];
}

-- once that is answered, it reads the byte, and one behind the end of the memory
abbrev pub read_over_the_end : Transaction
read_over_the_end = record {
  number = 2;
  manager = 0;
  id = 3;
  write = false;
  after = 1;
  target = 2;
  fill = 9;
  bytes = byte_to_read 16 ∷ byte_outside 17 ∷ [];
  response = DecErr ∷ [];
}

-- manager 1 reads two bytes of memory 3, in which nothing was written
abbrev pub other_read : Transaction
other_read = record {
  number = 3;
  manager = 1;
  id = 3;
  write = false;
  after = 0;
  target = 3;
  fill = 4;
  bytes = byte_to_read 16 ∷ byte_to_read 17 ∷ [];
  response = Okay ∷ [];
}

-- manager 0 reads the byte that it wrote, with the ID of its other read
abbrev pub second_read : Transaction
second_read = record {
  number = 4;
  manager = 0;
  id = 3;
  write = false;
  after = 1;
  target = 2;
  fill = 9;
  bytes = byte_to_read 16 ∷ [];
  response = Okay ∷ [];
}

-- manager 1 reads where memory 3 has no byte
abbrev pub read_outside : Transaction
read_outside = record {
  number = 5;
  manager = 1;
  id = 0;
  write = false;
  after = 0;
  target = 3;
  fill = 4;
  bytes = byte_outside 64 ∷ [];
  response = DecErr ∷ [];
}

abbrev pub five_transactions : List Transaction
five_transactions = fixed_write ∷ read_over_the_end ∷ other_read ∷ second_read ∷ read_outside ∷ []

-- ---- The good history

abbrev pub issue : ℕ → ℕ → Issue
issue number round = record { number = number; round = round }

-- an access for a transaction in a round, at a memory and an address, with the value that is written or read
abbrev pub byte_written : ℕ → ℕ → ℕ → ℕ → ℕ → Event
byte_written number round node address value = record { round = round; node = node; number = number; address = address; value = value; write = true }

abbrev pub byte_read : ℕ → ℕ → ℕ → ℕ → ℕ → Event
byte_read number round node address value = record { round = round; node = node; number = number; address = address; value = value; write = false }

abbrev pub answer : ℕ → ℕ → Resp → List ℕ → Answer
answer number round response bytes = record { number = number; round = round; responses = response ∷ []; bytes = bytes }

abbrev pub good_issues : List Issue
good_issues = issue 1 1 ∷ issue 3 1 ∷ issue 5 2 ∷ issue 2 6 ∷ issue 4 7 ∷ []

abbrev pub good_events : List Event
good_events =
    byte_written 1 3 2 16 7
    ∷ byte_written 1 4 2 16 8
    ∷ byte_read 3 4 3 16 4
    ∷ byte_read 3 4 3 17 4
    ∷ byte_read 2 8 2 16 8
    ∷ byte_read 4 9 2 16 8
    ∷ []

abbrev pub good_answers : List Answer
good_answers =
    answer 1 5 Okay []
    ∷ answer 5 5 DecErr (0 ∷ [])
    ∷ answer 3 6 Okay (4 ∷ 4 ∷ [])
    ∷ answer 2 10 DecErr (8 ∷ 0 ∷ [])
    ∷ answer 4 11 Okay (8 ∷ [])
    ∷ []

pub record GoodHistory : Type 0 where
  pub delivered : Delivered five_transactions good_events good_answers
  pub answered : Answered five_transactions good_issues good_events good_answers

-- ---- What is refused

-- the history with these accesses in place of its own isn't delivered
abbrev pub IsNotDelivered : List Event → Type 0
IsNotDelivered events = Delivered five_transactions events good_answers → ⊥

pub record UndeliveredHistories : Type 0 where
  -- a byte is written once more than is due: three times
  pub written_three_times : IsNotDelivered (insert good_events 2 (byte_written 1 4 2 16 8))
  -- two bytes of a burst are read in the other order
  pub swapped : IsNotDelivered (set (set good_events 2 (byte_read 3 4 3 17 4)) 3 (byte_read 3 4 3 16 4))
  -- a byte is read at the other memory
  pub misrouted : IsNotDelivered (set good_events 3 (byte_read 3 4 2 17 4))
  -- an access is of no transaction
  pub of_nobody : IsNotDelivered (insert good_events 6 (byte_read 9 9 3 16 4))
  -- a transaction is answered of which a byte is missing
  pub byte_missing : IsNotDelivered (remove good_events 3)
  -- a read doesn't see the latest write
  pub stale : IsNotDelivered (set good_events 4 (byte_read 2 8 2 16 7))
  -- a read sees what was written in the other memory
  pub seen_elsewhere : IsNotDelivered (set good_events 2 (byte_read 3 4 3 16 8))
  -- a byte is accessed that may not be
  pub accessed_outside : IsNotDelivered (insert good_events 5 (byte_read 2 8 2 17 9))

-- the history with one of its lists changed isn't answered
abbrev pub IsNotAnswered : List Issue → List Event → List Answer → Type 0
IsNotAnswered issues events answers = Answered five_transactions issues events answers → ⊥

pub record UnansweredHistories : Type 0 where
  -- two answers to one transaction
  pub answered_twice : IsNotAnswered good_issues good_events (insert good_answers 2 (answer 1 6 Okay []))
  -- an answer with another response
  pub other_response : IsNotAnswered good_issues good_events (set good_answers 3 (answer 2 10 Okay (8 ∷ 0 ∷ [])))
  -- a byte that was read is told as 0
  pub told_as_zero : IsNotAnswered good_issues good_events (set good_answers 3 (answer 2 10 DecErr (0 ∷ 0 ∷ [])))
  -- an answer in the round of the access
  pub answered_at_its_access : IsNotAnswered good_issues good_events (set good_answers 3 (answer 2 8 DecErr (8 ∷ 0 ∷ [])))
  -- an answer in the round before the issue
  pub answered_before_its_issue : IsNotAnswered good_issues good_events (set good_answers 1 (answer 5 1 DecErr (0 ∷ [])))
  -- an access in the round of the issue
  pub accessed_at_its_issue : IsNotAnswered (set good_issues 1 (issue 3 4)) good_events good_answers
  -- of two reads of one ID the later one is accessed first
  pub overtaken : IsNotAnswered good_issues (set (set good_events 4 (byte_read 4 8 2 16 8)) 5 (byte_read 2 9 2 16 8)) good_answers
  -- is issued first
  pub issued_out_of_order : IsNotAnswered (set (set good_issues 3 (issue 4 6)) 4 (issue 2 7)) good_events good_answers
  -- and is answered first
  pub answered_out_of_order : IsNotAnswered good_issues good_events (set (set good_answers 3 (answer 4 10 Okay (8 ∷ []))) 4 (answer 2 11 DecErr (8 ∷ 0 ∷ [])))
  -- an issue in the round of the answer that it waits for
  pub issued_too_early : IsNotAnswered (set good_issues 3 (issue 2 5)) good_events good_answers
  -- a second issue of a transaction
  pub issued_twice : IsNotAnswered (insert good_issues 5 (issue 1 12)) good_events good_answers
  -- an issue of no transaction
  pub issued_by_nobody : IsNotAnswered (insert good_issues 2 (issue 9 2)) good_events good_answers
