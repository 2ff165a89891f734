-- Known values of what is written, worked by hand.
use Rattle.std.proofs.Common.{◌≡◌, ℕ, [], ◌∷◌, false, refl}
use Rattle.std.specs.Prelude.{codes, map}
use Rattle.std.specs.Fmt.{digits}
use Rattle.axi_beats.specs.declared.beat.Addr.{Addr}
use Rattle.axi_beats.specs.declared.beat.Burst.TheVariants.{Incr}
use Rattle.axi_beats.specs.declared.response.Resp.TheVariants.{Okay, DecErr}
use Rattle.refusals.specs.Refusal.{refused_at, refused_burst, refused_for}
use Rattle.refusals.specs.declared.cause.Cause.TheVariants.{BadId, BadLine, BadTraceLine, InputTooLong, NoSeparator, NotBuilt, NotText, TooMuchTraffic, UnknownManager}
use Rattle.plain_text.specs.Printing.{pairs}
use Rattle.axi_program.specs.Text.{refusal_line, rounds_line, run_text}
use Rattle.trace_text.specs.AnswerLine.{answer_line}

refusal_lines :
    map refusal_line
    (refused_for InputTooLong
    ∷ refused_for NotText
    ∷ refused_for NoSeparator
    ∷ refused_at BadLine 3
    ∷ refused_at UnknownManager 1
    ∷ refused_at BadId 1
    ∷ refused_burst 1 4
    ∷ refused_for TooMuchTraffic
    ∷ refused_at BadTraceLine 9
    ∷ refused_at NotBuilt 0
    ∷ [])
    ≡ codes "refused 1 InputTooLong\n"
    ∷ codes "refused 2 NotText\n"
    ∷ codes "refused 3 NoSeparator\n"
    ∷ codes "refused 17 BadLine 3\n"
    ∷ codes "refused 18 UnknownManager 1\n"
    ∷ codes "refused 19 BadId 1\n"
    ∷ codes "refused 20 IllegalBurst 1 4\n"
    ∷ codes "refused 21 TooMuchTraffic\n"
    ∷ codes "refused 22 BadTraceLine 9\n"
    ∷ codes "refused 23 NotBuilt 0\n"
    ∷ []
unfolding refusal_line digits
refusal_lines = refl

-- a request for so many words of 4 bytes
abbrev words_at : ℕ → ℕ → ℕ → Addr
words_at id addr last = record { id = id; addr = addr; len = last; size = 2; burst = Incr; tag = record { txn = 0; low = 0; high = 0 } }

two_beats :
    answer_line
    (codes "cpu")
    (record { number = 12; write = false; request = words_at 0 0 1; after = 0 })
    (record { issued = 3; answered = 10; resps = Okay ∷ DecErr ∷ []; bytes = 0 ∷ 10 ∷ 175 ∷ 255 ∷ 1 ∷ 2 ∷ 3 ∷ 4 ∷ []; due_resps = 2; due_bytes = 8 })
    ≡ codes "12 read cpu 3 10 okay:000aafff decerr:01020304\n"
unfolding answer_line digits pairs
two_beats = refl

empty_run : run_text (record { nodes = []; items = []; rounds = 0; decided = false }) ≡ codes "rounds 0\n"
unfolding run_text rounds_line digits
empty_run = refl
