-- Short traces, and the verdict on each: worked by hand.
use Rattle.std.specs.Prelude.{◌≡◌, ℕ, codes}
use Rattle.trace_judge.specs.Verdicts.{verdict_of}
use Rattle.trace_judge.specs.declared.verdict.Verdict.{Verdict}
use Rattle.trace_judge.specs.declared.verdict.Verdict.TheVariants.{BadTraceLine, Broken, Legal}

abbrev pub broken : ℕ → ℕ → ℕ → ℕ → ℕ → Verdict
broken line round link channel rule = Broken (record { line = line; round = round; link = link; channel = channel; rule = rule })

-- no trace line; the same line again; a link that comes before the last one; another bus on the same link, and another
-- kind of port
abbrev pub RefusedLines : Type 0
RefusedLines =
    (verdict_of (codes "x") ≡ BadTraceLine 1)
    × (verdict_of (codes "1 0 axi 4 - - - - -\n1 0 axi 4 - - - - -\nx") ≡ BadTraceLine 2)
    × (verdict_of (codes "1 1 axi 4 - - - - -\n1 0 axi 4 - - - - -\n") ≡ BadTraceLine 2)
    × (verdict_of (codes "1 0 axi 4 - - - - -\n1 1 axi 8 - - - - -\n2 1 axi 4 - - - - -\n") ≡ BadTraceLine 3)
    × (verdict_of (codes "1 0 axi 4 - - - - -\n2 0 lite 4 - - - - -\n3 1 lite 4 - - - - -\nx") ≡ BadTraceLine 2)

-- an address that changes while it waits; one that is withdrawn in a round without a line, before a later line or after
-- the last one; the least of two links; the earlier of two rounds; a port of AXI4-Lite beside one of AXI4, each by its own
-- rules
abbrev pub BrokenRules : Type 0
BrokenRules =
    (verdict_of (codes "1 0 axi 4 =0,10,0,2,1,0,1:0:0 - - - -\n2 0 axi 4 +0,14,0,2,1,0,1:0:0 - - - -\n") ≡ broken 2 2 0 1 2)
    × (verdict_of (codes "1 0 axi 4 =0,10,0,2,1,0,1:0:0 - - - -\n3 0 axi 4 +0,10,0,2,1,0,1:0:0 - - - -\n") ≡ broken 0 2 0 1 1)
    × (verdict_of (codes "1 0 axi 4 =0,10,0,2,1,0,1:0:0 - - - -\n4 1 axi 4 - - - - -\n") ≡ broken 0 2 0 1 1)
    × (verdict_of (codes "1 1 axi 4 +0,10,0,2,1,1,1:0:0 - - - -\n1 2 axi 4 +0,10,0,2,1,1,1:0:0 - - - -\n") ≡ broken 1 1 1 1 8)
    × (verdict_of (codes "1 0 axi 4 =0,10,0,2,1,0,1:0:0 - - - -\n2 1 axi 4 +0,10,0,2,1,1,1:0:0 - - - -\n5 0 axi 4 - - - - -\n") ≡ broken 0 2 0 1 1)
    × (verdict_of (codes "1 0 axi 4 +1,10,0,2,1,0,1:0:0 - - - -\n2 1 lite 4 +1,10,0,2,1,0,1:0:0 - - - -\n") ≡ broken 2 2 1 1 3)

-- nothing; an address that waits in the last round; what stands after `%%` doesn't count; a read of AXI4-Lite
abbrev pub LegalTraces : Type 0
LegalTraces =
    (verdict_of (codes "") ≡ Legal 0)
    × (verdict_of (codes "1 0 axi 4 =0,10,0,2,1,0,1:0:0 - - - -\r\n") ≡ Legal 1)
    × (verdict_of (codes "1 0 axi 4 - - - - -\n7 2 axi 8 - - - - -\n%%\nx") ≡ Legal 2)
    × (verdict_of (codes "1 0 lite 4 - - - +0,10,0,2,1,0,1:0:3 -\n2 0 lite 4 - - - - +0,00000000,0,1,1:0:3") ≡ Legal 2)
