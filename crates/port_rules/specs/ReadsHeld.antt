-- What the reads that are kept stand for: the addresses and the read beats that were transferred.
use Rattle.std.specs.Prelude.{◌≡◌, ℕ, ◌+◌, ◌-◌, ◌==◌, ◌≤◌, ◌∷◌, [], List, length, map, filter, sum, count_by, nat_lt, if◌then◌else◌}
use Rattle.axi_history.specs.declared.port.RawAddr.{RawAddr}
use Rattle.axi_history.specs.declared.port.RawR.{RawR}
use Rattle.axi_history.specs.PortRules.{reads_of, read_beats_of}
use Rattle.port_rules.specs.declared.reads.Read.{Read}

-- what is left of requests with these numbers of beats, in order, after n beats of answers
abbrev pub remaining : List ℕ → ℕ → List ℕ
remaining [] n = []
remaining (beats ∷ more) n = if nat_lt n beats then (beats - n) ∷ more else remaining more (n - beats)

-- what is left of the reads of an ID
abbrev pub lefts : ℕ → List Read → List ℕ
lefts id reads = map (λ (read : Read). read.left) (filter (λ (read : Read). read.id == id) reads)

pub record ReadsHeld (reads : List Read) (addresses : List RawAddr) (beats : List RawR) : Type 0 where
  -- of each ID, what its requests still lack is kept, and it has no more beats than were asked for
  pub each : (id : ℕ) → lefts id reads ≡ remaining (reads_of id addresses) (length (read_beats_of id beats))
  pub within : (id : ℕ) → length (read_beats_of id beats) ≤ sum (reads_of id addresses)
  -- as many reads are kept as lack their last beat
  pub all : length reads + count_by (λ (beat : RawR). beat.last) beats ≡ length addresses
