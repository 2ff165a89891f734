-- A link as contracts see it (Arm IHI 0022, channel definition).
use Rattle.std.specs.Prelude.{ℕ, List, []}
use Rattle.axi_beats.specs.declared.beat.Addr.{Addr}
use Rattle.axi_beats.specs.declared.beat.WBeat.{WBeat}
use Rattle.axi_beats.specs.declared.beat.BBeat.{BBeat}
use Rattle.axi_beats.specs.declared.beat.RBeat.{RBeat}

-- the beats that wait on each channel, oldest first, and how many may wait
pub record LinkView : Type 0 where
  pub aw : List Addr
  pub w : List WBeat
  pub b : List BBeat
  pub ar : List Addr
  pub r : List RBeat
  pub depth : ℕ

-- a link of this depth on which no beat waits
abbrev pub empty_link : ℕ → LinkView
empty_link n = record { aw = []; w = []; b = []; ar = []; r = []; depth = n }
