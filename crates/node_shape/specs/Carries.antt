-- What the links above and below a node have to do with one another.
use Rattle.std.specs.Prelude.{◌≡◌, ℕ}
use Rattle.axi_trail.specs.LinkContracts.{Answers, Asks}
use Rattle.axi_trail.specs.Schedule.{Progress, SameChain, Schedule, Share}
use Rattle.axi_trail.specs.Trail.{Beats}

-- a transaction goes on as it is: only its chain may tell more of its way
pub record IsSameShare (above below : Share) : Type 0 where
  pub parts : below.parts ≡ above.parts
  pub write_data : below.write_data ≡ above.write_data
  pub lanes : below.lanes ≡ above.lanes
  pub responses : below.responses ≡ above.responses

-- The link below carries each transaction of the link above as it is, and what is one chain below came by one chain
-- above.
pub record Carries (above below : Schedule) : Type 0 where
  pub id_width : below.id_width ≡ above.id_width
  pub writes : (t : ℕ) → IsSameShare (above.writes t) (below.writes t)
  pub reads : (t : ℕ) → IsSameShare (above.reads t) (below.reads t)
  pub write_chains : (t u : ℕ) → SameChain below.writes t u → SameChain above.writes t u
  pub read_chains : (t u : ℕ) → SameChain below.reads t u → SameChain above.reads t u

-- then what is asked as it should be above is so below, with the same beats
abbrev pub AskedIsCarried : Type 0
AskedIsCarried = (above below : Schedule) (now : Progress) (trail : Beats) → Carries above below → Asks above now trail → Asks below now trail

-- and what is answered as it should be below is so above
abbrev pub AnsweredIsCarried : Type 0
AnsweredIsCarried = (above below : Schedule) (now : Progress) (trail : Beats) → Carries above below → Answers below now trail → Answers above now trail
