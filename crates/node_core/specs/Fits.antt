-- Moves that the links allow: a head for each take and room for each put (Arm IHI 0022, handshake process).
use Rattle.std.specs.Prelude.{◌<◌, ℕ, List, Option, Some, None, length}
use Rattle.axi_link.specs.LinkView.{LinkView}
use Rattle.axi_link.specs.Moves.{CanMove}
use Rattle.axi_link.specs.LinkWords.{link_of}
use Rattle.axi_link.specs.declared.out.Out.{Out}

module _ {X : Type 0} where
  -- the channel of the link that is taken from offers a beat
  abbrev pub TakeFits : (LinkView → List X) → List LinkView → Option ℕ → Type 0
  TakeFits queue_of links None = Unit {0}
  TakeFits queue_of links (Some number) = 0 < length (queue_of (link_of links number))

  -- the channel of the link that is put on has room
  abbrev pub PutFits : (LinkView → List X) → List LinkView → Option (ℕ × X) → Type 0
  PutFits queue_of links None = Unit {0}
  PutFits queue_of links (Some put) = length (queue_of (link_of links put.0)) < (link_of links put.0).depth

-- each take has its head and each put its room
pub record MovesFit (links : List LinkView) (out : Out) : Type 0 where
  pub aw_take : TakeFits (λ l. l.aw) links out.aw_take
  pub aw_put : PutFits (λ l. l.aw) links out.aw_put
  pub w_take : TakeFits (λ l. l.w) links out.w_take
  pub w_put : PutFits (λ l. l.w) links out.w_put
  pub b_take : TakeFits (λ l. l.b) links out.b_take
  pub b_put : PutFits (λ l. l.b) links out.b_put
  pub ar_take : TakeFits (λ l. l.ar) links out.ar_take
  pub ar_put : PutFits (λ l. l.ar) links out.ar_put
  pub r_take : TakeFits (λ l. l.r) links out.r_take
  pub r_put : PutFits (λ l. l.r) links out.r_put

-- where the moves of both nodes fit, every link can make them
abbrev pub FittingMovesCanBeMade : Type 0
FittingMovesCanBeMade = (links : List LinkView) (upper lower : Out) → MovesFit links upper → MovesFit links lower → (number : ℕ) → CanMove number (link_of links number) upper lower
