-- What holds of the trails of a link's two ends, whatever the nodes do.
use Rattle.std.specs.Prelude.{◌≡◌, ℕ, suc, List}
use Rattle.axi_link.specs.LinkView.{LinkView}
use Rattle.axi_link.specs.LinkWords.{link_of}
use Rattle.axi_link.specs.declared.out.Out.{Out}
use Rattle.axi_trail.specs.Trail.{Beats, no_beats, joined, moved_above, moved_below, trail_above, trail_below, IsLinkRun, IsFifo, IsBehind, seen_below, seen_above}

-- a trail begins empty, and a round adds what the node moves in it
abbrev pub TrailsGrow : Type 0
TrailsGrow =
    (outs : ℕ → Out) (links : ℕ → List LinkView) (n number : ℕ) →
    (trail_above outs links 0 number ≡ no_beats) × (trail_above outs links (suc n) number ≡ joined (trail_above outs links n number) (moved_above (outs n) (links n) number))
    × (trail_below outs links 0 number ≡ no_beats) × (trail_below outs links (suc n) number ≡ joined (trail_below outs links n number) (moved_below (outs n) (links n) number))

-- the beats on a link are the rest between the trails of its ends
abbrev pub LinksAreQueues : Type 0
LinksAreQueues =
    (number : ℕ) (links : ℕ → List LinkView) (uppers lowers : ℕ → Out) → IsLinkRun number links uppers lowers → (n : ℕ) →
    IsFifo (trail_above uppers links n number) (trail_below lowers links n number) (link_of (links n) number)

-- what is taken in a round was put in an earlier one, in both directions
abbrev pub TakenWasPutBefore : Type 0
TakenWasPutBefore =
    (number : ℕ) (links : ℕ → List LinkView) (uppers lowers : ℕ → Out) → IsLinkRun number links uppers lowers → (n : ℕ) →
    (IsBehind (trail_below lowers links (suc n) number) (trail_above uppers links n number))
    × (IsBehind (trail_below lowers links n number) (trail_above uppers links (suc n) number))

-- the lower end is behind the upper one, also with the heads that either of them looks at
abbrev pub HeadsAreBehind : Type 0
HeadsAreBehind =
    (upper lower : Beats) (link : LinkView) → IsFifo upper lower link →
    (IsBehind lower upper) × (IsBehind (seen_below lower link) upper) × (IsBehind lower (seen_above upper link))

-- of three ends in a row, the last is behind the first
abbrev pub BehindIsTransitive : Type 0
BehindIsTransitive = (lowest middle highest : Beats) → IsBehind lowest middle → IsBehind middle highest → IsBehind lowest highest
