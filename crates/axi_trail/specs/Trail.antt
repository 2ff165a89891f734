-- Trails: all beats that one end of a link has passed (Arm IHI 0022, handshake process).
use Rattle.std.specs.Prelude.{◌≡◌, ◌++◌, [], ℕ, suc, List, Bool, true, false, take}
use Rattle.axi_beats.specs.declared.beat.Addr.{Addr}
use Rattle.axi_beats.specs.declared.beat.WBeat.{WBeat}
use Rattle.axi_beats.specs.declared.beat.BBeat.{BBeat}
use Rattle.axi_beats.specs.declared.beat.RBeat.{RBeat}
use Rattle.axi_link.specs.LinkView.{LinkView, empty_link}
use Rattle.axi_link.specs.Moves.{takes_from, appended, without_head, link_after}
use Rattle.axi_link.specs.declared.out.Out.{Out}
use Rattle.plain_lists.specs.Rounds.{over}
use Rattle.plain_lists.specs.Prefixes.{IsPrefix}
use Rattle.axi_link.specs.LinkWords.{link_of}

-- the beats that one end of a link has passed on each channel, oldest first
pub record Beats : Type 0 where
  pub aw : List Addr
  pub w : List WBeat
  pub b : List BBeat
  pub ar : List Addr
  pub r : List RBeat

-- what a node has passed at its end of each link, by the number of the link
abbrev pub Trail : Type 0
Trail = ℕ → Beats

abbrev pub no_beats : Beats
no_beats = record { aw = []; w = []; b = []; ar = []; r = [] }

-- the first beats, and then the others
abbrev pub joined : Beats → Beats → Beats
joined first more = record { aw = first.aw ++ more.aw; w = first.w ++ more.w; b = first.b ++ more.b; ar = first.ar ++ more.ar; r = first.r ++ more.r }

-- the head of a queue, where it is taken
abbrev pub beat_taken : {X : Type 0} → Bool → List X → List X
beat_taken true queue = take 1 queue
beat_taken false queue = []

-- what the node above a link moves on it in a round: it puts addresses and write data, and takes answers
abbrev pub moved_above : Out → List LinkView → Trail
moved_above out links number = record {
  aw = appended number out.aw_put;
  w = appended number out.w_put;
  b = beat_taken (takes_from number out.b_take) (link_of links number).b;
  ar = appended number out.ar_put;
  r = beat_taken (takes_from number out.r_take) (link_of links number).r;
}

-- what the node below a link moves on it in a round: it takes addresses and write data, and puts answers
abbrev pub moved_below : Out → List LinkView → Trail
moved_below out links number = record {
  aw = beat_taken (takes_from number out.aw_take) (link_of links number).aw;
  w = beat_taken (takes_from number out.w_take) (link_of links number).w;
  b = appended number out.b_put;
  ar = beat_taken (takes_from number out.ar_take) (link_of links number).ar;
  r = appended number out.r_put;
}

-- The trail after n rounds of a node that did `outs m` in round m, where the links were `links m` as the round
-- began: on the links of which it is the node above, and on those of which it is the node below.
module _ (outs : ℕ → Out) (links : ℕ → List LinkView) where
  abbrev pub trail_above : ℕ → Trail
  trail_above n number = record {
    aw = over (λ m. (moved_above (outs m) (links m) number).aw) n;
    w = over (λ m. (moved_above (outs m) (links m) number).w) n;
    b = over (λ m. (moved_above (outs m) (links m) number).b) n;
    ar = over (λ m. (moved_above (outs m) (links m) number).ar) n;
    r = over (λ m. (moved_above (outs m) (links m) number).r) n;
  }

  abbrev pub trail_below : ℕ → Trail
  trail_below n number = record {
    aw = over (λ m. (moved_below (outs m) (links m) number).aw) n;
    w = over (λ m. (moved_below (outs m) (links m) number).w) n;
    b = over (λ m. (moved_below (outs m) (links m) number).b) n;
    ar = over (λ m. (moved_below (outs m) (links m) number).ar) n;
    r = over (λ m. (moved_below (outs m) (links m) number).r) n;
  }

-- One channel over the rounds: it begins empty, a take drops its head, and a put appends.
pub record IsQueue {X : Type 0} (takes : ℕ → Bool) (puts : ℕ → List X) (queue : ℕ → List X) : Type 0 where
  pub opens : queue 0 ≡ []
  pub moves : (n : ℕ) → queue (suc n) ≡ without_head (takes n) (queue n) ++ puts n

-- One link over the rounds: it begins empty, and the nodes at its ends move its beats.
pub record IsLinkRun (number : ℕ) (links : ℕ → List LinkView) (uppers lowers : ℕ → Out) : Type 0 where
  pub depth : ℕ
  pub opens : link_of (links 0) number ≡ empty_link depth
  pub moves : (n : ℕ) → link_of (links (suc n)) number ≡ link_after number (link_of (links n) number) (uppers n) (lowers n)

-- What waits on a link is what one of its ends has put and the other one hasn't taken.
pub record IsFifo (upper lower : Beats) (link : LinkView) : Type 0 where
  pub aw : upper.aw ≡ lower.aw ++ link.aw
  pub w : upper.w ≡ lower.w ++ link.w
  pub b : lower.b ≡ upper.b ++ link.b
  pub ar : upper.ar ≡ lower.ar ++ link.ar
  pub r : lower.r ≡ upper.r ++ link.r

-- The lower end has taken no more addresses and write data than the upper one has put, and the upper end no more
-- answers than the lower one has put; what was taken came in its order.
pub record IsBehind (lower upper : Beats) : Type 0 where
  pub aw : IsPrefix lower.aw upper.aw
  pub w : IsPrefix lower.w upper.w
  pub b : IsPrefix upper.b lower.b
  pub ar : IsPrefix lower.ar upper.ar
  pub r : IsPrefix upper.r lower.r

-- the trail of the node below, with the heads that it looks at
abbrev pub seen_below : Beats → LinkView → Beats
seen_below lower link = record lower { aw = lower.aw ++ take 1 link.aw; w = lower.w ++ take 1 link.w; ar = lower.ar ++ take 1 link.ar }

-- the trail of the node above, with the heads that it looks at
abbrev pub seen_above : Beats → LinkView → Beats
seen_above upper link = record upper { b = upper.b ++ take 1 link.b; r = upper.r ++ take 1 link.r }
