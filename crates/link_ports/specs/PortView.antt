-- What is seen of a link, round by round: the port that it is (Arm IHI 0022, handshake process and channel signals).
use Rattle.std.specs.Prelude.{ℕ, suc, ◌∷◌, [], List, Bool, false, Option, Some, None}
use Rattle.axi_beats.specs.declared.beat.Addr.{Addr}
use Rattle.axi_beats.specs.declared.beat.BBeat.{BBeat}
use Rattle.axi_beats.specs.declared.beat.RBeat.{RBeat}
use Rattle.axi_history.specs.declared.port.PortKind.{PortKind}
use Rattle.axi_history.specs.declared.port.PortRound.{PortRound}
use Rattle.axi_history.specs.declared.port.RawAddr.{RawAddr}
use Rattle.axi_history.specs.declared.port.RawB.{RawB}
use Rattle.axi_history.specs.declared.port.RawR.{RawR}
use Rattle.axi_history.specs.declared.port.Seen.{Seen}
use Rattle.axi_link.specs.LinkView.{LinkView}
use Rattle.axi_link.specs.Moves.{takes_from}
use Rattle.axi_link.specs.LinkWords.{link_of}
use Rattle.axi_link.specs.declared.out.Out.{Out}
use Rattle.axi_beats.specs.Codes.{burst_code, response_code}
use Rattle.plain_lists.specs.Rounds.{over}

-- the beats as they are seen on the channels: no access is exclusive, and a W beat is seen as it is
abbrev pub seen_address : Addr → RawAddr
seen_address a = record { id = a.id; addr = a.addr; len = a.len; size = a.size; burst = burst_code a.burst; lock = false; tag = a.tag }

abbrev pub seen_response : BBeat → RawB
seen_response b = record { id = b.id; resp = response_code b.resp; tag = b.tag }

abbrev pub seen_read_beat : RBeat → RawR
seen_read_beat r = record { id = r.id; lanes = r.lanes; resp = response_code r.resp; last = r.last; tag = r.tag }

module _ {X : Type 0} where
  abbrev pub seen_itself : X → X
  seen_itself x = x

-- a channel in a round: it offers the head of its queue, which the node at the other end takes or doesn't
module _ {X Y : Type 0} (seen_as : X → Y) where
  abbrev pub channel_seen : Bool → List X → Option (Seen Y)
  channel_seen takes [] = None
  channel_seen takes (x ∷ queue) = Some (record { beat = seen_as x; taken = takes })

-- The port that a link is in a round, where the link is as the round began: the node below takes addresses and write
-- data, and the node above takes answers.
abbrev pub port_of : ℕ → ℕ → PortKind → LinkView → Out → Out → PortRound
port_of round number kind link upper lower = record {
  round = round;
  link = number;
  kind = kind;
  aw = channel_seen seen_address (takes_from number lower.aw_take) link.aw;
  w = channel_seen seen_itself (takes_from number lower.w_take) link.w;
  b = channel_seen seen_response (takes_from number upper.b_take) link.b;
  ar = channel_seen seen_address (takes_from number lower.ar_take) link.ar;
  r = channel_seen seen_read_beat (takes_from number upper.r_take) link.r;
}

-- The port of one link over the rounds, where the links were `links n` as round n began and the nodes at the link's
-- ends did `uppers n` and `lowers n` in it. The first round of a run has number 1.
module _ (number : ℕ) (kind : PortKind) (links : ℕ → List LinkView) (uppers lowers : ℕ → Out) where
  -- in the round after n rounds
  abbrev pub port_round : ℕ → PortRound
  port_round n = port_of (suc n) number kind (link_of (links n) number) (uppers n) (lowers n)

  -- in the first n rounds
  abbrev pub port_history : ℕ → List PortRound
  port_history n = over (λ m. port_round m ∷ []) n
