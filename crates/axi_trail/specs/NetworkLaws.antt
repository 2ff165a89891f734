-- From the nodes of a network to the whole of it.
use Rattle.std.specs.Prelude.{ℕ, suc, ◌<◌, Bool, IsTrue}

-- What holds from round to round: what nodes keep, what is asked on links and what is answered on them, each after a
-- number of rounds. A link's depth grows from the managers down, and its height from the subordinates up.
pub record HoldsRoundByRound (keeps asked answered : ℕ → ℕ → Bool) (depth height : ℕ → ℕ) : Type 0 where
  -- a new node keeps it
  pub opens : (node : ℕ) → IsTrue (keeps node 0)
  -- where all nodes keep it, asking goes down from link to link
  pub down : (n link : ℕ) → ((node : ℕ) → IsTrue (keeps node n)) → ((above : ℕ) → depth above < depth link → IsTrue (asked above n)) → IsTrue (asked link n)
  -- and answering goes up
  pub up : (n link : ℕ) → ((node : ℕ) → IsTrue (keeps node n)) → ((other : ℕ) → IsTrue (asked other n)) → ((below : ℕ) → height below < height link → IsTrue (answered below n)) → IsTrue (answered link n)
  -- a node between links that ask and answer keeps it for one more round
  pub steps : (n node : ℕ) → IsTrue (keeps node n) → ((link : ℕ) → IsTrue (asked link n)) → ((link : ℕ) → IsTrue (answered link n)) → IsTrue (keeps node (suc n))

-- then every node keeps it, and every link asks and answers, after any number of rounds
abbrev pub RoundByRound : Type 0
RoundByRound =
    (keeps asked answered : ℕ → ℕ → Bool) (depth height : ℕ → ℕ) → HoldsRoundByRound keeps asked answered depth height → (n : ℕ) →
    ((node : ℕ) → IsTrue (keeps node n)) × ((link : ℕ) → IsTrue (asked link n)) × ((link : ℕ) → IsTrue (answered link n))
