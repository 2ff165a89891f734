-- The induction over the rounds of a network: from round to round, first down its links and then up.
use Rattle.std.proofs.Common.{ℕ, ◌<◌, suc, zero, arith}

-- What nodes keep, what is asked on links and what is answered on links, each after a number of rounds. A link's
-- depth grows from the managers down, and its height from the subordinates up.
module _ (Keeps : ℕ → ℕ → Type 0) (Asked Answered : ℕ → ℕ → Type 0) (depth height : ℕ → ℕ)
    (opens : (node : ℕ) → Keeps node 0)
    (down : (n link : ℕ) → ((node : ℕ) → Keeps node n) → ((above : ℕ) → depth above < depth link → Asked above n) → Asked link n)
    (up : (n link : ℕ) → ((node : ℕ) → Keeps node n) → ((any' : ℕ) → Asked any' n) → ((below : ℕ) → height below < height link → Answered below n) → Answered link n)
    (steps : (n node : ℕ) → Keeps node n → ((link : ℕ) → Asked link n) → ((link : ℕ) → Answered link n) → Keeps node (suc n)) where
  asked_to : (n : ℕ) → ((node : ℕ) → Keeps node n) → (bound link : ℕ) → depth link < bound → Asked link n
  asked_to n keeps zero link lt = absurd (omega arith)
  asked_to n keeps (suc bound) link lt = down n link keeps (λ above less. asked_to n keeps bound above (omega arith))

  asked_all : (n : ℕ) → ((node : ℕ) → Keeps node n) → (link : ℕ) → Asked link n
  asked_all n keeps link = asked_to n keeps (suc (depth link)) link (omega arith)

  answered_to : (n : ℕ) → ((node : ℕ) → Keeps node n) → (bound link : ℕ) → height link < bound → Answered link n
  answered_to n keeps zero link lt = absurd (omega arith)
  answered_to n keeps (suc bound) link lt = up n link keeps (asked_all n keeps) (λ below less. answered_to n keeps bound below (omega arith))

  answered_all : (n : ℕ) → ((node : ℕ) → Keeps node n) → (link : ℕ) → Answered link n
  answered_all n keeps link = answered_to n keeps (suc (height link)) link (omega arith)

  pub keeps_always : (n node : ℕ) → Keeps node n
  keeps_always zero node = opens node
  keeps_always (suc n) node = steps n node (keeps_always n node) (asked_all n (keeps_always n)) (answered_all n (keeps_always n))

  pub asked_always : (n link : ℕ) → Asked link n
  asked_always n link = asked_all n (keeps_always n) link

  pub answered_always : (n link : ℕ) → Answered link n
  answered_always n link = answered_all n (keeps_always n) link
