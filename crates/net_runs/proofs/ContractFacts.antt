-- The induction over the rounds of any network.
use Rattle.std.proofs.Common.{◌≡◌, ◌<◌, ◌+◌, ◌-◌, ◌++◌, get_or, ℕ, suc, List, [], ◌∷◌, length, map, Option, Some, None, refl, sym, ◌∙◌, ap, ap₂, subst, arith}
use Rattle.std.specs.Option.{option_map, option_map_or}
use Rattle.std.specs.Prelude.{All, Contains, IfSome, slice_get}
use Rattle.std.proofs.lemmas.List.Elements.{All-contains, All-weaker}
use Rattle.std.proofs.lemmas.List.{get_or_default, length-map}
use Rattle.std.proofs.lemmas.Option.{slice_get-get_or, slice_get-map, slice_get_within}
use Rattle.axi_link.specs.LinkView.{LinkView, empty_link}
use Rattle.axi_link.specs.LinkWords.{link_of}
use Rattle.axi_link.specs.declared.out.Out.{Out}
use Rattle.axi_trail.proofs.InductionFacts.{answered_always, asked_always, keeps_always}
use Rattle.axi_trail.proofs.SlackFacts.{answered_through_link, asked_through_link}
use Rattle.axi_trail.specs.LinkContracts.{Answers, Asks}
use Rattle.axi_trail.specs.Schedule.{Grows, Progress, Schedule}
use Rattle.axi_trail.specs.Trail.{joined, moved_above, moved_below, seen_above, seen_below}
use Rattle.node_shape.specs.KindHolds.{KindHolds}
use Rattle.net_model.specs.Network.{CanMoveQueue, Network, lower_node, node_next, upper_node}
use Rattle.net_model.specs.Wired.{IsWired, lowers_at, uppers_at}
use Rattle.net_runs.proofs.RoundLemmas.{links-run, lowers-stay, node-after, queues-long, uppers-stay}
use Rattle.net_runs.specs.Run.{HoldsAt, chosen, lower_end, nodes_after, noted_in, passed_by, queues_after, upper_end}
use Rattle.net_runs.specs.RunKeeps.{IsScheduled, RunKeeps, RunsGoOn, RunsKeep}
use Rattle.node_core.proofs.MovesLemmas.{fitting_moves}
use Rattle.node_core.specs.Acted.{Acted, no_moves}
use Rattle.node_core.specs.Fits.{MovesFit}
use Rattle.node_shape.specs.Kind.{AnsweredAt, Around, AskedAt, IsKnown, Kind, Passed, next_of, out_of, passed_after}
use Rattle.plain_lists.proofs.PrefixLemmas.{prefix_itself}
use Rattle.plain_lists.specs.Numbered.{AllNumbered}

-- what is told of the node of a number, where there is one
pub for-some : {X : Type 0} (P : X → Type 0) (o : Option X) → ((x : X) → o ≡ Some x → P x) → IfSome o P
for-some P None each = tt
for-some P (Some x) each = each x refl

pub at-some : {X : Type 0} (P : X → Type 0) (o : Option X) (x : X) → o ≡ Some x → IfSome o P → P x
at-some P o x is all = subst (λ (o : Option _). IfSome o P) is all

grows-itself : (now : Progress) → Grows now now
grows-itself now = record { issued = λ t known. known; written = λ t known. known; filled = λ t. prefix_itself (now.filled t) }

-- there is a node where there is a link of it
has-node : {S : Type 0} (of : S → List ℕ) (o : Option (Acted S)) (link : ℕ) → Contains (option_map_or (λ (a : Acted S). of a.state) o []) link → (node : Acted S) × (o ≡ Some node)
has-node of None link among = absurd (omega (arith, among.1))
has-node of (Some node) link among = (node, refl)

module _ {S E : Type 0} (kind : Kind S E) (holds : KindHolds kind) (net : Network S) (schedules : ℕ → Schedule) (now : ℕ → Progress)
    (wired : IsWired kind net) (scheduled : IsScheduled kind net schedules now) where
  abbrev upper : ℕ → ℕ
  upper link = upper_node net.links link

  abbrev lower : ℕ → ℕ
  lower link = lower_node net.links link

  abbrev Asked : ℕ → ℕ → Type 0
  Asked link n = link < length net.links → Asks (schedules link) (now n) (upper_end kind net link n)

  abbrev Answered : ℕ → ℕ → Type 0
  Answered link n = link < length net.links → Answers (schedules link) (now n) (lower_end kind net link n)

  -- what a node keeps
  pub record StateKeeps (node n : ℕ) (s : S) : Type 0 where
    pub fact : kind.fact s
    pub suits : kind.suits schedules s
    pub keeps : kind.keeps schedules n s (passed_by kind net node n)

  abbrev pub Keeps : ℕ → ℕ → Type 0
  Keeps node n = HoldsAt kind net (StateKeeps node n) node n

  abbrev pub At : ℕ → ℕ → Acted S → Type 0
  At n k node = slice_get (nodes_after kind net n) k ≡ Some node

  abbrev OwnUpper : ℕ → ℕ → Type 0
  OwnUpper k link = (link < length net.links) × (lower link ≡ k)

  abbrev OwnLower : ℕ → ℕ → Type 0
  OwnLower k link = (link < length net.links) × (upper link ≡ k)

  -- a node's links, in each round
  pub uppers-are : (n k : ℕ) (node : Acted S) → At n k node → All (OwnUpper k) (kind.uppers node.state)
  uppers-are n k node at =
      subst (λ (links : List ℕ). All (OwnUpper k) links)
      (sym (uppers-stay kind holds net n k) ∙ ap (λ (o : Option (Acted S)). option_map_or (λ (a : Acted S). kind.uppers a.state) o []) at) (wired.uppers k)

  pub lowers-are : (n k : ℕ) (node : Acted S) → At n k node → All (OwnLower k) (kind.lowers node.state)
  lowers-are n k node at =
      subst (λ (links : List ℕ). All (OwnLower k) links)
      (sym (lowers-stay kind holds net n k) ∙ ap (λ (o : Option (Acted S)). option_map_or (λ (a : Acted S). kind.lowers a.state) o []) at) (wired.lowers k)

  -- what is asked at the upper end of a link is asked at its lower end
  pub asked-below :
      (n link : ℕ) → link < length net.links → Asks (schedules link) (now n) (upper_end kind net link n) →
      Asks (schedules link) (now n) (lower_end kind net link n)
      × Asks (schedules link) (now n) (seen_below (lower_end kind net link n) (link_of (queues_after kind net n) link))
      × Asks (schedules link) (now n) (lower_end kind net link (suc n))
  asked-below n link known asks =
      asked_through_link (schedules link) (now n) (now n) link (queues_after kind net) (chosen kind net (upper link)) (chosen kind net (lower link)) (grows-itself (now n))
      (links-run kind net wired link known) n asks

  -- what is answered at its lower end is answered at its upper end
  pub answered-above :
      (n link : ℕ) → link < length net.links → Answers (schedules link) (now n) (lower_end kind net link n) →
      Answers (schedules link) (now n) (upper_end kind net link n)
      × Answers (schedules link) (now n) (seen_above (upper_end kind net link n) (link_of (queues_after kind net n) link))
      × Answers (schedules link) (now n) (upper_end kind net link (suc n))
  answered-above n link known answers =
      answered_through_link (schedules link) (now n) (now n) link (queues_after kind net) (chosen kind net (upper link)) (chosen kind net (lower link)) (grows-itself (now n))
      (links-run kind net wired link known) n answers

  -- at the own end of a node
  asked-at :
      (n k : ℕ) (node : Acted S) → At n k node → ((link : ℕ) → lower link ≡ k → Asked link n) →
      AskedAt schedules (now n) (passed_by kind net k n).uppers (kind.uppers node.state)
      × AskedAt schedules (now n) (λ link. seen_below ((passed_by kind net k n).uppers link) (link_of (queues_after kind net n) link)) (kind.uppers node.state)
      × AskedAt schedules (now n) (passed_by kind net k (suc n)).uppers (kind.uppers node.state)
  asked-at n k node at asked =
      let from : (link : ℕ) → OwnUpper k link → Asks (schedules link) (now n) (upper_end kind net link n) = λ link own. asked link own.1 own.0 in (
        All-weaker (OwnUpper k) (λ link. Asks (schedules link) (now n) ((passed_by kind net k n).uppers link))
            (λ link own. subst (λ (j : ℕ). Asks (schedules link) (now n) ((passed_by kind net j n).uppers link)) own.1 (asked-below n link own.0 (from link own)).0)
            (kind.uppers node.state) (uppers-are n k node at),
        All-weaker (OwnUpper k) (λ link. Asks (schedules link) (now n) (seen_below ((passed_by kind net k n).uppers link) (link_of (queues_after kind net n) link)))
            (λ link own. subst (λ (j : ℕ). Asks (schedules link) (now n) (seen_below ((passed_by kind net j n).uppers link) (link_of (queues_after kind net n) link))) own.1
            (asked-below n link own.0 (from link own)).1) (kind.uppers node.state) (uppers-are n k node at),
        All-weaker (OwnUpper k) (λ link. Asks (schedules link) (now n) ((passed_by kind net k (suc n)).uppers link))
            (λ link own. subst (λ (j : ℕ). Asks (schedules link) (now n) ((passed_by kind net j (suc n)).uppers link)) own.1 (asked-below n link own.0 (from link own)).2)
            (kind.uppers node.state) (uppers-are n k node at),
      )

  asks-at : (n k : ℕ) (node : Acted S) → At n k node → ((link : ℕ) → Asked link n) → AskedAt schedules (now n) (passed_by kind net k n).lowers (kind.lowers node.state)
  asks-at n k node at asked =
      All-weaker (OwnLower k) (λ link. Asks (schedules link) (now n) ((passed_by kind net k n).lowers link))
      (λ link own. subst (λ (j : ℕ). Asks (schedules link) (now n) ((passed_by kind net j n).lowers link)) own.1 (asked link own.0)) (kind.lowers node.state)
      (lowers-are n k node at)

  answered-at :
      (n k : ℕ) (node : Acted S) → At n k node → ((link : ℕ) → upper link ≡ k → Answered link n) →
      AnsweredAt schedules (now n) (passed_by kind net k n).lowers (kind.lowers node.state)
      × AnsweredAt schedules (now n) (λ link. seen_above ((passed_by kind net k n).lowers link) (link_of (queues_after kind net n) link)) (kind.lowers node.state)
      × AnsweredAt schedules (now n) (passed_by kind net k (suc n)).lowers (kind.lowers node.state)
  answered-at n k node at answered =
      let from : (link : ℕ) → OwnLower k link → Answers (schedules link) (now n) (lower_end kind net link n) = λ link own. answered link own.1 own.0 in (
        All-weaker (OwnLower k) (λ link. Answers (schedules link) (now n) ((passed_by kind net k n).lowers link))
            (λ link own. subst (λ (j : ℕ). Answers (schedules link) (now n) ((passed_by kind net j n).lowers link)) own.1 (answered-above n link own.0 (from link own)).0)
            (kind.lowers node.state) (lowers-are n k node at),
        All-weaker (OwnLower k) (λ link. Answers (schedules link) (now n) (seen_above ((passed_by kind net k n).lowers link) (link_of (queues_after kind net n) link)))
            (λ link own. subst (λ (j : ℕ). Answers (schedules link) (now n) (seen_above ((passed_by kind net j n).lowers link) (link_of (queues_after kind net n) link))) own.1
            (answered-above n link own.0 (from link own)).1) (kind.lowers node.state) (lowers-are n k node at),
        All-weaker (OwnLower k) (λ link. Answers (schedules link) (now n) ((passed_by kind net k (suc n)).lowers link))
            (λ link own. subst (λ (j : ℕ). Answers (schedules link) (now n) ((passed_by kind net j (suc n)).lowers link)) own.1 (answered-above n link own.0 (from link own)).2)
            (kind.lowers node.state) (lowers-are n k node at),
      )

  answers-at : (n k : ℕ) (node : Acted S) → At n k node → ((link : ℕ) → Answered link n) → AnsweredAt schedules (now n) (passed_by kind net k n).uppers (kind.uppers node.state)
  answers-at n k node at answered =
      All-weaker (OwnUpper k) (λ link. Answers (schedules link) (now n) ((passed_by kind net k n).uppers link))
      (λ link own. subst (λ (j : ℕ). Answers (schedules link) (now n) ((passed_by kind net j n).uppers link)) own.1 (answered link own.0)) (kind.uppers node.state)
      (uppers-are n k node at)

  pub keeps-at : (n k : ℕ) (node : Acted S) → At n k node → Keeps k n → StateKeeps k n node.state
  keeps-at n k node at keeps = at-some (λ (a : Acted S). StateKeeps k n a.state) (slice_get (nodes_after kind net n) k) node at keeps

  known-at : (n k : ℕ) (node : Acted S) → At n k node → ((node : ℕ) → Keeps node n) → IsKnown kind schedules (now n) node.state (passed_by kind net k n)
  known-at n k node at keeps =
      at-some (λ (a : Acted S). IsKnown kind schedules (now n) a.state (passed_by kind net k n)) (slice_get (nodes_after kind net n) k) node at
      (scheduled.known n (λ j. for-some (λ (a : Acted S). kind.keeps schedules n a.state (passed_by kind net j n)) (slice_get (nodes_after kind net n) j) (λ other there. (keeps-at n j other there (keeps j)).keeps)) k)

  -- down: a link below is asked as those above it are
  falls-to : (link other : ℕ) → other < length net.links → lower other ≡ upper link → wired.rank (upper other) < wired.rank (upper link)
  falls-to link other known same = subst (λ (k : ℕ). wired.rank (upper other) < wired.rank k) same (wired.falls other known)

  down : (n link : ℕ) → ((node : ℕ) → Keeps node n) → ((above : ℕ) → wired.rank (upper above) < wired.rank (upper link) → Asked above n) → Asked link n
  down n link keeps above known =
      let k = upper link in
      let among : Contains (lowers_at kind (nodes_after kind net n) k) link = subst (λ (links : List ℕ). Contains links link) (sym (lowers-stay kind holds net n k)) (wired.above link known) in
      let has = has-node kind.lowers (slice_get (nodes_after kind net n) k) link among in
      let node = has.0 in
      let at = has.1 in
      let mine : Contains (kind.lowers node.state) link = subst (λ (o : Option (Acted S)). Contains (option_map_or (λ (a : Acted S). kind.lowers a.state) o []) link) at among in
      let asked = asked-at n k node at (λ other same there. above other (falls-to link other there same) there) in
      All-contains (λ l. Asks (schedules l) (now n) ((passed_by kind net k n).lowers l)) (kind.lowers node.state) link
      (holds.asks_below schedules (now n) n node.state (passed_by kind net k n) (keeps-at n k node at (keeps k)).fact (keeps-at n k node at (keeps k)).keeps (known-at n k node at keeps) asked.0) mine

  -- up: a link above is answered as those below it are
  rises-to : (link other : ℕ) → other < length net.links → upper other ≡ lower link → length net.nodes - wired.rank (lower other) < length net.nodes - wired.rank (lower link)
  rises-to link other known same =
      let less : wired.rank (lower link) < wired.rank (lower other) = subst (λ (k : ℕ). wired.rank k < wired.rank (lower other)) same (wired.falls other known) in
      omega (arith, less, wired.ranked (lower other))

  up :
      (n link : ℕ) → ((node : ℕ) → Keeps node n) → ((other : ℕ) → Asked other n) →
      ((below : ℕ) → length net.nodes - wired.rank (lower below) < length net.nodes - wired.rank (lower link) → Answered below n) → Answered link n
  up n link keeps asked below known =
      let k = lower link in
      let among : Contains (uppers_at kind (nodes_after kind net n) k) link = subst (λ (links : List ℕ). Contains links link) (sym (uppers-stay kind holds net n k)) (wired.below link known) in
      let has = has-node kind.uppers (slice_get (nodes_after kind net n) k) link among in
      let node = has.0 in
      let at = has.1 in
      let mine : Contains (kind.uppers node.state) link = subst (λ (o : Option (Acted S)). Contains (option_map_or (λ (a : Acted S). kind.uppers a.state) o []) link) at among in
      let asked_above = asked-at n k node at (λ other same. asked other) in
      let answered_below = answered-at n k node at (λ other same there. below other (rises-to link other there same) there) in
      All-contains (λ l. Answers (schedules l) (now n) ((passed_by kind net k n).uppers l)) (kind.uppers node.state) link
      (holds.answers_above schedules (now n) n node.state (passed_by kind net k n) (keeps-at n k node at (keeps k)).fact (keeps-at n k node at (keeps k)).keeps (known-at n k node at keeps) asked_above.0
      (asks-at n k node at asked) answered_below.0) mine

  -- what a node does in a round, and has passed after it
  pub chosen-is : (n k : ℕ) (node : Acted S) → At n k node → chosen kind net k n ≡ out_of kind (suc n) (queues_after kind net n) node.state
  chosen-is n k node at =
      ap (λ (o : Option (Acted S)). option_map_or (λ (a : Acted S). a.out) o no_moves) (slice_get-map (node_next kind (suc n) (queues_after kind net n)) (nodes_after kind net n) k)
      ∙ ap (λ (o : Option (Acted S)). option_map_or (λ (a : Acted S). a.out) (option_map (node_next kind (suc n) (queues_after kind net n)) o) no_moves) at

  passed-next : (n k : ℕ) (node : Acted S) → At n k node → passed_by kind net k (suc n) ≡ passed_after kind (suc n) (queues_after kind net n) node.state (passed_by kind net k n)
  passed-next n k node at =
      let p = passed_by kind net k n in
      let queues = queues_after kind net n in
      let noted : noted_in kind net k n ≡ kind.notes queues node.state = ap (λ (o : Option (Acted S)). option_map_or (λ (a : Acted S). kind.notes queues a.state) o []) at in
      ap₂ (λ (o : Out) (more : List E). record { uppers = λ l. joined (p.uppers l) (moved_below o queues l); lowers = λ l. joined (p.lowers l) (moved_above o queues l); noted = p.noted ++ more })
      (chosen-is n k node at) noted

  -- what a node may rely on in a round
  pub around-of :
      (n k : ℕ) (node : Acted S) → At n k node → ((link : ℕ) → Asked link n) → ((link : ℕ) → Answered link n) →
      Around kind schedules (now n) (suc n) (queues_after kind net n) node.state (passed_by kind net k n)
  around-of n k node at asked answered =
      let after = passed-next n k node at in
      let asks = asked-at n k node at (λ other same. asked other) in
      let answers = answered-at n k node at (λ other same. answered other) in
      record {
        asked = asks.0;
        asked_seen = asks.1;
        asked_next = subst (λ (p : Passed E). AskedAt schedules (now n) p.uppers (kind.uppers node.state)) after asks.2;
        asks = asks-at n k node at asked;
        answers = answers-at n k node at answered;
        answered = answers.0;
        answered_seen = answers.1;
        answered_next = subst (λ (p : Passed E). AnsweredAt schedules (now n) p.lowers (kind.lowers node.state)) after answers.2;
      }

  -- it may decide
  pub may-decide : (n k : ℕ) (node : Acted S) → At n k node → Keeps k n → ((link : ℕ) → Asked link n) → kind.can (suc n) (queues_after kind net n) node.state
  may-decide n k node at keeps asked =
      let queues = queues_after kind net n in
      let long : length queues ≡ length net.links = queues-long kind net n ∙ wired.long in
      holds.may_decide schedules (now n) n queues node.state (passed_by kind net k n) (keeps-at n k node at keeps).fact (keeps-at n k node at keeps).suits
      (All-weaker (OwnUpper k) (λ link. link < length queues) (λ link own. omega (arith, own.0, long)) (kind.uppers node.state) (uppers-are n k node at))
      (All-weaker (OwnLower k) (λ link. link < length queues) (λ link own. omega (arith, own.0, long)) (kind.lowers node.state) (lowers-are n k node at))
      (asked-at n k node at (λ other same. asked other)).1

  -- and keeps what it keeps for one more round
  step-of : (n k : ℕ) (node : Acted S) → At n k node → Keeps k n → ((link : ℕ) → Asked link n) → ((link : ℕ) → Answered link n) → StateKeeps k (suc n) (next_of kind (suc n) (queues_after kind net n) node.state)
  step-of n k node at keeps asked answered =
      let queues = queues_after kind net n in
      let mine = keeps-at n k node at keeps in
      let can = may-decide n k node at keeps asked in
      record {
        fact = holds.stays (suc n) queues node.state mine.fact can;
        suits = (holds.steady (suc n) queues node.state).suits schedules mine.suits;
        keeps = subst (λ (p : Passed E). kind.keeps schedules (suc n) (next_of kind (suc n) queues node.state) p) (sym (passed-next n k node at))
            (holds.lasts schedules (now n) n queues node.state (passed_by kind net k n) mine.fact mine.keeps can (around-of n k node at asked answered));
      }

  steps : (n k : ℕ) → Keeps k n → ((link : ℕ) → Asked link n) → ((link : ℕ) → Answered link n) → Keeps k (suc n)
  steps n k keeps asked answered =
      let next = node_next kind (suc n) (queues_after kind net n) in
      let go : (o : Option (Acted S)) → slice_get (nodes_after kind net n) k ≡ o → IfSome (option_map next o) (λ (a : Acted S). StateKeeps k (suc n) a.state) = elim [
        | None ↦ λ at. tt
        | Some node ↦ λ at. step-of n k node at keeps asked answered
      ] in
      subst (λ (o : Option (Acted S)). IfSome o (λ (a : Acted S). StateKeeps k (suc n) a.state)) (sym (node-after kind net n k)) (go (slice_get (nodes_after kind net n) k) refl)

  opens : (k : ℕ) → Keeps k 0
  opens k = for-some (λ (a : Acted S). StateKeeps k 0 a.state) (slice_get net.nodes k) (λ node at.
      let new = at-some (λ (a : Acted S). kind.begins a.state) (slice_get net.nodes k) node at (scheduled.begins k) in
      let suits = at-some (λ (a : Acted S). kind.suits schedules a.state) (slice_get net.nodes k) node at (scheduled.suits k) in
      record { fact = holds.begins node.state new; suits = suits; keeps = holds.opens schedules node.state new suits })

  -- its moves fit
  pub moves-fit : (n k : ℕ) → MovesFit (queues_after kind net n) (chosen kind net k n)
  moves-fit n k =
      let queues = queues_after kind net n in
      let go : (o : Option (Acted S)) → slice_get (nodes_after kind net n) k ≡ o → MovesFit queues (chosen kind net k n) = elim [
        | None ↦ λ at.
            let nothing : chosen kind net k n ≡ no_moves =
            ap (λ (o : Option (Acted S)). option_map_or (λ (a : Acted S). a.out) o no_moves)
            (slice_get-map (node_next kind (suc n) queues) (nodes_after kind net n) k ∙ ap (option_map (node_next kind (suc n) queues)) at) in
            subst (λ (out : Out). MovesFit queues out) (sym nothing)
            (record { aw_take = tt; aw_put = tt; w_take = tt; w_put = tt; b_take = tt; b_put = tt; ar_take = tt; ar_put = tt; r_take = tt; r_put = tt })
        | Some node ↦ λ at. subst (λ (out : Out). MovesFit queues out) (sym (chosen-is n k node at)) (holds.fit (suc n) queues node.state)
      ] in go (slice_get (nodes_after kind net n) k) refl

  -- there is the node of each link
  node-within : (of : S → List ℕ) (nodes : List (Acted S)) (k link : ℕ) → Contains (option_map_or (λ (a : Acted S). of a.state) (slice_get nodes k) []) link → k < length nodes
  node-within of nodes k link among =
      let has = has-node of (slice_get nodes k) link among in
      slice_get_within nodes k has.0 has.1

  pub can-commit : (n link : ℕ) → link < length net.links → CanMoveQueue net.links (map (node_next kind (suc n) (queues_after kind net n)) (nodes_after kind net n)) link (link_of (queues_after kind net n) link)
  can-commit n link known =
      let nodes = nodes_after kind net n in
      let more : length (map (node_next kind (suc n) (queues_after kind net n)) nodes) ≡ length nodes = length-map nodes (node_next kind (suc n) (queues_after kind net n)) in
      let above : upper link < length nodes =
      node-within kind.lowers nodes (upper link) link (subst (λ (links : List ℕ). Contains links link) (sym (lowers-stay kind holds net n (upper link))) (wired.above link known)) in
      let below : lower link < length nodes =
      node-within kind.uppers nodes (lower link) link (subst (λ (links : List ℕ). Contains links link) (sym (uppers-stay kind holds net n (lower link))) (wired.below link known)) in
      record {
        known = known;
        upper = omega (arith, above, more);
        lower = omega (arith, below, more);
        moves = fitting_moves (queues_after kind net n) (chosen kind net (upper link) n) (chosen kind net (lower link) n) (moves-fit n (upper link)) (moves-fit n (lower link)) link;
      }

  pub all-keep : (n node : ℕ) → Keeps node n
  all-keep n = keeps_always Keeps Asked Answered (λ link. wired.rank (upper link)) (λ link. length net.nodes - wired.rank (lower link)) opens down up steps n

  pub all-asked : (n link : ℕ) → Asked link n
  all-asked n = asked_always Keeps Asked Answered (λ link. wired.rank (upper link)) (λ link. length net.nodes - wired.rank (lower link)) opens down up steps n

  pub all-answered : (n link : ℕ) → Answered link n
  all-answered n = answered_always Keeps Asked Answered (λ link. wired.rank (upper link)) (λ link. length net.nodes - wired.rank (lower link)) opens down up steps n

  pub runs-keep-of : (n : ℕ) → RunKeeps kind net schedules now n
  runs-keep-of n = record {
    facts = λ k. for-some (λ (a : Acted S). kind.fact a.state) (slice_get (nodes_after kind net n) k) (λ node at. (keeps-at n k node at (all-keep n k)).fact);
    nodes = λ k. for-some (λ (a : Acted S). kind.keeps schedules n a.state (passed_by kind net k n)) (slice_get (nodes_after kind net n) k) (λ node at. (keeps-at n k node at (all-keep n k)).keeps);
    asked = all-asked n;
    answered = all-answered n;
  }

all-numbered : {X : Type 0} (P : ℕ → X → Type 0) (first : ℕ) (xs : List X) → ((i : ℕ) (d : X) → i < length xs → P (first + i) (get_or xs i d)) → AllNumbered P first xs
all-numbered P first [] each = tt
all-numbered P first (x ∷ xs) each =
    let here : first + 0 ≡ first = omega arith in (
      subst (λ (i : ℕ). P i x) here (each 0 x (omega arith)),
      all-numbered P (first + 1) xs (λ i d within.
          let index : first + suc i ≡ (first + 1) + i = omega arith in
          subst (λ (j : ℕ). P j (get_or xs i d)) index (each (suc i) d (omega (arith, within)))),
    )

module _ {S E : Type 0} (kind : Kind S E) (holds : KindHolds kind) where
  pub runs-keep : RunsKeep kind
  runs-keep net schedules now wired scheduled n = runs-keep-of kind holds net schedules now wired scheduled n

  pub runs-go_on : RunsGoOn kind
  runs-go_on net schedules now wired scheduled n =
      let nodes = nodes_after kind net n in
      let queues = queues_after kind net n in
      let Can : ℕ → LinkView → Type 0 = CanMoveQueue net.links (map (node_next kind (suc n) queues) nodes) in
      record {
        decide = λ k d within.
            let at : slice_get nodes k ≡ Some (get_or nodes k d) = slice_get-get_or nodes k d within in
            may-decide kind holds net schedules now wired scheduled n k (get_or nodes k d) at (all-keep kind holds net schedules now wired scheduled n k)
            (all-asked kind holds net schedules now wired scheduled n);
        commit = all-numbered Can 0 queues (λ i d within.
            let same : 0 + i ≡ i = omega arith in
            let long : length queues ≡ length net.links = queues-long kind net n ∙ wired.long in
            let can = can-commit kind holds net schedules now wired scheduled n i (omega (arith, within, long)) in
            subst (λ (j : ℕ). Can j (get_or queues i d)) (sym same) (subst (λ (l : LinkView). Can i l) (sym (get_or_default queues i d (empty_link 0) within)) can));
      }
