-- A run is finished by its bound: from each unfinished state on a beat moves before long, and no more beats move than the
-- links have to carry.
use Rattle.std.proofs.Common.{◌≡◌, ◌<◌, ◌≤◌, ◌+◌, ◌*◌, ◌||◌, ℕ, suc, Bool, true, false, cond, List, [], ◌∷◌, length, map, Option, Some, None, refl, sym, ◌∙◌, ap, subst, arith, eq-eqb, length-append, length-take}
use Rattle.std.specs.List.{list_any}
use Rattle.std.specs.Prelude.{Contains, IfSome, is_some, slice_get, sum_by}
use Rattle.std.proofs.lemmas.List.Elements.{All-contains}
use Rattle.axi_link.specs.LinkView.{LinkView}
use Rattle.axi_link.specs.LinkWords.{link_of}
use Rattle.axi_link.specs.Moves.{appended, takes_from}
use Rattle.axi_link.specs.declared.out.Out.{Out}
use Rattle.axi_trail.specs.LinkContracts.{Answers, Asks}
use Rattle.axi_trail.specs.Schedule.{Progress, Schedule}
use Rattle.axi_trail.specs.Trail.{Beats, beat_taken, joined, moved_above, moved_below}
use Rattle.net_model.specs.Network.{Network, after_rounds, is_finished, lower_node, node_next, upper_node}
use Rattle.net_model.specs.Wired.{IsWired}
use Rattle.net_progress.proofs.BeatFacts.{all-beats, few-beats}
use Rattle.net_progress.proofs.EndLemmas.{ends-slowly}
use Rattle.net_progress.proofs.StuckFacts.{moves-on}
use Rattle.net_progress.proofs.SumLemmas.{first-le, first-less}
use Rattle.net_progress.specs.Moving.{IsPatient, has_moves, is_moving}
use Rattle.net_progress.specs.Transfers.{CarryOnly, FewTransfers, FinishesInTime, beats_passed, beats_passed_of, link_beats, most_transfers, on_all_links, transfers, transfers_of}
use Rattle.net_runs.proofs.ContractFacts.{all-answered, all-asked, answered-above, asked-below, chosen-is, lowers-are, uppers-are}
use Rattle.net_runs.specs.Run.{chosen, lower_end, nodes_after, queues_after, upper_end}
use Rattle.net_runs.specs.RunKeeps.{IsScheduled}
use Rattle.node_core.specs.Acted.{Acted}
use Rattle.node_core.specs.Fits.{MovesFit, TakeFits}
use Rattle.node_shape.specs.Kind.{Kind, out_of}
use Rattle.node_shape.specs.KindHolds.{KindHolds}
use Rattle.node_shape.specs.Quiet.{MovesOwn}

passed-joined : (a b : Beats) → beats_passed (joined a b) ≡ beats_passed a + beats_passed b
passed-joined a b = omega (arith, length-append a.aw b.aw, length-append a.w b.w, length-append a.b b.b, length-append a.ar b.ar, length-append a.r b.r)

-- one of several tests
abbrev Handlers : Type 0 → List Bool → Type 0
Handlers P [] = Unit {0}
Handlers P (b ∷ bs) = (b ≡ true → P) × Handlers P bs

find-move : (P : Type 0) (bs : List Bool) → list_any (λ b. b) bs ≡ true → Handlers P bs → P
find-move P [] some handlers = absurd (cc)
find-move P (b ∷ bs) some handlers =
    let go : (c : Bool) → b ≡ c → P = λ c. elim c as (λ c. b ≡ c → P) [
      | true ↦ λ is. handlers.0 is
      | false ↦ λ is. find-move P bs (ap (λ (c : Bool). c || list_any (λ b. b) bs) (sym is) ∙ some) handlers.1
    ] in go b refl

any-at : {X Y : Type 0} (f : X → Y) (p : Y → Bool) (xs : List X) → list_any p (map f xs) ≡ true → (k : ℕ) × (x : X) × (slice_get xs k ≡ Some x) × (p (f x) ≡ true)
any-at f p [] some = absurd (cc)
any-at {X} f p (x ∷ xs) some =
    let Found : Type 0 = (k : ℕ) × (y : X) × (slice_get (x ∷ xs) k ≡ Some y) × (p (f y) ≡ true) in
    let go : (c : Bool) → p (f x) ≡ c → Found = λ c. elim c as (λ c. p (f x) ≡ c → Found) [
      | true ↦ λ is. (0, x, refl, is)
      | false ↦ λ is.
          let rest : (k : ℕ) × (y : X) × (slice_get xs k ≡ Some y) × (p (f y) ≡ true) = any-at f p xs (ap (λ (c : Bool). c || list_any p (map f xs)) (sym is) ∙ some) in
          (suc rest.0, rest.1, rest.2, rest.3)
    ] in go (p (f x)) refl

-- a move counts one at its link
take-counts :
    {X : Type 0} (q : LinkView → List X) (links : List LinkView) (own : List ℕ) (o : Option ℕ) → is_some o ≡ true → TakeFits q links o → IfSome o (Contains own) →
    (l : ℕ) × Contains own l × (0 < length (beat_taken (takes_from l o) (q (link_of links l))))
take-counts q links own None some fits among = absurd (cc)
take-counts q links own (Some l) some fits among =
    let one : 0 < length (beat_taken true (q (link_of links l))) = omega (arith, length-take 1 (q (link_of links l)), fits) in
    (l, among, subst (λ (b : Bool). 0 < length (beat_taken b (q (link_of links l)))) (sym (eq-eqb l l refl)) one)

put-counts : {X : Type 0} (own : List ℕ) (o : Option (ℕ × X)) → is_some o ≡ true → IfSome o (λ put. Contains own put.0) → (l : ℕ) × Contains own l × (0 < length (appended l o))
put-counts own None some among = absurd (cc)
put-counts own (Some put) some among =
    (put.0, among, subst (λ (b : Bool). 0 < length (cond b (put.1 ∷ []) [])) (sym (eq-eqb put.0 put.0 refl)) (omega arith))

module _ {S E : Type 0} (kind : Kind S E) (holds : KindHolds kind) (net : Network S) (schedules : ℕ → Schedule) (now : ℕ → Progress)
    (wired : IsWired kind net) (scheduled : IsScheduled kind net schedules now) where
  abbrev upper : ℕ → ℕ
  upper link = upper_node net.links link

  abbrev lower : ℕ → ℕ
  lower link = lower_node net.links link

  abbrev queues : ℕ → List LinkView
  queues n = queues_after kind net n

  -- both ends of a link keep both contracts
  asks-above : (n l : ℕ) → l < length net.links → Asks (schedules l) (now n) (upper_end kind net l n)
  asks-above n l known = all-asked kind holds net schedules now wired scheduled n l known

  asks-below : (n l : ℕ) → l < length net.links → Asks (schedules l) (now n) (lower_end kind net l n)
  asks-below n l known = (asked-below kind holds net schedules now wired scheduled n l known (asks-above n l known)).0

  answers-below : (n l : ℕ) → l < length net.links → Answers (schedules l) (now n) (lower_end kind net l n)
  answers-below n l known = all-answered kind holds net schedules now wired scheduled n l known

  answers-above : (n l : ℕ) → l < length net.links → Answers (schedules l) (now n) (upper_end kind net l n)
  answers-above n l known = (answered-above kind holds net schedules now wired scheduled n l known (answers-below n l known)).0

  few-of : (n t : ℕ) → transfers_of kind net n t ≤ on_all_links kind net (λ link. 2 * link_beats (schedules link) t)
  few-of n t =
      first-le (λ l. beats_passed_of (upper_end kind net l n) t + beats_passed_of (lower_end kind net l n) t) (λ l. 2 * link_beats (schedules l) t) (length net.links)
      (λ l known.
      let above = few-beats (schedules l) (now n) (upper_end kind net l n) (asks-above n l known) (answers-above n l known) t in
      let below = few-beats (schedules l) (now n) (lower_end kind net l n) (asks-below n l known) (answers-below n l known) t in
      omega (arith, above, below))

  bounded-of : (numbers : List ℕ) → CarryOnly kind net schedules numbers → (n : ℕ) → transfers kind net n ≤ most_transfers kind net schedules numbers
  bounded-of numbers only n =
      first-le (λ l. beats_passed (upper_end kind net l n) + beats_passed (lower_end kind net l n)) (λ l. 2 * sum_by (link_beats (schedules l)) numbers) (length net.links)
      (λ l known.
      let above = all-beats (schedules l) (now n) (upper_end kind net l n) (asks-above n l known) (answers-above n l known) numbers (only l known) in
      let below = all-beats (schedules l) (now n) (lower_end kind net l n) (asks-below n l known) (answers-below n l known) numbers (only l known) in
      omega (arith, above, below))

  -- what a round adds at the ends of a link
  abbrev added_above : ℕ → ℕ → ℕ
  added_above n l = beats_passed (moved_above (chosen kind net (upper l) n) (queues n) l)

  abbrev added_below : ℕ → ℕ → ℕ
  added_below n l = beats_passed (moved_below (chosen kind net (lower l) n) (queues n) l)

  upper-grows : (n l : ℕ) → beats_passed (upper_end kind net l (suc n)) ≡ beats_passed (upper_end kind net l n) + added_above n l
  upper-grows n l = passed-joined (upper_end kind net l n) (moved_above (chosen kind net (upper l) n) (queues n) l)

  lower-grows : (n l : ℕ) → beats_passed (lower_end kind net l (suc n)) ≡ beats_passed (lower_end kind net l n) + added_below n l
  lower-grows n l = passed-joined (lower_end kind net l n) (moved_below (chosen kind net (lower l) n) (queues n) l)

  -- a link on which a beat moves
  abbrev Grown : ℕ → Type 0
  Grown n = (l : ℕ) × (l < length net.links) × (0 < added_above n l + added_below n l)

  grown-of : (n k : ℕ) (node : Acted S) → slice_get (nodes_after kind net n) k ≡ Some node → has_moves (out_of kind (suc n) (queues n) node.state) ≡ true → Grown n
  grown-of n k node at moves =
      let above = kind.uppers node.state in
      let below = kind.lowers node.state in
      let out : Out = out_of kind (suc n) (queues n) node.state in
      let is : chosen kind net k n ≡ out_of kind (suc n) (queues n) node.state = chosen-is kind holds net schedules now wired scheduled n k node at in
      let own : MovesOwn (kind.uppers node.state) (kind.lowers node.state) (out_of kind (suc n) (queues n) node.state) = holds.own (suc n) (queues n) node.state in
      let fit : MovesFit (queues n) (out_of kind (suc n) (queues n) node.state) = holds.fit (suc n) (queues n) node.state in
      let from_above : (l : ℕ) → Contains (kind.uppers node.state) l → 0 < beats_passed (moved_below (out_of kind (suc n) (queues n) node.state) (queues n) l) → Grown n = λ l among some.
      let mine = All-contains (λ l. (l < length net.links) × (lower l ≡ k)) (kind.uppers node.state) l (uppers-are kind holds net schedules now wired scheduled n k node at) among in
      let here : chosen kind net (lower l) n ≡ out_of kind (suc n) (queues n) node.state = ap (λ (j : ℕ). chosen kind net j n) mine.1 ∙ is in
      let more : 0 < added_below n l = subst (λ (o : Out). 0 < beats_passed (moved_below o (queues n) l)) (sym here) some in
      (l, mine.0, omega (arith, more)) in
      let from_below : (l : ℕ) → Contains (kind.lowers node.state) l → 0 < beats_passed (moved_above (out_of kind (suc n) (queues n) node.state) (queues n) l) → Grown n = λ l among some.
      let mine = All-contains (λ l. (l < length net.links) × (upper l ≡ k)) (kind.lowers node.state) l (lowers-are kind holds net schedules now wired scheduled n k node at) among in
      let here : chosen kind net (upper l) n ≡ out_of kind (suc n) (queues n) node.state = ap (λ (j : ℕ). chosen kind net j n) mine.1 ∙ is in
      let more : 0 < added_above n l = subst (λ (o : Out). 0 < beats_passed (moved_above o (queues n) l)) (sym here) some in
      (l, mine.0, omega (arith, more)) in
      find-move (Grown n)
      (is_some out.aw_take ∷ is_some out.aw_put ∷ is_some out.w_take ∷ is_some out.w_put ∷ is_some out.b_take ∷ is_some out.b_put ∷ is_some out.ar_take ∷ is_some out.ar_put ∷ is_some out.r_take ∷ is_some out.r_put ∷ [])
      moves (
        (λ some. let c = take-counts (λ v. v.aw) (queues n) above out.aw_take some fit.aw_take own.aw_take in from_above c.0 c.1 (omega (arith, c.2))),
        (
          (λ some. let c = put-counts below out.aw_put some own.aw_put in from_below c.0 c.1 (omega (arith, c.2))),
          (
            (λ some. let c = take-counts (λ v. v.w) (queues n) above out.w_take some fit.w_take own.w_take in from_above c.0 c.1 (omega (arith, c.2))),
            (
              (λ some. let c = put-counts below out.w_put some own.w_put in from_below c.0 c.1 (omega (arith, c.2))),
              (
                (λ some. let c = take-counts (λ v. v.b) (queues n) below out.b_take some fit.b_take own.b_take in from_below c.0 c.1 (omega (arith, c.2))),
                (
                  (λ some. let c = put-counts above out.b_put some own.b_put in from_above c.0 c.1 (omega (arith, c.2))),
                  (
                    (λ some. let c = take-counts (λ v. v.ar) (queues n) above out.ar_take some fit.ar_take own.ar_take in from_above c.0 c.1 (omega (arith, c.2))),
                    (
                      (λ some. let c = put-counts below out.ar_put some own.ar_put in from_below c.0 c.1 (omega (arith, c.2))),
                      (
                        (λ some. let c = take-counts (λ v. v.r) (queues n) below out.r_take some fit.r_take own.r_take in from_below c.0 c.1 (omega (arith, c.2))),
                        ((λ some. let c = put-counts above out.r_put some own.r_put in from_above c.0 c.1 (omega (arith, c.2))), tt),
                      ),
                    ),
                  ),
                ),
              ),
            ),
          ),
        ),
      )

  rises-of : (n : ℕ) → is_moving kind net n ≡ true → transfers kind net n < transfers kind net (suc n)
  rises-of n moving =
      let found = any-at (node_next kind (suc n) (queues n)) (λ (a : Acted S). has_moves a.out) (nodes_after kind net n) moving in
      let grown : Grown n = grown-of n found.0 found.1 found.2 found.3 in
      first-less (λ l. beats_passed (upper_end kind net l n) + beats_passed (lower_end kind net l n))
      (λ l. beats_passed (upper_end kind net l (suc n)) + beats_passed (lower_end kind net l (suc n))) (length net.links)
      (λ l known. let a = upper-grows n l in let b = lower-grows n l in omega (arith, a, b)) grown.0 grown.1
      (let a = upper-grows n grown.0 in let b = lower-grows n grown.0 in let c = grown.2 in omega (arith, a, b, c))

  transfers-stay : (n : ℕ) → transfers kind net n ≤ transfers kind net (suc n)
  transfers-stay n =
      first-le (λ l. beats_passed (upper_end kind net l n) + beats_passed (lower_end kind net l n))
      (λ l. beats_passed (upper_end kind net l (suc n)) + beats_passed (lower_end kind net l (suc n))) (length net.links)
      (λ l known. let a = upper-grows n l in let b = lower-grows n l in omega (arith, a, b))

  pub finishes-of :
      (numbers : List ℕ) → CarryOnly kind net schedules numbers → (most : ℕ) → IsPatient kind net most →
      (n : ℕ) × (n ≤ most * most_transfers kind net schedules numbers) × (is_finished kind (after_rounds kind n net) ≡ true)
  finishes-of numbers only most patient =
      ends-slowly (transfers kind net) (λ n. is_finished kind (after_rounds kind n net)) most (most_transfers kind net schedules numbers)
      (record {
        stays = transfers-stay;
        rises = λ n unfinished.
            let moves = moves-on kind holds net schedules now wired scheduled most patient n unfinished in
            (moves.0, moves.1, rises-of (n + moves.0) moves.2);
        bounded = bounded-of numbers only;
      })

module _ {S E : Type 0} (kind : Kind S E) (holds : KindHolds kind) where
  pub few-transfers : FewTransfers kind
  few-transfers net schedules now wired scheduled n t = few-of kind holds net schedules now wired scheduled n t

  pub finishes-in_time : FinishesInTime kind
  finishes-in_time net schedules now wired scheduled numbers only most patient = finishes-of kind holds net schedules now wired scheduled numbers only most patient
