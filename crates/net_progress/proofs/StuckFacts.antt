-- In each unfinished state some node moves before long: else no node holds anything back, and then all are done.
use Rattle.std.proofs.Common.{◌≡◌, ◌<◌, ◌≤◌, ◌+◌, ap₂, inl, inr, ℕ, zero, suc, Bool, true, false, List, [], length, map, Option, Some, None, refl, sym, ◌∙◌, ap, subst, arith}
use Rattle.std.proofs.lemmas.List.Elements.{All-weaker}
use Rattle.std.proofs.lemmas.Option.{slice_get-map}
use Rattle.std.specs.Option.{option_map, option_map_or}
use Rattle.std.specs.Prelude.{All, Contains, slice_get}
use Rattle.axi_link.specs.LinkView.{LinkView}
use Rattle.axi_link.specs.LinkWords.{link_of}
use Rattle.axi_link.specs.Moves.{link_after}
use Rattle.axi_link.specs.declared.out.Out.{Out}
use Rattle.axi_trail.proofs.TrailFacts.{links_are_queues}
use Rattle.axi_trail.specs.Schedule.{Progress, Schedule}
use Rattle.net_model.specs.Network.{Network, after_rounds, is_finished, lower_node, net_link, node_next, queue_moved, upper_node}
use Rattle.net_model.specs.Wired.{IsWired, lowers_at, uppers_at}
use Rattle.net_model.specs.declared.net_link.NetLink.{NetLink}
use Rattle.net_progress.proofs.MoveLemmas.{all-have, link-rests, no-moves, none-at, numbered-same, some-true}
use Rattle.net_progress.proofs.QuietFacts.{IsWhole, Picture, done-of}
use Rattle.net_progress.specs.Moving.{IsPatient, NeverStuck, has_moves, is_moving}
use Rattle.net_runs.proofs.ContractFacts.{all-answered, all-asked, all-keep, around-of, keeps-at}
use Rattle.net_runs.proofs.RoundLemmas.{at-stays, links-run, links-stay, lowers-stay, node-after, queue-moved, queues-next, uppers-stay}
use Rattle.net_runs.specs.Run.{chosen, nodes_after, passed_by, queues_after}
use Rattle.net_runs.specs.RunKeeps.{IsScheduled}
use Rattle.node_core.specs.Acted.{Acted, no_moves}
use Rattle.node_shape.specs.Kind.{Kind, out_of}
use Rattle.node_shape.specs.KindHolds.{KindHolds}
use Rattle.node_shape.specs.KindLaws.{IsIdle, later}
use Rattle.node_shape.specs.Quiet.{HoldsNothingBack}

module _ {S E : Type 0} (kind : Kind S E) (holds : KindHolds kind) (net : Network S) (schedules : ℕ → Schedule) (now : ℕ → Progress)
    (wired : IsWired kind net) (scheduled : IsScheduled kind net schedules now) where
  abbrev upper : ℕ → ℕ
  upper link = upper_node net.links link

  abbrev lower : ℕ → ℕ
  lower link = lower_node net.links link

  abbrev OwnUpper : ℕ → ℕ → Type 0
  OwnUpper k link = (link < length net.links) × (lower link ≡ k)

  abbrev OwnLower : ℕ → ℕ → Type 0
  OwnLower k link = (link < length net.links) × (upper link ≡ k)

  abbrev uppers_of_node : Option (Acted S) → List ℕ
  uppers_of_node o = option_map_or (λ (a : Acted S). kind.uppers a.state) o []

  abbrev lowers_of_node : Option (Acted S) → List ℕ
  lowers_of_node o = option_map_or (λ (a : Acted S). kind.lowers a.state) o []

  abbrev done_node : Option (Acted S) → Bool
  done_node o = option_map_or (λ (a : Acted S). kind.is_done a.state) o true

  depth-stays : (n link : ℕ) → link < length net.links → (link_of (queues_after kind net n) link).depth ≡ (net_link net.links link).depth
  depth-stays zero link known = ap (λ (l : LinkView). l.depth) (wired.empty link known)
  depth-stays (suc n) link known = ap (λ (l : LinkView). l.depth) ((links-run kind net wired link known).moves n) ∙ depth-stays n link known

  deep-after : (n link : ℕ) → link < length net.links → 0 < (link_of (queues_after kind net n) link).depth
  deep-after n link known = omega (arith, wired.deep link known, depth-stays n link known)

  picture : ℕ → Picture
  picture n = record {
    count = length net.links;
    queues = λ l. link_of (queues_after kind net n) l;
    upper = upper;
    lower = lower;
    above = λ k. uppers_at kind (nodes_after kind net n) k;
    below = λ k. lowers_at kind (nodes_after kind net n) k;
    uppers = λ k. (passed_by kind net k n).uppers;
    lowers = λ k. (passed_by kind net k n).lowers;
  }

  own-above : (n k : ℕ) → All (OwnUpper k) (uppers_at kind (nodes_after kind net n) k)
  own-above n k = subst (λ (links : List ℕ). All (OwnUpper k) links) (sym (uppers-stay kind holds net n k)) (wired.uppers k)

  own-below : (n k : ℕ) → All (OwnLower k) (lowers_at kind (nodes_after kind net n) k)
  own-below n k = subst (λ (links : List ℕ). All (OwnLower k) links) (sym (lowers-stay kind holds net n k)) (wired.lowers k)

  whole : (n : ℕ) → IsWhole (picture n)
  unfolding picture
  whole n = record {
    rank = wired.rank;
    high = length net.nodes;
    ranked = wired.ranked;
    own_above = own-above n;
    own_below = own-below n;
    among_below = λ l known. subst (λ (links : List ℕ). Contains links l) (sym (lowers-stay kind holds net n (upper l))) (wired.above l known);
    among_above = λ l known. subst (λ (links : List ℕ). Contains links l) (sym (uppers-stay kind holds net n (lower l))) (wired.below l known);
    falls = wired.falls;
    fifo = λ l known. links_are_queues l (queues_after kind net) (chosen kind net (upper l)) (chosen kind net (lower l)) (links-run kind net wired l known) n;
    deep = deep-after n;
  }

  -- Where no node moves in some rounds, links stay, and each node goes on by itself.
  module _ (most n : ℕ) (patient : IsPatient kind net most) (still : (i : ℕ) → i < most → is_moving kind net (n + i) ≡ false) where
    quiet-at : (i j : ℕ) (node : Acted S) → i < most → slice_get (nodes_after kind net (n + i)) j ≡ Some node → out_of kind (suc (n + i)) (queues_after kind net (n + i)) node.state ≡ no_moves
    quiet-at i j node within at =
        no-moves (out_of kind (suc (n + i)) (queues_after kind net (n + i)) node.state)
        (none-at (node_next kind (suc (n + i)) (queues_after kind net (n + i))) (λ (a : Acted S). has_moves a.out) (nodes_after kind net (n + i)) (still i within) j node at)

    out-at : (i j : ℕ) → i < most → chosen kind net j (n + i) ≡ no_moves
    out-at i j within =
        let next = node_next kind (suc (n + i)) (queues_after kind net (n + i)) in
        let go : (o : Option (Acted S)) → slice_get (nodes_after kind net (n + i)) j ≡ o → option_map_or (λ (a : Acted S). a.out) (option_map next o) no_moves ≡ no_moves = elim [
          | None ↦ λ at. refl
          | Some node ↦ λ at. quiet-at i j node within at
        ] in
        ap (λ (o : Option (Acted S)). option_map_or (λ (a : Acted S). a.out) o no_moves) (slice_get-map next (nodes_after kind net (n + i)) j)
        ∙ go (slice_get (nodes_after kind net (n + i)) j) refl

    queues-stand : (i : ℕ) → i < most → queues_after kind net (suc (n + i)) ≡ queues_after kind net (n + i)
    queues-stand i within =
        let nodes : List (Acted S) = map (node_next kind (suc (n + i)) (queues_after kind net (n + i))) (nodes_after kind net (n + i)) in
        let each : (l : ℕ) (queue : LinkView) → queue_moved (after_rounds kind (n + i) net).links nodes l queue ≡ queue = λ l queue.
        ap (λ (links : List NetLink). queue_moved links nodes l queue) (links-stay kind net (n + i))
        ∙ queue-moved kind net nodes l queue
        ∙ ap₂ (λ (u v : Out). link_after l queue u v) (out-at i (upper l) within) (out-at i (lower l) within)
        ∙ link-rests l queue in
        queues-next kind (after_rounds kind (n + i) net) (suc (n + i))
        ∙ numbered-same (queue_moved (after_rounds kind (n + i) net).links nodes) 0 (queues_after kind net (n + i)) each

    queues-same : (i : ℕ) → i ≤ most → queues_after kind net (n + i) ≡ queues_after kind net n
    queues-same zero within = let same : n + 0 ≡ n = omega arith in ap (queues_after kind net) same
    queues-same (suc i) within =
        let same : n + suc i ≡ suc (n + i) = omega arith in
        ap (queues_after kind net) same ∙ queues-stand i (omega (arith, within)) ∙ queues-same i (omega (arith, within))

    -- a node some rounds later
    record IsLater (i j : ℕ) (node : Acted S) : Type 0 where
      after : Acted S
      at : slice_get (nodes_after kind net (n + i)) j ≡ Some after
      state : after.state ≡ later kind n (queues_after kind net n) i node.state

    node-later : (i j : ℕ) (node : Acted S) → i ≤ most → slice_get (nodes_after kind net n) j ≡ Some node → IsLater i j node
    node-later zero j node within at =
        let same : n + 0 ≡ n = omega arith in
        record { after = node; at = ap (λ (m : ℕ). slice_get (nodes_after kind net m) j) same ∙ at; state = refl }
    node-later (suc i) j node within at =
        let before = node-later i j node (omega (arith, within)) at in
        let same : n + suc i ≡ suc (n + i) = omega arith in
        let next = node_next kind (suc (n + i)) (queues_after kind net (n + i)) in record {
          after = next before.after;
          at = ap (λ (m : ℕ). slice_get (nodes_after kind net m) j) same ∙ node-after kind net (n + i) j ∙ ap (option_map next) before.at;
          state = ap₂ (λ (queues : List LinkView) (s : S). (kind.table (suc (n + i)) queues s).state) (queues-same i (omega (arith, within))) before.state;
        }

    is-idle : (j : ℕ) (node : Acted S) → slice_get (nodes_after kind net n) j ≡ Some node → IsIdle kind n (queues_after kind net n) (kind.patience node.state) node.state
    is-idle j node at i less =
        let few : kind.patience node.state ≤ most =
        subst (λ (p : ℕ). p ≤ most)
        (sym (at-stays kind kind.patience 0 (λ round queues s. (holds.steady round queues s).patience) net n j) ∙ ap (λ (o : Option (Acted S)). option_map_or (λ (a : Acted S). kind.patience a.state) o 0) at)
        (patient j) in
        let within : i < most = omega (arith, few, less) in
        let there = node-later i j node (omega (arith, within)) at in
        ap₂ (λ (queues : List LinkView) (s : S). out_of kind (suc (n + i)) queues s) (sym (queues-same i (omega (arith, within)))) (sym there.state)
        ∙ quiet-at i j there.after within there.at

    -- so no node holds anything back
    holds-nothing :
        (j : ℕ) (o : Option (Acted S)) → slice_get (nodes_after kind net n) j ≡ o →
        HoldsNothingBack (link_of (queues_after kind net n)) (passed_by kind net j n).uppers (passed_by kind net j n).lowers (uppers_of_node o) (lowers_of_node o) (done_node o)
    holds-nothing j None at = record {
      responses = λ room l d within. absurd (omega (arith, within));
      read_data = λ room l d within. absurd (omega (arith, within));
      reads = λ room none done l d within. absurd (omega (arith, within));
      data_lacks = λ l among. absurd (omega (arith, among.1));
      writes = λ room none enough done l d within. absurd (omega (arith, within));
      ends = λ none_b none_r reads writes. refl;
    }
    holds-nothing j (Some node) at =
        let queues = queues_after kind net n in
        let keeps = keeps-at kind holds net schedules now wired scheduled n j node at (all-keep kind holds net schedules now wired scheduled n j) in
        let above : All (OwnUpper j) (kind.uppers node.state) = subst (λ (o : Option (Acted S)). All (OwnUpper j) (uppers_of_node o)) at (own-above n j) in
        let below : All (OwnLower j) (kind.lowers node.state) = subst (λ (o : Option (Acted S)). All (OwnLower j) (lowers_of_node o)) at (own-below n j) in
        holds.idle_holds_nothing schedules (now n) n queues node.state (passed_by kind net j n) keeps.fact keeps.keeps
        (around-of kind holds net schedules now wired scheduled n j node at (all-asked kind holds net schedules now wired scheduled n) (all-answered kind holds net schedules now wired scheduled n))
        (All-weaker (OwnUpper j) (λ l. 0 < (link_of queues l).depth) (λ l own. deep-after n l own.0) (kind.uppers node.state) above)
        (All-weaker (OwnLower j) (λ l. 0 < (link_of queues l).depth) (λ l own. deep-after n l own.0) (kind.lowers node.state) below)
        (is-idle j node at)

    -- and every one is done
    all-done : (j : ℕ) → done_node (slice_get (nodes_after kind net n) j) ≡ true
    unfolding picture
    all-done j = done-of (picture n) (λ j. done_node (slice_get (nodes_after kind net n) j)) (whole n) (λ j. holds-nothing j (slice_get (nodes_after kind net n) j) refl) j

  pub moves-on : (most : ℕ) → IsPatient kind net most → (n : ℕ) → is_finished kind (after_rounds kind n net) ≡ false → (i : ℕ) × (i < most) × (is_moving kind net (n + i) ≡ true)
  moves-on most patient n unfinished = elim (some-true (λ i. is_moving kind net (n + i)) most) [
    | inl found ↦ found
    | inr still ↦
        let done : is_finished kind (after_rounds kind n net) ≡ true = all-have (λ (a : Acted S). kind.is_done a.state) (nodes_after kind net n) (all-done most n patient still) in
        absurd (let no : true ≡ false = sym done ∙ unfinished in cc)
  ]

pub never-stuck : {S E : Type 0} (kind : Kind S E) → KindHolds kind → NeverStuck kind
never-stuck kind holds net schedules now wired scheduled most patient n unfinished = moves-on kind holds net schedules now wired scheduled most patient n unfinished
