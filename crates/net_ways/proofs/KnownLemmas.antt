-- What is known of a network's transactions agrees with what each of its nodes has done.
use Rattle.std.proofs.Common.{◌≡◌, ◌<◌, ◌+◌, ◌++◌, ◌||◌, ℕ, zero, suc, Bool, true, false, List, [], ◌∷◌, length, Option, Some, None, refl, sym, ◌∙◌, ap, subst, inl, inr, arith}
use Rattle.std.specs.List.{list_any, range_with_len}
use Rattle.std.specs.Option.{option_map_or}
use Rattle.std.specs.Prelude.{◌⊎◌, Contains, IfSome, flat_map, slice_get, unwrap_or}
use Rattle.std.proofs.lemmas.List.{append-nil, length-map}
use Rattle.std.proofs.lemmas.List.Concat.{flat_map-cons}
use Rattle.std.proofs.lemmas.Option.{slice_get_within}
use Rattle.axi_trail.specs.Schedule.{Progress, Schedule, Share, no_share}
use Rattle.net_model.specs.Network.{Network, lower_node, node_next}
use Rattle.net_runs.proofs.ContractFacts.{at-some, for-some}
use Rattle.net_runs.proofs.RoundLemmas.{lowers-stay, nodes-after, uppers-stay}
use Rattle.net_runs.specs.Run.{HoldsAt, nodes_after, passed_by, queues_after}
use Rattle.net_runs.specs.RunKeeps.{IsScheduled}
use Rattle.net_ways.proofs.HopLemmas.{goes-below}
use Rattle.net_ways.proofs.OriginLemmas.{own-upper}
use Rattle.net_ways.proofs.WayLemmas.{around-at, ends-once}
use Rattle.net_ways.specs.Known.{known_at, known_by_nodes, nothing_known}
use Rattle.net_ways.specs.Sound.{IsSound}
use Rattle.net_ways.specs.Ways.{carried, schedules_of, way_below}
use Rattle.node_core.specs.Acted.{Acted}
use Rattle.node_shape.specs.Kind.{IsKnown, Kind}
use Rattle.node_shape.specs.KindHolds.{KindHolds}
use Rattle.node_shape.specs.LinkForm.{LinkForm}
use Rattle.node_shape.specs.WayLaws.{IsFilledHere}
use Rattle.plain_lists.proofs.PrefixLemmas.{prefix_itself}
use Rattle.plain_lists.specs.Prefixes.{IsPrefix}

-- of the numbers of a range, one that passes
any-in_range : (p : ℕ → Bool) (first count i : ℕ) → i < count → p (first + i) ≡ true → list_any p (range_with_len first count) ≡ true
any-in_range p first zero i within passes = absurd (omega (arith, within))
any-in_range p first (suc count) zero within passes =
    let here : first + 0 ≡ first = omega arith in
    ap (λ (b : Bool). b || list_any p (range_with_len (first + 1) count)) (ap p (sym here) ∙ passes)
any-in_range p first (suc count) (suc i) within passes =
    let index : first + suc i ≡ (first + 1) + i = omega arith in
    either-true (p first) (list_any p (range_with_len (first + 1) count)) (any-in_range p (first + 1) count i (omega (arith, within)) (ap p (sym index) ∙ passes))
  where
    either-true : (a b : Bool) → b ≡ true → (a || b) ≡ true
    either-true true b is = refl
    either-true false b is = is

-- where all numbers of a range but one give nothing, it gives what that one does
none-of : {X : Type 0} (f : ℕ → List X) (first count : ℕ) → ((i : ℕ) → i < count → f (first + i) ≡ []) → flat_map f (range_with_len first count) ≡ []
none-of f first zero none = refl
none-of f first (suc count) none =
    let here : first + 0 ≡ first = omega arith in
    flat_map-cons f first (range_with_len (first + 1) count)
    ∙ ap (λ (xs : List _). xs ++ flat_map f (range_with_len (first + 1) count)) (ap f (sym here) ∙ none 0 (omega arith))
    ∙ none-of f (first + 1) count (λ i within. let index : (first + 1) + i ≡ first + suc i = omega arith in ap f index ∙ none (suc i) (omega (arith, within)))

one-of : {X : Type 0} (f : ℕ → List X) (first count k : ℕ) → k < count → ((i : ℕ) → i < count → ¬ (i ≡ k) → f (first + i) ≡ []) → flat_map f (range_with_len first count) ≡ f (first + k)
one-of f first zero k within none = absurd (omega (arith, within))
one-of f first (suc count) zero within none =
    let here : first ≡ first + 0 = omega arith in
    flat_map-cons f first (range_with_len (first + 1) count)
    ∙ ap (λ (xs : List _). f first ++ xs)
    (none-of f (first + 1) count (λ i below. let index : (first + 1) + i ≡ first + suc i = omega arith in ap f index ∙ none (suc i) (omega (arith, below)) (λ same. absurd (omega (arith, same)))))
    ∙ append-nil (f first) ∙ ap f here
one-of f first (suc count) (suc k) within none =
    let here : first ≡ first + 0 = omega arith in
    let last : (first + 1) + k ≡ first + suc k = omega arith in
    flat_map-cons f first (range_with_len (first + 1) count)
    ∙ ap (λ (xs : List _). xs ++ flat_map f (range_with_len (first + 1) count)) (ap f here ∙ none 0 (omega arith) (λ same. absurd (omega (arith, same))))
    ∙ one-of f (first + 1) count k (omega (arith, within))
    (λ i below other. let index : (first + 1) + i ≡ first + suc i = omega arith in ap f index ∙ none (suc i) (omega (arith, below)) (λ same. other (omega (arith, same))))
    ∙ ap f last

empty-or : {X : Type 0} (xs : List X) → (xs ≡ []) ⊎ (0 < length xs)
empty-or [] = inl refl
empty-or (x ∷ xs) = inr (omega arith)

prefix-nothing : {X : Type 0} (xs ys : List X) → xs ≡ [] → IsPrefix xs ys
prefix-nothing xs ys none = record { rest = ys; whole = sym (ap (λ (zs : List _). zs ++ ys) none) }

-- where something comes by, a link carries it
some-parts : (o : Option Share) → 0 < length (unwrap_or o no_share).parts → (share : Share) × (o ≡ Some share)
some-parts None some = absurd (omega (arith, some))
some-parts (Some share) some = (share, refl)

module _ {S E : Type 0} (kind : Kind S E) (holds : KindHolds kind) (net : Network S) (forms : ℕ → LinkForm) (sound : IsSound kind net forms) where
  abbrev schedules : ℕ → Schedule
  schedules = schedules_of kind net forms

  abbrev KeepsAll : ℕ → Type 0
  KeepsAll n = (node : ℕ) → HoldsAt kind net (λ s. kind.keeps schedules n s (passed_by kind net node n)) node n

  nodes-long : (n : ℕ) → length (nodes_after kind net n) ≡ length net.nodes
  nodes-long zero = refl
  nodes-long (suc n) = ap length (nodes-after kind net n) ∙ length-map (nodes_after kind net n) (node_next kind (suc n) (queues_after kind net n)) ∙ nodes-long n

  -- a node that has read bytes for a transaction is where it ends
  pub record EndsAt (number k : ℕ) : Type 0 where
    pub link : ℕ
    pub share : Share
    pub lower : lower_node net.links link ≡ k
    pub there : carried kind net false link number ≡ Some share
    pub ends : (way_below kind net link).goes_on share ≡ None

  -- no node below which there is nothing sends on
  ends-below : (k : ℕ) → option_map_or (λ (n : Acted S). kind.lowers n.state) (slice_get net.nodes k) [] ≡ [] → (link : ℕ) (share : Share) → lower_node net.links link ≡ k → (way_below kind net link).goes_on share ≡ None
  ends-below k none link share same = go ((way_below kind net link).goes_on share) refl
    where
      go : (o : Option ℕ) → (way_below kind net link).goes_on share ≡ o → o ≡ None
      go None is = refl
      go (Some next) is =
          let own = goes-below kind holds net sound.wired false link next share is in
          let member : Contains (option_map_or (λ (n : Acted S). kind.lowers n.state) (slice_get net.nodes k) []) next =
          subst (λ (j : ℕ). Contains (option_map_or (λ (n : Acted S). kind.lowers n.state) (slice_get net.nodes j) []) next) (own.1 ∙ same) (sound.wired.above next own.0) in
          absurd (omega (arith, (subst (λ (links : List ℕ). Contains links next) none member).1))

  ends-at : (n number k : ℕ) (a : Acted S) → slice_get (nodes_after kind net n) k ≡ Some a → IsFilledHere kind schedules a.state number → EndsAt number k
  ends-at n number k a at filled =
      let none : option_map_or (λ (m : Acted S). kind.lowers m.state) (slice_get net.nodes k) [] ≡ [] =
      sym (lowers-stay kind holds net n k) ∙ ap (λ (o : Option (Acted S)). option_map_or (λ (m : Acted S). kind.lowers m.state) o []) at ∙ filled.none_below in
      let member : Contains (option_map_or (λ (m : Acted S). kind.uppers m.state) (slice_get net.nodes k) []) filled.link =
      subst (λ (links : List ℕ). Contains links filled.link) (sym (ap (λ (o : Option (Acted S)). option_map_or (λ (m : Acted S). kind.uppers m.state) o []) at) ∙ uppers-stay kind holds net n k) filled.among in
      let lower : lower_node net.links filled.link ≡ k = own (slice_get net.nodes k) refl member in
      let comes = some-parts (carried kind net false filled.link number) filled.comes in
      record { link = filled.link; share = comes.0; lower = lower; there = comes.1; ends = ends-below k none filled.link comes.0 lower }
    where
      own : (o : Option (Acted S)) → slice_get net.nodes k ≡ o → Contains (option_map_or (λ (m : Acted S). kind.uppers m.state) o []) filled.link → lower_node net.links filled.link ≡ k
      own None is among = absurd (omega (arith, among.1))
      own (Some b) is among = (own-upper kind holds net forms sound k b is filled.link among).1

  module _ (n : ℕ) (keeps : KeepsAll n) where
    abbrev knows : ℕ → Progress
    knows k = known_at kind net schedules n k

    -- what has been read is read at one node alone
    reads-at : (number k : ℕ) → 0 < length ((knows k).filled number) → EndsAt number k
    reads-at number k some = go (slice_get (nodes_after kind net n) k) refl some
      where
        go : (o : Option (Acted S)) → slice_get (nodes_after kind net n) k ≡ o →
            0 < length ((option_map_or (λ (a : Acted S). kind.knows schedules a.state (passed_by kind net k n)) o nothing_known).filled number) → EndsAt number k
        go None is some = absurd (omega (arith, some))
        go (Some a) is some =
            ends-at n number k a is
            (holds.fills_at_ends schedules n a.state (passed_by kind net k n) (at-some (λ (b : Acted S). kind.keeps schedules n b.state (passed_by kind net k n)) (slice_get (nodes_after kind net n) k) a is (keeps k)) number some)

    others-none : (number k : ℕ) → 0 < length ((knows k).filled number) → (i : ℕ) → ¬ (i ≡ k) → (knows i).filled number ≡ []
    others-none number k some i other = elim (empty-or ((knows i).filled number)) [
      | inl none ↦ none
      | inr too ↦
          let one = reads-at number i too in
          let second = reads-at number k some in
          absurd (other (sym one.lower ∙ ap (λ (l : ℕ). lower_node net.links l) (ends-once kind holds net forms sound false number one.link second.link one.share second.share one.there second.there one.ends second.ends) ∙ second.lower))
    ]

    filled-known : (number k : ℕ) → k < length net.nodes → IsPrefix ((knows k).filled number) ((known_by_nodes kind net schedules n).filled number)
    filled-known number k within = elim (empty-or ((knows k).filled number)) [
      | inl none ↦ prefix-nothing ((knows k).filled number) ((known_by_nodes kind net schedules n).filled number) none
      | inr some ↦
          let f : ℕ → List ℕ = λ node. (known_at kind net schedules n node).filled number in
          let same : 0 + k ≡ k = omega arith in
          let whole : flat_map f (range_with_len 0 (length net.nodes)) ≡ f (0 + k) =
          one-of f 0 (length net.nodes) k within (λ i below other. let index : 0 + i ≡ i = omega arith in ap f index ∙ others-none number k some i other) in
          subst (λ (xs : List ℕ). IsPrefix (f k) xs) (sym (whole ∙ ap f same)) (prefix_itself (f k))
    ]

    known-here : (k : ℕ) (a : Acted S) → slice_get (nodes_after kind net n) k ≡ Some a → IsKnown kind schedules (known_by_nodes kind net schedules n) a.state (passed_by kind net k n)
    known-here k a at =
        let within : k < length net.nodes = subst (λ (len : ℕ). k < len) (nodes-long n) (slice_get_within (nodes_after kind net n) k a at) in
        let here : knows k ≡ kind.knows schedules a.state (passed_by kind net k n) =
        ap (λ (o : Option (Acted S)). option_map_or (λ (b : Acted S). kind.knows schedules b.state (passed_by kind net k n)) o nothing_known) at in
        let same : 0 + k ≡ k = omega arith in
        record {
          issued = λ t is. any-in_range (λ node. (known_at kind net schedules n node).issued t) 0 (length net.nodes) k within
              (ap (λ (j : ℕ). (known_at kind net schedules n j).issued t) same ∙ ap (λ (p : Progress). p.issued t) here ∙ is);
          written = λ t is. any-in_range (λ node. (known_at kind net schedules n node).written t) 0 (length net.nodes) k within
              (ap (λ (j : ℕ). (known_at kind net schedules n j).written t) same ∙ ap (λ (p : Progress). p.written t) here ∙ is);
          filled = λ t. subst (λ (p : Progress). IsPrefix (p.filled t) ((known_by_nodes kind net schedules n).filled t)) here (filled-known t k within);
        }

  suits-at : (node : ℕ) → IfSome (slice_get net.nodes node) (λ (a : Acted S). kind.suits schedules a.state)
  suits-at node =
      for-some (λ (a : Acted S). kind.suits schedules a.state) (slice_get net.nodes node)
      (λ a at. holds.ways_suit forms schedules a.state (at-some (λ (b : Acted S). kind.begins b.state) (slice_get net.nodes node) a at (sound.begins node))
      (at-some (λ (b : Acted S). kind.is_sound forms schedules b.state) (slice_get net.nodes node) a at (sound.nodes node))
      (around-at kind holds net forms sound node a at))

  -- so a network that can be run is scheduled
  pub is-scheduled : IsScheduled kind net schedules (known_by_nodes kind net schedules)
  is-scheduled = record {
    begins = sound.begins;
    suits = suits-at;
    known = λ n keeps node.
        for-some (λ (a : Acted S). IsKnown kind schedules (known_by_nodes kind net schedules n) a.state (passed_by kind net node n)) (slice_get (nodes_after kind net n) node)
        (λ a at. known-here n keeps node a at);
  }
