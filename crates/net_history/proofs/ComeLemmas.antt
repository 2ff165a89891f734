-- A request that has come on a link of its way has come on the links before it: no node asks for what it wasn't asked for.
use Rattle.std.proofs.Common.{◌≡◌, ◌<◌, ◌==◌, ◌||◌, [], ◌∷◌, ℕ, suc, Bool, true, false, not, List, Option, Some, None, get_or, length, refl, sym, ap, ◌∙◌, subst, inl, inr, arith}
use Rattle.std.specs.Prelude.{All, Contains, IsTrue, find, map, slice_get, unwrap_or}
use Rattle.std.specs.Bool.{beq}
use Rattle.std.specs.List.{list_any}
use Rattle.std.specs.Option.{option_map_or}
use Rattle.std.proofs.lemmas.Bool.{and_parts, cases_eq, eq-eqb, eqb-true, ne_eqb}
use Rattle.std.proofs.lemmas.List.{length-map}
use Rattle.std.proofs.lemmas.List.Elements.{All-contains, All-weaker, Contains-get_or}
use Rattle.std.proofs.lemmas.List.Folds.{Any-from_list_any, list_any-append, list_any_at}
use Rattle.std.proofs.lemmas.Option.{none-some, same_Some}
use Rattle.axi_beats.specs.declared.beat.Addr.{Addr}
use Rattle.axi_link.specs.declared.out.Out.{Out}
use Rattle.axi_trail.proofs.TrailFacts.{taken_was_put_before}
use Rattle.axi_trail.specs.LinkContracts.{Asks, Requests, without_id}
use Rattle.axi_trail.specs.Schedule.{Progress, Share, no_share}
use Rattle.axi_trail.specs.Trail.{Beats, IsBehind, moved_below}
use Rattle.axi_trail.specs.Words.{Asked, Reply, number_of_address}
use Rattle.memory_node.specs.Events.{Access}
use Rattle.net_history.proofs.AskedLemmas.{asked_on, is_asked, some-all}
use Rattle.net_history.proofs.DoneLemmas.{some-share}
use Rattle.net_history.proofs.EndLemmas.{end-is}
use Rattle.net_history.proofs.ItemLemmas.{link-run, now, schedules}
use Rattle.net_history.proofs.ManagerRuns.{run-keeps}
use Rattle.net_history.proofs.RunStates.{acted_as, holds-at, run_state, stands-at}
use Rattle.net_history.proofs.ShownLemmas.{beq-true}
use Rattle.net_history.specs.Due.{last_hop, way_end}
use Rattle.net_kinds.specs.NodeHolds.{node_holds}
use Rattle.net_kinds.specs.NodeKind.{KindName, NodeState, StateOf, kind_by_name, node_kind}
use Rattle.net_kinds.specs.NodeKind.KindName.{ADemux, ALite, ALiteMemory, AManager, AMemory, AMux, ARemap, ASlice, ASplit, AnError, AnUp}
use Rattle.net_model.specs.Network.{Network, lower_node, upper_node}
use Rattle.net_model.specs.Wired.{lowers_at}
use Rattle.net_runs.proofs.ContractFacts.{asked-below, uppers-are}
use Rattle.net_runs.proofs.RoundLemmas.{lowers-stay, uppers-stay}
use Rattle.net_runs.specs.Run.{chosen, lower_end, passed_by, queues_after, upper_end}
use Rattle.net_ways.proofs.HopLemmas.{IsJoined, behind, goes-below, one-way_in, share-further, share-here}
use Rattle.net_ways.proofs.KnownLemmas.{is-scheduled}
use Rattle.net_ways.proofs.OriginLemmas.{HasItsWay, is-found, its-way, not-carried}
use Rattle.net_ways.specs.Sound.{IsSound}
use Rattle.net_ways.specs.Ways.{Hop, carried, is_origin, origins_in, share_on, way_below}
use Rattle.node_core.specs.Acted.{Acted}
use Rattle.node_shape.specs.Kind.{AskedAt, IsKnown, Passed}
use Rattle.node_shape.specs.LinkForm.{LinkForm}
use Rattle.node_shape.specs.Way.{Origin, with_responses}
use Rattle.plain_lists.proofs.PlaceLemmas.{contains-at, find-has}
use Rattle.plain_lists.proofs.PrefixLemmas.{prefix_append, prefix_length}
use Rattle.plain_lists.specs.Keys.{of_key}
use Rattle.plain_lists.specs.Prefixes.{IsPrefix}

-- ---- what has come stays

asked-front : (write : Bool) (number : ℕ) (first all : Beats) → IsPrefix (asked_on write first) (asked_on write all) → is_asked write number first ≡ true → is_asked write number all ≡ true
asked-front write number first all front is =
    let test : Addr → Bool = λ a. number_of_address a == number in
    ap (list_any test) front.whole ∙ list_any-append test (asked_on write first) front.rest ∙ ap (λ (b : Bool). b || list_any test front.rest) is

asked-behind : (write : Bool) (lower upper : Beats) → IsBehind lower upper → IsPrefix (asked_on write lower) (asked_on write upper)
asked-behind true lower upper behind = behind.aw
asked-behind false lower upper behind = behind.ar

-- ---- the same requests with another account of what is issued

told-otherwise : (shares : ℕ → Share) (id_width : ℕ) (before after : ℕ → Bool) (shown : Addr → Asked) (addresses : List Addr) (replies : List Reply) →
    Requests shares id_width before shown addresses replies → All (λ (a : Addr). IsTrue (after a.tag.txn)) addresses → Requests shares id_width after shown addresses replies
told-otherwise shares id_width before after shown addresses replies requests issued = record {
  asks_only_its_parts = requests.asks_only_its_parts;
  ids_fit = requests.ids_fit;
  whole_before_the_next = requests.whole_before_the_next;
  one_id_at_a_time = requests.one_id_at_a_time;
  was_issued = issued;
}

-- a node with a link above it knows of no issues
no-issues : (name : KindName) (s : StateOf name) (schedules : ℕ → _) (passed : Passed Access) (link : ℕ) → Contains ((kind_by_name name).uppers s) link → (t : ℕ) → ((kind_by_name name).knows schedules s passed).issued t ≡ false
no-issues AManager s schedules passed link among t = absurd (omega (arith, among.1))
no-issues ASlice s schedules passed link among t = refl
no-issues AMemory s schedules passed link among t = refl
no-issues ALiteMemory s schedules passed link among t = refl
no-issues AMux s schedules passed link among t = refl
no-issues AnError s schedules passed link among t = refl
no-issues ADemux s schedules passed link among t = refl
no-issues ARemap s schedules passed link among t = refl
no-issues AnUp s schedules passed link among t = refl
no-issues ASplit s schedules passed link among t = refl
no-issues ALite s schedules passed link among t = refl

module _ (net : Network NodeState) (forms : ℕ → LinkForm) (sound : IsSound node_kind net forms) (origin : Origin) (among : Contains (origins_in node_kind net.nodes) origin) where
  abbrev number : ℕ
  number = origin.number

  abbrev its : HasItsWay node_kind node_holds net forms sound origin.write origin.number origin
  its = its-way node_kind node_holds net forms sound origin.write origin.number origin (is-found node_kind node_holds net forms sound origin among)

  abbrev first : Hop
  first = record { link = origin.link; share = with_responses origin.share its.responses }

  -- a link carries it in its own direction alone
  own-direction : (write : Bool) (link : ℕ) (share : Share) → carried node_kind net write link number ≡ Some share → origin.write ≡ write
  own-direction write link share there = go (find (is_origin write number) (origins_in node_kind net.nodes)) refl
    where
      go : (o : Option Origin) → find (is_origin write number) (origins_in node_kind net.nodes) ≡ o → origin.write ≡ write
      go None none = absurd (none-some share (sym (not-carried node_kind node_holds net forms sound write number link none) ∙ there))
      go (Some found) is =
          let has = find-has (is_origin write number) (origins_in node_kind net.nodes) found is in
          let parts = and_parts (beq found.write write) (found.number == number) has.0 in
          let one = sound.once origin found among (contains-at (origins_in node_kind net.nodes) has.1 found has.2) (sym (eqb-true found.number number parts.1)) in
          ap (λ (o : Origin). o.write) one ∙ beq-true found.write write parts.0

  -- and comes to a node by one link
  one-link : (one other : ℕ) (x y : Share) → carried node_kind net origin.write one number ≡ Some x → carried node_kind net origin.write other number ≡ Some y → lower_node net.links one ≡ lower_node net.links other → one ≡ other
  one-link one other x y here there same =
      one-way_in node_kind node_holds net sound.wired origin.write first its.more its.starts.known its.joined one other x y (sym (its.is one) ∙ here) (sym (its.is other) ∙ there) same

  -- ---- over one node

  module _ (link next : ℕ) (share : Share) (comes : carried node_kind net origin.write link number ≡ Some share) (known : link < length net.links) (goes : (way_below node_kind net link).goes_on share ≡ Some next) (n : ℕ) where
    abbrev node : ℕ
    node = lower_node net.links link

    abbrev has_come : Bool
    has_come = is_asked origin.write number (lower_end node_kind net link n)

    -- as if it were issued once it has come by this link
    abbrev as_come : Progress
    as_come = record { issued = λ t. not (t == number) || has_come; written = (now net forms sound n).written; filled = (now net forms sound n).filled }

    -- of it only this link has a request above the node
    came-issued : (write : Bool) (other : ℕ) → lower_node net.links other ≡ node →
        IsPrefix (map without_id (of_key number_of_address number (asked_on write (lower_end node_kind net other n)))) (unwrap_or (carried node_kind net write other number) no_share).parts →
        All (λ (a : Addr). IsTrue (as_come.issued a.tag.txn)) (asked_on write (lower_end node_kind net other n))
    came-issued write other below parts k d lt =
        let addresses = asked_on write (lower_end node_kind net other n) in
        let a = get_or addresses k d in
        elim (cases_eq (number_of_address a) number) [
          | inl same ↦
              let passes : (number_of_address a == number) ≡ true = eq-eqb (number_of_address a) number same in
              let some = some-all (λ (x : Addr). number_of_address x == number) addresses a (Contains-get_or addresses k d lt) passes in
              let there = some-share (carried node_kind net write other number) (omega (arith, some, prefix_length parts, length-map (of_key number_of_address number addresses) without_id)) in
              let direction = own-direction write other there.0 there.1 in
              let one = one-link link other share there.0 comes (ap (λ (b : Bool). carried node_kind net b other number) direction ∙ there.1) (sym below) in
              let come : has_come ≡ true =
              subst (λ (b : Bool). is_asked b number (lower_end node_kind net link n) ≡ true) (sym direction)
              (subst (λ (l : ℕ). is_asked write number (lower_end node_kind net l n) ≡ true) (sym one) (list_any_at (λ (x : Addr). number_of_address x == number) addresses k d lt passes)) in
              ap (λ (b : Bool). not b || has_come) passes ∙ come
          | inr differs ↦ ap (λ (b : Bool). not b || has_come) (ne_eqb (number_of_address a) number differs)
        ]

    asks-come : (other : ℕ) → other < length net.links → lower_node net.links other ≡ node → Asks (schedules net forms sound other) as_come (lower_end node_kind net other n)
    asks-come other within below =
        let now_issued = (now net forms sound n).issued in
        let trail = lower_end node_kind net other n in
        let asks = (asked-below node_kind node_holds net (schedules net forms sound) (now net forms sound) sound.wired (is-scheduled node_kind node_holds net forms sound) n other within ((run-keeps net forms sound n).asked other within)).0 in
        record {
          writes = told-otherwise _ _ now_issued as_come.issued _ trail.aw _ asks.writes (came-issued true other below (asks.writes.asks_only_its_parts number));
          reads = told-otherwise _ _ now_issued as_come.issued _ trail.ar _ asks.reads (came-issued false other below (asks.reads.asks_only_its_parts number));
          data_is_the_schedules = asks.data_is_the_schedules;
          data_follows_addresses = asks.data_follows_addresses;
        }

    -- what is asked then below the node
    issued-then : (write : Bool) (trail : Beats) (to : ℕ) → Asks (schedules net forms sound to) as_come trail → All (λ (a : Addr). IsTrue (as_come.issued a.tag.txn)) (asked_on write trail)
    issued-then true trail to asks = asks.writes.was_issued
    issued-then false trail to asks = asks.reads.was_issued

    of-node : (name : KindName) (s : StateOf name) (out : Out) → slice_get net.nodes node ≡ Some (acted_as name s out) → Asks (schedules net forms sound next) as_come (upper_end node_kind net next n)
    of-node name s out at =
        let there = stands-at net node name s out at n in
        let state : NodeState = record { kind = name; state = run_state net name s n } in
        let acted : Acted NodeState = acted_as name (run_state net name s n) there.out in
        let passed = passed_by node_kind net node n in
        let scheduled = is-scheduled node_kind node_holds net forms sound in
        let keeps = run-keeps net forms sound n in
        let knows = holds-at net (λ (x : NodeState). IsKnown node_kind (schedules net forms sound) (now net forms sound n) x passed) node name s out at n (scheduled.known n keeps.nodes node) in
        let above : Contains (node_kind.uppers state) link =
        subst (λ (links : List ℕ). Contains links link) (sym (uppers-stay node_kind node_holds net n node) ∙ ap (λ (o : Option (Acted NodeState)). option_map_or (λ (a : Acted NodeState). node_kind.uppers a.state) o []) there.at) (sound.wired.below link known) in
        let own = goes-below node_kind node_holds net sound.wired origin.write link next share goes in
        let below : Contains (node_kind.lowers state) next =
        subst (λ (links : List ℕ). Contains links next) (sym (lowers-stay node_kind node_holds net n node) ∙ ap (λ (o : Option (Acted NodeState)). option_map_or (λ (a : Acted NodeState). node_kind.lowers a.state) o []) there.at)
        (subst (λ (k : ℕ). Contains (lowers_at node_kind net.nodes k) next) own.1 (sound.wired.above next own.0)) in
        let asked : AskedAt (schedules net forms sound) as_come passed.uppers (node_kind.uppers state) =
        All-weaker (λ (l : ℕ). (l < length net.links) × (lower_node net.links l ≡ node)) (λ (l : ℕ). Asks (schedules net forms sound l) as_come (passed.uppers l))
        (λ l is. subst (λ (k : ℕ). Asks (schedules net forms sound l) as_come ((passed_by node_kind net k n).uppers l)) is.1 (asks-come l is.0 is.1))
        (node_kind.uppers state) (uppers-are node_kind node_holds net (schedules net forms sound) (now net forms sound) sound.wired scheduled n node acted there.at) in
        let asks =
        node_holds.asks_below (schedules net forms sound) as_come n state passed
        (holds-at net node_kind.fact node name s out at n (keeps.facts node))
        (holds-at net (λ (x : NodeState). node_kind.keeps (schedules net forms sound) n x passed) node name s out at n (keeps.nodes node))
        (record {
          issued = λ t is. let never : true ≡ false = sym is ∙ no-issues name (run_state net name s n) (schedules net forms sound) passed link above t in absurd (cc);
          written = knows.written;
          filled = knows.filled;
        }) asked in
        subst (λ (k : ℕ). Asks (schedules net forms sound next) as_come ((passed_by node_kind net k n).lowers next)) (sym own.1)
        (All-contains (λ (l : ℕ). Asks (schedules net forms sound l) as_come (passed.lowers l)) (node_kind.lowers state) next asks below)

    asks-next : Asks (schedules net forms sound next) as_come (upper_end node_kind net next n)
    asks-next = go (slice_get net.nodes node) refl
      where
        go : (o : Option (Acted NodeState)) → slice_get net.nodes node ≡ o → Asks (schedules net forms sound next) as_come (upper_end node_kind net next n)
        go None none =
            let nothing : Contains [] link = subst (λ (o : Option (Acted NodeState)). Contains (option_map_or (λ (a : Acted NodeState). node_kind.uppers a.state) o []) link) none (sound.wired.below link known) in
            absurd (omega (arith, nothing.1))
        go (Some a) at = of-node a.state.kind a.state.state a.out at

    -- where it has been put below, it has come
    came-above : is_asked origin.write number (upper_end node_kind net next n) ≡ true → has_come ≡ true
    came-above put =
        let trail = upper_end node_kind net next n in
        let some = Any-from_list_any (λ (a : Addr). number_of_address a == number) (asked_on origin.write trail) put in
        let issued = All-contains (λ (a : Addr). IsTrue (as_come.issued a.tag.txn)) (asked_on origin.write trail) some.1 (issued-then origin.write trail next asks-next) (some.0, some.2, some.3) in
        ap (λ (b : Bool). not b || has_come) (sym some.4) ∙ issued

  -- ---- along its way

  grows-asked : (write : Bool) (link n : ℕ) → IsPrefix (asked_on write (lower_end node_kind net link n)) (asked_on write (lower_end node_kind net link (suc n)))
  grows-asked true link n = prefix_append (lower_end node_kind net link n).aw (moved_below (chosen node_kind net (lower_node net.links link) n) (queues_after node_kind net n) link).aw
  grows-asked false link n = prefix_append (lower_end node_kind net link n).ar (moved_below (chosen node_kind net (lower_node net.links link) n) (queues_after node_kind net n) link).ar

  abbrev Come : ℕ → ℕ → Type 0
  Come link n = is_asked origin.write number (lower_end node_kind net link n) ≡ true

  -- what hops carry is what their links carry
  abbrev AreHops : List Hop → Type 0
  AreHops hops = (link : ℕ) (share : Share) → share_on link hops ≡ Some share → carried node_kind net origin.write link number ≡ Some share

  over-node : (hop next : Hop) (more : List Hop) (n : ℕ) → hop.link < length net.links → IsJoined node_kind node_holds net sound.wired origin.write (hop ∷ next ∷ more) → AreHops (hop ∷ next ∷ more) →
      Come next.link (suc n) → Come hop.link n
  over-node hop next more n known joined are come =
      let run = taken_was_put_before next.link (queues_after node_kind net) (chosen node_kind net (upper_node net.links next.link)) (chosen node_kind net (lower_node net.links next.link)) (link-run net forms sound next.link joined.0.known) n in
      came-above hop.link next.link hop.share (are hop.link hop.share (share-here hop.link hop (next ∷ more) refl)) known joined.0.goes n
      (asked-front origin.write number (lower_end node_kind net next.link (suc n)) (upper_end node_kind net next.link n)
      (asked-behind origin.write (lower_end node_kind net next.link (suc n)) (upper_end node_kind net next.link n) run.0) come)

  further-hops : (hop next : Hop) (more : List Hop) → hop.link < length net.links → IsJoined node_kind node_holds net sound.wired origin.write (hop ∷ next ∷ more) → AreHops (hop ∷ next ∷ more) → AreHops (next ∷ more)
  further-hops hop next more known joined are link share there =
      are link share (behind node_kind node_holds net sound.wired origin.write hop (next ∷ more) known joined link share there)

  -- from the last hop up to the first one
  come-first : (hop : Hop) (hops : List Hop) (n : ℕ) → hop.link < length net.links → IsJoined node_kind node_holds net sound.wired origin.write (hop ∷ hops) → AreHops (hop ∷ hops) →
      Come (last_hop hop hops).link (suc n) → Come hop.link (suc n)
  come-first hop [] n known joined are come = come
  come-first hop (next ∷ more) n known joined are come =
      let below = come-first next more n joined.0.known joined.1 (further-hops hop next more known joined are) come in
      asked-front origin.write number (lower_end node_kind net hop.link n) (lower_end node_kind net hop.link (suc n)) (grows-asked origin.write hop.link n)
      (over-node hop next more n known joined are below)

  -- and so on each one that sends it on, by the round before
  come-each : (hop : Hop) (hops : List Hop) (n : ℕ) → hop.link < length net.links → IsJoined node_kind node_holds net sound.wired origin.write (hop ∷ hops) → AreHops (hop ∷ hops) →
      Come (last_hop hop hops).link (suc n) → (link next : ℕ) (share : Share) → share_on link (hop ∷ hops) ≡ Some share → (way_below node_kind net link).goes_on share ≡ Some next → Come link n
  come-each hop [] n known joined are come link next share there goes = elim (cases_eq hop.link link) [
    | inl same ↦
        let is : hop.share ≡ share = same_Some hop.share share (sym (share-here link hop [] same) ∙ there) in
        absurd (none-some next (sym joined.ends ∙ ap (λ (l : ℕ). (way_below node_kind net l).goes_on hop.share) same ∙ ap (way_below node_kind net link).goes_on is ∙ goes))
    | inr other ↦ absurd (none-some share (sym (share-further link hop [] other) ∙ there))
  ]
  come-each hop (second ∷ more) n known joined are come link next share there goes = elim (cases_eq hop.link link) [
    | inl same ↦
        let below = come-first second more n joined.0.known joined.1 (further-hops hop second more known joined are) come in
        subst (λ (l : ℕ). Come l n) same (over-node hop second more n known joined are below)
    | inr other ↦
        come-each second more n joined.0.known joined.1 (further-hops hop second more known joined are) come link next share (sym (share-further link hop (second ∷ more) other) ∙ there) goes
  ]

  -- a request that has come where its way ends after one more round has come by now on each link of its way but the last one
  pub come-before : (n : ℕ) → Come (way_end net forms origin).link (suc n) → (link next : ℕ) (share : Share) → carried node_kind net origin.write link number ≡ Some share → (way_below node_kind net link).goes_on share ≡ Some next →
      Come link n
  come-before n come link next share there goes =
      come-each first its.more n its.starts.known its.joined (λ l s on. its.is l ∙ on)
      (subst (λ (h : Hop). Come h.link (suc n)) (end-is net forms sound origin among) come) link next share (sym (its.is link) ∙ there) goes
