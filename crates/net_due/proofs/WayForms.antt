-- What the last link of a way carries, and that the responses that come back are made of those of the node where it ends.
use Rattle.std.proofs.Common.{◌≡◌, ◌<◌, [], ◌∷◌, ℕ, Bool, true, cond, List, Option, Some, None, append-nil, length, sym, ap, ◌∙◌, subst}
use Rattle.std.specs.Prelude.{All, Contains, IfSome, flat_map, slice_get, zip}
use Rattle.std.specs.Option.{option_map_or}
use Rattle.std.proofs.lemmas.List.Elements.{All-head, All-tail}
use Rattle.std.proofs.lemmas.Option.{none-some}
use Rattle.axi_beats.specs.declared.beat.Addr.{Addr}
use Rattle.axi_beats.specs.declared.beat.WBeat.{WBeat}
use Rattle.axi_beats.specs.declared.response.Resp.{Resp}
use Rattle.axi_trail.specs.LinkContracts.{without_id}
use Rattle.axi_trail.specs.Schedule.{Schedule}
use Rattle.burst_address.specs.Bytes.{written_bytes}
use Rattle.manager_node.specs.Beats.{data_beats, item_request}
use Rattle.manager_node.specs.ManagerState.{ManagerState}
use Rattle.manager_node.specs.Script.{ScriptItem}
use Rattle.net_history.proofs.EndLemmas.{carried-keeps, end-carried, end-is, end-responses, last-there}
use Rattle.net_history.proofs.ItemLemmas.{among, origin}
use Rattle.net_history.proofs.ManagerRuns.{has-link}
use Rattle.net_history.proofs.RoundLemmas.{IsItem}
use Rattle.net_history.specs.Due.{last_hop, way_end}
use Rattle.net_kinds.proofs.StatusLemmas.{statuses-merge}
use Rattle.net_kinds.specs.NodeCuts.{responses_by}
use Rattle.net_kinds.specs.NodeHolds.{node_holds}
use Rattle.net_kinds.specs.NodeKind.{NodeState, node_kind}
use Rattle.net_model.specs.Network.{Network, lower_node}
use Rattle.net_ways.proofs.HopLemmas.{IsJoined, IsStep}
use Rattle.net_ways.proofs.OriginLemmas.{HasItsWay, is-found, its-way}
use Rattle.net_ways.proofs.WayLemmas.{is-carried, rights}
use Rattle.net_ways.specs.Sound.{IsSound}
use Rattle.net_ways.specs.SoundLaws.{KeepsBytes}
use Rattle.net_ways.specs.Ways.{Hop, carried, origins_in, responses_from, schedules_of, share_on, way_below, way_of}
use Rattle.node_core.specs.Acted.{Acted}
use Rattle.node_shape.specs.LinkForm.{FitsLink, LinkForm}
use Rattle.node_shape.specs.Way.{Origin, start_here, with_responses}
use Rattle.node_shape.specs.WaysAround.{IsCarried}

module _ (net : Network NodeState) (forms : ℕ → LinkForm) (sound : IsSound node_kind net forms) where
  abbrev schedules : ℕ → Schedule
  schedules = schedules_of node_kind net forms

  -- ---- responses, from the last link of a way up to the first one

  module _ (write : Bool) (least : Resp) (status : ℕ → Resp) where
    -- the responses of a hop are those by the status of its bytes
    abbrev HasStatuses : Hop → Type 0
    HasStatuses hop = hop.share.responses ≡ responses_by least status (forms hop.link) write hop.share

    -- over one node
    merged-by : (hop : Hop) (next : ℕ) → hop.link < length net.links → IsCarried (forms hop.link) write hop.link hop.share → (way_below node_kind net hop.link).goes_on hop.share ≡ Some next →
        (way_below node_kind net hop.link).merged write hop.share (responses_by least status (forms next) write ((way_below node_kind net hop.link).cut hop.share)) ≡ responses_by least status (forms hop.link) write hop.share
    merged-by hop next known is goes =
        go (slice_get net.nodes (lower_node net.links hop.link)) (sound.begins (lower_node net.links hop.link)) (sound.nodes (lower_node net.links hop.link)) (sound.wired.below hop.link known) goes
      where
        go : (o : Option (Acted NodeState)) → IfSome o (λ (a : Acted NodeState). node_kind.begins a.state) → IfSome o (λ (a : Acted NodeState). node_kind.is_sound forms schedules a.state) →
            Contains (option_map_or (λ (a : Acted NodeState). node_kind.uppers a.state) o []) hop.link → (option_map_or (λ (a : Acted NodeState). node_kind.way a.state) o (start_here [])).goes_on hop.share ≡ Some next →
            (option_map_or (λ (a : Acted NodeState). node_kind.way a.state) o (start_here [])).merged write hop.share
            (responses_by least status (forms next) write ((option_map_or (λ (a : Acted NodeState). node_kind.way a.state) o (start_here [])).cut hop.share)) ≡ responses_by least status (forms hop.link) write hop.share
        go None begins fits above goes = absurd (none-some next goes)
        go (Some a) begins fits above goes = statuses-merge forms schedules a.state begins fits write hop.link next hop.share above is goes least status

    merged-next : (hop next : Hop) → hop.link < length net.links → IsCarried (forms hop.link) write hop.link hop.share → IsStep node_kind node_holds net sound.wired write hop next → HasStatuses next → HasStatuses hop
    merged-next hop next known is step below =
        let way = way_below node_kind net hop.link in
        step.sent.merged
        ∙ ap (way.merged write hop.share) (below ∙ ap (responses_by least status (forms next.link) write) step.sent.cut)
        ∙ merged-by hop next.link known is step.goes

    statuses-along : (hop : Hop) (hops : List Hop) → hop.link < length net.links → IsJoined node_kind node_holds net sound.wired write (hop ∷ hops) →
        All (λ (h : Hop). IsCarried (forms h.link) write h.link h.share) (hop ∷ hops) → HasStatuses (last_hop hop hops) → HasStatuses hop
    statuses-along hop [] known joined are last = last
    statuses-along hop (next ∷ more) known joined are last =
        let Is : Hop → Type 0 = λ h. IsCarried (forms h.link) write h.link h.share in
        merged-next hop next known (All-head Is hop (next ∷ more) are) joined.0
        (statuses-along next more joined.0.known joined.1 (All-tail Is hop (next ∷ more) are) last)

  -- ---- a transaction of a manager

  module _ (node : ℕ) (s : ManagerState) (place : ℕ) (item : ScriptItem) (own : IsItem net node s place item) where
    abbrev its_origin : Origin
    its_origin = origin net forms sound node s place item own

    abbrev is_among : Contains (origins_in node_kind net.nodes) its_origin
    is_among = among net forms sound node s place item own

    abbrev end : Hop
    end = way_end net forms its_origin

    abbrev its : HasItsWay node_kind node_holds net forms sound its_origin.write its_origin.number its_origin
    its = its-way node_kind node_holds net forms sound its_origin.write its_origin.number its_origin (is-found node_kind node_holds net forms sound its_origin is_among)

    abbrev first : Hop
    first = record { link = its_origin.link; share = with_responses its_origin.share its.responses }

    at-end : carried node_kind net its_origin.write end.link its_origin.number ≡ Some end.share
    at-end = end-carried net forms sound its_origin is_among

    -- what it carries is legal there
    pub end-fits : FitsLink (forms end.link) item.txn.write end.share
    end-fits = (is-carried node_kind node_holds net forms sound its_origin.write its_origin.number end.link end.share at-end).fits

    -- with the bytes of the manager's burst
    pub end-keeps : KeepsBytes node_kind forms its_origin end
    end-keeps = carried-keeps net forms sound its_origin is_among end.link end.share at-end

    abbrev part : Addr
    part = without_id (item_request item)

    -- and, of a write, what the manager's data writes
    pub end-written : item.txn.write ≡ true → flat_map (λ (p : Addr × List WBeat). written_bytes (forms end.link).bus p.0 p.1) (zip end.share.parts end.share.write_data) ≡ written_bytes s.bus part (data_beats item s.bus)
    end-written writes =
        let beats = data_beats item s.bus in
        end-keeps.written writes
        ∙ ap (λ (b : Bool). flat_map (λ (p : Addr × List WBeat). written_bytes (forms s.lower).bus p.0 p.1) (zip (part ∷ []) (cond b (beats ∷ []) []))) writes
        ∙ append-nil (written_bytes (forms s.lower).bus part beats)
        ∙ ap (λ (bus : ℕ). written_bytes bus part beats) (has-link net forms sound node s own.is).bus

    -- where the node at the end answers by the status of each byte, so is the manager answered
    pub responses-are : (least : Resp) (status : ℕ → Resp) →
        (way_below node_kind net end.link).ends item.txn.write end.share ≡ responses_by least status (forms end.link) item.txn.write end.share →
        responses_from (way_of node_kind net its_origin) ≡ responses_by least status (forms s.lower) item.txn.write its_origin.share
    responses-are least status ends =
        let right = rights node_kind node_holds net forms sound its_origin.write its_origin.number its_origin its in
        ap responses_from its.hops_are
        ∙ statuses-along its_origin.write least status first its.more its.starts.known its.joined (λ i d lt. (right i d lt).is)
        (subst (HasStatuses its_origin.write least status) (end-is net forms sound its_origin is_among) (end-responses net forms sound its_origin is_among ∙ ends))

    -- below its last link it goes no further
    pub end-stops : (way_below node_kind net end.link).goes_on end.share ≡ None
    end-stops =
        subst (λ (h : Hop). (way_below node_kind net h.link).goes_on h.share ≡ None) (sym (end-is net forms sound its_origin is_among))
        (last-there net sound.wired its_origin.write first its.more its.starts.known its.joined).end.ends

    -- a way has a last hop
    pub end-there : share_on end.link (way_of node_kind net its_origin) ≡ Some end.share
    end-there = ap (share_on end.link) its.hops_are ∙ sym (its.is end.link) ∙ end-carried net forms sound its_origin is_among
