-- Where the way of a transaction ends, that each of its links carries some part of it with its bytes, and that no more
-- responses come back than it has parts and beats.
use Rattle.std.proofs.Common.{◌≡◌, ◌<◌, [], ◌∷◌, ℕ, Bool, List, Option, Some, None, length, refl, sym, ap, ◌∙◌, subst, inl, inr, arith}
use Rattle.std.specs.Prelude.{◌≤◌, Contains, slice_get, true, false}
use Rattle.subordinate.specs.Parts.{beats_of_parts}
use Rattle.std.specs.Option.{option_map_or}
use Rattle.std.proofs.lemmas.Bool.{cases_eq}
use Rattle.std.proofs.lemmas.Option.{none-some, same_Some}
use Rattle.axi_beats.specs.declared.response.Resp.{Resp}
use Rattle.axi_trail.specs.Schedule.{Share}
use Rattle.net_history.specs.Due.{last_hop, way_end}
use Rattle.net_kinds.proofs.CutLemmas.{few-responses_end, few-responses_merge, some-part_goes_on}
use Rattle.net_kinds.specs.NodeCuts.{most_responses}
use Rattle.net_kinds.specs.NodeHolds.{node_holds}
use Rattle.net_kinds.specs.NodeKind.{NodeState, node_kind}
use Rattle.net_model.specs.Network.{Network, lower_node}
use Rattle.net_model.specs.Wired.{IsWired}
use Rattle.net_ways.proofs.HopLemmas.{IsEnd, IsJoined, behind, share-further, share-here}
use Rattle.net_ways.proofs.OriginLemmas.{HasItsWay, is-found, its-way}
use Rattle.net_ways.proofs.WayLemmas.{keeps-there}
use Rattle.net_ways.specs.Sound.{IsSound}
use Rattle.net_ways.specs.SoundLaws.{KeepsBytes}
use Rattle.net_ways.specs.Ways.{Hop, carried, origins_in, responses_from, share_on, way_at, way_below, way_of}
use Rattle.node_core.specs.Acted.{Acted}
use Rattle.node_shape.specs.LinkForm.{LinkForm}
use Rattle.node_shape.specs.Way.{Origin, start_here, with_responses}

-- ---- what nodes make of transactions that they cut

way-of_some : (nodes : List (Acted NodeState)) (number : ℕ) (share : Share) → 0 < length share.parts → 0 < length ((way_at node_kind nodes number).cut share).parts
way-of_some nodes number share some = go (slice_get nodes number)
  where
    go : (o : Option (Acted NodeState)) → 0 < length ((option_map_or (λ (node : Acted NodeState). node_kind.way node.state) o (start_here [])).cut share).parts
    go None = some
    go (Some node) = some-part_goes_on node.state share some

way-few_end : (nodes : List (Acted NodeState)) (number : ℕ) (write : Bool) (share : Share) → length ((way_at node_kind nodes number).ends write share) ≤ most_responses write share
way-few_end nodes number write share = go (slice_get nodes number)
  where
    go : (o : Option (Acted NodeState)) → length ((option_map_or (λ (node : Acted NodeState). node_kind.way node.state) o (start_here [])).ends write share) ≤ most_responses write share
    go None = omega arith
    go (Some node) = few-responses_end node.state write share

way-few_merge : (nodes : List (Acted NodeState)) (number : ℕ) (write : Bool) (share : Share) (below : List Resp) → length below ≤ most_responses write ((way_at node_kind nodes number).cut share) →
    length ((way_at node_kind nodes number).merged write share below) ≤ most_responses write share
way-few_merge nodes number write share below = go (slice_get nodes number)
  where
    go : (o : Option (Acted NodeState)) → length below ≤ most_responses write ((option_map_or (λ (node : Acted NodeState). node_kind.way node.state) o (start_here [])).cut share) →
        length ((option_map_or (λ (node : Acted NodeState). node_kind.way node.state) o (start_here [])).merged write share below) ≤ most_responses write share
    go None few = few
    go (Some node) few = few-responses_merge node.state write share below few

-- only the parts have a say
most-same : (write : Bool) (one other : Share) → one.parts ≡ other.parts → most_responses write one ≡ most_responses write other
most-same true one other same = ap length same
most-same false one other same = ap (λ parts. length (beats_of_parts parts)) same

module _ (net : Network NodeState) (wired : IsWired node_kind net) (write : Bool) where
  -- some part of it goes by each link of a way
  some-along : (hop : Hop) (hops : List Hop) → IsJoined node_kind node_holds net wired write (hop ∷ hops) → 0 < length hop.share.parts → (link : ℕ) (share : Share) → share_on link (hop ∷ hops) ≡ Some share → 0 < length share.parts
  some-along hop [] joined some link share there = elim (cases_eq hop.link link) [
    | inl same ↦ subst (λ (s : Share). 0 < length s.parts) (same_Some hop.share share (sym (share-here link hop [] same) ∙ there)) some
    | inr other ↦ absurd (none-some share (sym (share-further link hop [] other) ∙ there))
  ]
  some-along hop (next ∷ more) joined some link share there = elim (cases_eq hop.link link) [
    | inl same ↦ subst (λ (s : Share). 0 < length s.parts) (same_Some hop.share share (sym (share-here link hop (next ∷ more) same) ∙ there)) some
    | inr other ↦
        let goes : 0 < length next.share.parts =
        subst (λ (s : Share). 0 < length s.parts) (sym joined.0.sent.cut) (way-of_some net.nodes (lower_node net.links hop.link) hop.share some) in
        some-along next more joined.1 goes link share (sym (share-further link hop (next ∷ more) other) ∙ there)
  ]

  -- no more responses come back to a link than it has parts and beats
  few-along : (hop : Hop) (hops : List Hop) → IsJoined node_kind node_holds net wired write (hop ∷ hops) → length hop.share.responses ≤ most_responses write hop.share
  few-along hop [] joined = subst (λ (rs : List Resp). length rs ≤ most_responses write hop.share) (sym joined.responses) (way-few_end net.nodes (lower_node net.links hop.link) write hop.share)
  few-along hop (next ∷ more) joined =
      let number = lower_node net.links hop.link in
      let cut = most-same write next.share ((way_at node_kind net.nodes number).cut hop.share) (ap (λ (s : Share). s.parts) joined.0.sent.cut) in
      let below : length next.share.responses ≤ most_responses write ((way_at node_kind net.nodes number).cut hop.share) = subst (λ (n : ℕ). length next.share.responses ≤ n) cut (few-along next more joined.1) in
      subst (λ (rs : List Resp). length rs ≤ most_responses write hop.share) (sym joined.0.sent.merged) (way-few_merge net.nodes number write hop.share next.share.responses below)

  -- the last link carries it
  pub record EndsWell (hop : Hop) (hops : List Hop) : Type 0 where
    pub there : share_on (last_hop hop hops).link (hop ∷ hops) ≡ Some (last_hop hop hops).share
    pub known : (last_hop hop hops).link < length net.links
    pub end : IsEnd node_kind node_holds net wired write (last_hop hop hops)

  pub last-there : (hop : Hop) (hops : List Hop) → hop.link < length net.links → IsJoined node_kind node_holds net wired write (hop ∷ hops) → EndsWell hop hops
  last-there hop [] known joined = record { there = share-here hop.link hop [] refl; known = known; end = joined }
  last-there hop (next ∷ more) known joined =
      let rest = last-there next more joined.0.known joined.1 in
      record {
        there = behind node_kind node_holds net wired write hop (next ∷ more) known joined (last_hop next more).link (last_hop next more).share rest.there;
        known = rest.known;
        end = rest.end;
      }

  -- where a node ends it, the link above that node is the last one
  pub last-is : (hop : Hop) (hops : List Hop) → IsJoined node_kind node_holds net wired write (hop ∷ hops) → (link : ℕ) (share : Share) → share_on link (hop ∷ hops) ≡ Some share →
      (way_below node_kind net link).goes_on share ≡ None → (last_hop hop hops).link ≡ link
  last-is hop [] joined link share there ends = elim (cases_eq hop.link link) [
    | inl same ↦ same
    | inr other ↦ absurd (none-some share (sym (share-further link hop [] other) ∙ there))
  ]
  last-is hop (next ∷ more) joined link share there ends = elim (cases_eq hop.link link) [
    | inl same ↦
        let is : hop.share ≡ share = same_Some hop.share share (sym (share-here link hop (next ∷ more) same) ∙ there) in
        absurd (none-some next.link (sym ends ∙ sym (ap (λ (l : ℕ). (way_below node_kind net l).goes_on hop.share) same ∙ ap (way_below node_kind net link).goes_on is) ∙ joined.0.goes))
    | inr other ↦ last-is next more joined.1 link share (sym (share-further link hop (next ∷ more) other) ∙ there) ends
  ]

module _ (net : Network NodeState) (forms : ℕ → LinkForm) (sound : IsSound node_kind net forms) (origin : Origin) (among : Contains (origins_in node_kind net.nodes) origin) where
  abbrev its : HasItsWay node_kind node_holds net forms sound origin.write origin.number origin
  its = its-way node_kind node_holds net forms sound origin.write origin.number origin (is-found node_kind node_holds net forms sound origin among)

  -- what its first link carries: what it starts with, and the responses that come back
  abbrev pub first_share : Share
  first_share = with_responses origin.share (responses_from (way_of node_kind net origin))

  responses-are : responses_from (way_of node_kind net origin) ≡ its.responses
  responses-are = ap responses_from its.hops_are

  pub first-carried : carried node_kind net origin.write origin.link origin.number ≡ Some first_share
  first-carried =
      its.is origin.link ∙ share-here origin.link (record { link = origin.link; share = with_responses origin.share its.responses }) its.more refl
      ∙ ap (λ (r : List Resp). Some (with_responses origin.share r)) (sym responses-are)

  -- what its last link carries
  pub end-is : way_end net forms origin ≡ last_hop (record { link = origin.link; share = with_responses origin.share its.responses }) its.more
  end-is = ap (λ (hops : List Hop). last_hop (record { link = origin.link; share = origin.share }) hops) its.hops_are

  ends-well : EndsWell net sound.wired origin.write (record { link = origin.link; share = with_responses origin.share its.responses }) its.more
  ends-well = last-there net sound.wired origin.write (record { link = origin.link; share = with_responses origin.share its.responses }) its.more its.starts.known its.joined

  pub end-carried : carried node_kind net origin.write (way_end net forms origin).link origin.number ≡ Some (way_end net forms origin).share
  end-carried =
      subst (λ (h : Hop). carried node_kind net origin.write h.link origin.number ≡ Some h.share) (sym end-is)
      (its.is (last_hop (record { link = origin.link; share = with_responses origin.share its.responses }) its.more).link ∙ ends-well.there)

  pub end-known : (way_end net forms origin).link < length net.links
  end-known = subst (λ (h : Hop). h.link < length net.links) (sym end-is) ends-well.known

  -- its responses are those of the node where it ends
  pub end-responses : (way_end net forms origin).share.responses ≡ (way_below node_kind net (way_end net forms origin).link).ends origin.write (way_end net forms origin).share
  end-responses =
      subst (λ (h : Hop). h.share.responses ≡ (way_below node_kind net h.link).ends origin.write h.share) (sym end-is) ends-well.end.responses

  -- no more responses come back than there are parts and beats
  pub responses-few : length (responses_from (way_of node_kind net origin)) ≤ most_responses origin.write first_share
  responses-few =
      let first : Hop = record { link = origin.link; share = with_responses origin.share its.responses } in
      subst (λ (r : List Resp). length r ≤ most_responses origin.write (with_responses origin.share r)) (sym responses-are)
      (few-along net sound.wired origin.write first its.more its.joined)

  -- each link that carries it carries some part of it
  pub carried-some : 0 < length origin.share.parts → (link : ℕ) (share : Share) → carried node_kind net origin.write link origin.number ≡ Some share → 0 < length share.parts
  carried-some some link share there =
      some-along net sound.wired origin.write (record { link = origin.link; share = with_responses origin.share its.responses }) its.more its.joined some link share (sym (its.is link) ∙ there)

  -- with its bytes
  pub carried-keeps : (link : ℕ) (share : Share) → carried node_kind net origin.write link origin.number ≡ Some share →
      KeepsBytes node_kind forms origin (record { link = link; share = share })
  carried-keeps link share there = keeps-there node_kind node_holds net forms sound origin among link share there

  -- and the one below which it ends is the last one
  pub end-at : (link : ℕ) (share : Share) → carried node_kind net origin.write link origin.number ≡ Some share → (way_below node_kind net link).goes_on share ≡ None → (way_end net forms origin).link ≡ link
  end-at link share there ends =
      ap (λ (h : Hop). h.link) end-is
      ∙ last-is net sound.wired origin.write (record { link = origin.link; share = with_responses origin.share its.responses }) its.more its.joined link share (sym (its.is link) ∙ there) ends
