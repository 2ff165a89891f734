-- The ways of two transactions that begin as one chain: they end as one chain, or they part at a demux.
use Rattle.std.proofs.Common.{◌≡◌, ◌≢◌, ◌<◌, [], ◌∷◌, ℕ, Bool, List, Option, Some, None, length, refl, sym, ap, ◌∙◌, subst, inl, inr}
use Rattle.std.specs.Prelude.{◌⊎◌, slice_get}
use Rattle.std.specs.Option.{option_map_or}
use Rattle.std.proofs.lemmas.Bool.{cases_eq}
use Rattle.std.proofs.lemmas.Option.{none-some, same_Some}
use Rattle.axi_link.specs.declared.out.Out.{Out}
use Rattle.axi_trail.specs.Schedule.{Share}
use Rattle.demux_node.proofs.AnswerLemmas.{lower-at, port_of_parts-within}
use Rattle.demux_node.specs.DemuxState.{DemuxState}
use Rattle.demux_node.specs.DemuxTrail.{IsNewDemux, lower_of_parts, port_of_parts}
use Rattle.net_history.proofs.RunStates.{acted_as}
use Rattle.net_history.specs.Due.{last_hop}
use Rattle.net_kinds.specs.NodeHolds.{node_holds}
use Rattle.net_kinds.specs.NodeKind.{KindName, NodeState, StateOf, kind_by_name, node_kind}
use Rattle.net_kinds.specs.NodeKind.KindName.{ADemux, ALite, ALiteMemory, AManager, AMemory, AMux, ARemap, ASlice, ASplit, AnError, AnUp}
use Rattle.net_model.specs.Network.{Network, lower_node}
use Rattle.net_runs.proofs.ContractFacts.{at-some}
use Rattle.net_ways.proofs.HopLemmas.{IsJoined, IsStep, behind, is-way, share-here}
use Rattle.net_ways.specs.Sound.{IsSound}
use Rattle.net_ways.specs.Ways.{Hop, share_on, way_below}
use Rattle.node_core.specs.Acted.{Acted}
use Rattle.node_shape.specs.LinkForm.{LinkForm}
use Rattle.node_shape.specs.Way.{start_here}

-- a node is a demux, which stands like this before the first round
pub record IsDemuxAt (net : Network NodeState) (node : ℕ) (s : DemuxState) : Type 0 where
  pub out : Out
  pub at : slice_get net.nodes node ≡ Some (acted_as ADemux s out)

module _ (net : Network NodeState) (forms : ℕ → LinkForm) (sound : IsSound node_kind net forms) where
  pub demux-begins : (node : ℕ) (s : DemuxState) → IsDemuxAt net node s → IsNewDemux s
  demux-begins node s is = at-some (λ (a : Acted NodeState). node_kind.begins a.state) (slice_get net.nodes node) (acted_as ADemux s is.out) is.at (sound.begins node)

  abbrev goes_on : ℕ → Share → Option ℕ
  goes_on link share = (way_below node_kind net link).goes_on share

  -- ---- where a node sends two transactions

  module _ (link : ℕ) where
    abbrev node : ℕ
    node = lower_node net.links link

    by-kind : (name : KindName) (s : StateOf name) (out : Out) → slice_get net.nodes node ≡ Some (acted_as name s out) → (share : Share) → goes_on link share ≡ ((kind_by_name name).way s).goes_on share
    by-kind name s out at share = ap (λ (o : Option (Acted NodeState)). (option_map_or (λ (a : Acted NodeState). node_kind.way a.state) o (start_here [])).goes_on share) at

    -- a demux sends each by the port of its parts
    pub demux-goes : (s : DemuxState) → IsDemuxAt net node s → (share : Share) → goes_on link share ≡ Some (lower_of_parts s.shape share.parts)
    demux-goes s is share =
        by-kind ADemux s is.out is.at share
        ∙ lower-at s.shape (port_of_parts s.shape share.parts) (port_of_parts-within s.shape (demux-begins node s is).shape share.parts)

    -- two transactions go by two links of a demux
    pub record GoApart (one other : Share) : Type 0 where
      pub demux : DemuxState
      pub is : IsDemuxAt net node demux
      pub apart : lower_of_parts demux.shape one.parts ≢ lower_of_parts demux.shape other.parts

    module _ (one other : Share) where
      abbrev Goes : Type 0
      Goes = (goes_on link one ≡ goes_on link other) ⊎ GoApart one other

      goes-kind : (name : KindName) (s : StateOf name) (out : Out) → slice_get net.nodes node ≡ Some (acted_as name s out) → Goes
      goes-kind ASlice s out at = inl (by-kind ASlice s out at one ∙ sym (by-kind ASlice s out at other))
      goes-kind AManager s out at = inl (by-kind AManager s out at one ∙ sym (by-kind AManager s out at other))
      goes-kind AMemory s out at = inl (by-kind AMemory s out at one ∙ sym (by-kind AMemory s out at other))
      goes-kind ALiteMemory s out at = inl (by-kind ALiteMemory s out at one ∙ sym (by-kind ALiteMemory s out at other))
      goes-kind AMux s out at = inl (by-kind AMux s out at one ∙ sym (by-kind AMux s out at other))
      goes-kind ARemap s out at = inl (by-kind ARemap s out at one ∙ sym (by-kind ARemap s out at other))
      goes-kind AnUp s out at = inl (by-kind AnUp s out at one ∙ sym (by-kind AnUp s out at other))
      goes-kind ASplit s out at = inl (by-kind ASplit s out at one ∙ sym (by-kind ASplit s out at other))
      goes-kind ALite s out at = inl (by-kind ALite s out at one ∙ sym (by-kind ALite s out at other))
      goes-kind AnError s out at = inl (by-kind AnError s out at one ∙ sym (by-kind AnError s out at other))
      goes-kind ADemux s out at =
          let is : IsDemuxAt net node s = record { out = out; at = at } in
          elim (cases_eq (lower_of_parts s.shape one.parts) (lower_of_parts s.shape other.parts)) [
            | inl same ↦ inl (demux-goes s is one ∙ ap (λ (l : ℕ). Some l) same ∙ sym (demux-goes s is other))
            | inr apart ↦ inr (record { demux = s; is = is; apart = apart })
          ]

      -- by one link, or its node is a demux
      goes-alike : Goes
      goes-alike = go (slice_get net.nodes node) refl
        where
          go : (o : Option (Acted NodeState)) → slice_get net.nodes node ≡ o → Goes
          go None none =
              let nowhere : (share : Share) → goes_on link share ≡ None = λ share. ap (λ (o : Option (Acted NodeState)). (option_map_or (λ (a : Acted NodeState). node_kind.way a.state) o (start_here [])).goes_on share) none in
              inl (nowhere one ∙ sym (nowhere other))
          go (Some a) at = goes-kind a.state.kind a.state.state a.out at

  -- ---- two ways from one link on

  -- both end by one link, as one chain
  pub record EndAsOne (one other : Hop) : Type 0 where
    pub link : one.link ≡ other.link
    pub chain : one.share.chain ≡ other.share.chain

  -- at a link on both of them, where they are one chain, they part
  pub record Part (ones others : List Hop) : Type 0 where
    pub link : ℕ
    pub known : link < length net.links
    pub one : Share
    pub other : Share
    pub here : share_on link ones ≡ Some one
    pub there : share_on link others ≡ Some other
    pub chain : one.chain ≡ other.chain
    pub go_apart : GoApart link one other

  -- the next link comes first in the chain
  chain-on : (write : Bool) (hop next : Hop) → IsStep node_kind node_holds net sound.wired write hop next → next.share.chain ≡ next.link ∷ hop.share.chain
  chain-on write hop next step =
      ap (λ (s : Share). s.chain) step.sent.cut
      ∙ ap (λ (links : List ℕ). next.link ∷ links) ((is-way node_kind node_holds net sound.wired write net.nodes (lower_node net.links hop.link)).chain hop.share)

  module _ (write turned : Bool) where
    abbrev Joined : List Hop → Type 0
    Joined hops = IsJoined node_kind node_holds net sound.wired write hops

    abbrev Turned : List Hop → Type 0
    Turned hops = IsJoined node_kind node_holds net sound.wired turned hops

    -- they part at their first link
    part-first : (one other : Hop) (ones others : List Hop) → one.link < length net.links → one.link ≡ other.link → one.share.chain ≡ other.share.chain → GoApart one.link one.share other.share → Part (one ∷ ones) (other ∷ others)
    part-first one other ones others known same chain apart = record {
      link = one.link;
      known = known;
      one = one.share;
      other = other.share;
      here = share-here one.link one ones refl;
      there = share-here one.link other others (sym same);
      chain = chain;
      go_apart = apart;
    }

    pub one-or_part : (one other : Hop) (ones others : List Hop) → one.link < length net.links → Joined (one ∷ ones) → Turned (other ∷ others) → one.link ≡ other.link → one.share.chain ≡ other.share.chain →
        EndAsOne (last_hop one ones) (last_hop other others) ⊎ Part (one ∷ ones) (other ∷ others)
    one-or_part one other [] [] known joined turned_joined same chain = inl (record { link = same; chain = chain })
    one-or_part one other [] (next ∷ others) known joined turned_joined same chain = elim (goes-alike one.link one.share other.share) [
      | inl alike ↦ absurd (none-some next.link (sym joined.ends ∙ alike ∙ ap (λ (l : ℕ). goes_on l other.share) same ∙ turned_joined.0.goes))
      | inr apart ↦ inr (part-first one other [] (next ∷ others) known same chain apart)
    ]
    one-or_part one other (next ∷ ones) [] known joined turned_joined same chain = elim (goes-alike one.link one.share other.share) [
      | inl alike ↦ absurd (none-some next.link (sym turned_joined.ends ∙ sym (alike ∙ ap (λ (l : ℕ). goes_on l other.share) same) ∙ joined.0.goes))
      | inr apart ↦ inr (part-first one other (next ∷ ones) [] known same chain apart)
    ]
    one-or_part one other (next ∷ ones) (second ∷ others) known joined turned_joined same chain = elim (goes-alike one.link one.share other.share) [
      | inr apart ↦ inr (part-first one other (next ∷ ones) (second ∷ others) known same chain apart)
      | inl alike ↦
          let to : next.link ≡ second.link = same_Some next.link second.link (sym joined.0.goes ∙ alike ∙ ap (λ (l : ℕ). goes_on l other.share) same ∙ turned_joined.0.goes) in
          let links : next.share.chain ≡ second.share.chain =
          chain-on write one next joined.0 ∙ ap (λ (l : ℕ). l ∷ one.share.chain) to ∙ ap (λ (more : List ℕ). second.link ∷ more) chain ∙ sym (chain-on turned other second turned_joined.0) in
          elim (one-or_part next second ones others joined.0.known joined.1 turned_joined.1 to links) [
            | inl end ↦ inl end
            | inr part ↦ inr (record {
              link = part.link;
              known = part.known;
              one = part.one;
              other = part.other;
              here = behind node_kind node_holds net sound.wired write one (next ∷ ones) known joined part.link part.one part.here;
              there = behind node_kind node_holds net sound.wired turned other (second ∷ others) (subst (λ (l : ℕ). l < length net.links) same known) turned_joined part.link part.other part.there;
              chain = part.chain;
              go_apart = part.go_apart;
            })
          ]
    ]
