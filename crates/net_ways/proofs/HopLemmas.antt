-- A way, hop by hop: what each hop has to do with the next one, and what each of its links carries.
use Rattle.std.proofs.Common.{◌≡◌, ◌<◌, ◌≤◌, ◌+◌, ℕ, zero, suc, Bool, cond, List, [], ◌∷◌, length, Option, Some, None, refl, sym, ◌∙◌, ap, subst, inl, inr, arith}
use Rattle.std.specs.Option.{option_map_or}
use Rattle.std.specs.Prelude.{◌⊎◌, Contains, slice_get}
use Rattle.std.proofs.lemmas.Bool.{cases_eq, eq-eqb, ne_eqb}
use Rattle.std.proofs.lemmas.List.Elements.{All-contains}
use Rattle.std.proofs.lemmas.Option.{none-some, same_Some}
use Rattle.axi_beats.specs.declared.response.Resp.{Resp}
use Rattle.axi_trail.specs.Schedule.{Share}
use Rattle.net_model.specs.Network.{Network, lower_node, upper_node}
use Rattle.net_model.specs.Wired.{IsWired, lowers_at}
use Rattle.net_ways.specs.Ways.{Hop, hop_at_end, hop_before, share_on, way_at, way_below, way_from}
use Rattle.node_core.specs.Acted.{Acted}
use Rattle.node_shape.specs.Kind.{Kind}
use Rattle.node_shape.specs.KindHolds.{KindHolds}
use Rattle.node_shape.specs.Way.{IsSentOn, IsWay, Way, onto, start_here, with_responses}

pub share-here : (link : ℕ) (hop : Hop) (hops : List Hop) → hop.link ≡ link → share_on link (hop ∷ hops) ≡ Some hop.share
share-here link hop hops same = ap (λ (b : Bool). cond b (Some hop.share) (share_on link hops)) (eq-eqb hop.link link same)

pub share-further : (link : ℕ) (hop : Hop) (hops : List Hop) → ¬ (hop.link ≡ link) → share_on link (hop ∷ hops) ≡ share_on link hops
share-further link hop hops other = ap (λ (b : Bool). cond b (Some hop.share) (share_on link hops)) (ne_eqb hop.link link other)

-- a share, and what of it goes on with the responses that come back
pub sent-on : (way : Way) → IsWay way → (write : Bool) (next : ℕ) (share : Share) (back : List Resp) →
    IsSentOn way write next (with_responses share (way.merged write share back)) (with_responses (onto next (way.cut share)) back)
sent-on way is write next share back = record {
  cut = ap (λ (s : Share). with_responses (onto next s) back) (sym (is.cut share (way.merged write share back)));
  merged = sym (is.merged write share (way.merged write share back) back);
}

module _ {S E : Type 0} (kind : Kind S E) (holds : KindHolds kind) (net : Network S) (wired : IsWired kind net) (write : Bool) where
  abbrev lower : ℕ → ℕ
  lower link = lower_node net.links link

  abbrev upper : ℕ → ℕ
  upper link = upper_node net.links link

  abbrev below : ℕ → Way
  below link = way_below kind net link

  abbrev from : ℕ → ℕ → Share → List Hop
  from left link share = way_from kind net write left link share

  pub is-way : (nodes : List (Acted S)) (number : ℕ) → IsWay (way_at kind nodes number)
  is-way nodes number = go (slice_get nodes number)
    where
      go : (o : Option (Acted S)) → IsWay (option_map_or (λ (node : Acted S). kind.way node.state) o (start_here []))
      go None = record { goes_on = λ share responses. refl; cut = λ share responses. refl; chain = λ share. refl; merged = λ write share responses below. refl; ends = λ write share responses. refl }
      go (Some node) = holds.has_way node.state

  -- what goes on goes on by a link below
  pub goes-below : (link next : ℕ) (share : Share) → (below link).goes_on share ≡ Some next → (next < length net.links) × (upper next ≡ lower link)
  goes-below link next share goes =
      All-contains (λ l. (l < length net.links) × (upper l ≡ lower link)) (lowers_at kind net.nodes (lower link)) next (wired.lowers (lower link)) (go (slice_get net.nodes (lower link)) goes)
    where
      go : (o : Option (Acted S)) → (option_map_or (λ (node : Acted S). kind.way node.state) o (start_here [])).goes_on share ≡ Some next →
          Contains (option_map_or (λ (node : Acted S). kind.lowers node.state) o []) next
      go None goes = absurd (none-some next goes)
      go (Some node) goes = holds.goes_below node.state share next goes

  from-ends : (left link : ℕ) (share : Share) → (below link).goes_on share ≡ None → from (suc left) link share ≡ hop_at_end (below link) write link share ∷ []
  unfolding way_from
  from-ends left link share none =
      ap (λ (o : Option ℕ). option_map_or
      (λ next. hop_before (below link) write link share (way_from kind net write left next (onto next ((below link).cut share))) ∷ way_from kind net write left next (onto next ((below link).cut share)))
      o (hop_at_end (below link) write link share ∷ [])) none

  from-next : (left link next : ℕ) (share : Share) → (below link).goes_on share ≡ Some next →
      from (suc left) link share ≡ hop_before (below link) write link share (from left next (onto next ((below link).cut share))) ∷ from left next (onto next ((below link).cut share))
  unfolding way_from
  from-next left link next share some =
      ap (λ (o : Option ℕ). option_map_or
      (λ next. hop_before (below link) write link share (way_from kind net write left next (onto next ((below link).cut share))) ∷ way_from kind net write left next (onto next ((below link).cut share)))
      o (hop_at_end (below link) write link share ∷ [])) some

  -- a hop whose node ends the transaction
  pub record IsEnd (hop : Hop) : Type 0 where
    pub ends : (below hop.link).goes_on hop.share ≡ None
    pub responses : hop.share.responses ≡ (below hop.link).ends write hop.share

  -- a hop whose node sends it on
  pub record IsStep (hop next : Hop) : Type 0 where
    pub goes : (below hop.link).goes_on hop.share ≡ Some next.link
    pub sent : IsSentOn (below hop.link) write next.link hop.share next.share
    pub known : next.link < length net.links
    pub joint : upper next.link ≡ lower hop.link

  abbrev pub IsJoined : List Hop → Type 0
  IsJoined [] = ⊥
  IsJoined (hop ∷ []) = IsEnd hop
  IsJoined (hop ∷ next ∷ more) = IsStep hop next × IsJoined (next ∷ more)

  -- a way is joined, and begins with its link
  pub record IsWayFrom (link : ℕ) (share : Share) (hops : List Hop) : Type 0 where
    pub responses : List Resp
    pub more : List Hop
    pub begins : hops ≡ record { link = link; share = with_responses share responses } ∷ more
    pub joined : IsJoined hops

  pub is-way_from : (left link : ℕ) (share : Share) → link < length net.links → length net.nodes < left + wired.rank (lower link) → IsWayFrom link share (from left link share)
  is-way_from zero link share known enough = absurd (omega (arith, enough, wired.ranked (lower link)))
  is-way_from (suc left) link share known enough =
      let way = below link in
      let is = is-way net.nodes (lower link) in
      let go : (o : Option ℕ) → way.goes_on share ≡ o → IsWayFrom link share (from (suc left) link share) =
      λ o. elim o as (λ o. way.goes_on share ≡ o → IsWayFrom link share (from (suc left) link share)) [
        | None ↦ λ none.
            let end = hop_at_end way write link share in
            subst (IsWayFrom link share) (sym (from-ends left link share none)) (record {
              responses = way.ends write share;
              more = [];
              begins = refl;
              joined = record { ends = is.goes_on share (way.ends write share) ∙ none; responses = sym (is.ends write share (way.ends write share)) };
            })
        | Some next ↦ λ goes. sent-further next goes (is-way_from left next (onto next (way.cut share)))
      ] in go (way.goes_on share) refl
    where
      sent-further : (next : ℕ) → (below link).goes_on share ≡ Some next →
          (next < length net.links → length net.nodes < left + wired.rank (lower next) → IsWayFrom next (onto next ((below link).cut share)) (from left next (onto next ((below link).cut share)))) →
          IsWayFrom link share (from (suc left) link share)
      sent-further next goes again =
          let way = below link in
          let is = is-way net.nodes (lower link) in
          let own = goes-below link next share goes in
          let falls : wired.rank (lower link) < wired.rank (lower next) = subst (λ (k : ℕ). wired.rank k < wired.rank (lower next)) own.1 (wired.falls next own.0) in
          let rest = again own.0 (omega (arith, enough, falls)) in
          let second : Hop = record { link = next; share = with_responses (onto next (way.cut share)) rest.responses } in
          let hop : Hop = record { link = link; share = with_responses share (way.merged write share rest.responses) } in
          let whole : from (suc left) link share ≡ hop ∷ second ∷ rest.more =
          from-next left link next share goes ∙ ap (λ (hops : List Hop). hop_before way write link share hops ∷ hops) rest.begins in
          subst (IsWayFrom link share) (sym whole) (record {
            responses = way.merged write share rest.responses;
            more = second ∷ rest.more;
            begins = refl;
            joined = (
              record {
                goes = is.goes_on share (way.merged write share rest.responses) ∙ goes;
                sent = sent-on way is write next share rest.responses;
                known = own.0;
                joint = own.1;
              },
              subst IsJoined rest.begins rest.joined,
            );
          })

  -- the links of a way fall from node to node: one further on lies below the first one's lower node
  pub lies-below : (hop : Hop) (hops : List Hop) → IsJoined (hop ∷ hops) → (link : ℕ) (share : Share) → share_on link hops ≡ Some share →
      (wired.rank (lower hop.link) ≤ wired.rank (upper link)) × (link < length net.links)
  lies-below hop [] joined link share there = absurd (none-some share there)
  lies-below hop (next ∷ more) joined link share there = elim (cases_eq next.link link) [
    | inl same ↦ (
      subst (λ (l : ℕ). wired.rank (lower hop.link) ≤ wired.rank (upper l)) same (subst (λ (k : ℕ). wired.rank (lower hop.link) ≤ wired.rank k) (sym joined.0.joint) (omega arith)),
      subst (λ (l : ℕ). l < length net.links) same joined.0.known,
    )
    | inr other ↦
        let rest = lies-below next more joined.1 link share (sym (share-further link next more other) ∙ there) in
        let falls = wired.falls next.link joined.0.known in
        (omega (arith, rest.0, falls, ap wired.rank joined.0.joint), rest.1)
  ]

  -- the links behind the first one are others
  pub is-other : (hop : Hop) (hops : List Hop) → hop.link < length net.links → IsJoined (hop ∷ hops) → (link : ℕ) (share : Share) → share_on link hops ≡ Some share → ¬ (hop.link ≡ link)
  is-other hop hops known joined link share there same =
      let falls = wired.falls hop.link known in
      let lies = (lies-below hop hops joined link share there).0 in
      let back : wired.rank (lower hop.link) ≤ wired.rank (upper hop.link) = subst (λ (l : ℕ). wired.rank (lower hop.link) ≤ wired.rank (upper l)) (sym same) lies in
      absurd (omega (arith, falls, back))

  pub behind : (hop : Hop) (hops : List Hop) → hop.link < length net.links → IsJoined (hop ∷ hops) → (link : ℕ) (share : Share) → share_on link hops ≡ Some share → share_on link (hop ∷ hops) ≡ Some share
  behind hop hops known joined link share there = share-further link hop hops (is-other hop hops known joined link share there) ∙ there

  -- where a node sends on what its link carries, the next link carries it
  pub carried-on : (hop : Hop) (hops : List Hop) → hop.link < length net.links → IsJoined (hop ∷ hops) → (link next : ℕ) (share : Share) → share_on link (hop ∷ hops) ≡ Some share →
      (below link).goes_on share ≡ Some next → (lower : Share) × (share_on next (hop ∷ hops) ≡ Some lower) × IsSentOn (below link) write next share lower
  carried-on hop [] known joined link next share there goes = elim (cases_eq hop.link link) [
    | inl same ↦
        let is : hop.share ≡ share = same_Some hop.share share (sym (share-here link hop [] same) ∙ there) in
        absurd (none-some next (sym joined.ends ∙ ap (λ (l : ℕ). (below l).goes_on hop.share) same ∙ ap (below link).goes_on is ∙ goes))
    | inr other ↦ absurd (none-some share (sym (share-further link hop [] other) ∙ there))
  ]
  carried-on hop (second ∷ more) known joined link next share there goes = elim (cases_eq hop.link link) [
    | inl same ↦
        let is : hop.share ≡ share = same_Some hop.share share (sym (share-here link hop (second ∷ more) same) ∙ there) in
        let to : second.link ≡ next =
        same_Some second.link next (sym joined.0.goes ∙ ap (λ (l : ℕ). (below l).goes_on hop.share) same ∙ ap (below link).goes_on is ∙ goes) in (
          second.share,
          subst (λ (l : ℕ). share_on l (hop ∷ second ∷ more) ≡ Some second.share) to (behind hop (second ∷ more) known joined second.link second.share (share-here second.link second more refl)),
          subst (λ (s : Share). IsSentOn (below link) write next s second.share) is
              (subst (λ (l : ℕ). IsSentOn (below l) write next hop.share second.share) same
              (subst (λ (l : ℕ). IsSentOn (below hop.link) write l hop.share second.share) to joined.0.sent)),
        )
    | inr other ↦
        let rest = carried-on second more joined.0.known joined.1 link next share (sym (share-further link hop (second ∷ more) other) ∙ there) goes in
        (rest.0, behind hop (second ∷ more) known joined next rest.0 rest.1, rest.2)
  ]

  -- what a link carries came by the link before, or it is the first one
  pub record CameBy (hops : List Hop) (link : ℕ) : Type 0 where
    pub above : ℕ
    pub share : Share
    pub there : share_on above hops ≡ Some share
    pub goes : (below above).goes_on share ≡ Some link
    pub known : above < length net.links
    pub joint : upper link ≡ lower above

  pub came-by : (hop : Hop) (hops : List Hop) → hop.link < length net.links → IsJoined (hop ∷ hops) → (link : ℕ) (share : Share) → share_on link (hop ∷ hops) ≡ Some share →
      (hop.link ≡ link) ⊎ CameBy (hop ∷ hops) link
  came-by hop [] known joined link share there = elim (cases_eq hop.link link) [
    | inl same ↦ inl same
    | inr other ↦ absurd (none-some share (sym (share-further link hop [] other) ∙ there))
  ]
  came-by hop (next ∷ more) known joined link share there = elim (cases_eq hop.link link) [
    | inl same ↦ inl same
    | inr other ↦ elim (came-by next more joined.0.known joined.1 link share (sym (share-further link hop (next ∷ more) other) ∙ there)) [
      | inl same ↦ inr (record {
        above = hop.link;
        share = hop.share;
        there = share-here hop.link hop (next ∷ more) refl;
        goes = joined.0.goes ∙ ap (λ (l : ℕ). Some l) same;
        known = known;
        joint = ap upper (sym same) ∙ joined.0.joint;
      })
      | inr came ↦ inr (record {
        above = came.above;
        share = came.share;
        there = behind hop (next ∷ more) known joined came.above came.share came.there;
        goes = came.goes;
        known = came.known;
        joint = came.joint;
      })
    ]
  ]

  -- where a node ends it, the responses are the node's
  pub ends-there : (hop : Hop) (hops : List Hop) → IsJoined (hop ∷ hops) → (link : ℕ) (share : Share) → share_on link (hop ∷ hops) ≡ Some share → (below link).goes_on share ≡ None →
      share.responses ≡ (below link).ends write share
  ends-there hop [] joined link share there ends = elim (cases_eq hop.link link) [
    | inl same ↦
        let is : hop.share ≡ share = same_Some hop.share share (sym (share-here link hop [] same) ∙ there) in
        subst (λ (l : ℕ). share.responses ≡ (below l).ends write share) same (subst (λ (s : Share). s.responses ≡ (below hop.link).ends write s) is joined.responses)
    | inr other ↦ absurd (none-some share (sym (share-further link hop [] other) ∙ there))
  ]
  ends-there hop (next ∷ more) joined link share there ends = elim (cases_eq hop.link link) [
    | inl same ↦
        let is : hop.share ≡ share = same_Some hop.share share (sym (share-here link hop (next ∷ more) same) ∙ there) in
        absurd (none-some next.link (sym ends ∙ sym (ap (λ (l : ℕ). (below l).goes_on hop.share) same ∙ ap (below link).goes_on is) ∙ joined.0.goes))
    | inr other ↦ ends-there next more joined.1 link share (sym (share-further link hop (next ∷ more) other) ∙ there) ends
  ]

  -- a way comes to a node by one link
  pub one-way_in : (hop : Hop) (hops : List Hop) → hop.link < length net.links → IsJoined (hop ∷ hops) → (one other : ℕ) (x y : Share) →
      share_on one (hop ∷ hops) ≡ Some x → share_on other (hop ∷ hops) ≡ Some y → lower one ≡ lower other → one ≡ other
  one-way_in hop [] known joined one other x y there_one there_other same = elim (cases_eq hop.link one) [
    | inl first ↦ elim (cases_eq hop.link other) [
      | inl second ↦ sym first ∙ second
      | inr not_second ↦ absurd (none-some y (sym (share-further other hop [] not_second) ∙ there_other))
    ]
    | inr not_first ↦ absurd (none-some x (sym (share-further one hop [] not_first) ∙ there_one))
  ]
  one-way_in hop (next ∷ more) known joined one other x y there_one there_other same = elim (cases_eq hop.link one) [
    | inl first ↦ elim (cases_eq hop.link other) [
      | inl second ↦ sym first ∙ second
      | inr not_second ↦ absurd (far one other first y (sym (share-further other hop (next ∷ more) not_second) ∙ there_other) same)
    ]
    | inr not_first ↦ elim (cases_eq hop.link other) [
      | inl second ↦ absurd (far other one second x (sym (share-further one hop (next ∷ more) not_first) ∙ there_one) (sym same))
      | inr not_second ↦
          one-way_in next more joined.0.known joined.1 one other x y (sym (share-further one hop (next ∷ more) not_first) ∙ there_one) (sym (share-further other hop (next ∷ more) not_second) ∙ there_other) same
    ]
  ]
    where
      far : (here there : ℕ) → hop.link ≡ here → (z : Share) → share_on there (next ∷ more) ≡ Some z → lower here ≡ lower there → ⊥
      far here there first z at same =
          let lies = lies-below hop (next ∷ more) joined there z at in
          let falls = wired.falls there lies.1 in
          absurd (omega (arith, lies.0, falls, ap wired.rank same, ap (λ (l : ℕ). wired.rank (lower l)) first))

  -- a way has one end
  pub one-end : (hop : Hop) (hops : List Hop) → IsJoined (hop ∷ hops) → (one other : ℕ) (x y : Share) → share_on one (hop ∷ hops) ≡ Some x → share_on other (hop ∷ hops) ≡ Some y →
      (below one).goes_on x ≡ None → (below other).goes_on y ≡ None → one ≡ other
  one-end hop [] joined one other x y there_one there_other ends_one ends_other = elim (cases_eq hop.link one) [
    | inl first ↦ elim (cases_eq hop.link other) [
      | inl second ↦ sym first ∙ second
      | inr not_second ↦ absurd (none-some y (sym (share-further other hop [] not_second) ∙ there_other))
    ]
    | inr not_first ↦ absurd (none-some x (sym (share-further one hop [] not_first) ∙ there_one))
  ]
  one-end hop (next ∷ more) joined one other x y there_one there_other ends_one ends_other =
      one-end next more joined.1 one other x y (further one x there_one ends_one) (further other y there_other ends_other) ends_one ends_other
    where
      further : (link : ℕ) (z : Share) → share_on link (hop ∷ next ∷ more) ≡ Some z → (below link).goes_on z ≡ None → share_on link (next ∷ more) ≡ Some z
      further link z there ends = elim (cases_eq hop.link link) [
        | inl same ↦
            let is : hop.share ≡ z = same_Some hop.share z (sym (share-here link hop (next ∷ more) same) ∙ there) in
            absurd (none-some next.link (sym ends ∙ sym (ap (λ (l : ℕ). (below l).goes_on hop.share) same ∙ ap (below link).goes_on is) ∙ joined.0.goes))
        | inr not_first ↦ sym (share-further link hop (next ∷ more) not_first) ∙ there
      ]
