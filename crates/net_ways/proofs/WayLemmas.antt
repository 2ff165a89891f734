-- What the links around a node carry has its way through the node, fits its link and keeps its bytes.
use Rattle.std.proofs.Common.{◌≡◌, ◌<◌, ℕ, suc, Bool, true, false, List, [], ◌∷◌, length, Option, Some, None, refl, sym, ◌∙◌, ap, subst, inl, inr, arith}
use Rattle.std.specs.Option.{option_map_or}
use Rattle.std.specs.Prelude.{◌⊎◌, All, Contains, find, slice_get}
use Rattle.std.proofs.lemmas.Bool.{cases_eq}
use Rattle.std.proofs.lemmas.List.Elements.{All-cons, All-contains, All-nil, All-weaker}
use Rattle.std.proofs.lemmas.Option.{none-some, same_Some}
use Rattle.axi_beats.specs.declared.response.Resp.{Resp}
use Rattle.axi_trail.specs.Schedule.{Schedule, Share}
use Rattle.net_model.specs.Network.{Network, lower_node, upper_node}
use Rattle.net_model.specs.Wired.{uppers_at}
use Rattle.net_runs.proofs.ContractFacts.{at-some, for-some}
use Rattle.net_ways.proofs.HopLemmas.{IsJoined, came-by, carried-on, ends-there, one-end, one-way_in, share-further, share-here}
use Rattle.net_ways.proofs.OriginLemmas.{HasItsWay, is-found, its-way, not-carried, own-found, own-lower, own-upper}
use Rattle.net_ways.specs.Sound.{IsSound}
use Rattle.net_ways.specs.SoundLaws.{KeepsBytes, WaysAreAround, WaysKeepBytes}
use Rattle.net_ways.specs.Ways.{Hop, carried, is_origin, origins_in, schedules_of, share_on, way_below}
use Rattle.node_core.specs.Acted.{Acted}
use Rattle.node_shape.specs.Kind.{Kind}
use Rattle.node_shape.specs.KindHolds.{KindHolds}
use Rattle.node_shape.specs.LinkForm.{LinkForm}
use Rattle.node_shape.specs.Way.{IsSentOn, Origin, Way, onto, start_here, with_responses}
use Rattle.node_shape.specs.WaysAround.{AreApart, GoesOnBy, IsCarried, StartsBy, StaysOff, WaysAround, WaysThrough}
use Rattle.plain_lists.proofs.PlaceLemmas.{at-contains, contains-at}

-- the responses have no say in what a link carries
responding : (form : LinkForm) (write : Bool) (link : ℕ) (share : Share) (responses : List Resp) → IsCarried form write link share → IsCarried form write link (with_responses share responses)
responding form write link share responses is = record {
  fits = record {
    width = is.fits.width;
    legal = is.fits.legal;
    small = is.fits.small;
    single = is.fits.single;
    words = is.fits.words;
    write_data = is.fits.write_data;
    strobes = is.fits.strobes;
    no_data = is.fits.no_data;
    lanes = is.fits.lanes;
  };
  page = is.page;
  in_page = is.in_page;
  before = is.before;
  chain = is.chain;
}

-- what a link carries stands among the hops
among-hops : (link : ℕ) (hops : List Hop) (share : Share) → share_on link hops ≡ Some share → Contains hops (record { link = link; share = share })
among-hops link [] share there = absurd (none-some share there)
among-hops link (hop ∷ hops) share there = elim (cases_eq hop.link link) [
  | inl same ↦
      let is : hop.share ≡ share = same_Some hop.share share (sym (share-here link hop hops same) ∙ there) in
      let whole : hop ≡ record { link = link; share = share } = ap (λ (l : ℕ). record { link = l; share = hop.share }) same ∙ ap (λ (s : Share). record { link = link; share = s }) is in
      contains-at (hop ∷ hops) 0 (record { link = link; share = share }) (ap (λ (h : Hop). Some h) whole)
  | inr other ↦
      let rest = among-hops link hops share (sym (share-further link hop hops other) ∙ there) in
      (suc rest.0, omega (arith, rest.1), rest.2)
]

module _ {S E : Type 0} (kind : Kind S E) (holds : KindHolds kind) (net : Network S) (forms : ℕ → LinkForm) (sound : IsSound kind net forms) where
  abbrev schedules : ℕ → Schedule
  schedules = schedules_of kind net forms

  abbrev Joined : Bool → List Hop → Type 0
  Joined write hops = IsJoined kind holds net sound.wired write hops

  -- there is a node below each link
  node-below : (link : ℕ) → link < length net.links → (a : Acted S) × (slice_get net.nodes (lower_node net.links link) ≡ Some a) × Contains (kind.uppers a.state) link
  node-below link known = go (slice_get net.nodes (lower_node net.links link)) (sound.wired.below link known)
    where
      go : (o : Option (Acted S)) → Contains (option_map_or (λ (n : Acted S). kind.uppers n.state) o []) link → (a : Acted S) × (o ≡ Some a) × Contains (kind.uppers a.state) link
      go None among = absurd (omega (arith, among.1))
      go (Some a) among = (a, refl, among)

  way-is : (k : ℕ) (a : Acted S) → slice_get net.nodes k ≡ Some a → (link : ℕ) → lower_node net.links link ≡ k → way_below kind net link ≡ kind.way a.state
  way-is k a at link same =
      ap (λ (j : ℕ). option_map_or (λ (n : Acted S). kind.way n.state) (slice_get net.nodes j) (start_here [])) same
      ∙ ap (λ (o : Option (Acted S)). option_map_or (λ (n : Acted S). kind.way n.state) o (start_here [])) at

  -- each hop fits its link and has the bytes of the transaction
  pub record IsRight (write : Bool) (origin : Origin) (hop : Hop) : Type 0 where
    pub is : IsCarried (forms hop.link) write hop.link hop.share
    pub keeps : KeepsBytes kind forms origin hop

  right-next : (write : Bool) (origin : Origin) → origin.write ≡ write → (hop next : Hop) → hop.link < length net.links → (way_below kind net hop.link).goes_on hop.share ≡ Some next.link →
      IsSentOn (way_below kind net hop.link) write next.link hop.share next.share → IsRight write origin hop → IsRight write origin next
  right-next write origin direction hop next known goes sent right =
      let node = node-below hop.link known in
      let k = lower_node net.links hop.link in
      let way : way_below kind net hop.link ≡ kind.way node.0.state = way-is k node.0 node.1 hop.link refl in
      let begins = at-some (λ (a : Acted S). kind.begins a.state) (slice_get net.nodes k) node.0 node.1 (sound.begins k) in
      let suits = at-some (λ (a : Acted S). kind.is_sound forms schedules a.state) (slice_get net.nodes k) node.0 node.1 (sound.nodes k) in
      let cut = holds.cuts_fit forms schedules node.0.state begins suits write hop.link next.link hop.share node.2 right.is (ap (λ (w : Way). w.goes_on hop.share) (sym way) ∙ goes) in
      let is : next.share ≡ with_responses (onto next.link ((kind.way node.0.state).cut hop.share)) next.share.responses =
      sent.cut ∙ ap (λ (w : Way). with_responses (onto next.link (w.cut hop.share)) next.share.responses) way in
      record {
        is = subst (λ (s : Share). IsCarried (forms next.link) write next.link s) (sym is) (responding (forms next.link) write next.link (onto next.link ((kind.way node.0.state).cut hop.share)) next.share.responses cut.is);
        keeps = subst (λ (s : Share). KeepsBytes kind forms origin (record { link = next.link; share = s })) (sym is) (record {
          bytes = cut.bytes ∙ right.keeps.bytes;
          lanes = cut.lanes ∙ right.keeps.lanes;
          written = λ writes. cut.written (sym direction ∙ writes) ∙ right.keeps.written writes;
        });
      }

  all-right : (write : Bool) (origin : Origin) → origin.write ≡ write → (hop : Hop) (more : List Hop) → hop.link < length net.links → Joined write (hop ∷ more) → IsRight write origin hop → All (IsRight write origin) (hop ∷ more)
  all-right write origin direction hop [] known joined right = All-cons (IsRight write origin) hop [] right (All-nil (IsRight write origin))
  all-right write origin direction hop (next ∷ more) known joined right =
      All-cons (IsRight write origin) hop (next ∷ more) right
      (all-right write origin direction next more joined.0.known joined.1 (right-next write origin direction hop next known joined.0.goes joined.0.sent right))

  module _ (write : Bool) (number : ℕ) (origin : Origin) (its : HasItsWay kind holds net forms sound write number origin) where
    abbrev hop : Hop
    hop = record { link = origin.link; share = with_responses origin.share its.responses }

    pub rights : All (IsRight write origin) (hop ∷ its.more)
    rights =
        all-right write origin its.same_direction hop its.more its.starts.known its.joined (record {
          is = responding (forms origin.link) write origin.link origin.share its.responses (subst (λ (w : Bool). IsCarried (forms origin.link) w origin.link origin.share) its.same_direction its.starts.fits.is);
          keeps = record { bytes = refl; lanes = refl; written = λ writes. refl };
        })

    right-there : (link : ℕ) (share : Share) → carried kind net write link number ≡ Some share → IsRight write origin (record { link = link; share = share })
    right-there link share there = All-contains (IsRight write origin) (hop ∷ its.more) (record { link = link; share = share }) rights (among-hops link (hop ∷ its.more) share (sym (its.is link) ∙ there))

  -- a link that carries a transaction carries its bytes
  pub keeps-there : (origin : Origin) → Contains (origins_in kind net.nodes) origin → (link : ℕ) (share : Share) → carried kind net origin.write link origin.number ≡ Some share →
      KeepsBytes kind forms origin (record { link = link; share = share })
  keeps-there origin among link share there =
      (right-there origin.write origin.number origin (its-way kind holds net forms sound origin.write origin.number origin (is-found kind holds net forms sound origin among)) link share there).keeps

  -- what a link carries is legal on it
  pub is-carried : (write : Bool) (number link : ℕ) (share : Share) → carried kind net write link number ≡ Some share → IsCarried (forms link) write link share
  is-carried write number link share there = go (find (is_origin write number) (origins_in kind net.nodes)) refl
    where
      go : (o : Option Origin) → find (is_origin write number) (origins_in kind net.nodes) ≡ o → IsCarried (forms link) write link share
      go None none = absurd (none-some share (sym (not-carried kind holds net forms sound write number link none) ∙ there))
      go (Some origin) found = (right-there write number origin (its-way kind holds net forms sound write number origin found) link share there).is

  module _ (k : ℕ) (a : Acted S) (at : slice_get net.nodes k ≡ Some a) (write : Bool) where
    abbrev way : Way
    way = kind.way a.state

    abbrev uppers : List ℕ
    uppers = kind.uppers a.state

    abbrev lowers : List ℕ
    lowers = kind.lowers a.state

    abbrev carries : ℕ → ℕ → Option Share
    carries link number = carried kind net write link number

    pub own-apart : AreApart uppers
    own-apart = subst (λ (o : Option (Acted S)). AreApart (option_map_or (λ (n : Acted S). kind.uppers n.state) o [])) at (sound.wired.uppers_apart k)

    by-one_link : (number i j one other : ℕ) (x y : Share) → slice_get uppers i ≡ Some one → slice_get uppers j ≡ Some other → carries one number ≡ Some x → carries other number ≡ Some y → i ≡ j
    by-one_link number i j one other x y at_i at_j there_one there_other = go (find (is_origin write number) (origins_in kind net.nodes)) refl
      where
        go : (o : Option Origin) → find (is_origin write number) (origins_in kind net.nodes) ≡ o → i ≡ j
        go None none = absurd (none-some x (sym (not-carried kind holds net forms sound write number one none) ∙ there_one))
        go (Some origin) found =
            let its = its-way kind holds net forms sound write number origin found in
            let first = own-upper kind holds net forms sound k a at one (contains-at uppers i one at_i) in
            let second = own-upper kind holds net forms sound k a at other (contains-at uppers j other at_j) in
            let same : one ≡ other =
            one-way_in kind holds net sound.wired write (record { link = origin.link; share = with_responses origin.share its.responses }) its.more its.starts.known its.joined one other x y
            (sym (its.is one) ∙ there_one) (sym (its.is other) ∙ there_other) (first.1 ∙ sym second.1) in
            own-apart i j other (at_i ∙ ap (λ (l : ℕ). Some l) same) at_j

    module _ (lower number : ℕ) (among : Contains lowers lower) where
      abbrev Cases : Type 0
      Cases = StartsBy way uppers write carries lower number ⊎ (GoesOnBy way uppers write carries lower number ⊎ StaysOff way uppers write carries lower number)

      no-way : find (is_origin write number) (origins_in kind net.nodes) ≡ None → Cases
      no-way none = inr (inr (record {
        below = not-carried kind holds net forms sound write number lower none;
        no_origin = λ origin has same_number same_write same_link. absurd (none-some origin (sym none ∙ own-found kind holds net forms sound k a at origin has write number same_number same_write));
        none_goes_on = λ input link share at_input there goes. absurd (none-some share (sym (not-carried kind holds net forms sound write number link none) ∙ there));
      }))

      module _ (origin : Origin) (found : find (is_origin write number) (origins_in kind net.nodes) ≡ Some origin) where
        abbrev its : HasItsWay kind holds net forms sound write number origin
        its = its-way kind holds net forms sound write number origin found

        abbrev start : Hop
        start = record { link = origin.link; share = with_responses origin.share its.responses }

        further-on : (link : ℕ) (share : Share) → Contains uppers link → carries link number ≡ Some share → way.goes_on share ≡ Some lower → (below : Share) × (carries lower number ≡ Some below) × IsSentOn way write lower share below
        further-on link share input there goes =
            let is : way_below kind net link ≡ way = way-is k a at link (own-upper kind holds net forms sound k a at link input).1 in
            let next = carried-on kind holds net sound.wired write start its.more its.starts.known its.joined link lower share (sym (its.is link) ∙ there) (ap (λ (w : Way). w.goes_on share) is ∙ goes) in
            (next.0, its.is lower ∙ next.1, subst (λ (w : Way). IsSentOn w write lower share next.0) is next.2)

        starts-here : origin.link ≡ lower → StartsBy way uppers write carries lower number
        starts-here same =
            let node : its.starts.node ≡ k = sym its.starts.upper ∙ ap (λ (l : ℕ). upper_node net.links l) same ∙ (own-lower kind holds net forms sound k a at lower among).1 in
            let acted : its.starts.acted ≡ a = same_Some its.starts.acted a (sym its.starts.at ∙ ap (λ (j : ℕ). slice_get net.nodes j) node ∙ at) in
            record {
              origin = origin;
              among = subst (λ (n : Acted S). Contains (kind.way n.state).origins origin) acted its.starts.among;
              same_number = its.same_number;
              same_direction = its.same_direction;
              same_link = same;
              responses = its.responses;
              below = its.is lower ∙ share-here lower start its.more same;
            }

        goes-through : (above : ℕ) (share : Share) → share_on above (start ∷ its.more) ≡ Some share → (way_below kind net above).goes_on share ≡ Some lower → above < length net.links → upper_node net.links lower ≡ lower_node net.links above →
            GoesOnBy way uppers write carries lower number
        goes-through above share there goes known joint =
            let here : lower_node net.links above ≡ k = sym joint ∙ (own-lower kind holds net forms sound k a at lower among).1 in
            let is : way_below kind net above ≡ way = way-is k a at above here in
            let member : Contains uppers above =
            subst (λ (o : Option (Acted S)). Contains (option_map_or (λ (n : Acted S). kind.uppers n.state) o []) above) at
            (subst (λ (j : ℕ). Contains (uppers_at kind net.nodes j) above) here (sound.wired.below above known)) in
            let input = at-contains uppers above member in
            let own : way.goes_on share ≡ Some lower = ap (λ (w : Way). w.goes_on share) (sym is) ∙ goes in
            let comes : carries above number ≡ Some share = its.is above ∙ there in
            let next = further-on above share member comes own in
            record {
              input = input.0;
              link = above;
              share = share;
              at_input = input.1;
              above = comes;
              goes_on = own;
              sent_share = next.0;
              below = next.1;
              sent = next.2;
            }

        off-here : carries lower number ≡ None → StaysOff way uppers write carries lower number
        off-here none = record {
          below = none;
          no_origin = λ other has same_number same_write same_link.
              let same : origin ≡ other = same_Some origin other (sym found ∙ own-found kind holds net forms sound k a at other has write number same_number same_write) in
              absurd (none-some start.share (sym none ∙ its.is lower ∙ share-here lower start its.more (ap (λ (o : Origin). o.link) same ∙ same_link)));
          none_goes_on = λ input link share at_input there goes.
              let next = further-on link share (contains-at uppers input link at_input) there goes in
              absurd (none-some next.0 (sym none ∙ next.1));
        }

        its-cases : Cases
        its-cases = go (carries lower number) refl
          where
            go : (o : Option Share) → carries lower number ≡ o → Cases
            go None none = inr (inr (off-here none))
            go (Some share) there = elim (came-by kind holds net sound.wired write start its.more its.starts.known its.joined lower share (sym (its.is lower) ∙ there)) [
              | inl first ↦ inl (starts-here first)
              | inr came ↦ inr (inl (goes-through came.above came.share came.there came.goes came.known came.joint))
            ]

      out-cases : Cases
      out-cases = go (find (is_origin write number) (origins_in kind net.nodes)) refl
        where
          go : (o : Option Origin) → find (is_origin write number) (origins_in kind net.nodes) ≡ o → Cases
          go None none = no-way none
          go (Some origin) found = its-cases origin found

    ends-here : (link number : ℕ) (share : Share) → Contains uppers link → carries link number ≡ Some share → way.goes_on share ≡ None → share.responses ≡ way.ends write share
    ends-here link number share among there ends = go (find (is_origin write number) (origins_in kind net.nodes)) refl
      where
        go : (o : Option Origin) → find (is_origin write number) (origins_in kind net.nodes) ≡ o → share.responses ≡ way.ends write share
        go None none = absurd (none-some share (sym (not-carried kind holds net forms sound write number link none) ∙ there))
        go (Some origin) found =
            let its = its-way kind holds net forms sound write number origin found in
            let is : way_below kind net link ≡ way = way-is k a at link (own-upper kind holds net forms sound k a at link among).1 in
            ends-there kind holds net sound.wired write (record { link = origin.link; share = with_responses origin.share its.responses }) its.more its.joined link share (sym (its.is link) ∙ there)
            (ap (λ (w : Way). w.goes_on share) is ∙ ends)
            ∙ ap (λ (w : Way). w.ends write share) is

    pub ways-through : WaysThrough way uppers lowers forms write carries
    ways-through = record {
      one_way_in = by-one_link;
      out = λ lower number among. out-cases lower number among;
      ends = ends-here;
      above = λ link number share among there. is-carried write number link share there;
      below = λ link number share among there. is-carried write number link share there;
    }

  pub around-at : (k : ℕ) (a : Acted S) → slice_get net.nodes k ≡ Some a → WaysAround (kind.way a.state) (kind.uppers a.state) (kind.lowers a.state) forms schedules
  around-at k a at = record {
    uppers_apart = own-apart k a at true;
    lowers_apart = subst (λ (o : Option (Acted S)). AreApart (option_map_or (λ (n : Acted S). kind.lowers n.state) o [])) at (sound.wired.lowers_apart k);
    widths_above = λ i d within. refl;
    widths_below = λ i d within. refl;
    carried_writes = λ link number. carried kind net true link number;
    carried_reads = λ link number. carried kind net false link number;
    writes_are = λ link number. refl;
    reads_are = λ link number. refl;
    writes = ways-through k a at true;
    reads = ways-through k a at false;
  }

  -- a transaction of a read ends at one node
  pub ends-once : (write : Bool) (number one other : ℕ) (x y : Share) → carried kind net write one number ≡ Some x → carried kind net write other number ≡ Some y →
      (way_below kind net one).goes_on x ≡ None → (way_below kind net other).goes_on y ≡ None → one ≡ other
  ends-once write number one other x y there_one there_other ends_one ends_other = go (find (is_origin write number) (origins_in kind net.nodes)) refl
    where
      go : (o : Option Origin) → find (is_origin write number) (origins_in kind net.nodes) ≡ o → one ≡ other
      go None none = absurd (none-some x (sym (not-carried kind holds net forms sound write number one none) ∙ there_one))
      go (Some origin) found =
          let its = its-way kind holds net forms sound write number origin found in
          one-end kind holds net sound.wired write (record { link = origin.link; share = with_responses origin.share its.responses }) its.more its.joined one other x y
          (sym (its.is one) ∙ there_one) (sym (its.is other) ∙ there_other) ends_one ends_other

pub ways-are_around : {S E : Type 0} (kind : Kind S E) → KindHolds kind → WaysAreAround kind
ways-are_around kind holds net forms sound node =
    for-some (λ (a : Acted _). WaysAround (kind.way a.state) (kind.uppers a.state) (kind.lowers a.state) forms (schedules_of kind net forms)) (slice_get net.nodes node)
    (λ a at. around-at kind holds net forms sound node a at)

pub ways-keep_bytes : {S E : Type 0} (kind : Kind S E) → KindHolds kind → WaysKeepBytes kind
ways-keep_bytes kind holds net forms sound origin among =
    let its = its-way kind holds net forms sound origin.write origin.number origin (is-found kind holds net forms sound origin among) in
    subst (λ (hops : List Hop). All (KeepsBytes kind forms origin) hops) (sym its.hops_are)
    (All-weaker (IsRight kind holds net forms sound origin.write origin) (KeepsBytes kind forms origin) (λ hop right. right.keeps)
    (record { link = origin.link; share = with_responses origin.share its.responses } ∷ its.more) (rights kind holds net forms sound origin.write origin.number origin its))
