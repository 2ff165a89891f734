-- What a link carries of a transaction fits a trace line on each link of its way, where it does on the first one.
use Rattle.std.proofs.Common.{◌≡◌, ◌<◌, [], ◌∷◌, ℕ, zero, suc, Bool, true, false, List, Option, Some, None, length, map, refl, sym, ap, ◌∙◌, subst, inl, inr, arith}
use Rattle.std.specs.Prelude.{All, Contains, flat_map, slice_get}
use Rattle.std.specs.List.{range_with_len}
use Rattle.std.specs.Option.{option_map_or}
use Rattle.std.proofs.lemmas.Bool.{cases_eq, false≢true}
use Rattle.std.proofs.lemmas.List.Elements.{All-append, All-cons, All-contains, All-head, All-nil, All-tail}
use Rattle.std.proofs.lemmas.Option.{none-some, same_Some}
use Rattle.axi_beats.specs.Bus.{IsBusWidth}
use Rattle.axi_beats.specs.declared.beat.Addr.{Addr}
use Rattle.axi_beats.specs.declared.beat.WBeat.{WBeat}
use Rattle.axi_link.specs.declared.out.Out.{Out}
use Rattle.axi_trail.specs.Schedule.{Share}
use Rattle.burst_cuts.specs.Parts.{as_last, data_of_part, part_of, parts_of}
use Rattle.lite_node.specs.LiteTable.{word_request}
use Rattle.memory_node.proofs.LaneLemmas.{lanes-within}
use Rattle.net_history.proofs.RunStates.{acted_as}
use Rattle.net_kinds.specs.NodeHolds.{node_holds}
use Rattle.net_kinds.specs.NodeKind.{KindName, NodeState, StateOf, node_kind}
use Rattle.net_kinds.specs.NodeKind.KindName.{ADemux, ALite, ALiteMemory, AManager, AMemory, AMux, ARemap, ASlice, ASplit, AnError, AnUp}
use Rattle.net_model.specs.Network.{Network, lower_node}
use Rattle.net_ranges.proofs.UpRanges.{data-widened}
use Rattle.net_runs.proofs.ContractFacts.{at-some}
use Rattle.net_ways.proofs.HopLemmas.{IsJoined, share-further, share-here}
use Rattle.net_ways.proofs.OriginLemmas.{HasItsWay, is-found, its-way}
use Rattle.net_ways.proofs.WayLemmas.{IsRight, rights}
use Rattle.net_ways.specs.Sound.{IsSound}
use Rattle.net_ways.specs.Ways.{Hop, carried, origins_in, schedules_of, share_on, way_below}
use Rattle.node_core.specs.Acted.{Acted}
use Rattle.node_shape.specs.LinkForm.{FitsLink, IsAlike, LinkForm}
use Rattle.node_shape.specs.Way.{Origin, start_here, with_responses}
use Rattle.trace_text.specs.Ranges.{IsTraceTag, IsTraceWriteData}
use Rattle.up_node.specs.UpCut.{data_widened}

pub one-of : (x y : ℕ) → Contains (y ∷ []) x → x ≡ y
one-of x y (zero, within, same) = sym same
one-of x y (suc k, within, same) = absurd (omega (arith, within))

-- the kinds whose links have buses of one width
abbrev keeps_bus : KindName → Bool
keeps_bus AnUp = false
keeps_bus other = true

-- ---- what cuts make of tags and data

part-tagged : (part : Addr) (places : List ℕ) → IsTraceTag part.tag → All (λ (a : Addr). IsTraceTag a.tag) (map (part_of part) places)
part-tagged part [] tag = All-nil (λ (a : Addr). IsTraceTag a.tag)
part-tagged part (n ∷ places) tag = All-cons (λ (a : Addr). IsTraceTag a.tag) (part_of part n) (map (part_of part) places) tag (part-tagged part places tag)

parts-tagged : (parts : List Addr) → All (λ (a : Addr). IsTraceTag a.tag) parts → All (λ (a : Addr). IsTraceTag a.tag) (flat_map parts_of parts)
parts-tagged [] all = All-nil (λ (a : Addr). IsTraceTag a.tag)
parts-tagged (part ∷ parts) all =
    All-append (λ (a : Addr). IsTraceTag a.tag) (parts_of part) (flat_map parts_of parts)
    (part-tagged part (range_with_len 0 (suc part.len)) (All-head (λ (a : Addr). IsTraceTag a.tag) part parts all))
    (parts-tagged parts (All-tail (λ (a : Addr). IsTraceTag a.tag) part parts all))

lasts-fit : (bus : ℕ) (beats : List WBeat) → All (IsTraceWriteData bus) beats → All (IsTraceWriteData bus) (flat_map (λ (one : List WBeat). one) (map data_of_part beats))
lasts-fit bus [] all = All-nil (IsTraceWriteData bus)
lasts-fit bus (w ∷ beats) all =
    let first = All-head (IsTraceWriteData bus) w beats all in
    All-cons (IsTraceWriteData bus) (as_last w) (flat_map (λ (one : List WBeat). one) (map data_of_part beats)) (record { lanes = first.lanes; strobe = first.strobe; tag = first.tag })
    (lasts-fit bus beats (All-tail (IsTraceWriteData bus) w beats all))

-- the tag of a word has lanes of its bus
word-tagged : (bus : ℕ) (part : Addr) → IsBusWidth bus → IsTraceTag part.tag → IsTraceTag (word_request bus part).tag
word-tagged bus part width tag =
    let within = lanes-within part 0 bus width in
    record { txn = tag.txn; low = omega (arith, within.1, within.2); high = omega (arith, within.1, within.2) }

words-tagged : (bus : ℕ) → IsBusWidth bus → (parts : List Addr) → All (λ (a : Addr). IsTraceTag a.tag) parts → All (λ (a : Addr). IsTraceTag a.tag) (map (word_request bus) parts)
words-tagged bus width [] all = All-nil (λ (a : Addr). IsTraceTag a.tag)
words-tagged bus width (part ∷ parts) all =
    All-cons (λ (a : Addr). IsTraceTag a.tag) (word_request bus part) (map (word_request bus) parts) (word-tagged bus part width (All-head (λ (a : Addr). IsTraceTag a.tag) part parts all))
    (words-tagged bus width parts (All-tail (λ (a : Addr). IsTraceTag a.tag) part parts all))

module _ (net : Network NodeState) (forms : ℕ → LinkForm) (sound : IsSound node_kind net forms) where
  abbrev bus_of : ℕ → ℕ
  bus_of link = (forms link).bus

  pub is-sound : (name : KindName) (s : StateOf name) (out : Out) (node : ℕ) → slice_get net.nodes node ≡ Some (acted_as name s out) → node_kind.is_sound forms (schedules_of node_kind net forms) (acted_as name s out).state
  is-sound name s out node at = at-some (λ (a : Acted NodeState). node_kind.is_sound forms (schedules_of node_kind net forms) a.state) (slice_get net.nodes node) (acted_as name s out) at (sound.nodes node)

  -- what comes to a node by one link and goes on by another, on a bus of the same width but below an up converter
  same-bus : (name : KindName) → keeps_bus name ≡ true → (s : StateOf name) (out : Out) (node : ℕ) → slice_get net.nodes node ≡ Some (acted_as name s out) → (link next : ℕ) (share : Share) →
      Contains (node_kind.uppers (acted_as name s out).state) link → (node_kind.way (acted_as name s out).state).goes_on share ≡ Some next → bus_of link ≡ bus_of next
  same-bus ASlice kept s out node at link next share among goes =
      ap bus_of (one-of link s.upper among) ∙ sym (ap (λ (form : LinkForm). form.bus) (is-sound ASlice s out node at)) ∙ ap bus_of (same_Some s.lower next goes)
  same-bus AMux kept s out node at link next share among goes =
      let alike = All-contains (λ (l : ℕ). IsAlike (forms l) (forms s.shape.lower)) s.shape.uppers link (is-sound AMux s out node at).alike among in
      sym alike.bus ∙ ap bus_of (same_Some s.shape.lower next goes)
  same-bus ADemux kept s out node at link next share among goes =
      let below = node_holds.goes_below (acted_as ADemux s out).state share next goes in
      let same = All-contains (λ (l : ℕ). forms l ≡ forms s.shape.upper) s.shape.lowers next (is-sound ADemux s out node at).alike below in
      ap bus_of (one-of link s.shape.upper among) ∙ sym (ap (λ (form : LinkForm). form.bus) same)
  same-bus ARemap kept s out node at link next share among goes =
      ap bus_of (one-of link s.shape.upper among) ∙ sym (is-sound ARemap s out node at).alike.bus ∙ ap bus_of (same_Some s.shape.lower next goes)
  same-bus AnUp kept s out node at link next share among goes = absurd (false≢true kept)
  same-bus ASplit kept s out node at link next share among goes =
      ap bus_of (one-of link s.upper among) ∙ sym (is-sound ASplit s out node at).bus ∙ ap bus_of (same_Some s.lower next goes)
  same-bus ALite kept s out node at link next share among goes =
      let its = is-sound ALite s out node at in
      ap bus_of (one-of link s.shape.upper among) ∙ its.bus_above ∙ sym its.bus_below ∙ ap bus_of (same_Some s.shape.lower next goes)
  same-bus ALiteMemory kept s out node at link next share among goes = absurd (none-some next goes)
  same-bus AManager kept s out node at link next share among goes = absurd (omega (arith, among.1))
  same-bus AMemory kept s out node at link next share among goes = absurd (none-some next goes)
  same-bus AnError kept s out node at link next share among goes = absurd (none-some next goes)

  -- tags and write data that fit a trace line
  pub record ShareFits (link : ℕ) (share : Share) : Type 0 where
    pub tags : All (λ (part : Addr). IsTraceTag part.tag) share.parts
    pub sent : All (IsTraceWriteData (bus_of link)) (flat_map (λ (beats : List WBeat). beats) share.write_data)

  data-on : (name : KindName) → keeps_bus name ≡ true → (s : StateOf name) (out : Out) (node : ℕ) → slice_get net.nodes node ≡ Some (acted_as name s out) → (link next : ℕ) (share : Share) →
      Contains (node_kind.uppers (acted_as name s out).state) link → (node_kind.way (acted_as name s out).state).goes_on share ≡ Some next → ShareFits link share →
      All (IsTraceWriteData (bus_of next)) (flat_map (λ (beats : List WBeat). beats) share.write_data)
  data-on name kept s out node at link next share among goes sent =
      subst (λ (bus : ℕ). All (IsTraceWriteData bus) (flat_map (λ (beats : List WBeat). beats) share.write_data)) (same-bus name kept s out node at link next share among goes) sent.sent

  as-it_is : (name : KindName) → keeps_bus name ≡ true → (s : StateOf name) (out : Out) (node : ℕ) → slice_get net.nodes node ≡ Some (acted_as name s out) → (link next : ℕ) (share : Share) →
      Contains (node_kind.uppers (acted_as name s out).state) link → (node_kind.way (acted_as name s out).state).goes_on share ≡ Some next →
      (node_kind.way (acted_as name s out).state).cut share ≡ share → ShareFits link share → ShareFits next ((node_kind.way (acted_as name s out).state).cut share)
  as-it_is name kept s out node at link next share among goes same sent =
      subst (ShareFits next) (sym same) (record { tags = sent.tags; sent = data-on name kept s out node at link next share among goes sent })

  -- a node sends on what fits, by its kind
  share-by : (name : KindName) (s : StateOf name) (out : Out) (node : ℕ) → slice_get net.nodes node ≡ Some (acted_as name s out) → (link next : ℕ) (write : Bool) (share : Share) →
      Contains (node_kind.uppers (acted_as name s out).state) link → (node_kind.way (acted_as name s out).state).goes_on share ≡ Some next → FitsLink (forms link) write share →
      ShareFits link share → ShareFits next ((node_kind.way (acted_as name s out).state).cut share)
  share-by ASlice s out node at link next write share among goes fits sent = as-it_is ASlice refl s out node at link next share among goes refl sent
  share-by AMux s out node at link next write share among goes fits sent = as-it_is AMux refl s out node at link next share among goes refl sent
  share-by ADemux s out node at link next write share among goes fits sent = as-it_is ADemux refl s out node at link next share among goes refl sent
  share-by ARemap s out node at link next write share among goes fits sent = as-it_is ARemap refl s out node at link next share among goes refl sent
  share-by AnUp s out node at link next write share among goes fits sent =
      let its = is-sound AnUp s out node at in
      let new = at-some (λ (a : Acted NodeState). node_kind.begins a.state) (slice_get net.nodes node) (acted_as AnUp s out) at (sound.begins node) in
      let upper : bus_of link ≡ s.shape.narrow = ap bus_of (one-of link s.shape.upper among) ∙ its.narrow in
      let lower : bus_of next ≡ s.shape.wide = ap bus_of (sym (same_Some s.shape.lower next goes)) ∙ ap (λ (form : LinkForm). form.bus) its.below in
      record {
        tags = sent.tags;
        sent =
            subst (λ (bus : ℕ). All (IsTraceWriteData bus) (flat_map (λ (beats : List WBeat). beats) (data_widened s.shape share.parts share.write_data))) (sym lower)
            (data-widened s.shape new.shape share.parts share.write_data
            (subst (λ (bus : ℕ). All (IsTraceWriteData bus) (flat_map (λ (beats : List WBeat). beats) share.write_data)) upper sent.sent));
      }
  share-by ASplit s out node at link next write share among goes fits sent = record {
    tags = parts-tagged share.parts sent.tags;
    sent = lasts-fit (bus_of next) (flat_map (λ (beats : List WBeat). beats) share.write_data) (data-on ASplit refl s out node at link next share among goes sent);
  }
  share-by ALite s out node at link next write share among goes fits sent =
      let its = is-sound ALite s out node at in
      let width : IsBusWidth s.shape.bus = subst IsBusWidth (ap bus_of (one-of link s.shape.upper among) ∙ its.bus_above) fits.width in
      record { tags = words-tagged s.shape.bus width share.parts sent.tags; sent = data-on ALite refl s out node at link next share among goes sent }
  share-by ALiteMemory s out node at link next write share among goes fits sent = absurd (none-some next goes)
  share-by AManager s out node at link next write share among goes fits sent = absurd (omega (arith, among.1))
  share-by AMemory s out node at link next write share among goes fits sent = absurd (none-some next goes)
  share-by AnError s out node at link next write share among goes fits sent = absurd (none-some next goes)

  next-share : (link next : ℕ) (write : Bool) (share : Share) → link < length net.links → (way_below node_kind net link).goes_on share ≡ Some next → FitsLink (forms link) write share →
      ShareFits link share → ShareFits next ((way_below node_kind net link).cut share)
  next-share link next write share known goes fits sent = go (slice_get net.nodes (lower_node net.links link)) refl
    where
      go : (o : Option (Acted NodeState)) → slice_get net.nodes (lower_node net.links link) ≡ o → ShareFits next ((way_below node_kind net link).cut share)
      go None none = absurd (none-some next (sym (ap (λ (o : Option (Acted NodeState)). (option_map_or (λ (a : Acted NodeState). node_kind.way a.state) o (start_here [])).goes_on share) none) ∙ goes))
      go (Some a) at =
          subst (λ (o : Option (Acted NodeState)). ShareFits next ((option_map_or (λ (b : Acted NodeState). node_kind.way b.state) o (start_here [])).cut share)) (sym at)
          (share-by a.state.kind a.state.state a.out (lower_node net.links link) at link next write share
          (subst (λ (o : Option (Acted NodeState)). Contains (option_map_or (λ (b : Acted NodeState). node_kind.uppers b.state) o []) link) at (sound.wired.below link known))
          (sym (ap (λ (o : Option (Acted NodeState)). (option_map_or (λ (b : Acted NodeState). node_kind.way b.state) o (start_here [])).goes_on share) at) ∙ goes) fits sent)

  module _ (origin : Origin) where
    abbrev Right : Hop → Type 0
    Right = IsRight node_kind node_holds net forms sound origin.write origin

    along-shares : (hop : Hop) (hops : List Hop) → hop.link < length net.links → IsJoined node_kind node_holds net sound.wired origin.write (hop ∷ hops) → All Right (hop ∷ hops) →
        ShareFits hop.link hop.share → (link : ℕ) (share : Share) → share_on link (hop ∷ hops) ≡ Some share → ShareFits link share
    along-shares hop [] known joined each sent link share there = elim (cases_eq hop.link link) [
      | inl same ↦ subst (λ (l : ℕ). ShareFits l share) same (subst (ShareFits hop.link) (same_Some hop.share share (sym (share-here link hop [] same) ∙ there)) sent)
      | inr other ↦ absurd (none-some share (sym (share-further link hop [] other) ∙ there))
    ]
    along-shares hop (next ∷ more) known joined each sent link share there = elim (cases_eq hop.link link) [
      | inl same ↦ subst (λ (l : ℕ). ShareFits l share) same (subst (ShareFits hop.link) (same_Some hop.share share (sym (share-here link hop (next ∷ more) same) ∙ there)) sent)
      | inr other ↦
          let fits = (All-head Right hop (next ∷ more) each).is.fits in
          let sent = next-share hop.link next.link origin.write hop.share known joined.0.goes fits sent in
          let below : ShareFits next.link next.share = record {
            tags = subst (All (λ (part : Addr). IsTraceTag part.tag)) (sym (ap (λ (s : Share). s.parts) joined.0.sent.cut)) sent.tags;
            sent = subst (λ (ws : List (List WBeat)). All (IsTraceWriteData (bus_of next.link)) (flat_map (λ (beats : List WBeat). beats) ws)) (sym (ap (λ (s : Share). s.write_data) joined.0.sent.cut)) sent.sent;
          } in
          along-shares next more joined.0.known joined.1 (All-tail Right hop (next ∷ more) each) below link share (sym (share-further link hop (next ∷ more) other) ∙ there)
    ]

    -- a link that carries a transaction carries what fits a trace line, where the first one does
    pub shares-along : Contains (origins_in node_kind net.nodes) origin → ShareFits origin.link origin.share → (link : ℕ) (share : Share) →
        carried node_kind net origin.write link origin.number ≡ Some share → ShareFits link share
    shares-along among sent link share there =
        let its : HasItsWay node_kind node_holds net forms sound origin.write origin.number origin = its-way node_kind node_holds net forms sound origin.write origin.number origin (is-found node_kind node_holds net forms sound origin among) in
        along-shares (record { link = origin.link; share = with_responses origin.share its.responses }) its.more its.starts.known its.joined
        (rights node_kind node_holds net forms sound origin.write origin.number origin its) (record { tags = sent.tags; sent = sent.sent }) link share (sym (its.is link) ∙ there)
