-- What the links of a plan are.
use Rattle.std.proofs.Common.{◌≡◌, ◌<◌, ◌≤◌, ◌+◌, ◌*◌, ◌==◌, ◌||◌, ◌++◌, ℕ, zero, suc, Bool, true, false, cond, not, List, [], ◌∷◌, length, map, get_or, Some, refl, sym, ◌∙◌, ap, subst, inl, inr, arith}
use Rattle.std.specs.Prelude.{codes, decimal, max, nat_le, nat_lt, slice_get, slice_index_or, if◌then◌else◌}
use Rattle.std.specs.List.{list_any}
use Rattle.std.proofs.Math.Nat.{le-max_left, le-max_right}
use Rattle.std.proofs.lemmas.Bool.{and_cases, eqb-true, false_from_ne_true, false≢true, leb-false, ltb-false, not-false, or_parts, true≢false}
use Rattle.std.proofs.lemmas.List.{get_or-map, length-map}
use Rattle.node_graph.specs.Graph.{is_in, numbers}
use Rattle.node_graph.proofs.Levels.{in-append}
use Rattle.node_graph.proofs.Members.{in-numbers}
use Rattle.node_graph.specs.Order.{place_in}
use Rattle.topology.proofs.AcceptedFacts.{accepted-is_clean, links-are_handed_down, target-known}
use Rattle.topology.specs.Document.{DocumentNode, first_link, input_digits, inputs_of, is_manager, joins_links, link_below, link_kind_of, merged_link, no_link, node_at, uppers_of, widest}
use Rattle.topology.specs.declared.link.LinkKind.{LinkKind}
use Rattle.topology.specs.Refused.{IsAccepted}
use Rattle.topology.specs.Fits.{bus_differs_at, protocol_differs_at}
use Rattle.topology_text.specs.declared.kind.Kind.{Kind}
use Rattle.topology_text.specs.declared.kind.Kind.TheVariants as kind
use Rattle.elaborate.specs.LinkLaws.{CanLeadTo, GoesOn, IsCarriedOn, IsMerged, LinksAreCarriedOn, ManagersBeginLinks}
use Rattle.elaborate.specs.Laws.{is_first, is_mux}
use Rattle.elaborate.specs.Plan.{PlanNode, demux_itself, entrance, entrances, error_part, first_part, input_demux, is_crossbar, itself, plan_nodes, split_part, target_mux, targets}
use Rattle.elaborate.specs.declared.part.Part.{Part}
use Rattle.elaborate.specs.declared.part.Part.TheVariants as part
use Rattle.elaborate.proofs.Forms.{Form, Part_at, get-behind, get-input, input_count, own_part, part-at, split_kind, target_count}
use Rattle.elaborate.proofs.Forms.Form.{Behind, Demux, DemuxError, Input, InputError, Own, Split, Target}
use Rattle.elaborate.proofs.LinkForms.{Entered, at-kind, is_behind, is_mux_kind, place-within, split-behind, target-upper}
use Rattle.elaborate.proofs.Lists.{None-Some, Some-same, in-mapped, in-one, nth-in}
use Rattle.elaborate.proofs.PlanFacts.{entered-target, form-document, target-at}
use Rattle.elaborate.proofs.Uppers.{no_upper, nth-place}

-- ---- links in a list

abbrev nth_link : List LinkKind → ℕ → LinkKind
nth_link links place = slice_index_or links place no_link

-- where a test holds of none, it doesn't hold of one of them
none-nth : (test : LinkKind → Bool) (links : List LinkKind) (place : ℕ) → list_any test links ≡ false → place < length links → test (nth_link links place) ≡ false
none-nth test [] place none less = absurd (omega (arith, less))
none-nth test (link ∷ more) zero none less = (or_parts (test link) (list_any test more) none).0
none-nth test (link ∷ more) (suc place) none less = none-nth test more place (or_parts (test link) (list_any test more) none).1 (omega (arith, less))

nth-widest : (links : List LinkKind) (place : ℕ) → place < length links → (nth_link links place).id_width ≤ widest links
nth-widest [] place less = absurd (omega (arith, less))
nth-widest (link ∷ more) zero less = le-max_left link.id_width (widest more)
nth-widest (link ∷ more) (suc place) less =
    let rest : (nth_link more place).id_width ≤ widest more = nth-widest more place (omega (arith, less)) in
    let most : widest more ≤ max link.id_width (widest more) = le-max_right link.id_width (widest more) in
    omega (arith, rest, most)

-- one of some links that are alike, and the link that they are merged into
merged : (links : List LinkKind) (place : ℕ) → place < length links → list_any (λ (other : LinkKind). other.lite) links ≡ false
    → list_any (λ (other : LinkKind). not (other.bus == (first_link links).bus)) links ≡ false → IsMerged (length links) (nth_link links place) (merged_link links)
merged links place less lite bus =
    let most : (nth_link links place).id_width ≤ widest links = nth-widest links place less in
    record {
      lite = none-nth (λ (other : LinkKind). other.lite) links 0 lite (omega (arith, less)) ∙ sym (none-nth (λ (other : LinkKind). other.lite) links place lite less);
      bus = sym (eqb-true (nth_link links place).bus (first_link links).bus
          (not-false ((nth_link links place).bus == (first_link links).bus) (none-nth (λ (other : LinkKind). not (other.bus == (first_link links).bus)) links place bus less)));
      ids = omega (arith, most);
    }

-- ---- what an accepted document says of the inputs of a node

abbrev bus_differs : List DocumentNode → ℕ → Kind → Bool
bus_differs nodes to k = bus_differs_at (node_at nodes to) (inputs_of nodes to) k

abbrev protocol_differs : List DocumentNode → ℕ → Kind → Bool
protocol_differs nodes to k = protocol_differs_at (inputs_of nodes to) k

-- an input of a node of this kind, by its place, and what is known of all of them
record Meets (nodes : List DocumentNode) (to place : ℕ) (k : Kind) : Type 0 where
  less : place < length (inputs_of nodes to)
  handed : link_kind_of nodes to ≡ link_below k (node_at nodes to) (inputs_of nodes to)
  one : joins_links k ≡ false → place ≡ 0
  below_one : is_manager k ≡ false
  bus : bus_differs nodes to k ≡ false
  protocol : protocol_differs nodes to k ≡ false

abbrev Carried : List DocumentNode → ℕ → Part → LinkKind → LinkKind → Type 0
Carried nodes to p above below = CanLeadTo p (node_at nodes to) above × GoesOn p (node_at nodes to) (length (uppers_of nodes to)) above below

-- the only input
only : (nodes : List DocumentNode) (to place : ℕ) (k : Kind) → Meets nodes to place k → joins_links k ≡ false → first_link (inputs_of nodes to) ≡ nth_link (inputs_of nodes to) place
only nodes to place k m single = ap (nth_link (inputs_of nodes to)) (sym (m.one single))

not_lite : (nodes : List DocumentNode) (to place : ℕ) (k : Kind) → Meets nodes to place k → list_any (λ (other : LinkKind). other.lite) (inputs_of nodes to) ≡ false
    → (nth_link (inputs_of nodes to) place).lite ≡ false
not_lite nodes to place k m none = none-nth (λ (other : LinkKind). other.lite) (inputs_of nodes to) place none m.less

-- what is merged
joined : (nodes : List DocumentNode) (to place : ℕ) → place < length (inputs_of nodes to) → list_any (λ (other : LinkKind). other.lite) (inputs_of nodes to) ≡ false
    → list_any (λ (other : LinkKind). not (other.bus == (first_link (inputs_of nodes to)).bus)) (inputs_of nodes to) ≡ false → link_kind_of nodes to ≡ merged_link (inputs_of nodes to)
    → Carried nodes to part.Mux (nth_link (inputs_of nodes to) place) (link_kind_of nodes to)
joined nodes to place less lite bus is = (
  none-nth (λ (other : LinkKind). other.lite) (inputs_of nodes to) place lite less,
  subst (λ (below : LinkKind). IsMerged (length (uppers_of nodes to)) (nth_link (inputs_of nodes to) place) below) (sym is)
      (subst (λ (n : ℕ). IsMerged n (nth_link (inputs_of nodes to) place) (merged_link (inputs_of nodes to))) (length-map (uppers_of nodes to) (link_kind_of nodes))
      (merged (inputs_of nodes to) place less lite bus)),
)

-- a node that is its own only part
own-carried : (nodes : List DocumentNode) (to place : ℕ) (k : Kind) (p : Part) → own_part k ≡ Some p → Meets nodes to place k → Carried nodes to p (nth_link (inputs_of nodes to) place) (link_kind_of nodes to)
own-carried nodes to place kind.Manager p own m = absurd (true≢false m.below_one)
own-carried nodes to place kind.Memory p own m =
    subst (λ (p : Part). Carried nodes to p (nth_link (inputs_of nodes to) place) (link_kind_of nodes to)) (Some-same part.Memory p own) (
      (
        not_lite nodes to place kind.Memory m m.protocol,
        sym (eqb-true (node_at nodes to).bus (first_link (inputs_of nodes to)).bus (not-false _ m.bus) ∙ ap (λ (l : LinkKind). l.bus) (only nodes to place kind.Memory m refl)),
      ),
      m.handed ∙ only nodes to place kind.Memory m refl,
    )
own-carried nodes to place kind.LiteMemory p own m =
    subst (λ (p : Part). Carried nodes to p (nth_link (inputs_of nodes to) place) (link_kind_of nodes to)) (Some-same part.LiteMemory p own) (
      sym (ap (λ (l : LinkKind). l.lite) (only nodes to place kind.LiteMemory m refl)) ∙ not-false _ m.protocol,
      m.handed ∙ only nodes to place kind.LiteMemory m refl,
    )
own-carried nodes to place kind.Slice p own m =
    subst (λ (p : Part). Carried nodes to p (nth_link (inputs_of nodes to) place) (link_kind_of nodes to)) (Some-same part.Slice p own) (
      tt,
      m.handed ∙ only nodes to place kind.Slice m refl,
    )
own-carried nodes to place kind.Mux p own m =
    subst (λ (p : Part). Carried nodes to p (nth_link (inputs_of nodes to) place) (link_kind_of nodes to)) (Some-same part.Mux p own)
    (joined nodes to place m.less m.protocol m.bus m.handed)
own-carried nodes to place kind.Remap p own m =
    subst (λ (p : Part). Carried nodes to p (nth_link (inputs_of nodes to) place) (link_kind_of nodes to)) (Some-same part.Remap p own) (
      not_lite nodes to place kind.Remap m m.protocol,
      m.handed ∙ ap (λ (l : LinkKind). record l { id_width = (node_at nodes to).id_width }) (only nodes to place kind.Remap m refl),
    )
own-carried nodes to place kind.Up p own m =
    subst (λ (p : Part). Carried nodes to p (nth_link (inputs_of nodes to) place) (link_kind_of nodes to)) (Some-same part.Up p own) (
      (
        not_lite nodes to place kind.Up m m.protocol,
        subst (λ (l : LinkKind). l.bus < (node_at nodes to).bus) (only nodes to place kind.Up m refl) (leb-false (node_at nodes to).bus (first_link (inputs_of nodes to)).bus m.bus),
      ),
      m.handed ∙ ap (λ (l : LinkKind). record l { bus = (node_at nodes to).bus }) (only nodes to place kind.Up m refl),
    )
own-carried nodes to place other p own m = absurd (None-Some p own)

-- ---- where a document node is entered

-- a splitter stands before a converter that is no joint, and AXI4 comes to it
split-kind : (nodes : List DocumentNode) (to : ℕ) (k : Kind) (p : Part) → split_kind k ≡ Some p → protocol_differs nodes to k ≡ false
    → (joins_links k ≡ false) × (list_any (λ (other : LinkKind). other.lite) (inputs_of nodes to) ≡ false)
split-kind nodes to kind.Down p split protocol = (refl, protocol)
split-kind nodes to kind.Lite p split protocol = (refl, (or_parts (list_any (λ (other : LinkKind). other.lite) (inputs_of nodes to)) _ protocol).0)
split-kind nodes to other p split protocol = absurd (None-Some p split)

enter-part : (nodes : List DocumentNode) (to place inner : ℕ) (node : PlanNode) (k : Kind) → Meets nodes to place k → Form nodes to inner node k → is_behind node.part ≡ false
    → is_mux node.part ≡ is_mux_kind k → (is_crossbar k ≡ true → inner ≡ 2 * place) → Carried nodes to node.part (nth_link (inputs_of nodes to) place) node.link
enter-part nodes to place inner node k m (Own p own first is) outer joint front =
    subst (λ (x : PlanNode). Carried nodes to x.part (nth_link (inputs_of nodes to) place) x.link) (sym is) (own-carried nodes to place k p own m)
enter-part nodes to place inner node k m (Split p split first is) outer joint front =
    let known = split-kind nodes to k p split m.protocol in
    subst (λ (x : PlanNode). Carried nodes to x.part (nth_link (inputs_of nodes to) place) x.link) (sym is)
    (none-nth (λ (other : LinkKind). other.lite) (inputs_of nodes to) place known.1 m.less, only nodes to place k m known.0)
enter-part nodes to place inner node k m (Behind p split first is) outer joint front =
    absurd (true≢false (sym (split-behind k p split) ∙ sym (ap (λ (x : PlanNode). is_behind x.part) is) ∙ outer))
enter-part nodes to place inner node k m (Demux e first is) outer joint front =
    let d : Meets nodes to place kind.Demux = subst (Meets nodes to place) e m in
    subst (λ (x : PlanNode). Carried nodes to x.part (nth_link (inputs_of nodes to) place) x.link) (sym is)
    (not_lite nodes to place kind.Demux d d.protocol, d.handed ∙ only nodes to place kind.Demux d refl)
enter-part nodes to place inner node k m (DemuxError e first is) outer joint front = absurd (true≢false (sym (ap (λ (x : PlanNode). is_behind x.part) is) ∙ outer))
enter-part nodes to place inner node k m (Input i e within first is) outer joint front =
    let d : Meets nodes to place kind.Crossbar = subst (Meets nodes to place) e m in
    let same : i ≡ place = omega (arith, first, front (ap is_crossbar e)) in
    subst (λ (x : PlanNode). Carried nodes to x.part (nth_link (inputs_of nodes to) place) x.link) (sym is)
    (not_lite nodes to place kind.Crossbar d d.protocol, ap (nth_link (inputs_of nodes to)) same)
enter-part nodes to place inner node k m (InputError i e within first is) outer joint front = absurd (true≢false (sym (ap (λ (x : PlanNode). is_behind x.part) is) ∙ outer))
enter-part nodes to place inner node k m (Target j e within first is) outer joint front =
    absurd (true≢false (sym (ap (λ (x : PlanNode). is_mux x.part) is) ∙ joint ∙ ap is_mux_kind e))

-- the input of an upper, by its place
input-at : (nodes : List DocumentNode) (upper to : ℕ) → is_in (uppers_of nodes to) upper ≡ true → link_kind_of nodes upper ≡ nth_link (inputs_of nodes to) (place_in (uppers_of nodes to) upper)
input-at nodes upper to there =
    ap (link_kind_of nodes) (sym (nth-place (uppers_of nodes to) upper there))
    ∙ sym (get_or-map (link_kind_of nodes) (uppers_of nodes to) (place_in (uppers_of nodes to) upper) 0 no_link (place-within (uppers_of nodes to) upper there))

meets : (nodes : List DocumentNode) → IsAccepted nodes → (upper to : ℕ) → to < length nodes → is_in (uppers_of nodes to) upper ≡ true
    → Meets nodes to (place_in (uppers_of nodes to) upper) (node_at nodes to).kind
meets nodes accepted upper to less there =
    let clean = accepted-is_clean nodes accepted to less in
    let within : place_in (uppers_of nodes to) upper < length (uppers_of nodes to) = place-within (uppers_of nodes to) upper there in
    record {
      less = omega (arith, within, length-map (uppers_of nodes to) (link_kind_of nodes));
      handed = links-are_handed_down nodes accepted to less;
      one = λ single.
          elim (and_cases (not (joins_links (node_at nodes to).kind)) (nat_lt (if is_manager (node_at nodes to).kind then 0 else 1) (length (uppers_of nodes to))) clean.uppers_are_few) [
            | inl joint ↦ absurd (true≢false (ap not (sym single) ∙ joint))
            | inr few ↦ let most : length (uppers_of nodes to) ≤ 1 = at-most (is_manager (node_at nodes to).kind) (length (uppers_of nodes to)) few in omega (arith, within, most)
          ];
      below_one = false_from_ne_true (is_manager (node_at nodes to).kind) (λ e. no_upper nodes accepted to upper less e there);
      bus = clean.widths_fit;
      protocol = clean.protocols_fit;
    }
  where
    at-most : (b : Bool) (n : ℕ) → nat_lt (if b then 0 else 1) n ≡ false → n ≤ 1
    at-most true n few = let most : n ≤ 0 = ltb-false 0 n few in omega (arith, most)
    at-most false n few = ltb-false 1 n few

-- from a part that leads to the targets of its document node
enters-carried : (nodes : List DocumentNode) → IsAccepted nodes → (place to lower : ℕ) (above below : PlanNode) → place < length nodes → is_in (targets nodes place) to ≡ true
    → lower ≡ entrance nodes place to → slice_get (plan_nodes nodes) lower ≡ Some below → above.link ≡ link_kind_of nodes place → IsCarriedOn nodes above below
enters-carried nodes accepted place to lower above below less target is at link =
    let inside : to < length nodes = target-known nodes (node_at nodes place) to target in
    let there : is_in (uppers_of nodes to) place ≡ true = target-upper nodes place to less target in
    let entry : Entered nodes to lower = entered-target nodes place to lower less target is in
    let same : entry.node ≡ below = Some-same entry.node below (sym entry.at ∙ at) in
    let document : below.document ≡ to = sym (ap (λ (x : PlanNode). x.document) same) ∙ entry.document in
    let spot : Part_at nodes lower below = part-at nodes lower below at in
    let here : spot.place ≡ to = sym (form-document nodes spot.place spot.inner below (node_at nodes spot.place).kind spot.form) ∙ document in
    let sum : lower ≡ first_part nodes to + spot.inner = subst (λ (n : ℕ). lower ≡ first_part nodes n + spot.inner) here spot.sum in
    let carried : Carried nodes to below.part (nth_link (inputs_of nodes to) (place_in (uppers_of nodes to) place)) below.link =
    enter-part nodes to (place_in (uppers_of nodes to) place) spot.inner below (node_at nodes to).kind (meets nodes accepted place to inside there)
    (subst (λ (n : ℕ). Form nodes n spot.inner below (node_at nodes n).kind) here spot.form)
    (sym (ap (λ (x : PlanNode). is_behind x.part) same) ∙ entry.outer)
    (sym (ap (λ (x : PlanNode). is_mux x.part) same) ∙ entry.joint)
    (λ crossbar. omega (arith, sum, is, front (is_crossbar (node_at nodes to).kind) (first_part nodes to + 2 * place_in (uppers_of nodes to) place) (first_part nodes to) crossbar)) in
    let from : nth_link (inputs_of nodes to) (place_in (uppers_of nodes to) place) ≡ above.link = sym (link ∙ input-at nodes place to there) in
    let all : Carried nodes below.document below.part above.link below.link =
    subst (λ (n : ℕ). Carried nodes n below.part above.link below.link) (sym document) (subst (λ (l : LinkKind). Carried nodes to below.part l below.link) from carried) in
    record { fits = all.0; goes_on = all.1 }
  where
    front : (b : Bool) (x y : ℕ) → b ≡ true → (if b then x else y) ≡ x
    front true x y e = refl
    front false x y e = absurd (false≢true e)

-- ---- within a document node

-- between two of its parts
within-carried : (nodes : List DocumentNode) (place : ℕ) (above below x y : PlanNode) → above ≡ x → y ≡ below → y.document ≡ place → Carried nodes place y.part x.link y.link → IsCarriedOn nodes above below
within-carried nodes place above below x y up down document carried =
    subst (λ (above : PlanNode). IsCarriedOn nodes above below) (sym up)
    (subst (λ (below : PlanNode). IsCarriedOn nodes x below) down
    (let all : Carried nodes y.document y.part x.link y.link = subst (λ (n : ℕ). Carried nodes n y.part x.link y.link) (sym document) carried in
    record { fits = all.0; goes_on = all.1 }))

first-lite : (links : List LinkKind) → list_any (λ (other : LinkKind). other.lite) links ≡ false → (first_link links).lite ≡ false
first-lite [] none = refl
first-lite (link ∷ more) none = (or_parts link.lite (list_any (λ (other : LinkKind). other.lite) more) none).0

-- from a splitter to the converter behind it
behind-carried : (nodes : List DocumentNode) (place : ℕ) (k : Kind) (p : Part) → split_kind k ≡ Some p → link_kind_of nodes place ≡ link_below k (node_at nodes place) (inputs_of nodes place)
    → bus_differs nodes place k ≡ false → protocol_differs nodes place k ≡ false → Carried nodes place p (first_link (inputs_of nodes place)) (link_kind_of nodes place)
behind-carried nodes place kind.Down p split handed bus protocol =
    subst (λ (p : Part). Carried nodes place p (first_link (inputs_of nodes place)) (link_kind_of nodes place)) (Some-same part.Down p split)
    ((first-lite (inputs_of nodes place) protocol, leb-false (first_link (inputs_of nodes place)).bus (node_at nodes place).bus bus), handed)
behind-carried nodes place kind.Lite p split handed bus protocol =
    let parts = or_parts (list_any (λ (other : LinkKind). other.lite) (inputs_of nodes place)) _ protocol in
    subst (λ (p : Part). Carried nodes place p (first_link (inputs_of nodes place)) (link_kind_of nodes place)) (Some-same part.Lite p split)
    ((first-lite (inputs_of nodes place) parts.0, not-false _ parts.1), handed)
behind-carried nodes place other p split handed bus protocol = absurd (None-Some p split)

-- ---- each link

by-form : (nodes : List DocumentNode) → IsAccepted nodes → (place inner lower : ℕ) (above below : PlanNode) → place < length nodes → Form nodes place inner above (node_at nodes place).kind
    → slice_get (plan_nodes nodes) lower ≡ Some below → is_in above.lower lower ≡ true → IsCarriedOn nodes above below
unfolding numbers
by-form nodes accepted place inner lower above below less (Own p own first is) at there =
    let found : (to : ℕ) × (is_in (targets nodes place) to ≡ true) × (entrance nodes place to ≡ lower) =
    in-mapped (entrance nodes place) (targets nodes place) lower (ap (λ (x : PlanNode). is_in x.lower lower) (sym is) ∙ there) in
    enters-carried nodes accepted place found.0 lower above below less found.1 (sym found.2) at (ap (λ (x : PlanNode). x.link) is)
by-form nodes accepted place inner lower above below less (Split p split first is) at there =
    let clean = accepted-is_clean nodes accepted place less in
    let same : first_part nodes place + 1 ≡ lower = in-one (first_part nodes place + 1) lower (ap (λ (x : PlanNode). is_in x.lower lower) (sym is) ∙ there) in
    within-carried nodes place above below (split_part nodes place) (itself nodes place p) is
    (Some-same (itself nodes place p) below (sym (at-kind nodes place 1 lower (itself nodes place p) (node_at nodes place).kind less refl (get-behind nodes place p (node_at nodes place).kind split) (sym same)) ∙ at))
    refl (behind-carried nodes place (node_at nodes place).kind p split (links-are_handed_down nodes accepted place less) clean.widths_fit clean.protocols_fit)
by-form nodes accepted place inner lower above below less (Behind p split first is) at there =
    let found : (to : ℕ) × (is_in (targets nodes place) to ≡ true) × (entrance nodes place to ≡ lower) =
    in-mapped (entrance nodes place) (targets nodes place) lower (ap (λ (x : PlanNode). is_in x.lower lower) (sym is) ∙ there) in
    enters-carried nodes accepted place found.0 lower above below less found.1 (sym found.2) at (ap (λ (x : PlanNode). x.link) is)
by-form nodes accepted place inner lower above below less (Demux k first is) at there =
    elim (in-append (entrances nodes place) ((first_part nodes place + 1) ∷ []) lower (ap (λ (x : PlanNode). is_in x.lower lower) (sym is) ∙ there)) [
      | inl front ↦
          let found : (to : ℕ) × (is_in (targets nodes place) to ≡ true) × (entrance nodes place to ≡ lower) = in-mapped (entrance nodes place) (targets nodes place) lower front in
          enters-carried nodes accepted place found.0 lower above below less found.1 (sym found.2) at (ap (λ (x : PlanNode). x.link) is)
      | inr back ↦
          let same : first_part nodes place + 1 ≡ lower = in-one (first_part nodes place + 1) lower back in
          let handed : link_kind_of nodes place ≡ first_link (inputs_of nodes place) =
          links-are_handed_down nodes accepted place less ∙ ap (λ k. link_below k (node_at nodes place) (inputs_of nodes place)) k in
          let lite : (link_kind_of nodes place).lite ≡ false =
          ap (λ (l : LinkKind). l.lite) handed ∙ first-lite (inputs_of nodes place) (subst (λ k. protocol_differs nodes place k ≡ false) k (accepted-is_clean nodes accepted place less).protocols_fit) in
          within-carried nodes place above below (demux_itself nodes place) (error_part nodes place (codes ".err")) is
          (Some-same (error_part nodes place (codes ".err")) below (sym (at-kind nodes place 1 lower (error_part nodes place (codes ".err")) kind.Demux less k refl (sym same)) ∙ at))
          refl (lite, tt)
    ]
by-form nodes accepted place inner lower above below less (DemuxError k first is) at there = absurd (false≢true (ap (λ (x : PlanNode). is_in x.lower lower) (sym is) ∙ there))
by-form nodes accepted place inner lower above below less (Input i k within first is) at there =
    let clean = accepted-is_clean nodes accepted place less in
    let lite : list_any (λ (other : LinkKind). other.lite) (inputs_of nodes place) ≡ false = subst (λ k. protocol_differs nodes place k ≡ false) k clean.protocols_fit in
    let inside : i < length (inputs_of nodes place) = omega (arith, within, length-map (uppers_of nodes place) (link_kind_of nodes)) in
    elim (in-append (map (λ j. first_part nodes place + 2 * input_count nodes place + j) (numbers (target_count nodes place))) ((first_part nodes place + 2 * i + 1) ∷ []) lower
    (ap (λ (x : PlanNode). is_in x.lower lower) (sym is) ∙ there)) [
      | inl front ↦
          let found : (j : ℕ) × (is_in (numbers (target_count nodes place)) j ≡ true) × (first_part nodes place + 2 * input_count nodes place + j ≡ lower) =
          in-mapped (λ j. first_part nodes place + 2 * input_count nodes place + j) (numbers (target_count nodes place)) lower front in
          within-carried nodes place above below (input_demux nodes place i) (target_mux nodes place found.0) is
          (Some-same (target_mux nodes place found.0) below
          (sym (target-at nodes place found.0 lower less k (in-numbers (target_count nodes place) found.0 found.1) (omega (arith, found.2))) ∙ at)) refl
          (joined nodes place i inside lite (subst (λ k. bus_differs nodes place k ≡ false) k clean.widths_fit)
          (links-are_handed_down nodes accepted place less ∙ ap (λ k. link_below k (node_at nodes place) (inputs_of nodes place)) k))
      | inr back ↦
          let same : first_part nodes place + 2 * i + 1 ≡ lower = in-one (first_part nodes place + 2 * i + 1) lower back in
          within-carried nodes place above below (input_demux nodes place i) (error_part nodes place (codes ".e" ++ decimal i)) is
          (Some-same (error_part nodes place (codes ".e" ++ decimal i)) below
          (sym (at-kind nodes place (2 * i + 1) lower (error_part nodes place (codes ".e" ++ decimal i)) kind.Crossbar less k
          (get-input nodes place i 1 (error_part nodes place (codes ".e" ++ decimal i)) within refl) (omega (arith, same))) ∙ at))
          refl (none-nth (λ (other : LinkKind). other.lite) (inputs_of nodes place) i lite inside, tt)
    ]
by-form nodes accepted place inner lower above below less (InputError i k within first is) at there = absurd (false≢true (ap (λ (x : PlanNode). is_in x.lower lower) (sym is) ∙ there))
by-form nodes accepted place inner lower above below less (Target j k within first is) at there =
    let same : entrance nodes place (slice_index_or (targets nodes place) j 0) ≡ lower =
    in-one (entrance nodes place (slice_index_or (targets nodes place) j 0)) lower (ap (λ (x : PlanNode). is_in x.lower lower) (sym is) ∙ there) in
    enters-carried nodes accepted place (slice_index_or (targets nodes place) j 0) lower above below less (nth-in (targets nodes place) j within) (sym same) at (ap (λ (x : PlanNode). x.link) is)

pub links-are_carried_on : LinksAreCarriedOn
links-are_carried_on nodes accepted upper lower above below here at there =
    let spot : Part_at nodes upper above = part-at nodes upper above here in
    by-form nodes accepted spot.place spot.inner lower above below spot.within spot.form at there

-- ---- managers

manager-kind : (k : Kind) (p : Part) → own_part k ≡ Some p → is_first p ≡ true → k ≡ kind.Manager
manager-kind kind.Manager p e first = refl
manager-kind kind.Memory p e first = absurd (false≢true (ap is_first (Some-same part.Memory p e) ∙ first))
manager-kind kind.LiteMemory p e first = absurd (false≢true (ap is_first (Some-same part.LiteMemory p e) ∙ first))
manager-kind kind.Slice p e first = absurd (false≢true (ap is_first (Some-same part.Slice p e) ∙ first))
manager-kind kind.Mux p e first = absurd (false≢true (ap is_first (Some-same part.Mux p e) ∙ first))
manager-kind kind.Remap p e first = absurd (false≢true (ap is_first (Some-same part.Remap p e) ∙ first))
manager-kind kind.Up p e first = absurd (false≢true (ap is_first (Some-same part.Up p e) ∙ first))
manager-kind other p e first = absurd (None-Some p e)

split-first : (k : Kind) (p : Part) → split_kind k ≡ Some p → is_first p ≡ false
split-first kind.Down p e = sym (ap is_first (Some-same part.Down p e))
split-first kind.Lite p e = sym (ap is_first (Some-same part.Lite p e))
split-first other p e = absurd (None-Some p e)

-- the link below a manager
abbrev first_below : DocumentNode → LinkKind
first_below node = record { lite = false; bus = node.bus; id_width = node.id_width }

begins-by : (nodes : List DocumentNode) → IsAccepted nodes → (place inner : ℕ) (node : PlanNode) → place < length nodes → Form nodes place inner node (node_at nodes place).kind → is_first node.part ≡ true
    → node.link ≡ first_below (node_at nodes node.document)
begins-by nodes accepted place inner node less (Own p own first is) begins =
    let k : (node_at nodes place).kind ≡ kind.Manager = manager-kind (node_at nodes place).kind p own (ap (λ (x : PlanNode). is_first x.part) (sym is) ∙ begins) in
    ap (λ (x : PlanNode). x.link) is
    ∙ links-are_handed_down nodes accepted place less
    ∙ ap (λ k. link_below k (node_at nodes place) (inputs_of nodes place)) k
    ∙ ap (λ (n : ℕ). first_below (node_at nodes n)) (sym (ap (λ (x : PlanNode). x.document) is))
begins-by nodes accepted place inner node less (Split p split first is) begins = absurd (false≢true (ap (λ (x : PlanNode). is_first x.part) (sym is) ∙ begins))
begins-by nodes accepted place inner node less (Behind p split first is) begins =
    absurd (false≢true (sym (split-first (node_at nodes place).kind p split) ∙ ap (λ (x : PlanNode). is_first x.part) (sym is) ∙ begins))
begins-by nodes accepted place inner node less (Demux k first is) begins = absurd (false≢true (ap (λ (x : PlanNode). is_first x.part) (sym is) ∙ begins))
begins-by nodes accepted place inner node less (DemuxError k first is) begins = absurd (false≢true (ap (λ (x : PlanNode). is_first x.part) (sym is) ∙ begins))
begins-by nodes accepted place inner node less (Input i k within first is) begins = absurd (false≢true (ap (λ (x : PlanNode). is_first x.part) (sym is) ∙ begins))
begins-by nodes accepted place inner node less (InputError i k within first is) begins = absurd (false≢true (ap (λ (x : PlanNode). is_first x.part) (sym is) ∙ begins))
begins-by nodes accepted place inner node less (Target j k within first is) begins = absurd (false≢true (ap (λ (x : PlanNode). is_first x.part) (sym is) ∙ begins))

pub managers-begin_links : ManagersBeginLinks
managers-begin_links nodes accepted number node at first =
    let spot : Part_at nodes number node = part-at nodes number node at in begins-by nodes accepted spot.place spot.inner node spot.within spot.form (ap is_first first)
