-- The links below plan nodes that cut no bursts; and those around demuxes and muxes are as these want them.
use Rattle.std.proofs.Common.{◌≡◌, ◌<◌, ◌≤◌, ◌==◌, ◌||◌, ℕ, Bool, true, false, not, List, [], ◌∷◌, length, map, Some, refl, sym, ◌∙◌, ap, subst, arith}
use Rattle.std.specs.Prelude.{slice_get}
use Rattle.std.specs.List.{list_any}
use Rattle.std.proofs.lemmas.Bool.{eqb-true, false≢true, not-false, or_parts, true≢false}
use Rattle.std.proofs.lemmas.List.{length-map}
use Rattle.address_map.specs.Regions.{is_bad_region, is_bad_span}
use Rattle.demux_node.specs.DemuxTrail.{IsSoundDemux}
use Rattle.elaborate.proofs.Sizes.{small}
use Rattle.elaborate.specs.Path.{ported_regions}
use Rattle.elaborate.specs.Plan.{PlanNode, plan_link_at, plan_node_at, plan_nodes}
use Rattle.mux_node.specs.MuxTrail.{IsSoundMux}
use Rattle.net_opening.specs.PlanLinks.{cuts_bursts, form_of_link, link_into, link_out_of, links_into, links_out_of}
use Rattle.net_opening.specs.States.{demux_at, mux_at}
use Rattle.net_plan.proofs.LinkKinds.{cuts_at, form-below, form-plain, form_under, no-input, plain_form}
use Rattle.net_plan.proofs.LinkLists.{all-of}
use Rattle.net_plan.proofs.WidthLemmas.{wide-enough, widest-most, widest-of}
use Rattle.net_plan.specs.PlanLaws.{CanRun}
use Rattle.node_graph.proofs.Members.{in-first}
use Rattle.node_graph.specs.Graph.{is_in}
use Rattle.node_shape.specs.LinkForm.{IsAlike, LinkForm}
use Rattle.topology.proofs.AcceptedFacts.{accepted-is_clean, links-are_handed_down}
use Rattle.topology.specs.Document.{DocumentNode, NamedRegion, first_link, inputs_of, link_below, link_kind_of, merged_link, node_at, uppers_of, widest}
use Rattle.topology.specs.Refused.{IsAccepted}
use Rattle.topology.specs.declared.link.LinkKind.{LinkKind}
use Rattle.topology_text.specs.declared.kind.Kind.{Kind}

good-regions : (f : NamedRegion → ℕ) (regions : List NamedRegion) → list_any (λ (region : NamedRegion). is_bad_span region.base region.size) regions ≡ false →
    list_any is_bad_region (map (λ (region : NamedRegion). record { base = region.base; size = region.size; port = f region }) regions) ≡ false
good-regions f [] e = refl
good-regions f (region ∷ more) e =
    let parts = or_parts (is_bad_span region.base region.size) (list_any (λ (region : NamedRegion). is_bad_span region.base region.size) more) e in
    both (is_bad_span region.base region.size) (list_any is_bad_region (map (λ (region : NamedRegion). record { base = region.base; size = region.size; port = f region }) more)) parts.0 (good-regions f more parts.1)
  where
    both : (a b : Bool) → a ≡ false → b ≡ false → (a || b) ≡ false
    both true b e d = absurd (true≢false e)
    both false b e d = d

-- the regions of a demux, with their ports
pub ports-are_good : (nodes : List DocumentNode) → IsAccepted nodes → (place : ℕ) → place < length nodes → list_any is_bad_region (ported_regions nodes (node_at nodes place)) ≡ false
ports-are_good nodes accepted place less =
    good-regions _ (node_at nodes place).region (or_parts _ _ (or_parts _ _ (or_parts _ _ (accepted-is_clean nodes accepted place less).regions_are_good).0).0).0

module _ (nodes : List DocumentNode) (run : CanRun nodes) where
  -- what a document node has below it
  pub handed : (place : ℕ) (k : Kind) → place < length nodes → (node_at nodes place).kind ≡ k → link_kind_of nodes place ≡ link_below k (node_at nodes place) (inputs_of nodes place)
  handed place k less is = links-are_handed_down nodes run.accepted place less ∙ ap (λ (k : Kind). link_below k (node_at nodes place) (inputs_of nodes place)) is

  module _ (number : ℕ) (node : PlanNode) (at : slice_get (plan_nodes nodes) number ≡ Some node) where
    -- the links below a node that cuts no bursts
    pub plain-below : cuts_bursts node.part ≡ false → (link : ℕ) → is_in (links_out_of nodes number) link ≡ true → form_of_link nodes link ≡ plain_form node.link
    plain-below whole link there = form-below nodes number link node at there ∙ ap (λ (b : Bool). form_under b node.link) whole

    -- they have the form of one above that carries the same
    pub below-alike : cuts_bursts node.part ≡ false → (above link : ℕ) → cuts_at nodes (plan_link_at nodes above).upper ≡ false → node.link ≡ (plan_link_at nodes above).link → is_in (links_out_of nodes number) link ≡ true → form_of_link nodes link ≡ form_of_link nodes above
    below-alike whole above link whole_above same there = plain-below whole link there ∙ ap plain_form same ∙ sym (form-plain nodes above whole_above)

    -- ---- a demux

    pub sound-demux : cuts_bursts node.part ≡ false → (place : ℕ) → place < length nodes → (plan_node_at nodes number).document ≡ place → cuts_at nodes (plan_link_at nodes (link_into nodes number)).upper ≡ false → node.link ≡ (plan_link_at nodes (link_into nodes number)).link →
        IsSoundDemux (form_of_link nodes) (demux_at nodes number)
    sound-demux whole place less document whole_above same = record {
      regions = subst (λ (k : ℕ). list_any is_bad_region (ported_regions nodes (node_at nodes k)) ≡ false) (sym document)
          (ports-are_good nodes run.accepted place less);
      alike = all-of (λ link. form_of_link nodes link ≡ form_of_link nodes (link_into nodes number)) (links_out_of nodes number) (λ link there. below-alike whole (link_into nodes number) link whole_above same there);
    }

    -- ---- a mux

    -- each link above is that of an upper of the document node, and no splitter stands above it
    pub record IsInput (place link : ℕ) : Type 0 where
      pub upper : ℕ
      pub whole : cuts_at nodes (plan_link_at nodes link).upper ≡ false
      pub among : is_in (uppers_of nodes place) upper ≡ true
      pub is : (plan_link_at nodes link).link ≡ link_kind_of nodes upper

    pub first-is : (xs : List ℕ) (p : LinkKind → Bool) → 0 < length xs → list_any p (map (link_kind_of nodes) xs) ≡ false → p (first_link (map (link_kind_of nodes) xs)) ≡ false
    first-is [] p some none = absurd (omega (arith, some))
    first-is (x ∷ xs) p some none = no-input nodes p (x ∷ xs) x none (in-first x xs x refl)

    pub some-in : (xs : List ℕ) (x : ℕ) → is_in xs x ≡ true → 0 < length xs
    some-in [] x there = absurd (false≢true there)
    some-in (y ∷ ys) x there = omega arith

    pub same-bus : (a b : ℕ) → not (a == b) ≡ false → a ≡ b
    same-bus a b e = eqb-true a b (not-false (a == b) e)

    pub sound-mux : cuts_bursts node.part ≡ false → (place : ℕ) → place < length nodes → node.link ≡ merged_link (inputs_of nodes place) → list_any (λ (other : LinkKind). not (other.bus == (first_link (inputs_of nodes place)).bus)) (inputs_of nodes place) ≡ false →
        list_any (λ (other : LinkKind). other.lite) (inputs_of nodes place) ≡ false → is_in (links_out_of nodes number) (link_out_of nodes number) ≡ true → length (links_into nodes number) ≤ length (uppers_of nodes place) →
        ((link : ℕ) → is_in (links_into nodes number) link ≡ true → IsInput place link) → IsSoundMux (form_of_link nodes) (mux_at nodes number).shape
    sound-mux whole place less merged buses lites out_there few inputs =
        let out_form : form_of_link nodes (link_out_of nodes number) ≡ plain_form (merged_link (inputs_of nodes place)) = plain-below whole (link_out_of nodes number) out_there ∙ ap plain_form merged in
        let narrow : widest (map (λ link. (plan_link_at nodes link).link) (links_into nodes number)) ≤ widest (inputs_of nodes place) =
        widest-most (λ link. (plan_link_at nodes link).link) (links_into nodes number) (widest (inputs_of nodes place))
        (λ link there.
        let input : IsInput place link = inputs link there in
        omega (arith, ap (λ (l : LinkKind). l.id_width) input.is, widest-of (link_kind_of nodes) (uppers_of nodes place) input.upper input.among)) in
        record {
          alike = all-of (λ link. IsAlike (form_of_link nodes link) (form_of_link nodes (link_out_of nodes number))) (links_into nodes number) (λ link there.
              let input : IsInput place link = inputs link there in
              let form : form_of_link nodes link ≡ plain_form (link_kind_of nodes input.upper) = form-plain nodes link input.whole ∙ ap plain_form input.is in
              let lite : (link_kind_of nodes input.upper).lite ≡ false = no-input nodes (λ (other : LinkKind). other.lite) (uppers_of nodes place) input.upper lites input.among in
              let first_lite : (first_link (inputs_of nodes place)).lite ≡ false = first-is (uppers_of nodes place) (λ (other : LinkKind). other.lite) (some-in (uppers_of nodes place) input.upper input.among) lites in
              let bus : (link_kind_of nodes input.upper).bus ≡ (first_link (inputs_of nodes place)).bus =
              same-bus (link_kind_of nodes input.upper).bus (first_link (inputs_of nodes place)).bus
              (no-input nodes (λ (other : LinkKind). not (other.bus == (first_link (inputs_of nodes place)).bus)) (uppers_of nodes place) input.upper buses input.among) in
              record {
                lite = ap (λ (f : LinkForm). f.lite) out_form ∙ first_lite ∙ sym lite ∙ sym (ap (λ (f : LinkForm). f.lite) form);
                bus = ap (λ (f : LinkForm). f.bus) out_form ∙ sym bus ∙ sym (ap (λ (f : LinkForm). f.bus) form);
                single = ap (λ (f : LinkForm). f.single) out_form ∙ ap (λ (b : Bool). b || false) (first_lite ∙ sym lite) ∙ sym (ap (λ (f : LinkForm). f.single) form);
              });
          narrow = all-of (λ link. (form_of_link nodes link).id_width ≤ (mux_at nodes number).shape.width) (links_into nodes number)
              (λ link there. widest-of (λ link. (plan_link_at nodes link).link) (links_into nodes number) link there);
          wide = wide-enough (widest (map (λ link. (plan_link_at nodes link).link) (links_into nodes number))) (widest (inputs_of nodes place)) (length (inputs_of nodes place))
              (length (links_into nodes number)) (form_of_link nodes (link_out_of nodes number)).id_width narrow
              (omega (arith, few, length-map (uppers_of nodes place) (link_kind_of nodes)))
              (omega (arith, (small nodes run.accepted place less).inputs, length-map (uppers_of nodes place) (link_kind_of nodes)))
              (ap (λ (f : LinkForm). f.id_width) out_form);
        }
