-- No plan node stands twice below another.
use Rattle.std.proofs.Common.{◌≡◌, ◌<◌, ◌+◌, ◌*◌, ◌++◌, ◌==◌, ◌||◌, ℕ, zero, suc, Bool, true, false, List, [], ◌∷◌, length, map, Some, refl, sym, ◌∙◌, ap, arith}
use Rattle.std.specs.Prelude.{codes, slice_get, slice_index_or}
use Rattle.std.proofs.lemmas.Bool.{false_from_ne_true, or_parts, true≢false}
use Rattle.node_graph.specs.Graph.{is_in, numbers}
use Rattle.node_graph.specs.Order.{repeats}
use Rattle.node_graph.proofs.Levels.{repeats-append}
use Rattle.node_graph.proofs.Members.{in-first, in-rest, repeats-range}
use Rattle.topology.proofs.AcceptedFacts.{target-known}
use Rattle.topology.specs.Document.{DocumentNode, node_at}
use Rattle.topology_text.specs.declared.kind.Kind.TheVariants as kind
use Rattle.elaborate.specs.Laws.{NoneIsTwiceBelow}
use Rattle.elaborate.specs.Plan.{PlanNode, entrance, entrances, error_part, first_part, plan_nodes, targets}
use Rattle.elaborate.proofs.Forms.{Form, Part_at, input_count, part-at, target_count}
use Rattle.elaborate.proofs.Forms.Form.{Behind, Demux, DemuxError, Input, InputError, Own, Split, Target}
use Rattle.elaborate.proofs.LinkForms.{Entered, at-kind, entered, is_behind, repeats-targets, target-upper}
use Rattle.elaborate.proofs.Lists.{Some-same, in-mapped, in-one}

-- what differs before differs after
pub repeats-mapped : (f : ℕ → ℕ) (xs : List ℕ) → ((x y : ℕ) → is_in xs x ≡ true → is_in xs y ≡ true → f x ≡ f y → x ≡ y) → repeats xs ≡ false → repeats (map f xs) ≡ false
unfolding repeats
repeats-mapped f [] apart once = refl
repeats-mapped f (x ∷ xs) apart once =
    let parts : (is_in xs x ≡ false) × (repeats xs ≡ false) = or_parts (is_in xs x) (repeats xs) once in
    both (is_in (map f xs) (f x)) (repeats (map f xs))
    (false_from_ne_true (is_in (map f xs) (f x)) (λ e.
    let found : (y : ℕ) × (is_in xs y ≡ true) × (f y ≡ f x) = in-mapped f xs (f x) e in
    true≢false (sym found.1 ∙ ap (is_in xs) (apart found.0 x (in-rest x xs found.0 found.1) (in-first x xs x refl) found.2) ∙ parts.0)))
    (repeats-mapped f xs (λ y z one two same. apart y z (in-rest x xs y one) (in-rest x xs z two) same) parts.1)
  where
    both : (a b : Bool) → a ≡ false → b ≡ false → (a || b) ≡ false
    both true b e d = absurd (true≢false e)
    both false b e d = d

one-differs : (x : ℕ) → repeats (x ∷ []) ≡ false
unfolding repeats
one-differs x = refl

none-differs : Unit {0} → repeats [] ≡ false
unfolding repeats
none-differs u = refl

-- the targets of a document node are entered at different plan nodes
once-entered : (nodes : List DocumentNode) (place : ℕ) → place < length nodes → repeats (entrances nodes place) ≡ false
once-entered nodes place less =
    repeats-mapped (entrance nodes place) (targets nodes place)
    (λ one other one_in other_in same.
    let first : Entered nodes one (entrance nodes place one) = entered nodes place one (target-known nodes (node_at nodes place) one one_in) (target-upper nodes place one less one_in) in
    let second : Entered nodes other (entrance nodes place other) = entered nodes place other (target-known nodes (node_at nodes place) other other_in) (target-upper nodes place other less other_in) in
    sym first.document
    ∙ ap (λ (x : PlanNode). x.document) (Some-same first.node second.node (sym first.at ∙ ap (slice_get (plan_nodes nodes)) same ∙ second.at))
    ∙ second.document)
    (repeats-targets nodes place)

once-by : (nodes : List DocumentNode) (place inner number : ℕ) (node : PlanNode) → place < length nodes → Form nodes place inner node (node_at nodes place).kind →
    ((next : ℕ) → is_in (entrances nodes place) next ≡ true → first_part nodes place + 1 ≡ next → (node_at nodes place).kind ≡ kind.Demux → ⊥) → repeats node.lower ≡ false
unfolding numbers
once-by nodes place inner number node less (Own p own first is) apart = ap (λ (x : PlanNode). repeats x.lower) is ∙ once-entered nodes place less
once-by nodes place inner number node less (Split p split first is) apart = ap (λ (x : PlanNode). repeats x.lower) is ∙ one-differs (first_part nodes place + 1)
once-by nodes place inner number node less (Behind p split first is) apart = ap (λ (x : PlanNode). repeats x.lower) is ∙ once-entered nodes place less
once-by nodes place inner number node less (Demux own first is) apart =
    ap (λ (x : PlanNode). repeats x.lower) is
    ∙ repeats-append (entrances nodes place) ((first_part nodes place + 1) ∷ []) (once-entered nodes place less) (one-differs (first_part nodes place + 1))
    (λ next front back. apart next front (in-one (first_part nodes place + 1) next back) own)
once-by nodes place inner number node less (DemuxError own first is) apart = ap (λ (x : PlanNode). repeats x.lower) is ∙ none-differs tt
once-by nodes place inner number node less (Input i own within first is) apart =
    ap (λ (x : PlanNode). repeats x.lower) is
    ∙ repeats-append (map (λ j. first_part nodes place + 2 * input_count nodes place + j) (numbers (target_count nodes place))) ((first_part nodes place + 2 * i + 1) ∷ [])
    (repeats-mapped (λ j. first_part nodes place + 2 * input_count nodes place + j) (numbers (target_count nodes place)) (λ x y one two same. omega (arith, same)) (repeats-range 0 (target_count nodes place)))
    (one-differs (first_part nodes place + 2 * i + 1))
    (λ next front back.
    let found : (j : ℕ) × (is_in (numbers (target_count nodes place)) j ≡ true) × (first_part nodes place + 2 * input_count nodes place + j ≡ next) =
    in-mapped (λ j. first_part nodes place + 2 * input_count nodes place + j) (numbers (target_count nodes place)) next front in
    omega (arith, within, found.2, in-one (first_part nodes place + 2 * i + 1) next back))
once-by nodes place inner number node less (InputError i own within first is) apart = ap (λ (x : PlanNode). repeats x.lower) is ∙ none-differs tt
once-by nodes place inner number node less (Target j own within first is) apart =
    ap (λ (x : PlanNode). repeats x.lower) is ∙ one-differs (entrance nodes place (slice_index_or (targets nodes place) j 0))

-- a target isn't entered at an error subordinate
not-error : (nodes : List DocumentNode) (place next : ℕ) → place < length nodes → is_in (entrances nodes place) next ≡ true → first_part nodes place + 1 ≡ next → (node_at nodes place).kind ≡ kind.Demux → ⊥
not-error nodes place next less there same own =
    let found : (to : ℕ) × (is_in (targets nodes place) to ≡ true) × (entrance nodes place to ≡ next) = in-mapped (entrance nodes place) (targets nodes place) next there in
    let node : Entered nodes found.0 (entrance nodes place found.0) =
    entered nodes place found.0 (target-known nodes (node_at nodes place) found.0 found.1) (target-upper nodes place found.0 less found.1) in
    let error : slice_get (plan_nodes nodes) next ≡ Some (error_part nodes place (codes ".err")) =
    at-kind nodes place 1 next (error_part nodes place (codes ".err")) kind.Demux less own refl (sym same) in
    true≢false (ap (λ (x : PlanNode). is_behind x.part) (Some-same (error_part nodes place (codes ".err")) node.node (sym error ∙ ap (slice_get (plan_nodes nodes)) (sym found.2) ∙ node.at)) ∙ node.outer)

lower-of : (plan : List PlanNode) (upper : ℕ) → ((node : PlanNode) → slice_get plan upper ≡ Some node → repeats node.lower ≡ false) → repeats (slice_index_or (map (λ (node : PlanNode). node.lower) plan) upper []) ≡ false
unfolding repeats
lower-of [] upper each = refl
lower-of (x ∷ xs) zero each = each x refl
lower-of (x ∷ xs) (suc upper) each = lower-of xs upper each

pub none-is_twice_below : NoneIsTwiceBelow
none-is_twice_below nodes upper =
    lower-of (plan_nodes nodes) upper (λ node at.
    let spot : Part_at nodes upper node = part-at nodes upper node at in
    once-by nodes spot.place spot.inner upper node spot.within spot.form (λ next there same own. not-error nodes spot.place next spot.within there same own))
