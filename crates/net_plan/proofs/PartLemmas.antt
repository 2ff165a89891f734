-- The parts of a document that can run: how many plan nodes stand below each, and the depths of the links to them.
use Rattle.std.proofs.Common.{◌≡◌, ◌<◌, ◌≤◌, ◌||◌, ℕ, Bool, true, false, cond, List, [], ◌∷◌, length, map, Option, Some, None, refl, sym, ◌∙◌, ap, subst, arith}
use Rattle.std.specs.Prelude.{filter_map, is_none, nat_lt, position, slice_get, slice_index_or, if◌then◌else◌}
use Rattle.std.specs.List.{cons_option, list_any, position_or_len}
use Rattle.std.proofs.lemmas.Bool.{false≢true, ltb-false, or_parts, true≢false}
use Rattle.std.proofs.lemmas.List.{length-map}
use Rattle.std.proofs.lemmas.List.Sums.{fails_before_first}
use Rattle.elaborate.proofs.Forms.{Form, Part_at, own_part, part-at, split_kind}
use Rattle.elaborate.proofs.Forms.Form.{Behind, Demux, DemuxError, Input, InputError, Own, Split, Target}
use Rattle.elaborate.proofs.Lists.{None-Some, Some-same}
use Rattle.elaborate.proofs.PlanFacts.{form-document}
use Rattle.elaborate.specs.Plan.{PlanNode, entrance, entrances, plan_nodes, targets}
use Rattle.elaborate.specs.Unbuilt.{is_unbuilt}
use Rattle.elaborate.specs.declared.part.Part.{Part}
use Rattle.elaborate.specs.declared.part.Part.TheVariants as part
use Rattle.net_plan.specs.PlanLaws.{CanRun}
use Rattle.node_graph.specs.Graph.{each_once}
use Rattle.topology.proofs.AcceptedFacts.{accepted-is_clean}
use Rattle.topology.specs.Document.{DocumentNode, NamedRegion, has_regions, is_memory, named, names_of, node_at, node_of_kind}
use Rattle.topology_text.specs.Form.{table_form}
use Rattle.topology_text.specs.Formed.{IsFormed, IsNumberAt}
use Rattle.topology_text.specs.Shape.{depth_limits}
use Rattle.topology_text.specs.declared.kind.Kind.{Kind}
use Rattle.topology_text.specs.declared.kind.Kind.TheVariants as kind

-- ---- kinds that can run

none-cond : (b : Bool) (x : ℕ) → cond b (Some x) None ≡ None → b ≡ false
none-cond true x e = absurd (None-Some x (sym e))
none-cond false x e = refl

none-passes : {X : Type 0} (p : X → Bool) (xs : List X) (k : ℕ) (d : X) → position p xs ≡ None → k < length xs → p (slice_index_or xs k d) ≡ false
none-passes p xs k d e less =
    let long : length xs ≤ position_or_len p xs = ltb-false (position_or_len p xs) (length xs) (none-cond (nat_lt (position_or_len p xs) (length xs)) (position_or_len p xs) e) in
    fails_before_first p xs k d (omega (arith, long, less))

module _ (nodes : List DocumentNode) (run : CanRun nodes) where
  pub is-built : (place : ℕ) → place < length nodes → is_unbuilt (node_at nodes place).kind ≡ false
  is-built place less = none-passes (λ (node : DocumentNode). is_unbuilt node.kind) nodes place (node_of_kind [] kind.Slice) run.built less

-- ---- targets

pick-own : (b c : Bool) (regions own : List (List ℕ)) → b ≡ false → c ≡ false → (if b then regions else if c then [] else own) ≡ own
pick-own true c regions own e f = absurd (true≢false e)
pick-own false true regions own e f = absurd (true≢false f)
pick-own false false regions own e f = refl

pick-none : (b c : Bool) (regions own : List (List ℕ)) → b ≡ false → c ≡ true → (if b then regions else if c then [] else own) ≡ []
pick-none true c regions own e f = absurd (true≢false e)
pick-none false true regions own e f = refl
pick-none false false regions own e f = absurd (false≢true f)

one-found : (find : List ℕ → Option ℕ) (name : List ℕ) → (is_none (find name) || false) ≡ false → length (each_once (filter_map find (name ∷ []))) ≡ 1
one-found find name e = go (find name) (or_parts (is_none (find name)) false e).0
  where
    go : (o : Option ℕ) → is_none o ≡ false → length (each_once (cons_option o [])) ≡ 1
    go None e = absurd (true≢false e)
    go (Some t) e = refl

module _ (nodes : List DocumentNode) (run : CanRun nodes) (place : ℕ) (less : place < length nodes) where
  entrances-long : length (entrances nodes place) ≡ length (targets nodes place)
  entrances-long = length-map (targets nodes place) (entrance nodes place)

  pub one-target : has_regions (node_at nodes place).kind ≡ false → is_memory (node_at nodes place).kind ≡ false → length (entrances nodes place) ≡ 1
  one-target no_regions no_memory =
      let names : names_of (node_at nodes place) ≡ (node_at nodes place).to ∷ [] =
      pick-own (has_regions (node_at nodes place).kind) (is_memory (node_at nodes place).kind) (map (λ (region : NamedRegion). region.to) (node_at nodes place).region) ((node_at nodes place).to ∷ []) no_regions no_memory in
      let known : list_any (λ name. is_none (named nodes name)) ((node_at nodes place).to ∷ []) ≡ false =
      ap (list_any (λ name. is_none (named nodes name))) (sym names) ∙ (accepted-is_clean nodes run.accepted place less).names_are_known in
      entrances-long ∙ ap (λ names. length (each_once (filter_map (named nodes) names))) names ∙ one-found (named nodes) (node_at nodes place).to known

  pub no-target : has_regions (node_at nodes place).kind ≡ false → is_memory (node_at nodes place).kind ≡ true → length (entrances nodes place) ≡ 0
  no-target no_regions memory =
      let names : names_of (node_at nodes place) ≡ [] =
      pick-none (has_regions (node_at nodes place).kind) (is_memory (node_at nodes place).kind) (map (λ (region : NamedRegion). region.to) (node_at nodes place).region) ((node_at nodes place).to ∷ []) no_regions memory in
      entrances-long ∙ ap (λ names. length (each_once (filter_map (named nodes) names))) names

-- ---- how many plan nodes stand below each part

abbrev pub LowersSuit : Part → List ℕ → Type 0
LowersSuit part.Manager lower = length lower ≡ 1
LowersSuit part.Mux lower = length lower ≡ 1
LowersSuit part.Slice lower = length lower ≡ 1
LowersSuit part.Remap lower = length lower ≡ 1
LowersSuit part.Up lower = length lower ≡ 1
LowersSuit part.Split lower = length lower ≡ 1
LowersSuit part.Lite lower = length lower ≡ 1
LowersSuit part.Demux lower = Unit {0}
LowersSuit part.Memory lower = length lower ≡ 0
LowersSuit part.LiteMemory lower = length lower ≡ 0
LowersSuit part.Error lower = length lower ≡ 0
LowersSuit other lower = ⊥

own-suits : (k : Kind) (p : Part) (lower : List ℕ) → own_part k ≡ Some p → is_unbuilt k ≡ false → (has_regions k ≡ false → is_memory k ≡ false → length lower ≡ 1) →
    (has_regions k ≡ false → is_memory k ≡ true → length lower ≡ 0) → LowersSuit p lower
own-suits kind.Manager p lower own built one none = subst (λ (q : Part). LowersSuit q lower) (Some-same part.Manager p own) (one refl refl)
own-suits kind.Memory p lower own built one none = subst (λ (q : Part). LowersSuit q lower) (Some-same part.Memory p own) (none refl refl)
own-suits kind.Slice p lower own built one none = subst (λ (q : Part). LowersSuit q lower) (Some-same part.Slice p own) (one refl refl)
own-suits kind.Mux p lower own built one none = subst (λ (q : Part). LowersSuit q lower) (Some-same part.Mux p own) (one refl refl)
own-suits kind.LiteMemory p lower own built one none = subst (λ (q : Part). LowersSuit q lower) (Some-same part.LiteMemory p own) (none refl refl)
own-suits kind.Remap p lower own built one none = subst (λ (q : Part). LowersSuit q lower) (Some-same part.Remap p own) (one refl refl)
own-suits kind.Up p lower own built one none = subst (λ (q : Part). LowersSuit q lower) (Some-same part.Up p own) (one refl refl)
own-suits other p lower own built one none = absurd (None-Some p own)

-- the one kind that can run and has a splitter above it
pub split-lite : (k : Kind) (p : Part) → split_kind k ≡ Some p → is_unbuilt k ≡ false → (k ≡ kind.Lite) × (p ≡ part.Lite)
split-lite kind.Down p split built = absurd (true≢false built)
split-lite kind.Lite p split built = (refl, sym (Some-same part.Lite p split))
split-lite other p split built = absurd (None-Some p split)

pub suits-by : (nodes : List DocumentNode) → CanRun nodes → (place inner : ℕ) (node : PlanNode) → place < length nodes → Form nodes place inner node (node_at nodes place).kind → LowersSuit node.part node.lower
suits-by nodes run place inner node less (Own p own first is) =
    subst (λ (n : PlanNode). LowersSuit n.part n.lower) (sym is)
    (own-suits (node_at nodes place).kind p (entrances nodes place) own (is-built nodes run place less) (one-target nodes run place less) (no-target nodes run place less))
suits-by nodes run place inner node less (Split p split first is) = subst (λ (n : PlanNode). LowersSuit n.part n.lower) (sym is) refl
suits-by nodes run place inner node less (Behind p split first is) =
    let lite = split-lite (node_at nodes place).kind p split (is-built nodes run place less) in
    subst (λ (n : PlanNode). LowersSuit n.part n.lower) (sym is)
    (subst (λ (q : Part). LowersSuit q (entrances nodes place)) (sym lite.1) (one-target nodes run place less (ap has_regions lite.0) (ap is_memory lite.0)))
suits-by nodes run place inner node less (Demux k first is) = subst (λ (n : PlanNode). LowersSuit n.part n.lower) (sym is) tt
suits-by nodes run place inner node less (DemuxError k first is) = subst (λ (n : PlanNode). LowersSuit n.part n.lower) (sym is) refl
suits-by nodes run place inner node less (Input i k within first is) = subst (λ (n : PlanNode). LowersSuit n.part n.lower) (sym is) tt
suits-by nodes run place inner node less (InputError i k within first is) = subst (λ (n : PlanNode). LowersSuit n.part n.lower) (sym is) refl
suits-by nodes run place inner node less (Target j k within first is) = subst (λ (n : PlanNode). LowersSuit n.part n.lower) (sym is) refl

pub lowers-suit : (nodes : List DocumentNode) → CanRun nodes → (number : ℕ) (node : PlanNode) → slice_get (plan_nodes nodes) number ≡ Some node → LowersSuit node.part node.lower
lowers-suit nodes run number node at = let spot : Part_at nodes number node = part-at nodes number node at in suits-by nodes run spot.place spot.inner node spot.within spot.form

-- ---- depths

own-not_memory : (k : Kind) (p : Part) → own_part k ≡ Some p → is_unbuilt k ≡ false → ((has_regions k ≡ false) → is_memory k ≡ true → ⊥) → is_memory k ≡ false
own-not_memory kind.Memory p own built none = absurd (none refl refl)
own-not_memory kind.LiteMemory p own built none = absurd (none refl refl)
own-not_memory other p own built none = refl

not-memory : (nodes : List DocumentNode) → CanRun nodes → (place inner : ℕ) (node : PlanNode) → place < length nodes → Form nodes place inner node (node_at nodes place).kind → 0 < length node.lower → is_memory (node_at nodes place).kind ≡ false
not-memory nodes run place inner node less (Own p own first is) some =
    own-not_memory (node_at nodes place).kind p own (is-built nodes run place less)
    (λ no_regions memory. omega (arith, some, ap (λ (n : PlanNode). length n.lower) is, no-target nodes run place less no_regions memory))
not-memory nodes run place inner node less (Split p split first is) some = ap is_memory (split-lite (node_at nodes place).kind p split (is-built nodes run place less)).0
not-memory nodes run place inner node less (Behind p split first is) some = ap is_memory (split-lite (node_at nodes place).kind p split (is-built nodes run place less)).0
not-memory nodes run place inner node less (Demux k first is) some = ap is_memory k
not-memory nodes run place inner node less (DemuxError k first is) some = ap is_memory k
not-memory nodes run place inner node less (Input i k within first is) some = ap is_memory k
not-memory nodes run place inner node less (InputError i k within first is) some = ap is_memory k
not-memory nodes run place inner node less (Target j k within first is) some = ap is_memory k

deep-by : (k : Kind) (depth : ℕ) → is_memory k ≡ false → IsNumberAt (table_form k).depth depth_limits depth → 0 < depth
unfolding table_form
deep-by kind.Manager depth e within = omega (arith, within.0)
deep-by kind.Slice depth e within = omega (arith, within.0)
deep-by kind.Mux depth e within = omega (arith, within.0)
deep-by kind.Demux depth e within = omega (arith, within.0)
deep-by kind.Crossbar depth e within = omega (arith, within.0)
deep-by kind.Remap depth e within = omega (arith, within.0)
deep-by kind.Up depth e within = omega (arith, within.0)
deep-by kind.Down depth e within = omega (arith, within.0)
deep-by kind.Lite depth e within = omega (arith, within.0)
deep-by kind.Memory depth e within = absurd (true≢false e)
deep-by kind.LiteMemory depth e within = absurd (true≢false e)

pub formed-at : (nodes : List DocumentNode) → CanRun nodes → (place : ℕ) → place < length nodes → IsFormed (node_at nodes place)
formed-at nodes run place less = run.formed place (node_of_kind [] kind.Slice) less

pub deep : (nodes : List DocumentNode) → CanRun nodes → (number : ℕ) (node : PlanNode) → slice_get (plan_nodes nodes) number ≡ Some node → 0 < length node.lower → 0 < (node_at nodes node.document).depth
deep nodes run number node at some =
    let spot : Part_at nodes number node = part-at nodes number node at in
    let depth : 0 < (node_at nodes spot.place).depth =
    deep-by (node_at nodes spot.place).kind (node_at nodes spot.place).depth (not-memory nodes run spot.place spot.inner node spot.within spot.form some) (formed-at nodes run spot.place spot.within).depth in
    subst (λ (k : ℕ). 0 < (node_at nodes k).depth) (sym (form-document nodes spot.place spot.inner node (node_at nodes spot.place).kind spot.form)) depth
