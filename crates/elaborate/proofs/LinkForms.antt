-- Where the links of a plan lead.
use Rattle.std.proofs.Common.{◌≡◌, ◌<◌, ◌+◌, ◌*◌, ◌++◌, ◌==◌, ℕ, zero, suc, Bool, true, false, cond, not, List, [], ◌∷◌, length, map, Some, refl, sym, ◌∙◌, ap, inl, inr, arith}
use Rattle.std.specs.Prelude.{◌⊎◌, codes, decimal, filter_map, slice_get, slice_index_or, if◌then◌else◌}
use Rattle.std.proofs.lemmas.Bool.{cases_Bool, eq-eqb, eqb-true, false≢true, or_cases, or_parts, true≢false}
use Rattle.node_graph.specs.Graph.{is_in, numbers}
use Rattle.node_graph.specs.Order.{place_in, repeats}
use Rattle.node_graph.proofs.Levels.{in-append}
use Rattle.node_graph.proofs.Members.{in-numbers, repeats-each_once}
use Rattle.node_graph.proofs.Ways.{below-above}
use Rattle.topology.proofs.AcceptedFacts.{below-targets}
use Rattle.topology.specs.Document.{DocumentNode, graph_of, is_manager, named, names_of, node_at, uppers_of}
use Rattle.topology_text.specs.declared.kind.Kind.{Kind}
use Rattle.topology_text.specs.declared.kind.Kind.TheVariants as kind
use Rattle.elaborate.specs.Laws.{is_first, is_mux}
use Rattle.elaborate.specs.Plan.{PlanNode, demux_itself, entrance, entrances, error_part, first_part, input_demux, is_crossbar, itself, parts_by_kind, plan_nodes, split_part, targets}
use Rattle.elaborate.specs.declared.part.Part.{Part}
use Rattle.elaborate.specs.declared.part.Part.TheVariants as part
use Rattle.elaborate.proofs.Forms.{Form, at-part, get-behind, get-input, get-own, input_count, own_part, split_kind, target_count}
use Rattle.elaborate.proofs.Forms.Form.{Behind, Demux, DemuxError, Input, InputError, Own, Split, Target}
use Rattle.elaborate.proofs.Lists.{None-Some, in-mapped, in-one, nth-in}

-- ---- places in lists

pub place-within : (xs : List ℕ) (x : ℕ) → is_in xs x ≡ true → place_in xs x < length xs
place-within [] x e = absurd (false≢true e)
place-within (y ∷ ys) x e =
    elim (or_cases (y == x) (is_in ys x) e) [
      | inl here ↦ small (y == x) (place_in ys x) (length ys) (inl here)
      | inr there ↦ small (y == x) (place_in ys x) (length ys) (inr (place-within ys x there))
    ]
  where
    small : (b : Bool) (n m : ℕ) → (b ≡ true) ⊎ (n < m) → cond (not b) (1 + n) 0 < suc m
    small true n m e = omega arith
    small false n m (inl e) = absurd (false≢true e)
    small false n m (inr e) = omega (arith, e)

pub place-nth : (xs : List ℕ) (j : ℕ) → repeats xs ≡ false → j < length xs → place_in xs (slice_index_or xs j 0) ≡ j
unfolding repeats
place-nth [] j once less = absurd (omega (arith, less))
place-nth (x ∷ xs) zero once less = first (x == x) (place_in xs x) (eq-eqb x x refl)
  where
    first : (b : Bool) (n : ℕ) → b ≡ true → cond (not b) (1 + n) 0 ≡ 0
    first true n e = refl
    first false n e = absurd (false≢true e)
place-nth (x ∷ xs) (suc j) once less =
    let parts : (is_in xs x ≡ false) × (repeats xs ≡ false) = or_parts (is_in xs x) (repeats xs) once in
    let again : place_in xs (slice_index_or xs j 0) ≡ j = place-nth xs j parts.1 (omega (arith, less)) in
    elim (cases_Bool (x == slice_index_or xs j 0)) [
      | inl same ↦ absurd (true≢false (sym (nth-in xs j (omega (arith, less))) ∙ ap (is_in xs) (sym (eqb-true x (slice_index_or xs j 0) same)) ∙ parts.0))
      | inr other ↦ later (x == slice_index_or xs j 0) (place_in xs (slice_index_or xs j 0)) j other again
    ]
  where
    later : (b : Bool) (n m : ℕ) → b ≡ false → n ≡ m → cond (not b) (1 + n) 0 ≡ suc m
    later true n m e same = absurd (true≢false e)
    later false n m e same = omega (arith, same)

-- ---- where a document node is entered

-- the parts that stand behind another one of their document node
abbrev pub is_behind : Part → Bool
is_behind part.Error = true
is_behind part.Down = true
is_behind part.Lite = true
is_behind other = false

-- the step of a part within its document node: 1 where it stands behind another part of it, or may do so
abbrev pub step_of : Part → ℕ
step_of part.Error = 1
step_of part.Down = 1
step_of part.Lite = 1
step_of part.Mux = 1
step_of other = 0

abbrev pub is_mux_kind : Kind → Bool
is_mux_kind kind.Mux = true
is_mux_kind other = false

pub record Entered (nodes : List DocumentNode) (to number : ℕ) : Type 0 where
  pub node : PlanNode
  pub at : slice_get (plan_nodes nodes) number ≡ Some node
  pub document : node.document ≡ to
  pub outer : is_behind node.part ≡ false
  pub joint : is_mux node.part ≡ is_mux_kind (node_at nodes to).kind
  pub first : is_first node.part ≡ is_manager (node_at nodes to).kind

abbrev entrance_by : List DocumentNode → ℕ → ℕ → Kind → ℕ
entrance_by nodes upper to k = if is_crossbar k then first_part nodes to + 2 * place_in (uppers_of nodes to) upper else first_part nodes to

Some-part : (p q : Part) → Some p ≡ Some q → p ≡ q
Some-part p q e = cc

own-outer : (k : Kind) (p : Part) → own_part k ≡ Some p → (is_behind p ≡ false) × (is_mux p ≡ is_mux_kind k) × (is_first p ≡ is_manager k)
own-outer kind.Manager p e = let same : p ≡ part.Manager = sym (Some-part part.Manager p e) in (ap is_behind same, ap is_mux same, ap is_first same)
own-outer kind.Memory p e = let same : p ≡ part.Memory = sym (Some-part part.Memory p e) in (ap is_behind same, ap is_mux same, ap is_first same)
own-outer kind.LiteMemory p e = let same : p ≡ part.LiteMemory = sym (Some-part part.LiteMemory p e) in (ap is_behind same, ap is_mux same, ap is_first same)
own-outer kind.Slice p e = let same : p ≡ part.Slice = sym (Some-part part.Slice p e) in (ap is_behind same, ap is_mux same, ap is_first same)
own-outer kind.Mux p e = let same : p ≡ part.Mux = sym (Some-part part.Mux p e) in (ap is_behind same, ap is_mux same, ap is_first same)
own-outer kind.Remap p e = let same : p ≡ part.Remap = sym (Some-part part.Remap p e) in (ap is_behind same, ap is_mux same, ap is_first same)
own-outer kind.Up p e = let same : p ≡ part.Up = sym (Some-part part.Up p e) in (ap is_behind same, ap is_mux same, ap is_first same)
own-outer other p e = absurd (None-Some p e)

pub at-kind : (nodes : List DocumentNode) (place inner number : ℕ) (node : PlanNode) (k : Kind) → place < length nodes → (node_at nodes place).kind ≡ k → slice_get (parts_by_kind nodes place k) inner ≡ Some node → number ≡ first_part nodes place + inner →
    slice_get (plan_nodes nodes) number ≡ Some node
at-kind nodes place inner number node k less is at sum =
    at-part nodes place inner number node less (ap (λ k. slice_get (parts_by_kind nodes place k) inner) is ∙ at) sum

entered-own : (nodes : List DocumentNode) (upper to : ℕ) (k : Kind) (p : Part) → to < length nodes → (node_at nodes to).kind ≡ k → own_part k ≡ Some p → Entered nodes to (first_part nodes to)
entered-own nodes upper to k p less is own =
    record { node = itself nodes to p; at = at-kind nodes to 0 (first_part nodes to) (itself nodes to p) k less is (get-own nodes to p k own) (omega arith); document = refl; outer = (own-outer k p own).0; joint = (own-outer k p own).1 ∙ ap is_mux_kind (sym is); first = (own-outer k p own).2 ∙ ap is_manager (sym is) }

entered-by : (nodes : List DocumentNode) (upper to : ℕ) (k : Kind) → to < length nodes → (node_at nodes to).kind ≡ k → is_in (uppers_of nodes to) upper ≡ true → Entered nodes to (entrance_by nodes upper to k)
entered-by nodes upper to kind.Manager less is there = entered-own nodes upper to kind.Manager part.Manager less is refl
entered-by nodes upper to kind.Memory less is there = entered-own nodes upper to kind.Memory part.Memory less is refl
entered-by nodes upper to kind.LiteMemory less is there = entered-own nodes upper to kind.LiteMemory part.LiteMemory less is refl
entered-by nodes upper to kind.Slice less is there = entered-own nodes upper to kind.Slice part.Slice less is refl
entered-by nodes upper to kind.Mux less is there = entered-own nodes upper to kind.Mux part.Mux less is refl
entered-by nodes upper to kind.Remap less is there = entered-own nodes upper to kind.Remap part.Remap less is refl
entered-by nodes upper to kind.Up less is there = entered-own nodes upper to kind.Up part.Up less is refl
entered-by nodes upper to kind.Down less is there =
    record { node = split_part nodes to; at = at-kind nodes to 0 (first_part nodes to) (split_part nodes to) kind.Down less is refl (omega arith); document = refl; outer = refl; joint = ap is_mux_kind (sym is); first = ap is_manager (sym is) }
entered-by nodes upper to kind.Lite less is there =
    record { node = split_part nodes to; at = at-kind nodes to 0 (first_part nodes to) (split_part nodes to) kind.Lite less is refl (omega arith); document = refl; outer = refl; joint = ap is_mux_kind (sym is); first = ap is_manager (sym is) }
entered-by nodes upper to kind.Demux less is there =
    record { node = demux_itself nodes to; at = at-kind nodes to 0 (first_part nodes to) (demux_itself nodes to) kind.Demux less is refl (omega arith); document = refl; outer = refl; joint = ap is_mux_kind (sym is); first = ap is_manager (sym is) }
entered-by nodes upper to kind.Crossbar less is there =
    let i : ℕ = place_in (uppers_of nodes to) upper in
    record {
      node = input_demux nodes to (place_in (uppers_of nodes to) upper);
      at = at-kind nodes to (2 * place_in (uppers_of nodes to) upper + 0) (first_part nodes to + 2 * place_in (uppers_of nodes to) upper) (input_demux nodes to (place_in (uppers_of nodes to) upper)) kind.Crossbar less is
          (get-input nodes to (place_in (uppers_of nodes to) upper) 0 (input_demux nodes to (place_in (uppers_of nodes to) upper)) (place-within (uppers_of nodes to) upper there) refl) (omega arith);
      document = refl;
      outer = refl;
      joint = ap is_mux_kind (sym is);
      first = ap is_manager (sym is);
    }

pub entered : (nodes : List DocumentNode) (upper to : ℕ) → to < length nodes → is_in (uppers_of nodes to) upper ≡ true → Entered nodes to (entrance nodes upper to)
entered nodes upper to less there = entered-by nodes upper to (node_at nodes to).kind less refl there

-- a target of a node has it among its uppers
pub target-upper : (nodes : List DocumentNode) (place to : ℕ) → place < length nodes → is_in (targets nodes place) to ≡ true → is_in (uppers_of nodes to) place ≡ true
target-upper nodes place to less there = below-above (graph_of nodes) to place (ap (λ (ts : List ℕ). is_in ts to) (below-targets nodes place less) ∙ there)

-- no target stands twice
pub repeats-targets : (nodes : List DocumentNode) (place : ℕ) → repeats (targets nodes place) ≡ false
repeats-targets nodes place = repeats-each_once (filter_map (named nodes) (names_of (node_at nodes place)))

-- ---- links

-- the part from which a document node's links lead to its targets, by its place among the parts
abbrev pub exit_by : Kind → ℕ → ℕ → ℕ
exit_by kind.Crossbar inputs port = 2 * inputs + port
exit_by kind.Down inputs port = 1
exit_by kind.Lite inputs port = 1
exit_by other inputs port = 0

abbrev pub exit_of : List DocumentNode → ℕ → ℕ → ℕ
exit_of nodes place to = exit_by (node_at nodes place).kind (input_count nodes place) (place_in (targets nodes place) to)

-- a part that stands behind the one before it
pub record BehindIt (nodes : List DocumentNode) (place number : ℕ) : Type 0 where
  pub node : PlanNode
  pub at : slice_get (plan_nodes nodes) number ≡ Some node
  pub document : node.document ≡ place
  pub behind : is_behind node.part ≡ true

-- where a link leads from a part: to a target of its document node, to the part behind it, or from a crossbar's input to
-- a target's mux
pub data Leads (nodes : List DocumentNode) (place inner : ℕ) (node : PlanNode) (next : ℕ) : Type 0 where
  Enters : (to : ℕ) → is_in (targets nodes place) to ≡ true → next ≡ entrance nodes place to → inner ≡ exit_of nodes place to → Leads nodes place inner node next
  Steps : step_of node.part ≡ 0 → next ≡ suc (first_part nodes place + inner) → BehindIt nodes place next → Leads nodes place inner node next
  Joins : (i j : ℕ) → step_of node.part ≡ 0 → (node_at nodes place).kind ≡ kind.Crossbar → i < input_count nodes place → inner ≡ 2 * i → j < target_count nodes place →
      next ≡ first_part nodes place + (2 * input_count nodes place + j) → Leads nodes place inner node next

own-exit : (k : Kind) (p : Part) (inputs port : ℕ) → own_part k ≡ Some p → exit_by k inputs port ≡ 0
own-exit kind.Crossbar p inputs port e = absurd (None-Some p e)
own-exit kind.Down p inputs port e = absurd (None-Some p e)
own-exit kind.Lite p inputs port e = absurd (None-Some p e)
own-exit other p inputs port e = refl

split-exit : (k : Kind) (p : Part) (inputs port : ℕ) → split_kind k ≡ Some p → exit_by k inputs port ≡ 1
split-exit kind.Down p inputs port e = refl
split-exit kind.Lite p inputs port e = refl
split-exit other p inputs port e = absurd (None-Some p e)

enters : (nodes : List DocumentNode) (place inner : ℕ) (node : PlanNode) (next : ℕ) → is_in (entrances nodes place) next ≡ true → ((to : ℕ) → inner ≡ exit_of nodes place to) → Leads nodes place inner node next
enters nodes place inner node next e exit =
    let found : (to : ℕ) × (is_in (targets nodes place) to ≡ true) × (entrance nodes place to ≡ next) = in-mapped (entrance nodes place) (targets nodes place) next e in
    Enters found.0 found.1 (sym found.2) (exit found.0)

pub split-behind : (k : Kind) (p : Part) → split_kind k ≡ Some p → is_behind p ≡ true
split-behind kind.Down p e = ap is_behind (sym (Some-part part.Down p e))
split-behind kind.Lite p e = ap is_behind (sym (Some-part part.Lite p e))
split-behind other p e = absurd (None-Some p e)

pub leads : (nodes : List DocumentNode) (place inner next : ℕ) (node : PlanNode) → place < length nodes → Form nodes place inner node (node_at nodes place).kind → is_in node.lower next ≡ true → Leads nodes place inner node next
unfolding numbers
leads nodes place inner next node less (Own p own first is) e =
    enters nodes place inner node next (ap (λ (x : PlanNode). is_in x.lower next) (sym is) ∙ e)
    (λ to. first ∙ sym (own-exit (node_at nodes place).kind p (input_count nodes place) (place_in (targets nodes place) to) own))
leads nodes place inner next node less (Split p split first is) e =
    let same : first_part nodes place + 1 ≡ next = in-one (first_part nodes place + 1) next (ap (λ (x : PlanNode). is_in x.lower next) (sym is) ∙ e) in
    Steps (ap (λ (x : PlanNode). step_of x.part) is) (omega (arith, same, first)) (record {
      node = itself nodes place p;
      at = at-kind nodes place 1 next (itself nodes place p) (node_at nodes place).kind less refl (get-behind nodes place p (node_at nodes place).kind split) (sym same);
      document = refl;
      behind = split-behind (node_at nodes place).kind p split;
    })
leads nodes place inner next node less (Behind p split first is) e =
    enters nodes place inner node next (ap (λ (x : PlanNode). is_in x.lower next) (sym is) ∙ e)
    (λ to. first ∙ sym (split-exit (node_at nodes place).kind p (input_count nodes place) (place_in (targets nodes place) to) split))
leads nodes place inner next node less (Demux k first is) e =
    elim (in-append (entrances nodes place) ((first_part nodes place + 1) ∷ []) next (ap (λ (x : PlanNode). is_in x.lower next) (sym is) ∙ e)) [
      | inl front ↦ enters nodes place inner node next front (λ to. first ∙ ap (λ k. exit_by k (input_count nodes place) (place_in (targets nodes place) to)) (sym k))
      | inr back ↦
          let same : first_part nodes place + 1 ≡ next = in-one (first_part nodes place + 1) next back in
          Steps (ap (λ (x : PlanNode). step_of x.part) is) (omega (arith, same, first)) (record {
            node = error_part nodes place (codes ".err");
            at = at-kind nodes place 1 next (error_part nodes place (codes ".err")) kind.Demux less k refl (sym same);
            document = refl;
            behind = refl;
          })
    ]
leads nodes place inner next node less (DemuxError k first is) e = absurd (false≢true (ap (λ (x : PlanNode). is_in x.lower next) (sym is) ∙ e))
leads nodes place inner next node less (Input i k within first is) e =
    elim (in-append (map (λ j. first_part nodes place + 2 * input_count nodes place + j) (numbers (target_count nodes place))) ((first_part nodes place + 2 * i + 1) ∷ []) next (ap (λ (x : PlanNode). is_in x.lower next) (sym is) ∙ e)) [
      | inl front ↦
          let found : (j : ℕ) × (is_in (numbers (target_count nodes place)) j ≡ true) × (first_part nodes place + 2 * input_count nodes place + j ≡ next) =
          in-mapped (λ j. first_part nodes place + 2 * input_count nodes place + j) (numbers (target_count nodes place)) next front in
          Joins i found.0 (ap (λ (x : PlanNode). step_of x.part) is) k within first (in-numbers (target_count nodes place) found.0 found.1) (omega (arith, found.2))
      | inr back ↦
          let same : first_part nodes place + 2 * i + 1 ≡ next = in-one (first_part nodes place + 2 * i + 1) next back in
          Steps (ap (λ (x : PlanNode). step_of x.part) is) (omega (arith, same, first)) (record {
            node = error_part nodes place (codes ".e" ++ decimal i);
            at = at-kind nodes place (2 * i + 1) next (error_part nodes place (codes ".e" ++ decimal i)) kind.Crossbar less k
                (get-input nodes place i 1 (error_part nodes place (codes ".e" ++ decimal i)) within refl) (omega (arith, same));
            document = refl;
            behind = refl;
          })
    ]
leads nodes place inner next node less (InputError i k within first is) e = absurd (false≢true (ap (λ (x : PlanNode). is_in x.lower next) (sym is) ∙ e))
leads nodes place inner next node less (Target j k within first is) e =
    let same : entrance nodes place (slice_index_or (targets nodes place) j 0) ≡ next =
    in-one (entrance nodes place (slice_index_or (targets nodes place) j 0)) next (ap (λ (x : PlanNode). is_in x.lower next) (sym is) ∙ e) in
    let port : place_in (targets nodes place) (slice_index_or (targets nodes place) j 0) ≡ j = place-nth (targets nodes place) j (repeats-targets nodes place) within in
    Enters (slice_index_or (targets nodes place) j 0) (nth-in (targets nodes place) j within) (sym same)
    (first ∙ ap (λ j. 2 * input_count nodes place + j) (sym port) ∙ ap (λ k. exit_by k (input_count nodes place) (place_in (targets nodes place) (slice_index_or (targets nodes place) j 0))) (sym k))
