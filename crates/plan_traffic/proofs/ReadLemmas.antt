-- Lines that are read once: none that was read is refused, and those that were read aren't too much.
use Rattle.std.proofs.Common.{◌≡◌, ℕ, ◌+◌, ◌<◌, ◌≤◌, ◌||◌, false, cond, Bool, List, [], ◌∷◌, ◌++◌, Option, Some, None, length, nat_lt, get_or, set, refl, sym, ◌∙◌, ap, ap₂, subst, arith}
use Rattle.std.specs.Prelude.{IfSome}
use Rattle.std.specs.List.{AllByRecursion, cons_option}
use Rattle.std.specs.Option.{option_map, option_or}
use Rattle.std.proofs.lemmas.Bool.{le-ltb, ltb-false, or_parts}
use Rattle.std.proofs.lemmas.List.{append-nil}
use Rattle.std.proofs.Math.ListN.{replicate}
use Rattle.plain_text.specs.Lines.{lines}
use Rattle.plan_traffic.specs.Line.{Access, Asks, line_said}
use Rattle.plan_traffic.specs.LineRefusals.{burst_refusal, lesser_of, least_refusal}
use Rattle.plan_traffic.specs.Orders.{Order, Holds, Issues, is_too_much, issued, order_by, order_said, orders_of, total_beats}
use Rattle.plan_traffic.specs.Steps.{beats_ordered, counts_by, item_of, items_by, IsAdded, IsFitting, IsTaken}
use Rattle.plan_traffic.specs.Traffic.{TrafficItem, after_issue, none_yet, traffic_of, traffic_refusal}
use Rattle.plan_traffic.specs.declared.build.Count.{Count}
use Rattle.refusals.specs.Refusal.{refused_for}
use Rattle.refusals.specs.declared.cause.Cause.TheVariants.{TooMuchTraffic}
use Rattle.refusals.specs.declared.refusal.Refusal.{Refusal}
use Rattle.topology.specs.Document.{node_at}
use Rattle.topology.specs.Wiring.{manager_named}
use Rattle.topology_text.specs.Document.{DocumentNode}
use Rattle.plan_traffic.proofs.BuildLemmas.{IsBuilt, built-first, built-line}
use Rattle.plan_traffic.proofs.KnownLemmas.{items-length}

-- what was made of the lines before the rest of a text, and what is left to be shown of the text
pub record IsRead (nodes : List DocumentNode) (text : List ℕ) (items : List TrafficItem) (counts : List Count) (beats : ℕ) (rest : List ℕ) : Type 0 where
  pub built : IsBuilt nodes text items counts rest
  pub taken : AllByRecursion (IsTaken nodes) (lines rest) → AllByRecursion (IsTaken nodes) (lines text)
  pub total : beats + total_beats (issued (orders_of nodes (lines rest))) ≡ total_beats (issued (orders_of nodes (lines text)))
  pub few : length items ≤ 16384
  pub small : beats ≤ 262144

pub read-first : (nodes : List DocumentNode) (text : List ℕ) (counts : List Count) → counts ≡ replicate (length nodes) none_yet → IsRead nodes text [] counts 0 text
read-first nodes text counts is = record {
  built = built-first nodes text counts is;
  taken = λ all. all;
  total = omega arith;
  few = omega arith;
  small = omega arith;
}

total-by : (o : Option Order) (more : List Order) → total_beats (issued (cons_option o more)) ≡ beats_ordered o + total_beats (issued more)
total-by None more = omega arith
total-by (Some (Holds place)) more = omega arith
total-by (Some (Issues place access)) more = refl

-- a burst that is allowed
pub added-burst : (nodes : List DocumentNode) (access : Access) (place : ℕ) (items after : List TrafficItem) (counts later : List Count)
    → manager_named nodes access.start.manager ≡ Some place → place < length nodes → ((number : ℕ) → burst_refusal number access (Some (node_at nodes place)) ≡ None) → access.beats ≤ 256
    → after ≡ items ++ item_of (length items + 1) (get_or counts place none_yet).awaited place access ∷ [] → later ≡ set counts place (after_issue (get_or counts place none_yet))
    → IsAdded nodes (Some (Asks access)) items counts after later access.beats
added-burst nodes access place items after counts later at inside allowed few after_is later_is =
    let order : order_by nodes (Some (Asks access)) ≡ Some (Issues place access) = ap (option_map (λ p. Issues p access)) at in
    record {
      taken = λ number. ap (burst_refusal number access) (ap (option_map (node_at nodes)) at) ∙ allowed number;
      fits = subst (λ (o : Option Order). IfSome o (IsFitting (length nodes))) (sym order) (inside, omega arith);
      few = few;
      beats_are = ap beats_ordered (sym order);
      items_are = after_is ∙ ap (λ o. items ++ items_by counts (length items + 1) o) (sym order);
      counts_are = later_is ∙ ap (counts_by counts) (sym order);
    }

-- one more line that isn't refused
pub read-line : (nodes : List DocumentNode) (text : List ℕ) (items after : List TrafficItem) (counts later : List Count) (beats more_beats : ℕ) (line rest more : List ℕ)
    → lines rest ≡ line ∷ lines more → length more < length rest → IsAdded nodes (line_said line) items counts after later more_beats
    → length after ≤ 16384 → beats + more_beats ≤ 262144
    → IsRead nodes text items counts beats rest → IsRead nodes text after later (beats + more_beats) more
unfolding order_said
read-line nodes text items after counts later beats more_beats line rest more is shorter a few small r =
    let many : length counts ≡ length nodes = r.built.as_many in
    let items_are : after ≡ items ++ items_by counts (length items + 1) (order_said nodes line) = a.items_are in
    let counts_are : later ≡ counts_by counts (order_said nodes line) = a.counts_are in
    let fits : IfSome (order_said nodes line) (IsFitting (length nodes)) = a.fits in
    let taken : IsTaken nodes line = a.taken in
    let beats_are : more_beats ≡ beats_ordered (order_said nodes line) = a.beats_are in
    let orders : total_beats (issued (orders_of nodes (lines rest))) ≡ beats_ordered (order_said nodes line) + total_beats (issued (orders_of nodes (lines more))) =
    ap (λ ls. total_beats (issued (orders_of nodes ls))) is ∙ total-by (order_said nodes line) (orders_of nodes (lines more)) in
    let total = r.total in
    record {
      built = built-line nodes text items after counts later line rest more is shorter items_are counts_are (subst (λ (n : ℕ). IfSome (order_said nodes line) (IsFitting n)) (sym many) fits) r.built;
      taken = λ all. r.taken (subst (AllByRecursion (IsTaken nodes)) (sym is) (taken, all));
      total = omega (arith, orders, total, beats_are);
      few = few;
      small = small;
    }

least-taken : (nodes : List DocumentNode) (number : ℕ) (lines : List (List ℕ)) → AllByRecursion (IsTaken nodes) lines → least_refusal nodes number lines ≡ None
least-taken nodes number [] all = refl
least-taken nodes number (line ∷ more) all = ap₂ lesser_of (all.0 number) (least-taken nodes (number + 1) more all.1)

not-too-much : (transactions beats : ℕ) → transactions ≤ 16384 → beats ≤ 262144 → (nat_lt 16384 transactions || nat_lt 262144 beats) ≡ false
not-too-much transactions beats few small = ap₂ (λ (a b : Bool). a || b) (le-ltb 16384 transactions few) (le-ltb 262144 beats small)

-- what is known where they aren't
pub within-most : (transactions beats : ℕ) → (nat_lt 16384 transactions || nat_lt 262144 beats) ≡ false → (transactions ≤ 16384) × (beats ≤ 262144)
within-most transactions beats e =
    let both = or_parts (nat_lt 16384 transactions) (nat_lt 262144 beats) e in
    (ltb-false 16384 transactions both.0, ltb-false 262144 beats both.1)

-- at the end of the text
pub read-end : (nodes : List DocumentNode) (text : List ℕ) (items : List TrafficItem) (counts : List Count) (beats : ℕ) (rest : List ℕ) → length rest ≡ 0
    → IsRead nodes text items counts beats rest → (traffic_refusal nodes (lines text) ≡ None) × (items ≡ traffic_of nodes (lines text))
read-end nodes text items counts beats (byte ∷ rest) none r = absurd (omega arith)
read-end nodes text items counts beats [] none r =
    let made : items ≡ traffic_of nodes (lines text) = sym (append-nil items) ∙ r.built.made in
    let many : length items ≡ length (issued (orders_of nodes (lines text))) = ap length made ∙ items-length [] (orders_of nodes (lines text)) in
    let few : length (issued (orders_of nodes (lines text))) ≤ 16384 = omega (arith, r.few) in
    let total : beats + 0 ≡ total_beats (issued (orders_of nodes (lines text))) = r.total in
    let small : total_beats (issued (orders_of nodes (lines text))) ≤ 262144 = omega (arith, r.small) in
    let least : least_refusal nodes 1 (lines text) ≡ None = least-taken nodes 1 (lines text) (r.taken tt) in
    let much : is_too_much (issued (orders_of nodes (lines text))) ≡ false = not-too-much (length (issued (orders_of nodes (lines text)))) (total_beats (issued (orders_of nodes (lines text)))) few small in
    (ap₂ (λ (why : Option Refusal) (b : Bool). option_or why (cond b (Some (refused_for TooMuchTraffic)) None)) least much, made)
