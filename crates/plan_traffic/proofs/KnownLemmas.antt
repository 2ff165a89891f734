-- What is known of the transactions of lines that aren't refused.
use Rattle.std.proofs.Common.{◌≡◌, ℕ, ◌+◌, ◌-◌, ◌*◌, ◌^◌, ◌<◌, ◌≤◌, ◌==◌, ◌⊎◌, Bool, true, false, cond, List, [], ◌∷◌, ◌++◌, Option, Some, None, length, nat_lt, suc, inl, inr, refl, sym, ◌∙◌, ap, subst, arith}
use Rattle.std.specs.List.{AllByRecursion}
use Rattle.std.specs.Option.{option_or}
use Rattle.std.proofs.lemmas.Bool.{eqb-true, ltb-false, ltb-true, or_parts}
use Rattle.std.proofs.lemmas.List.{append-nil, length-append}
use Rattle.std.proofs.lemmas.List.Elements.{All-from_recursion}
use Rattle.std.proofs.lemmas.Grind.{fold-append}
use Rattle.axi_beats.specs.declared.beat.Burst.{Burst}
use Rattle.axi_beats.specs.declared.beat.Burst.TheVariants.{Fixed, Incr, Wrap}
use Rattle.burst_address.specs.Bytes.{burst_bytes}
use Rattle.burst_address.specs.Legal.{IsLegal, is_length_of}
use Rattle.burst_address.proofs.Legality.{legal-length, wrap_length}
use Rattle.std.proofs.Math.Nat.{pow-le-pow_right}
use Rattle.std.proofs.lemmas.Option.{slice_get_within}
use Rattle.plan_traffic.specs.Steps.{IsFitting}
use Rattle.plan_traffic.specs.Accepted.{AcceptedSuits, AreInOrder, Suits, beats_in, last_after, items_of_manager}
use Rattle.plan_traffic.specs.Line.{Access, first_pairs, other_pairs, other_pairs_of}
use Rattle.plan_traffic.specs.Orders.{Order, Holds, Issues, is_too_much, issued, orders_of, total_beats}
use Rattle.plan_traffic.specs.Traffic.{TrafficItem, item_after, items_after, none_yet, traffic_of, traffic_refusal, count_after, after_order, after_wait, after_issue}
use Rattle.plan_traffic.specs.declared.build.Count.{Count}
use Rattle.topology_text.specs.Document.{DocumentNode}
use Rattle.plan_traffic.proofs.AcceptLemmas.{IsAccepted, IsAllowed, lines-allowed}
use Rattle.plan_traffic.proofs.BuildLemmas.{issued-append}
use Rattle.plan_traffic.proofs.BurstLemmas.{burst-length, legal-widest, other_by}
use Rattle.plan_traffic.proofs.FormLemmas.{IsForm}
use Rattle.plan_traffic.specs.LineRefusals.{least_refusal, request_said}
use Rattle.refusals.specs.declared.refusal.Refusal.{Refusal}
use Rattle.refusals.specs.Refusal.{refused_for}
use Rattle.refusals.specs.declared.cause.Cause.TheVariants.{TooMuchTraffic}

-- ---- each transaction suits its manager

-- a write has a byte for each valid byte
write-bytes : (access : Access) (bus : ℕ) → IsLegal (request_said access) bus → length (burst_bytes (request_said access)) ≡ first_pairs access.start + (access.beats - 1) * other_pairs access.start
write-bytes access bus legal = burst-length (request_said access) bus legal ∙ ap (λ n. first_pairs access.start + (access.beats - 1) * n) (other access.start.burst)
  where
    other : (burst : Burst) → other_by burst (request_said access) ≡ other_pairs_of burst access.start
    other Fixed = refl
    other Incr = refl
    other Wrap = refl

accepted-suits : (nodes : List DocumentNode) (before : List Order) (place : ℕ) (access : Access) → IsAccepted nodes place access → Suits nodes (item_after before place access)
accepted-suits nodes before place access a =
    let form : IsForm access = a.form in
    record {
      node = a.node;
      is_node = a.is_node;
      manager = a.manager;
      id = a.id;
      legal = a.legal;
      legal_on_widest = legal-widest (request_said access) a.node.bus form.size a.legal;
      addr = form.addr;
      untagged = refl;
      bytes = form.bytes ∙ ap (λ n. cond access.write n 0) (sym (write-bytes access a.node.bus a.legal));
      values = form.values;
    }

all-suit : (nodes : List DocumentNode) (before orders : List Order) → AllByRecursion (IsAllowed nodes) orders → AllByRecursion (Suits nodes) (items_after before orders)
all-suit nodes before [] all = tt
all-suit nodes before (Holds place ∷ more) all = all-suit nodes (before ++ Holds place ∷ []) more all.1
all-suit nodes before (Issues place access ∷ more) all = (accepted-suits nodes before place access all.0, all-suit nodes (before ++ Issues place access ∷ []) more all.1)

-- ---- transactions in order

-- a count tells of the transactions of a manager before a place
record Tells (place : ℕ) (items : List TrafficItem) (count : Count) : Type 0 where
  all : count.all ≡ length (items_of_manager place items)
  within : count.awaited ≤ length (items_of_manager place items)
  awaited : (count.awaited ≡ length (items_of_manager place items)) ⊎ (count.awaited ≡ last_after (items_of_manager place items))

filter-append : (place : ℕ) (xs ys : List TrafficItem) → items_of_manager place (xs ++ ys) ≡ items_of_manager place xs ++ items_of_manager place ys
filter-append place [] ys = refl
filter-append place (x ∷ xs) ys =
    elim (x.manager == place) as (λ b. cond b (x ∷ items_of_manager place (xs ++ ys)) (items_of_manager place (xs ++ ys)) ≡ cond b (x ∷ items_of_manager place xs) (items_of_manager place xs) ++ items_of_manager place ys) [
      | true ↦ ap (λ t. x ∷ t) (filter-append place xs ys)
      | false ↦ filter-append place xs ys
    ]

last-push : (xs : List TrafficItem) (x : TrafficItem) → last_after (xs ++ x ∷ []) ≡ x.txn.after
last-push [] x = refl
last-push (y ∷ []) x = refl
last-push (y ∷ z ∷ more) x = last-push (z ∷ more) x

-- of one transaction more, for the manager at a place or for another one
pub mine-push : (place : ℕ) (items : List TrafficItem) (item : TrafficItem) → items_of_manager place (items ++ item ∷ []) ≡ cond (item.manager == place) (items_of_manager place items ++ item ∷ []) (items_of_manager place items)
mine-push place items item =
    filter-append place items (item ∷ [])
    ∙ (elim (item.manager == place) as (λ b. items_of_manager place items ++ cond b (item ∷ []) [] ≡ cond b (items_of_manager place items ++ item ∷ []) (items_of_manager place items)) [
      | true ↦ refl
      | false ↦ append-nil (items_of_manager place items)
    ])

tells-hold : (place other : ℕ) (items : List TrafficItem) (count : Count) → Tells place items count → Tells place items (after_order place count (Holds other))
tells-hold place other items count t =
    elim (other == place) as (λ b. Tells place items (cond b (after_wait count) count)) [
      | true ↦ let all : count.all ≡ length (items_of_manager place items) = t.all in record { all = all; within = omega arith; awaited = inl all }
      | false ↦ t
    ]

tells-mine : (place : ℕ) (items after : List TrafficItem) (item : TrafficItem) (count : Count) → items_of_manager place after ≡ items_of_manager place items ++ item ∷ [] → item.txn.after ≡ count.awaited
    → Tells place items count → Tells place after (after_issue count)
tells-mine place items after item count is waits t =
    let all : count.all ≡ length (items_of_manager place items) = t.all in
    let within : count.awaited ≤ length (items_of_manager place items) = t.within in
    let longer : length (items_of_manager place after) ≡ length (items_of_manager place items) + 1 = ap length is ∙ length-append (items_of_manager place items) (item ∷ []) in
    let last : last_after (items_of_manager place after) ≡ item.txn.after = ap last_after is ∙ last-push (items_of_manager place items) item in
    record { all = omega arith; within = omega arith; awaited = inr (omega arith) }

tells-other : (place : ℕ) (items after : List TrafficItem) (count : Count) → items_of_manager place after ≡ items_of_manager place items → Tells place items count → Tells place after count
tells-other place items after count is t =
    record {
      all = t.all ∙ ap length (sym is);
      within = subst (λ (xs : List TrafficItem). count.awaited ≤ length xs) (sym is) t.within;
      awaited = subst (λ (xs : List TrafficItem). (count.awaited ≡ length xs) ⊎ (count.awaited ≡ last_after xs)) (sym is) t.awaited;
    }

tells-issue : (place other : ℕ) (access : Access) (items : List TrafficItem) (item : TrafficItem) (count : Count) → item.manager ≡ other → (other ≡ place → item.txn.after ≡ count.awaited)
    → Tells place items count → Tells place (items ++ item ∷ []) (after_order place count (Issues other access))
tells-issue place other access items item count is waits t = by (other == place) refl
  where
    by : (same : Bool) → (other == place) ≡ same → Tells place (items ++ item ∷ []) (cond same (after_issue count) count)
    by true e =
        tells-mine place items (items ++ item ∷ []) item count
        (mine-push place items item ∙ ap (λ n. cond (n == place) (items_of_manager place items ++ item ∷ []) (items_of_manager place items)) is ∙ ap (λ b. cond b (items_of_manager place items ++ item ∷ []) (items_of_manager place items)) e)
        (waits (eqb-true other place e)) t
    by false e =
        tells-other place items (items ++ item ∷ []) count
        (mine-push place items item ∙ ap (λ n. cond (n == place) (items_of_manager place items ++ item ∷ []) (items_of_manager place items)) is ∙ ap (λ b. cond b (items_of_manager place items ++ item ∷ []) (items_of_manager place items)) e)
        t

in-order : (before orders : List Order) (items : List TrafficItem) → length items ≡ length (issued before) → ((place : ℕ) → Tells place items (count_after place before)) → AreInOrder items (items_after before orders)
in-order before [] items number tells = tt
in-order before (Holds place ∷ more) items number tells =
    in-order (before ++ Holds place ∷ []) more items
    (number ∙ sym (ap length (issued-append before (Holds place ∷ [])) ∙ ap length (append-nil (issued before))))
    (λ other. subst (λ (count : Count). Tells other items count) (sym (fold-append (after_order other) none_yet before (Holds place ∷ []))) (tells-hold other place items (count_after other before) (tells other)))
in-order before (Issues place access ∷ more) items number tells =
    let here : Tells place items (count_after place before) = tells place in (
      record { number = ap (λ n. n + 1) (sym number); within = here.within; after = here.awaited },
      in-order (before ++ Issues place access ∷ []) more (items ++ item_after before place access ∷ [])
          (length-append items (item_after before place access ∷ []) ∙ ap (λ n. n + 1) number ∙ sym (ap length (issued-append before (Issues place access ∷ [])) ∙ length-append (issued before) (access ∷ [])))
          (λ other.
          subst (λ (count : Count). Tells other (items ++ item_after before place access ∷ []) count) (sym (fold-append (after_order other) none_yet before (Issues place access ∷ [])))
          (tells-issue other place access items (item_after before place access) (count_after other before) refl (λ same. ap (λ p. (count_after p before).awaited) same) (tells other))),
    )

-- ---- how much it is

pub items-length : (before orders : List Order) → length (items_after before orders) ≡ length (issued orders)
items-length before [] = refl
items-length before (Holds place ∷ more) = items-length (before ++ Holds place ∷ []) more
items-length before (Issues place access ∷ more) = ap suc (items-length (before ++ Issues place access ∷ []) more)

items-beats : (nodes : List DocumentNode) (before orders : List Order) → AllByRecursion (IsAllowed nodes) orders → beats_in (items_after before orders) ≡ total_beats (issued orders)
items-beats nodes before [] all = refl
items-beats nodes before (Holds place ∷ more) all = items-beats nodes (before ++ Holds place ∷ []) more all.1
items-beats nodes before (Issues place access ∷ more) all =
    let rest : beats_in (items_after (before ++ Issues place access ∷ []) more) ≡ total_beats (issued more) = items-beats nodes (before ++ Issues place access ∷ []) more all.1 in
    let form : IsForm access = all.0.form in
    let some : 0 < access.beats = form.some in
    omega arith

-- ---- what the making of transactions needs

length-most : (burst : Burst) (beats : ℕ) → is_length_of burst beats ≡ true → beats ≤ 256
length-most Fixed beats e = omega (arith, ltb-true beats 17 e)
length-most Incr beats e = omega (arith, ltb-true beats 257 e)
length-most Wrap beats e = let power : (j : ℕ) × (beats ≡ 2 ^ j) × (j ≤ 4) = wrap_length beats e in
    let most : 2 ^ power.0 ≤ 2 ^ 4 = pow-le-pow_right {n = 2} (omega arith) power.2 in
    omega (arith, power.1)

fits-all : (nodes : List DocumentNode) (orders : List Order) → AllByRecursion (IsAllowed nodes) orders → AllByRecursion (IsFitting (length nodes)) orders
fits-all nodes [] all = tt
fits-all nodes (Holds place ∷ more) all = (all.0, fits-all nodes more all.1)
fits-all nodes (Issues place access ∷ more) all =
    let a : IsAccepted nodes place access = all.0 in
    let most : (access.beats - 1) + 1 ≤ 256 = length-most access.start.burst ((access.beats - 1) + 1) (legal-length (request_said access) a.node.bus a.legal) in
    ((slice_get_within nodes place a.node a.is_node, omega arith), fits-all nodes more all.1)

-- ---- all of it

neither : (a b : Option Refusal) → option_or a b ≡ None → (a ≡ None) × (b ≡ None)
neither None b e = (refl, e)
neither (Some a) b e = absurd (cc)

-- where lines aren't refused, none of them is, and they aren't too much
accepted : (nodes : List DocumentNode) (lines : List (List ℕ)) → traffic_refusal nodes lines ≡ None → (least_refusal nodes 1 lines ≡ None) × (is_too_much (issued (orders_of nodes lines)) ≡ false)
accepted nodes lines e =
    let both = neither (least_refusal nodes 1 lines) (cond (is_too_much (issued (orders_of nodes lines))) (Some (refused_for TooMuchTraffic)) None) e in
    (both.0, by (is_too_much (issued (orders_of nodes lines))) both.1)
  where
    by : (b : Bool) → cond b (Some (refused_for TooMuchTraffic)) None ≡ None → b ≡ false
    by true e = absurd (cc)
    by false e = refl

pub lines-fit : (nodes : List DocumentNode) (lines : List (List ℕ)) → traffic_refusal nodes lines ≡ None → AllByRecursion (IsFitting (length nodes)) (orders_of nodes lines)
lines-fit nodes lines e = fits-all nodes (orders_of nodes lines) (lines-allowed nodes 1 lines (accepted nodes lines e).0)

pub accepted_suits_all : AcceptedSuits
accepted_suits_all nodes lines e =
    let both = accepted nodes lines e in
    let all : AllByRecursion (IsAllowed nodes) (orders_of nodes lines) = lines-allowed nodes 1 lines both.0 in
    let few = or_parts (nat_lt 16384 (length (issued (orders_of nodes lines)))) (nat_lt 262144 (total_beats (issued (orders_of nodes lines)))) both.1 in
    let transactions : length (issued (orders_of nodes lines)) ≤ 16384 = ltb-false 16384 (length (issued (orders_of nodes lines))) few.0 in
    let beats : total_beats (issued (orders_of nodes lines)) ≤ 262144 = ltb-false 262144 (total_beats (issued (orders_of nodes lines))) few.1 in
    let long : length (traffic_of nodes lines) ≡ length (issued (orders_of nodes lines)) = items-length [] (orders_of nodes lines) in
    let sum : beats_in (traffic_of nodes lines) ≡ total_beats (issued (orders_of nodes lines)) = items-beats nodes [] (orders_of nodes lines) all in
    record {
      suit = All-from_recursion (Suits nodes) (traffic_of nodes lines) (all-suit nodes [] (orders_of nodes lines) all);
      in_order = in-order [] (orders_of nodes lines) [] refl (λ place. record { all = refl; within = omega arith; awaited = inl refl });
      transactions = omega arith;
      beats = omega arith;
    }
