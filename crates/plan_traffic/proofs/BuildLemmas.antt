-- Orders that are turned into transactions one by one.
use Rattle.std.proofs.Common.{◌≡◌, ℕ, ◌+◌, ◌<◌, ◌≤◌, ◌==◌, true, false, cond, List, [], ◌∷◌, ◌++◌, Option, Some, None, length, get_or, set, inl, inr, refl, sym, ◌∙◌, ap, subst, append_assoc, arith}
use Rattle.std.specs.Prelude.{All, IfSome, fold}
use Rattle.std.specs.List.{cons_option}
use Rattle.std.proofs.lemmas.Bool.{cases_eq, cond-true, cond-false, eq-eqb, ne_eqb}
use Rattle.std.proofs.lemmas.List.{append-nil, get_or-set_other, get_or-replicate, length-append, length-replicate, length-set}
use Rattle.std.proofs.Math.ListN.{replicate}
use Rattle.std.proofs.lemmas.List.Elements.{All-from_get_or}
use Rattle.std.proofs.lemmas.Grind.{fold-append, get_or-set_at}
use Rattle.plain_text.specs.Lines.{lines}
use Rattle.plan_traffic.specs.Orders.{Order, Holds, Issues, issued, order_said, orders_of}
use Rattle.plan_traffic.specs.Steps.{counts_after, counts_by, item_of, items_by, items_of, IsFitting}
use Rattle.plan_traffic.specs.Traffic.{TrafficItem, count_after, after_order, after_wait, items_after, none_yet, after_issue, traffic_of}
use Rattle.plan_traffic.specs.declared.build.Count.{Count}
use Rattle.topology_text.specs.Document.{DocumentNode}

-- a manager has no more transactions than there are
count-from : (place : ℕ) (orders : List Order) (count : Count) → (fold (after_order place) count orders).all ≤ count.all + length (issued orders)
count-from place [] count = omega arith
count-from place (Holds other ∷ more) count =
    elim (other == place) as (λ b. (fold (after_order place) (cond b (after_wait count) count) more).all ≤ count.all + length (issued more)) [
      | true ↦ count-from place more (after_wait count)
      | false ↦ count-from place more count
    ]
count-from place (Issues other access ∷ more) count =
    elim (other == place) as (λ b. (fold (after_order place) (cond b (after_issue count) count) more).all ≤ count.all + length (access ∷ issued more)) [
      | true ↦ let rest : (fold (after_order place) (after_issue count) more).all ≤ count.all + 1 + length (issued more) = count-from place more (after_issue count) in omega arith
      | false ↦ let rest : (fold (after_order place) count more).all ≤ count.all + length (issued more) = count-from place more count in omega arith
    ]

-- a count that changes at one place
at-place : (counts : List Count) (place k : ℕ) (change : Count → Count) (now : ℕ → Count)
    → place < length counts → ((j : ℕ) → j < length counts → get_or counts j none_yet ≡ now j) → k < length counts
    → get_or (set counts place (change (get_or counts place none_yet))) k none_yet ≡ cond (place == k) (change (now k)) (now k)
at-place counts place k change now inside each within =
    elim (cases_eq place k) [
      | inl same ↦
          get_or-set_at counts place k (change (get_or counts place none_yet)) none_yet (sym same) inside
          ∙ ap change (each place inside ∙ ap now same)
          ∙ sym (cond-true (place == k) (change (now k)) (now k) (eq-eqb place k same))
      | inr apart ↦
          get_or-set_other counts place k (change (get_or counts place none_yet)) none_yet (λ same. apart (sym same))
          ∙ each k within
          ∙ sym (cond-false (place == k) (change (now k)) (now k) (ne_eqb place k apart))
    ]

counts-step : (counts : List Count) (before : List Order) (order : Order) → IsFitting (length counts) order
    → ((j : ℕ) → j < length counts → get_or counts j none_yet ≡ count_after j before)
    → (k : ℕ) → k < length counts → get_or (counts_after counts order) k none_yet ≡ count_after k (before ++ order ∷ [])
counts-step counts before (Holds place) fits each k within =
    at-place counts place k after_wait (λ j. count_after j before) fits each within ∙ sym (fold-append (after_order k) none_yet before (Holds place ∷ []))
counts-step counts before (Issues place access) fits each k within =
    at-place counts place k after_issue (λ j. count_after j before) fits.0 each within ∙ sym (fold-append (after_order k) none_yet before (Issues place access ∷ []))

counts-length : (counts : List Count) (order : Order) → length (counts_after counts order) ≡ length counts
counts-length counts (Holds place) = length-set counts place (after_wait (get_or counts place none_yet))
counts-length counts (Issues place access) = length-set counts place (after_issue (get_or counts place none_yet))

-- what an order adds
items-step : (counts : List Count) (number : ℕ) (before more : List Order) (order : Order) → IsFitting (length counts) order → number ≡ length (issued before)
    → ((j : ℕ) → j < length counts → get_or counts j none_yet ≡ count_after j before)
    → items_of counts (number + 1) order ++ items_after (before ++ order ∷ []) more ≡ items_after before (order ∷ more)
items-step counts number before more (Holds place) fits is each = refl
items-step counts number before more (Issues place access) fits is each =
    ap (λ n. item_of (n + 1) (get_or counts place none_yet).awaited place access ∷ items_after (before ++ Issues place access ∷ []) more) is
    ∙ ap (λ (count : Count). item_of (length (issued before) + 1) count.awaited place access ∷ items_after (before ++ Issues place access ∷ []) more) (each place fits.0)

pub issued-append : (xs ys : List Order) → issued (xs ++ ys) ≡ issued xs ++ issued ys
issued-append [] ys = refl
issued-append (Holds place ∷ xs) ys = issued-append xs ys
issued-append (Issues place access ∷ xs) ys = ap (λ t. access ∷ t) (issued-append xs ys)

number-step : (counts : List Count) (number : ℕ) (before : List Order) (order : Order) → length (issued (before ++ order ∷ [])) ≡ length (issued before) + length (items_of counts number order)
number-step counts number before (Holds place) = ap length (issued-append before (Holds place ∷ [])) ∙ length-append (issued before) []
number-step counts number before (Issues place access) = ap length (issued-append before (Issues place access ∷ [])) ∙ length-append (issued before) (access ∷ [])

items-short : (counts : List Count) (number : ℕ) (order : Order) → length (items_of counts number order) ≤ 1
items-short counts number (Holds place) = omega arith
items-short counts number (Issues place access) = omega arith

-- the transactions of the lines before the rest of a text, after which the counts stand as they do
pub record IsBuilt (nodes : List DocumentNode) (text : List ℕ) (items : List TrafficItem) (counts : List Count) (rest : List ℕ) : Type 0 where
  before : List Order
  pub made : items ++ items_after before (orders_of nodes (lines rest)) ≡ traffic_of nodes (lines text)
  number : length items ≡ length (issued before)
  pub as_many : length counts ≡ length nodes
  counts_are : (k : ℕ) → k < length counts → get_or counts k none_yet ≡ count_after k before
  pub left : length items + length rest ≤ length text

-- at the start
pub built-first : (nodes : List DocumentNode) (text : List ℕ) (counts : List Count) → counts ≡ replicate (length nodes) none_yet → IsBuilt nodes text [] counts text
built-first nodes text counts is =
    let many : length counts ≡ length nodes = ap length is ∙ length-replicate (length nodes) none_yet in
    record {
      before = [];
      made = refl;
      number = refl;
      as_many = many;
      counts_are = λ k within. ap (λ c. get_or c k none_yet) is ∙ get_or-replicate (length nodes) k none_yet none_yet (omega arith);
      left = omega arith;
    }

-- a line that asks for something or for nothing, before further orders
step-by : (nodes : List DocumentNode) (text : List ℕ) (items : List TrafficItem) (counts : List Count) (rest more : List ℕ)
    → (o : Option Order) → orders_of nodes (lines rest) ≡ cons_option o (orders_of nodes (lines more)) → length more < length rest
    → IfSome o (IsFitting (length counts)) → IsBuilt nodes text items counts rest
    → IsBuilt nodes text (items ++ items_by counts (length items + 1) o) (counts_by counts o) more
step-by nodes text items counts rest more None is shorter fits b =
    let same : items ++ [] ≡ items = append-nil items in
    let left : length items + length rest ≤ length text = b.left in
    subst (λ (t : List TrafficItem). IsBuilt nodes text t counts more) (sym same) (record {
      before = b.before;
      made = ap (λ os. items ++ items_after b.before os) (sym is) ∙ b.made;
      number = b.number;
      as_many = b.as_many;
      counts_are = b.counts_are;
      left = omega arith;
    })
step-by nodes text items counts rest more (Some order) is shorter fits b =
    let long : length (counts_after counts order) ≡ length counts = counts-length counts order in
    let left : length items + length rest ≤ length text = b.left in
    let few : length (items_of counts (length items + 1) order) ≤ 1 = items-short counts (length items + 1) order in
    let sum : length (items ++ items_of counts (length items + 1) order) ≡ length items + length (items_of counts (length items + 1) order) = length-append items (items_of counts (length items + 1) order) in
    record {
      before = b.before ++ order ∷ [];
      made =
          append_assoc items (items_of counts (length items + 1) order) (items_after (b.before ++ order ∷ []) (orders_of nodes (lines more)))
          ∙ ap (λ t. items ++ t) (items-step counts (length items) b.before (orders_of nodes (lines more)) order fits b.number b.counts_are)
          ∙ ap (λ os. items ++ items_after b.before os) (sym is)
          ∙ b.made;
      number = sum ∙ ap (λ n. n + length (items_of counts (length items + 1) order)) b.number ∙ sym (number-step counts (length items + 1) b.before order);
      as_many = long ∙ b.as_many;
      counts_are = λ k within. counts-step counts b.before order fits b.counts_are k (omega arith);
      left = omega arith;
    }

-- after one more line
pub built-line : (nodes : List DocumentNode) (text : List ℕ) (items after : List TrafficItem) (counts later : List Count) (line rest more : List ℕ)
    → lines rest ≡ line ∷ lines more → length more < length rest
    → after ≡ items ++ items_by counts (length items + 1) (order_said nodes line) → later ≡ counts_by counts (order_said nodes line)
    → IfSome (order_said nodes line) (IsFitting (length counts)) → IsBuilt nodes text items counts rest → IsBuilt nodes text after later more
built-line nodes text items after counts later line rest more is shorter items_are counts_are fits b =
    subst (λ (t : List TrafficItem). IsBuilt nodes text t later more) (sym items_are)
    (subst (λ (c : List Count). IsBuilt nodes text (items ++ items_by counts (length items + 1) (order_said nodes line)) c more) (sym counts_are)
    (step-by nodes text items counts rest more (order_said nodes line) (ap (λ ls. orders_of nodes ls) is) shorter fits b))

-- what the next line needs
pub built-small : (nodes : List DocumentNode) (text : List ℕ) (items : List TrafficItem) (counts : List Count) (rest : List ℕ)
    → IsBuilt nodes text items counts rest → All (λ count. count.all ≤ length items) counts
built-small nodes text items counts rest b =
    All-from_get_or (λ (count : Count). count.all ≤ length items) counts none_yet (λ k within.
    let most : (count_after k b.before).all ≤ 0 + length (issued b.before) = count-from k b.before none_yet in
    let number : length items ≡ length (issued b.before) = b.number in
    subst (λ (count : Count). count.all ≤ length items) (sym (b.counts_are k within)) (omega arith))
