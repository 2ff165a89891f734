-- The name of a plan node is that of a document node, and a short end.
use Rattle.std.proofs.Common.{◌≡◌, ◌<◌, ◌≤◌, ◌+◌, ◌++◌, ◌∙◌, ◌^◌, ℕ, List, [], Some, ap, arith, length, length-append, lit≤}
use Rattle.std.specs.Prelude.{◌&&◌, ◌∷◌, codes, decimal, nat_le, slice_get, true}
use Rattle.std.specs.List.{list_all}
use Rattle.std.proofs.lemmas.Bool.{and_parts, leb-true}
use Rattle.std.proofs.lemmas.Fmt.{length-decimal-le}
use Rattle.std.proofs.lemmas.List.Elements.{All-get_or}
use Rattle.std.proofs.lemmas.Option.{slice_get-get_or}
use Rattle.elaborate.proofs.Forms.{Behind, Demux, DemuxError, Form, Input, InputError, Own, Part_at, Split, Target, input_count, part-at, target_count}
use Rattle.elaborate.proofs.Sizes.{small}
use Rattle.elaborate.specs.Plan.{PlanNode, plan_node_at, plan_nodes}
use Rattle.topology.specs.Refused.{IsAccepted}
use Rattle.topology_text.specs.Document.{DocumentNode, node_at}
use Rattle.topology_text.specs.Formed.{AreFormed, IsFormed}
use Rattle.topology_text.specs.Shape.{is_name, is_name_code, is_small_letter}
use Rattle.topology_text.specs.declared.kind.Kind.{Kind}

-- a name is short
name-short : (name : List ℕ) → is_name name ≡ true → length name ≤ 32
name-short [] is = omega arith
name-short (first ∷ more) is =
    let front : (is_small_letter first && nat_le (length more) 31) ≡ true = (and_parts (is_small_letter first && nat_le (length more) 31) (list_all is_name_code more) is).0 in
    let short : length more ≤ 31 = leb-true (length more) 31 (and_parts (is_small_letter first) (nat_le (length more) 31) front).1 in
    omega (arith, short)

-- and so is that of every node of a document
pub node_name-short : (nodes : List DocumentNode) (place : ℕ) → AreFormed nodes → place < length nodes → length (node_at nodes place).name ≤ 32
node_name-short nodes place formed within = name-short (node_at nodes place).name (All-get_or IsFormed nodes place _ within formed).name

-- a name with so short an end
record Ends (name whole : List ℕ) : Type 0 where
  end : List ℕ
  short : length end ≤ 6
  is : whole ≡ name ++ end

numbered-short : (front : List ℕ) (i : ℕ) → length front ≤ 2 → i < 16 → length (front ++ decimal i) ≤ 6
numbered-short front i few less =
    let wide : i < 10 ^ 2 = omega (arith, less) in
    let small : i < 2 ^ 64 = omega (arith, less) in
    let digits : length (decimal i) ≤ 2 = length-decimal-le 2 i (omega arith) wide small in
    omega (arith, few, digits, length-append front (decimal i))

form-ends :
    (nodes : List DocumentNode) (place inner : ℕ) (node : PlanNode) (k : Kind) → input_count nodes place ≤ 16 → target_count nodes place ≤ 16 → Form nodes place inner node k →
    Ends (node_at nodes place).name node.name
form-ends nodes place inner node k ins outs (Own p own first is) = record { end = []; short = omega arith; is = ap (λ (x : PlanNode). x.name) is }
form-ends nodes place inner node k ins outs (Split p own first is) = record { end = codes ".split"; short = lit≤ tt; is = ap (λ (x : PlanNode). x.name) is }
form-ends nodes place inner node k ins outs (Behind p own first is) = record { end = []; short = omega arith; is = ap (λ (x : PlanNode). x.name) is }
form-ends nodes place inner node k ins outs (Demux own first is) = record { end = []; short = omega arith; is = ap (λ (x : PlanNode). x.name) is }
form-ends nodes place inner node k ins outs (DemuxError own first is) = record { end = codes ".err"; short = lit≤ tt; is = ap (λ (x : PlanNode). x.name) is }
form-ends nodes place inner node k ins outs (Input i own within first is) =
    record { end = codes ".d" ++ decimal i; short = numbered-short (codes ".d") i (lit≤ tt) (omega (arith, ins, within)); is = ap (λ (x : PlanNode). x.name) is }
form-ends nodes place inner node k ins outs (InputError i own within first is) =
    record { end = codes ".e" ++ decimal i; short = numbered-short (codes ".e") i (lit≤ tt) (omega (arith, ins, within)); is = ap (λ (x : PlanNode). x.name) is }
form-ends nodes place inner node k ins outs (Target j own within first is) =
    record { end = codes ".m" ++ decimal j; short = numbered-short (codes ".m") j (lit≤ tt) (omega (arith, outs, within)); is = ap (λ (x : PlanNode). x.name) is }

at-short : (nodes : List DocumentNode) (number : ℕ) (node : PlanNode) → AreFormed nodes → IsAccepted nodes → slice_get (plan_nodes nodes) number ≡ Some node → length node.name ≤ 38
at-short nodes number node formed accepted at =
    let spot : Part_at nodes number node = part-at nodes number node at in
    let few = small nodes accepted spot.place spot.within in
    let ends : Ends (node_at nodes spot.place).name node.name = form-ends nodes spot.place spot.inner node (node_at nodes spot.place).kind few.inputs few.targets spot.form in
    let short : length (node_at nodes spot.place).name ≤ 32 = node_name-short nodes spot.place formed spot.within in
    omega (arith, short, ends.short, ap length ends.is, length-append (node_at nodes spot.place).name ends.end)

-- so is the name of every plan node
pub plan_node-name-short : (nodes : List DocumentNode) (number : ℕ) → AreFormed nodes → IsAccepted nodes → number < length (plan_nodes nodes) → length (plan_node_at nodes number).name ≤ 38
plan_node-name-short nodes number formed accepted within = at-short nodes number (plan_node_at nodes number) formed accepted (slice_get-get_or (plan_nodes nodes) number _ within)
