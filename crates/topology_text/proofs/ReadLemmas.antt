-- One more table that is read as a node.
use Rattle.std.proofs.Common.{◌≡◌, ◌<◌, ◌+◌, ◌++◌, ℕ, suc, List, [], ◌∷◌, Option, Some, Result, Ok, Err, length, map, drop, get_or, append_assoc, add-one, refl, ap, ◌∙◌}
use Rattle.std.proofs.Math.Seq.{drop-cons}
use Rattle.toml.specs.View.{view}
use Rattle.toml.specs.declared.value.Value.{Value}
use Rattle.topology_text.specs.Document.{DocumentNode}
use Rattle.topology_text.specs.Shape.{and_then_nodes, node_in, read_tables, with_front}

with_front-append : (xs ys : List DocumentNode) (read : Result (List DocumentNode) ℕ) → with_front (xs ++ ys) read ≡ with_front xs (with_front ys read)
with_front-append xs ys (Ok nodes) = cc (append_assoc xs ys nodes)
with_front-append xs ys (Err number) = refl

pub read-more : (nodes : List DocumentNode) (tables : List Value) (place : ℕ) (table : Value) (node : DocumentNode) → place < length tables → table ≡ get_or tables place table → Some node ≡ node_in (view table) →
    with_front (nodes ++ node ∷ []) (read_tables (place + 1 + 1) (map view (drop (place + 1) tables))) ≡ with_front nodes (read_tables (place + 1) (map view (drop place tables)))
read-more nodes tables place table node less is found =
    let cut : table ∷ drop (place + 1) tables ≡ drop place tables = rw (add-one, drop-cons tables place table) (ap (λ (t : Value). t ∷ drop (suc place) tables) is) in
    let rest : Result (List DocumentNode) ℕ = read_tables (place + 1 + 1) (map view (drop (place + 1) tables)) in
    with_front-append nodes (node ∷ []) rest
    ∙ ap (λ (o : Option DocumentNode). with_front nodes (and_then_nodes (place + 1) o rest)) found
    ∙ ap (λ (some : List Value). with_front nodes (read_tables (place + 1) (map view some))) cut
