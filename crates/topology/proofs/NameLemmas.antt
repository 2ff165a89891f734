-- The names of nodes, one after the other.
use Rattle.std.proofs.Common.{◌≡◌, ◌<◌, ◌+◌, ◌++◌, ◌||◌, ℕ, Bool, true, false, List, [], ◌∷◌, Bor, length, take, not, refl, ap, ap₂, sym, ◌∙◌}
use Rattle.std.specs.Prelude.{bytes_eq}
use Rattle.std.specs.List.{list_any}
use Rattle.std.proofs.lemmas.List.{map-append, take_more}
use Rattle.std.proofs.lemmas.Slice.Eq.{bytes_eq-Decides}
use Rattle.topology.specs.Document.{DocumentNode, node_at, node_of_kind}
use Rattle.topology.specs.Joined.{node_names, texts}
use Rattle.topology.specs.Refused.{is_duplicate}
use Rattle.topology_text.specs.declared.kind.Kind.TheVariants.{Slice}

-- equality of texts is the same either way
pub eq-turned : (xs ys : List ℕ) → bytes_eq xs ys ≡ bytes_eq ys xs
eq-turned xs ys =
    by (bytes_eq xs ys) (bytes_eq ys xs) (λ e. (bytes_eq-Decides ys xs).1 (sym ((bytes_eq-Decides xs ys).0 e))) (λ e. (bytes_eq-Decides xs ys).1 (sym ((bytes_eq-Decides ys xs).0 e)))
  where
    by : (a b : Bool) → (a ≡ true → b ≡ true) → (b ≡ true → a ≡ true) → a ≡ b
    by true b there back = sym (there refl)
    by false true there back = back refl
    by false false there back = refl

-- a name that is among those of some nodes
pub any-named : (name : List ℕ) (keys : List (Bor (List ℕ))) (nodes : List DocumentNode) → texts keys ≡ node_names nodes →
    list_any (λ key. bytes_eq name key.now) keys ≡ list_any (λ (earlier : DocumentNode). bytes_eq earlier.name name) nodes
any-named name [] [] same = refl
any-named name [] (node ∷ nodes) same = absurd cc
any-named name (key ∷ keys) [] same = absurd cc
any-named name (key ∷ keys) (node ∷ nodes) same =
    let first : key.now ≡ node.name = cc in
    let rest : texts keys ≡ node_names nodes = cc in
    ap₂ (λ (a b : Bool). a || b) (ap (bytes_eq name) first ∙ eq-turned name node.name) (any-named name keys nodes rest)

pub duplicate-is : (nodes : List DocumentNode) (place : ℕ) (keys : List (Bor (List ℕ))) (name : List ℕ) (added : Bool) → texts keys ≡ node_names (take place nodes) → name ≡ (node_at nodes place).name →
    added ≡ not (list_any (λ key. bytes_eq name key.now) keys) → added ≡ not (is_duplicate nodes place)
duplicate-is nodes place keys name added same is e =
    e ∙ ap not (any-named name keys (take place nodes) same) ∙ ap (λ (n : List ℕ). not (list_any (λ (earlier : DocumentNode). bytes_eq earlier.name n) (take place nodes))) is

pub names-next : (nodes : List DocumentNode) (place : ℕ) (keys : List (Bor (List ℕ))) (key : Bor (List ℕ)) → place < length nodes → texts keys ≡ node_names (take place nodes) → key.now ≡ (node_at nodes place).name →
    texts (keys ++ key ∷ []) ≡ node_names (take (place + 1) nodes)
names-next nodes place keys key less same is =
    map-append (λ (k : Bor (List ℕ)). k.now) keys (key ∷ [])
    ∙ ap₂ (λ (xs : List (List ℕ)) (x : List ℕ). xs ++ x ∷ []) same is
    ∙ sym (map-append (λ (node : DocumentNode). node.name) (take place nodes) (node_at nodes place ∷ []))
    ∙ sym (ap node_names (take_more nodes place (node_of_kind [] Slice) less))

pub not-true : (b : Bool) → not b ≡ true → b ≡ false
not-true true e = absurd cc
not-true false e = refl

pub not-false : (b : Bool) → not b ≡ false → b ≡ true
not-false true e = refl
not-false false e = absurd cc
