-- What nodes name, by the places of names.
use Rattle.std.proofs.Common.{◌≡◌, ◌<◌, ◌≤◌, ◌+◌, ◌++◌, ◌==◌, ◌||◌, ℕ, zero, suc, Bool, true, false, cond, not, List, [], ◌∷◌, Option, Some, None, Bor, get_or, length, map, take, refl, ap, ap₂, sym, ◌∙◌, subst, arith, append-nil, inl, inr}
use Rattle.std.specs.Prelude.{bytes_eq, filter, filter_map, find, is_none, nat_eq, nat_lt, slice_index_or, unwrap_or}
use Rattle.std.specs.List.{cons_option, list_any, position_or_len}
use Rattle.std.proofs.lemmas.List.{map-append, take_more}
use Rattle.std.proofs.lemmas.Bool.{cases_lt, eqb-true}
use Rattle.std.proofs.lemmas.List.Elements.{filter-append}
use Rattle.indexmap.specs.IndexSet.{insert_key}
use Rattle.address_map.specs.declared.region.Region.{Region}
use Rattle.node_graph.proofs.Members.{numbers-in, repeats-each_once}
use Rattle.node_graph.proofs.Ways.{upper-known}
use Rattle.node_graph.specs.Graph.{each_once, is_in, numbers}
use Rattle.node_graph.specs.Order.{repeats}
use Rattle.node_graph.specs.Simple.{IsSimple}
use Rattle.topology.specs.Document.{DocumentNode, NamedRegion, graph_of, has_regions, is_memory, named, names_of, node_at, node_of_kind, targets_of}
use Rattle.topology.specs.Joined.{name_place, node_names, placed_region, texts}
use Rattle.topology.specs.Refused.{names_unknown}
use Rattle.topology.specs.Wiring.{regions_of}
use Rattle.topology_text.specs.declared.kind.Kind.TheVariants.{Slice}
use Rattle.topology.proofs.AcceptedFacts.{below-targets, find-none, graph-long, target-known}
use Rattle.topology.proofs.NameLemmas.{eq-turned}

-- ---- the place of a name

pub keys-long : (keys : List (Bor (List ℕ))) (nodes : List DocumentNode) → texts keys ≡ node_names nodes → length keys ≡ length nodes
keys-long [] [] same = refl
keys-long [] (node ∷ nodes) same = absurd cc
keys-long (key ∷ keys) [] same = absurd cc
keys-long (key ∷ keys) (node ∷ nodes) same = let rest : texts keys ≡ node_names nodes = cc in ap (λ (k : ℕ). suc k) (keys-long keys nodes rest)

place-long : (name : List ℕ) (keys : List (Bor (List ℕ))) (nodes : List DocumentNode) → texts keys ≡ node_names nodes →
    position_or_len (λ (key : Bor (List ℕ)). bytes_eq name key.now) keys ≡ position_or_len (λ (node : DocumentNode). bytes_eq node.name name) nodes
place-long name [] [] same = refl
place-long name [] (node ∷ nodes) same = absurd cc
place-long name (key ∷ keys) [] same = absurd cc
place-long name (key ∷ keys) (node ∷ nodes) same =
    let first : key.now ≡ node.name = cc in
    let rest : texts keys ≡ node_names nodes = cc in
    ap₂ (λ (b : Bool) (n : ℕ). cond (not b) (1 + n) 0) (ap (bytes_eq name) first ∙ eq-turned name node.name) (place-long name keys nodes rest)

pub place-named : (name : List ℕ) (keys : List (Bor (List ℕ))) (nodes : List DocumentNode) → texts keys ≡ node_names nodes → name_place keys name ≡ named nodes name
place-named name keys nodes same = ap₂ (λ (i n : ℕ). cond (nat_lt i n) (Some i) None) (place-long name keys nodes same) (keys-long keys nodes same)

module _ (f g : List ℕ → Option ℕ) (same : (name : List ℕ) → f name ≡ g name) where
  pub any-unknown : (names : List (List ℕ)) → list_any (λ name. is_none (f name)) names ≡ list_any (λ name. is_none (g name)) names
  any-unknown [] = refl
  any-unknown (name ∷ names) = ap₂ (λ (o : Option ℕ) (rest : Bool). is_none o || rest) (same name) (any-unknown names)

  pub regions-same : (regions : List NamedRegion) → map (placed_region f) regions ≡ map (placed_region g) regions
  regions-same [] = refl
  regions-same (region ∷ regions) =
      ap₂ (λ (o : Option ℕ) (rest : List Region). record { base = region.base; size = region.size; port = unwrap_or o 0 } ∷ rest) (same region.to) (regions-same regions)

  pub found-same : (names : List (List ℕ)) → filter_map f names ≡ filter_map g names
  found-same [] = refl
  found-same (name ∷ names) = ap₂ (λ (o : Option ℕ) (rest : List ℕ). cons_option o rest) (same name) (found-same names)

-- ---- the ports of regions whose targets are known

pub ports-known : (f : List ℕ → Option ℕ) (regions : List NamedRegion) → list_any (λ name. is_none (f name)) (map (λ (region : NamedRegion). region.to) regions) ≡ false →
    map (λ (region : Region). region.port) (map (placed_region f) regions) ≡ filter_map f (map (λ (region : NamedRegion). region.to) regions)
ports-known f [] e = refl
ports-known f (region ∷ regions) e = by (f region.to) (ports-known f regions) e
  where
    names : List (List ℕ)
    names = map (λ (other : NamedRegion). other.to) regions

    ports : List ℕ
    ports = map (λ (other : Region). other.port) (map (placed_region f) regions)

    by : (o : Option ℕ) → (list_any (λ name. is_none (f name)) names ≡ false → ports ≡ filter_map f names) → (is_none o || list_any (λ name. is_none (f name)) names) ≡ false → unwrap_or o 0 ∷ ports ≡ cons_option o (filter_map f names)
    by None more none = absurd cc
    by (Some port) more rest = ap (λ (xs : List ℕ). port ∷ xs) (more rest)

-- ---- each once

module _ (x y : ℕ) where
  abbrev differs : ℕ → Bool
  differs k = not (k == y)

  any-kept : (xs : List ℕ) → (x == y) ≡ false → list_any (nat_eq x) (filter differs xs) ≡ list_any (nat_eq x) xs
  any-kept [] other = refl
  any-kept (z ∷ zs) other = by (z == y) refl (any-kept zs other)
    where
      by : (b : Bool) → (z == y) ≡ b → list_any (nat_eq x) (filter differs zs) ≡ list_any (nat_eq x) zs → list_any (nat_eq x) (filter differs (z ∷ zs)) ≡ list_any (nat_eq x) (z ∷ zs)
      by true e more =
          let left : filter differs (z ∷ zs) ≡ filter differs zs = ap (λ (b : Bool). cond (not b) (z ∷ filter differs zs) (filter differs zs)) e in
          let not_this : nat_eq x z ≡ false = ap (nat_eq x) (eqb-true z y e) ∙ other in
          ap (list_any (nat_eq x)) left ∙ more ∙ sym (ap (λ (b : Bool). b || list_any (nat_eq x) zs) not_this)
      by false e more =
          let left : filter differs (z ∷ zs) ≡ z ∷ filter differs zs = ap (λ (b : Bool). cond (not b) (z ∷ filter differs zs) (filter differs zs)) e in
          ap (list_any (nat_eq x)) left ∙ ap (λ (b : Bool). nat_eq x z || b) more

  one-more : (list : List ℕ) → y ∷ filter differs (insert_key nat_eq list x) ≡ insert_key nat_eq (y ∷ filter differs list) x
  one-more list = by (x == y) (list_any (nat_eq x) list) refl refl
    where
      Goal : Type 0
      Goal = y ∷ filter differs (insert_key nat_eq list x) ≡ insert_key nat_eq (y ∷ filter differs list) x

      made : (b c : Bool) → list_any (nat_eq x) list ≡ b → list_any (nat_eq x) (y ∷ filter differs list) ≡ c → y ∷ filter differs (cond b list (list ++ x ∷ [])) ≡ cond c (y ∷ filter differs list) ((y ∷ filter differs list) ++ x ∷ []) → Goal
      made b c e f same =
          ap (λ (d : Bool). y ∷ filter differs (cond d list (list ++ x ∷ []))) e ∙ same ∙ sym (ap (λ (d : Bool). cond d (y ∷ filter differs list) ((y ∷ filter differs list) ++ x ∷ [])) f)

      last : (b : Bool) → (x == y) ≡ b → filter differs (list ++ x ∷ []) ≡ filter differs list ++ cond (not b) (x ∷ []) []
      last b e = filter-append differs list (x ∷ []) ∙ ap (λ (d : Bool). filter differs list ++ cond (not d) (x ∷ []) []) e

      among : (b c : Bool) → (x == y) ≡ b → list_any (nat_eq x) (filter differs list) ≡ c → list_any (nat_eq x) (y ∷ filter differs list) ≡ (b || c)
      among b c e f = ap₂ (λ (d g : Bool). d || g) e f

      by : (b c : Bool) → (x == y) ≡ b → list_any (nat_eq x) list ≡ c → Goal
      by true true e f = made true true f (among true (list_any (nat_eq x) (filter differs list)) e refl) refl
      by true false e f = made false true f (among true (list_any (nat_eq x) (filter differs list)) e refl) (ap (λ (xs : List ℕ). y ∷ xs) (last true e ∙ append-nil (filter differs list)))
      by false true e f = made true true f (among false true e (any-kept list e ∙ f)) refl
      by false false e f = made false false f (among false false e (any-kept list e ∙ f)) (ap (λ (xs : List ℕ). y ∷ xs) (last false e))

pub each_once-next : (xs : List ℕ) (x : ℕ) → each_once (xs ++ x ∷ []) ≡ insert_key nat_eq (each_once xs) x
each_once-next [] x = refl
each_once-next (y ∷ ys) x = ap (λ (list : List ℕ). y ∷ filter (λ k. not (k == y)) list) (each_once-next ys x) ∙ one-more x y (each_once ys)

pub ports-next : (regions : List Region) (place : ℕ) (d : Region) (keys : List ℕ) → place < length regions → keys ≡ each_once (map (λ (region : Region). region.port) (take place regions)) →
    insert_key nat_eq keys (get_or regions place d).port ≡ each_once (map (λ (region : Region). region.port) (take (place + 1) regions))
ports-next regions place d keys less are =
    ap (λ (list : List ℕ). insert_key nat_eq list (get_or regions place d).port) are
    ∙ sym (each_once-next (map (λ (region : Region). region.port) (take place regions)) (get_or regions place d).port)
    ∙ sym (ap each_once (ap (map (λ (region : Region). region.port)) (take_more regions place d less) ∙ map-append (λ (region : Region). region.port) (take place regions) (get_or regions place d ∷ [])))

-- ---- a list for each node

taken-whole : {X : Type 0} (n : ℕ) (xs : List X) → length xs ≤ n → take n xs ≡ xs
taken-whole zero [] within = refl
taken-whole zero (x ∷ xs) within = absurd (omega (arith, within))
taken-whole (suc n) [] within = refl
taken-whole (suc n) (x ∷ xs) within = ap (λ ys. x ∷ ys) (taken-whole n xs (omega (arith, within)))

module _ {V Y : Type 0} (seen : V → Y) (made : DocumentNode → Y) (nodes : List DocumentNode) where
  pub lists-next : (place : ℕ) (lists : List V) (list : V) → place < length nodes → map seen lists ≡ map made (take place nodes) → seen list ≡ made (node_at nodes place) → map seen (lists ++ list ∷ []) ≡ map made (take (place + 1) nodes)
  lists-next place lists list less same is =
      map-append seen lists (list ∷ [])
      ∙ ap₂ (λ (ys : List Y) (y : Y). ys ++ y ∷ []) same is
      ∙ sym (map-append made (take place nodes) (node_at nodes place ∷ []))
      ∙ sym (ap (map made) (take_more nodes place (node_of_kind [] Slice) less))

  pub lists-all : (place : ℕ) (lists : List V) → length nodes ≤ place → map seen lists ≡ map made (take place nodes) → map seen lists ≡ map made nodes
  lists-all place lists past same = same ∙ ap (map made) (taken-whole place nodes past)

-- ---- the names and the targets of a node, by its kind

module _ (node : DocumentNode) where
  named_by : Bool → Bool → List (List ℕ)
  named_by regions memory = cond regions (map (λ (region : NamedRegion). region.to) node.region) (cond memory [] (node.to ∷ []))

  names-by : (regions memory : Bool) → has_regions node.kind ≡ regions → is_memory node.kind ≡ memory → names_of node ≡ named_by regions memory
  unfolding named_by
  names-by regions memory e f = ap₂ named_by e f

  pub names-region : has_regions node.kind ≡ true → names_of node ≡ map (λ (region : NamedRegion). region.to) node.region
  unfolding named_by
  names-region e = names-by true (is_memory node.kind) e refl

  pub names-memory : has_regions node.kind ≡ false → is_memory node.kind ≡ true → names_of node ≡ []
  unfolding named_by
  names-memory e f = names-by false true e f

  pub names-other : has_regions node.kind ≡ false → is_memory node.kind ≡ false → names_of node ≡ node.to ∷ []
  unfolding named_by
  names-other e f = names-by false false e f

  module _ (f : List ℕ → Option ℕ) where
    any-region : (regions : List NamedRegion) → list_any (λ (region : NamedRegion). is_none (f region.to)) regions ≡ list_any (λ name. is_none (f name)) (map (λ (region : NamedRegion). region.to) regions)
    any-region [] = refl
    any-region (region ∷ regions) = ap (λ (b : Bool). is_none (f region.to) || b) (any-region regions)

    pub unknown-region : has_regions node.kind ≡ true → list_any (λ (region : NamedRegion). is_none (f region.to)) node.region ≡ list_any (λ name. is_none (f name)) (names_of node)
    unknown-region e = any-region node.region ∙ sym (ap (list_any (λ name. is_none (f name))) (names-region e))

    pub unknown-other : has_regions node.kind ≡ false → is_memory node.kind ≡ false → is_none (f node.to) ≡ list_any (λ name. is_none (f name)) (names_of node)
    unknown-other e g = by (is_none (f node.to)) refl
      where
        by : (b : Bool) → is_none (f node.to) ≡ b → is_none (f node.to) ≡ list_any (λ name. is_none (f name)) (names_of node)
        by true h = h ∙ sym (ap (list_any (λ name. is_none (f name))) (names-other e g) ∙ ap (λ (b : Bool). b || false) h)
        by false h = h ∙ sym (ap (list_any (λ name. is_none (f name))) (names-other e g) ∙ ap (λ (b : Bool). b || false) h)

  module _ (nodes : List DocumentNode) where
    pub targets-region : (regions : List Region) → has_regions node.kind ≡ true → list_any (λ name. is_none (named nodes name)) (names_of node) ≡ false → regions ≡ regions_of nodes node →
        each_once (map (λ (region : Region). region.port) regions) ≡ targets_of nodes node
    targets-region regions e known are =
        ap (λ (list : List Region). each_once (map (λ (region : Region). region.port) list)) are
        ∙ ap each_once (ports-known (named nodes) node.region (sym (ap (list_any (λ name. is_none (named nodes name))) (names-region e)) ∙ known))
        ∙ ap (λ (list : List (List ℕ)). each_once (filter_map (named nodes) list)) (sym (names-region e))

    pub targets-memory : has_regions node.kind ≡ false → is_memory node.kind ≡ true → [] ≡ targets_of nodes node
    targets-memory e f = ap (λ (list : List (List ℕ)). each_once (filter_map (named nodes) list)) (sym (names-memory e f))

    pub targets-other : (keys : List (Bor (List ℕ))) → texts keys ≡ node_names nodes → has_regions node.kind ≡ false → is_memory node.kind ≡ false → each_once (filter_map (name_place keys) (node.to ∷ [])) ≡ targets_of nodes node
    targets-other keys same e f =
        ap each_once (found-same (name_place keys) (named nodes) (λ name. place-named name keys nodes same) (node.to ∷ []))
        ∙ ap (λ (list : List (List ℕ)). each_once (filter_map (named nodes) list)) (sym (names-other e f))

pub all-known : (nodes : List DocumentNode) (place : ℕ) → place < length nodes → find (names_unknown nodes) (numbers (length nodes)) ≡ None → list_any (λ name. is_none (named nodes name)) (names_of (node_at nodes place)) ≡ false
all-known nodes place less none = find-none (names_unknown nodes) (numbers (length nodes)) none place (numbers-in (length nodes) place less)

-- ---- the graph

beyond : (lists : List (List ℕ)) (place : ℕ) → length lists ≤ place → slice_index_or lists place [] ≡ []
beyond [] place past = refl
beyond (list ∷ lists) zero past = absurd (omega (arith, past))
beyond (list ∷ lists) (suc place) past = beyond lists place (omega (arith, past))

pub graph-simple : (nodes : List DocumentNode) → IsSimple (graph_of nodes)
graph-simple nodes = record {
  known = λ upper lower there.
      let less : upper < length nodes = omega (arith, upper-known (graph_of nodes) upper lower there, graph-long nodes) in
      let inside : lower < length nodes = target-known nodes (node_at nodes upper) lower (subst (λ (list : List ℕ). is_in list lower ≡ true) (below-targets nodes upper less) there) in
      omega (arith, inside, graph-long nodes);
  once = λ upper. elim (cases_lt upper (length nodes)) [
    | inl less ↦ ap repeats (below-targets nodes upper less) ∙ repeats-each_once (filter_map (named nodes) (names_of (node_at nodes upper)))
    | inr past ↦ let out : length (graph_of nodes) ≤ upper = omega (arith, past, graph-long nodes) in ap repeats (beyond (graph_of nodes) upper out) ∙ repeats-each_once []
  ];
}
