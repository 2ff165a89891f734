-- What ranks tell of cycles.
use Rattle.std.proofs.Common.{◌≡◌, ◌<◌, ◌≤◌, ℕ, zero, suc, Bool, true, false, cond, not, List, [], ◌∷◌, Option, Some, None, length, refl, ◌∙◌, ap, inl, inr, arith}
use Rattle.std.specs.Prelude.{find, is_some, nat_le, nat_lt}
use Rattle.std.proofs.lemmas.Bool.{cases_Bool, false≢true, leb-true, ltb-true, true≢false}
use Rattle.node_graph.specs.Graph.{Graph, has_way, is_in, is_on_cycle, nodes_below, numbers}
use Rattle.node_graph.specs.Ranks.{NeverFalls, is_risen, rank_in}
use Rattle.node_graph.proofs.Members.{all-pass, in-first, in-rest}
use Rattle.node_graph.proofs.Ways.{Begins, begins, upper-known}

module _ (graph : Graph) (ranks : List ℕ) (never : NeverFalls graph ranks) where
  link-keeps : (upper lower : ℕ) → is_in (nodes_below graph upper) lower ≡ true → rank_in ranks upper ≤ rank_in ranks lower
  link-keeps upper lower link =
      leb-true (rank_in ranks upper) (rank_in ranks lower)
      (all-pass (λ other. nat_le (rank_in ranks upper) (rank_in ranks other)) (nodes_below graph upper) lower (never upper (upper-known graph upper lower link)) link)

  way-keeps : (links from to : ℕ) → has_way graph links from to ≡ true → rank_in ranks from ≤ rank_in ranks to
  unfolding has_way
  way-keeps zero from to e = absurd (false≢true e)
  way-keeps (suc links) from to e =
      let first : Begins graph links from to = begins graph links from to e in
      elim first.rest [
        | inl same ↦ let is : rank_in ranks first.next ≡ rank_in ranks to = ap (rank_in ranks) same in omega (arith, is, link-keeps from first.next first.link)
        | inr there ↦ omega (arith, link-keeps from first.next first.link, way-keeps links first.next to there)
      ]

  no-way-back : (links node : ℕ) → is_risen graph ranks node ≡ true → has_way graph links node node ≡ true → ⊥
  unfolding has_way
  no-way-back zero node risen e = false≢true e
  no-way-back (suc links) node risen e =
      let first : Begins graph links node node = begins graph links node node e in
      let higher : rank_in ranks node < rank_in ranks first.next =
      ltb-true (rank_in ranks node) (rank_in ranks first.next)
      (all-pass (λ other. nat_lt (rank_in ranks node) (rank_in ranks other)) (nodes_below graph node) first.next risen first.link) in
      elim first.rest [
        | inl same ↦ let is : rank_in ranks first.next ≡ rank_in ranks node = ap (rank_in ranks) same in omega (arith, is, higher)
        | inr there ↦ omega (arith, higher, way-keeps links first.next node there)
      ]

  pub risen-off_cycle : (node : ℕ) → is_risen graph ranks node ≡ true → is_on_cycle graph node ≡ false
  risen-off_cycle node risen =
      elim (cases_Bool (is_on_cycle graph node)) [
        | inl on ↦ absurd (no-way-back (length graph) node risen on)
        | inr off ↦ off
      ]

-- ---- of two tests, where the second one fails where the first one does

first-none : (b c : Bool) (x : ℕ) (o other : Option ℕ) → (b ≡ false → c ≡ false) → (o ≡ None → other ≡ None) → cond b (Some x) o ≡ None → cond c (Some x) other ≡ None
first-none true c x o other fails rest e = absurd (true≢false (ap is_some e))
first-none false true x o other fails rest e = absurd (true≢false (fails refl))
first-none false false x o other fails rest e = rest e

first-some : (b c : Bool) (x v : ℕ) (o other : Option ℕ) → (b ≡ false → c ≡ false) → (x ≡ v → c ≡ true) → (o ≡ Some v → other ≡ Some v) → cond b (Some x) o ≡ Some v → cond c (Some x) other ≡ Some v
first-some true true x v o other fails passes rest e = e
first-some true false x v o other fails passes rest e = absurd (false≢true (passes cc))
first-some false true x v o other fails passes rest e = absurd (true≢false (fails refl))
first-some false false x v o other fails passes rest e = rest e

module _ (p q : ℕ → Bool) where
  none-passes : (xs : List ℕ) → ((x : ℕ) → is_in xs x ≡ true → p x ≡ false → q x ≡ false) → find p xs ≡ None → find q xs ≡ None
  none-passes [] fails e = refl
  none-passes (x ∷ xs) fails e =
      first-none (p x) (q x) x (find p xs) (find q xs) (fails x (in-first x xs x refl)) (none-passes xs (λ y there. fails y (in-rest x xs y there))) e

  first-passes : (xs : List ℕ) (v : ℕ) → ((x : ℕ) → is_in xs x ≡ true → p x ≡ false → q x ≡ false) → q v ≡ true → find p xs ≡ Some v → find q xs ≡ Some v
  first-passes [] v fails passes e = absurd (false≢true (ap is_some e))
  first-passes (x ∷ xs) v fails passes e =
      first-some (p x) (q x) x v (find p xs) (find q xs) (fails x (in-first x xs x refl)) (λ same. ap q same ∙ passes)
      (first-passes xs v (λ y there. fails y (in-rest x xs y there)) passes) e

-- ---- the first node whose links don't all rise

not-false : (b : Bool) → not b ≡ false → b ≡ true
not-false true e = refl
not-false false e = absurd (true≢false e)

module _ (graph : Graph) (ranks : List ℕ) (never : NeverFalls graph ranks) where
  off : (x : ℕ) → is_in (numbers (length graph)) x ≡ true → not (is_risen graph ranks x) ≡ false → is_on_cycle graph x ≡ false
  off x there e = risen-off_cycle graph ranks never x (not-false (is_risen graph ranks x) e)

  pub risen-none : find (λ node. not (is_risen graph ranks node)) (numbers (length graph)) ≡ None → find (is_on_cycle graph) (numbers (length graph)) ≡ None
  risen-none e = none-passes (λ node. not (is_risen graph ranks node)) (is_on_cycle graph) (numbers (length graph)) off e

  pub risen-first : (v : ℕ) → is_on_cycle graph v ≡ true → find (λ node. not (is_risen graph ranks node)) (numbers (length graph)) ≡ Some v → find (is_on_cycle graph) (numbers (length graph)) ≡ Some v
  risen-first v on e = first-passes (λ node. not (is_risen graph ranks node)) (is_on_cycle graph) (numbers (length graph)) v off on e
