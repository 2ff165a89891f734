-- Lists of which one is the beginning of another, and lists that agree.
use Rattle.std.proofs.Common.{◌≡◌, ℕ, ◌+◌, ◌≤◌, suc, zero, Bool, true, false, cond, List, [], ◌∷◌, ◌++◌, length, map, take, drop, get_or, refl, sym, ◌∙◌, ap, subst, arith, append_assoc, append-nil, length-append, All}
use Rattle.std.specs.Prelude.{filter, flat_map}
use Rattle.std.proofs.lemmas.List.{drop_at, get_or_append_left, map-append, take-append-drop}
use Rattle.std.proofs.lemmas.List.Concat.{flat_map-append}
use Rattle.std.proofs.lemmas.List.Elements.{filter-append}
use Rattle.plain_lists.specs.Keys.{of_key}
use Rattle.plain_lists.specs.Prefixes.{IsPrefix, Agree}

module _ {X : Type 0} where
  pub prefix_itself : (xs : List X) → IsPrefix xs xs
  prefix_itself xs = record { rest = []; whole = sym (append-nil xs) }

  pub prefix_nil : (xs : List X) → IsPrefix [] xs
  prefix_nil xs = record { rest = xs; whole = refl }

  pub prefix_append : (xs ys : List X) → IsPrefix xs (xs ++ ys)
  prefix_append xs ys = record { rest = ys; whole = refl }

  pub prefix_trans : {xs ys zs : List X} → IsPrefix xs ys → IsPrefix ys zs → IsPrefix xs zs
  prefix_trans {xs} {ys} {zs} p q = record { rest = p.rest ++ q.rest; whole = q.whole ∙ ap (λ t. t ++ q.rest) p.whole ∙ append_assoc xs p.rest q.rest }

  pub prefix_first : (n : ℕ) (xs : List X) → IsPrefix (take n xs) xs
  prefix_first n xs = record { rest = drop n xs; whole = sym (take-append-drop n xs) }

  -- a beginning that is as long as its list is the list
  pub prefix_whole : (xs ys : List X) → IsPrefix xs ys → length ys ≤ length xs → ys ≡ xs
  prefix_whole xs ys p le = p.whole ∙ without_rest p.rest (omega (arith, ap length p.whole, length-append xs p.rest))
    where
      without_rest : (rest : List X) → length rest ≡ 0 → xs ++ rest ≡ xs
      without_rest [] none = append-nil xs
      without_rest (x ∷ rest) none = absurd (omega arith)

  pub prefix_cons : (x : X) {xs ys : List X} → IsPrefix xs ys → IsPrefix (x ∷ xs) (x ∷ ys)
  prefix_cons x p = record { rest = p.rest; whole = ap (λ t. x ∷ t) p.whole }

  pub prefix_after : (front : List X) {xs ys : List X} → IsPrefix xs ys → IsPrefix (front ++ xs) (front ++ ys)
  prefix_after front {xs} p = record { rest = p.rest; whole = ap (λ t. front ++ t) p.whole ∙ sym (append_assoc front xs p.rest) }

  pub prefix_length : {xs ys : List X} → IsPrefix xs ys → length xs ≤ length ys
  prefix_length {xs} p = omega (arith, ap length p.whole, length-append xs p.rest)

  pub prefix_same : {xs ys zs : List X} → xs ≡ ys → IsPrefix ys zs → IsPrefix xs zs
  prefix_same {zs} e p = record { rest = p.rest; whole = p.whole ∙ ap (λ t. t ++ p.rest) (sym e) }

  pub prefix_of_same : {xs ys zs : List X} → IsPrefix xs ys → ys ≡ zs → IsPrefix xs zs
  prefix_of_same p e = record { rest = p.rest; whole = sym e ∙ p.whole }

  pub prefix_take : (m n : ℕ) (xs rest : List X) → m ≤ n → IsPrefix (take m xs) (take n (xs ++ rest))
  prefix_take zero n xs rest le = prefix_nil (take n (xs ++ rest))
  prefix_take (suc m) zero xs rest le = absurd (omega arith)
  prefix_take (suc m) (suc n) [] rest le = prefix_nil (take (suc n) rest)
  prefix_take (suc m) (suc n) (x ∷ xs) rest le = prefix_cons x (prefix_take m n xs rest (omega arith))

  pub prefix_filter : (test : X → Bool) {xs ys : List X} → IsPrefix xs ys → IsPrefix (filter test xs) (filter test ys)
  prefix_filter test {xs} p = record { rest = filter test p.rest; whole = ap (filter test) p.whole ∙ filter-append test xs p.rest }

  pub prefix_of_key : (key_of : X → ℕ) (key : ℕ) {xs ys : List X} → IsPrefix xs ys → IsPrefix (of_key key_of key xs) (of_key key_of key ys)
  prefix_of_key key_of key p = prefix_filter _ p

  pub prefix_map : {Y : Type 0} (f : X → Y) {xs ys : List X} → IsPrefix xs ys → IsPrefix (map f xs) (map f ys)
  prefix_map f {xs} p = record { rest = map f p.rest; whole = ap (map f) p.whole ∙ map-append f xs p.rest }

  pub prefix_flat_map : {Y : Type 0} (f : X → List Y) {xs ys : List X} → IsPrefix xs ys → IsPrefix (flat_map f xs) (flat_map f ys)
  prefix_flat_map f {xs} p = record { rest = flat_map f p.rest; whole = ap (flat_map f) p.whole ∙ flat_map-append f xs p.rest }

  pub All_front : (P : X → Type 0) {xs ys : List X} → IsPrefix xs ys → All P ys → All P xs
  All_front P {xs} {ys} p all =
      λ k d within.
      let same : get_or ys k d ≡ get_or xs k d = ap (λ t. get_or t k d) p.whole ∙ get_or_append_left xs p.rest d k within in
      subst P same (all k d (omega (arith, prefix_length p)))

  pub Agree_fronts : {xs ys us vs : List X} → IsPrefix us xs → IsPrefix vs ys → Agree xs ys → Agree us vs
  Agree_fronts {xs} {ys} {us} {vs} p q agree = record {
    same = λ place past in_us in_vs.
        ap (λ t. get_or t place past) (refl {a = us})
        ∙ sym (ap (λ t. get_or t place past) p.whole ∙ get_or_append_left us p.rest past place in_us)
        ∙ agree.same place past (omega (arith, prefix_length p)) (omega (arith, prefix_length q))
        ∙ ap (λ t. get_or t place past) q.whole
        ∙ get_or_append_left vs q.rest past place in_vs;
  }

  pub front_of : (xs ys r s : List X) → xs ++ r ≡ ys ++ s → length xs ≤ length ys → IsPrefix xs ys
  front_of [] ys r s e le = prefix_nil ys
  front_of (x ∷ xs) [] r s e le = absurd (omega arith)
  front_of (x ∷ xs) (y ∷ ys) r s e le =
      let head : y ≡ x = cc in
      let tail : xs ++ r ≡ ys ++ s = cc in
      let front : IsPrefix xs ys = front_of xs ys r s tail (omega arith) in
      record { rest = front.rest; whole = ap (λ t. y ∷ t) front.whole ∙ ap (λ h. h ∷ (xs ++ front.rest)) head }

  -- of two beginnings of a list, the shorter is a beginning of the longer
  pub prefix_total : {xs ys zs : List X} → IsPrefix xs zs → IsPrefix ys zs → length xs ≤ length ys → IsPrefix xs ys
  prefix_total {xs} {ys} p q le = front_of xs ys p.rest q.rest (sym p.whole ∙ q.whole) le

  pub length-filter_le : (test : X → Bool) (xs : List X) → length (filter test xs) ≤ length xs
  length-filter_le test [] = omega arith
  length-filter_le test (x ∷ xs) =
      let go : (b : Bool) → length (cond b (x ∷ filter test xs) (filter test xs)) ≤ suc (length xs) =
      elim [ true ↦ omega (arith, length-filter_le test xs) | false ↦ omega (arith, length-filter_le test xs) ]
      in go (test x)

  -- a beginning that is longer by n than another one passes a test at most n times more
  pub count_front : (test : X → Bool) (n : ℕ) (xs us rest vs : List X) → xs ++ rest ≡ us ++ vs → length xs ≤ length us + n → length (filter test xs) ≤ length (filter test us) + n
  count_front test n [] us rest vs e le = omega arith
  count_front test n (x ∷ xs) [] rest vs e le = omega (arith, length-filter_le test (x ∷ xs))
  count_front test n (x ∷ xs) (u ∷ us) rest vs e le =
      let head : x ≡ u = cc in
      let tail : xs ++ rest ≡ us ++ vs = cc in
      let shorter : length (filter test xs) ≤ length (filter test us) + n = count_front test n xs us rest vs tail (omega arith) in
      let go : (b : Bool) → length (cond b (x ∷ filter test xs) (filter test xs)) ≤ length (cond b (u ∷ filter test us) (filter test us)) + n =
      elim [ true ↦ omega arith | false ↦ omega arith ]
      in subst (λ (y : X). length (cond (test x) (x ∷ filter test xs) (filter test xs)) ≤ length (cond (test y) (u ∷ filter test us) (filter test us)) + n) head (go (test x))

  pub agree_tail : (x y : X) (xs ys : List X) → Agree (x ∷ xs) (y ∷ ys) → Agree xs ys
  agree_tail x y xs ys agree = record { same = λ place past in_xs in_ys. agree.same (suc place) past (omega arith) (omega arith) }

  -- of two lists that agree, the shorter is the beginning of the longer
  pub agree_prefix : (xs ys : List X) → Agree xs ys → length xs ≤ length ys → IsPrefix xs ys
  agree_prefix [] ys agree le = prefix_nil ys
  agree_prefix (x ∷ xs) [] agree le = absurd (omega arith)
  agree_prefix (x ∷ xs) (y ∷ ys) agree le =
      let tail : IsPrefix xs ys = agree_prefix xs ys (agree_tail x y xs ys agree) (omega arith) in
      let head : x ≡ y = agree.same 0 x (omega arith) (omega arith) in
      record { rest = tail.rest; whole = ap (λ t. y ∷ t) tail.whole ∙ ap (λ h. h ∷ (xs ++ tail.rest)) (sym head) }

  pub prefix_agree : {xs ys : List X} → IsPrefix xs ys → Agree xs ys
  prefix_agree {xs} p = record {
    same = λ place past in_xs in_ys. sym (ap (λ t. get_or t place past) p.whole ∙ get_or_append_left xs p.rest past place in_xs);
  }

-- one element more of a beginning
pub prefix_next : {X : Type 0} (xs ys : List X) (y : X) (rest : List X) → IsPrefix xs ys → drop (length xs) ys ≡ y ∷ rest → IsPrefix (xs ++ y ∷ []) ys
prefix_next xs ys y rest p at =
    let left : p.rest ≡ y ∷ rest = sym (drop_at xs p.rest (length xs) refl) ∙ sym (ap (drop (length xs)) p.whole) ∙ at in
    record { rest = rest; whole = p.whole ∙ ap (λ t. xs ++ t) left ∙ sym (append_assoc xs (y ∷ []) rest) }

-- without equally long beginnings, a beginning stays one
pub prefix_cut : {X : Type 0} (xs ys us vs : List X) → length xs ≡ length ys → IsPrefix (xs ++ us) (ys ++ vs) → IsPrefix us vs
prefix_cut xs ys us vs long p = record {
  rest = p.rest;
  whole = sym (drop_at ys vs (length ys) refl) ∙ ap (drop (length ys)) (p.whole ∙ append_assoc xs us p.rest) ∙ drop_at xs (us ++ p.rest) (length ys) long;
}
