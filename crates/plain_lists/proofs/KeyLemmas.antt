-- Filtered lists, the entries of a key, and how many they are.
use Rattle.std.proofs.Common.{◌≡◌, ◌≢◌, ℕ, ◌+◌, ◌-◌, ◌<◌, ◌≤◌, ◌==◌, suc, zero, Bool, true, false, cond, List, [], ◌∷◌, ◌++◌, length, map, drop, replicate, refl, sym, ◌∙◌, ap, subst, inl, inr, ◌⊎◌, arith, eq-eqb, append-nil, length-append, length-drop}
use Rattle.std.specs.Prelude.{filter}
use Rattle.std.proofs.lemmas.Bool.{eqb-true, ne_eqb, cases_eq}
use Rattle.std.proofs.lemmas.List.{length-replicate}
use Rattle.std.proofs.lemmas.List.Elements.{filter-append}
use Rattle.plain_lists.specs.Keys.{of_key, count_of, without_oldest, picked}

-- without the oldest of a key, the first of its entries is gone
pub of_key-without : {X : Type 0} (key_of : X → ℕ) (key : ℕ) (entries : List X) → of_key key_of key (without_oldest key_of key entries) ≡ drop 1 (of_key key_of key entries)
of_key-without key_of key [] = refl
of_key-without key_of key (x ∷ xs) =
    let go : (b : Bool) → (key_of x == key) ≡ b → of_key key_of key (cond b xs (x ∷ without_oldest key_of key xs)) ≡ drop 1 (cond b (x ∷ of_key key_of key xs) (of_key key_of key xs)) =
    elim [ true ↦ λ h. refl | false ↦ λ h. ap (λ b. cond b (x ∷ of_key key_of key (without_oldest key_of key xs)) (of_key key_of key (without_oldest key_of key xs))) h ∙ of_key-without key_of key xs ]
    in go (key_of x == key) refl

-- without the oldest of a key, the entries of another key are as they were
pub of_key-without_other : {X : Type 0} (key_of : X → ℕ) (key other : ℕ) (entries : List X) → other ≢ key → of_key key_of other (without_oldest key_of key entries) ≡ of_key key_of other entries
of_key-without_other key_of key other [] ne = refl
of_key-without_other key_of key other (x ∷ xs) ne =
    let go : (b : Bool) → (key_of x == key) ≡ b → of_key key_of other (cond b xs (x ∷ without_oldest key_of key xs)) ≡ of_key key_of other (x ∷ xs) =
    elim [
      | true ↦ λ h. ap (λ c. cond c (x ∷ of_key key_of other xs) (of_key key_of other xs)) (sym (ne_eqb (key_of x) other (λ e. ne (sym e ∙ eqb-true (key_of x) key h))))
      | false ↦ λ h. ap (λ t. cond (key_of x == other) (x ∷ t) t) (of_key-without_other key_of key other xs ne)
    ]
    in go (key_of x == key) refl

module _ {X : Type 0} where
  pub filter_cons : (test : X → Bool) (x : X) (xs : List X) → test x ≡ true → filter test (x ∷ xs) ≡ x ∷ filter test xs
  filter_cons test x xs e = ap (λ b. cond b (x ∷ filter test xs) (filter test xs)) e

  pub filter_skip : (test : X → Bool) (x : X) (xs : List X) → test x ≡ false → filter test (x ∷ xs) ≡ filter test xs
  filter_skip test x xs e = ap (λ b. cond b (x ∷ filter test xs) (filter test xs)) e

  pub filter-push : (test : X → Bool) (xs : List X) (x : X) → test x ≡ true → filter test (xs ++ x ∷ []) ≡ filter test xs ++ x ∷ []
  filter-push test xs x e = filter-append test xs (x ∷ []) ∙ ap (λ t. filter test xs ++ t) (filter_cons test x [] e)

  pub filter-push_skip : (test : X → Bool) (xs : List X) (x : X) → test x ≡ false → filter test (xs ++ x ∷ []) ≡ filter test xs
  filter-push_skip test xs x e = filter-append test xs (x ∷ []) ∙ ap (λ t. filter test xs ++ t) (filter_skip test x [] e) ∙ append-nil (filter test xs)

  pub filter_map : {Y : Type 0} (test : Y → Bool) (g : X → Y) (xs : List X) → filter test (map g xs) ≡ map g (filter (λ x. test (g x)) xs)
  filter_map test g [] = refl
  filter_map test g (x ∷ xs) =
      let go : (b : Bool) → cond b (g x ∷ filter test (map g xs)) (filter test (map g xs)) ≡ map g (cond b (x ∷ filter (λ y. test (g y)) xs) (filter (λ y. test (g y)) xs)) =
      elim [ true ↦ ap (λ t. g x ∷ t) (filter_map test g xs) | false ↦ filter_map test g xs ]
      in go (test (g x))

  -- two filters in either order
  filter-step : (p q : X → Bool) (x : X) (xs : List X) → filter p (filter q xs) ≡ filter q (filter p xs) →
      (b c : Bool) → p x ≡ b → q x ≡ c → filter p (cond c (x ∷ filter q xs) (filter q xs)) ≡ filter q (cond b (x ∷ filter p xs) (filter p xs))
  filter-step p q x xs same true true passes keeps =
      ap (λ t. cond t (x ∷ filter p (filter q xs)) (filter p (filter q xs))) passes ∙ ap (λ t. x ∷ t) same ∙ sym (ap (λ t. cond t (x ∷ filter q (filter p xs)) (filter q (filter p xs))) keeps)
  filter-step p q x xs same true false passes keeps = same ∙ sym (ap (λ t. cond t (x ∷ filter q (filter p xs)) (filter q (filter p xs))) keeps)
  filter-step p q x xs same false true passes keeps = ap (λ t. cond t (x ∷ filter p (filter q xs)) (filter p (filter q xs))) passes ∙ same
  filter-step p q x xs same false false passes keeps = same

  pub filter-filter : (p q : X → Bool) (xs : List X) → filter p (filter q xs) ≡ filter q (filter p xs)
  filter-filter p q [] = refl
  filter-filter p q (x ∷ xs) = filter-step p q x xs (filter-filter p q xs) (p x) (q x) refl refl

  pub of_key-of_key : (f g : X → ℕ) (i t : ℕ) (xs : List X) → of_key f i (of_key g t xs) ≡ of_key g t (of_key f i xs)
  of_key-of_key f g i t xs = filter-filter (λ x. f x == i) (λ x. g x == t) xs

  pub of_key-append : (f : X → ℕ) (key : ℕ) (xs ys : List X) → of_key f key (xs ++ ys) ≡ of_key f key xs ++ of_key f key ys
  of_key-append f key xs ys = filter-append (λ x. f x == key) xs ys

  pub of_key-one : (f : X → ℕ) (key : ℕ) (x : X) → f x ≡ key → of_key f key (x ∷ []) ≡ x ∷ []
  of_key-one f key x e = ap (λ b. cond b (x ∷ []) []) (eq-eqb (f x) key e)

  pub of_key-other : (f : X → ℕ) (key : ℕ) (x : X) → f x ≢ key → of_key f key (x ∷ []) ≡ []
  of_key-other f key x ne = ap (λ b. cond b (x ∷ []) []) (ne_eqb (f x) key ne)

  pub of_key-cons : (f : X → ℕ) (key : ℕ) (x : X) (xs : List X) → f x ≡ key → of_key f key (x ∷ xs) ≡ x ∷ of_key f key xs
  of_key-cons f key x xs e = ap (λ b. cond b (x ∷ of_key f key xs) (of_key f key xs)) (eq-eqb (f x) key e)

  pub of_key-skip : (f : X → ℕ) (key : ℕ) (x : X) (xs : List X) → f x ≢ key → of_key f key (x ∷ xs) ≡ of_key f key xs
  of_key-skip f key x xs ne = ap (λ b. cond b (x ∷ of_key f key xs) (of_key f key xs)) (ne_eqb (f x) key ne)

  -- one more beat at the end
  pub of_key-push : (f : X → ℕ) (key : ℕ) (xs : List X) (x : X) → f x ≡ key → of_key f key (xs ++ x ∷ []) ≡ of_key f key xs ++ x ∷ []
  of_key-push f key xs x e = of_key-append f key xs (x ∷ []) ∙ ap (λ t. of_key f key xs ++ t) (of_key-one f key x e)

  pub of_key-push_other : (f : X → ℕ) (key : ℕ) (xs : List X) (x : X) → f x ≢ key → of_key f key (xs ++ x ∷ []) ≡ of_key f key xs
  of_key-push_other f key xs x ne = of_key-append f key xs (x ∷ []) ∙ ap (λ t. of_key f key xs ++ t) (of_key-other f key x ne) ∙ append-nil (of_key f key xs)

  -- the filter of a list of images
  pub of_key-map : {Y : Type 0} (f : Y → ℕ) (g : X → Y) (key : ℕ) (xs : List X) → of_key f key (map g xs) ≡ map g (of_key (λ x. f (g x)) key xs)
  of_key-map f g key [] = refl
  of_key-map f g key (x ∷ xs) =
      let go : (b : Bool) → cond b (g x ∷ of_key f key (map g xs)) (of_key f key (map g xs)) ≡ map g (cond b (x ∷ of_key (λ y. f (g y)) key xs) (of_key (λ y. f (g y)) key xs)) =
      elim [ true ↦ ap (λ t. g x ∷ t) (of_key-map f g key xs) | false ↦ of_key-map f g key xs ]
      in go (f (g x) == key)

-- a key that stands in a list: the list is one longer than without its oldest entry
length-without : (key : ℕ) (xs : List ℕ) → 0 < count_of key xs → length xs ≡ suc (length (without_oldest (λ k. k) key xs))
length-without key [] some = absurd (omega arith)
length-without key (x ∷ xs) some =
    let go : (b : Bool) → 0 < length (cond b (x ∷ of_key (λ k. k) key xs) (of_key (λ k. k) key xs)) → suc (length xs) ≡ suc (length (cond b xs (x ∷ without_oldest (λ k. k) key xs))) =
    elim [ true ↦ λ h. refl | false ↦ λ h. ap suc (length-without key xs h) ]
    in go (x == key) some

-- where each key stands at most as often in one list as in another, it is no longer
pub length-by_counts : (us vs : List ℕ) → ((i : ℕ) → count_of i us ≤ count_of i vs) → length us ≤ length vs
length-by_counts [] vs fewer = omega arith
length-by_counts (u ∷ us) vs fewer =
    let mine : count_of u (u ∷ us) ≡ suc (count_of u us) = ap length (of_key-cons (λ k. k) u u us refl) in
    let some : 0 < count_of u vs = omega (arith, fewer u) in
    let left : count_of u (without_oldest (λ k. k) u vs) ≡ count_of u vs - 1 = ap length (of_key-without (λ k. k) u vs) ∙ length-drop 1 (of_key (λ k. k) u vs) in
    let rest : (i : ℕ) → count_of i us ≤ count_of i (without_oldest (λ k. k) u vs) = λ i. elim (cases_eq i u) [
      | inl e ↦ subst (λ (j : ℕ). count_of j us ≤ count_of j (without_oldest (λ k. k) u vs)) (sym e) (omega (arith, fewer u))
      | inr ne ↦
          let skipped : count_of i (u ∷ us) ≡ count_of i us = ap length (of_key-skip (λ k. k) i u us (λ e. ne (sym e))) in
          let kept : count_of i (without_oldest (λ k. k) u vs) ≡ count_of i vs = ap length (of_key-without_other (λ k. k) u i vs ne) in
          omega (arith, fewer i)
    ] in
    omega (arith, length-without u vs some, length-by_counts us (without_oldest (λ k. k) u vs) rest)

pub replicate-all : (i n : ℕ) → of_key (λ k. k) i (replicate n i) ≡ replicate n i
replicate-all i zero = refl
replicate-all i (suc n) = of_key-cons (λ k. k) i i (replicate n i) refl ∙ ap (λ t. i ∷ t) (replicate-all i n)

pub count_of-replicate : (i n : ℕ) → count_of i (replicate n i) ≡ n
count_of-replicate i n = ap length (replicate-all i n) ∙ length-replicate n i

pub replicate-none : (i j n : ℕ) → j ≢ i → of_key (λ k. k) i (replicate n j) ≡ []
replicate-none i j zero ne = refl
replicate-none i j (suc n) ne = of_key-skip (λ k. k) i j (replicate n j) ne ∙ replicate-none i j n ne

pub count_of-replicate_other : (i j n : ℕ) → j ≢ i → count_of i (replicate n j) ≡ 0
count_of-replicate_other i j n ne = ap length (replicate-none i j n ne)

pub count_of-append : (i : ℕ) (us vs : List ℕ) → count_of i (us ++ vs) ≡ count_of i us + count_of i vs
count_of-append i us vs = ap length (of_key-append (λ k. k) i us vs) ∙ length-append (of_key (λ k. k) i us) (of_key (λ k. k) i vs)

-- the beats of a key, where one of the key stands between others
pub of_key-between : {X : Type 0} (key_of : X → ℕ) (xs : List X) (y : X) (ys : List X) → of_key key_of (key_of y) (xs ++ y ∷ ys) ≡ of_key key_of (key_of y) xs ++ y ∷ of_key key_of (key_of y) ys
of_key-between key_of xs y ys =
    of_key-append key_of (key_of y) xs (y ∷ ys) ∙ ap (λ t. of_key key_of (key_of y) xs ++ t) (of_key-cons key_of (key_of y) y ys refl)

-- the place in a list of an element of its filtered list, with what stands before it
pub place_in : {X : Type 0} (key_of : X → ℕ) (key : ℕ) (xs front : List X) (x : X) (back : List X) → of_key key_of key xs ≡ front ++ x ∷ back →
    (left : List X) × (right : List X) × (xs ≡ left ++ x ∷ right) × (of_key key_of key left ≡ front)
place_in key_of key [] [] x back e = absurd (cc)
place_in key_of key [] (f ∷ front) x back e = absurd (cc)
place_in {X} key_of key (y ∷ xs) front x back e = elim (cases_eq (key_of y) key) [
  | inr ne ↦
      let found : (left : List X) × (right : List X) × (xs ≡ left ++ x ∷ right) × (of_key key_of key left ≡ front) = place_in key_of key xs front x back (sym (of_key-skip key_of key y xs ne) ∙ e) in
      (y ∷ found.0, found.1, ap (λ t. y ∷ t) found.2, of_key-skip key_of key y found.0 ne ∙ found.3)
  | inl own ↦ after y xs front own (sym (of_key-cons key_of key y xs own) ∙ e) (λ front' e'. place_in key_of key xs front' x back e')
]
  where
    after : (y : X) (xs front : List X) → key_of y ≡ key → y ∷ of_key key_of key xs ≡ front ++ x ∷ back →
        ((front' : List X) → of_key key_of key xs ≡ front' ++ x ∷ back → (left : List X) × (right : List X) × (xs ≡ left ++ x ∷ right) × (of_key key_of key left ≡ front')) →
        (left : List X) × (right : List X) × (y ∷ xs ≡ left ++ x ∷ right) × (of_key key_of key left ≡ front)
    after y xs [] own h rest = ([], xs, ap (λ t. t ∷ xs) (let head : y ≡ x = cc in head), refl)
    after y xs (f ∷ front) own h rest =
        let found : (left : List X) × (right : List X) × (xs ≡ left ++ x ∷ right) × (of_key key_of key left ≡ front) = rest front (cc) in
        let head : y ≡ f = cc in
        (y ∷ found.0, found.1, ap (λ t. y ∷ t) found.2, of_key-cons key_of key y found.0 own ∙ ap (λ t. y ∷ t) found.3 ∙ ap (λ t. t ∷ front) head)

module _ {X : Type 0} where
  -- a key stands nowhere in a list, or at a place
  pub find_key : (key_of : X → ℕ) (key : ℕ) (xs : List X) → (of_key key_of key xs ≡ []) ⊎ ((before : List X) × (x : X) × (after : List X) × (xs ≡ before ++ x ∷ after) × (key_of x ≡ key))
  find_key key_of key [] = inl refl
  find_key key_of key (y ∷ xs) = elim (cases_eq (key_of y) key) [
    | inl own ↦ inr ([], y, xs, refl, own)
    | inr ne ↦ elim (find_key key_of key xs) [
      | inl none ↦ inl (of_key-skip key_of key y xs ne ∙ none)
      | inr found ↦ inr (y ∷ found.0, found.1, found.2, ap (λ t. y ∷ t) found.3, found.4)
    ]
  ]

-- what is picked of two lists of pairs
pub picked-append : {X : Type 0} (selects : ℕ → Bool) (pairs more : List (ℕ × X)) → picked selects (pairs ++ more) ≡ picked selects pairs ++ picked selects more
picked-append selects [] more = refl
picked-append {X} selects (pair ∷ pairs) more =
    let go : (b : Bool) → cond b (pair.1 ∷ picked selects (pairs ++ more)) (picked selects (pairs ++ more)) ≡ cond b (pair.1 ∷ picked selects pairs) (picked selects pairs) ++ picked selects more =
    elim [ true ↦ ap (λ (t : List X). pair.1 ∷ t) (picked-append selects pairs more) | false ↦ picked-append selects pairs more ]
    in go (selects pair.0)
