-- The elements of lists by their places, what is found and what passes a test, and numbers that rise.
use Rattle.std.proofs.Common.{◌≡◌, ℕ, ◌+◌, ◌<◌, ◌≤◌, ◌&&◌, zero, suc, Bool, true, false, cond, List, [], ◌∷◌, ◌++◌, Option, Some, None, length, map, take, get_or, refl, sym, ◌∙◌, ap, subst, arith}
use Rattle.std.specs.List.{enumerate_from, AllByRecursion}
use Rattle.std.specs.Option.{option_map}
use Rattle.std.specs.Prelude.{All, Contains, IfSome, count_by, filter, find, slice_get}
use Rattle.std.proofs.lemmas.List.Elements.{recursion_from_All}
use Rattle.std.proofs.lemmas.List.Sums.{count_by-le-length, sum_by-cons}
use Rattle.std.proofs.lemmas.Option.{get_or_from_slice_get, same_Some, slice_get-get_or, slice_get-map, slice_get_within}

module _ {X : Type 0} where
  -- an item of a list that is numbered from m on
  pub slice_get-enumerate : (m : ℕ) (xs : List X) (k : ℕ) → slice_get (enumerate_from m xs) k ≡ option_map (λ x. (m + k, x)) (slice_get xs k)
  slice_get-enumerate m [] k = refl
  slice_get-enumerate m (x ∷ xs) zero = ap (λ (n : ℕ). Some (n, x)) (omega arith)
  slice_get-enumerate m (x ∷ xs) (suc k) =
      slice_get-enumerate (m + 1) xs k ∙ ap (λ (n : ℕ). option_map (λ x. (n, x)) (slice_get xs k)) (omega arith)

  -- what passes a filter is in it
  pub filter-has : (test : X → Bool) (xs : List X) (k : ℕ) (x : X) → slice_get xs k ≡ Some x → test x ≡ true → (n : ℕ) × (slice_get (filter test xs) n ≡ Some x)
  filter-has test [] k x at passes = absurd (cc)
  filter-has test (y ∷ ys) zero x at passes =
      let same : y ≡ x = cc
      in let here : test y ≡ true = ap test same ∙ passes
      in (0, ap (λ (b : Bool). slice_get (cond b (y ∷ filter test ys) (filter test ys)) 0) here ∙ at)
  filter-has test (y ∷ ys) (suc k) x at passes =
      let rest : (n : ℕ) × (slice_get (filter test ys) n ≡ Some x) = filter-has test ys k x at passes
      in let go : (b : Bool) → (n : ℕ) × (slice_get (cond b (y ∷ filter test ys) (filter test ys)) n ≡ Some x) = elim [ true ↦ (suc rest.0, rest.1) | false ↦ rest ]
      in go (test y)

  -- what is in a filter passes it, and is in the list
  pub filter-from : (test : X → Bool) (xs : List X) (n : ℕ) (x : X) → slice_get (filter test xs) n ≡ Some x → (test x ≡ true) × (k : ℕ) × (slice_get xs k ≡ Some x)
  filter-from test [] n x at = absurd (cc)
  filter-from test (y ∷ ys) n x at =
      let later : (m : ℕ) → slice_get (filter test ys) m ≡ Some x → (test x ≡ true) × (k : ℕ) × (slice_get (y ∷ ys) k ≡ Some x) =
      λ m there. let rest = filter-from test ys m x there in (rest.0, suc rest.1, rest.2)
      in let first : (m : ℕ) → test y ≡ true → slice_get (y ∷ filter test ys) m ≡ Some x → (test x ≡ true) × (k : ℕ) × (slice_get (y ∷ ys) k ≡ Some x) =
      elim [
        | zero ↦ λ passes here. let same : y ≡ x = cc in (ap test (sym same) ∙ passes, 0, here)
        | suc m ↦ λ passes there. later m there
      ]
      in let go : (b : Bool) → test y ≡ b → slice_get (cond b (y ∷ filter test ys) (filter test ys)) n ≡ Some x → (test x ≡ true) × (k : ℕ) × (slice_get (y ∷ ys) k ≡ Some x) =
      elim [ true ↦ λ passes there. first n passes there | false ↦ λ fails there. later n there ]
      in go (test y) refl at

  -- of numbered items, those that pass have numbers from the first one on
  numbers-least : (test : ℕ × X → Bool) (m : ℕ) (xs : List X) (n : ℕ) (p : ℕ × X) → slice_get (filter test (enumerate_from m xs)) n ≡ Some p → m ≤ p.0
  numbers-least test m [] n p at = absurd (cc)
  numbers-least test m (x ∷ xs) n p at =
      let later : (k : ℕ) → slice_get (filter test (enumerate_from (m + 1) xs)) k ≡ Some p → m ≤ p.0 = λ k there. let least = numbers-least test (m + 1) xs k p there in omega arith
      in let first : (k : ℕ) → slice_get ((m, x) ∷ filter test (enumerate_from (m + 1) xs)) k ≡ Some p → m ≤ p.0 =
      elim [ zero ↦ λ here. let same : (m, x) ≡ p = cc in let number : m ≡ p.0 = ap (λ (q : ℕ × X). q.0) same in omega arith | suc k ↦ later k ]
      in let go : (b : Bool) → slice_get (cond b ((m, x) ∷ filter test (enumerate_from (m + 1) xs)) (filter test (enumerate_from (m + 1) xs))) n ≡ Some p → m ≤ p.0 =
      elim [ true ↦ first n | false ↦ later n ]
      in go (test (m, x)) at

  -- and their numbers rise
  pub numbers-rise : (test : ℕ × X → Bool) (m : ℕ) (xs : List X) (j k : ℕ) (p q : ℕ × X) → slice_get (filter test (enumerate_from m xs)) j ≡ Some p → slice_get (filter test (enumerate_from m xs)) k ≡ Some q → j < k → p.0 < q.0
  numbers-rise test m [] j k p q at_p at_q lt = absurd (cc)
  numbers-rise test m (x ∷ xs) j k p q at_p at_q lt =
      let kept : (i l : ℕ) → slice_get ((m, x) ∷ filter test (enumerate_from (m + 1) xs)) i ≡ Some p → slice_get ((m, x) ∷ filter test (enumerate_from (m + 1) xs)) l ≡ Some q → i < l → p.0 < q.0 =
      elim [
        | zero ↦ elim [
          | zero ↦ λ a b less. absurd (omega arith)
          | suc l ↦ λ a b less. let least = numbers-least test (m + 1) xs l q b in let same : (m, x) ≡ p = cc in let number : m ≡ p.0 = ap (λ (r : ℕ × X). r.0) same in omega arith
        ]
        | suc i ↦ elim [
          | zero ↦ λ a b less. absurd (omega arith)
          | suc l ↦ λ a b less. numbers-rise test (m + 1) xs i l p q a b (omega arith)
        ]
      ]
      in let go : (b : Bool) → slice_get (cond b ((m, x) ∷ filter test (enumerate_from (m + 1) xs)) (filter test (enumerate_from (m + 1) xs))) j ≡ Some p → slice_get (cond b ((m, x) ∷ filter test (enumerate_from (m + 1) xs)) (filter test (enumerate_from (m + 1) xs))) k ≡ Some q → p.0 < q.0 =
      elim [ true ↦ λ a b. kept j k a b lt | false ↦ λ a b. numbers-rise test (m + 1) xs j k p q a b lt ]
      in go (test (m, x)) at_p at_q

module _ {X : Type 0} where
  -- what holds of each item by its place, and the other way round
  pub all-at : (P : X → Type 0) (xs : List X) → ((k : ℕ) (x : X) → slice_get xs k ≡ Some x → P x) → All P xs
  all-at P xs each = λ k d within. each k (get_or xs k d) (slice_get-get_or xs k d within)

  pub at-all : (P : X → Type 0) (xs : List X) (k : ℕ) (x : X) → All P xs → slice_get xs k ≡ Some x → P x
  at-all P xs k x all at = subst P (get_or_from_slice_get xs k x x at) (all k x (slice_get_within xs k x at))

  pub contains-at : (xs : List X) (k : ℕ) (x : X) → slice_get xs k ≡ Some x → Contains xs x
  contains-at xs k x at = (k, slice_get_within xs k x at, get_or_from_slice_get xs k x x at)

  pub at-contains : (xs : List X) (x : X) → Contains xs x → (k : ℕ) × (slice_get xs k ≡ Some x)
  at-contains xs x has = (has.0, slice_get-get_or xs has.0 x has.1 ∙ ap (λ y. Some y) has.2)

-- what stands in the middle
pub middle : {X : Type 0} (xs : List X) (x : X) (ys : List X) → slice_get (xs ++ x ∷ ys) (length xs) ≡ Some x
middle [] x ys = refl
middle (z ∷ zs) x ys = middle zs x ys

-- what stands in front of a longer list
pub front-at : {X : Type 0} (xs ys : List X) (k : ℕ) (x : X) → slice_get xs k ≡ Some x → slice_get (xs ++ ys) k ≡ Some x
front-at [] ys k x at = absurd (cc)
front-at (z ∷ zs) ys zero x at = at
front-at (z ∷ zs) ys (suc k) x at = front-at zs ys k x at

abbrev one : Bool → ℕ
one b = cond b 1 0

module _ {X : Type 0} where
  -- where as many pass as there are, each passes
  pub all-counted : (p : X → Bool) (xs : List X) (n : ℕ) (x : X) → count_by p xs ≡ length xs → slice_get xs n ≡ Some x → p x ≡ true
  all-counted p [] n x all at = absurd (cc)
  all-counted p (y ∷ ys) n x all at =
      let counts = sum_by-cons (λ z. one (p z)) y ys
      in let most = count_by-le-length p ys
      in let go : (b : Bool) → p y ≡ b → one b + count_by p ys ≡ suc (length ys) → (p y ≡ true) × (count_by p ys ≡ length ys) =
      elim [ true ↦ λ is e. (is, omega arith) | false ↦ λ is e. absurd (omega arith) ]
      in let both = go (p y) refl (sym counts ∙ all)
      in let place : (k : ℕ) → slice_get (y ∷ ys) k ≡ Some x → p x ≡ true =
      elim [
        | zero ↦ λ here. let same : y ≡ x = cc in subst (λ z. p z ≡ true) same both.0
        | suc k ↦ λ there. all-counted p ys k x both.1 there
      ]
      in place n at

  -- where some are counted, there is one that passes
  pub some-counted : (p : X → Bool) (xs : List X) → 0 < count_by p xs → (n : ℕ) × (x : X) × (slice_get xs n ≡ Some x) × (p x ≡ true)
  some-counted p [] some = absurd (omega arith)
  some-counted p (y ∷ ys) some =
      let counts = sum_by-cons (λ z. one (p z)) y ys
      in let go : (b : Bool) → p y ≡ b → 0 < one b + count_by p ys → (n : ℕ) × (x : X) × (slice_get (y ∷ ys) n ≡ Some x) × (p x ≡ true) =
      elim [
        | true ↦ λ is less. (0, y, refl, is)
        | false ↦ λ is less. let rest : (n : ℕ) × (x : X) × (slice_get ys n ≡ Some x) × (p x ≡ true) = some-counted p ys (omega arith) in (suc rest.0, rest.1, rest.2, rest.3)
      ]
      in go (p y) refl (subst (λ (k : ℕ). 0 < k) counts some)

  -- there is an item at each place
  pub item-there : (xs : List X) (k : ℕ) → k < length xs → (x : X) × (slice_get xs k ≡ Some x)
  item-there [] k less = absurd (omega arith)
  item-there (x ∷ xs) zero less = (x, refl)
  item-there (x ∷ xs) (suc k) less = item-there xs k (omega arith)

  -- the first items
  pub take-from : (n : ℕ) (xs : List X) (k : ℕ) (x : X) → slice_get (take n xs) k ≡ Some x → (k < n) × (slice_get xs k ≡ Some x)
  take-from zero xs k x at = absurd (cc)
  take-from (suc n) [] k x at = absurd (cc)
  take-from (suc n) (y ∷ ys) zero x at = (omega arith, at)
  take-from (suc n) (y ∷ ys) (suc k) x at = let rest = take-from n ys k x at in (omega (arith, rest.0), rest.1)

  pub take-has : (n : ℕ) (xs : List X) (k : ℕ) (x : X) → k < n → slice_get xs k ≡ Some x → slice_get (take n xs) k ≡ Some x
  take-has zero xs k x less at = absurd (omega arith)
  take-has (suc n) [] k x less at = at
  take-has (suc n) (y ∷ ys) zero x less at = at
  take-has (suc n) (y ∷ ys) (suc k) x less at = take-has n ys k x (omega arith) at

  pub take-one : (n : ℕ) (xs : List X) (x : X) → slice_get xs n ≡ Some x → take (suc n) xs ≡ take n xs ++ x ∷ []
  take-one n [] x at = absurd (cc)
  take-one zero (y ∷ ys) x at = let same : y ≡ x = cc in ap (λ z. z ∷ []) same
  take-one (suc n) (y ∷ ys) x at = ap (λ zs. y ∷ zs) (take-one n ys x at)

  -- an item of a mapped list
  pub map-from : {Y : Type 0} (f : X → Y) (xs : List X) (k : ℕ) (y : Y) → slice_get (map f xs) k ≡ Some y → (x : X) × (slice_get xs k ≡ Some x) × (f x ≡ y)
  map-from {Y} f xs k y at =
      let go : (o : Option X) → slice_get xs k ≡ o → option_map f o ≡ Some y → (x : X) × (slice_get xs k ≡ Some x) × (f x ≡ y) =
      elim [ None ↦ λ is none. absurd (cc) | Some x ↦ λ is some. (x, is, same_Some (f x) y some) ]
      in go (slice_get xs k) refl (sym (slice_get-map f xs k) ∙ at)

  pub map-has : {Y : Type 0} (f : X → Y) (xs : List X) (k : ℕ) (x : X) → slice_get xs k ≡ Some x → slice_get (map f xs) k ≡ Some (f x)
  map-has f xs k x at = slice_get-map f xs k ∙ ap (option_map f) at

  -- two tests that agree on all items, and a test after another
  pub filter-same : (p q : X → Bool) (xs : List X) → ((k : ℕ) (x : X) → slice_get xs k ≡ Some x → p x ≡ q x) → filter p xs ≡ filter q xs
  filter-same p q [] same = refl
  filter-same p q (x ∷ xs) same =
      ap (λ (b : Bool). cond b (x ∷ filter p xs) (filter p xs)) (same 0 x refl)
      ∙ ap (λ ys. cond (q x) (x ∷ ys) ys) (filter-same p q xs (λ k y at. same (suc k) y at))

  pub filter-both : (p q r : X → Bool) (xs : List X) → ((k : ℕ) (x : X) → slice_get xs k ≡ Some x → r x ≡ (p x && q x)) → filter q (filter p xs) ≡ filter r xs
  filter-both p q r [] both = refl
  filter-both p q r (x ∷ xs) both =
      let rest = filter-both p q r xs (λ k y at. both (suc k) y at)
      in let go : (b c : Bool) → q x ≡ c → filter q (cond b (x ∷ filter p xs) (filter p xs)) ≡ cond (b && c) (x ∷ filter q (filter p xs)) (filter q (filter p xs)) =
      elim [
        | true ↦ λ c is. ap (λ (d : Bool). cond d (x ∷ filter q (filter p xs)) (filter q (filter p xs))) is
        | false ↦ λ c is. refl
      ]
      in go (p x) (q x) refl ∙ ap (λ (b : Bool). cond b (x ∷ filter q (filter p xs)) (filter q (filter p xs))) (sym (both 0 x refl)) ∙ ap (λ ys. cond (r x) (x ∷ ys) ys) rest

  pub filter-all : (p : X → Bool) (xs : List X) → ((k : ℕ) (x : X) → slice_get xs k ≡ Some x → p x ≡ true) → filter p xs ≡ xs
  filter-all p [] all = refl
  filter-all p (x ∷ xs) all =
      ap (λ (b : Bool). cond b (x ∷ filter p xs) (filter p xs)) (all 0 x refl) ∙ ap (λ ys. x ∷ ys) (filter-all p xs (λ k y at. all (suc k) y at))

  -- what is found is in the list, and passes
  pub find-has : (p : X → Bool) (xs : List X) (x : X) → find p xs ≡ Some x → (p x ≡ true) × (k : ℕ) × (slice_get xs k ≡ Some x)
  find-has p [] x found = absurd (cc)
  find-has p (y ∷ ys) x found =
      let go : (b : Bool) → p y ≡ b → cond b (Some y) (find p ys) ≡ Some x → (p x ≡ true) × (k : ℕ) × (slice_get (y ∷ ys) k ≡ Some x) =
      elim [
        | true ↦ λ passes here. (ap p (sym (same_Some y x here)) ∙ passes, 0, here)
        | false ↦ λ fails there. let rest = find-has p ys x there in (rest.0, suc rest.1, rest.2)
      ]
      in go (p y) refl found

  -- and stands before all others that pass
  pub find-first : (p : X → Bool) (xs : List X) (x : X) (m : ℕ) (y : X) → find p xs ≡ Some x → slice_get xs m ≡ Some y → p y ≡ true → (k : ℕ) × (slice_get xs k ≡ Some x) × (k ≤ m)
  find-first p [] x m y found at passes = absurd (cc)
  find-first p (z ∷ zs) x m y found at passes =
      let go : (b : Bool) → p z ≡ b → cond b (Some z) (find p zs) ≡ Some x → (k : ℕ) × (slice_get (z ∷ zs) k ≡ Some x) × (k ≤ m) =
      elim [
        | true ↦ λ is here. (0, here, omega arith)
        | false ↦ λ fails there.
            let later : (n : ℕ) → slice_get (z ∷ zs) n ≡ Some y → (k : ℕ) × (slice_get (z ∷ zs) k ≡ Some x) × (k ≤ n) =
            elim [
              | zero ↦ λ here. let same : z ≡ y = cc in absurd (let no : true ≡ false = sym passes ∙ ap p (sym same) ∙ fails in cc)
              | suc n ↦ λ after. let rest : (k : ℕ) × (slice_get zs k ≡ Some x) × (k ≤ n) = find-first p zs x n y there after passes in (suc rest.0, rest.1, omega (arith, rest.2))
            ]
            in later m at
      ]
      in go (p z) refl found

-- pairs whose numbers rise
abbrev pub Rise : {X : Type 0} → List (ℕ × X) → Type 0
Rise {X} xs = (j k : ℕ) (p q : ℕ × X) → slice_get xs j ≡ Some p → slice_get xs k ≡ Some q → j < k → p.0 < q.0

module _ {X : Type 0} where
  pub rise-take : (n : ℕ) (xs : List (ℕ × X)) → Rise xs → Rise (take n xs)
  rise-take n xs rise j k p q at_p at_q less = rise j k p q (take-from n xs j p at_p).1 (take-from n xs k q at_q).1 less

  pub rise-tail : (x : ℕ × X) (xs : List (ℕ × X)) → Rise (x ∷ xs) → Rise xs
  rise-tail x xs rise j k p q at_p at_q less = rise (suc j) (suc k) p q at_p at_q (omega arith)

  pub rise-filter : (test : ℕ × X → Bool) (xs : List (ℕ × X)) → Rise xs → Rise (filter test xs)
  rise-filter test [] rise j k p q at_p at_q less = absurd (cc)
  rise-filter test (x ∷ xs) rise j k p q at_p at_q less =
      let rest = rise-filter test xs (rise-tail x xs rise)
      in let kept : (i l : ℕ) → slice_get (x ∷ filter test xs) i ≡ Some p → slice_get (x ∷ filter test xs) l ≡ Some q → i < l → p.0 < q.0 =
      elim [
        | zero ↦ elim [
          | zero ↦ λ a b no. absurd (omega arith)
          | suc l ↦ λ a b lt. let from = filter-from test xs l q b in rise 0 (suc from.1) p q a from.2 (omega arith)
        ]
        | suc i ↦ elim [
          | zero ↦ λ a b no. absurd (omega arith)
          | suc l ↦ λ a b lt. rest i l p q a b (omega arith)
        ]
      ]
      in let go : (b : Bool) → slice_get (cond b (x ∷ filter test xs) (filter test xs)) j ≡ Some p → slice_get (cond b (x ∷ filter test xs) (filter test xs)) k ≡ Some q → p.0 < q.0 =
      elim [ true ↦ λ a b. kept j k a b less | false ↦ λ a b. rest j k p q a b less ]
      in go (test x) at_p at_q

module _ {X : Type 0} (P : X → Type 0) where
  slice_get-recursion : (xs : List X) (i : ℕ) → AllByRecursion P xs → IfSome (slice_get xs i) P
  slice_get-recursion [] i all = tt
  slice_get-recursion (x ∷ xs) zero all = all.0
  slice_get-recursion (x ∷ xs) (suc i) all = slice_get-recursion xs i all.1

  pub All-slice_get : (xs : List X) (i : ℕ) → All P xs → IfSome (slice_get xs i) P
  All-slice_get xs i all = slice_get-recursion xs i (recursion_from_All P xs all)

module _ {X : Type 0} where
  pub IfSome-both : (P Q R : X → Type 0) → ((x : X) → P x → Q x → R x) → (o : Option X) → IfSome o P → IfSome o Q → IfSome o R
  IfSome-both P Q R join None p q = tt
  IfSome-both P Q R join (Some x) p q = join x p q

  pub IfSome-map : {Y : Type 0} (f : X → Y) (P : Y → Type 0) (o : Option X) → IfSome o (λ x. P (f x)) → IfSome (option_map f o) P
  IfSome-map f P None has = tt
  IfSome-map f P (Some x) has = has

-- what passes the test stays in what is kept
pub Contains-filter : (p : ℕ → Bool) (xs : List ℕ) (x : ℕ) → Contains xs x → p x ≡ true → Contains (filter p xs) x
Contains-filter p [] x (k, within, is) passes = absurd (omega arith)
Contains-filter p (y ∷ ys) x (zero, within, is) passes =
    let kept : p y ≡ true = ap p is ∙ passes in
    subst (λ (b : Bool). Contains (cond b (y ∷ filter p ys) (filter p ys)) x) (sym kept) (0, omega arith, is)
Contains-filter p (y ∷ ys) x (suc k, within, is) passes =
    let later : Contains (filter p ys) x = Contains-filter p ys x (k, omega arith, is) passes in
    let go : (b : Bool) → Contains (cond b (y ∷ filter p ys) (filter p ys)) x =
    λ b. elim b as (λ b. Contains (cond b (y ∷ filter p ys) (filter p ys)) x) [ true ↦ (suc (later.0), omega arith, later.2) | false ↦ later ]
    in go (p y)

-- what holds of all holds at a place
pub at-has : {X : Type 0} (P : X → Type 0) (xs : List X) (i : ℕ) (x : X) → slice_get xs i ≡ Some x → All P xs → P x
at-has P [] i x e all = absurd (cc)
at-has P (y ∷ ys) zero x e all = subst P (let same : y ≡ x = cc in same) (all 0 y (omega arith))
at-has P (y ∷ ys) (suc i) x e all = at-has P ys i x e (λ k d lt. all (suc k) d (omega arith))
