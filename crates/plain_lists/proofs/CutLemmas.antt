-- Lists that are cut at an element: what such a cut of images, or of selected elements, is in the list itself.
use Rattle.std.proofs.Common.{◌≡◌, ◌==◌, ℕ, Bool, true, false, cond, List, [], ◌∷◌, ◌++◌, length, map, refl, sym, ◌∙◌, ap, ap₂, inl, inr, arith, Contains, All}
use Rattle.std.specs.Prelude.{◌⊎◌, ◌<◌, filter}
use Rattle.std.proofs.lemmas.Bool.{cases_Bool}
use Rattle.std.proofs.lemmas.List.Elements.{All-cons, All-contains, All-contains_itself, All-head, All-nil, All-tail}
use Rattle.plain_lists.specs.Keys.{of_key, without_oldest}
use Rattle.plain_lists.proofs.KeyLemmas.{filter_cons, filter_skip}

pub never-cut : {X : Type 0} (front : List X) (x : X) (back : List X) → [] ≡ front ++ x ∷ back → ⊥
never-cut [] x back e = absurd (cc)
never-cut (y ∷ front) x back e = absurd (cc)

-- a cut of a list with one more at its end
pub cut-push : {X : Type 0} (xs : List X) (last : X) (front : List X) (next : X) (back : List X) → xs ++ last ∷ [] ≡ front ++ next ∷ back →
    ((xs ≡ front) × (last ≡ next)) ⊎ ((rest : List X) × (xs ≡ front ++ next ∷ rest))
cut-push {X} [] last [] next back e = let first : last ≡ next = cc in inl (refl, first)
cut-push {X} [] last (f ∷ front) next back e = absurd (never-cut front next back (let rest : [] ≡ front ++ next ∷ back = cc in rest))
cut-push (x ∷ xs) last [] next back e = let first : x ≡ next = cc in inr (xs, ap (λ y. y ∷ xs) first)
cut-push (x ∷ xs) last (f ∷ front) next back e =
    let first : x ≡ f = cc in
    let rest : xs ++ last ∷ [] ≡ front ++ next ∷ back = cc in
    elim (cut-push xs last front next back rest) [
      | inl here ↦ inl (ap₂ (λ a b. a ∷ b) first here.0, here.1)
      | inr later ↦ inr (later.0, ap₂ (λ a b. a ∷ b) first later.1)
    ]

-- a list of images that is cut at an element
pub record IsCutOfImages {X Y : Type 0} (f : X → Y) (xs : List X) (front : List Y) (y : Y) (back : List Y) : Type 0 where
  pub first : List X
  pub at : X
  pub last : List X
  pub whole : xs ≡ first ++ at ∷ last
  pub front_is : map f first ≡ front
  pub at_is : f at ≡ y
  pub back_is : map f last ≡ back

pub cut-map : {X Y : Type 0} (f : X → Y) (xs : List X) (front : List Y) (y : Y) (back : List Y) → map f xs ≡ front ++ y ∷ back → IsCutOfImages f xs front y back
cut-map f [] [] y back e = absurd (cc)
cut-map f [] (z ∷ front) y back e = absurd (cc)
cut-map f (x ∷ xs) [] y back e =
    let is : f x ∷ map f xs ≡ y ∷ back = e in
    let one : f x ≡ y = cc in
    let more : map f xs ≡ back = cc in
    record { first = []; at = x; last = xs; whole = refl; front_is = refl; at_is = one; back_is = more }
cut-map f (x ∷ xs) (z ∷ front) y back e =
    let is : f x ∷ map f xs ≡ z ∷ (front ++ y ∷ back) = e in
    let one : f x ≡ z = cc in
    let more : map f xs ≡ front ++ y ∷ back = cc in
    let rest = cut-map f xs front y back more in
    record {
      first = x ∷ rest.first;
      at = rest.at;
      last = rest.last;
      whole = ap (λ t. x ∷ t) rest.whole;
      front_is = ap₂ (λ a b. a ∷ b) one rest.front_is;
      at_is = rest.at_is;
      back_is = rest.back_is;
    }

-- what passes a test, cut at an element
pub record IsCutOfPassing {X : Type 0} (test : X → Bool) (xs front : List X) (y : X) (back : List X) : Type 0 where
  pub left : List X
  pub right : List X
  pub whole : xs ≡ left ++ y ∷ right
  pub left_is : filter test left ≡ front
  pub right_is : filter test right ≡ back
  pub passes : test y ≡ true

pub cut-filter : {X : Type 0} (test : X → Bool) (xs front : List X) (y : X) (back : List X) → filter test xs ≡ front ++ y ∷ back → IsCutOfPassing test xs front y back
cut-filter test [] [] y back e = absurd (cc)
cut-filter test [] (f ∷ front) y back e = absurd (cc)
cut-filter {X} test (x ∷ xs) front y back e = elim (cases_Bool (test x)) [
  | inr skipped ↦
      let found = cut-filter test xs front y back (sym (filter_skip test x xs skipped) ∙ e) in
      record {
        left = x ∷ found.left;
        right = found.right;
        whole = ap (λ t. x ∷ t) found.whole;
        left_is = filter_skip test x found.left skipped ∙ found.left_is;
        right_is = found.right_is;
        passes = found.passes;
      }
  | inl kept ↦ after front kept (sym (filter_cons test x xs kept) ∙ e) (λ front' e'. cut-filter test xs front' y back e')
]
  where
    after : (front : List X) → test x ≡ true → x ∷ filter test xs ≡ front ++ y ∷ back →
        ((front' : List X) → filter test xs ≡ front' ++ y ∷ back → IsCutOfPassing test xs front' y back) → IsCutOfPassing test (x ∷ xs) front y back
    after [] kept e rest =
        let head : x ≡ y = cc in
        let tail : filter test xs ≡ back = cc in
        record { left = []; right = xs; whole = ap (λ t. t ∷ xs) head; left_is = refl; right_is = tail; passes = ap test (sym head) ∙ kept }
    after (f ∷ front) kept e rest =
        let head : x ≡ f = cc in
        let tail : filter test xs ≡ front ++ y ∷ back = cc in
        let found = rest front tail in
        record {
          left = x ∷ found.left;
          right = found.right;
          whole = ap (λ t. x ∷ t) found.whole;
          left_is = filter_cons test x found.left kept ∙ ap₂ (λ a b. a ∷ b) head found.left_is;
          right_is = found.right_is;
          passes = found.passes;
        }

module _ {X : Type 0} (P : X → Type 0) where
  -- what holds of all elements holds of fewer
  pub all-left : (xs ys : List X) → All P (xs ++ ys) → All P xs
  all-left [] ys all = All-nil P
  all-left (x ∷ xs) ys all = All-cons P x xs (All-head P x (xs ++ ys) all) (all-left xs ys (All-tail P x (xs ++ ys) all))

  pub all-right : (xs ys : List X) → All P (xs ++ ys) → All P ys
  all-right [] ys all = all
  all-right (x ∷ xs) ys all = all-right xs ys (All-tail P x (xs ++ ys) all)

  pub all-cut : (front : List X) (x : X) (back : List X) → All P (front ++ x ∷ back) → P x
  all-cut front x back all = All-head P x back (all-right front (x ∷ back) all)

  pub all-without : (key_of : X → ℕ) (key : ℕ) (xs : List X) → All P xs → All P (without_oldest key_of key xs)
  all-without key_of key [] all = all
  all-without key_of key (x ∷ xs) all =
      let go : (b : Bool) → All P (cond b xs (x ∷ without_oldest key_of key xs)) =
      elim [
        | true ↦ All-tail P x xs all
        | false ↦ All-cons P x (without_oldest key_of key xs) (All-head P x xs all) (all-without key_of key xs (All-tail P x xs all))
      ]
      in go (key_of x == key)

pub all-unmap : {X Y : Type 0} (P : Y → Type 0) (f : X → Y) (xs : List X) → All P (map f xs) → All (λ x. P (f x)) xs
all-unmap P f [] all = All-nil (λ x. P (f x))
all-unmap P f (x ∷ xs) all = All-cons (λ x. P (f x)) x xs (All-head P (f x) (map f xs) all) (all-unmap P f xs (All-tail P (f x) (map f xs) all))

-- and what stands in a list without its oldest of a key, or is an image of what does
pub contains-without : {X : Type 0} (key_of : X → ℕ) (key : ℕ) (xs : List X) (x : X) → Contains (without_oldest key_of key xs) x → Contains xs x
contains-without {X} key_of key xs x has =
    All-contains (Contains xs) (without_oldest key_of key xs) x (all-without (Contains xs) key_of key xs (All-contains_itself xs)) has

pub contains-map : {X Y : Type 0} (f : X → Y) (xs : List X) (x : X) → Contains xs x → Contains (map f xs) (f x)
contains-map {X} {Y} f xs x has = All-contains (λ (y : X). Contains (map f xs) (f y)) xs x (all-unmap (Contains (map f xs)) f xs (All-contains_itself (map f xs))) has

-- the oldest of images
pub without-map : {X Y : Type 0} (f : X → Y) (key_of : Y → ℕ) (key : ℕ) (xs : List X) → without_oldest key_of key (map f xs) ≡ map f (without_oldest (λ x. key_of (f x)) key xs)
without-map f key_of key [] = refl
without-map f key_of key (x ∷ xs) =
    let go : (b : Bool) → cond b (map f xs) (f x ∷ without_oldest key_of key (map f xs)) ≡ map f (cond b xs (x ∷ without_oldest (λ y. key_of (f y)) key xs)) =
    elim [ true ↦ refl | false ↦ ap (λ t. f x ∷ t) (without-map f key_of key xs) ]
    in go (key_of (f x) == key)

-- where more have the key than those of the last ones, the oldest is among the first ones
pub oldest-first : {X : Type 0} (key_of : X → ℕ) (key : ℕ) (first last : List X) → length (of_key key_of key last) < length (of_key key_of key (first ++ last)) →
    without_oldest key_of key (first ++ last) ≡ without_oldest key_of key first ++ last
oldest-first key_of key [] last more = absurd (omega arith)
oldest-first key_of key (a ∷ first) last more =
    let go : (b : Bool) → length (of_key key_of key last) < length (cond b (a ∷ of_key key_of key (first ++ last)) (of_key key_of key (first ++ last))) →
    cond b (first ++ last) (a ∷ without_oldest key_of key (first ++ last)) ≡ cond b first (a ∷ without_oldest key_of key first) ++ last =
    λ b. elim b as (λ b. length (of_key key_of key last) < length (cond b (a ∷ of_key key_of key (first ++ last)) (of_key key_of key (first ++ last))) →
    cond b (first ++ last) (a ∷ without_oldest key_of key (first ++ last)) ≡ cond b first (a ∷ without_oldest key_of key first) ++ last) [
      | true ↦ λ less. refl
      | false ↦ λ less. ap (λ t. a ∷ t) (oldest-first key_of key first last less)
    ]
    in go (key_of a == key) more
