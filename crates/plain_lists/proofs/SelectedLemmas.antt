-- Selected entries, and the entries of a key among them.
use Rattle.std.proofs.Common.{◌≡◌, ◌≢◌, ℕ, ◌==◌, Bool, true, false, cond, List, [], ◌∷◌, refl, sym, ◌∙◌, ap, subst, inl, inr, eq-eqb}
use Rattle.std.specs.Prelude.{All}
use Rattle.std.proofs.lemmas.Bool.{cases_Bool, eqb-true}
use Rattle.std.proofs.lemmas.List.Elements.{All-cons, All-head, All-nil, All-tail}
use Rattle.plain_lists.specs.Keys.{of_key, selected}
use Rattle.plain_lists.proofs.KeyLemmas.{filter_cons, filter_skip, of_key-skip}

module _ {X : Type 0} where
  -- the entries of a key are among the selected ones, if each of them is selected
  pub of_key-selected : (key_of number_of : X → ℕ) (selects : ℕ → Bool) (key : ℕ) (xs : List X) → All (λ x. key_of x ≡ key → selects (number_of x) ≡ true) xs →
      of_key key_of key (selected number_of selects xs) ≡ of_key key_of key xs
  of_key-selected key_of number_of selects key [] only = refl
  of_key-selected key_of number_of selects key (x ∷ xs) only =
      let Chosen : X → Type 0 = λ y. key_of y ≡ key → selects (number_of y) ≡ true in
      let rest = of_key-selected key_of number_of selects key xs (All-tail Chosen x xs only) in
      elim (cases_Bool (selects (number_of x))) [
        | inl kept ↦
            ap (of_key key_of key) (filter_cons (λ (y : X). selects (number_of y)) x xs kept) ∙ ap (λ (ys : List X). cond (key_of x == key) (x ∷ ys) ys) rest
        | inr dropped ↦
            let other : key_of x ≢ key = λ own. absurd (let no : true ≡ false = sym (All-head Chosen x xs only own) ∙ dropped in cc) in
            ap (of_key key_of key) (filter_skip (λ (y : X). selects (number_of y)) x xs dropped) ∙ rest ∙ sym (of_key-skip key_of key x xs other)
      ]

  -- those of a number are all among the selected ones, where the number is selected
  pub of_number-selected : (number_of : X → ℕ) (selects : ℕ → Bool) (number : ℕ) (xs : List X) → selects number ≡ true →
      of_key number_of number (selected number_of selects xs) ≡ of_key number_of number xs
  of_number-selected number_of selects number xs chosen = of_key-selected number_of number_of selects number xs (λ k d within own. ap selects own ∙ chosen)

  -- and none of them is, where it isn't
  pub of_number-left_out : (number_of : X → ℕ) (selects : ℕ → Bool) (number : ℕ) (xs : List X) → selects number ≡ false → of_key number_of number (selected number_of selects xs) ≡ []
  of_number-left_out number_of selects number [] dropped = refl
  of_number-left_out number_of selects number (x ∷ xs) dropped =
      let rest = of_number-left_out number_of selects number xs dropped in
      elim (cases_Bool (selects (number_of x))) [
        | inr skipped ↦ ap (of_key number_of number) (filter_skip (λ (y : X). selects (number_of y)) x xs skipped) ∙ rest
        | inl kept ↦
            let other : number_of x ≢ number = λ own. absurd (let no : true ≡ false = sym kept ∙ ap selects own ∙ dropped in cc) in
            ap (of_key number_of number) (filter_cons (λ (y : X). selects (number_of y)) x xs kept)
            ∙ of_key-skip number_of number x (selected number_of selects xs) other ∙ rest
      ]

  -- entries that tell by a key which way their numbers go are selected by either
  pub of_key-way : (key_of number_of : X → ℕ) (way : ℕ → ℕ) (key : ℕ) (xs : List X) → All (λ x. key_of x ≡ way (number_of x)) xs →
      of_key key_of key xs ≡ selected number_of (λ number. way number == key) xs
  of_key-way key_of number_of way key [] tells = refl
  of_key-way key_of number_of way key (x ∷ xs) tells =
      let Tells : X → Type 0 = λ y. key_of y ≡ way (number_of y) in
      ap (λ (k : ℕ). cond (k == key) (x ∷ of_key key_of key xs) (of_key key_of key xs)) (All-head Tells x xs tells)
      ∙ ap (λ (ys : List X). cond (way (number_of x) == key) (x ∷ ys) ys) (of_key-way key_of number_of way key xs (All-tail Tells x xs tells))

  -- what holds of the entries of each way holds of all
  pub all-by_way : (P : X → Type 0) (number_of : X → ℕ) (way : ℕ → ℕ) (xs : List X) → ((number : ℕ) → All P (selected number_of (λ n. way n == way number) xs)) → All P xs
  all-by_way P number_of way [] each = All-nil P
  all-by_way P number_of way (x ∷ xs) each =
      let own : All P (x ∷ selected number_of (λ n. way n == way (number_of x)) xs) =
      subst (λ (ys : List X). All P ys) (filter_cons (λ (y : X). way (number_of y) == way (number_of x)) x xs (eq-eqb (way (number_of x)) (way (number_of x)) refl)) (each (number_of x)) in
      All-cons P x xs (All-head P x (selected number_of (λ n. way n == way (number_of x)) xs) own)
      (all-by_way P number_of way xs (λ t. elim (cases_Bool (way (number_of x) == way t)) [
        | inl kept ↦ All-tail P x (selected number_of (λ n. way n == way t) xs) (subst (λ (ys : List X). All P ys) (filter_cons (λ (y : X). way (number_of y) == way t) x xs kept) (each t))
        | inr dropped ↦ subst (λ (ys : List X). All P ys) (filter_skip (λ (y : X). way (number_of y) == way t) x xs dropped) (each t)
      ]))

  -- the selected ones are selected
  pub selected-passes : (number_of : X → ℕ) (selects : ℕ → Bool) (xs : List X) → All (λ x. selects (number_of x) ≡ true) (selected number_of selects xs)
  selected-passes number_of selects [] = All-nil (λ (x : X). selects (number_of x) ≡ true)
  selected-passes number_of selects (x ∷ xs) =
      let Passes : X → Type 0 = λ y. selects (number_of y) ≡ true in
      let rest = selected-passes number_of selects xs in
      elim (cases_Bool (selects (number_of x))) [
        | inl kept ↦ subst (λ (ys : List X). All Passes ys) (sym (filter_cons (λ (y : X). selects (number_of y)) x xs kept)) (All-cons Passes x (selected number_of selects xs) kept rest)
        | inr dropped ↦ subst (λ (ys : List X). All Passes ys) (sym (filter_skip (λ (y : X). selects (number_of y)) x xs dropped)) rest
      ]

  -- the entries of a key have the key
  pub of_key-has : (key_of : X → ℕ) (key : ℕ) (xs : List X) → All (λ x. key_of x ≡ key) (of_key key_of key xs)
  of_key-has key_of key xs = λ k d within. eqb-true _ key (selected-passes key_of (λ n. n == key) xs k d within)
