-- What the known histories keep and break, piece by piece.
use Rattle.std.proofs.Common.{◌≡◌, ◌<◌, ◌∷◌, [], ◌++◌, ℕ, zero, suc, List, Bool, true, false, length, refl, sym, subst, arith, append_assoc, append-nil}
use Rattle.std.specs.Prelude.{◌==◌, ⊤, All, AllPairs, Any, nat_lt, slice_index_or}
use Rattle.std.specs.Bool.{beq}
use Rattle.std.proofs.lemmas.Bool.{eqb-false, ltb-false}
use Rattle.std.specs.List.{AllByRecursion}
use Rattle.std.proofs.lemmas.List.Elements.{All-from_recursion}
use Rattle.std.proofs.lemmas.List.Kept.{AllPairs-cons}
use Rattle.axi_history.specs.Answered.{AreInOrder, OfEachTwo}
use Rattle.axi_history.specs.KnownHistories.{five_transactions, fixed_write, other_read, read_outside, read_over_the_end, second_read}
use Rattle.axi_history.specs.Records.{Transaction}

-- different truths aren't equal, nor are different numbers, and no number is below a lower one
pub one-way : {a b : Bool} {X : Type 0} → beq a b ≡ false → a ≡ b → X
one-way {a} {b} differ same = by a b differ same
  where
    by : {X : Type 0} (a b : Bool) → beq a b ≡ false → a ≡ b → X
    by true b differ same = absurd cc
    by false b differ same = absurd cc

pub no : {a b : ℕ} {X : Type 0} → (a == b) ≡ false → a ≡ b → X
no {a} {b} differ same = absurd (eqb-false a b differ same)

pub backwards : {a b : ℕ} {X : Type 0} → nat_lt a b ≡ false → a < b → X
backwards {a} {b} not_less less = absurd (omega (arith, less, ltb-false a b not_less))

-- what holds of the elements of a short list, as `AllByRecursion` has it
pub one : {A : Type 0} → A → A × ⊤
one a = (a, tt)

pub two : {A B : Type 0} → A → B → A × (B × ⊤)
two a b = (a, one b)

pub three : {A B C : Type 0} → A → B → C → A × (B × (C × ⊤))
three a b c = (a, two b c)

pub four : {A B C D : Type 0} → A → B → C → D → A × (B × (C × (D × ⊤)))
four a b c d = (a, three b c d)

pub five : {A B C D E : Type 0} → A → B → C → D → E → A × (B × (C × (D × (E × ⊤))))
five a b c d e = (a, four b c d e)

pub six : {A B C D E F : Type 0} → A → B → C → D → E → F → A × (B × (C × (D × (E × (F × ⊤)))))
six a b c d e f = (a, five b c d e f)

module _ {X : Type 0} where
  -- what follows of each element follows where it holds of one
  at-one : (P : X → Type 0) (R : Type 0) (x : X) (xs : List X) → (P x → R) → (Any P xs → R) → (k : ℕ) (y : X) → k < suc (length xs) → slice_index_or (x ∷ xs) k y ≡ y → P y → R
  at-one P R x xs first later zero y within is holds = first (subst P (sym is) holds)
  at-one P R x xs first later (suc k) y within is holds = later (k, y, omega (arith, within), is, holds)

  pub any-of : (P : X → Type 0) (R : Type 0) (xs : List X) → AllByRecursion (λ x. P x → R) xs → Any P xs → R
  any-of P R [] each found = absurd (omega (arith, found.2))
  any-of P R (x ∷ xs) each found = at-one P R x xs each.0 (any-of P R xs each.1) found.0 found.1 found.2 found.3 found.4

  -- each element relates to those behind it
  abbrev pub EachWithLater : (X → X → Type 0) → List X → Type 0
  EachWithLater R [] = ⊤
  EachWithLater R (x ∷ xs) = AllByRecursion (R x) xs × EachWithLater R xs

  pub pairs-of : (R : X → X → Type 0) (xs : List X) → EachWithLater R xs → AllPairs R xs
  pairs-of R [] each = λ i j d less within. absurd (omega (arith, within))
  pairs-of R (x ∷ xs) each = AllPairs-cons R x xs (All-from_recursion (R x) xs each.0) (pairs-of R xs each.1)

  -- a sentence on each element with those before it and those behind it
  abbrev pub EachBetween : (List X → X → List X → Type 0) → List X → List X → Type 0
  EachBetween P before [] = ⊤
  EachBetween P before (x ∷ xs) = P before x xs × EachBetween P (before ++ x ∷ []) xs

  split-at : (P : List X → X → List X → Type 0) (before earlier later : List X) (x : X) → EachBetween P before (earlier ++ x ∷ later) → P (before ++ earlier) x later
  split-at P before [] later x each = subst (λ (front : List X). P front x later) (sym (append-nil before)) each.0
  split-at P before (y ∷ earlier) later x each =
      subst (λ (front : List X). P front x later) (append_assoc before (y ∷ []) earlier) (split-at P (before ++ y ∷ []) earlier later x each.1)

  pub split-of : (P : List X → X → List X → Type 0) (xs : List X) → EachBetween P [] xs → (earlier later : List X) (x : X) → xs ≡ earlier ++ x ∷ later → P earlier x later
  split-of P xs each earlier later x are = split-at P [] earlier later x (subst (EachBetween P []) are each)

-- what holds of each of the five transactions
pub of-five : (P : Transaction → Type 0) → P fixed_write → P read_over_the_end → P other_read → P second_read → P read_outside → All P five_transactions
of-five P a b c d e = All-from_recursion P five_transactions (five a b c d e)

-- only the two reads of manager 0 have an order
pub of-the-two-reads : (P : Transaction → Transaction → Type 0) → P read_over_the_end second_read → OfEachTwo five_transactions (λ t u. AreInOrder t u → P t u)
of-the-two-reads P holds =
    of-five (λ t. All (λ u. AreInOrder t u → P t u) five_transactions)
    (of-five (λ u. AreInOrder fixed_write u → P fixed_write u) (λ o. backwards refl o.number) (λ o. one-way refl o.direction) (λ o. no refl o.manager) (λ o. one-way refl o.direction) (λ o. no refl o.manager))
    (of-five (λ u. AreInOrder read_over_the_end u → P read_over_the_end u) (λ o. backwards refl o.number) (λ o. backwards refl o.number) (λ o. no refl o.manager) (λ o. holds) (λ o. no refl o.manager))
    (of-five (λ u. AreInOrder other_read u → P other_read u) (λ o. backwards refl o.number) (λ o. backwards refl o.number) (λ o. backwards refl o.number) (λ o. no refl o.manager) (λ o. no refl o.id))
    (of-five (λ u. AreInOrder second_read u → P second_read u) (λ o. backwards refl o.number) (λ o. backwards refl o.number) (λ o. backwards refl o.number) (λ o. backwards refl o.number) (λ o. no refl o.manager))
    (of-five (λ u. AreInOrder read_outside u → P read_outside u) (λ o. backwards refl o.number) (λ o. backwards refl o.number) (λ o. backwards refl o.number) (λ o. backwards refl o.number) (λ o. backwards refl o.number))
