-- Where a property holds of every beat of a channel and of the beat that is put, it holds of every beat after the
-- round.
use Rattle.std.proofs.Common.{◌++◌, ◌∷◌, [], ℕ, List, Option, Some, None, Bool, true, false, cond, eqb}
use Rattle.std.specs.Prelude.{All, IfSome}
use Rattle.std.proofs.lemmas.List.Elements.{All-append, All-drop, All-nil, All-push}
use Rattle.axi_link.specs.Moves.{appended, left_of, takes_from, without_head}

module _ {X : Type 0} (P : X → Type 0) where
  pub All-without_head : (taken : Bool) (xs : List X) → All P xs → All P (without_head taken xs)
  All-without_head true xs all = All-drop P 1 xs all
  All-without_head false xs all = all

  pub All-appended : (number : ℕ) (put : Option (ℕ × X)) → IfSome put (λ (p : ℕ × X). P p.1) → All P (appended number put)
  All-appended number None has = All-nil P
  All-appended number (Some put) has =
      let go : (here : Bool) → All P (cond here (put.1 ∷ []) []) = λ here. elim here as (λ here. All P (cond here (put.1 ∷ []) [])) [ true ↦ All-push P [] put.1 (All-nil P) has | false ↦ All-nil P ]
      in go (eqb put.0 number)

  pub All-moved :
      (number : ℕ) (take : Option ℕ) (put : Option (ℕ × X)) (xs : List X) → All P xs → IfSome put (λ (p : ℕ × X). P p.1) →
      All P (left_of number take xs ++ appended number put)
  All-moved number take put xs all has =
      All-append P (left_of number take xs) (appended number put) (All-without_head (takes_from number take) xs all) (All-appended number put has)
