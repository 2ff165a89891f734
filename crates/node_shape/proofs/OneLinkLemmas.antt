-- A node that has one link on a side.
use Rattle.std.proofs.Common.{◌≡◌, ℕ, Bool, true, false, List, [], ◌∷◌, Option, Some, None, refl, arith}
use Rattle.std.specs.Prelude.{All, Contains, IfSome}
use Rattle.std.proofs.lemmas.List.Elements.{All-contains, All-from_recursion, All-head}
use Rattle.node_core.specs.Rows.{put_of, take_of}

pub one-has : (l : ℕ) → Contains (l ∷ []) l
one-has l = (0, omega arith, refl)

pub all-one : (P : ℕ → Type 0) (l : ℕ) → P l → All P (l ∷ [])
all-one P l is = All-from_recursion P (l ∷ []) (is, tt)

pub of-one : (P : ℕ → Type 0) (l : ℕ) → All P (l ∷ []) → P l
of-one P l all = All-head P l [] all

-- what is among the links of a side that has one is that one
pub is-one : (k l : ℕ) → Contains (k ∷ []) l → l ≡ k
is-one k l among = All-contains (λ l. l ≡ k) (k ∷ []) l (all-one (λ l. l ≡ k) k refl) among

-- a row takes from its link, and puts on its link
pub takes-own : (links : List ℕ) (l : ℕ) (taken : Bool) → Contains links l → IfSome (take_of l taken) (Contains links)
takes-own links l false among = tt
takes-own links l true among = among

pub puts-own : {X : Type 0} (links : List ℕ) (l : ℕ) (beat : Option X) → Contains links l → IfSome (put_of l beat) (λ put. Contains links put.0)
puts-own links l None among = tt
puts-own links l (Some beat) among = among
