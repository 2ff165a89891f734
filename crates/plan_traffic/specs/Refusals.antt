-- Which of the refusals of all lines is told.
use Rattle.std.specs.Prelude.{◌≡◌, ℕ, ◌+◌, ◌<◌, ◌≤◌, ◌⊎◌, List, Some, None}
use Rattle.std.specs.List.{slice_get}
use Rattle.plan_traffic.specs.LineRefusals.{least_refusal, line_refusal}
use Rattle.refusals.specs.declared.refusal.Refusal.{Refusal}
use Rattle.topology_text.specs.Document.{DocumentNode}

-- the refusals of two lines, where the first one is told: its code is less, or it is the same and its line comes first
abbrev pub GoesFirst : ℕ → Refusal → ℕ → Refusal → Type 0
GoesFirst place refusal other_place other = (refusal.code < other.code) ⊎ ((refusal.code ≡ other.code) × (place ≤ other_place))

-- A refusal is that of a line, and no other line has one that goes before it. The first line has this number.
pub record IsLeastRefusal (nodes : List DocumentNode) (number : ℕ) (lines : List (List ℕ)) (refusal : Refusal) : Type 0 where
  pub place : ℕ
  pub line : List ℕ
  pub is_line : slice_get lines place ≡ Some line
  pub is_refusal : line_refusal nodes (number + place) line ≡ Some refusal
  pub is_least :
      (other_place : ℕ) (other_line : List ℕ) (other : Refusal) → slice_get lines other_place ≡ Some other_line →
      line_refusal nodes (number + other_place) other_line ≡ Some other → GoesFirst place refusal other_place other

-- no line is refused
abbrev pub IsNotRefused : List DocumentNode → ℕ → List (List ℕ) → Type 0
IsNotRefused nodes number lines =
    (place : ℕ) (line : List ℕ) → slice_get lines place ≡ Some line → line_refusal nodes (number + place) line ≡ None

-- the refusal that is told is the least one, and none is told where there is none
pub record TellsLeast (nodes : List DocumentNode) (number : ℕ) (lines : List (List ℕ)) : Type 0 where
  pub some : (refusal : Refusal) → least_refusal nodes number lines ≡ Some refusal → IsLeastRefusal nodes number lines refusal
  pub none : least_refusal nodes number lines ≡ None → IsNotRefused nodes number lines

-- so it is for all managers and lines, whatever number the first line has
abbrev pub LeastIsTold : Type 0
LeastIsTold = (nodes : List DocumentNode) (number : ℕ) (lines : List (List ℕ)) → TellsLeast nodes number lines
