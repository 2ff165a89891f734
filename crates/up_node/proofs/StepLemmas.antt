-- What moves on the links of an up converter in a round.
use Rattle.std.proofs.Common.{◌≡◌, ℕ, Bool, true, false, cond, List, [], ◌∷◌, Option, None, Some, refl, ◌∙◌, ap, eq-eqb, inl, inr}
use Rattle.std.specs.Prelude.{◌⊎◌, is_some, take}
use Rattle.axi_link.specs.LinkWords.{head_of}
use Rattle.axi_link.specs.Moves.{appended, takes_from}
use Rattle.axi_trail.specs.Trail.{beat_taken}
use Rattle.axi_trail.specs.Waiting.{Waiting}
use Rattle.axi_beats.specs.declared.beat.Addr.{Addr}
use Rattle.node_core.specs.Rows.{beat_where, put_of, take_of}
use Rattle.up_node.specs.UpBeats.{beat_shift}
use Rattle.up_node.specs.UpTable.{moved_for}
use Rattle.up_node.specs.declared.shape.UpShape.{UpShape}

module _ {X : Type 0} where
  -- the beat of a row, if one moves
  abbrev pub one_of : Option X → List X
  one_of None = []
  one_of (Some x) = x ∷ []

  -- what is put, and what is taken of a row that passes a head on
  pub put-one : (number : ℕ) (row : Option X) → appended number (put_of number row) ≡ one_of row
  put-one number None = refl
  put-one number (Some x) = ap (λ b. cond b (x ∷ []) []) (eq-eqb number number refl)

  pub taken-one : (number : ℕ) (holds : Bool) (queue : List X) →
      beat_taken (takes_from number (take_of number (is_some (beat_where holds (head_of queue))))) queue ≡ one_of (beat_where holds (head_of queue))
  taken-one number true [] = refl
  taken-one number true (x ∷ queue) = ap (λ b. beat_taken b (x ∷ queue)) (eq-eqb number number refl)
  taken-one number false queue = refl

  -- a row that takes nothing, and one that takes the head
  pub taken-none : {Y : Type 0} (number : ℕ) (row : Option Y) (queue : List X) → row ≡ None → beat_taken (takes_from number (take_of number (is_some row))) queue ≡ []
  taken-none {Y} number row queue is = ap (λ (o : Option Y). beat_taken (takes_from number (take_of number (is_some o))) queue) is

  pub taken-head : {Y : Type 0} (number : ℕ) (row : Option Y) (y : Y) (queue : List X) (x : X) (rest : List X) → row ≡ Some y → queue ≡ x ∷ rest →
      beat_taken (takes_from number (take_of number (is_some row))) queue ≡ x ∷ []
  taken-head {Y} number row y queue x rest is full =
      ap (λ (o : Option Y). beat_taken (takes_from number (take_of number (is_some o))) queue) is
      ∙ ap (λ b. beat_taken b queue) (eq-eqb number number refl) ∙ ap (λ (q : List X). take 1 q) full

-- A row of data moves nothing, or the head for an entry.
pub record MovesFor {X : Type 0} (shape : UpShape) (moved : ℕ → X → X) (queue : List X) (entry : Option (Waiting Addr)) (row : Option X) : Type 0 where
  pub beat : X
  pub rest : List X
  pub queue_is : queue ≡ beat ∷ rest
  pub its : Waiting Addr
  pub entry_is : entry ≡ Some its
  pub row_is : row ≡ Some (moved (beat_shift shape its.request its.done) beat)

pub row-cases : {X : Type 0} (shape : UpShape) (moved : ℕ → X → X) (room : Bool) (queue : List X) (entry : Option (Waiting Addr)) →
    (beat_where room (moved_for shape moved entry (head_of queue)) ≡ None) ⊎ MovesFor shape moved queue entry (beat_where room (moved_for shape moved entry (head_of queue)))
row-cases shape moved false queue entry = inl refl
row-cases shape moved true queue None = inl refl
row-cases shape moved true [] (Some e) = inl refl
row-cases shape moved true (x ∷ queue) (Some e) = inr (record { beat = x; rest = queue; queue_is = refl; its = e; entry_is = refl; row_is = refl })

-- the entries of which one is the first
pub first-entry : (entries : List (Waiting Addr)) (e : Waiting Addr) → head_of entries ≡ Some e → (others : List (Waiting Addr)) × (entries ≡ e ∷ others)
first-entry [] e is = absurd (cc)
first-entry (x ∷ xs) e is = let same : x ≡ e = cc in (xs, ap (λ (y : Waiting Addr). y ∷ xs) same)
