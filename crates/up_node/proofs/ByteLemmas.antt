-- The bytes of read data, moved from the wide bus to the narrow one.
use Rattle.std.proofs.Common.{◌≡◌, ◌+◌, ◌<◌, ◌≤◌, ◌++◌, ℕ, List, [], ◌∷◌, length, map, refl, ap₂, arith}
use Rattle.std.specs.Prelude.{All}
use Rattle.std.specs.List.{range_with_len}
use Rattle.std.proofs.lemmas.List.Elements.{All-append, All-cons, All-head, All-nil, All-tail}
use Rattle.axi_beats.specs.Lanes.{Span}
use Rattle.axi_beats.specs.declared.beat.Addr.{Addr}
use Rattle.axi_beats.specs.declared.beat.RBeat.{RBeat}
use Rattle.axi_trail.specs.Schedule.{bytes_on}
use Rattle.burst_address.proofs.Widths.{width-bounds}
use Rattle.burst_address.specs.Formulas.{beat_at, beats_of}
use Rattle.up_node.proofs.LaneLemmas.{moved-back}
use Rattle.up_node.proofs.ShiftLemmas.{shift-within}
use Rattle.up_node.specs.UpBeats.{beat_narrowed, beat_shift, span_widened}
use Rattle.up_node.specs.UpCut.{all_shifts, beat_shifts, moved_each}
use Rattle.up_node.specs.UpState.{IsUpShape}
use Rattle.up_node.specs.declared.shape.UpShape.{UpShape}

all-mapped : (P : ℕ → Type 0) (f : ℕ → ℕ) → ((n : ℕ) → P (f n)) → (xs : List ℕ) → All P (map f xs)
all-mapped P f has [] = All-nil P
all-mapped P f has (x ∷ xs) = All-cons P (f x) (map f xs) (has x) (all-mapped P f has xs)

module _ (shape : UpShape) where
  -- what holds of each shift
  pub shifts-all : (P : ℕ → Type 0) → ((a : Addr) (n : ℕ) → P (beat_shift shape a n)) → (parts : List Addr) → All P (all_shifts shape parts)
  shifts-all P has [] = All-nil P
  shifts-all P has (a ∷ parts) =
      All-append P (beat_shifts shape a) (all_shifts shape parts) (all-mapped P (beat_shift shape a) (has a) (range_with_len 0 (beats_of a))) (shifts-all P has parts)

  -- the narrow word of a beat is among the lanes of the widest bus
  abbrev pub Within : ℕ → Type 0
  Within shift = shift + shape.narrow ≤ 128

  pub shifts-within : IsUpShape shape → (parts : List Addr) → All Within (all_shifts shape parts)
  shifts-within is parts =
      shifts-all Within
      (λ a n. let here = shift-within shape.narrow shape.wide is.narrow is.wide is.wider (beat_at a n) in let most = (width-bounds shape.wide is.wide).1 in omega (arith, here, most))
      parts

  -- the bytes on lanes of the narrow bus are those on the lanes to which these stand on the wide one
  pub bytes-moved : (shifts : List ℕ) (beats : List RBeat) (spans : List Span) → All Within shifts → All (λ (r : RBeat). length r.lanes ≡ 128) beats → All (λ (span : Span). span.high < shape.narrow) spans →
      bytes_on (moved_each (beat_narrowed shape) shifts beats) spans ≡ bytes_on beats (moved_each span_widened shifts spans)
  bytes-moved [] [] spans within whole on = refl
  bytes-moved [] (r ∷ beats) spans within whole on = refl
  bytes-moved (k ∷ shifts) [] spans within whole on = refl
  bytes-moved (k ∷ shifts) (r ∷ beats) [] within whole on = refl
  bytes-moved (k ∷ shifts) (r ∷ beats) (span ∷ spans) within whole on =
      let Whole : RBeat → Type 0 = λ r. length r.lanes ≡ 128 in
      let On : Span → Type 0 = λ span. span.high < shape.narrow in
      ap₂ (λ (xs ys : List ℕ). xs ++ ys)
      (moved-back shape.narrow k span.low span.high r.lanes (All-head Whole r beats whole) (All-head Within k shifts within) (All-head On span spans on))
      (bytes-moved shifts beats spans (All-tail Within k shifts within) (All-tail Whole r beats whole) (All-tail On span spans on))
