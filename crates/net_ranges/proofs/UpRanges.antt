-- Data that an up converter moves to the other bus fits a trace line there, where it fits one on its own bus.
use Rattle.std.proofs.Common.{◌≡◌, ◌<◌, ◌≤◌, ◌+◌, ◌-◌, ◌++◌, ◌==◌, ◌&&◌, ◌∷◌, [], ℕ, Bool, true, false, cond, List, get_or, length, refl, sym, ap, ◌∙◌, subst, inl, inr, arith}
use Rattle.std.specs.Prelude.{All, flat_map, nat_le, nat_lt, slice_index}
use Rattle.std.specs.List.{range_with_len}
use Rattle.std.proofs.Math.ListN.{get_or-eq_default}
use Rattle.std.proofs.lemmas.Bool.{cases_lt, cond_both, le-ltb}
use Rattle.std.proofs.lemmas.List.Elements.{All-append, All-cons, All-filter, All-from_recursion, All-get_or, All-head, All-map, All-nil, All-tail}
use Rattle.axi_beats.specs.declared.beat.Addr.{Addr}
use Rattle.axi_beats.specs.declared.beat.RBeat.{RBeat}
use Rattle.axi_beats.specs.declared.beat.WBeat.{WBeat}
use Rattle.axi_trail.specs.Words.{number_of_read_data}
use Rattle.burst_address.proofs.Beats.{bus-most}
use Rattle.burst_address.specs.Formulas.{beat_at, beats_of}
use Rattle.net_ranges.proofs.BeatRanges.{IsReadDataInRange}
use Rattle.net_ranges.proofs.LaneRanges.{mapped-on_bus}
use Rattle.plain_lists.proofs.SelectedLemmas.{all-by_way}
use Rattle.plain_lists.specs.Keys.{of_key}
use Rattle.plain_text.specs.ExactLaws.{AreBytes}
use Rattle.trace_text.specs.Ranges.{IsOnBus, IsTraceTag, IsTraceWriteData}
use Rattle.up_node.proofs.CutLemmas.{strobes-small}
use Rattle.up_node.proofs.ShiftLemmas.{shift-within}
use Rattle.up_node.specs.UpBeats.{beat_narrowed, beat_shift, beat_widened, moved_lanes}
use Rattle.up_node.specs.UpCut.{all_shifts, beat_shifts, data_widened, moved_each}
use Rattle.up_node.specs.UpState.{IsUpShape}
use Rattle.up_node.specs.declared.shape.UpShape.{UpShape}

-- ---- lanes that are moved

lane-small : (lanes : List ℕ) (k : ℕ) → AreBytes lanes → slice_index lanes k < 256
lane-small lanes k bytes = elim (cases_lt k (length lanes)) [
  | inl less ↦ All-get_or (λ (byte : ℕ). byte < 256) lanes k 0 less (All-from_recursion (λ (byte : ℕ). byte < 256) lanes bytes)
  | inr past ↦ subst (λ (byte : ℕ). byte < 256) (sym (get_or-eq_default lanes 0 past)) (omega arith)
]

none-past : (b : Bool) (k end x : ℕ) → end ≤ k → cond (b && nat_lt k end) x 0 ≡ 0
none-past b k end x le = ap (λ (c : Bool). cond (b && c) x 0) (le-ltb k end le) ∙ none b
  where
    none : (b : Bool) → cond (b && false) x 0 ≡ 0
    none true = refl
    none false = refl

moved-on_bus : (bus count from to : ℕ) (lanes : List ℕ) → AreBytes lanes → to + count ≤ bus → bus ≤ 128 → IsOnBus bus (moved_lanes count from to lanes)
moved-on_bus bus count from to lanes bytes within few =
    mapped-on_bus (λ lane. cond (nat_le to lane && nat_lt lane (to + count)) (slice_index lanes (from + (lane - to))) 0) bus 128 refl few
    (λ lane. cond_both (nat_le to lane && nat_lt lane (to + count)) (slice_index lanes (from + (lane - to))) 0 (λ (byte : ℕ). byte < 256)
    (λ _. lane-small lanes (from + (lane - to)) bytes) (λ _. omega arith))
    (λ lane le. none-past (nat_le to lane) lane (to + count) (slice_index lanes (from + (lane - to))) (omega (arith, within, le)))

-- ---- beats that are moved

both-parts : {X : Type 0} (P : X → Type 0) (xs ys : List X) → All P (xs ++ ys) → All P xs × All P ys
both-parts P [] ys all = (All-nil P, all)
both-parts P (x ∷ xs) ys all =
    let rest = both-parts P xs ys (All-tail P x (xs ++ ys) all) in (All-cons P x xs (All-head P x (xs ++ ys) all) rest.0, rest.1)

each-moved : {X : Type 0} (moved : ℕ → X → X) (Shift : ℕ → Type 0) (From To : X → Type 0) → ((k : ℕ) (x : X) → Shift k → From x → To (moved k x)) → (shifts : List ℕ) (xs : List X) →
    All Shift shifts → All From xs → All To (moved_each moved shifts xs)
each-moved moved Shift From To has [] xs within all = All-nil To
each-moved moved Shift From To has (k ∷ shifts) [] within all = All-nil To
each-moved moved Shift From To has (k ∷ shifts) (x ∷ xs) within all =
    All-cons To (moved k x) (moved_each moved shifts xs) (has k x (All-head Shift k shifts within) (All-head From x xs all))
    (each-moved moved Shift From To has shifts xs (All-tail Shift k shifts within) (All-tail From x xs all))

module _ (shape : UpShape) (is : IsUpShape shape) where
  -- the narrow bus, moved by so many lanes, is a part of the wide one
  abbrev IsWithin : ℕ → Type 0
  IsWithin shift = shift + shape.narrow ≤ shape.wide

  own-within : (part : Addr) → All IsWithin (beat_shifts shape part)
  own-within part =
      All-map IsWithin (beat_shift shape part) (range_with_len 0 (beats_of part))
      (λ k d less. shift-within shape.narrow shape.wide is.narrow is.wide is.wider (beat_at part (get_or (range_with_len 0 (beats_of part)) k d)))

  all-within : (parts : List Addr) → All IsWithin (all_shifts shape parts)
  all-within [] = All-nil IsWithin
  all-within (part ∷ parts) = All-append IsWithin (beat_shifts shape part) (all_shifts shape parts) (own-within part) (all-within parts)

  -- ---- write data

  abbrev HasLanes : WBeat → Type 0
  HasLanes w = IsOnBus shape.wide w.lanes × IsTraceTag w.tag

  lanes-widened : (parts : List Addr) (data_of : List (List WBeat)) → All (IsTraceWriteData shape.narrow) (flat_map (λ (beats : List WBeat). beats) data_of) →
      All HasLanes (flat_map (λ (beats : List WBeat). beats) (data_widened shape parts data_of))
  lanes-widened [] data_of all = All-nil HasLanes
  lanes-widened (part ∷ parts) [] all = All-nil HasLanes
  lanes-widened (part ∷ parts) (beats ∷ data_of) all =
      let both = both-parts (IsTraceWriteData shape.narrow) beats (flat_map (λ (beats : List WBeat). beats) data_of) all in
      All-append HasLanes (moved_each (beat_widened shape) (beat_shifts shape part) beats) (flat_map (λ (beats : List WBeat). beats) (data_widened shape parts data_of))
      (each-moved (beat_widened shape) IsWithin (IsTraceWriteData shape.narrow) HasLanes
      (λ shift w within fits. (moved-on_bus shape.wide shape.narrow 0 shift w.lanes fits.lanes.bytes within (bus-most shape.wide is.wide), fits.tag)) (beat_shifts shape part) beats (own-within part) both.0)
      (lanes-widened parts data_of both.1)

  pub data-widened : (parts : List Addr) (data_of : List (List WBeat)) → All (IsTraceWriteData shape.narrow) (flat_map (λ (beats : List WBeat). beats) data_of) →
      All (IsTraceWriteData shape.wide) (flat_map (λ (beats : List WBeat). beats) (data_widened shape parts data_of))
  data-widened parts data_of all k d less =
      let lanes = lanes-widened parts data_of all k d less in
      record { lanes = lanes.0; strobe = strobes-small shape is parts data_of k d less; tag = lanes.1 }

  -- ---- read data

  beat-narrowed : (shift : ℕ) (r : RBeat) → IsWithin shift → IsReadDataInRange shape.wide r → IsReadDataInRange shape.narrow (beat_narrowed shape shift r)
  beat-narrowed shift r within fits = record {
    id = fits.id;
    lanes = moved-on_bus shape.narrow shape.narrow shift 0 r.lanes fits.lanes.bytes (omega arith) (bus-most shape.narrow is.narrow);
    resp = fits.resp;
    tag = fits.tag;
  }

  pub read_data-narrowed : (parts_of : ℕ → List Addr) (above below : List RBeat) →
      ((t : ℕ) → of_key number_of_read_data t above ≡ moved_each (beat_narrowed shape) (all_shifts shape (parts_of t)) (of_key number_of_read_data t below)) →
      All (IsReadDataInRange shape.wide) below → All (IsReadDataInRange shape.narrow) above
  read_data-narrowed parts_of above below moved all =
      all-by_way (IsReadDataInRange shape.narrow) number_of_read_data (λ t. t) above (λ t.
      subst (All (IsReadDataInRange shape.narrow)) (sym (moved t))
      (each-moved (beat_narrowed shape) IsWithin (IsReadDataInRange shape.wide) (IsReadDataInRange shape.narrow) beat-narrowed (all_shifts shape (parts_of t)) (of_key number_of_read_data t below)
      (all-within (parts_of t)) (All-filter (λ (r : RBeat). number_of_read_data r == t) (IsReadDataInRange shape.wide) below all)))
