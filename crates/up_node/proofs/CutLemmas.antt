-- What an up converter makes of a transaction fits the wide bus, and has the same bytes.
use Rattle.std.proofs.Common.{◌≡◌, ◌+◌, ◌-◌, ◌*◌, ◌/◌, ◌%◌, ◌^◌, ◌<◌, ◌≤◌, ◌==◌, ◌&&◌, ◌++◌, ℕ, zero, suc, Bool, true, false, cond, List, [], ◌∷◌, length, map, Option, None, Some, refl, sym, ◌∙◌, ap, ap₂, subst, arith, eq-eqb, length-append}
use Rattle.std.specs.Prelude.{All, IsTrue, flat_map, nat_lt, slice_get, slice_index, slice_index_or, zip}
use Rattle.std.specs.Int.{bit_at}
use Rattle.std.specs.List.{AllZip, range_with_len}
use Rattle.std.proofs.Math.Nat.{mod-eq_of_lt, mul-lt-mul_of_pos_right, mul-mod_left}
use Rattle.std.proofs.lemmas.Bool.{eqb-true, lt-ltb, ltb-true}
use Rattle.std.proofs.lemmas.List.Elements.{All-append, All-cons, All-head, All-nil, All-tail}
use Rattle.std.proofs.lemmas.List.{length-map}
use Rattle.std.proofs.lemmas.Nat.{div-add-mod', mod_below, pow-add, pow_pos}
use Rattle.std.proofs.lemmas.Nat.Bits.{bit_at_cat_high, bit_at_cat_low}
use Rattle.std.proofs.lemmas.Option.{get_or_from_slice_get}
use Rattle.axi_beats.specs.Lanes.{Span}
use Rattle.axi_beats.specs.declared.beat.Addr.{Addr}
use Rattle.axi_beats.specs.declared.beat.WBeat.{WBeat}
use Rattle.axi_history.specs.PortRules.{strobes_within}
use Rattle.burst_address.proofs.Beats.{beat-line, upper-below}
use Rattle.burst_address.proofs.LaneBytes.{addresses-on_wider, lanes-on_wider}
use Rattle.burst_address.proofs.Widths.{width-bounds}
use Rattle.burst_address.specs.Bytes.{beat_bytes, burst_bytes, bytes_with, strobed_byte, strobed_values, written_bytes}
use Rattle.burst_address.specs.Formulas.{beat_at, beats_of, size_of}
use Rattle.burst_address.specs.Lanes.{first_lane, last_lane, valid_span, word_address}
use Rattle.burst_address.specs.Legal.{IsLegal}
use Rattle.node_shape.specs.LegalSchedule.{IsDataOf}
use Rattle.node_shape.specs.LinkForm.{LinkForm, bytes_within, lanes_wanted, wanted_bytes, wanted_lanes, wanted_span}
use Rattle.plain_lists.proofs.PlaceLemmas.{item-there, map-has}
use Rattle.up_node.proofs.LaneLemmas.{moved-index}
use Rattle.up_node.proofs.MovedLemmas.{moved-append, moved-nil, range-at, shifts-long}
use Rattle.up_node.proofs.ShiftLemmas.{lane-wider, one-shift, pow-most, shift-within}
use Rattle.up_node.specs.UpBeats.{beat_shift, beat_widened, span_widened}
use Rattle.up_node.specs.UpCut.{all_shifts, beat_shifts, data_widened, moved_each}
use Rattle.up_node.specs.UpState.{IsUpShape}
use Rattle.up_node.specs.UpTrail.{on_wider}
use Rattle.up_node.specs.declared.shape.UpShape.{UpShape}

-- ---- lists that are moved

module _ {X : Type 0} (moved : ℕ → X → X) where
  pub moved-long_as : (shifts : List ℕ) (xs : List X) → length xs ≡ length shifts → length (moved_each moved shifts xs) ≡ length xs
  moved-long_as [] [] long = refl
  moved-long_as [] (x ∷ xs) long = absurd (omega (arith, long))
  moved-long_as (k ∷ shifts) [] long = refl
  moved-long_as (k ∷ shifts) (x ∷ xs) long = ap suc (moved-long_as shifts xs (omega (arith, long)))

  moved-get : (shifts : List ℕ) (xs : List X) (n k : ℕ) (x : X) → slice_get shifts n ≡ Some k → slice_get xs n ≡ Some x → slice_get (moved_each moved shifts xs) n ≡ Some (moved k x)
  moved-get [] xs n k x here there = absurd (cc)
  moved-get (j ∷ shifts) [] n k x here there = absurd (cc)
  moved-get (j ∷ shifts) (y ∷ xs) zero k x here there =
      let shift : j ≡ k = cc in
      let beat : y ≡ x = cc in
      ap₂ (λ (i : ℕ) (z : X). Some (moved i z)) shift beat
  moved-get (j ∷ shifts) (y ∷ xs) (suc n) k x here there = moved-get shifts xs n k x here there

  moved-all : (Q : ℕ → Type 0) (P : X → Type 0) → ((k : ℕ) (x : X) → Q k → P (moved k x)) → (shifts : List ℕ) (xs : List X) → All Q shifts → All P (moved_each moved shifts xs)
  moved-all Q P has [] xs all = All-nil P
  moved-all Q P has (k ∷ shifts) [] all = All-nil P
  moved-all Q P has (k ∷ shifts) (x ∷ xs) all = All-cons P (moved k x) (moved_each moved shifts xs) (has k x (All-head Q k shifts all)) (moved-all Q P has shifts xs (All-tail Q k shifts all))

  moved-maps : (f : ℕ → ℕ) (g h : ℕ → X) (ns : List ℕ) → ((n : ℕ) → moved (f n) (g n) ≡ h n) → moved_each moved (map f ns) (map g ns) ≡ map h ns
  moved-maps f g h [] same = refl
  moved-maps f g h (n ∷ ns) same = ap₂ (λ (x : X) (xs : List X). x ∷ xs) (same n) (moved-maps f g h ns same)

-- ---- strobes

times-grouped : (a b c : ℕ) → a * b * c ≡ a * (b * c)
times-grouped a b c = omega arith

-- strobes on some lanes of the narrow bus, moved
strobes-moved : (lower upper strobe n k : ℕ) → upper < n → IsTrue (strobes_within lower upper strobe) → IsTrue (strobes_within (lower + k) (upper + k) (strobe % 2 ^ n * 2 ^ k))
strobes-moved lower upper strobe n k on within = go (strobe % 2 ^ lower == 0) refl (nat_lt strobe (2 ^ (upper + 1))) refl within
  where
    go : (low : Bool) → (strobe % 2 ^ lower == 0) ≡ low → (high : Bool) → nat_lt strobe (2 ^ (upper + 1)) ≡ high → IsTrue (low && high) →
        IsTrue (strobes_within (lower + k) (upper + k) (strobe % 2 ^ n * 2 ^ k))
    go false low high above both = absurd (cc)
    go true low false above both = absurd (cc)
    go true low true above both =
        let below : strobe < 2 ^ (upper + 1) = ltb-true strobe (2 ^ (upper + 1)) above in
        let most = pow-most (upper + 1) n (omega (arith, on)) in
        let kept : strobe % 2 ^ n ≡ strobe = mod-eq_of_lt (let less : strobe < 2 ^ n = omega (arith, below, most) in less) in
        let none : strobe % 2 ^ lower ≡ 0 = eqb-true (strobe % 2 ^ lower) 0 low in
        let whole : strobe / 2 ^ lower * 2 ^ lower ≡ strobe = let split = div-add-mod' strobe (2 ^ lower) in omega (arith, split, none) in
        let multiple : strobe * 2 ^ k ≡ strobe / 2 ^ lower * 2 ^ (lower + k) =
        sym (ap (λ m. m * 2 ^ k) whole) ∙ times-grouped (strobe / 2 ^ lower) (2 ^ lower) (2 ^ k)
        ∙ sym (ap (λ m. strobe / 2 ^ lower * m) (pow-add 2 lower k)) in
        let first : strobe % 2 ^ n * 2 ^ k % 2 ^ (lower + k) ≡ 0 =
        ap (λ m. m * 2 ^ k % 2 ^ (lower + k)) kept ∙ ap (λ m. m % 2 ^ (lower + k)) multiple ∙ mul-mod_left (strobe / 2 ^ lower) (2 ^ (lower + k)) in
        let scaled : strobe * 2 ^ k < 2 ^ (upper + 1) * 2 ^ k = mul-lt-mul_of_pos_right below (pow_pos k) in
        let power : 2 ^ (upper + k + 1) ≡ 2 ^ (upper + 1) * 2 ^ k = ap (λ j. 2 ^ j) (let sum : upper + k + 1 ≡ (upper + 1) + k = omega arith in sum) ∙ pow-add 2 (upper + 1) k in
        let same : strobe % 2 ^ n * 2 ^ k ≡ strobe * 2 ^ k = ap (λ m. m * 2 ^ k) kept in
        let last : strobe % 2 ^ n * 2 ^ k < 2 ^ (upper + k + 1) = omega (arith, scaled, power, same) in
        ap₂ (λ (a b : Bool). a && b) (eq-eqb (strobe % 2 ^ n * 2 ^ k % 2 ^ (lower + k)) 0 first) (lt-ltb (strobe % 2 ^ n * 2 ^ k) (2 ^ (upper + k + 1)) last)

strobe-small : (strobe n k bus : ℕ) → k + n ≤ bus → strobe % 2 ^ n * 2 ^ k < 2 ^ bus
strobe-small strobe n k bus within =
    let below : strobe % 2 ^ n * 2 ^ k < 2 ^ n * 2 ^ k = mul-lt-mul_of_pos_right (mod_below strobe (2 ^ n) (pow_pos n)) (pow_pos k) in
    let most = pow-most (n + k) bus (omega (arith, within)) in
    omega (arith, below, most, pow-add 2 n k)

-- the strobe of a lane
bit-moved : (strobe n k i : ℕ) → i < n → bit_at (strobe % 2 ^ n * 2 ^ k) (i + k) ≡ bit_at strobe i
bit-moved strobe n k i lt =
    let alone : strobe % 2 ^ n * 2 ^ k ≡ strobe % 2 ^ n * 2 ^ k + 0 = omega arith in
    let back : i + k - k ≡ i = omega arith in
    ap (λ m. bit_at m (i + k)) alone ∙ bit_at_cat_high (strobe % 2 ^ n) k 0 (i + k) (pow_pos k) (omega arith) ∙ ap (bit_at (strobe % 2 ^ n)) back
    ∙ sym (ap (λ m. bit_at m i) (sym (div-add-mod' strobe (2 ^ n))) ∙ bit_at_cat_low (strobe / 2 ^ n) n (strobe % 2 ^ n) i lt)

-- ---- one request on both buses

module _ (shape : UpShape) (is : IsUpShape shape) where
  narrower : shape.narrow ≤ shape.wide
  narrower = let wider = is.wider in omega (arith, wider)

  module _ (form : LinkForm) (full : form.lite ≡ false) (bus : form.bus ≡ shape.narrow) where
    abbrev wide_form : LinkForm
    wide_form = on_wider shape.wide form

    span-narrow : (a : Addr) (n : ℕ) → wanted_span form a n ≡ valid_span a n shape.narrow
    span-narrow a n = ap (λ (b : Bool). cond b (record { low = a.tag.low; high = a.tag.high }) (valid_span a n form.bus)) full ∙ ap (valid_span a n) bus

    span-wide : (a : Addr) (n : ℕ) → wanted_span wide_form a n ≡ valid_span a n shape.wide
    span-wide a n = ap (λ (b : Bool). cond b (record { low = a.tag.low; high = a.tag.high }) (valid_span a n shape.wide)) full

    valid-moved : (a : Addr) (n : ℕ) → IsLegal a shape.narrow → span_widened (beat_shift shape a n) (valid_span a n shape.narrow) ≡ valid_span a n shape.wide
    valid-moved a n legal =
        let lanes = lanes-on_wider a n shape.narrow shape.wide is.narrow is.wide narrower legal in
        ap₂ (λ (low high : ℕ). record { low = low; high = high }) (sym lanes.0) (sym lanes.1)

    span-moved : (a : Addr) (n : ℕ) → IsLegal a shape.narrow → span_widened (beat_shift shape a n) (wanted_span form a n) ≡ wanted_span wide_form a n
    span-moved a n legal = ap (span_widened (beat_shift shape a n)) (span-narrow a n) ∙ valid-moved a n legal ∙ sym (span-wide a n)

    -- the wanted lanes of its beats
    lanes-moved : (parts : List Addr) → All (λ (part : Addr). IsLegal part shape.narrow) parts →
        moved_each span_widened (all_shifts shape parts) (flat_map (wanted_lanes form) parts) ≡ flat_map (wanted_lanes wide_form) parts
    lanes-moved [] legal = refl
    lanes-moved (a ∷ parts) legal =
        let L : Addr → Type 0 = λ part. IsLegal part shape.narrow in
        let long : length (wanted_lanes form a) ≡ length (beat_shifts shape a) =
        length-map (range_with_len 0 (beats_of a)) (wanted_span form a) ∙ sym (length-map (range_with_len 0 (beats_of a)) (beat_shift shape a)) in
        moved-append span_widened (beat_shifts shape a) (all_shifts shape parts) (wanted_lanes form a) (flat_map (wanted_lanes form) parts) long
        ∙ ap₂ (λ (xs ys : List Span). xs ++ ys)
        (moved-maps span_widened (beat_shift shape a) (wanted_span form a) (wanted_span wide_form a) (range_with_len 0 (beats_of a)) (λ n. span-moved a n (All-head L a parts legal)))
        (lanes-moved parts (All-tail L a parts legal))

    pub lanes-fit : (write : Bool) (parts : List Addr) (lanes : List Span) → All (λ (part : Addr). IsLegal part shape.narrow) parts →
        lanes ≡ cond write [] (flat_map (wanted_lanes form) parts) → moved_each span_widened (all_shifts shape parts) lanes ≡ cond write [] (flat_map (wanted_lanes wide_form) parts)
    lanes-fit true parts lanes legal have = ap (moved_each span_widened (all_shifts shape parts)) have ∙ moved-nil span_widened (all_shifts shape parts)
    lanes-fit false parts lanes legal have = ap (moved_each span_widened (all_shifts shape parts)) have ∙ lanes-moved parts legal

    -- they are lanes of the narrow bus
    pub lanes-on_bus : (write : Bool) (parts : List Addr) (lanes : List Span) → lanes ≡ cond write [] (flat_map (wanted_lanes form) parts) → All (λ (span : Span). span.high < shape.narrow) lanes
    lanes-on_bus write parts lanes have = subst (All On) (sym have) (go write parts)
      where
        On : Span → Type 0
        On span = span.high < shape.narrow

        each : (a : Addr) (ns : List ℕ) → All On (map (wanted_span form a) ns)
        each a [] = All-nil On
        each a (n ∷ ns) =
            All-cons On (wanted_span form a n) (map (wanted_span form a) ns)
            (subst On (sym (span-narrow a n)) (upper-below (size_of a) shape.narrow (beat_at a n) is.narrow)) (each a ns)

        all : (parts : List Addr) → All On (flat_map (wanted_lanes form) parts)
        all [] = All-nil On
        all (a ∷ parts) = All-append On (wanted_lanes form a) (flat_map (wanted_lanes form) parts) (each a (range_with_len 0 (beats_of a))) (all parts)

        go : (write : Bool) (parts : List Addr) → All On (cond write [] (flat_map (wanted_lanes form) parts))
        go true parts = All-nil On
        go false parts = all parts

    -- as many lanes are wanted
    count-moved : (parts : List Addr) → All (λ (part : Addr). IsLegal part shape.narrow) parts → lanes_wanted (flat_map (wanted_lanes wide_form) parts) ≡ lanes_wanted (flat_map (wanted_lanes form) parts)
    count-moved parts legal = ap lanes_wanted (sym (lanes-moved parts legal)) ∙ counts (all_shifts shape parts) (flat_map (wanted_lanes form) parts) (many parts)
      where
        counts : (shifts : List ℕ) (spans : List Span) → length spans ≡ length shifts → lanes_wanted (moved_each span_widened shifts spans) ≡ lanes_wanted spans
        counts [] [] long = refl
        counts [] (span ∷ spans) long = absurd (omega (arith, long))
        counts (k ∷ shifts) [] long = refl
        counts (k ∷ shifts) (span ∷ spans) long =
            let one : span.high + k + 1 - (span.low + k) ≡ span.high + 1 - span.low = omega arith in
            ap₂ (λ (m n : ℕ). m + n) one (counts shifts spans (omega (arith, long)))

        many : (parts : List Addr) → length (flat_map (wanted_lanes form) parts) ≡ length (all_shifts shape parts)
        many [] = refl
        many (a ∷ parts) = same (wanted_lanes form a) (beat_shifts shape a) (flat_map (wanted_lanes form) parts) (all_shifts shape parts)
            (length-map (range_with_len 0 (beats_of a)) (wanted_span form a) ∙ sym (length-map (range_with_len 0 (beats_of a)) (beat_shift shape a))) (many parts)
          where
            same : {X Y : Type 0} (xs : List X) (ys : List Y) (us : List X) (vs : List Y) → length xs ≡ length ys → length us ≡ length vs → length (xs ++ us) ≡ length (ys ++ vs)
            same xs ys us vs e f = length-append xs us ∙ ap₂ (λ (m n : ℕ). m + n) e f ∙ sym (length-append ys vs)

    pub wanted-same : (write : Bool) (parts : List Addr) (lanes : List Span) → All (λ (part : Addr). IsLegal part shape.narrow) parts → lanes ≡ cond write [] (flat_map (wanted_lanes form) parts) →
        lanes_wanted (moved_each span_widened (all_shifts shape parts) lanes) ≡ lanes_wanted lanes
    wanted-same true parts lanes legal have = ap lanes_wanted (lanes-fit true parts lanes legal have ∙ sym have)
    wanted-same false parts lanes legal have = ap lanes_wanted (lanes-fit false parts lanes legal have) ∙ count-moved parts legal ∙ sym (ap lanes_wanted have)

    -- the bytes on them are the same
    bytes-moved : (a : Addr) (n : ℕ) → IsLegal a shape.narrow →
        bytes_within (word_address a n shape.wide) (wanted_span wide_form a n) ≡ bytes_within (word_address a n form.bus) (wanted_span form a n)
    bytes-moved a n legal =
        let lanes = lanes-on_wider a n shape.narrow shape.wide is.narrow is.wide narrower legal in
        let word = addresses-on_wider a n shape.narrow shape.wide (first_lane a n shape.narrow) is.narrow is.wide narrower in
        let first : word_address a n shape.wide + first_lane a n shape.wide ≡ word_address a n shape.narrow + first_lane a n shape.narrow = omega (arith, word, lanes.0) in
        let count : last_lane a n shape.wide + 1 - first_lane a n shape.wide ≡ last_lane a n shape.narrow + 1 - first_lane a n shape.narrow = omega (arith, lanes.0, lanes.1) in
        ap (bytes_within (word_address a n shape.wide)) (span-wide a n)
        ∙ ap₂ range_with_len first count
        ∙ sym (ap₂ (λ (b : ℕ) (span : Span). bytes_within (word_address a n b) span) bus (span-narrow a n))

    same-lists : (f g : ℕ → List ℕ) (ns : List ℕ) → ((n : ℕ) → f n ≡ g n) → flat_map f ns ≡ flat_map g ns
    same-lists f g [] same = refl
    same-lists f g (n ∷ ns) same = ap₂ (λ (xs ys : List ℕ). xs ++ ys) (same n) (same-lists f g ns same)

    pub bytes-same : (parts : List Addr) → All (λ (part : Addr). IsLegal part shape.narrow) parts → flat_map (wanted_bytes wide_form) parts ≡ flat_map (wanted_bytes form) parts
    bytes-same [] legal = refl
    bytes-same (a ∷ parts) legal =
        let L : Addr → Type 0 = λ part. IsLegal part shape.narrow in
        ap₂ (λ (xs ys : List ℕ). xs ++ ys)
        (same-lists (λ n. bytes_within (word_address a n shape.wide) (wanted_span wide_form a n)) (λ n. bytes_within (word_address a n form.bus) (wanted_span form a n)) (range_with_len 0 (beats_of a))
        (λ n. bytes-moved a n (All-head L a parts legal)))
        (bytes-same parts (All-tail L a parts legal))

  -- ---- write data

  shift-at_beat : (a : Addr) (n : ℕ) → n < beats_of a → slice_get (beat_shifts shape a) n ≡ Some (beat_shift shape a n)
  shift-at_beat a n lt = map-has (beat_shift shape a) (range_with_len 0 (beats_of a)) n n (range-at (beats_of a) n lt)

  -- a beat of a burst's data, and what it is on the wide bus
  widened-at : (a : Addr) (beats : List WBeat) (n : ℕ) (past : WBeat) → length beats ≡ beats_of a → n < length beats →
      (w : WBeat) × (slice_index_or beats n past ≡ w)
      × (slice_index_or (moved_each (beat_widened shape) (beat_shifts shape a) beats) n past ≡ beat_widened shape (beat_shift shape a n) w)
  widened-at a beats n past whole lt =
      let there = item-there beats n lt in (
        there.0,
        get_or_from_slice_get beats n there.0 past there.1,
        get_or_from_slice_get (moved_each (beat_widened shape) (beat_shifts shape a) beats) n (beat_widened shape (beat_shift shape a n) there.0) past
            (moved-get (beat_widened shape) (beat_shifts shape a) beats n (beat_shift shape a n) there.0 (shift-at_beat a n (omega (arith, lt, whole))) there.1),
      )

  -- the data of a burst has its strobes on its valid lanes, and WLAST on its last beat
  data-moved : (a : Addr) (beats : List WBeat) → IsLegal a shape.narrow → IsDataOf shape.narrow a beats → IsDataOf shape.wide a (moved_each (beat_widened shape) (beat_shifts shape a) beats)
  data-moved a beats legal data_is =
      let long : length beats ≡ length (beat_shifts shape a) = data_is.whole ∙ sym (shifts-long shape a) in
      let kept : length (moved_each (beat_widened shape) (beat_shifts shape a) beats) ≡ length beats = moved-long_as (beat_widened shape) (beat_shifts shape a) beats long in
      record {
        whole = kept ∙ data_is.whole;
        strobes = λ n past lt.
            let there = widened-at a beats n past data_is.whole (omega (arith, lt, kept)) in
            let lanes = lanes-on_wider a n shape.narrow shape.wide is.narrow is.wide narrower legal in
            let strobed : IsTrue (strobes_within (first_lane a n shape.narrow) (last_lane a n shape.narrow) there.0.strobe) =
            subst (λ (w : WBeat). IsTrue (strobes_within (first_lane a n shape.narrow) (last_lane a n shape.narrow) w.strobe)) there.1 (data_is.strobes n past (omega (arith, lt, kept))) in
            let on : last_lane a n shape.narrow < shape.narrow = upper-below (size_of a) shape.narrow (beat_at a n) is.narrow in
            subst (λ (w : WBeat). IsTrue (strobes_within (first_lane a n shape.wide) (last_lane a n shape.wide) w.strobe)) (sym there.2)
            (subst (λ (low : ℕ). IsTrue (strobes_within low (last_lane a n shape.wide) (there.0.strobe % 2 ^ shape.narrow * 2 ^ beat_shift shape a n))) (sym lanes.0)
            (subst (λ (high : ℕ). IsTrue (strobes_within (first_lane a n shape.narrow + beat_shift shape a n) high (there.0.strobe % 2 ^ shape.narrow * 2 ^ beat_shift shape a n))) (sym lanes.1)
            (strobes-moved (first_lane a n shape.narrow) (last_lane a n shape.narrow) there.0.strobe shape.narrow (beat_shift shape a n) on strobed)));
        lasts = λ n past lt.
            let there = widened-at a beats n past data_is.whole (omega (arith, lt, kept)) in
            ap (λ (w : WBeat). w.last) there.2 ∙ sym (ap (λ (w : WBeat). w.last) there.1) ∙ data_is.lasts n past (omega (arith, lt, kept));
      }

  pub all-data : (parts : List Addr) (data_of : List (List WBeat)) → All (λ (part : Addr). IsLegal part shape.narrow) parts → AllZip (IsDataOf shape.narrow) parts data_of →
      AllZip (IsDataOf shape.wide) parts (data_widened shape parts data_of)
  all-data [] [] legal all = tt
  all-data [] (beats ∷ data_of) legal all = absurd all
  all-data (a ∷ parts) [] legal all = absurd all
  all-data (a ∷ parts) (beats ∷ data_of) legal all =
      let L : Addr → Type 0 = λ part. IsLegal part shape.narrow in
      (data-moved a beats (All-head L a parts legal) all.0, all-data parts data_of (All-tail L a parts legal) all.1)

  pub strobes-small : (parts : List Addr) (data_of : List (List WBeat)) → All (λ (w : WBeat). w.strobe < 2 ^ shape.wide) (flat_map (λ (beats : List WBeat). beats) (data_widened shape parts data_of))
  strobes-small [] data_of = All-nil (λ (w : WBeat). w.strobe < 2 ^ shape.wide)
  strobes-small (a ∷ parts) [] = All-nil (λ (w : WBeat). w.strobe < 2 ^ shape.wide)
  strobes-small (a ∷ parts) (beats ∷ data_of) =
      let P : WBeat → Type 0 = λ w. w.strobe < 2 ^ shape.wide in
      All-append P (moved_each (beat_widened shape) (beat_shifts shape a) beats) (flat_map (λ (beats : List WBeat). beats) (data_widened shape parts data_of))
      (moved-all (beat_widened shape) (λ k. k + shape.narrow ≤ shape.wide) P (λ k w within. strobe-small w.strobe shape.narrow k shape.wide within) (beat_shifts shape a) beats
      (mapped (range_with_len 0 (beats_of a)) a)) (strobes-small parts data_of)
    where
      mapped : (ns : List ℕ) (a : Addr) → All (λ k. k + shape.narrow ≤ shape.wide) (map (beat_shift shape a) ns)
      mapped [] a = All-nil (λ k. k + shape.narrow ≤ shape.wide)
      mapped (n ∷ ns) a =
          All-cons (λ k. k + shape.narrow ≤ shape.wide) (beat_shift shape a n) (map (beat_shift shape a) ns) (shift-within shape.narrow shape.wide is.narrow is.wide is.wider (beat_at a n)) (mapped ns a)

  -- what a beat writes of a byte of its word
  byte-moved : (a : Addr) (n x : ℕ) (w : WBeat) → x / shape.narrow ≡ beat_at a n / shape.narrow → strobed_byte shape.wide (beat_widened shape (beat_shift shape a n) w) x ≡ strobed_byte shape.narrow w x
  byte-moved a n x w word =
      let k = beat_shift shape a n in
      let lane : x % shape.wide ≡ x % shape.narrow + k =
      lane-wider shape.narrow shape.wide is.narrow is.wide is.wider x
      ∙ ap (λ m. x % shape.narrow + m) (one-shift shape.narrow shape.wide is.narrow is.wide is.wider x (beat_at a n) word) in
      let on : x % shape.narrow < shape.narrow = mod_below x shape.narrow (width-bounds shape.narrow is.narrow).0 in
      let within : k + shape.narrow ≤ 128 =
      let here = shift-within shape.narrow shape.wide is.narrow is.wide is.wider (beat_at a n) in let most = (width-bounds shape.wide is.wide).1 in omega (arith, here, most) in
      ap (λ lane. cond (bit_at (beat_widened shape k w).strobe lane == 1) (Some (slice_index (beat_widened shape k w).lanes lane)) None) lane
      ∙ ap₂ (λ (bit byte : ℕ). cond (bit == 1) (Some byte) None) (bit-moved w.strobe shape.narrow k (x % shape.narrow) on) (moved-index shape.narrow k (x % shape.narrow) w.lanes within on)

  values-moved : (a : Addr) → IsLegal a shape.narrow → (n m : ℕ) (ws : List WBeat) → length ws ≤ m →
      strobed_values shape.wide a n (moved_each (beat_widened shape) (map (beat_shift shape a) (range_with_len n m)) ws) ≡ strobed_values shape.narrow a n ws
  values-moved a legal n zero [] le = refl
  values-moved a legal n zero (w ∷ ws) le = absurd (omega (arith, le))
  values-moved a legal n (suc m) [] le = refl
  values-moved a legal n (suc m) (w ∷ ws) le =
      ap₂ (λ (xs ys : List (Option ℕ)). xs ++ ys)
      (bytes-of {P = λ x. (x / 128 ≡ beat_at a n / 128) × (x / shape.narrow ≡ beat_at a n / shape.narrow)} (beat_bytes a n) (λ x word. byte-moved a n x w word.1) (beat-line a shape.narrow n is.narrow legal))
      (ap (λ j. strobed_values shape.wide a (suc n) (moved_each (beat_widened shape) (map (beat_shift shape a) (range_with_len j m)) ws)) (let next : n + 1 ≡ suc n = omega arith in next)
      ∙ values-moved a legal (suc n) m ws (omega (arith, le)))
    where
      bytes-of : {P : ℕ → Type 0} {f g : ℕ → Option ℕ} (xs : List ℕ) → ((x : ℕ) → P x → f x ≡ g x) → All P xs → map f xs ≡ map g xs
      bytes-of [] same all = refl
      bytes-of {P} (x ∷ xs) same all = ap₂ (λ (o : Option ℕ) (os : List (Option ℕ)). o ∷ os) (same x (All-head P x xs all)) (bytes-of xs same (All-tail P x xs all))

  -- the same bytes are written
  pub written-moved : (parts : List Addr) (data_of : List (List WBeat)) → All (λ (part : Addr). IsLegal part shape.narrow) parts → AllZip (IsDataOf shape.narrow) parts data_of →
      flat_map (λ (p : Addr × List WBeat). written_bytes shape.wide p.0 p.1) (zip parts (data_widened shape parts data_of))
      ≡ flat_map (λ (p : Addr × List WBeat). written_bytes shape.narrow p.0 p.1) (zip parts data_of)
  written-moved [] [] legal all = refl
  written-moved [] (beats ∷ data_of) legal all = absurd all
  written-moved (a ∷ parts) [] legal all = absurd all
  written-moved (a ∷ parts) (beats ∷ data_of) legal all =
      let L : Addr → Type 0 = λ part. IsLegal part shape.narrow in
      let few : length beats ≤ beats_of a = omega (arith, all.0.whole) in
      ap₂ (λ xs ys. xs ++ ys) (ap (bytes_with (burst_bytes a)) (values-moved a (All-head L a parts legal) 0 (beats_of a) beats few)) (written-moved parts data_of (All-tail L a parts legal) all.1)
