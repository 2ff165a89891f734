-- The bytes of one beat lie in one line, and have one status.
use Rattle.std.proofs.Common.{◌≡◌, ◌≢◌, ℕ, ◌+◌, ◌*◌, ◌/◌, ◌%◌, ◌^◌, ◌<◌, ◌≤◌, ◌&&◌, ◌||◌, Bool, true, false, cond, List, [], ◌∷◌, refl, sym, ◌∙◌, ap, arith, leb, ltb, inl, inr, replicate}
use Rattle.std.specs.Prelude.{All, filter}
use Rattle.std.specs.List.{AllByRecursion}
use Rattle.std.proofs.lemmas.Bool.{le-leb, lt-leb, lt-ltb, le-ltb, cases_lt}
use Rattle.std.proofs.lemmas.List.Elements.{All-head, All-tail}
use Rattle.std.proofs.lemmas.Nat.{div-add-mod', mod_below}
use Rattle.axi_beats.specs.declared.beat.Addr.{Addr}
use Rattle.axi_beats.specs.declared.beat.WBeat.{WBeat}
use Rattle.axi_beats.specs.declared.response.Resp.{Resp}
use Rattle.axi_beats.specs.declared.response.Resp.TheVariants.{Okay}
use Rattle.burst_address.proofs.LaneBytes.{lanes-on_bus}
use Rattle.burst_address.proofs.OneStatus.{none-strobed, one-status_of_strobed, one-status_of_valid}
use Rattle.burst_address.proofs.Widths.{width-bounds, word-in_line}
use Rattle.burst_address.specs.Formulas.{beat_at}
use Rattle.burst_address.specs.Lanes.{first_lane, is_strobed, is_valid, lane_address, lane_bytes, lane_count, strobed_lanes}
use Rattle.memory_node.specs.Beats.{answered_byte, answered_lanes, stored_bytes, strobed_status, valid_status}
use Rattle.memory_node.specs.MemoryArea.{IsMemoryArea, IsRangeOf, MemoryArea, is_in_range, is_in_some, is_inside}
use Rattle.memory_node.specs.Status.{is_okay, may_read, may_write, read_status, status_but_in, write_status}
use Rattle.memory_node.specs.Store.{Store, byte_at, lanes_between}
use Rattle.memory_node.specs.declared.config.Range.{Range}
use Rattle.plain_lists.proofs.RangeLemmas.{filter-range-below, map-range-agree, map-range-constant}

-- a line's border is no border within a line
line-below : (border a k : ℕ) → border % 128 ≡ 0 → a % 128 + k < 128 → leb border (a + k) ≡ leb border a
line-below border a k is lt = elim (cases_lt a border) [
  | inl less ↦ let still : a + k < border = omega arith in lt-leb border (a + k) still ∙ sym (lt-leb border a less)
  | inr more ↦ let still : border ≤ a + k = omega arith in le-leb border (a + k) still ∙ sym (le-leb border a more)
]

line-above : (border a k : ℕ) → border % 128 ≡ 0 → a % 128 + k < 128 → ltb (a + k) border ≡ ltb a border
line-above border a k is lt = elim (cases_lt a border) [
  | inl less ↦ let still : a + k < border = omega arith in lt-ltb (a + k) border still ∙ sym (lt-ltb a border less)
  | inr more ↦ let still : border ≤ a + k = omega arith in le-ltb (a + k) border still ∙ sym (le-ltb a border more)
]

-- the addresses of a line are all between two borders, or none is
between-lane : (from to a k : ℕ) → from % 128 ≡ 0 → to % 128 ≡ 0 → a % 128 + k < 128 → (leb from (a + k) && ltb (a + k) to) ≡ (leb from a && ltb a to)
between-lane from to a k low high lt = ap (λ b. b && ltb (a + k) to) (line-below from a k low lt) ∙ ap (λ b. leb from a && b) (line-above to a k high lt)

pub is_inside-lane : (area : MemoryArea) (a k : ℕ) → IsMemoryArea area → a % 128 + k < 128 → is_inside area (a + k) ≡ is_inside area a
is_inside-lane area a k is lt = between-lane area.base (area.base + area.size) a k (omega (arith, is.base)) (omega (arith, is.base, is.size)) lt

module _ (area : MemoryArea) where
  in_some-lane : (ranges : List Range) (a k : ℕ) → All (IsRangeOf area) ranges → a % 128 + k < 128 → is_in_some ranges (a + k) ≡ is_in_some ranges a
  in_some-lane [] a k all lt = refl
  in_some-lane (r ∷ ranges) a k all lt =
      let is : IsRangeOf area r = All-head (IsRangeOf area) r ranges all in
      let first : is_in_range r (a + k) ≡ is_in_range r a = between-lane r.base (r.base + r.size) a k is.base (omega (arith, is.base, is.size)) lt in
      let rest : is_in_some ranges (a + k) ≡ is_in_some ranges a = in_some-lane ranges a k (All-tail (IsRangeOf area) r ranges all) lt in
      ap (λ b. b || is_in_some ranges (a + k)) first ∙ ap (λ b. is_in_range r a || b) rest

-- where bytes of some ranges are refused
module _ (area : MemoryArea) (refused : List Range) (is : IsMemoryArea area) (ranges : All (IsRangeOf area) refused) where
  abbrev status_at : ℕ → Resp
  status_at address = status_but_in (is_inside area address) (is_in_some refused address)

  abbrev passes : ℕ → Bool
  passes address = is_okay (status_at address)

  status-lane : (a k : ℕ) → a % 128 + k < 128 → status_at (a + k) ≡ status_at a
  status-lane a k lt = ap (λ b. status_but_in b (is_in_some refused (a + k))) (is_inside-lane area a k is lt) ∙ ap (status_but_in (is_inside area a)) (in_some-lane area refused a k ranges lt)

  module _ (word bus : ℕ) (fits : word % 128 + bus ≤ 128) where
    -- all bytes of a word pass, or none does
    filter-okay : (lanes : List ℕ) → AllByRecursion (λ k. k < bus) lanes → passes word ≡ true → filter (λ k. passes (word + k)) lanes ≡ lanes
    filter-okay [] below okay = refl
    filter-okay (k ∷ ks) below okay =
        let here : passes (word + k) ≡ true = ap is_okay (status-lane word k (omega (arith, fits, below.0))) ∙ okay in
        ap (λ b. cond b (k ∷ filter (λ k. passes (word + k)) ks) (filter (λ k. passes (word + k)) ks)) here ∙ ap (λ t. k ∷ t) (filter-okay ks below.1 okay)

    filter-refused : (lanes : List ℕ) → AllByRecursion (λ k. k < bus) lanes → passes word ≡ false → filter (λ k. passes (word + k)) lanes ≡ []
    filter-refused [] below bad = refl
    filter-refused (k ∷ ks) below bad =
        let here : passes (word + k) ≡ false = ap is_okay (status-lane word k (omega (arith, fits, below.0))) ∙ bad in
        ap (λ b. cond b (k ∷ filter (λ k. passes (word + k)) ks) (filter (λ k. passes (word + k)) ks)) here ∙ filter-refused ks below.1 bad

  module _ (request : Addr) (beat : ℕ) where
    abbrev word : ℕ
    word = beat_at request beat / area.bus * area.bus

    fits : word % 128 + area.bus ≤ 128
    fits = word-in_line (beat_at request beat) area.bus is.bus

    -- the beat's address has the status of its word
    status-beat : status_at (beat_at request beat) ≡ status_at word
    status-beat =
        let lane : beat_at request beat % area.bus < area.bus = mod_below (beat_at request beat) area.bus (width-bounds area.bus is.bus).0 in
        let sum : beat_at request beat ≡ word + beat_at request beat % area.bus = sym (div-add-mod' (beat_at request beat) area.bus) in
        ap status_at sum ∙ status-lane word (beat_at request beat % area.bus) (omega (arith, fits))

    -- and so have all bytes of its word
    pub one-status : (lane : ℕ) → lane < area.bus → status_at (lane_address request beat area.bus lane) ≡ status_at (beat_at request beat)
    one-status lane lt = status-lane word lane (omega (arith, fits)) ∙ sym status-beat

module _ (area : MemoryArea) (request : Addr) (beat : ℕ) (is : IsMemoryArea area) where
  abbrev its_word : ℕ
  its_word = beat_at request beat / area.bus * area.bus

  module _ (w : WBeat) where
    abbrev strobed : List ℕ
    strobed = strobed_lanes area.bus w

    strobed-below : AllByRecursion (λ k. k < area.bus) strobed
    strobed-below = filter-range-below (is_strobed w) 0 area.bus area.bus (omega arith)

    -- where the beat's address may be written the strobed bytes are, and else none is
    pub written-okay : may_write area (beat_at request beat) ≡ true → stored_bytes area request beat w ≡ lane_bytes its_word w strobed
    written-okay okay =
        ap (lane_bytes its_word w)
        (filter-okay area area.read_only is is.read_only its_word area.bus (fits area area.read_only is is.read_only request beat) strobed strobed-below
        (sym (ap is_okay (status-beat area area.read_only is is.read_only request beat)) ∙ okay))

    pub written-refused : may_write area (beat_at request beat) ≡ false → stored_bytes area request beat w ≡ []
    written-refused bad =
        ap (lane_bytes its_word w)
        (filter-refused area area.read_only is is.read_only its_word area.bus (fits area area.read_only is is.read_only request beat) strobed strobed-below
        (sym (ap is_okay (status-beat area area.read_only is is.read_only request beat)) ∙ bad))

  -- it is the status of strobed bytes
  pub strobed-none : (w : WBeat) → w.strobe ≡ 0 → strobed_status area request beat w ≡ Okay
  strobed-none w none = none-strobed (write_status area) request beat area.bus w none

  pub strobed-beat : (w : WBeat) → w.strobe ≢ 0 → w.strobe < 2 ^ area.bus → strobed_status area request beat w ≡ write_status area (beat_at request beat)
  strobed-beat w some lt =
      one-status_of_strobed (write_status area) (write_status area (beat_at request beat)) request beat area.bus w (one-status area area.read_only is is.read_only request beat) some lt

  -- and of valid ones
  pub valid-beat : valid_status area request beat ≡ read_status area (beat_at request beat)
  valid-beat = one-status_of_valid (read_status area) (read_status area (beat_at request beat)) request beat area.bus is.bus (one-status area area.hole is is.hole request beat)

  abbrev low : ℕ
  low = first_lane request beat area.bus

  abbrev count : ℕ
  count = lane_count request beat area.bus

  below : low + count ≤ area.bus
  below = (lanes-on_bus request beat area.bus is.bus).1

  module _ (store : Store) where
    -- what is answered on a lane, by whether it is valid
    abbrev answer : Bool → ℕ → ℕ
    answer valid k = cond valid (answered_byte area store (its_word + k)) 0

    may-read-lane : (k : ℕ) → k < area.bus → may_read area (its_word + k) ≡ may_read area (beat_at request beat)
    may-read-lane k lt = ap is_okay (one-status area area.hole is is.hole request beat k lt)

    pub answered-okay : may_read area (beat_at request beat) ≡ true → answered_lanes area store request beat ≡ lanes_between store its_word low (low + count)
    answered-okay okay =
        map-range-agree (λ k. answer (is_valid request beat area.bus k) k) (λ k. cond (leb low k && ltb k (low + count)) (byte_at store (its_word + k)) 0) 0 128
        (λ k le lt. elim (cases_lt k area.bus) [
          | inl less ↦ ap (λ b. cond (leb low k && ltb k (low + count)) (cond b (byte_at store (its_word + k)) 0) 0) (may-read-lane k less ∙ okay)
          | inr more ↦
              let past : ltb k (low + count) ≡ false = le-ltb k (low + count) (omega (arith, below)) in
              ap (λ b. cond (leb low k && b) (answered_byte area store (its_word + k)) 0) past
              ∙ none (leb low k) (answered_byte area store (its_word + k)) (byte_at store (its_word + k))
              ∙ sym (ap (λ b. cond (leb low k && b) (byte_at store (its_word + k)) 0) past)
        ])
      where
        none : (b : Bool) (x y : ℕ) → cond (b && false) x 0 ≡ cond (b && false) y 0
        none true x y = refl
        none false x y = refl

    pub answered-refused : may_read area (beat_at request beat) ≡ false → answered_lanes area store request beat ≡ replicate 128 0
    answered-refused bad =
        map-range-agree (λ k. answer (is_valid request beat area.bus k) k) (λ k. 0) 0 128
        (λ k le lt. elim (cases_lt k area.bus) [
          | inl less ↦
              ap (λ b. cond (leb low k && ltb k (low + count)) (cond b (byte_at store (its_word + k)) 0) 0) (may-read-lane k less ∙ bad)
              ∙ zeros (leb low k && ltb k (low + count))
          | inr more ↦
              let past : ltb k (low + count) ≡ false = le-ltb k (low + count) (omega (arith, below)) in
              ap (λ b. cond (leb low k && b) (answered_byte area store (its_word + k)) 0) past ∙ none (leb low k) (answered_byte area store (its_word + k))
        ])
        ∙ map-range-constant 0 128 0
      where
        zeros : (b : Bool) → (let n : ℕ = cond b 0 0 in n ≡ 0)
        zeros true = refl
        zeros false = refl

        none : (b : Bool) (x : ℕ) → cond (b && false) x 0 ≡ 0
        none true x = refl
        none false x = refl
