-- The strobes of bytes from a lane upwards, and what these lanes hold.
use Rattle.std.proofs.Common.{◌≡◌, ℕ, ◌+◌, ◌-◌, ◌*◌, ◌/◌, ◌%◌, ◌^◌, ◌<◌, ◌==◌, zero, suc, Bool, true, false, cond, List, [], ◌∷◌, Option, Some, None, length, map, get_or, replicate, slice_index, refl, sym, ◌∙◌, ap, ap₂, arith, get_or-append-add, pow_pos}
use Rattle.std.specs.Int.{bit_at}
use Rattle.std.specs.List.{range_with_len}
use Rattle.std.proofs.lemmas.List.{get_or-map, get_or_append_left, length-map, length-replicate}
use Rattle.std.proofs.lemmas.Nat.Bits.{bit_at-suc, bit_at-zero, bit_at_cat_high, bit_at_cat_low, bit_at_lowest}
use Rattle.axi_beats.specs.declared.beat.WBeat.{WBeat}
use Rattle.burst_address.specs.Bytes.{strobed_byte}
use Rattle.manager_node.specs.Beats.{lane_of, lanes_from, strobe_of, strobed_value}
use Rattle.manager_node.specs.declared.script.WriteByte.{WriteByte}

-- the strobe of a byte
abbrev pub bit : Bool → ℕ
bit strobed = cond strobed 1 0

strobe-lowest : (strobed : Bool) (rest : ℕ) → (bit strobed + 2 * rest) % 2 ≡ bit strobed
strobe-lowest true rest = omega arith
strobe-lowest false rest = omega arith

strobe-half : (strobed : Bool) (rest : ℕ) → (bit strobed + 2 * rest) / 2 ≡ rest
strobe-half true rest = omega arith
strobe-half false rest = omega arith

strobe-bit : (bytes : List WriteByte) (i : ℕ) (d : WriteByte) → i < length bytes → bit_at (strobe_of bytes) i ≡ bit (get_or bytes i d).strobed
strobe-bit [] i d lt = absurd (omega arith)
strobe-bit (byte ∷ bytes) zero d lt = bit_at_lowest (strobe_of (byte ∷ bytes)) ∙ strobe-lowest byte.strobed (strobe_of bytes)
strobe-bit (byte ∷ bytes) (suc i) d lt =
    bit_at-suc (strobe_of (byte ∷ bytes)) i ∙ ap (λ n. bit_at n i) (strobe-half byte.strobed (strobe_of bytes)) ∙ strobe-bit bytes i d (omega arith)

-- strobes that begin at a lane
module _ (strobe low : ℕ) where
  alone : strobe * 2 ^ low ≡ strobe * 2 ^ low + 0
  alone = omega arith

  shifted-bit : (i : ℕ) → bit_at (strobe * 2 ^ low) (low + i) ≡ bit_at strobe i
  shifted-bit i =
      let same : low + i - low ≡ i = omega arith
      in ap (λ n. bit_at n (low + i)) alone ∙ bit_at_cat_high strobe low 0 (low + i) (pow_pos low) (omega arith) ∙ ap (bit_at strobe) same

  pub shifted-below : (i : ℕ) → i < low → bit_at (strobe * 2 ^ low) i ≡ 0
  shifted-below i lt = ap (λ n. bit_at n i) alone ∙ bit_at_cat_low strobe low 0 i lt ∙ bit_at-zero i

-- what is on a byte's lane
lane-value : (low : ℕ) (bytes : List WriteByte) (i : ℕ) (d : WriteByte) → i < length bytes → slice_index (lanes_from low bytes) (low + i) ≡ lane_of (get_or bytes i d)
lane-value low bytes i d lt =
    let front : length (replicate {A = ℕ} low 0) ≡ low = length-replicate low 0
    in let long : length (map lane_of bytes) ≡ length bytes = length-map bytes lane_of
    in ap (λ k. slice_index (lanes_from low bytes) (k + i)) (sym front)
    ∙ get_or-append-add (replicate low 0) _ i 0
    ∙ get_or_append_left (map lane_of bytes) _ 0 i (omega (arith, long))
    ∙ get_or-map lane_of bytes i d 0 lt

-- A data beat shows these bytes from a lane upwards: their strobes, and the values of those that are strobed.
pub record Shows (w : WBeat) (first : ℕ) (bytes : List WriteByte) : Type 0 where
  pub strobes : (i : ℕ) (d : WriteByte) → i < length bytes → bit_at w.strobe (first + i) ≡ bit (get_or bytes i d).strobed
  pub lanes : (i : ℕ) (d : WriteByte) → i < length bytes → slice_index w.lanes (first + i) ≡ lane_of (get_or bytes i d)

-- the beat that is made of bytes from a lane upwards
pub made-shows : (w : WBeat) (low : ℕ) (bytes : List WriteByte) → w.lanes ≡ lanes_from low bytes → w.strobe ≡ strobe_of bytes * 2 ^ low → Shows w low bytes
made-shows w low bytes lanes strobe = record {
  strobes = λ i d lt. ap (λ s. bit_at s (low + i)) strobe ∙ shifted-bit (strobe_of bytes) low i ∙ strobe-bit bytes i d lt;
  lanes = λ i d lt. ap (λ ls. slice_index ls (low + i)) lanes ∙ lane-value low bytes i d lt;
}

shows-rest : (w : WBeat) (first : ℕ) (byte : WriteByte) (bytes : List WriteByte) → Shows w first (byte ∷ bytes) → Shows w (first + 1) bytes
shows-rest w first byte bytes shows = record {
  strobes = λ i d lt. let next : first + 1 + i ≡ first + suc i = omega arith in ap (bit_at w.strobe) next ∙ shows.strobes (suc i) d (omega arith);
  lanes = λ i d lt. let next : first + 1 + i ≡ first + suc i = omega arith in ap (slice_index w.lanes) next ∙ shows.lanes (suc i) d (omega arith);
}

-- what a beat says of the byte of a lane
abbrev said : WBeat → ℕ → Option ℕ
said w lane = cond (bit_at w.strobe lane == 1) (Some (slice_index w.lanes lane)) None

first-said : (w : WBeat) (first : ℕ) (byte : WriteByte) (bytes : List WriteByte) → Shows w first (byte ∷ bytes) → said w first ≡ strobed_value byte
first-said w first byte bytes shows =
    let here : first ≡ first + 0 = omega arith
    in let value : (strobed : Bool) → cond (bit strobed == 1) (Some (cond strobed byte.value 0)) None ≡ cond strobed (Some byte.value) None = elim [ true ↦ refl | false ↦ refl ]
    in ap (said w) here
    ∙ ap₂ (λ (strobe lane : ℕ). cond (strobe == 1) (Some lane) None) (shows.strobes 0 byte (omega arith)) (shows.lanes 0 byte (omega arith))
    ∙ value byte.strobed

-- where the addresses from x on have the lanes from the first one on, the beat says of them what these bytes are
pub shown-bytes :
    (bus x first : ℕ) (w : WBeat) (bytes : List WriteByte) → ((k : ℕ) → k < length bytes → (x + k) % bus ≡ first + k) → Shows w first bytes →
    map (strobed_byte bus w) (range_with_len x (length bytes)) ≡ map strobed_value bytes
shown-bytes bus x first w [] follow shows = refl
shown-bytes bus x first w (byte ∷ bytes) follow shows =
    let start : x ≡ x + 0 = omega arith
    in let here : first + 0 ≡ first = omega arith
    in let rest = shown-bytes bus (x + 1) (first + 1) w bytes
    (λ k lt. let next : x + 1 + k ≡ x + suc k = omega arith in let lane : first + suc k ≡ first + 1 + k = omega arith in ap (λ y. y % bus) next ∙ follow (suc k) (omega arith) ∙ lane)
    (shows-rest w first byte bytes shows)
    in ap (λ v. v ∷ map (strobed_byte bus w) (range_with_len (x + 1) (length bytes)))
    (ap (said w) (ap (λ y. y % bus) start ∙ follow 0 (omega arith) ∙ here) ∙ first-said w first byte bytes shows)
    ∙ ap (λ vs. strobed_value byte ∷ vs) rest
