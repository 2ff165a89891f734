-- The data beats of a write carry the bytes of its script.
use Rattle.std.proofs.Common.{◌≡◌, ℕ, ◌+◌, ◌-◌, ◌*◌, ◌^◌, ◌<◌, ◌≤◌, zero, suc, List, ◌++◌, length, map, take, drop, inl, inr, refl, sym, ◌∙◌, ap, subst, arith, length-drop, length-take-le, drop-drop, take-append-drop, pow_pos}
use Rattle.std.specs.List.{range_with_len}
use Rattle.std.proofs.Math.Nat.{mul-lt-mul_of_pos_right, mul-mod_left}
use Rattle.std.proofs.lemmas.Bool.{cases_lt}
use Rattle.std.proofs.lemmas.List.{drop_all, map-append}
use Rattle.std.proofs.lemmas.List.FromFn.{length-range_with_len}
use Rattle.std.proofs.lemmas.Nat.{pow-add}
use Rattle.std.proofs.lemmas.Nat.Bits.{bit_at_above}
use Rattle.axi_beats.specs.declared.beat.Addr.{Addr}
use Rattle.burst_address.proofs.Beats.{beat-count, beat-follow}
use Rattle.burst_address.specs.Bytes.{beat_bytes, burst_bytes, bytes_before, strobed_byte, strobed_values, bytes_with}
use Rattle.burst_address.specs.Formulas.{aligned, beat_at, beats_of, size_of}
use Rattle.manager_node.proofs.BeatLemmas.{strobe-small}
use Rattle.manager_node.proofs.BurstLemmas.{beat-within, bytes-next}
use Rattle.manager_node.proofs.StrobeLemmas.{made-shows, shifted-below, shown-bytes}
use Rattle.burst_address.specs.Lanes.{last_lane, first_lane}
use Rattle.manager_node.specs.Beats.{beat_data, data_beat, strobe_of, strobed_value}
use Rattle.manager_node.specs.BurstLaws.{DataStrobesAreWithin, DataStrobesValidLanes, DataWritesItsBytes, SendsItsBytes}
use Rattle.manager_node.specs.Script.{ScriptItem}

module _ (item : ScriptItem) (bus : ℕ) (sends : SendsItsBytes bus item) where
  abbrev a : Addr
  a = item.txn.request

  -- a beat sends a byte for each valid byte of it
  beat-long : (n : ℕ) → n < beats_of a → length (beat_data item n) ≡ length (beat_bytes a n)
  beat-long n lt =
      let within = beat-within a n (omega arith)
      in let left = length-drop (length (bytes_before a n)) item.bytes
      in length-take-le (length (beat_bytes a n)) (drop (length (bytes_before a n)) item.bytes) (omega (arith, within, left, sends.sent))

  -- and says of these what its bytes are
  beat-shown : (n : ℕ) → n < beats_of a → map (strobed_byte bus (data_beat item bus n)) (beat_bytes a n) ≡ map strobed_value (beat_data item n)
  beat-shown n lt =
      let count : ℕ = aligned (size_of a) (beat_at a n) + size_of a - beat_at a n
      in let long : count ≡ length (beat_data item n) = sym (length-range_with_len (beat_at a n) count) ∙ sym (beat-long n lt)
      in ap (λ k. map (strobed_byte bus (data_beat item bus n)) (range_with_len (beat_at a n) k)) long
      ∙ shown-bytes bus (beat_at a n) (first_lane a n bus) (data_beat item bus n) (beat_data item n)
      (λ k less. beat-follow a bus n k sends.width sends.legal (omega (arith, beat-long n lt)))
      (made-shows (data_beat item bus n) (first_lane a n bus) (beat_data item n) refl refl)

  -- the beats from one on have the bytes that are left
  beats-shown : (m n : ℕ) → n + m ≡ beats_of a → strobed_values bus a n (map (data_beat item bus) (range_with_len n m)) ≡ map strobed_value (drop (length (bytes_before a n)) item.bytes)
  beats-shown zero n all =
      let last : n ≡ beats_of a = omega arith
      in ap (map strobed_value) (sym (drop_all (length (bytes_before a n)) item.bytes (omega (arith, ap (λ k. length (bytes_before a k)) last, sends.sent))))
  beats-shown (suc m) n all =
      let before : ℕ = length (bytes_before a n)
      in let left : List _ = drop before item.bytes
      in let count : ℕ = length (beat_bytes a n)
      in let one : n + 1 ≡ suc n = omega arith
      in ap (λ k. map (strobed_byte bus (data_beat item bus n)) (beat_bytes a n) ++ strobed_values bus a (suc n) (map (data_beat item bus) (range_with_len k m))) one
      ∙ ap (λ vs. vs ++ strobed_values bus a (suc n) (map (data_beat item bus) (range_with_len (suc n) m))) (beat-shown n (omega arith))
      ∙ ap (λ vs. map strobed_value (take count left) ++ vs) (beats-shown m (suc n) (omega arith))
      ∙ ap (λ k. map strobed_value (take count left) ++ map strobed_value (drop k item.bytes)) (bytes-next a n)
      ∙ ap (λ rest. map strobed_value (take count left) ++ map strobed_value rest) (sym (drop-drop count before item.bytes))
      ∙ sym (map-append strobed_value (take count left) (drop count left))
      ∙ ap (map strobed_value) (take-append-drop count left)

  -- the strobes of a beat begin at its lowest valid lane, and end at its highest one
  strobes-end : (n : ℕ) → n < beats_of a → (data_beat item bus n).strobe < 2 ^ (last_lane a n bus + 1)
  strobes-end n lt =
      let low : ℕ = first_lane a n bus
      in let bytes = beat_data item n
      in let sum : length bytes + low ≡ last_lane a n bus + 1 = omega (arith, beat-long n lt, (beat-count a bus n sends.width sends.legal).0)
      in let less : strobe_of bytes * 2 ^ low < 2 ^ length bytes * 2 ^ low = mul-lt-mul_of_pos_right {k = 2 ^ low} (strobe-small bytes) (pow_pos low)
      in subst (λ (top : ℕ). strobe_of bytes * 2 ^ low < top) (sym (pow-add 2 (length bytes) low) ∙ ap (λ k. 2 ^ k) sum) less

pub data-writes_its_bytes : DataWritesItsBytes
data-writes_its_bytes item bus sends =
    let none : 0 + beats_of item.txn.request ≡ beats_of item.txn.request = omega arith
    in ap (bytes_with (burst_bytes item.txn.request)) (beats-shown item bus sends (beats_of item.txn.request) 0 none)

pub data-strobes_within : DataStrobesAreWithin
data-strobes_within item bus n sends lt =
    (mul-mod_left (strobe_of (beat_data item n)) (2 ^ first_lane item.txn.request n bus), strobes-end item bus sends n lt)

pub data-strobes_valid_lanes : DataStrobesValidLanes
data-strobes_valid_lanes item bus n lane sends lt set = (from, to)
  where
    from : first_lane item.txn.request n bus ≤ lane
    from = elim (cases_lt lane (first_lane item.txn.request n bus)) [
      | inl below ↦ let none = shifted-below (strobe_of (beat_data item n)) (first_lane item.txn.request n bus) lane below in absurd (omega arith)
      | inr within ↦ within
    ]

    to : lane ≤ last_lane item.txn.request n bus
    to = elim (cases_lt (last_lane item.txn.request n bus) lane) [
      | inl above ↦
          let none = bit_at_above (data_beat item bus n).strobe (last_lane item.txn.request n bus + 1) lane (strobes-end item bus sends n lt) (omega arith)
          in absurd (omega arith)
      | inr within ↦ within
    ]
