-- What a burst is doesn't depend on its ID and its tag.
use Rattle.std.proofs.Common.{◌≡◌, ℕ, suc, zero, List, [], ◌∷◌, ◌++◌, map, refl, ap, ap₂}
use Rattle.axi_beats.specs.declared.beat.Addr.{Addr}
use Rattle.axi_beats.specs.declared.beat.Tag.{Tag}
use Rattle.axi_beats.specs.declared.beat.WBeat.{WBeat}
use Rattle.burst_address.specs.Bytes.{beat_bytes, burst_bytes, bytes_before, bytes_with, strobed_byte, strobed_values, written_bytes}
use Rattle.burst_address.specs.Formulas.{beats_of}

module _ (a : Addr) (id : ℕ) (tag : Tag) where
  abbrev other : Addr
  other = record a { id = id; tag = tag }

  pub before-alone : (n : ℕ) → bytes_before other n ≡ bytes_before a n
  before-alone zero = refl
  before-alone (suc n) = ap (λ bytes. bytes ++ beat_bytes a n) (before-alone n)

  pub burst-alone : burst_bytes other ≡ burst_bytes a
  burst-alone = before-alone (beats_of a)

strobed-alone : (bus : ℕ) (a : Addr) (id : ℕ) (tag : Tag) (n : ℕ) (ws : List WBeat) → strobed_values bus (record a { id = id; tag = tag }) n ws ≡ strobed_values bus a n ws
strobed-alone bus a id tag n [] = refl
strobed-alone bus a id tag n (w ∷ ws) = ap (λ values. map (strobed_byte bus w) (beat_bytes a n) ++ values) (strobed-alone bus a id tag (suc n) ws)

pub written-alone : (bus : ℕ) (a : Addr) (id : ℕ) (tag : Tag) (ws : List WBeat) → written_bytes bus (record a { id = id; tag = tag }) ws ≡ written_bytes bus a ws
written-alone bus a id tag ws = ap₂ bytes_with (burst-alone a id tag) (strobed-alone bus a id tag 0 ws)
