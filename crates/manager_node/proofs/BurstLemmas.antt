-- The bytes of bursts, counted beat by beat.
use Rattle.std.proofs.Common.{◌≡◌, ℕ, ◌+◌, ◌-◌, ◌*◌, ◌≤◌, zero, suc, length, refl, ap, arith, length-append}
use Rattle.axi_beats.specs.Bus.{IsBusWidth}
use Rattle.axi_beats.specs.declared.beat.Addr.{Addr}
use Rattle.burst_address.proofs.Beats.{beat-count}
use Rattle.burst_address.proofs.Legality.{legal-size}
use Rattle.burst_address.specs.Bytes.{beat_bytes, bytes_before, burst_bytes}
use Rattle.burst_address.specs.Legal.{IsLegal}
use Rattle.burst_address.specs.Lanes.{last_lane, first_lane}

module _ (a : Addr) (bus n : ℕ) (wide : IsBusWidth bus) (legal : IsLegal a bus) where
  -- a beat has a byte on each valid lane
  pub lane-order : first_lane a n bus ≤ last_lane a n bus
  lane-order = let count = beat-count a bus n wide legal in omega (arith, count.0, count.1)

  pub lane-count : last_lane a n bus - first_lane a n bus + 1 ≡ length (beat_bytes a n)
  lane-count = let count = beat-count a bus n wide legal in omega (arith, count.0, count.1)

-- one more beat
pub bytes-next : (a : Addr) (n : ℕ) → length (bytes_before a (suc n)) ≡ length (bytes_before a n) + length (beat_bytes a n)
bytes-next a n = length-append (bytes_before a n) (beat_bytes a n)

bytes-more : (a : Addr) (d n : ℕ) → length (bytes_before a n) ≤ length (bytes_before a (d + n))
bytes-more a zero n = let same : 0 + n ≡ n = omega arith in omega (arith, ap (λ k. length (bytes_before a k)) same)
bytes-more a (suc d) n =
    let same : suc d + n ≡ suc (d + n) = omega arith
    in omega (arith, ap (λ k. length (bytes_before a k)) same, bytes-next a (d + n), bytes-more a d n)

-- the first beats have no more bytes than the burst
pub bytes-within : (a : Addr) (n m : ℕ) → n ≤ m → length (bytes_before a n) ≤ length (bytes_before a m)
bytes-within a n m le =
    let sum : (m - n) + n ≡ m = omega arith
    in omega (arith, bytes-more a (m - n) n, ap (λ k. length (bytes_before a k)) sum)

-- a beat's bytes stand among those of its burst
pub beat-within : (a : Addr) (n : ℕ) → n ≤ a.len → length (bytes_before a n) + length (beat_bytes a n) ≤ length (burst_bytes a)
beat-within a n le =
    let whole = bytes-within a (suc n) (a.len + 1) (omega arith)
    in omega (arith, bytes-next a n, whole)

-- a beat has at most as many bytes as the widest bus
pub bytes-most : (a : Addr) (n : ℕ) → IsLegal a 128 → length (bytes_before a n) ≤ n * 128
bytes-most a zero legal = omega arith
bytes-most a (suc n) legal =
    let count = beat-count a 128 n refl legal
    in omega (arith, bytes-next a n, bytes-most a n legal, count.2, legal-size a 128 legal)
