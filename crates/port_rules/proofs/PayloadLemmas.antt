-- When two beats are the same.
use Rattle.std.proofs.Common.{◌≡◌, ◌≢◌, ℕ, ◌<◌, true, false, List, length, get_or, ap, subst, inl, inr}
use Rattle.std.proofs.lemmas.Bool.{cases_Bool}
use Rattle.std.proofs.lemmas.List.{ext_get_or}
use Rattle.axi_history.specs.PortRules.{same_bytes}
use Rattle.axi_history.proofs.SameLemmas.{bytes_equal, bytes_same}

pub bytes_each : (xs ys : List ℕ) → length xs ≡ length ys → ((k : ℕ) → k < length xs → get_or xs k 0 ≡ get_or ys k 0) → same_bytes xs ys ≡ true
bytes_each xs ys long each =
    let same : xs ≡ ys = ext_get_or 0 xs ys long each in
    subst (λ (zs : List ℕ). same_bytes xs zs ≡ true) same (bytes_same xs)

pub bytes_differ : (xs ys : List ℕ) (k : ℕ) → get_or xs k 0 ≢ get_or ys k 0 → same_bytes xs ys ≡ false
bytes_differ xs ys k other =
    elim (cases_Bool (same_bytes xs ys)) [
      | inl e ↦ absurd (other (ap (λ (zs : List ℕ). get_or zs k 0) (bytes_equal xs ys e)))
      | inr e ↦ e
    ]
