-- Facts on the width of a bus.
use Rattle.std.proofs.Common.{◌≡◌, ℕ, ◌+◌, ◌*◌, ◌/◌, ◌%◌, ◌<◌, ◌≤◌, ◌==◌, ◌||◌, Bool, true, false, sym, refl, subst, arith, eqb, IsTrue}
use Rattle.std.proofs.lemmas.Bool.{eqb-true}
use Rattle.axi_beats.specs.Bus.{IsBusWidth}

or-left : (P : Type 0) (a b : Bool) → IsTrue (a || b) → (a ≡ true → P) → (b ≡ true → P) → P
or-left P true b e left right = left refl
or-left P false b e left right = right e

-- what holds at each width holds at a bus's width
pub width-cases : (P : ℕ → Type 0) (bus : ℕ) → IsBusWidth bus → P 4 → P 8 → P 16 → P 32 → P 64 → P 128 → P bus
width-cases P bus is p4 p8 p16 p32 p64 p128 =
    let at : (n : ℕ) → P n → eqb bus n ≡ true → P bus = λ n p e. subst P (sym (eqb-true bus n e)) p in
    or-left (P bus) (bus == 4 || bus == 8 || bus == 16 || bus == 32 || bus == 64) (bus == 128) is
    (λ e. or-left (P bus) (bus == 4 || bus == 8 || bus == 16 || bus == 32) (bus == 64) e
    (λ e. or-left (P bus) (bus == 4 || bus == 8 || bus == 16) (bus == 32) e
    (λ e. or-left (P bus) (bus == 4 || bus == 8) (bus == 16) e
    (λ e. or-left (P bus) (bus == 4) (bus == 8) e (at 4 p4) (at 8 p8))
    (at 16 p16))
    (at 32 p32))
    (at 64 p64))
    (at 128 p128)

-- a bus has a lane, and at most 128
pub width-bounds : (bus : ℕ) → IsBusWidth bus → (0 < bus) × (bus ≤ 128)
width-bounds bus is =
    width-cases (λ n. (0 < n) × (n ≤ 128)) bus is
    (omega arith, omega arith) (omega arith, omega arith) (omega arith, omega arith) (omega arith, omega arith) (omega arith, omega arith) (omega arith, omega arith)

-- the word of a bus lies in one line
pub word-in_line : (a bus : ℕ) → IsBusWidth bus → a / bus * bus % 128 + bus ≤ 128
word-in_line a bus is =
    width-cases (λ n. a / n * n % 128 + n ≤ 128) bus is
    (omega arith) (omega arith) (omega arith) (omega arith) (omega arith) (omega arith)
