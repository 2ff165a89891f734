-- Lemmas on bytes that are moved a part at a time.
use Rattle.std.proofs.Common.{◌≡◌, ℕ, ◌+◌, ◌-◌, ◌<◌, ◌≤◌, List, [], ◌++◌, length, take, drop, min, arith, Option, sym, ◌∙◌, ap, subst}
use Rattle.std.proofs.KnownBytes.{Consumes-trans, Appends-trans}
use Rattle.std.proofs.Math.Seq.{take-add, take-append_seam}
use Rattle.std.proofs.lemmas.List.{take-append-drop, take_rest, length-take, length-drop, length-append}
use Rattle.std.proofs.Math.ListN.{drop_of_length-le}
use Rattle.std.specs.Io.KnownBytes.{Consumes, Appends}
use Rattle.axi_program.specs.DeviceBytes.{IsRest}

-- what was read before, and now
pub IsRest-more : (first then last : Option (List ℕ)) (xs ys : List ℕ) → Consumes first then xs → Consumes then last ys → IsRest first last
IsRest-more first then last xs ys before now = record { moved = xs ++ ys; consumes = Consumes-trans first then last xs ys before now }

-- a write of the rest of a piece goes on where the front ended
pub Appends-rest : (first then last : Option (List ℕ)) (piece : List ℕ) (done n : ℕ) → Appends first then (take done piece)
    → Appends then last (take n (take (length piece - done) (drop done piece))) → Appends first last (take (done + n) piece)
Appends-rest first then last piece done n before now =
    let rest : Appends then last (take n (drop done piece)) = subst (λ (bytes : List ℕ). Appends then last (take n bytes)) (take_rest piece done) now in
    let whole = Appends-trans first then last (take done piece) (take n (drop done piece)) before rest in
    subst (λ (bytes : List ℕ). Appends first last bytes) (sym (take-add done n piece)) whole

-- the front of a buffer that took the first n bytes
pub take-copied : (left buf : List ℕ) (n : ℕ) → n ≤ length left → take n (take n left ++ drop n buf) ≡ take n left
take-copied left buf n within =
    let count : length (take n left) ≡ n = omega (arith, length-take n left) in
    subst (λ (k : ℕ). take k (take n left ++ drop n buf) ≡ take n left) count (take-append_seam (take n left) (drop n buf))

-- a read that moves the least of the most, the room and what is left moves the front, and nothing only where nothing is left
pub read-moves : (left buf new : List ℕ) (most n : ℕ) → 0 < most → n ≡ min (min most (length buf)) (length left)
    → new ≡ take n left ++ drop n buf → (left ≡ take n new ++ drop n left) × (n ≡ 0 → 0 < length new → drop n left ≡ [])
read-moves left buf new most n some count moved =
    let small : n ≤ length left = omega arith in
    let whole : take n new ++ drop n left ≡ left =
    ap (λ (bytes : List ℕ). take n bytes ++ drop n left) moved ∙ ap (λ (bytes : List ℕ). bytes ++ drop n left) (take-copied left buf n small) ∙ take-append-drop n left in
    let same : length new ≡ min n (length left) + (length buf - n) =
    ap length moved ∙ length-append (take n left) (drop n buf) ∙ ap (λ (k : ℕ). k + length (drop n buf)) (length-take n left)
    ∙ ap (λ (k : ℕ). min n (length left) + k) (length-drop n buf) in
    (sym whole, λ none room. drop_of_length-le left (omega arith))
