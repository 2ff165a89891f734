-- Lanes are written one after the other.
use Rattle.std.proofs.Common.{◌≡◌, ℕ, ◌+◌, ◌<◌, List, [], ◌∷◌, ◌++◌, length, take, get_or, ap, sym, append_assoc, ◌∙◌}
use Rattle.std.proofs.lemmas.List.{append-nil, take_more}
use Rattle.std.proofs.lemmas.List.Concat.{flat_map-append}
use Rattle.plain_text.specs.Printing.{pair_of, pairs}

pub pairs-none : (front : List ℕ) → front ≡ front ++ pairs []
unfolding pairs
pairs-none front = sym (append-nil front)

pub pairs-more : (front lanes : List ℕ) (lane : ℕ) → lane < length lanes → (front ++ pairs (take lane lanes)) ++ pairs (get_or lanes lane 0 ∷ []) ≡ front ++ pairs (take (lane + 1) lanes)
unfolding pairs
pairs-more front lanes lane inside =
    append_assoc front (pairs (take lane lanes)) (pairs (get_or lanes lane 0 ∷ []))
    ∙ ap (λ (t : List ℕ). front ++ t) (sym (flat_map-append pair_of (take lane lanes) (get_or lanes lane 0 ∷ [])) ∙ ap pairs (sym (take_more lanes lane 0 inside)))
