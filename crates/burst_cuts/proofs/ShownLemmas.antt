-- What the parts of bursts show: their requests, numbers and counts.
use Rattle.std.proofs.Common.{◌≡◌, ◌≢◌, ◌+◌, ℕ, zero, suc, List, [], ◌∷◌, ◌++◌, length, map, replicate, refl, sym, ◌∙◌, ap, ap₂, inl, inr, arith, length-append}
use Rattle.std.specs.Prelude.{All, flat_map}
use Rattle.std.specs.List.{range_with_len}
use Rattle.std.proofs.lemmas.Bool.{cases_eq}
use Rattle.std.proofs.lemmas.List.Elements.{All-append, All-cons, All-head, All-nil, All-tail}
use Rattle.std.proofs.lemmas.List.FromFn.{length-map-range_with_len}
use Rattle.axi_beats.specs.declared.beat.Addr.{Addr}
use Rattle.axi_beats.specs.declared.beat.WBeat.{WBeat}
use Rattle.plain_lists.proofs.KeyLemmas.{of_key-append, of_key-cons, of_key-skip}
use Rattle.axi_trail.specs.LinkContracts.{without_id}
use Rattle.axi_trail.specs.Words.{Asked, beats_due, burst_asked, number_of_address, number_of_asked, write_asked}
use Rattle.plain_lists.specs.Keys.{of_key}
use Rattle.burst_cuts.proofs.CutLemmas.{cut, map-append}
use Rattle.burst_cuts.specs.CutLaws.{single, single_parts}
use Rattle.burst_cuts.specs.Parts.{as_last, data_of_part, part_of, parts_of}

abbrev pub cut_all : List Addr → List Addr
cut_all addresses = flat_map parts_of addresses

-- what parts show

asked-of_parts : (a : Addr) (from n : ℕ) → map burst_asked (map (part_of a) (range_with_len from n)) ≡ replicate n (single (burst_asked a))
asked-of_parts a from zero = refl
asked-of_parts a from (suc n) = ap (λ (t : List Asked). single (burst_asked a) ∷ t) (asked-of_parts a (from + 1) n)

pub asked-of_cut : (addresses : List Addr) → map burst_asked (cut_all addresses) ≡ cut (map burst_asked addresses)
asked-of_cut [] = refl
asked-of_cut (a ∷ addresses) = map-append burst_asked (parts_of a) (cut_all addresses) ∙ ap₂ (λ (x y : List Asked). x ++ y) (asked-of_parts a 0 (suc a.len)) (asked-of_cut addresses)

module _ (P : Addr → Type 0) (each : (a : Addr) (n : ℕ) → P a → P (part_of a n)) where
  all-parts : (a : Addr) → P a → (from n : ℕ) → All P (map (part_of a) (range_with_len from n))
  all-parts a p from zero = All-nil P
  all-parts a p from (suc n) = All-cons P (part_of a from) (map (part_of a) (range_with_len (from + 1) n)) (each a from p) (all-parts a p (from + 1) n)

  pub all-of_cut : (addresses : List Addr) → All P addresses → All P (cut_all addresses)
  all-of_cut [] all = All-nil P
  all-of_cut (a ∷ addresses) all = All-append P (parts_of a) (cut_all addresses) (all-parts a (All-head P a addresses all) 0 (suc a.len)) (all-of_cut addresses (All-tail P a addresses all))

-- parts have no beat after the first
pub all-single : (addresses : List Addr) → All (λ (a : Addr). a.len ≡ 0) (cut_all addresses)
all-single [] = All-nil (λ (a : Addr). a.len ≡ 0)
all-single (a ∷ addresses) = All-append (λ (a : Addr). a.len ≡ 0) (parts_of a) (cut_all addresses) (singles a 0 (suc a.len)) (all-single addresses)
  where
    singles : (a : Addr) (from n : ℕ) → All (λ (p : Addr). p.len ≡ 0) (map (part_of a) (range_with_len from n))
    singles a from zero = All-nil (λ (p : Addr). p.len ≡ 0)
    singles a from (suc n) = All-cons (λ (p : Addr). p.len ≡ 0) (part_of a from) (map (part_of a) (range_with_len (from + 1) n)) refl (singles a (from + 1) n)

abbrev asked_of : Addr → ℕ → Asked
asked_of a len = record { number = a.tag.txn; id = a.id; len = len }

pub same-asked : (addresses : List Addr) → All (λ (a : Addr). a.len ≡ 0) addresses → map burst_asked addresses ≡ map write_asked addresses
same-asked [] all = refl
same-asked (a ∷ addresses) all =
    ap₂ (λ (x : Asked) (xs : List Asked). x ∷ xs) (ap (asked_of a) (All-head (λ (a : Addr). a.len ≡ 0) a addresses all)) (same-asked addresses (All-tail (λ (a : Addr). a.len ≡ 0) a addresses all))

pub singles-asked : (addresses : List Addr) → map write_asked addresses ≡ map single (map burst_asked addresses)
singles-asked [] = refl
singles-asked (a ∷ addresses) = ap (λ (t : List Asked). write_asked a ∷ t) (singles-asked addresses)

-- by number

own-parts : (t : ℕ) (a : Addr) (from n : ℕ) → a.tag.txn ≡ t → of_key number_of_address t (map (part_of a) (range_with_len from n)) ≡ map (part_of a) (range_with_len from n)
own-parts t a from zero own = refl
own-parts t a from (suc n) own =
    of_key-cons number_of_address t (part_of a from) (map (part_of a) (range_with_len (from + 1) n)) own ∙ ap (λ (l : List Addr). part_of a from ∷ l) (own-parts t a (from + 1) n own)

other-parts : (t : ℕ) (a : Addr) (from n : ℕ) → a.tag.txn ≢ t → of_key number_of_address t (map (part_of a) (range_with_len from n)) ≡ []
other-parts t a from zero other = refl
other-parts t a from (suc n) other = of_key-skip number_of_address t (part_of a from) (map (part_of a) (range_with_len (from + 1) n)) other ∙ other-parts t a (from + 1) n other

pub number-of_cut : (t : ℕ) (addresses : List Addr) → of_key number_of_address t (cut_all addresses) ≡ cut_all (of_key number_of_address t addresses)
number-of_cut t [] = refl
number-of_cut t (a ∷ addresses) =
    of_key-append number_of_address t (parts_of a) (cut_all addresses)
    ∙ elim (cases_eq a.tag.txn t) [
      | inl own ↦ ap₂ (λ (x y : List Addr). x ++ y) (own-parts t a 0 (suc a.len) own) (number-of_cut t addresses) ∙ ap cut_all (sym (of_key-cons number_of_address t a addresses own))
      | inr other ↦ ap₂ (λ (x y : List Addr). x ++ y) (other-parts t a 0 (suc a.len) other) (number-of_cut t addresses) ∙ ap cut_all (sym (of_key-skip number_of_address t a addresses other))
    ]

parts-without_id : (a : Addr) (from n : ℕ) → map without_id (map (part_of a) (range_with_len from n)) ≡ map (part_of (without_id a)) (range_with_len from n)
parts-without_id a from zero = refl
parts-without_id a from (suc n) = ap (λ (l : List Addr). part_of (without_id a) from ∷ l) (parts-without_id a (from + 1) n)

pub without_id-of_cut : (addresses : List Addr) → map without_id (cut_all addresses) ≡ cut_all (map without_id addresses)
without_id-of_cut [] = refl
without_id-of_cut (a ∷ addresses) = map-append without_id (parts_of a) (cut_all addresses) ∙ ap₂ (λ (x y : List Addr). x ++ y) (parts-without_id a 0 (suc a.len)) (without_id-of_cut addresses)

-- counts by number

own-singles : (t n : ℕ) (a : Asked) → a.number ≡ t → length (of_key number_of_asked t (replicate n (single a))) ≡ n
own-singles t zero a own = refl
own-singles t (suc n) a own = ap length (of_key-cons number_of_asked t (single a) (replicate n (single a)) own) ∙ ap suc (own-singles t n a own)

pub other-singles : (t n : ℕ) (a : Asked) → a.number ≢ t → length (of_key number_of_asked t (replicate n (single a))) ≡ 0
other-singles t zero a other = refl
other-singles t (suc n) a other = ap length (of_key-skip number_of_asked t (single a) (replicate n (single a)) other) ∙ other-singles t n a other

pub length-parts : (t : ℕ) (xs ys : List Asked) → length (of_key number_of_asked t (xs ++ ys)) ≡ length (of_key number_of_asked t xs) + length (of_key number_of_asked t ys)
length-parts t xs ys = ap length (of_key-append number_of_asked t xs ys) ∙ length-append (of_key number_of_asked t xs) (of_key number_of_asked t ys)

pub count-of_cut : (t : ℕ) (asked : List Asked) → length (of_key number_of_asked t (cut asked)) ≡ beats_due (of_key number_of_asked t asked)
count-of_cut t [] = refl
count-of_cut t (a ∷ asked) = elim (cases_eq a.number t) [
  | inl own ↦
      let whole : beats_due (of_key number_of_asked t (a ∷ asked)) ≡ suc a.len + beats_due (of_key number_of_asked t asked) = ap beats_due (of_key-cons number_of_asked t a asked own) in
      omega (arith, whole, length-parts t (single_parts a) (cut asked), own-singles t (suc a.len) a own, count-of_cut t asked)
  | inr other ↦
      let whole : beats_due (of_key number_of_asked t (a ∷ asked)) ≡ beats_due (of_key number_of_asked t asked) = ap beats_due (of_key-skip number_of_asked t a asked other) in
      omega (arith, whole, length-parts t (single_parts a) (cut asked), other-singles t (suc a.len) a other, count-of_cut t asked)
]

-- the parts of a transaction are as many as its beats
pub length-cut : (parts : List Addr) → length (cut_all parts) ≡ beats_due (map burst_asked parts)
length-cut [] = refl
length-cut (a ∷ parts) = omega (arith, length-append (parts_of a) (cut_all parts), length-map-range_with_len (part_of a) 0 (suc a.len), length-cut parts)

pub same-beats : (addresses : List Addr) → beats_due (map burst_asked (map without_id addresses)) ≡ beats_due (map burst_asked addresses)
same-beats [] = refl
same-beats (a ∷ addresses) = omega (arith, same-beats addresses)

-- the data of parts, one after the other, is the bursts' data with `last`
pub flat-ones : (ws : List WBeat) → flat_map (λ (beats : List WBeat). beats) (map data_of_part ws) ≡ map as_last ws
flat-ones [] = refl
flat-ones (w ∷ ws) = ap (λ (l : List WBeat). as_last w ∷ l) (flat-ones ws)
