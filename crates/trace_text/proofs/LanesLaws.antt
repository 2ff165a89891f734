-- Lanes are read one after the other.
use Rattle.std.proofs.Common.{◌≡◌, ℕ, zero, suc, ◌+◌, ◌-◌, ◌*◌, ◌<◌, ◌≤◌, List, [], ◌∷◌, ◌++◌, Option, Some, None, length, take, drop, get_or, set, cond, eqb, refl, ap, sym, ◌∙◌, append_assoc, arith}
use Rattle.std.specs.Prelude.{option_map, replicate}
use Rattle.std.proofs.lemmas.Bool.{eq-eqb, ne_eqb}
use Rattle.std.proofs.lemmas.List.{append-nil, take_more_set, drop_more, drop-drop, drop-set-lt, length-set, take-append-drop, length-take, drop_all}
use Rattle.plain_text.specs.Exact.{◌>>=◌}
use Rattle.plain_text.specs.Spelling.{read_pair, read_pairs}
use Rattle.plain_text.proofs.FieldLaws.{bind_some, some_is}
use Rattle.std.proofs.lemmas.Bool.Decides.{nat_tests}
use Rattle.axi_beats.specs.Bus.{IsBusWidth}
use Rattle.trace_text.specs.Reading.{lanes_in}

-- two digits for each byte
length-read_pairs : (text bytes : List ℕ) → read_pairs text ≡ Some bytes → length text ≡ 2 * length bytes
unfolding read_pairs
length-read_pairs [] bytes e = rw (← some_is [] bytes e) refl
length-read_pairs (high ∷ []) bytes e = absurd cc
length-read_pairs (high ∷ low ∷ rest) bytes e =
    let b = bind_some (read_pair high low) (λ byte. read_pairs rest >>= λ bytes. Some (byte ∷ bytes)) bytes e in
    let r = bind_some (read_pairs rest) (λ bytes. Some (b.0 ∷ bytes)) bytes b.2 in
    let more = length-read_pairs rest r.0 r.1 in
    rw (← some_is (b.0 ∷ r.0) bytes r.2) (omega (arith, more))

pub lanes_in-other_length : (bus : ℕ) (word : List ℕ) → (length word ≡ 2 * bus → ⊥) → lanes_in bus word ≡ None
unfolding lanes_in
lanes_in-other_length bus word other = by (read_pairs word) refl
  where
    by : (o : Option (List ℕ)) → read_pairs word ≡ o → (o >>= λ bytes. cond (eqb (length bytes) bus) (Some (bytes ++ replicate (128 - bus) 0)) None) ≡ None
    by None e = refl
    by (Some bytes) e = let is = length-read_pairs word bytes e in rw (ne_eqb (length bytes) bus (λ same. other (is ∙ ap (λ (n : ℕ). 2 * n) same))) refl

pub lanes_in-unread : (bus : ℕ) (word : List ℕ) → read_pairs word ≡ None → lanes_in bus word ≡ None
unfolding lanes_in
lanes_in-unread bus word e = rw e refl

-- the digits of one lane more
pairs_at : (word : List ℕ) (lane : ℕ) → 2 * lane + 1 < length word → drop (2 * lane) word ≡ get_or word (2 * lane) 0 ∷ get_or word (2 * lane + 1) 0 ∷ drop (2 * (lane + 1)) word
pairs_at word lane inside =
    let next : 2 * lane + 1 + 1 ≡ 2 * (lane + 1) = omega arith in
    drop_more word (2 * lane) 0 (omega arith)
    ∙ ap (λ (t : List ℕ). get_or word (2 * lane) 0 ∷ t) (drop_more word (2 * lane + 1) 0 inside)
    ∙ ap (λ (k : ℕ). get_or word (2 * lane) 0 ∷ get_or word (2 * lane + 1) 0 ∷ drop k word) next

pairs_read : (high low byte : ℕ) (rest front : List ℕ) → read_pair high low ≡ Some byte → option_map (λ bytes. front ++ bytes) (read_pairs (high ∷ low ∷ rest)) ≡ option_map (λ bytes. (front ++ byte ∷ []) ++ bytes) (read_pairs rest)
unfolding read_pairs
pairs_read high low byte rest front e = rw e (by (read_pairs rest))
  where
    by : (o : Option (List ℕ)) → option_map (λ bytes. front ++ bytes) (o >>= λ bytes. Some (byte ∷ bytes)) ≡ option_map (λ bytes. (front ++ byte ∷ []) ++ bytes) o
    by None = refl
    by (Some bytes) = ap (λ (t : List ℕ). Some t) (sym (append_assoc front (byte ∷ []) bytes))

pairs_unread : (high low : ℕ) (rest front : List ℕ) → read_pair high low ≡ None → option_map (λ bytes. front ++ bytes) (read_pairs (high ∷ low ∷ rest)) ≡ None
unfolding read_pairs
pairs_unread high low rest front e = rw e refl

-- the lanes that have been read, of which there are `lane`
pub record IsReading (word : List ℕ) (lane : ℕ) (lanes : List ℕ) : Type 0 where
  pub whole : length lanes ≡ 128
  pub above : drop lane lanes ≡ replicate (128 - lane) 0
  pub rest : read_pairs word ≡ option_map (λ bytes. take lane lanes ++ bytes) (read_pairs (drop (2 * lane) word))

pub IsReading-none : (word : List ℕ) → IsReading word 0 (replicate 128 0)
IsReading-none word = record { whole = refl; above = refl; rest = by (read_pairs word) }
  where
    by : (o : Option (List ℕ)) → o ≡ option_map (λ bytes. [] ++ bytes) o
    by None = refl
    by (Some bytes) = refl

abbrev zeros : ℕ → List ℕ
zeros n = replicate n 0

replicate_rest : (n : ℕ) → drop 1 (zeros n) ≡ zeros (n - 1)
replicate_rest zero = refl
replicate_rest (suc n) = ap zeros {x = n} {y = suc n - 1} (omega arith)

pub IsReading-more : (word : List ℕ) (lane : ℕ) (lanes : List ℕ) (byte : ℕ) → IsReading word lane lanes → lane < 128 → 2 * lane + 1 < length word → read_pair (get_or word (2 * lane) 0) (get_or word (2 * lane + 1) 0) ≡ Some byte → IsReading word (lane + 1) (set lanes lane byte)
IsReading-more word lane lanes byte h below inside e =
    let at : lane < length lanes = omega (arith, h.whole) in
    let fewer : 128 - lane - 1 ≡ 128 - (lane + 1) = omega arith in
    record {
      whole = rw length-set h.whole;
      above = drop-set-lt (lane + 1) lanes lane byte (omega arith) ∙ sym (drop-drop 1 lane lanes) ∙ ap (λ (t : List ℕ). drop 1 t) h.above ∙ replicate_rest (128 - lane) ∙ ap zeros fewer;
      rest = h.rest ∙ ap (λ (t : List ℕ). option_map (λ bytes. take lane lanes ++ bytes) (read_pairs t)) (pairs_at word lane inside) ∙ pairs_read (get_or word (2 * lane) 0) (get_or word (2 * lane + 1) 0) byte (drop (2 * (lane + 1)) word) (take lane lanes) e ∙ ap (λ (t : List ℕ). option_map (λ bytes. t ++ bytes) (read_pairs (drop (2 * (lane + 1)) word))) (sym (take_more_set lanes lane byte at));
    }

pub IsReading-fails : (word : List ℕ) (lane bus : ℕ) (lanes : List ℕ) → IsReading word lane lanes → 2 * lane + 1 < length word → read_pair (get_or word (2 * lane) 0) (get_or word (2 * lane + 1) 0) ≡ None → lanes_in bus word ≡ None
IsReading-fails word lane bus lanes h inside e =
    lanes_in-unread bus word (h.rest ∙ ap (λ (t : List ℕ). option_map (λ bytes. take lane lanes ++ bytes) (read_pairs t)) (pairs_at word lane inside) ∙ pairs_unread (get_or word (2 * lane) 0) (get_or word (2 * lane + 1) 0) (drop (2 * (lane + 1)) word) (take lane lanes) e)

pub IsReading-ends : (word : List ℕ) (bus : ℕ) (lanes : List ℕ) → IsReading word bus lanes → bus ≤ 128 → length word ≡ 2 * bus → lanes_in bus word ≡ Some lanes
unfolding lanes_in read_pairs
IsReading-ends word bus lanes h within long =
    let ended : drop (2 * bus) word ≡ [] = drop_all (2 * bus) word (omega arith) in
    let front : take bus lanes ++ [] ≡ take bus lanes = append-nil (take bus lanes) in
    let read : read_pairs word ≡ Some (take bus lanes) = h.rest ∙ ap (λ (t : List ℕ). option_map (λ bytes. take bus lanes ++ bytes) (read_pairs t)) ended ∙ ap (λ (t : List ℕ). Some t) front in
    let count : length (take bus lanes) ≡ bus = omega (arith, length-take bus lanes, h.whole) in
    let whole : take bus lanes ++ replicate (128 - bus) 0 ≡ lanes = ap (λ (t : List ℕ). take bus lanes ++ t) (sym h.above) ∙ take-append-drop bus lanes in
    rw (read, count, eq-eqb bus bus refl, whole) refl

pub bus_within : (bus : ℕ) → IsBusWidth bus → bus ≤ 128
bus_within bus h = grind (arith, nat_tests)
