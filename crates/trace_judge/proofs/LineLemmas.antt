-- One more line of a trace.
use Rattle.std.proofs.Common.{◌≡◌, ◌≢◌, ℕ, ◌+◌, ◌∷◌, [], ◌++◌, Bool, true, false, List, Option, Some, None, refl, ap, ◌∙◌, arith, length, max, eq-eqb}
use Rattle.std.proofs.Math.Bool.{and-false}
use Rattle.std.specs.Prelude.{if◌then◌else◌, ◌==◌, ◌&&◌}
use Rattle.std.specs.List.{find}
use Rattle.std.specs.Option.{option_map, unwrap_or}
use Rattle.std.proofs.lemmas.Bool.{ne_eqb}
use Rattle.axi_history.specs.declared.port.PortKind.{PortKind}
use Rattle.axi_history.specs.declared.port.PortRound.{PortRound}
use Rattle.axi_history.specs.PortRules.{or_else}
use Rattle.axi_history.proofs.HistoryLemmas.{else_none}
use Rattle.trace_judge.specs.Histories.{is_line_of, is_of_link, shown_in, quiet_round, first_line_with, line_number_at, greatest_round, link_count}

-- ---- the first line with a property, and its number

abbrev found : Bool → PortRound → Option PortRound
found b r = if b then Some r else None

found_more : (p : PortRound → Bool) (xs : List PortRound) (r : PortRound) → find p (xs ++ r ∷ []) ≡ or_else (find p xs) (found (p r) r)
found_more p [] r = refl
found_more p (x ∷ xs) r = go (p x) (found_more p xs r)
  where
    go : (b : Bool) → find p (xs ++ r ∷ []) ≡ or_else (find p xs) (found (p r) r) → (if b then Some x else find p (xs ++ r ∷ [])) ≡ or_else (if b then Some x else find p xs) (found (p r) r)
    go true e = refl
    go false e = e

abbrev pub numbered : Bool → ℕ → Option ℕ
numbered b n = if b then Some n else None

pub number_more : (p : PortRound → Bool) (xs : List PortRound) (r : PortRound) → first_line_with p (xs ++ r ∷ []) ≡ or_else (first_line_with p xs) (numbered (p r) (length xs + 1))
number_more p [] r = refl
number_more p (x ∷ xs) r = go (p x) (number_more p xs r)
  where
    up : (o : Option ℕ) (b : Bool) (n : ℕ) → option_map (λ m. m + 1) (or_else o (numbered b n)) ≡ or_else (option_map (λ m. m + 1) o) (numbered b (n + 1))
    up None true n = refl
    up None false n = refl
    up (Some m) b n = refl

    longer : length xs + 1 + 1 ≡ length (x ∷ xs) + 1
    longer = omega arith

    go : (b : Bool) → first_line_with p (xs ++ r ∷ []) ≡ or_else (first_line_with p xs) (numbered (p r) (length xs + 1)) →
        (if b then Some 1 else option_map (λ m. m + 1) (first_line_with p (xs ++ r ∷ []))) ≡ or_else (if b then Some 1 else option_map (λ m. m + 1) (first_line_with p xs)) (numbered (p r) (length (x ∷ xs) + 1))
    go true e = refl
    go false e = ap (option_map (λ m. m + 1)) e ∙ up (first_line_with p xs) (p r) (length xs + 1) ∙ ap (λ n. or_else (option_map (λ m. m + 1) (first_line_with p xs)) (numbered (p r) n)) longer

pub find_other : (p : PortRound → Bool) (xs : List PortRound) (r : PortRound) → p r ≡ false → find p (xs ++ r ∷ []) ≡ find p xs
find_other p xs r e = found_more p xs r ∙ ap (λ b. or_else (find p xs) (found b r)) e ∙ else_none (find p xs)

pub find_here : (p : PortRound → Bool) (xs : List PortRound) (r : PortRound) → p r ≡ true → find p xs ≡ None → find p (xs ++ r ∷ []) ≡ Some r
find_here p xs r e n = found_more p xs r ∙ ap (λ b. or_else (find p xs) (found b r)) e ∙ ap (λ (o : Option PortRound). or_else o (Some r)) n

pub find_stays : (p : PortRound → Bool) (xs : List PortRound) (r x : PortRound) → find p xs ≡ Some x → find p (xs ++ r ∷ []) ≡ Some x
find_stays p xs r x n = found_more p xs r ∙ ap (λ (o : Option PortRound). or_else o (found (p r) r)) n

pub number_other : (p : PortRound → Bool) (xs : List PortRound) (r : PortRound) → p r ≡ false → first_line_with p (xs ++ r ∷ []) ≡ first_line_with p xs
number_other p xs r e = number_more p xs r ∙ ap (λ b. or_else (first_line_with p xs) (numbered b (length xs + 1))) e ∙ else_none (first_line_with p xs)

pub number_here : (p : PortRound → Bool) (xs : List PortRound) (r : PortRound) → p r ≡ true → first_line_with p xs ≡ None → first_line_with p (xs ++ r ∷ []) ≡ Some (length xs + 1)
number_here p xs r e n = number_more p xs r ∙ ap (λ b. or_else (first_line_with p xs) (numbered b (length xs + 1))) e ∙ ap (λ (o : Option ℕ). or_else o (Some (length xs + 1))) n

pub number_none : (p : PortRound → Bool) (xs : List PortRound) → find p xs ≡ None → first_line_with p xs ≡ None
number_none p [] e = refl
number_none p (x ∷ xs) e = go (p x) (number_none p xs) e
  where
    go : (b : Bool) → (find p xs ≡ None → first_line_with p xs ≡ None) → (if b then Some x else find p xs) ≡ None → (if b then Some 1 else option_map (λ m. m + 1) (first_line_with p xs)) ≡ None
    go true h e = absurd cc
    go false h e = ap (option_map (λ m. m + 1)) (h e)

-- ---- the line of a round and a link

pub is_here : (r : PortRound) → is_line_of r.round r.link r ≡ true
is_here r = ap (λ b. b && (r.link == r.link)) (eq-eqb r.round r.round refl) ∙ eq-eqb r.link r.link refl

pub is_not_in : (r : PortRound) (round link : ℕ) → r.round ≢ round → is_line_of round link r ≡ false
is_not_in r round link ne = ap (λ b. b && (r.link == link)) (ne_eqb r.round round ne)

pub is_not_on : (r : PortRound) (round link : ℕ) → r.link ≢ link → is_line_of round link r ≡ false
is_not_on r round link ne = ap (λ b. (r.round == round) && b) (ne_eqb r.link link ne) ∙ and-false (r.round == round)

pub no_line : (xs : List PortRound) (round link : ℕ) → find (is_of_link link) xs ≡ None → find (is_line_of round link) xs ≡ None
no_line [] round link e = refl
no_line (x ∷ xs) round link e = go (x.round == round) (x.link == link) (no_line xs round link) e
  where
    go : (a b : Bool) → (find (is_of_link link) xs ≡ None → find (is_line_of round link) xs ≡ None) → (if b then Some x else find (is_of_link link) xs) ≡ None → (if a && b then Some x else find (is_line_of round link) xs) ≡ None
    go a true h e = absurd cc
    go true false h e = h e
    go false false h e = h e

-- ---- what a link shows

pub shown_other : (xs : List PortRound) (r : PortRound) (kind : PortKind) (link round : ℕ) → is_line_of round link r ≡ false → shown_in (xs ++ r ∷ []) kind link round ≡ shown_in xs kind link round
shown_other xs r kind link round e = ap (λ (o : Option PortRound). unwrap_or o (quiet_round kind link round)) (find_other (is_line_of round link) xs r e)

pub shown_here : (xs : List PortRound) (r : PortRound) (kind : PortKind) → find (is_line_of r.round r.link) xs ≡ None → shown_in (xs ++ r ∷ []) kind r.link r.round ≡ r
shown_here xs r kind e = ap (λ (o : Option PortRound). unwrap_or o (quiet_round kind r.link r.round)) (find_here (is_line_of r.round r.link) xs r (is_here r) e)

pub shown_none : (xs : List PortRound) (kind : PortKind) (link round : ℕ) → find (is_line_of round link) xs ≡ None → shown_in xs kind link round ≡ quiet_round kind link round
shown_none xs kind link round e = ap (λ (o : Option PortRound). unwrap_or o (quiet_round kind link round)) e

pub numbered_other : (xs : List PortRound) (r : PortRound) (link round : ℕ) → is_line_of round link r ≡ false → line_number_at (xs ++ r ∷ []) link round ≡ line_number_at xs link round
numbered_other xs r link round e = ap (λ (o : Option ℕ). unwrap_or o 0) (number_other (is_line_of round link) xs r e)

pub numbered_here : (xs : List PortRound) (r : PortRound) → find (is_line_of r.round r.link) xs ≡ None → line_number_at (xs ++ r ∷ []) r.link r.round ≡ length xs + 1
numbered_here xs r e = ap (λ (o : Option ℕ). unwrap_or o 0) (number_here (is_line_of r.round r.link) xs r (is_here r) (number_none (is_line_of r.round r.link) xs e))

pub numbered_none : (xs : List PortRound) (link round : ℕ) → find (is_line_of round link) xs ≡ None → line_number_at xs link round ≡ 0
numbered_none xs link round e = ap (λ (o : Option ℕ). unwrap_or o 0) (number_none (is_line_of round link) xs e)

-- ---- the greatest round, and the number of links

pub greatest_more : (xs : List PortRound) (r : PortRound) → greatest_round (xs ++ r ∷ []) ≡ max (greatest_round xs) r.round
greatest_more [] r = omega arith
greatest_more (x ∷ xs) r = let e : greatest_round (xs ++ r ∷ []) ≡ max (greatest_round xs) r.round = greatest_more xs r in omega arith

pub count_more : (xs : List PortRound) (r : PortRound) → link_count (xs ++ r ∷ []) ≡ max (link_count xs) (r.link + 1)
count_more [] r = omega arith
count_more (x ∷ xs) r = let e : link_count (xs ++ r ∷ []) ≡ max (link_count xs) (r.link + 1) = count_more xs r in omega arith
