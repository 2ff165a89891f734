-- Where all accesses have ID 0 and one beat, the answers of each ID are all answers.
use Rattle.std.proofs.Common.{◌≡◌, ℕ, ◌+◌, ◌-◌, ◌<◌, ◌==◌, ◌∷◌, [], ◌++◌, ◌&&◌, Bool, true, false, List, Option, Some, None, length, refl, sym, ap, ◌∙◌, arith, ltb, suc, zero, take}
use Rattle.std.specs.Prelude.{count_by, filter, map, sum}
use Rattle.std.specs.List.{list_all}
use Rattle.std.specs.Option.{ForSome, option_to_list}
use Rattle.std.proofs.lemmas.Bool.{and_parts, and_from, eqb-true}
use Rattle.std.proofs.lemmas.Bool.Decides.{nat_tests}
use Rattle.std.proofs.lemmas.List.{append-nil}
use Rattle.std.proofs.lemmas.List.Folds.{list_all-append}
use Rattle.std.proofs.lemmas.List.Sums.{length-filter, sum_by-cons}
use Rattle.axi_history.specs.declared.port.RawAddr.{RawAddr}
use Rattle.axi_history.specs.declared.port.RawB.{RawB}
use Rattle.axi_history.specs.declared.port.RawR.{RawR}
use Rattle.axi_history.specs.PortHistory.{ends_a_request}
use Rattle.axi_history.specs.PortRules.{request_of, is_not_exclusive, responses_of, writes_of, read_beats_of, reads_of}
use Rattle.burst_address.specs.Formulas.{size_of}
use Rattle.lite_rules.specs.LiteRules.{has_no_id, is_lite_access, is_lite_read_beat}

-- ---- lists of which all elements pass

module _ {X : Type 0} where
  pub all_taken : (p : X → Bool) (n : ℕ) (xs : List X) → list_all p xs ≡ true → list_all p (take n xs) ≡ true
  all_taken p zero xs e = refl
  all_taken p (suc n) [] e = refl
  all_taken p (suc n) (x ∷ xs) e =
      let both = and_parts (p x) (list_all p xs) e in
      and_from (p x) (list_all p (take n xs)) both.0 (all_taken p n xs both.1)

  pub all_pass : (p : X → Bool) (xs : List X) → list_all p xs ≡ true → filter p xs ≡ xs
  all_pass p [] e = refl
  all_pass p (x ∷ xs) e =
      let both = and_parts (p x) (list_all p xs) e in
      rw both.0 (ap (λ (ys : List X). x ∷ ys) (all_pass p xs both.1))

  pub all_counted : (p : X → Bool) (xs : List X) → list_all p xs ≡ true → count_by p xs ≡ length xs
  all_counted p xs e = sym (length-filter p xs) ∙ ap length (all_pass p xs e)

  pub all_weaker : (p q : X → Bool) → ((x : X) → p x ≡ true → q x ≡ true) → (xs : List X) → list_all p xs ≡ true → list_all q xs ≡ true
  all_weaker p q weaker [] e = refl
  all_weaker p q weaker (x ∷ xs) e =
      let both = and_parts (p x) (list_all p xs) e in
      and_from (q x) (list_all q xs) (weaker x both.0) (all_weaker p q weaker xs both.1)

  pub all_more : (p : X → Bool) (xs : List X) (o : Option X) → list_all p xs ≡ true → ForSome o (λ x. p x ≡ true) → list_all p (xs ++ option_to_list o) ≡ true
  all_more p xs None e more = ap (list_all p) (append-nil xs) ∙ e
  all_more p xs (Some x) e more = list_all-append p xs (x ∷ []) ∙ and_from (list_all p xs) (list_all p (x ∷ [])) e (and_from (p x) true (more x refl) refl)

-- ---- accesses and answers

pub access_parts : (bus : ℕ) (a : RawAddr) → is_lite_access bus a ≡ true → (has_no_id a.id ≡ true) × (a.len ≡ 0)
access_parts bus a e =
    let p4 = and_parts (has_no_id a.id && a.len == 0 && size_of (request_of a) == bus && a.burst == 1) (is_not_exclusive a) e in
    let p3 = and_parts (has_no_id a.id && a.len == 0 && size_of (request_of a) == bus) (a.burst == 1) p4.0 in
    let p2 = and_parts (has_no_id a.id && a.len == 0) (size_of (request_of a) == bus) p3.0 in
    let p1 = and_parts (has_no_id a.id) (a.len == 0) p2.0 in
    (p1.0, eqb-true a.len 0 p1.1)

pub writes_all : (bus : ℕ) (xs : List RawAddr) → list_all (is_lite_access bus) xs ≡ true → writes_of 0 xs ≡ xs
writes_all bus xs e = all_pass (λ (a : RawAddr). a.id == 0) xs (all_weaker (is_lite_access bus) (λ (a : RawAddr). a.id == 0) (λ a is. (access_parts bus a is).0) xs e)

pub responses_all : (xs : List RawB) → list_all (λ (b : RawB). has_no_id b.id) xs ≡ true → responses_of 0 xs ≡ xs
responses_all xs e = all_pass (λ (b : RawB). b.id == 0) xs e

pub read_beats_all : (xs : List RawR) → list_all is_lite_read_beat xs ≡ true → read_beats_of 0 xs ≡ xs
read_beats_all xs e = all_pass (λ (r : RawR). r.id == 0) xs (all_weaker is_lite_read_beat (λ (r : RawR). r.id == 0) (λ r is. (and_parts (has_no_id r.id) r.last is).0) xs e)

pub lasts_all : (xs : List RawR) → list_all is_lite_read_beat xs ≡ true → count_by (λ (r : RawR). r.last) xs ≡ length xs
lasts_all xs e = all_counted (λ (r : RawR). r.last) xs (all_weaker is_lite_read_beat (λ (r : RawR). r.last) (λ r is. (and_parts (has_no_id r.id) r.last is).1) xs e)

abbrev pub ones : List RawAddr → List ℕ
ones xs = map (λ (a : RawAddr). 1) xs

pub reads_all : (bus : ℕ) (xs : List RawAddr) → list_all (is_lite_access bus) xs ≡ true → reads_of 0 xs ≡ ones xs
reads_all bus [] e = refl
reads_all bus (a ∷ xs) e =
    let both = and_parts (is_lite_access bus a) (list_all (is_lite_access bus) xs) e in
    let parts = access_parts bus a both.0 in
    rw parts.0 (ap (λ (n : ℕ). (n + 1) ∷ reads_of 0 xs) parts.1 ∙ ap (λ (ns : List ℕ). 1 ∷ ns) (reads_all bus xs both.1))

pub ones_sum : (xs : List RawAddr) → sum (ones xs) ≡ length xs
ones_sum [] = refl
ones_sum (a ∷ xs) = let whole = sum_by-cons (λ (n : ℕ). n) 1 (ones xs) in let rest = ones_sum xs in let s : sum (1 ∷ ones xs) ≡ suc (length xs) = omega arith in s

pub ones_end : (xs : List RawAddr) (n : ℕ) → n < length xs → ends_a_request (ones xs) n ≡ true
ones_end [] n less = absurd (omega arith)
ones_end (a ∷ xs) zero less = refl
ones_end (a ∷ xs) (suc n) less =
    let beyond : ltb (suc n) 1 ≡ false = grind (arith, nat_tests) in
    let left : suc n - 1 ≡ n = omega arith in
    rw (beyond, left) (ones_end xs n (omega arith))
