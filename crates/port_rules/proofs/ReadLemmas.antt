-- Reads that are not answered in full, against the addresses and the beats that were transferred.
use Rattle.std.proofs.Common.{◌≡◌, ◌≢◌, ℕ, ◌+◌, ◌-◌, ◌<◌, ◌≤◌, ◌==◌, ◌∷◌, [], ◌++◌, ◌&&◌, Bool, true, false, List, Option, Some, None, length, refl, sym, ap, ◌∙◌, inl, inr, arith, subst, leb, ltb, suc, length-append}
use Rattle.std.proofs.lemmas.List.{append-nil}
use Rattle.std.specs.Prelude.{sum, count_by, is_some, unwrap_or, if◌then◌else◌}
use Rattle.std.specs.Bool.{beq}
use Rattle.std.proofs.lemmas.Bool.{cases_Bool, and_parts, false≢true, eqb-true, eq-eqb, ltb-true, lt-ltb}
use Rattle.std.proofs.lemmas.Bool.Decides.{nat_tests}
use Rattle.std.proofs.lemmas.List.Elements.{filter-append}
use Rattle.std.proofs.lemmas.List.Sums.{sum_by-cons, sum_by-append}
use Rattle.axi_history.specs.declared.port.RawAddr.{RawAddr}
use Rattle.axi_history.specs.declared.port.RawR.{RawR}
use Rattle.axi_history.specs.PortHistory.{ends_a_request}
use Rattle.axi_history.specs.PortRules.{reads_of, read_beats_of, is_not_exokay, least_broken}
use Rattle.port_rules.specs.declared.reads.Read.{Read}
use Rattle.port_rules.specs.OpenReads.{beats_lacking, with_beat_of, read_fault, new_read}
use Rattle.port_rules.specs.ReadsHeld.{remaining, lefts, ReadsHeld}

-- ---- numbers of beats

abbrev is_positive : List ℕ → Bool
is_positive [] = true
is_positive (beats ∷ more) = ltb 0 beats && is_positive more

abbrev first_of : List ℕ → Option ℕ
first_of [] = None
first_of (x ∷ more) = Some x

-- one beat less of the first
abbrev counted : List ℕ → List ℕ
counted [] = []
counted (left ∷ more) = if leb left 1 then more else (left - 1) ∷ more

sum_cons : (x : ℕ) (more : List ℕ) → sum (x ∷ more) ≡ x + sum more
sum_cons x more = sum_by-cons (λ (y : ℕ). y) x more

-- something is left exactly where fewer beats came than were asked for
left_where : (asked : List ℕ) (n : ℕ) → ltb n (sum asked) ≡ is_some (first_of (remaining asked n))
left_where [] n = grind (arith, nat_tests)
left_where (beats ∷ more) n =
    elim (cases_Bool (ltb n beats)) [
      | inl e ↦ rw e (let whole = sum_cons beats more in let s : ltb n (sum (beats ∷ more)) ≡ true = grind (arith, nat_tests) in s)
      | inr e ↦ rw e ((let whole = sum_cons beats more in let s : ltb n (sum (beats ∷ more)) ≡ ltb (n - beats) (sum more) = grind (arith, nat_tests) in s) ∙ left_where more (n - beats))
    ]

-- the next beat is the last of its request exactly where one is left
last_where : (asked : List ℕ) (n : ℕ) → ltb n (sum asked) ≡ true → (unwrap_or (first_of (remaining asked n)) 0 == 1) ≡ ends_a_request asked n
last_where [] n less = let l = ltb-true n 0 less in absurd (omega arith)
last_where (beats ∷ more) n less =
    elim (cases_Bool (ltb n beats)) [
      | inl e ↦ rw e (let s : (beats - n == 1) ≡ (n + 1 == beats) = grind (arith, nat_tests) in s)
      | inr e ↦ rw e (last_where more (n - beats) (let whole = sum_cons beats more in let s : ltb (n - beats) (sum more) ≡ true = grind (arith, nat_tests) in s))
    ]

none_answered : (asked : List ℕ) → is_positive asked ≡ true → remaining asked 0 ≡ asked
none_answered [] some = refl
none_answered (beats ∷ more) some =
    rw (and_parts (ltb 0 beats) (is_positive more) some).0 (ap (λ (b : ℕ). b ∷ more) (let s : beats - 0 ≡ beats = omega arith in s))

one_less : (asked : List ℕ) (n : ℕ) → is_positive asked ≡ true → ltb n (sum asked) ≡ true → remaining asked (n + 1) ≡ counted (remaining asked n)
one_less [] n some less = refl
one_less (beats ∷ more) n some less =
    let positive = (and_parts (ltb 0 beats) (is_positive more) some).1 in
    elim (cases_Bool (ltb (n + 1) beats)) [
      | inl e ↦
          let before : ltb n beats ≡ true = grind (arith, nat_tests) in
          let many : leb (beats - n) 1 ≡ false = grind (arith, nat_tests) in
          rw (e, before, many) (ap (λ (b : ℕ). b ∷ more) (let s : beats - (n + 1) ≡ beats - n - 1 = omega arith in s))
      | inr e ↦ elim (cases_Bool (ltb n beats)) [
        | inl f ↦
            let one : leb (beats - n) 1 ≡ true = grind (arith, nat_tests) in
            let over : n + 1 - beats ≡ 0 = grind (arith, nat_tests) in
            rw (e, f, one, over) (none_answered more positive)
        | inr f ↦
            let next : n + 1 - beats ≡ n - beats + 1 = grind (arith, nat_tests) in
            rw (e, f, next) (one_less more (n - beats) positive (let whole = sum_cons beats more in let s : ltb (n - beats) (sum more) ≡ true = grind (arith, nat_tests) in s))
      ]
    ]

one_more : (asked : List ℕ) (n beats : ℕ) → 0 < beats → n ≤ sum asked → remaining (asked ++ beats ∷ []) n ≡ remaining asked n ++ beats ∷ []
one_more [] n beats some within =
    let none : n ≡ 0 = omega arith in
    rw (none, lt-ltb 0 beats some) (ap (λ (b : ℕ). b ∷ []) (let s : beats - 0 ≡ beats = omega arith in s))
one_more (first ∷ more) n beats some within =
    elim (cases_Bool (ltb n first)) [
      | inl e ↦ rw e refl
      | inr e ↦ rw e (one_more more (n - first) beats some (let whole = sum_cons first more in let s : n - first ≤ sum more = omega arith in s))
    ]

-- ---- the reads of an ID

first_left : (id : ℕ) (reads : List Read) → beats_lacking id reads ≡ first_of (lefts id reads)
first_left id [] = refl
first_left id (read ∷ more) =
    elim (cases_Bool (read.id == id)) [
      | inl e ↦ rw e refl
      | inr e ↦ rw e (first_left id more)
    ]

lefts_one : (id : ℕ) (reads : List Read) → lefts id (with_beat_of id reads) ≡ counted (lefts id reads)
lefts_one id [] = refl
lefts_one id (read ∷ more) =
    elim (cases_Bool (read.id == id)) [
      | inl e ↦ elim (cases_Bool (leb read.left 1)) [
        | inl f ↦ rw (e, f) refl
        | inr f ↦ rw (e, f, eq-eqb id id refl) refl
      ]
      | inr e ↦ rw (e, e) (lefts_one id more)
    ]

pub lefts_other : (id other : ℕ) (reads : List Read) → id ≢ other → lefts other (with_beat_of id reads) ≡ lefts other reads
lefts_other id other [] differ = refl
lefts_other id other (read ∷ more) differ =
    elim (cases_Bool (read.id == id)) [
      | inl e ↦
          let mine : read.id ≡ id = eqb-true read.id id e in
          let not_other : (read.id == other) ≡ false = grind (arith, nat_tests) in
          let not_id : (id == other) ≡ false = grind (arith, nat_tests) in
          elim (cases_Bool (leb read.left 1)) [
            | inl f ↦ rw (e, f, not_other) refl
            | inr f ↦ rw (e, f, not_other, not_id) refl
          ]
      | inr e ↦ elim (cases_Bool (read.id == other)) [
        | inl f ↦ rw (e, f) (ap (λ (more' : List ℕ). read.left ∷ more') (lefts_other id other more differ))
        | inr f ↦ rw (e, f) (lefts_other id other more differ)
      ]
    ]

-- ---- what is kept, and what it stands for

positive_reads : (id : ℕ) (addresses : List RawAddr) → is_positive (reads_of id addresses) ≡ true
positive_reads id [] = refl
positive_reads id (a ∷ more) =
    elim (cases_Bool (a.id == id)) [
      | inl e ↦ rw (e, lt-ltb 0 (a.len + 1) (omega arith)) (positive_reads id more)
      | inr e ↦ rw e (positive_reads id more)
    ]

three : (x y z z' : Bool) → (y ≡ true → z ≡ z') → least_broken ((8, x) ∷ (11, y) ∷ (12, z) ∷ []) ≡ least_broken ((8, x) ∷ (11, y) ∷ (12, z') ∷ [])
three false y z z' same = refl
three true false z z' same = refl
three true true z z' same = ap (λ (b : Bool). least_broken ((12, b) ∷ [])) (same refl)

-- the rules of a read beat, as they are judged by what is kept
pub judges_read : (reads : List Read) (addresses : List RawAddr) (beats : List RawR) (r : RawR) → ReadsHeld reads addresses beats →
    read_fault reads r
    ≡ least_broken ((8, is_not_exokay r.resp) ∷ (11, ltb (length (read_beats_of r.id beats)) (sum (reads_of r.id addresses))) ∷ (12, beq r.last (ends_a_request (reads_of r.id addresses) (length (read_beats_of r.id beats)))) ∷ [])
judges_read reads addresses beats r held =
    let asked = reads_of r.id addresses in
    let n = length (read_beats_of r.id beats) in
    let left : beats_lacking r.id reads ≡ first_of (remaining asked n) = first_left r.id reads ∙ ap first_of (held.each r.id) in
    let eleven : ltb n (sum asked) ≡ is_some (beats_lacking r.id reads) = left_where asked n ∙ ap (λ (o : Option ℕ). is_some o) (sym left) in
    ap (λ (b : Bool). least_broken ((8, is_not_exokay r.resp) ∷ (11, b) ∷ (12, beq r.last (unwrap_or (beats_lacking r.id reads) 0 == 1)) ∷ [])) (sym eleven)
    ∙ three (is_not_exokay r.resp) (ltb n (sum asked)) (beq r.last (unwrap_or (beats_lacking r.id reads) 0 == 1)) (beq r.last (ends_a_request asked n))
    (λ less. ap (λ (o : Option ℕ). beq r.last (unwrap_or o 0 == 1)) left ∙ ap (λ (b : Bool). beq r.last b) (last_where asked n less))

beats_more : (id : ℕ) (beats : List RawR) (r : RawR) → read_beats_of id (beats ++ r ∷ []) ≡ read_beats_of id beats ++ (if r.id == id then r ∷ [] else [])
beats_more id beats r = filter-append (λ (b : RawR). b.id == id) beats (r ∷ [])

one_counted : (id : ℕ) (beats : List RawR) (r : RawR) → (r.id == id) ≡ true → length (read_beats_of id (beats ++ r ∷ [])) ≡ length (read_beats_of id beats) + 1
one_counted id beats r e = ap length (beats_more id beats r) ∙ rw e (length-append (read_beats_of id beats) (r ∷ []))

none_counted : (id : ℕ) (beats : List RawR) (r : RawR) → (r.id == id) ≡ false → length (read_beats_of id (beats ++ r ∷ [])) ≡ length (read_beats_of id beats)
none_counted id beats r e = ap length (beats_more id beats r) ∙ rw e (ap length (append-nil (read_beats_of id beats)))

-- a read is removed exactly with the last beat of its request
removed_where : (asked : List ℕ) (n : ℕ) → ltb n (sum asked) ≡ true → leb (unwrap_or (first_of (remaining asked n)) 0) 1 ≡ ends_a_request asked n
removed_where [] n less = let l = ltb-true n 0 less in absurd (omega arith)
removed_where (beats ∷ more) n less =
    elim (cases_Bool (ltb n beats)) [
      | inl e ↦ rw e (let s : leb (beats - n) 1 ≡ (n + 1 == beats) = grind (arith, nat_tests) in s)
      | inr e ↦ rw e (removed_where more (n - beats) (let whole = sum_cons beats more in let s : ltb (n - beats) (sum more) ≡ true = grind (arith, nat_tests) in s))
    ]

length_one : (id : ℕ) (reads : List Read) → is_some (beats_lacking id reads) ≡ true → length (with_beat_of id reads) + (if leb (unwrap_or (beats_lacking id reads) 0) 1 then 1 else 0) ≡ length reads
length_one id [] some = absurd (false≢true some)
length_one id (read ∷ more) some =
    elim (cases_Bool (read.id == id)) [
      | inl e ↦ elim (cases_Bool (leb read.left 1)) [
        | inl f ↦ rw (e, f) (let s : length more + 1 ≡ suc (length more) = omega arith in s)
        | inr f ↦ rw (e, f) (let s : suc (length more) + 0 ≡ suc (length more) = omega arith in s)
      ]
      | inr e ↦
          let rest : is_some (beats_lacking id more) ≡ true = rw e at some in
          rw e (let s = length_one id more rest in let t : suc (length (with_beat_of id more)) + (if leb (unwrap_or (beats_lacking id more) 0) 1 then 1 else 0) ≡ suc (length more) = omega arith in t)
    ]

lasts_more : (beats : List RawR) (r : RawR) → count_by (λ (beat : RawR). beat.last) (beats ++ r ∷ []) ≡ count_by (λ (beat : RawR). beat.last) beats + (0 + (if r.last then 1 else 0))
lasts_more beats r = sum_by-append (λ (beat : RawR). if beat.last then 1 else 0) beats (r ∷ [])

-- one read less is kept exactly with a last beat
one_answered : (reads : List Read) (addresses : List RawAddr) (beats : List RawR) (r : RawR) → ReadsHeld reads addresses beats → ltb (length (read_beats_of r.id beats)) (sum (reads_of r.id addresses)) ≡ true →
    r.last ≡ ends_a_request (reads_of r.id addresses) (length (read_beats_of r.id beats)) → length (with_beat_of r.id reads) + (if r.last then 1 else 0) ≡ length reads
one_answered reads addresses beats r held less last =
    let asked = reads_of r.id addresses in
    let n = length (read_beats_of r.id beats) in
    let left : beats_lacking r.id reads ≡ first_of (remaining asked n) = first_left r.id reads ∙ ap first_of (held.each r.id) in
    let some : is_some (beats_lacking r.id reads) ≡ true = ap (λ (o : Option ℕ). is_some o) left ∙ sym (left_where asked n) ∙ less in
    let ends : leb (unwrap_or (beats_lacking r.id reads) 0) 1 ≡ r.last = ap (λ (o : Option ℕ). leb (unwrap_or o 0) 1) left ∙ removed_where asked n less ∙ sym last in
    ap (λ (b : Bool). length (with_beat_of r.id reads) + (if b then 1 else 0)) (sym ends) ∙ length_one r.id reads some

pub read_kept : (reads : List Read) (addresses : List RawAddr) (beats : List RawR) (r : RawR) → ReadsHeld reads addresses beats → ltb (length (read_beats_of r.id beats)) (sum (reads_of r.id addresses)) ≡ true →
    r.last ≡ ends_a_request (reads_of r.id addresses) (length (read_beats_of r.id beats)) → ReadsHeld (with_beat_of r.id reads) addresses (beats ++ r ∷ [])
read_kept reads addresses beats r held less last = record {
  each = λ id. elim (cases_Bool (r.id == id)) [
    | inl e ↦
        let mine : r.id ≡ id = eqb-true r.id id e in
        subst (λ (i : ℕ). lefts i (with_beat_of r.id reads) ≡ remaining (reads_of i addresses) (length (read_beats_of i (beats ++ r ∷ [])))) mine
        (lefts_one r.id reads ∙ ap counted (held.each r.id)
        ∙ sym (one_less (reads_of r.id addresses) (length (read_beats_of r.id beats)) (positive_reads r.id addresses) less)
        ∙ ap (λ (n : ℕ). remaining (reads_of r.id addresses) n) (sym (one_counted r.id beats r (eq-eqb r.id r.id refl))))
    | inr e ↦
        lefts_other r.id id reads (λ same. false≢true (sym e ∙ eq-eqb r.id id same)) ∙ held.each id
        ∙ ap (λ (n : ℕ). remaining (reads_of id addresses) n) (sym (none_counted id beats r e))
  ];
  within = λ id. elim (cases_Bool (r.id == id)) [
    | inl e ↦
        let mine : r.id ≡ id = eqb-true r.id id e in
        subst (λ (i : ℕ). length (read_beats_of i (beats ++ r ∷ [])) ≤ sum (reads_of i addresses)) mine
        (let one = one_counted r.id beats r (eq-eqb r.id r.id refl) in let l = ltb-true _ _ less in omega arith)
    | inr e ↦ let none = none_counted id beats r e in let w = held.within id in omega arith
  ];
  all = let one = one_answered reads addresses beats r held less last in let more = lasts_more beats r in let h = held.all in omega arith;
}

reads_more : (id : ℕ) (addresses : List RawAddr) (a : RawAddr) (b : Bool) → (a.id == id) ≡ b → reads_of id (addresses ++ a ∷ []) ≡ reads_of id addresses ++ (if b then (a.len + 1) ∷ [] else [])
reads_more id [] a true e = rw e refl
reads_more id [] a false e = rw e refl
reads_more id (first ∷ more) a b e =
    elim (cases_Bool (first.id == id)) [
      | inl f ↦ rw f (ap (λ (rest : List ℕ). (first.len + 1) ∷ rest) (reads_more id more a b e))
      | inr f ↦ rw f (reads_more id more a b e)
    ]

lefts_more : (id : ℕ) (reads : List Read) (p : Read) (b : Bool) → (p.id == id) ≡ b → lefts id (reads ++ p ∷ []) ≡ lefts id reads ++ (if b then p.left ∷ [] else [])
lefts_more id [] p true e = rw e refl
lefts_more id [] p false e = rw e refl
lefts_more id (first ∷ more) p b e =
    elim (cases_Bool (first.id == id)) [
      | inl f ↦ rw f (ap (λ (rest : List ℕ). first.left ∷ rest) (lefts_more id more p b e))
      | inr f ↦ rw f (lefts_more id more p b e)
    ]

pub address_kept : (reads : List Read) (addresses : List RawAddr) (beats : List RawR) (a : RawAddr) → ReadsHeld reads addresses beats → ReadsHeld (reads ++ new_read a ∷ []) (addresses ++ a ∷ []) beats
address_kept reads addresses beats a held = record {
  each = λ id. elim (cases_Bool (a.id == id)) [
    | inl e ↦
        lefts_more id reads (new_read a) true e ∙ ap (λ (xs : List ℕ). xs ++ (a.len + 1) ∷ []) (held.each id)
        ∙ sym (one_more (reads_of id addresses) (length (read_beats_of id beats)) (a.len + 1) (omega arith) (held.within id))
        ∙ ap (λ (xs : List ℕ). remaining xs (length (read_beats_of id beats))) (sym (reads_more id addresses a true e))
    | inr e ↦
        lefts_more id reads (new_read a) false e ∙ append-nil (lefts id reads) ∙ held.each id
        ∙ ap (λ (xs : List ℕ). remaining xs (length (read_beats_of id beats))) (sym (reads_more id addresses a false e ∙ append-nil (reads_of id addresses)))
  ];
  within = λ id. elim (cases_Bool (a.id == id)) [
    | inl e ↦
        let s = ap sum (reads_more id addresses a true e) in let t = sum_by-append (λ (x : ℕ). x) (reads_of id addresses) ((a.len + 1) ∷ []) in let w = held.within id in
        let u : sum (reads_of id addresses) ≤ sum (reads_of id (addresses ++ a ∷ [])) = subst (λ (n : ℕ). sum (reads_of id addresses) ≤ n) (sym (s ∙ t)) (omega arith) in
        omega arith
    | inr e ↦ let s : sum (reads_of id (addresses ++ a ∷ [])) ≡ sum (reads_of id addresses) = ap sum (reads_more id addresses a false e ∙ append-nil (reads_of id addresses)) in let w = held.within id in omega arith
  ];
  all = let reads' = length-append reads (new_read a ∷ []) in let addresses' = length-append addresses (a ∷ []) in let h = held.all in omega arith;
}

pub reads_start : ReadsHeld [] [] []
reads_start = record { each = λ id. refl; within = λ id. omega arith; all = refl }
