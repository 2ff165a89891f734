-- Writes that have no response, against the addresses, the last W beats and the responses that were transferred.
use Rattle.std.proofs.Common.{◌≡◌, ◌≢◌, ℕ, ◌+◌, ◌-◌, ◌<◌, ◌≤◌, ◌==◌, ◌∷◌, [], ◌++◌, Bool, true, false, List, Option, length, zero, suc, refl, sym, ap, add-one, ◌∙◌, inl, inr, arith, subst, ltb, length-append}
use Rattle.std.specs.Prelude.{map, filter, take, drop, position, is_some}
use Rattle.std.specs.List.{position_from}
use Rattle.std.proofs.lemmas.List.{map-append, length-drop, take-append-drop}
use Rattle.std.proofs.lemmas.Bool.{cases_Bool, false≢true, eqb-true, eq-eqb, ltb-true, lt-ltb}
use Rattle.std.proofs.lemmas.Bool.Decides.{nat_tests}
use Rattle.std.proofs.lemmas.List.Elements.{filter-append}
use Rattle.std.proofs.lemmas.Iterator.Adapters.{position_from-zero}
use Rattle.axi_history.specs.declared.port.RawAddr.{RawAddr}
use Rattle.axi_history.specs.declared.port.RawB.{RawB}
use Rattle.axi_history.specs.PortRules.{writes_of, responses_of, is_not_exokay, least_broken}
use Rattle.port_rules.specs.OpenWrites.{OpenWrites, without_first, response_fault, with_issue, with_last}
use Rattle.port_rules.specs.WritesHeld.{times, WritesHeld}

-- ---- lists

module _ {X : Type 0} where
  drop_one : (f : X → ℕ) (xs : List X) (k : ℕ) → drop 1 (map f (drop k xs)) ≡ map f (drop (suc k) xs)
  drop_one f [] zero = refl
  drop_one f [] (suc k) = refl
  drop_one f (x ∷ xs) zero = refl
  drop_one f (x ∷ xs) (suc k) = drop_one f xs k

  take_one : (xs : List X) (k : ℕ) → take (suc k) xs ≡ take k xs ++ take 1 (drop k xs)
  take_one [] zero = refl
  take_one [] (suc k) = refl
  take_one (x ∷ xs) zero = refl
  take_one (x ∷ xs) (suc k) = ap (λ (ys : List X). x ∷ ys) (take_one xs k)

  drop_within : (xs : List X) (k : ℕ) (x : X) → k ≤ length xs → drop k (xs ++ x ∷ []) ≡ drop k xs ++ x ∷ []
  drop_within xs zero x le = refl
  drop_within [] (suc k) x le = absurd (omega arith)
  drop_within (y ∷ xs) (suc k) x le = drop_within xs k x (omega arith)

  drop_nothing : (k : ℕ) → (none : List X) → none ≡ [] → drop k none ≡ []
  drop_nothing zero none e = e
  drop_nothing (suc k) [] e = refl
  drop_nothing (suc k) (x ∷ xs) e = absurd cc

  drop_beyond : (xs : List X) (k : ℕ) → length xs ≤ k → drop k xs ≡ []
  drop_beyond [] k le = drop_nothing k [] refl
  drop_beyond (x ∷ xs) zero le = absurd (omega arith)
  drop_beyond (x ∷ xs) (suc k) le = drop_beyond xs k (omega arith)

  take_within : (xs : List X) (k : ℕ) (x : X) → k ≤ length xs → take k (xs ++ x ∷ []) ≡ take k xs
  take_within xs zero x le = refl
  take_within [] (suc k) x le = absurd (omega arith)
  take_within (y ∷ xs) (suc k) x le = ap (λ (ys : List X). y ∷ ys) (take_within xs k x (omega arith))

  take_nothing : (k : ℕ) → (none : List X) → none ≡ [] → take k none ≡ []
  take_nothing zero none e = refl
  take_nothing (suc k) [] e = refl
  take_nothing (suc k) (x ∷ xs) e = absurd cc

  take_beyond : (xs : List X) (k : ℕ) (x : X) → length xs < k → take k (xs ++ x ∷ []) ≡ take k xs ++ x ∷ []
  take_beyond xs zero x lt = absurd (omega arith)
  take_beyond [] (suc k) x lt = ap (λ (ys : List X). x ∷ ys) (take_nothing k [] refl)
  take_beyond (y ∷ xs) (suc k) x lt = ap (λ (ys : List X). y ∷ ys) (take_beyond xs k x (omega arith))

-- ---- how often an ID stands in a list

times_more : (id : ℕ) (xs ys : List ℕ) → times id (xs ++ ys) ≡ times id xs + times id ys
times_more id xs ys = ap length (filter-append (λ (other : ℕ). other == id) xs ys) ∙ length-append (filter (λ (other : ℕ). other == id) xs) (filter (λ (other : ℕ). other == id) ys)

writes_more : (id : ℕ) (xs ys : List RawAddr) → length (writes_of id (xs ++ ys)) ≡ length (writes_of id xs) + length (writes_of id ys)
writes_more id xs ys = ap length (filter-append (λ (a : RawAddr). a.id == id) xs ys) ∙ length-append (writes_of id xs) (writes_of id ys)

responses_more : (id : ℕ) (xs ys : List RawB) → length (responses_of id (xs ++ ys)) ≡ length (responses_of id xs) + length (responses_of id ys)
responses_more id xs ys = ap length (filter-append (λ (b : RawB). b.id == id) xs ys) ∙ length-append (responses_of id xs) (responses_of id ys)

times_first : (id : ℕ) (xs : List RawAddr) → times id (take 1 (map (λ (a : RawAddr). a.id) xs)) ≡ length (writes_of id (take 1 xs))
times_first id [] = refl
times_first id (a ∷ more) =
    elim (cases_Bool (a.id == id)) [
      | inl e ↦ rw e refl
      | inr e ↦ rw e refl
    ]

times_address : (id : ℕ) (a : RawAddr) → times id (a.id ∷ []) ≡ length (writes_of id (a ∷ []))
times_address id a =
    elim (cases_Bool (a.id == id)) [
      | inl e ↦ rw e refl
      | inr e ↦ rw e refl
    ]

times_without : (id : ℕ) (xs : List ℕ) → 0 < times id xs → times id (without_first id xs) + 1 ≡ times id xs
times_without id [] some = absurd (omega arith)
times_without id (x ∷ xs) some =
    elim (cases_Bool (x == id)) [
      | inl e ↦ rw e (add-one (times id xs))
      | inr e ↦ let rest : 0 < times id xs = rw e at some in rw (e, e) (times_without id xs rest)
    ]

times_other : (id other : ℕ) (xs : List ℕ) → id ≢ other → times other (without_first id xs) ≡ times other xs
times_other id other [] differ = refl
times_other id other (x ∷ xs) differ =
    elim (cases_Bool (x == id)) [
      | inl e ↦
          let mine : x ≡ id = eqb-true x id e in
          let not_other : (x == other) ≡ false = grind (arith, nat_tests) in
          rw (e, not_other) refl
      | inr e ↦ elim (cases_Bool (x == other)) [
        | inl f ↦ rw (e, f) (ap suc (times_other id other xs differ))
        | inr f ↦ rw (e, f) (times_other id other xs differ)
      ]
    ]

length_without : (id : ℕ) (xs : List ℕ) → 0 < times id xs → length (without_first id xs) + 1 ≡ length xs
length_without id [] some = absurd (omega arith)
length_without id (x ∷ xs) some =
    elim (cases_Bool (x == id)) [
      | inl e ↦ rw e (add-one (length xs))
      | inr e ↦ let rest : 0 < times id xs = rw e at some in rw e (let s = length_without id xs rest in let t : suc (length (without_first id xs)) + 1 ≡ suc (length xs) = omega arith in t)
    ]

found_from : (id : ℕ) (xs : List ℕ) (i : ℕ) → is_some (position_from (λ other. other == id) i xs) ≡ ltb 0 (times id xs)
found_from id [] i = refl
found_from id (x ∷ xs) i =
    elim (cases_Bool (x == id)) [
      | inl e ↦ rw e (sym (lt-ltb 0 (suc (times id xs)) (omega arith)))
      | inr e ↦ rw e (found_from id xs (i + 1))
    ]

found : (id : ℕ) (xs : List ℕ) → is_some (position (λ other. other == id) xs) ≡ ltb 0 (times id xs)
found id xs = ap (λ (o : Option ℕ). is_some o) (position_from-zero (λ (other : ℕ). other == id) xs) ∙ found_from id xs 0

-- ---- what is kept, and what it stands for

pub writes_start : WritesHeld (record { issued = []; surplus = 0; whole = [] }) [] 0 []
writes_start = record { issued = refl; surplus = refl; each = λ id. refl; all = refl }

-- the rules of a response, as they are judged by what is kept
pub judges_response : (o : OpenWrites) (addresses : List RawAddr) (lasts : ℕ) (responses : List RawB) (b : RawB) → WritesHeld o addresses lasts responses →
    response_fault o.whole b
    ≡ least_broken ((8, is_not_exokay b.resp) ∷ (11, ltb (length (responses_of b.id responses)) (length (writes_of b.id (take lasts addresses)))) ∷ [])
judges_response o addresses lasts responses b held =
    let e = held.each b.id in
    let less : ltb 0 (times b.id o.whole) ≡ ltb (length (responses_of b.id responses)) (length (writes_of b.id (take lasts addresses))) = grind (arith, nat_tests) in
    ap (λ (x : Bool). least_broken ((8, is_not_exokay b.resp) ∷ (11, x) ∷ [])) (found b.id o.whole ∙ less)

abbrev id_of : RawAddr → ℕ
id_of a = a.id

ids_length : (xs : List RawAddr) → length (map id_of xs) ≡ length xs
ids_length [] = refl
ids_length (a ∷ more) = ap suc (ids_length more)

first_length : (xs : List RawAddr) → length (take 1 (map id_of xs)) ≡ length (take 1 xs)
first_length [] = refl
first_length (a ∷ more) = refl

pub last_kept : (o : OpenWrites) (addresses : List RawAddr) (lasts : ℕ) (responses : List RawB) → WritesHeld o addresses lasts responses → WritesHeld (with_last o) addresses (lasts + 1) responses
last_kept o addresses lasts responses held =
    let issued : length o.issued ≡ length addresses - lasts = ap length held.issued ∙ ids_length (drop lasts addresses) ∙ length-drop lasts addresses in
    let s = held.surplus in
    record {
      issued = ap (λ (xs : List ℕ). drop 1 xs) held.issued ∙ drop_one id_of addresses lasts ∙ ap (λ (n : ℕ). map id_of (drop n addresses)) (sym (add-one lasts));
      surplus = elim (cases_Bool (length o.issued == 0)) [
        | inl e ↦ let none : length o.issued ≡ 0 = eqb-true (length o.issued) 0 e in rw e (omega arith)
        | inr e ↦ let some : 0 < length o.issued = grind (arith, nat_tests) in rw e (omega arith)
      ];
      each = λ id.
          let t = times_more id o.whole (take 1 o.issued) in
          let i : times id (take 1 o.issued) ≡ length (writes_of id (take 1 (drop lasts addresses))) = ap (λ (xs : List ℕ). times id (take 1 xs)) held.issued ∙ times_first id (drop lasts addresses) in
          let w : length (writes_of id (take (lasts + 1) addresses)) ≡ length (writes_of id (take lasts addresses)) + length (writes_of id (take 1 (drop lasts addresses))) =
          ap (λ (n : ℕ). length (writes_of id (take n addresses))) (add-one lasts) ∙ ap (λ (xs : List RawAddr). length (writes_of id xs)) (take_one addresses lasts) ∙ writes_more id (take lasts addresses) (take 1 (drop lasts addresses)) in
          let e = held.each id in
          omega arith;
      all =
          let t = length-append o.whole (take 1 o.issued) in
          let i : length (take 1 o.issued) ≡ length (take 1 (drop lasts addresses)) = ap (λ (xs : List ℕ). length (take 1 xs)) held.issued ∙ first_length (drop lasts addresses) in
          let w : length (take (lasts + 1) addresses) ≡ length (take lasts addresses) + length (take 1 (drop lasts addresses)) =
          ap (λ (n : ℕ). length (take n addresses)) (add-one lasts) ∙ ap (λ (xs : List RawAddr). length xs) (take_one addresses lasts) ∙ length-append (take lasts addresses) (take 1 (drop lasts addresses)) in
          let e = held.all in
          omega arith;
    }

surplus_kept : (o : OpenWrites) (addresses : List RawAddr) (lasts : ℕ) (responses : List RawB) (a : RawAddr) → WritesHeld o addresses lasts responses → ltb 0 o.surplus ≡ true → WritesHeld (with_issue a.id o) (addresses ++ a ∷ []) lasts responses
surplus_kept o addresses lasts responses a held e =
    let s = held.surplus in
    let some : 0 < o.surplus = ltb-true 0 o.surplus e in
    let longer : length (addresses ++ a ∷ []) ≡ length addresses + 1 = length-append addresses (a ∷ []) in
    let beyond : length addresses < lasts = omega arith in
    let took : take lasts (addresses ++ a ∷ []) ≡ take lasts addresses ++ a ∷ [] = take_beyond addresses lasts a beyond in
    record {
      issued = rw e (held.issued ∙ ap (λ (xs : List RawAddr). map id_of xs) (drop_beyond addresses lasts (omega arith) ∙ sym (drop_beyond (addresses ++ a ∷ []) lasts (omega arith))));
      surplus = omega arith;
      each = λ id.
          let t = times_more id o.whole (a.id ∷ []) in
          let i = times_address id a in
          let w : length (writes_of id (take lasts (addresses ++ a ∷ []))) ≡ length (writes_of id (take lasts addresses)) + length (writes_of id (a ∷ [])) = ap (λ (xs : List RawAddr). length (writes_of id xs)) took ∙ writes_more id (take lasts addresses) (a ∷ []) in
          let h = held.each id in
          rw e (let goal : times id (o.whole ++ a.id ∷ []) + length (responses_of id responses) ≡ length (writes_of id (take lasts (addresses ++ a ∷ []))) = omega arith in goal);
      all =
          let t = length-append o.whole (a.id ∷ []) in
          let w : length (take lasts (addresses ++ a ∷ [])) ≡ length (take lasts addresses) + 1 = ap (λ (xs : List RawAddr). length xs) took ∙ length-append (take lasts addresses) (a ∷ []) in
          let h = held.all in
          rw e (let goal : length (o.whole ++ a.id ∷ []) + length responses ≡ length (take lasts (addresses ++ a ∷ [])) = omega arith in goal);
    }

issue_kept : (o : OpenWrites) (addresses : List RawAddr) (lasts : ℕ) (responses : List RawB) (a : RawAddr) → WritesHeld o addresses lasts responses → ltb 0 o.surplus ≡ false → WritesHeld (with_issue a.id o) (addresses ++ a ∷ []) lasts responses
issue_kept o addresses lasts responses a held e =
    let s = held.surplus in
    let none : o.surplus ≡ 0 = grind (arith, nat_tests) in
    let longer : length (addresses ++ a ∷ []) ≡ length addresses + 1 = length-append addresses (a ∷ []) in
    let within : lasts ≤ length addresses = omega arith in
    let took : take lasts (addresses ++ a ∷ []) ≡ take lasts addresses = take_within addresses lasts a within in
    record {
      issued = rw e (ap (λ (xs : List ℕ). xs ++ a.id ∷ []) held.issued ∙ sym (ap (λ (xs : List RawAddr). map id_of xs) (drop_within addresses lasts a within) ∙ map-append id_of (drop lasts addresses) (a ∷ [])));
      surplus = omega arith;
      each = λ id. rw e (held.each id ∙ ap (λ (xs : List RawAddr). length (writes_of id xs)) (sym took));
      all = rw e (held.all ∙ ap (λ (xs : List RawAddr). length xs) (sym took));
    }

pub address_kept : (o : OpenWrites) (addresses : List RawAddr) (lasts : ℕ) (responses : List RawB) (a : RawAddr) → WritesHeld o addresses lasts responses → WritesHeld (with_issue a.id o) (addresses ++ a ∷ []) lasts responses
address_kept o addresses lasts responses a held =
    elim (cases_Bool (ltb 0 o.surplus)) [
      | inl e ↦ surplus_kept o addresses lasts responses a held e
      | inr e ↦ issue_kept o addresses lasts responses a held e
    ]

response_counted : (id : ℕ) (responses : List RawB) (b : RawB) → (b.id == id) ≡ true → length (responses_of id (responses ++ b ∷ [])) ≡ length (responses_of id responses) + 1
response_counted id responses b e = responses_more id responses (b ∷ []) ∙ rw e refl

response_other : (id : ℕ) (responses : List RawB) (b : RawB) → (b.id == id) ≡ false → length (responses_of id (responses ++ b ∷ [])) ≡ length (responses_of id responses) + 0
response_other id responses b e = responses_more id responses (b ∷ []) ∙ rw e refl

pub response_kept : (o : OpenWrites) (addresses : List RawAddr) (lasts : ℕ) (responses : List RawB) (b : RawB) → WritesHeld o addresses lasts responses →
    ltb (length (responses_of b.id responses)) (length (writes_of b.id (take lasts addresses))) ≡ true → WritesHeld (record o { whole = without_first b.id o.whole }) addresses lasts (responses ++ b ∷ [])
response_kept o addresses lasts responses b held less =
    let l = ltb-true _ _ less in
    let mine = held.each b.id in
    let some : 0 < times b.id o.whole = omega arith in
    record {
      issued = held.issued;
      surplus = held.surplus;
      each = λ id. elim (cases_Bool (b.id == id)) [
        | inl e ↦
            let same : b.id ≡ id = eqb-true b.id id e in
            subst (λ (i : ℕ). times i (without_first b.id o.whole) + length (responses_of i (responses ++ b ∷ [])) ≡ length (writes_of i (take lasts addresses))) same
            (let one = response_counted b.id responses b (eq-eqb b.id b.id refl) in let t = times_without b.id o.whole some in omega arith)
        | inr e ↦
            let none = response_other id responses b e in
            let t = times_other b.id id o.whole (λ same. false≢true (sym e ∙ eq-eqb b.id id same)) in
            let h = held.each id in
            omega arith
      ];
      all =
          let t = length_without b.id o.whole some in
          let longer = length-append responses (b ∷ []) in
          let h = held.all in
          omega arith;
    }

-- each write that is kept lacks its response
pub writes_counted : (o : OpenWrites) (addresses : List RawAddr) (lasts : ℕ) (responses : List RawB) → WritesHeld o addresses lasts responses → length o.issued + length o.whole + length responses ≡ length addresses
writes_counted o addresses lasts responses held =
    let issued : length o.issued ≡ length (drop lasts addresses) = ap length held.issued ∙ ids_length (drop lasts addresses) in
    let whole = held.all in
    let parts : length (take lasts addresses) + length (drop lasts addresses) ≡ length addresses = sym (length-append (take lasts addresses) (drop lasts addresses)) ∙ ap length (take-append-drop lasts addresses) in
    omega arith
