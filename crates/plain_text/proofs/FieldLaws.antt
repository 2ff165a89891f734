-- Fields that are read as they were written, and reading that is put together of exact parts.
use Rattle.std.proofs.Common.{◌≡◌, ℕ, suc, ◌+◌, ◌<◌, ◌≤◌, true, false, cond, eqb, not, List, [], ◌∷◌, ◌++◌, Option, Some, None, length, take, drop, refl, ap, subst, ◌∙◌, arith}
use Rattle.std.specs.List.{position, position_or_len}
use Rattle.std.proofs.lemmas.Bool.{eqb-true, eq-eqb}
use Rattle.plain_text.specs.Separator.{put_before}
use Rattle.plain_text.specs.Fields.{field_before}
use Rattle.plain_text.specs.Exact.{◌>>=◌, IsExact, IsExactBefore, read_before, write_before}
use Rattle.plain_text.proofs.Parts.{place_found, place_missing}

-- none of the bytes is this one
abbrev pub Avoids : ℕ → List ℕ → Type 0
Avoids end [] = Unit {0}
Avoids end (byte ∷ rest) = (eqb byte end ≡ false) × Avoids end rest

pub Avoids-append : (end : ℕ) (xs ys : List ℕ) → Avoids end xs → Avoids end ys → Avoids end (xs ++ ys)
Avoids-append end [] ys p q = q
Avoids-append end (x ∷ xs) ys p q = (p.0, Avoids-append end xs ys p.1 q)

-- the value of a step that did not fail
pub bind_some : {A B : Type 0} (o : Option A) (f : A → Option B) (y : B) → (o >>= f) ≡ Some y → (x : A) × (o ≡ Some x) × (f x ≡ Some y)
bind_some (Some x) f y e = (x, refl, e)
bind_some None f y e = absurd cc

abbrev found : {A : Type 0} → A → Option A
found x = Some x

pub some_is : {A : Type 0} (x y : A) → found x ≡ found y → x ≡ y
some_is x y e = cc

-- ---- one field

pub field_before-append : (end : ℕ) (front rest : List ℕ) → Avoids end front → field_before end (front ++ end ∷ rest) ≡ Some (front, rest)
field_before-append end [] rest h = rw (eq-eqb end end refl) refl
field_before-append end (x ∷ xs) rest h = rw (h.0, field_before-append end xs rest h.1) refl

pub field_before_parts : (end : ℕ) (text : List ℕ) (parts : List ℕ × List ℕ) → field_before end text ≡ Some parts → text ≡ parts.0 ++ end ∷ parts.1
field_before_parts end [] parts = λ e. absurd cc
field_before_parts end (x ∷ xs) parts =
    elim (eqb x end) as (λ b. eqb x end ≡ b → cond b (Some ([], xs)) (put_before (x ∷ []) (field_before end xs)) ≡ Some parts → x ∷ xs ≡ parts.0 ++ end ∷ parts.1) [
      | true ↦ λ is e. subst (λ (p : List ℕ × List ℕ). x ∷ xs ≡ p.0 ++ end ∷ p.1) (some_is ([], xs) parts e) (ap (λ (y : ℕ). y ∷ xs) (eqb-true x end is))
      | false ↦ λ other e. field_before_further end x xs parts e (λ p is. field_before_parts end xs p is)
    ] refl
  where
    field_before_further : (end x : ℕ) (xs : List ℕ) (parts : List ℕ × List ℕ) → put_before (x ∷ []) (field_before end xs) ≡ Some parts → ((p : List ℕ × List ℕ) → field_before end xs ≡ Some p → xs ≡ p.0 ++ end ∷ p.1) → x ∷ xs ≡ parts.0 ++ end ∷ parts.1
    field_before_further end x xs parts = further (field_before end xs)
      where
        further : (o : Option (List ℕ × List ℕ)) → put_before (x ∷ []) o ≡ Some parts → ((p : List ℕ × List ℕ) → o ≡ Some p → xs ≡ p.0 ++ end ∷ p.1) → x ∷ xs ≡ parts.0 ++ end ∷ parts.1
        further None e h = absurd cc
        further (Some p) e h = subst (λ (q : List ℕ × List ℕ). x ∷ xs ≡ q.0 ++ end ∷ q.1) (some_is (x ∷ p.0, p.1) parts e) (ap (λ (t : List ℕ). x ∷ t) (h p refl))

-- the same by the place of the byte that ends the field
field_before_by_place : (end : ℕ) (text : List ℕ) → position_or_len (λ byte. eqb byte end) text < length text → field_before end text ≡ Some (take (position_or_len (λ byte. eqb byte end) text) text, drop (position_or_len (λ byte. eqb byte end) text + 1) text)
field_before_by_place end [] = λ h. absurd (omega arith)
field_before_by_place end (x ∷ xs) =
    elim (eqb x end) as (λ b. cond (not b) (1 + position_or_len (λ byte. eqb byte end) xs) 0 < suc (length xs) → cond b (Some ([], xs)) (put_before (x ∷ []) (field_before end xs)) ≡ Some (take (cond (not b) (1 + position_or_len (λ byte. eqb byte end) xs) 0) (x ∷ xs), drop (cond (not b) (1 + position_or_len (λ byte. eqb byte end) xs) 0 + 1) (x ∷ xs))) [
      | true ↦ λ h. refl
      | false ↦ λ h. let inside : position_or_len (λ byte. eqb byte end) xs < length xs = omega arith in
          let one : 1 + position_or_len (λ byte. eqb byte end) xs ≡ suc (position_or_len (λ byte. eqb byte end) xs) = omega arith in
          let two : 1 + position_or_len (λ byte. eqb byte end) xs + 1 ≡ suc (position_or_len (λ byte. eqb byte end) xs + 1) = omega arith in
          rw (field_before_by_place end xs inside, two, one) refl
    ]

field_before_none : (end : ℕ) (text : List ℕ) → length text ≤ position_or_len (λ byte. eqb byte end) text → field_before end text ≡ None
field_before_none end [] = λ h. refl
field_before_none end (x ∷ xs) =
    elim (eqb x end) as (λ b. suc (length xs) ≤ cond (not b) (1 + position_or_len (λ byte. eqb byte end) xs) 0 → cond b (Some ([], xs)) (put_before (x ∷ []) (field_before end xs)) ≡ None) [
      | true ↦ λ h. absurd (omega arith)
      | false ↦ λ h. let l : length xs ≤ position_or_len (λ byte. eqb byte end) xs = omega arith in rw (field_before_none end xs l) refl
    ]

pub field_before_at : (end : ℕ) (text : List ℕ) (place : ℕ) → position (λ byte. eqb byte end) text ≡ Some place → field_before end text ≡ Some (take place text, drop (place + 1) text)
field_before_at end text place h =
    let at = place_found (λ byte. eqb byte end) text place h in
    subst (λ (n : ℕ). field_before end text ≡ Some (take n text, drop (n + 1) text)) at.0 (field_before_by_place end text at.1)

pub field_before_missing : (end : ℕ) (text : List ℕ) → position (λ byte. eqb byte end) text ≡ None → field_before end text ≡ None
field_before_missing end text h = field_before_none end text (place_missing (λ byte. eqb byte end) text h)

-- ---- put together

module _ {A : Type 0} (read : List ℕ → Option A) (write : A → List ℕ) (Fits : A → Type 0) (exact : IsExact read write Fits) where
  pub before_is_exact : (end : ℕ) → ((value : A) → Fits value → Avoids end (write value)) → IsExactBefore (read_before end read) (write_before end write) Fits
  before_is_exact end avoids = record {
    sound = λ text out e.
        let p = bind_some (field_before end text) (λ parts. read parts.0 >>= λ value. Some (value, parts.1)) out e in
        let v = bind_some (read p.0.0) (λ value. Some (value, p.0.1)) out p.2 in
        let s = exact.sound p.0.0 v.0 v.1 in
        let whole = field_before_parts end text p.0 p.1 in
        subst (λ (q : A × List ℕ). Fits q.0 × (text ≡ write q.0 ++ end ∷ q.1)) (some_is (v.0, p.0.1) out v.2) (s.0, whole ∙ ap (λ (t : List ℕ). t ++ end ∷ p.0.1) s.1);
    complete = λ value rest fits. rw (field_before-append end (write value) rest (avoids value fits), exact.complete value fits) refl;
  }
