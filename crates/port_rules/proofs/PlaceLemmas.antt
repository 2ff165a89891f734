-- The first place of an ID in a list, and the list without what stands there.
use Rattle.std.proofs.Common.{◌≡◌, ℕ, ◌+◌, ◌-◌, ◌<◌, ◌==◌, true, false, zero, suc, List, [], ◌∷◌, Some, None, length, get_or, refl, sym, ap, arith, ◌∙◌, leb, inl, inr}
use Rattle.std.specs.Prelude.{position, remove, slice_set, if◌then◌else◌}
use Rattle.std.specs.List.{position_from}
use Rattle.std.proofs.lemmas.Bool.{cases_Bool}
use Rattle.std.proofs.lemmas.List.Quantifiers.{position-Some}
use Rattle.std.proofs.lemmas.Iterator.Adapters.{position_from-zero}
use Rattle.port_rules.specs.declared.reads.Read.{Read}
use Rattle.port_rules.specs.OpenWrites.{without_first}
use Rattle.port_rules.specs.OpenReads.{beats_lacking, with_beat_of}

at_place : (id : ℕ) (xs : List ℕ) (k : ℕ) → k < length xs → (get_or xs k 0 == id) ≡ true → ((j : ℕ) → j < k → (get_or xs j 0 == id) ≡ false) → remove xs k ≡ without_first id xs
at_place id [] k within here before = absurd (omega arith)
at_place id (x ∷ xs) zero within here before = rw here refl
at_place id (x ∷ xs) (suc k) within here before =
    rw (before 0 (omega arith)) (ap (λ (more : List ℕ). x ∷ more) (at_place id xs k (omega arith) here (λ j lt. before (suc j) (omega arith))))

pub id_removed : (id : ℕ) (xs : List ℕ) (k : ℕ) → position (λ other. other == id) xs ≡ Some k → remove xs k ≡ without_first id xs
id_removed id xs k found =
    let f = position-Some (λ (other : ℕ). other == id) xs k 0 found in
    at_place id xs k f.0 f.1 f.2

no_id : (id : ℕ) (xs : List ℕ) (i : ℕ) → position_from (λ other. other == id) i xs ≡ None → xs ≡ without_first id xs
no_id id [] i none = refl
no_id id (x ∷ xs) i none =
    elim (cases_Bool (x == id)) [
      | inl e ↦ let bad : Some i ≡ None = sym (rw e refl) ∙ none in absurd cc
      | inr e ↦ let rest : position_from (λ other. other == id) (i + 1) xs ≡ None = rw e at none in rw e (ap (λ (more : List ℕ). x ∷ more) (no_id id xs (i + 1) rest))
    ]

pub id_absent : (id : ℕ) (xs : List ℕ) → position (λ other. other == id) xs ≡ None → xs ≡ without_first id xs
id_absent id xs none = no_id id xs 0 (sym (position_from-zero (λ (other : ℕ). other == id) xs) ∙ none)

-- ---- the same of reads

read_at : (id : ℕ) (xs : List Read) (k : ℕ) (d : Read) → k < length xs → ((get_or xs k d).id == id) ≡ true → ((j : ℕ) → j < k → ((get_or xs j d).id == id) ≡ false) →
    with_beat_of id xs ≡ (if leb (get_or xs k d).left 1 then remove xs k else slice_set xs k (record { id = id; left = (get_or xs k d).left - 1 }))
read_at id [] k d within here before = absurd (omega arith)
read_at id (x ∷ xs) zero d within here before = rw here refl
read_at id (x ∷ xs) (suc k) d within here before =
    let rest = read_at id xs k d (omega arith) here (λ j lt. before (suc j) (omega arith)) in
    elim (cases_Bool (leb (get_or xs k d).left 1)) [
      | inl e ↦ let small = rw e at rest in rw (before 0 (omega arith), e) (ap (λ (more : List Read). x ∷ more) small)
      | inr e ↦ let large = rw e at rest in rw (before 0 (omega arith), e) (ap (λ (more : List Read). x ∷ more) large)
    ]

left_place : (id : ℕ) (xs : List Read) (k : ℕ) (d : Read) → k < length xs → ((get_or xs k d).id == id) ≡ true → ((j : ℕ) → j < k → ((get_or xs j d).id == id) ≡ false) → Some (get_or xs k d).left ≡ beats_lacking id xs
left_place id [] k d within here before = absurd (omega arith)
left_place id (x ∷ xs) zero d within here before = rw here refl
left_place id (x ∷ xs) (suc k) d within here before =
    rw (before 0 (omega arith)) (left_place id xs k d (omega arith) here (λ j lt. before (suc j) (omega arith)))

pub left_at : (id : ℕ) (xs : List Read) (k : ℕ) (d : Read) → position (λ read. read.id == id) xs ≡ Some k → Some (get_or xs k d).left ≡ beats_lacking id xs
left_at id xs k d found =
    let f = position-Some (λ (read : Read). read.id == id) xs k d found in
    left_place id xs k d f.0 f.1 f.2

no_read : (id : ℕ) (xs : List Read) (i : ℕ) → position_from (λ read. read.id == id) i xs ≡ None → (xs ≡ with_beat_of id xs) × (None ≡ beats_lacking id xs)
no_read id [] i none = (refl, refl)
no_read id (x ∷ xs) i none =
    elim (cases_Bool (x.id == id)) [
      | inl e ↦ let bad : Some i ≡ None = sym (rw e refl) ∙ none in absurd cc
      | inr e ↦ let rest : position_from (λ read. read.id == id) (i + 1) xs ≡ None = rw e at none in
          let both = no_read id xs (i + 1) rest in
          (rw e (ap (λ (more : List Read). x ∷ more) both.0), rw e both.1)
    ]

pub left_nowhere : (id : ℕ) (xs : List Read) → position (λ read. read.id == id) xs ≡ None → None ≡ beats_lacking id xs
left_nowhere id xs none = (no_read id xs 0 (sym (position_from-zero (λ (read : Read). read.id == id) xs) ∙ none)).1

pub read_absent : (id : ℕ) (xs : List Read) → position (λ read. read.id == id) xs ≡ None → xs ≡ with_beat_of id xs
read_absent id xs none = (no_read id xs 0 (sym (position_from-zero (λ (read : Read). read.id == id) xs) ∙ none)).0

pub read_removed : (id : ℕ) (xs : List Read) (k : ℕ) (d : Read) → position (λ read. read.id == id) xs ≡ Some k → leb (get_or xs k d).left 1 ≡ true → remove xs k ≡ with_beat_of id xs
read_removed id xs k d found small =
    let f = position-Some (λ (read : Read). read.id == id) xs k d found in
    sym (read_at id xs k d f.0 f.1 f.2 ∙ rw small refl)

pub read_counted : (id : ℕ) (xs : List Read) (k : ℕ) (d : Read) → position (λ read. read.id == id) xs ≡ Some k → leb (get_or xs k d).left 1 ≡ false → slice_set xs k (record { id = id; left = (get_or xs k d).left - 1 }) ≡ with_beat_of id xs
read_counted id xs k d found large =
    let f = position-Some (λ (read : Read). read.id == id) xs k d found in
    sym (read_at id xs k d f.0 f.1 f.2 ∙ rw large refl)
