-- The least refusal of all lines.
use Rattle.std.proofs.Common.{◌≡◌, ℕ, ◌+◌, ◌<◌, ◌≤◌, Bool, true, false, cond, List, [], ◌∷◌, Option, Some, None, nat_lt, zero, suc, inl, inr, refl, sym, ◌∙◌, ap, subst, arith}
use Rattle.std.specs.List.{slice_get}
use Rattle.std.proofs.lemmas.Bool.{ltb-true, ltb-false}
use Rattle.plan_traffic.specs.LineRefusals.{lesser_of, least_refusal, line_refusal, lesser}
use Rattle.plan_traffic.specs.Refusals.{GoesFirst, IsNotRefused, IsLeastRefusal, LeastIsTold}
use Rattle.refusals.specs.declared.refusal.Refusal.{Refusal}
use Rattle.topology_text.specs.Document.{DocumentNode}
use Rattle.plan_traffic.proofs.AcceptLemmas.{least-none}

-- the line after the first one
later : (nodes : List DocumentNode) (number place : ℕ) (line : List ℕ) (o : Option Refusal) → line_refusal nodes (number + suc place) line ≡ o → line_refusal nodes (number + 1 + place) line ≡ o
later nodes number place line o e = let same : number + suc place ≡ number + 1 + place = omega arith in subst (λ (n : ℕ). line_refusal nodes n line ≡ o) same e

earlier : (nodes : List DocumentNode) (number place : ℕ) (line : List ℕ) (o : Option Refusal) → line_refusal nodes (number + 1 + place) line ≡ o → line_refusal nodes (number + suc place) line ≡ o
earlier nodes number place line o e = let same : number + 1 + place ≡ number + suc place = omega arith in subst (λ (n : ℕ). line_refusal nodes n line ≡ o) same e

-- the first line
first : (nodes : List DocumentNode) (number : ℕ) (line other : List ℕ) (o : Option Refusal) → ◌≡◌ {A = Option (List ℕ)} (Some line) (Some other) → line_refusal nodes (number + 0) other ≡ o → line_refusal nodes number line ≡ o
first nodes number line other o same e =
    let is : line ≡ other = cc in
    let plain : number + 0 ≡ number = omega arith in
    ap (λ l. line_refusal nodes number l) is ∙ subst (λ (n : ℕ). line_refusal nodes n other ≡ o) plain e

no-refusal : (nodes : List DocumentNode) (number : ℕ) (lines : List (List ℕ)) → least_refusal nodes number lines ≡ None → IsNotRefused nodes number lines
no-refusal nodes number [] e place line here = absurd (cc)
no-refusal nodes number (x ∷ more) e zero line here =
    let both = least-none (line_refusal nodes number x) (least_refusal nodes (number + 1) more) e in
    let is : line ≡ x = cc in
    let plain : number ≡ number + 0 = omega arith in
    subst (λ (n : ℕ). line_refusal nodes n line ≡ None) plain (ap (λ l. line_refusal nodes number l) is ∙ both.0)
no-refusal nodes number (x ∷ more) e (suc place) line here =
    let both = least-none (line_refusal nodes number x) (least_refusal nodes (number + 1) more) e in
    earlier nodes number place line None (no-refusal nodes (number + 1) more both.1 place line here)

-- the first line's refusal is told
told-first : (nodes : List DocumentNode) (number : ℕ) (line : List ℕ) (more : List (List ℕ)) (refusal : Refusal) → line_refusal nodes number line ≡ Some refusal
    → ((place : ℕ) (other_line : List ℕ) (other : Refusal) → slice_get more place ≡ Some other_line → line_refusal nodes (number + 1 + place) other_line ≡ Some other → refusal.code ≤ other.code)
    → IsLeastRefusal nodes number (line ∷ more) refusal
told-first nodes number line more refusal is each =
    record {
      place = 0;
      line = line;
      is_line = refl;
      is_refusal = let plain : number ≡ number + 0 = omega arith in subst (λ (n : ℕ). line_refusal nodes n line ≡ Some refusal) plain is;
      is_least = by;
    }
  where
    order : (place : ℕ) (other : Refusal) → refusal.code ≤ other.code → GoesFirst 0 refusal place other
    order place other le = by-test (nat_lt refusal.code other.code) refl
      where
        by-test : (less : Bool) → nat_lt refusal.code other.code ≡ less → GoesFirst 0 refusal place other
        by-test true e = inl (ltb-true refusal.code other.code e)
        by-test false e = let no_less : other.code ≤ refusal.code = ltb-false refusal.code other.code e in inr (omega arith, omega arith)

    by : (place : ℕ) (other_line : List ℕ) (other : Refusal) → slice_get (line ∷ more) place ≡ Some other_line → line_refusal nodes (number + place) other_line ≡ Some other → GoesFirst 0 refusal place other
    by zero other_line other here e =
        let same : ◌≡◌ {A = Option Refusal} (Some refusal) (Some other) = sym is ∙ first nodes number line other_line (Some other) here e in
        let one : refusal ≡ other = cc in
        inr (ap (λ (r : Refusal). r.code) one, omega arith)
    by (suc place) other_line other here e = order (suc place) other (each place other_line other here (later nodes number place other_line (Some other) e))

-- the refusal of a later line is told
told-later : (nodes : List DocumentNode) (number : ℕ) (line : List ℕ) (more : List (List ℕ)) (refusal : Refusal)
    → ((other : Refusal) → line_refusal nodes number line ≡ Some other → refusal.code < other.code)
    → IsLeastRefusal nodes (number + 1) more refusal → IsLeastRefusal nodes number (line ∷ more) refusal
told-later nodes number line more refusal head l =
    record {
      place = suc l.place;
      line = l.line;
      is_line = l.is_line;
      is_refusal = earlier nodes number l.place l.line (Some refusal) l.is_refusal;
      is_least = by;
    }
  where
    next : (place : ℕ) (other : Refusal) → GoesFirst l.place refusal place other → GoesFirst (suc l.place) refusal (suc place) other
    next place other (inl less) = inl less
    next place other (inr same) = let le : l.place ≤ place = same.1 in inr (same.0, omega arith)

    by : (place : ℕ) (other_line : List ℕ) (other : Refusal) → slice_get (line ∷ more) place ≡ Some other_line → line_refusal nodes (number + place) other_line ≡ Some other → GoesFirst (suc l.place) refusal place other
    by zero other_line other here e = inl (head other (first nodes number line other_line (Some other) here e))
    by (suc place) other_line other here e = next place other (l.is_least place other_line other here (later nodes number place other_line (Some other) e))

-- what a refusal that goes first has a code of
first-code : (place other_place : ℕ) (refusal other : Refusal) → GoesFirst place refusal other_place other → refusal.code ≤ other.code
first-code place other_place refusal other (inl less) = omega arith
first-code place other_place refusal other (inr same) = let e : refusal.code ≡ other.code = same.0 in omega arith

-- one line before others
least-of : (nodes : List DocumentNode) (number : ℕ) (line : List ℕ) (more : List (List ℕ)) (refusal : Refusal)
    → ((later_fault : Refusal) → least_refusal nodes (number + 1) more ≡ Some later_fault → IsLeastRefusal nodes (number + 1) more later_fault)
    → least_refusal nodes number (line ∷ more) ≡ Some refusal → IsLeastRefusal nodes number (line ∷ more) refusal
least-of nodes number line more refusal told_of e =
    by (line_refusal nodes number line) refl (least_refusal nodes (number + 1) more) refl e
  where
    by : (a : Option Refusal) → line_refusal nodes number line ≡ a → (b : Option Refusal) → least_refusal nodes (number + 1) more ≡ b → lesser_of a b ≡ Some refusal → IsLeastRefusal nodes number (line ∷ more) refusal
    by None here b rest e =
        told-later nodes number line more refusal (λ other is. absurd (cc)) (told_of refusal (rest ∙ e))
    by (Some a) here None rest e =
        let is : a ≡ refusal = cc in
        told-first nodes number line more refusal (here ∙ ap (λ f. Some f) is) (λ place other_line other at is_other.
        let none : line_refusal nodes (number + 1 + place) other_line ≡ None = no-refusal nodes (number + 1) more rest place other_line at in absurd (cc))
    by (Some a) here (Some b) rest e = choose (nat_lt b.code a.code) refl (let is : lesser a b ≡ refusal = cc in is)
      where
        choose : (less : Bool) → nat_lt b.code a.code ≡ less → cond less b a ≡ refusal → IsLeastRefusal nodes number (line ∷ more) refusal
        choose true t is =
            told-later nodes number line more refusal
            (λ other is_other.
            let same : ◌≡◌ {A = Option Refusal} (Some a) (Some other) = sym here ∙ is_other in
            let one : a ≡ other = cc in
            let below : b.code < a.code = ltb-true b.code a.code t in
            let left : b.code ≡ refusal.code = ap (λ (r : Refusal). r.code) is in
            let right : a.code ≡ other.code = ap (λ (r : Refusal). r.code) one in
            omega arith)
            (told_of refusal (rest ∙ ap (λ f. Some f) is))
        choose false t is =
            told-first nodes number line more refusal (here ∙ ap (λ f. Some f) is) (λ place other_line other at is_other.
            let l : IsLeastRefusal nodes (number + 1) more b = told_of b rest in
            let after : b.code ≤ other.code = first-code l.place place b other (l.is_least place other_line other at is_other) in
            let above : a.code ≤ b.code = ltb-false b.code a.code t in
            let left : a.code ≡ refusal.code = ap (λ (r : Refusal). r.code) is in
            omega arith)

least-told : (nodes : List DocumentNode) (number : ℕ) (lines : List (List ℕ)) (refusal : Refusal) → least_refusal nodes number lines ≡ Some refusal → IsLeastRefusal nodes number lines refusal
least-told nodes number [] refusal e = absurd (cc)
least-told nodes number (line ∷ more) refusal e = least-of nodes number line more refusal (λ later_fault rest. least-told nodes (number + 1) more later_fault rest) e

pub least_is_told : LeastIsTold
least_is_told nodes number lines = record { some = least-told nodes number lines; none = no-refusal nodes number lines }
