-- The pairs of a direction: the IDs that a remapper finds in them, and that they stay one to one.
use Rattle.std.proofs.Common.{◌≡◌, ◌≢◌, ◌<◌, ◌≤◌, ◌==◌, ℕ, Bool, true, false, cond, List, [], ◌∷◌, ◌++◌, Option, None, Some, length, refl, sym, ◌∙◌, ap, subst, arith, eq-eqb, inl, inr, length-append}
use Rattle.std.specs.List.{range_with_len}
use Rattle.std.specs.Option.{option_map, option_or}
use Rattle.std.specs.Prelude.{◌↔◌, ◌⊎◌, All, Contains, find, is_some, not}
use Rattle.std.proofs.lemmas.Bool.{eqb-true}
use Rattle.std.proofs.lemmas.List.Elements.{All-contains, All-contains_itself, All-from_recursion, All-nil, All-cons, All-push, All-weaker, Contains-push_cases}
use Rattle.plain_lists.proofs.CutLemmas.{all-without, contains-without}
use Rattle.plain_lists.proofs.PlaceLemmas.{at-all, contains-at, find-has}
use Rattle.plain_lists.proofs.RangeLemmas.{range-below}
use Rattle.plain_lists.specs.Keys.{without_oldest}
use Rattle.remap_node.specs.RemapState.{AreInFlight, AreOneToOne, RemapShape, ids_below}
use Rattle.remap_node.specs.RemapTable.{input_in_flight, is_free, least_free, output_for, output_in_flight, output_of_pair}
use Rattle.remap_node.specs.declared.pair.IdPair.{IdPair}

-- An ID below stands for one above: among the requests in flight, each has the one where it has the other.
abbrev pub StandsFor : List IdPair → ℕ → ℕ → Type 0
StandsFor pairs input output = All (λ (p : IdPair). (p.input ≡ input) ↔ (p.output ≡ output)) pairs

-- what isn't found fails the test
find-none : {X : Type 0} (test : X → Bool) (xs : List X) → find test xs ≡ None → All (λ x. test x ≡ false) xs
find-none test [] none = All-nil (λ x. test x ≡ false)
find-none {X} test (x ∷ xs) none =
    let go : (b : Bool) → test x ≡ b → cond b (Some x) (find test xs) ≡ None → All (λ x. test x ≡ false) (x ∷ xs) =
    elim [
      | true ↦ λ passes is. absurd (cc)
      | false ↦ λ fails is. All-cons (λ x. test x ≡ false) x xs fails (find-none test xs is)
    ]
    in go (test x) refl none

not-equal : (m n : ℕ) → (m == n) ≡ false → m ≢ n
not-equal m n fails e = let is : (m == n) ≡ true = eq-eqb m n e in absurd (let no : true ≡ false = sym is ∙ fails in cc)

module _ (pairs : List IdPair) where
  output-is : (input output : ℕ) → output_in_flight pairs input ≡ Some output → (p : IdPair) × Contains pairs p × (p.input ≡ input) × (p.output ≡ output)
  output-is input output is = go (find (λ (p : IdPair). p.input == input) pairs) refl is
    where
      go : (o : Option IdPair) → find (λ (p : IdPair). p.input == input) pairs ≡ o → option_map output_of_pair o ≡ Some output → (p : IdPair) × Contains pairs p × (p.input ≡ input) × (p.output ≡ output)
      go None found is = absurd (cc)
      go (Some p) found is =
          let has = find-has (λ (p : IdPair). p.input == input) pairs p found in
          let same : p.output ≡ output = cc in
          (p, contains-at pairs has.1 p has.2, eqb-true p.input input has.0, same)

  output-none : (input : ℕ) → output_in_flight pairs input ≡ None → All (λ (p : IdPair). p.input ≢ input) pairs
  output-none input is = go (find (λ (p : IdPair). p.input == input) pairs) refl is
    where
      go : (o : Option IdPair) → find (λ (p : IdPair). p.input == input) pairs ≡ o → option_map output_of_pair o ≡ None → All (λ (p : IdPair). p.input ≢ input) pairs
      go None found is = All-weaker (λ (p : IdPair). (p.input == input) ≡ false) (λ (p : IdPair). p.input ≢ input) (λ p fails. not-equal p.input input fails) pairs (find-none (λ (p : IdPair). p.input == input) pairs found)
      go (Some p) found is = absurd (cc)

  pub input-is : (output input : ℕ) → input_in_flight pairs output ≡ Some input → (p : IdPair) × Contains pairs p × (p.output ≡ output) × (p.input ≡ input)
  input-is output input is = go (find (λ (p : IdPair). p.output == output) pairs) refl is
    where
      go : (o : Option IdPair) → find (λ (p : IdPair). p.output == output) pairs ≡ o → option_map (λ (p : IdPair). p.input) o ≡ Some input → (p : IdPair) × Contains pairs p × (p.output ≡ output) × (p.input ≡ input)
      go None found is = absurd (cc)
      go (Some p) found is =
          let has = find-has (λ (p : IdPair). p.output == output) pairs p found in
          let same : p.input ≡ input = cc in
          (p, contains-at pairs has.1 p has.2, eqb-true p.output output has.0, same)

  pub input-none : (output : ℕ) → input_in_flight pairs output ≡ None → All (λ (p : IdPair). p.output ≢ output) pairs
  input-none output is = go (find (λ (p : IdPair). p.output == output) pairs) refl is
    where
      go : (o : Option IdPair) → find (λ (p : IdPair). p.output == output) pairs ≡ o → option_map (λ (p : IdPair). p.input) o ≡ None → All (λ (p : IdPair). p.output ≢ output) pairs
      go None found is = All-weaker (λ (p : IdPair). (p.output == output) ≡ false) (λ (p : IdPair). p.output ≢ output) (λ p fails. not-equal p.output output fails) pairs (find-none (λ (p : IdPair). p.output == output) pairs found)
      go (Some p) found is = absurd (cc)

  free-none : (output : ℕ) → is_free pairs output ≡ true → input_in_flight pairs output ≡ None
  free-none output free = go (input_in_flight pairs output) free
    where
      go : (o : Option ℕ) → not (is_some o) ≡ true → o ≡ None
      go None free = refl
      go (Some i) free = absurd (cc)

  least-is : (ids output : ℕ) → least_free pairs ids ≡ Some output → (output < ids) × All (λ (p : IdPair). p.output ≢ output) pairs
  least-is ids output is =
      let has = find-has (is_free pairs) (range_with_len 0 ids) output is in (
        at-all (λ k. k < ids) (range_with_len 0 ids) has.1 output (All-from_recursion (λ k. k < ids) (range_with_len 0 ids) (range-below 0 ids ids (omega arith))) has.2,
        input-none output (free-none output has.0),
      )

-- the pair that an answer finds
pub found-stands : (pairs : List IdPair) → AreOneToOne pairs → (p : IdPair) → Contains pairs p → StandsFor pairs p.input p.output
found-stands pairs one p among =
    All-weaker (Contains pairs) (λ (q : IdPair). (q.input ≡ p.input) ↔ (q.output ≡ p.output)) (λ q in_q. one q p in_q among) pairs (All-contains_itself pairs)

-- an ID that is found for a request stands for its ID
pub output_for-is : (shape : RemapShape) (pairs : List IdPair) (input output : ℕ) → AreInFlight shape pairs → output_for pairs (ids_below shape) input ≡ Some output →
    (output < ids_below shape) × StandsFor pairs input output
output_for-is shape pairs input output are is = go (output_in_flight pairs input) refl is
  where
    go : (o : Option ℕ) → output_in_flight pairs input ≡ o → option_or o (least_free pairs (ids_below shape)) ≡ Some output → (output < ids_below shape) × StandsFor pairs input output
    go (Some x) at is =
        let p = output-is pairs input output (at ∙ is) in
        let stands = found-stands pairs are.one_to_one p.0 p.1 in (
          subst (λ (k : ℕ). k < ids_below shape) p.3 (All-contains (λ (q : IdPair). q.output < ids_below shape) pairs p.0 are.small p.1),
          subst (λ (i : ℕ). StandsFor pairs i output) p.2 (subst (λ (o : ℕ). StandsFor pairs p.0.input o) p.3 stands),
        )
    go None at is =
        let least = least-is pairs (ids_below shape) output is in
        let other = output-none pairs input at in
        (least.0, λ k d within. (λ own. absurd (other k d within own), λ own. absurd (least.1 k d within own)))

-- Fewer pairs, and one more.
pub stands-fewer : (pairs : List IdPair) (key input output : ℕ) → StandsFor pairs input output → StandsFor (without_oldest output_of_pair key pairs) input output
stands-fewer pairs key input output stands = all-without (λ (p : IdPair). (p.input ≡ input) ↔ (p.output ≡ output)) output_of_pair key pairs stands

pub length-without : (key : ℕ) (pairs : List IdPair) → length (without_oldest output_of_pair key pairs) ≤ length pairs
length-without key [] = omega arith
length-without key (p ∷ pairs) =
    let go : (b : Bool) → length (cond b pairs (p ∷ without_oldest output_of_pair key pairs)) ≤ length (p ∷ pairs) = elim [ true ↦ omega arith | false ↦ omega (arith, length-without key pairs) ]
    in go (p.output == key)

pub one-fewer : (shape : RemapShape) (key : ℕ) (pairs : List IdPair) → AreInFlight shape pairs → AreInFlight shape (without_oldest output_of_pair key pairs)
one-fewer shape key pairs are = record {
  few = omega (arith, are.few, length-without key pairs);
  small = all-without (λ (p : IdPair). p.output < ids_below shape) output_of_pair key pairs are.small;
  one_to_one = λ p q in_p in_q. are.one_to_one p q (contains-without output_of_pair key pairs p in_p) (contains-without output_of_pair key pairs q in_q);
}

pub one-more : (shape : RemapShape) (pairs : List IdPair) (m : IdPair) → AreInFlight shape pairs → length pairs < 16 → m.output < ids_below shape → StandsFor pairs m.input m.output →
    AreInFlight shape (pairs ++ m ∷ [])
one-more shape pairs m are few small stands = record {
  few = omega (arith, few, length-append pairs (m ∷ []));
  small = All-push (λ (p : IdPair). p.output < ids_below shape) pairs m are.small small;
  one_to_one = λ p q in_p in_q. go p q (Contains-push_cases pairs m p in_p) (Contains-push_cases pairs m q in_q);
}
  where
    At : (p : IdPair) → Contains pairs p → (p.input ≡ m.input) ↔ (p.output ≡ m.output)
    At p in_p = All-contains (λ (p : IdPair). (p.input ≡ m.input) ↔ (p.output ≡ m.output)) pairs p stands in_p

    go : (p q : IdPair) → Contains pairs p ⊎ (m ≡ p) → Contains pairs q ⊎ (m ≡ q) → (p.input ≡ q.input) ↔ (p.output ≡ q.output)
    go p q (inl old_p) (inl old_q) = are.one_to_one p q old_p old_q
    go p q (inl old_p) (inr new_q) = subst (λ (x : IdPair). (p.input ≡ x.input) ↔ (p.output ≡ x.output)) new_q (At p old_p)
    go p q (inr new_p) (inl old_q) =
        let is = subst (λ (x : IdPair). (q.input ≡ x.input) ↔ (q.output ≡ x.output)) new_p (At q old_q) in
        (λ e. sym (is.0 (sym e)), λ e. sym (is.1 (sym e)))
    go p q (inr new_p) (inr new_q) =
        let same : p ≡ q = sym new_p ∙ new_q in
        (λ e. ap (λ (x : IdPair). x.output) same, λ e. ap (λ (x : IdPair). x.input) same)
