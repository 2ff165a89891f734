-- The IDs of joined links, and how many links are joined.
use Rattle.std.proofs.Common.{◌≡◌, ◌<◌, ◌≤◌, ◌+◌, ◌-◌, ◌*◌, ◌/◌, ◌^◌, ◌==◌, ℕ, zero, suc, Bool, true, false, List, [], ◌∷◌, length, map, refl, sym, ◌∙◌, ap, subst, inl, inr, arith}
use Rattle.std.specs.Prelude.{slice_index_or, if◌then◌else◌}
use Rattle.std.proofs.Math.Nat.{mul-le-mul, pow-le-pow_right, pow-suc}
use Rattle.std.proofs.lemmas.Bool.{eqb-true, false_from_ne_true, false≢true, or_from, or_parts, true≢false}
use Rattle.std.proofs.lemmas.List.{length-map}
use Rattle.std.proofs.lemmas.Nat.{pow-add}
use Rattle.elaborate.proofs.LinkForms.{place-within}
use Rattle.elaborate.proofs.Lists.{in-mapped}
use Rattle.elaborate.proofs.Uppers.{nth-place}
use Rattle.node_graph.proofs.Members.{few-differ, in-cases, in-first, in-rest}
use Rattle.node_graph.specs.Graph.{is_in}
use Rattle.node_graph.specs.Order.{place_in, repeats}
use Rattle.topology.specs.Document.{digits_up_to, input_digits, widest}
use Rattle.topology.specs.declared.link.LinkKind.{LinkKind}

-- ---- widest IDs

pub widest-of : (f : ℕ → LinkKind) (xs : List ℕ) (x : ℕ) → is_in xs x ≡ true → (f x).id_width ≤ widest (map f xs)
widest-of f [] x there = absurd (false≢true there)
widest-of f (y ∷ ys) x there =
    elim (in-cases y ys x there) [
      | inl here ↦ omega (arith, ap (λ (k : ℕ). (f k).id_width) here)
      | inr more ↦ omega (arith, widest-of f ys x more)
    ]

pub widest-most : (f : ℕ → LinkKind) (xs : List ℕ) (most : ℕ) → ((x : ℕ) → is_in xs x ≡ true → (f x).id_width ≤ most) → widest (map f xs) ≤ most
widest-most f [] most each = omega arith
widest-most f (y ∷ ys) most each = omega (arith, each y (in-first y ys y refl), widest-most f ys most (λ x there. each x (in-rest y ys x there)))

-- ---- digits

halved : (b : Bool) (most number : ℕ) → (number == 0) ≡ b → (number / 2 < 2 ^ digits_up_to most (number / 2)) → number < 2 ^ (if b then 0 else suc (digits_up_to most (number / 2)))
halved true most number none half = let zeroth : number ≡ 0 = eqb-true number 0 none in let one : 2 ^ 0 ≡ 1 = refl in omega (arith, zeroth, one)
halved false most number some half = let double : 2 ^ suc (digits_up_to most (number / 2)) ≡ 2 ^ digits_up_to most (number / 2) * 2 = pow-suc 2 (digits_up_to most (number / 2)) in omega (arith, half, double)

pub digits-hold : (most number : ℕ) → number < 2 ^ most → number < 2 ^ digits_up_to most number
digits-hold zero number less = less
digits-hold (suc most) number less =
    let double : 2 ^ suc most ≡ 2 ^ most * 2 = pow-suc 2 most in
    halved (number == 0) most number refl (digits-hold most (number / 2) (omega (arith, less, double)))

-- as many IDs as inputs times those of the widest one
pub wide-enough : (width widest_input inputs count below : ℕ) → width ≤ widest_input → count ≤ inputs → inputs ≤ 16 → below ≡ widest_input + input_digits inputs → 2 ^ width * count ≤ 2 ^ below
wide-enough width widest_input inputs count below narrow few small is =
    let all : inputs - 1 < 2 ^ 32 = omega (arith, small) in
    let digits : inputs - 1 < 2 ^ input_digits inputs = digits-hold 32 (inputs - 1) all in
    let counts : count ≤ 2 ^ input_digits inputs = omega (arith, few, digits) in
    let ids : 2 ^ width ≤ 2 ^ widest_input = pow-le-pow_right {n = 2} (omega arith) narrow in
    let product : 2 ^ width * count ≤ 2 ^ widest_input * 2 ^ input_digits inputs = mul-le-mul ids counts in
    subst (λ (n : ℕ). 2 ^ width * count ≤ n) (sym (pow-add 2 widest_input (input_digits inputs)) ∙ ap (λ (k : ℕ). 2 ^ k) (sym is)) product

-- ---- how many differ

repeats-made : (f : ℕ → ℕ) (xs : List ℕ) → ((x y : ℕ) → is_in xs x ≡ true → is_in xs y ≡ true → f x ≡ f y → x ≡ y) → repeats xs ≡ false → repeats (map f xs) ≡ false
unfolding repeats
repeats-made f [] apart once = refl
repeats-made f (x ∷ xs) apart once =
    let parts : (is_in xs x ≡ false) × (repeats xs ≡ false) = or_parts (is_in xs x) (repeats xs) once in
    or_from (is_in (map f xs) (f x)) (repeats (map f xs))
    (false_from_ne_true (is_in (map f xs) (f x)) (λ e.
    let found : (y : ℕ) × (is_in xs y ≡ true) × (f y ≡ f x) = in-mapped f xs (f x) e in
    true≢false (sym found.1 ∙ ap (is_in xs) (apart found.0 x (in-rest x xs found.0 found.1) (in-first x xs x refl) found.2) ∙ parts.0)))
    (repeats-made f xs (λ y z one two same. apart y z (in-rest x xs y one) (in-rest x xs z two) same) parts.1)

-- a list of which none repeats is no longer than one that has what each of its numbers is made into
pub no-longer : (f : ℕ → ℕ) (xs ys : List ℕ) → ((x : ℕ) → is_in xs x ≡ true → is_in ys (f x) ≡ true) → ((x y : ℕ) → is_in xs x ≡ true → is_in xs y ≡ true → f x ≡ f y → x ≡ y) →
    repeats xs ≡ false → length xs ≤ length ys
no-longer f xs ys among apart once =
    let places : repeats (map (λ x. place_in ys (f x)) xs) ≡ false =
    repeats-made (λ x. place_in ys (f x)) xs
    (λ x y one two same.
    apart x y one two (sym (nth-place ys (f x) (among x one)) ∙ ap (λ (n : ℕ). slice_index_or ys n 0) same ∙ nth-place ys (f y) (among y two))) once in
    omega (
      arith,
      length-map xs (λ x. place_in ys (f x)),
      few-differ (length ys) (map (λ x. place_in ys (f x)) xs)
          (λ n there.
          let found : (x : ℕ) × (is_in xs x ≡ true) × (place_in ys (f x) ≡ n) = in-mapped (λ x. place_in ys (f x)) xs n there in
          subst (λ (k : ℕ). k < length ys) found.2 (place-within ys (f found.0) (among found.0 found.1)))
          places,
    )
