-- Rounds without moves: tests that all fail, and links that stay.
use Rattle.std.proofs.Common.{◌≡◌, ◌⊎◌, ◌<◌, ◌+◌, ◌++◌, ◌&&◌, ◌||◌, ℕ, zero, suc, Bool, true, false, List, [], ◌∷◌, map, Option, Some, None, inl, inr, append-nil, refl, ◌∙◌, ap, subst, arith}
use Rattle.std.proofs.lemmas.Bool.{cases_lt}
use Rattle.std.specs.List.{AllByRecursion, list_all, list_any}
use Rattle.std.specs.Option.{option_map_or}
use Rattle.std.specs.Prelude.{is_some, slice_get}
use Rattle.axi_beats.specs.declared.beat.Addr.{Addr}
use Rattle.axi_beats.specs.declared.beat.BBeat.{BBeat}
use Rattle.axi_beats.specs.declared.beat.RBeat.{RBeat}
use Rattle.axi_beats.specs.declared.beat.WBeat.{WBeat}
use Rattle.axi_link.specs.LinkView.{LinkView}
use Rattle.axi_link.specs.Moves.{link_after}
use Rattle.axi_link.specs.declared.out.Out.{Out}
use Rattle.net_progress.specs.Moving.{has_moves}
use Rattle.node_core.specs.Acted.{no_moves}
use Rattle.plain_lists.specs.Numbered.{numbered}

neither : (a b : Bool) → (a || b) ≡ false → (a ≡ false) × (b ≡ false)
neither true b is = absurd (cc)
neither false b is = (refl, is)

-- tests of which none passes
none-pass : (tests : List Bool) → list_any (λ b. b) tests ≡ false → AllByRecursion (λ (b : Bool). b ≡ false) tests
none-pass [] none = tt
none-pass (b ∷ tests) none = let both = neither b (list_any (λ b. b) tests) none in (both.0, none-pass tests both.1)

is-none : {X : Type 0} (o : Option X) → is_some o ≡ false → o ≡ None
is-none None is = refl
is-none (Some x) is = absurd (cc)

-- an out that has no moves
pub no-moves : (o : Out) → has_moves o ≡ false → o ≡ no_moves
no-moves o still =
    let none =
    none-pass
    (is_some o.aw_take ∷ is_some o.aw_put ∷ is_some o.w_take ∷ is_some o.w_put ∷ is_some o.b_take ∷ is_some o.b_put ∷ is_some o.ar_take ∷ is_some o.ar_put ∷ is_some o.r_take ∷ is_some o.r_put ∷ [])
    still in
    ap (λ x. record o { aw_take = x }) (is-none o.aw_take none.0)
    ∙ ap (λ x. record o { aw_take = None; aw_put = x }) (is-none o.aw_put none.1.0)
    ∙ ap (λ x. record o { aw_take = None; aw_put = None; w_take = x }) (is-none o.w_take none.1.1.0)
    ∙ ap (λ x. record o { aw_take = None; aw_put = None; w_take = None; w_put = x }) (is-none o.w_put none.1.1.1.0)
    ∙ ap (λ x. record o { aw_take = None; aw_put = None; w_take = None; w_put = None; b_take = x }) (is-none o.b_take none.1.1.1.1.0)
    ∙ ap (λ x. record o { aw_take = None; aw_put = None; w_take = None; w_put = None; b_take = None; b_put = x }) (is-none o.b_put none.1.1.1.1.1.0)
    ∙ ap (λ x. record no_moves { ar_take = x; ar_put = o.ar_put; r_take = o.r_take; r_put = o.r_put }) (is-none o.ar_take none.1.1.1.1.1.1.0)
    ∙ ap (λ x. record no_moves { ar_put = x; r_take = o.r_take; r_put = o.r_put }) (is-none o.ar_put none.1.1.1.1.1.1.1.0)
    ∙ ap (λ x. record no_moves { r_take = x; r_put = o.r_put }) (is-none o.r_take none.1.1.1.1.1.1.1.1.0)
    ∙ ap (λ x. record no_moves { r_put = x }) (is-none o.r_put none.1.1.1.1.1.1.1.1.1.0)

-- what none of a list has, its items lack
pub none-at : {X Y : Type 0} (f : X → Y) (p : Y → Bool) (xs : List X) → list_any p (map f xs) ≡ false → (k : ℕ) (x : X) → slice_get xs k ≡ Some x → p (f x) ≡ false
none-at f p [] none k x at = absurd (cc)
none-at {X} f p (y ∷ xs) none zero x at = let same : y ≡ x = cc in subst (λ (z : X). p (f z) ≡ false) same (neither (p (f y)) (list_any p (map f xs)) none).0
none-at f p (y ∷ xs) none (suc k) x at = none-at f p xs (neither (p (f y)) (list_any p (map f xs)) none).1 k x at

-- and what all items have, the list has
pub all-have : {X : Type 0} (p : X → Bool) (xs : List X) → ((k : ℕ) → option_map_or p (slice_get xs k) true ≡ true) → list_all p xs ≡ true
all-have p [] each = refl
all-have p (x ∷ xs) each =
    let here : p x ≡ true = each 0 in
    ap (λ (b : Bool). b && list_all p xs) here ∙ all-have p xs (λ k. each (suc k))

-- the first of so many that passes, or none does
pub some-true : (test : ℕ → Bool) (k : ℕ) → ((i : ℕ) × (i < k) × (test i ≡ true)) ⊎ ((i : ℕ) → i < k → test i ≡ false)
some-true test zero = inr (λ i within. absurd (omega (arith, within)))
some-true test (suc k) = elim (some-true test k) [
  | inl found ↦ inl (found.0, omega (arith, found.1), found.2)
  | inr none ↦
      let Goal : Type 0 = ((i : ℕ) × (i < suc k) × (test i ≡ true)) ⊎ ((i : ℕ) → i < suc k → test i ≡ false) in
      let go : (b : Bool) → test k ≡ b → Goal = λ b. elim b as (λ b. test k ≡ b → Goal) [
        | true ↦ λ is. inl (k, omega arith, is)
        | false ↦ λ is. inr (λ i within. elim (cases_lt i k) [
          | inl before ↦ none i before
          | inr ge ↦ let same : i ≡ k = omega (arith, ge, within) in ap test same ∙ is
        ])
      ] in go (test k) refl
]

-- a list whose elements all stay
pub numbered-same : {X : Type 0} (f : ℕ → X → X) (first : ℕ) (xs : List X) → ((l : ℕ) (x : X) → f l x ≡ x) → numbered f first xs ≡ xs
numbered-same f first [] each = refl
numbered-same {X} f first (x ∷ xs) each =
    ap (λ (y : X). y ∷ numbered f (first + 1) xs) (each first x) ∙ ap (λ (ys : List X). x ∷ ys) (numbered-same f (first + 1) xs each)

-- a link stays where nothing is moved
pub link-rests : (number : ℕ) (link : LinkView) → link_after number link no_moves no_moves ≡ link
link-rests number link =
    ap (λ (x : List Addr). record { aw = x; w = link.w ++ []; b = link.b ++ []; ar = link.ar ++ []; r = link.r ++ []; depth = link.depth }) (append-nil link.aw)
    ∙ ap (λ (x : List WBeat). record { aw = link.aw; w = x; b = link.b ++ []; ar = link.ar ++ []; r = link.r ++ []; depth = link.depth }) (append-nil link.w)
    ∙ ap (λ (x : List BBeat). record { aw = link.aw; w = link.w; b = x; ar = link.ar ++ []; r = link.r ++ []; depth = link.depth }) (append-nil link.b)
    ∙ ap (λ (x : List Addr). record { aw = link.aw; w = link.w; b = link.b; ar = x; r = link.r ++ []; depth = link.depth }) (append-nil link.ar)
    ∙ ap (λ (x : List RBeat). record { aw = link.aw; w = link.w; b = link.b; ar = link.ar; r = x; depth = link.depth }) (append-nil link.r)
