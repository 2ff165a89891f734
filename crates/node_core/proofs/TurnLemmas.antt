-- A turn picks a port that is ready, and the port behind the last one comes first.
use Rattle.std.proofs.Common.{◌≡◌, ◌<◌, ◌≤◌, ◌+◌, ◌-◌, ℕ, zero, suc, Bool, true, false, cond, Option, Some, None, IsTrue, refl, sym, ◌∙◌, ap, subst, inl, inr, arith}
use Rattle.std.specs.Prelude.{IfSome, IsSome, is_some}
use Rattle.std.specs.List.{find, range_with_len}
use Rattle.std.specs.Option.{option_or}
use Rattle.std.proofs.lemmas.Bool.{cases_lt}
use Rattle.std.proofs.lemmas.List.Folds.{find-append}
use Rattle.std.proofs.lemmas.Option.{none-some, same_Some}
use Rattle.node_core.specs.Turn.{IsTurn, PickedIsReady, ReadyIsPicked, TurnState, TurnsGoOn, first_in_turn, turned_to}

module _ (is_ready : ℕ → Bool) where
  -- what is found among these numbers is one of them, and ready
  found : (n first port : ℕ) → find is_ready (range_with_len first n) ≡ Some port → (port < first + n) × (is_ready port ≡ true)
  found zero first port is = absurd (none-some port is)
  found (suc n) first port is = go (is_ready first) refl (found n (first + 1) port) is
    where
      go : (b : Bool) → is_ready first ≡ b → (find is_ready (range_with_len (first + 1) n) ≡ Some port → (port < (first + 1) + n) × (is_ready port ≡ true)) →
          cond b (Some first) (find is_ready (range_with_len (first + 1) n)) ≡ Some port → (port < first + suc n) × (is_ready port ≡ true)
      go true here more is = let same : first ≡ port = same_Some first port is in (omega (arith, same), ap is_ready (sym same) ∙ here)
      go false here more is = let later = more is in (omega (arith, later.0), later.1)

  -- where one of these numbers is ready, one is found
  finds : (n first port : ℕ) → first ≤ port → port < first + n → is_ready port ≡ true → IsSome (find is_ready (range_with_len first n))
  finds zero first port from within is = absurd (omega (arith, from, within))
  finds (suc n) first port from within is = go (is_ready first) refl (λ behind. finds n (first + 1) port behind (omega (arith, within)) is)
    where
      go : (b : Bool) → is_ready first ≡ b → (first + 1 ≤ port → IsSome (find is_ready (range_with_len (first + 1) n))) → IsSome (cond b (Some first) (find is_ready (range_with_len (first + 1) n)))
      go true here more = refl
      go false here more = elim (cases_lt first port) [
        | inl behind ↦ more (omega (arith, behind))
        | inr not_behind ↦ let same : port ≡ first = omega (arith, from, not_behind) in absurd (let both : true ≡ false = sym is ∙ ap is_ready same ∙ here in cc)
      ]

-- what either of two searches finds
either : {X : Type 0} (a b : Option X) (x : X) → option_or a b ≡ Some x → (P : Type 0) → (a ≡ Some x → P) → (b ≡ Some x → P) → P
either None b x is P left right = right is
either (Some y) b x is P left right = left is

some-left : {X : Type 0} (a b : Option X) → IsSome a → IsSome (option_or a b)
some-left None b is = absurd (cc)
some-left (Some x) b is = refl

some-right : {X : Type 0} (a b : Option X) → IsSome b → IsSome (option_or a b)
some-right None b is = is
some-right (Some x) b is = refl

module _ (is_ready : ℕ → Bool) (t : TurnState) where
  two-searches : first_in_turn is_ready t ≡ option_or (find is_ready (range_with_len (t.last + 1) (t.ports - (t.last + 1)))) (find is_ready (range_with_len 0 (t.last + 1)))
  two-searches = find-append is_ready (range_with_len (t.last + 1) (t.ports - (t.last + 1))) (range_with_len 0 (t.last + 1))

pub picked-is_ready : PickedIsReady
picked-is_ready is_ready t port turn is =
    either (find is_ready (range_with_len (t.last + 1) (t.ports - (t.last + 1)))) (find is_ready (range_with_len 0 (t.last + 1))) port (sym (two-searches is_ready t) ∙ is)
    ((port < t.ports) × IsTrue (is_ready port))
    (λ here. let one = found is_ready (t.ports - (t.last + 1)) (t.last + 1) port here in (omega (arith, one.0, turn.last), one.1))
    (λ here. let one = found is_ready (t.last + 1) 0 port here in (omega (arith, one.0, turn.last), one.1))

pub ready-is_picked : ReadyIsPicked
ready-is_picked is_ready t port turn within is =
    subst (λ (o : Option ℕ). IsSome o) (sym (two-searches is_ready t)) (elim (cases_lt t.last port) [
      | inl behind ↦ some-left _ _ (finds is_ready (t.ports - (t.last + 1)) (t.last + 1) port (omega (arith, behind)) (omega (arith, behind, within)) is)
      | inr up_to ↦ some-right _ _ (finds is_ready (t.last + 1) 0 port (omega arith) (omega (arith, up_to)) is)
    ])

-- the first of some numbers, where it is ready
first-found : (is_ready : ℕ → Bool) (first n : ℕ) → 0 < n → is_ready first ≡ true → find is_ready (range_with_len first n) ≡ Some first
first-found is_ready first zero some is = absurd (omega (arith, some))
first-found is_ready first (suc n) some is = ap (λ (b : Bool). cond b (Some first) (find is_ready (range_with_len (first + 1) n))) is

pub turns-go_on : TurnsGoOn
turns-go_on is_ready t port within is =
    two-searches is_ready (turned_to port t)
    ∙ ap (λ (o : Option ℕ). option_or o (find is_ready (range_with_len 0 (port + 1)))) (first-found is_ready (port + 1) (t.ports - (port + 1)) (omega (arith, within)) is)

-- The loop over the ports: one that isn't ready is passed over, and the first one that is ready is found.
pub passes-over : (is_ready : ℕ → Bool) (first end : ℕ) → first < end → is_ready first ≡ false →
    find is_ready (range_with_len first (end - first)) ≡ find is_ready (range_with_len (first + 1) (end - (first + 1)))
passes-over is_ready first end within is =
    let more : end - first ≡ suc (end - (first + 1)) = omega (arith, within) in
    ap (λ (n : ℕ). find is_ready (range_with_len first n)) more
    ∙ ap (λ (b : Bool). cond b (Some first) (find is_ready (range_with_len (first + 1) (end - (first + 1))))) is

pub stops-at : (is_ready : ℕ → Bool) (first end : ℕ) → first < end → is_ready first ≡ true → find is_ready (range_with_len first (end - first)) ≡ Some first
stops-at is_ready first end within is = first-found is_ready first (end - first) (omega (arith, within)) is

pub none-left : (is_ready : ℕ → Bool) (first end : ℕ) → end ≤ first → find is_ready (range_with_len first (end - first)) ≡ None
none-left is_ready first end past = let none : end - first ≡ 0 = omega (arith, past) in ap (λ (n : ℕ). find is_ready (range_with_len first n)) none

-- The two searches: what the first one finds is picked, and where it finds none, what the second one finds.
pub picked-behind : (is_ready : ℕ → Bool) (t : TurnState) (o : Option ℕ) → o ≡ find is_ready (range_with_len (t.last + 1) (t.ports - (t.last + 1))) → is_some o ≡ true → o ≡ first_in_turn is_ready t
picked-behind is_ready t None is some = absurd (cc)
picked-behind is_ready t (Some port) is some = sym (two-searches is_ready t ∙ ap (λ (o : Option ℕ). option_or o (find is_ready (range_with_len 0 (t.last + 1)))) (sym is))

pub picked-up_to : (is_ready : ℕ → Bool) (t : TurnState) (o p : Option ℕ) → o ≡ find is_ready (range_with_len (t.last + 1) (t.ports - (t.last + 1))) → is_some o ≡ false →
    p ≡ find is_ready (range_with_len 0 ((t.last + 1) - 0)) → p ≡ first_in_turn is_ready t
picked-up_to is_ready t None p is none then =
    let all : (t.last + 1) - 0 ≡ t.last + 1 = omega arith in
    sym (two-searches is_ready t ∙ ap (λ (o : Option ℕ). option_or o (find is_ready (range_with_len 0 (t.last + 1)))) (sym is) ∙ sym (then ∙ ap (λ (n : ℕ). find is_ready (range_with_len 0 n)) all))
picked-up_to is_ready t (Some port) p is none then = absurd (cc)

-- what is picked is a port
pub picked-within : (is_ready : ℕ → Bool) (t : TurnState) (o : Option ℕ) → IsTurn t → o ≡ first_in_turn is_ready t → IfSome o (λ port. port < t.ports)
picked-within is_ready t None turn is = tt
picked-within is_ready t (Some port) turn is = (picked-is_ready is_ready t port turn (sym is)).0
