-- What a manager has passed on its link, as every kind has to show it.
use Rattle.std.proofs.Common.{◌≡◌, ◌<◌, ◌||◌, ◌==◌, ℕ, zero, suc, Bool, true, false, List, [], ◌∷◌, ◌++◌, Some, length, map, refl, sym, ◌∙◌, ap, subst, arith, eq-eqb}
use Rattle.std.specs.List.{list_any}
use Rattle.std.specs.Prelude.{Contains, IsTrue, slice_get}
use Rattle.std.proofs.lemmas.List.Elements.{All-nil}
use Rattle.axi_beats.specs.declared.beat.Addr.{Addr}
use Rattle.axi_trail.specs.LinkContracts.{Answers, Asks}
use Rattle.axi_trail.specs.Schedule.{Schedule}
use Rattle.axi_trail.specs.Trail.{Beats, no_beats}
use Rattle.axi_trail.specs.Words.{number_of_address}
use Rattle.manager_node.specs.ManagerOrder.{IsAt, note_at}
use Rattle.manager_node.specs.ManagerState.{IsManager, ManagerState, new_manager}
use Rattle.manager_node.specs.ManagerTrail.{ManagerKeeps, has_issued, manager_kind}
use Rattle.manager_node.specs.Script.{ScriptItem}
use Rattle.manager_node.proofs.AskLaws.{manager-asks}
use Rattle.manager_node.proofs.Standing.{Standing, manager_trail}
use Rattle.manager_node.proofs.TrailLaws.{manager-opens, manager-steps}
use Rattle.node_shape.specs.Kind.{Passed, passed_after}
use Rattle.node_shape.specs.KindLaws.{AnswersAbove, AsksBelow, Lasts, MayDecide, Opens}
use Rattle.node_shape.specs.WayLaws.{FillsAtEnds}
use Rattle.node_shape.proofs.OneLinkLemmas.{all-one, of-one}
use Rattle.plain_lists.proofs.PlaceLemmas.{at-contains, map-from}

abbrev is_of : ℕ → Addr → Bool
is_of number a = number_of_address a == number

or-true : (a b : Bool) → b ≡ true → (a || b) ≡ true
or-true true b is = refl
or-true false b is = is

-- a number that is among those of addresses is found
any-at : (number : ℕ) (xs : List Addr) (k : ℕ) (a : Addr) → slice_get xs k ≡ Some a → number_of_address a ≡ number → list_any (is_of number) xs ≡ true
any-at number [] k a at same = absurd (cc)
any-at number (x ∷ xs) zero a at same =
    let one : x ≡ a = cc in
    ap (λ (b : Bool). b || list_any (is_of number) xs) (eq-eqb (number_of_address x) number (ap number_of_address one ∙ same))
any-at number (x ∷ xs) (suc k) a at same = or-true (is_of number x) (list_any (is_of number) xs) (any-at number xs k a at same)

any-first : (number : ℕ) (xs ys : List Addr) → list_any (is_of number) xs ≡ true → list_any (is_of number) (xs ++ ys) ≡ true
any-first number [] ys is = absurd (cc)
any-first number (x ∷ xs) ys is = go (is_of number x) (any-first number xs ys) is
  where
    go : (b : Bool) → (list_any (is_of number) xs ≡ true → list_any (is_of number) (xs ++ ys) ≡ true) → (b || list_any (is_of number) xs) ≡ true → (b || list_any (is_of number) (xs ++ ys)) ≡ true
    go true more is = refl
    go false more is = more is

any-second : (number : ℕ) (xs ys : List Addr) → list_any (is_of number) ys ≡ true → list_any (is_of number) (xs ++ ys) ≡ true
any-second number [] ys is = is
any-second number (x ∷ xs) ys is = or-true (is_of number x) (list_any (is_of number) (xs ++ ys)) (any-second number xs ys is)

any-of : (number : ℕ) (xs : List Addr) → Contains (map number_of_address xs) number → list_any (is_of number) xs ≡ true
any-of number xs has =
    let here : (k : ℕ) × (slice_get (map number_of_address xs) k ≡ Some number) = at-contains (map number_of_address xs) number has in
    let from : (a : Addr) × (slice_get xs here.0 ≡ Some a) × (number_of_address a ≡ number) = map-from number_of_address xs here.0 number here.1 in
    any-at number xs here.0 from.0 from.1 from.2

-- what is noted as issued has left the manager
issued-left : (schedule : Schedule) (rounds : ℕ) (s : ManagerState) (trail : Beats) → ManagerKeeps schedule rounds s trail → (place : ℕ) (item : ScriptItem) → IsAt s place item →
    0 < (note_at s place).issued → (write : Bool) → item.txn.write ≡ write → IsTrue (has_issued trail item.txn.number)
issued-left schedule rounds s trail keeps place item at some true directed =
    any-first item.txn.number trail.aw trail.ar (any-of item.txn.number trail.aw ((keeps.passed.write_notes place item at directed).issued.0 some))
issued-left schedule rounds s trail keeps place item at some false directed =
    any-second item.txn.number trail.aw trail.ar (any-of item.txn.number trail.ar ((keeps.passed.read_notes place item at directed).issued.0 some))

pub standing : (schedule : Schedule) (rounds : ℕ) (s : ManagerState) (trail : Beats) → IsManager s → ManagerKeeps schedule rounds s trail → Standing schedule rounds s trail
standing schedule rounds s trail fact keeps = record { is_manager = fact; scheduled = keeps.scheduled; in_order = keeps.in_order; passed = keeps.passed }

keeps-of : (schedule : Schedule) (rounds : ℕ) (s : ManagerState) (trail : Beats) → Standing schedule rounds s trail → ManagerKeeps schedule rounds s trail
keeps-of schedule rounds s trail stands = record { scheduled = stands.scheduled; in_order = stands.in_order; passed = stands.passed }

module _ (E : Type 0) where
  pub manager-kind_opens : Opens (manager_kind {E = E})
  manager-kind_opens schedules s new suits =
      let first : ManagerState = new_manager s.script s.lower s.bus s.paces in
      let stands : Standing (schedules s.lower) 0 first no_beats = manager-opens (schedules s.lower) s.script s.lower s.bus s.paces new.is_script new.bus_width new.legal suits in
      subst (λ (m : ManagerState). ManagerKeeps (schedules s.lower) 0 m no_beats) (sym new.new) (keeps-of (schedules s.lower) 0 first no_beats stands)

  pub manager-may_decide : MayDecide (manager_kind {E = E})
  manager-may_decide schedules now rounds links s passed fact suits uppers lowers asked = record { counted = omega arith; linked = of-one (λ l. l < length links) s.lower lowers }

  pub manager-kind_lasts : Lasts (manager_kind {E = E})
  manager-kind_lasts schedules now rounds links s passed fact keeps can around =
      let next : Passed E = passed_after (manager_kind {E = E}) (suc rounds) links s passed in
      keeps-of (schedules s.lower) (suc rounds) _ (manager_trail links s (passed.lowers s.lower))
      (manager-steps (schedules s.lower) now rounds links s (passed.lowers s.lower) (standing (schedules s.lower) rounds s (passed.lowers s.lower) fact keeps)
      (of-one (λ l. Answers (schedules l) now (next.lowers l)) s.lower around.answered_next))

  pub manager-asks_below : AsksBelow (manager_kind {E = E})
  manager-asks_below schedules now rounds s passed fact keeps known asked =
      let trail : Beats = passed.lowers s.lower in
      all-one (λ l. Asks (schedules l) now (passed.lowers l)) s.lower
      (manager-asks (schedules s.lower) now rounds s trail (standing (schedules s.lower) rounds s trail fact keeps)
      (λ place item at some. known.issued item.txn.number (issued-left (schedules s.lower) rounds s trail keeps place item at some item.txn.write refl)))

  pub manager-answers_above : AnswersAbove (manager_kind {E = E})
  manager-answers_above schedules now rounds s passed fact keeps known asked asks answered = All-nil (λ l. Answers (schedules l) now (passed.uppers l))

  pub manager-fills_nothing : FillsAtEnds (manager_kind {E = E})
  manager-fills_nothing schedules rounds s passed keeps number some = absurd (omega (arith, some))
