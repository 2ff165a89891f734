-- Rounds of a port of either kind that are judged alike, and rows of rounds in which nothing is offered.
use Rattle.std.proofs.Common.{◌≡◌, ℕ, ◌∷◌, [], ◌++◌, Bool, true, false, List, Option, Some, None, refl, sym, ap, ◌∙◌, append_assoc}
use Rattle.std.specs.Prelude.{if◌then◌else◌}
use Rattle.std.proofs.lemmas.List.{append-nil}
use Rattle.axi_history.specs.declared.port.PortKind.{PortKind}
use Rattle.axi_history.specs.declared.port.PortRound.{PortRound}
use Rattle.axi_history.specs.PortRules.{or_else, axi4_fault, first_fault}
use Rattle.axi_history.proofs.HistoryLemmas.{first_append}
use Rattle.lite_rules.specs.LiteRules.{lite_fault}
use Rattle.lite_rules.specs.PortFaults.{round_fault, history_fault}
use Rattle.lite_rules.proofs.PortFaultLemmas.{port_fault_stays, port_fault_anew}
use Rattle.trace_judge.specs.Alike.{Alike, SameOffers, IsQuiet}
use Rattle.trace_judge.specs.QuietRounds.{QuietRoundsAreOne}
use Rattle.trace_judge.proofs.AlikeLemmas.{alike_more, alike_quiet, same_refl, axi4_alike, axi4_quiet}
use Rattle.trace_judge.proofs.LiteAlike.{lite_alike, lite_quiet}

-- by the kind of the port
abbrev fault_by_kind : Bool → ℕ → List PortRound → PortRound → Option (ℕ × ℕ)
fault_by_kind lite bus = if lite then lite_fault bus else axi4_fault bus

pub judged_alike : (port : PortKind) (h g : List PortRound) (r s : PortRound) → Alike h g → SameOffers r s → round_fault port h r ≡ round_fault port g s
judged_alike port h g r s a o = go port.lite
  where
    go : (lite : Bool) → fault_by_kind lite port.bus h r ≡ fault_by_kind lite port.bus g s
    go true = lite_alike port.bus h g r s a o
    go false = axi4_alike port.bus h g r s a o

-- a round in which nothing is offered breaks nothing after another such round that breaks nothing
quiet_again : (port : PortKind) (h : List PortRound) (q r : PortRound) → IsQuiet q → IsQuiet r → round_fault port h q ≡ None → round_fault port (h ++ q ∷ []) r ≡ None
quiet_again port h q r a o kept = go port.lite kept
  where
    go : (lite : Bool) → fault_by_kind lite port.bus h q ≡ None → fault_by_kind lite port.bus (h ++ q ∷ []) r ≡ None
    go true kept = lite_quiet port.bus h q r a o
    go false kept = axi4_quiet port.bus h q r a o kept

-- ---- rows of such rounds

-- what is broken up to there
pub again_same : (port : PortKind) (h : List PortRound) (q r : PortRound) → IsQuiet q → IsQuiet r → history_fault port ((h ++ q ∷ []) ++ r ∷ []) ≡ history_fault port (h ++ q ∷ [])
again_same port h q r a o = go (history_fault port (h ++ q ∷ [])) refl
  where
    legal : (f : Option (ℕ × ℕ)) → history_fault port h ≡ f → history_fault port (h ++ q ∷ []) ≡ None → round_fault port h q ≡ None
    legal None e kept = sym (port_fault_anew port h q e) ∙ kept
    legal (Some f) e kept = let bad : Some f ≡ None = sym (port_fault_stays port h q f e) ∙ kept in absurd cc

    go : (f : Option (ℕ × ℕ)) → history_fault port (h ++ q ∷ []) ≡ f → history_fault port ((h ++ q ∷ []) ++ r ∷ []) ≡ history_fault port (h ++ q ∷ [])
    go (Some f) e = port_fault_stays port (h ++ q ∷ []) r f e ∙ sym e
    go None e = port_fault_anew port (h ++ q ∷ []) r e ∙ quiet_again port h q r a o (legal (history_fault port h) refl e) ∙ sym e

first_alike : (port : PortKind) (h g later : List PortRound) → Alike h g → first_fault (round_fault port) h later ≡ first_fault (round_fault port) g later
first_alike port h g [] a = refl
first_alike port h g (r ∷ later) a =
    ap (λ (o : Option (ℕ × ℕ)). or_else o (first_fault (round_fault port) (h ++ r ∷ []) later)) (judged_alike port h g r r a (same_refl r))
    ∙ ap (λ (o : Option (ℕ × ℕ)). or_else (round_fault port g r) o) (first_alike port (h ++ r ∷ []) (g ++ r ∷ []) later (alike_more h g r r a (same_refl r)))

twice : (port : PortKind) (h : List PortRound) (q r : PortRound) (later : List PortRound) → IsQuiet q → IsQuiet r → history_fault port (((h ++ q ∷ []) ++ r ∷ []) ++ later) ≡ history_fault port ((h ++ q ∷ []) ++ later)
twice port h q r later a o =
    first_append (round_fault port) [] ((h ++ q ∷ []) ++ r ∷ []) later
    ∙ ap (λ (v : Option (ℕ × ℕ)). or_else v (first_fault (round_fault port) ((h ++ q ∷ []) ++ r ∷ []) later)) (again_same port h q r a o)
    ∙ ap (λ (v : Option (ℕ × ℕ)). or_else (history_fault port (h ++ q ∷ [])) v) (first_alike port ((h ++ q ∷ []) ++ r ∷ []) (h ++ q ∷ []) later (alike_quiet h q r a o))
    ∙ sym (first_append (round_fault port) [] (h ++ q ∷ []) later)

pub quiet_are_one : QuietRoundsAreOne
quiet_are_one port h q [] later a all = ap (λ (v : List PortRound). history_fault port (v ++ later)) (append-nil (h ++ q ∷ []))
quiet_are_one port h q (r ∷ more) later a all =
    ap (λ (v : List PortRound). history_fault port (v ++ later)) (sym (append_assoc (h ++ q ∷ []) (r ∷ []) more))
    ∙ quiet_are_one port (h ++ q ∷ []) r more later all.0 all.1
    ∙ twice port h q r later a all.0
