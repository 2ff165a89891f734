-- The rounds before the first one that breaks a rule.
use Rattle.std.proofs.Common.{◌≡◌, ℕ, ◌≤◌, ◌∷◌, [], ◌++◌, List, Option, Some, None, length, refl, ap, ◌∙◌, zero, suc, arith}
use Rattle.std.specs.Prelude.{take, is_none, if◌then◌else◌}
use Rattle.axi_history.specs.declared.port.PortKind.{PortKind}
use Rattle.axi_history.specs.declared.port.PortRound.{PortRound}
use Rattle.axi_history.specs.PortRules.{or_else, first_fault}
use Rattle.lite_rules.specs.PortFaults.{round_fault, history_fault}
use Rattle.port_rules.specs.Laws.{IsLongestLegal}
use Rattle.port_rules.specs.Unanswered.{before_fault, legal_beginning}

-- what one round of some that follow others tells of those behind it
abbrev Fault : Type 0
Fault = List PortRound → PortRound → Option (ℕ × ℕ)

abbrev step : Option (ℕ × ℕ) → PortRound → List PortRound → List PortRound
step found r rest = if is_none found then r ∷ rest else []

stays_step : (found : Option (ℕ × ℕ)) (f : ℕ × ℕ) (r : PortRound) (more : Option (ℕ × ℕ)) (rest rest' : List PortRound) → or_else found more ≡ Some f → (more ≡ Some f → rest ≡ rest') → step found r rest ≡ step found r rest'
stays_step None f r more rest rest' e same = ap (λ (xs : List PortRound). r ∷ xs) (same e)
stays_step (Some x) f r more rest rest' e same = refl

ends_step : (found : Option (ℕ × ℕ)) (f : ℕ × ℕ) (r : PortRound) → or_else found None ≡ Some f → step found r [] ≡ []
ends_step None f r e = absurd cc
ends_step (Some x) f r e = refl

stays : (fault : Fault) (earlier h : List PortRound) (r : PortRound) (f : ℕ × ℕ) → first_fault fault earlier (h ++ r ∷ []) ≡ Some f → before_fault fault earlier (h ++ r ∷ []) ≡ before_fault fault earlier h
stays fault earlier [] r f e = ends_step (fault earlier r) f r e
stays fault earlier (x ∷ h) r f e =
    stays_step (fault earlier x) f x (first_fault fault (earlier ++ x ∷ []) (h ++ r ∷ [])) (before_fault fault (earlier ++ x ∷ []) (h ++ r ∷ [])) (before_fault fault (earlier ++ x ∷ []) h) e
    (λ later. stays fault (earlier ++ x ∷ []) h r f later)

-- one more round that leaves a history illegal is no part of its legal beginning
pub beginning_stays : (port : PortKind) (h : List PortRound) (r : PortRound) (f : ℕ × ℕ) → history_fault port (h ++ r ∷ []) ≡ Some f → legal_beginning port (h ++ r ∷ []) ≡ legal_beginning port h
beginning_stays port h r f e = stays (round_fault port) [] h r f e

whole_step : (found : Option (ℕ × ℕ)) (r : PortRound) (more : Option (ℕ × ℕ)) (rest rounds : List PortRound) → or_else found more ≡ None → (more ≡ None → rest ≡ rounds) → step found r rest ≡ r ∷ rounds
whole_step None r more rest rounds e same = ap (λ (xs : List PortRound). r ∷ xs) (same e)
whole_step (Some x) r more rest rounds e same = absurd cc

whole : (fault : Fault) (earlier rounds : List PortRound) → first_fault fault earlier rounds ≡ None → before_fault fault earlier rounds ≡ rounds
whole fault earlier [] e = refl
whole fault earlier (x ∷ rounds) e =
    whole_step (fault earlier x) x (first_fault fault (earlier ++ x ∷ []) rounds) (before_fault fault (earlier ++ x ∷ []) rounds) rounds e
    (λ later. whole fault (earlier ++ x ∷ []) rounds later)

pub whole_beginning : (port : PortKind) (h : List PortRound) → history_fault port h ≡ None → legal_beginning port h ≡ h
whole_beginning port h e = whole (round_fault port) [] h e

-- ---- it is the longest beginning that breaks no rule

begins_step : (found : Option (ℕ × ℕ)) (r : PortRound) (rest rounds : List PortRound) → take (length rest) rounds ≡ rest → take (length (step found r rest)) (r ∷ rounds) ≡ step found r rest
begins_step None r rest rounds same = ap (λ (xs : List PortRound). r ∷ xs) same
begins_step (Some x) r rest rounds same = refl

begins : (fault : Fault) (earlier rounds : List PortRound) → take (length (before_fault fault earlier rounds)) rounds ≡ before_fault fault earlier rounds
begins fault earlier [] = refl
begins fault earlier (x ∷ rounds) = begins_step (fault earlier x) x (before_fault fault (earlier ++ x ∷ []) rounds) rounds (begins fault (earlier ++ x ∷ []) rounds)

legal_step : (fault : Fault) (earlier : List PortRound) (found : Option (ℕ × ℕ)) (r : PortRound) (rest : List PortRound) → fault earlier r ≡ found → first_fault fault (earlier ++ r ∷ []) rest ≡ None → first_fault fault earlier (step found r rest) ≡ None
legal_step fault earlier None r rest is same = ap (λ (o : Option (ℕ × ℕ)). or_else o (first_fault fault (earlier ++ r ∷ []) rest)) is ∙ same
legal_step fault earlier (Some x) r rest is same = refl

legal : (fault : Fault) (earlier rounds : List PortRound) → first_fault fault earlier (before_fault fault earlier rounds) ≡ None
legal fault earlier [] = refl
legal fault earlier (x ∷ rounds) = legal_step fault earlier (fault earlier x) x (before_fault fault (earlier ++ x ∷ []) rounds) refl (legal fault (earlier ++ x ∷ []) rounds)

longest_step : (found : Option (ℕ × ℕ)) (n : ℕ) (r : PortRound) (more : Option (ℕ × ℕ)) (rest : List PortRound) → or_else found more ≡ None → (more ≡ None → n ≤ length rest) → suc n ≤ length (step found r rest)
longest_step None n r more rest e within = let w = within e in omega arith
longest_step (Some x) n r more rest e within = absurd cc

longest : (fault : Fault) (earlier rounds : List PortRound) (n : ℕ) → n ≤ length rounds → first_fault fault earlier (take n rounds) ≡ None → n ≤ length (before_fault fault earlier rounds)
longest fault earlier rounds zero within e = omega arith
longest fault earlier [] (suc n) within e = absurd (omega arith)
longest fault earlier (x ∷ rounds) (suc n) within e =
    longest_step (fault earlier x) n x (first_fault fault (earlier ++ x ∷ []) (take n rounds)) (before_fault fault (earlier ++ x ∷ []) rounds) e
    (λ later. longest fault (earlier ++ x ∷ []) rounds n (omega arith) later)

pub longest_legal : (port : PortKind) (history : List PortRound) → IsLongestLegal port (legal_beginning port history) history
longest_legal port history = record {
  begins = begins (round_fault port) [] history;
  legal = legal (round_fault port) [] history;
  longest = λ n within e. longest (round_fault port) [] history n within e;
}
