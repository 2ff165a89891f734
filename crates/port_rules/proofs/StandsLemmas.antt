-- What a checker stands for after a round.
use Rattle.std.proofs.Common.{◌≡◌, ◌≢◌, ℕ, ◌+◌, ◌-◌, ◌∷◌, [], ◌++◌, List, Option, Some, None, length, refl, sym, ap, ◌∙◌, subst, length-append}
use Rattle.std.specs.Prelude.{IfNone}
use Rattle.axi_history.specs.declared.port.PortKind.{PortKind}
use Rattle.axi_history.specs.declared.port.PortRound.{PortRound}
use Rattle.lite_rules.specs.PortFaults.{round_fault, history_fault}
use Rattle.lite_rules.proofs.PortFaultLemmas.{port_fault_stays, port_fault_anew}
use Rattle.port_rules.specs.declared.reads.Read.{Read}
use Rattle.port_rules.specs.declared.state.PortChecker.{PortChecker}
use Rattle.port_rules.specs.Kept.{Kept, kept_of, kept_after_round, unpaired_in}
use Rattle.port_rules.specs.KeptFaults.{kept_fault}
use Rattle.port_rules.specs.LiteHeld.{HeldOn}
use Rattle.port_rules.specs.StandsFor.{StandsFor}
use Rattle.port_rules.specs.OpenWrites.{OpenWrites}
use Rattle.port_rules.specs.Unanswered.{write_requests, write_answers, read_requests, read_answers, unanswered_writes, unanswered_reads}
use Rattle.port_rules.proofs.LegalLemmas.{beginning_stays}
use Rattle.port_rules.proofs.PortLemmas.{told_on, kept_on, nothing, start_on}
use Rattle.port_rules.proofs.UnansweredLemmas.{writes_left, reads_left}

-- what the longer history breaks first
pub broken_stays : (c : PortChecker) (h : List PortRound) (r : PortRound) (f : ℕ × ℕ) → StandsFor c h → c.fault ≡ Some f → history_fault c.port (h ++ r ∷ []) ≡ Some f
broken_stays c h r f s was = port_fault_stays c.port h r f (sym s.fault ∙ was)

round_told : (c c1 : PortChecker) (h : List PortRound) (r : PortRound) (f : Option (ℕ × ℕ)) → StandsFor c h → c.fault ≡ None → c1.port ≡ c.port → kept_of c1 ≡ kept_of c → kept_fault c1.port (kept_of c1) r ≡ f → history_fault c.port (h ++ r ∷ []) ≡ f
round_told c c1 h r f s was port1 kept1 judged =
    port_fault_anew c.port h r (sym s.fault ∙ was)
    ∙ sym (told_on c.port (kept_of c) h r (s.held was)) ∙ ap (λ (p : PortKind). kept_fault p (kept_of c) r) (sym port1) ∙ ap (λ (k : Kept). kept_fault c1.port k r) (sym kept1) ∙ judged

pub broken_told : (c c1 : PortChecker) (h : List PortRound) (r : PortRound) (f : ℕ × ℕ) → StandsFor c h → c.fault ≡ None → c1.port ≡ c.port → kept_of c1 ≡ kept_of c → kept_fault c1.port (kept_of c1) r ≡ Some f → history_fault c.port (h ++ r ∷ []) ≡ Some f
broken_told c c1 h r f s was port1 kept1 judged = round_told c c1 h r (Some f) s was port1 kept1 judged

pub legal_told : (c c1 : PortChecker) (h : List PortRound) (r : PortRound) → StandsFor c h → c.fault ≡ None → c1.port ≡ c.port → kept_of c1 ≡ kept_of c → kept_fault c1.port (kept_of c1) r ≡ None → history_fault c.port (h ++ r ∷ []) ≡ None
legal_told c c1 h r s was port1 kept1 judged = round_told c c1 h r None s was port1 kept1 judged

-- the requests that wait for their answer, where the last round breaks a rule or an earlier one did
writes_stay : (c c' : PortChecker) (h : List PortRound) (r : PortRound) (f : ℕ × ℕ) → StandsFor c h → history_fault c.port (h ++ r ∷ []) ≡ Some f → (kept_of c').writes ≡ (kept_of c).writes → c'.port ≡ c.port →
    length c'.writes.issued.items + length c'.writes.whole.items ≡ unanswered_writes c'.port (h ++ r ∷ [])
writes_stay c c' h r f s broken writes port =
    ap (λ (o : OpenWrites). length o.issued + length o.whole) writes ∙ s.writes
    ∙ ap (λ (xs : List PortRound). write_requests xs - write_answers xs) (sym (beginning_stays c.port h r f broken))
    ∙ ap (λ (p : PortKind). unanswered_writes p (h ++ r ∷ [])) (sym port)

reads_stay : (c c' : PortChecker) (h : List PortRound) (r : PortRound) (f : ℕ × ℕ) → StandsFor c h → history_fault c.port (h ++ r ∷ []) ≡ Some f → (kept_of c').reads ≡ (kept_of c).reads → c'.port ≡ c.port →
    length c'.reads.reads.items ≡ unanswered_reads c'.port (h ++ r ∷ [])
reads_stay c c' h r f s broken reads port =
    ap (λ (xs : List Read). length xs) reads ∙ s.reads
    ∙ ap (λ (xs : List PortRound). read_requests xs - read_answers xs) (sym (beginning_stays c.port h r f broken))
    ∙ ap (λ (p : PortKind). unanswered_reads p (h ++ r ∷ [])) (sym port)

-- after a broken rule
pub stays_broken : (c c' : PortChecker) (h : List PortRound) (r : PortRound) (f : ℕ × ℕ) → StandsFor c h → c.fault ≡ Some f → c'.fault ≡ Some f → (kept_of c').writes ≡ (kept_of c).writes → (kept_of c').reads ≡ (kept_of c).reads → c'.port ≡ c.port → c'.rounds ≡ c.rounds + 1 → StandsFor c' (h ++ r ∷ [])
stays_broken c c' h r f s was is writes reads port rounds =
    let longer : length (h ++ r ∷ []) ≡ length h + 1 = length-append h (r ∷ []) in
    let broken : history_fault c.port (h ++ r ∷ []) ≡ Some f = broken_stays c h r f s was in
    record {
      rounds = rounds ∙ ap (λ (n : ℕ). n + 1) s.rounds ∙ sym longer;
      fault = is ∙ sym broken ∙ ap (λ (p : PortKind). history_fault p (h ++ r ∷ [])) (sym port);
      held = λ none. let bad : Some f ≡ None = sym is ∙ none in absurd cc;
      writes = writes_stay c c' h r f s broken writes port;
      reads = reads_stay c c' h r f s broken reads port;
    }

-- a round that breaks a rule, and one that breaks none
pub breaks : (c c1 c' : PortChecker) (h : List PortRound) (r : PortRound) (f : ℕ × ℕ) → StandsFor c h → c.fault ≡ None → c1.port ≡ c.port → kept_of c1 ≡ kept_of c → kept_fault c1.port (kept_of c1) r ≡ Some f → c'.fault ≡ Some f → (kept_of c').writes ≡ (kept_of c1).writes → (kept_of c').reads ≡ (kept_of c1).reads → c'.port ≡ c.port → c'.rounds ≡ c.rounds + 1 → StandsFor c' (h ++ r ∷ [])
breaks c c1 c' h r f s was port1 kept1 judged is writes reads port rounds =
    let longer : length (h ++ r ∷ []) ≡ length h + 1 = length-append h (r ∷ []) in
    let broken : history_fault c.port (h ++ r ∷ []) ≡ Some f = broken_told c c1 h r f s was port1 kept1 judged in
    record {
      rounds = rounds ∙ ap (λ (n : ℕ). n + 1) s.rounds ∙ sym longer;
      fault = is ∙ sym broken ∙ ap (λ (p : PortKind). history_fault p (h ++ r ∷ [])) (sym port);
      held = λ none. let bad : Some f ≡ None = sym is ∙ none in absurd cc;
      writes = writes_stay c c' h r f s broken (writes ∙ ap (λ (k : Kept). k.writes) kept1) port;
      reads = reads_stay c c' h r f s broken (reads ∙ ap (λ (k : Kept). k.reads) kept1) port;
    }

pub grows : (c c1 c' : PortChecker) (h : List PortRound) (r : PortRound) → StandsFor c h → c.fault ≡ None → c1.port ≡ c.port → kept_of c1 ≡ kept_of c → kept_fault c1.port (kept_of c1) r ≡ None → kept_of c' ≡ kept_after_round c1.port.lite (kept_of c1) r → c'.fault ≡ None → c'.port ≡ c.port → c'.rounds ≡ c.rounds + 1 → StandsFor c' (h ++ r ∷ [])
grows c c1 c' h r s was port1 kept1 legal kept' is port rounds =
    let longer : length (h ++ r ∷ []) ≡ length h + 1 = length-append h (r ∷ []) in
    let keeps : history_fault c.port (h ++ r ∷ []) ≡ None = legal_told c c1 h r s was port1 kept1 legal in
    let now : round_fault c.port h r ≡ None = sym (port_fault_anew c.port h r (sym s.fault ∙ was)) ∙ keeps in
    let same : kept_after_round c.port.lite (kept_of c) r ≡ kept_of c' = ap (λ (k : Kept). kept_after_round c.port.lite k r) (sym kept1) ∙ ap (λ (p : PortKind). kept_after_round p.lite (kept_of c1) r) (sym port1) ∙ sym kept' in
    let held : HeldOn c.port (kept_of c') (h ++ r ∷ []) = subst (λ (k : Kept). HeldOn c.port k (h ++ r ∷ [])) same (kept_on c.port (kept_of c) h r (s.held was) now) in
    record {
      rounds = rounds ∙ ap (λ (n : ℕ). n + 1) s.rounds ∙ sym longer;
      fault = is ∙ sym keeps ∙ ap (λ (p : PortKind). history_fault p (h ++ r ∷ [])) (sym port);
      held = λ none. subst (λ (p : PortKind). HeldOn p (kept_of c') (h ++ r ∷ [])) (sym port) held;
      writes = writes_left c.port (kept_of c') (h ++ r ∷ []) held keeps ∙ ap (λ (p : PortKind). unanswered_writes p (h ++ r ∷ [])) (sym port);
      reads = reads_left c.port (kept_of c') (h ++ r ∷ []) held keeps ∙ ap (λ (p : PortKind). unanswered_reads p (h ++ r ∷ [])) (sym port);
    }

pub if_none : {X P : Type 0} {o : Option X} → o ≡ None → IfNone o P → P
if_none {X} {P} {o} e p = subst (λ (x : Option X). IfNone x P) e p

pub not_none : {X : Type 0} {o : Option X} {x : X} → o ≡ Some x → o ≢ None
not_none {X} {o} {x} e none = let bad : Some x ≡ None = sym e ∙ none in absurd cc

-- ---- a checker that was given no round

pub stands_at_first : (c : PortChecker) → c.rounds ≡ 0 → c.fault ≡ None → c.waits ≡ record { aw = None; w = None; b = None; ar = None; r = None } → unpaired_in c.bursts ≡ record { addresses = []; passed = 0; beats = [] } →
    c.writes.issued.items ≡ [] → c.writes.surplus ≡ 0 → c.writes.whole.items ≡ [] → c.reads.reads.items ≡ [] → StandsFor c []
stands_at_first c rounds fault waits unpaired issued surplus whole reads =
    let same : kept_of c ≡ nothing = rw (waits, unpaired, issued, surplus, whole, reads) refl in
    record {
      rounds = rounds;
      fault = fault;
      held = λ none. subst (λ (k : Kept). HeldOn c.port k []) (sym same) (start_on c.port);
      writes = rw (issued, whole) refl;
      reads = rw reads refl;
    }
