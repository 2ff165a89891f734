-- What a verdict says of each link.
use Rattle.std.proofs.Common.{◌≡◌, ◌≢◌, ℕ, ◌+◌, ◌<◌, ◌≤◌, ◌∷◌, [], ◌⊎◌, inl, inr, Bool, true, false, List, Option, Some, None, refl, sym, ap, subst, ◌∙◌, arith, length, suc, zero, ltb}
use Rattle.std.specs.Prelude.{if◌then◌else◌, Result, Ok, Err}
use Rattle.std.specs.List.{find}
use Rattle.std.specs.Option.{option_map}
use Rattle.std.proofs.lemmas.Bool.{ne_eqb, ltb-true, ltb-false}
use Rattle.std.proofs.lemmas.Bool.Decides.{eqb_tells}
use Rattle.axi_history.specs.declared.port.PortKind.{PortKind}
use Rattle.axi_history.specs.declared.port.PortRound.{PortRound}
use Rattle.axi_history.specs.PortRules.{or_else}
use Rattle.lite_rules.specs.PortFaults.{history_fault}
use Rattle.axi_history.proofs.HistoryLemmas.{else_parts}
use Rattle.trace_judge.specs.Histories.{broken_at, broken_in, fault_of_link, fault_of_port, first_broken, greatest_round, history, is_of_link, first_answer, link_count, line_number_at, port_of_link, shown_in}
use Rattle.trace_judge.specs.Lines.{judged_lines, shown_by}
use Rattle.trace_judge.specs.VerdictLaws.{BrokenTracesTellTheFirst, IsFirstFault, KeepsRules, LegalTracesKeepTheRules, Shows}
use Rattle.trace_judge.specs.Verdicts.{verdict_of_lines, verdict_of_rules}
use Rattle.trace_judge.specs.declared.verdict.TraceFault.{TraceFault}
use Rattle.trace_judge.specs.declared.verdict.Verdict.TheVariants.{Broken, Legal}

-- ---- the least number at which something is answered

module _ {A : Type 0} where
  least_none : (answer : ℕ → Option A) (n : ℕ) → first_answer answer n ≡ None → (m : ℕ) → m < n → answer m ≡ None
  least_none answer zero e m h = absurd (omega arith)
  least_none answer (suc n) e m h =
      let p = else_parts (first_answer answer n) (answer n) e in
      elim (eqb_tells m n) [ inl same ↦ ap answer same.1 ∙ p.1 | inr other ↦ (let ne : m ≢ n = other.1 in least_none answer n p.0 m (omega arith)) ]

  pub record IsLeast (answer : ℕ → Option A) (n : ℕ) (x : A) : Type 0 where
    pub place : ℕ
    pub below : place < n
    pub told : answer place ≡ Some x
    pub before : (m : ℕ) → m < place → answer m ≡ None

  least_some : (answer : ℕ → Option A) (n : ℕ) (x : A) → first_answer answer n ≡ Some x → IsLeast answer n x
  least_some answer zero x e = absurd cc
  least_some answer (suc n) x e = go (first_answer answer n) refl e (least_some answer n x)
    where
      go : (o : Option A) → first_answer answer n ≡ o → or_else o (answer n) ≡ Some x → (first_answer answer n ≡ Some x → IsLeast answer n x) → IsLeast answer (suc n) x
      go None is e ih = record { place = n; below = omega arith; told = e; before = least_none answer n is }
      go (Some y) is e ih = let l : IsLeast answer n x = ih (is ∙ e) in record { place = l.place; below = (let h : l.place < n = l.below in omega arith); told = l.told; before = l.before }

-- ---- a link in a round

abbrev placed : List PortRound → ℕ → ℕ → Option (ℕ × ℕ) → Option TraceFault
placed lines round link fault = option_map (λ (f : ℕ × ℕ). let v : TraceFault = record { line = line_number_at lines link round; round = round; link = link; channel = f.0; rule = f.1 } in v) fault

placed_none : (lines : List PortRound) (round link : ℕ) (fault : Option (ℕ × ℕ)) → placed lines round link fault ≡ None → fault ≡ None
placed_none lines round link None e = refl
placed_none lines round link (Some f) e = absurd cc

beyond : (lines : List PortRound) (link : ℕ) → link_count lines ≤ link → find (is_of_link link) lines ≡ None
beyond [] link h = refl
beyond (r ∷ more) link h =
    let ne : r.link ≢ link = omega arith in
    ap (λ b. if b then Some r else find (is_of_link link) more) (ne_eqb r.link link ne) ∙ beyond more link (omega arith)

keeps : (lines : List PortRound) (link round : ℕ) → fault_of_link lines round link ≡ None → KeepsRules lines link round
keeps lines link round e port is = ap (fault_of_port lines link round) (sym is) ∙ e

keeps_beyond : (lines : List PortRound) (link round : ℕ) → link_count lines ≤ link → KeepsRules lines link round
keeps_beyond lines link round h = keeps lines link round (ap (λ (o : Option PortRound). fault_of_port lines link round (option_map (λ (r : PortRound). r.kind) o)) (beyond lines link h))

-- where nothing is broken in a round
below_or_not : (m n : ℕ) → (m < n) ⊎ (n ≤ m)
below_or_not m n = go (ltb m n) refl
  where
    go : (b : Bool) → ltb m n ≡ b → (m < n) ⊎ (n ≤ m)
    go true e = inl (ltb-true m n e)
    go false e = inr (ltb-false m n e)

keeps_round : (lines : List PortRound) (round : ℕ) → broken_in lines round ≡ None → (link : ℕ) → KeepsRules lines link round
keeps_round lines round e link =
    elim (below_or_not link (link_count lines)) [
      | inl h ↦ keeps lines link round (placed_none lines round link (fault_of_link lines round link) (least_none (broken_at lines round) (link_count lines) e link h))
      | inr h ↦ keeps_beyond lines link round h
    ]

all_keep : (lines : List PortRound) → first_broken lines ≡ None → (link round : ℕ) → round ≤ greatest_round lines → KeepsRules lines link round
all_keep lines e link round h = keeps_round lines round (least_none (broken_in lines) (greatest_round lines + 1) e round (omega arith)) link

-- ---- the first fault

pub record IsPlaced (lines : List PortRound) (round link : ℕ) (fault : TraceFault) : Type 0 where
  pub port : PortKind
  pub is_port : port_of_link lines link ≡ Some port
  pub broken : history_fault port (history (shown_in lines port link) round) ≡ Some (fault.channel, fault.rule)
  pub round_is : fault.round ≡ round
  pub link_is : fault.link ≡ link
  pub line_is : fault.line ≡ line_number_at lines link round

is_placed : (lines : List PortRound) (round link : ℕ) (fault : TraceFault) → broken_at lines round link ≡ Some fault → IsPlaced lines round link fault
is_placed lines round link fault e = go (port_of_link lines link) refl e
  where
    at : (port : PortKind) → port_of_link lines link ≡ Some port → (f : Option (ℕ × ℕ)) → history_fault port (history (shown_in lines port link) round) ≡ f → placed lines round link f ≡ Some fault → IsPlaced lines round link fault
    at port is None told e = absurd cc
    at port is (Some f) told e =
        let v : TraceFault = record { line = line_number_at lines link round; round = round; link = link; channel = f.0; rule = f.1 } in
        let same : v ≡ fault = cc in
        record {
          port = port;
          is_port = is;
          broken = told ∙ ap (λ (x : TraceFault). let o : Option (ℕ × ℕ) = Some (x.channel, x.rule) in o) same;
          round_is = ap (λ (x : TraceFault). x.round) (sym same);
          link_is = ap (λ (x : TraceFault). x.link) (sym same);
          line_is = ap (λ (x : TraceFault). x.line) (sym same);
        }

    go : (o : Option PortKind) → port_of_link lines link ≡ o → placed lines round link (fault_of_port lines link round o) ≡ Some fault → IsPlaced lines round link fault
    go None is e = absurd cc
    go (Some port) is e = at port is (history_fault port (history (shown_in lines port link) round)) refl e

first_is : (lines : List PortRound) (fault : TraceFault) → first_broken lines ≡ Some fault → IsFirstFault lines fault
first_is lines fault e =
    let in_round : IsLeast (broken_in lines) (greatest_round lines + 1) fault = least_some (broken_in lines) (greatest_round lines + 1) fault e in
    let on_link : IsLeast (broken_at lines in_round.place) (link_count lines) fault = least_some (broken_at lines in_round.place) (link_count lines) fault in_round.told in
    let p : IsPlaced lines in_round.place on_link.place fault = is_placed lines in_round.place on_link.place fault on_link.told in
    let below : in_round.place < greatest_round lines + 1 = in_round.below in
    let round : fault.round ≡ in_round.place = p.round_is in
    record {
      port = p.port;
      is_port = ap (port_of_link lines) p.link_is ∙ p.is_port;
      broken = ap (λ (l : ℕ). history_fault p.port (history (shown_in lines p.port l) fault.round)) p.link_is ∙ ap (λ (n : ℕ). history_fault p.port (history (shown_in lines p.port on_link.place) n)) p.round_is ∙ p.broken;
      round = omega arith;
      line = p.line_is ∙ ap (λ (l : ℕ). line_number_at lines l in_round.place) (sym p.link_is) ∙ ap (line_number_at lines fault.link) (sym p.round_is);
      earlier = λ link n h. keeps_round lines n (in_round.before n (omega arith)) link;
      lesser = λ link h. (let h' : link < on_link.place = subst (λ (l : ℕ). link < l) p.link_is h in
          subst (KeepsRules lines link) (sym p.round_is) (keeps lines link in_round.place (placed_none lines in_round.place link (fault_of_link lines in_round.place link) (on_link.before link h'))));
    }

-- ---- the verdict

pub legal_means : LegalTracesKeepTheRules
legal_means text count e = go (shown_by (judged_lines text)) refl e
  where
    rules : (lines : List PortRound) → Shows text lines → (first : Option TraceFault) → first_broken lines ≡ first → verdict_of_rules (length lines) first ≡ Legal count → (xs : List PortRound) × Shows text xs × (length xs ≡ count) × ((link round : ℕ) → round ≤ greatest_round xs → KeepsRules xs link round)
    rules lines shows (Some f) is e = absurd cc
    rules lines shows None is e = let n : length lines ≡ count = cc in (lines, shows, n, all_keep lines is)

    go : (r : Result (List PortRound) ℕ) → shown_by (judged_lines text) ≡ r → verdict_of_lines r ≡ Legal count → (xs : List PortRound) × Shows text xs × (length xs ≡ count) × ((link round : ℕ) → round ≤ greatest_round xs → KeepsRules xs link round)
    go (Err n) is e = absurd cc
    go (Ok lines) is e = rules lines is (first_broken lines) refl e

pub broken_means : BrokenTracesTellTheFirst
broken_means text fault e = go (shown_by (judged_lines text)) refl e
  where
    rules : (lines : List PortRound) → Shows text lines → (first : Option TraceFault) → first_broken lines ≡ first → verdict_of_rules (length lines) first ≡ Broken fault → (xs : List PortRound) × Shows text xs × IsFirstFault xs fault
    rules lines shows (Some f) is e = let same : f ≡ fault = cc in (lines, shows, first_is lines fault (is ∙ ap (λ (x : TraceFault). Some x) same))
    rules lines shows None is e = absurd cc

    go : (r : Result (List PortRound) ℕ) → shown_by (judged_lines text) ≡ r → verdict_of_lines r ≡ Broken fault → (xs : List PortRound) × Shows text xs × IsFirstFault xs fault
    go (Err n) is e = absurd cc
    go (Ok lines) is e = rules lines is (first_broken lines) refl e
