-- What a judge of a link keeps after one more round, and after a row of rounds in which nothing is offered.
use Rattle.std.proofs.Common.{◌≡◌, ◌≢◌, ℕ, ◌+◌, ◌-◌, ◌<◌, ◌≤◌, suc, zero, ◌∷◌, [], ◌++◌, ◌⊎◌, inl, inr, true, false, List, Option, Some, None, refl, sym, ap, subst, ◌∙◌, arith}
use Rattle.std.specs.Prelude.{IfSome, is_some, option_map, if◌then◌else◌}
use Rattle.std.proofs.Math.Numerals.{add-one}
use Rattle.std.proofs.lemmas.Bool.{lt-ltb, le-ltb}
use Rattle.std.proofs.lemmas.Bool.Decides.{eqb_tells}
use Rattle.axi_history.specs.declared.port.PortKind.{PortKind}
use Rattle.axi_history.specs.declared.port.PortRound.{PortRound}
use Rattle.lite_rules.specs.PortFaults.{round_fault, history_fault}
use Rattle.lite_rules.proofs.PortFaultLemmas.{port_fault_stays, port_fault_anew}
use Rattle.port_rules.specs.declared.state.PortChecker.{PortChecker}
use Rattle.port_rules.specs.StandsFor.{StandsFor, checked_port}
use Rattle.trace_judge.specs.Alike.{SameOffers, IsQuiet}
use Rattle.trace_judge.specs.Histories.{history}
use Rattle.trace_judge.specs.Judged.{fault_by, IsChecked, IsJudged}
use Rattle.trace_judge.specs.declared.link_judge.LinkFault.{LinkFault}
use Rattle.trace_judge.proofs.AlikeLemmas.{alike_more, alike_trans, alike_quiet}
use Rattle.trace_judge.proofs.QuietLemmas.{judged_alike, again_same}

-- the channel and the rule of a fault
abbrev pub told_by : Option LinkFault → Option (ℕ × ℕ)
told_by fault = option_map {U = ℕ × ℕ} (λ (f : LinkFault). (f.channel, f.rule)) fault

abbrev pub IsAt : Option LinkFault → ℕ → ℕ → Type 0
IsAt fault line round = IfSome fault (λ f. (f.line ≡ line) × (f.round ≡ round))

-- a number up to the next one
at_most : (m k : ℕ) → m ≤ suc k → (m ≤ k) ⊎ (m ≡ suc k)
at_most m k h = elim (eqb_tells m (suc k)) [ inl p ↦ inr p.1 | inr p ↦ (let ne : m ≢ suc k = p.1 in inl (omega arith)) ]

-- ---- a round that is judged

fault_at : (fault : Option LinkFault) (line n : ℕ) → IsAt fault line n → fault_by fault n ≡ told_by fault
fault_at None line n at = refl
fault_at (Some f) line n at = let h : f.round ≤ n = omega (arith, at.1) in ap (λ b. if b then None else Some (f.channel, f.rule)) (le-ltb n f.round h)

fault_before : (fault : Option LinkFault) (line n m : ℕ) → IsAt fault line n → m < n → fault_by fault m ≡ None
fault_before None line n m at h = refl
fault_before (Some f) line n m at h = let lt : m < f.round = omega (arith, at.1) in ap (λ b. if b then None else Some (f.channel, f.rule)) (lt-ltb m f.round lt)

fault_within : (fault : Option LinkFault) (line n : ℕ) (number : ℕ → ℕ) → number n ≡ line → IsAt fault line n → IfSome fault (λ f. (f.round ≤ n) × (f.line ≡ number f.round))
fault_within None line n number e at = tt
fault_within (Some f) line n number e at = (omega (arith, at.1), at.0 ∙ sym e ∙ ap number (sym at.1))

module _ (c c' : PortChecker) (fault : Option LinkFault) (line k : ℕ) (r : PortRound) (shown : ℕ → PortRound) (number : ℕ → ℕ) (port : checked_port c' ≡ checked_port c)
    (added : (h : List PortRound) → StandsFor c h → StandsFor c' (h ++ r ∷ []))
    (told : (h : List PortRound) → StandsFor c h → history_fault (checked_port c) (h ++ r ∷ []) ≡ told_by fault) where
  judged_suc : SameOffers (shown (suc k)) r → number (suc k) ≡ line → IsAt fault line (suc k) → IsJudged c None k shown number → IsJudged c' fault (suc k) shown number
  judged_suc same is at j =
      let kind : PortKind = checked_port c in
      let old : IsChecked c (history shown k) = j.checked refl in
      let legal : history_fault kind (history shown k) ≡ None = j.told k (omega arith) in
      let now : round_fault kind old.given r ≡ told_by fault = sym (port_fault_anew kind old.given r old.legal) ∙ told old.given old.stands in
      let here : history_fault kind (history shown (suc k)) ≡ told_by fault = port_fault_anew kind (history shown k) (shown (suc k)) legal ∙ judged_alike kind (history shown k) old.given (shown (suc k)) r old.alike same ∙ now in
      let all : (m : ℕ) → m ≤ suc k → history_fault kind (history shown m) ≡ fault_by fault m =
      λ m h. elim (at_most m k h) [
        | inl le ↦ (let lt : m < suc k = omega arith in j.told m le ∙ sym (fault_before fault line (suc k) m at lt))
        | inr e ↦ ap (λ (n : ℕ). history_fault kind (history shown n)) e ∙ here ∙ sym (fault_at fault line (suc k) at) ∙ ap (fault_by fault) (sym e)
      ] in
      record {
        told = λ m h. ap (λ (p : PortKind). history_fault p (history shown m)) port ∙ all m h;
        within = fault_within fault line (suc k) number is at;
        checked = λ none. record {
          given = old.given ++ r ∷ [];
          stands = added old.given old.stands;
          alike = alike_more (history shown k) old.given (shown (suc k)) r old.alike same;
          legal = ap (λ (p : PortKind). history_fault p (old.given ++ r ∷ [])) port ∙ told old.given old.stands ∙ ap told_by none;
        };
      }

  pub judged_next : (n : ℕ) → n ≡ k + 1 → SameOffers (shown n) r → number n ≡ line → IsAt fault line n → IsJudged c None k shown number → IsJudged c' fault n shown number
  judged_next n e same is at j =
      let P : ℕ → Type 0 = λ m. SameOffers (shown m) r → number m ≡ line → IsAt fault line m → IsJudged c' fault m shown number in
      subst P (sym (e ∙ add-one k)) (λ s i a. judged_suc s i a j) same is at

-- ---- a round after one that was broken

fault_later : (f : LinkFault) (n : ℕ) → f.round ≤ n → fault_by (Some f) n ≡ Some (f.channel, f.rule)
fault_later f n h = ap (λ b. if b then None else Some (f.channel, f.rule)) (le-ltb n f.round h)

broken_suc : (c : PortChecker) (f : LinkFault) (k : ℕ) (shown : ℕ → PortRound) (number : ℕ → ℕ) → IsJudged c (Some f) k shown number → IsJudged c (Some f) (suc k) shown number
broken_suc c f k shown number j =
    let kind : PortKind = checked_port c in
    let within : f.round ≤ k = j.within.0 in
    let was : history_fault kind (history shown k) ≡ Some (f.channel, f.rule) = j.told k (omega arith) ∙ fault_later f k within in
    let here : history_fault kind (history shown (suc k)) ≡ Some (f.channel, f.rule) = port_fault_stays kind (history shown k) (shown (suc k)) (f.channel, f.rule) was in
    record {
      told = λ m h. elim (at_most m k h) [
        | inl le ↦ j.told m le
        | inr e ↦ ap (λ (n : ℕ). history_fault kind (history shown n)) e ∙ here ∙ sym (fault_later f (suc k) (omega arith)) ∙ ap (fault_by (Some f)) (sym e)
      ];
      within = (omega arith, j.within.1);
      checked = λ none. absurd cc;
    }

pub broken_next : (c : PortChecker) (f : LinkFault) (k n : ℕ) (shown : ℕ → PortRound) (number : ℕ → ℕ) → n ≡ k + 1 → IsJudged c (Some f) k shown number → IsJudged c (Some f) n shown number
broken_next c f k n shown number e j = subst (λ (m : ℕ). IsJudged c (Some f) m shown number) (sym (e ∙ add-one k)) (broken_suc c f k shown number j)

-- ---- a round in which nothing is offered, after such a round

quiet_suc : (c : PortChecker) (fault : Option LinkFault) (k : ℕ) (shown : ℕ → PortRound) (number : ℕ → ℕ) → IsQuiet (shown (suc k)) → IsQuiet (shown (suc (suc k))) → IsJudged c fault (suc k) shown number → IsJudged c fault (suc (suc k)) shown number
quiet_suc c (Some f) k shown number q q' j = broken_suc c f (suc k) shown number j
quiet_suc c None k shown number q q' j =
    let kind : PortKind = checked_port c in
    let old : IsChecked c (history shown (suc k)) = j.checked refl in
    let legal : history_fault kind (history shown (suc k)) ≡ None = j.told (suc k) (omega arith) in
    let here : history_fault kind (history shown (suc (suc k))) ≡ None = again_same kind (history shown k) (shown (suc k)) (shown (suc (suc k))) q q' ∙ legal in
    record {
      told = λ m h. elim (at_most m (suc k) h) [
        | inl le ↦ j.told m le
        | inr e ↦ ap (λ (n : ℕ). history_fault kind (history shown n)) e ∙ here
      ];
      within = tt;
      checked = λ none. record {
        given = old.given;
        stands = old.stands;
        alike = alike_trans (history shown (suc (suc k))) (history shown (suc k)) old.given (alike_quiet (history shown k) (shown (suc k)) (shown (suc (suc k))) q q') old.alike;
        legal = old.legal;
      };
    }

-- a row of them: the first is round k + 1, and d more follow
quiet_row : (c : PortChecker) (fault : Option LinkFault) (k d : ℕ) (shown : ℕ → PortRound) (number : ℕ → ℕ) → ((n : ℕ) → k < n → n ≤ suc k + d → IsQuiet (shown n)) → IsJudged c fault (suc k) shown number → IsJudged c fault (suc k + d) shown number
quiet_row c fault k zero shown number quiet j = subst (λ (m : ℕ). IsJudged c fault m shown number) (omega arith) j
quiet_row c fault k (suc d) shown number quiet j =
    let before : IsJudged c fault (suc k + d) shown number = quiet_row c fault k d shown number (λ n lo hi. quiet n lo (omega arith)) j in
    let last : ℕ = k + d in
    let e : suc k + d ≡ suc last = omega arith in
    let e' : suc (suc last) ≡ suc k + suc d = omega arith in
    let q : IsQuiet (shown (suc last)) = quiet (suc last) (omega arith) (omega arith) in
    let q' : IsQuiet (shown (suc (suc last))) = quiet (suc (suc last)) (omega arith) (omega arith) in
    subst (λ (m : ℕ). IsJudged c fault m shown number) e' (quiet_suc c fault last shown number q q' (subst (λ (m : ℕ). IsJudged c fault m shown number) e before))

pub quiet_rounds : (c : PortChecker) (fault : Option LinkFault) (k n upto : ℕ) (shown : ℕ → PortRound) (number : ℕ → ℕ) → n ≡ k + 1 → k < upto → ((m : ℕ) → k < m → m ≤ upto → IsQuiet (shown m)) → IsJudged c fault n shown number → IsJudged c fault upto shown number
quiet_rounds c fault k n upto shown number e h quiet j =
    let d : ℕ = upto - (k + 1) in
    let end : suc k + d ≡ upto = omega arith in
    let first : IsJudged c fault (suc k) shown number = subst (λ (m : ℕ). IsJudged c fault m shown number) (e ∙ add-one k) j in
    subst (λ (m : ℕ). IsJudged c fault m shown number) end (quiet_row c fault k d shown number (λ m lo hi. quiet m lo (omega arith)) first)

-- ---- histories that show the same

history_same : (shown shown' : ℕ → PortRound) (n : ℕ) → ((m : ℕ) → m ≤ n → shown m ≡ shown' m) → history shown n ≡ history shown' n
history_same shown shown' zero same = refl
history_same shown shown' (suc n) same =
    ap (λ (h : List PortRound). h ++ shown (suc n) ∷ []) (history_same shown shown' n (λ m h. same m (omega arith)))
    ∙ ap (λ (r : PortRound). history shown' n ++ r ∷ []) (same (suc n) (omega arith))

within_same : (fault : Option LinkFault) (rounds : ℕ) (number number' : ℕ → ℕ) → ((m : ℕ) → m ≤ rounds → number m ≡ number' m) → IfSome fault (λ f. (f.round ≤ rounds) × (f.line ≡ number f.round)) → IfSome fault (λ f. (f.round ≤ rounds) × (f.line ≡ number' f.round))
within_same None rounds number number' same w = tt
within_same (Some f) rounds number number' same w = (w.0, w.1 ∙ same f.round w.0)

pub judged_same : (c : PortChecker) (fault : Option LinkFault) (rounds : ℕ) (shown shown' : ℕ → PortRound) (number number' : ℕ → ℕ) → ((m : ℕ) → m ≤ rounds → shown m ≡ shown' m) → ((m : ℕ) → m ≤ rounds → number m ≡ number' m) →
    IsJudged c fault rounds shown number → IsJudged c fault rounds shown' number'
judged_same c fault rounds shown shown' number number' same numbered j = record {
  told = λ m h. ap (history_fault (checked_port c)) (sym (history_same shown shown' m (λ n l. same n (omega arith)))) ∙ j.told m h;
  within = within_same fault rounds number number' numbered j.within;
  checked = λ none.
      let old : IsChecked c (history shown rounds) = j.checked none in
      subst (IsChecked c) (history_same shown shown' rounds same) old;
}

-- ---- what the judge's calls leave

pub both_quiet : (r s : PortRound) → IsQuiet r → IsQuiet s → SameOffers r s
both_quiet r s a b = record { aw = a.aw ∙ sym b.aw; w = a.w ∙ sym b.w; b = a.b ∙ sym b.b; ar = a.ar ∙ sym b.ar; r = a.r ∙ sym b.r }

pub judged_broken : (c : PortChecker) (fault : Option LinkFault) (k n : ℕ) (shown : ℕ → PortRound) (number : ℕ → ℕ) → is_some fault ≡ true → n ≡ k + 1 → IsJudged c fault k shown number → IsJudged c fault n shown number
judged_broken c None k n shown number some e j = absurd cc
judged_broken c (Some f) k n shown number some e j = broken_next c f k n shown number e j

pub judged_open : (c : PortChecker) (fault : Option LinkFault) (k : ℕ) (shown : ℕ → PortRound) (number : ℕ → ℕ) → is_some fault ≡ false → IsJudged c fault k shown number → IsJudged c None k shown number
judged_open c None k shown number none j = j
judged_open c (Some f) k shown number none j = absurd cc
