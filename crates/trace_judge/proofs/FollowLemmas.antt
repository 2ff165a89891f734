-- A judge follows a link over one more line, and over the rounds after the last one.
use Rattle.std.proofs.Common.{◌≡◌, ◌≢◌, ℕ, ◌+◌, ◌-◌, ◌*◌, ◌<◌, ◌≤◌, ◌∷◌, [], ◌++◌, List, None, refl, sym, ap, subst, ◌∙◌, arith, length, length-append, max}
use Rattle.std.specs.List.{find}
use Rattle.std.specs.Prelude.{IfSome}
use Rattle.axi_history.specs.declared.port.PortKind.{PortKind}
use Rattle.axi_history.specs.declared.port.PortRound.{PortRound}
use Rattle.lite_rules.specs.PortFaults.{history_fault}
use Rattle.port_rules.specs.StandsFor.{checked_port, rounds_of}
use Rattle.trace_judge.specs.Alike.{IsQuiet, SameOffers}
use Rattle.trace_judge.specs.Follows.{Follows, TellsOf}
use Rattle.trace_judge.specs.Histories.{is_line_of, is_of_link, shown_in, quiet_round, line_number_at, greatest_round, history}
use Rattle.trace_judge.specs.Judged.{IsJudged}
use Rattle.trace_judge.specs.declared.link_judge.LinkFault.{LinkFault}
use Rattle.trace_judge.specs.declared.link_judge.LinkJudge.{LinkJudge}
use Rattle.trace_judge.proofs.AlikeLemmas.{same_refl}
use Rattle.trace_judge.proofs.JudgeLemmas.{judged_same}
use Rattle.trace_judge.proofs.LineLemmas.{find_other, is_not_in, no_line, shown_other, shown_here, shown_none, numbered_other, numbered_here, numbered_none, greatest_more}

pub quiet_round_is : (kind : PortKind) (link round : ℕ) → IsQuiet (quiet_round kind link round)
quiet_round_is kind link round = record { aw = refl; w = refl; b = refl; ar = refl; r = refl }

-- a round without a line
pub no_line_is_quiet : (xs : List PortRound) (kind : PortKind) (link round : ℕ) → find (is_line_of round link) xs ≡ None → IsQuiet (shown_in xs kind link round) × (line_number_at xs link round ≡ 0)
no_line_is_quiet xs kind link round e = (subst IsQuiet (sym (shown_none xs kind link round e)) (quiet_round_is kind link round), numbered_none xs link round e)

-- before the first line
pub follows_none : (j : LinkJudge) (kind : PortKind) (xs : List PortRound) (link : ℕ) → checked_port j.checker ≡ kind → rounds_of j.checker ≡ 0 → j.rounds ≡ 0 → ((shown : ℕ → PortRound) (number : ℕ → ℕ) → IsJudged j.checker j.fault j.rounds shown number) → find (is_of_link link) xs ≡ None → Follows j kind xs link
follows_none j kind xs link port few rounds judged none = record {
  port = port;
  judged = judged (shown_in xs kind link) (line_number_at xs link);
  last = λ round h. no_line xs round link none;
  within = omega arith;
  few = omega arith;
}

-- the judge's rounds, seen with one more line
judged_with : (j : LinkJudge) (kind : PortKind) (xs : List PortRound) (r : PortRound) → j.rounds < r.round → Follows j kind xs r.link → IsJudged j.checker j.fault j.rounds (shown_in (xs ++ r ∷ []) kind r.link) (line_number_at (xs ++ r ∷ []) r.link)
judged_with j kind xs r h f =
    judged_same j.checker j.fault j.rounds (shown_in xs kind r.link) (shown_in (xs ++ r ∷ []) kind r.link) (line_number_at xs r.link) (line_number_at (xs ++ r ∷ []) r.link)
    (λ m le. let ne : r.round ≢ m = omega arith in sym (shown_other xs r kind r.link m (is_not_in r m r.link ne)))
    (λ m le. let ne : r.round ≢ m = omega arith in sym (numbered_other xs r r.link m (is_not_in r m r.link ne)))
    f.judged

-- Over one more line of the link: `passed` is what the row of rounds before it leaves, and `after` what the line leaves.
pub follows_line : (j passed after : LinkJudge) (kind : PortKind) (xs : List PortRound) (r : PortRound) (line : ℕ) → line ≡ length xs + 1 → 1 ≤ r.round → j.rounds < r.round → Follows j kind xs r.link →
    checked_port passed.checker ≡ checked_port j.checker → rounds_of passed.checker ≤ rounds_of j.checker + 1 → passed.rounds ≡ max j.rounds (r.round - 1) →
    ((shown : ℕ → PortRound) (number : ℕ → ℕ) → ((n : ℕ) → j.rounds < n → n ≤ r.round - 1 → IsQuiet (shown n) × (number n ≡ 0)) → IsJudged j.checker j.fault j.rounds shown number → IsJudged passed.checker passed.fault passed.rounds shown number) →
    checked_port after.checker ≡ checked_port passed.checker → rounds_of after.checker ≤ rounds_of passed.checker + 1 → after.rounds ≡ r.round →
    ((shown : ℕ → PortRound) (number : ℕ → ℕ) → r.round ≡ passed.rounds + 1 → SameOffers (shown r.round) r → number r.round ≡ line → IsJudged passed.checker passed.fault passed.rounds shown number → IsJudged after.checker after.fault after.rounds shown number) →
    Follows after kind (xs ++ r ∷ []) r.link
follows_line j passed after kind xs r line is_next one h f port1 few1 rounds1 judged1 port2 few2 rounds2 judged2 =
    let shown : ℕ → PortRound = shown_in (xs ++ r ∷ []) kind r.link in
    let number : ℕ → ℕ = line_number_at (xs ++ r ∷ []) r.link in
    let none : find (is_line_of r.round r.link) xs ≡ None = f.last r.round h in
    let row : (n : ℕ) → j.rounds < n → n ≤ r.round - 1 → IsQuiet (shown n) × (number n ≡ 0) =
    λ n lo hi. (let ne : r.round ≢ n = omega arith in no_line_is_quiet (xs ++ r ∷ []) kind r.link n (find_other (is_line_of n r.link) xs r (is_not_in r n r.link ne) ∙ f.last n lo)) in
    let before : IsJudged passed.checker passed.fault passed.rounds shown number = judged1 shown number row (judged_with j kind xs r h f) in
    let longer : length (xs ++ r ∷ []) ≡ length xs + 1 = length-append xs (r ∷ []) in
    let greater : greatest_round (xs ++ r ∷ []) ≡ max (greatest_round xs) r.round = greatest_more xs r in
    let old : rounds_of j.checker ≤ 2 * length xs = f.few in
    record {
      port = port2 ∙ port1 ∙ f.port;
      judged = judged2 shown number (omega arith) (subst (λ (s : PortRound). SameOffers s r) (sym (shown_here xs r kind none)) (same_refl r)) (numbered_here xs r none ∙ sym is_next) before;
      last = λ round lo. (let ne : r.round ≢ round = omega arith in let lo' : j.rounds < round = omega arith in find_other (is_line_of round r.link) xs r (is_not_in r round r.link ne) ∙ f.last round lo');
      within = omega arith;
      few = omega arith;
    }

-- over the rounds after its last line, up to the greatest of the trace
pub tells_rest : (j after : LinkJudge) (kind : PortKind) (xs : List PortRound) (link last : ℕ) → greatest_round xs ≡ last → Follows j kind xs link →
    checked_port after.checker ≡ checked_port j.checker → after.rounds ≡ max j.rounds last →
    ((shown : ℕ → PortRound) (number : ℕ → ℕ) → ((n : ℕ) → j.rounds < n → n ≤ last → IsQuiet (shown n) × (number n ≡ 0)) → IsJudged j.checker j.fault j.rounds shown number → IsJudged after.checker after.fault after.rounds shown number) →
    TellsOf after.fault kind xs link
tells_rest j after kind xs link last greatest f port rounds judged =
    let all : IsJudged after.checker after.fault after.rounds (shown_in xs kind link) (line_number_at xs link) =
    judged (shown_in xs kind link) (line_number_at xs link) (λ n lo hi. no_line_is_quiet xs kind link n (f.last n lo)) f.judged in
    let inside : j.rounds ≤ greatest_round xs = f.within in
    let same : after.rounds ≡ greatest_round xs = omega arith in
    record {
      told = λ n h. ap (λ (p : PortKind). history_fault p (history (shown_in xs kind link) n)) (sym (port ∙ f.port)) ∙ all.told n (omega arith);
      within = subst (λ (m : ℕ). IfSome after.fault (λ (g : LinkFault). (g.round ≤ m) × (g.line ≡ line_number_at xs link g.round))) same all.within;
    }
