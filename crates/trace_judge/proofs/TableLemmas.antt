-- The table of a trace with one more line.
use Rattle.std.proofs.Common.{◌≡◌, ◌≢◌, ℕ, ◌+◌, ◌*◌, ◌^◌, ◌<◌, ◌≤◌, ◌∷◌, [], ◌++◌, ◌⊎◌, inl, inr, Bool, true, false, List, Option, Some, None, refl, sym, ap, subst, ◌∙◌, arith, length, length-append, max, eq-eqb}
use Rattle.std.specs.Prelude.{if◌then◌else◌, ◌==◌, ◌&&◌, ◌||◌, not, nat_lt}
use Rattle.std.specs.Bool.{beq}
use Rattle.std.specs.Cmp.{booleans_Decides}
use Rattle.std.specs.List.{find, last_or, list_all}
use Rattle.std.specs.Option.{option_map}
use Rattle.std.proofs.lemmas.Bool.{and_parts, and_from, ltb-true, eqb-true, ne_eqb, false≢true}
use Rattle.std.proofs.lemmas.Bool.Decides.{eqb_tells}
use Rattle.std.proofs.lemmas.List.Folds.{list_all-append}
use Rattle.axi_history.specs.declared.port.PortKind.{PortKind}
use Rattle.axi_history.specs.declared.port.PortRound.{PortRound}
use Rattle.port_rules.specs.StandsFor.{rounds_of}
use Rattle.trace_judge.specs.Entries.{EntryFollows, EntryStands, EntryTakes, IsPassedBy, LinkStands}
use Rattle.trace_judge.specs.Follows.{CanGoOn, Follows, HasJudgedTo, HasNotJudged}
use Rattle.trace_judge.specs.Histories.{is_line_of, is_of_link, port_of_link, quiet_round, line_number_at, shown_in, greatest_round, link_count}
use Rattle.trace_judge.specs.Lines.{agrees_with, comes_after, is_before, is_same_port, may_follow}
use Rattle.trace_judge.specs.Table.{TableStands, link_entry, line_place, round_of}
use Rattle.trace_judge.specs.declared.link_judge.LinkJudge.{LinkJudge}
use Rattle.trace_judge.specs.declared.link_state.LinkState.{LinkState}
use Rattle.trace_judge.specs.declared.table.TraceTable.{TraceTable}
use Rattle.trace_judge.proofs.JudgeLemmas.{judged_same}
use Rattle.trace_judge.proofs.LineLemmas.{find_other, find_here, find_stays, is_not_on, shown_other, numbered_other, greatest_more, count_more}

-- ---- what comes after what

or_parts : (a b : Bool) → (a || b) ≡ true → (a ≡ true) ⊎ (b ≡ true)
or_parts true b e = inl refl
or_parts false b e = inr e

pub before_parts : (r s : PortRound) → is_before r s ≡ true → (r.round ≤ s.round) × (r.round ≡ s.round → r.link < s.link)
before_parts r s e = elim (or_parts (nat_lt r.round s.round) ((r.round == s.round) && nat_lt r.link s.link) e) [
  | inl lt ↦ (let h : r.round < s.round = ltb-true r.round s.round lt in (omega arith, λ same. omega arith))
  | inr both ↦ (let p = and_parts (r.round == s.round) (nat_lt r.link s.link) both in
      let same : r.round ≡ s.round = eqb-true r.round s.round p.0 in
      let lt : r.link < s.link = ltb-true r.link s.link p.1 in
      (omega arith, λ _. lt))
]

last_more : (o : Option PortRound) (xs : List PortRound) (r : PortRound) → last_or o (xs ++ r ∷ []) ≡ Some r
last_more o [] r = refl
last_more o (x ∷ xs) r = last_more (Some x) xs r

-- what was passed is still passed by what comes after the line that is added
passed_more : (j : LinkJudge) (link : ℕ) (xs : List PortRound) (r s : PortRound) → IsPassedBy j link r → comes_after (last_or None (xs ++ r ∷ [])) s ≡ true → IsPassedBy j link s
passed_more j link xs r s p after =
    let b = before_parts r s (ap (λ (o : Option PortRound). comes_after o s) (sym (last_more None xs r)) ∙ after) in
    (omega (arith, p.0, b.0), λ same. (let le : j.rounds ≤ r.round = p.0 in let le' : r.round ≤ s.round = b.0 in let one : j.rounds ≡ r.round = omega arith in let two : r.round ≡ s.round = omega arith in let l : link < r.link = p.1 one in let l' : r.link < s.link = b.1 two in omega arith))

passed_here : (j : LinkJudge) (xs : List PortRound) (r s : PortRound) → HasJudgedTo j r.round → comes_after (last_or None (xs ++ r ∷ [])) s ≡ true → IsPassedBy j r.link s
passed_here j xs r s to after =
    let b = before_parts r s (ap (λ (o : Option PortRound). comes_after o s) (sym (last_more None xs r)) ∙ after) in
    (omega (arith, to, b.0), λ same. b.1 (sym to ∙ same))

pub not_judged : (j : LinkJudge) (r : PortRound) → IsPassedBy j r.link r → HasNotJudged j r.round
not_judged j r p =
    let le : j.rounds ≤ r.round = p.0 in
    elim (eqb_tells j.rounds r.round) [
      | inl e ↦ (let l : r.link < r.link = p.1 e.1 in absurd (omega arith))
      | inr e ↦ (let ne : j.rounds ≢ r.round = e.1 in omega arith)
    ]

-- ---- the ports of a link

pub same_port : (a b : PortKind) → is_same_port a b ≡ true → a ≡ b
same_port a b e =
    let p = and_parts (beq a.lite b.lite) (a.bus == b.bus) e in
    let lite : a.lite ≡ b.lite = (booleans_Decides a.lite b.lite).0 p.0 in
    let bus : a.bus ≡ b.bus = eqb-true a.bus b.bus p.1 in
    ap (λ (v : Bool). record { lite = v; bus = a.bus }) lite ∙ ap (λ (v : ℕ). record { lite = b.lite; bus = v }) bus

port_is_same : (a : PortKind) → is_same_port a a ≡ true
port_is_same a = and_from (beq a.lite a.lite) (a.bus == a.bus) ((booleans_Decides a.lite a.lite).1 refl) (eq-eqb a.bus a.bus refl)

-- no line of the link
all_agree : (xs : List PortRound) (r : PortRound) → find (is_of_link r.link) xs ≡ None → list_all (agrees_with r) xs ≡ true
all_agree [] r e = refl
all_agree (x ∷ xs) r e = go (x.link == r.link) (all_agree xs r) e
  where
    go : (b : Bool) → (find (is_of_link r.link) xs ≡ None → list_all (agrees_with r) xs ≡ true) → (if b then Some x else find (is_of_link r.link) xs) ≡ None → ((not b || is_same_port x.kind r.kind) && list_all (agrees_with r) xs) ≡ true
    go true h n = absurd cc
    go false h n = h n

-- a line of the link that shows another port
disagree : (xs : List PortRound) (r x : PortRound) → find (is_of_link r.link) xs ≡ Some x → is_same_port x.kind r.kind ≡ false → list_all (agrees_with r) xs ≡ false
disagree [] r x e other = absurd cc
disagree (y ∷ xs) r x e other = go (y.link == r.link) (disagree xs r x) e
  where
    go : (b : Bool) → (find (is_of_link r.link) xs ≡ Some x → is_same_port x.kind r.kind ≡ false → list_all (agrees_with r) xs ≡ false) → (if b then Some y else find (is_of_link r.link) xs) ≡ Some x → ((not b || is_same_port y.kind r.kind) && list_all (agrees_with r) xs) ≡ false
    go true h n =
        let same : y ≡ x = cc in
        let e' : is_same_port y.kind r.kind ≡ false = ap (λ (z : PortRound). is_same_port z.kind r.kind) same ∙ other in
        ap (λ (b : Bool). b && list_all (agrees_with r) xs) e'
    go false h n = h n other

-- the first line of a link, where its port is known
pub first_of : (xs : List PortRound) (link : ℕ) (kind : PortKind) → port_of_link xs link ≡ Some kind → (x : PortRound) × (find (is_of_link link) xs ≡ Some x) × (x.kind ≡ kind)
first_of xs link kind e = go (find (is_of_link link) xs) refl e
  where
    go : (o : Option PortRound) → find (is_of_link link) xs ≡ o → option_map (λ (r : PortRound). r.kind) o ≡ Some kind → (x : PortRound) × (find (is_of_link link) xs ≡ Some x) × (x.kind ≡ kind)
    go None is e = absurd cc
    go (Some x) is e = (x, is, cc)

-- what the table answers of a port
pub entry_agrees : (entry : Option LinkState) (xs : List PortRound) (r : PortRound) → EntryStands entry xs r.link → (answer : Bool) → answer ≡ (elim entry [ None ↦ true | Some s ↦ is_same_port s.port r.kind ]) → answer ≡ list_all (agrees_with r) xs
entry_agrees None xs r e answer is = is ∙ sym (all_agree xs r e)
entry_agrees (Some s) xs r e answer is = is ∙ go (is_same_port s.port r.kind) refl
  where
    go : (b : Bool) → is_same_port s.port r.kind ≡ b → is_same_port s.port r.kind ≡ list_all (agrees_with r) xs
    go true same =
        let k : s.port ≡ r.kind = same_port s.port r.kind same in
        same ∙ sym (ap (λ (v : PortKind). list_all (agrees_with (quiet_round v r.link 0)) xs) (sym k) ∙ e.agree)
    go false other =
        let f = first_of xs r.link s.port e.port in
        other ∙ sym (disagree xs r f.0 f.1 (ap (λ (v : PortKind). is_same_port v r.kind) f.2 ∙ other))

-- the port of a link that has a state, where a line may follow
agree_at : (xs : List PortRound) (r x : PortRound) → find (is_of_link r.link) xs ≡ Some x → list_all (agrees_with r) xs ≡ true → x.kind ≡ r.kind
agree_at xs r x e all = go (is_same_port x.kind r.kind) refl
  where
    go : (b : Bool) → is_same_port x.kind r.kind ≡ b → x.kind ≡ r.kind
    go true same = same_port x.kind r.kind same
    go false other = absurd (false≢true (sym (disagree xs r x e other) ∙ all))

state_port : (s : LinkState) (xs : List PortRound) (r : PortRound) → LinkStands s xs r.link → list_all (agrees_with r) xs ≡ true → s.port ≡ r.kind
state_port s xs r e all = let f = first_of xs r.link s.port e.port in sym f.2 ∙ agree_at xs r f.0 f.1 all

few_on : (j : LinkJudge) (kind : PortKind) (xs : List PortRound) (link : ℕ) → Follows j kind xs link → length xs < 2 ^ 25 → CanGoOn j kind
few_on j kind xs link f few = (f.port, (let h : rounds_of j.checker ≤ 2 * length xs = f.few in omega arith))

-- what a line that may follow finds at the place of its link
pub entry_takes : (entry : Option LinkState) (xs : List PortRound) (r : PortRound) → EntryStands entry xs r.link → may_follow xs r ≡ true → length xs < 2 ^ 25 → EntryTakes entry r.kind
entry_takes None xs r e may few = tt
entry_takes (Some s) xs r e may few =
    let p = and_parts (comes_after (last_or None xs) r) (list_all (agrees_with r) xs) may in
    (state_port s xs r e p.1, few_on s.judge s.port xs r.link e.follows few)

entry_follows : (entry : Option LinkState) (xs : List PortRound) (r : PortRound) → EntryStands entry xs r.link → may_follow xs r ≡ true → EntryFollows entry xs r
entry_follows None xs r e may = e
entry_follows (Some s) xs r e may =
    let p = and_parts (comes_after (last_or None xs) r) (list_all (agrees_with r) xs) may in
    (not_judged s.judge r (e.passed r p.0), e.follows)

-- ---- the place of the line that is added

is_of_its_link : (r : PortRound) → is_of_link r.link r ≡ true
is_of_its_link r = eq-eqb r.link r.link refl

port_with : (entry : Option LinkState) (xs : List PortRound) (r : PortRound) → EntryStands entry xs r.link → list_all (agrees_with r) xs ≡ true → port_of_link (xs ++ r ∷ []) r.link ≡ Some r.kind
port_with None xs r e all = ap (option_map (λ (x : PortRound). x.kind)) (find_here (is_of_link r.link) xs r (is_of_its_link r) e)
port_with (Some s) xs r e all =
    let f = first_of xs r.link s.port e.port in
    ap (option_map (λ (x : PortRound). x.kind)) (find_stays (is_of_link r.link) xs r f.0 f.1) ∙ ap (λ (k : PortKind). Some k) (agree_at xs r f.0 f.1 all)

agree_with : (xs : List PortRound) (r : PortRound) → list_all (agrees_with r) xs ≡ true → list_all (agrees_with (quiet_round r.kind r.link 0)) (xs ++ r ∷ []) ≡ true
agree_with xs r all =
    list_all-append (agrees_with (quiet_round r.kind r.link 0)) xs (r ∷ [])
    ∙ ap (λ b. b && ((not (r.link == r.link) || is_same_port r.kind r.kind) && true)) all
    ∙ and_from (not (r.link == r.link) || is_same_port r.kind r.kind) true (either (not (r.link == r.link)) (is_same_port r.kind r.kind) (port_is_same r.kind)) refl
  where
    either : (a b : Bool) → b ≡ true → (a || b) ≡ true
    either true b e = refl
    either false b e = e

entry_here : (entry : Option LinkState) (xs : List PortRound) (r : PortRound) (state : LinkState) → EntryStands entry xs r.link → may_follow xs r ≡ true → state.port ≡ r.kind → HasJudgedTo state.judge r.round → Follows state.judge r.kind (xs ++ r ∷ []) r.link → LinkStands state (xs ++ r ∷ []) r.link
entry_here entry xs r state e may port to follows =
    let p = and_parts (comes_after (last_or None xs) r) (list_all (agrees_with r) xs) may in
    record {
      port = port_with entry xs r e p.1 ∙ ap (λ (k : PortKind). Some k) (sym port);
      agree = ap (λ (k : PortKind). list_all (agrees_with (quiet_round k r.link 0)) (xs ++ r ∷ [])) port ∙ agree_with xs r p.1;
      follows = subst (λ (k : PortKind). Follows state.judge k (xs ++ r ∷ []) r.link) (sym port) follows;
      passed = λ s after. passed_here state.judge xs r s to after;
    }

-- ---- the places of other links

follows_other : (j : LinkJudge) (kind : PortKind) (xs : List PortRound) (r : PortRound) (link : ℕ) → r.link ≢ link → Follows j kind xs link → Follows j kind (xs ++ r ∷ []) link
follows_other j kind xs r link ne f =
    let longer : length (xs ++ r ∷ []) ≡ length xs + 1 = length-append xs (r ∷ []) in
    let greater : greatest_round (xs ++ r ∷ []) ≡ max (greatest_round xs) r.round = greatest_more xs r in
    let old : rounds_of j.checker ≤ 2 * length xs = f.few in
    let inside : j.rounds ≤ greatest_round xs = f.within in
    record {
      port = f.port;
      judged = judged_same j.checker j.fault j.rounds (shown_in xs kind link) (shown_in (xs ++ r ∷ []) kind link) (line_number_at xs link) (line_number_at (xs ++ r ∷ []) link)
          (λ m le. sym (shown_other xs r kind link m (is_not_on r m link ne))) (λ m le. sym (numbered_other xs r link m (is_not_on r m link ne))) f.judged;
      last = λ round lo. find_other (is_line_of round link) xs r (is_not_on r round link ne) ∙ f.last round lo;
      within = omega arith;
      few = omega arith;
    }

entry_other : (entry : Option LinkState) (xs : List PortRound) (r : PortRound) (link : ℕ) → r.link ≢ link → comes_after (last_or None xs) r ≡ true → EntryStands entry xs link → EntryStands entry (xs ++ r ∷ []) link
entry_other None xs r link ne after e = find_other (is_of_link link) xs r (ne_eqb r.link link ne) ∙ e
entry_other (Some s) xs r link ne after e = record {
  port = ap (option_map (λ (x : PortRound). x.kind)) (find_other (is_of_link link) xs r (ne_eqb r.link link ne)) ∙ e.port;
  agree =
      list_all-append (agrees_with (quiet_round s.port link 0)) xs (r ∷ [])
      ∙ ap (λ b. b && ((not (r.link == link) || is_same_port r.kind s.port) && true)) e.agree
      ∙ ap (λ b. (not b || is_same_port r.kind s.port) && true) (ne_eqb r.link link ne);
  follows = follows_other s.judge s.port xs r link ne e.follows;
  passed = λ q later. passed_more s.judge link xs r q (e.passed r after) later;
}

-- ---- the table

order_told : (o : Option PortRound) (last : Option (ℕ × ℕ)) (r : PortRound) → last ≡ option_map line_place o → comes_after o r ≡ true → round_of last ≤ r.round
order_told None last r is after = let e : round_of last ≡ 0 = ap round_of is in omega arith
order_told (Some before) last r is after =
    let e : round_of last ≡ before.round = ap round_of is in
    let b : before.round ≤ r.round = (before_parts before r after).0 in
    omega arith

pub table_grows : (t after : TraceTable) (xs : List PortRound) (r : PortRound) → r.link < 4096 → TableStands t xs → may_follow xs r ≡ true →
    after.lines ≡ t.lines + 1 → after.last ≡ Some (r.round, r.link) → length after.links.items ≡ max (length t.links.items) (r.link + 1) →
    ((k : ℕ) → k ≢ r.link → link_entry after.links.items k ≡ link_entry t.links.items k) →
    (state : LinkState) → link_entry after.links.items r.link ≡ Some state → state.port ≡ r.kind → HasJudgedTo state.judge r.round →
    ((lines : List PortRound) → t.lines + 1 ≡ length lines + 1 → EntryFollows (link_entry t.links.items r.link) lines r → Follows state.judge r.kind (lines ++ r ∷ []) r.link) →
    TableStands after (xs ++ r ∷ [])
table_grows t after xs r small s may lines last size others state is port to follows =
    let p = and_parts (comes_after (last_or None xs) r) (list_all (agrees_with r) xs) may in
    let longer : length (xs ++ r ∷ []) ≡ length xs + 1 = length-append xs (r ∷ []) in
    let greater : greatest_round (xs ++ r ∷ []) ≡ max (greatest_round xs) r.round = greatest_more xs r in
    let counted : link_count (xs ++ r ∷ []) ≡ max (link_count xs) (r.link + 1) = count_more xs r in
    let before : round_of t.last ≤ r.round = order_told (last_or None xs) t.last r s.last p.0 in
    let round : round_of after.last ≡ r.round = ap round_of last in
    let was : round_of t.last ≡ greatest_round xs = s.greatest in
    let n : t.lines ≡ length xs = s.count in
    let sized : length t.links.items ≡ link_count xs = s.size in
    let few : length t.links.items ≤ 4096 = s.few in
    let here : Follows state.judge r.kind (xs ++ r ∷ []) r.link = follows xs (ap (λ m. m + 1) n) (entry_follows (link_entry t.links.items r.link) xs r (s.links r.link) may) in
    let new : EntryStands (Some state) (xs ++ r ∷ []) r.link = entry_here (link_entry t.links.items r.link) xs r state (s.links r.link) may port to here in
    record {
      count = lines ∙ ap (λ m. m + 1) n ∙ sym longer;
      last = last ∙ sym (ap (option_map line_place) (last_more None xs r));
      greatest = omega arith;
      size = omega arith;
      few = omega arith;
      links = λ link. elim (eqb_tells link r.link) [
        | inl e ↦ (let P : ℕ → Type 0 = λ k. EntryStands (link_entry after.links.items k) (xs ++ r ∷ []) k in
            subst P (sym e.1) (subst (λ (entry : Option LinkState). EntryStands entry (xs ++ r ∷ []) r.link) (sym is) new))
        | inr e ↦ (let ne : r.link ≢ link = λ same. e.1 (sym same) in
            subst (λ (entry : Option LinkState). EntryStands entry (xs ++ r ∷ []) link) (sym (others link e.1)) (entry_other (link_entry t.links.items link) xs r link ne p.0 (s.links link)))
      ];
    }
