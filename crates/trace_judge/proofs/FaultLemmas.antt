-- The first fault of a trace, link by link.
use Rattle.std.proofs.Common.{◌≡◌, ℕ, ◌+◌, ◌-◌, ◌<◌, ◌≤◌, ◌∷◌, [], Bool, true, false, List, Option, Some, None, refl, sym, ap, subst, ◌∙◌, arith, length, suc, zero, get_or, add-one}
use Rattle.std.specs.Prelude.{if◌then◌else◌, nat_lt, nat_le, Result, Ok, Err, IfOk}
use Rattle.std.specs.Option.{option_map}
use Rattle.std.proofs.lemmas.Bool.{lt-ltb, le-ltb, le-leb, lt-leb}
use Rattle.axi_history.specs.declared.port.PortKind.{PortKind}
use Rattle.axi_history.specs.declared.port.PortRound.{PortRound}
use Rattle.axi_history.specs.PortRules.{or_else}
use Rattle.axi_history.proofs.HistoryLemmas.{else_none}
use Rattle.trace_judge.specs.Entries.{EntryStands, LinkStands}
use Rattle.trace_judge.specs.Faults.{EntryServes, IsFaultOf, broken_by, earlier_of, fault_on, with_link}
use Rattle.trace_judge.specs.Follows.{TellsOf}
use Rattle.trace_judge.specs.Histories.{broken_at, fault_of_link, fault_of_port, greatest_round, first_answer, line_number_at}
use Rattle.trace_judge.specs.Judged.{fault_by}
use Rattle.trace_judge.specs.Table.{link_entry}
use Rattle.trace_judge.specs.declared.link_judge.LinkFault.{LinkFault}
use Rattle.trace_judge.specs.declared.link_state.LinkState.{LinkState}
use Rattle.trace_judge.specs.declared.verdict.TraceFault.{TraceFault}

-- ---- one link

placed_fault : (lines : List PortRound) (link : ℕ) (fault : Option LinkFault) (n : ℕ) →
    option_map (λ (f : ℕ × ℕ). let v : TraceFault = record { line = line_number_at lines link n; round = n; link = link; channel = f.0; rule = f.1 } in v) (fault_by fault n) ≡ broken_by lines link fault n
placed_fault lines link None n = refl
placed_fault lines link (Some f) n = go (nat_lt n f.round)
  where
    go : (b : Bool) → option_map (λ (f : ℕ × ℕ). let v : TraceFault = record { line = line_number_at lines link n; round = n; link = link; channel = f.0; rule = f.1 } in v) (if b then None else Some (f.channel, f.rule))
        ≡ (if b then None else Some (record { line = line_number_at lines link n; round = n; link = link; channel = f.channel; rule = f.rule }))
    go true = refl
    go false = refl

pub told_fault : (fault : Option LinkFault) (s : LinkState) (lines : List PortRound) (link : ℕ) → LinkStands s lines link → TellsOf fault s.port lines link → IsFaultOf fault lines link
told_fault fault s lines link e t = record {
  told = λ n h.
      ap (λ (port : Option PortKind). option_map (λ (f : ℕ × ℕ). let v : TraceFault = record { line = line_number_at lines link n; round = n; link = link; channel = f.0; rule = f.1 } in v) (fault_of_port lines link n port)) e.port
      ∙ ap (option_map (λ (f : ℕ × ℕ). let v : TraceFault = record { line = line_number_at lines link n; round = n; link = link; channel = f.0; rule = f.1 } in v)) (t.told n h)
      ∙ placed_fault lines link fault n;
  within = t.within;
}

-- ---- rounds

broken_round : (lines : List PortRound) (n link : ℕ) (b : TraceFault) → broken_at lines n link ≡ Some b → b.round ≡ n
broken_round lines n link b e = go (fault_of_link lines n link) e
  where
    go : (o : Option (ℕ × ℕ)) → option_map (λ (f : ℕ × ℕ). let v : TraceFault = record { line = line_number_at lines link n; round = n; link = link; channel = f.0; rule = f.1 } in v) o ≡ Some b → b.round ≡ n
    go None e = absurd cc
    go (Some f) e = let v : TraceFault = record { line = line_number_at lines link n; round = n; link = link; channel = f.0; rule = f.1 } in let same : v ≡ b = cc in sym (ap (λ (x : TraceFault). x.round) same)

links_round : (lines : List PortRound) (n i : ℕ) (b : TraceFault) → first_answer (broken_at lines n) i ≡ Some b → b.round ≡ n
links_round lines n zero b e = absurd cc
links_round lines n (suc i) b e = go (first_answer (broken_at lines n) i) (links_round lines n i b) e
  where
    go : (o : Option TraceFault) → (o ≡ Some b → b.round ≡ n) → or_else o (broken_at lines n i) ≡ Some b → b.round ≡ n
    go None h e = broken_round lines n i b e
    go (Some x) h e = h e

least_round : (answer : ℕ → Option TraceFault) → ((n : ℕ) (b : TraceFault) → answer n ≡ Some b → b.round ≡ n) → (m : ℕ) (b : TraceFault) → first_answer answer m ≡ Some b → b.round < m
least_round answer at zero b e = absurd cc
least_round answer at (suc m) b e = go (first_answer answer m) (least_round answer at m b) e
  where
    go : (o : Option TraceFault) → (o ≡ Some b → b.round < m) → or_else o (answer m) ≡ Some b → b.round < suc m
    go None h e = let same : b.round ≡ m = at m b e in omega arith
    go (Some x) h e = let lt : b.round < m = h e in omega arith

-- ---- the first fault of some links, with one more

-- up to a round that comes before the fault of the one more, and from there on
module _ (lines : List PortRound) (answer more : ℕ → Option TraceFault) (link : ℕ) (f : LinkFault) (top : ℕ) (at : (n : ℕ) (b : TraceFault) → answer n ≡ Some b → b.round ≡ n)
    (told : (n : ℕ) → n < top → more n ≡ broken_by lines link (Some f) n) (line : f.line ≡ line_number_at lines link f.round) where
  none_before : (n : ℕ) → n < top → n < f.round → more n ≡ None
  none_before n h lt = told n h ∙ ap (λ b. if b then None else Some (record { line = line_number_at lines link n; round = n; link = link; channel = f.channel; rule = f.rule })) (lt-ltb n f.round lt)

  there : f.round < top → more f.round ≡ Some (fault_on link f)
  there h =
      let le : f.round ≤ f.round = omega arith in
      told f.round h
      ∙ ap (λ b. if b then None else Some (record { line = line_number_at lines link f.round; round = f.round; link = link; channel = f.channel; rule = f.rule })) (le-ltb f.round f.round le)
      ∙ ap (λ (n : ℕ). let v : Option TraceFault = Some (record { line = n; round = f.round; link = link; channel = f.channel; rule = f.rule }) in v) (sym line)

  same_before : (m : ℕ) → m ≤ top → m ≤ f.round → first_answer (λ n. or_else (answer n) (more n)) m ≡ first_answer answer m
  same_before zero h le = refl
  same_before (suc m) h le =
      let lt : m < top = omega arith in
      let lt' : m < f.round = omega arith in
      ap (λ (o : Option TraceFault). or_else o (or_else (answer m) (more m))) (same_before m (omega arith) (omega arith))
      ∙ ap (λ (o : Option TraceFault). or_else (first_answer answer m) o) (ap (or_else (answer m)) (none_before m lt lt') ∙ else_none (answer m))

  earlier_when : (b : TraceFault) → b.round ≤ f.round → earlier_of (Some b) link f ≡ Some b
  earlier_when b le = ap (λ v. if v then Some b else Some (fault_on link f)) (le-leb b.round f.round le)

  later_when : (b : TraceFault) → f.round < b.round → earlier_of (Some b) link f ≡ Some (fault_on link f)
  later_when b lt = ap (λ v. if v then Some b else Some (fault_on link f)) (lt-leb b.round f.round lt)

  -- the round of the fault itself
  at_round : f.round < top → first_answer (λ n. or_else (answer n) (more n)) (suc f.round) ≡ earlier_of (first_answer answer (suc f.round)) link f
  at_round h = ap (λ (o : Option TraceFault). or_else o (or_else (answer f.round) (more f.round))) (same_before f.round (omega arith) (omega arith)) ∙ go (first_answer answer f.round) refl (answer f.round) refl
    where
      go : (a : Option TraceFault) → first_answer answer f.round ≡ a → (b : Option TraceFault) → answer f.round ≡ b → or_else a (or_else b (more f.round)) ≡ earlier_of (or_else a b) link f
      go (Some x) is b is' = let lt : x.round < f.round = least_round answer at f.round x is in sym (earlier_when x (omega arith))
      go None is (Some x) is' = let e : x.round ≡ f.round = at f.round x is' in sym (earlier_when x (omega arith))
      go None is None is' = there h

  after_step : (m : ℕ) → f.round < m → (a b : Option TraceFault) → first_answer answer m ≡ a → answer m ≡ b → or_else (earlier_of a link f) (or_else b (more m)) ≡ earlier_of (or_else a b) link f
  after_step m lt None None is is' = refl
  after_step m lt None (Some x) is is' = let e : x.round ≡ m = at m x is' in sym (later_when x (omega arith))
  after_step m lt (Some x) b is is' = go (nat_le x.round f.round)
    where
      go : (v : Bool) → or_else (if v then Some x else Some (fault_on link f)) (or_else b (more m)) ≡ (if v then Some x else Some (fault_on link f))
      go true = refl
      go false = refl

  after_round : (d : ℕ) → suc f.round + d ≤ top → first_answer (λ n. or_else (answer n) (more n)) (suc f.round + d) ≡ earlier_of (first_answer answer (suc f.round + d)) link f
  after_round zero h =
      let e : suc f.round + 0 ≡ suc f.round = omega arith in
      ap (first_answer (λ n. or_else (answer n) (more n))) e ∙ at_round (omega arith) ∙ ap (λ m. earlier_of (first_answer answer m) link f) (sym e)
  after_round (suc d) h =
      let m : ℕ = suc f.round + d in
      let e : suc f.round + suc d ≡ suc m = omega arith in
      let before : first_answer (λ n. or_else (answer n) (more n)) m ≡ earlier_of (first_answer answer m) link f = after_round d (omega arith) in
      ap (first_answer (λ n. or_else (answer n) (more n))) e
      ∙ ap (λ (o : Option TraceFault). or_else o (or_else (answer m) (more m))) before
      ∙ after_step m (omega arith) (first_answer answer m) (answer m) refl refl
      ∙ ap (λ k. earlier_of (first_answer answer k) link f) (sym e)

  pub merged : f.round < top → first_answer (λ n. or_else (answer n) (more n)) top ≡ earlier_of (first_answer answer top) link f
  merged h =
      let d : ℕ = top - suc f.round in
      let e : suc f.round + d ≡ top = omega arith in
      ap (first_answer (λ n. or_else (answer n) (more n))) (sym e) ∙ after_round d (omega arith) ∙ ap (λ k. earlier_of (first_answer answer k) link f) e

-- where the one more breaks nothing
unchanged : (answer more : ℕ → Option TraceFault) (m : ℕ) → ((n : ℕ) → n < m → more n ≡ None) → first_answer (λ n. or_else (answer n) (more n)) m ≡ first_answer answer m
unchanged answer more zero none = refl
unchanged answer more (suc m) none =
    ap (λ (o : Option TraceFault). or_else o (or_else (answer m) (more m))) (unchanged answer more m (λ n h. none n (omega arith)))
    ∙ ap (λ (o : Option TraceFault). or_else (first_answer answer m) o) (ap (or_else (answer m)) (none m (omega arith)) ∙ else_none (answer m))

-- what the links below a number break first
abbrev pub broken_below : List PortRound → ℕ → Option TraceFault
broken_below lines i = first_answer (λ n. first_answer (broken_at lines n) i) (greatest_round lines + 1)

pub below_none : (lines : List PortRound) → broken_below lines 0 ≡ None
below_none lines = go (greatest_round lines + 1)
  where
    go : (m : ℕ) → first_answer (λ n. first_answer (broken_at lines n) 0) m ≡ None
    go zero = refl
    go (suc m) = ap (λ (o : Option TraceFault). or_else o None) (go m)

pub below_more : (lines : List PortRound) (i : ℕ) (fault : Option LinkFault) → IsFaultOf fault lines i → broken_below lines (suc i) ≡ with_link (broken_below lines i) i fault
below_more lines i None f = unchanged (λ n. first_answer (broken_at lines n) i) (λ n. broken_at lines n i) (greatest_round lines + 1) (λ n h. f.told n (omega arith))
below_more lines i (Some fault) f =
    let within : fault.round ≤ greatest_round lines = f.within.0 in
    merged lines (λ n. first_answer (broken_at lines n) i) (λ n. broken_at lines n i) i fault (greatest_round lines + 1) (λ n b e. links_round lines n i b e) (λ n h. f.told n (omega arith)) f.within.1 (omega arith)

-- ---- what the calls answer

pub ok_map : {A E : Type 0} {P Q : A → Type 0} → ((x : A) → P x → Q x) → (r : Result A E) → IfOk r P → IfOk r Q
ok_map f (Ok x) p = f x p
ok_map f (Err e) p = tt

pub entry_at : (links : List (Option LinkState)) (k : ℕ) (entry : Option LinkState) → k < length links → entry ≡ get_or links k entry → link_entry links k ≡ entry
entry_at [] k entry h e = absurd (omega arith)
entry_at (x ∷ links) zero entry h e = sym e
entry_at (x ∷ links) (suc k) entry h e = entry_at links k entry (omega arith) e

-- the place of the link that comes next
pub serves_at : (links : List (Option LinkState)) (k : ℕ) (entry : Option LinkState) → (k < length links) × (entry ≡ get_or links k entry) → ((link : ℕ) → EntryServes (link_entry links link)) → EntryServes entry
serves_at links k entry t serves = subst EntryServes (entry_at links k entry t.0 t.1) (serves k)

pub stands_at : (links : List (Option LinkState)) (k link : ℕ) (entry : Option LinkState) (lines : List PortRound) → link ≡ k → (k < length links) × (entry ≡ get_or links k entry) → ((n : ℕ) → EntryStands (link_entry links n) lines n) → EntryStands entry lines link
stands_at links k link entry lines same t stands = subst (λ (e : Option LinkState). EntryStands e lines link) (ap (link_entry links) same ∙ entry_at links k entry t.0 t.1) (stands link)

pub below_next : (lines : List PortRound) (i : ℕ) (first : Option TraceFault) (fault : Option LinkFault) (result : Option TraceFault) → first ≡ broken_below lines i → result ≡ with_link first i fault → IsFaultOf fault lines i → result ≡ broken_below lines (i + 1)
below_next lines i first fault result is answer f = answer ∙ ap (λ (o : Option TraceFault). with_link o i fault) is ∙ sym (below_more lines i fault f) ∙ ap (broken_below lines) (sym (add-one i))
