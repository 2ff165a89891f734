-- A manager's table, of every state and all links.
use Rattle.std.proofs.Common.{◌≡◌, ◌+◌, ◌||◌, ℕ, suc, Bool, true, false, cond, List, [], ◌∷◌, Option, Some, None, max, refl, sym, ◌∙◌, ap, ap₂, subst, arith}
use Rattle.std.specs.Prelude.{is_some, option_map}
use Rattle.std.proofs.lemmas.List.Elements.{All-from_recursion}
use Rattle.axi_beats.specs.declared.beat.BBeat.{BBeat}
use Rattle.axi_beats.specs.declared.beat.RBeat.{RBeat}
use Rattle.axi_link.specs.LinkView.{LinkView}
use Rattle.axi_link.specs.declared.out.Out.{Out}
use Rattle.manager_node.specs.Beats.{data_beat, item_request}
use Rattle.manager_node.specs.ManagerLaws.{manager_paced, manager_row, rows_wished}
use Rattle.manager_node.specs.ManagerState.{IsManager, ManagerState}
use Rattle.manager_node.specs.ManagerTable.{beats_after, below, ending, ends_data, left_waiting, manager_ar, manager_aw, manager_b, manager_next, manager_out, manager_r, manager_w, more, note_issue, note_read, note_write, possible_ar, possible_aw, possible_b, possible_r, possible_w, with_issued}
use Rattle.manager_node.specs.ManagerTrail.{manager_kind}
use Rattle.manager_node.specs.Script.{ScriptItem}
use Rattle.manager_node.specs.declared.entry.Entry.{Entry}
use Rattle.manager_node.proofs.StateLemmas.{manager-begins, manager_fits, manager-stays}
use Rattle.manager_node.proofs.StepLemmas.{state-same}
use Rattle.node_core.specs.Acted.{Acted, no_moves}
use Rattle.node_core.specs.Pace.{PaceState, is_let, is_over, next_place, pace_after}
use Rattle.node_core.specs.Paces.{longest, longest_delay, paces_after}
use Rattle.node_core.specs.Rows.{beat_where, put_of, take_of}
use Rattle.node_core.specs.declared.paces.EachRow.{EachRow}
use Rattle.node_core.specs.declared.paces.Paces.{Paces}
use Rattle.node_shape.specs.KindLaws.{Begins, Fit, Own, Rests, Stays, Steady}
use Rattle.node_shape.specs.Paced.{ArePaced, IsPaced}
use Rattle.node_shape.proofs.OneLinkLemmas.{one-has, puts-own, takes-own}

-- a pace keeps its delays
same-delays : (possible : Bool) (p : PaceState) → (pace_after possible p).delays ≡ p.delays
same-delays false p = refl
same-delays true p =
    go (is_over p)
  where
    go : (over : Bool) → (cond {A = PaceState} over (record { delays = p.delays; place = next_place p; waited = 0 }) (record { delays = p.delays; place = p.place; waited = suc p.waited })).delays ≡ p.delays
    go true = refl
    go false = refl

-- so the longest one stays
same-longest : (possible : EachRow) (p : Paces) → longest_delay (paces_after possible p) ≡ longest_delay p
same-longest possible p =
    let aw = ap longest (same-delays possible.aw p.aw) in
    let w = ap longest (same-delays possible.w p.w) in
    let b = ap longest (same-delays possible.b p.b) in
    let ar = ap longest (same-delays possible.ar p.ar) in
    let r = ap longest (same-delays possible.r p.r) in
    ap₂ max aw (ap₂ max w (ap₂ max b (ap₂ max ar r)))

-- no row at all
abbrev pub no_row : EachRow
no_row = record { aw = false; w = false; b = false; ar = false; r = false }

pub none-wanted : (aw w b ar r : Bool) → (aw || w || b || ar || r) ≡ false → record { aw = aw; w = w; b = b; ar = ar; r = r } ≡ no_row
none-wanted false false false false false quiet = refl
none-wanted true w b ar r quiet = absurd (cc)
none-wanted false true b ar r quiet = absurd (cc)
none-wanted false false true ar r quiet = absurd (cc)
none-wanted false false false true r quiet = absurd (cc)
none-wanted false false false false true quiet = absurd (cc)

none-done : {X : Type 0} (done : Bool) (o : Option X) → is_some o ≡ false → beat_where done o ≡ None
none-done true None none = refl
none-done false None none = refl
none-done done (Some x) none = absurd (cc)

-- what a manager does in a round, where this is done on each channel
abbrev acted_by : ℕ → ManagerState → Paces → Option (ℕ × ScriptItem) → Option (ℕ × ScriptItem) → Option (Entry × BBeat) → Option (ℕ × ScriptItem) → Option (Entry × RBeat) → Acted ManagerState
acted_by round s paces aw w b ar r = record {
  state = record {
    script = s.script;
    lower = s.lower;
    bus = s.bus;
    paces = paces;
    issued_writes = s.issued_writes + more (is_some aw);
    issued_reads = s.issued_reads + more (is_some ar);
    sent_writes = s.sent_writes + more (ends_data s.sent_beats w);
    sent_beats = beats_after s.sent_beats w;
    write_entries = with_issued aw (left_waiting b s.write_entries);
    read_entries = with_issued ar (left_waiting (ending s.answers r) s.read_entries);
    answered = s.answered + more (is_some b) + more (is_some (ending s.answers r));
    answers = note_issue round ar (note_issue round aw (note_read round s.bus s.script r (note_write round b s.answers)));
  };
  out = record {
    aw_take = None;
    aw_put = put_of s.lower (option_map (λ (next : ℕ × ScriptItem). item_request next.1) aw);
    w_take = None;
    w_put = put_of s.lower (option_map (λ (next : ℕ × ScriptItem). data_beat next.1 s.bus s.sent_beats) w);
    b_take = take_of s.lower (is_some b);
    b_put = None;
    ar_take = None;
    ar_put = put_of s.lower (option_map (λ (next : ℕ × ScriptItem). item_request next.1) ar);
    r_take = take_of s.lower (is_some r);
    r_put = None;
  };
}

-- where nothing is done, nothing changes but the paces
acted-none : (round : ℕ) (s : ManagerState) (paces : Paces) → acted_by round s paces None None None None None ≡ record { state = record s { paces = paces }; out = no_moves }
acted-none round s paces =
    ap (λ (state : ManagerState). record { state = state; out = no_moves })
    (state-same s.script s.lower s.bus _ _ _ _ _ _ _ _ _ _ _ _ _ _ _ _ _ _ refl (omega arith) (omega arith) (omega arith) refl refl refl (omega arith) refl)

module _ (links : List LinkView) (s : ManagerState) where
  abbrev link : LinkView
  link = below links s

  abbrev wishes : EachRow
  wishes = rows_wished links s

  pub nothing-done : (round : ℕ) → (wishes.aw || wishes.w || wishes.b || wishes.ar || wishes.r) ≡ false →
      acted_by round s (paces_after wishes s.paces) (manager_aw links s) (manager_w links s) (manager_b links s) (manager_ar links s) (manager_r links s) ≡ record { state = s; out = no_moves }
  nothing-done round quiet =
      let none : wishes ≡ no_row = none-wanted wishes.aw wishes.w wishes.b wishes.ar wishes.r quiet in
      let aw : manager_aw links s ≡ None = none-done _ (possible_aw link s) (ap (λ (w : EachRow). w.aw) none) in
      let w : manager_w links s ≡ None = none-done _ (possible_w link s) (ap (λ (w : EachRow). w.w) none) in
      let b : manager_b links s ≡ None = none-done _ (possible_b link s) (ap (λ (w : EachRow). w.b) none) in
      let ar : manager_ar links s ≡ None = none-done _ (possible_ar link s) (ap (λ (w : EachRow). w.ar) none) in
      let r : manager_r links s ≡ None = none-done _ (possible_r link s) (ap (λ (w : EachRow). w.r) none) in
      ap (λ (w : EachRow). acted_by round s (paces_after w s.paces) (manager_aw links s) (manager_w links s) (manager_b links s) (manager_ar links s) (manager_r links s)) none
      ∙ ap (λ o. acted_by round s s.paces o (manager_w links s) (manager_b links s) (manager_ar links s) (manager_r links s)) aw
      ∙ ap (λ o. acted_by round s s.paces None o (manager_b links s) (manager_ar links s) (manager_r links s)) w
      ∙ ap (λ o. acted_by round s s.paces None None o (manager_ar links s) (manager_r links s)) b
      ∙ ap (λ o. acted_by round s s.paces None None None o (manager_r links s)) ar
      ∙ ap (λ o. acted_by round s s.paces None None None None o) r
      ∙ acted-none round s s.paces

not-put : {X Y : Type 0} (number : ℕ) (f : X → Y) (o : Option X) → put_of number (option_map f o) ≡ None → o ≡ None
not-put number f None quiet = refl
not-put number f (Some x) quiet = absurd (cc)

not-taken : {X : Type 0} (number : ℕ) (o : Option X) → take_of number (is_some o) ≡ None → o ≡ None
not-taken number None quiet = refl
not-taken number (Some x) quiet = absurd (cc)

-- where nothing moves the conditions of the rows stay
pub wishes-stay : (round : ℕ) (links : List LinkView) (s : ManagerState) → manager_out links s ≡ no_moves → rows_wished links (manager_next round links s) ≡ rows_wished links s
wishes-stay round links s quiet =
    let paces : Paces = paces_after (rows_wished links s) s.paces in
    let aw : manager_aw links s ≡ None = not-put s.lower (λ (next : ℕ × ScriptItem). item_request next.1) (manager_aw links s) (ap (λ (out : Out). out.aw_put) quiet) in
    let w : manager_w links s ≡ None = not-put s.lower (λ (next : ℕ × ScriptItem). data_beat next.1 s.bus s.sent_beats) (manager_w links s) (ap (λ (out : Out). out.w_put) quiet) in
    let b : manager_b links s ≡ None = not-taken s.lower (manager_b links s) (ap (λ (out : Out). out.b_take) quiet) in
    let ar : manager_ar links s ≡ None = not-put s.lower (λ (next : ℕ × ScriptItem). item_request next.1) (manager_ar links s) (ap (λ (out : Out). out.ar_put) quiet) in
    let r : manager_r links s ≡ None = not-taken s.lower (manager_r links s) (ap (λ (out : Out). out.r_take) quiet) in
    ap (λ o. rows_wished links (acted_by round s paces o (manager_w links s) (manager_b links s) (manager_ar links s) (manager_r links s)).state) aw
    ∙ ap (λ o. rows_wished links (acted_by round s paces None o (manager_b links s) (manager_ar links s) (manager_r links s)).state) w
    ∙ ap (λ o. rows_wished links (acted_by round s paces None None o (manager_ar links s) (manager_r links s)).state) b
    ∙ ap (λ o. rows_wished links (acted_by round s paces None None None o (manager_r links s)).state) ar
    ∙ ap (λ o. rows_wished links (acted_by round s paces None None None None o).state) r
    ∙ ap (λ (acted : Acted ManagerState). rows_wished links acted.state) (acted-none round s paces)

-- a row is done as its pace lets it
puts-let : {X Y : Type 0} (number : ℕ) (f : X → Y) (o : Option X) (pace : PaceState) → is_some (put_of number (option_map f (beat_where (is_let (is_some o) pace) o))) ≡ is_let (is_some o) pace
puts-let number f None pace = refl
puts-let number f (Some x) pace = go (is_over pace)
  where
    go : (over : Bool) → is_some (put_of number (option_map f (beat_where over (Some x)))) ≡ over
    go true = refl
    go false = refl

takes-let : {X : Type 0} (number : ℕ) (o : Option X) (pace : PaceState) → is_some (take_of number (is_some (beat_where (is_let (is_some o) pace) o))) ≡ is_let (is_some o) pace
takes-let number None pace = refl
takes-let {X} number (Some x) pace = go (is_over pace)
  where
    go : (over : Bool) → is_some (take_of number (is_some {T = X} (beat_where over (Some x)))) ≡ over
    go true = refl
    go false = refl

module _ (E : Type 0) where
  pub manager-always_fits : Fit (manager_kind {E = E})
  manager-always_fits round links s = manager_fits links s

  pub manager-moves_own : Own (manager_kind {E = E})
  manager-moves_own round links s = record {
    aw_take = tt;
    aw_put = puts-own (s.lower ∷ []) s.lower _ (one-has s.lower);
    w_take = tt;
    w_put = puts-own (s.lower ∷ []) s.lower _ (one-has s.lower);
    b_take = takes-own (s.lower ∷ []) s.lower _ (one-has s.lower);
    b_put = tt;
    ar_take = tt;
    ar_put = puts-own (s.lower ∷ []) s.lower _ (one-has s.lower);
    r_take = takes-own (s.lower ∷ []) s.lower _ (one-has s.lower);
    r_put = tt;
  }

  pub manager-is_steady : Steady (manager_kind {E = E})
  manager-is_steady round links s = record { uppers = refl; lowers = refl; patience = ap suc (same-longest (rows_wished links s) s.paces); suits = λ schedules suits. suits }

  pub manager-kind_begins : Begins (manager_kind {E = E})
  manager-kind_begins s new = subst IsManager (sym new.new) (manager-begins s.script s.lower s.bus s.paces new.is_script new.bus_width new.legal)

  pub manager-kind_stays : Stays (manager_kind {E = E})
  manager-kind_stays round links s fact can = manager-stays links s round can.counted fact

  pub manager-rests : Rests (manager_kind {E = E})
  manager-rests round links s quiet = nothing-done links s round quiet

  pub aw-paced : (round : ℕ) (links : List LinkView) (s : ManagerState) → IsPaced (manager_kind {E = E}) round links s (manager_row (λ rows. rows.aw) (λ paces. paces.aw) (λ out. is_some out.aw_put))
  aw-paced round links s = record { done = puts-let s.lower (λ (next : ℕ × ScriptItem). item_request next.1) (possible_aw (below links s) s) s.paces.aw; paced = refl }

  pub w-paced : (round : ℕ) (links : List LinkView) (s : ManagerState) → IsPaced (manager_kind {E = E}) round links s (manager_row (λ rows. rows.w) (λ paces. paces.w) (λ out. is_some out.w_put))
  w-paced round links s = record { done = puts-let s.lower (λ (next : ℕ × ScriptItem). data_beat next.1 s.bus s.sent_beats) (possible_w (below links s) s) s.paces.w; paced = refl }

  pub b-paced : (round : ℕ) (links : List LinkView) (s : ManagerState) → IsPaced (manager_kind {E = E}) round links s (manager_row (λ rows. rows.b) (λ paces. paces.b) (λ out. is_some out.b_take))
  b-paced round links s = record { done = takes-let s.lower (possible_b (below links s) s) s.paces.b; paced = refl }

  pub ar-paced : (round : ℕ) (links : List LinkView) (s : ManagerState) → IsPaced (manager_kind {E = E}) round links s (manager_row (λ rows. rows.ar) (λ paces. paces.ar) (λ out. is_some out.ar_put))
  ar-paced round links s = record { done = puts-let s.lower (λ (next : ℕ × ScriptItem). item_request next.1) (possible_ar (below links s) s) s.paces.ar; paced = refl }

  pub r-paced : (round : ℕ) (links : List LinkView) (s : ManagerState) → IsPaced (manager_kind {E = E}) round links s (manager_row (λ rows. rows.r) (λ paces. paces.r) (λ out. is_some out.r_take))
  r-paced round links s = record { done = takes-let s.lower (possible_r (below links s) s) s.paces.r; paced = refl }

  pub manager-is_paced : ArePaced (manager_kind {E = E}) manager_paced
  manager-is_paced round links s =
      All-from_recursion (IsPaced (manager_kind {E = E}) round links s) manager_paced
      (aw-paced round links s, (w-paced round links s, (b-paced round links s, (ar-paced round links s, (r-paced round links s, tt)))))
