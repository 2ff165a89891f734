-- A subordinate's table, of every state and all links.
use Rattle.std.proofs.Common.{◌≡◌, ◌&&◌, ◌||◌, ℕ, suc, Bool, true, false, cond, List, [], ◌∷◌, Option, Some, None, length, refl, ◌∙◌, ap}
use Rattle.std.specs.Prelude.{is_some, max, option_map}
use Rattle.std.proofs.lemmas.Bool.{ltb-true}
use Rattle.axi_link.specs.LinkView.{LinkView}
use Rattle.axi_link.specs.declared.out.Out.{Out}
use Rattle.axi_link.specs.LinkWords.{has_room, head_of, link_of}
use Rattle.node_core.specs.Acted.{Acted, no_moves}
use Rattle.node_core.specs.Fits.{MovesFit, PutFits}
use Rattle.node_core.specs.Pace.{PaceState, is_let, is_over, next_place, pace_after}
use Rattle.node_core.specs.Paces.{any_row, longest, longest_delay, paces_after, rows_let}
use Rattle.node_core.specs.Rows.{beat_where, fits, put_of, take_of}
use Rattle.node_core.specs.declared.paces.EachRow.{EachRow}
use Rattle.node_core.specs.declared.paces.Paces.{Paces}
use Rattle.node_core.proofs.FitLemmas.{take-fits}
use Rattle.node_shape.specs.Quiet.{MovesOwn}
use Rattle.node_shape.proofs.OneLinkLemmas.{one-has, puts-own, takes-own}
use Rattle.subordinate.specs.Service.{Service}
use Rattle.subordinate.specs.SubordinateState.{Subordinate}
use Rattle.subordinate.specs.SubordinateTable.{after_ar, after_aw, after_b, after_r, after_w, answer_to, first_is_whole, its_link, its_rows, its_wishes, kept_after_w, next_beat, oldest_lacking, served, serves}
use Rattle.subordinate.specs.declared.entry.ReadEntry.{ReadEntry}
use Rattle.subordinate.specs.declared.entry.WriteEntry.{WriteEntry}

-- what is put where there is room fits
put-fits-let : {X : Type 0} (queue_of : LinkView → List X) (links : List LinkView) (number : ℕ) (rest : Bool) (pace : PaceState) (o : Option X) →
    PutFits queue_of links (put_of number (beat_where (is_let (has_room (link_of links number).depth (queue_of (link_of links number)) && rest) pace) o))
put-fits-let {X} queue_of links number rest pace o = go (has_room (link_of links number).depth (queue_of (link_of links number))) refl (rest && is_over pace) o
  where
    go : (room : Bool) → has_room (link_of links number).depth (queue_of (link_of links number)) ≡ room → (b : Bool) (o : Option X) →
        PutFits queue_of links (put_of number (beat_where (is_let (room && rest) pace) o))
    go false is b o = tt
    go true is b o = letting (is_let rest pace) o
      where
        letting : (done : Bool) (o : Option X) → PutFits queue_of links (put_of number (beat_where done o))
        letting false o = tt
        letting true None = tt
        letting true (Some beat) = ltb-true (length (queue_of (link_of links number))) (link_of links number).depth is

-- no row at all
abbrev no_row : EachRow
no_row = record { aw = false; w = false; b = false; ar = false; r = false }

none-wanted : (aw w b ar r : Bool) → (aw || w || b || ar || r) ≡ false → record { aw = aw; w = w; b = b; ar = ar; r = r } ≡ no_row
none-wanted false false false false false quiet = refl
none-wanted true w b ar r quiet = absurd (cc)
none-wanted false true b ar r quiet = absurd (cc)
none-wanted false false true ar r quiet = absurd (cc)
none-wanted false false false true r quiet = absurd (cc)
none-wanted false false false false true quiet = absurd (cc)

module _ {D : Type 0} (service : Service D) (links : List LinkView) (s : Subordinate D) where
  abbrev link : LinkView
  link = its_link service links s

  abbrev rows : EachRow
  rows = its_rows service links s

  pub serves-fit : MovesFit links (serves service links s)
  serves-fit = record {
    aw_take = take-fits (λ l. l.aw) links s.upper rows.aw;
    aw_put = tt;
    w_take = take-fits (λ l. l.w) links s.upper rows.w;
    w_put = tt;
    b_take = tt;
    b_put = put-fits-let (λ l. l.b) links s.upper (first_is_whole s.writes) s.paces.b (option_map answer_to (head_of s.writes));
    ar_take = take-fits (λ l. l.ar) links s.upper rows.ar;
    ar_put = tt;
    r_take = tt;
    r_put = put-fits-let (λ l. l.r) links s.upper (is_some (head_of s.reads)) s.paces.r (option_map (next_beat service s.kept) (head_of s.reads));
  }

  pub serves-own : MovesOwn (s.upper ∷ []) [] (serves service links s)
  serves-own = record {
    aw_take = takes-own (s.upper ∷ []) s.upper _ (one-has s.upper);
    aw_put = tt;
    w_take = takes-own (s.upper ∷ []) s.upper _ (one-has s.upper);
    w_put = tt;
    b_take = tt;
    b_put = puts-own (s.upper ∷ []) s.upper _ (one-has s.upper);
    ar_take = takes-own (s.upper ∷ []) s.upper _ (one-has s.upper);
    ar_put = tt;
    r_take = tt;
    r_put = puts-own (s.upper ∷ []) s.upper _ (one-has s.upper);
  }

  -- the round where these are the rows whose condition holds
  abbrev round_of : EachRow → Acted (Subordinate D)
  round_of wishes =
      let go : EachRow = rows_let wishes s.paces in
      record {
        state = record {
          upper = s.upper;
          paces = paces_after wishes s.paces;
          writes = after_aw (beat_where go.aw (head_of link.aw)) (after_w service (beat_where go.w (head_of link.w)) (after_b (beat_where go.b (option_map answer_to (head_of s.writes))) s.writes));
          reads = after_ar (beat_where go.ar (head_of link.ar)) (after_r (beat_where go.r (option_map (next_beat service s.kept) (head_of s.reads))) s.reads);
          kept = kept_after_w service (beat_where go.w (head_of link.w)) (after_b (beat_where go.b (option_map answer_to (head_of s.writes))) s.writes) s.kept;
        };
        out = record {
          aw_take = take_of s.upper (is_some (beat_where go.aw (head_of link.aw)));
          aw_put = None;
          w_take = take_of s.upper (is_some (beat_where go.w (head_of link.w)));
          w_put = None;
          b_take = None;
          b_put = put_of s.upper (beat_where go.b (option_map answer_to (head_of s.writes)));
          ar_take = take_of s.upper (is_some (beat_where go.ar (head_of link.ar)));
          ar_put = None;
          r_take = None;
          r_put = put_of s.upper (beat_where go.r (option_map (next_beat service s.kept) (head_of s.reads)));
        };
      }

  abbrev acted : Subordinate D → Out → Acted (Subordinate D)
  acted state out = record { state = state; out = out }

  -- where no row's condition holds, nothing happens
  pub serves-rests : any_row (its_wishes service links s) ≡ false → acted (served service links s) (serves service links s) ≡ acted s no_moves
  serves-rests quiet =
      let wishes : EachRow = its_wishes service links s in
      ap round_of (none-wanted wishes.aw wishes.w wishes.b wishes.ar wishes.r quiet)

  -- Each row is done as its pace lets it.
  takes-let : {X : Type 0} (head : Option X) (rest : Bool) (pace : PaceState) → is_some (take_of s.upper (is_some (beat_where (is_let (is_some head && rest) pace) head))) ≡ is_let (is_some head && rest) pace
  takes-let None rest pace = refl
  takes-let (Some x) rest pace =
      let go : (done : Bool) → is_some (take_of s.upper (is_some (beat_where done (Some x)))) ≡ done = elim [ true ↦ refl | false ↦ refl ] in
      go (is_let rest pace)

  puts-let : {X : Type 0} (room : Bool) (o : Option X) (rest : Bool) (pace : PaceState) → (rest ≡ true → is_some o ≡ true) →
      is_some (put_of s.upper (beat_where (is_let (room && rest) pace) o)) ≡ is_let (room && rest) pace
  puts-let false o rest pace there = refl
  puts-let true None false pace there = refl
  puts-let true None true pace there = absurd (let no : false ≡ true = there refl in cc)
  puts-let true (Some x) rest pace there =
      let go : (done : Bool) → is_some (put_of s.upper (beat_where done (Some x))) ≡ done = elim [ true ↦ refl | false ↦ refl ] in
      go (is_let rest pace)

  whole-there : (writes : List WriteEntry) → first_is_whole writes ≡ true → is_some (option_map answer_to (head_of writes)) ≡ true
  whole-there [] whole = absurd (cc)
  whole-there (e ∷ writes) whole = refl

  read-there : (reads : List ReadEntry) → is_some (head_of reads) ≡ true → is_some (option_map (next_beat service s.kept) (head_of reads)) ≡ true
  read-there [] there = absurd (cc)
  read-there (e ∷ reads) there = refl

  pub aw-done : is_some (serves service links s).aw_take ≡ rows.aw
  aw-done = takes-let (head_of link.aw) (fits s.writes) s.paces.aw

  pub w-done : is_some (serves service links s).w_take ≡ rows.w
  w-done = takes-let (head_of link.w) (is_some (oldest_lacking s.writes)) s.paces.w

  pub b-done : is_some (serves service links s).b_put ≡ rows.b
  b-done = puts-let (has_room link.depth link.b) (option_map answer_to (head_of s.writes)) (first_is_whole s.writes) s.paces.b (whole-there s.writes)

  pub ar-done : is_some (serves service links s).ar_take ≡ rows.ar
  ar-done = takes-let (head_of link.ar) (fits s.reads) s.paces.ar

  pub r-done : is_some (serves service links s).r_put ≡ rows.r
  r-done = puts-let (has_room link.depth link.r) (option_map (next_beat service s.kept) (head_of s.reads)) (is_some (head_of s.reads)) s.paces.r (read-there s.reads)

-- the delays stay, and so does the longest one
delays-stay : (wanted : Bool) (pace : PaceState) → (pace_after wanted pace).delays ≡ pace.delays
delays-stay false pace = refl
delays-stay true pace =
    let next : Bool → PaceState = λ over. cond over (record { delays = pace.delays; place = next_place pace; waited = 0 }) (record { delays = pace.delays; place = pace.place; waited = suc pace.waited }) in
    let go : (over : Bool) → (next over).delays ≡ pace.delays = elim [ true ↦ refl | false ↦ refl ] in
    go (is_over pace)

pub patience-stays : (wishes : EachRow) (p : Paces) → longest_delay (paces_after wishes p) ≡ longest_delay p
patience-stays wishes p =
    let most : List ℕ → List ℕ → List ℕ → List ℕ → List ℕ → ℕ = λ aw w b ar r. max (longest aw) (max (longest w) (max (longest b) (max (longest ar) (longest r)))) in
    let next : Paces = paces_after wishes p in
    ap (λ (d : List ℕ). most d next.w.delays next.b.delays next.ar.delays next.r.delays) (delays-stay wishes.aw p.aw)
    ∙ ap (λ (d : List ℕ). most p.aw.delays d next.b.delays next.ar.delays next.r.delays) (delays-stay wishes.w p.w)
    ∙ ap (λ (d : List ℕ). most p.aw.delays p.w.delays d next.ar.delays next.r.delays) (delays-stay wishes.b p.b)
    ∙ ap (λ (d : List ℕ). most p.aw.delays p.w.delays p.b.delays d next.r.delays) (delays-stay wishes.ar p.ar)
    ∙ ap (λ (d : List ℕ). most p.aw.delays p.w.delays p.b.delays p.ar.delays d) (delays-stay wishes.r p.r)
