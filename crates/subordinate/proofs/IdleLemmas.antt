-- A subordinate that does nothing for as long as its patience has answered all that came.
use Rattle.std.proofs.Common.{◌≡◌, ◌<◌, ◌≤◌, ◌&&◌, ℕ, zero, suc, Bool, true, false, not, cond, List, [], ◌∷◌, Option, Some, None, length, map, refl, sym, ◌∙◌, ap, arith}
use Rattle.std.specs.Prelude.{is_some, slice_index_or}
use Rattle.std.proofs.lemmas.Bool.{lt-ltb}
use Rattle.std.proofs.lemmas.List.Elements.{All-from_recursion, All-nil}
use Rattle.axi_link.specs.LinkView.{LinkView}
use Rattle.axi_link.specs.LinkWords.{has_room, head_of, link_of}
use Rattle.axi_link.specs.declared.out.Out.{Out}
use Rattle.axi_trail.specs.Schedule.{Schedule}
use Rattle.axi_trail.specs.Trail.{Beats, Trail}
use Rattle.axi_trail.specs.Waiting.{waiting_shown}
use Rattle.axi_trail.specs.Words.{burst_asked, len_of_asked, write_asked}
use Rattle.node_core.specs.Acted.{no_moves}
use Rattle.node_core.specs.Pace.{PaceState}
use Rattle.node_core.specs.Paces.{longest, longest_delay}
use Rattle.node_core.specs.Rows.{fits, put_of, take_of}
use Rattle.node_core.specs.declared.paces.EachRow.{EachRow}
use Rattle.node_shape.specs.Kind.{Kind, next_of, out_of}
use Rattle.node_shape.specs.KindLaws.{IsIdle}
use Rattle.node_shape.specs.Paced.{ArePaced, IsPaced, PacedRow}
use Rattle.node_shape.specs.Quiet.{HasNoRead, HasNoWrite, HoldsNothingBack, LacksData}
use Rattle.node_shape.proofs.OneLinkLemmas.{all-one, of-one}
use Rattle.node_shape.proofs.PacedLemmas.{idle-unwanted}
use Rattle.subordinate.specs.PacedRows.{paced_rows, rows_wanted}
use Rattle.subordinate.specs.Service.{Service}
use Rattle.subordinate.specs.SubordinateState.{Subordinate}
use Rattle.subordinate.specs.SubordinateTable.{after_ar, after_aw, after_b, after_r, after_w, first_is_whole, lacks_data, moved_ar, moved_aw, moved_b, moved_r, moved_w, oldest_lacking, served, serves, wanted_rows}
use Rattle.subordinate.specs.Tracks.{KeepsOrder, read_waiting, write_waiting}
use Rattle.subordinate.specs.declared.entry.ReadEntry.{ReadEntry}
use Rattle.subordinate.specs.declared.entry.WriteEntry.{WriteEntry}
use Rattle.subordinate.proofs.ReadOrder.{reads-shown}
use Rattle.subordinate.proofs.TableLemmas.{ar-done, aw-done, b-done, r-done, w-done}
use Rattle.subordinate.proofs.WriteOrder.{beats-shown, data-short, writes-shown}

-- a delay is at most the longest
at-most : (delays : List ℕ) (place : ℕ) → slice_index_or delays place 0 ≤ longest delays
at-most [] place = omega arith
at-most (d ∷ delays) zero = omega arith
at-most (d ∷ delays) (suc place) = omega (arith, at-most delays place)

not-taken : {X : Type 0} (number : ℕ) (o : Option X) → take_of number (is_some o) ≡ None → o ≡ None
not-taken number None quiet = refl
not-taken number (Some x) quiet = absurd (cc)

not-put : {X : Type 0} (number : ℕ) (o : Option X) → put_of number o ≡ None → o ≡ None
not-put number None quiet = refl
not-put number (Some x) quiet = absurd (cc)

-- where nothing moves the open requests stay
module _ {D : Type 0} (service : Service D) (links : List LinkView) (s : Subordinate D) (quiet : serves service links s ≡ no_moves) where
  writes-stay : (served service links s).writes ≡ s.writes
  writes-stay =
      let answered : List WriteEntry = after_b (moved_b service links s) s.writes in
      ap (λ o. after_aw o (after_w service (moved_w service links s) answered)) (not-taken s.upper (moved_aw service links s) (ap (λ (out : Out). out.aw_take) quiet))
      ∙ ap (λ o. after_w service o answered) (not-taken s.upper (moved_w service links s) (ap (λ (out : Out). out.w_take) quiet))
      ∙ ap (λ o. after_b o s.writes) (not-put s.upper (moved_b service links s) (ap (λ (out : Out). out.b_put) quiet))

  reads-stay : (served service links s).reads ≡ s.reads
  reads-stay =
      ap (λ o. after_ar o (after_r (moved_r service links s) s.reads)) (not-taken s.upper (moved_ar service links s) (ap (λ (out : Out). out.ar_take) quiet))
      ∙ ap (λ o. after_r o s.reads) (not-put s.upper (moved_r service links s) (ap (λ (out : Out). out.r_put) quiet))

  wanted-stay : wanted_rows (link_of links (served service links s).upper) (served service links s).writes (served service links s).reads ≡ wanted_rows (link_of links s.upper) s.writes s.reads
  wanted-stay =
      ap (λ (ws : List WriteEntry). wanted_rows (link_of links s.upper) ws (served service links s).reads) writes-stay
      ∙ ap (λ (rs : List ReadEntry). wanted_rows (link_of links s.upper) s.writes rs) reads-stay

-- A kind whose state has a subordinate in it, which does all that the kind does.
module _ {S E D : Type 0} (kind : Kind S E) (service_of : S → Service D) (inner : S → Subordinate D)
    (next : (round : ℕ) (links : List LinkView) (s : S) → inner (next_of kind round links s) ≡ served (service_of s) links (inner s))
    (moves : (round : ℕ) (links : List LinkView) (s : S) → out_of kind round links s ≡ serves (service_of s) links (inner s)) where
  abbrev row_of : (EachRow → Bool) → (Subordinate D → PaceState) → (Out → Bool) → PacedRow S
  row_of wanted pace is_done = record { wanted = λ links s. wanted (rows_wanted inner links s); pace = λ s. pace (inner s); is_done = is_done }

  aw-paced : (round : ℕ) (links : List LinkView) (s : S) → IsPaced kind round links s (row_of (λ rows. rows.aw) (λ i. i.paces.aw) (λ out. is_some out.aw_take))
  aw-paced round links s = record {
    done = ap (λ (out : Out). is_some out.aw_take) (moves round links s) ∙ aw-done (service_of s) links (inner s);
    paced = ap (λ (i : Subordinate D). i.paces.aw) (next round links s);
  }

  w-paced : (round : ℕ) (links : List LinkView) (s : S) → IsPaced kind round links s (row_of (λ rows. rows.w) (λ i. i.paces.w) (λ out. is_some out.w_take))
  w-paced round links s = record {
    done = ap (λ (out : Out). is_some out.w_take) (moves round links s) ∙ w-done (service_of s) links (inner s);
    paced = ap (λ (i : Subordinate D). i.paces.w) (next round links s);
  }

  b-paced : (round : ℕ) (links : List LinkView) (s : S) → IsPaced kind round links s (row_of (λ rows. rows.b) (λ i. i.paces.b) (λ out. is_some out.b_put))
  b-paced round links s = record {
    done = ap (λ (out : Out). is_some out.b_put) (moves round links s) ∙ b-done (service_of s) links (inner s);
    paced = ap (λ (i : Subordinate D). i.paces.b) (next round links s);
  }

  ar-paced : (round : ℕ) (links : List LinkView) (s : S) → IsPaced kind round links s (row_of (λ rows. rows.ar) (λ i. i.paces.ar) (λ out. is_some out.ar_take))
  ar-paced round links s = record {
    done = ap (λ (out : Out). is_some out.ar_take) (moves round links s) ∙ ar-done (service_of s) links (inner s);
    paced = ap (λ (i : Subordinate D). i.paces.ar) (next round links s);
  }

  r-paced : (round : ℕ) (links : List LinkView) (s : S) → IsPaced kind round links s (row_of (λ rows. rows.r) (λ i. i.paces.r) (λ out. is_some out.r_put))
  r-paced round links s = record {
    done = ap (λ (out : Out). is_some out.r_put) (moves round links s) ∙ r-done (service_of s) links (inner s);
    paced = ap (λ (i : Subordinate D). i.paces.r) (next round links s);
  }

  pub are-paced : ArePaced kind (paced_rows inner)
  are-paced round links s =
      All-from_recursion (IsPaced kind round links s) (paced_rows inner)
      (aw-paced round links s, (w-paced round links s, (b-paced round links s, (ar-paced round links s, (r-paced round links s, tt)))))

  stays-wanted : (round : ℕ) (links : List LinkView) (s : S) → out_of kind round links s ≡ no_moves → rows_wanted inner links (next_of kind round links s) ≡ rows_wanted inner links s
  stays-wanted round links s quiet =
      ap (λ (i : Subordinate D). wanted_rows (link_of links i.upper) i.writes i.reads) (next round links s)
      ∙ wanted-stay (service_of s) links (inner s) (sym (moves round links s) ∙ quiet)

  -- in an idle stretch no row is wanted
  module _ (rounds : ℕ) (links : List LinkView) (s : S) (idle : IsIdle kind rounds links (suc (longest_delay (inner s).paces)) s) where
    unwanted : (wanted : EachRow → Bool) (pace : Subordinate D → PaceState) (is_done : Out → Bool) →
        ((round : ℕ) (links : List LinkView) (s : S) → IsPaced kind round links s (row_of wanted pace is_done)) → is_done no_moves ≡ false →
        longest (pace (inner s)).delays ≤ longest_delay (inner s).paces → wanted (rows_wanted inner links s) ≡ false
    unwanted wanted pace is_done paced undone short =
        idle-unwanted kind (row_of wanted pace is_done) paced (λ round links s quiet. ap wanted (stays-wanted round links s quiet)) undone rounds links
        (suc (longest_delay (inner s).paces)) s idle (omega (arith, short, at-most (pace (inner s)).delays (pace (inner s)).place))

    pub no-aw : (rows_wanted inner links s).aw ≡ false
    no-aw = unwanted (λ rows. rows.aw) (λ i. i.paces.aw) (λ out. is_some out.aw_take) aw-paced refl (omega arith)

    pub no-w : (rows_wanted inner links s).w ≡ false
    no-w = unwanted (λ rows. rows.w) (λ i. i.paces.w) (λ out. is_some out.w_take) w-paced refl (omega arith)

    pub no-b : (rows_wanted inner links s).b ≡ false
    no-b = unwanted (λ rows. rows.b) (λ i. i.paces.b) (λ out. is_some out.b_put) b-paced refl (omega arith)

    pub no-ar : (rows_wanted inner links s).ar ≡ false
    no-ar = unwanted (λ rows. rows.ar) (λ i. i.paces.ar) (λ out. is_some out.ar_take) ar-paced refl (omega arith)

    pub no-r : (rows_wanted inner links s).r ≡ false
    no-r = unwanted (λ rows. rows.r) (λ i. i.paces.r) (λ out. is_some out.r_put) r-paced refl (omega arith)

-- a head that could be taken isn't there
no-head : {X : Type 0} (queue : List X) (rest : Bool) → is_some (head_of queue) && rest ≡ false → rest ≡ true → length queue ≡ 0
no-head [] rest quiet ready = refl
no-head (x ∷ queue) rest quiet ready = absurd (let no : true ≡ false = sym ready ∙ quiet in cc)

-- no read is open, and no write that has its data
no-read : (room : Bool) (reads : List ReadEntry) → room && is_some (head_of reads) ≡ false → room ≡ true → reads ≡ []
no-read room [] quiet roomy = refl
no-read false (e ∷ reads) quiet roomy = absurd (cc)
no-read true (e ∷ reads) quiet roomy = absurd (cc)

first-lacks : (room : Bool) (e : WriteEntry) (writes : List WriteEntry) → room && first_is_whole (e ∷ writes) ≡ false → room ≡ true → oldest_lacking (e ∷ writes) ≡ Some e
first-lacks false e writes quiet roomy = absurd (cc)
first-lacks true e writes quiet roomy =
    let go : (c : Bool) → not c ≡ false → cond c (Some e) (oldest_lacking writes) ≡ Some e = elim [ true ↦ λ q. refl | false ↦ λ q. absurd (cc) ] in
    go (lacks_data e) quiet

module _ {D : Type 0} (service : Service D) (schedule : Schedule) (links : List LinkView) (s : Subordinate D) (uppers lowers : Trail) (keeps : KeepsOrder service schedule s (uppers s.upper)) where
  abbrev link : LinkView
  link = link_of links s.upper

  abbrev trail : Beats
  trail = uppers s.upper

  abbrev wanted : EachRow
  wanted = wanted_rows link s.writes s.reads

  no-reads : wanted.r ≡ false → wanted.ar ≡ false → length link.r < link.depth → HasNoRead link trail
  no-reads no_r no_ar room =
      let none : s.reads ≡ [] = no-read (has_room link.depth link.r) s.reads no_r (lt-ltb (length link.r) link.depth room) in
      record {
        none_waits = no-head link.ar (fits s.reads) no_ar (ap (λ (es : List ReadEntry). fits es) none);
        none_held = reads-shown s.reads trail.ar trail.r keeps.reads.open_reads ∙ ap (λ (es : List ReadEntry). map (waiting_shown burst_asked) (map read_waiting es)) none;
      }

  no-write : wanted.b ≡ false → wanted.w ≡ false → length link.b < link.depth → ¬ LacksData link trail → (entries : List WriteEntry) → s.writes ≡ entries → s.writes ≡ []
  no-write no_b no_w room fed [] is = is
  no-write no_b no_w room fed (e ∷ entries) is =
      let found : oldest_lacking s.writes ≡ Some e =
      ap oldest_lacking is
      ∙ first-lacks (has_room link.depth link.b) e entries (sym (ap (λ (es : List WriteEntry). has_room link.depth link.b && first_is_whole es) is) ∙ no_b) (lt-ltb (length link.b) link.depth room) in
      let empty : length link.w ≡ 0 = no-head link.w (is_some (oldest_lacking s.writes)) no_w (ap is_some found) in
      let short = data-short service e s.writes trail.aw trail.w trail.b found keeps.writes in
      absurd (fed (record { none_waits = empty; lacks = omega (arith, short, beats-shown len_of_asked burst_asked trail.aw) }))

  no-writes : wanted.b ≡ false → wanted.w ≡ false → wanted.aw ≡ false → length link.b < link.depth → ¬ LacksData link trail → HasNoWrite link trail
  no-writes no_b no_w no_aw room fed =
      let none : s.writes ≡ [] = no-write no_b no_w room fed s.writes refl in
      record {
        none_waits = no-head link.aw (fits s.writes) no_aw (ap (λ (es : List WriteEntry). fits es) none);
        none_held = writes-shown s.writes trail.aw trail.b keeps.writes.open_writes ∙ ap (λ (es : List WriteEntry). map (waiting_shown write_asked) (map write_waiting es)) none;
      }

  -- where no row is wanted it holds nothing back
  pub holds-nothing : wanted.aw ≡ false → wanted.w ≡ false → wanted.b ≡ false → wanted.ar ≡ false → wanted.r ≡ false → HoldsNothingBack (link_of links) uppers lowers (s.upper ∷ []) [] true
  holds-nothing no_aw no_w no_b no_ar no_r = record {
    responses = λ room. All-nil (λ l. length (link_of links l).b ≡ 0);
    read_data = λ room. All-nil (λ l. length (link_of links l).r ≡ 0);
    reads = λ room none done. all-one (λ l. HasNoRead (link_of links l) (uppers l)) s.upper (no-reads no_r no_ar (of-one (λ l. length (link_of links l).r < (link_of links l).depth) s.upper room));
    data_lacks = λ l among. absurd (omega (arith, among.1));
    writes = λ room none fed done.
        all-one (λ l. HasNoWrite (link_of links l) (uppers l)) s.upper
        (no-writes no_b no_w no_aw (of-one (λ l. length (link_of links l).b < (link_of links l).depth) s.upper room) (of-one (λ l. ¬ LacksData (link_of links l) (uppers l)) s.upper fed));
    ends = λ none_b none_r reads writes. refl;
  }
