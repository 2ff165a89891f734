-- A splitter's table, of every state and all links.
use Rattle.std.proofs.Common.{◌≡◌, ◌<◌, ◌≤◌, ◌+◌, ◌==◌, ℕ, suc, Bool, true, false, cond, List, [], ◌∷◌, ◌++◌, Option, Some, None, length, refl, sym, ◌∙◌, ap, subst, arith, append-nil, length-append}
use Rattle.std.specs.Prelude.{◌||◌, IfSome, is_some, nat_lt}
use Rattle.std.specs.Option.{option_map}
use Rattle.std.proofs.lemmas.Bool.{ltb-true}
use Rattle.axi_beats.specs.Response.{worst_of}
use Rattle.axi_beats.specs.declared.beat.Addr.{Addr}
use Rattle.axi_beats.specs.declared.beat.BBeat.{BBeat}
use Rattle.axi_beats.specs.declared.beat.RBeat.{RBeat}
use Rattle.axi_beats.specs.declared.beat.WBeat.{WBeat}
use Rattle.axi_beats.specs.declared.response.Resp.{Resp}
use Rattle.axi_beats.specs.declared.response.Resp.TheVariants.{Okay}
use Rattle.axi_link.specs.LinkView.{LinkView}
use Rattle.axi_link.specs.LinkWords.{has_room, head_of, link_of}
use Rattle.axi_link.specs.declared.out.Out.{Out}
use Rattle.burst_cuts.specs.Parts.{as_last, part_of}
use Rattle.node_core.specs.Acted.{Acted, opened}
use Rattle.node_core.specs.Fits.{MovesFit, PutFits, TakeFits}
use Rattle.node_core.specs.Rows.{beat_where, fits, put_of, take_of}
use Rattle.node_core.proofs.FitLemmas.{take-fits}
use Rattle.node_shape.specs.KindLaws.{Begins, Fit, Own, Rests, Stays, Steady}
use Rattle.node_shape.proofs.OneLinkLemmas.{one-has, puts-own, takes-own}
use Rattle.split_node.specs.SplitState.{IsCuttable, IsInWork, IsSplit, SplitState, new_split}
use Rattle.split_node.specs.SplitTable.{AddressRow, AnswerRow, CanSplit, added, address_row, b_of_entry, b_row, oldest_entry, less, misses_more, no_address, no_answer, one_less, r_of_entry, r_row, split_above, split_ar, split_aw, split_b, split_below, split_out, split_r, split_table, split_w, with_rlast, work_after}
use Rattle.split_node.specs.SplitTrail.{split_kind}
use Rattle.split_node.specs.declared.burst.InWork.{InWork}
use Rattle.split_node.specs.declared.burst.SplitEntry.{SplitEntry}

-- ---- moves fit

-- a take has its head, a put its room
record RowFits {X : Type 0} (queue : List X) (room : Bool) (takes puts : Bool) : Type 0 where
  head : takes ≡ true → 0 < length queue
  has_room : puts ≡ true → room ≡ true

some-head : {X : Type 0} (x : X) (queue : List X) → 0 < length (x ∷ queue)
some-head x queue = omega arith

address-fits : (room more : Bool) (queue : List Addr) (work : Option InWork) → RowFits queue room (is_some (address_row room more (head_of queue) work).taken) (is_some (address_row room more (head_of queue) work).put)
address-fits false more queue work = record { head = λ is. absurd (cc); has_room = λ is. absurd (cc) }
address-fits true more queue (Some w) = record { head = λ is. absurd (cc); has_room = λ is. refl }
address-fits true false queue None = record { head = λ is. absurd (cc); has_room = λ is. absurd (cc) }
address-fits true true [] None = record { head = λ is. absurd (cc); has_room = λ is. refl }
address-fits true true (a ∷ queue) None = record { head = λ is. some-head a queue; has_room = λ is. refl }

data-fits : (room : Bool) (queue : List WBeat) → RowFits queue room (is_some (beat_where room (head_of queue))) (is_some (option_map as_last (beat_where room (head_of queue))))
data-fits false queue = record { head = λ is. absurd (cc); has_room = λ is. absurd (cc) }
data-fits true [] = record { head = λ is. absurd (cc); has_room = λ is. refl }
data-fits true (w ∷ queue) = record { head = λ is. some-head w queue; has_room = λ is. refl }

abbrev AnswerFits : {X : Type 0} → List X → Bool → AnswerRow X → Type 0
AnswerFits queue room row = RowFits queue room (is_some row.taken) (is_some row.put)

-- a response of an entry, by what is asked
abbrev pub b_by : Bool → Bool → BBeat → SplitEntry → List SplitEntry → AnswerRow BBeat
b_by more room b e entries =
    cond more (record { taken = Some b; put = None; entries = one_less b.id b.resp entries })
    (cond room (record { taken = Some b; put = Some (record { id = b.id; resp = worst_of e.worst b.resp; tag = b.tag }); entries = one_less b.id b.resp entries }) (no_answer entries))

b-fits_by : (more room : Bool) (b : BBeat) (queue : List BBeat) (e : SplitEntry) (entries : List SplitEntry) → AnswerFits (b ∷ queue) room (b_by more room b e entries)
b-fits_by false true b queue e entries = record { head = λ is. some-head b queue; has_room = λ is. refl }
b-fits_by false false b queue e entries = record { head = λ is. absurd (cc); has_room = λ is. absurd (cc) }
b-fits_by true room b queue e entries = record { head = λ is. some-head b queue; has_room = λ is. absurd (cc) }

b-fits_of : (room : Bool) (b : BBeat) (queue : List BBeat) (entries : List SplitEntry) (o : Option SplitEntry) → AnswerFits (b ∷ queue) room (b_of_entry room b entries o)
b-fits_of room b queue entries None = record { head = λ is. absurd (cc); has_room = λ is. absurd (cc) }
b-fits_of room b queue entries (Some e) = b-fits_by (misses_more e) room b queue e entries

b-fits : (room : Bool) (queue : List BBeat) (entries : List SplitEntry) → AnswerFits queue room (b_row room (head_of queue) entries)
b-fits room [] entries = record { head = λ is. absurd (cc); has_room = λ is. absurd (cc) }
b-fits room (b ∷ queue) entries = b-fits_of room b queue entries (oldest_entry b.id entries)

r-fits_of : (r : RBeat) (queue : List RBeat) (entries : List SplitEntry) (o : Option SplitEntry) → AnswerFits (r ∷ queue) true (r_of_entry r entries o)
r-fits_of r queue entries None = record { head = λ is. absurd (cc); has_room = λ is. absurd (cc) }
r-fits_of r queue entries (Some e) = record { head = λ is. some-head r queue; has_room = λ is. refl }

r-fits : (room : Bool) (queue : List RBeat) (entries : List SplitEntry) → AnswerFits queue room (r_row room (head_of queue) entries)
r-fits false queue entries = record { head = λ is. absurd (cc); has_room = λ is. absurd (cc) }
r-fits true [] entries = record { head = λ is. absurd (cc); has_room = λ is. absurd (cc) }
r-fits true (r ∷ queue) entries = r-fits_of r queue entries (oldest_entry r.id entries)

takes : {X : Type 0} (queue_of : LinkView → List X) (links : List LinkView) (link : ℕ) (b : Bool) → (b ≡ true → 0 < length (queue_of (link_of links link))) → TakeFits queue_of links (take_of link b)
takes queue_of links link false is = tt
takes queue_of links link true is = is refl

puts : {X : Type 0} (queue_of : LinkView → List X) (links : List LinkView) (link : ℕ) (o : Option X) → (is_some o ≡ true → has_room (link_of links link).depth (queue_of (link_of links link)) ≡ true) →
    PutFits queue_of links (put_of link o)
puts queue_of links link None is = tt
puts queue_of links link (Some x) is = ltb-true (length (queue_of (link_of links link))) (link_of links link).depth (is refl)

pub split_fits : (links : List LinkView) (s : SplitState) → MovesFit links (split_out links s)
split_fits links s =
    let u = split_above links s in
    let l = split_below links s in
    let aw = address-fits (has_room l.depth l.aw) (fits s.writes) u.aw s.write_work in
    let ar = address-fits (has_room l.depth l.ar) (fits s.reads) u.ar s.read_work in
    let w = data-fits (has_room l.depth l.w) u.w in
    let b = b-fits (has_room u.depth u.b) l.b s.writes in
    let r = r-fits (has_room u.depth u.r) l.r s.reads in
    record {
      aw_take = takes (λ k. k.aw) links s.upper (is_some (split_aw links s).taken) aw.head;
      aw_put = puts (λ k. k.aw) links s.lower (split_aw links s).put aw.has_room;
      w_take = takes (λ k. k.w) links s.upper (is_some (split_w links s)) w.head;
      w_put = puts (λ k. k.w) links s.lower (option_map as_last (split_w links s)) w.has_room;
      b_take = takes (λ k. k.b) links s.lower (is_some (split_b links s).taken) b.head;
      b_put = puts (λ k. k.b) links s.upper (split_b links s).put b.has_room;
      ar_take = takes (λ k. k.ar) links s.upper (is_some (split_ar links s).taken) ar.head;
      ar_put = puts (λ k. k.ar) links s.lower (split_ar links s).put ar.has_room;
      r_take = takes (λ k. k.r) links s.lower (is_some (split_r links s).taken) r.head;
      r_put = puts (λ k. k.r) links s.upper (split_r links s).put r.has_room;
    }

-- ---- the fact is kept

pub work_after-is : (a : Addr) (n : ℕ) → IsCuttable a → IfSome (work_after a n) IsInWork
work_after-is a n is = go (nat_lt n a.len) refl
  where
    go : (more : Bool) → nat_lt n a.len ≡ more → IfSome (cond more (Some (record { request = a; next = suc n })) None) IsInWork
    go true less = record { request = is; next = (let below = ltb-true n a.len less in let next : suc n ≤ a.len = omega (arith, below) in next) }
    go false less = tt

pub row-in_work : (room more : Bool) (head : Option Addr) (work : Option InWork) → IfSome head IsCuttable → IfSome work IsInWork → IfSome (address_row room more head work).work IsInWork
row-in_work false more head work can in_work = in_work
row-in_work true more head (Some w) can in_work = work_after-is w.request w.next in_work.request
row-in_work true false head None can in_work = tt
row-in_work true true None None can in_work = tt
row-in_work true true (Some a) None can in_work = work_after-is a 0 can

few-after : (entries after : List SplitEntry) (room : Bool) (head : Option Addr) (work : Option InWork) → length after ≤ length entries → length entries ≤ 16 →
    length (after ++ added (address_row room (fits entries) head work).taken) ≤ 16
few-after entries after room head work fewer most = go (fits entries) refl room head work
  where
    same : length (after ++ []) ≤ 16
    same = omega (arith, ap length (append-nil after), fewer, most)

    go : (more : Bool) → fits entries ≡ more → (room : Bool) (head : Option Addr) (work : Option InWork) → length (after ++ added (address_row room more head work).taken) ≤ 16
    go more is false head work = same
    go more is true head (Some w) = same
    go false is true head None = same
    go true is true None None = same
    go true is true (Some a) None = omega (arith, length-append after (added (Some a)), ltb-true (length entries) 16 is, fewer)

fewer-by : (own more : Bool) (id : ℕ) (response : Resp) (e : SplitEntry) (es : List SplitEntry) → length (one_less id response es) ≤ length es →
    length (cond own (cond more (less e response ∷ es) es) (e ∷ one_less id response es)) ≤ suc (length es)
fewer-by true true id response e es rest = omega arith
fewer-by true false id response e es rest = omega arith
fewer-by false more id response e es rest = omega (arith, rest)

pub one-fewer : (id : ℕ) (response : Resp) (entries : List SplitEntry) → length (one_less id response entries) ≤ length entries
one-fewer id response [] = omega arith
one-fewer id response (e ∷ es) = fewer-by (e.id == id) (misses_more e) id response e es (one-fewer id response es)

fewer-b_by : (more room : Bool) (b : BBeat) (e : SplitEntry) (entries : List SplitEntry) → length (b_by more room b e entries).entries ≤ length entries
fewer-b_by true room b e entries = one-fewer b.id b.resp entries
fewer-b_by false true b e entries = one-fewer b.id b.resp entries
fewer-b_by false false b e entries = omega arith

fewer-b_of : (room : Bool) (b : BBeat) (entries : List SplitEntry) (o : Option SplitEntry) → length (b_of_entry room b entries o).entries ≤ length entries
fewer-b_of room b entries None = omega arith
fewer-b_of room b entries (Some e) = fewer-b_by (misses_more e) room b e entries

pub fewer-b : (room : Bool) (head : Option BBeat) (entries : List SplitEntry) → length (b_row room head entries).entries ≤ length entries
fewer-b room None entries = omega arith
fewer-b room (Some b) entries = fewer-b_of room b entries (oldest_entry b.id entries)

fewer-r_of : (r : RBeat) (entries : List SplitEntry) (o : Option SplitEntry) → length (r_of_entry r entries o).entries ≤ length entries
fewer-r_of r entries None = omega arith
fewer-r_of r entries (Some e) = one-fewer r.id Okay entries

pub fewer-r : (room : Bool) (head : Option RBeat) (entries : List SplitEntry) → length (r_row room head entries).entries ≤ length entries
fewer-r false head entries = omega arith
fewer-r true None entries = omega arith
fewer-r true (Some r) entries = fewer-r_of r entries (oldest_entry r.id entries)

pub split-keeps_fact : (links : List LinkView) (s : SplitState) → IsSplit s → CanSplit links s → IsSplit (split_table links s).state
split-keeps_fact links s fact can =
    let u = split_above links s in
    let l = split_below links s in
    record {
      write_work = row-in_work (has_room l.depth l.aw) (fits s.writes) (head_of u.aw) s.write_work can.aw fact.write_work;
      read_work = row-in_work (has_room l.depth l.ar) (fits s.reads) (head_of u.ar) s.read_work can.ar fact.read_work;
      few_writes = few-after s.writes (split_b links s).entries (has_room l.depth l.aw) (head_of u.aw) s.write_work (fewer-b (has_room u.depth u.b) (head_of l.b) s.writes) fact.few_writes;
      few_reads = few-after s.reads (split_r links s).entries (has_room l.depth l.ar) (head_of u.ar) s.read_work (fewer-r (has_room u.depth u.r) (head_of l.r) s.reads) fact.few_reads;
    }

-- ---- rests

or-none : (a b : Bool) → (a || b) ≡ false → (a ≡ false) × (b ≡ false)
or-none false b none = (refl, none)
or-none true b none = absurd (cc)

address-still : (room more : Bool) (head : Option Addr) (work : Option InWork) → is_some (address_row room more head work).put ≡ false → address_row room more head work ≡ no_address work
address-still false more head work none = refl
address-still true more head (Some w) none = absurd (cc)
address-still true false head None none = refl
address-still true true None None none = refl
address-still true true (Some a) None none = absurd (cc)

b-still_by : (more room : Bool) (b : BBeat) (e : SplitEntry) (entries : List SplitEntry) → is_some (b_by more room b e entries).taken ≡ false → b_by more room b e entries ≡ no_answer entries
b-still_by true room b e entries none = absurd (cc)
b-still_by false true b e entries none = absurd (cc)
b-still_by false false b e entries none = refl

b-still_of : (room : Bool) (b : BBeat) (entries : List SplitEntry) (o : Option SplitEntry) → is_some (b_of_entry room b entries o).taken ≡ false → b_of_entry room b entries o ≡ no_answer entries
b-still_of room b entries None none = refl
b-still_of room b entries (Some e) none = b-still_by (misses_more e) room b e entries none

b-still : (room : Bool) (head : Option BBeat) (entries : List SplitEntry) → is_some (b_row room head entries).taken ≡ false → b_row room head entries ≡ no_answer entries
b-still room None entries none = refl
b-still room (Some b) entries none = b-still_of room b entries (oldest_entry b.id entries) none

r-still_of : (r : RBeat) (entries : List SplitEntry) (o : Option SplitEntry) → is_some (r_of_entry r entries o).taken ≡ false → r_of_entry r entries o ≡ no_answer entries
r-still_of r entries None none = refl
r-still_of r entries (Some e) none = absurd (cc)

r-still : (room : Bool) (head : Option RBeat) (entries : List SplitEntry) → is_some (r_row room head entries).taken ≡ false → r_row room head entries ≡ no_answer entries
r-still false head entries none = refl
r-still true None entries none = refl
r-still true (Some r) entries none = r-still_of r entries (oldest_entry r.id entries) none

w-still : (o : Option WBeat) → is_some o ≡ false → o ≡ None
w-still None none = refl
w-still (Some w) none = absurd (cc)

-- the table by its rows
abbrev by_rows : ℕ → ℕ → AddressRow → Option WBeat → AnswerRow BBeat → AddressRow → AnswerRow RBeat → Acted SplitState
by_rows upper lower aw w b ar r = record {
  state = record { upper = upper; lower = lower; write_work = aw.work; read_work = ar.work; writes = b.entries ++ added aw.taken; reads = r.entries ++ added ar.taken };
  out = record {
    aw_take = take_of upper (is_some aw.taken);
    aw_put = put_of lower aw.put;
    w_take = take_of upper (is_some w);
    w_put = put_of lower (option_map as_last w);
    b_take = take_of lower (is_some b.taken);
    b_put = put_of upper b.put;
    ar_take = take_of upper (is_some ar.taken);
    ar_put = put_of lower ar.put;
    r_take = take_of lower (is_some r.taken);
    r_put = put_of upper r.put;
  };
}

all-still : (s : SplitState) (aw ar : AddressRow) (w : Option WBeat) (b : AnswerRow BBeat) (r : AnswerRow RBeat) → aw ≡ no_address s.write_work → ar ≡ no_address s.read_work → w ≡ None →
    b ≡ no_answer s.writes → r ≡ no_answer s.reads → by_rows s.upper s.lower aw w b ar r ≡ opened s
all-still s aw ar w b r aw_is ar_is w_is b_is r_is =
    ap (λ (x : AddressRow). by_rows s.upper s.lower x w b ar r) aw_is
    ∙ ap (λ (x : AddressRow). by_rows s.upper s.lower (no_address s.write_work) w b x r) ar_is
    ∙ ap (λ (x : Option WBeat). by_rows s.upper s.lower (no_address s.write_work) x b (no_address s.read_work) r) w_is
    ∙ ap (λ (x : AnswerRow BBeat). by_rows s.upper s.lower (no_address s.write_work) None x (no_address s.read_work) r) b_is
    ∙ ap (λ (x : AnswerRow RBeat). by_rows s.upper s.lower (no_address s.write_work) None (no_answer s.writes) (no_address s.read_work) x) r_is
    ∙ ap (λ (xs : List SplitEntry). opened (record { upper = s.upper; lower = s.lower; write_work = s.write_work; read_work = s.read_work; writes = xs; reads = s.reads ++ [] })) (append-nil s.writes)
    ∙ ap (λ (xs : List SplitEntry). opened (record { upper = s.upper; lower = s.lower; write_work = s.write_work; read_work = s.read_work; writes = s.writes; reads = xs })) (append-nil s.reads)

module _ (E : Type 0) where
  pub split-always_fits : Fit (split_kind {E = E})
  split-always_fits round links s = split_fits links s

  pub split-moves_own : Own (split_kind {E = E})
  split-moves_own round links s = record {
    aw_take = takes-own (s.upper ∷ []) s.upper _ (one-has s.upper);
    aw_put = puts-own (s.lower ∷ []) s.lower _ (one-has s.lower);
    w_take = takes-own (s.upper ∷ []) s.upper _ (one-has s.upper);
    w_put = puts-own (s.lower ∷ []) s.lower _ (one-has s.lower);
    b_take = takes-own (s.lower ∷ []) s.lower _ (one-has s.lower);
    b_put = puts-own (s.upper ∷ []) s.upper _ (one-has s.upper);
    ar_take = takes-own (s.upper ∷ []) s.upper _ (one-has s.upper);
    ar_put = puts-own (s.lower ∷ []) s.lower _ (one-has s.lower);
    r_take = takes-own (s.lower ∷ []) s.lower _ (one-has s.lower);
    r_put = puts-own (s.upper ∷ []) s.upper _ (one-has s.upper);
  }

  pub split-is_steady : Steady (split_kind {E = E})
  split-is_steady round links s = record { uppers = refl; lowers = refl; patience = refl; suits = λ schedules suits. suits }

  pub split-begins : Begins (split_kind {E = E})
  split-begins s new = subst IsSplit (sym new) (record { write_work = tt; read_work = tt; few_writes = omega arith; few_reads = omega arith })

  pub split-stays : Stays (split_kind {E = E})
  split-stays round links s fact can = split-keeps_fact links s fact can

  pub split-rests : Rests (split_kind {E = E})
  split-rests round links s quiet =
      let u = split_above links s in
      let l = split_below links s in
      let aw = is_some (split_aw links s).put in
      let w = is_some (split_w links s) in
      let b = is_some (split_b links s).taken in
      let ar = is_some (split_ar links s).put in
      let r = is_some (split_r links s).taken in
      let four = or-none (aw || w || b || ar) r quiet in
      let three = or-none (aw || w || b) ar four.0 in
      let two = or-none (aw || w) b three.0 in
      let one = or-none aw w two.0 in
      all-still s (split_aw links s) (split_ar links s) (split_w links s) (split_b links s) (split_r links s)
      (address-still (has_room l.depth l.aw) (fits s.writes) (head_of u.aw) s.write_work one.0)
      (address-still (has_room l.depth l.ar) (fits s.reads) (head_of u.ar) s.read_work three.1)
      (w-still (split_w links s) one.1)
      (b-still (has_room u.depth u.b) (head_of l.b) s.writes two.1)
      (r-still (has_room u.depth u.r) (head_of l.r) s.reads four.1)
