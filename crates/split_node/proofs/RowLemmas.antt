-- What the code of an answer's row does is what the row says.
use Rattle.std.proofs.Common.{◌≡◌, ◌<◌, ◌≤◌, ◌-◌, ◌==◌, ℕ, zero, suc, Bool, true, false, cond, List, [], ◌∷◌, Option, None, Some, length, map, refl, sym, ◌∙◌, ap, arith}
use Rattle.std.specs.Prelude.{is_some, not, remove, slice_get, slice_set}
use Rattle.std.specs.Option.{option_map}
use Rattle.std.proofs.lemmas.Bool.{eqb-true, lt-ltb, le-ltb}
use Rattle.axi_beats.specs.Response.{worst_of}
use Rattle.axi_beats.specs.declared.beat.BBeat.{BBeat}
use Rattle.axi_beats.specs.declared.beat.RBeat.{RBeat}
use Rattle.axi_beats.specs.declared.response.Resp.{Resp}
use Rattle.axi_beats.specs.declared.response.Resp.TheVariants.{Okay}
use Rattle.flight.proofs.EntryFacts.{none-shift}
use Rattle.flight.specs.Entries.{place_of}
use Rattle.split_node.specs.SplitLaws.{id_of_split}
use Rattle.node_core.specs.Rows.{beat_where}
use Rattle.split_node.proofs.TableLemmas.{b_by}
use Rattle.split_node.specs.SplitTable.{AnswerRow, b_of_entry, b_row, oldest_entry, less, misses_more, no_answer, one_less, r_of_entry, r_row, with_rlast}
use Rattle.split_node.specs.declared.burst.SplitEntry.{SplitEntry}

-- the entry of an ID stands at its first place
entry-by : (own : Bool) (id : ℕ) (e : SplitEntry) (es : List SplitEntry) (o : Option ℕ) (place : ℕ) → ((q : ℕ) → o ≡ Some q → slice_get es q ≡ oldest_entry id es) → cond own (Some 0) (option_map suc o) ≡ Some place →
    slice_get (e ∷ es) place ≡ cond own (Some e) (oldest_entry id es)
entry-by true id e es o zero rest found = refl
entry-by true id e es o (suc place) rest found = absurd (cc)
entry-by false id e es None place rest found = absurd (cc)
entry-by false id e es (Some q) zero rest found = absurd (cc)
entry-by false id e es (Some q) (suc place) rest found = rest place (cc)

pub entry-at : (id : ℕ) (entries : List SplitEntry) (place : ℕ) → place_of id (map id_of_split entries) ≡ Some place → slice_get entries place ≡ oldest_entry id entries
entry-at id [] place found = absurd (cc)
entry-at id (e ∷ es) place found = entry-by (e.id == id) id e es (place_of id (map id_of_split es)) place (entry-at id es) found

-- and where it has none, there is none
none-by : (own : Bool) (id : ℕ) (e : SplitEntry) (es : List SplitEntry) → (place_of id (map id_of_split es) ≡ None → oldest_entry id es ≡ None) → cond own (Some 0) (option_map suc (place_of id (map id_of_split es))) ≡ None →
    cond own (Some e) (oldest_entry id es) ≡ None
none-by true id e es rest none = absurd (cc)
none-by false id e es rest none = rest (none-shift (place_of id (map id_of_split es)) none)

pub no-entry : (id : ℕ) (entries : List SplitEntry) → place_of id (map id_of_split entries) ≡ None → oldest_entry id entries ≡ None
no-entry id [] none = refl
no-entry id (e ∷ es) none = none-by (e.id == id) id e es (no-entry id es) none

-- one answer less
abbrev counted : ℕ → Resp → SplitEntry → SplitEntry
counted id response e = record { id = id; missing = e.missing - 1; worst = worst_of e.worst response }

set-by : (own more : Bool) (id : ℕ) (response : Resp) (e x : SplitEntry) (es : List SplitEntry) (o : Option ℕ) (place : ℕ) → (e.id == id) ≡ own → misses_more e ≡ more →
    ((q : ℕ) → o ≡ Some q → slice_get es q ≡ Some x → slice_set es q (counted id response x) ≡ one_less id response es) → cond own (Some 0) (option_map suc o) ≡ Some place → slice_get (e ∷ es) place ≡ Some x → misses_more x ≡ true →
    slice_set (e ∷ es) place (counted id response x) ≡ cond own (cond more (less e response ∷ es) es) (e ∷ one_less id response es)
set-by true true id response e x es o zero own is rest found at more =
    let same : e ≡ x = cc in
    let key : e.id ≡ id = eqb-true e.id id own in
    ap (λ (y : SplitEntry). counted id response y ∷ es) (sym same) ∙ ap (λ (i : ℕ). record { id = i; missing = e.missing - 1; worst = worst_of e.worst response } ∷ es) (sym key)
set-by true false id response e x es o zero own is rest found at more =
    let same : e ≡ x = cc in
    let no : true ≡ false = sym more ∙ ap misses_more (sym same) ∙ is in
    absurd (cc)
set-by true more id response e x es o (suc place) own is rest found at many = absurd (cc)
set-by false more id response e x es None place own is rest found at many = absurd (cc)
set-by false more id response e x es (Some q) zero own is rest found at many = absurd (cc)
set-by false more id response e x es (Some q) (suc place) own is rest found at many = ap (λ (l : List SplitEntry). e ∷ l) (rest place (cc) at)

pub set-less : (id : ℕ) (response : Resp) (x : SplitEntry) (entries : List SplitEntry) (place : ℕ) → place_of id (map id_of_split entries) ≡ Some place → slice_get entries place ≡ Some x → misses_more x ≡ true →
    slice_set entries place (counted id response x) ≡ one_less id response entries
set-less id response x [] place found at more = absurd (cc)
set-less id response x (e ∷ es) place found at more =
    set-by (e.id == id) (misses_more e) id response e x es (place_of id (map id_of_split es)) place refl refl (λ q is there. set-less id response x es q is there more) found at more

remove-by : (own more : Bool) (id : ℕ) (response : Resp) (e x : SplitEntry) (es : List SplitEntry) (o : Option ℕ) (place : ℕ) → misses_more e ≡ more →
    ((q : ℕ) → o ≡ Some q → slice_get es q ≡ Some x → remove es q ≡ one_less id response es) → cond own (Some 0) (option_map suc o) ≡ Some place → slice_get (e ∷ es) place ≡ Some x → misses_more x ≡ false →
    remove (e ∷ es) place ≡ cond own (cond more (less e response ∷ es) es) (e ∷ one_less id response es)
remove-by true false id response e x es o zero is rest found at last = refl
remove-by true true id response e x es o zero is rest found at last =
    let same : e ≡ x = cc in
    let no : true ≡ false = sym is ∙ ap misses_more same ∙ last in
    absurd (cc)
remove-by true more id response e x es o (suc place) is rest found at last = absurd (cc)
remove-by false more id response e x es None place is rest found at last = absurd (cc)
remove-by false more id response e x es (Some q) zero is rest found at last = absurd (cc)
remove-by false more id response e x es (Some q) (suc place) is rest found at last = ap (λ (l : List SplitEntry). e ∷ l) (rest place (cc) at)

pub remove-less : (id : ℕ) (response : Resp) (x : SplitEntry) (entries : List SplitEntry) (place : ℕ) → place_of id (map id_of_split entries) ≡ Some place → slice_get entries place ≡ Some x → misses_more x ≡ false →
    remove entries place ≡ one_less id response entries
remove-less id response x [] place found at last = absurd (cc)
remove-less id response x (e ∷ es) place found at last =
    remove-by (e.id == id) (misses_more e) id response e x es (place_of id (map id_of_split es)) place refl (λ q is there. remove-less id response x es q is there last) found at last

-- as the code writes it
pub counts-more : (id : ℕ) (response worst : Resp) (x : SplitEntry) (entries : List SplitEntry) (place : ℕ) → place_of id (map id_of_split entries) ≡ Some place → slice_get entries place ≡ Some x → 1 < x.missing →
    worst ≡ worst_of x.worst response → slice_set entries place (record { id = id; missing = x.missing - 1; worst = worst }) ≡ one_less id response entries
counts-more id response worst x entries place found at more is =
    ap (λ (w : Resp). slice_set entries place (record { id = id; missing = x.missing - 1; worst = w })) is ∙ set-less id response x entries place found at (lt-ltb 1 x.missing more)

pub counts-last : (id : ℕ) (response : Resp) (x : SplitEntry) (entries : List SplitEntry) (place : ℕ) → place_of id (map id_of_split entries) ≡ Some place → slice_get entries place ≡ Some x → x.missing ≤ 1 →
    remove entries place ≡ one_less id response entries
counts-last id response x entries place found at last = remove-less id response x entries place found at (le-ltb 1 x.missing last)

-- B, by what the code finds
abbrev b_put : BBeat → Resp → List SplitEntry → AnswerRow BBeat
b_put b w entries = record { taken = Some b; put = Some (record { id = b.id; resp = w; tag = b.tag }); entries = one_less b.id b.resp entries }

module _ (room : Bool) (head : Option BBeat) (b : BBeat) (entries : List SplitEntry) (is : head ≡ Some b) where
  abbrev b_found : Option SplitEntry → AnswerRow BBeat
  b_found o = b_of_entry room b entries o

  b-of : b_row room head entries ≡ b_found (oldest_entry b.id entries)
  b-of = ap (λ (o : Option BBeat). b_row room o entries) is

  pub b-none : place_of b.id (map id_of_split entries) ≡ None → b_row room head entries ≡ no_answer entries
  b-none none = b-of ∙ ap b_found (no-entry b.id entries none)

  module _ (place : ℕ) (e : SplitEntry) (found : place_of b.id (map id_of_split entries) ≡ Some place) (at : slice_get entries place ≡ Some e) where
    b-by : b_row room head entries ≡ b_by (misses_more e) room b e entries
    b-by = b-of ∙ ap b_found (sym (entry-at b.id entries place found) ∙ at)

    pub b-more : 1 < e.missing → b_row room head entries ≡ record { taken = Some b; put = None; entries = one_less b.id b.resp entries }
    b-more more = b-by ∙ ap (λ (m : Bool). b_by m room b e entries) (lt-ltb 1 e.missing more)

    pub b-waits : e.missing ≤ 1 → room ≡ false → b_row room head entries ≡ no_answer entries
    b-waits last full = b-by ∙ ap (λ (m : Bool). b_by m room b e entries) (le-ltb 1 e.missing last) ∙ ap (λ (r : Bool). b_by false r b e entries) full

    pub b-last : (response : Resp) → e.missing ≤ 1 → room ≡ true → response ≡ worst_of e.worst b.resp →
        b_row room head entries ≡ record { taken = Some b; put = Some (record { id = b.id; resp = response; tag = b.tag }); entries = one_less b.id b.resp entries }
    b-last response last free worst =
        b-by ∙ ap (λ (m : Bool). b_by m room b e entries) (le-ltb 1 e.missing last) ∙ ap (λ (r : Bool). b_by false r b e entries) free
        ∙ ap (λ (w : Resp). b_put b w entries) (sym worst)

-- R
pub passed-by : (room : Bool) (o : Option RBeat) (r : RBeat) → beat_where room o ≡ Some r → (room ≡ true) × (o ≡ Some r)
passed-by true o r is = (refl, is)
passed-by false o r is = absurd (cc)

module _ (room : Bool) (head : Option RBeat) (r : RBeat) (entries : List SplitEntry) (is : beat_where room head ≡ Some r) where
  r-of : r_row room head entries ≡ r_of_entry r entries (oldest_entry r.id entries)
  r-of = let both = passed-by room head r is in ap (λ (x : Bool). r_row x head entries) both.0 ∙ ap (λ (o : Option RBeat). r_row true o entries) both.1

  pub r-none : place_of r.id (map id_of_split entries) ≡ None → r_row room head entries ≡ no_answer entries
  r-none none = r-of ∙ ap (r_of_entry r entries) (no-entry r.id entries none)

  pub r-some : (place : ℕ) (e : SplitEntry) → place_of r.id (map id_of_split entries) ≡ Some place → slice_get entries place ≡ Some e →
      r_row room head entries ≡ record { taken = Some r; put = Some (with_rlast r (not (misses_more e))); entries = one_less r.id Okay entries }
  r-some place e found at = r-of ∙ ap (r_of_entry r entries) (sym (entry-at r.id entries place found) ∙ at)
