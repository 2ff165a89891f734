-- What a splitter does wherever it can.
use Rattle.std.proofs.Common.{◌≡◌, ◌<◌, ◌==◌, ℕ, zero, suc, Bool, false, true, cond, List, [], ◌∷◌, ◌++◌, Option, None, Some, length, map, take, refl, sym, ◌∙◌, ap, ap₂, subst, arith}
use Rattle.std.specs.Prelude.{All, Contains, IfSome, IsSome, IsTrue, flat_map, is_some, not, remove, unwrap_or}
use Rattle.std.specs.Option.{option_and_then, option_map}
use Rattle.std.proofs.lemmas.Bool.{lt-ltb}
use Rattle.axi_beats.specs.Response.{worst_of}
use Rattle.axi_beats.specs.declared.beat.Addr.{Addr}
use Rattle.axi_beats.specs.declared.beat.BBeat.{BBeat}
use Rattle.axi_beats.specs.declared.beat.RBeat.{RBeat}
use Rattle.axi_beats.specs.declared.beat.WBeat.{WBeat}
use Rattle.axi_beats.specs.declared.response.Resp.{Resp}
use Rattle.axi_beats.specs.declared.response.Resp.TheVariants.{Okay}
use Rattle.axi_link.specs.LinkView.{LinkView}
use Rattle.axi_link.specs.LinkWords.{has_room, head_of, link_of}
use Rattle.burst_cuts.proofs.CutLemmas.{map-append}
use Rattle.burst_cuts.specs.Parts.{as_last, part_of}
use Rattle.flight.specs.Entries.{place_of}
use Rattle.node_core.specs.Rows.{beat_where, fits, put_of, take_of}
use Rattle.node_shape.specs.LocalLaws.{AddressesTaken, AnswersTaken, AwaitedGoesOn, DataAwaited, EntriesStay, head_taken, left}
use Rattle.node_shape.proofs.OneLinkLemmas.{is-one, of-one, one-has}
use Rattle.split_node.proofs.TableLemmas.{b_by}
use Rattle.split_node.specs.SplitLaws.{NextPartGoesOn, id_of_split, split_inside}
use Rattle.split_node.specs.SplitState.{SplitState}
use Rattle.split_node.specs.SplitTable.{added, address_row, b_of_entry, b_row, oldest_entry, less, misses_more, one_less, r_of_entry, r_row, split_above, split_ar, split_aw, split_b, split_below, split_out, split_r, with_rlast}
use Rattle.split_node.specs.SplitTrail.{split_kind}
use Rattle.split_node.specs.declared.burst.InWork.{InWork}
use Rattle.split_node.specs.declared.burst.SplitEntry.{SplitEntry}

-- there is room on the one link of a side, and its head is the head of the side
roomy : {X : Type 0} (queue_of : LinkView → List X) (links : List LinkView) (l : ℕ) → All (λ k. length (queue_of (link_of links k)) < (link_of links k).depth) (l ∷ []) →
    has_room (link_of links l).depth (queue_of (link_of links l)) ≡ true
roomy queue_of links l all = lt-ltb (length (queue_of (link_of links l))) (link_of links l).depth (of-one (λ k. length (queue_of (link_of links k)) < (link_of links k).depth) l all)

its-head : {X : Type 0} (queue_of : LinkView → List X) (links : List LinkView) (k l : ℕ) (x : X) → Contains (k ∷ []) l → head_of (queue_of (link_of links l)) ≡ Some x →
    head_of (queue_of (link_of links k)) ≡ Some x
its-head queue_of links k l x among is = subst (λ (n : ℕ). head_of (queue_of (link_of links n)) ≡ Some x) (is-one k l among) is

takes-some : (link : ℕ) (taken : Bool) → taken ≡ true → IsSome (take_of link taken)
takes-some link true is = refl
takes-some link false is = absurd (cc)

-- ---- answers

b-taken_by : (more : Bool) (b : BBeat) (e : SplitEntry) (entries : List SplitEntry) → is_some (b_by more true b e entries).taken ≡ true
b-taken_by true b e entries = refl
b-taken_by false b e entries = refl

b-taken_of : (b : BBeat) (entries : List SplitEntry) (o : Option SplitEntry) → is_some o ≡ true → is_some (b_of_entry true b entries o).taken ≡ true
b-taken_of b entries None is = absurd (cc)
b-taken_of b entries (Some e) is = b-taken_by (misses_more e) b e entries

pub b-taken : (room : Bool) (head : Option BBeat) (b : BBeat) (entries : List SplitEntry) → room ≡ true → head ≡ Some b → is_some (oldest_entry b.id entries) ≡ true → is_some (b_row room head entries).taken ≡ true
b-taken room head b entries roomy is placed =
    ap (λ (r : Bool). is_some (b_row r head entries).taken) roomy ∙ ap (λ (o : Option BBeat). is_some (b_row true o entries).taken) is ∙ b-taken_of b entries (oldest_entry b.id entries) placed

r-taken_of : (r : RBeat) (entries : List SplitEntry) (o : Option SplitEntry) → is_some o ≡ true → is_some (r_of_entry r entries o).taken ≡ true
r-taken_of r entries None is = absurd (cc)
r-taken_of r entries (Some e) is = refl

pub r-taken : (room : Bool) (head : Option RBeat) (r : RBeat) (entries : List SplitEntry) → room ≡ true → head ≡ Some r → is_some (oldest_entry r.id entries) ≡ true → is_some (r_row room head entries).taken ≡ true
r-taken room head r entries roomy is placed =
    ap (λ (x : Bool). is_some (r_row x head entries).taken) roomy ∙ ap (λ (o : Option RBeat). is_some (r_row true o entries).taken) is ∙ r-taken_of r entries (oldest_entry r.id entries) placed

-- ---- addresses

none-of : (entries : List SplitEntry) → map id_of_split entries ≡ [] → fits entries ≡ true
none-of [] none = refl
none-of (e ∷ entries) none = absurd (cc)

no-work : (work : Option InWork) → is_some work ≡ false → work ≡ None
no-work None none = refl
no-work (Some w) none = absurd (cc)

pub address-taken : (room more : Bool) (head : Option Addr) (work : Option InWork) (a : Addr) → room ≡ true → more ≡ true → head ≡ Some a → work ≡ None → is_some (address_row room more head work).taken ≡ true
address-taken true true (Some x) None a roomy fitting is none = refl
address-taken false more head work a roomy fitting is none = absurd (cc)
address-taken true false head work a roomy fitting is none = absurd (cc)
address-taken true true None work a roomy fitting is none = absurd (cc)
address-taken true true (Some x) (Some w) a roomy fitting is none = absurd (cc)

-- ---- write data

data-goes : (number : ℕ) (room : Bool) (head : Option WBeat) (w : WBeat) → room ≡ true → head ≡ Some w → IsSome (put_of number (option_map as_last (beat_where room head)))
data-goes number true (Some y) w roomy is = refl
data-goes number true None w roomy is = absurd (cc)
data-goes number false head w roomy is = absurd (cc)

data-taken : (number : ℕ) (room : Bool) (head : Option WBeat) (w : WBeat) → room ≡ true → head ≡ Some w → take_of number (is_some (beat_where room head)) ≡ Some number
data-taken number true (Some y) w roomy is = refl
data-taken number true None w roomy is = absurd (cc)
data-taken number false head w roomy is = absurd (cc)

names-take : (number : ℕ) (taken : Bool) → IfSome (take_of number taken) (λ u. Some number ≡ Some u)
names-take number true = refl
names-take number false = tt

names-put : {X : Type 0} (number : ℕ) (beat : Option X) → IfSome (put_of number beat) (λ put. put.0 ≡ number)
names-put number (Some x) = refl
names-put number None = tt

some-same : (m n : ℕ) → Some m ≡ Some n → m ≡ n
some-same m n is = ap (λ (o : Option ℕ). unwrap_or o 0) is

-- ---- entries

-- the IDs after an answer, by what is asked
abbrev ids_by : Bool → Bool → ℕ → Resp → SplitEntry → List SplitEntry → List ℕ
ids_by own more id response e es = map id_of_split (cond own (cond more (less e response ∷ es) es) (e ∷ one_less id response es))

abbrev found_by : Bool → ℕ → SplitEntry → List SplitEntry → Option SplitEntry
found_by own id e es = cond own (Some e) (oldest_entry id es)

stays-by : (own more : Bool) (id : ℕ) (response : Resp) (e x : SplitEntry) (es : List SplitEntry) → misses_more e ≡ more → found_by own id e es ≡ Some x → misses_more x ≡ true →
    (oldest_entry id es ≡ Some x → map id_of_split (one_less id response es) ≡ map id_of_split es) → ids_by own more id response e es ≡ e.id ∷ map id_of_split es
stays-by true true id response e x es is found open_ rest = refl
stays-by true false id response e x es is found open_ rest =
    let same : e ≡ x = cc in
    let no : true ≡ false = sym open_ ∙ ap misses_more (sym same) ∙ is in
    absurd (cc)
stays-by false more id response e x es is found open_ rest = ap (λ (l : List ℕ). e.id ∷ l) (rest found)

-- an entry that misses more stays
ids-stay : (id : ℕ) (response : Resp) (x : SplitEntry) (entries : List SplitEntry) → oldest_entry id entries ≡ Some x → misses_more x ≡ true → map id_of_split (one_less id response entries) ≡ map id_of_split entries
ids-stay id response x [] found open_ = absurd (cc)
ids-stay id response x (e ∷ es) found open_ = stays-by (e.id == id) (misses_more e) id response e x es refl found open_ (λ is. ids-stay id response x es is open_)

-- the place of the one that leaves
record LeavesAt (place : Option ℕ) (before after : List ℕ) : Type 0 where
  stay : after ≡ left place before
  within : IfSome place (λ p. p < length before)

abbrev place_by : Bool → ℕ → List ℕ → Option ℕ
place_by own id ids = cond own (Some 0) (option_map suc (place_of id ids))

later-by : (place : Option ℕ) (id : ℕ) (before after : List ℕ) → IsSome place → LeavesAt place before after → LeavesAt (option_map suc place) (id ∷ before) (id ∷ after)
later-by None id before after some at = absurd (cc)
later-by (Some p) id before after some at = record { stay = ap (λ (l : List ℕ). id ∷ l) at.stay; within = omega (arith, at.within) }

place-found : (id : ℕ) (x : SplitEntry) (entries : List SplitEntry) → oldest_entry id entries ≡ Some x → IsSome (place_of id (map id_of_split entries))
place-found id x [] found = absurd (cc)
place-found id x (e ∷ es) found = go (e.id == id) found (λ is. place-found id x es is)
  where
    shift : (o : Option ℕ) → IsSome o → IsSome (option_map suc o)
    shift (Some p) is = refl
    shift None is = absurd (cc)

    go : (own : Bool) → found_by own id e es ≡ Some x → (oldest_entry id es ≡ Some x → IsSome (place_of id (map id_of_split es))) → IsSome (place_by own id (map id_of_split es))
    go true found rest = refl
    go false found rest = shift (place_of id (map id_of_split es)) (rest found)

leaves-by : (own more : Bool) (id : ℕ) (response : Resp) (e x : SplitEntry) (es : List SplitEntry) → misses_more e ≡ more → found_by own id e es ≡ Some x → misses_more x ≡ false →
    (oldest_entry id es ≡ Some x → LeavesAt (place_of id (map id_of_split es)) (map id_of_split es) (map id_of_split (one_less id response es))) →
    (oldest_entry id es ≡ Some x → IsSome (place_of id (map id_of_split es))) →
    LeavesAt (place_by own id (map id_of_split es)) (e.id ∷ map id_of_split es) (ids_by own more id response e es)
leaves-by true false id response e x es is found last rest some = record { stay = refl; within = omega arith }
leaves-by true true id response e x es is found last rest some =
    let same : e ≡ x = cc in
    let no : true ≡ false = sym is ∙ ap misses_more same ∙ last in
    absurd (cc)
leaves-by false more id response e x es is found last rest some = later-by (place_of id (map id_of_split es)) e.id (map id_of_split es) (map id_of_split (one_less id response es)) (some found) (rest found)

ids-leave : (id : ℕ) (response : Resp) (x : SplitEntry) (entries : List SplitEntry) → oldest_entry id entries ≡ Some x → misses_more x ≡ false →
    LeavesAt (place_of id (map id_of_split entries)) (map id_of_split entries) (map id_of_split (one_less id response entries))
ids-leave id response x [] found last = absurd (cc)
ids-leave id response x (e ∷ es) found last =
    leaves-by (e.id == id) (misses_more e) id response e x es refl found last (λ is. ids-leave id response x es is last) (λ is. place-found id x es is)

-- a row of answers: what leaves, and with which take
record AnswerLeaves (place : Option ℕ) (before after : List ℕ) (taken : Bool) : Type 0 where
  stay : after ≡ left place before
  leaves : IfSome place (λ p. (p < length before) × (taken ≡ true))

none-leaves : (ids : List ℕ) (taken : Bool) → AnswerLeaves None ids ids taken
none-leaves ids taken = record { stay = refl; leaves = tt }

some-leaves : (place : Option ℕ) (before after : List ℕ) → LeavesAt place before after → AnswerLeaves place before after true
some-leaves None before after at = record { stay = at.stay; leaves = tt }
some-leaves (Some p) before after at = record { stay = at.stay; leaves = (at.within, refl) }

abbrev b_place : List SplitEntry → Option BBeat → Option ℕ
b_place entries put = option_and_then (λ (b : BBeat). place_of b.id (map id_of_split entries)) put

b-leaves_by : (more room : Bool) (b : BBeat) (e : SplitEntry) (entries : List SplitEntry) → oldest_entry b.id entries ≡ Some e → misses_more e ≡ more →
    AnswerLeaves (b_place entries (b_by more room b e entries).put) (map id_of_split entries) (map id_of_split (b_by more room b e entries).entries) (is_some (b_by more room b e entries).taken)
b-leaves_by true room b e entries found is = record { stay = ids-stay b.id b.resp e entries found is; leaves = tt }
b-leaves_by false false b e entries found is = none-leaves (map id_of_split entries) false
b-leaves_by false true b e entries found is = some-leaves (place_of b.id (map id_of_split entries)) (map id_of_split entries) (map id_of_split (one_less b.id b.resp entries)) (ids-leave b.id b.resp e entries found is)

b-leaves_of : (room : Bool) (b : BBeat) (entries : List SplitEntry) (o : Option SplitEntry) → oldest_entry b.id entries ≡ o →
    AnswerLeaves (b_place entries (b_of_entry room b entries o).put) (map id_of_split entries) (map id_of_split (b_of_entry room b entries o).entries) (is_some (b_of_entry room b entries o).taken)
b-leaves_of room b entries None found = none-leaves (map id_of_split entries) false
b-leaves_of room b entries (Some e) found = b-leaves_by (misses_more e) room b e entries found refl

b-leaves : (room : Bool) (head : Option BBeat) (entries : List SplitEntry) →
    AnswerLeaves (b_place entries (b_row room head entries).put) (map id_of_split entries) (map id_of_split (b_row room head entries).entries) (is_some (b_row room head entries).taken)
b-leaves room None entries = none-leaves (map id_of_split entries) false
b-leaves room (Some b) entries = b-leaves_of room b entries (oldest_entry b.id entries) refl

abbrev r_place : List SplitEntry → Option RBeat → Option ℕ
r_place entries put = option_and_then (λ (r : RBeat). cond r.last (place_of r.id (map id_of_split entries)) None) put

r-leaves_by : (more : Bool) (r : RBeat) (e : SplitEntry) (entries : List SplitEntry) → oldest_entry r.id entries ≡ Some e → misses_more e ≡ more →
    AnswerLeaves (cond (not more) (place_of r.id (map id_of_split entries)) None) (map id_of_split entries) (map id_of_split (one_less r.id Okay entries)) true
r-leaves_by true r e entries found is = record { stay = ids-stay r.id Okay e entries found is; leaves = tt }
r-leaves_by false r e entries found is = some-leaves (place_of r.id (map id_of_split entries)) (map id_of_split entries) (map id_of_split (one_less r.id Okay entries)) (ids-leave r.id Okay e entries found is)

r-leaves_of : (r : RBeat) (entries : List SplitEntry) (o : Option SplitEntry) → oldest_entry r.id entries ≡ o →
    AnswerLeaves (r_place entries (r_of_entry r entries o).put) (map id_of_split entries) (map id_of_split (r_of_entry r entries o).entries) (is_some (r_of_entry r entries o).taken)
r-leaves_of r entries None found = none-leaves (map id_of_split entries) false
r-leaves_of r entries (Some e) found = r-leaves_by (misses_more e) r e entries found refl

r-leaves : (room : Bool) (head : Option RBeat) (entries : List SplitEntry) →
    AnswerLeaves (r_place entries (r_row room head entries).put) (map id_of_split entries) (map id_of_split (r_row room head entries).entries) (is_some (r_row room head entries).taken)
r-leaves false head entries = none-leaves (map id_of_split entries) false
r-leaves true None entries = none-leaves (map id_of_split entries) false
r-leaves true (Some r) entries = r-leaves_of r entries (oldest_entry r.id entries) refl

-- the entry of the address that is taken
adds-by : (queue_of : LinkView → List Addr) (links : List LinkView) (u : ℕ) (room more : Bool) (queue : List Addr) (work : Option InWork) → queue_of (link_of links u) ≡ queue →
    map id_of_split (added (address_row room more (head_of queue) work).taken)
    ≡ flat_map (λ (taken : ℕ × Addr). taken.1.id ∷ []) (head_taken queue_of links (take_of u (is_some (address_row room more (head_of queue) work).taken)))
adds-by queue_of links u false more queue work is = refl
adds-by queue_of links u true more queue (Some w) is = refl
adds-by queue_of links u true false queue None is = refl
adds-by queue_of links u true true [] None is = refl
adds-by queue_of links u true true (a ∷ queue) None is =
    ap (λ (l : List Addr). flat_map (λ (taken : ℕ × Addr). taken.1.id ∷ []) (map (λ (head : Addr). (u, head)) (take 1 l))) (sym is)

leaves-with : (link : ℕ) (place : Option ℕ) (before : List ℕ) (taken : Bool) → IfSome place (λ p. (p < length before) × (taken ≡ true)) → IfSome place (λ p. (p < length before) × IsSome (take_of link taken))
leaves-with link None before taken is = tt
leaves-with link (Some p) before taken is = (is.0, takes-some link taken is.1)

module _ (E : Type 0) where
  pub split-takes_answers : AnswersTaken (split_kind {E = E}) split_inside
  split-takes_answers = (
    λ round links s fact can l b among head places room.
        takes-some s.lower _ (b-taken _ _ b s.writes (roomy (λ k. k.b) links s.upper room) (its-head (λ k. k.b) links s.lower l b among head) places),
    λ round links s fact can l r among head places room.
        takes-some s.lower _ (r-taken _ _ r s.reads (roomy (λ k. k.r) links s.upper room) (its-head (λ k. k.r) links s.lower l r among head) places),
  )

  pub split-takes_addresses : AddressesTaken (split_kind {E = E}) split_inside
  split-takes_addresses = (
    λ round links s fact can u a none idle among head room.
        takes-some s.upper _ (address-taken _ _ _ _ a (roomy (λ k. k.aw) links s.lower room) (none-of s.writes none) (its-head (λ k. k.aw) links s.upper u a among head) (no-work s.write_work idle)),
    λ round links s fact can u a none idle among head room.
        takes-some s.upper _ (address-taken _ _ _ _ a (roomy (λ k. k.ar) links s.lower room) (none-of s.reads none) (its-head (λ k. k.ar) links s.upper u a among head) (no-work s.read_work idle)),
  )

  split-goes_on : AwaitedGoesOn (split_kind {E = E}) split_inside
  split-goes_on round links s fact can u w awaited head room =
      let same : s.upper ≡ u = some-same s.upper u awaited in
      let here : head_of (split_above links s).w ≡ Some w = subst (λ (n : ℕ). head_of (link_of links n).w ≡ Some w) (sym same) head in
      let free : has_room (split_below links s).depth (split_below links s).w ≡ true = lt-ltb (length (split_below links s).w) (split_below links s).depth room in
      (data-goes s.lower _ _ w free here, λ whole. data-taken s.upper _ _ w free here ∙ awaited)

  pub split-awaits_data : DataAwaited (split_kind {E = E}) split_inside
  split-awaits_data = (
    split-goes_on,
    (λ round links s fact can. (names-take s.upper _, names-put s.lower _)),
    λ schedules rounds s passed keeps l among lacks. (s.upper, refl, one-has s.upper),
  )

  pub split-entries_stay : EntriesStay (split_kind {E = E}) split_inside
  split-entries_stay round links s fact can =
      let u = split_above links s in
      let l = split_below links s in
      let b = b-leaves (has_room u.depth u.b) (head_of l.b) s.writes in
      let r = r-leaves (has_room u.depth u.r) (head_of l.r) s.reads in (
        record {
          stay = map-append id_of_split (split_b links s).entries (added (split_aw links s).taken)
              ∙ ap₂ (λ (x y : List ℕ). x ++ y) b.stay (adds-by (λ k. k.aw) links s.upper (has_room l.depth l.aw) (fits s.writes) u.aw s.write_work refl);
          leaves = leaves-with s.lower _ (map id_of_split s.writes) _ b.leaves;
        },
        record {
          stay = map-append id_of_split (split_r links s).entries (added (split_ar links s).taken)
              ∙ ap₂ (λ (x y : List ℕ). x ++ y) r.stay (adds-by (λ k. k.ar) links s.upper (has_room l.depth l.ar) (fits s.reads) u.ar s.read_work refl);
          leaves = leaves-with s.lower _ (map id_of_split s.reads) _ r.leaves;
        },
      )

-- the next part of the burst in work
next-part : (link : ℕ) (room more : Bool) (head : Option Addr) (work : Option InWork) (w : InWork) → room ≡ true → work ≡ Some w → put_of link (address_row room more head work).put ≡ Some (link, part_of w.request w.next)
next-part link room more head work w roomy is =
    ap (λ (x : Bool). put_of link (address_row x more head work).put) roomy ∙ ap (λ (o : Option InWork). put_of link (address_row true more head o).put) is

pub split-next_part : NextPartGoesOn
split-next_part links s work = (
  λ is room. next-part s.lower _ _ _ _ work (lt-ltb (length (link_of links s.lower).aw) (link_of links s.lower).depth room) is,
  λ is room. next-part s.lower _ _ _ _ work (lt-ltb (length (link_of links s.lower).ar) (link_of links s.lower).depth room) is,
)
