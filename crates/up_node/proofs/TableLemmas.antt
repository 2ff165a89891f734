-- An up converter's table, of every state and all links.
use Rattle.std.proofs.Common.{◌≡◌, ◌≢◌, ◌<◌, ◌≤◌, ◌==◌, ◌&&◌, ℕ, suc, Bool, true, false, cond, List, [], ◌∷◌, Option, None, Some, length, refl, sym, ◌∙◌, subst, arith, length-append, eq-eqb, true≢false}
use Rattle.std.specs.Prelude.{◌||◌, All, IfSome, is_some}
use Rattle.std.proofs.lemmas.Bool.{ltb-true}
use Rattle.std.proofs.lemmas.List.Elements.{All-append, All-cons, All-head, All-nil, All-tail}
use Rattle.axi_beats.specs.declared.beat.Addr.{Addr}
use Rattle.axi_beats.specs.declared.beat.WBeat.{WBeat}
use Rattle.axi_beats.specs.declared.beat.BBeat.{BBeat}
use Rattle.axi_beats.specs.declared.beat.RBeat.{RBeat}
use Rattle.axi_link.specs.LinkView.{LinkView}
use Rattle.axi_link.specs.LinkWords.{has_room, head_of, link_of}
use Rattle.axi_trail.specs.Waiting.{Waiting, advanced, answered_once, fresh}
use Rattle.axi_trail.specs.Words.{id_of_address}
use Rattle.burst_cuts.specs.Parts.{len_of_burst}
use Rattle.node_core.specs.Acted.{opened}
use Rattle.node_core.specs.Fits.{MovesFit, PutFits, TakeFits}
use Rattle.node_core.specs.Rows.{beat_where, fits, put_of, take_of}
use Rattle.node_core.proofs.FitLemmas.{put-fits, take-fits}
use Rattle.node_core.proofs.RowLemmas.{beat_where-has}
use Rattle.node_shape.specs.KindLaws.{Begins, Fit, Own, Rests, Stays, Steady}
use Rattle.node_shape.proofs.OneLinkLemmas.{one-has, puts-own, takes-own}
use Rattle.up_node.specs.UpBeats.{beat_narrowed, beat_widened}
use Rattle.up_node.specs.UpState.{IsBurstOn, IsPassing, IsUp, IsUpShape, UpState, new_up}
use Rattle.up_node.specs.UpTable.{CanUp, entries_after_address, entries_after_data, entries_after_read_data, moved_for, up_above, up_ar, up_aw, up_b, up_below, up_next, up_out, up_r, up_w}
use Rattle.up_node.specs.UpTrail.{up_kind}
use Rattle.up_node.specs.declared.shape.UpShape.{UpShape}

-- a head is moved only where there is one
module _ {X : Type 0} (queue_of : LinkView → List X) (links : List LinkView) (number : ℕ) (shape : UpShape) (moved : ℕ → X → X) where
  moved-fits : (room : Bool) (entry : Option (Waiting Addr)) →
      TakeFits queue_of links (take_of number (is_some (beat_where room (moved_for shape moved entry (head_of (queue_of (link_of links number)))))))
  moved-fits room entry = go room entry (queue_of (link_of links number)) refl
    where
      go : (room : Bool) (entry : Option (Waiting Addr)) (beats : List X) → queue_of (link_of links number) ≡ beats →
          TakeFits queue_of links (take_of number (is_some (beat_where room (moved_for shape moved entry (head_of beats)))))
      go false entry beats is = tt
      go true None beats is = tt
      go true (Some e) [] is = tt
      go true (Some e) (x ∷ xs) is = subst (λ (beats : List X). 0 < length beats) (sym is) (omega arith)

-- an address is put only where there is room
address-fits : (queue_of : LinkView → List Addr) (links : List LinkView) (number : ℕ) (entries : List (Waiting Addr)) (o : Option Addr) →
    PutFits queue_of links (put_of number (beat_where (fits entries && has_room (link_of links number).depth (queue_of (link_of links number))) o))
address-fits queue_of links number entries o = go (fits entries)
  where
    go : (fit : Bool) → PutFits queue_of links (put_of number (beat_where (fit && has_room (link_of links number).depth (queue_of (link_of links number))) o))
    go true = put-fits queue_of links number o
    go false = tt

pub up_fits : (links : List LinkView) (s : UpState) → MovesFit links (up_out links s)
up_fits links s =
    let above = up_above links s in
    let below = up_below links s in
    record {
      aw_take = take-fits (λ l. l.aw) links s.shape.upper (fits s.writes && has_room below.depth below.aw);
      aw_put = address-fits (λ l. l.aw) links s.shape.lower s.writes (head_of above.aw);
      w_take = moved-fits (λ l. l.w) links s.shape.upper s.shape (beat_widened s.shape) (has_room below.depth below.w) _;
      w_put = put-fits (λ l. l.w) links s.shape.lower _;
      b_take = take-fits (λ l. l.b) links s.shape.lower (has_room above.depth above.b);
      b_put = put-fits (λ l. l.b) links s.shape.upper (head_of below.b);
      ar_take = take-fits (λ l. l.ar) links s.shape.upper (fits s.reads && has_room below.depth below.ar);
      ar_put = address-fits (λ l. l.ar) links s.shape.lower s.reads (head_of above.ar);
      r_take = moved-fits (λ l. l.r) links s.shape.lower s.shape (beat_narrowed s.shape) (has_room above.depth above.r) _;
      r_put = put-fits (λ l. l.r) links s.shape.upper _;
    }

module _ (E : Type 0) where
  pub up-always_fits : Fit (up_kind {E = E})
  up-always_fits round links s = up_fits links s

  pub up-moves_own : Own (up_kind {E = E})
  up-moves_own round links s = record {
    aw_take = takes-own (s.shape.upper ∷ []) s.shape.upper _ (one-has s.shape.upper);
    aw_put = puts-own (s.shape.lower ∷ []) s.shape.lower _ (one-has s.shape.lower);
    w_take = takes-own (s.shape.upper ∷ []) s.shape.upper _ (one-has s.shape.upper);
    w_put = puts-own (s.shape.lower ∷ []) s.shape.lower _ (one-has s.shape.lower);
    b_take = takes-own (s.shape.lower ∷ []) s.shape.lower _ (one-has s.shape.lower);
    b_put = puts-own (s.shape.upper ∷ []) s.shape.upper _ (one-has s.shape.upper);
    ar_take = takes-own (s.shape.upper ∷ []) s.shape.upper _ (one-has s.shape.upper);
    ar_put = puts-own (s.shape.lower ∷ []) s.shape.lower _ (one-has s.shape.lower);
    r_take = takes-own (s.shape.lower ∷ []) s.shape.lower _ (one-has s.shape.lower);
    r_put = puts-own (s.shape.upper ∷ []) s.shape.upper _ (one-has s.shape.upper);
  }

  pub up-is_steady : Steady (up_kind {E = E})
  up-is_steady round links s = record { uppers = refl; lowers = refl; patience = refl; suits = λ schedules suits. suits }

new-is_up : (shape : UpShape) → IsUpShape shape → IsUp (new_up shape)
new-is_up shape is = record { shape = is; few_writes = omega arith; few_reads = omega arith; writes = All-nil (IsPassing shape.narrow); reads = All-nil (IsPassing shape.narrow) }

-- Entries after a row.

pub after_data-few : (o : Option WBeat) (entries : List (Waiting Addr)) → length (entries_after_data o entries) ≤ length entries
after_data-few None entries = omega arith
after_data-few (Some w) [] = omega arith
after_data-few (Some w) (e ∷ es) = go (e.done == e.request.len)
  where
    go : (b : Bool) → length (cond b es (record { request = e.request; done = suc e.done } ∷ es)) ≤ suc (length es)
    go true = omega arith
    go false = omega arith

once-few : (id : ℕ) (entries : List (Waiting Addr)) → length (answered_once len_of_burst id_of_address id entries) ≤ length entries
once-few id [] = omega arith
once-few id (e ∷ es) = go (e.request.id == id) (e.done == e.request.len) (once-few id es)
  where
    go : (own last : Bool) → length (answered_once len_of_burst id_of_address id es) ≤ length es →
        length (cond own (cond last es (record { request = e.request; done = suc e.done } ∷ es)) (e ∷ answered_once len_of_burst id_of_address id es)) ≤ suc (length es)
    go true true few = omega arith
    go true false few = omega arith
    go false last few = omega (arith, few)

pub after_read_data-few : (o : Option RBeat) (entries : List (Waiting Addr)) → length (entries_after_read_data o entries) ≤ length entries
after_read_data-few None entries = omega arith
after_read_data-few (Some r) entries = once-few r.id entries

-- an address is added only where it fits
address-few : (room : Bool) (head : Option Addr) (before after : List (Waiting Addr)) → length after ≤ length before → length before ≤ 16 →
    length (entries_after_address (beat_where (fits before && room) head) after) ≤ 16
address-few room head before after fewer few = go (fits before) refl room head
  where
    go : (fit : Bool) → fits before ≡ fit → (room : Bool) (head : Option Addr) → length (entries_after_address (beat_where (fit && room) head) after) ≤ 16
    go false is room head = omega (arith, fewer, few)
    go true is false head = omega (arith, fewer, few)
    go true is true None = omega (arith, fewer, few)
    go true is true (Some a) = let less = ltb-true (length before) 16 is in omega (arith, less, fewer, length-append after (fresh a ∷ []))

module _ (bus : ℕ) where
  abbrev P : Waiting Addr → Type 0
  P = IsPassing bus

  more-passing : (e : Waiting Addr) → (e.done == e.request.len) ≡ false → P e → P (record { request = e.request; done = suc e.done })
  more-passing e is has =
      let other : e.done ≢ e.request.len = λ same. true≢false (sym (eq-eqb e.done e.request.len same) ∙ is) in
      record { request = has.request; left = omega (arith, has.left, other) }

  advanced-passing : (e : Waiting Addr) (es : List (Waiting Addr)) → P e → All P es → All P (advanced len_of_burst (e ∷ es))
  advanced-passing e es has all = go (e.done == e.request.len) refl
    where
      go : (b : Bool) → (e.done == e.request.len) ≡ b → All P (cond b es (record { request = e.request; done = suc e.done } ∷ es))
      go true is = all
      go false is = All-cons P (record { request = e.request; done = suc e.done }) es (more-passing e is has) all

  after_data-passing : (o : Option WBeat) (entries : List (Waiting Addr)) → All P entries → All P (entries_after_data o entries)
  after_data-passing None entries all = all
  after_data-passing (Some w) [] all = all
  after_data-passing (Some w) (e ∷ es) all = advanced-passing e es (All-head P e es all) (All-tail P e es all)

  once-passing : (id : ℕ) (entries : List (Waiting Addr)) → All P entries → All P (answered_once len_of_burst id_of_address id entries)
  once-passing id [] all = all
  once-passing id (e ∷ es) all = go (e.request.id == id) (once-passing id es (All-tail P e es all))
    where
      go : (own : Bool) → All P (answered_once len_of_burst id_of_address id es) →
          All P (cond own (advanced len_of_burst (e ∷ es)) (e ∷ answered_once len_of_burst id_of_address id es))
      go true rest = advanced-passing e es (All-head P e es all) (All-tail P e es all)
      go false rest = All-cons P e (answered_once len_of_burst id_of_address id es) (All-head P e es all) rest

  after_read_data-passing : (o : Option RBeat) (entries : List (Waiting Addr)) → All P entries → All P (entries_after_read_data o entries)
  after_read_data-passing None entries all = all
  after_read_data-passing (Some r) entries all = once-passing r.id entries all

  address-passing : (o : Option Addr) (entries : List (Waiting Addr)) → IfSome o (IsBurstOn bus) → All P entries → All P (entries_after_address o entries)
  address-passing None entries is all = all
  address-passing (Some a) entries is all = All-append P entries (fresh a ∷ []) all (All-cons P (fresh a) [] (record { request = is; left = omega arith }) (All-nil P))

pub up_stays : (links : List LinkView) (s : UpState) → IsUp s → CanUp links s → IsUp (up_next links s)
up_stays links s fact can =
    let above = up_above links s in
    let below = up_below links s in
    let bus = s.shape.narrow in
    record {
      shape = fact.shape;
      few_writes = address-few (has_room below.depth below.aw) (head_of above.aw) s.writes (entries_after_data (up_w links s) s.writes) (after_data-few (up_w links s) s.writes) fact.few_writes;
      few_reads = address-few (has_room below.depth below.ar) (head_of above.ar) s.reads (entries_after_read_data (up_r links s) s.reads) (after_read_data-few (up_r links s) s.reads) fact.few_reads;
      writes = address-passing bus (up_aw links s) (entries_after_data (up_w links s) s.writes) (beat_where-has (IsBurstOn bus) _ (head_of above.aw) can.aw)
          (after_data-passing bus (up_w links s) s.writes fact.writes);
      reads = address-passing bus (up_ar links s) (entries_after_read_data (up_r links s) s.reads) (beat_where-has (IsBurstOn bus) _ (head_of above.ar) can.ar)
          (after_read_data-passing bus (up_r links s) s.reads fact.reads);
    }

-- without a beat to move nothing changes
still : (s : UpState) (aw : Option Addr) (w : Option WBeat) (b : Option BBeat) (ar : Option Addr) (r : Option RBeat) →
    (is_some aw || is_some w || is_some b || is_some ar || is_some r) ≡ false →
    record {
      state = record {
        shape = s.shape;
        writes = entries_after_address aw (entries_after_data w s.writes);
        reads = entries_after_address ar (entries_after_read_data r s.reads);
      };
      out = record {
        aw_take = take_of s.shape.upper (is_some aw);
        aw_put = put_of s.shape.lower aw;
        w_take = take_of s.shape.upper (is_some w);
        w_put = put_of s.shape.lower w;
        b_take = take_of s.shape.lower (is_some b);
        b_put = put_of s.shape.upper b;
        ar_take = take_of s.shape.upper (is_some ar);
        ar_put = put_of s.shape.lower ar;
        r_take = take_of s.shape.lower (is_some r);
        r_put = put_of s.shape.upper r;
      };
    } ≡ opened s
still s None None None None None quiet = refl
still s (Some x) w b ar r quiet = absurd (cc)
still s None (Some x) b ar r quiet = absurd (cc)
still s None None (Some x) ar r quiet = absurd (cc)
still s None None None (Some x) r quiet = absurd (cc)
still s None None None None (Some x) quiet = absurd (cc)

module _ (E : Type 0) where
  pub up-begins : Begins (up_kind {E = E})
  up-begins s new = subst (λ (t : UpState). IsUp t) (sym new.new) (new-is_up s.shape new.shape)

  pub up-stays : Stays (up_kind {E = E})
  up-stays round links s fact can = up_stays links s fact can

  pub up-rests : Rests (up_kind {E = E})
  up-rests round links s quiet = still s (up_aw links s) (up_w links s) (up_b links s) (up_ar links s) (up_r links s) quiet
