-- What a subordinate answers is within the ranges of a trace line, where what came to it is.
use Rattle.std.proofs.Common.{◌≡◌, ◌<◌, ◌==◌, ◌∷◌, [], ℕ, zero, suc, Bool, true, false, cond, List, Option, Some, None, get_or, map, refl, sym, ap, subst, arith}
use Rattle.std.specs.Prelude.{◌&&◌, All, IfSome, flat_map, option_map, take, zip}
use Rattle.std.specs.Bool.{beq}
use Rattle.std.proofs.lemmas.Bool.{and_from, and_parts, cond_both, eq-eqb}
use Rattle.std.proofs.lemmas.List.Elements.{All-cons, All-head, All-map, All-nil, All-tail, All-take, All-weaker}
use Rattle.axi_beats.specs.declared.beat.WBeat.{WBeat}
use Rattle.axi_link.proofs.KeepLemmas.{All-appended}
use Rattle.axi_link.specs.LinkView.{LinkView}
use Rattle.axi_link.specs.LinkWords.{head_of}
use Rattle.axi_link.specs.Moves.{appended}
use Rattle.axi_trail.specs.Schedule.{Schedule, Share}
use Rattle.axi_trail.specs.Trail.{Beats}
use Rattle.axi_trail.specs.Waiting.{Waiting, advanced, answered_by, answered_once, fresh, held}
use Rattle.axi_trail.specs.Words.{id_of_address}
use Rattle.burst_address.specs.Accesses.{value_after}
use Rattle.burst_address.specs.Bytes.{Byte}
use Rattle.memory_node.specs.Accesses.{accesses_of, due_writes, writes_at}
use Rattle.memory_node.specs.Beats.{stored_bytes}
use Rattle.memory_node.specs.Events.{Access}
use Rattle.memory_node.specs.MemoryArea.{MemoryArea}
use Rattle.memory_node.specs.Status.{is_okay, status_but_in}
use Rattle.net_history.proofs.ListLemmas.{All-flat}
use Rattle.net_ranges.proofs.BeatRanges.{IsAddressInRange, IsReadDataInRange, IsResponseInRange, read_data-in_range, response-in_range}
use Rattle.node_core.specs.Rows.{beat_where, put_of}
use Rattle.plain_lists.proofs.CutLemmas.{all-unmap}
use Rattle.plain_lists.proofs.PlaceLemmas.{all-at, at-all, filter-has}
use Rattle.plain_text.specs.ExactLaws.{AreBytes}
use Rattle.subordinate.specs.Parts.{BeatOf, beats_of_parts, beats_with_data}
use Rattle.subordinate.specs.Service.{Service}
use Rattle.subordinate.specs.SubordinateState.{Subordinate}
use Rattle.subordinate.specs.SubordinateTable.{answer_to, its_rows, next_beat, serves}
use Rattle.subordinate.specs.Tracks.{KeepsOrder, len_of_address, one_answer, read_waiting, write_waiting}
use Rattle.subordinate.specs.declared.entry.ReadEntry.{ReadEntry}
use Rattle.subordinate.specs.declared.entry.WriteEntry.{WriteEntry}
use Rattle.trace_text.specs.Ranges.{IsOnBus}

-- ---- requests that wait are among those that came

module _ {X : Type 0} (P : X → Type 0) (len_of id_of : X → ℕ) where
  abbrev Of : Waiting X → Type 0
  Of w = P w.request

  advanced-all : (waiting : List (Waiting X)) → All Of waiting → All Of (advanced len_of waiting)
  advanced-all [] all = all
  advanced-all (w ∷ waiting) all =
      let more : Waiting X = record { request = w.request; done = suc w.done } in
      let go : (b : Bool) → All Of (cond b waiting (more ∷ waiting)) =
      λ b. elim b as (λ b. All Of (cond b waiting (more ∷ waiting))) [ true ↦ All-tail Of w waiting all | false ↦ All-cons Of more waiting (All-head Of w waiting all) (All-tail Of w waiting all) ]
      in go (w.done == len_of w.request)

  once-all : (id : ℕ) (waiting : List (Waiting X)) → All Of waiting → All Of (answered_once len_of id_of id waiting)
  once-all id [] all = all
  once-all id (w ∷ waiting) all =
      let go : (b : Bool) → All Of (cond b (advanced len_of (w ∷ waiting)) (w ∷ answered_once len_of id_of id waiting)) =
      λ b. elim b as (λ b. All Of (cond b (advanced len_of (w ∷ waiting)) (w ∷ answered_once len_of id_of id waiting))) [
        | true ↦ advanced-all (w ∷ waiting) all
        | false ↦ All-cons Of w (answered_once len_of id_of id waiting) (All-head Of w waiting all) (once-all id waiting (All-tail Of w waiting all))
      ]
      in go (id_of w.request == id)

  by-all : (ids : List ℕ) (waiting : List (Waiting X)) → All Of waiting → All Of (answered_by len_of id_of waiting ids)
  by-all [] waiting all = all
  by-all (id ∷ ids) waiting all = by-all ids (answered_once len_of id_of id waiting) (once-all id waiting all)

  pub held-all : (asked : List X) (ids : List ℕ) → All P asked → All Of (held len_of id_of asked ids)
  held-all asked ids all = by-all ids (map fresh asked) (All-map Of fresh asked all)

-- ---- what a row puts

module _ {X : Type 0} (P : X → Type 0) where
  where-has : (b : Bool) (o : Option X) → IfSome o P → IfSome (beat_where b o) P
  where-has true o has = has
  where-has false o has = tt

  put-has : (link : ℕ) (o : Option X) → IfSome o P → IfSome (put_of link o) (λ (p : ℕ × X). P p.1)
  put-has link None has = tt
  put-has link (Some x) has = has

  -- one of a list, as it is answered
  first-has : {Y : Type 0} (f : Y → X) (ys : List Y) → All (λ y. P (f y)) ys → IfSome (option_map f (head_of ys)) P
  first-has f [] all = tt
  first-has f (y ∷ ys) all = All-head (λ y. P (f y)) y ys all

  pub all-put : {Y : Type 0} (number link : ℕ) (b : Bool) (f : Y → X) (ys : List Y) → All (λ y. P (f y)) ys → All P (appended number (put_of link (beat_where b (option_map f (head_of ys)))))
  all-put number link b f ys all = All-appended P number (put_of link (beat_where b (option_map f (head_of ys)))) (put-has link (beat_where b (option_map f (head_of ys))) (where-has b (option_map f (head_of ys)) (first-has f ys all)))

-- ---- what a subordinate puts

module _ {D : Type 0} (service : Service D) (schedule : Schedule) (s : Subordinate D) (trail : Beats) (order : KeepsOrder service schedule s trail) (links : List LinkView) where
  pub writes-in_range : All IsAddressInRange trail.aw → All (λ (entry : WriteEntry). IsAddressInRange entry.request) s.writes
  writes-in_range all =
      let ids = map (λ b. b.id) trail.b in
      all-unmap (λ (w : Waiting _). IsAddressInRange w.request) write_waiting s.writes
      (subst (All (λ (w : Waiting _). IsAddressInRange w.request)) (sym order.writes.open_writes) (held-all IsAddressInRange one_answer id_of_address trail.aw ids all))

  pub reads-in_range : All IsAddressInRange trail.ar → All (λ (entry : ReadEntry). IsAddressInRange entry.request) s.reads
  reads-in_range all =
      let ids = map (λ r. r.id) trail.r in
      all-unmap (λ (w : Waiting _). IsAddressInRange w.request) read_waiting s.reads
      (subst (All (λ (w : Waiting _). IsAddressInRange w.request)) (sym order.reads.open_reads) (held-all IsAddressInRange len_of_address id_of_address trail.ar ids all))

  pub responses-put : (link : ℕ) → All IsAddressInRange trail.aw → All IsResponseInRange (appended link (serves service links s).b_put)
  responses-put link all =
      all-put IsResponseInRange link s.upper (its_rows service links s).b answer_to s.writes
      (All-weaker (λ (entry : WriteEntry). IsAddressInRange entry.request) (λ (entry : WriteEntry). IsResponseInRange (answer_to entry)) response-in_range s.writes (writes-in_range all))

  pub read_data-put : (link bus : ℕ) → ((entry : ReadEntry) → IsOnBus bus (service.beat_lanes s.kept entry.request entry.put)) → All IsAddressInRange trail.ar → All (IsReadDataInRange bus) (appended link (serves service links s).r_put)
  read_data-put link bus lanes all =
      all-put (IsReadDataInRange bus) link s.upper (its_rows service links s).r (next_beat service s.kept) s.reads
      (All-weaker (λ (entry : ReadEntry). IsAddressInRange entry.request) (λ (entry : ReadEntry). IsReadDataInRange bus (next_beat service s.kept entry))
      (λ entry is. read_data-in_range service s.kept bus entry is (lanes entry)) s.reads (reads-in_range all))

-- ---- the bytes of a memory

lane-of : (lanes : List ℕ) → AreBytes lanes → (k : ℕ) → get_or lanes k 0 < 256
lane-of [] all k = omega arith
lane-of (x ∷ xs) all zero = all.0
lane-of (x ∷ xs) all (suc k) = lane-of xs all.1 k

second-all : {X Y : Type 0} (P : Y → Type 0) (xs : List X) (ys : List Y) → All P ys → All (λ (p : X × Y). P p.1) (zip xs ys)
second-all P [] ys all = All-nil (λ (p : _ × _). P p.1)
second-all P (x ∷ xs) [] all = All-nil (λ (p : _ × _). P p.1)
second-all P (x ∷ xs) (y ∷ ys) all = All-cons (λ (p : _ × _). P p.1) (x, y) (zip xs ys) (All-head P y ys all) (second-all P xs ys (All-tail P y ys all))

abbrev IsByte : Byte → Type 0
IsByte byte = byte.value < 256

-- what writes write are bytes where their beats carry bytes
pub written-bytes : (area : MemoryArea) (share : Share) (count : ℕ) → All (λ (w : WBeat). AreBytes w.lanes) (flat_map (λ (beats : List WBeat). beats) share.write_data) → All IsByte (due_writes area share count)
written-bytes area share count sent =
    let Of : BeatOf × WBeat → Type 0 = λ b. AreBytes b.1.lanes in
    let beats = take count (beats_with_data share) in
    let all : All Of beats = All-take Of count (beats_with_data share) (second-all (λ (w : WBeat). AreBytes w.lanes) (beats_of_parts share.parts) (flat_map (λ (ws : List WBeat). ws) share.write_data) sent) in
    All-flat IsByte (λ (b : BeatOf × WBeat). stored_bytes area b.0.request b.0.beat b.1) beats (λ k b at.
    All-map IsByte _ _ (λ i d lt. lane-of b.1.lanes (at-all Of beats k b all at) _))

-- so are the values of all accesses that write
pub accesses-write : (all : List Access) → ((t : ℕ) → All IsByte (map (λ (a : Access). a.byte) (accesses_of true t all))) → All (λ (a : Access). a.write ≡ true → a.byte.value < 256) all
accesses-write all each = all-at (λ (a : Access). a.write ≡ true → a.byte.value < 256) all (λ k a at writes.
    let test : Access → Bool = λ x. beq x.write true && x.number == a.number in
    let here = filter-has test all k a at (and_from (beq a.write true) (a.number == a.number) (ap (λ (b : Bool). beq b true) writes) (eq-eqb a.number a.number refl)) in
    at-all (λ (x : Access). x.byte.value < 256) (accesses_of true a.number all) here.0 a (all-unmap IsByte (λ (x : Access). x.byte) (accesses_of true a.number all) (each a.number)) here.1)

pub left-byte : (address before : ℕ) (all : List Access) → before < 256 → All (λ (a : Access). a.write ≡ true → a.byte.value < 256) all → value_after (writes_at address) (λ (a : Access). a.byte.value) before all < 256
left-byte address before [] less each = less
left-byte address before (a ∷ all) less each =
    let Is : Access → Type 0 = λ x. x.write ≡ true → x.byte.value < 256 in
    left-byte address (cond (writes_at address a) a.byte.value before) all
    (cond_both (writes_at address a) a.byte.value before (λ (value : ℕ). value < 256)
    (λ writes. All-head Is a all each (and_parts a.write (a.byte.address == address) writes).0) (λ _. less)) (All-tail Is a all each)

-- a byte that may be read is one of the memory
pub inside-read : (inside refused : Bool) → is_okay (status_but_in inside refused) ≡ true → inside ≡ true
inside-read true refused may = refl
inside-read false refused may = absurd (cc)
