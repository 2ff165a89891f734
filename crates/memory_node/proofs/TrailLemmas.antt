-- A memory over what it has passed on its link and accessed.
use Rattle.std.proofs.Common.{◌≡◌, ◌<◌, ◌*◌, ◌^◌, ℕ, zero, suc, false, List, [], ◌∷◌, ◌++◌, Option, Some, None, length, map, take, drop, replicate, get_or, refl, sym, ◌∙◌, ap, subst, arith, append_assoc, IsTrue}
use Rattle.std.specs.Prelude.{All, IfSome, flat_map, is_some, slice_get, unwrap_or}
use Rattle.std.specs.Option.{option_and_then}
use Rattle.std.proofs.lemmas.Grind.{flat_map-append}
use Rattle.std.proofs.lemmas.List.{get_or-map, length-map, take-append-drop, take_all}
use Rattle.std.proofs.lemmas.List.Elements.{All-head, All-nil}
use Rattle.std.proofs.lemmas.Option.{unwrap_or-slice_get}
use Rattle.axi_beats.specs.declared.beat.Addr.{Addr}
use Rattle.axi_beats.specs.declared.beat.RBeat.{RBeat}
use Rattle.axi_beats.specs.declared.beat.WBeat.{WBeat}
use Rattle.axi_link.specs.LinkView.{LinkView}
use Rattle.axi_link.specs.LinkWords.{head_of, link_of}
use Rattle.axi_trail.specs.LinkContracts.{Answers, Asks, without_id}
use Rattle.axi_trail.specs.Schedule.{Progress, Schedule}
use Rattle.axi_trail.specs.Trail.{Beats, joined, moved_below, no_beats, seen_below}
use Rattle.axi_trail.specs.Words.{number_of_address, number_of_data, number_of_read_data}
use Rattle.burst_address.specs.Accesses.{answered_bytes}
use Rattle.memory_node.specs.Accesses.{accesses_of, beat_span}
use Rattle.memory_node.specs.Events.{Access, beat_writes, events_on, reads_on}
use Rattle.memory_node.specs.MemoryArea.{IsMemoryArea, MemoryArea}
use Rattle.memory_node.specs.MemoryState.{AreLinesAmong, IsMemory, IsReadEntry, IsRequest, MemoryState, new_memory}
use Rattle.memory_node.specs.MemoryTable.{CanMemory, memory_next, memory_out, memory_service}
use Rattle.memory_node.specs.MemoryTrail.{AnswersInOrder, BeginsMemory, HasAccessedOn, SuitsMemory, memory_kind}
use Rattle.memory_node.specs.Store.{Store, byte_at, byte_place, new_store}
use Rattle.memory_node.specs.WantedReads.{wanted_allowed, wanted_before}
use Rattle.node_shape.specs.Kind.{passed_after}
use Rattle.node_shape.specs.KindLaws.{AnswersAbove, AsksBelow, Lasts, MayDecide, Opens}
use Rattle.node_shape.specs.WayLaws.{FillsAtEnds}
use Rattle.node_shape.proofs.OneLinkLemmas.{all-one, of-one, one-has}
use Rattle.plain_lists.specs.Keys.{of_key}
use Rattle.plain_lists.specs.Prefixes.{IsPrefix}
use Rattle.plain_lists.proofs.KeyLemmas.{of_key-push}
use Rattle.plain_lists.proofs.PrefixLemmas.{All_front, prefix_nil, prefix_of_same, prefix_same, prefix_trans}
use Rattle.subordinate.specs.Parts.{BeatOf, beats_of_parts}
use Rattle.subordinate.specs.SubordinateTable.{after_b, after_r, its_rows, kept_after_w, kept_with, moved_ar, moved_aw, moved_b, moved_r, moved_w, oldest_lacking}
use Rattle.subordinate.specs.Service.{Service}
use Rattle.subordinate.specs.Tracks.{IsService, KeepsOrder, SuitsService, is_written}
use Rattle.subordinate.specs.declared.entry.ReadEntry.{ReadEntry}
use Rattle.subordinate.specs.declared.entry.WriteEntry.{WriteEntry}
use Rattle.subordinate.proofs.OrderAnswers.{answers-order}
use Rattle.subordinate.proofs.ReadOrder.{reads-none}
use Rattle.subordinate.proofs.TrailLemmas.{answers-whole, asked-after, both-let, data-follows, oldest-after_b, one_of, order-lasts, trail-after, trail_of}
use Rattle.subordinate.proofs.WriteOrder.{tracks-none}
use Rattle.memory_node.proofs.FillLemmas.{filled-front}
use Rattle.memory_node.proofs.LaneLemmas.{AreWithin, lanes-long}
use Rattle.burst_address.proofs.LaneBytes.{lanes-ordered}
use Rattle.axi_beats.specs.Lanes.{Span}
use Rattle.memory_node.proofs.ReadSteps.{ReadsAsked, order-ar, order-r, read-step}
use Rattle.memory_node.proofs.TableLemmas.{lines-stay}
use Rattle.memory_node.proofs.WriteSteps.{WritesAsked, write-step}

-- ---- at the start

fill-everywhere : (n place fill : ℕ) → get_or (replicate n fill) place fill ≡ fill
fill-everywhere zero place fill = refl
fill-everywhere (suc n) zero fill = refl
fill-everywhere (suc n) (suc place) fill = fill-everywhere n place fill

-- a new store has its fill value everywhere
byte_at-new : (lines : List ℕ) (fill address : ℕ) → fill ≡ byte_at (new_store lines fill) address
byte_at-new lines fill address =
    let go : (o : Option ℕ) → fill ≡ unwrap_or (option_and_then (slice_get (new_store lines fill).bytes) o) fill =
    elim [
      | None ↦ refl
      | Some place ↦ sym (unwrap_or-slice_get (new_store lines fill).bytes place fill ∙ fill-everywhere (128 * length lines) place fill)
    ]
    in go (byte_place (new_store lines fill) address)

nowhere : {X : Type 0} (before : List X) (x : X) (after : List X) → [] ≡ before ++ x ∷ after → ⊥
nowhere [] x after e = cc
nowhere (b ∷ before) x after e = cc

-- what a memory has to do with its trail and its accesses, but for its schedule, where these lanes of reads are wanted
pub record Stands (wanted : BeatOf → Span) (schedule : Schedule) (s : MemoryState) (trail : Beats) (all : List Access) : Type 0 where
  pub order : KeepsOrder (memory_service s.area) schedule s.inner trail
  pub reads : AnswersInOrder s.inner.reads trail.ar trail.r
  pub accessed : HasAccessedOn wanted schedule s.area s.inner.kept trail.w trail.r all

new-stands : (wanted : BeatOf → Span) (schedule : Schedule) (area : MemoryArea) (accept give : List ℕ) (upper : ℕ) (touched : List ℕ) → Stands wanted schedule (new_memory area accept give upper touched) no_beats []
new-stands wanted schedule area accept give upper touched = record {
  order = record { writes = tracks-none (memory_service area); reads = reads-none schedule.reads };
  reads = record { open_reads = refl; in_order = prefix_nil _ };
  accessed = record {
    written = λ t. refl;
    read = λ t. refl;
    answered = λ t. refl;
    bytes = λ address inside. byte_at-new touched area.fill address;
    latest = λ earlier later a e way. absurd (nowhere earlier a later e);
    writes_in_order = λ before after chain earlier later a e way own. absurd (nowhere earlier a later e);
    reads_in_order = λ before after chain earlier later a e way own. absurd (nowhere earlier a later e);
  };
}

pub begun-stands : (wanted : BeatOf → Span) (schedule : Schedule) (s : MemoryState) → BeginsMemory s → Stands wanted schedule s no_beats []
begun-stands wanted schedule s new =
    subst (λ (m : MemoryState). Stands wanted schedule m no_beats []) (sym new.is_new) (new-stands wanted schedule s.area new.accept new.give s.inner.upper new.touched)

pub memory-opens : Opens memory_kind
memory-opens schedules s new suits =
    let stands = begun-stands (beat_span s.area) (schedules s.inner.upper) s new in
    record { suits = suits; order = stands.order; reads = stands.reads; accessed = stands.accessed }

-- ---- what it sees

-- the last of a list
all-last : {X : Type 0} (P : X → Type 0) (xs : List X) (x : X) → All P (xs ++ x ∷ []) → P x
all-last P [] x all = All-head P x [] all
all-last P (y ∷ xs) x all = all-last P xs x (λ k d within. all (suc k) d (omega (arith, within)))

-- what holds of the beats of each number holds of the head that is seen
seen-head : {X : Type 0} (P : X → Type 0) (number_of : X → ℕ) (front queue : List X) → ((t : ℕ) → All P (of_key number_of t (front ++ take 1 queue))) → IfSome (head_of queue) P
seen-head P number_of front [] all = tt
seen-head {X} P number_of front (x ∷ queue) all =
    all-last P (of_key number_of (number_of x) front) x
    (subst (λ (xs : List X). All P xs) (of_key-push number_of (number_of x) front x refl) (all (number_of x)))

-- what holds of the parts of a transaction holds of its addresses
of-parts : (P : Addr → Type 0) → ((a : Addr) → P (without_id a) → P a) → (addresses : List Addr) (parts : List Addr) → IsPrefix (map without_id addresses) parts → All P parts → All P addresses
of-parts P whole addresses parts front all k d within =
    let long : length (map without_id addresses) ≡ length addresses = length-map addresses without_id in
    let each : P (get_or (map without_id addresses) k (without_id d)) = All_front P front all k (without_id d) (omega (arith, within, long)) in
    whole (get_or addresses k d) (subst P (get_or-map without_id addresses k d (without_id d) within) each)

-- what is asked of a memory may come to it
pub decides : (schedule : Schedule) (now : Progress) (links : List LinkView) (s : MemoryState) (trail : Beats) → s.inner.upper < length links →
    ((t : ℕ) → All (IsRequest s.area.bus) (schedule.writes t).parts) → ((t : ℕ) → All (AreLinesAmong s.area s.inner.kept.lines) (schedule.writes t).parts) →
    ((t : ℕ) → All (IsRequest s.area.bus) (schedule.reads t).parts) → ((t : ℕ) → All (λ (w : WBeat). w.strobe < 2 ^ s.area.bus) (flat_map (λ beats. beats) (schedule.writes t).write_data)) →
    Asks schedule now (seen_below trail (link_of links s.inner.upper)) → CanMemory links s
decides schedule now links s trail within writes lines reads strobes asks =
    let link : LinkView = link_of links s.inner.upper in
    let Request : Addr → Type 0 = IsRequest s.area.bus in
    let Lines : Addr → Type 0 = AreLinesAmong s.area s.inner.kept.lines in
    let same : (a : Addr) → Request (without_id a) → Request a = λ a is. record { legal = is.legal; small = is.small } in
    record {
      upper = within;
      aw = seen-head Request number_of_address trail.aw link.aw (λ t. of-parts Request same _ _ (asks.writes.asks_only_its_parts t) (writes t));
      aw_lines = seen-head Lines number_of_address trail.aw link.aw (λ t. of-parts Lines (λ a is. is) _ _ (asks.writes.asks_only_its_parts t) (lines t));
      ar = seen-head Request number_of_address trail.ar link.ar (λ t. of-parts Request same _ _ (asks.reads.asks_only_its_parts t) (reads t));
      strobe = seen-head (λ (w : WBeat). w.strobe < 2 ^ s.area.bus) number_of_data trail.w link.w (λ t. All_front (λ (w : WBeat). w.strobe < 2 ^ s.area.bus) (asks.data_is_the_schedules t) (strobes t));
    }

pub memory-may_decide : MayDecide memory_kind
memory-may_decide schedules now rounds links s passed fact suits above below asked =
    let u : ℕ = s.inner.upper in
    decides (schedules u) now links s (passed.uppers u) (of-one (λ l. l < length links) u above) suits.writes suits.lines_kept suits.reads suits.strobes
    (of-one (λ l. Asks (schedules l) now (seen_below (passed.uppers l) (link_of links l))) u asked)

-- ---- a round

pub memory-is_service : (area : MemoryArea) → IsService (memory_service area)
memory-is_service area = record { data_status = λ a n w. refl; beat_status = λ a n. refl; beat_lanes = λ store a n. lanes-long area store a n }

-- what is written depends on the oldest write that lacks data alone
kept-same : (area : MemoryArea) (o : Option WBeat) (before after : List WriteEntry) (store : Store) → oldest_lacking after ≡ oldest_lacking before →
    kept_after_w (memory_service area) o before store ≡ kept_after_w (memory_service area) o after store
kept-same area None before after store same = refl
kept-same area (Some w) before after store same = ap (λ (o : Option WriteEntry). kept_with (memory_service area) w o store) (sym same)

-- a round, of a memory of which these lanes of reads are wanted
module _ (wanted : BeatOf → Span) (schedule : Schedule) (now : Progress) (links : List LinkView) (s : MemoryState) (trail : Beats) (all : List Access) (fact : IsMemory s)
    (service_suits : (t : ℕ) → SuitsService (memory_service s.area) (schedule.writes t) (schedule.reads t))
    (lanes : (t : ℕ) → (schedule.reads t).lanes ≡ map wanted (beats_of_parts (schedule.reads t).parts))
    (alike : (a : Addr) (n : ℕ) → wanted (record { request = without_id a; beat = n }) ≡ wanted (record { request = a; beat = n }))
    (keeps : Stands wanted schedule s trail all) (asks : Asks schedule now trail) (later : Asks schedule now (joined trail (moved_below (memory_out links s) links s.inner.upper))) where
  abbrev service : Service Store
  service = memory_service s.area

  -- the wanted lanes of the beats that are due are valid
  abbrev pub WantedFit : Type 0
  WantedFit = (e : ReadEntry) (rest : List BeatOf) → IsReadEntry s.area e →
      drop (length (of_key number_of_read_data e.request.tag.txn trail.r)) (beats_of_parts (schedule.reads e.request.tag.txn).parts) ≡ record { request = without_id e.request; beat = e.put } ∷ rest →
      AreWithin s.area.bus (wanted (record { request = e.request; beat = e.put })) (record { request = e.request; beat = e.put })

  pub stands-after : WantedFit → Stands wanted schedule (memory_next links s) (joined trail (moved_below (memory_out links s) links s.inner.upper)) (all ++ events_on wanted links s)
  stands-after fit =
      let is_service : IsService service = memory-is_service s.area in
      let order = order-lasts service schedule now links s.inner trail is_service service_suits keeps.order asks later in
      let after : Asks schedule now (trail_of (trail.aw ++ one_of (moved_aw service links s.inner)) (trail.w ++ one_of (moved_w service links s.inner)) (trail.b ++ one_of (moved_b service links s.inner)) (trail.ar ++ one_of (moved_ar service links s.inner)) (trail.r ++ one_of (moved_r service links s.inner))) =
      asked-after service schedule now links s.inner trail is_service service_suits keeps.order asks later in
      let rows = its_rows service links s.inner in
      let read_asked : ReadsAsked schedule trail.ar = record { parts = asks.reads.asks_only_its_parts; whole = asks.reads.whole_before_the_next } in
      let write_asked : WritesAsked schedule trail.aw (trail.w ++ one_of (moved_w service links s.inner)) = record {
        parts = asks.writes.asks_only_its_parts;
        whole = asks.writes.whole_before_the_next;
        due_data = after.data_is_the_schedules;
        follows = data-follows service schedule now links s.inner trail is_service service_suits keeps.order asks later;
      } in
      let read : HasAccessedOn wanted schedule s.area s.inner.kept trail.w (trail.r ++ one_of (moved_r service links s.inner)) (all ++ reads_on s.area wanted s.inner.kept (moved_r service links s.inner) (head_of s.inner.reads)) =
      read-step wanted schedule s.area s.inner.kept trail.w trail.ar trail.r all fact.area lanes alike read_asked fit rows.r s.inner.reads fact.reads keeps.order.reads keeps.reads keeps.accessed in
      let written =
      write-step wanted schedule s.area s.inner.kept s.inner.writes trail.aw trail.w trail.b (trail.r ++ one_of (moved_r service links s.inner)) (all ++ reads_on s.area wanted s.inner.kept (moved_r service links s.inner) (head_of s.inner.reads))
      fact.area fact.store fact.writes keeps.order.writes rows.w (head_of (link_of links s.inner.upper).w)
      (λ done. both-let (is_some (head_of (link_of links s.inner.upper).w)) (is_some (oldest_lacking s.inner.writes)) s.inner.paces.w done) write_asked read in
      let read_events : List Access = reads_on s.area wanted s.inner.kept (moved_r service links s.inner) (head_of s.inner.reads) in
      let write_events : List Access = beat_writes s.area (moved_w service links s.inner) (oldest_lacking s.inner.writes) in
      let answered : List WriteEntry = after_b (moved_b service links s.inner) s.inner.writes in
      let same : oldest_lacking answered ≡ oldest_lacking s.inner.writes =
      oldest-after_b service rows.b s.inner.writes (answers-whole service schedule now links s.inner trail is_service service_suits keeps.order asks later) in
      let w : List WBeat = trail.w ++ one_of (moved_w service links s.inner) in
      let r : List RBeat = trail.r ++ one_of (moved_r service links s.inner) in
      let gathered : HasAccessedOn wanted schedule s.area (kept_after_w service (moved_w service links s.inner) s.inner.writes s.inner.kept) w r (all ++ events_on wanted links s) =
      subst (λ (t : List Access). HasAccessedOn wanted schedule s.area (kept_after_w service (moved_w service links s.inner) s.inner.writes s.inner.kept) w r t) (append_assoc all read_events write_events) written in
      let accessed : HasAccessedOn wanted schedule s.area (memory_next links s).inner.kept w r (all ++ events_on wanted links s) =
      subst (λ (store : Store). HasAccessedOn wanted schedule s.area store w r (all ++ events_on wanted links s)) (kept-same s.area (moved_w service links s.inner) s.inner.writes answered s.inner.kept same) gathered in
      record {
        order = order;
        reads = subst (λ (t : Beats). AnswersInOrder (memory_next links s).inner.reads t.ar t.r) (sym (trail-after service links s.inner trail))
            (order-ar (moved_ar service links s.inner) (after_r (moved_r service links s.inner) s.inner.reads) trail.ar r (order-r s.area s.inner.kept rows.r s.inner.reads trail.ar trail.r keeps.reads));
        accessed = subst (λ (t : Beats). HasAccessedOn wanted schedule s.area (memory_next links s).inner.kept t.w t.r (all ++ events_on wanted links s)) (sym (trail-after service links s.inner trail)) accessed;
      }

-- all valid lanes of a beat are valid
valid-fit : (area : MemoryArea) (e : ReadEntry) → IsMemoryArea area → IsReadEntry area e →
    AreWithin area.bus (beat_span area (record { request = e.request; beat = e.put })) (record { request = e.request; beat = e.put })
valid-fit area e is entry = record { from = omega arith; some = lanes-ordered e.request e.put area.bus is.bus entry.request.legal; to = omega arith }

pub memory-lasts : Lasts memory_kind
memory-lasts schedules now rounds links s passed fact keeps can around =
    let u : ℕ = s.inner.upper in
    let schedule : Schedule = schedules u in
    let after = stands-after (beat_span s.area) schedule now links s (passed.uppers u) passed.noted fact keeps.suits.service keeps.suits.lanes (λ a n. refl)
    (record { order = keeps.order; reads = keeps.reads; accessed = keeps.accessed })
    (of-one (λ l. Asks (schedules l) now (passed.uppers l)) u around.asked)
    (of-one (λ l. Asks (schedules l) now ((passed_after memory_kind (suc rounds) links s passed).uppers l)) u around.asked_next)
    (λ e rest entry place. valid-fit s.area e fact.area entry) in
    record {
      suits = lines-stay links s (λ lines. SuitsMemory s.area lines schedule) keeps.suits;
      order = after.order;
      reads = after.reads;
      accessed = after.accessed;
    }

-- ---- what it asks and answers

pub memory-asks_below : AsksBelow memory_kind
memory-asks_below schedules now rounds s passed fact keeps known asked = All-nil (λ l. Asks (schedules l) now (passed.lowers l))

-- the bytes that were read are the first of all that is read
bytes-first : (area : MemoryArea) (wanted : BeatOf → Span) (beats : List BeatOf) (n : ℕ) (values : List ℕ) →
    IsPrefix (answered_bytes (flat_map (wanted_allowed area wanted) (take n beats)) values) (answered_bytes (flat_map (wanted_allowed area wanted) (take (length beats) beats)) values)
bytes-first area wanted beats n values =
    prefix_of_same (filled-front (flat_map (wanted_allowed area wanted) (take n beats)) (flat_map (wanted_allowed area wanted) (drop n beats)) values)
    (ap (λ xs. answered_bytes xs values)
    (sym (flat_map-append (wanted_allowed area wanted) (take n beats) (drop n beats)) ∙ ap (flat_map (wanted_allowed area wanted)) (take-append-drop n beats ∙ sym (take_all (length beats) beats (omega arith)))))

pub answers-on : (wanted : BeatOf → Span) (schedule : Schedule) (now : Progress) (s : MemoryState) (trail : Beats) (all : List Access) →
    ((t : ℕ) → SuitsService (memory_service s.area) (schedule.writes t) (schedule.reads t)) → Stands wanted schedule s trail all → Asks schedule now trail →
    ((t : ℕ) → IsTrue (is_written (schedule.writes t) (length (of_key number_of_data t trail.w))) → IsTrue (now.written t)) →
    ((t : ℕ) →
    IsPrefix (answered_bytes (wanted_before s.area wanted (schedule.reads t) (length (beats_of_parts (schedule.reads t).parts))) (map (λ (a : Access). a.byte.value) (accesses_of false t all))) (now.filled t)) →
    Answers schedule now trail
answers-on wanted schedule now s trail all suits stands asks written filled =
    answers-order (memory_service s.area) schedule now s.inner trail (memory-is_service s.area) suits stands.order asks written
    (λ t.
    prefix_trans
    (prefix_same (stands.accessed.answered t)
    (bytes-first s.area wanted (beats_of_parts (schedule.reads t).parts) (length (of_key number_of_read_data t trail.r)) (map (λ (a : Access). a.byte.value) (accesses_of false t all))))
    (filled t))

pub memory-answers_above : AnswersAbove memory_kind
memory-answers_above schedules now rounds s passed fact keeps known above below answered =
    let u : ℕ = s.inner.upper in
    all-one (λ l. Answers (schedules l) now (passed.uppers l)) u
    (answers-on (beat_span s.area) (schedules u) now s (passed.uppers u) passed.noted keeps.suits.service
    (record { order = keeps.order; reads = keeps.reads; accessed = keeps.accessed })
    (of-one (λ l. Asks (schedules l) now (passed.uppers l)) u above) known.written known.filled)

-- only of what comes are bytes read
pub comes-of : (area : MemoryArea) (wanted : BeatOf → Span) (parts : List Addr) (values : List ℕ) →
    0 < length (answered_bytes (flat_map (wanted_allowed area wanted) (take (length (beats_of_parts parts)) (beats_of_parts parts))) values) → 0 < length parts
comes-of area wanted [] values some = absurd (omega (arith, some))
comes-of area wanted (p ∷ parts) values some = omega arith

pub memory-fills_at_ends : FillsAtEnds memory_kind
memory-fills_at_ends schedules rounds s passed keeps number some = record {
  none_below = refl;
  link = s.inner.upper;
  among = one-has s.inner.upper;
  comes = comes-of s.area (beat_span s.area) ((schedules s.inner.upper).reads number).parts (map (λ (a : Access). a.byte.value) (accesses_of false number passed.noted)) some;
}
