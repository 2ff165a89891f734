-- The read channels of a memory in a round: the order of what is put, and what is read for it.
use Rattle.std.proofs.Common.{◌≡◌, ℕ, ◌+◌, ◌≤◌, ◌==◌, suc, Bool, true, false, cond, List, [], ◌∷◌, ◌++◌, Option, Some, None, length, map, drop, refl, sym, ◌∙◌, ap, subst, arith, append-nil, length-append}
use Rattle.std.specs.Prelude.{All, option_map}
use Rattle.std.proofs.lemmas.List.{length-map, map-append}
use Rattle.std.proofs.lemmas.List.Elements.{All-head}
use Rattle.axi_beats.specs.declared.beat.Addr.{Addr}
use Rattle.axi_beats.specs.declared.beat.RBeat.{RBeat}
use Rattle.axi_beats.specs.declared.beat.WBeat.{WBeat}
use Rattle.axi_link.specs.LinkWords.{head_of}
use Rattle.axi_trail.specs.LinkContracts.{WholeBeforeTheNext, without_id}
use Rattle.axi_trail.specs.Schedule.{Schedule}
use Rattle.axi_trail.specs.Waiting.{advanced, beats_by, pending, waiting_shown}
use Rattle.axi_trail.specs.Words.{Mark, burst_asked, len_of_asked, mark_of_reply, marks, marks_of, next_mark, next_reply, number_of_address, number_of_asked, number_of_mark, number_of_read_data, number_of_reply, pending_asked, read_reply}
use Rattle.axi_trail.proofs.FilterFacts.{length-marks}
use Rattle.axi_trail.proofs.StepFacts.{next_goes_on, pending-shown}
use Rattle.axi_trail.proofs.WaitingFacts.{pending-beat, pending-request}
use Rattle.axi_beats.specs.Lanes.{Span}
use Rattle.memory_node.specs.Events.{Access, reads_on}
use Rattle.memory_node.specs.MemoryArea.{IsMemoryArea, MemoryArea}
use Rattle.memory_node.specs.MemoryState.{IsReadEntry}
use Rattle.memory_node.specs.MemoryTable.{memory_service}
use Rattle.memory_node.specs.MemoryTrail.{AnswersInOrder, HasAccessedOn}
use Rattle.memory_node.specs.Store.{Store}
use Rattle.node_core.specs.Rows.{beat_where}
use Rattle.plain_lists.specs.Keys.{of_key}
use Rattle.plain_lists.specs.Prefixes.{IsPrefix}
use Rattle.plain_lists.proofs.KeyLemmas.{of_key-map}
use Rattle.plain_lists.proofs.PrefixLemmas.{prefix_append, prefix_flat_map, prefix_length, prefix_map, prefix_trans}
use Rattle.subordinate.specs.Parts.{BeatOf, beats_of_parts}
use Rattle.subordinate.specs.SubordinateTable.{after_ar, after_r, next_beat}
use Rattle.subordinate.specs.Tracks.{TracksReads, len_of_address, number_of_read, read_waiting}
use Rattle.subordinate.specs.declared.entry.ReadEntry.{ReadEntry}
use Rattle.subordinate.proofs.ReadOrder.{next-read}
use Rattle.subordinate.proofs.TrailLemmas.{one_of}
use Rattle.subordinate.proofs.WriteOrder.{beats-shown}
use Rattle.memory_node.proofs.ChainLemmas.{count_marks, none-later}
use Rattle.memory_node.proofs.LaneLemmas.{AreWithin}
use Rattle.memory_node.proofs.ReadAccess.{IsNextRead, accessed-read}

-- the beats of answers, by what they show
abbrev read_marks : List RBeat → List Mark
read_marks beats = map mark_of_reply (map read_reply beats)

length-read_marks : (beats : List RBeat) → length (read_marks beats) ≡ length beats
length-read_marks beats = length-map (map read_reply beats) mark_of_reply ∙ length-map beats read_reply

count-read_marks : (t : ℕ) (beats : List RBeat) → count_marks t (read_marks beats) ≡ length (of_key number_of_read_data t beats)
count-read_marks t beats =
    ap length (of_key-map number_of_mark mark_of_reply t (map read_reply beats)) ∙ length-map (of_key number_of_reply t (map read_reply beats)) mark_of_reply
    ∙ ap length (of_key-map number_of_reply read_reply t beats) ∙ length-map (of_key number_of_read_data t beats) read_reply

counts-bursts : (n : ℕ) (xs : List Addr) → length (of_key number_of_asked n (map burst_asked xs)) ≡ length (of_key number_of_address n xs)
counts-bursts n xs = ap length (of_key-map number_of_asked burst_asked n xs) ∙ length-map (of_key number_of_address n xs) burst_asked

module _ (area : MemoryArea) (store : Store) (e : ReadEntry) (es : List ReadEntry) where
  abbrev beat : RBeat
  beat = next_beat (memory_service area) store e

  advanced-entry : map read_waiting (after_r (Some beat) (e ∷ es)) ≡ advanced len_of_address (read_waiting e ∷ map read_waiting es)
  advanced-entry =
      let one : e.put + 1 ≡ suc e.put = omega arith in
      let go : (b : Bool) → map read_waiting (cond b es (record { request = e.request; put = e.put + 1 } ∷ es)) ≡ cond b (map read_waiting es) (record { request = e.request; done = suc e.put } ∷ map read_waiting es) =
      elim [ true ↦ refl | false ↦ ap (λ n. record { request = e.request; done = n } ∷ map read_waiting es) one ]
      in go (e.put == e.request.len)

  put-in_order : (ar : List Addr) (r : List RBeat) → AnswersInOrder (e ∷ es) ar r → AnswersInOrder (after_r (Some beat) (e ∷ es)) ar (r ++ beat ∷ [])
  put-in_order ar r is =
      let n : suc (length r) ≡ length (r ++ beat ∷ []) = omega (arith, length-append r (beat ∷ [])) in
      let replies : map read_reply (r ++ beat ∷ []) ≡ map read_reply r ++ next_reply (waiting_shown burst_asked (read_waiting e)) ∷ [] = map-append read_reply r (beat ∷ []) in
      let passed : read_marks (r ++ beat ∷ []) ≡ read_marks r ++ next_mark (waiting_shown burst_asked (read_waiting e)) ∷ [] =
      ap (map mark_of_reply) replies ∙ map-append mark_of_reply (map read_reply r) (next_reply (waiting_shown burst_asked (read_waiting e)) ∷ []) in
      let waits : pending_asked (length r) (map burst_asked ar) ≡ waiting_shown burst_asked (read_waiting e) ∷ map (waiting_shown burst_asked) (map read_waiting es) =
      pending-shown burst_asked len_of_asked (length r) ar ∙ ap (map (waiting_shown burst_asked)) (sym is.open_reads) in
      record {
        open_reads =
            advanced-entry
            ∙ ap (advanced len_of_address) is.open_reads
            ∙ sym (pending-beat len_of_address (length r) ar)
            ∙ ap (λ k. pending len_of_address k ar) n;
        in_order = subst (λ (ms : List Mark). IsPrefix ms (marks (map burst_asked ar))) (sym passed)
            (next_goes_on (map burst_asked ar) (read_marks r) (length r) (waiting_shown burst_asked (read_waiting e)) (map (waiting_shown burst_asked) (map read_waiting es)) is.in_order (length-read_marks r) waits);
      }

pub order-r : (area : MemoryArea) (store : Store) (done : Bool) (entries : List ReadEntry) (ar : List Addr) (r : List RBeat) → AnswersInOrder entries ar r →
    AnswersInOrder (after_r (beat_where done (option_map (next_beat (memory_service area) store) (head_of entries))) entries) ar
    (r ++ one_of (beat_where done (option_map (next_beat (memory_service area) store) (head_of entries))))
order-r area store false entries ar r is = subst (λ (t : List RBeat). AnswersInOrder entries ar t) (sym (append-nil r)) is
order-r area store true [] ar r is = subst (λ (t : List RBeat). AnswersInOrder [] ar t) (sym (append-nil r)) is
order-r area store true (e ∷ es) ar r is = put-in_order area store e es ar r is

pub order-ar : (o : Option Addr) (entries : List ReadEntry) (ar : List Addr) (r : List RBeat) → AnswersInOrder entries ar r → AnswersInOrder (after_ar o entries) (ar ++ one_of o) r
order-ar None entries ar r is = subst (λ (t : List Addr). AnswersInOrder entries t r) (sym (append-nil ar)) is
order-ar (Some a) entries ar r is =
    let new : ReadEntry = record { request = a; put = 0 } in
    let within : length r ≤ beats_by len_of_address ar = omega (arith, prefix_length is.in_order, length-read_marks r, length-marks (map burst_asked ar), beats-shown len_of_asked burst_asked ar) in
    record {
      open_reads =
          map-append read_waiting entries (new ∷ [])
          ∙ ap (λ t. t ++ read_waiting new ∷ []) is.open_reads
          ∙ sym (pending-request len_of_address (length r) ar a within);
      in_order = prefix_trans is.in_order (prefix_flat_map marks_of (prefix_map burst_asked (prefix_append ar (a ∷ []))));
    }

-- what is asked of a link's reads, as far as a memory uses it
pub record ReadsAsked (schedule : Schedule) (ar : List Addr) : Type 0 where
  pub parts : (t : ℕ) → IsPrefix (map without_id (of_key number_of_address t ar)) (schedule.reads t).parts
  pub whole : WholeBeforeTheNext schedule.reads (map burst_asked ar)

module _ (wanted : BeatOf → Span) (schedule : Schedule) (area : MemoryArea) (store : Store) (w : List WBeat) (ar : List Addr) (r : List RBeat) (all : List Access)
    (is_area : IsMemoryArea area) (lanes : (t : ℕ) → (schedule.reads t).lanes ≡ map wanted (beats_of_parts (schedule.reads t).parts))
    (alike : (a : Addr) (n : ℕ) → wanted (record { request = without_id a; beat = n }) ≡ wanted (record { request = a; beat = n })) (asked : ReadsAsked schedule ar) where
  quiet-r : HasAccessedOn wanted schedule area store w r all → HasAccessedOn wanted schedule area store w (r ++ []) (all ++ [])
  quiet-r is = subst (λ (t : List RBeat). HasAccessedOn wanted schedule area store w t (all ++ [])) (sym (append-nil r)) (subst (λ (t : List Access). HasAccessedOn wanted schedule area store w r t) (sym (append-nil all)) is)

  -- the wanted lanes of each beat that is due are valid
  abbrev pub AreFit : Type 0
  AreFit = (e : ReadEntry) (rest : List BeatOf) → IsReadEntry area e →
      drop (length (of_key number_of_read_data e.request.tag.txn r)) (beats_of_parts (schedule.reads e.request.tag.txn).parts) ≡ record { request = without_id e.request; beat = e.put } ∷ rest →
      AreWithin area.bus (wanted (record { request = e.request; beat = e.put })) (record { request = e.request; beat = e.put })

  next-is : AreFit → (e : ReadEntry) (es : List ReadEntry) → IsReadEntry area e → TracksReads schedule.reads (e ∷ es) ar r → AnswersInOrder (e ∷ es) ar r → IsNextRead wanted schedule area store e w r all
  next-is fit e es entry tracks order =
      let found = next-read schedule.reads e es ar r tracks (asked.parts (number_of_read e)) in
      record {
        is_area = is_area;
        legal = entry.request.legal;
        alike = alike e.request e.put;
        within = fit e found.0 entry found.1;
        lanes = lanes (number_of_read e);
        rest = found.0;
        place = found.1;
        none_later = λ after chain.
            sym (count-read_marks after r)
            ∙ none-later schedule.reads burst_asked counts-bursts (λ a. refl) ar asked.whole (read_marks r) (length r) (read_waiting e) (map read_waiting es) after (asked.parts (number_of_read e)) order.in_order (length-read_marks r)
            (sym order.open_reads) chain;
      }

  pub read-step : AreFit → (done : Bool) (entries : List ReadEntry) → All (IsReadEntry area) entries → TracksReads schedule.reads entries ar r → AnswersInOrder entries ar r → HasAccessedOn wanted schedule area store w r all →
      HasAccessedOn wanted schedule area store w (r ++ one_of (beat_where done (option_map (next_beat (memory_service area) store) (head_of entries))))
      (all ++ reads_on area wanted store (beat_where done (option_map (next_beat (memory_service area) store) (head_of entries))) (head_of entries))
  read-step fit false entries each tracks order is = quiet-r is
  read-step fit true [] each tracks order is = quiet-r is
  read-step fit true (e ∷ es) each tracks order is = accessed-read wanted schedule area store e w r all is (next-is fit e es (All-head (IsReadEntry area) e es each) tracks order)
