-- The data channel of a memory in a round: what is written for the beat that is taken.
use Rattle.std.proofs.Common.{◌≡◌, ℕ, ◌+◌, ◌<◌, ◌≤◌, Bool, true, false, cond, suc, List, [], ◌∷◌, ◌++◌, Option, Some, None, length, map, drop, refl, sym, ◌∙◌, ap, subst, arith, append-nil, append_assoc}
use Rattle.std.specs.Prelude.{All, flat_map, is_some, zip}
use Rattle.std.proofs.lemmas.Bool.{ltb-true}
use Rattle.std.proofs.lemmas.List.{length-map, map-append}
use Rattle.axi_beats.specs.declared.beat.Addr.{Addr}
use Rattle.axi_beats.specs.declared.beat.BBeat.{BBeat}
use Rattle.axi_beats.specs.declared.beat.RBeat.{RBeat}
use Rattle.axi_beats.specs.declared.beat.WBeat.{WBeat}
use Rattle.axi_trail.specs.LinkContracts.{WholeBeforeTheNext, without_id}
use Rattle.axi_trail.specs.Schedule.{Schedule}
use Rattle.axi_trail.specs.Waiting.{Waiting, beats_by}
use Rattle.axi_trail.specs.Words.{burst_asked, len_of_asked, mark_of_data, marks, number_of_address, number_of_asked, number_of_data, number_of_mark, write_asked}
use Rattle.axi_trail.proofs.PlaceFacts.{own_up_to}
use Rattle.axi_trail.proofs.WaitingFacts.{pending-place}
use Rattle.memory_node.specs.Beats.{stored_bytes, with_bytes}
use Rattle.memory_node.specs.Events.{Access, accesses, beat_writes}
use Rattle.memory_node.specs.MemoryArea.{IsMemoryArea, MemoryArea}
use Rattle.memory_node.specs.MemoryState.{IsWriteEntry}
use Rattle.memory_node.specs.MemoryTable.{memory_service}
use Rattle.memory_node.specs.MemoryTrail.{HasAccessedOn}
use Rattle.axi_beats.specs.Lanes.{Span}
use Rattle.memory_node.specs.Store.{IsStore, Store}
use Rattle.node_core.specs.Rows.{beat_where}
use Rattle.plain_lists.specs.Keys.{of_key}
use Rattle.plain_lists.specs.Prefixes.{Agree, IsPrefix}
use Rattle.plain_lists.proofs.KeyLemmas.{of_key-append, of_key-cons, of_key-map, of_key-push}
use Rattle.plain_lists.proofs.PartLemmas.{drop_prefix, drop_zip}
use Rattle.plain_lists.proofs.PrefixLemmas.{Agree_fronts, prefix_append, prefix_itself, prefix_map}
use Rattle.subordinate.specs.Parts.{BeatOf, beats_of_parts}
use Rattle.subordinate.specs.SubordinateTable.{kept_after_w, kept_with, lacks_data, oldest_lacking}
use Rattle.subordinate.specs.Tracks.{TracksWrites, data_waiting, len_of_address, number_of_write}
use Rattle.subordinate.specs.declared.entry.WriteEntry.{WriteEntry}
use Rattle.subordinate.proofs.DataLemmas.{found-lacks}
use Rattle.subordinate.proofs.OrderAnswers.{data-in_order}
use Rattle.subordinate.proofs.PartPlaces.{parts-from}
use Rattle.subordinate.proofs.TrailLemmas.{next-data, one_of}
use Rattle.subordinate.proofs.WriteOrder.{beats-shown, first-pending}
use Rattle.memory_node.proofs.ChainLemmas.{count_marks, none-later}
use Rattle.memory_node.proofs.WriteAccess.{IsNextWrite, accessed-written, lines-written}

-- what is asked of a link's writes, as far as a memory uses it, with the data that it takes
pub record WritesAsked (schedule : Schedule) (aw : List Addr) (w : List WBeat) : Type 0 where
  pub parts : (t : ℕ) → IsPrefix (map without_id (of_key number_of_address t aw)) (schedule.writes t).parts
  pub whole : WholeBeforeTheNext schedule.writes (map write_asked aw)
  pub due_data : (t : ℕ) → IsPrefix (of_key number_of_data t w) (flat_map (λ (beats : List WBeat). beats) (schedule.writes t).write_data)
  pub follows : Agree (map mark_of_data w) (marks (map burst_asked aw))

counts-writes : (n : ℕ) (xs : List Addr) → length (of_key number_of_asked n (map write_asked xs)) ≡ length (of_key number_of_address n xs)
counts-writes n xs = ap length (of_key-map number_of_asked write_asked n xs) ∙ length-map (of_key number_of_address n xs) write_asked

count-data_marks : (t : ℕ) (w : List WBeat) → count_marks t (map mark_of_data w) ≡ length (of_key number_of_data t w)
count-data_marks t w = ap length (of_key-map number_of_mark mark_of_data t w) ∙ length-map (of_key number_of_data t w) mark_of_data

-- what holds of all holds of the oldest write that lacks data
found-in : (P : WriteEntry → Type 0) (entries : List WriteEntry) (e : WriteEntry) → All P entries → oldest_lacking entries ≡ Some e → P e
found-in P [] e all found = absurd (cc)
found-in P (f ∷ entries) e all found =
    let tail : All P entries = λ k d lt. all (suc k) d (omega (arith, lt)) in
    let go : (b : Bool) → cond b (Some f) (oldest_lacking entries) ≡ Some e → P e =
    elim [
      | true ↦ λ here. let same : f ≡ e = cc in subst P same (all 0 f (omega arith))
      | false ↦ λ later. found-in P entries e tail later
    ]
    in go (lacks_data f) found

-- where the next beat of data stands in its transaction
next-part : (parts aw : List Addr) (w : List WBeat) (e : WriteEntry) (others : List (Waiting Addr)) (place : (before : List Addr) × (after : List Addr) × (aw ≡ before ++ e.request ∷ after) × (beats_by len_of_address before + e.taken ≡ length w) × (e.taken ≤ e.request.len)) →
    IsPrefix (map without_id (of_key number_of_address e.request.tag.txn aw)) parts → IsPrefix (map mark_of_data w) (marks (map burst_asked aw)) →
    (rest : List BeatOf) × (drop (length (of_key number_of_data e.request.tag.txn w)) (beats_of_parts parts) ≡ record { request = without_id e.request; beat = e.taken } ∷ rest)
next-part parts aw w e others place asked order =
    let t : ℕ = e.request.tag.txn in
    let before : List Addr = of_key number_of_address t place.0 in
    let after : List Addr = of_key number_of_address t place.1 in
    let here : map burst_asked aw ≡ map burst_asked place.0 ++ burst_asked e.request ∷ map burst_asked place.1 = ap (map burst_asked) place.2 ∙ map-append burst_asked place.0 (e.request ∷ place.1) in
    let own : of_key number_of_address t aw ≡ before ++ e.request ∷ after =
    ap (of_key number_of_address t) place.2 ∙ of_key-append number_of_address t place.0 (e.request ∷ place.1) ∙ ap (λ xs. before ++ xs) (of_key-cons number_of_address t e.request place.1 refl) in
    let passed : length (map mark_of_data w) ≡ beats_by len_of_asked (map burst_asked place.0) + e.taken = omega (arith, length-map w mark_of_data, beats-shown len_of_asked burst_asked place.0, place.3) in
    let counted = own_up_to t e.taken (map burst_asked place.0) (burst_asked e.request) (map burst_asked place.1) (map mark_of_data w)
    (subst (λ (xs : List _). IsPrefix (map mark_of_data w) (marks xs)) here order) passed place.4 refl in
    let count : length (of_key number_of_data t w) ≡ beats_by len_of_address before + e.taken =
    omega (arith, counted, count-data_marks t w, ap (beats_by len_of_asked) (of_key-map number_of_asked burst_asked t place.0), beats-shown len_of_asked burst_asked before) in
    let whole : parts ≡ map without_id before ++ without_id e.request ∷ (map without_id after ++ asked.rest) =
    asked.whole ∙ ap (λ ys. map without_id ys ++ asked.rest) own ∙ ap (λ ys. ys ++ asked.rest) (map-append without_id before (e.request ∷ after))
    ∙ append_assoc (map without_id before) (without_id e.request ∷ map without_id after) asked.rest in
    let found = parts-from before (without_id e.request) (map without_id after ++ asked.rest) e.taken place.4 in
    (found.0, ap (λ n. drop n (beats_of_parts parts)) count ∙ ap (λ ps. drop (beats_by len_of_address before + e.taken) (beats_of_parts ps)) whole ∙ found.1)

module _ (wanted : BeatOf → Span) (schedule : Schedule) (area : MemoryArea) (store : Store) (entries : List WriteEntry) (aw : List Addr) (w : List WBeat) (b : List BBeat) (r : List RBeat) (all : List Access)
    (is_area : IsMemoryArea area) (is_store : IsStore store) (each : All (IsWriteEntry area store.lines) entries) (tracks : TracksWrites (memory_service area) entries aw w b) where
  quiet-w : HasAccessedOn wanted schedule area store w r all → HasAccessedOn wanted schedule area store (w ++ []) r (all ++ [])
  quiet-w is = subst (λ (t : List WBeat). HasAccessedOn wanted schedule area store t r (all ++ [])) (sym (append-nil w)) (subst (λ (t : List Access). HasAccessedOn wanted schedule area store w r t) (sym (append-nil all)) is)

  next-is : (e : WriteEntry) (x : WBeat) → oldest_lacking entries ≡ Some e → WritesAsked schedule aw (w ++ x ∷ []) → IsNextWrite wanted schedule area store e.request e.taken x w r all
  next-is e x found asked =
      let t : ℕ = number_of_write e in
      let first = first-pending (memory_service area) e entries aw w b found tracks in
      let place = pending-place len_of_address (length w) aw (data_waiting e) first.0 first.1 in
      let entry : IsWriteEntry area store.lines e = found-in (IsWriteEntry area store.lines) entries e each found in
      let more : e.taken < e.request.len + 1 = ltb-true e.taken (e.request.len + 1) (found-lacks entries e found) in
      let own : x.tag.txn ≡ e.request.tag.txn = next-data (memory_service area) entries aw w b e x tracks found asked.follows in
      let agree : Agree (map mark_of_data w) (marks (map burst_asked aw)) =
      Agree_fronts (prefix_map mark_of_data (prefix_append w (x ∷ []))) (prefix_itself (marks (map burst_asked aw))) asked.follows in
      let order : IsPrefix (map mark_of_data w) (marks (map burst_asked aw)) = data-in_order aw w agree tracks.addresses_first in
      let part = next-part (schedule.writes t).parts aw w e first.0 place (asked.parts t) order in
      let due : (rest : List WBeat) × (drop (length (of_key number_of_data t w)) (flat_map (λ (beats : List WBeat). beats) (schedule.writes t).write_data) ≡ x ∷ rest) =
      drop_prefix (length (of_key number_of_data t w)) (of_key number_of_data t w) x (flat_map (λ (beats : List WBeat). beats) (schedule.writes t).write_data)
      (subst (λ (xs : List WBeat). IsPrefix xs (flat_map (λ (beats : List WBeat). beats) (schedule.writes t).write_data)) (of_key-push number_of_data t w x own) (asked.due_data t)) refl in
      record {
        is_store = is_store;
        lines = lines-written area store.lines e.request e.taken x is_area entry.lines_kept (omega (arith, more));
        own = own;
        rest = zip part.0 due.0;
        place = drop_zip (length (of_key number_of_data t w)) (beats_of_parts (schedule.writes t).parts) (flat_map (λ (beats : List WBeat). beats) (schedule.writes t).write_data)
            (record { request = without_id e.request; beat = e.taken }) x part.0 due.0 part.1 due.1;
        none_later = λ after chain.
            sym (count-data_marks after w)
            ∙ none-later schedule.writes write_asked counts-writes (λ a. refl) aw asked.whole (map mark_of_data w) (length w) (data_waiting e) first.0 after (asked.parts t) order (length-map w mark_of_data) first.1 chain;
      }

  take-next : (e : WriteEntry) (x : WBeat) → oldest_lacking entries ≡ Some e → WritesAsked schedule aw (w ++ x ∷ []) → HasAccessedOn wanted schedule area store w r all →
      HasAccessedOn wanted schedule area (kept_after_w (memory_service area) (Some x) entries store) (w ++ x ∷ []) r (all ++ beat_writes area (Some x) (oldest_lacking entries))
  take-next e x found asked is =
      let bytes = stored_bytes area e.request e.taken x in
      let next : IsNextWrite wanted schedule area store e.request e.taken x w r all = next-is e x found asked in
      let done : HasAccessedOn wanted schedule area (with_bytes store bytes) (w ++ x ∷ []) r (all ++ accesses e.request.tag.txn true bytes) = accessed-written wanted schedule area store e.request e.taken x w r all is next in
      let numbered : HasAccessedOn wanted schedule area (with_bytes store bytes) (w ++ x ∷ []) r (all ++ accesses x.tag.txn true bytes) =
      subst (λ (n : ℕ). HasAccessedOn wanted schedule area (with_bytes store bytes) (w ++ x ∷ []) r (all ++ accesses n true bytes)) (sym next.own) done in
      subst (λ (o : Option WriteEntry). HasAccessedOn wanted schedule area (kept_with (memory_service area) x o store) (w ++ x ∷ []) r (all ++ beat_writes area (Some x) o)) (sym found) numbered

  pub write-step : (done : Bool) (head : Option WBeat) → (done ≡ true → is_some (oldest_lacking entries) ≡ true) → WritesAsked schedule aw (w ++ one_of (beat_where done head)) → HasAccessedOn wanted schedule area store w r all →
      HasAccessedOn wanted schedule area (kept_after_w (memory_service area) (beat_where done head) entries store) (w ++ one_of (beat_where done head)) r (all ++ beat_writes area (beat_where done head) (oldest_lacking entries))
  write-step false head may asked is = quiet-w is
  write-step true None may asked is = quiet-w is
  write-step true (Some x) may asked is = go (oldest_lacking entries) refl (may refl)
    where
      go : (o : Option WriteEntry) → oldest_lacking entries ≡ o → is_some o ≡ true →
          HasAccessedOn wanted schedule area (kept_after_w (memory_service area) (Some x) entries store) (w ++ x ∷ []) r (all ++ beat_writes area (Some x) (oldest_lacking entries))
      go None found there = absurd (cc)
      go (Some e) found there = take-next e x found asked is
