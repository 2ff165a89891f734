-- What holds of a manager over its rounds and its trail.
use Rattle.std.proofs.Common.{◌≡◌, ◌≢◌, ◌↔◌, ℕ, ◌+◌, ◌<◌, suc, Bool, true, false, cond, List, [], ◌∷◌, ◌++◌, Option, Some, None, Contains, length, map, refl, sym, ◌∙◌, ap, subst, inl, inr, arith, append_assoc, append-nil, length-append}
use Rattle.std.specs.Prelude.{slice_get, slice_range}
use Rattle.std.proofs.lemmas.Bool.{eqb-false, eqb-true}
use Rattle.std.proofs.lemmas.List.{length-map, map-append}
use Rattle.std.proofs.lemmas.List.FromFn.{get_or-map-range_with_len, length-map-range_with_len}
use Rattle.std.proofs.lemmas.Option.{same_Some, slice_get-get_or}
use Rattle.axi_beats.specs.declared.beat.Addr.{Addr}
use Rattle.axi_beats.specs.declared.beat.BBeat.{BBeat}
use Rattle.axi_beats.specs.declared.beat.RBeat.{RBeat}
use Rattle.axi_beats.specs.declared.response.Resp.{Resp}
use Rattle.axi_link.specs.LinkView.{LinkView}
use Rattle.burst_address.specs.Formulas.{beats_of}
use Rattle.axi_trail.specs.LinkContracts.{Answers}
use Rattle.axi_trail.specs.Schedule.{Schedule, Progress, bytes_on}
use Rattle.axi_trail.specs.Trail.{Beats}
use Rattle.axi_trail.specs.Words.{number_of_response, number_of_read_data}
use Rattle.manager_node.specs.Answer.{AnswerView, answered_in, is_last}
use Rattle.manager_node.specs.Beats.{bytes_on_valid_lanes}
use Rattle.manager_node.specs.ManagerOrder.{IsAt, note_at}
use Rattle.manager_node.specs.ManagerState.{ManagerState, IsDue, IsManager, due_resps, new_manager, of_direction, script_writes}
use Rattle.manager_node.specs.ManagerTable.{manager_b, manager_r, manager_next, read_in}
use Rattle.manager_node.specs.ManagerTrail.{HasItem, HasPassed, IsReadNote, IsWriteNote, first_data, spans_of}
use Rattle.manager_node.proofs.Standing.{Standing, StandingLasts, StandingOpens, manager_trail}
use Rattle.manager_node.specs.Script.{ScriptItem}
use Rattle.manager_node.specs.declared.entry.Entry.{Entry}
use Rattle.manager_node.proofs.DueLemmas.{last-answers, more-answers, read-is, write-last}
use Rattle.manager_node.proofs.EntryLemmas.{stays-same}
use Rattle.manager_node.proofs.IssueLemmas.{new-note}
use Rattle.manager_node.proofs.StateLemmas.{manager-begins, manager-stays}
use Rattle.manager_node.proofs.NoteLemmas.{b-noted, b-taken, r-noted, r-taken, hits, mapped, taken_of, taken-waits}
use Rattle.manager_node.proofs.NumberLemmas.{issued-shown, number-once}
use Rattle.manager_node.proofs.OrderLaws.{order-begins, order-stays}
use Rattle.manager_node.proofs.PlaceLemmas.{direction-of}
use Rattle.manager_node.proofs.TrailLemmas.{ar-after, aw-after, b-after, b-number, own-here, own-other, r-after, r-number, read-entries-after, w-after, write-entries-after}
use Rattle.plain_lists.specs.Keys.{of_key}
use Rattle.plain_lists.proofs.PrefixLemmas.{prefix_nil}
use Rattle.plain_lists.proofs.PlaceLemmas.{at-all}
use Rattle.axi_beats.specs.Lanes.{Span}
use Rattle.burst_address.specs.Lanes.{last_lane, first_lane}

-- the bytes of one more beat
bytes-push : (rs : List RBeat) (spans : List Span) (r : RBeat) (span : Span) → slice_get spans (length rs) ≡ Some span → bytes_on (rs ++ r ∷ []) spans ≡ bytes_on rs spans ++ slice_range r.lanes span.low (span.high + 1)
bytes-push rs [] r span at = absurd (cc)
bytes-push [] (first ∷ spans) r span at =
    let same : first ≡ span = same_Some first span at
    in append-nil (slice_range r.lanes first.low (first.high + 1)) ∙ ap (λ (s : Span). slice_range r.lanes s.low (s.high + 1)) same
bytes-push (q ∷ rs) (first ∷ spans) r span at =
    ap (λ (bs : List ℕ). slice_range q.lanes first.low (first.high + 1) ++ bs) (bytes-push rs spans r span at)
    ∙ sym (append_assoc (slice_range q.lanes first.low (first.high + 1)) (bytes_on rs spans) (slice_range r.lanes span.low (span.high + 1)))

-- the valid lanes of a beat
span-at : (bus : ℕ) (request : Addr) (k : ℕ) → k < beats_of request → slice_get (spans_of bus request) k ≡ Some (record { low = first_lane request k bus; high = last_lane request k bus })
span-at bus request k less =
    let span : ℕ → Span = λ n. record { low = first_lane request n bus; high = last_lane request n bus }
    in let long : length (spans_of bus request) ≡ beats_of request = length-map-range_with_len span 0 (beats_of request)
    in let none : Span = record { low = 0; high = 0 }
    in slice_get-get_or (spans_of bus request) k none (subst (λ (n : ℕ). k < n) (sym long) less)
    ∙ ap (λ (s : Span). Some s) (get_or-map-range_with_len span 0 (beats_of request) k k none less (omega arith))

module _ (schedule : Schedule) (now : Progress) (rounds : ℕ) (links : List LinkView) (s : ManagerState) (trail : Beats) (keeps : Standing schedule rounds s trail) (answers : Answers schedule now (manager_trail links s trail)) where
  stays : IsManager (manager_next (suc rounds) links s)
  stays = manager-stays links s (suc rounds) (omega arith) keeps.is_manager

  write-shown : (place : ℕ) (item : ScriptItem) → IsAt s place item → item.txn.write ≡ true → (0 < (note_at (manager_next (suc rounds) links s) place).issued) ↔ Contains (map (λ a. a.tag.txn) (manager_trail links s trail).aw) item.txn.number
  write-shown place item at directed = issued-shown true (manager_next (suc rounds) links s) (manager_trail links s trail).aw keeps.scheduled.numbered stays.issues (aw-after schedule now rounds links s trail keeps answers) place item at directed

  read-shown : (place : ℕ) (item : ScriptItem) → IsAt s place item → item.txn.write ≡ false → (0 < (note_at (manager_next (suc rounds) links s) place).issued) ↔ Contains (map (λ a. a.tag.txn) (manager_trail links s trail).ar) item.txn.number
  read-shown place item at directed = issued-shown false (manager_next (suc rounds) links s) (manager_trail links s trail).ar keeps.scheduled.numbered stays.issues (ar-after schedule now rounds links s trail keeps answers) place item at directed

  -- a write whose response is taken
  write-came : (place : ℕ) (item : ScriptItem) → IsAt s place item → item.txn.write ≡ true → (x : Entry × BBeat) → manager_b links s ≡ Some x → place ≡ x.0.place → IsWriteNote (manager_next (suc rounds) links s) (manager_trail links s trail) place item
  write-came place item at directed x taken here =
      let noted : note_at (manager_next (suc rounds) links s) place ≡ answered_in (suc rounds) x.1.resp [] (note_at s place) =
      subst (λ (q : ℕ). note_at (manager_next (suc rounds) links s) q ≡ answered_in (suc rounds) x.1.resp [] (note_at s q)) (sym here) (b-noted links s keeps.is_manager (suc rounds) x taken)
      in let due : IsDue s.script true place (note_at s place) = subst (λ (q : ℕ). IsDue s.script true q (note_at s q)) (sym here) (taken-waits links s keeps.is_manager true x.0 (b-taken links s keeps.is_manager x taken))
      in let last = last-answers (suc rounds) x.1.resp [] (note_at s place) (write-last s.script place (note_at s place) due)
      in let note = keeps.passed.write_notes place item at directed
      in let number = b-number schedule now rounds links s trail keeps answers x taken
      in let one : number.0 ≡ item = same_Some number.0 item (sym number.1 ∙ ap (slice_get s.script) (sym here) ∙ at)
      in let own : x.1.tag.txn ≡ item.txn.number = number.2 ∙ ap (λ (i : ScriptItem). i.txn.number) one
      in let after : of_key number_of_response item.txn.number (manager_trail links s trail).b ≡ of_key number_of_response item.txn.number trail.b ++ x.1 ∷ [] =
      ap (of_key number_of_response item.txn.number) (b-after schedule now rounds links s trail keeps answers) ∙ own-here number_of_response item.txn.number trail.b (manager_b links s) x taken own
      in let none : length (note_at s place).resps ≡ 0 = let single : (note_at s place).due_resps ≡ 1 = due.due_resps ∙ ap (λ (b : Bool). cond b 1 (due.item.txn.request.len + 1)) due.direction in omega (arith, due.more)
      in let before : length (of_key number_of_response item.txn.number trail.b) ≡ 0 = sym (length-map (of_key number_of_response item.txn.number trail.b) (λ (b : BBeat). b.resp)) ∙ ap length (sym note.responses) ∙ none
      in let single : length (of_key number_of_response item.txn.number (manager_trail links s trail).b) ≡ 1 = ap length after ∙ length-append (of_key number_of_response item.txn.number trail.b) (x.1 ∷ []) ∙ ap (λ (n : ℕ). n + 1) before
      in record {
        issued = write-shown place item at directed;
        responses = ap (λ (a : AnswerView). a.resps) noted ∙ ap (λ (rs : List Resp). rs ++ x.1.resp ∷ []) note.responses ∙ sym (map-append (λ (b : BBeat). b.resp) (of_key number_of_response item.txn.number trail.b) (x.1 ∷ [])) ∙ sym (ap (map (λ (b : BBeat). b.resp)) after);
        bytes = ap (λ (a : AnswerView). a.bytes) noted ∙ ap (λ (bs : List ℕ). bs ++ []) note.bytes;
        answered = (λ some. single, λ whole. subst (λ (n : ℕ). 0 < n) (sym (ap (λ (a : AnswerView). a.answered) noted ∙ last)) (omega arith));
      }

  -- a write whose response isn't taken
  write-waits : (place : ℕ) (item : ScriptItem) → IsAt s place item → item.txn.write ≡ true → ((x : Entry × BBeat) → manager_b links s ≡ Some x → place ≢ x.0.place) → IsWriteNote (manager_next (suc rounds) links s) (manager_trail links s trail) place item
  write-waits place item at directed apart =
      let of_way : (n : ℕ) × (slice_get (of_direction true s.script) n ≡ Some (place, item)) = direction-of true s.script place item at directed
      in let not_taken : (e : Entry) → taken_of links s true ≡ Some e → place ≢ e.place = λ e taken here.
      let x : (x : Entry × BBeat) × (manager_b links s ≡ Some x) × (x.0 ≡ e) = mapped links s (manager_b links s) e taken
      in apart x.0 x.1 (here ∙ ap (λ (entry : Entry). entry.place) (sym x.2))
      in let same = stays-same links s keeps.is_manager keeps.in_order.waiting (suc rounds) (omega arith) true of_way.0 (place, item) of_way.1 not_taken
      in let note = keeps.passed.write_notes place item at directed
      in let others : of_key number_of_response item.txn.number (manager_trail links s trail).b ≡ of_key number_of_response item.txn.number trail.b =
      ap (of_key number_of_response item.txn.number) (b-after schedule now rounds links s trail keeps answers)
      ∙ own-other number_of_response item.txn.number trail.b (manager_b links s) (λ x taken own.
      let number = b-number schedule now rounds links s trail keeps answers x taken
      in apart x taken (number-once s.script keeps.scheduled.numbered place x.0.place item number.0 at number.1 (sym own ∙ number.2)))
      in record {
        issued = write-shown place item at directed;
        responses = same.0 ∙ note.responses ∙ ap (map (λ (b : BBeat). b.resp)) (sym others);
        bytes = same.1 ∙ note.bytes;
        answered = (λ some. ap length others ∙ note.answered.0 (subst (λ (n : ℕ). 0 < n) same.2 some), λ whole. subst (λ (n : ℕ). 0 < n) (sym same.2) (note.answered.1 (sym (ap length others) ∙ whole)));
      }

  write-note : (place : ℕ) (item : ScriptItem) → IsAt s place item → item.txn.write ≡ true → IsWriteNote (manager_next (suc rounds) links s) (manager_trail links s trail) place item
  write-note place item at directed = elim (hits (λ (x : Entry × BBeat). x.0.place) (manager_b links s) place) [
    | inl x ↦ write-came place item at directed x.0 x.1 x.2
    | inr apart ↦ write-waits place item at directed apart
  ]

  -- a read of which a beat is taken
  read-came : (place : ℕ) (item : ScriptItem) → IsAt s place item → item.txn.write ≡ false → (x : Entry × RBeat) → manager_r links s ≡ Some x → place ≡ x.0.place → IsReadNote schedule (manager_next (suc rounds) links s) (manager_trail links s trail) place item
  read-came place item at directed x taken here =
      let noted : note_at (manager_next (suc rounds) links s) place ≡ answered_in (suc rounds) x.1.resp (bytes_on_valid_lanes s.bus item.txn.request (length (note_at s place).resps) x.1.lanes) (note_at s place) =
      subst (λ (q : ℕ). note_at (manager_next (suc rounds) links s) q ≡ read_in (suc rounds) s.bus (slice_get s.script q) x.1 (note_at s q)) (sym here) (r-noted links s keeps.is_manager (suc rounds) x taken)
      ∙ read-is s.script place (suc rounds) s.bus x.1 (note_at s place) item at
      in let due : IsDue s.script false place (note_at s place) = subst (λ (q : ℕ). IsDue s.script false q (note_at s q)) (sym here) (taken-waits links s keeps.is_manager false x.0 (r-taken links s keeps.is_manager x taken))
      in let own_item : due.item ≡ item = same_Some due.item item (sym due.at ∙ at)
      in let whole : (note_at s place).due_resps ≡ item.txn.request.len + 1 = due.due_resps ∙ ap (λ (i : ScriptItem). due_resps i.txn) own_item ∙ ap (λ (b : Bool). cond b 1 (item.txn.request.len + 1)) directed
      in let note = keeps.passed.read_notes place item at directed
      in let number = r-number schedule now rounds links s trail keeps answers x taken
      in let one : number.0 ≡ item = same_Some number.0 item (sym number.1 ∙ ap (slice_get s.script) (sym here) ∙ at)
      in let own : x.1.tag.txn ≡ item.txn.number = number.2 ∙ ap (λ (i : ScriptItem). i.txn.number) one
      in let after : of_key number_of_read_data item.txn.number (manager_trail links s trail).r ≡ of_key number_of_read_data item.txn.number trail.r ++ x.1 ∷ [] =
      ap (of_key number_of_read_data item.txn.number) (r-after schedule now rounds links s trail keeps answers) ∙ own-here number_of_read_data item.txn.number trail.r (manager_r links s) x taken own
      in let before : length (of_key number_of_read_data item.txn.number trail.r) ≡ length (note_at s place).resps = sym (length-map (of_key number_of_read_data item.txn.number trail.r) (λ (r : RBeat). r.resp)) ∙ ap length (sym note.responses)
      in let more : length (of_key number_of_read_data item.txn.number (manager_trail links s trail).r) ≡ length (note_at s place).resps + 1 = ap length after ∙ length-append (of_key number_of_read_data item.txn.number trail.r) (x.1 ∷ []) ∙ ap (λ (n : ℕ). n + 1) before
      in let lanes = (at-all (HasItem schedule s.bus) s.script place item keeps.scheduled.items at).lanes directed
      in let span = span-at s.bus item.txn.request (length (of_key number_of_read_data item.txn.number trail.r)) (omega (arith, due.more))
      in let pushed : bytes_on (of_key number_of_read_data item.txn.number (manager_trail links s trail).r) (schedule.reads item.txn.number).lanes ≡ bytes_on (of_key number_of_read_data item.txn.number trail.r) (schedule.reads item.txn.number).lanes ++ bytes_on_valid_lanes s.bus item.txn.request (length (note_at s place).resps) x.1.lanes =
      ap (λ (rs : List RBeat). bytes_on rs (schedule.reads item.txn.number).lanes) after
      ∙ bytes-push (of_key number_of_read_data item.txn.number trail.r) (schedule.reads item.txn.number).lanes x.1 _ (ap (λ (spans : List Span). slice_get spans (length (of_key number_of_read_data item.txn.number trail.r))) lanes ∙ span)
      ∙ ap (λ (k : ℕ). bytes_on (of_key number_of_read_data item.txn.number trail.r) (schedule.reads item.txn.number).lanes ++ bytes_on_valid_lanes s.bus item.txn.request k x.1.lanes) before
      in let ends : (b : Bool) → is_last (note_at s place) ≡ b → (0 < (note_at (manager_next (suc rounds) links s) place).answered) ↔ (length (of_key number_of_read_data item.txn.number (manager_trail links s trail).r) ≡ suc item.txn.request.len) =
      elim [
        | true ↦ λ last.
            let full : length (note_at s place).resps + 1 ≡ (note_at s place).due_resps = eqb-true (length (note_at s place).resps + 1) (note_at s place).due_resps last
            in (λ some. omega arith, λ all. subst (λ (n : ℕ). 0 < n) (sym (ap (λ (a : AnswerView). a.answered) noted ∙ last-answers (suc rounds) x.1.resp [] (note_at s place) last)) (omega arith))
        | false ↦ λ some.
            let open_still : (note_at (manager_next (suc rounds) links s) place).answered ≡ 0 = ap (λ (a : AnswerView). a.answered) noted ∙ more-answers (suc rounds) x.1.resp [] (note_at s place) some ∙ due.answered
            in let apart : (length (note_at s place).resps + 1) ≢ (note_at s place).due_resps = eqb-false (length (note_at s place).resps + 1) (note_at s place).due_resps some
            in (λ came. absurd (omega arith), λ all. absurd (apart (omega arith)))
      ]
      in record {
        issued = read-shown place item at directed;
        responses = ap (λ (a : AnswerView). a.resps) noted ∙ ap (λ (rs : List Resp). rs ++ x.1.resp ∷ []) note.responses ∙ sym (map-append (λ (r : RBeat). r.resp) (of_key number_of_read_data item.txn.number trail.r) (x.1 ∷ [])) ∙ sym (ap (map (λ (r : RBeat). r.resp)) after);
        bytes = ap (λ (a : AnswerView). a.bytes) noted ∙ ap (λ (bs : List ℕ). bs ++ bytes_on_valid_lanes s.bus item.txn.request (length (note_at s place).resps) x.1.lanes) note.bytes ∙ sym pushed;
        answered = ends (is_last (note_at s place)) refl;
      }

  -- a read whose data isn't taken
  read-waits : (place : ℕ) (item : ScriptItem) → IsAt s place item → item.txn.write ≡ false → ((x : Entry × RBeat) → manager_r links s ≡ Some x → place ≢ x.0.place) → IsReadNote schedule (manager_next (suc rounds) links s) (manager_trail links s trail) place item
  read-waits place item at directed apart =
      let of_way : (n : ℕ) × (slice_get (of_direction false s.script) n ≡ Some (place, item)) = direction-of false s.script place item at directed
      in let not_taken : (e : Entry) → taken_of links s false ≡ Some e → place ≢ e.place = λ e taken here.
      let x : (x : Entry × RBeat) × (manager_r links s ≡ Some x) × (x.0 ≡ e) = mapped links s (manager_r links s) e taken
      in apart x.0 x.1 (here ∙ ap (λ (entry : Entry). entry.place) (sym x.2))
      in let same = stays-same links s keeps.is_manager keeps.in_order.waiting (suc rounds) (omega arith) false of_way.0 (place, item) of_way.1 not_taken
      in let note = keeps.passed.read_notes place item at directed
      in let others : of_key number_of_read_data item.txn.number (manager_trail links s trail).r ≡ of_key number_of_read_data item.txn.number trail.r =
      ap (of_key number_of_read_data item.txn.number) (r-after schedule now rounds links s trail keeps answers)
      ∙ own-other number_of_read_data item.txn.number trail.r (manager_r links s) (λ x taken own.
      let number = r-number schedule now rounds links s trail keeps answers x taken
      in apart x taken (number-once s.script keeps.scheduled.numbered place x.0.place item number.0 at number.1 (sym own ∙ number.2)))
      in record {
        issued = read-shown place item at directed;
        responses = same.0 ∙ note.responses ∙ ap (map (λ (r : RBeat). r.resp)) (sym others);
        bytes = same.1 ∙ note.bytes ∙ ap (λ (rs : List RBeat). bytes_on rs (schedule.reads item.txn.number).lanes) (sym others);
        answered = (λ some. ap length others ∙ note.answered.0 (subst (λ (n : ℕ). 0 < n) same.2 some), λ whole. subst (λ (n : ℕ). 0 < n) (sym same.2) (note.answered.1 (sym (ap length others) ∙ whole)));
      }

  read-note : (place : ℕ) (item : ScriptItem) → IsAt s place item → item.txn.write ≡ false → IsReadNote schedule (manager_next (suc rounds) links s) (manager_trail links s trail) place item
  read-note place item at directed = elim (hits (λ (x : Entry × RBeat). x.0.place) (manager_r links s) place) [
    | inl x ↦ read-came place item at directed x.0 x.1 x.2
    | inr apart ↦ read-waits place item at directed apart
  ]

  passes : HasPassed schedule (manager_next (suc rounds) links s) (manager_trail links s trail)
  passes = record {
    aw = aw-after schedule now rounds links s trail keeps answers;
    w = w-after schedule now rounds links s trail keeps answers;
    ar = ar-after schedule now rounds links s trail keeps answers;
    write_entries = write-entries-after schedule now rounds links s trail keeps answers;
    read_entries = read-entries-after schedule now rounds links s trail keeps answers;
    writes_in_order = answers.answers_in_order_of_id;
    reads_in_order = answers.reads_in_order_of_id;
    write_notes = write-note;
    read_notes = read-note;
  }

-- it holds after one more round
pub manager-steps : StandingLasts
manager-steps schedule now rounds links s trail keeps answers = record {
  is_manager = stays schedule now rounds links s trail keeps answers;
  scheduled = keeps.scheduled;
  in_order = order-stays rounds links s keeps.is_manager keeps.in_order;
  passed = passes schedule now rounds links s trail keeps answers;
}

none-contained : {X : Type 0} (x : X) → Contains [] x → ⊥
none-contained x has = absurd (omega (arith, has.1))

-- it holds of a manager that has issued nothing
pub manager-opens : StandingOpens
manager-opens schedule script lower bus paces is wide words scheduled =
    let unissued : (place : ℕ) → (note_at (new_manager script lower bus paces) place).issued ≡ 0 = λ place. new-note (λ a. a.issued ≡ 0) script place (λ resps bytes. refl)
    in let none : (place : ℕ) → (note_at (new_manager script lower bus paces) place).answered ≡ 0 = λ place. new-note (λ a. a.answered ≡ 0) script place (λ resps bytes. refl)
    in let no_resps : (place : ℕ) → (note_at (new_manager script lower bus paces) place).resps ≡ [] = λ place. new-note (λ a. a.resps ≡ []) script place (λ resps bytes. refl)
    in let no_bytes : (place : ℕ) → (note_at (new_manager script lower bus paces) place).bytes ≡ [] = λ place. new-note (λ a. a.bytes ≡ []) script place (λ resps bytes. refl)
    in record {
      is_manager = manager-begins script lower bus paces is wide words;
      scheduled = scheduled;
      in_order = order-begins script lower bus paces;
      passed = record {
        aw = refl;
        w = sym (none-sent (slice_get (script_writes script) 0));
        ar = refl;
        write_entries = refl;
        read_entries = refl;
        writes_in_order = λ id. prefix_nil [];
        reads_in_order = λ id. prefix_nil [];
        write_notes = λ place item at directed. record {
          issued = (λ some. absurd (omega (arith, unissued place)), λ has. absurd (none-contained item.txn.number has));
          responses = no_resps place;
          bytes = no_bytes place;
          answered = (λ some. absurd (omega (arith, none place)), λ one. absurd (omega (arith, one)));
        };
        read_notes = λ place item at directed. record {
          issued = (λ some. absurd (omega (arith, unissued place)), λ has. absurd (none-contained item.txn.number has));
          responses = no_resps place;
          bytes = no_bytes place;
          answered = (λ some. absurd (omega (arith, none place)), λ one. absurd (omega (arith, one)));
        };
      };
    }
  where
    none-sent : (o : Option (ℕ × ScriptItem)) → first_data bus 0 o ≡ []
    none-sent None = refl
    none-sent (Some p) = refl
