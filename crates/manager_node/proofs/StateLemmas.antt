-- The laws of the manager's table.
use Rattle.std.proofs.Common.{◌≡◌, ◌≢◌, ℕ, ◌+◌, ◌<◌, ◌≤◌, ◌==◌, ◌&&◌, suc, Bool, true, false, cond, List, [], ◌∷◌, ◌++◌, Option, Some, None, length, map, drop, get_or, refl, sym, ◌∙◌, ap, subst, inl, inr, arith, add-zero, zero-add, length-append}
use Rattle.std.specs.List.{enumerate_from}
use Rattle.std.specs.Prelude.{All, IfSome, count_by, filter, find, is_some, nat_lt, not, slice_get}
use Rattle.std.specs.Option.{option_map}
use Rattle.std.proofs.lemmas.Bool.{cases_order, eqb-false, eqb-true, ltb-true, and_parts, not-true}
use Rattle.std.proofs.lemmas.List.Elements.{All-cons, All-map, All-filter, All-weaker, filter_passes}
use Rattle.std.proofs.lemmas.List.FromFn.{length-enumerate_from, get_or-enumerate_from}
use Rattle.std.proofs.lemmas.List.Sums.{sum_by-le}
use Rattle.std.proofs.lemmas.List.{get_or-map, get_or_default, length-map}
use Rattle.std.proofs.lemmas.Option.{slice_get_within, slice_get-get_or}
use Rattle.axi_beats.specs.declared.beat.BBeat.{BBeat}
use Rattle.axi_beats.specs.declared.beat.RBeat.{RBeat}
use Rattle.axi_beats.specs.Bus.{IsBusWidth}
use Rattle.axi_link.specs.LinkView.{LinkView}
use Rattle.burst_address.specs.Bytes.{bytes_before}
use Rattle.burst_address.specs.Legal.{IsLegal}
use Rattle.manager_node.specs.Answer.{AnswerView, answered_in, awaited_of, is_last, unanswered}
use Rattle.manager_node.specs.Beats.{data_beat, bytes_on_valid_lanes, item_request}
use Rattle.manager_node.specs.ManagerLaws.{DoneIsAnswered}
use Rattle.manager_node.specs.ManagerState.{ManagerState, answered_one, is_answered, IsManager, IsDue, AreWaiting, AreDistinct, waiting_places, new_manager, script_writes, script_reads, due_bytes, due_resps}
use Rattle.manager_node.specs.ManagerTable.{below, answering, left_waiting, with_issued, more, note_write, note_read, note_issue, ready, beats_after, ending, ends_data, read_in, manager_aw, manager_w, manager_ar, manager_b, manager_r, manager_r_last, manager_rows, manager_next, manager_out}
use Rattle.manager_node.specs.Script.{IsScript, ScriptItem}
use Rattle.node_core.specs.declared.paces.EachRow.{EachRow}
use Rattle.node_core.specs.declared.paces.Paces.{Paces}
use Rattle.manager_node.specs.declared.entry.Entry.{Entry}
use Rattle.manager_node.proofs.DueLemmas.{answered-now, last-answers, read-is, read-more, write-last}
use Rattle.manager_node.proofs.IssueLemmas.{issues-begin, issues-stay}
use Rattle.manager_node.proofs.NoteLemmas.{ending-same}
use Rattle.manager_node.proofs.RowLemmas.{ar-fits, ar-next, aw-fits, aw-next, b-found, r-found, w-issued, w-next}
use Rattle.manager_node.proofs.WaitingLemmas.{All-oldest, AreKept, kept-turned, kept-answered, kept-came, kept-issued, waiting-issued, waiting-next}
use Rattle.plain_lists.specs.Keys.{without_oldest}
use Rattle.plain_lists.proofs.PlaceLemmas.{all-counted}
use Rattle.plain_lists.proofs.PartLemmas.{All-middle}
use Rattle.node_core.specs.Fits.{MovesFit, PutFits, TakeFits}
use Rattle.axi_link.specs.LinkWords.{link_of, head_of, has_room}
use Rattle.node_core.specs.Rows.{beat_where, fits, put_of, take_of}

-- B in a round
kept-b : (script : List ScriptItem) (size round : ℕ) (answers : List AnswerView) (answered : ℕ) (entries : List Entry) (others own : List ℕ) (o : Option (Entry × BBeat)) → 0 < round → ((a : Entry × BBeat) → o ≡ Some a → find (λ (entry : Entry). entry.id == a.0.id) entries ≡ Some a.0) → AreKept script true false size answers answered (map (λ (entry : Entry). entry.place) entries ++ own) others → AreKept script true false size (note_write round o answers) (answered + more (is_some o)) (map (λ (entry : Entry). entry.place) (left_waiting o entries) ++ own) others
kept-b script size round answers answered entries others own None counts found kept = rw add-zero kept
kept-b script size round answers answered entries others own (Some a) counts found kept =
    let due = All-oldest (λ p. IsDue script true p (get_or answers p (unanswered 0))) a.0.id entries own a.0 (found a refl) kept.own_waiting.due
    in let now = answered-now (answered_in round a.1.resp [] (get_or answers a.0.place (unanswered 0))) round counts (last-answers round a.1.resp [] (get_or answers a.0.place (unanswered 0)) (write-last script a.0.place (get_or answers a.0.place (unanswered 0)) due))
    in kept-answered script true false size (answered_in round a.1.resp []) answers answered entries own others a.0 (λ same. absurd (cc)) now (found a refl) kept

-- R in a round
kept-r : (script : List ScriptItem) (size round bus : ℕ) (answers : List AnswerView) (answered : ℕ) (entries : List Entry) (others own : List ℕ) (o : Option (Entry × RBeat)) → 0 < round → IsBusWidth bus → All (λ (item : ScriptItem). IsLegal item.txn.request bus) script → ((a : Entry × RBeat) → o ≡ Some a → find (λ (entry : Entry). entry.id == a.0.id) entries ≡ Some a.0) → AreKept script false true size answers answered (map (λ (entry : Entry). entry.place) entries ++ own) others → AreKept script false true size (note_read round bus script o answers) (answered + more (is_some (ending answers o))) (map (λ (entry : Entry). entry.place) (left_waiting (ending answers o) entries) ++ own) others
kept-r script size round bus answers answered entries others own None counts wide legal found kept = rw add-zero kept
kept-r script size round bus answers answered entries others own (Some a) counts wide legal found kept =
    let note : AnswerView = get_or answers a.0.place (unanswered 0)
    in let due : IsDue script false a.0.place note = All-oldest (λ p. IsDue script false p (get_or answers p (unanswered 0))) a.0.id entries own a.0 (found a refl) kept.own_waiting.due
    in let go : (b : Bool) → is_last (get_or answers a.0.place (unanswered 0)) ≡ b → AreKept script false true size (note_read round bus script (Some a) answers) (answered + more (is_some (beat_where b (Some a)))) (map (λ (entry : Entry). entry.place) (left_waiting (beat_where b (Some a)) entries) ++ own) others =
    elim [
      | true ↦ λ last.
          let is = read-is script a.0.place round bus a.1 note due.item due.at
          in let now = answered-now (read_in round bus (slice_get script a.0.place) a.1 note) round counts (ap (λ (b : AnswerView). b.answered) is ∙ last-answers round a.1.resp (bytes_on_valid_lanes bus due.item.txn.request (length note.resps) a.1.lanes) note last)
          in kept-answered script false true size (read_in round bus (slice_get script a.0.place) a.1) answers answered entries own others a.0 (λ same. absurd (cc)) now (found a refl) kept
      | false ↦ λ some.
          rw add-zero (kept-came script false true size (read_in round bus (slice_get script a.0.place) a.1) answers answered entries own others a.0 (λ same. absurd (cc)) (read-more script a.0.place round bus a.1 note wide legal some due) (found a refl) kept)
    ]
    in go (is_last (get_or answers a.0.place (unanswered 0))) refl

-- AW or AR in a round
kept-a : (script : List ScriptItem) (n m : Bool) (size round : ℕ) (answers : List AnswerView) (answered : ℕ) (entries : List Entry) (issued : ℕ) (transactions : List (ℕ × ScriptItem)) (others : List ℕ) (o : Option (ℕ × ScriptItem)) → ((next : ℕ × ScriptItem) → o ≡ Some next → slice_get transactions issued ≡ Some next) → AreKept script n m size answers answered (waiting_places entries issued transactions) others → AreKept script n m size (note_issue round o answers) answered (waiting_places (with_issued o entries) (issued + more (is_some o)) transactions) others
kept-a script n m size round answers answered entries issued transactions others None next kept = rw add-zero kept
kept-a script n m size round answers answered entries issued transactions others (Some x) next kept =
    let is = next x refl
    in let within = All-middle (λ p. p < length answers) (map (λ (entry : Entry). entry.place) entries) x.0 (map (λ (p : ℕ × ScriptItem). p.0) (drop (issued + 1) transactions)) (subst (All (λ p. p < length answers)) (waiting-next entries issued transactions x is) kept.own_waiting.within)
    in subst (λ (places : List ℕ). AreKept script n m size (note_issue round (Some x) answers) answered places others) (sym (waiting-issued entries issued transactions x is))
    (kept-issued script n m size round x.0 answers answered (waiting_places entries issued transactions) others within kept)

-- no more is issued than there is
issued-most : (issued : ℕ) (transactions : List (ℕ × ScriptItem)) (o : Option (ℕ × ScriptItem)) → ((next : ℕ × ScriptItem) → o ≡ Some next → slice_get transactions issued ≡ Some next) → issued ≤ length transactions → issued + more (is_some o) ≤ length transactions
issued-most issued transactions None next most = rw add-zero most
issued-most issued transactions (Some x) next most = let within = slice_get_within transactions issued x (next x refl) in omega arith

-- no more data is sent than writes are issued
sent-most : (sent issued more_issued beats : ℕ) (o : Option (ℕ × ScriptItem)) → ((next : ℕ × ScriptItem) → o ≡ Some next → sent < issued) → sent ≤ issued → sent + more (ends_data beats o) ≤ issued + more_issued
sent-most sent issued more_issued beats None next most = omega arith
sent-most sent issued more_issued beats (Some x) next most =
    let within = next x refl
    in let go : (b : Bool) → sent + more b ≤ issued + more_issued = elim [ true ↦ omega arith | false ↦ omega arith ]
    in go (beats == x.1.txn.request.len)

-- a write of which no beat is sent yet has one to send
none-sent : (o : Option (ℕ × ScriptItem)) → IfSome o (λ (next : ℕ × ScriptItem). 0 ≤ next.1.txn.request.len)
none-sent None = tt
none-sent (Some p) = omega arith

-- no more of a write's data beats are sent than it has
beats-most : (sent beats : ℕ) (transactions : List (ℕ × ScriptItem)) (o : Option (ℕ × ScriptItem)) → ((next : ℕ × ScriptItem) → o ≡ Some next → slice_get transactions sent ≡ Some next) →
    IfSome (slice_get transactions sent) (λ (next : ℕ × ScriptItem). beats ≤ next.1.txn.request.len) → IfSome (slice_get transactions (sent + more (ends_data beats o))) (λ (next : ℕ × ScriptItem). beats_after beats o ≤ next.1.txn.request.len)
beats-most sent beats transactions None next most = rw add-zero most
beats-most sent beats transactions (Some x) next most =
    let at = next x refl
    in let own : beats ≤ x.1.txn.request.len = subst (λ (o : Option (ℕ × ScriptItem)). IfSome o (λ (next : ℕ × ScriptItem). beats ≤ next.1.txn.request.len)) at most
    in let go : (b : Bool) → (beats == x.1.txn.request.len) ≡ b → IfSome (slice_get transactions (sent + more b)) (λ (next : ℕ × ScriptItem). cond b 0 (beats + 1) ≤ next.1.txn.request.len) =
    elim [
      | true ↦ λ last. none-sent (slice_get transactions (sent + 1))
      | false ↦ λ some.
          rw add-zero (subst (λ (o : Option (ℕ × ScriptItem)). IfSome o (λ (next : ℕ × ScriptItem). beats + 1 ≤ next.1.txn.request.len)) (sym at) (one-more beats x.1.txn.request.len own (eqb-false beats x.1.txn.request.len some)))
    ]
    in go (beats == x.1.txn.request.len) refl
  where
    one-more : (k len : ℕ) → k ≤ len → k ≢ len → k + 1 ≤ len
    one-more k len le apart = elim (cases_order k len) [ inl same ↦ absurd (apart same) | inr other ↦ elim other [ inl less ↦ omega arith | inr above ↦ absurd (omega arith) ] ]

left-most : (id : ℕ) (entries : List Entry) → length (without_oldest (λ (entry : Entry). entry.id) id entries) ≤ length entries
left-most id [] = omega arith
left-most id (x ∷ xs) =
    let go : (same : Bool) → length (cond same xs (x ∷ without_oldest (λ (entry : Entry). entry.id) id xs)) ≤ suc (length xs) =
    elim [ true ↦ omega arith | false ↦ omega (arith, left-most id xs) ]
    in go (x.id == id)

module _ {X : Type 0} where
  pub waiting-most : (entries : List Entry) (o : Option (Entry × X)) → length (left_waiting o entries) ≤ length entries
  waiting-most entries None = omega arith
  waiting-most entries (Some a) = left-most a.0.id entries

  -- no more than 16 wait
  fit-most : (entries : List Entry) (o : Option (ℕ × ScriptItem)) (gone : Option (Entry × X)) → ((next : ℕ × ScriptItem) → o ≡ Some next → length entries < 16) → length entries ≤ 16 → length (with_issued o (left_waiting gone entries)) ≤ 16
  fit-most entries None gone fit most = omega (arith, waiting-most entries gone)
  fit-most entries (Some x) gone fit most =
      let less = fit x refl
      in let one = length-append (left_waiting gone entries) (record { place = x.0; id = x.1.txn.request.id } ∷ [])
      in omega (arith, waiting-most entries gone, one)

module _ (links : List LinkView) (s : ManagerState) where
  at-start : IsManager s → AreKept s.script true false (length s.script) s.answers s.answered (waiting_places s.write_entries s.issued_writes (script_writes s.script)) (waiting_places s.read_entries s.issued_reads (script_reads s.script))
  at-start is = record { own_waiting = is.writes_waiting; other_waiting = is.reads_waiting; counted = is.counted; one_each = is.one_each }

  -- the answers and those that wait after B
  pub after-b : (round : ℕ) → 0 < round → IsManager s → AreKept s.script true false (length s.script) (note_write round (manager_b links s) s.answers) (s.answered + more (is_some (manager_b links s))) (waiting_places (left_waiting (manager_b links s) s.write_entries) s.issued_writes (script_writes s.script)) (waiting_places s.read_entries s.issued_reads (script_reads s.script))
  after-b round counts is = kept-b s.script (length s.script) round s.answers s.answered s.write_entries _ _ (manager_b links s) counts (b-found links s) (at-start is)

  -- the answers and those that wait after B and R
  pub after-r : (round : ℕ) → 0 < round → IsManager s → AreKept s.script false true (length s.script) (note_read round s.bus s.script (manager_r links s) (note_write round (manager_b links s) s.answers)) (s.answered + more (is_some (manager_b links s)) + more (is_some (manager_r_last links s))) (waiting_places (left_waiting (manager_r_last links s) s.read_entries) s.issued_reads (script_reads s.script)) (waiting_places (left_waiting (manager_b links s) s.write_entries) s.issued_writes (script_writes s.script))
  after-r round counts is =
      subst (λ (o : Option (Entry × RBeat)). AreKept s.script false true (length s.script) (note_read round s.bus s.script (manager_r links s) (note_write round (manager_b links s) s.answers)) (s.answered + more (is_some (manager_b links s)) + more (is_some o)) (waiting_places (left_waiting o s.read_entries) s.issued_reads (script_reads s.script)) (waiting_places (left_waiting (manager_b links s) s.write_entries) s.issued_writes (script_writes s.script)))
      (ending-same links s is round)
      (kept-r s.script (length s.script) round s.bus _ _ s.read_entries _ _ (manager_r links s) counts is.bus_width is.legal (r-found links s) (kept-turned s.script true false (length s.script) _ _ _ _ (after-b round counts is)))

  -- what holds of a manager holds after a round
  pub manager-stays : (round : ℕ) → 0 < round → IsManager s → IsManager (manager_next round links s)
  manager-stays round counts is =
      let after_aw = kept-a s.script true false (length s.script) round _ _ (left_waiting (manager_b links s) s.write_entries) s.issued_writes (script_writes s.script) _ (manager_aw links s) (aw-next links s) (kept-turned s.script false true (length s.script) _ _ _ _ (after-r round counts is))
      in let after_ar = kept-a s.script false true (length s.script) round _ _ (left_waiting (manager_r_last links s) s.read_entries) s.issued_reads (script_reads s.script) _ (manager_ar links s) (ar-next links s) (kept-turned s.script true false (length s.script) _ _ _ _ after_aw)
      in record {
        is_script = is.is_script;
        bus_width = is.bus_width;
        legal = is.legal;
        writes_issued = issued-most s.issued_writes (script_writes s.script) (manager_aw links s) (aw-next links s) is.writes_issued;
        reads_issued = issued-most s.issued_reads (script_reads s.script) (manager_ar links s) (ar-next links s) is.reads_issued;
        writes_sent = sent-most s.sent_writes s.issued_writes (more (is_some (manager_aw links s))) s.sent_beats (manager_w links s) (w-issued links s) is.writes_sent;
        beats_sent = beats-most s.sent_writes s.sent_beats (script_writes s.script) (manager_w links s) (w-next links s) is.beats_sent;
        writes_fit = fit-most s.write_entries (manager_aw links s) (manager_b links s) (aw-fits links s) is.writes_fit;
        reads_fit = fit-most s.read_entries (manager_ar links s) (manager_r_last links s) (ar-fits links s) is.reads_fit;
        one_each = after_ar.one_each;
        writes_waiting = after_ar.other_waiting;
        reads_waiting = after_ar.own_waiting;
        counted = after_ar.counted;
        issues = issues-stay links s round counts is;
      }

module _ {X : Type 0} where
  -- numbered items have numbers from the first one on
  numbers-from : (n m : ℕ) (xs : List X) → m ≤ n → All (λ (p : ℕ × X). m ≤ p.0) (enumerate_from n xs)
  numbers-from n m [] le = λ k d lt. absurd (omega arith)
  numbers-from n m (x ∷ xs) le = All-cons (λ (p : ℕ × X). m ≤ p.0) (n, x) (enumerate_from (n + 1) xs) le (numbers-from (n + 1) m xs (omega arith))

  -- some of the numbered items have other numbers than one another
  numbers-distinct : (test : ℕ × X → Bool) (n : ℕ) (xs : List X) → AreDistinct (map (λ (p : ℕ × X). p.0) (filter test (enumerate_from n xs)))
  numbers-distinct test n [] = tt
  numbers-distinct test n (x ∷ xs) =
      let go : (b : Bool) → AreDistinct (map (λ (p : ℕ × X). p.0) (cond b ((n, x) ∷ filter test (enumerate_from (n + 1) xs)) (filter test (enumerate_from (n + 1) xs)))) =
      elim [
        | true ↦ (All-map (λ other. other ≢ n) (λ (p : ℕ × X). p.0) (filter test (enumerate_from (n + 1) xs)) (All-filter test (λ (p : ℕ × X). p.0 ≢ n) (enumerate_from (n + 1) xs) (All-weaker (λ (p : ℕ × X). suc n ≤ p.0) (λ (p : ℕ × X). p.0 ≢ n) (λ p le same. absurd (omega arith)) (enumerate_from (n + 1) xs) (numbers-from (n + 1) (suc n) xs (omega arith)))), numbers-distinct test (n + 1) xs)
        | false ↦ numbers-distinct test (n + 1) xs
      ]
      in go (test (n, x))

  -- a numbered item is the one at its number
  pub numbered-at : (xs : List X) → All (λ (p : ℕ × X). (p.0 < length xs) × ((d : X) → get_or xs p.0 d ≡ p.1)) (enumerate_from 0 xs)
  numbered-at xs = λ k d lt.
      let within : k < length xs = subst (λ (size : ℕ). k < size) (length-enumerate_from 0 xs) lt
      in let at : (0 + k < length xs) × ((e : X) → get_or xs (0 + k) e ≡ get_or xs k d.1) = rw zero-add (within, λ e. get_or_default xs k e d.1 within)
      in subst (λ (p : ℕ × X). (p.0 < length xs) × ((e : X) → get_or xs p.0 e ≡ p.1)) (sym (get_or-enumerate_from 0 xs k d within)) at

-- the note of a transaction of which nothing came
abbrev new-answer : ScriptItem → AnswerView
new-answer item = awaited_of (due_resps item.txn) (due_bytes item.txn)

-- nothing came of a transaction of a script
none-came-at : (write : Bool) (script : List ScriptItem) (p : ℕ × ScriptItem) → (p.0 < length script) × ((d : ScriptItem) → get_or script p.0 d ≡ p.1) → p.1.txn.write ≡ write → IsDue script write p.0 (get_or (map new-answer script) p.0 (unanswered 0))
none-came-at write script p at directed =
    let one : (w : Bool) (len : ℕ) → 0 < cond w 1 (len + 1) = elim [ true ↦ λ len. omega arith | false ↦ λ len. omega arith ]
    in let none : (w : Bool) (n : ℕ) → 0 ≤ cond w 0 n = λ w n. omega arith
    in subst (IsDue script write p.0) (sym (get_or-map new-answer script p.0 p.1 (unanswered 0) at.0 ∙ ap new-answer (at.1 p.1)))
    (record {
      item = p.1;
      at = slice_get-get_or script p.0 p.1 at.0 ∙ ap (λ (item : ScriptItem). Some item) (at.1 p.1);
      direction = directed;
      answered = refl;
      more = one p.1.txn.write p.1.txn.request.len;
      bytes = none p.1.txn.write (length (bytes_before p.1.txn.request 0));
      due_resps = refl;
      due_bytes = refl;
    })

-- the transactions of one direction wait
waits-first : (write : Bool) (test : ℕ × ScriptItem → Bool) (script : List ScriptItem) → ((p : ℕ × ScriptItem) → test p ≡ true → p.1.txn.write ≡ write) → AreWaiting script write (map new-answer script) (waiting_places [] 0 (filter test (enumerate_from 0 script)))
waits-first write test script directed =
    let numbered = All-filter test (λ (p : ℕ × ScriptItem). (p.0 < length script) × ((d : ScriptItem) → get_or script p.0 d ≡ p.1)) (enumerate_from 0 script) (numbered-at script)
    in let passed = filter_passes test (enumerate_from 0 script)
    in record {
      within = All-map (λ place. place < length (map new-answer script)) (λ (p : ℕ × ScriptItem). p.0) (filter test (enumerate_from 0 script)) (λ k d lt. rw length-map (numbered k d lt).0);
      due = All-map (λ place. IsDue script write place (get_or (map new-answer script) place (unanswered 0))) (λ (p : ℕ × ScriptItem). p.0) (filter test (enumerate_from 0 script)) (λ k d lt. none-came-at write script _ (numbered k d lt) (directed _ (passed k d lt)));
      distinct = numbers-distinct test 0 script;
    }

-- what holds of a manager holds of one that has issued nothing
pub manager-begins : (script : List ScriptItem) (lower bus : ℕ) (paces : Paces) → IsScript script → IsBusWidth bus → All (λ (item : ScriptItem). IsLegal item.txn.request bus) script →
    IsManager (new_manager script lower bus paces)
manager-begins script lower bus paces is_script wide legal = record {
  is_script = is_script;
  bus_width = wide;
  legal = legal;
  writes_issued = omega arith;
  reads_issued = omega arith;
  writes_sent = omega arith;
  beats_sent = none-sent (slice_get (script_writes script) 0);
  writes_fit = omega arith;
  reads_fit = omega arith;
  one_each = length-map script new-answer;
  writes_waiting = waits-first true (λ (p : ℕ × ScriptItem). p.1.txn.write) script (λ p write. write);
  reads_waiting = waits-first false (λ (p : ℕ × ScriptItem). not p.1.txn.write) script (λ p read. not-true p.1.txn.write read);
  counted =
      let none = sum_by-le (λ (a : AnswerView). cond (is_answered a) 1 0) 0 (map new-answer script) (All-map (λ (a : AnswerView). cond (is_answered a) 1 0 ≤ 0) new-answer script (λ k d lt. omega arith))
      in omega arith;
  issues = issues-begin script lower bus paces;
}

module _ (links : List LinkView) (number : ℕ) where
  module _ {X : Type 0} (queue_of : LinkView → List X) where
    take-fits : (b : Bool) → (b ≡ true → 0 < length (queue_of (link_of links number))) → TakeFits queue_of links (take_of number b)
    take-fits true head = head refl
    take-fits false head = tt

    put-fits : (o : Option X) → (is_some o ≡ true → length (queue_of (link_of links number)) < (link_of links number).depth) → PutFits queue_of links (put_of number o)
    put-fits None room = tt
    put-fits (Some x) room = room refl

    answering-head : (done : Bool) (id_of : X → ℕ) (entries : List Entry) (queue : List X) → is_some (beat_where done (answering id_of entries (head_of queue))) ≡ true → 0 < length queue
    answering-head false id_of entries queue none = absurd (cc)
    answering-head true id_of entries [] none = absurd (cc)
    answering-head true id_of entries (x ∷ xs) some = omega arith

    beat_where-room : {Y : Type 0} (done : Bool) (f : Y → X) (other : Bool) (o : Option Y) (depth : ℕ) (queue : List X) → is_some (option_map f (beat_where done (beat_where (other && has_room depth queue) o))) ≡ true → length queue < depth
    beat_where-room false f other o depth queue some = absurd (cc)
    beat_where-room {Y} true f other o depth queue some =
        let go : (b : Bool) → (other && has_room depth queue) ≡ b → is_some (option_map f (beat_where b o)) ≡ true → length queue < depth =
        elim [
          | true ↦ λ both is. ltb-true (length queue) depth (and_parts other (has_room depth queue) both).1
          | false ↦ λ both is. absurd (cc)
        ]
        in go (other && has_room depth queue) refl some

-- the manager takes only where there is a head, and puts only where there is room
pub manager_fits : (links : List LinkView) (s : ManagerState) → MovesFit links (manager_out links s)
manager_fits links s =
    let link : LinkView = below links s in
    let rows : EachRow = manager_rows links s in
    record {
      aw_take = tt;
      aw_put = put-fits links s.lower (λ l. l.aw) (option_map (λ next. item_request next.1) (manager_aw links s)) (beat_where-room links s.lower (λ l. l.aw) rows.aw (λ next. item_request next.1) (fits s.write_entries) (ready s.answered (slice_get (script_writes s.script) s.issued_writes)) link.depth link.aw);
      w_take = tt;
      w_put = put-fits links s.lower (λ l. l.w) (option_map (λ next. data_beat next.1 s.bus s.sent_beats) (manager_w links s)) (beat_where-room links s.lower (λ l. l.w) rows.w (λ next. data_beat next.1 s.bus s.sent_beats) (nat_lt s.sent_writes s.issued_writes) (slice_get (script_writes s.script) s.sent_writes) link.depth link.w);
      b_take = take-fits links s.lower (λ l. l.b) (is_some (manager_b links s)) (answering-head links s.lower (λ l. l.b) rows.b (λ beat. beat.id) s.write_entries link.b);
      b_put = tt;
      ar_take = tt;
      ar_put = put-fits links s.lower (λ l. l.ar) (option_map (λ next. item_request next.1) (manager_ar links s)) (beat_where-room links s.lower (λ l. l.ar) rows.ar (λ next. item_request next.1) (fits s.read_entries) (ready s.answered (slice_get (script_reads s.script) s.issued_reads)) link.depth link.ar);
      r_take = take-fits links s.lower (λ l. l.r) (is_some (manager_r links s)) (answering-head links s.lower (λ l. l.r) rows.r (λ beat. beat.id) s.read_entries link.r);
      r_put = tt;
    }

-- a manager that is done has an answer to each transaction
pub manager-done : DoneIsAnswered
manager-done s is done n within =
    let whole : s.answered ≡ length s.script = eqb-true s.answered (length s.script) done
    in let all : count_by is_answered s.answers ≡ length s.answers = sym is.counted ∙ whole ∙ sym is.one_each
    in let at = slice_get-get_or s.answers n (unanswered 0) (subst (λ (size : ℕ). n < size) (sym is.one_each) within)
    in let came = all-counted is_answered s.answers n (get_or s.answers n (unanswered 0)) all at
    in ap (λ (o : Option AnswerView). is_some (answered_one o)) at ∙ ap (λ (b : Bool). is_some (cond b (Some (get_or s.answers n (unanswered 0))) None)) came
