-- A round's steps in terms of the manager's table.
use Rattle.std.proofs.Common.{◌≡◌, ◌≢◌, ℕ, ◌+◌, ◌^◌, ◌<◌, ◌≤◌, ◌==◌, ◌&&◌, suc, inl, inr, cond, Bool, true, false, List, Option, Some, None, length, map, get_or, refl, sym, ◌∙◌, ap, subst, arith}
use Rattle.std.specs.List.{enumerate_from}
use Rattle.std.specs.Option.{option_map}
use Rattle.std.specs.Prelude.{All, IfSome, IsSome, is_some, nat_lt, slice_get, unwrap_or}
use Rattle.std.proofs.lemmas.Bool.{cases_order, eqb-false}
use Rattle.std.proofs.lemmas.List.{length-map}
use Rattle.std.proofs.lemmas.List.Elements.{All-filter, All-map}
use Rattle.std.proofs.lemmas.List.FromFn.{length-enumerate_from}
use Rattle.std.proofs.lemmas.List.Sums.{count_by-le-length}
use Rattle.std.proofs.lemmas.Option.{slice_get-get_or, slice_get-map, slice_get_within, get_or_from_slice_get}
use mir.Val.{bool_byte}
use Rattle.axi_beats.specs.declared.beat.Addr.{Addr}
use Rattle.axi_beats.specs.declared.beat.WBeat.{WBeat}
use Rattle.axi_beats.specs.declared.beat.BBeat.{BBeat}
use Rattle.axi_beats.specs.declared.beat.RBeat.{RBeat}
use Rattle.axi_link.specs.declared.out.Out.{Out}
use Rattle.axi_link.specs.LinkView.{LinkView}
use Rattle.burst_address.specs.Bytes.{beat_bytes, bytes_before}
use Rattle.manager_node.specs.Answer.{AnswerView, is_last, unanswered}
use Rattle.manager_node.specs.ManagerInside.{IsPossible, IsWithin, sent_after, wishes_of}
use Rattle.manager_node.specs.ManagerState.{ManagerState, IsDue, IsManager, is_answered, is_directed, of_direction, script_writes, script_reads}
use Rattle.manager_node.specs.ManagerTable.{answering, beats_after, below, ending, ends_data, ready, more, left_waiting, note_write, note_read, manager_aw, manager_w, manager_ar, manager_b, manager_r, manager_r_last, manager_rows, manager_wishes, possible_aw, possible_ar, possible_b, possible_r, possible_w}
use Rattle.manager_node.specs.Placed.{placed}
use Rattle.manager_node.specs.Script.{ScriptItem}
use Rattle.manager_node.specs.declared.entry.Entry.{Entry}
use Rattle.manager_node.specs.declared.manager.Possible.{Possible}
use Rattle.manager_node.specs.declared.sending.Sending.{Sending}
use Rattle.node_core.specs.Paces.{paces_after, rows_let}
use Rattle.node_core.specs.declared.paces.EachRow.{EachRow}
use Rattle.node_core.specs.declared.paces.Paces.{Paces}
use Rattle.node_core.proofs.RowLemmas.{beat_where-has}
use Rattle.manager_node.proofs.BurstLemmas.{bytes-next}
use Rattle.manager_node.proofs.StateLemmas.{after-b, after-r, numbered-at, waiting-most}
use Rattle.manager_node.proofs.NoteLemmas.{ending-same}
use Rattle.manager_node.proofs.PlaceLemmas.{direction-at}
use Rattle.manager_node.proofs.RowLemmas.{ar-fits, ar-next, aw-fits, aw-next, w-next}
use Rattle.manager_node.proofs.ScriptLemmas.{script-short}
use Rattle.manager_node.proofs.WaitingLemmas.{All-entries}
use Rattle.plain_lists.proofs.PlaceLemmas.{item-there}
use Rattle.plain_lists.proofs.PrefixLemmas.{length-filter_le}
use Rattle.node_core.specs.Acted.{Acted}
use Rattle.axi_link.specs.LinkWords.{has_room}
use Rattle.node_core.specs.Rows.{beat_where, fits}

module _ (write : Bool) (script : List ScriptItem) (places : List ℕ) (same : places ≡ map (λ (p : ℕ × ScriptItem). p.0) (of_direction write script)) where
  numbered : All (λ (p : ℕ × ScriptItem). (p.0 < length script) × ((d : ScriptItem) → get_or script p.0 d ≡ p.1)) (of_direction write script)
  numbered = All-filter (λ (p : ℕ × ScriptItem). is_directed write p.1.txn) (λ (p : ℕ × ScriptItem). (p.0 < length script) × ((d : ScriptItem) → get_or script p.0 d ≡ p.1)) (enumerate_from 0 script) (numbered-at script)

  -- the places of a direction are places of the script
  pub places-within : All (λ place. place < length script) places
  places-within = subst (All (λ place. place < length script)) (sym same) (All-map (λ place. place < length script) (λ (p : ℕ × ScriptItem). p.0) (of_direction write script) (λ k d lt. (numbered k d lt).0))

  -- a direction's transaction by its place
  pub placed-next : (k : ℕ) → placed script (slice_get places k) ≡ slice_get (of_direction write script) k
  placed-next k =
      let go : (o : Option (ℕ × ScriptItem)) → slice_get (of_direction write script) k ≡ o → placed script (option_map (λ (p : ℕ × ScriptItem). p.0) o) ≡ o =
      elim [
        | None ↦ λ at. refl
        | Some p ↦ λ at.
            let within = slice_get_within (of_direction write script) k p at
            in let here = subst (λ (q : ℕ × ScriptItem). (q.0 < length script) × ((d : ScriptItem) → get_or script q.0 d ≡ q.1)) (get_or_from_slice_get (of_direction write script) k p p at) (numbered k p within)
            in ap (option_map (λ (item : ScriptItem). (p.0, item))) (slice_get-get_or script p.0 p.1 here.0 ∙ ap (λ (item : ScriptItem). Some item) (here.1 p.1))
      ]
      in ap (placed script) (ap (λ (ps : List ℕ). slice_get ps k) same ∙ slice_get-map (λ (p : ℕ × ScriptItem). p.0) (of_direction write script) k) ∙ go (slice_get (of_direction write script) k) refl

-- the data place at the start of the next write
pub sending-first : (script : List ScriptItem) (k n : ℕ) → IfSome (slice_get (script_writes script) k) (λ (next : ℕ × ScriptItem). IsWithin (record { writes = n; beats = 0; bytes = 0 }) next.1)
sending-first script k n =
    let go : (o : Option (ℕ × ScriptItem)) → slice_get (script_writes script) k ≡ o → IfSome o (λ (next : ℕ × ScriptItem). IsWithin (record { writes = n; beats = 0; bytes = 0 }) next.1) =
    elim [
      | None ↦ λ at. tt
      | Some p ↦ λ at. record { write = (direction-at true script k p at).1; beats = omega arith; bytes = refl }
    ]
    in go (slice_get (script_writes script) k) refl

-- and after a data beat
pub sending-next : (script : List ScriptItem) (sending : Sending) (o : Option (ℕ × ScriptItem)) → ((next : ℕ × ScriptItem) → o ≡ Some next → slice_get (script_writes script) sending.writes ≡ Some next) →
    IfSome (slice_get (script_writes script) sending.writes) (λ (next : ℕ × ScriptItem). IsWithin sending next.1) → IfSome (slice_get (script_writes script) (sent_after o sending).writes) (λ (next : ℕ × ScriptItem). IsWithin (sent_after o sending) next.1)
sending-next script sending None next within = within
sending-next script sending (Some x) next within =
    let at = next x refl
    in let own : IsWithin sending x.1 = subst (λ (o : Option (ℕ × ScriptItem)). IfSome o (λ (next : ℕ × ScriptItem). IsWithin sending next.1)) at within
    in let after : Bool → Sending = λ b. cond b (record { writes = sending.writes + 1; beats = 0; bytes = 0 }) (record { writes = sending.writes; beats = sending.beats + 1; bytes = sending.bytes + length (beat_bytes x.1.txn.request sending.beats) })
    in let go : (b : Bool) → (sending.beats == x.1.txn.request.len) ≡ b → IfSome (slice_get (script_writes script) (after b).writes) (λ (next : ℕ × ScriptItem). IsWithin (after b) next.1) =
    elim [
      | true ↦ λ last. sending-first script (sending.writes + 1) (sending.writes + 1)
      | false ↦ λ some. subst (λ (o : Option (ℕ × ScriptItem)). IfSome o (λ (next : ℕ × ScriptItem). IsWithin (after false) next.1)) (sym at) (record {
        write = own.write;
        beats = below sending.beats x.1.txn.request.len own.beats (eqb-false sending.beats x.1.txn.request.len some);
        bytes =
            let one : suc sending.beats ≡ sending.beats + 1 = omega arith
            in ap (λ (k : ℕ). k + length (beat_bytes x.1.txn.request sending.beats)) own.bytes ∙ sym (bytes-next x.1.txn.request sending.beats) ∙ ap (λ (k : ℕ). length (bytes_before x.1.txn.request k)) one;
      })
    ]
    in go (sending.beats == x.1.txn.request.len) refl
  where
    below : (k len : ℕ) → k ≤ len → k ≢ len → k + 1 ≤ len
    below k len le apart = elim (cases_order k len) [ inl same ↦ absurd (apart same) | inr other ↦ elim other [ inl less ↦ omega arith | inr above ↦ absurd (omega arith) ] ]

pub beat_where-within : (P : ℕ → Type 0) (b : Bool) (places : List ℕ) (k : ℕ) → All P places → IfSome (beat_where b (slice_get places k)) P
beat_where-within P false places k all = tt
beat_where-within P true places k all =
    let go : (o : Option ℕ) → slice_get places k ≡ o → IfSome o P =
    elim [ None ↦ λ at. tt | Some p ↦ λ at. subst P (get_or_from_slice_get places k p p at) (all k p (slice_get_within places k p at)) ]
    in go (slice_get places k) refl

placed-beat_where : (script : List ScriptItem) (b : Bool) (o : Option ℕ) → placed script (beat_where b o) ≡ beat_where b (placed script o)
placed-beat_where script true o = refl
placed-beat_where script false o = refl

pub byte-more : (b : Bool) → bool_byte b ≡ more b
byte-more true = refl
byte-more false = refl

-- an answer that is taken, by the head that is
answering-done : {X : Type 0} (id_of : X → ℕ) (entries : List Entry) (done : Bool) (head : Option X) → answering id_of entries (beat_where done head) ≡ beat_where done (answering id_of entries head)
answering-done id_of entries true head = refl
answering-done id_of entries false head = refl

-- the transaction at a place of a script is there
pub placed-some : (script : List ScriptItem) (o : Option ℕ) → IfSome o (λ place. place < length script) → is_some (placed script o) ≡ is_some o
placed-some script None within = refl
placed-some script (Some place) within =
    let at = item-there script place within in
    ap (λ (o : Option ScriptItem). is_some {T = ℕ × ScriptItem} (option_map (λ (item : ScriptItem). (place, item)) o)) at.1

pub placed-one : (script : List ScriptItem) (o : Option ℕ) → IfSome o (λ place. place < length script) → IsSome o → (p : ℕ × ScriptItem) × (placed script o ≡ Some p)
placed-one script None within some = absurd (cc)
placed-one script (Some place) within some =
    let at = item-there script place within in
    ((place, at.0), ap (option_map (λ (item : ScriptItem). (place, item))) at.1)

-- what could be done, row by row
module _ (link : LinkView) (s : ManagerState) where
  pub could-aw : (places : List ℕ) (room : Bool) (o : Option ℕ) → places ≡ map (λ (p : ℕ × ScriptItem). p.0) (script_writes s.script) → room ≡ has_room link.depth link.aw →
      placed s.script o ≡ beat_where (fits s.write_entries && room) (ready s.answered (placed s.script (slice_get places s.issued_writes))) → placed s.script o ≡ possible_aw link s
  could-aw places room o same has is =
      is ∙ ap (λ (r : Bool). beat_where (fits s.write_entries && r) (ready s.answered (placed s.script (slice_get places s.issued_writes)))) has
      ∙ ap (λ (next : Option (ℕ × ScriptItem)). beat_where (fits s.write_entries && has_room link.depth link.aw) (ready s.answered next)) (placed-next true s.script places same s.issued_writes)

  pub could-ar : (places : List ℕ) (room : Bool) (o : Option ℕ) → places ≡ map (λ (p : ℕ × ScriptItem). p.0) (script_reads s.script) → room ≡ has_room link.depth link.ar →
      placed s.script o ≡ beat_where (fits s.read_entries && room) (ready s.answered (placed s.script (slice_get places s.issued_reads))) → placed s.script o ≡ possible_ar link s
  could-ar places room o same has is =
      is ∙ ap (λ (r : Bool). beat_where (fits s.read_entries && r) (ready s.answered (placed s.script (slice_get places s.issued_reads)))) has
      ∙ ap (λ (next : Option (ℕ × ScriptItem)). beat_where (fits s.read_entries && has_room link.depth link.ar) (ready s.answered next)) (placed-next false s.script places same s.issued_reads)

  pub could-w : (places : List ℕ) (room : Bool) (o : Option ℕ) → places ≡ map (λ (p : ℕ × ScriptItem). p.0) (script_writes s.script) → room ≡ has_room link.depth link.w →
      o ≡ beat_where (nat_lt s.sent_writes s.issued_writes && room) (slice_get places s.sent_writes) → placed s.script o ≡ possible_w link s
  could-w places room o same has is =
      ap (placed s.script) is ∙ placed-beat_where s.script (nat_lt s.sent_writes s.issued_writes && room) (slice_get places s.sent_writes)
      ∙ ap (λ (r : Bool). beat_where (nat_lt s.sent_writes s.issued_writes && r) (placed s.script (slice_get places s.sent_writes))) has
      ∙ ap (λ (next : Option (ℕ × ScriptItem)). beat_where (nat_lt s.sent_writes s.issued_writes && has_room link.depth link.w) next) (placed-next true s.script places same s.sent_writes)

-- the same of a manager as it is seen
pub possible-of : (link : LinkView) (p : Possible) (a b : Acted ManagerState) → a ≡ b → IsPossible link b.state p → IsPossible link a.state p
possible-of link p a b same is = subst (λ (acted : Acted ManagerState). IsPossible link acted.state p) (sym same) is

-- the rows whose condition holds are the table's
wishes-same : (link : LinkView) (s : ManagerState) (p : Possible) → IsPossible link s p → wishes_of p ≡ manager_wishes link s
wishes-same link s p is =
    let aw : is_some p.write ≡ is_some (possible_aw link s) = sym (placed-some s.script p.write is.write_within) ∙ ap is_some is.write in
    let w : is_some p.data_beat ≡ is_some (possible_w link s) = sym (placed-some s.script p.data_beat is.data_within) ∙ ap is_some is.data_beat in
    let ar : is_some p.read ≡ is_some (possible_ar link s) = sym (placed-some s.script p.read is.read_within) ∙ ap is_some is.read in
    rows-same _ _ _ _ _ _ _ _ _ _ aw w is.response ar is.read_beat
  where
    rows-same : (aw aw' w w' b b' ar ar' r r' : Bool) → aw ≡ aw' → w ≡ w' → b ≡ b' → ar ≡ ar' → r ≡ r' →
        ◌≡◌ {A = EachRow} (record { aw = aw; w = w; b = b; ar = ar; r = r }) (record { aw = aw'; w = w'; b = b'; ar = ar'; r = r' })
    rows-same aw aw' w w' b b' ar ar' r r' x0 x1 x2 x3 x4 = cc

-- What is done in a round, of what could be done.
module _ (links : List LinkView) (s : ManagerState) (link : LinkView) (under : link ≡ below links s) (p : Possible) (possible : IsPossible link s p)
    (wishes : EachRow) (asked : wishes ≡ wishes_of p) (rows : EachRow) (lets : rows ≡ rows_let wishes s.paces) where
  wishes-are : wishes ≡ manager_wishes (below links s) s
  wishes-are = asked ∙ wishes-same link s p possible ∙ ap (λ (l : LinkView). manager_wishes l s) under

  rows-are : rows ≡ manager_rows links s
  rows-are = lets ∙ ap (λ (w : EachRow). rows_let w s.paces) wishes-are

  pub paces-are : (paces : Paces) → paces ≡ paces_after wishes s.paces → paces ≡ paces_after (manager_wishes (below links s) s) s.paces
  paces-are paces is = is ∙ ap (λ (w : EachRow). paces_after w s.paces) wishes-are

  pub aw-is : (o : Option ℕ) → o ≡ beat_where rows.aw p.write → placed s.script o ≡ manager_aw links s
  aw-is o is =
      ap (placed s.script) is ∙ placed-beat_where s.script rows.aw p.write ∙ ap (beat_where rows.aw) (possible.write ∙ ap (λ (l : LinkView). possible_aw l s) under)
      ∙ ap (λ (r : EachRow). beat_where r.aw (possible_aw (below links s) s)) rows-are

  pub w-is : (o : Option ℕ) → o ≡ beat_where rows.w p.data_beat → placed s.script o ≡ manager_w links s
  w-is o is =
      ap (placed s.script) is ∙ placed-beat_where s.script rows.w p.data_beat ∙ ap (beat_where rows.w) (possible.data_beat ∙ ap (λ (l : LinkView). possible_w l s) under)
      ∙ ap (λ (r : EachRow). beat_where r.w (possible_w (below links s) s)) rows-are

  pub ar-is : (o : Option ℕ) → o ≡ beat_where rows.ar p.read → placed s.script o ≡ manager_ar links s
  ar-is o is =
      ap (placed s.script) is ∙ placed-beat_where s.script rows.ar p.read ∙ ap (beat_where rows.ar) (possible.read ∙ ap (λ (l : LinkView). possible_ar l s) under)
      ∙ ap (λ (r : EachRow). beat_where r.ar (possible_ar (below links s) s)) rows-are

  pub b-is : (head taken : Option BBeat) → head ≡ slice_get link.b 0 → taken ≡ beat_where rows.b head → answering (λ beat. beat.id) s.write_entries taken ≡ manager_b links s
  b-is head taken has is =
      ap (answering (λ (beat : BBeat). beat.id) s.write_entries) is ∙ answering-done (λ (beat : BBeat). beat.id) s.write_entries rows.b head
      ∙ ap (λ (h : Option BBeat). beat_where rows.b (answering (λ (beat : BBeat). beat.id) s.write_entries h)) (has ∙ ap (λ (l : LinkView). slice_get l.b 0) under)
      ∙ ap (λ (r : EachRow). beat_where r.b (possible_b (below links s) s)) rows-are

  pub r-is : (head taken : Option RBeat) → head ≡ slice_get link.r 0 → taken ≡ beat_where rows.r head → answering (λ beat. beat.id) s.read_entries taken ≡ manager_r links s
  r-is head taken has is =
      ap (answering (λ (beat : RBeat). beat.id) s.read_entries) is ∙ answering-done (λ (beat : RBeat). beat.id) s.read_entries rows.r head
      ∙ ap (λ (h : Option RBeat). beat_where rows.r (answering (λ (beat : RBeat). beat.id) s.read_entries h)) (has ∙ ap (λ (l : LinkView). slice_get l.r 0) under)
      ∙ ap (λ (r : EachRow). beat_where r.r (possible_r (below links s) s)) rows-are

  -- a chosen place is one of the script
  pub chosen-within : (done : Bool) (could o : Option ℕ) → IfSome could (λ place. place < length s.script) → o ≡ beat_where done could → IfSome o (λ place. place < length s.script)
  chosen-within done could o within is = subst (λ (x : Option ℕ). IfSome x (λ place. place < length s.script)) (sym is) (beat_where-has (λ place. place < length s.script) done could within)

module _ (links : List LinkView) (s : ManagerState) where
  -- what is issued fits, and is still to come in its direction
  pub aw-room : (o : Option ℕ) → IfSome o (λ place. place < length s.script) → placed s.script o ≡ manager_aw links s → IsSome o → (length s.write_entries < 16) × (s.issued_writes < length (script_writes s.script))
  aw-room o within is some =
      let p = placed-one s.script o within some in
      (aw-fits links s p.0 (sym is ∙ p.1), slice_get_within (script_writes s.script) s.issued_writes p.0 (aw-next links s p.0 (sym is ∙ p.1)))

  pub ar-room : (o : Option ℕ) → IfSome o (λ place. place < length s.script) → placed s.script o ≡ manager_ar links s → IsSome o → (length s.read_entries < 16) × (s.issued_reads < length (script_reads s.script))
  ar-room o within is some =
      let p = placed-one s.script o within some in
      (ar-fits links s p.0 (sym is ∙ p.1), slice_get_within (script_reads s.script) s.issued_reads p.0 (ar-next links s p.0 (sym is ∙ p.1)))

pub places-many : (places : List ℕ) (ps : List (ℕ × ScriptItem)) (n : ℕ) → places ≡ map (λ (p : ℕ × ScriptItem). p.0) ps → n < length ps → n < length places
places-many places ps n same less = let many : length places ≡ length ps = ap length same ∙ length-map ps (λ (p : ℕ × ScriptItem). p.0) in omega (arith, many, less)

module _ (links : List LinkView) (s : ManagerState) where
  module _ (round : ℕ) (counts : 0 < round) (is : IsManager s) where
    pub writes-within : All (λ (entry : Entry). entry.place < length s.answers) s.write_entries
    writes-within = All-entries (λ place. place < length s.answers) s.write_entries _ is.writes_waiting.within

    pub writes-due : All (λ (entry : Entry). IsDue s.script true entry.place (get_or s.answers entry.place (unanswered 0))) s.write_entries
    writes-due = All-entries (λ place. IsDue s.script true place (get_or s.answers place (unanswered 0))) s.write_entries _ is.writes_waiting.due

    pub reads-within : (answers : List AnswerView) → answers ≡ note_write round (manager_b links s) s.answers → All (λ (entry : Entry). entry.place < length answers) s.read_entries
    reads-within answers same = subst (λ (answers_then : List AnswerView). All (λ (entry : Entry). entry.place < length answers_then) s.read_entries) (sym same) (All-entries (λ place. place < length (note_write round (manager_b links s) s.answers)) s.read_entries _ (after-b links s round counts is).other_waiting.within)

    pub reads-due : (answers : List AnswerView) → answers ≡ note_write round (manager_b links s) s.answers → All (λ (entry : Entry). IsDue s.script false entry.place (get_or answers entry.place (unanswered 0))) s.read_entries
    reads-due answers same = subst (λ (answers_then : List AnswerView). All (λ (entry : Entry). IsDue s.script false entry.place (get_or answers_then entry.place (unanswered 0))) s.read_entries) (sym same) (All-entries (λ place. IsDue s.script false place (get_or (note_write round (manager_b links s) s.answers) place (unanswered 0))) s.read_entries _ (after-b links s round counts is).other_waiting.due)

    -- the count of answers fits 32 bits
    pub answered-small : s.answered + more (is_some (manager_b links s)) + more (is_some (manager_r_last links s)) < 2 ^ 32
    answered-small =
        let kept = after-r links s round counts is
        in let short = script-short s.script is.is_script
        in let most = count_by-le-length is_answered (note_read round s.bus s.script (manager_r links s) (note_write round (manager_b links s) s.answers))
        in omega (arith, short, most, kept.counted, kept.one_each)

module _ {X : Type 0} where
  -- one more fits where one did before an answer was taken
  pub room-left : (entries : List Entry) (o : Option (Entry × X)) → length entries < 16 → length (left_waiting o entries) < 16
  room-left entries o few = omega (arith, waiting-most entries o)

-- two states with equal parts
pub state-same : (script : List ScriptItem) (lower bus : ℕ) (paces paces' : Paces) (iw iw' ir ir' sw sw' sb sb' : ℕ) (we we' re re' : List Entry) (k k' : ℕ) (noted noted' : List AnswerView) → paces ≡ paces' → iw ≡ iw' → ir ≡ ir' → sw ≡ sw' → sb ≡ sb' → we ≡ we' → re ≡ re' → k ≡ k' → noted ≡ noted' → ◌≡◌ {A = ManagerState} (record { script = script; lower = lower; bus = bus; paces = paces; issued_writes = iw; issued_reads = ir; sent_writes = sw; sent_beats = sb; write_entries = we; read_entries = re; answered = k; answers = noted }) (record { script = script; lower = lower; bus = bus; paces = paces'; issued_writes = iw'; issued_reads = ir'; sent_writes = sw'; sent_beats = sb'; write_entries = we'; read_entries = re'; answered = k'; answers = noted' })
state-same script lower bus paces paces' iw iw' ir ir' sw sw' sb sb' we we' re re' k k' noted noted' p a b c d e f g h = cc

-- the moves of a manager, channel by channel
pub out-same : (aw aw' ar ar' : Option (ℕ × Addr)) (w w' : Option (ℕ × WBeat)) (b b' r r' awt wt art : Option ℕ) (bp : Option (ℕ × BBeat)) (rp : Option (ℕ × RBeat)) → awt ≡ None → aw ≡ aw' → wt ≡ None → w ≡ w' → b ≡ b' → bp ≡ None → art ≡ None → ar ≡ ar' → r ≡ r' → rp ≡ None → ◌≡◌ {A = Out} (record { aw_take = awt; aw_put = aw; w_take = wt; w_put = w; b_take = b; b_put = bp; ar_take = art; ar_put = ar; r_take = r; r_put = rp }) (record { aw_take = None; aw_put = aw'; w_take = None; w_put = w'; b_take = b'; b_put = None; ar_take = None; ar_put = ar'; r_take = r'; r_put = None })
out-same aw aw' ar ar' w w' b b' r r' awt wt art bp rp c0 c1 c2 c3 c4 c5 c6 c7 c8 c9 = cc

pub sum-small : (a b c x y : ℕ) → b ≡ x → c ≡ y → a + x + y < 2 ^ 32 → a + (b + c) < 2 ^ 32
sum-small a b c x y e f small = omega arith

pub sum-same : (a b c x y : ℕ) → b ≡ x → c ≡ y → a + (b + c) ≡ a + x + y
sum-same a b c x y e f = omega arith

-- two managers with equal states and moves
pub acted-same : (s s' : ManagerState) (out out' : Out) → s ≡ s' → out ≡ out' → ◌≡◌ {A = Acted ManagerState} (record { state = s; out = out }) (record { state = s'; out = out' })
acted-same s s' out out' a b = cc

-- the data place of a new manager
pub sending-begins : (script : List ScriptItem) → IfSome (slice_get (script_writes script) 0) (λ (next : ℕ × ScriptItem). IsWithin (record { writes = 0; beats = 0; bytes = 0 }) next.1)
sending-begins script = sending-first script 0 0

-- the writes whose data is sent are few
pub sent-small : (s : ManagerState) → IsManager s → s.sent_writes < 2 ^ 32
sent-small s is =
    let few = length-filter_le (λ (p : ℕ × ScriptItem). is_directed true p.1.txn) (enumerate_from 0 s.script)
    in let long = length-enumerate_from 0 s.script
    in let short = script-short s.script is.is_script
    in omega (arith, few, long, short, is.writes_sent, is.writes_issued)

-- the data place within the next write
pub next-within : (links : List LinkView) (s : ManagerState) (sending : Sending) (o : Option (ℕ × ScriptItem)) → o ≡ manager_w links s → sending.writes ≡ s.sent_writes →
    IfSome (slice_get (script_writes s.script) sending.writes) (λ (next : ℕ × ScriptItem). IsWithin sending next.1) → IfSome o (λ (next : ℕ × ScriptItem). IsWithin sending next.1)
next-within links s sending None is same within = tt
next-within links s sending (Some x) is same within =
    let at = w-next links s x (sym is)
    in subst (λ (o : Option (ℕ × ScriptItem)). IfSome o (λ (next : ℕ × ScriptItem). IsWithin sending next.1)) (ap (slice_get (script_writes s.script)) same ∙ at) within

-- the data place after a round, as the table has it
pub sent-writes : (sending : Sending) (o : Option (ℕ × ScriptItem)) → (sent_after o sending).writes ≡ sending.writes + more (ends_data sending.beats o)
sent-writes sending None = omega arith
sent-writes sending (Some x) =
    let after : Bool → Sending = λ b. cond b (record { writes = sending.writes + 1; beats = 0; bytes = 0 }) (record { writes = sending.writes; beats = sending.beats + 1; bytes = sending.bytes + length (beat_bytes x.1.txn.request sending.beats) })
    in let go : (b : Bool) → (after b).writes ≡ sending.writes + more b = elim [ true ↦ refl | false ↦ omega arith ]
    in go (sending.beats == x.1.txn.request.len)

pub sent-beats : (sending : Sending) (o : Option (ℕ × ScriptItem)) → (sent_after o sending).beats ≡ beats_after sending.beats o
sent-beats sending None = refl
sent-beats sending (Some x) =
    let after : Bool → Sending = λ b. cond b (record { writes = sending.writes + 1; beats = 0; bytes = 0 }) (record { writes = sending.writes; beats = sending.beats + 1; bytes = sending.bytes + length (beat_bytes x.1.txn.request sending.beats) })
    in let go : (b : Bool) → (after b).beats ≡ cond b 0 (sending.beats + 1) = elim [ true ↦ refl | false ↦ refl ]
    in go (sending.beats == x.1.txn.request.len)

-- a read is answered where its last beat was taken
pub last-more : (answers : List AnswerView) (o : Option (Entry × RBeat)) (got : Option Bool) (b : Bool) → got ≡ option_map (λ (answer : Entry × RBeat). is_last (get_or answers answer.0.place (unanswered 0))) o → b ≡ unwrap_or got false → more b ≡ more (is_some (ending answers o))
last-more answers None got b is test = ap more (test ∙ ap (λ (o : Option Bool). unwrap_or o false) is)
last-more answers (Some x) got b is test =
    let go : (c : Bool) → more c ≡ more (is_some {T = Entry × RBeat} (beat_where c (Some x))) = elim [ true ↦ refl | false ↦ refl ]
    in ap more (test ∙ ap (λ (o : Option Bool). unwrap_or o false) is) ∙ go (is_last (get_or answers x.0.place (unanswered 0)))

-- the last answer after B is the table's
pub last-is : (links : List LinkView) (s : ManagerState) (round : ℕ) → IsManager s → (answers : List AnswerView) (o : Option (Entry × RBeat)) → answers ≡ note_write round (manager_b links s) s.answers → o ≡ manager_r links s → ending answers o ≡ manager_r_last links s
last-is links s round is answers o noted same = ap (λ (a : List AnswerView). ending a o) noted ∙ ap (ending (note_write round (manager_b links s) s.answers)) same ∙ ending-same links s is round

pub got-last : (links : List LinkView) (s : ManagerState) (round : ℕ) → IsManager s → (answers : List AnswerView) (o : Option (Entry × RBeat)) (got : Option Bool) (b : Bool) → answers ≡ note_write round (manager_b links s) s.answers → o ≡ manager_r links s →
    got ≡ option_map (λ (answer : Entry × RBeat). is_last (get_or answers answer.0.place (unanswered 0))) o → b ≡ unwrap_or got false → more b ≡ more (is_some (manager_r_last links s))
got-last links s round is answers o got b noted same taken test = last-more answers o got b taken test ∙ ap (λ (p : Option (Entry × RBeat)). more (is_some p)) (last-is links s round is answers o noted same)

pub got-some : {X : Type 0} (f : X → Bool) (o : Option X) (got : Option Bool) → got ≡ option_map f o → is_some got ≡ is_some o
got-some f None got is = ap is_some is
got-some f (Some x) got is = ap is_some is
