-- A manager's trail after one more round, and the answers in it.
use Rattle.std.proofs.Common.{◌≡◌, ◌≢◌, ℕ, ◌+◌, ◌==◌, suc, Bool, true, false, cond, List, [], ◌∷◌, ◌++◌, Option, Some, None, All, length, map, take, refl, sym, ◌∙◌, ap, subst, inl, inr, arith, append-nil, eq-eqb}
use Rattle.std.specs.Option.{option_map, option_to_list}
use Rattle.std.specs.Prelude.{find, slice_get}
use Rattle.std.proofs.lemmas.Bool.{cases_eq, ne_eqb}
use Rattle.std.proofs.lemmas.List.{length-map}
use Rattle.std.proofs.lemmas.Option.{same_Some, slice_get_within}
use Rattle.std.proofs.lemmas.Simd.{map-map}
use Rattle.axi_beats.specs.declared.beat.Addr.{Addr}
use Rattle.axi_beats.specs.declared.beat.BBeat.{BBeat}
use Rattle.axi_beats.specs.declared.beat.RBeat.{RBeat}
use Rattle.axi_beats.specs.declared.beat.WBeat.{WBeat}
use Rattle.axi_link.specs.LinkView.{LinkView}
use Rattle.axi_trail.proofs.HeldFacts.{held-of_key}
use Rattle.axi_trail.proofs.PlaceFacts.{oldest_held_is_next_of_its_own}
use Rattle.axi_trail.proofs.StepFacts.{pending-lacks}
use Rattle.axi_trail.specs.LinkContracts.{Answers}
use Rattle.axi_trail.specs.Schedule.{Schedule, Progress}
use Rattle.axi_trail.specs.Trail.{Beats}
use Rattle.axi_trail.specs.Waiting.{Waiting, pending, waiting_shown}
use Rattle.axi_trail.specs.Words.{Asked, InOrderOfId, Reply, beats_due, burst_asked, id_of_reply, number_of_asked, number_of_reply, number_of_response, number_of_read_data, read_reply, read_replies, write_asked, write_reply, write_replies}
use Rattle.manager_node.specs.Answer.{is_last}
use Rattle.manager_node.specs.Beats.{data_beat, item_request}
use Rattle.manager_node.specs.ManagerOrder.{IsAt, note_at}
use Rattle.manager_node.specs.ManagerState.{ManagerState, due_resps, entry_of, of_direction, script_writes, script_reads}
use Rattle.manager_node.specs.ManagerTable.{below, ending, manager_aw, manager_w, manager_ar, manager_b, manager_r, manager_r_last, manager_next}
use Rattle.manager_node.specs.ManagerTrail.{IsScheduleOf, held_items, sent_data, shares_of}
use Rattle.manager_node.proofs.Standing.{Standing, manager_trail}
use Rattle.manager_node.specs.Script.{ScriptItem}
use Rattle.manager_node.specs.declared.entry.Entry.{Entry}
use Rattle.manager_node.proofs.AskedLemmas.{IsLone, lone-numbers, lone-take, none-of_key, one-asked}
use Rattle.manager_node.proofs.HeldLemmas.{asked_by, entries_held, held-shows, holding, holding-has, id_held, id_of_item, single_len}
use Rattle.manager_node.proofs.NoteLemmas.{r-taken, taken-waits}
use Rattle.manager_node.proofs.NumberLemmas.{number_of_item}
use Rattle.manager_node.proofs.PassedLemmas.{answering-own, ar-moved, aw-moved, b-moved, first-held, put-grows, r-moved, reply_by, take-next, taken-own, w-moved, waits-next}
use Rattle.manager_node.proofs.PlaceLemmas.{direction-at}
use Rattle.manager_node.proofs.RowLemmas.{ar-next, aw-next, w-next, b-possible, r-possible}
use Rattle.manager_node.proofs.SentLemmas.{sent-grows}
use Rattle.plain_lists.specs.Keys.{count_of, of_key}
use Rattle.plain_lists.proofs.KeyLemmas.{of_key-map, of_key-push, of_key-push_other}
use Rattle.plain_lists.proofs.PlaceLemmas.{middle, all-at, map-from, take-from, front-at}
use Rattle.axi_link.specs.LinkWords.{head_of}
use Rattle.node_core.specs.Rows.{beat_where}

-- a lone key doesn't stand before its place
lone-before : {X : Type 0} (key_of : X → ℕ) (xs before : List X) (x : X) (after : List X) → IsLone key_of xs → xs ≡ before ++ x ∷ after → of_key key_of (key_of x) before ≡ []
lone-before key_of xs before x after lone split =
    none-of_key key_of (key_of x) before (λ k y at same.
    let less = slice_get_within before k y at
    in let one = lone k (length before) y x (ap (λ ys. slice_get ys k) split ∙ front-at before (x ∷ after) k y at) (ap (λ ys. slice_get ys (length before)) split ∙ middle before x after) same
    in absurd (omega arith))

-- the transactions of a direction stand at their places
items-at : (write : Bool) (n : ℕ) (script : List ScriptItem) → All (λ p. slice_get script p.0 ≡ Some p.1) (take n (of_direction write script))
items-at write n script = all-at (λ p. slice_get script p.0 ≡ Some p.1) (take n (of_direction write script)) (λ k p at. (direction-at write script k p (take-from n (of_direction write script) k p at).1).0)

-- a held one whose entry is known
held-at : (write : Bool) (n : ℕ) (script : List ScriptItem) (len_of : Addr → ℕ) (ids : List ℕ) (id : ℕ) (w : Waiting (ℕ × ScriptItem)) (others : List (Waiting (ℕ × ScriptItem))) (e : Entry) →
    of_key id_held id (holding len_of (take n (of_direction write script)) ids) ≡ w ∷ others → entry_of w.request ≡ e → slice_get script e.place ≡ Some w.request.1
held-at write n script len_of ids id w others e first same =
    ap (slice_get script) (ap (λ (entry : Entry). entry.place) (sym same)) ∙ holding-has len_of (λ p. slice_get script p.0 ≡ Some p.1) (take n (of_direction write script)) ids id w others (items-at write n script) first

-- as many answer beats of a held one came as have its number
done-is : (schedule : Schedule) (bus n : ℕ) (script : List ScriptItem) (write : Bool) (len_of : Addr → ℕ) (replies : List Reply) (id : ℕ) (w : Waiting (ℕ × ScriptItem)) (others : List (Waiting (ℕ × ScriptItem))) → IsScheduleOf schedule bus script →
    InOrderOfId (map (asked_by len_of) (take n (of_direction write script))) replies → of_key id_held id (holding len_of (take n (of_direction write script)) (map id_of_reply replies)) ≡ w ∷ others →
    length (of_key number_of_reply w.request.1.txn.number replies) ≡ w.done
done-is schedule bus n script write len_of replies id w others scheduled order first =
    let items : List (ℕ × ScriptItem) = take n (of_direction write script)
    in let own = held-shows len_of items replies id ∙ ap (map (waiting_shown (asked_by len_of))) first
    in let next = oldest_held_is_next_of_its_own (shares_of schedule write) (map (asked_by len_of) items) replies (one-asked schedule bus script scheduled write n len_of replies) order id (waiting_shown (asked_by len_of) w) (map (waiting_shown (asked_by len_of)) others) own
    in let lone : IsLone number_of_item items = lone-take number_of_item n (of_direction write script) (lone-numbers schedule bus script scheduled write)
    in let alone : IsLone number_of_asked (map (asked_by len_of) items) =
    λ j k a b at_a at_b same.
    let from : (p : ℕ × ScriptItem) × (slice_get items j ≡ Some p) × (asked_by len_of p ≡ a) = map-from (asked_by len_of) items j a at_a
    in let other : (p : ℕ × ScriptItem) × (slice_get items k ≡ Some p) × (asked_by len_of p ≡ b) = map-from (asked_by len_of) items k b at_b
    in lone j k from.0 other.0 from.1 other.1 (ap (λ (x : Asked). x.number) from.2 ∙ same ∙ sym (ap (λ (x : Asked). x.number) other.2))
    in let none = lone-before number_of_asked (map (asked_by len_of) items) next.0 (asked_by len_of w.request) next.1 alone next.2
    in let counted : length (of_key number_of_reply w.request.1.txn.number replies) ≡ 0 + w.done = next.3 ∙ ap (λ (asked : List Asked). beats_due asked + w.done) none
    in omega (arith, counted)

-- an answer that is taken has the number of the transaction at its entry's place
module _ {X : Type 0} (number_of id_of : X → ℕ) (last_of : X → Bool) (len_of : Addr → ℕ) where
  taken-number : (write : Bool) (n : ℕ) (script : List ScriptItem) (next : Option (ℕ × ScriptItem)) (entries : List Entry) (beats : List X) →
      entries ≡ entries_held (holding len_of (take n (of_direction write script)) (map id_of beats)) → InOrderOfId (map (asked_by len_of) (take n (of_direction write script))) (map (reply_by number_of id_of last_of len_of) beats) →
      (x : Entry × X) → find (λ (entry : Entry). entry.id == id_of x.1) entries ≡ Some x.0 →
      InOrderOfId (map (asked_by len_of) (take n (of_direction write script) ++ option_to_list next)) (map (reply_by number_of id_of last_of len_of) (beats ++ x.1 ∷ [])) →
      (item : ScriptItem) × (slice_get script x.0.place ≡ Some item) × (number_of x.1 ≡ item.txn.number)
  taken-number write n script next entries beats same order x found after =
      let first : (w : Waiting (ℕ × ScriptItem)) × (others : List (Waiting (ℕ × ScriptItem))) × (of_key id_held (id_of x.1) (holding len_of (take n (of_direction write script)) (map id_of beats)) ≡ w ∷ others) × (entry_of w.request ≡ x.0) =
      first-held number_of id_of last_of len_of (take n (of_direction write script)) next entries beats same order x found
      in let taken = taken-own number_of id_of last_of len_of (take n (of_direction write script)) next entries beats same order x first.0 first.1 first.2 after
      in (first.0.request.1, held-at write n script len_of (map id_of beats) (id_of x.1) first.0 first.1 x.0 first.2 first.3, taken.0)

-- beats of a number, with those of a round
pub own-other : {X : Type 0} (number_of : X → ℕ) (t : ℕ) (beats : List X) (o : Option (Entry × X)) → ((x : Entry × X) → o ≡ Some x → number_of x.1 ≢ t) → of_key number_of t (beats ++ option_to_list (option_map (λ answer. answer.1) o)) ≡ of_key number_of t beats
own-other number_of t beats None other = ap (of_key number_of t) (append-nil beats)
own-other number_of t beats (Some x) other = of_key-push_other number_of t beats x.1 (other x refl)

pub own-here : {X : Type 0} (number_of : X → ℕ) (t : ℕ) (beats : List X) (o : Option (Entry × X)) (x : Entry × X) → o ≡ Some x → number_of x.1 ≡ t → of_key number_of t (beats ++ option_to_list (option_map (λ answer. answer.1) o)) ≡ of_key number_of t beats ++ x.1 ∷ []
own-here number_of t beats o x is own =
    ap (λ p. of_key number_of t (beats ++ option_to_list (option_map (λ answer. answer.1) p))) is
    ∙ of_key-push number_of t beats x.1 own

-- tests for equal numbers
next-equal : (a b : ℕ) → (a + 1 == b + 1) ≡ (a == b)
next-equal a b = elim (cases_eq a b) [
  | inl same ↦ eq-eqb (a + 1) (b + 1) (omega arith) ∙ sym (eq-eqb a b same)
  | inr apart ↦ ne_eqb (a + 1) (b + 1) (λ same. apart (omega arith)) ∙ sym (ne_eqb a b apart)
]

module _ (schedule : Schedule) (now : Progress) (rounds : ℕ) (links : List LinkView) (s : ManagerState) (trail : Beats) (keeps : Standing schedule rounds s trail) (answers : Answers schedule now (manager_trail links s trail)) where
  -- what has been put after the round
  pub aw-after : (manager_trail links s trail).aw ≡ map (λ (p : ℕ × ScriptItem). item_request p.1) (take (manager_next (suc rounds) links s).issued_writes (script_writes s.script))
  aw-after = put-grows (λ (p : ℕ × ScriptItem). item_request p.1) (script_writes s.script) s.issued_writes (manager_aw links s) trail.aw _ (aw-next links s) (aw-moved links s) keeps.passed.aw

  pub ar-after : (manager_trail links s trail).ar ≡ map (λ (p : ℕ × ScriptItem). item_request p.1) (take (manager_next (suc rounds) links s).issued_reads (script_reads s.script))
  ar-after = put-grows (λ (p : ℕ × ScriptItem). item_request p.1) (script_reads s.script) s.issued_reads (manager_ar links s) trail.ar _ (ar-next links s) (ar-moved links s) keeps.passed.ar

  pub w-after : (manager_trail links s trail).w ≡ sent_data (manager_next (suc rounds) links s)
  w-after =
      ap (λ (ws : List WBeat). trail.w ++ ws) (w-moved links s)
      ∙ ap (λ (ws : List WBeat). ws ++ option_to_list (option_map (λ (next : ℕ × ScriptItem). data_beat next.1 s.bus s.sent_beats) (manager_w links s))) keeps.passed.w
      ∙ sent-grows s.bus (script_writes s.script) s.sent_writes s.sent_beats (manager_w links s) (w-next links s) keeps.is_manager.beats_sent

  pub b-after : (manager_trail links s trail).b ≡ trail.b ++ option_to_list (option_map (λ answer. answer.1) (manager_b links s))
  b-after = ap (λ (bs : List BBeat). trail.b ++ bs) (b-moved links s)

  pub r-after : (manager_trail links s trail).r ≡ trail.r ++ option_to_list (option_map (λ answer. answer.1) (manager_r links s))
  r-after = ap (λ (rs : List RBeat). trail.r ++ rs) (r-moved links s)

  -- writes
  writes-before : InOrderOfId (map (asked_by (λ a. 0)) (take s.issued_writes (script_writes s.script))) (map write_reply trail.b)
  writes-before = subst (λ (asked : List Asked). InOrderOfId asked (map write_reply trail.b)) (ap (map write_asked) keeps.passed.aw ∙ map-map write_asked (λ (p : ℕ × ScriptItem). item_request p.1) (take s.issued_writes (script_writes s.script))) keeps.passed.writes_in_order

  writes-after : InOrderOfId (map (asked_by (λ a. 0)) (take s.issued_writes (script_writes s.script) ++ option_to_list (manager_aw links s))) (map write_reply (trail.b ++ option_to_list (option_map (λ answer. answer.1) (manager_b links s))))
  writes-after =
      subst (λ (bs : List BBeat). InOrderOfId (map (asked_by (λ a. 0)) (take s.issued_writes (script_writes s.script) ++ option_to_list (manager_aw links s))) (map write_reply bs)) b-after
      (subst (λ (asked : List Asked). InOrderOfId asked (write_replies (manager_trail links s trail)))
      (ap (map write_asked) aw-after ∙ map-map write_asked (λ (p : ℕ × ScriptItem). item_request p.1) (take (manager_next (suc rounds) links s).issued_writes (script_writes s.script)) ∙ ap (map (asked_by (λ a. 0))) (take-next (script_writes s.script) s.issued_writes (manager_aw links s) (aw-next links s)))
      answers.answers_in_order_of_id)

  b-own : (x : Entry × BBeat) → manager_b links s ≡ Some x → find (λ (entry : Entry). entry.id == x.1.id) s.write_entries ≡ Some x.0
  b-own x is = answering-own (λ beat. beat.id) s.write_entries (head_of (below links s).b) x (b-possible links s x is)

  pub b-number : (x : Entry × BBeat) → manager_b links s ≡ Some x → (item : ScriptItem) × (IsAt s x.0.place item) × (x.1.tag.txn ≡ item.txn.number)
  b-number x is =
      taken-number number_of_response (λ beat. beat.id) (λ beat. true) (λ a. 0) true s.issued_writes s.script (manager_aw links s) s.write_entries trail.b keeps.passed.write_entries writes-before x (b-own x is)
      (subst (λ (o : Option (Entry × BBeat)). InOrderOfId (map (asked_by (λ a. 0)) (take s.issued_writes (script_writes s.script) ++ option_to_list (manager_aw links s))) (map write_reply (trail.b ++ option_to_list (option_map (λ answer. answer.1) o)))) is writes-after)

  -- a response is the last answer to its write
  b-leaving : (x : Entry × BBeat) (w : Waiting (ℕ × ScriptItem)) (others : List (Waiting (ℕ × ScriptItem))) → manager_b links s ≡ Some x → of_key id_held x.1.id (holding (λ a. 0) (take s.issued_writes (script_writes s.script)) (map (λ b. b.id) trail.b)) ≡ w ∷ others → entry_of w.request ≡ x.0 →
      manager_b links s ≡ beat_where (w.done == 0) (Some x)
  b-leaving x w others taken first same =
      let pending_first : pending (single_len (λ a. 0)) (count_of x.1.id (map (λ b. b.id) trail.b)) (of_key id_of_item x.1.id (take s.issued_writes (script_writes s.script))) ≡ w ∷ others =
      sym (held-of_key (single_len (λ a. 0)) id_of_item (take s.issued_writes (script_writes s.script)) (map (λ b. b.id) trail.b) x.1.id) ∙ first
      in let least = pending-lacks (single_len (λ a. 0)) (count_of x.1.id (map (λ b. b.id) trail.b)) (of_key id_of_item x.1.id (take s.issued_writes (script_writes s.script))) w others pending_first
      in taken ∙ ap (λ (b : Bool). beat_where b (Some x)) (sym (eq-eqb w.done 0 (omega (arith, least))))

  pub write-entries-after : (manager_next (suc rounds) links s).write_entries ≡ map entry_of (held_items true (take (manager_next (suc rounds) links s).issued_writes (script_writes s.script)) (map (λ b. b.id) (manager_trail links s trail).b))
  write-entries-after =
      waits-next number_of_response (λ beat. beat.id) (λ beat. true) (λ a. 0) (take s.issued_writes (script_writes s.script)) (manager_aw links s) s.write_entries trail.b keeps.passed.write_entries writes-before (manager_b links s) (manager_b links s) b-own (λ none. none) b-leaving writes-after
      ∙ ap (λ (ps : List (ℕ × ScriptItem)). entries_held (holding (λ a. 0) ps (map (λ b. b.id) (trail.b ++ option_to_list (option_map (λ answer. answer.1) (manager_b links s)))))) (sym (take-next (script_writes s.script) s.issued_writes (manager_aw links s) (aw-next links s)))
      ∙ ap (λ (bs : List BBeat). entries_held (holding (λ a. 0) (take (manager_next (suc rounds) links s).issued_writes (script_writes s.script)) (map (λ b. b.id) bs))) (sym b-after)

  -- reads
  reads-before : InOrderOfId (map (asked_by (λ a. a.len)) (take s.issued_reads (script_reads s.script))) (map read_reply trail.r)
  reads-before = subst (λ (asked : List Asked). InOrderOfId asked (map read_reply trail.r)) (ap (map burst_asked) keeps.passed.ar ∙ map-map burst_asked (λ (p : ℕ × ScriptItem). item_request p.1) (take s.issued_reads (script_reads s.script))) keeps.passed.reads_in_order

  reads-after : InOrderOfId (map (asked_by (λ a. a.len)) (take s.issued_reads (script_reads s.script) ++ option_to_list (manager_ar links s))) (map read_reply (trail.r ++ option_to_list (option_map (λ answer. answer.1) (manager_r links s))))
  reads-after =
      subst (λ (rs : List RBeat). InOrderOfId (map (asked_by (λ a. a.len)) (take s.issued_reads (script_reads s.script) ++ option_to_list (manager_ar links s))) (map read_reply rs)) r-after
      (subst (λ (asked : List Asked). InOrderOfId asked (read_replies (manager_trail links s trail)))
      (ap (map burst_asked) ar-after ∙ map-map burst_asked (λ (p : ℕ × ScriptItem). item_request p.1) (take (manager_next (suc rounds) links s).issued_reads (script_reads s.script)) ∙ ap (map (asked_by (λ a. a.len))) (take-next (script_reads s.script) s.issued_reads (manager_ar links s) (ar-next links s)))
      answers.reads_in_order_of_id)

  r-own : (x : Entry × RBeat) → manager_r links s ≡ Some x → find (λ (entry : Entry). entry.id == x.1.id) s.read_entries ≡ Some x.0
  r-own x is = answering-own (λ beat. beat.id) s.read_entries (head_of (below links s).r) x (r-possible links s x is)

  pub r-number : (x : Entry × RBeat) → manager_r links s ≡ Some x → (item : ScriptItem) × (IsAt s x.0.place item) × (x.1.tag.txn ≡ item.txn.number)
  r-number x is =
      taken-number number_of_read_data (λ beat. beat.id) (λ beat. beat.last) (λ a. a.len) false s.issued_reads s.script (manager_ar links s) s.read_entries trail.r keeps.passed.read_entries reads-before x (r-own x is)
      (subst (λ (o : Option (Entry × RBeat)). InOrderOfId (map (asked_by (λ a. a.len)) (take s.issued_reads (script_reads s.script) ++ option_to_list (manager_ar links s))) (map read_reply (trail.r ++ option_to_list (option_map (λ answer. answer.1) o)))) is reads-after)

  -- the answer beats that came for a held read
  r-done : (x : Entry × RBeat) (w : Waiting (ℕ × ScriptItem)) (others : List (Waiting (ℕ × ScriptItem))) → of_key id_held x.1.id (holding (λ a. a.len) (take s.issued_reads (script_reads s.script)) (map (λ r. r.id) trail.r)) ≡ w ∷ others → entry_of w.request ≡ x.0 → w.request.1.txn.write ≡ false →
      length (note_at s x.0.place).resps ≡ w.done
  r-done x w others first same read =
      let at = held-at false s.issued_reads s.script (λ a. a.len) (map (λ r. r.id) trail.r) x.1.id w others x.0 first same
      in let note = keeps.passed.read_notes x.0.place w.request.1 at read
      in let replies : of_key number_of_reply w.request.1.txn.number (map read_reply trail.r) ≡ map read_reply (of_key number_of_read_data w.request.1.txn.number trail.r) = of_key-map number_of_reply read_reply w.request.1.txn.number trail.r
      in let shown : of_key id_held x.1.id (holding (λ a. a.len) (take s.issued_reads (script_reads s.script)) (map id_of_reply (map read_reply trail.r))) ≡ w ∷ others =
      ap (λ (ids : List ℕ). of_key id_held x.1.id (holding (λ a. a.len) (take s.issued_reads (script_reads s.script)) ids)) (map-map id_of_reply read_reply trail.r) ∙ first
      in let done = done-is schedule s.bus s.issued_reads s.script false (λ a. a.len) (map read_reply trail.r) x.1.id w others keeps.scheduled reads-before shown
      in ap length note.responses
      ∙ length-map (of_key number_of_read_data w.request.1.txn.number trail.r) (λ r. r.resp)
      ∙ sym (length-map (of_key number_of_read_data w.request.1.txn.number trail.r) read_reply)
      ∙ ap length (sym replies) ∙ done

  -- a beat is the last one of its read where as many came as come after the first one
  r-leaving-is : (x : Entry × RBeat) (w : Waiting (ℕ × ScriptItem)) (others : List (Waiting (ℕ × ScriptItem))) → manager_r links s ≡ Some x → of_key id_held x.1.id (holding (λ a. a.len) (take s.issued_reads (script_reads s.script)) (map (λ r. r.id) trail.r)) ≡ w ∷ others → entry_of w.request ≡ x.0 →
      manager_r_last links s ≡ beat_where (w.done == w.request.1.txn.request.len) (Some x)
  r-leaving-is x w others taken first same =
      let due = taken-waits links s keeps.is_manager false x.0 (r-taken links s keeps.is_manager x taken)
      in let at = held-at false s.issued_reads s.script (λ a. a.len) (map (λ r. r.id) trail.r) x.1.id w others x.0 first same
      in let one : due.item ≡ w.request.1 = same_Some due.item w.request.1 (sym due.at ∙ at)
      in let read : w.request.1.txn.write ≡ false = ap (λ (i : ScriptItem). i.txn.write) (sym one) ∙ due.direction
      in let done = r-done x w others first same read
      in let whole : (note_at s x.0.place).due_resps ≡ w.request.1.txn.request.len + 1 =
      due.due_resps ∙ ap (λ (i : ScriptItem). due_resps i.txn) one ∙ ap (λ (b : Bool). cond b 1 (w.request.1.txn.request.len + 1)) read
      in let last : is_last (note_at s x.0.place) ≡ (w.done == w.request.1.txn.request.len) =
      ap (λ (k : ℕ). k + 1 == (note_at s x.0.place).due_resps) done ∙ ap (λ (k : ℕ). w.done + 1 == k) whole ∙ next-equal w.done w.request.1.txn.request.len
      in ap (ending s.answers) taken ∙ ap (λ (b : Bool). beat_where b (Some x)) last

  pub read-entries-after : (manager_next (suc rounds) links s).read_entries ≡ map entry_of (held_items false (take (manager_next (suc rounds) links s).issued_reads (script_reads s.script)) (map (λ r. r.id) (manager_trail links s trail).r))
  read-entries-after =
      waits-next number_of_read_data (λ beat. beat.id) (λ beat. beat.last) (λ a. a.len) (take s.issued_reads (script_reads s.script)) (manager_ar links s) s.read_entries trail.r keeps.passed.read_entries reads-before (manager_r links s) (manager_r_last links s) r-own (λ none. ap (ending s.answers) none) r-leaving-is reads-after
      ∙ ap (λ (ps : List (ℕ × ScriptItem)). entries_held (holding (λ a. a.len) ps (map (λ r. r.id) (trail.r ++ option_to_list (option_map (λ answer. answer.1) (manager_r links s)))))) (sym (take-next (script_reads s.script) s.issued_reads (manager_ar links s) (ar-next links s)))
      ∙ ap (λ (rs : List RBeat). entries_held (holding (λ a. a.len) (take (manager_next (suc rounds) links s).issued_reads (script_reads s.script)) (map (λ r. r.id) rs))) (sym r-after)
