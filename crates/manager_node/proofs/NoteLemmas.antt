-- What a round does to the note of each transaction.
use Rattle.std.proofs.Common.{◌≡◌, ◌≢◌, ◌⊎◌, ℕ, ◌+◌, ◌<◌, ◌≤◌, ◌==◌, Bool, true, false, List, [], Option, Some, None, length, map, drop, get_or, refl, sym, ◌∙◌, ap, subst, inl, inr}
use Rattle.std.specs.Option.{option_map}
use Rattle.std.specs.Prelude.{All, find, slice_get}
use Rattle.std.proofs.lemmas.Bool.{cases_eq}
use Rattle.std.proofs.lemmas.List.{get_or-set_same, get_or-set_other, length-set}
use Rattle.axi_beats.specs.declared.beat.BBeat.{BBeat}
use Rattle.axi_beats.specs.declared.beat.RBeat.{RBeat}
use Rattle.axi_link.specs.LinkView.{LinkView}
use Rattle.manager_node.specs.Answer.{AnswerView, unanswered, is_last, issued_in, answered_in}
use Rattle.manager_node.specs.Beats.{bytes_on_valid_lanes}
use Rattle.manager_node.specs.ManagerOrder.{note_at}
use Rattle.manager_node.specs.ManagerState.{ManagerState, IsDue, IsManager, AreWaiting, waiting_places, entries_of, issued_of, of_direction}
use Rattle.manager_node.specs.ManagerTable.{manager_aw, manager_ar, manager_b, manager_r, manager_next, ending, read_in, note_write, note_read, note_issue}
use Rattle.manager_node.specs.Script.{ScriptItem}
use Rattle.manager_node.specs.declared.entry.Entry.{Entry}
use Rattle.manager_node.proofs.DueLemmas.{due-apart, read-is}
use Rattle.manager_node.proofs.RowLemmas.{aw-after, aw-next, ar-after, ar-next, b-found, r-found}
use Rattle.manager_node.proofs.WaitingLemmas.{All-oldest, others-left, waiting-next}
use Rattle.plain_lists.specs.Keys.{without_oldest}
use Rattle.plain_lists.proofs.PartLemmas.{All-middle}
use Rattle.node_core.specs.Rows.{beat_where}

-- whether something moves at this place
pub hits : {X : Type 0} (place_of : X → ℕ) (o : Option X) (q : ℕ) → ((x : X) × (o ≡ Some x) × (q ≡ place_of x)) ⊎ ((x : X) → o ≡ Some x → q ≢ place_of x)
hits place_of None q = inr (λ x is. absurd (cc))
hits {X} place_of (Some x) q = elim (cases_eq q (place_of x)) [
  | inl here ↦ inl (x, refl, here)
  | inr there ↦ inr (λ y is here. let same : x ≡ y = cc in there (here ∙ ap place_of (sym same)))
]

-- notes of one step, at its place and elsewhere
module _ (round : ℕ) (answers : List AnswerView) where
  write-length : (o : Option (Entry × BBeat)) → length (note_write round o answers) ≡ length answers
  write-length None = refl
  write-length (Some x) = length-set answers x.0.place (answered_in round x.1.resp [] (get_or answers x.0.place (unanswered 0)))

  write-other : (o : Option (Entry × BBeat)) (q : ℕ) → ((x : Entry × BBeat) → o ≡ Some x → q ≢ x.0.place) → get_or (note_write round o answers) q (unanswered 0) ≡ get_or answers q (unanswered 0)
  write-other None q other = refl
  write-other (Some x) q other = get_or-set_other answers x.0.place q (answered_in round x.1.resp [] (get_or answers x.0.place (unanswered 0))) (unanswered 0) (other x refl)

  write-here : (o : Option (Entry × BBeat)) (x : Entry × BBeat) → o ≡ Some x → x.0.place < length answers → get_or (note_write round o answers) x.0.place (unanswered 0) ≡ answered_in round x.1.resp [] (get_or answers x.0.place (unanswered 0))
  write-here o x is within =
      ap (λ (p : Option (Entry × BBeat)). get_or (note_write round p answers) x.0.place (unanswered 0)) is
      ∙ get_or-set_same answers x.0.place (answered_in round x.1.resp [] (get_or answers x.0.place (unanswered 0))) (unanswered 0) within

  read-length : (bus : ℕ) (script : List ScriptItem) (o : Option (Entry × RBeat)) → length (note_read round bus script o answers) ≡ length answers
  read-length bus script None = refl
  read-length bus script (Some x) = length-set answers x.0.place (read_in round bus (slice_get script x.0.place) x.1 (get_or answers x.0.place (unanswered 0)))

  read-other : (bus : ℕ) (script : List ScriptItem) (o : Option (Entry × RBeat)) (q : ℕ) → ((x : Entry × RBeat) → o ≡ Some x → q ≢ x.0.place) → get_or (note_read round bus script o answers) q (unanswered 0) ≡ get_or answers q (unanswered 0)
  read-other bus script None q other = refl
  read-other bus script (Some x) q other = get_or-set_other answers x.0.place q (read_in round bus (slice_get script x.0.place) x.1 (get_or answers x.0.place (unanswered 0))) (unanswered 0) (other x refl)

  read-here : (bus : ℕ) (script : List ScriptItem) (o : Option (Entry × RBeat)) (x : Entry × RBeat) → o ≡ Some x → x.0.place < length answers → get_or (note_read round bus script o answers) x.0.place (unanswered 0) ≡ read_in round bus (slice_get script x.0.place) x.1 (get_or answers x.0.place (unanswered 0))
  read-here bus script o x is within =
      ap (λ (p : Option (Entry × RBeat)). get_or (note_read round bus script p answers) x.0.place (unanswered 0)) is
      ∙ get_or-set_same answers x.0.place (read_in round bus (slice_get script x.0.place) x.1 (get_or answers x.0.place (unanswered 0))) (unanswered 0) within

  issue-length : (o : Option (ℕ × ScriptItem)) → length (note_issue round o answers) ≡ length answers
  issue-length None = refl
  issue-length (Some p) = length-set answers p.0 (issued_in round (get_or answers p.0 (unanswered 0)))

  issue-other : (o : Option (ℕ × ScriptItem)) (q : ℕ) → ((p : ℕ × ScriptItem) → o ≡ Some p → q ≢ p.0) → get_or (note_issue round o answers) q (unanswered 0) ≡ get_or answers q (unanswered 0)
  issue-other None q other = refl
  issue-other (Some p) q other = get_or-set_other answers p.0 q (issued_in round (get_or answers p.0 (unanswered 0))) (unanswered 0) (other p refl)

  issue-here : (o : Option (ℕ × ScriptItem)) (p : ℕ × ScriptItem) → o ≡ Some p → p.0 < length answers → get_or (note_issue round o answers) p.0 (unanswered 0) ≡ issued_in round (get_or answers p.0 (unanswered 0))
  issue-here o p is within =
      ap (λ (n : Option (ℕ × ScriptItem)). get_or (note_issue round n answers) p.0 (unanswered 0)) is
      ∙ get_or-set_same answers p.0 (issued_in round (get_or answers p.0 (unanswered 0))) (unanswered 0) within

-- the transactions of a direction that wait
pub wait-of : (s : ManagerState) (write : Bool) → IsManager s → AreWaiting s.script write s.answers (waiting_places (entries_of write s) (issued_of write s) (of_direction write s.script))
wait-of s true is = is.writes_waiting
wait-of s false is = is.reads_waiting

module _ (links : List LinkView) (s : ManagerState) where
  -- the entry whose answer is taken, and the transaction that is issued
  abbrev pub taken_of : Bool → Option Entry
  taken_of true = option_map (λ answer. answer.0) (manager_b links s)
  taken_of false = option_map (λ answer. answer.0) (manager_r links s)

  abbrev pub next_of : Bool → Option (ℕ × ScriptItem)
  next_of true = manager_aw links s
  next_of false = manager_ar links s

  -- the answer of an entry that is taken
  pub mapped : {X : Type 0} (o : Option (Entry × X)) (e : Entry) → option_map (λ answer. answer.0) o ≡ Some e → (x : Entry × X) × (o ≡ Some x) × (x.0 ≡ e)
  mapped None e is = absurd (cc)
  mapped (Some x) e is = (x, refl, let same : x.0 ≡ e = cc in same)

  pub taken-found : (write : Bool) (e : Entry) → taken_of write ≡ Some e → find (λ (entry : Entry). entry.id == e.id) (entries_of write s) ≡ Some e
  taken-found true e is =
      let x : (x : Entry × BBeat) × (manager_b links s ≡ Some x) × (x.0 ≡ e) = mapped (manager_b links s) e is
      in subst (λ (entry : Entry). find (λ (other : Entry). other.id == entry.id) s.write_entries ≡ Some entry) x.2 (b-found links s x.0 x.1)
  taken-found false e is =
      let x : (x : Entry × RBeat) × (manager_r links s ≡ Some x) × (x.0 ≡ e) = mapped (manager_r links s) e is
      in subst (λ (entry : Entry). find (λ (other : Entry). other.id == entry.id) s.read_entries ≡ Some entry) x.2 (r-found links s x.0 x.1)

  pub next-found : (write : Bool) (p : ℕ × ScriptItem) → next_of write ≡ Some p → slice_get (of_direction write s.script) (issued_of write s) ≡ Some p
  next-found true p is = aw-next links s p is
  next-found false p is = ar-next links s p is

  pub next-after : (write : Bool) (p : ℕ × ScriptItem) → next_of write ≡ Some p → p.1.txn.after ≤ s.answered
  next-after true p is = aw-after links s p is
  next-after false p is = ar-after links s p is

  -- what holds of the places of those that wait holds of an entry that is answered, and of one that is issued
  pub taken-place : (write : Bool) (e : Entry) (P : ℕ → Type 0) → taken_of write ≡ Some e → All P (waiting_places (entries_of write s) (issued_of write s) (of_direction write s.script)) → P e.place
  taken-place write e P is all = All-oldest P e.id (entries_of write s) (map (λ (p : ℕ × ScriptItem). p.0) (drop (issued_of write s) (of_direction write s.script))) e (taken-found write e is) all

  pub next-place : (write : Bool) (p : ℕ × ScriptItem) (P : ℕ → Type 0) → next_of write ≡ Some p → All P (waiting_places (entries_of write s) (issued_of write s) (of_direction write s.script)) → P p.0
  next-place write p P is all =
      All-middle P (map (λ (entry : Entry). entry.place) (entries_of write s)) p.0 (map (λ (p : ℕ × ScriptItem). p.0) (drop (issued_of write s + 1) (of_direction write s.script)))
      (subst (All P) (waiting-next (entries_of write s) (issued_of write s) (of_direction write s.script) p (next-found write p is)) all)

  module _ (is : IsManager s) where
    -- they are apart in one direction
    pub own-apart : (write : Bool) (e : Entry) (p : ℕ × ScriptItem) → taken_of write ≡ Some e → next_of write ≡ Some p → e.place ≢ p.0
    own-apart write e p taken next same =
        let others = others-left e.id (entries_of write s) (map (λ (p : ℕ × ScriptItem). p.0) (drop (issued_of write s) (of_direction write s.script))) e (taken-found write e taken) (wait-of s write is).distinct
        in All-middle (λ other. other ≢ e.place) (map (λ (entry : Entry). entry.place) (without_oldest (λ (entry : Entry). entry.id) e.id (entries_of write s))) p.0 (map (λ (p : ℕ × ScriptItem). p.0) (drop (issued_of write s + 1) (of_direction write s.script)))
        (subst (All (λ other. other ≢ e.place)) (waiting-next (without_oldest (λ (entry : Entry). entry.id) e.id (entries_of write s)) (issued_of write s) (of_direction write s.script) p (next-found write p next)) others)
        (sym same)

    -- and answers are due of both
    pub taken-waits : (write : Bool) (e : Entry) → taken_of write ≡ Some e → IsDue s.script write e.place (note_at s e.place)
    taken-waits write e taken = taken-place write e (λ place. IsDue s.script write place (note_at s place)) taken (wait-of s write is).due

    pub next-waits : (write : Bool) (p : ℕ × ScriptItem) → next_of write ≡ Some p → IsDue s.script write p.0 (note_at s p.0)
    next-waits write p next = next-place write p (λ place. IsDue s.script write place (note_at s place)) next (wait-of s write is).due

    taken-within : (write : Bool) (e : Entry) → taken_of write ≡ Some e → e.place < length s.answers
    taken-within write e taken = taken-place write e (λ place. place < length s.answers) taken (wait-of s write is).within

    next-within : (write : Bool) (p : ℕ × ScriptItem) → next_of write ≡ Some p → p.0 < length s.answers
    next-within write p next = next-place write p (λ place. place < length s.answers) next (wait-of s write is).within

    -- a write and a read are apart
    ways-apart : (a b : ℕ) → IsDue s.script true a (note_at s a) → IsDue s.script false b (note_at s b) → a ≢ b
    ways-apart a b write read = due-apart s.script true false a b (note_at s a) (note_at s b) (λ same. absurd (cc)) write read

    pub b-taken : (x : Entry × BBeat) → manager_b links s ≡ Some x → taken_of true ≡ Some x.0
    b-taken x is = ap (option_map (λ (answer : Entry × BBeat). answer.0)) is

    pub r-taken : (x : Entry × RBeat) → manager_r links s ≡ Some x → taken_of false ≡ Some x.0
    r-taken x is = ap (option_map (λ (answer : Entry × RBeat). answer.0)) is

    module _ (round : ℕ) where
      abbrev after_b : List AnswerView
      after_b = note_write round (manager_b links s) s.answers

      abbrev after_r : List AnswerView
      after_r = note_read round s.bus s.script (manager_r links s) after_b

      abbrev after_aw : List AnswerView
      after_aw = note_issue round (manager_aw links s) after_r

      length-r : length after_r ≡ length s.answers
      length-r = read-length round after_b s.bus s.script (manager_r links s) ∙ write-length round s.answers (manager_b links s)

      -- the answer to a read is the last one after B where it was before
      pub ending-same : ending after_b (manager_r links s) ≡ ending s.answers (manager_r links s)
      ending-same =
          let go : (o : Option (Entry × RBeat)) → manager_r links s ≡ o → ending after_b o ≡ ending s.answers o =
          elim [
            | None ↦ λ none. refl
            | Some x ↦ λ some.
                let same : get_or after_b x.0.place (unanswered 0) ≡ get_or s.answers x.0.place (unanswered 0) =
                write-other round s.answers (manager_b links s) x.0.place (λ y other there. ways-apart y.0.place x.0.place (taken-waits true y.0 (b-taken y other)) (taken-waits false x.0 (r-taken x some)) (sym there))
                in ap (λ (a : AnswerView). beat_where (is_last a) (Some x)) same
          ]
          in go (manager_r links s) refl

      -- the note of a write that is answered
      pub b-noted : (x : Entry × BBeat) → manager_b links s ≡ Some x → note_at (manager_next round links s) x.0.place ≡ answered_in round x.1.resp [] (note_at s x.0.place)
      b-noted x at =
          let taken = b-taken x at
          in issue-other round after_aw (manager_ar links s) x.0.place (λ p next. ways-apart x.0.place p.0 (taken-waits true x.0 taken) (next-waits false p next))
          ∙ issue-other round after_r (manager_aw links s) x.0.place (λ p next. own-apart true x.0 p taken next)
          ∙ read-other round after_b s.bus s.script (manager_r links s) x.0.place (λ y other. ways-apart x.0.place y.0.place (taken-waits true x.0 taken) (taken-waits false y.0 (r-taken y other)))
          ∙ write-here round s.answers (manager_b links s) x at (taken-within true x.0 taken)

      -- the note of a read of which a beat comes
      pub r-noted : (x : Entry × RBeat) → manager_r links s ≡ Some x → note_at (manager_next round links s) x.0.place ≡ read_in round s.bus (slice_get s.script x.0.place) x.1 (note_at s x.0.place)
      r-noted x at =
          let taken = r-taken x at
          in let own = taken-waits false x.0 taken
          in issue-other round after_aw (manager_ar links s) x.0.place (λ p next. own-apart false x.0 p taken next)
          ∙ issue-other round after_r (manager_aw links s) x.0.place (λ p next same. ways-apart p.0 x.0.place (next-waits true p next) own (sym same))
          ∙ read-here round after_b s.bus s.script (manager_r links s) x at (subst (λ (size : ℕ). x.0.place < size) (sym (write-length round s.answers (manager_b links s))) (taken-within false x.0 taken))
          ∙ ap (read_in round s.bus (slice_get s.script x.0.place) x.1) (write-other round s.answers (manager_b links s) x.0.place (λ y other same. ways-apart y.0.place x.0.place (taken-waits true y.0 (b-taken y other)) own (sym same)))

      -- the note of a write that is issued
      pub aw-noted : (p : ℕ × ScriptItem) → manager_aw links s ≡ Some p → note_at (manager_next round links s) p.0 ≡ issued_in round (note_at s p.0)
      aw-noted p at =
          let own = next-waits true p at
          in issue-other round after_aw (manager_ar links s) p.0 (λ r next. ways-apart p.0 r.0 own (next-waits false r next))
          ∙ issue-here round after_r (manager_aw links s) p at (subst (λ (size : ℕ). p.0 < size) (sym length-r) (next-within true p at))
          ∙ ap (issued_in round)
          (read-other round after_b s.bus s.script (manager_r links s) p.0 (λ y other. ways-apart p.0 y.0.place own (taken-waits false y.0 (r-taken y other)))
          ∙ write-other round s.answers (manager_b links s) p.0 (λ y other same. own-apart true y.0 p (b-taken y other) at (sym same)))

      -- the note of a read that is issued
      pub ar-noted : (p : ℕ × ScriptItem) → manager_ar links s ≡ Some p → note_at (manager_next round links s) p.0 ≡ issued_in round (note_at s p.0)
      ar-noted p at =
          let own = next-waits false p at
          in issue-here round after_aw (manager_ar links s) p at (subst (λ (size : ℕ). p.0 < size) (sym (issue-length round after_r (manager_aw links s) ∙ length-r)) (next-within false p at))
          ∙ ap (issued_in round)
          (issue-other round after_r (manager_aw links s) p.0 (λ r next same. ways-apart r.0 p.0 (next-waits true r next) own (sym same))
          ∙ read-other round after_b s.bus s.script (manager_r links s) p.0 (λ y other same. own-apart false y.0 p (r-taken y other) at (sym same))
          ∙ write-other round s.answers (manager_b links s) p.0 (λ y other same. ways-apart y.0.place p.0 (taken-waits true y.0 (b-taken y other)) own (sym same)))

      -- the note of any other transaction
      other-noted : (q : ℕ) → ((x : Entry × BBeat) → manager_b links s ≡ Some x → q ≢ x.0.place) → ((x : Entry × RBeat) → manager_r links s ≡ Some x → q ≢ x.0.place) → ((p : ℕ × ScriptItem) → manager_aw links s ≡ Some p → q ≢ p.0) → ((p : ℕ × ScriptItem) → manager_ar links s ≡ Some p → q ≢ p.0) → note_at (manager_next round links s) q ≡ note_at s q
      other-noted q not_b not_r not_aw not_ar =
          issue-other round after_aw (manager_ar links s) q not_ar
          ∙ issue-other round after_r (manager_aw links s) q not_aw
          ∙ read-other round after_b s.bus s.script (manager_r links s) q not_r
          ∙ write-other round s.answers (manager_b links s) q not_b

-- The note of a transaction after a round: as it was, or with the answer to a write or the next one to a read, or with
-- an issue.
pub data Change (links : List LinkView) (s : ManagerState) (round q : ℕ) : Type 0 where
  Kept : note_at (manager_next round links s) q ≡ note_at s q → Change links s round q
  Wrote : (x : Entry × BBeat) → manager_b links s ≡ Some x → q ≡ x.0.place → note_at (manager_next round links s) q ≡ answered_in round x.1.resp [] (note_at s q) → Change links s round q
  Read : (x : Entry × RBeat) → manager_r links s ≡ Some x → q ≡ x.0.place → (item : ScriptItem) → slice_get s.script q ≡ Some item →
      note_at (manager_next round links s) q ≡ answered_in round x.1.resp (bytes_on_valid_lanes s.bus item.txn.request (length (note_at s q).resps) x.1.lanes) (note_at s q) → Change links s round q
  Issued : (write : Bool) (p : ℕ × ScriptItem) → next_of links s write ≡ Some p → q ≡ p.0 → note_at (manager_next round links s) q ≡ issued_in round (note_at s q) → Change links s round q

pub change-of : (links : List LinkView) (s : ManagerState) (round q : ℕ) → IsManager s → Change links s round q
change-of links s round q is =
    elim (hits (λ (x : Entry × BBeat). x.0.place) (manager_b links s) q) [
      | inl x ↦ Wrote x.0 x.1 x.2 (subst (λ (r : ℕ). note_at (manager_next round links s) r ≡ answered_in round x.0.1.resp [] (note_at s r)) (sym x.2) (b-noted links s is round x.0 x.1))
      | inr not_b ↦ elim (hits (λ (x : Entry × RBeat). x.0.place) (manager_r links s) q) [
        | inl x ↦
            let due = taken-waits links s is false x.0.0 (r-taken links s is x.0 x.1)
            in let noted : note_at (manager_next round links s) q ≡ read_in round s.bus (slice_get s.script q) x.0.1 (note_at s q) = subst (λ (r : ℕ). note_at (manager_next round links s) r ≡ read_in round s.bus (slice_get s.script r) x.0.1 (note_at s r)) (sym x.2) (r-noted links s is round x.0 x.1)
            in let at : slice_get s.script q ≡ Some due.item = ap (slice_get s.script) x.2 ∙ due.at
            in Read x.0 x.1 x.2 due.item at (noted ∙ read-is s.script q round s.bus x.0.1 (note_at s q) due.item at)
        | inr not_r ↦ elim (hits (λ (p : ℕ × ScriptItem). p.0) (manager_aw links s) q) [
          | inl p ↦ Issued true p.0 p.1 p.2 (subst (λ (r : ℕ). note_at (manager_next round links s) r ≡ issued_in round (note_at s r)) (sym p.2) (aw-noted links s is round p.0 p.1))
          | inr not_aw ↦ elim (hits (λ (p : ℕ × ScriptItem). p.0) (manager_ar links s) q) [
            | inl p ↦ Issued false p.0 p.1 p.2 (subst (λ (r : ℕ). note_at (manager_next round links s) r ≡ issued_in round (note_at s r)) (sym p.2) (ar-noted links s is round p.0 p.1))
            | inr not_ar ↦ Kept (other-noted links s is round q not_b not_r not_aw not_ar)
          ]
        ]
      ]
    ]
