-- What the rows of the manager's table say where they move something.
use Rattle.std.proofs.Common.{◌≡◌, ℕ, ◌<◌, ◌≤◌, ◌==◌, ◌&&◌, Bool, true, false, List, Option, Some, None, length, refl, sym, subst}
use Rattle.std.specs.Prelude.{find, nat_lt, slice_get}
use Rattle.std.specs.Option.{option_map}
use Rattle.std.proofs.lemmas.Bool.{ltb-true, leb-true, and_parts}
use Rattle.axi_beats.specs.declared.beat.BBeat.{BBeat}
use Rattle.axi_beats.specs.declared.beat.RBeat.{RBeat}
use Rattle.axi_link.specs.LinkView.{LinkView}
use Rattle.manager_node.specs.ManagerState.{ManagerState, script_writes, script_reads}
use Rattle.manager_node.specs.ManagerTable.{below, answering, ready, manager_aw, manager_w, manager_ar, manager_b, manager_r, manager_rows, possible_aw, possible_ar, possible_b, possible_r, possible_w}
use Rattle.manager_node.specs.Script.{ScriptItem}
use Rattle.manager_node.specs.declared.entry.Entry.{Entry}
use Rattle.manager_node.proofs.WaitingLemmas.{oldest-id}
use Rattle.axi_link.specs.LinkWords.{head_of}
use Rattle.node_core.specs.Rows.{beat_where, fits}

module _ {X : Type 0} where
  -- what passes is there, and its condition holds
  pub beat_where-some : (b : Bool) (o : Option X) (x : X) → beat_where b o ≡ Some x → (b ≡ true) × (o ≡ Some x)
  beat_where-some true o x is = (refl, is)
  beat_where-some false o x is = absurd (cc)

  -- an answer is that of the oldest entry of its ID
  pub answering-found : (id_of : X → ℕ) (entries : List Entry) (head : Option X) (answer : Entry × X) → answering id_of entries head ≡ Some answer → find (λ (entry : Entry). entry.id == answer.0.id) entries ≡ Some answer.0
  answering-found id_of entries None answer is = absurd (cc)
  answering-found id_of entries (Some head) answer is =
      let go : (oldest : Option Entry) → find (λ (entry : Entry). entry.id == id_of head) entries ≡ oldest → option_map (λ (entry : Entry). (entry, head)) oldest ≡ Some answer → find (λ (entry : Entry). entry.id == answer.0.id) entries ≡ Some answer.0 =
      elim [
        | None ↦ λ found none. absurd (cc)
        | Some entry ↦ λ found some.
            let same : (entry, head) ≡ answer = cc
            in subst (λ (a : Entry × X). find (λ (e : Entry). e.id == a.0.id) entries ≡ Some a.0) same
            (subst (λ (id : ℕ). find (λ (e : Entry). e.id == id) entries ≡ Some entry) (sym (oldest-id (id_of head) entries entry found)) found)
      ]
      in go (find (λ (entry : Entry). entry.id == id_of head) entries) refl is

-- the next transaction that is ready is the next one
pub ready-some : (answered : ℕ) (o : Option (ℕ × ScriptItem)) (next : ℕ × ScriptItem) → ready answered o ≡ Some next → o ≡ Some next
ready-some answered None next is = absurd (cc)
ready-some answered (Some x) next is = (beat_where-some _ (Some x) next is).1

-- the next transaction that is ready waits for no more answers than have come
pub ready-after : (answered : ℕ) (o : Option (ℕ × ScriptItem)) (next : ℕ × ScriptItem) → ready answered o ≡ Some next → next.1.txn.after ≤ answered
ready-after answered None next is = absurd (cc)
ready-after answered (Some x) next is =
    let both = beat_where-some _ (Some x) next is
    in let same : x ≡ next = cc
    in subst (λ (p : ℕ × ScriptItem). p.1.txn.after ≤ answered) same (leb-true x.1.txn.after answered both.0)

-- what could be done on AW, or on AR, is to issue the next transaction, which fits and waits no longer
module _ (entries : List Entry) (room : Bool) (answered : ℕ) (o : Option (ℕ × ScriptItem)) (next : ℕ × ScriptItem) (is : beat_where (fits entries && room) (ready answered o) ≡ Some next) where
  issue-next : o ≡ Some next
  issue-next = ready-some answered o next (beat_where-some _ (ready answered o) next is).1

  issue-fits : length entries < 16
  issue-fits = ltb-true (length entries) 16 (and_parts (fits entries) _ (beat_where-some _ (ready answered o) next is).0).0

  issue-after : next.1.txn.after ≤ answered
  issue-after = ready-after answered o next (beat_where-some _ (ready answered o) next is).1

module _ (links : List LinkView) (s : ManagerState) where
  -- what is done could be done
  pub aw-possible : (next : ℕ × ScriptItem) → manager_aw links s ≡ Some next → possible_aw (below links s) s ≡ Some next
  aw-possible next is = (beat_where-some (manager_rows links s).aw (possible_aw (below links s) s) next is).1

  pub w-possible : (next : ℕ × ScriptItem) → manager_w links s ≡ Some next → possible_w (below links s) s ≡ Some next
  w-possible next is = (beat_where-some (manager_rows links s).w (possible_w (below links s) s) next is).1

  pub b-possible : (answer : Entry × BBeat) → manager_b links s ≡ Some answer → possible_b (below links s) s ≡ Some answer
  b-possible answer is = (beat_where-some (manager_rows links s).b (possible_b (below links s) s) answer is).1

  pub ar-possible : (next : ℕ × ScriptItem) → manager_ar links s ≡ Some next → possible_ar (below links s) s ≡ Some next
  ar-possible next is = (beat_where-some (manager_rows links s).ar (possible_ar (below links s) s) next is).1

  pub r-possible : (answer : Entry × RBeat) → manager_r links s ≡ Some answer → possible_r (below links s) s ≡ Some answer
  r-possible answer is = (beat_where-some (manager_rows links s).r (possible_r (below links s) s) answer is).1

  pub aw-next : (next : ℕ × ScriptItem) → manager_aw links s ≡ Some next → slice_get (script_writes s.script) s.issued_writes ≡ Some next
  aw-next next is = issue-next s.write_entries _ s.answered (slice_get (script_writes s.script) s.issued_writes) next (aw-possible next is)

  pub aw-fits : (next : ℕ × ScriptItem) → manager_aw links s ≡ Some next → length s.write_entries < 16
  aw-fits next is = issue-fits s.write_entries _ s.answered (slice_get (script_writes s.script) s.issued_writes) next (aw-possible next is)

  pub ar-next : (next : ℕ × ScriptItem) → manager_ar links s ≡ Some next → slice_get (script_reads s.script) s.issued_reads ≡ Some next
  ar-next next is = issue-next s.read_entries _ s.answered (slice_get (script_reads s.script) s.issued_reads) next (ar-possible next is)

  pub ar-fits : (next : ℕ × ScriptItem) → manager_ar links s ≡ Some next → length s.read_entries < 16
  ar-fits next is = issue-fits s.read_entries _ s.answered (slice_get (script_reads s.script) s.issued_reads) next (ar-possible next is)

  pub w-issued : (next : ℕ × ScriptItem) → manager_w links s ≡ Some next → s.sent_writes < s.issued_writes
  w-issued next is = ltb-true s.sent_writes s.issued_writes (and_parts (nat_lt s.sent_writes s.issued_writes) _ (beat_where-some _ (slice_get (script_writes s.script) s.sent_writes) next (w-possible next is)).0).0

  pub aw-after : (next : ℕ × ScriptItem) → manager_aw links s ≡ Some next → next.1.txn.after ≤ s.answered
  aw-after next is = issue-after s.write_entries _ s.answered (slice_get (script_writes s.script) s.issued_writes) next (aw-possible next is)

  pub ar-after : (next : ℕ × ScriptItem) → manager_ar links s ≡ Some next → next.1.txn.after ≤ s.answered
  ar-after next is = issue-after s.read_entries _ s.answered (slice_get (script_reads s.script) s.issued_reads) next (ar-possible next is)

  pub w-next : (next : ℕ × ScriptItem) → manager_w links s ≡ Some next → slice_get (script_writes s.script) s.sent_writes ≡ Some next
  w-next next is = (beat_where-some _ (slice_get (script_writes s.script) s.sent_writes) next (w-possible next is)).1

  -- an answer that is taken is one of the oldest entry of its ID
  pub b-found : (answer : Entry × BBeat) → manager_b links s ≡ Some answer → find (λ (entry : Entry). entry.id == answer.0.id) s.write_entries ≡ Some answer.0
  b-found answer is = answering-found (λ beat. beat.id) s.write_entries (head_of (below links s).b) answer (b-possible answer is)

  pub r-found : (answer : Entry × RBeat) → manager_r links s ≡ Some answer → find (λ (entry : Entry). entry.id == answer.0.id) s.read_entries ≡ Some answer.0
  r-found answer is = answering-found (λ beat. beat.id) s.read_entries (head_of (below links s).r) answer (r-possible answer is)
