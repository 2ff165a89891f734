-- The entries of a direction are its transactions that are issued and not answered, in order of place.
use Rattle.std.proofs.Common.{◌≡◌, ◌≢◌, ℕ, ◌+◌, ◌<◌, ◌≤◌, ◌==◌, ◌&&◌, suc, Bool, true, false, cond, List, [], ◌∷◌, ◌++◌, Option, Some, None, map, take, refl, sym, ◌∙◌, ap, subst, inl, inr, arith, add-zero, add-one, eq-eqb}
use Rattle.std.specs.Option.{option_map}
use Rattle.std.specs.Prelude.{filter, find, is_some, nat_lt, not, slice_get}
use Rattle.std.proofs.lemmas.Bool.{and_right, cases_eq, cases_order, lt-ltb, ltb-true, ne_eqb}
use Rattle.std.proofs.lemmas.List.{map-append}
use Rattle.std.proofs.lemmas.List.Elements.{filter-append}
use Rattle.std.proofs.lemmas.Option.{same_Some}
use Rattle.axi_beats.specs.declared.beat.BBeat.{BBeat}
use Rattle.axi_beats.specs.declared.beat.RBeat.{RBeat}
use Rattle.axi_link.specs.LinkView.{LinkView}
use Rattle.manager_node.specs.Answer.{AnswerView, is_last}
use Rattle.manager_node.specs.ManagerOrder.{note_at}
use Rattle.manager_node.specs.ManagerState.{ManagerState, IsManager, entries_of, entry_of, is_answered, issued_of, of_direction}
use Rattle.manager_node.specs.ManagerTable.{left_waiting, manager_aw, manager_ar, manager_b, manager_r, manager_r_last, manager_next, more, with_issued}
use Rattle.manager_node.specs.Script.{ScriptItem}
use Rattle.manager_node.specs.declared.entry.Entry.{Entry}
use Rattle.manager_node.proofs.DueLemmas.{last-answers, read-is}
use Rattle.manager_node.proofs.IssueLemmas.{issued-next, next-noted, one-place}
use Rattle.manager_node.proofs.NoteLemmas.{Kept, Wrote, Read, Issued, change-of, b-noted, r-noted, b-taken, r-taken, mapped, next_of, next-found, next-waits, taken_of, taken-found, taken-waits}
use Rattle.manager_node.proofs.PlaceLemmas.{direction-rises}
use Rattle.manager_node.proofs.TurnLemmas.{Same, Came, Went, leaving-taken, leaving_of, turn-of}
use Rattle.plain_lists.specs.Keys.{without_oldest}
use Rattle.plain_lists.proofs.PlaceLemmas.{Rise, filter-all, filter-both, filter-same, find-first, find-has, map-from, map-has, rise-filter, rise-tail, rise-take, take-from, take-has, take-one, filter-from, filter-has}

-- the transaction isn't answered
abbrev pub is_open : ManagerState → ℕ × ScriptItem → Bool
is_open s p = not (is_answered (note_at s p.0))

-- the transactions of a direction that are issued
abbrev pub issued_ones : Bool → ManagerState → List (ℕ × ScriptItem)
issued_ones write s = take (issued_of write s) (of_direction write s.script)

pub ones-rise : (write : Bool) (s : ManagerState) → Rise (issued_ones write s)
ones-rise write s = rise-take (issued_of write s) (of_direction write s.script) (direction-rises write s.script)

-- the entries without the one whose answer is taken
abbrev pub left_entries : Option Entry → List Entry → List Entry
left_entries None entries = entries
left_entries (Some e) entries = without_oldest (λ (entry : Entry). entry.id) e.id entries

left-same : {X : Type 0} (o : Option (Entry × X)) (entries : List Entry) → left_waiting o entries ≡ left_entries (option_map (λ answer. answer.0) o) entries
left-same None entries = refl
left-same (Some x) entries = refl

-- the entries of a direction after a round
pub entries-next : (links : List LinkView) (s : ManagerState) (round : ℕ) (write : Bool) → entries_of write (manager_next round links s) ≡ with_issued (next_of links s write) (left_entries (leaving_of links s write) (entries_of write s))
entries-next links s round true = ap (with_issued (manager_aw links s)) (left-same (manager_b links s) s.write_entries)
entries-next links s round false = ap (with_issued (manager_ar links s)) (left-same (manager_r_last links s) s.read_entries)

pub answered-some : (a : AnswerView) → 0 < a.answered → is_answered a ≡ true
answered-some a some = lt-ltb 0 a.answered some

pub answered-none : (a : AnswerView) → a.answered ≡ 0 → is_answered a ≡ false
answered-none a none = ap (λ (n : ℕ). nat_lt 0 n) none

pub some-answered : (a : AnswerView) → is_answered a ≡ true → 0 < a.answered
some-answered a is = ltb-true 0 a.answered is

and-true : (b : Bool) → b ≡ (b && true)
and-true true = refl
and-true false = refl

-- the entries without the oldest of an ID are those of the other places
pub left-places : (e : Entry) (ps : List (ℕ × ScriptItem)) → Rise ps → find (λ (entry : Entry). entry.id == e.id) (map entry_of ps) ≡ Some e →
    without_oldest (λ (entry : Entry). entry.id) e.id (map entry_of ps) ≡ map entry_of (filter (λ p. not (p.0 == e.place)) ps)
left-places e [] rise found = absurd (cc)
left-places e (p ∷ ps) rise found =
    let here : cond true (Some (entry_of p)) (find (λ (entry : Entry). entry.id == e.id) (map entry_of ps)) ≡ Some e → map entry_of ps ≡ map entry_of (cond (not (p.0 == e.place)) (p ∷ filter (λ q. not (q.0 == e.place)) ps) (filter (λ q. not (q.0 == e.place)) ps)) =
    λ is.
    let same : entry_of p ≡ e = same_Some (entry_of p) e is
    in let place : p.0 ≡ e.place = ap (λ (entry : Entry). entry.place) same
    in let others : filter (λ q. not (q.0 == e.place)) ps ≡ ps =
    filter-all (λ q. not (q.0 == e.place)) ps (λ k q at. let less = rise 0 (suc k) p q refl at (omega arith) in ap not (ne_eqb q.0 e.place (λ one. omega arith)))
    in ap (map entry_of) (sym others)
    ∙ ap (λ (b : Bool). map entry_of (cond (not b) (p ∷ filter (λ q. not (q.0 == e.place)) ps) (filter (λ q. not (q.0 == e.place)) ps))) (sym (eq-eqb p.0 e.place place))
    in let there : find (λ (entry : Entry). entry.id == e.id) (map entry_of ps) ≡ Some e → entry_of p ∷ without_oldest (λ (entry : Entry). entry.id) e.id (map entry_of ps) ≡ map entry_of (cond (not (p.0 == e.place)) (p ∷ filter (λ q. not (q.0 == e.place)) ps) (filter (λ q. not (q.0 == e.place)) ps)) =
    λ is.
    let has = find-has (λ (entry : Entry). entry.id == e.id) (map entry_of ps) e is
    in let from : (q : ℕ × ScriptItem) × (slice_get ps has.1 ≡ Some q) × (entry_of q ≡ e) = map-from entry_of ps has.1 e has.2
    in let less = rise 0 (suc has.1) p from.0 refl from.1 (omega arith)
    in let place : from.0.0 ≡ e.place = ap (λ (entry : Entry). entry.place) from.2
    in ap (λ (es : List Entry). entry_of p ∷ es) (left-places e ps (rise-tail p ps rise) is)
    ∙ ap (λ (b : Bool). map entry_of (cond (not b) (p ∷ filter (λ q. not (q.0 == e.place)) ps) (filter (λ q. not (q.0 == e.place)) ps))) (sym (ne_eqb p.0 e.place (λ one. omega arith)))
    in let go : (b : Bool) → cond b (Some (entry_of p)) (find (λ (entry : Entry). entry.id == e.id) (map entry_of ps)) ≡ Some e →
    cond b (map entry_of ps) (entry_of p ∷ without_oldest (λ (entry : Entry). entry.id) e.id (map entry_of ps)) ≡ map entry_of (cond (not (p.0 == e.place)) (p ∷ filter (λ q. not (q.0 == e.place)) ps) (filter (λ q. not (q.0 == e.place)) ps)) =
    elim [ true ↦ here | false ↦ there ]
    in go (p.1.txn.request.id == e.id) found

module _ (links : List LinkView) (s : ManagerState) (is : IsManager s) (waits : (write : Bool) → entries_of write s ≡ map entry_of (filter (is_open s) (issued_ones write s))) where
  -- an entry whose answer is taken is that of an issued transaction
  pub taken-is : (write : Bool) (e : Entry) → taken_of links s write ≡ Some e → (j : ℕ) × (p : ℕ × ScriptItem) × (slice_get (of_direction write s.script) j ≡ Some p) × (j < issued_of write s) × (entry_of p ≡ e)
  taken-is write e taken =
      let has = find-has (λ (entry : Entry). entry.id == e.id) (entries_of write s) e (taken-found links s write e taken)
      in let from : (p : ℕ × ScriptItem) × (slice_get (filter (is_open s) (issued_ones write s)) has.1 ≡ Some p) × (entry_of p ≡ e) =
      map-from entry_of (filter (is_open s) (issued_ones write s)) has.1 e (ap (λ (es : List Entry). slice_get es has.1) (sym (waits write)) ∙ has.2)
      in let one : (is_open s from.0 ≡ true) × (k : ℕ) × (slice_get (issued_ones write s) k ≡ Some from.0) = filter-from (is_open s) (issued_ones write s) has.1 from.0 from.1
      in let first = take-from (issued_of write s) (of_direction write s.script) one.1 from.0 one.2
      in (one.1, from.0, first.1, first.0, from.2)

  -- and stands before all other issued ones of its ID that aren't answered
  pub taken-first : (write : Bool) (e : Entry) → taken_of links s write ≡ Some e → (j : ℕ) (p : ℕ × ScriptItem) → slice_get (of_direction write s.script) j ≡ Some p → j < issued_of write s → is_answered (note_at s p.0) ≡ false → p.1.txn.request.id ≡ e.id → e.place ≤ p.0
  taken-first write e taken j p at less none id =
      let open_ones : List (ℕ × ScriptItem) = filter (is_open s) (issued_ones write s)
      in let in_open : (n : ℕ) × (slice_get (filter (is_open s) (issued_ones write s)) n ≡ Some p) =
      filter-has (is_open s) (issued_ones write s) j p (take-has (issued_of write s) (of_direction write s.script) j p less at) (ap not none)
      in let found : find (λ (entry : Entry). entry.id == e.id) (map entry_of (filter (is_open s) (issued_ones write s))) ≡ Some e = ap (find (λ (entry : Entry). entry.id == e.id)) (sym (waits write)) ∙ taken-found links s write e taken
      in let first : (k : ℕ) × (slice_get (map entry_of (filter (is_open s) (issued_ones write s))) k ≡ Some e) × (k ≤ in_open.0) =
      find-first (λ (entry : Entry). entry.id == e.id) (map entry_of (filter (is_open s) (issued_ones write s))) e in_open.0 (entry_of p) found (map-has entry_of (filter (is_open s) (issued_ones write s)) in_open.0 p in_open.1) (eq-eqb p.1.txn.request.id e.id id)
      in let from : (q : ℕ × ScriptItem) × (slice_get (filter (is_open s) (issued_ones write s)) first.0 ≡ Some q) × (entry_of q ≡ e) = map-from entry_of (filter (is_open s) (issued_ones write s)) first.0 e first.1
      in let place : from.0.0 ≡ e.place = ap (λ (entry : Entry). entry.place) from.2
      in elim (cases_eq first.0 in_open.0) [
        | inl same ↦
            let one : from.0 ≡ p = same_Some from.0 p (sym from.1 ∙ ap (slice_get (filter (is_open s) (issued_ones write s))) same ∙ in_open.1)
            in let places : from.0.0 ≡ p.0 = ap (λ (q : ℕ × ScriptItem). q.0) one
            in omega arith
        | inr apart ↦ let rises = rise-filter (is_open s) (issued_ones write s) (ones-rise write s) first.0 in_open.0 from.0 p from.1 in_open.1 (below first.0 in_open.0 first.2 apart) in omega arith
      ]
    where
      below : (a b : ℕ) → a ≤ b → (a ≡ b → ⊥) → a < b
      below a b le ne = elim (cases_order a b) [ inl e ↦ absurd (ne e) | inr o ↦ elim o [ inl lt ↦ lt | inr gt ↦ absurd (omega arith) ] ]

  module _ (round : ℕ) (counts : 0 < round) where
    -- an entry that leaves is answered in the round
    pub came-noted : (write : Bool) (e : Entry) → leaving_of links s write ≡ Some e → (note_at (manager_next round links s) e.place).answered ≡ round
    came-noted write e leaves =
        let both = leaving-taken links s is write e leaves
        in let going : (w : Bool) → taken_of links s w ≡ Some e → (note_at (manager_next round links s) e.place).answered ≡ round =
        elim [
          | true ↦ λ taken.
              let x : (x : Entry × BBeat) × (manager_b links s ≡ Some x) × (x.0 ≡ e) = mapped links s (manager_b links s) e taken
              in subst (λ (entry : Entry). is_last (note_at s entry.place) ≡ true → (note_at (manager_next round links s) entry.place).answered ≡ round) x.2 (λ last. ap (λ (a : AnswerView). a.answered) (b-noted links s is round x.0 x.1) ∙ last-answers round x.0.1.resp [] (note_at s x.0.0.place) last) both.1
          | false ↦ λ taken.
              let x : (x : Entry × RBeat) × (manager_r links s ≡ Some x) × (x.0 ≡ e) = mapped links s (manager_r links s) e taken
              in let due = taken-waits links s is false x.0.0 (r-taken links s is x.0 x.1)
              in subst (λ (entry : Entry). is_last (note_at s entry.place) ≡ true → (note_at (manager_next round links s) entry.place).answered ≡ round) x.2
              (λ last. ap (λ (a : AnswerView). a.answered) (r-noted links s is round x.0 x.1 ∙ read-is s.script x.0.0.place round s.bus x.0.1 (note_at s x.0.0.place) due.item due.at) ∙ last-answers round x.0.1.resp [] (note_at s x.0.0.place) last) both.1
        ]
        in going write both.0

    -- of a transaction whose answer isn't taken nothing new comes
    pub stays-same : (write : Bool) (j : ℕ) (p : ℕ × ScriptItem) → slice_get (of_direction write s.script) j ≡ Some p → ((e : Entry) → taken_of links s write ≡ Some e → p.0 ≢ e.place) →
        ((note_at (manager_next round links s) p.0).resps ≡ (note_at s p.0).resps) × ((note_at (manager_next round links s) p.0).bytes ≡ (note_at s p.0).bytes) × ((note_at (manager_next round links s) p.0).answered ≡ (note_at s p.0).answered)
    stays-same write j p at apart =
        let not_taken : (other : Bool) (e : Entry) → taken_of links s other ≡ Some e → p.0 ≢ e.place = λ other e taken here.
        let of_entry = taken-is other e taken
        in let ways = one-place links s write other j of_entry.0 p of_entry.1 at of_entry.2 (here ∙ ap (λ (entry : Entry). entry.place) (sym of_entry.4))
        in apart e (ap (taken_of links s) ways.0 ∙ taken) here
        in elim (change-of links s round p.0 is) [
          | Kept e ↦ (ap (λ (a : AnswerView). a.resps) e, ap (λ (a : AnswerView). a.bytes) e, ap (λ (a : AnswerView). a.answered) e)
          | Wrote x taken here e ↦ absurd (not_taken true x.0 (b-taken links s is x taken) here)
          | Read x taken here item item_at e ↦ absurd (not_taken false x.0 (r-taken links s is x taken) here)
          | Issued other q next here e ↦ (ap (λ (a : AnswerView). a.resps) e, ap (λ (a : AnswerView). a.bytes) e, ap (λ (a : AnswerView). a.answered) e)
        ]

    -- one that doesn't leave is answered only where it was
    pub stays-open : (write : Bool) (j : ℕ) (p : ℕ × ScriptItem) → slice_get (of_direction write s.script) j ≡ Some p → ((e : Entry) → leaving_of links s write ≡ Some e → p.0 ≢ e.place) → is_answered (note_at (manager_next round links s) p.0) ≡ is_answered (note_at s p.0)
    stays-open write j p at apart = elim (turn-of links s round p.0 is) [
      | Same answered issued ↦ ap (λ (n : ℕ). nat_lt 0 n) answered
      | Came other e leaves here answered issued ↦
          let of_entry = taken-is other e (leaving-taken links s is other e leaves).0
          in let ways = one-place links s write other j of_entry.0 p of_entry.1 at of_entry.2 (here ∙ ap (λ (entry : Entry). entry.place) (sym of_entry.4))
          in absurd (apart e (ap (leaving_of links s) ways.0 ∙ leaves) here)
      | Went other q next here issued answered ↦ ap (λ (n : ℕ). nat_lt 0 n) answered
    ]

    -- the entries that are left are those of the issued ones that are still open
    left-open : (write : Bool) (o : Option Entry) → leaving_of links s write ≡ o → left_entries o (entries_of write s) ≡ map entry_of (filter (is_open (manager_next round links s)) (issued_ones write s))
    left-open write None taken =
        waits write
        ∙ ap (map entry_of) (filter-same (is_open s) (is_open (manager_next round links s)) (issued_ones write s) (λ k p at.
        ap not (sym (stays-open write k p (take-from (issued_of write s) (of_direction write s.script) k p at).1 (λ e some. absurd (let no : None ≡ Some e = sym taken ∙ some in cc))))))
    left-open write (Some e) taken =
        ap (without_oldest (λ (entry : Entry). entry.id) e.id) (waits write)
        ∙ left-places e (filter (is_open s) (issued_ones write s)) (rise-filter (is_open s) (issued_ones write s) (ones-rise write s)) (ap (find (λ (entry : Entry). entry.id == e.id)) (sym (waits write)) ∙ taken-found links s write e (leaving-taken links s is write e taken).0)
        ∙ ap (map entry_of) (filter-both (is_open s) (λ p. not (p.0 == e.place)) (is_open (manager_next round links s)) (issued_ones write s) (λ k p at. open-still write e taken k p at))
      where
        open-still : (write : Bool) (e : Entry) → leaving_of links s write ≡ Some e → (k : ℕ) (p : ℕ × ScriptItem) → slice_get (issued_ones write s) k ≡ Some p → is_open (manager_next round links s) p ≡ (is_open s p && not (p.0 == e.place))
        open-still write e taken k p at = elim (cases_eq p.0 e.place) [
          | inl here ↦
              let now : is_answered (note_at (manager_next round links s) p.0) ≡ true =
              answered-some (note_at (manager_next round links s) p.0) (subst (λ (q : ℕ). 0 < (note_at (manager_next round links s) q).answered) (sym here) (subst (λ (n : ℕ). 0 < n) (sym (came-noted write e taken)) counts))
              in ap not now ∙ sym (and_right (is_open s p) (not (p.0 == e.place)) (ap not (eq-eqb p.0 e.place here)))
          | inr there ↦
              ap not (stays-open write k p (take-from (issued_of write s) (of_direction write s.script) k p at).1 (λ other some here. there (here ∙ ap (λ (entry : Entry). entry.place) (same_Some other e (sym some ∙ taken)))))
              ∙ and-true (is_open s p)
              ∙ ap (λ (b : Bool). is_open s p && not b) (sym (ne_eqb p.0 e.place there))
        ]

    -- and the one that is issued comes to them
    issue-open : (write : Bool) (o : Option (ℕ × ScriptItem)) → next_of links s write ≡ o →
        with_issued o (map entry_of (filter (is_open (manager_next round links s)) (issued_ones write s))) ≡ map entry_of (filter (is_open (manager_next round links s)) (issued_ones write (manager_next round links s)))
    issue-open write None next =
        let same : issued_of write s ≡ issued_of write (manager_next round links s) = sym (issued-next links s round write ∙ ap (λ (o : Option (ℕ × ScriptItem)). issued_of write s + more (is_some o)) next ∙ add-zero (issued_of write s))
        in ap (λ (n : ℕ). map entry_of (filter (is_open (manager_next round links s)) (take n (of_direction write s.script)))) same
    issue-open write (Some p) next =
        let one_more : issued_of write (manager_next round links s) ≡ suc (issued_of write s) = issued-next links s round write ∙ ap (λ (o : Option (ℕ × ScriptItem)). issued_of write s + more (is_some o)) next ∙ add-one (issued_of write s)
        in let none : is_answered (note_at (manager_next round links s) p.0) ≡ false = ap is_answered (next-noted links s round counts is write p next) ∙ answered-none (note_at s p.0) (next-waits links s is write p next).answered
        in sym (map-append entry_of (filter (is_open (manager_next round links s)) (issued_ones write s)) (p ∷ []))
        ∙ ap (map entry_of)
        (ap (λ ps. filter (is_open (manager_next round links s)) (issued_ones write s) ++ ps) (ap (λ (b : Bool). cond (not b) (p ∷ []) []) (sym none))
        ∙ sym (filter-append (is_open (manager_next round links s)) (issued_ones write s) (p ∷ []))
        ∙ ap (filter (is_open (manager_next round links s))) (sym (take-one (issued_of write s) (of_direction write s.script) p (next-found links s write p next)) ∙ ap (λ (n : ℕ). take n (of_direction write s.script)) (sym one_more)))

    -- the entries after a round are the issued ones that aren't answered
    pub entries-stay : (write : Bool) → entries_of write (manager_next round links s) ≡ map entry_of (filter (is_open (manager_next round links s)) (issued_ones write (manager_next round links s)))
    entries-stay write =
        entries-next links s round write
        ∙ ap (with_issued (next_of links s write)) (left-open write (leaving_of links s write) refl)
        ∙ issue-open write (next_of links s write) refl
