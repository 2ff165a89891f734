-- A manager asks on its link as it should.
use Rattle.std.proofs.Common.{◌≡◌, ◌≢◌, ℕ, ◌+◌, ◌<◌, zero, suc, Bool, true, false, List, [], ◌∷◌, ◌++◌, Option, Some, None, All, map, take, take-append-drop, refl, sym, ◌∙◌, ap, subst, inl, inr, arith, append_assoc, append-nil, eq-eqb}
use Rattle.std.specs.List.{range_with_len}
use Rattle.std.specs.Prelude.{IsTrue, drop, flat_map, slice_get}
use Rattle.std.proofs.lemmas.Bool.{cases_eq, ne_eqb}
use Rattle.std.proofs.lemmas.List.{map-append}
use Rattle.std.proofs.lemmas.List.Concat.{flat_map-append}
use Rattle.std.proofs.lemmas.Simd.{map-map}
use Rattle.axi_beats.specs.declared.beat.Addr.{Addr}
use Rattle.axi_beats.specs.declared.beat.WBeat.{WBeat}
use Rattle.burst_address.specs.Formulas.{beats_of}
use Rattle.axi_trail.specs.LinkContracts.{OneIdAtATime, Requests, WholeBeforeTheNext}
use Rattle.axi_trail.specs.Schedule.{Progress, Schedule}
use Rattle.axi_trail.specs.Trail.{Beats}
use Rattle.axi_trail.specs.Words.{Asked, Mark, Reply, announced_marks, burst_asked, burst_marks, data_marks, mark_of_data, marks, marks_of, number_of_data, read_replies, write_replies}
use Rattle.manager_node.specs.Beats.{data_beat, data_beats, item_request}
use Rattle.manager_node.specs.ManagerOrder.{IsAt, note_at}
use Rattle.manager_node.specs.ManagerState.{ManagerState, issued_of, of_direction, script_writes}
use Rattle.manager_node.specs.ManagerTrail.{HasItem, IsScheduleOf, first_data, shares_of}
use Rattle.manager_node.proofs.Standing.{Standing, StandingAsks}
use Rattle.manager_node.specs.Script.{ScriptItem}
use Rattle.manager_node.proofs.AskedLemmas.{ids-asked, lone-numbers, lone-of_key, one-asked, parts-asked, whole-asked}
use Rattle.manager_node.proofs.HeldLemmas.{asked_by}
use Rattle.manager_node.proofs.NumberLemmas.{number_of_item}
use Rattle.manager_node.proofs.PlaceLemmas.{direction-at}
use Rattle.manager_node.proofs.SentLemmas.{data_of_first}
use Rattle.plain_lists.specs.Keys.{of_key}
use Rattle.plain_lists.proofs.KeyLemmas.{of_key-append, of_key-cons, of_key-skip}
use Rattle.plain_lists.proofs.PrefixLemmas.{prefix_agree, Agree_fronts, prefix_after, prefix_flat_map, prefix_map, prefix_of_key, prefix_of_same, prefix_same, prefix_first, prefix_itself, prefix_nil, prefix_trans}
use Rattle.plain_lists.specs.Prefixes.{Agree, IsPrefix}
use Rattle.plain_lists.proofs.PlaceLemmas.{map-from, take-from, take-one, all-at, at-all}

-- the data of a transaction has its number
data-numbers : (bus t : ℕ) (p : ℕ × ScriptItem) (ks : List ℕ) → number_of_item p ≡ t → of_key number_of_data t (map (data_beat p.1 bus) ks) ≡ map (data_beat p.1 bus) ks
data-numbers bus t p [] own = refl
data-numbers bus t p (k ∷ ks) own = of_key-cons number_of_data t (data_beat p.1 bus k) (map (data_beat p.1 bus) ks) own ∙ ap (λ (ws : List WBeat). data_beat p.1 bus k ∷ ws) (data-numbers bus t p ks own)

data-others : (bus t : ℕ) (p : ℕ × ScriptItem) (ks : List ℕ) → number_of_item p ≢ t → of_key number_of_data t (map (data_beat p.1 bus) ks) ≡ []
data-others bus t p [] other = refl
data-others bus t p (k ∷ ks) other = of_key-skip number_of_data t (data_beat p.1 bus k) (map (data_beat p.1 bus) ks) other ∙ data-others bus t p ks other

-- of all data the beats of a number are those of its transactions
data-of_number : (bus t : ℕ) (ps : List (ℕ × ScriptItem)) → of_key number_of_data t (flat_map (λ (p : ℕ × ScriptItem). data_beats p.1 bus) ps) ≡ flat_map (λ (p : ℕ × ScriptItem). data_beats p.1 bus) (of_key number_of_item t ps)
data-of_number bus t [] = refl
data-of_number bus t (p ∷ ps) =
    of_key-append number_of_data t (data_beats p.1 bus) (flat_map (λ (q : ℕ × ScriptItem). data_beats q.1 bus) ps)
    ∙ elim (cases_eq (number_of_item p) t) [
      | inl own ↦
          ap (λ (ws : List WBeat). ws ++ of_key number_of_data t (flat_map (λ (q : ℕ × ScriptItem). data_beats q.1 bus) ps)) (data-numbers bus t p (range_with_len 0 (beats_of p.1.txn.request)) own)
          ∙ ap (λ (ws : List WBeat). data_beats p.1 bus ++ ws) (data-of_number bus t ps)
          ∙ ap (flat_map (λ (q : ℕ × ScriptItem). data_beats q.1 bus)) (sym (of_key-cons number_of_item t p ps own))
      | inr other ↦
          ap (λ (ws : List WBeat). ws ++ of_key number_of_data t (flat_map (λ (q : ℕ × ScriptItem). data_beats q.1 bus) ps)) (data-others bus t p (range_with_len 0 (beats_of p.1.txn.request)) other)
          ∙ data-of_number bus t ps
          ∙ ap (flat_map (λ (q : ℕ × ScriptItem). data_beats q.1 bus)) (sym (of_key-skip number_of_item t p ps other))
    ]

-- the data of a transaction is the schedule's
data-asked : (schedule : Schedule) (bus : ℕ) (script : List ScriptItem) → IsScheduleOf schedule bus script → (t : ℕ) → IsPrefix (of_key number_of_data t (flat_map (λ (p : ℕ × ScriptItem). data_beats p.1 bus) (script_writes script))) (flat_map (λ beats. beats) (schedule.writes t).write_data)
data-asked schedule bus script scheduled t =
    let own = data-of_number bus t (script_writes script)
    in elim (lone-of_key number_of_item t (script_writes script) (lone-numbers schedule bus script scheduled true)) [
      | inl none ↦ prefix_same (own ∙ ap (flat_map (λ (p : ℕ × ScriptItem). data_beats p.1 bus)) none) (prefix_nil (flat_map (λ beats. beats) (schedule.writes t).write_data))
      | inr one ↦
          let place = direction-at true script one.0 one.1 one.2
          in let beats_due : (schedule.writes t).write_data ≡ data_beats one.1.1 bus ∷ [] = ap (λ (k : ℕ). (schedule.writes k).write_data) (sym one.3) ∙ (at-all (HasItem schedule bus) script one.1.0 one.1.1 scheduled.items place.0).write_data place.1
          in prefix_same (own ∙ ap (flat_map (λ (p : ℕ × ScriptItem). data_beats p.1 bus)) one.4) (prefix_of_same (prefix_itself (data_beats one.1.1 bus ++ [])) (sym (ap (flat_map (λ (beats : List WBeat). beats)) beats_due)))
    ]

-- what was sent is the first of all data
sent-prefix : (bus sent beats : ℕ) (transactions : List (ℕ × ScriptItem)) → IsPrefix (data_of_first bus transactions sent beats) (flat_map (λ (p : ℕ × ScriptItem). data_beats p.1 bus) transactions)
sent-prefix bus sent beats transactions =
    let go : (o : Option (ℕ × ScriptItem)) → slice_get transactions sent ≡ o → IsPrefix (flat_map (λ (p : ℕ × ScriptItem). data_beats p.1 bus) (take sent transactions) ++ first_data bus beats o) (flat_map (λ (p : ℕ × ScriptItem). data_beats p.1 bus) transactions) =
    elim [
      | None ↦ λ none. prefix_same (append-nil (flat_map (λ (p : ℕ × ScriptItem). data_beats p.1 bus) (take sent transactions))) (prefix_flat_map (λ (p : ℕ × ScriptItem). data_beats p.1 bus) (prefix_first sent transactions))
      | Some x ↦ λ at.
          let next : flat_map (λ (p : ℕ × ScriptItem). data_beats p.1 bus) (take (suc sent) transactions) ≡ flat_map (λ (p : ℕ × ScriptItem). data_beats p.1 bus) (take sent transactions) ++ (data_beats x.1 bus ++ []) =
          ap (flat_map (λ (p : ℕ × ScriptItem). data_beats p.1 bus)) (take-one sent transactions x at) ∙ flat_map-append (λ (p : ℕ × ScriptItem). data_beats p.1 bus) (take sent transactions) (x ∷ [])
          in let part : IsPrefix (take beats (data_beats x.1 bus)) (data_beats x.1 bus ++ []) = prefix_of_same (prefix_first beats (data_beats x.1 bus)) (sym (append-nil (data_beats x.1 bus)))
          in prefix_trans (prefix_of_same (prefix_after (flat_map (λ (p : ℕ × ScriptItem). data_beats p.1 bus) (take sent transactions)) part) (sym next)) (prefix_flat_map (λ (p : ℕ × ScriptItem). data_beats p.1 bus) (prefix_first (suc sent) transactions))
    ]
    in go (slice_get transactions sent) refl

-- the marks of a write's data are those of its request
data-marks : (bus : ℕ) (item : ScriptItem) (n k : ℕ) → k + n ≡ item.txn.request.len → map mark_of_data (map (data_beat item bus) (range_with_len k (suc n))) ≡ burst_marks item.txn.number n
data-marks bus item zero k sum =
    ap (λ (b : Bool). record { number = item.txn.number; last = b } ∷ []) (eq-eqb k item.txn.request.len (omega arith))
data-marks bus item (suc n) k sum =
    ap (λ (b : Bool). record { number = item.txn.number; last = b } ∷ map mark_of_data (map (data_beat item bus) (range_with_len (k + 1) (suc n)))) (ne_eqb k item.txn.request.len (λ same. omega arith))
    ∙ ap (λ (ms : List Mark). record { number = item.txn.number; last = false } ∷ ms) (data-marks bus item n (k + 1) (omega arith))

marks-of_item : (bus : ℕ) (item : ScriptItem) → map mark_of_data (data_beats item bus) ≡ burst_marks item.txn.number item.txn.request.len
marks-of_item bus item =
    let beats : beats_of item.txn.request ≡ suc item.txn.request.len = omega arith
    in ap (λ (n : ℕ). map mark_of_data (map (data_beat item bus) (range_with_len 0 n))) beats ∙ data-marks bus item item.txn.request.len 0 (omega arith)

marks-of_items : (bus : ℕ) (ps : List (ℕ × ScriptItem)) → map mark_of_data (flat_map (λ (p : ℕ × ScriptItem). data_beats p.1 bus) ps) ≡ marks (map (asked_by (λ a. a.len)) ps)
marks-of_items bus [] = refl
marks-of_items bus (p ∷ ps) =
    map-append mark_of_data (data_beats p.1 bus) (flat_map (λ (q : ℕ × ScriptItem). data_beats q.1 bus) ps)
    ∙ ap (λ (ms : List Mark). ms ++ map mark_of_data (flat_map (λ (q : ℕ × ScriptItem). data_beats q.1 bus) ps)) (marks-of_item bus p.1)
    ∙ ap (λ (ms : List Mark). burst_marks p.1.txn.number p.1.txn.request.len ++ ms) (marks-of_items bus ps)

module _ (schedule : Schedule) (now : Progress) (rounds : ℕ) (s : ManagerState) (trail : Beats) (keeps : Standing schedule rounds s trail)
    (known : (place : ℕ) (item : ScriptItem) → IsAt s place item → 0 < (note_at s place).issued → IsTrue (now.issued item.txn.number)) where
  issued-asked : (write : Bool) → All (λ (a : Addr). IsTrue (now.issued a.tag.txn)) (map (λ (p : ℕ × ScriptItem). item_request p.1) (take (issued_of write s) (of_direction write s.script)))
  issued-asked write = all-at (λ (a : Addr). IsTrue (now.issued a.tag.txn)) (map (λ (p : ℕ × ScriptItem). item_request p.1) (take (issued_of write s) (of_direction write s.script))) (λ k a at.
      let from : (p : ℕ × ScriptItem) × (slice_get (take (issued_of write s) (of_direction write s.script)) k ≡ Some p) × (item_request p.1 ≡ a) = map-from (λ (p : ℕ × ScriptItem). item_request p.1) (take (issued_of write s) (of_direction write s.script)) k a at
      in let first = take-from (issued_of write s) (of_direction write s.script) k from.0 from.1
      in let place = direction-at write s.script k from.0 first.1
      in subst (λ (b : Addr). IsTrue (now.issued b.tag.txn)) from.2 (known from.0.0 from.0.1 place.0 ((keeps.is_manager.issues write k from.0 first.1).1 first.0)))

  -- the requests of a direction
  requests-asked : (write : Bool) (len_of : Addr → ℕ) (addresses : List Addr) (replies : List Reply) → addresses ≡ map (λ (p : ℕ × ScriptItem). item_request p.1) (take (issued_of write s) (of_direction write s.script)) →
      Requests (shares_of schedule write) schedule.id_width now.issued (λ a. record { number = a.tag.txn; id = a.id; len = len_of a }) addresses replies
  requests-asked write len_of addresses replies put =
      let shown : map (λ (a : Addr). record { number = a.tag.txn; id = a.id; len = len_of a }) (map (λ (p : ℕ × ScriptItem). item_request p.1) (take (issued_of write s) (of_direction write s.script))) ≡ map (asked_by len_of) (take (issued_of write s) (of_direction write s.script)) =
      map-map (λ (a : Addr). record { number = a.tag.txn; id = a.id; len = len_of a }) (λ (p : ℕ × ScriptItem). item_request p.1) (take (issued_of write s) (of_direction write s.script))
      in subst (λ (addrs : List Addr). Requests (shares_of schedule write) schedule.id_width now.issued (λ a. record { number = a.tag.txn; id = a.id; len = len_of a }) addrs replies) (sym put) (record {
        asks_only_its_parts = parts-asked schedule s.bus s.script keeps.scheduled write (issued_of write s);
        ids_fit = ids-asked schedule s.bus s.script keeps.scheduled write (issued_of write s);
        whole_before_the_next = subst (WholeBeforeTheNext (shares_of schedule write)) (sym shown) (whole-asked schedule s.bus s.script keeps.scheduled write (issued_of write s) len_of);
        one_id_at_a_time = subst (λ (asked : List Asked). OneIdAtATime (shares_of schedule write) asked replies) (sym shown) (one-asked schedule s.bus s.script keeps.scheduled write (issued_of write s) len_of replies);
        was_issued = issued-asked write;
      })

  sent-asked : (t : ℕ) → IsPrefix (of_key number_of_data t trail.w) (flat_map (λ beats. beats) (schedule.writes t).write_data)
  sent-asked t =
      let own : IsPrefix (of_key number_of_data t trail.w) (of_key number_of_data t (flat_map (λ (p : ℕ × ScriptItem). data_beats p.1 s.bus) (script_writes s.script))) =
      prefix_of_key number_of_data t (prefix_same keeps.passed.w (sent-prefix s.bus s.sent_writes s.sent_beats (script_writes s.script)))
      in let due = data-asked schedule s.bus s.script keeps.scheduled t
      in record { rest = own.rest ++ due.rest; whole = due.whole ∙ ap (λ (ws : List WBeat). ws ++ due.rest) own.whole ∙ append_assoc (of_key number_of_data t trail.w) own.rest due.rest }

  marks-agree : Agree (data_marks trail) (announced_marks trail)
  marks-agree =
      let sent : IsPrefix (data_marks trail) (marks (map (asked_by (λ a. a.len)) (script_writes s.script))) =
      prefix_of_same (prefix_same (ap (map mark_of_data) keeps.passed.w) (prefix_map mark_of_data (sent-prefix s.bus s.sent_writes s.sent_beats (script_writes s.script)))) (marks-of_items s.bus (script_writes s.script))
      in let announced : announced_marks trail ≡ marks (map (asked_by (λ a. a.len)) (take s.issued_writes (script_writes s.script))) =
      ap (λ (asked : List Asked). marks asked) (ap (map burst_asked) keeps.passed.aw ∙ map-map burst_asked (λ (p : ℕ × ScriptItem). item_request p.1) (take s.issued_writes (script_writes s.script)))
      in let front : IsPrefix (take s.issued_writes (script_writes s.script)) (script_writes s.script) = record { rest = drop s.issued_writes (script_writes s.script); whole = sym (take-append-drop s.issued_writes (script_writes s.script)) }
      in let shown : IsPrefix (announced_marks trail) (marks (map (asked_by (λ a. a.len)) (script_writes s.script))) = prefix_same announced (prefix_flat_map marks_of (prefix_map (asked_by (λ a. a.len)) front))
      in Agree_fronts sent shown (prefix_agree (prefix_itself (marks (map (asked_by (λ a. a.len)) (script_writes s.script)))))

-- a manager that keeps its invariant asks as it should
pub manager-asks : StandingAsks
manager-asks schedule now rounds s trail keeps known = record {
  writes = requests-asked schedule now rounds s trail keeps known true (λ a. 0) trail.aw (write_replies trail) keeps.passed.aw;
  reads = requests-asked schedule now rounds s trail keeps known false (λ a. a.len) trail.ar (read_replies trail) keeps.passed.ar;
  data_is_the_schedules = λ t. sent-asked schedule now rounds s trail keeps known t;
  data_follows_addresses = marks-agree schedule now rounds s trail keeps known;
}
