-- A manager none of whose rows is wanted, and that has nothing open below it, has all its answers.
use Rattle.std.proofs.Common.{◌≡◌, ◌<◌, ◌≤◌, ◌+◌, ◌==◌, ◌&&◌, ℕ, zero, suc, Bool, true, false, cond, List, [], ◌∷◌, ◌++◌, Option, Some, None, length, map, take, get_or, refl, sym, ◌∙◌, ap, subst, inl, inr, arith, length-append, eq-eqb}
use Rattle.std.specs.List.{range_with_len}
use Rattle.std.specs.Prelude.{count_by, filter, find, flat_map, is_some, nat_le, nat_lt, not, option_map, slice_get}
use Rattle.std.proofs.lemmas.Bool.{cases_lt, leb-false, lt-ltb, ltb-true}
use Rattle.std.proofs.lemmas.List.{length-map, map-append}
use Rattle.std.proofs.lemmas.List.Elements.{All-contains, All-nil}
use Rattle.std.proofs.lemmas.List.FromFn.{length-range_with_len}
use Rattle.std.proofs.lemmas.List.Sums.{count_by-le-length, sum_by-cons}
use Rattle.std.proofs.lemmas.Option.{slice_get_within}
use Rattle.std.proofs.lemmas.Simd.{map-map}
use Rattle.axi_beats.specs.declared.beat.Addr.{Addr}
use Rattle.axi_link.specs.LinkView.{LinkView}
use Rattle.axi_link.specs.LinkWords.{has_room, head_of, link_of}
use Rattle.axi_trail.proofs.StepFacts.{held-shown, next_answer}
use Rattle.axi_trail.specs.LinkContracts.{Answers}
use Rattle.axi_trail.specs.Schedule.{Progress, Schedule}
use Rattle.axi_trail.specs.Trail.{Beats, Trail, seen_above}
use Rattle.axi_trail.specs.Waiting.{Waiting, waiting_shown}
use Rattle.axi_trail.specs.Words.{Asked, InOrderOfId, Reply, beats_due, burst_asked, held_asked, id_of_asked, id_of_reply, id_of_waiting, len_of_asked, read_reply, reads_asked, write_asked, write_reply, writes_asked}
use Rattle.burst_address.specs.Formulas.{beats_of}
use Rattle.manager_node.specs.Answer.{AnswerView, unanswered}
use Rattle.manager_node.specs.Beats.{data_beat, data_beats, item_request}
use Rattle.manager_node.specs.ManagerOrder.{note_at}
use Rattle.manager_node.specs.ManagerState.{ManagerState, entries_of, entry_of, is_answered, is_done, issued_of, of_direction, script_reads, script_writes}
use Rattle.manager_node.specs.ManagerTable.{answering, manager_wishes, ready}
use Rattle.manager_node.specs.ManagerTrail.{first_data}
use Rattle.manager_node.specs.Script.{ScriptItem}
use Rattle.manager_node.specs.declared.entry.Entry.{Entry}
use Rattle.manager_node.proofs.AfterLemmas.{after-most}
use Rattle.manager_node.proofs.HeldLemmas.{asked_by, entries_held, held-shows, holding, id_held}
use Rattle.manager_node.proofs.PlaceLemmas.{direction-of, direction-rises}
use Rattle.manager_node.proofs.Standing.{Standing}
use Rattle.manager_node.proofs.TableLemmas.{no_row}
use Rattle.node_core.specs.Rows.{beat_where, fits}
use Rattle.node_core.specs.declared.paces.EachRow.{EachRow}
use Rattle.node_shape.specs.Quiet.{HasNoRead, HasNoWrite, HoldsNothingBack, LacksData}
use Rattle.node_shape.proofs.OneLinkLemmas.{all-one, of-one}
use Rattle.plain_lists.proofs.PlaceLemmas.{filter-has, item-there, take-has}
use Rattle.plain_lists.specs.Keys.{of_key}

-- where no entry has an ID, none of it is held
no-entry : (id : ℕ) (ws : List (Waiting (ℕ × ScriptItem))) → find (λ (entry : Entry). entry.id == id) (entries_held ws) ≡ None → of_key id_held id ws ≡ []
no-entry id [] none = refl
no-entry id (v ∷ vs) none =
    let go : (b : Bool) → cond b (Some (entry_of v.request)) (find (λ (entry : Entry). entry.id == id) (entries_held vs)) ≡ None → cond b (v ∷ of_key id_held id vs) (of_key id_held id vs) ≡ [] =
    elim [ true ↦ λ is. absurd (cc) | false ↦ λ is. no-entry id vs is ]
    in go (id_held v == id) none

quiet-none : {X : Type 0} (x : X) (o : Option Entry) → is_some {T = Entry × X} (option_map (λ (entry : Entry). (entry, x)) o) ≡ false → o ≡ None
quiet-none x None quiet = refl
quiet-none x (Some e) quiet = absurd (cc)

map-nil : {X Y : Type 0} (f : X → Y) (xs : List X) → map f xs ≡ [] → xs ≡ []
map-nil f [] is = refl
map-nil f (x ∷ xs) is = absurd (cc)

module _ {X : Type 0} (reply : X → Reply) (len_of : Addr → ℕ) where
  -- an answer that is there has its entry, so it is taken
  taken-all : (items : List (ℕ × ScriptItem)) (entries : List Entry) (beats queue : List X) → entries ≡ entries_held (holding len_of items (map (λ x. id_of_reply (reply x)) beats)) →
      InOrderOfId (map (asked_by len_of) items) (map reply (beats ++ take 1 queue)) → is_some (answering (λ x. id_of_reply (reply x)) entries (head_of queue)) ≡ false → length queue ≡ 0
  taken-all items entries beats [] same order quiet = refl
  taken-all items entries beats (x ∷ queue) same order quiet =
      let p : Reply = reply x in
      let asked : List Asked = map (asked_by len_of) items in
      let in_order : InOrderOfId (map (asked_by len_of) items) (map reply beats ++ reply x ∷ []) = subst (λ (rs : List Reply). InOrderOfId (map (asked_by len_of) items) rs) (map-append reply beats (x ∷ [])) order in
      let next : (w : Waiting Asked) × (others : List (Waiting Asked)) × (of_key id_of_waiting (reply x).id (held_asked (map (asked_by len_of) items) (map reply beats)) ≡ w ∷ others) × (reply x ≡ _) =
      next_answer (map (asked_by len_of) items) (map reply beats) (reply x) in_order in
      let none : find (λ (entry : Entry). entry.id == (reply x).id) entries ≡ None = quiet-none x (find (λ (entry : Entry). entry.id == (reply x).id) entries) quiet in
      let empty : of_key id_held (reply x).id (holding len_of items (map id_of_reply (map reply beats))) ≡ [] =
      ap (λ (ids : List ℕ). of_key id_held (reply x).id (holding len_of items ids)) (map-map id_of_reply reply beats)
      ∙ no-entry (reply x).id (holding len_of items (map (λ y. id_of_reply (reply y)) beats)) (ap (find (λ (entry : Entry). entry.id == (reply x).id)) (sym same) ∙ none) in
      let no : next.0 ∷ next.1 ≡ [] = sym next.2 ∙ held-shows len_of items (map reply beats) (reply x).id ∙ ap (map (waiting_shown (asked_by len_of))) empty in
      absurd (cc)

  -- where none is held no entry is left
  none-held : (items : List (ℕ × ScriptItem)) (entries : List Entry) (beats : List X) → entries ≡ entries_held (holding len_of items (map (λ x. id_of_reply (reply x)) beats)) →
      held_asked (map (asked_by len_of) items) (map reply beats) ≡ [] → entries ≡ []
  none-held items entries beats same none =
      let empty : holding len_of items (map id_of_reply (map reply beats)) ≡ [] =
      map-nil (waiting_shown (asked_by len_of)) (holding len_of items (map id_of_reply (map reply beats))) (sym (held-shown (asked_by len_of) len_of_asked id_of_asked items (map id_of_reply (map reply beats))) ∙ none) in
      same ∙ ap entries_held (ap (holding len_of items) (sym (map-map id_of_reply reply beats)) ∙ empty)

abbrev one : Bool → ℕ
one b = cond b 1 0

-- where the first ones pass, as many are counted
firsts-counted : {X : Type 0} (p : X → Bool) (d : X) (xs : List X) (q : ℕ) → q ≤ length xs → ((k : ℕ) → k < q → p (get_or xs k d) ≡ true) → q ≤ count_by p xs
firsts-counted p d [] q within each = omega (arith, within)
firsts-counted p d (x ∷ xs) zero within each = omega arith
firsts-counted {X} p d (x ∷ xs) (suc q) within each =
    let rest : q ≤ count_by p xs = firsts-counted p d xs q (omega (arith, within)) (λ k less. each (suc k) (omega (arith, less))) in
    let here : one (p x) ≡ one true = ap one (each 0 (omega arith)) in
    let counts = sum_by-cons (λ (y : X). one (p y)) x xs in
    omega (arith, rest, here, counts)

-- the next transaction isn't ready
not-ready : (a b : Bool) (answered : ℕ) (p : ℕ × ScriptItem) → is_some (beat_where (a && b) (ready answered (Some p))) ≡ false → a ≡ true → b ≡ true → answered < p.1.txn.after
not-ready false b answered p quiet fit room = absurd (cc)
not-ready true false answered p quiet fit room = absurd (cc)
not-ready true true answered p quiet fit room =
    let go : (c : Bool) → nat_le p.1.txn.after answered ≡ c → is_some (beat_where c (Some p)) ≡ false → answered < p.1.txn.after = elim [
      | true ↦ λ is q. absurd (cc)
      | false ↦ λ is q. leb-false p.1.txn.after answered is
    ] in go (nat_le p.1.txn.after answered) refl quiet

-- what isn't in a filter fails it
filter-none : {X : Type 0} (test : X → Bool) (xs : List X) → filter test xs ≡ [] → (k : ℕ) (x : X) → slice_get xs k ≡ Some x → test x ≡ false
filter-none test xs none k x at =
    let go : (b : Bool) → test x ≡ b → test x ≡ false = elim [
      | true ↦ λ is. let has : (n : ℕ) × (slice_get (filter test xs) n ≡ Some x) = filter-has test xs k x at is in let no : slice_get [] has.0 ≡ Some x = ap (λ ys. slice_get ys has.0) (sym none) ∙ has.1 in absurd (cc)
      | false ↦ λ is. is
    ] in go (test x) refl

not-false : (b : Bool) → not b ≡ false → b ≡ true
not-false true is = refl
not-false false is = absurd (cc)

-- how much data goes with these writes
data-long : (bus : ℕ) (ps : List (ℕ × ScriptItem)) → length (flat_map (λ (p : ℕ × ScriptItem). data_beats p.1 bus) ps) ≡ beats_due (map burst_asked (map (λ (p : ℕ × ScriptItem). item_request p.1) ps))
data-long bus [] = refl
data-long bus (p ∷ ps) =
    let own : length (data_beats p.1 bus) ≡ p.1.txn.request.len + 1 = length-map (range_with_len 0 (beats_of p.1.txn.request)) (data_beat p.1 bus) ∙ length-range_with_len 0 (beats_of p.1.txn.request) in
    let both = length-append (data_beats p.1 bus) (flat_map (λ (p : ℕ × ScriptItem). data_beats p.1 bus) ps) in
    omega (arith, own, both, data-long bus ps)

-- data that could be sent is there
no-data : (a b : Bool) (o : Option (ℕ × ScriptItem)) (p : ℕ × ScriptItem) → is_some (beat_where (a && b) o) ≡ false → b ≡ true → o ≡ Some p → a ≡ false
no-data false b o p quiet room at = refl
no-data true false o p quiet room at = absurd (cc)
no-data true true None p quiet room at = absurd (cc)
no-data true true (Some q) p quiet room at = absurd (cc)

module _ (schedule : Schedule) (now : Progress) (rounds : ℕ) (links : List LinkView) (s : ManagerState) (uppers lowers : Trail) (keeps : Standing schedule rounds s (lowers s.lower))
    (answers : Answers schedule now (seen_above (lowers s.lower) (link_of links s.lower))) (deep : 0 < (link_of links s.lower).depth)
    (quiet : manager_wishes (link_of links s.lower) s ≡ no_row) where
  abbrev link : LinkView
  link = link_of links s.lower

  abbrev trail : Beats
  trail = lowers s.lower

  roomy : {X : Type 0} (xs : List X) → length xs ≡ 0 → has_room link.depth xs ≡ true
  roomy xs empty = lt-ltb (length xs) link.depth (omega (arith, empty, deep))

  writes-are : writes_asked trail ≡ map (asked_by (λ a. 0)) (take s.issued_writes (script_writes s.script))
  writes-are = ap (map write_asked) keeps.passed.aw ∙ map-map write_asked (λ (p : ℕ × ScriptItem). item_request p.1) (take s.issued_writes (script_writes s.script))

  reads-are : reads_asked trail ≡ map (asked_by (λ a. a.len)) (take s.issued_reads (script_reads s.script))
  reads-are = ap (map burst_asked) keeps.passed.ar ∙ map-map burst_asked (λ (p : ℕ × ScriptItem). item_request p.1) (take s.issued_reads (script_reads s.script))

  no-b : length link.b ≡ 0
  no-b =
      taken-all write_reply (λ a. 0) (take s.issued_writes (script_writes s.script)) s.write_entries trail.b link.b keeps.passed.write_entries
      (subst (λ (asked : List Asked). InOrderOfId asked (map write_reply (trail.b ++ take 1 link.b))) writes-are answers.answers_in_order_of_id) (ap (λ (rows : EachRow). rows.b) quiet)

  no-r : length link.r ≡ 0
  no-r =
      taken-all read_reply (λ a. a.len) (take s.issued_reads (script_reads s.script)) s.read_entries trail.r link.r keeps.passed.read_entries
      (subst (λ (asked : List Asked). InOrderOfId asked (map read_reply (trail.r ++ take 1 link.r))) reads-are answers.reads_in_order_of_id) (ap (λ (rows : EachRow). rows.r) quiet)

  -- data that is due can be sent
  no-lacking : ¬ LacksData link trail
  no-lacking starves = elim (cases_lt s.sent_writes s.issued_writes) [
    | inl less ↦
        let at = item-there (script_writes s.script) s.sent_writes (omega (arith, less, keeps.is_manager.writes_issued)) in
        let no : nat_lt s.sent_writes s.issued_writes ≡ false =
        no-data (nat_lt s.sent_writes s.issued_writes) (has_room link.depth link.w) (slice_get (script_writes s.script) s.sent_writes) at.0
        (ap (λ (rows : EachRow). rows.w) quiet) (roomy link.w starves.none_waits) at.1 in
        absurd (let both : true ≡ false = sym (lt-ltb s.sent_writes s.issued_writes less) ∙ no in cc)
    | inr ge ↦
        let all : s.sent_writes ≡ s.issued_writes = omega (arith, ge, keeps.is_manager.writes_sent) in
        let sent : length trail.w ≡ length (flat_map (λ (p : ℕ × ScriptItem). data_beats p.1 s.bus) (take s.sent_writes (script_writes s.script))) + length (first_data s.bus s.sent_beats (slice_get (script_writes s.script) s.sent_writes)) =
        ap length keeps.passed.w ∙ length-append (flat_map (λ (p : ℕ × ScriptItem). data_beats p.1 s.bus) (take s.sent_writes (script_writes s.script))) (first_data s.bus s.sent_beats (slice_get (script_writes s.script) s.sent_writes)) in
        let due : beats_due (map burst_asked trail.aw) ≡ length (flat_map (λ (p : ℕ × ScriptItem). data_beats p.1 s.bus) (take s.sent_writes (script_writes s.script))) =
        ap (λ (xs : List Addr). beats_due (map burst_asked xs)) keeps.passed.aw
        ∙ sym (data-long s.bus (take s.issued_writes (script_writes s.script)))
        ∙ ap (λ (n : ℕ). length (flat_map (λ (p : ℕ × ScriptItem). data_beats p.1 s.bus) (take n (script_writes s.script)))) (sym all) in
        absurd (omega (arith, sent, due, starves.lacks))
  ]

  module _ (reads : HasNoRead link trail) (writes : HasNoWrite link trail) where
    no-write : s.write_entries ≡ []
    no-write =
        none-held write_reply (λ a. 0) (take s.issued_writes (script_writes s.script)) s.write_entries trail.b keeps.passed.write_entries
        (ap (λ (asked : List Asked). held_asked asked (map write_reply trail.b)) (sym writes-are) ∙ writes.none_held)

    no-read : s.read_entries ≡ []
    no-read =
        none-held read_reply (λ a. a.len) (take s.issued_reads (script_reads s.script)) s.read_entries trail.r keeps.passed.read_entries
        (ap (λ (asked : List Asked). held_asked asked (map read_reply trail.r)) (sym reads-are) ∙ reads.none_held)

    no-entries : (write : Bool) → entries_of write s ≡ []
    no-entries true = no-write
    no-entries false = no-read

    waits-more : (write : Bool) (p : ℕ × ScriptItem) → slice_get (of_direction write s.script) (issued_of write s) ≡ Some p → s.answered < p.1.txn.after
    waits-more true p at =
        not-ready (fits s.write_entries) (has_room link.depth link.aw) s.answered p
        (ap (λ (o : Option (ℕ × ScriptItem)). is_some (beat_where (fits s.write_entries && has_room link.depth link.aw) (ready s.answered o))) (sym at) ∙ ap (λ (rows : EachRow). rows.aw) quiet)
        (ap (λ (es : List Entry). fits es) no-write) (roomy link.aw writes.none_waits)
    waits-more false p at =
        not-ready (fits s.read_entries) (has_room link.depth link.ar) s.answered p
        (ap (λ (o : Option (ℕ × ScriptItem)). is_some (beat_where (fits s.read_entries && has_room link.depth link.ar) (ready s.answered o))) (sym at) ∙ ap (λ (rows : EachRow). rows.ar) quiet)
        (ap (λ (es : List Entry). fits es) no-read) (roomy link.ar reads.none_waits)

    -- of one direction, what is issued is answered
    issued-answered : (write : Bool) (n : ℕ) (p : ℕ × ScriptItem) → slice_get (of_direction write s.script) n ≡ Some p → n < issued_of write s → is_answered (note_at s p.0) ≡ true
    issued-answered write n p at less =
        let none : filter (λ (p : ℕ × ScriptItem). not (is_answered (note_at s p.0))) (take (issued_of write s) (of_direction write s.script)) ≡ [] =
        map-nil entry_of (filter (λ (p : ℕ × ScriptItem). not (is_answered (note_at s p.0))) (take (issued_of write s) (of_direction write s.script))) (sym (keeps.in_order.waiting write) ∙ no-entries write) in
        not-false (is_answered (note_at s p.0))
        (filter-none (λ (p : ℕ × ScriptItem). not (is_answered (note_at s p.0))) (take (issued_of write s) (of_direction write s.script)) none n p (take-has (issued_of write s) (of_direction write s.script) n p less at))

    some-answered : (a : AnswerView) → is_answered a ≡ true → 0 < a.answered
    some-answered a is = ltb-true 0 a.answered is

    -- the first transaction that isn't issued could be
    one-more : (q : ℕ) (item : ScriptItem) → slice_get s.script q ≡ Some item → q ≤ s.answered → ((k : ℕ) → k < q → is_answered (note_at s k) ≡ true) → is_answered (note_at s q) ≡ true
    one-more q item at many before =
        let write : Bool = item.txn.write in
        let place = direction-of item.txn.write s.script q item at refl in
        elim (cases_lt place.0 (issued_of item.txn.write s)) [
          | inl less ↦ issued-answered item.txn.write place.0 (q, item) place.1 less
          | inr ge ↦ elim (cases_lt (issued_of item.txn.write s) place.0) [
            | inl later ↦
                let within = slice_get_within (of_direction item.txn.write s.script) place.0 (q, item) place.1 in
                let first = item-there (of_direction item.txn.write s.script) (issued_of item.txn.write s) (omega (arith, later, within)) in
                let less : first.0.0 < q = direction-rises item.txn.write s.script (issued_of item.txn.write s) place.0 first.0 (q, item) first.1 place.1 later in
                let noted = keeps.in_order.issue_first first.0.0 (some-answered (note_at s first.0.0) (before first.0.0 less)) in
                let issued = (keeps.is_manager.issues item.txn.write (issued_of item.txn.write s) first.0 first.1).0 noted.0 in
                absurd (omega (arith, issued))
            | inr same ↦
                let here : place.0 ≡ issued_of item.txn.write s = omega (arith, ge, same) in
                let waits = waits-more item.txn.write (q, item) (ap (slice_get (of_direction item.txn.write s.script)) (sym here) ∙ place.1) in
                absurd (omega (arith, waits, many, after-most s.script keeps.is_manager.is_script q item at))
          ]
        ]

    all-answered : (q : ℕ) → q ≤ length s.script → (k : ℕ) → k < q → is_answered (note_at s k) ≡ true
    all-answered zero within k less = absurd (omega (arith, less))
    all-answered (suc q) within k less =
        let before : (k : ℕ) → k < q → is_answered (note_at s k) ≡ true = all-answered q (omega (arith, within)) in
        let many : q ≤ s.answered = omega (arith, firsts-counted is_answered (unanswered 0) s.answers q (omega (arith, within, keeps.is_manager.one_each)) before, keeps.is_manager.counted) in
        let at = item-there s.script q (omega (arith, within)) in
        let here : is_answered (note_at s q) ≡ true = one-more q at.0 at.1 many before in
        elim (cases_lt k q) [
          | inl lt ↦ before k lt
          | inr ge ↦ let same : q ≡ k = omega (arith, ge, less) in subst (λ (j : ℕ). is_answered (note_at s j) ≡ true) same here
        ]

    all-done : is_done s ≡ true
    all-done =
        let most = count_by-le-length is_answered s.answers in
        let all = firsts-counted is_answered (unanswered 0) s.answers (length s.script) (omega (arith, keeps.is_manager.one_each)) (all-answered (length s.script) (omega arith)) in
        eq-eqb s.answered (length s.script) (omega (arith, most, all, keeps.is_manager.counted, keeps.is_manager.one_each))

  pub holds-nothing : HoldsNothingBack (link_of links) uppers lowers [] (s.lower ∷ []) (is_done s)
  holds-nothing = record {
    responses = λ room. all-one (λ l. length (link_of links l).b ≡ 0) s.lower no-b;
    read_data = λ room. all-one (λ l. length (link_of links l).r ≡ 0) s.lower no-r;
    reads = λ room none done. All-nil (λ l. HasNoRead (link_of links l) (uppers l));
    data_lacks = λ l among lacking.
        absurd (All-contains (λ l. ¬ LacksData (link_of links l) (lowers l)) (s.lower ∷ []) l (all-one (λ l. ¬ LacksData (link_of links l) (lowers l)) s.lower no-lacking) among lacking);
    writes = λ room none fed done. All-nil (λ l. HasNoWrite (link_of links l) (uppers l));
    ends = λ none_b none_r reads writes. all-done (of-one (λ l. HasNoRead (link_of links l) (lowers l)) s.lower reads) (of-one (λ l. HasNoWrite (link_of links l) (lowers l)) s.lower writes);
  }
