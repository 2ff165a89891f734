-- The order of a subordinate's requests lasts from round to round.
use Rattle.std.proofs.Common.{◌≡◌, ◌&&◌, ℕ, Bool, true, false, not, cond, List, [], ◌∷◌, ◌++◌, Option, Some, None, length, map, refl, sym, ◌∙◌, ap, subst, append-nil, eq-eqb}
use Rattle.std.specs.Prelude.{is_some, option_map}
use Rattle.std.proofs.lemmas.List.{length-map, map-append}
use Rattle.axi_beats.specs.declared.beat.Addr.{Addr}
use Rattle.axi_beats.specs.declared.beat.BBeat.{BBeat}
use Rattle.axi_beats.specs.declared.beat.RBeat.{RBeat}
use Rattle.axi_beats.specs.declared.beat.WBeat.{WBeat}
use Rattle.axi_link.specs.LinkView.{LinkView}
use Rattle.axi_link.specs.LinkWords.{has_room, head_of}
use Rattle.axi_link.specs.Moves.{appended, takes_from}
use Rattle.axi_trail.specs.LinkContracts.{Asks}
use Rattle.axi_trail.specs.Schedule.{Progress, Schedule}
use Rattle.axi_trail.specs.Trail.{Beats, beat_taken, joined, moved_below}
use Rattle.axi_trail.specs.Waiting.{waiting_shown}
use Rattle.axi_trail.specs.Words.{Mark, burst_asked, len_of_asked, mark_of_data, marks, marks_of, next_mark, number_of_data, pending_asked}
use Rattle.axi_trail.proofs.StepFacts.{next_beat, pending-shown}
use Rattle.node_core.specs.Pace.{PaceState, is_let}
use Rattle.node_core.specs.Rows.{beat_where, put_of, take_of}
use Rattle.plain_lists.specs.Prefixes.{Agree}
use Rattle.plain_lists.proofs.PrefixLemmas.{Agree_fronts, prefix_append, prefix_flat_map, prefix_itself, prefix_map}
use Rattle.subordinate.specs.Service.{Service}
use Rattle.subordinate.specs.SubordinateState.{Subordinate}
use Rattle.subordinate.specs.SubordinateTable.{after_ar, after_aw, after_b, after_r, after_w, answer_to, first_is_whole, its_link, its_rows, lacks_data, moved_ar, moved_aw, moved_b, moved_r, moved_w, next_beat as read_beat, oldest_lacking, served, serves}
use Rattle.subordinate.specs.Tracks.{IsService, KeepsOrder, SuitsService, TracksReads, TracksWrites, data_waiting, number_of_read, number_of_write}
use Rattle.subordinate.specs.declared.entry.ReadEntry.{ReadEntry}
use Rattle.subordinate.specs.declared.entry.WriteEntry.{WriteEntry}
use Rattle.subordinate.proofs.ReadOrder.{tracks-put, tracks-request}
use Rattle.subordinate.proofs.WriteOrder.{first-pending, tracks-address, tracks-answer, tracks-beat}

-- what moves, as a list
abbrev pub one_of : {X : Type 0} → Option X → List X
one_of None = []
one_of (Some x) = x ∷ []

-- the head that is taken, and the beat that is put
taken-one : {X : Type 0} (number : ℕ) (may : Bool) (queue : List X) → beat_taken (takes_from number (take_of number (is_some (beat_where may (head_of queue))))) queue ≡ one_of (beat_where may (head_of queue))
taken-one number true [] = refl
taken-one number true (x ∷ queue) = ap (λ b. beat_taken b (x ∷ queue)) (eq-eqb number number refl)
taken-one number false queue = refl

put-one : {X : Type 0} (number : ℕ) (o : Option X) → appended number (put_of number o) ≡ one_of o
put-one number None = refl
put-one number (Some x) = ap (λ b. cond b (x ∷ []) []) (eq-eqb number number refl)

abbrev pub trail_of : List Addr → List WBeat → List BBeat → List Addr → List RBeat → Beats
trail_of aw w b ar r = record { aw = aw; w = w; b = b; ar = ar; r = r }

trail-same : (aw aw' : List Addr) (w w' : List WBeat) (b b' : List BBeat) (ar ar' : List Addr) (r r' : List RBeat) → aw ≡ aw' → w ≡ w' → b ≡ b' → ar ≡ ar' → r ≡ r' → trail_of aw w b ar r ≡ trail_of aw' w' b' ar' r'
trail-same aw aw' w w' b b' ar ar' r r' e f g h i =
    ap (λ t. trail_of t w b ar r) e ∙ ap (λ t. trail_of aw' t b ar r) f ∙ ap (λ t. trail_of aw' w' t ar r) g ∙ ap (λ t. trail_of aw' w' b' t r) h ∙ ap (trail_of aw' w' b' ar') i

-- a row that is done is one whose condition holds
pub both-let : (first second : Bool) (pace : PaceState) → is_let (first && second) pace ≡ true → second ≡ true
both-let true true pace done = refl
both-let true false pace done = done
both-let false second pace done = absurd (cc)

module _ {D : Type 0} (service : Service D) where
  -- the trail after a round, by what is moved on each channel
  pub trail-after : (links : List LinkView) (s : Subordinate D) (trail : Beats) →
      joined trail (moved_below (serves service links s) links s.upper)
      ≡ trail_of (trail.aw ++ one_of (moved_aw service links s)) (trail.w ++ one_of (moved_w service links s)) (trail.b ++ one_of (moved_b service links s)) (trail.ar ++ one_of (moved_ar service links s)) (trail.r ++ one_of (moved_r service links s))
  trail-after links s trail =
      let link : LinkView = its_link service links s in
      let rows = its_rows service links s in
      trail-same _ _ _ _ _ _ _ _ _ _
      (ap (λ t. trail.aw ++ t) (taken-one s.upper rows.aw link.aw))
      (ap (λ t. trail.w ++ t) (taken-one s.upper rows.w link.w))
      (ap (λ t. trail.b ++ t) (put-one s.upper (moved_b service links s)))
      (ap (λ t. trail.ar ++ t) (taken-one s.upper rows.ar link.ar))
      (ap (λ t. trail.r ++ t) (put-one s.upper (moved_r service links s)))

  -- B
  step-b : (done : Bool) (entries : List WriteEntry) (aw : List Addr) (w : List WBeat) (b : List BBeat) → (done ≡ true → first_is_whole entries ≡ true) → TracksWrites service entries aw w b →
      TracksWrites service (after_b (beat_where done (option_map answer_to (head_of entries))) entries) aw w (b ++ one_of (beat_where done (option_map answer_to (head_of entries))))
  step-b false entries aw w b may is = subst (λ (t : List BBeat). TracksWrites service entries aw w t) (sym (append-nil b)) is
  step-b true [] aw w b may is = subst (λ (t : List BBeat). TracksWrites service [] aw w t) (sym (append-nil b)) is
  step-b true (e ∷ entries) aw w b may is =
      let whole : lacks_data e ≡ false = not-true (lacks_data e) (may refl) in
      tracks-answer service e entries aw w b whole is
    where
      not-true : (c : Bool) → not c ≡ true → c ≡ false
      not-true true no' = absurd (cc)
      not-true false no' = refl

  -- the write that is answered has its data, so the next data beat is for the same write as before
  pub oldest-after_b : (done : Bool) (entries : List WriteEntry) → (done ≡ true → first_is_whole entries ≡ true) →
      oldest_lacking (after_b (beat_where done (option_map answer_to (head_of entries))) entries) ≡ oldest_lacking entries
  oldest-after_b false entries may = refl
  oldest-after_b true [] may = refl
  oldest-after_b true (e ∷ entries) may = go (lacks_data e) (may refl)
    where
      go : (c : Bool) → not c ≡ true → oldest_lacking entries ≡ cond c (Some e) (oldest_lacking entries)
      go true no' = absurd (cc)
      go false no' = refl

  -- W: the mark of the beat that is taken is the next one
  pub next-data : (entries : List WriteEntry) (aw : List Addr) (w : List WBeat) (b : List BBeat) (e : WriteEntry) (x : WBeat) → TracksWrites service entries aw w b → oldest_lacking entries ≡ Some e →
      Agree (map mark_of_data (w ++ x ∷ [])) (marks (map burst_asked aw)) → number_of_data x ≡ number_of_write e
  next-data entries aw w b e x is found agree =
      let first = first-pending service e entries aw w b found is in
      let waits : pending_asked (length (map mark_of_data w)) (map burst_asked aw) ≡ waiting_shown burst_asked (data_waiting e) ∷ map (waiting_shown burst_asked) first.0 =
      ap (λ n. pending_asked n (map burst_asked aw)) (length-map w mark_of_data) ∙ pending-shown burst_asked len_of_asked (length w) aw ∙ ap (map (waiting_shown burst_asked)) first.1 in
      let same : mark_of_data x ≡ next_mark (waiting_shown burst_asked (data_waiting e)) =
      next_beat (map burst_asked aw) (map mark_of_data w) (mark_of_data x) (waiting_shown burst_asked (data_waiting e)) (map (waiting_shown burst_asked) first.0)
      (subst (λ (ms : List Mark). Agree ms (marks (map burst_asked aw))) (map-append mark_of_data w (x ∷ [])) agree) waits in
      ap (λ m. m.number) same

  step-w : (done : Bool) (head : Option WBeat) (entries : List WriteEntry) (aw : List Addr) (w : List WBeat) (b : List BBeat) → (done ≡ true → is_some (oldest_lacking entries) ≡ true) →
      Agree (map mark_of_data (w ++ one_of (beat_where done head))) (marks (map burst_asked aw)) → TracksWrites service entries aw w b →
      TracksWrites service (after_w service (beat_where done head) entries) aw (w ++ one_of (beat_where done head)) b
  step-w false head entries aw w b may agree is = subst (λ (t : List WBeat). TracksWrites service entries aw t b) (sym (append-nil w)) is
  step-w true None entries aw w b may agree is = subst (λ (t : List WBeat). TracksWrites service entries aw t b) (sym (append-nil w)) is
  step-w true (Some x) entries aw w b may agree is = go (oldest_lacking entries) refl (may refl)
    where
      go : (o : Option WriteEntry) → oldest_lacking entries ≡ o → is_some o ≡ true → TracksWrites service (after_w service (Some x) entries) aw (w ++ x ∷ []) b
      go None found there = absurd (cc)
      go (Some e) found there = tracks-beat service x e entries aw w b found (next-data entries aw w b e x is found agree) is

  -- AW
  step-aw : (o : Option Addr) (entries : List WriteEntry) (aw : List Addr) (w : List WBeat) (b : List BBeat) → TracksWrites service entries aw w b → TracksWrites service (after_aw o entries) (aw ++ one_of o) w b
  step-aw None entries aw w b is = subst (λ (t : List Addr). TracksWrites service entries t w b) (sym (append-nil aw)) is
  step-aw (Some a) entries aw w b is = tracks-address service a entries aw w b is

  module _ (schedule : Schedule) (now : Progress) (links : List LinkView) (s : Subordinate D) (trail : Beats) (is_service : IsService service)
      (suits : (t : ℕ) → SuitsService service (schedule.writes t) (schedule.reads t)) (keeps : KeepsOrder service schedule s trail) (asks : Asks schedule now trail)
      (later : Asks schedule now (joined trail (moved_below (serves service links s) links s.upper))) where
    abbrev link : LinkView
    link = its_link service links s

    abbrev after : Beats
    after = trail_of (trail.aw ++ one_of (moved_aw service links s)) (trail.w ++ one_of (moved_w service links s)) (trail.b ++ one_of (moved_b service links s)) (trail.ar ++ one_of (moved_ar service links s)) (trail.r ++ one_of (moved_r service links s))

    -- what is asked after the round, by what is moved on each channel
    pub asked-after : Asks schedule now after
    asked-after = subst (λ (t : Beats). Asks schedule now t) (trail-after links s trail) later

    pub answers-whole : (its_rows service links s).b ≡ true → first_is_whole s.writes ≡ true
    answers-whole done = both-let (has_room link.depth link.b) (first_is_whole s.writes) s.paces.b done

    -- data that is taken follows the addresses that were taken before
    pub data-follows : Agree (map mark_of_data (trail.w ++ one_of (moved_w service links s))) (marks (map burst_asked trail.aw))
    data-follows =
        Agree_fronts (prefix_itself _) (prefix_flat_map marks_of (prefix_map burst_asked (prefix_append trail.aw (one_of (moved_aw service links s))))) asked-after.data_follows_addresses

    writes-after : TracksWrites service (served service links s).writes after.aw after.w after.b
    writes-after =
        let answered : List WriteEntry = after_b (moved_b service links s) s.writes in
        let same : oldest_lacking answered ≡ oldest_lacking s.writes = oldest-after_b (its_rows service links s).b s.writes answers-whole in
        step-aw (moved_aw service links s) (after_w service (moved_w service links s) answered) trail.aw after.w after.b
        (step-w (its_rows service links s).w (head_of link.w) answered trail.aw trail.w after.b
        (λ done. ap is_some same ∙ both-let (is_some (head_of link.w)) (is_some (oldest_lacking s.writes)) s.paces.w done) data-follows
        (step-b (its_rows service links s).b s.writes trail.aw trail.w trail.b answers-whole keeps.writes))

    -- R, AR
    step-r : (done : Bool) (entries : List ReadEntry) → TracksReads schedule.reads entries trail.ar trail.r →
        TracksReads schedule.reads (after_r (beat_where done (option_map (read_beat service s.kept) (head_of entries))) entries) trail.ar (trail.r ++ one_of (beat_where done (option_map (read_beat service s.kept) (head_of entries))))
    step-r false entries is = subst (λ (t : List RBeat). TracksReads schedule.reads entries trail.ar t) (sym (append-nil trail.r)) is
    step-r true [] is = subst (λ (t : List RBeat). TracksReads schedule.reads [] trail.ar t) (sym (append-nil trail.r)) is
    step-r true (e ∷ entries) is =
        tracks-put service s.kept schedule.reads e entries trail.ar trail.r is_service (suits (number_of_read e)).read_responses (asks.reads.asks_only_its_parts (number_of_read e)) is

    step-ar : (o : Option Addr) (entries : List ReadEntry) (ar : List Addr) (r : List RBeat) → TracksReads schedule.reads entries ar r → TracksReads schedule.reads (after_ar o entries) (ar ++ one_of o) r
    step-ar None entries ar r is = subst (λ (t : List Addr). TracksReads schedule.reads entries t r) (sym (append-nil ar)) is
    step-ar (Some a) entries ar r is = tracks-request schedule.reads a entries ar r is

    pub order-lasts : KeepsOrder service schedule (served service links s) (joined trail (moved_below (serves service links s) links s.upper))
    order-lasts = subst (λ (t : Beats). KeepsOrder service schedule (served service links s) t) (sym (trail-after links s trail)) record {
      writes = writes-after;
      reads = step-ar (moved_ar service links s) (after_r (moved_r service links s) s.reads) trail.ar after.r (step-r (its_rows service links s).r s.reads keeps.reads);
    }
