-- A round of a splitter.
use Rattle.std.proofs.Common.{◌≡◌, ◌≢◌, ◌<◌, ◌≤◌, ◌+◌, ◌-◌, ◌==◌, ℕ, zero, suc, Bool, true, false, cond, List, [], ◌∷◌, ◌++◌, Option, Some, None, length, map, take, refl, sym, ◌∙◌, ap, ap₂, subst, inl, inr, arith, append-nil, eq-eqb}
use Rattle.std.specs.Prelude.{All, is_some, nat_lt, not}
use Rattle.std.specs.List.{AllZip}
use Rattle.std.specs.Option.{option_map}
use Rattle.std.proofs.lemmas.Bool.{cases_eq, eqb-true, le-ltb, lt-ltb, ne_eqb, true≢false}
use Rattle.std.proofs.lemmas.List.{length-map}
use Rattle.std.proofs.lemmas.List.Elements.{All-filter, All-head}
use Rattle.axi_beats.specs.Response.{worst_of}
use Rattle.axi_beats.specs.declared.beat.Addr.{Addr}
use Rattle.axi_beats.specs.declared.beat.BBeat.{BBeat}
use Rattle.axi_beats.specs.declared.beat.RBeat.{RBeat}
use Rattle.axi_beats.specs.declared.beat.WBeat.{WBeat}
use Rattle.axi_beats.specs.declared.response.Resp.{Resp}
use Rattle.axi_beats.specs.declared.response.Resp.TheVariants.{Okay}
use Rattle.axi_link.specs.LinkView.{LinkView}
use Rattle.axi_link.specs.Moves.{appended, takes_from}
use Rattle.axi_link.specs.LinkWords.{has_room, head_of, link_of}
use Rattle.node_core.specs.Rows.{beat_where, put_of, take_of, fits}
use Rattle.plain_lists.proofs.KeyLemmas.{filter-push, filter-push_skip, of_key-map, of_key-push, of_key-push_other}
use Rattle.axi_trail.proofs.HeldFacts.{held-answer, held-request}
use Rattle.plain_lists.proofs.PrefixLemmas.{All_front, prefix_map, prefix_same}
use Rattle.axi_trail.proofs.StepFacts.{answers_within}
use Rattle.axi_trail.specs.LinkContracts.{Answers, Asks, OneIdAtATime, without_id}
use Rattle.axi_trail.specs.Schedule.{Progress, Schedule, Share}
use Rattle.plain_lists.specs.Prefixes.{IsPrefix}
use Rattle.axi_trail.specs.Trail.{beat_taken, Beats, joined, moved_above, moved_below, no_beats, seen_above}
use Rattle.axi_trail.specs.Waiting.{Waiting, fresh, held}
use Rattle.axi_trail.specs.Words.{Asked, InOrderOfId, Reply, burst_asked, held_asked, id_of_asked, id_of_reply, id_of_waiting, len_of_asked, next_reply, number_of_address, number_of_asked, number_of_reply, number_of_response, read_reply, write_asked, write_reply}
use Rattle.plain_lists.specs.Keys.{of_key}
use Rattle.burst_cuts.proofs.ShownLemmas.{all-single, same-asked, singles-asked}
use Rattle.split_node.proofs.AskLemmas.{r-replies}
use Rattle.burst_cuts.proofs.CutLemmas.{map-append, one-id_of_whole}
use Rattle.burst_cuts.proofs.HeldLemmas.{IsWithin, held-within}
use Rattle.split_node.proofs.StepLemmas.{StepsAnswer, address-step, answer-step, listed, once, put-listed}
use Rattle.split_node.proofs.WorstLemmas.{StepsWorst, worst-step}
use Rattle.burst_cuts.proofs.GroupLemmas.{groups-nil}
use Rattle.burst_cuts.specs.CutLaws.{ends, single, single_reply}
use Rattle.burst_cuts.specs.Parts.{as_last, len_of_burst, worst_of_groups}
use Rattle.burst_address.specs.Status.{worst_among}
use Rattle.split_node.specs.SplitTable.{AnswerRow, added, address_row, b_of_entry, b_row, oldest_entry, new_entry, misses_more, no_answer, one_less, r_of_entry, r_row, split_ar, split_aw, split_b, split_next, split_out, split_r, with_rlast}
use Rattle.split_node.specs.declared.burst.InWork.{InWork}
use Rattle.split_node.specs.declared.burst.SplitEntry.{SplitEntry}
use Rattle.split_node.specs.SplitState.{IsSplit, SplitState, new_split}
use Rattle.split_node.specs.SplitTrail.{IsWorst, SplitKeeps, Splits, SplitsRequests, left_of_work, as_last_read, responses_to}

-- takes and puts as lists

taken-some : {X : Type 0} (link : ℕ) (x : X) (queue : List X) → beat_taken (takes_from link (take_of link true)) (x ∷ queue) ≡ x ∷ []
taken-some {X} link x queue = ap (λ (b : Bool). beat_taken b (x ∷ queue)) (eq-eqb link link refl)

address-taken : (link : ℕ) (room fits : Bool) (queue : List Addr) (work : Option InWork) →
    beat_taken (takes_from link (take_of link (is_some (address_row room fits (head_of queue) work).taken))) queue ≡ listed (address_row room fits (head_of queue) work).taken
address-taken link false fits queue work = refl
address-taken link true fits queue (Some w) = refl
address-taken link true false queue None = refl
address-taken link true true [] None = refl
address-taken link true true (a ∷ queue) None = taken-some link a queue

data-moves : (room : Bool) (queue : List WBeat) (from to : ℕ) →
    appended to (put_of to (option_map as_last (beat_where room (head_of queue)))) ≡ map as_last (beat_taken (takes_from from (take_of from (is_some (beat_where room (head_of queue))))) queue)
data-moves false queue from to = refl
data-moves true [] from to = refl
data-moves true (w ∷ queue) from to = put-listed to (Some (as_last w)) ∙ ap (map as_last) (sym (taken-some from w queue))

-- the last answer is missing exactly where the next beat is the last one
last-same : (missing done len : ℕ) → missing ≡ suc len - done → done ≤ len → not (nat_lt 1 missing) ≡ (done == len)
last-same missing done len is within = elim (cases_eq done len) [
  | inl last ↦ ap not (le-ltb 1 missing (omega (arith, is, last))) ∙ sym (eq-eqb done len last)
  | inr more ↦ ap not (lt-ltb 1 missing (let some : 1 < missing = omega (arith, is, within, more) in some)) ∙ sym (ne_eqb done len more)
]

oldest-within : (asked : List Asked) (beats : List Reply) (id : ℕ) (w : Waiting Asked) (others : List (Waiting Asked)) → of_key id_of_waiting id (held_asked asked beats) ≡ w ∷ others → w.done ≤ w.request.len
oldest-within asked beats id w others first =
    All-head IsWithin w others (subst (λ (l : List (Waiting Asked)). All IsWithin l) first (All-filter (λ (v : Waiting Asked). id_of_waiting v == id) IsWithin (held_asked asked beats) (held-within asked (map id_of_reply beats))))

same-some : {X : Type 0} (x y : X) → Some x ≡ Some y → x ≡ y
same-some x y e = cc

abbrev the-reply : ℕ → ℕ → Bool → Reply
the-reply number id last = record { number = number; id = id; last = last }

-- Read data.

pub record StepsReads (work : Option InWork) (upper lower : List Addr) (ur lr queue : List RBeat) (link : ℕ) (row : AnswerRow RBeat) : Type 0 where
  pub reads : SplitsRequests work row.entries upper lower (map read_reply (ur ++ listed row.put))
  pub same : lr ++ listed row.taken ≡ map as_last_read (ur ++ listed row.put)
  pub takes : beat_taken (takes_from link (take_of link (is_some row.taken))) queue ≡ listed row.taken

module _ (work : Option InWork) (upper lower : List Addr) (ur lr : List RBeat) (link : ℕ) (entries : List SplitEntry) (keeps : SplitsRequests work entries upper lower (map read_reply ur)) (same : lr ≡ map as_last_read ur) where
  no-read : (queue : List RBeat) → StepsReads work upper lower ur lr queue link (no_answer entries)
  no-read queue = record {
    reads = subst (λ (rs : List RBeat). SplitsRequests work entries upper lower (map read_reply rs)) (sym (append-nil ur)) keeps;
    same = append-nil lr ∙ same ∙ ap (map as_last_read) (sym (append-nil ur));
    takes = refl;
  }

  read-of : (r : RBeat) (queue : List RBeat) → InOrderOfId (map burst_asked lower) (map read_reply (lr ++ r ∷ [])) → (o : Option SplitEntry) → oldest_entry r.id entries ≡ o → StepsReads work upper lower ur lr (r ∷ queue) link (r_of_entry r entries o)
  read-of r queue order None found = no-read (r ∷ queue)
  read-of r queue order (Some e) found =
      let beats = map read_reply ur in
      let shown : map read_reply (lr ++ r ∷ []) ≡ map single_reply beats ++ read_reply r ∷ [] =
      map-append read_reply lr (r ∷ []) ∙ ap (λ (l : List Reply). l ++ read_reply r ∷ []) (ap (map read_reply) same ∙ r-replies ur) in
      let st = answer-step work entries upper lower beats (read_reply r) keeps (subst (λ (l : List Reply). InOrderOfId (map burst_asked lower) l) shown order) in
      let w = st.oldest.waiting in
      let entry : st.has.entry ≡ e = same-some st.has.entry e (sym st.has.found ∙ found) in
      let missing : e.missing ≡ suc w.request.len - w.done = ap (λ (x : SplitEntry). x.missing) (sym entry) ∙ st.has.missing in
      let within = oldest-within (map burst_asked upper) beats r.id w st.oldest.others st.oldest.oldest in
      let put : RBeat = with_rlast r (not (misses_more e)) in
      let number : r.tag.txn ≡ w.request.number = ap number_of_reply st.oldest.is in
      let id : r.id ≡ w.request.id = ap id_of_reply st.oldest.is in
      let reply : read_reply put ≡ next_reply w = replies r.tag.txn w.request.number r.id w.request.id (not (misses_more e)) (w.done == w.request.len) number id (last-same e.missing w.done w.request.len missing within) in
      let last : r.last ≡ true = ap (λ (p : Reply). p.last) st.oldest.is in
      record {
        reads = subst (λ (l : List Reply). SplitsRequests work (one_less r.id Okay entries) upper lower l) (sym (map-append read_reply ur (put ∷ []) ∙ ap (λ (p : Reply). beats ++ p ∷ []) reply)) (st.keeps Okay);
        same = ap₂ (λ (x : List RBeat) (b : Bool). x ++ with_rlast r b ∷ []) same last ∙ sym (map-append as_last_read ur (put ∷ []));
        takes = taken-some link r queue;
      }
    where
      replies : (n n' i i' : ℕ) (b b' : Bool) → n ≡ n' → i ≡ i' → b ≡ b' → the-reply n i b ≡ the-reply n' i' b'
      replies n n' i i' b b' e f g = ap (λ (x : ℕ). the-reply x i b) e ∙ ap (λ (x : ℕ). the-reply n' x b) f ∙ ap (λ (x : Bool). the-reply n' i' x) g

  pub read-step : (room : Bool) (queue : List RBeat) → InOrderOfId (map burst_asked lower) (map read_reply (lr ++ take 1 queue)) → StepsReads work upper lower ur lr queue link (r_row room (head_of queue) entries)
  read-step false queue order = no-read queue
  read-step true [] order = no-read []
  read-step true (r ∷ queue) order = read-of r queue order (oldest_entry r.id entries) refl

-- Responses.

pub record StepsWrites (lens : ℕ → List ℕ) (work : Option InWork) (upper lower : List Addr) (ub lb queue : List BBeat) (link : ℕ) (row : AnswerRow BBeat) : Type 0 where
  pub beats : List Reply
  pub writes : SplitsRequests work row.entries upper lower beats
  pub below : map write_reply (lb ++ listed row.taken) ≡ map single_reply beats
  pub above : map write_reply (ub ++ listed row.put) ≡ ends beats
  pub worst : (t : ℕ) → responses_to (ub ++ listed row.put) t ≡ worst_of_groups (lens t) (responses_to (lb ++ listed row.taken) t)
  pub entries_worst : AllZip (IsWorst (responses_to (lb ++ listed row.taken))) row.entries (held_asked (map burst_asked upper) beats)
  pub takes : beat_taken (takes_from link (take_of link (is_some row.taken))) queue ≡ listed row.taken

responses-own : (bs : List BBeat) (b : BBeat) (t : ℕ) → b.tag.txn ≡ t → responses_to (bs ++ b ∷ []) t ≡ responses_to bs t ++ b.resp ∷ []
responses-own bs b t own = ap (map (λ (b : BBeat). b.resp)) (of_key-push number_of_response t bs b own) ∙ map-append (λ (b : BBeat). b.resp) (of_key number_of_response t bs) (b ∷ [])

responses-other : (bs : List BBeat) (b : BBeat) (t : ℕ) → b.tag.txn ≢ t → responses_to (bs ++ b ∷ []) t ≡ responses_to bs t
responses-other bs b t other = ap (map (λ (b : BBeat). b.resp)) (of_key-push_other number_of_response t bs b other)

module _ (shares : ℕ → Share) (lens : ℕ → List ℕ) (work : Option InWork) (upper lower : List Addr) (ub lb : List BBeat) (link : ℕ) (entries : List SplitEntry) (beats : List Reply)
    (keeps : SplitsRequests work entries upper lower beats) (below : map write_reply lb ≡ map single_reply beats) (above : map write_reply ub ≡ ends beats)
    (worst : (t : ℕ) → responses_to ub t ≡ worst_of_groups (lens t) (responses_to lb t)) (all : AllZip (IsWorst (responses_to lb)) entries (held_asked (map burst_asked upper) beats))
    (one : OneIdAtATime shares (map burst_asked upper) beats) (its_lens : (t : ℕ) → IsPrefix (map len_of_asked (of_key number_of_asked t (map burst_asked upper))) (lens t)) where
  no-write : (queue : List BBeat) → StepsWrites lens work upper lower ub lb queue link (no_answer entries)
  no-write queue = record {
    beats = beats;
    writes = keeps;
    below = ap (map write_reply) (append-nil lb) ∙ below;
    above = ap (map write_reply) (append-nil ub) ∙ above;
    worst = λ t. ap (λ (bs : List BBeat). responses_to bs t) (append-nil ub) ∙ worst t ∙ ap (λ (bs : List BBeat). worst_of_groups (lens t) (responses_to bs t)) (sym (append-nil lb));
    entries_worst = subst (λ (bs : List BBeat). AllZip (IsWorst (responses_to bs)) entries (held_asked (map burst_asked upper) beats)) (sym (append-nil lb)) all;
    takes = refl;
  }

  counts : (t : ℕ) → length (responses_to lb t) ≡ length (of_key number_of_reply t beats)
  counts t =
      length-map (of_key number_of_response t lb) (λ (b : BBeat). b.resp)
      ∙ sym (length-map (of_key number_of_response t lb) write_reply)
      ∙ ap length (sym (of_key-map number_of_reply write_reply t lb) ∙ ap (of_key number_of_reply t) below ∙ of_key-map number_of_reply single_reply t beats)
      ∙ length-map (of_key number_of_reply t beats) single_reply

  module _ (b : BBeat) (order : InOrderOfId (map burst_asked lower) (map single_reply beats ++ write_reply b ∷ [])) (e : SplitEntry) (found : oldest_entry b.id entries ≡ Some e) where
    st : StepsAnswer work entries upper lower beats (write_reply b)
    st = answer-step work entries upper lower beats (write_reply b) keeps order

    abbrev w : Waiting Asked
    w = st.oldest.waiting

    number : b.tag.txn ≡ w.request.number
    number = ap number_of_reply st.oldest.is

    id : b.id ≡ w.request.id
    id = ap id_of_reply st.oldest.is

    missing : e.missing ≡ suc w.request.len - w.done
    missing = let entry : st.has.entry ≡ e = same-some st.has.entry e (sym st.has.found ∙ found) in ap (λ (x : SplitEntry). x.missing) (sym entry) ∙ st.has.missing

    within : w.done ≤ w.request.len
    within = oldest-within (map burst_asked upper) beats b.id w st.oldest.others st.oldest.oldest

    last-is : not (misses_more e) ≡ (w.done == w.request.len)
    last-is = last-same e.missing w.done w.request.len missing within

    abbrev next_beats : List Reply
    next_beats = beats ++ next_reply w ∷ []

    below-next : map write_reply (lb ++ b ∷ []) ≡ map single_reply next_beats
    below-next = map-append write_reply lb (b ∷ []) ∙ ap₂ (λ (l : List Reply) (p : Reply). l ++ p ∷ []) below st.oldest.is ∙ sym (map-append single_reply beats (next_reply w ∷ []))

    steps : StepsWorst (map burst_asked upper) beats lens (responses_to lb) (responses_to (lb ++ b ∷ [])) entries b.id w b.resp
    steps =
        worst-step shares (map burst_asked upper) beats one keeps.order lens its_lens (responses_to lb) (responses_to (lb ++ b ∷ [])) counts entries keeps.held all b.id w st.oldest.others st.oldest.oldest e found b.resp
        (responses-own lb b w.request.number number) (λ t other. responses-other lb b t (λ same. other (sym same ∙ number)))

    entries-next : AllZip (IsWorst (responses_to (lb ++ b ∷ []))) (one_less b.id b.resp entries) (held_asked (map burst_asked upper) next_beats)
    entries-next =
        subst (λ (l : List (Waiting Asked)). AllZip (IsWorst (responses_to (lb ++ b ∷ []))) (one_less b.id b.resp entries) l) (sym held-next) steps.entries_worst
      where
        held-next : held_asked (map burst_asked upper) next_beats ≡ once b.id (held_asked (map burst_asked upper) beats)
        held-next =
            ap (held len_of_asked id_of_asked (map burst_asked upper)) (map-append id_of_reply beats (next_reply w ∷ []))
            ∙ held-answer len_of_asked id_of_asked (map burst_asked upper) (map id_of_reply beats) w.request.id ∙ ap (λ (i : ℕ). once i (held_asked (map burst_asked upper) beats)) (sym id)

    -- not the last one
    open-step : (queue : List BBeat) → misses_more e ≡ true → StepsWrites lens work upper lower ub lb (b ∷ queue) link (record { taken = Some b; put = None; entries = one_less b.id b.resp entries })
    open-step queue more =
        let last : (next_reply w).last ≡ false = sym last-is ∙ ap not more in
        let not_last : w.done ≢ w.request.len = λ same. true≢false (sym (eq-eqb w.done w.request.len same) ∙ last) in
        record {
          beats = next_beats;
          writes = st.keeps b.resp;
          below = below-next;
          above = ap (map write_reply) (append-nil ub) ∙ above ∙ sym (filter-push_skip (λ (p : Reply). p.last) beats (next_reply w) last);
          worst = λ t. ap (λ (bs : List BBeat). responses_to bs t) (append-nil ub) ∙ worst t ∙ elim (cases_eq b.tag.txn t) [
            | inl own ↦ subst (λ (n : ℕ). worst_of_groups (lens n) (responses_to lb n) ≡ worst_of_groups (lens n) (responses_to (lb ++ b ∷ []) n)) (sym number ∙ own) (sym (steps.open_ not_last))
            | inr other ↦ ap (worst_of_groups (lens t)) (sym (responses-other lb b t other))
          ];
          entries_worst = entries-next;
          takes = taken-some link b queue;
        }

    -- the last one
    last-step : (queue : List BBeat) → misses_more e ≡ false →
        StepsWrites lens work upper lower ub lb (b ∷ queue) link (record { taken = Some b; put = Some (record { id = b.id; resp = worst_of e.worst b.resp; tag = b.tag }); entries = one_less b.id b.resp entries })
    last-step queue all_there =
        let put : BBeat = record { id = b.id; resp = worst_of e.worst b.resp; tag = b.tag } in
        let last : (next_reply w).last ≡ true = sym last-is ∙ ap not all_there in
        let is_last : w.done ≡ w.request.len = eqb-true w.done w.request.len last in
        let reply : write_reply put ≡ next_reply w =
        ap (λ (x : ℕ). the-reply x b.id true) number ∙ ap (λ (x : ℕ). the-reply w.request.number x true) id ∙ ap (λ (x : Bool). the-reply w.request.number w.request.id x) (sym last) in
        record {
          beats = next_beats;
          writes = st.keeps b.resp;
          below = below-next;
          above = map-append write_reply ub (put ∷ []) ∙ ap₂ (λ (l : List Reply) (p : Reply). l ++ p ∷ []) above reply ∙ sym (filter-push (λ (p : Reply). p.last) beats (next_reply w) last);
          worst = λ t. elim (cases_eq b.tag.txn t) [
            | inl own ↦
                let here : worst_of_groups (lens t) (responses_to (lb ++ b ∷ []) t) ≡ worst_of_groups (lens t) (responses_to lb t) ++ worst_of e.worst b.resp ∷ [] =
                subst (λ (n : ℕ). worst_of_groups (lens n) (responses_to (lb ++ b ∷ []) n) ≡ worst_of_groups (lens n) (responses_to lb n) ++ worst_of e.worst b.resp ∷ []) (sym number ∙ own) (steps.closed e found is_last) in
                responses-own ub put t own ∙ ap (λ (l : List Resp). l ++ worst_of e.worst b.resp ∷ []) (worst t) ∙ sym here
            | inr other ↦ responses-other ub put t other ∙ worst t ∙ ap (worst_of_groups (lens t)) (sym (responses-other lb b t other))
          ];
          entries_worst = entries-next;
          takes = taken-some link b queue;
        }

  write-of : (room : Bool) (b : BBeat) (queue : List BBeat) → InOrderOfId (map burst_asked lower) (map single_reply beats ++ write_reply b ∷ []) → (o : Option SplitEntry) → oldest_entry b.id entries ≡ o →
      StepsWrites lens work upper lower ub lb (b ∷ queue) link (b_of_entry room b entries o)
  write-of room b queue order None found = no-write (b ∷ queue)
  write-of room b queue order (Some e) found = go (misses_more e) refl room
    where
      go : (more : Bool) → misses_more e ≡ more → (room : Bool) → StepsWrites lens work upper lower ub lb (b ∷ queue) link
          (cond more (record { taken = Some b; put = None; entries = one_less b.id b.resp entries })
          (cond room (record { taken = Some b; put = Some (record { id = b.id; resp = worst_of e.worst b.resp; tag = b.tag }); entries = one_less b.id b.resp entries }) (no_answer entries)))
      go false last true = last-step b order e found queue last
      go false last false = no-write (b ∷ queue)
      go true more room = open-step b order e found queue more

  pub write-step : (room : Bool) (queue : List BBeat) → InOrderOfId (map burst_asked lower) (map single_reply beats ++ map write_reply (take 1 queue)) → StepsWrites lens work upper lower ub lb queue link (b_row room (head_of queue) entries)
  write-step room [] order = no-write []
  write-step room (b ∷ queue) order = write-of room b queue order (oldest_entry b.id entries) refl

-- A request more is held, with the worst of no response.
entries-more : (rs : ℕ → List Resp) (upper : List Addr) (taken : Option Addr) (entries : List SplitEntry) (beats : List Reply) → InOrderOfId (map burst_asked upper) beats →
    AllZip (IsWorst rs) entries (held_asked (map burst_asked upper) beats) → AllZip (IsWorst rs) (entries ++ added taken) (held_asked (map burst_asked (upper ++ listed taken)) beats)
entries-more rs upper None entries beats order all =
    subst (λ (l : List SplitEntry). AllZip (IsWorst rs) l (held_asked (map burst_asked (upper ++ [])) beats)) (sym (append-nil entries))
    (subst (λ (l : List Addr). AllZip (IsWorst rs) entries (held_asked (map burst_asked l) beats)) (sym (append-nil upper)) all)
entries-more rs upper (Some a) entries beats order all =
    let asked = map burst_asked upper in
    let one : held_asked (asked ++ burst_asked a ∷ []) beats ≡ held_asked asked beats ++ fresh (burst_asked a) ∷ [] =
    held-request len_of_asked id_of_asked asked (map id_of_reply beats) (burst_asked a) (answers_within asked beats order a.id) in
    subst (λ (l : List (Waiting Asked)). AllZip (IsWorst rs) (entries ++ new_entry a ∷ []) l)
    (sym (ap (λ (l : List Asked). held_asked l beats) (map-append burst_asked upper (a ∷ [])) ∙ one))
    (zip-push entries (held_asked asked beats) all)
  where
    here : IsWorst rs (new_entry a) (fresh (burst_asked a))
    here = record { front = rs a.tag.txn; own = []; whole = sym (append-nil (rs a.tag.txn)); count = refl; worst = refl }

    zip-push : (es : List SplitEntry) (ws : List (Waiting Asked)) → AllZip (IsWorst rs) es ws → AllZip (IsWorst rs) (es ++ new_entry a ∷ []) (ws ++ fresh (burst_asked a) ∷ [])
    zip-push [] [] all = (here, tt)
    zip-push [] (w ∷ ws) all = absurd all
    zip-push (e ∷ es) [] all = absurd all
    zip-push (e ∷ es) (w ∷ ws) all = (all.0, zip-push es ws all.1)

-- the lengths of a transaction's requests are those of its parts
lens-of : (addresses : List Addr) → map len_of_asked (map burst_asked addresses) ≡ map len_of_burst (map without_id addresses)
lens-of [] = refl
lens-of (a ∷ addresses) = ap (λ (l : List ℕ). a.len ∷ l) (lens-of addresses)

beats_are : (x y : Beats) → x.aw ≡ y.aw → x.w ≡ y.w → x.b ≡ y.b → x.ar ≡ y.ar → x.r ≡ y.r → x ≡ y
beats_are x y aw w b ar r =
    ap (λ (l : List Addr). record { aw = l; w = x.w; b = x.b; ar = x.ar; r = x.r }) aw
    ∙ ap (λ (l : List WBeat). record { aw = y.aw; w = l; b = x.b; ar = x.ar; r = x.r }) w
    ∙ ap (λ (l : List BBeat). record { aw = y.aw; w = y.w; b = l; ar = x.ar; r = x.r }) b
    ∙ ap (λ (l : List Addr). record { aw = y.aw; w = y.w; b = y.b; ar = l; r = x.r }) ar
    ∙ ap (λ (l : List RBeat). record { aw = y.aw; w = y.w; b = y.b; ar = y.ar; r = l }) r

-- the responses below, with the head that is seen, are in order of the parts
pub responses-in_order : (above below : Schedule) (now : Progress) (s : SplitState) (upper lower : Beats) (link : LinkView) (keeps : SplitKeeps above below s upper lower) →
    Answers below now (seen_above lower link) → InOrderOfId (map burst_asked lower.aw) (map single_reply keeps.write_beats ++ map write_reply (take 1 link.b))
responses-in_order above below now s upper lower link keeps answers =
    let single_below : map burst_asked lower.aw ≡ map write_asked lower.aw =
    same-asked lower.aw (All_front (λ (a : Addr). a.len ≡ 0) (record { rest = left_of_work s.write_work; whole = keeps.writes.parts }) (all-single upper.aw)) in
    subst (λ (asked : List Asked). InOrderOfId asked (map single_reply keeps.write_beats ++ map write_reply (take 1 link.b))) (sym single_below)
    (subst (λ (replies : List Reply). InOrderOfId (map write_asked lower.aw) replies)
    (map-append write_reply lower.b (take 1 link.b) ∙ ap (λ (x : List Reply). x ++ map write_reply (take 1 link.b)) keeps.b_below) answers.answers_in_order_of_id)

pub split-steps : (above below : Schedule) (now : Progress) (links : List LinkView) (s : SplitState) (upper lower : Beats) → IsSplit s → SplitKeeps above below s upper lower →
    Asks above now upper → Answers below now (seen_above lower (link_of links s.lower)) →
    SplitKeeps above below (split_next links s) (joined upper (moved_below (split_out links s) links s.upper)) (joined lower (moved_above (split_out links s) links s.lower))
split-steps above below now links s upper lower fact keeps asks answers =
    let u = link_of links s.upper in
    let l = link_of links s.lower in
    let bursts = map burst_asked upper.aw in
    let beats = keeps.write_beats in
    -- what is asked above
    let one_single : OneIdAtATime above.writes (map single bursts) (ends beats) =
    subst (λ (asked : List Asked). OneIdAtATime above.writes asked (ends beats)) (singles-asked upper.aw)
    (subst (λ (replies : List Reply). OneIdAtATime above.writes (map write_asked upper.aw) replies) keeps.b_above asks.writes.one_id_at_a_time) in
    let one_id : OneIdAtATime above.writes bursts beats = one-id_of_whole above.writes bursts beats keeps.writes.order one_single in
    let lens : ℕ → List ℕ = λ t. map len_of_burst (above.writes t).parts in
    let its_lens : (t : ℕ) → IsPrefix (map len_of_asked (of_key number_of_asked t bursts)) (lens t) = λ t.
    prefix_same (ap (map len_of_asked) (of_key-map number_of_asked burst_asked t upper.aw) ∙ lens-of (of_key number_of_address t upper.aw)) (prefix_map len_of_burst (asks.writes.asks_only_its_parts t)) in
    -- what is answered below
    let b_order = responses-in_order above below now s upper lower l keeps answers in
    let wb = write-step above.writes lens s.write_work upper.aw lower.aw upper.b lower.b s.lower s.writes beats keeps.writes keeps.b_below keeps.b_above keeps.worst keeps.entries_worst one_id its_lens (has_room u.depth u.b) l.b b_order in
    let rb = read-step s.read_work upper.ar lower.ar upper.r lower.r s.lower s.reads keeps.reads keeps.r (has_room u.depth u.r) l.r answers.reads_in_order_of_id in
    -- and the addresses
    let aw = split_aw links s in
    let ar = split_ar links s in
    let writes = address-step (has_room l.depth l.aw) (fits s.writes) (head_of u.aw) s.write_work (split_b links s).entries upper.aw lower.aw wb.beats fact.write_work wb.writes in
    let reads = address-step (has_room l.depth l.ar) (fits s.reads) (head_of u.ar) s.read_work (split_r links s).entries upper.ar lower.ar (map read_reply (upper.r ++ listed (split_r links s).put)) fact.read_work rb.reads in
    let data_taken = beat_taken (takes_from s.upper (split_out links s).w_take) u.w in
    let upper_next : Beats = record { aw = upper.aw ++ listed aw.taken; w = upper.w ++ data_taken; b = upper.b ++ listed (split_b links s).put; ar = upper.ar ++ listed ar.taken; r = upper.r ++ listed (split_r links s).put } in
    let lower_next : Beats = record { aw = lower.aw ++ listed aw.put; w = lower.w ++ map as_last data_taken; b = lower.b ++ listed (split_b links s).taken; ar = lower.ar ++ listed ar.put; r = lower.r ++ listed (split_r links s).taken } in
    let uppers : joined upper (moved_below (split_out links s) links s.upper) ≡ upper_next =
    beats_are (joined upper (moved_below (split_out links s) links s.upper)) upper_next
    (ap (λ (x : List Addr). upper.aw ++ x) (address-taken s.upper (has_room l.depth l.aw) (fits s.writes) u.aw s.write_work))
    refl
    (ap (λ (x : List BBeat). upper.b ++ x) (put-listed s.upper (split_b links s).put))
    (ap (λ (x : List Addr). upper.ar ++ x) (address-taken s.upper (has_room l.depth l.ar) (fits s.reads) u.ar s.read_work))
    (ap (λ (x : List RBeat). upper.r ++ x) (put-listed s.upper (split_r links s).put)) in
    let lowers : joined lower (moved_above (split_out links s) links s.lower) ≡ lower_next =
    beats_are (joined lower (moved_above (split_out links s) links s.lower)) lower_next
    (ap (λ (x : List Addr). lower.aw ++ x) (put-listed s.lower aw.put))
    (ap (λ (x : List WBeat). lower.w ++ x) (data-moves (has_room l.depth l.w) u.w s.upper s.lower))
    (ap (λ (x : List BBeat). lower.b ++ x) wb.takes)
    (ap (λ (x : List Addr). lower.ar ++ x) (put-listed s.lower ar.put))
    (ap (λ (x : List RBeat). lower.r ++ x) rb.takes) in
    subst (λ (x : Beats). SplitKeeps above below (split_next links s) x (joined lower (moved_above (split_out links s) links s.lower))) (sym uppers)
    (subst (λ (y : Beats). SplitKeeps above below (split_next links s) upper_next y) (sym lowers) (record {
      splits = keeps.splits;
      w = ap (λ (x : List WBeat). x ++ map as_last data_taken) keeps.w ∙ sym (map-append as_last upper.w data_taken);
      reads = reads;
      r = rb.same;
      write_beats = wb.beats;
      writes = writes;
      b_below = wb.below;
      b_above = wb.above;
      worst = wb.worst;
      entries_worst = entries-more (responses_to lower_next.b) upper.aw aw.taken (split_b links s).entries wb.beats wb.writes.order wb.entries_worst;
    }))

pub split-opens : (above below : Schedule) (upper lower : ℕ) → Splits above below → SplitKeeps above below (new_split upper lower) no_beats no_beats
split-opens above below upper lower splits =
    let none : SplitsRequests None [] [] [] [] = record { parts = refl; order = λ id. record { rest = []; whole = refl }; held = refl } in
    record {
      splits = splits;
      w = refl;
      reads = none;
      r = refl;
      write_beats = [];
      writes = none;
      b_below = refl;
      b_above = refl;
      worst = λ t. sym (groups-nil (map len_of_burst (above.writes t).parts));
      entries_worst = tt;
    }
