-- What a remapper is answered below, it answers above.
use Rattle.std.proofs.Common.{◌≡◌, ◌<◌, ◌≤◌, ◌+◌, ℕ, List, [], ◌∷◌, ◌++◌, length, map, take, drop, refl, sym, ◌∙◌, ap, ap₂, subst, inl, inr, arith, append_assoc}
use Rattle.std.specs.Prelude.{All, filter, slice_range}
use Rattle.std.proofs.lemmas.Bool.{cases_eq, cases_lt}
use Rattle.std.proofs.lemmas.List.{length-map, map-append, take-append-drop, take-map}
use Rattle.std.proofs.lemmas.List.Elements.{All-cons, All-head, All-nil, All-tail}
use Rattle.std.proofs.lemmas.Simd.{map-map}
use Rattle.axi_beats.specs.Lanes.{Span}
use Rattle.axi_beats.specs.declared.beat.Addr.{Addr}
use Rattle.axi_beats.specs.declared.beat.BBeat.{BBeat}
use Rattle.axi_beats.specs.declared.beat.RBeat.{RBeat}
use Rattle.axi_beats.specs.declared.beat.WBeat.{WBeat}
use Rattle.axi_trail.proofs.FilterFacts.{length-marks}
use Rattle.axi_trail.proofs.HeldFacts.{count_of-replies}
use Rattle.axi_trail.proofs.StepFacts.{answers_within}
use Rattle.axi_trail.specs.LinkContracts.{Answers}
use Rattle.axi_trail.specs.Schedule.{Progress, Schedule, bytes_on}
use Rattle.axi_trail.specs.Trail.{Beats}
use Rattle.axi_trail.specs.Waiting.{beats_by}
use Rattle.axi_trail.specs.Words.{Asked, InOrderOfId, IsAnswered, Mark, Reply, beats_due, burst_asked, completed, data_marks, id_of_asked, id_of_reply, mark_of_data, mark_of_reply, marks_of, number_of_read_data, number_of_response, read_reply, write_asked, write_reply}
use Rattle.plain_lists.proofs.KeyLemmas.{of_key-append, of_key-cons, of_key-map, of_key-skip}
use Rattle.plain_lists.proofs.PrefixLemmas.{prefix_append, prefix_flat_map, prefix_of_key, prefix_of_same, prefix_same, prefix_total}
use Rattle.plain_lists.specs.Keys.{count_of, of_key}
use Rattle.remap_node.proofs.AskLemmas.{from-above}
use Rattle.remap_node.proofs.StepLemmas.{beats-above, beats-below}
use Rattle.remap_node.specs.RemapState.{RemapState, ids_below}
use Rattle.remap_node.specs.RemapTable.{Renamed, address_as, read_data_as, response_as}
use Rattle.remap_node.specs.RemapTrail.{IsAnsweredBelow, PairsAreHeld, RemapKeeps, id_above, id_below, later_of, none_later, old_beat, shown_above, shown_below}
use Rattle.remap_node.specs.declared.pair.IdPair.{IdPair}

-- the first request of an ID
record IsFirst (id : ℕ) (moved : List (Renamed Addr)) : Type 0 where
  mid : List (Renamed Addr)
  at : Renamed Addr
  rest : List (Renamed Addr)
  whole : moved ≡ mid ++ at ∷ rest
  own : at.beat.id ≡ id
  none : of_key id_above id mid ≡ []

abbrev beats : List (Renamed Addr) → ℕ
beats moved = beats_by (later_of none_later) moved

first-own : (id : ℕ) (moved : List (Renamed Addr)) → 0 < beats (of_key id_above id moved) → IsFirst id moved
first-own id [] some = absurd (omega (arith, some))
first-own id (m ∷ moved) some = elim (cases_eq m.beat.id id) [
  | inl own ↦ record { mid = []; at = m; rest = moved; whole = refl; own = own; none = refl }
  | inr ne ↦
      let r = first-own id moved (subst (λ (ms : List (Renamed Addr)). 0 < beats ms) (of_key-skip id_above id m moved ne) some) in
      record { mid = m ∷ r.mid; at = r.at; rest = r.rest; whole = ap (λ (ms : List (Renamed Addr)). m ∷ ms) r.whole; own = r.own; none = of_key-skip id_above id m r.mid ne ∙ r.none }
]

beats-append : (xs ys : List (Renamed Addr)) → beats (xs ++ ys) ≡ beats xs + beats ys
beats-append [] ys = omega arith
beats-append (x ∷ xs) ys = omega (arith, beats-append xs ys)

own-append : (id_of : Renamed Addr → ℕ) (id : ℕ) (xs ys : List (Renamed Addr)) → beats (of_key id_of id (xs ++ ys)) ≡ beats (of_key id_of id xs) + beats (of_key id_of id ys)
own-append id_of id xs ys = ap beats (of_key-append id_of id xs ys) ∙ beats-append (of_key id_of id xs) (of_key id_of id ys)

own-one : (id_of : Renamed Addr → ℕ) (m : Renamed Addr) → beats (of_key id_of (id_of m) (m ∷ [])) ≡ 1
own-one id_of m = ap beats (of_key-cons id_of (id_of m) m [] refl)

-- where what answers the first requests alone below does so in order, it does so above
module _ (ids : ℕ) (moved : List (Renamed Addr)) (pairs : List IdPair) (up down : List Reply) (has : PairsAreHeld none_later ids moved pairs up down)
    (front back : List (Renamed Addr)) (split : moved ≡ front ++ back) (order : InOrderOfId (map (shown_below none_later) front) down) where
  -- an answer to a later request would come before one that is due below
  clash : (mid : List (Renamed Addr)) (a : Renamed Addr) (rest : List (Renamed Addr)) → back ≡ mid ++ a ∷ rest → of_key id_above a.beat.id mid ≡ [] →
      beats (of_key id_above a.beat.id front) < count_of a.beat.id (map id_of_reply up) → ⊥
  clash mid a rest whole none lt =
      let place : moved ≡ ((front ++ mid) ++ a ∷ []) ++ rest =
      split ∙ ap (λ (ms : List (Renamed Addr)). front ++ ms) whole ∙ sym (append_assoc (front ++ mid) (a ∷ []) rest ∙ append_assoc front mid (a ∷ rest)) in
      let due_above : beats (of_key id_above a.beat.id ((front ++ mid) ++ a ∷ [])) ≡ beats (of_key id_above a.beat.id front) + 1 =
      own-append id_above a.beat.id (front ++ mid) (a ∷ [])
      ∙ ap₂ (λ (m n : ℕ). m + n) (own-append id_above a.beat.id front mid ∙ ap (λ (ms : List (Renamed Addr)). beats (of_key id_above a.beat.id front) + beats ms) none) (own-one id_above a)
      ∙ omega arith in
      let asked : IsAnswered (map (shown_above none_later) (front ++ mid)) (shown_above none_later a) up =
      omega (
        arith,
        lt,
        due_above,
        ap (λ (xs : List Asked). beats_due (of_key id_of_asked a.beat.id xs)) (map-append (shown_above none_later) (front ++ mid) (a ∷ [])),
        beats-above none_later a.beat.id ((front ++ mid) ++ a ∷ []),
        count_of-replies a.beat.id up,
      ) in
      let done : IsAnsweredBelow none_later (front ++ mid) a (map id_of_reply down) = from-above none_later ids moved pairs up down has (front ++ mid) rest a place asked in
      let due_below : beats (of_key id_below a.id ((front ++ mid) ++ a ∷ [])) ≡ (beats (of_key id_below a.id front) + beats (of_key id_below a.id mid)) + 1 =
      own-append id_below a.id (front ++ mid) (a ∷ []) ∙ ap₂ (λ (m n : ℕ). m + n) (own-append id_below a.id front mid) (own-one id_below a) in
      absurd (omega (arith, done, due_below, answers_within (map (shown_below none_later) front) down order a.id, beats-below none_later a.id front))

  few : (id : ℕ) → count_of id (map id_of_reply up) ≤ beats (of_key id_above id front)
  few id = elim (cases_lt (beats (of_key id_above id front)) (count_of id (map id_of_reply up))) [
    | inr ge ↦ ge
    | inl lt ↦
        let all : count_of id (map id_of_reply up) ≤ beats (of_key id_above id moved) = omega (arith, answers_within (map (shown_above none_later) moved) up has.order_above id, beats-above none_later id moved) in
        let parts : beats (of_key id_above id moved) ≡ beats (of_key id_above id front) + beats (of_key id_above id back) =
        ap (λ (ms : List (Renamed Addr)). beats (of_key id_above id ms)) split ∙ own-append id_above id front back in
        let f = first-own id back (omega (arith, lt, all, parts)) in
        absurd (clash f.mid f.at f.rest f.whole (subst (λ (k : ℕ). of_key id_above k f.mid ≡ []) (sym f.own) f.none)
        (subst (λ (k : ℕ). beats (of_key id_above k front) < count_of k (map id_of_reply up)) (sym f.own) lt))
  ]

  whole-order : InOrderOfId (map (shown_above none_later) front) up
  whole-order id =
      let parts : map (shown_above none_later) moved ≡ map (shown_above none_later) front ++ map (shown_above none_later) back =
      ap (map (shown_above none_later)) split ∙ map-append (shown_above none_later) front back in
      prefix_total (has.order_above id)
      (prefix_flat_map marks_of (prefix_of_key id_of_asked id (prefix_of_same (prefix_append (map (shown_above none_later) front) (map (shown_above none_later) back)) (sym parts))))
      (omega (
        arith,
        few id,
        count_of-replies id up,
        length-map (of_key id_of_reply id up) mark_of_reply,
        length-marks (of_key id_of_asked id (map (shown_above none_later) front)),
        beats-above none_later id front,
      ))

-- The same beats but for their IDs have the same responses and bytes.
bytes-same : (moved : List (Renamed RBeat)) (lanes : List Span) → bytes_on (map read_data_as moved) lanes ≡ bytes_on (map old_beat moved) lanes
bytes-same [] lanes = refl
bytes-same (m ∷ moved) [] = refl
bytes-same (m ∷ moved) (span ∷ lanes) = ap (λ (bytes : List ℕ). slice_range m.beat.lanes span.low (span.high + 1) ++ bytes) (bytes-same moved lanes)

lanes-same : (moved : List (Renamed RBeat)) → All (λ (r : RBeat). length r.lanes ≡ 128) (map old_beat moved) → All (λ (r : RBeat). length r.lanes ≡ 128) (map read_data_as moved)
lanes-same [] all = All-nil (λ (r : RBeat). length r.lanes ≡ 128)
lanes-same (m ∷ moved) all =
    All-cons (λ (r : RBeat). length r.lanes ≡ 128) (read_data_as m) (map read_data_as moved) (All-head (λ (r : RBeat). length r.lanes ≡ 128) m.beat (map old_beat moved) all)
    (lanes-same moved (All-tail (λ (r : RBeat). length r.lanes ≡ 128) m.beat (map old_beat moved) all))

module _ (schedules : ℕ → Schedule) (now : Progress) (s : RemapState) (upper lower : Beats) (keeps : RemapKeeps schedules s upper lower) (answers : Answers (schedules s.shape.lower) now lower) where
  b-above : (t : ℕ) → of_key number_of_response t upper.b ≡ map response_as (of_key (λ (m : Renamed BBeat). m.beat.tag.txn) t keeps.responses)
  b-above t = ap (of_key number_of_response t) keeps.b.to_is ∙ of_key-map number_of_response response_as t keeps.responses

  b-below : (t : ℕ) → of_key number_of_response t lower.b ≡ map old_beat (of_key (λ (m : Renamed BBeat). m.beat.tag.txn) t keeps.responses)
  b-below t = ap (of_key number_of_response t) keeps.b.from_is ∙ of_key-map number_of_response old_beat t keeps.responses

  r-above : (t : ℕ) → of_key number_of_read_data t upper.r ≡ map read_data_as (of_key (λ (m : Renamed RBeat). m.beat.tag.txn) t keeps.read_data)
  r-above t = ap (of_key number_of_read_data t) keeps.r.to_is ∙ of_key-map number_of_read_data read_data_as t keeps.read_data

  r-below : (t : ℕ) → of_key number_of_read_data t lower.r ≡ map old_beat (of_key (λ (m : Renamed RBeat). m.beat.tag.txn) t keeps.read_data)
  r-below t = ap (of_key number_of_read_data t) keeps.r.from_is ∙ of_key-map number_of_read_data old_beat t keeps.read_data

  -- how many bursts of write data are whole, and the requests that they belong to
  abbrev wholes : ℕ
  wholes = length (filter (λ (m : Mark). m.last) (data_marks upper))

  abbrev front : List (Renamed Addr)
  front = take wholes keeps.writes

  wholes-below : length (filter (λ (m : Mark). m.last) (data_marks lower)) ≡ wholes
  wholes-below = ap (λ (ws : List WBeat). length (filter (λ (m : Mark). m.last) (map mark_of_data ws))) keeps.w

  completed-below : map write_asked (completed lower.aw (data_marks lower)) ≡ map (shown_below none_later) front
  completed-below =
      ap₂ (λ (n : ℕ) (xs : List Addr). map write_asked (take n xs)) wholes-below keeps.aw.to_is
      ∙ ap (map write_asked) (take-map address_as wholes keeps.writes) ∙ map-map write_asked address_as front

  completed-above : map write_asked (completed upper.aw (data_marks upper)) ≡ map (shown_above none_later) front
  completed-above =
      ap (λ (xs : List Addr). map write_asked (take wholes xs)) keeps.aw.from_is
      ∙ ap (map write_asked) (take-map old_beat wholes keeps.writes) ∙ map-map write_asked old_beat front

  pub answers-above : Answers (schedules s.shape.upper) now upper
  answers-above = record {
    answers_in_order_of_id = subst (λ (xs : List Asked). InOrderOfId xs (map write_reply upper.b)) (sym (ap (map write_asked) keeps.aw.from_is ∙ map-map write_asked old_beat keeps.writes)) keeps.write_ids.order_above;
    reads_in_order_of_id = subst (λ (xs : List Asked). InOrderOfId xs (map read_reply upper.r)) (sym (ap (map burst_asked) keeps.ar.from_is ∙ map-map burst_asked old_beat keeps.reads)) keeps.read_ids.order_above;
    responses_are_the_schedules = λ t.
        prefix_of_same
        (prefix_same
        (ap (map (λ (b : BBeat). b.resp)) (b-above t) ∙ map-map (λ (b : BBeat). b.resp) response_as _
        ∙ sym (ap (map (λ (b : BBeat). b.resp)) (b-below t) ∙ map-map (λ (b : BBeat). b.resp) old_beat _)) (answers.responses_are_the_schedules t))
        (keeps.suits.writes t).responses;
    read_responses_are_the_schedules = λ t.
        prefix_of_same
        (prefix_same
        (ap (map (λ (r : RBeat). r.resp)) (r-above t) ∙ map-map (λ (r : RBeat). r.resp) read_data_as _
        ∙ sym (ap (map (λ (r : RBeat). r.resp)) (r-below t) ∙ map-map (λ (r : RBeat). r.resp) old_beat _)) (answers.read_responses_are_the_schedules t))
        (keeps.suits.reads t).responses;
    answered_after_its_data =
        subst (λ (xs : List Asked). InOrderOfId xs (map write_reply upper.b)) (sym completed-above)
        (whole-order (ids_below s.shape) keeps.writes s.writes (map write_reply upper.b) (map write_reply lower.b) keeps.write_ids front (drop wholes keeps.writes) (sym (take-append-drop wholes keeps.writes))
        (subst (λ (xs : List Asked). InOrderOfId xs (map write_reply lower.b)) completed-below answers.answered_after_its_data));
    done_when_answered = λ t some all.
        let parts : length ((schedules s.shape.lower).writes t).parts ≡ length ((schedules s.shape.upper).writes t).parts = ap length (keeps.suits.writes t).parts in
        let many : length (of_key number_of_response t upper.b) ≡ length (of_key number_of_response t lower.b) =
        ap length (b-above t) ∙ length-map (of_key (λ (m : Renamed BBeat). m.beat.tag.txn) t keeps.responses) response_as
        ∙ sym (ap length (b-below t) ∙ length-map (of_key (λ (m : Renamed BBeat). m.beat.tag.txn) t keeps.responses) old_beat) in
        answers.done_when_answered t (omega (arith, parts, some)) (omega (arith, parts, many, all));
    lanes_are_whole = subst (λ (rs : List RBeat). All (λ (r : RBeat). length r.lanes ≡ 128) rs) (sym keeps.r.to_is)
        (lanes-same keeps.read_data (subst (λ (rs : List RBeat). All (λ (r : RBeat). length r.lanes ≡ 128) rs) keeps.r.from_is answers.lanes_are_whole));
    bytes_are_filled = λ t.
        prefix_same
        (ap (λ (rs : List RBeat). bytes_on rs ((schedules s.shape.upper).reads t).lanes) (r-above t) ∙ bytes-same _ ((schedules s.shape.upper).reads t).lanes
        ∙ sym (ap (λ (rs : List RBeat). bytes_on rs ((schedules s.shape.upper).reads t).lanes) (r-below t))
        ∙ ap (bytes_on (of_key number_of_read_data t lower.r)) (sym (keeps.suits.reads t).lanes))
        (answers.bytes_are_filled t);
  }
