-- Write data goes to the oldest write that lacks some.
use Rattle.std.proofs.Common.{◌≡◌, ◌≢◌, ℕ, ◌+◌, ◌<◌, ◌≤◌, ◌==◌, suc, true, false, cond, List, [], ◌∷◌, ◌++◌, Some, None, length, map, take, drop, refl, sym, ◌∙◌, ap, arith, inl, inr, length-append}
use Rattle.std.specs.Prelude.{All, filter}
use Rattle.std.proofs.lemmas.Bool.{cases_eq, cases_lt, cases_Bool, lt-ltb, le-ltb, ltb-true}
use Rattle.std.proofs.lemmas.List.{length-drop, length-take-le, take-append-le, drop-append-le, take_all, drop_all}
use Rattle.std.proofs.lemmas.List.Elements.{All-head, All-tail}
use Rattle.axi_beats.specs.Response.{worst_of}
use Rattle.axi_beats.specs.declared.beat.Addr.{Addr}
use Rattle.axi_beats.specs.declared.beat.WBeat.{WBeat}
use Rattle.axi_beats.specs.declared.response.Resp.{Resp}
use Rattle.axi_trail.specs.Waiting.{advanced, beats_by}
use Rattle.axi_trail.proofs.WaitingFacts.{advanced-last, advanced-more}
use Rattle.burst_address.proofs.Statuses.{worst-assoc, worst-okay}
use Rattle.plain_lists.proofs.KeyLemmas.{filter_cons, filter_skip, of_key-cons, of_key-skip}
use Rattle.plain_lists.specs.Keys.{of_key}
use Rattle.subordinate.specs.Service.{Service, worst_of_beats}
use Rattle.subordinate.specs.SubordinateTable.{lacks_data, oldest_lacking, with_beat, with_data}
use Rattle.subordinate.specs.Tracks.{data_waiting, len_of_address, number_of_write, tracked, with_data_so_far}
use Rattle.subordinate.specs.declared.entry.WriteEntry.{WriteEntry}

abbrev pub IsWhole : WriteEntry → Type 0
IsWhole entry = lacks_data entry ≡ false

find-whole : (e : WriteEntry) (es : List WriteEntry) → lacks_data e ≡ false → oldest_lacking (e ∷ es) ≡ oldest_lacking es
find-whole e es whole = ap (λ b. cond b (Some e) (oldest_lacking es)) whole

find-lacks : (e : WriteEntry) (es : List WriteEntry) → lacks_data e ≡ true → oldest_lacking (e ∷ es) ≡ Some e
find-lacks e es lacks = ap (λ b. cond b (Some e) (oldest_lacking es)) lacks

-- the write that lacks data is the first of those that do
pub lacking-first : (es : List WriteEntry) (e : WriteEntry) → oldest_lacking es ≡ Some e → (others : List WriteEntry) × (filter lacks_data es ≡ e ∷ others)
lacking-first [] e found = absurd (cc)
lacking-first (y ∷ es) e found = elim (cases_Bool (lacks_data y)) [
  | inl lacks ↦
      let both : Some y ≡ Some e = sym (find-lacks y es lacks) ∙ found in
      let same : y ≡ e = cc in
      (filter lacks_data es, filter_cons lacks_data y es lacks ∙ ap (λ x. x ∷ filter lacks_data es) same)
  | inr whole ↦
      let rest = lacking-first es e (sym (find-whole y es whole) ∙ found) in
      (rest.0, filter_skip lacks_data y es whole ∙ rest.1)
]

pub lacking-none : (es : List WriteEntry) → oldest_lacking es ≡ None → filter lacks_data es ≡ []
lacking-none [] found = refl
lacking-none (y ∷ es) found = elim (cases_Bool (lacks_data y)) [
  | inl lacks ↦ absurd (let both : Some y ≡ None = sym (find-lacks y es lacks) ∙ found in cc)
  | inr whole ↦ filter_skip lacks_data y es whole ∙ lacking-none es (sym (find-whole y es whole) ∙ found)
]

pub found-lacks : (es : List WriteEntry) (e : WriteEntry) → oldest_lacking es ≡ Some e → lacks_data e ≡ true
found-lacks [] e found = absurd (cc)
found-lacks (y ∷ es) e found = elim (cases_Bool (lacks_data y)) [
  | inl lacks ↦
      let both : Some y ≡ Some e = sym (find-lacks y es lacks) ∙ found in
      let same : y ≡ e = cc in
      ap lacks_data (sym same) ∙ lacks
  | inr whole ↦ found-lacks es e (sym (find-whole y es whole) ∙ found)
]

-- writes that have their data stand apart
pub oldest-behind : (whole es : List WriteEntry) → All IsWhole whole → oldest_lacking (whole ++ es) ≡ oldest_lacking es
oldest-behind [] es all = refl
oldest-behind (y ∷ whole) es all = find-whole y (whole ++ es) (All-head IsWhole y whole all) ∙ oldest-behind whole es (All-tail IsWhole y whole all)

module _ {D : Type 0} (service : Service D) (x : WBeat) where
  abbrev with_x : WriteEntry → WriteEntry
  with_x e = with_beat (service.data_status e.request e.taken x) e

  with_data-whole : (e : WriteEntry) (es : List WriteEntry) → lacks_data e ≡ false → with_data service x (e ∷ es) ≡ e ∷ with_data service x es
  with_data-whole e es whole = ap (λ b. cond b (with_x e ∷ es) (e ∷ with_data service x es)) whole

  with_data-lacks : (e : WriteEntry) (es : List WriteEntry) → lacks_data e ≡ true → with_data service x (e ∷ es) ≡ with_x e ∷ es
  with_data-lacks e es lacks = ap (λ b. cond b (with_x e ∷ es) (e ∷ with_data service x es)) lacks

  pub data-behind : (whole es : List WriteEntry) → All IsWhole whole → with_data service x (whole ++ es) ≡ whole ++ with_data service x es
  data-behind [] es all = refl
  data-behind (y ∷ whole) es all = with_data-whole y (whole ++ es) (All-head IsWhole y whole all) ∙ ap (λ t. y ∷ t) (data-behind whole es (All-tail IsWhole y whole all))

  pub requests-stay : (es : List WriteEntry) → map (λ (e : WriteEntry). e.request) (with_data service x es) ≡ map (λ (e : WriteEntry). e.request) es
  requests-stay [] = refl
  requests-stay (y ∷ es) = elim (cases_Bool (lacks_data y)) [
    | inl lacks ↦ ap (map (λ (e : WriteEntry). e.request)) (with_data-lacks y es lacks)
    | inr whole ↦ ap (map (λ (e : WriteEntry). e.request)) (with_data-whole y es whole) ∙ ap (λ t. y.request ∷ t) (requests-stay es)
  ]

  -- the beat goes to a write of its transaction, and to no other one
  pub own-data : (t : ℕ) (es : List WriteEntry) (e : WriteEntry) → oldest_lacking es ≡ Some e → number_of_write e ≡ t →
      of_key number_of_write t (with_data service x es) ≡ with_data service x (of_key number_of_write t es)
  own-data t [] e found own = refl
  own-data t (y ∷ es) e found own = elim (cases_Bool (lacks_data y)) [
    | inl lacks ↦
        let both : Some y ≡ Some e = sym (find-lacks y es lacks) ∙ found in
        let same : y ≡ e = cc in
        let mine : number_of_write y ≡ t = ap number_of_write same ∙ own in
        ap (of_key number_of_write t) (with_data-lacks y es lacks)
        ∙ of_key-cons number_of_write t (with_x y) es mine
        ∙ sym (ap (with_data service x) (of_key-cons number_of_write t y es mine) ∙ with_data-lacks y (of_key number_of_write t es) lacks)
    | inr whole ↦
        let rest = own-data t es e (sym (find-whole y es whole) ∙ found) own in
        ap (of_key number_of_write t) (with_data-whole y es whole)
        ∙ elim (cases_eq (number_of_write y) t) [
          | inl mine ↦
              of_key-cons number_of_write t y (with_data service x es) mine
              ∙ ap (λ ys. y ∷ ys) rest
              ∙ sym (ap (with_data service x) (of_key-cons number_of_write t y es mine) ∙ with_data-whole y (of_key number_of_write t es) whole)
          | inr other ↦
              of_key-skip number_of_write t y (with_data service x es) other
              ∙ rest
              ∙ sym (ap (with_data service x) (of_key-skip number_of_write t y es other))
        ]
  ]

  pub others-data : (t : ℕ) (es : List WriteEntry) (e : WriteEntry) → oldest_lacking es ≡ Some e → number_of_write e ≢ t →
      of_key number_of_write t (with_data service x es) ≡ of_key number_of_write t es
  others-data t [] e found other = refl
  others-data t (y ∷ es) e found other = elim (cases_Bool (lacks_data y)) [
    | inl lacks ↦
        let both : Some y ≡ Some e = sym (find-lacks y es lacks) ∙ found in
        let same : y ≡ e = cc in
        let apart : number_of_write y ≢ t = λ is. other (ap number_of_write (sym same) ∙ is) in
        ap (of_key number_of_write t) (with_data-lacks y es lacks)
        ∙ of_key-skip number_of_write t (with_x y) es apart
        ∙ sym (of_key-skip number_of_write t y es apart)
    | inr whole ↦
        ap (of_key number_of_write t) (with_data-whole y es whole)
        ∙ ap (λ ys. cond (number_of_write y == t) (y ∷ ys) ys) (others-data t es e (sym (find-whole y es whole) ∙ found) other)
  ]

  -- the write is one beat further, or lacks no more
  pub lacking-data : (es : List WriteEntry) (e : WriteEntry) → oldest_lacking es ≡ Some e →
      map data_waiting (filter lacks_data (with_data service x es)) ≡ advanced len_of_address (map data_waiting (filter lacks_data es))
  lacking-data [] e found = refl
  lacking-data (y ∷ es) e found = elim (cases_Bool (lacks_data y)) [
    | inl lacks ↦
        let more : y.taken < y.request.len + 1 = ltb-true y.taken (y.request.len + 1) lacks in
        ap (λ t. map data_waiting (filter lacks_data t)) (with_data-lacks y es lacks)
        ∙ elim (cases_eq y.taken y.request.len) [
          | inl last ↦
              ap (map data_waiting) (filter_skip lacks_data (with_x y) es (le-ltb (y.taken + 1) (y.request.len + 1) (omega arith)))
              ∙ sym (advanced-last len_of_address (data_waiting y) (map data_waiting (filter lacks_data es)) last)
          | inr before ↦
              let less : y.taken + 1 < y.request.len + 1 = elim (cases_lt y.taken y.request.len) [ inl lt ↦ omega arith | inr ge ↦ absurd (before (omega arith)) ] in
              let one : y.taken + 1 ≡ suc y.taken = omega arith in
              ap (map data_waiting) (filter_cons lacks_data (with_x y) es (lt-ltb (y.taken + 1) (y.request.len + 1) less))
              ∙ ap (λ n. record { request = y.request; done = n } ∷ map data_waiting (filter lacks_data es)) one
              ∙ sym (advanced-more len_of_address (data_waiting y) (map data_waiting (filter lacks_data es)) before)
        ]
        ∙ sym (ap (λ t. advanced len_of_address (map data_waiting t)) (filter_cons lacks_data y es lacks))
    | inr whole ↦
        ap (λ t. map data_waiting (filter lacks_data t)) (with_data-whole y es whole)
        ∙ ap (map data_waiting) (filter_skip lacks_data y (with_data service x es) whole)
        ∙ lacking-data es e (sym (find-whole y es whole) ∙ found)
        ∙ sym (ap (λ t. advanced len_of_address (map data_waiting t)) (filter_skip lacks_data y es whole))
  ]

-- Writes with their data so far.
module _ {D : Type 0} (service : Service D) where
  status-more : (a : Addr) (n : ℕ) (beats : List WBeat) (x : WBeat) →
      worst_of_beats service a n (beats ++ x ∷ []) ≡ worst_of (worst_of_beats service a n beats) (service.data_status a (n + length beats) x)
  status-more a n [] x =
      let none : n ≡ n + 0 = omega arith in
      worst-okay (service.data_status a n x) ∙ ap (λ k. service.data_status a k x) none
  status-more a n (b ∷ beats) x =
      let more : suc n + length beats ≡ n + suc (length beats) = omega arith in
      ap (worst_of (service.data_status a n b)) (status-more a (suc n) beats x)
      ∙ sym (worst-assoc (service.data_status a n b) (worst_of_beats service a (suc n) beats) (service.data_status a (suc n + length beats) x))
      ∙ ap (λ k. worst_of (worst_of (service.data_status a n b) (worst_of_beats service a (suc n) beats)) (service.data_status a k x)) more

  lacks-short : (a : Addr) (beats : List WBeat) → length beats ≤ a.len → lacks_data (with_data_so_far service a beats) ≡ true
  lacks-short a beats le = lt-ltb (length beats) (a.len + 1) (omega arith)

  lacks-whole : (a : Addr) (beats : List WBeat) → a.len < length beats → lacks_data (with_data_so_far service a (take (suc a.len) beats)) ≡ false
  lacks-whole a beats lt = le-ltb (length (take (suc a.len) beats)) (a.len + 1) (omega (arith, length-take-le (suc a.len) beats lt))

  short : (a : Addr) (addresses : List Addr) (beats : List WBeat) → length beats ≤ a.len →
      tracked service (a ∷ addresses) beats ≡ with_data_so_far service a beats ∷ tracked service addresses []
  short a addresses beats le =
      ap (λ t. with_data_so_far service a t ∷ tracked service addresses (drop (suc a.len) beats)) (take_all (suc a.len) beats (omega arith))
      ∙ ap (λ t. with_data_so_far service a beats ∷ tracked service addresses t) (drop_all (suc a.len) beats (omega arith))

  abbrev entry_of : Addr → ℕ → Resp → WriteEntry
  entry_of a n r = record { request = a; taken = n; worst = r }

  one-more : (a : Addr) (beats : List WBeat) (x : WBeat) → with_data_so_far service a (beats ++ x ∷ []) ≡ with_x service x (with_data_so_far service a beats)
  one-more a beats x =
      let none : 0 + length beats ≡ length beats = omega arith in
      ap (λ k. entry_of a k (worst_of_beats service a 0 (beats ++ x ∷ []))) (length-append beats (x ∷ []))
      ∙ ap (entry_of a (length beats + 1)) (status-more a 0 beats x ∙ ap (λ k. worst_of (worst_of_beats service a 0 beats) (service.data_status a k x)) none)

  -- one more beat is the next one of the oldest write that lacks data
  pub beat-tracked : (addresses : List Addr) (beats : List WBeat) (x : WBeat) → length beats < beats_by len_of_address addresses →
      tracked service addresses (beats ++ x ∷ []) ≡ with_data service x (tracked service addresses beats)
  beat-tracked [] beats x lt = absurd (omega arith)
  beat-tracked (a ∷ addresses) beats x lt = elim (cases_lt a.len (length beats)) [
    | inl whole ↦
        ap (λ t. with_data_so_far service a t ∷ tracked service addresses (drop (suc a.len) (beats ++ x ∷ []))) (take-append-le (suc a.len) beats (x ∷ []) (omega arith))
        ∙ ap (λ t. with_data_so_far service a (take (suc a.len) beats) ∷ tracked service addresses t) (drop-append-le (suc a.len) beats (x ∷ []) (omega arith))
        ∙ ap (λ t. with_data_so_far service a (take (suc a.len) beats) ∷ t) (beat-tracked addresses (drop (suc a.len) beats) x (omega (arith, length-drop (suc a.len) beats)))
        ∙ sym (with_data-whole service x (with_data_so_far service a (take (suc a.len) beats)) (tracked service addresses (drop (suc a.len) beats)) (lacks-whole a beats whole))
    | inr lacks ↦
        ap (λ t. with_data_so_far service a t ∷ tracked service addresses (drop (suc a.len) (beats ++ x ∷ []))) (take_all (suc a.len) (beats ++ x ∷ []) (omega (arith, length-append beats (x ∷ []))))
        ∙ ap (λ t. with_data_so_far service a (beats ++ x ∷ []) ∷ tracked service addresses t) (drop_all (suc a.len) (beats ++ x ∷ []) (omega (arith, length-append beats (x ∷ []))))
        ∙ ap (λ t. t ∷ tracked service addresses []) (one-more a beats x)
        ∙ sym (ap (with_data service x) (short a addresses beats lacks) ∙ with_data-lacks service x (with_data_so_far service a beats) (tracked service addresses []) (lacks-short a beats lacks))
  ]

  -- where a write lacks data, not all data has come
  pub lacking-short : (addresses : List Addr) (beats : List WBeat) (e : WriteEntry) → oldest_lacking (tracked service addresses beats) ≡ Some e → length beats < beats_by len_of_address addresses
  lacking-short [] beats e found = absurd (cc)
  lacking-short (a ∷ addresses) beats e found = elim (cases_lt a.len (length beats)) [
    | inl whole ↦
        omega (
          arith,
          length-drop (suc a.len) beats,
          lacking-short addresses (drop (suc a.len) beats) e
              (sym (find-whole (with_data_so_far service a (take (suc a.len) beats)) (tracked service addresses (drop (suc a.len) beats)) (lacks-whole a beats whole)) ∙ found),
        )
    | inr lacks ↦ omega arith
  ]

  -- one more write has no data yet
  pub address-tracked : (addresses : List Addr) (beats : List WBeat) (a : Addr) → length beats ≤ beats_by len_of_address addresses →
      tracked service (addresses ++ a ∷ []) beats ≡ tracked service addresses beats ++ with_data_so_far service a [] ∷ []
  address-tracked [] [] a le = refl
  address-tracked [] (x ∷ beats) a le = absurd (omega arith)
  address-tracked (b ∷ addresses) beats a le =
      ap (λ t. with_data_so_far service b (take (suc b.len) beats) ∷ t) (address-tracked addresses (drop (suc b.len) beats) a (omega (arith, length-drop (suc b.len) beats)))
