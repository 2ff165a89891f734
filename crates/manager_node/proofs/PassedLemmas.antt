-- What a round adds to a manager's trail, and what waits after it.
use Rattle.std.proofs.Common.{◌≡◌, ℕ, ◌+◌, ◌≤◌, ◌==◌, Bool, true, false, cond, List, [], ◌∷◌, ◌++◌, Option, Some, None, map, take, refl, sym, ◌∙◌, ap, subst, add-zero, add-one, append-nil, eq-eqb}
use Rattle.std.specs.Option.{option_map, option_to_list}
use Rattle.std.specs.Prelude.{find, is_some, slice_get}
use Rattle.std.proofs.lemmas.List.{map-append}
use Rattle.std.proofs.lemmas.Simd.{map-map}
use Rattle.axi_beats.specs.declared.beat.Addr.{Addr}
use Rattle.axi_link.specs.LinkView.{LinkView}
use Rattle.axi_link.specs.Moves.{appended, takes_from}
use Rattle.axi_trail.specs.Trail.{moved_above, beat_taken}
use Rattle.axi_trail.specs.Waiting.{Waiting, beats_by}
use Rattle.axi_trail.specs.Words.{Reply, InOrderOfId, id_of_reply}
use Rattle.manager_node.specs.Beats.{data_beat, item_request}
use Rattle.manager_node.specs.ManagerState.{ManagerState, entry_of}
use Rattle.manager_node.specs.ManagerTable.{answering, below, left_waiting, manager_aw, manager_w, manager_ar, manager_b, manager_r, manager_rows, manager_out, more, with_issued}
use Rattle.manager_node.specs.Script.{ScriptItem}
use Rattle.manager_node.specs.declared.entry.Entry.{Entry}
use Rattle.manager_node.proofs.HeldLemmas.{answers-few, asked_by, entries_held, find-held, held-entries, held-more, holding, id_held, id_of_item, single_len, taken-next}
use Rattle.manager_node.proofs.WaitingLemmas.{oldest-id}
use Rattle.plain_lists.specs.Keys.{of_key, count_of, without_oldest}
use Rattle.plain_lists.proofs.PlaceLemmas.{take-one}
use Rattle.axi_link.specs.LinkWords.{head_of}
use Rattle.node_core.specs.Rows.{beat_where, put_of, take_of}

module _ {X : Type 0} where
  -- a put on the link is one beat more
  put-moved : (number : ℕ) (o : Option X) → appended number (put_of number o) ≡ option_to_list o
  put-moved number None = refl
  put-moved number (Some x) = ap (λ (b : Bool). cond b (x ∷ []) []) (eq-eqb number number refl)

  -- and so is a take from it
  take-moved : (number : ℕ) (b : Bool) (queue : List X) → beat_taken (takes_from number (take_of number b)) queue ≡ beat_taken b queue
  take-moved number true queue = ap (λ (b : Bool). beat_taken b queue) (eq-eqb number number refl)
  take-moved number false queue = refl

  answer-moved : (done : Bool) (id_of : X → ℕ) (entries : List Entry) (queue : List X) →
      beat_taken (is_some (beat_where done (answering id_of entries (head_of queue)))) queue ≡ option_to_list (option_map (λ answer. answer.1) (beat_where done (answering id_of entries (head_of queue))))
  answer-moved false id_of entries queue = refl
  answer-moved true id_of entries [] = refl
  answer-moved true id_of entries (x ∷ xs) =
      let paired : Entry → Entry × X = λ entry. (entry, x)
      in let go : (o : Option Entry) → beat_taken (is_some (option_map paired o)) (x ∷ xs) ≡ option_to_list (option_map (λ (answer : Entry × X). answer.1) (option_map paired o)) =
      elim [ None ↦ refl | Some e ↦ refl ]
      in go (find (λ entry. entry.id == id_of x) entries)

module _ (links : List LinkView) (s : ManagerState) where
  pub aw-moved : (moved_above (manager_out links s) links s.lower).aw ≡ option_to_list (option_map (λ next. item_request next.1) (manager_aw links s))
  aw-moved = put-moved s.lower (option_map (λ next. item_request next.1) (manager_aw links s))

  pub w-moved : (moved_above (manager_out links s) links s.lower).w ≡ option_to_list (option_map (λ next. data_beat next.1 s.bus s.sent_beats) (manager_w links s))
  w-moved = put-moved s.lower (option_map (λ next. data_beat next.1 s.bus s.sent_beats) (manager_w links s))

  pub ar-moved : (moved_above (manager_out links s) links s.lower).ar ≡ option_to_list (option_map (λ next. item_request next.1) (manager_ar links s))
  ar-moved = put-moved s.lower (option_map (λ next. item_request next.1) (manager_ar links s))

  pub b-moved : (moved_above (manager_out links s) links s.lower).b ≡ option_to_list (option_map (λ answer. answer.1) (manager_b links s))
  b-moved = take-moved s.lower (is_some (manager_b links s)) (below links s).b ∙ answer-moved (manager_rows links s).b (λ beat. beat.id) s.write_entries (below links s).b

  pub r-moved : (moved_above (manager_out links s) links s.lower).r ≡ option_to_list (option_map (λ answer. answer.1) (manager_r links s))
  r-moved = take-moved s.lower (is_some (manager_r links s)) (below links s).r ∙ answer-moved (manager_rows links s).r (λ beat. beat.id) s.read_entries (below links s).r

-- the first ones, and the next
pub take-next : {X : Type 0} (xs : List X) (n : ℕ) (o : Option X) → ((x : X) → o ≡ Some x → slice_get xs n ≡ Some x) → take (n + more (is_some o)) xs ≡ take n xs ++ option_to_list o
take-next xs n None next = ap (λ (k : ℕ). take k xs) (add-zero n) ∙ sym (append-nil (take n xs))
take-next xs n (Some x) next = ap (λ (k : ℕ). take k xs) (add-one n) ∙ take-one n xs x (next x refl)

map-option : {X Y : Type 0} (g : X → Y) (o : Option X) → map g (option_to_list o) ≡ option_to_list (option_map g o)
map-option g None = refl
map-option g (Some x) = refl

-- beats that were put, with the next one
pub put-grows : {X Y : Type 0} (g : X → Y) (xs : List X) (n : ℕ) (o : Option X) (before moved : List Y) → ((x : X) → o ≡ Some x → slice_get xs n ≡ Some x) → moved ≡ option_to_list (option_map g o) →
    before ≡ map g (take n xs) → before ++ moved ≡ map g (take (n + more (is_some o)) xs)
put-grows {X} {Y} g xs n o before moved next is was =
    ap (λ (ys : List Y). ys ++ moved) was
    ∙ ap (λ (ys : List Y). map g (take n xs) ++ ys) (is ∙ sym (map-option g o))
    ∙ sym (map-append g (take n xs) (option_to_list o))
    ∙ ap (map g) (sym (take-next xs n o next))

-- an answer that is found is one of the oldest entry of its ID
pub answering-own : {X : Type 0} (id_of : X → ℕ) (entries : List Entry) (head : Option X) (x : Entry × X) → answering id_of entries head ≡ Some x → find (λ (entry : Entry). entry.id == id_of x.1) entries ≡ Some x.0
answering-own id_of entries None x is = absurd (cc)
answering-own {X} id_of entries (Some head) x is =
    let go : (o : Option Entry) → find (λ (entry : Entry). entry.id == id_of head) entries ≡ o → option_map (λ (entry : Entry). (entry, head)) o ≡ Some x → find (λ (entry : Entry). entry.id == id_of x.1) entries ≡ Some x.0 =
    elim [
      | None ↦ λ found none. absurd (cc)
      | Some entry ↦ λ found some. let same : (entry, head) ≡ x = cc in subst (λ (a : Entry × X). find (λ (e : Entry). e.id == id_of a.1) entries ≡ Some a.0) same found
    ]
    in go (find (λ (entry : Entry). entry.id == id_of head) entries) refl is

-- the answers of one direction
module _ {X : Type 0} (number_of id_of : X → ℕ) (last_of : X → Bool) (len_of : Addr → ℕ) where
  abbrev pub reply_by : X → Reply
  reply_by x = record { number = number_of x; id = id_of x; last = last_of x }

  abbrev pub beat_of : Option (Entry × X) → List X
  beat_of o = option_to_list (option_map (λ answer. answer.1) o)

  module _ (items : List (ℕ × ScriptItem)) (next : Option (ℕ × ScriptItem)) (entries : List Entry) (beats : List X)
      (same : entries ≡ entries_held (holding len_of items (map id_of beats))) (order : InOrderOfId (map (asked_by len_of) items) (map reply_by beats)) where
    ids-same : map id_of_reply (map reply_by beats) ≡ map id_of beats
    ids-same = map-map id_of_reply reply_by beats

    -- the first held one of an answer's ID
    pub first-held : (x : Entry × X) → find (λ (entry : Entry). entry.id == id_of x.1) entries ≡ Some x.0 → (w : Waiting (ℕ × ScriptItem)) × (others : List (Waiting (ℕ × ScriptItem))) × (of_key id_held (id_of x.1) (holding len_of items (map id_of beats)) ≡ w ∷ others) × (entry_of w.request ≡ x.0)
    first-held x found = find-held (id_of x.1) (holding len_of items (map id_of beats)) x.0 (ap (find (λ (entry : Entry). entry.id == id_of x.1)) (sym same) ∙ found)

    -- an answer that is taken is that of its entry's transaction
    pub taken-own : (x : Entry × X) (w : Waiting (ℕ × ScriptItem)) (others : List (Waiting (ℕ × ScriptItem))) → of_key id_held (id_of x.1) (holding len_of items (map id_of beats)) ≡ w ∷ others → InOrderOfId (map (asked_by len_of) (items ++ option_to_list next)) (map reply_by (beats ++ x.1 ∷ [])) →
        (number_of x.1 ≡ w.request.1.txn.number) × InOrderOfId (map (asked_by len_of) items) (map reply_by (beats ++ x.1 ∷ []))
    taken-own x w others first after =
        let pushed : map reply_by (beats ++ x.1 ∷ []) ≡ map reply_by beats ++ reply_by x.1 ∷ [] = map-append reply_by beats (x.1 ∷ [])
        in let taken = taken-next len_of items (map reply_by beats) (option_to_list next) (reply_by x.1) w others order (subst (InOrderOfId (map (asked_by len_of) (items ++ option_to_list next))) pushed after) (ap (λ (ids : List ℕ). of_key id_held (id_of x.1) (holding len_of items ids)) ids-same ∙ first)
        in (taken.0, subst (InOrderOfId (map (asked_by len_of) items)) (sym pushed) taken.1)

    few-of : (later : List X) → InOrderOfId (map (asked_by len_of) items) (map reply_by later) → (id : ℕ) → count_of id (map id_of later) ≤ beats_by (single_len len_of) (of_key id_of_item id items)
    few-of later in_order id = subst (λ (ids : List ℕ). count_of id ids ≤ beats_by (single_len len_of) (of_key id_of_item id items)) (map-map id_of_reply reply_by later) (answers-few len_of items (map reply_by later) in_order id)

    -- what waits after the answer of a round
    answered-waits : (o leaves : Option (Entry × X)) → ((x : Entry × X) → o ≡ Some x → find (λ (entry : Entry). entry.id == id_of x.1) entries ≡ Some x.0) → (o ≡ None → leaves ≡ None) →
        ((x : Entry × X) (w : Waiting (ℕ × ScriptItem)) (others : List (Waiting (ℕ × ScriptItem))) → o ≡ Some x → of_key id_held (id_of x.1) (holding len_of items (map id_of beats)) ≡ w ∷ others → entry_of w.request ≡ x.0 → leaves ≡ beat_where (w.done == single_len len_of w.request) (Some x)) →
        InOrderOfId (map (asked_by len_of) (items ++ option_to_list next)) (map reply_by (beats ++ beat_of o)) →
        (left_waiting leaves entries ≡ entries_held (holding len_of items (map id_of (beats ++ beat_of o)))) × ((id : ℕ) → count_of id (map id_of (beats ++ beat_of o)) ≤ beats_by (single_len len_of) (of_key id_of_item id items))
    answered-waits None leaves found none_leaves leaving after =
        let none : beats ++ [] ≡ beats = append-nil beats
        in (ap (λ (l : Option (Entry × X)). left_waiting l entries) (none_leaves refl) ∙ same ∙ ap (λ (bs : List X). entries_held (holding len_of items (map id_of bs))) (sym none), few-of (beats ++ []) (subst (λ (bs : List X). InOrderOfId (map (asked_by len_of) items) (map reply_by bs)) (sym none) order))
    answered-waits (Some x) leaves found none_leaves leaving after =
        let here = found x refl
        in let first : (w : Waiting (ℕ × ScriptItem)) × (others : List (Waiting (ℕ × ScriptItem))) × (of_key id_held (id_of x.1) (holding len_of items (map id_of beats)) ≡ w ∷ others) × (entry_of w.request ≡ x.0) = first-held x here
        in let taken = taken-own x first.0 first.1 first.2 after
        in let go : (b : Bool) → left_waiting (beat_where b (Some x)) entries ≡ cond b (without_oldest (λ (entry : Entry). entry.id) (id_of x.1) entries) entries =
        elim [ true ↦ ap (λ (id : ℕ). without_oldest (λ (entry : Entry). entry.id) id entries) (oldest-id (id_of x.1) entries x.0 here) | false ↦ refl ]
        in (
          ap (λ (l : Option (Entry × X)). left_waiting l entries) (leaving x first.0 first.1 refl first.2 first.3)
              ∙ go (first.0.done == single_len len_of first.0.request)
              ∙ ap (λ (es : List Entry). cond (first.0.done == single_len len_of first.0.request) (without_oldest (λ (entry : Entry). entry.id) (id_of x.1) es) es) same
              ∙ sym (held-entries len_of items (map id_of beats) (id_of x.1) first.0 first.1 first.2)
              ∙ ap (λ (ids : List ℕ). entries_held (holding len_of items ids)) (sym (map-append id_of beats (x.1 ∷ []))),
          few-of (beats ++ x.1 ∷ []) taken.1,
        )

    -- what waits after a round
    pub waits-next : (o leaves : Option (Entry × X)) → ((x : Entry × X) → o ≡ Some x → find (λ (entry : Entry). entry.id == id_of x.1) entries ≡ Some x.0) → (o ≡ None → leaves ≡ None) →
        ((x : Entry × X) (w : Waiting (ℕ × ScriptItem)) (others : List (Waiting (ℕ × ScriptItem))) → o ≡ Some x → of_key id_held (id_of x.1) (holding len_of items (map id_of beats)) ≡ w ∷ others → entry_of w.request ≡ x.0 → leaves ≡ beat_where (w.done == single_len len_of w.request) (Some x)) →
        InOrderOfId (map (asked_by len_of) (items ++ option_to_list next)) (map reply_by (beats ++ beat_of o)) →
        with_issued next (left_waiting leaves entries) ≡ entries_held (holding len_of (items ++ option_to_list next) (map id_of (beats ++ beat_of o)))
    waits-next o leaves found none_leaves leaving after =
        let answered = answered-waits o leaves found none_leaves leaving after
        in let go : (n : Option (ℕ × ScriptItem)) → with_issued n (left_waiting leaves entries) ≡ entries_held (holding len_of (items ++ option_to_list n) (map id_of (beats ++ beat_of o))) =
        elim [
          | None ↦ answered.0 ∙ ap (λ (ps : List (ℕ × ScriptItem)). entries_held (holding len_of ps (map id_of (beats ++ beat_of o)))) (sym (append-nil items))
          | Some p ↦
              ap (λ (es : List Entry). es ++ entry_of p ∷ []) answered.0
              ∙ sym (held-more len_of items (map id_of (beats ++ beat_of o)) p (answered.1 (id_of_item p)))
        ]
        in go next
