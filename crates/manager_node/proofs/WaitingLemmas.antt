-- Facts on the transactions that wait, and on the answers that are noted.
use Rattle.std.proofs.Common.{◌≡◌, ◌≢◌, ℕ, ◌+◌, ◌<◌, ◌==◌, suc, Bool, true, false, cond, List, [], ◌∷◌, ◌++◌, Option, Some, None, length, map, drop, get_or, refl, sym, ◌∙◌, ap, subst, inl, inr, arith, add-one, append_assoc, drop-cons}
use Rattle.std.specs.Option.{option_map}
use Rattle.std.specs.Prelude.{All, find, count_by, nat_lt, slice_get}
use Rattle.std.proofs.lemmas.Bool.{cases_eq, eqb-true, eqb-false}
use Rattle.std.proofs.lemmas.List.{get_or-set_same, get_or-set_other, map-append, length-set}
use Rattle.std.proofs.lemmas.List.Elements.{All-cons, All-head, All-tail}
use Rattle.std.proofs.lemmas.List.Sums.{sum_by-set}
use Rattle.std.proofs.lemmas.Option.{slice_get_within, get_or_from_slice_get}
use Rattle.axi_beats.specs.declared.beat.RBeat.{RBeat}
use Rattle.flight.specs.Entries.{place_of}
use Rattle.flight.proofs.EntryFacts.{some-inner}
use Rattle.manager_node.specs.Answer.{AnswerView, is_last, unanswered, issued_in, noted}
use Rattle.manager_node.specs.ManagerState.{IsDue, AreWaiting, AreDistinct, waiting_places, is_answered}
use Rattle.manager_node.specs.ManagerTable.{answering, ending, left_waiting, with_issued}
use Rattle.manager_node.specs.Script.{ScriptItem}
use Rattle.manager_node.specs.declared.direction.Direction.{Direction}
use Rattle.manager_node.specs.declared.entry.Entry.{Entry}
use Rattle.manager_node.proofs.DueLemmas.{due-apart}
use Rattle.plain_lists.specs.Keys.{without_oldest}
use Rattle.node_core.specs.Rows.{beat_where}

-- what holds of all places holds of those that are left
pub All-left : (P : ℕ → Type 0) (id : ℕ) (entries : List Entry) (more : List ℕ) → All P (map (λ (entry : Entry). entry.place) entries ++ more) → All P (map (λ (entry : Entry). entry.place) (without_oldest (λ (entry : Entry). entry.id) id entries) ++ more)
All-left P id [] more all = all
All-left P id (x ∷ xs) more all =
    let go : (same : Bool) → All P (map (λ (entry : Entry). entry.place) (cond same xs (x ∷ without_oldest (λ (entry : Entry). entry.id) id xs)) ++ more) =
    elim [
      | true ↦ All-tail P x.place (map (λ (entry : Entry). entry.place) xs ++ more) all
      | false ↦ All-cons P x.place _ (All-head P x.place (map (λ (entry : Entry). entry.place) xs ++ more) all) (All-left P id xs more (All-tail P x.place (map (λ (entry : Entry). entry.place) xs ++ more) all))
    ]
    in go (x.id == id)

-- those that are left have other places than one another
pub AreDistinct-left : (id : ℕ) (entries : List Entry) (more : List ℕ) → AreDistinct (map (λ (entry : Entry). entry.place) entries ++ more) → AreDistinct (map (λ (entry : Entry). entry.place) (without_oldest (λ (entry : Entry). entry.id) id entries) ++ more)
AreDistinct-left id [] more all = all
AreDistinct-left id (x ∷ xs) more all =
    let go : (same : Bool) → AreDistinct (map (λ (entry : Entry). entry.place) (cond same xs (x ∷ without_oldest (λ (entry : Entry). entry.id) id xs)) ++ more) =
    elim [
      | true ↦ all.1
      | false ↦ (All-left (λ other. other ≢ x.place) id xs more all.0, AreDistinct-left id xs more all.1)
    ]
    in go (x.id == id)

-- what holds of all places holds of the oldest one of an ID
pub All-oldest : (P : ℕ → Type 0) (id : ℕ) (entries : List Entry) (more : List ℕ) (e : Entry) → find (λ (entry : Entry). entry.id == id) entries ≡ Some e → All P (map (λ (entry : Entry). entry.place) entries ++ more) → P e.place
All-oldest P id [] more e found all = absurd (cc)
All-oldest P id (x ∷ xs) more e found all =
    let go : (same : Bool) → cond same (Some x) (find (λ (entry : Entry). entry.id == id) xs) ≡ Some e → P e.place =
    elim [
      | true ↦ λ here. subst (λ (entry : Entry). P entry.place) (some-inner x e here) (All-head P x.place (map (λ (entry : Entry). entry.place) xs ++ more) all)
      | false ↦ λ there. All-oldest P id xs more e there (All-tail P x.place (map (λ (entry : Entry). entry.place) xs ++ more) all)
    ]
    in go (x.id == id) found

-- those that are left have other places than the one that left
pub others-left : (id : ℕ) (entries : List Entry) (more : List ℕ) (e : Entry) → find (λ (entry : Entry). entry.id == id) entries ≡ Some e → AreDistinct (map (λ (entry : Entry). entry.place) entries ++ more) → All (λ other. other ≢ e.place) (map (λ (entry : Entry). entry.place) (without_oldest (λ (entry : Entry). entry.id) id entries) ++ more)
others-left id [] more e found all = absurd (cc)
others-left id (x ∷ xs) more e found all =
    let go : (same : Bool) → cond same (Some x) (find (λ (entry : Entry). entry.id == id) xs) ≡ Some e → All (λ other. other ≢ e.place) (map (λ (entry : Entry). entry.place) (cond same xs (x ∷ without_oldest (λ (entry : Entry). entry.id) id xs)) ++ more) =
    elim [
      | true ↦ λ here. subst (λ (entry : Entry). All (λ other. other ≢ entry.place) (map (λ (entry : Entry). entry.place) xs ++ more)) (some-inner x e here) all.0
      | false ↦ λ there. All-cons (λ other. other ≢ e.place) x.place _ (λ same. All-oldest (λ other. other ≢ x.place) id xs more e there all.0 (sym same)) (others-left id xs more e there all.1)
    ]
    in go (x.id == id) found

-- the oldest of an ID has it
pub oldest-id : (id : ℕ) (entries : List Entry) (e : Entry) → find (λ (entry : Entry). entry.id == id) entries ≡ Some e → e.id ≡ id
oldest-id id [] e found = absurd (cc)
oldest-id id (x ∷ xs) e found =
    let go : (same : Bool) → (x.id == id) ≡ same → cond same (Some x) (find (λ (entry : Entry). entry.id == id) xs) ≡ Some e → e.id ≡ id =
    elim [
      | true ↦ λ is here. ap (λ (entry : Entry). entry.id) (sym (some-inner x e here)) ∙ eqb-true x.id id is
      | false ↦ λ is there. oldest-id id xs e there
    ]
    in go (x.id == id) refl found

-- the next one to be issued waits, as the first of those that wait for their issue
pub waiting-next : (entries : List Entry) (issued : ℕ) (transactions : List (ℕ × ScriptItem)) (next : ℕ × ScriptItem) → slice_get transactions issued ≡ Some next → waiting_places entries issued transactions ≡ map (λ (entry : Entry). entry.place) entries ++ next.0 ∷ map (λ (p : ℕ × ScriptItem). p.0) (drop (issued + 1) transactions)
waiting-next entries issued transactions next is =
    let within = slice_get_within transactions issued next is
    in let cut : drop issued transactions ≡ next ∷ drop (suc issued) transactions = drop-cons transactions issued next within ∙ ap (λ (x : ℕ × ScriptItem). x ∷ drop (suc issued) transactions) (get_or_from_slice_get transactions issued next next is)
    in let tail : map (λ (p : ℕ × ScriptItem). p.0) (drop issued transactions) ≡ next.0 ∷ map (λ (p : ℕ × ScriptItem). p.0) (drop (issued + 1) transactions) =
    rw add-one (ap (map (λ (p : ℕ × ScriptItem). p.0)) cut)
    in ap (λ (back : List ℕ). map (λ (entry : Entry). entry.place) entries ++ back) tail

-- one that is issued waits from then on for its answer
pub waiting-issued : (entries : List Entry) (issued : ℕ) (transactions : List (ℕ × ScriptItem)) (next : ℕ × ScriptItem) → slice_get transactions issued ≡ Some next → waiting_places (with_issued (Some next) entries) (issued + 1) transactions ≡ waiting_places entries issued transactions
waiting-issued entries issued transactions next is =
    ap (λ (front : List ℕ). front ++ map (λ (p : ℕ × ScriptItem). p.0) (drop (issued + 1) transactions)) (map-append (λ (entry : Entry). entry.place) entries (record { place = next.0; id = next.1.txn.request.id } ∷ []))
    ∙ append_assoc (map (λ (entry : Entry). entry.place) entries) (next.0 ∷ []) (map (λ (p : ℕ × ScriptItem). p.0) (drop (issued + 1) transactions))
    ∙ sym (waiting-next entries issued transactions next is)

abbrev one : Bool → ℕ
one b = cond b 1 0

module _ (place : ℕ) (change : AnswerView → AnswerView) (answers : List AnswerView) where
  -- what holds of an answer after a note where the note keeps it
  pub noted-keeps : (P : AnswerView → Type 0) → ((a : AnswerView) → P a → P (change a)) → (p : ℕ) → p < length answers → P (get_or answers p (unanswered 0)) → P (get_or (noted place change answers) p (unanswered 0))
  noted-keeps P keeps p within is =
      let go : (same : Bool) → (p == place) ≡ same → P (get_or (noted place change answers) p (unanswered 0)) =
      elim [
        | true ↦ λ here.
            let e = eqb-true p place here
            in let at = subst (λ (n : ℕ). n < length answers) e within
            in subst (λ (n : ℕ). P (get_or (noted place change answers) n (unanswered 0))) (sym e)
            (subst P (sym (get_or-set_same answers place (change (get_or answers place (unanswered 0))) (unanswered 0) at))
            (keeps (get_or answers place (unanswered 0)) (subst (λ (n : ℕ). P (get_or answers n (unanswered 0))) e is)))
        | false ↦ λ there. subst P (sym (get_or-set_other answers place p (change (get_or answers place (unanswered 0))) (unanswered 0) (eqb-false p place there))) is
      ]
      in go (p == place) refl

  -- what holds of an answer after a note on another one
  pub noted-other : (P : AnswerView → Type 0) (p : ℕ) → p ≢ place → P (get_or answers p (unanswered 0)) → P (get_or (noted place change answers) p (unanswered 0))
  noted-other P p other is = subst P (sym (get_or-set_other answers place p (change (get_or answers place (unanswered 0))) (unanswered 0) other)) is

  -- as many answers are answered where the note keeps that of the one
  pub answered-kept : place < length answers → is_answered (change (get_or answers place (unanswered 0))) ≡ is_answered (get_or answers place (unanswered 0)) → count_by is_answered (noted place change answers) ≡ count_by is_answered answers
  answered-kept within same =
      let counts = sum_by-set (λ (a : AnswerView). one (is_answered a)) answers place (change (get_or answers place (unanswered 0))) (unanswered 0) within
      in let equal : one (is_answered (change (get_or answers place (unanswered 0)))) ≡ one (is_answered (get_or answers place (unanswered 0))) = ap one same
      in omega (arith, counts, equal)

  -- one more answer is answered after a note that makes it so
  pub answered-more : place < length answers → is_answered (change (get_or answers place (unanswered 0))) ≡ true → is_answered (get_or answers place (unanswered 0)) ≡ false → count_by is_answered (noted place change answers) ≡ count_by is_answered answers + 1
  answered-more within now before =
      let counts = sum_by-set (λ (a : AnswerView). one (is_answered a)) answers place (change (get_or answers place (unanswered 0))) (unanswered 0) within
      in let was_one : one (is_answered (change (get_or answers place (unanswered 0)))) ≡ 1 = ap one now
      in let was_none : one (is_answered (get_or answers place (unanswered 0))) ≡ 0 = ap one before
      in omega (arith, counts, was_one, was_none)

-- the answers and the places of those that wait, of one direction and of the other one
pub record AreKept (script : List ScriptItem) (n m : Bool) (size : ℕ) (answers : List AnswerView) (answered : ℕ) (own other : List ℕ) : Type 0 where
  pub own_waiting : AreWaiting script n answers own
  pub other_waiting : AreWaiting script m answers other
  pub counted : answered ≡ count_by is_answered answers
  pub one_each : length answers ≡ size

pub kept-turned : (script : List ScriptItem) (n m : Bool) (size : ℕ) (answers : List AnswerView) (answered : ℕ) (own other : List ℕ) → AreKept script n m size answers answered own other → AreKept script m n size answers answered other own
kept-turned script n m size answers answered own other kept = record { own_waiting = kept.other_waiting; other_waiting = kept.own_waiting; counted = kept.counted; one_each = kept.one_each }

within-noted : (place : ℕ) (change : AnswerView → AnswerView) (answers : List AnswerView) (places : List ℕ) → All (λ p. p < length answers) places → All (λ p. p < length (noted place change answers)) places
within-noted place change answers places all = subst (λ (size : ℕ). All (λ p. p < size) places) (sym (length-set answers place (change (get_or answers place (unanswered 0))))) all

-- an issue is noted
due-issued : (script : List ScriptItem) (n : Bool) (place round : ℕ) (a : AnswerView) → IsDue script n place a → IsDue script n place (issued_in round a)
due-issued script n place round a due = record { item = due.item; at = due.at; direction = due.direction; answered = due.answered; more = due.more; bytes = due.bytes; due_resps = due.due_resps; due_bytes = due.due_bytes }

pub waiting-noted : (script : List ScriptItem) (n : Bool) (place round : ℕ) (answers : List AnswerView) (places : List ℕ) → AreWaiting script n answers places → AreWaiting script n (noted place (issued_in round) answers) places
waiting-noted script n place round answers places wait = record {
  within = within-noted place (issued_in round) answers places wait.within;
  due = λ k d lt. noted-keeps place (issued_in round) answers (IsDue script n (get_or places k d)) (due-issued script n (get_or places k d) round) (get_or places k d) (wait.within k d lt) (wait.due k d lt);
  distinct = wait.distinct;
}

-- an answer is noted of another transaction
pub waiting-answered_other : (script : List ScriptItem) (n : Bool) (place : ℕ) (change : AnswerView → AnswerView) (answers : List AnswerView) (places : List ℕ) → All (λ p. p ≢ place) places → AreWaiting script n answers places → AreWaiting script n (noted place change answers) places
waiting-answered_other script n place change answers places others wait = record {
  within = within-noted place change answers places wait.within;
  due = λ k d lt. noted-other place change answers (IsDue script n (get_or places k d)) (get_or places k d) (others k d lt) (wait.due k d lt);
  distinct = wait.distinct;
}

-- the last answer is noted of the oldest transaction of an ID, which leaves
pub waiting-answered : (script : List ScriptItem) (n : Bool) (change : AnswerView → AnswerView) (answers : List AnswerView) (entries : List Entry) (more : List ℕ) (e : Entry) → find (λ (entry : Entry). entry.id == e.id) entries ≡ Some e → AreWaiting script n answers (map (λ (entry : Entry). entry.place) entries ++ more) → AreWaiting script n (noted e.place change answers) (map (λ (entry : Entry). entry.place) (without_oldest (λ (entry : Entry). entry.id) e.id entries) ++ more)
waiting-answered script n change answers entries more e found wait = record {
  within = within-noted e.place change answers _ (All-left (λ p. p < length answers) e.id entries more wait.within);
  due =
      let others = others-left e.id entries more e found wait.distinct
      in let left = All-left (λ p. IsDue script n p (get_or answers p (unanswered 0))) e.id entries more wait.due
      in λ k d lt. noted-other e.place change answers (IsDue script n _) _ (others k d lt) (left k d lt);
  distinct = AreDistinct-left e.id entries more wait.distinct;
}

-- an answer is noted of a transaction of which more are due
pub waiting-came : (script : List ScriptItem) (n : Bool) (place : ℕ) (change : AnswerView → AnswerView) (answers : List AnswerView) (places : List ℕ) → place < length answers → IsDue script n place (change (get_or answers place (unanswered 0))) →
    AreWaiting script n answers places → AreWaiting script n (noted place change answers) places
waiting-came script n place change answers places within due wait = record {
  within = within-noted place change answers places wait.within;
  due = λ k d lt. elim (cases_eq (get_or places k d) place) [
    | inl same ↦
        subst (λ (p : ℕ). IsDue script n p (get_or (noted place change answers) p (unanswered 0))) (sym same)
        (subst (IsDue script n place) (sym (get_or-set_same answers place (change (get_or answers place (unanswered 0))) (unanswered 0) within)) due)
    | inr other ↦ noted-other place change answers (IsDue script n (get_or places k d)) (get_or places k d) other (wait.due k d lt)
  ];
  distinct = wait.distinct;
}

-- a transaction of the other direction stands elsewhere
others-apart : (script : List ScriptItem) (n m : Bool) (place : ℕ) (answers : List AnswerView) (places : List ℕ) → n ≢ m → IsDue script n place (get_or answers place (unanswered 0)) → AreWaiting script m answers places → All (λ p. p ≢ place) places
others-apart script n m place answers places apart here wait =
    λ k d lt same. due-apart script n m place (get_or places k d) _ _ apart here (wait.due k d lt) (sym same)

-- an answer in a round, with which a transaction leaves
pub kept-answered : (script : List ScriptItem) (n m : Bool) (size : ℕ) (change : AnswerView → AnswerView) (answers : List AnswerView) (answered : ℕ) (entries : List Entry) (more other : List ℕ) (e : Entry) → n ≢ m → is_answered (change (get_or answers e.place (unanswered 0))) ≡ true →
    find (λ (entry : Entry). entry.id == e.id) entries ≡ Some e → AreKept script n m size answers answered (map (λ (entry : Entry). entry.place) entries ++ more) other →
    AreKept script n m size (noted e.place change answers) (answered + 1) (map (λ (entry : Entry). entry.place) (without_oldest (λ (entry : Entry). entry.id) e.id entries) ++ more) other
kept-answered script n m size change answers answered entries more other e apart now found kept =
    let here = All-oldest (λ p. IsDue script n p (get_or answers p (unanswered 0))) e.id entries more e found kept.own_waiting.due
    in let within = All-oldest (λ p. p < length answers) e.id entries more e found kept.own_waiting.within
    in let before : is_answered (get_or answers e.place (unanswered 0)) ≡ false = ap (λ (k : ℕ). nat_lt 0 k) here.answered
    in record {
      own_waiting = waiting-answered script n change answers entries more e found kept.own_waiting;
      other_waiting = waiting-answered_other script m e.place change answers other (others-apart script n m e.place answers other apart here kept.other_waiting) kept.other_waiting;
      counted = ap (λ (k : ℕ). k + 1) kept.counted ∙ sym (answered-more e.place change answers within now before);
      one_each = length-set answers e.place (change (get_or answers e.place (unanswered 0))) ∙ kept.one_each;
    }

-- an answer in a round, after which more are due
pub kept-came : (script : List ScriptItem) (n m : Bool) (size : ℕ) (change : AnswerView → AnswerView) (answers : List AnswerView) (answered : ℕ) (entries : List Entry) (more other : List ℕ) (e : Entry) → n ≢ m → IsDue script n e.place (change (get_or answers e.place (unanswered 0))) →
    find (λ (entry : Entry). entry.id == e.id) entries ≡ Some e → AreKept script n m size answers answered (map (λ (entry : Entry). entry.place) entries ++ more) other →
    AreKept script n m size (noted e.place change answers) answered (map (λ (entry : Entry). entry.place) entries ++ more) other
kept-came script n m size change answers answered entries more other e apart due found kept =
    let here = All-oldest (λ p. IsDue script n p (get_or answers p (unanswered 0))) e.id entries more e found kept.own_waiting.due
    in let within = All-oldest (λ p. p < length answers) e.id entries more e found kept.own_waiting.within
    in let same : is_answered (change (get_or answers e.place (unanswered 0))) ≡ is_answered (get_or answers e.place (unanswered 0)) = ap (λ (k : ℕ). nat_lt 0 k) (due.answered ∙ sym here.answered)
    in record {
      own_waiting = waiting-came script n e.place change answers (map (λ (entry : Entry). entry.place) entries ++ more) within due kept.own_waiting;
      other_waiting = waiting-answered_other script m e.place change answers other (others-apart script n m e.place answers other apart here kept.other_waiting) kept.other_waiting;
      counted = kept.counted ∙ sym (answered-kept e.place change answers within same);
      one_each = length-set answers e.place (change (get_or answers e.place (unanswered 0))) ∙ kept.one_each;
    }

-- an issue in a round
pub kept-issued : (script : List ScriptItem) (n m : Bool) (size round place : ℕ) (answers : List AnswerView) (answered : ℕ) (own other : List ℕ) → place < length answers → AreKept script n m size answers answered own other → AreKept script n m size (noted place (issued_in round) answers) answered own other
kept-issued script n m size round place answers answered own other within kept = record {
  own_waiting = waiting-noted script n place round answers own kept.own_waiting;
  other_waiting = waiting-noted script m place round answers other kept.other_waiting;
  counted = kept.counted ∙ sym (answered-kept place (issued_in round) answers within refl);
  one_each = length-set answers place (issued_in round (get_or answers place (unanswered 0))) ∙ kept.one_each;
}

-- the oldest of an ID by its place among the entries
pub oldest-at : (id : ℕ) (entries : List Entry) (place : ℕ) → place_of id (map (λ (entry : Entry). entry.id) entries) ≡ Some place → slice_get entries place ≡ find (λ (entry : Entry). entry.id == id) entries
oldest-at id [] place is = absurd (cc)
oldest-at id (x ∷ xs) place is =
    let later : (o : Option ℕ) → place_of id (map (λ (entry : Entry). entry.id) xs) ≡ o → option_map suc o ≡ Some place → slice_get (x ∷ xs) place ≡ find (λ (entry : Entry). entry.id == id) xs =
    elim [
      | None ↦ λ at none. absurd (cc)
      | Some p ↦ λ at some. let next : suc p ≡ place = cc in subst (λ (q : ℕ). slice_get (x ∷ xs) q ≡ find (λ (entry : Entry). entry.id == id) xs) next (oldest-at id xs p at)
    ]
    in let go : (same : Bool) → cond same (Some 0) (option_map suc (place_of id (map (λ (entry : Entry). entry.id) xs))) ≡ Some place → slice_get (x ∷ xs) place ≡ cond same (Some x) (find (λ (entry : Entry). entry.id == id) xs) =
    elim [
      | true ↦ λ here. let zero_at : 0 ≡ place = cc in subst (λ (p : ℕ). slice_get (x ∷ xs) p ≡ Some x) zero_at refl
      | false ↦ λ there. later (place_of id (map (λ (entry : Entry). entry.id) xs)) refl there
    ]
    in go (x.id == id) is

-- none has the ID
pub oldest-none : (id : ℕ) (entries : List Entry) → place_of id (map (λ (entry : Entry). entry.id) entries) ≡ None → (find (λ (entry : Entry). entry.id == id) entries ≡ None) × (without_oldest (λ (entry : Entry). entry.id) id entries ≡ entries)
oldest-none id [] is = (refl, refl)
oldest-none id (x ∷ xs) is =
    let later : (o : Option ℕ) → place_of id (map (λ (entry : Entry). entry.id) xs) ≡ o → option_map suc o ≡ None → (find (λ (entry : Entry). entry.id == id) xs ≡ None) × (x ∷ without_oldest (λ (entry : Entry). entry.id) id xs ≡ x ∷ xs) =
    elim [
      | None ↦ λ at none. let rest = oldest-none id xs at in (rest.0, ap (λ (ys : List Entry). x ∷ ys) rest.1)
      | Some p ↦ λ at some. absurd (cc)
    ]
    in let go : (same : Bool) → cond same (Some 0) (option_map suc (place_of id (map (λ (entry : Entry). entry.id) xs))) ≡ None → (cond same (Some x) (find (λ (entry : Entry). entry.id == id) xs) ≡ None) × (cond same xs (x ∷ without_oldest (λ (entry : Entry). entry.id) id xs) ≡ x ∷ xs) =
    elim [
      | true ↦ λ here. absurd (cc)
      | false ↦ λ there. later (place_of id (map (λ (entry : Entry). entry.id) xs)) refl there
    ]
    in go (x.id == id) is

-- what holds of the places that wait holds of the entries
pub All-entries : (P : ℕ → Type 0) (entries : List Entry) (more : List ℕ) → All P (map (λ (entry : Entry). entry.place) entries ++ more) → All (λ (entry : Entry). P entry.place) entries
All-entries P [] more all = λ k d lt. absurd (omega arith)
All-entries P (x ∷ xs) more all = All-cons (λ (entry : Entry). P entry.place) x xs (All-head P x.place (map (λ (entry : Entry). entry.place) xs ++ more) all) (All-entries P xs more (All-tail P x.place (map (λ (entry : Entry). entry.place) xs ++ more) all))

without-absent : (id : ℕ) (entries : List Entry) → find (λ (entry : Entry). entry.id == id) entries ≡ None → without_oldest (λ (entry : Entry). entry.id) id entries ≡ entries
without-absent id [] none = refl
without-absent id (x ∷ xs) none =
    let go : (same : Bool) → cond same (Some x) (find (λ (entry : Entry). entry.id == id) xs) ≡ None → cond same xs (x ∷ without_oldest (λ (entry : Entry). entry.id) id xs) ≡ x ∷ xs =
    elim [ true ↦ λ here. absurd (cc) | false ↦ λ there. ap (λ (ys : List Entry). x ∷ ys) (without-absent id xs there) ]
    in go (x.id == id) none

-- the oldest of an ID that was looked for by its place
pub at-place : (P : ℕ → Type 0) (id : ℕ) (entries : List Entry) (place : ℕ) → All (λ (entry : Entry). P entry.place) entries → option_map (λ (entry : Entry). entry.place) (find (λ (entry : Entry). entry.id == id) entries) ≡ Some place → P place
at-place P id [] place all none = absurd (cc)
at-place P id (x ∷ xs) place all some =
    let go : (same : Bool) → option_map (λ (entry : Entry). entry.place) (cond same (Some x) (find (λ (entry : Entry). entry.id == id) xs)) ≡ Some place → P place =
    elim [
      | true ↦ λ here. let same : x.place ≡ place = cc in subst P same (All-head (λ (entry : Entry). P entry.place) x xs all)
      | false ↦ λ there. at-place P id xs place (All-tail (λ (entry : Entry). P entry.place) x xs all) there
    ]
    in go (x.id == id) some

module _ {X : Type 0} where
  -- those that are left where a head's ID is looked for
  pub left-head : (id_of : X → ℕ) (entries : List Entry) (head : X) → left_waiting (answering id_of entries (Some head)) entries ≡ without_oldest (λ (entry : Entry). entry.id) (id_of head) entries
  left-head id_of entries head =
      let go : (o : Option Entry) → find (λ (entry : Entry). entry.id == id_of head) entries ≡ o → left_waiting (option_map (λ (entry : Entry). (entry, head)) o) entries ≡ without_oldest (λ (entry : Entry). entry.id) (id_of head) entries =
      elim [
        | None ↦ λ none. sym (without-absent (id_of head) entries none)
        | Some e ↦ λ some. ap (λ (id : ℕ). without_oldest (λ (entry : Entry). entry.id) id entries) (oldest-id (id_of head) entries e some)
      ]
      in go (find (λ (entry : Entry). entry.id == id_of head) entries) refl

-- those that are left where the last answer comes to the one that was looked for
pub left-ending : (answers : List AnswerView) (entries : List Entry) (head : RBeat) (place : ℕ) → option_map (λ (entry : Entry). entry.place) (find (λ (entry : Entry). entry.id == head.id) entries) ≡ Some place → is_last (get_or answers place (unanswered 0)) ≡ true →
    left_waiting (ending answers (answering (λ (beat : RBeat). beat.id) entries (Some head))) entries ≡ without_oldest (λ (entry : Entry). entry.id) head.id entries
left-ending answers entries head place at last =
    let go : (o : Option Entry) → find (λ (entry : Entry). entry.id == head.id) entries ≡ o → option_map (λ (entry : Entry). entry.place) o ≡ Some place →
    left_waiting (ending answers (option_map (λ (entry : Entry). (entry, head)) o)) entries ≡ without_oldest (λ (entry : Entry). entry.id) head.id entries =
    elim [
      | None ↦ λ none there. absurd (cc)
      | Some e ↦ λ some there.
          let same : e.place ≡ place = some-inner e.place place there
          in let ends : is_last (get_or answers e.place (unanswered 0)) ≡ true = subst (λ (q : ℕ). is_last (get_or answers q (unanswered 0)) ≡ true) (sym same) last
          in let passed : Bool → List Entry = λ b. left_waiting {X = RBeat} (beat_where b (Some (e, head))) entries
          in ap passed ends ∙ ap (λ (id : ℕ). without_oldest (λ (entry : Entry). entry.id) id entries) (oldest-id head.id entries e some)
    ]
    in go (find (λ (entry : Entry). entry.id == head.id) entries) refl at

pub direction-same : (new old : Direction) (entries : List Entry) → new.places ≡ old.places → new.issued ≡ old.issued → new.entries ≡ entries → new ≡ record old { entries = entries }
direction-same new old entries places issued waits =
    ap (λ p. record new { places = p }) places ∙ ap (λ i. record new { places = old.places; issued = i }) issued ∙ ap (λ (e : List Entry). record old { entries = e }) waits
