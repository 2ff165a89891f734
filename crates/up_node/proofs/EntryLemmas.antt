-- The entries of the code, as requests that wait.
use Rattle.std.proofs.Common.{◌≡◌, ◌≢◌, ◌≤◌, ◌+◌, ◌==◌, ℕ, zero, suc, Bool, true, false, cond, List, [], ◌∷◌, Option, Some, None, map, refl, sym, ◌∙◌, ap, subst, arith, eq-eqb}
use Rattle.std.specs.Prelude.{All, IfSome, remove, slice_get, slice_set}
use Rattle.std.specs.Option.{option_and_then, option_map}
use Rattle.std.proofs.lemmas.Bool.{ne_eqb}
use Rattle.axi_beats.specs.declared.beat.Addr.{Addr}
use Rattle.axi_beats.specs.declared.beat.RBeat.{RBeat}
use Rattle.axi_beats.specs.declared.beat.WBeat.{WBeat}
use Rattle.axi_link.specs.LinkWords.{head_of}
use Rattle.axi_trail.specs.Waiting.{Waiting, advanced, answered_once}
use Rattle.axi_trail.specs.Words.{id_of_address}
use Rattle.burst_cuts.specs.Parts.{len_of_burst}
use Rattle.flight.specs.Entries.{place_of}
use Rattle.flight.proofs.EntryFacts.{some-inner}
use Rattle.plain_lists.proofs.PlaceLemmas.{at-has, map-has}
use Rattle.up_node.specs.UpBeats.{beat_narrowed, beat_shift, beat_widened}
use Rattle.up_node.specs.UpInside.{beat_noted, waiting_of}
use Rattle.up_node.specs.UpState.{IsPassing}
use Rattle.up_node.specs.UpTable.{data_moved, moved_for, oldest_of_id, read_data_moved}
use Rattle.up_node.specs.declared.passing.Passing.{Passing}
use Rattle.up_node.specs.declared.shape.UpShape.{UpShape}

abbrev pub id_of_passing : Passing → ℕ
id_of_passing entry = entry.request.id

abbrev one_more : Passing → Passing
one_more e = record { request = e.request; passed = e.passed + 1 }

-- with its last beat an entry leaves
pub noted-leaves : (place : ℕ) (entries : List Passing) (e : Passing) → slice_get entries place ≡ Some e → e.passed ≡ e.request.len → remove entries place ≡ beat_noted place entries
noted-leaves place [] e at last = absurd (cc)
noted-leaves zero (x ∷ xs) e at last =
    let same : x ≡ e = cc in
    let ends : x.passed ≡ x.request.len = ap (λ (y : Passing). y.passed) same ∙ last ∙ sym (ap (λ (y : Passing). y.request.len) same) in
    ap (λ b. cond b xs (one_more x ∷ xs)) (sym (eq-eqb x.passed x.request.len ends))
noted-leaves (suc place) (x ∷ xs) e at last = ap (λ (t : List Passing). x ∷ t) (noted-leaves place xs e at last)

-- else it has one more beat passed
pub noted-stays : (place : ℕ) (entries : List Passing) (e : Passing) → slice_get entries place ≡ Some e → e.passed ≢ e.request.len → slice_set entries place (one_more e) ≡ beat_noted place entries
noted-stays place [] e at more = absurd (cc)
noted-stays zero (x ∷ xs) e at more =
    let same : x ≡ e = cc in
    let other : x.passed ≢ x.request.len = λ ends. more (sym (ap (λ (y : Passing). y.passed) same) ∙ ends ∙ ap (λ (y : Passing). y.request.len) same) in
    ap (λ (y : Passing). one_more y ∷ xs) (sym same) ∙ ap (λ b. cond b xs (one_more x ∷ xs)) (sym (ne_eqb x.passed x.request.len other))
noted-stays (suc place) (x ∷ xs) e at more = ap (λ (t : List Passing). x ∷ t) (noted-stays place xs e at more)

-- one more beat of the first entry
pub noted-first : (e : Passing) (es : List Passing) → map waiting_of (beat_noted 0 (e ∷ es)) ≡ advanced len_of_burst (map waiting_of (e ∷ es))
noted-first e es = go (e.passed == e.request.len)
  where
    go : (b : Bool) → map waiting_of (cond b es (one_more e ∷ es)) ≡ cond b (map waiting_of es) (record { request = e.request; done = suc e.passed } ∷ map waiting_of es)
    go true = refl
    go false = ap (λ (n : ℕ). record { request = e.request; done = n } ∷ map waiting_of es) (let more : e.passed + 1 ≡ suc e.passed = omega arith in more)

-- one more beat of the oldest entry of an ID
pub noted-oldest : (id : ℕ) (entries : List Passing) (place : ℕ) → place_of id (map id_of_passing entries) ≡ Some place →
    map waiting_of (beat_noted place entries) ≡ answered_once len_of_burst id_of_address id (map waiting_of entries)
noted-oldest id [] place is = absurd (cc)
noted-oldest id (e ∷ es) place is = go (e.request.id == id) (place_of id (map id_of_passing es)) place is (noted-oldest id es)
  where
    go : (b : Bool) (o : Option ℕ) (place : ℕ) → cond b (Some 0) (option_map suc o) ≡ Some place →
        ((q : ℕ) → o ≡ Some q → map waiting_of (beat_noted q es) ≡ answered_once len_of_burst id_of_address id (map waiting_of es)) →
        map waiting_of (beat_noted place (e ∷ es)) ≡ cond b (advanced len_of_burst (map waiting_of (e ∷ es))) (waiting_of e ∷ answered_once len_of_burst id_of_address id (map waiting_of es))
    go true o zero is later = noted-first e es
    go true o (suc place) is later = absurd (cc)
    go false None place is later = absurd (cc)
    go false (Some q) zero is later = absurd (cc)
    go false (Some q) (suc place) is later = ap (λ (t : List (Waiting Addr)). waiting_of e ∷ t) (later place (let same : q ≡ place = cc in ap (λ n. Some n) same))

-- it is the one at the first place of the ID
pub oldest-at : (id : ℕ) (entries : List Passing) (place : ℕ) (e : Passing) → place_of id (map id_of_passing entries) ≡ Some place → slice_get entries place ≡ Some e →
    oldest_of_id id (map waiting_of entries) ≡ Some (waiting_of e)
oldest-at id [] place e is at = absurd (cc)
oldest-at id (x ∷ xs) place e is at = go (x.request.id == id) (place_of id (map id_of_passing xs)) place is at (oldest-at id xs)
  where
    go : (b : Bool) (o : Option ℕ) (place : ℕ) → cond b (Some 0) (option_map suc o) ≡ Some place → slice_get (x ∷ xs) place ≡ Some e →
        ((q : ℕ) (f : Passing) → o ≡ Some q → slice_get xs q ≡ Some f → oldest_of_id id (map waiting_of xs) ≡ Some (waiting_of f)) →
        cond b (Some (waiting_of x)) (oldest_of_id id (map waiting_of xs)) ≡ Some (waiting_of e)
    go true o zero is at later = ap (λ (y : Passing). Some (waiting_of y)) (some-inner x e at)
    go true o (suc place) is at later = absurd (cc)
    go false None place is at later = absurd (cc)
    go false (Some q) zero is at later = absurd (cc)
    go false (Some q) (suc place) is at later = later place e (let same : q ≡ place = cc in ap (λ n. Some n) same) at

-- and there is none where the ID has no place
pub oldest-none : (id : ℕ) (entries : List Passing) → place_of id (map id_of_passing entries) ≡ None → oldest_of_id id (map waiting_of entries) ≡ None
oldest-none id [] is = refl
oldest-none id (x ∷ xs) is = go (x.request.id == id) (place_of id (map id_of_passing xs)) is (oldest-none id xs)
  where
    go : (b : Bool) (o : Option ℕ) → cond b (Some 0) (option_map suc o) ≡ None → (o ≡ None → oldest_of_id id (map waiting_of xs) ≡ None) →
        cond b (Some (waiting_of x)) (oldest_of_id id (map waiting_of xs)) ≡ None
    go true o is later = absurd (cc)
    go false None is later = later refl
    go false (Some q) is later = absurd (cc)

pub noted-at_first : (entries : List Passing) (e : Passing) → slice_get entries 0 ≡ Some e → map waiting_of (beat_noted 0 entries) ≡ advanced len_of_burst (map waiting_of entries)
noted-at_first [] e at = absurd (cc)
noted-at_first (x ∷ xs) e at = noted-first x xs

-- an entry of the code is one that waits
pub passing-at : (bus : ℕ) (entries : List Passing) (place : ℕ) (e : Passing) → All (IsPassing bus) (map waiting_of entries) → slice_get entries place ≡ Some e → IsPassing bus (waiting_of e)
passing-at bus entries place e all at = at-has (IsPassing bus) (map waiting_of entries) place (waiting_of e) (map-has waiting_of entries place e at) all

pub left-at : (bus : ℕ) (entries : List Passing) (place : ℕ) (e : Passing) → All (IsPassing bus) (map waiting_of entries) → slice_get entries place ≡ Some e →
    IfSome (slice_get entries place) (λ (entry : Passing). entry.passed ≤ entry.request.len)
left-at bus entries place e all at = subst (λ (o : Option Passing). IfSome o (λ (entry : Passing). entry.passed ≤ entry.request.len)) (sym at) (passing-at bus entries place e all at).left

-- What a row moves.
module _ (shape : UpShape) where
  pub data-moves : (room : Bool) (head : Option WBeat) (entries : List (Waiting Addr)) (w : WBeat) (e : Waiting Addr) → room ≡ true → head ≡ Some w → head_of entries ≡ Some e →
      data_moved shape room head entries ≡ Some (beat_widened shape (beat_shift shape e.request e.done) w)
  data-moves room head entries w e roomy here first =
      ap (λ b. data_moved shape b head entries) roomy ∙ ap (λ (o : Option WBeat). moved_for shape (beat_widened shape) (head_of entries) o) here
      ∙ ap (λ (o : Option (Waiting Addr)). moved_for shape (beat_widened shape) o (Some w)) first

  pub data-stays_full : (room : Bool) (head : Option WBeat) (entries : List (Waiting Addr)) → room ≡ false → data_moved shape room head entries ≡ None
  data-stays_full room head entries full = ap (λ b. data_moved shape b head entries) full

  pub data-stays_none : (room : Bool) (head : Option WBeat) (entries : List (Waiting Addr)) → head ≡ None → data_moved shape room head entries ≡ None
  data-stays_none true head [] none = refl
  data-stays_none true head (e ∷ es) none = ap (moved_for shape (beat_widened shape) (Some e)) none
  data-stays_none false head entries none = refl

  pub data-stays_early : (room : Bool) (head : Option WBeat) (entries : List (Waiting Addr)) → entries ≡ [] → data_moved shape room head entries ≡ None
  data-stays_early true head entries none = ap (λ (es : List (Waiting Addr)). moved_for shape (beat_widened shape) (head_of es) head) none
  data-stays_early false head entries none = refl

  pub read_data-moves : (room : Bool) (head : Option RBeat) (entries : List (Waiting Addr)) (r : RBeat) (e : Waiting Addr) → room ≡ true → head ≡ Some r → oldest_of_id r.id entries ≡ Some e →
      read_data_moved shape room head entries ≡ Some (beat_narrowed shape (beat_shift shape e.request e.done) r)
  read_data-moves room head entries r e roomy here oldest =
      ap (λ b. read_data_moved shape b head entries) roomy
      ∙ ap (λ (o : Option RBeat). moved_for shape (beat_narrowed shape) (option_and_then (λ (x : RBeat). oldest_of_id x.id entries) o) o) here
      ∙ ap (λ (o : Option (Waiting Addr)). moved_for shape (beat_narrowed shape) o (Some r)) oldest

  pub read_data-stays_full : (room : Bool) (head : Option RBeat) (entries : List (Waiting Addr)) → room ≡ false → read_data_moved shape room head entries ≡ None
  read_data-stays_full room head entries full = ap (λ b. read_data_moved shape b head entries) full

  pub read_data-stays_none : (room : Bool) (head : Option RBeat) (entries : List (Waiting Addr)) → head ≡ None → read_data_moved shape room head entries ≡ None
  read_data-stays_none true head entries none = ap (λ (o : Option RBeat). moved_for shape (beat_narrowed shape) (option_and_then (λ (x : RBeat). oldest_of_id x.id entries) o) o) none
  read_data-stays_none false head entries none = refl

  pub read_data-stays_early : (room : Bool) (head : Option RBeat) (entries : List (Waiting Addr)) (r : RBeat) → head ≡ Some r → oldest_of_id r.id entries ≡ None → read_data_moved shape room head entries ≡ None
  read_data-stays_early true head entries r here none =
      ap (λ (o : Option RBeat). moved_for shape (beat_narrowed shape) (option_and_then (λ (x : RBeat). oldest_of_id x.id entries) o) o) here
      ∙ ap (λ (o : Option (Waiting Addr)). moved_for shape (beat_narrowed shape) o (Some r)) none
  read_data-stays_early false head entries r here none = refl
