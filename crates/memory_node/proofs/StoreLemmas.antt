-- Facts on the places of lines and on the bytes that are kept there.
use Rattle.std.proofs.Common.{◌≡◌, ◌≢◌, ℕ, ◌+◌, ◌*◌, ◌/◌, ◌%◌, ◌<◌, ◌≤◌, suc, zero, cond, List, [], ◌∷◌, Some, None, length, get_or, refl, sym, ◌∙◌, ap, subst, arith, eq-eqb, nat_cmp, inl, inr}
use Rattle.std.specs.Prelude.{slice_get, slice_set, slice_index, fold, is_some, AllPairs, Contains, IsTrue, Option, Result, Ok, Err}
use Rattle.std.specs.Option.{option_map}
use Rattle.std.specs.Result.{result_ok}
use Rattle.std.specs.List.Sorted.{IsBinarySearchResult}
use Rattle.std.proofs.lemmas.Bool.{ne_eqb, cases_lt}
use Rattle.std.proofs.lemmas.List.Sorted.{searched}
use Rattle.std.proofs.lemmas.Option.{get_or_from_slice_get, slice_get_within}
use Rattle.std.specs.List.{AllByRecursion}
use Rattle.axi_beats.specs.declared.beat.WBeat.{WBeat}
use Rattle.flight.specs.Entries.{place_of}
use Rattle.flight.proofs.EntryFacts.{place_of-found}
use Rattle.burst_address.specs.Lanes.{lane_bytes}
use Rattle.memory_node.specs.Beats.{with_bytes}
use Rattle.memory_node.specs.Store.{Store, line_number, byte_place, with_byte_at}

-- the first place of a key is where it stands and no earlier place has it
pub place_of-first : (key : ℕ) (xs : List ℕ) (i : ℕ) → i < length xs → get_or xs i 0 ≡ key → ((j : ℕ) → j < i → get_or xs j 0 ≢ key) → place_of key xs ≡ Some i
place_of-first key [] i lt at before = absurd (omega arith)
place_of-first key (x ∷ xs) zero lt at before = ap (λ b. cond b (Some 0) (option_map suc (place_of key xs))) (eq-eqb x key at)
place_of-first key (x ∷ xs) (suc i) lt at before =
    ap (λ b. cond b (Some 0) (option_map suc (place_of key xs))) (ne_eqb x key (before 0 (omega arith)))
    ∙ ap (option_map suc) (place_of-first key xs i (omega arith) at (λ j lt e. before (suc j) (omega arith) e))

-- a key that no place has
pub place_of-nowhere : (key : ℕ) (xs : List ℕ) → ((j : ℕ) → j < length xs → get_or xs j 0 ≢ key) → place_of key xs ≡ None
place_of-nowhere key [] other = refl
place_of-nowhere key (x ∷ xs) other =
    ap (λ b. cond b (Some 0) (option_map suc (place_of key xs))) (ne_eqb x key (other 0 (omega arith)))
    ∙ ap (option_map suc) (place_of-nowhere key xs (λ j lt e. other (suc j) (omega arith) e))

rising : (xs : List ℕ) → AllPairs (λ a b. a < b) xs → (i j : ℕ) → i ≤ j → j < length xs → get_or xs i 0 ≤ get_or xs j 0
rising xs ascend i j le lt = elim (cases_lt i j) [
  | inl less ↦ let below : get_or xs i 0 < get_or xs j 0 = ascend i j 0 less lt in omega arith
  | inr more ↦ let same : i ≡ j = omega arith in subst (λ k. get_or xs i 0 ≤ get_or xs k 0) same (omega arith)
]

-- a binary search among ascending numbers finds the place
pub place_of-searched : (xs : List ℕ) (key : ℕ) (r : Result ℕ ℕ) → AllPairs (λ a b. a < b) xs → IsBinarySearchResult (λ y. nat_cmp y key) xs r → result_ok r ≡ place_of key xs
place_of-searched xs key (Ok i) ascend found =
    let (lt, at) = searched xs key (Ok i) found (rising xs ascend) in
    sym (place_of-first key xs i lt at (λ j less e. let below : get_or xs j 0 < get_or xs i 0 = ascend j i 0 less lt in absurd (omega arith)))
place_of-searched xs key (Err i) ascend found =
    let (le, below, above) = searched xs key (Err i) found (rising xs ascend) in
    sym (place_of-nowhere key xs (λ j lt e. elim (cases_lt j i) [
      | inl less ↦ let under : get_or xs j 0 < key = below j less in absurd (omega arith)
      | inr more ↦ let over : key < get_or xs j 0 = above j more lt in absurd (omega arith)
    ]))

-- a key that has a place is one of the list
pub placed-among : (key : ℕ) (xs : List ℕ) (place : Option ℕ) → place_of key xs ≡ place → IsTrue (is_some place) → Contains xs key
placed-among key xs None at is = absurd (cc)
placed-among key xs (Some k) at is =
    let found : slice_get xs k ≡ Some key = place_of-found key xs k at in
    (k, slice_get_within xs k key found, get_or_from_slice_get xs k key key found)

-- the byte of a lane is kept behind that of lane 0, where the word lies in one line
byte_place-lane : (store : Store) (word k place : ℕ) → word % 128 + k < 128 → place_of (line_number word) store.lines ≡ Some place → byte_place store (word + k) ≡ Some (128 * place + word % 128 + k)
byte_place-lane store word k place lt e =
    let line : (word + k) / 128 ≡ word / 128 = omega arith in
    let offset : 128 * place + (word + k) % 128 ≡ 128 * place + word % 128 + k = omega arith in
    ap (λ n. option_map (λ p. 128 * p + (word + k) % 128) (place_of n store.lines)) line
    ∙ ap (option_map (λ p. 128 * p + (word + k) % 128)) e
    ∙ ap (λ n. Some n) offset

-- the bytes of a word whose line is kept are written one by one
pub all_written-kept : (store : Store) (word bus place : ℕ) (w : WBeat) (lanes : List ℕ) → word % 128 + bus ≤ 128 → place_of (line_number word) store.lines ≡ Some place → AllByRecursion (λ k. k < bus) lanes →
    with_bytes store (lane_bytes word w lanes)
    ≡ record { lines = store.lines; bytes = fold (λ written lane. slice_set written (128 * place + word % 128 + lane) (slice_index w.lanes lane)) store.bytes lanes; fill = store.fill }
all_written-kept store word bus place w [] le e below = refl
all_written-kept store word bus place w (k ∷ ks) le e below =
    let (lt, rest) = below in
    let at : byte_place store (word + k) ≡ Some (128 * place + word % 128 + k) = byte_place-lane store word k place (omega arith) e in
    ap (λ p. with_bytes (with_byte_at store p (slice_index w.lanes k)) (lane_bytes word w ks)) at
    ∙ all_written-kept (with_byte_at store (Some (128 * place + word % 128 + k)) (slice_index w.lanes k)) word bus place w ks le e rest

-- those of a word whose line isn't kept are lost
pub all_written-lost : (store : Store) (word bus : ℕ) (w : WBeat) (lanes : List ℕ) → word % 128 + bus ≤ 128 → place_of (line_number word) store.lines ≡ None → AllByRecursion (λ k. k < bus) lanes → with_bytes store (lane_bytes word w lanes) ≡ store
all_written-lost store word bus w [] le e below = refl
all_written-lost store word bus w (k ∷ ks) le e below =
    let (lt, rest) = below in
    let line : (word + k) / 128 ≡ word / 128 = omega arith in
    let at : byte_place store (word + k) ≡ None = ap (λ n. option_map (λ p. 128 * p + (word + k) % 128) (place_of n store.lines)) line ∙ ap (option_map (λ p. 128 * p + (word + k) % 128)) e in
    ap (λ p. with_bytes (with_byte_at store p (slice_index w.lanes k)) (lane_bytes word w ks)) at
    ∙ all_written-lost store word bus w ks le e rest
