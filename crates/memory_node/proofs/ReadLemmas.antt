-- Read after write.
use Rattle.std.proofs.Common.{◌≡◌, ◌≢◌, ℕ, ◌+◌, ◌*◌, ◌/◌, ◌%◌, ◌<◌, ◌==◌, suc, Bool, true, false, cond, List, [], ◌∷◌, Option, Some, None, length, get_or, refl, sym, ◌∙◌, ap, subst, arith}
use Rattle.std.specs.Prelude.{Contains, slice_get, slice_set, unwrap_or}
use Rattle.std.specs.Option.{option_and_then, option_map}
use Rattle.std.proofs.lemmas.Bool.{eqb-true}
use Rattle.std.proofs.lemmas.List.{get_or-set_same, get_or-set_other}
use Rattle.std.proofs.lemmas.Option.{slice_get-get_or, unwrap_or-slice_get}
use Rattle.flight.specs.Entries.{place_of}
use Rattle.flight.proofs.EntryFacts.{some-inner}
use Rattle.memory_node.specs.Store.{Store, IsStore, ReadsWritten, ReadsOthers, line_number, byte_place, byte_at, with_byte_at}
use Rattle.memory_node.proofs.StoreLemmas.{place_of-first}

-- a list has one value at a place, whatever is told beyond its end
get_or-within : (xs : List ℕ) (i d e : ℕ) → i < length xs → get_or xs i d ≡ get_or xs i e
get_or-within xs i d e lt = some-inner (get_or xs i d) (get_or xs i e) (sym (slice_get-get_or xs i d lt) ∙ slice_get-get_or xs i e lt)

-- at the place that is found stands the key
place_of-found : (xs : List ℕ) (key i : ℕ) → place_of key xs ≡ Some i → (i < length xs) × (get_or xs i 0 ≡ key)
place_of-found [] key i e = absurd (cc)
place_of-found (x ∷ xs) key i e =
    let go : (b : Bool) → (x == key) ≡ b → cond b (Some 0) (option_map suc (place_of key xs)) ≡ Some i → (i < length (x ∷ xs)) × (get_or (x ∷ xs) i 0 ≡ key) =
    elim [
      | true ↦ λ is h.
          let first : 0 ≡ i = some-inner 0 i h in
          (omega arith, subst (λ (n : ℕ). get_or (x ∷ xs) n 0 ≡ key) first (eqb-true x key is))
      | false ↦ λ is h.
          let later : (o : Option ℕ) → place_of key xs ≡ o → option_map suc o ≡ Some i → (i < length (x ∷ xs)) × (get_or (x ∷ xs) i 0 ≡ key) =
          elim [
            | None ↦ λ found h. absurd (cc)
            | Some k ↦ λ found h.
                let next : suc k ≡ i = some-inner (suc k) i h in
                let (lt, at) = place_of-found xs key k found in
                subst (λ (n : ℕ). (n < length (x ∷ xs)) × (get_or (x ∷ xs) n 0 ≡ key)) next (omega arith, at)
          ]
          in later (place_of key xs) refl h
    ]
    in go (x == key) refl e

-- the byte at a kept place
byte_at-kept : (store : Store) (address place : ℕ) → byte_place store address ≡ Some place → byte_at store address ≡ get_or store.bytes place store.fill
byte_at-kept store address place e =
    ap (λ o. unwrap_or (option_and_then (slice_get store.bytes) o) store.fill) e ∙ unwrap_or-slice_get store.bytes place store.fill

-- a byte whose line is kept has a place
byte_place-kept : (store : Store) (address : ℕ) → IsStore store → Contains store.lines (line_number address) → (place : ℕ) × (byte_place store address ≡ Some place) × (place < length store.bytes)
byte_place-kept store address is kept =
    let (k, lt, at) = kept in
    let here : get_or store.lines k 0 ≡ line_number address = get_or-within store.lines k 0 (line_number address) lt ∙ at in
    let first : place_of (line_number address) store.lines ≡ Some k =
    place_of-first (line_number address) store.lines k lt here (λ j less same.
    let below : get_or store.lines j 0 < get_or store.lines k 0 = is.ascending j k 0 less lt in absurd (omega arith)) in
    let whole : length store.bytes ≡ 128 * length store.lines = is.whole in
    (128 * k + address % 128, ap (option_map (λ place. 128 * place + address % 128)) first, omega arith)

pub reads-written : ReadsWritten
reads-written store address value is kept =
    let (place, e, lt) = byte_place-kept store address is kept in
    ap (λ o. byte_at (with_byte_at store o value) address) e
    ∙ byte_at-kept (with_byte_at store (Some place) value) address place e
    ∙ get_or-set_same store.bytes place value store.fill lt

-- a kept place is that of its line and of its offset
place-inner : (store : Store) (address place : ℕ) → byte_place store address ≡ Some place → (k : ℕ) × (place_of (line_number address) store.lines ≡ Some k) × (128 * k + address % 128 ≡ place)
place-inner store address place e =
    let go : (o : Option ℕ) → place_of (line_number address) store.lines ≡ o → option_map (λ k. 128 * k + address % 128) o ≡ Some place → (k : ℕ) × (place_of (line_number address) store.lines ≡ Some k) × (128 * k + address % 128 ≡ place) =
    elim [
      | None ↦ λ is h. absurd (cc)
      | Some k ↦ λ is h. (k, is, some-inner (128 * k + address % 128) place h)
    ]
    in go (place_of (line_number address) store.lines) refl e

-- two addresses of one place are the same
place-once : (store : Store) (a b place : ℕ) → byte_place store a ≡ Some place → byte_place store b ≡ Some place → b ≡ a
place-once store a b place at_a at_b =
    let (k, k_is, k_at) = place-inner store a place at_a in
    let (l, l_is, l_at) = place-inner store b place at_b in
    let (k_lt, k_line) = place_of-found store.lines (line_number a) k k_is in
    let (l_lt, l_line) = place_of-found store.lines (line_number b) l l_is in
    let same : l ≡ k = omega arith in
    let line : b / 128 ≡ a / 128 = sym l_line ∙ ap (λ (n : ℕ). get_or store.lines n 0) same ∙ k_line in
    omega arith

pub reads-others : ReadsOthers
reads-others store address other value is different =
    let go : (o p : Option ℕ) → byte_place store address ≡ o → byte_place store other ≡ p → byte_at (with_byte_at store o value) other ≡ byte_at store other =
    elim [
      | None ↦ λ p at_address at_other. refl
      | Some place ↦ elim [
        | None ↦ λ at_address at_other.
            ap (λ o. unwrap_or (option_and_then (slice_get (slice_set store.bytes place value)) o) store.fill) at_other
            ∙ sym (ap (λ o. unwrap_or (option_and_then (slice_get store.bytes) o) store.fill) at_other)
        | Some there ↦ λ at_address at_other.
            let apart : there ≢ place = λ e. different (place-once store address other place at_address (at_other ∙ ap (λ (n : ℕ). Some n) e)) in
            byte_at-kept (with_byte_at store (Some place) value) other there at_other
            ∙ get_or-set_other store.bytes place there value store.fill apart
            ∙ sym (byte_at-kept store other there at_other)
      ]
    ]
    in go (byte_place store address) (byte_place store other) refl refl
