-- Facts on the entries of a key, and on their places.
use Rattle.std.proofs.Common.{◌≡◌, ◌≢◌, ℕ, ◌<◌, ◌==◌, suc, zero, Bool, true, false, cond, List, [], ◌∷◌, Option, Some, None, length, map, take, get_or, refl, sym, ap, subst, arith, eq-eqb}
use Rattle.std.specs.Prelude.{remove, slice_get, slice_set}
use Rattle.std.proofs.lemmas.Bool.{eqb-true, ne_eqb}
use Rattle.std.proofs.lemmas.Grind.{common_steps}
use Rattle.std.specs.List.{refill}
use Rattle.std.specs.Option.{option_map}
use Rattle.flight.specs.Entries.{place_of}
use Rattle.plain_lists.specs.Keys.{of_key, without_oldest}

pub some-inner : {X : Type 0} (x y : X) → Some x ≡ Some y → x ≡ y
some-inner x y e = cc

pub none-shift : (o : Option ℕ) → option_map suc o ≡ None → o ≡ None
none-shift None e = refl
none-shift (Some n) e = absurd (cc)

pub shift-none : (o : Option ℕ) → o ≡ None → option_map suc o ≡ None
shift-none None e = refl
shift-none (Some n) e = absurd (cc)

-- the key has no place before i, and the entry at i has it
pub place_of-at : {X : Type 0} (key_of : X → ℕ) (key : ℕ) (xs : List X) (i : ℕ) (d : X) → i < length xs → place_of key (map key_of (take i xs)) ≡ None → key_of (get_or xs i d) ≡ key → place_of key (map key_of xs) ≡ Some i
place_of-at key_of key [] i d lt none at = absurd (omega arith)
place_of-at key_of key (x ∷ xs) zero d lt none at = ap (λ b. cond b (Some 0) (option_map suc (place_of key (map key_of xs)))) (eq-eqb (key_of x) key at)
place_of-at key_of key (x ∷ xs) (suc i) d lt none at =
    let go : (b : Bool) → cond b (Some 0) (option_map suc (place_of key (map key_of (take i xs)))) ≡ None → cond b (Some 0) (option_map suc (place_of key (map key_of xs))) ≡ Some (suc i) =
    elim [ true ↦ λ e. absurd (cc) | false ↦ λ e. ap (λ o. option_map suc o) (place_of-at key_of key xs i d (omega arith) (none-shift (place_of key (map key_of (take i xs))) e) at) ]
    in go (key_of x == key) none

-- the key has no place before i, and the entry at i has another one
pub place_of-none_more : {X : Type 0} (key_of : X → ℕ) (key : ℕ) (xs : List X) (i : ℕ) (d : X) → i < length xs → place_of key (map key_of (take i xs)) ≡ None → key_of (get_or xs i d) ≢ key → place_of key (map key_of (take (suc i) xs)) ≡ None
place_of-none_more key_of key [] i d lt none other = absurd (omega arith)
place_of-none_more key_of key (x ∷ xs) zero d lt none other = ap (λ b. cond b (Some 0) None) (ne_eqb (key_of x) key other)
place_of-none_more key_of key (x ∷ xs) (suc i) d lt none other =
    let go : (b : Bool) → cond b (Some 0) (option_map suc (place_of key (map key_of (take i xs)))) ≡ None → cond b (Some 0) (option_map suc (place_of key (map key_of (take (suc i) xs)))) ≡ None =
    elim [ true ↦ λ e. e | false ↦ λ e. shift-none (place_of key (map key_of (take (suc i) xs))) (place_of-none_more key_of key xs i d (omega arith) (none-shift (place_of key (map key_of (take i xs))) e) other) ]
    in go (key_of x == key) none

found-step : (b : Bool) (k key : ℕ) (keys : List ℕ) (o : Option ℕ) (place : ℕ) → (k == key) ≡ b → ((q : ℕ) → o ≡ Some q → slice_get keys q ≡ Some key) → cond b (Some 0) (option_map suc o) ≡ Some place → slice_get (k ∷ keys) place ≡ Some key
found-step true k key keys o zero t ih e = ap (λ n. Some n) (eqb-true k key t)
found-step true k key keys o (suc place) t ih e = absurd (cc)
found-step false k key keys None place t ih e = absurd (cc)
found-step false k key keys (Some q) zero t ih e = absurd (cc)
found-step false k key keys (Some q) (suc place) t ih e = ih place (cc)

-- the key stands at its first place
pub place_of-found : (key : ℕ) (keys : List ℕ) (place : ℕ) → place_of key keys ≡ Some place → slice_get keys place ≡ Some key
place_of-found key [] place e = absurd (cc)
place_of-found key (k ∷ keys) place e = found-step (k == key) k key keys (place_of key keys) place refl (place_of-found key keys) e

remove-step : {X : Type 0} (b : Bool) (x : X) (xs ys : List X) (o : Option ℕ) (place : ℕ) → ((q : ℕ) → o ≡ Some q → remove xs q ≡ ys) → cond b (Some 0) (option_map suc o) ≡ Some place → remove (x ∷ xs) place ≡ cond b xs (x ∷ ys)
remove-step true x xs ys o zero ih e = refl
remove-step true x xs ys o (suc place) ih e = absurd (cc)
remove-step false x xs ys None place ih e = absurd (cc)
remove-step false x xs ys (Some q) zero ih e = absurd (cc)
remove-step false x xs ys (Some q) (suc place) ih e = ap (λ t. x ∷ t) (ih place (cc))

-- to remove the entry at the first place of a key is to remove the oldest of the key
pub remove-first_place : {X : Type 0} (key_of : X → ℕ) (key : ℕ) (entries : List X) (place : ℕ) → place_of key (map key_of entries) ≡ Some place → remove entries place ≡ without_oldest key_of key entries
remove-first_place key_of key [] place e = absurd (cc)
remove-first_place key_of key (x ∷ xs) place e = remove-step (key_of x == key) x xs (without_oldest key_of key xs) (place_of key (map key_of xs)) place (remove-first_place key_of key xs) e

-- a key that has no place is the key of no entry
pub of_key-no_place : {X : Type 0} (key_of : X → ℕ) (key : ℕ) (entries : List X) → place_of key (map key_of entries) ≡ None → of_key key_of key entries ≡ []
of_key-no_place key_of key [] e = refl
of_key-no_place key_of key (x ∷ xs) e =
    let go : (b : Bool) → cond b (Some 0) (option_map suc (place_of key (map key_of xs))) ≡ None → cond b (x ∷ of_key key_of key xs) (of_key key_of key xs) ≡ [] =
    elim [ true ↦ λ h. absurd (cc) | false ↦ λ h. of_key-no_place key_of key xs (none-shift (place_of key (map key_of xs)) h) ]
    in go (key_of x == key) e

-- to write an entry with the key of the one that stands there keeps all keys
pub map-set_same : {X : Type 0} (key_of : X → ℕ) (entries : List X) (place : ℕ) (entry : X) → slice_get (map key_of entries) place ≡ Some (key_of entry) → map key_of (slice_set entries place entry) ≡ map key_of entries
map-set_same key_of [] place entry e = refl
map-set_same key_of (x ∷ xs) zero entry e =
    let same : key_of x ≡ key_of entry = cc
    in ap (λ k. k ∷ map key_of xs) (sym same)
map-set_same key_of (x ∷ xs) (suc place) entry e = ap (λ ks. key_of x ∷ ks) (map-set_same key_of xs place entry e)

-- a write through the slice of all entries
pub refill-set : {X : Type 0} (entries written : List X) (place : ℕ) (entry : X) → written ≡ entries → refill (length entries) entries (slice_set written place entry) ≡ slice_set entries place entry
refill-set entries written place entry e = subst (λ (ys : List _). refill (length entries) entries (slice_set ys place entry) ≡ slice_set entries place entry) (sym e) (grind (arith, common_steps))
