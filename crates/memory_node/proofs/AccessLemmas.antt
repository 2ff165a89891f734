-- The accesses of a transaction among all, and what accesses leave behind.
use Rattle.std.proofs.Common.{◌≡◌, ◌≢◌, ℕ, ◌==◌, ◌&&◌, ◌<◌, Bool, true, false, not, cond, List, [], ◌∷◌, ◌++◌, map, refl, sym, ◌∙◌, ap, subst, arith, inl, inr, eq-eqb}
use Rattle.std.specs.Bool.{beq}
use Rattle.std.specs.List.{AllByRecursion}
use Rattle.std.proofs.lemmas.Bool.{cases_eq, ne_eqb}
use Rattle.std.proofs.lemmas.List.Elements.{filter-append}
use Rattle.axi_trail.specs.Schedule.{Share, ComesBefore}
use Rattle.memory_node.specs.Accesses.{accesses_of, writes_at}
use Rattle.memory_node.specs.Events.{Access, accesses}
use Rattle.memory_node.specs.MemoryTrail.{AccessesInOrder}
use Rattle.plain_lists.proofs.KeyLemmas.{filter_cons, filter_skip}
use Rattle.plain_lists.proofs.PartLemmas.{split_append}
use Rattle.burst_address.specs.Bytes.{Byte}
use Rattle.burst_address.specs.Accesses.{value_after}

-- the test of an access
abbrev is_of : Bool → ℕ → Access → Bool
is_of write number a = beq a.write write && a.number == number

pub accesses_of-append : (write : Bool) (number : ℕ) (all more : List Access) → accesses_of write number (all ++ more) ≡ accesses_of write number all ++ accesses_of write number more
accesses_of-append write number all more = filter-append (is_of write number) all more

is_of-own : (write : Bool) (number : ℕ) (byte : Byte) → is_of write number (record { number = number; byte = byte; write = write }) ≡ true
is_of-own true number byte = eq-eqb number number refl
is_of-own false number byte = eq-eqb number number refl

is_of-other : (write other : Bool) (number n : ℕ) (byte : Byte) → n ≢ number → is_of write number (record { number = n; byte = byte; write = other }) ≡ false
is_of-other true true number n byte ne = ne_eqb n number ne
is_of-other true false number n byte ne = refl
is_of-other false true number n byte ne = refl
is_of-other false false number n byte ne = ne_eqb n number ne

is_of-opposite : (write : Bool) (number n : ℕ) (byte : Byte) → is_of (not write) number (record { number = n; byte = byte; write = write }) ≡ false
is_of-opposite true number n byte = refl
is_of-opposite false number n byte = refl

-- the accesses of a beat are all of one transaction and in one direction
pub accesses_of-own : (write : Bool) (number : ℕ) (bytes : List Byte) → accesses_of write number (accesses number write bytes) ≡ accesses number write bytes
accesses_of-own write number [] = refl
accesses_of-own write number (b ∷ bytes) =
    filter_cons (is_of write number) (record { number = number; byte = b; write = write }) (accesses number write bytes) (is_of-own write number b)
    ∙ ap (λ t. record { number = number; byte = b; write = write } ∷ t) (accesses_of-own write number bytes)

pub accesses_of-other : (write other : Bool) (number n : ℕ) (bytes : List Byte) → n ≢ number → accesses_of write number (accesses n other bytes) ≡ []
accesses_of-other write other number n [] ne = refl
accesses_of-other write other number n (b ∷ bytes) ne =
    filter_skip (is_of write number) (record { number = n; byte = b; write = other }) (accesses n other bytes) (is_of-other write other number n b ne)
    ∙ accesses_of-other write other number n bytes ne

pub accesses_of-opposite : (write : Bool) (number n : ℕ) (bytes : List Byte) → accesses_of (not write) number (accesses n write bytes) ≡ []
accesses_of-opposite write number n [] = refl
accesses_of-opposite write number n (b ∷ bytes) =
    filter_skip (is_of (not write) number) (record { number = n; byte = b; write = write }) (accesses n write bytes) (is_of-opposite write number n b)
    ∙ accesses_of-opposite write number n bytes

pub bytes-of_accesses : (number : ℕ) (write : Bool) (bytes : List Byte) → map (λ (a : Access). a.byte) (accesses number write bytes) ≡ bytes
bytes-of_accesses number write [] = refl
bytes-of_accesses number write (b ∷ bytes) = ap (λ t. b ∷ t) (bytes-of_accesses number write bytes)

-- what each read of a beat is like
pub record IsReadOf (P : Byte → Type 0) (number : ℕ) (a : Access) : Type 0 where
  pub read : a.write ≡ false
  pub own : a.number ≡ number
  pub byte : P a.byte

pub reads-are : (P : Byte → Type 0) (number : ℕ) (bytes : List Byte) → AllByRecursion P bytes → AllByRecursion (IsReadOf P number) (accesses number false bytes)
reads-are P number [] all = tt
reads-are P number (b ∷ bytes) all = (record { read = refl; own = refl; byte = all.0 }, reads-are P number bytes all.1)

-- reads change nothing
pub value_after-reads : (P : Byte → Type 0) (number address before : ℕ) (reads : List Access) → AllByRecursion (IsReadOf P number) reads → value_after (writes_at address) (λ (a : Access). a.byte.value) before reads ≡ before
value_after-reads P number address before [] all = refl
value_after-reads P number address before (a ∷ reads) all =
    ap (λ b. value_after (writes_at address) (λ (a : Access). a.byte.value) (cond (b && a.byte.address == address) a.byte.value before) reads) (all.0.read)
    ∙ value_after-reads P number address before reads all.1

-- what holds of each element holds at a place, and of those before it
pub all_at : {X : Type 0} (P : X → Type 0) (before : List X) (x : X) (after : List X) → AllByRecursion P (before ++ x ∷ after) → (P x) × (AllByRecursion P before)
all_at P [] x after all = (all.0, tt)
all_at P (b ∷ before) x after all = (let rest : (P x) × (AllByRecursion P before) = all_at P before x after all.1 in (rest.0, (all.0, rest.1)))

pub tail-none : {X : Type 0} (b : Bool) (x : X) (rest : List X) → cond b (x ∷ rest) rest ≡ [] → rest ≡ []
tail-none true x rest none = absurd (cc)
tail-none false x rest none = none

nowhere : (write : Bool) (number : ℕ) (before : List Access) (a : Access) (after : List Access) → is_of write number a ≡ true → accesses_of write number (before ++ a ∷ after) ≡ [] → ⊥
nowhere write number [] a after passes none =
    let both : a ∷ accesses_of write number after ≡ [] = sym (filter_cons (is_of write number) a after passes) ∙ none in
    cc
nowhere write number (b ∷ before) a after passes none =
    let go : (t : Bool) → cond t (b ∷ accesses_of write number (before ++ a ∷ after)) (accesses_of write number (before ++ a ∷ after)) ≡ [] → ⊥ =
    elim [ true ↦ λ e. cc | false ↦ λ e. nowhere write number before a after passes e ]
    in go (is_of write number b) none

-- an access is among those of its transaction
pub stands_among : (write : Bool) (number : ℕ) (all before : List Access) (a : Access) (after : List Access) → all ≡ before ++ a ∷ after → a.write ≡ write → a.number ≡ number → accesses_of write number all ≡ [] → ⊥
stands_among write number all before a after e way own none =
    let passes : is_of write number a ≡ true = ap (λ b. beq b write && a.number == number) way ∙ ap (λ n. beq write write && n == number) own ∙ is_of-own write number a.byte in
    nowhere write number before a after passes (sym (ap (accesses_of write number) e) ∙ none)

-- the accesses of a beat keep the order of the chains, where nothing is accessed yet of a later transaction
pub order-more : (shares : ℕ → Share) (write : Bool) (all : List Access) (number : ℕ) (bytes : List Byte) →
    ((after : ℕ) → ComesBefore shares number after → accesses_of write after all ≡ []) → AccessesInOrder shares write all → AccessesInOrder shares write (all ++ accesses number write bytes)
order-more shares write all number bytes none order before after chain earlier later a e way own = elim (split_append all (accesses number write bytes) earlier a later e) [
  | inl old ↦
      let few : accesses_of write before old.0 ≡ [] = order before after chain earlier old.0 a old.1 way own in
      let new : accesses_of write before (accesses number write bytes) ≡ [] = elim (cases_eq number before) [
        | inr ne ↦ accesses_of-other write write before number bytes ne
        | inl same ↦ absurd (stands_among write after all earlier a old.0 old.1 way own (none after (subst (λ (n : ℕ). ComesBefore shares n after) (sym same) chain)))
      ] in
      ap (accesses_of write before) old.2 ∙ accesses_of-append write before old.0 (accesses number write bytes) ∙ ap (λ t. t ++ accesses_of write before (accesses number write bytes)) few ∙ new
  | inr new ↦
      let mine : a.number ≡ number = number-of new.0 a later (subst (λ (t : List Access). AllByRecursion (λ (a : Access). a.number ≡ number) t) new.1 (numbers bytes)) in
      let differ : number ≢ before = λ same. let lt : before < after = chain.0 in absurd (omega arith) in
      tail-of new.0 (accesses_of-other write write before number bytes differ) new.1
]
  where
    numbers : (bytes : List Byte) → AllByRecursion (λ (a : Access). a.number ≡ number) (accesses number write bytes)
    numbers [] = tt
    numbers (b ∷ bytes) = (refl, numbers bytes)

    number-of : (mid : List Access) (a : Access) (later : List Access) → AllByRecursion (λ (a : Access). a.number ≡ number) (mid ++ a ∷ later) → a.number ≡ number
    number-of mid a later all = (all_at (λ (a : Access). a.number ≡ number) mid a later all).0

    right-empty : (xs ys : List Access) → xs ++ ys ≡ [] → ys ≡ []
    right-empty [] ys e = e
    right-empty (x ∷ xs) ys e = absurd (cc)

    tail-of : (mid : List Access) → accesses_of write before (accesses number write bytes) ≡ [] → accesses number write bytes ≡ mid ++ a ∷ later → accesses_of write before later ≡ []
    tail-of mid empty e =
        tail-none (is_of write before a) a (accesses_of write before later)
        (right-empty (accesses_of write before mid) (accesses_of write before (a ∷ later)) (sym (accesses_of-append write before mid (a ∷ later)) ∙ sym (ap (accesses_of write before) e) ∙ empty))

-- accesses in the other direction keep it too
pub order-other : (shares : ℕ → Share) (write : Bool) (all : List Access) (number : ℕ) (bytes : List Byte) → AccessesInOrder shares (not write) all → AccessesInOrder shares (not write) (all ++ accesses number write bytes)
order-other shares write all number bytes order before after chain earlier later a e way own = elim (split_append all (accesses number write bytes) earlier a later e) [
  | inl old ↦
      ap (accesses_of (not write) before) old.2 ∙ accesses_of-append (not write) before old.0 (accesses number write bytes)
      ∙ ap (λ t. t ++ accesses_of (not write) before (accesses number write bytes)) (order before after chain earlier old.0 a old.1 way own)
      ∙ accesses_of-opposite write before number bytes
  | inr new ↦ absurd (stands_among (not write) after (accesses number write bytes) new.0 a later new.1 way own (accesses_of-opposite write after number bytes))
]

pub addresses-of_accesses : (number : ℕ) (write : Bool) (bytes : List Byte) → map (λ (a : Access). a.byte.address) (accesses number write bytes) ≡ map (λ (b : Byte). b.address) bytes
addresses-of_accesses number write [] = refl
addresses-of_accesses number write (b ∷ bytes) = ap (λ t. b.address ∷ t) (addresses-of_accesses number write bytes)

pub values-of_accesses : (number : ℕ) (write : Bool) (bytes : List Byte) → map (λ (a : Access). a.byte.value) (accesses number write bytes) ≡ map (λ (b : Byte). b.value) bytes
values-of_accesses number write [] = refl
values-of_accesses number write (b ∷ bytes) = ap (λ t. b.value ∷ t) (values-of_accesses number write bytes)

pub nil-of_map : {X Y : Type 0} (f : X → Y) (xs : List X) → map f xs ≡ [] → xs ≡ []
nil-of_map f [] e = refl
nil-of_map f (x ∷ xs) e = absurd (cc)
