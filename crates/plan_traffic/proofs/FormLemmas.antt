-- What is known of a burst that a line asks for.
use Rattle.std.proofs.Common.{◌≡◌, ℕ, ◌+◌, ◌-◌, ◌*◌, ◌^◌, ◌<◌, ◌≤◌, ◌==◌, ◌&&◌, Bool, true, false, cond, List, [], ◌∷◌, Option, Some, None, drop, length, zero, suc, nat_lt, nat_le, nat_eq, refl, sym, ◌∙◌, ap, subst, arith}
use Rattle.std.specs.Prelude.{All, IfSome, codes}
use Rattle.std.specs.List.{list_all, starts_with}
use Rattle.std.specs.Option.{option_and_then}
use Rattle.std.specs.Str.{bytes_eq}
use Rattle.std.specs.Str.Parse.{digits_value}
use Rattle.std.proofs.lemmas.Bool.{and_parts, eqb-true, eqb-false, ltb-true}
use Rattle.std.proofs.lemmas.List.{length-append}
use Rattle.std.proofs.lemmas.List.Concat.{flat_map-cons}
use Rattle.std.proofs.lemmas.List.Elements.{All-append, All-cons, All-nil}
use Rattle.manager_node.specs.declared.script.WriteByte.{WriteByte}
use Rattle.plain_text.specs.Numbers.{is_numeral, number_in, read_byte_pair, read_decimal, read_hexadecimal}
use Rattle.plain_text.specs.Words.{words, next_word, has_no_word}
use Rattle.plan_traffic.specs.Data.{are_pairs, are_data_words, data_bytes, is_data_word, is_pair, lane_byte, pair_byte, word_bytes}
use Rattle.plan_traffic.specs.Line.{Access, Line, Start, Passed, Waits, Asks, at_end, beats_named, burst_named, first_pairs, is_passed, form_by, other_pairs, said_by, size_named, start_of, write_with, line_said, form_said, read_said, wait_said, write_said}

-- ---- optional values

bind : {A B : Type 0} (o : Option A) (f : A → Option B) (P : A → Type 0) (Q : B → Type 0) → IfSome o P → ((a : A) → P a → IfSome (f a) Q) → IfSome (option_and_then f o) Q
bind None f P Q known each = tt
bind (Some a) f P Q known each = each a known

free : {A : Type 0} (o : Option A) → IfSome o (λ _. Unit {0})
free None = tt
free (Some a) = tt

-- what is taken where a test passes
where-true : {A : Type 0} (b : Bool) (a : A) (P : A → Type 0) → (b ≡ true → P a) → IfSome (cond b (Some a) None) P
where-true true a P known = known refl
where-true false a P known = tt

where-false : {A : Type 0} (b : Bool) (a : A) (P : A → Type 0) → (b ≡ false → P a) → IfSome (cond b None (Some a)) P
where-false true a P known = tt
where-false false a P known = known refl

-- ---- numbers

number-below : (digits : List ℕ) (base limit : ℕ) → IfSome (number_in digits base limit) (λ n. n < limit)
unfolding number_in
number-below digits base limit =
    where-true (is_numeral digits base && nat_lt (digits_value base digits) limit) (digits_value base digits) (λ n. n < limit) (λ e.
    ltb-true (digits_value base digits) limit (and_parts (is_numeral digits base) (nat_lt (digits_value base digits) limit) e).1)

hexadecimal-below : (word : List ℕ) (limit : ℕ) → IfSome (read_hexadecimal word limit) (λ n. n < limit)
unfolding read_hexadecimal
hexadecimal-below word limit =
    elim (nat_le (length word) 18 && starts_with nat_eq word (codes "0x")) as (λ b. IfSome (cond b (number_in (drop 2 word) 16 limit) None) (λ n. n < limit)) [
      | true ↦ number-below (drop 2 word) 16 limit
      | false ↦ tt
    ]

positive : (n : ℕ) → (n ≡ 0 → ⊥) → 0 < n
positive zero apart = absurd (apart refl)
positive (suc n) apart = omega arith

beats-some : (word : List ℕ) → IfSome (beats_named word) (λ beats. 0 < beats)
unfolding beats_named
beats-some word =
    bind (read_decimal word (2 ^ 32)) (λ count. cond (count == 0) None (Some count)) (λ _. Unit {0}) (λ beats. 0 < beats) (free (read_decimal word (2 ^ 32)))
    (λ count _. where-false (count == 0) count (λ beats. 0 < beats) (λ e. positive count (eqb-false count 0 e)))

-- ---- data words

-- a word has twice as many characters as bytes
word-length : (word : List ℕ) → are_pairs word ≡ true → length word ≡ 2 * length (word_bytes word)
word-length [] e = refl
word-length (single ∷ []) e = absurd (cc)
word-length (high ∷ low ∷ more) e =
    let rest : length more ≡ 2 * length (word_bytes more) = word-length more (and_parts (is_pair high low) (are_pairs more) e).1 in
    omega arith

data-word : (pairs : ℕ) (word : List ℕ) → is_data_word pairs word ≡ true → length (word_bytes word) ≡ pairs
data-word pairs word e =
    let parts = and_parts (length word == 2 * pairs) (are_pairs word) e in
    let long : length word ≡ 2 * pairs = eqb-true (length word) (2 * pairs) parts.0 in
    let bytes : length word ≡ 2 * length (word_bytes word) = word-length word parts.1 in
    omega arith

data-length : (pairs : ℕ) (lanes : List (List ℕ)) → list_all (is_data_word pairs) lanes ≡ true → length (data_bytes lanes) ≡ length lanes * pairs
data-length pairs [] e = let none : 0 ≡ 0 * pairs = omega arith in none
data-length pairs (word ∷ more) e =
    let parts = and_parts (is_data_word pairs word) (list_all (is_data_word pairs) more) e in
    let here : length (word_bytes word) ≡ pairs = data-word pairs word parts.0 in
    let rest : length (data_bytes more) ≡ length more * pairs = data-length pairs more parts.1 in
    let sum : length (data_bytes (word ∷ more)) ≡ length (word_bytes word) + length (data_bytes more) = ap length (flat_map-cons word_bytes word more) ∙ length-append (word_bytes word) (data_bytes more) in
    let longer : length (word ∷ more) * pairs ≡ pairs + length more * pairs = omega arith in
    omega arith

words-length : (first other : ℕ) (lanes : List (List ℕ)) → are_data_words first other lanes ≡ true → (0 < length lanes) × (length (data_bytes lanes) ≡ first + (length lanes - 1) * other)
words-length first other [] e = absurd (cc)
words-length first other (word ∷ more) e =
    let parts = and_parts (is_data_word first word) (list_all (is_data_word other) more) e in
    let here : length (word_bytes word) ≡ first = data-word first word parts.0 in
    let rest : length (data_bytes more) ≡ length more * other = data-length other more parts.1 in
    let sum : length (data_bytes (word ∷ more)) ≡ length (word_bytes word) + length (data_bytes more) = ap length (flat_map-cons word_bytes word more) ∙ length-append (word_bytes word) (data_bytes more) in
    let fewer : length (word ∷ more) - 1 ≡ length more = omega arith in
    let scaled : (length (word ∷ more) - 1) * other ≡ length more * other = ap (λ n. n * other) fewer in
    (omega arith, omega arith)

-- a pair says a byte
pair-value : (o : Option ℕ) → IfSome o (λ n. n < 256) → (lane_byte o).value < 256
pair-value None below = omega arith
pair-value (Some value) below = below

pair-below : (high low : ℕ) → IfSome (read_byte_pair (high ∷ low ∷ [])) (λ n. n < 256)
unfolding read_byte_pair
pair-below high low = number-below (high ∷ low ∷ []) 16 256

pair-byte : (high low : ℕ) → (pair_byte high low).value < 256
unfolding pair_byte
pair-byte high low = pair-value (read_byte_pair (high ∷ low ∷ [])) (pair-below high low)

word-values : (word : List ℕ) → All (λ (byte : WriteByte). byte.value < 256) (word_bytes word)
word-values [] = All-nil (λ (byte : WriteByte). byte.value < 256)
word-values (single ∷ []) = All-nil (λ (byte : WriteByte). byte.value < 256)
word-values (high ∷ low ∷ more) = All-cons (λ (byte : WriteByte). byte.value < 256) (pair_byte high low) (word_bytes more) (pair-byte high low) (word-values more)

data-values : (lanes : List (List ℕ)) → All (λ (byte : WriteByte). byte.value < 256) (data_bytes lanes)
data-values [] = All-nil (λ (byte : WriteByte). byte.value < 256)
data-values (word ∷ more) =
    subst (All (λ (byte : WriteByte). byte.value < 256)) (sym (flat_map-cons word_bytes word more))
    (All-append (λ (byte : WriteByte). byte.value < 256) (word_bytes word) (data_bytes more) (word-values word) (data-values more))

-- ---- lines

-- an address below 2 ^ 63, one beat or more, and for a write a byte for each pair of its data words
pub record IsForm (access : Access) : Type 0 where
  pub addr : access.start.addr < 2 ^ 63
  pub size : access.start.size ≤ 7
  pub some : 0 < access.beats
  pub bytes : length access.bytes ≡ cond access.write (first_pairs access.start + (access.beats - 1) * other_pairs access.start) 0
  pub values : All (λ (byte : WriteByte). byte.value < 256) access.bytes

abbrev pub IsFormLine : Line → Type 0
IsFormLine Passed = Unit {0}
IsFormLine (Waits name) = Unit {0}
IsFormLine (Asks access) = IsForm access

-- where a burst starts, and how many bytes its beats have
abbrev IsStart : Start → Type 0
IsStart start = (start.addr < 2 ^ 63) × (start.size ≤ 7)

choose : {A : Type 0} (b : Bool) (x y : Option A) (P : A → Type 0) → IfSome x P → IfSome y P → IfSome (cond b x y) P
choose true x y P h k = h
choose false x y P h k = k

size-most : (word : List ℕ) → IfSome (size_named word) (λ size. size ≤ 7)
unfolding size_named
size-most word =
    or_next 0 (codes "1") _ (omega arith) (or_next 1 (codes "2") _ (omega arith) (or_next 2 (codes "4") _ (omega arith) (or_next 3 (codes "8") _ (omega arith)
    (or_next 4 (codes "16") _ (omega arith) (or_next 5 (codes "32") _ (omega arith) (or_next 6 (codes "64") _ (omega arith) (or_next 7 (codes "128") None (omega arith) tt)))))))
  where
    or_next : (size : ℕ) (name : List ℕ) (other : Option ℕ) → size ≤ 7 → IfSome other (λ n. n ≤ 7) → IfSome (cond (bytes_eq word name) (Some size) other) (λ n. n ≤ 7)
    or_next size name other small else_small = choose (bytes_eq word name) (Some size) other (λ n. n ≤ 7) small else_small

start-form : (line : List (List ℕ)) → IfSome (start_of line) (λ found. IsStart found.0)
unfolding start_of
start-form line =
    bind (next_word line) _ (λ _. Unit {0}) _ (free (next_word line)) (λ manager _.
    bind (next_word manager.1) _ (λ _. Unit {0}) _ (free (next_word manager.1)) (λ id_word _.
    bind (read_decimal id_word.0 (2 ^ 32)) _ (λ _. Unit {0}) _ (free (read_decimal id_word.0 (2 ^ 32))) (λ id _.
    bind (next_word id_word.1) _ (λ _. Unit {0}) _ (free (next_word id_word.1)) (λ addr_word _.
    bind (read_hexadecimal addr_word.0 (2 ^ 63)) _ (λ n. n < 2 ^ 63) _ (hexadecimal-below addr_word.0 (2 ^ 63)) (λ addr below.
    bind (next_word addr_word.1) _ (λ _. Unit {0}) _ (free (next_word addr_word.1)) (λ size_word _.
    bind (size_named size_word.0) _ (λ size. size ≤ 7) _ (size-most size_word.0) (λ size small.
    bind (next_word size_word.1) _ (λ _. Unit {0}) _ (free (next_word size_word.1)) (λ burst_word _.
    bind (burst_named burst_word.0) _ (λ _. Unit {0}) _ (free (burst_named burst_word.0)) (λ burst _. (below, small))))))))))

write-form : (line : List (List ℕ)) → IfSome (write_said line) IsFormLine
unfolding write_said
write-form line =
    bind (start_of line) (λ start. write_with start.0 start.1) (λ found. IsStart found.0) IsFormLine (start-form line) (λ start below.
    where-true (are_data_words (first_pairs start.0) (other_pairs start.0) start.1) (Asks (record { start = start.0; write = true; beats = length start.1; bytes = data_bytes start.1 })) IsFormLine (λ e.
    let long = words-length (first_pairs start.0) (other_pairs start.0) start.1 e in
    record { addr = below.0; size = below.1; some = long.0; bytes = long.1; values = data-values start.1 }))

read-form : (line : List (List ℕ)) → IfSome (read_said line) IsFormLine
unfolding read_said
read-form line =
    bind (start_of line) _ (λ found. IsStart found.0) IsFormLine (start-form line) (λ start below.
    bind (next_word start.1) _ (λ _. Unit {0}) IsFormLine (free (next_word start.1)) (λ count_word _.
    bind (beats_named count_word.0) _ (λ beats. 0 < beats) IsFormLine (beats-some count_word.0) (λ beats some.
    where-true (has_no_word count_word.1) (Asks (record { start = start.0; write = false; beats = beats; bytes = [] })) IsFormLine (λ e.
    record { addr = below.0; size = below.1; some = some; bytes = refl; values = All-nil (λ (byte : WriteByte). byte.value < 256) }))))

wait-form : (line : List (List ℕ)) → IfSome (wait_said line) IsFormLine
unfolding wait_said
wait-form line =
    bind (next_word line) (λ manager. at_end (Waits manager.0) manager.1) (λ _. Unit {0}) IsFormLine (free (next_word line)) (λ manager _.
    where-true (has_no_word manager.1) (Waits manager.0) IsFormLine (λ e. tt))

form-of : (line : List (List ℕ)) → IfSome (form_said line) IsFormLine
unfolding form_said
form-of line =
    bind (next_word line) (λ verb. form_by verb.0 verb.1) (λ _. Unit {0}) IsFormLine (free (next_word line)) (λ verb _.
    choose (bytes_eq verb.0 (codes "write")) (write_said verb.1) _ IsFormLine (write-form verb.1)
    (choose (bytes_eq verb.0 (codes "read")) (read_said verb.1) _ IsFormLine (read-form verb.1)
    (choose (bytes_eq verb.0 (codes "wait")) (wait_said verb.1) None IsFormLine (wait-form verb.1) tt)))

-- what a line says has a form
pub line-form : (line : List ℕ) → IfSome (line_said line) IsFormLine
unfolding said_by
line-form line = choose (is_passed (words line)) (Some Passed) (form_said (words line)) IsFormLine tt (form-of (words line))
