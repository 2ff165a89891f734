-- Beats that are moved, each by its shift.
use Rattle.std.proofs.Common.{◌≡◌, ◌+◌, ◌<◌, ◌≤◌, ℕ, suc, List, [], ◌∷◌, ◌++◌, Some, length, map, refl, sym, ◌∙◌, ap, subst, arith}
use Rattle.std.specs.Prelude.{flat_map, slice_get, zip}
use Rattle.std.specs.List.{range_with_len}
use Rattle.std.proofs.lemmas.List.{map-append}
use Rattle.std.proofs.lemmas.List.Concat.{flat_map-append}
use Rattle.std.proofs.lemmas.List.FromFn.{get_or-range_with_len, length-map-range_with_len, length-range_with_len}
use Rattle.std.proofs.lemmas.Option.{slice_get-get_or}
use Rattle.axi_beats.specs.declared.beat.Addr.{Addr}
use Rattle.axi_beats.specs.declared.beat.WBeat.{WBeat}
use Rattle.axi_trail.specs.LinkContracts.{without_id}
use Rattle.axi_trail.specs.Waiting.{beats_by}
use Rattle.axi_trail.specs.Words.{number_of_address}
use Rattle.burst_address.specs.Formulas.{beats_of}
use Rattle.burst_cuts.specs.Parts.{len_of_burst}
use Rattle.plain_lists.proofs.KeyLemmas.{of_key-append, of_key-cons}
use Rattle.plain_lists.proofs.PartLemmas.{zip-append}
use Rattle.plain_lists.proofs.PlaceLemmas.{front-at, map-has}
use Rattle.plain_lists.proofs.PrefixLemmas.{prefix_cons, prefix_nil}
use Rattle.plain_lists.specs.Keys.{of_key}
use Rattle.plain_lists.specs.Prefixes.{IsPrefix}
use Rattle.up_node.specs.UpBeats.{beat_shift, beat_widened}
use Rattle.up_node.specs.UpCut.{all_shifts, beat_shifts, data_widened, moved_each}
use Rattle.up_node.specs.declared.shape.UpShape.{UpShape}

pub zip-nil : {X Y : Type 0} (xs : List X) → zip {K = X} {X = Y} xs [] ≡ []
zip-nil [] = refl
zip-nil (x ∷ xs) = refl

module _ {X : Type 0} (moved : ℕ → X → X) where
  pub moved-nil : (shifts : List ℕ) → moved_each moved shifts [] ≡ []
  moved-nil [] = refl
  moved-nil (k ∷ ks) = refl

  -- one more
  pub moved-push : (shifts : List ℕ) (xs : List X) (x : X) (shift : ℕ) → slice_get shifts (length xs) ≡ Some shift → moved_each moved shifts (xs ++ x ∷ []) ≡ moved_each moved shifts xs ++ moved shift x ∷ []
  moved-push [] [] x shift at = absurd (cc)
  moved-push [] (y ∷ ys) x shift at = absurd (cc)
  moved-push (k ∷ ks) [] x shift at =
      let same : k ≡ shift = cc in
      ap (λ (t : List X). moved k x ∷ t) (moved-nil ks) ∙ ap (λ n. moved n x ∷ []) same
  moved-push (k ∷ ks) (y ∷ ys) x shift at = ap (λ (t : List X). moved k y ∷ t) (moved-push ks ys x shift at)

  -- the first ones
  pub moved-front : (shifts : List ℕ) (xs rest : List X) → IsPrefix (moved_each moved shifts xs) (moved_each moved shifts (xs ++ rest))
  moved-front [] xs rest = prefix_nil (moved_each moved [] (xs ++ rest))
  moved-front (k ∷ ks) [] rest = prefix_nil (moved_each moved (k ∷ ks) rest)
  moved-front (k ∷ ks) (x ∷ xs) rest = prefix_cons (moved k x) (moved-front ks xs rest)

  pub moved-prefix : (shifts : List ℕ) {xs ys : List X} → IsPrefix xs ys → IsPrefix (moved_each moved shifts xs) (moved_each moved shifts ys)
  moved-prefix shifts {xs} {ys} p = subst (λ (t : List X). IsPrefix (moved_each moved shifts xs) (moved_each moved shifts t)) (sym p.whole) (moved-front shifts xs p.rest)

  pub moved-append : (shifts more : List ℕ) (xs ys : List X) → length xs ≡ length shifts → moved_each moved (shifts ++ more) (xs ++ ys) ≡ moved_each moved shifts xs ++ moved_each moved more ys
  moved-append shifts more xs ys long = ap (map (λ p. moved p.0 p.1)) (zip-append shifts more xs ys long) ∙ map-append (λ (p : ℕ × X). moved p.0 p.1) (zip shifts xs) (zip more ys)

pub range-at : (n k : ℕ) → k < n → slice_get (range_with_len 0 n) k ≡ Some k
range-at n k lt =
    let within : k < length (range_with_len 0 n) = let long = length-range_with_len 0 n in omega (arith, long, lt) in
    slice_get-get_or (range_with_len 0 n) k 0 within ∙ ap (λ (i : ℕ). Some i) (get_or-range_with_len 0 n k 0 lt ∙ (let same : 0 + k ≡ k = omega arith in same))

behind-at : (xs ys : List ℕ) (k : ℕ) → slice_get (xs ++ ys) (length xs + k) ≡ slice_get ys k
behind-at [] ys k = ap (slice_get ys) (let same : 0 + k ≡ k = omega arith in same)
behind-at (x ∷ xs) ys k = ap (slice_get (x ∷ xs ++ ys)) (let next : suc (length xs) + k ≡ suc (length xs + k) = omega arith in next) ∙ behind-at xs ys k

module _ (shape : UpShape) where
  pub shifts-long : (a : Addr) → length (beat_shifts shape a) ≡ beats_of a
  shifts-long a = length-map-range_with_len (beat_shift shape a) 0 (beats_of a)

  -- the shift of a beat, behind those of the requests before it
  pub shift-at : (before : List Addr) (a : Addr) (after : List Addr) (done n : ℕ) → done ≤ a.len → n ≡ beats_by len_of_burst before + done →
      slice_get (all_shifts shape (before ++ a ∷ after)) n ≡ Some (beat_shift shape a done)
  shift-at [] a after done n le at =
      ap (slice_get (beat_shifts shape a ++ all_shifts shape after)) (let same : n ≡ done = omega (arith, at) in same)
      ∙ front-at (beat_shifts shape a) (all_shifts shape after) done (beat_shift shape a done)
      (map-has (beat_shift shape a) (range_with_len 0 (beats_of a)) done done (range-at (beats_of a) done (omega (arith, le))))
  shift-at (b ∷ before) a after done n le at =
      let place : n ≡ length (beat_shifts shape b) + (beats_by len_of_burst before + done) = omega (arith, at, shifts-long b) in
      ap (slice_get (beat_shifts shape b ++ all_shifts shape (before ++ a ∷ after))) place
      ∙ behind-at (beat_shifts shape b) (all_shifts shape (before ++ a ∷ after)) (beats_by len_of_burst before + done)
      ∙ shift-at before a after done (beats_by len_of_burst before + done) le refl

  -- IDs have no say
  without_ids : (xs : List Addr) → all_shifts shape (map without_id xs) ≡ all_shifts shape xs
  without_ids [] = refl
  without_ids (x ∷ xs) = ap (λ (t : List ℕ). beat_shifts shape x ++ t) (without_ids xs)

  -- the shift of a transaction's next beat, where its requests are the first of its parts
  pub next-shift : (parts xs before : List Addr) (a : Addr) (after : List Addr) (done n : ℕ) → IsPrefix (map without_id (of_key number_of_address a.tag.txn xs)) parts → xs ≡ before ++ a ∷ after →
      done ≤ a.len → n ≡ beats_by len_of_burst (of_key number_of_address a.tag.txn before) + done → slice_get (all_shifts shape parts) n ≡ Some (beat_shift shape a done)
  next-shift parts xs before a after done n p split le at =
      let t = a.tag.txn in
      let own : of_key number_of_address t xs ≡ of_key number_of_address t before ++ a ∷ of_key number_of_address t after =
      ap (of_key number_of_address t) split ∙ of_key-append number_of_address t before (a ∷ after)
      ∙ ap (λ (ys : List Addr). of_key number_of_address t before ++ ys) (of_key-cons number_of_address t a after refl) in
      let whole : all_shifts shape parts ≡ all_shifts shape (of_key number_of_address t before ++ a ∷ of_key number_of_address t after) ++ all_shifts shape p.rest =
      ap (all_shifts shape) p.whole ∙ flat_map-append (beat_shifts shape) (map without_id (of_key number_of_address t xs)) p.rest
      ∙ ap (λ (ks : List ℕ). ks ++ all_shifts shape p.rest) (without_ids (of_key number_of_address t xs) ∙ ap (all_shifts shape) own) in
      ap (λ (ks : List ℕ). slice_get ks n) whole
      ∙ front-at (all_shifts shape (of_key number_of_address t before ++ a ∷ of_key number_of_address t after)) (all_shifts shape p.rest) n (beat_shift shape a done)
      (shift-at (of_key number_of_address t before) a (of_key number_of_address t after) done n le at)

  -- the data of all parts, one beat after the other
  pub data-flat : (parts : List Addr) (data_of : List (List WBeat)) → map (λ (beats : List WBeat). length beats) data_of ≡ map beats_of parts →
      flat_map (λ (beats : List WBeat). beats) (data_widened shape parts data_of) ≡ moved_each (beat_widened shape) (all_shifts shape parts) (flat_map (λ (beats : List WBeat). beats) data_of)
  data-flat [] [] whole = refl
  data-flat [] (beats ∷ data_of) whole = absurd (cc)
  data-flat (a ∷ parts) [] whole = absurd (cc)
  data-flat (a ∷ parts) (beats ∷ data_of) whole =
      let here : length beats ≡ beats_of a = cc in
      let later : map (λ (beats : List WBeat). length beats) data_of ≡ map beats_of parts = cc in
      ap (λ (t : List WBeat). moved_each (beat_widened shape) (beat_shifts shape a) beats ++ t) (data-flat parts data_of later)
      ∙ sym (moved-append (beat_widened shape) (beat_shifts shape a) (all_shifts shape parts) beats (flat_map (λ (beats : List WBeat). beats) data_of) (here ∙ sym (shifts-long a)))
