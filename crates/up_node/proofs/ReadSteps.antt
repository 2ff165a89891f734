-- Read data over a round.
use Rattle.std.proofs.Common.{◌≡◌, ◌+◌, ◌≤◌, ◌==◌, ℕ, Bool, true, false, cond, List, [], ◌∷◌, ◌++◌, Some, length, map, refl, sym, ◌∙◌, ap, subst, inl, inr, arith}
use Rattle.std.specs.Prelude.{All, filter, find, slice_get}
use Rattle.std.proofs.lemmas.Bool.{cases_eq, eqb-true}
use Rattle.std.proofs.lemmas.List.{length-map, map-append}
use Rattle.std.proofs.lemmas.List.Elements.{All-append, All-cons, All-nil}
use Rattle.std.proofs.lemmas.Simd.{map-map}
use Rattle.axi_beats.specs.declared.beat.Addr.{Addr}
use Rattle.axi_beats.specs.declared.beat.RBeat.{RBeat}
use Rattle.axi_trail.proofs.HeldFacts.{count_of-replies, held-answer, held-of_key, held-request}
use Rattle.axi_trail.proofs.StepFacts.{answers_within, held-shown, next_answer}
use Rattle.axi_trail.proofs.WaitingFacts.{pending-place}
use Rattle.axi_trail.specs.LinkContracts.{OneIdAtATime, without_id}
use Rattle.axi_trail.specs.Schedule.{Share}
use Rattle.axi_trail.specs.Waiting.{Waiting, answered_once, beats_by, fresh, held, waiting_shown}
use Rattle.axi_trail.specs.Words.{Asked, InOrderOfId, Reply, beats_due, burst_asked, held_asked, id_of_address, id_of_asked, id_of_reply, id_of_waiting, len_of_asked, next_reply, number_of_address, number_of_asked, number_of_read_data, number_of_reply, read_reply}
use Rattle.burst_cuts.specs.Parts.{len_of_burst}
use Rattle.plain_lists.proofs.KeyLemmas.{of_key-map, of_key-push, of_key-push_other, place_in}
use Rattle.plain_lists.specs.Keys.{count_of, of_key}
use Rattle.plain_lists.specs.Prefixes.{IsPrefix}
use Rattle.up_node.proofs.DataSteps.{beats-shown, own-beats_shown, split-shown}
use Rattle.up_node.proofs.LaneLemmas.{moved-long}
use Rattle.up_node.proofs.MovedLemmas.{moved-push, next-shift}
use Rattle.up_node.proofs.OwnLemmas.{own-count}
use Rattle.up_node.specs.UpBeats.{beat_narrowed, beat_shift}
use Rattle.up_node.specs.UpCut.{all_shifts, moved_each}
use Rattle.up_node.specs.UpTable.{oldest_of_id}
use Rattle.up_node.specs.UpTrail.{without_lanes}
use Rattle.up_node.specs.declared.shape.UpShape.{UpShape}

abbrev pub id_of_read_data : RBeat → ℕ
id_of_read_data r = r.id

abbrev id_waits : Waiting Addr → ℕ
id_waits w = w.request.id

-- what is found is the first that passes
found-first : {X : Type 0} (test : X → Bool) (xs : List X) (x : X) → find test xs ≡ Some x → (others : List X) × (filter test xs ≡ x ∷ others) × (test x ≡ true)
found-first test [] x is = absurd (cc)
found-first {X} test (y ∷ ys) x is = go (test y) refl is (found-first test ys x)
  where
    go : (b : Bool) → test y ≡ b → cond b (Some y) (find test ys) ≡ Some x → (find test ys ≡ Some x → (others : List X) × (filter test ys ≡ x ∷ others) × (test x ≡ true)) →
        (others : List X) × (cond b (y ∷ filter test ys) (filter test ys) ≡ x ∷ others) × (test x ≡ true)
    go true passes found later =
        let same : y ≡ x = cc in
        (filter test ys, ap (λ (z : X). z ∷ filter test ys) same, ap test (sym same) ∙ passes)
    go false passes found later = later found

-- the IDs of the answers
pub ids-shown : (rs : List RBeat) → map id_of_reply (map read_reply rs) ≡ map id_of_read_data rs
ids-shown [] = refl
ids-shown (r ∷ rs) = ap (λ (is : List ℕ). r.id ∷ is) (ids-shown rs)

first-is : (w : Waiting Asked) (ws : List (Waiting Asked)) (v : Waiting Asked) (vs : List (Waiting Asked)) → w ∷ ws ≡ v ∷ vs → w ≡ v
first-is w ws v vs e = cc

module _ (shape : UpShape) (shares : ℕ → Share) where
  -- what of an up converter speaks of read data
  pub record ReadKeeps (entries : List (Waiting Addr)) (ar : List Addr) (upper lower : List RBeat) : Type 0 where
    pub same : map without_lanes upper ≡ map without_lanes lower
    pub moved : (t : ℕ) → of_key number_of_read_data t upper ≡ moved_each (beat_narrowed shape) (all_shifts shape (shares t).parts) (of_key number_of_read_data t lower)
    pub whole : All (λ (r : RBeat). length r.lanes ≡ 128) upper
    pub waits : entries ≡ held len_of_burst id_of_address ar (map id_of_read_data upper)

  module _ (entries : List (Waiting Addr)) (ar : List Addr) (upper lower : List RBeat) (keeps : ReadKeeps entries ar upper lower) where
    abbrev asked : List Asked
    asked = map burst_asked ar

    abbrev replies : List Reply
    replies = map read_reply upper

    -- what is told of answers is told of them without their bytes
    pub replies-same : map read_reply upper ≡ map read_reply lower
    replies-same = sym (map-map read_reply without_lanes upper) ∙ ap (map read_reply) keeps.same ∙ map-map read_reply without_lanes lower

    shown : held_asked asked replies ≡ map (waiting_shown burst_asked) entries
    shown =
        ap (held len_of_asked id_of_asked asked) (ids-shown upper) ∙ held-shown burst_asked len_of_asked id_of_asked ar (map id_of_read_data upper)
        ∙ ap (map (waiting_shown burst_asked)) (sym keeps.waits)

    -- one more address
    pub read-address : InOrderOfId asked replies → (a : Addr) → ReadKeeps (entries ++ fresh a ∷ []) (ar ++ a ∷ []) upper lower
    read-address order a =
        let few : count_of a.id (map id_of_read_data upper) ≤ beats_by len_of_burst (of_key id_of_address a.id ar) =
        let within = answers_within asked replies order a.id in
        let counts : count_of a.id (map id_of_reply replies) ≡ count_of a.id (map id_of_read_data upper) = ap (count_of a.id) (ids-shown upper) in
        let due : beats_due (of_key id_of_asked a.id asked) ≡ beats_by len_of_burst (of_key id_of_address a.id ar) =
        ap beats_due (of_key-map id_of_asked burst_asked a.id ar) ∙ beats-shown (of_key id_of_address a.id ar) in
        omega (arith, within, counts, due) in
        record {
          same = keeps.same;
          moved = keeps.moved;
          whole = keeps.whole;
          waits = ap (λ (es : List (Waiting Addr)). es ++ fresh a ∷ []) keeps.waits ∙ sym (held-request len_of_burst id_of_address ar (map id_of_read_data upper) a few);
        }

    module _ (one : OneIdAtATime shares asked replies) (order : InOrderOfId asked replies) (parts : (t : ℕ) → IsPrefix (map without_id (of_key number_of_address t ar)) (shares t).parts)
        (r : RBeat) (e : Waiting Addr) (oldest : oldest_of_id r.id entries ≡ Some e) (next : InOrderOfId asked (map read_reply lower ++ read_reply r ∷ [])) where
      abbrev shift : ℕ
      shift = beat_shift shape e.request e.done

      abbrev put : RBeat
      put = beat_narrowed shape shift r

      found : (others : List (Waiting Addr)) × (of_key id_waits r.id entries ≡ e ∷ others) × ((e.request.id == r.id) ≡ true)
      found = found-first (λ (entry : Waiting Addr). entry.request.id == r.id) entries e oldest

      own : e.request.id ≡ r.id
      own = eqb-true e.request.id r.id found.2

      first : of_key id_of_waiting r.id (held_asked asked replies) ≡ waiting_shown burst_asked e ∷ map (waiting_shown burst_asked) found.0
      first = ap (of_key id_of_waiting r.id) shown ∙ of_key-map id_of_waiting (waiting_shown burst_asked) r.id entries ∙ ap (map (waiting_shown burst_asked)) found.1

      answer : (w : Waiting Asked) × (others : List (Waiting Asked)) × (of_key id_of_waiting r.id (held_asked asked replies) ≡ w ∷ others) × (read_reply r ≡ next_reply w)
      answer = next_answer asked replies (read_reply r) (subst (λ (ps : List Reply). InOrderOfId asked (ps ++ read_reply r ∷ [])) (sym replies-same) next)

      number : r.tag.txn ≡ e.request.tag.txn
      number = ap (λ (p : Reply). p.number) answer.3 ∙ ap (λ (w : Waiting Asked). w.request.number) (first-is answer.0 answer.1 (waiting_shown burst_asked e) (map (waiting_shown burst_asked) found.0) (sym answer.2 ∙ first))

      -- its place among the requests of its ID, and among all
      among : (front : List Addr) × (back : List Addr) × (of_key id_of_address r.id ar ≡ front ++ e.request ∷ back) × (beats_by len_of_burst front + e.done ≡ count_of r.id (map id_of_read_data upper)) × (e.done ≤ e.request.len)
      among =
          pending-place len_of_burst (count_of r.id (map id_of_read_data upper)) (of_key id_of_address r.id ar) e found.0
          (sym (held-of_key len_of_burst id_of_address ar (map id_of_read_data upper) r.id) ∙ ap (of_key id_waits r.id) (sym keeps.waits) ∙ found.1)

      place : (left : List Addr) × (right : List Addr) × (ar ≡ left ++ e.request ∷ right) × (of_key id_of_address r.id left ≡ among.0)
      place = place_in id_of_address r.id ar among.0 e.request among.1 among.2

      counted : length (of_key number_of_read_data e.request.tag.txn upper) ≡ beats_by len_of_burst (of_key number_of_address e.request.tag.txn place.0) + e.done
      counted =
          let t = e.request.tag.txn in
          let by_id : beats_due (of_key id_of_asked r.id (map burst_asked place.0)) + e.done ≡ length (of_key id_of_reply r.id replies) =
          ap (λ n. n + e.done) (ap beats_due (of_key-map id_of_asked burst_asked r.id place.0) ∙ beats-shown (of_key id_of_address r.id place.0) ∙ ap (beats_by len_of_burst) place.3)
          ∙ among.3 ∙ sym (ap (count_of r.id) (ids-shown upper)) ∙ count_of-replies r.id replies in
          let answers : length (of_key number_of_reply t replies) ≡ beats_due (of_key number_of_asked t (map burst_asked place.0)) + e.done =
          own-count shares asked replies one order (map burst_asked place.0) (burst_asked e.request) (map burst_asked place.1) (split-shown ar place.0 e.request place.1 place.2) e.done among.4
          (subst (λ (i : ℕ). beats_due (of_key id_of_asked i (map burst_asked place.0)) + e.done ≡ length (of_key id_of_reply i replies)) (sym own) by_id)
          (map (waiting_shown burst_asked) found.0)
          (subst (λ (i : ℕ). of_key id_of_waiting i (held_asked asked replies) ≡ waiting_shown burst_asked e ∷ map (waiting_shown burst_asked) found.0) (sym own) first) in
          sym (length-map (of_key number_of_read_data t upper) read_reply) ∙ sym (ap (λ (ps : List Reply). length ps) (of_key-map number_of_reply read_reply t upper))
          ∙ answers ∙ ap (λ n. n + e.done) (own-beats_shown t place.0)

      -- as many beats of a transaction have come below as have gone on above
      many : (t : ℕ) → length (of_key number_of_read_data t lower) ≡ length (of_key number_of_read_data t upper)
      many t =
          sym (length-map (of_key number_of_read_data t lower) read_reply) ∙ sym (ap (λ (ps : List Reply). length ps) (of_key-map number_of_reply read_reply t lower))
          ∙ ap (λ (ps : List Reply). length (of_key number_of_reply t ps)) (sym replies-same)
          ∙ ap (λ (ps : List Reply). length ps) (of_key-map number_of_reply read_reply t upper) ∙ length-map (of_key number_of_read_data t upper) read_reply

      at : (t : ℕ) → t ≡ e.request.tag.txn → slice_get (all_shifts shape (shares t).parts) (length (of_key number_of_read_data t lower)) ≡ Some shift
      at t same =
          subst (λ (u : ℕ). slice_get (all_shifts shape (shares u).parts) (length (of_key number_of_read_data u lower)) ≡ Some shift) (sym same)
          (next-shift shape (shares e.request.tag.txn).parts ar place.0 e.request place.1 e.done (length (of_key number_of_read_data e.request.tag.txn lower)) (parts e.request.tag.txn) place.2 among.4
          (many e.request.tag.txn ∙ counted))

      moved-after : (t : ℕ) → of_key number_of_read_data t (upper ++ put ∷ []) ≡ moved_each (beat_narrowed shape) (all_shifts shape (shares t).parts) (of_key number_of_read_data t (lower ++ r ∷ []))
      moved-after t = elim (cases_eq r.tag.txn t) [
        | inl its ↦
            of_key-push number_of_read_data t upper put its ∙ ap (λ (xs : List RBeat). xs ++ put ∷ []) (keeps.moved t)
            ∙ sym (moved-push (beat_narrowed shape) (all_shifts shape (shares t).parts) (of_key number_of_read_data t lower) r shift (at t (sym its ∙ number)))
            ∙ sym (ap (moved_each (beat_narrowed shape) (all_shifts shape (shares t).parts)) (of_key-push number_of_read_data t lower r its))
        | inr other ↦
            of_key-push_other number_of_read_data t upper put other ∙ keeps.moved t
            ∙ sym (ap (moved_each (beat_narrowed shape) (all_shifts shape (shares t).parts)) (of_key-push_other number_of_read_data t lower r other))
      ]

      -- one more beat
      pub read-beat : ReadKeeps (answered_once len_of_burst id_of_address r.id entries) ar (upper ++ put ∷ []) (lower ++ r ∷ [])
      read-beat =
          let Whole : RBeat → Type 0 = λ x. length x.lanes ≡ 128 in
          record {
            same = map-append without_lanes upper (put ∷ []) ∙ ap (λ (rs : List RBeat). rs ++ without_lanes r ∷ []) keeps.same ∙ sym (map-append without_lanes lower (r ∷ []));
            moved = moved-after;
            whole = All-append Whole upper (put ∷ []) keeps.whole (All-cons Whole put [] (moved-long shape.narrow shift 0 r.lanes) (All-nil Whole));
            waits =
                ap (answered_once len_of_burst id_of_address r.id) keeps.waits
                ∙ sym (ap (held len_of_burst id_of_address ar) (map-append id_of_read_data upper (put ∷ [])) ∙ held-answer len_of_burst id_of_address ar (map id_of_read_data upper) r.id);
          }
