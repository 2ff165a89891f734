-- Write data over a round.
use Rattle.std.proofs.Common.{◌≡◌, ◌+◌, ◌≤◌, ℕ, suc, List, [], ◌∷◌, ◌++◌, Some, length, map, refl, sym, ◌∙◌, ap, subst, inl, inr, arith, length-append}
use Rattle.std.specs.Prelude.{slice_get}
use Rattle.std.proofs.lemmas.Bool.{cases_eq}
use Rattle.std.proofs.lemmas.List.{length-map, map-append}
use Rattle.axi_beats.specs.declared.beat.Addr.{Addr}
use Rattle.axi_beats.specs.declared.beat.WBeat.{WBeat}
use Rattle.axi_trail.proofs.FilterFacts.{length-marks}
use Rattle.axi_trail.proofs.PlaceFacts.{own_up_to}
use Rattle.axi_trail.proofs.StepFacts.{beat_keeps_order, next_beat, pending-shown}
use Rattle.axi_trail.proofs.WaitingFacts.{pending-beat, pending-place, pending-request}
use Rattle.axi_trail.specs.LinkContracts.{without_id}
use Rattle.axi_trail.specs.Waiting.{Waiting, advanced, beats_by, fresh, pending, waiting_shown}
use Rattle.axi_trail.specs.Words.{Asked, Mark, beats_due, burst_asked, len_of_asked, mark_of_data, marks, marks_of, next_mark, number_of_address, number_of_asked, number_of_data, number_of_mark, pending_asked}
use Rattle.burst_cuts.specs.Parts.{len_of_burst}
use Rattle.plain_lists.proofs.KeyLemmas.{of_key-map, of_key-push, of_key-push_other}
use Rattle.plain_lists.proofs.PrefixLemmas.{prefix_append, prefix_flat_map, prefix_length, prefix_map, prefix_same, prefix_trans}
use Rattle.plain_lists.specs.Keys.{of_key}
use Rattle.plain_lists.specs.Prefixes.{Agree, IsPrefix}
use Rattle.up_node.proofs.MovedLemmas.{moved-push, next-shift}
use Rattle.up_node.specs.UpBeats.{beat_shift, beat_widened}
use Rattle.up_node.specs.UpCut.{all_shifts, moved_each}
use Rattle.up_node.specs.declared.shape.UpShape.{UpShape}

pub beats-shown : (xs : List Addr) → beats_due (map burst_asked xs) ≡ beats_by len_of_burst xs
beats-shown [] = refl
beats-shown (x ∷ xs) = ap (λ n. suc x.len + n) (beats-shown xs)

-- the beats of a transaction's requests
pub own-beats_shown : (t : ℕ) (xs : List Addr) → beats_due (of_key number_of_asked t (map burst_asked xs)) ≡ beats_by len_of_burst (of_key number_of_address t xs)
own-beats_shown t xs = ap beats_due (of_key-map number_of_asked burst_asked t xs) ∙ beats-shown (of_key number_of_address t xs)

-- a split of addresses is one of what they show
pub split-shown : (xs before : List Addr) (a : Addr) (after : List Addr) → xs ≡ before ++ a ∷ after → map burst_asked xs ≡ map burst_asked before ++ burst_asked a ∷ map burst_asked after
split-shown xs before a after split = ap (map burst_asked) split ∙ map-append burst_asked before (a ∷ after)

module _ (shape : UpShape) (parts_of : ℕ → List Addr) where
  -- what of an up converter speaks of write data
  pub record DataKeeps (entries : List (Waiting Addr)) (aw : List Addr) (upper lower : List WBeat) : Type 0 where
    pub same : map mark_of_data lower ≡ map mark_of_data upper
    pub moved : (t : ℕ) → of_key number_of_data t lower ≡ moved_each (beat_widened shape) (all_shifts shape (parts_of t)) (of_key number_of_data t upper)
    pub in_order : IsPrefix (map mark_of_data upper) (marks (map burst_asked aw))
    pub waits : entries ≡ pending len_of_burst (length upper) aw

  module _ (e : Waiting Addr) (es : List (Waiting Addr)) (aw : List Addr) (upper lower : List WBeat) (keeps : DataKeeps (e ∷ es) aw upper lower)
      (asked : (t : ℕ) → IsPrefix (map without_id (of_key number_of_address t aw)) (parts_of t)) (w : WBeat) (agree : Agree (map mark_of_data (upper ++ w ∷ [])) (marks (map burst_asked aw))) where
    abbrev shift : ℕ
    shift = beat_shift shape e.request e.done

    abbrev put : WBeat
    put = beat_widened shape shift w

    place : (before : List Addr) × (after : List Addr) × (aw ≡ before ++ e.request ∷ after) × (beats_by len_of_burst before + e.done ≡ length upper) × (e.done ≤ e.request.len)
    place = pending-place len_of_burst (length upper) aw e es (sym keeps.waits)

    first : pending_asked (length (map mark_of_data upper)) (map burst_asked aw) ≡ waiting_shown burst_asked e ∷ map (waiting_shown burst_asked) es
    first =
        ap (λ n. pending_asked n (map burst_asked aw)) (length-map upper mark_of_data) ∙ pending-shown burst_asked len_of_asked (length upper) aw
        ∙ ap (map (waiting_shown burst_asked)) (sym keeps.waits)

    mark : mark_of_data w ≡ next_mark (waiting_shown burst_asked e)
    mark =
        next_beat (map burst_asked aw) (map mark_of_data upper) (mark_of_data w) (waiting_shown burst_asked e) (map (waiting_shown burst_asked) es)
        (subst (λ (ms : List Mark). Agree ms (marks (map burst_asked aw))) (map-append mark_of_data upper (w ∷ [])) agree) first

    number : w.tag.txn ≡ e.request.tag.txn
    number = ap (λ (m : Mark). m.number) mark

    counted : length (of_key number_of_data e.request.tag.txn upper) ≡ beats_by len_of_burst (of_key number_of_address e.request.tag.txn place.0) + e.done
    counted =
        let t = e.request.tag.txn in
        let marked : length (of_key number_of_mark t (map mark_of_data upper)) ≡ beats_due (of_key number_of_asked t (map burst_asked place.0)) + e.done =
        own_up_to t e.done (map burst_asked place.0) (burst_asked e.request) (map burst_asked place.1) (map mark_of_data upper)
        (subst (λ (xs : List Asked). IsPrefix (map mark_of_data upper) (marks xs)) (split-shown aw place.0 e.request place.1 place.2) keeps.in_order)
        (omega (arith, length-map upper mark_of_data, beats-shown place.0, place.3)) place.4 refl in
        sym (length-map (of_key number_of_data t upper) mark_of_data) ∙ sym (ap (λ (ms : List Mark). length ms) (of_key-map number_of_mark mark_of_data t upper))
        ∙ marked ∙ ap (λ n. n + e.done) (own-beats_shown t place.0)

    at : (t : ℕ) → t ≡ e.request.tag.txn → slice_get (all_shifts shape (parts_of t)) (length (of_key number_of_data t upper)) ≡ Some shift
    at t own =
        subst (λ (u : ℕ). slice_get (all_shifts shape (parts_of u)) (length (of_key number_of_data u upper)) ≡ Some shift) (sym own)
        (next-shift shape (parts_of e.request.tag.txn) aw place.0 e.request place.1 e.done (length (of_key number_of_data e.request.tag.txn upper)) (asked e.request.tag.txn) place.2 place.4 counted)

    moved-after : (t : ℕ) → of_key number_of_data t (lower ++ put ∷ []) ≡ moved_each (beat_widened shape) (all_shifts shape (parts_of t)) (of_key number_of_data t (upper ++ w ∷ []))
    moved-after t = elim (cases_eq w.tag.txn t) [
      | inl own ↦
          of_key-push number_of_data t lower put own ∙ ap (λ (xs : List WBeat). xs ++ put ∷ []) (keeps.moved t)
          ∙ sym (moved-push (beat_widened shape) (all_shifts shape (parts_of t)) (of_key number_of_data t upper) w shift (at t (sym own ∙ number)))
          ∙ sym (ap (moved_each (beat_widened shape) (all_shifts shape (parts_of t))) (of_key-push number_of_data t upper w own))
      | inr other ↦
          of_key-push_other number_of_data t lower put other ∙ keeps.moved t
          ∙ sym (ap (moved_each (beat_widened shape) (all_shifts shape (parts_of t))) (of_key-push_other number_of_data t upper w other))
    ]

    -- one more beat
    pub data-beat : DataKeeps (advanced len_of_burst (e ∷ es)) aw (upper ++ w ∷ []) (lower ++ put ∷ [])
    data-beat =
        let longer : length (upper ++ w ∷ []) ≡ suc (length upper) = omega (arith, length-append upper (w ∷ [])) in
        record {
          same = map-append mark_of_data lower (put ∷ []) ∙ ap (λ (ms : List Mark). ms ++ mark_of_data w ∷ []) keeps.same ∙ sym (map-append mark_of_data upper (w ∷ []));
          moved = moved-after;
          in_order = prefix_same (map-append mark_of_data upper (w ∷ []) ∙ ap (λ (m : Mark). map mark_of_data upper ++ m ∷ []) mark)
              (beat_keeps_order (map burst_asked aw) (map mark_of_data upper) (waiting_shown burst_asked e) (map (waiting_shown burst_asked) es) keeps.in_order first);
          waits = ap (advanced len_of_burst) keeps.waits ∙ sym (ap (λ n. pending len_of_burst n aw) longer ∙ pending-beat len_of_burst (length upper) aw);
        }

  -- one more address
  pub data-address : (entries : List (Waiting Addr)) (aw : List Addr) (upper lower : List WBeat) → DataKeeps entries aw upper lower → (a : Addr) → DataKeeps (entries ++ fresh a ∷ []) (aw ++ a ∷ []) upper lower
  data-address entries aw upper lower keeps a = record {
    same = keeps.same;
    moved = keeps.moved;
    in_order = prefix_trans keeps.in_order (prefix_flat_map marks_of (prefix_map burst_asked (prefix_append aw (a ∷ []))));
    waits =
        ap (λ (es : List (Waiting Addr)). es ++ fresh a ∷ []) keeps.waits
        ∙ sym (pending-request len_of_burst (length upper) aw a (omega (arith, prefix_length keeps.in_order, length-map upper mark_of_data, length-marks (map burst_asked aw), beats-shown aw)));
  }
