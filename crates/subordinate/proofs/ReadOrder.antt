-- The open reads follow what passes on AR and R, move by move.
use Rattle.std.proofs.Common.{◌≡◌, ◌≢◌, ℕ, ◌+◌, ◌≤◌, ◌==◌, suc, Bool, true, false, cond, List, [], ◌∷◌, ◌++◌, Some, length, map, drop, refl, sym, ◌∙◌, ap, subst, arith, inl, inr, length-append}
use Rattle.std.proofs.lemmas.Bool.{cases_eq}
use Rattle.std.proofs.lemmas.List.{length-map, map-append, drop-map}
use Rattle.std.proofs.lemmas.List.Elements.{All-nil, All-push}
use Rattle.std.proofs.lemmas.Simd.{map-map}
use Rattle.axi_beats.specs.declared.beat.Addr.{Addr}
use Rattle.axi_beats.specs.declared.beat.RBeat.{RBeat}
use Rattle.axi_beats.specs.declared.response.Resp.{Resp}
use Rattle.axi_trail.specs.LinkContracts.{without_id}
use Rattle.axi_trail.specs.Schedule.{Share}
use Rattle.axi_trail.specs.Waiting.{advanced, answered_once, beats_by, fresh, held, pending, waiting_shown}
use Rattle.axi_trail.specs.Words.{InOrderOfId, Reply, beats_due, burst_asked, held_asked, id_of_address, id_of_asked, id_of_reply, id_of_waiting, len_of_asked, number_of_address, number_of_asked, number_of_read_data, number_of_reply, read_reply}
use Rattle.axi_trail.proofs.DataFacts.{own_answers_within}
use Rattle.axi_trail.proofs.HeldFacts.{held-answer, held-request, once-own}
use Rattle.axi_trail.proofs.SlackFacts.{in_order_goes_up}
use Rattle.axi_trail.proofs.StepFacts.{answer_keeps_order, answers_within, held-shown}
use Rattle.axi_trail.proofs.WaitingFacts.{pending-beat, pending-request}
use Rattle.plain_lists.specs.Keys.{count_of, of_key}
use Rattle.plain_lists.specs.Prefixes.{IsPrefix}
use Rattle.plain_lists.proofs.KeyLemmas.{of_key-cons, of_key-map, of_key-push, of_key-push_other, of_key-skip}
use Rattle.plain_lists.proofs.PrefixLemmas.{prefix_append, prefix_itself, prefix_map, prefix_next, prefix_nil}
use Rattle.subordinate.specs.Parts.{BeatOf, beats_of_parts}
use Rattle.subordinate.specs.Service.{Service}
use Rattle.subordinate.specs.SubordinateTable.{after_r, next_beat}
use Rattle.subordinate.specs.Tracks.{IsService, TracksReads, ends_with, len_of_address, number_of_read, read_waiting}
use Rattle.subordinate.specs.declared.entry.ReadEntry.{ReadEntry}
use Rattle.subordinate.proofs.PartPlaces.{next-part}
use Rattle.subordinate.proofs.WriteOrder.{beats-shown}

abbrev ids_of : List RBeat → List ℕ
ids_of r = map (λ (r : RBeat). r.id) r

abbrev pub new_read : Addr → ReadEntry
new_read a = record { request = a; put = 0 }

-- an open read is one that lacks beats of its answer
pub reads-shown : (entries : List ReadEntry) (ar : List Addr) (r : List RBeat) → map read_waiting entries ≡ held len_of_address id_of_address ar (map (λ (r : RBeat). r.id) r) →
    held_asked (map burst_asked ar) (map read_reply r) ≡ map (waiting_shown burst_asked) (map read_waiting entries)
reads-shown entries ar r is =
    ap (held len_of_asked id_of_asked (map burst_asked ar)) (map-map id_of_reply read_reply r)
    ∙ held-shown burst_asked len_of_asked id_of_asked ar (ids_of r)
    ∙ ap (map (waiting_shown burst_asked)) (sym is)

module _ (ar : List Addr) (r : List RBeat) (order : InOrderOfId (map burst_asked ar) (map read_reply r)) where
  -- no ID, and no transaction, has more beats of answers than its reads ask for
  within : (id : ℕ) → count_of id (ids_of r) ≤ beats_by len_of_address (of_key id_of_address id ar)
  within id =
      let asked : beats_due (of_key id_of_asked id (map burst_asked ar)) ≡ beats_by len_of_address (of_key id_of_address id ar) =
      ap beats_due (of_key-map id_of_asked burst_asked id ar) ∙ beats-shown len_of_asked burst_asked (of_key id_of_address id ar) in
      omega (arith, answers_within (map burst_asked ar) (map read_reply r) order id, ap (count_of id) (map-map id_of_reply read_reply r), asked)

  own-within : (t : ℕ) → length (of_key number_of_read_data t r) ≤ beats_by len_of_address (of_key number_of_address t ar)
  own-within t =
      let asked : beats_due (of_key number_of_asked t (map burst_asked ar)) ≡ beats_by len_of_address (of_key number_of_address t ar) =
      ap beats_due (of_key-map number_of_asked burst_asked t ar) ∙ beats-shown len_of_asked burst_asked (of_key number_of_address t ar) in
      let came : length (of_key number_of_reply t (map read_reply r)) ≡ length (of_key number_of_read_data t r) =
      ap length (of_key-map number_of_reply read_reply t r) ∙ length-map (of_key number_of_read_data t r) read_reply in
      omega (arith, own_answers_within (map burst_asked ar) (map read_reply r) t order, asked, came)

module _ (shares : ℕ → Share) where
  -- AR
  pub tracks-request : (a : Addr) (entries : List ReadEntry) (ar : List Addr) (r : List RBeat) → TracksReads shares entries ar r → TracksReads shares (entries ++ new_read a ∷ []) (ar ++ a ∷ []) r
  tracks-request a entries ar r is =
      record {
        open_reads =
            map-append read_waiting entries (new_read a ∷ [])
            ∙ ap (λ ws. ws ++ fresh a ∷ []) is.open_reads
            ∙ sym (held-request len_of_address id_of_address ar (ids_of r) a (within ar r is.in_order_of_id a.id));
        in_order_of_id = in_order_goes_up (prefix_map burst_asked (prefix_append ar (a ∷ []))) (prefix_itself (map read_reply r)) is.in_order_of_id;
        own = λ t. elim (cases_eq (number_of_address a) t) [
          | inl mine ↦
              ap (map read_waiting) (of_key-push number_of_read t entries (new_read a) mine)
              ∙ map-append read_waiting (of_key number_of_read t entries) (new_read a ∷ [])
              ∙ ap (λ ws. ws ++ fresh a ∷ []) (is.own t)
              ∙ sym (pending-request len_of_address (length (of_key number_of_read_data t r)) (of_key number_of_address t ar) a (own-within ar r is.in_order_of_id t))
              ∙ ap (pending len_of_address (length (of_key number_of_read_data t r))) (sym (of_key-push number_of_address t ar a mine))
          | inr other ↦
              ap (map read_waiting) (of_key-push_other number_of_read t entries (new_read a) other)
              ∙ is.own t
              ∙ ap (pending len_of_address (length (of_key number_of_read_data t r))) (sym (of_key-push_other number_of_address t ar a other))
        ];
        lanes_are_whole = is.lanes_are_whole;
        statuses = is.statuses;
      }

  -- where the next beat of an open read, the first of its transaction, stands in the transaction
  pub next-read : (e : ReadEntry) (es : List ReadEntry) (ar : List Addr) (r : List RBeat) → TracksReads shares (e ∷ es) ar r →
      IsPrefix (map without_id (of_key number_of_address (number_of_read e) ar)) (shares (number_of_read e)).parts →
      (rest : List BeatOf)
      × (drop (length (of_key number_of_read_data (number_of_read e) r)) (beats_of_parts (shares (number_of_read e)).parts) ≡ record { request = without_id e.request; beat = e.put } ∷ rest)
  next-read e es ar r is asked =
      next-part (shares (number_of_read e)).parts (of_key number_of_address (number_of_read e) ar) (length (of_key number_of_read_data (number_of_read e) r)) (read_waiting e)
      (map read_waiting (of_key number_of_read (number_of_read e) es)) asked
      (sym (is.own (number_of_read e)) ∙ ap (map read_waiting) (of_key-cons number_of_read (number_of_read e) e es refl))

-- R
module _ {D : Type 0} (service : Service D) (kept : D) (shares : ℕ → Share) (e : ReadEntry) where
  abbrev beat : RBeat
  beat = next_beat service kept e

  advanced-entry : (es : List ReadEntry) → map read_waiting (after_r (Some beat) (e ∷ es)) ≡ advanced len_of_address (read_waiting e ∷ map read_waiting es)
  advanced-entry es =
      let one : e.put + 1 ≡ suc e.put = omega arith in
      let go : (b : Bool) → map read_waiting (cond b es (record { request = e.request; put = e.put + 1 } ∷ es)) ≡ cond b (map read_waiting es) (record { request = e.request; done = suc e.put } ∷ map read_waiting es) =
      elim [ true ↦ refl | false ↦ ap (λ n. record { request = e.request; done = n } ∷ map read_waiting es) one ]
      in go (e.put == e.request.len)

  own-entry : (t : ℕ) (es : List ReadEntry) → number_of_read e ≡ t → of_key number_of_read t (after_r (Some beat) (e ∷ es)) ≡ after_r (Some beat) (e ∷ of_key number_of_read t es)
  own-entry t es mine =
      let go : (b : Bool) → of_key number_of_read t (cond b es (record { request = e.request; put = e.put + 1 } ∷ es)) ≡ cond b (of_key number_of_read t es) (record { request = e.request; put = e.put + 1 } ∷ of_key number_of_read t es) =
      elim [ true ↦ refl | false ↦ of_key-cons number_of_read t (record { request = e.request; put = e.put + 1 }) es mine ]
      in go (e.put == e.request.len)

  other-entry : (t : ℕ) (es : List ReadEntry) → number_of_read e ≢ t → of_key number_of_read t (after_r (Some beat) (e ∷ es)) ≡ of_key number_of_read t es
  other-entry t es other =
      let go : (b : Bool) → of_key number_of_read t (cond b es (record { request = e.request; put = e.put + 1 } ∷ es)) ≡ of_key number_of_read t es =
      elim [ true ↦ refl | false ↦ of_key-skip number_of_read t (record { request = e.request; put = e.put + 1 }) es other ]
      in go (e.put == e.request.len)

  statuses-more : (es : List ReadEntry) (ar : List Addr) (r : List RBeat) → IsService service → (shares (number_of_read e)).responses ≡ ends_with service false (shares (number_of_read e)) →
      IsPrefix (map without_id (of_key number_of_address (number_of_read e) ar)) (shares (number_of_read e)).parts → TracksReads shares (e ∷ es) ar r → (t : ℕ) →
      IsPrefix (map (λ (r : RBeat). r.resp) (of_key number_of_read_data t (r ++ beat ∷ []))) (shares t).responses
  statuses-more es ar r is_service due asked is t = elim (cases_eq (number_of_read e) t) [
    | inr other ↦ subst (λ (xs : List RBeat). IsPrefix (map (λ (r : RBeat). r.resp) xs) (shares t).responses) (sym (of_key-push_other number_of_read_data t r beat other)) (is.statuses t)
    | inl own ↦ subst (λ (n : ℕ). IsPrefix (map (λ (r : RBeat). r.resp) (of_key number_of_read_data n (r ++ beat ∷ []))) (shares n).responses) own
        (let n : ℕ = number_of_read e in
        let came : List RBeat = of_key number_of_read_data n r in
        let found = next-read shares e es ar r is asked in
        let status : BeatOf → Resp = λ b. service.beat_status b.request b.beat in
        let next : drop (length (map (λ (r : RBeat). r.resp) came)) (shares n).responses ≡ service.beat_status e.request e.put ∷ map status found.0 =
        ap (λ k. drop k (shares n).responses) (length-map came (λ (r : RBeat). r.resp))
        ∙ ap (drop (length came)) due
        ∙ drop-map status (length came) (beats_of_parts (shares n).parts)
        ∙ ap (map status) found.1
        ∙ ap (λ s. s ∷ map status found.0) (is_service.beat_status e.request e.put) in
        subst (λ (xs : List Resp). IsPrefix xs (shares n).responses)
        (sym (map-append (λ (r : RBeat). r.resp) came (beat ∷ [])) ∙ ap (map (λ (r : RBeat). r.resp)) (sym (of_key-push number_of_read_data n r beat refl)))
        (prefix_next (map (λ (r : RBeat). r.resp) came) (shares n).responses (service.beat_status e.request e.put) (map status found.0) (is.statuses n) next))
  ]

  pub tracks-put : (es : List ReadEntry) (ar : List Addr) (r : List RBeat) → IsService service → (shares (number_of_read e)).responses ≡ ends_with service false (shares (number_of_read e)) →
      IsPrefix (map without_id (of_key number_of_address (number_of_read e) ar)) (shares (number_of_read e)).parts → TracksReads shares (e ∷ es) ar r →
      TracksReads shares (after_r (Some beat) (e ∷ es)) ar (r ++ beat ∷ [])
  tracks-put es ar r is_service due asked is = record {
    open_reads =
        advanced-entry es
        ∙ sym (once-own len_of_address id_of_address e.request.id (read_waiting e) (map read_waiting es) refl)
        ∙ ap (answered_once len_of_address id_of_address e.request.id) is.open_reads
        ∙ sym (held-answer len_of_address id_of_address ar (ids_of r) e.request.id)
        ∙ ap (held len_of_address id_of_address ar) (sym (map-append (λ (r : RBeat). r.id) r (beat ∷ [])));
    in_order_of_id = subst (λ (ps : List Reply). InOrderOfId (map burst_asked ar) ps) (sym (map-append read_reply r (beat ∷ [])))
        (answer_keeps_order (map burst_asked ar) (map read_reply r) e.request.id (waiting_shown burst_asked (read_waiting e))
        (of_key id_of_waiting e.request.id (map (waiting_shown burst_asked) (map read_waiting es))) is.in_order_of_id
        (ap (of_key id_of_waiting e.request.id) (reads-shown (e ∷ es) ar r is.open_reads)
        ∙ of_key-cons id_of_waiting e.request.id (waiting_shown burst_asked (read_waiting e)) (map (waiting_shown burst_asked) (map read_waiting es)) refl));
    own = λ t. elim (cases_eq (number_of_read e) t) [
      | inl mine ↦
          let more : length (of_key number_of_read_data t (r ++ beat ∷ [])) ≡ suc (length (of_key number_of_read_data t r)) =
          omega (arith, ap length (of_key-push number_of_read_data t r beat mine), length-append (of_key number_of_read_data t r) (beat ∷ [])) in
          ap (map read_waiting) (own-entry t es mine)
          ∙ advanced-entry (of_key number_of_read t es)
          ∙ ap (λ xs. advanced len_of_address (map read_waiting xs)) (sym (of_key-cons number_of_read t e es mine))
          ∙ ap (advanced len_of_address) (is.own t)
          ∙ sym (pending-beat len_of_address (length (of_key number_of_read_data t r)) (of_key number_of_address t ar))
          ∙ ap (λ n. pending len_of_address n (of_key number_of_address t ar)) (sym more)
      | inr other ↦
          ap (map read_waiting) (other-entry t es other ∙ sym (of_key-skip number_of_read t e es other))
          ∙ is.own t
          ∙ ap (λ xs. pending len_of_address (length xs) (of_key number_of_address t ar)) (sym (of_key-push_other number_of_read_data t r beat other))
    ];
    lanes_are_whole = All-push (λ (r : RBeat). length r.lanes ≡ 128) r beat is.lanes_are_whole (is_service.beat_lanes kept e.request e.put);
    statuses = statuses-more es ar r is_service due asked is;
  }

-- nothing has come
pub reads-none : (shares : ℕ → Share) → TracksReads shares [] [] []
reads-none shares = record {
  open_reads = refl;
  in_order_of_id = λ id. record { rest = []; whole = refl };
  own = λ t. refl;
  lanes_are_whole = All-nil (λ (r : RBeat). length r.lanes ≡ 128);
  statuses = λ t. prefix_nil (shares t).responses;
}
