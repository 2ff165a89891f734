-- The open writes follow what passes on AW, W and B, move by move.
use Rattle.std.proofs.Common.{◌≡◌, ℕ, ◌+◌, ◌<◌, ◌≤◌, suc, false, cond, List, [], ◌∷◌, ◌++◌, Some, length, map, refl, sym, ◌∙◌, ap, subst, arith, inl, inr, append_assoc, length-append}
use Rattle.std.specs.Prelude.{filter}
use Rattle.std.proofs.lemmas.Bool.{cases_Bool, cases_eq, cases_lt, lt-ltb}
use Rattle.std.proofs.lemmas.List.{map-append}
use Rattle.std.proofs.lemmas.List.Elements.{All-nil, All-push}
use Rattle.std.proofs.lemmas.Simd.{map-map}
use Rattle.axi_beats.specs.declared.beat.Addr.{Addr}
use Rattle.axi_beats.specs.declared.beat.BBeat.{BBeat}
use Rattle.axi_beats.specs.declared.beat.WBeat.{WBeat}
use Rattle.axi_trail.specs.Waiting.{Waiting, advanced, answered_once, beats_by, fresh, held, pending, waiting_shown}
use Rattle.axi_trail.specs.Words.{InOrderOfId, Reply, beats_due, held_asked, id_of_address, id_of_asked, id_of_reply, id_of_waiting, len_of_asked, number_of_address, number_of_data, number_of_response, write_asked, write_reply}
use Rattle.axi_trail.proofs.HeldFacts.{held-answer, held-request, once-own}
use Rattle.axi_trail.proofs.SlackFacts.{in_order_goes_up}
use Rattle.axi_trail.proofs.StepFacts.{answer_keeps_order, answers_within, held-shown}
use Rattle.axi_trail.proofs.WaitingFacts.{pending-beat, pending-none, pending-request}
use Rattle.plain_lists.specs.Keys.{count_of, of_key}
use Rattle.plain_lists.proofs.KeyLemmas.{filter-push, filter_skip, of_key-cons, of_key-map, of_key-push, of_key-push_other, of_key-skip}
use Rattle.plain_lists.proofs.PrefixLemmas.{prefix_append, prefix_itself, prefix_map}
use Rattle.subordinate.specs.Service.{Service}
use Rattle.subordinate.specs.SubordinateTable.{answer_to, lacks_data, oldest_lacking, with_data}
use Rattle.subordinate.specs.Tracks.{OwnWrites, TracksWrites, data_waiting, len_of_address, number_of_write, one_answer, with_data_so_far, write_waiting}
use Rattle.subordinate.specs.declared.entry.WriteEntry.{WriteEntry}
use Rattle.subordinate.proofs.DataLemmas.{IsWhole, address-tracked, beat-tracked, data-behind, lacking-data, lacking-first, lacking-short, oldest-behind, others-data, own-data, requests-stay}

pub beats-shown : {X Y : Type 0} (len_of : Y → ℕ) (f : X → Y) (xs : List X) → beats_by len_of (map f xs) ≡ beats_by (λ x. len_of (f x)) xs
beats-shown len_of f [] = refl
beats-shown len_of f (x ∷ xs) = ap (λ n. suc (len_of (f x)) + n) (beats-shown len_of f xs)

pub beats-append : {X : Type 0} (len_of : X → ℕ) (xs : List X) (x : X) → beats_by len_of (xs ++ x ∷ []) ≡ beats_by len_of xs + suc (len_of x)
beats-append len_of [] x = omega arith
beats-append len_of (y ∷ xs) x = omega (arith, beats-append len_of xs x)

abbrev ids_of : List BBeat → List ℕ
ids_of b = map (λ (b : BBeat). b.id) b

-- an open write is one that lacks its response
pub writes-shown : (entries : List WriteEntry) (aw : List Addr) (b : List BBeat) → map write_waiting entries ≡ held one_answer id_of_address aw (map (λ (b : BBeat). b.id) b) →
    held_asked (map write_asked aw) (map write_reply b) ≡ map (waiting_shown write_asked) (map write_waiting entries)
writes-shown entries aw b is =
    ap (held len_of_asked id_of_asked (map write_asked aw)) (map-map id_of_reply write_reply b)
    ∙ held-shown write_asked len_of_asked id_of_asked aw (ids_of b)
    ∙ ap (map (waiting_shown write_asked)) (sym is)

-- no ID has more responses than writes
within : (aw : List Addr) (b : List BBeat) → InOrderOfId (map write_asked aw) (map write_reply b) → (id : ℕ) → count_of id (ids_of b) ≤ beats_by one_answer (of_key id_of_address id aw)
within aw b order id =
    let asked : beats_due (of_key id_of_asked id (map write_asked aw)) ≡ beats_by one_answer (of_key id_of_address id aw) =
    ap beats_due (of_key-map id_of_asked write_asked id aw) ∙ beats-shown len_of_asked write_asked (of_key id_of_address id aw) in
    omega (arith, answers_within (map write_asked aw) (map write_reply b) order id, ap (count_of id) (map-map id_of_reply write_reply b), asked)

module _ {D : Type 0} (service : Service D) where
  -- AW
  own-address : (t : ℕ) (a : Addr) (entries : List WriteEntry) (aw : List Addr) (w : List WBeat) (b : List BBeat) → number_of_address a ≡ t →
      OwnWrites service entries aw w b → OwnWrites service (entries ++ with_data_so_far service a [] ∷ []) (aw ++ a ∷ []) w b
  own-address t a entries aw w b own is = record {
    answered = is.answered;
    whole = is.whole;
    given = is.given;
    others =
        address-tracked service aw w a is.addresses_first
        ∙ ap (λ es. es ++ with_data_so_far service a [] ∷ []) is.others
        ∙ append_assoc is.answered entries (with_data_so_far service a [] ∷ []);
    addresses_first = omega (arith, is.addresses_first, beats-append len_of_address aw a);
  }

  pub tracks-address : (a : Addr) (entries : List WriteEntry) (aw : List Addr) (w : List WBeat) (b : List BBeat) → TracksWrites service entries aw w b →
      TracksWrites service (entries ++ with_data_so_far service a [] ∷ []) (aw ++ a ∷ []) w b
  tracks-address a entries aw w b is =
      let new : WriteEntry = with_data_so_far service a [] in
      record {
        open_writes =
            map-append write_waiting entries (new ∷ [])
            ∙ ap (λ ws. ws ++ fresh a ∷ []) is.open_writes
            ∙ sym (held-request one_answer id_of_address aw (ids_of b) a (within aw b is.in_order_of_id a.id));
        in_order_of_id = in_order_goes_up (prefix_map write_asked (prefix_append aw (a ∷ []))) (prefix_itself (map write_reply b)) is.in_order_of_id;
        lacking =
            ap (map data_waiting) (filter-push lacks_data entries new (lt-ltb 0 (a.len + 1) (omega arith)))
            ∙ map-append data_waiting (filter lacks_data entries) (new ∷ [])
            ∙ ap (λ ws. ws ++ fresh a ∷ []) is.lacking
            ∙ sym (pending-request len_of_address (length w) aw a is.addresses_first);
        addresses_first = omega (arith, is.addresses_first, beats-append len_of_address aw a);
        own = λ t. elim (cases_eq (number_of_address a) t) [
          | inl mine ↦
              subst (λ (es : List WriteEntry). OwnWrites service es (of_key number_of_address t (aw ++ a ∷ [])) (of_key number_of_data t w) (of_key number_of_response t b)) (sym (of_key-push number_of_write t entries new mine))
              (subst (λ (xs : List Addr). OwnWrites service (of_key number_of_write t entries ++ new ∷ []) xs (of_key number_of_data t w) (of_key number_of_response t b)) (sym (of_key-push number_of_address t aw a mine))
              (own-address t a (of_key number_of_write t entries) (of_key number_of_address t aw) (of_key number_of_data t w) (of_key number_of_response t b) mine (is.own t)))
          | inr other ↦
              subst (λ (es : List WriteEntry). OwnWrites service es (of_key number_of_address t (aw ++ a ∷ [])) (of_key number_of_data t w) (of_key number_of_response t b)) (sym (of_key-push_other number_of_write t entries new other))
              (subst (λ (xs : List Addr). OwnWrites service (of_key number_of_write t entries) xs (of_key number_of_data t w) (of_key number_of_response t b)) (sym (of_key-push_other number_of_address t aw a other))
              (is.own t))
        ];
      }

  -- B
  own-answer : (e : WriteEntry) (entries : List WriteEntry) (aw : List Addr) (w : List WBeat) (b : List BBeat) → lacks_data e ≡ false →
      OwnWrites service (e ∷ entries) aw w b → OwnWrites service entries aw w (b ++ answer_to e ∷ [])
  own-answer e entries aw w b whole is = record {
    answered = is.answered ++ e ∷ [];
    whole = All-push IsWhole is.answered e is.whole whole;
    given = ap (λ t. t ++ answer_to e ∷ []) is.given ∙ sym (map-append answer_to is.answered (e ∷ []));
    others = is.others ∙ sym (append_assoc is.answered (e ∷ []) entries);
    addresses_first = is.addresses_first;
  }

  pub tracks-answer : (e : WriteEntry) (es : List WriteEntry) (aw : List Addr) (w : List WBeat) (b : List BBeat) → lacks_data e ≡ false →
      TracksWrites service (e ∷ es) aw w b → TracksWrites service es aw w (b ++ answer_to e ∷ [])
  tracks-answer e es aw w b whole is =
      record {
        open_writes =
            sym (once-own one_answer id_of_address e.request.id (write_waiting e) (map write_waiting es) refl)
            ∙ ap (answered_once one_answer id_of_address e.request.id) is.open_writes
            ∙ sym (held-answer one_answer id_of_address aw (ids_of b) e.request.id)
            ∙ ap (held one_answer id_of_address aw) (sym (map-append (λ (b : BBeat). b.id) b (answer_to e ∷ [])));
        in_order_of_id = subst (λ (ps : List Reply). InOrderOfId (map write_asked aw) ps) (sym (map-append write_reply b (answer_to e ∷ [])))
            (answer_keeps_order (map write_asked aw) (map write_reply b) e.request.id (waiting_shown write_asked (write_waiting e))
            (of_key id_of_waiting e.request.id (map (waiting_shown write_asked) (map write_waiting es))) is.in_order_of_id
            (ap (of_key id_of_waiting e.request.id) (writes-shown (e ∷ es) aw b is.open_writes)
            ∙ of_key-cons id_of_waiting e.request.id (waiting_shown write_asked (write_waiting e)) (map (waiting_shown write_asked) (map write_waiting es)) refl));
        lacking = ap (map data_waiting) (sym (filter_skip lacks_data e es whole)) ∙ is.lacking;
        addresses_first = is.addresses_first;
        own = λ t. elim (cases_eq (number_of_write e) t) [
          | inl mine ↦
              subst (λ (bs : List BBeat). OwnWrites service (of_key number_of_write t es) (of_key number_of_address t aw) (of_key number_of_data t w) bs) (sym (of_key-push number_of_response t b (answer_to e) mine))
              (own-answer e (of_key number_of_write t es) (of_key number_of_address t aw) (of_key number_of_data t w) (of_key number_of_response t b) whole
              (subst (λ (xs : List WriteEntry). OwnWrites service xs (of_key number_of_address t aw) (of_key number_of_data t w) (of_key number_of_response t b)) (of_key-cons number_of_write t e es mine) (is.own t)))
          | inr other ↦
              subst (λ (bs : List BBeat). OwnWrites service (of_key number_of_write t es) (of_key number_of_address t aw) (of_key number_of_data t w) bs) (sym (of_key-push_other number_of_response t b (answer_to e) other))
              (subst (λ (xs : List WriteEntry). OwnWrites service xs (of_key number_of_address t aw) (of_key number_of_data t w) (of_key number_of_response t b)) (of_key-skip number_of_write t e es other) (is.own t))
        ];
      }

  -- W
  pub own-oldest : (t : ℕ) (e : WriteEntry) (entries : List WriteEntry) → oldest_lacking entries ≡ Some e → number_of_write e ≡ t → oldest_lacking (of_key number_of_write t entries) ≡ Some e
  own-oldest t e [] found own = absurd (cc)
  own-oldest t e (y ∷ ys) found own = elim (cases_Bool (lacks_data y)) [
    | inl lacks ↦
        let both : Some y ≡ Some e = sym (ap (λ c. cond c (Some y) (oldest_lacking ys)) lacks) ∙ found in
        let same : y ≡ e = cc in
        ap oldest_lacking (of_key-cons number_of_write t y ys (ap number_of_write same ∙ own)) ∙ ap (λ c. cond c (Some y) (oldest_lacking (of_key number_of_write t ys))) lacks ∙ both
    | inr whole ↦
        let later : oldest_lacking ys ≡ Some e = sym (ap (λ c. cond c (Some y) (oldest_lacking ys)) whole) ∙ found in
        let rest = own-oldest t e ys later own in
        elim (cases_eq (number_of_write y) t) [
          | inl mine ↦
              ap oldest_lacking (of_key-cons number_of_write t y ys mine)
              ∙ ap (λ c. cond c (Some y) (oldest_lacking (of_key number_of_write t ys))) whole
              ∙ rest
          | inr other ↦ ap oldest_lacking (of_key-skip number_of_write t y ys other) ∙ rest
        ]
  ]

  own-beat : (x : WBeat) (e : WriteEntry) (entries : List WriteEntry) (aw : List Addr) (w : List WBeat) (b : List BBeat) → oldest_lacking entries ≡ Some e →
      OwnWrites service entries aw w b → OwnWrites service (with_data service x entries) aw (w ++ x ∷ []) b
  own-beat x e entries aw w b found is =
      let short : length w < beats_by len_of_address aw =
      lacking-short service aw w e (ap oldest_lacking is.others ∙ oldest-behind is.answered entries is.whole ∙ found) in
      record {
        answered = is.answered;
        whole = is.whole;
        given = is.given;
        others = beat-tracked service aw w x short ∙ ap (with_data service x) is.others ∙ data-behind service x is.answered entries is.whole;
        addresses_first = omega (arith, short, length-append w (x ∷ []));
      }

  waiting-stays : (x : WBeat) (entries : List WriteEntry) → map write_waiting (with_data service x entries) ≡ map write_waiting entries
  waiting-stays x entries = by-requests (with_data service x entries) ∙ ap (map fresh) (requests-stay service x entries) ∙ sym (by-requests entries)
    where
      by-requests : (es : List WriteEntry) → map write_waiting es ≡ map fresh (map (λ (e : WriteEntry). e.request) es)
      by-requests [] = refl
      by-requests (y ∷ es) = ap (λ t. fresh y.request ∷ t) (by-requests es)

  pub first-pending : (e : WriteEntry) (entries : List WriteEntry) (aw : List Addr) (w : List WBeat) (b : List BBeat) → oldest_lacking entries ≡ Some e → TracksWrites service entries aw w b →
      (others : List (Waiting Addr)) × (pending len_of_address (length w) aw ≡ data_waiting e ∷ others)
  first-pending e entries aw w b found is =
      let first = lacking-first entries e found in
      (map data_waiting first.0, sym is.lacking ∙ ap (map data_waiting) first.1)

  pub data-short : (e : WriteEntry) (entries : List WriteEntry) (aw : List Addr) (w : List WBeat) (b : List BBeat) → oldest_lacking entries ≡ Some e → TracksWrites service entries aw w b →
      length w < beats_by len_of_address aw
  data-short e entries aw w b found is = elim (cases_lt (length w) (beats_by len_of_address aw)) [
    | inl lt ↦ lt
    | inr ge ↦
        let first = first-pending e entries aw w b found is in
        let none : data_waiting e ∷ first.0 ≡ [] = sym first.1 ∙ pending-none len_of_address (length w) aw ge in
        absurd (cc)
  ]

  pub tracks-beat : (x : WBeat) (e : WriteEntry) (entries : List WriteEntry) (aw : List Addr) (w : List WBeat) (b : List BBeat) → oldest_lacking entries ≡ Some e →
      number_of_data x ≡ number_of_write e → TracksWrites service entries aw w b → TracksWrites service (with_data service x entries) aw (w ++ x ∷ []) b
  tracks-beat x e entries aw w b found same is =
      let more : length (w ++ x ∷ []) ≡ suc (length w) = omega (arith, length-append w (x ∷ [])) in
      record {
        open_writes = waiting-stays x entries ∙ is.open_writes;
        in_order_of_id = is.in_order_of_id;
        lacking =
            lacking-data service x entries e found
            ∙ ap (λ ws. advanced len_of_address ws) is.lacking
            ∙ sym (pending-beat len_of_address (length w) aw)
            ∙ ap (λ n. pending len_of_address n aw) (sym more);
        addresses_first = omega (arith, more, data-short e entries aw w b found is);
        own = λ t. elim (cases_eq (number_of_write e) t) [
          | inl mine ↦
              subst (λ (es : List WriteEntry). OwnWrites service es (of_key number_of_address t aw) (of_key number_of_data t (w ++ x ∷ [])) (of_key number_of_response t b)) (sym (own-data service x t entries e found mine))
              (subst (λ (ws : List WBeat). OwnWrites service (with_data service x (of_key number_of_write t entries)) (of_key number_of_address t aw) ws (of_key number_of_response t b)) (sym (of_key-push number_of_data t w x (same ∙ mine)))
              (own-beat x e (of_key number_of_write t entries) (of_key number_of_address t aw) (of_key number_of_data t w) (of_key number_of_response t b) (own-oldest t e entries found mine) (is.own t)))
          | inr other ↦
              subst (λ (es : List WriteEntry). OwnWrites service es (of_key number_of_address t aw) (of_key number_of_data t (w ++ x ∷ [])) (of_key number_of_response t b)) (sym (others-data service x t entries e found other))
              (subst (λ (ws : List WBeat). OwnWrites service (of_key number_of_write t entries) (of_key number_of_address t aw) ws (of_key number_of_response t b)) (sym (of_key-push_other number_of_data t w x (λ is. other (sym same ∙ is)))) (is.own t))
        ];
      }

  -- nothing has come
  pub tracks-none : TracksWrites service [] [] [] []
  tracks-none = record {
    open_writes = refl;
    in_order_of_id = λ id. record { rest = []; whole = refl };
    lacking = refl;
    addresses_first = omega arith;
    own = λ t. record { answered = []; whole = All-nil IsWhole; given = refl; others = refl; addresses_first = omega arith };
  }
