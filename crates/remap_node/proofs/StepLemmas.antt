-- What the pairs of a direction have to do with what has passed, after one more answer and after one more request.
use Rattle.std.proofs.Common.{◌≡◌, ◌≢◌, ◌<◌, ◌≤◌, ◌+◌, ◌==◌, ℕ, suc, Bool, true, false, cond, List, [], ◌∷◌, ◌++◌, length, map, Some, refl, sym, ◌∙◌, ap, subst, inl, inr, arith, append_assoc, append-nil, eq-eqb}
use Rattle.std.specs.Prelude.{◌⊎◌, ◌↔◌, All}
use Rattle.std.proofs.lemmas.Bool.{cases_eq, cases_lt, ne_eqb}
use Rattle.std.proofs.lemmas.List.{map-append}
use Rattle.std.proofs.lemmas.List.Elements.{All-filter, All-head, All-push}
use Rattle.axi_beats.specs.declared.beat.Addr.{Addr}
use Rattle.axi_trail.proofs.HeldFacts.{held-answer, held-request, once-other, once-own}
use Rattle.axi_trail.proofs.SlackFacts.{in_order_goes_up}
use Rattle.axi_trail.proofs.StepFacts.{answer_keeps_order, answers_within, held-shown, next_answer}
use Rattle.axi_trail.specs.Waiting.{Waiting, answered_once, beats_by, fresh, waiting_shown}
use Rattle.axi_trail.specs.Words.{Asked, InOrderOfId, Reply, beats_due, held_asked, id_of_asked, id_of_reply, id_of_waiting, len_of_asked, next_reply}
use Rattle.plain_lists.proofs.CutLemmas.{all-unmap, cut-push}
use Rattle.plain_lists.proofs.KeyLemmas.{count_of-append, of_key-cons, of_key-map, of_key-skip}
use Rattle.plain_lists.proofs.PrefixLemmas.{prefix_append, prefix_itself}
use Rattle.plain_lists.specs.Keys.{count_of, of_key, without_oldest}
use Rattle.plain_lists.specs.Prefixes.{IsPrefix}
use Rattle.remap_node.proofs.EitherLemmas.{IsBoth, held-front, last-held, of_key-either, once-either}
use Rattle.remap_node.proofs.PairLemmas.{StandsFor, found-stands, input-is}
use Rattle.remap_node.specs.RemapState.{AreOneToOne}
use Rattle.remap_node.specs.RemapTable.{Renamed, ids_of_request, input_in_flight, output_of_pair}
use Rattle.remap_node.specs.RemapTrail.{IsAnsweredBelow, PairsAreHeld, held_above, held_below, id_above, id_below, later_of, shown_above, shown_below}
use Rattle.remap_node.specs.declared.pair.IdPair.{IdPair}

pub beats-map : {X : Type 0} (f : X → Asked) (xs : List X) → beats_due (map f xs) ≡ beats_by (λ (x : X). (f x).len) xs
beats-map f [] = refl
beats-map f (x ∷ xs) = omega (arith, beats-map f xs)

-- a list with one more element, in two
push-split : {X : Type 0} (xs : List X) (x : X) (front back : List X) → xs ++ x ∷ [] ≡ front ++ back → (front ≡ xs ++ x ∷ []) ⊎ ((more : List X) × (xs ≡ front ++ more))
push-split xs x front [] e = inl (sym (append-nil front) ∙ sym e)
push-split {X} xs x front (y ∷ back) e = elim (cut-push xs x front y back e) [
  | inl (whole, last) ↦ inr ([], whole ∙ sym (append-nil front))
  | inr (rest, whole) ↦ inr (y ∷ rest, whole)
]

module _ (later : ℕ → ℕ) where
  abbrev pair_held : Waiting (Renamed Addr) → IdPair
  pair_held w = ids_of_request w.request

  abbrev out_held : Waiting (Renamed Addr) → ℕ
  out_held w = w.request.id

  -- the beats of requests by what they show
  pub beats-above : (id : ℕ) (moved : List (Renamed Addr)) → beats_due (of_key id_of_asked id (map (shown_above later) moved)) ≡ beats_by (later_of later) (of_key id_above id moved)
  beats-above id moved = ap beats_due (of_key-map id_of_asked (shown_above later) id moved) ∙ beats-map (shown_above later) (of_key id_above id moved)

  pub beats-below : (id : ℕ) (moved : List (Renamed Addr)) → beats_due (of_key id_of_asked id (map (shown_below later) moved)) ≡ beats_by (later_of later) (of_key id_below id moved)
  beats-below id moved = ap beats_due (of_key-map id_of_asked (shown_below later) id moved) ∙ beats-map (shown_below later) (of_key id_below id moved)

  -- the pairs after an answer: with its last beat the oldest of its ID leaves
  pairs-once : (output : ℕ) (ws : List (Waiting (Renamed Addr))) (v : Waiting (Renamed Addr)) (vs : List (Waiting (Renamed Addr))) → of_key out_held output ws ≡ v ∷ vs →
      map pair_held (answered_once (later_of later) id_below output ws)
      ≡ cond (v.done == later v.request.beat.len) (without_oldest output_of_pair output (map pair_held ws)) (map pair_held ws)
  pairs-once output [] v vs e = absurd (cc)
  pairs-once output (w ∷ ws) v vs e = elim (cases_eq w.request.id output) [
    | inl own ↦
        let both : w ∷ of_key out_held output ws ≡ v ∷ vs = sym (of_key-cons out_held output w ws own) ∙ e in
        let first : w ≡ v = cc in
        ap (map pair_held) (once-own (later_of later) id_below output w ws own)
        ∙ here (w.done == later w.request.beat.len)
        ∙ ap (λ (ps : List IdPair). cond (w.done == later w.request.beat.len) ps (map pair_held (w ∷ ws)))
        (sym (ap (λ (b : Bool). cond b (map pair_held ws) (pair_held w ∷ without_oldest output_of_pair output (map pair_held ws))) (eq-eqb w.request.id output own)))
        ∙ ap (λ (z : Waiting (Renamed Addr)). cond (z.done == later z.request.beat.len) (without_oldest output_of_pair output (map pair_held (w ∷ ws))) (map pair_held (w ∷ ws))) first
    | inr ne ↦
        ap (map pair_held) (once-other (later_of later) id_below output w ws ne)
        ∙ ap (λ (ps : List IdPair). pair_held w ∷ ps) (pairs-once output ws v vs (sym (of_key-skip out_held output w ws ne) ∙ e))
        ∙ past (v.done == later v.request.beat.len)
        ∙ ap (λ (ps : List IdPair). cond (v.done == later v.request.beat.len) ps (map pair_held (w ∷ ws)))
        (sym (ap (λ (b : Bool). cond b (map pair_held ws) (pair_held w ∷ without_oldest output_of_pair output (map pair_held ws))) (ne_eqb w.request.id output ne)))
  ]
    where
      here : (b : Bool) → map pair_held (cond b ws (record { request = w.request; done = suc w.done } ∷ ws)) ≡ cond b (map pair_held ws) (map pair_held (w ∷ ws))
      here true = refl
      here false = refl

      past : (b : Bool) → pair_held w ∷ cond b (without_oldest output_of_pair output (map pair_held ws)) (map pair_held ws)
          ≡ cond b (pair_held w ∷ without_oldest output_of_pair output (map pair_held ws)) (map pair_held (w ∷ ws))
      past true = refl
      past false = refl

  module _ (ids : ℕ) (moved : List (Renamed Addr)) (pairs : List IdPair) (above below : List Reply) (is : PairsAreHeld later ids moved pairs above below) where
    abbrev ups : List ℕ
    ups = map id_of_reply above

    abbrev downs : List ℕ
    downs = map id_of_reply below

    abbrev held_ones : List (Waiting (Renamed Addr))
    held_ones = held_below later moved downs

    pub whole-same : held_above later moved ups ≡ held_ones
    whole-same = is.same moved [] (sym (append-nil moved))

    pub shown-held_below : held_asked (map (shown_below later) moved) below ≡ map (waiting_shown (shown_below later)) held_ones
    shown-held_below = held-shown (shown_below later) len_of_asked id_of_asked moved downs

    pub shown-held_above : held_asked (map (shown_above later) moved) above ≡ map (waiting_shown (shown_above later)) held_ones
    shown-held_above = held-shown (shown_above later) len_of_asked id_of_asked moved ups ∙ ap (map (waiting_shown (shown_above later))) whole-same

    -- an ID that stands for another one among the pairs does so among the held requests
    stands-held : (input output : ℕ) → StandsFor pairs input output → All (IsBoth (later_of later) id_above id_below input output) held_ones
    stands-held input output stands =
        all-unmap (λ (p : IdPair). (p.input ≡ input) ↔ (p.output ≡ output)) pair_held held_ones
        (subst (λ (ps : List IdPair). All (λ (p : IdPair). (p.input ≡ input) ↔ (p.output ≡ output)) ps) is.entries stands)

    -- the request that an answer below belongs to
    pub record IsOf (p : Reply) : Type 0 where
      pub waits : Waiting (Renamed Addr)
      pub others : List (Waiting (Renamed Addr))
      pub first : of_key out_held p.id held_ones ≡ waits ∷ others
      pub next : p ≡ next_reply (waiting_shown (shown_below later) waits)

    pub is-of : (p : Reply) → InOrderOfId (map (shown_below later) moved) (below ++ p ∷ []) → IsOf p
    is-of p order =
        let n = next_answer (map (shown_below later) moved) below p order in
        go n.0 n.1 n.3 (of_key out_held p.id held_ones) refl
        (sym (ap (of_key id_of_waiting p.id) shown-held_below ∙ of_key-map id_of_waiting (waiting_shown (shown_below later)) p.id held_ones) ∙ n.2)
      where
        go : (w : Waiting Asked) (ws : List (Waiting Asked)) → p ≡ next_reply w → (k : List (Waiting (Renamed Addr))) → of_key out_held p.id held_ones ≡ k →
            map (waiting_shown (shown_below later)) (of_key out_held p.id held_ones) ≡ w ∷ ws → IsOf p
        go w ws next [] at e = absurd (omega (arith, ap length (sym (ap (map (waiting_shown (shown_below later))) at) ∙ e)))
        go w ws next (v ∷ vs) at e =
            let both : waiting_shown (shown_below later) v ∷ map (waiting_shown (shown_below later)) vs ≡ w ∷ ws = sym (ap (map (waiting_shown (shown_below later))) at) ∙ e in
            let first : waiting_shown (shown_below later) v ≡ w = cc in
            record { waits = v; others = vs; first = at; next = next ∙ ap next_reply (sym first) }

    -- one more answer
    module _ (one : AreOneToOne pairs) (p : Reply) (input : ℕ) (found : input_in_flight pairs p.id ≡ Some input) (order : InOrderOfId (map (shown_below later) moved) (below ++ p ∷ [])) where
      abbrev answer : Reply
      answer = record { number = p.number; id = input; last = p.last }

      both : All (IsBoth (later_of later) id_above id_below input p.id) held_ones
      both =
          let pair = input-is pairs p.id input found in
          let stands = found-stands pairs one pair.0 pair.1 in
          stands-held input p.id (subst (λ (i : ℕ). StandsFor pairs i p.id) pair.3 (subst (λ (o : ℕ). StandsFor pairs pair.0.input o) pair.2 stands))

      ups-more : map id_of_reply (above ++ answer ∷ []) ≡ ups ++ input ∷ []
      ups-more = map-append id_of_reply above (answer ∷ [])

      downs-more : map id_of_reply (below ++ p ∷ []) ≡ downs ++ p.id ∷ []
      downs-more = map-append id_of_reply below (p ∷ [])

      held-after : held_below later moved (map id_of_reply (below ++ p ∷ [])) ≡ answered_once (later_of later) id_below p.id held_ones
      held-after = ap (held_below later moved) downs-more ∙ held-answer (later_of later) id_below moved downs p.id

      input-of : (of : IsOf p) → of.waits.request.beat.id ≡ input
      input-of of =
          let is_both : All (IsBoth (later_of later) id_above id_below input p.id) (of.waits ∷ of.others) =
          subst (λ (ws : List (Waiting (Renamed Addr))). All (IsBoth (later_of later) id_above id_below input p.id) ws) of.first
          (All-filter (λ (w : Waiting (Renamed Addr)). w.request.id == p.id) (IsBoth (later_of later) id_above id_below input p.id) held_ones both) in
          (All-head (IsBoth (later_of later) id_above id_below input p.id) of.waits of.others is_both).1 (sym (ap id_of_reply of.next))

      same-after : (front back : List (Renamed Addr)) → moved ≡ front ++ back →
          held_above later front (map id_of_reply (above ++ answer ∷ [])) ≡ held_below later front (map id_of_reply (below ++ p ∷ []))
      same-after front back e =
          ap (held_above later front) ups-more ∙ held-answer (later_of later) id_above front ups input
          ∙ ap (answered_once (later_of later) id_above input) (is.same front back e)
          ∙ once-either (later_of later) id_above id_below input p.id (held_below later front downs)
          (held-front (later_of later) id_below (IsBoth (later_of later) id_above id_below input p.id) front back downs
          (subst (λ (xs : List (Renamed Addr)). All (IsBoth (later_of later) id_above id_below input p.id) (held_below later xs downs)) e both))
          ∙ sym (ap (held_below later front) downs-more ∙ held-answer (later_of later) id_below front downs p.id)

      pub answered : PairsAreHeld later ids moved (cond p.last (without_oldest output_of_pair p.id pairs) pairs) (above ++ answer ∷ []) (below ++ p ∷ [])
      answered =
          let of = is-of p order in
          let v = of.waits in
          record {
            small = is.small;
            entries =
                sym (ap (map pair_held) held-after ∙ pairs-once p.id held_ones v of.others of.first
                ∙ ap (λ (b : Bool). cond b (without_oldest output_of_pair p.id (map pair_held held_ones)) (map pair_held held_ones)) (sym (ap (λ (z : Reply). z.last) of.next))
                ∙ ap (λ (ps : List IdPair). cond p.last (without_oldest output_of_pair p.id ps) ps) (sym is.entries));
            same = same-after;
            one_output = λ front m between next after e one_id two_ids.
                let before = is.one_output front m between next after e one_id two_ids in
                let more : count_of m.id (map id_of_reply (below ++ p ∷ [])) ≡ count_of m.id downs + count_of m.id (p.id ∷ []) = ap (count_of m.id) downs-more ∙ count_of-append m.id downs (p.id ∷ []) in
                omega (arith, before, more);
            order_above = subst (λ (r : Reply). InOrderOfId (map (shown_above later) moved) (above ++ r ∷ []))
                (ap (λ (k : ℕ). record { number = v.request.beat.tag.txn; id = k; last = v.done == later v.request.beat.len }) (input-of of)
                ∙ ap (λ (z : Reply). record { number = z.number; id = input; last = z.last }) (sym of.next))
                (answer_keeps_order (map (shown_above later) moved) above input (waiting_shown (shown_above later) v) (map (waiting_shown (shown_above later)) of.others) is.order_above
                (ap (of_key id_of_waiting input) shown-held_above ∙ of_key-map id_of_waiting (waiting_shown (shown_above later)) input held_ones
                ∙ ap (map (waiting_shown (shown_above later))) (of_key-either (later_of later) id_above id_below input p.id held_ones both ∙ of.first)));
            order_below = order;
          }

    within-above : (id : ℕ) → count_of id ups ≤ beats_by (later_of later) (of_key id_above id moved)
    within-above id = omega (arith, beats-above id moved, answers_within (map (shown_above later) moved) above is.order_above id)

    within-below : (id : ℕ) → count_of id downs ≤ beats_by (later_of later) (of_key id_below id moved)
    within-below id = omega (arith, beats-below id moved, answers_within (map (shown_below later) moved) below is.order_below id)

    -- one more request
    module _ (m : Renamed Addr) (fits : m.id < ids) (stands : StandsFor pairs m.beat.id m.id) where
      both-new : All (IsBoth (later_of later) id_above id_below m.beat.id m.id) held_ones
      both-new = stands-held m.beat.id m.id stands

      held-new : held_below later (moved ++ m ∷ []) downs ≡ held_ones ++ fresh m ∷ []
      held-new = held-request (later_of later) id_below moved downs m (within-below m.id)

      same-new : (front back : List (Renamed Addr)) → moved ++ m ∷ [] ≡ front ++ back → held_above later front ups ≡ held_below later front downs
      same-new front back e = elim (push-split moved m front back e) [
        | inl all ↦
            ap (λ (xs : List (Renamed Addr)). held_above later xs ups) all ∙ held-request (later_of later) id_above moved ups m (within-above m.beat.id)
            ∙ ap (λ (ws : List (Waiting (Renamed Addr))). ws ++ fresh m ∷ []) whole-same
            ∙ sym (ap (λ (xs : List (Renamed Addr)). held_below later xs downs) all ∙ held-new)
        | inr (more, whole) ↦ is.same front more whole
      ]

      -- an earlier request of its ID that isn't answered has its ID below
      before-new : (front : List (Renamed Addr)) (a : Renamed Addr) (between : List (Renamed Addr)) → moved ≡ front ++ a ∷ between → a.beat.id ≡ m.beat.id → a.id ≢ m.id → IsAnsweredBelow later front a downs
      before-new front a between e one_id two_ids = elim (cases_lt (count_of a.id downs) (beats_by (later_of later) (of_key id_below a.id (front ++ a ∷ [])))) [
        | inr ge ↦ ge
        | inl lt ↦
            let all : moved ≡ (front ++ a ∷ []) ++ between = e ∙ sym (append_assoc front (a ∷ []) between) in
            let is_both : All (IsBoth (later_of later) id_above id_below m.beat.id m.id) (held_below later (front ++ a ∷ []) downs) =
            held-front (later_of later) id_below (IsBoth (later_of later) id_above id_below m.beat.id m.id) (front ++ a ∷ []) between downs
            (subst (λ (xs : List (Renamed Addr)). All (IsBoth (later_of later) id_above id_below m.beat.id m.id) (held_below later xs downs)) all both-new) in
            let its = last-held (later_of later) id_above id_below (λ x. (x.beat.id ≡ m.beat.id) ↔ (x.id ≡ m.id)) front a downs lt is_both in
            absurd (two_ids (its.0 one_id))
      ]

      one_output-new : (front : List (Renamed Addr)) (a : Renamed Addr) (between : List (Renamed Addr)) (next : Renamed Addr) (after : List (Renamed Addr)) →
          moved ++ m ∷ [] ≡ (front ++ a ∷ between) ++ next ∷ after → a.beat.id ≡ next.beat.id → a.id ≢ next.id → IsAnsweredBelow later front a downs
      one_output-new front a between next after e one_id two_ids = elim (cut-push moved m (front ++ a ∷ between) next after e) [
        | inl (whole, last) ↦ before-new front a between whole (one_id ∙ ap id_above (sym last)) (λ h. two_ids (h ∙ ap id_below last))
        | inr (rest, whole) ↦ is.one_output front a between next rest whole one_id two_ids
      ]

      order-more : (shown : Renamed Addr → Asked) (replies : List Reply) → InOrderOfId (map shown moved) replies → InOrderOfId (map shown (moved ++ m ∷ [])) replies
      order-more shown replies order =
          in_order_goes_up (subst (λ (xs : List Asked). IsPrefix (map shown moved) xs) (sym (map-append shown moved (m ∷ []))) (prefix_append (map shown moved) (shown m ∷ []))) (prefix_itself replies) order

      pub requested : PairsAreHeld later ids (moved ++ m ∷ []) (pairs ++ ids_of_request m ∷ []) above below
      requested = record {
        small = All-push (λ (x : Renamed Addr). x.id < ids) moved m is.small fits;
        entries = ap (λ (ps : List IdPair). ps ++ ids_of_request m ∷ []) is.entries ∙ sym (map-append pair_held held_ones (fresh m ∷ [])) ∙ ap (map pair_held) (sym held-new);
        same = same-new;
        one_output = one_output-new;
        order_above = order-more (shown_above later) above is.order_above;
        order_below = order-more (shown_below later) below is.order_below;
      }
