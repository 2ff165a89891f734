-- The entries of one direction, over requests and answers.
use Rattle.std.proofs.Common.{◌≡◌, ◌≢◌, ◌==◌, ℕ, Bool, true, false, cond, List, [], ◌∷◌, ◌++◌, length, map, refl, sym, ◌∙◌, ap, ap₂, subst, inl, inr, arith, eq-eqb, Contains}
use Rattle.std.specs.Prelude.{All, filter}
use Rattle.std.proofs.lemmas.Bool.{cases_eq, cases_lt, eqb-true, ne_eqb}
use Rattle.std.proofs.lemmas.List.{map-append}
use Rattle.std.proofs.lemmas.List.Elements.{All-cons, All-contains, All-contains_itself, All-head, All-tail, All-weaker}
use Rattle.axi_trail.proofs.HeldFacts.{held-answer, once-other, once-own, unanswered_is_held}
use Rattle.axi_trail.proofs.SlackFacts.{answered_grows, in_order_goes_up}
use Rattle.axi_trail.proofs.StepFacts.{answer_keeps_order, first_has_id, held_of_selected, later_requests_are_held, next_answer}
use Rattle.axi_trail.proofs.WaitingFacts.{advanced-last, advanced-more}
use Rattle.axi_trail.specs.LinkContracts.{OneIdAtATime}
use Rattle.axi_trail.specs.Schedule.{SameChain, Share}
use Rattle.axi_trail.specs.SelectionLaws.{goes_way}
use Rattle.axi_trail.specs.Waiting.{Waiting, answered_once, fresh, held}
use Rattle.axi_trail.specs.Words.{Asked, InOrderOfId, IsAnswered, Reply, beats_due, held_asked, id_of_asked, id_of_reply, id_of_waiting, len_of_asked, next_reply, number_of_asked, number_of_reply, number_of_waiting}
use Rattle.demux_node.proofs.RowLemmas.{KeepToPort}
use Rattle.demux_node.specs.DemuxState.{HaveOnePort}
use Rattle.demux_node.specs.DemuxTable.{id_of_route}
use Rattle.demux_node.specs.DemuxTrail.{RoutesAreHeld, route_of_held}
use Rattle.demux_node.specs.declared.route.Route.{Route}
use Rattle.plain_lists.proofs.CutLemmas.{all-unmap, contains-map, cut-push}
use Rattle.plain_lists.proofs.KeyLemmas.{of_key-cons, of_key-skip}
use Rattle.plain_lists.proofs.PrefixLemmas.{prefix_append, prefix_itself}
use Rattle.plain_lists.proofs.SelectedLemmas.{of_key-selected, selected-passes}
use Rattle.plain_lists.specs.Keys.{of_key, selected, without_oldest}

-- what holds of all holds of those that pass a test
pub all-filter : {X : Type 0} (P : X → Type 0) (test : X → Bool) (xs : List X) → All P xs → All P (filter test xs)
all-filter P test [] all = all
all-filter P test (x ∷ xs) all =
    let go : (b : Bool) → All P (cond b (x ∷ filter test xs) (filter test xs)) =
    elim [ true ↦ All-cons P x (filter test xs) (All-head P x xs all) (all-filter P test xs (All-tail P x xs all)) | false ↦ all-filter P test xs (All-tail P x xs all) ]
    in go (test x)

-- the oldest entry of an ID leaves with the last beat of its answer
entries-answered : (port : ℕ → ℕ) (id : ℕ) (ws : List (Waiting Asked)) (w : Waiting Asked) (others : List (Waiting Asked)) → of_key id_of_waiting id ws ≡ w ∷ others →
    (last : Bool) → last ≡ (w.done == w.request.len) →
    map (route_of_held port) (answered_once len_of_asked id_of_asked id ws) ≡ cond last (without_oldest id_of_route id (map (route_of_held port) ws)) (map (route_of_held port) ws)
entries-answered port id [] w others e last is = absurd (cc)
entries-answered port id (v ∷ ws) w others e last is = elim (cases_eq v.request.id id) [
  | inr other ↦
      let rest = entries-answered port id ws w others (sym (of_key-skip id_of_waiting id v ws other) ∙ e) last is in
      ap (map (route_of_held port)) (once-other len_of_asked id_of_asked id v ws other)
      ∙ ap (λ t. route_of_held port v ∷ t) rest
      ∙ past last (ap (λ b. cond b (map (route_of_held port) ws) (route_of_held port v ∷ without_oldest id_of_route id (map (route_of_held port) ws))) (ne_eqb v.request.id id other))
  | inl own ↦
      let both : v ∷ of_key id_of_waiting id ws ≡ w ∷ others = sym (of_key-cons id_of_waiting id v ws own) ∙ e in
      let first : v ≡ w = cc in
      let same : last ≡ (v.done == v.request.len) = is ∙ ap (λ (u : Waiting Asked). u.done == u.request.len) (sym first) in
      ap (map (route_of_held port)) (once-own len_of_asked id_of_asked id v ws own)
      ∙ elim (cases_eq v.done v.request.len) [
        | inl ends ↦
            ap (map (route_of_held port)) (advanced-last len_of_asked v ws ends)
            ∙ sym (ap (λ b. cond b (map (route_of_held port) ws) (route_of_held port v ∷ without_oldest id_of_route id (map (route_of_held port) ws))) (eq-eqb v.request.id id own))
            ∙ sym (ap (λ b. cond b (without_oldest id_of_route id (map (route_of_held port) (v ∷ ws))) (map (route_of_held port) (v ∷ ws))) (same ∙ eq-eqb v.done v.request.len ends))
        | inr goes_on ↦
            ap (map (route_of_held port)) (advanced-more len_of_asked v ws goes_on)
            ∙ sym (ap (λ b. cond b (without_oldest id_of_route id (map (route_of_held port) (v ∷ ws))) (map (route_of_held port) (v ∷ ws))) (same ∙ ne_eqb v.done v.request.len goes_on))
      ]
]
  where
    past : (b : Bool) → without_oldest id_of_route id (map (route_of_held port) (v ∷ ws)) ≡ route_of_held port v ∷ without_oldest id_of_route id (map (route_of_held port) ws) →
        route_of_held port v ∷ cond b (without_oldest id_of_route id (map (route_of_held port) ws)) (map (route_of_held port) ws)
        ≡ cond b (without_oldest id_of_route id (map (route_of_held port) (v ∷ ws))) (map (route_of_held port) (v ∷ ws))
    past true skips = sym skips
    past false skips = refl

-- where no held request of its ID is of another way, a request comes after the answers to all earlier ones of its chain
-- that went another way
others-answered : (shares : ℕ → Share) (way : ℕ → ℕ) (asked : List Asked) (replies : List Reply) (next : Asked) → OneIdAtATime shares (asked ++ next ∷ []) replies →
    All (λ (w : Waiting Asked). w.request.id ≡ next.id → way w.request.number ≡ way next.number) (held_asked asked replies) →
    (before : List Asked) (a : Asked) (between : List Asked) → asked ≡ before ++ a ∷ between → SameChain shares a.number next.number → way a.number ≢ way next.number →
    IsAnswered before a replies
others-answered shares way asked replies next one keep before a between split same apart =
    let whole : asked ++ next ∷ [] ≡ (before ++ a ∷ between) ++ next ∷ [] = ap (λ (xs : List Asked). xs ++ next ∷ []) split in
    elim (cases_eq a.id next.id) [
      | inr differ ↦ one before a between next [] whole same differ
      | inl equal ↦ elim (cases_lt (length (of_key id_of_reply a.id replies)) (beats_due (of_key id_of_asked a.id (before ++ a ∷ [])))) [
        | inr answered ↦ answered
        | inl lacks ↦
            let there = unanswered_is_held asked replies before a between split (λ answered. absurd (omega (arith, answered, lacks))) in
            absurd (apart (All-contains (λ (w : Waiting Asked). w.request.id ≡ next.id → way w.request.number ≡ way next.number) (held_asked asked replies) (record { request = a; done = there.0 }) keep there.1 equal))
      ]
    ]

module _ (shares : ℕ → Share) (port lower : ℕ → ℕ) (asked : List Asked) (replies : List Reply) (routes : List Route) (is : RoutesAreHeld shares port lower asked replies routes) (one_port : HaveOnePort routes) where
  abbrev way : ℕ → ℕ
  way t = lower (port t)

  -- a held request is an entry
  pub held-entry : (x : Waiting Asked) → Contains (held_asked asked replies) x → Contains routes (route_of_held port x)
  held-entry x has = subst (λ (es : List Route). Contains es (route_of_held port x)) (sym is.entries) (contains-map (route_of_held port) (held_asked asked replies) x has)

  -- one more request, where no entry of its ID has another port
  pub request-held : (a : Asked) → OneIdAtATime shares (asked ++ a ∷ []) replies → KeepToPort a.id (port a.number) routes →
      RoutesAreHeld shares port lower (asked ++ a ∷ []) replies (routes ++ record { id = a.id; port = port a.number } ∷ [])
  request-held a one keep = record {
    entries =
        ap (λ (es : List Route). es ++ record { id = a.id; port = port a.number } ∷ []) is.entries ∙ sym (map-append (route_of_held port) (held_asked asked replies) (fresh a ∷ []))
        ∙ ap (map (route_of_held port)) (sym (later_requests_are_held asked (a ∷ []) replies is.in_order));
    in_order = in_order_goes_up (prefix_append asked (a ∷ [])) (prefix_itself replies) is.in_order;
    others = λ before x between next after split chain differ. elim (cut-push asked a (before ++ x ∷ between) next after split) [
      | inl last ↦
          others-answered shares way asked replies a one held-keep before x between last.0
          (subst (λ (n : Asked). SameChain shares x.number n.number) (sym last.1) chain) (subst (λ (n : Asked). way x.number ≢ way n.number) (sym last.1) differ)
      | inr earlier ↦ is.others before x between next earlier.0 earlier.1 chain differ
    ];
  }
    where
      held-keep : All (λ (w : Waiting Asked). w.request.id ≡ a.id → way w.request.number ≡ way a.number) (held_asked asked replies)
      held-keep =
          All-weaker (λ (w : Waiting Asked). w.request.id ≡ a.id → port w.request.number ≡ port a.number) (λ (w : Waiting Asked). w.request.id ≡ a.id → way w.request.number ≡ way a.number)
          (λ w to own. ap lower (to own)) (held_asked asked replies)
          (all-unmap (λ (e : Route). e.id ≡ a.id → e.port ≡ port a.number) (route_of_held port) (held_asked asked replies)
          (subst (λ (es : List Route). KeepToPort a.id (port a.number) es) is.entries keep))

  -- one more answer beat, at the link by which it comes
  module _ (here : ℕ) (asked_here : List Asked) (replies_here : List Reply) (p : Reply) (asked_is : asked_here ≡ selected number_of_asked (goes_way way here) asked)
      (replies_are : replies_here ≡ selected number_of_reply (goes_way way here) replies) (order : InOrderOfId asked_here (replies_here ++ p ∷ [])) where
    abbrev held_ones : List (Waiting Asked)
    held_ones = held_asked asked replies

    abbrev selects : ℕ → Bool
    selects = goes_way way here

    pub held-are : held_asked asked_here replies_here ≡ selected number_of_waiting selects held_ones
    held-are = ap₂ (λ (xs : List Asked) (ys : List Reply). held_asked xs ys) asked_is replies_are ∙ sym (held_of_selected selects asked replies is.in_order)

    -- the request that is answered
    pub record IsNext : Type 0 where
      pub w : Waiting Asked
      pub others : List (Waiting Asked)
      pub first_here : of_key id_of_waiting p.id (held_asked asked_here replies_here) ≡ w ∷ others
      pub reply : p ≡ next_reply w
      pub held : Contains held_ones w
      pub goes : way w.request.number ≡ here
      pub own : w.request.id ≡ p.id

    pub is-next : IsNext
    is-next =
        let answer = next_answer asked_here replies_here p order in
        let w = answer.0 in
        let same : of_key id_of_waiting p.id (selected number_of_waiting selects held_ones) ≡ w ∷ answer.1 = ap (of_key id_of_waiting p.id) (sym held-are) ∙ answer.2 in
        let first : (P : Waiting Asked → Type 0) → All P (selected number_of_waiting selects held_ones) → P w = λ P all.
        All-head P w answer.1 (subst (λ (xs : List (Waiting Asked)). All P xs) same (all-filter P (λ (x : Waiting Asked). x.request.id == p.id) (selected number_of_waiting selects held_ones) all)) in
        record {
          w = w;
          others = answer.1;
          first_here = answer.2;
          reply = answer.3;
          held = first (Contains held_ones) (all-filter (Contains held_ones) (λ (x : Waiting Asked). selects (number_of_waiting x)) held_ones (All-contains_itself held_ones));
          goes = eqb-true (way w.request.number) here (first (λ (x : Waiting Asked). selects x.request.number ≡ true) (selected-passes number_of_waiting selects held_ones));
          own = first_has_id (held_asked asked_here replies_here) p.id w answer.1 answer.2;
        }

    -- all entries of its ID are of a port there
    pub entry-here : (e : Route) → Contains routes e → e.id ≡ p.id → lower e.port ≡ here
    entry-here e has own = let n = is-next in ap lower (one_port e (route_of_held port n.w) has (held-entry n.w n.held) (own ∙ sym n.own)) ∙ n.goes

    -- all that are held of its ID went there
    pub held-here : All (λ (x : Waiting Asked). x.request.id ≡ p.id → selects x.request.number ≡ true) held_ones
    held-here =
        All-weaker (Contains held_ones) (λ (x : Waiting Asked). x.request.id ≡ p.id → selects x.request.number ≡ true)
        (λ x has own. eq-eqb (way x.request.number) here (entry-here (route_of_held port x) (held-entry x has) own)) held_ones (All-contains_itself held_ones)

    pub held-same : of_key id_of_waiting p.id held_ones ≡ of_key id_of_waiting p.id (held_asked asked_here replies_here)
    held-same = sym (ap (of_key id_of_waiting p.id) held-are ∙ of_key-selected id_of_waiting number_of_waiting selects p.id held_ones held-here)

    pub answer-goes : way p.number ≡ here
    answer-goes = let n = is-next in ap (λ (q : Reply). way q.number) n.reply ∙ n.goes

    pub answer-held : RoutesAreHeld shares port lower asked (replies ++ p ∷ []) (cond p.last (without_oldest id_of_route p.id routes) routes)
    answer-held =
        let n = is-next in
        let first : of_key id_of_waiting p.id held_ones ≡ n.w ∷ n.others = held-same ∙ n.first_here in
        let left : map (route_of_held port) (held_asked asked (replies ++ p ∷ [])) ≡ cond p.last (without_oldest id_of_route p.id routes) routes =
        ap (λ (ids : List ℕ). map (route_of_held port) (held len_of_asked id_of_asked asked ids)) (map-append id_of_reply replies (p ∷ []))
        ∙ ap (map (route_of_held port)) (held-answer len_of_asked id_of_asked asked (map id_of_reply replies) p.id)
        ∙ entries-answered port p.id held_ones n.w n.others first p.last (ap (λ (q : Reply). q.last) n.reply)
        ∙ ap (λ (es : List Route). cond p.last (without_oldest id_of_route p.id es) es) (sym is.entries) in
        record {
          entries = sym left;
          in_order = subst (λ (q : Reply). InOrderOfId asked (replies ++ q ∷ [])) (sym n.reply) (answer_keeps_order asked replies p.id n.w n.others is.in_order first);
          others = λ before x between next after split chain differ. answered_grows before x (prefix_append replies (p ∷ [])) (is.others before x between next after split chain differ);
        }
