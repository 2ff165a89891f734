-- What is known of a beat that moves at a mux, and what its move does to the lists of what was passed.
use Rattle.std.proofs.Common.{[], ◌++◌, ◌/◌, ◌<◌, ◌∙◌, ◌∷◌, ◌≡◌, ◌≢◌, Bool, List, None, Option, Some, ap, append-nil, cond, eq-eqb, false, inl, inr, length, map, refl, subst, sym, take, true, ℕ}
use Rattle.std.specs.Option.{option_and_then, option_map_or}
use Rattle.std.specs.Prelude.{IfSome, is_some, option_map, slice_get}
use Rattle.std.proofs.lemmas.Bool.{cases_eq, ltb-true, ne_eqb}
use Rattle.std.proofs.lemmas.List.{map-append}
use Rattle.std.proofs.lemmas.Option.{none-some, same_Some}
use Rattle.axi_link.specs.LinkView.{LinkView}
use Rattle.axi_link.specs.LinkWords.{has_room, head_of, link_of}
use Rattle.axi_link.specs.Moves.{appended, takes_from}
use Rattle.axi_trail.specs.SelectionLaws.{goes_way}
use Rattle.axi_trail.specs.Trail.{beat_taken}
use Rattle.mux_node.specs.MuxTable.{Moved, answered, input_offer, offered_in_turn, put_on_input, put_on_lower, sent_back, take_of_input, take_of_lower}
use Rattle.mux_node.specs.MuxTrail.{at_input}
use Rattle.node_core.specs.Rows.{beat_where}
use Rattle.node_core.specs.Turn.{TurnState, first_in_turn}
use Rattle.node_shape.specs.WaysAround.{AreApart}
use Rattle.plain_lists.proofs.KeyLemmas.{filter-push, filter-push_skip, of_key-push, of_key-push_other}
use Rattle.plain_lists.specs.Keys.{of_key, selected}

-- what holds of each answer holds of the one that is chosen
pub and_then-has : {A B : Type 0} (P : B → Type 0) (f : A → Option B) → ((a : A) → IfSome (f a) P) → (o : Option A) → IfSome (option_and_then f o) P
and_then-has P f each None = tt
and_then-has P f each (Some a) = each a

-- ---- requests and write data

module _ {X : Type 0} (queue_of : LinkView → List X) (links : List LinkView) (uppers : List ℕ) where
  -- a beat that is offered stands at the head of its input's link
  pub record IsOffered (m : Moved X) : Type 0 where
    pub link : slice_get uppers m.input ≡ Some m.link
    pub head : head_of (queue_of (link_of links m.link)) ≡ Some m.beat

  pub offered-is : (input : ℕ) → IfSome (input_offer queue_of links uppers input) (λ m. IsOffered m × (m.input ≡ input))
  offered-is input = go (slice_get uppers input) refl
    where
      here : (link : ℕ) → slice_get uppers input ≡ Some link → (h : Option X) → head_of (queue_of (link_of links link)) ≡ h →
          IfSome (option_map (λ beat. record { input = input; link = link; beat = beat }) h) (λ m. IsOffered m × (m.input ≡ input))
      here link at None is = tt
      here link at (Some beat) is = (record { link = at; head = is }, refl)

      go : (o : Option ℕ) → slice_get uppers input ≡ o →
          IfSome (option_and_then (λ link. option_map (λ beat. record { input = input; link = link; beat = beat }) (head_of (queue_of (link_of links link)))) o) (λ m. IsOffered m × (m.input ≡ input))
      go None at = tt
      go (Some link) at = here link at (head_of (queue_of (link_of links link))) refl

  pub in_turn-is : (turn : TurnState) → IfSome (offered_in_turn queue_of links uppers turn) IsOffered
  in_turn-is turn =
      and_then-has IsOffered (input_offer queue_of links uppers) (λ input. only input (input_offer queue_of links uppers input) (offered-is input)) (first_in_turn (λ input. is_some (input_offer queue_of links uppers input)) turn)
    where
      only : (input : ℕ) (o : Option (Moved X)) → IfSome o (λ m. IsOffered m × (m.input ≡ input)) → IfSome o IsOffered
      only input None is = tt
      only input (Some m) is = is.0

  -- what is taken of a link
  abbrev pub taken : Option (Moved X) → ℕ → List X
  taken row link = beat_taken (takes_from link (take_of_input row)) (queue_of (link_of links link))

  first-of : (beat : X) (queue : List X) → head_of queue ≡ Some beat → take 1 queue ≡ beat ∷ []
  first-of beat [] is = absurd (none-some beat is)
  first-of beat (x ∷ queue) is = ap (λ (y : X). y ∷ []) (same_Some x beat is)

  pub taken-here : (m : Moved X) → IsOffered m → taken (Some m) m.link ≡ m.beat ∷ []
  taken-here m is = ap (λ (b : Bool). beat_taken b (queue_of (link_of links m.link))) (eq-eqb m.link m.link refl) ∙ first-of m.beat (queue_of (link_of links m.link)) is.head

  pub taken-there : (m : Moved X) (link : ℕ) → m.link ≢ link → taken (Some m) link ≡ []
  taken-there m link other = ap (λ (b : Bool). beat_taken b (queue_of (link_of links link))) (ne_eqb m.link link other)

  module _ (number_of : X → ℕ) (changed : ℕ → X → X) (keeps : (j : ℕ) (x : X) → number_of (changed j x) ≡ number_of x) (route : ℕ → ℕ) (apart : AreApart uppers) (lower : ℕ) where
    pub put-is : (m : Moved X) → appended lower (put_on_lower changed lower (Some m)) ≡ changed m.input m.beat ∷ []
    put-is m = ap (λ (b : Bool). cond b (changed m.input m.beat ∷ []) []) (eq-eqb lower lower refl)

    -- of each input, what was put below stays what was taken of it
    pub requests-step : (row : Option (Moved X)) → IfSome row (λ m. IsOffered m × (route (number_of m.beat) ≡ m.input)) → (below : List X) (above : ℕ → List X) (j : ℕ) →
        selected number_of (goes_way route j) below ≡ map (changed j) (at_input uppers above j) →
        selected number_of (goes_way route j) (below ++ appended lower (put_on_lower changed lower row)) ≡ map (changed j) (at_input uppers (λ link. above link ++ taken row link) j)
    requests-step None is below above j same =
        ap (selected number_of (goes_way route j)) (append-nil below) ∙ same ∙ ap (map (changed j)) (more (slice_get uppers j))
      where
        more : (o : Option ℕ) → option_map_or above o [] ≡ option_map_or (λ link. above link ++ []) o []
        more None = refl
        more (Some link) = sym (append-nil (above link))
    requests-step (Some m) is below above j same = ap (λ (ys : List X). selected number_of (goes_way route j) (below ++ ys)) (put-is m) ∙ go (slice_get uppers j) refl same
      where
        y : X
        y = changed m.input m.beat

        by : route (number_of (changed m.input m.beat)) ≡ m.input
        by = ap route (keeps m.input m.beat) ∙ is.1

        others : j ≢ m.input → selected number_of (goes_way route j) (below ++ changed m.input m.beat ∷ []) ≡ selected number_of (goes_way route j) below
        others ne = filter-push_skip (λ (x : X). goes_way route j (number_of x)) below (changed m.input m.beat) (ne_eqb (route (number_of (changed m.input m.beat))) j (λ e. ne (sym e ∙ by)))

        go : (o : Option ℕ) → slice_get uppers j ≡ o → selected number_of (goes_way route j) below ≡ map (changed j) (option_map_or above o []) →
            selected number_of (goes_way route j) (below ++ changed m.input m.beat ∷ []) ≡ map (changed j) (option_map_or (λ link. above link ++ taken (Some m) link) o [])
        go None at same = others (λ e. none-some m.link (sym at ∙ ap (slice_get uppers) e ∙ is.0.link)) ∙ same
        go (Some link) at same = elim (cases_eq j m.input) [
          | inl e ↦
              let here : m.link ≡ link = same_Some m.link link (sym is.0.link ∙ ap (slice_get uppers) (sym e) ∙ at) in
              let came : taken (Some m) link ≡ m.beat ∷ [] = subst (λ (l : ℕ). taken (Some m) l ≡ m.beat ∷ []) here (taken-here m is.0) in
              filter-push (λ (x : X). goes_way route j (number_of x)) below (changed m.input m.beat) (eq-eqb (route (number_of (changed m.input m.beat))) j (by ∙ sym e))
              ∙ ap (λ (ys : List X). ys ++ changed m.input m.beat ∷ []) same
              ∙ ap (λ (i : ℕ). map (changed j) (above link) ++ changed i m.beat ∷ []) (sym e)
              ∙ sym (map-append (changed j) (above link) (m.beat ∷ []))
              ∙ ap (λ (ys : List X). map (changed j) (above link ++ ys)) (sym came)
          | inr ne ↦
              let far : m.link ≢ link = λ e. ne (apart j m.input link at (is.0.link ∙ ap Some e)) in
              others ne ∙ same ∙ ap (map (changed j)) (sym (append-nil (above link)) ∙ ap (λ (ys : List X). above link ++ ys) (sym (taken-there m link far)))
        ]

-- ---- answers

module _ {X : Type 0} (queue_of : LinkView → List X) (id_of : X → ℕ) (links : List LinkView) (uppers : List ℕ) (lower ids : ℕ) where
  pub record IsAnswer (m : Moved X) : Type 0 where
    pub input : m.input ≡ id_of m.beat / ids
    pub link : slice_get uppers m.input ≡ Some m.link
    pub head : head_of (queue_of (link_of links lower)) ≡ Some m.beat
    pub room_there : length (queue_of (link_of links m.link)) < (link_of links m.link).depth

  pub answered-is : IfSome (answered queue_of id_of links uppers lower ids) IsAnswer
  answered-is = go (head_of (queue_of (link_of links lower))) refl
    where
      ids-at : (link : ℕ) (beat : X) → head_of (queue_of (link_of links lower)) ≡ Some beat → slice_get uppers (id_of beat / ids) ≡ Some link →
          (b : Bool) → has_room (link_of links link).depth (queue_of (link_of links link)) ≡ b →
          IfSome (beat_where b (Some (record { input = id_of beat / ids; link = link; beat = beat }))) IsAnswer
      ids-at link beat head at true is = record { input = refl; link = at; head = head; room_there = ltb-true (length (queue_of (link_of links link))) (link_of links link).depth is }
      ids-at link beat head at false is = tt

      to : (beat : X) → head_of (queue_of (link_of links lower)) ≡ Some beat → (o : Option ℕ) → slice_get uppers (id_of beat / ids) ≡ o →
          IfSome (option_and_then (λ link. beat_where (has_room (link_of links link).depth (queue_of (link_of links link))) (Some (record { input = id_of beat / ids; link = link; beat = beat }))) o) IsAnswer
      to beat head None at = tt
      to beat head (Some link) at = ids-at link beat head at (has_room (link_of links link).depth (queue_of (link_of links link))) refl

      go : (o : Option X) → head_of (queue_of (link_of links lower)) ≡ o → IfSome (option_and_then (sent_back queue_of id_of links uppers lower ids) o) IsAnswer
      go None is = tt
      go (Some beat) is = to beat is (slice_get uppers (id_of beat / ids)) refl

  module _ (changed : X → X) (apart : AreApart uppers) where
    came-is : (m : Moved X) → IsAnswer m → beat_taken (takes_from lower (take_of_lower lower (Some m))) (queue_of (link_of links lower)) ≡ m.beat ∷ []
    came-is m is = ap (λ (b : Bool). beat_taken b (queue_of (link_of links lower))) (eq-eqb lower lower refl) ∙ first (queue_of (link_of links lower)) is.head
      where
        first : (queue : List X) → head_of queue ≡ Some m.beat → take 1 queue ≡ m.beat ∷ []
        first [] is = absurd (none-some m.beat is)
        first (x ∷ queue) is = ap (λ (y : X). y ∷ []) (same_Some x m.beat is)

    -- each input has put the answers with its number in their IDs
    pub answers-step : (row : Option (Moved X)) → IfSome row IsAnswer → (below : List X) (above : ℕ → List X) (j : ℕ) →
        at_input uppers above j ≡ map changed (of_key (λ x. id_of x / ids) j below) →
        at_input uppers (λ link. above link ++ appended link (put_on_input changed row)) j
        ≡ map changed (of_key (λ x. id_of x / ids) j (below ++ beat_taken (takes_from lower (take_of_lower lower row)) (queue_of (link_of links lower))))
    answers-step None is below above j same =
        more (slice_get uppers j) ∙ same ∙ ap (λ (ys : List X). map changed (of_key (λ x. id_of x / ids) j ys)) (sym (append-nil below))
      where
        more : (o : Option ℕ) → option_map_or (λ link. above link ++ []) o [] ≡ option_map_or above o []
        more None = refl
        more (Some link) = append-nil (above link)
    answers-step (Some m) is below above j same =
        go (slice_get uppers j) refl same ∙ ap (λ (ys : List X). map changed (of_key (λ x. id_of x / ids) j (below ++ ys))) (sym (came-is m is))
      where
        others : j ≢ m.input → of_key (λ (x : X). id_of x / ids) j (below ++ m.beat ∷ []) ≡ of_key (λ (x : X). id_of x / ids) j below
        others ne = of_key-push_other (λ (x : X). id_of x / ids) j below m.beat (λ e. ne (sym e ∙ sym is.input))

        go : (o : Option ℕ) → slice_get uppers j ≡ o → option_map_or above o [] ≡ map changed (of_key (λ x. id_of x / ids) j below) →
            option_map_or (λ link. above link ++ appended link (put_on_input changed (Some m))) o [] ≡ map changed (of_key (λ x. id_of x / ids) j (below ++ m.beat ∷ []))
        go None at same = same ∙ ap (map changed) (sym (others (λ e. none-some m.link (sym at ∙ ap (slice_get uppers) e ∙ is.link))))
        go (Some link) at same = elim (cases_eq j m.input) [
          | inl e ↦
              let here : m.link ≡ link = same_Some m.link link (sym is.link ∙ ap (slice_get uppers) (sym e) ∙ at) in
              ap (λ (b : Bool). above link ++ cond b (changed m.beat ∷ []) []) (eq-eqb m.link link here)
              ∙ ap (λ (ys : List X). ys ++ changed m.beat ∷ []) same
              ∙ sym (map-append changed (of_key (λ x. id_of x / ids) j below) (m.beat ∷ []))
              ∙ ap (map changed) (sym (of_key-push (λ (x : X). id_of x / ids) j below m.beat (sym is.input ∙ sym e)))
          | inr ne ↦
              let far : m.link ≢ link = λ e. ne (apart j m.input link at (is.link ∙ ap Some e)) in
              ap (λ (b : Bool). above link ++ cond b (changed m.beat ∷ []) []) (ne_eqb m.link link far)
              ∙ append-nil (above link) ∙ same ∙ ap (map changed) (sym (others ne))
        ]
