-- A mux keeps what it keeps for one more round.
-- ---- at the start
use Rattle.std.proofs.Common.{[], ◌++◌, ◌+◌, ◌<◌, ◌^◌, ◌∙◌, ◌∷◌, ◌≡◌, ◌≢◌, ◌≤◌, List, None, Option, Some, ap, append-nil, arith, cond, drop, inl, inr, length, length-append, map, refl, subst, sym, ℕ}
use Rattle.std.specs.Option.{option_and_then, option_map_or}
use Rattle.std.specs.Prelude.{All, IfSome, flat_map, slice_get}
use Rattle.std.proofs.Math.Nat.{pow-le-pow_right}
use Rattle.std.proofs.lemmas.Bool.{cases_eq}
use Rattle.std.proofs.lemmas.List.{length-map, map-id}
use Rattle.std.proofs.lemmas.List.Elements.{All-nil, All-weaker}
use Rattle.std.proofs.lemmas.Option.{none-some, same_Some}
use Rattle.axi_beats.specs.declared.beat.Addr.{Addr}
use Rattle.axi_beats.specs.declared.beat.WBeat.{WBeat}
use Rattle.axi_link.specs.LinkView.{LinkView}
use Rattle.axi_link.specs.LinkWords.{head_of}
use Rattle.axi_link.specs.Moves.{appended}
use Rattle.axi_trail.specs.LinkContracts.{Asks, without_id}
use Rattle.axi_trail.specs.Schedule.{Progress, Schedule, Share, no_share}
use Rattle.axi_trail.specs.SelectionLaws.{goes_way}
use Rattle.axi_trail.specs.Trail.{Beats, Trail, joined, moved_above, moved_below, no_beats}
use Rattle.axi_trail.specs.Words.{Mark, burst_asked, mark_of_data, marks, marks_of, number_of_address, number_of_data}
use Rattle.mux_node.proofs.OrderLemmas.{mux-takes_address, mux-takes_data}
use Rattle.mux_node.proofs.RowLemmas.{IsOffered, answered-is, answers-step, in_turn-is, offered-is, put-is, requests-step, taken, taken-here}
use Rattle.mux_node.specs.MuxState.{MuxShape, MuxState, new_mux}
use Rattle.mux_node.specs.MuxTable.{Moved, ends_burst, granted_left, granted_more, ids_of, input_moved, mux_ar, mux_aw, mux_b, mux_next, mux_out, mux_r, mux_w, narrowed_b, narrowed_r, input_offer, offered_in_turn, put_on_lower, unchanged, widened}
use Rattle.mux_node.specs.MuxTrail.{AreMerged, IsGrantedInOrder, Merges, MuxKeeps, MuxSuits, at_input, share_at_input}
use Rattle.node_core.proofs.RowLemmas.{beat_where-has}
use Rattle.plain_lists.proofs.KeyLemmas.{of_key-push}
use Rattle.plain_lists.proofs.PlaceLemmas.{at-all}
use Rattle.plain_lists.proofs.PrefixLemmas.{Agree_fronts, prefix_append, prefix_flat_map, prefix_itself, prefix_length, prefix_map, prefix_same}
use Rattle.plain_lists.specs.Keys.{of_key, selected}
use Rattle.plain_lists.specs.Prefixes.{Agree, IsPrefix}

abbrev none_of : (X : Type 0) → ℕ → List X
none_of X link = []

empty-inputs : {X : Type 0} (uppers : List ℕ) (j : ℕ) → at_input uppers (none_of X) j ≡ []
empty-inputs {X} uppers j = go (slice_get uppers j)
  where
    go : (o : Option ℕ) → option_map_or (none_of X) o [] ≡ []
    go None = refl
    go (Some link) = refl

opens-merged : (route : ℕ → ℕ) (ids : ℕ) (uppers : List ℕ) → AreMerged route ids [] (at_input uppers (none_of Addr))
opens-merged route ids uppers = record {
  parts = λ j. ap (map (widened ids j)) (sym (empty-inputs uppers j));
  small = λ j. subst (λ (xs : List Addr). All (λ (a : Addr). a.id < ids) xs) (sym (empty-inputs uppers j)) (All-nil (λ (a : Addr). a.id < ids));
}

pub begins-keeping : (schedules : ℕ → Schedule) (shape : MuxShape) → MuxSuits schedules shape → MuxKeeps schedules (new_mux shape) (λ link. no_beats) no_beats
begins-keeping schedules shape suits = record {
  suits = suits;
  aw = opens-merged suits.write_route (ids_of shape) shape.uppers;
  ar = opens-merged suits.read_route (ids_of shape) shape.uppers;
  w = λ j. sym (empty-inputs shape.uppers j);
  order = record { in_order = prefix_itself []; waiting = refl };
  b = λ j. empty-inputs shape.uppers j;
  r = λ j. empty-inputs shape.uppers j;
}

-- ---- by which input a beat comes

-- what comes by an input is routed there
some-there : {X Y : Type 0} (number_of : X → ℕ) (xs : List X) (x : X) (ys : List Y) → length ys ≡ 0 → length (of_key number_of (number_of x) (xs ++ x ∷ [])) ≤ length ys → ⊥
some-there number_of xs x ys none few =
    let more : length (of_key number_of (number_of x) (xs ++ x ∷ [])) ≡ length (of_key number_of (number_of x) xs) + 1 =
    ap length (of_key-push number_of (number_of x) xs x refl) ∙ length-append (of_key number_of (number_of x) xs) (x ∷ []) in
    absurd (omega (arith, none, few, more))

pub share-there : (uppers : List ℕ) (shares : ℕ → ℕ → Share) (input link t : ℕ) → slice_get uppers input ≡ Some link → share_at_input uppers shares input t ≡ shares link t
share-there uppers shares input link t at = ap (λ (o : Option ℕ). option_map_or (λ l. shares l t) o no_share) at

module _ (route : ℕ → ℕ) (uppers : List ℕ) (shares : ℕ → ℕ → Share) (below : ℕ → Share) (merges : Merges route (share_at_input uppers shares) below) (input link : ℕ) (at : slice_get uppers input ≡ Some link) where
  pub empty-share : (t : ℕ) → route t ≢ input → shares link t ≡ no_share
  empty-share t other = sym (share-there uppers shares input link t at) ∙ merges.elsewhere input t other

  routed-address : (xs : List Addr) (a : Addr) → IsPrefix (map without_id (of_key number_of_address a.tag.txn (xs ++ a ∷ []))) (shares link a.tag.txn).parts → route a.tag.txn ≡ input
  routed-address xs a front = elim (cases_eq (route a.tag.txn) input) [
    | inl e ↦ e
    | inr ne ↦
        let none : length (shares link a.tag.txn).parts ≡ 0 = ap (λ (s : Share). length s.parts) (empty-share a.tag.txn ne) in
        let long : length (map without_id (of_key number_of_address a.tag.txn (xs ++ a ∷ []))) ≡ length (of_key number_of_address a.tag.txn (xs ++ a ∷ [])) = length-map (of_key number_of_address a.tag.txn (xs ++ a ∷ [])) without_id in
        absurd (some-there number_of_address xs a (shares link a.tag.txn).parts none (omega (arith, prefix_length front, long)))
  ]

  routed-data : (xs : List WBeat) (w : WBeat) → IsPrefix (of_key number_of_data w.tag.txn (xs ++ w ∷ [])) (flat_map (λ beats. beats) (shares link w.tag.txn).write_data) → route w.tag.txn ≡ input
  routed-data xs w front = elim (cases_eq (route w.tag.txn) input) [
    | inl e ↦ e
    | inr ne ↦
        let none : length (flat_map (λ beats. beats) (shares link w.tag.txn).write_data) ≡ 0 = ap (λ (s : Share). length (flat_map (λ beats. beats) s.write_data)) (empty-share w.tag.txn ne) in
        absurd (some-there number_of_data xs w (flat_map (λ beats. beats) (shares link w.tag.txn).write_data) none (prefix_length front))
  ]

-- marks don't tell the ID
pub marks-widened : (ids j : ℕ) (xs : List Addr) → marks (map burst_asked (map (widened ids j) xs)) ≡ marks (map burst_asked xs)
marks-widened ids j [] = refl
marks-widened ids j (x ∷ xs) = ap (λ (ms : List Mark). marks_of (burst_asked x) ++ ms) (marks-widened ids j xs)

-- the trails after a round
abbrev pub mux_uppers : List LinkView → MuxState → Trail → Trail
mux_uppers links s uppers = λ link. joined (uppers link) (moved_below (mux_out links s) links link)

abbrev pub mux_lower : List LinkView → MuxState → Beats → Beats
mux_lower links s lower = joined lower (moved_above (mux_out links s) links s.shape.lower)

-- the first of a list
begins-with : {X : Type 0} (xs : List X) (x : X) → head_of xs ≡ Some x → xs ≡ x ∷ drop 1 xs
begins-with [] x is = absurd (none-some x is)
begins-with (y ∷ xs) x is = ap (λ z. z ∷ xs) (same_Some y x is)

module _ (schedules : ℕ → Schedule) (now : Progress) (links : List LinkView) (s : MuxState) (uppers : Trail) (lower : Beats) (keeps : MuxKeeps schedules s uppers lower) (asked : All (λ link. Asks (schedules link) now (mux_uppers links s uppers link)) s.shape.uppers) where
  abbrev ids : ℕ
  ids = ids_of s.shape

  abbrev aw_row : Option (Moved Addr)
  aw_row = mux_aw links s

  abbrev ar_row : Option (Moved Addr)
  ar_row = mux_ar links s

  abbrev w_row : Option (Moved WBeat)
  w_row = mux_w links s

  asks-at : (input link : ℕ) → slice_get s.shape.uppers input ≡ Some link → Asks (schedules link) now (mux_uppers links s uppers link)
  asks-at input link at = at-all (λ l. Asks (schedules l) now (mux_uppers links s uppers l)) s.shape.uppers input link asked at

  -- each address that moves is routed to its input
  aw-is : IfSome aw_row (IsOffered (λ l. l.aw) links s.shape.uppers)
  aw-is =
      beat_where-has (IsOffered (λ l. l.aw) links s.shape.uppers) _ (offered_in_turn (λ l. l.aw) links s.shape.uppers s.turn_aw) (in_turn-is (λ l. l.aw) links s.shape.uppers s.turn_aw)

  ar-is : IfSome ar_row (IsOffered (λ l. l.ar) links s.shape.uppers)
  ar-is =
      beat_where-has (IsOffered (λ l. l.ar) links s.shape.uppers) _ (offered_in_turn (λ l. l.ar) links s.shape.uppers s.turn_ar) (in_turn-is (λ l. l.ar) links s.shape.uppers s.turn_ar)

  aw-routed : (row : Option (Moved Addr)) → aw_row ≡ row → IfSome row (IsOffered (λ l. l.aw) links s.shape.uppers) → IfSome row (λ m. IsOffered (λ l. l.aw) links s.shape.uppers m × (keeps.suits.write_route (number_of_address m.beat) ≡ m.input))
  aw-routed None row is = tt
  aw-routed (Some m) row is =
      let asks = asks-at m.input m.link is.link in
      let came : taken (λ l. l.aw) links s.shape.uppers aw_row m.link ≡ m.beat ∷ [] = ap (λ (r : Option (Moved Addr)). taken (λ l. l.aw) links s.shape.uppers r m.link) row ∙ taken-here (λ l. l.aw) links s.shape.uppers m is in (
        is,
        routed-address keeps.suits.write_route s.shape.uppers (λ link. (schedules link).writes) (schedules s.shape.lower).writes keeps.suits.writes m.input m.link is.link (uppers m.link).aw m.beat
            (prefix_same (ap (λ (ys : List Addr). map without_id (of_key number_of_address m.beat.tag.txn ((uppers m.link).aw ++ ys))) (sym came)) (asks.writes.asks_only_its_parts m.beat.tag.txn)),
      )

  ar-routed : (row : Option (Moved Addr)) → ar_row ≡ row → IfSome row (IsOffered (λ l. l.ar) links s.shape.uppers) → IfSome row (λ m. IsOffered (λ l. l.ar) links s.shape.uppers m × (keeps.suits.read_route (number_of_address m.beat) ≡ m.input))
  ar-routed None row is = tt
  ar-routed (Some m) row is =
      let asks = asks-at m.input m.link is.link in
      let came : taken (λ l. l.ar) links s.shape.uppers ar_row m.link ≡ m.beat ∷ [] = ap (λ (r : Option (Moved Addr)). taken (λ l. l.ar) links s.shape.uppers r m.link) row ∙ taken-here (λ l. l.ar) links s.shape.uppers m is in (
        is,
        routed-address keeps.suits.read_route s.shape.uppers (λ link. (schedules link).reads) (schedules s.shape.lower).reads keeps.suits.reads m.input m.link is.link (uppers m.link).ar m.beat
            (prefix_same (ap (λ (ys : List Addr). map without_id (of_key number_of_address m.beat.tag.txn ((uppers m.link).ar ++ ys))) (sym came)) (asks.reads.asks_only_its_parts m.beat.tag.txn)),
      )

  -- and so is a beat of data, which is of the first granted input
  pub record IsGranted (m : Moved WBeat) : Type 0 where
    pub is : IsOffered (λ l. l.w) links s.shape.uppers m
    pub granted : s.granted ≡ m.input ∷ drop 1 s.granted

  w-granted : IfSome w_row IsGranted
  w-granted = beat_where-has IsGranted _ (option_and_then (input_offer (λ l. l.w) links s.shape.uppers) (head_of s.granted)) (go (head_of s.granted) refl)
    where
      one : (input : ℕ) → head_of s.granted ≡ Some input → (r : Option (Moved WBeat)) → IfSome r (λ m. IsOffered (λ l. l.w) links s.shape.uppers m × (m.input ≡ input)) → IfSome r IsGranted
      one input first None is = tt
      one input first (Some m) is = record { is = is.0; granted = begins-with s.granted m.input (first ∙ ap Some (sym is.1)) }

      go : (o : Option ℕ) → head_of s.granted ≡ o → IfSome (option_and_then (input_offer (λ l. l.w) links s.shape.uppers) o) IsGranted
      go None first = tt
      go (Some input) first = one input first (input_offer (λ l. l.w) links s.shape.uppers input) (offered-is (λ l. l.w) links s.shape.uppers input)

  w-came : (m : Moved WBeat) → w_row ≡ Some m → IsGranted m → taken (λ l. l.w) links s.shape.uppers w_row m.link ≡ m.beat ∷ []
  w-came m row is = ap (λ (r : Option (Moved WBeat)). taken (λ l. l.w) links s.shape.uppers r m.link) row ∙ taken-here (λ l. l.w) links s.shape.uppers m is.is

  w-routed : (row : Option (Moved WBeat)) → w_row ≡ row → IfSome row IsGranted → IfSome row (λ m. IsOffered (λ l. l.w) links s.shape.uppers m × (keeps.suits.write_route (number_of_data m.beat) ≡ m.input))
  w-routed None row is = tt
  w-routed (Some m) row is =
      let asks = asks-at m.input m.link is.is.link in (
        is.is,
        routed-data keeps.suits.write_route s.shape.uppers (λ link. (schedules link).writes) (schedules s.shape.lower).writes keeps.suits.writes m.input m.link is.is.link (uppers m.link).w m.beat
            (prefix_same (ap (λ (ys : List WBeat). of_key number_of_data m.beat.tag.txn ((uppers m.link).w ++ ys)) (sym (w-came m row is))) (asks.data_is_the_schedules m.beat.tag.txn)),
      )

  -- IDs are small at each input
  small-at : (shown : Beats → List Addr) → ((link : ℕ) → Asks (schedules link) now (mux_uppers links s uppers link) → All (λ (a : Addr). a.id < 2 ^ (schedules link).id_width) (shown (mux_uppers links s uppers link))) →
      (j : ℕ) → All (λ (a : Addr). a.id < ids) (at_input s.shape.uppers (λ link. shown (mux_uppers links s uppers link)) j)
  small-at shown fit j = go (slice_get s.shape.uppers j) refl
    where
      go : (o : Option ℕ) → slice_get s.shape.uppers j ≡ o → All (λ (a : Addr). a.id < ids) (option_map_or (λ link. shown (mux_uppers links s uppers link)) o [])
      go None at = All-nil (λ (a : Addr). a.id < ids)
      go (Some link) at =
          let narrow : (schedules link).id_width ≤ s.shape.width = at-all (λ l. (schedules l).id_width ≤ s.shape.width) s.shape.uppers j link keeps.suits.narrow at in
          let most : 2 ^ (schedules link).id_width ≤ ids_of s.shape = pow-le-pow_right {n = 2} (omega arith) {i = (schedules link).id_width} {j = s.shape.width} narrow in
          All-weaker (λ (a : Addr). a.id < 2 ^ (schedules link).id_width) (λ (a : Addr). a.id < ids) (λ a is. omega (arith, is, most)) (shown (mux_uppers links s uppers link)) (fit link (asks-at j link at))

  aw-next : AreMerged keeps.suits.write_route ids (mux_lower links s lower).aw (at_input s.shape.uppers (λ link. (mux_uppers links s uppers link).aw))
  aw-next = record {
    parts = λ j.
        requests-step (λ l. l.aw) links s.shape.uppers number_of_address (widened ids) (λ i x. refl) keeps.suits.write_route keeps.suits.apart s.shape.lower aw_row (aw-routed aw_row refl aw-is)
        lower.aw (λ link. (uppers link).aw) j (keeps.aw.parts j);
    small = small-at (λ trail. trail.aw) (λ link asks. asks.writes.ids_fit);
  }

  ar-next : AreMerged keeps.suits.read_route ids (mux_lower links s lower).ar (at_input s.shape.uppers (λ link. (mux_uppers links s uppers link).ar))
  ar-next = record {
    parts = λ j.
        requests-step (λ l. l.ar) links s.shape.uppers number_of_address (widened ids) (λ i x. refl) keeps.suits.read_route keeps.suits.apart s.shape.lower ar_row (ar-routed ar_row refl ar-is)
        lower.ar (λ link. (uppers link).ar) j (keeps.ar.parts j);
    small = small-at (λ trail. trail.ar) (λ link asks. asks.reads.ids_fit);
  }

  w-next : (j : ℕ) → selected number_of_data (goes_way keeps.suits.write_route j) (mux_lower links s lower).w ≡ at_input s.shape.uppers (λ link. (mux_uppers links s uppers link).w) j
  w-next j =
      requests-step (λ l. l.w) links s.shape.uppers number_of_data unchanged (λ i x. refl) keeps.suits.write_route keeps.suits.apart s.shape.lower w_row (w-routed w_row refl w-granted)
      lower.w (λ link. (uppers link).w) j (keeps.w j ∙ sym (map-id (at_input s.shape.uppers (λ link. (uppers link).w) j)))
      ∙ map-id (at_input s.shape.uppers (λ link. (mux_uppers links s uppers link).w) j)

  -- the list: a beat of data first
  data-order : (row : Option (Moved WBeat)) → w_row ≡ row → IfSome row IsGranted → IsGrantedInOrder keeps.suits.write_route (granted_left (ends_burst row) s.granted) lower.aw (lower.w ++ appended s.shape.lower (put_on_lower unchanged s.shape.lower row))
  data-order None row is = subst (λ (ws : List WBeat). IsGrantedInOrder keeps.suits.write_route s.granted lower.aw ws) (sym (append-nil lower.w)) keeps.order
  data-order (Some m) row is =
      let route = keeps.suits.write_route in
      let at = is.is.link in
      let u = uppers m.link in
      let put : appended s.shape.lower (put_on_lower unchanged s.shape.lower (Some m)) ≡ m.beat ∷ [] = put-is (λ l. l.w) links s.shape.uppers number_of_data unchanged (λ i x. refl) route keeps.suits.apart s.shape.lower m in
      let order : IsGrantedInOrder route (m.input ∷ drop 1 s.granted) lower.aw lower.w = subst (λ (g : List ℕ). IsGrantedInOrder route g lower.aw lower.w) is.granted keeps.order in
      let mine : at_input s.shape.uppers (λ link. (uppers link).w) m.input ≡ u.w = ap (λ (o : Option ℕ). option_map_or (λ link. (uppers link).w) o []) at in
      let asked_mine : at_input s.shape.uppers (λ link. (uppers link).aw) m.input ≡ u.aw = ap (λ (o : Option ℕ). option_map_or (λ link. (uppers link).aw) o []) at in
      let passed : map mark_of_data (selected number_of_data (goes_way route m.input) lower.w) ≡ map mark_of_data u.w = ap (map mark_of_data) (keeps.w m.input ∙ mine) in
      let announced : marks (map burst_asked (selected number_of_address (goes_way route m.input) lower.aw)) ≡ marks (map burst_asked u.aw) =
      ap (λ (xs : List Addr). marks (map burst_asked xs)) (keeps.aw.parts m.input ∙ ap (map (widened ids m.input)) asked_mine) ∙ marks-widened ids m.input u.aw in
      let asks = asks-at m.input m.link at in
      let came : (mux_uppers links s uppers m.link).w ≡ u.w ++ m.beat ∷ [] = ap (λ (ys : List WBeat). u.w ++ ys) (w-came m row is) in
      let agree : Agree (map mark_of_data (u.w ++ m.beat ∷ [])) (marks (map burst_asked u.aw)) =
      Agree_fronts (prefix_same (ap (map mark_of_data) (sym came)) (prefix_itself (map mark_of_data (mux_uppers links s uppers m.link).w)))
      (prefix_flat_map marks_of (prefix_map burst_asked (prefix_append u.aw (taken (λ l. l.aw) links s.shape.uppers aw_row m.link)))) asks.data_follows_addresses in
      let next = mux-takes_data route m.input (drop 1 s.granted) lower.aw lower.w m.beat u.aw u.w order passed announced agree in
      subst (λ (ws : List WBeat). IsGrantedInOrder route (granted_left (ends_burst (Some m)) s.granted) lower.aw (lower.w ++ ws)) (sym put)
      (subst (λ (g : List ℕ). IsGrantedInOrder route (cond m.beat.last (drop 1 s.granted) g) lower.aw (lower.w ++ m.beat ∷ [])) (sym is.granted) next)

  -- and then an address
  order-next : (row : Option (Moved Addr)) → IfSome row (λ m. IsOffered (λ l. l.aw) links s.shape.uppers m × (keeps.suits.write_route (number_of_address m.beat) ≡ m.input)) → (granted : List ℕ) (ws : List WBeat) →
      IsGrantedInOrder keeps.suits.write_route granted lower.aw ws → IsGrantedInOrder keeps.suits.write_route (granted_more (input_moved row) granted) (lower.aw ++ appended s.shape.lower (put_on_lower (widened ids) s.shape.lower row)) ws
  order-next None is granted ws order = subst (λ (xs : List Addr). IsGrantedInOrder keeps.suits.write_route granted xs ws) (sym (append-nil lower.aw)) order
  order-next (Some m) is granted ws order =
      let route = keeps.suits.write_route in
      let a = widened ids m.input m.beat in
      let put : appended s.shape.lower (put_on_lower (widened ids) s.shape.lower (Some m)) ≡ a ∷ [] = put-is (λ l. l.aw) links s.shape.uppers number_of_address (widened ids) (λ i x. refl) route keeps.suits.apart s.shape.lower m in
      let next : IsGrantedInOrder route (granted ++ route m.beat.tag.txn ∷ []) (lower.aw ++ a ∷ []) ws = mux-takes_address route granted lower.aw ws a order in
      subst (λ (ys : List Addr). IsGrantedInOrder route (granted ++ m.input ∷ []) (lower.aw ++ ys) ws) (sym put)
      (subst (λ (i : ℕ). IsGrantedInOrder route (granted ++ i ∷ []) (lower.aw ++ a ∷ []) ws) is.1 next)

  pub kept : MuxKeeps schedules (mux_next links s) (mux_uppers links s uppers) (mux_lower links s lower)
  kept = record {
    suits = keeps.suits;
    aw = aw-next;
    ar = ar-next;
    w = w-next;
    order = order-next aw_row (aw-routed aw_row refl aw-is) (granted_left (ends_burst w_row) s.granted) (lower.w ++ appended s.shape.lower (put_on_lower unchanged s.shape.lower w_row)) (data-order w_row refl w-granted);
    b = λ j. answers-step (λ l. l.b) (λ b. b.id) links s.shape.uppers s.shape.lower ids (narrowed_b ids) keeps.suits.apart (mux_b links s) (answered-is (λ l. l.b) (λ b. b.id) links s.shape.uppers s.shape.lower ids) lower.b (λ link. (uppers link).b) j (keeps.b j);
    r = λ j. answers-step (λ l. l.r) (λ r. r.id) links s.shape.uppers s.shape.lower ids (narrowed_r ids) keeps.suits.apart (mux_r links s) (answered-is (λ l. l.r) (λ r. r.id) links s.shape.uppers s.shape.lower ids) lower.r (λ link. (uppers link).r) j (keeps.r j);
  }
