-- What is asked below a mux.
use Rattle.std.proofs.Common.{[], ◌*◌, ◌++◌, ◌+◌, ◌<◌, ◌^◌, ◌∙◌, ◌∷◌, ◌≡◌, ◌≢◌, Bool, IsTrue, List, ap, append_assoc, ap₂, arith, eq-eqb, inl, inr, length, map, refl, subst, suc, sym, true, zero, ℕ}
use Rattle.std.specs.Prelude.{All}
use Rattle.std.proofs.Math.Nat.{suc-mul}
use Rattle.std.proofs.lemmas.Bool.{cases_eq, eqb-true}
use Rattle.std.proofs.lemmas.List.{length-map, map-append}
use Rattle.std.proofs.lemmas.List.Elements.{All-cons, All-head, All-map, All-nil, All-tail, All-weaker, filter-append}
use Rattle.axi_beats.specs.declared.beat.Addr.{Addr}
use Rattle.axi_trail.proofs.OrderFacts.{earlier}
use Rattle.axi_trail.specs.LinkContracts.{Requests, without_id}
use Rattle.axi_trail.specs.Schedule.{SameChain, Share}
use Rattle.axi_trail.specs.SelectionLaws.{goes_way}
use Rattle.axi_trail.specs.Words.{Asked, IsAnswered, Reply, beats_due, id_of_asked, id_of_reply, number_of_address, number_of_asked}
use Rattle.mux_node.specs.MuxTable.{widened}
use Rattle.mux_node.specs.MuxTrail.{AreMerged}
use Rattle.plain_lists.proofs.CutLemmas.{IsCutOfImages, all-cut, all-left, cut-map}
use Rattle.plain_lists.proofs.KeyLemmas.{filter_cons, filter_map, of_key-cons, of_key-map, of_key-skip}
use Rattle.plain_lists.proofs.PrefixLemmas.{prefix_of_same, prefix_same}
use Rattle.plain_lists.proofs.SelectedLemmas.{all-by_way, of_key-selected, of_number-selected, selected-passes}
use Rattle.plain_lists.specs.Keys.{of_key, selected}
use Rattle.plain_lists.specs.Prefixes.{IsPrefix}

-- what a request shows, where `later` tells how many answer beats come after the first one
abbrev pub shown_by : (ℕ → ℕ) → Addr → Asked
shown_by later a = record { number = a.tag.txn; id = a.id; len = later a.len }

-- so many answers of an ID have come to an input
abbrev pub AreParted : ℕ → List Reply → (ℕ → List Reply) → Type 0
AreParted ids replies inputs = (input id : ℕ) → id < ids → length (of_key id_of_reply (input * ids + id) replies) ≡ length (of_key id_of_reply id (inputs input))

-- the link below carries what comes by each input
pub record CarriesEach (route : ℕ → ℕ) (above : ℕ → ℕ → Share) (below : ℕ → Share) : Type 0 where
  pub parts : (t : ℕ) → (below t).parts ≡ (above (route t) t).parts
  pub chains : (t u : ℕ) → SameChain below t u → (route t ≡ route u) × SameChain (above (route u)) t u

pub map-map : {X Y Z : Type 0} (g : Y → Z) (f : X → Y) (xs : List X) → map g (map f xs) ≡ map (λ x. g (f x)) xs
map-map g f [] = refl
map-map g f (x ∷ xs) = ap (λ t. g (f x) ∷ t) (map-map g f xs)

-- the beats of a number are among those of its input
pub sel-key : {X : Type 0} (number_of : X → ℕ) (route : ℕ → ℕ) (j t : ℕ) → route t ≡ j → (xs : List X) → of_key number_of t xs ≡ of_key number_of t (selected number_of (goes_way route j) xs)
sel-key number_of route j t is xs = sym (of_number-selected number_of (goes_way route j) t xs (eq-eqb (route t) j is))

-- and so are the requests of an ID that only this input has
pub sel-id : (route : ℕ → ℕ) (j id : ℕ) (xs : List Asked) → All (λ (x : Asked). x.id ≡ id → route x.number ≡ j) xs → of_key id_of_asked id xs ≡ of_key id_of_asked id (selected number_of_asked (goes_way route j) xs)
sel-id route j id xs only =
    sym (of_key-selected id_of_asked number_of_asked (goes_way route j) id xs
    (All-weaker (λ (x : Asked). x.id ≡ id → route x.number ≡ j) (λ (x : Asked). x.id ≡ id → goes_way route j x.number ≡ true) (λ x is own. eq-eqb (route x.number) j (is own)) xs only))

-- what holds of each input's beats holds of all
pub all-by_input : {X : Type 0} (P : X → Type 0) (number_of : X → ℕ) (route : ℕ → ℕ) (xs : List X) → ((j : ℕ) → All P (selected number_of (goes_way route j) xs)) → All P xs
all-by_input P number_of route xs each = all-by_way P number_of route xs (λ t. each (route t))

-- the input and the ID of an ID
pub same-input : (ids j k x y : ℕ) → x < ids → y < ids → j * ids + x ≡ k * ids + y → j ≡ k
same-input ids zero zero x y lx ly e = refl
same-input ids zero (suc k) x y lx ly e = absurd (omega (arith, e, suc-mul k ids, lx))
same-input ids (suc j) zero x y lx ly e = absurd (omega (arith, e, suc-mul j ids, ly))
same-input ids (suc j) (suc k) x y lx ly e = ap suc (same-input ids j k x y lx ly (omega (arith, e, suc-mul j ids, suc-mul k ids)))

module _ (route : ℕ → ℕ) (ids width id_width : ℕ) (above : ℕ → ℕ → Share) (below : ℕ → Share) (issued : ℕ → Bool) (later : ℕ → ℕ) (merged : List Addr) (inputs : ℕ → List Addr) (replies : List Reply) (parted : ℕ → List Reply)
    (is : AreMerged route ids merged inputs) (parts : AreParted ids replies parted) (carries : CarriesEach route above below) (fits : All (λ (a : Addr). a.id < 2 ^ id_width) merged)
    (each : (input : ℕ) → Requests (above input) width issued (shown_by later) (inputs input) (parted input)) where
  abbrev shown : Addr → Asked
  shown = shown_by later

  abbrev wider : ℕ → Asked → Asked
  wider j a = record { number = a.number; id = j * ids + a.id; len = a.len }

  abbrev asked_in : ℕ → List Asked
  asked_in j = map shown (inputs j)

  abbrev of_j : ℕ → List Asked → List Asked
  of_j j xs = selected number_of_asked (goes_way route j) xs

  -- of an input
  own : (j : ℕ) → of_j j (map shown merged) ≡ map (wider j) (asked_in j)
  own j =
      filter_map (λ (x : Asked). goes_way route j x.number) shown merged ∙ ap (map shown) (is.parts j)
      ∙ map-map shown (widened ids j) (inputs j) ∙ sym (map-map (wider j) shown (inputs j))

  -- A1
  own-parts : (t : ℕ) → IsPrefix (map without_id (of_key number_of_address t merged)) (below t).parts
  own-parts t =
      let j = route t in
      let mine : of_key number_of_address t merged ≡ map (widened ids j) (of_key number_of_address t (inputs j)) =
      sel-key number_of_address route j t refl merged ∙ ap (of_key number_of_address t) (is.parts j) ∙ of_key-map number_of_address (widened ids j) t (inputs j) in
      prefix_of_same (prefix_same (ap (map without_id) mine ∙ map-map without_id (widened ids j) (of_key number_of_address t (inputs j))) ((each j).asks_only_its_parts t)) (sym (carries.parts t))

  -- A7
  all-issued : All (λ (a : Addr). IsTrue (issued a.tag.txn)) merged
  all-issued =
      all-by_input (λ (a : Addr). IsTrue (issued a.tag.txn)) number_of_address route merged
      (λ j. subst (λ (xs : List Addr). All (λ (a : Addr). IsTrue (issued a.tag.txn)) xs) (sym (is.parts j)) (All-map (λ (a : Addr). IsTrue (issued a.tag.txn)) (widened ids j) (inputs j) (each j).was_issued))

  -- each request has its input in its ID
  pub record HasInput (a : Asked) : Type 0 where
    pub id : ℕ
    pub small : id < ids
    pub is_id : a.id ≡ route a.number * ids + id

  has-input : All HasInput (map shown merged)
  has-input =
      all-by_input HasInput number_of_asked route (map shown merged) (λ j.
      subst (λ (xs : List Asked). All HasInput xs) (sym (own j)) (inputs-of j (asked_in j) (own j) (All-map (λ (a : Asked). a.id < ids) shown (inputs j) (is.small j))))
    where
      -- those that are selected come by this input
      selected-come : (j : ℕ) (xs : List Asked) → All (λ (x : Asked). route x.number ≡ j) (of_j j xs)
      selected-come j xs =
          All-weaker (λ (x : Asked). goes_way route j x.number ≡ true) (λ (x : Asked). route x.number ≡ j) (λ x kept. eqb-true (route x.number) j kept) (of_j j xs)
          (selected-passes number_of_asked (goes_way route j) xs)

      come : (j : ℕ) (xs : List Asked) → All (λ (x : Asked). route x.number ≡ j) (map (wider j) xs) → All (λ (a : Asked). a.id < ids) xs → All HasInput (map (wider j) xs)
      come j [] by small = All-nil HasInput
      come j (x ∷ xs) by small =
          All-cons HasInput (wider j x) (map (wider j) xs)
          (record {
            id = x.id;
            small = All-head (λ (a : Asked). a.id < ids) x xs small;
            is_id = ap (λ (i : ℕ). i * ids + x.id) (sym (All-head (λ (y : Asked). route y.number ≡ j) (wider j x) (map (wider j) xs) by));
          })
          (come j xs (All-tail (λ (y : Asked). route y.number ≡ j) (wider j x) (map (wider j) xs) by) (All-tail (λ (a : Asked). a.id < ids) x xs small))

      inputs-of : (j : ℕ) (xs : List Asked) → of_j j (map shown merged) ≡ map (wider j) xs → All (λ (a : Asked). a.id < ids) xs → All HasInput (map (wider j) xs)
      inputs-of j xs same small = come j xs (subst (λ (ys : List Asked). All (λ (x : Asked). route x.number ≡ j) ys) same (selected-come j (map shown merged))) small

  -- a cut of all requests at one of an input is a cut of the input's
  cut-of : (j : ℕ) (front : List Asked) (a : Asked) (back : List Asked) → map shown merged ≡ front ++ a ∷ back → route a.number ≡ j → IsCutOfImages (wider j) (asked_in j) (of_j j front) a (of_j j back)
  cut-of j front a back split by =
      let kept : goes_way route j a.number ≡ true = eq-eqb (route a.number) j by in
      let parted : of_j j (front ++ a ∷ back) ≡ of_j j front ++ a ∷ of_j j back =
      filter-append (λ (x : Asked). goes_way route j x.number) front (a ∷ back) ∙ ap (λ (ys : List Asked). of_j j front ++ ys) (filter_cons (λ (x : Asked). goes_way route j x.number) a back kept) in
      cut-map (wider j) (asked_in j) (of_j j front) a (of_j j back) (sym (own j) ∙ ap (of_j j) split ∙ parted)

  -- A5
  own-whole : (before : List Asked) (a : Asked) (after : List Asked) (t : ℕ) → map shown merged ≡ before ++ a ∷ after → (t < a.number) × SameChain below t a.number → length (of_key number_of_asked t before) ≡ length (below t).parts
  own-whole before a after t split earlier =
      let j = route a.number in
      let chain = carries.chains t a.number earlier.1 in
      let cut = cut-of j before a after split refl in
      let number : cut.at.number ≡ a.number = ap (λ (x : Asked). x.number) cut.at_is in
      let here : length (of_key number_of_asked t cut.first) ≡ length (above j t).parts =
      (each j).whole_before_the_next cut.first cut.at cut.last t cut.whole (omega (arith, number, earlier.0), subst (λ (u : ℕ). SameChain (above j) t u) (sym number) chain.1) in
      ap (λ (xs : List Asked). length xs) (sel-key number_of_asked route j t chain.0 before ∙ ap (of_key number_of_asked t) (sym cut.front_is) ∙ of_key-map number_of_asked (wider j) t cut.first)
      ∙ length-map (of_key number_of_asked t cut.first) (wider j) ∙ here
      ∙ ap (λ (i : ℕ). length (above i t).parts) (sym chain.0) ∙ ap length (sym (carries.parts t))

  -- A6
  own-one : (before : List Asked) (a : Asked) (between : List Asked) (next : Asked) (after : List Asked) → map shown merged ≡ (before ++ a ∷ between) ++ next ∷ after → SameChain below a.number next.number → a.id ≢ next.id → IsAnswered before a replies
  own-one before a between next after split same differ =
      let j = route next.number in
      let chain = carries.chains a.number next.number same in
      let by : route a.number ≡ j = chain.0 in
      let kept : goes_way route j a.number ≡ true = eq-eqb (route a.number) j by in
      let cut = cut-of j (before ++ a ∷ between) next after split refl in
      let front : map (wider j) cut.first ≡ of_j j before ++ a ∷ of_j j between =
      cut.front_is ∙ filter-append (λ (x : Asked). goes_way route j x.number) before (a ∷ between) ∙ ap (λ (ys : List Asked). of_j j before ++ ys) (filter_cons (λ (x : Asked). goes_way route j x.number) a between kept) in
      let again = cut-map (wider j) cut.first (of_j j before) a (of_j j between) front in
      let whole : asked_in j ≡ (again.first ++ again.at ∷ again.last) ++ cut.at ∷ cut.last = cut.whole ∙ ap (λ (xs : List Asked). xs ++ cut.at ∷ cut.last) again.whole in
      let number : again.at.number ≡ a.number = ap (λ (x : Asked). x.number) again.at_is in
      let number_next : cut.at.number ≡ next.number = ap (λ (x : Asked). x.number) cut.at_is in
      let id : j * ids + again.at.id ≡ a.id = ap (λ (x : Asked). x.id) again.at_is in
      let id_next : j * ids + cut.at.id ≡ next.id = ap (λ (x : Asked). x.id) cut.at_is in
      let apart : again.at.id ≢ cut.at.id = λ equal. differ (sym id ∙ ap (λ (i : ℕ). j * ids + i) equal ∙ id_next) in
      let one : SameChain (above j) again.at.number cut.at.number =
      subst (λ (u : ℕ). SameChain (above j) u cut.at.number) (sym number) (subst (λ (u : ℕ). SameChain (above j) a.number u) (sym number_next) chain.1) in
      let answered : IsAnswered again.first again.at (parted j) = (each j).one_id_at_a_time again.first again.at again.last cut.at cut.last whole one apart in
      let small : again.at.id < ids = small-at j again.first again.at (again.last ++ cut.at ∷ cut.last) (whole ∙ append_assoc again.first (again.at ∷ again.last) (cut.at ∷ cut.last)) in
      let asked_same : beats_due (of_key id_of_asked a.id (before ++ a ∷ [])) ≡ beats_due (of_key id_of_asked again.at.id (again.first ++ again.at ∷ [])) = asked-beats j before a between next after split by again.first again.at again.front_is again.at_is small in
      let replies_same : length (of_key id_of_reply a.id replies) ≡ length (of_key id_of_reply again.at.id (parted j)) = ap (λ (i : ℕ). length (of_key id_of_reply i replies)) (sym id) ∙ parts j again.at.id small in
      omega (arith, answered, asked_same, replies_same)
    where
      small-at : (j : ℕ) (front : List Asked) (x : Asked) (back : List Asked) → asked_in j ≡ front ++ x ∷ back → x.id < ids
      small-at j front x back split =
          all-cut (λ (a : Asked). a.id < ids) front x back (subst (λ (xs : List Asked). All (λ (a : Asked). a.id < ids) xs) split (All-map (λ (a : Asked). a.id < ids) shown (inputs j) (is.small j)))

      beats-wider : (j id : ℕ) (xs : List Asked) → beats_due (of_key id_of_asked (j * ids + id) (map (wider j) xs)) ≡ beats_due (of_key id_of_asked id xs)
      beats-wider j id [] = refl
      beats-wider j id (x ∷ xs) = elim (cases_eq x.id id) [
        | inl own ↦
            ap beats_due (of_key-cons id_of_asked (j * ids + id) (wider j x) (map (wider j) xs) (ap (λ (i : ℕ). j * ids + i) own))
            ∙ ap (λ (n : ℕ). suc x.len + n) (beats-wider j id xs) ∙ sym (ap beats_due (of_key-cons id_of_asked id x xs own))
        | inr other ↦
            ap beats_due (of_key-skip id_of_asked (j * ids + id) (wider j x) (map (wider j) xs) (λ same. other (omega (arith, same))))
            ∙ beats-wider j id xs ∙ sym (ap beats_due (of_key-skip id_of_asked id x xs other))
      ]

      asked-beats : (j : ℕ) (before : List Asked) (a : Asked) (between : List Asked) (next : Asked) (after : List Asked) → map shown merged ≡ (before ++ a ∷ between) ++ next ∷ after → route a.number ≡ j →
          (first : List Asked) (at : Asked) → map (wider j) first ≡ of_j j before → wider j at ≡ a → at.id < ids →
          beats_due (of_key id_of_asked a.id (before ++ a ∷ [])) ≡ beats_due (of_key id_of_asked at.id (first ++ at ∷ []))
      asked-beats j before a between next after split by first at front_is at_is small =
          let id : j * ids + at.id ≡ a.id = ap (λ (x : Asked). x.id) at_is in
          let kept : goes_way route j a.number ≡ true = eq-eqb (route a.number) j by in
          let regrouped : map shown merged ≡ (before ++ a ∷ []) ++ (between ++ next ∷ after) =
          split ∙ append_assoc before (a ∷ between) (next ∷ after) ∙ sym (append_assoc before (a ∷ []) (between ++ next ∷ after)) in
          let have : All HasInput (before ++ a ∷ []) = all-left HasInput (before ++ a ∷ []) (between ++ next ∷ after) (subst (λ (xs : List Asked). All HasInput xs) regrouped has-input) in
          let only : All (λ (x : Asked). x.id ≡ a.id → route x.number ≡ j) (before ++ a ∷ []) =
          All-weaker HasInput (λ (x : Asked). x.id ≡ a.id → route x.number ≡ j) (λ x h same. same-input ids (route x.number) j h.id at.id h.small small (sym h.is_id ∙ same ∙ sym id)) (before ++ a ∷ []) have in
          let sel : of_j j (before ++ a ∷ []) ≡ map (wider j) (first ++ at ∷ []) =
          filter-append (λ (x : Asked). goes_way route j x.number) before (a ∷ []) ∙ ap (λ (ys : List Asked). of_j j before ++ ys) (filter_cons (λ (x : Asked). goes_way route j x.number) a [] kept)
          ∙ ap₂ (λ (xs : List Asked) (x : Asked). xs ++ x ∷ []) (sym front_is) (sym at_is) ∙ sym (map-append (wider j) first (at ∷ [])) in
          ap beats_due (sel-id route j a.id (before ++ a ∷ []) only ∙ ap (of_key id_of_asked a.id) sel)
          ∙ ap (λ (i : ℕ). beats_due (of_key id_of_asked i (map (wider j) (first ++ at ∷ [])))) (sym id) ∙ beats-wider j at.id (first ++ at ∷ [])

  pub merged-asks : Requests below id_width issued shown merged replies
  merged-asks = record {
    asks_only_its_parts = own-parts;
    ids_fit = fits;
    whole_before_the_next = own-whole;
    one_id_at_a_time = own-one;
    was_issued = all-issued;
  }

pub merged-requests : (route : ℕ → ℕ) (ids width id_width : ℕ) (above : ℕ → ℕ → Share) (below : ℕ → Share) (issued : ℕ → Bool) (later : ℕ → ℕ) (merged : List Addr) (inputs : ℕ → List Addr)
    (replies : List Reply) (parted : ℕ → List Reply) →
    AreMerged route ids merged inputs → AreParted ids replies parted → CarriesEach route above below → All (λ (a : Addr). a.id < 2 ^ id_width) merged →
    ((input : ℕ) → Requests (above input) width issued (shown_by later) (inputs input) (parted input)) →
    Requests below id_width issued (shown_by later) merged replies
merged-requests route ids width id_width above below issued later merged inputs replies parted is parts carries fits each =
    merged-asks route ids width id_width above below issued later merged inputs replies parted is parts carries fits each
