-- What is asked of a demux, it asks at its ports.
use Rattle.std.proofs.Common.{◌≡◌, ◌≢◌, ◌<◌, ◌^◌, ℕ, Bool, IsTrue, List, [], ◌∷◌, ◌++◌, length, map, refl, sym, ◌∙◌, ap, subst, inl, inr, arith, append_assoc, eq-eqb, length-append, Contains}
use Rattle.std.specs.Prelude.{All, flat_map}
use Rattle.std.proofs.lemmas.Bool.{cases_eq, eqb-true, ne_eqb}
use Rattle.std.proofs.lemmas.List.{length-map}
use Rattle.std.proofs.lemmas.List.Elements.{All-contains, All-contains_itself, All-weaker}
use Rattle.axi_beats.specs.declared.beat.Addr.{Addr}
use Rattle.axi_beats.specs.declared.beat.WBeat.{WBeat}
use Rattle.axi_trail.proofs.FilterFacts.{marks-selected}
use Rattle.axi_trail.proofs.SelectionFacts.{answered_of_selected}
use Rattle.axi_trail.specs.LinkContracts.{Asks, Requests, without_id}
use Rattle.axi_trail.specs.Schedule.{Progress, SameChain, Schedule, Share}
use Rattle.axi_trail.specs.SelectionLaws.{goes_way}
use Rattle.axi_trail.specs.Trail.{Beats, Trail}
use Rattle.axi_trail.specs.Words.{Asked, InOrderOfId, IsAnswered, Mark, Reply, burst_asked, mark_of_data, marks, number_of_address, number_of_asked, number_of_data, number_of_mark, number_of_reply, read_reply, write_asked, write_reply}
use Rattle.demux_node.proofs.HeldLemmas.{all-filter}
use Rattle.demux_node.specs.DemuxState.{DemuxState}
use Rattle.demux_node.specs.DemuxTrail.{DemuxKeeps, demux_kind, read_lower, write_lower}
use Rattle.node_shape.proofs.OneLinkLemmas.{of-one}
use Rattle.node_shape.specs.Carries.{IsSameShare}
use Rattle.node_shape.specs.KindLaws.{AsksBelow}
use Rattle.plain_lists.proofs.CutLemmas.{cut-filter}
use Rattle.plain_lists.proofs.KeyLemmas.{filter_map, of_key-append, of_key-cons, of_key-map}
use Rattle.plain_lists.proofs.PrefixLemmas.{prefix_agree, prefix_filter, prefix_length, prefix_nil, prefix_of_same, prefix_same}
use Rattle.plain_lists.proofs.SelectedLemmas.{of_number-left_out, of_number-selected}
use Rattle.plain_lists.specs.Keys.{of_key, selected}
use Rattle.plain_lists.specs.Prefixes.{IsPrefix}

-- the beats of a number are all on its link, and none is on another one
module _ {X : Type 0} (number_of : X → ℕ) (way : ℕ → ℕ) (link t : ℕ) (xs here : List X) (here_is : here ≡ selected number_of (goes_way way link) xs) where
  pub own-beats : way t ≡ link → of_key number_of t here ≡ of_key number_of t xs
  own-beats own = ap (of_key number_of t) here_is ∙ of_number-selected number_of (goes_way way link) t xs (eq-eqb (way t) link own)

  pub no-beats : way t ≢ link → of_key number_of t here ≡ []
  no-beats other = ap (of_key number_of t) here_is ∙ of_number-left_out number_of (goes_way way link) t xs (ne_eqb (way t) link other)

module _ (way : ℕ → ℕ) (link : ℕ) (above below : ℕ → Share) (width narrow : ℕ) (issued : ℕ → Bool) (shown : Addr → Asked) (addresses here : List Addr) (replies answers : List Reply)
    (widths : narrow ≡ width) (same : (t : ℕ) → way t ≡ link → IsSameShare (above t) (below t))
    (chains : (t u : ℕ) → 0 < length (above u).parts → way u ≡ link → SameChain below t u → (way t ≡ link) × SameChain above t u)
    (here_is : here ≡ selected number_of_address (goes_way way link) addresses) (shown_is : map shown here ≡ selected number_of_asked (goes_way way link) (map shown addresses))
    (keyed : (t : ℕ) → length (of_key number_of_asked t (map shown addresses)) ≡ length (of_key number_of_address t addresses))
    (answers_are : answers ≡ selected number_of_reply (goes_way way link) replies) (in_order : InOrderOfId (map shown addresses) replies)
    (asks : Requests above width issued shown addresses replies) where
  abbrev selects : ℕ → Bool
  selects = goes_way way link

  abbrev test : Asked → Bool
  test x = goes_way way link (number_of_asked x)

  -- a request has a part
  comes : (left : List Asked) (a : Asked) (right : List Asked) → map shown addresses ≡ left ++ a ∷ right → 0 < length (above a.number).parts
  comes left a right split =
      let some : of_key number_of_asked a.number (map shown addresses) ≡ of_key number_of_asked a.number left ++ a ∷ of_key number_of_asked a.number right =
      ap (of_key number_of_asked a.number) split ∙ of_key-append number_of_asked a.number left (a ∷ right)
      ∙ ap (λ (t : List Asked). of_key number_of_asked a.number left ++ t) (of_key-cons number_of_asked a.number a right refl) in
      omega (
        arith,
        ap (λ (t : List Asked). length t) some,
        length-append (of_key number_of_asked a.number left) (a ∷ of_key number_of_asked a.number right),
        keyed a.number,
        prefix_length (asks.asks_only_its_parts a.number),
        length-map (of_key number_of_address a.number addresses) without_id,
      )

  parts-below : (t : ℕ) → IsPrefix (map without_id (of_key number_of_address t here)) (below t).parts
  parts-below t = elim (cases_eq (way t) link) [
    | inl own ↦ prefix_of_same (prefix_same (ap (map without_id) (own-beats number_of_address way link t addresses here here_is own)) (asks.asks_only_its_parts t)) (sym (same t own).parts)
    | inr other ↦ prefix_same (ap (map without_id) (no-beats number_of_address way link t addresses here here_is other)) (prefix_nil (below t).parts)
  ]

  whole-below : (before : List Asked) (a : Asked) (after : List Asked) (t : ℕ) → map shown here ≡ before ++ a ∷ after → (t < a.number) × SameChain below t a.number →
      length (of_key number_of_asked t before) ≡ length (below t).parts
  whole-below before a after t split earlier =
      let cut = cut-filter test (map shown addresses) before a after (sym shown_is ∙ split) in
      let chain = chains t a.number (comes cut.left a cut.right cut.whole) (eqb-true (way a.number) link cut.passes) earlier.1 in
      ap (λ (xs : List Asked). length xs) (own-beats number_of_asked way link t cut.left before (sym cut.left_is) chain.0)
      ∙ asks.whole_before_the_next cut.left a cut.right t cut.whole (earlier.0, chain.1) ∙ ap (λ (xs : List Addr). length xs) (sym (same t chain.0).parts)

  one-below : (before : List Asked) (a : Asked) (between : List Asked) (next : Asked) (after : List Asked) → map shown here ≡ (before ++ a ∷ between) ++ next ∷ after →
      SameChain below a.number next.number → a.id ≢ next.id → IsAnswered before a answers
  one-below before a between next after split one differ =
      let cut = cut-filter test (map shown addresses) (before ++ a ∷ between) next after (sym shown_is ∙ split) in
      let again = cut-filter test cut.left before a between cut.left_is in
      let chain = chains a.number next.number (comes cut.left next cut.right cut.whole) (eqb-true (way next.number) link cut.passes) one in
      let whole : map shown addresses ≡ (again.left ++ a ∷ again.right) ++ next ∷ cut.right = cut.whole ∙ ap (λ (xs : List Asked). xs ++ next ∷ cut.right) again.whole in
      let answered : IsAnswered again.left a replies = asks.one_id_at_a_time again.left a again.right next cut.right whole chain.1 differ in
      let place : map shown addresses ≡ again.left ++ a ∷ (again.right ++ next ∷ cut.right) = whole ∙ append_assoc again.left (a ∷ again.right) (next ∷ cut.right) in
      let there : IsAnswered (selected number_of_asked selects again.left) a (selected number_of_reply selects replies) =
      (answered_of_selected selects (map shown addresses) replies in_order again.left a (again.right ++ next ∷ cut.right) place again.passes).0 answered in
      subst (λ (ps : List Reply). IsAnswered before a ps) (sym answers_are) (subst (λ (xs : List Asked). IsAnswered xs a (selected number_of_reply selects replies)) again.left_is there)

  pub requests-below : Requests below narrow issued shown here answers
  requests-below = record {
    asks_only_its_parts = parts-below;
    ids_fit = subst (λ (xs : List Addr). All (λ (a : Addr). a.id < 2 ^ narrow) xs) (sym here_is)
        (all-filter (λ (a : Addr). a.id < 2 ^ narrow) (λ (a : Addr). selects (number_of_address a)) addresses (subst (λ (w : ℕ). All (λ (a : Addr). a.id < 2 ^ w) addresses) (sym widths) asks.ids_fit));
    whole_before_the_next = whole-below;
    one_id_at_a_time = one-below;
    was_issued = subst (λ (xs : List Addr). All (λ (a : Addr). IsTrue (issued a.tag.txn)) xs) (sym here_is)
        (all-filter (λ (a : Addr). IsTrue (issued a.tag.txn)) (λ (a : Addr). selects (number_of_address a)) addresses asks.was_issued);
  }

pub each-lower : (P : ℕ → Type 0) (links : List ℕ) → ((l : ℕ) → Contains links l → P l) → All P links
each-lower P links each = All-weaker (Contains links) P each links (All-contains_itself links)

asks-at : (schedules : ℕ → Schedule) (now : Progress) (s : DemuxState) (upper : Beats) (lowers : Trail) → DemuxKeeps schedules s upper lowers → Asks (schedules s.shape.upper) now upper →
    (l : ℕ) → Contains s.shape.lowers l → Asks (schedules l) now (lowers l)
asks-at schedules now s upper lowers keeps asks l has =
    let at = keeps.passed l in
    let above = schedules s.shape.upper in
    let below = schedules l in
    let write_way = write_lower s.shape above in
    let read_way = read_lower s.shape above in
    let width : below.id_width ≡ above.id_width = All-contains (λ (k : ℕ). (schedules k).id_width ≡ above.id_width) s.shape.lowers l keeps.suits.widths has in
    let selects = goes_way write_way l in
    record {
      writes = requests-below write_way l above.writes below.writes above.id_width below.id_width now.issued write_asked upper.aw (lowers l).aw (map write_reply upper.b) (map write_reply (lowers l).b)
          width (λ t own. subst (λ (k : ℕ). IsSameShare (above.writes t) ((schedules k).writes t)) own (keeps.suits.writes.same t))
          (λ t u some own chain. let found = keeps.suits.writes.chains t u some (subst (λ (k : ℕ). SameChain (schedules k).writes t u) (sym own) chain) in (found.0 ∙ own, found.1))
          at.aw (ap (map write_asked) at.aw ∙ sym (filter_map (λ (x : Asked). selects (number_of_asked x)) write_asked upper.aw))
          (λ t. ap (λ (xs : List Asked). length xs) (of_key-map number_of_asked write_asked t upper.aw) ∙ length-map (of_key number_of_address t upper.aw) write_asked)
          (ap (map write_reply) at.b ∙ sym (filter_map (λ (x : Reply). selects (number_of_reply x)) write_reply upper.b)) keeps.writes.in_order asks.writes;
      reads = requests-below read_way l above.reads below.reads above.id_width below.id_width now.issued burst_asked upper.ar (lowers l).ar (map read_reply upper.r) (map read_reply (lowers l).r)
          width (λ t own. subst (λ (k : ℕ). IsSameShare (above.reads t) ((schedules k).reads t)) own (keeps.suits.reads.same t))
          (λ t u some own chain. let found = keeps.suits.reads.chains t u some (subst (λ (k : ℕ). SameChain (schedules k).reads t u) (sym own) chain) in (found.0 ∙ own, found.1))
          at.ar (ap (map burst_asked) at.ar ∙ sym (filter_map (λ (x : Asked). goes_way read_way l (number_of_asked x)) burst_asked upper.ar))
          (λ t. ap (λ (xs : List Asked). length xs) (of_key-map number_of_asked burst_asked t upper.ar) ∙ length-map (of_key number_of_address t upper.ar) burst_asked)
          (ap (map read_reply) at.r ∙ sym (filter_map (λ (x : Reply). goes_way read_way l (number_of_reply x)) read_reply upper.r)) keeps.reads.in_order asks.reads;
      data_is_the_schedules = λ t. elim (cases_eq (write_way t) l) [
        | inl own ↦
            let shares : IsSameShare (above.writes t) (below.writes t) = subst (λ (k : ℕ). IsSameShare (above.writes t) ((schedules k).writes t)) own (keeps.suits.writes.same t) in
            prefix_of_same (prefix_same (own-beats number_of_data write_way l t upper.w (lowers l).w at.w own) (asks.data_is_the_schedules t))
            (ap (λ (d : List (List WBeat)). flat_map (λ beats. beats) d) (sym shares.write_data))
        | inr other ↦ prefix_same (no-beats number_of_data write_way l t upper.w (lowers l).w at.w other) (prefix_nil (flat_map (λ beats. beats) (below.writes t).write_data))
      ];
      data_follows_addresses =
          let marks_are : map mark_of_data (lowers l).w ≡ selected number_of_mark selects (map mark_of_data upper.w) =
          ap (map mark_of_data) at.w ∙ sym (filter_map (λ (x : Mark). selects (number_of_mark x)) mark_of_data upper.w) in
          let bursts_are : map burst_asked (lowers l).aw ≡ selected number_of_asked selects (map burst_asked upper.aw) =
          ap (map burst_asked) at.aw ∙ sym (filter_map (λ (x : Asked). selects (number_of_asked x)) burst_asked upper.aw) in
          let front : IsPrefix (map mark_of_data (lowers l).w) (marks (map burst_asked (lowers l).aw)) =
          prefix_of_same (prefix_same marks_are (prefix_filter (λ (x : Mark). selects (number_of_mark x)) keeps.open_ones.in_order))
          (marks-selected selects (map burst_asked upper.aw) ∙ ap marks (sym bursts_are)) in
          prefix_agree front;
    }

module _ (E : Type 0) where
  pub demux-asks : AsksBelow (demux_kind {E = E})
  demux-asks schedules now rounds s passed fact keeps known asked =
      each-lower (λ l. Asks (schedules l) now (passed.lowers l)) s.shape.lowers
      (asks-at schedules now s (passed.uppers s.shape.upper) passed.lowers keeps (of-one (λ l. Asks (schedules l) now (passed.uppers l)) s.shape.upper asked))
