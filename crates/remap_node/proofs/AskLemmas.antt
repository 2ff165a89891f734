-- What is asked of a remapper, it asks below.
use Rattle.std.proofs.Common.{◌≡◌, ◌≢◌, ◌<◌, ◌^◌, ℕ, Bool, List, [], ◌∷◌, ◌++◌, IsTrue, length, map, refl, sym, ◌∙◌, ap, subst, inl, inr, arith, append_assoc}
use Rattle.std.specs.Prelude.{All, flat_map}
use Rattle.std.proofs.lemmas.Bool.{cases_eq}
use Rattle.std.proofs.lemmas.List.{length-map, map-append}
use Rattle.std.proofs.lemmas.List.Elements.{All-cons, All-head, All-map, All-nil, All-tail}
use Rattle.std.proofs.lemmas.Simd.{map-map}
use Rattle.axi_beats.specs.declared.beat.Addr.{Addr}
use Rattle.axi_beats.specs.declared.beat.WBeat.{WBeat}
use Rattle.axi_trail.proofs.HeldFacts.{count_of-replies}
use Rattle.axi_trail.specs.LinkContracts.{Asks, Requests, without_id}
use Rattle.axi_trail.specs.Schedule.{Progress, SameChain, Schedule, Share}
use Rattle.axi_trail.specs.Trail.{Beats}
use Rattle.axi_trail.specs.Words.{Asked, IsAnswered, Mark, Reply, beats_due, burst_asked, id_of_asked, id_of_reply, mark_of_data, marks, marks_of, number_of_address, number_of_asked, number_of_data}
use Rattle.node_shape.specs.Carries.{IsSameShare}
use Rattle.plain_lists.proofs.CutLemmas.{cut-map}
use Rattle.plain_lists.proofs.KeyLemmas.{of_key-map}
use Rattle.plain_lists.proofs.PrefixLemmas.{prefix_of_same, prefix_same}
use Rattle.plain_lists.specs.Keys.{of_key}
use Rattle.plain_lists.specs.Prefixes.{Agree}
use Rattle.remap_node.proofs.EitherLemmas.{answered-either}
use Rattle.remap_node.proofs.StepLemmas.{beats-above, beats-below}
use Rattle.remap_node.specs.RemapState.{RemapState, ids_below}
use Rattle.remap_node.specs.RemapTable.{Renamed, address_as}
use Rattle.remap_node.specs.RemapTrail.{AreRenamed, IsAnsweredBelow, PairsAreHeld, RemapKeeps, asked_later, burst_later, id_above, id_below, later_of, none_later, old_beat, shown_above, shown_below}
use Rattle.remap_node.specs.declared.pair.IdPair.{IdPair}

all-renamed : (P : ℕ → Type 0) (moved : List (Renamed Addr)) → All (λ (a : Addr). P a.tag.txn) (map old_beat moved) → All (λ (a : Addr). P a.tag.txn) (map address_as moved)
all-renamed P [] all = All-nil (λ (a : Addr). P a.tag.txn)
all-renamed P (m ∷ moved) all =
    All-cons (λ (a : Addr). P a.tag.txn) (address_as m) (map address_as moved) (All-head (λ (a : Addr). P a.tag.txn) m.beat (map old_beat moved) all)
    (all-renamed P moved (All-tail (λ (a : Addr). P a.tag.txn) m.beat (map old_beat moved) all))

pub marks-renamed : (moved : List (Renamed Addr)) → marks (map burst_asked (map address_as moved)) ≡ marks (map burst_asked (map old_beat moved))
marks-renamed [] = refl
marks-renamed (m ∷ moved) = ap (λ (ms : List Mark). marks_of (burst_asked m.beat) ++ ms) (marks-renamed moved)

module _ (later : ℕ → ℕ) (ids : ℕ) (moved : List (Renamed Addr)) (pairs : List IdPair) (up down : List Reply) (has : PairsAreHeld later ids moved pairs up down) where
  to-below : (first : List (Renamed Addr)) (m : Renamed Addr) → IsAnsweredBelow later first m (map id_of_reply down) → IsAnswered (map (shown_below later) first) (shown_below later m) down
  to-below first m is =
      omega (
        arith,
        is,
        ap (λ (xs : List Asked). beats_due (of_key id_of_asked m.id xs)) (map-append (shown_below later) first (m ∷ [])),
        beats-below later m.id (first ++ m ∷ []),
        count_of-replies m.id down,
      )

  -- who is answered above is answered below
  pub from-above : (first rest : List (Renamed Addr)) (m : Renamed Addr) → moved ≡ (first ++ m ∷ []) ++ rest → IsAnswered (map (shown_above later) first) (shown_above later m) up →
      IsAnsweredBelow later first m (map id_of_reply down)
  from-above first rest m e is =
      answered-either (later_of later) id_above id_below first m (map id_of_reply up) (map id_of_reply down) (has.same (first ++ m ∷ []) rest e)
      (omega (
        arith,
        is,
        ap (λ (xs : List Asked). beats_due (of_key id_of_asked m.beat.id xs)) (map-append (shown_above later) first (m ∷ [])),
        beats-above later m.beat.id (first ++ m ∷ []),
        count_of-replies m.beat.id up,
      ))

  count-same : (t : ℕ) (xs : List (Renamed Addr)) → length (of_key number_of_asked t (map (shown_below later) xs)) ≡ length (of_key number_of_asked t (map (shown_above later) xs))
  count-same t xs =
      ap length (of_key-map number_of_asked (shown_below later) t xs) ∙ length-map (of_key (λ (m : Renamed Addr). m.beat.tag.txn) t xs) (shown_below later)
      ∙ sym (ap length (of_key-map number_of_asked (shown_above later) t xs) ∙ length-map (of_key (λ (m : Renamed Addr). m.beat.tag.txn) t xs) (shown_above later))

  module _ (above below : List Addr) (are : AreRenamed address_as moved above below) where
    shows-above : map (asked_later later) above ≡ map (shown_above later) moved
    shows-above = ap (map (asked_later later)) are.from_is ∙ map-map (asked_later later) old_beat moved

    shows-below : map (asked_later later) below ≡ map (shown_below later) moved
    shows-below = ap (map (asked_later later)) are.to_is ∙ map-map (asked_later later) address_as moved

    own-parts : (t : ℕ) → map without_id (of_key number_of_address t below) ≡ map without_id (of_key number_of_address t above)
    own-parts t =
        ap (λ (xs : List Addr). map without_id (of_key number_of_address t xs)) are.to_is
        ∙ ap (map without_id) (of_key-map number_of_address address_as t moved) ∙ map-map without_id address_as (of_key (λ (m : Renamed Addr). m.beat.tag.txn) t moved)
        ∙ sym (ap (λ (xs : List Addr). map without_id (of_key number_of_address t xs)) are.from_is
        ∙ ap (map without_id) (of_key-map number_of_address old_beat t moved) ∙ map-map without_id old_beat (of_key (λ (m : Renamed Addr). m.beat.tag.txn) t moved))

    module _ (shares wanted : ℕ → Share) (wide narrow : ℕ) (issued : ℕ → Bool) (ids_are : ids ≡ 2 ^ narrow) (same : (t : ℕ) → IsSameShare (shares t) (wanted t))
        (chains : (t u : ℕ) → SameChain wanted t u → SameChain shares t u) (asks : Requests shares wide issued (asked_later later) above up) where
      one-of : (first : List (Renamed Addr)) (m : Renamed Addr) (mid : List (Renamed Addr)) (next : Renamed Addr) (last : List (Renamed Addr)) → moved ≡ (first ++ m ∷ mid) ++ next ∷ last →
          SameChain wanted m.beat.tag.txn next.beat.tag.txn → m.id ≢ next.id → IsAnswered (map (shown_below later) first) (shown_below later m) down
      one-of first m mid next last e chain differ = to-below first m (elim (cases_eq m.beat.id next.beat.id) [
        | inl one ↦ has.one_output first m mid next last e one differ
        | inr two ↦ from-above first (mid ++ next ∷ last) m (e ∙ append_assoc first (m ∷ mid) (next ∷ last) ∙ sym (append_assoc first (m ∷ []) (mid ++ next ∷ last)))
            (asks.one_id_at_a_time (map (shown_above later) first) (shown_above later m) (map (shown_above later) mid) (shown_above later next) (map (shown_above later) last)
            (shows-above ∙ ap (map (shown_above later)) e ∙ map-append (shown_above later) (first ++ m ∷ mid) (next ∷ last)
            ∙ ap (λ (zs : List Asked). zs ++ map (shown_above later) (next ∷ last)) (map-append (shown_above later) first (m ∷ mid)))
            (chains m.beat.tag.txn next.beat.tag.txn chain) two)
      ])

      pub requests-below : Requests wanted narrow issued (asked_later later) below down
      requests-below = record {
        asks_only_its_parts = λ t. prefix_of_same (prefix_same (own-parts t) (asks.asks_only_its_parts t)) (sym (same t).parts);
        ids_fit = subst (λ (xs : List Addr). All (λ (a : Addr). a.id < 2 ^ narrow) xs) (sym are.to_is)
            (All-map (λ (a : Addr). a.id < 2 ^ narrow) address_as moved (subst (λ (n : ℕ). All (λ (m : Renamed Addr). m.id < n) moved) ids_are has.small));
        whole_before_the_next = λ before a after t split earlier.
            let c = cut-map (shown_below later) moved before a after (sym shows-below ∙ split) in
            let number : c.at.beat.tag.txn ≡ a.number = ap number_of_asked c.at_is in
            ap (λ (xs : List Asked). length (of_key number_of_asked t xs)) (sym c.front_is) ∙ count-same t c.first
            ∙ asks.whole_before_the_next (map (shown_above later) c.first) (shown_above later c.at) (map (shown_above later) c.last) t
            (shows-above ∙ ap (map (shown_above later)) c.whole ∙ map-append (shown_above later) c.first (c.at ∷ c.last))
            (subst (λ (n : ℕ). t < n) (sym number) earlier.0, chains t c.at.beat.tag.txn (earlier.1 ∙ ap (λ (n : ℕ). (wanted n).chain) (sym number)))
            ∙ ap length (sym (same t).parts);
        one_id_at_a_time = λ before a between next after split chain differ.
            let c = cut-map (shown_below later) moved (before ++ a ∷ between) next after (sym shows-below ∙ split) in
            let d = cut-map (shown_below later) c.first before a between c.front_is in
            subst (λ (xs : List Asked). IsAnswered xs a down) d.front_is
            (subst (λ (z : Asked). IsAnswered (map (shown_below later) d.first) z down) d.at_is
            (one-of d.first d.at d.last c.at c.last (c.whole ∙ ap (λ (xs : List (Renamed Addr)). xs ++ c.at ∷ c.last) d.whole)
            (ap (λ (z : Asked). (wanted z.number).chain) d.at_is ∙ chain ∙ sym (ap (λ (z : Asked). (wanted z.number).chain) c.at_is))
            (λ h. differ (sym (ap id_of_asked d.at_is) ∙ h ∙ ap id_of_asked c.at_is))));
        was_issued = subst (λ (xs : List Addr). All (λ (a : Addr). IsTrue (issued a.tag.txn)) xs) (sym are.to_is)
            (all-renamed (λ n. IsTrue (issued n)) moved (subst (λ (xs : List Addr). All (λ (a : Addr). IsTrue (issued a.tag.txn)) xs) are.from_is asks.was_issued));
      }

-- the marks that the addresses announce are the same on both links
pub announced-same : (moved : List (Renamed Addr)) (above below : List Addr) → AreRenamed address_as moved above below → marks (map burst_asked below) ≡ marks (map burst_asked above)
announced-same moved above below are =
    ap (λ (xs : List Addr). marks (map burst_asked xs)) are.to_is ∙ marks-renamed moved ∙ sym (ap (λ (xs : List Addr). marks (map burst_asked xs)) are.from_is)

pub asks-below : (schedules : ℕ → Schedule) (now : Progress) (s : RemapState) (upper lower : Beats) → RemapKeeps schedules s upper lower →
    Asks (schedules s.shape.upper) now upper → Asks (schedules s.shape.lower) now lower
asks-below schedules now s upper lower keeps asks =
    let above = schedules s.shape.upper in
    let below = schedules s.shape.lower in
    let ids_are : ids_below s.shape ≡ 2 ^ below.id_width = ap (λ (n : ℕ). 2 ^ n) (sym keeps.suits.id_width) in
    record {
      writes = requests-below none_later (ids_below s.shape) keeps.writes s.writes _ _ keeps.write_ids upper.aw lower.aw keeps.aw above.writes below.writes above.id_width below.id_width now.issued ids_are
          keeps.suits.writes keeps.suits.write_chains asks.writes;
      reads = requests-below burst_later (ids_below s.shape) keeps.reads s.reads _ _ keeps.read_ids upper.ar lower.ar keeps.ar above.reads below.reads above.id_width below.id_width now.issued ids_are
          keeps.suits.reads keeps.suits.read_chains asks.reads;
      data_is_the_schedules = λ t.
          prefix_of_same (prefix_same (ap (of_key number_of_data t) keeps.w) (asks.data_is_the_schedules t)) (ap (λ (d : List (List WBeat)). flat_map (λ beats. beats) d) (sym (keeps.suits.writes t).write_data));
      data_follows_addresses =
          subst (λ (ms : List Mark). Agree ms (marks (map burst_asked lower.aw))) (ap (map mark_of_data) (sym keeps.w))
          (subst (λ (ms : List Mark). Agree (map mark_of_data upper.w) ms) (sym (announced-same keeps.writes upper.aw lower.aw keeps.aw)) asks.data_follows_addresses);
    }
