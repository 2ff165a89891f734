-- What a splitter has passed on its links.
use Rattle.std.proofs.Common.{◌≡◌, ◌<◌, ℕ, suc, List, [], ◌∷◌, ◌++◌, get_or, length, map, take, refl, sym, subst, arith}
use Rattle.std.specs.Prelude.{All, IfSome}
use Rattle.std.proofs.lemmas.List.{get_or-map, length-map}
use Rattle.std.proofs.lemmas.List.Elements.{All-head}
use Rattle.axi_beats.specs.declared.beat.Addr.{Addr}
use Rattle.axi_link.specs.LinkWords.{head_of, link_of}
use Rattle.axi_trail.specs.LinkContracts.{Answers, Asks, without_id}
use Rattle.axi_trail.specs.Schedule.{Schedule}
use Rattle.axi_trail.specs.Trail.{no_beats, seen_above, seen_below}
use Rattle.axi_trail.specs.Words.{number_of_address}
use Rattle.node_shape.specs.KindLaws.{AnswersAbove, AsksBelow, Lasts, MayDecide, Opens}
use Rattle.node_shape.specs.WayLaws.{FillsAtEnds}
use Rattle.node_shape.proofs.OneLinkLemmas.{all-one, of-one}
use Rattle.plain_lists.proofs.KeyLemmas.{of_key-push}
use Rattle.plain_lists.proofs.PrefixLemmas.{All_front}
use Rattle.plain_lists.specs.Keys.{of_key}
use Rattle.plain_lists.specs.Prefixes.{IsPrefix}
use Rattle.split_node.proofs.AnswerLemmas.{split-answers}
use Rattle.split_node.proofs.AskLemmas.{split-asks}
use Rattle.split_node.proofs.RoundLemmas.{split-opens, split-steps}
use Rattle.split_node.specs.SplitState.{IsCuttable, SplitState}
use Rattle.split_node.specs.SplitTrail.{SplitKeeps, split_kind}

-- the last of a list
all-last : (P : Addr → Type 0) (xs : List Addr) (x : Addr) → All P (xs ++ x ∷ []) → P x
all-last P [] x all = All-head P x [] all
all-last P (y ∷ xs) x all = all-last P xs x (λ k d within. all (suc k) d (omega (arith, within)))

-- what holds of the addresses of each transaction holds of the head that is seen
seen-head : (P : Addr → Type 0) (front queue : List Addr) → ((t : ℕ) → All P (of_key number_of_address t (front ++ take 1 queue))) → IfSome (head_of queue) P
seen-head P front [] all = tt
seen-head P front (a ∷ queue) all =
    all-last P (of_key number_of_address (number_of_address a) front) a
    (subst (λ (xs : List Addr). All P xs) (of_key-push number_of_address (number_of_address a) front a refl) (all (number_of_address a)))

-- the addresses of a transaction can be cut where its parts can
of-parts : (addresses parts : List Addr) → IsPrefix (map without_id addresses) parts → All IsCuttable parts → All IsCuttable addresses
of-parts addresses parts front all k d within =
    let long : length (map without_id addresses) ≡ length addresses = length-map addresses without_id in
    let each : IsCuttable (get_or (map without_id addresses) k (without_id d)) = All_front IsCuttable front all k (without_id d) (omega (arith, within, long)) in
    let same : IsCuttable (without_id (get_or addresses k d)) = subst IsCuttable (get_or-map without_id addresses k d (without_id d) within) each in
    record { legal = same.legal; small = same.small }

module _ (E : Type 0) where
  pub split-opens_kind : Opens (split_kind {E = E})
  split-opens_kind schedules s new splits =
      subst (λ (x : SplitState). SplitKeeps (schedules s.upper) (schedules s.lower) x no_beats no_beats) (sym new)
      (split-opens (schedules s.upper) (schedules s.lower) s.upper s.lower splits)

  pub split-may_decide : MayDecide (split_kind {E = E})
  split-may_decide schedules now rounds links s passed fact splits uppers lowers asked =
      let asks = of-one (λ l. Asks (schedules l) now (seen_below (passed.uppers l) (link_of links l))) s.upper asked in
      record {
        upper = of-one (λ l. l < length links) s.upper uppers;
        lower = of-one (λ l. l < length links) s.lower lowers;
        aw = seen-head IsCuttable (passed.uppers s.upper).aw (link_of links s.upper).aw (λ t. of-parts _ _ (asks.writes.asks_only_its_parts t) (splits.cut_writes t));
        ar = seen-head IsCuttable (passed.uppers s.upper).ar (link_of links s.upper).ar (λ t. of-parts _ _ (asks.reads.asks_only_its_parts t) (splits.cut_reads t));
      }

  pub split-lasts : Lasts (split_kind {E = E})
  split-lasts schedules now rounds links s passed fact keeps can around =
      split-steps (schedules s.upper) (schedules s.lower) now links s (passed.uppers s.upper) (passed.lowers s.lower) fact keeps
      (of-one (λ l. Asks (schedules l) now (passed.uppers l)) s.upper around.asked)
      (of-one (λ l. Answers (schedules l) now (seen_above (passed.lowers l) (link_of links l))) s.lower around.answered_seen)

  pub split-asks_below : AsksBelow (split_kind {E = E})
  split-asks_below schedules now rounds s passed fact keeps known asked =
      all-one (λ l. Asks (schedules l) now (passed.lowers l)) s.lower
      (split-asks (schedules s.upper) (schedules s.lower) now s (passed.uppers s.upper) (passed.lowers s.lower) keeps
      (of-one (λ l. Asks (schedules l) now (passed.uppers l)) s.upper asked))

  pub split-answers_above : AnswersAbove (split_kind {E = E})
  split-answers_above schedules now rounds s passed fact keeps known asked asks answered =
      all-one (λ l. Answers (schedules l) now (passed.uppers l)) s.upper
      (split-answers (schedules s.upper) (schedules s.lower) now s (passed.uppers s.upper) (passed.lowers s.lower) keeps
      (of-one (λ l. Asks (schedules l) now (passed.uppers l)) s.upper asked)
      (of-one (λ l. Asks (schedules l) now (passed.lowers l)) s.lower asks)
      (of-one (λ l. Answers (schedules l) now (passed.lowers l)) s.lower answered))

  pub split-fills_nothing : FillsAtEnds (split_kind {E = E})
  split-fills_nothing schedules rounds s passed keeps number some = absurd (omega (arith, some))
