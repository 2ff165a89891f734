-- What a mux has passed on its links.
use Rattle.std.proofs.Common.{[], ◌++◌, ◌<◌, ◌^◌, ◌∷◌, ◌≡◌, ◌≤◌, List, Some, arith, length, subst, sym, take, ℕ}
use Rattle.std.specs.Prelude.{All, IfSome, slice_get}
use Rattle.std.proofs.Math.Nat.{pow-le-pow_right}
use Rattle.std.proofs.lemmas.List.Elements.{All-head, All-weaker}
use Rattle.axi_beats.specs.declared.beat.Addr.{Addr}
use Rattle.axi_link.specs.LinkWords.{head_of, link_of}
use Rattle.axi_trail.specs.LinkContracts.{Answers, Asks}
use Rattle.axi_trail.specs.Trail.{no_beats, seen_below}
use Rattle.mux_node.proofs.AnswerLemmas.{answers-at}
use Rattle.mux_node.proofs.AskLemmas.{asks-below}
use Rattle.mux_node.proofs.StepLemmas.{begins-keeping, kept}
use Rattle.mux_node.specs.MuxState.{MuxState}
use Rattle.mux_node.specs.MuxTable.{answered, ids_of}
use Rattle.mux_node.specs.MuxTrail.{MuxKeeps, mux_kind}
use Rattle.node_shape.proofs.OneLinkLemmas.{all-one, of-one}
use Rattle.node_shape.specs.KindLaws.{AnswersAbove, AsksBelow, Lasts, MayDecide, Opens}
use Rattle.node_shape.specs.WayLaws.{FillsAtEnds}
use Rattle.plain_lists.proofs.CutLemmas.{all-right}
use Rattle.plain_lists.proofs.PlaceLemmas.{all-at, at-all}

-- the head of a queue is small where what has passed with it is
head-small : (ids : ℕ) (passed queue : List Addr) → All (λ (a : Addr). a.id < ids) (passed ++ take 1 queue) → IfSome (head_of queue) (λ a. a.id < ids)
head-small ids passed [] small = tt
head-small ids passed (a ∷ queue) small = All-head (λ (a : Addr). a.id < ids) a [] (all-right (λ (a : Addr). a.id < ids) passed (a ∷ []) small)

module _ (E : Type 0) where
  pub mux-opens : Opens (mux_kind {E = E})
  mux-opens schedules s begun suits = subst (λ (t : MuxState). MuxKeeps schedules t (λ link. no_beats) no_beats) (sym begun.new) (begins-keeping schedules s.shape suits)

  pub mux-may_decide : MayDecide (mux_kind {E = E})
  mux-may_decide schedules now rounds links s passed fact suits uppers lowers asked =
      let seen = λ (link : ℕ). seen_below (passed.uppers link) (link_of links link) in
      let narrow : (i link : ℕ) → slice_get s.shape.uppers i ≡ Some link → 2 ^ (schedules link).id_width ≤ ids_of s.shape =
      λ i link at. pow-le-pow_right {n = 2} (omega arith) {i = (schedules link).id_width} {j = s.shape.width} (at-all (λ l. (schedules l).id_width ≤ s.shape.width) s.shape.uppers i link suits.narrow at) in
      let asks : (i link : ℕ) → slice_get s.shape.uppers i ≡ Some link → Asks (schedules link) now (seen_below (passed.uppers link) (link_of links link)) =
      λ i link at. at-all (λ l. Asks (schedules l) now (seen_below (passed.uppers l) (link_of links l))) s.shape.uppers i link asked at in
      record {
        uppers = uppers;
        lower = of-one (λ l. l < length links) s.shape.lower lowers;
        aw_ids = all-at (λ l. IfSome (head_of (link_of links l).aw) (λ (a : Addr). a.id < ids_of s.shape)) s.shape.uppers (λ i link at.
            head-small (ids_of s.shape) (passed.uppers link).aw (link_of links link).aw
            (All-weaker (λ (a : Addr). a.id < 2 ^ (schedules link).id_width) (λ (a : Addr). a.id < ids_of s.shape) (λ a is. let most = narrow i link at in omega (arith, is, most)) _ (asks i link at).writes.ids_fit));
        ar_ids = all-at (λ l. IfSome (head_of (link_of links l).ar) (λ (a : Addr). a.id < ids_of s.shape)) s.shape.uppers (λ i link at.
            head-small (ids_of s.shape) (passed.uppers link).ar (link_of links link).ar
            (All-weaker (λ (a : Addr). a.id < 2 ^ (schedules link).id_width) (λ (a : Addr). a.id < ids_of s.shape) (λ a is. let most = narrow i link at in omega (arith, is, most)) _ (asks i link at).reads.ids_fit));
      }

  pub mux-lasts : Lasts (mux_kind {E = E})
  mux-lasts schedules now rounds links s passed fact keeps can around = kept schedules now links s passed.uppers (passed.lowers s.shape.lower) keeps around.asked_next

  pub mux-asks : AsksBelow (mux_kind {E = E})
  mux-asks schedules now rounds s passed fact keeps known asked =
      all-one (λ l. Asks (schedules l) now (passed.lowers l)) s.shape.lower (asks-below schedules now s passed.uppers (passed.lowers s.shape.lower) keeps asked)

  pub mux-answers : AnswersAbove (mux_kind {E = E})
  mux-answers schedules now rounds s passed fact keeps known asked asks answered =
      all-at (λ l. Answers (schedules l) now (passed.uppers l)) s.shape.uppers
      (answers-at schedules now s passed.uppers (passed.lowers s.shape.lower) keeps (of-one (λ l. Answers (schedules l) now (passed.lowers l)) s.shape.lower answered))

  pub mux-fills_nothing : FillsAtEnds (mux_kind {E = E})
  mux-fills_nothing schedules rounds s passed keeps number some = absurd (omega (arith, some))
