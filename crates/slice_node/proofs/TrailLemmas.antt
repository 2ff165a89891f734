-- What a slice has passed on its two links.
use Rattle.std.proofs.Common.{◌≡◌, ℕ, Bool, true, false, cond, List, [], ◌∷◌, refl, sym, ◌∙◌, ap, ap₂, subst, eq-eqb, arith}
use Rattle.std.specs.Prelude.{◌<◌, is_some, length}
use Rattle.axi_link.specs.LinkView.{LinkView}
use Rattle.axi_link.specs.LinkWords.{has_room, head_of}
use Rattle.axi_link.specs.Moves.{appended, takes_from}
use Rattle.axi_beats.specs.declared.beat.Addr.{Addr}
use Rattle.axi_beats.specs.declared.beat.WBeat.{WBeat}
use Rattle.axi_beats.specs.declared.beat.BBeat.{BBeat}
use Rattle.axi_beats.specs.declared.beat.RBeat.{RBeat}
use Rattle.axi_trail.specs.LinkContracts.{Answers, Asks}
use Rattle.axi_trail.specs.Trail.{Beats, beat_taken, joined, moved_above, moved_below}
use Rattle.node_core.specs.Rows.{beat_where, put_of, take_of}
use Rattle.node_shape.specs.KindLaws.{AnswersAbove, AsksBelow, Lasts, MayDecide, Opens}
use Rattle.node_shape.specs.WayLaws.{FillsAtEnds}
use Rattle.node_shape.proofs.CarryLemmas.{answered_is_carried, asked_is_carried}
use Rattle.node_shape.proofs.OneLinkLemmas.{all-one, of-one}
use Rattle.slice_node.specs.SliceState.{SliceState}
use Rattle.slice_node.specs.SliceTable.{slice_above, slice_below, slice_out}
use Rattle.slice_node.specs.SliceTrail.{slice_kind}

-- what is taken of one link is what is put on the other
passes-on : {X : Type 0} (room : Bool) (queue : List X) (from to : ℕ) →
    appended to (put_of to (beat_where room (head_of queue))) ≡ beat_taken (takes_from from (take_of from (is_some (beat_where room (head_of queue))))) queue
passes-on false queue from to = refl
passes-on true [] from to = refl
passes-on {X} true (x ∷ queue) from to =
    ap (λ (b : Bool). cond b (x ∷ []) []) (eq-eqb to to refl) ∙ ap (λ (b : Bool). beat_taken b (x ∷ queue)) (sym (eq-eqb from from refl))

beats-are : (x y : Beats) → x.aw ≡ y.aw → x.w ≡ y.w → x.b ≡ y.b → x.ar ≡ y.ar → x.r ≡ y.r → x ≡ y
beats-are x y aw w b ar r =
    ap (λ (l : List Addr). record { aw = l; w = x.w; b = x.b; ar = x.ar; r = x.r }) aw
    ∙ ap (λ (l : List WBeat). record { aw = y.aw; w = l; b = x.b; ar = x.ar; r = x.r }) w
    ∙ ap (λ (l : List BBeat). record { aw = y.aw; w = y.w; b = l; ar = x.ar; r = x.r }) b
    ∙ ap (λ (l : List Addr). record { aw = y.aw; w = y.w; b = y.b; ar = l; r = x.r }) ar
    ∙ ap (λ (l : List RBeat). record { aw = y.aw; w = y.w; b = y.b; ar = y.ar; r = l }) r

-- what moves in a round
slice-moves : (links : List LinkView) (s : SliceState) → moved_above (slice_out links s) links s.lower ≡ moved_below (slice_out links s) links s.upper
slice-moves links s =
    let u = slice_above links s in
    let l = slice_below links s in
    beats-are (moved_above (slice_out links s) links s.lower) (moved_below (slice_out links s) links s.upper)
    (passes-on (has_room l.depth l.aw) u.aw s.upper s.lower)
    (passes-on (has_room l.depth l.w) u.w s.upper s.lower)
    (sym (passes-on (has_room u.depth u.b) l.b s.lower s.upper))
    (passes-on (has_room l.depth l.ar) u.ar s.upper s.lower)
    (sym (passes-on (has_room u.depth u.r) l.r s.lower s.upper))

module _ (E : Type 0) where
  pub slice-opens : Opens (slice_kind {E = E})
  slice-opens schedules s new carries = record { carries = carries; same = refl }

  pub slice-may_decide : MayDecide (slice_kind {E = E})
  slice-may_decide schedules now rounds links s passed fact suits uppers lowers asked = record {
    upper = of-one (λ l. l < length links) s.upper uppers;
    lower = of-one (λ l. l < length links) s.lower lowers;
  }

  pub slice-lasts : Lasts (slice_kind {E = E})
  slice-lasts schedules now rounds links s passed fact keeps can around = record {
    carries = keeps.carries;
    same = ap₂ (λ (a b : Beats). joined a b) keeps.same (slice-moves links s);
  }

  pub slice-asks : AsksBelow (slice_kind {E = E})
  slice-asks schedules now rounds s passed fact keeps known asked =
      all-one (λ l. Asks (schedules l) now (passed.lowers l)) s.lower
      (subst (λ (trail : Beats). Asks (schedules s.lower) now trail) (sym keeps.same)
      (asked_is_carried (schedules s.upper) (schedules s.lower) now (passed.uppers s.upper) keeps.carries
      (of-one (λ l. Asks (schedules l) now (passed.uppers l)) s.upper asked)))

  pub slice-answers : AnswersAbove (slice_kind {E = E})
  slice-answers schedules now rounds s passed fact keeps known asked asks answered =
      all-one (λ l. Answers (schedules l) now (passed.uppers l)) s.upper
      (answered_is_carried (schedules s.upper) (schedules s.lower) now (passed.uppers s.upper) keeps.carries
      (subst (λ (trail : Beats). Answers (schedules s.lower) now trail) keeps.same
      (of-one (λ l. Answers (schedules l) now (passed.lowers l)) s.lower answered)))

  pub slice-fills_nothing : FillsAtEnds (slice_kind {E = E})
  slice-fills_nothing schedules rounds s passed keeps number some = absurd (omega (arith, some))
