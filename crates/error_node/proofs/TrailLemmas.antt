-- An error subordinate over what it has passed on its link.
use Rattle.std.proofs.Common.{◌≡◌, ◌<◌, ◌≤◌, ℕ, suc, Bool, true, false, List, [], ◌∷◌, ◌++◌, length, replicate, refl, sym, ◌∙◌, ap, subst, arith, append-nil}
use Rattle.std.specs.Prelude.{All, option_map}
use Rattle.std.proofs.lemmas.List.{length-map}
use Rattle.std.proofs.lemmas.List.Elements.{All-nil, All-push}
use Rattle.axi_beats.specs.Lanes.{Span}
use Rattle.axi_beats.specs.declared.beat.Addr.{Addr}
use Rattle.axi_beats.specs.declared.beat.RBeat.{RBeat}
use Rattle.axi_beats.specs.declared.response.Resp.{Resp}
use Rattle.axi_link.specs.LinkWords.{head_of}
use Rattle.axi_trail.specs.LinkContracts.{Answers, Asks}
use Rattle.axi_trail.specs.Schedule.{Schedule, bytes_on}
use Rattle.axi_trail.specs.Trail.{Beats, no_beats}
use Rattle.axi_trail.specs.Words.{number_of_read_data}
use Rattle.error_node.specs.ErrorState.{ErrorState, new_error}
use Rattle.error_node.specs.ErrorTable.{error_service}
use Rattle.error_node.specs.ErrorTrail.{error_kind}
use Rattle.node_core.specs.Rows.{beat_where}
use Rattle.node_shape.specs.Kind.{passed_after}
use Rattle.node_shape.specs.KindLaws.{AnswersAbove, AsksBelow, Lasts, MayDecide, Opens}
use Rattle.node_shape.specs.WayLaws.{FillsAtEnds}
use Rattle.node_shape.proofs.OneLinkLemmas.{all-one, of-one, one-has}
use Rattle.plain_lists.specs.Keys.{of_key}
use Rattle.plain_lists.proofs.PrefixLemmas.{prefix_length}
use Rattle.subordinate.specs.Parts.{BeatOf, beats_of_parts}
use Rattle.subordinate.specs.SubordinateTable.{its_rows, next_beat}
use Rattle.subordinate.specs.Tracks.{IsService, KeepsOrder}
use Rattle.subordinate.specs.declared.entry.ReadEntry.{ReadEntry}
use Rattle.subordinate.proofs.OrderAnswers.{answers-order}
use Rattle.subordinate.proofs.ReadOrder.{reads-none}
use Rattle.subordinate.proofs.TrailLemmas.{one_of, order-lasts, trail-after}
use Rattle.subordinate.proofs.WriteOrder.{tracks-none}

error-is_service : IsService error_service
error-is_service = record { data_status = λ a n w. refl; beat_status = λ a n. refl; beat_lanes = λ kept a n. refl }

abbrev IsZero : RBeat → Type 0
IsZero r = r.lanes ≡ replicate 128 0

zeros-put : (done : Bool) (entries : List ReadEntry) (r : List RBeat) → All IsZero r → All IsZero (r ++ one_of (beat_where done (option_map (next_beat error_service tt) (head_of entries))))
zeros-put false entries r zeros = subst (λ (t : List RBeat). All IsZero t) (sym (append-nil r)) zeros
zeros-put true [] r zeros = subst (λ (t : List RBeat). All IsZero t) (sym (append-nil r)) zeros
zeros-put true (e ∷ es) r zeros = All-push IsZero r (next_beat error_service tt e) zeros refl

new-order : (schedule : Schedule) (upper : ℕ) → KeepsOrder error_service schedule (new_error upper) no_beats
new-order schedule upper = record { writes = tracks-none error_service; reads = reads-none schedule.reads }

-- only of what comes are beats answered
comes-of : (parts : List Addr) (beats : List RBeat) (lanes : List Span) → length beats ≤ length (beats_of_parts parts) → 0 < length (bytes_on beats lanes) → 0 < length parts
comes-of [] [] lanes few some = absurd (omega (arith, some))
comes-of [] (r ∷ beats) lanes few some = absurd (omega (arith, few))
comes-of (p ∷ parts) beats lanes few some = omega arith

module _ (E : Type 0) where
  pub error-opens : Opens (error_kind {E = E})
  error-opens schedules s new suits = record {
    suits = suits;
    order = subst (λ (e : ErrorState). KeepsOrder error_service (schedules s.upper) e no_beats) (sym new) (new-order (schedules s.upper) s.upper);
    zeros = All-nil IsZero;
  }

  pub error-may_decide : MayDecide (error_kind {E = E})
  error-may_decide schedules now rounds links s passed fact suits above below asked = record { upper = of-one (λ l. l < length links) s.upper above }

  pub error-lasts : Lasts (error_kind {E = E})
  error-lasts schedules now rounds links s passed fact keeps can around =
      let u : ℕ = s.upper in
      let trail : Beats = passed.uppers u in
      let asks : Asks (schedules u) now trail = of-one (λ l. Asks (schedules l) now (passed.uppers l)) u around.asked in
      let later = of-one (λ l. Asks (schedules l) now ((passed_after (error_kind {E = E}) (suc rounds) links s passed).uppers l)) u around.asked_next in
      record {
        suits = keeps.suits;
        order = order-lasts error_service (schedules u) now links s trail error-is_service keeps.suits keeps.order asks later;
        zeros = subst (λ (t : Beats). All IsZero t.r) (sym (trail-after error_service links s trail)) (zeros-put (its_rows error_service links s).r s.reads trail.r keeps.zeros);
      }

  pub error-asks_below : AsksBelow (error_kind {E = E})
  error-asks_below schedules now rounds s passed fact keeps known asked = All-nil (λ l. Asks (schedules l) now (passed.lowers l))

  pub error-answers_above : AnswersAbove (error_kind {E = E})
  error-answers_above schedules now rounds s passed fact keeps known above below answered =
      let u : ℕ = s.upper in
      all-one (λ l. Answers (schedules l) now (passed.uppers l)) u
      (answers-order error_service (schedules u) now s (passed.uppers u) error-is_service keeps.suits keeps.order (of-one (λ l. Asks (schedules l) now (passed.uppers l)) u above) known.written known.filled)

  pub error-fills_at_ends : FillsAtEnds (error_kind {E = E})
  error-fills_at_ends schedules rounds s passed keeps number some =
      let trail : Beats = passed.uppers s.upper in
      let share = (schedules s.upper).reads number in
      let beats : List RBeat = of_key number_of_read_data number trail.r in
      let due : length share.responses ≡ length (beats_of_parts share.parts) =
      ap (λ (rs : List Resp). length rs) (keeps.suits number).read_responses ∙ length-map (beats_of_parts share.parts) (λ (b : BeatOf). error_service.beat_status b.request b.beat) in
      let few : length beats ≤ length (beats_of_parts share.parts) =
      omega (arith, prefix_length (keeps.order.reads.statuses number), length-map beats (λ (r : RBeat). r.resp), due) in
      record { none_below = refl; link = s.upper; among = one-has s.upper; comes = comes-of share.parts beats share.lanes few some }
