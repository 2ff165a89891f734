-- What a demux is answered at its ports, it answers.
use Rattle.std.proofs.Common.{◌≡◌, ◌<◌, ℕ, List, [], ◌∷◌, length, map, refl, sym, ◌∙◌, ap, subst, arith, Contains}
use Rattle.std.specs.Prelude.{All, Some, slice_get, unwrap_or}
use Rattle.std.proofs.lemmas.List.Elements.{All-contains}
use Rattle.std.proofs.lemmas.Option.{get_or_from_slice_get, slice_get-get_or, slice_get_within}
use Rattle.axi_beats.specs.Lanes.{Span}
use Rattle.axi_beats.specs.declared.beat.Addr.{Addr}
use Rattle.axi_beats.specs.declared.beat.BBeat.{BBeat}
use Rattle.axi_beats.specs.declared.beat.RBeat.{RBeat}
use Rattle.axi_trail.proofs.WholeFacts.{answered_after_data}
use Rattle.axi_trail.specs.LinkContracts.{Answers}
use Rattle.axi_trail.specs.Schedule.{Progress, Schedule, bytes_on}
use Rattle.axi_trail.specs.Trail.{Beats, Trail}
use Rattle.axi_trail.specs.Words.{held_asked, number_of_read_data, number_of_response, write_asked, write_reply}
use Rattle.demux_node.proofs.AskLemmas.{own-beats}
use Rattle.demux_node.proofs.OpenLemmas.{open-are_held}
use Rattle.demux_node.proofs.PortLemmas.{port-within}
use Rattle.demux_node.specs.DemuxState.{DemuxShape, DemuxState, IsDemux, IsDemuxShape, lower_of}
use Rattle.demux_node.specs.DemuxTrail.{DemuxKeeps, demux_kind, port_of_parts, read_lower, write_lower, write_port}
use Rattle.node_shape.proofs.OneLinkLemmas.{all-one}
use Rattle.node_shape.specs.KindLaws.{AnswersAbove}
use Rattle.plain_lists.proofs.PrefixLemmas.{prefix_of_same, prefix_same}
use Rattle.plain_lists.proofs.SelectedLemmas.{all-by_way}
use Rattle.plain_lists.specs.Keys.{of_key}
use Rattle.plain_lists.specs.Prefixes.{IsPrefix}

-- each port has a link below
pub lower-at : (shape : DemuxShape) (port : ℕ) → port < length shape.lowers → slice_get shape.lowers port ≡ Some (lower_of shape port)
lower-at shape port within =
    let at = slice_get-get_or shape.lowers port 0 within in
    at ∙ ap (λ (n : ℕ). Some n) (sym (ap (λ o. unwrap_or o 0) at))

pub lower-among : (shape : DemuxShape) (port : ℕ) → port < length shape.lowers → Contains shape.lowers (lower_of shape port)
lower-among shape port within =
    let at = lower-at shape port within in
    (port, slice_get_within shape.lowers port (lower_of shape port) at, get_or_from_slice_get shape.lowers port (lower_of shape port) (lower_of shape port) at)

pub port_of_parts-within : (shape : DemuxShape) → IsDemuxShape shape → (parts : List Addr) → port_of_parts shape parts < length shape.lowers
port_of_parts-within shape is [] = port-within shape is 0
port_of_parts-within shape is (a ∷ parts) = port-within shape is a.addr

answers-at : (schedules : ℕ → Schedule) (now : Progress) (s : DemuxState) (upper : Beats) (lowers : Trail) → IsDemux s → DemuxKeeps schedules s upper lowers →
    All (λ l. Answers (schedules l) now (lowers l)) s.shape.lowers → Answers (schedules s.shape.upper) now upper
answers-at schedules now s upper lowers fact keeps answered =
    let above = schedules s.shape.upper in
    let write_way = write_lower s.shape above in
    let read_way = read_lower s.shape above in
    let at : (l : ℕ) → Contains s.shape.lowers l → Answers (schedules l) now (lowers l) = λ l has. All-contains (λ (l : ℕ). Answers (schedules l) now (lowers l)) s.shape.lowers l answered has in
    let at_write : (t : ℕ) → Answers (schedules (write_way t)) now (lowers (write_way t)) =
    λ t. at (write_way t) (lower-among s.shape (port_of_parts s.shape (above.writes t).parts) (port_of_parts-within s.shape fact.shape (above.writes t).parts)) in
    let at_read : (t : ℕ) → Answers (schedules (read_way t)) now (lowers (read_way t)) =
    λ t. at (read_way t) (lower-among s.shape (port_of_parts s.shape (above.reads t).parts) (port_of_parts-within s.shape fact.shape (above.reads t).parts)) in
    let b_is : (t : ℕ) → of_key number_of_response t upper.b ≡ of_key number_of_response t (lowers (write_way t)).b =
    λ t. sym (own-beats number_of_response write_way (write_way t) t upper.b (lowers (write_way t)).b (keeps.passed (write_way t)).b refl) in
    let r_is : (t : ℕ) → of_key number_of_read_data t upper.r ≡ of_key number_of_read_data t (lowers (read_way t)).r =
    λ t. sym (own-beats number_of_read_data read_way (read_way t) t upper.r (lowers (read_way t)).r (keeps.passed (read_way t)).r refl) in
    record {
      answers_in_order_of_id = keeps.writes.in_order;
      reads_in_order_of_id = keeps.reads.in_order;
      responses_are_the_schedules = λ t.
          prefix_of_same (prefix_same (ap (λ (bs : List BBeat). map (λ (b : BBeat). b.resp) bs) (b_is t)) ((at_write t).responses_are_the_schedules t)) (keeps.suits.writes.same t).responses;
      read_responses_are_the_schedules = λ t.
          prefix_of_same (prefix_same (ap (λ (rs : List RBeat). map (λ (r : RBeat). r.resp) rs) (r_is t)) ((at_read t).read_responses_are_the_schedules t)) (keeps.suits.reads.same t).responses;
      answered_after_its_data =
          answered_after_data upper.aw upper.w upper.b keeps.open_ones.in_order keeps.writes.in_order
          (λ id. open-are_held (write_port s.shape above) upper.aw upper.w s.writes keeps.open_ones (held_asked (map write_asked upper.aw) (map write_reply upper.b)) id keeps.writes.entries);
      done_when_answered = λ t some all.
          let long : length ((schedules (write_way t)).writes t).parts ≡ length (above.writes t).parts = ap (λ (xs : List Addr). length xs) (keeps.suits.writes.same t).parts in
          let count : length (of_key number_of_response t upper.b) ≡ length (of_key number_of_response t (lowers (write_way t)).b) = ap (λ (bs : List BBeat). length bs) (b_is t) in
          (at_write t).done_when_answered t (omega (arith, long, some)) (omega (arith, long, all, count));
      lanes_are_whole =
          all-by_way (λ (r : RBeat). length r.lanes ≡ 128) number_of_read_data read_way upper.r
          (λ t. subst (λ (rs : List RBeat). All (λ (r : RBeat). length r.lanes ≡ 128) rs) (keeps.passed (read_way t)).r (at_read t).lanes_are_whole);
      bytes_are_filled = λ t.
          prefix_same (ap (λ (rs : List RBeat). bytes_on rs (above.reads t).lanes) (r_is t))
          (subst (λ (lanes : List Span). IsPrefix (bytes_on (of_key number_of_read_data t (lowers (read_way t)).r) lanes) (now.filled t)) (keeps.suits.reads.same t).lanes ((at_read t).bytes_are_filled t));
    }

module _ (E : Type 0) where
  pub demux-answers : AnswersAbove (demux_kind {E = E})
  demux-answers schedules now rounds s passed fact keeps known asked asks answered =
      all-one (λ l. Answers (schedules l) now (passed.uppers l)) s.shape.upper
      (answers-at schedules now s (passed.uppers s.shape.upper) passed.lowers fact keeps answered)
