-- What a demux has passed on its links.
use Rattle.std.proofs.Common.{◌≡◌, ◌<◌, ℕ, List, [], ◌∷◌, ◌++◌, Option, Some, length, map, take, refl, sym, ◌∙◌, ap, subst, arith, Contains}
use Rattle.std.specs.Prelude.{All}
use Rattle.std.proofs.lemmas.List.Elements.{All-contains}
use Rattle.axi_beats.specs.declared.beat.Addr.{Addr}
use Rattle.axi_beats.specs.declared.beat.WBeat.{WBeat}
use Rattle.axi_beats.specs.declared.beat.BBeat.{BBeat}
use Rattle.axi_beats.specs.declared.beat.RBeat.{RBeat}
use Rattle.axi_link.specs.LinkView.{LinkView}
use Rattle.axi_link.specs.LinkWords.{link_of}
use Rattle.axi_trail.specs.LinkContracts.{Answers, Asks, Requests}
use Rattle.axi_trail.specs.Schedule.{Progress, Schedule, Share}
use Rattle.axi_trail.specs.Trail.{Beats, Trail, joined, moved_above, moved_below, no_beats, seen_above}
use Rattle.axi_trail.specs.Words.{InOrderOfId, burst_asked, completed, mark_of_data, marks, marks_of, number_of_address, number_of_data, number_of_read_data, number_of_response, read_reply, write_asked, write_reply}
use Rattle.demux_node.proofs.RowLemmas.{ar-is, aw-is, b-is, r-is, w-is, waits-there}
use Rattle.demux_node.proofs.StepLemmas.{ar-step, aw-step, b-step, port-is, put-above, r-step, row_beats, sent-on, taken-above, taken-below, w-step}
use Rattle.demux_node.proofs.TableLemmas.{all-after_r, earlier-writes, earlier_reads, found-there, keep-earlier, routes-after_w}
use Rattle.demux_node.specs.DemuxState.{DemuxShape, DemuxState, HaveOnePort, IsDemux, lower_of}
use Rattle.demux_node.specs.DemuxTable.{demux_above, demux_ar, demux_aw, demux_b, demux_next, demux_out, demux_r, demux_w, reads_after_r, writes_after_b, writes_after_w}
use Rattle.demux_node.specs.DemuxTrail.{DemuxKeeps, RoutesAreHeld, demux_kind, read_lower, read_port, write_lower, write_port}
use Rattle.demux_node.specs.declared.route.Route.{Route}
use Rattle.node_shape.proofs.OneLinkLemmas.{of-one}
use Rattle.node_shape.specs.KindLaws.{Lasts, MayDecide, Opens}
use Rattle.node_shape.specs.WayLaws.{FillsAtEnds}
use Rattle.plain_lists.proofs.CutLemmas.{never-cut}
use Rattle.plain_lists.proofs.PrefixLemmas.{Agree_fronts, prefix_append, prefix_flat_map, prefix_itself, prefix_map, prefix_nil}
use Rattle.plain_lists.specs.Prefixes.{Agree}

beats-are : (x y : Beats) → x.aw ≡ y.aw → x.w ≡ y.w → x.b ≡ y.b → x.ar ≡ y.ar → x.r ≡ y.r → x ≡ y
beats-are x y aw w b ar r =
    ap (λ (l : List Addr). record { aw = l; w = x.w; b = x.b; ar = x.ar; r = x.r }) aw
    ∙ ap (λ (l : List WBeat). record { aw = y.aw; w = l; b = x.b; ar = x.ar; r = x.r }) w
    ∙ ap (λ (l : List BBeat). record { aw = y.aw; w = y.w; b = l; ar = x.ar; r = x.r }) b
    ∙ ap (λ (l : List Addr). record { aw = y.aw; w = y.w; b = y.b; ar = l; r = x.r }) ar
    ∙ ap (λ (l : List RBeat). record { aw = y.aw; w = y.w; b = y.b; ar = y.ar; r = l }) r

-- nothing has come yet
none-held : (shares : ℕ → Share) (port lower : ℕ → ℕ) → RoutesAreHeld shares port lower [] [] []
none-held shares port lower = record {
  entries = refl;
  in_order = λ id. prefix_nil [];
  others = λ before a between next after split chain differ. absurd (never-cut (before ++ a ∷ between) next after split);
}

module _ (E : Type 0) where
  pub demux-opens : Opens (demux_kind {E = E})
  demux-opens schedules s new suits = subst (λ (t : DemuxState). DemuxKeeps schedules t no_beats (λ l. no_beats)) (sym new.new) (record {
    suits = suits;
    writes = none-held (schedules s.shape.upper).writes (write_port s.shape (schedules s.shape.upper)) (lower_of s.shape);
    reads = none-held (schedules s.shape.upper).reads (read_port s.shape (schedules s.shape.upper)) (lower_of s.shape);
    open_ones = record { closed = []; entries = refl; in_order = prefix_nil [] };
    passed = λ link. record { aw = refl; w = refl; b = refl; ar = refl; r = refl };
  })

  pub demux-may_decide : MayDecide (demux_kind {E = E})
  demux-may_decide schedules now rounds links s passed fact suits uppers lowers asked = record {
    upper = of-one (λ l. l < length links) s.shape.upper uppers;
    lowers = lowers;
  }

  pub demux-fills_nothing : FillsAtEnds (demux_kind {E = E})
  demux-fills_nothing schedules rounds s passed keeps number some = absurd (omega (arith, some))

-- One more round.
module _ (schedules : ℕ → Schedule) (now : Progress) (links : List LinkView) (s : DemuxState) (upper : Beats) (lowers : Trail) (fact : IsDemux s) (keeps : DemuxKeeps schedules s upper lowers)
    (asks : Asks (schedules s.shape.upper) now (joined upper (moved_below (demux_out links s) links s.shape.upper)))
    (answered : All (λ l. Answers (schedules l) now (seen_above (lowers l) (link_of links l))) s.shape.lowers) where
  abbrev shape : DemuxShape
  shape = s.shape

  abbrev plan : Schedule
  plan = schedules s.shape.upper

  abbrev aw : Option (ℕ × Addr)
  aw = demux_aw links s

  abbrev w : Option (ℕ × WBeat)
  w = demux_w links s

  abbrev b : Option (ℕ × BBeat)
  b = demux_b links s

  abbrev ar : Option (ℕ × Addr)
  ar = demux_ar links s

  abbrev r : Option (ℕ × RBeat)
  r = demux_r links s

  abbrev after : Beats
  after = record {
    aw = upper.aw ++ row_beats (demux_aw links s);
    w = upper.w ++ row_beats (demux_w links s);
    b = upper.b ++ row_beats (demux_b links s);
    ar = upper.ar ++ row_beats (demux_ar links s);
    r = upper.r ++ row_beats (demux_r links s);
  }

  upper-is : joined upper (moved_below (demux_out links s) links s.shape.upper) ≡ after
  upper-is =
      beats-are (joined upper (moved_below (demux_out links s) links s.shape.upper)) after
      (ap (λ (t : List Addr). upper.aw ++ t) (taken-above shape.upper (demux_above links shape).aw aw (λ x e. let is = aw-is links s x e in (is.rest, is.queue_is))))
      (ap (λ (t : List WBeat). upper.w ++ t) (taken-above shape.upper (demux_above links shape).w w (λ x e. let is = w-is links s x e in (is.rest, is.queue_is))))
      (ap (λ (t : List BBeat). upper.b ++ t) (put-above shape b))
      (ap (λ (t : List Addr). upper.ar ++ t) (taken-above shape.upper (demux_above links shape).ar ar (λ x e. let is = ar-is links s x e in (is.rest, is.queue_is))))
      (ap (λ (t : List RBeat). upper.r ++ t) (put-above shape r))

  asks-after : Asks plan now after
  asks-after = subst (λ (t : Beats). Asks plan now t) upper-is asks

  b-at : (x : ℕ × BBeat) → b ≡ Some x → (rest : List BBeat) × ((link_of links (lower_of shape x.0)).b ≡ x.1 ∷ rest)
  b-at x e = let is = b-is links s x e in found-there (λ k. k.b) links shape refl x.0 x.1 is.rest is.queue_is

  r-at : (x : ℕ × RBeat) → r ≡ Some x → (rest : List RBeat) × ((link_of links (lower_of shape x.0)).r ≡ x.1 ∷ rest)
  r-at x e = let is = r-is links s x e in found-there (λ k. k.r) links shape refl x.0 x.1 is.rest is.queue_is

  seen : (l : ℕ) → Contains shape.lowers l → Answers (schedules l) now (seen_above (lowers l) (link_of links l))
  seen l has = All-contains (λ (l : ℕ). Answers (schedules l) now (seen_above (lowers l) (link_of links l))) shape.lowers l answered has

  orders-b : (x : ℕ × BBeat) → b ≡ Some x → InOrderOfId (map write_asked (lowers (lower_of shape x.0)).aw) (map write_reply ((lowers (lower_of shape x.0)).b ++ x.1 ∷ []))
      × InOrderOfId (map write_asked (completed (lowers (lower_of shape x.0)).aw (map mark_of_data (lowers (lower_of shape x.0)).w))) (map write_reply ((lowers (lower_of shape x.0)).b ++ x.1 ∷ []))
  orders-b x e =
      let is = b-is links s x e in
      let l = lower_of shape x.0 in
      let there = seen l (waits-there links shape x.0 (λ k. k.b) refl x.1 is.rest is.queue_is).0 in
      let head = (b-at x e).1 in (
        subst (λ (xs : List BBeat). InOrderOfId (map write_asked (lowers l).aw) (map write_reply ((lowers l).b ++ xs))) (ap (λ (q : List BBeat). take 1 q) head) there.answers_in_order_of_id,
        subst (λ (xs : List BBeat). InOrderOfId (map write_asked (completed (lowers l).aw (map mark_of_data (lowers l).w))) (map write_reply ((lowers l).b ++ xs))) (ap (λ (q : List BBeat). take 1 q) head) there.answered_after_its_data,
      )

  orders-r : (x : ℕ × RBeat) → r ≡ Some x → InOrderOfId (map burst_asked (lowers (lower_of shape x.0)).ar) (map read_reply ((lowers (lower_of shape x.0)).r ++ x.1 ∷ []))
  orders-r x e =
      let is = r-is links s x e in
      let l = lower_of shape x.0 in
      let there = seen l (waits-there links shape x.0 (λ k. k.r) refl x.1 is.rest is.queue_is).0 in
      subst (λ (xs : List RBeat). InOrderOfId (map burst_asked (lowers l).ar) (map read_reply ((lowers l).r ++ xs))) (ap (λ (q : List RBeat). take 1 q) (r-at x e).1) there.reads_in_order_of_id

  to-w : (x : ℕ × Addr) → aw ≡ Some x → x.0 ≡ write_port shape plan x.1.tag.txn
  to-w x e =
      (aw-is links s x e).port_is
      ∙ port-is shape plan.writes (λ l. (schedules l).writes) plan.id_width now.issued write_asked upper.aw x.1 (map write_reply after.b) keeps.suits.writes
      (subst (λ (row : Option (ℕ × Addr)). Requests plan.writes plan.id_width now.issued write_asked (upper.aw ++ row_beats row) (map write_reply after.b)) e asks-after.writes)

  to-r : (x : ℕ × Addr) → ar ≡ Some x → x.0 ≡ read_port shape plan x.1.tag.txn
  to-r x e =
      (ar-is links s x e).port_is
      ∙ port-is shape plan.reads (λ l. (schedules l).reads) plan.id_width now.issued burst_asked upper.ar x.1 (map read_reply after.r) keeps.suits.reads
      (subst (λ (row : Option (ℕ × Addr)). Requests plan.reads plan.id_width now.issued burst_asked (upper.ar ++ row_beats row) (map read_reply after.r)) e asks-after.reads)

  pub lasts : DemuxKeeps schedules (demux_next links s) (joined upper (moved_below (demux_out links s) links s.shape.upper)) (λ l. joined (lowers l) (moved_above (demux_out links s) links l))
  lasts =
      let agree : Agree (map mark_of_data (upper.w ++ row_beats w)) (marks (map burst_asked upper.aw)) =
      Agree_fronts (prefix_itself (map mark_of_data (upper.w ++ row_beats w))) (prefix_flat_map marks_of (prefix_map burst_asked (prefix_append upper.aw (row_beats aw)))) asks-after.data_follows_addresses in
      let w_done = w-step shape plan upper lowers w s.writes keeps.open_ones agree (λ x e. let is = w-is links s x e in (is.write, is.found, is.port_is)) in
      let writes_w = writes_after_w w s.writes in
      let same_w = routes-after_w w s.writes in
      let filed_w = subst (λ (es : List Route). RoutesAreHeld plan.writes (write_port shape plan) (lower_of shape) (map write_asked upper.aw) (map write_reply upper.b) es) (sym same_w) keeps.writes in
      let b_done = b-step shape plan upper lowers b (upper.w ++ row_beats w) writes_w (prefix_append upper.w (row_beats w)) w_done.0 filed_w (subst HaveOnePort (sym same_w) fact.writes)
      (λ l. (keeps.passed l).aw) (λ l. (keeps.passed l).w) (λ l. (keeps.passed l).b) orders-b in
      let aw_done = aw-step shape plan upper lowers aw (upper.w ++ row_beats w) (upper.b ++ row_beats b) (writes_after_b b writes_w) b_done.0 b_done.1
      (earlier-writes links s fact).routes (λ x e. keep-earlier links s fact x.1.id x.0 (aw-is links s x e).own_port) to-w asks-after.writes.one_id_at_a_time in
      let r_done = r-step shape plan upper lowers r s.reads keeps.reads fact.reads (λ l. (keeps.passed l).ar) (λ l. (keeps.passed l).r) orders-r in
      let ar_done = ar-step shape plan upper lowers ar (upper.r ++ row_beats r) (reads_after_r r s.reads) r_done.0 (earlier_reads links s fact)
      (λ x e. all-after_r (λ (e : Route). e.id ≡ x.1.id → e.port ≡ x.0) r s.reads (ar-is links s x e).own_port) to-r asks-after.reads.one_id_at_a_time in
      subst (λ (u : Beats). DemuxKeeps schedules (demux_next links s) u (λ l. joined (lowers l) (moved_above (demux_out links s) links l))) (sym upper-is) (record {
        suits = keeps.suits;
        writes = aw_done.1;
        reads = ar_done;
        open_ones = aw_done.0;
        passed = λ l. record {
          aw = sent-on number_of_address (write_lower shape plan) shape aw (λ x e. ap (lower_of shape) (sym (to-w x e))) l upper.aw (lowers l).aw (keeps.passed l).aw;
          w = sent-on number_of_data (write_lower shape plan) shape w w_done.1 l upper.w (lowers l).w (keeps.passed l).w;
          b = ap (λ (t : List BBeat). (lowers l).b ++ t) (taken-below (λ k. k.b) links shape l b b-at)
              ∙ sent-on number_of_response (write_lower shape plan) shape b b_done.2 l upper.b (lowers l).b (keeps.passed l).b;
          ar = sent-on number_of_address (read_lower shape plan) shape ar (λ x e. ap (lower_of shape) (sym (to-r x e))) l upper.ar (lowers l).ar (keeps.passed l).ar;
          r = ap (λ (t : List RBeat). (lowers l).r ++ t) (taken-below (λ k. k.r) links shape l r r-at)
              ∙ sent-on number_of_read_data (read_lower shape plan) shape r r_done.1 l upper.r (lowers l).r (keeps.passed l).r;
        };
      })

module _ (E : Type 0) where
  pub demux-lasts : Lasts (demux_kind {E = E})
  demux-lasts schedules now rounds links s passed fact keeps can around =
      lasts schedules now links s (passed.uppers s.shape.upper) passed.lowers fact keeps
      (of-one (λ l. Asks (schedules l) now (joined (passed.uppers l) (moved_below (demux_out links s) links l))) s.shape.upper around.asked_next) around.answered_seen
