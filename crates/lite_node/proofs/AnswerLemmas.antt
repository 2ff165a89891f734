-- A Lite bridge answers above as it is answered below.
use Rattle.std.proofs.Common.{◌≡◌, ◌+◌, ◌++◌, ℕ, List, [], ◌∷◌, length, map, take, refl, sym, ◌∙◌, ap, ap₂, subst, arith}
use Rattle.std.specs.Prelude.{All, filter, slice_range}
use Rattle.std.proofs.lemmas.List.{length-map}
use Rattle.std.proofs.lemmas.List.Elements.{All-head, All-map, All-tail}
use Rattle.axi_beats.specs.Lanes.{Span}
use Rattle.axi_beats.specs.declared.beat.Addr.{Addr}
use Rattle.axi_beats.specs.declared.beat.BBeat.{BBeat}
use Rattle.axi_beats.specs.declared.beat.RBeat.{RBeat}
use Rattle.axi_beats.specs.declared.response.Resp.{Resp}
use Rattle.axi_trail.specs.LinkContracts.{Answers, Asks}
use Rattle.axi_trail.specs.Schedule.{Progress, Schedule, bytes_on}
use Rattle.axi_trail.specs.Trail.{Beats}
use Rattle.axi_trail.specs.Words.{Asked, InOrderOfId, Mark, burst_asked, completed, data_marks, mark_of_data, number_of_read_data, number_of_response, read_reply, write_asked, write_reply}
use Rattle.lite_node.specs.LiteState.{LiteState}
use Rattle.lite_node.specs.LiteTable.{returned_b, returned_r, word_request}
use Rattle.lite_node.specs.LiteTrail.{IsWordBeat, LiteKeeps, lite_kind, returned_in_order}
use Rattle.lite_node.proofs.AskLemmas.{requests-have}
use Rattle.lite_node.proofs.OrderLemmas.{order-returned, order-returned_first, own-same, shown-same, words-asked}
use Rattle.node_shape.specs.KindLaws.{AnswersAbove}
use Rattle.node_shape.proofs.OneLinkLemmas.{all-one, of-one}
use Rattle.plain_lists.specs.Keys.{of_key}
use Rattle.plain_lists.proofs.CutLemmas.{all-unmap}
use Rattle.plain_lists.proofs.PrefixLemmas.{prefix_of_same, prefix_same}

-- a read of one beat asks for as much as a write
pub single-asked : (bus : ℕ) (xs : List Addr) → All (IsWordBeat bus) xs → map burst_asked xs ≡ map write_asked xs
single-asked bus [] all = refl
single-asked bus (x ∷ xs) all =
    ap₂ (λ (n : ℕ) (t : List Asked). record { number = x.tag.txn; id = x.id; len = n } ∷ t) (All-head (IsWordBeat bus) x xs all).single (single-asked bus xs (All-tail (IsWordBeat bus) x xs all))

-- bytes are those of the lanes
abbrev bytes-of : (lanes : List (List ℕ)) (spans : List Span) → List ℕ
bytes-of [] spans = []
bytes-of (bs ∷ lanes) [] = []
bytes-of (bs ∷ lanes) (span ∷ spans) = slice_range bs span.low (span.high + 1) ++ bytes-of lanes spans

bytes-are : (beats : List RBeat) (spans : List Span) → bytes_on beats spans ≡ bytes-of (map (λ (r : RBeat). r.lanes) beats) spans
bytes-are [] spans = refl
bytes-are (r ∷ beats) [] = refl
bytes-are (r ∷ beats) (span ∷ spans) = ap (λ (t : List ℕ). slice_range r.lanes span.low (span.high + 1) ++ t) (bytes-are beats spans)

abbrev resp_of : BBeat → Resp
resp_of b = b.resp

abbrev status_of : RBeat → Resp
status_of r = r.resp

abbrev lanes_of : RBeat → List ℕ
lanes_of r = r.lanes

pub answered-in_words : (above below : Schedule) (now : Progress) (s : LiteState) (upper lower : Beats) → LiteKeeps above below s upper lower → Asks above now upper → Answers below now lower → Answers above now upper
answered-in_words above below now s upper lower keeps asks answers =
    let bus : ℕ = s.shape.bus in
    let up_b : List BBeat = returned_in_order returned_b upper.aw lower.b in
    let up_r : List RBeat = returned_in_order returned_r upper.ar lower.r in
    let reads = requests-have bus above.reads upper.ar (λ t. (keeps.carries.reads t).beats) asks.reads.asks_only_its_parts in
    let order_b : InOrderOfId (map write_asked (map (word_request bus) upper.aw)) (map write_reply lower.b) =
    subst (λ (xs : List Addr). InOrderOfId (map write_asked xs) (map write_reply lower.b)) keeps.writes.asked answers.answers_in_order_of_id in
    let order_r : InOrderOfId (map write_asked (map (word_request bus) upper.ar)) (map read_reply lower.r) =
    subst (λ (xs : List Asked). InOrderOfId xs (map read_reply lower.r)) (ap (map burst_asked) keeps.reads.asked ∙ words-asked bus upper.ar) answers.reads_in_order_of_id in
    let own_b : (t : ℕ) → map resp_of (of_key number_of_response t upper.b) ≡ map resp_of (of_key number_of_response t lower.b) =
    λ t. ap (λ (xs : List BBeat). map resp_of (of_key number_of_response t xs)) keeps.b
    ∙ own-same returned_b resp_of (λ id x. refl) number_of_response (λ id x. refl) t upper.aw lower.b keeps.writes.few in
    let own_r : (t : ℕ) → map status_of (of_key number_of_read_data t upper.r) ≡ map status_of (of_key number_of_read_data t lower.r) =
    λ t. ap (λ (xs : List RBeat). map status_of (of_key number_of_read_data t xs)) keeps.r
    ∙ own-same returned_r status_of (λ id x. refl) number_of_read_data (λ id x. refl) t upper.ar lower.r keeps.reads.few in
    let own_lanes : (t : ℕ) → map lanes_of (of_key number_of_read_data t upper.r) ≡ map lanes_of (of_key number_of_read_data t lower.r) =
    λ t. ap (λ (xs : List RBeat). map lanes_of (of_key number_of_read_data t xs)) keeps.r
    ∙ own-same returned_r lanes_of (λ id x. refl) number_of_read_data (λ id x. refl) t upper.ar lower.r keeps.reads.few in
    record {
      answers_in_order_of_id = subst (λ (xs : List BBeat). InOrderOfId (map write_asked upper.aw) (map write_reply xs)) (sym keeps.b)
          (order-returned returned_b write_reply (λ id x. refl) bus upper.aw lower.b order_b);
      reads_in_order_of_id = subst (λ (xs : List RBeat). InOrderOfId (map burst_asked upper.ar) (map read_reply xs)) (sym keeps.r)
          (subst (λ (xs : List Asked). InOrderOfId xs (map read_reply up_r)) (sym (single-asked bus upper.ar reads))
          (order-returned returned_r read_reply (λ id x. refl) bus upper.ar lower.r order_r));
      responses_are_the_schedules = λ t. prefix_same (own_b t) (prefix_of_same (answers.responses_are_the_schedules t) (keeps.carries.writes t).responses);
      read_responses_are_the_schedules = λ t. prefix_same (own_r t) (prefix_of_same (answers.read_responses_are_the_schedules t) (keeps.carries.reads t).responses);
      answered_after_its_data =
          let k : ℕ = length (filter (λ (m : Mark). m.last) (data_marks upper)) in
          let passed : data_marks lower ≡ data_marks upper = ap (map mark_of_data) keeps.w in
          let here : InOrderOfId (map write_asked (take k (map (word_request bus) upper.aw))) (map write_reply lower.b) =
          subst (λ (xs : List Addr). InOrderOfId (map write_asked (take k xs)) (map write_reply lower.b)) keeps.writes.asked
          (subst (λ (ms : List Mark). InOrderOfId (map write_asked (completed lower.aw ms)) (map write_reply lower.b)) passed answers.answered_after_its_data) in
          subst (λ (xs : List BBeat). InOrderOfId (map write_asked (take k upper.aw)) (map write_reply xs)) (sym keeps.b)
          (order-returned_first returned_b write_reply (λ id x. refl) bus k upper.aw lower.b here);
      done_when_answered = λ t some all.
          let parts : length (below.writes t).parts ≡ length (above.writes t).parts = ap length (keeps.carries.writes t).parts ∙ length-map (above.writes t).parts (word_request bus) in
          let many : length (of_key number_of_response t upper.b) ≡ length (of_key number_of_response t lower.b) =
          sym (length-map (of_key number_of_response t upper.b) resp_of) ∙ ap length (own_b t) ∙ length-map (of_key number_of_response t lower.b) resp_of in
          answers.done_when_answered t (omega (arith, parts, some)) (omega (arith, parts, many, all));
      lanes_are_whole = subst (λ (xs : List RBeat). All (λ r. length r.lanes ≡ 128) xs) (sym keeps.r)
          (all-unmap (λ (bs : List ℕ). length bs ≡ 128) lanes_of up_r
          (subst (λ (xs : List (List ℕ)). All (λ bs. length bs ≡ 128) xs) (sym (shown-same returned_r lanes_of (λ id x. refl) upper.ar lower.r keeps.reads.few))
          (All-map (λ (bs : List ℕ). length bs ≡ 128) lanes_of lower.r answers.lanes_are_whole)));
      bytes_are_filled = λ t.
          prefix_same
          (bytes-are (of_key number_of_read_data t upper.r) (above.reads t).lanes
          ∙ ap₂ (λ (xs : List (List ℕ)) (spans : List Span). bytes-of xs spans) (own_lanes t) (sym (keeps.carries.reads t).lanes)
          ∙ sym (bytes-are (of_key number_of_read_data t lower.r) (below.reads t).lanes))
          (answers.bytes_are_filled t);
    }

module _ (E : Type 0) where
  pub lite-answers : AnswersAbove (lite_kind {E = E})
  lite-answers schedules now rounds s passed fact keeps known asked asks answered =
      let u : ℕ = s.shape.upper in
      let d : ℕ = s.shape.lower in
      all-one (λ l. Answers (schedules l) now (passed.uppers l)) u
      (answered-in_words (schedules u) (schedules d) now s (passed.uppers u) (passed.lowers d) keeps
      (of-one (λ l. Asks (schedules l) now (passed.uppers l)) u asked) (of-one (λ l. Answers (schedules l) now (passed.lowers l)) d answered))
