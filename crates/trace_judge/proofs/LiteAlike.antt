-- Rounds of an AXI4-Lite port that are judged alike, and rounds in which nothing is offered.
use Rattle.std.proofs.Common.{◌≡◌, ℕ, ◌∷◌, [], ◌++◌, ◌&&◌, Bool, List, Option, Some, None, length, refl, ap, ◌∙◌}
use Rattle.std.specs.Prelude.{nat_lt}
use Rattle.axi_beats.specs.declared.beat.WBeat.{WBeat}
use Rattle.axi_history.specs.declared.port.PortRound.{PortRound}
use Rattle.axi_history.specs.declared.port.RawAddr.{RawAddr}
use Rattle.axi_history.specs.declared.port.RawB.{RawB}
use Rattle.axi_history.specs.declared.port.RawR.{RawR}
use Rattle.axi_history.specs.PortHistory.{wait_of, transferred, waiting, on_aw, on_w, on_b, on_ar, on_r}
use Rattle.axi_history.specs.PortRules.{same_address, same_data, same_response, same_read, is_not_exokay, rules_of_offer}
use Rattle.axi_history.proofs.HistoryLemmas.{channels_kept, waiting_more}
use Rattle.lite_rules.specs.LiteRules.{has_no_id, is_lite_read_beat, lite_address_rules, lite_data_rules, lite_response_rules, lite_read_beat_rules, lite_response_follows_write, lite_read_beat_follows_address, rules_of_channel, lite_fault}
use Rattle.trace_judge.specs.Alike.{Alike, SameOffers, IsQuiet}
use Rattle.trace_judge.proofs.AlikeLemmas.{answer_alike, channels_alike, quiet_rules}

responses_alike : (h g : List PortRound) → Alike h g → lite_response_follows_write h ≡ lite_response_follows_write g
responses_alike h g a =
    ap (λ (xs : List RawB). nat_lt (length xs) (length (transferred on_aw h)) && nat_lt (length xs) (length (transferred on_w h))) a.b_moved
    ∙ ap (λ (xs : List RawAddr). nat_lt (length (transferred on_b g)) (length xs) && nat_lt (length (transferred on_b g)) (length (transferred on_w h))) a.aw_moved
    ∙ ap (λ (xs : List WBeat). nat_lt (length (transferred on_b g)) (length (transferred on_aw g)) && nat_lt (length (transferred on_b g)) (length xs)) a.w_moved

reads_alike : (h g : List PortRound) → Alike h g → lite_read_beat_follows_address h ≡ lite_read_beat_follows_address g
reads_alike h g a =
    ap (λ (xs : List RawR). nat_lt (length xs) (length (transferred on_ar h))) a.r_moved
    ∙ ap (λ (xs : List RawAddr). nat_lt (length (transferred on_r g)) (length xs)) a.ar_moved

response_alike : (h g : List PortRound) → Alike h g → (o : Option RawB) → rules_of_offer o (lite_response_rules h) ≡ rules_of_offer o (lite_response_rules g)
response_alike h g a None = refl
response_alike h g a (Some b) = ap (λ (v : Bool). (4, has_no_id b.id) ∷ (5, is_not_exokay b.resp) ∷ (6, v) ∷ []) (responses_alike h g a)

read_alike : (h g : List PortRound) → Alike h g → (o : Option RawR) → rules_of_offer o (lite_read_beat_rules h) ≡ rules_of_offer o (lite_read_beat_rules g)
read_alike h g a None = refl
read_alike h g a (Some r) = ap (λ (v : Bool). (4, is_lite_read_beat r) ∷ (5, is_not_exokay r.resp) ∷ (6, v) ∷ []) (reads_alike h g a)

pub lite_alike : (bus : ℕ) (h g : List PortRound) (r s : PortRound) → Alike h g → SameOffers r s → lite_fault bus h r ≡ lite_fault bus g s
lite_alike bus h g r s a o =
    channels_alike
    (rules_of_channel same_address on_aw (lite_address_rules bus) h r) (rules_of_channel same_address on_aw (lite_address_rules bus) g s)
    (rules_of_channel same_data on_w lite_data_rules h r) (rules_of_channel same_data on_w lite_data_rules g s)
    (rules_of_channel same_response on_b (lite_response_rules h) h r) (rules_of_channel same_response on_b (lite_response_rules g) g s)
    (rules_of_channel same_address on_ar (lite_address_rules bus) h r) (rules_of_channel same_address on_ar (lite_address_rules bus) g s)
    (rules_of_channel same_read on_r (lite_read_beat_rules h) h r) (rules_of_channel same_read on_r (lite_read_beat_rules g) g s)
    (answer_alike same_address (waiting on_aw h) (waiting on_aw g) r.aw s.aw (lite_address_rules bus) (lite_address_rules bus) a.aw_waits o.aw (λ v. refl))
    (answer_alike same_data (waiting on_w h) (waiting on_w g) r.w s.w lite_data_rules lite_data_rules a.w_waits o.w (λ v. refl))
    (answer_alike same_response (waiting on_b h) (waiting on_b g) r.b s.b (lite_response_rules h) (lite_response_rules g) a.b_waits o.b (response_alike h g a))
    (answer_alike same_address (waiting on_ar h) (waiting on_ar g) r.ar s.ar (lite_address_rules bus) (lite_address_rules bus) a.ar_waits o.ar (λ v. refl))
    (answer_alike same_read (waiting on_r h) (waiting on_r g) r.r s.r (lite_read_beat_rules h) (lite_read_beat_rules g) a.r_waits o.r (read_alike h g a))

-- a round in which nothing is offered breaks nothing after another such round
pub lite_quiet : (bus : ℕ) (h : List PortRound) (q r : PortRound) → IsQuiet q → IsQuiet r → lite_fault bus (h ++ q ∷ []) r ≡ None
lite_quiet bus h q r a o =
    let g : List PortRound = h ++ q ∷ [] in
    channels_kept
    (rules_of_channel same_address on_aw (lite_address_rules bus) g r) (rules_of_channel same_data on_w lite_data_rules g r) (rules_of_channel same_response on_b (lite_response_rules g) g r)
    (rules_of_channel same_address on_ar (lite_address_rules bus) g r) (rules_of_channel same_read on_r (lite_read_beat_rules g) g r)
    (quiet_rules same_address (waiting on_aw g) r.aw (lite_address_rules bus) (waiting_more on_aw h q ∙ ap wait_of a.aw) o.aw)
    (quiet_rules same_data (waiting on_w g) r.w lite_data_rules (waiting_more on_w h q ∙ ap wait_of a.w) o.w)
    (quiet_rules same_response (waiting on_b g) r.b (lite_response_rules g) (waiting_more on_b h q ∙ ap wait_of a.b) o.b)
    (quiet_rules same_address (waiting on_ar g) r.ar (lite_address_rules bus) (waiting_more on_ar h q ∙ ap wait_of a.ar) o.ar)
    (quiet_rules same_read (waiting on_r g) r.r (lite_read_beat_rules g) (waiting_more on_r h q ∙ ap wait_of a.r) o.r)
