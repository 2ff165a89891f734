-- A round of an AXI4-Lite port is judged by what is kept as by the rules on whole histories, and what is kept after it
-- stands for the longer history.
use Rattle.std.proofs.Common.{◌≡◌, ℕ, ◌∷◌, [], ◌++◌, Bool, true, false, List, Option, Some, None, refl, sym, ap, ◌∙◌}
use Rattle.std.specs.List.{list_all}
use Rattle.std.specs.Option.{ForSome}
use Rattle.axi_beats.specs.declared.beat.WBeat.{WBeat}
use Rattle.axi_history.specs.declared.port.PortRound.{PortRound}
use Rattle.axi_history.specs.declared.port.RawAddr.{RawAddr}
use Rattle.axi_history.specs.declared.port.RawB.{RawB}
use Rattle.axi_history.specs.declared.port.RawR.{RawR}
use Rattle.axi_history.specs.declared.port.Seen.{Seen}
use Rattle.axi_history.specs.PortHistory.{offer_of, transfer_of, transferred, waiting, on_aw, on_w, on_b, on_ar, on_r}
use Rattle.axi_history.specs.PortRules.{same_address, same_data, same_response, same_read, handshake_rules, least_broken, or_else, rules_of_offer, is_not_exokay}
use Rattle.axi_history.proofs.HistoryLemmas.{else_parts, least_append, channel_kept, transferred_more, waiting_more}
use Rattle.lite_rules.specs.LiteRules.{has_no_id, is_lite_access, is_lite_read_beat, lite_address_rules, lite_data_rules, lite_response_rules, lite_read_beat_rules, lite_response_follows_write, lite_read_beat_follows_address, rules_of_channel, lite_fault}
use Rattle.port_rules.specs.Kept.{Kept, kept_after_round}
use Rattle.port_rules.specs.KeptFaults.{on_fault, lite_response_fault, lite_read_fault, lite_aw_fault, lite_w_fault, lite_b_fault, lite_ar_fault, lite_r_fault, lite_kept_fault}
use Rattle.port_rules.specs.LiteHeld.{LiteHeld}
use Rattle.port_rules.specs.Offers.{fault_of_offer}
use Rattle.port_rules.proofs.KeptLemmas.{was_offered, of_offer, writes_kept, reads_kept}
use Rattle.lite_rules.proofs.WordLemmas.{all_more}
use Rattle.port_rules.proofs.LiteAnswerLemmas.{whole_where, open_where, response_follows, read_follows}

-- ---- a round is judged alike

aw_same : (bus : ℕ) (k : Kept) (h : List PortRound) (r : PortRound) → LiteHeld bus k h → lite_aw_fault bus k r ≡ least_broken (rules_of_channel same_address on_aw (lite_address_rules bus) h r)
aw_same bus k h r held = ap (λ (o : Option RawAddr). least_broken (handshake_rules same_address o (offer_of r.aw) ++ rules_of_offer (offer_of r.aw) (lite_address_rules bus))) held.aw

w_same : (bus : ℕ) (k : Kept) (h : List PortRound) (r : PortRound) → LiteHeld bus k h → lite_w_fault k r ≡ least_broken (rules_of_channel same_data on_w lite_data_rules h r)
w_same bus k h r held = ap (λ (o : Option WBeat). least_broken (handshake_rules same_data o (offer_of r.w) ++ rules_of_offer (offer_of r.w) lite_data_rules)) held.w

ar_same : (bus : ℕ) (k : Kept) (h : List PortRound) (r : PortRound) → LiteHeld bus k h → lite_ar_fault bus k r ≡ least_broken (rules_of_channel same_address on_ar (lite_address_rules bus) h r)
ar_same bus k h r held = ap (λ (o : Option RawAddr). least_broken (handshake_rules same_address o (offer_of r.ar) ++ rules_of_offer (offer_of r.ar) (lite_address_rules bus))) held.ar

responses_told : (bus : ℕ) (k : Kept) (h : List PortRound) → LiteHeld bus k h → (offer : Option RawB) → fault_of_offer offer (lite_response_fault k.writes.whole) ≡ least_broken (rules_of_offer offer (lite_response_rules h))
responses_told bus k h held None = refl
responses_told bus k h held (Some b) =
    ap (λ (v : Bool). least_broken ((4, has_no_id b.id) ∷ (5, is_not_exokay b.resp) ∷ (6, v) ∷ []))
    (whole_where k.writes (transferred on_aw h) (transferred on_w h) (transferred on_b h) held.lasts held.writes)

b_same : (bus : ℕ) (k : Kept) (h : List PortRound) (r : PortRound) → LiteHeld bus k h → lite_b_fault k r ≡ least_broken (rules_of_channel same_response on_b (lite_response_rules h) h r)
b_same bus k h r held =
    ap (λ (o : Option RawB). or_else (least_broken (handshake_rules same_response o (offer_of r.b))) (fault_of_offer (offer_of r.b) (lite_response_fault k.writes.whole))) held.b
    ∙ ap (λ (o : Option ℕ). or_else (least_broken (handshake_rules same_response (waiting on_b h) (offer_of r.b))) o) (responses_told bus k h held (offer_of r.b))
    ∙ sym (least_append (handshake_rules same_response (waiting on_b h) (offer_of r.b)) (rules_of_offer (offer_of r.b) (lite_response_rules h)))

reads_told : (bus : ℕ) (k : Kept) (h : List PortRound) → LiteHeld bus k h → (offer : Option RawR) → fault_of_offer offer (lite_read_fault k.reads) ≡ least_broken (rules_of_offer offer (lite_read_beat_rules h))
reads_told bus k h held None = refl
reads_told bus k h held (Some beat) =
    ap (λ (v : Bool). least_broken ((4, is_lite_read_beat beat) ∷ (5, is_not_exokay beat.resp) ∷ (6, v) ∷ []))
    (open_where k.reads (transferred on_ar h) (transferred on_r h) held.read_beats held.reads)

r_same : (bus : ℕ) (k : Kept) (h : List PortRound) (r : PortRound) → LiteHeld bus k h → lite_r_fault k r ≡ least_broken (rules_of_channel same_read on_r (lite_read_beat_rules h) h r)
r_same bus k h r held =
    ap (λ (o : Option RawR). or_else (least_broken (handshake_rules same_read o (offer_of r.r))) (fault_of_offer (offer_of r.r) (lite_read_fault k.reads))) held.r
    ∙ ap (λ (o : Option ℕ). or_else (least_broken (handshake_rules same_read (waiting on_r h) (offer_of r.r))) o) (reads_told bus k h held (offer_of r.r))
    ∙ sym (least_append (handshake_rules same_read (waiting on_r h) (offer_of r.r)) (rules_of_offer (offer_of r.r) (lite_read_beat_rules h)))

abbrev by_channel : Option ℕ → Option ℕ → Option ℕ → Option ℕ → Option ℕ → Option (ℕ × ℕ)
by_channel aw w b ar r = or_else (on_fault 1 aw) (or_else (on_fault 2 w) (or_else (on_fault 3 b) (or_else (on_fault 4 ar) (on_fault 5 r))))

pub lite_told : (bus : ℕ) (k : Kept) (h : List PortRound) (r : PortRound) → LiteHeld bus k h → lite_kept_fault bus k r ≡ lite_fault bus h r
lite_told bus k h r held =
    let one = least_broken (rules_of_channel same_address on_aw (lite_address_rules bus) h r) in
    let two = least_broken (rules_of_channel same_data on_w lite_data_rules h r) in
    let three = least_broken (rules_of_channel same_response on_b (lite_response_rules h) h r) in
    let four = least_broken (rules_of_channel same_address on_ar (lite_address_rules bus) h r) in
    ap (λ (o : Option ℕ). by_channel o (lite_w_fault k r) (lite_b_fault k r) (lite_ar_fault bus k r) (lite_r_fault k r)) (aw_same bus k h r held)
    ∙ ap (λ (o : Option ℕ). by_channel one o (lite_b_fault k r) (lite_ar_fault bus k r) (lite_r_fault k r)) (w_same bus k h r held)
    ∙ ap (λ (o : Option ℕ). by_channel one two o (lite_ar_fault bus k r) (lite_r_fault k r)) (b_same bus k h r held)
    ∙ ap (λ (o : Option ℕ). by_channel one two three o (lite_r_fault k r)) (ar_same bus k h r held)
    ∙ ap (λ (o : Option ℕ). by_channel one two three four o) (r_same bus k h r held)

-- ---- what is kept stands for the longer history

one_kept : (n : ℕ) (x : Bool) → least_broken ((n, x) ∷ []) ≡ None → x ≡ true
one_kept n true e = refl
one_kept n false e = absurd cc

three_kept : (x y z : Bool) → least_broken ((4, x) ∷ (5, y) ∷ (6, z) ∷ []) ≡ None → (x ≡ true) × (z ≡ true)
three_kept true true true e = (refl, refl)
three_kept true true false e = absurd cc
three_kept true false z e = absurd cc
three_kept false y z e = absurd cc

-- what a channel transfers keeps the rules of what it offers
transfer_keeps : {X : Type 0} → (same : X → X → Bool) (channel : PortRound → Option (Seen X)) (rules : X → List (ℕ × Bool)) (h : List PortRound) (r : PortRound) → least_broken (rules_of_channel same channel rules h r) ≡ None →
    (x : X) → transfer_of (channel r) ≡ Some x → least_broken (rules x) ≡ None
transfer_keeps same channel rules h r none x e =
    let first = handshake_rules same (waiting channel h) (offer_of (channel r)) in
    let parts = else_parts (least_broken first) (least_broken (rules_of_offer (offer_of (channel r)) rules)) (sym (least_append first (rules_of_offer (offer_of (channel r)) rules)) ∙ none) in
    of_offer (offer_of (channel r)) rules x (was_offered (channel r) x e) parts.1

-- what a channel has transferred grows by what keeps a test
moved_more : {X : Type 0} → (p : X → Bool) (channel : PortRound → Option (Seen X)) (h : List PortRound) (r : PortRound) → list_all p (transferred channel h) ≡ true → ForSome (transfer_of (channel r)) (λ x. p x ≡ true) → list_all p (transferred channel (h ++ r ∷ [])) ≡ true
moved_more p channel h r all more = ap (list_all p) (transferred_more channel h r) ∙ all_more p (transferred channel h) (transfer_of (channel r)) all more

pub lite_kept : (bus : ℕ) (k : Kept) (h : List PortRound) (r : PortRound) → LiteHeld bus k h → lite_fault bus h r ≡ None → LiteHeld bus (kept_after_round true k r) (h ++ r ∷ [])
lite_kept bus k h r held none =
    let one = rules_of_channel same_address on_aw (lite_address_rules bus) h r in
    let two = rules_of_channel same_data on_w lite_data_rules h r in
    let three = rules_of_channel same_response on_b (lite_response_rules h) h r in
    let four = rules_of_channel same_address on_ar (lite_address_rules bus) h r in
    let five = rules_of_channel same_read on_r (lite_read_beat_rules h) h r in
    let p1 = else_parts (on_fault 1 (least_broken one)) (or_else (on_fault 2 (least_broken two)) (or_else (on_fault 3 (least_broken three)) (or_else (on_fault 4 (least_broken four)) (on_fault 5 (least_broken five))))) none in
    let p2 = else_parts (on_fault 2 (least_broken two)) (or_else (on_fault 3 (least_broken three)) (or_else (on_fault 4 (least_broken four)) (on_fault 5 (least_broken five)))) p1.1 in
    let p3 = else_parts (on_fault 3 (least_broken three)) (or_else (on_fault 4 (least_broken four)) (on_fault 5 (least_broken five))) p2.1 in
    let p4 = else_parts (on_fault 4 (least_broken four)) (on_fault 5 (least_broken five)) p3.1 in
    let adds = transferred on_aw h in
    let ws = transferred on_w h in
    let bs = transferred on_b h in
    let reads = transferred on_ar h in
    let beats = transferred on_r h in
    let b_rules : (b : RawB) → transfer_of r.b ≡ Some b → (has_no_id b.id ≡ true) × (lite_response_follows_write h ≡ true) = λ b e. three_kept (has_no_id b.id) (is_not_exokay b.resp) (lite_response_follows_write h) (transfer_keeps same_response on_b (lite_response_rules h) h r (channel_kept 3 three p3.0) b e) in
    let r_rules : (beat : RawR) → transfer_of r.r ≡ Some beat → (is_lite_read_beat beat ≡ true) × (lite_read_beat_follows_address h ≡ true) = λ beat e. three_kept (is_lite_read_beat beat) (is_not_exokay beat.resp) (lite_read_beat_follows_address h) (transfer_keeps same_read on_r (lite_read_beat_rules h) h r (channel_kept 5 five p4.1) beat e) in
    record {
      aw = sym (waiting_more on_aw h r);
      w = sym (waiting_more on_w h r);
      b = sym (waiting_more on_b h r);
      ar = sym (waiting_more on_ar h r);
      r = sym (waiting_more on_r h r);
      write_accesses = moved_more (is_lite_access bus) on_aw h r held.write_accesses (λ a e. one_kept 3 (is_lite_access bus a) (transfer_keeps same_address on_aw (lite_address_rules bus) h r (channel_kept 1 one p1.0) a e));
      lasts = moved_more (λ (beat : WBeat). beat.last) on_w h r held.lasts (λ beat e. one_kept 4 beat.last (transfer_keeps same_data on_w lite_data_rules h r (channel_kept 2 two p2.0) beat e));
      responses = moved_more (λ (b : RawB). has_no_id b.id) on_b h r held.responses (λ b e. (b_rules b e).0);
      read_accesses = moved_more (is_lite_access bus) on_ar h r held.read_accesses (λ a e. one_kept 3 (is_lite_access bus a) (transfer_keeps same_address on_ar (lite_address_rules bus) h r (channel_kept 4 four p4.0) a e));
      read_beats = moved_more is_lite_read_beat on_r h r held.read_beats (λ beat e. (r_rules beat e).0);
      writes = writes_kept k.writes h r held.writes (λ b e. response_follows bus adds ws bs b held.write_accesses held.lasts held.responses (b_rules b e).0 (b_rules b e).1);
      reads = reads_kept k.reads h r held.reads (λ beat e. read_follows bus reads beats beat held.read_accesses held.read_beats (r_rules beat e).0 (r_rules beat e).1);
    }
