-- A round is judged by what is kept as by the rules on whole histories.
use Rattle.std.proofs.Common.{◌≡◌, ℕ, ◌∷◌, [], ◌++◌, true, List, Option, Some, None, refl, sym, ap, ◌∙◌}
use Rattle.std.specs.Prelude.{count_by, zip}
use Rattle.std.specs.Option.{option_to_list}
use Rattle.std.specs.List.{list_all}
use Rattle.std.proofs.lemmas.Bool.{and_from}
use Rattle.std.proofs.lemmas.List.Folds.{list_all-append}
use Rattle.axi_beats.specs.declared.beat.WBeat.{WBeat}
use Rattle.axi_history.specs.declared.port.PortRound.{PortRound}
use Rattle.axi_history.specs.declared.port.RawAddr.{RawAddr}
use Rattle.axi_history.specs.declared.port.RawB.{RawB}
use Rattle.axi_history.specs.declared.port.RawR.{RawR}
use Rattle.axi_history.specs.PortHistory.{offer_of, transferred, waiting, offered, bursts, on_aw, on_w, on_b, on_ar, on_r}
use Rattle.axi_history.specs.PortRules.{same_address, same_data, same_response, same_read, handshake_rules, least_broken, or_else, rules_of_offer, address_rules, keeps_address_rules, has_last_where_due, has_strobes_on_valid_lanes, last_is_on_the_last_beat, strobes_are_on_valid_lanes, each_addressed_beat, response_rules, read_beat_rules, write_address_rules, write_data_rules, write_response_rules, read_address_rules, read_data_rules, axi4_fault}
use Rattle.axi_history.proofs.HistoryLemmas.{else_parts, least_append, channel_kept}
use Rattle.axi_history.proofs.SameLemmas.{addresses_equal, data_equal}
use Rattle.port_rules.specs.OpenWrites.{response_fault}
use Rattle.port_rules.specs.OpenReads.{read_fault}
use Rattle.port_rules.specs.Offers.{new_offer, fault_of_offer}
use Rattle.port_rules.specs.Unpaired.{Unpaired, data_fault}
use Rattle.port_rules.specs.Kept.{Kept, new_aw, new_w}
use Rattle.port_rules.specs.KeptFaults.{on_fault, aw_fault, w_fault, b_fault, ar_fault, r_fault, axi4_kept_fault}
use Rattle.port_rules.specs.Held.{Held}
use Rattle.port_rules.proofs.AddressLemmas.{new_keeps}
use Rattle.port_rules.proofs.HeldLemmas.{offered_more, data_told}
use Rattle.port_rules.proofs.WriteLemmas.{judges_response}
use Rattle.port_rules.proofs.ReadLemmas.{judges_read}

-- what counts only where nothing is answered before
module _ {X : Type 0} where
  pub else_same : (a b c : Option X) → (a ≡ None → b ≡ c) → or_else a b ≡ or_else a c
  else_same None b c same = same refl
  else_same (Some x) b c same = refl

-- ---- what the round before has left waiting

aw_same : (bus : ℕ) (k : Kept) (h : List PortRound) (r : PortRound) → Held bus k h → aw_fault bus k r ≡ least_broken (write_address_rules bus h r)
aw_same bus k h r held = ap (λ (o : Option RawAddr). least_broken (handshake_rules same_address o (offer_of r.aw) ++ rules_of_offer (offer_of r.aw) (address_rules bus))) held.aw

ar_same : (bus : ℕ) (k : Kept) (h : List PortRound) (r : PortRound) → Held bus k h → ar_fault bus k r ≡ least_broken (read_address_rules bus h r)
ar_same bus k h r held = ap (λ (o : Option RawAddr). least_broken (handshake_rules same_address o (offer_of r.ar) ++ rules_of_offer (offer_of r.ar) (address_rules bus))) held.ar

responses_told : (bus : ℕ) (k : Kept) (h : List PortRound) → Held bus k h → (offer : Option RawB) → fault_of_offer offer (response_fault k.writes.whole) ≡ least_broken (rules_of_offer offer (response_rules h))
responses_told bus k h held None = refl
responses_told bus k h held (Some b) = judges_response k.writes (transferred on_aw h) (count_by (λ (beat : WBeat). beat.last) (transferred on_w h)) (transferred on_b h) b held.writes

b_same : (bus : ℕ) (k : Kept) (h : List PortRound) (r : PortRound) → Held bus k h → b_fault k r ≡ least_broken (write_response_rules h r)
b_same bus k h r held =
    ap (λ (o : Option RawB). or_else (least_broken (handshake_rules same_response o (offer_of r.b))) (fault_of_offer (offer_of r.b) (response_fault k.writes.whole))) held.b
    ∙ ap (λ (o : Option ℕ). or_else (least_broken (handshake_rules same_response (waiting on_b h) (offer_of r.b))) o) (responses_told bus k h held (offer_of r.b))
    ∙ sym (least_append (handshake_rules same_response (waiting on_b h) (offer_of r.b)) (rules_of_offer (offer_of r.b) (response_rules h)))

reads_told : (bus : ℕ) (k : Kept) (h : List PortRound) → Held bus k h → (offer : Option RawR) → fault_of_offer offer (read_fault k.reads) ≡ least_broken (rules_of_offer offer (read_beat_rules h))
reads_told bus k h held None = refl
reads_told bus k h held (Some beat) = judges_read k.reads (transferred on_ar h) (transferred on_r h) beat held.reads

r_same : (bus : ℕ) (k : Kept) (h : List PortRound) (r : PortRound) → Held bus k h → r_fault k r ≡ least_broken (read_data_rules h r)
r_same bus k h r held =
    ap (λ (o : Option RawR). or_else (least_broken (handshake_rules same_read o (offer_of r.r))) (fault_of_offer (offer_of r.r) (read_fault k.reads))) held.r
    ∙ ap (λ (o : Option ℕ). or_else (least_broken (handshake_rules same_read (waiting on_r h) (offer_of r.r))) o) (reads_told bus k h held (offer_of r.r))
    ∙ sym (least_append (handshake_rules same_read (waiting on_r h) (offer_of r.r)) (rules_of_offer (offer_of r.r) (read_beat_rules h)))

-- ---- addresses and W beats of a round that keeps the rules of AW, and rules 1 and 2 on W

pub record Grown (bus : ℕ) (h : List PortRound) (r : PortRound) : Type 0 where
  pub aw : offered on_aw (h ++ r ∷ []) ≡ offered on_aw h ++ option_to_list (new_offer (waiting on_aw h) (offer_of r.aw))
  pub w : offered on_w (h ++ r ∷ []) ≡ offered on_w h ++ option_to_list (new_offer (waiting on_w h) (offer_of r.w))
  pub usable : list_all (keeps_address_rules bus) (offered on_aw h ++ option_to_list (new_offer (waiting on_aw h) (offer_of r.aw))) ≡ true

pub grown : (bus : ℕ) (k : Kept) (h : List PortRound) (r : PortRound) → Held bus k h → least_broken (write_address_rules bus h r) ≡ None → least_broken (handshake_rules same_data (waiting on_w h) (offer_of r.w)) ≡ None → Grown bus h r
grown bus k h r held aw w =
    let parts = else_parts _ _ (sym (least_append (handshake_rules same_address (waiting on_aw h) (offer_of r.aw)) (rules_of_offer (offer_of r.aw) (address_rules bus))) ∙ aw) in
    record {
      aw = offered_more same_address addresses_equal on_aw h r parts.0;
      w = offered_more same_data data_equal on_w h r w;
      usable = list_all-append (keeps_address_rules bus) (offered on_aw h) (option_to_list (new_offer (waiting on_aw h) (offer_of r.aw))) ∙ and_from _ _ held.usable (new_keeps bus (waiting on_aw h) (offer_of r.aw) aw);
    }

data_same : (bus : ℕ) (k : Kept) (h : List PortRound) (r : PortRound) → Held bus k h → Grown bus h r →
    data_fault bus (new_aw k r) (new_w k r) k.unpaired ≡ least_broken ((9, last_is_on_the_last_beat bus (h ++ r ∷ [])) ∷ (10, strobes_are_on_valid_lanes bus (h ++ r ∷ [])) ∷ [])
data_same bus k h r held g =
    let a = new_offer (waiting on_aw h) (offer_of r.aw) in
    let w = new_offer (waiting on_w h) (offer_of r.w) in
    let adds = offered on_aw h in
    let ws = offered on_w h in
    ap (λ (o : Option RawAddr). data_fault bus (new_offer o (offer_of r.aw)) (new_w k r) k.unpaired) held.aw
    ∙ ap (λ (o : Option WBeat). data_fault bus a (new_offer o (offer_of r.w)) k.unpaired) held.w
    ∙ ap (λ (u : Unpaired). data_fault bus a w u) (sym held.unpaired)
    ∙ data_told bus adds ws a w held.usable g.usable held.nine held.ten
    ∙ ap (λ (xs : List RawAddr). least_broken ((9, each_addressed_beat bus has_last_where_due (zip xs (bursts (ws ++ option_to_list w)))) ∷ (10, each_addressed_beat bus (has_strobes_on_valid_lanes bus) (zip xs (bursts (ws ++ option_to_list w)))) ∷ [])) (sym g.aw)
    ∙ ap (λ (xs : List WBeat). least_broken ((9, each_addressed_beat bus has_last_where_due (zip (offered on_aw (h ++ r ∷ [])) (bursts xs))) ∷ (10, each_addressed_beat bus (has_strobes_on_valid_lanes bus) (zip (offered on_aw (h ++ r ∷ [])) (bursts xs))) ∷ [])) (sym g.w)

w_same : (bus : ℕ) (k : Kept) (h : List PortRound) (r : PortRound) → Held bus k h → least_broken (write_address_rules bus h r) ≡ None → w_fault bus k r ≡ least_broken (write_data_rules bus h r)
w_same bus k h r held aw =
    let judged_k = data_fault bus (new_aw k r) (new_w k r) k.unpaired in
    let judged_h = least_broken ((9, last_is_on_the_last_beat bus (h ++ r ∷ [])) ∷ (10, strobes_are_on_valid_lanes bus (h ++ r ∷ [])) ∷ []) in
    ap (λ (o : Option WBeat). or_else (least_broken (handshake_rules same_data o (offer_of r.w))) judged_k) held.w
    ∙ else_same (least_broken (handshake_rules same_data (waiting on_w h) (offer_of r.w))) judged_k judged_h (λ w. data_same bus k h r held (grown bus k h r held aw w))
    ∙ sym (least_append (handshake_rules same_data (waiting on_w h) (offer_of r.w)) ((9, last_is_on_the_last_beat bus (h ++ r ∷ [])) ∷ (10, strobes_are_on_valid_lanes bus (h ++ r ∷ [])) ∷ []))

-- a round is judged by what is kept as by the rules on the history
pub told : (bus : ℕ) (k : Kept) (h : List PortRound) (r : PortRound) → Held bus k h → axi4_kept_fault bus k r ≡ axi4_fault bus h r
told bus k h r held =
    let one = least_broken (write_address_rules bus h r) in
    let two = least_broken (write_data_rules bus h r) in
    let three = least_broken (write_response_rules h r) in
    let four = least_broken (read_address_rules bus h r) in
    let after_w = λ (b ar rd : Option ℕ). or_else (on_fault 3 b) (or_else (on_fault 4 ar) (on_fault 5 rd)) in
    ap (λ (o : Option ℕ). or_else (on_fault 1 o) (or_else (on_fault 2 (w_fault bus k r)) (or_else (on_fault 3 (b_fault k r)) (or_else (on_fault 4 (ar_fault bus k r)) (on_fault 5 (r_fault k r)))))) (aw_same bus k h r held)
    ∙ else_same (on_fault 1 one) _ _ (λ none.
    ap (λ (o : Option ℕ). or_else (on_fault 2 o) (or_else (on_fault 3 (b_fault k r)) (or_else (on_fault 4 (ar_fault bus k r)) (on_fault 5 (r_fault k r))))) (w_same bus k h r held (channel_kept 1 (write_address_rules bus h r) none))
    ∙ ap (λ (o : Option ℕ). or_else (on_fault 2 two) (or_else (on_fault 3 o) (or_else (on_fault 4 (ar_fault bus k r)) (on_fault 5 (r_fault k r))))) (b_same bus k h r held)
    ∙ ap (λ (o : Option ℕ). or_else (on_fault 2 two) (or_else (on_fault 3 three) (or_else (on_fault 4 o) (on_fault 5 (r_fault k r))))) (ar_same bus k h r held)
    ∙ ap (λ (o : Option ℕ). or_else (on_fault 2 two) (or_else (on_fault 3 three) (or_else (on_fault 4 four) (on_fault 5 o)))) (r_same bus k h r held))
