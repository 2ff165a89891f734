-- After a round that breaks no rule, what is kept stands for the longer history.
use Rattle.std.proofs.Common.{◌≡◌, ℕ, ◌+◌, ◌∷◌, [], ◌++◌, Bool, true, false, List, Option, Some, None, length, refl, sym, ap, ◌∙◌, arith, subst, ltb}
use Rattle.std.specs.Prelude.{count_by, sum, take, if◌then◌else◌}
use Rattle.std.specs.Bool.{beq}
use Rattle.std.specs.Cmp.{booleans_Decides}
use Rattle.std.specs.Option.{option_to_list, ForSome}
use Rattle.std.specs.List.{list_all}
use Rattle.std.proofs.lemmas.List.{append-nil}
use Rattle.std.proofs.lemmas.List.Sums.{sum_by-append}
use Rattle.axi_beats.specs.declared.beat.WBeat.{WBeat}
use Rattle.axi_history.specs.declared.port.PortRound.{PortRound}
use Rattle.axi_history.specs.declared.port.RawAddr.{RawAddr}
use Rattle.axi_history.specs.declared.port.RawB.{RawB}
use Rattle.axi_history.specs.declared.port.RawR.{RawR}
use Rattle.axi_history.specs.declared.port.Seen.{Seen}
use Rattle.axi_history.specs.PortHistory.{offer_of, transfer_of, transferred, waiting, offered, ends_a_request, on_aw, on_w, on_b, on_ar, on_r}
use Rattle.axi_history.specs.PortRules.{same_data, same_response, same_read, handshake_rules, least_broken, or_else, rules_of_offer, keeps_address_rules, last_is_on_the_last_beat, strobes_are_on_valid_lanes, response_rules, read_beat_rules, is_not_exokay, responses_of, writes_of, read_beats_of, reads_of, write_address_rules, write_data_rules, write_response_rules, read_address_rules, read_data_rules, axi4_fault}
use Rattle.axi_history.proofs.HistoryLemmas.{else_parts, least_append, channel_kept, transferred_more, waiting_more}
use Rattle.port_rules.specs.Offers.{new_offer}
use Rattle.port_rules.specs.Kept.{Kept, new_aw, new_w, kept_after_round}
use Rattle.port_rules.specs.KeptFaults.{on_fault}
use Rattle.port_rules.specs.declared.reads.Read.{Read}
use Rattle.port_rules.specs.OpenReads.{add_ar, add_r}
use Rattle.port_rules.specs.OpenWrites.{OpenWrites, with_last, add_aw, add_last, add_b}
use Rattle.port_rules.specs.Unpaired.{Unpaired, unpaired_of, with_offers}
use Rattle.port_rules.specs.WritesHeld.{WritesHeld}
use Rattle.port_rules.specs.ReadsHeld.{ReadsHeld}
use Rattle.port_rules.specs.Held.{Held}
use Rattle.port_rules.proofs.HeldLemmas.{data_left}
use Rattle.port_rules.proofs.WriteLemmas.{last_kept, address_kept as write_address_kept, response_kept}
use Rattle.port_rules.proofs.ReadLemmas.{read_kept, address_kept}
use Rattle.port_rules.proofs.RoundLemmas.{Grown, grown}

kept_eight : (x y : Bool) → least_broken ((8, x) ∷ (11, y) ∷ []) ≡ None → y ≡ true
kept_eight true true e = refl
kept_eight true false e = absurd cc
kept_eight false y e = absurd cc

kept_twelve : (x y z : Bool) → least_broken ((8, x) ∷ (11, y) ∷ (12, z) ∷ []) ≡ None → (y ≡ true) × (z ≡ true)
kept_twelve true true true e = (refl, refl)
kept_twelve true true false e = absurd cc
kept_twelve true false z e = absurd cc
kept_twelve false y z e = absurd cc

kept_nine : (x y : Bool) → least_broken ((9, x) ∷ (10, y) ∷ []) ≡ None → (x ≡ true) × (y ≡ true)
kept_nine true true e = (refl, refl)
kept_nine true false e = absurd cc
kept_nine false y e = absurd cc

lasts_more : (ws : List WBeat) (w : Option WBeat) → count_by (λ (beat : WBeat). beat.last) (ws ++ option_to_list w) ≡ count_by (λ (beat : WBeat). beat.last) ws + count_by (λ (beat : WBeat). beat.last) (option_to_list w)
lasts_more ws w = sum_by-append (λ (beat : WBeat). if beat.last then 1 else 0) ws (option_to_list w)

last_added : (o : OpenWrites) (adds : List RawAddr) (n : ℕ) (bs : List RawB) (last : Bool) → WritesHeld o adds n bs → WritesHeld (if last then with_last o else o) adds (n + (if last then 1 else 0)) bs
last_added o adds n bs true held = last_kept o adds n bs held
last_added o adds n bs false held = subst (λ (m : ℕ). WritesHeld o adds m bs) (let z : n ≡ n + 0 = omega arith in z) held

w_added : (o : OpenWrites) (adds : List RawAddr) (n : ℕ) (bs : List RawB) (w : Option WBeat) → WritesHeld o adds n bs → WritesHeld (add_last w o) adds (n + count_by (λ (beat : WBeat). beat.last) (option_to_list w)) bs
w_added o adds n bs None held = subst (λ (m : ℕ). WritesHeld o adds m bs) (let z : n ≡ n + 0 = omega arith in z) held
w_added o adds n bs (Some w) held = subst (λ (m : ℕ). WritesHeld (add_last (Some w) o) adds (n + m) bs) (let z : (if w.last then 1 else 0) ≡ 0 + (if w.last then 1 else 0) = omega arith in z) (last_added o adds n bs w.last held)

aw_added : (o : OpenWrites) (adds : List RawAddr) (n : ℕ) (bs : List RawB) (a : Option RawAddr) → WritesHeld o adds n bs → WritesHeld (add_aw a o) (adds ++ option_to_list a) n bs
aw_added o adds n bs None held = subst (λ (xs : List RawAddr). WritesHeld o xs n bs) (sym (append-nil adds)) held
aw_added o adds n bs (Some a) held = write_address_kept o adds n bs a held

abbrev pub FollowsWrite : List RawAddr → ℕ → List RawB → RawB → Type 0
FollowsWrite adds n bs b = ltb (length (responses_of b.id bs)) (length (writes_of b.id (take n adds))) ≡ true

b_added : (o : OpenWrites) (adds : List RawAddr) (n : ℕ) (bs : List RawB) (b : Option RawB) → ForSome b (FollowsWrite adds n bs) → WritesHeld o adds n bs → WritesHeld (add_b b o) adds n (bs ++ option_to_list b)
b_added o adds n bs None follows held = subst (λ (xs : List RawB). WritesHeld o adds n xs) (sym (append-nil bs)) held
b_added o adds n bs (Some b) follows held = response_kept o adds n bs b held (follows b refl)

abbrev pub FollowsRead : List RawAddr → List RawR → RawR → Type 0
FollowsRead adds rs beat =
    (ltb (length (read_beats_of beat.id rs)) (sum (reads_of beat.id adds)) ≡ true)
    × (beq beat.last (ends_a_request (reads_of beat.id adds) (length (read_beats_of beat.id rs))) ≡ true)

r_added : (reads : List Read) (adds : List RawAddr) (rs : List RawR) (beat : Option RawR) → ForSome beat (FollowsRead adds rs) → ReadsHeld reads adds rs → ReadsHeld (add_r beat reads) adds (rs ++ option_to_list beat)
r_added reads adds rs None follows held = subst (λ (xs : List RawR). ReadsHeld reads adds xs) (sym (append-nil rs)) held
r_added reads adds rs (Some beat) follows held =
    let f = follows beat refl in
    read_kept reads adds rs beat held f.0 ((booleans_Decides _ _).0 f.1)

ar_added : (reads : List Read) (adds : List RawAddr) (rs : List RawR) (a : Option RawAddr) → ReadsHeld reads adds rs → ReadsHeld (add_ar a reads) (adds ++ option_to_list a) rs
ar_added reads adds rs None held = subst (λ (xs : List RawAddr). ReadsHeld reads xs rs) (sym (append-nil adds)) held
ar_added reads adds rs (Some a) held = address_kept reads adds rs a held

-- what is transferred was offered
module _ {X : Type 0} where
  pub was_offered : (offer : Option (Seen X)) (x : X) → transfer_of offer ≡ Some x → offer_of offer ≡ Some x
  was_offered None x e = absurd cc
  was_offered (Some s) x e = go s.taken e
    where
      go : (taken : Bool) → (if taken then Some s.beat else None) ≡ Some x → Some s.beat ≡ Some x
      go true f = f
      go false f = absurd cc

pub of_offer : {X : Type 0} → (offer : Option X) (rules : X → List (ℕ × Bool)) (x : X) → offer ≡ Some x → least_broken (rules_of_offer offer rules) ≡ None → least_broken (rules x) ≡ None
of_offer {X} offer rules x e none = subst (λ (o : Option X). least_broken (rules_of_offer o rules) ≡ None) e none

response_follows : (h : List PortRound) (r : PortRound) → least_broken (write_response_rules h r) ≡ None → ForSome (transfer_of r.b) (FollowsWrite (transferred on_aw h) (count_by (λ (beat : WBeat). beat.last) (transferred on_w h)) (transferred on_b h))
response_follows h r none x e =
    let parts = else_parts (least_broken (handshake_rules same_response (waiting on_b h) (offer_of r.b))) (least_broken (rules_of_offer (offer_of r.b) (response_rules h))) (sym (least_append (handshake_rules same_response (waiting on_b h) (offer_of r.b)) (rules_of_offer (offer_of r.b) (response_rules h))) ∙ none) in
    kept_eight (is_not_exokay x.resp) _ (of_offer (offer_of r.b) (response_rules h) x (was_offered r.b x e) parts.1)

read_follows : (h : List PortRound) (r : PortRound) → least_broken (read_data_rules h r) ≡ None → ForSome (transfer_of r.r) (FollowsRead (transferred on_ar h) (transferred on_r h))
read_follows h r none x e =
    let parts = else_parts (least_broken (handshake_rules same_read (waiting on_r h) (offer_of r.r))) (least_broken (rules_of_offer (offer_of r.r) (read_beat_rules h))) (sym (least_append (handshake_rules same_read (waiting on_r h) (offer_of r.r)) (rules_of_offer (offer_of r.r) (read_beat_rules h))) ∙ none) in
    kept_twelve (is_not_exokay x.resp) _ _ (of_offer (offer_of r.r) (read_beat_rules h) x (was_offered r.r x e) parts.1)

pub writes_kept : (o : OpenWrites) (h : List PortRound) (r : PortRound) → WritesHeld o (transferred on_aw h) (count_by (λ (beat : WBeat). beat.last) (transferred on_w h)) (transferred on_b h) →
    ForSome (transfer_of r.b) (FollowsWrite (transferred on_aw h) (count_by (λ (beat : WBeat). beat.last) (transferred on_w h)) (transferred on_b h)) →
    WritesHeld (add_aw (transfer_of r.aw) (add_last (transfer_of r.w) (add_b (transfer_of r.b) o))) (transferred on_aw (h ++ r ∷ [])) (count_by (λ (beat : WBeat). beat.last) (transferred on_w (h ++ r ∷ []))) (transferred on_b (h ++ r ∷ []))
writes_kept o h r held follows =
    let adds = transferred on_aw h in
    let n = count_by (λ (beat : WBeat). beat.last) (transferred on_w h) in
    let bs = transferred on_b h in
    let more = count_by (λ (beat : WBeat). beat.last) (option_to_list (transfer_of r.w)) in
    let o1 = add_b (transfer_of r.b) o in
    let o2 = add_last (transfer_of r.w) o1 in
    let o3 = add_aw (transfer_of r.aw) o2 in
    let bs' = bs ++ option_to_list (transfer_of r.b) in
    let first : WritesHeld o1 adds n bs' = b_added o adds n bs (transfer_of r.b) follows held in
    let second : WritesHeld o2 adds (n + more) bs' = w_added o1 adds n bs' (transfer_of r.w) first in
    let third : WritesHeld o3 (adds ++ option_to_list (transfer_of r.aw)) (n + more) bs' = aw_added o2 adds (n + more) bs' (transfer_of r.aw) second in
    let counted : count_by (λ (beat : WBeat). beat.last) (transferred on_w (h ++ r ∷ [])) ≡ n + more = ap (λ (ws : List WBeat). count_by (λ (beat : WBeat). beat.last) ws) (transferred_more on_w h r) ∙ lasts_more (transferred on_w h) (transfer_of r.w) in
    subst (λ (xs : List RawAddr). WritesHeld o3 xs (count_by (λ (beat : WBeat). beat.last) (transferred on_w (h ++ r ∷ []))) (transferred on_b (h ++ r ∷ []))) (sym (transferred_more on_aw h r))
    (subst (λ (m : ℕ). WritesHeld o3 (adds ++ option_to_list (transfer_of r.aw)) m (transferred on_b (h ++ r ∷ []))) (sym counted)
    (subst (λ (xs : List RawB). WritesHeld o3 (adds ++ option_to_list (transfer_of r.aw)) (n + more) xs) (sym (transferred_more on_b h r)) third))

pub reads_kept : (reads : List Read) (h : List PortRound) (r : PortRound) → ReadsHeld reads (transferred on_ar h) (transferred on_r h) →
    ForSome (transfer_of r.r) (FollowsRead (transferred on_ar h) (transferred on_r h)) →
    ReadsHeld (add_ar (transfer_of r.ar) (add_r (transfer_of r.r) reads)) (transferred on_ar (h ++ r ∷ [])) (transferred on_r (h ++ r ∷ []))
reads_kept reads h r held follows =
    let adds = transferred on_ar h in
    let rs = transferred on_r h in
    let e1 = add_r (transfer_of r.r) reads in
    let e2 = add_ar (transfer_of r.ar) e1 in
    let rs' = rs ++ option_to_list (transfer_of r.r) in
    let first : ReadsHeld e1 adds rs' = r_added reads adds rs (transfer_of r.r) follows held in
    let second : ReadsHeld e2 (adds ++ option_to_list (transfer_of r.ar)) rs' = ar_added e1 adds rs' (transfer_of r.ar) first in
    subst (λ (xs : List RawAddr). ReadsHeld e2 xs (transferred on_r (h ++ r ∷ []))) (sym (transferred_more on_ar h r))
    (subst (λ (xs : List RawR). ReadsHeld e2 (adds ++ option_to_list (transfer_of r.ar)) xs) (sym (transferred_more on_r h r)) second)

unpaired_kept : (bus : ℕ) (k : Kept) (h : List PortRound) (r : PortRound) → Held bus k h → Grown bus h r →
    unpaired_of (offered on_aw (h ++ r ∷ [])) 0 (offered on_w (h ++ r ∷ [])) ≡ with_offers (new_aw k r) (new_w k r) k.unpaired
unpaired_kept bus k h r held g =
    let a = new_offer (waiting on_aw h) (offer_of r.aw) in
    let w = new_offer (waiting on_w h) (offer_of r.w) in
    ap (λ (xs : List RawAddr). unpaired_of xs 0 (offered on_w (h ++ r ∷ []))) g.aw
    ∙ ap (λ (xs : List WBeat). unpaired_of (offered on_aw h ++ option_to_list a) 0 xs) g.w
    ∙ data_left (offered on_aw h) (offered on_w h) a w
    ∙ ap (λ (u : Unpaired). with_offers a w u) held.unpaired
    ∙ ap (λ (o : Option RawAddr). with_offers (new_offer o (offer_of r.aw)) w k.unpaired) (sym held.aw)
    ∙ ap (λ (o : Option WBeat). with_offers (new_aw k r) (new_offer o (offer_of r.w)) k.unpaired) (sym held.w)

pub kept : (bus : ℕ) (k : Kept) (h : List PortRound) (r : PortRound) → Held bus k h → axi4_fault bus h r ≡ None → Held bus (kept_after_round false k r) (h ++ r ∷ [])
kept bus k h r held none =
    let p1 = else_parts (on_fault 1 (least_broken (write_address_rules bus h r))) (or_else (on_fault 2 (least_broken (write_data_rules bus h r))) (or_else (on_fault 3 (least_broken (write_response_rules h r))) (or_else (on_fault 4 (least_broken (read_address_rules bus h r))) (on_fault 5 (least_broken (read_data_rules h r)))))) none in
    let p2 = else_parts (on_fault 2 (least_broken (write_data_rules bus h r))) (or_else (on_fault 3 (least_broken (write_response_rules h r))) (or_else (on_fault 4 (least_broken (read_address_rules bus h r))) (on_fault 5 (least_broken (read_data_rules h r))))) p1.1 in
    let p3 = else_parts (on_fault 3 (least_broken (write_response_rules h r))) (or_else (on_fault 4 (least_broken (read_address_rules bus h r))) (on_fault 5 (least_broken (read_data_rules h r)))) p2.1 in
    let p4 = else_parts (on_fault 4 (least_broken (read_address_rules bus h r))) (on_fault 5 (least_broken (read_data_rules h r))) p3.1 in
    let beats = (9, last_is_on_the_last_beat bus (h ++ r ∷ [])) ∷ (10, strobes_are_on_valid_lanes bus (h ++ r ∷ [])) ∷ [] in
    let w = else_parts (least_broken (handshake_rules same_data (waiting on_w h) (offer_of r.w))) (least_broken beats) (sym (least_append (handshake_rules same_data (waiting on_w h) (offer_of r.w)) beats) ∙ channel_kept 2 (write_data_rules bus h r) p2.0) in
    let g : Grown bus h r = grown bus k h r held (channel_kept 1 (write_address_rules bus h r) p1.0) w.0 in
    let both = kept_nine (last_is_on_the_last_beat bus (h ++ r ∷ [])) (strobes_are_on_valid_lanes bus (h ++ r ∷ [])) w.1 in
    record {
      aw = sym (waiting_more on_aw h r);
      w = sym (waiting_more on_w h r);
      b = sym (waiting_more on_b h r);
      ar = sym (waiting_more on_ar h r);
      r = sym (waiting_more on_r h r);
      unpaired = unpaired_kept bus k h r held g;
      usable = subst (λ (xs : List RawAddr). list_all (keeps_address_rules bus) xs ≡ true) (sym g.aw) g.usable;
      nine = both.0;
      ten = both.1;
      writes = writes_kept k.writes h r held.writes (response_follows h r (channel_kept 3 (write_response_rules h r) p3.0));
      reads = reads_kept k.reads h r held.reads (read_follows h r (channel_kept 5 (read_data_rules h r) p4.1));
    }
