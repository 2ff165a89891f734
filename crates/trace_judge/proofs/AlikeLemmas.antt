-- Rounds of an AXI4 port that are judged alike, and rounds in which nothing is offered.
use Rattle.std.proofs.Common.{◌≡◌, ℕ, ◌∷◌, [], ◌++◌, Bool, List, Option, Some, None, refl, sym, ap, ◌∙◌}
use Rattle.std.specs.Prelude.{zip, length, take, sum, count_by, nat_lt}
use Rattle.std.specs.Bool.{beq}
use Rattle.std.specs.Option.{option_to_list}
use Rattle.std.proofs.lemmas.List.{append-nil}
use Rattle.axi_beats.specs.declared.beat.WBeat.{WBeat}
use Rattle.axi_history.specs.declared.port.PortRound.{PortRound}
use Rattle.axi_history.specs.declared.port.RawAddr.{RawAddr}
use Rattle.axi_history.specs.declared.port.RawB.{RawB}
use Rattle.axi_history.specs.declared.port.RawR.{RawR}
use Rattle.axi_history.specs.declared.port.Seen.{Seen}
use Rattle.axi_history.specs.PortHistory.{offer_of, transfer_of, wait_of, transferred, waiting, offered, bursts, whole_writes, ends_a_request, on_aw, on_w, on_b, on_ar, on_r}
use Rattle.axi_history.specs.PortRules.{same_address, same_data, same_response, same_read, handshake_rules, least_broken, or_else, on_channel, rules_of_offer, address_rules, has_last_where_due, has_strobes_on_valid_lanes, each_addressed_beat, addressed_bursts, last_is_on_the_last_beat, strobes_are_on_valid_lanes, is_not_exokay, writes_of, responses_of, read_beats_of, reads_of, response_rules, read_beat_rules, write_address_rules, write_data_rules, write_response_rules, read_address_rules, read_data_rules, axi4_fault}
use Rattle.axi_history.proofs.HistoryLemmas.{else_parts, least_append, channel_kept, channels_kept, transferred_more, waiting_more}
use Rattle.trace_judge.specs.Alike.{Alike, SameOffers, IsQuiet}

-- ---- what is alike

pub alike_trans : (f g h : List PortRound) → Alike f g → Alike g h → Alike f h
alike_trans f g h a b = record {
  aw_waits = a.aw_waits ∙ b.aw_waits;
  w_waits = a.w_waits ∙ b.w_waits;
  b_waits = a.b_waits ∙ b.b_waits;
  ar_waits = a.ar_waits ∙ b.ar_waits;
  r_waits = a.r_waits ∙ b.r_waits;
  aw_moved = a.aw_moved ∙ b.aw_moved;
  w_moved = a.w_moved ∙ b.w_moved;
  b_moved = a.b_moved ∙ b.b_moved;
  ar_moved = a.ar_moved ∙ b.ar_moved;
  r_moved = a.r_moved ∙ b.r_moved;
}

module _ {X : Type 0} (channel : PortRound → Option (Seen X)) (h g : List PortRound) (r s : PortRound) (same : channel r ≡ channel s) where
  waits_more : waiting channel (h ++ r ∷ []) ≡ waiting channel (g ++ s ∷ [])
  waits_more = waiting_more channel h r ∙ ap wait_of same ∙ sym (waiting_more channel g s)

  moved_more : transferred channel h ≡ transferred channel g → transferred channel (h ++ r ∷ []) ≡ transferred channel (g ++ s ∷ [])
  moved_more moved =
      transferred_more channel h r
      ∙ ap (λ (xs : List X). xs ++ option_to_list (transfer_of (channel r))) moved
      ∙ ap (λ (o : Option (Seen X)). transferred channel g ++ option_to_list (transfer_of o)) same
      ∙ sym (transferred_more channel g s)

pub alike_more : (h g : List PortRound) (r s : PortRound) → Alike h g → SameOffers r s → Alike (h ++ r ∷ []) (g ++ s ∷ [])
alike_more h g r s a o = record {
  aw_waits = waits_more on_aw h g r s o.aw;
  w_waits = waits_more on_w h g r s o.w;
  b_waits = waits_more on_b h g r s o.b;
  ar_waits = waits_more on_ar h g r s o.ar;
  r_waits = waits_more on_r h g r s o.r;
  aw_moved = moved_more on_aw h g r s o.aw a.aw_moved;
  w_moved = moved_more on_w h g r s o.w a.w_moved;
  b_moved = moved_more on_b h g r s o.b a.b_moved;
  ar_moved = moved_more on_ar h g r s o.ar a.ar_moved;
  r_moved = moved_more on_r h g r s o.r a.r_moved;
}

pub same_refl : (r : PortRound) → SameOffers r r
same_refl r = record { aw = refl; w = refl; b = refl; ar = refl; r = refl }

-- ---- what is alike is judged alike

offered_alike : {X : Type 0} (channel : PortRound → Option (Seen X)) (h g : List PortRound) → waiting channel h ≡ waiting channel g → transferred channel h ≡ transferred channel g → offered channel h ≡ offered channel g
offered_alike {X} channel h g waits moved =
    ap (λ (xs : List X). xs ++ option_to_list (waiting channel h)) moved
    ∙ ap (λ (o : Option X). transferred channel g ++ option_to_list o) waits

addressed_alike : (h g : List PortRound) → Alike h g → addressed_bursts h ≡ addressed_bursts g
addressed_alike h g a =
    ap (λ (xs : List RawAddr). zip xs (bursts (offered on_w h))) (offered_alike on_aw h g a.aw_waits a.aw_moved)
    ∙ ap (λ (xs : List WBeat). zip (offered on_aw g) (bursts xs)) (offered_alike on_w h g a.w_waits a.w_moved)

nine_alike : (bus : ℕ) (h g : List PortRound) → Alike h g → last_is_on_the_last_beat bus h ≡ last_is_on_the_last_beat bus g
nine_alike bus h g a = ap (λ (xs : List (RawAddr × List WBeat)). each_addressed_beat bus has_last_where_due xs) (addressed_alike h g a)

ten_alike : (bus : ℕ) (h g : List PortRound) → Alike h g → strobes_are_on_valid_lanes bus h ≡ strobes_are_on_valid_lanes bus g
ten_alike bus h g a = ap (λ (xs : List (RawAddr × List WBeat)). each_addressed_beat bus (has_strobes_on_valid_lanes bus) xs) (addressed_alike h g a)

address_alike : (bus : ℕ) (waits waits' : Option RawAddr) (o o' : Option (Seen RawAddr)) → waits ≡ waits' → o ≡ o' → handshake_rules same_address waits (offer_of o) ++ rules_of_offer (offer_of o) (address_rules bus) ≡ handshake_rules same_address waits' (offer_of o') ++ rules_of_offer (offer_of o') (address_rules bus)
address_alike bus waits waits' o o' e f =
    ap (λ (v : Option RawAddr). handshake_rules same_address v (offer_of o) ++ rules_of_offer (offer_of o) (address_rules bus)) e
    ∙ ap (λ (v : Option (Seen RawAddr)). handshake_rules same_address waits' (offer_of v) ++ rules_of_offer (offer_of v) (address_rules bus)) f

data_alike : (waits waits' : Option WBeat) (o o' : Option (Seen WBeat)) (nine nine' ten ten' : Bool) → waits ≡ waits' → o ≡ o' → nine ≡ nine' → ten ≡ ten' →
    handshake_rules same_data waits (offer_of o) ++ (9, nine) ∷ (10, ten) ∷ [] ≡ handshake_rules same_data waits' (offer_of o') ++ (9, nine') ∷ (10, ten') ∷ []
data_alike waits waits' o o' nine nine' ten ten' e f n t =
    ap (λ (v : Option WBeat). handshake_rules same_data v (offer_of o) ++ (9, nine) ∷ (10, ten) ∷ []) e
    ∙ ap (λ (v : Option (Seen WBeat)). handshake_rules same_data waits' (offer_of v) ++ (9, nine) ∷ (10, ten) ∷ []) f
    ∙ ap (λ (v : Bool). handshake_rules same_data waits' (offer_of o') ++ (9, v) ∷ (10, ten) ∷ []) n
    ∙ ap (λ (v : Bool). handshake_rules same_data waits' (offer_of o') ++ (9, nine') ∷ (10, v) ∷ []) t

response_alike : (h g : List PortRound) → Alike h g → (o : Option RawB) → rules_of_offer o (response_rules h) ≡ rules_of_offer o (response_rules g)
response_alike h g a None = refl
response_alike h g a (Some b) =
    ap (λ (xs : List RawB). (8, is_not_exokay b.resp) ∷ (11, nat_lt (length (responses_of b.id xs)) (length (writes_of b.id (whole_writes h)))) ∷ []) a.b_moved
    ∙ ap (λ (xs : List WBeat). (8, is_not_exokay b.resp) ∷ (11, nat_lt (length (responses_of b.id (transferred on_b g))) (length (writes_of b.id (take (count_by (λ (w : WBeat). w.last) xs) (transferred on_aw h))))) ∷ []) a.w_moved
    ∙ ap (λ (xs : List RawAddr). (8, is_not_exokay b.resp) ∷ (11, nat_lt (length (responses_of b.id (transferred on_b g))) (length (writes_of b.id (take (count_by (λ (w : WBeat). w.last) (transferred on_w g)) xs)))) ∷ []) a.aw_moved

abbrev read_told : RawR → List RawAddr → List RawR → List (ℕ × Bool)
read_told r reads beats =
    (8, is_not_exokay r.resp)
    ∷ (11, nat_lt (length (read_beats_of r.id beats)) (sum (reads_of r.id reads)))
    ∷ (12, beq r.last (ends_a_request (reads_of r.id reads) (length (read_beats_of r.id beats))))
    ∷ []

read_alike : (h g : List PortRound) → Alike h g → (o : Option RawR) → rules_of_offer o (read_beat_rules h) ≡ rules_of_offer o (read_beat_rules g)
read_alike h g a None = refl
read_alike h g a (Some r) = ap (read_told r (transferred on_ar h)) a.r_moved ∙ ap (λ (xs : List RawAddr). read_told r xs (transferred on_r g)) a.ar_moved

pub answer_alike : {X : Type 0} (same : X → X → Bool) (waits waits' : Option X) (o o' : Option (Seen X)) (rules rules' : X → List (ℕ × Bool)) → waits ≡ waits' → o ≡ o' → ((v : Option X) → rules_of_offer v rules ≡ rules_of_offer v rules') →
    handshake_rules same waits (offer_of o) ++ rules_of_offer (offer_of o) rules ≡ handshake_rules same waits' (offer_of o') ++ rules_of_offer (offer_of o') rules'
answer_alike {X} same waits waits' o o' rules rules' e f t =
    ap (λ (v : Option X). handshake_rules same v (offer_of o) ++ rules_of_offer (offer_of o) rules) e
    ∙ ap (λ (v : List (ℕ × Bool)). handshake_rules same waits' (offer_of o) ++ v) (t (offer_of o))
    ∙ ap (λ (v : Option (Seen X)). handshake_rules same waits' (offer_of v) ++ rules_of_offer (offer_of v) rules') f

abbrev pub by_channel : List (ℕ × Bool) → List (ℕ × Bool) → List (ℕ × Bool) → List (ℕ × Bool) → List (ℕ × Bool) → Option (ℕ × ℕ)
by_channel aw w b ar r = or_else (on_channel 1 aw) (or_else (on_channel 2 w) (or_else (on_channel 3 b) (or_else (on_channel 4 ar) (on_channel 5 r))))

pub channels_alike : (aw aw' w w' b b' ar ar' r r' : List (ℕ × Bool)) → aw ≡ aw' → w ≡ w' → b ≡ b' → ar ≡ ar' → r ≡ r' → by_channel aw w b ar r ≡ by_channel aw' w' b' ar' r'
channels_alike aw aw' w w' b b' ar ar' r r' e1 e2 e3 e4 e5 =
    ap (λ (v : List (ℕ × Bool)). by_channel v w b ar r) e1
    ∙ ap (λ (v : List (ℕ × Bool)). by_channel aw' v b ar r) e2
    ∙ ap (λ (v : List (ℕ × Bool)). by_channel aw' w' v ar r) e3
    ∙ ap (λ (v : List (ℕ × Bool)). by_channel aw' w' b' v r) e4
    ∙ ap (λ (v : List (ℕ × Bool)). by_channel aw' w' b' ar' v) e5

pub axi4_alike : (bus : ℕ) (h g : List PortRound) (r s : PortRound) → Alike h g → SameOffers r s → axi4_fault bus h r ≡ axi4_fault bus g s
axi4_alike bus h g r s a o =
    let more : Alike (h ++ r ∷ []) (g ++ s ∷ []) = alike_more h g r s a o in
    channels_alike
    (write_address_rules bus h r) (write_address_rules bus g s)
    (write_data_rules bus h r) (write_data_rules bus g s)
    (write_response_rules h r) (write_response_rules g s)
    (read_address_rules bus h r) (read_address_rules bus g s)
    (read_data_rules h r) (read_data_rules g s)
    (address_alike bus (waiting on_aw h) (waiting on_aw g) r.aw s.aw a.aw_waits o.aw)
    (data_alike (waiting on_w h) (waiting on_w g) r.w s.w _ _ _ _ a.w_waits o.w (nine_alike bus (h ++ r ∷ []) (g ++ s ∷ []) more) (ten_alike bus (h ++ r ∷ []) (g ++ s ∷ []) more))
    (answer_alike same_response (waiting on_b h) (waiting on_b g) r.b s.b (response_rules h) (response_rules g) a.b_waits o.b (response_alike h g a))
    (address_alike bus (waiting on_ar h) (waiting on_ar g) r.ar s.ar a.ar_waits o.ar)
    (answer_alike same_read (waiting on_r h) (waiting on_r g) r.r s.r (read_beat_rules h) (read_beat_rules g) a.r_waits o.r (read_alike h g a))

-- ---- a round in which nothing is offered, after one

still : {X : Type 0} (channel : PortRound → Option (Seen X)) (h : List PortRound) (q r : PortRound) → channel q ≡ None → channel r ≡ None → waiting channel ((h ++ q ∷ []) ++ r ∷ []) ≡ waiting channel (h ++ q ∷ [])
still channel h q r e f = waiting_more channel (h ++ q ∷ []) r ∙ ap wait_of (f ∙ sym e) ∙ sym (waiting_more channel h q)

unmoved : {X : Type 0} (channel : PortRound → Option (Seen X)) (h : List PortRound) (r : PortRound) → channel r ≡ None → transferred channel (h ++ r ∷ []) ≡ transferred channel h
unmoved {X} channel h r f = transferred_more channel h r ∙ ap (λ (o : Option (Seen X)). transferred channel h ++ option_to_list (transfer_of o)) f ∙ append-nil (transferred channel h)

pub alike_quiet : (h : List PortRound) (q r : PortRound) → IsQuiet q → IsQuiet r → Alike ((h ++ q ∷ []) ++ r ∷ []) (h ++ q ∷ [])
alike_quiet h q r a o = record {
  aw_waits = still on_aw h q r a.aw o.aw;
  w_waits = still on_w h q r a.w o.w;
  b_waits = still on_b h q r a.b o.b;
  ar_waits = still on_ar h q r a.ar o.ar;
  r_waits = still on_r h q r a.r o.r;
  aw_moved = unmoved on_aw (h ++ q ∷ []) r o.aw;
  w_moved = unmoved on_w (h ++ q ∷ []) r o.w;
  b_moved = unmoved on_b (h ++ q ∷ []) r o.b;
  ar_moved = unmoved on_ar (h ++ q ∷ []) r o.ar;
  r_moved = unmoved on_r (h ++ q ∷ []) r o.r;
}

pub quiet_rules : {X : Type 0} (same : X → X → Bool) (waits : Option X) (o : Option (Seen X)) (rules : X → List (ℕ × Bool)) → waits ≡ None → o ≡ None → least_broken (handshake_rules same waits (offer_of o) ++ rules_of_offer (offer_of o) rules) ≡ None
quiet_rules {X} same waits o rules e f =
    ap (λ (v : Option X). least_broken (handshake_rules same v (offer_of o) ++ rules_of_offer (offer_of o) rules)) e
    ∙ ap (λ (v : Option (Seen X)). least_broken (handshake_rules same None (offer_of v) ++ rules_of_offer (offer_of v) rules)) f

quiet_data : (waits : Option WBeat) (o : Option (Seen WBeat)) (nine ten : Bool) → waits ≡ None → o ≡ None → least_broken ((9, nine) ∷ (10, ten) ∷ []) ≡ None → least_broken (handshake_rules same_data waits (offer_of o) ++ (9, nine) ∷ (10, ten) ∷ []) ≡ None
quiet_data waits o nine ten e f kept =
    ap (λ (v : Option WBeat). least_broken (handshake_rules same_data v (offer_of o) ++ (9, nine) ∷ (10, ten) ∷ [])) e
    ∙ ap (λ (v : Option (Seen WBeat)). least_broken (handshake_rules same_data None (offer_of v) ++ (9, nine) ∷ (10, ten) ∷ [])) f
    ∙ kept

data_kept : (aw w b ar r : List (ℕ × Bool)) → by_channel aw w b ar r ≡ None → least_broken w ≡ None
data_kept aw w b ar r e =
    let rest = else_parts (on_channel 1 aw) _ e in
    let after = else_parts (on_channel 2 w) _ rest.1 in
    channel_kept 2 w after.0

-- a round in which nothing is offered breaks nothing after another such round that breaks nothing
pub axi4_quiet : (bus : ℕ) (h : List PortRound) (q r : PortRound) → IsQuiet q → IsQuiet r → axi4_fault bus h q ≡ None → axi4_fault bus (h ++ q ∷ []) r ≡ None
axi4_quiet bus h q r a o kept =
    let g : List PortRound = h ++ q ∷ [] in
    let same : Alike (g ++ r ∷ []) g = alike_quiet h q r a o in
    let of_data : least_broken (write_data_rules bus h q) ≡ None = data_kept (write_address_rules bus h q) (write_data_rules bus h q) (write_response_rules h q) (read_address_rules bus h q) (read_data_rules h q) kept in
    let both : least_broken ((9, last_is_on_the_last_beat bus g) ∷ (10, strobes_are_on_valid_lanes bus g) ∷ []) ≡ None = (else_parts _ _ (sym (least_append (handshake_rules same_data (waiting on_w h) (offer_of q.w)) ((9, last_is_on_the_last_beat bus g) ∷ (10, strobes_are_on_valid_lanes bus g) ∷ [])) ∙ of_data)).1 in
    let both' : least_broken ((9, last_is_on_the_last_beat bus (g ++ r ∷ [])) ∷ (10, strobes_are_on_valid_lanes bus (g ++ r ∷ [])) ∷ []) ≡ None =
    ap (λ (v : Bool). least_broken ((9, v) ∷ (10, strobes_are_on_valid_lanes bus (g ++ r ∷ [])) ∷ [])) (nine_alike bus (g ++ r ∷ []) g same)
    ∙ ap (λ (v : Bool). least_broken ((9, last_is_on_the_last_beat bus g) ∷ (10, v) ∷ [])) (ten_alike bus (g ++ r ∷ []) g same)
    ∙ both in
    channels_kept (write_address_rules bus g r) (write_data_rules bus g r) (write_response_rules g r) (read_address_rules bus g r) (read_data_rules g r)
    (quiet_rules same_address (waiting on_aw g) r.aw (address_rules bus) (waiting_more on_aw h q ∙ ap wait_of a.aw) o.aw)
    (quiet_data (waiting on_w g) r.w (last_is_on_the_last_beat bus (g ++ r ∷ [])) (strobes_are_on_valid_lanes bus (g ++ r ∷ [])) (waiting_more on_w h q ∙ ap wait_of a.w) o.w both')
    (quiet_rules same_response (waiting on_b g) r.b (response_rules g) (waiting_more on_b h q ∙ ap wait_of a.b) o.b)
    (quiet_rules same_address (waiting on_ar g) r.ar (address_rules bus) (waiting_more on_ar h q ∙ ap wait_of a.ar) o.ar)
    (quiet_rules same_read (waiting on_r g) r.r (read_beat_rules g) (waiting_more on_r h q ∙ ap wait_of a.r) o.r)
