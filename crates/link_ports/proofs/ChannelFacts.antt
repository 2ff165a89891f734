-- Each channel keeps its rules.
use Rattle.std.proofs.Common.{◌≡◌, ℕ, suc, Bool, true, false, List, [], ◌∷◌, ◌++◌, Option, None, map, take, refl, ◌∙◌, subst, lt-ltb}
use Rattle.std.specs.Bool.{beq}
use Rattle.std.specs.Prelude.{All, count_by, length, sum}
use Rattle.axi_beats.specs.declared.beat.Addr.{Addr}
use Rattle.axi_beats.specs.declared.beat.WBeat.{WBeat}
use Rattle.axi_beats.specs.declared.beat.BBeat.{BBeat}
use Rattle.axi_beats.specs.declared.beat.RBeat.{RBeat}
use Rattle.axi_history.specs.PortHistory.{offer_of, waiting, transferred, offered, on_aw, on_w, on_b, on_ar, on_r, ends_a_request}
use Rattle.axi_history.specs.declared.port.PortKind.{PortKind}
use Rattle.axi_history.specs.declared.port.PortRound.{PortRound}
use Rattle.axi_history.specs.declared.port.RawAddr.{RawAddr}
use Rattle.axi_history.specs.PortRules.{last_is_on_the_last_beat, strobes_are_on_valid_lanes, same_address, same_data, same_response, same_read, handshake_rules, least_broken, rules_of_offer, address_rules, response_rules, read_beat_rules, response_follows_write, read_beat_follows_address, read_last_is_on_the_last_beat, writes_of, responses_of, reads_of, read_beats_of}
use Rattle.axi_history.proofs.SameLemmas.{address_itself, data_itself, response_itself, read_itself}
use Rattle.axi_link.specs.LinkView.{LinkView}
use Rattle.axi_link.specs.Moves.{takes_from}
use Rattle.axi_link.specs.LinkWords.{link_of}
use Rattle.axi_link.specs.declared.out.Out.{Out}
use Rattle.axi_trail.specs.LinkContracts.{Asks, Requests}
use Rattle.axi_trail.specs.Schedule.{Share, Schedule, Progress, Grows}
use Rattle.axi_trail.specs.Trail.{Beats, seen_above, IsLinkRun, IsFifo, seen_below, trail_above, trail_below}
use Rattle.axi_trail.specs.Words.{Asked, Reply, InOrderOfId, completed, mark_of_data, write_asked, burst_asked, write_reply, read_reply, write_replies, read_replies}
use Rattle.axi_trail.proofs.SlackFacts.{asked_through_link}
use Rattle.axi_trail.proofs.TrailFacts.{links_are_queues}
use Rattle.burst_address.specs.Legal.{IsLegal}
use Rattle.node_shape.specs.LegalSchedule.{IsLegalSchedule}
use Rattle.link_ports.specs.PortLaws.{IsOffered, IsOfferedAgain, HasTransferred, HasOffered, WriteDataIsLegal, WriteAddressesAreLegal, WriteResponsesAreLegal, ReadAddressesAreLegal, ReadDataIsLegal}
use Rattle.link_ports.specs.PortView.{seen_address, seen_itself, seen_response, seen_read_beat, channel_seen, port_round, port_history}
use Rattle.link_ports.proofs.AddressFacts.{legal_kept, last_is_legal, never_exokay}
use Rattle.link_ports.proofs.AnswerFacts.{itself, response_follows, read_follows, read_ends}
use Rattle.link_ports.proofs.DataFacts.{lasts_kept, strobes_kept, left_at_first}
use Rattle.link_ports.proofs.HandshakeFacts.{handshake_kept}
use Rattle.link_ports.proofs.ViewFacts.{waiting_are_offered_again, transferred_are_trails, offered_are_trails}
use Rattle.plain_lists.proofs.PrefixLemmas.{prefix_itself}

pub grows_itself : (now : Progress) → Grows now now
grows_itself now = record { issued = λ t done. done; written = λ t done. done; filled = λ t. prefix_itself (now.filled t) }

-- the head of a queue of addresses is a legal burst
head_kept : (shares : ℕ → Share) (id_width bus : ℕ) (issued : ℕ → Bool) (asked_as : Addr → Asked) (passed queue : List Addr) (replies : List Reply) (takes : Bool) →
    Requests shares id_width issued asked_as (passed ++ take 1 queue) replies → ((t : ℕ) → All (λ part. IsLegal part bus) (shares t).parts) →
    least_broken (rules_of_offer (offer_of (channel_seen seen_address takes queue)) (address_rules bus)) ≡ None
head_kept shares id_width bus issued asked_as passed [] replies takes asks legal = refl
head_kept shares id_width bus issued asked_as passed (a ∷ queue) replies takes asks legal =
    legal_kept bus a (last_is_legal shares id_width bus issued asked_as passed a replies asks legal)

-- a channel of addresses
addresses_kept : (shares : ℕ → Share) (id_width bus : ℕ) (issued : ℕ → Bool) (asked_as : Addr → Asked) (passed queue : List Addr) (replies : List Reply) (takes : Bool) (waits : Option RawAddr) →
    IsOffered waits (offer_of (channel_seen seen_address takes queue)) → Requests shares id_width issued asked_as (passed ++ take 1 queue) replies → ((t : ℕ) → All (λ part. IsLegal part bus) (shares t).parts) →
    least_broken (handshake_rules same_address waits (offer_of (channel_seen seen_address takes queue)) ++ rules_of_offer (offer_of (channel_seen seen_address takes queue)) (address_rules bus)) ≡ None
addresses_kept shares id_width bus issued asked_as passed queue replies takes waits again asks legal =
    handshake_kept same_address address_itself waits (offer_of (channel_seen seen_address takes queue)) (rules_of_offer (offer_of (channel_seen seen_address takes queue)) (address_rules bus)) again
    ∙ head_kept shares id_width bus issued asked_as passed queue replies takes asks legal

module _ (number : ℕ) (kind : PortKind) (links : ℕ → List LinkView) (uppers lowers : ℕ → Out) (run : IsLinkRun number links uppers lowers) (n : ℕ) where
  again : IsOfferedAgain (port_history number kind links uppers lowers n) (port_round number kind links uppers lowers n)
  again = waiting_are_offered_again number kind links uppers lowers run n

  -- what is asked, with the heads that the node below looks at
  pub asked_below : (schedule : Schedule) (now : Progress) → Asks schedule now (trail_above uppers links n number) → Asks schedule now (seen_below (trail_below lowers links n number) (link_of (links n) number))
  asked_below schedule now asks = (asked_through_link schedule now now number links uppers lowers (grows_itself now) run n asks).1

pub write_addresses_are_legal : WriteAddressesAreLegal
write_addresses_are_legal schedule now number kind links uppers lowers run legal n asks =
    let seen : Asks schedule now (seen_below (trail_below lowers links n number) (link_of (links n) number)) = asked_below number kind links uppers lowers run n schedule now asks in
    addresses_kept schedule.writes schedule.id_width kind.bus now.issued write_asked (trail_below lowers links n number).aw (link_of (links n) number).aw (write_replies (trail_below lowers links n number))
    (takes_from number (lowers n).aw_take) (waiting on_aw (port_history number kind links uppers lowers n)) (again number kind links uppers lowers run n).aw seen.writes legal.writes

pub read_addresses_are_legal : ReadAddressesAreLegal
read_addresses_are_legal schedule now number kind links uppers lowers run legal n asks =
    let seen : Asks schedule now (seen_below (trail_below lowers links n number) (link_of (links n) number)) = asked_below number kind links uppers lowers run n schedule now asks in
    addresses_kept schedule.reads schedule.id_width kind.bus now.issued burst_asked (trail_below lowers links n number).ar (link_of (links n) number).ar (read_replies (trail_below lowers links n number))
    (takes_from number (lowers n).ar_take) (waiting on_ar (port_history number kind links uppers lowers n)) (again number kind links uppers lowers run n).ar seen.reads legal.reads

-- ---- answers

true_if_same : (a b : Bool) → a ≡ b → beq a b ≡ true
true_if_same true true e = refl
true_if_same false false e = refl
true_if_same true false e = absurd (cc)
true_if_same false true e = absurd (cc)

-- the head of a queue of responses
response_kept : (earlier : List PortRound) (addresses : List Addr) (beats : List WBeat) (taken queue : List BBeat) (takes : Bool) →
    transferred on_aw earlier ≡ map seen_address addresses → transferred on_w earlier ≡ map seen_itself beats → transferred on_b earlier ≡ map seen_response taken →
    InOrderOfId (map write_asked (completed addresses (map mark_of_data beats))) (map write_reply (taken ++ queue)) →
    least_broken (rules_of_offer (offer_of (channel_seen seen_response takes queue)) (response_rules earlier)) ≡ None
response_kept earlier addresses beats taken [] takes on_aw' on_w' on_b' order = refl
response_kept earlier addresses beats taken (b ∷ queue) takes on_aw' on_w' on_b' order =
    let follows : response_follows_write earlier (seen_response b) ≡ true =
    rw (on_aw', on_w', on_b') (lt-ltb (length (responses_of b.id (map seen_response taken))) (length (writes_of b.id (take (count_by (λ (w : WBeat). w.last) (map seen_itself beats)) (map seen_address addresses)))) (response_follows addresses beats taken b queue order)) in
    rw (never_exokay b.resp, follows) refl

-- the head of a queue of read data
read_kept : (earlier : List PortRound) (addresses : List Addr) (taken queue : List RBeat) (takes : Bool) →
    transferred on_ar earlier ≡ map seen_address addresses → transferred on_r earlier ≡ map seen_read_beat taken →
    InOrderOfId (map burst_asked addresses) (map read_reply (taken ++ queue)) →
    least_broken (rules_of_offer (offer_of (channel_seen seen_read_beat takes queue)) (read_beat_rules earlier)) ≡ None
read_kept earlier addresses taken [] takes on_ar' on_r' order = refl
read_kept earlier addresses taken (r ∷ queue) takes on_ar' on_r' order =
    let follows : read_beat_follows_address earlier (seen_read_beat r) ≡ true =
    rw (on_ar', on_r') (lt-ltb (length (read_beats_of r.id (map seen_read_beat taken))) (sum (reads_of r.id (map seen_address addresses))) (read_follows addresses taken r queue order)) in
    let ends : read_last_is_on_the_last_beat earlier (seen_read_beat r) ≡ true =
    rw (on_ar', on_r') (true_if_same r.last (ends_a_request (reads_of r.id (map seen_address addresses)) (length (read_beats_of r.id (map seen_read_beat taken)))) (read_ends addresses taken r queue order)) in
    rw (never_exokay r.resp, follows, ends) refl

module _ (number : ℕ) (kind : PortKind) (links : ℕ → List LinkView) (uppers lowers : ℕ → Out) (run : IsLinkRun number links uppers lowers) (n : ℕ) where
  passed : HasTransferred (port_history number kind links uppers lowers n) (trail_below lowers links n number) (trail_above uppers links n number)
  passed = transferred_are_trails number kind links uppers lowers n

  fifo : IsFifo (trail_above uppers links n number) (trail_below lowers links n number) (link_of (links n) number)
  fifo = links_are_queues number links uppers lowers run n

pub write_responses_are_legal : WriteResponsesAreLegal
write_responses_are_legal schedule now number kind links uppers lowers run n answers =
    let has : HasTransferred (port_history number kind links uppers lowers n) (trail_below lowers links n number) (trail_above uppers links n number) = passed number kind links uppers lowers run n in
    let order : InOrderOfId (map write_asked (completed (trail_below lowers links n number).aw (map mark_of_data (trail_below lowers links n number).w))) (map write_reply ((trail_above uppers links n number).b ++ (link_of (links n) number).b)) =
    subst (λ (bs : List BBeat). InOrderOfId (map write_asked (completed (trail_below lowers links n number).aw (map mark_of_data (trail_below lowers links n number).w))) (map write_reply bs)) (fifo number kind links uppers lowers run n).b answers.answered_after_its_data in
    handshake_kept same_response response_itself (waiting on_b (port_history number kind links uppers lowers n)) (offer_of (port_round number kind links uppers lowers n).b)
    (rules_of_offer (offer_of (port_round number kind links uppers lowers n).b) (response_rules (port_history number kind links uppers lowers n))) (again number kind links uppers lowers run n).b
    ∙ response_kept (port_history number kind links uppers lowers n) (trail_below lowers links n number).aw (trail_below lowers links n number).w (trail_above uppers links n number).b (link_of (links n) number).b
    (takes_from number (uppers n).b_take) has.aw has.w has.b order

pub read_data_is_legal : ReadDataIsLegal
read_data_is_legal schedule now number kind links uppers lowers run n answers =
    let has : HasTransferred (port_history number kind links uppers lowers n) (trail_below lowers links n number) (trail_above uppers links n number) = passed number kind links uppers lowers run n in
    let order : InOrderOfId (map burst_asked (trail_below lowers links n number).ar) (map read_reply ((trail_above uppers links n number).r ++ (link_of (links n) number).r)) =
    subst (λ (rs : List RBeat). InOrderOfId (map burst_asked (trail_below lowers links n number).ar) (map read_reply rs)) (fifo number kind links uppers lowers run n).r answers.reads_in_order_of_id in
    handshake_kept same_read read_itself (waiting on_r (port_history number kind links uppers lowers n)) (offer_of (port_round number kind links uppers lowers n).r)
    (rules_of_offer (offer_of (port_round number kind links uppers lowers n).r) (read_beat_rules (port_history number kind links uppers lowers n))) (again number kind links uppers lowers run n).r
    ∙ read_kept (port_history number kind links uppers lowers n) (trail_below lowers links n number).ar (trail_above uppers links n number).r (link_of (links n) number).r
    (takes_from number (uppers n).r_take) has.ar has.r order

-- ---- write data

-- rules 9 and 10, of what has been offered in the rounds up to this one
data_kept : (bus : ℕ) (history : List PortRound) (schedule : Schedule) (now : Progress) (trail : Beats) → offered on_aw history ≡ map seen_address trail.aw → offered on_w history ≡ map seen_itself trail.w →
    Asks schedule now trail → IsLegalSchedule bus schedule → least_broken ((9, last_is_on_the_last_beat bus history) ∷ (10, strobes_are_on_valid_lanes bus history) ∷ []) ≡ None
data_kept bus history schedule now trail on_aw' on_w' asks legal =
    let shown_data : offered on_w history ≡ trail.w = on_w' ∙ itself trail.w in
    let lasts : last_is_on_the_last_beat bus history ≡ true = rw (on_aw', shown_data) (lasts_kept bus trail.aw trail.w asks.data_follows_addresses) in
    let strobes : strobes_are_on_valid_lanes bus history ≡ true =
    rw (on_aw', shown_data)
    (strobes_kept bus trail.aw trail.w schedule.writes asks.data_follows_addresses (left_at_first bus trail.aw trail.w schedule.writes asks.writes.asks_only_its_parts asks.data_is_the_schedules legal.write_data)) in
    rw (lasts, strobes) refl

pub write_data_is_legal : WriteDataIsLegal
write_data_is_legal schedule now number kind links uppers lowers run legal n asks =
    let seen : Asks schedule now (seen_below (trail_below lowers links n number) (link_of (links n) number)) = asked_below number kind links uppers lowers run n schedule now asks in
    let has : HasOffered (port_history number kind links uppers lowers (suc n)) (seen_below (trail_below lowers links n number) (link_of (links n) number)) (seen_above (trail_above uppers links n number) (link_of (links n) number)) =
    offered_are_trails number kind links uppers lowers n in
    handshake_kept same_data data_itself (waiting on_w (port_history number kind links uppers lowers n)) (offer_of (port_round number kind links uppers lowers n).w)
    ((9, last_is_on_the_last_beat kind.bus (port_history number kind links uppers lowers (suc n))) ∷ (10, strobes_are_on_valid_lanes kind.bus (port_history number kind links uppers lowers (suc n))) ∷ []) (again number kind links uppers lowers run n).w
    ∙ data_kept kind.bus (port_history number kind links uppers lowers (suc n)) schedule now (seen_below (trail_below lowers links n number) (link_of (links n) number)) has.aw has.w seen legal
