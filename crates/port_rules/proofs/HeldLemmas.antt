-- How a round is judged by what is kept, and what is kept after it, against the rules on whole histories.
use Rattle.std.proofs.Common.{◌≡◌, ℕ, ◌∷◌, [], ◌++◌, ◌&&◌, Bool, true, false, List, Option, Some, None, refl, sym, ap, ◌∙◌}
use Rattle.std.specs.Prelude.{zip, if◌then◌else◌}
use Rattle.std.specs.Option.{option_to_list}
use Rattle.std.specs.List.{list_all}
use Rattle.std.proofs.lemmas.List.{append-nil}
use Rattle.axi_beats.specs.declared.beat.WBeat.{WBeat}
use Rattle.axi_history.specs.declared.port.PortRound.{PortRound}
use Rattle.axi_history.specs.declared.port.RawAddr.{RawAddr}
use Rattle.axi_history.specs.declared.port.Seen.{Seen}
use Rattle.axi_history.specs.PortHistory.{offer_of, transfer_of, wait_of, transferred, waiting, offered, bursts}
use Rattle.axi_history.specs.PortRules.{handshake_rules, least_broken, keeps_address_rules, has_last_where_due, has_strobes_on_valid_lanes, each_addressed_beat}
use Rattle.axi_history.proofs.HistoryLemmas.{transferred_more, waiting_more}
use Rattle.port_rules.specs.Offers.{new_offer}
use Rattle.port_rules.specs.Unpaired.{unpaired_of, each_paired_beat, with_offers, data_fault}
use Rattle.port_rules.proofs.PairingLemmas.{more_left, more_asked, each_asked}

same_kept : (v : Bool) → least_broken ((1, true) ∷ (2, v) ∷ []) ≡ None → v ≡ true
same_kept true kept = refl
same_kept false kept = absurd cc

-- ---- one more round of a channel

module _ {X : Type 0} where
  taken_or_not : (xs : List X) (beat : X) (taken : Bool) → (xs ++ option_to_list (if taken then Some beat else None)) ++ option_to_list (if taken then None else Some beat) ≡ xs ++ beat ∷ []
  taken_or_not xs beat true = append-nil (xs ++ beat ∷ [])
  taken_or_not xs beat false = ap (λ (ys : List X). ys ++ beat ∷ []) (append-nil xs)

  -- where a channel keeps rules 1 and 2, what it has offered grows by what it offers anew
  offer_more : (same : X → X → Bool) → ((x y : X) → same x y ≡ true → x ≡ y) → (xs : List X) (waits : Option X) (offer : Option (Seen X)) → least_broken (handshake_rules same waits (offer_of offer)) ≡ None →
      (xs ++ option_to_list (transfer_of offer)) ++ option_to_list (wait_of offer) ≡ (xs ++ option_to_list waits) ++ option_to_list (new_offer waits (offer_of offer))
  offer_more same sound xs None None kept = refl
  offer_more same sound xs (Some x) None kept = absurd cc
  offer_more same sound xs None (Some s) kept = taken_or_not xs s.beat s.taken ∙ sym (ap (λ (ys : List X). ys ++ s.beat ∷ []) (append-nil xs))
  offer_more same sound xs (Some x) (Some s) kept =
      let equal : x ≡ s.beat = sound x s.beat (same_kept (same x s.beat) kept) in
      taken_or_not xs s.beat s.taken ∙ ap (λ (y : X). xs ++ y ∷ []) (sym equal) ∙ sym (append-nil (xs ++ x ∷ []))

  pub offered_more : (same : X → X → Bool) → ((x y : X) → same x y ≡ true → x ≡ y) → (channel : PortRound → Option (Seen X)) (h : List PortRound) (r : PortRound) → least_broken (handshake_rules same (waiting channel h) (offer_of (channel r))) ≡ None →
      offered channel (h ++ r ∷ []) ≡ offered channel h ++ option_to_list (new_offer (waiting channel h) (offer_of (channel r)))
  offered_more same sound channel h r kept =
      ap (λ (xs : List X). xs ++ option_to_list (waiting channel (h ++ r ∷ []))) (transferred_more channel h r)
      ∙ ap (λ (o : Option X). (transferred channel h ++ option_to_list (transfer_of (channel r))) ++ option_to_list o) (waiting_more channel h r)
      ∙ offer_more same sound (transferred channel h) (waiting channel h) (channel r) kept

-- ---- new addresses and W beats

-- what a question about all beats answers after one more address and one more W beat
asked_more : (question : RawAddr → ℕ → WBeat → Bool) (bus : ℕ) (adds : List RawAddr) (ws : List WBeat) (a : Option RawAddr) (w : Option WBeat) →
    list_all (keeps_address_rules bus) adds ≡ true → list_all (keeps_address_rules bus) (adds ++ option_to_list a) ≡ true → each_addressed_beat bus question (zip adds (bursts ws)) ≡ true →
    let u = unpaired_of adds 0 ws in
    each_paired_beat question (u.addresses ++ option_to_list a) u.passed (u.beats ++ option_to_list w)
    ≡ each_addressed_beat bus question (zip (adds ++ option_to_list a) (bursts (ws ++ option_to_list w)))
asked_more question bus adds ws a w usable usable' before =
    let u = unpaired_of adds 0 ws in
    let kept : each_paired_beat question adds 0 ws ≡ true = sym (each_asked question bus adds ws usable) ∙ before in
    sym (
    each_asked question bus (adds ++ option_to_list a) (ws ++ option_to_list w) usable'
    ∙ more_asked question adds (option_to_list a) 0 ws (option_to_list w) (λ _. refl)
    ∙ ap (λ (b : Bool). b && each_paired_beat question (u.addresses ++ option_to_list a) u.passed (u.beats ++ option_to_list w)) kept)

pub data_told : (bus : ℕ) (adds : List RawAddr) (ws : List WBeat) (a : Option RawAddr) (w : Option WBeat) →
    list_all (keeps_address_rules bus) adds ≡ true → list_all (keeps_address_rules bus) (adds ++ option_to_list a) ≡ true →
    each_addressed_beat bus has_last_where_due (zip adds (bursts ws)) ≡ true → each_addressed_beat bus (has_strobes_on_valid_lanes bus) (zip adds (bursts ws)) ≡ true →
    let pairs = zip (adds ++ option_to_list a) (bursts (ws ++ option_to_list w)) in
    data_fault bus a w (unpaired_of adds 0 ws)
    ≡ least_broken ((9, each_addressed_beat bus has_last_where_due pairs) ∷ (10, each_addressed_beat bus (has_strobes_on_valid_lanes bus) pairs) ∷ [])
data_told bus adds ws a w usable usable' nine ten =
    rw (asked_more has_last_where_due bus adds ws a w usable usable' nine, asked_more (has_strobes_on_valid_lanes bus) bus adds ws a w usable usable' ten) refl

pub data_left : (adds : List RawAddr) (ws : List WBeat) (a : Option RawAddr) (w : Option WBeat) →
    unpaired_of (adds ++ option_to_list a) 0 (ws ++ option_to_list w) ≡ with_offers a w (unpaired_of adds 0 ws)
data_left adds ws a w = more_left adds (option_to_list a) 0 ws (option_to_list w) (λ _. refl)
