-- What a channel transfers, offers and lets wait, where it offers the heads of a queue.
use Rattle.std.proofs.Common.{◌≡◌, ℕ, zero, suc, Bool, true, false, List, [], ◌∷◌, ◌++◌, map, take, refl, sym, ◌∙◌, ap, append_assoc}
use Rattle.std.specs.Prelude.{Option, Some, None, filter_map}
use Rattle.std.specs.Option.{option_to_list}
use Rattle.std.proofs.lemmas.List.{map-append}
use Rattle.std.proofs.lemmas.List.Elements.{filter_map-append}
use Rattle.axi_history.specs.declared.port.PortKind.{PortKind}
use Rattle.axi_history.specs.declared.port.PortRound.{PortRound}
use Rattle.axi_history.specs.declared.port.Seen.{Seen}
use Rattle.axi_history.specs.PortHistory.{offer_of, transfer_of, wait_of, transferred, waiting, offered, on_aw, on_w, on_b, on_ar, on_r}
use Rattle.axi_link.specs.LinkView.{LinkView}
use Rattle.axi_link.specs.Moves.{takes_from, appended, without_head}
use Rattle.axi_link.specs.LinkWords.{link_of}
use Rattle.axi_link.specs.declared.out.Out.{Out}
use Rattle.link_ports.specs.PortLaws.{IsOffered, TransferredAreTrails, OfferedAreTrails, WaitingAreOfferedAgain}
use Rattle.link_ports.specs.PortView.{seen_address, seen_itself, seen_response, seen_read_beat, channel_seen, port_round}
use Rattle.plain_lists.specs.Rounds.{over}
use Rattle.axi_trail.specs.Trail.{beat_taken}

module _ {X Y : Type 0} (seen_as : X → Y) where
  -- one round
  one_transferred : (takes : Bool) (queue : List X) → option_to_list (transfer_of (channel_seen seen_as takes queue)) ≡ map seen_as (beat_taken takes queue)
  one_transferred true [] = refl
  one_transferred false [] = refl
  one_transferred true (x ∷ queue) = refl
  one_transferred false (x ∷ queue) = refl

  one_offered : (takes : Bool) (queue : List X) → map seen_as (beat_taken takes queue) ++ option_to_list (wait_of (channel_seen seen_as takes queue)) ≡ map seen_as (take 1 queue)
  one_offered true [] = refl
  one_offered false [] = refl
  one_offered true (x ∷ queue) = refl
  one_offered false (x ∷ queue) = refl

  -- what isn't taken stays the head
  head_stays : (takes after : Bool) (queue puts next : List X) → next ≡ without_head takes queue ++ puts → IsOffered (wait_of (channel_seen seen_as takes queue)) (offer_of (channel_seen seen_as after next))
  head_stays true after [] puts next e = tt
  head_stays false after [] puts next e = tt
  head_stays true after (x ∷ queue) puts next e = tt
  head_stays false after (x ∷ queue) puts next e = ap (λ q. offer_of (channel_seen seen_as after q)) e

-- the rounds of a port, of which one channel is looked at
module _ {Y : Type 0} (channel : PortRound → Option (Seen Y)) where
  one_round : (r : PortRound) → filter_map (λ s. transfer_of (channel s)) (r ∷ []) ≡ option_to_list (transfer_of (channel r))
  one_round r =
      let go : (o : Option Y) → filter_map (λ (p : Option Y). p) (o ∷ []) ≡ option_to_list o = elim [ None ↦ refl | Some y ↦ refl ] in
      go (transfer_of (channel r))

  -- the last round decides what waits
  waiting_last : (history : List PortRound) (r : PortRound) → waiting channel (history ++ r ∷ []) ≡ wait_of (channel r)
  waiting_last [] r = refl
  waiting_last (s ∷ []) r = refl
  waiting_last (s ∷ t ∷ history) r = waiting_last (t ∷ history) r

  module _ {X : Type 0} (seen_as : X → Y) (rounds : ℕ → PortRound) (takes : ℕ → Bool) (queue : ℕ → List X) (same : (n : ℕ) → channel (rounds n) ≡ channel_seen seen_as (takes n) (queue n)) where
    one : (n : ℕ) → filter_map (λ s. transfer_of (channel s)) (rounds n ∷ []) ≡ map seen_as (beat_taken (takes n) (queue n))
    one n = one_round (rounds n) ∙ ap (λ o. option_to_list (transfer_of o)) (same n) ∙ one_transferred seen_as (takes n) (queue n)

    pub transferred_is : (n : ℕ) → transferred channel (over (λ m. rounds m ∷ []) n) ≡ map seen_as (over (λ m. beat_taken (takes m) (queue m)) n)
    transferred_is zero = refl
    transferred_is (suc n) =
        filter_map-append (λ s. transfer_of (channel s)) (over (λ m. rounds m ∷ []) n) (rounds n ∷ [])
        ∙ ap (λ t. t ++ filter_map (λ s. transfer_of (channel s)) (rounds n ∷ [])) (transferred_is n)
        ∙ ap (λ t. map seen_as (over (λ m. beat_taken (takes m) (queue m)) n) ++ t) (one n)
        ∙ sym (map-append seen_as (over (λ m. beat_taken (takes m) (queue m)) n) (beat_taken (takes n) (queue n)))

    pub offered_is : (n : ℕ) → offered channel (over (λ m. rounds m ∷ []) (suc n)) ≡ map seen_as (over (λ m. beat_taken (takes m) (queue m)) n ++ take 1 (queue n))
    offered_is n =
        ap (λ t. t ++ option_to_list (waiting channel (over (λ m. rounds m ∷ []) n ++ rounds n ∷ []))) (transferred_is (suc n) ∙ map-append seen_as (over (λ m. beat_taken (takes m) (queue m)) n) (beat_taken (takes n) (queue n)))
        ∙ ap (λ o. (map seen_as (over (λ m. beat_taken (takes m) (queue m)) n) ++ map seen_as (beat_taken (takes n) (queue n))) ++ option_to_list o) (waiting_last (over (λ m. rounds m ∷ []) n) (rounds n) ∙ ap wait_of (same n))
        ∙ append_assoc (map seen_as (over (λ m. beat_taken (takes m) (queue m)) n)) (map seen_as (beat_taken (takes n) (queue n))) (option_to_list (wait_of (channel_seen seen_as (takes n) (queue n))))
        ∙ ap (λ t. map seen_as (over (λ m. beat_taken (takes m) (queue m)) n) ++ t) (one_offered seen_as (takes n) (queue n))
        ∙ sym (map-append seen_as (over (λ m. beat_taken (takes m) (queue m)) n) (take 1 (queue n)))

    pub offered_again : (puts : ℕ → List X) → ((n : ℕ) → queue (suc n) ≡ without_head (takes n) (queue n) ++ puts n) → (n : ℕ) → IsOffered (waiting channel (over (λ m. rounds m ∷ []) n)) (offer_of (channel (rounds n)))
    offered_again puts moves zero = tt
    offered_again puts moves (suc n) =
        rw (waiting_last (over (λ m. rounds m ∷ []) n) (rounds n), same n, same (suc n))
        (head_stays seen_as (takes n) (takes (suc n)) (queue n) (puts n) (queue (suc n)) (moves n))

module _ (number : ℕ) (kind : PortKind) (links : ℕ → List LinkView) (uppers lowers : ℕ → Out) where
  abbrev rounds : ℕ → PortRound
  rounds = port_round number kind links uppers lowers

pub transferred_are_trails : TransferredAreTrails
transferred_are_trails number kind links uppers lowers n = record {
  aw = transferred_is on_aw seen_address (rounds number kind links uppers lowers) (λ m. takes_from number (lowers m).aw_take) (λ m. (link_of (links m) number).aw) (λ m. refl) n;
  w = transferred_is on_w seen_itself (rounds number kind links uppers lowers) (λ m. takes_from number (lowers m).w_take) (λ m. (link_of (links m) number).w) (λ m. refl) n;
  b = transferred_is on_b seen_response (rounds number kind links uppers lowers) (λ m. takes_from number (uppers m).b_take) (λ m. (link_of (links m) number).b) (λ m. refl) n;
  ar = transferred_is on_ar seen_address (rounds number kind links uppers lowers) (λ m. takes_from number (lowers m).ar_take) (λ m. (link_of (links m) number).ar) (λ m. refl) n;
  r = transferred_is on_r seen_read_beat (rounds number kind links uppers lowers) (λ m. takes_from number (uppers m).r_take) (λ m. (link_of (links m) number).r) (λ m. refl) n;
}

pub offered_are_trails : OfferedAreTrails
offered_are_trails number kind links uppers lowers n = record {
  aw = offered_is on_aw seen_address (rounds number kind links uppers lowers) (λ m. takes_from number (lowers m).aw_take) (λ m. (link_of (links m) number).aw) (λ m. refl) n;
  w = offered_is on_w seen_itself (rounds number kind links uppers lowers) (λ m. takes_from number (lowers m).w_take) (λ m. (link_of (links m) number).w) (λ m. refl) n;
  b = offered_is on_b seen_response (rounds number kind links uppers lowers) (λ m. takes_from number (uppers m).b_take) (λ m. (link_of (links m) number).b) (λ m. refl) n;
  ar = offered_is on_ar seen_address (rounds number kind links uppers lowers) (λ m. takes_from number (lowers m).ar_take) (λ m. (link_of (links m) number).ar) (λ m. refl) n;
  r = offered_is on_r seen_read_beat (rounds number kind links uppers lowers) (λ m. takes_from number (uppers m).r_take) (λ m. (link_of (links m) number).r) (λ m. refl) n;
}

pub waiting_are_offered_again : WaitingAreOfferedAgain
waiting_are_offered_again number kind links uppers lowers run n = record {
  aw = offered_again on_aw seen_address (rounds number kind links uppers lowers) (λ m. takes_from number (lowers m).aw_take) (λ m. (link_of (links m) number).aw) (λ m. refl) (λ m. appended number (uppers m).aw_put) (λ m. ap (λ l. l.aw) (run.moves m)) n;
  w = offered_again on_w seen_itself (rounds number kind links uppers lowers) (λ m. takes_from number (lowers m).w_take) (λ m. (link_of (links m) number).w) (λ m. refl) (λ m. appended number (uppers m).w_put) (λ m. ap (λ l. l.w) (run.moves m)) n;
  b = offered_again on_b seen_response (rounds number kind links uppers lowers) (λ m. takes_from number (uppers m).b_take) (λ m. (link_of (links m) number).b) (λ m. refl) (λ m. appended number (lowers m).b_put) (λ m. ap (λ l. l.b) (run.moves m)) n;
  ar = offered_again on_ar seen_address (rounds number kind links uppers lowers) (λ m. takes_from number (lowers m).ar_take) (λ m. (link_of (links m) number).ar) (λ m. refl) (λ m. appended number (uppers m).ar_put) (λ m. ap (λ l. l.ar) (run.moves m)) n;
  r = offered_again on_r seen_read_beat (rounds number kind links uppers lowers) (λ m. takes_from number (uppers m).r_take) (λ m. (link_of (links m) number).r) (λ m. refl) (λ m. appended number (lowers m).r_put) (λ m. ap (λ l. l.r) (run.moves m)) n;
}
