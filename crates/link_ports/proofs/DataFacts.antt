-- Write data has `last` where it is due and its strobes on valid lanes, so rules 9 and 10 are kept.
use Rattle.std.proofs.Common.{◌≡◌, ◌≢◌, ℕ, suc, ◌+◌, ◌<◌, ◌==◌, ◌||◌, Bool, true, cond, not, List, [], ◌∷◌, ◌++◌, length, map, get_or, refl, sym, ◌∙◌, ap, subst, inl, inr, arith, eq-eqb}
use Rattle.std.specs.Prelude.{zip, flat_map, nat_lt}
use Rattle.std.specs.List.{AllZip}
use Rattle.std.proofs.lemmas.Bool.{ne_eqb, cases_eq, cond-true, cond-false, or_right, and_from}
use Rattle.std.proofs.lemmas.List.{length-map, get_or_append_left}
use Rattle.axi_beats.specs.declared.beat.Addr.{Addr}
use Rattle.axi_beats.specs.declared.beat.WBeat.{WBeat}
use Rattle.axi_history.specs.declared.port.RawAddr.{RawAddr}
use Rattle.axi_history.specs.PortHistory.{bursts}
use Rattle.axi_history.specs.PortRules.{each_beat, each_addressed_beat, has_last_where_due, has_strobes_on_valid_lanes, keeps_address_rules, request_of, strobes_within}
use Rattle.axi_trail.specs.LinkContracts.{without_id}
use Rattle.axi_trail.specs.Schedule.{Share}
use Rattle.axi_trail.specs.Words.{marks, burst_asked, burst_marks, mark_of_data, number_of_data, number_of_address}
use Rattle.axi_trail.proofs.FilterFacts.{length-burst_marks}
use Rattle.node_shape.specs.LegalSchedule.{IsDataOf}
use Rattle.link_ports.specs.PortView.{seen_address}
use Rattle.link_ports.proofs.AddressFacts.{seen_is_asked}
use Rattle.link_ports.proofs.BurstFacts.{FirstBurst, first_burst, lasts_due, own_data, others_data}
use Rattle.plain_lists.specs.Prefixes.{IsPrefix, Agree}
use Rattle.plain_lists.proofs.KeyLemmas.{of_key-append, of_key-cons, of_key-skip}
use Rattle.plain_lists.proofs.PrefixLemmas.{prefix_total, prefix_length, prefix_same, prefix_of_same, prefix_append, prefix_trans, prefix_cut}
use Rattle.plain_lists.specs.Keys.{of_key}
use Rattle.burst_address.specs.Lanes.{first_lane, last_lane}

-- a question about each addressed beat, of the first address and of the others
next_address : (bus : ℕ) (question : RawAddr → ℕ → WBeat → Bool) (a : RawAddr) (addresses : List RawAddr) (beats : List WBeat) (burst : List WBeat) (others : List (List WBeat)) →
    bursts beats ≡ burst ∷ others → each_beat (question a) 0 burst ≡ true → each_addressed_beat bus question (zip addresses others) ≡ true →
    each_addressed_beat bus question (zip (a ∷ addresses) (bursts beats)) ≡ true
next_address bus question a addresses beats burst others parted here later =
    ap (λ parts. each_addressed_beat bus question (zip (a ∷ addresses) parts)) parted
    ∙ and_from (not (keeps_address_rules bus a) || each_beat (question a) 0 burst) (each_addressed_beat bus question (zip addresses others)) (or_right (not (keeps_address_rules bus a)) (each_beat (question a) 0 burst) here) later

no_data : (bus : ℕ) (question : RawAddr → ℕ → WBeat → Bool) (addresses : List RawAddr) (others : List WBeat) → others ≡ [] → each_addressed_beat bus question (zip addresses (bursts others)) ≡ true
no_data bus question [] others none = refl
no_data bus question (a ∷ addresses) others none = ap (λ beats. each_addressed_beat bus question (zip (a ∷ addresses) (bursts beats))) none

-- rule 9
pub lasts_kept : (bus : ℕ) (addresses : List Addr) (beats : List WBeat) → Agree (map mark_of_data beats) (marks (map burst_asked addresses)) →
    each_addressed_beat bus has_last_where_due (zip (map seen_address addresses) (bursts beats)) ≡ true
lasts_kept bus [] beats agree = refl
lasts_kept bus (a ∷ addresses) [] agree = refl
lasts_kept bus (a ∷ addresses) (w ∷ more) agree =
    let first : FirstBurst a.tag.txn a.len (w ∷ more) (marks (map burst_asked addresses)) = first_burst a.tag.txn a.len w more (marks (map burst_asked addresses)) agree in
    next_address bus has_last_where_due (seen_address a) (map seen_address addresses) (w ∷ more) first.burst (bursts first.others) first.parted
    (lasts_due (seen_address a) a.tag.txn 0 a.len first.burst (omega arith) first.own)
    (lasts_kept bus addresses first.others first.agree)

-- ---- strobes

-- a question about each beat, by the places of the beats
each_by_place : (question : ℕ → WBeat → Bool) (k : ℕ) (burst : List WBeat) → ((n : ℕ) (past : WBeat) → n < length burst → question (k + n) (get_or burst n past) ≡ true) → each_beat question k burst ≡ true
each_by_place question k [] each = refl
each_by_place question k (w ∷ more) each =
    let here : question k w ≡ true = subst (λ (i : ℕ). question i w ≡ true) (omega arith) (each 0 w (omega arith)) in
    let later : each_beat question (suc k) more ≡ true =
    each_by_place question (suc k) more (λ n past within. subst (λ (i : ℕ). question i (get_or more n past) ≡ true) (omega arith) (each (suc n) past (omega arith))) in
    and_from (question k w) (each_beat question (suc k) more) here later

-- of a burst that is the beginning of its part's data
strobes_due : (bus : ℕ) (a : Addr) (burst beats : List WBeat) → IsDataOf bus (without_id a) beats → IsPrefix burst beats → each_beat (has_strobes_on_valid_lanes bus (seen_address a)) 0 burst ≡ true
strobes_due bus a burst beats is_data front =
    each_by_place (has_strobes_on_valid_lanes bus (seen_address a)) 0 burst (λ n past within.
    let same : get_or beats n past ≡ get_or burst n past = ap (λ t. get_or t n past) front.whole ∙ get_or_append_left burst front.rest past n within in
    let kept : strobes_within (first_lane a n bus) (last_lane a n bus) (get_or burst n past).strobe ≡ true =
    ap (λ (w : WBeat). strobes_within (first_lane a n bus) (last_lane a n bus) w.strobe) (sym same) ∙ is_data.strobes n past (omega (arith, prefix_length front)) in
    let place : 0 + n ≡ n = omega arith in
    subst (λ (i : ℕ). has_strobes_on_valid_lanes bus (seen_address a) i (get_or burst n past) ≡ true) (sym place)
    (or_right (nat_lt a.len n) (strobes_within (first_lane (request_of (seen_address a)) n bus) (last_lane (request_of (seen_address a)) n bus) (get_or burst n past).strobe)
    (ap (λ (x : Addr). strobes_within (first_lane x n bus) (last_lane x n bus) (get_or burst n past).strobe) (seen_is_asked a) ∙ kept)))

-- what is left of a transaction's share, where these addresses and these beats are still to be looked at
pub record IsLeft (bus : ℕ) (addresses : List Addr) (beats : List WBeat) (t : ℕ) (share : Share) : Type 0 where
  pub parts : IsPrefix (map without_id (of_key number_of_address t addresses)) share.parts
  pub write_data : IsPrefix (of_key number_of_data t beats) (flat_map (λ burst. burst) share.write_data)
  pub legal : AllZip (IsDataOf bus) share.parts share.write_data

-- the first part of a share, and its data
record FirstPart (bus : ℕ) (part : Addr) (parts : List Addr) (lists : List (List WBeat)) : Type 0 where
  beats : List WBeat
  others : List (List WBeat)
  whole : lists ≡ beats ∷ others
  is_data : IsDataOf bus part beats
  legal : AllZip (IsDataOf bus) parts others

first_part : (bus : ℕ) (part : Addr) (parts : List Addr) (lists : List (List WBeat)) → AllZip (IsDataOf bus) (part ∷ parts) lists → FirstPart bus part parts lists
first_part bus part parts [] legal = absurd legal
first_part bus part parts (beats ∷ others) legal = record { beats = beats; others = others; whole = refl; is_data = legal.0; legal = legal.1 }

module _ (bus : ℕ) (a : Addr) (addresses : List Addr) (burst others : List WBeat) (own : IsPrefix (map mark_of_data burst) (burst_marks a.tag.txn a.len)) where
  -- the burst of an address is the data of its part, or the beginning of it; once it is whole, the other parts are left
  own_left : (share : Share) → IsLeft bus (a ∷ addresses) (burst ++ others) a.tag.txn share →
      (beats : List WBeat) × IsDataOf bus (without_id a) beats × IsPrefix burst beats × (length burst ≡ suc a.len → (left : Share) × IsLeft bus addresses others a.tag.txn left)
  own_left share left =
      let split : share.parts ≡ without_id a ∷ (map without_id (of_key number_of_address a.tag.txn addresses) ++ left.parts.rest) =
      left.parts.whole ∙ ap (λ xs. map without_id xs ++ left.parts.rest) (of_key-cons number_of_address a.tag.txn a addresses refl) in
      let first : FirstPart bus (without_id a) (map without_id (of_key number_of_address a.tag.txn addresses) ++ left.parts.rest) share.write_data =
      first_part bus (without_id a) (map without_id (of_key number_of_address a.tag.txn addresses) ++ left.parts.rest) share.write_data (subst (λ (xs : List Addr). AllZip (IsDataOf bus) xs share.write_data) split left.legal) in
      let mine : of_key number_of_data a.tag.txn (burst ++ others) ≡ burst ++ of_key number_of_data a.tag.txn others =
      of_key-append number_of_data a.tag.txn burst others ∙ ap (λ xs. xs ++ of_key number_of_data a.tag.txn others) (own_data a.tag.txn a.len burst own) in
      let due : IsPrefix (burst ++ of_key number_of_data a.tag.txn others) (first.beats ++ flat_map (λ b. b) first.others) =
      prefix_of_same (prefix_same (sym mine) left.write_data) (ap (flat_map (λ b. b)) first.whole) in
      let front : IsPrefix burst first.beats =
      prefix_total (prefix_trans (prefix_append burst (of_key number_of_data a.tag.txn others)) due) (prefix_append first.beats (flat_map (λ b. b) first.others))
      (omega (arith, prefix_length own, length-map burst mark_of_data, length-burst_marks a.tag.txn a.len, first.is_data.whole)) in (
        first.beats,
        first.is_data,
        front,
        λ whole. (
          record share { parts = map without_id (of_key number_of_address a.tag.txn addresses) ++ left.parts.rest; write_data = first.others },
          record {
            parts = prefix_append (map without_id (of_key number_of_address a.tag.txn addresses)) left.parts.rest;
            write_data = prefix_cut burst first.beats (of_key number_of_data a.tag.txn others) (flat_map (λ b. b) first.others) (omega (arith, whole, first.is_data.whole)) due;
            legal = first.legal;
          },
        ),
      )

  -- of other transactions the same is left
  other_left : (t : ℕ) (share : Share) → t ≢ a.tag.txn → IsLeft bus (a ∷ addresses) (burst ++ others) t share → IsLeft bus addresses others t share
  other_left t share ne left = record {
    parts = prefix_same (ap (map without_id) (sym (of_key-skip number_of_address t a addresses (λ e. ne (sym e))))) left.parts;
    write_data = prefix_same (sym (of_key-append number_of_data t burst others ∙ ap (λ xs. xs ++ of_key number_of_data t others) (others_data a.tag.txn a.len t burst ne own))) left.write_data;
    legal = left.legal;
  }

-- rule 10
pub strobes_kept : (bus : ℕ) (addresses : List Addr) (beats : List WBeat) (shares : ℕ → Share) → Agree (map mark_of_data beats) (marks (map burst_asked addresses)) →
    ((t : ℕ) → IsLeft bus addresses beats t (shares t)) → each_addressed_beat bus (has_strobes_on_valid_lanes bus) (zip (map seen_address addresses) (bursts beats)) ≡ true
strobes_kept bus [] beats shares agree left = refl
strobes_kept bus (a ∷ addresses) [] shares agree left = refl
strobes_kept bus (a ∷ addresses) (w ∷ more) shares agree left =
    let first : FirstBurst a.tag.txn a.len (w ∷ more) (marks (map burst_asked addresses)) = first_burst a.tag.txn a.len w more (marks (map burst_asked addresses)) agree in
    let all : (t : ℕ) → IsLeft bus (a ∷ addresses) (first.burst ++ first.others) t (shares t) = λ t. subst (λ (bs : List WBeat). IsLeft bus (a ∷ addresses) bs t (shares t)) first.whole (left t) in
    let mine : (beats : List WBeat) × IsDataOf bus (without_id a) beats × IsPrefix first.burst beats × (length first.burst ≡ suc a.len → (left : Share) × IsLeft bus addresses first.others a.tag.txn left) =
    own_left bus a addresses first.burst first.others first.own (shares a.tag.txn) (all a.tag.txn) in
    next_address bus (has_strobes_on_valid_lanes bus) (seen_address a) (map seen_address addresses) (w ∷ more) first.burst (bursts first.others) first.parted
    (strobes_due bus a first.burst mine.0 mine.1 mine.2)
    (elim first.ended [
      | inl none ↦ no_data bus (has_strobes_on_valid_lanes bus) (map seen_address addresses) first.others none
      | inr whole ↦
          let rest : (left : Share) × IsLeft bus addresses first.others a.tag.txn left = mine.3 whole in
          strobes_kept bus addresses first.others (λ t. cond (t == a.tag.txn) rest.0 (shares t)) first.agree (λ t. elim (cases_eq t a.tag.txn) [
            | inl e ↦
                subst (λ (s : Share). IsLeft bus addresses first.others t s) (sym (cond-true (t == a.tag.txn) rest.0 (shares t) (eq-eqb t a.tag.txn e)))
                (subst (λ (u : ℕ). IsLeft bus addresses first.others u rest.0) (sym e) rest.1)
            | inr ne ↦
                subst (λ (s : Share). IsLeft bus addresses first.others t s) (sym (cond-false (t == a.tag.txn) rest.0 (shares t) (ne_eqb t a.tag.txn ne)))
                (other_left bus a addresses first.burst first.others first.own t (shares t) ne (all t))
          ])
    ])

-- what is left at first, of a link's requests
pub left_at_first : (bus : ℕ) (addresses : List Addr) (beats : List WBeat) (shares : ℕ → Share) →
    ((t : ℕ) → IsPrefix (map without_id (of_key number_of_address t addresses)) (shares t).parts) → ((t : ℕ) → IsPrefix (of_key number_of_data t beats) (flat_map (λ burst. burst) (shares t).write_data)) →
    ((t : ℕ) → AllZip (IsDataOf bus) (shares t).parts (shares t).write_data) → (t : ℕ) → IsLeft bus addresses beats t (shares t)
left_at_first bus addresses beats shares parts write_data legal t = record { parts = parts t; write_data = write_data t; legal = legal t }
