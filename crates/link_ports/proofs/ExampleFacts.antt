-- The port of the example is computed, and its link keeps its contracts.
use Rattle.std.proofs.Common.{◌≡◌, ℕ, zero, suc, ◌<◌, ◌^◌, ◌==◌, Bool, true, false, cond, IsTrue, List, [], ◌∷◌, ◌++◌, length, get_or, All, refl, sym, ◌∙◌, ap, subst, arith, length-append, append-nil}
use Rattle.std.specs.List.{AllZip}
use Rattle.std.proofs.lemmas.List.Elements.{All-cons, All-nil}
use Rattle.axi_beats.specs.declared.beat.Addr.{Addr}
use Rattle.axi_beats.specs.declared.beat.RBeat.{RBeat}
use Rattle.axi_history.specs.PortRules.{strobes_within}
use Rattle.axi_link.specs.Moves.{appended}
use Rattle.axi_trail.specs.Example.{read_address, write_address, write_data_beat, write_response, read_share, write_share, example_schedule, example_progress, example_upper, example_lower}
use Rattle.axi_trail.specs.LinkContracts.{Asks, Answers, Requests}
use Rattle.axi_trail.specs.Schedule.{Share, no_share}
use Rattle.axi_trail.specs.Trail.{Beats, no_beats, moved_below, trail_above, trail_below}
use Rattle.axi_trail.specs.Words.{Asked, Reply, burst_asked}
use Rattle.axi_trail.proofs.SlackFacts.{asking_goes_down, answering_goes_up}
use Rattle.burst_address.specs.Legal.{IsLegal}
use Rattle.link_ports.specs.Example.{ExamplePort, HastyPort, manager_moves, memory_moves, links_between, PortExampleKeepsContracts, PortWithIds, WordScheduleIsLegal}
use Rattle.link_ports.specs.WordSchedule.{IsOneWord}
use Rattle.node_shape.specs.LegalSchedule.{IsDataOf, IsLegalSchedule}
use Rattle.link_ports.proofs.ChannelFacts.{grows_itself}
use Rattle.plain_lists.specs.Prefixes.{IsPrefix}
use Rattle.plain_lists.specs.Rounds.{over}
use Rattle.plain_lists.proofs.PrefixLemmas.{prefix_same, prefix_of_same, prefix_itself, prefix_nil}
use Rattle.burst_address.specs.Lanes.{first_lane, last_lane}
use Rattle.axi_trail.proofs.ExampleFacts as trails

pub example_port : ExamplePort
example_port = (record { depth = 2; opens = refl; moves = λ n. refl }, refl, refl)

pub hasty_port : HastyPort
hasty_port = refl

-- what the link has to carry is legal

one_beat : IsDataOf 4 (record write_address { id = 0 }) (write_data_beat ∷ [])
one_beat = record {
  whole = refl;
  strobes = λ n past within.
      subst (λ (k : ℕ). strobes_within (first_lane (record write_address { id = 0 }) k 4) (last_lane (record write_address { id = 0 }) k 4) (get_or (write_data_beat ∷ []) k past).strobe ≡ true)
      (let first : 0 ≡ n = omega arith in first) refl;
  lasts = λ n past within.
      subst (λ (k : ℕ). (get_or (write_data_beat ∷ []) k past).last ≡ (k == 0)) (let first : 0 ≡ n = omega arith in first) refl;
}

example_is_legal : IsLegalSchedule 4 example_schedule
example_is_legal = record {
  writes = λ t.
      let go : (b : Bool) → All (λ part. IsLegal part 4) (cond b write_share no_share).parts = elim [
        | true ↦ All-cons (λ part. IsLegal part 4) (record write_address { id = 0 }) [] refl (All-nil (λ part. IsLegal part 4))
        | false ↦ All-nil (λ part. IsLegal part 4)
      ] in go (t == 8);
  reads = λ t.
      let go : (b : Bool) → All (λ part. IsLegal part 4) (cond b read_share no_share).parts = elim [
        | true ↦ All-cons (λ part. IsLegal part 4) (record read_address { id = 0 }) [] refl (All-nil (λ part. IsLegal part 4))
        | false ↦ All-nil (λ part. IsLegal part 4)
      ] in go (t == 7);
  write_data = λ t.
      let go : (b : Bool) → AllZip (IsDataOf 4) (cond b write_share no_share).parts (cond b write_share no_share).write_data = elim [
        | true ↦ (one_beat, tt)
        | false ↦ tt
      ] in go (t == 8);
}

-- what the manager asks

no_requests : (shares : ℕ → Share) (id_width : ℕ) (issued : ℕ → Bool) (asked_as : Addr → Asked) (replies : List Reply) → Requests shares id_width issued asked_as [] replies
no_requests shares id_width issued asked_as replies = record {
  asks_only_its_parts = λ t. prefix_nil (shares t).parts;
  ids_fit = All-nil (λ a. a.id < 2 ^ id_width);
  whole_before_the_next = λ before a after t e earlier. absurd (omega (arith, ap length e, length-append before (a ∷ after)));
  one_id_at_a_time = λ before a between next after e chain differ. absurd (omega (arith, ap length e, length-append (before ++ a ∷ between) (next ∷ after)));
  was_issued = All-nil (λ a. IsTrue (issued a.tag.txn));
}

write_sent : Beats
write_sent = record { aw = write_address ∷ []; w = write_data_beat ∷ []; b = []; ar = []; r = [] }

asked_at_most : Asks example_schedule example_progress write_sent
unfolding write_sent
asked_at_most =
    let asks : Asks example_schedule example_progress example_upper = trails.example_keeps_contracts.0 in
    record {
      writes = asks.writes;
      reads = no_requests example_schedule.reads 4 example_progress.issued burst_asked [];
      data_is_the_schedules = asks.data_is_the_schedules;
      data_follows_addresses = asks.data_follows_addresses;
    }

module _ {X : Type 0} (added : ℕ → List X) where
  -- rounds that add nothing
  nothing_added : ((n : ℕ) → added n ≡ []) → (n : ℕ) → over added n ≡ []
  nothing_added none zero = refl
  nothing_added none (suc n) = ap (λ t. t ++ added n) (nothing_added none n) ∙ none n

  -- nothing is added after the first round, or after the fourth
  first_one : (xs : List X) → added 0 ≡ xs → ((n : ℕ) → added (suc n) ≡ []) → (n : ℕ) → over added (suc n) ≡ xs
  first_one xs first none zero = first
  first_one xs first none (suc n) = ap (λ t. over added (suc n) ++ t) (none n) ∙ append-nil (over added (suc n)) ∙ first_one xs first none n

  first_alone : (xs : List X) → added 0 ≡ xs → ((n : ℕ) → added (suc n) ≡ []) → (n : ℕ) → IsPrefix (over added n) xs
  first_alone xs first none zero = prefix_nil xs
  first_alone xs first none (suc n) = prefix_same (first_one xs first none n) (prefix_itself xs)

  first_four : (xs : List X) → over added 4 ≡ xs → ((n : ℕ) → added (suc (suc (suc (suc n)))) ≡ []) → (n : ℕ) → over added (suc (suc (suc (suc n)))) ≡ xs
  first_four xs four none zero = four
  first_four xs four none (suc n) =
      ap (λ t. over added (suc (suc (suc (suc n)))) ++ t) (none n) ∙ append-nil (over added (suc (suc (suc (suc n))))) ∙ first_four xs four none n

-- what the manager puts after its first round
no_later_address : (n : ℕ) → appended 0 (manager_moves (suc n)).aw_put ≡ []
no_later_address zero = refl
no_later_address (suc zero) = refl
no_later_address (suc (suc zero)) = refl
no_later_address (suc (suc (suc zero))) = refl
no_later_address (suc (suc (suc (suc n)))) = refl

no_later_data : (n : ℕ) → appended 0 (manager_moves (suc n)).w_put ≡ []
no_later_data zero = refl
no_later_data (suc zero) = refl
no_later_data (suc (suc zero)) = refl
no_later_data (suc (suc (suc zero))) = refl
no_later_data (suc (suc (suc (suc n)))) = refl

no_read_address : (n : ℕ) → appended 0 (manager_moves n).ar_put ≡ []
no_read_address zero = refl
no_read_address (suc zero) = refl
no_read_address (suc (suc zero)) = refl
no_read_address (suc (suc (suc zero))) = refl
no_read_address (suc (suc (suc (suc zero)))) = refl
no_read_address (suc (suc (suc (suc (suc n))))) = refl

example_asks : (n : ℕ) → Asks example_schedule example_progress (trail_above manager_moves (links_between memory_moves) n 0)
unfolding write_sent
example_asks n = asking_goes_down example_schedule example_progress example_progress (trail_above manager_moves (links_between memory_moves) n 0) write_sent (grows_itself example_progress)
    (record {
      aw = first_alone (λ m. appended 0 (manager_moves m).aw_put) (write_address ∷ []) refl no_later_address n;
      w = first_alone (λ m. appended 0 (manager_moves m).w_put) (write_data_beat ∷ []) refl no_later_data n;
      b = prefix_nil (trail_above manager_moves (links_between memory_moves) n 0).b;
      ar = prefix_same (nothing_added (λ m. appended 0 (manager_moves m).ar_put) no_read_address n) (prefix_itself []);
      r = prefix_nil (trail_above manager_moves (links_between memory_moves) n 0).r;
    }) asked_at_most

-- what the memory answers

no_answers : Answers example_schedule example_progress no_beats
no_answers = record {
  answers_in_order_of_id = λ id. prefix_nil [];
  reads_in_order_of_id = λ id. prefix_nil [];
  responses_are_the_schedules = λ t. prefix_nil (example_schedule.writes t).responses;
  read_responses_are_the_schedules = λ t. prefix_nil (example_schedule.reads t).responses;
  answered_after_its_data = λ id. prefix_nil [];
  done_when_answered = λ t some all. absurd (omega arith);
  lanes_are_whole = All-nil (λ (r : RBeat). length r.lanes ≡ 128);
  bytes_are_filled = λ t. prefix_nil (example_progress.filled t);
}

write_answered : Beats
write_answered = record { aw = write_address ∷ []; w = write_data_beat ∷ []; b = write_response ∷ []; ar = []; r = [] }

answered_at_last : Answers example_schedule example_progress write_answered
unfolding write_answered
answered_at_last =
    let answers : Answers example_schedule example_progress example_lower = trails.example_keeps_contracts.1 in
    record {
      answers_in_order_of_id = answers.answers_in_order_of_id;
      reads_in_order_of_id = λ id. prefix_nil [];
      responses_are_the_schedules = answers.responses_are_the_schedules;
      read_responses_are_the_schedules = λ t. prefix_nil (example_schedule.reads t).responses;
      answered_after_its_data = answers.answered_after_its_data;
      done_when_answered = answers.done_when_answered;
      lanes_are_whole = All-nil (λ (r : RBeat). length r.lanes ≡ 128);
      bytes_are_filled = λ t. prefix_nil (example_progress.filled t);
    }

no_read_data : (n : ℕ) → appended 0 (memory_moves n).r_put ≡ []
no_read_data zero = refl
no_read_data (suc zero) = refl
no_read_data (suc (suc zero)) = refl
no_read_data (suc (suc (suc zero))) = refl
no_read_data (suc (suc (suc (suc n)))) = refl

-- before the response, and after it
answers_before : (n : ℕ) → (trail_below memory_moves (links_between memory_moves) n 0).b ≡ [] → Answers example_schedule example_progress (trail_below memory_moves (links_between memory_moves) n 0)
answers_before n none = answering_goes_up example_schedule example_progress example_progress no_beats (trail_below memory_moves (links_between memory_moves) n 0) (grows_itself example_progress)
    (record {
      aw = prefix_nil (trail_below memory_moves (links_between memory_moves) n 0).aw;
      w = prefix_nil (trail_below memory_moves (links_between memory_moves) n 0).w;
      b = prefix_same none (prefix_itself []);
      ar = prefix_nil (trail_below memory_moves (links_between memory_moves) n 0).ar;
      r = prefix_same (nothing_added (λ m. appended 0 (memory_moves m).r_put) no_read_data n) (prefix_itself []);
    }) no_answers

answers_after : (n : ℕ) → Answers example_schedule example_progress (trail_below memory_moves (links_between memory_moves) (suc (suc (suc (suc n)))) 0)
unfolding write_answered
answers_after n = answering_goes_up example_schedule example_progress example_progress write_answered (trail_below memory_moves (links_between memory_moves) (suc (suc (suc (suc n)))) 0) (grows_itself example_progress)
    (record {
      aw = prefix_of_same (prefix_itself (write_address ∷ [])) (sym (first_four (λ m. (moved_below (memory_moves m) (links_between memory_moves m) 0).aw) (write_address ∷ []) refl (λ m. refl) n));
      w = prefix_of_same (prefix_itself (write_data_beat ∷ [])) (sym (first_four (λ m. (moved_below (memory_moves m) (links_between memory_moves m) 0).w) (write_data_beat ∷ []) refl (λ m. refl) n));
      b = prefix_same (first_four (λ m. appended 0 (memory_moves m).b_put) (write_response ∷ []) refl (λ m. refl) n) (prefix_itself (write_response ∷ []));
      ar = prefix_nil (trail_below memory_moves (links_between memory_moves) (suc (suc (suc (suc n)))) 0).ar;
      r = prefix_same (nothing_added (λ m. appended 0 (memory_moves m).r_put) no_read_data (suc (suc (suc (suc n))))) (prefix_itself []);
    }) answered_at_last

example_answers : (n : ℕ) → Answers example_schedule example_progress (trail_below memory_moves (links_between memory_moves) n 0)
example_answers zero = answers_before 0 refl
example_answers (suc zero) = answers_before 1 refl
example_answers (suc (suc zero)) = answers_before 2 refl
example_answers (suc (suc (suc zero))) = answers_before 3 refl
example_answers (suc (suc (suc (suc n)))) = answers_after n

pub example_keeps_contracts : PortExampleKeepsContracts
example_keeps_contracts = (example_is_legal, example_asks, example_answers)

-- as AXI4-Lite

pub port_with_ids : PortWithIds
port_with_ids = refl

pub word_schedule_is_legal : WordScheduleIsLegal
word_schedule_is_legal = (
  record {
    writes = example_is_legal.writes;
    reads = λ t. All-nil (λ part. IsLegal part 4);
    write_data = example_is_legal.write_data;
  },
  record {
    no_ids = refl;
    writes = λ t.
        let go : (b : Bool) → All (IsOneWord 4) (cond b write_share no_share).parts = elim [
          | true ↦ All-cons (IsOneWord 4) (record write_address { id = 0 }) [] (record { single = record { len = refl; burst = refl }; whole = refl }) (All-nil (IsOneWord 4))
          | false ↦ All-nil (IsOneWord 4)
        ] in go (t == 8);
    reads = λ t. All-nil (IsOneWord 4);
  },
)
