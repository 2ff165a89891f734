-- No more beats pass an end of a link than the link has to carry.
use Rattle.std.proofs.Common.{◌≡◌, ◌⊎◌, ◌≤◌, ◌+◌, ℕ, List, length, map, inl, inr, ◌∙◌, ap, arith}
use Rattle.std.specs.Prelude.{Contains, sum_by}
use Rattle.std.proofs.lemmas.List.{length-map}
use Rattle.axi_beats.specs.declared.beat.BBeat.{BBeat}
use Rattle.axi_beats.specs.declared.beat.RBeat.{RBeat}
use Rattle.axi_trail.specs.LinkContracts.{Answers, Asks, without_id}
use Rattle.axi_trail.specs.Schedule.{Progress, Schedule}
use Rattle.axi_trail.specs.Trail.{Beats}
use Rattle.axi_trail.specs.Words.{number_of_address, number_of_data, number_of_read_data, number_of_response}
use Rattle.net_progress.proofs.SumLemmas.{keys-cover, sum-add, sum-le}
use Rattle.net_progress.specs.Transfers.{beats_passed, beats_passed_of, link_beats}
use Rattle.plain_lists.proofs.PrefixLemmas.{prefix_length}
use Rattle.plain_lists.specs.Keys.{of_key}

module _ (schedule : Schedule) (now : Progress) (trail : Beats) (asks : Asks schedule now trail) (answers : Answers schedule now trail) where
  -- of one transaction
  pub few-beats : (t : ℕ) → beats_passed_of trail t ≤ link_beats schedule t
  few-beats t =
      let aw = prefix_length (asks.writes.asks_only_its_parts t) in
      let aw_long : length (map without_id (of_key number_of_address t trail.aw)) ≡ length (of_key number_of_address t trail.aw) = length-map (of_key number_of_address t trail.aw) without_id in
      let w = prefix_length (asks.data_is_the_schedules t) in
      let b = prefix_length (answers.responses_are_the_schedules t) in
      let b_long : length (map (λ (b : BBeat). b.resp) (of_key number_of_response t trail.b)) ≡ length (of_key number_of_response t trail.b) =
      length-map (of_key number_of_response t trail.b) (λ (b : BBeat). b.resp) in
      let ar = prefix_length (asks.reads.asks_only_its_parts t) in
      let ar_long : length (map without_id (of_key number_of_address t trail.ar)) ≡ length (of_key number_of_address t trail.ar) = length-map (of_key number_of_address t trail.ar) without_id in
      let r = prefix_length (answers.read_responses_are_the_schedules t) in
      let r_long : length (map (λ (r : RBeat). r.resp) (of_key number_of_read_data t trail.r)) ≡ length (of_key number_of_read_data t trail.r) =
      length-map (of_key number_of_read_data t trail.r) (λ (r : RBeat). r.resp) in
      omega (arith, aw, aw_long, w, b, b_long, ar, ar_long, r, r_long)

  -- and of all
  pub all-beats : (numbers : List ℕ) → ((t : ℕ) → Contains numbers t ⊎ (link_beats schedule t ≡ 0)) → beats_passed trail ≤ sum_by (link_beats schedule) numbers
  all-beats numbers known =
      let none : (t : ℕ) (k : ℕ) → k ≤ beats_passed_of trail t → Contains numbers t ⊎ (k ≡ 0) = λ t k le.
      elim (known t) [ inl among ↦ inl among | inr nothing ↦ inr (omega (arith, nothing, few-beats t, le)) ] in
      let aw : ℕ → ℕ = λ t. length (of_key number_of_address t trail.aw) in
      let w : ℕ → ℕ = λ t. length (of_key number_of_data t trail.w) in
      let b : ℕ → ℕ = λ t. length (of_key number_of_response t trail.b) in
      let ar : ℕ → ℕ = λ t. length (of_key number_of_address t trail.ar) in
      let r : ℕ → ℕ = λ t. length (of_key number_of_read_data t trail.r) in
      let aw_all = keys-cover number_of_address numbers trail.aw (λ t. none t (aw t) (omega arith)) in
      let w_all = keys-cover number_of_data numbers trail.w (λ t. none t (w t) (omega arith)) in
      let b_all = keys-cover number_of_response numbers trail.b (λ t. none t (b t) (omega arith)) in
      let ar_all = keys-cover number_of_address numbers trail.ar (λ t. none t (ar t) (omega arith)) in
      let r_all = keys-cover number_of_read_data numbers trail.r (λ t. none t (r t) (omega arith)) in
      let sum : sum_by (beats_passed_of trail) numbers ≡ sum_by aw numbers + sum_by w numbers + sum_by b numbers + sum_by ar numbers + sum_by r numbers =
      sum-add (λ t. aw t + w t + b t + ar t) r numbers
      ∙ ap (λ (n : ℕ). n + sum_by r numbers)
      (sum-add (λ t. aw t + w t + b t) ar numbers
      ∙ ap (λ (n : ℕ). n + sum_by ar numbers) (sum-add (λ t. aw t + w t) b numbers ∙ ap (λ (n : ℕ). n + sum_by b numbers) (sum-add aw w numbers))) in
      omega (arith, aw_all, w_all, b_all, ar_all, r_all, sum, sum-le (beats_passed_of trail) (link_beats schedule) numbers few-beats)
