-- How many beats move in a run, and by when it is finished.
use Rattle.std.specs.Prelude.{◌≡◌, ◌⊎◌, ◌<◌, ◌≤◌, ◌+◌, ◌*◌, ℕ, List, Contains, flat_map, length, sum_by, true}
use Rattle.std.specs.List.{range_with_len}
use Rattle.axi_trail.specs.Schedule.{Progress, Schedule, Share}
use Rattle.axi_trail.specs.Trail.{Beats}
use Rattle.axi_trail.specs.Words.{number_of_address, number_of_data, number_of_read_data, number_of_response}
use Rattle.net_model.specs.Network.{Network, after_rounds, is_finished}
use Rattle.net_model.specs.Wired.{IsWired}
use Rattle.net_progress.specs.Moving.{IsPatient}
use Rattle.net_runs.specs.Run.{lower_end, upper_end}
use Rattle.net_runs.specs.RunKeeps.{IsScheduled}
use Rattle.node_shape.specs.Kind.{Kind}
use Rattle.plain_lists.specs.Keys.{of_key}

-- how many beats have passed an end of a link
abbrev pub beats_passed : Beats → ℕ
beats_passed trail = length trail.aw + length trail.w + length trail.b + length trail.ar + length trail.r

-- those of one transaction
abbrev pub beats_passed_of : Beats → ℕ → ℕ
beats_passed_of trail t =
    length (of_key number_of_address t trail.aw) + length (of_key number_of_data t trail.w) + length (of_key number_of_response t trail.b)
    + length (of_key number_of_address t trail.ar) + length (of_key number_of_read_data t trail.r)

-- how many beats a link has to carry of a transaction, in one direction, and in both
abbrev pub share_beats : Share → ℕ
share_beats share = length share.parts + length (flat_map (λ beats. beats) share.write_data) + length share.responses

abbrev pub link_beats : Schedule → ℕ → ℕ
link_beats schedule t = share_beats (schedule.writes t) + share_beats (schedule.reads t)

module _ {S E : Type 0} (kind : Kind S E) (net : Network S) where
  -- the sum over all links
  abbrev pub on_all_links : (ℕ → ℕ) → ℕ
  on_all_links count = sum_by count (range_with_len 0 (length net.links))

  -- the takes and puts of the first rounds, and those of one transaction
  abbrev pub transfers : ℕ → ℕ
  transfers n = on_all_links (λ link. beats_passed (upper_end kind net link n) + beats_passed (lower_end kind net link n))

  abbrev pub transfers_of : ℕ → ℕ → ℕ
  transfers_of n t = on_all_links (λ link. beats_passed_of (upper_end kind net link n) t + beats_passed_of (lower_end kind net link n) t)

  -- twice what all links have to carry of these transactions
  abbrev pub most_transfers : (ℕ → Schedule) → List ℕ → ℕ
  most_transfers schedules numbers = on_all_links (λ link. 2 * sum_by (link_beats (schedules link)) numbers)

  -- no link has anything else to carry
  abbrev pub CarryOnly : (ℕ → Schedule) → List ℕ → Type 0
  CarryOnly schedules numbers = (link : ℕ) → link < length net.links → (t : ℕ) → Contains numbers t ⊎ (link_beats (schedules link) t ≡ 0)

module _ {S E : Type 0} (kind : Kind S E) where
  -- each beat that a link has to carry of a transaction is put once and taken once at most
  abbrev pub FewTransfers : Type 0
  FewTransfers =
      (net : Network S) (schedules : ℕ → Schedule) (now : ℕ → Progress) → IsWired kind net → IsScheduled kind net schedules now → (n t : ℕ) →
      transfers_of kind net n t ≤ on_all_links kind net (λ link. 2 * link_beats (schedules link) t)

  -- a run is finished after so many rounds at most: what its links have to carry, times the patience of its nodes
  abbrev pub FinishesInTime : Type 0
  FinishesInTime =
      (net : Network S) (schedules : ℕ → Schedule) (now : ℕ → Progress) → IsWired kind net → IsScheduled kind net schedules now →
      (numbers : List ℕ) → CarryOnly kind net schedules numbers → (most : ℕ) → IsPatient kind net most →
      (n : ℕ) × (n ≤ most * most_transfers kind net schedules numbers) × (is_finished kind (after_rounds kind n net) ≡ true)
