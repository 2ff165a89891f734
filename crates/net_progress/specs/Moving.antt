-- A network never gets stuck.
use Rattle.std.specs.Prelude.{◌≡◌, ◌<◌, ◌≤◌, ◌+◌, ◌∷◌, [], ℕ, suc, Bool, false, true, is_some, map, slice_get}
use Rattle.std.specs.List.{list_any}
use Rattle.std.specs.Option.{option_map_or}
use Rattle.axi_link.specs.declared.out.Out.{Out}
use Rattle.axi_trail.specs.Schedule.{Progress, Schedule}
use Rattle.net_model.specs.Network.{Network, after_rounds, is_finished, node_next}
use Rattle.net_model.specs.Wired.{IsWired}
use Rattle.net_runs.specs.Run.{nodes_after, queues_after}
use Rattle.net_runs.specs.RunKeeps.{IsScheduled}
use Rattle.node_core.specs.Acted.{Acted}
use Rattle.node_shape.specs.Kind.{Kind}

-- some beat is taken or put
abbrev pub has_moves : Out → Bool
has_moves out =
    list_any (λ moves. moves)
    (is_some out.aw_take ∷ is_some out.aw_put ∷ is_some out.w_take ∷ is_some out.w_put ∷ is_some out.b_take ∷ is_some out.b_put
    ∷ is_some out.ar_take ∷ is_some out.ar_put ∷ is_some out.r_take ∷ is_some out.r_put ∷ [])

module _ {S E : Type 0} (kind : Kind S E) where
  -- some node takes or puts a beat in the round after so many
  abbrev pub is_moving : Network S → ℕ → Bool
  is_moving net n = list_any (λ (a : Acted S). has_moves a.out) (map (node_next kind (suc n) (queues_after kind net n)) (nodes_after kind net n))

  -- no node has more patience than this
  abbrev pub IsPatient : Network S → ℕ → Type 0
  IsPatient net most = (node : ℕ) → option_map_or (λ (a : Acted S). kind.patience a.state) (slice_get net.nodes node) 0 ≤ most

  -- in one of so many rounds from each unfinished state on, some node takes or puts a beat
  abbrev pub NeverStuck : Type 0
  NeverStuck =
      (net : Network S) (schedules : ℕ → Schedule) (now : ℕ → Progress) → IsWired kind net → IsScheduled kind net schedules now →
      (most : ℕ) → IsPatient net most → (n : ℕ) → is_finished kind (after_rounds kind n net) ≡ false →
      (i : ℕ) × (i < most) × (is_moving net (n + i) ≡ true)
