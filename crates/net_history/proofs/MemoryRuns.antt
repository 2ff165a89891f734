-- The memories of a run, of AXI4 and of AXI4-Lite: what each keeps of its link and of its accesses.
use Rattle.std.proofs.Common.{◌≡◌, ◌<◌, [], ◌∷◌, ℕ, zero, suc, Bool, true, false, List, Option, Some, None, length, map, refl, sym, ap, ◌∙◌, subst, arith}
use Rattle.std.specs.Prelude.{Contains, slice_get, if◌then◌else◌}
use Rattle.std.specs.Option.{option_map_or}
use Rattle.axi_beats.specs.Lanes.{Span}
use Rattle.axi_link.specs.declared.out.Out.{Out}
use Rattle.axi_trail.specs.Schedule.{Schedule}
use Rattle.axi_trail.specs.Trail.{Beats, trail_below}
use Rattle.lite_memory_node.specs.LiteMemoryTable.{tag_span}
use Rattle.memory_node.specs.Accesses.{beat_span}
use Rattle.memory_node.specs.Events.{Access}
use Rattle.memory_node.specs.MemoryArea.{MemoryArea}
use Rattle.memory_node.specs.MemoryState.{MemoryState}
use Rattle.memory_node.specs.MemoryTable.{memory_service}
use Rattle.memory_node.specs.MemoryTrail.{BeginsMemory, HasAccessedOn, knows_on, memory_kind}
use Rattle.net_history.proofs.ManagerRuns.{run-keeps}
use Rattle.net_history.proofs.RunStates.{acted_as, run_state, stands-at}
use Rattle.net_kinds.specs.NodeHolds.{node_holds}
use Rattle.net_kinds.specs.NodeKind.{NodeState, node_kind}
use Rattle.net_kinds.specs.NodeKind.KindName.{ALiteMemory, AMemory}
use Rattle.net_model.specs.Network.{Network, lower_node}
use Rattle.net_model.specs.Wired.{uppers_at}
use Rattle.net_runs.proofs.ContractFacts.{at-some}
use Rattle.net_runs.specs.Run.{HoldsAt, chosen, lower_end, nodes_after, noted_by, passed_by, queues_after}
use Rattle.net_ways.proofs.OriginLemmas.{own-upper}
use Rattle.net_ways.specs.Sound.{IsSound}
use Rattle.net_ways.specs.Ways.{schedules_of, way_below}
use Rattle.node_core.specs.Acted.{Acted}
use Rattle.node_shape.specs.Kind.{Passed, next_of}
use Rattle.node_shape.specs.LinkForm.{LinkForm}
use Rattle.node_shape.specs.Way.{start_here}
use Rattle.subordinate.specs.Parts.{BeatOf, beats_of_parts}
use Rattle.subordinate.specs.Tracks.{KeepsOrder}

-- ---- both kinds of memory as one

abbrev pub memory_state : Bool → MemoryState → NodeState
memory_state lite s = if lite then record { kind = ALiteMemory; state = s } else record { kind = AMemory; state = s }

-- the lanes that are wanted of a beat of a read
abbrev pub wanted_by : Bool → MemoryArea → BeatOf → Span
wanted_by lite area b = if lite then tag_span b else beat_span area b

begins-by : (lite : Bool) (s : MemoryState) → node_kind.begins (memory_state lite s) → BeginsMemory s
begins-by true s begins = begins
begins-by false s begins = begins

-- its link is of its protocol and of its bus
pub record IsMemoryLink (lite : Bool) (form : LinkForm) (s : MemoryState) : Type 0 where
  pub protocol : form.lite ≡ lite
  pub bus : form.bus ≡ s.area.bus

link-by : (lite : Bool) (forms : ℕ → LinkForm) (schedules : ℕ → Schedule) (s : MemoryState) → node_kind.is_sound forms schedules (memory_state lite s) → IsMemoryLink lite (forms s.inner.upper) s
link-by true forms schedules s sound = record { protocol = sound.lite; bus = sound.bus }
link-by false forms schedules s sound = record { protocol = sound.full; bus = sound.bus }

-- what both keep over their trail and their accesses
pub record KeepsAccesses (lite : Bool) (schedule : Schedule) (s : MemoryState) (trail : Beats) (all : List Access) : Type 0 where
  pub lanes : (t : ℕ) → (schedule.reads t).lanes ≡ map (wanted_by lite s.area) (beats_of_parts (schedule.reads t).parts)
  pub order : KeepsOrder (memory_service s.area) schedule s.inner trail
  pub accessed : HasAccessedOn (wanted_by lite s.area) schedule s.area s.inner.kept trail.w trail.r all

keeps-by : (lite : Bool) (schedules : ℕ → Schedule) (n : ℕ) (s : MemoryState) (passed : Passed Access) → node_kind.keeps schedules n (memory_state lite s) passed →
    KeepsAccesses lite (schedules s.inner.upper) s (passed.uppers s.inner.upper) passed.noted
keeps-by true schedules n s passed keeps = record { lanes = keeps.suits.lanes; order = keeps.order; accessed = keeps.accessed }
keeps-by false schedules n s passed keeps = record { lanes = keeps.suits.lanes; order = keeps.order; accessed = keeps.accessed }

pub knows-by : (lite : Bool) (schedules : ℕ → Schedule) (s : MemoryState) (passed : Passed Access) → node_kind.knows schedules (memory_state lite s) passed ≡ knows_on (wanted_by lite) schedules s passed
knows-by true schedules s passed = refl
knows-by false schedules s passed = refl

ends-by : (lite : Bool) (s : MemoryState) (share : _) → (node_kind.way (memory_state lite s)).goes_on share ≡ None
ends-by true s share = refl
ends-by false s share = refl

uppers-by : (lite : Bool) (s : MemoryState) → node_kind.uppers (memory_state lite s) ≡ s.inner.upper ∷ []
uppers-by true s = refl
uppers-by false s = refl

-- ---- over the rounds

-- a node is a memory, which stands like this before the first round
pub record IsMemoryAt (net : Network NodeState) (node : ℕ) (s : MemoryState) : Type 0 where
  pub lite : Bool
  pub out : Out
  pub at : slice_get net.nodes node ≡ Some (record { state = memory_state lite s; out = out })

-- the memory after so many rounds: both kinds go by one table
abbrev pub memory_run : Network NodeState → MemoryState → ℕ → MemoryState
memory_run net s n = run_state net AMemory s n

pub runs-alike : (net : Network NodeState) (s : MemoryState) (n : ℕ) → run_state net ALiteMemory s n ≡ memory_run net s n
runs-alike net s zero = refl
runs-alike net s (suc n) = ap (λ (x : MemoryState). next_of memory_kind (suc n) (queues_after node_kind net n) x) (runs-alike net s n)

-- it stands there
pub record MemoryStands (net : Network NodeState) (node : ℕ) (lite : Bool) (s : MemoryState) (n : ℕ) : Type 0 where
  pub out : Out
  pub at : slice_get (nodes_after node_kind net n) node ≡ Some (record { state = memory_state lite (memory_run net s n); out = out })

stands-by : (net : Network NodeState) (node : ℕ) (lite : Bool) (s : MemoryState) (out : Out) → slice_get net.nodes node ≡ Some (record { state = memory_state lite s; out = out }) → (n : ℕ) → MemoryStands net node lite s n
stands-by net node true s out at n =
    let there = stands-at net node ALiteMemory s out at n in
    record { out = there.out; at = there.at ∙ ap (λ (x : MemoryState). Some (acted_as ALiteMemory x there.out)) (runs-alike net s n) }
stands-by net node false s out at n =
    let there = stands-at net node AMemory s out at n in
    record { out = there.out; at = there.at }

module _ (net : Network NodeState) (forms : ℕ → LinkForm) (sound : IsSound node_kind net forms) (node : ℕ) (s : MemoryState) (is : IsMemoryAt net node s) where
  abbrev acted : Acted NodeState
  acted = record { state = memory_state is.lite s; out = is.out }

  -- its bytes and its link never change
  pub area-is : (n : ℕ) → (memory_run net s n).area ≡ s.area
  area-is zero = refl
  area-is (suc n) = area-is n

  pub upper-is : (n : ℕ) → (memory_run net s n).inner.upper ≡ s.inner.upper
  upper-is zero = refl
  upper-is (suc n) = upper-is n

  pub memory-stands : (n : ℕ) → MemoryStands net node is.lite s n
  memory-stands n = stands-by net node is.lite s is.out is.at n

  holds-there : (P : NodeState → Type 0) (n : ℕ) → HoldsAt node_kind net P node n → P (memory_state is.lite (memory_run net s n))
  holds-there P n holds =
      let there = memory-stands n in
      at-some (λ (a : Acted NodeState). P a.state) (slice_get (nodes_after node_kind net n) node) (record { state = memory_state is.lite (memory_run net s n); out = there.out }) there.at holds

  pub has-form : IsMemoryLink is.lite (forms s.inner.upper) s
  has-form =
      link-by is.lite forms (schedules_of node_kind net forms) s
      (at-some (λ (a : Acted NodeState). node_kind.is_sound forms (schedules_of node_kind net forms) a.state) (slice_get net.nodes node) acted is.at (sound.nodes node))

  pub memory-begins : BeginsMemory s
  memory-begins = begins-by is.lite s (at-some (λ (a : Acted NodeState). node_kind.begins a.state) (slice_get net.nodes node) acted is.at (sound.begins node))

  pub upper-link : (s.inner.upper < length net.links) × (lower_node net.links s.inner.upper ≡ node)
  upper-link =
      own-upper node_kind node_holds net forms sound node acted is.at s.inner.upper
      (subst (λ (links : List ℕ). Contains links s.inner.upper) (sym (uppers-by is.lite s)) (0, omega arith, refl))

  -- what it keeps, of the trail of the lower end of its link
  pub memory-keeps : (n : ℕ) → KeepsAccesses is.lite (schedules_of node_kind net forms s.inner.upper) (memory_run net s n) (lower_end node_kind net s.inner.upper n) (noted_by node_kind net node n)
  memory-keeps n =
      let schedules = schedules_of node_kind net forms in
      let Keeps : Schedule → Beats → Type 0 = λ schedule trail. KeepsAccesses is.lite schedule (memory_run net s n) trail (noted_by node_kind net node n) in
      let here : Keeps (schedules (memory_run net s n).inner.upper) (trail_below (chosen node_kind net node) (queues_after node_kind net) n (memory_run net s n).inner.upper) =
      keeps-by is.lite schedules n (memory_run net s n) (passed_by node_kind net node n)
      (holds-there (λ (state : NodeState). node_kind.keeps schedules n state (passed_by node_kind net node n)) n ((run-keeps net forms sound n).nodes node)) in
      subst (λ (k : ℕ). Keeps (schedules s.inner.upper) (trail_below (chosen node_kind net k) (queues_after node_kind net) n s.inner.upper)) (sym upper-link.1)
      (subst (λ (l : ℕ). Keeps (schedules l) (trail_below (chosen node_kind net node) (queues_after node_kind net) n l)) (upper-is n) here)

  -- nothing goes on below it
  pub ends-here : (link : ℕ) → lower_node net.links link ≡ node → (share : _) → (way_below node_kind net link).goes_on share ≡ None
  ends-here link below share =
      ap (λ (k : ℕ). (option_map_or (λ (a : Acted NodeState). node_kind.way a.state) (slice_get net.nodes k) (start_here [])).goes_on share) below
      ∙ ap (λ (o : Option (Acted NodeState)). (option_map_or (λ (a : Acted NodeState). node_kind.way a.state) o (start_here [])).goes_on share) is.at
      ∙ ends-by is.lite s share

  -- a link above it is its own
  pub one-upper : (link : ℕ) → link < length net.links → lower_node net.links link ≡ node → link ≡ s.inner.upper
  one-upper link known below =
      only link s.inner.upper
      (subst (λ (links : List ℕ). Contains links link) (uppers-by is.lite s)
      (subst (λ (o : Option (Acted NodeState)). Contains (option_map_or (λ (a : Acted NodeState). node_kind.uppers a.state) o []) link) is.at
      (subst (λ (k : ℕ). Contains (uppers_at node_kind net.nodes k) link) below (sound.wired.below link known))))
    where
      only : (x y : ℕ) → Contains (y ∷ []) x → x ≡ y
      only x y (zero, within, same) = sym same
      only x y (suc k, within, same) = absurd (omega (arith, within))
