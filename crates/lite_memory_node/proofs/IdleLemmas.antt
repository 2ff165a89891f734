-- A Lite memory that does nothing for as long as its patience holds nothing back.
use Rattle.std.proofs.Common.{refl}
use Rattle.memory_node.specs.MemoryTable.{memory_service}
use Rattle.lite_memory_node.specs.LiteMemoryTrail.{lite_memory_kind}
use Rattle.node_shape.specs.KindLaws.{IdleHoldsNothing}
use Rattle.subordinate.proofs.IdleLemmas.{holds-nothing, no-ar, no-aw, no-b, no-r, no-w}

pub lite_memory-idle_holds_nothing : IdleHoldsNothing lite_memory_kind
lite_memory-idle_holds_nothing schedules now rounds links s passed fact keeps around deep_above deep_below idle =
    holds-nothing (memory_service s.area) (schedules s.inner.upper) links s.inner passed.uppers passed.lowers keeps.order
    (no-aw lite_memory_kind (λ s. memory_service s.area) (λ s. s.inner) (λ round links s. refl) (λ round links s. refl) rounds links s idle)
    (no-w lite_memory_kind (λ s. memory_service s.area) (λ s. s.inner) (λ round links s. refl) (λ round links s. refl) rounds links s idle)
    (no-b lite_memory_kind (λ s. memory_service s.area) (λ s. s.inner) (λ round links s. refl) (λ round links s. refl) rounds links s idle)
    (no-ar lite_memory_kind (λ s. memory_service s.area) (λ s. s.inner) (λ round links s. refl) (λ round links s. refl) rounds links s idle)
    (no-r lite_memory_kind (λ s. memory_service s.area) (λ s. s.inner) (λ round links s. refl) (λ round links s. refl) rounds links s idle)
