-- A memory that does nothing for as long as its patience holds nothing back.
use Rattle.std.proofs.Common.{refl}
use Rattle.memory_node.specs.MemoryTable.{memory_service}
use Rattle.memory_node.specs.MemoryTrail.{memory_kind}
use Rattle.node_shape.specs.KindLaws.{IdleHoldsNothing}
use Rattle.subordinate.proofs.IdleLemmas.{holds-nothing, no-ar, no-aw, no-b, no-r, no-w}

pub memory-idle_holds_nothing : IdleHoldsNothing memory_kind
memory-idle_holds_nothing schedules now rounds links s passed fact keeps around deep_above deep_below idle =
    holds-nothing (memory_service s.area) (schedules s.inner.upper) links s.inner passed.uppers passed.lowers keeps.order
    (no-aw memory_kind (λ s. memory_service s.area) (λ s. s.inner) (λ round links s. refl) (λ round links s. refl) rounds links s idle)
    (no-w memory_kind (λ s. memory_service s.area) (λ s. s.inner) (λ round links s. refl) (λ round links s. refl) rounds links s idle)
    (no-b memory_kind (λ s. memory_service s.area) (λ s. s.inner) (λ round links s. refl) (λ round links s. refl) rounds links s idle)
    (no-ar memory_kind (λ s. memory_service s.area) (λ s. s.inner) (λ round links s. refl) (λ round links s. refl) rounds links s idle)
    (no-r memory_kind (λ s. memory_service s.area) (λ s. s.inner) (λ round links s. refl) (λ round links s. refl) rounds links s idle)
