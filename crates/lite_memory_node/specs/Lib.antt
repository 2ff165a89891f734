pub mod LiteMemoryInside
pub mod LiteMemoryLaws
pub mod LiteMemoryTable
pub mod LiteMemoryTrail
pub mod WordLaws
