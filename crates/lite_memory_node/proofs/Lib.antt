pub mod IdleLemmas
pub mod LiteMemoryHolds
pub mod TableLemmas
pub mod TrailLemmas
pub mod WayLemmas
pub mod WordLemmas
