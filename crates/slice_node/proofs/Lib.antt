pub mod IdleLemmas
pub mod LocalLemmas
pub mod SliceHolds
pub mod TableLemmas
pub mod TrailLemmas
pub mod WayLemmas
