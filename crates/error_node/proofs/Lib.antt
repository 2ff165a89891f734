pub mod ErrorHolds
pub mod IdleLemmas
pub mod StayLemmas
pub mod TableLemmas
pub mod TrailLemmas
pub mod WayLemmas
