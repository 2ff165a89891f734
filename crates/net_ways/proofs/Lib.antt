pub mod HopLemmas
pub mod OriginLemmas
pub mod WayLemmas
pub mod KnownLemmas
pub mod SoundLemmas
