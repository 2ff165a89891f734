pub mod WordCounts
pub mod LesserLemmas
pub mod BuildLemmas
pub mod FormLemmas
pub mod BurstLemmas
pub mod AcceptLemmas
pub mod KnownLemmas
pub mod ReadLemmas
mod KnownValues
pub mod LeastLemmas
pub mod PortFacts
pub mod BoundLemmas
pub mod ScriptLemmas
