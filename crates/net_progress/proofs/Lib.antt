pub mod BeatFacts
pub mod BoundFacts
pub mod EndLemmas
pub mod MoveLemmas
pub mod QuietFacts
pub mod StuckFacts
pub mod SumLemmas
