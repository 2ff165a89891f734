pub mod LawLemmas
pub mod LiteTraceLemmas
pub mod PortFaultLemmas
pub mod WordLemmas
