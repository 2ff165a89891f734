pub mod CallLemmas
pub mod PhaseLemmas
pub mod RunLemmas
pub mod PortLemmas
